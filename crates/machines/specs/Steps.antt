-- A run told as it is reported, step by step.
use Rattle.std.specs.Prelude.{ℕ}
use Rattle.owners.specs.declared.Owner.{Owner}
use Rattle.machines.specs.Machine.{Program, State, Counts, run}
use Rattle.machines.specs.Runs.{Ran, reported}

-- n steps done, and nothing else counted
abbrev pub done : ℕ → Counts
done n = record { steps = n; jumps = 0; firsts = 0 }

-- at most b more steps, with n done
unfoldable pub ran_from : Owner → Program → ℕ → ℕ → State → Ran
ran_from o P b n s = reported (run o P b (done n) s)
