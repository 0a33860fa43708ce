-- What is refused before a run looks at its file, and what is known where nothing is.
use Rattle.std.specs.Prelude.{ℕ, ◌≤◌, ◌≡◌, cond, List, leb, length, replicate, Result, Ok, Err}
use Rattle.std.specs.Result.{result_and}
use Rattle.std.proofs.Math.Option.{Option, none, some}
use Rattle.cells.specs.Numbers.{wrong_length, large_budget, unknown_owner, unfit_global}
use Rattle.owners.specs.Owners.{is_owner, owner_of}
use Rattle.owners.specs.declared.Owner.{Owner}
use Rattle.machines.specs.Runs.{Memory, right_lengths, lowest_unfit}
use Rattle.machines.specs.declared.Run.{Run}
use Rattle.machines.specs.declared.End.TheVariants.{Refused as EndRefused}
use Rattle.files.specs.declared.Refusal.{Refusal}
use Rattle.files.specs.Refusal.{refusal as why}

-- n cells that are not in use
unfoldable pub zeros : ℕ → List ℕ
zeros n = replicate n 0

-- what a refused run returns
abbrev pub refusal : ℕ → ℕ → Run
refusal n p = record { end = EndRefused n p; steps = 0; stack = 0; store = 0; frames = 0 }

-- 22 with the lowest global that is not one to start with, if there is one
unfoldable pub globals_refusal : Option ℕ → Result (Unit {0}) (Refusal ℕ)
globals_refusal (some g) = Err (why unfit_global g)
globals_refusal none = Ok tt

-- 20, 21, 31, 22, or the owner of the number o
unfoldable pub start_refusal : ℕ → ℕ → ℕ → Memory → Result Owner (Refusal ℕ)
unfolding right_lengths is_owner lowest_unfit globals_refusal
start_refusal most b o m =
    cond (right_lengths m)
    (cond (leb b most)
    (cond (is_owner o) (result_and (globals_refusal (lowest_unfit 0 m.globals)) (Ok (owner_of o))) (Err (why unknown_owner 0)))
    (Err (why large_budget 0)))
    (Err (why wrong_length 0))

-- ---- what is known where nothing is refused
pub record MayStart (most b : ℕ) (m : Memory) : Type 0 where
  pub globals_long : length m.globals ≡ 256
  pub stack_long : length m.stack ≡ 256
  pub store_long : length m.store ≡ 2048
  pub frames_long : length m.frames ≡ 2048
  pub budget_fits : b ≤ most
