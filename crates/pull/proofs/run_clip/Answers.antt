-- `pull::run_clip` meets its contract: the machine's contract; what the slices held is not seen. Assumes nothing.
use native.Mathlib.Omega.{arith}
use Rattle.linear_machine.specs.laws.Again.{may_run}
use Rattle.pull.proofs.Clips.{run_found}
use Rattle.pull.specs.Pull.{found_of}
use Rattle.pull.proofs.run_clip.Goals as goal

pub run_again-run-requires : goal.run_again-run-requires
run_again-run-requires c =
    let p = c.requires in record {
      table_of = p.1;
      frames_value = may_run _ 0 _ _ _ _ c.set_globals.array_long c.told-stack c.told-store c.told-frames p.2 (omega arith)
          c.set_globals.ensures.all_fit;
    }

pub returns : goal.returns
unfolding found_of
returns c =
    run_found _ _ _ _ _ _ _ _ c.set_globals.ensures.globals_after c.told-stack c.told-store c.told-frames c.run_again-run.ensures
