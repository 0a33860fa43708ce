-- `lines::put_accepted` meets its contract: three lines, one after the other. Assumes nothing.
use native.Mathlib.Omega.{arith}
use Rattle.lines.specs.Lines.{accepted_lines}
use Rattle.text.specs.laws.Laws.{put_then}
use Rattle.lines.proofs.put_accepted.Goals as goal

pub returns : goal.returns
unfolding accepted_lines
returns c =
    record {
      put = rw (← c.tabular_run-tabular.ensures, ← c.flat_run-flat.ensures)
          (put_then (put_then c.put_linear-second.ensures.put c.put_machine-third.ensures.put) c.put_machine.ensures.put);
      upper_bound = omega arith;
    }
