-- `lines::put_lines` meets its contract: by the sheet's length. Assumes nothing.
use borrow.Author.Tests.{le-leb, lt-leb}
use native.Mathlib.Omega.{arith}
use Rattle.lines.specs.Lines.{program_lines}
use Rattle.lines.proofs.put_lines.Goals as goal

pub returns-then-sheet-le4096 : goal.returns-then-sheet-le4096
unfolding program_lines
returns-then-sheet-le4096 c = record { put = rw (le-leb _ _ c.if-sheet-le4096.true) c.put_sheet.ensures.put; upper_bound = omega arith }

pub returns-else-sheet-le4096 : goal.returns-else-sheet-le4096
unfolding program_lines
returns-else-sheet-le4096 c = record { put = rw (lt-leb _ _ c.if-sheet-le4096.false) c.put_numbers.ensures.put; upper_bound = omega arith }
