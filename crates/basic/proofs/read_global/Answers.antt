-- `basic::read_global` meets its contract: the number is there or cut. Assumes nothing.
use Rattle.files.specs.laws.EntriesSteps.{told_field, told_cut}
use Rattle.basic.specs.laws.StepLaws.{turned_on}
use Rattle.basic.specs.laws.TokenLaws.{global_cut, global_read}
use Rattle.basic.proofs.read_global.Goals as goal

pub returns-in_err-g : goal.returns-in_err-g
returns-in_err-g c = turned_on c.from_residual.ensures (global_cut _ _ _ (told_cut _ _ 8 c.read_field.ensures c.in_err-g.was))

pub returns : goal.returns
returns c = global_read _ _ _ _ _ (told_field _ _ 8 c.read_field.ensures c.in_ok-g.was)
