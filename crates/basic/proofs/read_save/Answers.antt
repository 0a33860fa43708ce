-- `basic::read_save` meets its contract: the operand is there or cut. Assumes nothing.
use Rattle.files.specs.laws.EntriesSteps.{told_field, told_cut}
use Rattle.basic.specs.Basic.{save_t}
use Rattle.basic.specs.laws.StepLaws.{turned_on}
use Rattle.basic.specs.laws.TokenLaws.{number_cut, save_read}
use Rattle.basic.proofs.read_save.Goals as goal

pub returns-in_err-past : goal.returns-in_err-past
returns-in_err-past c = turned_on c.from_residual.ensures (number_cut _ _ save_t (told_cut _ _ 8 c.read_field.ensures c.in_err-past.was))

pub returns : goal.returns
returns c = save_read _ _ _ _ (told_field _ _ 8 c.read_field.ensures c.in_ok-past.was)
