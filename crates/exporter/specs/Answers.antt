-- What fits into an answer's cell.
use Rattle.std.specs.Prelude.{◌<◌, ◌^◌}
use Rattle.cells.specs.Cells.{full}
use Rattle.cells.specs.declared.Value.{Value}
use Rattle.cells.specs.declared.Value.TheVariants.{False, True, Null, Unspecified, Integer, Procedure, Pair, NoValue}
use Rattle.machines.specs.Runs.{Ran, ran}
use Rattle.machines.specs.declared.End.{End}
use Rattle.machines.specs.declared.End.TheVariants.{Halted, Wrong, OutOfBudget, Refused}

-- the fields of an answer fit into a cell; NoValue has none
unfoldable pub FieldsFit : Value → Type 0
FieldsFit False = Unit
FieldsFit True = Unit
FieldsFit Null = Unit
FieldsFit Unspecified = Unit
FieldsFit (Integer x) = x < full
FieldsFit (Procedure c) = (c.template < 2 ^ 8) × (c.env < 2 ^ 16) × (c.location < 2 ^ 16)
FieldsFit (Pair a b) = (a < 2 ^ 16) × (b < 2 ^ 16)
FieldsFit NoValue = Unit

unfoldable pub AnswerFits : End → Type 0
unfolding FieldsFit
AnswerFits (Halted v) = FieldsFit v
AnswerFits (Wrong n) = Unit
AnswerFits OutOfBudget = Unit
AnswerFits (Refused n p) = Unit

unfoldable pub RanFits : Ran → Type 0
unfolding AnswerFits
RanFits (ran r m) = AnswerFits r.end
