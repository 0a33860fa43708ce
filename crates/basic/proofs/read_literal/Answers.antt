-- `basic::read_literal` meets its contract: kind, tag, value. Assumes nothing.
use Rattle.files.specs.laws.EntriesSteps.{told_field, told_cut, told_within}
use Rattle.basic.specs.laws.StepLaws.{turned_on}
use Rattle.basic.specs.laws.TokenLaws.{kind_cut, kind_bad, tag_cut, tag_read}
use Rattle.basic.proofs.read_literal.Goals as goal

pub returns-in_err-kind : goal.returns-in_err-kind
returns-in_err-kind c = turned_on c.from_residual.ensures (kind_cut _ _ (told_cut _ _ 2 c.read_field.ensures c.in_err-kind.was))

pub returns-then-kind-ne1 : goal.returns-then-kind-ne1
returns-then-kind-ne1 c = kind_bad _ _ _ _ (told_field _ _ 2 c.read_field.ensures c.in_ok-kind.was) c.if-kind-ne1.true

pub returns-in_err-t : goal.returns-in_err-t
returns-in_err-t c =
    turned_on c.from_residual-in_err-t.ensures
    (tag_cut _ _ _ _ (told_field _ _ 2 c.read_field.ensures c.in_ok-kind.was) c.if-kind-ne1.false
    (told_cut _ _ 3 c.read_field-2.ensures c.in_err-t.was))

pub read_constant-requires : goal.read_constant-requires
read_constant-requires c =
    let pre = c.requires in
    (pre, told_within _ _ 3 c.read_field-2.ensures c.in_ok-t.was)

pub returns : goal.returns
returns c =
    tag_read _ _ _ _ (told_field _ _ 2 c.read_field.ensures c.in_ok-kind.was) c.if-kind-ne1.false _ _
    (told_field _ _ 3 c.read_field-2.ensures c.in_ok-t.was) c.read_constant.ensures
