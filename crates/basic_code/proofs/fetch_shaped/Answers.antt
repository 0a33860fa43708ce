-- `basic_code::fetch_shaped` meets its contract. Assumes nothing.
use native.Mathlib.Omega.{arith}
use mathlib.Core.Path.{refl, sym, ◌∙◌}
use Rattle.lists.specs.Shapes.{Numbered}
use Rattle.lists.specs.laws.ShapeLaws.{no_instruction}
use Rattle.basic_code.specs.Fetch.{SavedFits}
use Rattle.basic_code.specs.laws.FetchSteps.{return_read, none_read_lem, branch_read, no_code}
use Rattle.basic_code.proofs.fetch_shaped.Goals as goal

pub returns-then-code-eq1 : goal.returns-then-code-eq1
unfolding SavedFits Numbered
returns-then-code-eq1 c =
    let shape = rw (c.in-Plain-eq0.is, c.in-Plain-eq0.field-0-test) at c.shape_of.ensures in
    (return_read _ _ _ _ _ 1 (sym shape.0) refl c.if-code-eq1.true, tt)

pub returns-else-code-eq1 : goal.returns-else-code-eq1
unfolding SavedFits Numbered
returns-else-code-eq1 c =
    let shape = rw (c.in-Plain-eq0.is, c.in-Plain-eq0.field-0-test) at c.shape_of.ensures in
    (c.ready.ensures.0 ∙ none_read_lem _ _ _ _ _ 1 (sym shape.0) refl c.if-code-eq1.false, c.ready.ensures.1)

pub returns-in-Branch : goal.returns-in-Branch
unfolding SavedFits Numbered
returns-in-Branch c = (branch_read _ _ _ _ _ 4 (sym (rw c.in-Branch.is at c.shape_of.ensures)) refl _ c.link_at-second.ensures, tt)

pub returns-in-End : goal.returns-in-End
unfolding SavedFits
returns-in-End c =
    let other = no_instruction _ _ c.shape_of.ensures c.in-End.is in
    (no_code _ _ _ _ _ _ refl (other 1 (omega arith) (omega arith)) (other 2 (omega arith) (omega arith)) (other 3 (omega arith) (omega arith)) (other 4 (omega arith) (omega arith)) (other 5 (omega arith) (omega arith)), tt)
