-- `linear::read_templates` meets its contract. The templates that are left, from here, are read and fill the table as the whole does from the start. Assumes nothing.
use mathlib.Core.Path.{sym, ◌∙◌}
use borrow.Author.Rules.{rules}
use Rattle.files.specs.laws.RefusalLaws.{handed_on}
use Rattle.linear.specs.laws.LinearSteps.{linears_none, linears_stop, linears_on}
use Rattle.linear.proofs.read_templates.Goals as goal

pub returns-in_err-here : goal.returns-in_err-here
returns-in_err-here c =
    let i = c.loop-own.invariant in
    let d = linears_stop _ _ _ _ _ c.loop-own-test.true (c.read_template.ensures.value, c.read_template.ensures.table_after) c.in_err-here.was in
    record { value = handed_on c.from_residual.ensures ∙ d.0 ∙ sym i.1; table_after = d.1 ∙ sym i.2 }

pub loop-own-preserved : goal.loop-own-preserved
loop-own-preserved c =
    let i = c.loop-own.invariant in
    let d = linears_on _ _ _ _ _ c.loop-own-test.true (c.read_template.ensures.value, c.read_template.ensures.table_after) c.in_ok-here.was in
    (search rules, i.1 ∙ d.0, i.2 ∙ d.1)

pub returns : goal.returns
returns c =
    let i = c.loop-own.invariant in
    let d = linears_none _ _ _ _ _ c.loop-own-test.false in
    record { value = d.0 ∙ sym i.1; table_after = d.1 ∙ sym i.2 }
