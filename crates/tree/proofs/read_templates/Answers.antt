-- `tree::read_templates` meets its contract. Assumes nothing.
use Rattle.tree.specs.Summary.{summary_after, begun}
use native.Mathlib.Nat.{sub-zero}
use native.Mathlib.Omega.{arith}
use mathlib.Core.Path.{refl, sym, ◌∙◌}
use Rattle.tree.specs.Summary.{summary_after}
use Rattle.tree.specs.laws.TemplateSteps.{templates_none, templates_stop, templates_on, next_unfilled, next_small, this, told_all}
use Rattle.tree.specs.laws.MarkedSteps.{also_by, templates_unmarked, marking_begun, marking_more, marking_done}
use borrow.Author.Rules.{rules}
use Rattle.files.specs.laws.RefusalLaws.{handed_on}
use Rattle.tree.proofs.read_templates.Goals as goal

pub loop-own-init : goal.loop-own-init
unfolding begun
loop-own-init c =
    let k = c.requires in
    (search rules, k.1.1, search rules, rw sub-zero (told_all _ _ _ k.1.0), rw sub-zero refl, marking_begun _ _ _ _ _, refl, refl)

pub read_template-requires : goal.read_template-requires
read_template-requires c =
    let k = c.requires in
    let i = c.loop-own.invariant in
    (k.0, (omega arith, (k.1.0, i.1)))

pub summary_after-sum-requires : goal.summary_after-sum-requires
summary_after-sum-requires c =
    let k = c.requires in
    let i = c.loop-own.invariant in
    let small = next_small _ _ _ _ _ k.1.0 (c.read_template.ensures.value, c.read_template.ensures.table_after) c.in_ok-past.was k.0 in
    (small, omega arith)

pub returns-in_err-past : goal.returns-in_err-past
returns-in_err-past c =
    let i = c.loop-own.invariant in
    let d = templates_stop _ _ _ _ _ _ c.loop-own-test.true (c.read_template.ensures.value, c.read_template.ensures.table_after) c.in_err-past.was in
    let all = also_by (d.0 ∙ sym i.3, d.1 ∙ sym i.4) (templates_unmarked _ _ _ _) in
    record { value = handed_on c.from_residual.ensures ∙ all.0; table_after = all.1.0; templates_marked = all.1.1 }

pub loop-own-preserved : goal.loop-own-preserved
unfolding summary_after
loop-own-preserved c =
    let k = c.requires in
    let i = c.loop-own.invariant in
    let less = c.loop-own-test.true in
    let d = templates_on _ _ _ _ _ _ less (c.read_template.ensures.value, c.read_template.ensures.table_after) k.1.0 c.in_ok-past.was c.summary_after-sum.ensures in
    let small = next_small _ _ _ _ _ k.1.0 (c.read_template.ensures.value, c.read_template.ensures.table_after) c.in_ok-past.was k.0 in (
      search rules,
      next_unfilled _ _ _ _ _ k.1.0 (c.read_template.ensures.value, c.read_template.ensures.table_after) c.in_ok-past.was less i.1,
      rw c.summary_after-sum.ensures (omega arith),
      i.3 ∙ d.0,
      i.4 ∙ d.1,
      marking_more _ _ _ _ _ i.5 _ less (this _ _ _ _ _ k.1.0 (c.read_template.ensures.value, c.read_template.ensures.table_after) c.in_ok-past.was).is
          c.read_template.ensures.template_marked,
      c.read_template.auto.marks ∙ i.6,
      c.read_template.auto.table ∙ i.7,
    )

pub returns : goal.returns
returns c =
    let i = c.loop-own.invariant in
    let d = templates_none _ _ _ _ _ _ c.loop-own-test.false in
    record { value = d.0 ∙ sym i.3; table_after = d.1 ∙ sym i.4; templates_marked = marking_done _ _ _ _ _ i.5 c.loop-own-test.false }
