-- `tree_steps::take_step` meets its contract. Assumes nothing.
use mathlib.Core.Path.{refl, sym, ◌∙◌}
use native.Mathlib.Omega.{arith}
use borrow.Author.Tests.{eqb-true, eqb-false, leb-true, leb-false}
use Rattle.fields.specs.laws.Laws.{cut, lies}
use Rattle.machines.specs.Instruction.{fetched_as}
use Rattle.tree_code.specs.Fetch.{linked_program}
use Rattle.tree_code.specs.laws.FetchSteps.{nowhere_fetched, cut_fetched, code_fetched, end_fetched, end_followed}
use Rattle.tree_code.specs.laws.LineLaws.{line_read}
use Rattle.steps.proofs.StepLaws.{tree_number, stays, bad_stops}
use Rattle.tree_steps.proofs.StepLaws.{short, steps_as, same_memory}
use Rattle.tree_steps.proofs.take_step.Goals as goal

pub returns-then-is_first : goal.returns-then-is_first
unfolding fetched_as
returns-then-is_first c =
    let at = c.bit_place-at.ensures in
    let P = linked_program c.args.file.now c.args.links.now c.args.table.now in
    let first = nowhere_fetched _ _ c.args.table.now c.args.c.template _ (eqb-true _ 0 (sym c.is_first.ensures ∙ c.if-is_first.true)) in
    steps_as c.args.owner P c.args.r c.args.c _ _ _ _ (tree_number _ _ at) first refl
    (stays _ _ c.requires.0 (c.act_return.ensures c.args.owner P c.args.globals.now c.args.store.now))

pub within-requires : goal.within-requires
within-requires c =
    let pre = c.requires in
    let few = short _ _ _ _ pre.0 pre.1 in
    omega (arith, few)

pub line_at-line-requires : goal.line_at-line-requires
line_at-line-requires c =
    let pre = c.requires in
    let fits = lies c.args.file.now c.loop-owner.here.0 5 c.within.ensures c.loop-owner-test.true in
    let few = short _ _ _ _ pre.0 pre.1 in
    (omega (arith, few), omega (arith, fits))

pub take_line-requires : goal.take_line-requires
take_line-requires c =
    let pre = c.requires in
    let line = c.line_at-line.ensures in
    record {
      in_tree = pre.0;
      ready = pre.1;
      code_whole = leb-true _ _ (sym c.within.ensures ∙ c.loop-owner-test.true);
      line_is = line.0;
      line_low = line.1;
    }

pub returns-then-line-ge65536 : goal.returns-then-line-ge65536
returns-then-line-ge65536 c =
    let at = c.bit_place-at.ensures in
    let away = eqb-false _ 0 (sym c.is_first.ensures ∙ c.if-is_first.false) in
    let i = c.loop-owner.invariant in
    let fits = leb-true _ _ (sym c.within.ensures ∙ c.loop-owner-test.true) in
    let line = c.line_at-line.ensures.0 in
    let more = c.if-line-ge65536.true in
    let P = linked_program c.args.file.now c.args.links.now c.args.table.now in
    let there = code_fetched _ _ _ _ _ i.0 c.args.table.now c.args.c.template away _ _ (line_read _ _ _ line fits) (λ z. omega (arith, more)) in
    steps_as c.args.owner P c.args.r c.args.c _ _ _ _ (tree_number _ _ at) there (same_memory i.2 i.3 i.4 i.5) c.take_line.ensures

pub returns-then-left-eq0 : goal.returns-then-left-eq0
unfolding fetched_as
returns-then-left-eq0 c =
    let at = c.bit_place-at.ensures in
    let away = eqb-false _ 0 (sym c.is_first.ensures ∙ c.if-is_first.false) in
    let i = c.loop-owner.invariant in
    let fits = leb-true _ _ (sym c.within.ensures ∙ c.loop-owner-test.true) in
    let line = c.line_at-line.ensures.0 in
    let less = c.if-line-ge65536.false in
    let P = linked_program c.args.file.now c.args.links.now c.args.table.now in
    let there = end_fetched _ _ _ _ _ i.0 c.args.table.now c.args.c.template away _ _ (line_read _ _ _ line fits) (omega (arith, less)) c.if-left-eq0.true in
    steps_as c.args.owner P c.args.r c.args.c _ _ _ _ (tree_number _ _ at) there (same_memory i.2 i.3 i.4 i.5) (bad_stops _ c.args.owner P _ c.args.r c.args.c)

pub loop-owner-preserved : goal.loop-owner-preserved
loop-owner-preserved c =
    let i = c.loop-owner.invariant in
    let fits = leb-true _ _ (sym c.within.ensures ∙ c.loop-owner-test.true) in
    let line = c.line_at-line.ensures.0 in
    let less = c.if-line-ge65536.false in (
      end_followed _ _ _ _ _ i.0 _ _ (line_read _ _ _ line fits) (omega (arith, less)) c.if-left-eq0.false _ c.link_at-here.ensures,
      omega arith,
      i.2,
      i.3,
      i.4,
      i.5,
    )

pub returns : goal.returns
unfolding fetched_as
returns c =
    let at = c.bit_place-at.ensures in
    let away = eqb-false _ 0 (sym c.is_first.ensures ∙ c.if-is_first.false) in
    let i = c.loop-owner.invariant in
    let gone = leb-false _ _ (sym c.within.ensures ∙ c.loop-owner-test.false) in
    let P = linked_program c.args.file.now c.args.links.now c.args.table.now in
    let there = cut_fetched _ _ _ _ _ i.0 c.args.table.now c.args.c.template away (sym (cut _ _ 5 gone)) in
    steps_as c.args.owner P c.args.r c.args.c _ _ _ _ (tree_number _ _ at) there (same_memory i.2 i.3 i.4 i.5) (bad_stops _ c.args.owner P _ c.args.r c.args.c)
