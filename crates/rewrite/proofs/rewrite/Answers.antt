-- `rewrite::rewrite` meets its contract. The loop's invariant: the bits of the tokens that are passed are written, and the others stand from `here` on.
-- Assumes nothing.
use native.Mathlib.Omega.{arith}
use mathlib.Core.Path.{refl, ap, ◌∙◌}
use lib.ListN.{length}
use Rattle.bit_writer.proofs.theorems.Laws.{put_length}
use Rattle.rewrite.specs.laws.Steps.{left_all, left_code, left_small, left_operands, left_next, left_none, cleared_then, cleared_still}
use Rattle.rewrite.proofs.rewrite.Goals as goal

pub loop-left-init : goal.loop-left-init
loop-left-init c =
    let p = c.requires in
    let e = c.put_field-there.ensures in
    (refl, refl, λ w. left_all _ _ _ _ w (cleared_still _ _ _ _ e.1 e.0 (omega (arith, p.s_len_bound.2))))

pub bits_at-code-requires : goal.bits_at-code-requires
bits_at-code-requires c =
    let p = c.requires in
    let v = c.loop-left.invariant in
    let l = v.2 p.tokens_at in
    let k = left_code _ _ _ _ l c.loop-left-test.true in
    (p.s_len_bound.0, (omega arith, omega (arith, k)))

pub shape_of-requires-in-loop-left : goal.shape_of-requires-in-loop-left
shape_of-requires-in-loop-left c =
    let p = c.requires in
    let v = c.loop-left.invariant in
    let l = v.2 p.tokens_at in
    let k = left_code _ _ _ _ l c.loop-left-test.true in
    left_small _ _ _ _ l c.loop-left-test.true _ 0 c.bits_at-code.ensures.0

pub put_code-there-requires : goal.put_code-there-requires
put_code-there-requires c =
    let p = c.requires in
    let v = c.loop-left.invariant in
    let l = v.2 p.tokens_at in
    let k = left_code _ _ _ _ l c.loop-left-test.true in
    let counted = c.operand_count-count.ensures.by_number _ c.shape_of.ensures in
    let m = left_operands _ _ _ _ l c.loop-left-test.true _ _ c.bits_at-code.ensures.0 counted in
    let e = c.put_field-there.ensures in
    let g = ap length e.1 ∙ put_length _ _ _ in record { s_len_bound = (p.s_len_bound.0, omega (arith, g, v.0, p.s_len_bound.1), left_small _ _ _ _ l c.loop-left-test.true _ 0 c.bits_at-code.ensures.0, m.1); count_bound = (omega (arith, k, m), omega (arith, m, v.0, v.1, g, e.0, p.s_len_bound.2)) }

pub past-here-requires : goal.past-here-requires
past-here-requires c =
    let p = c.requires in
    let v = c.loop-left.invariant in
    let l = v.2 p.tokens_at in
    let k = left_code _ _ _ _ l c.loop-left-test.true in
    let counted = c.operand_count-count.ensures.by_number _ c.shape_of.ensures in
    let m = left_operands _ _ _ _ l c.loop-left-test.true _ _ c.bits_at-code.ensures.0 counted in
    omega (arith, k, m, p.s_len_bound.0)

pub overflow_sub-left : goal.overflow_sub-left
overflow_sub-left c =
    let p = c.requires in
    let v = c.loop-left.invariant in
    let l = v.2 p.tokens_at in
    let k = left_code _ _ _ _ l c.loop-left-test.true in
    let counted = c.operand_count-count.ensures.by_number _ c.shape_of.ensures in
    let m = left_operands _ _ _ _ l c.loop-left-test.true _ _ c.bits_at-code.ensures.0 counted in
    omega (arith, k, m, p.s_len_bound.0)

pub loop-left-preserved : goal.loop-left-preserved
loop-left-preserved c =
    let p = c.requires in
    let v = c.loop-left.invariant in
    let l = v.2 p.tokens_at in
    let k = left_code _ _ _ _ l c.loop-left-test.true in
    let counted = c.operand_count-count.ensures.by_number _ c.shape_of.ensures in
    let m = left_operands _ _ _ _ l c.loop-left-test.true _ _ c.bits_at-code.ensures.0 counted in
    let e = c.put_field-there.ensures in
    let g = ap length e.1 ∙ put_length _ _ _ in
    let d = c.put_code-there.ensures in (
      ap length d.out_after ∙ put_length _ _ _ ∙ v.0,
      omega (arith, m, d.result_value, v.1),
      λ w. rw c.past-here.ensures (left_next _ _ _ _ (v.2 w) c.loop-left-test.true _ _ c.bits_at-code.ensures.0 counted _ _ (omega (arith, v.1, e.0, g, p.s_len_bound.2))
          d.out_after d.result_value),
    )

pub returns : goal.returns
returns c =
    let p = c.requires in
    let v = c.loop-left.invariant in
    let e = c.put_field-there.ensures in
    let z = c.loop-left-test.false in record { result_value = omega (arith, v.1, e.0); out_after = λ w. cleared_then _ _ _ _ e.1 e.0 (omega (arith, p.s_len_bound.2)) _ _ (left_none _ _ _ _ (v.2 w) (omega arith)) }
