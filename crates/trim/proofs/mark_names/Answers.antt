-- `trim::mark_names` meets its contract. The loop's invariant: what is left of the codes marks the rest. Assumes nothing.
use native.Mathlib.Omega.{arith}
use Rattle.trim.proofs.theorems.MarkLaws.{marking_all, marking_none, marking_code, marking_small, marking_operands, marking_index, marking_on}
use Rattle.trim.proofs.mark_names.Goals as goal

pub loop-left-init : goal.loop-left-init
loop-left-init c = λ w. marking_all w _

pub bits_at-code-requires : goal.bits_at-code-requires
bits_at-code-requires c =
    let p = c.requires in
    let v = c.loop-left.invariant in
    let l = v p.1 in
    let t = c.loop-left-test.true in
    let k = marking_code l t in (p.0, (omega arith, omega (arith, k)))

pub shape_of-requires-in-loop-left : goal.shape_of-requires-in-loop-left
shape_of-requires-in-loop-left c =
    let p = c.requires in
    let v = c.loop-left.invariant in
    let l = v p.1 in
    let t = c.loop-left-test.true in
    let k = marking_code l t in marking_small l t _ 0 c.bits_at-code.ensures.0

pub mark_code-requires : goal.mark_code-requires
mark_code-requires c =
    let p = c.requires in
    let v = c.loop-left.invariant in
    let l = v p.1 in
    let t = c.loop-left-test.true in
    let k = marking_code l t in
    let counted = c.operand_count-count.ensures.by_number _ c.shape_of.ensures in
    let m = marking_operands l t _ _ c.bits_at-code.ensures.0 counted in
    (p.0, marking_index l t _ _ c.bits_at-code.ensures.0 counted)

pub overflow_mul-count : goal.overflow_mul-count
overflow_mul-count c =
    let p = c.requires in
    let v = c.loop-left.invariant in
    let l = v p.1 in
    let t = c.loop-left-test.true in
    let k = marking_code l t in
    let counted = c.operand_count-count.ensures.by_number _ c.shape_of.ensures in
    let m = marking_operands l t _ _ c.bits_at-code.ensures.0 counted in omega (arith, k, m, p.0)

pub overflow_add-count : goal.overflow_add-count
overflow_add-count c =
    let p = c.requires in
    let v = c.loop-left.invariant in
    let l = v p.1 in
    let t = c.loop-left-test.true in
    let k = marking_code l t in
    let counted = c.operand_count-count.ensures.by_number _ c.shape_of.ensures in
    let m = marking_operands l t _ _ c.bits_at-code.ensures.0 counted in omega (arith, k, m, p.0)

pub past-here-requires : goal.past-here-requires
past-here-requires c =
    let p = c.requires in
    let v = c.loop-left.invariant in
    let l = v p.1 in
    let t = c.loop-left-test.true in
    let k = marking_code l t in
    let counted = c.operand_count-count.ensures.by_number _ c.shape_of.ensures in
    let m = marking_operands l t _ _ c.bits_at-code.ensures.0 counted in omega (arith, k, m, p.0)

pub overflow_sub-left : goal.overflow_sub-left
overflow_sub-left c =
    let p = c.requires in
    let v = c.loop-left.invariant in
    let l = v p.1 in
    let t = c.loop-left-test.true in
    let k = marking_code l t in
    let counted = c.operand_count-count.ensures.by_number _ c.shape_of.ensures in
    let m = marking_operands l t _ _ c.bits_at-code.ensures.0 counted in
    omega (arith, k, m, p.0)

pub loop-left-preserved : goal.loop-left-preserved
loop-left-preserved c =
    let p = c.requires in
    let v = c.loop-left.invariant in
    let l = v p.1 in
    let t = c.loop-left-test.true in
    let k = marking_code l t in
    let counted = c.operand_count-count.ensures.by_number _ c.shape_of.ensures in
    let m = marking_operands l t _ _ c.bits_at-code.ensures.0 counted in
    let e = c.mark_code.ensures in
    λ w. rw c.past-here.ensures (marking_on (v w) t _ _ c.bits_at-code.ensures.0 counted _ e)

pub returns : goal.returns
returns c = λ w. marking_none (c.loop-left.invariant w) (omega (arith, c.loop-left-test.false))
