-- `rewrite::put_code` meets its contract: a code and none, one or two operand bytes, one after the other. Assumes nothing.
use native.Mathlib.Omega.{arith}
use Rattle.rewrite.specs.laws.Steps.{put_none, put_one, put_two}
use Rattle.rewrite.proofs.put_code.Goals as goal

pub returns-then-count-eq0 : goal.returns-then-count-eq0
returns-then-count-eq0 c =
    let e = c.put_field-second.ensures in
    let z = c.if-count-eq0.true in
    record { result_value = omega (arith, e.0); out_after = put_none _ _ _ _ _ _ _ _ e.1 e.0 _ z }

pub returns-then-count-eq1 : goal.returns-then-count-eq1
returns-then-count-eq1 c =
    let p = c.requires in
    let e = c.put_field-second.ensures in
    let g = c.put_field-third.ensures in
    let x = c.new_operand.ensures.0 in
    let z = c.if-count-eq1.true in
    record { result_value = omega (arith, e.0, g.0); out_after = put_one _ _ _ _ _ _ _ _ e.1 e.0 _ _ g.1 (rw (c.bits_at-first.ensures.0, c.past.ensures) at x) _ z (omega (arith, p.count_bound.1)) }

pub returns : goal.returns
returns c =
    let p = c.requires in
    let e = c.put_field-second.ensures in
    let g = c.put_field-third.ensures in
    let k = c.put_field.ensures in
    let x = c.new_operand.ensures.0 in
    let n = c.if-count-eq0.false in
    let m = c.if-count-eq1.false in record {
      result_value = omega (arith, e.0, g.0, k.0, p.s_len_bound.3);
      out_after = put_two _ _ _ _ _ _ _ _ e.1 e.0 _ _ g.1 (rw (c.bits_at-first.ensures.0, c.past.ensures) at x) _ _ _ k.1 g.0
          (rw c.past-2.ensures at c.bits_at.ensures.0) _ (omega (arith, p.s_len_bound.3)) (omega (arith, p.count_bound.1, p.s_len_bound.3));
    }
