-- `integers::sum_up` meets its contract. Assumes nothing.
use Rattle.std.specs.Prelude.{◌<◌}
use Rattle.std.proofs.Common.{sym, ◌∙◌, arith}
use Rattle.integers.proofs.Adding.{sum_start, sum_on, sum_other, sum_done, sum_is, sum_near, sum_fits}
use Rattle.integers.proofs.sum_up.Goals as goal

pub loop-i-init : goal.loop-i-init
loop-i-init c = (record { bound = omega arith }, sum_start _)

pub returns-then-tag_of-ne6 : goal.returns-then-tag_of-ne6
returns-then-tag_of-ne6 c =
    sym (sum_other _ _ _ _ c.loop-i-test.true c.requires.within (λ k. c.if-tag_of-ne6.true (c.tag_of.ensures ∙ k))) ∙ c.loop-i.invariant.1

pub overflow_add-total : goal.overflow_add-total
overflow_add-total c = sum_fits c.loop-i.invariant.0 (omega arith) _ _ (c.signed_value-total.ensures.value, c.signed_value-total.ensures.near)

pub loop-i-preserved : goal.loop-i-preserved
loop-i-preserved c =
    let few : c.loop-i.i < 256 = omega arith in (
      sum_near c.loop-i.invariant.0 few _ _ (c.signed_value-total.ensures.value, c.signed_value-total.ensures.near),
      rw (sum_is c.loop-i.invariant.0 few _ _ (c.signed_value-total.ensures.value, c.signed_value-total.ensures.near), c.int_of.ensures)
          (sym (sum_on _ _ _ _ c.loop-i-test.true c.requires.within (sym c.tag_of.ensures ∙ c.if-tag_of-ne6.false)) ∙ c.loop-i.invariant.1),
    )

pub returns : goal.returns
returns c = rw (c.in_range.ensures, ← c.loop-i.invariant.1, sum_done _ _ _ _ (omega arith) c.loop-i-test.false)
