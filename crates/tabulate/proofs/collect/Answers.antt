-- `tabulate::collect` meets its contract: code by code; the entries so far and the uses that are left come to the template's entries. Assumes nothing.
use Prim.Native.Nat.{ℕ, ◌+◌}
use Rattle.tabulate.specs.laws.CollectLaws.{closure_far, closure_many, collect_closure, collect_end}
use Rattle.tabulate.specs.laws.CollectLaws.{own_list_bound, collect_begin, collect_size, collect_copy, collect_entry, entry_many, closure_number}
use Rattle.tabulate.specs.laws.WalkLaws.{step_as, copy_far, entry_far, ok_some, ok_none, closure_read}
use Rattle.tabulate.specs.Collect.{many_entries}
use Rattle.basic.specs.laws.StepLaws.{list_was}
use borrow.Author.Tests.{ltb-true, ltb-false}
use mathlib.Core.Path.{refl, sym, ap, ◌∙◌}
use native.Mathlib.Omega.{arith}
use Rattle.tabulate.proofs.collect.Goals as goal

pub loop-end-init : goal.loop-end-init
loop-end-init c = (omega arith, λ w. collect_begin _ _ w.read)

pub since-bits-requires : goal.since-bits-requires
since-bits-requires c =
    let v = c.loop-end.invariant in
    let w = c.requires.1 in
    let k = v.1 w in
    let h = ltb-true _ _ (sym c.before-in-loop-end.ensures ∙ c.loop-end-test.true) in
    let f = copy_far _ (step_as c.in_ok-step.was c.in-Copy.is (c.step_at.ensures _ _ h k.stand)) in omega (arith, f.0)

pub overflow_add-bits : goal.overflow_add-bits
overflow_add-bits c =
    let pre = c.requires in
    let v = c.loop-end.invariant in
    let w = pre.1 in
    let k = v.1 w in
    let h = ltb-true _ _ (sym c.before-in-loop-end.ensures ∙ c.loop-end-test.true) in
    let f = copy_far _ (step_as c.in_ok-step.was c.in-Copy.is (c.step_at.ensures _ _ h k.stand)) in
    let b = own_list_bound pre.0 w in
    omega (arith, collect_size k, b.0, b.1, f.1, c.since-bits.ensures)

pub loop-end-smaller-in-Copy : goal.loop-end-smaller-in-Copy
loop-end-smaller-in-Copy c =
    let pre = c.requires in
    let v = c.loop-end.invariant in
    let w = pre.1 in
    let k = v.1 w in
    let h = ltb-true _ _ (sym c.before-in-loop-end.ensures ∙ c.loop-end-test.true) in
    let f = copy_far _ (step_as c.in_ok-step.was c.in-Copy.is (c.step_at.ensures _ _ h k.stand)) in
    omega (arith, f.0, f.1)

pub loop-end-preserved-in-Copy : goal.loop-end-preserved-in-Copy
loop-end-preserved-in-Copy c = (
  c.loop-end.invariant.0,
  λ w. let v = c.loop-end.invariant in let k = v.1 w in let h = ltb-true _ _ (sym c.before-in-loop-end.ensures ∙ c.loop-end-test.true) in collect_copy k _ _
      (step_as c.in_ok-step.was c.in-Copy.is (c.step_at.ensures _ _ h k.stand)) (ap (λ (x : ℕ). c.loop-end.bits + x) c.since-bits.ensures),
)

pub add-count-requires : goal.add-count-requires
add-count-requires c = omega (arith, c.loop-end.invariant.0)

pub returns-then-count-gt255 : goal.returns-then-count-gt255
returns-then-count-gt255 c =
    λ w. let v = c.loop-end.invariant in let k = v.1 w in let h = ltb-true _ _ (sym c.before-in-loop-end.ensures ∙ c.loop-end-test.true) in many_entries
    (entry_many k _ _ _ c.add-count.ensures (step_as c.in_ok-step.was c.in-Entry.is (c.step_at.ensures _ _ h k.stand)) c.if-count-gt255.true)

pub overflow_add-bits-in-Entry : goal.overflow_add-bits-in-Entry
overflow_add-bits-in-Entry c =
    let pre = c.requires in
    let w = pre.1 in
    let k = c.loop-end.invariant.1 w in
    let b = own_list_bound pre.0 w in
    omega (arith, collect_size k, b.0, b.1)

pub loop-end-smaller-in-Entry : goal.loop-end-smaller-in-Entry
loop-end-smaller-in-Entry c =
    let pre = c.requires in
    let v = c.loop-end.invariant in
    let w = pre.1 in
    let k = v.1 w in
    let h = ltb-true _ _ (sym c.before-in-loop-end.ensures ∙ c.loop-end-test.true) in
    let f = entry_far _ _ _ (step_as c.in_ok-step.was c.in-Entry.is (c.step_at.ensures _ _ h k.stand)) in
    omega (arith, f.0, f.1)

pub loop-end-preserved-in-Entry : goal.loop-end-preserved-in-Entry
loop-end-preserved-in-Entry c = (
  c.if-count-gt255.false,
  λ w. let v = c.loop-end.invariant in let k = v.1 w in let h = ltb-true _ _ (sym c.before-in-loop-end.ensures ∙ c.loop-end-test.true) in collect_entry k _ _ _ c.add-count.ensures _
      (step_as c.in_ok-step.was c.in-Entry.is (c.step_at.ensures _ _ h k.stand)) refl,
)

pub returns-in_err-past-in-Closure : goal.returns-in_err-past-in-Closure
returns-in_err-past-in-Closure c =
    (λ w. let k = c.loop-end.invariant.1 w in let h = ltb-true _ _ (sym c.before-in-loop-end.ensures ∙ c.loop-end-test.true) in closure_read _ _
    (step_as c.in_ok-step.was c.in-Closure.is (c.step_at.ensures _ _ h k.stand)) (ok_none c.ok.ensures.value c.in_err-past-in-Closure.was).1 c.read_list.ensures)

pub overflow_add-next : goal.overflow_add-next
overflow_add-next c =
    let pre = c.requires in
    let v = c.loop-end.invariant in
    let w = pre.1 in
    let k = v.1 w in
    let h = ltb-true _ _ (sym c.before-in-loop-end.ensures ∙ c.loop-end-test.true) in
    let st = step_as c.in_ok-step.was c.in-Closure.is (c.step_at.ensures _ _ h k.stand) in
    let told = list_was _ _ _ c.read_list.ensures (ok_some c.ok.ensures.value c.in_ok-past-in-Closure.was) in
    let m = closure_number k _ _ _ w.few st told in
    omega (arith, m)

pub add-count-requires-in-Closure : goal.add-count-requires-in-Closure
add-count-requires-in-Closure c = omega (arith, c.loop-end.invariant.0)

pub returns-then-count-gt255-2 : goal.returns-then-count-gt255-2
returns-then-count-gt255-2 c =
    λ w. let v = c.loop-end.invariant in let k = v.1 w in let h = ltb-true _ _ (sym c.before-in-loop-end.ensures ∙ c.loop-end-test.true) in let st = step_as c.in_ok-step.was c.in-Closure.is
    (c.step_at.ensures _ _ h k.stand) in let told = list_was _ _ _ c.read_list.ensures (ok_some c.ok.ensures.value c.in_ok-past-in-Closure.was) in many_entries
    (closure_many k _ _ _ w.few st told _ refl c.add-count-in-Closure.ensures c.if-count-gt255-2.true)

pub overflow_add-bits-in-Closure : goal.overflow_add-bits-in-Closure
overflow_add-bits-in-Closure c =
    let pre = c.requires in
    let w = pre.1 in
    let k = c.loop-end.invariant.1 w in
    let b = own_list_bound pre.0 w in
    omega (arith, collect_size k, b.0, b.1)

pub overflow_add-next-in-Closure : goal.overflow_add-next-in-Closure
overflow_add-next-in-Closure c =
    let pre = c.requires in
    let v = c.loop-end.invariant in
    let w = pre.1 in
    let k = v.1 w in
    let h = ltb-true _ _ (sym c.before-in-loop-end.ensures ∙ c.loop-end-test.true) in
    let st = step_as c.in_ok-step.was c.in-Closure.is (c.step_at.ensures _ _ h k.stand) in
    let told = list_was _ _ _ c.read_list.ensures (ok_some c.ok.ensures.value c.in_ok-past-in-Closure.was) in
    let m = closure_number k _ _ _ w.few st told in
    omega (arith, m)

pub overflow_add-next-in-Closure-2 : goal.overflow_add-next-in-Closure-2
overflow_add-next-in-Closure-2 c =
    let pre = c.requires in
    let v = c.loop-end.invariant in
    let w = pre.1 in
    let k = v.1 w in
    let h = ltb-true _ _ (sym c.before-in-loop-end.ensures ∙ c.loop-end-test.true) in
    let st = step_as c.in_ok-step.was c.in-Closure.is (c.step_at.ensures _ _ h k.stand) in
    let told = list_was _ _ _ c.read_list.ensures (ok_some c.ok.ensures.value c.in_ok-past-in-Closure.was) in
    let m = closure_number k _ _ _ w.few st told in
    let f = closure_far k _ _ _ w.few st told in
    omega (arith, m, f.2)

pub loop-end-smaller : goal.loop-end-smaller
loop-end-smaller c =
    let pre = c.requires in
    let v = c.loop-end.invariant in
    let w = pre.1 in
    let k = v.1 w in
    let h = ltb-true _ _ (sym c.before-in-loop-end.ensures ∙ c.loop-end-test.true) in
    let st = step_as c.in_ok-step.was c.in-Closure.is (c.step_at.ensures _ _ h k.stand) in
    let told = list_was _ _ _ c.read_list.ensures (ok_some c.ok.ensures.value c.in_ok-past-in-Closure.was) in
    let f = closure_far k _ _ _ w.few st told in
    omega (arith, f.0, f.1)

pub loop-end-preserved : goal.loop-end-preserved
loop-end-preserved c = (
  c.if-count-gt255-2.false,
  λ w. let v = c.loop-end.invariant in let k = v.1 w in let h = ltb-true _ _ (sym c.before-in-loop-end.ensures ∙ c.loop-end-test.true) in let st = step_as c.in_ok-step.was c.in-Closure.is
      (c.step_at.ensures _ _ h k.stand) in let told = list_was _ _ _ c.read_list.ensures (ok_some c.ok.ensures.value c.in_ok-past-in-Closure.was) in collect_closure k _ _ _ w.few st
      told _ refl c.add-count-in-Closure.ensures _ _ refl refl,
)

pub returns-in_err-step : goal.returns-in_err-step
returns-in_err-step c =
    (λ w. let k = c.loop-end.invariant.1 w in
    let h = ltb-true _ _ (sym c.before-in-loop-end.ensures ∙ c.loop-end-test.true) in
    absurd (rw c.in_err-step.was at (c.step_at.ensures _ _ h k.stand)))

pub returns : goal.returns
returns c = (λ w. collect_end (c.loop-end.invariant.1 w) (ltb-false _ _ (sym c.before-in-loop-end.ensures ∙ c.loop-end-test.false)) c.loop-end.invariant.0)
