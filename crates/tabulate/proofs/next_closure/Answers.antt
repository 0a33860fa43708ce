-- `tabulate::next_closure` meets its contract: code by code; the lists that are left have the same closures. Assumes nothing.
use Rattle.tabulate.specs.laws.WalkLaws.{walked_none, walked_copy, walked_entry, walked_closure, walked_end, step_as, copy_far, entry_far}
use mathlib.Core.Path.{sym, ◌∙◌}
use borrow.Author.Tests.{ltb-true, ltb-false}
use native.Mathlib.Omega.{arith}
use Rattle.tabulate.proofs.next_closure.Goals as goal

pub loop-end-init : goal.loop-end-init
loop-end-init c = λ w. walked_none w

pub loop-end-smaller-in-Copy : goal.loop-end-smaller-in-Copy
loop-end-smaller-in-Copy c =
    let k = c.loop-end.invariant c.requires.1 in
    let h = ltb-true _ _ (sym c.before-in-loop-end.ensures ∙ c.loop-end-test.true) in
    let f = copy_far _ (step_as c.in_ok-step.was c.in-Copy.is (c.step_at.ensures _ _ h k.stand)) in omega (arith, f.0, f.1)

pub loop-end-preserved-in-Copy : goal.loop-end-preserved-in-Copy
loop-end-preserved-in-Copy c =
    λ w. let k = c.loop-end.invariant w in
    let h = ltb-true _ _ (sym c.before-in-loop-end.ensures ∙ c.loop-end-test.true) in
    walked_copy k _ (step_as c.in_ok-step.was c.in-Copy.is (c.step_at.ensures _ _ h k.stand))

pub loop-end-smaller : goal.loop-end-smaller
loop-end-smaller c =
    let k = c.loop-end.invariant c.requires.1 in
    let h = ltb-true _ _ (sym c.before-in-loop-end.ensures ∙ c.loop-end-test.true) in
    let f = entry_far _ _ _ (step_as c.in_ok-step.was c.in-Entry.is (c.step_at.ensures _ _ h k.stand)) in omega (arith, f.0, f.1)

pub loop-end-preserved : goal.loop-end-preserved
loop-end-preserved c =
    λ w. let k = c.loop-end.invariant w in
    let h = ltb-true _ _ (sym c.before-in-loop-end.ensures ∙ c.loop-end-test.true) in
    walked_entry k _ _ _ (step_as c.in_ok-step.was c.in-Entry.is (c.step_at.ensures _ _ h k.stand))

pub returns-in-Closure : goal.returns-in-Closure
returns-in-Closure c =
    λ w n. let k = c.loop-end.invariant w in
    let h = ltb-true _ _ (sym c.before-in-loop-end.ensures ∙ c.loop-end-test.true) in
    walked_closure k n _ (step_as c.in_ok-step.was c.in-Closure.is (c.step_at.ensures _ _ h k.stand))

pub returns-in_err-step : goal.returns-in_err-step
returns-in_err-step c =
    λ w n. let k = c.loop-end.invariant w in
    let h = ltb-true _ _ (sym c.before-in-loop-end.ensures ∙ c.loop-end-test.true) in
    absurd (rw c.in_err-step.was at (c.step_at.ensures _ _ h k.stand))

pub returns : goal.returns
returns c = λ w n. walked_end (c.loop-end.invariant w) n (ltb-false _ _ (sym c.before-in-loop-end.ensures ∙ c.loop-end-test.false))
