-- `trim::mark_reached` meets its contract. The loop's invariant: the set and the marks after the templates below `own`. Assumes nothing.
use native.Mathlib.Omega.{arith}
use mathlib.Core.Path.{sym, ap, ◌∙◌}
use lib.ListN.{length}
use Rattle.trim.specs.laws.ReachedLaws.{reaching_none, reaching_first, reaching_on, marked_length}
use Rattle.trim.proofs.mark_reached.Goals as goal

pub loop-own-init : goal.loop-own-init
loop-own-init c = λ w. reaching_none w _ c.requires.2

pub loop-own-preserved : goal.loop-own-preserved
loop-own-preserved c =
    let v = c.loop-own.invariant in
    let l = c.loop-own-test.true in
    let e = c.reach_from-reach.ensures in
    let k = sym (ap length e.marks_after ∙ marked_length _ _ _) ∙ c.reach_from-reach.array_long in
    λ w. let r = v w in let m = rw w.count_is at l in reaching_on r m k _ _ (e.reach_after _ (reaching_first r m k)) e.marks_after

pub returns : goal.returns
returns c = λ w. record { each = λ t h. (c.loop-own.invariant w).below t (omega (arith, c.loop-own-test.false)) }
