-- `unflatten::ends_in_jump` meets its contract: the loop is at an instruction's start, or past the end. Assumes nothing.
use Rattle.unflatten.specs.laws.HeadLaws.{after_low}
use Rattle.unflatten.specs.laws.Regions.{scan_begun, scan_on, scan_end}
use native.Mathlib.Omega.{arith}
use mathlib.Core.Path.{refl, sym}
use Rattle.unflatten.proofs.ends_in_jump.Goals as goal

pub loop-p-init : goal.loop-p-init
loop-p-init c = let h = c.requires in (scan_begun _ _ _ (λ z. absurd (omega arith)), omega arith)

pub overflow_add-p-in-loop-p : goal.overflow_add-p-in-loop-p
overflow_add-p-in-loop-p c = omega (arith, after_low _ _ c.after.ensures)

pub loop-p-preserved : goal.loop-p-preserved
loop-p-preserved c =
    let h = c.requires in
    let i = c.loop-p.invariant in
    (scan_on _ _ _ _ _ _ _ h.2 c.loop-p-test.true refl c.after.ensures i.0, omega (arith, after_low _ _ c.after.ensures))

pub returns-then-to-p : goal.returns-then-to-p
returns-then-to-p c = sym (c.loop-p.invariant.0.outside c.if-to-p.true)

pub returns : goal.returns
returns c = sym (scan_end _ _ _ _ _ c.loop-p-test.false c.if-to-p.false c.loop-p.invariant.0)
