-- `tree::lowest_missing` meets its contract. The invariant: what is found from here on is what is found from 1 on. Assumes nothing.
use native.Mathlib.Omega.{arith}
use mathlib.Core.Path.{refl, sym, ◌∙◌}
use Rattle.tree.specs.laws.Judged.{missing_here, missing_on, missing_none}
use Rattle.tree.proofs.lowest_missing.Goals as goal

pub loop-own-init : goal.loop-own-init
loop-own-init c = (omega arith, refl)

pub returns-then-rest-ne1 : goal.returns-then-rest-ne1
returns-then-rest-ne1 c = sym (c.loop-own.invariant.1 ∙ missing_here _ _ _ c.loop-own-test.true c.if-rest-ne1.true)

pub loop-own-preserved : goal.loop-own-preserved
loop-own-preserved c = (omega arith, c.loop-own.invariant.1 ∙ missing_on _ _ _ c.loop-own-test.true c.if-rest-ne1.false)

pub returns : goal.returns
returns c = sym (c.loop-own.invariant.1 ∙ missing_none _ _ _ c.loop-own-test.false)
