-- `trim::put_lines` meets its contract. The loop's invariant: the lines from entry n on are left. Assumes nothing.
use native.Mathlib.Omega.{arith}
use mathlib.Core.Path.{refl, ◌∙◌}
use Rattle.text.specs.laws.Laws.{put_then, put_length}
use Rattle.trim.specs.laws.LineLaws.{lining_none, lining_on, lining_all}
use Rattle.trim.proofs.put_lines.Goals as goal

pub loop-n-init : goal.loop-n-init
loop-n-init c = (omega arith, refl, lining_none _ _ _ _ _)

pub loop-n-preserved : goal.loop-n-preserved
loop-n-preserved c =
    let v = c.loop-n.invariant in
    let e = c.put_line-there-in-loop-n.ensures in
    (omega (arith, v.0, e.short), put_length e.put ∙ v.1, lining_on v.2 c.loop-n-test.true e.put)

pub returns-clause-put : goal.returns-clause-put
returns-clause-put c = put_then c.put_line-there.ensures.put (lining_all c.loop-n.invariant.2 (omega (arith, c.loop-n-test.false)))

pub returns-2-clause-put : goal.returns-2-clause-put
returns-2-clause-put c =
    let d = c.put_line-there.ensures in
    let e = c.put_line-there-in-loop-n.ensures in
    put_then d.put (lining_all (lining_on c.loop-n.invariant.2 c.loop-n-test.true e.put) (omega arith))
