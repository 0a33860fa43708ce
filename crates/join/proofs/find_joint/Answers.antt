-- `join::find_joint` meets its contract. The loop's invariant: the joint is that of the list at `here`, and as many levels deeper as were left. Assumes nothing.
use native.Mathlib.Omega.{arith}
use mathlib.Core.Path.{refl, sym, ◌∙◌}
use Rattle.join.specs.laws.TurnLaws.{code_five, walked_none, walked_past, walked_within, walked_there}
use Rattle.join.proofs.find_joint.Goals as goal

pub loop-next-init : goal.loop-next-init
loop-next-init c = (omega arith, λ w. walked_none _ _ w)

pub turn_at-requires : goal.turn_at-requires
turn_at-requires c = (c.requires.0, (c.loop-next.invariant.1 c.requires.1).now)

pub returns-in-There : goal.returns-in-There
returns-in-There c = λ w. let k = c.loop-next.invariant.1 w in walked_there _ _ _ k (sym c.in-There.is ∙ c.turn_at.ensures k.now) _ refl refl

pub loop-next-smaller-in-Past : goal.loop-next-smaller-in-Past
loop-next-smaller-in-Past c =
    let pre = c.requires in
    omega (
      arith,
      (walked_past _ _ _ (c.loop-next.invariant.1 pre.1) _ (sym c.in-Past.is ∙ c.turn_at.ensures (c.loop-next.invariant.1 pre.1).now)).1,
      code_five (c.loop-next.invariant.1 pre.1).now,
    )

pub loop-next-preserved-in-Past : goal.loop-next-preserved-in-Past
loop-next-preserved-in-Past c = (c.loop-next.invariant.0, λ w. let k = c.loop-next.invariant.1 w in (walked_past _ _ _ (k) _ (sym c.in-Past.is ∙ c.turn_at.ensures (k).now)).0)

pub overflow_sub-levels : goal.overflow_sub-levels
overflow_sub-levels c =
    let pre = c.requires in
    (walked_within _ _ _ (c.loop-next.invariant.1 pre.1) _ (sym c.in-Within.is ∙ c.turn_at.ensures (c.loop-next.invariant.1 pre.1).now)).0

pub loop-next-smaller : goal.loop-next-smaller
loop-next-smaller c =
    let pre = c.requires in
    omega (
      arith,
      (walked_within _ _ _ (c.loop-next.invariant.1 pre.1) _ (sym c.in-Within.is ∙ c.turn_at.ensures (c.loop-next.invariant.1 pre.1).now)).2,
      code_five (c.loop-next.invariant.1 pre.1).now,
    )

pub loop-next-preserved : goal.loop-next-preserved
loop-next-preserved c = (omega (arith, c.loop-next.invariant.0), λ w. let k = c.loop-next.invariant.1 w in (walked_within _ _ _ (k) _ (sym c.in-Within.is ∙ c.turn_at.ensures (k).now)).1)
