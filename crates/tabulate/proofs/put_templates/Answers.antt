-- `tabulate::put_templates` meets its contract: template after template. Assumes nothing.
use Rattle.tabulate.specs.laws.WriteLaws.{writing_begin, template_in, one_put, writing_end, writing_next}
use Rattle.tabulate.specs.laws.JudgeLaws.{from_walk, from_low, from_read, own_list, own_list_is, told_none, next_as}
use Rattle.basic.specs.laws.StepLaws.{list_was}
use mathlib.Core.Path.{refl}
use native.Mathlib.Omega.{arith}
use Rattle.tabulate.proofs.put_templates.Goals as goal

pub loop-past-init : goal.loop-past-init
loop-past-init c = (refl, λ w. writing_begin w, omega arith)

pub returns-in_default : goal.returns-in_default
returns-in_default c = λ w. let k = c.loop-past.invariant.1 w in let r = from_read k.from in told_none _ _ _ c.in_default.is c.read_list.ensures _ _ r.1

pub put_template-place-requires : goal.put_template-place-requires
put_template-place-requires c =
    let pre = c.requires in
    let w = pre.2 in (
      pre.0,
      omega (arith, pre.1, c.loop-past.invariant.0),
      template_in (c.loop-past.invariant.1 w) _ (own_list (c.loop-past.invariant.1 w).from w.few.few _ _ (list_was _ _ _ c.read_list.ensures c.in-Ok.is))
          (own_list_is (c.loop-past.invariant.1 w).from w.few.few _ _ (list_was _ _ _ c.read_list.ensures c.in-Ok.is)),
    )

pub next_closure-requires : goal.next_closure-requires
next_closure-requires c =
    let pre = c.requires in
    (omega (arith, pre.0), from_walk (c.loop-past.invariant.1 pre.2).from)

pub returns-in_default-next_closure : goal.returns-in_default-next_closure
returns-in_default-next_closure c =
    λ w. writing_end (c.loop-past.invariant.1 w) (one_put (c.loop-past.invariant.1 w) _
    (own_list (c.loop-past.invariant.1 w).from w.few.few _ _ (list_was _ _ _ c.read_list.ensures c.in-Ok.is))
    (own_list_is (c.loop-past.invariant.1 w).from w.few.few _ _ (list_was _ _ _ c.read_list.ensures c.in-Ok.is)) c.put_template-place.ensures)
    (next_as c.in_default-next_closure.is (c.next_closure.ensures (from_walk (c.loop-past.invariant.1 w).from) _))

pub loop-past-preserved : goal.loop-past-preserved
loop-past-preserved c =
    let pre = c.requires in
    let w₀ = pre.2 in
    let n = (writing_next (c.loop-past.invariant.1 w₀) (one_put (c.loop-past.invariant.1 w₀) _
    (own_list (c.loop-past.invariant.1 w₀).from w₀.few.few _ _ (list_was _ _ _ c.read_list.ensures c.in-Ok.is))
    (own_list_is (c.loop-past.invariant.1 w₀).from w₀.few.few _ _ (list_was _ _ _ c.read_list.ensures c.in-Ok.is)) c.put_template-place.ensures) _
    (next_as c.in-Some.is (c.next_closure.ensures (from_walk (c.loop-past.invariant.1 w₀).from) _))) in
    let l = from_low n.from in (
      n.put.long,
      λ w. (writing_next (c.loop-past.invariant.1 w) (one_put (c.loop-past.invariant.1 w) _
          (own_list (c.loop-past.invariant.1 w).from w.few.few _ _ (list_was _ _ _ c.read_list.ensures c.in-Ok.is))
          (own_list_is (c.loop-past.invariant.1 w).from w.few.few _ _ (list_was _ _ _ c.read_list.ensures c.in-Ok.is)) c.put_template-place.ensures) _
          (next_as c.in-Some.is (c.next_closure.ensures (from_walk (c.loop-past.invariant.1 w).from) _))),
      omega (arith, l.0, w₀.few.few),
    )
