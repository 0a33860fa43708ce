-- `unflatten::put_templates` meets its contract: who puts the templates that are left has put all. Assumes nothing.
use native.Mathlib.Omega.{arith}
use mathlib.Core.Path.{◌≡◌, refl, sym, ap, ◌∙◌}
use Rattle.std.specs.Prelude.{Some, Err}
use Rattle.files.specs.laws.RefusalLaws.{handed_on}
use Rattle.unflatten.specs.laws.GrowLaws.{growing_begun, growing_end, this_one, growing_stuck, growing_on, next_zeros, refused_where}
use Rattle.unflatten.proofs.put_templates.Goals as goal

pub loop-own-init : goal.loop-own-init
loop-own-init c = let h = c.requires in growing_begun _ _ _ _ _ _ _ (omega arith) h.3

pub put_template-put-requires : goal.put_template-put-requires
put_template-put-requires c =
    let h = c.requires in
    let g = c.loop-own.invariant in (
      h.0,
      omega (arith, c.loop-own-test.true, h.1),
      h.1,
      omega (arith, h.2, g.long),
      this_one _ _ _ _ _ _ _ _ _ _ _ _ g c.loop-own-test.true h.1,
    )

pub returns-in_err-next : goal.returns-in_err-next
returns-in_err-next c =
    let h = c.requires in
    let g = c.loop-own.invariant in
    let t = c.loop-own-test.true in
    let z = refused_where _ c.ok_or.ensures.value c.in_err-next.was in
    let e = handed_on c.from_residual.ensures ∙ ap Err z.1 in
    rw e (growing_stuck _ _ _ _ _ _ _ _ _ _ _ _ g t h.1 (c.put_template-put.ensures.template_grows (this_one _ _ _ _ _ _ _ _ _ _ _ _ g t h.1)) z.0)

pub loop-own-preserved : goal.loop-own-preserved
loop-own-preserved c =
    let h = c.requires in
    let g = c.loop-own.invariant in
    let t = c.loop-own-test.true in
    let w = this_one _ _ _ _ _ _ _ _ _ _ _ _ g t h.1 in
    let z : c.put_template-put.result ≡ Some (c.in_ok-next.next, c.in_ok-next.past) = grind arith in
    growing_on _ _ _ _ _ _ _ _ _ _ _ _ g t h.1 (c.put_template-put.ensures.template_grows w) z
    (next_zeros _ _ _ _ _ _ _ (g.rows ∙ c.told-table) (omega (arith, t, h.1)) h.1 w _ c.put_template-put.ensures.table_after) (c.put_template-put.array_long ∙ sym (g.rows ∙ c.told-table))
    c.put_template-put.auto.out

pub returns : goal.returns
returns c = growing_end _ _ _ _ _ _ _ _ _ _ _ _ c.loop-own.invariant (omega (arith, c.loop-own-test.false)) refl
