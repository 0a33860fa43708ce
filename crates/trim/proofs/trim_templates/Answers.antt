-- `trim::trim_templates` meets its contract. The loop's invariant: the templates from `own` on, at `here`, are left. Assumes nothing.
use native.Mathlib.Omega.{arith}
use Rattle.trim.proofs.theorems.WholeLaws.{passing_all, passing_inside, passing_first, passing_on, trimming_none, trimming_first, first_leads, first_numbers, trimming_on, trimming_all, trimming_file, file_walk}
use Rattle.trim.proofs.trim_templates.Goals as goal

pub loop-own-init : goal.loop-own-init
loop-own-init c =
    let p = c.requires in
    let d = c.put_field-at.ensures in (
      omega (arith, d.0),
      omega arith,
      passing_all,
      λ w keep are leads. trimming_none keep _ _ _ _ _ _ _ (file_walk w) leads,
    )

pub trim_template-places-requires-clause-template_in : goal.trim_template-places-requires-clause-template_in
trim_template-places-requires-clause-template_in c = passing_first (c.loop-own.invariant.2 c.requires.file_in) c.loop-own-test.true

pub loop-own-preserved : goal.loop-own-preserved
loop-own-preserved c =
    let p = c.requires in
    let w = p.file_in in
    let v = c.loop-own.invariant in
    let t = c.loop-own-test.true in
    let q = v.2 w in
    let e = c.trim_template-places.ensures in (
      e.written.1,
      omega (arith, e.written.0, v.1),
      (λ y. passing_on (v.2 y) t _ (e.next_is (passing_first (v.2 y) t))),
      (λ y keep are leads. let k = v.3 y keep are leads in let z = trimming_first keep _ _ _ _ _ _ _ k t in trimming_on keep _ _ _ _ _ _ _ k t _ _ _ _ _
          (e.next_is z) (e.put z keep (first_numbers keep _ _ _ _ _ _ _ k t are) (first_leads keep _ _ _ _ _ _ _ k t))),
    )

pub returns : goal.returns
returns c =
    let pre = c.requires in
    λ w keep are leads counted. let p = pre in let v = c.loop-own.invariant in let d = c.put_field-at.ensures in let k = trimming_all keep _ _ _ _ _ _ _
    (v.3 w keep are leads) c.loop-own-test.false in let i = passing_inside (v.2 w) in (
      k.0,
      trimming_file keep _ _ _ _ _ _ _ _ w.count_is counted c.told-file d.1 d.0 k.1,
      omega (arith, c.loop-own.auto.own-end, v.1, p.sizes.1),
      omega (arith, v.0, i, p.sizes.0),
    )
