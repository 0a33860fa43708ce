-- `trim::trim_template` meets its contract. Assumes nothing.
use native.Mathlib.Omega.{arith}
use mathlib.Core.Path.{refl, ◌∙◌}
use Rattle.trim.specs.laws.StandLaws.{count_in}
use Rattle.trim.proofs.theorems.TemplateLaws.{count_few}
use Rattle.trim.specs.laws.LineLaws.{put_same}
use Rattle.trim.proofs.theorems.BothLaws.{head_inside, span_next, with_list_lem, gone_both, kept_both}
use Rattle.trim.proofs.trim_template.Goals as goal

pub bits_at-entries-requires : goal.bits_at-entries-requires
bits_at-entries-requires c = let p = c.requires in (omega (arith, p.sizes.0), (omega arith, head_inside p.template_in))

pub put_lines-requires : goal.put_lines-requires
put_lines-requires c =
    let p = c.requires in
    let w = p.template_in in
    let cn = c.bits_at-entries.ensures.0 ∙ count_in w in
    let ls = c.list_of-list.ensures _ w in
    let f = count_few (with_list_lem w _ _ ls cn) in
    (omega (arith, p.written_so_far.1, p.sizes.1), p.sizes.1, f)

pub returns-then-mark-eq0 : goal.returns-then-mark-eq0
returns-then-mark-eq0 c =
    let p = c.requires in
    let w = p.template_in in
    let cn = c.bits_at-entries.ensures.0 ∙ count_in w in
    let ls = c.list_of-list.ensures _ w in
    let d = c.put_lines.ensures in record {
      written = (d.short, omega (arith, p.written_so_far.0, span_next w _ ls));
      next_is = (λ y. span_next y _ (c.list_of-list.ensures _ y));
      put = (λ y keep are leads. let g = gone_both y keep _ are leads _ _ _ _ _ refl c.if-mark-eq0.true refl (c.bits_at-entries.ensures.0 ∙ count_in y) in
          (put_same d.put g.0, g.1));
    }

pub number_names-left-requires : goal.number_names-left-requires
number_names-left-requires c =
    let p = c.requires in
    let w = p.template_in in
    let cn = c.bits_at-entries.ensures.0 ∙ count_in w in
    let ls = c.list_of-list.ensures _ w in (p.sizes.0, refl, with_list_lem w _ _ ls cn)

pub put_template-requires : goal.put_template-requires
put_template-requires c =
    let p = c.requires in
    let w = p.template_in in
    let cn = c.bits_at-entries.ensures.0 ∙ count_in w in
    let ls = c.list_of-list.ensures _ w in
    record { size = p.sizes.0; at_behind = p.written_so_far.0; list_in = with_list_lem w _ _ ls cn }

pub put_lines-requires-2 : goal.put_lines-requires-2
put_lines-requires-2 c =
    let p = c.requires in
    let w = p.template_in in
    let cn = c.bits_at-entries.ensures.0 ∙ count_in w in
    let ls = c.list_of-list.ensures _ w in
    let f = count_few (with_list_lem w _ _ ls cn) in
    (omega (arith, p.written_so_far.1, p.sizes.1), p.sizes.1, f)

pub returns : goal.returns
returns c =
    let p = c.requires in
    let w = p.template_in in
    let cn = c.bits_at-entries.ensures.0 ∙ count_in w in
    let ls = c.list_of-list.ensures _ w in
    let d = c.put_lines-2.ensures in
    let n = c.number_names-left.ensures (with_list_lem w _ _ ls cn) in
    let k = c.put_template.ensures (with_list_lem w _ _ ls cn) n.0 n.1 in record {
      written = (d.short, omega (arith, p.written_so_far.0, k.0, span_next w _ ls));
      next_is = (λ y. span_next y _ (c.list_of-list.ensures _ y));
      put = (λ y keep are leads. let z = with_list_lem y _ _ (c.list_of-list.ensures _ y) (c.bits_at-entries.ensures.0 ∙ count_in y) in let m = c.number_names-left.ensures z in let t =
          c.put_template.ensures z m.0 m.1 in let g = kept_both y keep _ are leads _ _ _ _ _ _ _ refl c.if-mark-eq0.false m.0 (c.bits_at-entries.ensures.0 ∙ count_in y)
          t.1 in (put_same d.put g.0, g.1));
    }
