-- `trim::trim_into` meets its contract. Assumes nothing.
use native.Mathlib.Omega.{arith}
use mathlib.Core.List.{[]}
use Rattle.trim.specs.Trim.{stays}
use Rattle.trim.specs.laws.StandLaws.{file_short, file_count}
use Rattle.trim.proofs.theorems.WholeLaws.{few_marks, byte_size, stays_numbers, stays_count, file_leads, all_into}
use Rattle.trim.proofs.trim_into.Goals as goal

pub mark_reached-requires : goal.mark_reached-requires
mark_reached-requires c =
    let p = c.requires in
    let w = p.file_in in
    let f = file_count w in
    (file_short w, f.1, p.numbers_zero)

pub number-left-requires : goal.number-left-requires
number-left-requires c =
    let p = c.requires in
    let w = p.file_in in
    let f = file_count w in
    let m = c.mark_reached.ensures in (omega (arith, f), few_marks _ _ f.1)

pub trim_templates-places-requires : goal.trim_templates-places-requires
trim_templates-places-requires c =
    let p = c.requires in
    let w = p.file_in in
    let f = file_count w in
    let m = c.mark_reached.ensures in
    let d = c.number-left.ensures in
    record { sizes = (file_short w, f.1); file_in = w }

pub past-requires : goal.past-requires
past-requires c =
    let p = c.requires in
    let w = p.file_in in
    let f = file_count w in
    let m = c.mark_reached.ensures in
    let d = c.number-left.ensures in
    let e = c.trim_templates-places.ensures w (stays w.templates) (stays_numbers w _ _ 0 (m w) d.1) (file_leads w _ [] 0 (m w))
    (stays_count w _ [] _ (m w) d.0) in
    omega (arith, e.3)

pub put_both-requires : goal.put_both-requires
put_both-requires c =
    let p = c.requires in
    let w = p.file_in in
    let f = file_count w in
    let m = c.mark_reached.ensures in
    let d = c.number-left.ensures in
    let e = c.trim_templates-places.ensures w (stays w.templates) (stays_numbers w _ _ 0 (m w) d.1) (file_leads w _ [] 0 (m w))
    (stays_count w _ [] _ (m w) d.0) in (
      omega (arith, e.3, c.byte-size.ensures, c.past.ensures, c.to_byte.ensures),
      omega (arith, e.2),
    )

pub returns : goal.returns
returns c =
    let p = c.requires in
    let w = p.file_in in
    let f = file_count w in
    let m = c.mark_reached.ensures in
    let d = c.number-left.ensures in
    let e = c.trim_templates-places.ensures w (stays w.templates) (stays_numbers w _ _ 0 (m w) d.1) (file_leads w _ [] 0 (m w))
    (stays_count w _ [] _ (m w) d.0) in
    let b = c.put_both.ensures in
    let all = all_into _ _ _ w _ _ _ _ _ _ _ e.0 e.1 c.told-file c.told-lines e.2 e.3 (byte_size _ _ _ _ c.to_byte.ensures c.past.ensures c.byte-size.ensures)
    b.value b.out_after b.list_after in
    record { value = all.0; out_after = all.1.0; list_after = all.1.1 }
