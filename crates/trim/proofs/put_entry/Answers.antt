-- `trim::put_entry` meets its contract. Assumes nothing.
use native.Mathlib.Omega.{arith}
use mathlib.Core.Path.{refl, ap, ◌∙◌}
use Rattle.bit_writer.specs.Put.{put_bits}
use Rattle.trim.proofs.theorems.EntryLaws.{entry_inside, entry_template, template_put, entry_other}
use Rattle.trim.proofs.put_entry.Goals as goal

pub bits_at-requires : goal.bits_at-requires
bits_at-requires c =
    let pre = c.requires in
    let i = entry_inside pre.entry_in _ refl in
    (omega (arith, pre.size), (omega arith, omega (arith, i)))

pub past-requires : goal.past-requires
past-requires c =
    let pre = c.requires in
    let i = entry_inside pre.entry_in _ refl in
    omega (arith, i, pre.size)

pub bits_at-u-requires : goal.bits_at-u-requires
bits_at-u-requires c =
    let pre = c.requires in
    let i = entry_inside pre.entry_in _ refl in
    let t = entry_template pre.entry_in _ c.bits_at.ensures.0 c.if-bits_at-eq3.true in
    (omega (arith, pre.size), (omega arith, omega (arith, i, t.ten, c.past.ensures)))

pub new_number-requires : goal.new_number-requires
new_number-requires c =
    let pre = c.requires in
    let t = entry_template pre.entry_in _ c.bits_at.ensures.0 c.if-bits_at-eq3.true in
    let e = c.bits_at-u.ensures.0 in
    let q = rw c.past.ensures at e in
    omega (arith, t.few, t.read_is, q)

pub put_numbered-requires : goal.put_numbered-requires
put_numbered-requires c =
    let pre = c.requires in
    let t = entry_template pre.entry_in _ c.bits_at.ensures.0 c.if-bits_at-eq3.true in
    (omega arith, omega arith, omega (arith, t.ten, pre.room))

pub returns-then-bits_at-eq3 : goal.returns-then-bits_at-eq3
returns-then-bits_at-eq3 c =
    let pre = c.requires in
    let t = entry_template pre.entry_in _ c.bits_at.ensures.0 c.if-bits_at-eq3.true in
    let e = c.bits_at-u.ensures.0 in
    let q = rw c.past.ensures at e in
    let d = c.put_numbered.ensures in
    record { place_after = omega (arith, d.0, t.ten); out_after = λ w. template_put w _ c.bits_at.ensures.0 _ c.if-bits_at-eq3.true _ _ _ _ _ q c.new_number.ensures d.1 }

pub copy_bits-requires : goal.copy_bits-requires
copy_bits-requires c =
    let pre = c.requires in
    let i = entry_inside pre.entry_in _ refl in
    (omega (arith, pre.size), omega arith, i.1, pre.room)

pub returns : goal.returns
returns c =
    let d = c.copy_bits.ensures in
    record { place_after = d.0; out_after = λ w. d.1 ∙ ap (put_bits _ _) (entry_other w _ c.bits_at.ensures.0 _ c.if-bits_at-eq3.false) }
