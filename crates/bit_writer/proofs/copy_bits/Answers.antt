-- `bit_writer::copy_bits` meets its contract: bits that are copied in parts. Assumes nothing.
use native.Mathlib.Omega.{arith}
use mathlib.Core.Path.{refl, ap, ◌∙◌}
use lib.ListN.{length}
use Rattle.fields.specs.laws.Laws.{field_small}
use Rattle.readback.specs.laws.Lists.{field_bits}
use Rattle.bit_writer.proofs.theorems.Laws.{put_length, copy_three}
use Rattle.bit_writer.proofs.copy_bits.Goals as goal

pub put_field-requires : goal.put_field-requires
put_field-requires c =
    let h = c.requires in
    let g = c.to_byte-gap.ensures in
    (h.1, omega (arith, g, c.if-n-gap.true), rw c.bits_at.ensures.0 (field_small _ _ _), h.3)

pub returns-then-n-gap : goal.returns-then-n-gap
returns-then-n-gap c =
    let e = c.put_field.ensures in
    (e.0, e.1 ∙ rw (c.bits_at.ensures.0, field_bits c.args.s.now c.args.n c.args.from.0) refl)

pub put_field-aligned-requires : goal.put_field-aligned-requires
put_field-aligned-requires c =
    let h = c.requires in
    let l = c.if-n-gap.false in
    let g = c.to_byte-gap.ensures in
    (h.1, omega (arith, g), rw c.bits_at-2.ensures.0 (field_small _ _ _), omega (arith, h.3))

pub put_field-requires-2 : goal.put_field-requires-2
put_field-requires-2 c =
    let h = c.requires in
    let l = c.if-n-gap.false in
    let m₁ = ap length c.put_field-aligned.ensures.1 ∙ put_length _ _ _ in
    let m₂ = ap length c.copy_bytes.ensures ∙ put_length _ _ _ in
    let p = c.past-last.ensures in
    (omega (arith, m₁, m₂, h.1), omega arith, rw c.bits_at-rest.ensures.0 (field_small _ _ _), omega (arith, m₁, m₂, h.3, p))

pub returns : goal.returns
returns c =
    let h = c.requires in
    let l = c.if-n-gap.false in
    let g = c.to_byte-gap.ensures in
    let e₁ = c.put_field-aligned.ensures in
    let x = c.bits_at-2.ensures.0 in
    let e₂ = rw (c.byte-byte.ensures, e₁.0, c.past.ensures) at c.copy_bytes.ensures in
    let p = c.past-last.ensures in
    let e₃ = rw p at c.put_field-2.ensures in
    let y = rw c.past-2.ensures at c.bits_at-rest.ensures.0 in
    (omega (arith, e₃.0), copy_three c.args.s.now c.args.out.now _ _ _ c.args.from.0 c.args.at.0 c.args.n _ _ _ _ g (omega arith) h.3 e₁.1 x e₂ e₃.1 y)
