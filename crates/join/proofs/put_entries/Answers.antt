-- `join::put_entries` meets its contract: four parts, one after the other. Assumes nothing.
use native.Mathlib.Omega.{arith}
use Rattle.join.specs.laws.PutLaws.{entries_put}
use Rattle.join.proofs.put_entries.Goals as goal

pub returns : goal.returns
returns c =
    let p = c.requires in
    let e₁ = c.put_field-after_count.ensures in
    let e₂ = c.put_field-after_number.ensures in
    let e₃ = c.copy_bits-after_first.ensures in
    let e₄ = c.copy_bits.ensures in
    let s₁ = c.since.ensures in
    let s₂ = c.since-2.ensures in record {
      place_after = omega (arith, e₁.0, e₂.0, e₃.0, e₄.0, s₁, s₂, p.lists_in.0, p.lists_in.2);
      out_after = entries_put _ _ _ _ _ _ _ _ _ _ _ _ _ _ _ _ s₁ s₂ (omega (arith, s₁, s₂, p.lists_in.0, p.lists_in.2, p.room)) e₁.1 e₁.0 e₂.1 e₂.0 e₃.1 e₃.0
          e₄.1;
    }
