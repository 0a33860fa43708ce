-- `join::put_lists` meets its contract: four parts, one after the other. Assumes nothing.
use native.Mathlib.Omega.{arith}
use mathlib.Core.Path.{ap, ◌∙◌}
use lib.ListN.{length}
use Prim.Native.Nat.{◌-◌}
use Rattle.bit_writer.proofs.theorems.Laws.{put_length}
use Rattle.join.specs.laws.PutLaws.{lists_put, room_last, room_three}
use Rattle.join.proofs.put_lists.Goals as goal

pub rewrite-in_file-requires : goal.rewrite-in_file-requires
rewrite-in_file-requires c =
    let p = c.requires in
    let e₁ = c.copy_bits-in_list.ensures in
    let s₁ = c.since.ensures in
    let s₂ = c.since-2.ensures in
    let m₁ = ap length e₁.1 ∙ put_length _ _ _ in
    record { s_len_bound = (omega (arith, p.sizes.1), omega (arith, m₁, p.sizes.2), omega (arith, m₁, e₁.0, s₁, s₂, p.joint_in, p.file_in, p.room)); tokens_at = rw s₂ p.tokens_at }

pub copy_bits-in_rest-requires : goal.copy_bits-in_rest-requires
copy_bits-in_rest-requires c =
    let p = c.requires in
    let e₁ = c.copy_bits-in_list.ensures in
    let s₁ = c.since.ensures in
    let s₂ = c.since-2.ensures in
    let m₁ = ap length e₁.1 ∙ put_length _ _ _ in
    let e₂ = c.rewrite-in_file.ensures in
    let s₃ = c.since-3.ensures in
    let m₂ = ap length (e₂.out_after (rw s₂ p.tokens_at)) ∙ put_length _ _ _ in (
      omega (arith, p.sizes.0),
      omega (arith, m₁, m₂, p.sizes.2),
      omega (arith, s₃, p.joint_in),
      omega (arith, m₁, m₂, e₁.0, e₂.result_value, s₁, s₂, s₃, p.joint_in, p.file_in, p.room),
    )

pub since-requires-4 : goal.since-requires-4
since-requires-4 c =
    let pre = c.requires in
    pre.file_in.1

pub copy_bits-requires : goal.copy_bits-requires
copy_bits-requires c =
    let p = c.requires in
    let e₁ = c.copy_bits-in_list.ensures in
    let s₁ = c.since.ensures in
    let s₂ = c.since-2.ensures in
    let m₁ = ap length e₁.1 ∙ put_length _ _ _ in
    let e₂ = c.rewrite-in_file.ensures in
    let s₃ = c.since-3.ensures in
    let e₃ = c.copy_bits-in_rest.ensures in
    let s₄ = c.since-4.ensures in
    let m₂ = ap length (e₂.out_after (rw s₂ p.tokens_at)) ∙ put_length _ _ _ in
    let m₃ = ap length e₃.1 ∙ put_length _ _ _ in (
      omega (arith, p.sizes.1),
      omega (arith, m₁, m₂, m₃, p.sizes.2),
      omega (arith, s₄, p.file_in),
      rw (m₃, m₂, m₁) (room_last _ _ _ _ _ _ _ _ _ _ _ _ p.joint_in.0 p.joint_in.1 p.file_in.0 p.file_in.1 p.room s₁ s₂ s₃ s₄ _ _ _ e₁.0
          e₂.result_value e₃.0),
    )

pub returns : goal.returns
returns c =
    let p = c.requires in
    let e₁ = c.copy_bits-in_list.ensures in
    let s₁ = c.since.ensures in
    let s₂ = c.since-2.ensures in
    let e₂ = c.rewrite-in_file.ensures in
    let s₃ = c.since-3.ensures in
    let e₃ = c.copy_bits-in_rest.ensures in
    let s₄ = c.since-4.ensures in
    let e₄ = c.copy_bits.ensures in
    lists_put _ _ _ _ _ _ _ _ _ _ _ _ _ _ _ _ _ _ _ _ s₁ (ap (λ z. z - 5) s₂) s₃ s₄
    (room_three _ _ _ _ _ _ _ _ _ _ _ _ p.joint_in.0 p.joint_in.1 p.file_in.0 p.file_in.1 p.room s₁ s₂ s₃ s₄) e₁.1 e₁.0 e₂.out_after e₂.result_value
    e₃.1 e₃.0 e₄.1
