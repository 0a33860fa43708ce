-- `lists::number_by_words` meets its contract: each code's four bits are its shape's number. Assumes nothing.
use Prim.Native.Nat.{ℕ, ◌*◌, ◌/◌, ◌%◌, ◌^◌, ◌≤◌, ◌<◌}
use mathlib.Core.Path.{◌≡◌, refl}
use native.Mathlib.Omega.{arith}
use Rattle.files.specs.Codes.{shape_of}
use Rattle.lists.specs.laws.Each.{each}
use Rattle.lists.proofs.number_by_words.Goals as goal
use Rattle.lists.proofs.number_by_words.Goals.{then-code-lt16, else-code-lt16}

low : (v : ℕ) → v < 16 → 0x1621332222654210 / 2 ^ (4 * (v % 16)) % 16 ≡ shape_of v
unfolding shape_of
low v h =
    each (λ v. 0x1621332222654210 / 2 ^ (4 * (v % 16)) % 16 ≡ shape_of v) 0 16
    (refl, (refl, (refl, (refl, (refl, (refl, (refl, (refl, (refl, (refl, (refl, (refl, (refl, (refl, (refl, (refl, tt)))))))))))))))) v (omega arith) (omega arith)

high : (v : ℕ) → 16 ≤ v → v < 32 → 0x6666661111111162 / 2 ^ (4 * (v % 16)) % 16 ≡ shape_of v
unfolding shape_of
high v h i =
    each (λ v. 0x6666661111111162 / 2 ^ (4 * (v % 16)) % 16 ≡ shape_of v) 16 16
    (refl, (refl, (refl, (refl, (refl, (refl, (refl, (refl, (refl, (refl, (refl, (refl, (refl, (refl, (refl, (refl, tt)))))))))))))))) v h (omega arith)

pub returns : goal.returns
returns c =
    elim c.if-code-lt16.branch [
      | then-code-lt16 w ↦ rw w.word-is (low _ w.if-code-lt16.true)
      | else-code-lt16 w ↦ rw w.word-is (high _ w.if-code-lt16.false c.requires)
    ]
