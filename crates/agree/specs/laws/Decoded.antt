-- What the linear machine finds in code W at each kind of instruction. Assumes nothing.
use Rattle.std.specs.Prelude.{ℕ, ◌+◌, ◌*◌, ◌≤◌, ◌≡◌, true, List, ◌∷◌, ◌++◌, length, take, drop}
use Rattle.std.proofs.Common.{arith, ◌∙◌, append_assoc, length-append, le-leb}
use Rattle.std.proofs.Math.Seq.{take-append_seam}
use Rattle.files.specs.Codes.{is_neutral, operands, operand_bytes}
use Rattle.files.specs.laws.CodesLaws.{neutral_alike, neutral_six}
use Rattle.files.specs.Entries.{Entry}
use Rattle.machines.specs.Fetched.{Fetched, returns, calls, branches, saves, jumps, plainly, resolve, transfer, decode}
use Rattle.machines.specs.laws.FetchedLaws.{transfer_other}
use Rattle.agree.specs.laws.Layout.{At}

module _ (es : List Entry) (W : List ℕ) where
  abbrev pub lin : ℕ → Fetched
  lin q = decode es q (drop q W)

  -- an instruction that is not cut
  whole : (q op : ℕ) (w : List ℕ) → operand_bytes op ≤ length w
      → decode es q (op ∷ w) ≡ transfer op w (q + (1 + operand_bytes op)) (plainly (resolve es op (take (operand_bytes op) w)) (q + (1 + operand_bytes op)))
  unfolding decode
  whole q op w h = rw (le-leb (operand_bytes op) (length w) h)

  pub lin_neutral : {op q : ℕ} (ns ys : List ℕ) → is_neutral op ≡ true → operands op ≡ length ns → At W q (op ∷ ns ++ ys)
      → lin q ≡ plainly (resolve es op ns) (q + (1 + length ns))
  lin_neutral {op} {q} ns ys n o a =
      let z : List ℕ = ys ++ a.rest in
      let l : length ns ≤ length (ns ++ z) = simp length-append (omega arith) in
      let e : operand_bytes op ≡ length ns = neutral_alike op n ∙ o in
      rw (a.is, append_assoc ns ys a.rest, whole q op (ns ++ z) (rw e l), e, take-append_seam ns z)
      (transfer_other op (q + (1 + length ns)) (ns ++ z) (plainly (resolve es op ns) (q + (1 + length ns))) (neutral_six op n))

  pub lin_return : {q : ℕ} {ys : List ℕ} → At W q (1 ∷ ys) → lin q ≡ returns
  unfolding transfer operand_bytes
  lin_return {q} a = rw a.is (whole q 1 _ (omega arith))

  pub lin_call : {q n : ℕ} {ys : List ℕ} → At W q (2 ∷ n ∷ ys) → lin q ≡ calls n
  unfolding transfer operand_bytes
  lin_call {q} a = rw a.is (whole q 2 _ (omega arith))

  pub lin_branch : {q h l : ℕ} {ys : List ℕ} → At W q (3 ∷ h ∷ l ∷ ys) → lin q ≡ branches 0 (q + 3) (q + 3 + (256 * h + l))
  unfolding transfer operand_bytes
  lin_branch {q} a = rw a.is (whole q 3 _ (omega arith))

  pub lin_save : {q h l n : ℕ} {ys : List ℕ} → At W q (4 ∷ h ∷ l ∷ n ∷ ys) → lin q ≡ saves n (q + 4 + (256 * h + l)) (q + 4)
  unfolding transfer operand_bytes
  lin_save {q} a = rw a.is (whole q 4 _ (omega arith))

  pub lin_jump : {q h l : ℕ} {ys : List ℕ} → At W q (5 ∷ h ∷ l ∷ ys) → lin q ≡ jumps (q + 3 + (256 * h + l))
  unfolding transfer operand_bytes
  lin_jump {q} a = rw a.is (whole q 5 _ (omega arith))
