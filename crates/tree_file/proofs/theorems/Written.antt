-- What writers of tree files use: templates that were read can be written, bits that are copied are those of what was read, and what is put from bit 0 on
-- is the file. Assumes nothing.
use Rattle.std.specs.Prelude.{ℕ, ◌+◌, ◌*◌, ◌-◌, ◌/◌, ◌^◌, ◌≤◌, ◌<◌, ◌≡◌, drop}
use Rattle.std.proofs.Common.{arith, sym, ap, ◌∙◌}
use Rattle.std.proofs.Math.Path.{refl}
use mathlib.Core.List.{List, [], ◌∷◌, ◌++◌, append-nil, append_assoc}
use Rattle.std.proofs.Math.ListN.{length, length-append}
use Rattle.files.specs.Code.{Code}
use Rattle.files.specs.Reading.{got, list_at}
use Rattle.files.specs.Entries.{constant, tag_width}
use Rattle.files.specs.laws.EntriesLaws.{bytes_length}
use Rattle.files.specs.laws.AllGot.{Each}
use Rattle.files.specs.Linear.{bits_of, entry_bits}
use Rattle.readback.specs.Bits.{Stands}
use Rattle.readback.specs.laws.Bits.{length_bits}
use Rattle.files.specs.Tree.{Template, template_at, tree_read}
use Rattle.readback.specs.laws.TreeFacts.{TemplateFacts, tree_facts}
use Rattle.readback.specs.Lists.{bits_from}
use Rattle.readback.specs.laws.Lists.{bits_are, append_are, bits_join, stands_from}
use Rattle.bit_writer.specs.Put.{put_bits}
use Rattle.bit_writer.specs.laws.Wrote.{Wrote}
use Rattle.bit_writer.proofs.theorems.Laws.{put_file, put_next, wrote_on}
use Rattle.tree_file.specs.File.{list_bits, template_bits, templates_bits, file_bits, tree_file, levels}
use Rattle.tree_file.specs.laws.Lengths.{list_length, templates_are}
use Rattle.tree_file.proofs.theorems.Standing.{list_stands, template_stands}
use Rattle.tree_file.proofs.theorems.Canonical.{tree_known}
use Rattle.tree_file.specs.laws.Writable.{TreeWritable}
use Rattle.tree_file.proofs.theorems.Back.{TreeWritables}

-- ---- what was read can be written
writable_each : (T n : ℕ) (ts : List Template) → Each (TemplateFacts T) n ts → Each (λ n t. levels t.code < 16) n ts → Each (TreeWritable T) n ts
writable_each T n [] h k = tt
writable_each T n (t ∷ ts) h k = (
  record { entries_ok = h.0.writable.entries_ok; few = h.0.writable.few; valid_code = h.0.valid_code; deep = k.0 },
  writable_each T (n + 1) ts
      h.1 k.1,
)

pub tree_writable : (s : List ℕ) (ts : List Template) (q : ℕ) → tree_read s ≡ got ts q → TreeWritables ts
tree_writable s ts q e =
    let f = tree_facts s ts q e in
    record { at_least_one = f.at_least_one; at_most_64 = f.at_most_64; each = writable_each (length ts) 0 ts f.each (tree_known s ts q e).deep }

-- ---- copied bits
module _ (s : List ℕ) (p : ℕ) where
  pub list_copied : (l : ℕ) {c : Code} {q : ℕ} → list_at s l p ≡ got c q → bits_from s p (q - p) ≡ list_bits c
  list_copied l {c} {q} e =
      let k = list_stands s l p e in
      let d : q - p ≡ length (list_bits c) = omega (arith, k.0, list_length c) in
      rw d (stands_from (list_bits c) k.1)

  pub template_copied : (own T : ℕ) {t : Template} {q : ℕ} → template_at s own T p ≡ got t q → bits_from s p (q - p) ≡ template_bits t
  template_copied own T {t} {q} e =
      let k = template_stands s own T p e in
      let d : q - p ≡ length (template_bits t) = omega (arith, k.past) in
      rw d (stands_from (template_bits t) k.here)

-- ---- the file in an output
pub file_length : (ts : List Template) → length (tree_file ts) ≡ (length (file_bits ts) + 7) / 8
unfolding tree_file
file_length ts = bytes_length (file_bits ts)

pub put_tree : (o : List ℕ) (ts : List Template) → length (tree_file ts) ≤ length o → put_bits o 0 (file_bits ts) ≡ tree_file ts ++ drop (length (tree_file ts)) o
unfolding tree_file
put_tree o ts h = put_file o (file_bits ts) (omega (arith, bytes_length (file_bits ts)))

-- what a writer has written, once it is all of the file
pub wrote_tree : (o₀ o : List ℕ) (ts : List Template) (at : ℕ) → Wrote o₀ o (file_bits ts) at → length (tree_file ts) ≤ length o₀
    → o ≡ tree_file ts ++ drop (length (tree_file ts)) o₀
wrote_tree o₀ o ts at w h = w.is ∙ put_tree o₀ ts h

-- T and then the bits of T templates that stand together: the bytes that they take, and the file
pub file_written : (s o o₁ o₂ : List ℕ) (h n count p q : ℕ) (ts : List Template) → Stands s h (templates_bits ts) → length (templates_bits ts) ≡ n
    → length ts ≡ count → 8 + n ≤ 8 * length o
    → o₁ ≡ put_bits o 0 (bits_of 8 count) → p ≡ 8 → o₂ ≡ put_bits o₁ p (bits_from s h n) → q ≡ p + n
    → ((q + 7) / 8 ≡ length (tree_file ts)) × (o₂ ≡ tree_file ts ++ drop (length (tree_file ts)) o)
unfolding file_bits
file_written s o o₁ o₂ h n count p q ts st e f fits e₁ q₁ e₂ q₂ =
    let w₁ : Wrote o o₁ (bits_of 8 (length ts)) p = record { is = rw f e₁; at_is = q₁ ∙ sym (length_bits 8 (length ts)); are = bits_are 8 (length ts) } in
    let b : bits_from s h n ≡ templates_bits ts = ap (bits_from s h) (sym e) ∙ stands_from (templates_bits ts) st in
    let w₂ : Wrote o o₂ (file_bits ts) q = wrote_on w₁ o₂ (templates_bits ts) q (templates_are ts) (omega arith) (e₂ ∙ ap (put_bits o₁ p) b) (omega arith) in
    let l : length (file_bits ts) ≡ q = sym w₂.at_is in
    let m : length (tree_file ts) ≡ (length (file_bits ts) + 7) / 8 = file_length ts in
    (omega arith, wrote_tree o o₂ ts q w₂ (omega arith))

-- ---- entries, as functions write them
pub constant_length : (t x : ℕ) → length (entry_bits (constant t x)) ≡ 5 + tag_width t
unfolding entry_bits
constant_length t x = omega (arith, length_bits (tag_width t) x)

module _ (o o₁ : List ℕ) (p : ℕ) where
  -- kind 1 and a tag
  put_tag : (t : ℕ) → t < 8 → o₁ ≡ put_bits o p (bits_of 5 (8 + t)) → o₁ ≡ put_bits o p (bits_of 2 1 ++ bits_of 3 t)
  put_tag t lt e = let z : 1 * 2 ^ 3 + t ≡ 8 + t = omega arith in e ∙ ap (put_bits o p) (rw z at (bits_join 2 3 1 t lt))

  pub plain_constant : (t x : ℕ) → t < 6 → tag_width t ≡ 0 → o₁ ≡ put_bits o p (bits_of 5 (8 + t)) → o₁ ≡ put_bits o p (entry_bits (constant t x))
  unfolding entry_bits
  plain_constant t x lt k e = rw (k, append-nil (bits_of 3 t)) (put_tag t (omega arith) e)

  module _ (o₂ : List ℕ) (q : ℕ) where
    -- and the w bits of an integer
    pub integer_constant : (t x w : ℕ) → t < 6 → tag_width t ≡ w → p + (5 + w) ≤ 8 * length o → o₁ ≡ put_bits o p (bits_of 5 (8 + t)) → q ≡ p + 5
        → o₂ ≡ put_bits o₁ q (bits_of w x) → o₂ ≡ put_bits o p (entry_bits (constant t x))
    unfolding entry_bits
    integer_constant t x w lt k h e f g =
        let l : length (bits_of 2 1 ++ bits_of 3 t) ≡ 5 = simp length-append in
        put_next o o₁ o₂ p q (bits_of 2 1 ++ bits_of 3 t) (bits_of w x) (append_are (bits_are 2 1) (bits_are 3 t)) (omega arith)
        (put_tag t (omega arith) e) (omega arith) g
        ∙ rw (append_assoc (bits_of 2 1) (bits_of 3 t) (bits_of w x), k) refl

    -- a kind, and a number of eight bits
    pub put_numbered : (k n : ℕ) → p + 10 ≤ 8 * length o → o₁ ≡ put_bits o p (bits_of 2 k) → q ≡ p + 2 → o₂ ≡ put_bits o₁ q (bits_of 8 n)
        → o₂ ≡ put_bits o p (bits_of 2 k ++ bits_of 8 n)
    put_numbered k n h e f g =
        let l : length (bits_of 2 k) ≡ 2 = length_bits 2 k in
        put_next o o₁ o₂ p q (bits_of 2 k) (bits_of 8 n) (bits_are 2 k) (omega arith) e (omega arith) g
