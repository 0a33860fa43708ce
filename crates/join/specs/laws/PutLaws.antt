-- Bits that are put one after the other: the entries, the lists, both. And what the smaller functions answer. Assumes nothing.
use Rattle.std.specs.Prelude.{ℕ, ◌+◌, ◌*◌, ◌-◌, ◌≤◌, ◌<◌, Bool, true, false, set, eqb}
use Rattle.std.proofs.Common.{◌∙◌, eqb-true, length-append, get_or-set_same, get_or-set_other}
use native.Mathlib.Omega.{arith}
use Rattle.std.proofs.Math.Path.{◌≡◌, refl, sym, ap}
use mathlib.Core.List.{List, [], ◌∷◌, ◌++◌, append_assoc}
use Rattle.std.proofs.lemmas.Bool.{eqb-false}
use Rattle.std.proofs.Math.ListN.{length, get_or}
use Rattle.cells.specs.declared.BitPlace.{BitPlace}
use Rattle.fields.specs.Field.{field_at}
use Rattle.files.specs.Code.{Code, bits}
use Rattle.files.specs.Reading.{got, list_at}
use Rattle.files.specs.Linear.{bits_of}
use Rattle.files.specs.Tree.{Template, tree_read}
use Rattle.files.specs.Table.{tree_table}
use Rattle.readback.specs.laws.Bits.{AreBits, length_bits}
use Rattle.readback.specs.Lists.{bits_from}
use Rattle.readback.specs.laws.Lists.{bits_are, append_are, from_length, from_are}
use Rattle.bit_writer.specs.Put.{put_bits}
use Rattle.bit_writer.proofs.theorems.Laws.{put_next}
use Rattle.tree_file.specs.File.{templates_bits, file_bits}
use Rattle.rewrite.specs.Tokens.{tokens_bits, renewed, TokensAt}
use Rattle.rewrite.specs.laws.TokensLaws.{tokens_are, renewed_length}
use Rattle.join.specs.declared.First.{First}
use Rattle.join.specs.Copied.{entries_of, lists_copied}
use Rattle.join.specs.Operands.{Operand, first_of, file_end}
use Rattle.join.specs.laws.OperandsLaws.{file_count, file_inside, file_short, slot_start, list_read, first_counted, first_end, first_start, last_at}

-- ---- four parts
module _ (o o₁ o₂ o₃ o₄ : List ℕ) (p p₁ p₂ p₃ : ℕ) (A B C D : List ℕ) where
  four_put : AreBits A → AreBits B → AreBits C → p + (length A + length B + length C) ≤ 8 * length o
      → o₁ ≡ put_bits o p A → p₁ ≡ p + length A → o₂ ≡ put_bits o₁ p₁ B → p₂ ≡ p₁ + length B → o₃ ≡ put_bits o₂ p₂ C → p₃ ≡ p₂ + length C
      → o₄ ≡ put_bits o₃ p₃ D → o₄ ≡ put_bits o p (A ++ (B ++ (C ++ D)))
  four_put a b c fits e₁ q₁ e₂ q₂ e₃ q₃ e₄ =
      let l₁ : length (A ++ B) ≡ length A + length B = length-append A B in
      let l₂ : length ((A ++ B) ++ C) ≡ length A + length B + length C = length-append (A ++ B) C ∙ rw l₁ refl in
      let s₂ : o₂ ≡ put_bits o p (A ++ B) = put_next o o₁ o₂ p p₁ A B a (omega arith) e₁ q₁ e₂ in
      let s₃ : o₃ ≡ put_bits o p ((A ++ B) ++ C) = put_next o o₂ o₃ p p₂ (A ++ B) C (append_are a b) (omega arith) s₂ (omega arith) e₃ in
      put_next o o₃ o₄ p p₃ ((A ++ B) ++ C) D (append_are (append_are a b) c) (omega arith) s₃ (omega arith) e₄
      ∙ ap (put_bits o p) (append_assoc (A ++ B) C D ∙ append_assoc A B (C ++ D))

pub entries_put : (a b o o₁ o₂ o₃ o₄ : List ℕ) (p₁ p₂ p₃ from second count entries n m : ℕ) → n ≡ from - 16 → m ≡ second - 16 → 16 + n + m ≤ 8 * length o
    → o₁ ≡ put_bits o 0 (bits_of 8 count) → p₁ ≡ 0 + 8 → o₂ ≡ put_bits o₁ p₁ (bits_of 8 entries) → p₂ ≡ p₁ + 8
    → o₃ ≡ put_bits o₂ p₂ (bits_from a 16 n) → p₃ ≡ p₂ + n → o₄ ≡ put_bits o₃ p₃ (bits_from b 16 m)
    → o₄ ≡ put_bits o 0 (entries_of a from b second count entries)
unfolding entries_of
entries_put a b o o₁ o₂ o₃ o₄ p₁ p₂ p₃ from second count entries n m en em fits e₁ q₁ e₂ q₂ e₃ q₃ e₄ =
    let l₁ = length_bits 8 count in
    let l₂ = length_bits 8 entries in
    let l₃ = from_length a 16 n in
    four_put o o₁ o₂ o₃ o₄ 0 p₁ p₂ p₃ (bits_of 8 count) (bits_of 8 entries) (bits_from a 16 n) (bits_from b 16 m) (bits_are 8 count) (bits_are 8 entries)
    (from_are a 16 n)
    (omega arith) e₁ (omega arith) e₂ (omega arith) e₃ (omega arith) e₄
    ∙ rw (en, em) refl

pub entries_length : (a b : List ℕ) (from second count entries : ℕ) → 16 ≤ from → 16 ≤ second
    → (length (entries_of a from b second count entries) ≡ from + second - 16) × AreBits (entries_of a from b second count entries)
unfolding entries_of
entries_length a b from second count entries h k = (
  simp (length-append, length_bits, from_length) (omega arith),
  append_are (bits_are 8 count) (append_are (bits_are 8 entries) (append_are (from_are a 16 (from - 16)) (from_are b 16 (second - 16)))),
)

module _ (f : ℕ → ℕ) (a b : List ℕ) (x y : First) (joint end : ℕ) (o o₁ o₂ o₃ o₄ : List ℕ) (p p₁ p₂ p₃ n₁ n₂ n₃ n₄ : ℕ) where
  pub lists_put : n₁ ≡ joint - x.start.0 → n₂ ≡ y.past.0 - y.start.0 - 5 → n₃ ≡ x.past.0 - joint → n₄ ≡ end - y.past.0
      → p + (n₁ + n₂ + n₃) ≤ 8 * length o
      → o₁ ≡ put_bits o p (bits_from a x.start.0 n₁) → p₁ ≡ p + n₁
      → ((w : TokensAt b y.start.0 n₂) → o₂ ≡ put_bits o₁ p₁ (tokens_bits (renewed f w.all))) → p₂ ≡ p₁ + n₂
      → o₃ ≡ put_bits o₂ p₂ (bits_from a joint n₃) → p₃ ≡ p₂ + n₃ → o₄ ≡ put_bits o₃ p₃ (bits_from b y.past.0 n₄)
      → (w : TokensAt b y.start.0 (y.past.0 - y.start.0 - 5)) → o₄ ≡ put_bits o p (lists_copied a x joint b y end (tokens_bits (renewed f w.all)))
  unfolding lists_copied
  lists_put k₁ k₂ k₃ k₄ fits e₁ q₁ e₂ q₂ e₃ q₃ e₄ w =
      let M = tokens_bits (renewed f w.all) in
      let e : o₂ ≡ put_bits o₁ p₁ M = (rw k₂ at e₂) w in
      let m : length M ≡ n₂ = renewed_length f w.all ∙ w.size ∙ sym k₂ in
      let l₁ = from_length a x.start.0 n₁ in
      let l₃ = from_length a joint n₃ in
      four_put o o₁ o₂ o₃ o₄ p p₁ p₂ p₃ (bits_from a x.start.0 n₁) M (bits_from a joint n₃) (bits_from b y.past.0 n₄) (from_are a x.start.0 n₁)
      (tokens_are (renewed f w.all)) (from_are a joint n₃) (omega arith) e₁ (omega arith) e (omega arith) e₃ (omega arith) e₄
      ∙ rw (k₁, k₃, k₄) refl

pub both_put : (a b o o₁ o₂ L : List ℕ) (from second count entries q : ℕ) → 16 ≤ from → 16 ≤ second → from + second ≤ 16 + 8 * length o
    → o₁ ≡ put_bits o 0 (entries_of a from b second count entries) → q ≡ from + second - 16 → o₂ ≡ put_bits o₁ q L
    → o₂ ≡ put_bits o 0 (entries_of a from b second count entries ++ L)
both_put a b o o₁ o₂ L from second count entries q h k fits e f g =
    let l = entries_length a b from second count entries h k in
    put_next o o₁ o₂ 0 q (entries_of a from b second count entries) L l.1 (omega (arith, l.0)) e (omega (arith, l.0)) g

-- ---- the table of moved indices, one more index
pub one_more : (l : List ℕ) (n i v : ℕ) → i < length l → v ≡ n + i → ((j : ℕ) → j < i → get_or l j 0 ≡ n + j) → (j : ℕ) → j < i + 1
    → get_or (set l i v) j 0 ≡ n + j
one_more l n i v lt is h j k = go (eqb j i) refl
  where
    go : (b : Bool) → eqb j i ≡ b → get_or (set l i v) j 0 ≡ n + j
    go true e = let z = eqb-true j i e in rw z (get_or-set_same l i v 0 lt ∙ is)
    go false e = let z = eqb-false j i e in get_or-set_other l i j v 0 z ∙ h j (omega arith)

-- ---- an operand
pub record Some (ts : List Template) : Type 0 where
  pub head : Template
  pub tail : List Template
  pub is : ts ≡ head ∷ tail

pub some : (ts : List Template) → 1 ≤ length ts → Some ts
some [] h = absurd (omega arith)
some (t ∷ ts) h = record { head = t; tail = ts; is = refl }

module _ {s table : List ℕ} {count : ℕ} (w : Operand s table count) where
  pub operand_short : length s ≤ 65536
  operand_short = file_short s w.templates w.past w.read

  pub operand_count_lem : (1 ≤ count) × (count ≤ 64)
  operand_count_lem = let c = file_count s w.templates w.past w.read in rw w.count_is c

  parts : Some w.templates
  parts = some w.templates (file_count s w.templates w.past w.read).0

  abbrev t : Template
  t = parts.head

  abbrev us : List Template
  us = parts.tail

  read : tree_read s ≡ got (t ∷ us) w.past
  read = rw parts.is at w.read

  filled : table ≡ tree_table w.size (t ∷ us)
  filled = rw parts.is at w.filled

  pub operand_two : 16 ≤ 8 * length s
  operand_two = omega (arith, file_inside s (t ∷ us) w.past read, first_end s t us w.past read, first_start s t us w.past read)

  -- m is the place past the list at `at`
  module _ (at m : BitPlace) (found : (c : Code) (q : ℕ) → list_at s 15 at.0 ≡ got c q → m.0 ≡ q) where
    pub first_is : at.0 ≡ get_or table 0 0 → (e : ℕ) → e ≡ field_at s 8 8 → record { entries = e; start = at; past = m } ≡ first_of w.templates
    unfolding first_of
    first_is here e counted =
        let k : at.0 ≡ t.start = here ∙ slot_start s (t ∷ us) w.past read 0 t (omega arith) w.size filled in
        let r : m.0 ≡ t.start + bits t.code = found t.code _ (ap (list_at s 15) k ∙ list_read s (t ∷ us) w.past read 0 t (omega arith)) in
        let n : e ≡ length t.entries = counted ∙ first_counted s t us w.past read in
        rw parts.is (all e (length t.entries) at (record { 0 = t.start }) m (record { 0 = t.start + bits t.code }) n k r)
      where
        all : (e e' : ℕ) (p p' q q' : BitPlace) → e ≡ e' → p.0 ≡ p'.0 → q.0 ≡ q'.0
            → ◌≡◌ {A = First} (record { entries = e; start = p; past = q }) (record { entries = e'; start = p'; past = q' })
        all e e' p p' q q' a b c =
            ap (λ (z : ℕ). record { entries = z; start = p; past = q }) a
            ∙ ap (λ (z : ℕ). record { entries = e'; start = record { 0 = z }; past = q }) b
            ∙ ap (λ (z : ℕ). record { entries = e'; start = p'; past = record { 0 = z } }) c

    pub end_is : (own : ℕ) → own ≡ count - 1 → at.0 ≡ get_or table (256 * own) 0 → m.0 ≡ file_end w.templates
    unfolding file_end
    end_is own last here =
        let n : own ≡ length us = last ∙ omega (arith, w.count_is, ap length parts.is) in
        let h : length us < length (t ∷ us) = omega arith in
        let k : at.0 ≡ (get_or (t ∷ us) (length us) t).start =
        here ∙ ap (λ i. get_or table (256 * i) 0) n ∙ slot_start s (t ∷ us) w.past read (length us) t h w.size filled in
        found _ _ (ap (list_at s 15) k ∙ list_read s (t ∷ us) w.past read (length us) t h)
        ∙ last_at s t us w.past read ∙ ap (λ (ts : List Template). length (file_bits ts)) (sym parts.is)

-- of one template, where its own list ends
one_end : (s : List ℕ) (ts : List Template) (q : ℕ) → tree_read s ≡ got ts q → length ts ≡ 1 → (first_of ts).past.0 ≡ file_end ts
unfolding first_of file_end templates_bits
one_end s [] q e l = absurd (omega arith)
one_end s (t ∷ []) q e l = omega (arith, first_end s t [] q e)
one_end s (t ∷ u ∷ ts) q e l = absurd (omega arith)

pub only_end : {s table : List ℕ} {count : ℕ} (w : Operand s table count) → count ≡ 1 → (x : First) → x ≡ first_of w.templates
    → (at : ℕ) → at ≡ x.past.0 → at ≡ file_end w.templates
only_end {s} w single x e at here =
    here ∙ ap (λ (y : First). y.past.0) e ∙ one_end s w.templates w.past w.read (sym w.count_is ∙ single)

-- ---- room for the lists, in plain numbers
sums : (at sx joint px sy py end L n₁ n₂ n₃ n₄ d e : ℕ) → sx + n₁ ≡ joint → joint + n₃ ≡ px → sy + n₂ ≡ py → py + n₄ ≡ end → sy + 5 ≤ py → sx + d ≡ px
    → sy + e ≡ end → at + d + e ≤ 5 + L → at + n₁ + (n₂ - 5) + n₃ + n₄ ≤ L
sums at sx joint px sy py end L n₁ n₂ n₃ n₄ d e h₁ h₃ h₂ h₄ five hd he room = omega arith

on : (a b n : ℕ) → a ≤ b → n ≡ b - a → a + n ≡ b
on a b n h e = omega arith

module _ (at sx joint px sy py end L n₁ n₂ n₃ n₄ : ℕ) (h₁ : sx ≤ joint) (h₃ : joint ≤ px) (h₂ : sy + 5 ≤ py) (h₄ : py ≤ end)
    (room : at + (px - sx) + (end - sy) ≤ 5 + L) (e₁ : n₁ ≡ joint - sx) (e₂ : n₂ ≡ py - sy) (e₃ : n₃ ≡ px - joint) (e₄ : n₄ ≡ end - py) where
  pub room_all : at + n₁ + (n₂ - 5) + n₃ + n₄ ≤ L
  room_all =
      sums at sx joint px sy py end L n₁ n₂ n₃ n₄ (px - sx) (end - sy) (on sx joint n₁ h₁ e₁) (on joint px n₃ h₃ e₃) (on sy py n₂ (le sy py h₂) e₂)
      (on py end n₄ h₄ e₄) h₂
      (on sx px (px - sx) (trans sx joint px h₁ h₃) refl) (on sy end (end - sy) (trans sy py end (le sy py h₂) h₄) refl) room
    where
      le : (a b : ℕ) → a + 5 ≤ b → a ≤ b
      le a b h = omega arith

      trans : (a b c : ℕ) → a ≤ b → b ≤ c → a ≤ c
      trans a b c h k = omega arith

  pub room_last : (p₁ p₂ p₃ : ℕ) → p₁ ≡ at + n₁ → p₂ ≡ p₁ + (n₂ - 5) → p₃ ≡ p₂ + n₃ → p₃ + n₄ ≤ L
  room_last p₁ p₂ p₃ = go (n₂ - 5) room_all
    where
      go : (m : ℕ) → at + n₁ + m + n₃ + n₄ ≤ L → p₁ ≡ at + n₁ → p₂ ≡ p₁ + m → p₃ ≡ p₂ + n₃ → p₃ + n₄ ≤ L
      go m h a b c = omega arith

  pub room_three : at + (n₁ + (n₂ - 5) + n₃) ≤ L
  room_three = go (n₂ - 5) room_all
    where
      go : (m : ℕ) → at + n₁ + m + n₃ + n₄ ≤ L → at + (n₁ + m + n₃) ≤ L
      go m h = omega arith
