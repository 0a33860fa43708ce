-- Where the parts of an operand that was read stand. Assumes nothing.
use Prim.Native.Nat.{ℕ, zero, suc, ◌+◌, ◌*◌, ◌≤◌, ◌<◌}
use Rattle.std.proofs.Common.{add-zero, arith, ap, ◌∙◌, le-leb, leb-true}
use Rattle.std.specs.Prelude.{◌≡◌, Bool, true, false, get_or, leb, is_ok}
use Rattle.std.proofs.Math.Path.{refl, sym}
use mathlib.Core.List.{List, [], ◌∷◌, ◌++◌}
use Rattle.std.proofs.Math.ListN.{length, length-append}
use Rattle.fields.specs.Field.{field_at}
use Rattle.files.specs.Code.{Code, bits}
use Rattle.files.specs.Reading.{Got, got, refused, list_at}
use Rattle.files.specs.laws.ReadingLaws.{list_valid}
use Rattle.files.specs.laws.AllGot.{each_at, got_value, refused_got, field_got_lem, tree_read_lem}
use Rattle.files.specs.Linear.{bits_of, entries_bits}
use Rattle.files.specs.Tree.{Template, tree_read}
use Rattle.files.specs.Table.{tree_table}
use Rattle.files.specs.laws.TableLaws.{row_start, tree_slot}
use Rattle.lists.specs.Facts.{listed}
use Rattle.readback.specs.Bits.{Stands}
use Rattle.readback.specs.laws.Bits.{length_bits, stands_left, stands_right, field_stands}
use Rattle.tree.specs.laws.Parts.{tree_parts}
use Rattle.tree_file.specs.File.{list_bits, template_bits, templates_bits, file_bits, starts_at, placed, levels}
use Rattle.tree_file.specs.laws.Lengths.{template_length}
use Rattle.tree_file.proofs.theorems.Standing.{list_stands}
use Rattle.tree_file.proofs.theorems.Canonical.{TreeKnown, tree_known}
use Rattle.tree_file.specs.laws.Writable.{TreeWritable}
use Rattle.tree_file.proofs.theorems.Back.{TreeWritables, list_back_lem}
use Rattle.tree_file.proofs.theorems.Written.{tree_writable}
use Rattle.join.specs.Operands.{CodeAt}

-- ---- a list that stands is read, and one that is read stands
pub code_read : {s : List ℕ} {l p : ℕ} (w : CodeAt s l p) → list_at s l p ≡ got w.code (p + bits w.code)
code_read {s} {l} {p} w = list_back_lem s w.code l p w.valid w.deep w.stands

pub read_code : (s : List ℕ) (l p : ℕ) (c : Code) (q : ℕ) → list_at s l p ≡ got c q → CodeAt s l p
read_code s l p c q e =
    let k = list_stands s l p e in
    record { code = c; stands = k.1; valid = list_valid s l p c q e; deep = omega (arith, k.2) }

deeper : {s : List ℕ} {l p : ℕ} (m : ℕ) → l ≤ m → CodeAt s l p → CodeAt s m p
deeper m h w = record { code = w.code; stands = w.stands; valid = w.valid; deep = omega (arith, w.deep) }

-- a list has at most as many levels as were left below it
pub levels_most : {s : List ℕ} {p : ℕ} (most : ℕ) → most ≡ 15 → (w : CodeAt s 15 p) → true ≡ leb (levels w.code) most
levels_most most e w = sym (le-leb (levels w.code) most (omega (arith, w.deep)))

-- the list at p has at most so many levels where it can be read with so many
module _ (s : List ℕ) (p most : ℕ) (few : most ≤ 15) (w : CodeAt s 15 p) where
  pub levels_read : (c : Code) (q : ℕ) → list_at s most p ≡ got c q → true ≡ leb (levels w.code) most
  unfolding deeper read_code
  levels_read c q e =
      let r = read_code s most p c q e in
      let same : c ≡ w.code = (got_value (sym (code_read (deeper 15 few r)) ∙ code_read w)).0 in
      sym (le-leb (levels w.code) most (rw same at r.deep))

  pub levels_refused : (n q : ℕ) → list_at s most p ≡ refused n q → false ≡ leb (levels w.code) most
  levels_refused n q e = go (leb (levels w.code) most) refl
    where
      go : (b : Bool) → leb (levels w.code) most ≡ b → false ≡ leb (levels w.code) most
      go true h =
          let r = list_back_lem s w.code most p w.valid (leb-true (levels w.code) most h) w.stands in
          refused_got (sym e ∙ r)
      go false h = sym h

  pub levels_told : (table : List ℕ) (own : ℕ) → is_ok (listed table own (list_at s most p)) ≡ leb (levels w.code) most
  unfolding listed
  levels_told table own = go (list_at s most p) refl
    where
      go : (g : Got Code) → list_at s most p ≡ g → is_ok (listed table own g) ≡ leb (levels w.code) most
      go (got c q) e = levels_read c q e
      go (refused n q) e = levels_refused n q e

-- ---- templates
module _ (s : List ℕ) where
  placed_led : (p : ℕ) (t : Template) (ts : List Template) → placed p (t ∷ ts) ≡ t ∷ ts
      → (t.start ≡ p + 8 + length (entries_bits t.entries)) × (placed (p + length (template_bits t)) ts ≡ ts)
  unfolding placed
  placed_led p t ts e =
      let h : starts_at p t ≡ t = cc in
      (sym (ap (λ (u : Template). u.start) h), cc)

  template_list : (p : ℕ) (t : Template) → Stands s p (template_bits t) → t.start ≡ p + 8 + length (entries_bits t.entries)
      → Stands s t.start (list_bits t.code)
  unfolding template_bits
  template_list p t h e =
      let b = entries_bits t.entries in
      let k : Stands s (p + 8) (b ++ list_bits t.code) =
      rw (length_bits 8 (length t.entries)) at (stands_right (bits_of 8 (length t.entries)) (b ++ list_bits t.code) h) in
      rw e (stands_right b (list_bits t.code) k)

  -- the list of template i
  lists_stand : (p : ℕ) (ts : List Template) → Stands s p (templates_bits ts) → placed p ts ≡ ts → (i : ℕ) (d : Template) → i < length ts
      → Stands s (get_or ts i d).start (list_bits (get_or ts i d).code)
  unfolding templates_bits
  lists_stand p [] h e i d lt = absurd (omega arith)
  lists_stand p (t ∷ ts) h e zero d lt = template_list p t (stands_left (template_bits t) (templates_bits ts) h) (placed_led p t ts e).0
  lists_stand p (t ∷ ts) h e (suc i) d lt =
      lists_stand (p + length (template_bits t)) ts (stands_right (template_bits t) (templates_bits ts) h) (placed_led p t ts e).1 i d (omega arith)

  -- the last list ends where the file does
  last_end : (p : ℕ) (t : Template) (ts : List Template) → placed p (t ∷ ts) ≡ t ∷ ts → (d : Template)
      → (get_or (t ∷ ts) (length ts) d).start + bits (get_or (t ∷ ts) (length ts) d).code ≡ p + length (templates_bits (t ∷ ts))
  unfolding templates_bits
  last_end p t [] e d =
      let l = template_length t in
      rw (length-append (template_bits t) []) (omega (arith, (placed_led p t [] e).0, l))
  last_end p t (u ∷ ts) e d =
      let i = last_end (p + length (template_bits t)) u ts (placed_led p t (u ∷ ts) e).1 d in
      i ∙ rw (length-append (template_bits t) (templates_bits (u ∷ ts))) (omega arith)

-- ---- a file that was read
module _ (s : List ℕ) (ts : List Template) (q : ℕ) (read : tree_read s ≡ got ts q) where
  known : TreeKnown s ts
  known = tree_known s ts q read

  writable : TreeWritables ts
  writable = tree_writable s ts q read

  pub file_short : length s ≤ 65536
  file_short = (tree_parts s read).short

  pub file_count : (1 ≤ length ts) × (length ts ≤ 64)
  file_count = (writable.at_least_one, writable.at_most_64)

  templates_stand : Stands s 8 (templates_bits ts)
  unfolding file_bits
  templates_stand = rw (length_bits 8 (length ts)) at (stands_right (bits_of 8 (length ts)) (templates_bits ts) known.here)

  pub file_length : length (file_bits ts) ≡ 8 + length (templates_bits ts)
  unfolding file_bits
  file_length = length-append (bits_of 8 (length ts)) (templates_bits ts) ∙ rw (length_bits 8 (length ts)) refl

  pub file_inside : length (file_bits ts) ≤ 8 * length s
  file_inside = let h : 0 + length (file_bits ts) ≤ 8 * length s = known.here.fits in omega arith

  module _ (i : ℕ) (d : Template) (lt : i < length ts) where
    -- slot 0 of row i is where list i begins
    pub slot_start : (size : ℕ) {table : List ℕ} → table ≡ tree_table size ts → get_or table (256 * i) 0 ≡ (get_or ts i d).start
    slot_start size filled =
        let z : 256 * i + 0 ≡ 256 * i = add-zero (256 * i) in
        let few = (tree_read_lem s read).1.1 in
        ap (λ (x : List ℕ). get_or x (256 * i) 0) filled ∙ (rw z at (tree_slot size ts few i 0 d lt (omega arith)))
        ∙ row_start (get_or ts i d).start (get_or ts i d).entries

    pub list_code : CodeAt s 15 (get_or ts i d).start
    list_code =
        let ok = each_at (TreeWritable (length ts)) 0 ts writable.each i lt d in
        let h : levels (get_or ts i d).code < 16 = ok.deep in
        record {
          code = (get_or ts i d).code;
          stands = lists_stand s 8 ts templates_stand known.starts i d lt;
          valid = ok.valid_code;
          deep = omega arith;
        }

    pub list_read : list_at s 15 (get_or ts i d).start ≡ got (get_or ts i d).code ((get_or ts i d).start + bits (get_or ts i d).code)
    unfolding list_code
    list_read = code_read list_code

-- ---- and its first template
module _ (s : List ℕ) (t : Template) (ts : List Template) (q : ℕ) (read : tree_read s ≡ got (t ∷ ts) q) where
  first_stands : Stands s 8 (template_bits t ++ templates_bits ts)
  unfolding templates_bits
  first_stands = templates_stand s (t ∷ ts) q read

  pub first_start : t.start ≡ 16 + length (entries_bits t.entries)
  first_start = omega (arith, (placed_led s 8 t ts (known s (t ∷ ts) q read).starts).0)

  here_stands : Stands s 8 (template_bits t)
  here_stands = stands_left (template_bits t) (templates_bits ts) first_stands

  pub first_writable : TreeWritable (suc (length ts)) 0 t
  first_writable = (writable s (t ∷ ts) q read).each.0

  pub first_counted : field_at s 8 8 ≡ length t.entries
  unfolding template_bits
  first_counted =
      sym (field_got_lem s 8 8 (field_stands s 8 8 (length t.entries) first_writable.few
      (stands_left (bits_of 8 (length t.entries)) (entries_bits t.entries ++ list_bits t.code) here_stands))).0

  pub first_entries : Stands s 16 (entries_bits t.entries)
  unfolding template_bits
  first_entries =
      let k : Stands s 16 (entries_bits t.entries ++ list_bits t.code) =
      rw (length_bits 8 (length t.entries)) at
      (stands_right (bits_of 8 (length t.entries)) (entries_bits t.entries ++ list_bits t.code) here_stands) in
      stands_left (entries_bits t.entries) (list_bits t.code) k

  pub others_stand : Stands s (t.start + bits t.code) (templates_bits ts)
  others_stand =
      let e : 8 + length (template_bits t) ≡ t.start + bits t.code = omega (arith, template_length t, first_start) in
      rw e at (stands_right (template_bits t) (templates_bits ts) first_stands)

  pub first_end : length (file_bits (t ∷ ts)) ≡ t.start + bits t.code + length (templates_bits ts)
  unfolding templates_bits
  first_end =
      let e : length (templates_bits (t ∷ ts)) ≡ length (template_bits t) + length (templates_bits ts) =
      length-append (template_bits t) (templates_bits ts) in
      omega (arith, file_length s (t ∷ ts) q read, template_length t, first_start)

  pub first_code : CodeAt s 15 t.start
  first_code = list_code s (t ∷ ts) q read 0 t (omega arith)

  pub first_code_is : first_code.code ≡ t.code
  unfolding first_code list_code
  first_code_is = refl

  pub last_at : (get_or (t ∷ ts) (length ts) t).start + bits (get_or (t ∷ ts) (length ts) t).code ≡ length (file_bits (t ∷ ts))
  last_at = last_end s 8 t ts (known s (t ∷ ts) q read).starts t ∙ sym (file_length s (t ∷ ts) q read)
