-- The table of a file that was read is the table of its templates. Assumes nothing.
use Prim.Native.Nat.{ℕ, zero, suc, ◌+◌, ◌*◌, ◌-◌, ◌≤◌, ◌<◌}
use Rattle.std.proofs.Common.{zero-add, ◌∙◌}
use native.Mathlib.Omega.{arith}
use Rattle.std.specs.Prelude.{◌≡◌, set}
use Rattle.std.proofs.Math.Path.{refl, sym, ap}
use mathlib.Core.List.{List, [], ◌∷◌, ◌++◌, map, append_assoc}
use borrow.Author.Tests.{le-leb}
use Rattle.std.proofs.Math.ListN.{length, replicate, length-append}
use Rattle.std.proofs.lemmas.List.Edits.{sets}
use Rattle.files.specs.Reading.{got}
use Rattle.files.specs.laws.EntriesLaws.{entries_read}
use Rattle.files.specs.laws.EntriesRead.{slots_all}
use Rattle.files.specs.Tree.{Template, template_at, templates_at, tree_read}
use Rattle.files.specs.Table.{slot_of, row_of, tree_rows, tree_table}
use Rattle.files.specs.laws.TableLaws.{row_length, rows_length, tree_rows_lem, tree_start, tree_entries}
use Rattle.files.specs.laws.AllGot.{got_value, tree_read_lem}
use Rattle.files.specs.RowFilled.{Unfilled}
use Rattle.files.specs.Room.{RoomFor, ZerosFor}
use Rattle.files.specs.laws.RoomLaws.{room_rows, table_room}
use Rattle.files.specs.laws.RowFilled.{row_filled_lem, row_table, row_unfilled}
use Rattle.files.specs.Filled.{filled_then, templates_by, count_by}
use Rattle.tree.specs.Filled.{start_filled, row_filled, template_filled, templates_filled, tree_filled}
use Rattle.tree.specs.laws.Parts.{template_parts, templates_parts, templates_count, tree_parts}

-- ---- the row of a template
module _ (s : List ℕ) (own T p : ℕ) (few : T ≤ 64) {t : Template} {q : ℕ} (read : template_at s own T p ≡ got t q) where
  pub entries_few : length t.entries < 256
  entries_few = let a = template_parts s own T p read in rw (entries_read s own T few a.count a.first a.entries).count a.few

  filled_row : (table : List ℕ) → template_filled s own T p table ≡ set (sets table (256 * own + 1) (map slot_of t.entries)) (256 * own) t.start
  unfolding template_filled row_filled start_filled
  filled_row table = let a = template_parts s own T p read in rw (a.counted, a.entries, slots_all s own T a.count a.first a.entries) refl

  pub template_unfilled : (table : List ℕ) → own < T → Unfilled T own table → Unfilled T (own + 1) (template_filled s own T p table)
  template_unfilled table h u =
      rw (filled_row table, row_table T own table h u t.start t.entries entries_few) (row_unfilled T own table h u t.start t.entries entries_few)

-- ---- the rows of all
module _ (s : List ℕ) (size T : ℕ) (few : T ≤ 64) where
  templates_rows : (n own p : ℕ) (front : List ℕ) {ts : List Template} {q : ℕ} → length front ≡ 256 * own → 256 * (own + n) ≤ size
      → templates_at s T own n p ≡ got ts q
      → templates_filled s T own n p (front ++ replicate (size - 256 * own) 0) ≡ front ++ (tree_rows ts ++ replicate (size - 256 * (own + n)) 0)
  unfolding templates_by templates_at filled_then tree_rows
  templates_rows zero own p front f h e =
      let k : own + 0 ≡ own = omega arith in
      rw (← (got_value e).0, k) refl
  templates_rows (suc n) own p front {ts} {q} f h e =
      let a = templates_parts s T own n p e in
      let t = a.head in
      let l = entries_few s own T p few a.first in
      let i : size - 256 * own - 256 ≡ size - 256 * (own + 1) = omega arith in
      let j : own + suc n ≡ own + 1 + n = omega arith in
      let row : template_filled s own T p (front ++ replicate (size - 256 * own) 0) ≡ (front ++ row_of t.start t.entries) ++ replicate
      (size - 256 * (own + 1)) 0 =
      filled_row s own T p few a.first _ ∙ row_filled_lem front own t.start (size - 256 * own) t.entries f l (omega arith)
      ∙ rw i (sym (append_assoc front (row_of t.start t.entries) (replicate (size - 256 * (own + 1)) 0))) in
      let g : length (front ++ row_of t.start t.entries) ≡ 256 * (own + 1) = length-append front (row_of t.start t.entries)
      ∙ (let r = row_length t.start t.entries l in omega arith) in
      let tail : templates_filled s T (own + 1) n a.next ((front ++ row_of t.start t.entries) ++ replicate (size - 256 * (own + 1)) 0) ≡
      (front ++ row_of t.start t.entries) ++ (tree_rows a.tail ++ replicate (size - 256 * (own + 1 + n)) 0) =
      templates_rows n (own + 1) a.next (front ++ row_of t.start t.entries) g (omega arith) a.rest in
      let all : templates_filled s T own (suc n) p (front ++ replicate (size - 256 * own) 0) ≡ front ++
      (tree_rows (t ∷ a.tail) ++ replicate (size - 256 * (own + suc n)) 0) =
      rw (a.first, row, tail, j)
      (append_assoc front (row_of t.start t.entries) (tree_rows a.tail ++ replicate (size - 256 * (own + 1 + n)) 0)
      ∙ ap (λ (l : List ℕ). front ++ l)
      (sym (append_assoc (row_of t.start t.entries) (tree_rows a.tail) (replicate (size - 256 * (own + 1 + n)) 0)))) in
      all ∙ ap (λ (us : List Template). front ++ (tree_rows us ++ replicate (size - 256 * (own + suc n)) 0)) (sym a.are)

module _ (s : List ℕ) {ts : List Template} {q : ℕ} (read : tree_read s ≡ got ts q) where
  counted_rows : 256 * (tree_parts s read).count ≡ 256 * length ts
  counted_rows = let a = tree_parts s read in ap (λ (n : ℕ). 256 * n) (sym (templates_count s a.count a.count 0 a.first a.read))

  -- a row for each template
  pub tree_room : (n : ℕ) → RoomFor s n → 256 * length ts ≤ n
  tree_room n room =
      let a = tree_parts s read in rw counted_rows at (room_rows s (omega (arith, a.short)) room a.counted a.few)

  pub tree_table_lem : (n : ℕ) → RoomFor s n → tree_filled s (replicate n 0) ≡ tree_table n ts
  unfolding tree_filled count_by tree_table
  tree_table_lem n room =
      let a = tree_parts s read in
      let l : length (tree_rows ts) ≡ 256 * a.count =
      ap length (tree_rows_lem ts) ∙ rows_length tree_start tree_entries ts (tree_read_lem s read).1.1 ∙ sym counted_rows in
      let z : n - 256 * 0 ≡ n = omega arith in
      rw (le-leb (length s) 65536 a.short, a.counted, le-leb 1 a.count a.some, le-leb a.count 64 a.few, l)
      (rw (zero-add a.count, z) at
      (templates_rows s n a.count a.few a.count 0 a.first [] refl (omega (arith, tree_room n room, counted_rows)) a.read))

  -- the same of a table of zeros that a reader filled
  pub tree_tabled : {table table' : List ℕ} (z : ZerosFor s table) → table' ≡ tree_filled s table → table' ≡ tree_table z.size ts
  tree_tabled z e = e ∙ ap (tree_filled s) z.zero ∙ tree_table_lem z.size z.room

  pub tree_rows_there : {table : List ℕ} → ZerosFor s table → 256 * length ts ≤ length table
  tree_rows_there {table} z = tree_room (length table) (table_room s table z)
