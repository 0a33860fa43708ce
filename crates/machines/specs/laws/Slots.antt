-- An instruction with its entry resolved by the slot that the run's table has of it (files, Table), and that this is what the entries say.
-- Assumes nothing.
use Rattle.std.specs.Prelude.{ℕ, zero, suc, ◌+◌, ◌%◌, ◌<◌, ◌≡◌, refl, List, get_or}
use Rattle.std.proofs.Common.{◌∙◌, arith, le-leb, ne_eqb}
use Rattle.std.proofs.Math.Option.{Option, none, some}
use Rattle.cells.specs.Cells.{tag_of}
use Rattle.files.specs.Entries.{Entry, constant, global, template}
use Rattle.files.specs.laws.EntriesLaws.{EntriesOk}
use Rattle.files.specs.Grammar.{entry_of}
use Rattle.files.specs.Table.{constant_cell, slot_of, row_of}
use Rattle.files.specs.laws.TableLaws.{slot_or, EntryFits, FoundFits, found_fits, constant_tag, row_start, row_entry}
use Rattle.machines.specs.Fetched.{named_by, rule_of, resolve}
use Rattle.machines.specs.Slots.{slot_names, slot_resolve}

-- ---- a slot stands for an entry that a file can have
unfoldable pub SlotStands : ℕ → Option Entry → Type 0
SlotStands x none = tag_of x ≡ 0
SlotStands x (some e) = (x ≡ slot_of e) × EntryFits e

names_alike : (x : ℕ) (o : Option Entry) → SlotStands x o → slot_names x ≡ named_by o
unfolding slot_names named_by SlotStands EntryFits slot_of
names_alike x none h = rw h
names_alike x (some (constant t n)) h =
    let k = constant_tag t n h.1.0 h.1.1 in
    rw (h.0, ne_eqb (tag_of (constant_cell t n)) 0 (λ e. omega arith), le-leb (tag_of (constant_cell t n)) 6 k.1)
names_alike x (some (global g)) h =
    let k : tag_of (0xB000000000000000 + g) ≡ 11 = omega arith in
    let l : (0xB000000000000000 + g) % 256 ≡ g = omega arith in
    rw (h.0, k, l)
names_alike x (some (template t)) h =
    let k : tag_of (0xC000000000000000 + t) ≡ 12 = omega arith in
    let l : (0xC000000000000000 + t) % 256 ≡ t = omega arith in
    rw (h.0, k, l)

-- ---- the slots of a row stand for a template's entries
abbrev pub RowStands : (ℕ → ℕ) → List Entry → Type 0
RowStands slot es = (n : ℕ) → n < 256 → SlotStands (slot n) (entry_of es n)

-- THE LAW: what the slots say is what the entries say
pub slot_resolve_lem : (slot : ℕ → ℕ) (es : List Entry) (op : ℕ) (ns : List ℕ) → RowStands slot es → get_or ns 0 0 < 256
    → slot_resolve slot op (get_or ns 0 0) (get_or ns 1 0) ≡ resolve es op ns
unfolding slot_resolve resolve rule_of
slot_resolve_lem slot es op ns h k = rw (names_alike (slot (get_or ns 0 0)) (entry_of es (get_or ns 0 0)) (h (get_or ns 0 0) k))

-- entries that were read, in a row whose slot 0 has tag 0
pub row_stands : (own T start : ℕ) (es : List Entry) (slot : ℕ → ℕ) → EntriesOk own T es → tag_of start ≡ 0
    → ((n : ℕ) → n < 256 → slot n ≡ get_or (row_of start es) n 0) → RowStands slot es
unfolding SlotStands entry_of
row_stands own T start es slot ok low same zero l = rw (same 0 l, row_start start es) low
row_stands own T start es slot ok low same (suc n) l = by (entry_of es (suc n)) refl (found_fits own T es (suc n) ok)
  where
    here : slot (suc n) ≡ slot_or (entry_of es (suc n))
    here = same (suc n) l ∙ row_entry start es (suc n) (λ e. omega arith)

    by : (o : Option Entry) → entry_of es (suc n) ≡ o → FoundFits o → SlotStands (slot (suc n)) o
    by none e f = rw (here, e) refl
    by (some x) e f = (rw (here, e) refl, f)
