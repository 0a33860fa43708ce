-- What the reader of a tree file does at each step, by what was read there. Assumes nothing.
use Rattle.std.specs.Prelude.{ℕ, ◌*◌, ◌≤◌, ◌<◌, ◌≡◌, List, length, Result, Ok, Err}
use Rattle.std.proofs.Common.{arith, sym, ap, ◌∙◌}
use Rattle.std.proofs.Math.Path.{refl}
use borrow.Author.Tests.{le-leb, lt-leb}
use Rattle.cells.specs.laws.Laws.{clash}
use Rattle.cells.specs.declared.BitPlace.{BitPlace}
use Rattle.files.specs.Reading.{Got, got, refused}
use Rattle.files.specs.Entries.{then, field, to_byte, zero_bits, nothing_more}
use Rattle.files.specs.laws.AllGot.{field_got_lem}
use Rattle.files.specs.EntriesRead.{past_told}
use Rattle.files.specs.laws.PaddingSteps.{Padded, bad, zero_told, nothing_told}
use Rattle.files.specs.Tree.{Template, templates_at, padded_end, tree_read}
use Rattle.files.specs.Filled.{count_by}
use Rattle.tree.specs.declared.Summary.{Summary}
use Rattle.tree.specs.Summary.{summary_of, templates_told, tree_told}
use Rattle.tree.specs.Filled.{templates_filled, tree_filled}
use Rattle.tree.specs.laws.Parts.{templates_within}
use Rattle.files.specs.declared.Refusal.{Refusal}
use Rattle.files.specs.Refusal.{refusal}
use Rattle.files.specs.laws.RefusalLaws.{ok_first, ok_second, err_number, err_place}

-- ---- the padding after the last list, which ends at p, and the end
module _ {A : Type 0} (a : A) (s : List ℕ) (p : ℕ) where
  pub end_set : {x : Refusal BitPlace} → past_told (zero_bits s (to_byte p) p (tt {0})) ≡ Err x → padded_end s a p ≡ refused x.0 x.1.0
  unfolding padded_end then
  end_set e = rw ((zero_told a s (to_byte p) p).set_read e)

  pub end_on : {u : BitPlace} → past_told (zero_bits s (to_byte p) p (tt {0})) ≡ Ok u → padded_end s a p ≡ nothing_more s u.0 a
  unfolding padded_end then
  end_on e = rw ((zero_told a s (to_byte p) p).zero_read e)

pub end_told : {A : Type 0} (a : A) (s : List ℕ) (p : ℕ) → Padded a (padded_end s a p) (past_told (padded_end s (tt {0}) p))
unfolding past_told
end_told a s p = go (past_told (zero_bits s (to_byte p) p (tt {0}))) refl
  where
    go : (r : Result BitPlace (Refusal BitPlace)) → past_told (zero_bits s (to_byte p) p (tt {0})) ≡ r
        → Padded a (padded_end s a p) (past_told (padded_end s (tt {0}) p))
    go (Ok u) e = rw (end_on a s p e, end_on (tt {0}) s p e) (nothing_told a s u.0)
    go (Err x) e = rw (end_set a s p e, end_set (tt {0}) s p e) (bad a x.0 x.1.0)

-- ---- what was told of the templates was read
pub record ReadTemplates (g : Got (List Template)) (q : BitPlace) (m : Summary) : Type 0 where
  pub templates : List Template
  pub is : g ≡ got templates q.0
  pub summary : summary_of templates ≡ m

templates_told_lem : (g : Got (List Template)) {q : BitPlace} {m : Summary} → templates_told g ≡ Ok (q, m) → ReadTemplates g q m
unfolding templates_told
templates_told_lem (got ts z) {q} {m} h =
    record { templates = ts; is = ap (λ (b : BitPlace). got ts b.0) (ok_first h); summary = ok_second h }
templates_told_lem (refused n z) h = clash (cc)

templates_refused : (g : Got (List Template)) {n : ℕ} {p : BitPlace} → templates_told g ≡ Err (refusal n p) → g ≡ refused n p.0
unfolding templates_told
templates_refused (got ts z) h = clash (cc)
templates_refused (refused m z) {n} {p} h = rw (err_number h, ← (err_place h))

-- ---- the file
module _ (s table : List ℕ) where
  -- the answer r and the table t that its reader leaves
  abbrev pub TreeDone : Result Summary (Refusal BitPlace) → List ℕ → Type 0
  TreeDone r t = (r ≡ tree_told (tree_read s)) × (t ≡ tree_filled s table)

  pub too_long_lem : 65536 < length s → TreeDone (Err (refusal 1 (record { 0 = 0 }))) table
  unfolding tree_read tree_told tree_filled
  too_long_lem h = rw (lt-leb (length s) 65536 h) (refl, refl)

  module _ (short : length s ≤ 65536) where
    pub count_cut : {n m : ℕ} → field s 0 8 ≡ refused n m → TreeDone (Err (refusal n (record { 0 = m }))) table
    unfolding tree_read tree_told tree_filled then count_by
    count_cut e = rw (le-leb (length s) 65536 short, e) (refl, refl)

    module _ {T p : ℕ} (counted : field s 0 8 ≡ got T p) where
      pub count_none : T < 1 → TreeDone (Err (refusal 3 (record { 0 = 0 }))) table
      unfolding tree_read tree_told tree_filled then count_by
      count_none h = rw (le-leb (length s) 65536 short, counted, lt-leb 1 T h) (refl, refl)

      pub count_many : 64 < T → TreeDone (Err (refusal 3 (record { 0 = 0 }))) table
      unfolding tree_read tree_told tree_filled then count_by
      count_many h = rw (le-leb (length s) 65536 short, counted, le-leb 1 T (omega arith), lt-leb T 64 h) (refl, refl)

      module _ (some : 1 ≤ T) (few : T ≤ 64) {r : Result (BitPlace × Summary) (Refusal BitPlace)} {t : List ℕ}
          (told : r ≡ templates_told (templates_at s T 0 T p))
          (filled : t ≡ templates_filled s T 0 T p table) where
        table_filled : t ≡ tree_filled s table
        unfolding tree_filled count_by
        table_filled = rw (le-leb (length s) 65536 short, counted, le-leb 1 T some, le-leb T 64 few) filled

        file_on : tree_read s ≡ then (templates_at s T 0 T p) (λ ts q. padded_end s ts q)
        unfolding tree_read then
        file_on = rw (le-leb (length s) 65536 short, counted, le-leb 1 T some, le-leb T 64 few) refl

        pub file_stop : {n : ℕ} {x : BitPlace} → r ≡ Err (refusal n x) → TreeDone (Err (refusal n x)) t
        unfolding then tree_told
        file_stop e = (rw (file_on, templates_refused (templates_at s T 0 T p) (sym told ∙ e)) refl, table_filled)

        module _ {q : BitPlace} {m : Summary} (is : r ≡ Ok (q, m)) where
          all : ReadTemplates (templates_at s T 0 T p) q m
          all = templates_told_lem (templates_at s T 0 T p) (sym told ∙ is)

          pub file_within_lem : q.0 ≤ 8 * length s
          file_within_lem = templates_within s T 0 T p (field_got_lem s 0 8 counted).2 all.is

          module _ {z : Result BitPlace (Refusal BitPlace)} (ended : z ≡ past_told (padded_end s (tt {0}) q.0)) where
            pub file_set : {x : Refusal BitPlace} → z ≡ Err x → TreeDone (Err x) t
            unfolding then tree_told
            file_set e = (rw (file_on, all.is, (end_told all.templates s q.0).set_read (sym ended ∙ e)) refl, table_filled)

            pub file_read : {u : BitPlace} → z ≡ Ok u → TreeDone (Ok m) t
            unfolding then tree_told
            file_read e = (rw (file_on, all.is, (end_told all.templates s q.0).zero_read (sym ended ∙ e)) (ap Ok (sym all.summary)), table_filled)
