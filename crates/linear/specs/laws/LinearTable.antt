-- The table that reading an accepted linear file fills is the file's table. Assumes nothing.
use Prim.Native.Nat.{ℕ, zero, suc, ◌+◌, ◌*◌, ◌-◌, ◌≤◌, ◌<◌}
use native.Mathlib.Omega.{arith}
use Rattle.std.specs.Prelude.{◌≡◌, Bool, ◌&&◌}
use Rattle.std.proofs.Math.Path.{refl, ap}
use Rattle.std.proofs.Common.{sym, ◌∙◌, leb-true, length-append}
use Rattle.std.proofs.Math.Bool.{true, false, cond}
use mathlib.Core.List.{List, [], ◌∷◌, ◌++◌, map, append_assoc, append-nil}
use Rattle.std.proofs.Math.ListN.{length, set, replicate}
use Rattle.std.proofs.lemmas.List.Edits.{sets}
use Rattle.std.proofs.Math.Dec.{leb}
use Rattle.cells.specs.laws.Laws.{clash}
use Rattle.files.specs.Reading.{got, refused}
use Rattle.files.specs.Entries.{Entry, then, field, valid, entries_at, to_byte, zero_bits, nothing_more}
use Rattle.files.specs.laws.EntriesRead.{slots_all}
use Rattle.files.specs.Linear.{Linear, code_at, linear_template_at, linear_templates_at, linear_read}
use Rattle.files.specs.Table.{slot_of, row_of, linear_table}
use Rattle.files.specs.laws.TableLaws.{Few, row_length, rows_of, rows_length, linear_start, linear_entries, linear_rows_lem}
use Rattle.files.specs.laws.RowFilled.{row_filled_lem}
use Rattle.files.specs.Room.{RoomFor}
use Rattle.files.specs.laws.RoomLaws.{room_rows}
use Rattle.files.specs.laws.AllGot.{got_all, cond_all, zero_all, nothing_all, then_led, linears_read}
use Rattle.files.specs.Filled.{filled_then, templates_by, count_by}
use Rattle.linear.specs.Filled.{code_filled, entries_filled, template_filled, templates_filled, count_filled, linear_filled}

-- ---- one template
code_entries : (s : List ℕ) (es : List Entry) (k v : ℕ) {t : Linear} {q : ℕ} → code_at s es k v ≡ got t q → t.entries ≡ es
unfolding code_at
code_entries s es k v e =
    got_all (λ (t : Linear). t.entries ≡ es)
    (cond_all (λ (t : Linear). t.entries ≡ es) (leb (v + 8 * k) (8 * length s)) _ (refused 2 (8 * length s)) (λ h. refl) (λ h. tt)) e

zero_same : (s : List ℕ) (n p : ℕ) (es : List Entry) {fs : List Entry} {q : ℕ} → zero_bits s n p es ≡ got fs q → fs ≡ es
zero_same s n p es e = got_all (λ (fs : List Entry). fs ≡ es) (zero_all (λ (fs : List Entry). fs ≡ es) s n p es refl) e

module _ (s : List ℕ) (own T p : ℕ) (table : List ℕ) where
  template_filled_lem : {t : Linear} {q : ℕ} → linear_template_at s own T p ≡ got t q
      → template_filled s own T p table ≡ set (sets table (256 * own + 1) (map slot_of t.entries)) (256 * own) (linear_start t)
  unfolding linear_template_at
  template_filled_lem {t} {q} e =
      then_led (field s p 8) _ e
      (λ n r e₁ o₁. then_led (entries_at s own T n r) _ o₁ (λ es u e₂ o₂. then_led (zero_bits s (to_byte u) u es) _ o₂
      (λ fs v e₃ o₃. then_led (field s v 24) _ o₃
      (λ k w e₄ o₄. go n r es e₁ e₂ (code_entries s fs k w o₄ ∙ zero_same s (to_byte u) u es e₃)))))
    where
      go : (n r : ℕ) (es : List Entry) {u : ℕ} → field s p 8 ≡ got n r → entries_at s own T n r ≡ got es u → t.entries ≡ es
          → template_filled s own T p table ≡ set (sets table (256 * own + 1) (map slot_of t.entries)) (256 * own) (linear_start t)
      go n r es e₁ e₂ i =
          unfold template_filled code_filled entries_filled in
          (rw (e, e₁, slots_all s own T n r e₂)
          (ap (λ (es : List Entry). set (sets table (256 * own + 1) (map slot_of es)) (256 * own) (linear_start t)) (sym i)))

-- ---- templates from number own on, after the rows before them
rows_done : (pre : List ℕ) (k : ℕ) (ts : List Linear) → ts ≡ []
    → pre ++ replicate (256 * 0 + k) 0 ≡ (pre ++ rows_of linear_start linear_entries ts) ++ replicate k 0
unfolding rows_of
rows_done pre k ts e = let a : 256 * 0 + k ≡ k = omega arith in rw (e, a, append-nil pre)

module _ (s : List ℕ) (T : ℕ) where
  filled_row : (n own p : ℕ) (pre : List ℕ) (k : ℕ) (t : Linear) {q : ℕ} → length pre ≡ 256 * own → length t.entries < 256
      → linear_template_at s own T p ≡ got t q
      → template_filled s own T p (pre ++ replicate (256 * suc n + k) 0) ≡ (pre ++ row_of (linear_start t) t.entries) ++ replicate (256 * n + k) 0
  filled_row n own p pre k t h few e =
      let a : 256 * suc n + k - 256 ≡ 256 * n + k = omega arith in
      template_filled_lem s own T p (pre ++ replicate (256 * suc n + k) 0) e
      ∙ row_filled_lem pre own (linear_start t) (256 * suc n + k) t.entries h few (omega arith)
      ∙ rw a (sym (append_assoc pre (row_of (linear_start t) t.entries) (replicate (256 * n + k) 0)))

  -- the rows after the first are those that are filled from past it
  rows_on : (n own p : ℕ) (pre : List ℕ) (k : ℕ) (ts : List Linear) (t : Linear) (us : List Linear) (r : ℕ) → length pre ≡ 256 * own → Few linear_entries ts
      → ts ≡ t ∷ us → linear_template_at s own T p ≡ got t r
      → (length (pre ++ row_of (linear_start t) t.entries) ≡ 256 * (own + 1) → Few linear_entries us
      → templates_filled s T (own + 1) n r ((pre ++ row_of (linear_start t) t.entries) ++ replicate (256 * n + k) 0) ≡
      ((pre ++ row_of (linear_start t) t.entries) ++ rows_of linear_start linear_entries us) ++ replicate k 0)
      → templates_filled s T own (suc n) p (pre ++ replicate (256 * suc n + k) 0) ≡ (pre ++ rows_of linear_start linear_entries ts) ++ replicate k 0
  unfolding templates_by filled_then rows_of
  rows_on n own p pre k ts t us r h few i e on =
      let f : Few linear_entries (t ∷ us) = rw i at few in
      let l : length (pre ++ row_of (linear_start t) t.entries) ≡ 256 * (own + 1) = rw
      (length-append pre (row_of (linear_start t) t.entries), row_length (linear_start t) t.entries f.0) (omega arith) in
      rw (filled_row n own p pre k t h f.0 e, e, i, ← append_assoc pre (row_of (linear_start t) t.entries) (rows_of linear_start linear_entries us))
      (on l f.1)

  templates_filled_lem : (n own p : ℕ) (pre : List ℕ) (k : ℕ) (ts : List Linear) {q : ℕ} → length pre ≡ 256 * own → Few linear_entries ts
      → linear_templates_at s T own n p ≡ got ts q
      → templates_filled s T own n p (pre ++ replicate (256 * n + k) 0) ≡ (pre ++ rows_of linear_start linear_entries ts) ++ replicate k 0
  unfolding templates_by linear_templates_at
  templates_filled_lem zero own p pre k ts {q} h few e = rows_done pre k ts (sym cc)
  templates_filled_lem (suc n) own p pre k ts {q} h few e =
      then_led (linear_template_at s own T p) _ e
      (λ t r e₁ o₁. then_led (linear_templates_at s T (own + 1) n r) _ o₁ (λ us u e₂ o₂. rows_on n own p pre k ts t us r h few (sym cc) e₁
      (λ i j. templates_filled_lem n (own + 1) r (pre ++ row_of (linear_start t) t.entries) k us i j e₂)))

-- ---- the file, with a table of n numbers
module _ (s : List ℕ) (n : ℕ) where
  count_table : (T p : ℕ) (ts : List Linear) {q : ℕ} → T ≤ 64 → 256 * T ≤ n → linear_templates_at s T 0 T p ≡ got ts q
      → templates_filled s T 0 T p (replicate n 0) ≡ linear_table n ts
  unfolding linear_table
  count_table T p ts few room e =
      let k = linears_read s T few T 0 p e in
      let a : n ≡ 256 * T + (n - 256 * T) = omega arith in
      let b : n - 256 * T ≡ n - length (rows_of linear_start linear_entries ts) = omega (arith, rows_length linear_start linear_entries ts k.1) in
      ap (λ (m : ℕ). templates_filled s T 0 T p (replicate m 0)) a ∙ templates_filled_lem s T T 0 p [] (n - 256 * T) ts refl k.1 e
      ∙ ap (λ (m : ℕ). rows_of linear_start linear_entries ts ++ replicate m 0) b ∙ rw (linear_rows_lem ts)

  file_table : (T p : ℕ) (a b : Bool) → leb T 64 ≡ b → (T ≤ 64 → 256 * T ≤ n) → {ts : List Linear} {q : ℕ}
      → valid 0 (a && b) (then (linear_templates_at s T 0 T p) (λ ts q. nothing_more s q ts)) ≡ got ts q
      → cond (a && b) (templates_filled s T 0 T p (replicate n 0)) (replicate n 0) ≡ linear_table n ts
  file_table T p true true h room {ts} {q} e =
      let few = leb-true T 64 h in
      then_led (linear_templates_at s T 0 T p) _ e
      (λ us r e₁ o₁. count_table T p us few (room few) e₁
      ∙ ap (linear_table n) (sym (got_all (λ (vs : List Linear). vs ≡ us) (nothing_all (λ (vs : List Linear). vs ≡ us) s r us refl) o₁)))
  file_table T p true false h room e = clash (cc)
  file_table T p false b h room e = clash (cc)

  -- THE LAW
  pub linear_table_lem : {ts : List Linear} {q : ℕ} → RoomFor s n → linear_read s ≡ got ts q → linear_filled s (replicate n 0) ≡ linear_table n ts
  unfolding linear_read linear_filled count_by
  linear_table_lem {ts} {q} room e = go (leb (length s) 262144) refl e
    where
      go : (b : Bool) → leb (length s) 262144 ≡ b
          → cond b (then (field s 0 8) (λ T p. valid 0 (leb 1 T && leb T 64) (then (linear_templates_at s T 0 T p) (λ ts q. nothing_more s q ts))))
          (refused 1 0) ≡ got ts q
          → cond b (count_filled s (field s 0 8) (replicate n 0)) (replicate n 0) ≡ linear_table n ts
      go true i h =
          then_led (field s 0 8) _ h
          (λ T p e₁ o₁. rw e₁ (file_table T p (leb 1 T) (leb T 64) refl (room_rows s (leb-true (length s) 262144 i) room e₁) o₁))
      go false i h = clash (cc)
