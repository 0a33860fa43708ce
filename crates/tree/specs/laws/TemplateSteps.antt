-- What the readers of templates do at each step, by what was read there. Assumes nothing.
use Rattle.std.specs.Prelude.{ℕ, suc, ◌+◌, ◌*◌, ◌-◌, ◌≤◌, ◌<◌, ◌≡◌, take, replicate, Result, Ok, Err}
use native.Mathlib.Omega.{arith}
use Rattle.std.proofs.Math.Path.{refl, ap}
use Rattle.std.proofs.Common.{sym, ◌∙◌}
use mathlib.Core.List.{List, ◌∷◌}
use Rattle.std.proofs.Math.ListN.{length, set}
use Rattle.std.proofs.lemmas.List.Edits.{sets}
use Rattle.cells.specs.laws.Laws.{clash}
use Rattle.cells.specs.declared.BitPlace.{BitPlace}
use Rattle.files.specs.Code.{Code}
use Rattle.files.specs.Reading.{Got, got, refused, list_at}
use Rattle.files.specs.laws.ReadingLaws.{list_bits_lem, list_valid, flat_bits}
use Rattle.files.specs.Entries.{Entry, then, field, entries_at}
use Rattle.files.specs.laws.EntriesLaws.{entries_read}
use Rattle.files.specs.EntriesRead.{slots_at}
use Rattle.files.specs.laws.EntriesRead.{slots_all}
use Rattle.files.specs.Linear.{entries_bits, template_bytes}
use Rattle.files.specs.Tree.{Template, template_at, templates_at}
use Rattle.files.specs.RowFilled.{Unfilled}
use Rattle.files.specs.laws.RowFilled.{front_length, row_table}
use Rattle.lists.specs.declared.Facts.{Facts}
use Rattle.lists.specs.Facts.{facts_of}
use Rattle.lists.specs.laws.PassLaws.{closed_class}
use Rattle.lists.specs.laws.SlotLaws.{Row, slots_named, slots_close_lem, row_among}
use Rattle.files.specs.Filled.{filled_then, templates_by}
use Rattle.tree.specs.declared.Report.{Report}
use Rattle.tree.specs.declared.Summary.{Summary}
use Rattle.tree.specs.Summary.{report_of, report_by, template_told, templates_told, summary_after, begun, summary_from, told_from}
use Rattle.tree.specs.laws.SummaryLaws.{template_length, summary_all}
use Rattle.tree.specs.Filled.{start_filled, row_filled, template_filled, templates_filled}
use Rattle.tree.specs.laws.Parts.{template_parts, templates_count}
use Rattle.tree.specs.laws.FilledLaws.{template_unfilled}
use Rattle.files.specs.declared.Refusal.{Refusal}
use Rattle.files.specs.Refusal.{refusal}
use Rattle.files.specs.laws.RefusalLaws.{ok_first, ok_second, err_number, err_place}

-- ---- template own of T at p
module _ (s : List ℕ) (own T p : ℕ) (table : List ℕ) where
  -- the answer r and the table t that its reader leaves
  abbrev pub TemplateDone : Result (BitPlace × Report) (Refusal BitPlace) → List ℕ → Type 0
  TemplateDone r t = (r ≡ template_told (template_at s own T p)) × (t ≡ template_filled s own T p table)

  pub count_cut : {n m : ℕ} → field s p 8 ≡ refused n m → TemplateDone (Err (refusal n (record { 0 = m }))) table
  unfolding template_at then template_told template_filled row_filled
  count_cut e = rw e (refl, refl)

  module _ {n q : ℕ} {t : List ℕ} (number : field s p 8 ≡ got n q) (stored : t ≡ sets table (256 * own + 1) (slots_at s own T n q)) where
    pub entries_stop : {m : ℕ} {x : BitPlace} → entries_at s own T n q ≡ refused m x.0 → TemplateDone (Err (refusal m x)) t
    unfolding template_at then template_told template_filled row_filled start_filled
    entries_stop e = rw (number, e) (refl, stored)

    module _ {es : List Entry} {r : ℕ} (entries : entries_at s own T n q ≡ got es r) where
      pub list_stop : {m : ℕ} {x : BitPlace} → list_at s 15 r ≡ refused m x.0 → TemplateDone (Err (refusal m x)) (set t (256 * own) r)
      unfolding template_at then template_told template_filled row_filled start_filled
      list_stop e = rw (number, entries, e) (refl, ap (λ (l : List ℕ). set l (256 * own) r) stored)

      module _ (few : T ≤ 64) (small : n < 256) (own-less : own < T) (unfilled : Unfilled T own table) {c : Code} {z : BitPlace} {f : Facts}
          (list : list_at s 15 r ≡ got c z.0) (facts : f ≡ facts_of (set t (256 * own) r) own c) where
        row : Row (set t (256 * own) r) own es
        row =
            let k : length es < 256 = rw (entries_read s own T few n q entries).count small in
            rw (stored, slots_all s own T n q entries, row_table T own table own-less unfilled r es k)
            (row_among (take (256 * own) table) (replicate (length table - 256 * own - 256) 0) own r es
            (front_length T own table own-less unfilled) (omega arith))

        report : report_by f (r - q) ≡ report_of (record { entries = es; start = r; code = c })
        unfolding report_by report_of facts_of
        report =
            let b : r - q ≡ length (entries_bits es) = omega (arith, (entries_read s own T few n q entries).past) in
            let ok = (entries_read s own T few n q entries).ok in
            let v = list_valid s 15 r c z.0 list in
            rw (
              facts,
              b,
              slots_named (set t (256 * own) r) own T es row ok c v,
              slots_close_lem (set t (256 * own) r) own T es row ok c v,
              template_length (record { entries = es; start = r; code = c }),
              closed_class c,
            ) refl

        pub list_done : {o : Report} → o ≡ report_by f (r - q) → TemplateDone (Ok (z, o)) (set t (256 * own) r)
        unfolding template_at then template_told template_filled row_filled start_filled
        list_done e = rw (number, entries, list, e, report) (refl, ap (λ (l : List ℕ). set l (256 * own) r) stored)

-- ---- what was told was read
pub record ReadTemplate (g : Got Template) (q : BitPlace) (o : Report) : Type 0 where
  pub template : Template
  pub is : g ≡ got template q.0
  pub report : report_of template ≡ o

pub template_told_lem : (g : Got Template) {q : BitPlace} {o : Report} → template_told g ≡ Ok (q, o) → ReadTemplate g q o
unfolding template_told
template_told_lem (got t z) {q} {o} h =
    record { template = t; is = ap (λ (b : BitPlace). got t b.0) (ok_first h); report = ok_second h }
template_told_lem (refused n z) h = clash (cc)

template_refused : (g : Got Template) {n : ℕ} {p : BitPlace} → template_told g ≡ Err (refusal n p) → g ≡ refused n p.0
unfolding template_told
template_refused (got t z) h = clash (cc)
template_refused (refused m z) {n} {p} h = rw (err_number h, ← (err_place h))

-- a template takes few bytes
template_small : (s : List ℕ) (own T p : ℕ) {t : Template} {q : ℕ} → length s ≤ 65536 → T ≤ 64 → template_at s own T p ≡ got t q
    → length (template_bytes t) ≤ 2097152
template_small s own T p {t} {q} h few e =
    let a = template_parts s own T p e in
    let b = list_bits_lem s 15 t.start t.code q a.list in
    let k = (entries_read s own T few a.count a.first a.entries).past in
    omega (arith, template_length t, flat_bits t.code)

-- ---- a template was read: r is the answer, t the table that its reader leaves
module _ (s : List ℕ) (own T p : ℕ) (table : List ℕ) (few : T ≤ 64) {r : Result (BitPlace × Report) (Refusal BitPlace)} {t : List ℕ}
    (done : TemplateDone s own T p table r t) {q : BitPlace} {o : Report} (is : r ≡ Ok (q, o)) where
  pub this : ReadTemplate (template_at s own T p) q o
  this = template_told_lem (template_at s own T p) (sym done.0 ∙ is)

  pub next_unfilled : own < T → Unfilled T own table → Unfilled T (own + 1) t
  next_unfilled less u = rw done.1 (template_unfilled s own T p few this.is table less u)

  pub next_small : length s ≤ 65536 → o.size ≤ 2097152
  unfolding report_of
  next_small h = rw (← this.report) (template_small s own T p h few this.is)

-- ---- templates own to T from p on, where m is the summary of those before
module _ (s : List ℕ) (T own p : ℕ) (table : List ℕ) (m : Summary) where
  abbrev pub TemplatesDone : Result (BitPlace × Summary) (Refusal BitPlace) → List ℕ → Type 0
  TemplatesDone r t = (r ≡ told_from own m (templates_at s T own (T - own) p)) × (t ≡ templates_filled s T own (T - own) p table)

  pub templates_none : T ≤ own → TemplatesDone (Ok (record { 0 = p }, m)) table
  unfolding templates_at templates_by told_from summary_from
  templates_none h = let k : T - own ≡ 0 = omega arith in rw k (refl, refl)

  module _ {r : Result (BitPlace × Report) (Refusal BitPlace)} {t : List ℕ} (less : own < T) (done : TemplateDone s own T p table r t) where
    one_left : T - own ≡ suc (T - (own + 1))
    one_left = omega arith

    pub templates_stop : {n : ℕ} {x : BitPlace} → r ≡ Err (refusal n x) → TemplatesDone (Err (refusal n x)) t
    unfolding templates_at templates_by then filled_then told_from
    templates_stop e = rw (one_left, template_refused (template_at s own T p) (sym done.0 ∙ e)) (refl, done.1)

    told_more : (a : Template) (g : Got (List Template))
        → told_from own m (then g (λ ts q. got (a ∷ ts) q)) ≡ told_from (own + 1) (summary_after own (report_of a) m) g
    unfolding then told_from summary_from
    told_more a (got ts q) = refl
    told_more a (refused n x) = refl

    pub templates_on : {q : BitPlace} {o : Report} {m' : Summary} → T ≤ 64 → r ≡ Ok (q, o) → m' ≡ summary_after own o m
        → (told_from own m (templates_at s T own (T - own) p) ≡ told_from (own + 1) m' (templates_at s T (own + 1) (T - (own + 1)) q.0))
        × (templates_filled s T own (T - own) p table ≡ templates_filled s T (own + 1) (T - (own + 1)) q.0 t)
    unfolding templates_at templates_by then filled_then
    templates_on {q} {o} few is e =
        let a : ReadTemplate (template_at s own T p) q o = this s own T p table few done is in
        let k : _ ≡ summary_after own (report_of a.template) m = e ∙ ap (λ (x : Report). summary_after own x m) (sym a.report) in
        rw (one_left, a.is, k)
        (told_more a.template (templates_at s T (own + 1) (T - (own + 1)) q.0), ap (templates_filled s T (own + 1) (T - (own + 1)) q.0) (sym done.1))

-- ---- all templates
pub told_all : (s : List ℕ) (T p : ℕ) → T ≤ 64 → templates_told (templates_at s T 0 T p) ≡ told_from 0 (begun T) (templates_at s T 0 T p)
unfolding templates_told told_from
told_all s T p h = go (templates_at s T 0 T p) refl
  where
    go : (g : Got (List Template)) → templates_at s T 0 T p ≡ g → templates_told g ≡ told_from 0 (begun T) g
    go (got ts q) e =
        let k : length ts ≡ T = templates_count s T T 0 p e in ap (λ (m : Summary). Ok (record { 0 = q }, m)) (sym (rw k at (summary_all ts (omega arith))))
    go (refused n x) e = refl
