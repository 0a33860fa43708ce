-- What an operand is refused for, or accepted as, by what its readers answer. Assumes nothing.
use Rattle.std.specs.Prelude.{ℕ, ◌+◌, ◌≤◌, ◌<◌, ◌≡◌, Bool, true, false, List, [], ◌∷◌, length, get_or, Ok, Err}
use Rattle.std.proofs.Common.{arith, ◌∙◌}
use Rattle.std.proofs.Math.Path.{refl, sym, ap}
use Rattle.std.proofs.Math.Option.{none}
use Rattle.cells.specs.laws.Laws.{clash}
use Rattle.cells.specs.declared.BitPlace.{BitPlace}
use Rattle.files.specs.Code.{Code, bits}
use Rattle.files.specs.Reading.{Got, got, refused, list_at}
use Rattle.files.specs.Entries.{then}
use Rattle.files.specs.laws.AllGot.{got_value, refused_got}
use Rattle.files.specs.Tree.{Template, tree_read}
use Rattle.files.specs.Grammar.{is_open, is_closed, lowest, closed_template, indexed_template}
use Rattle.files.specs.laws.AcceptedLaws.{lowest_none}
use Rattle.files.specs.Accepted.{or_lowest}
use Rattle.lists.specs.declared.Class.{Class}
use Rattle.lists.specs.declared.Class.TheVariants.{Empty, Open, Closed, Neither}
use Rattle.lists.specs.declared.Facts.{Facts}
use Rattle.lists.specs.Facts.{says_open, says_closed, class_of, facts_of, listed}
use Rattle.lists.specs.laws.PassLaws.{open_class, closed_class}
use Rattle.lists.specs.laws.ReadLaws.{listed_done, listed_refused}
use Rattle.tree.specs.declared.Summary.{Summary}
use Rattle.tree.specs.Summary.{number_or64, summary_of, tree_told, judged_told}
use Rattle.files.specs.Room.{ZerosFor}
use Rattle.tree.specs.Filled.{tree_filled}
use Rattle.tree.specs.laws.FilledLaws.{tree_tabled}
use Rattle.tree.specs.laws.Judged.{ReadAs, tree_told_lem, number_some, number_none}
use Rattle.join.specs.Join.{is_prologue, indices_checked, prologue_checked, unclosed, second_checked, operand_checked}
use Rattle.join.specs.Operands.{Operand, Unclosed}
use Rattle.join.specs.laws.OperandsLaws.{file_count, slot_start, list_read}
use Rattle.files.specs.Refusal.{refusal}
use Rattle.files.specs.laws.RefusalLaws.{err_number, err_place}

-- ---- a prologue has one template
pub more_templates : (ts : List Template) → (length ts ≡ 1 → ⊥) → false ≡ is_prologue ts
unfolding is_prologue
more_templates [] h = refl
more_templates (t ∷ []) h = absurd (h refl)
more_templates (t ∷ u ∷ ts) h = refl

-- the one template
pub record One (ts : List Template) : Type 0 where
  pub the : Template
  pub is : ts ≡ the ∷ []

pub one : (ts : List Template) → length ts ≡ 1 → One ts
one [] e = absurd (omega arith)
one (t ∷ []) e = record { the = t; is = refl }
one (t ∷ u ∷ ts) e = absurd (omega arith)

module _ {s table : List ℕ} {count : ℕ} (w : Operand s table count) (single : count ≡ 1) (at : ℕ) (at_is : at ≡ get_or table 0 0) where
  it : One w.templates
  it = one w.templates (sym w.count_is ∙ single)

  list_is : list_at s 15 at ≡ got it.the.code (it.the.start + bits it.the.code)
  list_is =
      let t = it.the in
      let r : tree_read s ≡ got (t ∷ []) w.past = rw it.is at w.read in
      let z : get_or table 0 0 ≡ t.start = slot_start s (t ∷ []) w.past r 0 t (omega arith) w.size (rw it.is at w.filled) in
      ap (list_at s 15) (at_is ∙ z) ∙ list_read s (t ∷ []) w.past r 0 t (omega arith)

  pub prologue_class : (q : BitPlace) (f : Facts) → listed table 0 (list_at s 15 at) ≡ Ok (q, f) → says_open f.class ≡ is_prologue w.templates
  unfolding is_prologue facts_of
  prologue_class q f e =
      let x = listed_done table 0 (list_at s 15 at) q f e in
      let c : x.0 ≡ it.the.code = (got_value (sym x.1 ∙ list_is)).0 in
      let k : class_of x.0 ≡ f.class = ap (λ (y : Facts). y.class) x.2 in
      rw it.is (ap says_open (sym k) ∙ sym (open_class x.0) ∙ ap is_open c)

  pub prologue_refused : (n : ℕ) (q : BitPlace) → listed table 0 (list_at s 15 at) ≡ Err (refusal n q) → false ≡ is_prologue w.templates
  prologue_refused n q e = refused_got (sym (listed_refused table 0 (list_at s 15 at) n q e) ∙ list_is)

-- ---- where all lists are closed there is no prologue
one_said : (k : Class) → says_closed k ≡ true → says_open k ≡ false
unfolding says_open says_closed
one_said Empty e = refl
one_said Open e = clash (cc)
one_said Closed e = refl
one_said Neither e = refl

closed_not_open : (c : Code) → is_closed c ≡ true → is_open c ≡ false
closed_not_open c e =
    open_class c ∙ one_said (class_of c) (sym (closed_class c) ∙ e)

none_open : (ts : List Template) → lowest closed_template 0 ts ≡ none → false ≡ is_prologue ts
unfolding is_prologue
none_open [] e = refl
none_open (t ∷ []) e = sym (closed_not_open t.code (lowest_none closed_template 0 t [] e).0)
none_open (t ∷ u ∷ ts) e = refl

pub all_closed : {s table : List ℕ} {count n : ℕ} → Unclosed s table count n → 64 ≤ n → (w : Operand s table count) → false ≡ is_prologue w.templates
all_closed {s} u h w =
    let few : 0 + length w.templates ≤ 64 = omega (arith, file_count s w.templates w.past w.read) in
    none_open w.templates (number_none closed_template 0 w.templates few (rw (u w) h))

-- ---- a file that was read
module _ (s : List ℕ) {m : Summary} (told : tree_told (tree_read s) ≡ Ok m) where
  pub file : ReadAs (tree_read s) m
  file = tree_told_lem (tree_read s) told

  abbrev pub ts : List Template
  ts = file.templates

  pub operand_read : {table table' : List ℕ} → ZerosFor s table → table' ≡ tree_filled s table → Operand s table' m.count
  unfolding summary_of
  operand_read z e =
      record {
        templates = ts;
        past = file.past;
        read = file.is;
        size = z.size;
        filled = tree_tabled s file.is z e;
        count_is = sym (ap (λ (x : Summary). x.count) file.summary);
      }

  -- what is asked of an operand is told of these templates
  pub prologue_told : {table table' : List ℕ} {b : Bool} → ZerosFor s table → table' ≡ tree_filled s table
      → ((w : Operand s table' m.count) → b ≡ is_prologue w.templates) → is_prologue ts ≡ b
  unfolding operand_read
  prologue_told z e f = sym (f (operand_read z e))

  few : 0 + length ts ≤ 64
  few = omega (arith, file_count s ts file.past file.is)

  unclosed_is : number_or64 (lowest closed_template 0 ts) ≡ m.unclosed
  unfolding summary_of
  unclosed_is = ap (λ (x : Summary). x.unclosed) file.summary

  -- as a file is told by what was read of it
  pub unclosed_told : {table : List ℕ} {count : ℕ} → Unclosed s table count m.unclosed
  unclosed_told w = ap (λ (us : List Template). number_or64 (lowest closed_template 0 us)) (got_value (sym w.read ∙ file.is)).0 ∙ unclosed_is

  misnamed_is : number_or64 (lowest indexed_template 0 ts) ≡ m.misnamed
  unfolding summary_of
  misnamed_is = ap (λ (x : Summary). x.misnamed) file.summary

  -- 7
  misnamed : m.misnamed < 64 → indices_checked ts file.past ≡ refused 7 m.misnamed
  unfolding indices_checked or_lowest
  misnamed h = rw (number_some (lowest indexed_template 0 ts) (rw misnamed_is h), misnamed_is) refl

  named : 64 ≤ m.misnamed → judged_told (indices_checked ts file.past) ≡ Ok m
  unfolding indices_checked or_lowest judged_told
  named h = rw (number_none indexed_template 0 ts few (rw misnamed_is h)) (ap Ok file.summary)

  -- an operand that passes 6
  pub operand_open : (or_closed : Bool) → is_prologue ts ≡ true → operand_checked or_closed s ≡ indices_checked ts file.past
  unfolding prologue_checked second_checked then unclosed or_lowest
  operand_open false e = rw (file.is, e) refl
  operand_open true e = rw (file.is, e) refl

  pub operand_closed : (or_closed : Bool) → or_closed ≡ true → is_prologue ts ≡ false → 64 ≤ m.unclosed
      → operand_checked or_closed s ≡ indices_checked ts file.past
  unfolding second_checked then unclosed or_lowest
  operand_closed false c e h = clash (cc)
  operand_closed true c e h = rw (file.is, e, number_none closed_template 0 ts few (rw unclosed_is h)) refl

  module _ {g : Got (List Template)} (passed : g ≡ indices_checked ts file.past) where
    pub operand_misnamed : m.misnamed < 64 → Err (refusal 7 m.misnamed) ≡ judged_told g
    unfolding judged_told
    operand_misnamed h = rw (passed, misnamed h) refl

    pub operand_good : 64 ≤ m.misnamed → Ok m ≡ judged_told g
    operand_good h = sym (ap judged_told passed ∙ named h)

  -- 6
  pub operand_other : (or_closed : Bool) → or_closed ≡ false → is_prologue ts ≡ false → Err (refusal 6 0) ≡ judged_told (operand_checked or_closed s)
  unfolding prologue_checked then judged_told
  operand_other false c e = rw (file.is, e) refl
  operand_other true c e = clash (cc)

  pub operand_unclosed : (or_closed : Bool) → or_closed ≡ true → is_prologue ts ≡ false → m.unclosed < 64
      → Err (refusal 6 m.unclosed) ≡ judged_told (operand_checked or_closed s)
  unfolding second_checked then unclosed or_lowest judged_told
  operand_unclosed false c e h = clash (cc)
  operand_unclosed true c e h = rw (file.is, e, number_some (lowest closed_template 0 ts) (rw unclosed_is h), unclosed_is) refl

-- ---- a file that was not
tree_refused : (g : Got (List Template)) {n : ℕ} {p : BitPlace} → tree_told g ≡ Err (refusal n p) → g ≡ refused n p.0
unfolding tree_told
tree_refused (got ts z) h = clash (cc)
tree_refused (refused m z) {n} {p} h = rw (err_number h, ← (err_place h))

module _ (s : List ℕ) {n : ℕ} {p : BitPlace} (told : tree_told (tree_read s) ≡ Err (refusal n p)) where
  pub operand_unread : (or_closed : Bool) → Err (refusal n p.0) ≡ judged_told (operand_checked or_closed s)
  unfolding prologue_checked second_checked then judged_told
  operand_unread false = rw (tree_refused (tree_read s) told) refl
  operand_unread true = rw (tree_refused (tree_read s) told) refl
