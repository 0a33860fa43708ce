-- What holds of whatever is read: templates have fewer than 256 entries each, and a file has 1 to 64 templates. Assumes nothing.
use Prim.Native.Nat.{ℕ, zero, suc, ◌+◌, ◌*◌, ◌^◌, ◌≤◌, ◌<◌}
use Rattle.std.specs.Prelude.{◌≡◌, refl, Bool, true, false, cond, ◌&&◌, List, [], ◌∷◌, get_or, leb, eqb}
use Rattle.std.proofs.Common.{sym, ap, leb-true, add-zero, arith}
use Rattle.std.proofs.Math.ListN.{length}
use Rattle.cells.specs.laws.Laws.{clash}
use Rattle.fields.specs.Field.{bit_at, field_at}
use Rattle.fields.specs.laws.Laws.{read_cases, field_small}
use Rattle.files.specs.Reading.{Got, got, refused, list_at}
use Rattle.files.specs.Entries.{Entry, then, field_got, field, valid, entries_at, to_byte, zero_bits, nothing_more}
use Rattle.files.specs.laws.EntriesLaws.{entries_read}
use Rattle.files.specs.Tree.{Template, template_at, templates_at, padded_end, tree_read}
use Rattle.files.specs.Linear.{Linear, code_at, linear_template_at, linear_templates_at, linear_read}
use Rattle.files.specs.laws.TableLaws.{Few, tree_entries, linear_entries}

-- ---- what holds of whatever is read
abbrev pub AllGot : {A : Type 0} → (A → Type 0) → Got A → Type 0
AllGot Q (got a q) = Q a
AllGot Q (refused n p) = Unit

pub got_all : {A : Type 0} (Q : A → Type 0) {g : Got A} {a : A} {q : ℕ} → AllGot Q g → g ≡ got a q → Q a
got_all Q h e = rw e at h

pub then_all : {A B : Type 0} (Q : B → Type 0) (g : Got A) (f : A → ℕ → Got B) → ((a : A) (q : ℕ) → g ≡ got a q → AllGot Q (f a q)) → AllGot Q (then g f)
unfolding then
then_all Q (got a q) f h = h a q refl
then_all Q (refused n p) f h = tt

pub cond_all : {A : Type 0} (Q : A → Type 0) (b : Bool) (g h : Got A) → (b ≡ true → AllGot Q g) → (b ≡ false → AllGot Q h) → AllGot Q (cond b g h)
cond_all Q true g h i j = i refl
cond_all Q false g h i j = j refl

pub valid_all : {A : Type 0} (Q : A → Type 0) (p : ℕ) (b : Bool) (g : Got A) → (b ≡ true → AllGot Q g) → AllGot Q (valid p b g)
valid_all Q p true g h = h refl
valid_all Q p false g h = tt

pub nothing_all : {A : Type 0} (Q : A → Type 0) (s : List ℕ) (p : ℕ) (a : A) → Q a → AllGot Q (nothing_more s p a)
unfolding nothing_more
nothing_all Q s p a h = cond_all Q (eqb p (8 * length s)) (got a p) (refused 5 p) (λ e. h) (λ e. tt)

pub zero_all : {A : Type 0} (Q : A → Type 0) (s : List ℕ) (n p : ℕ) (a : A) → Q a → AllGot Q (zero_bits s n p a)
unfolding zero_bits
zero_all Q s zero p a h = h
zero_all Q s (suc n) p a h = cond_all Q (eqb (bit_at s p) 0) (zero_bits s n (p + 1) a) (refused 5 p) (λ e. zero_all Q s n (p + 1) a h) (λ e. tt)

pub field_all : (s : List ℕ) (p w : ℕ) → AllGot (λ v. v < 2 ^ w) (field s p w)
unfolding field field_got
field_all s p w = read_cases s p w (λ f. AllGot (λ v. v < 2 ^ w) (field_got p f)) tt (λ h. field_small s p w)

-- ---- what led to what was read
pub refused_got : {A B : Type 0} {n p q : ℕ} {a : A} → ◌≡◌ {A = Got A} (refused n p) (got a q) → B
refused_got e = clash (cc)

pub got_value : {A : Type 0} {a b : A} {p q : ℕ} → ◌≡◌ {A = Got A} (got a p) (got b q) → (a ≡ b) × (p ≡ q)
got_value e = (cc, cc)

-- what was read first, and how it went on
pub then_led : {A B C : Type 0} (g : Got A) (f : A → ℕ → Got B) {b : B} {q : ℕ} → then g f ≡ got b q → ((a : A) (p : ℕ) → g ≡ got a p → f a p ≡ got b q → C) → C
unfolding then
then_led (got a p) f e k = k a p refl e
then_led (refused n p) f e k = refused_got e

-- a field that was read, and where it ends: within the file
pub field_got_lem : (s : List ℕ) (p w : ℕ) {v q : ℕ} → field s p w ≡ got v q → (v ≡ field_at s p w) × (q ≡ p + w) × (q ≤ 8 * length s)
unfolding field field_got
field_got_lem s p w {v} {q} =
    read_cases s p w (λ f. field_got p f ≡ got v q → (v ≡ field_at s p w) × (q ≡ p + w) × (q ≤ 8 * length s)) (λ e. refused_got e)
    (λ h e. let k = got_value e in (sym k.0, sym k.1, rw k.1 at h))

-- ---- P of each of some templates and its number, from n on
abbrev pub Each : {A : Type 0} → (ℕ → A → Type 0) → ℕ → List A → Type 0
Each P n [] = Unit {0}
Each P n (t ∷ ts) = P n t × Each P (n + 1) ts

pub each_weaker : {A : Type 0} {P Q : ℕ → A → Type 0} → ((n : ℕ) (t : A) → P n t → Q n t) → (n : ℕ) (ts : List A) → Each P n ts → Each Q n ts
each_weaker f n [] h = tt
each_weaker f n (t ∷ ts) h = (f n t h.0, each_weaker f (n + 1) ts h.1)

-- the template at index i
pub each_at : {A : Type 0} (P : ℕ → A → Type 0) (n : ℕ) (ts : List A) → Each P n ts → (i : ℕ) → i < length ts → (d : A) → P (n + i) (get_or ts i d)
each_at P n [] h i lt d = absurd (omega arith)
each_at P n (t ∷ ts) h zero lt d = rw (add-zero n) h.0
each_at P n (t ∷ ts) h (suc i) lt d = let e : n + suc i ≡ n + 1 + i = omega arith in rw e (each_at P (n + 1) ts h.1 i (omega arith) d)

-- ---- templates, one after the other
module _ {A : Type 0} (entries : A → List Entry) where
  abbrev pub FewEntries : A → Type 0
  FewEntries t = length (entries t) < 256

  abbrev pub Counted : ℕ → List A → Type 0
  Counted n ts = (length ts ≡ n) × Few entries ts

  abbrev pub Templates : List A → Type 0
  Templates ts = (1 ≤ length ts) × ((length ts ≤ 64) × Few entries ts)

  pub counted_more : (n : ℕ) (g : Got A) (f : ℕ → Got (List A)) → AllGot FewEntries g → ((q : ℕ) → AllGot (Counted n) (f q))
      → AllGot (Counted (suc n)) (then g (λ t q. then (f q) (λ ts r. got (t ∷ ts) r)))
  counted_more n g f h i =
      then_all (Counted (suc n)) g _
      (λ t q e. then_all (Counted (suc n)) (f q) _ (λ ts r e₂. (let k = got_all (Counted n) (i q) e₂ in (ap suc k.0, (got_all FewEntries h e, k.1)))))

  -- a file that begins with the number of its templates
  pub file_all : (s : List ℕ) (read : ℕ → ℕ → Got (List A)) (ending : List A → ℕ → Got (List A)) → ((T p : ℕ) → T ≤ 64 → AllGot (Counted T) (read T p))
      → ((ts : List A) (q : ℕ) → Templates ts → AllGot Templates (ending ts q))
      → AllGot Templates (then (field s 0 8) (λ T p. valid 0 (leb 1 T && leb T 64) (then (read T p) (λ ts q. ending ts q))))
  file_all s read ending h i = then_all Templates (field s 0 8) _ (λ T p e. go T p (leb 1 T) (leb T 64) refl refl)
    where
      go : (T p : ℕ) (a b : Bool) → leb 1 T ≡ a → leb T 64 ≡ b → AllGot Templates (valid 0 (a && b) (then (read T p) (λ ts q. ending ts q)))
      go T p true true a b =
          then_all Templates (read T p) _
          (λ ts q e. (let k = got_all (Counted T) (h T p (leb-true T 64 b)) e in i ts q
          (omega (arith, leb-true 1 T a), (omega (arith, leb-true T 64 b), k.1))))
      go T p true false a b = tt
      go T p false b x y = tt

-- ---- the templates of a tree file and of a linear file
module _ (s : List ℕ) (T : ℕ) (few : T ≤ 64) where
  entries_few : (own n p q : ℕ) {es : List Entry} {r : ℕ} → field s p 8 ≡ got n q → entries_at s own T n q ≡ got es r → length es < 256
  entries_few own n p q e e₂ = rw (entries_read s own T few n q e₂).count (got_all (λ v. v < 256) (field_all s p 8) e)

  template_all : (own p : ℕ) → AllGot (FewEntries tree_entries) (template_at s own T p)
  unfolding template_at
  template_all own p =
      then_all _ (field s p 8) _
      (λ n q e. then_all _ (entries_at s own T n q) _ (λ es r e₂. then_all _ (list_at s 15 r) _ (λ c z e₃. entries_few own n p q e e₂)))

  templates_all : (n own p : ℕ) → AllGot (Counted tree_entries n) (templates_at s T own n p)
  unfolding templates_at
  templates_all zero own p = (refl, tt)
  templates_all (suc n) own p = counted_more tree_entries n (template_at s own T p) (templates_at s T (own + 1) n) (template_all own p)
      (templates_all n (own + 1))

  code_all_lem : (n p : ℕ) (es : List Entry) → length es < 256 → AllGot (FewEntries linear_entries) (code_at s es n p)
  unfolding code_at
  code_all_lem n p es h = cond_all (FewEntries linear_entries) (leb (p + 8 * n) (8 * length s)) _ _ (λ e. h) (λ e. tt)

  linear_all : (own p : ℕ) → AllGot (FewEntries linear_entries) (linear_template_at s own T p)
  unfolding linear_template_at
  linear_all own p =
      then_all _ (field s p 8) _ (λ n q e. then_all _ (entries_at s own T n q) _ (λ es r e₂. then_all _ (zero_bits s (to_byte r) r es) _
      (λ es₂ u e₃. then_all _ (field s u 24) _
      (λ k v e₄. code_all_lem k v es₂ (got_all (λ xs. length xs < 256)
      (zero_all (λ xs. length xs < 256) s (to_byte r) r es (entries_few own n p q e e₂)) e₃)))))

  linears_all : (n own p : ℕ) → AllGot (Counted linear_entries n) (linear_templates_at s T own n p)
  unfolding linear_templates_at
  linears_all zero own p = (refl, tt)
  linears_all (suc n) own p =
      counted_more linear_entries n (linear_template_at s own T p) (linear_templates_at s T (own + 1) n) (linear_all own p) (linears_all n (own + 1))

  -- n templates were read
  pub linears_read : (n own p : ℕ) {ts : List Linear} {q : ℕ} → linear_templates_at s T own n p ≡ got ts q → Counted linear_entries n ts
  linears_read n own p e = got_all (Counted linear_entries n) (linears_all n own p) e

-- a tree file and a linear file have 1 to 64 templates of fewer than 256 entries
pub tree_read_lem : (s : List ℕ) {ts : List Template} {q : ℕ} → tree_read s ≡ got ts q → Templates tree_entries ts
unfolding tree_read padded_end
tree_read_lem s e =
    got_all (Templates tree_entries)
    (cond_all (Templates tree_entries) (leb (length s) 65536) _ (refused 1 0)
    (λ i. file_all tree_entries s (λ T p. templates_at s T 0 T p) (λ ts q. padded_end s ts q) (λ T p few. templates_all s T few T 0 p)
    (λ ts q h. then_all (Templates tree_entries) (zero_bits s (to_byte q) q ts) _
    (λ us r e. nothing_all (Templates tree_entries) s r us
    (got_all (Templates tree_entries) (zero_all (Templates tree_entries) s (to_byte q) q ts h) e)))) (λ i. tt)) e

pub linear_read_lem : (s : List ℕ) {ts : List Linear} {q : ℕ} → linear_read s ≡ got ts q → Templates linear_entries ts
unfolding linear_read
linear_read_lem s e =
    got_all (Templates linear_entries)
    (cond_all (Templates linear_entries) (leb (length s) 262144) _ (refused 1 0)
    (λ i. file_all linear_entries s (λ T p. linear_templates_at s T 0 T p) (λ ts q. nothing_more s q ts) (λ T p few. linears_all s T few T 0 p)
    (λ ts q h. nothing_all (Templates linear_entries) s q ts h)) (λ i. tt)) e
