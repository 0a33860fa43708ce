-- The programs of files that are read are ok. Assumes nothing.
use Prim.Native.Nat.{ℕ, zero, suc, ◌+◌, ◌*◌, ◌/◌, ◌≤◌, ◌<◌}
use Rattle.std.proofs.Common.{arith, ap, leb-true}
use Rattle.std.specs.Prelude.{◌≡◌, refl, Bool, true, false, ◌&&◌, List, ◌∷◌, leb, get_or, drop}
use Rattle.std.proofs.Math.Option.{Option, none, some}
use Rattle.std.proofs.Math.ListN.{length, length-take, length-drop}
use Rattle.files.specs.Entries.{Entry, then, field, valid, entries_at, to_byte, zero_bits, nothing_more}
use Rattle.files.specs.laws.EntriesLaws.{EntriesOk, entries_read}
use Rattle.files.specs.Reading.{Got, got, refused, list_at}
use Rattle.files.specs.laws.ReadingLaws.{list_bits_lem, list_valid}
use Rattle.files.specs.laws.AllGot.{AllGot, got_all, then_all, cond_all, nothing_all, zero_all, Each, each_at}
use Rattle.files.specs.Tree.{Template, template_at, templates_at, padded_end, tree_read}
use Rattle.files.specs.Linear.{Linear, code_at, linear_template_at, linear_templates_at, linear_read}
use Rattle.files.specs.Orphans.{lowest_orphan}
use Rattle.files.specs.Accepted.{or_lowest, tree_checked, tree_accepted}
use Rattle.files.specs.Grammar.{lowest, closed_template, indexed_template}
use Rattle.files.specs.Valid.{Bytes}
use Rattle.machines.specs.Fetched.{no_template, no_linear}
use Rattle.machines.specs.Machine.{tree_program, linear_program}
use Rattle.files.specs.laws.BytesLaws.{bytes_take, bytes_drop}
use Rattle.sound.specs.laws.Programs.{ProgramOk, TemplateOk, LinearOk, tree_program_ok, linear_program_ok}

-- ---- templates one after the other, each with its number
module _ {A : Type 0} where
  -- n of them, from number own on
  abbrev Numbered : (ℕ → A → Type 0) → ℕ → ℕ → List A → Type 0
  Numbered Q n own ts = (length ts ≡ n) × Each Q own ts

  one_more : (Q : ℕ → A → Type 0) (n own : ℕ) (g : Got A) (f : ℕ → Got (List A)) → AllGot (Q own) g → ((q : ℕ) → AllGot (Numbered Q n (own + 1)) (f q))
      → AllGot (Numbered Q (suc n) own) (then g (λ t q. then (f q) (λ ts r. got (t ∷ ts) r)))
  one_more Q n own g f h i =
      then_all (Numbered Q (suc n) own) g _
      (λ t q e. then_all (Numbered Q (suc n) own) (f q) _
      (λ ts r e₂. let k = got_all (Numbered Q n (own + 1)) (i q) e₂ in (ap suc k.0, (got_all (Q own) h e, k.1))))

  -- Q T n of template n of T
  abbrev FileOk : (ℕ → ℕ → A → Type 0) → List A → Type 0
  FileOk Q ts = Each (Q (length ts)) 0 ts

  file_at : (Q : ℕ → ℕ → A → Type 0) (ts : List A) → FileOk Q ts → (t : ℕ) → t < length ts → (d : A) → Q (length ts) t (get_or ts t d)
  file_at Q ts h t k d = let e : 0 + t ≡ t = omega arith in rw e at (each_at (Q (length ts)) 0 ts h t k d)

  file_ok : (Q : ℕ → ℕ → A → Type 0) (s : List ℕ) (read : ℕ → ℕ → Got (List A)) (ending : List A → ℕ → Got (List A))
      → ((T p : ℕ) → T ≤ 64 → AllGot (Numbered (Q T) T 0) (read T p)) → ((ts : List A) (q : ℕ) → FileOk Q ts → AllGot (FileOk Q) (ending ts q))
      → AllGot (FileOk Q) (then (field s 0 8) (λ T p. valid 0 (leb 1 T && leb T 64) (then (read T p) (λ ts q. ending ts q))))
  file_ok Q s read ending h i = then_all (FileOk Q) (field s 0 8) _ (λ T p e. go T p (leb 1 T) (leb T 64) refl)
    where
      go : (T p : ℕ) (a b : Bool) → leb T 64 ≡ b → AllGot (FileOk Q) (valid 0 (a && b) (then (read T p) (λ ts q. ending ts q)))
      go T p true true e =
          then_all (FileOk Q) (read T p) _
          (λ ts q e₂. let k = got_all (Numbered (Q T) T 0) (h T p (leb-true T 64 e)) e₂ in i ts q (rw k.0 k.1))
      go T p true false e = tt
      go T p false b e = tt

-- ---- tree files
module _ (s : List ℕ) (small : length s ≤ 65536) (T : ℕ) (few : T ≤ 64) where
  template_read : (own p : ℕ) → AllGot (TemplateOk T own) (template_at s own T p)
  unfolding template_at
  template_read own p =
      then_all (TemplateOk T own) (field s p 8) _
      (λ n q e. then_all (TemplateOk T own) (entries_at s own T n q) _
      (λ es r e₂. then_all (TemplateOk T own) (list_at s 15 r) _
      (λ c z e₃. record {
        entries_ok = (entries_read s own T few n q e₂).ok;
        code_ok = list_valid s 15 r c z e₃;
        within = omega (arith, list_bits_lem s 15 r c z e₃);
      })))

  templates_read : (n own p : ℕ) → AllGot (Numbered (TemplateOk T) n own) (templates_at s T own n p)
  unfolding templates_at
  templates_read zero own p = (refl, tt)
  templates_read (suc n) own p =
      one_more (TemplateOk T) n own (template_at s own T p) (templates_at s T (own + 1) n) (template_read own p) (templates_read n (own + 1))

tree_read_ok : (s : List ℕ) → AllGot (FileOk TemplateOk) (tree_read s)
unfolding tree_read padded_end
tree_read_ok s =
    cond_all (FileOk TemplateOk) (leb (length s) 65536) _ (refused 1 0)
    (λ i. file_ok TemplateOk s (λ T p. templates_at s T 0 T p) (λ ts q. padded_end s ts q)
    (λ T p few. templates_read s (leb-true (length s) 65536 i) T few T 0 p)
    (λ ts q h. then_all (FileOk TemplateOk) (zero_bits s (to_byte q) q ts) _
    (λ us r e. nothing_all (FileOk TemplateOk) s r us (got_all (FileOk TemplateOk) (zero_all (FileOk TemplateOk) s (to_byte q) q ts h) e))))
    (λ i. tt)

lowest_all : {A : Type 0} (Q : A → Type 0) (n : ℕ) (o : Option ℕ) (g : Got A) → AllGot Q g → AllGot Q (or_lowest n o g)
unfolding or_lowest
lowest_all Q n (some t) g h = tt
lowest_all Q n none g h = h

-- THE LAWS for tree files, with 24 left aside and with it
pub tree_ok : (s : List ℕ) → AllGot (λ ts. ProgramOk (tree_program ts)) (tree_checked s)
unfolding tree_checked
tree_ok s =
    then_all Q (tree_read s) _
    (λ ts q e. lowest_all Q 6 (lowest closed_template 0 ts) _ (lowest_all Q 7 (lowest indexed_template 0 ts) (got ts q)
    (tree_program_ok (length ts) ts (λ t h. file_at TemplateOk ts (got_all (FileOk TemplateOk) (tree_read_ok s) e) t h no_template))))
  where
    Q : List Template → Type 0
    Q ts = ProgramOk (tree_program ts)

pub tree_accepted_ok : (s : List ℕ) → AllGot (λ ts. ProgramOk (tree_program ts)) (tree_accepted s)
unfolding tree_accepted
tree_accepted_ok s = then_all Q (tree_checked s) _ (λ ts q e. lowest_all Q 24 (lowest_orphan ts) (got ts q) (got_all Q (tree_ok s) e))
  where
    Q : List Template → Type 0
    Q ts = ProgramOk (tree_program ts)

-- ---- linear files
module _ (s : List ℕ) (bytes : Bytes s) (small : length s ≤ 262144) (T : ℕ) (few : T ≤ 64) where
  code_read : (own : ℕ) (es : List Entry) (n p : ℕ) → EntriesOk own T es → AllGot (LinearOk T own) (code_at s es n p)
  unfolding code_at
  code_read own es n p h =
      cond_all (LinearOk T own) (leb (p + 8 * n) (8 * length s)) _ _
      (λ e. record {
        entries_ok = h;
        code_ok = bytes_take n (drop (p / 8) s) (bytes_drop (p / 8) s bytes);
        short = omega (arith, length-take n (drop (p / 8) s), length-drop (p / 8) s);
      })
      (λ e. tt)

  linear_read_lem : (own p : ℕ) → AllGot (LinearOk T own) (linear_template_at s own T p)
  unfolding linear_template_at
  linear_read_lem own p =
      then_all (LinearOk T own) (field s p 8) _
      (λ n q e. then_all (LinearOk T own) (entries_at s own T n q) _
      (λ es r e₂. then_all (LinearOk T own) (zero_bits s (to_byte r) r es) _
      (λ es' u e₃. then_all (LinearOk T own) (field s u 24) _
      (λ k v e₄. code_read own es' k v (got_all (EntriesOk own T) (zero_all (EntriesOk own T) s (to_byte r) r es (entries_read s own T few n q e₂).ok) e₃)))))

  linears_read : (n own p : ℕ) → AllGot (Numbered (LinearOk T) n own) (linear_templates_at s T own n p)
  unfolding linear_templates_at
  linears_read zero own p = (refl, tt)
  linears_read (suc n) own p =
      one_more (LinearOk T) n own (linear_template_at s own T p) (linear_templates_at s T (own + 1) n) (linear_read_lem own p) (linears_read n (own + 1))

linear_read_ok : (s : List ℕ) → Bytes s → AllGot (FileOk LinearOk) (linear_read s)
unfolding linear_read
linear_read_ok s bytes =
    cond_all (FileOk LinearOk) (leb (length s) 262144) _ (refused 1 0)
    (λ i. file_ok LinearOk s (λ T p. linear_templates_at s T 0 T p) (λ ts q. nothing_more s q ts)
    (λ T p few. linears_read s bytes (leb-true (length s) 262144 i) T few T 0 p)
    (λ ts q h. nothing_all (FileOk LinearOk) s q ts h))
    (λ i. tt)

-- THE LAW for linear files, of bytes
pub linear_ok : (s : List ℕ) → Bytes s → AllGot (λ ts. ProgramOk (linear_program ts)) (linear_read s)
linear_ok s bytes = weaker (λ ts h. linear_program_ok (length ts) ts (λ t k. file_at LinearOk ts h t k no_linear)) (linear_read s) (linear_read_ok s bytes)
  where
    weaker : ((ts : List Linear) → FileOk LinearOk ts → ProgramOk (linear_program ts)) → (g : Got (List Linear)) → AllGot (FileOk LinearOk) g
        → AllGot (λ ts. ProgramOk (linear_program ts)) g
    weaker f (got ts q) h = f ts h
    weaker f (refused n p) h = tt
