-- The linear files of two tree files whose templates are the same but for indices and templates' numbers are twins (request 5): the places are the
-- same bytes. Assumes nothing.
use Prim.Native.Nat.{ℕ, suc, ◌+◌, ◌*◌, ◌/◌, ◌%◌}
use Rattle.std.proofs.Common.{arith, ◌∙◌}
use Rattle.std.proofs.Math.Nat.{div-add-mod}
use Rattle.std.specs.Prelude.{◌≡◌, Bool, get_or}
use Rattle.std.proofs.Math.Path.{refl, sym, ap, subst}
use Rattle.std.proofs.Math.Bool.{true, false}
use mathlib.Core.List.{List, [], ◌∷◌, ◌++◌, append-nil}
use Rattle.std.proofs.Math.Option.{Option}
use Rattle.std.proofs.Math.ListN.{length, length-append}
use Rattle.files.specs.Code.{Code, done, neutral, return, call, unless_false, make_cont}
use Rattle.files.specs.Entries.{Entry}
use Rattle.files.specs.Grammar.{is_closed, entry_of}
use Rattle.files.specs.Flat.{flat, conditional}
use Rattle.files.specs.Tree.{Template}
use Rattle.files.specs.Linear.{Linear, linear_file}
use Rattle.files.specs.Reading.{got}
use Rattle.files.specs.Accepted.{flat_checked}
use Rattle.files.specs.Valid.{Bytes}
use Rattle.readback.specs.laws.Templates.{linears}
use Rattle.files.specs.laws.AcceptedLaws.{flat_checked_lem}
use Rattle.readback.specs.laws.ReadBack.{flattened_reads}
use Rattle.rules.specs.declared.Plain.{Plain}
use Rattle.machines.specs.Fetched.{Fetched, jumps, plainly}
use Rattle.machines.specs.Fetched.{no_template, no_linear, linear_at}
use Rattle.machines.specs.Machine.{linear_program}
use Rattle.machines.specs.Runs.{Memory, linear_run}
use Rattle.agree.specs.laws.Suits.{Only, Shut, Open, either, Ok}
use Rattle.agree.specs.laws.Layout.{At, at_skip, at_take}
use Rattle.agree.specs.laws.Decoded.{lin, lin_neutral, lin_return, lin_call, lin_branch, lin_save, lin_jump}
use Rattle.agree.specs.laws.Places as places
use Rattle.agree.specs.laws.Files.{file_twins}
use Rattle.renamed.specs.laws.Renaming.{Renaming}
use Rattle.rewrite.specs.Reindex.{reindexed, reindex}
use Rattle.rewrite.specs.laws.ReindexLaws.{same_length, same_closed}
use Rattle.renamed.specs.laws.Reindexed.{Names, EntryR, PlainsR, none_p, some_p, resolve_alike}
use Rattle.renamed.specs.laws.Ends.{EndAlike-renamed}
use Rattle.renamed.specs.laws.Programs.{FetchR, plain_r, return_r, call_r, branch_r, save_r, jump_r, bad_r, Twins, linear_machine_alike}
use Rattle.renamed.specs.laws.Trees.{Trimmed}

-- ---- flat lists are as long
conditional_length : (b : Bool) (X X' Y Y' R R' : List ℕ) → length X' ≡ length X → length Y' ≡ length Y → length R' ≡ length R
    → length (conditional b X' Y' R') ≡ length (conditional b X Y R)
unfolding conditional
conditional_length true X X' Y Y' R R' x y r = simp length-append (omega arith)
conditional_length false X X' Y Y' R R' x y r = simp length-append (omega arith)

pub same_flat : (f : ℕ → ℕ) (c : Code) → length (flat (reindex f c)) ≡ length (flat c)
unfolding flat reindex
same_flat f done = refl
same_flat f (neutral op ns r) = simp length-append (omega (arith, same_length f op ns, same_flat f r))
same_flat f (return r) = ap suc (same_flat f r)
same_flat f (call n r) = ap (λ k. suc (suc k)) (same_flat f r)
same_flat f (unless_false x y r) =
    rw (same_closed f x) (conditional_length (is_closed x) (flat x) (flat (reindex f x)) (flat y) (flat (reindex f y)) (flat r) (flat (reindex f r))
    (same_flat f x) (same_flat f y) (same_flat f r))
same_flat f (make_cont n x r) = simp length-append (omega (arith, same_flat f r, same_flat f x))

-- ---- W and W', in which a list and its renumbered form stand at the same places
module _ (N : Renaming) (es es' : List Entry) (f : ℕ → ℕ) (W W' : List ℕ) where
  abbrev Named : Code → Type 0
  Named c = Names (λ n. EntryR N (entry_of es n) (entry_of es' (f n))) c

  mutual
    pub data Spot : ℕ → Type 0 where
      here : {k : Bool} (c : Code) {q e : ℕ} → Ok k c → Named c → At W q (flat c) → At W' q (flat (reindex f c)) → q + length (flat c) ≡ e → Close k e → Spot q
      leap : {q q' : ℕ} → lin es W q ≡ jumps q' → lin es' W' q ≡ jumps q' → Spot q' → Spot q

    -- after a closed list comes nothing, after an open one what stands there
    pub data Close : Bool → ℕ → Type 0 where
      ends : {e : ℕ} → Close true e
      flows : {e : ℕ} → Spot e → Close false e

module _ (N : Renaming) (Place : ℕ → ℕ → ℕ → ℕ → Type 0) (t t' : ℕ) (es es' : List Entry) (f : ℕ → ℕ) (z : f 0 ≡ 0) (W W' : List ℕ)
    (place : (q : ℕ) → Spot N es es' f W W' q → Place t q t' q) where
  abbrev SpotAt : ℕ → Type 0
  SpotAt q = Spot N es es' f W W' q

  abbrev CloseAt : Bool → ℕ → Type 0
  CloseAt k e = Close N es es' f W W' k e

  abbrev NamedHere : Code → Type 0
  NamedHere c = Named N es es' f W W' c

  abbrev Alike : Fetched → Fetched → Type 0
  Alike F G = FetchR N Place t t' F G

  abbrev AlikeAt : ℕ → Type 0
  AlikeAt q = Alike (lin es W q) (lin es' W' q)

  abbrev Follow : Bool → ℕ → Type 0
  Follow false e = AlikeAt e
  Follow true e = Unit {0}

  plains : {m m' : Option Plain} (q : ℕ) → PlainsR N m m' → SpotAt q → Alike (plainly m q) (plainly m' q)
  unfolding plainly
  plains q none_p s = bad_r
  plains q (some_p x) s = plain_r x (place q s)

  at_end : (k : Bool) (q : ℕ) {e : ℕ} → Ok k done → q + length (flat done) ≡ e → Follow k e → AlikeAt q
  unfolding Ok Open flat
  at_end false q o h u = subst AlikeAt (omega arith) u
  at_end true q o h u = absurd o

  at_neutral : {k : Bool} (op : ℕ) (ns : List ℕ) (r : Code) {q e : ℕ} → Ok k (neutral op ns r) → NamedHere (neutral op ns r) → At W q (flat (neutral op ns r))
      → At W' q (flat (reindex f (neutral op ns r))) → q + length (flat (neutral op ns r)) ≡ e → CloseAt k e → AlikeAt q
  unfolding Ok Names flat reindex
  at_neutral op ns r {q} o n a a' h u =
      let ns' : List ℕ = reindexed f op ns in
      let l : length ns' ≡ length ns = same_length f op ns in
      rw (lin_neutral es W ns (flat r) o.0 o.1 a, lin_neutral es' W' ns' (flat (reindex f r)) o.0 (o.1 ∙ sym l) a', l)
      (plains (q + (1 + length ns)) (resolve_alike N es es' f op ns z n.0)
      (here r o.2 n.1 (at_skip W (op ∷ ns) (flat r) a (omega arith)) (at_skip W' (op ∷ ns') (flat (reindex f r)) a' (omega arith))
      (omega (arith, length-append ns (flat r))) u))

  at_cont : {k : Bool} (n : ℕ) (x r : Code) {q e : ℕ} → Ok k (make_cont n x r) → NamedHere (make_cont n x r) → At W q (flat (make_cont n x r))
      → At W' q (flat (reindex f (make_cont n x r))) → q + length (flat (make_cont n x r)) ≡ e → CloseAt k e → AlikeAt q
  unfolding Ok Names flat reindex
  at_cont n x r {q} o m a a' h u =
      let R : List ℕ = flat r in
      let R' : List ℕ = flat (reindex f r) in
      let X : List ℕ = flat x in
      let X' : List ℕ = flat (reindex f x) in
      let l : length R' ≡ length R = same_flat f r in
      let d = div-add-mod (length R) 256 in
      let b : At W (q + 4) (R ++ X) = at_skip W (4 ∷ length R / 256 ∷ length R % 256 ∷ n ∷ []) (R ++ X) a (omega arith) in
      let b' : At W' (q + 4) (R' ++ X') = at_skip W' (4 ∷ length R' / 256 ∷ length R' % 256 ∷ n ∷ []) (R' ++ X') a' (omega arith) in
      rw (lin_save es W a, lin_save es' W' a', l)
      (save_r {p₁ = q + 4 + (256 * (length R / 256) + length R % 256)}
      (place (q + 4 + (256 * (length R / 256) + length R % 256))
      (here x o.1 m.0 (at_skip W R X b (omega arith)) (at_skip W' R' X' b' (omega arith)) (omega (arith, length-append R X)) u))
      (place (q + 4) (here r o.2 m.1 (at_take W R X b) (at_take W' R' X' b') refl ends)))

  -- a conditional; c: whether its arms are closed
  module _ (x y r : Code) where
    abbrev X : List ℕ
    X = flat x

    abbrev X' : List ℕ
    X' = flat (reindex f x)

    abbrev Y : List ℕ
    Y = flat y

    abbrev Y' : List ℕ
    Y' = flat (reindex f y)

    abbrev R : List ℕ
    R = flat r

    abbrev R' : List ℕ
    R' = flat (reindex f r)

    at_unless : (c : Bool) {k : Bool} {q e : ℕ} → Ok c x → Ok c y → either c (Shut k × Only r) (Ok k r) → NamedHere x → NamedHere y → NamedHere r
        → At W q (conditional c X Y R) → At W' q (conditional c X' Y' R') → q + length (conditional c X Y R) ≡ e → CloseAt k e → AlikeAt q
    unfolding either conditional
    at_unless true {q = q} ox oy o nx ny nr a a' h u =
        let l : length X' ≡ length X = same_flat f x in
        let d = div-add-mod (length X) 256 in
        let b : At W (q + 3) (X ++ (Y ++ R)) = at_skip W (3 ∷ length X / 256 ∷ length X % 256 ∷ []) (X ++ (Y ++ R)) a (omega arith) in
        let b' : At W' (q + 3) (X' ++ (Y' ++ R')) = at_skip W' (3 ∷ length X' / 256 ∷ length X' % 256 ∷ []) (X' ++ (Y' ++ R')) a' (omega arith) in
        let s : ℕ = q + 3 + (256 * (length X / 256) + length X % 256) in
        let c : At W s (Y ++ R) = at_skip W X (Y ++ R) b (omega arith) in
        let c' : At W' s (Y' ++ R') = at_skip W' X' (Y' ++ R') b' (omega arith) in
        rw (lin_branch es W a, lin_branch es' W' a', l)
        (branch_r
        (place (q + 3) (here x ox nx (at_take W X (Y ++ R) b) (at_take W' X' (Y' ++ R') b') refl ends))
        (place s (here y oy ny (at_take W Y R c) (at_take W' Y' R' c') refl ends)))
    at_unless false {q = q} {e = e} ox oy o nx ny nr a a' h u =
        let l : length X' ≡ length X = same_flat f x in
        let i : length Y' ≡ length Y = same_flat f y in
        let d = div-add-mod (3 + length X) 256 in
        let d' = div-add-mod (length Y) 256 in
        let J : List ℕ = 5 ∷ length Y / 256 ∷ length Y % 256 ∷ (Y ++ R) in
        let J' : List ℕ = 5 ∷ length Y' / 256 ∷ length Y' % 256 ∷ (Y' ++ R') in
        let v = length-append Y R in
        let v' = length-append X J in
        let b : At W (q + 3) (X ++ J) = at_skip W (3 ∷ (3 + length X) / 256 ∷ (3 + length X) % 256 ∷ []) (X ++ J) a (omega arith) in
        let b' : At W' (q + 3) (X' ++ J') = at_skip W' (3 ∷ (3 + length X') / 256 ∷ (3 + length X') % 256 ∷ []) (X' ++ J') a' (omega arith) in
        let c : At W (q + 3 + length X) J = at_skip W X J b (omega arith) in
        let c' : At W' (q + 3 + length X) J' = at_skip W' X' J' b' (omega arith) in
        let s : ℕ = q + 3 + (256 * ((3 + length X) / 256) + (3 + length X) % 256) in
        let g : At W s (Y ++ R) = at_skip W (5 ∷ length Y / 256 ∷ length Y % 256 ∷ []) (Y ++ R) c (omega arith) in
        let g' : At W' s (Y' ++ R') = at_skip W' (5 ∷ length Y' / 256 ∷ length Y' % 256 ∷ []) (Y' ++ R') c' (omega arith) in
        let w : ℕ = q + 3 + length X + 3 + (256 * (length Y / 256) + length Y % 256) in
        let rest : SpotAt w = here r {q = w} {e = e} o nr (at_skip W Y R g (omega arith)) (at_skip W' Y' R' g' (omega arith)) (omega arith) u in
        let jump : lin es' W' (q + 3 + length X) ≡ jumps w = lin_jump es' W' c' ∙ ap (λ n. jumps (q + 3 + length X + 3 + (256 * (n / 256) + n % 256))) i in
        rw (lin_branch es W a, lin_branch es' W' a', l)
        (branch_r
        (place (q + 3) (here x ox nx (at_take W X J b) (at_take W' X' J' b') refl (flows (leap (lin_jump es W c) jump rest))))
        (place s (here y oy ny (at_take W Y R g) (at_take W' Y' R' g') (omega arith) (flows rest))))

  heads : {k : Bool} (c : Code) {q e : ℕ} → Ok k c → NamedHere c → At W q (flat c) → At W' q (flat (reindex f c)) → q + length (flat c) ≡ e → CloseAt k e
      → Follow k e → AlikeAt q
  unfolding Ok Names flat reindex
  heads {k} done {q} o n a a' h u v = at_end k q o h v
  heads (neutral op ns r) o n a a' h u v = at_neutral op ns r o n a a' h u
  heads (return r) o n a a' h u v = rw (lin_return es W a, lin_return es' W' a') return_r
  heads (call m r) o n a a' h u v = rw (lin_call es W a, lin_call es' W' a') call_r
  heads {k} (unless_false x y r) {q} o n a a' h u v =
      at_unless x y r (is_closed x) o.0 o.1 o.2 n.0 n.1 n.2 a
      (subst (λ b. At W' q (conditional b (flat (reindex f x)) (flat (reindex f y)) (flat (reindex f r)))) (same_closed f x) a') h u
  heads (make_cont m x r) o n a a' h u v = at_cont m x r o n a a' h u

  mutual
    meets : {q : ℕ} → SpotAt q → AlikeAt q
    meets (here c o n a a' h u) = heads c o n a a' h u (closes u)
    meets (leap {q' = q'} e e' s) = rw (e, e') (jump_r (place q' s))

    closes : {k : Bool} {e : ℕ} → CloseAt k e → Follow k e
    closes ends = tt
    closes (flows s) = meets s

-- ---- THE LAW
module _ (N : Renaming) (ts ts' : List Template) (ls ls' : List Linear) (linear₁ : (t : ℕ) → places.Twins (get_or ts t no_template) (get_or ls t no_linear))
    (linear₂ : (t : ℕ) → places.Twins (get_or ts' t no_template) (get_or ls' t no_linear)) (w : Trimmed N ts ts') where
  -- the same byte, at which the same part of the two lists stands
  abbrev pub SameByte : ℕ → ℕ → ℕ → ℕ → Type 0
  SameByte t q t' q' =
      (n : N.To t t') × (q ≡ q')
      × Spot N (get_or ts t no_template).entries (get_or ts' t' no_template).entries (w.each n).index (flat (get_or ts t no_template).code)
      (flat (get_or ts' t' no_template).code) q

  pub linear_twins : Twins N SameByte (linear_program ls) (linear_program ls')
  unfolding linear_at
  linear_twins = record {
    fetches = λ {t} {p} {t'} {q} n₀ h.
        let r = w.each h.0 in
        rw (← h.1, (linear₁ t).same_entries, (linear₁ t).same_code, (linear₂ t').same_entries, (linear₂ t').same_code)
        (meets N SameByte t t' (get_or ts t no_template).entries (get_or ts' t' no_template).entries r.index r.zero_stays (flat (get_or ts t no_template).code)
        (flat (get_or ts' t' no_template).code) (λ q s. (h.0, refl, s)) h.2);
    starts = λ {t} {t'} n.
        let r = w.each n in (
          n,
          refl,
          here (get_or ts t no_template).code (linear₁ t).closed r.named
              (record { rest = []; is = sym (append-nil _) }) (record { rest = []; is = ap flat r.code_is ∙ sym (append-nil _) }) refl ends,
        );
    first = w.template_0;
  }

-- the linear machine, on the linear files that the flattener writes
pub linear_trimmed_alike : (N : Renaming) (s s' : List ℕ) (ts ts' : List Template) {q q' : ℕ} → flat_checked s ≡ got ts q → flat_checked s' ≡ got ts' q'
    → Bytes (linear_file ts) → Bytes (linear_file ts') → Trimmed N ts ts' → (b o : ℕ) (m : Memory)
    → EndAlike-renamed (linear_run (linear_file ts) b o m) (linear_run (linear_file ts') b o m)
linear_trimmed_alike N s s' ts ts' {q} {q'} e e' h h' w =
    let t = file_twins s ts q (flat_checked_lem s ts q e) in
    let t' = file_twins s' ts' q' (flat_checked_lem s' ts' q' e') in
    linear_machine_alike N (SameByte N ts ts' (linears 1 ts) (linears 1 ts') t t' w) (linear_file ts) (linear_file ts') h h' (flattened_reads s ts q e)
    (flattened_reads s' ts' q' e')
    (linear_twins N ts ts' (linears 1 ts) (linears 1 ts') t t' w)
