-- The tree program and the linear program of one file agree at places that correspond. Assumes nothing.
use Prim.Native.Nat.{ℕ, suc, ◌+◌, ◌*◌, ◌/◌, ◌%◌, ◌≤◌, ◌<◌, ◌^◌}
use Rattle.std.proofs.Common.{arith, ◌∙◌}
use Rattle.std.proofs.Math.Nat.{div-add-mod}
use Rattle.std.specs.Prelude.{◌≡◌, Bool, get_or, drop}
use Rattle.std.proofs.Math.Path.{refl, sym, subst}
use Rattle.std.proofs.Math.Bool.{true, false, and-eq-true_iff}
use mathlib.Core.List.{List, [], ◌∷◌, ◌++◌, append-nil}
use Rattle.std.proofs.Math.Option.{Option}
use Rattle.std.proofs.Math.ListN.{length, length-append}
use Rattle.files.specs.Code.{Code, done, neutral, return, call, unless_false, make_cont, bits}
use Rattle.files.specs.Entries.{Entry}
use Rattle.files.specs.laws.ReadingLaws.{least_bits}
use Rattle.files.specs.Grammar.{is_closed, index_fits, each_neutral, indices_fit}
use Rattle.files.specs.Flat.{flat, conditional}
use Rattle.files.specs.Tree.{Template}
use Rattle.files.specs.Linear.{Linear}
use Rattle.rules.specs.declared.Plain.{Plain}
use Rattle.owners.specs.declared.Owner.{Owner}
use Rattle.machines.specs.Fetched.{Fetched, branches, plainly, open_count, first}
use Rattle.machines.specs.Fetched.{decode, no_template, no_linear, tree_at, linear_at}
use Rattle.machines.specs.Machine.{tree_program, linear_program}
use Rattle.machines.specs.laws.Resolved.{Resolves, resolves, fits_resolves}
use Rattle.lockstep.specs.laws.Lockstep.{Match, plain_m, return_m, call_m, branch_m, save_m, Meets, now_m, jump_m, Agree}
use Rattle.agree.specs.laws.Suits.{Only, Shut, Open, either, Ok}
use Rattle.agree.specs.laws.Layout.{At, at_skip, at_take, at_within, Sub, sub_neutral, sub_first, sub_second, sub_rest, sub_saved, sub_next, Spot, here}
use Rattle.agree.specs.laws.Layout.{leap, Close, nothing_after, flows, stands}
use Rattle.agree.specs.laws.Decoded as decoded
use Rattle.lockstep.proofs.theorems.Same.{same_but_places}

-- a template of a tree file, and the same of its linear file
pub record Twins (t : Template) (l : Linear) : Type 0 where
  pub same_entries : l.entries ≡ t.entries
  pub same_code : l.code ≡ flat t.code
  pub closed : Ok true t.code
  pub indexed : indices_fit t.entries t.code ≡ true
  pub tree_fits : t.start + bits t.code ≤ 2 ^ 24
  pub linear_fits : length (flat t.code) < 2 ^ 24

module _ (ts : List Template) (ls : List Linear) (twins : (t : ℕ) → Twins (get_or ts t no_template) (get_or ls t no_linear)) where
  abbrev entries_of : ℕ → List Entry
  entries_of t = (get_or ts t no_template).entries

  abbrev flat_of : ℕ → List ℕ
  flat_of t = flat (get_or ts t no_template).code

  abbrev SpotAt : ℕ → Fetched → ℕ → ℕ → Type 0
  SpotAt t F q j = Spot (entries_of t) (tree_at ts t) (flat_of t) (linear_at ls t) F q j

  -- places of one template that correspond, with j jumps pending
  pub data Pair : ℕ → ℕ → ℕ → ℕ → ℕ → Type 0 where
    pair : {t p q j : ℕ} → t < 2 ^ 8 → SpotAt t (tree_at ts t p) q j → Pair t p t q j

  module _ (own : Owner) (t : ℕ) (small : t < 2 ^ 8) where
    abbrev es : List Entry
    es = entries_of t

    abbrev W : List ℕ
    W = flat_of t

    abbrev tree : ℕ → Fetched
    tree = tree_at ts t

    abbrev lin : ℕ → Fetched
    lin = linear_at ls t

    abbrev MeetsAt : Fetched → ℕ → ℕ → Type 0
    MeetsAt F q j = Meets Pair (same_but_places Pair own) 1 ⊥ (linear_at ls) t t F q j

    abbrev MatchAt : Fetched → Fetched → ℕ → Type 0
    MatchAt F G j = Match Pair (same_but_places Pair own) 1 ⊥ t t F G j

    abbrev Follow : Bool → Fetched → ℕ → ℕ → Type 0
    Follow false F e j = MeetsAt F e j
    Follow true F e j = Unit

    lin_is : (q : ℕ) → lin q ≡ decode es q (drop q W)
    unfolding linear_at
    lin_is q = rw ((twins t).same_entries, (twins t).same_code)

    plains : {m : Option Plain} {p q j : ℕ} → Resolves m → Pair t p t q j → MatchAt (plainly m p) (plainly m q) j
    unfolding plainly same_but_places
    plains resolves r = plain_m refl r

    -- a pair of places
    both : {k : Bool} {s : ℕ} {c : Code} {F : Fetched} {q e j : ℕ} → Ok k c → Sub es tree s c F → At W q (flat c) → q + length (flat c) ≡ e
        → Close es tree W lin k F e j → Pair t s t q j
    both o u a h z = pair small (stands es tree W lin o u a h z)

    at_end : (k : Bool) {F : Fetched} {q e j : ℕ} → Ok k done → q + length (flat done) ≡ e → Follow k F e j → MeetsAt F q j
    unfolding Ok Open flat
    at_end false {F} {q} {e} {j} o h f = subst (λ n. MeetsAt F n j) (omega arith) f
    at_end true o h f = absurd o

    -- in a closed list no jump is pending
    shut_zero : {k : Bool} {F : Fetched} {e j : ℕ} → Close es tree W lin k F e j → Shut k → j ≡ 0
    unfolding Shut
    shut_zero nothing_after o = refl
    shut_zero (flows z) o = absurd o

    module _ {k : Bool} (s : ℕ) {F : Fetched} {q e j : ℕ} (z : Close es tree W lin k F e j) where
      at_neutral : {op : ℕ} {ns : List ℕ} {r : Code} → Ok k (neutral op ns r) → Sub es tree s (neutral op ns r) F → At W q (flat (neutral op ns r))
          → q + length (flat (neutral op ns r)) ≡ e → MeetsAt (first es s (neutral op ns r) F) q j
      unfolding Ok flat first indices_fit each_neutral
      at_neutral {op} {ns} {r} o u a h =
          now_m (lin_is _ ∙ decoded.lin_neutral es W ns (flat r) o.0 o.1 a)
          (plains (fits_resolves es op ns o.0 ((and-eq-true_iff (index_fits es op (get_or ns 0 0)) (indices_fit es r)).0 u.indexed).0)
          (both o.2 (sub_neutral es tree u) (at_skip W (op ∷ ns) (flat r) a (omega arith)) (omega (arith, length-append ns (flat r))) z))

      at_cont : {n : ℕ} {x r : Code} → Ok k (make_cont n x r) → Sub es tree s (make_cont n x r) F → At W q (flat (make_cont n x r))
          → q + length (flat (make_cont n x r)) ≡ e → MeetsAt (first es s (make_cont n x r) F) q j
      unfolding Ok flat first same_but_places
      at_cont {n} {x} {r} o u a h =
          let m = div-add-mod (length (flat r)) 256 in
          let y : List ℕ = flat r in
          let b : At W (q + 4) (y ++ flat x) = at_skip W (4 ∷ length y / 256 ∷ length y % 256 ∷ n ∷ []) (y ++ flat x) a (omega arith) in
          let w = at_within W (length y / 256 ∷ length y % 256 ∷ n ∷ (y ++ flat x)) a in
          let l = length-append y (flat x) in
          let i = (twins t).linear_fits in
          let f : s + 13 + bits x ≤ 2 ^ 24 = (sub_saved es tree u).bound in
          now_m (lin_is _ ∙ decoded.lin_save es W a)
          (save_m {p₁ = s + 13} {p₂ = s + 13 + bits x} {q₁ = q + 4 + (256 * (length y / 256) + length y % 256)} {q₂ = q + 4}
          (record {
            n_fits = o.0;
            t_fits = small;
            p_fits = omega (arith, least_bits x);
            t'_fits = small;
            q_fits = omega arith;
            places = both o.1 (sub_saved es tree u) (at_skip W y (flat x) b (omega arith)) (omega (arith, length-append y (flat x))) z;
          })
          (both o.2 (sub_next es tree u) (at_take W y (flat x) b) refl nothing_after))

      -- a conditional; c: whether its arms are closed
      at_unless : (c : Bool) {x y r : Code} → Ok c x → Ok c y → either c (Shut k × Only r) (Ok k r)
          → Sub es tree (s + 5) x (first es (s + 5 + bits x + bits y) r F) → Sub es tree (s + 5 + bits x) y (first es (s + 5 + bits x + bits y) r F)
          → Sub es tree (s + 5 + bits x + bits y) r F
          → At W q (conditional c (flat x) (flat y) (flat r)) → q + length (conditional c (flat x) (flat y) (flat r)) ≡ e
          → MeetsAt (branches (open_count c) (s + 5) (s + 5 + bits x)) q j
      unfolding either conditional open_count
      at_unless true {x} {y} {r} ox oy o ux uy u a h =
          let X : List ℕ = flat x in
          let Y : List ℕ = flat y in
          let m = div-add-mod (length X) 256 in
          let b : At W (q + 3) (X ++ (Y ++ flat r)) = at_skip W (3 ∷ length X / 256 ∷ length X % 256 ∷ []) (X ++ (Y ++ flat r)) a (omega arith) in
          let b₁ : At W (q + 3 + (256 * (length X / 256) + length X % 256)) (Y ++ flat r) = at_skip W X (Y ++ flat r) b (omega arith) in
          rw (shut_zero z o.0)
          (now_m (lin_is _ ∙ decoded.lin_branch es W a)
          (branch_m {o = 0} {q₁ = q + 3} {q₂ = q + 3 + (256 * (length X / 256) + length X % 256)} {j = 0} {j₁ = 0} (omega arith) (omega arith)
          (both ox ux (at_take W X (Y ++ flat r) b) refl nothing_after)
          (both oy uy (at_take W Y (flat r) b₁) refl nothing_after)))
      at_unless false {x} {y} {r} ox oy o ux uy u a h =
          let X : List ℕ = flat x in
          let Y : List ℕ = flat y in
          let R : List ℕ = flat r in
          let m = div-add-mod (3 + length X) 256 in
          let m' = div-add-mod (length Y) 256 in
          let l = length-append Y R in
          let l' = length-append X (5 ∷ length Y / 256 ∷ length Y % 256 ∷ (Y ++ R)) in
          let J : List ℕ = 5 ∷ length Y / 256 ∷ length Y % 256 ∷ (Y ++ R) in
          let b : At W (q + 3) (X ++ J) =
          at_skip W (3 ∷ (3 + length X) / 256 ∷ (3 + length X) % 256 ∷ []) (X ++ J) a (omega arith) in
          let b₁ : At W (q + 3 + length X) J = at_skip W X J b (omega arith) in
          let b₂ : At W (q + 3 + length X + 3) (Y ++ R) = at_skip W (5 ∷ length Y / 256 ∷ length Y % 256 ∷ []) (Y ++ R) b₁ (omega arith) in
          let f : Spot es tree W lin (first es (s + 5 + bits x + bits y) r F) (q + 3 + length X + 3 + (256 * (length Y / 256) + length Y % 256)) j =
          here {q = q + 3 + length X + 3 + (256 * (length Y / 256) + length Y % 256)} {e = e} refl o u (at_skip W Y R b₂ (omega arith)) (omega arith) z in
          now_m (lin_is _ ∙ decoded.lin_branch es W a)
          (branch_m {o = 1} {q₁ = q + 3} {q₂ = q + 3 + (256 * ((3 + length X) / 256) + (3 + length X) % 256)} {j = j} {j₁ = suc j} (omega arith) (omega arith)
          (both ox ux (at_take W X J b) refl (flows (leap (lin_is _ ∙ decoded.lin_jump es W b₁) f)))
          (both oy uy (at_take W Y R (at_skip W (5 ∷ length Y / 256 ∷ length Y % 256 ∷ []) (Y ++ R) b₁ (omega arith))) (omega arith) (flows f)))

      heads : (c : Code) → Ok k c → Sub es tree s c F → At W q (flat c) → q + length (flat c) ≡ e → Follow k F e j → MeetsAt (first es s c F) q j
      unfolding Ok flat first
      heads done o u a h f = at_end k o h f
      heads (neutral op ns r) o u a h f = at_neutral o u a h
      heads (return r) o u a h f = rw (shut_zero z o.0) (now_m (lin_is _ ∙ decoded.lin_return es W a) return_m)
      heads (call n r) o u a h f = rw (shut_zero z o.0) (now_m (lin_is _ ∙ decoded.lin_call es W a) call_m)
      heads (unless_false x y r) o u a h f =
          at_unless (is_closed x) o.0 o.1 o.2 (sub_first es tree u) (sub_second es tree u) (sub_rest es tree u) a h
      heads (make_cont n x r) o u a h f = at_cont o u a h

    mutual
      meets : {F : Fetched} {q j : ℕ} → Spot es tree W lin F q j → MeetsAt F q j
      meets (here {s = s} {c = c} g o u a h z) = rw g (heads s z c o u a h (closes z))
      meets (leap e z) = jump_m e (meets z)

      closes : {k : Bool} {F : Fetched} {e j : ℕ} → Close es tree W lin k F e j → Follow k F e j
      closes nothing_after = tt
      closes (flows z) = meets z

    -- a template's code begins at its first bit, and at byte 0
    at_start : Pair t (get_or ts t no_template).start t 0 0
    unfolding tree_at
    at_start =
        both (twins t).closed (record { within = λ p h l. refl; bound = (twins t).tree_fits; indexed = (twins t).indexed })
        (record { rest = []; is = sym (append-nil W) }) refl nothing_after

  pairs : (own : Owner) {t p t' q j : ℕ} → Pair t p t' q j → Meets Pair (same_but_places Pair own) 1 ⊥ (linear_at ls) t t' (tree_at ts t p) q j
  pairs own (pair {t = t} h z) = meets own t h z

  pub programs_agree : (own : Owner) → Agree Pair (same_but_places Pair own) 1 ⊥ (tree_program ts) (linear_program ls)
  unfolding same_but_places
  programs_agree own =
      record { meets = pairs own; starts = λ {t} {t'} e. subst (λ n. Pair t (get_or ts t no_template).start n 0 0) e.0 (at_start own t e.1) }
