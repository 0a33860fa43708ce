-- Code with its indices renumbered is as valid as it was, and names again what it named. Assumes nothing.
use Rattle.std.specs.Prelude.{ℕ, ◌<◌, ◌≡◌, Bool, cond, ◌&&◌, ◌||◌, leb}
use Rattle.std.proofs.Common.{arith, ◌∙◌}
use Rattle.std.proofs.Math.Path.{refl, sym, ap}
use Rattle.std.proofs.Math.Bool.{true, false, and-eq-true_iff}
use mathlib.Core.List.{List, [], ◌∷◌, map}
use Rattle.std.proofs.Math.Option.{Option, none, some}
use borrow.Author.Tests.{leb-true, eqb-true, eq-eqb}
use Rattle.std.proofs.Math.Dec.{eqb}
use Rattle.std.proofs.Math.ListN.{length, get_or}
use Rattle.files.specs.Codes.{is_neutral, operands}
use Rattle.files.specs.Code.{Code, done, neutral, return, call, unless_false, make_cont}
use Rattle.files.specs.Entries.{Entry, constant, global, template}
use Rattle.files.specs.Grammar.{entry_of, suits, index_fits, each_neutral, indices_fit}
use Rattle.files.specs.Orphans.{is_template, closes}
use Rattle.files.specs.Valid.{Bytes, Valid}
use Rattle.tree_file.specs.File.{levels}
use Rattle.tree_file.proofs.theorems.Back.{neutral_shape}
use Rattle.rewrite.specs.Reindex.{reindexed, reindex}
use Rattle.rewrite.specs.laws.TokensLaws.{one_operand}
use Rattle.trim.specs.Trim.{names, renumber}
use Rattle.rewrite.specs.laws.ReindexLaws.{same_length}
use Rattle.trim.specs.laws.ReachedLaws.{or_cases, or_left, or_right, never}

module _ (f : ℕ → ℕ) where
  pub same_levels : (c : Code) → levels (reindex f c) ≡ levels c
  unfolding reindex levels
  same_levels done = refl
  same_levels (neutral op ns r) = same_levels r
  same_levels (return r) = same_levels r
  same_levels (call n r) = same_levels r
  same_levels (unless_false x y r) = rw (same_levels x, same_levels y, same_levels r) refl
  same_levels (make_cont n x r) = rw (same_levels x, same_levels r) refl

  -- ---- operands
  bytes_map : (ns : List ℕ) → ((n : ℕ) → n < 256 → f n < 256) → Bytes ns → Bytes (map f ns)
  unfolding Bytes
  bytes_map [] h b = tt
  bytes_map (n ∷ ns) h b = (h n b.0, bytes_map ns h b.1)

  bytes_same : (op : ℕ) (ns : List ℕ) → ((n : ℕ) → n < 256 → f n < 256) → Bytes ns → Bytes (reindexed f op ns)
  unfolding reindexed
  bytes_same op ns h b = go (leb op 9)
    where
      go : (x : Bool) → Bytes (cond x (map f ns) ns)
      go true = bytes_map ns h b
      go false = b

  pub same_valid : (c : Code) → ((n : ℕ) → n < 256 → f n < 256) → Valid c → Valid (reindex f c)
  unfolding reindex Valid
  same_valid done h v = tt
  same_valid (neutral op ns r) h v = (v.0, v.1 ∙ sym (same_length f op ns), bytes_same op ns h v.2, same_valid r h v.3)
  same_valid (return r) h v = same_valid r h v
  same_valid (call n r) h v = (v.0, same_valid r h v.1)
  same_valid (unless_false x y r) h v = (same_valid x h v.0, same_valid y h v.1, same_valid r h v.2)
  same_valid (make_cont n x r) h v = (v.0, same_valid x h v.1, same_valid r h v.2)

  -- the first operand of a code up to 9
  first_new : (op : ℕ) (ns : List ℕ) → is_neutral op ≡ true → operands op ≡ length ns → leb op 9 ≡ true → get_or (reindexed f op ns) 0 0 ≡ f (get_or ns 0 0)
  unfolding reindexed
  first_new op ns e l h = rw h (one ns l)
    where
      one : (ns : List ℕ) → operands op ≡ length ns → get_or (map f ns) 0 0 ≡ f (get_or ns 0 0)
      one [] l =
          let n = neutral_shape op 0 e l in
          absurd (omega (arith, one_operand f op n.past_five (leb-true op 9 h), n.shape))
      one (a ∷ ns) l = refl

  -- ---- names
  pub same_names : (n : ℕ) (c : Code) → Valid c → names n c ≡ true → names (f n) (reindex f c) ≡ true
  unfolding reindex names Valid
  same_names n done v e = never e
  same_names n (neutral op ns r) v e =
      or_cases (leb op 9 && eqb (get_or ns 0 0) n) (names n r) e
      (λ h.
      let a = (and-eq-true_iff (leb op 9) (eqb (get_or ns 0 0) n)).0 h in
      let z : get_or (reindexed f op ns) 0 0 ≡ f n = first_new op ns v.0 v.1 a.0 ∙ ap f (eqb-true (get_or ns 0 0) n a.1) in
      or_left (leb op 9 && eqb (get_or (reindexed f op ns) 0 0) (f n)) (names (f n) (reindex f r)) (rw (z, a.0, eq-eqb (f n) (f n) refl) refl))
      (λ h. or_right (leb op 9 && eqb (get_or (reindexed f op ns) 0 0) (f n)) (names (f n) (reindex f r)) (same_names n r v.3 h))
  same_names n (return r) v e = same_names n r v e
  same_names n (call m r) v e = same_names n r v.1 e
  same_names n (unless_false x y r) v e =
      or_cases (names n x) (names n y || names n r) e
      (λ h. or_left (names (f n) (reindex f x)) (names (f n) (reindex f y) || names (f n) (reindex f r)) (same_names n x v.0 h))
      (λ h. or_right (names (f n) (reindex f x)) (names (f n) (reindex f y) || names (f n) (reindex f r))
      (or_cases (names n y) (names n r) h
      (λ h. or_left (names (f n) (reindex f y)) (names (f n) (reindex f r)) (same_names n y v.1 h))
      (λ h. or_right (names (f n) (reindex f y)) (names (f n) (reindex f r)) (same_names n r v.2 h))))
  same_names n (make_cont m x r) v e =
      or_cases (names n x) (names n r) e
      (λ h. or_left (names (f n) (reindex f x)) (names (f n) (reindex f r)) (same_names n x v.1 h))
      (λ h. or_right (names (f n) (reindex f x)) (names (f n) (reindex f r)) (same_names n r v.2 h))

  -- ---- entries that are found again, with new numbers of templates
  module _ (g : ℕ → ℕ) (es es' : List Entry) where
    abbrev pub renumbered : Option Entry → Option Entry
    renumbered none = none
    renumbered (some e) = some (renumber g e)

    suits_same : (op : ℕ) (o : Option Entry) → suits op (renumbered o) ≡ suits op o
    unfolding suits renumber
    suits_same op none = refl
    suits_same op (some (constant t x)) = refl
    suits_same op (some (global u)) = refl
    suits_same op (some (template t)) = refl

    template_same : (u : ℕ) (o : Option Entry) → is_template u o ≡ true → is_template (g u) (renumbered o) ≡ true
    unfolding is_template renumber
    template_same u none e = never e
    template_same u (some (constant t x)) e = never e
    template_same u (some (global n)) e = never e
    template_same u (some (template t)) e = eq-eqb (g t) (g u) (ap g (eqb-true t u e))

    -- the entries of what a list names are found again
    abbrev pub Found : Code → Type 0
    Found c = (n : ℕ) → names n c ≡ true → entry_of es' (f n) ≡ renumbered (entry_of es n)

    head_found_lem : (op : ℕ) (ns : List ℕ) (r : Code) → Found (neutral op ns r) → leb op 9 ≡ true
        → entry_of es' (f (get_or ns 0 0)) ≡ renumbered (entry_of es (get_or ns 0 0))
    unfolding names
    head_found_lem op ns r h e =
        h (get_or ns 0 0) (or_left (leb op 9 && eqb (get_or ns 0 0) (get_or ns 0 0)) (names (get_or ns 0 0) r)
        (rw (e, eq-eqb (get_or ns 0 0) (get_or ns 0 0) refl) refl))

    rest_found : (op : ℕ) (ns : List ℕ) (r : Code) → Found (neutral op ns r) → Found r
    unfolding names
    rest_found op ns r h n e = h n (or_right (leb op 9 && eqb (get_or ns 0 0) n) (names n r) e)

    arms_found : (x y r : Code) → Found (unless_false x y r) → Found x × Found y × Found r
    unfolding names
    arms_found x y r h = (
      (λ n e. h n (or_left (names n x) (names n y || names n r) e)),
      (λ n e. h n (or_right (names n x) (names n y || names n r) (or_left (names n y) (names n r) e))),
      (λ n e. h n (or_right (names n x) (names n y || names n r) (or_right (names n y) (names n r) e))),
    )

    saved_found : (m : ℕ) (x r : Code) → Found (make_cont m x r) → Found x × Found r
    unfolding names
    saved_found m x r h = ((λ n e. h n (or_left (names n x) (names n r) e)), (λ n e. h n (or_right (names n x) (names n r) e)))

    plain_found : (r : Code) → Found (return r) → Found r
    unfolding names
    plain_found r h = h

    call_found : (m : ℕ) (r : Code) → Found (call m r) → Found r
    unfolding names
    call_found m r h = h

    pub same_fits : (c : Code) → Valid c → Found c → indices_fit es c ≡ true → indices_fit es' (reindex f c) ≡ true
    unfolding reindex indices_fit each_neutral index_fits Valid
    same_fits done v h e = refl
    same_fits (neutral op ns r) v h e =
        let k = (and-eq-true_iff (cond (leb op 9) (suits op (entry_of es (get_or ns 0 0))) true) (indices_fit es r)).0 e in
        rw (same_fits r v.3 (rest_found op ns r h) k.1) (both (go (leb op 9) refl k.0))
      where
        both : {b : Bool} → b ≡ true → (b && true) ≡ true
        both {b} q = rw q refl

        go : (b : Bool) → leb op 9 ≡ b → cond b (suits op (entry_of es (get_or ns 0 0))) true ≡ true
            → cond b (suits op (entry_of es' (get_or (reindexed f op ns) 0 0))) true ≡ true
        go true l q = rw (first_new op ns v.0 v.1 l, head_found_lem op ns r h l, suits_same op (entry_of es (get_or ns 0 0))) q
        go false l q = refl
    same_fits (return r) v h e = same_fits r v (plain_found r h) e
    same_fits (call m r) v h e = same_fits r v.1 (call_found m r h) e
    same_fits (unless_false x y r) v h e =
        let k = (and-eq-true_iff (indices_fit es x && indices_fit es y) (indices_fit es r)).0 e in
        let l = (and-eq-true_iff (indices_fit es x) (indices_fit es y)).0 k.0 in
        let a = arms_found x y r h in
        rw (same_fits x v.0 a.0 l.0, same_fits y v.1 a.1 l.1, same_fits r v.2 a.2 k.1) refl
    same_fits (make_cont m x r) v h e =
        let k = (and-eq-true_iff (indices_fit es x) (indices_fit es r)).0 e in
        let a = saved_found m x r h in
        rw (same_fits x v.1 a.0 k.0, same_fits r v.2 a.1 k.1) refl

    seven : (op : ℕ) → eqb op 7 ≡ true → leb op 9 ≡ true
    seven op e = rw (eqb-true op 7 e) refl

    pub same_closes : (u : ℕ) (c : Code) → Valid c → Found c → closes es u c ≡ true → closes es' (g u) (reindex f c) ≡ true
    unfolding reindex closes Valid
    same_closes u done v h e = never e
    same_closes u (neutral op ns r) v h e =
        or_cases (eqb op 7 && is_template u (entry_of es (get_or ns 0 0))) (closes es u r) e
        (λ q.
        let a = (and-eq-true_iff (eqb op 7) (is_template u (entry_of es (get_or ns 0 0)))).0 q in
        let l = seven op a.0 in
        or_left (eqb op 7 && is_template (g u) (entry_of es' (get_or (reindexed f op ns) 0 0))) (closes es' (g u) (reindex f r))
        (rw (a.0, first_new op ns v.0 v.1 l, head_found_lem op ns r h l) (template_same u (entry_of es (get_or ns 0 0)) a.1)))
        (λ q. or_right (eqb op 7 && is_template (g u) (entry_of es' (get_or (reindexed f op ns) 0 0))) (closes es' (g u) (reindex f r))
        (same_closes u r v.3 (rest_found op ns r h) q))
    same_closes u (return r) v h e = same_closes u r v (plain_found r h) e
    same_closes u (call m r) v h e = same_closes u r v.1 (call_found m r h) e
    same_closes u (unless_false x y r) v h e =
        let a = arms_found x y r h in
        let X = closes es' (g u) (reindex f x) in
        let Y = closes es' (g u) (reindex f y) in
        let R = closes es' (g u) (reindex f r) in
        or_cases (closes es u x) (closes es u y || closes es u r) e (λ q. or_left X (Y || R) (same_closes u x v.0 a.0 q))
        (λ q. or_right X (Y || R)
        (or_cases (closes es u y) (closes es u r) q (λ q. or_left Y R (same_closes u y v.1 a.1 q)) (λ q. or_right Y R (same_closes u r v.2 a.2 q))))
    same_closes u (make_cont m x r) v h e =
        let a = saved_found m x r h in
        let X = closes es' (g u) (reindex f x) in
        let R = closes es' (g u) (reindex f r) in
        or_cases (closes es u x) (closes es u r) e (λ q. or_left X R (same_closes u x v.1 a.0 q)) (λ q. or_right X R (same_closes u r v.2 a.1 q))
