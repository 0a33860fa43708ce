-- A template that stays, as it is put: how many entries it has left, these entries, its list with the new indices. Assumes nothing.
use Prim.Native.Nat.{ℕ, zero, suc, ◌+◌, ◌*◌, ◌-◌, ◌≤◌, ◌<◌}
use native.Mathlib.Omega.{arith}
use Rattle.std.specs.Prelude.{◌≡◌, Bool, cond, ◌&&◌, ◌||◌, leb, get_or}
use Rattle.std.proofs.Math.Path.{refl, sym, ap, subst}
use Rattle.std.proofs.Common.{◌∙◌}
use Rattle.std.proofs.Math.Bool.{true, false}
use mathlib.Core.List.{List, [], ◌∷◌, map}
use borrow.Author.Tests.{lt-ltb, leb-true, eq-eqb}
use Rattle.std.proofs.Math.Dec.{ltb, eqb}
use Rattle.std.proofs.Math.ListN.{length}
use Rattle.std.proofs.lemmas.List.{length-map}
use Rattle.files.specs.Codes.{is_neutral, operands}
use Rattle.files.specs.Code.{Code, done, neutral, return, call, unless_false, make_cont, bits}
use Rattle.files.specs.Entries.{Entry}
use Rattle.files.specs.Linear.{bits_of, entries_bits}
use Rattle.files.specs.Tree.{Template}
use Rattle.files.specs.Valid.{Valid}
use Rattle.readback.specs.Bits.{Stands}
use Rattle.readback.specs.laws.Bits.{length_bits}
use Rattle.readback.specs.laws.Lists.{bits_are}
use Rattle.bit_writer.specs.Put.{put_bits}
use Rattle.tree_file.specs.File.{list_bits, template_bits}
use Rattle.tree_file.proofs.theorems.Back.{neutral_shape}
use Rattle.tree_file.specs.laws.Lengths.{list_are, template_length}
use Rattle.rewrite.specs.Reindex.{reindexed, reindex}
use Rattle.rewrite.specs.Tokens.{Token, tokens_bits, renewed, index_in}
use Rattle.rewrite.specs.laws.TokensLaws.{one_operand, renewed_list, renewed_length}
use Rattle.trim.specs.declared.Span.{Span}
use Rattle.trim.specs.Kept.{sift, rank}
use Rattle.trim.specs.Trim.{names, new_index, renumber, trim_template}
use Rattle.trim.specs.Standing.{ListIn, EntriesIn, span_of, is_marked, RowOf, PutMore, kept_entries}
use Rattle.trim.specs.laws.KeptLaws.{rank_most, sift_same, sift_length}
use Rattle.trim.specs.laws.ReachedLaws.{or_left, or_right}
use Rattle.trim.specs.laws.StandLaws.{entries_in}
use Rattle.trim.proofs.theorems.MarkLaws.{names_within, span_tokens, span_all}
use Rattle.trim.proofs.theorems.EntryLaws.{more_then, more_put}

-- ---- indices that agree where they are named
module _ (f g : ℕ → ℕ) where
  index_same : (op : ℕ) (ns : List ℕ) → is_neutral op ≡ true → operands op ≡ length ns → (leb op 9 ≡ true → f (get_or ns 0 0) ≡ g (get_or ns 0 0))
      → reindexed f op ns ≡ reindexed g op ns
  unfolding reindexed
  index_same op ns e l h = go (leb op 9) refl
    where
      one : (ns : List ℕ) → op ≤ 9 → operands op ≡ length ns → f (get_or ns 0 0) ≡ g (get_or ns 0 0) → map f ns ≡ map g ns
      one [] k l h = refl
      one (a ∷ []) k l h = rw h refl
      one (a ∷ b ∷ ns) k l h =
          let n = neutral_shape op (suc (suc (length ns))) e l in
          absurd (omega (arith, one_operand f op n.past_five k, n.shape))

      go : (b : Bool) → leb op 9 ≡ b → cond b (map f ns) ns ≡ cond b (map g ns) ns
      go true k = one ns (leb-true op 9 k) l (h k)
      go false k = refl

  pub reindex_same : (c : Code) → Valid c → ((n : ℕ) → names n c ≡ true → f n ≡ g n) → reindex f c ≡ reindex g c
  unfolding reindex names Valid
  reindex_same done v h = refl
  reindex_same (neutral op ns r) v h =
      rw (
        index_same op ns v.0 v.1 (λ e. h (get_or ns 0 0)
            (or_left (leb op 9 && eqb (get_or ns 0 0) (get_or ns 0 0)) (names (get_or ns 0 0) r) (rw (e, eq-eqb (get_or ns 0 0) (get_or ns 0 0) refl) refl))),
        reindex_same r v.3 (λ n e. h n (or_right (leb op 9 && eqb (get_or ns 0 0) n) (names n r) e)),
      ) refl
  reindex_same (return r) v h = rw (reindex_same r v h) refl
  reindex_same (call m r) v h = rw (reindex_same r v.1 h) refl
  reindex_same (unless_false x y r) v h =
      rw (
        reindex_same x v.0 (λ n e. h n (or_left (names n x) (names n y || names n r) e)),
        reindex_same y v.1 (λ n e. h n (or_right (names n x) (names n y || names n r) (or_left (names n y) (names n r) e))),
        reindex_same r v.2 (λ n e. h n (or_right (names n x) (names n y || names n r) (or_right (names n y) (names n r) e))),
      ) refl
  reindex_same (make_cont m x r) v h =
      rw (reindex_same x v.1 (λ n e. h n (or_left (names n x) (names n r) e)), reindex_same r v.2 (λ n e. h n (or_right (names n x) (names n r) e))) refl

-- ---- a row says what is named
module _ (c : Code) (E : ℕ) (row : List ℕ) (is : RowOf c E row) where
  pub row_marked : (n : ℕ) → 1 ≤ n → n ≤ E → is_marked row n ≡ names n c
  unfolding is_marked new_index
  row_marked zero h k = absurd (omega arith)
  row_marked (suc i) h k = ap (λ (x : ℕ). ltb 0 x) (is (suc i) h k) ∙ go (names (suc i) c)
    where
      go : (b : Bool) → ltb 0 (cond b (suc (rank (λ j. names (suc j) c) 0 i)) 0) ≡ b
      go true = lt-ltb 0 (suc (rank (λ j. names (suc j) c) 0 i)) (omega arith)
      go false = refl

-- ---- what functions are given
module _ {s table : List ℕ} {own here count : ℕ} {list : Span} (w : ListIn s table own here list count) where
  abbrev x : Template
  x = w.at.template

  pub count_few : count ≤ 255
  count_few = let h : length x.entries < 256 = w.at.ok.few in omega (arith, w.count_is)

  pub span_places : (list.start.0 ≡ x.start) × (list.past.0 ≡ x.start + bits x.code)
  unfolding span_of
  span_places = (ap (λ (l : Span). l.start.0) w.span_is, ap (λ (l : Span). l.past.0) w.span_is)

  -- places of a template that is no further on in the output than in the file
  pub template_room : length s ≤ 65536 → (8 + (length (entries_bits x.entries) + bits x.code) ≡ length (template_bits x))
      × (here + length (template_bits x) ≤ 524288)
  template_room h =
      let f : here + length (template_bits x) ≤ 8 * length s = w.at.stands.fits in
      (omega (arith, template_length x), omega arith)

  abbrev pub template_entries : (p at : ℕ) → length s ≤ 65536 → p ≡ here + 8 → at ≤ here + 8 → EntriesIn s p count at
  template_entries p at h e l =
      let r = template_room h in
      record {
        own = own;
        total = w.at.total;
        entries = x.entries;
        ok = w.at.ok.entries_ok;
        stands = subst (λ (q : ℕ). Stands s q (entries_bits x.entries)) (sym e) (entries_in w.at);
        count_is = w.count_is;
        fits = omega (arith, r);
      }

  module _ (numbers row : List ℕ) (is : RowOf x.code count row) (left : ℕ) (counted : left ≡ rank (λ j. names (suc j) x.code) 0 count) where
    abbrev f : ℕ → ℕ
    f u = get_or numbers u 0 - 1

    kept_same : kept_entries numbers row x.entries ≡ (trim_template f x).entries
    unfolding kept_entries trim_template
    kept_same =
        ap (map (renumber f))
        (sift_same (λ j. is_marked row (suc j)) (λ j. names (suc j) x.code) 0 x.entries
        (λ i h. row_marked x.code count row is (suc (0 + i)) (omega arith) (omega (arith, w.count_is))))

    left_is : left ≡ length (trim_template f x).entries
    unfolding trim_template
    left_is =
        counted ∙ ap (rank (λ j. names (suc j) x.code) 0) w.count_is
        ∙ sym (sift_length (λ j. names (suc j) x.code) 0 x.entries) ∙ sym (length-map (sift (λ j. names (suc j) x.code) 0 x.entries) (renumber f))

    pub left_fits : left < 256
    left_fits = omega (arith, counted, rank_most (λ j. names (suc j) x.code) 0 count, count_few)

    pick_named : (n : ℕ) → names n x.code ≡ true → index_in row n ≡ new_index x.code n
    unfolding index_in
    pick_named n e =
        let k = names_within x.entries n x.code w.at.indexed e in
        is n k.0 (omega (arith, k, w.count_is)) ∙ rw e refl

    list_is : tokens_bits (renewed (index_in row) (span_tokens w).all) ≡ list_bits (trim_template f x).code
    unfolding trim_template
    list_is = ap (λ (ts : List Token). tokens_bits (renewed (index_in row) ts)) (span_all w) ∙ renewed_list (index_in row) x.code w.at.ok.valid_code
        ∙ ap list_bits (reindex_same (index_in row) (new_index x.code) x.code w.at.ok.valid_code pick_named)

    pub template_put : (o o₁ o₂ o₃ : List ℕ) (p p₁ p₂ p₃ n : ℕ) → length s ≤ 65536 → p ≤ here → n ≡ list.past.0 - list.start.0
        → o₁ ≡ put_bits o p (bits_of 8 left) → p₁ ≡ p + 8 → p₂ ≤ p₁ + length (entries_bits x.entries)
        → PutMore o₁ p₁ o₂ p₂ (entries_bits (kept_entries numbers row x.entries))
        → o₃ ≡ put_bits o₂ p₂ (tokens_bits (renewed (index_in row) (span_tokens w).all)) → p₃ ≡ p₂ + n
        → (p₃ ≤ p + length (template_bits x)) × PutMore o p o₃ p₃ (template_bits (trim_template f x))
    unfolding template_bits
    template_put o o₁ o₂ o₃ p p₁ p₂ p₃ n short l en e₁ q₁ le m e₃ q₃ =
        let r = template_room short in
        let sp = span_places in
        let k : n ≡ bits x.code = omega arith in
        let b = list_bits (trim_template f x).code in
        let ln : length b ≡ n =
        ap length (sym list_is) ∙ renewed_length (index_in row) (span_tokens w).all ∙ (span_tokens w).size ∙ sym en in
        let first : PutMore o p o₁ p₁ (bits_of 8 (length (trim_template f x).entries)) =
        more_put (bits_of 8 (length (trim_template f x).entries)) (bits_are 8 _) (omega (arith, r)) (e₁ ∙ ap (λ (y : ℕ). put_bits o p (bits_of 8 y)) left_is)
        (q₁ ∙ ap (λ (y : ℕ). p + y) (sym (length_bits 8 (length (trim_template f x).entries)))) in
        let second : PutMore o₁ p₁ o₂ p₂ (entries_bits (trim_template f x).entries) =
        subst (λ (es : List Entry). PutMore o₁ p₁ o₂ p₂ (entries_bits es)) kept_same m in
        let third : PutMore o₂ p₂ o₃ p₃ b = more_put b (list_are (trim_template f x).code) (omega (arith, r)) (e₃ ∙ ap (put_bits o₂ p₂) list_is) (omega arith) in
        (omega (arith, r), more_then _ _ first (more_then _ _ second third))
