-- The joined file: its refusals, its length and its bits, by what the functions found. Assumes nothing.
use Prim.Native.Nat.{ℕ, suc, ◌+◌, ◌*◌, ◌-◌, ◌/◌, ◌≤◌, ◌<◌, max}
use Rattle.std.proofs.Common.{arith, sym, ◌∙◌, length-append, drop_of_length-le, length-take-le}
use Rattle.std.specs.Prelude.{◌≡◌, Bool, true, false, get_or, drop, take, leb, Result, Ok, Err}
use Rattle.std.proofs.Math.Path.{refl, ap}
use mathlib.Core.List.{List, [], ◌∷◌, ◌++◌, append_assoc, append-nil}
use Rattle.std.proofs.Math.Option.{none}
use borrow.Author.Tests.{le-leb, lt-leb, leb-true, leb-false}
use Rattle.std.proofs.Math.ListN.{length}
use Rattle.files.specs.Code.{Code, bits}
use Rattle.files.specs.Reading.{got, refused}
use Rattle.files.specs.laws.ReadingLaws.{least_bits}
use Rattle.files.specs.Entries.{Entry, then}
use Rattle.files.specs.laws.AllGot.{then_led, got_value}
use Rattle.files.specs.laws.AcceptedLaws.{or_led, lowest_none}
use Rattle.files.specs.Grammar.{indices_fit, lowest, indexed_template}
use Rattle.files.specs.Tree.{Template, tree_read}
use Rattle.files.specs.Linear.{bits_of, entry_bits, entries_bits}
use Rattle.readback.specs.Bits.{Stands}
use Rattle.readback.specs.laws.Bits.{stands_left, stands_right, length_bits}
use Rattle.readback.specs.Lists.{bits_from}
use Rattle.readback.specs.laws.Lists.{stands_from}
use Rattle.tree_file.specs.File.{list_bits, template_bits, templates_bits, file_bits, tree_file, levels}
use Rattle.tree_file.specs.laws.Lengths.{list_length}
use Rattle.tree_file.proofs.theorems.Written.{file_length}
use Rattle.rewrite.specs.Reindex.{reindex}
use Rattle.rewrite.specs.Tokens.{Token, index_in, tokens, body_bits, tokens_bits, renewed, TokensAt}
use Rattle.rewrite.specs.laws.TokensLaws.{body_end, body_at, body_all, renewed_body}
use Rattle.rewrite.specs.laws.ReindexLaws.{same_bits, same_levels, same_reindex}
use Rattle.join.specs.Adjoin.{open_adjoin, joint_bits, joint_depth, front_bits, back_bits}
use Rattle.join.specs.laws.AdjoinLaws.{adjoin_bits, adjoin_levels, depth_levels, front_back, front_length, back_length}
use Rattle.bit_writer.specs.Put.{put_bits}
use Rattle.tree_file.proofs.theorems.Written.{put_tree}
use Rattle.files.specs.Outcome.{into_bytes, answered, written}
use Rattle.join.specs.declared.First.{First}
use Rattle.join.specs.declared.Joint.{Joint}
use Rattle.join.specs.Join.{moved, joined_first, indices_checked, prologue_checked, unclosed, second_checked, joined_templates, within_limits, joined}
use Rattle.join.specs.Join.{joined_file}
use Rattle.join.specs.Copied.{entries_of, entries_copied, lists_copied}
use Rattle.join.specs.Operands.{CodeAt, ToJoin, first_of, joint_of, file_end}
use Rattle.join.specs.laws.OperandsLaws.{first_start, first_entries, first_writable, first_end, first_code, first_code_is, others_stand, file_inside}
use Rattle.join.specs.laws.OperandsLaws.{file_short}
use Rattle.join.specs.laws.JudgedLaws.{One, one}
use Rattle.join.specs.laws.PutLaws.{Some, some, operand_count_lem}
use Rattle.tree_file.specs.laws.Writable.{TreeWritable}
use Rattle.files.specs.declared.Refusal.{Refusal}
use Rattle.files.specs.Refusal.{refusal}

module _ (f : ℕ → ℕ) where
  body_count : (c : Code) → length (body_bits (reindex f c)) + 5 ≡ bits c
  body_count c =
      let e = ap length (body_end (reindex f c)) ∙ length-append (body_bits (reindex f c)) (bits_of 5 0) in
      omega (arith, list_length (reindex f c), same_bits f c, length_bits 5 0)

-- ---- the bits of the joined file
entries_append : (es ds : List Entry) → entries_bits (es ++ ds) ≡ entries_bits es ++ entries_bits ds
unfolding entries_bits
entries_append [] ds = refl
entries_append (e ∷ es) ds = rw (entries_append es ds) (sym (append_assoc (entry_bits e) (entries_bits es) (entries_bits ds)))

module _ (p t : Template) (ts : List Template) where
  abbrev E : ℕ
  E = length p.entries

  pub joined_bits : file_bits (joined_first p t ∷ ts)
      ≡ (bits_of 8 (suc (length ts)) ++ (bits_of 8 (E + length t.entries) ++ (entries_bits p.entries ++ entries_bits t.entries)))
      ++ (front_bits p.code ++ (body_bits (moved E t.code) ++ (back_bits p.code ++ templates_bits ts)))
  unfolding file_bits templates_bits template_bits joined_first
  joined_bits =
      rw (length-append p.entries t.entries, entries_append p.entries t.entries, adjoin_bits p.code (moved E t.code)) (simp append_assoc)

  -- their number
  pub joined_size : length (file_bits (joined_first p t ∷ ts)) + 5
      ≡ 16 + length (entries_bits p.entries) + length (entries_bits t.entries) + bits p.code + bits t.code + length (templates_bits ts)
  unfolding moved
  joined_size =
      let f : ℕ → ℕ = λ i. E + i in
      let n : length (body_bits (reindex f t.code)) + 5 ≡ bits t.code = body_count f t.code in
      let l : length (file_bits (joined_first p t ∷ ts)) ≡ 16 + length (entries_bits p.entries) + length (entries_bits t.entries) + length
      (front_bits p.code)
      + length (body_bits (reindex f t.code)) + length (back_bits p.code) + length (templates_bits ts) =
      ap length joined_bits ∙ simp (length-append, length_bits) (omega arith) in
      omega (arith, front_length p.code, back_length p.code)

-- ---- 7 was asked of the second operand
pub second_led : (s : List ℕ) (ts : List Template) (q : ℕ) → second_checked s ≡ got ts q → lowest indexed_template 0 ts ≡ none
unfolding second_checked indices_checked
second_led s ts q e =
    then_led (tree_read s) _ e
    (λ us r first on.
    let a = or_led 6 (unclosed us) _ on in
    let b = or_led 7 (lowest indexed_template 0 us) (got us r) a.1 in
    let z : us ≡ ts = (got_value b.1).0 in
    rw z at b.0)

-- ---- both operands, by their templates
pub record Both (a b : List ℕ) (count : ℕ) : Type 0 where
  pub p : Template
  pub t : Template
  pub ts : List Template
  pub end_a : ℕ
  pub end_b : ℕ
  pub read_a : tree_read a ≡ got (p ∷ []) end_a
  pub read_b : tree_read b ≡ got (t ∷ ts) end_b
  pub checked_a : prologue_checked a ≡ got (p ∷ []) end_a
  pub checked_b : second_checked b ≡ got (t ∷ ts) end_b
  pub count_is : count ≡ suc (length ts)

module _ {a first b second : List ℕ} {count : ℕ} (w : ToJoin a first b second count) where
  it : One w.prologue.operand.templates
  it = one w.prologue.operand.templates (sym w.prologue.operand.count_is)

  parts : Some w.file.templates
  parts = some w.file.templates (omega (arith, operand_count_lem w.file, w.file.count_is))

  pub both : Both a b count
  both =
      record {
        p = it.the;
        t = parts.head;
        ts = parts.tail;
        end_a = w.prologue.operand.past;
        end_b = w.file.past;
        read_a = rw it.is at w.prologue.operand.read;
        read_b = rw parts.is at w.file.read;
        checked_a = rw it.is at w.prologue.checked;
        checked_b = rw parts.is at w.checked;
        count_is = w.file.count_is ∙ ap length parts.is;
      }

  pub both_x : {x : First} → x ≡ first_of w.prologue.operand.templates → x ≡ first_of (both.p ∷ [])
  unfolding both
  both_x e = e ∙ ap first_of it.is

  pub both_y : {y : First} → y ≡ first_of w.file.templates → y ≡ first_of (both.t ∷ both.ts)
  unfolding both
  both_y e = e ∙ ap first_of parts.is

  pub both_end : {n : ℕ} → n ≡ file_end w.file.templates → n ≡ file_end (both.t ∷ both.ts)
  unfolding both
  both_end e = e ∙ ap file_end parts.is

module _ {a b : List ℕ} {count : ℕ} (k : Both a b count) where
  abbrev p : Template
  p = k.p

  abbrev t : Template
  t = k.t

  abbrev ts : List Template
  ts = k.ts

  abbrev pub js : List Template
  js = joined_first k.p k.t ∷ k.ts

  is_joined : (n : ℕ) → joined_file a b n ≡ then (within_limits js) (λ us q. into_bytes n (tree_file us) q)
  unfolding joined_file joined then joined_templates
  is_joined n = rw (k.checked_a, k.checked_b) refl

  writable_a : TreeWritable 1 0 p
  writable_a = first_writable a p [] k.end_a k.read_a

  writable_b : TreeWritable (suc (length ts)) 0 t
  writable_b = first_writable b t ts k.end_b k.read_b

  -- the answer r and the output o
  abbrev pub JoinDone : List ℕ → Result ℕ (Refusal ℕ) → List ℕ → Type 0
  JoinDone old r o = (r ≡ answered (joined_file a b (length old))) × (o ≡ written old (joined_file a b (length old)))

  join_refused : (old : List ℕ) (n q : ℕ) → joined_file a b (length old) ≡ refused n q → JoinDone old (Err (refusal n q)) old
  unfolding answered written
  join_refused old n q e = rw e (refl, refl)

  -- ---- what the functions found
  module _ (x y : First) (x-all : x ≡ first_of (k.p ∷ [])) (y-all : y ≡ first_of (k.t ∷ k.ts)) where
    pub entries_x : x.entries ≡ length k.p.entries
    unfolding first_of
    entries_x = ap (λ (f : First). f.entries) x-all

    pub entries_y : y.entries ≡ length k.t.entries
    unfolding first_of
    entries_y = ap (λ (f : First). f.entries) y-all

    start_x : x.start.0 ≡ p.start
    unfolding first_of
    start_x = ap (λ (f : First). f.start.0) x-all

    start_y : y.start.0 ≡ t.start
    unfolding first_of
    start_y = ap (λ (f : First). f.start.0) y-all

    past_x : x.past.0 ≡ p.start + bits p.code
    unfolding first_of
    past_x = ap (λ (f : First). f.past.0) x-all

    past_y : y.past.0 ≡ t.start + bits t.code
    unfolding first_of
    past_y = ap (λ (f : First). f.past.0) y-all

    pub few : (x.entries < 256) × (y.entries < 256)
    few = (rw entries_x writable_a.few, rw entries_y writable_b.few)

    list_a : Stands a x.start.0 (list_bits p.code)
    list_a = rw start_x (rw (first_code_is a p [] k.end_a k.read_a) at (first_code a p [] k.end_a k.read_a).stands)

    list_b : Stands b y.start.0 (list_bits t.code)
    list_b = rw start_y (rw (first_code_is b t ts k.end_b k.read_b) at (first_code b t ts k.end_b k.read_b).stands)

    deep_a : levels p.code ≤ 15
    deep_a = let h : levels p.code < 16 = writable_a.deep in omega arith

    deep_b : levels t.code ≤ 15
    deep_b = let h : levels t.code < 16 = writable_b.deep in omega arith

    pub code_x : CodeAt a 15 x.start.0
    code_x = record { code = p.code; stands = list_a; valid = writable_a.valid_code; deep = deep_a }

    pub code_y : CodeAt b 15 y.start.0
    code_y = record { code = t.code; stands = list_b; valid = writable_b.valid_code; deep = deep_b }

    -- no number is too small or too large
    pub bounds : (end : ℕ) → end ≡ file_end (k.t ∷ k.ts) → (16 ≤ x.past.0) × (x.past.0 ≤ 524288) × (5 ≤ end) × (end ≤ 524288)
    unfolding file_end
    bounds end e =
        let f = first_start a p [] k.end_a k.read_a in
        let g = first_start b t ts k.end_b k.read_b in
        let i = file_inside a (p ∷ []) k.end_a k.read_a in
        let m = file_inside b (t ∷ ts) k.end_b k.read_b in
        let l = first_end a p [] k.end_a k.read_a in
        let n = first_end b t ts k.end_b k.read_b in
        let u = file_short a (p ∷ []) k.end_a k.read_a in
        let v = file_short b (t ∷ ts) k.end_b k.read_b in
        (omega (arith, past_x), omega (arith, past_x), omega (arith, e), omega (arith, e))

    -- 30
    pub join_many : (old : List ℕ) → 255 < x.entries + y.entries → JoinDone old (Err (refusal 30 0)) old
    unfolding within_limits joined_first then
    join_many old h =
        let n : 255 < length (p.entries ++ t.entries) = rw (length-append p.entries t.entries) (omega (arith, entries_x, entries_y)) in
        join_refused old 30 0 (is_joined (length old) ∙ rw (lt-leb (length (p.entries ++ t.entries)) 255 n) refl)

    module _ (entries_few : x.entries + y.entries ≤ 255) where
      entries_fit_lem : leb (length (p.entries ++ t.entries)) 255 ≡ true
      entries_fit_lem = le-leb (length (p.entries ++ t.entries)) 255 (rw (length-append p.entries t.entries) (omega (arith, entries_x, entries_y)))

      module _ (j : Joint) (found : (v : CodeAt a 15 x.start.0) → j ≡ joint_of x.start.0 v.code) where
        j_is : j ≡ joint_of x.start.0 p.code
        unfolding code_x
        j_is = found code_x

        place_is : j.place.0 ≡ x.start.0 + joint_bits p.code
        unfolding joint_of
        place_is = ap (λ (i : Joint). i.place.0) j_is

        depth_is : j.depth ≡ joint_depth p.code
        unfolding joint_of
        depth_is = ap (λ (i : Joint). i.depth) j_is

        pub depth_few : j.depth ≤ 15
        depth_few = omega (arith, depth_is, depth_levels p.code, deep_a)

        levels_joined : levels (open_adjoin p.code (moved (length p.entries) t.code)) ≡ max (levels p.code) (joint_depth p.code + levels t.code)
        unfolding moved
        levels_joined = adjoin_levels p.code _ ∙ rw (same_levels (λ i. length p.entries + i) t.code) refl

        module _ (r : Bool) (fit : (v : CodeAt b 15 y.start.0) → r ≡ leb (levels v.code) (15 - j.depth)) where
          r_is : r ≡ leb (levels t.code) (15 - j.depth)
          unfolding code_y
          r_is = fit code_y

          -- 4
          pub join_deep : (old : List ℕ) → r ≡ false → JoinDone old (Err (refusal 4 0)) old
          unfolding within_limits joined_first then
          join_deep old e =
              let h : 15 - j.depth < levels t.code = leb-false (levels t.code) (15 - j.depth) (sym r_is ∙ e) in
              let d : 15 < levels (open_adjoin p.code (moved (length p.entries) t.code)) = rw levels_joined (omega (arith, depth_is, depth_few)) in
              join_refused old 4 0 (is_joined (length old) ∙ rw (entries_fit_lem, lt-leb _ 15 d) refl)

          module _ (fits : r ≡ true) where
            levels_fit : leb (levels (open_adjoin p.code (moved (length p.entries) t.code))) 15 ≡ true
            levels_fit =
                let h : levels t.code ≤ 15 - j.depth = leb-true (levels t.code) (15 - j.depth) (sym r_is ∙ fits) in
                le-leb (levels (open_adjoin p.code (moved (length p.entries) t.code))) 15
                (rw levels_joined (omega (arith, depth_is, depth_few, deep_a)))

            -- ---- the length, as the code computes it
            module _ (end s₁ s₂ size : ℕ) (end_is : end ≡ file_end (k.t ∷ k.ts)) (e₁ : s₁ ≡ x.past.0 - 16) (e₂ : s₂ ≡ end - 5)
                (e : size ≡ (s₁ + s₂ + 7) / 8) where
              end_all : end ≡ t.start + bits t.code + length (templates_bits ts)
              unfolding file_end
              end_all = end_is ∙ first_end b t ts k.end_b k.read_b

              sums : s₁ + s₂ ≡ length (file_bits js)
              sums =
                  let f = first_start a p [] k.end_a k.read_a in
                  let g = first_start b t ts k.end_b k.read_b in
                  omega (arith, joined_size p t ts, past_x, end_all)

              size_is : size ≡ length (tree_file js)
              size_is = e ∙ ap (λ n. (n + 7) / 8) sums ∙ sym (file_length js)

              -- 1
              pub join_long : (old : List ℕ) → 65536 < size → JoinDone old (Err (refusal 1 0)) old
              unfolding within_limits joined_first then
              join_long old h =
                  join_refused old 1 0 (is_joined (length old) ∙ rw (entries_fit_lem, levels_fit, lt-leb (length (tree_file js)) 65536 (rw size_is at h)) refl)

              module _ (short : size ≤ 65536) where
                is_file : (n : ℕ) → joined_file a b n ≡ into_bytes n (tree_file js) (8 * length (tree_file js))
                unfolding within_limits joined_first then
                is_file n = is_joined n ∙ rw (entries_fit_lem, levels_fit, le-leb (length (tree_file js)) 65536 (rw size_is at short)) refl

                -- 9
                pub join_short : (old : List ℕ) → length old < size → JoinDone old (Err (refusal 9 size)) old
                unfolding into_bytes
                join_short old h =
                    rw size_is
                    (join_refused old 9 (length (tree_file js)) (is_file (length old) ∙ rw (lt-leb (length (tree_file js)) (length old) (rw size_is at h)) refl))

                -- within what the writers ask
                pub write_bounds : ((16 ≤ x.start.0) × (x.start.0 ≤ j.place.0) × (j.place.0 ≤ x.past.0) × (x.past.0 ≤ 8 * length a))
                    × ((16 ≤ y.start.0) × (y.start.0 + 5 ≤ y.past.0) × (y.past.0 ≤ end) × (end ≤ 8 * length b)) × (x.past.0 + end ≤ 21 + 8 * size)
                unfolding file_end
                write_bounds =
                    let f = first_start a p [] k.end_a k.read_a in
                    let g = first_start b t ts k.end_b k.read_b in
                    let i = file_inside a (p ∷ []) k.end_a k.read_a in
                    let m = file_inside b (t ∷ ts) k.end_b k.read_b in
                    let l = first_end a p [] k.end_a k.read_a in
                    let u = back_length p.code in
                    let v = least_bits t.code in (
                      (omega (arith, start_x), omega (arith, place_is), omega (arith, place_is, past_x, start_x), omega (arith, past_x)),
                      (omega (arith, start_y), omega (arith, start_y, past_y), omega (arith, past_y, end_all), omega (arith, end_is)),
                      omega (arith, past_x),
                    )

                -- ---- the bits, as they are copied
                abbrev place : ℕ
                place = j.place.0

                copied_a : bits_from a 16 (x.start.0 - 16) ≡ entries_bits p.entries
                copied_a =
                    let n : x.start.0 - 16 ≡ length (entries_bits p.entries) = omega (arith, start_x, first_start a p [] k.end_a k.read_a) in
                    rw n (stands_from (entries_bits p.entries) (first_entries a p [] k.end_a k.read_a))

                copied_b : bits_from b 16 (y.start.0 - 16) ≡ entries_bits t.entries
                copied_b =
                    let n : y.start.0 - 16 ≡ length (entries_bits t.entries) = omega (arith, start_y, first_start b t ts k.end_b k.read_b) in
                    rw n (stands_from (entries_bits t.entries) (first_entries b t ts k.end_b k.read_b))

                split_a : Stands a x.start.0 (front_bits p.code ++ back_bits p.code)
                split_a = rw (front_back p.code) at list_a

                copied_front : bits_from a x.start.0 (place - x.start.0) ≡ front_bits p.code
                copied_front =
                    let n : place - x.start.0 ≡ length (front_bits p.code) = omega (arith, place_is, front_length p.code) in
                    rw n (stands_from (front_bits p.code) (stands_left (front_bits p.code) (back_bits p.code) split_a))

                copied_back : bits_from a place (x.past.0 - place) ≡ back_bits p.code
                copied_back =
                    let n : x.past.0 - place ≡ length (back_bits p.code) = omega (arith, place_is, past_x, start_x, back_length p.code) in
                    let q : x.start.0 + length (front_bits p.code) ≡ place = omega (arith, place_is, front_length p.code) in
                    let h : Stands a place (back_bits p.code) = rw q at (stands_right (front_bits p.code) (back_bits p.code) split_a) in
                    rw n (stands_from (back_bits p.code) h)

                copied_others : bits_from b y.past.0 (end - y.past.0) ≡ templates_bits ts
                copied_others =
                    let n : end - y.past.0 ≡ length (templates_bits ts) = omega (arith, past_y, end_all) in
                    let h : Stands b y.past.0 (templates_bits ts) = rw past_y (others_stand b t ts k.end_b k.read_b) in
                    rw n (stands_from (templates_bits ts) h)

                named : indices_fit t.entries t.code ≡ true
                named = (lowest_none indexed_template 0 t ts (second_led b (t ∷ ts) k.end_b k.checked_b)).0

                wide : y.past.0 - y.start.0 - 5 ≡ bits t.code - 5
                wide = omega (arith, past_y, start_y)

                pub tokens_y : TokensAt b y.start.0 (y.past.0 - y.start.0 - 5)
                tokens_y = rw wide (body_at t.code writable_b.valid_code list_b)

                module _ (indices : List ℕ) (in_table : (i : ℕ) → x.entries + i < 256 → get_or indices i 0 ≡ x.entries + i) where
                  abbrev f : ℕ → ℕ
                  f = index_in indices

                  moves : reindex f t.code ≡ moved (length p.entries) t.code
                  unfolding moved index_in
                  moves =
                      same_reindex f (λ i. length p.entries + i) t.entries
                      (λ i h. in_table i (omega (arith, entries_x, entries_y)) ∙ rw entries_x refl) t.code writable_b.valid_code named

                  file_bits_lem : entries_copied a x b y count ++ lists_copied a x place b y end (tokens_bits (renewed f (tokens t.code []))) ≡ file_bits js
                  unfolding entries_of lists_copied
                  file_bits_lem =
                      ap
                      (λ (n : ℕ).
                      entries_of a x.start.0 b y.start.0 n (x.entries + y.entries)
                      ++ lists_copied a x place b y end (tokens_bits (renewed f (tokens t.code [])))) k.count_is
                      ∙ rw (
                        copied_a,
                        copied_b,
                        copied_front,
                        copied_back,
                        copied_others,
                        renewed_body f t.code writable_b.valid_code,
                        moves,
                        entries_x,
                        entries_y,
                      ) (sym (joined_bits p t ts))

                  module _ (old o : List ℕ) (room : size ≤ length old)
                      (put : (v : TokensAt b y.start.0 (y.past.0 - y.start.0 - 5)) →
                      o ≡ put_bits (take size old) 0 (entries_copied a x b y count ++ lists_copied a x place b y end (tokens_bits (renewed f v.all)))) where
                    o_bits : o ≡ put_bits (take size old) 0 (file_bits js)
                    o_bits =
                        let g = rw wide at put in
                        g (body_at t.code writable_b.valid_code list_b)
                        ∙ ap
                        (λ (v : List Token). put_bits (take size old) 0
                        (entries_copied a x b y count ++ lists_copied a x place b y end (tokens_bits (renewed f v))))
                        (body_all t.code writable_b.valid_code list_b)
                        ∙ ap (put_bits (take size old) 0) file_bits_lem

                    o_file : o ≡ tree_file js
                    o_file =
                        let n : length (take size old) ≡ size = length-take-le size old room in
                        o_bits ∙ put_tree (take size old) js (rw n (rw size_is refl_le))
                        ∙ rw (drop_of_length-le (take size old) {i = length (tree_file js)} (rw (n, size_is) refl_le)) (append-nil (tree_file js))
                      where
                        refl_le : length (tree_file js) ≤ length (tree_file js)
                        refl_le = omega arith

                    pub join_written : (o' : List ℕ) → o' ≡ o ++ drop size old → JoinDone old (Ok size) o'
                    unfolding into_bytes answered written
                    join_written o' e =
                        rw (is_file (length old), le-leb (length (tree_file js)) (length old) (rw size_is at room))
                        (rw size_is refl, e ∙ rw (o_file, size_is) refl)
