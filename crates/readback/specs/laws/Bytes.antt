-- Flat code and the linear file of an accepted tree file are bytes. Assumes nothing.
use Rattle.std.specs.Prelude.{◌≡◌, refl, Bool, true, false, ◌&&◌, List, [], ◌∷◌, ◌++◌, ℕ, zero, suc, ◌+◌, ◌/◌, ◌%◌, ◌<◌, ◌≤◌, ◌^◌, length, drop}
use Rattle.std.specs.Prelude.{leb, ltb}
use Rattle.std.proofs.Math.Bool.{and-eq-true_iff}
use Rattle.std.proofs.Math.Option.{none}
use Rattle.std.proofs.Common.{arith, get_or-drop, leb-true, ltb-true, ltb-false}
use Rattle.std.proofs.Math.ListN.{get_or-eq_default}
use Rattle.files.specs.Reading.{got}
use Rattle.files.specs.laws.AllGot.{Each}
use Rattle.files.specs.Codes.{shapes, shape_of, is_neutral}
use Rattle.files.specs.Code.{Code, done, neutral, return, call, unless_false, make_cont}
use Rattle.files.specs.Flat.{flat, conditional, fits_offset, arms_fit, offsets_fit, offset_template}
use Rattle.files.specs.Grammar.{is_closed, lowest}
use Rattle.files.specs.Linear.{entries_bits, byte_of, bytes_from, bytes_of, three_bytes, template_bytes, templates_bytes, linear_file}
use Rattle.files.specs.Tree.{Template}
use Rattle.files.specs.Valid.{Bytes, Valid}
use Rattle.files.specs.laws.BytesLaws.{bytes_append}
use Rattle.files.specs.Accepted.{flat_checked}
use Rattle.readback.specs.laws.Bits.{AreBits}
use Rattle.files.specs.laws.AcceptedLaws.{lowest_none}
use Rattle.readback.specs.laws.Entries.{entries_are}
use Rattle.readback.specs.laws.TreeFacts.{TemplateFacts, tree_facts}
use Rattle.files.specs.laws.AcceptedLaws.{checked_read, flat_checked_lem, flat_offsets}

-- ---- flat code
conditional_bytes : (c : Bool) (X Y R : List ℕ) → arms_fit c (length X) (length Y) ≡ true → Bytes X → Bytes Y → Bytes R → Bytes (conditional c X Y R)
unfolding conditional arms_fit Bytes
conditional_bytes true X Y R f x y r =
    let l : length X ≤ 65535 = leb-true _ _ f in
    (omega arith, (omega arith, (omega arith, bytes_append X (Y ++ R) x (bytes_append Y R y r))))
conditional_bytes false X Y R f x y r =
    let k = (and-eq-true_iff (fits_offset (3 + length X)) (fits_offset (length Y))).0 f in
    let l : 3 + length X ≤ 65535 = leb-true _ _ k.0 in
    let i : length Y ≤ 65535 = leb-true _ _ k.1 in (
      omega arith,
      (
        omega arith,
        (omega arith, bytes_append X (5 ∷ length Y / 256 ∷ length Y % 256 ∷ (Y ++ R)) x (omega arith, (omega arith, (omega arith, bytes_append Y R y r)))),
      ),
    )

neutral_byte : (op : ℕ) → is_neutral op ≡ true → op < 256
unfolding is_neutral shape_of
neutral_byte op e = go (ltb op 32) refl
  where
    go : (b : Bool) → ltb op 32 ≡ b → op < 256
    go true h = omega (arith, ltb-true op 32 h)
    go false h =
        let i : shape_of op ≤ 3 = leb-true (shape_of op) 3 ((and-eq-true_iff (leb 6 op) (leb (shape_of op) 3)).0 e).1 in
        let j : 32 ≤ op = ltb-false op 32 h in
        let k : shape_of op ≡ 6 = get_or-eq_default shapes 6 j in
        absurd (omega arith)

pub flat_bytes : (c : Code) → Valid c → offsets_fit c ≡ true → Bytes (flat c)
unfolding flat Valid offsets_fit Bytes
flat_bytes done v f = tt
flat_bytes (neutral op ns r) v f = (neutral_byte op v.0, bytes_append ns (flat r) v.2 (flat_bytes r v.3 f))
flat_bytes (return r) v f = (omega arith, flat_bytes r v f)
flat_bytes (call n r) v f = (omega arith, (v.0, flat_bytes r v.1 f))
flat_bytes (unless_false x y r) v f =
    let a = (and-eq-true_iff (arms_fit (is_closed x) (length (flat x)) (length (flat y))) (offsets_fit x && (offsets_fit y && offsets_fit r))).0 f in
    let b = (and-eq-true_iff (offsets_fit x) (offsets_fit y && offsets_fit r)).0 a.1 in
    let c = (and-eq-true_iff (offsets_fit y) (offsets_fit r)).0 b.1 in
    conditional_bytes (is_closed x) (flat x) (flat y) (flat r) a.0 (flat_bytes x v.0 b.0) (flat_bytes y v.1 c.0) (flat_bytes r v.2 c.1)
flat_bytes (make_cont n x r) v f =
    let a = (and-eq-true_iff (fits_offset (length (flat r))) (offsets_fit x && offsets_fit r)).0 f in
    let b = (and-eq-true_iff (offsets_fit x) (offsets_fit r)).0 a.1 in
    let l : length (flat r) ≤ 65535 = leb-true _ _ a.0 in
    (omega arith, (omega arith, (omega arith, (v.0, bytes_append (flat r) (flat x) (flat_bytes r v.2 b.1) (flat_bytes x v.1 b.0)))))

-- ---- bits as bytes
byte_small : (b : List ℕ) → AreBits b → byte_of b < 256
unfolding byte_of
byte_small b h = omega (arith, h.small 0, h.small 1, h.small 2, h.small 3, h.small 4, h.small 5, h.small 6, h.small 7)

bytes_small : (n : ℕ) (b : List ℕ) → AreBits b → Bytes (bytes_from n b)
unfolding bytes_from Bytes
bytes_small zero b h = tt
bytes_small (suc n) b h = (byte_small b h, bytes_small n (drop 8 b) (record { small = λ i. rw (get_or-drop 8 b i 0) (h.small (8 + i)) }))

-- ---- the file
template_bytes_lem : (T own : ℕ) (t : Template) → TemplateFacts T own t → offsets_fit t.code ≡ true → Bytes (template_bytes t)
unfolding template_bytes Bytes bytes_of
template_bytes_lem T own t f o =
    let n : length (flat t.code) < 2 ^ 24 = f.writable.short in (
      f.writable.few,
      bytes_append (bytes_of (entries_bits t.entries)) (three_bytes (length (flat t.code)) ++ flat t.code)
          (bytes_small ((length (entries_bits t.entries) + 7) / 8) (entries_bits t.entries) (entries_are t.entries))
          (omega arith, (omega arith, (omega arith, flat_bytes t.code f.valid_code o))),
    )

templates_bytes_lem : (T n m : ℕ) (ts : List Template) → Each (TemplateFacts T) n ts → lowest offset_template m ts ≡ none → Bytes (templates_bytes ts)
unfolding templates_bytes Bytes
templates_bytes_lem T n m [] f o = tt
templates_bytes_lem T n m (t ∷ ts) f o =
    let h = lowest_none offset_template m t ts o in
    bytes_append (template_bytes t) (templates_bytes ts) (template_bytes_lem T n t f.0 h.0) (templates_bytes_lem T (n + 1) (m + 1) ts f.1 h.1)

pub file_bytes : (s : List ℕ) (ts : List Template) (q : ℕ) → flat_checked s ≡ got ts q → Bytes (linear_file ts)
unfolding linear_file Bytes
file_bytes s ts q e =
    let f = tree_facts s ts q (checked_read s ts q (flat_checked_lem s ts q e)) in
    (omega (arith, f.at_most_64), templates_bytes_lem (length ts) 0 0 ts f.each (flat_offsets s ts q e))
