-- The tree file of templates that can be written is read back: each list, each template, the file. Assumes nothing.
use Prim.Native.Nat.{ℕ, zero, suc, ◌+◌, ◌*◌, ◌^◌, ◌≤◌, ◌<◌}
use native.Mathlib.Omega.{arith}
use Rattle.std.specs.Prelude.{◌≡◌, Bool, true, false, get_or, leb, Some}
use Rattle.std.proofs.Math.Path.{refl, ap}
use Rattle.std.proofs.Common.{sym, ◌∙◌, leb-true, leb-false, le-leb, eq-eqb, ne_eqb}
use Rattle.std.proofs.Math.Bool.{and-eq-true_iff}
use mathlib.Core.List.{List, [], ◌∷◌, ◌++◌, append-nil}
use Rattle.std.proofs.Math.ListN.{length, length-append, get_or-eq_default}
use Rattle.fields.specs.Field.{field_read}
use Rattle.fields.specs.laws.Laws.{whole}
use Rattle.files.specs.Codes.{shapes, shape_of, is_neutral, operands}
use Rattle.files.specs.Code.{Code, done, neutral, return, call, unless_false, make_cont, Instr, neutral_i, return_i, call_i, unless_i, cont_i, put}
use Rattle.files.specs.Code.{simple, bits}
use Rattle.files.specs.Valid.{Bytes, Valid}
use Rattle.files.specs.Reading.{got, item, below, shaped, head_at, before, after, deep_of, list_at}
use Rattle.files.specs.laws.ReadingLaws.{list_step}
use Rattle.files.specs.laws.Heads.{code_read, one_read, two_read, conditional_read, make_cont_read}
use Rattle.files.specs.Entries.{then, nothing_more}
use Rattle.files.specs.laws.AllGot.{Each, field_got_lem}
use Rattle.files.specs.Linear.{bits_of, entries_bits, bytes_of}
use Rattle.files.specs.Tree.{Template, template_at, templates_at, padded_end, tree_read}
use Rattle.readback.specs.Bits.{Stands}
use Rattle.readback.specs.laws.Bits.{Holds, stands_left, stands_right, here, field_stands, length_bits, bytes_stand, padding_zero}
use Rattle.readback.specs.laws.Entries.{entries_back}
use Rattle.tree_file.specs.File.{operands_bits, list_bits, template_bits, templates_bits, file_bits, tree_file, starts_at, placed, levels}
use Rattle.tree_file.specs.laws.Lengths.{operands_length, list_length, file_are}
use Rattle.tree_file.proofs.theorems.Standing.{code_end}
use Rattle.tree_file.specs.laws.Writable.{TreeWritable}

-- ---- neutral codes
-- what is known of a neutral code
pub record Neutral (op n : ℕ) : Type 0 where
  pub past_five : 6 ≤ op
  pub fits : op < 32
  pub shape : shape_of op ≡ suc n
  pub few : n ≤ 2

code_small : (v : ℕ) → shape_of v ≤ 3 → v < 32
unfolding shape_of
code_small v h = go (leb 32 v) refl
  where
    go : (t : Bool) → leb 32 v ≡ t → v < 32
    go true e = let f : get_or shapes v 6 ≡ 6 = get_or-eq_default shapes 6 (leb-true 32 v e) in absurd (omega arith)
    go false e = leb-false 32 v e

no_end : (v k : ℕ) → 6 ≤ v → shape_of v ≡ k → 1 ≤ k
no_end v zero h e = let z : v ≡ 0 = code_end v e in absurd (omega arith)
no_end v (suc k) h e = omega arith

pub neutral_shape : (op n : ℕ) → is_neutral op ≡ true → operands op ≡ n → Neutral op n
unfolding is_neutral operands
neutral_shape op n e f =
    let a = (and-eq-true_iff (leb 6 op) (leb (shape_of op) 3)).0 e in
    let h₁ : 6 ≤ op = leb-true 6 op a.0 in
    let h₂ : shape_of op ≤ 3 = leb-true (shape_of op) 3 a.1 in
    let h₃ : 1 ≤ shape_of op = no_end op (shape_of op) h₁ refl in
    record { past_five = h₁; fits = code_small op h₂; shape = omega arith; few = omega arith }

simple_neutral : (op : ℕ) (ns : List ℕ) → 6 ≤ op → simple op ns ≡ neutral_i op ns
unfolding simple
simple_neutral op ns h = rw (ne_eqb op 1 (λ e. omega arith), ne_eqb op 2 (λ e. omega arith)) refl

-- ---- a field whose bits stand there
module _ (s : List ℕ) where
  read_back : (p w v : ℕ) → v < 2 ^ w → Stands s p (bits_of w v) → field_read s p w ≡ Some (v, record { 0 = p + w })
  read_back p w v lt h =
      let f = field_got_lem s p w (field_stands s p w v lt h) in
      sym (whole s p w f.2) ∙ ap (λ (x : ℕ). Some (x, record { 0 = p + w })) (sym f.0)

  module _ (l p : ℕ) where
    -- an instruction, and then the rest
    item_back : (i : Instr) (q : ℕ) (c : Code) (r : ℕ) → head_at s (deep_of s l) p ≡ item i q → list_at s l q ≡ got c r → list_at s l p ≡ got (put i c) r
    unfolding after before
    item_back i q c r e f = list_step s l p ∙ rw (e, f) refl

    -- the code, whose shape is k
    code_back : (v k : ℕ) → v < 32 → shape_of v ≡ k → Stands s p (bits_of 5 v) → head_at s (deep_of s l) p ≡ shaped s (deep_of s l) p v (p + 5) k
    code_back v k lt e h = code_read s (deep_of s l) p v (record { 0 = p + 5 }) k (read_back p 5 v lt h) e

    end_back_lem : Stands s p (bits_of 5 0) → list_at s l p ≡ got done (p + 5)
    unfolding after shaped shape_of
    end_back_lem h = list_step s l p ∙ rw (code_back 0 0 (omega arith) refl h) refl

    -- a code and its operands
    operands_back : (v : ℕ) (ns : List ℕ) → v < 32 → shape_of v ≡ suc (length ns) → length ns ≤ 2 → Bytes ns → Stands s p (bits_of 5 v ++ operands_bits ns)
        → head_at s (deep_of s l) p ≡ item (simple v ns) (p + 5 + 8 * length ns)
    unfolding shaped operands_bits Bytes
    operands_back v [] lt e few b h = code_back v 1 lt e (stands_left (bits_of 5 v) [] h) ∙ ap (item (simple v [])) (omega arith)
    operands_back v (a ∷ []) lt e few b h =
        let k : Stands s (p + 5) (bits_of 8 a ++ []) = rw (length_bits 5 v) at (stands_right (bits_of 5 v) (bits_of 8 a ++ []) h) in
        code_back v 2 lt e (stands_left (bits_of 5 v) (bits_of 8 a ++ []) h)
        ∙ one_read s (deep_of s l) p v (p + 5) a (record { 0 = p + 5 + 8 }) (read_back (p + 5) 8 a b.0 (stands_left (bits_of 8 a) [] k))
        ∙ ap (item (simple v (a ∷ []))) (omega arith)
    operands_back v (a ∷ b ∷ []) lt e few bytes h =
        let k : Stands s (p + 5) (bits_of 8 a ++ (bits_of 8 b ++ [])) =
        rw (length_bits 5 v) at (stands_right (bits_of 5 v) (bits_of 8 a ++ (bits_of 8 b ++ [])) h) in
        let m : Stands s (p + 5 + 8) (bits_of 8 b ++ []) = rw (length_bits 8 a) at (stands_right (bits_of 8 a) (bits_of 8 b ++ []) k) in
        code_back v 3 lt e (stands_left (bits_of 5 v) (bits_of 8 a ++ (bits_of 8 b ++ [])) h)
        ∙ two_read s (deep_of s l) p v (p + 5) a (record { 0 = p + 5 + 8 }) b (record { 0 = p + 5 + 8 + 8 })
        (read_back (p + 5) 8 a bytes.0 (stands_left (bits_of 8 a) (bits_of 8 b ++ []) k))
        (read_back (p + 5 + 8) 8 b bytes.1.0 (stands_left (bits_of 8 b) [] m))
        ∙ ap (item (simple v (a ∷ b ∷ []))) (omega arith)
    operands_back v (a ∷ b ∷ d ∷ ns) lt e few bytes h = absurd (omega arith)

  deep_is : (l : ℕ) → deep_of s (suc l) ≡ below (list_at s l)
  unfolding deep_of list_at
  deep_is l = refl

  return_back : (l p : ℕ) → Stands s p (bits_of 5 1) → head_at s (deep_of s l) p ≡ item return_i (p + 5)
  unfolding shaped shape_of simple
  return_back l p h = code_back l p 1 1 (omega arith) refl h

  call_back : (l p n : ℕ) → n < 256 → Stands s p (bits_of 5 2 ++ bits_of 8 n) → head_at s (deep_of s l) p ≡ item (call_i n) (p + 13)
  unfolding shape_of simple
  call_back l p n lt h =
      let k : Stands s (p + 5) (bits_of 8 n) = rw (length_bits 5 2) at (stands_right (bits_of 5 2) (bits_of 8 n) h) in
      code_back l p 2 2 (omega arith) refl (stands_left (bits_of 5 2) (bits_of 8 n) h)
      ∙ one_read s (deep_of s l) p 2 (p + 5) n (record { 0 = p + 5 + 8 }) (read_back (p + 5) 8 n lt k)
      ∙ ap (item (call_i n)) (omega arith)

  module _ (l p : ℕ) (x : Code) where
    conditional_back : (y : Code) → Stands s p (bits_of 5 3 ++ (list_bits x ++ list_bits y)) → list_at s l (p + 5) ≡ got x (p + 5 + bits x)
        → list_at s l (p + 5 + bits x) ≡ got y (p + 5 + bits x + bits y)
        → head_at s (deep_of s (suc l)) p ≡ item (unless_i x y) (p + 5 + bits x + bits y)
    unfolding shape_of
    conditional_back y h e f =
        code_back (suc l) p 3 4 (omega arith) refl (stands_left (bits_of 5 3) (list_bits x ++ list_bits y) h)
        ∙ rw (deep_is l) (conditional_read s (list_at s l) p 3 (p + 5) x (p + 5 + bits x) y (p + 5 + bits x + bits y) e f)

    cont_back_lem : (n : ℕ) → n < 256 → Stands s p (bits_of 5 4 ++ (bits_of 8 n ++ list_bits x)) → list_at s l (p + 13) ≡ got x (p + 13 + bits x)
        → head_at s (deep_of s (suc l)) p ≡ item (cont_i n x) (p + 13 + bits x)
    unfolding shape_of
    cont_back_lem n lt h e =
        let k : Stands s (p + 5) (bits_of 8 n ++ list_bits x) = rw (length_bits 5 4) at (stands_right (bits_of 5 4) (bits_of 8 n ++ list_bits x) h) in
        let q : p + 13 ≡ p + 5 + 8 = omega arith in
        code_back (suc l) p 4 5 (omega arith) refl (stands_left (bits_of 5 4) (bits_of 8 n ++ list_bits x) h)
        ∙ rw (deep_is l) (make_cont_read s (list_at s l) p 4 (p + 5) n (record { 0 = p + 5 + 8 }) x (p + 13 + bits x)
        (read_back (p + 5) 8 n lt (stands_left (bits_of 8 n) (list_bits x) k)) (ap (list_at s l) (sym q) ∙ e))

  -- where the second part stands
  part_stands : {p : ℕ} (a b : List ℕ) (n q : ℕ) → Stands s p (a ++ b) → length a ≡ n → p + n ≡ q → Stands s q b
  part_stands a b n q h e f = rw (← f, ← e) (stands_right a b h)

  -- a list whose bits stand at p is read back
  pub list_back_lem : (c : Code) (l p : ℕ) → Valid c → levels c ≤ l → Stands s p (list_bits c) → list_at s l p ≡ got c (p + bits c)
  unfolding Valid levels list_bits bits put
  list_back_lem done l p v d h = end_back_lem l p h
  list_back_lem (neutral op ns r) l p v d h =
      let n = neutral_shape op (length ns) v.0 v.1 in
      let q = p + 5 + 8 * length ns in
      let len : length (bits_of 5 op ++ operands_bits ns) ≡ 5 + 8 * length ns = simp (length-append, length_bits, operands_length ns) in
      let rest = list_back_lem r l q v.3 d (part_stands (bits_of 5 op ++ operands_bits ns) (list_bits r) _ q h len (omega arith)) in
      let head = operands_back l p op ns n.fits n.shape n.few v.2 (stands_left (bits_of 5 op ++ operands_bits ns) (list_bits r) h) in
      item_back l p (neutral_i op ns) q r (q + bits r) (head ∙ ap (λ (i : Instr). item i q) (simple_neutral op ns n.past_five)) rest
      ∙ here refl (omega arith)
  list_back_lem (return r) l p v d h =
      let rest = list_back_lem r l (p + 5) v d (part_stands (bits_of 5 1) (list_bits r) 5 (p + 5) h (length_bits 5 1) refl) in
      item_back l p return_i (p + 5) r (p + 5 + bits r) (return_back l p (stands_left (bits_of 5 1) (list_bits r) h)) rest ∙ here refl (omega arith)
  list_back_lem (call n r) l p v d h =
      let len : length (bits_of 5 2 ++ bits_of 8 n) ≡ 13 = simp (length-append, length_bits) in
      let rest = list_back_lem r l (p + 13) v.1 d (part_stands (bits_of 5 2 ++ bits_of 8 n) (list_bits r) 13 (p + 13) h len refl) in
      item_back l p (call_i n) (p + 13) r (p + 13 + bits r) (call_back l p n v.0 (stands_left (bits_of 5 2 ++ bits_of 8 n) (list_bits r) h)) rest
      ∙ here refl (omega arith)
  list_back_lem (unless_false x y r) zero p v d h = absurd (omega arith)
  list_back_lem (unless_false x y r) (suc l) p v d h =
      let q₁ = p + 5 + bits x in
      let q = p + 5 + bits x + bits y in
      let i = bits_of 5 3 ++ (list_bits x ++ list_bits y) in
      let len : length i ≡ 5 + bits x + bits y = simp (length-append, length_bits, list_length x, list_length y) (omega arith) in
      let k : Stands s p i = stands_left i (list_bits r) h in
      let hx : Stands s (p + 5) (list_bits x ++ list_bits y) = part_stands (bits_of 5 3) (list_bits x ++ list_bits y) 5 (p + 5) k (length_bits 5 3) refl in
      let hy : Stands s q₁ (list_bits y) = part_stands (list_bits x) (list_bits y) (bits x) q₁ hx (list_length x) refl in
      let first = list_back_lem x l (p + 5) v.0 (omega arith) (stands_left (list_bits x) (list_bits y) hx) in
      let second = list_back_lem y l q₁ v.1 (omega arith) hy in
      let rest = list_back_lem r (suc l) q v.2 (omega arith) (part_stands i (list_bits r) _ q h len (omega arith)) in
      item_back (suc l) p (unless_i x y) q r (q + bits r) (conditional_back l p x y k first second) rest ∙ here refl (omega arith)
  list_back_lem (make_cont n x r) zero p v d h = absurd (omega arith)
  list_back_lem (make_cont n x r) (suc l) p v d h =
      let q = p + 13 + bits x in
      let i = bits_of 5 4 ++ (bits_of 8 n ++ list_bits x) in
      let len : length i ≡ 13 + bits x = simp (length-append, length_bits, list_length x) (omega arith) in
      let k : Stands s p i = stands_left i (list_bits r) h in
      let hn : Stands s (p + 5) (bits_of 8 n ++ list_bits x) = part_stands (bits_of 5 4) (bits_of 8 n ++ list_bits x) 5 (p + 5) k (length_bits 5 4) refl in
      let hx : Stands s (p + 13) (list_bits x) = part_stands (bits_of 8 n) (list_bits x) 8 (p + 13) hn (length_bits 8 n) (omega arith) in
      let saved = list_back_lem x l (p + 13) v.1 (omega arith) hx in
      let rest = list_back_lem r (suc l) q v.2 (omega arith) (part_stands i (list_bits r) _ q h len (omega arith)) in
      item_back (suc l) p (cont_i n x) q r (q + bits r) (cont_back_lem l p x n v.0 k saved) rest ∙ here refl (omega arith)

-- ---- templates
module _ (s : List ℕ) (T : ℕ) where
  template_back : (own p : ℕ) (t : Template) → TreeWritable T own t → Stands s p (template_bits t)
      → template_at s own T p ≡ got (starts_at p t) (p + length (template_bits t))
  unfolding template_at template_bits then
  template_back own p t ok h =
      let es = t.entries in
      let c = t.code in
      let b = entries_bits es in
      let k : Stands s (p + 8) (b ++ list_bits c) = part_stands s (bits_of 8 (length es)) (b ++ list_bits c) 8 (p + 8) h (length_bits 8 (length es)) refl in
      let m : Stands s (p + 8 + length b) (list_bits c) = stands_right b (list_bits c) k in
      let d : levels c < 16 = ok.deep in
      rw (
        field_stands s p 8 (length es) ok.few (stands_left (bits_of 8 (length es)) (b ++ list_bits c) h),
        entries_back s own T es (p + 8) ok.entries_ok (stands_left b (list_bits c) k),
        list_back_lem s c 15 (p + 8 + length b) ok.valid_code (omega arith) m,
      )
      (here refl (simp (length-append, length_bits, list_length c) (omega arith)))

  templates_back_lem : (own p : ℕ) (ts : List Template) → Each (TreeWritable T) own ts → Stands s p (templates_bits ts)
      → templates_at s T own (length ts) p ≡ got (placed p ts) (p + length (templates_bits ts))
  unfolding templates_at placed templates_bits then
  templates_back_lem own p [] ok h = here refl (omega arith)
  templates_back_lem own p (t ∷ ts) ok h =
      rw (
        template_back own p t ok.0 (stands_left (template_bits t) (templates_bits ts) h),
        templates_back_lem (own + 1) (p + length (template_bits t)) ts ok.1 (stands_right (template_bits t) (templates_bits ts) h),
      )
      (here refl (simp length-append (omega arith)))

-- ---- the file
-- templates that a tree file can hold, if it is not too long
pub record TreeWritables (ts : List Template) : Type 0 where
  pub at_least_one : 1 ≤ length ts
  pub at_most_64 : length ts ≤ 64
  pub each : Each (TreeWritable (length ts)) 0 ts

-- THE LAW: the tree file of templates is read back, each with the first bit of its list as its start
pub tree_back : (ts : List Template) → TreeWritables ts → length (tree_file ts) ≤ 65536 → tree_read (tree_file ts) ≡ got (placed 8 ts) (8 * length (tree_file ts))
unfolding tree_read tree_file file_bits then padded_end nothing_more
tree_back ts ok fits =
    let s = tree_file ts in
    let b = file_bits ts in
    let T = length ts in
    let all : Holds s 0 (bytes_of b) = record { pre = []; post = []; is = sym (append-nil _); at = refl } in
    let h : Stands s 0 b = bytes_stand b (file_are ts) all in
    let k : Stands s 8 (templates_bits ts) = part_stands s (bits_of 8 T) (templates_bits ts) 8 8 h (length_bits 8 T) refl in
    let l : 8 + length (templates_bits ts) ≡ 0 + length b = simp (length-append, length_bits) (omega arith) in
    let few : T ≤ 64 = ok.at_most_64 in
    let end : 8 * (0 + length (bytes_of b)) ≡ 8 * length s = omega arith in
    rw (
      le-leb (length s) 65536 fits,
      field_stands s 0 8 T (omega arith) (stands_left (bits_of 8 T) (templates_bits ts) h),
      le-leb 1 T ok.at_least_one,
      le-leb T 64 few,
      templates_back_lem s T 0 8 ts ok.each k,
      l,
      padding_zero b (file_are ts) all (placed 8 ts),
      eq-eqb (8 * (0 + length (bytes_of b))) (8 * length s) end,
    )
    (here refl end)
