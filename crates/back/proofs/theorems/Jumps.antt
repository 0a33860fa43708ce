-- Where a region ends in a jump: flat code of a closed list never does, an open first arm with its jump always. Assumes nothing.
use Rattle.std.specs.Prelude.{ℕ, zero, suc, ◌+◌, ◌*◌, ◌-◌, ◌≤◌, ◌<◌, ◌≡◌, refl, Bool, true, false, List, [], ◌∷◌, ◌++◌, ◌⊎◌, length, drop, leb}
use Rattle.std.proofs.Common.{arith, ap, ◌∙◌, append_assoc, append-nil, inl, inr, leb-true, ne_eqb, eqb-true, length-append, take_at, get_or-append-add}
use Rattle.std.proofs.Math.Bool.{and-eq-true_iff}
use Rattle.files.specs.Codes.{is_neutral, operands, shape_of}
use Rattle.files.specs.Code.{Code}
use Rattle.files.specs.Flat.{flat, conditional, offset}
use Rattle.back.specs.Unflat.{after, scan, ends_in_jump, last_offset, before_jump}
use Rattle.back.specs.laws.Good.{Good, ended, plain, returned, called, shut, arms, cont}
use Rattle.back.specs.laws.GoodLaws.{closed_is}

pub after_neutral : (op : ℕ) → is_neutral op ≡ true → after op ≡ operands op
unfolding after is_neutral
after_neutral op n =
    let h : 6 ≤ op = leb-true 6 op ((and-eq-true_iff (leb 6 op) (leb (shape_of op) 3)).0 n).0 in
    rw (ne_eqb op 3 (λ e. omega arith), ne_eqb op 4 (λ e. omega arith), ne_eqb op 5 (λ e. omega arith))

scan_over : (op : ℕ) (ns w : List ℕ) → scan op (length ns) (ns ++ w) ≡ scan op 0 w
unfolding scan
scan_over op [] w = refl
scan_over op (n ∷ ns) w = scan_over op ns w

-- the scan by whole instructions: n more bytes of one are passed where they are there, and where they are not there is no jump
pub scan_skip : (op n : ℕ) (w : List ℕ) → n ≤ length w → scan op n w ≡ scan op 0 (drop n w)
unfolding scan
scan_skip op zero w h = refl
scan_skip op (suc n) [] h = absurd (omega arith)
scan_skip op (suc n) (b ∷ w) h = scan_skip op n w (omega arith)

pub scan_cut : (op n : ℕ) (w : List ℕ) → length w < n → scan op n w ≡ false
unfolding scan
scan_cut op zero w h = absurd (omega arith)
scan_cut op (suc n) [] h = refl
scan_cut op (suc n) (b ∷ w) h = scan_cut op n w (omega arith)

-- a neutral instruction is passed whole
scan_neutral : (o op : ℕ) (ns w : List ℕ) → is_neutral op ≡ true → operands op ≡ length ns → scan o 0 (op ∷ (ns ++ w)) ≡ scan op 0 w
unfolding scan
scan_neutral o op ns w n e = ap (λ m. scan op m (ns ++ w)) (after_neutral op n ∙ e) ∙ scan_over op ns w

-- the scan passes flat code whole: it goes on after it with the code of some instruction
pub record Passes (o : ℕ) (u w : List ℕ) : Type 0 where
  pub last : ℕ
  pub is : scan o 0 (u ++ w) ≡ scan last 0 w

pub passes : {l : ℕ} {k : Bool} {c : Code} → Good l k c → (o : ℕ) (w : List ℕ) → Passes o (flat c) w
unfolding flat scan conditional after operands shape_of
passes ended o w = record { last = o; is = refl }
passes (plain {op = op} {ns = ns} {r = r} n e b g) o w =
    let p = passes g op w in
    record { last = p.last; is = rw (append_assoc ns (flat r) w) (scan_neutral o op ns (flat r ++ w) n e ∙ p.is) }
passes returned o w = record { last = 1; is = refl }
passes (called h) o w = record { last = 2; is = refl }
passes (shut {x = x} {y = y} g h f) o w =
    let p = passes h (passes g 3 (flat y ++ w)).last w in
    record { last = p.last; is = rw (closed_is g, append-nil (flat y), append_assoc (flat x) (flat y) w) ((passes g 3 (flat y ++ w)).is ∙ p.is) }
passes (arms {x = x} {y = y} {r = r} g h i e f a b) o w =
    let v : List ℕ = flat y ++ (flat r ++ w) in
    let p = passes g 3 (5 ∷ offset (length (flat y)) ++ v) in
    let q = passes h 5 (flat r ++ w) in
    let s = passes i q.last w in
    record {
      last = s.last;
      is = rw (closed_is g, append_assoc (flat x) (5 ∷ offset (length (flat y)) ++ (flat y ++ flat r)) w, append_assoc (flat y) (flat r) w)
          (p.is ∙ (q.is ∙ s.is));
    }
passes (cont {x = x} {r = r} g h n f) o w =
    let p = passes h 4 (flat x ++ w) in
    let q = passes g p.last w in
    record { last = q.last; is = rw (append_assoc (flat r) (flat x) w) (p.is ∙ q.is) }

-- flat code of a closed list does not end in a jump
pub no_jump : {l : ℕ} {c : Code} → Good l true c → (o : ℕ) → scan o 0 (flat c) ≡ false
unfolding flat scan conditional after operands shape_of
no_jump (plain {op = op} {ns = ns} {r = r} n e b g) o = scan_neutral o op ns (flat r) n e ∙ no_jump g op
no_jump returned o = refl
no_jump (called h) o = refl
no_jump (shut {x = x} {y = y} g h f) o =
    let p = passes g 3 (flat y) in
    rw (closed_is g, append-nil (flat y)) (p.is ∙ no_jump h p.last)
no_jump (arms {x = x} {y = y} {r = r} g h i e f a b) o =
    let p = passes g 3 (5 ∷ offset (length (flat y)) ++ (flat y ++ flat r)) in
    let q = passes h 5 (flat r) in
    rw (closed_is g) (p.is ∙ (q.is ∙ no_jump i q.last))
no_jump (cont {x = x} {r = r} g h n f) o =
    let p = passes h 4 (flat x) in
    p.is ∙ no_jump g p.last

-- an open list with a jump does
pub jump_ends : {l : ℕ} {k : Bool} {c : Code} (a b : ℕ) → Good l k c → ends_in_jump (flat c ++ (5 ∷ a ∷ b ∷ [])) ≡ true
unfolding ends_in_jump scan after operands shape_of
jump_ends a b g = (passes g 0 (5 ∷ a ∷ b ∷ [])).is

-- ---- a region that ends in a jump
abbrev pub with_jump : List ℕ → ℕ → ℕ → List ℕ
with_jump u a b = u ++ (5 ∷ a ∷ b ∷ [])

pub jump_length : (u : List ℕ) (a b : ℕ) → length (with_jump u a b) ≡ 3 + length u
jump_length u a b = simp length-append (omega arith)

pub before_is : (u : List ℕ) (a b : ℕ) → before_jump (with_jump u a b) ≡ u
unfolding before_jump
before_is u a b = take_at u (5 ∷ a ∷ b ∷ []) (length (with_jump u a b) - 3) (omega (arith, jump_length u a b))

pub offset_is : (u : List ℕ) (a b : ℕ) → last_offset (with_jump u a b) ≡ 256 * a + b
unfolding last_offset
offset_is u a b =
    let m = length (with_jump u a b) in
    let h : m - 2 ≡ length u + 1 = omega (arith, jump_length u a b) in
    let i : m - 1 ≡ length u + 2 = omega (arith, jump_length u a b) in
    rw (h, i, get_or-append-add u (5 ∷ a ∷ b ∷ []) 1 0, get_or-append-add u (5 ∷ a ∷ b ∷ []) 2 0)

-- w is an operand of a jump, or ends in one
pub record Jumped (w : List ℕ) : Type 0 where
  pub front : List ℕ
  pub hi : ℕ
  pub lo : ℕ
  pub is : w ≡ with_jump front hi lo

two : (w : List ℕ) → length w ≡ 2 → Jumped (5 ∷ w)
two [] h = absurd (omega arith)
two (a ∷ []) h = absurd (omega arith)
two (a ∷ b ∷ []) h = record { front = []; hi = a; lo = b; is = refl }
two (a ∷ b ∷ c ∷ w) h = absurd (omega arith)

scanned : (op n : ℕ) (w : List ℕ) → scan op n w ≡ true → ((op ≡ 5) × (length w ≡ n)) ⊎ Jumped w
unfolding scan after
scanned op zero [] h = inl (eqb-true op 5 h, refl)
scanned op (suc n) [] h = let z : ◌≡◌ {A = ℕ} 0 1 = cc in absurd (omega arith)
scanned op zero (b ∷ w) h = go (scanned b (after b) w h)
  where
    go : ((b ≡ 5) × (length w ≡ after b)) ⊎ Jumped w → ((op ≡ 5) × (length (b ∷ w) ≡ 0)) ⊎ Jumped (b ∷ w)
    go (inl p) = inr (rw p.0 (two w (p.1 ∙ rw p.0)))
    go (inr j) = inr (record { front = b ∷ j.front; hi = j.hi; lo = j.lo; is = ap (b ∷◌) j.is })
scanned op (suc n) (b ∷ w) h = go (scanned op n w h)
  where
    go : ((op ≡ 5) × (length w ≡ n)) ⊎ Jumped w → ((op ≡ 5) × (length (b ∷ w) ≡ suc n)) ⊎ Jumped (b ∷ w)
    go (inl p) = inl (p.0, ap suc p.1)
    go (inr j) = inr (record { front = b ∷ j.front; hi = j.hi; lo = j.lo; is = ap (b ∷◌) j.is })

pub jumped : (w : List ℕ) → ends_in_jump w ≡ true → Jumped w
unfolding ends_in_jump
jumped w h = go (scanned 0 0 w h)
  where
    go : (◌≡◌ {A = ℕ} 0 5 × (length w ≡ 0)) ⊎ Jumped w → Jumped w
    go (inl p) = absurd (omega arith)
    go (inr j) = j
