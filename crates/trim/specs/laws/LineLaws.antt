-- Lines of the list. Assumes nothing.
use Prim.Native.Nat.{ℕ, suc, ◌+◌, ◌-◌, ◌≤◌, ◌<◌}
use Rattle.std.proofs.Common.{add-one, arith, sym, subst, lt-ltb, le-ltb, length-append}
use Rattle.std.specs.Prelude.{◌≡◌, Bool, true, false, List, [], ◌∷◌, ◌++◌, ltb, length, get_or}
use Rattle.std.proofs.Math.Path.{refl}
use Rattle.std.proofs.Math.Option.{Option}
use Rattle.files.specs.Entries.{Entry}
use Rattle.text.specs.Put.{Put}
use Rattle.text.specs.Text.{decimal, line}
use Rattle.text.specs.laws.Laws.{put_then, put_line}
use Rattle.text.specs.laws.Lengths.{decimal_length}
use Rattle.trim.specs.Lines.{kept, new_word, new_line, entry_lines}
use Rattle.trim.specs.Standing.{mark_line, row_lines}

-- ---- one line
module _ {a b c d : List ℕ} {at l m n : ℕ} (t e mark less : ℕ) (p : Put a at b l (decimal t ++ (32 ∷ []))) (q : Put b l c m (decimal e ++ (32 ∷ []))) where
  pub line_gone : mark < 1 → Put c m d n (103 ∷ 111 ∷ 110 ∷ 101 ∷ 10 ∷ []) → Put a at d n (mark_line t e mark less)
  unfolding mark_line new_line new_word
  line_gone h r = rw (le-ltb 0 mark (omega arith)) (put_line (decimal t) (decimal e) (103 ∷ 111 ∷ 110 ∷ 101 ∷ []) p q r)

  pub line_new : 1 ≤ mark → Put c m d n (decimal (mark - less) ++ (10 ∷ [])) → Put a at d n (mark_line t e mark less)
  unfolding mark_line new_line new_word
  line_new h r = rw (lt-ltb 0 mark (omega arith)) (put_line (decimal t) (decimal e) (decimal (mark - less)) p q r)

pub line_short : (t e mark less : ℕ) → t < 64 → e < 256 → mark < 256 → length (mark_line t e mark less) ≤ 12
unfolding mark_line new_line new_word line
line_short t e mark less h k l =
    let a = decimal_length 1 t (omega arith) in
    let b = decimal_length 2 e (omega arith) in
    let c = decimal_length 2 (mark - less) (omega arith) in
    go (ltb 0 mark) a b c
  where
    go : (x : Bool) → length (decimal t) ≤ 2 → length (decimal e) ≤ 3 → length (decimal (mark - less)) ≤ 3
        → length (line (decimal t ∷ decimal e ∷ new_word (kept x (mark - less)) ∷ [])) ≤ 12
    go true a b c = simp length-append (omega arith)
    go false a b c = simp length-append (omega arith)

pub put_short : {old new : List ℕ} {at r : ℕ} (bs : List ℕ) (n : ℕ) → Put old at new r bs → length bs ≤ n → r ≤ at + n
put_short bs n p h = omega (arith, p.next)

pub put_same : {old new : List ℕ} {at r : ℕ} {a b : List ℕ} → Put old at new r a → a ≡ b → Put old at new r b
put_same {old} {new} {at} {r} p e = subst (λ (l : List ℕ). Put old at new r l) e p

-- ---- the lines of entries n on
pub record Lining (own : ℕ) (row whole o₀ : List ℕ) (at entries n there : ℕ) (o : List ℕ) : Type 0 where
  pub left : ℕ
  pub left_is : n + left ≡ entries + 1
  pub rest : (o' : List ℕ) (r : ℕ) → Put o there o' r (row_lines own row n left) → Put o₀ at o' r whole

pub lining_none : (own : ℕ) (row o : List ℕ) (at entries : ℕ) → Lining own row (row_lines own row 1 entries) o at entries 1 at o
lining_none own row o at entries = record { left = entries; left_is = omega arith; rest = λ o' r q. q }

module _ {own : ℕ} {row whole o₀ : List ℕ} {at entries n there : ℕ} {o : List ℕ} (l : Lining own row whole o₀ at entries n there o) where
  pub lining_on : n ≤ entries → {o₁ : List ℕ} {r₁ : ℕ} → Put o there o₁ r₁ (mark_line own n (get_or row n 0) 0)
      → Lining own row whole o₀ at entries (n + 1) r₁ o₁
  unfolding row_lines
  lining_on h {o₁} {r₁} p =
      let z : l.left ≡ suc (l.left - 1) = omega (arith, l.left_is) in
      record {
        left = l.left - 1;
        left_is = omega (arith, l.left_is);
        rest = λ o' r q.
            l.rest o' r
            (subst (λ (k : ℕ). Put o there o' r (row_lines own row n k)) (sym z)
            (put_then p (subst (λ (m : ℕ). Put o₁ r₁ o' r (row_lines own row m (l.left - 1))) (add-one n) q)));
      }

  pub lining_all : entries < n → Put o₀ at o there whole
  unfolding row_lines
  lining_all h =
      let z : l.left ≡ 0 = omega (arith, l.left_is) in
      l.rest o there (subst (λ (k : ℕ). Put o there o there (row_lines own row n k)) (sym z) (record { next = omega arith; holds = refl }))

-- ---- what a row says of each entry
pub rows_lines : (own : ℕ) (row : List ℕ) (new : ℕ → Option ℕ) (n : ℕ) (es : List Entry)
    → ((i : ℕ) → n ≤ i → i < n + length es → kept (ltb 0 (get_or row i 0)) (get_or row i 0 - 0) ≡ new i)
    → row_lines own row n (length es) ≡ entry_lines own new n es
unfolding row_lines entry_lines mark_line
rows_lines own row new n [] h = refl
rows_lines own row new n (e ∷ es) h =
    rw (h n (omega arith) (omega arith), rows_lines own row new (suc n) es (λ i a b. h i (omega arith) (omega arith))) refl
