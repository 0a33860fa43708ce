-- Where each template's list begins, in the table; and a run by the links and the table of an accepted basic file. Assumes nothing.
use Rattle.std.specs.Prelude.{ℕ, zero, suc, ◌+◌, ◌*◌, ◌≤◌, ◌<◌, ◌≡◌, refl, true, ◌&&◌, List, [], ◌∷◌, ◌++◌, leb, length, get_or, set, replicate}
use Rattle.std.proofs.Common.{arith, sym, ap, ◌∙◌, leb-true, length-set, get_or-set_same, get_or-set_other}
use Rattle.std.proofs.Math.Bool.{and-eq-true_iff}
use Rattle.std.proofs.lemmas.List.{length-replicate}
use Rattle.std.proofs.Math.ListN.{get_or-eq_default}
use Rattle.rules.specs.laws.Lists.{by_lt}
use Rattle.files.specs.Reading.{got}
use Rattle.files.specs.laws.AllGot.{got_all}
use Rattle.tree_file.specs.File.{tree_file}
use Rattle.owners.specs.declared.Owner.{Owner}
use Rattle.machines.specs.Runs.{reported, start_state, program_run}
use Rattle.machines.specs.Start.{zeros}
use Rattle.machines.specs.Steps.{ran_from}
use Rattle.machines.specs.Slots.{slot_at}
use Rattle.basic.specs.Basic.{Basic, ended, plain, carries, closure, branch, save, bits}
use Rattle.basic.specs.Tabulated.{inside, closures, tabulated}
use Rattle.basic.specs.Checked.{entries_fit, within_limits, basic_checked}
use Rattle.basic_program.specs.Program.{Body, body, bodies, all_bodies, no_body, basic_program}
use Rattle.basic_program.specs.laws.Known.{Accepted, checked_known}
use Rattle.basic_code.specs.Fetch.{basic_linked}
use Rattle.basic_machine.specs.Links.{linked, tabled}
use Rattle.basic_machine.specs.laws.LinksLaws.{linked_holds}
use Rattle.basic_machine.specs.laws.Stands.{stands}
use Rattle.basic_machine.proofs.theorems.Runs.{basic_run_lem}

-- ---- the templates in a list are as many as its closures
many_both : {A : Type 0} (xs ys : List A) → length (xs ++ ys) ≡ length xs + length ys
many_both [] ys = omega arith
many_both (x ∷ xs) ys = let e = many_both xs ys in omega arith

bodies_many : (n a : ℕ) (c : Basic) → length (bodies n a c) ≡ inside c
unfolding bodies inside
bodies_many n a ended = refl
bodies_many n a (plain v ns r) = bodies_many n _ r
bodies_many n a (carries v e r) = bodies_many n _ r
bodies_many n a (closure x r) =
    ap suc (many_both (bodies (suc n) (a + 5) x) (bodies (suc n + inside x) (a + 5 + bits x) r)
    ∙ rw (bodies_many (suc n) (a + 5) x, bodies_many (suc n + inside x) (a + 5 + bits x) r) refl)
bodies_many n a (branch x y r) =
    many_both (bodies n (a + 5) x) (bodies (n + inside x) (a + 5 + bits x) y ++ bodies (n + inside x + inside y) (a + 5 + bits x + bits y) r)
    ∙ rw (
      many_both (bodies (n + inside x) (a + 5 + bits x) y) (bodies (n + inside x + inside y) (a + 5 + bits x + bits y) r),
      bodies_many n (a + 5) x,
      bodies_many (n + inside x) (a + 5 + bits x) y,
      bodies_many (n + inside x + inside y) (a + 5 + bits x + bits y) r,
    ) refl
bodies_many n a (save m x r) =
    many_both (bodies n (a + 13) x) (bodies (n + inside x) (a + 13 + bits x) r)
    ∙ rw (bodies_many n (a + 13) x, bodies_many (n + inside x) (a + 13 + bits x) r) refl

-- ---- their starts
unfoldable starts : List ℕ → ℕ → List Body → List ℕ
starts T n [] = T
starts T n (x ∷ xs) = starts (set T (256 * n) x.start) (suc n) xs

starts_both : (T : List ℕ) (n : ℕ) (xs ys : List Body) → starts T n (xs ++ ys) ≡ starts (starts T n xs) (n + length xs) ys
unfolding starts
starts_both T n [] ys = let e : n + 0 ≡ n = omega arith in rw e refl
starts_both T n (x ∷ xs) ys =
    let e : n + suc (length xs) ≡ suc n + length xs = omega arith in
    starts_both (set T (256 * n) x.start) (suc n) xs ys ∙ ap (λ k. starts (starts (set T (256 * n) x.start) (suc n) xs) k ys) (sym e)

-- the same with the number of closures
starts_on : (T : List ℕ) (n a : ℕ) (c : Basic) (ys : List Body) → starts T n (bodies n a c ++ ys) ≡ starts (starts T n (bodies n a c)) (n + inside c) ys
starts_on T n a c ys = starts_both T n (bodies n a c) ys ∙ ap (λ k. starts (starts T n (bodies n a c)) (n + k) ys) (bodies_many n a c)

tabled_starts : (T : List ℕ) (n a : ℕ) (c : Basic) → tabled T n a c ≡ starts T n (bodies n a c)
unfolding tabled bodies starts
tabled_starts T n a ended = refl
tabled_starts T n a (plain v ns r) = tabled_starts T n _ r
tabled_starts T n a (carries v e r) = tabled_starts T n _ r
tabled_starts T n a (closure x r) =
    rw (
      tabled_starts (set T (256 * n) (a + 5)) (suc n) (a + 5) x,
      tabled_starts (starts (set T (256 * n) (a + 5)) (suc n) (bodies (suc n) (a + 5) x)) (suc n + inside x) (a + 5 + bits x) r,
    )
    (sym (starts_on (set T (256 * n) (a + 5)) (suc n) (a + 5) x (bodies (suc n + inside x) (a + 5 + bits x) r)))
tabled_starts T n a (branch x y r) =
    let X = bodies n (a + 5) x in
    let Y = bodies (n + inside x) (a + 5 + bits x) y in
    let Z = bodies (n + inside x + inside y) (a + 5 + bits x + bits y) r in
    rw (
      tabled_starts T n (a + 5) x,
      tabled_starts (starts T n X) (n + inside x) (a + 5 + bits x) y,
      tabled_starts (starts (starts T n X) (n + inside x) Y) (n + inside x + inside y) (a + 5 + bits x + bits y) r,
    )
    (sym (starts_on T n (a + 5) x (Y ++ Z) ∙ starts_on (starts T n X) (n + inside x) (a + 5 + bits x) y Z))
tabled_starts T n a (save m x r) =
    rw (tabled_starts T n (a + 13) x, tabled_starts (starts T n (bodies n (a + 13) x)) (n + inside x) (a + 13 + bits x) r)
    (sym (starts_on T n (a + 13) x (bodies (n + inside x) (a + 13 + bits x) r)))

-- ---- what the table holds
starts_other : (T : List ℕ) (n : ℕ) (xs : List Body) (t : ℕ) → (t < n → ⊥) → n + length xs ≤ t → get_or (starts T n xs) (256 * t) 0 ≡ get_or T (256 * t) 0
unfolding starts
starts_other T n [] t h k = refl
starts_other T n (x ∷ xs) t h k =
    starts_other (set T (256 * n) x.start) (suc n) xs t (λ e. omega arith) (omega arith)
    ∙ get_or-set_other T (256 * n) (256 * t) x.start 0 (λ e. omega arith)

starts_before : (T : List ℕ) (n : ℕ) (xs : List Body) (t : ℕ) → t < n → get_or (starts T n xs) (256 * t) 0 ≡ get_or T (256 * t) 0
unfolding starts
starts_before T n [] t h = refl
starts_before T n (x ∷ xs) t h =
    starts_before (set T (256 * n) x.start) (suc n) xs t (omega arith) ∙ get_or-set_other T (256 * n) (256 * t) x.start 0 (λ e. omega arith)

starts_at_lem : (T : List ℕ) (n : ℕ) (xs : List Body) (k : ℕ) → k < length xs → n + length xs ≤ 64 → length T ≡ 16384
    → get_or (starts T n xs) (256 * (n + k)) 0 ≡ (get_or xs k no_body).start
unfolding starts
starts_at_lem T n [] k h l e = absurd (omega arith)
starts_at_lem T n (x ∷ xs) zero h l e =
    let z : n + 0 ≡ n = omega arith in
    rw z (starts_before (set T (256 * n) x.start) (suc n) xs n (omega arith) ∙ get_or-set_same T (256 * n) x.start 0 (omega arith))
starts_at_lem T n (x ∷ xs) (suc k) h l e =
    let z : n + suc k ≡ suc n + k = omega arith in
    rw z (starts_at_lem (set T (256 * n) x.start) (suc n) xs k (omega arith) (omega arith) (length-set T (256 * n) x.start ∙ e))

zero_at : (n i : ℕ) → get_or (replicate {A = ℕ} n 0) i 0 ≡ 0
zero_at zero i = refl
zero_at (suc n) zero = refl
zero_at (suc n) (suc i) = zero_at n i

module _ (xs : List Body) (few : 1 + length xs ≤ 64) where
  starts_all : (T : List ℕ) → length T ≡ 16384 → ((i : ℕ) → get_or T i 0 ≡ 0) → (x : Body) → x.start ≡ 0 → (t : ℕ)
      → get_or (starts T 1 xs) (256 * t) 0 ≡ (get_or (x ∷ xs) t no_body).start
  starts_all T e z x h zero = starts_before T 1 xs 0 (omega arith) ∙ z 0 ∙ sym h
  starts_all T e z x h (suc k) =
      let j : suc k ≡ 1 + k = omega arith in
      by_lt k (length xs)
      (λ l. ap (λ n. get_or (starts T 1 xs) (256 * n) 0) j ∙ starts_at_lem T 1 xs k l few e)
      (λ l. starts_other T 1 xs (suc k) (λ i. omega arith) (omega arith) ∙ z (256 * suc k)
      ∙ sym (ap (λ (y : Body). y.start) (get_or-eq_default xs no_body l)))

-- THE LAW: in a table of zeros
pub table_starts : (c : Basic) → 1 + inside c ≤ 64 → (t : ℕ) → slot_at (tabled (zeros 16384) 1 0 c) t 0 ≡ (get_or (all_bodies c) t no_body).start
unfolding slot_at all_bodies zeros
table_starts c few t =
    let z : 256 * t + 0 ≡ 256 * t = omega arith in
    rw (z, tabled_starts (replicate 16384 0) 1 0 c)
    (starts_all (bodies 1 0 c) (rw (bodies_many 1 0 c) few) (replicate 16384 0) (length-replicate {A = ℕ} 16384 0) (zero_at 16384) (body 1 0 c) refl t)

-- ---- an accepted file has at most 64 templates
closures_many : (n : ℕ) (c : Basic) → length (closures n c) ≡ inside c
unfolding closures inside
closures_many n ended = refl
closures_many n (plain v ns r) = closures_many n r
closures_many n (carries v e r) = closures_many n r
closures_many n (closure x r) =
    ap suc (many_both (closures (suc n) x) (closures (suc n + inside x) r) ∙ rw (closures_many (suc n) x, closures_many (suc n + inside x) r) refl)
closures_many n (branch x y r) =
    many_both (closures n x) (closures (n + inside x) y ++ closures (n + inside x + inside y) r)
    ∙ rw (
      many_both (closures (n + inside x) y) (closures (n + inside x + inside y) r),
      closures_many n x,
      closures_many (n + inside x) y,
      closures_many (n + inside x + inside y) r,
    ) refl
closures_many n (save m x r) = many_both (closures n x) (closures (n + inside x) r) ∙ rw (closures_many n x, closures_many (n + inside x) r) refl

pub few_templates : (c : Basic) → within_limits (tabulated c) ≡ true → 1 + inside c ≤ 64
unfolding within_limits tabulated
few_templates c h =
    let k = (and-eq-true_iff (leb (length (tabulated c)) 64) (entries_fit (tabulated c) && leb (length (tree_file (tabulated c))) 65536)).0 h in
    let e : length (tabulated c) ≡ suc (inside c) = ap suc (closures_many 1 c) in
    let l = leb-true (length (tabulated c)) 64 k.0 in
    omega arith

-- THE LAW: a run by the links of an accepted file and by the table of its starts is a run of the basic machine
pub basic_linked_run : (s : List ℕ) (c : Basic) (q : ℕ) → basic_checked s ≡ got c q → (L : List ℕ) → 8 * length s ≤ 5 * length L
    → (o : Owner) (b : ℕ) (g : List ℕ)
    → ran_from o (basic_linked s (linked L 1 0 0 c) (tabled (zeros 16384) 1 0 c)) b 0 (start_state g (slot_at (tabled (zeros 16384) 1 0 c) 0 0))
    ≡ reported (program_run o (basic_program c) b g)
basic_linked_run s c q e L long o b g =
    let a = got_all (Accepted s) (checked_known s) e in
    let k = a.known in
    let few = few_templates c a.limits in
    basic_run_lem s (linked L 1 0 0 c) (tabled (zeros 16384) 1 0 c) c
    (record {
      ok = k.in_order;
      stands = stands s c 15 0 (bits c) k.read;
      links = linked_holds L 1 0 0 c (omega (arith, k.short));
      few = few;
      short = omega (arith, k.short, k.small);
    })
    (table_starts c few) o b g
