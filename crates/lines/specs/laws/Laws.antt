-- What the program says it wrote lies within its output. Assumes nothing.
use Rattle.std.specs.Prelude.{ℕ, ◌≤◌, ◌≡◌, refl, Bool, true, false, cond, List, leb, length, Ok, Err}
use Rattle.std.proofs.Common.{arith, leb-true}
use Rattle.lines.specs.Lines.{printed}
use Rattle.files.specs.Refusal.{refusal}

pub written_within : (ls : List ℕ) (n : ℕ) {k : ℕ} → printed ls n ≡ Ok k → k ≤ n
unfolding printed
written_within ls n {k} h = by (leb (length ls) n) refl h
  where
    by : (b : Bool) → leb (length ls) n ≡ b → cond b (Ok (length ls)) (Err (refusal 9 (length ls))) ≡ Ok k → k ≤ n
    by true e h = let i : length ls ≡ k = cc in omega (arith, leb-true (length ls) n e)
    by false e h = let z : ◌≡◌ {A = ℕ} 0 1 = cc in absurd (omega arith)
