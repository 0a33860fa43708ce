-- The lines of a sheet of at most 4,096 bytes by what the flattener answers with an output of 16,384 bytes: that is always enough. Assumes nothing.
use Prim.Native.Nat.{ℕ, ◌≤◌}
use native.Mathlib.Omega.{arith}
use mathlib.Core.Path.{◌≡◌, refl, ap}
use mathlib.Core.List.{List}
use borrow.Author.Tests.{le-leb}
use lib.ListN.{length, take, drop}
use lib.Seq.{take_at}
use Rattle.cells.specs.laws.Laws.{clash}
use Rattle.files.specs.Reading.{Got, got, refused}
use Rattle.files.specs.Entries.{then}
use Rattle.files.specs.Tree.{Template}
use Rattle.files.specs.Accepted.{flat_accepted}
use Rattle.files.specs.Linear.{linear_file}
use Rattle.readback.specs.laws.TreeFacts.{tree_short}
use Rattle.files.specs.laws.AcceptedLaws.{checked_read, flat_checked_lem, flat_accepted_checked}
use Rattle.files.specs.Outcome.{into_bytes, answered, written}
use Rattle.flatten.specs.Flatten.{flattened}
use Rattle.lines.specs.Lines.{linear_of, refused_line, accepted_lines, sheet_lines}
use Rattle.std.specs.Prelude.{Ok, Err}
use Rattle.files.specs.declared.Refusal.{Refusal}
use Rattle.files.specs.Refusal.{refusal}

-- the file is shorter than 16,384 bytes
abbrev Short : Got (List ℕ) → Type 0
Short (got w q) = length w ≤ 16384
Short (refused n p) = Unit

module _ (s : List ℕ) (small : length s ≤ 4096) where
  short : (ts : List Template) (q : ℕ) → flat_accepted s ≡ got ts q → length (linear_file ts) ≤ 16384
  short ts q e = omega (arith, tree_short s ts q (checked_read s ts q (flat_checked_lem s ts q (flat_accepted_checked s ts q e))))

  -- 9 is not given
  enough : flattened s 16384 ≡ linear_of s
  unfolding flattened linear_of into_bytes then
  enough = by (flat_accepted s) refl
    where
      by : (g : Got (List Template)) → flat_accepted s ≡ g → then g (λ ts q. into_bytes 16384 (linear_file ts) q) ≡ then g (λ ts q. got (linear_file ts) q)
      by (got ts q) e = rw (le-leb (length (linear_file ts)) 16384 (short ts q e))
      by (refused n p) e = refl

  all_short : Short (linear_of s)
  unfolding linear_of then
  all_short = by (flat_accepted s) refl
    where
      by : (g : Got (List Template)) → flat_accepted s ≡ g → Short (then g (λ ts q. got (linear_file ts) q))
      by (got ts q) e = short ts q e
      by (refused n p) e = tt

  module _ (n : ℕ) (answer : Ok n ≡ answered (flattened s 16384)) where
    pub written_within : n ≤ 16384
    unfolding answered
    written_within = by (linear_of s) all_short (rw enough at answer)
      where
        by : (g : Got (List ℕ)) → Short g → Ok n ≡ answered g → n ≤ 16384
        by (got w q) h e = let same : n ≡ length w = cc in omega arith
        by (refused m p) h e = clash (cc)

    -- w: the output that held old
    pub accepted_lines_lem : (old w : List ℕ) → w ≡ written old (flattened s 16384) → sheet_lines s (linear_of s) ≡ accepted_lines s (take n w)
    unfolding answered written sheet_lines
    accepted_lines_lem old w h = rw (h, enough) (by (linear_of s) (rw enough at answer))
      where
        by : (g : Got (List ℕ)) → Ok n ≡ answered g → sheet_lines s g ≡ accepted_lines s (take n (written old g))
        by (got v q) e = let same : length v ≡ n = cc in rw (take_at v (drop (length v) old) n same)
        by (refused m p) e = clash (cc)

  pub refused_lines : (r : Refusal ℕ) → Err r ≡ answered (flattened s 16384) → sheet_lines s (linear_of s) ≡ refused_line r.0 r.1
  unfolding answered sheet_lines
  refused_lines r answer = by (linear_of s) (rw enough at answer)
    where
      by : (g : Got (List ℕ)) → Err r ≡ answered g → sheet_lines s g ≡ refused_line r.0 r.1
      by (got w q) e = clash (cc)
      by (refused m o) e = let k : ◌≡◌ {A = Refusal ℕ} (refusal m o) r = cc in ap (λ (x : Refusal ℕ). refused_line x.0 x.1) k
