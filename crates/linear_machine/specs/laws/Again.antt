-- A file that is read once and run often, in memory that is used again, from globals that are known to fit. Assumes nothing.
use Rattle.std.specs.Prelude.{ℕ, ◌+◌, ◌≤◌, ◌≡◌, refl, Bool, true, false, cond, ◌&&◌, List, [], ◌∷◌, leb, eqb, length, Ok}
use Rattle.std.proofs.Math.Option.{Option, none, some}
use Rattle.std.proofs.Common.{eq-eqb, le-leb}
use Rattle.files.specs.Reading.{Got, got, refused}
use Rattle.files.specs.Linear.{Linear, linear_read}
use Rattle.owners.specs.Owners.{is_owner, owner_of}
use Rattle.machines.specs.Start.{globals_refusal, start_refusal}
use Rattle.machines.specs.Runs.{Memory, memory, Ran, run_of, left_of, refused_run, right_lengths, lowest_unfit, fit_globals, by_owner, started, on_linear}
use Rattle.machines.specs.Runs.{linear_run}
use Rattle.linear_machine.specs.Again.{AllFit}

-- ---- the same run, and the same globals left
pub record Alike (x y : Ran) : Type 0 where
  pub run : run_of x ≡ run_of y
  pub globals : (left_of x).globals ≡ (left_of y).globals

-- a run sees the lengths of stack, store and frames, and nothing that they held
pub run_alike : (s : List ℕ) (b o : ℕ) (g k t f k' t' f' : List ℕ) → length k ≡ length k' → length t ≡ length t' → length f ≡ length f'
    → Alike (linear_run s b o (memory g k t f)) (linear_run s b o (memory g k' t' f'))
unfolding linear_run started by_owner on_linear right_lengths fit_globals refused_run
run_alike s b o g k t f k' t' f' sameK same_t sameF =
    rw (sameK, same_t, sameF)
    (by (eqb (length g) 256 && (eqb (length k') 256 && (eqb (length t') 2048 && eqb (length f') 2048))) (leb b 2000000) (is_owner o) (lowest_unfit 0 g)
    (linear_read s))
  where
    m : Memory
    m = memory g k t f

    m' : Memory
    m' = memory g k' t' f'

    by : (lengths budget owned : Bool) (unfit : Option ℕ) (file : Got (List Linear))
        → Alike (cond lengths (cond budget (cond owned (fit_globals unfit m (on_linear (owner_of o) b m file)) (refused_run 31 0 m)) (refused_run 21 0 m))
        (refused_run 20 0 m))
        (cond lengths (cond budget (cond owned (fit_globals unfit m' (on_linear (owner_of o) b m' file)) (refused_run 31 0 m')) (refused_run 21 0 m'))
        (refused_run 20 0 m'))
    by false budget owned unfit file = record { run = refl; globals = refl }
    by true false owned unfit file = record { run = refl; globals = refl }
    by true true false unfit file = record { run = refl; globals = refl }
    by true true true (some n) file = record { run = refl; globals = refl }
    by true true true none (refused n p) = record { run = refl; globals = refl }
    by true true true none (got ts q) = record { run = refl; globals = refl }

none_unfit : (n : ℕ) (g : List ℕ) → AllFit g → lowest_unfit n g ≡ none
unfolding lowest_unfit
none_unfit n [] h = refl
none_unfit n (c ∷ cs) h = rw h.0 (none_unfit (n + 1) cs h.1)

pub may_run : (b o : ℕ) (g k t f : List ℕ) → length g ≡ 256 → length k ≡ 256 → length t ≡ 2048 → length f ≡ 2048 → b ≤ 2000000 → o ≤ 1 → AllFit g
    → start_refusal 2000000 b o (memory g k t f) ≡ Ok (owner_of o)
unfolding start_refusal is_owner right_lengths globals_refusal
may_run b o g k t f hg hk ht hf hb ho fit =
    rw (
      eq-eqb (length g) 256 hg,
      eq-eqb (length k) 256 hk,
      eq-eqb (length t) 2048 ht,
      eq-eqb
          (length f) 2048 hf,
      le-leb b 2000000 hb,
      le-leb o 1 ho,
      none_unfit 0 g fit,
    )
