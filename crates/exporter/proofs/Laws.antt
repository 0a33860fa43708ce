-- What a run leaves, by whether the result has room. Assumes nothing.
use Prim.Native.Nat.{ℕ, ◌≤◌, ◌<◌}
use mathlib.Core.Path.{◌≡◌}
use mathlib.Core.List.{List}
use borrow.Author.Tests.{le-leb, lt-leb}
use lib.ListN.{length}
use lib.Seq.{sets}
use Rattle.machines.specs.Runs.{Memory, Ran, ran}
use Rattle.machines.specs.declared.Run.{Run}
use Rattle.exporter.specs.Exporter.{run_slots, exported, ran_into, run_exported}
use Rattle.exporter.specs.Answers.{AnswerFits, RanFits}

pub answer_fits : {x : Ran} {m : Memory} {r : Run} → ran r m ≡ x → RanFits x → AnswerFits r.end
unfolding RanFits
answer_fits e h = rw (← e) at h

-- with its answer's slots stored
pub run_told : (run : Memory → Ran) (m m' : Memory) (r : Run) (old new : List ℕ) → 8 ≤ length old → ran r m' ≡ run m → new ≡ sets old 0 (run_slots r) → exported m' new ≡ run_exported run m old
unfolding run_exported ran_into
run_told run m m' r old new room e h = rw (le-leb 8 (length old) room, ← e, h)

pub nothing_done : (run : Memory → Ran) (m : Memory) (old : List ℕ) → length old < 8 → exported m old ≡ run_exported run m old
unfolding run_exported
nothing_done run m old short = rw (lt-leb 8 (length old) short)
