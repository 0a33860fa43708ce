-- The run of a basic file that is accepted. Assumes nothing.
use Rattle.std.specs.Prelude.{ℕ, ◌+◌, ◌*◌, ◌≤◌, ◌≡◌, refl, List, length, Result, Ok, Err}
use Rattle.std.proofs.Common.{arith, ap, ◌∙◌}
use Rattle.files.specs.Reading.{got, refused}
use Rattle.cells.specs.declared.BitPlace.{BitPlace}
use Rattle.cells.specs.laws.Laws.{clash}
use Rattle.files.specs.laws.AllGot.{got_all}
use Rattle.owners.specs.Owners.{owner_of}
use Rattle.owners.specs.declared.Owner.{Owner}
use Rattle.machines.specs.Runs.{Memory, Ran, ran, refused_run, start_state}
use Rattle.machines.specs.Start.{zeros, refusal, start_refusal}
use Rattle.machines.proofs.theorems.Start.{start_goes, start_refused}
use Rattle.machines.specs.declared.Run.{Run}
use Rattle.machines.specs.Steps.{ran_from}
use Rattle.machines.specs.Slots.{slot_at}
use Rattle.basic.specs.Basic.{Basic, bits}
use Rattle.basic.specs.Checked.{basic_checked}
use Rattle.tabulate.specs.Judge.{CheckedIs, accepted, refused_file}
use Rattle.basic_program.specs.Run.{on_basic, basic_run}
use Rattle.basic_program.specs.laws.Known.{Accepted, checked_known}
use Rattle.basic_code.specs.Fetch.{basic_linked}
use Rattle.basic_machine.specs.Accepted.{AcceptedFile}
use Rattle.basic_machine.specs.Links.{linked, tabled}
use Rattle.basic_machine.specs.Pass.{Reads, Fresh}
use Rattle.basic_machine.proofs.theorems.Starts.{few_templates, basic_linked_run}
use Rattle.files.specs.declared.Refusal.{Refusal}
use Rattle.files.specs.Refusal.{refusal as why}
use Rattle.files.specs.laws.RefusalLaws.{err_number, err_place}

module _ (s : List ℕ) (w : AcceptedFile s) where
  known : Accepted s w.code
  known = got_all (Accepted s) (checked_known s) w.checked

  pub file_short : length s ≤ 65536
  file_short = known.known.small

  file_reads : Reads s 0 w.code
  file_reads = let z : bits w.code ≡ 0 + bits w.code = omega arith in known.known.read ∙ ap (λ n. got w.code n) z

  pub file_fresh : Fresh s 0 1
  file_fresh = record { code = w.code; reads = file_reads; few = few_templates w.code known.limits }

  pub linked_ran : (o : Owner) (L L₀ T T₀ : List ℕ) (b start : ℕ) (m : Memory) (r : Ran) → 8 * length s ≤ 5 * length L₀ → T₀ ≡ zeros 16384
      → ((c : Basic) → Reads s 0 c → (L ≡ linked L₀ 1 0 0 c) × (T ≡ tabled T₀ 1 0 c)) → start ≡ slot_at T 0 0
      → r ≡ ran_from o (basic_linked s L T) b 0 (start_state m.globals start) → r ≡ on_basic o b m (basic_checked s)
  unfolding on_basic
  linked_ran o L L₀ T T₀ b start m r long z f i h =
      let e = f w.code file_reads in
      h ∙ rw (i, e.0, e.1, z, w.checked) (basic_linked_run s w.code w.past w.checked L₀ long o b m.globals)

-- ---- a file that was judged
pub file_accepted : (s : List ℕ) (x : Result (BitPlace × ℕ × ℕ) (Refusal ℕ)) → CheckedIs s x → (a : BitPlace × ℕ × ℕ) → x ≡ Ok a → AcceptedFile s
file_accepted s _ (accepted q count size c z short e read n few b most) a h = record { code = c; past = z; checked = e }
file_accepted s _ (refused_file n p e) a h = clash (cc)

file_judged : (s : List ℕ) (x : Result (BitPlace × ℕ × ℕ) (Refusal ℕ)) → CheckedIs s x → (n p : ℕ) → x ≡ Err (why n p) → basic_checked s ≡ refused n p
file_judged s _ (accepted q count size c z short e read m few b most) n p h = clash (cc)
file_judged s _ (refused_file m q e) n p h = e ∙ rw (err_number h, err_place h) refl

pub file_refused : (s : List ℕ) (x : Result (BitPlace × ℕ × ℕ) (Refusal ℕ)) (o : Owner) (b : ℕ) (m : Memory) (n p : ℕ) (r : Run)
    → CheckedIs s x → x ≡ Err (why n p) → r ≡ refusal n p → ran r m ≡ on_basic o b m (basic_checked s)
unfolding on_basic refused_run
file_refused s x o b m n p r k h e = rw (e, file_judged s x k n p h)

-- ---- the owner of that number
file_owned : (s : List ℕ) (n : ℕ) (o : Owner) (b : ℕ) (m : Memory) (r : Ran) → o ≡ owner_of n → r ≡ on_basic o b m (basic_checked s)
    → r ≡ on_basic (owner_of n) b m (basic_checked s)
file_owned s n o b m r e h = rw e at h

-- ---- a start
module _ (s : List ℕ) (b n : ℕ) (m : Memory) (x : Result Owner (Refusal ℕ)) (asked : x ≡ start_refusal 1000000 b n m) where
  pub run_goes : (o : Owner) (r : Ran) → x ≡ Ok o → r ≡ on_basic o b m (basic_checked s) → r ≡ basic_run s b n m
  unfolding basic_run
  run_goes o r = start_goes 1000000 b n m x asked on_basic (basic_checked s) r o

  pub run_refused : (k p : ℕ) (y : Run) → x ≡ Err (why k p) → y ≡ refusal k p → ran y m ≡ basic_run s b n m
  unfolding basic_run
  run_refused k p y h e = start_refused 1000000 b n m x asked _ k p y h e
