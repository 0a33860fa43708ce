-- A run by the links and the table of an accepted tree file is a run of the tree: the two programs are in step (lockstep), at equal places at which
-- execution can be. Assumes nothing.
use Rattle.std.specs.Prelude.{ℕ, ◌*◌, ◌≤◌, ◌<◌, ◌≡◌, List, length}
use native.Mathlib.Omega.{arith}
use Rattle.std.proofs.Math.Path.{refl}
use Rattle.files.specs.Reading.{got}
use Rattle.files.specs.Table.{tree_table}
use Rattle.files.specs.Tree.{Template}
use Rattle.files.specs.Accepted.{tree_checked}
use Rattle.links.specs.Links.{linked_all}
use Rattle.owners.specs.declared.Owner.{Owner}
use Rattle.machines.specs.Fetched.{Fetched, plain, returns, calls, branches, saves, jumps, bad, tree_at}
use Rattle.machines.specs.Machine.{Program, tree_program, no_counts, Ended}
use Rattle.machines.specs.Runs.{reported, start_state, program_run}
use Rattle.machines.specs.Steps.{ran_from}
use Rattle.machines.specs.Slots.{slot_at}
use Rattle.lockstep.proofs.theorems.Frames.{Savable}
use Rattle.lockstep.specs.laws.InStep.{Fetches, plain_f, return_f, call_f, branch_f, save_f, jump_f, bad_f, Paired, EndedR, no_counts_lem, run_alike}
use Rattle.lockstep.proofs.theorems.Same.{same_but_places, same_data, start_same}
use Rattle.tree_code.specs.Fetch.{linked_program}
use Rattle.tree_machine.specs.laws.Look.{seen, Leads}
use Rattle.tree_machine.specs.laws.Places.{Standing, fetches, starts_agree, start_stands, standing_fits}

module _ (s : List ℕ) (size : ℕ) (ts : List Template) (q : ℕ) (accepted : tree_checked s ≡ got ts q)
    (L₀ : List ℕ) (long : 8 * length s ≤ 5 * length L₀) (o : Owner) where
  abbrev P : Program
  P = linked_program s (linked_all L₀ ts) (tree_table size ts)

  abbrev Q : Program
  Q = tree_program ts

  -- equal places at which execution can be
  abbrev R : ℕ → ℕ → ℕ → ℕ → ℕ → Type 0
  R t p t' p' j = (t ≡ t') × (p ≡ p') × Standing ts t p × (t < 256) × (j ≡ 0)

  -- what is fetched by the links does not tell open conditionals from closed ones
  fetched : (t : ℕ) (F : Fetched) → t < 256 → Leads (Standing ts t) F → Fetches R (same_but_places R o) ⊥ t t (seen F) F
  unfolding seen Leads same_but_places
  fetched t (plain i p) h l = plain_f refl (refl, refl, l, h, refl)
  fetched t returns h l = return_f
  fetched t (calls n) h l = call_f
  fetched t (branches n p p') h l = branch_f (λ z. absurd z) (refl, refl, l.0, h, refl) (refl, refl, l.1, h, refl)
  fetched t (saves n p p') h l =
      let f : p < 8 * 65536 = standing_fits s size ts q accepted t p l.1 in
      let v : Savable R n t p t p 0 =
      record { n_fits = l.0; t_fits = h; p_fits = omega arith; t'_fits = h; q_fits = omega arith; places = (refl, refl, l.1, h, refl) } in
      save_f v (refl, refl, l.2, h, refl)
  fetched t (jumps p) h l = jump_f (refl, refl, l, h, refl)
  fetched t bad h l = bad_f

  paired : Paired R (same_but_places R o) ⊥ P Q
  unfolding same_but_places
  paired = record {
    fetches = λ {t} {p} r.
        let f = fetches s size ts q accepted L₀ long t p r.2 in
        rw (← r.0, ← r.1, f.fetched) (fetched t (tree_at ts t p) r.3 f.leads);
    starts = λ {t} r.
        rw (← r.0) (refl, starts_agree s size ts q accepted t, rw (starts_agree s size ts q accepted t) (start_stands s size ts q accepted t), r.1, refl);
  }

  ends_same : {x y : Ended} → EndedR R (same_but_places R o) ⊥ x y → reported x ≡ reported y
  unfolding reported same_but_places
  ends_same e = rw (e.same_ending, e.tallies.same_steps, same_data R (λ t p t' q j r. (r.0, r.1)) e.states.data_ok) refl

  -- THE LAW
  pub tree_run_lem : (b : ℕ) (g : List ℕ) → ran_from o P b 0 (start_state g (slot_at (tree_table size ts) 0 0)) ≡ reported (program_run o (tree_program ts) b g)
  unfolding program_run ran_from start_state same_but_places
  tree_run_lem b g =
      rw (starts_agree s size ts q accepted 0)
      (ends_same
      (run_alike R (same_but_places R o) ⊥ P Q paired b no_counts no_counts (start_state g (Q.start 0)) (start_state g (Q.start 0))
      (no_counts_lem R (same_but_places R o) ⊥)
      (record { data_ok = start_same R g (Q.start 0) (Q.start 0); place_ok = (refl, refl, start_stands s size ts q accepted 0, omega arith, refl) })))
