-- The programs of basic code and of its tabulated file are in step: the same stands at places that correspond. Assumes nothing.
use Rattle.std.specs.Prelude.{ℕ, ◌*◌, ◌≤◌, ◌<◌, ◌^◌, ◌≡◌, List, get_or}
use native.Mathlib.Omega.{arith}
use Rattle.std.proofs.Math.Path.{refl, ap}
use Rattle.tree_file.specs.File.{placed}
use Rattle.basic.specs.Basic.{Basic, bits}
use Rattle.basic.specs.Valid.{Ok}
use Rattle.basic.specs.Tabulated.{entries_of, tabulated}
use Rattle.basic.proofs.theorems.EntryLaws.{entries_found}
use Rattle.owners.specs.declared.Owner.{Owner}
use Rattle.machines.specs.Fetched.{Fetched, bad, no_template, tree_at}
use Rattle.machines.specs.Machine.{Program, tree_program, no_counts, Ended}
use Rattle.machines.specs.Runs.{reported, memory_of, start_state, program_run}
use Rattle.lockstep.proofs.theorems.Frames.{Savable}
use Rattle.lockstep.specs.laws.InStep.{Fetches, plain_f, return_f, call_f, branch_f, save_f, bad_f, Paired, EndedR, no_counts_lem, run_alike}
use Rattle.lockstep.proofs.theorems.Same.{Same, same_but_places, start_same}
use Rattle.sound.specs.laws.Programs.{FetchedOk, ProgramOk}
use Rattle.agree.specs.Demand3.{EndAlike}
use Rattle.agree.specs.laws.Aside.{frames_alike}
use Rattle.basic_program.specs.Program.{Body, all_bodies, no_body, basic_at, basic_program}
use Rattle.basic_program.proofs.theorems.Spots.{Spot, spot_first, spot_within, Twin, plain_twin, return_twin, call_twin, branch_twin, save_twin, bad_t}
use Rattle.basic_program.proofs.theorems.Spots.{look_like}
use Rattle.basic_program.proofs.theorems.Bodies.{BodyOk, body_ok, entries_are, code_is}

-- c is in order and short, and the program of its tabulated templates, placed from bit k on, is ok
module _ (c : Basic) (ok : Ok c) (short : bits c ≤ 8 * 65536) (k : ℕ) (tree_ok : ProgramOk (tree_program (placed k (tabulated c)))) (own : Owner) where
  abbrev P : Program
  P = basic_program c

  abbrev Q : Program
  Q = tree_program (placed k (tabulated c))

  abbrev at : ℕ → Body
  at t = get_or (all_bodies c) t no_body

  abbrev start : ℕ → ℕ
  start t = (get_or (placed k (tabulated c)) t no_template).start

  -- p of template t corresponds to q of it
  Place : ℕ → ℕ → ℕ → Type 0
  Place t p q = Spot (entries_of (at t).next (at t).list) (at t).next (at t).start (at t).list (start t) p q

  abbrev R : ℕ → ℕ → ℕ → ℕ → ℕ → Type 0
  R t p t' q j = (t ≡ t') × Place t p q × (t < 2 ^ 8) × (j ≡ 0)

  in_order : (t : ℕ) → BodyOk (8 * 65536) (at t)
  in_order t = body_ok (8 * 65536) c t ok short (omega arith)

  place_fits : (t p q : ℕ) → Place t p q → p < 2 ^ 24
  unfolding Place
  place_fits t p q h =
      let w = spot_within (entries_of (at t).next (at t).list) (at t).list (at t).next (at t).start (start t) p q (in_order t).ok h in
      omega (arith, w.to, (in_order t).within)

  same_stands : (t p q : ℕ) → Place t p q → Twin (Place t) (basic_at c t p) (tree_at (placed k (tabulated c)) t q)
  unfolding Place basic_at tree_at
  same_stands t p q h =
      rw (entries_are k c t, code_is k c t)
      (look_like (entries_of (at t).next (at t).list) (Place t) (at t).list (at t).next (at t).start (start t) bad bad
      (record { ok = (in_order t).ok; finds = entries_found (at t).next (at t).list; places = λ p q h. h; follows = bad_t }) p q h)

  fetched : (t : ℕ) {F G : Fetched} → t < 2 ^ 8 → FetchedOk G → Twin (Place t) F G → Fetches R (same_but_places R own) ⊥ t t F G
  unfolding same_but_places
  fetched t h o (plain_twin r) = plain_f refl (refl, r, h, refl)
  fetched t h o return_twin = return_f
  fetched t h o call_twin = call_f
  fetched t h o (branch_twin r₁ r₂) = branch_f (λ z. absurd z) (refl, r₁, h, refl) (refl, r₂, h, refl)
  fetched t h o (save_twin {n = n} {p₁ = p₁} {q₁ = q₁} l r₁ r₂) =
      let v : Savable R n t p₁ t q₁ 0 =
      record { n_fits = o.0; t_fits = h; p_fits = place_fits t p₁ q₁ r₁; t'_fits = h; q_fits = o.1; places = (refl, r₁, h, refl) } in
      save_f v (refl, r₂, h, refl)
  fetched t h o bad_t = bad_f

  start_place : (t : ℕ) → Place t (at t).start (start t)
  unfolding Place
  start_place t = spot_first (entries_of (at t).next (at t).list) (at t).list (at t).next (at t).start (start t)

  paired : Paired R (same_but_places R own) ⊥ P Q
  unfolding same_but_places
  paired = record {
    fetches = λ {t} {p} {t'} {q} r. rw (← r.0) (fetched t r.2 (tree_ok t q) (same_stands t p q r.1));
    starts = λ {t} r. rw (← r.0) (refl, start_place t, r.1, refl);
  }

  ends : {x y : Ended} → EndedR R (same_but_places R own) ⊥ x y → EndAlike (reported x) (reported y) 0 0
  unfolding reported memory_of same_but_places
  ends {x} {y} e =
      let s : Same R x.state.now y.state.now 0 = e.states.data_ok in
      let k = e.tallies.same_steps in
      record {
        same_end = rw (e.same_ending, s.regs_same) refl;
        same_globals = ap (λ m. m.globals) s.mem_same;
        same_stack = ap (λ m. m.stack) s.mem_same;
        same_store = ap (λ m. m.store) s.mem_same;
        same_frames = frames_alike R (λ t p t' q j r. r.0) s;
        same_stack_used = ap (λ r. r.sp) s.regs_same;
        same_store_used = ap (λ r. r.st) s.regs_same;
        same_frames_used = s.fr_same;
        steps = omega arith;
        at_most = omega arith;
        exactly = λ v h. refl;
      }

  -- THE LAW
  pub programs_alike : (b : ℕ) (g : List ℕ) → EndAlike (reported (program_run own P b g)) (reported (program_run own Q b g)) 0 0
  unfolding program_run start_state same_but_places
  programs_alike b g =
      ends
      (run_alike R (same_but_places R own) ⊥ P Q paired b no_counts no_counts (start_state g (P.start 0)) (start_state g (Q.start 0))
      (no_counts_lem R (same_but_places R own) ⊥)
      (record { data_ok = start_same R g (P.start 0) (Q.start 0); place_ok = (refl, start_place 0, omega arith, refl) }))
