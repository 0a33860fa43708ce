-- Demand 3 and request 8, proved: Forward and Backward of Demand3.antt. Assumes nothing.
use Rattle.std.specs.Prelude.{ℕ, ◌*◌, ◌≤◌, ◌≡◌, Bool, true, false, cond, List, leb, length, get_or}
use Rattle.std.proofs.Common.{arith, ◌∙◌}
use Rattle.std.proofs.Math.Path.{refl, ap}
use Rattle.std.proofs.Math.ListN.{length-replicate}
use borrow.Author.Tests.{le-leb}
use Rattle.cells.specs.declared.Value.{Value}
use Rattle.files.specs.Reading.{got, refused}
use Rattle.files.specs.Tree.{Template}
use Rattle.files.specs.Linear.{Linear, linear_file, linear_read}
use Rattle.files.specs.laws.AllGot.{refused_got, then_led}
use Rattle.files.specs.Accepted.{tree_checked, tree_accepted, flat_accepted}
use Rattle.flatten.specs.Flatten.{flattened}
use Rattle.readback.specs.laws.Templates.{linears}
use Rattle.files.specs.laws.AcceptedLaws.{accepted_checked, flat_accepted_led, flat_accepted_checked}
use Rattle.readback.specs.laws.ReadBack.{flattened_reads}
use Rattle.lockstep.proofs.theorems.Frames.{none_f}
use Rattle.owners.specs.Owners.{is_owner, owner_of}
use Rattle.owners.specs.declared.Owner.{Owner}
use Rattle.machines.specs.Fetched.{no_template, no_linear}
use Rattle.machines.specs.Machine.{tree_program, linear_program, no_counts, Ending, halted, wrongly, spent, Ended}
use Rattle.machines.specs.Runs.{Memory, started, by_owner, fit_globals, start_state, end_of, memory_of, reported, program_run, on_tree, on_linear, tree_run}
use Rattle.machines.specs.Runs.{linear_run}
use Rattle.machines.specs.declared.End.TheVariants.{Halted, OutOfBudget}
use Rattle.lockstep.specs.laws.Lockstep.{Agree, Rel, Alike-ends, forward, backward}
use Rattle.lockstep.proofs.theorems.Same.{same_but_places}
use Rattle.agree.specs.laws.Places.{Twins, Pair, pair, programs_agree}
use Rattle.agree.specs.laws.Files.{file_twins}
use Rattle.agree.specs.laws.Aside.{frames_alike}
use Rattle.agree.specs.Demand3.{linear_counts, tree_counts, jumps_made, first_arms, EndAlike, StartsFrom, Ends, Forward, Backward}

halts : (e : Ending) (c : ℕ) (v : Value) → end_of e c ≡ Halted v → e ≡ halted
unfolding end_of
halts halted c v h = refl
halts (wrongly n) c v h = cc
halts spent c v h = cc

spends : (e : Ending) (c : ℕ) → e ≡ spent → end_of e c ≡ OutOfBudget
unfolding end_of
spends e c h = rw h refl

module _ (ts : List Template) (ls : List Linear) (twins : (t : ℕ) → Twins (get_or ts t no_template) (get_or ls t no_linear)) where
  abbrev R : ℕ → ℕ → ℕ → ℕ → ℕ → Type 0
  R = Pair ts ls twins

  one_template : (t p t' q j : ℕ) → R t p t' q j → t ≡ t'
  one_template t p t' q j (pair h z) = refl

  abbrev A : (own : Owner) → Agree R (same_but_places R own) 1 ⊥ (tree_program ts) (linear_program ls)
  A own = programs_agree ts ls twins own

  reported_alike : (own : Owner) (x y : Ended) → Alike-ends R (same_but_places R own) 1 ⊥ (tree_program ts) (linear_program ls) (A own) x y
      → EndAlike (reported x) (reported y) y.counts.jumps x.counts.firsts
  unfolding reported memory_of same_but_places
  reported_alike own x y r =
      let e = r.related in
      let s = e.data_ok in
      let c = e.counts in
      let o = c.own (λ z. z) in
      record {
        same_end = rw (r.same_ending, s.regs_same) refl;
        same_globals = ap (λ m. m.globals) s.mem_same;
        same_stack = ap (λ m. m.stack) s.mem_same;
        same_store = ap (λ m. m.store) s.mem_same;
        same_frames = frames_alike R one_template s;
        same_stack_used = ap (λ r. r.sp) s.regs_same;
        same_store_used = ap (λ r. r.st) s.regs_same;
        same_frames_used = s.fr_same;
        steps = omega arith;
        at_most = omega arith;
        exactly = λ v h. let q = e.quiet (halts x.ending x.state.now.regs.v v h) in omega arith;
      }

  -- both start alike, with nothing pending
  begin : (own : Owner) (g : List ℕ) → Rel R (same_but_places R own) 1 ⊥ (tree_program ts) (linear_program ls) (A own) no_counts no_counts
      (start_state g (get_or ts 0 no_template).start) (start_state g 0) 0 0
  unfolding start_state same_but_places
  begin own g = record {
    data_ok = record {
      regs_same = refl;
      mem_same = refl;
      fr_same = refl;
      frames_ok = none_f;
      above = λ i h. refl;
      env_fits = omega arith;
      size = length-replicate {A = ℕ} 2048 0;
      size' = length-replicate {A = ℕ} 2048 0;
    };
    place_ok = (A own).meets ((A own).starts {t = 0} {t' = 0} (refl, omega arith));
    counts = record { clock = refl; tally = refl; own = λ n. refl };
  }

-- ---- from the files' bytes
pub flattens_read : (s w : List ℕ) (n q : ℕ) → flattened s n ≡ got w q → (ts : List Template) × (flat_accepted s ≡ got ts q) × (w ≡ linear_file ts)
unfolding flattened
flattens_read s w n q e =
    then_led (flat_accepted s) _ e (λ ts r first on. let x = into (leb (length (linear_file ts)) n) on in (ts, first ∙ ap (λ z. got ts z) x.0, x.1))
  where
    into : {v : List ℕ} {r : ℕ} (b : Bool) → cond b (got v r) (refused 9 (length v)) ≡ got w q → (r ≡ q) × (w ≡ v)
    into true e = (cc, cc)
    into false e = refused_got e

module _ {g : List ℕ} (m : Memory) (st : StartsFrom g m) (b o : ℕ) (owned : o ≤ 1) where
  tree_is : (s : List ℕ) {ts : List Template} {q : ℕ} → tree_accepted s ≡ got ts q → b ≤ 1000000
      → tree_run s b o m ≡ reported (program_run (owner_of o) (tree_program ts) b g)
  unfolding tree_run started by_owner is_owner fit_globals on_tree
  tree_is s e h = rw (st.lengths, le-leb b 1000000 h, le-leb o 1 owned, st.globals, st.fit, e) refl

  linear_is : (w : List ℕ) {ls : List Linear} {q : ℕ} → linear_read w ≡ got ls q → b ≤ 2000000
      → linear_run w b o m ≡ reported (program_run (owner_of o) (linear_program ls) b g)
  unfolding linear_run started by_owner is_owner fit_globals on_linear
  linear_is w e h = rw (st.lengths, le-leb b 2000000 h, le-leb o 1 owned, st.globals, st.fit, e) refl

-- the two programs of a tree file that passes 1 to 7, and their ends from the globals g in runs of one owner
module _ (own : Owner) (s : List ℕ) (ts : List Template) (q : ℕ) (read : tree_checked s ≡ got ts q) (g : List ℕ) where
  abbrev ls : List Linear
  ls = linears 1 ts

  abbrev tree_end : ℕ → Ended
  tree_end b = program_run own (tree_program ts) b g

  abbrev linear_end : ℕ → Ended
  linear_end b = program_run own (linear_program ls) b g

  pub twins : (t : ℕ) → Twins (get_or ts t no_template) (get_or ls t no_linear)
  twins = file_twins s ts q read

  unfoldable pub AlikeHere : Ended → Ended → Type 0
  AlikeHere = Alike-ends (R ts ls twins) (same_but_places (R ts ls twins) own) 1 ⊥ (tree_program ts) (linear_program ls) (A ts ls twins own)

  pub tree_ends : (b : ℕ) → ((tree_end b).ending ≡ spent → ⊥) → AlikeHere (tree_end b) (linear_end (2 * b))
  unfolding program_run AlikeHere same_but_places
  tree_ends b h =
      forward (R ts ls twins) (same_but_places (R ts ls twins) own) 1 ⊥ (tree_program ts) (linear_program ls) (A ts ls twins own) (begin ts ls twins own g) b h

  pub linear_ends : (b : ℕ) → ((linear_end b).ending ≡ spent → ⊥) → AlikeHere (tree_end b) (linear_end b)
  unfolding program_run AlikeHere same_but_places
  linear_ends b h =
      backward (R ts ls twins) (same_but_places (R ts ls twins) own) 1 ⊥ (tree_program ts) (linear_program ls) (A ts ls twins own) (begin ts ls twins own g) b h

module _ (s w : List ℕ) (ts : List Template) (q : ℕ) (accepted : flat_accepted s ≡ got ts q) (is : w ≡ linear_file ts) where
  tree_accepted_lem : tree_accepted s ≡ got ts q
  tree_accepted_lem = (flat_accepted_led s ts q accepted).0

  tree_read_lem : tree_checked s ≡ got ts q
  tree_read_lem = accepted_checked s ts q tree_accepted_lem

  pub linear_read_lem : linear_read w ≡ got (linears 1 ts) (8 * length (linear_file ts))
  linear_read_lem = ap linear_read is ∙ flattened_reads s ts q (flat_accepted_checked s ts q accepted)

  module _ (g : List ℕ) (m m' : Memory) (st : StartsFrom g m) (st' : StartsFrom g m') (b b' o : ℕ) (h : b ≤ 1000000) (h' : b' ≤ 2000000)
      (owned : o ≤ 1) where
    abbrev x : Ended
    x = tree_end (owner_of o) s ts q tree_read_lem g b

    abbrev y : Ended
    y = linear_end (owner_of o) s ts q tree_read_lem g b'

    -- the ends of the two machines, as ends of the two programs
    of_programs : EndAlike (reported x) (reported y) y.counts.jumps x.counts.firsts
        → EndAlike (tree_run s b o m) (linear_run w b' o m') (jumps_made w b' o g) (first_arms s b o g)
    unfolding linear_counts tree_counts
    of_programs e =
        let j : jumps_made w b' o g ≡ y.counts.jumps = ap (λ z. (linear_counts (owner_of o) b' g z).jumps) linear_read_lem in
        let f : first_arms s b o g ≡ x.counts.firsts = ap (λ z. (tree_counts (owner_of o) b g z).firsts) tree_accepted_lem in
        rw (tree_is m st b o owned s tree_accepted_lem h, linear_is m' st' b' o owned w linear_read_lem h', j, f) e

    end_alike : AlikeHere (owner_of o) s ts q tree_read_lem g x y
        → EndAlike (tree_run s b o m) (linear_run w b' o m') (jumps_made w b' o g) (first_arms s b o g)
    unfolding AlikeHere
    end_alike a = of_programs (reported_alike ts (linears 1 ts) (twins (owner_of o) s ts q tree_read_lem g) (owner_of o) x y a)

  module _ (g : List ℕ) (m m' : Memory) (st : StartsFrom g m) (st' : StartsFrom g m') (b o : ℕ) (h : b ≤ 1000000) (owned : o ≤ 1) where
    forward_here : Ends (tree_run s b o m) → EndAlike (tree_run s b o m) (linear_run w (2 * b) o m') (jumps_made w (2 * b) o g) (first_arms s b o g)
    unfolding reported
    forward_here e =
        let x = tree_end (owner_of o) s ts q tree_read_lem g b in
        let e' : Ends (reported x) = rw (tree_is m st b o owned s tree_accepted_lem h) at e in
        end_alike g m m' st st' b (2 * b) o h (omega arith) owned
        (tree_ends (owner_of o) s ts q tree_read_lem g b (λ z. e' (spends x.ending x.state.now.regs.v z)))

    backward_here : Ends (linear_run w b o m') → EndAlike (tree_run s b o m) (linear_run w b o m') (jumps_made w b o g) (first_arms s b o g)
    unfolding reported
    backward_here e =
        let y = linear_end (owner_of o) s ts q tree_read_lem g b in
        let e' : Ends (reported y) = rw (linear_is m' st' b o owned w linear_read_lem (omega arith)) at e in
        end_alike g m m' st st' b b o h (omega arith) owned
        (linear_ends (owner_of o) s ts q tree_read_lem g b (λ z. e' (spends y.ending y.state.now.regs.v z)))

pub demand_3_forward : Forward
demand_3_forward s w g n b o m m' f st st' h owned e =
    let r = flattens_read s w n f.0 f.1 in
    forward_here s w r.0 f.0 r.1 r.2 g m m' st st' b o h owned e

pub demand_3_backward : Backward
demand_3_backward s w g n b o m m' f st st' h owned e =
    let r = flattens_read s w n f.0 f.1 in
    backward_here s w r.0 f.0 r.1 r.2 g m m' st st' b o h owned e
