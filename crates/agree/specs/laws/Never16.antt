-- 16 is a matter of linear code alone (document 01, 'Rules'): no sheet ends so. For every tree file, budget, owner and memory no run of the tree machine
-- ends wrong 16, nor does one with request 4's check left aside; for every file that the flattener writes, or wrote before that check, no run of
-- the linear machine does. Assumes nothing.
use Rattle.std.specs.Prelude.{ℕ, ◌≡◌, refl, Bool, true, false, cond, List, leb}
use Rattle.std.proofs.Common.{arith, ◌∙◌}
use Rattle.std.proofs.Math.Option.{Option, none, some}
use Rattle.files.specs.Reading.{Got, got, refused}
use Rattle.files.specs.Tree.{Template}
use Rattle.files.specs.Linear.{linear_file}
use Rattle.files.specs.Accepted.{tree_checked, flat_checked, tree_accepted}
use Rattle.readback.specs.laws.Templates.{linears}
use Rattle.files.specs.laws.AcceptedLaws.{flat_checked_lem, accepted_checked, flat_accepted_checked}
use Rattle.readback.specs.laws.ReadBack.{flattened_reads}
use Rattle.owners.specs.Owners.{is_owner, owner_of}
use Rattle.owners.specs.declared.Owner.{Owner}
use Rattle.machines.specs.Machine.{tree_program, linear_program, Ending, halted, wrongly, spent, Ended}
use Rattle.machines.specs.Runs.{Memory, Ran, run_of, refused_run, right_lengths, lowest_unfit, fit_globals, by_owner, started, end_of, reported, program_run}
use Rattle.machines.specs.Runs.{on_tree, on_linear, tree_run, checked_run, linear_run}
use Rattle.machines.specs.declared.End.TheVariants.{Wrong}
use Rattle.lockstep.proofs.theorems.Same.{same_but_places}
use Rattle.agree.specs.Demand3.{Flattens}
use Rattle.agree.specs.laws.Proved.{flattens_read, AlikeHere, tree_ends, linear_ends}

-- ---- the statements
abbrev pub Ends16 : Ran → Type 0
Ends16 x = (run_of x).end ≡ Wrong 16

abbrev pub TreeNever16 : Type 0
TreeNever16 = (s : List ℕ) (b o : ℕ) (m : Memory) → (Ends16 (tree_run s b o m) → ⊥) × (Ends16 (checked_run s b o m) → ⊥)

-- w is the linear file of s; 24 is left aside, since files on the shelf may hold orphans
abbrev pub LinearOf : List ℕ → List ℕ → Type 0
LinearOf s w = (ts : List Template) × (q : ℕ) × (flat_checked s ≡ got ts q) × (w ≡ linear_file ts)

abbrev pub LinearNever16 : Type 0
LinearNever16 = (s w : List ℕ) (b o : ℕ) (m : Memory) → LinearOf s w → Ends16 (linear_run w b o m) → ⊥

-- ---- a start that is refused ends otherwise
refused_never : (n p : ℕ) (m : Memory) → Ends16 (refused_run n p m) → ⊥
unfolding refused_run
refused_never n p m e = let z : ◌≡◌ {A = ℕ} 0 1 = cc in omega arith

started_never : (most b o : ℕ) (m : Memory) (r : Ran) → (Ends16 r → ⊥) → Ends16 (started most b o m r) → ⊥
unfolding started by_owner fit_globals
started_never most b o m r h = lengths (right_lengths m) (leb b most) (is_owner o) (lowest_unfit 0 m.globals)
  where
    lengths : (x y z : Bool) (u : Option ℕ)
        → Ends16 (cond x (cond y (cond z (fit_globals u m r) (refused_run 31 0 m)) (refused_run 21 0 m)) (refused_run 20 0 m)) → ⊥
    lengths true true true (some g) = refused_never 22 g m
    lengths true true true none = h
    lengths true true false u = refused_never 31 0 m
    lengths true false z u = refused_never 21 0 m
    lengths false y z u = refused_never 20 0 m

-- ---- the end of a program that is wrong 16
ends_wrongly : (x : Ended) → Ends16 (reported x) → x.ending ≡ wrongly 16
unfolding reported end_of
ends_wrongly x = by x.ending
  where
    by : (e : Ending) → end_of e x.state.now.regs.v ≡ Wrong 16 → e ≡ wrongly 16
    by halted h = let z : ◌≡◌ {A = ℕ} 0 1 = cc in absurd (omega arith)
    by (wrongly n) h = let z : n ≡ 16 = cc in rw z refl
    by spent h = let z : ◌≡◌ {A = ℕ} 0 1 = cc in absurd (omega arith)

not_spent : (x : Ended) → x.ending ≡ wrongly 16 → x.ending ≡ spent → ⊥
not_spent x e h = let z : ◌≡◌ {A = ℕ} 0 1 = cc in omega arith

module _ (own : Owner) (s : List ℕ) (ts : List Template) (q : ℕ) (read : tree_checked s ≡ got ts q) (g : List ℕ) where
  same_ending : (x y : Ended) → AlikeHere own s ts q read g x y → x.ending ≡ y.ending
  unfolding AlikeHere
  same_ending x y a = a.same_ending

  alike_never : (x y : Ended) → AlikeHere own s ts q read g x y → x.ending ≡ wrongly 16 → ⊥
  unfolding AlikeHere same_but_places
  alike_never x y a e = a.related.only_there e

  -- THE LAWS
  tree_program_never : (b : ℕ) → Ends16 (reported (program_run own (tree_program ts) b g)) → ⊥
  tree_program_never b h =
      let x = program_run own (tree_program ts) b g in
      let e = ends_wrongly x h in
      alike_never x _ (tree_ends own s ts q read g b (not_spent x e)) e

  linear_program_never : (b : ℕ) → Ends16 (reported (program_run own (linear_program (linears 1 ts)) b g)) → ⊥
  linear_program_never b h =
      let y = program_run own (linear_program (linears 1 ts)) b g in
      let e = ends_wrongly y h in
      let a = linear_ends own s ts q read g b (not_spent y e) in
      alike_never _ y a (same_ending _ y a ∙ e)

on_tree_never : (own : Owner) (s : List ℕ) (b : ℕ) (m : Memory) (x : Got (List Template))
    → ((ts : List Template) (q : ℕ) → x ≡ got ts q → tree_checked s ≡ got ts q)
    → Ends16 (on_tree own b m x) → ⊥
unfolding on_tree
on_tree_never own s b m (got ts q) k = tree_program_never own s ts q (k ts q refl) m.globals b
on_tree_never own s b m (refused n p) k = refused_never n p m

pub tree_never_16 : TreeNever16
unfolding tree_run checked_run
tree_never_16 s b o m = (
  started_never 1000000 b o m _ (on_tree_never (owner_of o) s b m (tree_accepted s) (λ ts q e. accepted_checked s ts q e)),
  started_never 1000000 b o m _ (on_tree_never (owner_of o) s b m (tree_checked s) (λ ts q e. e)),
)

pub linear_never_16 : LinearNever16
unfolding linear_run on_linear
linear_never_16 s w b o m f =
    let ts = f.0 in
    let q = f.1 in
    let e = f.2 in
    started_never 2000000 b o m _ (rw (f.3, flattened_reads s ts q e) (linear_program_never (owner_of o) s ts q (flat_checked_lem s ts q e) m.globals b))

-- what the flattener writes is a linear file of the sheet
pub flattens_linear : (s w : List ℕ) (n : ℕ) → Flattens s n w → LinearOf s w
flattens_linear s w n f =
    let r = flattens_read s w n f.0 f.1 in
    (r.0, f.0, flat_accepted_checked s r.0 f.0 r.1, r.2)
