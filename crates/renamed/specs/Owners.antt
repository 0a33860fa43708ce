-- Request 12, owners: what document 02's Ask 12 says, sentence by sentence, of the two machines. Owner 0 is the house, 1 a vendor.
--   'The vendor's run may read all and may set only its own; the house's run may read and set only 0 to 63': owners/specs/Owners.antt, checked
--     in the rule (25, rules/specs/Owned.antt); another owner is refused (31): started (machines/specs/Runs.antt).
--   'After a vendor's run the house part is unchanged': VendorKeeps, however the run ends.
--   'Two accepted house runs of one file and budget that agree on 0 to 63 end alike whatever the rest held: same end, answer, steps, counts,
--     stack, store, frames and globals 0 to 63, with 64 to 255 unchanged in each': HouseAlike.
--   'Demand 3 holds for each run with its owner given to both machines': agree/specs/Demand3.antt, Functions.antt; so do 'no sheet ends 16'
--     (agree/specs/Never16.antt) and 'cells not in use are zero' (sound/specs/Machines.antt).
-- A machine is what its function's promise says: run_tree and run_linear answer and leave tree_run and linear_run of what they are given. A file of
-- the linear machine is bytes, as the function's is. Assumes nothing.
use Rattle.std.specs.Prelude.{◌≡◌, Bool, true, false, cond, List, ℕ, ◌<◌, ◌≤◌, leb, eqb, length, get_or}
use Rattle.std.proofs.Math.Path.{refl}
use Rattle.std.proofs.Common.{eqb-true}
use Rattle.std.proofs.Math.Bool.{and-eq-true_iff}
use Rattle.std.proofs.Math.Option.{Option, none, some}
use Rattle.files.specs.Reading.{Got, got, refused}
use Rattle.files.specs.Tree.{Template}
use Rattle.files.specs.Linear.{Linear, linear_read}
use Rattle.files.specs.Accepted.{tree_accepted}
use Rattle.files.specs.Valid.{Bytes}
use Rattle.files.specs.laws.AllGot.{AllGot}
use Rattle.owners.specs.Owners.{is_owner, owner_of}
use Rattle.owners.specs.declared.Owner.{Owner}
use Rattle.owners.specs.declared.Owner.TheVariants.{House, Vendor}
use Rattle.machines.specs.Machine.{Program, tree_program, linear_program, Ended}
use Rattle.machines.specs.Runs.{Memory, Ran, ran, run_of, left_of, refused_run, right_lengths, lowest_unfit, fit_globals, by_owner, started}
use Rattle.machines.specs.Runs.{memory_of, reported}
use Rattle.machines.specs.Runs.{program_run, on_tree, on_linear, tree_run, linear_run}
use Rattle.machines.specs.declared.End.TheVariants.{Refused}
use Rattle.machines.specs.declared.Run.{Run}
use Rattle.sound.specs.laws.Programs.{ProgramOk}
use Rattle.sound.specs.laws.Files.{tree_accepted_ok, linear_ok}
use Rattle.sound.specs.laws.Runs.{FitGlobals, fit_globals_lem}
use Rattle.renamed.specs.laws.Owned.{EndSame, house, house_alike, vendor_keeps}

-- ---- THE STATEMENTS
-- a machine on one file with one budget: the owner's number and what is lent to what is returned and left
abbrev pub Machine : Type 0
Machine = ℕ → Memory → Ran

-- global i
abbrev pub global : Memory → ℕ → ℕ
global m i = get_or m.globals i 0

abbrev pub VendorKeeps : Machine → Type 0
VendorKeeps machine = (m : Memory) (i : ℕ) → i < 64 → global (left_of (machine 1 m)) i ≡ global m i

abbrev pub Accepted : Ran → Type 0
Accepted x = (n p : ℕ) → (run_of x).end ≡ Refused n p → ⊥

-- x and y are what the house's runs on m and m' return and leave
pub record EndAlike-house (m m' : Memory) (x y : Ran) : Type 0 where
  -- end, answer, steps and the three counts
  pub same_run : run_of x ≡ run_of y
  pub same_stack : (left_of x).stack ≡ (left_of y).stack
  pub same_store : (left_of x).store ≡ (left_of y).store
  pub same_frames : (left_of x).frames ≡ (left_of y).frames
  pub same_house : (i : ℕ) → i < 64 → global (left_of x) i ≡ global (left_of y) i
  pub rest_unchanged : (i : ℕ) → 64 ≤ i → (global (left_of x) i ≡ global m i) × (global (left_of y) i ≡ global m' i)

abbrev pub HouseAlike : Machine → Type 0
HouseAlike machine =
    (m m' : Memory) → Accepted (machine 0 m) → Accepted (machine 0 m') → ((i : ℕ) → i < 64 → global m i ≡ global m' i)
    → EndAlike-house m m' (machine 0 m) (machine 0 m')

-- ---- a start is refused and leaves all as it was, or the run is r
data Began (m : Memory) (r : Ran) : Ran → Type 0 where
  refused_start : (n p : ℕ) → Began m r (refused_run n p m)
  runs : FitGlobals m.globals → Began m r r

began : (most b o : ℕ) (m : Memory) (r : Ran) → Began m r (started most b o m r)
unfolding started by_owner fit_globals right_lengths
began most b o m r = by (right_lengths m) refl (leb b most) (is_owner o) (lowest_unfit 0 m.globals) refl
  where
    by : (x : Bool) → right_lengths m ≡ x → (y z : Bool) (u : Option ℕ) → lowest_unfit 0 m.globals ≡ u
        → Began m r (cond x (cond y (cond z (fit_globals u m r) (refused_run 31 0 m)) (refused_run 21 0 m)) (refused_run 20 0 m))
    by true h true true none e =
        runs (fit_globals_lem m.globals (eqb-true (length m.globals) 256 ((and-eq-true_iff (eqb (length m.globals) 256) _).0 h).0) e)
    by true h true true (some g) e = refused_start 22 g
    by true h true false u e = refused_start 31 0
    by true h false z u e = refused_start 21 0
    by false h y z u e = refused_start 20 0

-- ---- programs
module _ (P : Program) (fit : ProgramOk P) (b : ℕ) where
  program_keeps : (m : Memory) → FitGlobals m.globals → (i : ℕ) → i < 64 → global (left_of (reported (program_run Vendor P b m.globals))) i ≡ global m i
  unfolding reported memory_of
  program_keeps m f i h = vendor_keeps P fit b m.globals f i h

  reported_house : (m m' : Memory) (x y : Ended) → EndSame (house m.globals m'.globals) x y → EndAlike-house m m' (reported x) (reported y)
  unfolding reported memory_of
  reported_house m m' x y e =
      let d = e.data_same_but in
      record {
        same_run = rw (e.same_ending, e.same_counts, d.same_regs, d.same_fr) refl;
        same_stack = d.same_stack;
        same_store = d.same_store;
        same_frames = d.same_frames;
        same_house = λ i h. (d.globals i).0 h;
        rest_unchanged = λ i h. (d.globals i).1 h;
      }

  program_alike : (m m' : Memory) → FitGlobals m.globals → FitGlobals m'.globals → ((i : ℕ) → i < 64 → global m i ≡ global m' i)
      → EndAlike-house m m' (reported (program_run House P b m.globals)) (reported (program_run House P b m'.globals))
  program_alike m m' f f' h =
      reported_house m m' _ _ (house_alike P fit b m.globals m'.globals f (rw (f.count, f'.count) refl) h)

-- ---- a machine on one file with the budget b: it refuses the file, or runs its program
data OnFile (b : ℕ) : (Owner → Memory → Ran) → Type 0 where
  refuses : (n p : ℕ) → OnFile b (λ o m. refused_run n p m)
  goes : (P : Program) → ProgramOk P → OnFile b (λ o m. reported (program_run o P b m.globals))

module _ (most b : ℕ) where
  kept : {on : Owner → Memory → Ran} → OnFile b on → (m : Memory) {x : Ran} → Began m (on Vendor m) x → (i : ℕ) → i < 64 → global (left_of x) i ≡ global m i
  unfolding refused_run
  kept f m (refused_start n p) i h = refl
  kept (refuses n p) m (runs g) i h = refl
  kept (goes P k) m (runs g) i h = program_keeps P k b m g i h

  vendor_law : (on : Owner → Memory → Ran) → OnFile b on → VendorKeeps (λ o m. started most b o m (on (owner_of o) m))
  unfolding owner_of
  vendor_law on f m i h = kept f m (began most b 1 m (on Vendor m)) i h

  alike : {on : Owner → Memory → Ran} → OnFile b on → (m m' : Memory) {x y : Ran} → Began m (on House m) x → Began m' (on House m') y → Accepted x → Accepted y
      → ((i : ℕ) → i < 64 → global m i ≡ global m' i) → EndAlike-house m m' x y
  unfolding refused_run
  alike f m m' (refused_start n p) z a a' h = absurd (a n p refl)
  alike f m m' (runs g) (refused_start n p) a a' h = absurd (a' n p refl)
  alike (refuses n p) m m' (runs g) (runs g') a a' h = absurd (a n p refl)
  alike (goes P k) m m' (runs g) (runs g') a a' h = program_alike P k b m m' g g' h

  house_law : (on : Owner → Memory → Ran) → OnFile b on → HouseAlike (λ o m. started most b o m (on (owner_of o) m))
  unfolding owner_of
  house_law on f m m' a a' h = alike f m m' (began most b 0 m (on House m)) (began most b 0 m' (on House m')) a a' h

-- ---- THE LAWS, for every file and every budget
tree_on : (b : ℕ) (x : Got (List Template)) → AllGot (λ ts. ProgramOk (tree_program ts)) x → OnFile b (λ o m. on_tree o b m x)
unfolding on_tree
tree_on b (got ts q) k = goes (tree_program ts) k
tree_on b (refused n p) k = refuses n p

linear_on : (b : ℕ) (x : Got (List Linear)) → AllGot (λ ts. ProgramOk (linear_program ts)) x → OnFile b (λ o m. on_linear o b m x)
unfolding on_linear
linear_on b (got ts q) k = goes (linear_program ts) k
linear_on b (refused n p) k = refuses n p

pub tree_vendor_keeps : (s : List ℕ) (b : ℕ) → VendorKeeps (λ o m. tree_run s b o m)
unfolding tree_run
tree_vendor_keeps s b = vendor_law 1000000 b _ (tree_on b (tree_accepted s) (tree_accepted_ok s))

pub linear_vendor_keeps : (s : List ℕ) → Bytes s → (b : ℕ) → VendorKeeps (λ o m. linear_run s b o m)
unfolding linear_run
linear_vendor_keeps s bytes b = vendor_law 2000000 b _ (linear_on b (linear_read s) (linear_ok s bytes))

pub tree_house_alike : (s : List ℕ) (b : ℕ) → HouseAlike (λ o m. tree_run s b o m)
unfolding tree_run
tree_house_alike s b = house_law 1000000 b _ (tree_on b (tree_accepted s) (tree_accepted_ok s))

pub linear_house_alike : (s : List ℕ) → Bytes s → (b : ℕ) → HouseAlike (λ o m. linear_run s b o m)
unfolding linear_run
linear_house_alike s bytes b = house_law 2000000 b _ (linear_on b (linear_read s) (linear_ok s bytes))

-- ---- of the functions, from their promises alone: run_tree or run_linear on a file with a budget is `machine`, given the owner and what is lent
-- (agree/specs/Functions.antt: RunTreePromise, RunLinearPromise); x is returned and `left` is left
module _ (machine : Machine) (m left : Memory) (x : Run) where
  pub function_keeps : VendorKeeps machine → ran x left ≡ machine 1 m → (i : ℕ) → i < 64 → global left i ≡ global m i
  function_keeps law p i h = let e = law m i h in rw (← p) at e

  pub functions_alike : HouseAlike machine → ran x left ≡ machine 0 m → (m' left' : Memory) (y : Run) → ran y left' ≡ machine 0 m'
      → Accepted (ran x left) → Accepted (ran y left') → ((i : ℕ) → i < 64 → global m i ≡ global m' i) → EndAlike-house m m' (ran x left) (ran y left')
  functions_alike law p m' left' y p' a a' h = rw (p, p') (law m m' (rw p at a) (rw p' at a') h)
