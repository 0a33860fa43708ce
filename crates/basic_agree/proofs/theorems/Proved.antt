-- Request 6, proved: TabulatedAccepted, BasicAlike and TabulatorAlike of Statement.antt. Assumes nothing.
use Rattle.std.specs.Prelude.{ℕ, ◌*◌, refl, Bool, true, false, cond, leb, length}
use Rattle.std.proofs.Common.{arith}
use Rattle.std.proofs.Math.Option.{Option, none, some}
use Rattle.files.specs.Outcome.{into_bytes}
use Rattle.files.specs.Reading.{got}
use Rattle.files.specs.laws.AllGot.{got_all, got_value, then_led}
use Rattle.readback.specs.laws.Led.{cond_led}
use Rattle.tree_file.specs.File.{tree_file}
use Rattle.owners.specs.Owners.{is_owner, owner_of}
use Rattle.basic.specs.Tabulated.{tabulated}
use Rattle.basic.specs.Checked.{basic_checked, tabulated_file}
use Rattle.basic.specs.laws.DepthLaws.{list_depth}
use Rattle.basic.proofs.theorems.AcceptedLaws.{tabulated_passes}
use Rattle.machines.specs.Machine.{tree_program}
use Rattle.machines.specs.Runs.{Memory, Ran, right_lengths, lowest_unfit, fit_globals, by_owner, started, on_tree, tree_run}
use Rattle.sound.specs.laws.Programs.{ProgramOk}
use Rattle.sound.specs.laws.Files.{tree_accepted_ok}
use Rattle.agree.specs.Demand3.{EndAlike}
use Rattle.basic_program.specs.Run.{on_basic, basic_run}
use Rattle.basic_program.specs.laws.Known.{Accepted, checked_known}
use Rattle.basic_agree.specs.Statement.{TabulatedAccepted, BasicAlike, TabulatorAlike}
use Rattle.basic_agree.specs.laws.Programs.{programs_alike}

-- ---- what is refused at the start is refused alike
same_run : (x : Ran) → EndAlike x x 0 0
same_run x = record {
  same_end = refl;
  same_globals = refl;
  same_stack = refl;
  same_store = refl;
  same_frames = refl;
  same_stack_used = refl;
  same_store_used = refl;
  same_frames_used = refl;
  steps = omega arith;
  at_most = omega arith;
  exactly = λ v h. refl;
}

by_test : (t : Bool) (x y z : Ran) → EndAlike x y 0 0 → EndAlike (cond t x z) (cond t y z) 0 0
by_test true x y z h = h
by_test false x y z h = same_run z

fit_alike : (u : Option ℕ) (m : Memory) (x y : Ran) → EndAlike x y 0 0 → EndAlike (fit_globals u m x) (fit_globals u m y) 0 0
unfolding fit_globals
fit_alike (some g) m x y h = same_run _
fit_alike none m x y h = h

started_alike : (most b o : ℕ) (m : Memory) (x y : Ran) → EndAlike x y 0 0 → EndAlike (started most b o m x) (started most b o m y) 0 0
unfolding started by_owner
started_alike most b o m x y h =
    by_test (right_lengths m) _ _ _
    (by_test (leb b most) _ _ _ (by_test (is_owner o) _ _ _ (fit_alike (lowest_unfit 0 m.globals) m x y h)))

-- THE LAWS
pub tabulated_accepted : TabulatedAccepted
tabulated_accepted s c q e =
    let k = got_all (Accepted s) (checked_known s) e in
    let o = k.known in
    tabulated_passes c o.in_order (list_depth s 15 0 o.read) k.closed k.limits

pub basic_alike : BasicAlike
unfolding basic_run tree_run on_basic on_tree
basic_alike s c q b o m e =
    let k = (got_all (Accepted s) (checked_known s) e).known in
    let t = tabulated_accepted s c q e in
    rw (e, t)
    (started_alike 1000000 b o m _ _
    (programs_alike c k.in_order (omega (arith, k.short, k.small)) 8
    (got_all (λ ts. ProgramOk (tree_program ts)) (tree_accepted_ok (tree_file (tabulated c))) t) (owner_of o) b m.globals))

pub tabulator_alike : TabulatorAlike
unfolding tabulated_file into_bytes
tabulator_alike s w n q e =
    then_led (basic_checked s) _ e
    (λ c z i on.
    let f = tree_file (tabulated c) in
    let v = got_value (cond_led (leb (length f) n) (got f (8 * length f)) 9 (length f) on).1 in
    record {
      list = c;
      past = z;
      checked = i;
      accepted = rw (← v.0, ← v.1) (tabulated_accepted s c z i);
      alike = λ b o m. rw (← v.0) (basic_alike s c z b o m i);
    })
