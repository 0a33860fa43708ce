-- The answer of every run fits into its cell: it is read off a cell. Assumes nothing.
use Rattle.std.specs.Prelude.{ℕ, eqb, leb, List}
use Rattle.std.proofs.Common.{arith}
use Rattle.std.proofs.Math.Option.{Option, none, some}
use Rattle.cells.specs.Cells.{value_of, tag_of}
use Rattle.files.specs.Reading.{Got, got, refused}
use Rattle.files.specs.Tree.{Template}
use Rattle.files.specs.Linear.{Linear, linear_read}
use Rattle.files.specs.Accepted.{tree_accepted}
use Rattle.rules.specs.laws.Lists.{either}
use Rattle.owners.specs.Owners.{is_owner, owner_of}
use Rattle.machines.specs.Machine.{Ending, halted, wrongly, spent, Ended}
use Rattle.machines.specs.Runs.{Memory, Ran, refused_run, lowest_unfit, fit_globals, right_lengths}
use Rattle.machines.specs.Runs.{by_owner, started, end_of, reported, on_tree, on_linear, tree_run}
use Rattle.machines.specs.Runs.{linear_run}
use Rattle.basic.specs.Basic.{Basic}
use Rattle.basic.specs.Checked.{basic_checked}
use Rattle.basic_program.specs.Run.{on_basic, basic_run}
use Rattle.exporter.specs.Answers.{FieldsFit, AnswerFits, RanFits}

value_fits : (c : ℕ) → FieldsFit (value_of c)
unfolding value_of FieldsFit
value_fits c =
    either FieldsFit (eqb (tag_of c) 1) _ _ tt
    (either FieldsFit (eqb (tag_of c) 2) _ _ tt
    (either FieldsFit (eqb (tag_of c) 3) _ _ tt
    (either FieldsFit (eqb (tag_of c) 4) _ _ tt
    (either FieldsFit (eqb (tag_of c) 6) _ _ (omega arith)
    (either FieldsFit (eqb (tag_of c) 7) _ _ (omega arith, omega arith, omega arith)
    (either FieldsFit (eqb (tag_of c) 8) _ _ (omega arith, omega arith) tt))))))

end_fits : (e : Ending) (v : ℕ) → AnswerFits (end_of e v)
unfolding end_of AnswerFits
end_fits halted v = value_fits v
end_fits (wrongly n) v = tt
end_fits spent v = tt

reported_fits : (e : Ended) → RanFits (reported e)
unfolding reported RanFits
reported_fits e = end_fits e.ending e.state.now.regs.v

refused_fits : (n p : ℕ) (m : Memory) → RanFits (refused_run n p m)
unfolding refused_run RanFits
refused_fits n p m = tt

unfit_fits : (u : Option ℕ) (m : Memory) (r : Ran) → RanFits r → RanFits (fit_globals u m r)
unfolding fit_globals
unfit_fits (some g) m r h = refused_fits 22 g m
unfit_fits none m r h = h

owned_fits : (o : ℕ) (m : Memory) (r : Ran) → RanFits r → RanFits (by_owner o m r)
unfolding by_owner
owned_fits o m r h = either RanFits (is_owner o) _ _ h (refused_fits 31 0 m)

started_fits : (most b o : ℕ) (m : Memory) (r : Ran) → RanFits r → RanFits (started most b o m r)
unfolding started
started_fits most b o m r h =
    either RanFits (right_lengths m) _ _
    (either RanFits (leb b most) _ _ (owned_fits o m _ (unfit_fits (lowest_unfit 0 m.globals) m r h)) (refused_fits 21 0 m)) (refused_fits 20 0 m)

pub tree_fits : (s : List ℕ) (b o : ℕ) (m : Memory) → RanFits (tree_run s b o m)
unfolding tree_run
tree_fits s b o m = started_fits 1000000 b o m _ (on (tree_accepted s))
  where
    on : (g : Got (List Template)) → RanFits (on_tree (owner_of o) b m g)
    on (got ts q) = reported_fits _
    on (refused n p) = refused_fits n p m

pub linear_fits : (s : List ℕ) (b o : ℕ) (m : Memory) → RanFits (linear_run s b o m)
unfolding linear_run
linear_fits s b o m = started_fits 2000000 b o m _ (on (linear_read s))
  where
    on : (g : Got (List Linear)) → RanFits (on_linear (owner_of o) b m g)
    on (got ts q) = reported_fits _
    on (refused n p) = refused_fits n p m

pub basic_fits : (s : List ℕ) (b o : ℕ) (m : Memory) → RanFits (basic_run s b o m)
unfolding basic_run
basic_fits s b o m = started_fits 1000000 b o m _ (on (basic_checked s))
  where
    on : (g : Got Basic) → RanFits (on_basic (owner_of o) b m g)
    on (got c q) = reported_fits _
    on (refused n p) = refused_fits n p m
