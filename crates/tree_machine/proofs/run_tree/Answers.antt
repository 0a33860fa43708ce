-- `tree_machine::run_tree` meets its contract. Assumes nothing.
use borrow.Author.Rules.{rules}
use mathlib.Core.Path.{◌≡◌}
use Rattle.machines.proofs.theorems.Start.{may_start, start_goes, start_refused}
use Rattle.machines.specs.Runs.{on_tree, tree_run}
use Rattle.tree_machine.proofs.run_tree.Goals as goal

pub unwrap-requires : goal.unwrap-requires
unwrap-requires c = let may = may_start _ _ _ _ _ c.start_refusal.ensures _ c.in-Ok.is in search (rules, may.globals_long)

pub unwrap-requires-in-Ok : goal.unwrap-requires-in-Ok
unwrap-requires-in-Ok c = let may = may_start _ _ _ _ _ c.start_refusal.ensures _ c.in-Ok.is in search (rules, may.stack_long)

pub unwrap-requires-in-Ok-2 : goal.unwrap-requires-in-Ok-2
unwrap-requires-in-Ok-2 c = let may = may_start _ _ _ _ _ c.start_refusal.ensures _ c.in-Ok.is in search (rules, may.store_long)

pub unwrap-requires-in-Ok-3 : goal.unwrap-requires-in-Ok-3
unwrap-requires-in-Ok-3 c = let may = may_start _ _ _ _ _ c.start_refusal.ensures _ c.in-Ok.is in search (rules, may.frames_long)

pub returns-in-Ok : goal.returns-in-Ok
unfolding tree_run
returns-in-Ok c =
    let g : c.unwrap.result.now ≡ c.args.globals.now = search rules in
    let s : c.unwrap-in-Ok.result.now ≡ c.args.stack.now = search rules in
    let t : c.unwrap-in-Ok-2.result.now ≡ c.args.store.now = search rules in
    let f : c.unwrap-in-Ok-3.result.now ≡ c.args.frames.now = search rules in
    start_goes _ _ _ _ _ c.start_refusal.ensures on_tree _ _ _ c.in-Ok.is (rw (g, s, t, f) at c.run_tier.ensures)

pub returns-in-Err : goal.returns-in-Err
unfolding tree_run
returns-in-Err c = start_refused _ _ _ _ _ c.start_refusal.ensures _ _ _ _ c.in-Err.is c.refused.ensures
