-- `basic_machine::run_basic` meets its contract. Assumes nothing.
use Rattle.machines.specs.Start.{zeros}
use Rattle.machines.proofs.theorems.Start.{may_start}
use borrow.Author.Rules.{rules}
use mathlib.Core.Path.{◌≡◌, refl}
use Rattle.basic_machine.proofs.theorems.RunLaws.{run_goes, run_refused}
use Rattle.basic_machine.proofs.run_basic.Goals as goal

pub unwrap-requires : goal.unwrap-requires
unwrap-requires c = let may = may_start _ _ _ _ _ c.start_refusal.ensures _ c.in-Ok.is in search (rules, may.globals_long)

pub unwrap-requires-in-Ok : goal.unwrap-requires-in-Ok
unwrap-requires-in-Ok c = let may = may_start _ _ _ _ _ c.start_refusal.ensures _ c.in-Ok.is in search (rules, may.stack_long)

pub unwrap-requires-in-Ok-2 : goal.unwrap-requires-in-Ok-2
unwrap-requires-in-Ok-2 c = let may = may_start _ _ _ _ _ c.start_refusal.ensures _ c.in-Ok.is in search (rules, may.store_long)

pub unwrap-requires-in-Ok-3 : goal.unwrap-requires-in-Ok-3
unwrap-requires-in-Ok-3 c = let may = may_start _ _ _ _ _ c.start_refusal.ensures _ c.in-Ok.is in search (rules, may.frames_long)

pub run_file-requires : goal.run_file-requires
unfolding zeros
run_file-requires c = refl

pub returns-in-Ok : goal.returns-in-Ok
returns-in-Ok c =
    let g : c.unwrap.result.now ≡ c.args.globals.now = search rules in
    let s : c.unwrap-in-Ok.result.now ≡ c.args.stack.now = search rules in
    let t : c.unwrap-in-Ok-2.result.now ≡ c.args.store.now = search rules in
    let f : c.unwrap-in-Ok-3.result.now ≡ c.args.frames.now = search rules in
    run_goes _ _ _ _ _ c.start_refusal.ensures _ _ c.in-Ok.is (rw (g, s, t, f) at c.run_file.ensures)

pub returns-in-Err : goal.returns-in-Err
returns-in-Err c = run_refused _ _ _ _ _ c.start_refusal.ensures _ _ _ c.in-Err.is c.refused.ensures
