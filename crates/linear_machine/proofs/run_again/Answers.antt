-- `linear_machine::run_again` meets its contract: as `run_linear`, with the table of a file that was read. Assumes nothing.
use borrow.Author.Rules.{rules}
use native.Mathlib.Omega.{arith}
use mathlib.Core.Path.{◌≡◌, sym, ap}
use Rattle.std.specs.Prelude.{Ok}
use Rattle.machines.specs.Runs.{on_linear, linear_run}
use Rattle.machines.proofs.theorems.Start.{startable, start_goes}
use Rattle.linear_machine.proofs.FileLaws.{again_within, again_ran}
use Rattle.linear_machine.proofs.run_again.Goals as goal

pub unwrap-requires : goal.unwrap-requires
unwrap-requires c = let may = startable _ _ _ _ _ c.requires.frames_value in search (rules, may.globals_long)

pub unwrap-requires-2 : goal.unwrap-requires-2
unwrap-requires-2 c = let may = startable _ _ _ _ _ c.requires.frames_value in search (rules, may.stack_long)

pub unwrap-requires-3 : goal.unwrap-requires-3
unwrap-requires-3 c = let may = startable _ _ _ _ _ c.requires.frames_value in search (rules, may.store_long)

pub unwrap-requires-4 : goal.unwrap-requires-4
unwrap-requires-4 c = let may = startable _ _ _ _ _ c.requires.frames_value in search (rules, may.frames_long)

pub run_read-requires : goal.run_read-requires
run_read-requires c = again_within _ _ c.requires.table_of

pub returns : goal.returns
unfolding linear_run
returns c =
    let p = c.requires in
    let g : c.unwrap.result.now ≡ c.args.globals.now = search rules in
    let done = again_ran _ _ p.table_of _ _ _ _ (λ i. omega (arith, c.shared_slice_known-1.given i)) (rw g at c.run_read.ensures) in
    start_goes _ _ _ _ _ (sym p.frames_value) on_linear _ _ _ (ap Ok (sym c.owner_of-whose.ensures)) done
