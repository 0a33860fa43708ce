-- `machines::first_unfit` meets its contract: what is left to look at answers what the whole does. Assumes nothing.
use mathlib.Core.Bool.{not}
use Rattle.std.proofs.Common.{sym}
use Rattle.std.proofs.lemmas.Iterator.Adapters.{position_from-zero}
use Rattle.cells.specs.Cells.{starting_global}
use Rattle.machines.proofs.Laws.{unfit_here, unfit_later, all_fit}
use Rattle.machines.proofs.first_unfit.Goals as goal

pub loop-at-init : goal.loop-at-init
loop-at-init c = sym (position_from-zero (λ x. not (starting_global x)) c.args.globals.now)

pub loop-at-preserved : goal.loop-at-preserved
loop-at-preserved c = unfit_later _ _ c.loop-at.invariant _ c.loop-at-test.true c.starting_global.ensures c.if-not-starting_global.false

pub returns-then-not-starting_global : goal.returns-then-not-starting_global
returns-then-not-starting_global c = unfit_here _ _ c.loop-at.invariant _ c.loop-at-test.true c.starting_global.ensures c.if-not-starting_global.true

pub returns : goal.returns
returns c = all_fit _ _ c.loop-at.invariant c.loop-at-test.false
