-- `machines::first_unfit` meets its contract: what is left to look at answers what the whole does. Assumes nothing.
use mathlib.Core.Path.{◌≡◌}
use mathlib.Core.Bool.{not}
use lib.ListN.{drop}
use Rattle.std.specs.List.{position, position_from}
use Rattle.cells.specs.Cells.{starting_global}
use Rattle.machines.proofs.first_unfit.Given as goal

abbrev pub invariant-loop-at : goal.invariant-loop-at
invariant-loop-at l =
    position_from (λ c. not (starting_global c)) l.at (drop l.at l.globals) ≡ position (λ c. not (starting_global c)) l.globals
