-- `links::link_tree` meets its contract. The loop's invariant: what is left to link from template `own` on gives what the whole gives.
-- Assumes nothing.
use Prim.Native.Nat.{ℕ}
use mathlib.Core.Path.{◌≡◌}
use mathlib.Core.List.{List}
use Rattle.files.specs.Reading.{got}
use Rattle.files.specs.Tree.{Template, tree_read}
use Rattle.links.specs.TreeSteps.{linked_from, HasPasts}
use Rattle.links.proofs.link_tree.Given as goal

abbrev pub invariant-loop-own : goal.invariant-loop-own
invariant-loop-own l = (linked_from l.initial.links 0 (tree_read l.s) ≡ linked_from l.links l.own (tree_read l.s))
    × ((ts : List Template) (q : ℕ) → tree_read l.s ≡ got ts q → HasPasts l.links l.own ts)
