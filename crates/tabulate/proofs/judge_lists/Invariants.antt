-- `tabulate::judge_lists` meets its contract: template after template. Assumes nothing.
use Rattle.tabulate.specs.Judge.{ListIn, From, templates_from}
use Rattle.basic.specs.Tabulated.{inside, tabulated}
use Rattle.files.specs.Grammar.{lowest, closed_template}
use mathlib.Core.Path.{◌≡◌}
use Prim.Native.Nat.{◌-◌}
use Rattle.tabulate.proofs.judge_lists.Given as goal

abbrev pub invariant-loop-end : goal.invariant-loop-end
invariant-loop-end l = (w : ListIn l.s l.end.0)
    → (f : From l.s l.end.0 l.own l.here.0 (inside w.list)) × (lowest closed_template 0 (tabulated w.list) ≡ lowest closed_template l.own (templates_from f))

abbrev pub decreases-loop-end : goal.decreases-loop-end
decreases-loop-end l = 200000 - l.own
