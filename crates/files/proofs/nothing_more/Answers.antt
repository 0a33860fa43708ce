-- `files::nothing_more` meets its contract. Assumes nothing.
use Prim.Native.Nat.{◌*◌}
use mathlib.Core.Path.{sym, ◌∙◌}
use borrow.Author.Tests.{eqb-true, eqb-false}
use lib.ListN.{length}
use Rattle.files.specs.laws.PaddingSteps.{at_end, not_at_end}
use Rattle.files.proofs.nothing_more.Goals as goal

pub returns-then-ends : goal.returns-then-ends
returns-then-ends c = at_end _ _ (eqb-true c.args.at.0 (8 * length c.args.s.now) (sym c.ends.ensures ∙ c.if-ends.true))

pub returns : goal.returns
returns c = not_at_end _ _ (eqb-false c.args.at.0 (8 * length c.args.s.now) (sym c.ends.ensures ∙ c.if-ends.false))
