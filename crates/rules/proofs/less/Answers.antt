-- `rules::less` meets its contract: the rule goes by the two operands. Assumes nothing.
use mathlib.Core.Path.{ap}
use Rattle.rules.specs.State.{mem, told}
use Rattle.rules.specs.Rules.{compared, less_rule}
use Rattle.rules.proofs.Laws.{passed, two_are, two_wrong}
use Rattle.rules.proofs.less.Goals as goal

pub returns-then-less : goal.returns-then-less
unfolding told less_rule
returns-then-less c =
    λ g t. rw (
      ← two_are compared (mem g c.args.stack.now t) c.args.r _ (c.two_integers.ensures.by_index g t) _ _ c.in_ok-a.was,
      ← c.less.ensures,
      c.if-less.true,
      c.emptied.ensures.value,
      c.emptied.ensures.stack,
    )

pub returns-else-less : goal.returns-else-less
unfolding told less_rule
returns-else-less c =
    λ g t. rw (
      ← two_are compared (mem g c.args.stack.now t) c.args.r _ (c.two_integers.ensures.by_index g t) _ _ c.in_ok-a.was,
      ← c.less.ensures,
      c.if-less.false,
      c.emptied-else-less.ensures.value,
      c.emptied-else-less.ensures.stack,
    )

pub returns-in_err-a : goal.returns-in_err-a
unfolding told less_rule
returns-in_err-a c =
    λ g t. rw (passed _ _ c.from_residual.ensures) (ap (told (mem g c.args.stack.now t))
    (two_wrong compared (mem g c.args.stack.now t) c.args.r _ (c.two_integers.ensures.by_index g t) _ c.in_err-a.was))
