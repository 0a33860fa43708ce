-- `lists::conditional_kind` meets its contract. Assumes nothing.
use Rattle.lists.specs.Pass.{conditional_kind}
use mathlib.Core.Path.{refl, sym, ◌∙◌}
use Rattle.lists.proofs.conditional_kind.Goals as goal

pub returns-then-both : goal.returns-then-both
unfolding conditional_kind
returns-then-both c = rw (← c.is_open.ensures, ← c.is_open-2.ensures, sym c.both.ensures ∙ c.if-both.true) refl

pub returns-then-both-2 : goal.returns-then-both-2
unfolding conditional_kind
returns-then-both-2 c =
    rw (← c.is_open.ensures, ← c.is_open-2.ensures, sym c.both.ensures ∙ c.if-both.false, ← c.is_closed.ensures, ← c.is_closed-2.ensures, sym c.both-2.ensures ∙ c.if-both-2.true) refl

pub returns : goal.returns
unfolding conditional_kind
returns c =
    rw (← c.is_open.ensures, ← c.is_open-2.ensures, sym c.both.ensures ∙ c.if-both.false, ← c.is_closed.ensures, ← c.is_closed-2.ensures, sym c.both-2.ensures ∙ c.if-both-2.false) refl
