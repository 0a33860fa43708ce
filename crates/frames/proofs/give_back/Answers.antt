-- `frames::give_back` meets its contract. Assumes nothing.
use borrow.Author.Tests.{eq-eqb, ne_eqb}
use native.Mathlib.Omega.{arith}
use Rattle.rules.specs.Rules.{return_rule}
use Rattle.frames.specs.Ends.{told_back}
use Rattle.frames.proofs.give_back.Goals as goal

pub returns-then-fr-eq0 : goal.returns-then-fr-eq0
unfolding told_back return_rule
returns-then-fr-eq0 c = record { by_index = (λ g s. rw (eq-eqb _ _ c.if-fr-eq0.true)); fits = tt }

pub returns : goal.returns
unfolding told_back return_rule
returns c =
    let pre = c.requires in
    record { by_index = (λ g s. rw (ne_eqb _ _ c.if-fr-eq0.false, c.clear-2.ensures, c.copy_up.ensures, c.clear.ensures, c.frame_env-env.ensures, c.minus-base.ensures, c.frame_count-n.ensures)); fits = omega (arith, c.frame_count-n.ensures, c.minus-base.ensures, pre) }
