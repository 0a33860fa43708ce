-- `rules::check_args` meets its contract. Assumes nothing.
use borrow.Author.Tests.{eq-eqb, ne_eqb}
use native.Mathlib.Omega.{arith}
use Rattle.rules.specs.Rules.{check_args_rule}
use Rattle.rules.specs.State.{told}
use Rattle.rules.proofs.check_args.Goals as goal

pub returns-then-r-n : goal.returns-then-r-n
unfolding told check_args_rule
returns-then-r-n c = λ m. rw (eq-eqb c.args.r.sp c.args.n (omega arith))

pub returns-else-r-n : goal.returns-else-r-n
unfolding told check_args_rule
returns-else-r-n c = λ m. rw (ne_eqb c.args.r.sp c.args.n (λ e. omega arith))
