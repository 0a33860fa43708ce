-- `rules::call` meets its contract. Assumes nothing.
use borrow.Author.Tests.{eq-eqb, ne_eqb}
use mathlib.Core.Path.{sym, ◌∙◌}
use native.Mathlib.Omega.{arith}
use Rattle.rules.specs.Rules.{call_rule}
use Rattle.rules.proofs.call.Goals as goal

pub returns-then-r-n : goal.returns-then-r-n
unfolding call_rule
returns-then-r-n c = record { value = rw (ne_eqb c.args.r.sp c.args.n (λ e. omega arith)); fits = λ f. tt }

pub returns-then-tag_of-eq7 : goal.returns-then-tag_of-eq7
unfolding call_rule
returns-then-tag_of-eq7 c =
    record {
      value = rw (
        eq-eqb c.args.r.sp c.args.n (omega arith),
        eq-eqb _ _ (sym c.tag_of.ensures ∙ c.if-tag_of-eq7.true),
        c.closure_template.ensures,
        c.closure_env-env.ensures,
      );
      fits = λ f. omega arith;
    }

pub returns-else-tag_of-eq7 : goal.returns-else-tag_of-eq7
unfolding call_rule
returns-else-tag_of-eq7 c = record { value = rw (eq-eqb c.args.r.sp c.args.n (omega arith), ne_eqb _ _ (λ k. c.if-tag_of-eq7.false (c.tag_of.ensures ∙ k))); fits = λ f. tt }
