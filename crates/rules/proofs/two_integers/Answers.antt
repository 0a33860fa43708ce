-- `rules::two_integers` meets its contract: by its tests, in their order. Assumes nothing.
use native.Mathlib.Omega.{arith}
use mathlib.Core.Path.{sym, ◌∙◌}
use Rattle.rules.specs.State.{mem}
use Rattle.rules.proofs.Laws.{operands_count, operands_left, operands_right, operands_two}
use Rattle.rules.proofs.two_integers.Goals as goal

pub returns-then-sp-ne2 : goal.returns-then-sp-ne2
returns-then-sp-ne2 c = record { by_index = λ g t. operands_count (mem g c.args.stack.now t) c.args.r (λ e. omega (arith, e, c.if-sp-ne2.true)); fits = tt }

pub returns-then-tag_of-ne6 : goal.returns-then-tag_of-ne6
returns-then-tag_of-ne6 c = record { by_index = λ g t. operands_left (mem g c.args.stack.now t) c.args.r c.if-sp-ne2.false (λ k. c.if-tag_of-ne6.true (c.tag_of.ensures ∙ k)); fits = tt }

pub returns-then-tag_of-ne6-2 : goal.returns-then-tag_of-ne6-2
returns-then-tag_of-ne6-2 c =
    record {
      by_index = λ g t. operands_right (mem g c.args.stack.now t) c.args.r c.if-sp-ne2.false (sym c.tag_of.ensures ∙ c.if-tag_of-ne6.false)
          (λ k. c.if-tag_of-ne6-2.true (c.tag_of-2.ensures ∙ k));
      fits = tt;
    }

pub returns : goal.returns
returns c =
    record {
      by_index = λ g t. rw (c.int_of.ensures, c.int_of-2.ensures)
          (operands_two (mem g c.args.stack.now t) c.args.r c.if-sp-ne2.false (sym c.tag_of.ensures ∙ c.if-tag_of-ne6.false)
          (sym c.tag_of-2.ensures ∙ c.if-tag_of-ne6-2.false));
      fits = (omega (arith, c.int_of.ensures), omega (arith, c.int_of-2.ensures));
    }
