-- `rewrite::new_operand` meets its contract. Assumes nothing.
use borrow.Author.Tests.{lt-ltb, le-ltb}
use Rattle.rewrite.specs.Tokens.{new_operand, index_in}
use Rattle.rewrite.proofs.new_operand.Goals as goal

pub returns-then-code-lt6 : goal.returns-then-code-lt6
unfolding new_operand
returns-then-code-lt6 c = (rw (lt-ltb _ 6 c.if-code-lt6.true), c.requires)

pub returns-then-code-gt9 : goal.returns-then-code-gt9
unfolding new_operand
returns-then-code-gt9 c = (rw (le-ltb _ 6 c.if-code-lt6.false, lt-ltb 9 _ c.if-code-gt9.true), c.requires)

pub returns : goal.returns
unfolding new_operand index_in
returns c = (rw (le-ltb _ 6 c.if-code-lt6.false, le-ltb 9 _ c.if-code-gt9.false), search)
