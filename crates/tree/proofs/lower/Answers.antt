-- `tree::lower` meets its contract. Assumes nothing.
use mathlib.Core.Path.{refl}
use native.Mathlib.Omega.{arith}
use borrow.Author.Tests.{lt-ltb, le-ltb}
use Rattle.tree.specs.Summary.{lower}
use Rattle.tree.proofs.lower.Goals as goal

pub returns-then-ok : goal.returns-then-ok
unfolding lower
returns-then-ok c = rw c.if-ok.true refl

pub returns-then-low-lt64 : goal.returns-then-low-lt64
unfolding lower
returns-then-low-lt64 c = rw (c.if-ok.false, lt-ltb c.args.low 64 (omega (arith, c.if-low-lt64.true))) refl

pub returns : goal.returns
unfolding lower
returns c = rw (c.if-ok.false, le-ltb c.args.low 64 (omega (arith, c.if-low-lt64.false))) refl
