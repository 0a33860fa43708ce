-- `emit::write_simple` meets its contract: by how many operands there are. Assumes nothing.
use native.Mathlib.Omega.{arith}
use Rattle.emit.specs.laws.Stores.{none_written, one_written, two_written}
use Rattle.emit.proofs.write_simple.Goals as goal

pub returns-then-n-eq0 : goal.returns-then-n-eq0
returns-then-n-eq0 c = none_written c.args.line c.args.n c.args.front c.args.out.now c.if-n-eq0.true

pub returns-then-n-eq2 : goal.returns-then-n-eq2
returns-then-n-eq2 c = two_written c.args.line c.args.n c.args.front c.args.out.now c.if-n-eq2.true

pub returns-else-n-eq2 : goal.returns-else-n-eq2
returns-else-n-eq2 c =
    let n = c.if-n-eq0.false in
    let m = c.if-n-eq2.false in
    one_written c.args.line c.args.n c.args.front c.args.out.now (omega arith)
