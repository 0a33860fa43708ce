-- `cells::BitPlace::within` meets its contract. Assumes nothing.
use Prim.Native.Nat.{◌+◌, ◌*◌}
use mathlib.Core.Path.{sym}
use native.Mathlib.Omega.{arith}
use borrow.Author.Tests.{le-leb, lt-leb}
use Rattle.cells.proofs.BitPlace.within.Goals as goal

pub returns-then-end-p : goal.returns-then-end-p
returns-then-end-p c = sym (lt-leb (c.args.self.0 + c.args.n) (8 * c.args.bytes) (omega arith))

pub returns-then-end-p-2 : goal.returns-then-end-p-2
returns-then-end-p-2 c = sym (lt-leb (c.args.self.0 + c.args.n) (8 * c.args.bytes) (omega arith))

pub returns : goal.returns
returns c = sym (le-leb (c.args.self.0 + c.args.n) (8 * c.args.bytes) (omega arith))
