-- `unflatten::give` meets its contract: so many bytes are copied. Assumes nothing.
use Prim.Native.Nat.{ℕ}
use mathlib.Core.Path.{ap}
use mathlib.Core.List.{List, ◌++◌}
use lib.ListN.{drop}
use Rattle.unflatten.specs.laws.GrowLaws.{give_long, give_short, give_all}
use Rattle.unflatten.proofs.give.Goals as goal

pub returns-then-n-gt65536 : goal.returns-then-n-gt65536
returns-then-n-gt65536 c =
    let all = give_long c.args.tree.now c.args.out.now c.args.n c.requires c.if-n-gt65536.true in
    record { value = all.0; out_after = all.1 }

pub returns-then-out-n : goal.returns-then-out-n
returns-then-out-n c =
    let all = give_short c.args.tree.now c.args.out.now c.args.n c.requires c.if-n-gt65536.false c.if-out-n.true in
    record { value = all.0; out_after = all.1 }

pub returns : goal.returns
returns c =
    let all = give_all c.args.tree.now c.args.out.now c.args.n c.requires c.if-n-gt65536.false c.if-out-n.false (ap (λ (x : List ℕ). x ++ drop c.args.n c.args.out.now) c.copy_from_slice.ensures.after) in
    record { value = all.0; out_after = all.1 }
