-- `trim::put_marked` meets its contract. Assumes nothing.
use native.Mathlib.Omega.{arith}
use Rattle.trim.proofs.theorems.EntryLaws.{marked_gone, marked_put}
use Rattle.trim.proofs.put_marked.Goals as goal

pub returns-then-mark-lt1 : goal.returns-then-mark-lt1
returns-then-mark-lt1 c = record { short = omega arith; put_more = λ w. marked_gone _ _ _ _ _ c.if-mark-lt1.true }

pub returns : goal.returns
returns c =
    let pre = c.requires in
    let d = c.put_entry.ensures in
    record { short = omega (arith, d.place_after); put_more = λ w. marked_put _ _ _ _ _ _ _ _ c.if-mark-lt1.false pre.room w.size_is (d.out_after w) d.place_after }
