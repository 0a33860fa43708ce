-- `trim::put_entries` meets its contract. The loop's invariant: the entries from n on, at `here`, are left. Assumes nothing.
use Rattle.std.proofs.Common.{◌≤◌, ◌+◌, length}
use native.Mathlib.Omega.{arith}
use mathlib.Core.Path.{refl}
use Rattle.trim.proofs.theorems.EntryLaws.{marks_more, marks_mark, marks_end, entering_none, entering_first, entering_size, entering_room, entering_on, entering_all, entry_inside}
use Rattle.trim.proofs.put_entries.Goals as goal

pub loop-mark-init : goal.loop-mark-init
loop-mark-init c = λ w. entering_none _ _ _ _ w

pub entry_size-size-requires : goal.entry_size-size-requires
entry_size-size-requires c =
    let p = c.requires in
    let v = c.loop-mark.invariant in
    let r = v p.entries_in in
    let m = marks_more c.args.row.now c.args.count c.loop-mark.mark-index c.told-row p.sizes.1 c.loop-mark-test.true in
    let l : c.loop-mark.mark-index + 1 ≤ length p.entries_in.entries = omega (arith, m, p.entries_in.count_is) in let i = entry_inside (entering_first r l) _ refl in (p.sizes.0, omega (arith, i))

pub put_marked-there-requires : goal.put_marked-there-requires
put_marked-there-requires c =
    let p = c.requires in
    let v = c.loop-mark.invariant in
    let r = v p.entries_in in
    let m = marks_more c.args.row.now c.args.count c.loop-mark.mark-index c.told-row p.sizes.1 c.loop-mark-test.true in
    let l : c.loop-mark.mark-index + 1 ≤ length p.entries_in.entries = omega (arith, m, p.entries_in.count_is) in
    let z = c.entry_size-size.ensures _ (entering_first r l) in
    let i = entry_inside (entering_first r l) _ refl in
    record { size = p.sizes.0; room = (let o = entering_room r l _ z in omega (arith, o, p.entries_in.fits)); entry_in = entering_size r l _ z }

pub past-here-requires : goal.past-here-requires
past-here-requires c =
    let p = c.requires in
    let v = c.loop-mark.invariant in
    let r = v p.entries_in in
    let m = marks_more c.args.row.now c.args.count c.loop-mark.mark-index c.told-row p.sizes.1 c.loop-mark-test.true in
    let l : c.loop-mark.mark-index + 1 ≤ length p.entries_in.entries = omega (arith, m, p.entries_in.count_is) in
    let z = c.entry_size-size.ensures _ (entering_first r l) in
    let i = entry_inside (entering_first r l) _ refl in omega (arith, z, i, p.sizes.0)

pub loop-mark-preserved : goal.loop-mark-preserved
loop-mark-preserved c =
    let p = c.requires in
    let v = c.loop-mark.invariant in
    let r = v p.entries_in in
    let m = marks_more c.args.row.now c.args.count c.loop-mark.mark-index c.told-row p.sizes.1 c.loop-mark-test.true in
    let l : c.loop-mark.mark-index + 1 ≤ length p.entries_in.entries = omega (arith, m, p.entries_in.count_is) in
    let z = c.entry_size-size.ensures _ (entering_first r l) in
    let i = entry_inside (entering_first r l) _ refl in
    let d = c.put_marked-there.ensures in
    λ w. let q = v w in let n : c.loop-mark.mark-index + 1 ≤ length w.entries = omega (arith, m, w.count_is) in let y = c.entry_size-size.ensures _ (entering_first q n) in
    let more = rw (marks_mark c.args.row.now c.args.count c.loop-mark.mark-index c.told-row p.sizes.1 c.loop-mark-test.true) at (d.put_more (entering_size q n _ y)) in
    rw c.past-here.ensures (entering_on q n _ y _ _ d.short more)

pub returns : goal.returns
returns c =
    let p = c.requires.sizes in
    let m = marks_end c.args.row.now c.args.count c.loop-mark.mark-index c.told-row p.1 c.loop-mark-test.false in
    λ w. entering_all (c.loop-mark.invariant w) (omega (arith, w.count_is, m))
