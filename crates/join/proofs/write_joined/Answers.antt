-- `join::write_joined` meets its contract: entries, and then lists. Assumes nothing.
use native.Mathlib.Omega.{arith}
use mathlib.Core.Path.{ap, ◌∙◌}
use lib.ListN.{length}
use Rattle.bit_writer.proofs.theorems.Laws.{put_length}
use Prim.Native.Nat.{◌+◌}
use Rattle.join.specs.laws.PutLaws.{both_put}
use Rattle.join.proofs.write_joined.Goals as goal

pub put_lists-requires : goal.put_lists-requires
put_lists-requires c =
    let p = c.requires in
    let x = p.joint_in in
    let y = p.file_in in
    let r = p.room in
    let e = c.put_entries-at.ensures in
    let m = ap length e.out_after ∙ put_length _ _ _ in
    record { sizes = (p.sizes.0, p.sizes.1, omega (arith, m, p.sizes.2)); joint_in = (x.1, x.2, x.3); file_in = (y.1, y.2, y.3); room = omega (arith, m, e.place_after, x, y, r); tokens_at = p.tokens_at }

pub returns : goal.returns
returns c =
    let p = c.requires in
    let x = p.joint_in in
    let y = p.file_in in
    let e = c.put_entries-at.ensures in
    λ w. both_put c.args.a.now c.args.b.now c.args.out.now _ _ _ c.args.x.start.0 c.args.y.start.0 c.args.count (c.args.x.entries + c.args.y.entries) _ x.0 y.0
    (omega (arith, x, y, p.entries_few, p.room)) e.out_after e.place_after (c.put_lists.ensures w)
