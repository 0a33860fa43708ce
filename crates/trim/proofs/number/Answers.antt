-- `trim::number` meets its contract. Assumes nothing.
use Rattle.std.proofs.Common.{◌<◌, ◌≤◌, length, take, arith, ◌∙◌}
use Rattle.std.proofs.lemmas.List.{set-get_or}
use Rattle.trim.specs.Kept.{rank}
use Rattle.trim.specs.Standing.{is_marked}
use Rattle.trim.proofs.theorems.MarkLaws.{one_unset, one_set, one_fits, front_length, front_rank, numbering_none, numbering_fits, numbering_on, numbering_front}
use Rattle.trim.proofs.number.Goals as goal
use Rattle.trim.proofs.number.Goals.{then-mark-gt0, else-mark-gt0}

pub loop-mark-init : goal.loop-mark-init
loop-mark-init c = numbering_none _

pub overflow_add-count : goal.overflow_add-count
overflow_add-count c =
    let v = c.loop-mark.invariant in
    let m = front_length c.args.marks.now c.args.n c.requires.0 in
    let few : rank (is_marked (take c.args.n c.args.marks.now)) 0 c.args.n ≤ 255 = rw (front_rank c.args.marks.now c.args.n c.requires.0) c.requires.1 in
    let k = numbering_fits v (omega (arith, v.same)) c.args.n (omega (arith, m, v.same)) few in
    let h = one_fits _ _ _ (omega (arith, c.if-mark-gt0.true)) k in omega arith

pub loop-mark-preserved : goal.loop-mark-preserved
loop-mark-preserved c =
    let v = c.loop-mark.invariant in
    let lt : c.loop-mark.mark-index < length (take c.args.n c.args.marks.now) = omega (arith, v.same) in
    elim c.if-mark-gt0.branch [
      | then-mark-gt0 w ↦ let e = one_set _ _ _ (omega (arith, w.if-mark-gt0.true)) in numbering_on v lt _ _ (w.count-is ∙ e.0) (w.mark-items-is ∙ e.1)
      | else-mark-gt0 w ↦ let e = one_unset _ _ _ (omega (arith, w.if-mark-gt0.false)) in numbering_on v lt _ _ (w.count-is ∙ e.0) (w.mark-items-is ∙ set-get_or _ _ _ ∙ e.1)
    ]

pub returns : goal.returns
returns c = numbering_front _ _ c.requires.0 c.loop-mark.invariant (omega (arith, c.loop-mark-test.false, front_length c.args.marks.now c.args.n c.requires.0)) (omega (arith, c.loop-mark.auto.mark-index-end, front_length c.args.marks.now c.args.n c.requires.0))
