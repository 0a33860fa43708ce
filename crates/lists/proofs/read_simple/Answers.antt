-- `lists::read_simple` meets its contract. Assumes nothing.
use Prim.Native.Nat.{◌+◌, ◌*◌, ◌-◌, ◌≤◌, ◌<◌}
use native.Mathlib.Omega.{arith}
use mathlib.Core.Path.{◌≡◌, sym, ◌∙◌}
use borrow.Author.Tests.{leb-true, leb-false}
use lib.ListN.{length}
use Rattle.lists.specs.laws.ReadLaws.{line_first_cut, line_second_cut, line_whole}
use Rattle.lists.proofs.read_simple.Goals as goal

pub returns-then-within : goal.returns-then-within
returns-then-within c =
    let pre = c.requires in
    let fits : c.args.at.0 + (5 + 8 * c.args.operands) ≤ 8 * length c.args.s.now = leb-true _ _ (sym c.within.ensures ∙ c.if-within.true) in
    let count : 1 + c.args.operands - 1 ≡ c.args.operands = omega arith in
    line_whole _ _ _ _ _ _ pre.3 pre.5 _ (omega (arith, c.past.ensures)) (omega arith) (omega (arith, pre.6)) (omega (arith, fits)) _
    (rw count c.simple_added-added.ensures)

pub returns-then-within-2 : goal.returns-then-within-2
returns-then-within-2 c =
    let pre = c.requires in
    let cut : 8 * length c.args.s.now < c.args.at.0 + (5 + 8 * c.args.operands) = leb-false _ _ (sym c.within.ensures ∙ c.if-within.false) in
    let first : c.args.at.0 + 13 ≤ 8 * length c.args.s.now = leb-true _ _ (sym c.within-2.ensures ∙ c.if-within-2.true) in
    line_second_cut _ _ _ _ _ _ pre.3 pre.5 _ c.past-then-within-2.ensures (omega (arith, pre.6)) first (omega (arith, pre.6))

pub returns : goal.returns
returns c =
    let pre = c.requires in
    let cut : 8 * length c.args.s.now < c.args.at.0 + (5 + 8 * c.args.operands) = leb-false _ _ (sym c.within.ensures ∙ c.if-within.false) in
    let first : 8 * length c.args.s.now < c.args.at.0 + 13 = leb-false _ _ (sym c.within-2.ensures ∙ c.if-within-2.false) in
    line_first_cut _ _ _ _ _ _ pre.3 pre.5 _ c.past-2.ensures (omega (arith, pre.4)) (omega (arith, pre.6)) first
