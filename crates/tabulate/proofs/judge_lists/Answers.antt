-- `tabulate::judge_lists` meets its contract: template after template. Assumes nothing.
use Rattle.tabulate.specs.laws.JudgeLaws.{from_first, from_first_all, from_walk, from_low, number_small, judge_end, judge_next, judge_but, next_as}
use Rattle.files.specs.Grammar.{lowest, closed_template}
use mathlib.Core.Path.{ap}
use native.Mathlib.Omega.{arith}
use Rattle.tabulate.proofs.judge_lists.Goals as goal

pub loop-end-init : goal.loop-end-init
loop-end-init c = λ w. (from_first w, ap (lowest closed_template 0) (from_first_all w))

pub next_closure-requires : goal.next_closure-requires
next_closure-requires c =
    let pre = c.requires in
    (omega (arith, pre.0), from_walk (c.loop-end.invariant pre.1).0)

pub overflow_add-result : goal.overflow_add-result
overflow_add-result c =
    let pre = c.requires in
    let w = pre.1 in
    omega (arith, number_small pre.0 w, (from_low (c.loop-end.invariant w).0).0)

pub returns-in_default : goal.returns-in_default
returns-in_default c =
    λ w. let k = c.loop-end.invariant w in judge_end w.list k.0 k.1 _ c.is_closed.ensures c.if-not-is_closed.false
    (next_as c.in_default.is (c.next_closure.ensures (from_walk k.0) _))

pub overflow_add-own : goal.overflow_add-own
overflow_add-own c =
    let pre = c.requires in
    let w = pre.1 in
    omega (arith, number_small pre.0 w, (from_low (c.loop-end.invariant w).0).0)

pub loop-end-smaller : goal.loop-end-smaller
loop-end-smaller c =
    let pre = c.requires in
    let w = pre.1 in
    omega (arith, number_small pre.0 w, (from_low (c.loop-end.invariant w).0).0)

pub loop-end-preserved : goal.loop-end-preserved
loop-end-preserved c =
    λ w. let k = c.loop-end.invariant w in judge_next w.list k.0 k.1 _ c.is_closed.ensures c.if-not-is_closed.false _
    (next_as c.in-Some.is (c.next_closure.ensures (from_walk k.0) _))

pub returns-then-not-is_closed : goal.returns-then-not-is_closed
returns-then-not-is_closed c = λ w. let k = c.loop-end.invariant w in judge_but w.list k.0 k.1 _ c.is_closed.ensures c.if-not-is_closed.true
