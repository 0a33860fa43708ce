-- `tabulate::measure` meets its contract: template after template. Assumes nothing.
use Rattle.tabulate.specs.laws.JudgeLaws.{own_list, told_none, next_as, collected_as}
use Rattle.tabulate.specs.laws.JudgeLaws.{measure_begin, measure_large, collected_few, measure_end, measure_next, from_walk, from_low, from_read}
use Rattle.tabulate.specs.laws.CollectLaws.{own_list_bound}
use Rattle.tabulate.specs.laws.SlotLaws.{take_length}
use Rattle.tabulate.specs.laws.WalkLaws.{ok_some, ok_none}
use Rattle.basic.specs.laws.StepLaws.{list_was}
use native.Mathlib.Omega.{arith}
use Rattle.tabulate.proofs.measure.Goals as goal

pub loop-past-init : goal.loop-past-init
loop-past-init c = (λ w. measure_begin w.whole, omega arith, omega arith)

pub returns-in_err-past : goal.returns-in_err-past
returns-in_err-past c =
    λ w. let k = c.loop-past.invariant.0 w in let r = from_read k.from in told_none _ _ _
    (ok_none c.ok.ensures.value c.in_err-past.was).1 c.read_list.ensures _ _ r.1

pub collect-requires : goal.collect-requires
collect-requires c =
    let pre = c.requires in
    let w = pre.1 in
    (pre.0, (own_list (c.loop-past.invariant.0 w).from w.few _ _ (list_was _ _ _ c.read_list.ensures (ok_some c.ok.ensures.value c.in_ok-past.was))))

pub returns-in_err-count : goal.returns-in_err-count
unfolding own_list
returns-in_err-count c =
    λ w. rw c.from_residual-in_err-count.ensures (measure_large (c.loop-past.invariant.0 w) _ (collected_as c.in_err-count.was
    (c.collect.ensures (own_list (c.loop-past.invariant.0 w).from w.few _ _ (list_was _ _ _ c.read_list.ensures (ok_some c.ok.ensures.value c.in_ok-past.was))))))

pub shared_ref_as_front-entries_bits : goal.shared_ref_as_front-entries_bits
unfolding own_list
shared_ref_as_front-entries_bits c =
    let pre = c.requires in
    let w = pre.1 in
    let f = collected_few (c.loop-past.invariant.0 w) _ _ _
    (collected_as c.in_ok-count.was
    (c.collect.ensures (own_list (c.loop-past.invariant.0 w).from w.few _ _ (list_was _ _ _ c.read_list.ensures (ok_some c.ok.ensures.value c.in_ok-past.was))))) in
    omega (arith, f.0)

pub entries_bits-requires : goal.entries_bits-requires
unfolding own_list
entries_bits-requires c =
    let pre = c.requires in
    let w = pre.1 in
    let f = collected_few (c.loop-past.invariant.0 w) _ _ _
    (collected_as c.in_ok-count.was
    (c.collect.ensures (own_list (c.loop-past.invariant.0 w).from w.few _ _ (list_was _ _ _ c.read_list.ensures (ok_some c.ok.ensures.value c.in_ok-past.was))))) in
    let t = take_length c.in_ok-count.count c.collect.new.table (omega (arith, f.0)) in
    omega (arith, f.0, t)

pub overflow_add-bits : goal.overflow_add-bits
unfolding own_list
overflow_add-bits c =
    let pre = c.requires in
    let w = pre.1 in
    let f = collected_few (c.loop-past.invariant.0 w) _ _ _
    (collected_as c.in_ok-count.was (c.collect.ensures
    (own_list (c.loop-past.invariant.0 w).from w.few _ _ (list_was _ _ _ c.read_list.ensures (ok_some c.ok.ensures.value c.in_ok-past.was))))) in
    let b = own_list_bound pre.0 (own_list (c.loop-past.invariant.0 w).from w.few _ _ (list_was _ _ _ c.read_list.ensures (ok_some c.ok.ensures.value c.in_ok-past.was))) in
    let t = take_length c.in_ok-count.count c.collect.new.table (omega (arith, f.0)) in
    omega (arith, f.0, f.1, b.0, c.entries_bits.ensures.upper_bound, t, c.loop-past.invariant.1, c.loop-past.invariant.2)

pub overflow_add-bits-in-loop-past : goal.overflow_add-bits-in-loop-past
unfolding own_list
overflow_add-bits-in-loop-past c =
    let pre = c.requires in
    let w = pre.1 in
    let f = collected_few (c.loop-past.invariant.0 w) _ _ _
    (collected_as c.in_ok-count.was (c.collect.ensures
    (own_list (c.loop-past.invariant.0 w).from w.few _ _ (list_was _ _ _ c.read_list.ensures (ok_some c.ok.ensures.value c.in_ok-past.was))))) in
    let b = own_list_bound pre.0 (own_list (c.loop-past.invariant.0 w).from w.few _ _ (list_was _ _ _ c.read_list.ensures (ok_some c.ok.ensures.value c.in_ok-past.was))) in
    let t = take_length c.in_ok-count.count c.collect.new.table (omega (arith, f.0)) in
    omega (arith, f.0, f.1, b.0, c.entries_bits.ensures.upper_bound, t, c.loop-past.invariant.1, c.loop-past.invariant.2)

pub overflow_add-bits-in-loop-past-2 : goal.overflow_add-bits-in-loop-past-2
unfolding own_list
overflow_add-bits-in-loop-past-2 c =
    let pre = c.requires in
    let w = pre.1 in
    let f = collected_few (c.loop-past.invariant.0 w) _ _ _
    (collected_as c.in_ok-count.was (c.collect.ensures
    (own_list (c.loop-past.invariant.0 w).from w.few _ _ (list_was _ _ _ c.read_list.ensures (ok_some c.ok.ensures.value c.in_ok-past.was))))) in
    let b = own_list_bound pre.0 (own_list (c.loop-past.invariant.0 w).from w.few _ _ (list_was _ _ _ c.read_list.ensures (ok_some c.ok.ensures.value c.in_ok-past.was))) in
    let t = take_length c.in_ok-count.count c.collect.new.table (omega (arith, f.0)) in
    omega (arith, f.0, f.1, b.0, c.entries_bits.ensures.upper_bound, t, c.loop-past.invariant.1, c.loop-past.invariant.2)

pub next_closure-requires : goal.next_closure-requires
next_closure-requires c =
    let pre = c.requires in
    (omega (arith, pre.0), from_walk (c.loop-past.invariant.0 pre.1).from)

pub returns-in_default : goal.returns-in_default
unfolding own_list
returns-in_default c =
    let pre = c.requires in
    λ w. let k = c.loop-past.invariant.0 w in let f = collected_few k _ _ _
    (collected_as c.in_ok-count.was (c.collect.ensures
    (own_list (c.loop-past.invariant.0 w).from w.few _ _ (list_was _ _ _ c.read_list.ensures (ok_some c.ok.ensures.value c.in_ok-past.was))))) in let b = own_list_bound pre.0
    (own_list (c.loop-past.invariant.0 w).from w.few _ _ (list_was _ _ _ c.read_list.ensures (ok_some c.ok.ensures.value c.in_ok-past.was))) in measure_end k _ _ _
    (collected_as c.in_ok-count.was (c.collect.ensures
    (own_list (c.loop-past.invariant.0 w).from w.few _ _ (list_was _ _ _ c.read_list.ensures (ok_some c.ok.ensures.value c.in_ok-past.was))))) _ c.entries_bits.ensures.value
    (omega (arith, f.0, f.1, b.0, c.entries_bits.ensures.upper_bound, take_length c.in_ok-count.count c.collect.new.table (omega (arith, f.0)), c.loop-past.invariant.1, c.loop-past.invariant.2))
    (next_as c.in_default.is (c.next_closure.ensures (from_walk k.from) _))

pub loop-past-preserved : goal.loop-past-preserved
unfolding own_list
loop-past-preserved c =
    let pre = c.requires in
    let w₀ = pre.1 in
    let f = collected_few (c.loop-past.invariant.0 w₀) _ _ _
    (collected_as c.in_ok-count.was (c.collect.ensures
    (own_list (c.loop-past.invariant.0 w₀).from w₀.few _ _ (list_was _ _ _ c.read_list.ensures (ok_some c.ok.ensures.value c.in_ok-past.was))))) in
    let b = own_list_bound pre.0 (own_list (c.loop-past.invariant.0 w₀).from w₀.few _ _ (list_was _ _ _ c.read_list.ensures (ok_some c.ok.ensures.value c.in_ok-past.was))) in
    let n = measure_next (c.loop-past.invariant.0 w₀) _ _ _
    (collected_as c.in_ok-count.was (c.collect.ensures
    (own_list (c.loop-past.invariant.0 w₀).from w₀.few _ _ (list_was _ _ _ c.read_list.ensures (ok_some c.ok.ensures.value c.in_ok-past.was))))) _ c.entries_bits.ensures.value _
    (next_as c.in-Some.is (c.next_closure.ensures (from_walk (c.loop-past.invariant.0 w₀).from) _)) in
    let t = take_length c.in_ok-count.count c.collect.new.table (omega (arith, f.0)) in
    let l = from_low n.from in (
      λ w. measure_next (c.loop-past.invariant.0 w) _ _ _
          (collected_as c.in_ok-count.was (c.collect.ensures
          (own_list (c.loop-past.invariant.0 w).from w.few _ _ (list_was _ _ _ c.read_list.ensures (ok_some c.ok.ensures.value c.in_ok-past.was))))) _ c.entries_bits.ensures.value _
          (next_as c.in-Some.is (c.next_closure.ensures (from_walk (c.loop-past.invariant.0 w).from) _)),
      let t = take_length c.in_ok-count.count c.collect.new.table (omega (arith, f.0)) in
          omega (arith, f.0, f.1, b.0, c.entries_bits.ensures.upper_bound, t, c.loop-past.invariant.1),
      omega (arith, l.0, w₀.few),
    )
