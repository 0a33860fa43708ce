-- `tabulate::put_code` meets its contract: code by code; what is put and what is left come to the list's bits. Assumes nothing.
use Rattle.tabulate.specs.laws.CodeLaws.{coding_end}
use Rattle.tabulate.specs.laws.CodeLaws.{coding_begin, code_copy_room, code_copy, entry_ready, code_entry, closure_ready, closure_past, code_closure}
use Rattle.tabulate.specs.laws.WalkLaws.{step_as, entry_far, closure_read}
use Rattle.tabulate.specs.laws.SlotLaws.{take_length}
use Rattle.lists.specs.declared.Class.TheVariants.{Empty}
use Rattle.basic.specs.laws.StepLaws.{list_was}
use Rattle.basic.specs.laws.ReadLaws.{list_facts}
use borrow.Author.Tests.{ltb-true, ltb-false}
use mathlib.Core.Path.{refl, sym, ◌∙◌}
use native.Mathlib.Omega.{arith}
use Rattle.tabulate.proofs.put_code.Goals as goal

pub loop-end-init : goal.loop-end-init
loop-end-init c = (refl, λ w. coding_begin w)

pub since-requires : goal.since-requires
since-requires c =
    let w = c.requires.3 in
    let k = c.loop-end.invariant.1 w in
    let h = ltb-true _ _ (sym c.before-in-loop-end.ensures ∙ c.loop-end-test.true) in
    let f = code_copy_room k _ (step_as c.in-Some.is c.in-Copy.is (c.step_at.ensures _ _ h k.stand)) in omega (arith, f.1)

pub copy_bits-past-requires : goal.copy_bits-past-requires
copy_bits-past-requires c =
    let pre = c.requires in
    let w = pre.3 in
    let k = c.loop-end.invariant.1 w in
    let h = ltb-true _ _ (sym c.before-in-loop-end.ensures ∙ c.loop-end-test.true) in
    let f = code_copy_room k _ (step_as c.in-Some.is c.in-Copy.is (c.step_at.ensures _ _ h k.stand)) in
    let g = list_facts _ 15 _ w.own.read in
    (omega (arith, pre.0), omega (arith, pre.2, c.loop-end.invariant.0), omega (arith, f.1, f.2, g.1, c.since.ensures), omega (arith, f.0, c.since.ensures))

pub loop-end-smaller-in-Copy : goal.loop-end-smaller-in-Copy
loop-end-smaller-in-Copy c =
    let pre = c.requires in
    let w = pre.3 in
    let k = c.loop-end.invariant.1 w in
    let h = ltb-true _ _ (sym c.before-in-loop-end.ensures ∙ c.loop-end-test.true) in
    let f = code_copy_room k _ (step_as c.in-Some.is c.in-Copy.is (c.step_at.ensures _ _ h k.stand)) in
    omega (arith, f.1, f.2)

pub loop-end-preserved-in-Copy : goal.loop-end-preserved-in-Copy
loop-end-preserved-in-Copy c =
    let pre = c.requires in (
      (let w = pre.3 in let k = c.loop-end.invariant.1 w in let h = ltb-true _ _ (sym c.before-in-loop-end.ensures ∙ c.loop-end-test.true) in code_copy k _ _
          (step_as c.in-Some.is c.in-Copy.is (c.step_at.ensures _ _ h k.stand)) c.since.ensures c.copy_bits-past.ensures.0 c.copy_bits-past.ensures.1).put.long,
      λ w. let k = c.loop-end.invariant.1 w in let h = ltb-true _ _ (sym c.before-in-loop-end.ensures ∙ c.loop-end-test.true) in code_copy k _ _
          (step_as c.in-Some.is c.in-Copy.is (c.step_at.ensures _ _ h k.stand)) c.since.ensures c.copy_bits-past.ensures.0 c.copy_bits-past.ensures.1,
    )

pub put_index-past-requires : goal.put_index-past-requires
put_index-past-requires c =
    let pre = c.requires in
    let w = pre.3 in
    let k = c.loop-end.invariant.1 w in
    let h = ltb-true _ _ (sym c.before-in-loop-end.ensures ∙ c.loop-end-test.true) in
    let f = entry_ready k w.held _ _ _ (step_as c.in-Some.is c.in-Entry.is (c.step_at.ensures _ _ h k.stand)) in
    let t = take_length c.args.count c.args.table.now (omega (arith, pre.1)) in
    (omega (arith, t, pre.1), omega (arith, pre.2, c.loop-end.invariant.0), omega (arith, f.0, t), f.1, f.2)

pub loop-end-smaller-in-Entry : goal.loop-end-smaller-in-Entry
loop-end-smaller-in-Entry c =
    let pre = c.requires in
    let w = pre.3 in
    let k = c.loop-end.invariant.1 w in
    let h = ltb-true _ _ (sym c.before-in-loop-end.ensures ∙ c.loop-end-test.true) in
    let f = entry_far _ _ _ (step_as c.in-Some.is c.in-Entry.is (c.step_at.ensures _ _ h k.stand)) in
    omega (arith, f.0, f.1)

pub loop-end-preserved-in-Entry : goal.loop-end-preserved-in-Entry
loop-end-preserved-in-Entry c =
    let pre = c.requires in (
      (let w = pre.3 in let k = c.loop-end.invariant.1 w in let h = ltb-true _ _ (sym c.before-in-loop-end.ensures ∙ c.loop-end-test.true) in code_entry k w.held _ _ _
          (step_as c.in-Some.is c.in-Entry.is (c.step_at.ensures _ _ h k.stand)) c.put_index-past.ensures).put.long,
      λ w. let k = c.loop-end.invariant.1 w in let h = ltb-true _ _ (sym c.before-in-loop-end.ensures ∙ c.loop-end-test.true) in code_entry k w.held _ _ _
          (step_as c.in-Some.is c.in-Entry.is (c.step_at.ensures _ _ h k.stand)) c.put_index-past.ensures,
    )

pub shape_of-out-in_default-read_list : goal.shape_of-out-in_default-read_list
shape_of-out-in_default-read_list c = c.loop-end.invariant.0

pub returns-in_default-read_list : goal.returns-in_default-read_list
returns-in_default-read_list c =
    λ w. let k = c.loop-end.invariant.1 w in let h = ltb-true _ _ (sym c.before-in-loop-end.ensures ∙ c.loop-end-test.true) in closure_read _ _
    (step_as c.in-Some.is c.in-Closure.is (c.step_at.ensures _ _ h k.stand)) c.in_default-read_list.is c.read_list.ensures

pub overflow_add-next : goal.overflow_add-next
overflow_add-next c =
    let pre = c.requires in
    let w = pre.3 in
    let k = c.loop-end.invariant.1 w in
    let h = ltb-true _ _ (sym c.before-in-loop-end.ensures ∙ c.loop-end-test.true) in
    let f = closure_ready k w.held _ (record { 0 = 0 }) (record { class = Empty; inside = 0 }) w.own.few _ refl
    (step_as c.in-Some.is c.in-Closure.is (c.step_at.ensures _ _ h k.stand)) in
    omega (arith, f.2)

pub put_index-past-requires-in-Closure : goal.put_index-past-requires-in-Closure
put_index-past-requires-in-Closure c =
    let pre = c.requires in
    let w = pre.3 in
    let k = c.loop-end.invariant.1 w in
    let h = ltb-true _ _ (sym c.before-in-loop-end.ensures ∙ c.loop-end-test.true) in
    let f = closure_ready k w.held _ (record { 0 = 0 }) (record { class = Empty; inside = 0 }) w.own.few _ refl
    (step_as c.in-Some.is c.in-Closure.is (c.step_at.ensures _ _ h k.stand)) in
    let t = take_length c.args.count c.args.table.now (omega (arith, pre.1)) in
    (omega (arith, t, pre.1), omega (arith, pre.2, c.loop-end.invariant.0), omega (arith, f.0, t), omega arith, f.1)

pub overflow_add-next-in-Closure : goal.overflow_add-next-in-Closure
overflow_add-next-in-Closure c =
    let pre = c.requires in
    let w = pre.3 in
    let k = c.loop-end.invariant.1 w in
    let h = ltb-true _ _ (sym c.before-in-loop-end.ensures ∙ c.loop-end-test.true) in
    let f = closure_ready k w.held _ (record { 0 = 0 }) (record { class = Empty; inside = 0 }) w.own.few _ refl
    (step_as c.in-Some.is c.in-Closure.is (c.step_at.ensures _ _ h k.stand)) in
    omega (arith, f.2)

pub overflow_add-next-in-Closure-2 : goal.overflow_add-next-in-Closure-2
overflow_add-next-in-Closure-2 c =
    let pre = c.requires in
    let w = pre.3 in
    let k = c.loop-end.invariant.1 w in
    let h = ltb-true _ _ (sym c.before-in-loop-end.ensures ∙ c.loop-end-test.true) in
    let f = closure_ready k w.held _ (record { 0 = 0 }) (record { class = Empty; inside = 0 }) w.own.few _ refl
    (step_as c.in-Some.is c.in-Closure.is (c.step_at.ensures _ _ h k.stand)) in
    let g = closure_past k w.held _ _ _ w.own.few _ refl (list_was _ _ _ c.read_list.ensures c.in-Ok.is)
    (step_as c.in-Some.is c.in-Closure.is (c.step_at.ensures _ _ h k.stand)) in
    omega (arith, f.2, g.2)

pub loop-end-smaller : goal.loop-end-smaller
loop-end-smaller c =
    let pre = c.requires in
    let w = pre.3 in
    let k = c.loop-end.invariant.1 w in
    let h = ltb-true _ _ (sym c.before-in-loop-end.ensures ∙ c.loop-end-test.true) in
    let g = closure_past k w.held _ _ _ w.own.few _ refl (list_was _ _ _ c.read_list.ensures c.in-Ok.is)
    (step_as c.in-Some.is c.in-Closure.is (c.step_at.ensures _ _ h k.stand)) in
    omega (arith, g.0, g.1)

pub loop-end-preserved : goal.loop-end-preserved
loop-end-preserved c =
    let pre = c.requires in (
      (let w = pre.3 in let k = c.loop-end.invariant.1 w in let h = ltb-true _ _ (sym c.before-in-loop-end.ensures ∙ c.loop-end-test.true) in code_closure k w.held _ _ _ w.own.few
          _ refl _ (list_was _ _ _ c.read_list.ensures c.in-Ok.is) (step_as c.in-Some.is c.in-Closure.is (c.step_at.ensures _ _ h k.stand))
          c.put_index-past-in-Closure.ensures refl).put.long,
      λ w. let k = c.loop-end.invariant.1 w in let h = ltb-true _ _ (sym c.before-in-loop-end.ensures ∙ c.loop-end-test.true) in code_closure k
          w.held _ _ _ w.own.few _ refl _ (list_was _ _ _ c.read_list.ensures c.in-Ok.is)
          (step_as c.in-Some.is c.in-Closure.is (c.step_at.ensures _ _ h k.stand)) c.put_index-past-in-Closure.ensures refl,
    )

pub shape_of-out-in_default : goal.shape_of-out-in_default
shape_of-out-in_default c = c.loop-end.invariant.0

pub returns-in_default : goal.returns-in_default
returns-in_default c =
    λ w. let k = c.loop-end.invariant.1 w in
    let h = ltb-true _ _ (sym c.before-in-loop-end.ensures ∙ c.loop-end-test.true) in
    absurd (rw c.in_default.is at (c.step_at.ensures _ _ h k.stand))

pub shape_of-out : goal.shape_of-out
shape_of-out c = c.loop-end.invariant.0

pub returns : goal.returns
returns c = λ w. coding_end (c.loop-end.invariant.1 w) (ltb-false _ _ (sym c.before-in-loop-end.ensures ∙ c.loop-end-test.false))
