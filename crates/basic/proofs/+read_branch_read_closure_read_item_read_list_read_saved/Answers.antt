-- `basic::read_branch`, `read_closure`, `read_item`, `read_list`, `read_saved` meet their contracts: a list is read one instruction at a time; each list of an instruction has one level less below it. Assumes nothing.
use Rattle.files.specs.laws.RefusalLaws.{handed_on}
use Rattle.basic.specs.laws.StepLaws.{is_end_lem, is_closure, is_branch, is_refused, is_save_lem}
use Rattle.basic.specs.laws.StepLaws.{told_ending_step, neutral_told, closure_level, branch_level, save_level}
use Rattle.basic.specs.laws.StepLaws.{closure_step, closure_bad, save_step, save_bad, branch_step, branch_bad, branch_bad_2, end_step, bad_step}
use Rattle.basic.specs.laws.StepLaws.{list_was, list_cut, inside_few, told_begun, turn_end, turn_more, turn_bad, turn_bits, turned, turned_to, stepped, stepped_on, stepped_to, deeper, up}
use mathlib.Core.Path.{refl, sym, ◌∙◌}
use native.Mathlib.Omega.{arith}
use Rattle.basic.proofs.+read_branch_read_closure_read_item_read_list_read_saved.Goals as goal

pub read_branch-overflow_add-result : goal.read_branch-overflow_add-result
read_branch-overflow_add-result t c =
    let w = inside_few c.requires (list_was _ _ _ c.read_list.ensures c.in_ok-mid.was) in
    let v = inside_few c.requires (list_was _ _ _ c.read_list-2.ensures c.in_ok-past.was) in
    omega (arith, w, v)

pub read_branch-returns : goal.read_branch-returns
read_branch-returns t c =
    λ p e. rw c.conditional_kind.ensures
    (branch_step _ _ p _ e _ _ (list_was _ _ _ c.read_list.ensures c.in_ok-mid.was) _ _
    (list_was _ _ _ c.read_list-2.ensures c.in_ok-past.was))

pub read_branch-returns-in_err-past : goal.read_branch-returns-in_err-past
read_branch-returns-in_err-past t c =
    λ p e. stepped_on c.from_residual-in_err-past.ensures
    (branch_bad_2 _ _ p _ e _ _ (list_was _ _ _ c.read_list.ensures c.in_ok-mid.was) _
    (list_cut _ _ _ c.read_list-2.ensures c.in_err-past.was))

pub read_branch-returns-in_err-mid : goal.read_branch-returns-in_err-mid
read_branch-returns-in_err-mid t c =
    λ p e. stepped_on c.from_residual.ensures
    (branch_bad _ _ p _ e _ (list_cut _ _ _ c.read_list.ensures c.in_err-mid.was))

pub read_closure-overflow_add-result : goal.read_closure-overflow_add-result
read_closure-overflow_add-result t c =
    let w = inside_few c.requires (list_was _ _ _ c.read_list.ensures c.in_ok-past.was) in
    omega (arith, w)

pub read_closure-returns : goal.read_closure-returns
read_closure-returns t c = λ p e. closure_step _ _ p _ e _ _ (list_was _ _ _ c.read_list.ensures c.in_ok-past.was)

pub read_closure-returns-in_err-past : goal.read_closure-returns-in_err-past
read_closure-returns-in_err-past t c =
    λ p e. stepped_on c.from_residual.ensures
    (closure_bad _ _ p _ e _ (list_cut _ _ _ c.read_list.ensures c.in_err-past.was))

pub read_item-returns-in_err-next : goal.read_item-returns-in_err-next
read_item-returns-in_err-next t c =
    stepped_on c.from_residual.ensures (bad_step _ _ _ _ (is_refused _ _ (turned c.in_err-next.was c.read_token.ensures)))

pub read_item-overflow_sub-levels : goal.read_item-overflow_sub-levels
read_item-overflow_sub-levels t c = omega (arith, closure_level _ _ _ _ (is_closure _ _ (turned_to c.in_ok-next.was c.in-Closure.is c.read_token.ensures)))

pub read_item-read_closure-requires : goal.read_item-read_closure-requires
read_item-read_closure-requires t c =
    let h = closure_level _ _ _ _ (is_closure _ _ (turned_to c.in_ok-next.was c.in-Closure.is c.read_token.ensures)) in
    (omega (arith, h), c.requires)

pub read_item-overflow_sub-levels-in-Branch : goal.read_item-overflow_sub-levels-in-Branch
read_item-overflow_sub-levels-in-Branch t c = branch_level _ _ _ _ (is_branch _ _ (turned_to c.in_ok-next.was c.in-Branch.is c.read_token.ensures))

pub read_item-read_branch-requires : goal.read_item-read_branch-requires
read_item-read_branch-requires t c =
    let h = branch_level _ _ _ _ (is_branch _ _ (turned_to c.in_ok-next.was c.in-Branch.is c.read_token.ensures)) in
    (omega (arith, h), c.requires)

pub read_item-overflow_sub-levels-in-Save : goal.read_item-overflow_sub-levels-in-Save
read_item-overflow_sub-levels-in-Save t c = save_level _ _ _ _ _ (is_save_lem _ _ (turned_to c.in_ok-next.was c.in-Save.is c.read_token.ensures)).1

pub read_item-read_saved-requires : goal.read_item-read_saved-requires
read_item-read_saved-requires t c =
    let h = save_level _ _ _ _ _ (is_save_lem _ _ (turned_to c.in_ok-next.was c.in-Save.is c.read_token.ensures)).1 in
    (omega (arith, h), c.requires)

pub read_item-returns-in-End : goal.read_item-returns-in-End
read_item-returns-in-End t c = end_step _ _ _ _ (is_end_lem _ _ (turned_to c.in_ok-next.was c.in-End.is c.read_token.ensures))

pub read_item-returns-in-Ending : goal.read_item-returns-in-Ending
read_item-returns-in-Ending t c = told_ending_step _ _ _ _ (turned_to c.in_ok-next.was c.in-Ending.is c.read_token.ensures)

pub read_item-returns-in-Plain : goal.read_item-returns-in-Plain
read_item-returns-in-Plain t c = neutral_told _ _ _ c.in_ok-next.was c.in-Plain.is c.read_token.ensures

pub read_item-returns-in-Plain-2 : goal.read_item-returns-in-Plain-2
read_item-returns-in-Plain-2 t c = neutral_told _ _ _ c.in_ok-next.was c.in-Plain.is c.read_token.ensures

pub read_item-returns-in-Plain-3 : goal.read_item-returns-in-Plain-3
read_item-returns-in-Plain-3 t c = neutral_told _ _ _ c.in_ok-next.was c.in-Plain.is c.read_token.ensures

pub read_item-returns-in-Closure : goal.read_item-returns-in-Closure
read_item-returns-in-Closure t c =
    let e = is_closure _ _ (turned_to c.in_ok-next.was c.in-Closure.is c.read_token.ensures) in
    let h = closure_level _ _ _ _ e in
    deeper _ _ _ _ _ refl h (c.read_closure.ensures _ (up _ _ _ _ _ _ refl h e))

pub read_item-returns-in-Branch : goal.read_item-returns-in-Branch
read_item-returns-in-Branch t c =
    let e = is_branch _ _ (turned_to c.in_ok-next.was c.in-Branch.is c.read_token.ensures) in
    let h = branch_level _ _ _ _ e in
    deeper _ _ _ _ _ refl h (c.read_branch.ensures _ (up _ _ _ _ _ _ refl h e))

pub read_item-returns-in-Save : goal.read_item-returns-in-Save
read_item-returns-in-Save t c =
    let e = is_save_lem _ _ (turned_to c.in_ok-next.was c.in-Save.is c.read_token.ensures) in
    let h = save_level _ _ _ _ _ e.1 in
    deeper _ _ _ _ _ refl h (c.read_saved.ensures _ _ (up _ _ _ _ _ _ refl h e.1))

pub read_list-loop-next-init : goal.read_list-loop-next-init
read_list-loop-next-init t c = (told_begun _, omega arith)

pub read_list-returns-in_err-next : goal.read_list-returns-in_err-next
read_list-returns-in_err-next t c =
    handed_on c.from_residual.ensures ∙ sym (c.loop-next.invariant.0 ∙ turn_bad _ _ _ _ _ _ (stepped c.in_err-next.was c.read_item.ensures))

pub read_list-returns-in-End : goal.read_list-returns-in-End
read_list-returns-in-End t c =
    sym (c.loop-next.invariant.0 ∙ turn_end _ _ _ _ _ _ (stepped_to c.in_ok-next.was c.in-End.is c.read_item.ensures))

pub read_list-loop-next-preserved : goal.read_list-loop-next-preserved
read_list-loop-next-preserved t c =
    let z = stepped_to c.in_ok-next.was c.in-More.is c.read_item.ensures in
    let w = turn_bits _ _ _ _ _ _ z in
    rw c.classes_after-classes.ensures (c.loop-next.invariant.0 ∙ turn_more _ _ _ _ _ _ _ _ z, omega (arith, w.0, c.loop-next.invariant.1))

pub read_saved-returns : goal.read_saved-returns
read_saved-returns t c = λ p n e. rw c.save_kind.ensures (save_step _ _ p _ n e _ _ (list_was _ _ _ c.read_list.ensures c.in_ok-past.was))

pub read_saved-returns-in_err-past : goal.read_saved-returns-in_err-past
read_saved-returns-in_err-past t c =
    λ p n e. stepped_on c.from_residual.ensures
    (save_bad _ _ p _ n e _ (list_cut _ _ _ c.read_list.ensures c.in_err-past.was))
