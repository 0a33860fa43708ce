-- `linear_code::fetch_whole` meets its contract. Assumes nothing.
use borrow.Author.Rules.{rules}
use native.Mathlib.Omega.{arith}
use mathlib.Core.Path.{refl}
use Rattle.files.specs.Codes.{operand_bytes}
use Rattle.machines.specs.Instruction.{number, form_of, fetched_as, Places}
use Rattle.linear_code.proofs.FetchLaws.{operand_there, first_there, offset_there, has_operands, whole_return, whole_call, whole_branch, whole_save, whole_jump, whole_other}
use Rattle.linear_code.proofs.fetch_whole.Goals as goal

pub bounds-file-i : goal.bounds-file-i
unfolding operand_bytes
bounds-file-i c =
    let pre = c.requires in
    let k = has_operands _ 2 1 _ refl c.in-2.is pre.1 in omega (arith, pre.0)

pub offset-requires : goal.offset-requires
unfolding operand_bytes
offset-requires c =
    let pre = c.requires in
    let k = has_operands _ 3 2 _ refl c.in-3.is pre.1 in omega (arith, pre.0)

pub bounds-file-i-in-4 : goal.bounds-file-i-in-4
unfolding operand_bytes
bounds-file-i-in-4 c =
    let pre = c.requires in
    let k = has_operands _ 4 3 _ refl c.in-4.is pre.1 in omega (arith, pre.0)

pub offset-requires-in-4 : goal.offset-requires-in-4
unfolding operand_bytes
offset-requires-in-4 c =
    let pre = c.requires in
    let k = has_operands _ 4 3 _ refl c.in-4.is pre.1 in omega (arith, pre.0)

pub offset-requires-in-5 : goal.offset-requires-in-5
unfolding operand_bytes
offset-requires-in-5 c =
    let pre = c.requires in
    let k = has_operands _ 5 2 _ refl c.in-5.is pre.1 in omega (arith, pre.0)

pub returns-in-1 : goal.returns-in-1
unfolding fetched_as Places
returns-in-1 c = (λ slot. whole_return slot _ _ _ c.in-1.is, tt)

pub returns-in-2 : goal.returns-in-2
unfolding operand_bytes fetched_as Places
returns-in-2 c =
    let pre = c.requires in
    let k = has_operands _ 2 1 _ refl c.in-2.is pre.1 in
    (λ slot. whole_call slot _ _ _ _ c.in-2.is (first_there _ _ _ pre.0 k), tt)

pub returns-in-3 : goal.returns-in-3
unfolding number form_of operand_bytes fetched_as Places
returns-in-3 c =
    let pre = c.requires in
    let k = has_operands _ 3 2 _ refl c.in-3.is pre.1 in
    (λ slot. whole_branch slot _ _ _ _ _ c.in-3.is c.past.ensures (offset_there _ _ _ pre.0 _ c.offset.ensures.0 k), (refl, refl))

pub returns-in-4 : goal.returns-in-4
unfolding number form_of operand_bytes fetched_as Places
returns-in-4 c =
    let pre = c.requires in
    let k = has_operands _ 4 3 _ refl c.in-4.is pre.1 in
    let o = offset_there _ _ _ pre.0 _ c.offset-in-4.ensures.0 (omega (arith, k)) in
    (λ slot. whole_save slot _ _ _ _ _ _ c.in-4.is (operand_there _ _ _ pre.0 2 k) c.past-in-4.ensures o, (refl, refl, search rules))

pub returns-in-5 : goal.returns-in-5
unfolding number form_of operand_bytes fetched_as Places
returns-in-5 c =
    let pre = c.requires in
    let k = has_operands _ 5 2 _ refl c.in-5.is pre.1 in
    (λ slot. whole_jump slot _ _ _ _ _ c.in-5.is c.past-in-5.ensures (offset_there _ _ _ pre.0 _ c.offset-in-5.ensures.0 k), refl)

pub returns-in_default : goal.returns-in_default
unfolding number form_of fetched_as Places
returns-in_default c = (
  λ slot. whole_other slot _ _ _ _ _ c.in_default.in_default-own.rest.0.0.0.0.1 c.in_default.in_default-own.rest.0.0.0.1 c.in_default.in_default-own.rest.0.0.1 c.in_default.in_default-own.rest.0.1 c.in_default.in_default-own.rest.1 c.operand.ensures c.operand-in_default.ensures,
  refl,
)
