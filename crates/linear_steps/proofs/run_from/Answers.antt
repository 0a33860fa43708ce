-- `linear_steps::run_from` meets its contract. Assumes nothing.
use Prim.Native.Nat.{◌+◌, ◌-◌}
use mathlib.Core.Path.{◌≡◌, refl}
use native.Mathlib.Omega.{arith}
use Rattle.rules.specs.State.{regs}
use Rattle.machines.specs.Instruction.{form_of}
use Rattle.machines.specs.declared.CodePlace.TheVariants.{Linear}
use Rattle.steps.specs.Step.{control}
use Rattle.steps.proofs.RunLaws.{next_ready, next_place, next_turn, halted_turn, wrong_turn, spent_turn}
use Rattle.linear_steps.proofs.StepLaws.{placed_turn, placed_ready}
use Rattle.linear_steps.proofs.run_from.Goals as goal

pub take_step-requires : goal.take_step-requires
unfolding form_of
take_step-requires c = (c.loop-done.invariant.1, refl, c.loop-done.invariant.0)

pub returns-in-Halted : goal.returns-in-Halted
returns-in-Halted c =
    let r = regs c.loop-done.v c.loop-done.env c.loop-done.sp c.loop-done.st in
    let k = control c.loop-done.template (Linear c.loop-done.at) c.loop-done.fr in
    let past : c.args.budget - (c.args.budget - c.loop-done.done) ≡ c.loop-done.done = omega (arith, c.loop-done-test.true) in
    halted_turn _ _ _ (c.args.budget - c.loop-done.done) c.args.budget _ _ r k _ (omega (arith, c.loop-done-test.true)) (omega arith) c.take_step.ensures (rw past c.loop-done.invariant.2) _ _
    c.in-Halted.is c.value_of.ensures c.ended.ensures

pub returns-in-Wrong : goal.returns-in-Wrong
returns-in-Wrong c =
    let r = regs c.loop-done.v c.loop-done.env c.loop-done.sp c.loop-done.st in
    let k = control c.loop-done.template (Linear c.loop-done.at) c.loop-done.fr in
    let past : c.args.budget - (c.args.budget - c.loop-done.done) ≡ c.loop-done.done = omega (arith, c.loop-done-test.true) in
    wrong_turn _ _ _ (c.args.budget - c.loop-done.done) c.args.budget _ _ r k _ (omega (arith, c.loop-done-test.true)) (omega arith) c.take_step.ensures (rw past c.loop-done.invariant.2) _ _ _
    c.in-Wrong.is c.number.ensures c.ended-in-Wrong.ensures

pub code_after-code-requires : goal.code_after-code-requires
code_after-code-requires c = c.loop-done.invariant.1

pub byte_place-at-requires : goal.byte_place-at-requires
byte_place-at-requires c =
    let r = regs c.loop-done.v c.loop-done.env c.loop-done.sp c.loop-done.st in
    let k = control c.loop-done.template (Linear c.loop-done.at) c.loop-done.fr in
    next_place _ _ _ (c.args.budget - c.loop-done.done) c.args.budget _ _ r k _ (omega (arith, c.loop-done-test.true)) (omega arith) c.take_step.ensures refl _ _ c.in-Next.is

pub loop-done-preserved : goal.loop-done-preserved
unfolding form_of
loop-done-preserved c =
    let r = regs c.loop-done.v c.loop-done.env c.loop-done.sp c.loop-done.st in
    let k = control c.loop-done.template (Linear c.loop-done.at) c.loop-done.fr in
    let left = c.args.budget - c.loop-done.done in
    let past : c.args.budget - left ≡ c.loop-done.done = omega (arith, c.loop-done-test.true) in
    let rest : c.args.budget - (c.loop-done.done + 1) ≡ left - 1 = omega arith in
    let on : c.loop-done.done + 1 ≡ c.args.budget - (left - 1) = omega (arith, c.loop-done-test.true) in
    let there = next_place _ _ _ left c.args.budget _ _ r k _ (omega (arith, c.loop-done-test.true)) (omega arith) c.take_step.ensures refl _ _ c.in-Next.is in
    let ready = next_ready _ _ _ left c.args.budget _ _ r k _ (omega (arith, c.loop-done-test.true)) (omega arith) c.take_step.ensures refl _ _ _ _ c.in-Next.is refl c.loop-done.invariant.0 in (
      placed_ready _ _ c.byte_place-at.ensures _ _ _ there ready,
      c.code_after-code.ensures,
      rw (rest, on) (placed_turn _ _ c.byte_place-at.ensures _ _ _ _ _ _
          (next_turn _ _ _ left c.args.budget _ _ r k _ (omega (arith, c.loop-done-test.true)) (omega arith) c.take_step.ensures (rw past c.loop-done.invariant.2) _ _ c.in-Next.is)),
    )

pub returns : goal.returns
returns c =
    let r = regs c.loop-done.v c.loop-done.env c.loop-done.sp c.loop-done.st in
    let k = control c.loop-done.template (Linear c.loop-done.at) c.loop-done.fr in
    let none : c.args.budget - c.loop-done.done ≡ 0 = omega (arith, c.loop-done-test.false) in
    let all : c.loop-done.done ≡ c.args.budget - 0 = omega (arith, c.loop-done-test.false, c.loop-done.auto.done-end) in
    spent_turn _ _ 0 c.args.budget _ r k _ (omega arith) (rw (none, all) at c.loop-done.invariant.2) c.ended-2.ensures
