-- `basic_steps::run_from` meets its contract. Assumes nothing.
use Prim.Native.Nat.{◌+◌, ◌-◌}
use mathlib.Core.Path.{◌≡◌, refl}
use native.Mathlib.Omega.{arith}
use Rattle.steps.proofs.RunLaws.{next_ready, next_place, next_turn, halted_turn, wrong_turn, spent_turn}
use Rattle.basic_steps.proofs.run_from.Goals as goal

pub returns-in-Halted : goal.returns-in-Halted
returns-in-Halted c =
    let past : c.args.budget - (c.args.budget - c.loop-done.done) ≡ c.loop-done.done = omega (arith, c.loop-done-test.true) in
    halted_turn _ _ _ (c.args.budget - c.loop-done.done) c.args.budget _ _ c.loop-done.r c.loop-done.c _ (omega (arith, c.loop-done-test.true)) (omega arith) c.take_step.ensures (rw past c.loop-done.invariant.2) _ _
    c.in-Halted.is c.value_of.ensures c.ended.ensures

pub returns-in-Wrong : goal.returns-in-Wrong
returns-in-Wrong c =
    let past : c.args.budget - (c.args.budget - c.loop-done.done) ≡ c.loop-done.done = omega (arith, c.loop-done-test.true) in
    wrong_turn _ _ _ (c.args.budget - c.loop-done.done) c.args.budget _ _ c.loop-done.r c.loop-done.c _ (omega (arith, c.loop-done-test.true)) (omega arith) c.take_step.ensures (rw past c.loop-done.invariant.2) _ _ _
    c.in-Wrong.is c.number.ensures c.ended-in-Wrong.ensures

pub loop-done-preserved : goal.loop-done-preserved
loop-done-preserved c =
    let left = c.args.budget - c.loop-done.done in
    let past : c.args.budget - left ≡ c.loop-done.done = omega (arith, c.loop-done-test.true) in
    let rest : c.args.budget - (c.loop-done.done + 1) ≡ left - 1 = omega arith in
    let on : c.loop-done.done + 1 ≡ c.args.budget - (left - 1) = omega (arith, c.loop-done-test.true) in (
      next_ready _ _ _ left c.args.budget _ _ c.loop-done.r c.loop-done.c _ (omega (arith, c.loop-done-test.true)) (omega arith) c.take_step.ensures refl _ _ _ _ c.in-Next.is
          c.loop-done.invariant.1 c.loop-done.invariant.0,
      next_place _ _ _ left c.args.budget _ _ c.loop-done.r c.loop-done.c _ (omega (arith, c.loop-done-test.true)) (omega arith) c.take_step.ensures refl _ _ c.in-Next.is,
      rw (rest, on) (next_turn _ _ _ left c.args.budget _ _ c.loop-done.r c.loop-done.c _ (omega (arith, c.loop-done-test.true)) (omega arith) c.take_step.ensures (rw past c.loop-done.invariant.2) _ _ c.in-Next.is),
    )

pub returns : goal.returns
returns c =
    let none : c.args.budget - c.loop-done.done ≡ 0 = omega (arith, c.loop-done-test.false) in
    let all : c.loop-done.done ≡ c.args.budget - 0 = omega (arith, c.loop-done-test.false, c.loop-done.auto.done-end) in
    spent_turn _ _ 0 c.args.budget _ c.loop-done.r c.loop-done.c _ (omega arith) (rw (none, all) at c.loop-done.invariant.2) c.ended-2.ensures
