-- `linear_steps::take_neutral` meets its contract. Assumes nothing.
use Rattle.machines.specs.Instruction.{number, linear_form, form_of}
use Rattle.machines.specs.Slots.{slot_at}
use Rattle.linear_code.specs.Neutral.{neutral_as}
use Rattle.steps.proofs.StepLaws.{bad_stops}
use Rattle.linear_steps.proofs.StepLaws.{neutral_as_lem}
use Rattle.linear_steps.proofs.take_neutral.Goals as goal

pub returns-in-Some : goal.returns-in-Some
unfolding neutral_as number form_of
returns-in-Some c = λ P f. neutral_as_lem c.args.owner P _ (slot_at c.args.table.now c.args.c.template) _ c.args.op _ _ (c.neutral_at.ensures (slot_at c.args.table.now c.args.c.template)) c.in-Some.is (c.act_neutral.ensures P f)

pub returns-in-None : goal.returns-in-None
unfolding neutral_as
returns-in-None c =
    λ P f. neutral_as_lem c.args.owner P _ (slot_at c.args.table.now c.args.c.template) _ c.args.op _ _ (c.neutral_at.ensures (slot_at c.args.table.now c.args.c.template)) c.in-None.is
    (bad_stops linear_form c.args.owner P _ c.args.r c.args.c)
