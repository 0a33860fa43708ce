-- `linear_steps::take_primitive` meets its contract: in each arm the code is the one that is handed on. Assumes nothing.
use Rattle.linear_steps.proofs.StepLaws.{coded}
use Rattle.linear_steps.proofs.take_primitive.Goals as goal

pub returns-in-16 : goal.returns-in-16
returns-in-16 c = λ P f. coded _ _ _ _ _ _ _ _ c.in-16.is (c.take_neutral.ensures P f)

pub returns-in-18 : goal.returns-in-18
returns-in-18 c = λ P f. coded _ _ _ _ _ _ _ _ c.in-18.is (c.take_neutral-in-18.ensures P f)

pub returns-in-19 : goal.returns-in-19
returns-in-19 c = λ P f. coded _ _ _ _ _ _ _ _ c.in-19.is (c.take_neutral-in-19.ensures P f)

pub returns-in-20 : goal.returns-in-20
returns-in-20 c = λ P f. coded _ _ _ _ _ _ _ _ c.in-20.is (c.take_neutral-in-20.ensures P f)

pub returns-in-21 : goal.returns-in-21
returns-in-21 c = λ P f. coded _ _ _ _ _ _ _ _ c.in-21.is (c.take_neutral-in-21.ensures P f)

pub returns-in-22 : goal.returns-in-22
returns-in-22 c = λ P f. coded _ _ _ _ _ _ _ _ c.in-22.is (c.take_neutral-in-22.ensures P f)

pub returns-in-23 : goal.returns-in-23
returns-in-23 c = λ P f. coded _ _ _ _ _ _ _ _ c.in-23.is (c.take_neutral-in-23.ensures P f)

pub returns-in-24 : goal.returns-in-24
returns-in-24 c = λ P f. coded _ _ _ _ _ _ _ _ c.in-24.is (c.take_neutral-in-24.ensures P f)

pub returns-in-25 : goal.returns-in-25
returns-in-25 c = λ P f. coded _ _ _ _ _ _ _ _ c.in-25.is (c.take_neutral-in-25.ensures P f)
