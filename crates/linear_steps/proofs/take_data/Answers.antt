-- `linear_steps::take_data` meets its contract: in each arm the code is the one that is handed on. Assumes nothing.
use Rattle.linear_steps.proofs.StepLaws.{coded}
use Rattle.linear_steps.proofs.take_data.Goals as goal

pub returns-in-6 : goal.returns-in-6
returns-in-6 c = λ P f. coded _ _ _ _ _ _ _ _ c.in-6.is (c.take_neutral.ensures P f)

pub returns-in-7 : goal.returns-in-7
returns-in-7 c = λ P f. coded _ _ _ _ _ _ _ _ c.in-7.is (c.take_neutral-in-7.ensures P f)

pub returns-in-8 : goal.returns-in-8
returns-in-8 c = λ P f. coded _ _ _ _ _ _ _ _ c.in-8.is (c.take_neutral-in-8.ensures P f)

pub returns-in-9 : goal.returns-in-9
returns-in-9 c = λ P f. coded _ _ _ _ _ _ _ _ c.in-9.is (c.take_neutral-in-9.ensures P f)

pub returns-in-10 : goal.returns-in-10
returns-in-10 c = λ P f. coded _ _ _ _ _ _ _ _ c.in-10.is (c.take_neutral-in-10.ensures P f)

pub returns-in-11 : goal.returns-in-11
returns-in-11 c = λ P f. coded _ _ _ _ _ _ _ _ c.in-11.is (c.take_neutral-in-11.ensures P f)

pub returns-in-12 : goal.returns-in-12
returns-in-12 c = λ P f. coded _ _ _ _ _ _ _ _ c.in-12.is (c.take_neutral-in-12.ensures P f)

pub returns-in-13 : goal.returns-in-13
returns-in-13 c = λ P f. coded _ _ _ _ _ _ _ _ c.in-13.is (c.take_neutral-in-13.ensures P f)

pub returns-in-15 : goal.returns-in-15
returns-in-15 c = λ P f. coded _ _ _ _ _ _ _ _ c.in-15.is (c.take_neutral-in-15.ensures P f)
