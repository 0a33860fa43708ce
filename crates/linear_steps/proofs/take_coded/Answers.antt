-- `linear_steps::take_coded` meets its contract: in each arm the code is the one that is handed on. Assumes nothing.
use Rattle.linear_code.proofs.FetchLaws.{is_neutral_lem}
use Rattle.linear_steps.proofs.StepLaws.{coded, neutral_asked}
use Rattle.linear_steps.proofs.take_coded.Goals as goal

pub take_data-requires : goal.take_data-requires
take_data-requires c = neutral_asked _ _ _ _ _ _ _ c.requires (is_neutral_lem _ c.in_default.in_default-own.rest.0.0.0.0.1 c.in_default.in_default-own.rest.0.0.0.1 c.in_default.in_default-own.rest.0.0.1 c.in_default.in_default-own.rest.0.1 c.in_default.in_default-own.rest.1)

pub returns-in-1 : goal.returns-in-1
returns-in-1 c = coded _ _ _ _ _ _ _ _ c.in-1.is c.take_transfer.ensures

pub returns-in-2 : goal.returns-in-2
returns-in-2 c = coded _ _ _ _ _ _ _ _ c.in-2.is c.take_transfer-in-2.ensures

pub returns-in-3 : goal.returns-in-3
returns-in-3 c = coded _ _ _ _ _ _ _ _ c.in-3.is c.take_transfer-in-3.ensures

pub returns-in-4 : goal.returns-in-4
returns-in-4 c = coded _ _ _ _ _ _ _ _ c.in-4.is c.take_transfer-in-4.ensures

pub returns-in-5 : goal.returns-in-5
returns-in-5 c = coded _ _ _ _ _ _ _ _ c.in-5.is c.take_transfer-in-5.ensures

pub returns-in_default : goal.returns-in_default
returns-in_default c = c.take_data.ensures _ _
