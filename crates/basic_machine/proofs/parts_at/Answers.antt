-- `basic_machine::parts_at` meets its contract. Assumes nothing.
use Rattle.basic.specs.laws.StepLaws.{turned, turned_to, is_end_lem, is_closure, is_branch, is_refused, is_save_lem}
use Rattle.basic_machine.specs.laws.PassLaws.{end_parted, simple_parted, none_refused}
use Rattle.basic_machine.proofs.parts_at.Goals as goal

pub returns-in-End : goal.returns-in-End
returns-in-End c = λ d h. end_parted _ _ d h (is_end_lem _ _ (turned_to c.in-Ok.is c.in-End.is c.read_token.ensures))

pub returns-in-Ending : goal.returns-in-Ending
returns-in-Ending c = λ d h. simple_parted _ _ d h c.in-Ok.is c.in-Ending.is c.read_token.ensures

pub returns-in-Ending-2 : goal.returns-in-Ending-2
returns-in-Ending-2 c = λ d h. simple_parted _ _ d h c.in-Ok.is c.in-Ending.is c.read_token.ensures

pub returns-in-Ending-3 : goal.returns-in-Ending-3
returns-in-Ending-3 c = λ d h. simple_parted _ _ d h c.in-Ok.is c.in-Ending.is c.read_token.ensures

pub returns-in-Ending-4 : goal.returns-in-Ending-4
returns-in-Ending-4 c = λ d h. simple_parted _ _ d h c.in-Ok.is c.in-Ending.is c.read_token.ensures

pub returns-in-Closure : goal.returns-in-Closure
returns-in-Closure c = λ d h. c.closure_parts.ensures _ d (is_closure _ _ (turned_to c.in-Ok.is c.in-Closure.is c.read_token.ensures)) h

pub returns-in-Branch : goal.returns-in-Branch
returns-in-Branch c = λ d h. c.arms_parts.ensures _ d (is_branch _ _ (turned_to c.in-Ok.is c.in-Branch.is c.read_token.ensures)) h

pub returns-in-Save : goal.returns-in-Save
returns-in-Save c =
    let w = is_save_lem _ _ (turned_to c.in-Ok.is c.in-Save.is c.read_token.ensures) in
    λ d h. c.saved_parts.ensures _ w.0 d w.1 h

pub returns-in_default : goal.returns-in_default
returns-in_default c = λ d h. none_refused _ _ d h (is_refused _ _ (turned c.in_default.is c.read_token.ensures))
