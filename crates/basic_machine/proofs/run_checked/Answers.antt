-- `basic_machine::run_checked` meets its contract. Assumes nothing.
use Rattle.basic_machine.proofs.theorems.RunLaws.{file_short, file_accepted, file_refused}
use Rattle.basic_machine.proofs.run_checked.Goals as goal

pub run_accepted-requires : goal.run_accepted-requires
run_accepted-requires c =
    let pre = c.requires in
    let w = file_accepted _ _ c.check_basic.ensures _ c.in-Ok.is in
    (w, pre.0, pre.1 (file_short _ w))

pub returns-in-Ok : goal.returns-in-Ok
returns-in-Ok c = c.run_accepted.ensures

pub returns-in-Err : goal.returns-in-Err
returns-in-Err c = file_refused _ _ _ _ _ _ _ _ c.check_basic.ensures c.in-Err.is c.refused.ensures
