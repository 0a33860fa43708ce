-- `linear_machine::run_file` meets its contract. Assumes nothing.
use native.Mathlib.Omega.{arith}
use Rattle.files.specs.laws.RoomLaws.{table_room}
use Rattle.linear_machine.proofs.FileLaws.{file_within_lem, file_ran, file_refused}
use Rattle.linear_machine.proofs.run_file.Goals as goal

pub read_linear-requires : goal.read_linear-requires
read_linear-requires c = table_room _ _ c.requires

pub run_read-requires : goal.run_read-requires
run_read-requires c =
    let pre = c.requires in
    file_within_lem _ _ _ _ c.read_linear.ensures.value pre c.read_linear.ensures.table_after _ c.in-Ok.is

pub returns-in-Ok : goal.returns-in-Ok
returns-in-Ok c =
    let pre = c.requires in
    file_ran _ _ _ _ c.read_linear.ensures.value pre c.read_linear.ensures.table_after _ c.in-Ok.is _ _ _ _
    (λ i. omega (arith, c.shared_slice_known-1.given i)) c.run_read.ensures

pub returns-in-Err : goal.returns-in-Err
returns-in-Err c = file_refused _ _ _ _ _ _ _ _ c.read_linear.ensures.value c.in-Err.is (rw c.number.ensures at c.refused.ensures)
