-- `tree_machine::run_marked` meets its contract. Assumes nothing.
use Rattle.tree_machine.specs.laws.FileLaws.{file_rows_lem, file_ready, file_short, file_good, file_marked, file_refused}
use Rattle.tree_machine.proofs.run_marked.Goals as goal

pub read_accepted-requires : goal.read_accepted-requires
read_accepted-requires c = c.requires.0

pub run_linked-requires : goal.run_linked-requires
run_linked-requires c =
    let pre = c.requires in
    let sum = c.in-Ok.is in (
      file_ready _ _ _ c.read_accepted.ensures.value sum _ pre.0 c.read_accepted.ensures.table_after,
      rw c.read_accepted.auto.table (file_rows_lem _ _ _ c.read_accepted.ensures.value sum pre.0),
      file_good _ _ _ c.read_accepted.ensures.value sum,
      rw c.read_accepted.auto.marks (pre.1 (file_short _ _ _ c.read_accepted.ensures.value sum)),
      file_marked _ _ _ (pre.1 (file_short _ _ _ c.read_accepted.ensures.value sum)) c.read_accepted.ensures.templates_marked,
    )

pub returns-in-Ok : goal.returns-in-Ok
returns-in-Ok c = c.run_linked.ensures

pub returns-in-Err : goal.returns-in-Err
returns-in-Err c = file_refused _ _ _ _ _ _ _ _ c.read_accepted.ensures.value c.in-Err.is c.refused.ensures
