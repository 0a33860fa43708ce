-- `exporter::put_end` meets its contract: in each arm the end is known, and so are its slots. Assumes nothing.
use Rattle.exporter.specs.Answers.{AnswerFits}
use Rattle.exporter.specs.Exporter.{end_slot, place_slot}
use Rattle.machines.specs.Runs.{number_of, answer_cell}
use Rattle.exporter.proofs.put_end.Goals as goal

pub answer_cell-requires : goal.answer_cell-requires
unfolding AnswerFits
answer_cell-requires c = rw c.in-Halted.is at c.requires.answer_fits

pub returns-in-Halted : goal.returns-in-Halted
unfolding end_slot number_of place_slot answer_cell
returns-in-Halted c = rw (c.in-Halted.is, ← c.answer_cell.ensures) c.put_slots.ensures

pub returns-in-Wrong : goal.returns-in-Wrong
unfolding end_slot number_of place_slot answer_cell
returns-in-Wrong c = rw c.in-Wrong.is c.put_slots-in-Wrong.ensures

pub returns-in-OutOfBudget : goal.returns-in-OutOfBudget
unfolding end_slot number_of place_slot answer_cell
returns-in-OutOfBudget c = rw c.in-OutOfBudget.is c.put_slots-in-OutOfBudget.ensures

pub returns-in-Refused : goal.returns-in-Refused
unfolding end_slot number_of place_slot answer_cell
returns-in-Refused c = rw c.in-Refused.is c.put_slots-in-Refused.ensures
