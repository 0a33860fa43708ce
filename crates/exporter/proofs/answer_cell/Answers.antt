-- `exporter::answer_cell` meets its contract: in each arm the value is known, and its fields fit. Assumes nothing.
use native.Mathlib.Omega.{arith}
use Rattle.cells.specs.Cells.{cell_of}
use Rattle.exporter.specs.Answers.{FieldsFit}
use Rattle.exporter.proofs.answer_cell.Goals as goal

pub int_cell-requires : goal.int_cell-requires
unfolding FieldsFit
int_cell-requires c = rw c.in-Integer.is at c.requires

pub overflow_cast-c : goal.overflow_cast-c
unfolding FieldsFit
overflow_cast-c c = let h = rw c.in-Procedure.is at c.requires in omega arith

pub overflow_cast-c-in-Procedure : goal.overflow_cast-c-in-Procedure
unfolding FieldsFit
overflow_cast-c-in-Procedure c = let h = rw c.in-Procedure.is at c.requires in omega arith

pub overflow_cast-c-in-Procedure-2 : goal.overflow_cast-c-in-Procedure-2
unfolding FieldsFit
overflow_cast-c-in-Procedure-2 c = let h = rw c.in-Procedure.is at c.requires in omega arith

pub overflow_cast-a : goal.overflow_cast-a
unfolding FieldsFit
overflow_cast-a c = let h = rw c.in-Pair.is at c.requires in omega arith

pub overflow_cast-b : goal.overflow_cast-b
unfolding FieldsFit
overflow_cast-b c = let h = rw c.in-Pair.is at c.requires in omega arith

pub returns-in-False : goal.returns-in-False
unfolding cell_of
returns-in-False c = rw c.in-False.is

pub returns-in-True : goal.returns-in-True
unfolding cell_of
returns-in-True c = rw c.in-True.is

pub returns-in-Null : goal.returns-in-Null
unfolding cell_of
returns-in-Null c = rw c.in-Null.is

pub returns-in-Unspecified : goal.returns-in-Unspecified
unfolding cell_of
returns-in-Unspecified c = rw c.in-Unspecified.is

pub returns-in-Integer : goal.returns-in-Integer
unfolding cell_of
returns-in-Integer c = rw c.in-Integer.is c.int_cell.ensures

pub returns-in-Procedure : goal.returns-in-Procedure
unfolding cell_of
returns-in-Procedure c = rw c.in-Procedure.is c.closure_cell.ensures

pub returns-in-Pair : goal.returns-in-Pair
unfolding cell_of
returns-in-Pair c = rw c.in-Pair.is c.pair_cell.ensures

pub returns-in-NoValue : goal.returns-in-NoValue
unfolding cell_of
returns-in-NoValue c = rw c.in-NoValue.is
