-- `lines::put_answer` meets its contract: in each arm the value is known, and so is its word. Assumes nothing.
use native.Mathlib.Omega.{arith}
use Rattle.lines.specs.Lines.{answer_word}
use Rattle.lines.proofs.put_answer.Goals as goal

pub returns-in-False : goal.returns-in-False
unfolding answer_word
returns-in-False c = record { put = rw c.in-False.is c.put_bytes.ensures; upper_bound = omega arith }

pub returns-in-True : goal.returns-in-True
unfolding answer_word
returns-in-True c = record { put = rw c.in-True.is c.put_bytes-in-True.ensures; upper_bound = omega arith }

pub returns-in-Null : goal.returns-in-Null
unfolding answer_word
returns-in-Null c = record { put = rw c.in-Null.is c.put_bytes-in-Null.ensures; upper_bound = omega arith }

pub returns-in-Unspecified : goal.returns-in-Unspecified
unfolding answer_word
returns-in-Unspecified c = record { put = rw c.in-Unspecified.is c.put_bytes-in-Unspecified.ensures; upper_bound = omega arith }

pub returns-in-Integer : goal.returns-in-Integer
unfolding answer_word
returns-in-Integer c = record { put = rw c.in-Integer.is c.put_integer.ensures.put; upper_bound = omega arith }

pub returns-in-Procedure : goal.returns-in-Procedure
unfolding answer_word
returns-in-Procedure c = record { put = rw c.in-Procedure.is c.put_bytes-in-Procedure.ensures; upper_bound = omega arith }

pub returns-in-Pair : goal.returns-in-Pair
unfolding answer_word
returns-in-Pair c = record { put = rw c.in-Pair.is c.put_bytes-in-Pair.ensures; upper_bound = omega arith }

pub returns-in-NoValue : goal.returns-in-NoValue
unfolding answer_word
returns-in-NoValue c = record { put = rw c.in-NoValue.is c.put_bytes-in-NoValue.ensures; upper_bound = omega arith }
