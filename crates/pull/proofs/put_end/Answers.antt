-- `pull::put_end` meets its contract: in each arm the end is known, and so are its words. Assumes nothing.
use native.Mathlib.Omega.{arith}
use Rattle.pull.specs.Pull.{end_words}
use Rattle.pull.proofs.put_end.Goals as goal

pub returns-in-Halted : goal.returns-in-Halted
unfolding end_words
returns-in-Halted c = record { put = rw c.in-Halted.is c.put_halted.ensures.put; upper_bound = omega arith }

pub returns-in-Wrong : goal.returns-in-Wrong
unfolding end_words
returns-in-Wrong c = record { put = rw c.in-Wrong.is c.put_wrong.ensures.put; upper_bound = omega arith }

pub returns-in-OutOfBudget : goal.returns-in-OutOfBudget
unfolding end_words
returns-in-OutOfBudget c = record { put = rw c.in-OutOfBudget.is c.put_wrong-in-OutOfBudget.ensures.put; upper_bound = omega arith }

pub returns-in-Refused : goal.returns-in-Refused
unfolding end_words
returns-in-Refused c = record { put = rw c.in-Refused.is c.put_wrong-in-Refused.ensures.put; upper_bound = omega arith }
