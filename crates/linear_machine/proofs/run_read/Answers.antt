-- `linear_machine::run_read` meets its contract. Assumes nothing.
use Rattle.linear_machine.proofs.run_read.Goals as goal

pub run_code-requires : goal.run_code-requires
run_code-requires c =
    c.requires

pub returns : goal.returns
returns c = c.run_code.ensures
