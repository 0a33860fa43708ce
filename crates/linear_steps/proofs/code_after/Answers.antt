-- `linear_steps::code_after` meets its contract. Assumes nothing.
use Rattle.linear_steps.proofs.code_after.Goals as goal

pub returns-then-template-before : goal.returns-then-template-before
returns-then-template-before c =
    let pre = c.requires in
    rw c.if-template-before.true (pre)
