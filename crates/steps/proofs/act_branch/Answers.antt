-- `steps::act_branch` meets its contract. Assumes nothing.
use Rattle.steps.proofs.StepLaws.{branch_first, branch_second}
use Rattle.steps.proofs.act_branch.Goals as goal

pub returns-then-r-eq-FALSE : goal.returns-then-r-eq-FALSE
returns-then-r-eq-FALSE c =
    let pre = c.requires in
    λ o P m. let p = pre in branch_second o P m _ _ p.0 p.1 _ _ _ _ c.if-r-eq-FALSE.true p.2 c.act_jump.ensures

pub returns-else-r-eq-FALSE : goal.returns-else-r-eq-FALSE
returns-else-r-eq-FALSE c = λ o P m. let p = c.requires in branch_first o P m _ _ p.0 p.1 _ _ _ c.if-r-eq-FALSE.false c.act_jump-else-r-eq-FALSE.ensures
