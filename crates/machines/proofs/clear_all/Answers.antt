-- `machines::clear_all` meets its contract. Assumes nothing.
use Rattle.machines.specs.Start.{zeros}
use Rattle.machines.proofs.clear_all.Goals as goal

pub returns : goal.returns
unfolding zeros
returns c = (
  rw c.told-stack at (c.fill.ensures.after (λ y same. same)),
  rw c.told-store at (c.fill-2.ensures.after (λ y same. same)),
  rw c.told-frames at (c.fill-3.ensures.after (λ y same. same)),
)
