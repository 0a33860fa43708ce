-- `pull::check_room` meets its contract. Assumes nothing.
use Rattle.pull.proofs.Checks.{no_room_lem, large, fits}
use Rattle.pull.proofs.check_room.Goals as goal

pub returns-then-room-count : goal.returns-then-room-count
returns-then-room-count c = no_room_lem _ _ _ c.if-room-count.true

pub returns-then-budget-gt2000000 : goal.returns-then-budget-gt2000000
returns-then-budget-gt2000000 c = large _ _ _ c.if-room-count.false c.if-budget-gt2000000.true

pub returns : goal.returns
returns c = fits _ _ _ c.if-room-count.false c.if-budget-gt2000000.false
