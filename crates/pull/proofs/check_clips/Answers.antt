-- `pull::check_clips` meets its contract. Assumes nothing.
use Rattle.pull.proofs.Checks.{many, cut, no_speed_lem, speeds}
use Rattle.pull.proofs.check_clips.Goals as goal

pub returns-then-count-gt256 : goal.returns-then-count-gt256
returns-then-count-gt256 c = many _ _ _ c.if-count-gt256.true

pub returns-then-clips-ne0 : goal.returns-then-clips-ne0
returns-then-clips-ne0 c = cut _ _ _ c.if-count-gt256.false c.if-clips-ne0.true

pub returns-in-Some : goal.returns-in-Some
returns-in-Some c = no_speed_lem _ _ _ c.if-count-gt256.false c.if-clips-ne0.false _ _ c.lowest_still.ensures c.in-Some.is

pub returns : goal.returns
returns c = speeds _ _ _ c.if-count-gt256.false c.if-clips-ne0.false _ _ c.lowest_still.ensures c.in_default.is c.check_room.ensures
