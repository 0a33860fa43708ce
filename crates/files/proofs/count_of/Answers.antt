-- `files::count_of` meets its contract. Assumes nothing.
use Rattle.files.specs.laws.EntriesSteps.{field_cut, field_read_lem}
use Rattle.files.specs.laws.RoomLaws.{count_long, count_cut, count_is}
use Rattle.files.proofs.count_of.Goals as goal

pub returns-then-s-gt262144 : goal.returns-then-s-gt262144
returns-then-s-gt262144 c = count_long _ c.if-s-gt262144.true

pub returns-in-Some : goal.returns-in-Some
returns-in-Some c = count_is _ c.if-s-gt262144.false (field_read_lem _ _ _ c.read_field.ensures c.in-Some.is)

pub returns-in-None : goal.returns-in-None
returns-in-None c = count_cut _ c.if-s-gt262144.false (field_cut _ _ _ c.read_field.ensures c.in-None.is)
