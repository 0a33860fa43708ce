-- `exporter::exporter_trim` meets its contract: nothing is done without room for three slots; else the contract of trim. Assumes nothing.
use borrow.Author.Tests.{le-leb, lt-leb}
use Rattle.exporter.specs.Trims.{trim_output, trim_lines, trim_result}
use Rattle.exporter.proofs.exporter_trim.Goals as goal

pub returns-then-res-lt3 : goal.returns-then-res-lt3
unfolding trim_output trim_lines trim_result
returns-then-res-lt3 c = let h = lt-leb 3 _ c.if-res-lt3.true in record { out_after = rw h; list_after = rw h; res_after = rw h }

pub returns : goal.returns
unfolding trim_output trim_lines trim_result
returns c =
    let h = le-leb 3 _ c.if-res-lt3.false in
    let t = c.trim-answer.ensures in
    record { out_after = rw h t.out_after; list_after = rw h t.list_after; res_after = rw (h, ← t.value) c.put_trimmed.ensures }
