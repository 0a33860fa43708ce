-- `exporter::exporter_pull_list` meets its contract: nothing is done without room for two slots; else the pull list's contract. Assumes nothing.
use borrow.Author.Tests.{le-leb, lt-leb}
use Rattle.exporter.specs.Exporter.{outcome_output, outcome_result}
use Rattle.exporter.proofs.exporter_pull_list.Goals as goal

pub returns-then-res-lt2 : goal.returns-then-res-lt2
unfolding outcome_output outcome_result
returns-then-res-lt2 c = let h = lt-leb 2 _ c.if-res-lt2.true in record { list_after = rw h; res_after = rw h }

pub returns : goal.returns
unfolding outcome_output outcome_result
returns c =
    let h = le-leb 2 _ c.if-res-lt2.false in
    record { list_after = rw h c.pull_list-answer.ensures.list_after; res_after = rw (h, ← c.pull_list-answer.ensures.value) c.put_outcome.ensures }
