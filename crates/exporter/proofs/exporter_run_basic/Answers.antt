-- `exporter::exporter_run_basic` meets its contract: nothing is done without room for eight slots; else the machine's contract. Assumes nothing.
use borrow.Author.Rules.{rules}
use Rattle.exporter.specs.laws.Answers.{basic_fits}
use Rattle.exporter.proofs.Laws.{answer_fits, nothing_done, run_told}
use Rattle.exporter.proofs.exporter_run_basic.Goals as goal

pub returns-then-res-lt8 : goal.returns-then-res-lt8
returns-then-res-lt8 c = nothing_done _ _ _ c.if-res-lt8.true

pub put_run-requires : goal.put_run-requires
put_run-requires c = record { in_bounds = search rules; answer_fits = answer_fits c.run_basic-run.ensures (basic_fits _ _ _ _) }

pub returns : goal.returns
returns c = run_told _ _ _ _ _ _ c.if-res-lt8.false c.run_basic-run.ensures c.put_run.ensures
