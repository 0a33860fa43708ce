-- `pull::set_globals` meets its contract: all undefined, then the first n words stored. Assumes nothing.
use Rattle.std.proofs.Common.{◌≡◌, refl, arith, length-set}
use Rattle.std.proofs.lemmas.List.{length-replicate}
use Rattle.cells.specs.Cells.{undefined_cell}
use Rattle.pull.proofs.Clips.{store_next, all_stored, undefined_fit, fit_set}
use Rattle.pull.proofs.set_globals.Goals as goal

pub loop-n-init : goal.loop-n-init
loop-n-init c =
    rw c.undefine.ensures (length-replicate 256 undefined_cell, refl, undefined_fit 256)

pub loop-n-preserved : goal.loop-n-preserved
loop-n-preserved c =
    let i = c.loop-n.invariant in (
      simp length-set i.0,
      store_next _ _ _ _ c.loop-n-test.true i.1 c.word_cell.ensures.value,
      fit_set _ _ _ i.2 c.word_cell.ensures.result_value,
    )

pub returns-clause-globals_after : goal.returns-clause-globals_after
returns-clause-globals_after c =
    let six : c.loop-n.n ≡ 6 = omega (arith, c.loop-n.auto.n-end, c.loop-n-test.false) in
    all_stored _ _ (rw six at c.loop-n.invariant.1)
