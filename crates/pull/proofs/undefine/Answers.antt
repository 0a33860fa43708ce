-- `pull::undefine` meets its contract: what is left to fill, filled, gives globals that are all undefined. Assumes nothing.
use mathlib.Core.Path.{sym, ◌∙◌}
use lib.ListN.{length-set}
use Rattle.cells.specs.Cells.{undefined_cell}
use Rattle.pull.proofs.Clips.{fill_on, fill_done, fill_all}
use Rattle.pull.proofs.undefine.Goals as goal

pub loop-g-init : goal.loop-g-init
loop-g-init c = (c.told-globals, fill_all c.args.globals.now 256 undefined_cell c.told-globals)

pub loop-g-preserved : goal.loop-g-preserved
loop-g-preserved c =
    let i = c.loop-g.invariant in (simp length-set i.0, fill_on c.loop-g.globals c.loop-g.g 256 undefined_cell c.loop-g-test.true ∙ i.1)

pub returns : goal.returns
returns c = sym (fill_done c.loop-g.globals c.loop-g.g 256 undefined_cell c.loop-g-test.false) ∙ c.loop-g.invariant.1
