-- `pull::word_cell` meets its contract. Assumes nothing.
use mathlib.Core.Path.{ap, ◌∙◌}
use Rattle.cells.specs.Cells.{int_cell, starting_global}
use Rattle.pull.proofs.Clips.{integer_fits}
use Rattle.pull.specs.Pull.{word_cell}
use Rattle.pull.proofs.word_cell.Goals as goal

pub returns : goal.returns
unfolding word_cell
returns c =
    let w = c.word_bits.ensures in
    record { value = c.int_cell.ensures ∙ ap int_cell w.value; result_value = ap starting_global c.int_cell.ensures ∙ integer_fits _ w.upper_bound }
