-- `tabulate::write_tabulated` meets its contract: T, and the templates. Assumes nothing.
use Rattle.tabulate.specs.laws.TabulateLaws.{count_fits, templates_in, file_put}
use Rattle.bit_writer.proofs.theorems.Laws.{put_length}
use lib.ListN.{length}
use mathlib.Core.Path.{ap, ◌∙◌}
use native.Mathlib.Omega.{arith}
use Rattle.tabulate.proofs.write_tabulated.Goals as goal

pub overflow_cast-count : goal.overflow_cast-count
overflow_cast-count c = let f = count_fits c.requires.2 in omega (arith, f.0)

pub put_field-at-requires : goal.put_field-at-requires
put_field-at-requires c =
    let pre = c.requires in
    let f = count_fits pre.2 in
    (omega (arith, pre.1), omega arith, omega (arith, f.0), omega (arith, f.1))

pub put_templates-requires : goal.put_templates-requires
put_templates-requires c =
    let pre = c.requires in
    let m = ap length c.put_field-at.ensures.1 ∙ put_length _ _ _ in
    (pre.0, omega (arith, m, pre.1), templates_in pre.2 _ _ (omega (arith, c.put_field-at.ensures.0)) c.put_field-at.ensures.1)

pub returns : goal.returns
returns c = λ w. file_put w _ _ (omega (arith, c.put_field-at.ensures.0)) c.put_field-at.ensures.1 _ _ c.put_templates.ensures
