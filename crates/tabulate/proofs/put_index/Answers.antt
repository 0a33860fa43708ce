-- `tabulate::put_index` meets its contract: the code, and the place of the slot and one more. Assumes nothing.
use Rattle.tabulate.specs.laws.PutLaws.{put_code_index}
use Rattle.bit_writer.proofs.theorems.Laws.{put_length}
use lib.ListN.{length}
use mathlib.Core.Path.{ap, ◌∙◌}
use native.Mathlib.Omega.{arith}
use Rattle.tabulate.proofs.put_index.Goals as goal

pub put_field-requires : goal.put_field-requires
put_field-requires c =
    let pre = c.requires in
    let m = ap length c.put_field-next.ensures.1 ∙ put_length _ _ _ in
    (omega (arith, m, pre.1), omega arith, omega (arith, c.find-i.ensures, pre.2, pre.0), omega (arith, m, c.put_field-next.ensures.0, pre.4))

pub shape_of-out : goal.shape_of-out
shape_of-out c =
    let m = ap length c.put_field-next.ensures.1 ∙ put_length _ _ _ in
    ap length c.put_field.ensures.1 ∙ put_length _ _ _ ∙ m

pub returns : goal.returns
returns c =
    let pre = c.requires in
    put_code_index _ _ _ _ _ _ _ _ _ (omega (arith, c.find-i.ensures)) pre.4 c.put_field-next.ensures.0 c.put_field-next.ensures.1 c.put_field.ensures.0
    c.put_field.ensures.1
