-- `tabulate::put_entry` meets its contract: by its kind. Assumes nothing.
use Rattle.tabulate.specs.laws.PutLaws.{bits_of_tag}
use Rattle.tabulate.specs.laws.PutLaws.{slot_global, slot_template, slot_constant, put_global, put_template, put_const, bits_of_6, bits_of_7}
use Rattle.bit_writer.proofs.theorems.Laws.{put_length}
use lib.ListN.{length}
use mathlib.Core.Path.{ap, ◌∙◌}
use native.Mathlib.Omega.{arith}
use Rattle.tabulate.proofs.put_entry.Goals as goal

pub overflow_cast-value : goal.overflow_cast-value
overflow_cast-value c = let k = slot_global _ c.requires.1 c.in-6.is in omega (arith, k.1)

pub put_numbered-requires : goal.put_numbered-requires
put_numbered-requires c =
    let pre = c.requires in
    (omega (arith, pre.0), omega arith, omega (arith, pre.2, bits_of_6 _ c.in-6.is))

pub overflow_cast-value-in-7 : goal.overflow_cast-value-in-7
overflow_cast-value-in-7 c = let k = slot_template _ c.requires.1 c.in-7.is in omega (arith, k.1)

pub put_numbered-requires-in-7 : goal.put_numbered-requires-in-7
put_numbered-requires-in-7 c =
    let pre = c.requires in
    (omega (arith, pre.0), omega arith, omega (arith, pre.2, bits_of_7 _ c.in-7.is))

pub put_constant-requires : goal.put_constant-requires
put_constant-requires c =
    let k = slot_constant _ c.requires.1 c.in_default.in_default-own.rest.0.1 c.in_default.in_default-own.rest.1 in
    (omega (arith, c.requires.0), k.1, k.2, omega (arith, c.requires.2, bits_of_tag _ k.1))

pub shape_of-out-in-6 : goal.shape_of-out-in-6
shape_of-out-in-6 c = ap length c.put_numbered.ensures.1 ∙ put_length _ _ _

pub returns-in-6 : goal.returns-in-6
returns-in-6 c = λ w. put_global _ _ (slot_global _ w c.in-6.is).0 c.put_numbered.ensures.0 c.put_numbered.ensures.1

pub shape_of-out-in-7 : goal.shape_of-out-in-7
shape_of-out-in-7 c = ap length c.put_numbered-in-7.ensures.1 ∙ put_length _ _ _

pub returns-in-7 : goal.returns-in-7
returns-in-7 c = λ w. put_template _ _ (slot_template _ w c.in-7.is).0 c.put_numbered-in-7.ensures.0 c.put_numbered-in-7.ensures.1

pub shape_of-out-in_default : goal.shape_of-out-in_default
shape_of-out-in_default c = ap length c.put_constant.ensures.out_after ∙ put_length _ _ _

pub returns-in_default : goal.returns-in_default
returns-in_default c = λ w. put_const _ _ _ (slot_constant _ w c.in_default.in_default-own.rest.0.1 c.in_default.in_default-own.rest.1).0 c.put_constant.ensures.result_value c.put_constant.ensures.out_after
