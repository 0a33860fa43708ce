-- `tree_file::put_constant` meets its contract: kind 1 and the tag are one field, and an integer follows where there is one. Assumes nothing.
use native.Mathlib.Omega.{arith}
use mathlib.Core.Path.{ap, ◌∙◌}
use lib.ListN.{length}
use Rattle.files.specs.laws.EntriesLaws.{width_none, width_narrow, width_wide}
use Rattle.bit_writer.proofs.theorems.Laws.{put_length}
use Rattle.tree_file.proofs.theorems.Written.{plain_constant, integer_constant}
use Rattle.tree_file.proofs.put_constant.Goals as goal

pub overflow_cast-value : goal.overflow_cast-value
overflow_cast-value c =
    let h = rw (width_narrow c.args.tag c.if-tag-eq4.true) at c.requires.2 in
    omega arith

pub put_word-requires : goal.put_word-requires
put_word-requires c =
    let h = c.requires in
    let w = width_narrow c.args.tag c.if-tag-eq4.true in
    let e = c.put_field-next.ensures in
    let m = ap length e.1 ∙ put_length _ _ _ in
    (omega (arith, h.0, m), omega (arith, h.3, m, e.0, w))

pub returns-then-tag-eq4 : goal.returns-then-tag-eq4
returns-then-tag-eq4 c =
    let h = c.requires in
    let w = width_narrow c.args.tag c.if-tag-eq4.true in
    let e₁ = c.put_field-next.ensures in
    let e₂ = c.put_word.ensures in record { result_value = omega (arith, w, e₁.0, e₂.0); out_after = integer_constant c.args.out.now _ c.args.at.0 _ _ c.args.tag c.args.value 32 h.1 w (omega (arith, w, h.3)) e₁.1 e₁.0 e₂.1 }

pub put_wide-requires : goal.put_wide-requires
put_wide-requires c =
    let h = c.requires in
    let w = width_wide c.args.tag c.if-tag-eq5.true in
    let e = c.put_field-next.ensures in
    let m = ap length e.1 ∙ put_length _ _ _ in
    (omega (arith, h.0, m), rw w at h.2, omega (arith, h.3, m, e.0, w))

pub returns-then-tag-eq5 : goal.returns-then-tag-eq5
returns-then-tag-eq5 c =
    let h = c.requires in
    let w = width_wide c.args.tag c.if-tag-eq5.true in
    let e₁ = c.put_field-next.ensures in
    let e₂ = c.put_wide.ensures in record { result_value = omega (arith, w, e₁.0, e₂.0); out_after = integer_constant c.args.out.now _ c.args.at.0 _ _ c.args.tag c.args.value 48 h.1 w (omega (arith, w, h.3)) e₁.1 e₁.0 e₂.1 }

pub returns : goal.returns
returns c =
    let w = width_none c.args.tag c.if-tag-eq4.false c.if-tag-eq5.false in
    let e = c.put_field-next.ensures in
    record { result_value = omega (arith, w, e.0); out_after = plain_constant c.args.out.now _ c.args.at.0 c.args.tag c.args.value c.requires.1 w e.1 }
