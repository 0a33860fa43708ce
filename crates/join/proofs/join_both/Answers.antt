-- `join::join_both` meets its contract: each answer leads to its case of `joined_file`. Assumes nothing.
use native.Mathlib.Omega.{arith}
use mathlib.Core.Path.{refl}
use lib.Seq.{length-take-le}
use Rattle.join.specs.laws.PutLaws.{operand_short}
use Rattle.join.proofs.theorems.FileLaws.{both, both_x, both_y, both_end, few, code_x, depth_few, bounds, write_bounds, join_many, join_deep, join_long, join_short, tokens_y, join_written}
use Rattle.join.proofs.join_both.Goals as goal

pub first_template-x-requires : goal.first_template-x-requires
first_template-x-requires c = c.requires.prologue.operand

pub first_template-y-requires : goal.first_template-y-requires
first_template-y-requires c = c.requires.file

pub overflow_add-x : goal.overflow_add-x
overflow_add-x c =
    let pre = c.requires in
    let h = (few (both pre) _ _ (both_x pre (c.first_template-x.ensures pre.prologue.operand))
    (both_y pre (c.first_template-y.ensures pre.file))) in
    omega (arith, h)

pub returns-then-x-y-gt255 : goal.returns-then-x-y-gt255
returns-then-x-y-gt255 c =
    let pre = c.requires in
    let all = join_many (both pre) _ _ (both_x pre (c.first_template-x.ensures pre.prologue.operand))
    (both_y pre (c.first_template-y.ensures pre.file)) _ c.if-x-y-gt255.true in
    record { value = all.0; out_after = all.1 }

pub find_joint-joint-requires : goal.find_joint-joint-requires
find_joint-joint-requires c =
    let pre = c.requires in (
      operand_short pre.prologue.operand,
      code_x (both pre) _ _ (both_x pre (c.first_template-x.ensures pre.prologue.operand))
          (both_y pre (c.first_template-y.ensures pre.file)),
    )

pub overflow_sub-joint : goal.overflow_sub-joint
overflow_sub-joint c =
    let pre = c.requires in
    depth_few (both pre) _ _ (both_x pre (c.first_template-x.ensures pre.prologue.operand))
    (both_y pre (c.first_template-y.ensures pre.file)) (omega (arith, c.if-x-y-gt255.false)) _ c.find_joint-joint.ensures

pub levels_fit-requires : goal.levels_fit-requires
levels_fit-requires c =
    let pre = c.requires in
    (operand_short pre.file, omega arith)

pub file_end-end-requires : goal.file_end-end-requires
file_end-end-requires c =
    let k = c.requires in
    record { operand = k.file; first_is = c.first_template-y.ensures }

pub since-requires : goal.since-requires
since-requires c =
    let pre = c.requires in
    let b = bounds (both pre) _ _ (both_x pre (c.first_template-x.ensures pre.prologue.operand))
    (both_y pre (c.first_template-y.ensures pre.file)) _ (both_end pre (c.file_end-end.ensures pre.file)) in
    omega (arith, b)

pub since-requires-then-levels_fit : goal.since-requires-then-levels_fit
since-requires-then-levels_fit c =
    let pre = c.requires in
    let b = bounds (both pre) _ _ (both_x pre (c.first_template-x.ensures pre.prologue.operand))
    (both_y pre (c.first_template-y.ensures pre.file)) _ (both_end pre (c.file_end-end.ensures pre.file)) in
    omega (arith, b)

pub overflow_add-size : goal.overflow_add-size
overflow_add-size c =
    let pre = c.requires in
    let b = bounds (both pre) _ _ (both_x pre (c.first_template-x.ensures pre.prologue.operand))
    (both_y pre (c.first_template-y.ensures pre.file)) _ (both_end pre (c.file_end-end.ensures pre.file)) in
    omega (arith, b, c.since.ensures, c.since-then-levels_fit.ensures)

pub overflow_add-size-then-levels_fit : goal.overflow_add-size-then-levels_fit
overflow_add-size-then-levels_fit c =
    let pre = c.requires in
    let b = bounds (both pre) _ _ (both_x pre (c.first_template-x.ensures pre.prologue.operand))
    (both_y pre (c.first_template-y.ensures pre.file)) _ (both_end pre (c.file_end-end.ensures pre.file)) in
    omega (arith, b, c.since.ensures, c.since-then-levels_fit.ensures)

pub returns-then-size-gt65536 : goal.returns-then-size-gt65536
returns-then-size-gt65536 c =
    let pre = c.requires in
    let all = join_long (both pre) _ _ (both_x pre (c.first_template-x.ensures pre.prologue.operand))
    (both_y pre (c.first_template-y.ensures pre.file)) (omega (arith, c.if-x-y-gt255.false)) _ c.find_joint-joint.ensures _ c.levels_fit.ensures c.if-levels_fit.true _ _ _
    _ (both_end pre (c.file_end-end.ensures pre.file)) c.since.ensures c.since-then-levels_fit.ensures refl _ c.if-size-gt65536.true in
    record { value = all.0; out_after = all.1 }

pub returns-then-out-size : goal.returns-then-out-size
returns-then-out-size c =
    let pre = c.requires in
    let all = join_short (both pre) _ _ (both_x pre (c.first_template-x.ensures pre.prologue.operand))
    (both_y pre (c.first_template-y.ensures pre.file)) (omega (arith, c.if-x-y-gt255.false)) _ c.find_joint-joint.ensures _ c.levels_fit.ensures c.if-levels_fit.true _ _ _
    _ (both_end pre (c.file_end-end.ensures pre.file)) c.since.ensures c.since-then-levels_fit.ensures refl c.if-size-gt65536.false _ c.if-out-size.true in
    record { value = all.0; out_after = all.1 }

pub write_joined-requires : goal.write_joined-requires
write_joined-requires c =
    let pre = c.requires in
    let m = length-take-le _ c.args.out.now c.if-out-size.false in
    let w = write_bounds (both pre) _ _ (both_x pre (c.first_template-x.ensures pre.prologue.operand))
    (both_y pre (c.first_template-y.ensures pre.file)) (omega (arith, c.if-x-y-gt255.false)) _ c.find_joint-joint.ensures _ c.levels_fit.ensures c.if-levels_fit.true _
    _ _ _ (both_end pre (c.file_end-end.ensures pre.file)) c.since.ensures c.since-then-levels_fit.ensures refl c.if-size-gt65536.false in record {
      sizes = (operand_short pre.prologue.operand, operand_short pre.file, rw m (omega (arith, c.if-size-gt65536.false)));
      joint_in = w.0;
      file_in = w.1;
      entries_few = c.if-x-y-gt255.false;
      room = rw m w.2;
      tokens_at = tokens_y (both pre) _ _ (both_x pre (c.first_template-x.ensures pre.prologue.operand))
          (both_y pre (c.first_template-y.ensures pre.file)) (omega (arith, c.if-x-y-gt255.false)) _ c.find_joint-joint.ensures _ c.levels_fit.ensures c.if-levels_fit.true _ _ _
          _ (both_end pre (c.file_end-end.ensures pre.file)) c.since.ensures c.since-then-levels_fit.ensures refl c.if-size-gt65536.false;
    }

pub returns-then-levels_fit : goal.returns-then-levels_fit
returns-then-levels_fit c =
    let pre = c.requires in
    let all = join_written (both pre) _ _ (both_x pre (c.first_template-x.ensures pre.prologue.operand))
    (both_y pre (c.first_template-y.ensures pre.file)) (omega (arith, c.if-x-y-gt255.false)) _ c.find_joint-joint.ensures _ c.levels_fit.ensures c.if-levels_fit.true _ _ _
    _ (both_end pre (c.file_end-end.ensures pre.file)) c.since.ensures c.since-then-levels_fit.ensures refl c.if-size-gt65536.false _ c.move_indices.ensures _ _ c.if-out-size.false
    c.write_joined.ensures _ refl in
    record { value = all.0; out_after = all.1 }

pub returns : goal.returns
returns c =
    let pre = c.requires in
    let all = join_deep (both pre) _ _ (both_x pre (c.first_template-x.ensures pre.prologue.operand))
    (both_y pre (c.first_template-y.ensures pre.file)) (omega (arith, c.if-x-y-gt255.false)) _ c.find_joint-joint.ensures _ c.levels_fit.ensures _
    c.if-levels_fit.false in
    record { value = all.0; out_after = all.1 }
