-- `lists::read_run` meets its contract: each turn takes one neutral instruction on, and unread bits fall. Assumes nothing.
use Prim.Native.Nat.{◌+◌, ◌/◌, ◌≤◌, ◌<◌}
use native.Mathlib.Omega.{arith}
use mathlib.Core.Path.{refl, ◌∙◌}
use lib.ListN.{length}
use Rattle.lists.specs.Pass.{run_shape, none}
use Rattle.lists.specs.laws.RunLaws.{run_bits, window_at, window_line, run_line}
use Rattle.lists.proofs.read_run.Goals as goal
use Rattle.lists.proofs.read_run.Goals.{In-Some}

-- a turn that goes on: its code is neutral, and its line lies within the file
going_on : (k : In-Some) →
    let n = k.in-Some.bytes in
    let here = k.loop-line.here.0 in
    let bytes = length k.args.s.now in
    (1 ≤ n) × (n ≤ 3) × (6 ≤ k.line_in-line.result / 65536) × (here / 8 + 7 < bytes) × (bytes ≤ 65536)
unfolding run_shape
going_on k =
    let run = k.run_size.ensures _ k.in-Some.is in
    let shape = run.1 run.0 in
    let pre = k.requires in
    (run.0, shape.1, shape.2, omega (arith, k.byte-in-loop-line.ensures, k.loop-line-test.true), pre.0)

pub returns-then-s-byte : goal.returns-then-s-byte
returns-then-s-byte c = none

pub four_at-high-requires : goal.four_at-high-requires
four_at-high-requires c = omega (arith, c.if-s-byte.false, c.byte-2.ensures, c.byte.ensures, c.requires.0)

pub four_at-low-requires : goal.four_at-low-requires
four_at-low-requires c = omega (arith, c.if-s-byte.false, c.byte-3.ensures, c.byte.ensures, c.requires.0)

pub loop-line-init : goal.loop-line-init
loop-line-init c = (
  none,
  window_at _ _ _ _ _ _ _ c.bit-skip.ensures c.byte-2.ensures c.byte-3.ensures c.four_at-high.ensures c.four_at-low.ensures 0 (omega arith) _ _ (omega arith)
      (omega arith),
  omega (arith, c.if-s-byte.false, c.byte.ensures),
)

pub line_in-line-requires : goal.line_in-line-requires
line_in-line-requires c =
    let near = c.loop-line.invariant.1.near in
    omega (arith, near)

pub run_size-requires : goal.run_size-requires
run_size-requires c = c.line_in-line.ensures.1

pub returns-in_default : goal.returns-in_default
returns-in_default c = c.loop-line.invariant.0

pub four_at-high-requires-in-loop-line : goal.four_at-high-requires-in-loop-line
four_at-high-requires-in-loop-line c =
    let g = going_on (goal.at.four_at-high-requires-in-loop-line c).In-Some in
    omega (arith, g, c.byte-in-loop-line-2.ensures)

pub four_at-low-requires-in-loop-line : goal.four_at-low-requires-in-loop-line
four_at-low-requires-in-loop-line c =
    let g = going_on (goal.at.four_at-low-requires-in-loop-line c).In-Some in
    omega (arith, g, c.byte-in-loop-line-3.ensures)

pub overflow_mul-skip : goal.overflow_mul-skip
overflow_mul-skip c =
    let g = going_on (goal.at.overflow_mul-skip c).In-Some in
    omega (arith, g.1)

pub overflow_add-skip : goal.overflow_add-skip
overflow_add-skip c =
    let g = going_on (goal.at.overflow_add-skip c).In-Some in
    omega (arith, g, c.bit.ensures)

pub overflow_sub-skip : goal.overflow_sub-skip
overflow_sub-skip c =
    let g = going_on (goal.at.overflow_sub-skip c).In-Some in
    omega (arith, g.0)

pub overflow_sub-bytes : goal.overflow_sub-bytes
overflow_sub-bytes c =
    let g = going_on (goal.at.overflow_sub-bytes c).In-Some in
    omega (arith, g.0)

pub loop-line-smaller : goal.loop-line-smaller
loop-line-smaller c =
    let g = going_on (goal.at.loop-line-smaller c).In-Some in
    omega (arith, g, c.past-here.ensures)

pub slot_named-requires : goal.slot_named-requires
slot_named-requires c =
    let g = going_on (goal.at.slot_named-requires c).In-Some in
    (c.requires.1, c.requires.2, omega arith, g.2)

pub overflow_add-size : goal.overflow_add-size
overflow_add-size c =
    let g = going_on (goal.at.overflow_add-size c).In-Some in
    let bits = run_bits _ _ _ _ c.loop-line.invariant.0 in
    omega (arith, g, bits.0)

pub overflow_mul-bytes : goal.overflow_mul-bytes
overflow_mul-bytes c =
    let g = going_on (goal.at.overflow_mul-bytes c).In-Some in
    omega (arith, g.1)

pub past-here-requires : goal.past-here-requires
past-here-requires c =
    let g = going_on (goal.at.past-here-requires c).In-Some in
    omega (arith, g)

pub loop-line-preserved : goal.loop-line-preserved
loop-line-preserved c =
    let g = going_on (goal.at.loop-line-preserved c).In-Some in
    let line = c.line_in-line.ensures.0 ∙ window_line _ _ _ _ _ c.loop-line.invariant.1 in (
      run_line _ _ _ _ _ _ _ c.loop-line.invariant.0 _ _ line (c.run_size.ensures _ c.in-Some.is).1 g.0 (omega (arith, g)) _ c.past-here.ensures _ refl _ _ c.slot_named.ensures
          c.both-named.ensures,
      window_at _ _ _ _ _ _ _ c.bit.ensures c.byte-in-loop-line-2.ensures c.byte-in-loop-line-3.ensures c.four_at-high-in-loop-line.ensures c.four_at-low-in-loop-line.ensures _ (omega (arith, g.1)) _ _
          c.past-here.ensures refl,
      omega (arith, g, c.past-here.ensures),
    )

pub returns : goal.returns
returns c = c.loop-line.invariant.0
