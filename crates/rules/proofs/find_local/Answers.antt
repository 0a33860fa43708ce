-- `rules::find_local` meets its contract. The invariant: the walk from here finds what the walk from the start finds. Assumes nothing.
use native.Mathlib.Omega.{arith}
use Rattle.rules.specs.Answers.{found_at}
use Rattle.rules.proofs.Laws.{walk_none, walk_here, walk_over, walk_out}
use Rattle.rules.proofs.find_local.Goals as goal

pub loop-e-preserved : goal.loop-e-preserved
loop-e-preserved c = (
  omega (arith, c.layer_parent-e.ensures),
  omega arith,
  cc (walk_out c.args.store.now c.loop-e.e c.loop-e.left c.args.place c.if-e-eq0.false c.if-left-eq0.false),
)

pub returns-then-e-eq0 : goal.returns-then-e-eq0
unfolding found_at
returns-then-e-eq0 c = rw (← c.loop-e.invariant.2, walk_none _ _ _ _ c.if-e-eq0.true)

pub returns-then-place-layer_count : goal.returns-then-place-layer_count
unfolding found_at
returns-then-place-layer_count c =
    rw (
      ← c.loop-e.invariant.2,
      walk_here c.args.store.now c.loop-e.e c.loop-e.left c.args.place c.if-e-eq0.false
          c.if-left-eq0.true (omega arith),
    )

pub returns-else-place-layer_count : goal.returns-else-place-layer_count
unfolding found_at
returns-else-place-layer_count c =
    rw (
      ← c.loop-e.invariant.2,
      walk_over c.args.store.now c.loop-e.e c.loop-e.left c.args.place c.if-e-eq0.false
          c.if-left-eq0.true (omega arith),
    )
