-- `flatten::write_templates` meets its contract: the loop's invariant: the templates from `own` on go into what is left of the output. Assumes nothing.
use native.Mathlib.Omega.{arith}
use mathlib.Core.Path.{refl, ◌∙◌}
use lib.ListN.{length}
use Rattle.flatten.specs.laws.FileSteps.{left_all, left_none, left_template, left_next}
use Rattle.flatten.proofs.write_templates.Goals as goal

pub loop-own-init : goal.loop-own-init
loop-own-init c = (refl, left_all _ _ _ _ _ _ c.requires.to_write)

pub write_template-past-requires : goal.write_template-past-requires
write_template-past-requires c =
    let p = c.requires in
    record {
      sizes = (p.sizes.0, omega (arith, p.sizes.1, c.loop-own-test.true), omega (arith, c.loop-own-test.true, c.loop-own.invariant.1.now.few));
      to_write = left_template _ _ _ _ _ _ _ _ _ _ c.loop-own.invariant.1 c.loop-own-test.true _ (omega (arith, c.loop-own.invariant.0));
    }

pub loop-own-preserved : goal.loop-own-preserved
loop-own-preserved c = (
  c.write_template-past.auto.out ∙ c.loop-own.invariant.0,
  left_next _ _ _ _ _ _ _ _ _ _ c.loop-own.invariant.1 c.loop-own-test.true (length c.loop-own.out) (omega (arith, c.loop-own.invariant.0))
      (c.write_template-past.ensures (left_template _ _ _ _ _ _ _ _ _ _ c.loop-own.invariant.1 c.loop-own-test.true (length c.loop-own.out) (omega (arith, c.loop-own.invariant.0)))),
)

pub shape_of-out : goal.shape_of-out
shape_of-out c = c.loop-own.invariant.0

pub returns : goal.returns
returns c = left_none _ _ _ _ _ _ _ _ _ _ c.loop-own.invariant.1 c.loop-own-test.false
