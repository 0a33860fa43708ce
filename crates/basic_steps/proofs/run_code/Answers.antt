-- `basic_steps::run_code` meets its contract. Assumes nothing.
use mathlib.Core.Path.{refl, ap, ◌∙◌}
use Rattle.machines.specs.Instruction.{number, form_of}
use Rattle.machines.specs.Steps.{ran_from}
use Rattle.machines.specs.declared.CodePlace.TheVariants.{Tree}
use Rattle.steps.specs.Step.{CodeReady}
use Rattle.steps.proofs.RunLaws.{first_ready, first_is}
use Rattle.basic_steps.proofs.run_code.Goals as goal

pub run_from-requires : goal.run_from-requires
unfolding form_of CodeReady
run_from-requires c =
    (refl, first_ready _ _ _ c.requires)

pub returns : goal.returns
unfolding number
returns c =
    let e = c.clear_all.ensures in
    c.run_from.ensures ∙ ap (ran_from _ _ _ 0) (first_is _ (Tree c.args.first) e.0 e.1 e.2)
