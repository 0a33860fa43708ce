-- `basic_code::fetch_save` meets its contract. Assumes nothing.
use Rattle.basic_code.specs.Fetch.{SavedFits}
use Rattle.basic_code.specs.laws.FetchSteps.{save_cut, save_read, read_fits}
use Rattle.lists.specs.laws.ReadLaws.{read_below}
use native.Mathlib.Omega.{arith}
use mathlib.Core.Path.{sym, ◌∙◌}
use Rattle.basic_code.proofs.fetch_save.Goals as goal

pub returns-in_default : goal.returns-in_default
unfolding SavedFits
returns-in_default c = (λ v. save_cut _ _ _ v _ (sym c.read_field.ensures ∙ c.in_default.is), tt)

pub overflow_cast-result : goal.overflow_cast-result
overflow_cast-result c = omega (arith, read_below _ _ 8 _ _ (sym c.read_field.ensures ∙ c.in-Some.is))

pub returns : goal.returns
unfolding SavedFits
returns c =
    let pre = c.requires in (
      λ v. save_read _ _ _ v _ _ _ (sym c.read_field.ensures ∙ c.in-Some.is) _ c.link_at.ensures,
      (read_fits _ _ _ _ (pre) (sym c.read_field.ensures ∙ c.in-Some.is)),
    )
