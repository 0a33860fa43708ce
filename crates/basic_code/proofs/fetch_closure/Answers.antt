-- `basic_code::fetch_closure` meets its contract. Assumes nothing.
use mathlib.Core.Path.{ap, ◌∙◌}
use Prim.Native.Nat.{◌/◌, ◌%◌}
use Rattle.basic_code.specs.Fetch.{SavedFits}
use Rattle.basic_code.specs.laws.FetchSteps.{closure_read}
use Rattle.basic_code.proofs.fetch_closure.Goals as goal

pub returns : goal.returns
unfolding SavedFits
returns c =
    let e = c.number-link.ensures ∙ c.link_at.ensures in
    (λ s v q h. closure_read s _ _ v q _ _ h (ap (λ n. n % 64) e) (ap (λ n. n / 64) e), tt)
