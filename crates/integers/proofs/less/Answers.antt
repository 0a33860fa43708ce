-- `integers::less` meets its contract. Assumes nothing.
use Rattle.integers.proofs.Exact.{value_again}
use Rattle.integers.proofs.less.Goals as goal

pub returns : goal.returns
returns c =
    rw (
      value_again _ _ (c.signed_value.ensures.value, c.signed_value.ensures.near),
      value_again _ _ (c.signed_value-2.ensures.value, c.signed_value-2.ensures.near),
    )
