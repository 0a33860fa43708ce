-- `integers::difference` meets its contract. Assumes nothing.
use mathlib.Core.Path.{◌∙◌}
use Rattle.integers.proofs.Exact.{difference_fits, difference_is}
use Rattle.integers.proofs.difference.Goals as goal

pub overflow_sub-signed_value : goal.overflow_sub-signed_value
overflow_sub-signed_value c = difference_fits _ _ _ _ (c.signed_value.ensures.value, c.signed_value.ensures.near) (c.signed_value-2.ensures.value, c.signed_value-2.ensures.near)

pub returns : goal.returns
returns c =
    c.in_range.ensures
    ∙ rw
    (difference_is _ _ _ _ (c.signed_value.ensures.value, c.signed_value.ensures.near)
    (c.signed_value-2.ensures.value, c.signed_value-2.ensures.near))
