-- `integers::floor_div` meets its contract. Assumes nothing.
use mathlib.Core.Path.{◌∙◌}
use Rattle.integers.proofs.Dividing.{asked, floor_value}
use Rattle.integers.proofs.floor_div.Goals as goal

pub floor_quotient-requires : goal.floor_quotient-requires
floor_quotient-requires c =
    let both =
    asked _ _ _ _ (c.signed_value.ensures.value, c.signed_value.ensures.near) (c.signed_value-2.ensures.value, c.signed_value-2.ensures.near)
    c.requires.b_fits c.requires.not_zero in
    record { x_fits = both.0; not_zero = both.1 }

pub returns : goal.returns
returns c =
    c.in_range.ensures
    ∙ rw
    (floor_value _ _ _ _ (c.signed_value.ensures.value, c.signed_value.ensures.near) (c.signed_value-2.ensures.value, c.signed_value-2.ensures.near) _
    c.floor_quotient.ensures)
