-- Owners (document 02, request 12): globals 0 to 63 belong to the house, 64 to 255 to a vendor. The house reads and sets its own alone; a vendor
-- reads all and sets its own alone.
use Rattle.std.specs.Prelude.{ℕ, Bool, true, cond, ltb, leb, eqb, Option, Some, None}
use Rattle.owners.specs.declared.Owner.{Owner}
use Rattle.owners.specs.declared.Owner.TheVariants.{House, Vendor}

unfoldable pub may_read : Owner → ℕ → Bool
may_read House g = ltb g 64
may_read Vendor g = true

unfoldable pub may_set : Owner → ℕ → Bool
may_set House g = ltb g 64
may_set Vendor g = leb 64 g

-- ---- an owner by its number: 0 is the house, 1 a vendor; another is refused 31 (machines, Runs), so that it does not matter what it would be
unfoldable pub is_owner : ℕ → Bool
is_owner n = leb n 1

unfoldable pub owner_of : ℕ → Owner
owner_of n = cond (eqb n 0) House Vendor

-- the owner of that number, if it is an owner's
unfoldable pub owner_told : ℕ → Option Owner
unfolding is_owner owner_of
owner_told n = cond (is_owner n) (Some (owner_of n)) None
