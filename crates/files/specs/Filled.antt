-- What reading the templates of a file, tree or linear, leaves in a run's table: one row after the other, up to the first refusal.
use Rattle.std.specs.Prelude.{ℕ, zero, suc, ◌+◌, cond, ◌&&◌, List, leb}
use Rattle.files.specs.Reading.{Got, got, refused}

-- on with the next template where this one was read
unfoldable pub filled_then : {A : Type 0} → Got A → (ℕ → List ℕ → List ℕ) → List ℕ → List ℕ
filled_then (got t q) f table = f q table
filled_then (refused n p) f table = table

-- `read` reads template own of T at a place, `fill` fills its row
module _ {A : Type 0} (read : ℕ → ℕ → ℕ → Got A) (fill : ℕ → ℕ → ℕ → List ℕ → List ℕ) where
  -- by n templates from number own on
  unfoldable pub templates_by : ℕ → ℕ → ℕ → ℕ → List ℕ → List ℕ
  templates_by T own zero p table = table
  templates_by T own (suc n) p table = filled_then (read own T p) (templates_by T (own + 1) n) (fill own T p table)

  -- by what T is read as
  unfoldable pub count_by : Got ℕ → List ℕ → List ℕ
  count_by (got T p) table = cond (leb 1 T && leb T 64) (templates_by T 0 T p table) table
  count_by (refused n p) table = table
