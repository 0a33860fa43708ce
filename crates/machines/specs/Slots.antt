-- An instruction with its entry resolved by the slot that the run's table has of it (files, Table).
use Rattle.std.specs.Prelude.{ℕ, ◌+◌, ◌*◌, ◌%◌, cond, List, leb, eqb, get_or, Option as OrNone, None, Some}
use Rattle.std.proofs.Math.Option.{Option, none, some}
use Rattle.cells.specs.Cells.{tag_of}
use Rattle.rules.specs.declared.Plain.{Plain}
use Rattle.machines.specs.Fetched.{Named, constant_named, global_named, template_named, none_named, rule_of}

-- what a slot x says
unfoldable pub slot_names : ℕ → Named
slot_names x =
    cond (eqb (tag_of x) 0) none_named
    (cond (leb (tag_of x) 6) (constant_named x)
    (cond (eqb (tag_of x) 11) (global_named (x % 256))
    (cond (eqb (tag_of x) 12) (template_named (x % 256)) none_named)))

-- slot n of template t's row
unfoldable pub slot_at : List ℕ → ℕ → ℕ → ℕ
slot_at table t n = get_or table (256 * t + n) 0

-- a neutral code's rule, where the template has these slots
unfoldable pub slot_resolve : (ℕ → ℕ) → ℕ → ℕ → ℕ → Option Plain
unfolding slot_names rule_of
slot_resolve slot op a b = rule_of (λ n. slot_names (slot n)) op a b

-- how resolving is told
unfoldable pub resolved_as : Option Plain → OrNone Plain
resolved_as none = None
resolved_as (some i) = Some i

-- what slot x holds under a tag
unfoldable pub marked_as : ℕ → ℕ → OrNone ℕ
marked_as tag x = cond (eqb (tag_of x) tag) (Some (x % 256)) None
