-- The bits of the joined file, as they are copied from the operands a and b.
use Rattle.std.specs.Prelude.{ℕ, ◌+◌, ◌-◌, List, ◌++◌}
use Rattle.files.specs.Linear.{bits_of}
use Rattle.readback.specs.Lists.{bits_from}
use Rattle.join.specs.declared.First.{First}

-- T, E, the prologue's entries and the file's, which end at p and q
unfoldable pub entries_of : List ℕ → ℕ → List ℕ → ℕ → ℕ → ℕ → List ℕ
entries_of a p b q count entries = bits_of 8 count ++ (bits_of 8 entries ++ (bits_from a 16 (p - 16) ++ bits_from b 16 (q - 16)))

abbrev pub entries_copied : List ℕ → First → List ℕ → First → ℕ → List ℕ
entries_copied a x b y count = entries_of a x.start.0 b y.start.0 count (x.entries + y.entries)

-- the prologue's list up to the joint, the file's as it is moved, the rest of the prologue's, the other templates
unfoldable pub lists_copied : List ℕ → First → ℕ → List ℕ → First → ℕ → List ℕ → List ℕ
lists_copied a x joint b y end moved =
    bits_from a x.start.0 (joint - x.start.0)
    ++ (moved ++ (bits_from a joint (x.past.0 - joint) ++ bits_from b y.past.0 (end - y.past.0)))
