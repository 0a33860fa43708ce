-- Four sizes of tree files: a short one is read into a small table and few marks, since zeroing those of the longest would cost more than its run.
use Rattle.std.specs.Prelude.{ℕ, ◌≤◌, List, length}
use Rattle.files.specs.Room.{RoomFor}
use Rattle.tree.specs.declared.Tier.{Tier}
use Rattle.tree.specs.declared.Tier.TheVariants.{Small, Middle, Many, Large}

-- n numbers of a table are enough for the file, and it has at most b bytes
abbrev pub Fits : List ℕ → ℕ → ℕ → Type 0
Fits s n b = RoomFor s n × (length s ≤ b)

-- the file may be read as one of this size: 4 rows and 512 bytes, 16 rows and 4,096 bytes, 64 rows and 4,096 bytes, a file of any size
unfoldable pub InTier : List ℕ → Tier → Type 0
InTier s Small = Fits s 1024 512
InTier s Middle = Fits s 4096 4096
InTier s Many = length s ≤ 4096
InTier s Large = Unit
