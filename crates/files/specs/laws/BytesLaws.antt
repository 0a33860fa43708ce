-- Parts of a list of bytes are bytes. Assumes nothing.
use Rattle.std.specs.Prelude.{ℕ, zero, suc, ◌<◌, List, [], ◌∷◌, ◌++◌, get_or, take, drop}
use Rattle.std.proofs.Common.{arith}
use Rattle.files.specs.Valid.{Bytes}

pub bytes_at : (z : List ℕ) → Bytes z → (k : ℕ) → get_or z k 0 < 256
unfolding Bytes
bytes_at [] b k = omega arith
bytes_at (a ∷ z) b zero = b.0
bytes_at (a ∷ z) b (suc k) = bytes_at z b.1 k

pub bytes_append : (u v : List ℕ) → Bytes u → Bytes v → Bytes (u ++ v)
unfolding Bytes
bytes_append [] v a b = b
bytes_append (n ∷ u) v a b = (a.0, bytes_append u v a.1 b)

pub bytes_left : (u v : List ℕ) → Bytes (u ++ v) → Bytes u
unfolding Bytes
bytes_left [] v b = tt
bytes_left (n ∷ u) v b = (b.0, bytes_left u v b.1)

pub bytes_right : (u v : List ℕ) → Bytes (u ++ v) → Bytes v
unfolding Bytes
bytes_right [] v b = b
bytes_right (n ∷ u) v b = bytes_right u v b.1

pub bytes_take : (n : ℕ) (w : List ℕ) → Bytes w → Bytes (take n w)
unfolding Bytes
bytes_take zero w b = tt
bytes_take (suc n) [] b = tt
bytes_take (suc n) (a ∷ w) b = (b.0, bytes_take n w b.1)

pub bytes_drop : (n : ℕ) (w : List ℕ) → Bytes w → Bytes (drop n w)
unfolding Bytes
bytes_drop zero w b = b
bytes_drop (suc n) [] b = tt
bytes_drop (suc n) (a ∷ w) b = bytes_drop n w b.1
