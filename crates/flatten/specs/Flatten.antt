-- Flattening a tree file into a lent output (document 01, 'Flattening' and 'File refusals').
use Rattle.std.specs.Prelude.{ℕ, List}
use Rattle.files.specs.Reading.{Got}
use Rattle.files.specs.Entries.{then}
use Rattle.files.specs.Accepted.{flat_accepted}
use Rattle.files.specs.Linear.{linear_file}
use Rattle.files.specs.Outcome.{into_bytes}

-- the linear file of the tree file s, for an output of n bytes: 9, last
unfoldable pub flattened : List ℕ → ℕ → Got (List ℕ)
unfolding into_bytes
flattened s n = then (flat_accepted s) (λ ts q. into_bytes n (linear_file ts) q)
