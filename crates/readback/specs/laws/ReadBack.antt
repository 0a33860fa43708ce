-- The linear file of an accepted tree file is read, and gives back the entries and the flat code of each template. Assumes nothing.
use Rattle.std.specs.Prelude.{ℕ, ◌*◌, ◌≡◌, List, length}
use Rattle.std.proofs.Common.{arith}
use Rattle.files.specs.Reading.{got}
use Rattle.files.specs.Tree.{Template}
use Rattle.files.specs.Linear.{linear_file, linear_read}
use Rattle.files.specs.laws.AllGot.{each_weaker}
use Rattle.files.specs.Accepted.{flat_checked}
use Rattle.files.specs.laws.AcceptedLaws.{checked_read, flat_checked_lem}
use Rattle.readback.specs.laws.Templates.{linears, linear_back}
use Rattle.readback.specs.laws.TreeFacts.{TreeFacts, tree_facts}

pub facts_read_back : (ts : List Template) → TreeFacts ts → linear_read (linear_file ts) ≡ got (linears 1 ts) (8 * length (linear_file ts))
facts_read_back ts f = linear_back ts f.at_least_one f.at_most_64 (each_weaker (λ n t h. h.writable) 0 ts f.each) (omega (arith, f.fits))

pub flattened_reads : (s : List ℕ) (ts : List Template) (q : ℕ) → flat_checked s ≡ got ts q
    → linear_read (linear_file ts) ≡ got (linears 1 ts) (8 * length (linear_file ts))
flattened_reads s ts q e = facts_read_back ts (tree_facts s ts q (checked_read s ts q (flat_checked_lem s ts q e)))
