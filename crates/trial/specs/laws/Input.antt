-- What reading the sheet promises: bytes, behind those that are there, within the buffer. Assumes nothing.
use Rattle.std.specs.Prelude.{ℕ, ◌+◌, ◌≤◌, ◌≡◌, Result, Ok}
use Rattle.std.proofs.Common.{subst}
use Rattle.trial.specs.Input.{Within}

pub within_read : {E : Type 0} (done most n : ℕ) (x : Result ℕ E) → Within done x most → x ≡ Ok n → done + n ≤ most
within_read done most n x within told = subst (λ y. Within done y most) told within
