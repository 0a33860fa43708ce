-- The bounds of the registers that index lent cells.
use Rattle.std.specs.Prelude.{◌≤◌, ℕ, Result, Ok, Err}
use Rattle.rules.specs.declared.Regs.{Regs}
use Rattle.rules.specs.declared.Wrong.{Wrong}

pub record Fit (r : Regs) : Type 0 where
  pub fit_sp : r.sp ≤ 256
  pub fit_st : r.st ≤ 2048

-- the registers that a rule goes on with fit
abbrev pub EndFit : Result Regs Wrong → Type 0
EndFit (Ok r) = Fit r
EndFit (Err w) = Unit {0}

abbrev pub CallFit : Result (ℕ × Regs) Wrong → Type 0
CallFit (Ok x) = Fit x.1
CallFit (Err w) = Unit {0}
