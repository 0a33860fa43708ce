-- A basic file that is accepted.
use Rattle.std.specs.Prelude.{ℕ, ◌≡◌, List}
use Rattle.files.specs.Reading.{got}
use Rattle.basic.specs.Basic.{Basic}
use Rattle.basic.specs.Checked.{basic_checked}

pub record AcceptedFile (s : List ℕ) : Type 0 where
  pub code : Basic
  pub past : ℕ
  pub checked : basic_checked s ≡ got code past
