-- What basic code that was read is like.
use Rattle.std.specs.Prelude.{ℕ, zero, suc, ◌^◌, ◌≤◌, ◌<◌, ◌≡◌, true, List, [], ◌∷◌, length}
use Rattle.cells.specs.Numbers.{too_deep}
use Rattle.files.specs.Codes.{is_neutral, operands}
use Rattle.files.specs.Reading.{Got, refused}
use Rattle.files.specs.Entries.{Entry, constant, global, tag_width}
use Rattle.files.specs.Valid.{Bytes}
use Rattle.basic.specs.Basic.{Basic, ended, plain, carries, closure, branch, save, Token, ended_t, plain_t, carries_t, closure_t, branch_t, save_t}
use Rattle.basic.specs.Reading.{list_at}

-- return, call, or a neutral code from 10 on, each with as many operand bytes as it takes
pub data PlainOk : ℕ → List ℕ → Type 0 where
  return_ok : PlainOk 1 []
  call_ok : {n : ℕ} → n < 256 → PlainOk 2 (n ∷ [])
  neutral_ok : {v : ℕ} {ns : List ℕ} → 10 ≤ v → is_neutral v ≡ true → operands v ≡ length ns → Bytes ns → PlainOk v ns

pub data CarriesOk : ℕ → Entry → Type 0 where
  literal_ok : {t x : ℕ} → t < 6 → x < 2 ^ tag_width t → CarriesOk 6 (constant t x)
  global_ok : {g : ℕ} → g < 256 → CarriesOk 8 (global g)
  set_global_ok : {g : ℕ} → g < 256 → CarriesOk 9 (global g)

unfoldable pub TokenOk : Token → Type 0
TokenOk ended_t = Unit
TokenOk (plain_t v ns) = PlainOk v ns
TokenOk (carries_t v e) = CarriesOk v e
TokenOk closure_t = Unit
TokenOk branch_t = Unit
TokenOk (save_t n) = n < 256

unfoldable pub Ok : Basic → Type 0
Ok ended = Unit
Ok (plain v ns r) = PlainOk v ns × Ok r
Ok (carries v e r) = CarriesOk v e × Ok r
Ok (closure x r) = Ok x × Ok r
Ok (branch x y r) = Ok x × Ok y × Ok r
Ok (save n x r) = (n < 256) × Ok x × Ok r

-- how a list one level deeper is read; at the last level there is none
unfoldable pub below : List ℕ → ℕ → ℕ → Got Basic
below s zero p = refused too_deep p
below s (suc l) p = list_at s l p
