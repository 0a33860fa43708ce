-- What is known where two answers are the same: their parts are. Assumes nothing.
use Rattle.std.specs.Prelude.{ℕ, ◌≡◌, Result, Ok, Err}
use Rattle.std.specs.Result.{IsErr, IsErrAnd}
use Rattle.std.proofs.Common.{ap}
use Rattle.files.specs.declared.Refusal.{Refusal}
use Rattle.files.specs.Refusal.{refusal}

module _ {A B E : Type 0} {a c : A} {b d : B} (same : ◌≡◌ {A = Result (A × B) E} (Ok (a, b)) (Ok (c, d))) where
  both : ◌≡◌ {A = A × B} (a, b) (c, d)
  both = cc

  pub ok_first : a ≡ c
  ok_first = ap (λ (x : A × B). x.0) both

  pub ok_second : b ≡ d
  ok_second = ap (λ (x : A × B). x.1) both

module _ {A P : Type 0} {n m : ℕ} {p q : P} (same : ◌≡◌ {A = Result A (Refusal P)} (Err (refusal n p)) (Err (refusal m q))) where
  alike : ◌≡◌ {A = Refusal P} (refusal n p) (refusal m q)
  alike = cc

  pub err_number : n ≡ m
  err_number = ap (λ (x : Refusal P). x.0) alike

  pub err_place : p ≡ q
  err_place = ap (λ (x : Refusal P). x.1) alike

-- a refusal that `?` hands on as it is
pub handed_on : {A E : Type 0} {r : Result A E} {e : E} → IsErr r × IsErrAnd r (λ x. x ≡ e) → r ≡ Err e
handed_on {A} {E} {r} {e} h = go r h.1
  where
    go : (r : Result A E) → IsErrAnd r (λ x. x ≡ e) → r ≡ Err e
    go (Ok x) h = absurd h
    go (Err x) h = ap Err h
