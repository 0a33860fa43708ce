-- How two rules end alike. Assumes nothing.
use Rattle.std.specs.Prelude.{◌≡◌, ℕ, ◌+◌, refl, Bool, true, false}
use Rattle.rules.specs.State.{Res, ok, wrong, need}
use Rattle.rules.specs.Rules.{Data, Back, no_frame, back_to}

pub data ResR {A : Type 0} (R : A → A → Type 0) : Res A → Res A → Type 0 where
  ok_r : {a b : A} → R a b → ResR R (ok a) (ok b)
  wrong_r : {n : ℕ} → ResR R (wrong n) (wrong n)

pub need_same : {A : Type 0} {Q : A → A → Type 0} {r r' : Res A} (b : Bool) (n : ℕ) → (b ≡ true → ResR Q r r') → ResR Q (need b n r) (need b n r')
need_same true n f = f refl
need_same false n f = wrong_r

-- R t p t' q j: place p of template t of the first program corresponds to place q of template t' of the second, where j jumps are pending.
-- Frames on neither side, or one on both that leads back to places that correspond.
pub data BackR (R : ℕ → ℕ → ℕ → ℕ → ℕ → Type 0) (DR : Data → Data → ℕ → Type 0) : Back → Back → ℕ → Type 0 where
  none_b : BackR R DR no_frame no_frame 0
  some_b : {t p t' q j J n : ℕ} {d d' : Data} → R t p t' q j → DR d d' J → n ≡ j + J → BackR R DR (back_to t p d) (back_to t' q d') n
