-- Entries of a template, and padding (document 01, 'Two files'; refusals 2, 3 and 5).
use Rattle.std.specs.Prelude.{ℕ, zero, suc, ◌+◌, ◌*◌, ◌-◌, ◌%◌, Bool, true, false, cond, ◌&&◌, List, [], ◌∷◌, length, ltb, eqb, Option, Some, None}
use Rattle.cells.specs.Numbers.{cut_field, invalid_field, not_the_end}
use Rattle.fields.specs.Field.{bit_at, field_read}
use Rattle.files.specs.Reading.{Got, got, refused}
use Rattle.cells.specs.declared.BitPlace.{BitPlace}

-- a constant is its tag, and the number that the bits after it are (0 where the tag has none)
pub data Entry : Type 0 where
  constant : ℕ → ℕ → Entry
  global : ℕ → Entry
  template : ℕ → Entry

-- on with what was read, or its refusal
unfoldable pub then : {A B : Type 0} → Got A → (A → ℕ → Got B) → Got B
then (got a p) f = f a p
then (refused n p) f = refused n p

unfoldable pub field_got : ℕ → Option (ℕ × BitPlace) → Got ℕ
field_got p (Some (v, q)) = got v q.0
field_got p None = refused cut_field p

-- the field of w bits at p
unfoldable pub field : List ℕ → ℕ → ℕ → Got ℕ
field s p w = field_got p (field_read s p w)

-- on where the field at p is valid, else 3 at its first bit
abbrev pub valid : {A : Type 0} → ℕ → Bool → Got A → Got A
valid p true g = g
valid p false g = refused invalid_field p

-- how many bits a constant has after its tag: an integer's 32 after 4 and 48 after 5 (request 7), none after 0 to 3
unfoldable pub tag_width : ℕ → ℕ
tag_width t = cond (eqb t 4) 32 (cond (eqb t 5) 48 0)

-- the constant whose tag t stands at p and ends at q
unfoldable pub constant_at : List ℕ → ℕ → ℕ → ℕ → Got Entry
constant_at s p t q = valid p (ltb t 6) (then (field s q (tag_width t)) (λ x r. got (constant t x) r))

-- the entry at p whose kind is k and ends at q, of template own of T: 1 a constant, 2 a global, 3 a template above own and below T
unfoldable pub kind_at : List ℕ → ℕ → ℕ → ℕ → ℕ → ℕ → Got Entry
kind_at s own T p q zero = refused invalid_field p
kind_at s own T p q (suc zero) = then (field s q 3) (λ t r. constant_at s q t r)
kind_at s own T p q (suc (suc zero)) = then (field s q 8) (λ g r. got (global g) r)
kind_at s own T p q (suc (suc (suc k))) = then (field s q 8) (λ t r. valid q (ltb own t && ltb t T) (got (template t) r))

unfoldable pub entry_at : List ℕ → ℕ → ℕ → ℕ → Got Entry
entry_at s own T p = then (field s p 2) (λ k q. kind_at s own T p q k)

-- n entries from p on
unfoldable pub entries_at : List ℕ → ℕ → ℕ → ℕ → ℕ → Got (List Entry)
entries_at s own T zero p = got [] p
entries_at s own T (suc n) p = then (entry_at s own T p) (λ e q. then (entries_at s own T n q) (λ es r. got (e ∷ es) r))

-- how many bits there are from p to the next byte
abbrev pub to_byte : ℕ → ℕ
to_byte p = (8 - p % 8) % 8

-- a past n zero bits at p; 5 at the first that is set
unfoldable pub zero_bits : {A : Type 0} → List ℕ → ℕ → ℕ → A → Got A
zero_bits s zero p a = got a p
zero_bits s (suc n) p a = cond (eqb (bit_at s p) 0) (zero_bits s n (p + 1) a) (refused not_the_end p)

-- nothing more after p, else 5 there
unfoldable pub nothing_more : {A : Type 0} → List ℕ → ℕ → A → Got A
nothing_more s p a = cond (eqb p (8 * length s)) (got a p) (refused not_the_end p)
