-- Constants that are integers (request 7): the cell of one depends on its number alone, whichever tag it is written with. So %%eqv compares their numbers.
-- Assumes nothing.
use Rattle.std.specs.Prelude.{ℕ, ◌-◌, ◌^◌, ◌≤◌, ◌<◌, ◌≡◌, refl, ℤ}
use Rattle.std.proofs.Common.{arith, ap, ◌∙◌}
use Rattle.std.proofs.Math.Path.{sym}
use borrow.Author.Tests.{le-leb, eq-eqb, ne_eqb}
use Rattle.cells.specs.Cells.{full, widened, int_cell, int_of, true_cell, false_cell}
use Rattle.cells.specs.laws.Laws.{widened_fits, int_back}
use Rattle.integers.specs.Integers.{signed_by, signed, int_bits}
use Rattle.integers.specs.laws.Laws.{widened_number, bits_back}
use Rattle.files.specs.Entries.{tag_width}
use Rattle.files.specs.laws.EntriesLaws.{width_narrow, width_wide}
use Rattle.files.specs.Table.{constant_cell}
use Rattle.files.specs.laws.TableLaws.{by_tag_lem}
use Rattle.rules.specs.State.{Mem}
use Rattle.rules.specs.declared.Regs.{Regs}
use Rattle.rules.specs.Rules.{top, under, emptied, eqv_rule}

-- the number of an integer that is written with the bits x after the tag t: two's complement of as many bits as the tag has
abbrev pub number_of : ℕ → ℕ → ℤ
number_of t x = signed_by (2 ^ (tag_width t - 1)) x

-- a constant that is an integer, as a file can have it
pub record IntegerConstant (t x : ℕ) : Type 0 where
  pub least : 4 ≤ t
  pub most : t < 6
  pub fits : x < 2 ^ tag_width t

-- some bits of an integer's width stand for a constant: its cell has them, and its number is theirs
record Stands (t x : ℕ) : Type 0 where
  bits : ℕ
  low : bits < full
  cell : constant_cell t x ≡ int_cell bits
  number : number_of t x ≡ signed bits

stands : {t x : ℕ} → IntegerConstant t x → Stands t x
unfolding signed
stands {t} {x} i =
    by_tag_lem t x (λ c. constant_cell t x ≡ c → Stands t x) i.most i.fits (λ l. absurd (omega (arith, i.least)))
    (λ e l h. record { bits = widened x; low = widened_fits x l; cell = h; number = rw (width_narrow t e) (sym (widened_number x l)) })
    (λ e l h. record { bits = x; low = l; cell = h; number = rw (width_wide t e) refl }) refl

-- THE LAW: the cell of a constant is the cell of its number
pub constant_number : {t x : ℕ} → IntegerConstant t x → constant_cell t x ≡ int_cell (int_bits (number_of t x))
constant_number i = let a = stands i in a.cell ∙ ap int_cell (sym (ap int_bits a.number ∙ bits_back a.bits a.low))

module _ {t x u y : ℕ} (i : IntegerConstant t x) (j : IntegerConstant u y) where
  pub same_cell : number_of t x ≡ number_of u y → constant_cell t x ≡ constant_cell u y
  same_cell e = constant_number i ∙ ap (λ (z : ℤ). int_cell (int_bits z)) e ∙ sym (constant_number j)

  pub same_number : constant_cell t x ≡ constant_cell u y → number_of t x ≡ number_of u y
  same_number e =
      let a = stands i in
      let b = stands j in
      let k : a.bits ≡ b.bits =
      sym (int_back a.bits a.low).0 ∙ ap (λ (c : ℕ). int_of c) (sym a.cell ∙ e ∙ b.cell) ∙ (int_back b.bits b.low).0 in
      a.number ∙ ap signed k ∙ sym b.number

  -- so %%eqv of the two answers whether their numbers are equal
  module _ (m : Mem) (r : Regs) (two : 2 ≤ r.sp) (first : under m r ≡ constant_cell t x) (second : top m r ≡ constant_cell u y) where
    pub eqv_equal : number_of t x ≡ number_of u y → eqv_rule m r ≡ emptied true_cell m r
    unfolding eqv_rule
    eqv_equal e = rw (le-leb 2 r.sp two, eq-eqb (top m r) (under m r) (second ∙ sym (same_cell e) ∙ sym first))

    pub eqv_unequal : (number_of t x ≡ number_of u y → ⊥) → eqv_rule m r ≡ emptied false_cell m r
    unfolding eqv_rule
    eqv_unequal n = rw (le-leb 2 r.sp two, ne_eqb (top m r) (under m r) (λ e. n (same_number (sym first ∙ sym e ∙ second))))
