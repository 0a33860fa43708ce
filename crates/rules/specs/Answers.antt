-- What the functions answer.
use Rattle.std.specs.Prelude.{cond, ◌&&◌, ℕ, ◌<◌, eqb, Result, Ok, Err}
use Rattle.std.specs.Prelude as std
use Rattle.std.proofs.Math.Option.{Option, none, some}
use Rattle.cells.specs.Cells.{full, tag_of, int_cell, int_of}
use Rattle.rules.specs.declared.Wrong.{Wrong}
use Rattle.rules.specs.declared.Wrong.TheVariants.{Count, BeyondLayers, Kind}
use Rattle.rules.specs.State.{Mem, Held, Res, wrong, Out, told}
use Rattle.rules.specs.Rules.{top, under, emptied}
use Rattle.rules.specs.declared.Regs.{Regs}
use Rattle.cells.specs.Numbers.{out_of_range}

-- how a rule ends that begins with the cells m and the registers r
abbrev pub ends : (Mem → Regs → Res Held) → Mem → Regs → Out
ends rule m r = told m (rule m r)

-- where a place is held, or wrong 13 beyond
unfoldable pub found_at : Option ℕ → Result ℕ Wrong
found_at none = Err BeyondLayers
found_at (some l) = Ok l

-- ---- integers
-- v is the integer of these bits; 15 where it is out of range
unfoldable pub integer_by : std.Option ℕ → Mem → Regs → Res Held
integer_by (std.Some x) m r = emptied (int_cell x) m r
integer_by std.None m r = wrong out_of_range

abbrev pub RangedFits : std.Option ℕ → Type 0
RangedFits (std.Some x) = x < full
RangedFits std.None = Unit {0}

-- the bits of exactly two integers
unfoldable pub operands_of : Mem → Regs → Result (ℕ × ℕ) Wrong
operands_of m r =
    cond (eqb r.sp 2)
    (cond (eqb (tag_of (under m r)) 6 && eqb (tag_of (top m r)) 6) (Ok (int_of (under m r), int_of (top m r))) (Err Kind))
    (Err Count)

abbrev pub OperandsFit : Result (ℕ × ℕ) Wrong → Type 0
OperandsFit (Ok x) = (x.0 < full) × (x.1 < full)
OperandsFit (Err w) = Unit {0}
