-- %%add by the exact total: a partial total may be out of range (document 01, 'Slips'); and the quotients that request 1 names. Assumes nothing.
use Rattle.std.specs.Prelude.{◌≡◌, refl, List, [], ◌∷◌, ℕ}
use Rattle.cells.specs.Cells.{int_cell, true_cell, unspecified_cell}
use Rattle.rules.specs.State.{Mem, mem, regs, Held, Res, wrong, on}
use Rattle.rules.specs.declared.Regs.{Regs}
use Rattle.integers.specs.Integers.{signed, within, int_bits, all_integers, total_of, is_zero, floor_quotient}
use Rattle.rules.specs.Rules.{add_rule, sub_rule, less_rule, floor_div_rule}

-- the integers, the bottom first
abbrev added : ℕ → List ℕ → Res Held
added n cells = add_rule (mem [] cells []) (regs unspecified_cell 0 n 0)

-- 140,737,488,355,327 and 1 and -1: the exact total is in range; without the -1 it is not; -5 and 2; and nothing; and a total that 32 bits had not
exact : (added 3 (int_cell 0x7FFFFFFFFFFF ∷ int_cell 1 ∷ int_cell 0xFFFFFFFFFFFF ∷ []) ≡ on (regs (int_cell 0x7FFFFFFFFFFF) 0 0 0) (mem [] (0 ∷ 0 ∷ 0 ∷ []) []))
    × (added 2 (int_cell 0x7FFFFFFFFFFF ∷ int_cell 1 ∷ []) ≡ wrong 15)
    × (added 2 (int_cell 0xFFFFFFFFFFFB ∷ int_cell 2 ∷ []) ≡ on (regs (int_cell 0xFFFFFFFFFFFD) 0 0 0) (mem [] (0 ∷ 0 ∷ []) []))
    × (added 0 [] ≡ on (regs (int_cell 0) 0 0 0) (mem [] [] []))
    × (added 2 (int_cell 0x7FFFFFFF ∷ int_cell 1 ∷ []) ≡ on (regs (int_cell 0x80000000) 0 0 0) (mem [] (0 ∷ 0 ∷ []) []))
unfolding add_rule signed total_of within int_bits all_integers
exact = (refl, refl, refl, refl, refl)

-- what a rule leaves of the left operand a and the right operand b: v, or its wrong end
abbrev on_two : (Mem → Regs → Res Held) → ℕ → ℕ → Res Held
on_two rule a b = rule (mem [] (int_cell a ∷ int_cell b ∷ []) []) (regs unspecified_cell 0 2 0)

abbrev left : ℕ → Res Held
left c = on (regs c 0 0 0) (mem [] (0 ∷ 0 ∷ []) [])

-- -7 by 2, 7 by -2, -7 by -2, the least by -1, by 1, 0 by -5, 1 by 0; 2 - 5; is -1 less than 0?
quotients : (on_two floor_div_rule 0xFFFFFFFFFFF9 2 ≡ left (int_cell 0xFFFFFFFFFFFC))
    × (on_two floor_div_rule 7 0xFFFFFFFFFFFE ≡ left (int_cell 0xFFFFFFFFFFFC))
    × (on_two floor_div_rule 0xFFFFFFFFFFF9 0xFFFFFFFFFFFE ≡ left (int_cell 3)) × (on_two floor_div_rule 0x800000000000 0xFFFFFFFFFFFF ≡ wrong 15)
    × (on_two floor_div_rule 0x800000000000 1 ≡ left (int_cell 0x800000000000)) × (on_two floor_div_rule 0 0xFFFFFFFFFFFB ≡ left (int_cell 0))
    × (on_two floor_div_rule 1 0 ≡ wrong 23) × (on_two sub_rule 2 5 ≡ left (int_cell 0xFFFFFFFFFFFD)) × (on_two less_rule 0xFFFFFFFFFFFF 0 ≡ left true_cell)
unfolding sub_rule less_rule floor_div_rule floor_quotient is_zero signed within int_bits
quotients = (refl, refl, refl, refl, refl, refl, refl, refl, refl)
