-- `trim::reach_from` meets its contract. Assumes nothing.
use mathlib.Core.Path.{sym}
use Rattle.trim.specs.laws.ReachedLaws.{bit_in, bit_out, reached_in, reached_out, marked_in_lem, marked_out}
use Rattle.trim.proofs.reach_from.Goals as goal

pub returns-then-reach-own-ne1 : goal.returns-then-reach-own-ne1
returns-then-reach-own-ne1 c = let h = bit_out _ _ c.if-reach-own-ne1.true in record { reach_after = (λ here w. sym (reached_out _ _ _ h)); marks_after = marked_out _ _ _ h }

pub returns : goal.returns
returns c = let h = bit_in _ _ c.if-reach-own-ne1.false in record { reach_after = (λ here w. reached_in _ _ _ _ h (c.list_of-list.ensures here w)); marks_after = marked_in_lem _ _ _ h }
