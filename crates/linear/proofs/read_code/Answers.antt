-- `linear::read_code` meets its contract: each answer leads to its case of `padded_code`. Assumes nothing.
use Prim.Native.Nat.{ℕ, ◌+◌, ◌*◌}
use mathlib.Core.Path.{◌≡◌, sym, ap, ◌∙◌}
use borrow.Author.Tests.{leb-false}
use lib.ListN.{length}
use Rattle.cells.specs.declared.BitPlace.{BitPlace}
use Rattle.fields.specs.laws.Laws.{lies}
use Rattle.files.specs.Reading.{refused}
use Rattle.files.specs.laws.EntriesSteps.{told_field, told_cut}
use Rattle.files.specs.laws.RefusalLaws.{handed_on}
use Rattle.linear.specs.laws.LinearSteps.{padding_set, length_cut, code_cut, code_read, code_stops, code_ends}
use Rattle.linear.proofs.read_code.Goals as goal

pub returns-in_err-size : goal.returns-in_err-size
returns-in_err-size c =
    let all = code_stops _ _ _ (padding_set _ _ (rw c.to_byte.ensures at c.zero_bits.ensures) c.in_err-size.was) in
    record { value = λ es. handed_on c.from_residual.ensures ∙ all.0 es; table_after = all.1 }

pub returns-in_err-n : goal.returns-in_err-n
returns-in_err-n c =
    let all = code_stops _ _ _ (length_cut _ _ (rw c.to_byte.ensures at c.zero_bits.ensures) c.in_ok-size.was
    (told_cut _ _ _ c.read_three.ensures c.in_err-n.was)) in
    record { value = λ es. handed_on c.from_residual-in_err-n.ensures ∙ all.0 es; table_after = all.1 }

pub returns-then-within : goal.returns-then-within
returns-then-within c =
    let h = lies c.args.s.now c.in_ok-n.code.0 (8 * c.in_ok-n.n) c.within.ensures c.if-within.true in
    let q : ◌≡◌ {A = BitPlace} c.past.result (record { 0 = c.in_ok-n.code.0 + 8 * c.in_ok-n.n }) = ap (λ (x : ℕ). record { 0 = x }) c.past.ensures in
    let all =
    code_ends _ _ _ _ _ _ h
    (code_read _ _ (rw c.to_byte.ensures at c.zero_bits.ensures) c.in_ok-size.was (told_field _ _ _ c.read_three.ensures c.in_ok-n.was) h) in
    rw (q, c.byte.ensures) (record { value = all.0; table_after = all.1 })

pub returns : goal.returns
returns c =
    let h = leb-false (c.in_ok-n.code.0 + 8 * c.in_ok-n.n) (8 * length c.args.s.now) (sym c.within.ensures ∙ c.if-within.false) in
    let cut = code_cut _ _ (rw c.to_byte.ensures at c.zero_bits.ensures) c.in_ok-size.was (told_field _ _ _ c.read_three.ensures c.in_ok-n.was) h in
    let all = code_stops _ _ _ (λ es. cut es ∙ ap (refused 2) (sym c.end_of.ensures)) in
    record { value = all.0; table_after = all.1 }
