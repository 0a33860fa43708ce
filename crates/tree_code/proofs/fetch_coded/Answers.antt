-- `tree_code::fetch_coded` meets its contract. Assumes nothing.
use Prim.Native.Nat.{◌+◌, ◌*◌}
use native.Mathlib.Omega.{arith}
use Rattle.fields.specs.laws.Laws.{lies}
use mathlib.Core.Path.{refl, sym, ◌∙◌}
use borrow.Author.Tests.{leb-true, leb-false}
use Rattle.machines.specs.Slots.{slot_at}
use Rattle.machines.specs.Instruction.{number, form_of, fetched_as, Places}
use Rattle.tree_code.specs.laws.LineLaws.{line_cut, line_transfer, line_neutral}
use Rattle.tree_code.proofs.fetch_coded.Goals as goal

pub fetch_transfer-requires : goal.fetch_transfer-requires
fetch_transfer-requires c =
    let fits = lies c.args.file.now c.args.at.0 (5 + 8 * c.operand_count.result) c.within.ensures c.if-within.true in
    omega (arith, fits, c.past-next.ensures, c.requires.0)

pub returns-then-code-lt6 : goal.returns-then-code-lt6
returns-then-code-lt6 c =
    let fits = leb-true _ _ (sym c.within.ensures ∙ c.if-within.true) in (
      λ table t. line_transfer _ c.args.at.0 _ c.requires.2 _ table t _ _ c.requires.4 c.operand_count.ensures.0 _ fits
          c.past-next.ensures c.if-code-lt6.true _ (c.fetch_transfer.ensures.0 (slot_at table t)),
      c.fetch_transfer.ensures.1,
    )

pub returns-then-within : goal.returns-then-within
unfolding fetched_as number form_of Places
returns-then-within c =
    let fits = leb-true _ _ (sym c.within.ensures ∙ c.if-within.true) in (
      λ table t. line_neutral _ c.args.at.0 _ c.requires.2 _ table t _ _ c.requires.4 c.operand_count.ensures.0 _ fits c.past-next.ensures
          c.if-code-lt6.false,
      refl,
    )

pub returns : goal.returns
unfolding fetched_as Places
returns c =
    let cut = leb-false _ _ (sym c.within.ensures ∙ c.if-within.false) in
    (λ table t. line_cut _ c.args.at.0 _ c.requires.2 _ table t _ _ c.requires.4 c.operand_count.ensures.0 cut, tt)
