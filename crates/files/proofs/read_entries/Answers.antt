-- `files::read_entries` meets its contract. What is left to read and to store, from here, equals the whole from the start. Assumes nothing.
use native.Mathlib.Nat.{add-sub_cancel_left}
use mathlib.Core.Path.{ap, sym, ◌∙◌}
use borrow.Author.Rules.{rules}
use lib.Seq.{sets}
use Rattle.files.specs.laws.RefusalLaws.{handed_on}
use Rattle.files.specs.laws.EntriesSteps.{none_left, entries_on, slots_on, entries_stop, slots_stop}
use Rattle.files.proofs.read_entries.Goals as goal

pub loop-slot-init : goal.loop-slot-init
loop-slot-init c = (search rules, simp add-sub_cancel_left, simp add-sub_cancel_left)

pub returns-in_err-x : goal.returns-in_err-x
returns-in_err-x c =
    let i = c.loop-slot.invariant in
    record {
      value = handed_on c.from_residual.ensures ∙ entries_stop _ _ _ _ _ _ c.loop-slot-test.true c.read_entry.ensures c.in_err-x.was ∙ sym i.1;
      table_after = sym (i.2 ∙ ap (sets _ _) (slots_stop _ _ _ _ _ _ c.loop-slot-test.true c.read_entry.ensures c.in_err-x.was));
    }

pub loop-slot-preserved : goal.loop-slot-preserved
loop-slot-preserved c =
    let i = c.loop-slot.invariant in (
      search rules,
      i.1 ∙ entries_on _ _ _ _ _ _ c.loop-slot-test.true c.read_entry.ensures c.in_ok-x.was,
      i.2 ∙ slots_on _ _ _ _ _ _ c.loop-slot-test.true c.read_entry.ensures c.in_ok-x.was _,
    )

pub returns : goal.returns
returns c =
    let i = c.loop-slot.invariant in
    let d = none_left _ _ _ _ _ _ c.loop-slot-test.false in
    record { value = d.0 ∙ sym i.1; table_after = sym (i.2 ∙ ap (sets _ _) d.1) }
