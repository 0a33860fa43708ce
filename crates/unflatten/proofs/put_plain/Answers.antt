-- `unflatten::put_plain` meets its contract. Assumes nothing.
use native.Mathlib.Omega.{arith}
use mathlib.Core.Path.{◌≡◌, refl, sym, ◌∙◌}
use Rattle.std.specs.Prelude.{◌&&◌, get_or, leb}
use borrow.Author.Tests.{le-leb, lt-leb}
use Rattle.lists.specs.Facts.{slot_named}
use Rattle.unflatten.specs.laws.PutLaws.{plain_none, plain_more}
use Rattle.unflatten.proofs.put_plain.Goals.{then-code-gt5, else-code-gt5}
use Rattle.unflatten.proofs.put_plain.Goals as goal

pub returns-then-not-passes : goal.returns-then-not-passes
returns-then-not-passes c =
    let h = c.requires in
    plain_none (slot_named c.args.source.now.table.now c.args.source.now.own) c.args.source.now.file.now c.args.levels c.args.region.closed c.args.region.from c.args.region.to c.args.at.0 c.args.out.now c.args.out.now h.2 c.args.n h.3 (sym c.passes.ensures ∙ c.if-not-passes.true)

pub returns : goal.returns
returns c =
    let h = c.requires in
    let f = c.put_field-next.ensures in
    let i = c.copy_bits-past.ensures in
    let closed : c.if-code-gt5.closed ≡ (leb 6 (get_or c.args.source.now.file.now c.args.region.from 0) && c.args.region.closed) = elim c.if-code-gt5.branch [
      | then-code-gt5 w ↦ w.closed-is ∙ rw (le-leb 6 (get_or c.args.source.now.file.now c.args.region.from 0) w.if-code-gt5.true) refl
      | else-code-gt5 w ↦ w.closed-is ∙ rw (lt-leb 6 (get_or c.args.source.now.file.now c.args.region.from 0) (omega (arith, w.if-code-gt5.false))) refl
    ] in
    plain_more (slot_named c.args.source.now.table.now c.args.source.now.own) c.args.source.now.file.now c.args.levels c.args.region.closed c.args.region.from c.args.region.to c.args.at.0 c.args.out.now _ h.2 c.args.n h.3 _
    h.0 (sym c.passes.ensures ∙ c.if-not-passes.false) closed f.1 f.0 i.1 i.0
