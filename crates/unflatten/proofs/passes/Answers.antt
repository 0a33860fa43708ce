-- `unflatten::passes` meets its contract. Assumes nothing.
use Rattle.lists.specs.Facts.{slot_named}
use Rattle.unflatten.specs.laws.PutLaws.{passes_low, passes_none, passes_first}
use mathlib.Core.Path.{◌∙◌}
use Rattle.unflatten.proofs.passes.Goals as goal

pub returns-then-code-le5 : goal.returns-then-code-le5
returns-then-code-le5 c = passes_low (slot_named c.args.source.now.table.now c.args.source.now.own) c.args.source.now.file.now c.args.p c.args.n c.if-code-le5.true

pub returns-then-n-eq0 : goal.returns-then-n-eq0
returns-then-n-eq0 c = c.slot_named.ensures ∙ passes_none (slot_named c.args.source.now.table.now c.args.source.now.own) c.args.source.now.file.now c.args.p c.args.n c.if-code-le5.false c.if-n-eq0.true

pub returns : goal.returns
returns c =
    let h = c.requires in
    c.slot_named-2.ensures ∙ passes_first (slot_named c.args.source.now.table.now c.args.source.now.own) c.args.source.now.file.now c.args.p c.args.n c.if-code-le5.false c.if-n-eq0.false h
