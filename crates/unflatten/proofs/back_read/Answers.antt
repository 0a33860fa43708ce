-- `unflatten::back_read` meets its contract. Assumes nothing.
use Prim.Native.Nat.{◌/◌}
use native.Mathlib.Omega.{arith}
use mathlib.Core.Path.{sym, ap, ◌∙◌}
use lib.ListN.{length}
use Rattle.files.specs.Outcome.{answered, written}
use Rattle.files.specs.laws.RefusalLaws.{handed_on}
use Rattle.unflatten.specs.laws.GrowLaws.{bytes_all, file, templates_in, back_stuck, back_given}
use Rattle.unflatten.proofs.back_read.Goals as goal

pub bits_at-count-requires : goal.bits_at-count-requires
bits_at-count-requires c =
    let h = c.requires in
    let p = file c.args.s.now h.0 in
    (p.short, (omega arith, p.some))

pub put_templates-requires : goal.put_templates-requires
put_templates-requires c =
    let h = c.requires in
    let f = c.put_field-first.ensures in
    let b = c.bits_at-count.ensures in
    let w = templates_in c.args.s.now h.0 _ _ c.args.table.now c.args.tree.now _ b.0
    (bytes_all c.args.s.now (λ i. omega (arith, c.shared_slice_known-1.given i))) h.1 c.told-tree f.1 f.0 in
    let p = file c.args.s.now h.0 in
    (p.short, omega (arith, b.0, p.few), omega (arith, c.told-tree, c.put_field-first.auto.out), w)

pub past-requires : goal.past-requires
past-requires c =
    let h = c.requires in
    let f = c.put_field-first.ensures in
    let b = c.bits_at-count.ensures in
    let w = templates_in c.args.s.now h.0 _ _ c.args.table.now c.args.tree.now _ b.0
    (bytes_all c.args.s.now (λ i. omega (arith, c.shared_slice_known-1.given i))) h.1 c.told-tree f.1 f.0 in
    let g = back_given c.args.s.now h.0 (c.put_templates.ensures w) (length c.args.out.now) c.args.out.now c.in_ok-end.was in
    omega (arith, g.room, c.told-tree, c.put_field-first.auto.out)

pub give-requires : goal.give-requires
give-requires c =
    let h = c.requires in
    let f = c.put_field-first.ensures in
    let b = c.bits_at-count.ensures in
    let w = templates_in c.args.s.now h.0 _ _ c.args.table.now c.args.tree.now _ b.0
    (bytes_all c.args.s.now (λ i. omega (arith, c.shared_slice_known-1.given i))) h.1 c.told-tree f.1 f.0 in
    let g = back_given c.args.s.now h.0 (c.put_templates.ensures w) (length c.args.out.now) c.args.out.now c.in_ok-end.was in
    omega (arith, g.room, c.told-tree, c.put_field-first.auto.out, c.put_templates.auto.out, c.byte.ensures, c.past.ensures)

pub returns-in_err-end : goal.returns-in_err-end
returns-in_err-end c =
    let h = c.requires in
    let f = c.put_field-first.ensures in
    let b = c.bits_at-count.ensures in
    let w = templates_in c.args.s.now h.0 _ _ c.args.table.now c.args.tree.now _ b.0
    (bytes_all c.args.s.now (λ i. omega (arith, c.shared_slice_known-1.given i))) h.1 c.told-tree f.1 f.0 in
    let all = back_stuck c.args.s.now h.0 (c.put_templates.ensures w) (length c.args.out.now) c.args.out.now c.in_err-end.was in
    record { value = handed_on c.from_residual.ensures ∙ all.0; out_after = all.1 }

pub returns : goal.returns
returns c =
    let h = c.requires in
    let f = c.put_field-first.ensures in
    let b = c.bits_at-count.ensures in
    let w = templates_in c.args.s.now h.0 _ _ c.args.table.now c.args.tree.now _ b.0
    (bytes_all c.args.s.now (λ i. omega (arith, c.shared_slice_known-1.given i))) h.1 c.told-tree f.1 f.0 in
    let g = back_given c.args.s.now h.0 (c.put_templates.ensures w) (length c.args.out.now) c.args.out.now c.in_ok-end.was in
    let e = g.is _ (c.byte.ensures ∙ ap (λ x. x / 8) c.past.ensures) _ c.args.tree.now b.0 f.1 f.0 in
    record { value = c.give.ensures.value ∙ ap answered (sym e); out_after = c.give.ensures.out_after ∙ ap (written c.args.out.now) (sym e) }
