-- `unflatten::put_template` meets its contract: E, the entries and the code stand where the file was read. Assumes nothing.
use Prim.Native.Nat.{◌+◌, ◌/◌}
use native.Mathlib.Omega.{arith}
use mathlib.Core.Path.{sym, ap, ◌∙◌}
use Rattle.unflatten.specs.laws.GrowLaws.{parts, ends_at, not_refused, code_in, template_put, slots_same}
use Rattle.unflatten.proofs.put_template.Goals as goal

pub overflow_mul-here : goal.overflow_mul-here
overflow_mul-here c =
    let h = c.requires in
    let p = parts c.args.s.now c.args.table.now c.args.out.now c.args.own c.args.count c.args.byte c.args.at.0 c.told-table h.1 h.2 h.4 in
    omega (arith, h.0, p.inside, p.end_is)

pub bits_at-n-requires : goal.bits_at-n-requires
bits_at-n-requires c =
    let h = c.requires in
    let p = parts c.args.s.now c.args.table.now c.args.out.now c.args.own c.args.count c.args.byte c.args.at.0 c.told-table h.1 h.2 h.4 in
    (h.0, (omega arith, omega (arith, p.inside, p.end_is)))

pub past-requires : goal.past-requires
past-requires c =
    let h = c.requires in
    let p = parts c.args.s.now c.args.table.now c.args.out.now c.args.own c.args.count c.args.byte c.args.at.0 c.told-table h.1 h.2 h.4 in
    omega (arith, h.0, p.inside, p.end_is)

pub since-requires : goal.since-requires
since-requires c =
    let h = c.requires in
    let p = parts c.args.s.now c.args.table.now c.args.out.now c.args.own c.args.count c.args.byte c.args.at.0 c.told-table h.1 h.2 h.4 in
    let e = ends_at c.args.s.now c.args.table.now c.args.out.now c.args.own c.args.count c.args.byte c.args.at.0 c.told-table h.1 h.2 h.4 c.bits_at-n.ensures.0
    c.past.ensures c.read_entries.ensures.value (sym c.ok.ensures.value ∙ c.in_ok-past.was) in
    omega (arith, e, p.end_is)

pub copy_bits-next-requires : goal.copy_bits-next-requires
copy_bits-next-requires c =
    let h = c.requires in
    let p = parts c.args.s.now c.args.table.now c.args.out.now c.args.own c.args.count c.args.byte c.args.at.0 c.told-table h.1 h.2 h.4 in
    let e = ends_at c.args.s.now c.args.table.now c.args.out.now c.args.own c.args.count c.args.byte c.args.at.0 c.told-table h.1 h.2 h.4 c.bits_at-n.ensures.0
    c.past.ensures c.read_entries.ensures.value (sym c.ok.ensures.value ∙ c.in_ok-past.was) in
    (h.0, h.3, omega (arith, e, p.inside, p.end_is, c.since.ensures), omega (arith, e, p.end_is, p.past_is, h.4.room, c.since.ensures))

pub past-requires-2 : goal.past-requires-2
past-requires-2 c =
    let h = c.requires in
    let p = parts c.args.s.now c.args.table.now c.args.out.now c.args.own c.args.count c.args.byte c.args.at.0 c.told-table h.1 h.2 h.4 in
    let e = ends_at c.args.s.now c.args.table.now c.args.out.now c.args.own c.args.count c.args.byte c.args.at.0 c.told-table h.1 h.2 h.4 c.bits_at-n.ensures.0
    c.past.ensures c.read_entries.ensures.value (sym c.ok.ensures.value ∙ c.in_ok-past.was) in
    omega (arith, e, h.0, p.inside)

pub put_code-requires : goal.put_code-requires
put_code-requires c =
    let h = c.requires in
    let p = parts c.args.s.now c.args.table.now c.args.out.now c.args.own c.args.count c.args.byte c.args.at.0 c.told-table h.1 h.2 h.4 in
    let k = c.copy_bits-next.auto.out in (
      omega (arith, h.3, k),
      code_in c.args.s.now c.args.table.now c.args.out.now c.args.own c.args.count c.args.byte c.args.at.0 c.told-table h.1 h.2 h.4 c.bits_at-n.ensures.0
          c.past.ensures c.read_entries.ensures.value (sym c.ok.ensures.value ∙ c.in_ok-past.was) _ _ (c.byte.ensures ∙ ap (λ x. x / 8) c.past-2.ensures) k
          (c.copy_bits-next.ensures.0 ∙ ap (λ x. c.args.at.0 + x) c.since.ensures),
    )

pub returns : goal.returns
returns c =
    let h = c.requires in
    record {
      template_grows = λ w. template_put c.args.s.now c.args.table.now c.args.out.now c.args.own c.args.count c.args.byte c.args.at.0 c.told-table h.1 h.2 w c.bits_at-n.ensures.0
          c.past.ensures c.read_entries.ensures.value (sym c.ok.ensures.value ∙ c.in_ok-past.was) c.read_entries.ensures.table_after c.since.ensures c.copy_bits-next.ensures.1 c.copy_bits-next.ensures.0
          (c.byte.ensures ∙ ap (λ x. x / 8) c.past-2.ensures) c.put_code.ensures;
      table_after = slots_same c.args.s.now c.args.own c.args.count c.args.byte _ _ c.args.table.now _ c.bits_at-n.ensures.0 c.past.ensures c.read_entries.ensures.table_after;
    }

pub returns-in_err-past : goal.returns-in_err-past
returns-in_err-past c =
    let h = c.requires in
    record {
      template_grows = λ w. absurd (not_refused c.args.s.now c.args.table.now c.args.out.now c.args.own c.args.count c.args.byte c.args.at.0 c.told-table h.1 h.2 w c.bits_at-n.ensures.0
          c.past.ensures c.read_entries.ensures.value (sym c.ok.ensures.value ∙ c.in_err-past.was));
      table_after = slots_same c.args.s.now c.args.own c.args.count c.args.byte _ _ c.args.table.now _ c.bits_at-n.ensures.0 c.past.ensures c.read_entries.ensures.table_after;
    }
