-- `tabulate::put_template` meets its contract: E, the entries, the code. Assumes nothing.
use Rattle.tabulate.specs.laws.WriteLaws.{count_small, entries_in, code_after, template_after}
use Rattle.tabulate.specs.laws.JudgeLaws.{collected_as}
use Rattle.tabulate.specs.laws.PutLaws.{in_first}
use Rattle.tabulate.specs.laws.SlotLaws.{take_length}
use Rattle.bit_writer.proofs.theorems.Laws.{put_length}
use lib.ListN.{length}
use mathlib.Core.Path.{ap, ◌∙◌}
use native.Mathlib.Omega.{arith}
use Rattle.tabulate.proofs.put_template.Goals as goal

pub collect-requires : goal.collect-requires
collect-requires c = (c.requires.0, c.requires.2.own)

pub put_field-entries-requires : goal.put_field-entries-requires
put_field-entries-requires c =
    let pre = c.requires in
    let w = pre.2 in
    let f = count_small w _ _ _ (collected_as c.in-Some.is (c.collect.ensures w.own)) in
    (omega (arith, pre.1), omega arith, omega (arith, f.0), f.1)

pub put_entries-code-requires : goal.put_entries-code-requires
put_entries-code-requires c =
    let pre = c.requires in
    let w = pre.2 in
    let f = count_small w _ _ _ (collected_as c.in-Some.is (c.collect.ensures w.own)) in
    let m = ap length c.put_field-entries.ensures.1 ∙ put_length _ _ _ in
    let t = take_length c.in-Some.count c.collect.new.table (omega (arith, f.0)) in (
      omega (arith, t, f.0),
      omega (arith, m, pre.1),
      in_first (entries_in w _ _ _ (collected_as c.in-Some.is (c.collect.ensures w.own)) _ _ c.put_field-entries.ensures.0 c.put_field-entries.ensures.1),
    )

pub put_code-requires : goal.put_code-requires
put_code-requires c =
    let pre = c.requires in
    let w = pre.2 in
    let f = count_small w _ _ _ (collected_as c.in-Some.is (c.collect.ensures w.own)) in
    let m = ap length c.put_field-entries.ensures.1 ∙ put_length _ _ _ in
    let g = c.put_entries-code.ensures (in_first (entries_in w _ _ _ (collected_as c.in-Some.is (c.collect.ensures w.own)) _ _ c.put_field-entries.ensures.0
    c.put_field-entries.ensures.1)) in
    let i = ap length g.is ∙ put_length _ _ _ in (
      pre.0,
      f.0,
      omega (arith, m, i, pre.1),
      code_after w _ _ _ (collected_as c.in-Some.is (c.collect.ensures w.own)) _ _ c.put_field-entries.ensures.0 c.put_field-entries.ensures.1
          (λ v. c.put_entries-code.ensures (in_first v)),
    )

pub returns-in-Some : goal.returns-in-Some
returns-in-Some c =
    λ w. template_after w _ _ _ (collected_as c.in-Some.is (c.collect.ensures w.own)) _ _ c.put_field-entries.ensures.0 c.put_field-entries.ensures.1
    (λ v. c.put_entries-code.ensures (in_first v)) c.put_code.ensures
