-- `trim::put_template` meets its contract. Assumes nothing.
use native.Mathlib.Omega.{arith}
use Rattle.trim.proofs.theorems.MarkLaws.{span_tokens}
use Rattle.trim.proofs.theorems.TemplateLaws.{count_few, span_places, template_room, template_entries, template_put}
use Rattle.trim.proofs.put_template.Goals as goal

pub put_field-second-requires : goal.put_field-second-requires
put_field-second-requires c =
    let p = c.requires in
    let w = p.list_in in
    let r = template_room w p.size in
    (omega arith, omega arith, omega (arith, c.ranges.left), omega (arith, r, p.at_behind))

pub past-requires : goal.past-requires
past-requires c =
    let p = c.requires in
    let w = p.list_in in
    let r = template_room w p.size in omega (arith, r)

pub put_entries-third-requires : goal.put_entries-third-requires
put_entries-third-requires c =
    let p = c.requires in
    let w = p.list_in in
    let r = template_room w p.size in
    let d = c.put_field-second.ensures in record { sizes = (p.size, count_few w); entries_in = template_entries w _ _ p.size c.past.ensures (omega (arith, d.0, p.at_behind)) }

pub since-requires : goal.since-requires
since-requires c =
    let pre = c.requires in
    let q = span_places pre.list_in in
    omega (arith, q)

pub rewrite-requires : goal.rewrite-requires
rewrite-requires c =
    let p = c.requires in
    let w = p.list_in in
    let r = template_room w p.size in
    let d = c.put_field-second.ensures in
    let q = span_places w in
    let e = c.put_entries-third.ensures (template_entries w _ _ p.size c.past.ensures (omega (arith, d.0, p.at_behind))) in
    record { s_len_bound = (omega (arith, p.size), omega arith, omega (arith, r, q, d.0, e.0, p.at_behind, c.since.ensures)); tokens_at = rw c.since.ensures (span_tokens w) }

pub returns : goal.returns
returns c =
    let pre = c.requires in
    λ w is counted. let p = pre in let d = c.put_field-second.ensures in let e = c.put_entries-third.ensures
    (template_entries w _ _ p.size c.past.ensures (omega (arith, d.0, p.at_behind))) in let k = c.rewrite.ensures in let m = rw
    c.since.ensures at k.out_after in template_put w _ _ is _ counted _ _ _ _ _ _ _ _ _ p.size p.at_behind c.since.ensures d.1 d.0 e.0 e.1
    (m (span_tokens w)) k.result_value
