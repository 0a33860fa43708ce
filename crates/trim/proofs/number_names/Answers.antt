-- `trim::number_names` meets its contract. Assumes nothing.
use native.Mathlib.Omega.{arith}
use Rattle.trim.proofs.theorems.MarkLaws.{span_tokens, names_fit, names_numbered}
use Rattle.trim.proofs.theorems.TemplateLaws.{span_places}
use Rattle.trim.proofs.number_names.Goals as goal

pub since-requires : goal.since-requires
since-requires c = let q = span_places c.requires.2 in omega (arith, q)

pub mark_names-requires : goal.mark_names-requires
mark_names-requires c =
    let pre = c.requires in
    let w = pre.2 in
    (omega (arith, pre.0), rw c.since.ensures (span_tokens w))

pub number-requires : goal.number-requires
number-requires c =
    let pre = c.requires in
    let w = pre.2 in
    let m = rw c.since.ensures at c.mark_names.ensures in
    names_fit w _ _ pre.1 (m (span_tokens w))

pub returns : goal.returns
returns c =
    let pre = c.requires in
    λ w. let m = rw c.since.ensures at c.mark_names.ensures in let d = c.number.ensures in names_numbered w _ _ _ _ pre.1
    (m (span_tokens w)) d.0 d.1
