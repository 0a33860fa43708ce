-- `tabulate::within_limits` meets its contract: each limit in turn. Assumes nothing.
use Rattle.tabulate.specs.laws.CheckLaws.{many_templates, few_in, many_in_one, bits_small, long_file, accepted_file, measured_as}
use mathlib.Core.Path.{refl}
use native.Mathlib.Omega.{arith}
use Rattle.tabulate.proofs.within_limits.Goals as goal

pub returns-then-count-gt64 : goal.returns-then-count-gt64
returns-then-count-gt64 c = many_templates c.requires.1 c.if-count-gt64.true

pub measure-requires : goal.measure-requires
measure-requires c =
    let pre = c.requires in
    (pre.0, few_in pre.1 c.if-count-gt64.false)

pub overflow_add-bits : goal.overflow_add-bits
overflow_add-bits c =
    let pre = c.requires in
    let w = pre.1 in
    let m = bits_small w c.if-count-gt64.false _ (measured_as w c.if-count-gt64.false _ c.in-Some.is c.measure.ensures) in
    omega (arith, m)

pub returns-then-bits-gt524288 : goal.returns-then-bits-gt524288
returns-then-bits-gt524288 c =
    let pre = c.requires in
    let w = pre.1 in
    long_file w c.if-count-gt64.false _ (measured_as w c.if-count-gt64.false _ c.in-Some.is c.measure.ensures) c.if-bits-gt524288.true

pub returns-in-None : goal.returns-in-None
returns-in-None c =
    let pre = c.requires in
    let w = pre.1 in
    many_in_one w c.if-count-gt64.false (measured_as w c.if-count-gt64.false _ c.in-None.is c.measure.ensures)

pub returns-else-bits-gt524288 : goal.returns-else-bits-gt524288
returns-else-bits-gt524288 c =
    let pre = c.requires in
    let w = pre.1 in accepted_file w c.if-count-gt64.false _ (measured_as w c.if-count-gt64.false _ c.in-Some.is c.measure.ensures) pre.0 _ refl c.if-bits-gt524288.false
