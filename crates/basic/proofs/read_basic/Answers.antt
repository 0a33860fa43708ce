-- `basic::read_basic` meets its contract: 1, the list, its padding, the end. Assumes nothing.
use Rattle.basic.specs.laws.FileLaws.{file_long, file_unread, padding_within, file_padding, file_more, file_whole, file_on}
use Rattle.basic.specs.laws.StepLaws.{list_was, list_cut}
use mathlib.Core.Path.{sym, ◌∙◌}
use native.Mathlib.Omega.{arith}
use Rattle.basic.proofs.read_basic.Goals as goal

pub returns-then-s-gt65536 : goal.returns-then-s-gt65536
returns-then-s-gt65536 c = file_long _ c.if-s-gt65536.true

pub returns-in_err-end : goal.returns-in_err-end
returns-in_err-end c =
    file_on c.from_residual.ensures
    (file_unread _ c.if-s-gt65536.false _ (list_cut _ _ _ c.read_list.ensures c.in_err-end.was))

pub zero_bits-requires : goal.zero_bits-requires
zero_bits-requires c =
    let w = list_was _ _ _ c.read_list.ensures c.in_ok-end.was in
    (omega (arith, c.if-s-gt65536.false), rw c.to_byte.ensures (padding_within _ c.if-s-gt65536.false _ _ w))

pub returns-in_err-next : goal.returns-in_err-next
returns-in_err-next c =
    let w = list_was _ _ _ c.read_list.ensures c.in_ok-end.was in
    file_on c.from_residual-in_err-next.ensures
    (file_padding _ c.if-s-gt65536.false _ _ w (sym (rw c.to_byte.ensures at c.zero_bits.ensures) ∙ c.in_err-next.was))

pub returns-in_err-nothing_more : goal.returns-in_err-nothing_more
returns-in_err-nothing_more c =
    let w = list_was _ _ _ c.read_list.ensures c.in_ok-end.was in
    file_on c.from_residual-in_err-nothing_more.ensures
    (file_more _ c.if-s-gt65536.false _ _ w _ (sym (rw c.to_byte.ensures at c.zero_bits.ensures) ∙ c.in_ok-next.was)
    (sym c.nothing_more.ensures ∙ c.in_err-nothing_more.was))

pub returns : goal.returns
returns c =
    let w = list_was _ _ _ c.read_list.ensures c.in_ok-end.was in
    file_whole _ c.if-s-gt65536.false _ _ w _ (sym (rw c.to_byte.ensures at c.zero_bits.ensures) ∙ c.in_ok-next.was) _
    (sym c.nothing_more.ensures ∙ c.in_ok-nothing_more.was)
