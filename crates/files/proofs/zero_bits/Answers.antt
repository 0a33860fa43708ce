-- `files::zero_bits` meets its contract. The bits that are left, from here, are read as the whole is from the start. Assumes nothing.
use Prim.Native.Nat.{ℕ, ◌+◌, ◌-◌}
use native.Mathlib.Nat.{add-sub_cancel_left}
use native.Mathlib.Omega.{arith}
use mathlib.Core.Path.{sym, ap, ◌∙◌}
use borrow.Author.Rules.{rules}
use Rattle.files.specs.Entries.{zero_bits}
use Rattle.files.specs.EntriesRead.{past_told}
use Rattle.files.specs.laws.PaddingSteps.{no_bits, bits_on, bits_stop}
use Rattle.files.proofs.zero_bits.Goals as goal

pub loop-init : goal.loop-init
loop-init c = (search rules, search rules, simp add-sub_cancel_left)

pub returns-then-bits_at-ne0 : goal.returns-then-bits_at-ne0
returns-then-bits_at-ne0 c =
    let i = c.loop.invariant in
    bits_stop _ _ _ _ (omega (arith, i.0, c.loop-test.true)) c.bits_at.ensures.0 (λ e. omega arith) ∙ sym i.2

pub loop-preserved : goal.loop-preserved
loop-preserved c =
    let i = c.loop.invariant in
    let on = bits_on c.args.s.now (c.args.at.0 + c.args.n) c.loop.here.0 _ (omega (arith, i.0, c.loop-test.true)) c.bits_at.ensures.0
    c.if-bits_at-ne0.false in
    (search rules, search rules, i.2 ∙ on ∙ ap (λ (p : ℕ). past_told (zero_bits c.args.s.now (c.args.at.0 + c.args.n - p) p (tt {0}))) (sym c.past-here.ensures))

pub returns : goal.returns
returns c = let i = c.loop.invariant in no_bits _ _ _ (omega (arith, i.0, c.loop-test.false)) ∙ sym i.2
