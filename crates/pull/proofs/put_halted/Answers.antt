-- `pull::put_halted` meets its contract: by the tags. Assumes nothing.
use native.Mathlib.Omega.{arith}
use mathlib.Core.Path.{sym, ◌∙◌}
use Rattle.text.specs.Text.{line}
use Rattle.pull.proofs.Lines.{no_in, no_out, both}
use Rattle.pull.proofs.put_halted.Goals as goal

pub returns-then-tag_of-ne6 : goal.returns-then-tag_of-ne6
unfolding line
returns-then-tag_of-ne6 c = record { put = rw (no_in _ _ _ (λ e. c.if-tag_of-ne6.true (c.tag_of.ensures ∙ e))) c.put_bytes.ensures; upper_bound = omega arith }

pub returns-then-tag_of-ne6-2 : goal.returns-then-tag_of-ne6-2
unfolding line
returns-then-tag_of-ne6-2 c =
    let tag = sym c.tag_of.ensures ∙ c.if-tag_of-ne6.false in
    record { put = rw (no_out _ _ _ tag (λ e. c.if-tag_of-ne6-2.true (c.tag_of-2.ensures ∙ e))) c.put_bytes-then-tag_of-ne6-2.ensures; upper_bound = omega arith }

pub returns : goal.returns
returns c =
    let tag = sym c.tag_of.ensures ∙ c.if-tag_of-ne6.false in
    let range = rw (c.int_of.ensures, c.int_of-2.ensures) at c.put_range.ensures.put in
    record { put = rw (both _ _ _ tag (sym c.tag_of-2.ensures ∙ c.if-tag_of-ne6-2.false)) range; upper_bound = omega arith }
