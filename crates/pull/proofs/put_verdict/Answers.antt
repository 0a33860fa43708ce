-- `pull::put_verdict` meets its contract: by three comparisons, in their order. Assumes nothing.
use native.Mathlib.Omega.{arith}
use mathlib.Core.Path.{sym, ◌∙◌}
use Rattle.integers.specs.Integers.{signed}
use Rattle.pull.proofs.Lines.{verdict_order, verdict_low, verdict_high, verdict_ok}
use Rattle.pull.proofs.put_verdict.Goals as goal

pub returns-then-less : goal.returns-then-less
returns-then-less c =
    record {
      put = rw (verdict_order (signed c.args.i) (signed c.args.o) (signed c.args.first) (signed c.args.last) (sym c.less.ensures ∙ c.if-less.true))
          c.put_word.ensures;
      upper_bound = omega arith;
    }

pub returns-then-less-2 : goal.returns-then-less-2
returns-then-less-2 c =
    let known = verdict_low (signed c.args.i) (signed c.args.o) (signed c.args.first) (signed c.args.last) (sym c.less.ensures ∙ c.if-less.false)
    (sym c.less-2.ensures ∙ c.if-less-2.true) in
    record { put = rw known c.put_word-then-less-2.ensures; upper_bound = omega arith }

pub returns-then-less-3 : goal.returns-then-less-3
returns-then-less-3 c =
    let first = sym c.less.ensures ∙ c.if-less.false in
    let second = sym c.less-2.ensures ∙ c.if-less-2.false in record {
      put = rw (verdict_high (signed c.args.i) (signed c.args.o) (signed c.args.first) (signed c.args.last) first second
          (sym c.less-3.ensures ∙ c.if-less-3.true)) c.put_word-then-less-3.ensures;
      upper_bound = omega arith;
    }

pub returns : goal.returns
returns c =
    let first = sym c.less.ensures ∙ c.if-less.false in
    let second = sym c.less-2.ensures ∙ c.if-less-2.false in record {
      put = rw (verdict_ok (signed c.args.i) (signed c.args.o) (signed c.args.first) (signed c.args.last) first second
          (sym c.less-3.ensures ∙ c.if-less-3.false)) c.put_word-2.ensures;
      upper_bound = omega arith;
    }
