-- `frames::make_cont` meets its contract. Assumes nothing.
use borrow.Author.Tests.{le-leb, lt-leb, eq-eqb, ne_eqb}
use mathlib.Core.Path.{◌≡◌, refl}
use native.Mathlib.Omega.{arith}
use Rattle.frames.specs.Ends.{told_kept}
use Rattle.frames.proofs.make_cont.Goals as goal

pub returns-then-sp-n : goal.returns-then-sp-n
unfolding told_kept
returns-then-sp-n c = record { by_index = (λ g s. rw (ne_eqb c.args.r.sp c.args.n (λ e. omega arith))); fits = tt }

pub returns-then-fr-sp-le2048 : goal.returns-then-fr-sp-le2048
unfolding told_kept
returns-then-fr-sp-le2048 c =
    let e : c.args.r.sp ≡ c.args.n = omega (arith, c.if-sp-n.false) in
    record { by_index = (λ g s. rw (c.copy_up.ensures, c.clear.ensures, ← e, eq-eqb _ _ refl, le-leb _ _ c.if-fr-sp-le2048.true)); fits = omega (arith, c.if-fr-sp-le2048.true) }

pub returns-else-fr-sp-le2048 : goal.returns-else-fr-sp-le2048
unfolding told_kept
returns-else-fr-sp-le2048 c = record { by_index = (λ g s. rw (← c.if-sp-n.false, eq-eqb _ _ refl, lt-leb _ _ c.if-fr-sp-le2048.false)); fits = tt }
