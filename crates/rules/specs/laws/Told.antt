-- From what a function answers to how its rule ends. Assumes nothing.
use Rattle.std.specs.Prelude.{◌≡◌, ℕ, Ok}
use Rattle.std.proofs.Common.{sym}
use Rattle.cells.specs.laws.Laws.{clash}
use Rattle.rules.specs.State.{Mem, Held, Res, ok, wrong, on, answered, leaves, out, told}
use Rattle.rules.specs.declared.Regs.{Regs}

pub told_next : (m m' : Mem) (r : Regs) (x : Res Held) → out (Ok r) m' ≡ told m x → x ≡ on r m'
unfolding told
told_next m m' r (ok h) e = let p : r ≡ h.regs = cc in let q : m' ≡ h.mem = cc in rw (p, q)
told_next m m' r (wrong n) e = clash (cc)

-- of any number; `out (Err w)` leaves `wrong (wrong_number w)`
pub told_wrong : (m m' : Mem) (n : ℕ) (x : Res Held) → leaves (wrong n) m' ≡ told m x → (x ≡ wrong n) × (m' ≡ m)
unfolding told
told_wrong m m' n (ok h) e = clash (cc)
told_wrong m m' n (wrong k) e = let p : n ≡ k = cc in let q : m' ≡ m = cc in (rw p, q)

pub called_to_lem : (t : ℕ) (r : Regs) (x : Res (ℕ × Regs)) → answered (Ok (t, r)) ≡ x → x ≡ ok (t, r)
called_to_lem t r x e = sym e

pub called_wrong : (n : ℕ) (x : Res (ℕ × Regs)) → wrong n ≡ x → x ≡ wrong n
called_wrong n x e = sym e
