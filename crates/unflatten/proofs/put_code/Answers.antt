-- `unflatten::put_code` meets its contract. Assumes nothing.
use native.Mathlib.Omega.{arith}
use Rattle.unflatten.specs.laws.GrowLaws.{told_cut, told_read, grows_none, grows_on}
use Rattle.unflatten.proofs.put_code.Goals as goal

pub returns-in_err-n : goal.returns-in_err-n
returns-in_err-n c = λ n q e. absurd (told_cut _ _ _ e c.read_three.ensures c.in_err-n.was)

pub put_list-requires : goal.put_list-requires
put_list-requires c =
    let h = c.requires in
    let z = told_read _ _ _ h.1.read c.read_three.ensures c.in_ok-n.was in
    (omega arith, omega (arith, h.1.inside, z), h.0, omega (arith, h.1.room, z))

pub returns-in_err-past : goal.returns-in_err-past
returns-in_err-past c =
    λ n q e. rw c.from_residual-in_err-past.ensures (grows_none _ _ _ n _ _ _ (told_read _ _ _ e c.read_three.ensures c.in_ok-n.was) c.put_list.ensures c.in_err-past.was)

pub returns : goal.returns
returns c = λ n q e. grows_on _ _ _ n _ _ _ (told_read _ _ _ e c.read_three.ensures c.in_ok-n.was) c.put_list.ensures c.in_ok-past.was
