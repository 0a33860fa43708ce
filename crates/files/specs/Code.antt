-- A code list of a tree: what it begins with, and what follows that in the list.
use Rattle.std.specs.Prelude.{ℕ, ◌+◌, ◌*◌, cond, List, length, get_or, eqb}

pub data Code : Type 0 where
  done : Code
  -- code, operands
  neutral : ℕ → List ℕ → Code → Code
  return : Code → Code
  call : ℕ → Code → Code
  -- first arm, second arm
  unless_false : Code → Code → Code → Code
  -- n, saved list
  make_cont : ℕ → Code → Code → Code

-- one instruction, without the rest
pub data Instr : Type 0 where
  neutral_i : ℕ → List ℕ → Instr
  return_i : Instr
  call_i : ℕ → Instr
  unless_i : Code → Code → Instr
  cont_i : ℕ → Code → Instr

unfoldable pub put : Instr → Code → Code
put (neutral_i op ns) c = neutral op ns c
put return_i c = return c
put (call_i n) c = call n c
put (unless_i x y) c = unless_false x y c
put (cont_i n x) c = make_cont n x c

-- an instruction without lists, by its code and its operands
unfoldable pub simple : ℕ → List ℕ → Instr
simple v ns = cond (eqb v 1) return_i (cond (eqb v 2) (call_i (get_or ns 0 0)) (neutral_i v ns))

-- how many bits a list takes in a tree file, its code 0 with it
unfoldable pub bits : Code → ℕ
bits done = 5
bits (neutral op ns r) = 5 + 8 * length ns + bits r
bits (return r) = 5 + bits r
bits (call n r) = 13 + bits r
bits (unless_false x y r) = 5 + bits x + bits y + bits r
bits (make_cont n x r) = 13 + bits x + bits r
