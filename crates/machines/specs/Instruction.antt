-- What the code's own instruction is: what stands at a code place of a program.
use Rattle.std.specs.Prelude.{ℕ, ◌<◌, ◌^◌, ◌≡◌}
use Rattle.machines.specs.Fetched.{Fetched, returns, calls, branches, saves, jumps, bad, plainly}
use Rattle.machines.specs.Slots.{slot_resolve}
use Rattle.machines.specs.declared.CodePlace.{CodePlace}
use Rattle.machines.specs.declared.CodePlace.TheVariants.{Tree, Linear}
use Rattle.machines.specs.declared.Instruction.{Instruction}
use Rattle.machines.specs.declared.Instruction.TheVariants.{Neutral, Return, Call, Branch, Save, Jump, Bad}

-- the bit number or the byte number
unfoldable pub number : CodePlace → ℕ
number (Tree p) = p.0
number (Linear p) = p.0

-- the forms of code that a step can be in
pub data Form : Type 0 where
  tree_form : Form
  linear_form : Form

unfoldable pub form_of : CodePlace → Form
form_of (Tree p) = tree_form
form_of (Linear p) = linear_form

-- in a template that has these slots. Whether a conditional of a tree is open is not known here: 0
unfoldable pub fetched_as : (ℕ → ℕ) → Instruction → Fetched
unfolding number plainly slot_resolve
fetched_as slot (Neutral op a b p) = plainly (slot_resolve slot op a b) (number p)
fetched_as slot Return = returns
fetched_as slot (Call n) = calls n
fetched_as slot (Branch p q) = branches 0 (number p) (number q)
fetched_as slot (Save n p q) = saves n (number p) (number q)
fetched_as slot (Jump p) = jumps (number p)
fetched_as slot Bad = bad

-- p is a place in that form of code
abbrev pub Of : Form → CodePlace → Type 0
Of form p = form_of p ≡ form

-- the places in an instruction are of the same form of code, and one that is saved fits into a frame
unfoldable pub Places : Form → Instruction → Type 0
unfolding number form_of
Places form (Neutral op a b p) = Of form p
Places form Return = Unit
Places form (Call n) = Unit
Places form (Branch p q) = Of form p × Of form q
Places form (Save n p q) = Of form p × Of form q × (number p < 2 ^ 24)
Places form (Jump p) = Of form p
Places form Bad = Unit
