-- Request 6, the statement, in two parts and whole. Its proof stands in laws/Proved.antt.
--
-- The tabulated file of a basic file s that is accepted (1 to 6, 26) is an accepted tree file: it passes 1 to 7 and 24, and its templates are the tabulator's.
--
-- A machine on the basic form ends as the tree machine does on the tabulated file: for every such s, every budget b, every owner's number o and every memory
-- m lent (its starting globals with it), the runs end alike. Alike as in demand 3 (agree/specs/Demand3.antt), with no jumps: same end with its number, same
-- answer, same steps, same globals, stack, store and used counts, and same frames but for their code places. A run that is refused (20, 21, 31, 22) is refused
-- alike, and one that is out of budget is so in both.
use Rattle.std.specs.Prelude.{ℕ, ◌*◌, ◌≡◌, List, length}
use Rattle.files.specs.Reading.{got}
use Rattle.files.specs.Accepted.{tree_accepted}
use Rattle.tree_file.specs.File.{tree_file, placed}
use Rattle.basic.specs.Basic.{Basic}
use Rattle.basic.specs.Tabulated.{tabulated}
use Rattle.basic.specs.Checked.{basic_checked, tabulated_file}
use Rattle.machines.specs.Runs.{Memory, tree_run}
use Rattle.basic_program.specs.Run.{basic_run}
use Rattle.agree.specs.Demand3.{EndAlike}

-- the tabulated file of c is an accepted tree file, which ends with its last byte, and its templates are the tabulator's
abbrev pub Tabulates : Basic → Type 0
Tabulates c = tree_accepted (tree_file (tabulated c)) ≡ got (placed 8 (tabulated c)) (8 * length (tree_file (tabulated c)))

abbrev pub TabulatedAccepted : Type 0
TabulatedAccepted = (s : List ℕ) (c : Basic) (q : ℕ) → basic_checked s ≡ got c q → Tabulates c

abbrev pub BasicAlike : Type 0
BasicAlike =
    (s : List ℕ) (c : Basic) (q b o : ℕ) (m : Memory) → basic_checked s ≡ got c q → EndAlike (basic_run s b o m) (tree_run (tree_file (tabulated c)) b o m) 0 0

-- ---- both of what the tabulator writes
-- w, which ends at q, is the tabulated file of s
pub record TabulatedAs (s w : List ℕ) (q : ℕ) : Type 0 where
  pub list : Basic
  pub past : ℕ
  pub checked : basic_checked s ≡ got list past
  pub accepted : tree_accepted w ≡ got (placed 8 (tabulated list)) q
  pub alike : (b o : ℕ) (m : Memory) → EndAlike (basic_run s b o m) (tree_run w b o m) 0 0

-- for an output of n bytes
abbrev pub TabulatorAlike : Type 0
TabulatorAlike = (s w : List ℕ) (n q : ℕ) → tabulated_file s n ≡ got w q → TabulatedAs s w q
