-- The basic machine (document 02, request 6): it starts as the tree machine does; refused as the tabulator refuses (1 to 6, 26), 9 aside.
use Rattle.std.specs.Prelude.{ℕ, List}
use Rattle.files.specs.Reading.{Got, got, refused}
use Rattle.owners.specs.Owners.{owner_of}
use Rattle.owners.specs.declared.Owner.{Owner}
use Rattle.basic.specs.Basic.{Basic}
use Rattle.basic.specs.Checked.{basic_checked}
use Rattle.machines.specs.Runs.{Memory, Ran, refused_run, started, program_run, reported}
use Rattle.basic_program.specs.Program.{basic_program}

unfoldable pub on_basic : Owner → ℕ → Memory → Got Basic → Ran
on_basic o b m (got c q) = reported (program_run o (basic_program c) b m.globals)
on_basic o b m (refused n p) = refused_run n p m

-- the file, the budget, the owner's number, and what is lent
unfoldable pub basic_run : List ℕ → ℕ → ℕ → Memory → Ran
unfolding on_basic started owner_of basic_checked
basic_run s b o m = started 1000000 b o m (on_basic (owner_of o) b m (basic_checked s))
