-- The run of a whole file, by what reading it answered. Assumes nothing.
use Prim.Native.Nat.{ℕ}
use mathlib.Core.Path.{◌≡◌, refl, sym, ap, ◌∙◌}
use mathlib.Core.List.{List}
use Rattle.cells.specs.laws.Laws.{clash}
use Rattle.cells.specs.declared.BitPlace.{BitPlace}
use Rattle.files.specs.Reading.{Got, got, refused}
use Rattle.files.specs.Linear.{Linear, linear_read}
use Rattle.files.specs.Room.{ZerosFor}
use Rattle.files.specs.laws.RoomLaws.{all_rows}
use Rattle.files.specs.Table.{linear_table}
use Rattle.linear.specs.Filled.{linear_told, linear_filled}
use Rattle.linear.specs.laws.LinearTable.{linear_table_lem}
use Rattle.owners.specs.declared.Owner.{Owner}
use Rattle.machines.specs.Machine.{linear_program}
use Rattle.machines.specs.Runs.{Memory, Ran, ran, refused_run, start_state, program_run, on_linear}
use Rattle.machines.specs.Start.{zeros, refusal}
use Rattle.machines.specs.Steps.{ran_from}
use Rattle.machines.specs.laws.Steps.{whole_budget}
use Rattle.machines.specs.declared.Run.{Run}
use Rattle.linear_code.specs.Bytes.{bytes_program, AllBytes, AllWithin}
use Rattle.linear_code.specs.laws.ProgramLaws.{table_within, program_is}
use Rattle.linear_machine.specs.Again.{TableOf}
use Rattle.std.specs.Prelude.{Result, Ok, Err}
use Rattle.files.specs.declared.Refusal.{Refusal}
use Rattle.files.specs.laws.RefusalLaws.{err_number, err_place}
use Rattle.files.specs.Refusal.{refusal as why}

-- ---- what reading answered
record WasRead (g : Got (List Linear)) : Type 0 where
  templates : List Linear
  past : ℕ
  is : g ≡ got templates past

was_read : (g : Got (List Linear)) (n : ℕ) → Ok n ≡ linear_told g → WasRead g
unfolding linear_told
was_read (got ts q) n e = record { templates = ts; past = q; is = refl }
was_read (refused m p) n e = clash (cc)

was_refused : (g : Got (List Linear)) (n : ℕ) (p : BitPlace) → Err (why n p) ≡ linear_told g → g ≡ refused n p.0
unfolding linear_told
was_refused (got ts q) n p e = clash (cc)
was_refused (refused m q) n p e = rw (err_number e, err_place e)

-- ---- a file s that was read, x the answer; table is what the table was before and table' after
module _ (s table table' : List ℕ) (x : Result ℕ (Refusal BitPlace)) (asked : x ≡ linear_told (linear_read s)) (was : ZerosFor s table)
    (filled : table' ≡ linear_filled s table) (n : ℕ) (there : x ≡ Ok n) where
  file : WasRead (linear_read s)
  file = was_read (linear_read s) n (sym there ∙ asked)

  table_is : table' ≡ linear_table was.size file.templates
  table_is = filled ∙ ap (linear_filled s) was.zero ∙ linear_table_lem s was.size was.room file.is

  pub file_within_lem : AllWithin s table'
  file_within_lem = rw table_is (table_within s was.size file.is)

  pub file_ran : (o : Owner) (b : ℕ) (m : Memory) (r : Ran) → AllBytes s → r ≡ ran_from o (bytes_program s table') b 0 (start_state m.globals 0)
      → r ≡ on_linear o b m (linear_read s)
  unfolding on_linear program_run
  file_ran o b m r bytes h =
      h ∙ rw (table_is, file.is, program_is s was.size file.is bytes) (whole_budget o (linear_program file.templates) b (start_state m.globals 0))

-- ---- a file that was read before
zeros_for : (s : List ℕ) → ZerosFor s (zeros 16384)
unfolding zeros
zeros_for s = all_rows s refl

module _ (s table : List ℕ) (t : TableOf s table) where
  pub again_within : AllWithin s table
  again_within = file_within_lem s (zeros 16384) table (Ok t.count) (sym t.read) (zeros_for s) t.filled t.count refl

  pub again_ran : (o : Owner) (b : ℕ) (m : Memory) (r : Ran) → AllBytes s → r ≡ ran_from o (bytes_program s table) b 0 (start_state m.globals 0)
      → r ≡ on_linear o b m (linear_read s)
  again_ran = file_ran s (zeros 16384) table (Ok t.count) (sym t.read) (zeros_for s) t.filled t.count refl

-- ---- a file that is refused
pub file_refused : (s : List ℕ) (x : Result ℕ (Refusal BitPlace)) (o : Owner) (b : ℕ) (m : Memory) (n : ℕ) (p : BitPlace) (r : Run)
    → x ≡ linear_told (linear_read s) → x ≡ Err (why n p) → r ≡ refusal n p.0 → ran r m ≡ on_linear o b m (linear_read s)
unfolding on_linear refused_run
file_refused s x o b m n p r e h k = rw (k, was_refused (linear_read s) n p (sym h ∙ e))
