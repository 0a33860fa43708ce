-- Small files of basic byte code, and how the basic machine's definition runs them from their bytes, by computation. Assumes nothing.
use Rattle.std.specs.Prelude.{ℕ, ◌≡◌, refl, List, [], ◌∷◌, map}
use Rattle.cells.specs.Cells.{starting_global, value_of}
use Rattle.cells.specs.declared.Value.TheVariants.{Integer, Procedure}
use Rattle.fields.specs.Field.{bit_at, field_at, field_read, pick_field}
use Rattle.files.specs.Codes.{shape_of}
use Rattle.files.specs.Code.{put, simple}
use Rattle.files.specs.Entries.{then, field, field_got, tag_width, constant_at, zero_bits, nothing_more}
use Rattle.files.specs.Tree.{padded_end}
use Rattle.files.specs.Grammar.{is_empty, is_open, is_closed, entry_of, lowest}
use Rattle.files.specs.Linear.{bits_of, entry_bits, entries_bits, byte_of, bytes_from, bytes_of}
use Rattle.files.specs.Accepted.{or_lowest}
use Rattle.files.specs.Table.{constant_cell}
use Rattle.tree_file.specs.File.{operands_bits, list_bits, template_bits, templates_bits, file_bits, tree_file}
use Rattle.owners.specs.Owners.{is_owner, owner_of, may_set}
use Rattle.rules.specs.Owned.{may_do, owned_rule}
use Rattle.integers.specs.Integers.{signed, within, int_bits, total_of, all_integers}
use Rattle.rules.specs.Rules.{literal_rule, closure_rule, local_rule, push_rule, make_env_rule, add_rule, plain_rule, call_rule, make_cont_rule, return_rule}
use Rattle.machines.specs.Fetched.{named_by, as_literal, as_global, rule_of, resolve, plainly}
use Rattle.machines.specs.Machine.{bind, returned, act, step, jump_count, first_count, counted, next, run}
use Rattle.machines.specs.Runs.{fresh_memory, Ran, ran, refused_run, right_lengths, lowest_unfit, fit_globals, by_owner, started, start_state, end_of}
use Rattle.machines.specs.Runs.{memory_of}
use Rattle.machines.specs.Runs.{reported, program_run}
use Rattle.machines.specs.declared.End.{End}
use Rattle.machines.specs.declared.End.TheVariants.{Halted, Wrong, Refused}
use Rattle.basic.specs.Basic.{bits, carried_bits}
use Rattle.basic.specs.Tabulated.{inside}
use Rattle.basic.specs.Checked.{basic_checked}
use Rattle.basic_program.specs.Program.{first, look, bodies, all_bodies, basic_at}
use Rattle.basic_program.specs.Run.{on_basic, basic_run}

-- the end with its answer, the steps, and how many cells of stack, store and frames are in use
pub data Told : Type 0 where
  told : End → ℕ → ℕ → ℕ → ℕ → Told

abbrev pub tells : Ran → Told
tells (ran x m) = told x.end x.steps x.stack x.store x.frames

abbrev pub basic_files : List (List ℕ)
basic_files =
    -- a closure is called
    (57 ∷ 152 ∷ 0 ∷ 0 ∷ 0 ∷ 8 ∷ 16 ∷ 8 ∷ 0 ∷ 0 ∷ [])
    -- templates are numbered parent first
    ∷ (57 ∷ 194 ∷ 0 ∷ 128 ∷ 231 ∷ 8 ∷ 2 ∷ 0 ∷ 128 ∷ [])
    -- a closure in an arm
    ∷ (25 ∷ 194 ∷ 0 ∷ 25 ∷ 128 ∷ 0 ∷ 0 ∷ 0 ∷ 32 ∷ 16 ∷ 0 ∷ 0 ∷ [])
    -- a closure in a saved list
    ∷ (32 ∷ 1 ∷ 194 ∷ 1 ∷ 0 ∷ 0 ∷ 204 ∷ 0 ∷ 0 ∷ 0 ∷ 2 ∷ 8 ∷ 0 ∷ [])
    -- a closure with an argument
    ∷ (51 ∷ 0 ∷ 0 ∷ 0 ∷ 1 ∷ 88 ∷ 118 ∷ 128 ∷ 168 ∷ 0 ∷ 0 ∷ 32 ∷ 16 ∷ 8 ∷ 0 ∷ [])
    -- arms
    ∷ (25 ∷ 152 ∷ 0 ∷ 0 ∷ 0 ∷ 2 ∷ 3 ∷ 48 ∷ 0 ∷ 0 ∷ 0 ∷ 8 ∷ 6 ∷ 96 ∷ 0 ∷ 0 ∷ 0 ∷ 24 ∷ 64 ∷ [])
    -- a constant in two templates
    ∷ (51 ∷ 0 ∷ 0 ∷ 0 ∷ 1 ∷ 88 ∷ 115 ∷ 48 ∷ 0 ∷ 0 ∷ 0 ∷ 20 ∷ 32 ∷ 16 ∷ 8 ∷ 0 ∷ [])
    -- a frame is left
    ∷ (51 ∷ 0 ∷ 0 ∷ 0 ∷ 0 ∷ 88 ∷ 64 ∷ 16 ∷ 128 ∷ 64 ∷ 0 ∷ [])
    -- a global that the house may not set
    ∷ (51 ∷ 0 ∷ 0 ∷ 0 ∷ 0 ∷ 82 ∷ 128 ∷ 16 ∷ 0 ∷ [])
    -- 6 at the inner closure
    ∷ (57 ∷ 222 ∷ 0 ∷ 128 ∷ 225 ∷ 0 ∷ 64 ∷ [])
    ∷ []

abbrev pub expected : List Told
expected =
    told (Halted (Integer 4)) 4 0 1 0
    ∷ told (Halted (Procedure (record { template = 3; env = 0; location = 1 }))) 3 0 2 0
    ∷ told (Halted (Procedure (record { template = 1; env = 0; location = 0 }))) 4 0 1 0
    ∷ told (Halted (Procedure (record { template = 1; env = 0; location = 0 }))) 6 0 1 0
    ∷ told (Halted (Integer 5)) 7 0 3 0
    ∷ told (Halted (Integer 3)) 4 0 0 0
    ∷ told (Halted (Integer 5)) 6 1 1 0
    ∷ told (Wrong 11) 3 0 0 2
    ∷ told (Wrong 25) 1 0 0 0
    ∷ told (Refused 6 2) 0 0 0 0
    ∷ []

-- run as the house with a budget of 100 steps, all globals undefined
pub rows : map (λ s. tells (basic_run s 100 0 fresh_memory)) basic_files ≡ expected
unfolding starting_global value_of bit_at field_at field_read pick_field shape_of put simple then field field_got tag_width constant_at zero_bits nothing_more
    padded_end is_empty is_open is_closed entry_of lowest bits_of entry_bits entries_bits byte_of bytes_from bytes_of or_lowest operands_bits list_bits
    template_bits templates_bits file_bits tree_file constant_cell signed total_of within int_bits all_integers literal_rule closure_rule local_rule push_rule
    make_env_rule add_rule plain_rule call_rule is_owner owner_of may_set may_do owned_rule make_cont_rule return_rule named_by as_literal as_global rule_of
    resolve plainly bind returned act step jump_count first_count counted next run refused_run right_lengths lowest_unfit fit_globals by_owner started
    start_state end_of memory_of reported program_run bits carried_bits inside basic_checked first look bodies all_bodies basic_at on_basic basic_run
rows = refl
