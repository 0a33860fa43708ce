-- The rows P1 to P8 of document 01 ('Rule sheets to try'): from a sheet's bytes to the linear file's bytes, ends, answers and steps, by
-- computation. Assumes nothing.
use Rattle.std.specs.Prelude.{ℕ, ◌≡◌, refl, List, [], ◌∷◌, map}
use Rattle.cells.specs.Cells.{starting_global, value_of}
use Rattle.cells.specs.declared.Value.TheVariants.{Unspecified, Integer}
use Rattle.fields.specs.Field.{bit_at, field_at, field_read, pick_field}
use Rattle.files.specs.Codes.{shape_of, is_neutral, operand_bytes}
use Rattle.files.specs.Code.{put, simple, bits}
use Rattle.files.specs.Reading.{Got, got, refused, with_field, with_list, with_deep, shaped, head_at, before, after, items, deep_of, list_at}
use Rattle.files.specs.Entries.{then, field, field_got, tag_width, constant_at, kind_at, entry_at, entries_at, zero_bits, nothing_more}
use Rattle.files.specs.laws.Rows.{plain_file, sheets}
use Rattle.files.specs.Tree.{Template, template_at, templates_at, padded_end, tree_read}
use Rattle.files.specs.Grammar.{is_empty, is_open, is_closed, entry_of, suits, index_fits, each_neutral, indices_fit, lowest}
use Rattle.files.specs.Flat.{offset, conditional, flat, arms_fit, offsets_fit}
use Rattle.files.specs.Linear.{bits_of, entry_bits, entries_bits, byte_of, bytes_from, bytes_of, template_bytes, templates_bytes, linear_file, code_at}
use Rattle.files.specs.Linear.{linear_template_at}
use Rattle.files.specs.Linear.{linear_templates_at, linear_read}
use Rattle.files.specs.Orphans.{is_template, closes, closure_names, lowest_number, lowest_orphan}
use Rattle.files.specs.Accepted.{or_lowest, tree_checked, tree_accepted, flat_accepted}
use Rattle.files.specs.Table.{constant_cell}
use Rattle.owners.specs.Owners.{is_owner, owner_of}
use Rattle.rules.specs.Owned.{may_do, owned_rule}
use Rattle.integers.specs.Integers.{signed, within, int_bits, total_of, all_integers}
use Rattle.rules.specs.Rules.{literal_rule, push_rule, add_rule, plain_rule, make_cont_rule, return_rule}
use Rattle.machines.specs.Fetched.{named_by, as_literal, rule_of, resolve, plainly, open_count, first, beyond, look, transfer, decode, tree_at, linear_at}
use Rattle.machines.specs.Machine.{bind, returned, act, step, jump_count, first_count, counted, next, run}
use Rattle.machines.specs.Runs.{fresh_memory, Ran, ran, refused_run, right_lengths, lowest_unfit, fit_globals, by_owner, started, start_state, end_of}
use Rattle.machines.specs.Runs.{memory_of}
use Rattle.machines.specs.Runs.{reported, program_run, on_tree, on_linear, tree_run, linear_run}
use Rattle.machines.specs.declared.End.{End}
use Rattle.machines.specs.declared.End.TheVariants.{Halted, Refused}

-- what a row tells, run as the house with budgets of 100 and 200 steps (a larger one changes no end: longer of agree): the linear file or the refusal's number
-- and place; each machine's end with its answer, and its steps
pub data Told : Type 0 where
  flattens : List ℕ → End → ℕ → End → ℕ → Told
  refuses : ℕ → ℕ → End → Told

abbrev pub on_two : List ℕ → Ran → Ran → Told
on_two w (ran x m) (ran y n) = flattens w x.end x.steps y.end y.steps

abbrev pub on_one : ℕ → ℕ → Ran → Told
on_one n p (ran x m) = refuses n p x.end

abbrev pub row_told_of : List ℕ → Got (List Template) → Told
row_told_of s (got ts q) = on_two (linear_file ts) (tree_run s 100 0 fresh_memory) (linear_run (linear_file ts) 200 0 fresh_memory)
row_told_of s (refused n p) = on_one n p (tree_run s 100 0 fresh_memory)

abbrev pub row_told : List ℕ → Told
row_told s = row_told_of s (flat_accepted s)

abbrev pub expected : List Told
expected =
    flattens (plain_file 1 (0x01 ∷ [])) (Halted Unspecified) 1 (Halted Unspecified) 1
    ∷ flattens
    (0x01 ∷ 0x02 ∷ 0x60 ∷ 0x00 ∷ 0x00 ∷ 0x00 ∷ 0x3B ∷ 0x00 ∷ 0x00 ∷ 0x00 ∷ 0x01 ∷ 0x40 ∷ 0x00 ∷ 0x00 ∷ 0x10 ∷ 0x06 ∷ 0x01 ∷ 0x0C ∷ 0x03 ∷ 0x00 ∷ 0x05 ∷ 0x06
    ∷ 0x02 ∷ 0x05 ∷ 0x00 ∷ 0x02 ∷ 0x06 ∷ 0x01 ∷ 0x0C ∷ 0x16 ∷ 0x01 ∷ [])
    (Halted (Integer 12)) 7 (Halted (Integer 12)) 8
    ∷ flattens (plain_file 13 (0x03 ∷ 0x00 ∷ 0x08 ∷ 0x04 ∷ 0x00 ∷ 0x01 ∷ 0x00 ∷ 0x01 ∷ 0x05 ∷ 0x00 ∷ 0x01 ∷ 0x0F ∷ 0x01 ∷ [])) (Halted Unspecified) 4
    (Halted Unspecified) 5
    ∷ flattens (plain_file 16 (0x03 ∷ 0x00 ∷ 0x0B ∷ 0x03 ∷ 0x00 ∷ 0x04 ∷ 0x0F ∷ 0x05 ∷ 0x00 ∷ 0x01 ∷ 0x0F ∷ 0x05 ∷ 0x00 ∷ 0x01 ∷ 0x0F ∷ 0x01 ∷ []))
    (Halted Unspecified) 4 (Halted Unspecified) 6
    ∷ refuses 2 0 (Refused 2 0)
    ∷ refuses 3 0 (Refused 3 0)
    ∷ refuses 5 32 (Refused 5 32)
    ∷ []

-- P1 to P7, and P8: offset 65,535 splits into 255, 255; 256 into 1, 0
pub rows : (map row_told sheets ≡ expected) × (map offset (65535 ∷ 256 ∷ []) ≡ (255 ∷ 255 ∷ []) ∷ (1 ∷ 0 ∷ []) ∷ [])
unfolding starting_global value_of bit_at field_at field_read pick_field shape_of is_neutral operand_bytes put simple bits with_field with_list with_deep shaped
    head_at before after items deep_of list_at then field field_got tag_width constant_at kind_at entry_at entries_at zero_bits nothing_more template_at
    templates_at padded_end tree_read is_empty is_open is_closed entry_of suits index_fits each_neutral indices_fit lowest conditional flat arms_fit offsets_fit
    bits_of entry_bits entries_bits byte_of bytes_from bytes_of template_bytes templates_bytes linear_file code_at linear_template_at linear_templates_at
    linear_read or_lowest tree_checked tree_accepted flat_accepted closes is_template closure_names lowest_number lowest_orphan constant_cell signed total_of
    within int_bits all_integers literal_rule push_rule add_rule plain_rule is_owner owner_of may_do owned_rule make_cont_rule return_rule named_by as_literal
    rule_of resolve plainly open_count first beyond look transfer decode tree_at linear_at bind returned act step jump_count first_count counted next run
    refused_run right_lengths lowest_unfit fit_globals by_owner started start_state end_of memory_of reported program_run on_tree on_linear tree_run linear_run
rows = (refl, refl)
