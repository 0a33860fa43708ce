-- The numbers of documents 01 and 02 by name, in the tables' order, each with the definition that gives it. Definitions use the names; rows and laws,
-- which are laid beside the paper, may use the numbers.
use Rattle.std.specs.Prelude.{ℕ}

-- ---- 'File refusals', and the place returned
-- 1 tree over 65,536 bytes, linear over 262,144; place 0: tree_read, linear_read (files, Tree and Linear)
abbrev pub too_long : ℕ
too_long = 1

-- 2 a field runs past the end; its first bit: field_got, with_field, items, codeAt (files, Entries, Reading and Linear)
abbrev pub cut_field : ℕ
cut_field = 2

-- 3 a field's value or code is invalid; its first bit: valid, kindAt, shaped (files, Entries and Reading)
abbrev pub invalid_field : ℕ
invalid_field = 3

-- 4 an instruction would open level 17; first bit of its code: with_deep (files, Reading)
abbrev pub too_deep : ℕ
too_deep = 4

-- 5 a padding bit set, or bytes after the end; first such bit: zero_bits, nothing_more (files, Entries)
abbrev pub not_the_end : ℕ
not_the_end = 5

-- 6 a list isn't open or closed as required; lowest template: tree_checked (files, Accepted), by closed_template
abbrev pub not_closed : ℕ
not_closed = 6

-- 7 6 to 9 name index 0, one above E, or the wrong kind; lowest template: tree_checked (files, Accepted), by indexed_template
abbrev pub wrong_index : ℕ
wrong_index = 7

-- 24 no closure instruction names a template other than 0; lowest such template: tree_accepted (files, Accepted), by lowest_orphan (request 4)
abbrev pub orphan : ℕ
orphan = 24

-- 8 an offset exceeds 65,535; lowest template: flat_checked, flat_accepted (files, Accepted), by offset_template
abbrev pub far_offset : ℕ
far_offset = 8

-- 32 no accepted tree file flattens to these bytes; the lowest template that stands in the way, 0 where only the tree's length does: templates_back,
-- given (unflatten, Back; request 13)
abbrev pub no_tree : ℕ
no_tree = 32

-- 30 more entries than E can say in a joined file, place 0: within_limits (join, Join; request 10)
abbrev pub many_entries : ℕ
many_entries = 30

-- 26 more templates, entries or bytes than a tree file may have, of a basic file once tabulated; place 0: limited (basic, Checked; request 6)
abbrev pub too_large : ℕ
too_large = 26

-- 9 output shorter than what is to be written; bytes needed: into_bytes (files, Outcome)
abbrev pub short_output : ℕ
short_output = 9

-- ---- 'Rules': wrong ends
-- 10 the stack does not hold so many: make_env_rule, check_args_rule, call_rule, keep_rule, cons_rule, part_rule, eqv_rule, two_integers (rules, Rules)
abbrev pub wrong_count : ℕ
wrong_count = 10

-- 11 v is no closure: call_rule (rules, Rules)
abbrev pub no_closure : ℕ
no_closure = 11

-- 12 what is held is undefined: held_rule (rules, Rules)
abbrev pub undefined : ℕ
undefined = 12

-- 13 beyond the layers, or beyond a layer's places: found (rules, Rules)
abbrev pub beyond_layers : ℕ
beyond_layers = 13

-- 14 no pair, or not all integers: part_rule, add_rule, two_integers (rules, Rules)
abbrev pub wrong_kind : ℕ
wrong_kind = 14

-- 15 the exact result is not within an integer's bits, signed: integer_rule (rules, Rules)
abbrev pub out_of_range : ℕ
out_of_range = 15

-- 23 a zero divisor: divided (rules, Rules); in a step after 12 and before 15 (request 1)
abbrev pub zero_divisor : ℕ
zero_divisor = 23

-- 25 a global read or set outside the owner's right: owned_rule (rules, Owned); in a step right after 16, before all others (request 12)
abbrev pub not_owned : ℕ
not_owned = 25

-- 16 a linear code position outside the code, an invalid byte, a cut instruction or an unfit entry: act (machines, Machine), of `bad`
abbrev pub bad_code : ℕ
bad_code = 16

-- 17 stack full: push_rule (rules, Rules)
abbrev pub stack_full : ℕ
stack_full = 17

-- 18 store or frames full: closure_rule, make_env_rule, cons_rule, keep_rule (rules, Rules)
abbrev pub no_room : ℕ
no_room = 18

-- 19 the steps reach the budget without a halt: numberOf (machines, Runs), of OutOfBudget
abbrev pub budget_spent : ℕ
budget_spent = 19

-- ---- 'Cells': refused at the start
-- 20 a wrong length; place 0: started (machines, Runs), start_refusal (Start)
abbrev pub wrong_length : ℕ
wrong_length = 20

-- 21 budget over 1,000,000 for the tree, 2,000,000 for the linear machine; place 0: started, start_refusal
abbrev pub large_budget : ℕ
large_budget = 21

-- 22 a starting global that isn't exactly one of tags 1 to 6; lowest number: fit_globals (machines, Runs), globals_refusal (Start)
abbrev pub unfit_global : ℕ
unfit_global = 22

-- 31 an owner that is neither 0 nor 1; place 0: started, start_refusal; after 21 and before 22 (request 12)
abbrev pub unknown_owner : ℕ
unknown_owner = 31

-- ---- a pull list's: refused before any run (request 9), then 21 and the linear file's
-- 27 more than 256 clips, or a cut-off one; place 0: clips_checked (pull, Pull)
abbrev pub cut_clips : ℕ
cut_clips = 27

-- 28 a zero or negative denominator; the lowest clip: speeds_checked (pull, Pull)
abbrev pub no_speed : ℕ
no_speed = 28

-- 29 a list of under 48 bytes a clip; place 0: room_checked (pull, Pull)
abbrev pub short_list : ℕ
short_list = 29
