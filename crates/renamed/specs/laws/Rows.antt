-- A sheet with an orphan and entries that nothing names, and its trimmed sheet, from their bytes: trimming gives the one from the other, and the
-- tree machine ends alike on both. Assumes nothing.
use Rattle.std.specs.Prelude.{ℕ, zero, suc, ◌≡◌, refl, List, [], ◌∷◌, get_or}
use Rattle.fields.specs.Field.{bit_at, field_at, field_read, pick_field}
use Rattle.files.specs.Codes.{shape_of}
use Rattle.files.specs.Code.{done, neutral, return, put, simple}
use Rattle.files.specs.Reading.{got, with_field, with_list, with_deep, shaped, head_at, before, after, items, deep_of, list_at}
use Rattle.files.specs.Entries.{constant, global, template, then, field, field_got, tag_width, constant_at, kind_at, entry_at, entries_at, zero_bits}
use Rattle.files.specs.Entries.{nothing_more}
use Rattle.files.specs.Tree.{Template, template_at, templates_at, padded_end, tree_read}
use Rattle.files.specs.Grammar.{is_empty, is_open, is_closed, entry_of, suits, index_fits, indices_fit, lowest}
use Rattle.files.specs.Accepted.{or_lowest, tree_checked}
use Rattle.machines.specs.Fetched.{no_template}
use Rattle.machines.specs.Runs.{Memory, checked_run}
use Rattle.renamed.specs.laws.Ends.{EndAlike-renamed}
use Rattle.rewrite.specs.Reindex.{reindexed, reindex}
use Rattle.trim.specs.Kept.{sift, rank}
use Rattle.trim.specs.Trim.{names, new_index, renumber, trim_template, trim, named_from, there, stays, trimmed}
use Rattle.trim.specs.Lines.{new_word, new_line, entry_lines, template_lines, lines_from, trim_list}
use Rattle.text.specs.Text.{digits_by, digits_within, decimal, line}
use Rattle.trim.specs.Reached.{marked, reached}
use Rattle.files.specs.Orphans.{is_template, closes}
use Rattle.renamed.specs.laws.Reached.{tree_reached_alike}

-- template 0: entries 7, template 2, global 5; closure 2, push, global 3, return. Template 1, an orphan: global 9; return. Template 2: return.
abbrev sheet : List ℕ
sheet = 3 ∷ 3 ∷ 96 ∷ 0 ∷ 0 ∷ 0 ∷ 62 ∷ 5 ∷ 2 ∷ 156 ∷ 9 ∷ 136 ∷ 3 ∷ 8 ∷ 0 ∷ 96 ∷ 144 ∷ 128 ∷ 0 ∷ 32 ∷ []

-- template 0: entries template 1, global 5; closure 1, push, global 2, return. Template 1: return.
abbrev trimmed_sheet : List ℕ
trimmed_sheet = 2 ∷ 2 ∷ 192 ∷ 96 ∷ 83 ∷ 128 ∷ 177 ∷ 0 ∷ 65 ∷ 0 ∷ 0 ∷ 64 ∷ []

abbrev templates : List Template
templates =
    record { entries = constant 4 7 ∷ template 2 ∷ global 5 ∷ []; start = 73; code = neutral 7 (2 ∷ []) (neutral 12 [] (neutral 8 (3 ∷ []) (return done))) }
    ∷ record { entries = global 9 ∷ []; start = 132; code = return done }
    ∷ record { entries = []; start = 150; code = return done }
    ∷ []

abbrev trimmed_templates : List Template
trimmed_templates =
    record { entries = template 1 ∷ global 5 ∷ []; start = 36; code = neutral 7 (1 ∷ []) (neutral 12 [] (neutral 8 (2 ∷ []) (return done))) }
    ∷ record { entries = []; start = 85; code = return done }
    ∷ []

sheet_read : tree_checked sheet ≡ got templates 160
unfolding bit_at field_at field_read pick_field shape_of put simple with_field with_list with_deep shaped head_at before after items deep_of list_at then field
    field_got tag_width constant_at kind_at entry_at entries_at zero_bits nothing_more template_at templates_at padded_end tree_read is_empty is_open is_closed
    entry_of suits index_fits indices_fit lowest or_lowest tree_checked
sheet_read = refl

trimmed_read : tree_checked trimmed_sheet ≡ got trimmed_templates 96
unfolding bit_at field_at field_read pick_field shape_of put simple with_field with_list with_deep shaped head_at before after items deep_of list_at then field
    field_got tag_width constant_at kind_at entry_at entries_at zero_bits nothing_more template_at templates_at padded_end tree_read is_empty is_open is_closed
    entry_of suits index_fits indices_fit lowest or_lowest tree_checked
trimmed_read = refl

entries_same : (t : ℕ) → (get_or trimmed_templates t no_template).entries ≡ (get_or (trim (reached templates) templates) t no_template).entries
unfolding trim sift rank trim_template names new_index renumber reindexed reindex reached marked closes is_template entry_of
entries_same zero = refl
entries_same (suc zero) = refl
entries_same (suc (suc t)) = refl

code_same : (t : ℕ) → (get_or trimmed_templates t no_template).code ≡ (get_or (trim (reached templates) templates) t no_template).code
unfolding trim sift rank trim_template names new_index renumber reindexed reindex reached marked closes is_template entry_of
code_same zero = refl
code_same (suc zero) = refl
code_same (suc (suc t)) = refl

pub row : (b o : ℕ) (m : Memory) → EndAlike-renamed (checked_run sheet b o m) (checked_run trimmed_sheet b o m)
row =
    tree_reached_alike sheet templates 160 sheet_read trimmed_sheet trimmed_templates
    (record { same_entries = entries_same; same_code = code_same }) trimmed_read

-- its list: 0 0 0, 0 1 gone, 0 2 1, 0 3 2, 1 0 gone, 1 1 gone, 2 0 1
abbrev sheet_list : List ℕ
sheet_list =
    48 ∷ 32 ∷ 48 ∷ 32 ∷ 48 ∷ 10 ∷ 48 ∷ 32 ∷ 49 ∷ 32 ∷ 103 ∷ 111 ∷ 110 ∷ 101 ∷ 10 ∷ 48 ∷ 32 ∷ 50 ∷ 32 ∷ 49 ∷ 10 ∷ 48 ∷ 32 ∷ 51 ∷ 32 ∷ 50 ∷ 10 ∷ 49 ∷ 32
    ∷ 48 ∷ 32 ∷ 103 ∷ 111 ∷ 110 ∷ 101 ∷ 10 ∷ 49 ∷ 32 ∷ 49 ∷ 32 ∷ 103 ∷ 111 ∷ 110 ∷ 101 ∷ 10 ∷ 50 ∷ 32 ∷ 48 ∷ 32 ∷ 49 ∷ 10 ∷ []

list_row : trim_list templates ≡ sheet_list
unfolding trim_list lines_from template_lines entry_lines new_line new_word stays there named_from closes is_template entry_of names new_index rank
    decimal line digits_within digits_by
list_row = refl

rounds_entries : (t : ℕ) → (get_or trimmed_templates t no_template).entries ≡ (get_or (trimmed templates) t no_template).entries
unfolding trimmed trim sift rank trim_template names new_index renumber reindexed reindex stays there named_from closes is_template entry_of
rounds_entries zero = refl
rounds_entries (suc zero) = refl
rounds_entries (suc (suc t)) = refl
