-- Small files of basic byte code, and what the tabulator's definition makes of their bytes, by computation. Assumes nothing.
use Rattle.std.specs.Prelude.{ℕ, ◌≡◌, refl, List, [], ◌∷◌, ◌++◌, map}
use Rattle.fields.specs.Field.{bit_at, field_at, field_read, pick_field}
use Rattle.files.specs.Codes.{shape_of}
use Rattle.files.specs.Code.{put, simple}
use Rattle.files.specs.Reading.{Got, got, refused}
use Rattle.files.specs.Entries.{then, field, field_got, tag_width, constant_at, zero_bits, nothing_more}
use Rattle.files.specs.Tree.{padded_end}
use Rattle.files.specs.Grammar.{is_empty, is_open, is_closed, lowest}
use Rattle.files.specs.Linear.{bits_of, entry_bits, entries_bits, byte_of, bytes_from, bytes_of}
use Rattle.files.specs.Accepted.{or_lowest}
use Rattle.tree_file.specs.File.{operands_bits, list_bits, template_bits, templates_bits, file_bits, tree_file}
use Rattle.basic.specs.Tabulated.{inside}
use Rattle.basic.specs.Checked.{tabulated_file}

abbrev pub basic_files : List (List ℕ)
basic_files =
    -- a parent before its closures, and those in reading order
    (57 ∷ 194 ∷ 0 ∷ 128 ∷ 231 ∷ 8 ∷ 2 ∷ 0 ∷ 128 ∷ [])
    -- equal constants share an entry
    ∷ (51 ∷ 0 ∷ 0 ∷ 0 ∷ 1 ∷ 216 ∷ 102 ∷ 0 ∷ 0 ∷ 0 ∷ 3 ∷ 176 ∷ 204 ∷ 0 ∷ 0 ∷ 0 ∷ 8 ∷ 97 ∷ 152 ∷ 0 ∷ 0 ∷ 0 ∷ 14 ∷ 203 ∷ 4 ∷ 0 ∷ [])
    -- constants of different tags do not
    ∷ (51 ∷ 0 ∷ 0 ∷ 0 ∷ 1 ∷ 216 ∷ 102 ∷ 128 ∷ 0 ∷ 0 ∷ 0 ∷ 0 ∷ 3 ∷ 178 ∷ 161 ∷ 0 ∷ [])
    -- a saved list is read before the rest
    ∷ (32 ∷ 1 ∷ 152 ∷ 0 ∷ 0 ∷ 0 ∷ 2 ∷ 16 ∷ 25 ∷ 128 ∷ 0 ∷ 0 ∷ 0 ∷ 65 ∷ 0 ∷ [])
    -- a closure takes its number where it stands
    ∷ (51 ∷ 0 ∷ 0 ∷ 0 ∷ 0 ∷ 78 ∷ 16 ∷ 25 ∷ 128 ∷ 0 ∷ 0 ∷ 0 ∷ 65 ∷ 0 ∷ [])
    -- a constant and a global of one number
    ∷ (51 ∷ 0 ∷ 0 ∷ 0 ∷ 2 ∷ 82 ∷ 18 ∷ 128 ∷ 144 ∷ 128 ∷ [])
    -- 6 at the inner closure, number 2
    ∷ (57 ∷ 222 ∷ 0 ∷ 128 ∷ 225 ∷ 0 ∷ 64 ∷ [])
    -- 6 at the outer closure before the inner
    ∷ (57 ∷ 222 ∷ 0 ∷ 4 ∷ 0 ∷ [])
    -- a literal of kind 2
    ∷ (52 ∷ 2 ∷ 0 ∷ [])
    -- a closure in a list of level 16
    ∷ (32 ∷ 1 ∷ 0 ∷ 8 ∷ 0 ∷ 64 ∷ 2 ∷ 0 ∷ 16 ∷ 0 ∷ 128 ∷ 4 ∷ 0 ∷ 32 ∷ 1 ∷ 0 ∷ 8 ∷ 0 ∷ 64 ∷ 2 ∷ 0 ∷ 16 ∷ 0 ∷ 128 ∷ 7 ∷ 8 ∷
    2 ∷ 0 ∷ 128 ∷ 32 ∷ 8 ∷ 2 ∷ 0 ∷ 128 ∷ 32 ∷ 8 ∷ 2 ∷ 0 ∷ 128 ∷ 32 ∷ 8 ∷ 2 ∷ 0 ∷ 128 ∷ 32 ∷ 8 ∷ 0 ∷ [])
    ∷ []

abbrev pub answers : List (Got (List ℕ))
answers =
    got (5 ∷ 2 ∷ 192 ∷ 112 ∷ 51 ∷ 128 ∷ 156 ∷ 8 ∷ 32 ∷ 1 ∷ 192 ∷ 142 ∷ 2 ∷ 16 ∷ 0 ∷ 4 ∷ 0 ∷ 56 ∷ 33 ∷ 192 ∷ 66 ∷ 0 ∷ 0 ∷ 128 ∷ []) 192
    ∷ got (1 ∷ 2 ∷ 96 ∷ 0 ∷ 0 ∷ 0 ∷ 59 ∷ 0 ∷ 0 ∷ 0 ∷ 2 ∷ 12 ∷ 2 ∷ 195 ∷ 0 ∷ 176 ∷ 192 ∷ 76 ∷ 48 ∷ 11 ∷ 44 ∷ 16 ∷ 0 ∷ []) 184
    ∷ got (1 ∷ 2 ∷ 96 ∷ 0 ∷ 0 ∷ 0 ∷ 59 ∷ 64 ∷ 0 ∷ 0 ∷ 0 ∷ 0 ∷ 1 ∷ 204 ∷ 2 ∷ 195 ∷ 1 ∷ 50 ∷ 161 ∷ 0 ∷ []) 160
    ∷ got (1 ∷ 2 ∷ 96 ∷ 0 ∷ 0 ∷ 0 ∷ 11 ∷ 0 ∷ 0 ∷ 0 ∷ 0 ∷ 136 ∷ 0 ∷ 96 ∷ 16 ∷ 128 ∷ 192 ∷ 65 ∷ 0 ∷ []) 152
    ∷ got (2 ∷ 3 ∷ 96 ∷ 0 ∷ 0 ∷ 0 ∷ 14 ∷ 2 ∷ 192 ∷ 0 ∷ 0 ∷ 0 ∷ 35 ∷ 0 ∷ 156 ∷ 8 ∷ 192 ∷ 97 ∷ 0 ∷ 0 ∷ 64 ∷ []) 168
    ∷ got (1 ∷ 2 ∷ 96 ∷ 0 ∷ 0 ∷ 0 ∷ 76 ∷ 18 ∷ 96 ∷ 20 ∷ 129 ∷ 32 ∷ 8 ∷ 32 ∷ []) 112
    ∷ refused 6 2
    ∷ refused 6 1
    ∷ refused 3 5
    ∷ refused 4 195
    ∷ []

pub rows : map (λ s. tabulated_file s 65536) basic_files ≡ answers
unfolding bit_at field_at field_read pick_field shape_of put simple then field field_got tag_width constant_at zero_bits nothing_more padded_end is_empty
    is_open is_closed lowest bits_of entry_bits entries_bits byte_of bytes_from bytes_of or_lowest operands_bits list_bits template_bits templates_bits
    file_bits tree_file inside tabulated_file
rows = refl

-- 26 before 9: 64 closures, eight in each 15 bytes, and an output of no bytes
abbrev eight_closures : List ℕ
eight_closures = 56 ∷ 64 ∷ 112 ∷ 128 ∷ 225 ∷ 1 ∷ 194 ∷ 3 ∷ 132 ∷ 7 ∷ 8 ∷ 14 ∷ 16 ∷ 28 ∷ 32 ∷ []

abbrev thirty_two : List ℕ
thirty_two = eight_closures ++ (eight_closures ++ (eight_closures ++ eight_closures))

pub too_large_first : tabulated_file (thirty_two ++ (thirty_two ++ (8 ∷ 0 ∷ []))) 0 ≡ refused 26 0
unfolding bit_at field_at field_read pick_field shape_of put simple then field field_got tag_width constant_at zero_bits nothing_more padded_end is_empty
    is_open is_closed lowest bits_of entry_bits entries_bits byte_of bytes_from bytes_of or_lowest operands_bits list_bits template_bits templates_bits
    file_bits tree_file inside tabulated_file
too_large_first = refl
