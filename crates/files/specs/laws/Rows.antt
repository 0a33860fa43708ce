-- The rows P1 to P8 of document 01 ('Rule sheets to try'), what of them is about files: from a sheet's bytes to the linear file's bytes, by
-- computation. Assumes nothing.
use Rattle.std.specs.Prelude.{ℕ, ◌≡◌, refl, List, [], ◌∷◌, map}
use Rattle.fields.specs.Field.{bit_at, field_at, field_read, pick_field}
use Rattle.files.specs.Codes.{shape_of}
use Rattle.files.specs.Code.{put, simple}
use Rattle.files.specs.Reading.{Got, got, refused, with_field, with_list, with_deep, shaped, head_at, before, after, items, deep_of, list_at}
use Rattle.files.specs.Entries.{then, field, field_got, tag_width, constant_at, kind_at, entry_at, entries_at, zero_bits, nothing_more}
use Rattle.files.specs.Tree.{Template, template_at, templates_at, padded_end, tree_read}
use Rattle.files.specs.Grammar.{is_empty, is_open, is_closed, entry_of, suits, index_fits, each_neutral, indices_fit, lowest}
use Rattle.files.specs.Orphans.{is_template, closes, closure_names, lowest_number, lowest_orphan}
use Rattle.files.specs.Flat.{offset, conditional, flat, arms_fit, offsets_fit}
use Rattle.files.specs.Linear.{bits_of, entry_bits, entries_bits, byte_of, bytes_from, bytes_of, template_bytes, templates_bytes, linear_file}
use Rattle.files.specs.Accepted.{or_lowest, tree_checked, tree_accepted, flat_accepted}

-- a linear file of one template without entries
abbrev pub plain_file : ℕ → List ℕ → List ℕ
plain_file n code = 1 ∷ 0 ∷ 0 ∷ 0 ∷ n ∷ code

abbrev pub sheets : List (List ℕ)
sheets =
    -- P1
    (0x01 ∷ 0x00 ∷ 0x08 ∷ 0x00 ∷ [])
    -- P2
    ∷
    (0x01 ∷ 0x02 ∷ 0x60 ∷ 0x00 ∷ 0x00 ∷ 0x00 ∷ 0x3B ∷ 0x00 ∷ 0x00 ∷ 0x00 ∷ 0x01 ∷ 0x4C ∷ 0x02 ∷ 0xC1 ∷ 0x98 ∷ 0x08 ∷ 0x06 ∷ 0x01 ∷ 0x03 ∷ 0x2C ∷ 0x10
    ∷ 0x00 ∷ [])
    -- P3: unless-false (make-cont 0 with empty saved list, return) (unspecified), return: 00011 00100 00000000 00000 00001 00000 01111 00000 00001 00000
    ∷ (0x01 ∷ 0x00 ∷ 0x19 ∷ 0x00 ∷ 0x00 ∷ 0x10 ∷ 0x3C ∷ 0x01 ∷ 0x00 ∷ [])
    -- P4: unless-false (unless-false (unspecified) (unspecified)) (unspecified), return: 00011 00011 01111 00000 01111 00000 00000 01111 00000 00001 00000
    ∷ (0x01 ∷ 0x00 ∷ 0x18 ∷ 0xDE ∷ 0x07 ∷ 0x80 ∷ 0x0F ∷ 0x00 ∷ 0x40 ∷ [])
    -- P5, P6, P7
    ∷ []
    ∷ (0x00 ∷ [])
    ∷ (0x01 ∷ 0x00 ∷ 0x08 ∷ 0x00 ∷ 0x00 ∷ [])
    ∷ []

-- the linear file, or a refusal's number and place
pub data Row : Type 0 where
  flattens : List ℕ → Row
  refuses : ℕ → ℕ → Row

abbrev pub file_row : Got (List Template) → Row
file_row (got ts q) = flattens (linear_file ts)
file_row (refused n p) = refuses n p

abbrev pub file_rows : List Row
file_rows =
    flattens (plain_file 1 (0x01 ∷ []))
    ∷ flattens
    (0x01 ∷ 0x02 ∷ 0x60 ∷ 0x00 ∷ 0x00 ∷ 0x00 ∷ 0x3B ∷ 0x00 ∷ 0x00 ∷ 0x00 ∷ 0x01 ∷ 0x40 ∷ 0x00 ∷ 0x00 ∷ 0x10 ∷ 0x06 ∷ 0x01 ∷ 0x0C ∷ 0x03 ∷ 0x00 ∷ 0x05 ∷ 0x06
    ∷ 0x02 ∷ 0x05 ∷ 0x00 ∷ 0x02 ∷ 0x06 ∷ 0x01 ∷ 0x0C ∷ 0x16 ∷ 0x01 ∷ [])
    ∷ flattens (plain_file 13 (0x03 ∷ 0x00 ∷ 0x08 ∷ 0x04 ∷ 0x00 ∷ 0x01 ∷ 0x00 ∷ 0x01 ∷ 0x05 ∷ 0x00 ∷ 0x01 ∷ 0x0F ∷ 0x01 ∷ []))
    ∷ flattens (plain_file 16 (0x03 ∷ 0x00 ∷ 0x0B ∷ 0x03 ∷ 0x00 ∷ 0x04 ∷ 0x0F ∷ 0x05 ∷ 0x00 ∷ 0x01 ∷ 0x0F ∷ 0x05 ∷ 0x00 ∷ 0x01 ∷ 0x0F ∷ 0x01 ∷ []))
    ∷ refuses 2 0
    ∷ refuses 3 0
    ∷ refuses 5 32
    ∷ []

-- P1 to P7, and P8: offset 65,535 splits into 255, 255; 256 into 1, 0
pub file_rows_lem : (map (λ s. file_row (flat_accepted s)) sheets ≡ file_rows) × (map offset (65535 ∷ 256 ∷ []) ≡ (255 ∷ 255 ∷ []) ∷ (1 ∷ 0 ∷ []) ∷ [])
unfolding bit_at field_at field_read pick_field shape_of put simple with_field with_list with_deep shaped head_at before after items deep_of list_at then field
    field_got tag_width constant_at kind_at entry_at entries_at zero_bits nothing_more template_at templates_at padded_end tree_read is_empty is_open is_closed
    entry_of suits index_fits each_neutral indices_fit lowest conditional flat arms_fit offsets_fit bits_of entry_bits entries_bits byte_of bytes_from bytes_of
    template_bytes templates_bytes linear_file or_lowest tree_checked tree_accepted flat_accepted closes is_template closure_names lowest_number lowest_orphan
file_rows_lem = (refl, refl)

-- a saved list that holds something: unless-false (make-cont 0 (unspecified), return) (unspecified), return: the rest comes before the saved list
saved_after_rest : file_row (flat_accepted (0x01 ∷ 0x00 ∷ 0x19 ∷ 0x00 ∷ 0x1E ∷ 0x00 ∷ 0x81 ∷ 0xE0 ∷ 0x08 ∷ 0x00 ∷ []))
    ≡ flattens (plain_file 14 (0x03 ∷ 0x00 ∷ 0x09 ∷ 0x04 ∷ 0x00 ∷ 0x01 ∷ 0x00 ∷ 0x01 ∷ 0x0F ∷ 0x05 ∷ 0x00 ∷ 0x01 ∷ 0x0F ∷ 0x01 ∷ []))
unfolding bit_at field_at field_read pick_field shape_of put simple with_field with_list with_deep shaped head_at before after items deep_of list_at then field
    field_got tag_width constant_at kind_at entry_at entries_at zero_bits nothing_more template_at templates_at padded_end tree_read is_empty is_open is_closed
    entry_of suits index_fits each_neutral indices_fit lowest conditional flat arms_fit offsets_fit bits_of entry_bits entries_bits byte_of bytes_from bytes_of
    template_bytes templates_bytes linear_file or_lowest tree_checked tree_accepted flat_accepted closes is_template closure_names lowest_number lowest_orphan
saved_after_rest = refl

-- Request 4, of its vectors: two orphans; an entry that no closure names; a template that template 1 names; 7 before 24.
abbrev orphan_sheets : List (List ℕ)
orphan_sheets =
    (0x03 ∷ 0x00 ∷ 0x08 ∷ 0x00 ∷ 0x02 ∷ 0x00 ∷ 0x00 ∷ 0x80 ∷ [])
    ∷ (0x02 ∷ 0x01 ∷ 0xC0 ∷ 0x42 ∷ 0x00 ∷ 0x00 ∷ 0x80 ∷ [])
    ∷ (0x03 ∷ 0x01 ∷ 0xC0 ∷ 0x4E ∷ 0x02 ∷ 0x10 ∷ 0x00 ∷ 0xE0 ∷ 0x47 ∷ 0x01 ∷ 0x08 ∷ 0x00 ∷ 0x02 ∷ 0x00 ∷ [])
    ∷ (0x03 ∷ 0x00 ∷ 0x08 ∷ 0x00 ∷ 0x02 ∷ 0x00 ∷ 0x03 ∷ 0x00 ∷ 0x84 ∷ 0x00 ∷ [])
    ∷ []

orphan_rows : map (λ s. file_row (flat_accepted s)) orphan_sheets
    ≡ refuses 24 1
    ∷ refuses 24 1
    ∷ flattens (3 ∷ 1 ∷ 0xC0 ∷ 0x40 ∷ 0 ∷ 0 ∷ 3 ∷ 7 ∷ 1 ∷ 1 ∷ 1 ∷ 0xC0 ∷ 0x80 ∷ 0 ∷ 0 ∷ 3 ∷ 7 ∷ 1 ∷ 1 ∷ 0 ∷ 0 ∷ 0 ∷ 1 ∷ 1 ∷ [])
    ∷ refuses 7 2
    ∷ []
unfolding bit_at field_at field_read pick_field shape_of put simple with_field with_list with_deep shaped head_at before after items deep_of list_at then field
    field_got tag_width constant_at kind_at entry_at entries_at zero_bits nothing_more template_at templates_at padded_end tree_read is_empty is_open is_closed
    entry_of suits index_fits each_neutral indices_fit lowest conditional flat arms_fit offsets_fit bits_of entry_bits entries_bits byte_of bytes_from bytes_of
    template_bytes templates_bytes linear_file or_lowest tree_checked tree_accepted flat_accepted closes is_template closure_names lowest_number lowest_orphan
orphan_rows = refl
