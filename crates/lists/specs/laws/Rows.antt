-- The facts of the lists of two of document 01's rule sheets, P2 and P3. Assumes nothing.
use Rattle.std.specs.Prelude.{ℕ, ◌≡◌, refl, true, List, [], ◌∷◌, Ok}
use Rattle.cells.specs.Cells.{int_cell}
use Rattle.fields.specs.Field.{field_read, pick_field, field_at, bit_at}
use Rattle.files.specs.Codes.{shape_of}
use Rattle.files.specs.Code.{put, simple}
use Rattle.files.specs.Reading.{with_field, with_list, with_deep, shaped, head_at, before, after, items, deep_of, list_at}
use Rattle.files.specs.Grammar.{is_empty, is_open, is_closed, each_neutral}
use Rattle.files.specs.Flat.{conditional, flat, arms_fit, offsets_fit}
use Rattle.lists.specs.Facts.{class_of, slot_fits, slot_named, slots_fit, unite_neutral, slot_closes, slots_close, facts_of, listed}
use Rattle.lists.specs.declared.Class.TheVariants.{Closed}
use Rattle.lists.specs.Sets.{unite}

abbrev sheet2 : List ℕ
sheet2 =
    0x01 ∷ 0x02 ∷ 0x60 ∷ 0x00 ∷ 0x00 ∷ 0x00 ∷ 0x3B ∷ 0x00 ∷ 0x00 ∷ 0x00 ∷ 0x01 ∷ 0x4C ∷ 0x02 ∷ 0xC1 ∷ 0x98 ∷ 0x08 ∷ 0x06 ∷ 0x01 ∷ 0x03 ∷ 0x2C ∷ 0x10 ∷ 0x00 ∷ []

-- its row of the table: where the list begins, the two entries
abbrev row2 : List ℕ
row2 = 90 ∷ int_cell 7 ∷ int_cell 5 ∷ []

pub sheet2_facts : listed row2 0 (list_at sheet2 15 90) ≡ Ok (record { 0 = 169 }, record { class = Closed; size = 16; named = true; fits = true; closes = 0 })
unfolding listed facts_of class_of slots_fit each_neutral slot_named slot_fits slots_close unite_neutral slot_closes unite is_empty is_open is_closed flat
    conditional offsets_fit arms_fit list_at items deep_of after before put simple head_at shaped shape_of with_field with_list with_deep field_read pick_field
    field_at bit_at
sheet2_facts = refl

abbrev sheet3 : List ℕ
sheet3 = 0x01 ∷ 0x00 ∷ 0x19 ∷ 0x00 ∷ 0x00 ∷ 0x10 ∷ 0x3C ∷ 0x01 ∷ 0x00 ∷ []

pub sheet3_facts : listed (16 ∷ []) 0 (list_at sheet3 15 16)
    ≡ Ok (record { 0 = 69 }, record { class = Closed; size = 13; named = true; fits = true; closes = 0 })
unfolding listed facts_of class_of slots_fit each_neutral slot_named slot_fits slots_close unite_neutral slot_closes unite is_empty is_open is_closed flat
    conditional offsets_fit arms_fit list_at items deep_of after before put simple head_at shaped shape_of with_field with_list with_deep field_read pick_field
    field_at bit_at
sheet3_facts = refl
