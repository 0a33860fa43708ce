-- What is known of a list, and of an instruction, that is to be written into the bytes from front to back: it is read, its offsets fit, M has
-- the sizes of the lists inside it, and there are as many bytes as it takes.
use Rattle.std.specs.Prelude.{ℕ, ◌+◌, ◌≤◌, ◌≡◌, true, List, length}
use Rattle.std.proofs.lemmas.List.Edits.{sets}
use Rattle.files.specs.Code.{Code, Instr, put}
use Rattle.files.specs.Reading.{got, item, head_at, deep_of, list_at}
use Rattle.files.specs.Grammar.{is_closed}
use Rattle.files.specs.Flat.{flat, arms_fit, offsets_fit}
use Rattle.lists.specs.declared.Keep.TheVariants.{Sizes}
use Rattle.lists.specs.Marks.{HasIn, Has}
use Rattle.emit.specs.declared.Rest.{Rest}
use Rattle.emit.specs.Written.{arms_bytes, saved_bytes, front_bytes, back_bytes, wrote_as}

-- the list at p, with l levels left below it
pub record ToWrite (s M : List ℕ) (l p front back : ℕ) : Type 0 where
  pub code : Code
  pub past : ℕ
  pub read : list_at s l p ≡ got code past
  pub fits : offsets_fit code ≡ true
  pub has : HasIn Sizes M p code
  pub room : front + length (flat code) ≡ back

-- the arms at p of a conditional
pub record ArmsToWrite (s M : List ℕ) (l p front back : ℕ) : Type 0 where
  pub first : Code
  pub mid : ℕ
  pub second : Code
  pub past : ℕ
  pub read_first : list_at s l p ≡ got first mid
  pub read_second : list_at s l mid ≡ got second past
  pub fits_first : offsets_fit first ≡ true
  pub fits_second : offsets_fit second ≡ true
  pub has_first : Has Sizes M p first
  pub has_second : Has Sizes M mid second
  pub fits : arms_fit (is_closed first) (length (flat first)) (length (flat second)) ≡ true
  pub room : front + length (arms_bytes first second) ≤ back

-- the saved list at p of a make-cont, whose rest has so many bytes
pub record SavedToWrite (s M : List ℕ) (l p front back : ℕ) : Type 0 where
  pub saved : Code
  pub past : ℕ
  pub rest : ℕ
  pub read : list_at s l p ≡ got saved past
  pub fits_saved : offsets_fit saved ≡ true
  pub has : Has Sizes M p saved
  pub fits : rest ≤ 65535
  pub room : front + 4 + rest + length (flat saved) ≡ back

-- the instruction at p, and the rest of its list
pub record ItemToWrite (s M : List ℕ) (l p front back : ℕ) : Type 0 where
  pub instr : Instr
  pub past : ℕ
  pub rest : Code
  pub read : head_at s (deep_of s l) p ≡ item instr past
  pub fits : offsets_fit (put instr rest) ≡ true
  pub has : HasIn Sizes M p (put instr rest)
  pub room : front + length (flat (put instr rest)) ≡ back

-- ---- what was written of it into o, which is o' then, and what was answered
module _ {s M : List ℕ} {l p front back : ℕ} where
  abbrev pub ArmsDone : ArmsToWrite s M l p front back → Rest → List ℕ → List ℕ → Type 0
  ArmsDone w r o o' = (r ≡ wrote_as w.past (front + length (arms_bytes w.first w.second)) back) × (o' ≡ sets o front (arms_bytes w.first w.second))

  abbrev pub SavedDone : ℕ → SavedToWrite s M l p front back → Rest → List ℕ → List ℕ → Type 0
  SavedDone n w r o o' =
      (r ≡ wrote_as w.past (front + 4) (front + 4 + w.rest)) × (o' ≡ sets (sets o front (saved_bytes n w.rest)) (front + 4 + w.rest) (flat w.saved))

  -- the bytes before the rest's, and where the rest's begin and end
  abbrev pub item_bytes : ItemToWrite s M l p front back → List ℕ
  item_bytes w = front_bytes w.instr (length (flat w.rest))

  abbrev pub rest_front : ItemToWrite s M l p front back → ℕ
  rest_front w = front + length (item_bytes w)

  abbrev pub rest_back : ItemToWrite s M l p front back → ℕ
  rest_back w = rest_front w + length (flat w.rest)

  abbrev pub ItemDone : ItemToWrite s M l p front back → Rest → List ℕ → List ℕ → Type 0
  ItemDone w r o o' = (r ≡ wrote_as w.past (rest_front w) (rest_back w)) × (o' ≡ sets (sets o front (item_bytes w)) (rest_back w) (back_bytes w.instr))
