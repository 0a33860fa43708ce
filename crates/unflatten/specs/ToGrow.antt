-- What putting templates into a tree leaves: the code of one, one, and those from a number on.
use Rattle.std.specs.Prelude.{ℕ, ◌+◌, ◌*◌, ◌-◌, ◌≤◌, ◌≡◌, Bool, true, List, [], length, get_or}
use Rattle.std.proofs.Math.Option.{none, some}
use Rattle.std.specs.Prelude.{Option as OrNone, None, Some, Result, Ok, Err}
use Rattle.files.specs.Code.{Code, bits}
use Rattle.files.specs.Reading.{got, refused}
use Rattle.files.specs.Entries.{field}
use Rattle.files.specs.Tree.{Template}
use Rattle.files.specs.Linear.{Linear, linear_template_at, linear_templates_at, linear_read}
use Rattle.files.specs.Valid.{Bytes}
use Rattle.bit_writer.specs.Put.{put_bits}
use Rattle.tree_file.specs.File.{list_bits, template_bits, templates_bits}
use Rattle.back.specs.laws.ListBack.{list_back}
use Rattle.cells.specs.declared.BitPlace.{BitPlace}
use Rattle.files.specs.declared.Refusal.{Refusal}
use Rattle.files.specs.Refusal.{refusal}
use Rattle.unflatten.specs.Found.{part, found}
use Rattle.cells.specs.Numbers.{no_tree}
use Rattle.unflatten.specs.Back.{template_of, templates_back}

-- ---- a code whose length stands at byte size, with room in o at a
pub record CodeIn (s o : List ℕ) (size a : ℕ) : Type 0 where
  pub long : ℕ
  pub past : ℕ
  pub read : field s (8 * size) 24 ≡ got long past
  pub inside : size + 3 + long ≤ length s
  pub room : a + 8 * long + 5 ≤ 8 * length o

pub data Grows (ok : ℕ → ℕ → Bool) (s : List ℕ) (size n : ℕ) (o : List ℕ) (a : ℕ) : OrNone (ℕ × BitPlace) → List ℕ → Type 0 where
  no_list : {o' : List ℕ} → found ok 15 true (part (size + 3) (size + 3 + n) s) ≡ none → Grows ok s size n o a None o'
  list_grown : (c : Code) {a' : ℕ} {o' : List ℕ} → found ok 15 true (part (size + 3) (size + 3 + n) s) ≡ some c → bits c ≤ 8 * n + 5 → a' ≡ a + bits c
      → o' ≡ put_bits o a (list_bits c) → Grows ok s size n o a (Some (size + 3 + n, record { 0 = a' })) o'

-- ---- template own of T at a byte of a file of bytes, with room in o at a; its row of the table, and those after it, are zero
pub record TemplateIn (s table o : List ℕ) (own T byte a : ℕ) : Type 0 where
  pub linear : Linear
  pub past : ℕ
  pub read : linear_template_at s own T (8 * byte) ≡ got linear past
  pub bytes : Bytes s
  pub zeros : (i : ℕ) → 256 * own ≤ i → get_or table i 0 ≡ 0
  pub room : a + past ≤ 8 * byte + 8 * length o

pub data TemplateGrows (l : Linear) (byte past : ℕ) (o : List ℕ) (a : ℕ) : OrNone (ℕ × BitPlace) → List ℕ → Type 0 where
  no_template_lem : {o' : List ℕ} → list_back l.entries l.code ≡ none → TemplateGrows l byte past o a None o'
  template_grown : (c : Code) {b a' : ℕ} {o' : List ℕ} → list_back l.entries l.code ≡ some c → past ≡ 8 * b
      → length (template_bits (template_of l c)) + 8 * byte ≤ past
      → a' ≡ a + length (template_bits (template_of l c)) → o' ≡ put_bits o a (template_bits (template_of l c))
      → TemplateGrows l byte past o a (Some (b, record { 0 = a' })) o'

-- ---- the templates from own on to T, at a byte
pub record TemplatesIn (s table o : List ℕ) (own T byte a : ℕ) : Type 0 where
  pub linears : List Linear
  pub past : ℕ
  pub read : linear_templates_at s T own (T - own) (8 * byte) ≡ got linears past
  pub bytes : Bytes s
  pub zeros : (i : ℕ) → 256 * own ≤ i → get_or table i 0 ≡ 0
  pub room : a + past ≤ 8 * byte + 8 * length o
  -- zero bits follow
  pub settled : o ≡ put_bits o a []

pub data TemplatesGrow (n : ℕ) (ls : List Linear) (o : List ℕ) (a : ℕ) : Result BitPlace (Refusal ℕ) → List ℕ → Type 0 where
  stuck_at : (t : ℕ) {o' : List ℕ} → templates_back n ls ≡ refused no_tree t → TemplatesGrow n ls o a (Err (refusal no_tree t)) o'
  templates_grown : (ts : List Template) {m a' : ℕ} {o' : List ℕ} → templates_back n ls ≡ got ts m → a' ≡ a + length (templates_bits ts) → a' ≤ 8 * length o
      → o' ≡ put_bits o a (templates_bits ts) → TemplatesGrow n ls o a (Ok (record { 0 = a' })) o'

-- ---- a linear file that is read
pub record FileIn (s : List ℕ) : Type 0 where
  pub linears : List Linear
  pub past : ℕ
  pub read : linear_read s ≡ got linears past

-- what the loop over the templates keeps: who puts those that are left has put all
pub record Growing (s table₀ o₀ : List ℕ) (own₀ T byte₀ a₀ : ℕ) (table o : List ℕ) (own byte a : ℕ) : Type 0 where
  pub low : own ≤ T
  pub rows : length table ≡ length table₀
  pub long : length o ≡ length o₀
  pub now : TemplatesIn s table o own T byte a
  pub rest : (w : TemplatesIn s table₀ o₀ own₀ T byte₀ a₀) (r : Result BitPlace (Refusal ℕ)) (o' : List ℕ) → TemplatesGrow own now.linears o a r o'
      → TemplatesGrow own₀ w.linears o₀ a₀ r o'
