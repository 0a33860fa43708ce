-- What is known of the templates that are to be written, and what was written of one.
use Rattle.std.specs.Prelude.{ℕ, ◌+◌, ◌*◌, ◌-◌, ◌≤◌, ◌≡◌, true, List, [], ◌∷◌, length, get_or}
use Rattle.std.proofs.lemmas.List.Edits.{sets}
use Rattle.files.specs.Reading.{got}
use Rattle.files.specs.Tree.{Template, template_at, templates_at}
use Rattle.files.specs.Flat.{offset_template}
use Rattle.files.specs.Linear.{template_bytes, templates_bytes}
use Rattle.lists.specs.declared.Keep.TheVariants.{Sizes}
use Rattle.lists.specs.Marks.{Has}
use Rattle.flatten.specs.declared.Past.{Past}

-- template own at p, into the bytes from front on of as many as room
pub record TemplateToWrite (s table M : List ℕ) (own p front room : ℕ) : Type 0 where
  pub count : ℕ
  pub template : Template
  pub past : ℕ
  pub few : count ≤ 64
  pub read : template_at s own count p ≡ got template past
  pub start : get_or table (256 * own) 0 ≡ template.start
  pub fits : offset_template template ≡ true
  pub has : Has Sizes M template.start template.code
  pub fit_room : front + length (template_bytes template) ≤ room

abbrev pub TemplateDone : {s table M : List ℕ} {own p front room : ℕ} → TemplateToWrite s table M own p front room → Past → List ℕ → List ℕ → Type 0
TemplateDone {front = front} w r o o' =
    (r ≡ record { next = record { 0 = w.past }; front = front + length (template_bytes w.template) }) × (o' ≡ sets o front (template_bytes w.template))

-- for each template, from number own on: slot 0 of its row says where its list begins, its offsets fit, and M has the sizes of its lists
unfoldable pub Flattenable : List ℕ → List ℕ → ℕ → List Template → Type 0
Flattenable table M own [] = Unit
Flattenable table M own (t ∷ ts) =
    (get_or table (256 * own) 0 ≡ t.start) × (offset_template t ≡ true) × Has Sizes M t.start t.code × Flattenable table M (own + 1) ts

-- templates own to count, from p on
pub record TemplatesToWrite (s table M : List ℕ) (count own p front room : ℕ) : Type 0 where
  pub templates : List Template
  pub past : ℕ
  pub few : count ≤ 64
  pub read : templates_at s count own (count - own) p ≡ got templates past
  pub good : Flattenable table M own templates
  pub fit_room : front + length (templates_bytes templates) ≤ room
