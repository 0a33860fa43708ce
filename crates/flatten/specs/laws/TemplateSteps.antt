-- What the writer of a template does at each step. Assumes nothing.
use Rattle.std.specs.Prelude.{ℕ, ◌+◌, ◌*◌, ◌-◌, ◌/◌, ◌≤◌, ◌<◌, ◌≡◌, refl, List, [], ◌∷◌, get_or, set}
use Rattle.std.proofs.Common.{arith, sym, ◌∙◌}
use Rattle.std.proofs.Math.Path.{ap}
use Rattle.std.proofs.Math.ListN.{length}
use Rattle.std.proofs.lemmas.List.Edits.{sets}
use Rattle.cells.specs.declared.BitPlace.{BitPlace}
use Rattle.fields.specs.Field.{field_at}
use Rattle.files.specs.Code.{Code, bits}
use Rattle.files.specs.Reading.{got, list_at}
use Rattle.files.specs.laws.ReadingLaws.{list_bits_lem, flat_bits}
use Rattle.files.specs.laws.AllGot.{field_got_lem}
use Rattle.files.specs.laws.EntriesLaws.{entries_read, bytes_length}
use Rattle.files.specs.Flat.{flat}
use Rattle.files.specs.Linear.{entries_bits, bytes_of, three_bytes, template_bytes}
use Rattle.readback.specs.Lists.{bits_from}
use Rattle.readback.specs.laws.Lists.{from_length}
use Rattle.readback.specs.laws.Standing.{entries_stand, entries_copied_lem}
use Rattle.tree.specs.laws.Parts.{TemplateParts, template_parts}
use Rattle.tree.specs.laws.SummaryLaws.{template_length}
use Rattle.lists.specs.declared.Keep.TheVariants.{Sizes}
use Rattle.lists.specs.Marks.{mark_of, mark_at}
use Rattle.emit.specs.declared.Measured.{Measured}
use Rattle.emit.specs.Written.{measured_of}
use Rattle.emit.specs.ToWrite.{ToWrite}
use Rattle.emit.specs.laws.Stores.{sets_four}
use Rattle.flatten.specs.ToFlatten.{TemplateToWrite, TemplateDone}

-- listStart is where its list begins, and m what was measured of it
module _ {s table M : List ℕ} {own p front room : ℕ} (w : TemplateToWrite s table M own p front room) {listStart : ℕ}
    (slot : listStart ≡ get_or table (256 * own) 0) (m : Measured)
    (measured : (c : Code) (q : ℕ) → mark_at M listStart ≡ mark_of Sizes c q → m ≡ measured_of c) where
  pub start_at_lem : listStart ≡ w.template.start
  start_at_lem = slot ∙ w.start

  -- where the length of its code goes
  abbrev length_front : ℕ
  length_front = front + 1 + (listStart - (p + 8) + 7) / 8

  parts : TemplateParts s own w.count p w.template w.past
  parts = template_parts s own w.count p w.read

  pub list_read : list_at s 15 listStart ≡ got w.template.code w.past
  list_read = ap (list_at s 15) start_at_lem ∙ parts.list

  counted : (parts.count ≡ field_at s p 8) × (parts.first ≡ p + 8) × (parts.first ≤ 8 * length s)
  counted = field_got_lem s p 8 parts.counted

  copied : (parts.first ≤ w.template.start) × (entries_bits w.template.entries ≡ bits_from s parts.first (w.template.start - parts.first))
  copied =
      let k = entries_stand s own w.count parts.count parts.first counted.2 parts.entries in
      (omega (arith, k.past), sym (entries_copied_lem s own w.count parts.count parts.first counted.2 parts.entries))

  bits_are : entries_bits w.template.entries ≡ bits_from s (p + 8) (listStart - (p + 8))
  bits_are = copied.1 ∙ rw (counted.1, start_at_lem) refl

  pub places : (p + 8 ≤ listStart) × (listStart ≤ 8 * length s)
  places = omega (arith, counted, copied.0, start_at_lem, list_bits_lem s 15 listStart w.template.code w.past list_read)

  pub count_within : p + 8 ≤ 8 * length s
  count_within = omega (arith, counted)

  count_is : field_at s p 8 ≡ length w.template.entries
  count_is = sym counted.0 ∙ sym (entries_read s own w.count w.few parts.count parts.first parts.entries).count

  pub size_is : m.size ≡ length (flat w.template.code)
  unfolding measured_of
  size_is = ap (λ (x : Measured). x.size) (measured w.template.code (w.template.start + bits w.template.code) (rw start_at_lem w.has.0))

  bits_bytes : length (bytes_of (bits_from s (p + 8) (listStart - (p + 8)))) ≡ (listStart - (p + 8) + 7) / 8
  bits_bytes = bytes_length (bits_from s (p + 8) (listStart - (p + 8))) ∙ rw (from_length s (p + 8) (listStart - (p + 8))) refl

  pub all_bytes : length_front + 3 + m.size ≡ front + length (template_bytes w.template)
  all_bytes =
      let k : length (entries_bits w.template.entries) ≡ listStart - (p + 8) = ap length bits_are ∙ from_length s (p + 8) (listStart - (p + 8)) in
      omega (arith, template_length w.template, size_is)

  pub room_enough : length_front + 3 + m.size ≤ room
  room_enough = omega (arith, all_bytes, w.fit_room)

  pub size_small : length s ≤ 65536 → m.size < 16777216
  size_small h = omega (arith, size_is, flat_bits w.template.code, list_bits_lem s 15 listStart w.template.code w.past list_read)

  abbrev pub list_to_write : (f : ℕ) → ToWrite s M 15 listStart f (f + m.size)
  list_to_write f =
      record {
        code = w.template.code;
        past = w.past;
        read = list_read;
        fits = w.fits;
        has = rw start_at_lem w.has.1;
        room = rw size_is refl;
      }

  -- the entries' bits begin at `first`, and there are n of them
  pub template_done : {first n x : ℕ} → first ≡ p + 8 → n ≡ listStart - first → (o : List ℕ) {o₂ o₃ o₄ : List ℕ} {q : BitPlace} → x ≡ field_at s p 8
      → o₂ ≡ sets (set o front x) (front + 1) (bytes_of (bits_from s first (listStart - first)))
      → o₃ ≡ sets o₂ (front + 1 + (n + 7) / 8) (three_bytes m.size)
      → (q.0 ≡ w.past) × (o₄ ≡ sets o₃ (front + 1 + (n + 7) / 8 + 3) (flat w.template.code))
      → TemplateDone w (record { next = q; front = front + 1 + (n + 7) / 8 + 3 + m.size }) o o₄
  unfolding template_bytes
  template_done {first = first} {n = n} first_is n_is o e₁ e₂ e₃ e₄ =
      let all : front + 1 + (n + 7) / 8 + 3 + m.size ≡ front + length (template_bytes w.template) = omega (arith, all_bytes, first_is, n_is) in
      let n-at : n ≡ listStart - (p + 8) = n_is ∙ ap (λ (f : ℕ). listStart - f) first_is in (
        (λ i. record { next = record { 0 = e₄.0 i }; front = all i }),
        e₄.1 ∙ rw (e₃, e₂, e₁, n-at, first_is, size_is, count_is, bits_are)
            (sym (rw bits_bytes at
            (sets_four (length w.template.entries ∷ []) (bytes_of (bits_from s (p + 8) (listStart - (p + 8))))
            (three_bytes (length (flat w.template.code))) (flat w.template.code) o front))),
      )
