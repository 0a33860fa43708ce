-- Writing a template, and all of them. Assumes nothing.
use Rattle.std.specs.Prelude.{ℕ, ◌+◌, ◌*◌, ◌≤◌, ◌≡◌, true, List, [], ◌∷◌, ◌++◌, length, leb, Some, None}
use Rattle.std.proofs.Common.{arith, sym, ap, ◌∙◌, append-nil, leb-true, length-append}
use Rattle.std.proofs.Math.Path.{refl}
use Rattle.std.proofs.Math.Bool.{and-eq-true_iff}
use Rattle.cells.specs.declared.BitPlace.{BitPlace}
use Rattle.files.specs.Linear.{bits_of, entries_bits}
use Rattle.readback.specs.laws.Bits.{length_bits}
use Rattle.readback.specs.laws.Entries.{entries_are}
use Rattle.readback.specs.laws.Lists.{bits_are}
use Rattle.bit_writer.specs.Put.{put_bits}
use Rattle.bit_writer.proofs.theorems.Laws.{put_length, put_next}
use Rattle.tree_file.specs.File.{list_bits, template_bits, templates_bits}
use Rattle.tree_file.specs.laws.Lengths.{template_are, list_length}
use Rattle.basic.specs.Basic.{Basic}
use Rattle.basic.specs.Tabulated.{entries_of, indexed, template_of, tabulated}
use Rattle.basic.specs.Checked.{entries_fit}
use Rattle.basic.specs.Forest.{closures_all, own_bits}
use Rattle.basic.specs.laws.ReadLaws.{list_facts}
use Rattle.basic.proofs.theorems.EntryLaws.{uses_in}
use Rattle.tabulate.specs.Walk.{NextIs}
use Rattle.tabulate.specs.Collect.{OwnList, CollectedIs, many_entries, few_entries}
use Rattle.tabulate.specs.Judge.{templates_from}
use Rattle.tabulate.specs.Put.{PutAt, Putting, EntriesIn, Held, CodeIn, TemplateIn, TemplatesIn, Writing}
use Rattle.tabulate.specs.laws.JudgeLaws.{own_length, from_first, from_first_all, from_end, from_next}
use Rattle.tabulate.specs.laws.PutLaws.{put_begin, put_on, put_done}

-- ---- one template
module _ {s : List ℕ} {p e n : ℕ} {o : List ℕ} {a : ℕ} (w : TemplateIn s p e n o a) where
  template_parts : template_bits (template_of n w.own.list)
      ≡ bits_of 8 (length (entries_of n w.own.list))
      ++ (entries_bits (entries_of n w.own.list) ++ list_bits (indexed (entries_of n w.own.list) n w.own.list))
  unfolding template_bits template_of
  template_parts = refl

  part_lengths : length (template_bits (template_of n w.own.list)) ≡ 8 + length (entries_bits (entries_of n w.own.list)) + own_bits w.own.list
  part_lengths =
      let c = w.own.list in
      let es = entries_of n c in
      let b = list_bits (indexed es n c) in
      let l : length b ≡ own_bits c = list_length (indexed es n c) ∙ own_length c (list_facts s 15 p w.own.read).2 es n in
      ap length template_parts
      ∙ omega (arith, length-append (bits_of 8 (length es)) (entries_bits es ++ b), length-append (entries_bits es) b, length_bits 8 (length es), l)

  pub no_many : {A : Type 0} {table : List ℕ} → CollectedIs (entries_of n w.own.list) (own_bits w.own.list) table None → A
  no_many (many_entries h) = absurd (omega (arith, w.few))

  module _ (table : List ℕ) (count size : ℕ) (is : CollectedIs (entries_of n w.own.list) (own_bits w.own.list) table (Some (count, size))) where
    pub held : Held table count (entries_of n w.own.list)
    held = go is
      where
        go : CollectedIs (entries_of n w.own.list) (own_bits w.own.list) table (Some (count, size)) → Held table count (entries_of n w.own.list)
        go (few_entries count' size' h i j t f) = record { slots = t; counted = i; fit = f }

    pub count_small : (count ≤ 255) × (a + 8 ≤ 8 * length o)
    count_small = (omega (arith, held.counted, w.few), omega (arith, w.room, part_lengths))

    -- E is put
    module _ (o₁ : List ℕ) (a₁ : ℕ) (at₁ : a₁ ≡ a + 8) (is₁ : o₁ ≡ put_bits o a (bits_of 8 count)) where
      first_long : length o₁ ≡ length o
      first_long = ap length is₁ ∙ put_length o a (bits_of 8 count)

      after_first : (c : List ℕ) → put_bits o₁ a₁ c ≡ put_bits o a (bits_of 8 count ++ c)
      after_first c =
          put_next o o₁ (put_bits o₁ a₁ c) a a₁ (bits_of 8 count) c (bits_are 8 count) (omega (arith, length_bits 8 count, count_small.1)) is₁
          (omega (arith, length_bits 8 count)) refl

      pub entries_in : EntriesIn table count o₁ a₁
      entries_in =
          record {
            entries = entries_of n w.own.list;
            held = held.slots;
            fit = held.fit;
            room = omega (arith, w.room, part_lengths, first_long);
            settled = is₁ ∙ sym (after_first [] ∙ ap (put_bits o a) (append-nil (bits_of 8 count)));
          }

      -- the entries are put
      module _ (o₂ : List ℕ) (a₂ : ℕ) (p₂ : PutAt o₁ a₁ (entries_bits (entries_of n w.own.list)) a₂ o₂) where
        es_bits : List ℕ
        es_bits = entries_bits (entries_of n w.own.list)

        second_long : length o₂ ≡ length o
        second_long = ap length p₂.is ∙ put_length o₁ a₁ (entries_bits (entries_of n w.own.list)) ∙ first_long

        after_second : (c : List ℕ) → put_bits o₂ a₂ c ≡ put_bits o₁ a₁ (entries_bits (entries_of n w.own.list) ++ c)
        after_second c =
            put_next o₁ o₂ (put_bits o₂ a₂ c) a₁ a₂ (entries_bits (entries_of n w.own.list)) c (entries_are (entries_of n w.own.list))
            (omega (arith, w.room, part_lengths, first_long)) p₂.is p₂.past refl

        pub code_in : CodeIn s table p e n count o₂ a₂
        code_in =
            record {
              own = w.own;
              entries = entries_of n w.own.list;
              held = held;
              all = uses_in n w.own.list;
              room = omega (arith, w.room, part_lengths, second_long, p₂.past);
              settled = p₂.is ∙ sym (after_second [] ∙ ap (put_bits o₁ a₁) (append-nil (entries_bits (entries_of n w.own.list))));
            }

        pub template_put : (o₃ : List ℕ) (a₃ : ℕ) → PutAt o₂ a₂ (list_bits (indexed (entries_of n w.own.list) n w.own.list)) a₃ o₃
            → PutAt o a (template_bits (template_of n w.own.list)) a₃ o₃
        template_put o₃ a₃ p₃ =
            let es = entries_of n w.own.list in
            let b = list_bits (indexed es n w.own.list) in
            let l = length-append (entries_bits es) b in
            let l₈ = length-append (bits_of 8 (length es)) (entries_bits es ++ b) in
            record {
              past = omega (arith, p₃.past, p₂.past, ap length template_parts, l₈, l, length_bits 8 (length es));
              is = p₃.is ∙ after_second b ∙ after_first (entries_bits es ++ b)
                  ∙ ap (λ (k : ℕ). put_bits o a (bits_of 8 k ++ (entries_bits es ++ b))) held.counted ∙ ap (put_bits o a) (sym template_parts);
            }

      pub code_after : {o₂ : List ℕ} {a₂ : ℕ} → ((v : EntriesIn table count o₁ a₁) → PutAt o₁ a₁ (entries_bits v.entries) a₂ o₂)
          → CodeIn s table p e n count o₂ a₂
      unfolding entries_in
      code_after {o₂} {a₂} f = code_in o₂ a₂ (f entries_in)

      pub template_after : {o₂ o₃ : List ℕ} {a₂ a₃ : ℕ} → ((v : EntriesIn table count o₁ a₁) → PutAt o₁ a₁ (entries_bits v.entries) a₂ o₂)
          → ((v : CodeIn s table p e n count o₂ a₂) → PutAt o₂ a₂ (list_bits (indexed v.entries n v.own.list)) a₃ o₃)
          → PutAt o a (template_bits (template_of n w.own.list)) a₃ o₃
      unfolding entries_in code_in
      template_after {o₂} {o₃} {a₂} {a₃} f g = template_put o₂ a₂ (f entries_in) o₃ a₃ (g (code_in o₂ a₂ (f entries_in)))

-- ---- all templates
module _ {s : List ℕ} {e : ℕ} {o : List ℕ} {a : ℕ} (w : TemplatesIn s e o a) where
  pub writing_begin : Writing s e 0 0 w.few.whole.list o a o a
  writing_begin =
      let c = w.few.whole.list in
      record {
        from = from_first w.few.whole;
        fit = sym (ap entries_fit (from_first_all w.few.whole)) ∙ w.fit;
        put = rw (← from_first_all w.few.whole) (put_begin (templates_bits (tabulated c)) w.room w.settled);
      }

module _ {s : List ℕ} {e own p : ℕ} {c : Basic} {o₀ : List ℕ} {a₀ : ℕ} {o : List ℕ} {a : ℕ} (k : Writing s e own p c o₀ a₀ o a) where
  templates_cons : templates_bits (templates_from k.from) ≡ template_bits (template_of (own + 1) k.from.first)
      ++ templates_bits (closures_all (own + 1) (k.from.first ∷ k.from.others))
  unfolding templates_bits
  templates_cons = refl

  first_fits : (leb (length (entries_of (own + 1) k.from.first)) 255 ≡ true) × (entries_fit (closures_all (own + 1) (k.from.first ∷ k.from.others)) ≡ true)
  unfolding entries_fit template_of
  first_fits =
      (and-eq-true_iff (leb (length (entries_of (own + 1) k.from.first)) 255)
      (entries_fit (closures_all (own + 1) (k.from.first ∷ k.from.others)))).0 k.fit

  pub template_in : (q : ℕ) (l : OwnList s p q (own + 1)) → l.list ≡ k.from.first → TemplateIn s p q (own + 1) o a
  template_in q l h =
      let t = template_bits (template_of (own + 1) k.from.first) in
      record {
        own = l;
        few = rw h (leb-true (length (entries_of (own + 1) k.from.first)) 255 first_fits.0);
        room = rw h
            (omega (arith, k.put.room, ap length templates_cons, length-append t (templates_bits (closures_all (own + 1) (k.from.first ∷ k.from.others)))));
      }

  pub one_put : (q : ℕ) (l : OwnList s p q (own + 1)) (h : l.list ≡ k.from.first) {a' : ℕ} {o' : List ℕ}
      → ((v : TemplateIn s p q (own + 1) o a) → PutAt o a (template_bits (template_of (own + 1) v.own.list)) a' o')
      → PutAt o a (template_bits (template_of (own + 1) k.from.first)) a' o'
  unfolding template_in
  one_put q l h g = rw h at (g (template_in q l h))

  module _ {a' : ℕ} {o' : List ℕ} (put : PutAt o a (template_bits (template_of (own + 1) k.from.first)) a' o') where
    after_one : Putting o₀ a₀ (templates_bits (tabulated c)) o' a' (templates_bits (closures_all (own + 1) (k.from.first ∷ k.from.others)))
    after_one =
        put_on (template_bits (template_of (own + 1) k.from.first)) (templates_bits (closures_all (own + 1) (k.from.first ∷ k.from.others)))
        (rw templates_cons at k.put) (template_are (template_of (own + 1) k.from.first)) put

    pub writing_end : NextIs s e (own + 1) (k.from.first ∷ k.from.others) None → PutAt o₀ a₀ (templates_bits (tabulated c)) a' o'
    unfolding templates_bits
    writing_end n =
        let z = from_end k.from n in
        put_done (templates_bits (closures_all (own + 1) (k.from.first ∷ k.from.others))) (ap templates_bits z.0) after_one

    pub writing_next : (q : BitPlace) → NextIs s e (own + 1) (k.from.first ∷ k.from.others) (Some q) → Writing s e (own + 1) q.0 c o₀ a₀ o' a'
    writing_next q n =
        let z = from_next k.from q n in
        record { from = z.0; fit = sym (ap entries_fit z.1) ∙ first_fits.1; put = rw z.1 at after_one }
