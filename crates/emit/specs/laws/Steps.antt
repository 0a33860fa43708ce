-- What the writer does at each step. Assumes nothing.
use Rattle.std.specs.Prelude.{ℕ, ◌+◌, ◌*◌, ◌-◌, ◌/◌, ◌%◌, ◌≤◌, ◌<◌, ◌≡◌, Bool, true, false, List, [], ◌∷◌, set, eqb}
use Rattle.std.proofs.Math.Numerals.{add-three}
use Rattle.std.proofs.Common.{arith, ◌∙◌, subst, eq-eqb, ne_eqb}
use Rattle.std.proofs.Math.Path.{refl, sym, ap}
use Rattle.std.proofs.Math.ListN.{length}
use Rattle.std.proofs.Math.Seq.{sets}
use Rattle.cells.specs.declared.BitPlace.{BitPlace}
use Rattle.fields.specs.Field.{field_at}
use Rattle.files.specs.Code.{Code, Instr, bits}
use Rattle.files.specs.Reading.{Got, got, deep_of, list_at}
use Rattle.files.specs.laws.ReadingLaws.{bits_i, some_bits, head_past, deep_past, list_bits_lem}
use Rattle.files.specs.Flat.{offset, flat}
use Rattle.files.specs.Grammar.{is_closed}
use Rattle.lists.specs.declared.Keep.TheVariants.{Sizes}
use Rattle.lists.specs.Marks.{size_mark, mark_of, mark_at}
use Rattle.lists.specs.Pass.{operands_at}
use Rattle.lists.specs.laws.MarksLaws.{has_rest, has_arms, has_saved}
use Rattle.lists.specs.laws.Known.{shape_here, Arms, arms, Saved, saved, Simple, without_lists, Turn, list_within, list_end, list_turn}
use Rattle.emit.specs.declared.Measured.{Measured}
use Rattle.emit.specs.declared.Rest.{Rest}
use Rattle.emit.specs.Written.{gap, jump_bytes, arms_bytes, saved_bytes, front_bytes, back_bytes, measured_of, wrote_as, line_bytes}
use Rattle.emit.specs.ToWrite.{ToWrite, ArmsToWrite, SavedToWrite, ItemToWrite, ArmsDone, SavedDone, ItemDone, item_bytes, rest_front, rest_back}
use Rattle.emit.specs.laws.Stores.{sets_four, operands_length, jump_length, arms_length, put_length, simple_bytes, fits_jumps, fits_arms, fits_saved}
use Rattle.emit.specs.laws.Stores.{line_bytes_lem}
use Rattle.emit.specs.laws.Stores.{fits_rest, rest_written}

-- ---- the size of a list, by its mark
mark_taken : (closed : Bool) (n m : ℕ) → m ≡ size_mark closed n → (m / 2 ≡ n) × (eqb (m % 2) 1 ≡ closed)
unfolding size_mark
mark_taken true n m e = (omega arith, eq-eqb (m % 2) 1 (omega arith))
mark_taken false n m e = (omega arith, ne_eqb (m % 2) 1 (λ z. omega arith))

pub mark_measured : (M : List ℕ) (p m : ℕ) → m ≡ mark_at M p → (c : Code) (q : ℕ) → mark_at M p ≡ mark_of Sizes c q
    → ◌≡◌ {A = Measured} (record { size = m / 2; closed = eqb (m % 2) 1 }) (measured_of c)
unfolding mark_of measured_of
mark_measured M p m e c q h = let z = mark_taken (is_closed c) (length (flat c)) m (e ∙ h) in rw (z.0, z.1) refl

pub wrote_eq : (r : BitPlace) {q x f y b : ℕ} → r.0 ≡ q → x ≡ f → y ≡ b → ◌≡◌ {A = Rest} (record { at = r; front = x; back = y }) (wrote_as q f b)
wrote_eq r e₁ e₂ e₃ = λ i. record { at = record { 0 = e₁ i }; front = e₂ i; back = e₃ i }

-- ---- a conditional: x is what was measured of its first arm, j how many bytes its jump takes
module _ {s M : List ℕ} {l p f b : ℕ} (w : ArmsToWrite s M l p f b) (x : Measured) (j : ℕ)
    (measured-first : (c : Code) (q : ℕ) → mark_at M p ≡ mark_of Sizes c q → x ≡ measured_of c) (jumps : j ≡ gap x.closed) where
  first_is : x ≡ measured_of w.first
  first_is = measured-first w.first _ w.has_first.0

  pub first_size : x.size ≡ length (flat w.first)
  unfolding measured_of
  first_size = ap (λ (r : Measured). r.size) first_is

  closed_is : x.closed ≡ is_closed w.first
  unfolding measured_of
  closed_is = ap (λ (r : Measured). r.closed) first_is

  jump_is : j ≡ gap (is_closed w.first)
  jump_is = jumps ∙ ap gap closed_is

  -- the bytes before the second arm's
  pub first_room : f + 3 + x.size + j + length (flat w.second) ≡ f + length (arms_bytes w.first w.second)
  first_room = omega (arith, arms_length w.first w.second, first_size, jump_is)

  pub arms_near : j + x.size ≤ 65535
  arms_near = rw (jump_is, first_size) (fits_jumps (is_closed w.first) (length (flat w.first)) (length (flat w.second)) w.fits).0

  abbrev pub first_to_write : ToWrite s M l p (f + 3) (f + 3 + x.size)
  first_to_write =
      record { code = w.first; past = w.mid; read = w.read_first; fits = w.fits_first; has = w.has_first.1; room = rw first_size refl }

  -- y is what was measured of the second arm, at m
  module _ {m : ℕ} (at_mid : m ≡ w.mid) (y : Measured) (measured-second : (c : Code) (q : ℕ) → mark_at M m ≡ mark_of Sizes c q → y ≡ measured_of c) where
    pub second_size : y.size ≡ length (flat w.second)
    unfolding measured_of
    second_size = ap (λ (r : Measured). r.size) (measured-second w.second (w.mid + bits w.second) (rw at_mid w.has_second.0))

    pub arms_room : f + 3 + x.size + j + y.size ≡ f + length (arms_bytes w.first w.second)
    arms_room = omega (arith, first_room, second_size)

    pub jump_near : x.closed ≡ false → y.size ≤ 65535
    jump_near e = rw second_size ((fits_jumps (is_closed w.first) (length (flat w.first)) (length (flat w.second)) w.fits).1 (sym closed_is ∙ e))

    abbrev pub second_to_write : ToWrite s M l m (f + 3 + x.size + j) (f + 3 + x.size + j + y.size)
    second_to_write =
        record {
          code = w.second;
          past = w.past;
          read = rw at_mid w.read_second;
          fits = w.fits_second;
          has = rw at_mid w.has_second.1;
          room = rw second_size refl;
        }

    pub arms_done : (o : List ℕ) {o₁ o₂ o₃ o₄ : List ℕ} {q : BitPlace} → o₁ ≡ sets o f (3 ∷ offset (j + x.size)) → o₂ ≡ sets o₁ (f + 3) (flat w.first)
        → o₃ ≡ sets o₂ (f + 3 + x.size) (jump_bytes x.closed y.size)
        → (q.0 ≡ w.past) × (o₄ ≡ sets o₃ (f + 3 + x.size + j) (flat w.second))
        → ArmsDone w (record { at = q; front = f + 3 + x.size + j + y.size; back = b }) o o₄
    unfolding arms_bytes
    arms_done o {q = q} e₁ e₂ e₃ e₄ = (
      wrote_eq q e₄.0 arms_room refl,
      e₄.1 ∙ rw (e₃, e₂, e₁, first_size, closed_is, second_size, jump_is)
          (sym (rw (jump_length (is_closed w.first) (length (flat w.second))) at
          (sets_four (3 ∷ offset (gap (is_closed w.first) + length (flat w.first))) (flat w.first)
          (jump_bytes (is_closed w.first) (length (flat w.second))) (flat w.second) o f))),
    )

-- ---- a make-cont n: x is what was measured of its saved list
module _ {s M : List ℕ} {l p f b : ℕ} (w : SavedToWrite s M l p f b) (x : Measured)
    (measured : (c : Code) (q : ℕ) → mark_at M p ≡ mark_of Sizes c q → x ≡ measured_of c) where
  pub saved_size : x.size ≡ length (flat w.saved)
  unfolding measured_of
  saved_size = ap (λ (r : Measured). r.size) (measured w.saved _ w.has.0)

  pub saved_cut : b - x.size ≡ f + 4 + w.rest
  saved_cut = omega (arith, saved_size)

  pub saved_rest : b - x.size - (f + 4) ≡ w.rest
  saved_rest = omega (arith, saved_cut)

  abbrev pub saved_to_write : ToWrite s M l p (b - x.size) b
  saved_to_write =
      record {
        code = w.saved;
        past = w.past;
        read = w.read;
        fits = w.fits_saved;
        has = w.has.1;
        room = omega (arith, saved_size, saved_cut);
      }

  pub saved_done : (n : ℕ) (o : List ℕ) {o₁ o₂ : List ℕ} {q : BitPlace} → o₁ ≡ sets o f (4 ∷ offset (b - x.size - (f + 4)))
      → (q.0 ≡ w.past) × (o₂ ≡ sets (set o₁ (f + 3) n) (b - x.size) (flat w.saved))
      → SavedDone n w (record { at = q; front = f + 4; back = b - x.size }) o o₂
  unfolding saved_bytes
  saved_done n o {q = q} e₁ e₂ = (wrote_eq q e₂.0 refl saved_cut, e₂.1 ∙ rw (e₁, saved_rest, saved_cut, add-three) refl)

-- ---- one instruction
module _ {s M : List ℕ} {l p f b : ℕ} (w : ItemToWrite s M l p f b) where
  pub item_room : f + length (item_bytes w) + length (flat w.rest) + length (back_bytes w.instr) ≡ b
  item_room = omega (arith, put_length w.instr w.rest, w.room)

  -- a conditional
  module _ (four : shape_here s l p ≡ 4) where
    pub these : Arms s l p w.read
    these = arms s l p w.read four

    pub deeper_arms : l ≡ 0 → ⊥
    deeper_arms = these.lower

    pub arms_front : item_bytes w ≡ arms_bytes these.first these.second
    unfolding front_bytes
    arms_front = ap (λ (i : Instr). front_bytes i (length (flat w.rest))) these.is

    arms_back_lem : back_bytes w.instr ≡ []
    unfolding back_bytes
    arms_back_lem = ap back_bytes these.is

    abbrev pub item_arms : ArmsToWrite s M (l - 1) (p + 5) f b
    item_arms =
        let fit = fits_arms these.first these.second w.rest (rw these.is at w.fits) in
        let has = has_arms Sizes M p these.first these.second w.rest (rw these.is at w.has) in
        record {
          first = these.first;
          mid = these.mid;
          second = these.second;
          past = w.past;
          read_first = these.read_first;
          read_second = these.read_second;
          fits_first = fit.1;
          fits_second = fit.2;
          has_first = has.0;
          has_second = rw (list_bits_lem s (l - 1) (p + 5) these.first these.mid these.read_first).0 has.1;
          fits = fit.0;
          room = omega (arith, item_room, ap length arms_front);
        }

    -- by what was done for the arms at q
    pub arms_item : {q : ℕ} {r : Rest} (o : List ℕ) {o' : List ℕ} → q ≡ p + 5 → ((v : ArmsToWrite s M (l - 1) q f b) → ArmsDone v r o o') → ItemDone w r o o'
    arms_item {q} {r} o {o'} is did =
        let h : ArmsDone item_arms r o o' = subst (λ (x : ℕ). (v : ArmsToWrite s M (l - 1) x f b) → ArmsDone v r o o') is did item_arms in
        let e : rest_back w ≡ b = omega (arith, item_room, ap length arms_back_lem) in
        rw (e, arms_back_lem, arms_front) h

  -- a make-cont
  module _ (five : shape_here s l p ≡ 5) where
    pub this : Saved s l p w.read
    this = saved s l p w.read five

    pub deeper_saved : (l ≡ 0 → ⊥) × (p + 13 ≤ 8 * length s)
    deeper_saved = (this.lower, this.within)

    saved_front : item_bytes w ≡ saved_bytes (field_at s (p + 5) 8) (length (flat w.rest))
    unfolding front_bytes
    saved_front = ap (λ (i : Instr). front_bytes i (length (flat w.rest))) this.is

    pub saved_back : back_bytes w.instr ≡ flat this.saved
    unfolding back_bytes
    saved_back = ap back_bytes this.is

    pub four_bytes : length (item_bytes w) ≡ 4
    unfolding saved_bytes
    four_bytes = ap length saved_front

    abbrev pub item_saved : SavedToWrite s M (l - 1) (p + 13) f b
    item_saved =
        let fit = fits_saved (field_at s (p + 5) 8) this.saved w.rest (rw this.is at w.fits) in
        record {
          saved = this.saved;
          past = w.past;
          rest = length (flat w.rest);
          read = this.read_saved;
          fits_saved = fit.1;
          has = has_saved Sizes M p _ this.saved w.rest (rw this.is at w.has);
          fits = fit.0;
          room = omega (arith, item_room, four_bytes, ap length saved_back);
        }

    -- by what was done for the saved list at q
    pub saved_item : {n q : ℕ} {r : Rest} (o : List ℕ) {o' : List ℕ} → n ≡ field_at s (p + 5) 8 → q ≡ p + 13
        → ((v : SavedToWrite s M (l - 1) q f b) → SavedDone n v r o o') → ItemDone w r o o'
    saved_item {n} {q} {r} o {o'} e is did =
        let h : SavedDone n item_saved r o o' = subst (λ (x : ℕ). (v : SavedToWrite s M (l - 1) x f b) → SavedDone n v r o o') is did item_saved in
        rw (saved_back, four_bytes, saved_front, ← e) h

  -- an instruction without lists
  module _ (not-four : shape_here s l p ≡ 4 → ⊥) (not_five : shape_here s l p ≡ 5 → ⊥) where
    pub plain : Simple s l p w.read (shape_here s l p)
    plain = without_lists s l p w.read not-four not_five

    plain_bytes : (item_bytes w ≡ field_at s p 5 ∷ operands_at s (p + 5) (shape_here s l p - 1)) × (back_bytes w.instr ≡ [])
    plain_bytes =
        let k = plain in
        let e : shape_here s l p ≡ 1 + length (operands_at s (p + 5) (shape_here s l p - 1)) = omega (
          arith,
          operands_length s (p + 5) (shape_here s l p - 1),
        ) in
        rw k.3 (simple_bytes (field_at s p 5) (operands_at s (p + 5) (shape_here s l p - 1)) (length (flat w.rest)) e)

    plain_length : length (item_bytes w) ≡ 1 + (shape_here s l p - 1)
    plain_length = ap length plain_bytes.0 ∙ (let k = operands_length s (p + 5) (shape_here s l p - 1) in omega arith)

    pub plain_room : f + 1 + (shape_here s l p - 1) ≤ b
    plain_room = omega (arith, item_room, plain_length)

    pub plain_item_lem : {k : ℕ} {q : BitPlace} (o : List ℕ) {o' : List ℕ} → k ≡ shape_here s l p - 1 → q.0 ≡ p + (5 + 8 * k)
        → {line : ℕ} → line ≡ field_at s p 21 → o' ≡ sets o f (line_bytes line k)
        → ItemDone w (record { at = q; front = f + 1 + k; back = b }) o o'
    plain_item_lem {k} {q} o e g {line} n h =
        let e₁ : rest_back w ≡ b = omega (arith, item_room, ap length plain_bytes.1) in
        let e₂ : q.0 ≡ w.past = omega (arith, plain.4) in
        let e₃ : f + 1 + k ≡ rest_front w = omega (arith, plain_length) in
        let b : line_bytes line k ≡ field_at s p 5 ∷ operands_at s (p + 5) k = line_bytes_lem s p line k n (omega (arith, plain.1)) in
        (wrote_eq q e₂ e₃ (sym e₁), rw (plain_bytes.1, plain_bytes.0, ← e, ← b) h)

-- ---- a list, from p₀ on into o₀, of which what is left stands at p and goes into o
to_write_same : {s M : List ℕ} {l p f b : ℕ} (w v : ToWrite s M l p f b) → (w.past ≡ v.past) × (w.code ≡ v.code)
to_write_same w v = let e : ◌≡◌ {A = Got Code} (got w.code w.past) (got v.code v.past) = sym w.read ∙ v.read in (cc, cc)

pub record Left (s M : List ℕ) (l p₀ f₀ b₀ p f b : ℕ) (o₀ o : List ℕ) : Type 0 where
  pub now : ToWrite s M l p f b
  pub same : (w : ToWrite s M l p₀ f₀ b₀) → (w.past ≡ now.past) × (sets o₀ f₀ (flat w.code) ≡ sets o f (flat now.code))

module _ (s M : List ℕ) (l p₀ f₀ b₀ : ℕ) (o₀ : List ℕ) where
  pub left_all : ToWrite s M l p₀ f₀ b₀ → Left s M l p₀ f₀ b₀ p₀ f₀ b₀ o₀ o₀
  left_all v = record { now = v; same = λ w. let e = to_write_same w v in (e.0, ap (λ (c : Code). sets o₀ f₀ (flat c)) e.1) }

  module _ (p f b : ℕ) (o : List ℕ) (left : Left s M l p₀ f₀ b₀ p f b o₀ o) where
    pub left_within : p + 5 ≤ 8 * length s
    left_within = list_within s l p left.now.read

    pub left_none : shape_here s l p ≡ 0 → (w : ToWrite s M l p₀ f₀ b₀) → (p + 5 ≡ w.past) × (o ≡ sets o₀ f₀ (flat w.code))
    unfolding flat
    left_none h w =
        let k = list_end s l p left.now.read h in
        let e = left.same w in
        (sym (e.0 ∙ k.1), sym (e.1 ∙ ap (λ (c : Code). sets o f (flat c)) k.0))

    module _ (more : shape_here s l p ≡ 0 → ⊥) where
      pub turn : Turn s l p left.now.read
      turn = list_turn s l p left.now.read more

      abbrev pub left_item : ItemToWrite s M l p f b
      left_item =
          record {
            instr = turn.instr;
            past = turn.next;
            rest = turn.rest;
            read = turn.head;
            fits = rw turn.is at left.now.fits;
            has = rw turn.is at left.now.has;
            room = rw turn.is at left.now.room;
          }

      next_place : (turn.next ≡ p + bits_i turn.instr) × (turn.next ≤ 8 * length s)
      next_place = let h = rw turn.head at (head_past s (deep_of s l) (deep_past s l) p) in (h.0, h.1)

      pub left_less : (p < turn.next) × (turn.next ≤ 8 * length s)
      left_less = omega (arith, next_place, some_bits turn.instr)

      module _ {r : Rest} {o' : List ℕ} (done : ItemDone left_item r o o') where
        pub next_is : r.at.0 ≡ turn.next
        next_is = ap (λ (x : Rest). x.at.0) done.0

        pub back_less : r.back ≤ b
        back_less = rw done.0 (omega (arith, item_room left_item))

        pub left_next : Left s M l p₀ f₀ b₀ r.at.0 r.front r.back o₀ o'
        left_next =
            let f₁ = ap (λ (x : Rest). x.front) done.0 in
            let b₁ = ap (λ (x : Rest). x.back) done.0 in
            record {
              now =
                  record {
                    code = turn.rest;
                    past = left.now.past;
                    read = ap (list_at s l) next_is ∙ turn.on;
                    fits = fits_rest turn.instr turn.rest (rw turn.is at left.now.fits);
                    has = rw (next_is, next_place.0) (has_rest Sizes M p turn.instr turn.rest (rw turn.is at left.now.has));
                    room = omega arith;
                  };
              same =
                  λ w. (
                    (left.same w).0,
                    (left.same w).1 ∙ ap (λ (c : Code). sets o f (flat c)) turn.is ∙ rest_written turn.instr turn.rest f o
                        ∙ rw (f₁, done.1) refl,
                  );
            }
