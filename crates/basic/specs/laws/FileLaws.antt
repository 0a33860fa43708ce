-- What the reader of a basic file does at each step. Assumes nothing.
use Rattle.std.specs.Prelude.{ℕ, ◌+◌, ◌*◌, ◌≤◌, ◌<◌, ◌≡◌, List, length, Result, Ok, Err}
use Rattle.std.proofs.Common.{arith, ◌∙◌, le-leb}
use Rattle.std.specs.Result.{IsErr, IsErrAnd}
use Rattle.std.proofs.Math.Path.{refl}
use Rattle.std.proofs.lemmas.Bool.{lt-leb}
use Rattle.cells.specs.declared.BitPlace.{BitPlace}
use Rattle.files.specs.Reading.{refused}
use Rattle.files.specs.Entries.{then, to_byte, zero_bits, nothing_more}
use Rattle.files.specs.EntriesRead.{past_told}
use Rattle.files.specs.laws.PaddingSteps.{zero_told, nothing_told}
use Rattle.files.specs.Tree.{padded_end}
use Rattle.basic.specs.declared.Facts.{Facts}
use Rattle.basic.specs.Reading.{list_at, basic_read}
use Rattle.basic.specs.Told.{FileRead, file_read, file_refused}
use Rattle.basic.specs.laws.ReadLaws.{list_facts}
use Rattle.basic.specs.laws.StepLaws.{ListIs}
use Rattle.files.specs.declared.Refusal.{Refusal}
use Rattle.files.specs.Refusal.{refusal}
use Rattle.files.specs.laws.RefusalLaws.{handed_on}

-- what a refusal that `?` hands on is told as
pub file_on : {s : List ℕ} {r : Result BitPlace (Refusal BitPlace)} {x : Refusal BitPlace} → IsErr r × IsErrAnd r (λ y. y ≡ x)
    → FileRead s (Err x) → FileRead s r
file_on h t = rw (handed_on h) t

pub file_long : (s : List ℕ) → 65536 < length s → FileRead s (Err (refusal 1 (record { 0 = 0 })))
unfolding basic_read
file_long s h = file_refused (refusal 1 (record { 0 = 0 })) (rw (lt-leb (length s) 65536 h) refl)

module _ (s : List ℕ) (short : length s ≤ 65536) where
  pub file_unread : (r : Refusal BitPlace) → list_at s 15 0 ≡ refused r.0 r.1.0 → FileRead s (Err r)
  unfolding basic_read then
  file_unread r e = file_refused r (rw (le-leb (length s) 65536 short, e) refl)

  module _ (q : BitPlace) (x : Facts) (w : ListIs s 15 0 q x) where
    pub padding_within : q.0 + to_byte q.0 ≤ 8 * length s
    padding_within = let f = list_facts s 15 0 w.read in omega (arith, f.1)

    padded : basic_read s ≡ padded_end s w.list q.0
    unfolding basic_read then
    padded = rw (le-leb (length s) 65536 short, w.read) refl

    pub file_padding : {r : Refusal BitPlace} → past_told (zero_bits s (to_byte q.0) q.0 (tt {0})) ≡ Err r → FileRead s (Err r)
    unfolding padded_end then
    file_padding {r} e = file_refused r (padded ∙ rw ((zero_told w.list s (to_byte q.0) q.0).set_read e) refl)

    module _ (u : BitPlace) (e : past_told (zero_bits s (to_byte q.0) q.0 (tt {0})) ≡ Ok u) where
      on : basic_read s ≡ nothing_more s u.0 w.list
      unfolding padded_end then
      on = padded ∙ rw ((zero_told w.list s (to_byte q.0) q.0).zero_read e) refl

      pub file_more : {r : Refusal BitPlace} → past_told (nothing_more s u.0 (tt {0})) ≡ Err r → FileRead s (Err r)
      file_more {r} f = file_refused r (on ∙ (nothing_told w.list s u.0).set_read f)

      pub file_whole : (z : BitPlace) → past_told (nothing_more s u.0 (tt {0})) ≡ Ok z → FileRead s (Ok q)
      file_whole z f = file_read q w.list z.0 short (on ∙ (nothing_told w.list s u.0).zero_read f) w.read
