-- With which instruction execution goes on at the rest of a conditional, by the code that stands there. Assumes nothing.
use Rattle.std.specs.Prelude.{ℕ, ◌+◌, ◌≡◌, Option, Some, None}
use Rattle.std.proofs.Math.Path.{refl, ap}
use Rattle.std.proofs.Common.{sym, ◌∙◌}
use mathlib.Core.List.{List, []}
use Rattle.cells.specs.declared.BitPlace.{BitPlace}
use Rattle.fields.specs.Field.{field_read}
use Rattle.files.specs.Entries.{then, field_got, field}
use Rattle.basic.specs.Basic.{Basic, ended, plain, carries, closure, branch, save, bits}
use Rattle.basic.specs.Reading.{code_at, token_at}
use Rattle.basic_machine.specs.Links.{onward}
use Rattle.basic_machine.specs.Pass.{Reads, Parted, end_p}
use Rattle.basic_machine.specs.declared.Parts.TheVariants.{End, Bad}
use Rattle.basic_machine.specs.laws.Stands.{Stands, stands}
use Rattle.basic_machine.specs.laws.Instructions.{code_end_0, end_code}
use Rattle.basic_machine.specs.laws.PassLaws.{end_parted, none_refused}
use Rattle.basic_machine.proofs.theorems.TurnLaws.{Found, parted_found}

module _ (s : List ℕ) (p f : ℕ) (c : Basic) (reads : Reads s p c) where
  token_by : (x : Option (ℕ × BitPlace)) → field_read s p 5 ≡ x → token_at s 15 p ≡ then (field_got p x) (λ v q. code_at s 15 p v q)
  unfolding token_at field
  token_by x e = ap (λ y. then (field_got p y) (λ v q. code_at s 15 p v q)) e

  bad_none : {A : Type 0} → Parted s p c Bad → A
  unfolding Found
  bad_none h = absurd (parted_found s p h)

  pub follow_cut : field_read s p 5 ≡ None → p ≡ onward c f p
  unfolding then field_got
  follow_cut e = bad_none (none_refused s p c reads (token_by None e))

  end_onward : (d : Basic) → Parted s p d End → f ≡ onward d f p
  unfolding onward
  end_onward d end_p = refl

  pub follow_end : (v : ℕ) (q : BitPlace) → field_read s p 5 ≡ Some (v, q) → v ≡ 0 → f ≡ onward c f p
  unfolding then field_got
  follow_end v q e z =
      end_onward c (end_parted s p c reads (token_by (Some (v, q)) e ∙ ap (λ n. code_at s 15 p n q.0) z ∙ end_code s [] p q.0))

  pub follow_on : (v : ℕ) (q : BitPlace) → field_read s p 5 ≡ Some (v, q) → (v ≡ 0 → ⊥) → p ≡ onward c f p
  unfolding then field_got onward Stands
  follow_on v q e n = by c reads
    where
      by : (d : Basic) → Reads s p d → p ≡ onward d f p
      by ended h = absurd (n (code_end_0 s [] p 15 v q.0 (p + 5) (sym (token_by (Some (v, q)) e) ∙ stands s ended 15 p (p + bits ended) h)))
      by (plain w ns r) h = refl
      by (carries w x r) h = refl
      by (closure x r) h = refl
      by (branch x y r) h = refl
      by (save m x r) h = refl
