-- What is known of the code of a basic file that is accepted. Assumes nothing.
use Rattle.std.specs.Prelude.{ℕ, ◌*◌, ◌≤◌, ◌≡◌, refl, true, List, leb, length}
use Rattle.std.proofs.Common.{arith, ap, ◌∙◌, leb-true}
use Rattle.std.proofs.Math.Option.{Option, none, some}
use Rattle.files.specs.Reading.{Got, got, refused}
use Rattle.files.specs.Entries.{to_byte, zero_bits}
use Rattle.files.specs.Grammar.{lowest, closed_template}
use Rattle.files.specs.Tree.{padded_end}
use Rattle.files.specs.Accepted.{or_lowest}
use Rattle.files.specs.laws.AllGot.{AllGot, got_all, then_all, cond_all, nothing_all, zero_all}
use Rattle.basic.specs.Basic.{Basic, bits}
use Rattle.basic.specs.Valid.{Ok}
use Rattle.basic.specs.Reading.{list_at, basic_read}
use Rattle.basic.specs.Tabulated.{tabulated}
use Rattle.basic.specs.Checked.{within_limits, limited, basic_checked}
use Rattle.basic.specs.laws.ReadLaws.{list_facts}

pub record Known (s : List ℕ) (c : Basic) : Type 0 where
  pub small : length s ≤ 65536
  pub read : list_at s 15 0 ≡ got c (bits c)
  pub in_order : Ok c
  pub short : bits c ≤ 8 * length s

list_known : (s : List ℕ) → length s ≤ 65536 → {c : Basic} {q : ℕ} → list_at s 15 0 ≡ got c q → Known s c
list_known s h {c} {q} e =
    let f = list_facts s 15 0 e in
    let z : q ≡ bits c = omega (arith, f.0) in
    record { small = h; read = e ∙ ap (λ n. got c n) z; in_order = f.2; short = omega (arith, f.1) }

read_known : (s : List ℕ) → AllGot (Known s) (basic_read s)
unfolding basic_read padded_end
read_known s =
    cond_all (Known s) (leb (length s) 65536) _ (refused 1 0)
    (λ i. then_all (Known s) (list_at s 15 0) _
    (λ c q e. then_all (Known s) (zero_bits s (to_byte q) q c) _
    (λ d r k. nothing_all (Known s) s r d (got_all (Known s) (zero_all (Known s) s (to_byte q) q c (list_known s (leb-true (length s) 65536 i) e)) k))))
    (λ i. tt)

-- it is read, every template's list is closed, and it is within the limits
pub record Accepted (s : List ℕ) (c : Basic) : Type 0 where
  pub known : Known s c
  pub closed : lowest closed_template 0 (tabulated c) ≡ none
  pub limits : within_limits (tabulated c) ≡ true

lowest_all : (Q : Basic → Type 0) (n : ℕ) (o : Option ℕ) (g : Got Basic) → (o ≡ none → AllGot Q g) → AllGot Q (or_lowest n o g)
unfolding or_lowest
lowest_all Q n (some t) g h = tt
lowest_all Q n none g h = h refl

-- THE LAW
pub checked_known : (s : List ℕ) → AllGot (Accepted s) (basic_checked s)
unfolding basic_checked limited
checked_known s =
    then_all (Accepted s) (basic_read s) _
    (λ c q e. lowest_all (Accepted s) 6 (lowest closed_template 0 (tabulated c)) _
    (λ i. cond_all (Accepted s) (within_limits (tabulated c)) (got c q) (refused 26 0)
    (λ j. record { known = got_all (Known s) (read_known s) e; closed = i; limits = j }) (λ j. tt)))
