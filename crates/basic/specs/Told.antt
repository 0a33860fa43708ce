-- What the readers of basic code tell.
use Rattle.std.specs.Prelude.{ℕ, ◌+◌, ◌*◌, ◌≤◌, ◌<◌, ◌≡◌, cond, List, length, ltb, Result, Ok, Err}
use Rattle.cells.specs.declared.BitPlace.{BitPlace}
use Rattle.files.specs.Reading.{Got, got, refused}
use Rattle.files.specs.Entries.{constant, global, then}
use Rattle.basic.specs.declared.Token.{Token as ToldToken}
use Rattle.basic.specs.declared.Token.TheVariants.{End, Ending, Plain, Literal, Global, Closure, Branch, Save}
use Rattle.lists.specs.declared.Class.{Class}
use Rattle.lists.specs.declared.Class.TheVariants.{Empty, Open, Closed, Neither}
use Rattle.lists.specs.declared.Kind.{Kind}
use Rattle.lists.specs.declared.Kind.TheVariants.{Neutral, Ending as EndingKind}
use Rattle.lists.specs.declared.Classes.{Classes}
use Rattle.lists.specs.Pass.{classes_after, conditional_kind, save_kind}
use Rattle.basic.specs.declared.Facts.{Facts}
use Rattle.basic.specs.declared.Item.{Item}
use Rattle.basic.specs.declared.Item.TheVariants.{End as EndItem, More}
use Rattle.basic.specs.Basic.{Basic, ended, plain, carries, closure, branch, save, Token, ended_t, plain_t, carries_t, closure_t, branch_t, save_t}
use Rattle.basic.specs.Reading.{list_at, basic_read}
use Rattle.basic.specs.Tabulated.{inside}
use Rattle.files.specs.declared.Refusal.{Refusal}
use Rattle.files.specs.Refusal.{refusal}

-- ---- a code, by what reading it gives
pub data Told (g : Got Token) : Result ToldToken (Refusal BitPlace) → Type 0 where
  told_end : (q : BitPlace) → g ≡ got ended_t q.0 → Told g (Ok (End q))
  told_ending : (q : BitPlace) (v : ℕ) (ns : List ℕ) → v < 6 → g ≡ got (plain_t v ns) q.0 → Told g (Ok (Ending q))
  told_plain : (q : BitPlace) (v : ℕ) (ns : List ℕ) → 6 ≤ v → g ≡ got (plain_t v ns) q.0 → Told g (Ok (Plain q))
  told_literal : (q : BitPlace) (t x : ℕ) → g ≡ got (carries_t 6 (constant t x)) q.0 → Told g (Ok (Literal t x q))
  told_global : (q : BitPlace) (v n : ℕ) → g ≡ got (carries_t v (global n)) q.0 → Told g (Ok (Global v n q))
  told_closure : (q : BitPlace) → g ≡ got closure_t q.0 → Told g (Ok (Closure q))
  told_branch : (q : BitPlace) → g ≡ got branch_t q.0 → Told g (Ok (Branch q))
  told_save : (q : BitPlace) (n : ℕ) → g ≡ got (save_t n) q.0 → Told g (Ok (Save q))
  told_refused : (e : Refusal BitPlace) → g ≡ refused e.0 e.1.0 → Told g (Err e)

-- ---- the class of a list, by the class of what is left of it
unfoldable pub under : Classes → Class → Class
under c Empty = c.empty
under c Open = c.opened
under c Closed = c.closed
under c Neither = Neither

abbrev pub none_read : Classes
none_read = record { empty = Empty; opened = Open; closed = Closed }

unfoldable pub plain_kind : ℕ → Kind
plain_kind v = cond (ltb v 6) EndingKind Neutral

-- the class of an instruction of a kind before a list of class k
unfoldable pub before : Kind → Class → Class
unfolding under classes_after
before k n = under (classes_after k none_read) n

unfoldable pub class_of : Basic → Class
unfolding before plain_kind conditional_kind save_kind
class_of ended = Empty
class_of (plain v ns r) = before (plain_kind v) (class_of r)
class_of (carries v e r) = before Neutral (class_of r)
class_of (closure x r) = before Neutral (class_of r)
class_of (branch x y r) = before (conditional_kind (class_of x) (class_of y)) (class_of r)
class_of (save n x r) = before (save_kind (class_of x)) (class_of r)

-- ---- a list
unfoldable pub facts_of : Basic → Facts
facts_of c = record { class = class_of c; inside = inside c }

unfoldable pub list_told : Got Basic → Result (BitPlace × Facts) (Refusal BitPlace)
unfolding facts_of
list_told (got c q) = Ok (record { 0 = q }, facts_of c)
list_told (refused n p) = Err (refusal n (record { 0 = p }))

-- what an instruction does: f is the list that it makes of what follows it, k its kind, n how many closures it has
pub record Shifts (f : Basic → Basic) (k : Kind) (n : ℕ) : Type 0 where
  pub class : (c : Basic) → class_of (f c) ≡ before k (class_of c)
  pub count : (c : Basic) → inside (f c) ≡ n + inside c

-- the instruction that begins the list at p
pub data Stepped (s : List ℕ) (l p : ℕ) : Result Item (Refusal BitPlace) → Type 0 where
  at_end : (q : BitPlace) → list_at s l p ≡ got ended q.0 → Stepped s l p (Ok (EndItem q))
  at_more : (q : BitPlace) (f : Basic → Basic) (k : Kind) (n : ℕ) → list_at s l p ≡ then (list_at s l q.0) (λ c r. got (f c) r) → Shifts f k n
      → 5 * n + p + 5 ≤ q.0 → q.0 ≤ 8 * length s → Stepped s l p (Ok (More q k n))
  at_bad : (e : Refusal BitPlace) → list_at s l p ≡ refused e.0 e.1.0 → Stepped s l p (Err e)

-- a list of which what is known up to here is k, with n closures
unfoldable pub told_from : Classes → ℕ → Got Basic → Result (BitPlace × Facts) (Refusal BitPlace)
unfolding under
told_from k n (got c q) = Ok (record { 0 = q }, record { class = under k (class_of c); inside = n + inside c })
told_from k n (refused m p) = Err (refusal m (record { 0 = p }))

-- ---- the file, by the place past its list
pub data FileRead (s : List ℕ) : Result BitPlace (Refusal BitPlace) → Type 0 where
  file_read : (q : BitPlace) (c : Basic) (z : ℕ) → length s ≤ 65536 → basic_read s ≡ got c z → list_at s 15 0 ≡ got c q.0 → FileRead s (Ok q)
  file_refused : (e : Refusal BitPlace) → basic_read s ≡ refused e.0 e.1.0 → FileRead s (Err e)
