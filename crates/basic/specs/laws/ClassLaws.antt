-- The class of a list is that of its tabulated code. Assumes nothing.
use Rattle.std.specs.Prelude.{ℕ, suc, ◌+◌, ◌≡◌, refl, false, ◌&&◌, ◌||◌, List}
use Rattle.std.proofs.Common.{arith, ap, ◌∙◌, le-ltb}
use Rattle.files.specs.Code.{Code, done, neutral, return, call, unless_false, make_cont, put, simple}
use Rattle.files.specs.Reading.{got}
use Rattle.files.specs.Entries.{Entry}
use Rattle.files.specs.Grammar.{is_empty, is_open, is_closed, closed_template}
use Rattle.lists.specs.declared.Class.{Class}
use Rattle.lists.specs.declared.Class.TheVariants.{Empty, Open, Closed, Neither}
use Rattle.lists.specs.Facts.{says_empty, says_open, says_closed, class_by, class_of as codeClass}
use Rattle.lists.specs.laws.PassLaws.{empty_class, open_class, closed_class}
use Rattle.lists.specs.declared.Kind.TheVariants.{Neutral, Ending}
use Rattle.basic.specs.Basic.{Basic, ended, plain, carries, closure, branch, save}
use Rattle.basic.specs.Reading.{list_at}
use Rattle.basic.specs.Tabulated.{inside, indexed, template_of, entries_of}
use Rattle.basic.specs.Valid.{PlainOk, return_ok, call_ok, neutral_ok, Ok}
use Rattle.lists.specs.Pass.{classes_after, conditional_kind, save_kind}
use Rattle.basic.specs.Told.{under, plain_kind, before, class_of}
use Rattle.basic.specs.laws.ReadLaws.{list_facts}
use Rattle.basic.specs.laws.StepLaws.{four}
use Rattle.basic.specs.laws.ForestLaws.{simple_return, simple_call, simple_neutral}

neutral_number : (k : Class) → class_by false (says_empty k || says_open k) (says_closed k) ≡ before Neutral k
unfolding before under classes_after says_empty says_open says_closed
neutral_number k = four (λ k. class_by false (says_empty k || says_open k) (says_closed k) ≡ before Neutral k) refl refl refl refl k

ending_number : (k : Class) → class_by false false (says_empty k) ≡ before Ending k
unfolding before under classes_after says_empty
ending_number k = four (λ k. class_by false false (says_empty k) ≡ before Ending k) refl refl refl refl k

-- what a code's class is computed from
neutral_by : (op : ℕ) (ns : List ℕ) (r : Code) → codeClass (neutral op ns r) ≡ class_by false (is_empty r || is_open r) (is_closed r)
unfolding codeClass is_empty is_open is_closed
neutral_by op ns r = refl

return_by : (r : Code) → codeClass (return r) ≡ class_by false false (is_empty r)
unfolding codeClass is_empty is_open is_closed
return_by r = refl

call_by : (n : ℕ) (r : Code) → codeClass (call n r) ≡ class_by false false (is_empty r)
unfolding codeClass is_empty is_open is_closed
call_by n r = refl

branch_by : (x y r : Code) → codeClass (unless_false x y r)
    ≡ class_by false (is_open x && is_open y && (is_empty r || is_open r)) ((is_open x && is_open y && is_closed r)
    || (is_empty r && is_closed x && is_closed y))
unfolding codeClass is_empty is_open is_closed
branch_by x y r = refl

save_by : (n : ℕ) (x r : Code) → codeClass (make_cont n x r) ≡ class_by false ((is_empty x || is_open x) && is_closed r) (is_closed x && is_closed r)
unfolding codeClass is_empty is_open is_closed
save_by n x r = refl

neutral_class : (op : ℕ) (ns : List ℕ) (r : Code) → codeClass (neutral op ns r) ≡ before Neutral (codeClass r)
neutral_class op ns r =
    neutral_by op ns r ∙ rw (empty_class r, open_class r, closed_class r) (neutral_number (codeClass r))

ending_class : (r : Code) → class_by false false (is_empty r) ≡ before Ending (codeClass r)
ending_class r = rw (empty_class r) (ending_number (codeClass r))

abbrev Branched : Class → Class → Class → Type 0
Branched a b k =
    class_by false (says_open a && says_open b && (says_empty k || says_open k))
    ((says_open a && says_open b && says_closed k) || (says_empty k && says_closed a && says_closed b))
    ≡ before (conditional_kind a b) k

branch_number : (a b k : Class) → Branched a b k
unfolding before under classes_after conditional_kind says_empty says_open says_closed
branch_number a b k =
    four (λ a. Branched a b k)
    (four (λ b. Branched Empty b k) (four (λ k. Branched Empty Empty k) refl refl refl refl k) (four (λ k. Branched Empty Open k) refl refl refl refl k)
    (four (λ k. Branched Empty Closed k) refl refl refl refl k) (four (λ k. Branched Empty Neither k) refl refl refl refl k) b)
    (four (λ b. Branched Open b k) (four (λ k. Branched Open Empty k) refl refl refl refl k) (four (λ k. Branched Open Open k) refl refl refl refl k)
    (four (λ k. Branched Open Closed k) refl refl refl refl k) (four (λ k. Branched Open Neither k) refl refl refl refl k) b)
    (four (λ b. Branched Closed b k) (four (λ k. Branched Closed Empty k) refl refl refl refl k) (four (λ k. Branched Closed Open k) refl refl refl refl k)
    (four (λ k. Branched Closed Closed k) refl refl refl refl k) (four (λ k. Branched Closed Neither k) refl refl refl refl k) b)
    (four (λ b. Branched Neither b k) (four (λ k. Branched Neither Empty k) refl refl refl refl k) (four (λ k. Branched Neither Open k) refl refl refl refl k)
    (four (λ k. Branched Neither Closed k) refl refl refl refl k) (four (λ k. Branched Neither Neither k) refl refl refl refl k) b)
    a

branch_class : (x y r : Code) → codeClass (unless_false x y r) ≡ before (conditional_kind (codeClass x) (codeClass y)) (codeClass r)
branch_class x y r =
    branch_by x y r
    ∙ rw (open_class x, open_class y, closed_class x, closed_class y, empty_class r, open_class r, closed_class r)
    (branch_number (codeClass x) (codeClass y) (codeClass r))

abbrev Saved : Class → Class → Type 0
Saved a k = class_by false ((says_empty a || says_open a) && says_closed k) (says_closed a && says_closed k) ≡ before (save_kind a) k

save_number : (a k : Class) → Saved a k
unfolding before under classes_after save_kind says_empty says_open says_closed
save_number a k =
    four (λ a. Saved a k)
    (four (λ k. Saved Empty k) refl refl refl refl k)
    (four (λ k. Saved Open k) refl refl refl refl k)
    (four (λ k. Saved Closed k) refl refl refl refl k)
    (four (λ k. Saved Neither k) refl refl refl refl k) a

save_class : (n : ℕ) (x r : Code) → codeClass (make_cont n x r) ≡ before (save_kind (codeClass x)) (codeClass r)
save_class n x r =
    save_by n x r
    ∙ rw (empty_class x, open_class x, closed_class x, closed_class r)
    (save_number (codeClass x) (codeClass r))

plain_class : (v : ℕ) (ns : List ℕ) → PlainOk v ns → (r : Code) → codeClass (put (simple v ns) r) ≡ before (plain_kind v) (codeClass r)
unfolding put plain_kind
plain_class v ns return_ok r = rw simple_return (return_by r ∙ ending_class r)
plain_class v ns (call_ok {n} h) r = rw (simple_call n) (call_by n r ∙ ending_class r)
plain_class v ns (neutral_ok h i j k) r = rw (simple_neutral v ns h, le-ltb v 6 (omega arith)) (neutral_class v ns r)

ended_class : codeClass done ≡ Empty
unfolding codeClass is_empty
ended_class = refl

class_is : (c : Basic) → Ok c → (es : List Entry) (n : ℕ) → codeClass (indexed es n c) ≡ class_of c
unfolding indexed class_of Ok
class_is ended ok es n = ended_class
class_is (plain v ns r) ok es n = plain_class v ns ok.0 (indexed es n r) ∙ ap (before (plain_kind v)) (class_is r ok.1 es n)
class_is (carries v e r) ok es n = neutral_class v _ (indexed es n r) ∙ ap (before Neutral) (class_is r ok.1 es n)
class_is (closure x r) ok es n = neutral_class 7 _ (indexed es (suc n + inside x) r) ∙ ap (before Neutral) (class_is r ok.1 es (suc n + inside x))
class_is (branch x y r) ok es n =
    branch_class (indexed es n x) (indexed es (n + inside x) y) (indexed es (n + inside x + inside y) r)
    ∙ rw (class_is x ok.0 es n, class_is y ok.1 es (n + inside x), class_is r ok.2 es (n + inside x + inside y)) refl
class_is (save m x r) ok es n =
    save_class m (indexed es n x) (indexed es (n + inside x) r) ∙ rw (class_is x ok.1 es n, class_is r ok.2 es (n + inside x)) refl

pub closed_is : (s : List ℕ) (p : ℕ) (c : Basic) (q n : ℕ) → list_at s 15 p ≡ got c q → closed_template (template_of n c) ≡ says_closed (class_of c)
unfolding template_of
closed_is s p c q n e =
    closed_class (indexed (entries_of n c) n c) ∙ ap says_closed (class_is c (list_facts s 15 p e).2 (entries_of n c) n)
