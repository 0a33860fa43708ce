-- Joining three files in either grouping (document 02, request 11).
use Rattle.std.specs.Prelude.{ℕ, ◌≤◌, ◌≡◌, cond, List}
use Rattle.cells.specs.Numbers.{not_closed}
use Rattle.files.specs.Reading.{Got, got, refused}
use Rattle.files.specs.Entries.{then}
use Rattle.files.specs.Tree.{Template}
use Rattle.tree_file.specs.File.{tree_file}
use Rattle.join.specs.Join.{is_prologue, prologue_checked, second_checked, joined_templates, within_limits, joined_file}

-- (a b) c and a (b c), each join with an output of n bytes
unfoldable pub left_grouping : List ℕ → List ℕ → List ℕ → ℕ → Got (List ℕ)
left_grouping a b c n = then (joined_file a b n) (λ ab q. joined_file ab c n)

unfoldable pub right_grouping : List ℕ → List ℕ → List ℕ → ℕ → Got (List ℕ)
right_grouping a b c n = then (joined_file b c n) (λ bc q. joined_file a bc n)

-- THE STATEMENT: one is accepted where the other is, and gives the same bytes. Ample output is 65,536 bytes: no file is longer.
pub record Agree (x y : Got (List ℕ)) : Type 0 where
  pub there : (w : List ℕ) (q : ℕ) → x ≡ got w q → y ≡ got w q
  pub back : (w : List ℕ) (q : ℕ) → y ≡ got w q → x ≡ got w q

abbrev pub GroupingsAgree : Type 0
GroupingsAgree = (a b c : List ℕ) (n : ℕ) → 65536 ≤ n → Agree (left_grouping a b c n) (right_grouping a b c n)

-- ---- the order in which faults are found: what each grouping is refused for, and with which place
-- the file of templates that are within the limits: 30, 4, 1
unfoldable pub file_within : List Template → Got (List ℕ)
file_within ts = then (within_limits ts) (λ us q. got (tree_file us) q)

-- a as prologue; b as second operand; 30, 4, 1 of a with b; 6 where b is closed, since a with b is then no prologue; c; 30, 4, 1 of the whole
unfoldable pub left_order : List ℕ → List ℕ → List ℕ → Got (List ℕ)
left_order a b c =
    then (prologue_checked a) (λ ps p.
    then (second_checked b) (λ ts q.
    then (within_limits (joined_templates ps ts)) (λ us r.
    cond (is_prologue ts)
    (then (second_checked c) (λ xs z. file_within (joined_templates us xs)))
    (refused not_closed 0))))

-- b as prologue; c; 30, 4, 1 of b with c; a as prologue; 30, 4, 1 of the whole
unfoldable pub right_order : List ℕ → List ℕ → List ℕ → Got (List ℕ)
right_order a b c =
    then (prologue_checked b) (λ ts q.
    then (second_checked c) (λ xs z.
    then (within_limits (joined_templates ts xs)) (λ us r.
    then (prologue_checked a) (λ ps p. file_within (joined_templates ps us)))))

-- ---- where both are accepted: a and b are prologues, c is a second operand, and the whole is within the limits
unfoldable pub stacked : List ℕ → List ℕ → List ℕ → Got (List ℕ)
stacked a b c =
    then (prologue_checked a) (λ ps p.
    then (prologue_checked b) (λ ts r.
    then (second_checked c) (λ xs z. file_within (joined_templates ps (joined_templates ts xs)))))
