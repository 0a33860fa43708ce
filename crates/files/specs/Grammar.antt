-- Open and closed lists (document 01, 'Open and closed'), and indices (refusals 6 and 7).
use Rattle.std.specs.Prelude.{ℕ, zero, suc, ◌+◌, Bool, true, false, cond, ◌&&◌, ◌||◌, List, [], ◌∷◌, get_or, leb, eqb}
use Rattle.std.proofs.Math.Option.{Option, none, some}
use Rattle.files.specs.Code.{Code, done, neutral, return, call, unless_false, make_cont}
use Rattle.files.specs.Entries.{Entry, constant, global, template}
use Rattle.files.specs.Tree.{Template}

unfoldable pub is_empty : Code → Bool
is_empty done = true
is_empty (neutral op ns r) = false
is_empty (return r) = false
is_empty (call n r) = false
is_empty (unless_false x y r) = false
is_empty (make_cont n x r) = false

unfoldable mutual
  unfolding is_empty

  pub is_open : Code → Bool
  is_open done = false
  is_open (neutral op ns r) = is_empty r || is_open r
  is_open (return r) = false
  is_open (call n r) = false
  is_open (unless_false x y r) = is_open x && is_open y && (is_empty r || is_open r)
  is_open (make_cont n x r) = (is_empty x || is_open x) && is_closed r

  pub is_closed : Code → Bool
  is_closed done = false
  is_closed (neutral op ns r) = is_closed r
  is_closed (return r) = is_empty r
  is_closed (call n r) = is_empty r
  is_closed (unless_false x y r) = (is_open x && is_open y && is_closed r) || (is_empty r && is_closed x && is_closed y)
  is_closed (make_cont n x r) = is_closed x && is_closed r

-- ---- entries by index; index 0 is never usable
unfoldable pub entry_of : List Entry → ℕ → Option Entry
entry_of es zero = none
entry_of [] (suc n) = none
entry_of (e ∷ es) (suc zero) = some e
entry_of (e ∷ es) (suc (suc n)) = entry_of es (suc n)

-- the entry suits code 6 (constant), 7 (template), 8 and 9 (global)
unfoldable pub suits : ℕ → Option Entry → Bool
suits op none = false
suits op (some (constant t x)) = eqb op 6
suits op (some (template t)) = eqb op 7
suits op (some (global g)) = eqb op 8 || eqb op 9

-- a neutral code's first operand, if it is an index
unfoldable pub index_fits : List Entry → ℕ → ℕ → Bool
index_fits es op n = cond (leb op 9) (suits op (entry_of es n)) true

-- a test of each neutral code in a list with its first operand
unfoldable pub each_neutral : (ℕ → ℕ → Bool) → Code → Bool
each_neutral ok done = true
each_neutral ok (neutral op ns r) = ok op (get_or ns 0 0) && each_neutral ok r
each_neutral ok (return r) = each_neutral ok r
each_neutral ok (call n r) = each_neutral ok r
each_neutral ok (unless_false x y r) = each_neutral ok x && each_neutral ok y && each_neutral ok r
each_neutral ok (make_cont n x r) = each_neutral ok x && each_neutral ok r

unfoldable pub indices_fit : List Entry → Code → Bool
unfolding index_fits each_neutral
indices_fit es c = each_neutral (index_fits es) c

-- ---- the lowest template that a test refuses, counted from n on
unfoldable pub lowest : (Template → Bool) → ℕ → List Template → Option ℕ
lowest ok n [] = none
lowest ok n (t ∷ ts) = cond (ok t) (lowest ok (n + 1) ts) (some n)

abbrev pub closed_template : Template → Bool
closed_template t = is_closed t.code

abbrev pub indexed_template : Template → Bool
indexed_template t = indices_fit t.entries t.code
