-- Code back to lists by computation: the code of rows P3 and P4 of document 01, code that only a scan tells apart, and code of no list.
-- Assumes nothing.
use Rattle.std.specs.Prelude.{ℕ, ◌≡◌, refl, true, List, [], ◌∷◌, map}
use Rattle.std.proofs.Math.Option.{Option, none, some}
use Rattle.files.specs.Codes.{shape_of, is_neutral, operands}
use Rattle.files.specs.Code.{Code, done, neutral, return, call, unless_false, make_cont}
use Rattle.back.specs.Unflat.{after, scan, ends_in_jump, last_offset, before_jump, on, test, neutral_back, open_arms, closed_arms, arms_back}
use Rattle.back.specs.Unflat.{unless_back, cont_back, view, end_back, first_back, unflat}

abbrev unspecified : Code
unspecified = neutral 15 [] done

abbrev codes : List (List ℕ)
codes =
    -- P3, P4
    (3 ∷ 0 ∷ 8 ∷ 4 ∷ 0 ∷ 1 ∷ 0 ∷ 1 ∷ 5 ∷ 0 ∷ 1 ∷ 15 ∷ 1 ∷ [])
    ∷ (3 ∷ 0 ∷ 11 ∷ 3 ∷ 0 ∷ 4 ∷ 15 ∷ 5 ∷ 0 ∷ 1 ∷ 15 ∷ 5 ∷ 0 ∷ 1 ∷ 15 ∷ 1 ∷ [])
    -- a first arm whose last three bytes are 5, 2, 0, and which ends in call 0
    ∷ (3 ∷ 0 ∷ 4 ∷ 6 ∷ 5 ∷ 2 ∷ 0 ∷ 1 ∷ [])
    -- a jump of its own; an open conditional with an empty arm; no end; bytes after return; an arm cut short
    ∷ (5 ∷ 0 ∷ 0 ∷ 1 ∷ [])
    ∷ (3 ∷ 0 ∷ 3 ∷ 5 ∷ 0 ∷ 1 ∷ 15 ∷ 1 ∷ [])
    ∷ (15 ∷ [])
    ∷ (1 ∷ 1 ∷ [])
    ∷ (3 ∷ 0 ∷ 4 ∷ 1 ∷ [])
    -- bytes after call; a conditional with closed arms in an open arm
    ∷ (2 ∷ 0 ∷ 1 ∷ [])
    ∷ (3 ∷ 0 ∷ 8 ∷ 3 ∷ 0 ∷ 1 ∷ 1 ∷ 1 ∷ 5 ∷ 0 ∷ 1 ∷ 15 ∷ 1 ∷ [])
    ∷ []

abbrev lists : List (Option Code)
lists =
    some (unless_false (make_cont 0 done (return done)) unspecified (return done))
    ∷ some (unless_false (unless_false unspecified unspecified done) unspecified (return done))
    ∷ some (unless_false (neutral 6 (5 ∷ []) (call 0 done)) (return done) done)
    ∷ none
    ∷ none
    ∷ none
    ∷ none
    ∷ none
    ∷ none
    ∷ none
    ∷ []

code_rows : map (unflat 20 15 true) codes ≡ lists
unfolding shape_of is_neutral operands after scan ends_in_jump last_offset before_jump on test neutral_back open_arms closed_arms arms_back unless_back
    cont_back view end_back first_back unflat
code_rows = refl

-- a saved list in a saved list wants two levels
level_rows : map (λ l. unflat 20 l true (4 ∷ 0 ∷ 1 ∷ 0 ∷ 1 ∷ 4 ∷ 0 ∷ 1 ∷ 0 ∷ 1 ∷ 1 ∷ [])) (1 ∷ 2 ∷ [])
    ≡ none ∷ some (make_cont 0 (make_cont 0 (return done) (return done)) (return done)) ∷ []
unfolding shape_of is_neutral operands after scan ends_in_jump last_offset before_jump on test neutral_back open_arms closed_arms arms_back unless_back
    cont_back view end_back first_back unflat
level_rows = refl
