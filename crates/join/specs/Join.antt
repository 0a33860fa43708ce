-- Joining a prologue and a file (document 02, request 10).
use Rattle.std.specs.Prelude.{ℕ, ◌+◌, ◌*◌, Bool, true, false, cond, List, [], ◌∷◌, ◌++◌, length, leb}
use Rattle.std.proofs.Math.Option.{Option, none}
use Rattle.cells.specs.Numbers.{too_long, too_deep, not_closed, wrong_index, many_entries}
use Rattle.files.specs.Code.{Code}
use Rattle.files.specs.Reading.{Got, got, refused}
use Rattle.files.specs.Entries.{then}
use Rattle.files.specs.Tree.{Template, tree_read}
use Rattle.files.specs.Grammar.{is_open, lowest, closed_template, indexed_template}
use Rattle.files.specs.Accepted.{or_lowest}
use Rattle.tree_file.specs.File.{tree_file, levels}
use Rattle.rewrite.specs.Reindex.{reindex}
use Rattle.files.specs.Outcome.{into_bytes}
use Rattle.join.specs.Adjoin.{open_adjoin}

-- ---- the operands
-- one template and an open list; a file of one template has no template entries
unfoldable pub is_prologue : List Template → Bool
is_prologue [] = false
is_prologue (t ∷ []) = is_open t.code
is_prologue (t ∷ u ∷ ts) = false

-- 7, last of what is asked of an operand
unfoldable pub indices_checked : List Template → ℕ → Got (List Template)
indices_checked ts q = or_lowest wrong_index (lowest indexed_template 0 ts) (got ts q)

-- the first operand: a prologue; its shape counts under 6, place 0
unfoldable pub prologue_checked : List ℕ → Got (List Template)
unfolding indices_checked
prologue_checked s = then (tree_read s) (λ ts q. cond (is_prologue ts) (indices_checked ts q) (refused not_closed 0))

-- the second operand: a prologue, or a file whose lists are closed; 24 and 8 are not asked
unfoldable pub unclosed : List Template → Option ℕ
unclosed ts = cond (is_prologue ts) none (lowest closed_template 0 ts)

unfoldable pub second_checked : List ℕ → Got (List Template)
unfolding indices_checked
second_checked s = then (tree_read s) (λ ts q. or_lowest not_closed (unclosed ts) (indices_checked ts q))

-- an operand: a prologue, or also a file whose lists are closed
abbrev pub operand_checked : Bool → List ℕ → Got (List Template)
operand_checked false s = prologue_checked s
operand_checked true s = second_checked s

-- ---- joined
-- indices moved up by n
unfoldable pub moved : ℕ → Code → Code
moved n c = reindex (λ i. n + i) c

-- a prologue and the first template of a file: the prologue's entries first, the file's indices moved up by their number. A file's bytes do not depend on
-- where its lists start.
unfoldable pub joined_first : Template → Template → Template
joined_first p t =
    record { entries = p.entries ++ t.entries; start = 0; code = open_adjoin p.code (moved (length p.entries) t.code) }

-- the file's other templates stay as they are
unfoldable pub joined_templates : List Template → List Template → List Template
joined_templates [] ts = ts
joined_templates (p ∷ ps) [] = []
joined_templates (p ∷ ps) (t ∷ ts) = joined_first p t ∷ ts

-- 30, then 4 where the join opens level 17, then 1, each with place 0
unfoldable pub within_limits : List Template → Got (List Template)
within_limits [] = got [] 0
within_limits (t ∷ ts) =
    cond (leb (length t.entries) 255)
    (cond (leb (levels t.code) 15)
    (cond (leb (length (tree_file (t ∷ ts))) 65536) (got (t ∷ ts) (8 * length (tree_file (t ∷ ts)))) (refused too_long 0))
    (refused too_deep 0))
    (refused many_entries 0)

-- the templates of the joined file
unfoldable pub joined : List ℕ → List ℕ → Got (List Template)
joined a b = then (prologue_checked a) (λ ps p. then (second_checked b) (λ ts q. within_limits (joined_templates ps ts)))

-- ---- the function
-- the joined file, for an output of n bytes: 9, last
unfoldable pub joined_file : List ℕ → List ℕ → ℕ → Got (List ℕ)
joined_file a b n = then (joined a b) (λ ts q. into_bytes n (tree_file ts) q)
