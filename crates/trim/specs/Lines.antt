-- The list that trimming writes: a line for each template and then for each of its entries, in the old file's order: template, entry (0 for the template
-- itself), the new number or `gone`.
use Rattle.std.specs.Prelude.{ℕ, suc, Bool, cond, ◌&&◌, List, [], ◌∷◌, ◌++◌}
use Rattle.std.proofs.Math.Option.{Option, none, some}
use Rattle.files.specs.Entries.{Entry}
use Rattle.files.specs.Tree.{Template}
use Rattle.text.specs.Text.{decimal, line}
use Rattle.trim.specs.Kept.{rank}
use Rattle.trim.specs.Trim.{names, new_index, stays}

-- the new number of what stays
abbrev pub kept : Bool → ℕ → Option ℕ
kept b n = cond b (some n) none

-- a new number, or `gone`
unfoldable pub new_word : Option ℕ → List ℕ
new_word none = 103 ∷ 111 ∷ 110 ∷ 101 ∷ []
new_word (some n) = decimal n

unfoldable pub new_line : ℕ → ℕ → Option ℕ → List ℕ
unfolding new_word
new_line t e new = line (decimal t ∷ decimal e ∷ new_word new ∷ [])

-- entries of template t, of numbers e on
unfoldable pub entry_lines : ℕ → (ℕ → Option ℕ) → ℕ → List Entry → List ℕ
unfolding new_line
entry_lines t new e [] = []
entry_lines t new e (x ∷ xs) = new_line t e (new e) ++ entry_lines t new (suc e) xs

-- all of a removed template is gone
unfoldable pub template_lines : (ℕ → Bool) → ℕ → Template → List ℕ
unfolding new_line entry_lines
template_lines keep t x =
    new_line t 0 (kept (keep t) (rank keep 0 t))
    ++ entry_lines t (λ e. kept (keep t && names e x.code) (new_index x.code e)) 1 x.entries

unfoldable pub lines_from : (ℕ → Bool) → ℕ → List Template → List ℕ
unfolding template_lines
lines_from keep t [] = []
lines_from keep t (x ∷ ts) = template_lines keep t x ++ lines_from keep (suc t) ts

unfoldable pub trim_list : List Template → List ℕ
unfolding lines_from stays
trim_list ts = lines_from (stays ts) 0 ts
