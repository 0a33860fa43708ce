-- What a linear file goes back to is an accepted tree file that flattens to it (request 13), if it is not too long. Assumes nothing.
use Rattle.std.specs.Prelude.{ℕ, suc, ◌+◌, ◌*◌, ◌≤◌, ◌≡◌, refl, Bool, true, List, [], ◌∷◌, length}
use Rattle.std.proofs.Common.{arith, ap, ◌∙◌}
use Rattle.std.proofs.Math.Option.{none}
use Rattle.files.specs.Reading.{got}
use Rattle.files.specs.Entries.{then}
use Rattle.files.specs.Tree.{Template}
use Rattle.files.specs.Grammar.{lowest, closed_template, indexed_template}
use Rattle.files.specs.Flat.{offset_template}
use Rattle.files.specs.Linear.{Linear, template_bytes, templates_bytes, linear_file, linear_read}
use Rattle.files.specs.Valid.{Bytes}
use Rattle.files.specs.laws.AllGot.{Each, each_weaker}
use Rattle.files.specs.Accepted.{or_lowest, tree_checked, flat_checked}
use Rattle.tree_file.specs.File.{template_bits, tree_file, starts_at, placed}
use Rattle.tree_file.specs.laws.Writable.{TreeWritable}
use Rattle.tree_file.proofs.theorems.Back.{TreeWritables, tree_back}
use Rattle.tree_file.specs.laws.Placed.{placed_length, lowest_placed, lowest_all}
use Rattle.back.proofs.theorems.Lists.{is_of, Accepted}
use Rattle.back.proofs.theorems.Files.{AcceptedTemplate}
use Rattle.back.specs.laws.Fixed.{EntriesFit, linear_fixed}
use Rattle.back.proofs.theorems.Shelf.{Backs, no_more, one_more, back_flattens}

-- ---- where lists begin is not seen by the checks, nor in the linear file
placed_bytes : (p : ℕ) (ts : List Template) → templates_bytes (placed p ts) ≡ templates_bytes ts
unfolding placed templates_bytes template_bytes
placed_bytes p [] = refl
placed_bytes p (t ∷ ts) = rw (placed_bytes (p + length (template_bits t)) ts) refl

placed_file : (p : ℕ) (ts : List Template) → linear_file (placed p ts) ≡ linear_file ts
unfolding linear_file
placed_file p ts = rw (placed_length p ts, placed_bytes p ts) refl

none_placed : (ok : Template → Bool) → ((p : ℕ) (t : Template) → ok (starts_at p t) ≡ ok t)
    → ((t : Template) → Accepted t.entries t.code → ok t ≡ true) → (ts : List Template) → Each AcceptedTemplate 0 ts → lowest ok 0 (placed 8 ts) ≡ none
none_placed ok same h ts a = lowest_placed ok same 0 8 ts ∙ lowest_all ok 0 0 ts (each_weaker (λ n t b. h t b) 0 ts a)

-- ---- they can be written
backs_length : {ls : List Linear} {ts : List Template} → Backs ls ts → length ts ≡ length ls
backs_length no_more = refl
backs_length (one_more e f b) = ap suc (backs_length b)

backs_writable : (T n : ℕ) {ls : List Linear} {ts : List Template} → Backs ls ts → Each (EntriesFit T) n ls → Each AcceptedTemplate n ts
    → Each (TreeWritable T) n ts
backs_writable T n no_more h a = tt
backs_writable T n (one_more e f b) h a =
    let d = a.0.fit.deep in
    (record { entries_ok = rw e h.0.0; few = rw e h.0.1; valid_code = a.0.fit.valid; deep = omega arith }, backs_writable T (n + 1) b h.1 a.1)

-- ---- THE LAW
pub back_file : (z : List ℕ) (ls : List Linear) (q : ℕ) (ts : List Template) → Bytes z → linear_read z ≡ got ls q → Backs ls ts → length (tree_file ts) ≤ 65536
    → (flat_checked (tree_file ts) ≡ got (placed 8 ts) (8 * length (tree_file ts))) × (linear_file (placed 8 ts) ≡ z)
unfolding flat_checked tree_checked then or_lowest is_of
back_file z ls q ts b e r fits =
    let k = linear_fixed z b e in
    let f = back_flattens z ls q ts b e r in
    let l : length ts ≡ length ls = backs_length r in
    let some : 1 ≤ length ls = k.at_least_one in
    let most : length ls ≤ 64 = k.at_most_64 in
    let w : TreeWritables ts =
    record { at_least_one = omega arith; at_most_64 = omega arith; each = rw l (backs_writable (length ls) 0 r k.entries f.1) } in (
      rw (
        tree_back ts w fits,
        none_placed closed_template (λ p t. refl) (λ t a. a.fit.category) ts f.1,
        none_placed indexed_template (λ p t. refl) (λ t a. a.indices) ts f.1,
        none_placed offset_template (λ p t. refl) (λ t a. a.fit.offsets) ts f.1,
      )
          refl,
      placed_file 8 ts ∙ f.0,
    )
