-- An accepted tree file and its linear file have the same templates. Assumes nothing.
use Rattle.std.specs.Prelude.{ℕ, zero, suc, ◌+◌, ◌≡◌, refl, List, [], ◌∷◌, T, length, get_or}
use Rattle.std.proofs.Common.{arith, sym, subst}
use Rattle.std.proofs.Math.Option.{none}
use Rattle.files.specs.Reading.{got}
use Rattle.files.specs.Code.{bits}
use Rattle.files.specs.Tree.{Template}
use Rattle.files.specs.Linear.{template_bytes}
use Rattle.files.specs.Grammar.{lowest, closed_template, indexed_template, each_neutral, indices_fit}
use Rattle.files.specs.Flat.{flat}
use Rattle.files.specs.laws.AllGot.{Each}
use Rattle.files.specs.Accepted.{tree_checked}
use Rattle.readback.specs.laws.Templates.{linears}
use Rattle.readback.specs.laws.TreeFacts.{TemplateFacts, tree_facts}
use Rattle.files.specs.laws.AcceptedLaws.{lowest_none}
use Rattle.files.specs.laws.AcceptedLaws.{checked}
use Rattle.machines.specs.Fetched.{no_template, no_linear}
use Rattle.agree.specs.laws.Suits.{Only, Shut, Ok, closed_ok}
use Rattle.agree.specs.laws.Places.{Twins}

no_twin : Twins no_template no_linear
unfolding Ok Shut Only flat bits indices_fit each_neutral
no_twin = record { same_entries = refl; same_code = refl; closed = (tt, tt); indexed = refl; tree_fits = omega arith; linear_fits = omega arith }

-- n: the first template's number; k: the byte where it begins in the linear file; m: where the checks count from; count: all templates
twins_from : (n k m count : ℕ) (ts : List Template) → Each (TemplateFacts count) n ts → lowest closed_template m ts ≡ none
    → lowest indexed_template m ts ≡ none → (t : ℕ) → Twins (get_or ts t no_template) (get_or (linears k ts) t no_linear)
unfolding linears
twins_from n k m count [] f c i t = no_twin
twins_from n k m count (x ∷ ts) f c i zero =
    let h = f.0 in
    record {
      same_entries = refl;
      same_code = refl;
      closed = closed_ok x.code h.valid_code (subst T (sym (lowest_none closed_template m x ts c).0) tt);
      indexed = (lowest_none indexed_template m x ts i).0;
      tree_fits = omega (arith, h.within);
      linear_fits = h.writable.short;
    }
twins_from n k m count (x ∷ ts) f c i (suc t) =
    twins_from (n + 1) (k + length (template_bytes x)) (m + 1) count ts f.1 (lowest_none closed_template m x ts c).1
    (lowest_none indexed_template m x ts i).1 t

-- a tree file that passes 1 to 7, whatever its offsets, and the templates that flattening gives
pub file_twins : (s : List ℕ) (ts : List Template) (q : ℕ) → tree_checked s ≡ got ts q → (t : ℕ)
    → Twins (get_or ts t no_template) (get_or (linears 1 ts) t no_linear)
file_twins s ts q e t =
    let c = checked s ts q e in
    twins_from 0 1 0 (length ts) ts (tree_facts s ts q c.read).each c.closed c.indexed t
