-- THE THEOREM of request 5 on ends: each machine ends alike on a file that passes 1 to 7 and on its trimmed file, the linear machine where the file flattens.
-- Assumes nothing.
use Rattle.std.specs.Prelude.{ℕ, zero, suc, ◌+◌, ◌*◌, ◌≡◌, refl, List, [], ◌∷◌, length, get_or}
use Rattle.files.specs.Accepted.{tree_checked, flat_checked}
use Rattle.files.specs.Linear.{linear_file}
use Rattle.files.specs.Reading.{got}
use Rattle.files.specs.Tree.{Template}
use Rattle.files.specs.laws.AcceptedLaws.{checked_read, flat_checked_lem}
use Rattle.readback.specs.laws.Bytes.{file_bytes}
use Rattle.readback.specs.laws.Templates.{linears}
use Rattle.readback.specs.laws.ReadBack.{flattened_reads}
use Rattle.agree.specs.laws.Files.{file_twins}
use Rattle.owners.specs.declared.Owner.{Owner}
use Rattle.sound.specs.laws.Files.{tree_ok, linear_ok}
use Rattle.sound.specs.laws.Runs.{FitGlobals}
use Rattle.machines.specs.Machine.{tree_program, linear_program}
use Rattle.tree_file.specs.File.{template_bits, tree_file, placed}
use Rattle.tree_file.proofs.theorems.Written.{tree_writable}
use Rattle.machines.specs.Fetched.{no_template}
use Rattle.machines.specs.Runs.{Memory, checked_run, linear_run, program_run}
use Rattle.trim.specs.Trim.{trim, stays, trimmed}
use Rattle.trim.proofs.theorems.RoundsLaws.{stays_leads}
use Rattle.renamed.specs.laws.Ends.{EndAlike-renamed, Renamed}
use Rattle.renamed.specs.laws.Renaming.{Renaming}
use Rattle.renamed.specs.laws.Programs.{programs_alike}
use Rattle.renamed.specs.laws.Trees.{SameDistance, tree_twins}
use Rattle.renamed.specs.laws.Linears.{SameByte, linear_twins}
use Rattle.renamed.specs.laws.Trim.{Keeps, Written, renaming, trimmed as twins, tree_trim_alike, linear_trim_alike}
use Rattle.renamed.specs.laws.Reached.{leads_keep}
use Rattle.renamed.specs.laws.Flattens.{trimmed_flattens}
use Rattle.renamed.specs.laws.Again.{first_stays, trimmed_checked}

placed_entries : (p : ℕ) (ts : List Template) (t : ℕ) → (get_or (placed p ts) t no_template).entries ≡ (get_or ts t no_template).entries
unfolding placed
placed_entries p [] t = refl
placed_entries p (x ∷ ts) zero = refl
placed_entries p (x ∷ ts) (suc t) = placed_entries (p + length (template_bits x)) ts t

placed_code : (p : ℕ) (ts : List Template) (t : ℕ) → (get_or (placed p ts) t no_template).code ≡ (get_or ts t no_template).code
unfolding placed
placed_code p [] t = refl
placed_code p (x ∷ ts) zero = refl
placed_code p (x ∷ ts) (suc t) = placed_code (p + length (template_bits x)) ts t

module _ (s : List ℕ) (ts : List Template) (q : ℕ) where
  -- the trimmed templates, as they are read in the trimmed file
  abbrev pub read_again : List Template
  read_again = placed 8 (trimmed ts)

  written : Written (stays ts) ts read_again
  unfolding trimmed
  written = record { same_entries = placed_entries 8 (trim (stays ts) ts); same_code = placed_code 8 (trim (stays ts) ts) }

  pub keeps : tree_checked s ≡ got ts q → Keeps (stays ts) ts
  keeps e = leads_keep s ts q e (stays ts) (first_stays s ts q e) (stays_leads ts (tree_writable s ts q (checked_read s ts q e)).each)

  -- the tree machine, request 4's check left aside
  pub tree_trimmed_ends : tree_checked s ≡ got ts q → (b o : ℕ) (m : Memory)
      → EndAlike-renamed (checked_run s b o m) (checked_run (tree_file (trimmed ts)) b o m)
  tree_trimmed_ends e = tree_trim_alike (stays ts) ts (keeps e) read_again written s (tree_file (trimmed ts)) e (trimmed_checked s ts q e)

  -- where the file flattens its trimmed file does
  pub flat_trimmed : flat_checked s ≡ got ts q → flat_checked (tree_file (trimmed ts)) ≡ got read_again (8 * length (tree_file (trimmed ts)))
  flat_trimmed e =
      trimmed_flattens (stays ts) s (tree_file (trimmed ts)) ts read_again q (8 * length (tree_file (trimmed ts))) e written
      (trimmed_checked s ts q (flat_checked_lem s ts q e))

  -- and the linear machine ends alike on the two linear files
  pub linear_trimmed_ends : flat_checked s ≡ got ts q → (b o : ℕ) (m : Memory)
      → EndAlike-renamed (linear_run (linear_file ts) b o m) (linear_run (linear_file read_again) b o m)
  linear_trimmed_ends e =
      linear_trim_alike (stays ts) ts (keeps (flat_checked_lem s ts q e)) read_again written s (tree_file (trimmed ts)) e (flat_trimmed e) (file_bytes s ts q e)
      (file_bytes (tree_file (trimmed ts)) read_again (8 * length (tree_file (trimmed ts))) (flat_trimmed e))

  -- ---- template for template: in every cell the number is the new one that the list tells (`Renumbered`: t' ≡ rank (stays ts) 0 t), whatever program ran
  abbrev pub as_listed : tree_checked s ≡ got ts q → Renaming
  as_listed e = renaming (stays ts) ts (keeps e)

  pub tree_trimmed_renamed : (e : tree_checked s ≡ got ts q) (own : Owner) (b : ℕ) (g : List ℕ) → FitGlobals g
      → Renamed (as_listed e) (program_run own (tree_program ts) b g) (program_run own (tree_program read_again) b g)
  tree_trimmed_renamed e own b g =
      programs_alike (as_listed e) (SameDistance (as_listed e) ts read_again) own (tree_program ts) (tree_program read_again)
      (tree_twins (as_listed e) ts read_again (twins (stays ts) ts (keeps e) read_again written)) (rw e at (tree_ok s))
      (rw (trimmed_checked s ts q e) at (tree_ok (tree_file (trimmed ts)))) b g

  pub linear_trimmed_renamed : (e : flat_checked s ≡ got ts q) (own : Owner) (b : ℕ) (g : List ℕ) → FitGlobals g
      → Renamed (as_listed (flat_checked_lem s ts q e)) (program_run own (linear_program (linears 1 ts)) b g)
      (program_run own (linear_program (linears 1 read_again)) b g)
  linear_trimmed_renamed e own b g =
      let c = flat_checked_lem s ts q e in
      let s' = tree_file (trimmed ts) in
      let q' = 8 * length (tree_file (trimmed ts)) in
      let t = file_twins s ts q c in
      let t' = file_twins s' read_again q' (trimmed_checked s ts q c) in
      let w = twins (stays ts) ts (keeps c) read_again written in
      programs_alike (as_listed c) (SameByte (as_listed c) ts read_again (linears 1 ts) (linears 1 read_again) t t' w) own (linear_program (linears 1 ts))
      (linear_program (linears 1 read_again)) (linear_twins (as_listed c) ts read_again (linears 1 ts) (linears 1 read_again) t t' w)
      (rw (flattened_reads s ts q e) at (linear_ok (linear_file ts) (file_bytes s ts q e)))
      (rw (flattened_reads s' read_again q' (flat_trimmed e)) at (linear_ok (linear_file read_again) (file_bytes s' read_again q' (flat_trimmed e)))) b g
