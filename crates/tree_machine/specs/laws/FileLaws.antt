-- The run of a whole file, by what reading it answered. Assumes nothing.
use Rattle.std.specs.Prelude.{ℕ, ◌*◌, ◌≤◌, ◌≡◌, List, length, Result, Ok, Err}
use Rattle.std.proofs.Common.{sym, ◌∙◌}
use Rattle.std.proofs.Math.Path.{ap}
use Rattle.files.specs.Reading.{got}
use Rattle.files.specs.Room.{ZerosFor}
use Rattle.files.specs.Tree.{tree_read}
use Rattle.files.specs.Accepted.{tree_accepted}
use Rattle.files.specs.laws.AcceptedLaws.{checked_read, accepted_checked}
use Rattle.tree.specs.Summary.{summary_of, judged_told}
use Rattle.tree.specs.Filled.{tree_filled}
use Rattle.tree.specs.laws.FilledLaws.{tree_tabled, tree_rows_there}
use Rattle.tree.specs.laws.Judged.{ReadAs, judged_told_lem, judged_refused}
use Rattle.tree.specs.declared.Summary.{Summary}
use Rattle.lists.specs.declared.Keep.TheVariants.{Pasts}
use Rattle.tree.specs.Marked.{marked_all, templates_marked}
use Rattle.tree.specs.laws.Laid.{short, template_has}
use Rattle.links.specs.TreeSteps.{linked_from, FileReady, FileMarked}
use Rattle.owners.specs.Owners.{owner_of}
use Rattle.owners.specs.declared.Owner.{Owner}
use Rattle.machines.specs.Runs.{Memory, Ran, ran, refused_run, start_state, on_tree}
use Rattle.machines.specs.Slots.{slot_at}
use Rattle.machines.specs.Start.{refusal}
use Rattle.machines.specs.Steps.{ran_from}
use Rattle.machines.specs.declared.Run.{Run}
use Rattle.tree_code.specs.Fetch.{linked_program}
use Rattle.tree_machine.specs.laws.Agree.{tree_run_lem}
use Rattle.files.specs.declared.Refusal.{Refusal}
use Rattle.files.specs.Refusal.{refusal as why}

-- ---- a file that is accepted, with its links
pub linked_ran : (o : Owner) (s table L L₀ : List ℕ) (count b start : ℕ) (m : Memory) (r : Ran) → FileReady s table count → tree_accepted s ≡ tree_read s
    → 8 * length s ≤ 5 * length L₀ → L ≡ linked_from L₀ 0 (tree_read s) → start ≡ slot_at table 0 0
    → r ≡ ran_from o (linked_program s L table) b 0 (start_state m.globals start) → r ≡ on_tree o b m (tree_accepted s)
unfolding on_tree linked_from
linked_ran o s table L L₀ count b start m r k good long e i h =
    let c = accepted_checked s k.templates k.past (good ∙ k.read) in
    h ∙ rw (e, i, good, k.read, k.tabled) (tree_run_lem s k.size k.templates k.past c L₀ long o b m.globals)

-- ---- a file s that was judged
module _ (s : List ℕ) (x : Result Summary (Refusal ℕ)) (m : Summary) (asked : x ≡ judged_told (tree_accepted s)) (there : x ≡ Ok m) where
  file : ReadAs (tree_accepted s) m
  file = judged_told_lem (tree_accepted s) (sym asked ∙ there)

  is_read : tree_read s ≡ got file.templates file.past
  is_read = checked_read s _ _ (accepted_checked s _ _ file.is)

  counted : m.count ≡ length file.templates
  unfolding summary_of
  counted = ap (λ (y : Summary). y.count) (sym file.summary)

  pub file_rows_lem : {table : List ℕ} → ZerosFor s table → 256 * m.count ≤ length table
  file_rows_lem z = rw counted (tree_rows_there s is_read z)

  pub file_ready : {table : List ℕ} (table' : List ℕ) → ZerosFor s table → table' ≡ tree_filled s table → FileReady s table' m.count
  file_ready table' z filled = record {
    templates = file.templates;
    past = file.past;
    read = is_read;
    size = z.size;
    tabled = tree_tabled s is_read z filled;
    counted = counted;
  }

  pub file_short : length s ≤ 65536
  file_short = short s is_read

  pub file_good : tree_accepted s ≡ tree_read s
  file_good = file.is ∙ sym is_read

-- what reading left in the links
pub file_marked : (s M L : List ℕ) → 8 * length s ≤ 5 * length M → templates_marked Pasts M L (tree_read s) → FileMarked s L
unfolding templates_marked
file_marked s M L long m ts q e i d h l =
    let is : L ≡ marked_all Pasts M ts = rw e at m in
    rw is (template_has s e i d l Pasts M long).1

pub file_refused : (s : List ℕ) (x : Result Summary (Refusal ℕ)) (o : Owner) (b : ℕ) (m : Memory) (n p : ℕ) (r : Run)
    → x ≡ judged_told (tree_accepted s) → x ≡ Err (why n p) → r ≡ refusal n p
    → ran r m ≡ on_tree o b m (tree_accepted s)
unfolding on_tree refused_run
file_refused s x o b m n p r e h k = rw (k, judged_refused (tree_accepted s) (sym e ∙ h))

-- ---- the owner of that number
pub file_owned : (s : List ℕ) (n : ℕ) (o : Owner) (b : ℕ) (m : Memory) (r : Ran) → o ≡ owner_of n → r ≡ on_tree o b m (tree_accepted s)
    → r ≡ on_tree (owner_of n) b m (tree_accepted s)
file_owned s n o b m r e h = rw e at h
