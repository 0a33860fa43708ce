-- Uniqueness (docs/CONTRACTS.md, 'For users'): any two answers that meet the promise of a function for users are equal, and so is what they leave in each
-- lent buffer. The promises are the functions' own: `Reads.Learnt` is what Rattle reads off a contract's `ensures`, over the arguments, the answer and
-- the arguments at exit, `Kinds` the types of these. Each is an equation with a definition of the arguments, so one law gives all. A promise that
-- left something open would not be one, and its line below would not be proved. A function for users that is added gets a line here. Assumes nothing.
use Rattle.std.specs.Prelude.{ℕ, ◌≡◌, List, Result}
use Rattle.std.proofs.Common.{sym, ◌∙◌}
use contract.Lifetimes.{Lfts}
use denote.Triple.Clauses.{AtExit}
use borrow.Fn.Kinds.{ParamKind, ResultKind, Out, Dens, res_t, ended_of}
use Rattle.machines.specs.Runs.{memory, ran}
use Rattle.exporter.specs.Exporter.{exported}
use Rattle.tree.proofs.check_tree.Kinds as check-tree
use Rattle.tree.proofs.check_tree.Reads as check-tree-reads
use Rattle.linear.proofs.check_linear.Kinds as check-linear
use Rattle.linear.proofs.check_linear.Reads as check-linear-reads
use Rattle.flatten.proofs.flatten.Kinds as flatten
use Rattle.flatten.proofs.flatten.Reads as flatten-reads
use Rattle.lines.proofs.program.Kinds as program
use Rattle.lines.proofs.program.Reads as program-reads
use Rattle.tree_machine.proofs.run_tree.Kinds as run-tree
use Rattle.tree_machine.proofs.run_tree.Reads as run-tree-reads
use Rattle.linear_machine.proofs.run_linear.Kinds as run-linear
use Rattle.linear_machine.proofs.run_linear.Reads as run-linear-reads
use Rattle.basic_machine.proofs.run_basic.Kinds as run-basic
use Rattle.basic_machine.proofs.run_basic.Reads as run-basic-reads
use Rattle.pull.proofs.pull_list.Kinds as pull-list
use Rattle.pull.proofs.pull_list.Reads as pull-list-reads
use Rattle.exporter.proofs.exporter_pull_list.Kinds as exporter-pull-list
use Rattle.exporter.proofs.exporter_pull_list.Reads as exporter-pull-list-reads
use Rattle.join.proofs.theorems.GroupingsLaws.{JoinPromise}
use Rattle.join.proofs.join.Kinds as join
use Rattle.join.proofs.join.Reads as join-reads
use Rattle.exporter.proofs.exporter_join.Kinds as exporter-join
use Rattle.exporter.proofs.exporter_join.Reads as exporter-join-reads
use Rattle.trim.proofs.trim.Kinds as trim
use Rattle.trim.proofs.trim.Reads as trim-reads
use Rattle.exporter.proofs.exporter_trim.Kinds as exporter-trim
use Rattle.exporter.proofs.exporter_trim.Reads as exporter-trim-reads
use Rattle.tabulate.proofs.tabulate.Kinds as tabulate
use Rattle.tabulate.proofs.tabulate.Reads as tabulate-reads
use Rattle.exporter.proofs.exporter_tabulate.Kinds as exporter-tabulate
use Rattle.exporter.proofs.exporter_tabulate.Reads as exporter-tabulate-reads
use Rattle.unflatten.proofs.back.Kinds as back
use Rattle.unflatten.proofs.back.Reads as back-reads
use Rattle.exporter.proofs.exporter_back.Kinds as exporter-back
use Rattle.exporter.proofs.exporter_back.Reads as exporter-back-reads
use Rattle.exporter.proofs.exporter_flatten.Kinds as exporter-flatten
use Rattle.exporter.proofs.exporter_flatten.Reads as exporter-flatten-reads
use Rattle.exporter.proofs.exporter_run_tree.Kinds as exporter-run-tree
use Rattle.exporter.proofs.exporter_run_tree.Reads as exporter-run-tree-reads
use Rattle.exporter.proofs.exporter_run_linear.Kinds as exporter-run-linear
use Rattle.exporter.proofs.exporter_run_linear.Reads as exporter-run-linear-reads
use Rattle.exporter.proofs.exporter_run_basic.Kinds as exporter-run-basic
use Rattle.exporter.proofs.exporter_run_basic.Reads as exporter-run-basic-reads
use Rattle.files.specs.declared.Refusal.{Refusal}

-- THE LAW
pub fixed : {A : Type 0} {d x y : A} → x ≡ d → y ≡ d → x ≡ y
fixed e f = e ∙ sym f

-- The promise P fixes all that is answered and left: x and y are answered to the arguments a, which are e and f at exit; what of them is to be told
-- is told by `left`. n, ps and r are the function's lifetimes, parameters and result.
abbrev pub Only : (n : ℕ) (ps : List (ParamKind n)) (r : ResultKind n) → Out n ps r → {B : Type 0}
    → ((κs : Lfts n) → (res_t r κs).Denot → AtExit (ended_of n ps r) κs → B) → Type 0
Only n ps r P left =
    (κs : Lfts n) (a : Dens κs ps) (x y : (res_t r κs).Denot) (e f : AtExit (ended_of n ps r) κs) → P κs a x e → P κs a y f → left κs x e ≡ left κs y f

-- tree::check_tree(s): its answer
pub check_tree_only : Only 1 check-tree.ps check-tree.r check-tree-reads.Learnt
    (λ κs x e. x)
check_tree_only κs a x y e f p q = fixed p q

-- linear::check_linear(s): its answer
pub check_linear_only : Only 1 check-linear.ps check-linear.r check-linear-reads.Learnt
    (λ κs x e. x)
check_linear_only κs a x y e f p q = fixed p q

-- flatten::flatten(s, out): its answer, and out
pub flatten_only : Only 2 flatten.ps flatten.r flatten-reads.Learnt {B = Result ℕ (Refusal ℕ) × List ℕ}
    (λ κs x e. (x, e.1.0.now))
flatten_only κs a x y e f p q = (λ i. (fixed p.0 q.0 i, fixed p.1 q.1 i))

-- lines::program(sheet, out): its answer, and out
pub program_only : Only 2 program.ps program.r program-reads.Learnt {B = Result ℕ (Refusal ℕ) × List ℕ}
    (λ κs x e. (x, e.1.0.now))
program_only κs a x y e f p q = (λ i. (fixed p.0 q.0 i, fixed p.1 q.1 i))

-- tree_machine::run_tree(file, budget, owner, globals, stack, store, frames): the run, and the four slices (`run_of` and `left_of` take `ran` apart)
pub run_tree_only : Only 5 run-tree.ps run-tree.r run-tree-reads.Learnt
    (λ κs x e. ran x (memory e.1.1.1.0.now e.1.1.1.1.0.now e.1.1.1.1.1.0.now e.1.1.1.1.1.1.0.now))
run_tree_only κs a x y e f p q = fixed p q

-- linear_machine::run_linear(the same)
pub run_linear_only : Only 5 run-linear.ps run-linear.r run-linear-reads.Learnt
    (λ κs x e. ran x (memory e.1.1.1.0.now e.1.1.1.1.0.now e.1.1.1.1.1.0.now e.1.1.1.1.1.1.0.now))
run_linear_only κs a x y e f p q = fixed p q

-- basic_machine::run_basic(the same)
pub run_basic_only : Only 5 run-basic.ps run-basic.r run-basic-reads.Learnt
    (λ κs x e. ran x (memory e.1.1.1.0.now e.1.1.1.1.0.now e.1.1.1.1.1.0.now e.1.1.1.1.1.1.0.now))
run_basic_only κs a x y e f p q = fixed p q

-- exporter::exporter_flatten(file, out, result): out and result
pub exporter_flatten_only : Only 3 exporter-flatten.ps exporter-flatten.r exporter-flatten-reads.Learnt {B = List ℕ × List ℕ}
    (λ κs x e. (e.1.0.now, e.1.1.0.now))
exporter_flatten_only κs a x y e f p q = (λ i. (fixed p.0 q.0 i, fixed p.1 q.1 i))

-- exporter::exporter_run_tree(file, budget, owner, the four slices, result): the slices and result
pub exporter_run_tree_only : Only 6 exporter-run-tree.ps exporter-run-tree.r exporter-run-tree-reads.Learnt
    (λ κs x e. exported (memory e.1.1.1.0.now e.1.1.1.1.0.now e.1.1.1.1.1.0.now e.1.1.1.1.1.1.0.now)
    e.1.1.1.1.1.1.1.0.now)
exporter_run_tree_only κs a x y e f p q = fixed p q

-- exporter::exporter_run_linear(the same)
pub exporter_run_linear_only : Only 6 exporter-run-linear.ps exporter-run-linear.r exporter-run-linear-reads.Learnt
    (λ κs x e. exported (memory e.1.1.1.0.now e.1.1.1.1.0.now e.1.1.1.1.1.0.now e.1.1.1.1.1.1.0.now)
    e.1.1.1.1.1.1.1.0.now)
exporter_run_linear_only κs a x y e f p q = fixed p q

-- exporter::exporter_run_basic(the same)
pub exporter_run_basic_only : Only 6 exporter-run-basic.ps exporter-run-basic.r exporter-run-basic-reads.Learnt
    (λ κs x e. exported (memory e.1.1.1.0.now e.1.1.1.1.0.now e.1.1.1.1.1.0.now e.1.1.1.1.1.1.0.now)
    e.1.1.1.1.1.1.1.0.now)
exporter_run_basic_only κs a x y e f p q = fixed p q

-- pull::pull_list(clips, file, budget, list): its answer, and list
pub pull_list_only : Only 3 pull-list.ps pull-list.r pull-list-reads.Learnt {B = Result ℕ (Refusal ℕ) × List ℕ}
    (λ κs x e. (x, e.1.1.1.0.now))
pull_list_only κs a x y e f p q = (λ i. (fixed p.0 q.0 i, fixed p.1.0 q.1.0 i))

-- exporter::exporter_pull_list(clips, file, budget, list, result): list and result
pub exporter_pull_list_only : Only 4 exporter-pull-list.ps exporter-pull-list.r exporter-pull-list-reads.Learnt {B = List ℕ × List ℕ}
    (λ κs x e. (e.1.1.1.0.now, e.1.1.1.1.0.now))
exporter_pull_list_only κs a x y e f p q = (λ i. (fixed p.0 q.0 i, fixed p.1 q.1 i))

-- unflatten::back(s, out): its answer, and out
pub back_only : Only 2 back.ps back.r back-reads.Learnt {B = Result ℕ (Refusal ℕ) × List ℕ}
    (λ κs x e. (x, e.1.0.now))
back_only κs a x y e f p q = (λ i. (fixed p.0 q.0 i, fixed p.1 q.1 i))

-- exporter::exporter_back(file, out, result): out and result
pub exporter_back_only : Only 3 exporter-back.ps exporter-back.r exporter-back-reads.Learnt {B = List ℕ × List ℕ}
    (λ κs x e. (e.1.0.now, e.1.1.0.now))
exporter_back_only κs a x y e f p q = (λ i. (fixed p.0 q.0 i, fixed p.1 q.1 i))

-- tabulate::tabulate(basic, out): its answer, and out
pub tabulate_only : Only 2 tabulate.ps tabulate.r tabulate-reads.Learnt {B = Result ℕ (Refusal ℕ) × List ℕ}
    (λ κs x e. (x, e.1.0.now))
tabulate_only κs a x y e f p q = (λ i. (fixed p.0 q.0 i, fixed p.1 q.1 i))

-- exporter::exporter_tabulate(basic, out, result): out and result
pub exporter_tabulate_only : Only 3 exporter-tabulate.ps exporter-tabulate.r exporter-tabulate-reads.Learnt {B = List ℕ × List ℕ}
    (λ κs x e. (e.1.0.now, e.1.1.0.now))
exporter_tabulate_only κs a x y e f p q = (λ i. (fixed p.0 q.0 i, fixed p.1 q.1 i))

-- join::join(prologue, file, out): its answer, and out
pub join_only : Only 3 join.ps join.r join-reads.Learnt {B = Result ℕ (Refusal ℕ) × List ℕ}
    (λ κs x e. (x, e.1.1.0.now))
join_only κs a x y e f p q = (λ i. (fixed p.0 q.0 i, fixed p.1 q.1 i))

-- and it is what join/specs/laws/GroupingsLaws takes for the promise of join, where both groupings of request 11 agree
pub join_promised : (κs : Lfts 3) (a : Dens κs join.ps) (x : (res_t join.r κs).Denot) (e : AtExit (ended_of 3 join.ps join.r) κs) → join-reads.Learnt κs a x e
    → JoinPromise a.0.now a.1.0.now a.1.1.0.now x e.1.1.0.now
join_promised κs a x e p = record { answer = p.0; output = p.1 }

-- exporter::exporter_join(prologue, file, out, result): out and result
pub exporter_join_only : Only 4 exporter-join.ps exporter-join.r exporter-join-reads.Learnt {B = List ℕ × List ℕ}
    (λ κs x e. (e.1.1.0.now, e.1.1.1.0.now))
exporter_join_only κs a x y e f p q = (λ i. (fixed p.0 q.0 i, fixed p.1 q.1 i))

-- trim::trim(file, out, list): its answer, out and list
pub trim_only : Only 3 trim.ps trim.r trim-reads.Learnt {B = Result (ℕ × ℕ) (Refusal ℕ) × (List ℕ × List ℕ)}
    (λ κs x e. (x, (e.1.0.now, e.1.1.0.now)))
trim_only κs a x y e f p q = (λ i. (fixed p.0 q.0 i, (fixed p.1.0 q.1.0 i, fixed p.1.1 q.1.1 i)))

-- exporter::exporter_trim(file, out, list, result): out, list and result
pub exporter_trim_only : Only 4 exporter-trim.ps exporter-trim.r exporter-trim-reads.Learnt {B = List ℕ × (List ℕ × List ℕ)}
    (λ κs x e. (e.1.0.now, (e.1.1.0.now, e.1.1.1.0.now)))
exporter_trim_only κs a x y e f p q = (λ i. (fixed p.0 q.0 i, (fixed p.1.0 q.1.0 i, fixed p.1.1 q.1.1 i)))
