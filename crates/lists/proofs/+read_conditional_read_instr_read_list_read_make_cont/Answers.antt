-- The cycle of calls {read_conditional, read_instr, read_list, read_make_cont}: levels fall where an instruction's lists are read; within
-- a list unread bits fall. Assumes nothing.
use Prim.Native.Nat.{ℕ}
use Prim.Native.Nat.{◌+◌, ◌*◌, ◌/◌, ◌≤◌}
use native.Mathlib.Omega.{arith}
use mathlib.Core.Path.{◌≡◌, refl, sym, ap, ◌∙◌}
use lib.ListN.{length}
use Rattle.files.specs.Codes.{shape_of}
use Rattle.files.specs.Reading.{shaped, head_at, deep_of, list_at}
use Rattle.files.specs.laws.Heads.{code_cut, code_read, no_code, first_arm_refused, second_arm_refused, conditional_read, count_cut, saved_refused, make_cont_read}
use Rattle.lists.specs.Facts.{listed}
use Rattle.lists.specs.Shapes.{Numbered}
use Rattle.lists.specs.Pass.{added_by, begun, listed_from, itemed, simple_at, run_after}
use Rattle.fields.specs.laws.Laws.{value_of, cut}
use Rattle.fields.specs.Field.{field_read}
use borrow.Author.Tests.{leb-true, leb-false}
use Rattle.lists.specs.Marks.{list_marked, head_marked}
use Rattle.lists.specs.laws.MarkSteps.{simple_marked, code_marked, arms_marked, saved_marked, marking_begun, marking_more, marking_end, list_marked_lem, listed_near}
use Rattle.lists.specs.laws.PassLaws.{listed_begun}
use Rattle.lists.specs.laws.RunLaws.{run_listed, run_marking, run_bits, run_sizes}
use Rattle.lists.specs.laws.ReadLaws.{line_read, simple_anywhere, deep_anywhere, deep_last, listed_done, listed_refused, listed_size, turn_end, turn_more, turn_bad, turn_bits, tail_size}
use Rattle.lists.proofs.+read_conditional_read_instr_read_list_read_make_cont.Goals as goal
use Rattle.lists.proofs.+read_conditional_read_instr_read_list_read_make_cont.Goals.{read_instr-After-past-next, read_instr-After-shape_by_words, read_list-After-run_after-so_far}
use Rattle.std.specs.Prelude.{Some, Ok, Err}
use Rattle.lists.specs.declared.Facts.{Facts}
use Rattle.files.specs.laws.EntriesSteps.{told_some, told_none}
use Rattle.files.specs.laws.RefusalLaws.{handed_on}

-- the code is read, and the instruction by its shape
code_there : (t : ℕ) (k : read_instr-After-past-next t) →
    field_read k.args.s.now k.args.at.0 5 ≡ Some (k.line_at-line.result / 65536, k.past-next.result)
code_there t k =
    line_read _ _ _ k.line_at-line.ensures.0 (leb-true _ _ (sym k.within.ensures ∙ k.if-not-within.false)) _
    k.past-next.ensures

at_code : (t : ℕ) (k : read_instr-After-shape_by_words t) (n : ℕ) → shape_of (k.line_at-line.result / 65536) ≡ n →
    head_at k.args.s.now (deep_of k.args.s.now k.args.levels) k.args.at.0
    ≡ shaped k.args.s.now (deep_of k.args.s.now k.args.levels) k.args.at.0 (k.line_at-line.result / 65536) k.past-next.result.0 n
at_code t k n =
    code_read _ _ _ _ _ _ (line_read _ _ _ k.line_at-line.ensures.0 (leb-true _ _ (sym k.within.ensures ∙ k.if-not-within.false)) _ k.past-next.ensures)

-- past a run of neutral instructions
read_list_so_far : (t : ℕ) (k : read_list-After-run_after-so_far t) →
    listed k.args.table.now k.args.own (list_at k.args.s.now k.args.levels k.args.at.0)
    ≡ listed_from k.args.table.now k.args.own k.run_after-so_far.result (list_at k.args.s.now k.args.levels k.read_run-run.result.past.0)
read_list_so_far t k =
    k.loop-next.invariant.0 ∙ run_listed _ _ _ _ k.read_run-run.ensures _ _ ∙ rw k.run_after-so_far.ensures refl

read_list_sizes : (t : ℕ) (k : read_list-After-run_after-so_far t) →
    let st = k.run_after-so_far.result in
    (5 * st.size ≤ 2 * k.read_run-run.result.past.0) × (5 * st.size ≤ 16 * length k.args.s.now) × (st.tail ≤ st.size)
read_list_sizes t k =
    let inv = k.loop-next.invariant in
    rw k.run_after-so_far.ensures (run_sizes _ _ _ _ _ _ _ k.read_run-run.ensures _ inv.1 inv.5 inv.2)

pub read_instr-returns-then-not-within : goal.read_instr-returns-then-not-within
unfolding itemed head_marked
read_instr-returns-then-not-within t c = rw (code_cut _ _ _ (sym (cut _ _ 5 (leb-false _ _ (sym c.within.ensures ∙ c.if-not-within.true))))) (record { value = refl; head_marked = tt })

pub read_instr-line_at-line-requires : goal.read_instr-line_at-line-requires
read_instr-line_at-line-requires t c =
    let here : c.args.at.0 + 5 ≤ 8 * length c.args.s.now = leb-true _ _ (sym c.within.ensures ∙ c.if-not-within.false) in
    (omega (arith, c.requires.0), omega (arith, here))

pub read_instr-shape_by_words-requires : goal.read_instr-shape_by_words-requires
read_instr-shape_by_words-requires t c = omega (arith, c.line_at-line.ensures.1)

pub read_instr-read_simple-requires : goal.read_instr-read_simple-requires
unfolding Numbered
read_instr-read_simple-requires t c =
    let here = leb-true _ _ (sym c.within.ensures ∙ c.if-not-within.false) in
    let shape = rw c.in-Plain.is at c.shape_by_words.ensures in
    (c.requires.0, c.requires.1, c.requires.2, c.line_at-line.ensures.0, here, shape.0, shape.1)

pub read_instr-returns-in-End : goal.read_instr-returns-in-End
unfolding itemed shaped head_marked Numbered
read_instr-returns-in-End t c =
    rw (at_code t (goal.at.read_instr-returns-in-End t c).After-shape_by_words _ (rw c.in-End.is at c.shape_by_words.ensures))
    (record { value = refl; head_marked = refl })

pub read_instr-returns-in-Plain : goal.read_instr-returns-in-Plain
unfolding Numbered
read_instr-returns-in-Plain t c =
    let shape = rw c.in-Plain.is at c.shape_by_words.ensures in
    let e = at_code t (goal.at.read_instr-returns-in-Plain t c).After-shape_by_words _ shape.0 ∙ simple_anywhere _ _ _ _ _ _ (omega arith) (omega (arith, shape.1)) in
    let m = ap (λ (x : ℕ). simple_at c.args.s.now (c.line_at-line.result / 65536) x (1 + c.in-Plain.operands)) c.past-next.ensures in
    record {
      value = c.read_simple.ensures ∙ ap (itemed _ _) (sym (e ∙ m));
      head_marked = rw e (simple_marked _ _ _ _ _ _ _ (omega arith) (omega (arith, shape.1)));
    }

pub read_instr-returns-in-Branch : goal.read_instr-returns-in-Branch
unfolding Numbered
read_instr-returns-in-Branch t c =
    let place = (goal.at.read_instr-returns-in-Branch t c).After-shape_by_words in
    let e = at_code t place _ (rw c.in-Branch.is at c.shape_by_words.ensures) ∙ deep_anywhere _ _ _ _ _ _ (λ x. omega arith) (omega arith) (omega arith) in
    record {
      value = c.read_conditional.ensures.value ∙ ap (itemed _ _) (sym e);
      head_marked = code_marked _ _ _ _ _ _ _ (code_there t (goal.at.read_instr-returns-in-Branch t c).After-past-next) e c.read_conditional.ensures.head_marked;
    }

pub read_instr-returns-in-Save : goal.read_instr-returns-in-Save
unfolding Numbered
read_instr-returns-in-Save t c =
    let place = (goal.at.read_instr-returns-in-Save t c).After-shape_by_words in
    let e = at_code t place _ (rw c.in-Save.is at c.shape_by_words.ensures) ∙ deep_anywhere _ _ _ _ _ _ (λ x. omega arith) (omega arith) (omega arith) in
    record {
      value = c.read_make_cont.ensures.value ∙ ap (itemed _ _) (sym e);
      head_marked = code_marked _ _ _ _ _ _ _ (code_there t (goal.at.read_instr-returns-in-Save t c).After-past-next) e c.read_make_cont.ensures.head_marked;
    }

pub read_instr-returns-in-Branch-2 : goal.read_instr-returns-in-Branch-2
unfolding itemed head_marked Numbered
read_instr-returns-in-Branch-2 t c =
    rw (at_code t (goal.at.read_instr-returns-in-Branch-2 t c).After-shape_by_words _ (rw c.in-Branch.is at c.shape_by_words.ensures)
    ∙ deep_last _ _ _ _ _ _ (omega (arith, c.if-levels-gt0.false)) (omega arith) (omega arith))
    (record { value = refl; head_marked = tt })

pub read_instr-returns-in-Branch-2-2 : goal.read_instr-returns-in-Branch-2-2
unfolding itemed head_marked Numbered
read_instr-returns-in-Branch-2-2 t c =
    rw (at_code t (goal.at.read_instr-returns-in-Branch-2-2 t c).After-shape_by_words _ (rw c.in-Save.is at c.shape_by_words.ensures)
    ∙ deep_last _ _ _ _ _ _ (omega (arith, c.if-levels-gt0-2.false)) (omega arith) (omega arith))
    (record { value = refl; head_marked = tt })

pub read_instr-returns-in-NoCode : goal.read_instr-returns-in-NoCode
unfolding itemed head_marked Numbered
read_instr-returns-in-NoCode t c =
    rw (at_code t (goal.at.read_instr-returns-in-NoCode t c).After-shape_by_words _ refl ∙ no_code _ _ _ _ _ _ (rw c.in-NoCode.is at c.shape_by_words.ensures))
    (record { value = refl; head_marked = tt })

pub read_list-loop-next-init : goal.read_list-loop-next-init
unfolding begun
read_list-loop-next-init t c = rw c.begin-st.ensures (listed_begun _ _ _, omega arith, omega arith, marking_begun _ _ _ _ _, refl, omega arith)

pub read_list-run_after-so_far-requires : goal.read_list-run_after-so_far-requires
unfolding run_after
read_list-run_after-so_far-requires t c =
    let inv = c.loop-next.invariant in
    let w = run_sizes _ _ _ _ _ _ _ c.read_run-run.ensures c.loop-next.st inv.1 inv.5 inv.2 in
    (omega (arith, w.1, c.requires.0), inv.2)

pub read_list-mark_of-requires : goal.read_list-mark_of-requires
read_list-mark_of-requires t c =
    let e = read_list_so_far t (goal.at.read_list-mark_of-requires t c).After-run_after-so_far ∙ turn_end _ _ _ _ _ _ _ (sym c.read_instr.ensures.value ∙ c.in_ok-next.was ∙ ap Ok c.in-End.is) ∙ ap (λ (f : Facts). Ok (c.in-End.next, f)) (sym c.finished-facts.ensures) in
    listed_near _ _ _ _ _ _ _ c.requires.0 e

pub read_list-shape_of-marks-in-End : goal.read_list-shape_of-marks-in-End
read_list-shape_of-marks-in-End t c = c.set_mark.auto.marks ∙ c.read_instr.auto.marks ∙ c.loop-next.invariant.4

pub read_list-returns-in-End : goal.read_list-returns-in-End
read_list-returns-in-End t c =
    let e = read_list_so_far t (goal.at.read_list-returns-in-End t c).After-run_after-so_far ∙ turn_end _ _ _ _ _ _ _ (sym c.read_instr.ensures.value ∙ c.in_ok-next.was ∙ ap Ok c.in-End.is) ∙ ap (λ (f : Facts). Ok (c.in-End.next, f)) (sym c.finished-facts.ensures) in record {
      value = sym e;
      list_marked = list_marked_lem _ _ _ _ _ _ _ _ _ _ _ _
          (marking_end _ _ _ _ _ _ _ (run_marking _ _ _ _ c.read_run-run.ensures _ _ _ _ _ c.loop-next.invariant.3) _ _
          (sym c.read_instr.ensures.value ∙ c.in_ok-next.was ∙ ap Ok c.in-End.is) c.read_instr.ensures.head_marked) e c.mark_of.ensures c.set_mark.ensures;
    }

pub read_list-state_after-st-requires : goal.read_list-state_after-st-requires
read_list-state_after-st-requires t c =
    let w = turn_bits _ _ _ _ _ _ _ (sym c.read_instr.ensures.value ∙ c.in_ok-next.was ∙ ap Ok c.in-More.is) in
    let z = read_list_sizes t (goal.at.read_list-state_after-st-requires t c).After-run_after-so_far in
    (omega (arith, w, z.0, c.requires.0), z.2)

pub read_list-loop-next-smaller : goal.read_list-loop-next-smaller
read_list-loop-next-smaller t c =
    let w = turn_bits _ _ _ _ _ _ _ (sym c.read_instr.ensures.value ∙ c.in_ok-next.was ∙ ap Ok c.in-More.is) in
    let b = run_bits _ _ _ _ c.read_run-run.ensures in
    omega (arith, w, b.0)

pub read_list-loop-next-preserved : goal.read_list-loop-next-preserved
read_list-loop-next-preserved t c =
    let is = sym c.read_instr.ensures.value ∙ c.in_ok-next.was ∙ ap Ok c.in-More.is in
    let w = turn_bits _ _ _ _ _ _ _ is in
    let y = read_list_sizes t (goal.at.read_list-loop-next-preserved t c).After-run_after-so_far in
    let z = tail_size c.run_after-so_far.result c.in-More.more y.2 in
    rw c.state_after-st.ensures (
      read_list_so_far t (goal.at.read_list-loop-next-preserved t c).After-run_after-so_far ∙ turn_more _ _ _ _ _ _ _ _ is,
      omega (arith, w, y.0, z.1),
      z.0,
      marking_more _ _ _ _ _ _ _ (run_marking _ _ _ _ c.read_run-run.ensures _ _ _ _ _ c.loop-next.invariant.3) _ _ _ is c.read_instr.ensures.head_marked,
      c.read_instr.auto.marks ∙ c.loop-next.invariant.4,
      omega (arith, w, y.0, z.1),
    )

-- ---- an instruction with lists: each is read, or its refusal is handed on
pub read_conditional-returns-in_err-mid : goal.read_conditional-returns-in_err-mid
unfolding itemed head_marked
read_conditional-returns-in_err-mid t c =
    rw (first_arm_refused _ _ _ _ _ _ _ (listed_refused _ _ _ _ _ (sym c.read_list.ensures.value ∙ c.in_err-mid.was)))
    (record { value = handed_on c.from_residual.ensures; head_marked = tt })

pub read_conditional-returns-in_err-last : goal.read_conditional-returns-in_err-last
unfolding itemed head_marked
read_conditional-returns-in_err-last t c =
    let x = listed_done _ _ _ _ _ (sym c.read_list.ensures.value ∙ c.in_ok-mid.was) in
    rw (second_arm_refused _ _ _ _ _ _ _ _ _ x.1 (listed_refused _ _ _ _ _ (sym c.read_list-2.ensures.value ∙ c.in_err-last.was)))
    (record { value = handed_on c.from_residual-in_err-last.ensures; head_marked = tt })

pub read_conditional-conditional_added-requires : goal.read_conditional-conditional_added-requires
read_conditional-conditional_added-requires t c = (
  listed_size _ _ _ _ _ _ _ c.requires.0 (sym c.read_list.ensures.value ∙ c.in_ok-mid.was),
  listed_size _ _ _ _ _ _ _ c.requires.0 (sym c.read_list-2.ensures.value ∙ c.in_ok-last.was),
)

pub read_conditional-returns : goal.read_conditional-returns
unfolding itemed added_by
read_conditional-returns t c =
    let x = listed_done _ _ _ _ _ (sym c.read_list.ensures.value ∙ c.in_ok-mid.was) in
    let y = listed_done _ _ _ _ _ (sym c.read_list-2.ensures.value ∙ c.in_ok-last.was) in
    record {
      value = rw (conditional_read _ _ _ _ _ _ _ _ _ x.1 y.1, c.conditional_added.ensures, x.2, y.2) refl;
      head_marked = arms_marked _ _ _ _ _ _ _ _ _ _ _ x.1 y.1 c.read_list.ensures.list_marked c.read_list-2.ensures.list_marked;
    }

pub read_make_cont-returns-in_err-saved : goal.read_make_cont-returns-in_err-saved
unfolding itemed head_marked
read_make_cont-returns-in_err-saved t c =
    let cut = told_none _ _ _ c.read_field.ensures c.in_err-saved.was in
    rw (count_cut _ _ _ _ _ cut.0) (record { value = handed_on c.from_residual.ensures ∙ ap Err cut.1; head_marked = tt })

pub read_make_cont-returns-in_err-last : goal.read_make_cont-returns-in_err-last
unfolding itemed head_marked
read_make_cont-returns-in_err-last t c =
    rw (saved_refused _ _ _ _ _ _ _ _ _ (told_some _ _ _ c.read_field.ensures c.in_ok-saved.was)
    (listed_refused _ _ _ _ _ (sym c.read_list.ensures.value ∙ c.in_err-last.was)))
    (record { value = handed_on c.from_residual-in_err-last.ensures; head_marked = tt })

pub read_make_cont-save_added-requires : goal.read_make_cont-save_added-requires
read_make_cont-save_added-requires t c = listed_size _ _ _ _ _ _ _ c.requires.0 (sym c.read_list.ensures.value ∙ c.in_ok-last.was)

pub read_make_cont-returns : goal.read_make_cont-returns
unfolding itemed added_by
read_make_cont-returns t c =
    let x = listed_done _ _ _ _ _ (sym c.read_list.ensures.value ∙ c.in_ok-last.was) in
    let n = told_some _ _ _ c.read_field.ensures c.in_ok-saved.was in
    record {
      value = rw (make_cont_read _ _ _ _ _ _ _ _ _ n x.1, c.save_added.ensures, x.2) refl;
      head_marked = saved_marked _ _ _ _ _ _ _ _ _ _ n (value_of _ _ _ _ _ n).1.0 x.1 c.read_list.ensures.list_marked;
    }

-- ---- a list: a refusal in it is handed on
pub read_list-returns-in_err-next : goal.read_list-returns-in_err-next
unfolding list_marked
read_list-returns-in_err-next t c =
    let e = read_list_so_far t (goal.at.read_list-returns-in_err-next t c).After-run_after-so_far ∙ turn_bad _ _ _ _ _ _ _ _ (sym c.read_instr.ensures.value ∙ c.in_err-next.was) in
    record { value = handed_on c.from_residual.ensures ∙ sym e; list_marked = rw (listed_refused _ _ _ _ _ e) tt }
