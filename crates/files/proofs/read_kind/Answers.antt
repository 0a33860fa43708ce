-- `files::read_kind` meets its contract: each kind and each test leads to its case of `kind_at`. Assumes nothing.
use native.Mathlib.Omega.{arith}
use mathlib.Core.Path.{◌∙◌}
use borrow.Author.Rules.{rules}
use Rattle.files.specs.laws.RefusalLaws.{handed_on}
use Rattle.files.specs.laws.EntriesSteps.{told_field, told_cut, told_within, constant_cut, constant_read, global_cut, global_read, template_cut, template_low, template_high, template_read, bad_kind}
use Rattle.files.proofs.read_kind.Goals as goal

pub returns-in_err-t-in-1 : goal.returns-in_err-t-in-1
returns-in_err-t-in-1 c = handed_on c.from_residual.ensures ∙ constant_cut _ _ _ _ _ _ c.in-1.is (told_cut _ _ _ c.read_field.ensures c.in_err-t-in-1.was)

pub read_constant-requires : goal.read_constant-requires
read_constant-requires c = (search rules, told_within _ _ _ c.read_field.ensures c.in_ok-t-in-1.was)

pub returns-in_err-g-in-2 : goal.returns-in_err-g-in-2
returns-in_err-g-in-2 c = handed_on c.from_residual-in_err-g-in-2.ensures ∙ global_cut _ _ _ _ _ _ c.in-2.is (told_cut _ _ _ c.read_field-in-2.ensures c.in_err-g-in-2.was)

pub returns-in_err-t-in-3 : goal.returns-in_err-t-in-3
returns-in_err-t-in-3 c = handed_on c.from_residual-in_err-t-in-3.ensures ∙ template_cut _ _ _ _ _ _ c.in-3.is (told_cut _ _ _ c.read_field-in-3.ensures c.in_err-t-in-3.was)

pub returns-then-t-own : goal.returns-then-t-own
returns-then-t-own c = template_low _ _ _ _ _ _ c.in-3.is (told_field _ _ _ c.read_field-in-3.ensures c.in_ok-t-in-3.was) (omega arith)

pub returns-then-count-t : goal.returns-then-count-t
returns-then-count-t c = template_high _ _ _ _ _ _ c.in-3.is (told_field _ _ _ c.read_field-in-3.ensures c.in_ok-t-in-3.was) (omega arith) (omega arith)

pub returns-in_ok-t-in-1 : goal.returns-in_ok-t-in-1
returns-in_ok-t-in-1 c = c.read_constant.ensures ∙ constant_read _ _ _ _ _ _ c.in-1.is (told_field _ _ _ c.read_field.ensures c.in_ok-t-in-1.was)

pub returns-in_ok-g-in-2 : goal.returns-in_ok-g-in-2
returns-in_ok-g-in-2 c = global_read _ _ _ _ _ _ c.in-2.is (told_field _ _ _ c.read_field-in-2.ensures c.in_ok-g-in-2.was)

pub returns-else-count-t : goal.returns-else-count-t
returns-else-count-t c = template_read _ _ _ _ _ _ c.in-3.is (told_field _ _ _ c.read_field-in-3.ensures c.in_ok-t-in-3.was) (omega arith) (omega arith)

pub returns-in_default : goal.returns-in_default
returns-in_default c = bad_kind _ _ _ _ _ _ c.requires.1 c.in_default.in_default-own.rest.0.0.1 c.in_default.in_default-own.rest.0.1 c.in_default.in_default-own.rest.1
