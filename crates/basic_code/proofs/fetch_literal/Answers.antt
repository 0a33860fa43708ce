-- `basic_code::fetch_literal` meets its contract. Assumes nothing.
use mathlib.Core.Path.{sym, ◌∙◌}
use Rattle.basic_code.specs.Fetch.{SavedFits}
use Rattle.basic_code.specs.laws.FetchSteps.{literal_read, literal_none}
use Rattle.basic_code.proofs.fetch_literal.Goals as goal

pub returns-in-Ok : goal.returns-in-Ok
unfolding SavedFits
returns-in-Ok c = (λ L p v h. literal_read _ L p v _ _ _ h (sym c.read_entry.ensures ∙ c.in-Ok.is), tt)

pub returns-in-Err : goal.returns-in-Err
unfolding SavedFits
returns-in-Err c = (λ L p v h. literal_none _ L p v _ _ h (sym c.read_entry.ensures ∙ c.in-Err.is), tt)
