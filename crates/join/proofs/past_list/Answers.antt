-- `join::past_list` meets its contract: what is read is told, and what is refused was not read. Assumes nothing.
use mathlib.Core.Path.{sym, ◌∙◌}
use Rattle.files.specs.laws.AllGot.{got_value, refused_got}
use Rattle.lists.specs.laws.ReadLaws.{listed_done, listed_refused}
use Rattle.join.proofs.past_list.Goals as goal

pub returns-in-Ok : goal.returns-in-Ok
returns-in-Ok c = λ k q e. let l = listed_done _ _ _ _ _ (sym c.read_list.ensures.value ∙ c.in-Ok.is) in (got_value (sym l.1 ∙ e)).1

pub returns-in-Err : goal.returns-in-Err
returns-in-Err c = λ k q e. let l = listed_refused _ _ _ _ _ (sym c.read_list.ensures.value ∙ c.in-Err.is) in refused_got (sym l ∙ e)
