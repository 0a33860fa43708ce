-- `rules::literal` meets its contract. Assumes nothing.
use Rattle.std.specs.Prelude.{refl}
use Rattle.rules.specs.Rules.{literal_rule}
use Rattle.rules.specs.State.{told}
use Rattle.rules.proofs.literal.Goals as goal

pub returns : goal.returns
unfolding told literal_rule
returns c = λ m. refl
