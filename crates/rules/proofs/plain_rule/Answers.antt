-- `rules::plain_rule` meets its contract: in each arm the instruction is known, and the rule's function gives its equation. Assumes nothing.
use Rattle.rules.specs.Rules.{plain_rule}
use Rattle.rules.specs.Owned.{may_do, owned_rule}
use Rattle.rules.proofs.Laws.{ended}
use Rattle.rules.proofs.plain_rule.Goals as goal

pub returns-in-Literal : goal.returns-in-Literal
unfolding owned_rule may_do plain_rule
returns-in-Literal c =
    let all = ended _ _ _ _ _ c.args.r _ c.in-Literal.is c.requires (c.literal.ensures _) in
    record { store_after = all.0; fits = all.1 }

pub returns-in-Closure : goal.returns-in-Closure
unfolding owned_rule may_do plain_rule
returns-in-Closure c =
    let all = ended _ _ _ _ _ c.args.r _ c.in-Closure.is c.requires (c.closure.ensures _ _) in
    record { store_after = all.0; fits = all.1 }

pub returns-in-Global : goal.returns-in-Global
unfolding owned_rule may_do plain_rule
returns-in-Global c =
    let all = ended _ _ _ _ _ c.args.r _ c.in-Global.is c.requires (c.global.ensures _ _) in
    record { store_after = all.0; fits = all.1 }

pub returns-in-SetGlobal : goal.returns-in-SetGlobal
unfolding owned_rule may_do plain_rule
returns-in-SetGlobal c =
    let all = ended _ _ _ _ _ c.args.r _ c.in-SetGlobal.is c.requires (c.set_global.ensures _ _) in
    record { store_after = all.0; fits = all.1 }

pub returns-in-Local : goal.returns-in-Local
unfolding owned_rule may_do plain_rule
returns-in-Local c =
    let all = ended _ _ _ _ _ c.args.r _ c.in-Local.is c.requires (c.local.ensures _ _) in
    record { store_after = all.0; fits = all.1 }

pub returns-in-SetLocal : goal.returns-in-SetLocal
unfolding owned_rule may_do plain_rule
returns-in-SetLocal c =
    let all = ended _ _ _ _ _ c.args.r _ c.in-SetLocal.is c.requires (c.set_local.ensures _ _) in
    record { store_after = all.0; fits = all.1 }

pub returns-in-Push : goal.returns-in-Push
unfolding owned_rule may_do plain_rule
returns-in-Push c =
    let all = ended _ _ _ _ _ c.args.r _ c.in-Push.is c.requires (c.push.ensures _ _) in
    record { store_after = all.0; fits = all.1 }

pub returns-in-Unspecified : goal.returns-in-Unspecified
unfolding owned_rule may_do plain_rule
returns-in-Unspecified c =
    let all = ended _ _ _ _ _ c.args.r _ c.in-Unspecified.is c.requires (c.literal-in-Unspecified.ensures _) in
    record { store_after = all.0; fits = all.1 }

pub returns-in-MakeEnv : goal.returns-in-MakeEnv
unfolding owned_rule may_do plain_rule
returns-in-MakeEnv c =
    let all = ended _ _ _ _ _ c.args.r _ c.in-MakeEnv.is c.requires (c.make_env.ensures _) in
    record { store_after = all.0; fits = all.1 }

pub returns-in-CheckArgs : goal.returns-in-CheckArgs
unfolding owned_rule may_do plain_rule
returns-in-CheckArgs c =
    let all = ended _ _ _ _ _ c.args.r _ c.in-CheckArgs.is c.requires (c.check_args.ensures _) in
    record { store_after = all.0; fits = all.1 }

pub returns-in-Cons : goal.returns-in-Cons
unfolding owned_rule may_do plain_rule
returns-in-Cons c =
    let all = ended _ _ _ _ _ c.args.r _ c.in-Cons.is c.requires (c.cons.ensures _) in
    record { store_after = all.0; fits = all.1 }

pub returns-in-Car : goal.returns-in-Car
unfolding owned_rule may_do plain_rule
returns-in-Car c =
    let all = ended _ _ _ _ _ c.args.r _ c.in-Car.is c.requires (c.car.ensures _) in
    record { store_after = all.0; fits = all.1 }

pub returns-in-Cdr : goal.returns-in-Cdr
unfolding owned_rule may_do plain_rule
returns-in-Cdr c =
    let all = ended _ _ _ _ _ c.args.r _ c.in-Cdr.is c.requires (c.cdr.ensures _) in
    record { store_after = all.0; fits = all.1 }

pub returns-in-Eqv : goal.returns-in-Eqv
unfolding owned_rule may_do plain_rule
returns-in-Eqv c =
    let all = ended _ _ _ _ _ c.args.r _ c.in-Eqv.is c.requires (c.eqv.ensures _ _) in
    record { store_after = all.0; fits = all.1 }

pub returns-in-Add : goal.returns-in-Add
unfolding owned_rule may_do plain_rule
returns-in-Add c =
    let all = ended _ _ _ _ _ c.args.r _ c.in-Add.is c.requires (c.add.ensures _ _) in
    record { store_after = all.0; fits = all.1 }

pub returns-in-Sub : goal.returns-in-Sub
unfolding owned_rule may_do plain_rule
returns-in-Sub c =
    let all = ended _ _ _ _ _ c.args.r _ c.in-Sub.is c.requires (c.sub.ensures _ _) in
    record { store_after = all.0; fits = all.1 }

pub returns-in-Less : goal.returns-in-Less
unfolding owned_rule may_do plain_rule
returns-in-Less c =
    let all = ended _ _ _ _ _ c.args.r _ c.in-Less.is c.requires (c.less.ensures _ _) in
    record { store_after = all.0; fits = all.1 }

pub returns-in-FloorDiv : goal.returns-in-FloorDiv
unfolding owned_rule may_do plain_rule
returns-in-FloorDiv c =
    let all = ended _ _ _ _ _ c.args.r _ c.in-FloorDiv.is c.requires (c.floor_div.ensures _ _) in
    record { store_after = all.0; fits = all.1 }
