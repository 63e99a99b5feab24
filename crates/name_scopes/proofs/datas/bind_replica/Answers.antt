use Rattle.std.proofs.Common.{Global, Vec, ap, reverse, sym, ◌++◌, ◌∙◌, arith}
use Rattle.std.proofs.lemmas.Result.{IfOk-weaker}
use Rattle.std.specs.Prelude.{option_map}
use Rattle.name_scopes.specs.declared.bound.Bound.{Bound}
use Rattle.name_scopes.proofs.Declaring.{none-replicated, replica-brought}
use Rattle.name_scopes.proofs.Qualified.{long-tycon-none}
use Rattle.name_scopes.proofs.datas.bind_replica.Goals as goal

pub returns-then-len-gt0 : goal.returns-then-len-gt0
returns-then-len-gt0 c =
    let y = c.args.long.now.long in
    none-replicated c.args.scope.now c.args.name y.qualifiers.items y.id (λ e h. long-tycon-none c.args.scope.now e y.qualifiers.items y.id h (omega arith))

pub returns-in_ok-bind_all-in-Some : goal.returns-in_ok-bind_all-in-Some
returns-in_ok-bind_all-in-Some c =
    let y = c.args.long.now.long in
    let cs = c.in-Some.constructors.items in
    let found = ap (option_map (λ (v : Vec Bound Global). reverse v.items)) (sym c.in-Some.is) ∙ c.in_ok-constructors.ensures in
    let front = c.in_ok-bind_all-in-Some.ensures ∙ ap (λ l. reverse l ++ c.args.scope.now) c.deref.ensures.value in
    IfOk-weaker c.bind.result _ _
    (λ u k. replica-brought c.args.scope.now _ c.bind.new.self c.args.name y.qualifiers.items y.id c.len-in-Some.result cs (omega arith) found (omega arith) front k)
    c.bind.ensures.bound
