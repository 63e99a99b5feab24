use Rattle.std.proofs.Common.{ap, map, ◌++◌, ◌∙◌, arith}
use Rattle.std.proofs.lemmas.Result.{IfOk-weaker}
use Rattle.name_scopes.specs.Entries.{con_entries}
use Rattle.name_scopes.proofs.Declaring.{data-entries}
use Rattle.name_scopes.proofs.datas.bind_data.Goals as goal

pub returns : goal.returns
returns c =
    IfOk-weaker c.bind.result _ _
    (λ u k.
    data-entries c.args.datatype.now c.len.result c.args.scope.now _ c.bind.new.self (omega arith)
    (c.in_ok-bind_cons.ensures ∙ ap (λ l. con_entries (map (λ c. c.vid) l) ++ c.args.scope.now) c.deref.ensures.value) k)
    c.bind.ensures.bound
