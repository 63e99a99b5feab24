use Rattle.std.proofs.Common.{◌≡◌, ◌++◌, length, vec_len, sym, ap, ◌∙◌, arith}
use Rattle.std.proofs.lemmas.Bool.{eqb-true}
use Rattle.capture_table.specs.Told.{exp_told, function_table}
use Rattle.capture_table.proofs.Walking.{table-told, no-uses}
use Rattle.capture_table.proofs.walk.uses_of_member.Goals as goal

pub returns-then-is_empty : goal.returns-then-is_empty
returns-then-is_empty c = λ ps cs ms es.
    let f = c.args.function.now in
    let none : vec_len f.parameters ≡ 0 = eqb-true (vec_len f.parameters) 0 (sym c.is_empty.ensures ∙ c.if-is_empty.true) in
    let empty : length f.parameters.items ≡ 0 = omega (arith, none) in
    table-told f ps cs ms es ∙ no-uses (exp_told f.body).uses c.new-uses.result.items f.parameters.items f.last (exp_told f.body).table ps cs ms es empty

pub returns : goal.returns
returns c = λ ps cs ms es.
    let f = c.args.function.now in
    table-told f ps cs ms es ∙ ap (λ us. function_table us f.parameters.items f.last (exp_told f.body).table ps cs ms es) (sym (c.in_ok-push_uses.ensures ∙ ap (λ l. l ++ (exp_told f.body).uses) c.new-uses.ensures.items))
