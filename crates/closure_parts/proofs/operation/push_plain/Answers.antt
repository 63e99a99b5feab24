use Rattle.std.proofs.Common.{ap, ◌∙◌}
use Rattle.first_tables.specs.TablesOf.{plain_of}
use Rattle.closure_parts.specs.Pieces.{a_plain}
use Rattle.closure_parts.proofs.Operating.{if-ok}
use Rattle.closure_parts.proofs.Putting.{let-as}
use Rattle.closure_parts.proofs.operation.push_plain.Goals as goal

pub returns : goal.returns
returns c =
    if-ok _ _ c.push_let.result
    (λ u p. let-as c.args.steps.now.items c.push_let.new.steps.items c.args.name c.in_ok-made.made _ (c.in_ok-made.ensures ∙ ap (a_plain (plain_of c.args.operation)) c.in_ok-operand.ensures) p)
    c.push_let.ensures
