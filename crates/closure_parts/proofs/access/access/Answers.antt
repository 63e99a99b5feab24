use Rattle.std.proofs.Common.{ap, ◌∙◌}
use Rattle.first_values.specs.Operations as op
use Rattle.closure_parts.specs.Pieces.{a_plain}
use Rattle.closure_parts.proofs.Operating.{if-ok}
use Rattle.closure_parts.proofs.Finding.{access-local, access-captured, access-leads, access-follows}
use Rattle.closure_parts.proofs.access.access.Goals as goal

pub returns-in_ok-name-in-Local : goal.returns-in_ok-name-in-Local
returns-in_ok-name-in-Local c =
    if-ok _ _ c.plain.result (λ m h n t. h ∙ ap (a_plain op.same) c.in_ok-name-in-Local.ensures ∙ access-local n c.args.scope.now c.args.variable c.find.result c.find.ensures c.in-Local.is) c.plain.ensures

pub returns-in-Captured : goal.returns-in-Captured
returns-in-Captured c = if-ok _ _ c.plain-in-Captured.result (λ m h n t. h ∙ access-captured n c.args.scope.now c.args.variable c.find.result c.find.ensures c.in-Captured.place c.in-Captured.is) c.plain-in-Captured.ensures

pub returns-in-Leads : goal.returns-in-Leads
returns-in-Leads c = if-ok _ _ c.plain-in-Leads.result (λ m h n t. h ∙ access-leads n c.args.scope.now c.args.variable c.find.result c.find.ensures c.in-Leads.is) c.plain-in-Leads.ensures

pub returns-in-Follows : goal.returns-in-Follows
returns-in-Follows c =
    if-ok _ _ c.cell_of.result
    (λ m h n t. h ∙ access-follows n c.args.scope.now c.args.variable c.find.result c.find.ensures c.in-Follows.function c.of.result c.in-Follows.is (c.of.ensures ∙ t c.in-Follows.function)) c.cell_of.ensures
