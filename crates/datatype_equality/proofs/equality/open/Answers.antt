use Rattle.std.proofs.Common.{sym, ap, ◌∙◌, subst}
use Rattle.ty_core.specs.Types.{nodes}
use Rattle.ty_core.specs.TypesOf.{head_of}
use Rattle.datatype_equality.specs.Graph.{is_variable}
use Rattle.datatype_equality.specs.Holding.{Opens}
use Rattle.datatype_equality.proofs.Opening.{opens-alone, opens-admitting, opens-refusing, opens-parts, opens-new, new-within}
use Rattle.datatype_equality.proofs.equality.open.Goals as goal

pub returns-in-Var : goal.returns-in-Var
returns-in-Var c = opens-alone c.args.types.now c.args.first c.args.count c.args.k c.args.graph.now c.vertex.new.self c.in_ok-v.v c.args.pending.now.items c.vertex.new.pending.items c.requires c.in_ok-v.ensures
    (ap nodes c.in-Var.ensures) (is_variable c.in-Var.ensures)

pub returns-in-Admits : goal.returns-in-Admits
returns-in-Admits c = opens-admitting c.args.types.now c.args.first c.args.count c.args.k c.args.graph.now c.vertex.new.self c.in_ok-v.v c.args.pending.now.items c.vertex.new.pending.items c.requires c.in_ok-v.ensures
    (head_of c.in-Apply.head.now) c.in-Apply.parts.now c.in-Apply.ensures.0 (sym c.head_rule.ensures ∙ c.in-Admits.is)

pub returns-in_ok-fail-in-Refuses : goal.returns-in_ok-fail-in-Refuses
returns-in_ok-fail-in-Refuses c = subst (λ g. Opens c.args.types.now c.args.first c.args.count c.args.k c.args.graph.now g c.args.pending.now.items c.vertex.new.pending.items) (sym c.in_ok-fail-in-Refuses.ensures)
    (opens-refusing c.args.types.now c.args.first c.args.count c.args.k c.args.graph.now c.vertex.new.self c.in_ok-v.v c.args.pending.now.items c.vertex.new.pending.items c.requires c.in_ok-v.ensures
    (head_of c.in-Apply.head.now) c.in-Apply.parts.now c.in-Apply.ensures.0 (sym c.head_rule.ensures ∙ c.in-Refuses.is))

pub returns-in_ok-rest_on-in-Parts : goal.returns-in_ok-rest_on-in-Parts
returns-in_ok-rest_on-in-Parts c = opens-parts c.args.types.now c.args.first c.args.count c.args.k c.args.graph.now c.vertex.new.self c.in_ok-v.v c.args.pending.now.items c.vertex.new.pending.items c.requires c.in_ok-v.ensures
    (head_of c.in-Apply.head.now) c.in-Apply.parts.now c.in-Apply.ensures.0 c.rest_on.new.graph c.rest_on.new.pending.items (sym c.head_rule.ensures ∙ c.in-Parts.is) (c.in_ok-rest_on-in-Parts.ensures c.args.types.now c.args.first)

pub rest-requires : goal.rest-requires
rest-requires c = new-within c.args.types.now c.args.first c.args.count c.args.k c.args.graph.now c.vertex.new.self c.in_ok-v.v c.args.pending.now.items c.vertex.new.pending.items c.requires c.in_ok-v.ensures
    (head_of c.in-Apply.head.now) c.in-Apply.parts.now c.in-Apply.ensures.0 c.in-New.j (sym c.head_rule.ensures ∙ c.in-New.is)

pub returns-in_ok-rest_on-in-New : goal.returns-in_ok-rest_on-in-New
returns-in_ok-rest_on-in-New c = opens-new c.args.types.now c.args.first c.args.count c.args.k c.args.graph.now c.vertex.new.self c.in_ok-v.v c.args.pending.now.items c.vertex.new.pending.items c.requires c.in_ok-v.ensures
    (head_of c.in-Apply.head.now) c.in-Apply.parts.now c.in-Apply.ensures.0 c.in-New.j c.rest.new.self c.rest_on-in-New.new.graph c.rest_on-in-New.new.pending.items (sym c.head_rule.ensures ∙ c.in-New.is)
    c.in_ok-rest-in-New.ensures (c.in_ok-rest_on-in-New.ensures c.args.types.now c.args.first)
