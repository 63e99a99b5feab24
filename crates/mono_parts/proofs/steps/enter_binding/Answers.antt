use Rattle.std.proofs.Common.{◌∷◌, [], ap, ◌∙◌}
use Rattle.std.proofs.lemmas.Result.{IfOk-weaker}
use Rattle.ir_tables.specs.Tables.{parameters_of, parameters_at}
use Rattle.monomorphise.specs.Monomorphise.{units}
use Rattle.needed_scopes.specs.Scopes.{with_variable}
use Rattle.mono_state.proofs.Going.{goes-then, if-both}
use Rattle.mono_parts.proofs.Scopes.{goes-binding, binding-entered}
use Rattle.mono_parts.proofs.steps.enter_binding.Goals as goal

pub open_binding-requires : goal.open_binding-requires
open_binding-requires c = (c.in_ok-unit.ensures.goes []).open_.scopes

pub returns-clause-goes : goal.returns-clause-goes
returns-clause-goes c =
    let mid = c.unit_list.new.copier in
    if-both c.add.result
    (λ x k e. λ sources. goes-then sources c.args.copier.now mid (record mid { scopes = c.add.new.self }) (c.in_ok-unit.ensures.goes sources)
    (goes-binding sources mid c.add.new.self (c.args.bound.variable ∷ []) c.in_ok-unit.unit (c.in_ok-unit.ensures.goes []).open_ k (e ∙ ap (with_variable c.args.bound.variable) c.in_ok-open_binding.ensures.opened) c.in_ok-unit.ensures.held))
    c.add.ensures.kept c.add.ensures.added

pub returns-clause-entered : goal.returns-clause-entered
returns-clause-entered c =
    let mid = c.unit_list.new.copier in
    IfOk-weaker c.add.result _ _
    (λ x e. λ ss H l. binding-entered ss H c.args.copier.now mid c.add.new.self (c.args.bound.variable ∷ []) c.in_ok-unit.unit (units (parameters_at (parameters_of c.args.tables.now) c.args.bound.parameters)) (c.in_ok-unit.ensures.stays ss H)
    (e ∙ ap (with_variable c.args.bound.variable) c.in_ok-open_binding.ensures.opened) (c.in_ok-unit.ensures.is H l ∙ ap units c.parameters.ensures))
    c.add.ensures.added
