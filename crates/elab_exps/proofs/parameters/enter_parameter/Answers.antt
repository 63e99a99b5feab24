use Rattle.std.proofs.Common.{List, refl, ap, subst, ◌∙◌}
use Rattle.sml_tree.specs.declared.ident.Vid.TheVariants.{Fresh}
use Rattle.elab_context.proofs.Reading.{context_later}
use Rattle.pat_elab.specs.Elaborated.{IsBound}
use Rattle.pat_elab.specs.declared.bound.BoundVariable.{BoundVariable}
use Rattle.scope_decs.specs.of_exp_forms.Within.{within}
use Rattle.scope_decs.proofs.of_exp_forms.EnteringFunctions.{entered_is, fresh_context}
use Rattle.elab_exps.proofs.parameters.enter_parameter.Goals as goal

pub write-requires-clause-held : goal.write-requires-clause-held
write-requires-clause-held c = c.in_ok-made.ensures.is.is.held

pub write-requires-clause-among : goal.write-requires-clause-among
write-requires-clause-among c = (context_later c.args.state.now c.bind_variable.new.state c.args.context.now c.in_ok-made.ensures.is.grows c.requires).naming

pub returns-clause-context : goal.returns-clause-context
returns-clause-context c =
    fresh_context c.args.state.now c.bind_variable.new.state c.write.new.state c.args.context.now c.bind_all.new.context (Fresh c.args.number) c.bind_variable.new.bound.items c.in_ok-made.made
    c.requires
    (subst (λ (l : List BoundVariable). IsBound c.args.state.now c.args.context.now (Fresh c.args.number) l c.bind_variable.new.bound.items c.in_ok-made.made c.bind_variable.new.state)
    c.new-bound.ensures.items c.in_ok-made.ensures.is) c.in_ok-ty.ensures.grows (c.in_ok-bind_all.ensures ∙ ap (within c.args.context.now) c.deref.ensures.value)

pub returns-clause-entered : goal.returns-clause-entered
returns-clause-entered c =
    entered_is c.args.state.now c.bind_variable.new.state c.write.new.state c.args.context.now c.bind_all.new.context c.args.place (Fresh c.args.number) c.bind_variable.new.bound.items
    c.in_ok-made.made (record { variable = c.in_ok-made.made.number; ty = c.in_ok-ty.ty }) c.requires
    (subst (λ (l : List BoundVariable). IsBound c.args.state.now c.args.context.now (Fresh c.args.number) l c.bind_variable.new.bound.items c.in_ok-made.made c.bind_variable.new.state)
    c.new-bound.ensures.items c.in_ok-made.ensures.is) c.in_ok-ty.ensures.grows c.in_ok-ty.ensures.next c.in_ok-ty.ensures.is
    (c.in_ok-bind_all.ensures ∙ ap (within c.args.context.now) c.deref.ensures.value) refl

pub returns-clause-within : goal.returns-clause-within
returns-clause-within c = record { variables = c.bind_variable.new.bound.items; is = c.in_ok-bind_all.ensures ∙ ap (within c.args.context.now) c.deref.ensures.value }
