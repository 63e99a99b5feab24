use Rattle.std.proofs.Common.{◌∷◌, []}
use Rattle.general_decs.proofs.Beginning.{came-one, context_scoped, named-one}
use Rattle.general_decs.proofs.begin.scope_tyvar.Goals as goal

pub returns-clause-context : goal.returns-clause-context
returns-clause-context c =
    let b = c.in_ok-bind_tyvar.ensures in
    context_scoped c.args.state.now c.tyvar_type.new.state c.args.context.now c.bind_tyvar.new.context c.args.tyvar.now.name c.in_ok-ty.ty c.in_ok-ty.ensures.grows c.requires.context c.in_ok-ty.ensures.is b.rest
    b.types b.bound

pub returns-clause-further : goal.returns-clause-further
returns-clause-further c = record { own = (c.args.tyvar.now.name, c.in_ok-ty.ty) ∷ []; is = c.in_ok-bind_tyvar.ensures.bound }

pub returns-clause-came : goal.returns-clause-came
returns-clause-came c =
    came-one c.args.state.now c.tyvar_type.new.state c.args.tyvar.now c.in_ok-ty.ty c.args.context.now.types.tyvars c.bind_tyvar.new.context.types.tyvars c.is_scoped.result
    c.in_ok-ty.ensures.variable c.if-is_scoped.false c.is_scoped.ensures c.in_ok-bind_tyvar.ensures.bound

pub returns-clause-named : goal.returns-clause-named
returns-clause-named c =
    named-one c.args.tyvar.now c.in_ok-ty.ty c.args.context.now.types.tyvars c.bind_tyvar.new.context.types.tyvars c.is_scoped.result c.if-is_scoped.false c.is_scoped.ensures
    c.in_ok-bind_tyvar.ensures.bound
