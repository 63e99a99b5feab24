use Rattle.std.proofs.Common.{refl, sym, subst}
use Rattle.elab_steps.specs.Instances.{IsScheme}
use Rattle.elab_context.proofs.Giving.{instance_found}
use Rattle.elab_context.proofs.instance.instance_at.Goals as goal

pub instance-requires-clause-scheme : goal.instance-requires-clause-scheme
instance-requires-clause-scheme c =
    let found = c.at-found.result.now in
    subst (λ ms. IsScheme c.args.state.now ms found.body) (sym c.deref.ensures.value)
    (c.requires.context.schemes c.args.scheme found c.at-found.ensures)

pub returns-clause-instance : goal.returns-clause-instance
returns-clause-instance c =
    let found = c.at-found.result.now in
    instance_found c.args.context.now c.instance.new.state c.args.scheme c.in_ok-ty.ty found c.deref.result.now c.limit.result found.body
    c.at-found.ensures c.deref.ensures.value refl c.limit.ensures c.in_ok-ty.ensures.instance
