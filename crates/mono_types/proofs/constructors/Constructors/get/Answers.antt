use Rattle.std.proofs.Common.{◌≡◌, Some, None, nat_eq, ap, sym, ◌∙◌, subst, option_copied}
use Rattle.std.specs.Map.{lookup}
use Rattle.ir_known.proofs.Reversed.{lookup-reversed}
use Rattle.mono_types.proofs.constructors.Constructors.get.Goals as goal

pub returns-in-Some : goal.returns-in-Some
returns-in-Some c = subst (λ s. Some c.in-Some.argument.now ≡ lookup (nat_eq c.args.number) s) c.self.view_is
    (sym (ap option_copied c.in-Some.is) ∙ c.get.ensures.value ∙ sym (lookup-reversed c.args.number c.self.inside.entries.entries c.self.invariant))

pub returns-in-None : goal.returns-in-None
returns-in-None c = subst (λ s. None ≡ lookup (nat_eq c.args.number) s) c.self.view_is
    (sym (ap option_copied c.in-None.is) ∙ c.get.ensures.value ∙ sym (lookup-reversed c.args.number c.self.inside.entries.entries c.self.invariant))
