-- In the initial basis.
use Rattle.std.proofs.Common.{◌≡◌, ℕ, false, true, subst, refl}
use Rattle.ty_core.specs.Types.{var, no_variable}
use Rattle.core_elab.specs.of_core_rules.Initial.{initial_context}
use Rattle.core_elab.specs.of_core_rules.Objects.{Context}
use Rattle.core_elab.specs.of_core_rules.Typing.{DecsHave}
use Rattle.core_elab.proofs.Initial.{meaning-kept-initial}
use Rattle.elab_typed.specs.Contexts.{env_under, context_under, initial_around}
use Rattle.elab_typed.specs.Laws.{Fits, IsProgramOf, ElaborationIsRight}
use Rattle.elab_typed.proofs.Resolving.{decs-to}
use Rattle.elab_typed.proofs.Checking.{decs-checked}
use Rattle.elab_typed.proofs.Typing.{decs-typed}
use Rattle.elab_typed.proofs.Under.{kept-env-under}

initial-is : context_under var initial_around ≡ initial_context
initial-is = λ i. record { names = initial_context.names; tyvars = initial_context.tyvars; env = kept-env-under var initial_context.env i }

-- no parameter is in scope
initial-fits : Fits initial_around var
initial-fits = record { admits = λ v h. absurd (cc); over = λ v. tt }

pub program-right : ElaborationIsRight
program-right table ds es made number d r G c j h = record {
  after = G;
  checked = decs-checked h (λ k l. refl);
  made = made;
  env = env_under var d;
  choices = c;
  typed = subst (λ (z : Context). DecsHave no_variable z ds made (env_under var d) c) initial-is (decs-typed h var initial-fits);
  same = meaning-kept-initial ds es r j (decs-to h);
}
