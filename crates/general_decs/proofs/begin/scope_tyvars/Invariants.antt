use Rattle.std.proofs.Common.{◌≡◌, ◌+◌, take}
use Rattle.elab_state.specs.States.{made}
use Rattle.elab_steps.specs.Growing.{Always, Grows}
use Rattle.elab_context.specs.Telling.{IsContext}
use Rattle.general_decs.specs.Scoped.{CameByName, CameIntoScope, IsFurther}
use Rattle.general_decs.proofs.begin.scope_tyvars.Given as goal

abbrev pub invariant-loop-i : goal.invariant-loop-i
invariant-loop-i l = record {
  grows : Grows l.fn.state l.state;
  count : made l.state ≡ made l.fn.state + l.i;
  next : l.state.next ≡ l.fn.state.next;
  context : IsContext l.state l.context;
  rest : l.context ≡ record l.fn.context { types = l.context.types };
  types : l.context.types.types ≡ l.fn.context.types.types;
  further : IsFurther l.fn.context.types.tyvars l.context.types.tyvars;
  named : CameByName (take l.i l.scoped) l.fn.context.types.tyvars l.context.types.tyvars;
  came : Always l.state (λ W. CameIntoScope W (made l.fn.state) (take l.i l.scoped) l.fn.context.types.tyvars l.context.types.tyvars);
}
