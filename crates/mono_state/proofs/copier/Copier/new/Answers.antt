use Rattle.std.proofs.Common.{sym, subst, arith}
use Rattle.std.proofs.Common.{length}
use Rattle.mono_close.specs.Closing.{AreHeld}
use Rattle.mono_state.specs.Going.{ScopesHeld, OwnHeld}
use Rattle.mono_state.proofs.Naming.{first-number}
use Rattle.mono_state.proofs.copier.Copier.new.Goals as goal

pub returns-clause-is_open : goal.returns-clause-is_open
returns-clause-is_open c = record {
  scopes = c.new-6.ensures.kept;
  within = subst (ScopesHeld _) (sym c.new-6.ensures.none) tt;
  slots = subst (AreHeld (length c.in_ok-new.field-0)) (sym c.new-8.ensures) tt;
  own = subst (OwnHeld _) (sym c.new-7.ensures) tt;
  nothing = first-number c.new-lists.result c.number.new.self c.new.result.items c.in_ok-_nothing._nothing c.new-lists.ensures c.new.ensures.items c.in_ok-_nothing.ensures.ok;
  few = omega arith;
}
