use Rattle.std.proofs.Common.{option_map, refl, sym, subst}
use Rattle.ty_table.specs.TypeAt.{type_at}
use Rattle.mono_close.specs.Closing.{standing}
use Rattle.mono_needed.specs.Gathering.{IsPushed, nothing, its_number}
use Rattle.mono_needed.proofs.open.push_argument.Goals as goal

pub returns-in_ok-push-in-Some-clause-pushed : goal.returns-in_ok-push-in-Some-clause-pushed
returns-in_ok-push-in-Some-clause-pushed c = subst (λ o. IsPushed c.close_type.new.closed (standing c.args.closed.now c.args.slots.now) c.args.found.now.items c.push.new.self.items (option_map (type_at c.args.sources.now) o)) (sym c.in-Some.is)
    (its_number (type_at c.args.sources.now c.in-Some.a) c.in_ok-n-in-Some.n c.in_ok-n-in-Some.ensures.is c.in_ok-push-in-Some.ensures.items)

pub returns-in-None-clause-pushed : goal.returns-in-None-clause-pushed
returns-in-None-clause-pushed c = subst (λ o. IsPushed c.args.closed.now (standing c.args.closed.now c.args.slots.now) c.args.found.now.items c.args.found.now.items (option_map (type_at c.args.sources.now) o)) (sym c.in-None.is) (nothing refl)
