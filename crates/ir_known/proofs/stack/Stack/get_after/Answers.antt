use Rattle.std.proofs.Common.{◌≡◌, ◌-◌, Some, None, nat_eq, length, take, sym, subst}
use Rattle.std.specs.Map.{lookup}
use Rattle.ir_known.proofs.Reversed.{found-after, found-before, found-nowhere}
use Rattle.ir_known.proofs.stack.Stack.get_after.Goals as goal

pub returns-then-place-first : goal.returns-then-place-first
returns-then-place-first g c = subst (λ s. None ≡ lookup (nat_eq c.args.number) (take (length s - c.args.first) s)) c.self.view_is
    (sym (found-before c.self.inside.entries.entries c.args.number c.in-Some.place c.in-Some.field-0-1.now c.in-Some.value.now c.args.first c.self.invariant c.in-Some.ensures.entry (sym c.in-Some.ensures.key) c.if-place-first.true))

pub returns-else-place-first : goal.returns-else-place-first
returns-else-place-first g c = subst (λ s. Some c.in-Some.value.now ≡ lookup (nat_eq c.args.number) (take (length s - c.args.first) s)) c.self.view_is
    (sym (found-after c.self.inside.entries.entries c.args.number c.in-Some.place c.in-Some.field-0-1.now c.in-Some.value.now c.args.first c.self.invariant c.in-Some.ensures.entry (sym c.in-Some.ensures.key) c.if-place-first.false))

pub returns-in-None : goal.returns-in-None
returns-in-None g c = subst (λ s. None ≡ lookup (nat_eq c.args.number) (take (length s - c.args.first) s)) c.self.view_is (sym (found-nowhere c.self.inside.entries.entries c.args.number c.args.first c.self.invariant (sym c.in-None.ensures.value)))
