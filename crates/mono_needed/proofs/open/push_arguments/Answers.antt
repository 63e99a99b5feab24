use Rattle.std.proofs.Common.{nat_eq, length, option_map, refl, sym, subst, ◌<◌}
use Rattle.indexmap.specs.IndexMap.{get}
use Rattle.ty_table.specs.TypeAt.{type_at}
use Rattle.mono_close.specs.Closing.{standing}
use Rattle.mono_close.proofs.Tables.{held-longer, length-longer, same-long, then-longer, standing-longer, right-same, right-again}
use Rattle.mono_needed.specs.Gathering.{IsLatest}
use Rattle.mono_needed.proofs.Chain.{read-in, is-next, next-within, next-less}
use Rattle.mono_needed.proofs.Arguments.{Arguing, argue-begins, argue-goes, argue-ends, none-right}
use Rattle.mono_needed.proofs.open.push_arguments.Goals as goal

pub loop-next-init : goal.loop-next-init
loop-next-init c = record {
  arguing = argue-begins c.args.constructors.now c.args.sources.now c.args.name (standing c.args.closed.now c.args.slots.now) c.args.closed.now c.args.found.now.items (get nat_eq c.args.chains.now.last) c.args.chains.now.before.items c.last-next.result c.requires.chained c.last-next.ensures;
  right = none-right c.args.sources.now c.args.closed.now (standing c.args.closed.now c.args.slots.now) (get nat_eq c.empty.new.known) c.empty.ensures;
  longer = same-long c.args.closed.now;
}

pub bounds-rows-i : goal.bounds-rows-i
bounds-rows-i c = subst (λ l. c.in-Some.i < length l) (sym c.rows-rows.ensures) (next-within c.args.constructors.now c.args.name.stamp c.in-Some.i (is-next c.args.constructors.now c.args.name.stamp c.in-Some.i c.loop-next.next c.in-Some.is c.loop-next.invariant.arguing.next_is))

pub push_argument-requires-clause-held : goal.push_argument-requires-clause-held
push_argument-requires-clause-held c = held-longer (length c.args.closed.now) (length c.loop-next.closed) c.args.slots.now (length-longer c.args.closed.now c.loop-next.closed c.loop-next.invariant.longer) c.requires.held

pub push_argument-requires-clause-right : goal.push_argument-requires-clause-right
push_argument-requires-clause-right c = right-again c.args.sources.now c.args.closed.now c.loop-next.closed c.args.slots.now (get nat_eq c.loop-next.known) c.loop-next.invariant.longer c.requires.held c.loop-next.invariant.right

pub loop-next-smaller : goal.loop-next-smaller
loop-next-smaller c =
    let of = is-next c.args.constructors.now c.args.name.stamp c.in-Some.i c.loop-next.next c.in-Some.is c.loop-next.invariant.arguing.next_is in
    let latest = subst (IsLatest c.args.constructors.now c.in-Some.i c.args.name.stamp) (sym c.earlier-next.ensures) (c.requires.chained.before_is c.in-Some.i c.args.name.stamp of) in
    next-less c.args.constructors.now c.in-Some.i c.args.name.stamp c.earlier-next.result c.loop-next.next c.in-Some.is latest

pub loop-next-preserved : goal.loop-next-preserved
loop-next-preserved c =
    let of = is-next c.args.constructors.now c.args.name.stamp c.in-Some.i c.loop-next.next c.in-Some.is c.loop-next.invariant.arguing.next_is in
    let latest = subst (IsLatest c.args.constructors.now c.in-Some.i c.args.name.stamp) (sym c.earlier-next.ensures) (c.requires.chained.before_is c.in-Some.i c.args.name.stamp of) in
    record {
      arguing = argue-goes c.args.constructors.now c.args.sources.now c.args.name (standing c.args.closed.now c.args.slots.now) c.loop-next.closed c.push_argument.new.closed c.args.found.now.items c.loop-next.found.items c.push_argument.new.found.items c.in-Some.i _ _ c.earlier-next.result
          c.in_ok-push_argument.ensures.earlier_stay (read-in c.rows-rows.result.now c.args.constructors.now c.in-Some.i _ c.rows-rows.ensures (next-within c.args.constructors.now c.args.name.stamp c.in-Some.i of))
          refl latest
          (subst (Arguing c.args.constructors.now c.args.sources.now c.args.name (standing c.args.closed.now c.args.slots.now) c.loop-next.closed c.args.found.now.items c.loop-next.found.items) c.in-Some.is c.loop-next.invariant.arguing)
          (standing c.loop-next.closed c.args.slots.now) (λ v. standing-longer c.args.closed.now c.loop-next.closed c.args.slots.now v c.loop-next.invariant.longer c.requires.held)
          (option_map (type_at c.args.sources.now) c.argument_of-argument.result) (c.argument_of-argument.ensures c.args.sources.now) c.in_ok-push_argument.ensures.pushed;
      right = right-same c.args.sources.now c.push_argument.new.closed (standing c.loop-next.closed c.args.slots.now) (standing c.args.closed.now c.args.slots.now) (get nat_eq c.push_argument.new.known) (λ v. standing-longer c.args.closed.now c.loop-next.closed c.args.slots.now v c.loop-next.invariant.longer c.requires.held) c.in_ok-push_argument.ensures.right;
      longer = then-longer c.args.closed.now c.loop-next.closed c.push_argument.new.closed c.loop-next.invariant.longer c.in_ok-push_argument.ensures.earlier_stay;
    }

pub returns-clause-opens : goal.returns-clause-opens
returns-clause-opens c = argue-ends c.args.constructors.now c.args.sources.now c.args.name (standing c.args.closed.now c.args.slots.now) c.loop-next.closed c.args.found.now.items c.loop-next.found.items c.loop-next.next c.in_default.is c.loop-next.invariant.arguing

pub returns-clause-earlier_stay : goal.returns-clause-earlier_stay
returns-clause-earlier_stay c = c.loop-next.invariant.longer
