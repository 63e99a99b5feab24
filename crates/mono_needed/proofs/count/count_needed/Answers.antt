use Rattle.std.proofs.Common.{◌≡◌, nat_eq, map, length, Some, refl, ap, ◌∙◌, subst, arith}
use Rattle.indexmap.specs.IndexMap.{get}
use Rattle.ty_table.specs.TypeAt.{type_at}
use Rattle.ir_tables.specs.Rows.{constructors_at}
use Rattle.mono_close.proofs.Tables.{same-long, then-longer}
use Rattle.mono_needed.specs.Gathering.{IsChained, added}
use Rattle.mono_needed.proofs.Gather.{got-read, gathers-begins, gathers-opens, answers-all, answers-past}
use Rattle.mono_needed.proofs.Marking.{marks-begin}
use Rattle.mono_needed.proofs.count.count_needed.Goals as goal

pub put_all-requires : goal.put_all-requires
put_all-requires c = marks-begin c.new-needed.result.items c.new-marks.result.items c.new-needed.ensures.items c.new-marks.ensures.items

pub loop-next-init : goal.loop-next-init
loop-next-init c = record {
  gathers = gathers-begins (constructors_at c.args.sources.now c.args.constructors.now) (map (type_at c.args.closed.now) c.args.roots.now) c.args.closed.now c.new-needed.result.items c.put_all.new.needed.items c.args.roots.now
      c.new-needed.ensures.items c.in_ok-put_all.ensures.added refl c.len-once.ensures.one_to_one c.requires;
  marked = c.in_ok-put_all.ensures.marked;
  within = omega arith;
  longer = same-long c.args.closed.now;
}

pub push_parts-requires : goal.push_parts-requires
push_parts-requires c = subst (λ rows. IsChained rows (get nat_eq c.in_ok-chains.chains.last) c.in_ok-chains.chains.before.items) c.rows.ensures c.in_ok-chains.ensures

pub returns-then-count-limit-clause-is : goal.returns-then-count-limit-clause-is
returns-then-count-limit-clause-is c = answers-past (constructors_at c.args.sources.now c.args.constructors.now) (map (type_at c.args.closed.now) c.args.roots.now) c.args.limit c.loop-next.closed c.loop-next.needed.items c.loop-next.next
    (omega (arith, c.if-count-limit.true, c.len-count.ensures, c.loop-next.needed.ok.0)) c.loop-next.invariant.gathers

pub returns-then-count-limit-clause-earlier_stay : goal.returns-then-count-limit-clause-earlier_stay
returns-then-count-limit-clause-earlier_stay c = c.loop-next.invariant.longer

pub loop-next-preserved : goal.loop-next-preserved
loop-next-preserved c = record {
  gathers = gathers-opens (constructors_at c.args.sources.now c.args.constructors.now) (map (type_at c.args.closed.now) c.args.roots.now) c.loop-next.closed c.push_parts.new.closed c.loop-next.needed.items c.clear.new.self.items c.push_parts.new.found.items c.loop-next.next _
      c.clear.ensures.items (got-read c.loop-next.needed.items c.loop-next.next _ (omega (arith, c.loop-next-test.true, c.loop-next.needed.ok.0)) c.index-t.ensures) c.in_ok-push_parts.ensures.earlier_stay c.len-still_once.ensures.one_to_one
      c.in_ok-push_parts.ensures.opens c.loop-next.invariant.gathers c.put_all-in-loop-next.new.needed.items (c.in_ok-put_all-2.ensures.added ∙ ap (added c.loop-next.needed.items) c.deref.ensures.value);
  marked = c.in_ok-put_all-2.ensures.marked;
  within = omega (arith, c.loop-next-test.true, c.if-count-limit.false, c.len-count.ensures, c.loop-next.needed.ok.0);
  longer = then-longer c.args.closed.now c.loop-next.closed c.push_parts.new.closed c.loop-next.invariant.longer c.in_ok-push_parts.ensures.earlier_stay;
}

pub returns-clause-is : goal.returns-clause-is
returns-clause-is c = let l : c.len-2.result ≡ length c.loop-next.needed.items = omega (arith, c.len-2.ensures) in ap Some l ∙ answers-all (constructors_at c.args.sources.now c.args.constructors.now) (map (type_at c.args.closed.now) c.args.roots.now) c.args.limit c.loop-next.closed c.loop-next.needed.items c.loop-next.next
    (omega (arith, c.loop-next-test.false, c.loop-next.needed.ok.0)) c.loop-next.invariant.within c.loop-next.invariant.gathers

pub returns-clause-earlier_stay : goal.returns-clause-earlier_stay
returns-clause-earlier_stay c = c.loop-next.invariant.longer
