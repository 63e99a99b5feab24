use Rattle.std.proofs.Common.{◌≡◌, ◌-◌, length, refl, arith}
use Rattle.closure_parts.proofs.NameMap.{names-none, names-next, names-all}
use Rattle.closure_parts.proofs.names.find_names.Goals as goal

pub loop-left-init : goal.loop-left-init
loop-left-init c =
    record { within = omega arith; named = names-none c.args.found.now (length c.args.found.now) c.new-names.result.entries (omega arith) c.new-names.ensures.empty }

pub loop-left-preserved : goal.loop-left-preserved
loop-left-preserved c =
    let w = c.loop-left.invariant.within in
    let q = c.loop-left-test.true in
    record {
      within = omega (arith, w);
      named = names-next c.args.found.now c.loop-left.left (c.loop-left.left - 1) _ _ c.is_of_name.result c.loop-left.names.entries c.insert.new.self.entries (omega (arith, q)) (omega (arith, w, q)) refl c.is_of_name.ensures c.in_ok-insert.ensures.updates.0
          c.loop-left.invariant.named;
    }

pub returns : goal.returns
returns c = names-all c.args.found.now c.loop-left.left c.loop-left.names.entries (let q = c.loop-left-test.false in let z : c.loop-left.left ≡ 0 = omega (arith, q) in z) c.loop-left.invariant.named
