use Rattle.std.proofs.Common.{nat_eq, refl, ap, arith}
use Rattle.std.specs.Map.{lookup}
use Rattle.indexmap.specs.IndexMap.{get}
use Rattle.mono_needed.proofs.Chain.{chain-begins, chain-grows, chained, row-read}
use Rattle.mono_needed.proofs.chains.chain_rows.Goals as goal

pub loop-i-init : goal.loop-i-init
loop-i-init c = chain-begins c.args.rows.now (get nat_eq c.new-last.result) c.new-before.result.items (λ s. ap (λ e. lookup (nat_eq s) e) c.new-last.ensures.empty) c.new-before.ensures.items

pub loop-i-preserved : goal.loop-i-preserved
loop-i-preserved c = chain-grows c.args.rows.now c.loop-i.i (get nat_eq c.loop-i.last) (get nat_eq c.insert.new.self) c.loop-i.before.items c.push.new.self.items _ _ c.last_of.result (row-read c.args.rows.now c.loop-i.i _ c.loop-i-test.true) refl c.last_of.ensures c.in_ok-insert.ensures.updates.0 c.in_ok-push.ensures.items c.loop-i.invariant

pub returns : goal.returns
returns c = chained c.args.rows.now c.loop-i.i (get nat_eq c.loop-i.last) c.loop-i.before.items (omega arith) c.loop-i.invariant
