use Rattle.std.proofs.Common.{length, refl, arith}
use Rattle.general_bindings.proofs.of_exp_blocks.Growing.{ends-same, ends-on}
use Rattle.match_pass.proofs.Seen.{group-none, group-named, group-all}
use Rattle.match_pass.proofs.groups.bind_group.Goals as goal

pub loop-left-init : goal.loop-left-init
loop-left-init c = record {
  within = omega arith;
  ends = ends-same _;
  names = λ R. group-none R c.args.functions.now (length c.args.functions.now) c.args.first _ refl;
}

pub loop-left-preserved : goal.loop-left-preserved
loop-left-preserved c =
    let h = c.loop-left.invariant in
    let b = c.in_ok-bind_each.ensures in
    record {
      within = omega (arith, h.within);
      ends = ends-on c.args.names.now c.loop-left.names _ h.ends b.ends;
      names = λ R.
          group-named R c.args.functions.now c.loop-left.left _ c.index-functions-left.result c.args.first c.in-Some.number c.deref.result.now _ _ _ (omega arith) h.within c.index-functions-left.is c.deref.ensures.value c.in-Some.ensures.1 (h.names R)
          b.names;
    }

pub returns-clause-names : goal.returns-clause-names
returns-clause-names c = λ R. group-all R c.args.functions.now c.loop-left.left c.args.first _ _ (omega arith) (c.loop-left.invariant.names R)
