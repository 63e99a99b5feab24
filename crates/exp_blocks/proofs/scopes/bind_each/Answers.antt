use Rattle.std.proofs.Common.{length, refl, arith, ap, ◌∙◌}
use Rattle.match_names.specs.Bindings.{names_of}
use Rattle.exp_blocks.proofs.Growing.{ends-same, ends-more, ends-as}
use Rattle.exp_blocks.proofs.Binding.{each-none, each-next}
use Rattle.exp_blocks.proofs.scopes.bind_each.Goals as goal

pub loop-left-init : goal.loop-left-init
loop-left-init c = record {
  within = omega arith;
  ends = ends-same _;
  names = each-none c.args.variables.now (length c.args.variables.now) c.args.number _ refl;
}

pub loop-left-preserved : goal.loop-left-preserved
loop-left-preserved c =
    let h = c.loop-left.invariant in
    record {
      within = omega (arith, h.within);
      ends = ends-as c.args.names.now _ c.bind.new.self c.in_ok-bind.ensures (ends-more _ c.args.names.now c.loop-left.names h.ends);
      names = ap names_of c.in_ok-bind.ensures ∙ each-next c.args.variables.now c.loop-left.left _ c.args.number (names_of c.args.names.now) (names_of c.loop-left.names) (omega arith) h.within h.names;
    }
