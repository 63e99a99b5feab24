use Rattle.std.proofs.Common.{◌-◌, map, get_or, refl, ap, ◌∙◌}
use Rattle.sml_tree.specs.TreeOf.{RuleOf, bind_of, pat_of}
use Rattle.sml_tree.specs.declared.tree.Bind.{Bind}
use Rattle.scope_decs.proofs.of_exp_forms.Nodes.{bind-is}
use Rattle.elab_exps.proofs.Heading.{heads_begin, heads_context, heads_end, heads_more}
use Rattle.elab_exps.proofs.heads.reserve_recs.Goals as goal

pub loop-i-init : goal.loop-i-init
loop-i-init c = heads_begin bind_of c.args.state.now c.args.context.now c.args.recs.now _ _ refl c.new-heads.ensures.items

pub reserve-requires : goal.reserve-requires
reserve-requires c = record {
  context = heads_context c.args.state.now c.loop-i.state c.args.context.now (map bind_of c.args.recs.now) c.loop-i.i c.loop-i.heads.items c.requires c.loop-i.invariant;
}

pub loop-i-preserved : goal.loop-i-preserved
loop-i-preserved c =
    heads_more bind_of c.args.state.now c.loop-i.state c.reserve.new.state c.args.context.now c.args.recs.now c.loop-i.i c.index-recs-i.result (pat_of (get_or c.args.recs.now (c.loop-i.i - 1) c.index-recs-i.result).pat)
    c.in_ok-head.head c.loop-i.heads.items c.push.new.self.items c.loop-i-test.true c.index-recs-i.is (ap (λ (r : RuleOf). r.pat) (bind-is c.index-recs-i.result) ∙ ap (λ (b : Bind). pat_of b.pat) c.index-recs-i.is) c.loop-i.invariant
    c.in_ok-head.ensures c.in_ok-push.ensures.items

pub returns : goal.returns
returns c = heads_end c.args.state.now c.loop-i.state c.args.context.now (map bind_of c.args.recs.now) c.loop-i.i c.loop-i.heads.items c.loop-i-test.false c.loop-i.invariant
