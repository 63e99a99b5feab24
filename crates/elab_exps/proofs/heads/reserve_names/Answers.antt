use Rattle.std.proofs.Common.{map, refl}
use Rattle.sml_tree.specs.BareTree.{vid_pat}
use Rattle.sml_tree.specs.Derived.{short}
use Rattle.sml_tree.specs.declared.tree.Function.{out-Function}
use Rattle.elab_exps.specs.Groups.{function_bind}
use Rattle.elab_exps.proofs.Heading.{heads_begin, heads_context, heads_end, heads_more}
use Rattle.elab_exps.proofs.Sources.{function-pat}
use Rattle.elab_exps.proofs.heads.reserve_names.Goals as goal

pub loop-i-init : goal.loop-i-init
loop-i-init c = heads_begin function_bind c.args.state.now c.args.context.now c.args.functions.now _ _ refl c.new-heads.ensures.items

pub reserve_name-requires : goal.reserve_name-requires
reserve_name-requires c = record {
  context = heads_context c.args.state.now c.loop-i.state c.args.context.now (map function_bind c.args.functions.now) c.loop-i.i c.loop-i.heads.items c.requires c.loop-i.invariant;
}

pub loop-i-preserved : goal.loop-i-preserved
loop-i-preserved c =
    let g = c.index-functions-i.result in
    heads_more function_bind c.args.state.now c.loop-i.state c.reserve_name.new.state c.args.context.now c.args.functions.now c.loop-i.i g (vid_pat (out-Function g).vid_place (short (out-Function g).vid)) c.in_ok-head.head
    c.loop-i.heads.items c.push.new.self.items c.loop-i-test.true c.index-functions-i.is (function-pat g) c.loop-i.invariant (c.in_ok-head.ensures (out-Function g).vid_place) c.in_ok-push.ensures.items

pub returns : goal.returns
returns c = heads_end c.args.state.now c.loop-i.state c.args.context.now (map function_bind c.args.functions.now) c.loop-i.i c.loop-i.heads.items c.loop-i-test.false c.loop-i.invariant
