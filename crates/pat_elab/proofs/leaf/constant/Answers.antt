use Rattle.std.proofs.Common.{refl}
use Rattle.sml_tree.specs.TreeOf.{constant_of}
use Rattle.pat_elab.proofs.Leaves.{constant_is}
use Rattle.pat_elab.proofs.leaf.constant.Goals as goal

pub returns : goal.returns
returns c = record {
  is = λ place bs. constant_is c.args.state.now c.type_of_constant.new.state c.program_constant.new.state c.args.context.now place (constant_of c.args.constant.now)
      c.in_ok-literal.literal bs _ c.requires.context c.in_ok-ty.ensures.grows c.in_ok-ty.ensures.is c.in_ok-ty.ensures.has c.in_ok-ty.ensures.next
      c.in_ok-literal.ensures.grows c.in_ok-literal.ensures.is c.in_ok-literal.ensures.next refl;
}
