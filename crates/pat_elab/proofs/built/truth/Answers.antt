use Rattle.std.proofs.Common.{ap}
use Rattle.prog_tree.specs.declared.tree.Pat.TheVariants as tree
use Rattle.pat_elab.proofs.Listing.{truth_is}
use Rattle.pat_elab.proofs.built.truth.Goals as goal

pub returns : goal.returns
returns c = record {
  is = λ p bs. truth_is c.args.state.now c.apply.new.state c.args.context.now p c.args.built bs _ c.requires.context c.requires.truth c.in_ok-ty.ensures.grows c.in_ok-ty.ensures.is c.in_ok-ty.ensures.made
      c.in_ok-ty.ensures.next (ap tree.Constructor c.number_of.ensures);
}
