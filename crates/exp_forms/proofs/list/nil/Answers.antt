use Rattle.sml_tree.specs.declared.ident.BuiltIn.TheVariants.{Nil}
use Rattle.exp_forms.proofs.Listing.{written_tree}
use Rattle.exp_forms.proofs.list.nil.Goals as goal

pub returns : goal.returns
returns c R = written_tree R Nil c.in_ok-at.at c.args.listed.at c.args.listed.join.ty _ c.in_ok-at.ensures c.number_of.ensures
