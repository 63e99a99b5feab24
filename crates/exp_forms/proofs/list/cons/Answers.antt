use Rattle.sml_tree.specs.declared.ident.BuiltIn.TheVariants.{Cons}
use Rattle.exp_forms.proofs.Listing.{written_tree}
use Rattle.exp_forms.proofs.list.cons.Goals as goal

pub returns : goal.returns
returns c R = written_tree R Cons c.in_ok-at.at c.args.listed.at c.args.listed.operator _ c.in_ok-at.ensures c.number_of.ensures
