use Rattle.std.proofs.Common.{Some, refl, ap, sym, ◌∙◌}
use Rattle.std.proofs.lemmas.Option.{slice_get_within}
use Rattle.sml_tree.specs.TreeOf.{con_bind_of}
use Rattle.elab_context.specs.declared.entry.Built.TheVariants.{Declared}
use Rattle.elab_state.specs.States.{types_in}
use Rattle.datatype_decs.proofs.Adding.{one_more}
use Rattle.datatype_decs.proofs.constructors.add_constructor.Goals as goal

pub constructor_type-requires-clause-held : goal.constructor_type-requires-clause-held
constructor_type-requires-clause-held c = slice_get_within (types_in c.args.state.now) c.args.of.ty _ c.requires.is

pub returns : goal.returns
returns c =
    one_more c.args.state.now c.constructor_type.new.state c.args.context.now c.add_scheme.new.context c.args.of.name (con_bind_of c.args.bind.now) c.args.argument c.args.of.ty c.in_ok-body.body c.in_ok-scheme.scheme
    _ _ _ c.requires.is c.requires.below c.in_ok-body.ensures.step c.in_ok-body.ensures.is c.in_ok-scheme.ensures (ap (λ n. Declared n c.args.of.name) (sym c.number-number.ensures)) (c.in_ok-name.ensures.is ∙ ap Some (sym c.number-number.ensures)) refl
