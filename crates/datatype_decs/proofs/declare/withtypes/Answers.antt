use Rattle.std.proofs.Common.{◌∷◌, [], map, refl, sym, ap, subst, ◌∙◌}
use Rattle.sml_tree.specs.BareTree.{datatype_dec, type_dec}
use Rattle.sml_tree.specs.TreeOf.{data_bind_of, type_bind_of}
use Rattle.elab_steps.specs.Growing.{Begins}
use Rattle.datatype_forms.proofs.of_dec_forms.Sequence.{sequence_is}
use Rattle.datatype_forms.proofs.of_dec_forms.Several.{more_brought, none_brought}
use Rattle.datatype_forms.specs.Abbreviated.{binds_with}
use Rattle.datatype_forms.proofs.Abbreviating.{once_written}
use Rattle.datatype_decs.proofs.declare.withtypes.Goals as goal

pub returns-clause-schemes : goal.returns-clause-schemes
returns-clause-schemes c =
    subst (Begins c.args.context.now.schemes.items) (ap (λ z. z.items) (sym c.in_ok-abbreviations.ensures.schemes)) c.in_ok-datatypes_with.ensures.schemes

pub returns-clause-unrepeated : goal.returns-clause-unrepeated
returns-clause-unrepeated c = once_written (map type_bind_of c.args.abbreviations.now) (map data_bind_of c.args.binds.now) ∙ c.in_ok-datatypes_with.ensures.unrepeated

pub returns-clause-declared : goal.returns-clause-declared
returns-clause-declared c =
    let S = c.args.state.now in
    let C = c.args.context.now in
    let M = c.datatypes_with.new.state in
    let D = c.datatypes_with.new.context in
    let T = c.abbreviations.new.state in
    let E = c.abbreviations.new.context in
    let d = datatype_dec c.args.place (binds_with c.args.abbreviations.now c.args.binds.now) in
    let t = type_dec c.args.place (map type_bind_of c.args.abbreviations.now) in
    sequence_is S T C E c.args.place (d ∷ t ∷ []) [] c.args.brought.now c.abbreviations.new.brought
    (more_brought S M T C D E (d ∷ []) t [] [] [] c.args.brought.now c.datatypes_with.new.brought c.abbreviations.new.brought
    (more_brought S S M C C D [] d [] [] [] c.args.brought.now c.args.brought.now c.datatypes_with.new.brought (none_brought S C [] c.args.brought.now refl) c.in_ok-datatypes_with.ensures.declared refl)
    c.in_ok-abbreviations.ensures.declared refl)
