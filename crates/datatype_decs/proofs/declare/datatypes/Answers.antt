use Rattle.std.proofs.Common.{[], map, nat_eq, ap, subst, sym, ◌∙◌}
use Rattle.std.proofs.lemmas.List.{append-nil}
use Rattle.std.specs.List.{list_all}
use Rattle.sml_tree.specs.BareTree.{DataBind, datatype_dec}
use Rattle.sml_tree.specs.TreeOf.{data_bind_of}
use Rattle.core_rules.specs.Restrictions.{distinct, no_repetition}
use Rattle.datatype_forms.specs.of_dec_forms.Bringing.{IsBringing}
use Rattle.datatype_decs.proofs.Written.{none_written}
use Rattle.datatype_decs.proofs.declare.datatypes.Goals as goal

pub returns-clause-once : goal.returns-clause-once
returns-clause-once c = ap (distinct nat_eq) (sym (append-nil (map (λ b. b.tycon) (map data_bind_of c.args.binds.now)))) ∙ c.in_ok-datatypes_with.ensures.once

pub returns-clause-unrepeated : goal.returns-clause-unrepeated
returns-clause-unrepeated c =
    ap (list_all (λ (b : DataBind). no_repetition b.tyvars)) (sym (none_written (map data_bind_of c.args.binds.now))) ∙ c.in_ok-datatypes_with.ensures.unrepeated

pub returns-clause-declared : goal.returns-clause-declared
returns-clause-declared c =
    subst (λ bs. IsBringing c.args.state.now c.args.context.now (datatype_dec c.args.place bs) c.datatypes_with.new.state c.datatypes_with.new.context [] c.args.brought.now c.datatypes_with.new.brought)
    (none_written (map data_bind_of c.args.binds.now)) c.in_ok-datatypes_with.ensures.declared
