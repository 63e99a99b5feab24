use Rattle.std.proofs.Common.{length, map, sym, ap, subst, ◌∙◌}
use Rattle.std.proofs.lemmas.List.{length-map}
use Rattle.sml_tree.specs.TreeOf.{data_bind_of, type_bind_of}
use Rattle.elab_state.specs.States.{types_in}
use Rattle.datatype_forms.specs.Arguments.{AreStanding, RowsOver, rows_at}
use Rattle.datatype_forms.proofs.Abbreviating.{standing_written}
use Rattle.datatype_forms.proofs.Best.{standing_length}
use Rattle.datatype_forms.proofs.chosen.check_in_use.Goals as goal

pub arguments_in-requires-clause-count : goal.arguments_in-requires-clause-count
arguments_in-requires-clause-count c =
    ap length c.deref.ensures.value ∙ standing_length c.in_ok-names.names.items (map data_bind_of c.args.binds.now) c.in_ok-names.ensures ∙ length-map c.args.binds.now data_bind_of

pub returns-clause-are : goal.returns-clause-are
returns-clause-are c = record {
  names = c.deref.result.now;
  standing =
      standing_written (map type_bind_of c.args.abbreviations.now) c.deref.result.now (map data_bind_of c.args.binds.now)
      (subst (λ ns. AreStanding ns (map data_bind_of c.args.binds.now)) (sym c.deref.ensures.value) c.in_ok-names.ensures);
  arguments = c.in_ok-arguments.arguments;
  read = c.in_ok-arguments.ensures.are;
  over =
      subst (λ kss. RowsOver c.args.first (rows_at (types_in c.arguments_in.new.state) (map (λ ks. ks.items) kss))) c.deref-2.ensures.value c.in_ok-check_over.ensures;
}
