use Rattle.std.proofs.Common.{List, length, map, sym, ap, subst, ◌∙◌}
use Rattle.std.proofs.lemmas.List.{length-map}
use Rattle.ty_core.specs.declared.name.TyName.{TyName}
use Rattle.sml_tree.specs.TreeOf.{data_bind_of}
use Rattle.elab_context.specs.Entries.{number_in}
use Rattle.elab_state.specs.States.{types_in}
use Rattle.datatype_forms.specs.Arguments.{AreRowsOf, rows_at}
use Rattle.datatype_forms.specs.Best.{rows_of}
use Rattle.datatype_forms.specs.Constructed.{AllRows}
use Rattle.datatype_forms.proofs.InNames.{entries-later}
use Rattle.datatype_decs.proofs.Declared.{are_constructed}
use Rattle.datatype_decs.proofs.Placing.{entries_counted, rows_of_later}
use Rattle.datatype_decs.proofs.declare.constructors.Goals as goal

pub all_constructors-requires-clause-entries : goal.all_constructors-requires-clause-entries
all_constructors-requires-clause-entries c =
    entries-later (types_in c.args.state.now) (types_in c.add_names.new.state) (map data_bind_of c.args.binds.now) c.args.made.now.names.items c.args.made.now.arguments.entries.items
    c.in_ok-add_names.ensures.step.grows.types c.requires.entries

pub all_constructors-requires-clause-fit : goal.all_constructors-requires-clause-fit
all_constructors-requires-clause-fit c =
    rows_of_later (types_in c.args.state.now) (types_in c.add_names.new.state) (map data_bind_of c.args.binds.now) (rows_of c.args.made.now.arguments) c.in_ok-add_names.ensures.step.grows.types c.requires.fit

pub add_rows-requires-clause-count : goal.add_rows-requires-clause-count
add_rows-requires-clause-count c =
    ap length c.deref.ensures.value
    ∙ (entries_counted (types_in c.args.state.now) (map data_bind_of c.args.binds.now) c.args.made.now.names.items c.args.made.now.arguments.entries.items c.requires.entries).0
    ∙ length-map c.args.binds.now data_bind_of

pub add_rows-requires-clause-fit : goal.add_rows-requires-clause-fit
add_rows-requires-clause-fit c =
    subst (λ kss. AreRowsOf (types_in c.all_constructors.new.state) (map data_bind_of c.args.binds.now) (map (λ ks. ks.items) kss)) (sym c.deref-2.ensures.value)
    (rows_of_later (types_in c.add_names.new.state) (types_in c.all_constructors.new.state) (map data_bind_of c.args.binds.now) (rows_of c.args.made.now.arguments) c.in_ok-values.ensures.step.grows.types
    (rows_of_later (types_in c.args.state.now) (types_in c.add_names.new.state) (map data_bind_of c.args.binds.now) (rows_of c.args.made.now.arguments) c.in_ok-add_names.ensures.step.grows.types c.requires.fit))

pub returns : goal.returns
returns c =
    let N = c.all_constructors.new.state in
    let T = c.add_rows.new.state in
    let D = c.all_constructors.new.context in
    are_constructed c.args.state.now c.add_names.new.state N T c.args.context.now c.add_names.new.context D c.args.made.now.names.items (map data_bind_of c.args.binds.now) (rows_of c.args.made.now.arguments)
    c.in_ok-values.values.items _ (sym (length-map c.args.binds.now data_bind_of)) c.in_ok-add_names.ensures c.in_ok-values.ensures c.in_ok-add_rows.ensures.step c.in_ok-add_rows.ensures.types
    (subst (λ kss. AllRows T (number_in D) D.names c.args.made.now.names.items (map data_bind_of c.args.binds.now) (rows_at (types_in N) (map (λ ks. ks.items) kss))) c.deref-2.ensures.value
    (subst (λ (ns : List TyName). AllRows T (number_in D) D.names ns (map data_bind_of c.args.binds.now) (rows_at (types_in N) (map (λ ks. ks.items) c.deref-2.result.now))) c.deref.ensures.value
    c.in_ok-add_rows.ensures.rows)) c.requires.fit
