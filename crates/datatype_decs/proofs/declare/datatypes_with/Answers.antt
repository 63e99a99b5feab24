use Rattle.std.proofs.Common.{◌++◌, ℕ, List, length, map, nat_eq, sym, ap, ap₂, subst, ◌∙◌}
use Rattle.std.proofs.lemmas.List.{length-map}
use Rattle.ty_core.specs.declared.name.TyName.{TyName}
use Rattle.sml_tree.specs.Derived.{expand_bind}
use Rattle.sml_tree.specs.TreeOf.{data_bind_of, type_bind_of}
use Rattle.sml_tree.specs.declared.ident.Vid.{Vid}
use Rattle.core_rules.specs.Restrictions.{distinct}
use Rattle.core_rules.specs.Words.{same_vid}
use Rattle.elab_types.specs.declared.scope.TypeEntry.{TypeEntry}
use Rattle.elab_types.specs.declared.scope.TypeScope.{TypeScope}
use Rattle.elab_state.specs.States.{types_in}
use Rattle.elab_context.specs.declared.context.Context.{Context}
use Rattle.elab_context.specs.declared.entry.Entry.{Entry}
use Rattle.elab_context.specs.Telling.{vids_in}
use Rattle.datatype_forms.specs.of_dec_forms.Entries.{with_types}
use Rattle.datatype_forms.specs.of_dec_forms.Telling.{with_all}
use Rattle.datatype_forms.specs.Abbreviated.{binds_with}
use Rattle.datatype_forms.specs.Arguments.{AreStanding}
use Rattle.datatype_forms.specs.Best.{AreOnce, rows_of}
use Rattle.datatype_forms.proofs.Abbreviating.{tycons_written}
use Rattle.datatype_forms.proofs.Bringing.{distinct_parts}
use Rattle.datatype_decs.specs.Whole.{AreConstructed}
use Rattle.datatype_decs.proofs.Declared.{among_later, names_stand, whole_brings, whole_in_context, whole_schemes}
use Rattle.datatype_decs.proofs.Placing.{entries_counted}
use Rattle.datatype_decs.proofs.Written.{constructed_written, entries_unwritten, rows_unwritten, standing_unwritten, types_ranged}
use Rattle.datatype_decs.proofs.declare.datatypes_with.Goals as goal

pub data_arguments-requires-clause-holds : goal.data_arguments-requires-clause-holds
data_arguments-requires-clause-holds c = c.requires.holds

pub data_arguments-requires-clause-single : goal.data_arguments-requires-clause-single
data_arguments-requires-clause-single c =
    (distinct_parts nat_eq (map (λ b. b.tycon) (map data_bind_of c.args.binds.now)) (map (λ b. b.tycon) (map type_bind_of c.args.abbreviations.now)) c.in_ok-check_tycons.ensures).1

pub with_constructors-requires : goal.with_constructors-requires
with_constructors-requires c =
    let made = c.in_ok-made.made in
    let as_ = map type_bind_of c.args.abbreviations.now in
    ap length c.deref.ensures.value
    ∙ (entries_counted (types_in c.data_arguments.new.state) (binds_with c.args.abbreviations.now c.args.binds.now) made.names.items made.arguments.entries.items c.in_ok-made.ensures.are.entries).1
    ∙ length-map (map data_bind_of c.args.binds.now) (expand_bind as_) ∙ length-map c.args.binds.now data_bind_of

pub constructors-requires-clause-among : goal.constructors-requires-clause-among
constructors-requires-clause-among c =
    among_later c.args.state.now.namings.items c.data_arguments.new.state.namings.items c.args.context.now.naming c.in_ok-made.ensures.are.step.grows.namings c.requires.naming

pub constructors-requires-clause-standing : goal.constructors-requires-clause-standing
constructors-requires-clause-standing c =
    let a = c.in_ok-made.ensures.are in
    let ds = binds_with c.args.abbreviations.now c.args.binds.now in
    standing_unwritten (map type_bind_of c.args.abbreviations.now) c.in_ok-made.made.names.items (map data_bind_of c.args.binds.now)
    (subst (λ (ns : List TyName). AreStanding ns ds) (sym a.names) (names_stand c.args.context.now.names a.marks ds a.count))

pub constructors-requires-clause-entries : goal.constructors-requires-clause-entries
constructors-requires-clause-entries c =
    entries_unwritten (types_in c.data_arguments.new.state) (map type_bind_of c.args.abbreviations.now) (map data_bind_of c.args.binds.now) c.in_ok-made.made.names.items
    c.in_ok-made.made.arguments.entries.items c.in_ok-made.ensures.are.entries

pub constructors-requires-clause-fit : goal.constructors-requires-clause-fit
constructors-requires-clause-fit c =
    rows_unwritten (types_in c.data_arguments.new.state) (map type_bind_of c.args.abbreviations.now) (map data_bind_of c.args.binds.now) (rows_of c.in_ok-made.made.arguments) c.in_ok-made.ensures.are.rows

pub returns-clause-context : goal.returns-clause-context
returns-clause-context c =
    let C : Context = c.args.context.now in
    let M = c.data_arguments.new.state in
    let T = c.constructors.new.state in
    let E = c.constructors.new.context in
    let made = c.in_ok-made.made in
    let bs = map data_bind_of c.args.binds.now in
    let as_ = map type_bind_of c.args.abbreviations.now in
    let once : AreOnce (binds_with c.args.abbreviations.now c.args.binds.now) =
    ap (distinct nat_eq) (sym (tycons_written as_ bs)) ∙ (distinct_parts nat_eq (map (λ b. b.tycon) bs) (map (λ b. b.tycon) as_) c.in_ok-check_tycons.ensures).0 in
    let types = types_ranged as_ (length C.schemes.items) c.len-scheme.result bs made.arguments.entries.items c.deref.result.now c.in_ok-types.types.items c.in_ok-types.ensures c.len-scheme.ensures c.deref.ensures.value in
    whole_in_context c.args.state.now M T C E (binds_with c.args.abbreviations.now c.args.binds.now) made.names.items made.arguments c.in_ok-values.values.items c.requires once c.in_ok-made.ensures.are
    (constructed_written M T C E as_ made.names.items bs (rows_of made.arguments) c.in_ok-values.values.items
    (subst (λ (s : TypeScope). AreConstructed M (record C { types = s }) made.names.items bs (rows_of made.arguments) T E c.in_ok-values.values.items) c.in_ok-made.ensures.scope c.in_ok-values.ensures))
    c.bring_types.new.context
    (c.in_ok-bring_types.ensures
    ∙ ap₂ (λ (z : Context) (l : List (ℕ × TypeEntry)). with_types z l) (c.in_ok-bring_values.ensures ∙ ap (with_all E) c.deref-3.ensures.value) (c.deref-4.ensures.value ∙ types))
    (ap (λ (l : List (Vid × Entry)). distinct same_vid (vids_in l)) (sym c.deref-2.ensures.value) ∙ c.in_ok-check_values.ensures.once)

pub returns-clause-schemes : goal.returns-clause-schemes
returns-clause-schemes c =
    let C : Context = c.args.context.now in
    let M = c.data_arguments.new.state in
    let T = c.constructors.new.state in
    let E = c.constructors.new.context in
    let made = c.in_ok-made.made in
    let bs = map data_bind_of c.args.binds.now in
    let as_ = map type_bind_of c.args.abbreviations.now in
    let once : AreOnce (binds_with c.args.abbreviations.now c.args.binds.now) =
    ap (distinct nat_eq) (sym (tycons_written as_ bs)) ∙ (distinct_parts nat_eq (map (λ b. b.tycon) bs) (map (λ b. b.tycon) as_) c.in_ok-check_tycons.ensures).0 in
    let types = types_ranged as_ (length C.schemes.items) c.len-scheme.result bs made.arguments.entries.items c.deref.result.now c.in_ok-types.types.items c.in_ok-types.ensures c.len-scheme.ensures c.deref.ensures.value in
    whole_schemes c.args.state.now M T C E (binds_with c.args.abbreviations.now c.args.binds.now) made.names.items made.arguments c.in_ok-values.values.items c.requires once c.in_ok-made.ensures.are
    (constructed_written M T C E as_ made.names.items bs (rows_of made.arguments) c.in_ok-values.values.items
    (subst (λ (s : TypeScope). AreConstructed M (record C { types = s }) made.names.items bs (rows_of made.arguments) T E c.in_ok-values.values.items) c.in_ok-made.ensures.scope c.in_ok-values.ensures))
    c.bring_types.new.context
    (c.in_ok-bring_types.ensures
    ∙ ap₂ (λ (z : Context) (l : List (ℕ × TypeEntry)). with_types z l) (c.in_ok-bring_values.ensures ∙ ap (with_all E) c.deref-3.ensures.value) (c.deref-4.ensures.value ∙ types))

pub returns-clause-declared : goal.returns-clause-declared
returns-clause-declared c =
    let C : Context = c.args.context.now in
    let M = c.data_arguments.new.state in
    let T = c.constructors.new.state in
    let E = c.constructors.new.context in
    let made = c.in_ok-made.made in
    let bs = map data_bind_of c.args.binds.now in
    let as_ = map type_bind_of c.args.abbreviations.now in
    let once : AreOnce (binds_with c.args.abbreviations.now c.args.binds.now) =
    ap (distinct nat_eq) (sym (tycons_written as_ bs)) ∙ (distinct_parts nat_eq (map (λ b. b.tycon) bs) (map (λ b. b.tycon) as_) c.in_ok-check_tycons.ensures).0 in
    let types = types_ranged as_ (length C.schemes.items) c.len-scheme.result bs made.arguments.entries.items c.deref.result.now c.in_ok-types.types.items c.in_ok-types.ensures c.len-scheme.ensures c.deref.ensures.value in
    whole_brings c.args.state.now M T C E (binds_with c.args.abbreviations.now c.args.binds.now) made.names.items made.arguments c.in_ok-values.values.items c.requires once c.in_ok-made.ensures.are
    (constructed_written M T C E as_ made.names.items bs (rows_of made.arguments) c.in_ok-values.values.items
    (subst (λ (s : TypeScope). AreConstructed M (record C { types = s }) made.names.items bs (rows_of made.arguments) T E c.in_ok-values.values.items) c.in_ok-made.ensures.scope c.in_ok-values.ensures))
    c.args.place c.bring_types.new.context c.args.brought.now c.add_types.new.self
    (c.in_ok-bring_types.ensures
    ∙ ap₂ (λ (z : Context) (l : List (ℕ × TypeEntry)). with_types z l) (c.in_ok-bring_values.ensures ∙ ap (with_all E) c.deref-3.ensures.value) (c.deref-4.ensures.value ∙ types))
    (ap (λ (l : List (Vid × Entry)). distinct same_vid (vids_in l)) (sym c.deref-2.ensures.value) ∙ c.in_ok-check_values.ensures.once)
    (ap (λ z. z.items) c.add_types.ensures.values ∙ c.in_ok-add_values.ensures.values ∙ ap (λ (l : List (Vid × Entry)). c.args.brought.now.values.items ++ l) c.deref-5.ensures.value)
    (c.in_ok-add_types.ensures.types ∙ ap₂ (λ (k l : List (ℕ × TypeEntry)). k ++ l) (ap (λ z. z.items) c.add_values.ensures.types) (c.deref-6.ensures.value ∙ types))
