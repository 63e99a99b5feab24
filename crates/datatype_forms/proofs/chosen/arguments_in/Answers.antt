use Rattle.std.proofs.Common.{◌≡◌, map, sym, ap, ◌∙◌}
use Rattle.sml_tree.specs.TreeOf.{data_bind_of, type_bind_of}
use Rattle.elab_types.specs.Reading.{Holds}
use Rattle.elab_types.specs.declared.scope.TypeScope.{TypeScope}
use Rattle.elab_types.proofs.Keeping.{holds_later}
use Rattle.elab_state.specs.States.{types_in}
use Rattle.dec_forms.specs.Entries.{type_scope, types_onto}
use Rattle.datatype_forms.proofs.Abbreviating.{functions_hold, once_written}
use Rattle.datatype_forms.proofs.Best.{arguments_read, names_entered, scope_left}
use Rattle.datatype_forms.proofs.chosen.arguments_in.Goals as goal

pub function_entries-requires-clause-holds : goal.function_entries-requires-clause-holds
function_entries-requires-clause-holds c =
    names_entered c.args.state.now c.name_entries.new.state c.args.scope.now c.bind_entries.new.scope (map data_bind_of c.args.binds.now) c.args.names.now c.in_ok-entries.entries.items
    c.in_ok-entries.ensures.step c.requires.holds c.in_ok-entries.ensures.are
    (c.in_ok-bind_entries.ensures ∙ ap (λ l. type_scope c.args.scope.now.tyvars (types_onto c.args.scope.now.types l)) c.deref.ensures.value)

pub function_entries-requires-clause-none : goal.function_entries-requires-clause-none
function_entries-requires-clause-none c = ap (λ (z : TypeScope). z.tyvars) c.in_ok-bind_entries.ensures ∙ c.requires.none

pub read_binds-requires-clause-holds : goal.read_binds-requires-clause-holds
read_binds-requires-clause-holds c =
    let u = c.bind_entries.new.scope in
    let hold : Holds (types_in c.name_entries.new.state) u =
    names_entered c.args.state.now c.name_entries.new.state c.args.scope.now u (map data_bind_of c.args.binds.now) c.args.names.now c.in_ok-entries.entries.items c.in_ok-entries.ensures.step c.requires.holds
    c.in_ok-entries.ensures.are (c.in_ok-bind_entries.ensures ∙ ap (λ l. type_scope c.args.scope.now.tyvars (types_onto c.args.scope.now.types l)) c.deref.ensures.value) in
    let is : c.bind_entries-2.new.scope ≡ type_scope u.tyvars (types_onto u.types c.in_ok-functions.functions.items) =
    c.in_ok-bind_entries-2.ensures ∙ ap (λ l. type_scope c.function_entries.new.scope.tyvars (types_onto c.function_entries.new.scope.types l)) c.deref-2.ensures.value
    ∙ ap (λ (z : TypeScope). type_scope z.tyvars (types_onto z.types c.in_ok-functions.functions.items)) c.in_ok-functions.ensures.scope in
    functions_hold (types_in c.name_entries.new.state) (types_in c.function_entries.new.state) u u c.bind_entries-2.new.scope (map type_bind_of c.args.abbreviations.now) c.in_ok-functions.functions.items
    (holds_later (types_in c.name_entries.new.state) (types_in c.function_entries.new.state) u c.in_ok-functions.ensures.step.grows.types hold) c.in_ok-functions.ensures.are
    (ap (λ (z : TypeScope). z.tyvars) is) (ap (λ (z : TypeScope). z.types) is)

pub read_binds-requires-clause-none : goal.read_binds-requires-clause-none
read_binds-requires-clause-none c =
    ap (λ (z : TypeScope). z.tyvars) c.in_ok-bind_entries-2.ensures ∙ ap (λ (z : TypeScope). z.tyvars) c.in_ok-functions.ensures.scope ∙ ap (λ (z : TypeScope). z.tyvars) c.in_ok-bind_entries.ensures
    ∙ c.requires.none

pub returns-clause-are : goal.returns-clause-are
returns-clause-are c =
    let u = c.bind_entries.new.scope in
    let us : u ≡ type_scope c.args.scope.now.tyvars (types_onto c.args.scope.now.types c.in_ok-entries.entries.items) =
    c.in_ok-bind_entries.ensures ∙ ap (λ l. type_scope c.args.scope.now.tyvars (types_onto c.args.scope.now.types l)) c.deref.ensures.value in
    arguments_read c.args.state.now c.name_entries.new.state c.function_entries.new.state c.read_binds.new.state c.args.scope.now u c.bind_entries-2.new.scope (map type_bind_of c.args.abbreviations.now)
    (map data_bind_of c.args.binds.now) c.args.names.now c.in_ok-functions.functions.items _ c.in_ok-entries.ensures.step c.in_ok-functions.ensures.step c.in_ok-entries.ensures.are c.requires.holds
    (ap (λ (z : TypeScope). z.tyvars) us) (ap (λ (z : TypeScope). z.types) us) c.in_ok-functions.ensures.are c.requires.single
    (ap (λ (z : TypeScope). z.types) c.in_ok-bind_entries-2.ensures ∙ ap (types_onto c.function_entries.new.scope.types) c.deref-2.ensures.value
    ∙ ap (λ (z : TypeScope). types_onto z.types c.in_ok-functions.functions.items) c.in_ok-functions.ensures.scope) c.in_ok-rows.ensures.are

pub returns-clause-once : goal.returns-clause-once
returns-clause-once c = sym (once_written (map type_bind_of c.args.abbreviations.now) (map data_bind_of c.args.binds.now)) ∙ c.in_ok-rows.ensures.once

pub returns-clause-scope : goal.returns-clause-scope
returns-clause-scope c =
    scope_left c.args.scope.now c.bind_entries.new.scope c.function_entries.new.scope c.bind_entries-2.new.scope c.read_binds.new.scope c.leave.new.self c.deref.result.now c.deref-2.result.now c.mark-mark.result.tyvars
    c.mark-mark.result.types c.in_ok-bind_entries.ensures c.in_ok-functions.ensures.scope c.in_ok-bind_entries-2.ensures c.in_ok-rows.ensures.scope c.mark-mark.ensures.tyvars c.mark-mark.ensures.types c.leave.ensures.tyvars c.leave.ensures.types
