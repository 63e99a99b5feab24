use Rattle.std.proofs.Common.{List, length, map, take, sym, ap, subst, arith, ◌∙◌}
use Rattle.std.proofs.lemmas.List.{length-map}
use Rattle.sml_tree.specs.TreeOf.{con_bind_of, data_bind_of}
use Rattle.sml_tree.specs.declared.tree.ConBind.{ConBind}
use Rattle.sml_tree.specs.declared.tree.DataBind.{DataBind as Bind}
use Rattle.ty_instance.proofs.Going.{longer}
use Rattle.elab_state.specs.States.{types_in}
use Rattle.elab_steps.proofs.Growing.{found-later}
use Rattle.datatype_forms.specs.Arguments.{RowBelow, RowHeld}
use Rattle.datatype_forms.specs.Best.{rows_of}
use Rattle.datatype_forms.proofs.Best.{standing_length}
use Rattle.datatype_forms.proofs.Collecting.{rows_counted, taken_next}
use Rattle.datatype_forms.proofs.InNames.{take-next}
use Rattle.datatype_decs.specs.Adding.{AreAllMore, AreMore}
use Rattle.datatype_decs.proofs.Adding.{all_more_next, no_datatypes_more}
use Rattle.datatype_decs.proofs.Placing.{entries_counted, entry_there, row_below_later, row_held_later, row_there, standing_there, taken_all}
use Rattle.datatype_decs.proofs.constructors.all_constructors.Goals as goal

pub loop-i-init : goal.loop-i-init
loop-i-init c = no_datatypes_more c.args.state.now c.args.context.now _ c.new-values.ensures.items

pub index-requires : goal.index-requires
index-requires c =
    let n = standing_length c.args.made.now.names.items (map data_bind_of c.args.binds.now) c.requires.standing in
    let m = length-map c.args.binds.now data_bind_of in
    omega (arith, n, m, c.loop-i-test.true)

pub index-requires-in-loop-i : goal.index-requires-in-loop-i
index-requires-in-loop-i c =
    let n = (entries_counted (types_in c.args.state.now) (map data_bind_of c.args.binds.now) c.args.made.now.names.items c.args.made.now.arguments.entries.items c.requires.entries).1 in
    let m = length-map c.args.binds.now data_bind_of in
    omega (arith, n, m, c.loop-i-test.true)

pub index-requires-in-loop-i-2 : goal.index-requires-in-loop-i-2
index-requires-in-loop-i-2 c =
    let n = rows_counted (types_in c.args.state.now) (map data_bind_of c.args.binds.now) (rows_of c.args.made.now.arguments) c.requires.fit in
    let m = length-map c.args.binds.now data_bind_of in
    let k = length-map c.args.made.now.arguments.rows.items (λ ks. ks.items) in
    omega (arith, n, m, k, c.loop-i-test.true)

pub add_constructors-requires-clause-is : goal.add_constructors-requires-clause-is
add_constructors-requires-clause-is c =
    found-later (types_in c.args.state.now) (types_in c.loop-i.state) c.index-in-loop-i.result.now.1.body _ c.loop-i.invariant.step.grows.types
    (entry_there data_bind_of (types_in c.args.state.now) c.args.binds.now c.args.made.now.names.items c.args.made.now.arguments.entries.items c.loop-i.i c.index.result.now c.index-in-loop-i.result.now
    c.requires.entries c.loop-i-test.true c.index.ensures c.index-in-loop-i.ensures).body

pub add_constructors-requires-clause-count : goal.add_constructors-requires-clause-count
add_constructors-requires-clause-count c =
    ap length c.deref-in-loop-i.ensures.value
    ∙ (row_there data_bind_of (λ ks. ks.items) (types_in c.args.state.now) c.args.binds.now c.args.made.now.arguments.rows.items c.loop-i.i c.index-binds-i.result c.index-in-loop-i-2.result.now c.requires.fit
    c.loop-i-test.true c.index-binds-i.is c.index-in-loop-i-2.ensures).count
    ∙ length-map c.index-binds-i.result.cons.items con_bind_of ∙ sym (ap length (c.deref.ensures.value ∙ sym (ap (λ (z : Bind). z.cons.items) c.index-binds-i.is)))

pub add_constructors-requires-clause-held : goal.add_constructors-requires-clause-held
add_constructors-requires-clause-held c =
    subst (RowHeld (length (types_in c.loop-i.state))) (sym c.deref-in-loop-i.ensures.value)
    (row_held_later (length (types_in c.args.state.now)) (length (types_in c.loop-i.state)) c.index-in-loop-i-2.result.now.items
    (longer (types_in c.args.state.now) (types_in c.loop-i.state) c.loop-i.invariant.step.grows.types)
    (row_there data_bind_of (λ ks. ks.items) (types_in c.args.state.now) c.args.binds.now c.args.made.now.arguments.rows.items c.loop-i.i c.index-binds-i.result c.index-in-loop-i-2.result.now c.requires.fit
    c.loop-i-test.true c.index-binds-i.is c.index-in-loop-i-2.ensures).held)

pub add_constructors-requires-clause-below : goal.add_constructors-requires-clause-below
add_constructors-requires-clause-below c =
    let r = row_there data_bind_of (λ ks. ks.items) (types_in c.args.state.now) c.args.binds.now c.args.made.now.arguments.rows.items c.loop-i.i c.index-binds-i.result c.index-in-loop-i-2.result.now
    c.requires.fit c.loop-i-test.true c.index-binds-i.is c.index-in-loop-i-2.ensures in
    subst (RowBelow c.index.result.now.arity (types_in c.loop-i.state)) (sym c.deref-in-loop-i.ensures.value)
    (subst (λ n. RowBelow n (types_in c.loop-i.state) c.index-in-loop-i-2.result.now.items)
    (sym (standing_there data_bind_of c.args.binds.now c.args.made.now.names.items c.loop-i.i c.index.result.now c.index-binds-i.result c.requires.standing c.loop-i-test.true c.index.ensures c.index-binds-i.is))
    (row_below_later (length c.index-binds-i.result.tyvars.items) (types_in c.args.state.now) (types_in c.loop-i.state) c.index-in-loop-i-2.result.now.items c.loop-i.invariant.step.grows.types r.held r.below))

pub loop-i-preserved : goal.loop-i-preserved
loop-i-preserved c =
    let S = c.args.state.now in
    let M = c.loop-i.state in
    let T = c.add_constructors.new.state in
    let y = c.index.result.now in
    let n = standing_length c.args.made.now.names.items (map data_bind_of c.args.binds.now) c.requires.standing in
    let m = length-map c.args.binds.now data_bind_of in
    let l = rows_counted (types_in S) (map data_bind_of c.args.binds.now) (rows_of c.args.made.now.arguments) c.requires.fit in
    let k = length-map c.args.made.now.arguments.rows.items (λ ks. ks.items) in
    all_more_next S M T c.args.context.now c.loop-i.context c.add_constructors.new.context (take c.loop-i.i c.args.made.now.names.items) _ (map data_bind_of (take c.loop-i.i c.args.binds.now)) _
    (map (λ ks. ks.items) (take c.loop-i.i c.args.made.now.arguments.rows.items)) _ c.loop-i.values.items c.add_constructors.new.values.items y (data_bind_of c.index-binds-i.result)
    c.index-in-loop-i-2.result.now.items c.loop-i.invariant
    (subst (λ ks. AreMore M c.loop-i.context y (map con_bind_of c.index-binds-i.result.cons.items) ks T c.add_constructors.new.context c.loop-i.values.items c.add_constructors.new.values.items)
    c.deref-in-loop-i.ensures.value
    (subst (λ (bs : List ConBind). AreMore M c.loop-i.context y (map con_bind_of bs) c.deref-in-loop-i.result.now T c.add_constructors.new.context c.loop-i.values.items c.add_constructors.new.values.items)
    (c.deref.ensures.value ∙ sym (ap (λ (z : Bind). z.cons.items) c.index-binds-i.is)) c.in_ok-add_constructors.ensures))
    (row_there data_bind_of (λ ks. ks.items) (types_in S) c.args.binds.now c.args.made.now.arguments.rows.items c.loop-i.i c.index-binds-i.result c.index-in-loop-i-2.result.now c.requires.fit c.loop-i-test.true
    c.index-binds-i.is c.index-in-loop-i-2.ensures).held
    (take-next c.args.made.now.names.items c.loop-i.i y (omega (arith, n, m, c.loop-i-test.true)) c.index.ensures)
    (taken_next data_bind_of c.args.binds.now c.loop-i.i c.index-binds-i.result c.loop-i-test.true c.index-binds-i.is)
    (taken_next (λ ks. ks.items) c.args.made.now.arguments.rows.items c.loop-i.i c.index-in-loop-i-2.result.now (omega (arith, l, m, k, c.loop-i-test.true)) c.index-in-loop-i-2.ensures)

pub returns : goal.returns
returns c =
    let S = c.args.state.now in
    let C = c.args.context.now in
    let M = c.loop-i.state in
    let D = c.loop-i.context in
    let n = standing_length c.args.made.now.names.items (map data_bind_of c.args.binds.now) c.requires.standing in
    let m = length-map c.args.binds.now data_bind_of in
    let l = rows_counted (types_in S) (map data_bind_of c.args.binds.now) (rows_of c.args.made.now.arguments) c.requires.fit in
    let k = length-map c.args.made.now.arguments.rows.items (λ ks. ks.items) in
    subst (λ ys. AreAllMore S C ys (map data_bind_of c.args.binds.now) (rows_of c.args.made.now.arguments) M D c.loop-i.values.items)
    (taken_all c.args.made.now.names.items c.loop-i.i (omega (arith, n, m, c.loop-i-test.false)))
    (subst (λ bs. AreAllMore S C (take c.loop-i.i c.args.made.now.names.items) (map data_bind_of bs) (rows_of c.args.made.now.arguments) M D c.loop-i.values.items)
    (taken_all c.args.binds.now c.loop-i.i (omega (arith, c.loop-i-test.false)))
    (subst (λ kss. AreAllMore S C (take c.loop-i.i c.args.made.now.names.items) (map data_bind_of (take c.loop-i.i c.args.binds.now)) (map (λ ks. ks.items) kss) M D c.loop-i.values.items)
    (taken_all c.args.made.now.arguments.rows.items c.loop-i.i (omega (arith, l, m, k, c.loop-i-test.false))) c.loop-i.invariant))
