use Rattle.std.proofs.Common.{◌≡◌, ℕ, List, Option, Some, None, get_or, length, map, nat_eq, take, refl, sym, ap, subst, arith, ◌∙◌}
use Rattle.std.specs.Map.{lookup}
use Rattle.std.proofs.lemmas.List.{length-map}
use Rattle.ty_core.specs.declared.name.Equality.TheVariants.{Always}
use Rattle.ty_core.specs.declared.name.TyName.{TyName}
use Rattle.sml_tree.specs.TreeOf.{con_bind_of, data_bind_of}
use Rattle.sml_tree.specs.declared.tree.ConBind.{ConBind}
use Rattle.sml_tree.specs.declared.tree.DataBind.{DataBind as Bind}
use Rattle.elab_context.specs.Entries.{number_in}
use Rattle.elab_state.specs.States.{types_in}
use Rattle.datatype_forms.specs.Arguments.{row_at, rows_at}
use Rattle.datatype_forms.specs.Constructed.{AllRows, EachRow, no_rows}
use Rattle.datatype_forms.proofs.Collecting.{rows_counted, taken_next}
use Rattle.datatype_forms.proofs.InNames.{take-at}
use Rattle.datatype_forms.proofs.Stepping.{step_on, step_same}
use Rattle.datatype_decs.proofs.AddingRows.{all_rows_next}
use Rattle.datatype_decs.proofs.Placing.{row_there, taken_all}
use Rattle.datatype_decs.proofs.rows.add_rows.Goals as goal

-- what stands for no name
abbrev no_name : TyName
no_name = record { stamp = 0; arity = 0; equality = Always }

none-some : {A : Type 0} (o : Option ℕ) (n : ℕ) → o ≡ None → o ≡ Some n → A
none-some o n e f = absurd (let z : None ≡ Some n = sym e ∙ f in cc)

pub loop-i-init : goal.loop-i-init
loop-i-init c = record {
  step = step_same c.args.state.now;
  types = refl;
  knows = λ k n e. none-some (lookup (nat_eq k) c.new-known.result.entries) n (ap (lookup (nat_eq k)) c.new-known.ensures.empty) e;
  rows = no_rows;
}

pub bounds-rows-i : goal.bounds-rows-i
bounds-rows-i c =
    let n = rows_counted (types_in c.args.state.now) (map data_bind_of c.args.binds.now) (map (λ ks. ks.items) c.args.rows.now) c.requires.fit in
    let m = length-map c.args.binds.now data_bind_of in
    let k = length-map c.args.rows.now (λ ks. ks.items) in
    omega (arith, n, m, k, c.loop-i-test.true)

pub add_rows_of-requires-clause-count : goal.add_rows_of-requires-clause-count
add_rows_of-requires-clause-count c =
    ap length c.deref-in-loop-i.ensures.value
    ∙ (row_there data_bind_of (λ ks. ks.items) (types_in c.args.state.now) c.args.binds.now c.args.rows.now c.loop-i.i c.index-binds-i.result c.index-rows-i.result c.requires.fit c.loop-i-test.true
    c.index-binds-i.is c.index-rows-i.is).count
    ∙ length-map c.index-binds-i.result.cons.items con_bind_of ∙ sym (ap length (c.deref.ensures.value ∙ sym (ap (λ (z : Bind). z.cons.items) c.index-binds-i.is)))

pub loop-i-preserved : goal.loop-i-preserved
loop-i-preserved c =
    let S = c.args.state.now in
    let M = c.loop-i.state in
    let T = c.add_rows_of.new.state in
    let y = get_or c.args.names.now c.loop-i.i no_name in
    let f = number_in c.args.context.now in
    let limit = c.args.context.now.names in
    let e = c.in_ok-add_rows_of.ensures in
    let same = c.requires.count in
    let n = rows_counted (types_in S) (map data_bind_of c.args.binds.now) (map (λ ks. ks.items) c.args.rows.now) c.requires.fit in
    let m = length-map c.args.binds.now data_bind_of in
    let k = length-map c.args.rows.now (λ ks. ks.items) in
    let each : EachRow T f limit y (map con_bind_of c.index-binds-i.result.cons.items) (row_at (types_in S) c.index-rows-i.result.items) =
    subst (λ ts. EachRow T f limit y (map con_bind_of c.index-binds-i.result.cons.items) (row_at ts c.index-rows-i.result.items)) c.loop-i.invariant.types
    (subst (λ ks. EachRow T f limit y (map con_bind_of c.index-binds-i.result.cons.items) (row_at (types_in M) ks))
    c.deref-in-loop-i.ensures.value
    (subst (λ (bs : List ConBind). EachRow T f limit y (map con_bind_of bs) (row_at (types_in M) c.deref-in-loop-i.result.now))
    (c.deref.ensures.value ∙ sym (ap (λ (z : Bind). z.cons.items) c.index-binds-i.is)) (e.each y c.program_name-datatype.ensures))) in
    record {
      step = step_on S M T c.loop-i.invariant.step e.step.step;
      types = e.step.types ∙ c.loop-i.invariant.types;
      knows = e.step.knows;
      rows =
          all_rows_next M T (types_in S) f limit (take c.loop-i.i c.args.names.now) _ (map data_bind_of (take c.loop-i.i c.args.binds.now)) _ (map (λ ks. ks.items) (take c.loop-i.i c.args.rows.now)) _ y
          (data_bind_of c.index-binds-i.result) c.index-rows-i.result.items e.step.step.grows c.loop-i.invariant.rows each
          (take-at c.args.names.now c.loop-i.i no_name (omega (arith, same, c.loop-i-test.true)))
          (taken_next data_bind_of c.args.binds.now c.loop-i.i c.index-binds-i.result c.loop-i-test.true c.index-binds-i.is)
          (taken_next (λ ks. ks.items) c.args.rows.now c.loop-i.i c.index-rows-i.result (omega (arith, n, m, k, c.loop-i-test.true)) c.index-rows-i.is);
    }

pub returns-clause-rows : goal.returns-clause-rows
returns-clause-rows c =
    let S = c.args.state.now in
    let M = c.loop-i.state in
    let f = number_in c.args.context.now in
    let limit = c.args.context.now.names in
    let same = c.requires.count in
    let n = rows_counted (types_in S) (map data_bind_of c.args.binds.now) (map (λ ks. ks.items) c.args.rows.now) c.requires.fit in
    let m = length-map c.args.binds.now data_bind_of in
    let k = length-map c.args.rows.now (λ ks. ks.items) in
    subst (λ ys. AllRows M f limit ys (map data_bind_of c.args.binds.now) (rows_at (types_in S) (map (λ ks. ks.items) c.args.rows.now)))
    (taken_all c.args.names.now c.loop-i.i (omega (arith, same, c.loop-i-test.false)))
    (subst (λ bs. AllRows M f limit (take c.loop-i.i c.args.names.now) (map data_bind_of bs) (rows_at (types_in S) (map (λ ks. ks.items) c.args.rows.now)))
    (taken_all c.args.binds.now c.loop-i.i (omega (arith, c.loop-i-test.false)))
    (subst (λ kss. AllRows M f limit (take c.loop-i.i c.args.names.now) (map data_bind_of (take c.loop-i.i c.args.binds.now)) (rows_at (types_in S) (map (λ ks. ks.items) kss)))
    (taken_all c.args.rows.now c.loop-i.i (omega (arith, n, m, k, c.loop-i-test.false))) c.loop-i.invariant.rows))
