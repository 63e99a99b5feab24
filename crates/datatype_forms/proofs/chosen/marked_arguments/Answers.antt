use Rattle.std.proofs.Common.{◌≡◌, length, map, ap, arith, ◌∙◌}
use Rattle.std.proofs.lemmas.List.{length-map}
use Rattle.sml_tree.specs.TreeOf.{data_bind_of, type_bind_of}
use Rattle.datatype_forms.proofs.Best.{marked_are}
use Rattle.datatype_forms.proofs.Equalities.{names-length}
use Rattle.datatype_forms.proofs.chosen.marked_arguments.Goals as goal

pub marked_names-requires : goal.marked_names-requires
marked_names-requires c = ap length c.deref.ensures.value ∙ c.in_ok-marks.ensures

pub arguments_in-requires-clause-count : goal.arguments_in-requires-clause-count
arguments_in-requires-clause-count c =
    let l : length c.deref.result.now ≡ length c.args.binds.now = ap length c.deref.ensures.value ∙ c.in_ok-marks.ensures in
    let n = length-map c.args.binds.now data_bind_of in
    ap length c.deref-2.ensures.value ∙ ap length c.in_ok-names.ensures
    ∙ names-length c.args.first c.deref.result.now (map data_bind_of c.args.binds.now) (omega (arith, l, n)) ∙ n

pub returns-clause-are : goal.returns-clause-are
returns-clause-are c =
    let l : length c.deref.result.now ≡ length c.args.binds.now = ap length c.deref.ensures.value ∙ c.in_ok-marks.ensures in
    let n = length-map c.args.binds.now data_bind_of in
    marked_are c.args.state.now c.arguments_in.new.state c.args.scope.now c.args.first (map type_bind_of c.args.abbreviations.now) (map data_bind_of c.args.binds.now) c.deref.result.now c.deref-2.result.now
    c.in_ok-arguments.arguments (omega (arith, l, n)) (c.deref-2.ensures.value ∙ c.in_ok-names.ensures) c.in_ok-arguments.ensures.are
