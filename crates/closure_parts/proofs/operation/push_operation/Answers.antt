use Rattle.std.proofs.Common.{[], ◌∷◌, map, ap}
use Rattle.ir_values.specs.Primitives.{sort_of}
use Rattle.first_values.specs.Operations as op
use Rattle.first_tables.specs.TablesOf.{constant_of, piece_of}
use Rattle.first_tables.specs.declared.operation.Plain.TheVariants as plain
use Rattle.first_tree.specs.declared.tree.Operation.TheVariants as made
use Rattle.first_tree.specs.TreeOf.{operation_of}
use Rattle.ir_first.specs.Tree as out
use Rattle.closure_meaning.specs.Convert.{var, given, used, marked, packed, performed}
use Rattle.closure_parts.specs.Pieces.{a_plain, a_make}
use Rattle.closure_parts.proofs.Operating.{if-ok, puts-use, puts-constant, puts-constructor, puts-construct, puts-reference, puts-refer, puts-content, puts-pack, puts-record, puts-select, puts-primitive, puts-perform, puts-apply, puts-raise, puts-initial}
use Rattle.closure_parts.proofs.Putting.{named-put, let-as}
use Rattle.closure_parts.proofs.operation.push_operation.Goals as goal

pub returns-in-Use : goal.returns-in-Use
returns-in-Use c =
    if-ok _ _ c.push_use.result
    (λ u p strings n F T h.
    let q = p c.args.types.now strings n F T h in
    puts-use n c.args.types.now strings F T c.args.scope.now c.args.variable c.args.operation.now c.args.steps.now.items c.push_use.new.steps.items c.in-Use.used c.in-Use.field-1 c.in-Use.is
    (named-put c.args.steps.now.items c.push_use.new.steps.items (λ i. used n (n.is_name c.in-Use.used) c.args.scope.now i c.in-Use.used) _ _ c.in_ok-name.ensures q))
    c.push_use.ensures

pub returns-in-Reference : goal.returns-in-Reference
returns-in-Reference c =
    if-ok _ _ c.push_empty-in-Reference.result
    (λ u p strings n F T h.
    let q = p in
    puts-reference n c.args.types.now strings F T c.args.scope.now c.args.variable c.args.operation.now c.args.steps.now.items c.push_empty-in-Reference.new.steps.items c.in-Reference.field-0 c.in-Reference.is
    (named-put c.args.steps.now.items c.push_empty-in-Reference.new.steps.items (λ i. out.let_in i (out.make 0 [])) _ _ c.in_ok-name.ensures q))
    c.push_empty-in-Reference.ensures

pub returns-in-Primitive : goal.returns-in-Primitive
returns-in-Primitive c =
    if-ok _ _ c.push_empty-in-Primitive.result
    (λ u p strings n F T h.
    let q = p in
    puts-primitive n c.args.types.now strings F T c.args.scope.now c.args.variable c.args.operation.now c.args.steps.now.items c.push_empty-in-Primitive.new.steps.items c.in-Primitive.field-0 c.in-Primitive.field-1 c.in-Primitive.is
    (named-put c.args.steps.now.items c.push_empty-in-Primitive.new.steps.items (λ i. out.let_in i (out.make 0 [])) _ _ c.in_ok-name.ensures q))
    c.push_empty-in-Primitive.ensures

pub returns-in_ok-tag-in-Constructor : goal.returns-in_ok-tag-in-Constructor
returns-in_ok-tag-in-Constructor c =
    if-ok _ _ c.push_empty.result
    (λ u p strings n F T h.
    let q = p in
    puts-constructor n c.args.types.now strings F T c.args.scope.now c.args.variable c.args.operation.now c.args.steps.now.items c.push_empty.new.steps.items c.in-Constructor.constructor c.in-Constructor.ty c.in_ok-tag-in-Constructor.tag c.in-Constructor.is (c.in_ok-tag-in-Constructor.ensures c.args.types.now h.places)
    (named-put c.args.steps.now.items c.push_empty.new.steps.items (λ i. out.let_in i (out.make c.in_ok-tag-in-Constructor.tag [])) _ _ c.in_ok-name.ensures q))
    c.push_empty.ensures

pub returns-in_ok-tag-in-Construct : goal.returns-in_ok-tag-in-Construct
returns-in_ok-tag-in-Construct c =
    if-ok _ _ c.push_construct.result
    (λ u p strings n F T h.
    let q = p in
    puts-construct n c.args.types.now strings F T c.args.scope.now c.args.variable c.args.operation.now c.args.steps.now.items c.push_construct.new.steps.items c.in-Construct.place c.in-Construct.constructor c.in-Construct.ty c.in-Construct.argument c.in_ok-tag-in-Construct.tag c.in-Construct.is (c.in_ok-tag-in-Construct.ensures c.args.types.now h.places)
    (named-put c.args.steps.now.items c.push_construct.new.steps.items (λ i e. marked c.in-Construct.place (out.let_in i (a_make c.in_ok-tag-in-Construct.tag (var c.in-Construct.argument)) e)) _ _ c.in_ok-name.ensures q))
    c.push_construct.ensures

pub returns-in-Refer : goal.returns-in-Refer
returns-in-Refer c =
    if-ok _ _ c.push_refer.result
    (λ u p strings n F T h.
    let q = p in
    puts-refer n c.args.types.now strings F T c.args.scope.now c.args.variable c.args.operation.now c.args.steps.now.items c.push_refer.new.steps.items c.in-Refer.place c.in-Refer.ty c.in-Refer.argument c.in-Refer.is
    (named-put c.args.steps.now.items c.push_refer.new.steps.items (λ i e. marked c.in-Refer.place (out.let_in i (out.plain op.refer (var c.in-Refer.argument ∷ [])) e)) _ _ c.in_ok-name.ensures q))
    c.push_refer.ensures

pub returns-in-Content : goal.returns-in-Content
returns-in-Content c =
    if-ok _ _ c.push_plain.result
    (λ u p strings n F T h.
    let q = p in
    puts-content n c.args.types.now strings F T c.args.scope.now c.args.variable c.args.operation.now c.args.steps.now.items c.push_plain.new.steps.items c.in-Content.ty c.in-Content.reference c.in-Content.is
    (named-put c.args.steps.now.items c.push_plain.new.steps.items (λ i. out.let_in i (a_plain op.content (var c.in-Content.reference))) _ _ c.in_ok-name.ensures q))
    c.push_plain.ensures

pub returns-in-Pack : goal.returns-in-Pack
returns-in-Pack c =
    if-ok _ _ c.push_pack.result
    (λ u p strings n F T h.
    let q = p in
    puts-pack n c.args.types.now strings F T c.args.scope.now c.args.variable c.args.operation.now c.args.steps.now.items c.push_pack.new.steps.items c.in-Pack.place c.in-Pack.ty c.in-Pack.exception c.in-Pack.argument c.in-Pack.is
    (named-put c.args.steps.now.items c.push_pack.new.steps.items (λ i e. marked c.in-Pack.place (out.let_in i (out.plain op.pack (var c.in-Pack.exception ∷ var c.in-Pack.argument ∷ [])) e)) _ _ c.in_ok-name.ensures q))
    c.push_pack.ensures

pub returns-in-Select : goal.returns-in-Select
returns-in-Select c =
    if-ok _ _ c.push_plain-in-Select.result
    (λ u p strings n F T h.
    let q = p in
    puts-select n c.args.types.now strings F T c.args.scope.now c.args.variable c.args.operation.now c.args.steps.now.items c.push_plain-in-Select.new.steps.items c.in-Select.ty c.in-Select.label c.in-Select.record c.label-place.result c.in-Select.is (c.label-place.ensures c.args.types.now h.places)
    (named-put c.args.steps.now.items c.push_plain-in-Select.new.steps.items (λ i. out.let_in i (a_plain (op.field c.label-place.result) (var c.in-Select.record))) _ _ c.in_ok-name.ensures q))
    c.push_plain-in-Select.ensures

pub returns-in-Perform : goal.returns-in-Perform
returns-in-Perform c =
    if-ok _ _ c.push_performed.result
    (λ u p strings n F T h.
    let q = p in
    puts-perform n c.args.types.now strings F T c.args.scope.now c.args.variable c.args.operation.now c.args.steps.now.items c.push_performed.new.steps.items c.in-Perform.place c.in-Perform.primitive c.in-Perform.ty c.in-Perform.arguments c.deref-in-Perform.result.now c.in-Perform.is c.deref-in-Perform.ensures.value
    (named-put c.args.steps.now.items c.push_performed.new.steps.items (λ i e. marked c.in-Perform.place (out.let_in i (performed c.args.types.now (sort_of c.in-Perform.primitive) c.in-Perform.primitive c.in-Perform.ty (map var c.deref-in-Perform.result.now)) e)) _ _ c.in_ok-name.ensures q))
    c.push_performed.ensures

pub returns-in-RaiseInitial : goal.returns-in-RaiseInitial
returns-in-RaiseInitial c =
    if-ok _ _ c.push_initial.result
    (λ u p strings n F T h.
    let q = p in
    puts-initial n c.args.types.now strings F T c.args.scope.now c.args.variable c.args.operation.now c.args.steps.now.items c.push_initial.new.steps.items c.in-RaiseInitial.exception c.in-RaiseInitial.is
    (named-put c.args.steps.now.items c.push_initial.new.steps.items (λ i e. out.let_in given (out.plain (op.initial c.in-RaiseInitial.exception) []) (packed given (out.let_in i (out.raise given) e))) _ _ c.in_ok-name.ensures q))
    c.push_initial.ensures

pub returns-in-Constant : goal.returns-in-Constant
returns-in-Constant c =
    if-ok _ _ c.push_let.result
    (λ u p strings n F T h.
    puts-constant n c.args.types.now strings F T c.args.scope.now c.args.variable c.args.operation.now c.args.steps.now.items c.push_let.new.steps.items c.in-Constant.literal (constant_of c.constant.result) c.in-Constant.is (c.constant.ensures c.args.types.now strings n F T h)
    (let-as c.args.steps.now.items c.push_let.new.steps.items (var c.args.variable) (made.Plain (plain.Constant c.constant.result) c.new.result) (out.plain (op.constant (constant_of c.constant.result)) [])
    (ap (out.plain (op.constant (constant_of c.constant.result))) c.new.ensures.items)
    (named-put c.args.steps.now.items c.push_let.new.steps.items (λ i. out.let_in i (out.plain (op.constant (constant_of c.constant.result)) c.new.result.items)) _ _ c.in_ok-name.ensures p)))
    c.push_let.ensures

pub returns-in_ok-pieces-in-Record : goal.returns-in_ok-pieces-in-Record
returns-in_ok-pieces-in-Record c =
    if-ok _ _ c.push_let-in-Record.result
    (λ u p strings n F T h.
    puts-record n c.args.types.now strings F T c.args.scope.now c.args.variable c.args.operation.now c.args.steps.now.items c.push_let-in-Record.new.steps.items c.in-Record.ty c.in-Record.fields c.deref.result.now _ c.in-Record.is c.deref.ensures.value c.in_ok-pieces-in-Record.ensures
    (named-put c.args.steps.now.items c.push_let-in-Record.new.steps.items (λ i. out.let_in i (out.make 0 (map piece_of c.in_ok-pieces-in-Record.pieces.items))) _ _ c.in_ok-name.ensures p))
    c.push_let-in-Record.ensures

pub returns-in_ok-made-in-Apply : goal.returns-in_ok-made-in-Apply
returns-in_ok-made-in-Apply c =
    if-ok _ _ c.push_let-in-Apply.result
    (λ u p strings n F T h.
    puts-apply n c.args.types.now strings F T c.args.scope.now c.args.variable c.args.operation.now c.args.steps.now.items c.push_let-in-Apply.new.steps.items c.in-Apply.place c.in-Apply.function c.in-Apply.argument _ c.in-Apply.is (c.in_ok-made-in-Apply.ensures c.args.types.now strings n F T h)
    (named-put c.args.steps.now.items c.push_let-in-Apply.new.steps.items (λ i. out.let_in i (operation_of c.in_ok-made-in-Apply.made)) _ _ c.in_ok-name.ensures p))
    c.push_let-in-Apply.ensures

pub returns-in_ok-packet-in-Raise : goal.returns-in_ok-packet-in-Raise
returns-in_ok-packet-in-Raise c =
    if-ok _ _ c.push_let-in-Raise.result
    (λ u p strings n F T h.
    puts-raise n c.args.types.now strings F T c.args.scope.now c.args.variable c.args.operation.now c.args.steps.now.items c.push_let-in-Raise.new.steps.items c.in-Raise.packet c.in_ok-packet-in-Raise.packet c.in-Raise.is c.in_ok-packet-in-Raise.ensures
    (named-put c.args.steps.now.items c.push_let-in-Raise.new.steps.items (λ i. out.let_in i (out.raise c.in_ok-packet-in-Raise.packet)) _ _ c.in_ok-name.ensures p))
    c.push_let-in-Raise.ensures
