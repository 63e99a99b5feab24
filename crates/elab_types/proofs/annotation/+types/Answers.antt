use Rattle.std.proofs.Common.{◌++◌, ◌∷◌, [], map, sym, ap, ◌∙◌, get_or, take}
use Rattle.sml_tree.specs.BareTree as bare
use Rattle.sml_tree.specs.TreeOf.{ty_of, ty_field_of, ty_part_of}
use Rattle.core_rules.specs.Elaborated.{type_of}
use Rattle.elab_types.specs.Annotations.{each_type, tys_at, labels_at, types_behind, IsRefusal}
use Rattle.elab_types.proofs.Lists.{next-map-at}
use Rattle.elab_types.proofs.Keeping.{holds_later, loop-more, loop-refused, passes, typed-as}
use Rattle.elab_types.proofs.Trees.{ty_of-Var, field-label, field-ty, part-ty}
use Rattle.elab_types.proofs.Parts.{parts-end, labels-end, product-held}
use Rattle.elab_types.proofs.Making.{var-is, record-refused, arguments-refused, con-refused, product-refused, first-refused, rest-refused, record-ok, con-ok, product-ok, arrow-ok}
use Rattle.elab_types.proofs.annotation.+types.Goals as goal

pub numbers_of-returns-in_err-number-clause-refused : goal.numbers_of-returns-in_err-number-clause-refused
numbers_of-returns-in_err-number-clause-refused t c =
    passes c.from_residual.result c.in_err-number.field-0.0 c.from_residual.ensures.1 (IsRefusal c.args.types.now c.args.scope.now (λ d. each_type d (map ty_of c.args.tys.now)))
    (loop-refused ty_of c.args.tys.now c.loop-i.i c.index-tys-i.result _ c.args.types.now c.loop-i.types c.args.scope.now c.in_err-number.field-0.0 c.loop-i-test.true (ap ty_of c.index-tys-i.is) c.requires c.loop-i.invariant.kept c.in_err-number.ensures.refused)

pub numbers_of-loop-i-preserved : goal.numbers_of-loop-i-preserved
numbers_of-loop-i-preserved t c =
    loop-more ty_of c.args.tys.now c.loop-i.i c.index-tys-i.result _ c.args.types.now c.loop-i.types c.number_of.new.types c.args.scope.now _ _ c.in_ok-number.number c.loop-i-test.true (ap ty_of c.index-tys-i.is) c.requires c.loop-i.invariant c.in_ok-number.ensures.is c.number_of.ensures.earlier_stay c.in_ok-push.ensures.items

pub results_of-returns-in_err-number-clause-refused : goal.results_of-returns-in_err-number-clause-refused
results_of-returns-in_err-number-clause-refused t c =
    passes c.from_residual.result c.in_err-number.field-0.0 c.from_residual.ensures.1 (IsRefusal c.args.types.now c.args.scope.now (λ d. each_type d (types_behind c.args.parts.now)))
    (loop-refused (λ a. (ty_part_of a).ty) c.args.parts.now c.loop-i.i c.index-parts-i.result _ c.args.types.now c.loop-i.types c.args.scope.now c.in_err-number.field-0.0 c.loop-i-test.true (sym (part-ty (get_or c.args.parts.now c.loop-i.i c.index-parts-i.result))) c.requires c.loop-i.invariant.kept c.in_err-number.ensures.refused)

pub results_of-loop-i-preserved : goal.results_of-loop-i-preserved
results_of-loop-i-preserved t c =
    loop-more (λ a. (ty_part_of a).ty) c.args.parts.now c.loop-i.i c.index-parts-i.result _ c.args.types.now c.loop-i.types c.number_of.new.types c.args.scope.now _ _ c.in_ok-number.number c.loop-i-test.true (sym (part-ty (get_or c.args.parts.now c.loop-i.i c.index-parts-i.result))) c.requires c.loop-i.invariant c.in_ok-number.ensures.is c.number_of.ensures.earlier_stay c.in_ok-push.ensures.items

pub fields_of-returns-in_err-part-clause-refused : goal.fields_of-returns-in_err-part-clause-refused
fields_of-returns-in_err-part-clause-refused t c =
    passes c.from_residual.result c.in_err-part.field-0.0 c.from_residual.ensures.1 (IsRefusal c.args.types.now c.args.scope.now (λ d. each_type d (tys_at c.args.fields.now)))
    (loop-refused (λ a. (ty_field_of a).ty) c.args.fields.now c.loop-i.i c.index-fields-i.result _ c.args.types.now c.loop-i.types c.args.scope.now c.in_err-part.field-0.0 c.loop-i-test.true (sym (field-ty (get_or c.args.fields.now c.loop-i.i c.index-fields-i.result))) c.requires c.loop-i.invariant.0.kept c.in_err-part.ensures.refused)

pub fields_of-loop-i-preserved : goal.fields_of-loop-i-preserved
fields_of-loop-i-preserved t c = (
  loop-more (λ a. (ty_field_of a).ty) c.args.fields.now c.loop-i.i c.index-fields-i.result _ c.args.types.now c.loop-i.types c.number_of.new.types c.args.scope.now _ _ c.in_ok-part.part c.loop-i-test.true (sym (field-ty (get_or c.args.fields.now c.loop-i.i c.index-fields-i.result))) c.requires c.loop-i.invariant.0 c.in_ok-part.ensures.is c.number_of.ensures.earlier_stay (parts-end _ _ _ c.in_ok-push.ensures.items),
  labels-end _ _ _ c.in_ok-push.ensures.items ∙ ap (λ l. l ++ (get_or c.args.fields.now c.loop-i.i c.index-fields-i-in-loop-i.result).label ∷ []) c.loop-i.invariant.1
      ∙ ap (λ l. labels_at (take c.loop-i.i c.args.fields.now) ++ l ∷ []) (sym (field-label (get_or c.args.fields.now c.loop-i.i c.index-fields-i-in-loop-i.result)))
      ∙ sym (next-map-at (λ a. (ty_field_of a).label) c.args.fields.now c.loop-i.i c.index-fields-i-in-loop-i.result c.loop-i-test.true),
)

pub number_of-returns-in_err-fields-in-Record-clause-refused : goal.number_of-returns-in_err-fields-in-Record-clause-refused
number_of-returns-in_err-fields-in-Record-clause-refused t c =
    passes c.from_residual-in_err-fields-in-Record.result c.in_err-fields-in-Record.field-0.0 c.from_residual-in_err-fields-in-Record.ensures.1 (IsRefusal c.args.types.now c.args.scope.now (λ d. type_of d (ty_of c.args.ty.now)))
    (record-refused c.args.types.now c.args.scope.now c.args.ty.now c.in-Record.field-0 c.in-Record.fields c.deref.result.now _ c.in-Record.is c.deref.ensures.value c.in_err-fields-in-Record.ensures.refused)

pub number_of-returns-in_err-arguments-in-Con-clause-refused : goal.number_of-returns-in_err-arguments-in-Con-clause-refused
number_of-returns-in_err-arguments-in-Con-clause-refused t c =
    passes c.from_residual-in_err-arguments-in-Con.result c.in_err-arguments-in-Con.field-0.0 c.from_residual-in_err-arguments-in-Con.ensures.1 (IsRefusal c.args.types.now c.args.scope.now (λ d. type_of d (ty_of c.args.ty.now)))
    (arguments-refused c.args.types.now c.args.scope.now c.args.ty.now c.in-Con.field-0 c.in-Con.place c.in-Con.arguments c.in-Con.name c.deref-in-Con.result.now _ c.in-Con.is c.deref-in-Con.ensures.value c.in_err-arguments-in-Con.ensures.refused)

pub number_of-instance_at-requires-clause-held : goal.number_of-instance_at-requires-clause-held
number_of-instance_at-requires-clause-held t c = holds_later c.args.types.now c.numbers_of.new.types c.args.scope.now c.numbers_of.ensures.earlier_stay c.requires

pub number_of-returns-in_err-instance_at-in-Con-clause-refused : goal.number_of-returns-in_err-instance_at-in-Con-clause-refused
number_of-returns-in_err-instance_at-in-Con-clause-refused t c =
    passes c.from_residual-in_err-instance_at-in-Con.result c.in_err-instance_at-in-Con.field-0.0 c.from_residual-in_err-instance_at-in-Con.ensures.1 (IsRefusal c.args.types.now c.args.scope.now (λ d. type_of d (ty_of c.args.ty.now)))
    (con-refused c.args.types.now c.numbers_of.new.types c.args.scope.now c.args.ty.now c.in-Con.field-0 c.in-Con.place c.in-Con.arguments c.in-Con.name c.deref-in-Con.result.now c.in_ok-arguments-in-Con.arguments.items c.deref-in-Con-2.result.now _ c.in-Con.is c.deref-in-Con.ensures.value c.requires c.numbers_of.ensures.earlier_stay c.in_ok-arguments-in-Con.ensures.are c.deref-in-Con-2.ensures.value c.in_err-instance_at-in-Con.ensures.refused)

pub number_of-returns-in_err-parts-in-Product-clause-refused : goal.number_of-returns-in_err-parts-in-Product-clause-refused
number_of-returns-in_err-parts-in-Product-clause-refused t c =
    passes c.from_residual-in_err-parts-in-Product.result c.in_err-parts-in-Product.field-0.0 c.from_residual-in_err-parts-in-Product.ensures.1 (IsRefusal c.args.types.now c.args.scope.now (λ d. type_of d (ty_of c.args.ty.now)))
    (product-refused c.args.types.now c.args.scope.now c.args.ty.now c.in-Product.field-0 c.in-Product.parts c.deref-in-Product.result.now _ c.in-Product.is c.deref-in-Product.ensures.value c.in_err-parts-in-Product.ensures.refused)

pub number_of-record_type-requires-in-Product : goal.number_of-record_type-requires-in-Product
number_of-record_type-requires-in-Product t c =
    product-held _ c.in_ok-parts-in-Product.parts.items c.deref-in-Product-2.result.now c.in_ok-fields-in-Product.fields.items c.deref-in-Product-3.result.now c.in_ok-parts-in-Product.ensures.are.held c.deref-in-Product-2.ensures.value c.in_ok-fields-in-Product.ensures c.deref-in-Product-3.ensures.value

pub number_of-returns-in_err-first-in-Arrow-clause-refused : goal.number_of-returns-in_err-first-in-Arrow-clause-refused
number_of-returns-in_err-first-in-Arrow-clause-refused t c =
    passes c.from_residual-in_err-first-in-Arrow.result c.in_err-first-in-Arrow.field-0.0 c.from_residual-in_err-first-in-Arrow.ensures.1 (IsRefusal c.args.types.now c.args.scope.now (λ d. type_of d (ty_of c.args.ty.now)))
    (first-refused c.args.types.now c.args.scope.now c.args.ty.now c.in-Arrow.field-0 c.in-Arrow.first c.deref-in-Arrow.result.now c.in-Arrow.parts _ c.in-Arrow.is c.deref-in-Arrow.ensures c.in_err-first-in-Arrow.ensures.refused)

pub number_of-returns-in_err-rest-in-Arrow-clause-refused : goal.number_of-returns-in_err-rest-in-Arrow-clause-refused
number_of-returns-in_err-rest-in-Arrow-clause-refused t c =
    passes c.from_residual-in_err-rest-in-Arrow.result c.in_err-rest-in-Arrow.field-0.0 c.from_residual-in_err-rest-in-Arrow.ensures.1 (IsRefusal c.args.types.now c.args.scope.now (λ d. type_of d (ty_of c.args.ty.now)))
    (rest-refused c.args.types.now c.number_of.new.types c.args.scope.now c.args.ty.now c.in-Arrow.field-0 c.in-Arrow.first c.in-Arrow.parts c.deref-in-Arrow-2.result.now _ c.in-Arrow.is c.deref-in-Arrow-2.ensures.value c.requires c.number_of.ensures.earlier_stay c.in_err-rest-in-Arrow.ensures.refused)

pub number_of-returns-in_ok-record_type-in-Record-clause-is : goal.number_of-returns-in_ok-record_type-in-Record-clause-is
number_of-returns-in_ok-record_type-in-Record-clause-is t c =
    record-ok c.args.types.now c.fields_of.new.types c.record_type.new.types c.args.scope.now c.args.ty.now c.in-Record.field-0 c.in-Record.fields c.deref.result.now c.in_ok-fields-in-Record.fields.items c.deref-in-Record.result.now c.in_ok-record_type-in-Record.field-0 c.in-Record.is c.deref.ensures.value
    c.fields_of.ensures.earlier_stay c.in_ok-fields-in-Record.ensures.are c.in_ok-fields-in-Record.ensures.labels c.deref-in-Record.ensures.value c.in_ok-record_type-in-Record.ensures.is

pub number_of-returns-in_ok-instance_at-in-Con-clause-is : goal.number_of-returns-in_ok-instance_at-in-Con-clause-is
number_of-returns-in_ok-instance_at-in-Con-clause-is t c =
    con-ok c.args.types.now c.numbers_of.new.types c.instance_at.new.types c.args.scope.now c.args.ty.now c.in-Con.field-0 c.in-Con.place c.in-Con.arguments c.in-Con.name c.deref-in-Con.result.now c.in_ok-arguments-in-Con.arguments.items c.deref-in-Con-2.result.now c.in_ok-instance_at-in-Con.field-0 c.in-Con.is c.deref-in-Con.ensures.value
    c.requires c.numbers_of.ensures.earlier_stay c.in_ok-arguments-in-Con.ensures.are c.deref-in-Con-2.ensures.value c.in_ok-instance_at-in-Con.ensures.is c.in_ok-instance_at-in-Con.ensures.held

pub number_of-returns-in_ok-record_type-in-Product-clause-is : goal.number_of-returns-in_ok-record_type-in-Product-clause-is
number_of-returns-in_ok-record_type-in-Product-clause-is t c =
    product-ok c.args.types.now c.numbers_of-in-Product.new.types c.record_type-in-Product.new.types c.args.scope.now c.args.ty.now c.in-Product.field-0 c.in-Product.parts c.deref-in-Product.result.now c.in_ok-parts-in-Product.parts.items c.deref-in-Product-2.result.now c.in_ok-fields-in-Product.fields.items c.deref-in-Product-3.result.now c.in_ok-record_type-in-Product.field-0
    c.in-Product.is c.deref-in-Product.ensures.value c.numbers_of-in-Product.ensures.earlier_stay c.in_ok-parts-in-Product.ensures.are c.deref-in-Product-2.ensures.value c.in_ok-fields-in-Product.ensures c.deref-in-Product-3.ensures.value c.in_ok-record_type-in-Product.ensures.is

pub number_of-returns-in_ok-function_types-in-Arrow-clause-is : goal.number_of-returns-in_ok-function_types-in-Arrow-clause-is
number_of-returns-in_ok-function_types-in-Arrow-clause-is t c =
    arrow-ok c.args.types.now c.number_of.new.types c.results_of.new.types c.function_types.new.types c.args.scope.now c.args.ty.now c.in-Arrow.field-0 c.in-Arrow.first c.deref-in-Arrow.result.now c.in-Arrow.parts c.deref-in-Arrow-2.result.now c.in_ok-first-in-Arrow.first c.in_ok-rest-in-Arrow.rest.items c.deref-in-Arrow-3.result.now c.in_ok-function_types-in-Arrow.field-0
    c.in-Arrow.is c.deref-in-Arrow.ensures c.deref-in-Arrow-2.ensures.value c.requires c.in_ok-first-in-Arrow.ensures.is c.number_of.ensures.earlier_stay c.results_of.ensures.earlier_stay c.in_ok-rest-in-Arrow.ensures.are c.deref-in-Arrow-3.ensures.value c.in_ok-function_types-in-Arrow.ensures.is

pub number_of-returns-in_ok-variable_at-in-Var-clause-is : goal.number_of-returns-in_ok-variable_at-in-Var-clause-is
number_of-returns-in_ok-variable_at-in-Var-clause-is t c =
    let k = c.in_ok-variable_at-in-Var.field-0 in
    typed-as c.args.types.now c.args.types.now c.args.scope.now (ty_of c.args.ty.now) (bare.var c.in-Var.place c.in-Var.tyvar) k (ap ty_of c.in-Var.is ∙ ty_of-Var c.in-Var.place c.in-Var.tyvar)
    (var-is c.args.types.now c.args.scope.now c.in-Var.place c.in-Var.tyvar k c.requires c.in_ok-variable_at-in-Var.ensures.is)
