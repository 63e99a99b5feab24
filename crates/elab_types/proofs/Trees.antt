-- The bare type of each node.
use Rattle.std.proofs.Common.{◌≡◌, map, Vec, Box, Global, sym, ap, ◌∙◌}
use Rattle.mlc_base.specs.declared.place.Place.{Place}
use Rattle.sml_tree.specs.declared.ident.LongId.{LongId}
use Rattle.sml_tree.specs.declared.ident.Tyvar.{Tyvar}
use Rattle.sml_tree.specs.BareTree as bare
use Rattle.sml_tree.specs.Derived.{tys_of, TyAt, product, arrows}
use Rattle.sml_tree.specs.TreeOf.{ty_of, ty_field_of, ty_part_of, ty_fields_of, TyFieldOf, long_id_of, node_ty, node_ty_field, node_ty_part}
use Rattle.sml_tree.specs.declared.tree.Ty.{Ty, Ty-F, fold-roll-Ty}
use Rattle.sml_tree.specs.declared.tree.Ty.TheVariants.{Var, Record, Con, Product, Arrow, rolls-Var, rolls-Record, rolls-Con, rolls-Product, rolls-Arrow}
use Rattle.sml_tree.specs.declared.tree.TyField.{TyField, fold_out-TyField}
use Rattle.sml_tree.specs.declared.tree.TyPart.{TyPart, fold_out-TyPart}

pub ty_of-Var : (p : Place) (a : Tyvar) → ty_of (Var p a) ≡ bare.var p a
ty_of-Var p a = ap ty_of (sym (rolls-Var p a)) ∙ fold-roll-Ty bare.Ty TyFieldOf TyAt node_ty node_ty_field node_ty_part (Ty-F.Var p a)

pub ty_of-Record : (p : Place) (fs : Vec TyField Global) → ty_of (Record p fs) ≡ bare.fields p (ty_fields_of (map ty_field_of fs.items))
ty_of-Record p fs = ap ty_of (sym (rolls-Record p fs)) ∙ fold-roll-Ty bare.Ty TyFieldOf TyAt node_ty node_ty_field node_ty_part (Ty-F.Record p fs)

pub ty_of-Con : (p : Place) (ts : Vec Ty Global) (q : Place) (c : LongId) → ty_of (Con p ts q c) ≡ bare.con p (tys_of (map ty_of ts.items)) q (long_id_of c)
ty_of-Con p ts q c = ap ty_of (sym (rolls-Con p ts q c)) ∙ fold-roll-Ty bare.Ty TyFieldOf TyAt node_ty node_ty_field node_ty_part (Ty-F.Con p ts q c)

pub ty_of-Product : (p : Place) (ts : Vec Ty Global) → ty_of (Product p ts) ≡ product p (map ty_of ts.items)
ty_of-Product p ts = ap ty_of (sym (rolls-Product p ts)) ∙ fold-roll-Ty bare.Ty TyFieldOf TyAt node_ty node_ty_field node_ty_part (Ty-F.Product p ts)

pub ty_of-Arrow : (p : Place) (t : Box Ty Global) (ts : Vec TyPart Global) → ty_of (Arrow p t ts) ≡ arrows p (ty_of t.value) (map ty_part_of ts.items)
ty_of-Arrow p t ts = ap ty_of (sym (rolls-Arrow p t ts)) ∙ fold-roll-Ty bare.Ty TyFieldOf TyAt node_ty node_ty_field node_ty_part (Ty-F.Arrow p t ts)

pub field-label : (a : TyField) → (ty_field_of a).label ≡ a.label
field-label a = ap (λ r. r.label) (fold_out-TyField bare.Ty TyFieldOf TyAt node_ty node_ty_field node_ty_part a)

pub field-ty : (a : TyField) → (ty_field_of a).ty ≡ ty_of a.ty
field-ty a = ap (λ r. r.ty) (fold_out-TyField bare.Ty TyFieldOf TyAt node_ty node_ty_field node_ty_part a)

pub part-ty : (a : TyPart) → (ty_part_of a).ty ≡ ty_of a.ty
part-ty a = ap (λ r. r.ty) (fold_out-TyPart bare.Ty TyFieldOf TyAt node_ty node_ty_field node_ty_part a)
