-- The bare type of a type constructor after its arguments.
use Rattle.std.proofs.Common.{◌≡◌, map, Vec, Global, sym, ap, ◌∙◌}
use Rattle.mlc_base.specs.declared.place.Place.{Place}
use Rattle.sml_tree.specs.declared.ident.LongId.{LongId}
use Rattle.sml_tree.specs.BareTree as bare
use Rattle.sml_tree.specs.Derived.{tys_of, TyAt}
use Rattle.sml_tree.specs.TreeOf.{ty_of, TyFieldOf, long_id_of, node_ty, node_ty_field, node_ty_part}
use Rattle.sml_tree.specs.declared.tree.Ty.{Ty, Ty-F, fold-roll-Ty}
use Rattle.sml_tree.specs.declared.tree.Ty.TheVariants.{Con, rolls-Con}

pub ty_of-Con : (p : Place) (ts : Vec Ty Global) (q : Place) (c : LongId) → ty_of (Con p ts q c) ≡ bare.con p (tys_of (map ty_of ts.items)) q (long_id_of c)
ty_of-Con p ts q c = ap ty_of (sym (rolls-Con p ts q c)) ∙ fold-roll-Ty bare.Ty TyFieldOf TyAt node_ty node_ty_field node_ty_part (Ty-F.Con p ts q c)
