-- What structs of the trees stand for.
use Rattle.std.proofs.Common.{◌≡◌}
use Rattle.mlc_names.specs.declared.label.Label.{Label}
use Rattle.mlc_base.specs.declared.place.Place.{Place}
use Rattle.sml_tree.specs.BareTree as bare
use Rattle.sml_tree.specs.Derived.{TyAt}
use Rattle.sml_tree.specs.TreeOf.{ty_of, ty_field_of, ty_part_of, TyFieldOf, node_ty, node_ty_field, node_ty_part}
use Rattle.sml_tree.specs.declared.tree.Ty.{Ty}
use Rattle.sml_tree.specs.declared.tree.TyField.{fold-roll-TyField}
use Rattle.sml_tree.specs.declared.tree.TyPart.{fold-roll-TyPart}
use Rattle.std.proofs.Common.{Box, Global, sym, ap, ◌∙◌}
use Rattle.sml_tree.specs.Derived.{Operand, VidAt}
use Rattle.sml_tree.specs.TreeOf.{pat_of, pat_field_of, pat_part_of, PatFieldOf, node_pat, node_pat_field, node_pat_part, long_vid_of}
use Rattle.sml_tree.specs.declared.ident.Vid as ident
use Rattle.sml_tree.specs.declared.ident.LongVid.{LongVid}
use Rattle.sml_tree.specs.declared.tree.Pat.{Pat, Pat-F, fold-roll-Pat}
use Rattle.sml_tree.specs.declared.tree.Pat.TheVariants.{Wild, Vid, Con, Typed, rolls-Wild, rolls-Vid, rolls-Con, rolls-Typed}
use Rattle.sml_tree.specs.declared.tree.PatField.{fold-roll-PatField}
use Rattle.sml_tree.specs.declared.tree.PatPart.{fold-roll-PatPart}

pub ty_field-of : (l : Label) (t : Ty) → ty_field_of (record { label = l; ty = t }) ≡ record { label = l; ty = ty_of t }
ty_field-of l t = fold-roll-TyField bare.Ty TyFieldOf TyAt node_ty node_ty_field node_ty_part (record { label = l; ty = t })

pub ty_part-of : (p : Place) (t : Ty) → ty_part_of (record { place = p; ty = t }) ≡ record { place = p; ty = ty_of t }
ty_part-of p t = fold-roll-TyPart bare.Ty TyFieldOf TyAt node_ty node_ty_field node_ty_part (record { place = p; ty = t })

pub pat_of-Wild : (p : Place) → pat_of (Wild p) ≡ bare.wild_pat p
pat_of-Wild p = ap pat_of (sym (rolls-Wild p)) ∙ fold-roll-Pat bare.Pat PatFieldOf (Operand VidAt bare.Pat) node_pat node_pat_field node_pat_part (Pat-F.Wild p)

pub pat_of-Vid : (p : Place) (x : LongVid) → pat_of (Vid p x) ≡ bare.vid_pat p (long_vid_of x)
pat_of-Vid p x = ap pat_of (sym (rolls-Vid p x)) ∙ fold-roll-Pat bare.Pat PatFieldOf (Operand VidAt bare.Pat) node_pat node_pat_field node_pat_part (Pat-F.Vid p x)

pub pat_part-of : (p : Place) (v : ident.Vid) (q : Place) (a : Pat) → pat_part_of (record { vid_place = p; vid = v; place = q; pat = a }) ≡ record { joint = record { place = p; vid = v }; place = q; operand = pat_of a }
pat_part-of p v q a = fold-roll-PatPart bare.Pat PatFieldOf (Operand VidAt bare.Pat) node_pat node_pat_field node_pat_part (record { vid_place = p; vid = v; place = q; pat = a })
