-- The bare pattern of each node of patterns.
use Rattle.std.proofs.Common.{◌≡◌, Bool, map, Vec, Box, Global, Option, sym, ap, ◌∙◌}
use Rattle.mlc_base.specs.declared.place.Place.{Place}
use Rattle.sml_tree.specs.BareTree as bare
use Rattle.sml_tree.specs.Derived.{Operand, VidAt, chain_of, join_pats, list_pat_of, tuple_pat}
use Rattle.sml_tree.specs.TreeOf.{PatFieldOf, long_vid_of, pat_field_of, pat_fields_of, pat_of, pat_part_of, some_ty_of, ty_of}
use Rattle.sml_tree.specs.TreeOf.{node_pat, node_pat_field, node_pat_part}
use Rattle.sml_tree.specs.declared.ident.BuiltIn.{BuiltIn as Built}
use Rattle.sml_tree.specs.declared.ident.LongVid.{LongVid}
use Rattle.sml_tree.specs.declared.ident.Vid.{Vid}
use Rattle.sml_tree.specs.declared.tree.Pat.{Pat, Pat-F, fold-roll-Pat}
use Rattle.sml_tree.specs.declared.tree.Pat.TheVariants as pats
use Rattle.sml_tree.specs.declared.tree.PatField.{PatField, fold_out-PatField}
use Rattle.sml_tree.specs.declared.tree.PatPart.{PatPart, fold_out-PatPart}
use Rattle.sml_tree.specs.declared.tree.Ty.{Ty}

pub pat-field : (f : PatField) → pat_field_of f ≡ record { label = f.label; pat = pat_of f.pat }
pat-field f = fold_out-PatField bare.Pat PatFieldOf (Operand VidAt bare.Pat) node_pat node_pat_field node_pat_part f

abbrev pub operand_of : PatPart → Operand VidAt bare.Pat
operand_of o = record { joint = record { place = o.vid_place; vid = o.vid }; place = o.place; operand = pat_of o.pat }

pub pat-part : (o : PatPart) → pat_part_of o ≡ operand_of o
pat-part o = fold_out-PatPart bare.Pat PatFieldOf (Operand VidAt bare.Pat) node_pat node_pat_field node_pat_part o

pub vid-is : (x : Pat) (q : Place) (v : LongVid) → x ≡ pats.Vid q v → pat_of x ≡ bare.vid_pat q (long_vid_of v)
vid-is x q v s = ap pat_of (s ∙ sym (pats.rolls-Vid q v)) ∙ fold-roll-Pat bare.Pat PatFieldOf (Operand VidAt bare.Pat) node_pat node_pat_field node_pat_part (Pat-F.Vid q v)

pub record-is : (x : Pat) (q : Place) (fs : Vec PatField Global) (b : Bool) → x ≡ pats.Record q fs b → pat_of x ≡ bare.fields_pat q (pat_fields_of (map pat_field_of fs.items)) b
record-is x q fs b s = ap pat_of (s ∙ sym (pats.rolls-Record q fs b)) ∙ fold-roll-Pat bare.Pat PatFieldOf (Operand VidAt bare.Pat) node_pat node_pat_field node_pat_part (Pat-F.Record q fs b)

pub tuple-is : (x : Pat) (q : Place) (as_ : Vec Pat Global) → x ≡ pats.Tuple q as_ → pat_of x ≡ tuple_pat q (map pat_of as_.items)
tuple-is x q as_ s = ap pat_of (s ∙ sym (pats.rolls-Tuple q as_)) ∙ fold-roll-Pat bare.Pat PatFieldOf (Operand VidAt bare.Pat) node_pat node_pat_field node_pat_part (Pat-F.Tuple q as_)

pub list-is : (x : Pat) (q : Place) (as_ : Vec Pat Global) → x ≡ pats.List q as_ → pat_of x ≡ list_pat_of q (map pat_of as_.items)
list-is x q as_ s = ap pat_of (s ∙ sym (pats.rolls-List q as_)) ∙ fold-roll-Pat bare.Pat PatFieldOf (Operand VidAt bare.Pat) node_pat node_pat_field node_pat_part (Pat-F.List q as_)

pub con-is : (x : Pat) (q r : Place) (v : LongVid) (a : Box Pat Global) → x ≡ pats.Con q r v a → pat_of x ≡ bare.con_pat q r (long_vid_of v) (pat_of a.value)
con-is x q r v a s = ap pat_of (s ∙ sym (pats.rolls-Con q r v a)) ∙ fold-roll-Pat bare.Pat PatFieldOf (Operand VidAt bare.Pat) node_pat node_pat_field node_pat_part (Pat-F.Con q r v a)

pub built-con-is : (x : Pat) (q : Place) (b : Built) (a : Box Pat Global) → x ≡ pats.BuiltCon q b a → pat_of x ≡ bare.built_con_pat q b (pat_of a.value)
built-con-is x q b a s = ap pat_of (s ∙ sym (pats.rolls-BuiltCon q b a)) ∙ fold-roll-Pat bare.Pat PatFieldOf (Operand VidAt bare.Pat) node_pat node_pat_field node_pat_part (Pat-F.BuiltCon q b a)

pub chain-is : (x : Pat) (q : Place) (r : Bool) (a : Box Pat Global) (os : Vec PatPart Global) → x ≡ pats.Chain q r a os → pat_of x ≡ chain_of join_pats r q (pat_of a.value) (map pat_part_of os.items)
chain-is x q r a os s = ap pat_of (s ∙ sym (pats.rolls-Chain q r a os)) ∙ fold-roll-Pat bare.Pat PatFieldOf (Operand VidAt bare.Pat) node_pat node_pat_field node_pat_part (Pat-F.Chain q r a os)

pub typed-is : (x : Pat) (q : Place) (a : Box Pat Global) (t : Ty) → x ≡ pats.Typed q a t → pat_of x ≡ bare.typed_pat q (pat_of a.value) (ty_of t)
typed-is x q a t s = ap pat_of (s ∙ sym (pats.rolls-Typed q a t)) ∙ fold-roll-Pat bare.Pat PatFieldOf (Operand VidAt bare.Pat) node_pat node_pat_field node_pat_part (Pat-F.Typed q a t)

pub as-is : (x : Pat) (q : Place) (v : Vid) (t : Option Ty) (a : Box Pat Global) → x ≡ pats.As q v t a → pat_of x ≡ bare.as_pat q v (some_ty_of t) (pat_of a.value)
as-is x q v t a s = ap pat_of (s ∙ sym (pats.rolls-As q v t a)) ∙ fold-roll-Pat bare.Pat PatFieldOf (Operand VidAt bare.Pat) node_pat node_pat_field node_pat_part (Pat-F.As q v t a)
