-- The bare pattern of each node.
use Rattle.std.proofs.Common.{◌≡◌, ◌+◌, ℕ, suc, Bool, List, [], ◌∷◌, ◌++◌, map, length, Option, Vec, Box, Global, sym, ap, ◌∙◌, arith}
use Rattle.mlc_names.specs.declared.label.Label.TheVariants.{Number}
use Rattle.mlc_base.specs.declared.place.Place.{Place}
use Rattle.sml_tree.specs.declared.ident.BuiltIn.{BuiltIn as Built}
use Rattle.sml_tree.specs.declared.ident.Constant.{Constant as SourceConstant}
use Rattle.sml_tree.specs.declared.ident.LongVid.{LongVid}
use Rattle.sml_tree.specs.declared.ident.Vid.{Vid as Name}
use Rattle.sml_tree.specs.BareTree as bare
use Rattle.sml_tree.specs.Derived.{VidAt, Operand, tuple_pat, list_pat_of, chain_of, join_pats}
use Rattle.sml_tree.specs.TreeOf.{PatFieldOf, pat_of, pat_field_of, pat_fields_of, pat_part_of, ty_of, some_ty_of, long_vid_of, constant_of, node_pat, node_pat_field, node_pat_part}
use Rattle.sml_tree.specs.declared.tree.Ty.{Ty}
use Rattle.sml_tree.specs.declared.tree.Pat.{Pat, Pat-F, fold-roll-Pat}
use Rattle.sml_tree.specs.declared.tree.Pat.TheVariants.{Wild, Constant, Vid, BuiltIn, Record, Tuple, List as ListPat, Con, BuiltCon, Chain, Typed, As, rolls-Wild, rolls-Constant, rolls-Vid, rolls-BuiltIn, rolls-Record, rolls-Tuple, rolls-List, rolls-Con, rolls-BuiltCon, rolls-Chain, rolls-Typed, rolls-As}
use Rattle.sml_tree.specs.declared.tree.PatField.{PatField, fold_out-PatField}
use Rattle.sml_tree.specs.declared.tree.PatPart.{PatPart, fold_out-PatPart}
use Rattle.pat_elab.specs.Fields.{numbered}

pub source-Wild : (p : Place) → pat_of (Wild p) ≡ bare.wild_pat p
source-Wild p = ap pat_of (sym (rolls-Wild p)) ∙ fold-roll-Pat bare.Pat PatFieldOf (Operand VidAt bare.Pat) node_pat node_pat_field node_pat_part (Pat-F.Wild p)

pub source-Constant : (p : Place) (c : SourceConstant) → pat_of (Constant p c) ≡ bare.constant_pat p (constant_of c)
source-Constant p c = ap pat_of (sym (rolls-Constant p c)) ∙ fold-roll-Pat bare.Pat PatFieldOf (Operand VidAt bare.Pat) node_pat node_pat_field node_pat_part (Pat-F.Constant p c)

pub source-Vid : (p : Place) (x : LongVid) → pat_of (Vid p x) ≡ bare.vid_pat p (long_vid_of x)
source-Vid p x = ap pat_of (sym (rolls-Vid p x)) ∙ fold-roll-Pat bare.Pat PatFieldOf (Operand VidAt bare.Pat) node_pat node_pat_field node_pat_part (Pat-F.Vid p x)

pub source-BuiltIn : (p : Place) (b : Built) → pat_of (BuiltIn p b) ≡ bare.built_pat p b
source-BuiltIn p b = ap pat_of (sym (rolls-BuiltIn p b)) ∙ fold-roll-Pat bare.Pat PatFieldOf (Operand VidAt bare.Pat) node_pat node_pat_field node_pat_part (Pat-F.BuiltIn p b)

pub source-List : (p : Place) (as_ : Vec Pat Global) → pat_of (ListPat p as_) ≡ list_pat_of p (map pat_of as_.items)
source-List p as_ = ap pat_of (sym (rolls-List p as_)) ∙ fold-roll-Pat bare.Pat PatFieldOf (Operand VidAt bare.Pat) node_pat node_pat_field node_pat_part (Pat-F.List p as_)

pub source-BuiltCon : (p : Place) (b : Built) (a : Box Pat Global) → pat_of (BuiltCon p b a) ≡ bare.built_con_pat p b (pat_of a.value)
source-BuiltCon p b a = ap pat_of (sym (rolls-BuiltCon p b a)) ∙ fold-roll-Pat bare.Pat PatFieldOf (Operand VidAt bare.Pat) node_pat node_pat_field node_pat_part (Pat-F.BuiltCon p b a)

pub source-Chain : (p : Place) (r : Bool) (a : Box Pat Global) (ps : Vec PatPart Global) → pat_of (Chain p r a ps) ≡ chain_of (λ v. join_pats v) r p (pat_of a.value) (map pat_part_of ps.items)
source-Chain p r a ps = ap pat_of (sym (rolls-Chain p r a ps)) ∙ fold-roll-Pat bare.Pat PatFieldOf (Operand VidAt bare.Pat) node_pat node_pat_field node_pat_part (Pat-F.Chain p r a ps)

pub source-Record : (p : Place) (fs : Vec PatField Global) (b : Bool) → pat_of (Record p fs b) ≡ bare.fields_pat p (pat_fields_of (map pat_field_of fs.items)) b
source-Record p fs b = ap pat_of (sym (rolls-Record p fs b)) ∙ fold-roll-Pat bare.Pat PatFieldOf (Operand VidAt bare.Pat) node_pat node_pat_field node_pat_part (Pat-F.Record p fs b)

pub source-Tuple : (p : Place) (as_ : Vec Pat Global) → pat_of (Tuple p as_) ≡ tuple_pat p (map pat_of as_.items)
source-Tuple p as_ = ap pat_of (sym (rolls-Tuple p as_)) ∙ fold-roll-Pat bare.Pat PatFieldOf (Operand VidAt bare.Pat) node_pat node_pat_field node_pat_part (Pat-F.Tuple p as_)

pub source-Con : (p q : Place) (x : LongVid) (a : Box Pat Global) → pat_of (Con p q x a) ≡ bare.con_pat p q (long_vid_of x) (pat_of a.value)
source-Con p q x a = ap pat_of (sym (rolls-Con p q x a)) ∙ fold-roll-Pat bare.Pat PatFieldOf (Operand VidAt bare.Pat) node_pat node_pat_field node_pat_part (Pat-F.Con p q x a)

pub source-Typed : (p : Place) (a : Box Pat Global) (t : Ty) → pat_of (Typed p a t) ≡ bare.typed_pat p (pat_of a.value) (ty_of t)
source-Typed p a t = ap pat_of (sym (rolls-Typed p a t)) ∙ fold-roll-Pat bare.Pat PatFieldOf (Operand VidAt bare.Pat) node_pat node_pat_field node_pat_part (Pat-F.Typed p a t)

pub source-As : (p : Place) (v : Name) (t : Option Ty) (a : Box Pat Global) → pat_of (As p v t a) ≡ bare.as_pat p v (some_ty_of t) (pat_of a.value)
source-As p v t a = ap pat_of (sym (rolls-As p v t a)) ∙ fold-roll-Pat bare.Pat PatFieldOf (Operand VidAt bare.Pat) node_pat node_pat_field node_pat_part (Pat-F.As p v t a)

pub field-is : (f : PatField) → pat_field_of f ≡ record { label = f.label; pat = pat_of f.pat }
field-is = fold_out-PatField bare.Pat PatFieldOf (Operand VidAt bare.Pat) node_pat node_pat_field node_pat_part

pub part-is : (p : PatPart) → pat_part_of p ≡ record { joint = record { place = p.vid_place; vid = p.vid }; place = p.place; operand = pat_of p.pat }
part-is = fold_out-PatPart bare.Pat PatFieldOf (Operand VidAt bare.Pat) node_pat node_pat_field node_pat_part

-- the parts of a tuple, one more

pub numbered-snoc : (k : ℕ) (as_ : List bare.Pat) (a : bare.Pat) → numbered k (as_ ++ a ∷ []) ≡ numbered k as_ ++ record { label = Number (k + length as_); pat = a } ∷ []
numbered-snoc k [] a = let e : k ≡ k + 0 = omega arith in ap (λ n. record { label = Number n; pat = a } ∷ []) e
numbered-snoc k (b ∷ as_) a =
    let e : suc k + length as_ ≡ k + suc (length as_) = omega arith in
    ap (λ l. record { label = Number k; pat = b } ∷ l) (numbered-snoc (suc k) as_ a ∙ ap (λ n. numbered (suc k) as_ ++ record { label = Number n; pat = a } ∷ []) e)
