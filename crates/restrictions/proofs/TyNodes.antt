-- What is broken in each node of types and patterns.
use Rattle.std.proofs.Common.{◌≡◌, ℕ, suc, Bool, true, false, List, [], ◌∷◌, ◌++◌, map, Vec, Box, Global, Option, Some, None, refl, sym, ap, ap₂, ◌∙◌, append_assoc}
use Rattle.std.specs.Prelude.{flat_map}
use Rattle.std.proofs.lemmas.List.{append-nil}
use Rattle.mlc_base.specs.declared.place.Place.{Place}
use Rattle.mlc_names.specs.declared.label.Label.{Label}
use Rattle.mlc_names.specs.declared.label.Label.TheVariants.{Number}
use Rattle.sml_tree.specs.BareTree as bare
use Rattle.sml_tree.specs.Derived.{Operand, TyAt, VidAt, arrows, join_pats, left_chain, list_pat_of, numbered_pats, numbered_tys, product, right_chain, tuple_pat, tys_of}
use Rattle.sml_tree.specs.Derived as derived
use Rattle.sml_tree.specs.TreeOf.{PatFieldOf, TyFieldOf, pat_field_of, pat_fields_of, pat_of, pat_part_of, some_ty_of, ty_field_of, ty_fields_of, ty_of, ty_part_of}
use Rattle.sml_tree.specs.TreeOf.{node_pat, node_pat_field, node_pat_part, node_ty, node_ty_field, node_ty_part}
use Rattle.sml_tree.specs.declared.ident.BuiltIn.{BuiltIn as Built}
use Rattle.sml_tree.specs.declared.ident.Constant.{Constant as SourceConstant}
use Rattle.sml_tree.specs.declared.ident.LongId.{LongId}
use Rattle.sml_tree.specs.declared.ident.LongVid.{LongVid}
use Rattle.sml_tree.specs.declared.ident.Tyvar.{Tyvar}
use Rattle.sml_tree.specs.declared.ident.Vid.{Vid}
use Rattle.sml_tree.specs.declared.tree.Pat.{Pat, Pat-F, fold-roll-Pat}
use Rattle.sml_tree.specs.declared.tree.Pat.TheVariants as pats
use Rattle.sml_tree.specs.declared.tree.PatField.{PatField, fold_out-PatField}
use Rattle.sml_tree.specs.declared.tree.PatPart.{PatPart, fold_out-PatPart}
use Rattle.sml_tree.specs.declared.tree.Ty.{Ty, Ty-F, fold-roll-Ty}
use Rattle.sml_tree.specs.declared.tree.Ty.TheVariants as tys
use Rattle.sml_tree.specs.declared.tree.TyField.{TyField, fold_out-TyField}
use Rattle.sml_tree.specs.declared.tree.TyPart.{TyPart, fold_out-TyPart}
use Rattle.core_rules.specs.Restrictions.{distinct, pat_labels, ty_labels, unless}
use Rattle.core_rules.specs.Words.{same_label}
use Rattle.restrictions.specs.Breaks.{pat_breaks, pat_fields_breaks, some_breaks, ty_breaks, ty_fields_breaks, tys_breaks}
use Rattle.restrictions.specs.Nodes.{field_pat_places, field_ty_places, pat_part_places, pat_places, some_places, ty_part_places, ty_places, unless_once}
use Rattle.restrictions.proofs.ByKeys.{counted, counted-once}

-- what stands alone
pub once-none : (ls : List Label) (p : Place) (xs : List Place) → distinct same_label ls ≡ true → xs ++ unless (distinct same_label ls) p ≡ xs
once-none ls p xs e = ap (λ b. xs ++ unless b p) e ∙ append-nil xs

-- types

pub ty-field : (f : TyField) → ty_field_of f ≡ record { label = f.label; ty = ty_of f.ty }
ty-field f = fold_out-TyField bare.Ty TyFieldOf TyAt node_ty node_ty_field node_ty_part f

ty-fields : (fs : List TyField) → ty_fields_breaks (ty_fields_of (map ty_field_of fs)) ≡ flat_map field_ty_places fs
ty-fields [] = refl
ty-fields (f ∷ fs) = ap₂ (λ a b. a ++ b) (ap (λ (r : TyFieldOf). ty_breaks r.ty) (ty-field f)) (ty-fields fs)

pub ty-field-labels : (fs : List TyField) → ty_labels (ty_fields_of (map ty_field_of fs)) ≡ map (λ f. f.label) fs
ty-field-labels [] = refl
ty-field-labels (f ∷ fs) = ap₂ (λ a b. a ∷ b) (ap (λ (r : TyFieldOf). r.label) (ty-field f)) (ty-field-labels fs)

ty-list : (ts : List Ty) → tys_breaks (tys_of (map ty_of ts)) ≡ flat_map ty_places ts
ty-list [] = refl
ty-list (t ∷ ts) = ap (λ l. ty_places t ++ l) (ty-list ts)

ty-numbered : (k : ℕ) (ts : List Ty) → ty_fields_breaks (numbered_tys k (map ty_of ts)) ≡ flat_map ty_places ts
ty-numbered k [] = refl
ty-numbered k (t ∷ ts) = ap (λ l. ty_places t ++ l) (ty-numbered (suc k) ts)

pub ty-counted : (k : ℕ) (ts : List bare.Ty) → ty_labels (numbered_tys k ts) ≡ counted k ts
ty-counted k [] = refl
ty-counted k (t ∷ ts) = ap (λ l. Number k ∷ l) (ty-counted (suc k) ts)

ty-product : (p : Place) (ts : List Ty) → ty_breaks (product p (map ty_of ts)) ≡ flat_map ty_places ts
ty-product p ts =
    once-none (ty_labels (numbered_tys 1 (map ty_of ts))) p (ty_fields_breaks (numbered_tys 1 (map ty_of ts)))
    (ap (distinct same_label) (ty-counted 1 (map ty_of ts)) ∙ counted-once 1 (map ty_of ts)) ∙ ty-numbered 1 ts

ty-arrows : (p : Place) (t : bare.Ty) (us : List TyPart) → ty_breaks (arrows p t (map ty_part_of us)) ≡ ty_breaks t ++ flat_map ty_part_places us
ty-arrows p t [] = sym (append-nil (ty_breaks t))
ty-arrows p t (u ∷ us) =
    ap (λ l. ty_breaks t ++ l) (ty-arrows (ty_part_of u).place (ty_part_of u).ty us
    ∙ ap (λ (r : TyAt). ty_breaks r.ty ++ flat_map ty_part_places us) (fold_out-TyPart bare.Ty TyFieldOf TyAt node_ty node_ty_field node_ty_part u))

pub ty-Var : (x : Ty) (p : Place) (a : Tyvar) → x ≡ tys.Var p a → ty_places x ≡ []
ty-Var x p a e = ap ty_places e ∙ ap ty_places (sym (tys.rolls-Var p a)) ∙ ap ty_breaks (fold-roll-Ty bare.Ty TyFieldOf TyAt node_ty node_ty_field node_ty_part (Ty-F.Var p a))

pub ty-Record : (x : Ty) (p : Place) (fs : Vec TyField Global) → x ≡ tys.Record p fs → flat_map field_ty_places fs.items ++ unless_once (map (λ f. f.label) fs.items) p ≡ ty_places x
ty-Record x p fs e =
    sym (ap ty_places e ∙ ap ty_places (sym (tys.rolls-Record p fs)) ∙ ap ty_breaks (fold-roll-Ty bare.Ty TyFieldOf TyAt node_ty node_ty_field node_ty_part (Ty-F.Record p fs))
    ∙ ap₂ (λ a ls. a ++ unless_once ls p) (ty-fields fs.items) (ty-field-labels fs.items))

pub ty-Con : (x : Ty) (p : Place) (ts : Vec Ty Global) (q : Place) (c : LongId) → x ≡ tys.Con p ts q c → flat_map ty_places ts.items ≡ ty_places x
ty-Con x p ts q c e = sym (ap ty_places e ∙ ap ty_places (sym (tys.rolls-Con p ts q c)) ∙ ap ty_breaks (fold-roll-Ty bare.Ty TyFieldOf TyAt node_ty node_ty_field node_ty_part (Ty-F.Con p ts q c)) ∙ ty-list ts.items)

pub ty-Product : (x : Ty) (p : Place) (ts : Vec Ty Global) → x ≡ tys.Product p ts → flat_map ty_places ts.items ≡ ty_places x
ty-Product x p ts e = sym (ap ty_places e ∙ ap ty_places (sym (tys.rolls-Product p ts)) ∙ ap ty_breaks (fold-roll-Ty bare.Ty TyFieldOf TyAt node_ty node_ty_field node_ty_part (Ty-F.Product p ts)) ∙ ty-product p ts.items)

pub ty-Arrow : (x : Ty) (p : Place) (t : Box Ty Global) (us : Vec TyPart Global) → x ≡ tys.Arrow p t us → ty_places t.value ++ flat_map ty_part_places us.items ≡ ty_places x
ty-Arrow x p t us e = sym (ap ty_places e ∙ ap ty_places (sym (tys.rolls-Arrow p t us)) ∙ ap ty_breaks (fold-roll-Ty bare.Ty TyFieldOf TyAt node_ty node_ty_field node_ty_part (Ty-F.Arrow p t us)) ∙ ty-arrows p (ty_of t.value) us.items)

pub some-is : (o : Option Ty) → some_breaks (some_ty_of o) ≡ some_places o
some-is None = refl
some-is (Some t) = refl

-- patterns

pat-field : (f : PatField) → pat_field_of f ≡ record { label = f.label; pat = pat_of f.pat }
pat-field f = fold_out-PatField bare.Pat PatFieldOf (Operand VidAt bare.Pat) node_pat node_pat_field node_pat_part f

pat-fields : (fs : List PatField) → pat_fields_breaks (pat_fields_of (map pat_field_of fs)) ≡ flat_map field_pat_places fs
pat-fields [] = refl
pat-fields (f ∷ fs) = ap₂ (λ a b. a ++ b) (ap (λ (r : PatFieldOf). pat_breaks r.pat) (pat-field f)) (pat-fields fs)

pat-field-labels : (fs : List PatField) → pat_labels (pat_fields_of (map pat_field_of fs)) ≡ map (λ f. f.label) fs
pat-field-labels [] = refl
pat-field-labels (f ∷ fs) = ap₂ (λ a b. a ∷ b) (ap (λ (r : PatFieldOf). r.label) (pat-field f)) (pat-field-labels fs)

pat-numbered : (k : ℕ) (as_ : List Pat) → pat_fields_breaks (numbered_pats k (map pat_of as_)) ≡ flat_map pat_places as_
pat-numbered k [] = refl
pat-numbered k (a ∷ as_) = ap (λ l. pat_places a ++ l) (pat-numbered (suc k) as_)

pat-counted : (k : ℕ) (as_ : List bare.Pat) → pat_labels (numbered_pats k as_) ≡ counted k as_
pat-counted k [] = refl
pat-counted k (a ∷ as_) = ap (λ l. Number k ∷ l) (pat-counted (suc k) as_)

-- a tuple breaks nothing itself
pub pat-tuple : (p : Place) (as_ : List bare.Pat) → pat_breaks (tuple_pat p as_) ≡ pat_fields_breaks (numbered_pats 1 as_)
pat-tuple p as_ =
    once-none (pat_labels (numbered_pats 1 as_)) p (pat_fields_breaks (numbered_pats 1 as_)) (ap (distinct same_label) (pat-counted 1 as_) ∙ counted-once 1 as_)

pub pat-parts : (p : Place) (as_ : List Pat) → pat_breaks (tuple_pat p (map pat_of as_)) ≡ flat_map pat_places as_
pat-parts p as_ = pat-tuple p (map pat_of as_) ∙ pat-numbered 1 as_

-- of two
pat-two : (p : Place) (a b : bare.Pat) → pat_breaks (tuple_pat p (a ∷ b ∷ [])) ≡ pat_breaks a ++ pat_breaks b
pat-two p a b = pat-tuple p (a ∷ b ∷ []) ∙ ap (λ l. pat_breaks a ++ l) (append-nil (pat_breaks b))

pat-list : (p : Place) (as_ : List Pat) → pat_breaks (list_pat_of p (map pat_of as_)) ≡ flat_map pat_places as_
pat-list p [] = refl
pat-list p (a ∷ as_) = pat-two p (pat_of a) (list_pat_of p (map pat_of as_)) ∙ ap (λ l. pat_places a ++ l) (pat-list p as_)

part-pat : (o : PatPart) → pat_breaks (pat_part_of o).operand ≡ pat_part_places o
part-pat o = ap (λ (r : Operand VidAt bare.Pat). pat_breaks r.operand) (fold_out-PatPart bare.Pat PatFieldOf (Operand VidAt bare.Pat) node_pat node_pat_field node_pat_part o)

pat-left : (p : Place) (a : bare.Pat) (os : List PatPart) → pat_breaks (left_chain join_pats p a (map pat_part_of os)) ≡ pat_breaks a ++ flat_map pat_part_places os
pat-left p a [] = sym (append-nil (pat_breaks a))
pat-left p a (o ∷ os) =
    pat-left p (join_pats (pat_part_of o).joint p a (pat_part_of o).operand) os
    ∙ ap (λ l. l ++ flat_map pat_part_places os) (pat-two p a (pat_part_of o).operand ∙ ap (λ l. pat_breaks a ++ l) (part-pat o))
    ∙ append_assoc (pat_breaks a) (pat_part_places o) (flat_map pat_part_places os)

pat-right : (p : Place) (a : bare.Pat) (os : List PatPart) → pat_breaks (right_chain join_pats p a (map pat_part_of os)) ≡ pat_breaks a ++ flat_map pat_part_places os
pat-right p a [] = sym (append-nil (pat_breaks a))
pat-right p a (o ∷ os) =
    let b = pat_part_of o in
    pat-two p a (right_chain join_pats b.place b.operand (map pat_part_of os))
    ∙ ap (λ l. pat_breaks a ++ l) (pat-right b.place b.operand os ∙ ap (λ l. l ++ flat_map pat_part_places os) (part-pat o))

pat-chain : (r : Bool) (p : Place) (a : bare.Pat) (os : List PatPart)
    → pat_breaks (derived.chain_of join_pats r p a (map pat_part_of os)) ≡ pat_breaks a ++ flat_map pat_part_places os
pat-chain true p a os = pat-right p a os
pat-chain false p a os = pat-left p a os

pub pat-Wild : (x : Pat) (p : Place) → x ≡ pats.Wild p → pat_places x ≡ []
pat-Wild x p e = ap pat_places e ∙ ap pat_places (sym (pats.rolls-Wild p)) ∙ ap pat_breaks (fold-roll-Pat bare.Pat PatFieldOf (Operand VidAt bare.Pat) node_pat node_pat_field node_pat_part (Pat-F.Wild p))

pub pat-Constant : (x : Pat) (p : Place) (c : SourceConstant) → x ≡ pats.Constant p c → pat_places x ≡ []
pat-Constant x p c e = ap pat_places e ∙ ap pat_places (sym (pats.rolls-Constant p c)) ∙ ap pat_breaks (fold-roll-Pat bare.Pat PatFieldOf (Operand VidAt bare.Pat) node_pat node_pat_field node_pat_part (Pat-F.Constant p c))

pub pat-Vid : (x : Pat) (p : Place) (v : LongVid) → x ≡ pats.Vid p v → pat_places x ≡ []
pat-Vid x p v e = ap pat_places e ∙ ap pat_places (sym (pats.rolls-Vid p v)) ∙ ap pat_breaks (fold-roll-Pat bare.Pat PatFieldOf (Operand VidAt bare.Pat) node_pat node_pat_field node_pat_part (Pat-F.Vid p v))

pub pat-BuiltIn : (x : Pat) (p : Place) (b : Built) → x ≡ pats.BuiltIn p b → pat_places x ≡ []
pat-BuiltIn x p b e = ap pat_places e ∙ ap pat_places (sym (pats.rolls-BuiltIn p b)) ∙ ap pat_breaks (fold-roll-Pat bare.Pat PatFieldOf (Operand VidAt bare.Pat) node_pat node_pat_field node_pat_part (Pat-F.BuiltIn p b))

pub pat-Record : (x : Pat) (p : Place) (fs : Vec PatField Global) (b : Bool) → x ≡ pats.Record p fs b
    → flat_map field_pat_places fs.items ++ unless_once (map (λ f. f.label) fs.items) p ≡ pat_places x
pat-Record x p fs b e =
    sym (ap pat_places e ∙ ap pat_places (sym (pats.rolls-Record p fs b)) ∙ ap pat_breaks (fold-roll-Pat bare.Pat PatFieldOf (Operand VidAt bare.Pat) node_pat node_pat_field node_pat_part (Pat-F.Record p fs b))
    ∙ ap₂ (λ a ls. a ++ unless_once ls p) (pat-fields fs.items) (pat-field-labels fs.items))

pub pat-Tuple : (x : Pat) (p : Place) (as_ : Vec Pat Global) → x ≡ pats.Tuple p as_ → flat_map pat_places as_.items ≡ pat_places x
pat-Tuple x p as_ e = sym (ap pat_places e ∙ ap pat_places (sym (pats.rolls-Tuple p as_)) ∙ ap pat_breaks (fold-roll-Pat bare.Pat PatFieldOf (Operand VidAt bare.Pat) node_pat node_pat_field node_pat_part (Pat-F.Tuple p as_)) ∙ pat-parts p as_.items)

pub pat-List : (x : Pat) (p : Place) (as_ : Vec Pat Global) → x ≡ pats.List p as_ → flat_map pat_places as_.items ≡ pat_places x
pat-List x p as_ e = sym (ap pat_places e ∙ ap pat_places (sym (pats.rolls-List p as_)) ∙ ap pat_breaks (fold-roll-Pat bare.Pat PatFieldOf (Operand VidAt bare.Pat) node_pat node_pat_field node_pat_part (Pat-F.List p as_)) ∙ pat-list p as_.items)

pub pat-Con : (x : Pat) (p : Place) (q : Place) (v : LongVid) (a : Box Pat Global) → x ≡ pats.Con p q v a → pat_places a.value ≡ pat_places x
pat-Con x p q v a e = sym (ap pat_places e ∙ ap pat_places (sym (pats.rolls-Con p q v a)) ∙ ap pat_breaks (fold-roll-Pat bare.Pat PatFieldOf (Operand VidAt bare.Pat) node_pat node_pat_field node_pat_part (Pat-F.Con p q v a)))

pub pat-BuiltCon : (x : Pat) (p : Place) (b : Built) (a : Box Pat Global) → x ≡ pats.BuiltCon p b a → pat_places a.value ≡ pat_places x
pat-BuiltCon x p b a e = sym (ap pat_places e ∙ ap pat_places (sym (pats.rolls-BuiltCon p b a)) ∙ ap pat_breaks (fold-roll-Pat bare.Pat PatFieldOf (Operand VidAt bare.Pat) node_pat node_pat_field node_pat_part (Pat-F.BuiltCon p b a)))

pub pat-Chain : (x : Pat) (p : Place) (r : Bool) (a : Box Pat Global) (os : Vec PatPart Global) → x ≡ pats.Chain p r a os → pat_places a.value ++ flat_map pat_part_places os.items ≡ pat_places x
pat-Chain x p r a os e =
    sym (ap pat_places e ∙ ap pat_places (sym (pats.rolls-Chain p r a os)) ∙ ap pat_breaks (fold-roll-Pat bare.Pat PatFieldOf (Operand VidAt bare.Pat) node_pat node_pat_field node_pat_part (Pat-F.Chain p r a os)) ∙ pat-chain r p (pat_of a.value) os.items)

pub pat-Typed : (x : Pat) (p : Place) (a : Box Pat Global) (t : Ty) → x ≡ pats.Typed p a t → pat_places a.value ++ ty_places t ≡ pat_places x
pat-Typed x p a t e = sym (ap pat_places e ∙ ap pat_places (sym (pats.rolls-Typed p a t)) ∙ ap pat_breaks (fold-roll-Pat bare.Pat PatFieldOf (Operand VidAt bare.Pat) node_pat node_pat_field node_pat_part (Pat-F.Typed p a t)))

pub pat-As : (x : Pat) (p : Place) (v : Vid) (t : Option Ty) (a : Box Pat Global) → x ≡ pats.As p v t a → some_places t ++ pat_places a.value ≡ pat_places x
pat-As x p v t a e =
    sym (ap pat_places e ∙ ap pat_places (sym (pats.rolls-As p v t a)) ∙ ap pat_breaks (fold-roll-Pat bare.Pat PatFieldOf (Operand VidAt bare.Pat) node_pat node_pat_field node_pat_part (Pat-F.As p v t a)) ∙ ap (λ l. l ++ pat_places a.value) (some-is t))
