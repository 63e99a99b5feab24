-- The type variables of each node.
use Rattle.std.proofs.Common.{◌≡◌, ℕ, suc, Bool, true, false, List, [], ◌∷◌, ◌++◌, map, Vec, Box, Global, Option, Some, None, refl, sym, ap, ap₂, ◌∙◌, append_assoc}
use Rattle.std.specs.Prelude.{flat_map}
use Rattle.std.proofs.lemmas.Grind.{flat_map-append}
use Rattle.std.proofs.lemmas.List.{map-append}
use Rattle.mlc_base.specs.declared.place.Place.{Place}
use Rattle.sml_tree.specs.BareTree as bare
use Rattle.sml_tree.specs.Derived.{Operand, TyAt, VidAt, app_of, arrows, clause_rules, fn_for, fresh_for, fun_of, function_binds, join_pats, left_chain, list_of, list_pat_of, numbered, numbered_pats, numbered_tys, one_or_tuple, one_or_tuple_pat, right_chain, sequence_of, tys_of}
use Rattle.sml_tree.specs.Derived as derived
use Rattle.sml_tree.specs.Phrases.{Phrase, TyvarAt, bind_list, has_scope, in_binds, in_data_bind, in_dec, in_decs, in_ex_bind, in_exp, in_exp_fields, in_pat, in_pat_fields, in_rules, in_ty, in_ty_fields, in_type_bind, in_tys, phrases_until, tyvars_at}
use Rattle.sml_tree.specs.TreeOf.{ExpFieldOf, PatFieldOf, RuleOf, TyFieldOf, bind_of, binds_of, clause_of, data_bind_of, dec_of, decs_of, ex_bind_of, exp_field_of, exp_fields_of, exp_of, function_of, pat_field_of, pat_fields_of, pat_of, pat_part_of, rule_of, rules_of, some_ty_of, ty_field_of, ty_fields_of, ty_of, ty_part_of, type_bind_of}
use Rattle.sml_tree.specs.TreeOf.{node_bind, node_clause, node_dec, node_exp, node_exp_field, node_function, node_part, node_pat, node_pat_field, node_pat_part, node_rule, node_ty, node_ty_field, node_ty_part}
use Rattle.sml_tree.specs.declared.ident.BuiltIn.{BuiltIn as Built}
use Rattle.sml_tree.specs.declared.ident.Constant.{Constant as SourceConstant}
use Rattle.sml_tree.specs.declared.ident.LongId.{LongId}
use Rattle.sml_tree.specs.declared.ident.LongVid.{LongVid}
use Rattle.sml_tree.specs.declared.ident.Tyvar.{Tyvar}
use Rattle.sml_tree.specs.declared.ident.Vid.{Vid}
use Rattle.sml_tree.specs.declared.tree.Bind.{Bind, fold_out-Bind}
use Rattle.sml_tree.specs.declared.tree.Clause.{Clause, fold_out-Clause}
use Rattle.sml_tree.specs.declared.tree.DataBind.{DataBind}
use Rattle.sml_tree.specs.declared.tree.Dec.{Dec, Dec-F, fold-roll-Dec}
use Rattle.sml_tree.specs.declared.tree.Dec.TheVariants as decs
use Rattle.sml_tree.specs.declared.tree.ExBind.{ExBind}
use Rattle.sml_tree.specs.declared.tree.ExBind.TheVariants as exn
use Rattle.sml_tree.specs.declared.tree.Exp.{Exp, Exp-F, fold-roll-Exp}
use Rattle.sml_tree.specs.declared.tree.Exp.TheVariants as exps
use Rattle.sml_tree.specs.declared.tree.ExpField.{ExpField, fold_out-ExpField}
use Rattle.sml_tree.specs.declared.tree.Function.{Function, fold_out-Function, out-Function}
use Rattle.sml_tree.specs.declared.tree.Joint.{Joint}
use Rattle.sml_tree.specs.declared.tree.LongIdAt.{LongIdAt}
use Rattle.sml_tree.specs.declared.tree.Pat.{Pat, Pat-F, fold-roll-Pat}
use Rattle.sml_tree.specs.declared.tree.Pat.TheVariants as pats
use Rattle.sml_tree.specs.declared.tree.PatField.{PatField, fold_out-PatField}
use Rattle.sml_tree.specs.declared.tree.PatPart.{PatPart, fold_out-PatPart}
use Rattle.sml_tree.specs.declared.tree.Rule.{Rule, fold_out-Rule}
use Rattle.sml_tree.specs.declared.tree.Ty.{Ty, Ty-F, fold-roll-Ty}
use Rattle.sml_tree.specs.declared.tree.Ty.TheVariants as tys
use Rattle.sml_tree.specs.declared.tree.TyField.{TyField, fold_out-TyField}
use Rattle.sml_tree.specs.declared.tree.TyPart.{TyPart, fold_out-TyPart}
use Rattle.sml_tree.specs.declared.tree.TypeBind.{TypeBind}
use Rattle.sml_tree.specs.declared.tree.TyvarSeq.{TyvarSeq}
use Rattle.core_rules.specs.Scoping.{tyvars_in, unguarded_in}
use Rattle.scoped_tyvars.specs.Unguarded.{back, bind_tyvars, clause_tyvars, dec_tyvars, exn_tyvars, exp_tyvars, field_pat_tyvars, field_ty_tyvars, field_tyvars, function_tyvars, in_bare_exp, in_bare_pat, in_bare_ty, pat_part_tyvars, pat_tyvars, rule_tyvars, some_tyvars, ty_part_tyvars, ty_tyvars}
use Rattle.scoped_tyvars.proofs.Listing.{append-nil}

pub split : (xs ys : List Phrase) → tyvars_in (xs ++ ys) ≡ tyvars_in xs ++ tyvars_in ys
split xs ys = ap (map (λ (a : TyvarAt). a.tyvar)) (flat_map-append tyvars_at xs ys) ∙ map-append (λ (a : TyvarAt). a.tyvar) (flat_map tyvars_at xs) (flat_map tyvars_at ys)

-- types

ty-fields : (fs : List TyField) → tyvars_in (in_ty_fields has_scope (ty_fields_of (map ty_field_of fs))) ≡ flat_map field_ty_tyvars fs
ty-fields [] = refl
ty-fields (f ∷ fs) =
    split (in_ty has_scope (ty_field_of f).ty) (in_ty_fields has_scope (ty_fields_of (map ty_field_of fs)))
    ∙ ap₂ (λ a b. a ++ b) (ap (λ (r : TyFieldOf). in_bare_ty r.ty) (fold_out-TyField bare.Ty TyFieldOf TyAt node_ty node_ty_field node_ty_part f)) (ty-fields fs)

ty-list : (ts : List Ty) → tyvars_in (in_tys has_scope (tys_of (map ty_of ts))) ≡ flat_map ty_tyvars ts
ty-list [] = refl
ty-list (t ∷ ts) = split (in_ty has_scope (ty_of t)) (in_tys has_scope (tys_of (map ty_of ts))) ∙ ap (λ l. ty_tyvars t ++ l) (ty-list ts)

ty-numbered : (k : ℕ) (ts : List Ty) → tyvars_in (in_ty_fields has_scope (numbered_tys k (map ty_of ts))) ≡ flat_map ty_tyvars ts
ty-numbered k [] = refl
ty-numbered k (t ∷ ts) = split (in_ty has_scope (ty_of t)) (in_ty_fields has_scope (numbered_tys (suc k) (map ty_of ts))) ∙ ap (λ l. ty_tyvars t ++ l) (ty-numbered (suc k) ts)

ty-arrows : (p : Place) (t : bare.Ty) (us : List TyPart) → in_bare_ty (arrows p t (map ty_part_of us)) ≡ in_bare_ty t ++ flat_map ty_part_tyvars us
ty-arrows p t [] = sym (append-nil (in_bare_ty t))
ty-arrows p t (u ∷ us) =
    split (in_ty has_scope t) (in_ty has_scope (arrows (ty_part_of u).place (ty_part_of u).ty (map ty_part_of us)))
    ∙ ap (λ l. in_bare_ty t ++ l) (ty-arrows (ty_part_of u).place (ty_part_of u).ty us
    ∙ ap (λ (r : TyAt). in_bare_ty r.ty ++ flat_map ty_part_tyvars us) (fold_out-TyPart bare.Ty TyFieldOf TyAt node_ty node_ty_field node_ty_part u))

pub ty-Var : (x : Ty) (p : Place) (a : Tyvar) → x ≡ tys.Var p a → ty_tyvars x ≡ a ∷ []
ty-Var x p a e =
    ap ty_tyvars e ∙ ap (λ z. in_bare_ty (ty_of z)) (sym (tys.rolls-Var p a)) ∙ ap in_bare_ty (fold-roll-Ty bare.Ty TyFieldOf TyAt node_ty node_ty_field node_ty_part (Ty-F.Var p a))

pub ty-Record : (x : Ty) (p : Place) (fs : Vec TyField Global) → x ≡ tys.Record p fs → ty_tyvars x ≡ flat_map field_ty_tyvars fs.items
ty-Record x p fs e =
    ap ty_tyvars e ∙ ap (λ z. in_bare_ty (ty_of z)) (sym (tys.rolls-Record p fs)) ∙ ap in_bare_ty (fold-roll-Ty bare.Ty TyFieldOf TyAt node_ty node_ty_field node_ty_part (Ty-F.Record p fs)) ∙ ty-fields fs.items

pub ty-Con : (x : Ty) (p : Place) (ts : Vec Ty Global) (q : Place) (c : LongId) → x ≡ tys.Con p ts q c → ty_tyvars x ≡ flat_map ty_tyvars ts.items
ty-Con x p ts q c e =
    ap ty_tyvars e ∙ ap (λ z. in_bare_ty (ty_of z)) (sym (tys.rolls-Con p ts q c)) ∙ ap in_bare_ty (fold-roll-Ty bare.Ty TyFieldOf TyAt node_ty node_ty_field node_ty_part (Ty-F.Con p ts q c)) ∙ ty-list ts.items

pub ty-Product : (x : Ty) (p : Place) (ts : Vec Ty Global) → x ≡ tys.Product p ts → ty_tyvars x ≡ flat_map ty_tyvars ts.items
ty-Product x p ts e =
    ap ty_tyvars e ∙ ap (λ z. in_bare_ty (ty_of z)) (sym (tys.rolls-Product p ts)) ∙ ap in_bare_ty (fold-roll-Ty bare.Ty TyFieldOf TyAt node_ty node_ty_field node_ty_part (Ty-F.Product p ts)) ∙ ty-numbered 1 ts.items

pub ty-Arrow : (x : Ty) (p : Place) (t : Box Ty Global) (us : Vec TyPart Global) → x ≡ tys.Arrow p t us → ty_tyvars x ≡ ty_tyvars t.value ++ flat_map ty_part_tyvars us.items
ty-Arrow x p t us e =
    ap ty_tyvars e ∙ ap (λ z. in_bare_ty (ty_of z)) (sym (tys.rolls-Arrow p t us)) ∙ ap in_bare_ty (fold-roll-Ty bare.Ty TyFieldOf TyAt node_ty node_ty_field node_ty_part (Ty-F.Arrow p t us)) ∙ ty-arrows p (ty_of t.value) us.items

-- a type that may be written
pub some-is : (o : Option Ty) → some_tyvars o ≡ tyvars_in (Rattle.sml_tree.specs.Phrases.in_some has_scope (some_ty_of o))
some-is None = refl
some-is (Some t) = refl

-- patterns

pat-fields : (fs : List PatField) → tyvars_in (in_pat_fields has_scope (pat_fields_of (map pat_field_of fs))) ≡ flat_map field_pat_tyvars fs
pat-fields [] = refl
pat-fields (f ∷ fs) =
    split (in_pat has_scope (pat_field_of f).pat) (in_pat_fields has_scope (pat_fields_of (map pat_field_of fs)))
    ∙ ap₂ (λ a b. a ++ b) (ap (λ (r : PatFieldOf). in_bare_pat r.pat) (fold_out-PatField bare.Pat PatFieldOf (Operand VidAt bare.Pat) node_pat node_pat_field node_pat_part f)) (pat-fields fs)

pat-numbered : (k : ℕ) (as_ : List Pat) → tyvars_in (in_pat_fields has_scope (numbered_pats k (map pat_of as_))) ≡ flat_map pat_tyvars as_
pat-numbered k [] = refl
pat-numbered k (a ∷ as_) =
    split (in_pat has_scope (pat_of a)) (in_pat_fields has_scope (numbered_pats (suc k) (map pat_of as_))) ∙ ap (λ l. pat_tyvars a ++ l) (pat-numbered (suc k) as_)

-- of two
pat-two : (a b : bare.Pat) → tyvars_in (in_pat_fields has_scope (numbered_pats 1 (a ∷ b ∷ []))) ≡ in_bare_pat a ++ in_bare_pat b
pat-two a b =
    split (in_pat has_scope a) (in_pat has_scope b ++ []) ∙ ap (λ l. in_bare_pat a ++ l) (ap tyvars_in (append-nil (in_pat has_scope b)))

pat-list : (p : Place) (as_ : List Pat) → in_bare_pat (list_pat_of p (map pat_of as_)) ≡ flat_map pat_tyvars as_
pat-list p [] = refl
pat-list p (a ∷ as_) = pat-two (pat_of a) (list_pat_of p (map pat_of as_)) ∙ ap (λ l. pat_tyvars a ++ l) (pat-list p as_)

part-pat : (o : PatPart) → in_bare_pat (pat_part_of o).operand ≡ pat_part_tyvars o
part-pat o = ap (λ (r : Operand VidAt bare.Pat). in_bare_pat r.operand) (fold_out-PatPart bare.Pat PatFieldOf (Operand VidAt bare.Pat) node_pat node_pat_field node_pat_part o)

pat-left : (p : Place) (a : bare.Pat) (os : List PatPart) → in_bare_pat (left_chain join_pats p a (map pat_part_of os)) ≡ in_bare_pat a ++ flat_map pat_part_tyvars os
pat-left p a [] = sym (append-nil (in_bare_pat a))
pat-left p a (o ∷ os) =
    pat-left p (join_pats (pat_part_of o).joint p a (pat_part_of o).operand) os
    ∙ ap (λ l. l ++ flat_map pat_part_tyvars os) (pat-two a (pat_part_of o).operand ∙ ap (λ l. in_bare_pat a ++ l) (part-pat o))
    ∙ append_assoc (in_bare_pat a) (pat_part_tyvars o) (flat_map pat_part_tyvars os)

pat-right : (p : Place) (a : bare.Pat) (os : List PatPart) → in_bare_pat (right_chain join_pats p a (map pat_part_of os)) ≡ in_bare_pat a ++ flat_map pat_part_tyvars os
pat-right p a [] = sym (append-nil (in_bare_pat a))
pat-right p a (o ∷ os) =
    let b = pat_part_of o in
    pat-two a (right_chain join_pats b.place b.operand (map pat_part_of os))
    ∙ ap (λ l. in_bare_pat a ++ l) (pat-right b.place b.operand os ∙ ap (λ l. l ++ flat_map pat_part_tyvars os) (part-pat o))

pat-chain : (r : Bool) (p : Place) (a : bare.Pat) (os : List PatPart)
    → in_bare_pat (derived.chain_of join_pats r p a (map pat_part_of os)) ≡ in_bare_pat a ++ flat_map pat_part_tyvars os
pat-chain true p a os = pat-right p a os
pat-chain false p a os = pat-left p a os

pub pat-Wild : (x : Pat) (p : Place) → x ≡ pats.Wild p → pat_tyvars x ≡ []
pat-Wild x p e =
    ap pat_tyvars e ∙ ap (λ z. in_bare_pat (pat_of z)) (sym (pats.rolls-Wild p)) ∙ ap in_bare_pat (fold-roll-Pat bare.Pat PatFieldOf (Operand VidAt bare.Pat) node_pat node_pat_field node_pat_part (Pat-F.Wild p))

pub pat-Constant : (x : Pat) (p : Place) (c : SourceConstant) → x ≡ pats.Constant p c → pat_tyvars x ≡ []
pat-Constant x p c e =
    ap pat_tyvars e ∙ ap (λ z. in_bare_pat (pat_of z)) (sym (pats.rolls-Constant p c)) ∙ ap in_bare_pat (fold-roll-Pat bare.Pat PatFieldOf (Operand VidAt bare.Pat) node_pat node_pat_field node_pat_part (Pat-F.Constant p c))

pub pat-Vid : (x : Pat) (p : Place) (v : LongVid) → x ≡ pats.Vid p v → pat_tyvars x ≡ []
pat-Vid x p v e =
    ap pat_tyvars e ∙ ap (λ z. in_bare_pat (pat_of z)) (sym (pats.rolls-Vid p v)) ∙ ap in_bare_pat (fold-roll-Pat bare.Pat PatFieldOf (Operand VidAt bare.Pat) node_pat node_pat_field node_pat_part (Pat-F.Vid p v))

pub pat-BuiltIn : (x : Pat) (p : Place) (b : Built) → x ≡ pats.BuiltIn p b → pat_tyvars x ≡ []
pat-BuiltIn x p b e =
    ap pat_tyvars e ∙ ap (λ z. in_bare_pat (pat_of z)) (sym (pats.rolls-BuiltIn p b)) ∙ ap in_bare_pat (fold-roll-Pat bare.Pat PatFieldOf (Operand VidAt bare.Pat) node_pat node_pat_field node_pat_part (Pat-F.BuiltIn p b))

pub pat-Record : (x : Pat) (p : Place) (fs : Vec PatField Global) (b : Bool) → x ≡ pats.Record p fs b → pat_tyvars x ≡ flat_map field_pat_tyvars fs.items
pat-Record x p fs b e =
    ap pat_tyvars e ∙ ap (λ z. in_bare_pat (pat_of z)) (sym (pats.rolls-Record p fs b)) ∙ ap in_bare_pat (fold-roll-Pat bare.Pat PatFieldOf (Operand VidAt bare.Pat) node_pat node_pat_field node_pat_part (Pat-F.Record p fs b)) ∙ pat-fields fs.items

pub pat-Tuple : (x : Pat) (p : Place) (as_ : Vec Pat Global) → x ≡ pats.Tuple p as_ → pat_tyvars x ≡ flat_map pat_tyvars as_.items
pat-Tuple x p as_ e =
    ap pat_tyvars e ∙ ap (λ z. in_bare_pat (pat_of z)) (sym (pats.rolls-Tuple p as_)) ∙ ap in_bare_pat (fold-roll-Pat bare.Pat PatFieldOf (Operand VidAt bare.Pat) node_pat node_pat_field node_pat_part (Pat-F.Tuple p as_)) ∙ pat-numbered 1 as_.items

pub pat-List : (x : Pat) (p : Place) (as_ : Vec Pat Global) → x ≡ pats.List p as_ → pat_tyvars x ≡ flat_map pat_tyvars as_.items
pat-List x p as_ e =
    ap pat_tyvars e ∙ ap (λ z. in_bare_pat (pat_of z)) (sym (pats.rolls-List p as_)) ∙ ap in_bare_pat (fold-roll-Pat bare.Pat PatFieldOf (Operand VidAt bare.Pat) node_pat node_pat_field node_pat_part (Pat-F.List p as_)) ∙ pat-list p as_.items

pub pat-Con : (x : Pat) (p : Place) (q : Place) (v : LongVid) (a : Box Pat Global) → x ≡ pats.Con p q v a → pat_tyvars x ≡ pat_tyvars a.value
pat-Con x p q v a e =
    ap pat_tyvars e ∙ ap (λ z. in_bare_pat (pat_of z)) (sym (pats.rolls-Con p q v a)) ∙ ap in_bare_pat (fold-roll-Pat bare.Pat PatFieldOf (Operand VidAt bare.Pat) node_pat node_pat_field node_pat_part (Pat-F.Con p q v a))

pub pat-BuiltCon : (x : Pat) (p : Place) (b : Built) (a : Box Pat Global) → x ≡ pats.BuiltCon p b a → pat_tyvars x ≡ pat_tyvars a.value
pat-BuiltCon x p b a e =
    ap pat_tyvars e ∙ ap (λ z. in_bare_pat (pat_of z)) (sym (pats.rolls-BuiltCon p b a)) ∙ ap in_bare_pat (fold-roll-Pat bare.Pat PatFieldOf (Operand VidAt bare.Pat) node_pat node_pat_field node_pat_part (Pat-F.BuiltCon p b a))

pub pat-Chain : (x : Pat) (p : Place) (r : Bool) (a : Box Pat Global) (os : Vec PatPart Global) → x ≡ pats.Chain p r a os → pat_tyvars x ≡ pat_tyvars a.value ++ flat_map pat_part_tyvars os.items
pat-Chain x p r a os e =
    ap pat_tyvars e ∙ ap (λ z. in_bare_pat (pat_of z)) (sym (pats.rolls-Chain p r a os)) ∙ ap in_bare_pat (fold-roll-Pat bare.Pat PatFieldOf (Operand VidAt bare.Pat) node_pat node_pat_field node_pat_part (Pat-F.Chain p r a os)) ∙ pat-chain r p (pat_of a.value) os.items

pub pat-Typed : (x : Pat) (p : Place) (a : Box Pat Global) (t : Ty) → x ≡ pats.Typed p a t → pat_tyvars x ≡ pat_tyvars a.value ++ ty_tyvars t
pat-Typed x p a t e =
    ap pat_tyvars e ∙ ap (λ z. in_bare_pat (pat_of z)) (sym (pats.rolls-Typed p a t)) ∙ ap in_bare_pat (fold-roll-Pat bare.Pat PatFieldOf (Operand VidAt bare.Pat) node_pat node_pat_field node_pat_part (Pat-F.Typed p a t)) ∙ split (in_pat has_scope (pat_of a.value)) (in_ty has_scope (ty_of t))

pub pat-As : (x : Pat) (p : Place) (v : Vid) (t : Option Ty) (a : Box Pat Global) → x ≡ pats.As p v t a → pat_tyvars x ≡ some_tyvars t ++ pat_tyvars a.value
pat-As x p v t a e =
    ap pat_tyvars e ∙ ap (λ z. in_bare_pat (pat_of z)) (sym (pats.rolls-As p v t a)) ∙ ap in_bare_pat (fold-roll-Pat bare.Pat PatFieldOf (Operand VidAt bare.Pat) node_pat node_pat_field node_pat_part (Pat-F.As p v t a)) ∙ split (Rattle.sml_tree.specs.Phrases.in_some has_scope (some_ty_of t)) (in_pat has_scope (pat_of a.value)) ∙ ap (λ l. l ++ pat_tyvars a.value) (sym (some-is t))

-- expressions

exp-fields : (fs : List ExpField) → tyvars_in (in_exp_fields has_scope (exp_fields_of (map exp_field_of fs))) ≡ flat_map field_tyvars fs
exp-fields [] = refl
exp-fields (f ∷ fs) =
    split (in_exp has_scope (exp_field_of f).exp) (in_exp_fields has_scope (exp_fields_of (map exp_field_of fs)))
    ∙ ap₂ (λ a b. a ++ b) (ap (λ (r : ExpFieldOf). in_bare_exp r.exp) (fold_out-ExpField bare.Dec bare.Exp RuleOf derived.Clause ExpFieldOf derived.Function (Operand Joint bare.Exp) RuleOf node_dec node_exp node_bind node_clause node_exp_field node_function node_part node_rule f)) (exp-fields fs)

exp-numbered : (k : ℕ) (es : List Exp) → tyvars_in (in_exp_fields has_scope (numbered k (map exp_of es))) ≡ flat_map exp_tyvars es
exp-numbered k [] = refl
exp-numbered k (e ∷ es) = split (in_exp has_scope (exp_of e)) (in_exp_fields has_scope (numbered (suc k) (map exp_of es))) ∙ ap (λ l. exp_tyvars e ++ l) (exp-numbered (suc k) es)

pub exp-two : (a b : bare.Exp) → tyvars_in (in_exp_fields has_scope (numbered 1 (a ∷ b ∷ []))) ≡ in_bare_exp a ++ in_bare_exp b
exp-two a b =
    split (in_exp has_scope a) (in_exp has_scope b ++ []) ∙ ap (λ l. in_bare_exp a ++ l) (ap tyvars_in (append-nil (in_exp has_scope b)))

exp-list : (p : Place) (es : List Exp) → in_bare_exp (list_of p (map exp_of es)) ≡ flat_map exp_tyvars es
exp-list p [] = refl
exp-list p (e ∷ es) = exp-two (exp_of e) (list_of p (map exp_of es)) ∙ ap (λ l. exp_tyvars e ++ l) (exp-list p es)

-- what is tried comes behind
exp-sequence : (p : Place) (e : bare.Exp) (es : List Exp) → in_bare_exp (sequence_of p e (map exp_of es)) ≡ back exp_tyvars es ++ in_bare_exp e
exp-sequence p e [] = refl
exp-sequence p e (f ∷ es) =
    split (in_rules has_scope (bare.rule p (bare.wild_pat p) (sequence_of p (exp_of f) (map exp_of es)) bare.no_rules)) (in_exp has_scope e)
    ∙ ap (λ l. l ++ in_bare_exp e) (ap tyvars_in (append-nil (in_exp has_scope (sequence_of p (exp_of f) (map exp_of es)))) ∙ exp-sequence p (exp_of f) es)

exp-calls : (p : Place) (f : bare.Exp) (es : List Exp) → in_bare_exp (app_of p f (map exp_of es)) ≡ in_bare_exp f ++ flat_map exp_tyvars es
exp-calls p f [] = sym (append-nil (in_bare_exp f))
exp-calls p f (e ∷ es) =
    exp-calls p (bare.app p f (exp_of e)) es ∙ ap (λ l. l ++ flat_map exp_tyvars es) (split (in_exp has_scope f) (in_exp has_scope (exp_of e)))
    ∙ append_assoc (in_bare_exp f) (exp_tyvars e) (flat_map exp_tyvars es)

pub rule-is : (r : Rule) → tyvars_in (in_pat has_scope (rule_of r).pat ++ in_exp has_scope (rule_of r).exp) ≡ rule_tyvars r
rule-is r =
    split (in_pat has_scope (rule_of r).pat) (in_exp has_scope (rule_of r).exp)
    ∙ ap (λ (z : RuleOf). in_bare_pat z.pat ++ in_bare_exp z.exp) (fold_out-Rule bare.Dec bare.Exp RuleOf derived.Clause ExpFieldOf derived.Function (Operand Joint bare.Exp) RuleOf node_dec node_exp node_bind node_clause node_exp_field node_function node_part node_rule r)

exp-rules : (rs : List Rule) → tyvars_in (in_rules has_scope (rules_of (map rule_of rs))) ≡ flat_map rule_tyvars rs
exp-rules [] = refl
exp-rules (r ∷ rs) =
    split (in_pat has_scope (rule_of r).pat ++ in_exp has_scope (rule_of r).exp) (in_rules has_scope (rules_of (map rule_of rs)))
    ∙ ap₂ (λ a b. a ++ b) (rule-is r) (exp-rules rs)

exp-decs : (ds : List Dec) → tyvars_in (in_decs has_scope (decs_of (map dec_of ds))) ≡ flat_map dec_tyvars ds
exp-decs [] = refl
exp-decs (d ∷ ds) = split (in_dec has_scope (dec_of d)) (in_decs has_scope (decs_of (map dec_of ds))) ∙ ap (λ l. dec_tyvars d ++ l) (exp-decs ds)

pub exp-Constant : (x : Exp) (p : Place) (c : SourceConstant) → x ≡ exps.Constant p c → exp_tyvars x ≡ []
exp-Constant x p c e =
    ap exp_tyvars e ∙ ap (λ z. in_bare_exp (exp_of z)) (sym (exps.rolls-Constant p c)) ∙ ap in_bare_exp (fold-roll-Exp bare.Dec bare.Exp RuleOf derived.Clause ExpFieldOf derived.Function (Operand Joint bare.Exp) RuleOf node_dec node_exp node_bind node_clause node_exp_field node_function node_part node_rule (Exp-F.Constant p c))

pub exp-Vid : (x : Exp) (p : Place) (v : LongVid) → x ≡ exps.Vid p v → exp_tyvars x ≡ []
exp-Vid x p v e =
    ap exp_tyvars e ∙ ap (λ z. in_bare_exp (exp_of z)) (sym (exps.rolls-Vid p v)) ∙ ap in_bare_exp (fold-roll-Exp bare.Dec bare.Exp RuleOf derived.Clause ExpFieldOf derived.Function (Operand Joint bare.Exp) RuleOf node_dec node_exp node_bind node_clause node_exp_field node_function node_part node_rule (Exp-F.Vid p v))

pub exp-BuiltIn : (x : Exp) (p : Place) (b : Built) → x ≡ exps.BuiltIn p b → exp_tyvars x ≡ []
exp-BuiltIn x p b e =
    ap exp_tyvars e ∙ ap (λ z. in_bare_exp (exp_of z)) (sym (exps.rolls-BuiltIn p b)) ∙ ap in_bare_exp (fold-roll-Exp bare.Dec bare.Exp RuleOf derived.Clause ExpFieldOf derived.Function (Operand Joint bare.Exp) RuleOf node_dec node_exp node_bind node_clause node_exp_field node_function node_part node_rule (Exp-F.BuiltIn p b))

pub exp-Record : (x : Exp) (p : Place) (fs : Vec ExpField Global) → x ≡ exps.Record p fs → exp_tyvars x ≡ flat_map field_tyvars fs.items
exp-Record x p fs e =
    ap exp_tyvars e ∙ ap (λ z. in_bare_exp (exp_of z)) (sym (exps.rolls-Record p fs)) ∙ ap in_bare_exp (fold-roll-Exp bare.Dec bare.Exp RuleOf derived.Clause ExpFieldOf derived.Function (Operand Joint bare.Exp) RuleOf node_dec node_exp node_bind node_clause node_exp_field node_function node_part node_rule (Exp-F.Record p fs)) ∙ exp-fields fs.items

pub exp-Tuple : (x : Exp) (p : Place) (es : Vec Exp Global) → x ≡ exps.Tuple p es → exp_tyvars x ≡ flat_map exp_tyvars es.items
exp-Tuple x p es e =
    ap exp_tyvars e ∙ ap (λ z. in_bare_exp (exp_of z)) (sym (exps.rolls-Tuple p es)) ∙ ap in_bare_exp (fold-roll-Exp bare.Dec bare.Exp RuleOf derived.Clause ExpFieldOf derived.Function (Operand Joint bare.Exp) RuleOf node_dec node_exp node_bind node_clause node_exp_field node_function node_part node_rule (Exp-F.Tuple p es)) ∙ exp-numbered 1 es.items

pub exp-List : (x : Exp) (p : Place) (es : Vec Exp Global) → x ≡ exps.List p es → exp_tyvars x ≡ flat_map exp_tyvars es.items
exp-List x p es e =
    ap exp_tyvars e ∙ ap (λ z. in_bare_exp (exp_of z)) (sym (exps.rolls-List p es)) ∙ ap in_bare_exp (fold-roll-Exp bare.Dec bare.Exp RuleOf derived.Clause ExpFieldOf derived.Function (Operand Joint bare.Exp) RuleOf node_dec node_exp node_bind node_clause node_exp_field node_function node_part node_rule (Exp-F.List p es)) ∙ exp-list p es.items

pub exp-Sequence : (x : Exp) (p : Place) (e : Box Exp Global) (es : Vec Exp Global) → x ≡ exps.Sequence p e es → exp_tyvars x ≡ back exp_tyvars es.items ++ exp_tyvars e.value
exp-Sequence x p e es q =
    ap exp_tyvars q ∙ ap (λ z. in_bare_exp (exp_of z)) (sym (exps.rolls-Sequence p e es)) ∙ ap in_bare_exp (fold-roll-Exp bare.Dec bare.Exp RuleOf derived.Clause ExpFieldOf derived.Function (Operand Joint bare.Exp) RuleOf node_dec node_exp node_bind node_clause node_exp_field node_function node_part node_rule (Exp-F.Sequence p e es)) ∙ exp-sequence p (exp_of e.value) es.items

pub exp-Let : (x : Exp) (p : Place) (ds : Vec Dec Global) (e : Box Exp Global) → x ≡ exps.Let p ds e → exp_tyvars x ≡ flat_map dec_tyvars ds.items ++ exp_tyvars e.value
exp-Let x p ds e q =
    ap exp_tyvars q ∙ ap (λ z. in_bare_exp (exp_of z)) (sym (exps.rolls-Let p ds e)) ∙ ap in_bare_exp (fold-roll-Exp bare.Dec bare.Exp RuleOf derived.Clause ExpFieldOf derived.Function (Operand Joint bare.Exp) RuleOf node_dec node_exp node_bind node_clause node_exp_field node_function node_part node_rule (Exp-F.Let p ds e)) ∙ split (in_decs has_scope (decs_of (map dec_of ds.items))) (in_exp has_scope (exp_of e.value)) ∙ ap (λ l. l ++ exp_tyvars e.value) (exp-decs ds.items)

pub exp-Apply : (x : Exp) (p : Place) (e : Box Exp Global) (es : Vec Exp Global) → x ≡ exps.Apply p e es → exp_tyvars x ≡ exp_tyvars e.value ++ flat_map exp_tyvars es.items
exp-Apply x p e es q =
    ap exp_tyvars q ∙ ap (λ z. in_bare_exp (exp_of z)) (sym (exps.rolls-Apply p e es)) ∙ ap in_bare_exp (fold-roll-Exp bare.Dec bare.Exp RuleOf derived.Clause ExpFieldOf derived.Function (Operand Joint bare.Exp) RuleOf node_dec node_exp node_bind node_clause node_exp_field node_function node_part node_rule (Exp-F.Apply p e es)) ∙ exp-calls p (exp_of e.value) es.items

pub exp-Typed : (x : Exp) (p : Place) (e : Box Exp Global) (t : Ty) → x ≡ exps.Typed p e t → exp_tyvars x ≡ exp_tyvars e.value ++ ty_tyvars t
exp-Typed x p e t q =
    ap exp_tyvars q ∙ ap (λ z. in_bare_exp (exp_of z)) (sym (exps.rolls-Typed p e t)) ∙ ap in_bare_exp (fold-roll-Exp bare.Dec bare.Exp RuleOf derived.Clause ExpFieldOf derived.Function (Operand Joint bare.Exp) RuleOf node_dec node_exp node_bind node_clause node_exp_field node_function node_part node_rule (Exp-F.Typed p e t)) ∙ split (in_exp has_scope (exp_of e.value)) (in_ty has_scope (ty_of t))

pub exp-Handle : (x : Exp) (p : Place) (e : Box Exp Global) (rs : Vec Rule Global) → x ≡ exps.Handle p e rs → exp_tyvars x ≡ exp_tyvars e.value ++ flat_map rule_tyvars rs.items
exp-Handle x p e rs q =
    ap exp_tyvars q ∙ ap (λ z. in_bare_exp (exp_of z)) (sym (exps.rolls-Handle p e rs)) ∙ ap in_bare_exp (fold-roll-Exp bare.Dec bare.Exp RuleOf derived.Clause ExpFieldOf derived.Function (Operand Joint bare.Exp) RuleOf node_dec node_exp node_bind node_clause node_exp_field node_function node_part node_rule (Exp-F.Handle p e rs)) ∙ split (in_exp has_scope (exp_of e.value)) (in_rules has_scope (rules_of (map rule_of rs.items))) ∙ ap (λ l. exp_tyvars e.value ++ l) (exp-rules rs.items)

pub exp-Raise : (x : Exp) (p : Place) (e : Box Exp Global) → x ≡ exps.Raise p e → exp_tyvars x ≡ exp_tyvars e.value
exp-Raise x p e q =
    ap exp_tyvars q ∙ ap (λ z. in_bare_exp (exp_of z)) (sym (exps.rolls-Raise p e)) ∙ ap in_bare_exp (fold-roll-Exp bare.Dec bare.Exp RuleOf derived.Clause ExpFieldOf derived.Function (Operand Joint bare.Exp) RuleOf node_dec node_exp node_bind node_clause node_exp_field node_function node_part node_rule (Exp-F.Raise p e))

pub exp-Fn : (x : Exp) (p : Place) (rs : Vec Rule Global) → x ≡ exps.Fn p rs → exp_tyvars x ≡ flat_map rule_tyvars rs.items
exp-Fn x p rs q =
    ap exp_tyvars q ∙ ap (λ z. in_bare_exp (exp_of z)) (sym (exps.rolls-Fn p rs)) ∙ ap in_bare_exp (fold-roll-Exp bare.Dec bare.Exp RuleOf derived.Clause ExpFieldOf derived.Function (Operand Joint bare.Exp) RuleOf node_dec node_exp node_bind node_clause node_exp_field node_function node_part node_rule (Exp-F.Fn p rs)) ∙ exp-rules rs.items

-- declarations

abbrev in_bare_dec : bare.Dec → List Tyvar
in_bare_dec d = tyvars_in (Rattle.sml_tree.specs.Phrases.in_dec has_scope d)

no-type-binds : (bs : List bare.TypeBind) → tyvars_in (flat_map (in_type_bind has_scope) bs) ≡ []
no-type-binds [] = refl
no-type-binds (b ∷ bs) = no-type-binds bs

no-data-binds : (bs : List bare.DataBind) → tyvars_in (flat_map (in_data_bind has_scope) bs) ≡ []
no-data-binds [] = refl
no-data-binds (b ∷ bs) = no-data-binds bs

no-types : (p : Place) (bs : List bare.TypeBind) → in_bare_dec (bare.type_dec p bs) ≡ []
no-types p bs = no-type-binds bs

no-datas : (p : Place) (bs : List bare.DataBind) → in_bare_dec (bare.datatype_dec p bs) ≡ []
no-datas p bs = no-data-binds bs

no-both : (p : Place) (ds : List bare.DataBind) (bs : List bare.TypeBind) → in_bare_dec (derived.withtype_of p ds bs) ≡ []
no-both p ds bs =
    split (Rattle.sml_tree.specs.Phrases.in_dec has_scope (bare.datatype_dec p (map (derived.expand_bind bs) ds))) (Rattle.sml_tree.specs.Phrases.in_dec has_scope (bare.type_dec p bs) ++ [])
    ∙ ap₂ (λ a b. a ++ b) (no-datas p (map (derived.expand_bind bs) ds)) (ap tyvars_in (append-nil (Rattle.sml_tree.specs.Phrases.in_dec has_scope (bare.type_dec p bs))) ∙ no-types p bs)

exn-is : (b : ExBind) → tyvars_in (in_ex_bind has_scope (ex_bind_of b)) ≡ exn_tyvars b
exn-is (exn.New p v t) = sym (some-is t)
exn-is (exn.Same p v q x) = refl

exns-are : (bs : List ExBind) → tyvars_in (flat_map (in_ex_bind has_scope) (map ex_bind_of bs)) ≡ flat_map exn_tyvars bs
exns-are [] = refl
exns-are (b ∷ bs) = split (in_ex_bind has_scope (ex_bind_of b)) (flat_map (in_ex_bind has_scope) (map ex_bind_of bs)) ∙ ap₂ (λ x y. x ++ y) (exn-is b) (exns-are bs)

pub dec-Val : (x : Dec) (p : Place) (as_ : TyvarSeq) (bs : Vec Bind Global) (cs : Vec Bind Global) → x ≡ decs.Val p as_ bs cs → dec_tyvars x ≡ []
dec-Val x p as_ bs cs e =
    ap dec_tyvars e ∙ ap (λ z. in_bare_dec (dec_of z)) (sym (decs.rolls-Val p as_ bs cs)) ∙ ap in_bare_dec (fold-roll-Dec bare.Dec bare.Exp RuleOf derived.Clause ExpFieldOf derived.Function (Operand Joint bare.Exp) RuleOf node_dec node_exp node_bind node_clause node_exp_field node_function node_part node_rule (Dec-F.Val p as_ bs cs))

pub dec-Fun : (x : Dec) (p : Place) (as_ : TyvarSeq) (gs : Vec Function Global) → x ≡ decs.Fun p as_ gs → dec_tyvars x ≡ []
dec-Fun x p as_ gs e =
    ap dec_tyvars e ∙ ap (λ z. in_bare_dec (dec_of z)) (sym (decs.rolls-Fun p as_ gs)) ∙ ap in_bare_dec (fold-roll-Dec bare.Dec bare.Exp RuleOf derived.Clause ExpFieldOf derived.Function (Operand Joint bare.Exp) RuleOf node_dec node_exp node_bind node_clause node_exp_field node_function node_part node_rule (Dec-F.Fun p as_ gs))

pub dec-Abbreviation : (x : Dec) (p : Place) (bs : Vec TypeBind Global) → x ≡ decs.Abbreviation p bs → dec_tyvars x ≡ []
dec-Abbreviation x p bs e =
    ap dec_tyvars e ∙ ap (λ z. in_bare_dec (dec_of z)) (sym (decs.rolls-Abbreviation p bs)) ∙ ap in_bare_dec (fold-roll-Dec bare.Dec bare.Exp RuleOf derived.Clause ExpFieldOf derived.Function (Operand Joint bare.Exp) RuleOf node_dec node_exp node_bind node_clause node_exp_field node_function node_part node_rule (Dec-F.Abbreviation p bs)) ∙ no-types p (map type_bind_of bs.items)

pub dec-Datatype : (x : Dec) (p : Place) (bs : Vec DataBind Global) → x ≡ decs.Datatype p bs → dec_tyvars x ≡ []
dec-Datatype x p bs e =
    ap dec_tyvars e ∙ ap (λ z. in_bare_dec (dec_of z)) (sym (decs.rolls-Datatype p bs)) ∙ ap in_bare_dec (fold-roll-Dec bare.Dec bare.Exp RuleOf derived.Clause ExpFieldOf derived.Function (Operand Joint bare.Exp) RuleOf node_dec node_exp node_bind node_clause node_exp_field node_function node_part node_rule (Dec-F.Datatype p bs)) ∙ no-datas p (map data_bind_of bs.items)

pub dec-Withtype : (x : Dec) (p : Place) (ds : Vec DataBind Global) (bs : Vec TypeBind Global) → x ≡ decs.Withtype p ds bs → dec_tyvars x ≡ []
dec-Withtype x p ds bs e =
    ap dec_tyvars e ∙ ap (λ z. in_bare_dec (dec_of z)) (sym (decs.rolls-Withtype p ds bs)) ∙ ap in_bare_dec (fold-roll-Dec bare.Dec bare.Exp RuleOf derived.Clause ExpFieldOf derived.Function (Operand Joint bare.Exp) RuleOf node_dec node_exp node_bind node_clause node_exp_field node_function node_part node_rule (Dec-F.Withtype p ds bs)) ∙ no-both p (map data_bind_of ds.items) (map type_bind_of bs.items)

pub dec-Replicate : (x : Dec) (p : Place) (n : ℕ) (c : LongIdAt) → x ≡ decs.Replicate p n c → dec_tyvars x ≡ []
dec-Replicate x p n c e =
    ap dec_tyvars e ∙ ap (λ z. in_bare_dec (dec_of z)) (sym (decs.rolls-Replicate p n c)) ∙ ap in_bare_dec (fold-roll-Dec bare.Dec bare.Exp RuleOf derived.Clause ExpFieldOf derived.Function (Operand Joint bare.Exp) RuleOf node_dec node_exp node_bind node_clause node_exp_field node_function node_part node_rule (Dec-F.Replicate p n c))

pub dec-Exception : (x : Dec) (p : Place) (bs : Vec ExBind Global) → x ≡ decs.Exception p bs → dec_tyvars x ≡ flat_map exn_tyvars bs.items
dec-Exception x p bs e =
    ap dec_tyvars e ∙ ap (λ z. in_bare_dec (dec_of z)) (sym (decs.rolls-Exception p bs)) ∙ ap in_bare_dec (fold-roll-Dec bare.Dec bare.Exp RuleOf derived.Clause ExpFieldOf derived.Function (Operand Joint bare.Exp) RuleOf node_dec node_exp node_bind node_clause node_exp_field node_function node_part node_rule (Dec-F.Exception p bs)) ∙ exns-are bs.items

pub dec-Local : (x : Dec) (p : Place) (ds : Vec Dec Global) (es : Vec Dec Global) → x ≡ decs.Local p ds es → dec_tyvars x ≡ flat_map dec_tyvars ds.items ++ flat_map dec_tyvars es.items
dec-Local x p ds es e =
    ap dec_tyvars e ∙ ap (λ z. in_bare_dec (dec_of z)) (sym (decs.rolls-Local p ds es)) ∙ ap in_bare_dec (fold-roll-Dec bare.Dec bare.Exp RuleOf derived.Clause ExpFieldOf derived.Function (Operand Joint bare.Exp) RuleOf node_dec node_exp node_bind node_clause node_exp_field node_function node_part node_rule (Dec-F.Local p ds es)) ∙ split (in_decs has_scope (decs_of (map dec_of ds.items))) (in_decs has_scope (decs_of (map dec_of es.items))) ∙ ap₂ (λ a b. a ++ b) (exp-decs ds.items) (exp-decs es.items)

pub dec-Open : (x : Dec) (p : Place) (xs : Vec LongIdAt Global) → x ≡ decs.Open p xs → dec_tyvars x ≡ []
dec-Open x p xs e =
    ap dec_tyvars e ∙ ap (λ z. in_bare_dec (dec_of z)) (sym (decs.rolls-Open p xs)) ∙ ap in_bare_dec (fold-roll-Dec bare.Dec bare.Exp RuleOf derived.Clause ExpFieldOf derived.Function (Operand Joint bare.Exp) RuleOf node_dec node_exp node_bind node_clause node_exp_field node_function node_part node_rule (Dec-F.Open p xs))

pub dec-Declarations : (x : Dec) (p : Place) (ds : Vec Dec Global) → x ≡ decs.Declarations p ds → dec_tyvars x ≡ flat_map dec_tyvars ds.items
dec-Declarations x p ds e =
    ap dec_tyvars e ∙ ap (λ z. in_bare_dec (dec_of z)) (sym (decs.rolls-Declarations p ds)) ∙ ap in_bare_dec (fold-roll-Dec bare.Dec bare.Exp RuleOf derived.Clause ExpFieldOf derived.Function (Operand Joint bare.Exp) RuleOf node_dec node_exp node_bind node_clause node_exp_field node_function node_part node_rule (Dec-F.Declarations p ds)) ∙ exp-decs ds.items

-- bindings

bind-one : (b : Bind) → tyvars_in (in_pat has_scope (bind_of b).pat ++ in_exp has_scope (bind_of b).exp) ≡ bind_tyvars b
bind-one b =
    split (in_pat has_scope (bind_of b).pat) (in_exp has_scope (bind_of b).exp)
    ∙ ap (λ (z : RuleOf). in_bare_pat z.pat ++ in_bare_exp z.exp) (fold_out-Bind bare.Dec bare.Exp RuleOf derived.Clause ExpFieldOf derived.Function (Operand Joint bare.Exp) RuleOf node_dec node_exp node_bind node_clause node_exp_field node_function node_part node_rule b)

pub binds-are : (bs : List Bind) → unguarded_in (binds_of (map bind_of bs)) ≡ flat_map bind_tyvars bs
binds-are [] = refl
binds-are (b ∷ bs) =
    split (in_pat has_scope (bind_of b).pat ++ in_exp has_scope (bind_of b).exp) (flat_map (phrases_until has_scope) (bind_list (binds_of (map bind_of bs))))
    ∙ ap₂ (λ x y. x ++ y) (bind-one b) (binds-are bs)

-- the functions of `fun`

one-or-tuple-pat : (p : Place) (as_ : List Pat) → in_bare_pat (one_or_tuple_pat p (map pat_of as_)) ≡ flat_map pat_tyvars as_
one-or-tuple-pat p [] = refl
one-or-tuple-pat p (a ∷ []) = sym (append-nil (pat_tyvars a))
one-or-tuple-pat p (a ∷ b ∷ as_) = pat-numbered 1 (a ∷ b ∷ as_)

clause-one : (c : Clause) → tyvars_in (in_pat has_scope (one_or_tuple_pat (clause_of c).place (clause_of c).pats) ++ in_exp has_scope (clause_of c).body) ≡ clause_tyvars c
clause-one c =
    split (in_pat has_scope (one_or_tuple_pat (clause_of c).place (clause_of c).pats)) (in_exp has_scope (clause_of c).body)
    ∙ ap (λ (z : derived.Clause). in_bare_pat (one_or_tuple_pat z.place z.pats) ++ in_bare_exp z.body) (fold_out-Clause bare.Dec bare.Exp RuleOf derived.Clause ExpFieldOf derived.Function (Operand Joint bare.Exp) RuleOf node_dec node_exp node_bind node_clause node_exp_field node_function node_part node_rule c)
    ∙ ap (λ l. l ++ exp_tyvars c.exp) (one-or-tuple-pat c.place c.pats.items)

clauses-are : (cs : List Clause) → tyvars_in (in_rules has_scope (clause_rules (map clause_of cs))) ≡ flat_map clause_tyvars cs
clauses-are [] = refl
clauses-are (c ∷ cs) =
    split (in_pat has_scope (one_or_tuple_pat (clause_of c).place (clause_of c).pats) ++ in_exp has_scope (clause_of c).body) (in_rules has_scope (clause_rules (map clause_of cs)))
    ∙ ap₂ (λ x y. x ++ y) (clause-one c) (clauses-are cs)

-- fresh identifiers have none
fresh-none : (p : Place) (k i : ℕ) (as_ : List bare.Pat) → tyvars_in (in_exp_fields has_scope (numbered i (fresh_for p k as_))) ≡ []
fresh-none p k i [] = refl
fresh-none p k i (a ∷ as_) = fresh-none p (suc k) (suc i) as_

taken-none : (p : Place) (as_ : List bare.Pat) → in_bare_exp (one_or_tuple p (fresh_for p 1 as_)) ≡ []
taken-none p [] = refl
taken-none p (a ∷ []) = refl
taken-none p (a ∷ b ∷ as_) = fresh-none p 1 1 (a ∷ b ∷ as_)

fn-for : (p : Place) (k : ℕ) (as_ : List bare.Pat) (e : bare.Exp) → in_bare_exp (fn_for p k as_ e) ≡ in_bare_exp e
fn-for p k [] e = refl
fn-for p k (a ∷ as_) e = ap tyvars_in (append-nil (in_exp has_scope (fn_for p (suc k) as_ e))) ∙ fn-for p (suc k) as_ e

function-one : (p : Place) (cs : List Clause) → in_bare_exp (fun_of p (map clause_of cs)) ≡ flat_map clause_tyvars cs
function-one p cs =
    let as_ = derived.first_pats (map clause_of cs) in
    fn-for p 1 as_ (derived.case_of p (one_or_tuple p (fresh_for p 1 as_)) (clause_rules (map clause_of cs)))
    ∙ split (in_rules has_scope (clause_rules (map clause_of cs))) (in_exp has_scope (one_or_tuple p (fresh_for p 1 as_)))
    ∙ ap₂ (λ x y. x ++ y) (clauses-are cs) (taken-none p as_) ∙ append-nil (flat_map clause_tyvars cs)

function-is : (g : Function) → in_bare_exp (fun_of (function_of g).place (function_of g).clauses) ≡ function_tyvars g
function-is g =
    ap (λ (z : derived.Function). in_bare_exp (fun_of z.place z.clauses)) (fold_out-Function bare.Dec bare.Exp RuleOf derived.Clause ExpFieldOf derived.Function (Operand Joint bare.Exp) RuleOf node_dec node_exp node_bind node_clause node_exp_field node_function node_part node_rule g) ∙ function-one (out-Function g).place (out-Function g).clauses.items

pub functions-are : (gs : List Function) → unguarded_in (function_binds (map function_of gs)) ≡ flat_map function_tyvars gs
functions-are [] = refl
functions-are (g ∷ gs) =
    split (in_exp has_scope (fun_of (function_of g).place (function_of g).clauses)) (flat_map (phrases_until has_scope) (bind_list (function_binds (map function_of gs))))
    ∙ ap₂ (λ x y. x ++ y) (function-is g) (functions-are gs)
