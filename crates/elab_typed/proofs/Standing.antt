-- What an annotation stands for, with types for the parameters in scope.
use Rattle.std.proofs.Common.{◌≡◌, ℕ, zero, suc, Bool, true, false, if◌then◌else◌, List, [], ◌∷◌, map, Option, Some, None, nat_eq, nat_lt, refl, sym, ap, subst, ◌∙◌, eqb-true, arith}
use Rattle.std.specs.Prelude.{option_map, option_and_then, unwrap_or}
use Rattle.std.specs.Option.{option_zip}
use Rattle.std.proofs.lemmas.Bool.{lt-ltb, ltb-true}
use Rattle.ty_core.specs.Types.{Typ, Typs, var, con, none, more}
use Rattle.ty_core.specs.Statics.{TypeFunction, apply, count, argument, replace, replace_all}
use Rattle.core_elab.specs.of_ty_basis.Types.{Row, function_type, row_type}
use Rattle.core_elab.specs.of_sml_tree.BareTree.{Ty, Tys, no_tys, ty, TyFields, no_ty_fields, ty_field}
use Rattle.core_elab.specs.of_sml_tree.BareTree as bare
use Rattle.core_elab.specs.of_core_rules.Objects.{sorted, Map, at, TypeStructure}
use Rattle.core_elab.specs.of_core_rules.Elaborated.{type_in, type_of, types_of, row_of}
use Rattle.core_elab.proofs.of_ir_poly.ReplaceLemmas.{replace-replace, row_read, row_type-read}
use Rattle.elab_typed.specs.Contexts.{Around, context_under, generic}
use Rattle.elab_typed.specs.Laws.{IsClosed, TypesAreClosed, AnnotationsStand}
use Rattle.elab_typed.proofs.Under.{sorted-under}
use Rattle.elab_typed.proofs.Closed.{types-under}

abbrev map_types : (ℕ → Typ) → Map ℕ Typ → Map ℕ Typ
map_types s vs = map (λ a. (a.0, replace s a.1)) vs

-- type variables
vars-under : (s : ℕ → Typ) (vs : Map ℕ Typ) (x : ℕ) → at nat_eq (map_types s vs) x ≡ option_map (replace s) (at nat_eq (map_types var vs) x)
vars-under s [] x = refl
vars-under s (v ∷ vs) x = go (nat_eq x v.0) (vars-under s vs x)
  where
    go : (b : Bool) → at nat_eq (map_types s vs) x ≡ option_map (replace s) (at nat_eq (map_types var vs) x)
        → (if b then Some (replace s v.1) else at nat_eq (map_types s vs) x)
        ≡ option_map (replace s) (if b then Some (replace var v.1) else at nat_eq (map_types var vs) x)
    go true h = ap Some (sym (replace-replace s var v.1))
    go false h = h

-- type functions

count-under : (s : ℕ → Typ) (us : Typs) → count (replace_all s us) ≡ count us
count-under s none = refl
count-under s (more u us) = ap suc (count-under s us)

argument-under : (s : ℕ → Typ) (us : Typs) (v : ℕ) (d e : Typ) → nat_lt v (count us) ≡ true → unwrap_or (argument (replace_all s us) v) d
    ≡ replace s (unwrap_or (argument us v) e)
argument-under s none v d e h = absurd (omega (arith, ltb-true v 0 h))
argument-under s (more u us) zero d e h = refl
argument-under s (more u us) (suc v) d e h = argument-under s us v d e (lt-ltb v (count us) (omega (arith, ltb-true (suc v) (suc (count us)) h)))

apply-under : (s : ℕ → Typ) (f : TypeFunction) (us : Typs) → IsClosed f → apply f (replace_all s us) ≡ option_map (replace s) (apply f us)
apply-under s f us k =
    ap (λ n. if nat_eq n f.arity then Some (replace (λ v. unwrap_or (argument (replace_all s us) v) (var v)) f.body) else None) (count-under s us)
    ∙ go (nat_eq (count us) f.arity) refl
  where
    go : (b : Bool) → nat_eq (count us) f.arity ≡ b → (if b then Some (replace (λ v. unwrap_or (argument (replace_all s us) v) (var v)) f.body) else None)
        ≡ option_map (replace s) (if b then Some (replace (λ v. unwrap_or (argument us v) (var v)) f.body) else None)
    go true e = ap Some
        (k (λ v. unwrap_or (argument (replace_all s us) v) (var v)) (λ v. replace s (unwrap_or (argument us v) (var v)))
        (λ v h. argument-under s us v (var v) (var v) (subst (λ n. nat_lt v n ≡ true) (sym (eqb-true (count us) f.arity e)) h))
        ∙ sym (replace-replace s (λ v. unwrap_or (argument us v) (var v)) f.body))
    go false e = refl

applied-under : (s : ℕ → Typ) (o : Option TypeStructure) (p : Option Typs) → ((f : TypeStructure) → o ≡ Some f → IsClosed f.function)
    → option_and_then (λ us. option_and_then (λ (x : TypeStructure). apply x.function us) o) (option_map (replace_all s) p)
    ≡ option_map (replace s) (option_and_then (λ us. option_and_then (λ (x : TypeStructure). apply x.function us) o) p)
applied-under s o None k = refl
applied-under s None (Some us) k = refl
applied-under s (Some f) (Some us) k = apply-under s f.function us (k f refl)

-- parts

record-under : (s : ℕ → Typ) (o : Option Row) → option_map (λ r. row_type (sorted r)) (option_map (row_read s) o)
    ≡ option_map (replace s) (option_map (λ r. row_type (sorted r)) o)
record-under s None = refl
record-under s (Some r) = ap Some (sym (row_type-read s (sorted r) ∙ ap row_type (sorted-under s r)))

arrow-under : (s : ℕ → Typ) (o p : Option Typ) → option_map (λ r. function_type r.0 r.1) (option_zip (option_map (replace s) o) (option_map (replace s) p))
    ≡ option_map (replace s) (option_map (λ r. function_type r.0 r.1) (option_zip o p))
arrow-under s None p = refl
arrow-under s (Some t) None = refl
arrow-under s (Some t) (Some u) = refl

more-under : (s : ℕ → Typ) (o : Option Typ) (p : Option Typs) → option_map (λ r. more r.0 r.1) (option_zip (option_map (replace s) o) (option_map (replace_all s) p))
    ≡ option_map (replace_all s) (option_map (λ r. more r.0 r.1) (option_zip o p))
more-under s None p = refl
more-under s (Some t) None = refl
more-under s (Some t) (Some ts) = refl

field-under : (s : ℕ → Typ) (l : Rattle.mlc_names.specs.declared.label.Label.Label) (o : Option Typ) (p : Option Row)
    → option_map (λ (r : Typ × Row). (l, r.0) ∷ r.1) (option_zip (option_map (replace s) o) (option_map (row_read s) p))
    ≡ option_map (row_read s) (option_map (λ (r : Typ × Row). (l, r.0) ∷ r.1) (option_zip o p))
field-under s l None p = refl
field-under s l (Some t) None = refl
field-under s l (Some t) (Some r) = refl

module _ (A : Around) (closed : TypesAreClosed A) (s : ℕ → Typ) where
  mutual
    type-under : (t : Ty) → type_of (context_under s A) t ≡ option_map (replace s) (type_of (generic A) t)
    type-under (bare.var p a) = vars-under s A.tyvars a.name
    type-under (bare.fields p fs) = ap (option_map (λ r. row_type (sorted r))) (row-under fs) ∙ record-under s (row_of (generic A) fs)
    type-under (bare.con p ts q x) =
        (λ i. option_and_then (λ us. option_and_then (λ (f : TypeStructure). apply f.function us) (types-under s A x.qualifiers x.id i)) (all-under ts i))
        ∙ applied-under s (type_in (generic A).env x.qualifiers x.id) (types_of (generic A) ts) (closed x.qualifiers x.id)
    type-under (bare.arrow p t u) =
        (λ i. option_map (λ r. function_type r.0 r.1) (option_zip (type-under t i) (type-under u i))) ∙ arrow-under s (type_of (generic A) t) (type_of (generic A) u)
    type-under (bare.ill p) = refl

    all-under : (ts : Tys) → types_of (context_under s A) ts ≡ option_map (replace_all s) (types_of (generic A) ts)
    all-under no_tys = refl
    all-under (ty t ts) = (λ i. option_map (λ r. more r.0 r.1) (option_zip (type-under t i) (all-under ts i))) ∙ more-under s (type_of (generic A) t) (types_of (generic A) ts)

    row-under : (fs : TyFields) → row_of (context_under s A) fs ≡ option_map (row_read s) (row_of (generic A) fs)
    row-under no_ty_fields = refl
    row-under (ty_field l t fs) =
        (λ i. option_map (λ r. (l, r.0) ∷ r.1) (option_zip (type-under t i) (row-under fs i))) ∙ field-under s l (type_of (generic A) t) (row_of (generic A) fs)

pub annotations-stand : AnnotationsStand
annotations-stand A t u closed h s = type-under A closed s t ∙ ap (option_map (replace s)) h
