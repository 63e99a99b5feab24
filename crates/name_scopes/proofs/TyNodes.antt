-- From the parts of each node of types to the node, as it is written and with abbreviations written out.
use Rattle.std.proofs.Common.{◌≡◌, ℕ, suc, List, [], ◌∷◌, map, Vec, Box, Global, None, inl, inr, refl, sym, ap, ap₂, ◌∙◌}
use Rattle.std.specs.Prelude.{option_and_then}
use Rattle.mlc_base.specs.declared.place.Place.{Place}
use Rattle.sml_tree.specs.BareTree as bare
use Rattle.sml_tree.specs.Derived.{TyAt, abbreviation, arrows, expand_ty, expand_ty_fields, expand_tys, numbered_tys, product, tys_of, written_out}
use Rattle.sml_tree.specs.Phrases.{ty, ty_field_list, ty_list}
use Rattle.sml_tree.specs.TreeOf.{TyFieldOf, long_id_of, ty_field_of, ty_fields_of, ty_of, ty_part_of}
use Rattle.sml_tree.specs.TreeOf.{node_ty, node_ty_field, node_ty_part}
use Rattle.sml_tree.specs.declared.ident.LongId.{LongId}
use Rattle.sml_tree.specs.declared.tree.Ty.{Ty, Ty-F, fold-roll-Ty}
use Rattle.sml_tree.specs.declared.tree.Ty.TheVariants as tys
use Rattle.sml_tree.specs.declared.tree.TyField.{TyField, fold_out-TyField}
use Rattle.sml_tree.specs.declared.tree.TyPart.{TyPart, fold_out-TyPart}
use Rattle.core_rules.specs.Unbound.{all_in, tycon_at, unless_bound}
use Rattle.core_rules.specs.Values.{Env, along, tycon_in}
use Rattle.name_scopes.specs.Placed.{AnyAt, At, FoundAt}
use Rattle.name_scopes.specs.Written.{written_phrase}
use Rattle.name_scopes.specs.declared.sought.Sought.{Sought}
use Rattle.name_scopes.proofs.Anywhere.{any-cases, any-first, any-none, any-rest, in-parts, standing}
use Rattle.name_scopes.proofs.Placing.{own-at, parts-at}

-- the phrases of lists

ty-field : (f : TyField) → ty_field_of f ≡ record { label = f.label; ty = ty_of f.ty }
ty-field f = fold_out-TyField bare.Ty TyFieldOf TyAt node_ty node_ty_field node_ty_part f

ty-part : (o : TyPart) → ty_part_of o ≡ record { place = o.place; ty = ty_of o.ty }
ty-part o = fold_out-TyPart bare.Ty TyFieldOf TyAt node_ty node_ty_field node_ty_part o

-- nodes

record-is : (x : Ty) (q : Place) (fs : Vec TyField Global) → x ≡ tys.Record q fs → ty_of x ≡ bare.fields q (ty_fields_of (map ty_field_of fs.items))
record-is x q fs s = ap ty_of (s ∙ sym (tys.rolls-Record q fs)) ∙ fold-roll-Ty bare.Ty TyFieldOf TyAt node_ty node_ty_field node_ty_part (Ty-F.Record q fs)

con-is : (x : Ty) (q : Place) (ts : Vec Ty Global) (r : Place) (c : LongId) → x ≡ tys.Con q ts r c
    → ty_of x ≡ bare.con q (tys_of (map ty_of ts.items)) r (long_id_of c)
con-is x q ts r c s = ap ty_of (s ∙ sym (tys.rolls-Con q ts r c)) ∙ fold-roll-Ty bare.Ty TyFieldOf TyAt node_ty node_ty_field node_ty_part (Ty-F.Con q ts r c)

product-is : (x : Ty) (q : Place) (ts : Vec Ty Global) → x ≡ tys.Product q ts → ty_of x ≡ product q (map ty_of ts.items)
product-is x q ts s = ap ty_of (s ∙ sym (tys.rolls-Product q ts)) ∙ fold-roll-Ty bare.Ty TyFieldOf TyAt node_ty node_ty_field node_ty_part (Ty-F.Product q ts)

arrow-is : (x : Ty) (q : Place) (t : Box Ty Global) (us : Vec TyPart Global) → x ≡ tys.Arrow q t us
    → ty_of x ≡ arrows q (ty_of t.value) (map ty_part_of us.items)
arrow-is x q t us s = ap ty_of (s ∙ sym (tys.rolls-Arrow q t us)) ∙ fold-roll-Ty bare.Ty TyFieldOf TyAt node_ty node_ty_field node_ty_part (Ty-F.Arrow q t us)

-- with abbreviations written out

module _ (bs : List bare.TypeBind) where
  written-fields-are : (fs : List TyField) → ty_field_list (expand_ty_fields bs (ty_fields_of (map ty_field_of fs))) ≡ map (λ f. written_phrase bs f.ty) fs
  written-fields-are [] = refl
  written-fields-are (f ∷ fs) = ap₂ (λ a b. a ∷ b) (ap (λ (r : TyFieldOf). ty (expand_ty bs r.ty)) (ty-field f)) (written-fields-are fs)

  written-list-is : (ts : List Ty) → ty_list (expand_tys bs (tys_of (map ty_of ts))) ≡ map (written_phrase bs) ts
  written-list-is [] = refl
  written-list-is (t ∷ ts) = ap (λ l. written_phrase bs t ∷ l) (written-list-is ts)

  written-numbered-are : (k : ℕ) (ts : List Ty) → ty_field_list (expand_ty_fields bs (numbered_tys k (map ty_of ts))) ≡ map (written_phrase bs) ts
  written-numbered-are k [] = refl
  written-numbered-are k (t ∷ ts) = ap (λ l. written_phrase bs t ∷ l) (written-numbered-are (suc k) ts)

  written-first : (p : Sought) (e : Env) (q : Place) (t : bare.Ty) (us : List TyAt)
      → FoundAt p e (ty (expand_ty bs t)) → FoundAt p e (ty (expand_ty bs (arrows q t us)))
  written-first p e q t [] h = h
  written-first p e q t (u ∷ us) h = parts-at p e (ty (expand_ty bs (arrows q t (u ∷ us)))) (any-first p _ _ h)

  written-next : (p : Sought) (e : Env) (q : Place) (t : bare.Ty) (u : TyAt) (us : List TyAt)
      → FoundAt p e (ty (expand_ty bs (arrows u.place u.ty us))) → FoundAt p e (ty (expand_ty bs (arrows q t (u ∷ us))))
  written-next p e q t u us h = parts-at p e (ty (expand_ty bs (arrows q t (u ∷ us)))) (any-rest p _ _ (any-first p _ [] h))

  written-part : (p : Sought) (e : Env) (q : Place) (t : bare.Ty) (us : List TyPart)
      → AnyAt p (all_in e (map (λ o. written_phrase bs o.ty) us)) → FoundAt p e (ty (expand_ty bs (arrows q t (map ty_part_of us))))
  written-part p e q t [] h = any-none p h
  written-part p e q t (u ∷ us) h =
      let b = ty_part_of u in
      written-next p e q t b (map ty_part_of us) (elim (any-cases p _ _ h) [
        | inl a ↦ written-first p e b.place b.ty (map ty_part_of us) (standing p e _ _ (ap (λ (r : TyAt). ty (expand_ty bs r.ty)) (ty-part u)) a)
        | inr r ↦ written-part p e b.place b.ty us r
      ])

  pub written-Record : (p : Sought) (e : Env) (x : Ty) (q : Place) (fs : Vec TyField Global) → x ≡ tys.Record q fs
      → AnyAt p (all_in e (map (λ f. written_phrase bs f.ty) fs.items)) → FoundAt p e (written_phrase bs x)
  written-Record p e x q fs s h = in-parts p e _ _ _ _ (ap (λ z. ty (expand_ty bs z)) (record-is x q fs s)) refl (written-fields-are fs.items) h

  con-written : (x : Ty) (q : Place) (ts : Vec Ty Global) (r : Place) (c : LongId) → x ≡ tys.Con q ts r c → abbreviation bs (long_id_of c) ≡ None
      → written_phrase bs x ≡ ty (bare.con q (expand_tys bs (tys_of (map ty_of ts.items))) r (long_id_of c))
  con-written x q ts r c s n =
      ap (λ z. ty (expand_ty bs z)) (con-is x q ts r c s) ∙ ap (λ o. ty (written_out q (expand_tys bs (tys_of (map ty_of ts.items))) r (long_id_of c) o)) n

  -- one that is no abbreviation
  pub written-Con : (p : Sought) (e : Env) (x : Ty) (q : Place) (ts : Vec Ty Global) (r : Place) (c : LongId) → x ≡ tys.Con q ts r c
      → abbreviation bs (long_id_of c) ≡ None → AnyAt p (all_in e (map (written_phrase bs) ts.items)) → FoundAt p e (written_phrase bs x)
  written-Con p e x q ts r c s n h = in-parts p e _ _ _ _ (con-written x q ts r c s n) refl (written-list-is ts.items) h

  pub written-Con-own : (p : Sought) (e : Env) (x : Ty) (q : Place) (ts : Vec Ty Global) (r : Place) (c : LongId) → x ≡ tys.Con q ts r c
      → abbreviation bs (long_id_of c) ≡ None
      → At p (unless_bound (option_and_then (λ d. tycon_in d c.id) (along e c.qualifiers.items)) (tycon_at r (long_id_of c)))
      → FoundAt p e (written_phrase bs x)
  written-Con-own p e x q ts r c s n h = standing p e _ _ (con-written x q ts r c s n) (own-at p e _ h)

  pub written-Product : (p : Sought) (e : Env) (x : Ty) (q : Place) (ts : Vec Ty Global) → x ≡ tys.Product q ts
      → AnyAt p (all_in e (map (written_phrase bs) ts.items)) → FoundAt p e (written_phrase bs x)
  written-Product p e x q ts s h = in-parts p e _ _ _ _ (ap (λ z. ty (expand_ty bs z)) (product-is x q ts s)) refl (written-numbered-are 1 ts.items) h

  pub written-Arrow-first : (p : Sought) (e : Env) (x : Ty) (q : Place) (t : Box Ty Global) (us : Vec TyPart Global) → x ≡ tys.Arrow q t us
      → FoundAt p e (written_phrase bs t.value) → FoundAt p e (written_phrase bs x)
  written-Arrow-first p e x q t us s h =
      standing p e _ _ (ap (λ z. ty (expand_ty bs z)) (arrow-is x q t us s)) (written-first p e q (ty_of t.value) (map ty_part_of us.items) h)

  pub written-Arrow-parts : (p : Sought) (e : Env) (x : Ty) (q : Place) (t : Box Ty Global) (us : Vec TyPart Global) → x ≡ tys.Arrow q t us
      → AnyAt p (all_in e (map (λ o. written_phrase bs o.ty) us.items)) → FoundAt p e (written_phrase bs x)
  written-Arrow-parts p e x q t us s h =
      standing p e _ _ (ap (λ z. ty (expand_ty bs z)) (arrow-is x q t us s)) (written-part p e q (ty_of t.value) us.items h)
