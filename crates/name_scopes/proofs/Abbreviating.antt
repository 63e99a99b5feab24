-- A type in which no abbreviations are written out is as it was.
use Rattle.std.proofs.Common.{◌≡◌, ℕ, List, [], ◌∷◌, None, refl, ap, ap₂, subst}
use Rattle.sml_tree.specs.BareTree as bare
use Rattle.sml_tree.specs.Derived.{expand_ty, expand_ty_fields, expand_tys, unqualified, written_out}
use Rattle.sml_tree.specs.Phrases.{ty}
use Rattle.sml_tree.specs.TreeOf.{ty_of}
use Rattle.sml_tree.specs.declared.tree.Ty.{Ty}
use Rattle.core_rules.specs.Values.{Env}
use Rattle.name_scopes.specs.Nodes.{ty_phrase}
use Rattle.name_scopes.specs.Placed.{FoundAt}
use Rattle.name_scopes.specs.Types.{AreNamed}
use Rattle.name_scopes.specs.Written.{written_phrase}
use Rattle.name_scopes.specs.declared.sought.Sought.{Sought}

none-is-named : (qs : List ℕ) (x : ℕ) → unqualified [] qs x ≡ None
none-is-named [] x = refl
none-is-named (q ∷ qs) x = refl

mutual
  pub as-it-was : (t : bare.Ty) → expand_ty [] t ≡ t
  as-it-was (bare.var p a) = refl
  as-it-was (bare.fields p fs) = ap (bare.fields p) (fields-as-they-were fs)
  as-it-was (bare.con p ts q c) = ap₂ (λ l o. written_out p l q c o) (all-as-they-were ts) (none-is-named c.qualifiers c.id)
  as-it-was (bare.arrow p t u) = ap₂ (bare.arrow p) (as-it-was t) (as-it-was u)
  as-it-was (bare.ill p) = refl

  all-as-they-were : (ts : bare.Tys) → expand_tys [] ts ≡ ts
  all-as-they-were bare.no_tys = refl
  all-as-they-were (bare.ty t ts) = ap₂ bare.ty (as-it-was t) (all-as-they-were ts)

  fields-as-they-were : (fs : bare.TyFields) → expand_ty_fields [] fs ≡ fs
  fields-as-they-were bare.no_ty_fields = refl
  fields-as-they-were (bare.ty_field l t fs) = ap₂ (bare.ty_field l) (as-it-was t) (fields-as-they-were fs)

pub none-named : AreNamed [] []
none-named x = refl

pub as-written : (p : Sought) (e : Env) (t : Ty) → FoundAt p e (written_phrase [] t) → FoundAt p e (ty_phrase t)
as-written p e t h = subst (λ (z : bare.Ty). FoundAt p e (ty z)) (as-it-was (ty_of t)) h
