-- What the first node of a type and its parts say of the type.
use Rattle.std.proofs.Common.{◌≡◌, ◌≢◌, ◌↔◌, ℕ, suc, Bool, false, List, [], ◌∷◌, IsTrue, length, slice_index_or, refl, sym, ap, ◌∙◌}
use Rattle.mlc_names.specs.declared.label.Label.{Label}
use Rattle.ir_tables.specs.of_ty_core.Types.{Typ, con, Typs, none, more, name, labels, arrow, Symbol}
use Rattle.ir_tables.specs.of_ty_core.declared.name.TyName.{TyName}
use Rattle.ir_tables.specs.of_ty_table.TypeAt.{type_at, types_at}
use Rattle.ir_tables.specs.of_ir_poly.Types.{of_name, ref_type, ref_name, unit_type, function_type}

parts-are : {h k : Symbol} {ts us : Typs} → con h ts ≡ con k us → ts ≡ us
parts-are e = cc

none-only : (ts : List Typ) (ks : List ℕ) → types_at ts ks ≡ none → ks ≡ []
none-only ts [] e = refl
none-only ts (k ∷ ks) e = absurd (cc)

pub named : (ts : List Typ) (t : Typ) (ks : List ℕ) (found n : TyName) (b : Bool) → t ≡ con (name found) (types_at ts ks) → found ≡ n → IsTrue b ↔ (ks ≡ []) → IsTrue b ↔ (t ≡ of_name n)
named ts t ks found n b e i w =
    ((λ y. e ∙ ap (λ f. con (name f) (types_at ts ks)) i ∙ ap (λ ks. con (name n) (types_at ts ks)) (w.0 y)), (λ y. w.1 (none-only ts ks (parts-are (sym e ∙ y)))))

pub nothing : (ts : List Typ) (t : Typ) (ls : List Label) (ks : List ℕ) (b : Bool) → t ≡ con (labels ls) (types_at ts ks) → ls ≡ [] → IsTrue b ↔ (ks ≡ []) → IsTrue b ↔ (t ≡ unit_type)
nothing ts t ls ks b e i w =
    ((λ y. e ∙ ap (λ ls. con (labels ls) (types_at ts ks)) i ∙ ap (λ ks. con (labels []) (types_at ts ks)) (w.0 y)), (λ y. w.1 (none-only ts ks (parts-are (sym e ∙ y)))))

first-is : {t u : Typ} {ts us : Typs} → more t ts ≡ more u us → t ≡ u
first-is e = cc

rest-is : {t u : Typ} {ts us : Typs} → more t ts ≡ more u us → ts ≡ us
rest-is e = cc

pub one-part : (ts : List Typ) (ks : List ℕ) (u : Typ) → types_at ts ks ≡ more u none → length ks ≡ 1
one-part ts [] u e = absurd (cc)
one-part ts (k ∷ ks) u e = ap (λ ks. length (k ∷ ks)) (none-only ts ks (rest-is e))

pub two-parts : (ts : List Typ) (ks : List ℕ) (u v : Typ) → types_at ts ks ≡ more u (more v none) → length ks ≡ 2
two-parts ts [] u v e = absurd (cc)
two-parts ts (k ∷ ks) u v e = ap (λ n. suc n) (one-part ts ks v (rest-is e))

pub not-reference : (ts : List Typ) (t : Typ) (ks : List ℕ) (h : Symbol) (u : Typ) → t ≡ con h (types_at ts ks) → length ks ≢ 1 → IsTrue false ↔ (t ≡ ref_type u)
not-reference ts t ks h u e n = ((λ f. absurd (cc)), (λ y. absurd (n (one-part ts ks u (parts-are (sym e ∙ y))))))

pub reference : (ts : List Typ) (t : Typ) (ks : List ℕ) (found : TyName) (p : ℕ) (held : ℕ) (b : Bool) → t ≡ con (name found) (types_at ts ks) → found ≡ ref_name → length ks ≡ 1 → p ≡ slice_index_or ks 0 p
    → IsTrue b ↔ (type_at ts p ≡ type_at ts held) → IsTrue b ↔ (t ≡ ref_type (type_at ts held))
reference ts t [] found p held b e i l q w = absurd (cc)
reference ts t (k ∷ j ∷ ks) found p held b e i l q w = absurd (cc)
reference ts t (k ∷ []) found p held b e i l q w = (
  (λ y. e ∙ ap (λ f. con (name f) (types_at ts (k ∷ []))) i ∙ ap ref_type (ap (type_at ts) (sym q) ∙ w.0 y)),
  (λ y. w.1 (ap (type_at ts) q ∙ first-is (parts-are (sym e ∙ y)))),
)

pub no-function : (ts : List Typ) (t : Typ) (ks : List ℕ) (h : Symbol) (a : Typ) → t ≡ con h (types_at ts ks) → length ks ≢ 2 → (u : Typ) → t ≡ function_type a u → ⊥
no-function ts t ks h a e n u y = n (two-parts ts ks a u (parts-are (sym e ∙ y)))

pub function : (ts : List Typ) (t : Typ) (ks : List ℕ) (p r a : ℕ) → t ≡ con arrow (types_at ts ks) → length ks ≡ 2 → p ≡ slice_index_or ks 0 p → r ≡ slice_index_or ks 1 r → type_at ts p ≡ type_at ts a
    → t ≡ function_type (type_at ts a) (type_at ts r)
function ts t [] p r a e l q i same = absurd (cc)
function ts t (k ∷ []) p r a e l q i same = absurd (cc)
function ts t (k ∷ j ∷ m ∷ ks) p r a e l q i same = absurd (cc)
function ts t (k ∷ j ∷ []) p r a e l q i same = e ∙ ap (λ u. function_type u (type_at ts j)) (ap (type_at ts) (sym q) ∙ same) ∙ ap (λ v. function_type (type_at ts a) (type_at ts v)) (sym i)
