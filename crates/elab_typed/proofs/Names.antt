-- Types with the program's numbers of type names.
use Rattle.std.proofs.Common.{◌≡◌, ℕ, Bool, true, false, ◌&&◌, List, [], ◌∷◌, map, Option, Some, nat_eq, nat_lt, if◌then◌else◌, refl, sym, ap, ◌∙◌}
use Rattle.std.specs.Map.{lookup}
use Rattle.mlc_names.specs.declared.label.Label.{Label}
use Rattle.ty_core.specs.Types.{Symbol, arrow, labels, name, Typ, var, con, Typs, none, more, typs_of, admits, all_admit, attribute, allowed}
use Rattle.ty_core.specs.Marks.{Allows}
use Rattle.ty_core.specs.Statics.{replace, replace_all}
use Rattle.ty_core.specs.declared.name.TyName.{TyName}
use Rattle.ty_core.specs.declared.mark.Mark.{Mark}
use Rattle.ty_core.specs.declared.mark.Mark.TheVariants.{Any, Equality, Class}
use Rattle.ty_core.specs.declared.scheme.Quantified.{Quantified}
use Rattle.core_elab.specs.of_ty_basis.Types.{Row, ref_name, of_name, labels_in, row_type}
use Rattle.label_rows.proofs.Mapped.{sorted-map}
use Rattle.core_elab.specs.of_core_rules.Objects.{sorted, Over, AllOver, SymbolOver}
use Rattle.core_elab.specs.of_core_rules.Typing.{all_general}
use Rattle.core_elab.specs.of_ir_poly.Types.{over, all_over, changed, AreAllowed}
use Rattle.elab_typed.specs.Numbers.{name_as, symbol_as, type_as, types_as, row_as, KeepsInitial, AgreeBelow}

-- a name of the initial basis is itself
pub name-kept : {n : ℕ → ℕ} (y : TyName) → KeepsInitial n → nat_lt y.stamp 8 ≡ true → name_as n y ≡ y
name-kept y i h = ap (λ k. record y { stamp = k }) (i y.stamp h)

pub of_name-kept : {n : ℕ → ℕ} (y : TyName) → KeepsInitial n → nat_lt y.stamp 8 ≡ true → type_as n (of_name y) ≡ of_name y
of_name-kept y i h = ap of_name (name-kept y i h)

pub ref-kept : {n : ℕ → ℕ} (t : Typ) → KeepsInitial n → type_as n (con (name ref_name) (more t none)) ≡ con (name ref_name) (more (type_as n t) none)
ref-kept {n} t i = ap (λ y. con (name y) (more (type_as n t) none)) (name-kept ref_name i refl)

-- Rows

pub sorted-as : (n : ℕ → ℕ) (r : Row) → row_as n (sorted r) ≡ sorted (row_as n r)
sorted-as n = sorted-map (λ f. f.0) (λ f. f.0) (λ f. (f.0, type_as n f.1)) (λ f. refl)

pub labels-as : (n : ℕ → ℕ) (r : Row) → labels_in (row_as n r) ≡ labels_in r
labels-as n [] = refl
labels-as n (f ∷ r) = ap (λ ls. f.0 ∷ ls) (labels-as n r)

parts-as : (n : ℕ → ℕ) (r : Row) → types_as n (typs_of (map (λ f. f.1) r)) ≡ typs_of (map (λ f. f.1) (row_as n r))
parts-as n [] = refl
parts-as n (f ∷ r) = ap (more (type_as n f.1)) (parts-as n r)

pub row_type-as : (n : ℕ → ℕ) (r : Row) → type_as n (row_type r) ≡ row_type (row_as n r)
row_type-as n r = λ i. con (labels (sym (labels-as n r) i)) (parts-as n r i)

found-as : (n : ℕ → ℕ) (b : Bool) (u t : Typ) (o o' : Option Typ) → (o ≡ Some t → o' ≡ Some (type_as n t)) → (if b then Some u else o) ≡ Some t
    → (if b then Some (type_as n u) else o') ≡ Some (type_as n t)
found-as n true u t o o' h e = let same : u ≡ t = cc in ap (λ x. Some (type_as n x)) same
found-as n false u t o o' h e = h e

pub part-as : (n : ℕ → ℕ) (p : Label → Bool) (r : Row) (t : Typ) → lookup p r ≡ Some t → lookup p (row_as n r) ≡ Some (type_as n t)
part-as n p [] t e = absurd (cc)
part-as n p (f ∷ r) t e = found-as n (p f.0) f.1 t (lookup p r) (lookup p (row_as n r)) (part-as n p r t) e

-- Variables

mutual
  pub replace-as : (n : ℕ → ℕ) (f : ℕ → Typ) (t : Typ) → type_as n (replace f t) ≡ replace (λ v. type_as n (f v)) (type_as n t)
  replace-as n f (var v) = refl
  replace-as n f (con h ts) = ap (con (symbol_as n h)) (replace_all-as n f ts)

  replace_all-as : (n : ℕ → ℕ) (f : ℕ → Typ) (ts : Typs) → types_as n (replace_all f ts) ≡ replace_all (λ v. type_as n (f v)) (types_as n ts)
  replace_all-as n f none = refl
  replace_all-as n f (more t ts) = λ i. more (replace-as n f t i) (replace_all-as n f ts i)

mutual
  pub over-as : (n : ℕ → ℕ) (D : List Quantified) (t : Typ) → over D (type_as n t) ≡ over D t
  over-as n D (var v) = refl
  over-as n D (con h ts) = all_over-as n D ts

  pub all_over-as : (n : ℕ → ℕ) (D : List Quantified) (ts : Typs) → all_over D (types_as n ts) ≡ all_over D ts
  all_over-as n D none = refl
  all_over-as n D (more t ts) = λ i. over-as n D t i && all_over-as n D ts i

pub typs_of-as : (n : ℕ → ℕ) (ts : List Typ) → types_as n (typs_of ts) ≡ typs_of (map (type_as n) ts)
typs_of-as n [] = refl
typs_of-as n (t ∷ ts) = ap (more (type_as n t)) (typs_of-as n ts)

pub args-over : (n : ℕ → ℕ) (D : List Quantified) (ts : List Typ) → all_over D (typs_of ts) ≡ true → all_over D (typs_of (map (type_as n) ts)) ≡ true
args-over n D ts h = ap (all_over D) (sym (typs_of-as n ts)) ∙ all_over-as n D (typs_of ts) ∙ h

attribute-as : (n : ℕ → ℕ) (h : Symbol) → attribute (symbol_as n h) ≡ attribute h
attribute-as n arrow = refl
attribute-as n (labels ls) = refl
attribute-as n (name y) = refl

mutual
  pub admits-as : (n : ℕ → ℕ) (m : ℕ → Bool) (t : Typ) → admits m (type_as n t) ≡ admits m t
  admits-as n m (var v) = refl
  admits-as n m (con h ts) = λ i. allowed (attribute-as n h i) (all_admit-as n m ts i)

  all_admit-as : (n : ℕ → ℕ) (m : ℕ → Bool) (ts : Typs) → all_admit m (types_as n ts) ≡ all_admit m ts
  all_admit-as n m none = refl
  all_admit-as n m (more t ts) = λ i. admits-as n m t i && all_admit-as n m ts i

changed-as : (n : ℕ → ℕ) (qs : List Quantified) (ts : List Typ) (v : ℕ) → type_as n (changed qs ts var v) ≡ changed qs (map (type_as n) ts) var v
changed-as n [] ts v = refl
changed-as n (q ∷ qs) [] v = refl
changed-as n (q ∷ qs) (t ∷ ts) v = go (nat_eq q.variable v) (changed-as n qs ts v)
  where
    go : (b : Bool) → type_as n (changed qs ts var v) ≡ changed qs (map (type_as n) ts) var v
        → type_as n (if b then t else changed qs ts var v) ≡ (if b then type_as n t else changed qs (map (type_as n) ts) var v)
    go true e = refl
    go false e = e

mutual
  replace-by : (f g : ℕ → Typ) → ((v : ℕ) → f v ≡ g v) → (t : Typ) → replace f t ≡ replace g t
  replace-by f g h (var v) = h v
  replace-by f g h (con a ts) = ap (con a) (replace_all-by f g h ts)

  replace_all-by : (f g : ℕ → Typ) → ((v : ℕ) → f v ≡ g v) → (ts : Typs) → replace_all f ts ≡ replace_all g ts
  replace_all-by f g h none = refl
  replace_all-by f g h (more t ts) = λ i. more (replace-by f g h t i) (replace_all-by f g h ts i)

-- an instance is one
pub instance-as : (n : ℕ → ℕ) (qs : List Quantified) (ts : List Typ) (b : Typ)
    → type_as n (replace (changed qs ts var) b) ≡ replace (changed qs (map (type_as n) ts) var) (type_as n b)
instance-as n qs ts b = replace-as n (changed qs ts var) b ∙ replace-by _ _ (changed-as n qs ts) (type_as n b)

allows-as : (n : ℕ → ℕ) (a : Mark) (m : ℕ → Bool) (t : Typ) (rest : List Mark) → all_general (a ∷ rest) ≡ true → Allows a m t → Allows a m (type_as n t)
allows-as n Any m t rest g h = tt
allows-as n Equality m t rest g h = admits-as n m t ∙ h
allows-as n (Class c) m t rest g h = absurd (cc)

rest-general : (a : Mark) (rest : List Mark) → all_general (a ∷ rest) ≡ true → all_general rest ≡ true
rest-general Any rest g = g
rest-general Equality rest g = g
rest-general (Class c) rest g = absurd (cc)

pub are-allowed-as : (n : ℕ → ℕ) (m : ℕ → Bool) (qs : List Quantified) (ts : List Typ) → all_general (map (λ q. q.mark) qs) ≡ true → AreAllowed m qs ts
    → AreAllowed m qs (map (type_as n) ts)
are-allowed-as n m [] [] g h = tt
are-allowed-as n m [] (t ∷ ts) g h = absurd h
are-allowed-as n m (q ∷ qs) [] g h = absurd h
are-allowed-as n m (q ∷ qs) (t ∷ ts) g h =
    (allows-as n q.mark m t (map (λ q. q.mark) qs) g h.0, are-allowed-as n m qs ts (rest-general q.mark (map (λ q. q.mark) qs) g) h.1)

-- numbers that agree on the names of a type

symbol-agrees : (count : ℕ) {f g : ℕ → ℕ} → AgreeBelow count f g → (h : Symbol) → SymbolOver count h → symbol_as g h ≡ symbol_as f h
symbol-agrees count a arrow o = refl
symbol-agrees count a (labels ls) o = refl
symbol-agrees count a (name y) o = ap (λ k. name (record y { stamp = k })) (a y.stamp o)

mutual
  pub type-agrees : (count : ℕ) {f g : ℕ → ℕ} → AgreeBelow count f g → (t : Typ) → Over count t → type_as g t ≡ type_as f t
  type-agrees count a (var v) o = refl
  type-agrees count a (con h ts) o = λ i. con (symbol-agrees count a h o.0 i) (types-agree count a ts o.1 i)

  types-agree : (count : ℕ) {f g : ℕ → ℕ} → AgreeBelow count f g → (ts : Typs) → AllOver count ts → types_as g ts ≡ types_as f ts
  types-agree count a none o = refl
  types-agree count a (more t ts) o = λ i. more (type-agrees count a t o.0 i) (types-agree count a ts o.1 i)
