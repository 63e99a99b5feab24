-- Operations that hold no expression, from what is asked of their parts.
use Rattle.std.proofs.Common.{◌≡◌, ◌↔◌, ℕ, Bool, true, false, List, [], ◌++◌, map, Option, Some, None, Vec, Global, IsTrue, nat_eq, nat_lt, refl, sym, ap, ◌∙◌, subst}
use Rattle.std.specs.Option.{option_map}
use Rattle.std.specs.Map.{lookup}
use Rattle.mlc_names.specs.declared.label.Label.{Label}
use Rattle.mlc_base.specs.declared.place.Place.{Place}
use Rattle.mlc_prims.specs.declared.basis.BasisPrimitive.{BasisPrimitive}
use Rattle.ty_core.specs.Types.{Typ}
use Rattle.ty_core.specs.Marks.{Allows}
use Rattle.ty_core.specs.declared.scheme.Quantified.{Quantified}
use Rattle.ty_table.specs.TypeAt.{type_at}
use Rattle.ir_poly.specs.Tests.{inst}
use Rattle.ir_poly.specs.Types.{Constructor, function_type, ref_type, row_type, labels_in, ascend, admits_in, prim_type, arguments_at, result_at}
use Rattle.ir_poly.specs.TestsChecked.{at, exception, exn_type, HasConstructor}
use Rattle.ir_tables.specs.declared.tables.Tables.{Tables}
use Rattle.ir_tables.specs.Tables.{parameters_of}
use Rattle.ir_known.specs.declared.known.Known.{Known}
use Rattle.ir_known.specs.Knows.{known_of}
use Rattle.plain_tree.specs.declared.tree.Field.{Field}
use Rattle.plain_tree.specs.declared.tree.Operation.{Operation}
use Rattle.plain_tree.specs.declared.tree.Operation.TheVariants as op
use Rattle.plain_tree.specs.TreeOf.{atoms_of, row_of, operation_of}
use Rattle.record_order.specs.of_ir_uses.Fields.{field_types}
use Rattle.tests_check.specs.Fits.{AtomFits, AtomsFit, ExceptionFits, RowFits, OpFits, UseFits}
use Rattle.tests_check.specs.Reads.{reading}
use Rattle.tests_check.specs.Walk.{Names, all, local, table_of}
use Rattle.tests_check.proofs.Names.{at-known}

from-is : {u v x z : Typ} → function_type u v ≡ function_type x z → v ≡ z
from-is e = cc

never : {P : Type 0} → (P → ⊥) → IsTrue false ↔ P
never n = ((λ f. absurd (cc)), (λ p. absurd (n p)))

pub maker : (ty held made : Typ) (answer : Bool) → ty ≡ function_type held made → IsTrue answer ↔ (made ≡ ref_type held) → IsTrue answer ↔ (ty ≡ function_type held (ref_type held))
maker ty held made answer e w = ((λ y. e ∙ ap (function_type held) (w.0 y)), (λ p. w.1 (from-is (sym e ∙ p))))

pub no-maker : (ty held : Typ) → ((u : Typ) → ty ≡ function_type held u → ⊥) → IsTrue false ↔ (ty ≡ function_type held (ref_type held))
no-maker ty held n = never (n (ref_type held))

module _ (t : Tables) (s : Names) where
  abbrev IsOf : ℕ → ℕ → Type 0
  IsOf x k = (u : Typ) → AtomFits (local t s) (inst x []) u ↔ (u ≡ type_at t.types k)

  abbrev IsNot : ℕ → Type 0
  IsNot x = (u : Typ) → AtomFits (local t s) (inst x []) u → ⊥

  pub atom-taken : (C : List Constructor) (c x k : ℕ) (ty : Typ) (answer : Bool) → IsOf x k → IsTrue answer ↔ HasConstructor C c ty (Some (type_at t.types k))
      → IsTrue answer ↔ ((a : Typ) × HasConstructor C c ty (Some a) × AtomFits (local t s) (inst x []) a)
  atom-taken C c x k ty answer e w = (
    (λ y. (type_at t.types k, w.0 y, (e (type_at t.types k)).1 refl)),
    (λ p. w.1 (subst (λ a. HasConstructor C c ty (Some a)) ((e p.0).0 p.2) p.1)),
  )

  pub atom-not-taken : (C : List Constructor) (c x : ℕ) (ty : Typ) → IsNot x → IsTrue false ↔ ((a : Typ) × HasConstructor C c ty (Some a) × AtomFits (local t s) (inst x []) a)
  atom-not-taken C c x ty n = never (λ p. n p.0 p.2)

  pub atom-refers : (x k : ℕ) (held : Typ) (answer : Bool) → IsOf x k → IsTrue answer ↔ (type_at t.types k ≡ ref_type held) → IsTrue answer ↔ AtomFits (local t s) (inst x []) (ref_type held)
  atom-refers x k held answer e w = ((λ y. (e (ref_type held)).1 (sym (w.0 y))), (λ p. w.1 (sym ((e (ref_type held)).0 p))))

  pub atom-is-not : (x : ℕ) (u : Typ) → IsNot x → IsTrue false ↔ AtomFits (local t s) (inst x []) u
  atom-is-not x u n = never (n u)

  pub exception-fits : (x : ℕ) (o : Option Known) (a : Option Typ) (answer : Bool) → o ≡ lookup (nat_eq x) s.0 → IsTrue answer ↔ (option_map (known_of t.types (parameters_of t)) o ≡ Some (exception a))
      → IsTrue answer ↔ ExceptionFits (local t s) (inst x []) a
  exception-fits x o a answer e w = ((λ y. (refl, known ∙ w.0 y)), (λ p. w.1 (sym known ∙ p.1)))
    where
      known : at (local t s) x ≡ option_map (known_of t.types (parameters_of t)) o
      known = at-known t.types (parameters_of t) s.0 x ∙ ap (option_map (known_of t.types (parameters_of t))) (sym e)

  -- fields
  module _ (fs : List Field) (ty : Typ) where
    abbrev Makes : Type 0
    Makes = (r : List (Label × Typ)) × RowFits (local t s) (row_of (reading t) fs) r × (ty ≡ row_type r) × (ascend (labels_in r) ≡ true)

    abbrev AreTyped : List (Label × ℕ) → Type 0
    AreTyped ks = (r : List (Label × Typ)) → RowFits (local t s) (row_of (reading t) fs) r ↔ (r ≡ field_types t.types ks)

    pub fields-make : (ks ls ms : List (Label × ℕ)) (is answer : Bool) → AreTyped ks → ls ≡ ks → ms ≡ ks → IsTrue is ↔ (ty ≡ row_type (field_types t.types ls)) → is ≡ true
        → answer ≡ ascend (labels_in (field_types t.types ms)) → IsTrue answer ↔ Makes
    fields-make ks ls ms is answer e i j w y a = (
      (λ b. (field_types t.types ks, (e (field_types t.types ks)).1 refl, w.0 y ∙ ap (λ z. row_type (field_types t.types z)) i, ap (λ z. ascend (labels_in (field_types t.types z))) (sym j) ∙ sym a ∙ b)),
      (λ p. a ∙ ap (λ z. ascend (labels_in (field_types t.types z))) j ∙ ap (λ r. ascend (labels_in r)) (sym ((e p.0).0 p.1)) ∙ p.3),
    )

    pub fields-differ : (ks ls : List (Label × ℕ)) (is : Bool) → AreTyped ks → ls ≡ ks → IsTrue is ↔ (ty ≡ row_type (field_types t.types ls)) → is ≡ false → IsTrue false ↔ Makes
    fields-differ ks ls is e i w n = never (λ p. (let q : is ≡ true = w.1 (p.2 ∙ ap row_type ((e p.0).0 p.1) ∙ ap (λ z. row_type (field_types t.types z)) (sym i)) in cc))

    pub fields-not : ((r : List (Label × Typ)) → RowFits (local t s) (row_of (reading t) fs) r → ⊥) → IsTrue false ↔ Makes
    fields-not n = never (λ p. n p.0 p.1)

  -- arguments
  pub atoms-taken : (as_ ks ls : List ℕ) (us : List Typ) (answer : Bool) → ((ts : List Typ) → AtomsFit (local t s) (atoms_of (reading t) as_) ts ↔ (ts ≡ map (type_at t.types) ks)) → ls ≡ ks
      → IsTrue answer ↔ (map (type_at t.types) ls ≡ us) → IsTrue answer ↔ AtomsFit (local t s) (atoms_of (reading t) as_) us
  atoms-taken as_ ks ls us answer e i w = (
    (λ y. (e us).1 (sym (w.0 y) ∙ ap (map (type_at t.types)) i)),
    (λ p. w.1 (ap (map (type_at t.types)) i ∙ sym ((e us).0 p))),
  )

  pub atoms-not : (as_ : List ℕ) (us : List Typ) → ((ts : List Typ) → AtomsFit (local t s) (atoms_of (reading t) as_) ts → ⊥) → IsTrue false ↔ AtomsFit (local t s) (atoms_of (reading t) as_) us
  atoms-not as_ us n = never (n us)

  pub applied : (f x k j : ℕ) (ty : Typ) (answer : Bool) → IsOf x k → IsOf f j → IsTrue answer ↔ (type_at t.types j ≡ function_type (type_at t.types k) ty)
      → IsTrue answer ↔ ((v : Typ) × AtomFits (local t s) (inst x []) v × AtomFits (local t s) (inst f []) (function_type v ty))
  applied f x k j ty answer e g w = (
    (λ y. (type_at t.types k, (e (type_at t.types k)).1 refl, (g (function_type (type_at t.types k) ty)).1 (sym (w.0 y)))),
    (λ p. w.1 (sym ((g (function_type p.0 ty)).0 p.2) ∙ ap (λ v. function_type v ty) ((e p.0).0 p.1))),
  )

  pub not-applied : (f x : ℕ) (ty : Typ) → IsNot x → IsTrue false ↔ ((v : Typ) × AtomFits (local t s) (inst x []) v × AtomFits (local t s) (inst f []) (function_type v ty))
  not-applied f x ty n = never (λ p. n p.0 p.1)

  pub no-function-applied : (f x : ℕ) (ty : Typ) → IsNot f → IsTrue false ↔ ((v : Typ) × AtomFits (local t s) (inst x []) v × AtomFits (local t s) (inst f []) (function_type v ty))
  no-function-applied f x ty n = never (λ p. n (function_type p.0 ty) p.2)

  -- an operation, by what it is
  module _ (D : List Quantified) (u : ℕ) where
    abbrev pub Fits : Operation → Type 0
    Fits o = OpFits (table_of t) D (all t s) (local t s) (operation_of (reading t) o) (type_at t.types u)

    pub operation-is : (o p : Operation) (answer : Bool) → o ≡ p → IsTrue answer ↔ Fits p → IsTrue answer ↔ Fits o
    operation-is o p answer e w = subst (λ q. IsTrue answer ↔ Fits q) (sym e) w

    pub use-fits : (o : Operation) (x : ℕ) (ts : Vec ℕ Global) (ls : List ℕ) (k : Option Known) (answer : Bool) → o ≡ op.Use x ts → ls ≡ ts.items → k ≡ lookup (nat_eq x) (s.0 ++ s.1)
        → IsTrue answer ↔ UseFits D (option_map (known_of t.types (parameters_of t)) k) (map (type_at t.types) ls) (type_at t.types u) → IsTrue answer ↔ Fits o
    use-fits o x ts ls k answer e i j w = operation-is o (op.Use x ts) answer e
        (subst (λ l. IsTrue answer ↔ UseFits D (at (all t s) x) (map (type_at t.types) l) (type_at t.types u)) i
        (subst (λ z. IsTrue answer ↔ UseFits D z (map (type_at t.types) ls) (type_at t.types u)) (sym known) w))
      where
        known : at (all t s) x ≡ option_map (known_of t.types (parameters_of t)) k
        known = at-known t.types (parameters_of t) (s.0 ++ s.1) x ∙ ap (option_map (known_of t.types (parameters_of t))) (sym j)

    pub raise-fits : (o : Operation) (x exn : ℕ) (answer : Bool) → o ≡ op.Raise x → type_at t.types exn ≡ exn_type → IsTrue answer ↔ AtomFits (local t s) (inst x []) (type_at t.types exn) → IsTrue answer ↔ Fits o
    raise-fits o x exn answer e i w = operation-is o (op.Raise x) answer e (subst (λ v. IsTrue answer ↔ AtomFits (local t s) (inst x []) v) i w)

    pub initial-fits : (o : Operation) (n : ℕ) (answer : Bool) → o ≡ op.RaiseInitial n → answer ≡ nat_lt n 7 → IsTrue answer ↔ Fits o
    initial-fits o n answer e i = operation-is o (op.RaiseInitial n) answer e ((λ y. sym i ∙ y), (λ p. i ∙ p))

    pub record-fits : (o : Operation) (a : ℕ) (fs : Vec Field Global) (ls : List Field) (answer : Bool) → o ≡ op.Record a fs → ls ≡ fs.items
        → IsTrue answer ↔ ((type_at t.types a ≡ type_at t.types u) × ((r : List (Label × Typ)) × RowFits (local t s) (row_of (reading t) ls) r × (type_at t.types u ≡ row_type r) × (ascend (labels_in r) ≡ true)))
        → IsTrue answer ↔ Fits o
    record-fits o a fs ls answer e i w = operation-is o (op.Record a fs) answer e (subst (λ l. IsTrue answer
        ↔ ((type_at t.types a ≡ type_at t.types u) × ((r : List (Label × Typ)) × RowFits (local t s) (row_of (reading t) l) r × (type_at t.types u ≡ row_type r) × (ascend (labels_in r) ≡ true)))) i w)

    pub perform-fits : (o : Operation) (m : Option Place) (p : BasisPrimitive) (a : ℕ) (as_ : Vec ℕ Global) (ls : List ℕ) (answer : Bool) → o ≡ op.Perform m p a as_ → ls ≡ as_.items
        → IsTrue answer ↔ (Allows (prim_type p).mark (admits_in D) (type_at t.types a) × AtomsFit (local t s) (atoms_of (reading t) ls) (arguments_at p (type_at t.types a)) × (type_at t.types u ≡ result_at p (type_at t.types a)))
        → IsTrue answer ↔ Fits o
    perform-fits o m p a as_ ls answer e i w = operation-is o (op.Perform m p a as_) answer e (subst (λ l. IsTrue answer
        ↔ (Allows (prim_type p).mark (admits_in D) (type_at t.types a) × AtomsFit (local t s) (atoms_of (reading t) l) (arguments_at p (type_at t.types a)) × (type_at t.types u ≡ result_at p (type_at t.types a)))) i w)
