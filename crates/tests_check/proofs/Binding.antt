-- Bindings of operations that hold no expression, and of exceptions.
use Rattle.std.proofs.Common.{◌≡◌, ◌↔◌, ℕ, Bool, true, false, List, ◌∷◌, ◌++◌, Option, Some, None, IsTrue, nat_eq, nat_lt, refl, sym, ap, ◌∙◌, subst}
use Rattle.std.specs.Option.{option_map}
use Rattle.std.specs.Map.{lookup}
use Rattle.ty_core.specs.Types.{Typ}
use Rattle.ty_core.specs.declared.scheme.Quantified.{Quantified}
use Rattle.ty_table.specs.TypeAt.{type_at}
use Rattle.ir_plain.specs.Tree as clean
use Rattle.ir_poly.specs.Tests.{poly, inst}
use Rattle.ir_poly.specs.TestsChecked.{Knowns, at, may_generalise, exception, NameChecked, fixed_checked, held_checked}
use Rattle.ir_poly.specs.TestsChecked as typing
use Rattle.ir_tables.specs.declared.tables.Tables.{Tables}
use Rattle.ir_tables.specs.Tables.{parameters_of, parameters_at}
use Rattle.ir_known.specs.declared.known.Known.{Known}
use Rattle.ir_known.specs.declared.known.Known.TheVariants as known
use Rattle.ir_known.specs.Knows.{known_of}
use Rattle.plain_tree.specs.declared.tree.Binding.{Binding}
use Rattle.plain_tree.specs.declared.tree.Exception.{Exception}
use Rattle.plain_tree.specs.declared.tree.Exception.TheVariants as exceptions
use Rattle.plain_tree.specs.TreeOf.{exception_of}
use Rattle.tests_check.specs.Fits.{OpFits}
use Rattle.tests_check.specs.Reads.{reading}
use Rattle.tests_check.specs.Walk.{Names, all, local, table_of, IsLet, IsOpen, IsName}
use Rattle.tests_check.proofs.Names.{not-yes, at-known}

module _ (t : Tables) (D : List Quantified) (s : Names) (b : Binding) (o : clean.Op poly) where
  abbrev params : List Quantified
  params = parameters_at (parameters_of t) b.parameters

  pub let-not-general : (g : Bool) → may_generalise params o ≡ g → g ≡ false → IsLet t D s b o → ⊥
  let-not-general g e f l = not-yes f (sym e ∙ l.generalised)

  pub let-not-open : (IsOpen t D b → ⊥) → IsLet t D s b o → ⊥
  let-not-open n l = n l.opened

  pub let-not-typed : (D' : List Quantified) (answer : Bool) → D' ≡ params ++ D → IsTrue answer ↔ OpFits (table_of t) D' (all t s) (local t s) o (type_at t.types b.ty) → answer ≡ false → IsLet t D s b o → ⊥
  let-not-typed D' answer d w f l = not-yes f (w.1 (subst (λ D. OpFits (table_of t) D (all t s) (local t s) o (type_at t.types b.ty)) (sym d) l.operation))

  pub let-fits : (g answer new : Bool) (D' : List Quantified) → may_generalise params o ≡ g → g ≡ true → IsOpen t D b → D' ≡ params ++ D → IsTrue answer ↔ OpFits (table_of t) D' (all t s) (local t s) o (type_at t.types b.ty)
      → answer ≡ true → IsTrue new ↔ (at (all t s) b.variable ≡ None) → new ≡ true → IsLet t D s b o
  let-fits g answer new D' e y i d w a n z = record {
    generalised = e ∙ y;
    opened = i;
    operation = subst (λ D. OpFits (table_of t) D (all t s) (local t s) o (type_at t.types b.ty)) d (w.0 a);
    new = n.0 z;
  }

  pub let-bound : (new : Bool) → IsTrue new ↔ (at (all t s) b.variable ≡ None) → new ≡ false → IsLet t D s b o → ⊥
  let-bound new n f l = not-yes f (n.1 l.new)

-- Names of exceptions

module _ (t : Tables) (s : Names) where
  abbrev Named : Exception → Option Typ → Type 0
  Named y a = NameChecked (all t s) (exception_of (reading t) y) a

  pub initial-named : (y : Exception) (n : ℕ) → y ≡ exceptions.Initial n → nat_lt n 7 ≡ true → (a : Option Typ) → Named y a ↔ (a ≡ None)
  initial-named y n e lt a = subst (λ z. Named z a ↔ (a ≡ None)) (sym e) (one a, (λ i. subst (Named (exceptions.Initial n)) (sym i) (fixed_checked lt)))
    where
      one : (a : Option Typ) → Named (exceptions.Initial n) a → a ≡ None
      one a (fixed_checked q) = refl

  pub no-initial : (y : Exception) (n : ℕ) → y ≡ exceptions.Initial n → nat_lt n 7 ≡ false → (a : Option Typ) → Named y a → ⊥
  no-initial y n e f a p = go a (subst (λ z. Named z a) e p)
    where
      go : (a : Option Typ) → Named (exceptions.Initial n) a → ⊥
      go a (fixed_checked q) = not-yes f q

  held-known : (x : ℕ) (o : Option Known) → o ≡ lookup (nat_eq x) (s.0 ++ s.1) → at (all t s) x ≡ option_map (known_of t.types (parameters_of t)) o
  held-known x o e = at-known t.types (parameters_of t) (s.0 ++ s.1) x ∙ ap (option_map (known_of t.types (parameters_of t))) (sym e)

  held-is : (x : ℕ) (a : Option Typ) → Named (exceptions.Held x) a → at (all t s) x ≡ Some (exception a)
  held-is x a (held_checked e) = e

  same-argument : {a b : Option Typ} → Some (exception a) ≡ Some (exception b) → a ≡ b
  same-argument e = cc

  pub held-named : (y : Exception) (x : ℕ) (o : Option Known) (k : Known) (j : Option ℕ) → y ≡ exceptions.Held x → o ≡ lookup (nat_eq x) (s.0 ++ s.1) → o ≡ Some k → k ≡ known.Exception j → (a : Option Typ) → Named y a ↔ (a ≡ option_map (type_at t.types) j)
  held-named y x o k j e l i q a = subst (λ z. Named z a ↔ (a ≡ option_map (type_at t.types) j)) (sym e) (
    (λ p. same-argument (sym (held-is x a p) ∙ is)),
    (λ r. held_checked (is ∙ ap (λ b. Some (exception b)) (sym r))),
  )
    where
      is : at (all t s) x ≡ Some (exception (option_map (type_at t.types) j))
      is = held-known x o l ∙ ap (option_map (known_of t.types (parameters_of t))) (i ∙ ap Some q)

  pub held-other : (y : Exception) (x : ℕ) (o : Option Known) (k : Known) → y ≡ exceptions.Held x → o ≡ lookup (nat_eq x) (s.0 ++ s.1) → o ≡ Some k → ((a : Option Typ) → known_of t.types (parameters_of t) k ≡ exception a → ⊥)
      → (a : Option Typ) → Named y a → ⊥
  held-other y x o k e l i n a p =
      let q : Some (known_of t.types (parameters_of t) k) ≡ Some (exception a) = sym (held-known x o l ∙ ap (option_map (known_of t.types (parameters_of t))) i) ∙ held-is x a (subst (λ z. Named z a) e p) in n a (cc)

  pub held-none : (y : Exception) (x : ℕ) (o : Option Known) → y ≡ exceptions.Held x → o ≡ lookup (nat_eq x) (s.0 ++ s.1) → o ≡ None → (a : Option Typ) → Named y a → ⊥
  held-none y x o e l i a p =
      let q : None ≡ Some (exception a) = sym (held-known x o l ∙ ap (option_map (known_of t.types (parameters_of t))) i) ∙ held-is x a (subst (λ z. Named z a) e p) in cc

  pub not-of-type : (k : Known) (u : ℕ) → k ≡ known.OfType u → (a : Option Typ) → known_of t.types (parameters_of t) k ≡ exception a → ⊥
  not-of-type k u e a f = let same : known_of t.types (parameters_of t) (known.OfType u) ≡ exception a = ap (known_of t.types (parameters_of t)) (sym e) ∙ f in cc

  pub not-general : (k : Known) (ps u : ℕ) → k ≡ known.General ps u → (a : Option Typ) → known_of t.types (parameters_of t) k ≡ exception a → ⊥
  not-general k ps u e a f = let same : known_of t.types (parameters_of t) (known.General ps u) ≡ exception a = ap (known_of t.types (parameters_of t)) (sym e) ∙ f in cc

  pub not-own : (k : Known) (u : ℕ) → k ≡ known.Own u → (a : Option Typ) → known_of t.types (parameters_of t) k ≡ exception a → ⊥
  not-own k u e a f = let same : known_of t.types (parameters_of t) (known.Own u) ≡ exception a = ap (known_of t.types (parameters_of t)) (sym e) ∙ f in cc

  pub name-binds : (new : Names) (x : ℕ) (y : Exception) (j : Option ℕ) → ((a : Option Typ) → Named y a ↔ (a ≡ option_map (type_at t.types) j)) → at (all t s) x ≡ None → new ≡ ((x, known.Exception j) ∷ s.0, s.1)
      → IsName t s new x (exception_of (reading t) y)
  name-binds new x y j e n i = record {
    argument = option_map (type_at t.types) j;
    named = (e (option_map (type_at t.types) j)).1 refl;
    free = n;
    holds = record { known = known.Exception j; is = i; stands = refl };
  }
