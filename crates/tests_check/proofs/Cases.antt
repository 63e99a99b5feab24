-- What an arm asks of a value, and what it brings into scope.
use Rattle.std.proofs.Common.{◌≡◌, ◌↔◌, ℕ, Bool, true, false, List, [], ◌∷◌, Option, Some, None, IsTrue, refl, sym, ap, ◌∙◌, subst}
use Rattle.ty_core.specs.declared.scheme.Quantified.{Quantified}
use Rattle.ty_table.specs.TypeAt.{type_at}
use Rattle.ir_poly.specs.Tests.{inst}
use Rattle.ir_poly.specs.Types.{over}
use Rattle.ir_poly.specs.TestsChecked.{at, exn_type, HasLiteral, HasConstructor}
use Rattle.ir_tables.specs.declared.tables.Tables.{Tables}
use Rattle.ir_tables.specs.declared.tables.Constant.{Constant}
use Rattle.ir_tables.specs.Tables.{literal_at, strings_of}
use Rattle.ir_known.specs.declared.known.Known.TheVariants.{OfType}
use Rattle.record_order.specs.of_ir_uses.Fields.{IsSized}
use Rattle.plain_tree.specs.declared.tree.Parameter.{Parameter}
use Rattle.plain_tree.specs.declared.tree.Case.{Case}
use Rattle.plain_tree.specs.declared.tree.Case.TheVariants as case
use Rattle.plain_tree.specs.TreeOf.{case_of}
use Rattle.tests_check.specs.Fits.{CaseFits, ExceptionFits}
use Rattle.tests_check.specs.Reads.{reading}
use Rattle.tests_check.specs.Walk.{Names, all, local, table_of, Opens}
use Rattle.tests_check.proofs.Names.{not-yes}
use Rattle.tests_check.proofs.Steps.{grows-none, grows-one}

module _ (t : Tables) (D : List Quantified) (s : Names) (u : ℕ) where
  abbrev pub Asks : Case → Type 0
  Asks k = CaseFits (table_of t) D (all t s) (local t s) (case_of (reading t) k) (type_at t.types u)

  abbrev pub Opened : Names → Case → Type 0
  Opened new k = Opens t D s new (case_of (reading t) k) u

  -- of a case that is known
  pub opened-is : (new : Names) (k j : Case) → k ≡ j → Opened new j → Opened new k
  opened-is new k j e o = subst (Opened new) (sym e) o

  pub asks-is : (k j : Case) → k ≡ j → (Asks j → ⊥) → Asks k → ⊥
  asks-is k j e n p = n (subst Asks e p)

  -- nothing is bound
  pub literal-opens : (k : Case) (c : Constant) (b : Bool) → k ≡ case.Constant c → IsTrue b ↔ HasLiteral (literal_at (strings_of t) c) (type_at t.types u) → b ≡ true → Opened s k
  literal-opens k c b e w y = opened-is s k (case.Constant c) e (record { case = w.0 y; grows = grows-none s; onto_all = refl; onto_local = refl })

  pub literal-closed : (k : Case) (c : Constant) (b : Bool) → k ≡ case.Constant c → IsTrue b ↔ HasLiteral (literal_at (strings_of t) c) (type_at t.types u) → b ≡ false → Asks k → ⊥
  literal-closed k c b e w f = asks-is k (case.Constant c) e (λ p. not-yes f (w.1 p))

  pub alone-opens : (k : Case) (c : ℕ) (b : Bool) → k ≡ case.Constructor c → IsTrue b ↔ HasConstructor (table_of t) c (type_at t.types u) None → b ≡ true → Opened s k
  alone-opens k c b e w y = opened-is s k (case.Constructor c) e (record { case = w.0 y; grows = grows-none s; onto_all = refl; onto_local = refl })

  pub alone-closed : (k : Case) (c : ℕ) (b : Bool) → k ≡ case.Constructor c → IsTrue b ↔ HasConstructor (table_of t) c (type_at t.types u) None → b ≡ false → Asks k → ⊥
  alone-closed k c b e w f = asks-is k (case.Constructor c) e (λ p. not-yes f (w.1 p))

  pub sized-opens : (k : Case) (n : Option ℕ) (b : Bool) → k ≡ case.Record n → IsTrue b ↔ IsSized n (type_at t.types u) → b ≡ true → Opened s k
  sized-opens k n b e w y = opened-is s k (case.Record n) e (record { case = w.0 y; grows = grows-none s; onto_all = refl; onto_local = refl })

  pub sized-closed : (k : Case) (n : Option ℕ) (b : Bool) → k ≡ case.Record n → IsTrue b ↔ IsSized n (type_at t.types u) → b ≡ false → Asks k → ⊥
  sized-closed k n b e w f = asks-is k (case.Record n) e (λ p. not-yes f (w.1 p))

  -- packets
  module _ (exn : ℕ) (is : type_at t.types exn ≡ exn_type) where
    pub packet-opens : (k : Case) (y : ℕ) (a b : Bool) → k ≡ case.Exception y → IsTrue a ↔ (type_at t.types u ≡ type_at t.types exn) → a ≡ true → IsTrue b ↔ ExceptionFits (local t s) (inst y []) None → b ≡ true → Opened s k
    packet-opens k y a b e w p v q = opened-is s k (case.Exception y) e (record { case = (v.0 q, w.0 p ∙ is); grows = grows-none s; onto_all = refl; onto_local = refl })

    pub packet-closed : (k : Case) (y : ℕ) (b : Bool) → k ≡ case.Exception y → IsTrue b ↔ ExceptionFits (local t s) (inst y []) None → b ≡ false → Asks k → ⊥
    packet-closed k y b e v f = asks-is k (case.Exception y) e (λ p. not-yes f (v.1 p.0))

    pub no-packet : (k : Case) (y : ℕ) (a : Bool) → k ≡ case.Exception y → IsTrue a ↔ (type_at t.types u ≡ type_at t.types exn) → a ≡ false → Asks k → ⊥
    no-packet k y a e w f = asks-is k (case.Exception y) e (λ p. not-yes f (w.1 (p.1 ∙ sym is)))

    pub packed-opens : (y : ℕ) (x : Parameter) (new : Names) (a b : Bool) → IsTrue a ↔ (type_at t.types u ≡ type_at t.types exn) → a ≡ true → IsTrue b ↔ ExceptionFits (local t s) (inst y []) (Some (type_at t.types x.ty)) → b ≡ true
        → over D (type_at t.types x.ty) ≡ true → at (all t s) x.variable ≡ None → new ≡ ((x.variable, OfType x.ty) ∷ s.0, s.1) → Opened new (case.ExceptionOf y x)
    packed-opens y x new a b w p v q o n i = record { case = (v.0 q, o, w.0 p ∙ is, n); grows = grows-one s new (x.variable, OfType x.ty) i; onto_all = ap (all t) i; onto_local = ap (local t) i }

    pub no-packed : (y : ℕ) (x : Parameter) (a : Bool) → IsTrue a ↔ (type_at t.types u ≡ type_at t.types exn) → a ≡ false → Asks (case.ExceptionOf y x) → ⊥
    no-packed y x a w f p = not-yes f (w.1 (p.2 ∙ sym is))

  pub no-such-exception : (y : ℕ) (x : Parameter) (b : Bool) → IsTrue b ↔ ExceptionFits (local t s) (inst y []) (Some (type_at t.types x.ty)) → b ≡ false → Asks (case.ExceptionOf y x) → ⊥
  no-such-exception y x b v f p = not-yes f (v.1 p.0)

  pub constructed-opens : (c : ℕ) (x : Parameter) (new : Names) (b : Bool) → IsTrue b ↔ HasConstructor (table_of t) c (type_at t.types u) (Some (type_at t.types x.ty)) → b ≡ true
      → over D (type_at t.types x.ty) ≡ true → at (all t s) x.variable ≡ None → new ≡ ((x.variable, OfType x.ty) ∷ s.0, s.1) → Opened new (case.ConstructorOf c x)
  constructed-opens c x new b v q o n i = record { case = (v.0 q, o, n); grows = grows-one s new (x.variable, OfType x.ty) i; onto_all = ap (all t) i; onto_local = ap (local t) i }

  pub no-constructor : (c : ℕ) (x : Parameter) (b : Bool) → IsTrue b ↔ HasConstructor (table_of t) c (type_at t.types u) (Some (type_at t.types x.ty)) → b ≡ false → Asks (case.ConstructorOf c x) → ⊥
  no-constructor c x b v f p = not-yes f (v.1 p.0)
