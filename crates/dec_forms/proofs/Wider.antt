-- What is in scope stays what it is when further names, schemes and identifiers come.
use Rattle.std.proofs.Common.{◌≡◌, ◌⊎◌, ◌≤◌, ◌++◌, ℕ, true, false, List, [], ◌∷◌, length, Option, Some, None, slice_get, nat_lt, refl, sym, ap, ap₂, subst, ◌∙◌, arith}
use Rattle.std.specs.Prelude.{option_map}
use Rattle.std.proofs.lemmas.Bool.{lt-ltb, ltb-true}
use Rattle.ty_core.specs.Types.{Symbol, Typ, Typs, arrow, labels, name, var, con, none, more}
use Rattle.ty_core.specs.Statics.{variables}
use Rattle.ty_core.specs.declared.name.TyName.{TyName}
use Rattle.ty_core.specs.declared.scheme.Quantified.{Quantified}
use Rattle.ty_core.specs.declared.env.Status.TheVariants as status
use Rattle.ty_core.specs.declared.mark.Mark.TheVariants.{Any}
use Rattle.ty_basis.specs.Primitives.{prim_type}
use Rattle.core_rules.specs.Objects.{Over, AllOver, Scheme, SymbolOver}
use Rattle.core_rules.specs.Typing.{all_general}
use Rattle.ir_poly.specs.TestsChecked.{alone_type}
use Rattle.ir_poly.specs.TestsChecked as checked
use Rattle.ir_poly.specs.Types.{constructor_of, find, over}
use Rattle.elab_typed.specs.Contexts.{Around, given}
use Rattle.elab_typed.specs.Numbers.{AgreeBelow, name_as, type_as}
use Rattle.elab_typed.proofs.Names.{type-agrees}
use Rattle.closed_types.specs.of_elab_steps.Growing.{Begins}
use Rattle.closed_types.specs.of_elab_steps.World.{World, type_of}
use Rattle.closed_types.proofs.of_elab_steps.Growing.{found-later}
use Rattle.exp_forms.specs.of_elab_context.Telling.{IsConstructor, IsFit, IsInUse, kept_of, known_of, scheme_at, scheme_of}
use Rattle.exp_forms.specs.of_elab_context.declared.context.Context.{Context}
use Rattle.exp_forms.specs.of_elab_context.declared.entry.Entry.{Entry}
use Rattle.exp_forms.specs.of_elab_context.declared.entry.Entry.TheVariants.{Constructor, Reference, Initial, Primitive, Raised, Single, Own, General}
use Rattle.exp_forms.specs.of_elab_context.declared.entry.Scheme as code

-- D and B have all schemes, names and numbers of C and A
pub record Wider (C D : Context) (W : World) (A B : Around) : Type 0 where
  pub schemes : Begins C.schemes.items D.schemes.items
  pub names : A.names ≤ B.names
  pub here : A.names ≡ C.names
  pub there : B.names ≡ D.names
  pub number_here : A.number ≡ W.naming C.naming
  pub number_there : B.number ≡ W.naming D.naming
  pub agree : AgreeBelow A.names A.number B.number
  pub parameters : B.parameters ≡ A.parameters

-- types over more names

symbol-up : (m n : ℕ) → m ≤ n → (h : Symbol) → SymbolOver m h → SymbolOver n h
symbol-up m n le arrow o = tt
symbol-up m n le (labels ls) o = tt
symbol-up m n le (name y) o = let lt = ltb-true y.stamp m o in lt-ltb y.stamp n (omega (arith, lt, le))

mutual
  pub over-wider : (m n : ℕ) → m ≤ n → (t : Typ) → Over m t → Over n t
  over-wider m n le (var v) o = tt
  over-wider m n le (con h ts) o = (symbol-up m n le h o.0, all-over-wider m n le ts o.1)

  all-over-wider : (m n : ℕ) → m ≤ n → (ts : Typs) → AllOver m ts → AllOver n ts
  all-over-wider m n le none o = tt
  all-over-wider m n le (more t ts) o = (over-wider m n le t o.0, all-over-wider m n le ts o.1)

-- a scheme that isn't a variable is one of the context

held-scheme : (W : World) (o : Option code.Scheme) (h : Symbol) (ts : Typs) → (scheme_of W o).body ≡ con h ts → o ≡ None → ⊥
held-scheme W o h ts e q = let f : var 0 ≡ con h ts = ap (λ (z : Option code.Scheme). (scheme_of W z).body) (sym q) ∙ e in cc

held-alone : (W : World) (o : Option code.Scheme) (a : Option Typ) (y : TyName) (ts : Typs) → (scheme_of W o).body ≡ alone_type a (con (name y) ts) → o ≡ None → ⊥
held-alone W o None y ts e q = held-scheme W o (name y) ts e q
held-alone W o (Some u) y ts e q = held-scheme W o arrow (more u (more (con (name y) ts) none)) e q

module _ (C D : Context) (W : World) (A B : Around) (w : Wider C D W A B) where
  scheme-same : (s : ℕ) → (slice_get C.schemes.items s ≡ None → ⊥) → scheme_at D W s ≡ scheme_at C W s
  scheme-same s h = by (slice_get C.schemes.items s) refl
    where
      by : (o : Option code.Scheme) → slice_get C.schemes.items s ≡ o → scheme_at D W s ≡ scheme_at C W s
      by None q = absurd (h q)
      by (Some c) q = ap (scheme_of W) (found-later C.schemes.items D.schemes.items s c w.schemes q ∙ sym q)

  con-scheme : (s n : ℕ) (y : TyName) → IsConstructor C W s n y → scheme_at D W s ≡ scheme_at C W s
  con-scheme s n y h =
      scheme-same s (held-alone W (slice_get C.schemes.items s) h.argument y (variables 0 (length (scheme_at C W s).marks)) h.body)

  entry-scheme : (s : ℕ) (u : Symbol) (ts : Typs) → (scheme_at C W s).body ≡ con u ts → scheme_at D W s ≡ scheme_at C W s
  entry-scheme s u ts e = scheme-same s (held-scheme W (slice_get C.schemes.items s) u ts e)

  type-same : (t : Typ) → Over A.names t → type_as B.number t ≡ type_as A.number t
  type-same t o = type-agrees A.names w.agree t o

  naming-same : (t : Typ) → Over C.names t → type_as (W.naming D.naming) t ≡ type_as (W.naming C.naming) t
  naming-same t o =
      ap (λ (num : ℕ → ℕ). type_as num t) (sym w.number_there) ∙ type-same t (subst (λ n. Over n t) (sym w.here) o) ∙ ap (λ (num : ℕ → ℕ). type_as num t) w.number_here

  names-up : C.names ≤ D.names
  names-up = let le = w.names in let h = w.here in let t = w.there in omega (arith, le, h, t)

  name-same : (y : TyName) → nat_lt y.stamp C.names ≡ true → name_as (W.naming D.naming) y ≡ name_as (W.naming C.naming) y
  name-same y lt =
      ap (λ k. record y { stamp = k })
      (ap (λ (num : ℕ → ℕ). num y.stamp) (sym w.number_there) ∙ w.agree y.stamp (subst (λ n. nat_lt y.stamp n ≡ true) (sym w.here) lt) ∙ ap (λ (num : ℕ → ℕ). num y.stamp) w.number_here)

  -- the datatype and the argument of a constructor are over the names of the context
  alone-names : (a : Option Typ) (y : TyName) (ts : Typs) → Over C.names (alone_type a (con (name y) ts)) → nat_lt y.stamp C.names ≡ true
  alone-names None y ts o = o.0
  alone-names (Some u) y ts o = o.1.1.0.0

  argument-same : (a : Option Typ) (t : Typ) → Over C.names (alone_type a t) → option_map (type_as (W.naming D.naming)) a ≡ option_map (type_as (W.naming C.naming)) a
  argument-same None t o = refl
  argument-same (Some u) t o = ap Some (naming-same u o.1.0)

  con-later : (s n : ℕ) (y : TyName) → IsConstructor C W s n y → IsConstructor D W s n y
  con-later s n y h =
      let same = con-scheme s n y h in
      let vs = variables 0 (length (scheme_at C W s).marks) in
      let o = subst (Over C.names) h.body h.names in
      let e = name-same y (alone-names h.argument y vs o) in
      record {
        argument = h.argument;
        general = ap (λ (z : Scheme). all_general z.marks) same ∙ h.general;
        body = ap (λ (z : Scheme). z.body) same ∙ h.body ∙ ap (λ (z : Scheme). alone_type h.argument (con (name y) (variables 0 (length z.marks)))) (sym same);
        names = subst (Over D.names) (ap (λ (z : Scheme). z.body) (sym same)) (over-wider C.names D.names names-up (scheme_at C W s).body h.names);
        row =
            ap (λ z. find W.table z n) e ∙ h.row
            ∙ ap₂ (λ z a. Some (constructor_of z n a)) (sym e) (sym (argument-same h.argument (con (name y) vs) o));
      }

  in-use-later : (t : Typ) → IsInUse A t → IsInUse B t
  in-use-later t h = record { names = over-wider A.names B.names w.names t h.names; parameters = subst (λ qs. over qs t ≡ true) (sym w.parameters) h.parameters }

  pub fit-later : (e : Entry) → IsFit C W A e → IsFit D W B e
  fit-later (Constructor s n y) h = con-later s n y h
  fit-later (Reference s) h = entry-scheme s _ _ (ap (λ (z : Scheme). z.body) h) ∙ h
  fit-later (Initial s n) h = (entry-scheme s _ _ (ap (λ (z : Scheme). z.body) h.0) ∙ h.0, h.1)
  fit-later (Primitive s q) h =
      let same = entry-scheme s _ _ h.body in
      record {
        body = ap (λ (z : Scheme). z.body) same ∙ h.body;
        marks =
            subst (λ (z : Scheme). (z.marks ≡ (prim_type q).mark ∷ []) ⊎ ((z.marks ≡ []) × ((prim_type q).mark ≡ Any))) (sym same) h.marks;
      }
  fit-later (Raised n None) h = tt
  fit-later (Raised n (Some k)) h = in-use-later (type_of W k) h
  fit-later (Single t n) h = in-use-later (type_of W t) h
  fit-later (Own t n) h = in-use-later (type_of W t) h
  fit-later (General l t n o) h = record {
    marks = h.marks;
    names = over-wider A.names B.names w.names (type_of W t) h.names;
    body = subst (λ (qs : List Quantified). over (W.reading.parameters l ++ qs) (type_of W t) ≡ true) (sym w.parameters) h.body;
    parts = h.parts;
    none = h.none;
  }

  pub kept-later : (e : Entry) → IsFit C W A e → kept_of D W e ≡ kept_of C W e
  kept-later (Constructor s n y) h =
      ap (λ (z : Scheme). given (record { scheme = z; status = status.Constructor })) (con-scheme s n y h)
  kept-later (Reference s) h =
      ap (λ (z : Scheme). given (record { scheme = z; status = status.Constructor }))
      (entry-scheme s _ _ (ap (λ (z : Scheme). z.body) h))
  kept-later (Initial s n) h =
      ap (λ (z : Scheme). given (record { scheme = z; status = status.Exception }))
      (entry-scheme s _ _ (ap (λ (z : Scheme). z.body) h.0))
  kept-later (Primitive s q) h =
      ap (λ (z : Scheme). given (record { scheme = z; status = status.Variable })) (entry-scheme s _ _ h.body)
  kept-later (Raised n a) h = refl
  kept-later (Single t n) h = refl
  kept-later (Own t n) h = refl
  kept-later (General l t n o) h = refl

  pub known-later : (e : Entry) → IsFit C W A e → known_of W B e ≡ known_of W A e
  known-later (Constructor s n y) h = refl
  known-later (Reference s) h = refl
  known-later (Initial s n) h = refl
  known-later (Primitive s q) h = refl
  known-later (Raised n None) h = refl
  known-later (Raised n (Some k)) h = ap (λ t. Some (n, checked.exception (Some t))) (type-same (type_of W k) h.names)
  known-later (Single t n) h = ap (λ u. Some (n, checked.of_type u)) (type-same (type_of W t) h.names)
  known-later (Own t n) h = ap (λ u. Some (n, checked.own u)) (type-same (type_of W t) h.names)
  known-later (General l t n true) h =
      ap (λ u. Some (n, checked.general (W.reading.parameters l) var u)) (type-same (type_of W t) h.names)
  known-later (General l t n false) h = ap (λ u. Some (n, checked.of_type u)) (type-same (type_of W t) h.names)
