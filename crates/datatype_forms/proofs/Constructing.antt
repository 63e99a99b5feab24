-- Constructors that have their schemes and their rows are made.
use Rattle.std.proofs.Common.{◌≡◌, ◌≤◌, ◌+◌, ℕ, zero, suc, true, List, [], ◌∷◌, ◌++◌, length, Option, Some, None, refl, sym, ap, subst, ◌∙◌, arith}
use Rattle.std.specs.Prelude.{option_map}
use Rattle.std.specs.List.{AllByRecursion}
use Rattle.std.proofs.lemmas.Bool.{lt-ltb}
use Rattle.std.proofs.lemmas.Option.{get_or_from_slice_get, slice_get_within}
use Rattle.ty_core.specs.Types.{Typ, var}
use Rattle.ty_core.specs.Statics.{variables}
use Rattle.ty_core.specs.declared.mark.Mark.TheVariants.{Any}
use Rattle.ty_core.specs.declared.name.TyName.{TyName}
use Rattle.sml_tree.specs.declared.ident.Tyvar.{Tyvar}
use Rattle.sml_tree.specs.declared.ident.Vid.{Vid}
use Rattle.sml_tree.specs.BareTree.{ConBind, DataBind}
use Rattle.core_rules.specs.Elaborated.{any_marks, constructed}
use Rattle.core_rules.specs.Objects.{AllOver, Over}
use Rattle.ir_poly.specs.Types.{constructor_of, find}
use Rattle.elab_typed.specs.Numbers.{name_as, type_as}
use Rattle.elab_types.specs.declared.scope.TypeEntry.{TypeEntry}
use Rattle.elab_state.specs.States.{types_in}
use Rattle.elab_state.specs.declared.state.State.{State}
use Rattle.elab_steps.specs.World.{World, Comes}
use Rattle.elab_context.specs.Entries.{number_in}
use Rattle.elab_context.specs.Telling.{scheme_of}
use Rattle.elab_context.specs.declared.context.Context.{Context}
use Rattle.elab_context.specs.declared.entry.Entry.{Entry}
use Rattle.elab_context.specs.declared.entry.Scheme as code
use Rattle.dec_forms.specs.Entries.{constructing_name}
use Rattle.datatype_forms.specs.Arguments.{OverIf}
use Rattle.datatype_forms.specs.Constructed.{HasScheme, EachScheme, no_scheme, a_scheme, AllSchemes, no_schemes, more_schemes, HasRow, EachRow, no_row, a_row, AllRows, no_rows, more_rows, any_of, ranged}
use Rattle.datatype_forms.specs.Made.{IsMade, EachMade, none_made, one_made, AllMade, no_datatype, a_datatype}
use Rattle.datatype_forms.specs.Reading.{AreNameEntries}
use Rattle.datatype_forms.proofs.Ranges.{each-ends, each-named, each-within}

any-same : (as_ : List Tyvar) → any_of (length as_) ≡ any_marks as_
any-same [] = refl
any-same (a ∷ as_) = ap (λ l. Any ∷ l) (any-same as_)

variables-over : (m v n : ℕ) → AllOver m (variables v n)
variables-over m v zero = tt
variables-over m v (suc n) = (tt, variables-over m (suc v) n)

constructed-over : (m : ℕ) (y : TyName) (o : Option Typ) → Rattle.std.specs.Prelude.nat_lt y.stamp m ≡ true → OverIf m o → Over m (constructed y o)
constructed-over m y None lt h = (lt, variables-over m 0 y.arity)
constructed-over m y (Some t) lt h = (tt, (h, ((lt, variables-over m 0 y.arity), tt)))

some-same : {A : Type 0} {x y : A} → Some x ≡ Some y → x ≡ y
some-same e = cc

one-is : (T : State) (D : Context) (W : World) (number : ℕ → ℕ) (as_ : List Tyvar) (y : TyName) (b : ConBind) (o : Option Typ) (e : Vid × Entry) (n k : ℕ) → Comes T W
    → number ≡ W.naming D.naming → y.arity ≡ length as_ → Rattle.std.specs.Prelude.nat_lt y.stamp D.names ≡ true → HasScheme (types_in T) D.schemes.items y k b o e
    → constructing_name b.vid ≡ Some n → HasRow T number D.names y n o → IsMade D W as_ y b o e
one-is T D W number as_ y b o e n k c f a lt h q r = record {
  scheme = k;
  number = h.number;
  is = h.is;
  may = h.may;
  type =
      ap (scheme_of W) h.found
      ∙ λ i. record { marks = (h.marks ∙ ap any_of a ∙ any-same as_) i; body = (c.types h.code.body (slice_get_within (types_in T) h.code.body (constructed y o) h.body) ∙ get_or_from_slice_get (types_in T) h.code.body (constructed y o) (var 0) h.body) i };
  names = constructed-over D.names y o lt r.over;
  row = subst (λ m. find W.table (name_as (W.naming D.naming) y) m ≡ Some (constructor_of (name_as (W.naming D.naming) y) m (option_map (type_as (W.naming D.naming)) o))) (some-same (sym q ∙ h.may))
      (subst (λ (g : ℕ → ℕ). find W.table (name_as g y) n ≡ Some (constructor_of (name_as g y) n (option_map (type_as g) o))) f (r.found W c));
}

each-is : (T : State) (D : Context) (W : World) (number : ℕ → ℕ) (as_ : List Tyvar) (y : TyName) {k j : ℕ} {bs : List ConBind} {os : List (Option Typ)} {es : List (Vid × Entry)} → Comes T W
    → number ≡ W.naming D.naming → y.arity ≡ length as_ → Rattle.std.specs.Prelude.nat_lt y.stamp D.names ≡ true → EachScheme (types_in T) D.schemes.items y k bs os es j
    → EachRow T number D.names y bs os
    → EachMade D W as_ y bs os es
each-is T D W number as_ y c f a lt no_scheme no_row = none_made
each-is T D W number as_ y c f a lt (a_scheme {k = k} {b = b} {o = o} {e = e} h hs) (a_row n q x rs) =
    one_made (one-is T D W number as_ y b o e n k c f a lt h q x) (each-is T D W number as_ y c f a lt hs rs)

-- the names of the declaration

abbrev NamesFit : ℕ → List TyName → List DataBind → Type 0
NamesFit m [] bs = Unit {0}
NamesFit m (y ∷ ys) [] = Unit {0}
NamesFit m (y ∷ ys) (b ∷ bs) = ((y.arity ≡ length b.tyvars) × (Rattle.std.specs.Prelude.nat_lt y.stamp m ≡ true)) × NamesFit m ys bs

names-fit : (m k : ℕ) (qs : List Rattle.std.specs.Prelude.Bool) (bs : List DataBind) → k + length bs ≤ m → NamesFit m (Rattle.core_rules.specs.Elaborated.names_of k qs bs) bs
names-fit m k [] bs le = tt
names-fit m k (q ∷ qs) [] le = tt
names-fit m k (q ∷ qs) (b ∷ bs) le = ((refl, lt-ltb k m (omega (arith, le))), names-fit m (suc k) qs bs (omega (arith, le)))

all-made : (T : State) (D : Context) (W : World) (number : ℕ → ℕ) {k i : ℕ} {ys : List TyName} {bs : List DataBind} {oss : List (List (Option Typ))} {es : List (Vid × Entry)} (us : List Typ)
    (ts : List (ℕ × TypeEntry)) → Comes T W → number ≡ W.naming D.naming → NamesFit D.names ys bs → AreNameEntries us bs ys ts → k ≤ length D.schemes.items
    → AllSchemes (types_in T) D.schemes.items k ys bs oss es i → AllRows T number D.names ys bs oss → AllMade D W ys bs oss es (ranged k bs ts)
all-made T D W number us ts c f n e le no_schemes no_rows = no_datatype
all-made T D W number us [] c f n e le (more_schemes s ss) (more_rows r rs) = absurd e
all-made T D W number us (t ∷ ts) c f n e le (more_schemes {j = j} {y = y} {b = b} {ys = ys} {bs = bs} {oss = oss} {fs = fs} s ss) (more_rows r rs) =
    let ends = each-ends s in
    let within = each-within D.schemes.items le s in
    a_datatype n.0.0 (each-is T D W number b.tyvars y c f n.0.0 n.0.1 s r)
    (record { tycon = e.0.0; are = each-named D.schemes.items s; within = within })
    (subst (λ z. AllMade D W ys bs oss fs (ranged z bs ts)) ends (all-made T D W number us ts c f n.1 e.1 (omega (arith, ends, within)) ss rs))

pub constructors_made : (T : State) (C D : Context) (qs : List Rattle.std.specs.Prelude.Bool) (bs : List DataBind) (oss : List (List (Option Typ))) (es : List (Vid × Entry)) (us : List Typ)
    (ts : List (ℕ × TypeEntry)) (k i : ℕ) → D.names ≡ C.names + length bs → AreNameEntries us bs (Rattle.core_rules.specs.Elaborated.names_of C.names qs bs) ts → k ≤ length D.schemes.items
    → AllSchemes (types_in T) D.schemes.items k (Rattle.core_rules.specs.Elaborated.names_of C.names qs bs) bs oss es i
    → AllRows T (number_in D) D.names (Rattle.core_rules.specs.Elaborated.names_of C.names qs bs) bs oss → (W : World) → Comes T W → ((x : ℕ) → W.naming D.naming x ≡ number_in D x)
    → AllMade D W (Rattle.core_rules.specs.Elaborated.names_of C.names qs bs) bs oss es (ranged k bs ts)
constructors_made T C D qs bs oss es us ts k i l e le s r W c h =
    all-made T D W (number_in D) us ts c (λ i x. sym (h x) i) (names-fit D.names C.names qs bs (omega (arith, l))) e le s r

-- their entries

scheme-held : (ts : List Typ) (ss : List code.Scheme) (y : TyName) (k : ℕ) (b : ConBind) (o : Option Typ) (e : Vid × Entry) → HasScheme ts ss y k b o e
    → Rattle.datatype_forms.specs.Declaration.is_constructor e.1 ≡ true
scheme-held ts ss y k b o e h = subst (λ (e : Vid × Entry). Rattle.datatype_forms.specs.Declaration.is_constructor e.1 ≡ true) (sym h.is) refl

each-constructor : {ts : List Typ} {ss : List code.Scheme} {y : TyName} {k j : ℕ} {bs : List ConBind} {os : List (Option Typ)} {es : List (Vid × Entry)} → EachScheme ts ss y k bs os es j
    → AllByRecursion (λ (e : Vid × Entry). Rattle.datatype_forms.specs.Declaration.is_constructor e.1 ≡ true) es
each-constructor no_scheme = tt
each-constructor {ts = ts} {ss = ss} {y = y} (a_scheme {k = k} {b = b} {o = o} {e = e} h hs) = (scheme-held ts ss y k b o e h, each-constructor hs)

all-append : (P : Vid × Entry → Type 0) (es fs : List (Vid × Entry)) → AllByRecursion P es → AllByRecursion P fs → AllByRecursion P (es ++ fs)
all-append P [] fs h g = g
all-append P (e ∷ es) fs h g = (h.0, all-append P es fs h.1 g)

pub constructors_are : {ts : List Typ} {ss : List code.Scheme} {k i : ℕ} {ys : List TyName} {bs : List DataBind} {oss : List (List (Option Typ))} {es : List (Vid × Entry)}
    → AllSchemes ts ss k ys bs oss es i
    → AllByRecursion (λ (e : Vid × Entry). Rattle.datatype_forms.specs.Declaration.is_constructor e.1 ≡ true) es
constructors_are no_schemes = tt
constructors_are (more_schemes {es = es} {fs = fs} h hs) =
    all-append (λ (e : Vid × Entry). Rattle.datatype_forms.specs.Declaration.is_constructor e.1 ≡ true) es fs (each-constructor h) (constructors_are hs)
