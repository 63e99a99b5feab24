-- A declaration with abbreviations written out has the same names, parameters and constructors.
use Rattle.std.proofs.Common.{◌≡◌, ◌+◌, ℕ, List, [], ◌∷◌, length, map, Option, Some, None, refl, sym, ap, ap₂, ◌∙◌}
use Rattle.std.proofs.lemmas.List.{length-map}
use Rattle.ty_core.specs.Types.{Typ}
use Rattle.ty_core.specs.declared.name.TyName.{TyName}
use Rattle.sml_tree.specs.declared.ident.Vid.{Vid}
use Rattle.sml_tree.specs.BareTree.{ConBind, DataBind, Ty, Tys, no_tys, ty, TyFields, no_ty_fields, ty_field, TypeBind}
use Rattle.sml_tree.specs.BareTree as bare
use Rattle.sml_tree.specs.Derived.{expand_bind, expand_con, expand_some, expand_ty, expand_tys, expand_ty_fields, unqualified, written_out}
use Rattle.elab_types.specs.declared.scope.TypeEntry.{TypeEntry}
use Rattle.elab_state.specs.declared.state.State.{State}
use Rattle.elab_context.specs.declared.context.Context.{Context}
use Rattle.elab_context.specs.declared.entry.Entry.{Entry}
use Rattle.elab_context.specs.declared.entry.Scheme as code
use Rattle.datatype_forms.specs.Abbreviated.{written_binds}
use Rattle.datatype_forms.specs.Arguments.{AreRowsOf, AreStanding}
use Rattle.datatype_forms.specs.Constructed.{AllRows, no_rows, more_rows, EachRow, no_row, a_row, AllSchemes, no_schemes, more_schemes, EachScheme, no_scheme, a_scheme, ranged}
use Rattle.datatype_forms.specs.Reading.{AreNameEntries}
use Rattle.datatype_decs.specs.Whole.{AreConstructed}

-- from those to the others

pub standing_unwritten : (as_ : List TypeBind) (ns : List TyName) (bs : List DataBind) → AreStanding ns (written_binds as_ bs) → AreStanding ns bs
standing_unwritten as_ [] [] h = tt
standing_unwritten as_ [] (b ∷ bs) h = absurd h
standing_unwritten as_ (n ∷ ns) [] h = absurd h
standing_unwritten as_ (n ∷ ns) (b ∷ bs) h = (h.0, standing_unwritten as_ ns bs h.1)

pub entries_unwritten : (ts : List Typ) (as_ : List TypeBind) (bs : List DataBind) (ns : List TyName) (es : List (ℕ × TypeEntry)) → AreNameEntries ts (written_binds as_ bs) ns es → AreNameEntries ts bs ns es
entries_unwritten ts as_ [] [] [] h = tt
entries_unwritten ts as_ [] [] (e ∷ es) h = absurd h
entries_unwritten ts as_ [] (n ∷ ns) es h = absurd h
entries_unwritten ts as_ (b ∷ bs) [] es h = absurd h
entries_unwritten ts as_ (b ∷ bs) (n ∷ ns) [] h = absurd h
entries_unwritten ts as_ (b ∷ bs) (n ∷ ns) (e ∷ es) h = (h.0, entries_unwritten ts as_ bs ns es h.1)

pub rows_unwritten : (ts : List Typ) (as_ : List TypeBind) (bs : List DataBind) (kss : List (List (Option ℕ))) → AreRowsOf ts (written_binds as_ bs) kss → AreRowsOf ts bs kss
rows_unwritten ts as_ [] [] h = tt
rows_unwritten ts as_ [] (ks ∷ kss) h = absurd h
rows_unwritten ts as_ (b ∷ bs) [] h = absurd h
rows_unwritten ts as_ (b ∷ bs) (ks ∷ kss) h =
    (record { count = h.0.count ∙ length-map b.cons (expand_con as_); held = h.0.held; below = h.0.below }, rows_unwritten ts as_ bs kss h.1)

pub ranged_written : (as_ : List TypeBind) (k : ℕ) (bs : List DataBind) (ts : List (ℕ × TypeEntry)) → ranged k (written_binds as_ bs) ts ≡ ranged k bs ts
ranged_written as_ k [] ts = refl
ranged_written as_ k (b ∷ bs) [] = refl
ranged_written as_ k (b ∷ bs) (t ∷ ts) =
    ap (λ n. (t.0, record { arity = t.1.arity; body = t.1.body; constructors = record { first = k; count = n } }) ∷ ranged (k + n) (written_binds as_ bs) ts) (length-map b.cons (expand_con as_))
    ∙ ap (λ l. (t.0, record { arity = t.1.arity; body = t.1.body; constructors = record { first = k; count = length b.cons } }) ∷ l) (ranged_written as_ (k + length b.cons) bs ts)

pub types_ranged : (as_ : List TypeBind) (k n : ℕ) (bs : List DataBind) (ts us vs : List (ℕ × TypeEntry)) → vs ≡ ranged n bs us → n ≡ k → us ≡ ts → vs ≡ ranged k (written_binds as_ bs) ts
types_ranged as_ k n bs ts us vs h e q = h ∙ ap₂ (λ m l. ranged m bs l) e q ∙ sym (ranged_written as_ k bs ts)

-- and back

each-written : (ts : List Typ) (ss : List code.Scheme) (as_ : List TypeBind) (y : TyName) {k j : ℕ} {bs : List ConBind} {os : List (Option Typ)} {es : List (Vid × Entry)} → EachScheme ts ss y k bs os es j
    → EachScheme ts ss y k (map (expand_con as_) bs) os es j
each-written ts ss as_ y no_scheme = no_scheme
each-written ts ss as_ y (a_scheme {b = b} {o = o} {e = e} h hs) = a_scheme {b = expand_con as_ b} (record {
  number = h.number;
  is = h.is;
  may = h.may;
  code = h.code;
  found = h.found;
  marks = h.marks;
  body = h.body;
  built = h.built;
}) (each-written ts ss as_ y hs)

all-written : (ts : List Typ) (ss : List code.Scheme) (as_ : List TypeBind) {k i : ℕ} {ys : List TyName} {bs : List DataBind} {oss : List (List (Option Typ))} {es : List (Vid × Entry)}
    → AllSchemes ts ss k ys bs oss es i → AllSchemes ts ss k ys (written_binds as_ bs) oss es i
all-written ts ss as_ no_schemes = no_schemes
all-written ts ss as_ (more_schemes {y = y} {b = b} h hs) = more_schemes {b = expand_bind as_ b} (each-written ts ss as_ y h) (all-written ts ss as_ hs)

each-row-written : (T : State) (f : ℕ → ℕ) (limit : ℕ) (as_ : List TypeBind) (y : TyName) {bs : List ConBind} {os : List (Option Typ)} → EachRow T f limit y bs os
    → EachRow T f limit y (map (expand_con as_) bs) os
each-row-written T f limit as_ y no_row = no_row
each-row-written T f limit as_ y (a_row {b = b} n e h hs) = a_row {b = expand_con as_ b} n e h (each-row-written T f limit as_ y hs)

all-rows-written : (T : State) (f : ℕ → ℕ) (limit : ℕ) (as_ : List TypeBind) {ys : List TyName} {bs : List DataBind} {oss : List (List (Option Typ))} → AllRows T f limit ys bs oss
    → AllRows T f limit ys (written_binds as_ bs) oss
all-rows-written T f limit as_ no_rows = no_rows
all-rows-written T f limit as_ (more_rows {y = y} {b = b} h hs) = more_rows {b = expand_bind as_ b} (each-row-written T f limit as_ y h) (all-rows-written T f limit as_ hs)

pub constructed_written : (S T : State) (C D : Context) (as_ : List TypeBind) (ns : List TyName) (bs : List DataBind) (kss : List (List (Option ℕ))) (es : List (Vid × Entry)) → AreConstructed S C ns bs kss T D es
    → AreConstructed S C ns (written_binds as_ bs) kss T D es
constructed_written S T C D as_ ns bs kss es k = record {
  step = k.step;
  rest = k.rest;
  names = k.names ∙ ap (λ n. C.names + n) (sym (length-map bs (expand_bind as_)));
  naming = k.naming;
  front = k.front;
  numbers = k.numbers;
  agree = k.agree;
  more = k.more;
  schemes = k.schemes;
  all = all-written _ _ as_ k.all;
  rows = all-rows-written T _ D.names as_ k.rows;
}

-- with no abbreviations

mutual
  same-ty : (t : Ty) → expand_ty [] t ≡ t
  same-ty (bare.var p a) = refl
  same-ty (bare.fields p fs) = ap (bare.fields p) (same-fields fs)
  same-ty (bare.con p ts q x) = none x.qualifiers x.id (expand_tys [] ts) ∙ ap (λ us. bare.con p us q x) (same-tys ts)
    where
      none : (qs : List ℕ) (y : ℕ) (us : Tys) → written_out p us q x (unqualified [] qs y) ≡ bare.con p us q x
      none [] y us = refl
      none (k ∷ qs) y us = refl
  same-ty (bare.arrow p t u) = ap₂ (bare.arrow p) (same-ty t) (same-ty u)
  same-ty (bare.ill p) = refl

  same-tys : (ts : Tys) → expand_tys [] ts ≡ ts
  same-tys no_tys = refl
  same-tys (ty t ts) = ap₂ ty (same-ty t) (same-tys ts)

  same-fields : (fs : TyFields) → expand_ty_fields [] fs ≡ fs
  same-fields no_ty_fields = refl
  same-fields (ty_field l t fs) = ap₂ (ty_field l) (same-ty t) (same-fields fs)

same-some : (o : Option Ty) → expand_some [] o ≡ o
same-some None = refl
same-some (Some t) = ap Some (same-ty t)

same-cons : (bs : List ConBind) → map (expand_con []) bs ≡ bs
same-cons [] = refl
same-cons (b ∷ bs) = ap₂ (λ x l. x ∷ l) (λ i. record b { of_ty = same-some b.of_ty i }) (same-cons bs)

pub none_written : (bs : List DataBind) → written_binds [] bs ≡ bs
none_written [] = refl
none_written (b ∷ bs) = ap₂ (λ x l. x ∷ l) (λ i. record b { cons = same-cons b.cons i }) (none_written bs)
