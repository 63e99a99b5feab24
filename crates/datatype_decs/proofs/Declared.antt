-- A declaration of datatypes, from its parts.
use Rattle.std.proofs.Common.{◌≡◌, ◌≤◌, ◌+◌, ℕ, suc, true, Bool, List, [], ◌∷◌, ◌++◌, length, Option, Some, None, slice_get, refl, sym, ap, ap₂, subst, ◌∙◌, arith}
use Rattle.std.specs.List.{AllByRecursion}
use Rattle.std.proofs.lemmas.Option.{slice_get_within}
use Rattle.ty_core.specs.Types.{Typ}
use Rattle.ty_core.specs.declared.name.TyName.{TyName}
use Rattle.ty_instance.proofs.Going.{stays-on}
use Rattle.sml_tree.specs.declared.ident.Vid.{Vid}
use Rattle.sml_tree.specs.BareTree.{ConBind, DataBind, datatype_dec}
use Rattle.core_rules.specs.Elaborated.{names_of}
use Rattle.core_rules.specs.Restrictions.{distinct}
use Rattle.core_rules.specs.Words.{same_vid}
use Rattle.elab_types.specs.declared.scope.TypeEntry.{TypeEntry}
use Rattle.elab_state.specs.Namings.{IsAmong}
use Rattle.elab_state.specs.States.{types_in}
use Rattle.elab_state.specs.declared.state.State.{State}
use Rattle.elab_steps.specs.Growing.{Begins}
use Rattle.elab_steps.proofs.Growing.{comes_before}
use Rattle.elab_context.specs.Entries.{number_in}
use Rattle.elab_context.specs.Telling.{IsContext, IsHeld, vids_in}
use Rattle.elab_context.specs.declared.context.Context.{Context}
use Rattle.elab_context.specs.declared.entry.Entry.{Entry}
use Rattle.elab_context.specs.declared.entry.Scheme as code
use Rattle.mlc_base.specs.declared.place.Place.{Place}
use Rattle.datatype_forms.specs.of_dec_forms.Bringing.{IsBringing}
use Rattle.datatype_forms.specs.of_dec_forms.declared.brought.Brought.{Brought}
use Rattle.datatype_forms.specs.of_dec_forms.Entries.{types_onto, with_types}
use Rattle.datatype_forms.specs.of_dec_forms.Telling.{with_all}
use Rattle.datatype_forms.specs.Arguments.{AreRowsOf, AreStanding, rows_at}
use Rattle.datatype_forms.specs.Best.{AreDataArguments, AreOnce, rows_of}
use Rattle.datatype_forms.specs.Constructed.{AllRows, AllSchemes, no_schemes, more_schemes, EachScheme, no_scheme, a_scheme, HasScheme, ranged}
use Rattle.datatype_forms.specs.Declaration.{AreDeclared, HasNew}
use Rattle.datatype_forms.specs.Reading.{AreNameEntries}
use Rattle.datatype_forms.specs.Steps.{AreNamed, IsStep}
use Rattle.datatype_forms.specs.declared.attributes.Arguments.{Arguments}
use Rattle.datatype_forms.proofs.Constructing.{constructors_are, constructors_made}
use Rattle.datatype_forms.proofs.Declaring.{datatypes_declared, datatypes_in_context}
use Rattle.datatype_forms.proofs.InNames.{entries-later}
use Rattle.datatype_forms.proofs.Ranges.{ranged_entries}
use Rattle.datatype_forms.proofs.Stepping.{longer-than, step_on}
use Rattle.datatype_decs.specs.Adding.{AreAllMore}
use Rattle.datatype_decs.specs.Whole.{AreConstructed}
use Rattle.datatype_decs.proofs.Adding.{schemes_later}
use Rattle.datatype_decs.proofs.Placing.{rows_of_later, same_rows}

pub among_later : {A : Type 0} (xs ys : List A) (o : Option ℕ) → Begins xs ys → IsAmong (length xs) o → IsAmong (length ys) o
among_later xs ys None g h = tt
among_later xs ys (Some k) g h = let l = longer-than xs ys g in omega (arith, h, l)

-- the names stand for the datatypes

pub names_stand : (k : ℕ) (qs : List Bool) (bs : List DataBind) → length qs ≡ length bs → AreStanding (names_of k qs bs) bs
names_stand k [] [] e = tt
names_stand k [] (b ∷ bs) e = absurd (omega (arith, e))
names_stand k (q ∷ qs) [] e = absurd (omega (arith, e))
names_stand k (q ∷ qs) (b ∷ bs) e = (refl, names_stand (suc k) qs bs (omega (arith, e)))

-- names, schemes and rows

pub are_constructed : (S M N T : State) (C E D : Context) (ns : List TyName) (bs : List DataBind) (kss : List (List (Option ℕ))) (es : List (Vid × Entry)) (n : ℕ) → n ≡ length bs → AreNamed S C n M E
    → AreAllMore M E ns bs kss N D es → IsStep N T → types_in T ≡ types_in N → AllRows T (number_in D) D.names ns bs (rows_at (types_in N) kss) → AreRowsOf (types_in S) bs kss
    → AreConstructed S C ns bs kss T D es
are_constructed S M N T C E D ns bs kss es n l h g st same rows fit =
    let fit' = rows_of_later (types_in S) (types_in M) bs kss h.step.grows.types fit in
    let names : D.names ≡ C.names + length bs = ap (λ (z : Context). z.names) g.context.0 ∙ ap (λ (z : Context). z.names) h.same ∙ ap (λ m. C.names + m) l in
    record {
      step = step_on S N T (step_on S M N h.step g.step) st;
      rest =
          g.context.0
          ∙ ap (λ (z : Context). record z { schemes = D.schemes }) h.same
          ∙ λ i. record C { schemes = D.schemes; names = (ap (λ m. C.names + m) l ∙ sym names) i; naming = ap (λ (z : Context). z.naming) (sym g.context.0) i; numbers = ap (λ (z : Context). z.numbers) (sym g.context.0) i };
      names = names;
      naming =
          subst (IsAmong (length T.namings.items)) (ap (λ (z : Context). z.naming) (sym g.context.0))
          (among_later M.namings.items T.namings.items E.naming (stays-on M.namings.items N.namings.items T.namings.items g.step.grows.namings st.grows.namings) h.among);
      front = record { own = h.front.own; is = ap (λ (z : Context). z.numbers) g.context.0 ∙ h.front.is };
      numbers = λ W c k.
          subst (λ (z : Context). (x : ℕ) → W.naming z.naming x ≡ number_in z x) (sym g.context.0) (h.numbers W (comes_before M T W (step_on M N T g.step st).grows c) k);
      agree = λ W c.
          subst (λ (z : Context). Rattle.elab_typed.specs.Numbers.AgreeBelow C.names (W.naming C.naming) (W.naming z.naming)) (sym g.context.0)
          (h.agree W (comes_before M T W (step_on M N T g.step st).grows c));
      more = subst (λ l. Begins l D.schemes.items) (ap (λ (z : Context). z.schemes.items) h.same) g.context.1;
      schemes = λ a.
          schemes_later N T D st.grows
          (g.schemes (subst (λ l. (k : ℕ) (s : code.Scheme) → slice_get l k ≡ Some s → Rattle.elab_steps.specs.Instances.IsScheme M s.marks.items s.body) (ap (λ (z : Context). z.schemes.items) (sym h.same))
          (schemes_later S M C h.step.grows a)));
      all =
          subst (λ oss. AllSchemes (types_in T) D.schemes.items (length C.schemes.items) ns bs oss es (length D.schemes.items))
          (sym (ap (λ ts. rows_at ts kss) same ∙ same_rows (types_in M) (types_in N) bs kss g.step.grows.types fit'))
          (subst (λ ts. AllSchemes ts D.schemes.items (length C.schemes.items) ns bs (rows_at (types_in M) kss) es (length D.schemes.items)) (sym same)
          (subst (λ k. AllSchemes (types_in N) D.schemes.items k ns bs (rows_at (types_in M) kss) es (length D.schemes.items)) (ap (λ (z : Context). length z.schemes.items) h.same) g.all));
      rows = subst (λ ts. AllRows T (number_in D) D.names ns bs (rows_at ts kss)) (sym same) rows;
    }

-- what comes into scope is held

module _ (T : State) (D : Context) where
  scheme-held : (ts : List Typ) (y : TyName) (k : ℕ) (b : ConBind) (o : Option Typ) (e : Vid × Entry) → HasScheme ts D.schemes.items y k b o e → IsHeld T D e.1
  scheme-held ts y k b o e h = subst (λ (z : Vid × Entry). IsHeld T D z.1) (sym h.is) (slice_get_within D.schemes.items k h.code h.found)

  each-held : {ts : List Typ} {y : TyName} {k j : ℕ} {bs : List ConBind} {os : List (Option Typ)} {es : List (Vid × Entry)} → EachScheme ts D.schemes.items y k bs os es j
      → AllByRecursion (λ (e : Vid × Entry). IsHeld T D e.1) es
  each-held no_scheme = tt
  each-held {ts = ts} {y = y} (a_scheme {k = k} {b = b} {o = o} {e = e} h hs) = (scheme-held ts y k b o e h, each-held hs)

  all-append : (es fs : List (Vid × Entry)) → AllByRecursion (λ (e : Vid × Entry). IsHeld T D e.1) es → AllByRecursion (λ (e : Vid × Entry). IsHeld T D e.1) fs
      → AllByRecursion (λ (e : Vid × Entry). IsHeld T D e.1) (es ++ fs)
  all-append [] fs h g = g
  all-append (e ∷ es) fs h g = (h.0, all-append es fs h.1 g)

  all-held : {ts : List Typ} {k i : ℕ} {ys : List TyName} {bs : List DataBind} {oss : List (List (Option Typ))} {es : List (Vid × Entry)} → AllSchemes ts D.schemes.items k ys bs oss es i
      → AllByRecursion (λ (e : Vid × Entry). IsHeld T D e.1) es
  all-held no_schemes = tt
  all-held (more_schemes {es = es} {fs = fs} h hs) = all-append es fs (each-held h) (all-held hs)

-- the whole

module _ (S M T : State) (C E : Context) (bs : List DataBind) (ns : List TyName) (r : Arguments) (es : List (Vid × Entry)) (i : IsContext S C) (once : AreOnce bs)
    (a : AreDataArguments S C.types C.names bs M ns r) (k : AreConstructed M C ns bs (rows_of r) T E es) where
  abbrev ts : List (ℕ × TypeEntry)
  ts = ranged (length C.schemes.items) bs r.entries.items

  abbrev D : Context
  D = with_types (with_all E es) ts

  named : AreNameEntries (types_in T) bs (names_of C.names a.marks bs) r.entries.items
  named = subst (λ z. AreNameEntries (types_in T) bs z r.entries.items) a.names (entries-later (types_in M) (types_in T) bs ns r.entries.items k.step.grows.types a.entries)

  rows-same : rows_at (types_in T) (rows_of r) ≡ rows_at (types_in M) (rows_of r)
  rows-same = same_rows (types_in M) (types_in T) bs (rows_of r) k.step.grows.types a.rows

  pub are_declared : distinct same_vid (vids_in es) ≡ true → AreDeclared S C bs T D es ts
  are_declared d = record {
    step = step_on S M T a.step k.step;
    tycons = once;
    vids = d;
    adds = record {
      values = ap (λ (z : Context). Rattle.vid_scope.specs.Entries.with_entries z.values es) k.rest;
      structures = ap (λ (z : Context). z.structures) k.rest;
      members = ap (λ (z : Context). z.members.items) k.rest;
      tyvars = ap (λ (z : Context). z.types.tyvars) k.rest;
      types = ap (λ (z : Context). types_onto z.types.types ts) k.rest;
      schemes = k.more;
      level = ap (λ (z : Context). z.level) k.rest;
      rest = ap (λ (z : Context). record z { values = D.values; types = D.types }) k.rest;
      numbers = k.front;
    };
    constructors = constructors_are k.all;
    wide = i.wide;
    names = k.names;
    numbers = k.numbers;
    agree = k.agree;
    marks = a.marks;
    count = a.count;
    rows = rows_of r;
    best = λ c n rd. a.best c n once rd;
    are = λ c n rd.
        a.are c n once rd
        ∙ ap₂ (λ (z : List TyName) oss. Some (Rattle.datatype_forms.specs.Arguments.data_structures z bs oss)) a.names (sym rows-same);
    entries = ranged_entries (types_in T) (length C.schemes.items) bs (names_of C.names a.marks bs) r.entries.items named;
    made = constructors_made T C D a.marks bs (rows_at (types_in T) (rows_of r)) es (types_in T) r.entries.items (length C.schemes.items) (length E.schemes.items) k.names named
        (longer-than C.schemes.items E.schemes.items k.more)
        (subst (λ z. AllSchemes (types_in T) E.schemes.items (length C.schemes.items) z bs (rows_at (types_in T) (rows_of r)) es (length E.schemes.items)) a.names k.all)
        (subst (λ z. AllRows T (number_in E) E.names z bs (rows_at (types_in T) (rows_of r))) a.names k.rows);
  }

  pub has_new : HasNew T D es
  has_new = record {
    naming = k.naming;
    schemes = k.schemes (schemes_later S M C a.step.grows i.schemes);
    entries = all-held T D k.all;
  }

  pub whole_in_context : (F : Context) → F ≡ D → distinct same_vid (vids_in es) ≡ true → IsContext T F
  whole_in_context F e d = subst (IsContext T) (sym e) (datatypes_in_context S T C D bs es ts (are_declared d) i has_new)

  pub whole_schemes : (F : Context) → F ≡ D → Begins C.schemes.items F.schemes.items
  whole_schemes F e = subst (λ (z : Context). Begins C.schemes.items z.schemes.items) (sym e) k.more

  pub whole_brings : (p : Place) (F : Context) (old new : Brought) → F ≡ D → distinct same_vid (vids_in es) ≡ true → new.values.items ≡ old.values.items ++ es → new.types.items ≡ old.types.items ++ ts
      → IsBringing S C (datatype_dec p bs) T F [] old new
  whole_brings p F old new e d ev et =
      subst (λ z. IsBringing S C (datatype_dec p bs) T z [] old new) (sym e) (datatypes_declared S T C D bs es ts (are_declared d) p old new i.holds ev et)
