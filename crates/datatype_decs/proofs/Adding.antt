-- Constructors get their schemes, one after the other.
use Rattle.std.proofs.Common.{◌≡◌, ◌<◌, ◌≤◌, ◌+◌, ◌&&◌, ◌⊎◌, inl, inr, ℕ, zero, suc, true, List, [], ◌∷◌, ◌++◌, length, replicate, Option, Some, None, slice_get, refl, sym, ap, ap₂, subst, ◌∙◌, arith}
use Rattle.std.specs.Prelude.{option_map}
use Rattle.std.specs.List.{AllByRecursion}
use Rattle.std.proofs.lemmas.Bool.{lt-ltb}
use Rattle.std.proofs.lemmas.List.{append-nil, append_assoc, map-append}
use Rattle.std.proofs.lemmas.Option.{get_or_from_slice_get, slice_get_within}
use Rattle.ty_core.specs.Marks.{is_inhabited}
use Rattle.ty_core.specs.Types.{Typ, con, name, var}
use Rattle.ty_core.specs.Statics.{variables}
use Rattle.ty_core.specs.declared.mark.Mark.{Mark}
use Rattle.ty_core.specs.declared.mark.Mark.TheVariants.{Any}
use Rattle.ty_core.specs.declared.name.TyName.{TyName}
use Rattle.ty_table.specs.TypeAt.{type_at}
use Rattle.ty_solve.specs.Substitution.{are_below, is_below}
use Rattle.ty_solve.proofs.Holding.{type-stays}
use Rattle.ty_instance.proofs.Going.{longer, stays-on, whole}
use Rattle.sml_tree.specs.declared.ident.Vid.{Vid}
use Rattle.sml_tree.specs.BareTree.{ConBind, DataBind}
use Rattle.core_rules.specs.Elaborated.{constructed, from_argument}
use Rattle.elab_state.specs.Readings.{IsHeldArgument}
use Rattle.elab_state.specs.States.{types_in}
use Rattle.elab_state.specs.declared.state.State.{State}
use Rattle.elab_steps.specs.Growing.{Begins, Grows}
use Rattle.elab_steps.specs.Instances.{IsScheme}
use Rattle.elab_steps.proofs.Changing.{begins-more}
use Rattle.elab_steps.proofs.Growing.{found-later}
use Rattle.elab_context.specs.declared.context.Context.{Context}
use Rattle.elab_context.specs.declared.entry.Built.{Built}
use Rattle.elab_context.specs.declared.entry.Built.TheVariants.{Declared}
use Rattle.elab_context.specs.declared.entry.Entry.{Entry}
use Rattle.elab_context.specs.declared.entry.Entry.TheVariants.{Constructor}
use Rattle.elab_context.specs.declared.entry.Scheme as code
use Rattle.datatype_forms.specs.of_dec_forms.Entries.{constructing_name}
use Rattle.datatype_forms.specs.Arguments.{BelowIf, RowHeld, row_at, rows_at}
use Rattle.datatype_forms.specs.Constructed.{AllSchemes, no_schemes, more_schemes, EachScheme, no_scheme, a_scheme, HasMoreSchemes, HasScheme, any_of}
use Rattle.datatype_forms.specs.Steps.{IsStep}
use Rattle.datatype_forms.proofs.Stepping.{step_on, step_same}
use Rattle.datatype_decs.specs.Adding.{AreAllMore, AreMore, AreSchemes, HasOneMore, IsMore}
use Rattle.datatype_decs.proofs.Placing.{same_argument, same_row}

-- marks

pub any_replicated : (n : ℕ) → replicate n Any ≡ any_of n
any_replicated zero = refl
any_replicated (suc n) = ap (λ l. Any ∷ l) (any_replicated n)

any-length : (n : ℕ) → length (any_of n) ≡ n
any-length zero = refl
any-length (suc n) = ap suc (any-length n)

any-inhabited : (n : ℕ) → AllByRecursion (λ m. is_inhabited m ≡ true) (any_of n)
any-inhabited zero = tt
any-inhabited (suc n) = (refl, any-inhabited n)

-- the type of a constructor

variables-below : (m v n : ℕ) → v + n ≤ m → are_below m (variables v n) ≡ true
variables-below m v zero le = refl
variables-below m v (suc n) le = ap₂ (λ a b. a && b) (lt-ltb v m (omega (arith, le))) (variables-below m (suc v) n (omega (arith, le)))

constructed-below : (ts : List Typ) (y : TyName) (o : Option ℕ) → BelowIf y.arity ts o → is_below y.arity (constructed y (option_map (type_at ts) o)) ≡ true
constructed-below ts y None h = variables-below y.arity 0 y.arity (omega arith)
constructed-below ts y (Some k) h = ap₂ (λ a b. a && (b && true)) h (variables-below y.arity 0 y.arity (omega arith))

pub type_made : (ts us : List Typ) (o : Option ℕ) (y : TyName) (ty r : ℕ) → slice_get ts ty ≡ Some (con (name y) (variables 0 y.arity))
    → slice_get us r ≡ Some (from_argument (option_map (type_at ts) o) (type_at ts ty)) → slice_get us r ≡ Some (constructed y (option_map (type_at ts) o))
type_made ts us o y ty r e h = h ∙ ap (λ t. Some (from_argument (option_map (type_at ts) o) t)) (get_or_from_slice_get ts ty (con (name y) (variables 0 y.arity)) (var 0) e)

pub type_found : (ts : List Typ) (k : ℕ) → k < length ts → slice_get ts k ≡ Some (type_at ts k)
type_found [] k lt = absurd (omega (arith, lt))
type_found (t ∷ ts) zero lt = refl
type_found (t ∷ ts) (suc k) lt = type_found ts k (omega (arith, lt))

-- schemes

longer-by-one : {A : Type 0} (xs : List A) (a : A) → length (xs ++ a ∷ []) ≡ suc (length xs)
longer-by-one [] a = refl
longer-by-one (x ∷ xs) a = ap suc (longer-by-one xs a)

last-found : {A : Type 0} (xs : List A) (a : A) → slice_get (xs ++ a ∷ []) (length xs) ≡ Some a
last-found [] a = refl
last-found (x ∷ xs) a = last-found xs a

found-either : {A : Type 0} (xs : List A) (a s : A) (k : ℕ) → slice_get (xs ++ a ∷ []) k ≡ Some s → (slice_get xs k ≡ Some s) ⊎ (a ≡ s)
found-either [] a s zero e = inr cc
found-either [] a s (suc k) e = inl e
found-either (x ∷ xs) a s zero e = inl e
found-either (x ∷ xs) a s (suc k) e = found-either xs a s k e

scheme-later : (S T : State) (marks : List Mark) (body : ℕ) → Grows S T → IsScheme S marks body → IsScheme T marks body
scheme-later S T marks body g s = record {
  held = let le = longer (types_in S) (types_in T) g.types in let h = s.held in omega (arith, h, le);
  closed = subst (λ t. is_below (length marks) t ≡ true) (sym (type-stays (types_in S) (types_in T) body g.types s.held)) s.closed;
  inhabited = s.inhabited;
}

pub schemes_later : (S T : State) (C : Context) → Grows S T → AreSchemes S C → AreSchemes T C
schemes_later S T C g h k s e = scheme-later S T s.marks.items s.body g (h k s e)

new-scheme : (S T : State) (y : TyName) (o : Option ℕ) (s : code.Scheme) → BelowIf y.arity (types_in S) o → s.marks.items ≡ any_of y.arity
    → slice_get (types_in T) s.body ≡ Some (constructed y (option_map (type_at (types_in S)) o)) → IsScheme T s.marks.items s.body
new-scheme S T y o s b m h = subst (λ l. IsScheme T l s.body) (sym m) (record {
  held = slice_get_within (types_in T) s.body (constructed y (option_map (type_at (types_in S)) o)) h;
  closed = ap₂ is_below (any-length y.arity) (get_or_from_slice_get (types_in T) s.body (constructed y (option_map (type_at (types_in S)) o)) (var 0) h) ∙ constructed-below (types_in S) y o b;
  inhabited = any-inhabited y.arity;
})

pub one_more : (S T : State) (C D : Context) (y : TyName) (b : ConBind) (o : Option ℕ) (ty r k n : ℕ) (c : Built) (e : Vid × Entry)
    → slice_get (types_in S) ty ≡ Some (con (name y) (variables 0 y.arity)) → BelowIf y.arity (types_in S) o → IsStep S T
    → slice_get (types_in T) r ≡ Some (from_argument (option_map (type_at (types_in S)) o) (type_at (types_in S) ty)) → HasOneMore C y.arity r c D k → c ≡ Declared n y
    → constructing_name b.vid ≡ Some n → e ≡ (b.vid, Constructor k n y) → IsMore S C y b o T D e
one_more S T C D y b o ty r k n c e q be st h m of may is =
    let body : slice_get (types_in T) m.scheme.body ≡ Some (constructed y (option_map (type_at (types_in S)) o)) =
    ap (slice_get (types_in T)) m.of ∙ type_made (types_in S) (types_in T) o y ty r q h in
    record {
      added = record {
        step = st;
        context = (m.rest, begins-more C.schemes.items (m.scheme ∷ []) D.schemes.items m.is);
        counted = ap length m.is ∙ longer-by-one C.schemes.items m.scheme;
        has = record {
          number = n;
          is = is ∙ ap (λ j. (b.vid, Constructor j n y)) m.number;
          may = may;
          code = m.scheme;
          found = ap (λ l. slice_get l (length C.schemes.items)) m.is ∙ last-found C.schemes.items m.scheme;
          marks = m.marks;
          body = body;
          built = m.built ∙ ap Some of;
        };
      };
      schemes = λ a j s f. by a j s body (found-either C.schemes.items m.scheme s j (ap (λ l. slice_get l j) (sym m.is) ∙ f));
    }
  where
    by : AreSchemes S C → (j : ℕ) (s : code.Scheme) → slice_get (types_in T) m.scheme.body ≡ Some (constructed y (option_map (type_at (types_in S)) o))
        → (slice_get C.schemes.items j ≡ Some s) ⊎ (m.scheme ≡ s) → IsScheme T s.marks.items s.body
    by a j s body (inl f) = scheme-later S T s.marks.items s.body st.grows (a j s f)
    by a j s body (inr f) = subst (λ (z : code.Scheme). IsScheme T z.marks.items z.body) f (new-scheme S T y o m.scheme be m.marks body)

-- they stay

has-later : (ts us : List Typ) (ss rs : List code.Scheme) (y : TyName) (k : ℕ) (b : ConBind) (o : Option Typ) (e : Vid × Entry) → Begins ts us → Begins ss rs → HasScheme ts ss y k b o e
    → HasScheme us rs y k b o e
has-later ts us ss rs y k b o e g f h = record {
  number = h.number;
  is = h.is;
  may = h.may;
  code = h.code;
  found = found-later ss rs k h.code f h.found;
  marks = h.marks;
  body = found-later ts us h.code.body (constructed y o) g h.body;
  built = h.built;
}

pub each_later : (ts us : List Typ) (ss rs : List code.Scheme) (y : TyName) {k j : ℕ} {bs : List ConBind} {os : List (Option Typ)} {es : List (Vid × Entry)} → Begins ts us → Begins ss rs
    → EachScheme ts ss y k bs os es j → EachScheme us rs y k bs os es j
each_later ts us ss rs y g f no_scheme = no_scheme
each_later ts us ss rs y g f (a_scheme {k = k} {b = b} {o = o} {e = e} h hs) = a_scheme (has-later ts us ss rs y k b o e g f h) (each_later ts us ss rs y g f hs)

pub all_later : (ts us : List Typ) (ss rs : List code.Scheme) {k i : ℕ} {ys : List TyName} {bs : List DataBind} {oss : List (List (Option Typ))} {es : List (Vid × Entry)} → Begins ts us → Begins ss rs
    → AllSchemes ts ss k ys bs oss es i → AllSchemes us rs k ys bs oss es i
all_later ts us ss rs g f no_schemes = no_schemes
all_later ts us ss rs g f (more_schemes {y = y} h hs) = more_schemes (each_later ts us ss rs y g f h) (all_later ts us ss rs g f hs)

more-on : (C E D : Context) → HasMoreSchemes C E → HasMoreSchemes E D → HasMoreSchemes C D
more-on C E D h g = (g.0 ∙ ap (λ (z : Context). record z { schemes = D.schemes }) h.0, stays-on C.schemes.items E.schemes.items D.schemes.items h.1 g.1)

-- one after the other

each-snoc : (ts : List Typ) (ss : List code.Scheme) (y : TyName) {k j : ℕ} {bs : List ConBind} {os : List (Option Typ)} {es : List (Vid × Entry)} (b : ConBind) (o : Option Typ) (e : Vid × Entry)
    → EachScheme ts ss y k bs os es j → HasScheme ts ss y j b o e → EachScheme ts ss y k (bs ++ b ∷ []) (os ++ o ∷ []) (es ++ e ∷ []) (suc j)
each-snoc ts ss y b o e no_scheme h = a_scheme h no_scheme
each-snoc ts ss y b o e (a_scheme g gs) h = a_scheme g (each-snoc ts ss y b o e gs h)

pub no_more : (S : State) (C : Context) (y : TyName) (es : List (Vid × Entry)) → AreMore S C y [] [] S C es es
no_more S C y es = record {
  step = step_same S;
  context = (refl, whole C.schemes.items);
  schemes = λ a. a;
  entries = [];
  is = sym (append-nil es);
  each = no_scheme;
}

pub more_next : (S M T : State) (C E D : Context) (y : TyName) (bs cs : List ConBind) (ks js : List (Option ℕ)) (old mid new : List (Vid × Entry)) (b : ConBind) (k : Option ℕ) (e : Vid × Entry)
    → AreMore S C y bs ks M E old mid → IsMore M E y b k T D e → IsHeldArgument (length (types_in S)) k → new ≡ mid ++ e ∷ [] → bs ++ b ∷ [] ≡ cs → ks ++ k ∷ [] ≡ js → AreMore S C y cs js T D old new
more_next S M T C E D y bs cs ks js old mid new b k e h g held q p r =
    subst (λ z. AreMore S C y z js T D old new) p (subst (λ z. AreMore S C y (bs ++ b ∷ []) z T D old new) r (record {
      step = step_on S M T h.step g.added.step;
      context = more-on C E D h.context g.added.context;
      schemes = λ a. g.schemes (h.schemes a);
      entries = h.entries ++ e ∷ [];
      is = q ∙ ap (λ l. l ++ e ∷ []) h.is ∙ append_assoc old h.entries (e ∷ []);
      each =
          subst (λ os. EachScheme (types_in T) D.schemes.items y (length C.schemes.items) (bs ++ b ∷ []) os (h.entries ++ e ∷ []) (length D.schemes.items))
          (sym (map-append (option_map (type_at (types_in S))) ks (k ∷ [])))
          (subst (EachScheme (types_in T) D.schemes.items y (length C.schemes.items) (bs ++ b ∷ []) (row_at (types_in S) ks ++ option_map (type_at (types_in S)) k ∷ []) (h.entries ++ e ∷ []))
          (sym g.added.counted)
          (each-snoc (types_in T) D.schemes.items y b (option_map (type_at (types_in S)) k) e
          (each_later (types_in M) (types_in T) E.schemes.items D.schemes.items y g.added.step.grows.types g.added.context.1 h.each)
          (subst (λ o. HasScheme (types_in T) D.schemes.items y (length E.schemes.items) b o e) (same_argument (types_in S) (types_in M) k h.step.grows.types held) g.added.has)));
    }))

all-snoc : (ts : List Typ) (ss : List code.Scheme) {k j i : ℕ} {ys : List TyName} {bs : List DataBind} {oss : List (List (Option Typ))} {es : List (Vid × Entry)} (y : TyName) (b : DataBind)
    (os : List (Option Typ)) (fs : List (Vid × Entry)) → AllSchemes ts ss k ys bs oss es j → EachScheme ts ss y j b.cons os fs i
    → AllSchemes ts ss k (ys ++ y ∷ []) (bs ++ b ∷ []) (oss ++ os ∷ []) (es ++ fs) i
all-snoc ts ss {i = i} y b os fs (no_schemes {k = k}) h = subst (λ l. AllSchemes ts ss k (y ∷ []) (b ∷ []) (os ∷ []) l i) (append-nil fs) (more_schemes h no_schemes)
all-snoc ts ss {i = i} y b os fs (more_schemes {k = k} {y = x} {b = c} {os = ps} {es = es} {ys = ys} {bs = bs} {oss = oss} {fs = gs} g gs') h =
    subst (λ l. AllSchemes ts ss k (x ∷ (ys ++ y ∷ [])) (c ∷ (bs ++ b ∷ [])) (ps ∷ (oss ++ os ∷ [])) l i) (sym (append_assoc es gs fs)) (more_schemes g (all-snoc ts ss y b os fs gs' h))

pub no_datatypes_more : (S : State) (C : Context) (es : List (Vid × Entry)) → es ≡ [] → AreAllMore S C [] [] [] S C es
no_datatypes_more S C es e = subst (AreAllMore S C [] [] [] S C) (sym e) (record { step = step_same S; context = (refl, whole C.schemes.items); schemes = λ a. a; all = no_schemes })

pub all_more_next : (S M T : State) (C E D : Context) (ys zs : List TyName) (bs cs : List DataBind) (kss jss : List (List (Option ℕ))) (es fs : List (Vid × Entry)) (y : TyName) (b : DataBind)
    (ks : List (Option ℕ)) → AreAllMore S C ys bs kss M E es → AreMore M E y b.cons ks T D es fs → RowHeld (length (types_in S)) ks → ys ++ y ∷ [] ≡ zs → bs ++ b ∷ [] ≡ cs → kss ++ ks ∷ [] ≡ jss
    → AreAllMore S C zs cs jss T D fs
all_more_next S M T C E D ys zs bs cs kss jss es fs y b ks h g held o p q =
    subst (λ z. AreAllMore S C z cs jss T D fs) o (subst (λ z. AreAllMore S C (ys ++ y ∷ []) z jss T D fs) p (subst (λ z. AreAllMore S C (ys ++ y ∷ []) (bs ++ b ∷ []) z T D fs) q (record {
      step = step_on S M T h.step g.step;
      context = more-on C E D h.context g.context;
      schemes = λ a. g.schemes (h.schemes a);
      all =
          subst (λ l. AllSchemes (types_in T) D.schemes.items (length C.schemes.items) (ys ++ y ∷ []) (bs ++ b ∷ []) (rows_at (types_in S) (kss ++ ks ∷ [])) l (length D.schemes.items)) (sym g.is)
          (subst (λ oss. AllSchemes (types_in T) D.schemes.items (length C.schemes.items) (ys ++ y ∷ []) (bs ++ b ∷ []) oss (es ++ g.entries) (length D.schemes.items))
          (sym (map-append (row_at (types_in S)) kss (ks ∷ [])))
          (all-snoc (types_in T) D.schemes.items y b (row_at (types_in S) ks) g.entries
          (all_later (types_in M) (types_in T) E.schemes.items D.schemes.items g.step.grows.types g.context.1 h.all)
          (subst (λ os. EachScheme (types_in T) D.schemes.items y (length E.schemes.items) b.cons os g.entries (length D.schemes.items)) (same_row (types_in S) (types_in M) ks h.step.grows.types held)
          g.each)));
    })))
