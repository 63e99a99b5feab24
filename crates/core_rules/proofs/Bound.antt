-- What has a typing has every identifier bound.
use Rattle.std.proofs.Common.{◌≡◌, ℕ, zero, suc, Bool, true, false, List, [], ◌∷◌, ◌++◌, map, flat_map, length, Option, Some, None, nat_eq, refl, sym, ap, ◌∙◌, subst, arith}
use Rattle.std.specs.Prelude.{is_some, if◌then◌else◌, option_map, option_and_then, unwrap_or}
use Rattle.std.specs.Option.{option_or}
use Rattle.mlc_runs.specs.Run.{World, gives, or_fail}
use Rattle.ty_basis.specs.of_ty_core.Types.{Typ, Typs}
use Rattle.ty_basis.specs.of_ty_core.Statics.{apply}
use Rattle.ty_basis.specs.of_ty_core.declared.name.TyName.{TyName}
use Rattle.ty_basis.specs.of_ty_core.declared.env.Status.{Status}
use Rattle.ty_basis.specs.of_ty_core.declared.env.Status.TheVariants.{Variable, Constructor, Exception, Primitive}
use Rattle.sml_tree.specs.Terminal as term
use Rattle.sml_tree.specs.declared.ident.Tyvar.{Tyvar}
use Rattle.sml_tree.specs.declared.ident.Vid.{Vid}
use Rattle.sml_tree.specs.BareTree as bare
use Rattle.sml_tree.specs.BareTree.{Ty, Tys, TyFields, Pat, PatFields, Exp, ExpFields, Rules, Binds, no_binds, bind, fn, Dec, Decs, TypeBind, ConBind, DataBind, ExBind, new_exn, same_exn, LongIdAt}
use Rattle.sml_tree.specs.Phrases.{Phrase, exp, pat, ty, dec, rule, type_bind, data_bind, con_bind, ex_bind, some_ty, ty_list, ty_field_list, pat_field_list, exp_field_list, rule_list, bind_list, pat_parts, ty_parts}
use Rattle.sml_tree.specs.Phrases as phrase
use Rattle.ty_basis.specs.Types.{Row, unit_type}
use Rattle.core_rules.specs.Words.{same_vid}
use Rattle.core_rules.specs.Objects as static
use Rattle.core_rules.specs.Objects.{Context, TypeStructure, values, structures}
use Rattle.core_rules.specs.Choices.{Choices}
use Rattle.core_rules.specs.Values.{Value, Env, Found, value_in, tycon_in, structure_in, plus, along, nothing, long_value_in, value, unit_value}
use Rattle.core_rules.specs.Match.{bound_to, is_variable}
use Rattle.core_rules.specs.Eval.{apply as calls, each_bound, all_fns, long_tycon_in, long_structure_in, opened}
use Rattle.core_rules.specs.Meaning.{begin}
use Rattle.core_rules.specs.Elaborated as elaborated
use Rattle.core_rules.specs.Elaborated.{type_of, types_of, row_of, types_bound, constructors_of, structures_of, names_of, bare_structures, new_names, exceptions_of, if_exception, is_exception, behind_of, replicated}
use Rattle.core_rules.specs.Typing
use Rattle.core_rules.specs.Typing.{Bound, PatHas, PatsHave, HasType, HaveTypes, RulesHave, BindsHave, DecHas, DecsHave, put_bound, together, closed, marks_of, scoped_in, is_matched, is_matched_in, Annotated}
use Rattle.core_rules.specs.Fits.{static_status, dynamic_status, BothFit, Fits, Giving}
use Rattle.core_rules.specs.Unbound.{Unbound, value_at, tycon_at, structure_at, unless_bound, unless_alone, alone_names, pat_names, fields_names, binds_names, rec_names, exns_names, tycons_names, decs_names, dec_names, Scoped, all_in, decs_in, parts_in, with_parts, unbound_to}
use Rattle.core_rules.specs.Laws.{UnboundHaveNoTyping}
use Rattle.core_rules.proofs.Basics.{units-may-stand}
use Rattle.core_rules.proofs.Fitting.{not-none, not-false, some-is, fits-plus, values-fit, nothing-fits, nested}
use Rattle.core_rules.proofs.FittingDecs.{BindsThese, bound_status, binds-nothing, binds-one, binds-both, bound-append, put-status, closed-same, Zipped, zipped, ExnsAre, exns-add, Adds, each-adds, flat-fits, entry-fits, no-constructors, general-marks, dec-giving}

-- Nothing is unbound in a phrase, and in each of some

abbrev AllBound : Env → Phrase → Type 0
AllBound d x = (k : ℕ) → unbound_to k d x ≡ []

abbrev Each : List Scoped → Type 0
Each [] = Unit {0}
Each (s ∷ ss) = AllBound s.scope s.phrase × Each ss

each-both : (ss ts : List Scoped) → Each ss → Each ts → Each (ss ++ ts)
each-both [] ts h k = k
each-both (s ∷ ss) ts h k = (h.0, each-both ss ts h.1 k)

each-none : (ss : List Scoped) → Each ss → (k : ℕ) → flat_map (λ s. unbound_to k s.scope s.phrase) ss ≡ []
each-none [] h k = refl
each-none (s ∷ ss) h k = ap (λ o. o ++ flat_map (λ s. unbound_to k s.scope s.phrase) ss) (h.0 k) ∙ each-none ss h.1 k

by-parts : (d : Env) (x : Phrase) → Each (parts_in d x) → ((inner : List Unbound) → inner ≡ [] → with_parts d x inner ≡ []) → AllBound d x
by-parts d x h own zero = refl
by-parts d x h own (suc k) = own (flat_map (λ s. unbound_to k s.scope s.phrase) (parts_in d x)) (each-none (parts_in d x) h k)

-- with what the phrase itself has unbound behind its parts, or before them
behind-none : (us inner : List Unbound) → us ≡ [] → inner ≡ [] → inner ++ us ≡ []
behind-none us inner e h = ap (λ i. i ++ us) h ∙ e

before-none : (us inner : List Unbound) → us ≡ [] → inner ≡ [] → us ++ inner ≡ []
before-none us inner e h = ap (λ u. u ++ inner) e ∙ h

-- What a look-up finds

there : {A : Type 0} (o : Option A) (u : Unbound) → is_some o ≡ true → unless_bound o u ≡ []
there (Some a) u h = refl
there None u h = not-false (sym h)

value-there : (c : Context) {d : Env} → Fits c.env d → (x : term.LongVid) (w : static.Value) (u : Unbound) → static.long_value_in c.env x ≡ Some w → unless_bound (long_value_in d x) u ≡ []
value-there c {d} f x w u e = there (long_value_in d x) u (by (long_value_in d x) (sym (f.values x.qualifiers x.vid) ∙ ap static_status e))
  where
    by : (o : Option Found) → dynamic_status o ≡ Some w.status → is_some o ≡ true
    by None h = not-none h
    by (Some g) h = refl

fit-there : (s : TypeStructure) (o : Option Env) → BothFit (Some s) o → is_some o ≡ true
fit-there s (Some t) h = refl
fit-there s None h = absurd h

tycon-there : {e : static.Env} {d : Env} → Fits e d → (qs : List ℕ) (x : ℕ) (s : TypeStructure) → elaborated.type_in e qs x ≡ Some s → is_some (option_and_then (λ d. tycon_in d x) (along d qs)) ≡ true
tycon-there {e} {d} f qs x s h = fit-there s _ (subst (λ o. BothFit o (option_and_then (λ d. tycon_in d x) (along d qs))) h (f.types qs x))

-- what goes on from an option that is there
record Given {A B : Type 0} (o : Option A) (go : A → Option B) (b : B) : Type 0 where
  first : A
  is : o ≡ Some first
  then_ : go first ≡ Some b

given : {A B : Type 0} (o : Option A) (go : A → Option B) (b : B) → option_and_then go o ≡ Some b → Given o go b
given (Some a) go b e = record { first = a; is = refl; then_ = e }
given None go b e = not-none e

record Mapped {A : Type 0} (o : Option A) : Type 0 where
  first : A
  is : o ≡ Some first

mapped : {A B : Type 0} (o : Option A) (go : A → B) (b : B) → option_map go o ≡ Some b → Mapped o
mapped (Some a) go b e = record { first = a; is = refl }
mapped None go b e = not-none e

-- Types

mutual
  ty-bound : (c : Context) (d : Env) (t : Ty) (u : Typ) → Fits c.env d → type_of c t ≡ Some u → AllBound d (ty t)
  ty-bound c d (bare.var p a) u f e = by-parts d (ty (bare.var p a)) tt (λ i h. behind-none [] i refl h)
  ty-bound c d (bare.fields p fs) u f e = let x : Mapped (row_of c fs) = mapped (row_of c fs) _ u e in by-parts d (ty (bare.fields p fs)) (ty-fields-bound c d fs x.first f x.is) (λ i h. behind-none [] i refl h)
  ty-bound c d (bare.con p ts q x) u f e =
      let g : Given (types_of c ts) (λ us. option_and_then (λ s. apply s.function us) (elaborated.type_in c.env x.qualifiers x.id)) u = given (types_of c ts) _ u e in
      let s : Given (elaborated.type_in c.env x.qualifiers x.id) (λ s. apply s.function g.first) u = given (elaborated.type_in c.env x.qualifiers x.id) _ u g.then_ in
      by-parts d (ty (bare.con p ts q x)) (tys-bound c d ts g.first f g.is) (λ i h. behind-none _ i (there _ (tycon_at q x) (tycon-there f x.qualifiers x.id s.first s.is)) h)
  ty-bound c d (bare.arrow p t u) w f e =
      let z : Zipped (type_of c t) (type_of c u) _ w = zipped (type_of c t) (type_of c u) _ w e in
      by-parts d (ty (bare.arrow p t u)) (ty-bound c d t z.one f z.left, (ty-bound c d u z.other f z.right, tt)) (λ i h. behind-none [] i refl h)
  ty-bound c d (bare.ill p) u f e = not-none e

  tys-bound : (c : Context) (d : Env) (ts : Tys) (us : Typs) → Fits c.env d → types_of c ts ≡ Some us → Each (all_in d (ty_list ts))
  tys-bound c d bare.no_tys us f e = tt
  tys-bound c d (bare.ty t ts) us f e = let z : Zipped (type_of c t) (types_of c ts) _ us = zipped (type_of c t) (types_of c ts) _ us e in (ty-bound c d t z.one f z.left, tys-bound c d ts z.other f z.right)

  ty-fields-bound : (c : Context) (d : Env) (fs : TyFields) (r : Row) → Fits c.env d → row_of c fs ≡ Some r → Each (all_in d (ty_field_list fs))
  ty-fields-bound c d bare.no_ty_fields r f e = tt
  ty-fields-bound c d (bare.ty_field l t fs) r f e = let z : Zipped (type_of c t) (row_of c fs) _ r = zipped (type_of c t) (row_of c fs) _ r e in (ty-bound c d t z.one f z.left, ty-fields-bound c d fs z.other f z.right)

annotated-bound : (m : ℕ → Bool) (c : Context) (d : Env) (o : Option Ty) (t : Typ) → Fits c.env d → Annotated m c o t → Each (all_in d (some_ty o))
annotated-bound m c d None t f h = tt
annotated-bound m c d (Some a) t f h = (ty-bound c d a t f h, tt)

behind-bound : (c : Context) (d : Env) (o : Option Ty) (r : Option Typ) → Fits c.env d → behind_of c o ≡ Some r → Each (all_in d (some_ty o))
behind-bound c d None r f e = tt
behind-bound c d (Some a) r f e = let x : Mapped (type_of c a) = mapped (type_of c a) Some r e in (ty-bound c d a x.first f x.is, tt)

-- What patterns bind, and what is in them

variable-names : (o : Option static.Value) (p : Option Found) (x : Vid) (t : Typ) → static_status o ≡ dynamic_status p → is_matched_in o ≡ false → BindsThese ((x, t) ∷ []) (alone_names p x)
variable-names o None x t h m = binds-one x t unit_value
variable-names None (Some f) x t h m = not-none h
variable-names (Some w) (Some f) x t h m = by f.status (subst (λ s. is_matched s ≡ false) (some-is h) m)
  where
    by : (s : Status) → is_matched s ≡ false → BindsThese ((x, t) ∷ []) (if is_variable s then bound_to x unit_value else nothing)
    by Variable m = binds-one x t unit_value
    by Constructor m = not-false m
    by Exception m = not-false m
    by (Primitive n) m = binds-one x t unit_value

constructor-names : (o : Option static.Value) (p : Option Found) (w : static.Value) (x : Vid) → static_status o ≡ dynamic_status p → o ≡ Some w → is_matched w.status ≡ true → BindsThese [] (alone_names p x)
constructor-names o None w x h e m = not-none (sym h ∙ ap static_status e)
constructor-names o (Some f) w x h e m = by f.status (subst (λ s. is_matched s ≡ true) (some-is (sym (ap static_status e) ∙ h)) m)
  where
    by : (s : Status) → is_matched s ≡ true → BindsThese [] (if is_variable s then bound_to x unit_value else nothing)
    by Variable m = not-false (sym m)
    by Constructor m = binds-nothing
    by Exception m = binds-nothing
    by (Primitive n) m = not-false (sym m)

alone-none : (qs : List ℕ) (us : List Unbound) → us ≡ [] → unless_alone qs us ≡ []
alone-none [] us h = refl
alone-none (q ∷ qs) us h = h

all-append : (d : Env) (xs ys : List Phrase) → all_in d (xs ++ ys) ≡ all_in d xs ++ all_in d ys
all-append d [] ys = refl
all-append d (x ∷ xs) ys = ap (λ ss. record { scope = d; phrase = x } ∷ ss) (all-append d xs ys)

module _ (m : ℕ → Bool) (c : Context) (d : Env) (f : Fits c.env d) where
  mutual
    pat-names : {a : Pat} {t : Typ} {vs : Bound} {k : Choices} → PatHas m c a t vs k → BindsThese vs (pat_names d a)
    pat-names (Typing.wild_has p o) = binds-nothing
    pat-names (Typing.constant_has p k) = binds-nothing
    pat-names (Typing.variable_has p {x = x} {t = t} n kept o) = variable-names (static.value_in c.env x) (value_in d x) x t (f.values [] x) n
    pat-names (Typing.constructor_has p {x = x} {v = w} e n i) = constructor-names (static.long_value_in c.env x) (long_value_in d x) w x.vid (f.values x.qualifiers x.vid) e n
    pat-names (Typing.built_has p i) = binds-nothing
    pat-names (Typing.fields_has p h e) = pats-names h
    pat-names (Typing.open_has p others h e e' o) = pats-names h
    pat-names (Typing.con_has p q e n i h) = pat-names h
    pat-names (Typing.built_con_has p i h) = pat-names h
    pat-names (Typing.typed_has p h e) = pat-names h
    pat-names (Typing.as_has p {x = x} {a = a} {t = t} n kept e h) = binds-both (bound_to x unit_value) (pat_names d a) (binds-one x t unit_value) (pat-names h)

    pats-names : {fs : PatFields} {r : Row} {vs : Bound} {k : Choices} → PatsHave m c fs r vs k → BindsThese vs (fields_names d fs)
    pats-names Typing.no_field_has = binds-nothing
    pats-names (Typing.field_has l {a = a} {fs = fs} h k) = binds-both (pat_names d a) (fields_names d fs) (pat-names h) (pats-names k)

  mutual
    pat-bound : {a : Pat} {t : Typ} {vs : Bound} {k : Choices} → PatHas m c a t vs k → AllBound d (pat a)
    pat-bound {a} (Typing.wild_has p o) = by-parts d (pat a) tt (λ i h. h)
    pat-bound {a} (Typing.constant_has p k) = by-parts d (pat a) tt (λ i h. h)
    pat-bound {a} (Typing.variable_has p n kept o) = by-parts d (pat a) tt (λ i h. h)
    pat-bound {a} (Typing.constructor_has p {x = x} {v = w} e n i) = by-parts d (pat a) tt (λ i h. before-none _ i (alone-none x.qualifiers _ (value-there c f x w (value_at p x) e)) h)
    pat-bound {a} (Typing.built_has p i) = by-parts d (pat a) tt (λ i h. h)
    pat-bound {a} (Typing.fields_has p h e) = by-parts d (pat a) (pats-bound h) (λ i h. h)
    pat-bound {a} (Typing.open_has p others h e e' o) = by-parts d (pat a) (pats-bound h) (λ i h. h)
    pat-bound {a} (Typing.con_has p q {x = x} {v = w} e n i h) = by-parts d (pat a) (pat-bound h, tt) (λ i h. before-none _ i (value-there c f x w (value_at q x) e) h)
    pat-bound {a} (Typing.built_con_has p i h) = by-parts d (pat a) (pat-bound h, tt) (λ i h. h)
    pat-bound {a} (Typing.typed_has p {ty = u} {t = t} h e) = by-parts d (pat a) (pat-bound h, (ty-bound c d u t f e, tt)) (λ i h. h)
    pat-bound {a} (Typing.as_has p {ty = u} {a = b} {t = t} n kept e h) =
        by-parts d (pat a) (subst Each (sym (all-append d (some_ty u) (pat b ∷ []))) (each-both (all_in d (some_ty u)) (all_in d (pat b ∷ [])) (annotated-bound m c d u t f e) (pat-bound h, tt))) (λ i h. h)

    pats-bound : {fs : PatFields} {r : Row} {vs : Bound} {k : Choices} → PatsHave m c fs r vs k → Each (all_in d (pat_field_list fs))
    pats-bound Typing.no_field_has = tt
    pats-bound (Typing.field_has l h k) = (pat-bound h, pats-bound k)

-- Bindings

bound-fits : (vs : Bound) (d : Env) → BindsThese vs d → Fits (static.values_env (map (λ b. (b.0, record { scheme = static.monomorphic b.1; status = Variable })) vs)) d
bound-fits vs d h = values-fit (values (closed [] vs)) d (closed-same [] vs d h) h.only

put-binds : (n : ℕ) (r : ℕ → Typ) (vs : Bound) (d : Env) → BindsThese vs d → BindsThese (put_bound n r vs) d
put-binds n r vs d h = record { same = λ x. put-status n r vs x ∙ h.same x; only = h.only }

unput-binds : (n : ℕ) (r : ℕ → Typ) (v vs : Bound) (d : Env) → v ≡ put_bound n r vs → BindsThese v d → BindsThese vs d
unput-binds n r v vs d e h = record { same = λ x. sym (put-status n r vs x) ∙ ap (λ b. bound_status b x) (sym e) ∙ h.same x; only = h.only }

binds-names : (m : ℕ → Bool) {c : Context} (d : Env) {n : ℕ} {r : ℕ → Typ} {bs : Binds} {vs : List Bound} {k : Choices} → Fits c.env d → BindsHave m c n r bs vs k → BindsThese (together vs) (binds_names d bs)
binds-names m d f Typing.no_bind_has = binds-nothing
binds-names m {c} d {n} {r} f (Typing.bind_has p {a = a} {bs = bs} {v = v} {vs = vs} ph e hh x bh) =
    binds-both (pat_names d a) (binds_names d bs) (unput-binds n r v vs (pat_names d a) e (pat-names m c d f ph)) (binds-names m d f bh)

rec-names : (m : ℕ → Bool) (c : Context) {n : ℕ} {r : ℕ → Typ} (rs : Binds) {us : List Bound} {k : Choices} → all_fns rs ≡ true → BindsHave m c n r rs us k → BindsThese (together us) (rec_names rs)
rec-names m c no_binds h Typing.no_bind_has = binds-nothing
rec-names m c {n} {r} (bind p a (fn q rl) bs) h (Typing.bind_has p' {v = v} {vs = vs} {us = us} ph e' (Typing.fn_has q' rh) x bh) =
    let rest : BindsThese (together us) (rec_names bs) = rec-names m c bs h bh in
    let one : Adds v (rec_names bs) (each_bound a unit_value (rec_names bs)) = each-adds m c ph tt unit_value (rec_names bs) in
    record {
      same = λ x. bound-append vs (together us) x ∙ swap (static.at same_vid (together us) x) (static.at same_vid vs x)
          ∙ ap (λ o. option_or o (bound_status (together us) x)) (sym (put-status n r vs x) ∙ ap (λ b. bound_status b x) (sym e')) ∙ ap (option_or (bound_status v x)) (rest.same x) ∙ sym (one.same x);
      only = record { tycons = λ x. one.tycons x ∙ rest.only.tycons x; structures = λ x. one.structures x ∙ rest.only.structures x };
    }
  where
    swap : (o p : Option Typ) → option_or (option_map (λ t. Variable) o) (option_map (λ t. Variable) p) ≡ option_or (option_map (λ t. Variable) p) (option_map (λ t. Variable) o)
    swap None None = refl
    swap None (Some t) = refl
    swap (Some t) None = refl
    swap (Some t) (Some u) = refl
rec-names m c (bind p a b bs) h k = not-false (sym h)

-- Declarations without expressions

type-binds-bound : (c : Context) (d : Env) (bs : List TypeBind) (ts : static.Map ℕ TypeStructure) → Fits c.env d → types_bound c bs ≡ Some ts → Each (all_in d (map type_bind bs))
type-binds-bound c d [] ts f e = tt
type-binds-bound c d (b ∷ bs) ts f e =
    let z : Zipped (type_of (elaborated.with_parameters c b.tyvars) b.ty) (types_bound c bs) _ ts = zipped (type_of (elaborated.with_parameters c b.tyvars) b.ty) (types_bound c bs) _ ts e in
    (by-parts d (type_bind b) (ty-bound (elaborated.with_parameters c b.tyvars) d b.ty z.one f z.left, tt) (λ i h. behind-none [] i refl h), type-binds-bound c d bs z.other f z.right)

cons-bound : (c : Context) (d : Env) (as_ : List Tyvar) (n : TyName) (cs : List ConBind) (vs : static.Values) → Fits c.env d → constructors_of c as_ n cs ≡ Some vs → Each (all_in d (map con_bind cs))
cons-bound c d as_ n [] vs f e = tt
cons-bound c d as_ n (b ∷ cs) vs f e =
    let z : Zipped (behind_of (elaborated.with_parameters c as_) b.of_ty) (constructors_of c as_ n cs) _ vs = zipped (behind_of (elaborated.with_parameters c as_) b.of_ty) (constructors_of c as_ n cs) _ vs e in
    (by-parts d (con_bind b) (behind-bound (elaborated.with_parameters c as_) d b.of_ty z.one f z.left) (λ i h. behind-none [] i refl h), cons-bound c d as_ n cs z.other f z.right)

abbrev IsZero : ℕ → Type 0
IsZero zero = Unit {0}
IsZero (suc n) = ⊥

data-binds-bound : (c : Context) (d : Env) (k : ℕ) (qs : List Bool) (bs : List DataBind) (ts : static.Map ℕ TypeStructure) → Fits c.env d → length qs ≡ length bs → structures_of c (names_of k qs bs) bs ≡ Some ts → Each (all_in d (map data_bind bs))
data-binds-bound c d k qs [] ts f l e = tt
data-binds-bound c d k [] (b ∷ bs) ts f l e = let bad : IsZero (suc (length bs)) = subst IsZero l tt in absurd bad
data-binds-bound c d k (q ∷ qs) (b ∷ bs) ts f l e =
    let z : Zipped (constructors_of c b.tyvars _ b.cons) (structures_of c (names_of (suc k) qs bs) bs) _ ts = zipped (constructors_of c b.tyvars _ b.cons) (structures_of c (names_of (suc k) qs bs) bs) _ ts e in
    let l' : length qs ≡ length bs = omega (arith, l) in
    (by-parts d (data_bind b) (cons-bound c d b.tyvars _ b.cons z.one f z.left) (λ i h. behind-none [] i refl h), data-binds-bound c d (suc k) qs bs z.other f l' z.right)

-- the type names of a datatype declaration, in its own scope
names-fit : (k : ℕ) (qs : List Bool) (bs : List DataBind) → length qs ≡ length bs → (y : ℕ) → BothFit (static.at nat_eq (bare_structures (names_of k qs bs) bs) y) (tycon_in (tycons_names bs) y)
names-fit k [] [] l y = tt
names-fit k (q ∷ qs) [] l y = tt
names-fit k [] (b ∷ bs) l y = let bad : IsZero (suc (length bs)) = subst IsZero l tt in absurd bad
names-fit k (q ∷ qs) (b ∷ bs) l y =
    let l' : length qs ≡ length bs = omega (arith, l) in
    entry-fits b.tycon _ (bare_structures (names_of (suc k) qs bs) bs) nothing (tycons_names bs) y (no-constructors _) (names-fit (suc k) qs bs l' y)

names-plain : (bs : List DataBind) → ((x : Vid) → value_in (tycons_names bs) x ≡ None) × ((x : ℕ) → structure_in (tycons_names bs) x ≡ None)
names-plain [] = (λ x. refl, λ x. refl)
names-plain (b ∷ bs) = ((names-plain bs).0, (names-plain bs).1)

exception-status : (o : Option static.Value) (v : static.Value) → option_and_then if_exception o ≡ Some v → v.status ≡ Exception
exception-status None v e = not-none e
exception-status (Some w) v e = by w.status refl
  where
    from : is_exception w.status ≡ true → w ≡ v
    from h = some-is (sym (ap (λ b. if b then Some w else None) h) ∙ e)

    none : {A : Type 0} → is_exception w.status ≡ false → A
    none h = not-none (sym (ap (λ b. if b then Some w else None) h) ∙ e)

    by : (s : Status) → w.status ≡ s → v.status ≡ Exception
    by Variable h = none (ap is_exception h)
    by Constructor h = none (ap is_exception h)
    by Exception h = sym (ap (λ w. w.status) (from (ap is_exception h))) ∙ h
    by (Primitive n) h = none (ap is_exception h)

exns-names-are : (c : Context) (bs : List ExBind) (vs : static.Values) → exceptions_of c bs ≡ Some vs → ExnsAre vs (exns_names bs)
exns-names-are c [] vs e = subst (λ vs. ExnsAre vs nothing) (some-is e) (record { same = λ x. refl; only = record { tycons = λ x. refl; structures = λ x. refl } })
exns-names-are c (new_exn p x t ∷ bs) vs e =
    let z : Zipped (behind_of c t) (exceptions_of c bs) (λ r. (x, record { scheme = static.monomorphic (elaborated.exception_type r.0); status = Exception }) ∷ r.1) vs = zipped (behind_of c t) (exceptions_of c bs) _ vs e in
    subst (λ vs. ExnsAre vs (exns_names (new_exn p x t ∷ bs))) z.is (exns-add x _ z.other Exception unit_value (exns_names bs) refl (exns-names-are c bs z.other z.right))
exns-names-are c (same_exn p x q y ∷ bs) vs e =
    let z : Zipped (option_and_then if_exception (static.long_value_in c.env y)) (exceptions_of c bs) (λ r. (x, r.0) ∷ r.1) vs = zipped (option_and_then if_exception (static.long_value_in c.env y)) (exceptions_of c bs) _ vs e in
    subst (λ vs. ExnsAre vs (exns_names (same_exn p x q y ∷ bs))) z.is
    (exns-add x z.one z.other Exception unit_value (exns_names bs) (exception-status (static.long_value_in c.env y) z.one z.left) (exns-names-are c bs z.other z.right))

exns-bound : (c : Context) (d : Env) (bs : List ExBind) (vs : static.Values) → Fits c.env d → exceptions_of c bs ≡ Some vs → Each (all_in d (map ex_bind bs))
exns-bound c d [] vs f e = tt
exns-bound c d (new_exn p x t ∷ bs) vs f e =
    let z : Zipped (behind_of c t) (exceptions_of c bs) _ vs = zipped (behind_of c t) (exceptions_of c bs) _ vs e in
    (by-parts d (ex_bind (new_exn p x t)) (behind-bound c d t z.one f z.left) (λ i h. behind-none [] i refl h), exns-bound c d bs z.other f z.right)
exns-bound c d (same_exn p x q y ∷ bs) vs f e =
    let z : Zipped (option_and_then if_exception (static.long_value_in c.env y)) (exceptions_of c bs) _ vs = zipped (option_and_then if_exception (static.long_value_in c.env y)) (exceptions_of c bs) _ vs e in
    let g : Given (static.long_value_in c.env y) if_exception z.one = given (static.long_value_in c.env y) if_exception z.one z.left in
    (by-parts d (ex_bind (same_exn p x q y)) tt (λ i h. behind-none _ i (value-there c f y g.first (value_at q y) g.is) h), exns-bound c d bs z.other f z.right)

-- structures that are opened are there
structure-there : {e : static.Env} {d : Env} → Fits e d → (qs : List ℕ) (x : ℕ) (s : static.Env) → option_and_then (λ d. static.at nat_eq (structures d) x) (static.along e qs) ≡ Some s → is_some (option_and_then (λ d. structure_in d x) (along d qs)) ≡ true
structure-there {e} {d} f qs x s h = by (static.along e qs) (along d qs) refl refl (f.paths qs) h
  where
    by : (o : Option static.Env) (p : Option Env) → static.along e qs ≡ o → along d qs ≡ p → is_some o ≡ is_some p → option_and_then (λ d. static.at nat_eq (structures d) x) o ≡ Some s → is_some (option_and_then (λ d. structure_in d x) p) ≡ true
    by None p i j k h = not-none h
    by (Some a) None i j k h = not-false k
    by (Some a) (Some b) i j k h = at-end (static.at nat_eq (structures a) x) (structure_in b x) ((nested qs f i j).paths (x ∷ [])) h
      where
        at-end : (o : Option static.Env) (p : Option Env) → is_some (option_and_then Some o) ≡ is_some (option_and_then Some p) → o ≡ Some s → is_some p ≡ true
        at-end None p k h = not-none h
        at-end (Some u) None k h = not-false k
        at-end (Some u) (Some w) k h = refl

opened-bound : {e : static.Env} {d : Env} → Fits e d → (xs : List LongIdAt) (s : static.Env) → elaborated.opened e xs ≡ Some s → flat_map (λ y. unless_bound (long_structure_in d y) (structure_at y.place y.long)) xs ≡ []
opened-bound f [] s h = refl
opened-bound {e} {d} f (x ∷ xs) s h =
    let g : Given (option_and_then (λ d. static.at nat_eq (structures d) x.long.id) (static.along e x.long.qualifiers)) (λ t. option_map (static.plus t) (elaborated.opened e xs)) s = given _ _ s h in
    let r : Mapped (elaborated.opened e xs) = mapped (elaborated.opened e xs) (static.plus g.first) s g.then_ in
    ap (λ us. us ++ flat_map (λ y. unless_bound (long_structure_in d y) (structure_at y.place y.long)) xs) (there (long_structure_in d x) (structure_at x.place x.long) (structure-there f x.long.qualifiers x.long.id g.first g.is))
    ∙ opened-bound f xs r.first r.is

both-some : {A B C : Type 0} (go : A → B → C) (o : Option A) (p : Option B) → is_some o ≡ true → is_some p ≡ true → is_some (option_and_then (λ a. option_map (go a) p) o) ≡ true
both-some go (Some a) (Some b) h k = refl
both-some go None p h k = not-false (sym h)
both-some go (Some a) None h k = not-false (sym k)

opened-there : {e : static.Env} {d : Env} → Fits e d → (xs : List LongIdAt) (s : static.Env) → elaborated.opened e xs ≡ Some s → is_some (opened d xs) ≡ true
opened-there f [] s h = refl
opened-there {e} {d} f (x ∷ xs) s h =
    let g : Given (option_and_then (λ d. static.at nat_eq (structures d) x.long.id) (static.along e x.long.qualifiers)) (λ t. option_map (static.plus t) (elaborated.opened e xs)) s = given _ _ s h in
    let r : Mapped (elaborated.opened e xs) = mapped (elaborated.opened e xs) (static.plus g.first) s g.then_ in
    both-some plus (long_structure_in d x) (opened d xs) (structure-there f x.long.qualifiers x.long.id g.first g.is) (opened-there f xs r.first r.is)

-- what is evaluated from an environment that is there
found-or : (P : Env → Type 0) (o : Option Env) (go : Env → Env) (w : World Value) → Giving P (or_fail o w (λ t. gives (go t) w)) → is_some o ≡ true → P (unwrap_or (option_map go o) nothing)
found-or P (Some t) go w h k = h
found-or P None go w h k = not-false (sym k)

just-or : (P : Env → Type 0) (o : Option Env) (w : World Value) → Giving P (or_fail o w (λ t. gives t w)) → is_some o ≡ true → P (unwrap_or o nothing)
just-or P (Some t) w h k = h
just-or P None w h k = not-false (sym k)

-- Expressions and declarations

module _ (m : ℕ → Bool) where
  mutual
    exp-bound : {c : Context} (d : Env) {b : Exp} {t : Typ} {k : Choices} → Fits c.env d → HasType m c b t k → AllBound d (exp b)
    exp-bound d {b} f (Typing.constant_exp_has p k) = by-parts d (exp b) tt (λ i h. behind-none [] i refl h)
    exp-bound {c} d {b} f (Typing.vid_has p {x = x} {v = w} e i) = by-parts d (exp b) tt (λ i h. behind-none _ i (value-there c f x w (value_at p x) e) h)
    exp-bound d {b} f (Typing.built_exp_has p i) = by-parts d (exp b) tt (λ i h. behind-none [] i refl h)
    exp-bound d {b} f (Typing.record_has p h e) = by-parts d (exp b) (exps-bound d f h) (λ i h. behind-none [] i refl h)
    exp-bound {c} d {b} f (Typing.let_has p {ds = ds} {e = b'} h k o) =
        by-parts d (exp b) (each-both (decs_in d ds) (all_in (plus d (decs_names d ds)) (exp b' ∷ [])) (decs-bound d f h) (exp-bound (plus d (decs_names d ds)) (fits-plus f (decs-names d f h)) k, tt)) (λ i h. behind-none [] i refl h)
    exp-bound d {b} f (Typing.app_has p h k) = by-parts d (exp b) (exp-bound d f h, (exp-bound d f k, tt)) (λ i h. behind-none [] i refl h)
    exp-bound {c} d {b} f (Typing.typed_exp_has p {ty = u} {t = t} h e) = by-parts d (exp b) (exp-bound d f h, (ty-bound c d u t f e, tt)) (λ i h. behind-none [] i refl h)
    exp-bound d {b} f (Typing.handle_has p h k) = by-parts d (exp b) (exp-bound d f h, rules-bound d f k) (λ i h. behind-none [] i refl h)
    exp-bound d {b} f (Typing.raise_has p h o) = by-parts d (exp b) (exp-bound d f h, tt) (λ i h. behind-none [] i refl h)
    exp-bound d {b} f (Typing.fn_has p h) = by-parts d (exp b) (rules-bound d f h) (λ i h. behind-none [] i refl h)

    exps-bound : {c : Context} (d : Env) {fs : ExpFields} {r : Row} {k : Choices} → Fits c.env d → HaveTypes m c fs r k → Each (all_in d (exp_field_list fs))
    exps-bound d f Typing.no_exp_field_has = tt
    exps-bound d f (Typing.exp_field_has l h k) = (exp-bound d f h, exps-bound d f k)

    rules-bound : {c : Context} (d : Env) {rs : Rules} {t u : Typ} {k : Choices} → Fits c.env d → RulesHave m c rs t u k → Each (all_in d (rule_list rs))
    rules-bound d f Typing.no_rule_has = tt
    rules-bound {c} d f (Typing.rule_has p {a = a} {e = b} {vs = vs} h dist k l) =
        (by-parts d (rule p a b) (pat-bound m c d f h, (exp-bound (plus d (pat_names d a)) (fits-plus f (bound-fits vs (pat_names d a) (pat-names m c d f h))) k, tt)) (λ i h. behind-none [] i refl h), rules-bound d f l)

    binds-bound : {c : Context} (d : Env) {n : ℕ} {r : ℕ → Typ} {bs : Binds} {vs : List Bound} {k : Choices} → Fits c.env d → BindsHave m c n r bs vs k → Each (all_in d (bind_list bs))
    binds-bound d f Typing.no_bind_has = tt
    binds-bound {c} d f (Typing.bind_has p {a = a} {e = b} ph e hh x bh) = (by-parts d (phrase.bind p a b) (pat-bound m c d f ph, (exp-bound d f hh, tt)) (λ i h. behind-none [] i refl h), binds-bound d f bh)

    pub decs-names : {c : Context} (d : Env) {ds : Decs} {made : ℕ} {e : static.Env} {k : Choices} → Fits c.env d → DecsHave m c ds made e k → Fits e (decs_names d ds)
    decs-names d f Typing.no_dec_has = nothing-fits
    decs-names d f (Typing.dec_has {d = dc} h k) = fits-plus (dec-names d f h) (decs-names (plus d (dec_names d dc)) (fits-plus f (dec-names d f h)) k)

    pub dec-names : {c : Context} (d : Env) {dc : Dec} {made : ℕ} {e : static.Env} {k : Choices} → Fits c.env d → DecHas m c dc made e k → Fits e (dec_names d dc)
    dec-names {c} d f (Typing.val_has p p' {as_ = as_} {bs = bs} {rs = rs} extra {vs = vs} {us = us} g fns dist plain rec_) =
        let may = units-may-stand m c (marks_of c as_ bs rs extra) (general-marks (scoped_in c as_ bs rs) extra g) in
        let all : BindsThese (together vs ++ together us) (plus (binds_names d bs) (rec_names rs)) =
        binds-both (binds_names d bs) (rec_names rs) (binds-names m d f (plain (λ v. unit_type) may)) (rec-names m _ rs fns (rec_ (λ v. unit_type) may)) in
        values-fit (values (closed (marks_of c as_ bs rs extra) (together vs ++ together us))) (plus (binds_names d bs) (rec_names rs)) (closed-same (marks_of c as_ bs rs extra) (together vs ++ together us) (plus (binds_names d bs) (rec_names rs)) all) all.only
    dec-names {c} d f (Typing.type_has p {bs = bs} e) = dec-giving m (calls 0) {c = c} (Typing.type_has {c = c} p {bs = bs} e) d f (begin 0)
    dec-names {c} d f (Typing.datatype_has p {bs = bs} qs l e r x) = dec-giving m (calls 0) {c = c} (Typing.datatype_has {c = c} p {bs = bs} qs l e r x) d f (begin 0)
    dec-names {c} d f (Typing.replicate_has p {x = x} {y = y} {s = s} e) =
        found-or (Fits _) (long_tycon_in d y) (λ t. Rattle.core_rules.specs.Values.tycon x t t) (begin 0) (dec-giving m (calls 0) {c = c} (Typing.replicate_has {c = c} p {x = x} {y = y} e) d f (begin 0)) (tycon-there f y.long.qualifiers y.long.id s e)
    dec-names {c} d f (Typing.exception_has p {bs = bs} {vs = vs} e) = let h : ExnsAre vs (exns_names bs) = exns-names-are c bs vs e in values-fit vs (exns_names bs) h.same h.only
    dec-names d f (Typing.local_has p {ds = ds} h k) = decs-names (plus d (decs_names d ds)) (fits-plus f (decs-names d f h)) k
    dec-names {c} d f (Typing.open_has p {xs = xs} {d = s} e) = just-or (Fits s) (opened d xs) (begin 0) (dec-giving m (calls 0) {c = c} (Typing.open_has {c = c} p {xs = xs} e) d f (begin 0)) (opened-there f xs s e)
    dec-names d f (Typing.sequence_has p h) = decs-names d f h

    decs-bound : {c : Context} (d : Env) {ds : Decs} {made : ℕ} {e : static.Env} {k : Choices} → Fits c.env d → DecsHave m c ds made e k → Each (decs_in d ds)
    decs-bound d f Typing.no_dec_has = tt
    decs-bound d f (Typing.dec_has {d = dc} h k) = (dec-bound d f h, decs-bound (plus d (dec_names d dc)) (fits-plus f (dec-names d f h)) k)

    dec-bound : {c : Context} (d : Env) {dc : Dec} {made : ℕ} {e : static.Env} {k : Choices} → Fits c.env d → DecHas m c dc made e k → AllBound d (dec dc)
    dec-bound {c} d {dc} f (Typing.val_has p p' {as_ = as_} {bs = bs} {rs = rs} extra {vs = vs} {us = us} g fns dist plain rec_) =
        let marks = marks_of c as_ bs rs extra in
        let may = units-may-stand m c marks (general-marks (scoped_in c as_ bs rs) extra g) in
        let own : BindsThese (put_bound (length marks) (λ v. unit_type) (together us)) (rec_names rs) = put-binds (length marks) (λ v. unit_type) (together us) (rec_names rs) (rec-names m _ rs fns (rec_ (λ v. unit_type) may)) in
        by-parts d (dec dc)
        (each-both (all_in d (bind_list bs)) (all_in (plus d (rec_names rs)) (bind_list rs)) (binds-bound d f (plain (λ v. unit_type) may))
        (binds-bound (plus d (rec_names rs)) (fits-plus f (bound-fits (put_bound (length marks) (λ v. unit_type) (together us)) (rec_names rs) own)) (rec_ (λ v. unit_type) may)))
        (λ i h. behind-none [] i refl h)
    dec-bound {c} d {dc} f (Typing.type_has p {bs = bs} {ts = ts} e) = by-parts d (dec dc) (type-binds-bound c d bs ts f e) (λ i h. behind-none [] i refl h)
    dec-bound {c} d {dc} f (Typing.datatype_has p {bs = bs} {ts = ts} qs l e r x) =
        by-parts d (dec dc)
        (data-binds-bound (static.with_env c (length bs) (static.types_env (bare_structures (new_names c qs bs) bs))) (plus d (tycons_names bs)) c.names qs bs ts
        (fits-plus f (flat-fits [] (bare_structures (new_names c qs bs) bs) (tycons_names bs) (λ x. ap dynamic_status (sym ((names-plain bs).0 x))) (names-fit c.names qs bs l) (names-plain bs).1)) l e)
        (λ i h. behind-none [] i refl h)
    dec-bound d {dc} f (Typing.replicate_has p {x = x} {y = y} {s = s} e) = by-parts d (dec dc) tt (λ i h. behind-none _ i (there (long_tycon_in d y) (tycon_at y.place y.long) (tycon-there f y.long.qualifiers y.long.id s e)) h)
    dec-bound {c} d {dc} f (Typing.exception_has p {bs = bs} {vs = vs} e) = by-parts d (dec dc) (exns-bound c d bs vs f e) (λ i h. behind-none [] i refl h)
    dec-bound d {dc} f (Typing.local_has p {ds = ds} {ds' = ds'} h k) =
        by-parts d (dec dc) (each-both (decs_in d ds) (decs_in (plus d (decs_names d ds)) ds') (decs-bound d f h) (decs-bound (plus d (decs_names d ds)) (fits-plus f (decs-names d f h)) k)) (λ i h. behind-none [] i refl h)
    dec-bound d {dc} f (Typing.open_has p {xs = xs} {d = s} e) = by-parts d (dec dc) tt (λ i h. behind-none _ i (opened-bound f xs s e) h)
    dec-bound d {dc} f (Typing.sequence_has p h) = by-parts d (dec dc) (decs-bound d f h) (λ i h. behind-none [] i refl h)

each-ends : (ss : List Scoped) → Each ss → flat_map (λ s. unbound_to (length (phrase.phrases s.phrase)) s.scope s.phrase) ss ≡ []
each-ends [] h = refl
each-ends (s ∷ ss) h = ap (λ o. o ++ flat_map (λ s. unbound_to (length (phrase.phrases s.phrase)) s.scope s.phrase) ss) (h.0 (length (phrase.phrases s.phrase))) ∙ each-ends ss h.1

pub unbound-have-no-typing : UnboundHaveNoTyping
unbound-have-no-typing m c ds made e k d f h = each-ends (decs_in d ds) (decs-bound m d f h)
