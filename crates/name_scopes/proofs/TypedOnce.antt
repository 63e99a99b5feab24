-- What has a typing binds nothing twice, and nothing that may not be bound.
use Rattle.std.proofs.Common.{◌≡◌, ℕ, zero, suc, Bool, true, false, List, [], ◌∷◌, ◌++◌, map, flat_map, length, Option, Some, None, refl, sym, ap, ap₂, ◌∙◌, subst}
use Rattle.std.specs.Prelude.{◌&&◌, not, if◌then◌else◌, option_map}
use Rattle.std.specs.List.{AllByRecursion, list_all}
use Rattle.std.specs.Option.{option_or}
use Rattle.mlc_base.specs.declared.place.Place.{Place}
use Rattle.ty_basis.specs.Types.{Row, row_type, unit_type}
use Rattle.ty_basis.specs.of_ty_core.Types.{Typ}
use Rattle.ty_basis.specs.of_ty_core.declared.mark.Mark.{Mark}
use Rattle.ty_basis.specs.of_ty_core.declared.env.Status.TheVariants.{Variable}
use Rattle.sml_tree.specs.Terminal as term
use Rattle.sml_tree.specs.BareTree as bare
use Rattle.sml_tree.specs.BareTree.{Binds, ConBind, DataBind, Dec, Decs, ExBind, Exp, ExpFields, Pat, PatFields, Rules, Ty, TyFields, Tys, TypeBind, bind, fn, new_exn, no_binds, same_exn, val_dec}
use Rattle.sml_tree.specs.Phrases as phrase
use Rattle.sml_tree.specs.Phrases.{Phrase, bind_list, con_bind, data_bind, dec, ex_bind, exp, exp_field_list, pat, pat_field_list, rule, rule_list, some_ty, ty, ty_field_list, ty_list, type_bind}
use Rattle.sml_tree.specs.declared.ident.Tyvar.{Tyvar}
use Rattle.sml_tree.specs.declared.ident.Vid.{Vid}
use Rattle.core_rules.specs.Choices.{Choices}
use Rattle.core_rules.specs.Eval.{all_fns, each_bound}
use Rattle.core_rules.specs.Fits.{Fits, dynamic_status, static_status}
use Rattle.core_rules.specs.Laws.{BindsProperly}
use Rattle.core_rules.specs.Match.{bound_to, is_variable}
use Rattle.core_rules.specs.Objects as static
use Rattle.core_rules.specs.Objects.{Context, values}
use Rattle.core_rules.specs.Restrictions.{distinct, is_kept, unless}
use Rattle.core_rules.specs.Typing
use Rattle.core_rules.specs.Typing.{BindsHave, Bound, DecHas, DecsHave, HasType, HaveTypes, PatHas, PatsHave, RulesHave, bound_in, closed, is_matched, is_matched_in, marks_of, put_bound, scoped_in, together}
use Rattle.core_rules.specs.Unbound.{Scoped, all_in, decs_in, decs_names, dec_names, fields_names, parts_in, pat_names, rec_names, tycons_names}
use Rattle.core_rules.specs.Values.{Env, Found, long_value_in, nothing, plus, unit_value, value_in}
use Rattle.core_rules.specs.Words.{same_vid}
use Rattle.core_rules.proofs.Basics.{units-may-stand}
use Rattle.core_rules.proofs.Bound.{dec-names, decs-names}
use Rattle.core_rules.proofs.BoundProperly.{typed-binds-properly}
use Rattle.core_rules.proofs.Fitting.{fits-plus, not-false, not-none, some-is, values-fit}
use Rattle.core_rules.proofs.FittingDecs.{Adds, BindsThese, IsArrow, binds-both, binds-nothing, binds-one, bound-append, bound_status, closed-same, each-adds, general-marks, put-status}
use Rattle.name_scopes.specs.Patterns.{binds_vids, each_vids, fields_vids, pat_vids, rec_vids}
use Rattle.name_scopes.specs.Twice.{alone_kept, binding_places, is_matched as found_matched, own_twice, pat_place, twice_to}
use Rattle.name_scopes.specs.TwiceLaw.{TwiceHasNoTyping}

-- Nothing is bound twice in a phrase, and in each of some

abbrev AllOnce : Env → Phrase → Type 0
AllOnce d x = (k : ℕ) → twice_to k d x ≡ []

abbrev Each : List Scoped → Type 0
Each [] = Unit {0}
Each (s ∷ ss) = AllOnce s.scope s.phrase × Each ss

each-both : (ss ts : List Scoped) → Each ss → Each ts → Each (ss ++ ts)
each-both [] ts h k = k
each-both (s ∷ ss) ts h k = (h.0, each-both ss ts h.1 k)

all-append : (d : Env) (xs ys : List Phrase) → all_in d (xs ++ ys) ≡ all_in d xs ++ all_in d ys
all-append d [] ys = refl
all-append d (x ∷ xs) ys = ap (λ ss. record { scope = d; phrase = x } ∷ ss) (all-append d xs ys)

-- each so many levels deep, which may be its own
each-none : (levels : Scoped → ℕ) (ss : List Scoped) → Each ss → flat_map (λ s. twice_to (levels s) s.scope s.phrase) ss ≡ []
each-none levels [] h = refl
each-none levels (s ∷ ss) h = ap₂ (λ a b. a ++ b) (h.0 (levels s)) (each-none levels ss h.1)

by-parts : (d : Env) (x : Phrase) → Each (parts_in d x) → own_twice d x ≡ [] → AllOnce d x
by-parts d x h own zero = refl
by-parts d x h own (suc k) = ap₂ (λ a b. a ++ b) own (each-none (λ s. k) (parts_in d x) h)

-- Types bind nothing, nor do declarations of types and exceptions

mutual
  ty-once : (d : Env) (t : Ty) → AllOnce d (ty t)
  ty-once d (bare.var p a) = by-parts d (ty (bare.var p a)) tt refl
  ty-once d (bare.fields p fs) = by-parts d (ty (bare.fields p fs)) (ty-fields-once d fs) refl
  ty-once d (bare.con p ts q x) = by-parts d (ty (bare.con p ts q x)) (tys-once d ts) refl
  ty-once d (bare.arrow p t u) = by-parts d (ty (bare.arrow p t u)) (ty-once d t, (ty-once d u, tt)) refl
  ty-once d (bare.ill p) = by-parts d (ty (bare.ill p)) tt refl

  tys-once : (d : Env) (ts : Tys) → Each (all_in d (ty_list ts))
  tys-once d bare.no_tys = tt
  tys-once d (bare.ty t ts) = (ty-once d t, tys-once d ts)

  ty-fields-once : (d : Env) (fs : TyFields) → Each (all_in d (ty_field_list fs))
  ty-fields-once d bare.no_ty_fields = tt
  ty-fields-once d (bare.ty_field l t fs) = (ty-once d t, ty-fields-once d fs)

some-ty-once : (d : Env) (o : Option Ty) → Each (all_in d (some_ty o))
some-ty-once d None = tt
some-ty-once d (Some t) = (ty-once d t, tt)

type-binds-once : (d : Env) (bs : List TypeBind) → Each (all_in d (map type_bind bs))
type-binds-once d [] = tt
type-binds-once d (b ∷ bs) = (by-parts d (type_bind b) (ty-once d b.ty, tt) refl, type-binds-once d bs)

cons-once : (d : Env) (cs : List ConBind) → Each (all_in d (map con_bind cs))
cons-once d [] = tt
cons-once d (b ∷ cs) = (by-parts d (con_bind b) (some-ty-once d b.of_ty) refl, cons-once d cs)

data-binds-once : (d : Env) (bs : List DataBind) → Each (all_in d (map data_bind bs))
data-binds-once d [] = tt
data-binds-once d (b ∷ bs) = (by-parts d (data_bind b) (cons-once d b.cons) refl, data-binds-once d bs)

exns-once : (d : Env) (bs : List ExBind) → Each (all_in d (map ex_bind bs))
exns-once d [] = tt
exns-once d (new_exn p x t ∷ bs) = (by-parts d (ex_bind (new_exn p x t)) (some-ty-once d t) refl, exns-once d bs)
exns-once d (same_exn p x q y ∷ bs) = (by-parts d (ex_bind (same_exn p x q y)) tt refl, exns-once d bs)

-- An identifier that stands alone in a pattern

matched-same : (o : Option static.Value) (p : Option Found) → static_status o ≡ dynamic_status p → is_matched_in o ≡ found_matched p
matched-same None None h = refl
matched-same None (Some f) h = not-none h
matched-same (Some w) None h = not-none (sym h)
matched-same (Some w) (Some f) h = ap is_matched (some-is h)

-- a choice between what binds and what is matched
abbrev alone : {A : Type 0} → A → A → Option Found → A
alone variable other o = elim o [ None ↦ variable | Some f ↦ if is_variable f.status then variable else other ]

alone-binds : {A : Type 0} (variable other : A) (o : Option Found) → found_matched o ≡ false → alone variable other o ≡ variable
alone-binds variable other None h = refl
alone-binds variable other (Some f) h = by (is_variable f.status) h
  where
    by : (b : Bool) → not b ≡ false → (if b then variable else other) ≡ variable
    by true h = refl
    by false h = not-false h

alone-matches : {A : Type 0} (variable other : A) (o : Option Found) → found_matched o ≡ true → alone variable other o ≡ other
alone-matches variable other None h = not-false (sym h)
alone-matches variable other (Some f) h = by (is_variable f.status) h
  where
    by : (b : Bool) → not b ≡ true → (if b then variable else other) ≡ other
    by true h = not-false (sym h)
    by false h = refl

matched-keeps : (qs : List ℕ) (matched kept : Bool) (p : Place) → matched ≡ true → alone_kept qs matched kept p ≡ []
matched-keeps [] matched kept p h = ap (λ b. alone_kept [] b kept p) h
matched-keeps (q ∷ qs) matched kept p h = refl

-- What patterns bind

bound-in-append : (vs us : Bound) → bound_in (vs ++ us) ≡ bound_in vs ++ bound_in us
bound-in-append [] us = refl
bound-in-append (b ∷ vs) us = ap (λ xs. b.0 ∷ xs) (bound-in-append vs us)

module _ (m : ℕ → Bool) (c : Context) (d : Env) (f : Fits c.env d) where
  binds : (x : Vid) → is_matched_in (static.value_in c.env x) ≡ false → found_matched (value_in d x) ≡ false
  binds x n = sym (matched-same (static.value_in c.env x) (value_in d x) (f.values [] x)) ∙ n

  matches : (x : term.LongVid) {w : static.Value} → static.long_value_in c.env x ≡ Some w → is_matched w.status ≡ true → found_matched (long_value_in d x) ≡ true
  matches x e n = sym (matched-same (static.long_value_in c.env x) (long_value_in d x) (f.values x.qualifiers x.vid)) ∙ ap is_matched_in e ∙ n

  mutual
    pat-names : {a : Pat} {t : Typ} {vs : Bound} {k : Choices} → PatHas m c a t vs k → BindsThese vs (pat_names d a)
    pat-names (Typing.wild_has p o) = binds-nothing
    pat-names (Typing.constant_has p k) = binds-nothing
    pat-names (Typing.variable_has p {x = x} {t = t} n kept o) =
        subst (BindsThese ((x, t) ∷ [])) (sym (alone-binds (bound_to x unit_value) nothing (value_in d x) (binds x n))) (binds-one x t unit_value)
    pat-names (Typing.constructor_has p {x = x} e n i) =
        subst (BindsThese []) (sym (alone-matches (bound_to x.vid unit_value) nothing (long_value_in d x) (matches x e n))) binds-nothing
    pat-names (Typing.built_has p i) = binds-nothing
    pat-names (Typing.fields_has p h e) = pats-names h
    pat-names (Typing.open_has p others h e e' o) = pats-names h
    pat-names (Typing.con_has p q e n i h) = pat-names h
    pat-names (Typing.built_con_has p i h) = pat-names h
    pat-names (Typing.typed_has p h e) = pat-names h
    pat-names (Typing.as_has p {x = x} {a = a} {t = t} n kept e h) = binds-both (bound_to x unit_value) (pat_names d a) (binds-one x t unit_value) (pat-names h)

    pats-names : {fs : PatFields} {r : Row} {vs : Bound} {k : Choices} → PatsHave m c fs r vs k → BindsThese vs (fields_names d fs)
    pats-names Typing.no_field_has = binds-nothing
    pats-names (Typing.field_has l {a = a} {fs = fs} h k) = binds-both (pat_names d a) (fields_names d fs) (pat-names h) (pats-names k)

  mutual
    pat-vids : {a : Pat} {t : Typ} {vs : Bound} {k : Choices} → PatHas m c a t vs k → bound_in vs ≡ pat_vids d a
    pat-vids (Typing.wild_has p o) = refl
    pat-vids (Typing.constant_has p k) = refl
    pat-vids (Typing.variable_has p {x = x} n kept o) = sym (alone-binds (x ∷ []) [] (value_in d x) (binds x n))
    pat-vids (Typing.constructor_has p {x = x} e n i) = sym (alone-matches (x.vid ∷ []) [] (long_value_in d x) (matches x e n))
    pat-vids (Typing.built_has p i) = refl
    pat-vids (Typing.fields_has p h e) = pats-vids h
    pat-vids (Typing.open_has p others h e e' o) = pats-vids h
    pat-vids (Typing.con_has p q e n i h) = pat-vids h
    pat-vids (Typing.built_con_has p i h) = pat-vids h
    pat-vids (Typing.typed_has p h e) = pat-vids h
    pat-vids (Typing.as_has p {x = x} n kept e h) = ap (λ xs. x ∷ xs) (pat-vids h)

    pats-vids : {fs : PatFields} {r : Row} {vs : Bound} {k : Choices} → PatsHave m c fs r vs k → bound_in vs ≡ fields_vids d fs
    pats-vids Typing.no_field_has = refl
    pats-vids (Typing.field_has l {vs = vs} {us = us} h k) = bound-in-append vs us ∙ ap₂ (λ a b. a ++ b) (pat-vids h) (pats-vids k)

  mutual
    pat-once : {a : Pat} {t : Typ} {vs : Bound} {k : Choices} → PatHas m c a t vs k → AllOnce d (pat a)
    pat-once {a} (Typing.wild_has p o) = by-parts d (pat a) tt refl
    pat-once {a} (Typing.constant_has p k) = by-parts d (pat a) tt refl
    pat-once {a} (Typing.variable_has p {x = x} n kept o) = by-parts d (pat a) tt (ap₂ (λ b k. alone_kept [] b k p) (binds x n) kept)
    pat-once {a} (Typing.constructor_has p {x = x} e n i) =
        by-parts d (pat a) tt (matched-keeps x.qualifiers (found_matched (long_value_in d x)) (is_kept x.vid) p (matches x e n))
    pat-once {a} (Typing.built_has p i) = by-parts d (pat a) tt refl
    pat-once {a} (Typing.fields_has p h e) = by-parts d (pat a) (pats-once h) refl
    pat-once {a} (Typing.open_has p others h e e' o) = by-parts d (pat a) (pats-once h) refl
    pat-once {a} (Typing.con_has p q e n i h) = by-parts d (pat a) (pat-once h, tt) refl
    pat-once {a} (Typing.built_con_has p i h) = by-parts d (pat a) (pat-once h, tt) refl
    pat-once {a} (Typing.typed_has p {ty = u} h e) = by-parts d (pat a) (pat-once h, (ty-once d u, tt)) refl
    pat-once {a} (Typing.as_has p {x = x} {ty = u} {a = b} n kept e h) =
        by-parts d (pat a) (subst Each (sym (all-append d (some_ty u) (pat b ∷ []))) (each-both (all_in d (some_ty u)) (all_in d (pat b ∷ [])) (some-ty-once d u) (pat-once h, tt)))
        (ap₂ (λ b k. unless (not b && not k) p) (binds x n) kept)

    pats-once : {fs : PatFields} {r : Row} {vs : Bound} {k : Choices} → PatsHave m c fs r vs k → Each (all_in d (pat_field_list fs))
    pats-once Typing.no_field_has = tt
    pats-once (Typing.field_has l h k) = (pat-once h, pats-once k)

-- Bindings

put-vids : (n : ℕ) (r : ℕ → Typ) (vs : Bound) → bound_in (put_bound n r vs) ≡ bound_in vs
put-vids n r [] = refl
put-vids n r (b ∷ vs) = ap (λ xs. b.0 ∷ xs) (put-vids n r vs)

-- what a binding binds, and others behind it
more-vids : (n : ℕ) (r : ℕ → Typ) {v : Bound} (vs us : Bound) {xs ys : List Vid} → v ≡ put_bound n r vs → bound_in v ≡ xs → bound_in us ≡ ys → bound_in (vs ++ us) ≡ xs ++ ys
more-vids n r vs us e h k = bound-in-append vs us ∙ ap₂ (λ a b. a ++ b) (sym (put-vids n r vs) ∙ ap bound_in (sym e) ∙ h) k

binds-vids : (m : ℕ → Bool) {c : Context} (d : Env) {n : ℕ} {r : ℕ → Typ} {bs : Binds} {vs : List Bound} {k : Choices} →
    Fits c.env d → BindsHave m c n r bs vs k → bound_in (together vs) ≡ binds_vids d bs
binds-vids m d f Typing.no_bind_has = refl
binds-vids m {c} d {n} {r} f (Typing.bind_has p {vs = vs} {us = us} ph e h x bh) = more-vids n r vs (together us) e (pat-vids m c d f ph) (binds-vids m d f bh)

constant-no-arrow : (k : term.Constant) → IsArrow (Typing.constant_type k) → ⊥
constant-no-arrow (term.int z) h = h
constant-no-arrow (term.word n) h = h
constant-no-arrow (term.char n) h = h
constant-no-arrow (term.string s) h = h

module _ (m : ℕ → Bool) (c : Context) where
  each-vids : {a : Pat} {t : Typ} {vs : Bound} {k : Choices} → PatHas m c a t vs k → IsArrow t → bound_in vs ≡ each_vids a
  each-vids (Typing.wild_has p o) r = refl
  each-vids (Typing.constant_has p k) r = absurd (constant-no-arrow k r)
  each-vids (Typing.variable_has p n kept o) r = refl
  each-vids (Typing.constructor_has p e n i) r = absurd r
  each-vids (Typing.built_has p i) r = absurd r
  each-vids (Typing.fields_has p {r = row} h e) r = let bad : IsArrow (row_type (static.sorted row)) = subst IsArrow e r in absurd bad
  each-vids (Typing.open_has p {r = row} others h d e o) r = let bad : IsArrow (row_type (static.sorted (row ++ others))) = subst IsArrow e r in absurd bad
  each-vids (Typing.con_has p q e n i h) r = absurd r
  each-vids (Typing.built_con_has p i h) r = absurd r
  each-vids (Typing.typed_has p h e) r = each-vids h r
  each-vids (Typing.as_has p {x = x} n kept e h) r = ap (λ xs. x ∷ xs) (each-vids h r)

  rec-vids : {n : ℕ} {r : ℕ → Typ} (rs : Binds) {us : List Bound} {k : Choices} → all_fns rs ≡ true → BindsHave m c n r rs us k → bound_in (together us) ≡ rec_vids rs
  rec-vids no_binds h Typing.no_bind_has = refl
  rec-vids {n} {r} (bind p a (fn q rl) bs) h (Typing.bind_has p' {vs = vs} {us = us} ph e (Typing.fn_has q' rh) x bh) =
      more-vids n r vs (together us) e (each-vids ph tt) (rec-vids bs h bh)
  rec-vids (bind p a b bs) h k = not-false (sym h)

  rec-names : {n : ℕ} {r : ℕ → Typ} (rs : Binds) {us : List Bound} {k : Choices} → all_fns rs ≡ true → BindsHave m c n r rs us k → BindsThese (together us) (rec_names rs)
  rec-names no_binds h Typing.no_bind_has = binds-nothing
  rec-names {n} {r} (bind p a (fn q rl) bs) h (Typing.bind_has p' {v = v} {vs = vs} {us = us} ph e (Typing.fn_has q' rh) x bh) =
      let rest : BindsThese (together us) (rec_names bs) = rec-names bs h bh in
      let one : Adds v (rec_names bs) (each_bound a unit_value (rec_names bs)) = each-adds m c ph tt unit_value (rec_names bs) in
      record {
        same = λ x. bound-append vs (together us) x ∙ swap (static.at same_vid (together us) x) (static.at same_vid vs x)
            ∙ ap (λ o. option_or o (bound_status (together us) x)) (sym (put-status n r vs x) ∙ ap (λ b. bound_status b x) (sym e))
            ∙ ap (option_or (bound_status v x)) (rest.same x) ∙ sym (one.same x);
        only = record { tycons = λ x. one.tycons x ∙ rest.only.tycons x; structures = λ x. one.structures x ∙ rest.only.structures x };
      }
    where
      swap : (o p : Option Typ) → option_or (option_map (λ t. Variable) o) (option_map (λ t. Variable) p) ≡ option_or (option_map (λ t. Variable) p) (option_map (λ t. Variable) o)
      swap None None = refl
      swap None (Some t) = refl
      swap (Some t) None = refl
      swap (Some t) (Some u) = refl
  rec-names (bind p a b bs) h k = not-false (sym h)

bound-fits : (vs : Bound) (d : Env) → BindsThese vs d → Fits (static.values_env (map (λ b. (b.0, record { scheme = static.monomorphic b.1; status = Variable })) vs)) d
bound-fits vs d h = values-fit (values (closed [] vs)) d (closed-same [] vs d h) h.only

put-binds : (n : ℕ) (r : ℕ → Typ) (vs : Bound) (d : Env) → BindsThese vs d → BindsThese (put_bound n r vs) d
put-binds n r vs d h = record { same = λ x. put-status n r vs x ∙ h.same x; only = h.only }

-- none that are bound is kept
none-kept : (marks : List Mark) (vs us : Bound) → AllByRecursion (λ v. is_kept v.0 ≡ false) (values (closed marks (vs ++ us))) → list_all (λ x. not (is_kept x)) (bound_in us) ≡ true
none-kept marks [] [] h = refl
none-kept marks [] (b ∷ us) h = ap₂ (λ k rest. not k && rest) h.0 (none-kept marks [] us h.1)
none-kept marks (b ∷ vs) us h = none-kept marks vs us h.1

-- what is asked of a declaration's identifiers
abbrev Proper : List Vid → List Vid → Type 0
Proper xs ys = (distinct same_vid (xs ++ ys) && list_all (λ x. not (is_kept x)) ys) ≡ true

proper : (m : ℕ → Bool) {c : Context} (d : Env) {p q : Place} {as_ : List Tyvar} {bs rs : Binds} {made : ℕ} {e : static.Env} {k : Choices} →
    Fits c.env d → DecHas m c (val_dec p q as_ bs rs) made e k → Proper (binds_vids d bs) (rec_vids rs)
proper m {c} d {p} {q} {as_} {bs} {rs} {made} {e} {k} f (Typing.val_has p' q' extra {vs = vs} {us = us} {k = k'} {j = j} g fns dist plain rec_) =
    let marks = marks_of c as_ bs rs extra in
    let may = units-may-stand m c marks (general-marks (scoped_in c as_ bs rs) extra g) in
    let by : BindsProperly rs e = typed-binds-properly m c p q as_ bs rs made e k (Typing.val_has {c = c} p' q' extra g fns dist plain rec_) in
    let xs : bound_in (together vs) ≡ binds_vids d bs = binds-vids m d f (plain (λ v. unit_type) may) in
    let ys : bound_in (together us) ≡ rec_vids rs = rec-vids m _ rs fns (rec_ (λ v. unit_type) may) in
    let all : Proper (bound_in (together vs)) (bound_in (together us)) =
    ap₂ (λ a b. a && b) (ap (distinct same_vid) (sym (bound-in-append (together vs) (together us))) ∙ dist) (none-kept marks (together vs) (together us) by.unkept) in
    subst (λ zs. Proper zs (rec_vids rs)) xs (subst (Proper (bound_in (together vs))) ys all)

-- Expressions and declarations

module _ (m : ℕ → Bool) where
  mutual
    exp-once : {c : Context} (d : Env) {b : Exp} {t : Typ} {k : Choices} → Fits c.env d → HasType m c b t k → AllOnce d (exp b)
    exp-once d {b} f (Typing.constant_exp_has p k) = by-parts d (exp b) tt refl
    exp-once d {b} f (Typing.vid_has p e i) = by-parts d (exp b) tt refl
    exp-once d {b} f (Typing.built_exp_has p i) = by-parts d (exp b) tt refl
    exp-once d {b} f (Typing.record_has p h e) = by-parts d (exp b) (exps-once d f h) refl
    exp-once d {b} f (Typing.let_has p {ds = ds} {e = b'} h k o) =
        by-parts d (exp b) (each-both (decs_in d ds) (all_in (plus d (decs_names d ds)) (exp b' ∷ [])) (decs-once d f h) (exp-once (plus d (decs_names d ds)) (fits-plus f (decs-names m d f h)) k, tt)) refl
    exp-once d {b} f (Typing.app_has p h k) = by-parts d (exp b) (exp-once d f h, (exp-once d f k, tt)) refl
    exp-once d {b} f (Typing.typed_exp_has p {ty = u} h e) = by-parts d (exp b) (exp-once d f h, (ty-once d u, tt)) refl
    exp-once d {b} f (Typing.handle_has p h k) = by-parts d (exp b) (exp-once d f h, rules-once d f k) refl
    exp-once d {b} f (Typing.raise_has p h o) = by-parts d (exp b) (exp-once d f h, tt) refl
    exp-once d {b} f (Typing.fn_has p h) = by-parts d (exp b) (rules-once d f h) refl

    exps-once : {c : Context} (d : Env) {fs : ExpFields} {r : Row} {k : Choices} → Fits c.env d → HaveTypes m c fs r k → Each (all_in d (exp_field_list fs))
    exps-once d f Typing.no_exp_field_has = tt
    exps-once d f (Typing.exp_field_has l h k) = (exp-once d f h, exps-once d f k)

    rules-once : {c : Context} (d : Env) {rs : Rules} {t u : Typ} {k : Choices} → Fits c.env d → RulesHave m c rs t u k → Each (all_in d (rule_list rs))
    rules-once d f Typing.no_rule_has = tt
    rules-once {c} d f (Typing.rule_has p {a = a} {e = b} {vs = vs} h dist k l) = (
      by-parts d (rule p a b) (pat-once m c d f h, (exp-once (plus d (pat_names d a)) (fits-plus f (bound-fits vs (pat_names d a) (pat-names m c d f h))) k, tt))
          (ap (λ b. if b then [] else p ∷ pat_place a ∷ []) (ap (distinct same_vid) (sym (pat-vids m c d f h)) ∙ dist)),
      rules-once d f l,
    )

    binds-once : {c : Context} (d : Env) {n : ℕ} {r : ℕ → Typ} {bs : Binds} {vs : List Bound} {k : Choices} → Fits c.env d → BindsHave m c n r bs vs k → Each (all_in d (bind_list bs))
    binds-once d f Typing.no_bind_has = tt
    binds-once {c} d f (Typing.bind_has p {a = a} {e = b} ph e hh x bh) = (by-parts d (phrase.bind p a b) (pat-once m c d f ph, (exp-once d f hh, tt)) refl, binds-once d f bh)

    decs-once : {c : Context} (d : Env) {ds : Decs} {made : ℕ} {e : static.Env} {k : Choices} → Fits c.env d → DecsHave m c ds made e k → Each (decs_in d ds)
    decs-once d f Typing.no_dec_has = tt
    decs-once d f (Typing.dec_has {d = dc} h k) = (dec-once d f h, decs-once (plus d (dec_names d dc)) (fits-plus f (dec-names m d f h)) k)

    dec-once : {c : Context} (d : Env) {dc : Dec} {made : ℕ} {e : static.Env} {k : Choices} → Fits c.env d → DecHas m c dc made e k → AllOnce d (dec dc)
    dec-once {c} d {dc} f (Typing.val_has p p' {as_ = as_} {bs = bs} {rs = rs} extra {vs = vs} {us = us} g fns dist plain rec_) =
        let marks = marks_of c as_ bs rs extra in
        let may = units-may-stand m c marks (general-marks (scoped_in c as_ bs rs) extra g) in
        let own : BindsThese (put_bound (length marks) (λ v. unit_type) (together us)) (rec_names rs) =
        put-binds (length marks) (λ v. unit_type) (together us) (rec_names rs) (rec-names m _ rs fns (rec_ (λ v. unit_type) may)) in
        by-parts d (dec dc)
        (each-both (all_in d (bind_list bs)) (all_in (plus d (rec_names rs)) (bind_list rs)) (binds-once d f (plain (λ v. unit_type) may))
        (binds-once (plus d (rec_names rs)) (fits-plus f (bound-fits (put_bound (length marks) (λ v. unit_type) (together us)) (rec_names rs) own)) (rec_ (λ v. unit_type) may)))
        (ap (λ b. if b then [] else p ∷ binding_places bs ++ binding_places rs) (proper m {c = c} d f (Typing.val_has {c = c} p p' extra g fns dist plain rec_)))
    dec-once d {dc} f (Typing.type_has p {bs = bs} e) = by-parts d (dec dc) (type-binds-once d bs) refl
    dec-once d {dc} f (Typing.datatype_has p {bs = bs} qs l e r x) = by-parts d (dec dc) (data-binds-once (plus d (tycons_names bs)) bs) refl
    dec-once d {dc} f (Typing.replicate_has p e) = by-parts d (dec dc) tt refl
    dec-once d {dc} f (Typing.exception_has p {bs = bs} e) = by-parts d (dec dc) (exns-once d bs) refl
    dec-once d {dc} f (Typing.local_has p {ds = ds} {ds' = ds'} h k) =
        by-parts d (dec dc) (each-both (decs_in d ds) (decs_in (plus d (decs_names d ds)) ds') (decs-once d f h) (decs-once (plus d (decs_names d ds)) (fits-plus f (decs-names m d f h)) k)) refl
    dec-once d {dc} f (Typing.open_has p e) = by-parts d (dec dc) tt refl
    dec-once d {dc} f (Typing.sequence_has p h) = by-parts d (dec dc) (decs-once d f h) refl

pub twice-has-no-typing : TwiceHasNoTyping
twice-has-no-typing m c ds made e k d f h = each-none (λ s. length (phrase.phrases s.phrase)) (decs_in d ds) (decs-once m d f h)
