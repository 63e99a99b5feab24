-- Declarations that have a typing give environments that fit.
use Rattle.std.proofs.Common.{◌≡◌, ℕ, zero, suc, Bool, true, false, List, [], ◌∷◌, ◌++◌, map, length, Option, Some, None, nat_eq, refl, sym, ap, ◌∙◌, subst, arith}
use Rattle.std.specs.Prelude.{is_some, cond, if◌then◌else◌, option_map, option_and_then, ◌&&◌}
use Rattle.std.specs.Option.{option_or, option_zip}
use Rattle.mlc_runs.specs.Run.{World, Answer, gives, raises, stops, then_do, or_fail}
use Rattle.ty_basis.specs.of_ty_core.Types.{Typ, con, more, none, arrow, labels, name as symbol}
use Rattle.ty_basis.specs.of_ty_core.declared.mark.Mark.{Mark}
use Rattle.ty_basis.specs.of_ty_core.declared.mark.Mark.TheVariants.{Any, Equality}
use Rattle.ty_basis.specs.of_ty_core.declared.name.TyName.{TyName}
use Rattle.ty_basis.specs.of_ty_core.declared.env.Status.{Status}
use Rattle.ty_basis.specs.of_ty_core.declared.env.Status.TheVariants.{Variable, Constructor, Exception, Primitive}
use Rattle.sml_tree.specs.Terminal as term
use Rattle.sml_tree.specs.Derived.{short}
use Rattle.sml_tree.specs.declared.ident.Tyvar.{Tyvar}
use Rattle.sml_tree.specs.declared.ident.Vid.{Vid}
use Rattle.sml_tree.specs.BareTree.{Pat, PatFields, TypeBind, ConBind, DataBind, ExBind, new_exn, same_exn, fn, Decs, Dec, Binds, no_binds, bind}
use Rattle.ty_basis.specs.of_mlc_prims.Table.{literal_eq}
use Rattle.ty_basis.specs.Types.{Row, row_type, unit_type}
use Rattle.core_rules.specs.Words.{same_vid}
use Rattle.core_rules.specs.Objects as static
use Rattle.core_rules.specs.Objects.{Context, TypeStructure, types, values, structures}
use Rattle.core_rules.specs.Choices.{Choices}
use Rattle.core_rules.specs.Values.{Value, Env, Found, Fields, value_in, tycon_in, structure_in, plus, along, nothing, long_value_in, con as con_value, exn, value, closure, field_in}
use Rattle.core_rules.specs.Match.{Tagged, Matching, binds, fails, misfits, then_match, where_same, on_found, behind, against, unless_argument, tagged, alone, is_variable, bound_to, match_vid, match_con, match_variable, on_fields, match, match_fields}
use Rattle.core_rules.specs.Match as matching
use Rattle.core_rules.specs.Eval.{Apply, eval, eval_decs, eval_dec, eval_binds, eval_exns, on_match, each_bound, unrolled, recursive, all_fns, with_recursive, cons_env, types_env, datatypes_env, long_tycon_in, opened, identifier, bind_packet}
use Rattle.core_rules.specs.Elaborated as elaborated
use Rattle.core_rules.specs.Elaborated.{type_in, replicated, types_bound, constructors_of, structures_of, names_of, all_constructors, exceptions_of, if_exception, is_exception, new_names, bare_structures}
use Rattle.core_rules.specs.Typing
use Rattle.core_rules.specs.Typing.{Bound, PatHas, PatsHave, BindsHave, DecHas, DecsHave, put_bound, together, closed, marks_of, mark_of, scoped_in, all_general, is_matched, is_matched_in}
use Rattle.core_rules.specs.Fits.{static_status, dynamic_status, SameValues, IsOfValues, ConstructorsFit, BothFit, Fits, Giving, DeclarationsFit}
use Rattle.core_rules.proofs.LookUps.{at-append, value-plus, tycon-plus, structure-plus, vid-tells}
use Rattle.core_rules.proofs.Fitting.{not-none, not-false, some-is, status-or, fits-plus, values-fit, nothing-fits, opened-fit}
use Rattle.core_rules.proofs.Basics.{units-may-stand}
use Rattle.ty_basis.specs.of_ty_core.Statics.{named}
use Rattle.ty_basis.specs.of_ty_core.declared.name.Equality.TheVariants.{ByArguments, Never}

-- Answers

any-giving : {A : Type 0} (r : Answer Value A) → Giving (λ a. Unit {0}) r
any-giving (gives a w) = tt
any-giving (raises p w) = tt
any-giving (stops c w) = tt

module _ {A B : Type 0} (P : A → Type 0) (Q : B → Type 0) where
  then-giving : (r : Answer Value A) (go : A → World Value → Answer Value B) → Giving P r → ((a : A) (w : World Value) → P a → Giving Q (go a w)) → Giving Q (then_do r go)
  then-giving (gives a w) go h k = k a w h
  then-giving (raises p w) go h k = tt
  then-giving (stops c w) go h k = tt

or-giving : {A B : Type 0} (Q : B → Type 0) (o : Option A) (w : World Value) (go : A → Answer Value B) → ((a : A) → o ≡ Some a → Giving Q (go a)) → Giving Q (or_fail o w go)
or-giving Q None w go h = tt
or-giving Q (Some a) w go h = h a refl

abbrev OnBinds : (Env → Type 0) → Matching → Type 0
OnBinds P (binds d) = P d
OnBinds P fails = Unit {0}
OnBinds P misfits = Unit {0}

match-giving : {B : Type 0} (P : Env → Type 0) (Q : B → Type 0) (o : Matching) (w : World Value) (go : Env → World Value → Answer Value B) (other : World Value → Answer Value B) → OnBinds P o → ((d : Env) → P d → Giving Q (go d w)) → Giving Q (other w) → Giving Q (on_match o w go other)
match-giving P Q (binds d) w go other h k l = k d h
match-giving P Q fails w go other h k l = l
match-giving P Q misfits w go other h k l = tt

then-on : (P Q : Env → Type 0) (o : Matching) (go : Env → Matching) → OnBinds P o → ((d : Env) → P d → OnBinds Q (go d)) → OnBinds Q (then_match o go)
then-on P Q (binds d) go h k = k d h
then-on P Q fails go h k = tt
then-on P Q misfits go h k = tt

found-on : (P : Env → Type 0) (o : Option Value) (go : Value → Matching) → ((v : Value) → OnBinds P (go v)) → OnBinds P (on_found o go)
found-on P None go h = tt
found-on P (Some v) go h = h v

-- What patterns bind

abbrev pub bound_status : Bound → Vid → Option Status
bound_status vs x = option_map (λ t. Variable) (static.at same_vid vs x)

pub record BindsThese (vs : Bound) (d : Env) : Type 0 where
  pub same : (x : Vid) → bound_status vs x ≡ dynamic_status (value_in d x)
  pub only : IsOfValues d

pub binds-nothing : BindsThese [] nothing
binds-nothing = record { same = λ x. refl; only = record { tycons = λ x. refl; structures = λ x. refl } }

pub binds-one : (x : Vid) (t : Typ) (v : Value) → BindsThese ((x, t) ∷ []) (bound_to x v)
binds-one x t v = record { same = λ y. by (same_vid y x); only = record { tycons = λ x. refl; structures = λ x. refl } }
  where
    by : (b : Bool) → option_map (λ t. Variable) (cond b (Some t) None) ≡ dynamic_status (if b then Some (record { status = Variable; value = v }) else None)
    by true = refl
    by false = refl

variables-or : (o p : Option Typ) → option_map (λ t. Variable) (option_or o p) ≡ option_or (option_map (λ t. Variable) p) (option_map (λ t. Variable) o)
variables-or None None = refl
variables-or None (Some t) = refl
variables-or (Some t) None = refl
variables-or (Some t) (Some u) = refl

pub bound-append : (vs us : Bound) (x : Vid) → bound_status (vs ++ us) x ≡ option_or (bound_status us x) (bound_status vs x)
bound-append vs us x = ap (option_map (λ t. Variable)) (at-append same_vid vid-tells vs us x) ∙ variables-or (static.at same_vid vs x) (static.at same_vid us x)

dynamic-or : (p' p : Option Found) → dynamic_status (option_or p' p) ≡ option_or (dynamic_status p') (dynamic_status p)
dynamic-or None p = refl
dynamic-or (Some f) p = refl

only-plus : (d d' : Env) → IsOfValues d → IsOfValues d' → IsOfValues (plus d d')
only-plus d d' o o' = record {
  tycons = λ x. tycon-plus d d' x ∙ ap (λ p. option_or p (tycon_in d x)) (o'.tycons x) ∙ o.tycons x;
  structures = λ x. structure-plus d d' x ∙ ap (λ p. option_or p (structure_in d x)) (o'.structures x) ∙ o.structures x;
}

pub binds-both : {vs us : Bound} (d d' : Env) → BindsThese vs d → BindsThese us d' → BindsThese (vs ++ us) (plus d d')
binds-both {vs} {us} d d' h k = record {
  same = λ x. bound-append vs us x ∙ ap (λ o. option_or o (bound_status vs x)) (k.same x) ∙ ap (option_or (dynamic_status (value_in d' x))) (h.same x) ∙ sym (dynamic-or (value_in d' x) (value_in d x)) ∙ ap dynamic_status (sym (value-plus d d' x));
  only = only-plus d d' h.only k.only;
}

pub put-status : (n : ℕ) (r : ℕ → Typ) (vs : Bound) (x : Vid) → bound_status (put_bound n r vs) x ≡ bound_status vs x
put-status n r [] x = refl
put-status n r (b ∷ vs) x = by (same_vid x b.0) (put-status n r vs x)
  where
    by : (c : Bool) → bound_status (put_bound n r vs) x ≡ bound_status vs x → option_map (λ t. Variable) (cond c (Some (static.put n r b.1)) (static.at same_vid (put_bound n r vs) x)) ≡ option_map (λ t. Variable) (cond c (Some b.1) (static.at same_vid vs x))
    by true h = refl
    by false h = h

-- Patterns

tagged-on : {A : Type 0} (same : A → A → Bool) (t : A) (o : Option (Tagged A)) → OnBinds (BindsThese []) (tagged same t o)
tagged-on same t None = tt
tagged-on same t (Some u) = by (same t u.tag) u.argument
  where
    by : (b : Bool) (o : Option Value) → OnBinds (BindsThese []) (if b then unless_argument o else fails)
    by true None = binds-nothing
    by true (Some v) = tt
    by false o = tt

alone-on : (f v : Value) → OnBinds (BindsThese []) (alone f v)
alone-on (con_value c) v = tagged-on matching.same_con c (matching.con_in v)
alone-on (exn n) v = tagged-on nat_eq n (matching.exn_in v)
alone-on f v = tt

behind-on : {A : Type 0} (P : Env → Type 0) (same : A → A → Bool) (t : A) (o : Option (Tagged A)) (go : Value → Matching) → ((v : Value) → OnBinds P (go v)) → OnBinds P (behind same t o go)
behind-on P same t None go h = tt
behind-on P same t (Some u) go h = by (same t u.tag)
  where
    by : (b : Bool) → OnBinds P (if b then on_found u.argument go else fails)
    by true = found-on P u.argument go h
    by false = tt

against-on : (P : Env → Type 0) (store : List Value) (f v : Value) (go : Value → Matching) → ((v : Value) → OnBinds P (go v)) → OnBinds P (against store f v go)
against-on P store (con_value c) v go h = behind-on P matching.same_con c (matching.con_in v) go h
against-on P store Rattle.core_rules.specs.Values.ref v go h = found-on P (option_and_then (Rattle.std.specs.Prelude.slice_get store) (matching.address_in v)) go h
against-on P store (exn n) v go h = behind-on P nat_eq n (matching.exn_in v) go h
against-on P store f v go h = tt

same-on : (o : Option Bool) → OnBinds (BindsThese []) (where_same o (binds nothing))
same-on None = tt
same-on (Some true) = binds-nothing
same-on (Some false) = tt

variable-on : (o : Option static.Value) (p : Option Found) (x : Vid) (t : Typ) (v : Value) → static_status o ≡ dynamic_status p → is_matched_in o ≡ false → OnBinds (BindsThese ((x, t) ∷ [])) (match_vid p (short x) v)
variable-on o None x t v h m = binds-one x t v
variable-on None (Some f) x t v h m = not-none h
variable-on (Some w) (Some f) x t v h m = by f.status (subst (λ s. is_matched s ≡ false) (some-is h) m)
  where
    by : (s : Status) → is_matched s ≡ false → OnBinds (BindsThese ((x, t) ∷ [])) (if is_variable s then match_variable [] x v else alone f.value v)
    by Variable m = binds-one x t v
    by Constructor m = not-false m
    by Exception m = not-false m
    by (Primitive n) m = binds-one x t v

-- a matched identifier
matched : (P : Env → Type 0) (w : static.Value) (f : Found) (bound then_ : Matching) → w.status ≡ f.status → is_matched w.status ≡ true → OnBinds P then_ → OnBinds P (if is_variable f.status then bound else then_)
matched P w f bound then_ e m h = by f.status (subst (λ s. is_matched s ≡ true) e m)
  where
    by : (s : Status) → is_matched s ≡ true → OnBinds P (if is_variable s then bound else then_)
    by Variable m = not-false (sym m)
    by Constructor m = h
    by Exception m = h
    by (Primitive n) m = not-false (sym m)

constructor-on : (o : Option static.Value) (p : Option Found) (w : static.Value) (x : term.LongVid) (v : Value) → static_status o ≡ dynamic_status p → o ≡ Some w → is_matched w.status ≡ true → OnBinds (BindsThese []) (match_vid p x v)
constructor-on o None w x v h e m = not-none (sym h ∙ ap static_status e)
constructor-on o (Some f) w x v h e m = matched (BindsThese []) w f (match_variable x.qualifiers x.vid v) (alone f.value v) (some-is (sym (ap static_status e) ∙ h)) m (alone-on f.value v)

con-on : (P : Env → Type 0) (o : Option static.Value) (p : Option Found) (w : static.Value) (store : List Value) (v : Value) (go : Value → Matching) → static_status o ≡ dynamic_status p → o ≡ Some w → is_matched w.status ≡ true → ((v : Value) → OnBinds P (go v)) → OnBinds P (match_con p store v go)
con-on P o None w store v go h e m k = tt
con-on P o (Some f) w store v go h e m k = matched P w f misfits (against store f.value v go) (some-is (sym (ap static_status e) ∙ h)) m (against-on P store f.value v go k)

fields-on : (P : Env → Type 0) (n : ℕ) (b : Bool) (o : Option Fields) (go : Fields → Matching) → ((gs : Fields) → OnBinds P (go gs)) → OnBinds P (on_fields n b o go)
fields-on P n b None go h = tt
fields-on P n b (Some gs) go h = by (Rattle.std.specs.Prelude.◌||◌ b (nat_eq n (Rattle.core_rules.specs.Values.count gs)))
  where
    by : (c : Bool) → OnBinds P (if c then go gs else misfits)
    by true = h gs
    by false = tt

module _ (m : ℕ → Bool) (c : Context) (d : Env) (f : Fits c.env d) (store : List Value) where
  mutual
    pat-on : {a : Pat} {t : Typ} {vs : Bound} {k : Choices} → PatHas m c a t vs k → (v : Value) → OnBinds (BindsThese vs) (match d store a v)
    pat-on (Typing.wild_has p o) v = binds-nothing
    pat-on (Typing.constant_has p k) v = same-on (option_and_then (literal_eq (matching.constant_of k)) (matching.literal_in v))
    pat-on (Typing.variable_has p {x = x} {t = t} n kept o) v = variable-on (static.value_in c.env x) (value_in d x) x t v (f.values [] x) n
    pat-on (Typing.constructor_has p {x = x} {v = w} e n i) v = constructor-on (static.long_value_in c.env x) (long_value_in d x) w x v (f.values x.qualifiers x.vid) e n
    pat-on (Typing.built_has p {b = b} i) v = alone-on (con_value (Rattle.core_rules.specs.Values.built b)) v
    pat-on (Typing.fields_has p {fs = fs} h e) v = fields-on _ (matching.pat_count fs) false (matching.fields_in v) (match_fields d store fs) (λ gs. pats-on h gs)
    pat-on (Typing.open_has p {fs = fs} others h e e' o) v = fields-on _ (matching.pat_count fs) true (matching.fields_in v) (match_fields d store fs) (λ gs. pats-on h gs)
    pat-on (Typing.con_has p q {x = x} {v = w} {a = a} e n i h) v = con-on _ (static.long_value_in c.env x) (long_value_in d x) w store v (match d store a) (f.values x.qualifiers x.vid) e n (λ v. pat-on h v)
    pat-on (Typing.built_con_has p {b = b} {a = a} i h) v = against-on _ store (con_value (Rattle.core_rules.specs.Values.built b)) v (match d store a) (λ v. pat-on h v)
    pat-on (Typing.typed_has p h e) v = pat-on h v
    pat-on (Typing.as_has p {x = x} {a = a} {t = t} n kept e h) v = then-on _ _ (match d store a v) (λ d'. binds (plus (bound_to x v) d')) (pat-on h v) (λ d' k. binds-both (bound_to x v) d' (binds-one x t v) k)

    pats-on : {fs : PatFields} {r : Row} {vs : Bound} {k : Choices} → PatsHave m c fs r vs k → (gs : Fields) → OnBinds (BindsThese vs) (match_fields d store fs gs)
    pats-on Typing.no_field_has gs = binds-nothing
    pats-on (Typing.field_has l {a = a} {fs = fs} h k) gs =
        found-on _ (field_in l gs) (λ v. then_match (match d store a v) (λ d1. then_match (match_fields d store fs gs) (λ d2. binds (plus d1 d2))))
        (λ v. then-on _ _ (match d store a v) (λ d1. then_match (match_fields d store fs gs) (λ d2. binds (plus d1 d2))) (pat-on h v)
        (λ d1 g. then-on _ _ (match_fields d store fs gs) (λ d2. binds (plus d1 d2)) (pats-on k gs) (λ d2 g'. binds-both d1 d2 g g')))

-- Recursive bindings

abbrev pub IsArrow : Typ → Type 0
IsArrow (Rattle.ty_basis.specs.of_ty_core.Types.var v) = ⊥
IsArrow (con arrow ts) = Unit {0}
IsArrow (con (labels ls) ts) = ⊥
IsArrow (con (symbol n) ts) = ⊥

constant-no-arrow : (k : term.Constant) → IsArrow (Typing.constant_type k) → ⊥
constant-no-arrow (term.int z) h = h
constant-no-arrow (term.word n) h = h
constant-no-arrow (term.char n) h = h
constant-no-arrow (term.string s) h = h

-- the identifiers of vs as variables, and then those of e
pub record Adds (vs : Bound) (e d : Env) : Type 0 where
  pub same : (x : Vid) → dynamic_status (value_in d x) ≡ option_or (bound_status vs x) (dynamic_status (value_in e x))
  pub tycons : (x : ℕ) → tycon_in d x ≡ tycon_in e x
  pub structures : (x : ℕ) → structure_in d x ≡ structure_in e x

adds-one : (x : Vid) (t : Typ) (v : Value) (vs : Bound) (e d : Env) → Adds vs e d → Adds ((x, t) ∷ vs) e (value x Variable v d)
adds-one x t v vs e d h = record { same = λ y. by y (same_vid y x); tycons = h.tycons; structures = h.structures }
  where
    by : (y : Vid) (b : Bool) → dynamic_status (if b then Some (record { status = Variable; value = v }) else value_in d y) ≡ option_or (option_map (λ t. Variable) (cond b (Some t) (static.at same_vid vs y))) (dynamic_status (value_in e y))
    by y true = refl
    by y false = h.same y

pub adds-none : (e : Env) → Adds [] e e
adds-none e = record { same = λ x. refl; tycons = λ x. refl; structures = λ x. refl }

module _ (m : ℕ → Bool) (c : Context) where
  pub each-adds : {a : Pat} {t : Typ} {vs : Bound} {k : Choices} → PatHas m c a t vs k → IsArrow t → (v : Value) (e : Env) → Adds vs e (each_bound a v e)
  each-adds (Typing.wild_has p o) r v e = adds-none e
  each-adds (Typing.constant_has p k) r v e = absurd (constant-no-arrow k r)
  each-adds (Typing.variable_has p {x = x} {t = t} n kept o) r v e = adds-one x t v [] e e (adds-none e)
  each-adds (Typing.constructor_has p e' n i) r v e = absurd r
  each-adds (Typing.built_has p i) r v e = absurd r
  each-adds (Typing.fields_has p {r = row} h e') r v e = let bad : IsArrow (row_type (static.sorted row)) = subst IsArrow e' r in absurd bad
  each-adds (Typing.open_has p {r = row} others h d e' o) r v e = let bad : IsArrow (row_type (static.sorted (row ++ others))) = subst IsArrow e' r in absurd bad
  each-adds (Typing.con_has p q e' n i h) r v e = absurd r
  each-adds (Typing.built_con_has p i h) r v e = absurd r
  each-adds (Typing.typed_has p h e') r v e = each-adds h r v e
  each-adds (Typing.as_has p {x = x} {a = a} {t = t} {vs = vs} n kept e' h) r v e = adds-one x t v vs e (each_bound a v e) (each-adds h r v e)

  unrolled-binds : {n : ℕ} {r : ℕ → Typ} (e : Env) (all rs : Binds) {us : List Bound} {k : Choices} → all_fns rs ≡ true → BindsHave m c n r rs us k → BindsThese (together us) (unrolled e all rs)
  unrolled-binds e all no_binds h Typing.no_bind_has = binds-nothing
  unrolled-binds {n} {r} e all (bind p a (fn q rl) bs) h (Typing.bind_has p' {v = v} {vs = vs} {us = us} ph e' (Typing.fn_has q' rh) x bh) =
      let rest : BindsThese (together us) (unrolled e all bs) = unrolled-binds e all bs h bh in
      let one : Adds v (unrolled e all bs) (each_bound a (closure rl e all) (unrolled e all bs)) = each-adds ph tt (closure rl e all) (unrolled e all bs) in
      record {
        same = λ x. bound-append vs (together us) x ∙ swap (static.at same_vid (together us) x) (static.at same_vid vs x)
            ∙ ap (λ o. option_or o (bound_status (together us) x)) (sym (put-status n r vs x) ∙ ap (λ b. bound_status b x) (sym e')) ∙ ap (option_or (bound_status v x)) (rest.same x) ∙ sym (one.same x);
        only = record { tycons = λ x. one.tycons x ∙ rest.only.tycons x; structures = λ x. one.structures x ∙ rest.only.structures x };
      }
    where
      swap : (o p : Option Typ) → option_or (option_map (λ t. Variable) o) (option_map (λ t. Variable) p) ≡ option_or (option_map (λ t. Variable) p) (option_map (λ t. Variable) o)
      swap None None = refl
      swap None (Some t) = refl
      swap (Some t) None = refl
      swap (Some t) (Some u) = refl
  unrolled-binds e all (bind p a b bs) h k = not-false (sym h)

-- Bindings

pub general-marks : (as_ : List Tyvar) (extra : List Mark) → all_general extra ≡ true → all_general (map mark_of as_ ++ extra) ≡ true
general-marks [] extra h = h
general-marks (a ∷ as_) extra h = by a.equality (general-marks as_ extra h)
  where
    by : (b : Bool) → all_general (map mark_of as_ ++ extra) ≡ true → (Typing.is_general (if b then Equality else Any) && all_general (map mark_of as_ ++ extra)) ≡ true
    by true h = h
    by false h = h

pub closed-same : (marks : List Mark) (vs : Bound) (d : Env) → BindsThese vs d → SameValues (values (closed marks vs)) d
closed-same marks vs d h x = go vs ∙ h.same x
  where
    go : (vs : Bound) → static_status (static.at same_vid (values (closed marks vs)) x) ≡ bound_status vs x
    go [] = refl
    go (b ∷ bs) = by (same_vid x b.0) (go bs)
      where
        by : (c : Bool) → static_status (static.at same_vid (values (closed marks bs)) x) ≡ bound_status bs x → static_status (cond c (Some (record { scheme = record { marks = marks; body = b.1 }; status = Variable })) (static.at same_vid (values (closed marks bs)) x)) ≡ option_map (λ t. Variable) (cond c (Some b.1) (static.at same_vid bs x))
        by true h = refl
        by false h = h

module _ (m : ℕ → Bool) (call : Apply) where
  binds-giving : {c : Context} (d : Env) {n : ℕ} {r : ℕ → Typ} {bs : Binds} {vs : List Bound} {k : Choices} → Fits c.env d → BindsHave m c n r bs vs k → (w : World Value) → Giving (BindsThese (together vs)) (eval_binds call d bs w)
  binds-giving d f Typing.no_bind_has w = binds-nothing
  binds-giving {c} d {n} {r} f (Typing.bind_has p {a = a} {e = b} {bs = bs} {v = v} {vs = vs} {us = us} ph e hh x bh) w =
      then-giving (λ v. Unit {0}) _ (eval call d b w) (λ v w. on_match (match d w.store a v) w (λ d' w. then_do (eval_binds call d bs w) (λ d'' w. gives (plus d' d'') w)) (λ w. raises bind_packet w)) (any-giving (eval call d b w))
      (λ u w t. match-giving (BindsThese v) _ (match d w.store a u) w (λ d' w. then_do (eval_binds call d bs w) (λ d'' w. gives (plus d' d'') w)) (λ w. raises bind_packet w) (pat-on m c d f w.store ph u)
      (λ d' h. then-giving (BindsThese (together us)) _ (eval_binds call d bs w) (λ d'' w. gives (plus d' d'') w) (binds-giving d f bh w)
      (λ d'' w' g. binds-both d' d'' (record { same = λ x. sym (put-status n r vs x) ∙ ap (λ b. bound_status b x) (sym e) ∙ h.same x; only = h.only }) g)) tt)

  recursive-giving : {c : Context} (d : Env) {n : ℕ} {r : ℕ → Typ} {rs : Binds} {vs us : Bound} {gs : List Bound} {k : Choices} (marks : List Mark) → us ≡ together gs → BindsHave m c n r rs gs k → (d' : Env) (w : World Value) → BindsThese vs d' →
      (b : Bool) → all_fns rs ≡ b → Giving (Fits (closed marks (vs ++ us))) (with_recursive d rs b d' w)
  recursive-giving {c} d {rs = rs} {vs} {us} {gs} marks e h d' w g true t =
      let all : BindsThese (vs ++ us) (plus d' (recursive d rs)) = binds-both d' (recursive d rs) g (subst (λ u. BindsThese u (recursive d rs)) (sym e) (unrolled-binds m c d rs rs t h)) in
      values-fit (values (closed marks (vs ++ us))) (plus d' (recursive d rs)) (closed-same marks (vs ++ us) (plus d' (recursive d rs)) all) all.only
  recursive-giving d marks e h d' w g false t = tt

-- Environments without structures

pub flat-fits : (vs : static.Values) (ts : static.Map ℕ TypeStructure) (d : Env) → SameValues vs d → ((x : ℕ) → BothFit (static.at nat_eq ts x) (tycon_in d x)) → ((x : ℕ) → structure_in d x ≡ None) → Fits (static.env vs ts static.no_structures) d
flat-fits vs ts d h k o = record { paths = paths; values = vals; types = tys }
  where
    paths : (qs : List ℕ) → is_some (static.along (static.env vs ts static.no_structures) qs) ≡ is_some (along d qs)
    paths [] = refl
    paths (q ∷ qs) = ap (λ p. is_some (option_and_then (λ d. along d qs) p)) (sym (o q))

    vals : (qs : List ℕ) (x : Vid) → static_status (option_and_then (λ e. static.value_in e x) (static.along (static.env vs ts static.no_structures) qs)) ≡ dynamic_status (option_and_then (λ d. value_in d x) (along d qs))
    vals [] x = h x
    vals (q ∷ qs) x = ap (λ p. dynamic_status (option_and_then (λ d. value_in d x) (option_and_then (λ d. along d qs) p))) (sym (o q))

    tys : (qs : List ℕ) (x : ℕ) → BothFit (type_in (static.env vs ts static.no_structures) qs x) (option_and_then (λ d. tycon_in d x) (along d qs))
    tys [] x = k x
    tys (q ∷ qs) x = subst (λ p. BothFit None (option_and_then (λ d. tycon_in d x) (option_and_then (λ d. along d qs) p))) (sym (o q)) tt

-- what two options that are joined give
pub record Zipped {A B C : Type 0} (o : Option A) (p : Option B) (go : A × B → C) (c : C) : Type 0 where
  pub one : A
  pub other : B
  pub left : o ≡ Some one
  pub right : p ≡ Some other
  pub is : go (one, other) ≡ c

pub zipped : {A B C : Type 0} (o : Option A) (p : Option B) (go : A × B → C) (c : C) → option_map go (option_zip o p) ≡ Some c → Zipped o p go c
zipped (Some a) (Some b) go c e = record { one = a; other = b; left = refl; right = refl; is = some-is e }
zipped None p go c e = not-none e
zipped (Some a) None go c e = not-none e

-- one entry before others, on both sides
pub entry-fits : (x : ℕ) (s : TypeStructure) (ts : static.Map ℕ TypeStructure) (t d : Env) (y : ℕ) → ConstructorsFit s t → BothFit (static.at nat_eq ts y) (tycon_in d y) → BothFit (cond (nat_eq y x) (Some s) (static.at nat_eq ts y)) (if nat_eq y x then Some t else tycon_in d y)
entry-fits x s ts t d y h k = by (nat_eq y x)
  where
    by : (b : Bool) → BothFit (cond b (Some s) (static.at nat_eq ts y)) (if b then Some t else tycon_in d y)
    by true = h
    by false = k

pub no-constructors : (f : Rattle.ty_basis.specs.of_ty_core.Statics.TypeFunction) → ConstructorsFit (record { function = f; constructors = [] }) nothing
no-constructors f = record { values = λ x. refl; only = record { tycons = λ x. refl; structures = λ x. refl } }

-- exceptions as they are bound
pub record ExnsAre (vs : static.Values) (d : Env) : Type 0 where
  pub same : SameValues vs d
  pub only : IsOfValues d

abbrev IsZero : ℕ → Type 0
IsZero zero = Unit {0}
IsZero (suc n) = ⊥

types-same : (c : Context) (bs : List TypeBind) (ts : static.Map ℕ TypeStructure) → types_bound c bs ≡ Some ts → (y : ℕ) → BothFit (static.at nat_eq ts y) (tycon_in (types_env bs) y)
types-same c [] ts e y = subst (λ ts. BothFit (static.at nat_eq ts y) None) (some-is e) tt
types-same c (b ∷ bs) ts e y =
    let z : Zipped (elaborated.type_of (elaborated.with_parameters c b.tyvars) b.ty) (types_bound c bs) (λ r. (b.tycon, record { function = record { arity = length b.tyvars; body = r.0 }; constructors = [] }) ∷ r.1) ts =
    zipped (elaborated.type_of (elaborated.with_parameters c b.tyvars) b.ty) (types_bound c bs) (λ r. (b.tycon, record { function = record { arity = length b.tyvars; body = r.0 }; constructors = [] }) ∷ r.1) ts e in
    subst (λ ts. BothFit (static.at nat_eq ts y) (tycon_in (types_env (b ∷ bs)) y)) z.is
    (entry-fits b.tycon (record { function = record { arity = length b.tyvars; body = z.one }; constructors = [] }) z.other nothing (types_env bs) y (no-constructors _) (types-same c bs z.other z.right y))

types-plain : (bs : List TypeBind) → ((x : Vid) → value_in (types_env bs) x ≡ None) × ((x : ℕ) → structure_in (types_env bs) x ≡ None)
types-plain [] = (λ x. refl, λ x. refl)
types-plain (b ∷ bs) = ((types-plain bs).0, (types-plain bs).1)

cons-same : (c : Context) (as_ : List Tyvar) (n : TyName) (cs : List ConBind) (vs : static.Values) → constructors_of c as_ n cs ≡ Some vs → SameValues vs (cons_env cs)
cons-same c as_ n [] vs e x = subst (λ vs. static_status (static.at same_vid vs x) ≡ None) (some-is e) refl
cons-same c as_ n (b ∷ cs) vs e x =
    let z : Zipped (elaborated.behind_of (elaborated.with_parameters c as_) b.of_ty) (constructors_of c as_ n cs) (λ r. (b.vid, record { scheme = record { marks = elaborated.any_marks as_; body = elaborated.constructed n r.0 }; status = Constructor }) ∷ r.1) vs =
    zipped (elaborated.behind_of (elaborated.with_parameters c as_) b.of_ty) (constructors_of c as_ n cs) (λ r. (b.vid, record { scheme = record { marks = elaborated.any_marks as_; body = elaborated.constructed n r.0 }; status = Constructor }) ∷ r.1) vs e in
    subst (λ vs. static_status (static.at same_vid vs x) ≡ dynamic_status (value_in (cons_env (b ∷ cs)) x)) z.is (by z.one z.other (same_vid x b.vid) (cons-same c as_ n cs z.other z.right x))
  where
    by : (t : Option Typ) (vs : static.Values) (k : Bool) → static_status (static.at same_vid vs x) ≡ dynamic_status (value_in (cons_env cs) x) →
        static_status (cond k (Some (record { scheme = record { marks = elaborated.any_marks as_; body = elaborated.constructed n t }; status = Constructor })) (static.at same_vid vs x)) ≡ dynamic_status (if k then Some (record { status = Constructor; value = con_value (Rattle.core_rules.specs.Values.declared b.vid) }) else value_in (cons_env cs) x)
    by t vs true h = refl
    by t vs false h = h

cons-only : (cs : List ConBind) → IsOfValues (cons_env cs)
cons-only [] = record { tycons = λ x. refl; structures = λ x. refl }
cons-only (b ∷ cs) = record { tycons = (cons-only cs).tycons; structures = (cons-only cs).structures }

record DatatypesFit (ts : static.Map ℕ TypeStructure) (d : Env) : Type 0 where
  vals : SameValues (all_constructors ts) d
  tys : (y : ℕ) → BothFit (static.at nat_eq ts y) (tycon_in d y)
  structs : (y : ℕ) → structure_in d y ≡ None

one-more : (c : Context) (b : DataBind) (bs : List DataBind) (n : TyName) (vs : static.Values) (ts : static.Map ℕ TypeStructure) → constructors_of c b.tyvars n b.cons ≡ Some vs → DatatypesFit ts (datatypes_env bs) →
    DatatypesFit ((b.tycon, record { function = named n; constructors = vs }) ∷ ts) (datatypes_env (b ∷ bs))
one-more c b bs n vs ts e rest =
    let same : SameValues vs (cons_env b.cons) = cons-same c b.tyvars n b.cons vs e in
    let only : IsOfValues (cons_env b.cons) = cons-only b.cons in
    let passed : (y : ℕ) → tycon_in (plus (datatypes_env bs) (cons_env b.cons)) y ≡ tycon_in (datatypes_env bs) y = λ y. tycon-plus (datatypes_env bs) (cons_env b.cons) y ∙ ap (λ p. option_or p (tycon_in (datatypes_env bs) y)) (only.tycons y) in
    record {
      vals = λ x. ap static_status (at-append same_vid vid-tells vs (all_constructors ts) x)
          ∙ status-or (static.at same_vid vs x) (static.at same_vid (all_constructors ts) x) (value_in (cons_env b.cons) x) (value_in (datatypes_env bs) x) (same x) (rest.vals x)
          ∙ ap dynamic_status (sym (value-plus (datatypes_env bs) (cons_env b.cons) x));
      tys = λ y. entry-fits b.tycon (record { function = named n; constructors = vs }) ts (cons_env b.cons) (plus (datatypes_env bs) (cons_env b.cons)) y (record { values = same; only = only })
          (subst (BothFit (static.at nat_eq ts y)) (sym (passed y)) (rest.tys y));
      structs = λ y. structure-plus (datatypes_env bs) (cons_env b.cons) y ∙ ap (λ p. option_or p (structure_in (datatypes_env bs) y)) (only.structures y) ∙ rest.structs y;
    }

datatypes-fit : (c : Context) (k : ℕ) (qs : List Bool) (bs : List DataBind) (ts : static.Map ℕ TypeStructure) → length qs ≡ length bs → structures_of c (names_of k qs bs) bs ≡ Some ts → DatatypesFit ts (datatypes_env bs)
datatypes-fit c k [] [] ts l e = subst (λ ts. DatatypesFit ts nothing) (some-is e) (record { vals = λ x. refl; tys = λ y. tt; structs = λ y. refl })
datatypes-fit c k (q ∷ qs) [] ts l e = subst (λ ts. DatatypesFit ts nothing) (some-is e) (record { vals = λ x. refl; tys = λ y. tt; structs = λ y. refl })
datatypes-fit c k [] (b ∷ bs) ts l e = let bad : IsZero (suc (length bs)) = subst IsZero l tt in absurd bad
datatypes-fit c k (q ∷ qs) (b ∷ bs) ts l e =
    let n : TyName = record { stamp = k; arity = length b.tyvars; equality = if q then ByArguments else Never } in
    let z : Zipped (constructors_of c b.tyvars n b.cons) (structures_of c (names_of (suc k) qs bs) bs) (λ r. (b.tycon, record { function = named n; constructors = r.0 }) ∷ r.1) ts =
    zipped (constructors_of c b.tyvars n b.cons) (structures_of c (names_of (suc k) qs bs) bs) (λ r. (b.tycon, record { function = named n; constructors = r.0 }) ∷ r.1) ts e in
    let l' : length qs ≡ length bs = omega (arith, l) in
    subst (λ ts. DatatypesFit ts (datatypes_env (b ∷ bs))) z.is (one-more c b bs n z.one z.other z.left (datatypes-fit c (suc k) qs bs z.other l' z.right))

pub exns-add : (x : Vid) (v : static.Value) (vs : static.Values) (s : Status) (u : Value) (d : Env) → v.status ≡ s → ExnsAre vs d → ExnsAre ((x, v) ∷ vs) (value x s u d)
exns-add x v vs s u d e h = record { same = λ y. by y (same_vid y x); only = record { tycons = h.only.tycons; structures = h.only.structures } }
  where
    by : (y : Vid) (b : Bool) → static_status (cond b (Some v) (static.at same_vid vs y)) ≡ dynamic_status (if b then Some (record { status = s; value = u }) else value_in d y)
    by y true = ap Some e
    by y false = h.same y

exception-is : (o : Option static.Value) (v : static.Value) → option_and_then (if_exception) o ≡ Some v → static_status o ≡ Some v.status
exception-is None v e = not-none e
exception-is (Some w) v e = by (is_exception w.status) e
  where
    by : (b : Bool) → (if b then Some w else None) ≡ Some v → Some w.status ≡ Some v.status
    by true e = ap (λ w. Some w.status) (some-is e)
    by false e = not-none e

exns-giving : (c : Context) (d : Env) → Fits c.env d → (bs : List ExBind) (vs : static.Values) → exceptions_of c bs ≡ Some vs → (w : World Value) → Giving (ExnsAre vs) (eval_exns d bs w)
exns-giving c d f [] vs e w = subst (λ vs. ExnsAre vs nothing) (some-is e) (record { same = λ x. refl; only = record { tycons = λ x. refl; structures = λ x. refl } })
exns-giving c d f (new_exn p x t ∷ bs) vs e w =
    let z : Zipped (elaborated.behind_of c t) (exceptions_of c bs) (λ r. (x, record { scheme = static.monomorphic (elaborated.exception_type r.0); status = Exception }) ∷ r.1) vs =
    zipped (elaborated.behind_of c t) (exceptions_of c bs) (λ r. (x, record { scheme = static.monomorphic (elaborated.exception_type r.0); status = Exception }) ∷ r.1) vs e in
    let w' : World Value = record w { exceptions = w.exceptions ++ identifier x ∷ [] } in
    subst (λ vs. Giving (ExnsAre vs) (eval_exns d (new_exn p x t ∷ bs) w)) z.is
    (then-giving (ExnsAre z.other) _ (eval_exns d bs w') (λ d' w''. gives (value x Exception (exn (length w.exceptions)) d') w'') (exns-giving c d f bs z.other z.right w')
    (λ d' w'' h. exns-add x _ z.other Exception (exn (length w.exceptions)) d' refl h))
exns-giving c d f (same_exn p x q y ∷ bs) vs e w =
    let z : Zipped (option_and_then (if_exception) (static.long_value_in c.env y)) (exceptions_of c bs) (λ r. (x, r.0) ∷ r.1) vs = zipped (option_and_then (if_exception) (static.long_value_in c.env y)) (exceptions_of c bs) (λ r. (x, r.0) ∷ r.1) vs e in
    subst (λ vs. Giving (ExnsAre vs) (eval_exns d (same_exn p x q y ∷ bs) w)) z.is
    (or-giving (ExnsAre ((x, z.one) ∷ z.other)) (long_value_in d y) w (λ g. then_do (eval_exns d bs w) (λ d' w. gives (value x g.status g.value d') w))
    (λ g h. then-giving (ExnsAre z.other) _ (eval_exns d bs w) (λ d' w. gives (value x g.status g.value d') w) (exns-giving c d f bs z.other z.right w)
    (λ d' w' k. exns-add x z.one z.other g.status g.value d' (some-is (sym (exception-is (static.long_value_in c.env y) z.one z.left) ∙ f.values y.qualifiers y.vid ∙ ap dynamic_status h)) k)))

-- Declarations

module _ (m : ℕ → Bool) (call : Apply) where
  mutual
    decs-giving : {c : Context} {ds : Decs} {made : ℕ} {e : static.Env} {k : Choices} → DecsHave m c ds made e k → (d : Env) → Fits c.env d → (w : World Value) → Giving (Fits e) (eval_decs call d ds w)
    decs-giving Typing.no_dec_has d f w = nothing-fits
    decs-giving (Typing.dec_has {d = dc} {ds = ds} h k) d f w =
        then-giving _ _ (eval_dec call d dc w) (λ d' w. then_do (eval_decs call (plus d d') ds w) (λ d'' w. gives (plus d' d'') w)) (dec-giving h d f w)
        (λ d' w' g. then-giving _ _ (eval_decs call (plus d d') ds w') (λ d'' w. gives (plus d' d'') w) (decs-giving k (plus d d') (fits-plus f g) w') (λ d'' w'' g'. fits-plus g g'))

    pub dec-giving : {c : Context} {dc : Dec} {made : ℕ} {e : static.Env} {k : Choices} → DecHas m c dc made e k → (d : Env) → Fits c.env d → (w : World Value) → Giving (Fits e) (eval_dec call d dc w)
    dec-giving {c} (Typing.val_has p p' {as_ = as_} {bs = bs} {rs = rs} extra {vs = vs} {us = us} g fns dist plain rec_) d f w =
        let may = units-may-stand m c (marks_of c as_ bs rs extra) (general-marks (scoped_in c as_ bs rs) extra g) in
        then-giving (BindsThese (together vs)) _ (eval_binds call d bs w) (with_recursive d rs (all_fns rs)) (binds-giving m call d f (plain (λ v. unit_type) may) w)
        (λ d' w' h. recursive-giving m call d (marks_of c as_ bs rs extra) refl (rec_ (λ v. unit_type) may) d' w' h (all_fns rs) refl)
    dec-giving {c} (Typing.type_has p {bs = bs} {ts = ts} e) d f w = flat-fits [] ts (types_env bs) (λ x. ap dynamic_status (sym ((types-plain bs).0 x))) (types-same c bs ts e) (types-plain bs).1
    dec-giving {c} (Typing.datatype_has p {bs = bs} {ts = ts} qs l e r x) d f w =
        let h : DatatypesFit ts (datatypes_env bs) = datatypes-fit (static.with_env c (length bs) (static.types_env (bare_structures (new_names c qs bs) bs))) c.names qs bs ts l e in
        flat-fits (all_constructors ts) ts (datatypes_env bs) h.vals h.tys h.structs
    dec-giving {c} (Typing.replicate_has p {x = x} {y = y} {s = s} e) d f w =
        or-giving _ (long_tycon_in d y) w (λ t. gives (Rattle.core_rules.specs.Values.tycon x t t) w)
        (λ t h. let k : ConstructorsFit s t = subst (BothFit (Some s)) h (subst (λ o. BothFit o (long_tycon_in d y)) e (f.types y.long.qualifiers y.long.id)) in
        flat-fits s.constructors ((x, s) ∷ []) (Rattle.core_rules.specs.Values.tycon x t t) k.values (λ z. entry-fits x s [] t t z k (subst (BothFit None) (sym (k.only.tycons z)) tt)) k.only.structures)
    dec-giving {c} (Typing.exception_has p {bs = bs} {vs = vs} e) d f w = as-values (eval_exns d bs w) (exns-giving c d f bs vs e w)
      where
        as-values : (r : Answer Value Env) → Giving (ExnsAre vs) r → Giving (Fits (static.values_env vs)) r
        as-values (gives d w) h = values-fit vs d h.same h.only
        as-values (raises p w) h = tt
        as-values (stops c w) h = tt
    dec-giving (Typing.local_has p {ds = ds} {ds' = ds'} h k) d f w =
        then-giving _ _ (eval_decs call d ds w) (λ d' w. eval_decs call (plus d d') ds' w) (decs-giving h d f w) (λ d' w' g. decs-giving k (plus d d') (fits-plus f g) w')
    dec-giving (Typing.open_has p {xs = xs} {d = s} e) d f w = or-giving _ (opened d xs) w (λ d. gives d w) (λ t h. opened-fit f xs s t e h)
    dec-giving (Typing.sequence_has p h) d f w = decs-giving h d f w

pub declarations-fit : DeclarationsFit
declarations-fit m c ds made e k call d w h f = decs-giving m call h d f w
