-- Out of a declaration, and into it again.
use Rattle.std.proofs.Common.{◌≡◌, ◌<◌, ◌≤◌, ◌+◌, ◌-◌, ℕ, zero, suc, Bool, true, false, cond, List, [], ◌∷◌, ◌++◌, take, drop, length, get_or, Some, None, nat_eq, eq-eqb, refl, sym, ap, ap₂, subst, ◌∙◌, arith}
use Rattle.std.specs.Prelude.{unwrap_or}
use Rattle.std.specs.List.{AllByRecursion}
use Rattle.std.specs.Map.{lookup}
use Rattle.std.proofs.lemmas.Bool.{eqb-true}
use Rattle.std.proofs.lemmas.List.{length-append}
use Rattle.sml_tree.specs.declared.ident.Tyvar.{Tyvar}
use Rattle.sml_tree.specs.declared.ident.Vid.{Vid}
use Rattle.ty_table.specs.TypeAt.{type_at}
use Rattle.ty_solve.specs.Substitution.{is_below}
use Rattle.elab_types.specs.Reading.{left_at}
use Rattle.elab_types.specs.declared.scope.TypeScope.{TypeScope}
use Rattle.elab_state.specs.States.{made, types_in}
use Rattle.elab_state.specs.declared.state.State.{State}
use Rattle.elab_steps.specs.Tidy.{IsLive}
use Rattle.elab_context.specs.Entries.{entry_in}
use Rattle.elab_context.specs.Numbered.{IsBelowIf}
use Rattle.elab_context.specs.Telling.{IsContext, IsHeld}
use Rattle.elab_context.specs.declared.context.Context.{Context}
use Rattle.elab_context.specs.declared.entry.Entry.{Entry}
use Rattle.general_vals.specs.of_general_worlds.Inner.{deeper}
use Rattle.rec_groups.specs.of_dec_forms.Entries.{type_scope}
use Rattle.general_decs.specs.Outside.{outside, types_found, tyvars_onto}
use Rattle.general_decs.specs.Scoped.{CameByName, IsBegun, IsFurther}
use Rattle.general_decs.proofs.Beginning.{held-as}

-- what a state has of a context it has of the one outside

drop-all : {A : Type 0} (P : A → Type 0) (k : ℕ) (xs : List A) → AllByRecursion P xs → AllByRecursion P (drop k xs)
drop-all P zero xs h = h
drop-all P (suc k) [] h = tt
drop-all P (suc k) (x ∷ xs) h = drop-all P k xs h.1

pub context_outside : (T : State) (D : Context) (n : ℕ) → IsContext T D → IsContext T (outside D n)
context_outside T D n i = record {
  wide = i.wide;
  deep = let a = i.deep in omega (arith, a);
  naming = i.naming;
  holds = record {
    tyvars = drop-all (λ (b : ℕ × ℕ). b.1 < length (types_in T)) (length D.types.tyvars - n) D.types.tyvars i.holds.tyvars;
    bodies = i.holds.bodies;
    closed = i.holds.closed;
  };
  known = drop-all (λ (b : ℕ × ℕ). is_below (made T) (type_at (types_in T) b.1) ≡ true) (length D.types.tyvars - n) D.types.tyvars i.known;
  schemes = i.schemes;
  entries = entry;
  numbered = number;
  live = drop-all (λ (b : ℕ × ℕ). IsLive T b.1) (length D.types.tyvars - n) D.types.tyvars i.live;
  level = let a = i.level in omega (arith, a);
  tidy = i.tidy;
}
  where
    entry : (qs : List ℕ) (x : Vid) (f : Entry) → entry_in (outside D n) qs x ≡ Some f → IsHeld T (outside D n) f
    entry [] x f q = held-as T D (outside D n) f refl (i.entries [] x f q)
    entry (m ∷ []) x f q = held-as T D (outside D n) f refl (i.entries (m ∷ []) x f q)
    entry (m ∷ o ∷ ns) x f q = held-as T D (outside D n) f refl (i.entries (m ∷ o ∷ ns) x f q)

    number : (qs : List ℕ) (x : Vid) (f : Entry) → entry_in (outside D n) qs x ≡ Some f → IsBelowIf T.next f
    number [] x f q = i.numbered [] x f q
    number (m ∷ []) x f q = i.numbered (m ∷ []) x f q
    number (m ∷ o ∷ ns) x f q = i.numbered (m ∷ o ∷ ns) x f q

-- inside a declaration it is the context where that began

drop-front : {A : Type 0} (xs ys : List A) → drop (length (xs ++ ys) - length ys) (xs ++ ys) ≡ ys
drop-front xs ys =
    let e : length (xs ++ ys) - length ys ≡ length xs = let l = length-append xs ys in omega (arith, l) in
    ap (λ n. drop n (xs ++ ys)) e ∙ past xs ys
  where
    past : {A : Type 0} (xs ys : List A) → drop (length xs) (xs ++ ys) ≡ ys
    past [] ys = refl
    past (x ∷ xs) ys = past xs ys

tyvars-left : (old new : List (ℕ × ℕ)) (n : ℕ) → n ≡ length old → IsFurther old new → left_at n new ≡ old
tyvars-left old new n e f = ap (λ k. left_at k new) e ∙ ap (left_at (length old)) f.is ∙ drop-front f.own old

pub outside_is : (S T : State) (C D : Context) (scoped : List Tyvar) (n : ℕ) → n ≡ length C.types.tyvars → IsBegun S C scoped T D → outside D n ≡ C
outside_is S T C D scoped n e b =
    let x : left_at n D.types.tyvars ≡ C.types.tyvars = tyvars-left C.types.tyvars D.types.tyvars n e b.further in
    let l : D.level ≡ suc C.level = ap (λ (k : Context). k.level) b.deep in
    let y : D.level - 1 ≡ C.level = omega (arith, l) in
    ap (λ (k : Context). record k { types = type_scope (left_at n D.types.tyvars) D.types.types; level = D.level - 1 }) b.deep
    ∙ λ i. record C { types = type_scope (x i) (b.types i); level = y i }

pub outside_named : (S T : State) (C D : Context) (scoped : List Tyvar) (n : ℕ) → n ≡ length C.types.tyvars → IsBegun S C scoped T D
    → CameByName scoped (left_at n D.types.tyvars) D.types.tyvars
outside_named S T C D scoped n e b =
    subst (λ l. CameByName scoped l D.types.tyvars) (sym (tyvars-left C.types.tyvars D.types.tyvars n e b.further)) b.named

-- and one deeper than that
pub deeper_is : (D : Context) (n : ℕ) → 0 < D.level → D ≡ deeper (outside D n) D.types
deeper_is D n lt = let e : D.level ≡ suc (D.level - 1) = omega (arith, lt) in ap (λ k. record D { level = k }) e

-- type variables with distinct names are found

found-later : (x k : ℕ) (as_ : List Tyvar) (old new : List (ℕ × ℕ)) → lookup (nat_eq x) old ≡ Some k → CameByName as_ old new → lookup (nat_eq x) new ≡ Some k
found-later x k [] old new f h = ap (lookup (nat_eq x)) h ∙ f
found-later x k (a ∷ as_) old new f h = found-later x k as_ ((a.name, h.0) ∷ old) new (by (nat_eq x a.name) refl) h.2
  where
    by : (b : Bool) → nat_eq x a.name ≡ b → cond (nat_eq x a.name) (Some h.0) (lookup (nat_eq x) old) ≡ Some k
    by true e =
        let same : x ≡ a.name = eqb-true x a.name e in
        let no : None ≡ Some k = sym h.1 ∙ ap (λ y. lookup (nat_eq y) old) (sym same) ∙ f in absurd (cc)
    by false e = ap (λ b. cond b (Some h.0) (lookup (nat_eq x) old)) e ∙ f

found-first : (x k : ℕ) (old : List (ℕ × ℕ)) → lookup (nat_eq x) ((x, k) ∷ old) ≡ Some k
found-first x k old = let e : nat_eq x x ≡ true = eq-eqb x x refl in ap (λ b. cond b (Some k) (lookup (nat_eq x) old)) e

again : (as_ : List Tyvar) (old new : List (ℕ × ℕ)) → CameByName as_ old new → tyvars_onto old as_ (types_found new as_) ≡ new
again [] old new h = sym h
again (a ∷ as_) old new h =
    let k = h.0 in
    let f : lookup (nat_eq a.name) new ≡ Some k = found-later a.name k as_ ((a.name, k) ∷ old) new (found-first a.name k old) h.2 in
    ap (λ o. tyvars_onto ((a.name, unwrap_or o 0) ∷ old) as_ (types_found new as_)) f ∙ again as_ ((a.name, k) ∷ old) new h.2

pub stepped_in : (D C N : Context) (n level : ℕ) (s : TypeScope) (as_ : List Tyvar) (ts : List ℕ) → C ≡ outside D n → level ≡ D.level → ts ≡ types_found D.types.tyvars as_
    → CameByName as_ (left_at n D.types.tyvars) D.types.tyvars → s.tyvars ≡ tyvars_onto C.types.tyvars as_ ts → s.types ≡ C.types.types
    → N ≡ record C { types = s; level = level } → N ≡ D
stepped_in D C N n level s as_ ts e l t came tv ty is =
    let x : s.tyvars ≡ D.types.tyvars =
    tv ∙ ap₂ (λ (k : Context) (us : List ℕ). tyvars_onto k.types.tyvars as_ us) e t ∙ again as_ (left_at n D.types.tyvars) D.types.tyvars came in
    let y : s.types ≡ D.types.types = ty ∙ ap (λ (k : Context). k.types.types) e in
    is ∙ ap (λ (k : Context). record k { types = s; level = level }) e ∙ λ i. record D { types = type_scope (x i) (y i); level = l i }

-- loops

onto-suc : (old : List (ℕ × ℕ)) (as_ : List Tyvar) (ts : List ℕ) (i : ℕ) (a : Tyvar) (k : ℕ) → i < length as_ → i < length ts → a ≡ get_or as_ i a → k ≡ get_or ts i 0
    → tyvars_onto old (take (suc i) as_) (take (suc i) ts) ≡ (a.name, k) ∷ tyvars_onto old (take i as_) (take i ts)
onto-suc old [] ts i a k lt la e q = absurd (omega (arith, lt))
onto-suc old (b ∷ as_) [] i a k lt la e q = absurd (omega (arith, la))
onto-suc old (b ∷ as_) (j ∷ ts) zero a k lt la e q = ap₂ (λ (c : Tyvar) n. (c.name, n) ∷ old) (sym e) (sym q)
onto-suc old (b ∷ as_) (j ∷ ts) (suc i) a k lt la e q = onto-suc ((b.name, j) ∷ old) as_ ts i a k (omega (arith, lt)) (omega (arith, la)) e q

pub onto-next : (old mid new : List (ℕ × ℕ)) (as_ : List Tyvar) (ts : List ℕ) (i : ℕ) (a : Tyvar) (k : ℕ) → length ts ≡ length as_ → i < length as_ → a ≡ get_or as_ i a
    → k ≡ get_or ts i 0 → mid ≡ tyvars_onto old (take i as_) (take i ts) → new ≡ (a.name, k) ∷ mid → new ≡ tyvars_onto old (take (i + 1) as_) (take (i + 1) ts)
onto-next old mid new as_ ts i a k n lt e q m is =
    let up : suc i ≡ i + 1 = omega arith in
    is ∙ ap (λ l. (a.name, k) ∷ l) m ∙ sym (onto-suc old as_ ts i a k lt (omega (arith, n, lt)) e q) ∙ ap (λ j. tyvars_onto old (take j as_) (take j ts)) up

taken : {A : Type 0} (xs : List A) (i : ℕ) → length xs ≤ i → take i xs ≡ xs
taken [] zero le = refl
taken [] (suc i) le = refl
taken (x ∷ xs) zero le = absurd (omega (arith, le))
taken (x ∷ xs) (suc i) le = ap (λ l. x ∷ l) (taken xs i (omega (arith, le)))

pub onto-ends : (old new : List (ℕ × ℕ)) (as_ : List Tyvar) (ts : List ℕ) (i : ℕ) → length ts ≡ length as_ → length as_ ≤ i → new ≡ tyvars_onto old (take i as_) (take i ts)
    → new ≡ tyvars_onto old as_ ts
onto-ends old new as_ ts i n le e = e ∙ ap₂ (tyvars_onto old) (taken as_ i le) (taken ts i (omega (arith, n, le)))
