-- Parameters in scope.
use Rattle.std.proofs.Common.{◌≡◌, ◌<◌, ◌≤◌, ◌+◌, ◌-◌, ℕ, zero, suc, Bool, true, false, cond, List, [], ◌∷◌, length, take, drop, get_or, Some, nat_eq, slice_get, refl, sym, ap, ap₂, subst, ◌∙◌, arith}
use Rattle.std.specs.Prelude.{option_map}
use Rattle.std.specs.List.{AllByRecursion}
use Rattle.std.specs.Map.{lookup}
use Rattle.std.proofs.lemmas.Bool.{and_parts, lt-ltb, ltb-true}
use Rattle.std.proofs.lemmas.Option.{slice_get_within, get_or_from_slice_get}
use Rattle.ty_core.specs.Types.{Typ, Typs, var, con, none, more}
use Rattle.ty_core.specs.Statics.{replace, replace_all}
use Rattle.ty_table.specs.TypeAt.{top, tops, type_at}
use Rattle.ty_solve.specs.Substitution.{are_below, is_below}
use Rattle.ty_instance.proofs.Going.{stays-on}
use Rattle.sml_tree.specs.BareTree.{Ty}
use Rattle.sml_tree.specs.declared.ident.Tyvar.{Tyvar}
use Rattle.core_rules.specs.Elaborated.{scope, with_parameters}
use Rattle.core_rules.specs.Objects.{at}
use Rattle.elab_types.specs.Annotations.{IsTypeOf}
use Rattle.elab_types.specs.Reading.{AreKnown, Holds, entry_of, function_in}
use Rattle.elab_types.specs.declared.scope.TypeScope.{TypeScope}
use Rattle.elab_steps.specs.Growing.{Begins}
use Rattle.elab_steps.proofs.Growing.{found-later}
use Rattle.closed_types.specs.Parameters.{AreParameters, IsClosedType, IsOverKnown}

-- one more in front

pub parameters-later : (ts us : List Typ) (k : ℕ) (as_ : List Tyvar) (bs : List (ℕ × ℕ)) → Begins ts us → AreParameters ts k as_ bs → AreParameters us k as_ bs
parameters-later ts us k [] [] b h = tt
parameters-later ts us k [] (u ∷ bs) b h = h
parameters-later ts us k (a ∷ as_) [] b h = h
parameters-later ts us k (a ∷ as_) (u ∷ bs) b h = (h.0, (found-later ts us u.1 (var k) b h.1.0, parameters-later ts us (suc k) as_ bs b h.1.1))

-- while they come into scope, the last first
pub record Entered (ts : List Typ) (as_ : List Tyvar) (i : ℕ) (old : TypeScope) (scope : TypeScope) (start : List Typ) : Type 0 where
  pub most : i ≤ length as_
  pub are : AreParameters ts i (drop i as_) scope.tyvars
  pub types : scope.types ≡ old.types
  pub earlier : take (length start) ts ≡ start

past-all : {A : Type 0} (xs : List A) → drop (length xs) xs ≡ []
past-all [] = refl
past-all (x ∷ xs) = past-all xs

drop-one : {A : Type 0} (xs : List A) (i : ℕ) (d : A) → i < length xs → drop i xs ≡ get_or xs i d ∷ drop (suc i) xs
drop-one [] i d lt = absurd (omega arith)
drop-one (x ∷ xs) zero d lt = refl
drop-one (x ∷ xs) (suc i) d lt = drop-one xs i d (omega arith)

pub none-entered : (ts : List Typ) (as_ : List Tyvar) (i : ℕ) (s : TypeScope) → i ≡ length as_ → s.tyvars ≡ [] → take (length ts) ts ≡ ts → Entered ts as_ i s s ts
none-entered ts as_ i s e n w = record {
  most = omega (arith, e);
  are = subst (λ l. AreParameters ts i l s.tyvars) (sym (ap (λ j. drop j as_) e ∙ past-all as_)) (subst (AreParameters ts i []) (sym n) tt);
  types = refl;
  earlier = w;
}

pub one-entered : (ts us start : List Typ) (as_ : List Tyvar) (i n : ℕ) (a : Tyvar) (k : ℕ) (first old new : TypeScope) → 0 < i → Entered ts as_ i first old start → n ≡ i - 1 → a ≡ get_or as_ n a
    → Begins ts us → slice_get us k ≡ Some (var n) → new.tyvars ≡ (a.name, k) ∷ old.tyvars → new.types ≡ old.types → Entered us as_ n first new start
one-entered ts us start as_ i n a k first old new lt h en ea b g tv ty =
    let m = h.most in
    let up : i ≡ suc n = omega (arith, lt, en) in
    let within : n < length as_ = omega (arith, m, up) in
    let here : drop n as_ ≡ a ∷ drop (suc n) as_ = drop-one as_ n a within ∙ ap (λ (z : Tyvar). z ∷ drop (suc n) as_) (sym ea) in
    let rest : AreParameters us (suc n) (drop (suc n) as_) old.tyvars =
    parameters-later ts us (suc n) (drop (suc n) as_) old.tyvars b (subst (λ j. AreParameters ts j (drop j as_) old.tyvars) up h.are) in
    record {
      most = omega (arith, within);
      are = subst (λ l. AreParameters us n l new.tyvars) (sym here) (subst (AreParameters us n (a ∷ drop (suc n) as_)) (sym tv) (refl, (g, rest)));
      types = ty ∙ h.types;
      earlier = stays-on start ts us h.earlier b;
    }

-- what they are

mutual
  same-type : (t : Typ) → replace var t ≡ t
  same-type (var v) = refl
  same-type (con y ts) = ap (con y) (same-types ts)

  same-types : (ts : Typs) → replace_all var ts ≡ ts
  same-types none = refl
  same-types (more t ts) = ap₂ more (same-type t) (same-types ts)

pub parameter-found : (ts : List Typ) (k : ℕ) (as_ : List Tyvar) (bs : List (ℕ × ℕ)) (x : ℕ) → AreParameters ts k as_ bs
    → at nat_eq (scope k var as_) x ≡ option_map (λ n. replace var (type_at ts n)) (lookup (nat_eq x) bs)
parameter-found ts k [] [] x h = refl
parameter-found ts k [] (u ∷ bs) x h = absurd h
parameter-found ts k (a ∷ as_) [] x h = absurd h
parameter-found ts k (a ∷ as_) (u ∷ bs) x h =
    ap (λ n. cond (nat_eq x n) (Some (var k)) (at nat_eq (scope (suc k) var as_) x)) (sym h.0) ∙ by (nat_eq x u.0) (parameter-found ts (suc k) as_ bs x h.1.1)
  where
    by : (b : Bool) → at nat_eq (scope (suc k) var as_) x ≡ option_map (λ n. replace var (type_at ts n)) (lookup (nat_eq x) bs)
        → cond b (Some (var k)) (at nat_eq (scope (suc k) var as_) x) ≡ option_map (λ n. replace var (type_at ts n)) (cond b (Some u.1) (lookup (nat_eq x) bs))
    by true e = ap Some (sym (ap (replace var) (get_or_from_slice_get ts u.1 (var k) (var 0) h.1.0)))
    by false e = e

pub parameters-held : (ts : List Typ) (k : ℕ) (as_ : List Tyvar) (bs : List (ℕ × ℕ)) → AreParameters ts k as_ bs → AllByRecursion (λ b. b.1 < length ts) bs
parameters-held ts k [] [] h = tt
parameters-held ts k [] (u ∷ bs) h = absurd h
parameters-held ts k (a ∷ as_) [] h = absurd h
parameters-held ts k (a ∷ as_) (u ∷ bs) h = (slice_get_within ts u.1 (var k) h.1.0, parameters-held ts (suc k) as_ bs h.1.1)

parameters-below : (ts : List Typ) (n k : ℕ) (as_ : List Tyvar) (bs : List (ℕ × ℕ)) → k + length as_ ≤ n → AreParameters ts k as_ bs
    → AllByRecursion (λ b. is_below n (type_at ts b.1) ≡ true) bs
parameters-below ts n k [] [] le h = tt
parameters-below ts n k [] (u ∷ bs) le h = absurd h
parameters-below ts n k (a ∷ as_) [] le h = absurd h
parameters-below ts n k (a ∷ as_) (u ∷ bs) le h = (
  subst (λ t. is_below n t ≡ true) (sym (get_or_from_slice_get ts u.1 (var k) (var 0) h.1.0)) (lt-ltb k n (omega (arith, le))),
  parameters-below ts n (suc k) as_ bs (omega (arith, le)) h.1.1,
)

pub parameters-known : (ts : List Typ) (as_ : List Tyvar) (s : TypeScope) → AreParameters ts 0 as_ s.tyvars → AreKnown (length as_) ts s
parameters-known ts as_ s h = parameters-below ts (length as_) 0 as_ s.tyvars (omega arith) h

-- in a scope with parameters

pub holds-entered : (ts : List Typ) (as_ : List Tyvar) (old s : TypeScope) → Holds ts old → s.types ≡ old.types → AreParameters ts 0 as_ s.tyvars → Holds ts s
holds-entered ts as_ old s h e p = record {
  tyvars = parameters-held ts 0 as_ s.tyvars p;
  bodies = subst (AllByRecursion (λ b. b.1.body < length ts)) (sym e) h.bodies;
  closed = subst (AllByRecursion (λ b. top (type_at ts b.1.body) ≤ b.1.arity)) (sym e) h.closed;
}

pub closed-is : (old new : List Typ) (as_ : List Tyvar) (outer s : TypeScope) (ty : Ty) (r : ℕ) → s.types ≡ outer.types → AreParameters old 0 as_ s.tyvars → IsTypeOf old new s ty r
    → IsOverKnown old new s r → IsClosedType old new outer as_ ty r
closed-is old new as_ outer s ty r e p i k = record {
  held = i.held;
  below = k (length as_) (parameters-known old as_ s p);
  is = λ c h.
      i.is var (with_parameters c as_) (record { tyvars = λ a. parameter-found old 0 as_ s.tyvars a p; types = λ qs x. h qs x ∙ ap (option_map (function_in old)) (entry qs x) })
      ∙ ap Some (same-type (type_at new r));
}
  where
    entry : (qs : List ℕ) (x : ℕ) → entry_of outer qs x ≡ entry_of s qs x
    entry [] x = ap (lookup (nat_eq x)) (sym e)
    entry (q ∷ qs) x = refl

-- a type below n has no variable from the n-th on
mutual
  pub top-below : (n : ℕ) (t : Typ) → is_below n t ≡ true → top t ≤ n
  top-below n (var v) e = let lt = ltb-true v n e in omega (arith, lt)
  top-below n (con h ts) e = tops-below n ts e

  tops-below : (n : ℕ) (ts : Typs) → are_below n ts ≡ true → tops ts ≤ n
  tops-below n none e = omega arith
  tops-below n (more t ts) e =
      let p = and_parts (is_below n t) (are_below n ts) e in
      let a = top-below n t p.0 in
      let b = tops-below n ts p.1 in
      omega (arith, a, b)
