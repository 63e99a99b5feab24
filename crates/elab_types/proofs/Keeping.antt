-- What is said of a scope stays said while the table grows; types are collected one by one.
use Rattle.std.proofs.Common.{◌≡◌, ℕ, zero, suc, ◌+◌, ◌<◌, ◌≤◌, List, [], ◌∷◌, ◌++◌, map, length, take, get_or, nat_eq, Option, Some, None, Ok, Err, IfErr, Result, refl, sym, ap, subst, ◌∙◌, arith}
use Rattle.std.specs.Prelude.{option_map}
use Rattle.std.specs.Option.{option_zip}
use Rattle.std.specs.List.{AllByRecursion}
use Rattle.std.specs.Result.{IsErrAnd}
use Rattle.std.specs.Map.{lookup}
use Rattle.ty_core.specs.Types.{Typ}
use Rattle.ty_core.specs.Statics.{TypeFunction, replace}
use Rattle.ty_table.specs.TypeAt.{type_at, top, AllBelow}
use Rattle.ty_instance.proofs.of_ty_solve.Holding.{type-stays}
use Rattle.ty_instance.proofs.Going.{stays-on, longer, below-grown, whole}
use Rattle.sml_tree.specs.BareTree.{Ty}
use Rattle.core_rules.specs.Objects.{Context}
use Rattle.core_rules.specs.Elaborated.{type_of}
use Rattle.elab_types.specs.Reading.{entry_of, function_in, Reads, Holds}
use Rattle.elab_types.specs.Annotations.{IsTypeOf, Each, AreTypesOf, each_type, IsRefusal}
use Rattle.elab_types.specs.declared.scope.TypeEntry.{TypeEntry}
use Rattle.elab_types.specs.declared.scope.TypeScope.{TypeScope}
use Rattle.elab_types.specs.declared.refused.Refused.{Refused}
use Rattle.elab_types.specs.declared.refused.Refused.TheVariants.{Unbound, Mistyped, Broken, Large, Memory}
use Rattle.elab_types.proofs.Holding.{tyvar-held, body-held, body-closed}
use Rattle.elab_types.proofs.Lists.{next-map-at}

pub entry-held : (ts : List Typ) (s : TypeScope) → Holds ts s → (qs : List ℕ) (x : ℕ) (e : TypeEntry) → entry_of s qs x ≡ Some e → e.body < length ts
entry-held ts s h [] x e q = body-held ts s h x e q
entry-held ts s h (n ∷ qs) x e q = cc

pub entry-closed : (ts : List Typ) (s : TypeScope) → Holds ts s → (qs : List ℕ) (x : ℕ) (e : TypeEntry) → entry_of s qs x ≡ Some e → top (type_at ts e.body) ≤ e.arity
entry-closed ts s h [] x e q = body-closed ts s h x e q
entry-closed ts s h (n ∷ qs) x e q = cc

within : (k m n : ℕ) → k < m → m ≤ n → k < n
within k m n p q = omega arith

module _ (old T : List Typ) (e : take (length old) T ≡ old) where
  tyvars-later : (xs : List (ℕ × ℕ)) → AllByRecursion (λ b. b.1 < length old) xs → AllByRecursion (λ b. b.1 < length T) xs
  tyvars-later [] h = tt
  tyvars-later (x ∷ xs) h = (within x.1 (length old) (length T) h.0 (longer old T e), tyvars-later xs h.1)

  bodies-later : (xs : List (ℕ × TypeEntry)) → AllByRecursion (λ b. b.1.body < length old) xs → AllByRecursion (λ b. b.1.body < length T) xs
  bodies-later [] h = tt
  bodies-later (x ∷ xs) h = (within x.1.body (length old) (length T) h.0 (longer old T e), bodies-later xs h.1)

  closed-later : (xs : List (ℕ × TypeEntry)) → AllByRecursion (λ b. b.1.body < length old) xs → AllByRecursion (λ b. top (type_at old b.1.body) ≤ b.1.arity) xs
      → AllByRecursion (λ b. top (type_at T b.1.body) ≤ b.1.arity) xs
  closed-later [] h k = tt
  closed-later (x ∷ xs) h k = (subst (λ t. top t ≤ x.1.arity) (sym (type-stays old T x.1.body e h.0)) k.0, closed-later xs h.1 k.1)

pub holds_later : (old T : List Typ) (s : TypeScope) → take (length old) T ≡ old → Holds old s → Holds T s
holds_later old T s e h = record {
  tyvars = tyvars-later old T e s.tyvars h.tyvars;
  bodies = bodies-later old T e s.types h.bodies;
  closed = closed-later old T e s.types h.bodies h.closed;
}

abbrev function_from : ℕ → Typ → TypeFunction
function_from n t = record { arity = n; body = t }

pub reads-later : (old T : List Typ) (s : TypeScope) (f : ℕ → Typ) (c : Context) → take (length old) T ≡ old → Holds old s → Reads old s f c → Reads T s f c
reads-later old T s f c e h r = record {
  tyvars = λ a. r.tyvars a ∙ tyvar (lookup (nat_eq a) s.tyvars) (λ k q. tyvar-held old s h a k q);
  types = λ qs x. r.types qs x ∙ entry (entry_of s qs x) (λ n q. entry-held old s h qs x n q);
}
  where
    tyvar : (o : Option ℕ) → ((k : ℕ) → o ≡ Some k → k < length old) → option_map (λ k. replace f (type_at old k)) o ≡ option_map (λ k. replace f (type_at T k)) o
    tyvar None b = refl
    tyvar (Some k) b = ap (λ t. Some (replace f t)) (sym (type-stays old T k e (b k refl)))

    entry : (o : Option TypeEntry) → ((n : TypeEntry) → o ≡ Some n → n.body < length old) → option_map (function_in old) o ≡ option_map (function_in T) o
    entry None b = refl
    entry (Some n) b = ap (λ t. Some (function_from n.arity t)) (sym (type-stays old T n.body e (b n refl)))

each-stays : (c : Context) (f : ℕ → Typ) (ts us : List Typ) (tys : List Ty) (ks : List ℕ) → take (length ts) us ≡ ts → AllBelow (length ts) ks → Each c f ts tys ks → Each c f us tys ks
each-stays c f ts us [] [] e b h = tt
each-stays c f ts us [] (k ∷ ks) e b h = h
each-stays c f ts us (t ∷ tys) [] e b h = h
each-stays c f ts us (t ∷ tys) (k ∷ ks) e b h = (h.0 ∙ ap (λ u. Some (replace f u)) (sym (type-stays ts us k e b.0)), each-stays c f ts us tys ks e b.1 h.1)

each-more : (c : Context) (f : ℕ → Typ) (ts : List Typ) (tys : List Ty) (ks : List ℕ) (t : Ty) (r : ℕ) → Each c f ts tys ks → type_of c t ≡ Some (replace f (type_at ts r)) → Each c f ts (tys ++ t ∷ []) (ks ++ r ∷ [])
each-more c f ts [] [] t r h e = (e, tt)
each-more c f ts [] (k ∷ ks) t r h e = absurd h
each-more c f ts (u ∷ tys) [] t r h e = absurd h
each-more c f ts (u ∷ tys) (k ∷ ks) t r h e = (h.0, each-more c f ts tys ks t r h.1 e)

below-end : (n : ℕ) (ks : List ℕ) (r : ℕ) → AllBelow n ks → r < n → AllBelow n (ks ++ r ∷ [])
below-end n [] r h lt = (lt, tt)
below-end n (k ∷ ks) r h lt = (h.0, below-end n ks r h.1 lt)

-- the types of some type expressions are collected, and the table has grown
pub record Collected (old T : List Typ) (s : TypeScope) (tys : List Ty) (ks : List ℕ) : Type 0 where
  pub kept : take (length old) T ≡ old
  pub are : AreTypesOf old T s tys ks

pub collected-none : (old : List Typ) (s : TypeScope) (ks : List ℕ) → ks ≡ [] → Collected old old s [] ks
collected-none old s ks e = subst (λ l. Collected old old s [] l) (sym e) (record { kept = whole old; are = record { held = tt; are = λ f c r. tt } })

module _ {A : Type 0} (g : A → Ty) (xs : List A) where
  pub loop-more : (i : ℕ) (d : A) (t : Ty) (old T T' : List Typ) (s : TypeScope) (ks ks' : List ℕ) (r : ℕ) → i < length xs → t ≡ g (get_or xs i d) → Holds old s
      → Collected old T s (map g (take i xs)) ks → IsTypeOf T T' s t r → take (length T) T' ≡ T → ks' ≡ ks ++ r ∷ [] → Collected old T' s (map g (take (i + 1) xs)) ks'
  loop-more i d t old T T' s ks ks' r lt e h l is k q =
      subst (λ n. Collected old T' s (map g (take (i + 1) xs)) n) (sym q)
      (subst (λ n. Collected old T' s n (ks ++ r ∷ [])) (sym (next-map-at g xs i d lt ∙ ap (λ u. map g (take i xs) ++ u ∷ []) (sym e))) (record {
        kept = stays-on old T T' l.kept k;
        are = record {
          held = below-end (length T') ks r (below-grown T T' ks k l.are.held) is.held;
          are = λ f c q. each-more c f T' (map g (take i xs)) ks t r (each-stays c f T T' (map g (take i xs)) ks k l.are.held (l.are.are f c q)) (is.is f c (reads-later old T s f c l.kept h q));
        };
      }))

-- refusals

pub zip-none : {A B : Type 0} (o : Option A) (p : Option B) → p ≡ None → option_zip o p ≡ None
zip-none None p e = refl
zip-none (Some a) p e = ap (option_zip (Some a)) e

module _ {A : Type 0} (c : Context) (g : A → Ty) (d : A) where
  pub none-at : (xs : List A) (i : ℕ) → i < length xs → type_of c (g (get_or xs i d)) ≡ None → each_type c (map g xs) ≡ None
  none-at [] i lt h = absurd (omega (arith, lt))
  none-at (y ∷ xs) zero lt h = ap (λ o. option_map (λ r. r.0 ∷ r.1) (option_zip o (each_type c (map g xs)))) h
  none-at (y ∷ xs) (suc i) lt h = ap (option_map (λ r. r.0 ∷ r.1)) (zip-none (type_of c (g y)) (each_type c (map g xs)) (none-at xs i (omega (arith, lt)) h))

pub refused-in : {A B : Type 0} (old T : List Typ) (s : TypeScope) (child : Context → Option A) (parent : Context → Option B) (e : Refused)
    → ((f : ℕ → Typ) (c : Context) → Reads old s f c → Reads T s f c) → ((f : ℕ → Typ) (c : Context) → Reads old s f c → child c ≡ None → parent c ≡ None)
    → IsRefusal T s child e → IsRefusal old s parent e
refused-in old T s child parent Memory l k h = tt
refused-in old T s child parent (Large p) l k h = h
refused-in old T s child parent (Unbound p) l k h = λ f c r. k f c r (h f c (l f c r))
refused-in old T s child parent (Mistyped p) l k h = λ f c r. k f c r (h f c (l f c r))
refused-in old T s child parent (Broken p) l k h = λ f c r. k f c r (h f c (l f c r))

pub refused-memory : {A : Type 0} (old : List Typ) (s : TypeScope) (parent : Context → Option A) (e : Refused) → e ≡ Memory → IsRefusal old s parent e
refused-memory old s parent e q = subst (IsRefusal old s parent) (sym q) tt

-- what the exit of a `?` passes on
pub passes : {T : Type 0} (r : Result T Refused) (e : Refused) → IsErrAnd r (λ x. x ≡ e) → (P : Refused → Type 0) → P e → IfErr r P
passes (Ok x) e g P h = absurd g
passes (Err x) e g P h = subst P (sym g) h

module _ {A : Type 0} (g : A → Ty) (xs : List A) where
  pub loop-refused : (i : ℕ) (d : A) (t : Ty) (old T : List Typ) (s : TypeScope) (e : Refused) → i < length xs → t ≡ g (get_or xs i d) → Holds old s → take (length old) T ≡ old
      → IsRefusal T s (λ c. type_of c t) e → IsRefusal old s (λ c. each_type c (map g xs)) e
  loop-refused i d t old T s e lt q h k is =
      refused-in old T s (λ c. type_of c t) (λ c. each_type c (map g xs)) e (λ f c r. reads-later old T s f c k h r) (λ f c r n. none-at c g d xs i lt (ap (type_of c) (sym q) ∙ n)) is

pub typed-as : (old new : List Typ) (s : TypeScope) (t u : Ty) (r : ℕ) → t ≡ u → IsTypeOf old new s u r → IsTypeOf old new s t r
typed-as old new s t u r e h = subst (λ u. IsTypeOf old new s u r) (sym e) h
