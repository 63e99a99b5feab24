-- Where a declaration begins: its type variables come into scope, and its context is one deeper.
use Rattle.general_vals.proofs.of_general_worlds.Declaring.{entered-type}
use Rattle.general_vals.proofs.of_general_worlds.Contexts.{context-inside}
use Rattle.general_vals.specs.of_general_worlds.Inner.{deeper}
use Rattle.general_vals.specs.of_general_worlds.Tidy.{Enters}
use Rattle.std.proofs.Common.{◌≡◌, ◌<◌, ◌≤◌, ◌+◌, ℕ, suc, Bool, true, false, List, [], ◌∷◌, ◌++◌, length, take, get_or, Option, Some, None, slice_get, nat_eq, refl, sym, ap, subst, ◌∙◌, arith}
use Rattle.std.specs.Prelude.{is_some}
use Rattle.std.specs.List.{AllByRecursion}
use Rattle.std.specs.Map.{lookup}
use Rattle.std.proofs.Math.Seq.{take-suc}
use Rattle.std.proofs.lemmas.Option.{slice_get_within, get_or_from_slice_get}
use Rattle.ty_core.specs.Types.{var}
use Rattle.ty_table.specs.TypeAt.{type_at, top}
use Rattle.ty_solve.specs.Substitution.{is_below}
use Rattle.sml_tree.specs.declared.ident.Tyvar.{Tyvar}
use Rattle.elab_types.specs.Reading.{AreKnown, Holds}
use Rattle.elab_types.specs.declared.scope.TypeEntry.{TypeEntry}
use Rattle.elab_types.specs.declared.scope.TypeScope.{TypeScope}
use Rattle.elab_state.specs.States.{dead_level, made, types_in}
use Rattle.elab_state.specs.declared.state.State.{State}
use Rattle.elab_steps.specs.Growing.{Always, AreLive, Grows, HasType}
use Rattle.elab_steps.specs.Tidy.{IsLive}
use Rattle.elab_steps.specs.World.{World}
use Rattle.elab_steps.proofs.Growing.{comes_before, grows_same}
use Rattle.elab_context.specs.Telling.{IsContext, IsHeld}
use Rattle.elab_context.specs.declared.context.Context.{Context}
use Rattle.elab_context.specs.declared.entry.Entry.{Entry}
use Rattle.elab_context.specs.declared.entry.Entry.TheVariants.{Constructor, Reference, Initial, Primitive, Raised, Single, Own, General}
use Rattle.elab_context.proofs.Reading.{context_later}
use Rattle.general_decs.specs.Scoped.{CameByName, CameIntoScope, IsBegun, IsFurther}

-- contexts with the same schemes

pub held-as : (S : State) (C D : Context) (e : Entry) → D.schemes ≡ C.schemes → IsHeld S C e → IsHeld S D e
held-as S C D (Constructor s n y) q h = subst (λ (z : _). s < length z.items) (sym q) h
held-as S C D (Reference s) q h = subst (λ (z : _). s < length z.items) (sym q) h
held-as S C D (Initial s n) q h = subst (λ (z : _). s < length z.items) (sym q) h
held-as S C D (Primitive s p) q h = subst (λ (z : _). s < length z.items) (sym q) h
held-as S C D (Raised n None) q h = h
held-as S C D (Raised n (Some k)) q h = h
held-as S C D (Single t n) q h = h
held-as S C D (Own t n) q h = h
held-as S C D (General l t n o) q h = h

with-scope : (T : State) (C : Context) (s : TypeScope) → IsContext T C → Holds (types_in T) s → AreKnown (made T) (types_in T) s → AreLive T s → IsContext T (record C { types = s })
with-scope T C s i h k v = record {
  wide = i.wide;
  deep = i.deep;
  naming = i.naming;
  holds = h;
  known = k;
  schemes = i.schemes;
  entries = λ qs x e f. held-as T C (record C { types = s }) e refl (i.entries qs x e f);
  numbered = i.numbered;
  live = v;
  level = i.level;
  tidy = i.tidy;
}

-- one type variable more
pub context_scoped : (S T : State) (C D : Context) (n k : ℕ) → Grows S T → IsContext S C → HasType T k → D ≡ record C { types = D.types } → D.types.types ≡ C.types.types
    → D.types.tyvars ≡ (n, k) ∷ C.types.tyvars → IsContext T D
context_scoped S T C D n k g ic h q ts as_ =
    let i = context_later S T C g ic in
    subst (IsContext T) (sym q)
    (with-scope T C D.types i
    (record {
      tyvars = subst (AllByRecursion (λ (b : ℕ × ℕ). b.1 < length (types_in T))) (sym as_) (h.held, i.holds.tyvars);
      bodies = subst (AllByRecursion (λ (b : ℕ × TypeEntry). b.1.body < length (types_in T))) (sym ts) i.holds.bodies;
      closed = subst (AllByRecursion (λ (b : ℕ × TypeEntry). top (type_at (types_in T) b.1.body) ≤ b.1.arity)) (sym ts) i.holds.closed;
    })
    (subst (AllByRecursion (λ (b : ℕ × ℕ). is_below (made T) (type_at (types_in T) b.1) ≡ true)) (sym as_) (h.below, i.known))
    (subst (AllByRecursion (λ (b : ℕ × ℕ). IsLive T b.1)) (sym as_) (h.live, i.live)))

none-of : {A : Type 0} (o : Option A) (b : Bool) → b ≡ false → b ≡ is_some o → o ≡ None
none-of None b e q = refl
none-of (Some a) b e q = let no : true ≡ false = sym q ∙ e in absurd (cc)

pub came-one : (S T : State) (a : Tyvar) (k : ℕ) (old new : List (ℕ × ℕ)) (b : Bool) → slice_get (types_in T) k ≡ Some (var (made S)) → b ≡ false → b ≡ is_some (lookup (nat_eq a.name) old)
    → new ≡ (a.name, k) ∷ old → Always T (λ W. CameIntoScope W (made S) (a ∷ []) old new)
came-one S T a k old new b is absent found e W c = (
  k,
  c.types k (slice_get_within (types_in T) k (var (made S)) is) ∙ get_or_from_slice_get (types_in T) k (var (made S)) (var 0) is,
  none-of (lookup (nat_eq a.name) old) b absent found,
  e,
)

pub named-one : (a : Tyvar) (k : ℕ) (old new : List (ℕ × ℕ)) (b : Bool) → b ≡ false → b ≡ is_some (lookup (nat_eq a.name) old) → new ≡ (a.name, k) ∷ old → CameByName (a ∷ []) old new
named-one a k old new b absent found e = (k, none-of (lookup (nat_eq a.name) old) b absent found, e)

-- one after the other

named-snoc : (as_ : List Tyvar) (a : Tyvar) (old mid new : List (ℕ × ℕ)) → CameByName as_ old mid → CameByName (a ∷ []) mid new → CameByName (as_ ++ a ∷ []) old new
named-snoc [] a old mid new h k = (k.0, ap (lookup (nat_eq a.name)) (sym h) ∙ k.1, k.2 ∙ ap (λ (l : List (ℕ × ℕ)). (a.name, k.0) ∷ l) h)
named-snoc (b ∷ as_) a old mid new h k = (h.0, h.1, named-snoc as_ a ((b.name, h.0) ∷ old) mid new h.2 k)

came-snoc : (W : World) (v w : ℕ) (as_ : List Tyvar) (a : Tyvar) (old mid new : List (ℕ × ℕ)) → w ≡ v + length as_ → CameIntoScope W v as_ old mid → CameIntoScope W w (a ∷ []) mid new
    → CameIntoScope W v (as_ ++ a ∷ []) old new
came-snoc W v w [] a old mid new e h k =
    let same : w ≡ v = omega (arith, e) in
    (k.0, k.1 ∙ ap var same, ap (lookup (nat_eq a.name)) (sym h) ∙ k.2, k.3 ∙ ap (λ (l : List (ℕ × ℕ)). (a.name, k.0) ∷ l) h)
came-snoc W v w (b ∷ as_) a old mid new e h k = (h.0, h.1, h.2, came-snoc W (suc v) w as_ a ((b.name, h.0) ∷ old) mid new (omega (arith, e)) h.3 k)

take-next : {A : Type 0} (xs : List A) (i : ℕ) (x : A) → i < length xs → x ≡ get_or xs i x → take i xs ++ x ∷ [] ≡ take (i + 1) xs
take-next xs i x lt is =
    let up : suc i ≡ i + 1 = omega arith in ap (λ z. take i xs ++ z ∷ []) is ∙ sym (take-suc xs i x lt) ∙ ap (λ j. take j xs) up

take-length : {A : Type 0} (xs : List A) (i : ℕ) → i < length xs → length (take i xs) ≡ i
take-length [] i lt = absurd (omega (arith, lt))
take-length (x ∷ xs) ℕ.zero lt = refl
take-length (x ∷ xs) (suc i) lt = ap suc (take-length xs i (omega (arith, lt)))

pub came-next : (S M T : State) (as_ : List Tyvar) (i : ℕ) (a : Tyvar) (old mid new : List (ℕ × ℕ)) → i < length as_ → a ≡ get_or as_ i a → Grows M T → made M ≡ made S + i
    → Always M (λ W. CameIntoScope W (made S) (take i as_) old mid) → Always T (λ W. CameIntoScope W (made M) (a ∷ []) mid new) → Always T (λ W. CameIntoScope W (made S) (take (i + 1) as_) old new)
came-next S M T as_ i a old mid new lt is g n h k W c =
    let w : made M ≡ made S + length (take i as_) = let q = take-length as_ i lt in omega (arith, n, q) in
    subst (λ l. CameIntoScope W (made S) l old new) (take-next as_ i a lt is)
    (came-snoc W (made S) (made M) (take i as_) a old mid new w (h W (comes_before M T W g c)) (k W c))

pub named-next : (as_ : List Tyvar) (i : ℕ) (a : Tyvar) (old mid new : List (ℕ × ℕ)) → i < length as_ → a ≡ get_or as_ i a → CameByName (take i as_) old mid
    → CameByName (a ∷ []) mid new → CameByName (take (i + 1) as_) old new
named-next as_ i a old mid new lt is h k = subst (λ l. CameByName l old new) (take-next as_ i a lt is) (named-snoc (take i as_) a old mid new h k)

taken : {A : Type 0} (xs : List A) (i : ℕ) → length xs ≤ i → take i xs ≡ xs
taken [] ℕ.zero le = refl
taken [] (suc i) le = refl
taken (x ∷ xs) ℕ.zero le = absurd (omega (arith, le))
taken (x ∷ xs) (suc i) le = ap (λ l. x ∷ l) (taken xs i (omega (arith, le)))

pub came-ends : (T : State) (v i : ℕ) (as_ : List Tyvar) (old new : List (ℕ × ℕ)) → length as_ ≤ i → Always T (λ W. CameIntoScope W v (take i as_) old new)
    → Always T (λ W. CameIntoScope W v as_ old new)
came-ends T v i as_ old new le h W c = subst (λ l. CameIntoScope W v l old new) (taken as_ i le) (h W c)

pub named-ends : (i : ℕ) (as_ : List Tyvar) (old new : List (ℕ × ℕ)) → length as_ ≤ i → CameByName (take i as_) old new → CameByName as_ old new
named-ends i as_ old new le h = subst (λ l. CameByName l old new) (taken as_ i le) h

further-on : (old mid new : List (ℕ × ℕ)) → IsFurther old mid → IsFurther mid new → IsFurther old new
further-on old mid new h k = record { own = k.own ++ h.own; is = k.is ∙ ap (λ l. k.own ++ l) h.is ∙ sym (Rattle.std.proofs.lemmas.List.append_assoc k.own h.own old) }

pub further-next : (old mid new : List (ℕ × ℕ)) → IsFurther old mid → IsFurther mid new → IsFurther old new
further-next = further-on

-- what is left of a context stays
pub rest-next : (C D E : Context) → D ≡ record C { types = D.types } → E ≡ record D { types = E.types } → E ≡ record C { types = E.types }
rest-next C D E p q = q ∙ ap (λ (k : Context). record k { types = E.types }) p

-- one deeper

tyvars-are : (S : State) (xs : List (ℕ × ℕ)) → AllByRecursion (λ (b : ℕ × ℕ). b.1 < length (types_in S)) xs
    → AllByRecursion (λ (b : ℕ × ℕ). is_below (made S) (type_at (types_in S) b.1) ≡ true) xs → AllByRecursion (λ (b : ℕ × ℕ). IsLive S b.1) xs
    → AllByRecursion (λ (b : ℕ × ℕ). HasType S b.1) xs
tyvars-are S [] h k v = tt
tyvars-are S (x ∷ xs) h k v = (record { held = h.0; below = k.0; live = v.0 }, tyvars-are S xs h.1 k.1 v.1)

all-entered : (S E : State) (xs : List (ℕ × ℕ)) → Enters S E → AllByRecursion (λ (b : ℕ × ℕ). HasType S b.1) xs → AllByRecursion (λ (b : ℕ × ℕ). HasType E b.1) xs
all-entered S E [] e h = tt
all-entered S E (x ∷ xs) e h = (entered-type S E e x.1 h.0, all-entered S E xs e h.1)

pub context_deeper : (S E : State) (C D : Context) → S.level ≡ C.level → Enters S E → E.level < dead_level → D ≡ record C { level = E.level } → D ≡ deeper C C.types
context_deeper S E C D i e low q = let n : E.level ≡ suc C.level = (let a = e.level in omega (arith, a, i)) in q ∙ ap (λ (n : ℕ). record C { level = n }) n

pub context_entered : (S E : State) (C D : Context) → S.level ≡ C.level → IsContext S C → Enters S E → E.level < dead_level → D ≡ record C { level = E.level } → IsContext E D
context_entered S E C D same i e low q =
    subst (IsContext E) (sym (context_deeper S E C D same e low q))
    (context-inside C C.types S E E (let a = e.level in omega (arith, a, low)) e (grows_same E) i refl
    (all-entered S E C.types.tyvars e (tyvars-are S C.types.tyvars i.holds.tyvars i.known i.live)))

pub begun-is : (S E T : State) (C D F : Context) (scoped : List Tyvar) → Enters S E → D ≡ deeper C C.types → Grows E T → T.next ≡ E.next → F ≡ record D { types = F.types }
    → F.types.types ≡ D.types.types → IsFurther D.types.tyvars F.types.tyvars → CameByName scoped D.types.tyvars F.types.tyvars → Always T (λ W. CameIntoScope W (made E) scoped D.types.tyvars F.types.tyvars)
    → IsBegun S C scoped T F
begun-is S E T C D F scoped e d g nx q ts f named came = record {
  entered = E;
  enters = e;
  grows = g;
  next = nx ∙ e.next;
  deep = q ∙ ap (λ (k : Context). record k { types = F.types }) d;
  types = ts ∙ ap (λ (k : Context). k.types.types) d;
  further = subst (λ (k : Context). IsFurther k.types.tyvars F.types.tyvars) d f;
  named = subst (λ (k : Context). CameByName scoped k.types.tyvars F.types.tyvars) d named;
  tyvars = λ W c.
      subst (λ n. CameIntoScope W n scoped C.types.tyvars F.types.tyvars) (ap (λ s. length s.subst.slots.items) e.solver)
      (subst (λ (k : Context). CameIntoScope W (made E) scoped k.types.tyvars F.types.tyvars) d (came W c));
}
