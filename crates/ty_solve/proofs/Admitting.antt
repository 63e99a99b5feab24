-- Types that are to admit equality, each looked at once.
use Rattle.std.proofs.Common.{◌≡◌, ◌<◌, ◌≤◌, ◌+◌, ℕ, zero, suc, Bool, true, List, [], ◌∷◌, ◌++◌, length, refl, sym, ap, ◌∙◌, subst, arith}
use Rattle.std.proofs.lemmas.Bool.{and_parts, and_from}
use mathlib.Core.Logic.{◌⊎◌, inl, inr}
use Rattle.ty_table.specs.of_ty_core.Types.{Typ, var, con, Typs, none, more, Symbol, attribute, allowed, admits, all_admit, no_variable}
use Rattle.ty_table.specs.of_ty_core.declared.name.Equality.{Equality}
use Rattle.ty_table.specs.of_ty_core.declared.name.Equality.TheVariants.{Always, ByArguments, Never}
use Rattle.ty_table.specs.of_ty_core.declared.mark.Mark.{Mark}
use Rattle.ty_table.specs.TypeAt.{type_at, types_at}
use Rattle.ty_solve.specs.Substitution.{Entry, bound, sub, subs, is_below, are_below, Fits, FitsAt}
use Rattle.ty_solve.specs.Weight.{weight, weights, WeighsAt, IsAcyclic, BelowAt, AreBelow}
use Rattle.ty_solve.specs.Forces.{Problem, Asks, Met, Clashes, Beside, ForcedAt, IsForced}
use Rattle.ty_solve.specs.Tasks.{AllHold, AreForced, AreWithin, burdens}
use Rattle.ty_solve.specs.Task.{Task, Admit}
use Rattle.ty_solve.specs.Compared.{Waits}
use Rattle.ty_solve.specs.Walk.{Has}
use Rattle.ty_solve.specs.Parts.{AdmitParts, AllAsked, RefusesParts, Looked, RefusesLook}
use Rattle.ty_solve.specs.declared.refused.UnifyRefused.{UnifyRefused}
use Rattle.ty_solve.specs.declared.refused.UnifyRefused.TheVariants.{Clash, Circular, Large, Memory}
use Rattle.ty_solve.proofs.Comparing.{waits-front}
use Rattle.ty_solve.proofs.Finds.{step-met}
use Rattle.ty_solve.proofs.Lowered.{all-beside}
use Rattle.ty_solve.proofs.Reaching.{has-last, has-front, has-back, has-either, only}
use Rattle.ty_solve.proofs.Slots.{none-more}
use Rattle.ty_solve.proofs.StepArms.{hold-push, forced-push, within-push, burdens-push}
use Rattle.ty_solve.proofs.Walking.{pop-lighter, weights-append}

-- what admits equality whatever its variables are
allowed-same : (e : Equality) (a b : Bool) → (a ≡ true → b ≡ true) → allowed e a ≡ true → allowed e b ≡ true
allowed-same Always a b g h = refl
allowed-same ByArguments a b g h = g h
allowed-same Never a b g h = cc

mutual
  pub admits-anyhow : (m : ℕ → Bool) (f : ℕ → Typ) (t : Typ) → admits no_variable t ≡ true → admits m (sub f t) ≡ true
  admits-anyhow m f (var v) h = cc
  admits-anyhow m f (con c ts) h = allowed-same (attribute c) (all_admit no_variable ts) (all_admit m (subs f ts)) (all-anyhow m f ts) h

  pub all-anyhow : (m : ℕ → Bool) (f : ℕ → Typ) (ts : Typs) → all_admit no_variable ts ≡ true → all_admit m (subs f ts) ≡ true
  all-anyhow m f none h = refl
  all-anyhow m f (more t ts) h = let p = and_parts (admits no_variable t) (all_admit no_variable ts) h in and_from _ _ (admits-anyhow m f t p.0) (all-anyhow m f ts p.1)

beside-has : (ts : List Typ) (ks : List ℕ) (j : ℕ) → Has ks j → Beside (type_at ts j) (type_at ts j) (types_at ts ks) (types_at ts ks)
beside-has ts [] j a = absurd a
beside-has ts (k ∷ ks) j (inl e) = subst (λ x. Beside (type_at ts x) (type_at ts x) (types_at ts (k ∷ ks)) (types_at ts (k ∷ ks))) (sym e) (Beside.here _ _ _ _)
beside-has ts (k ∷ ks) j (inr a) = Beside.later _ _ _ _ _ _ (beside-has ts ks j a)

admits-beside : (m : ℕ → Bool) (f : ℕ → Typ) (t : Typ) (ts : Typs) → Beside t t ts ts → all_admit m (subs f ts) ≡ true → admits m (sub f t) ≡ true
admits-beside m f t ts b h = all-beside (λ t. admits m (sub f t) ≡ true) (λ ts. all_admit m (subs f ts) ≡ true) (λ t ts k. and_parts (admits m (sub f t)) (all_admit m (subs f ts)) k) t t ts ts b h

below-beside : (n : ℕ) (t : Typ) (ts : Typs) → Beside t t ts ts → are_below n ts ≡ true → is_below n t ≡ true
below-beside n t ts b h = all-beside (λ t. is_below n t ≡ true) (λ ts. are_below n ts ≡ true) (λ t ts k. and_parts (is_below n t) (are_below n ts) k) t t ts ts b h

-- what follows for a type k, where the types us are to admit equality
pub record Follows (n : ℕ) (s : ℕ → Entry) (us : Typs) (t : Typ) : Type 0 where
  pub value : (m : ℕ → Bool) (f : ℕ → Typ) → Fits f s → all_admit m (subs f us) ≡ true → admits m (sub f t) ≡ true
  pub asked : (p : Problem) → IsForced p s → AllAsked p us → Asks p Mark.Equality t × Met p t
  pub below : are_below n us ≡ true → is_below n t ≡ true

-- why a type that was looked at admits equality where the tasks hold
pub data Granted (ts : List Typ) (s : ℕ → Entry) (now : List Task) (done pending : List ℕ) (k : ℕ) : Type 0 where
  holds : ((m : ℕ → Bool) (f : ℕ → Typ) → AllHold m f now → admits m (sub f (type_at ts k)) ≡ true) → Granted ts s now done pending k
  stands : (x u : ℕ) → type_at ts k ≡ var x → s x ≡ bound (type_at ts u) → Has done u ⊎ Has pending u → Granted ts s now done pending k
  applied : (h : Symbol) (parts : List ℕ) → type_at ts k ≡ con h (types_at ts parts) → ByArguments ≡ attribute h → ((j : ℕ) → Has parts j → Has done j ⊎ Has pending j) → Granted ts s now done pending k

pub record Admitting (ts : List Typ) (n : ℕ) (s : ℕ → Entry) (w : ℕ → ℕ) (us : List ℕ) (old now : List Task) (done pending : List ℕ) : Type 0 where
  pub start : (j : ℕ) → Has us j → Has done j ⊎ Has pending j
  pub granted : (k : ℕ) → Has done k → Granted ts s now done pending k
  pub follows : (k : ℕ) → Has pending k → Follows n s (types_at ts us) (type_at ts k)
  pub keeps : (m : ℕ → Bool) (f : ℕ → Typ) → AllHold m f now → AllHold m f old
  pub adds : (m : ℕ → Bool) (f : ℕ → Typ) → Fits f s → AllHold m f old → all_admit m (subs f (types_at ts us)) ≡ true → AllHold m f now
  pub forced : (p : Problem) → IsForced p s → AreForced p old → AllAsked p (types_at ts us) → AreForced p now
  pub within : AreWithin n old → are_below n (types_at ts us) ≡ true → AreWithin n now
  pub lighter : burdens w now + weights w (types_at ts pending) ≤ burdens w old + weights w (types_at ts us)
  pub stay : (a b : Typ) → Waits old a b → Waits now a b

pub admitting-first : (ts : List Typ) (n : ℕ) (s : ℕ → Entry) (w : ℕ → ℕ) (us : List ℕ) (old : List Task) (done empty l : List ℕ) → done ≡ [] → empty ≡ [] → l ≡ empty ++ us → Admitting ts n s w us old old done l
admitting-first ts n s w us old done empty l p q e = subst (λ d. Admitting ts n s w us old old d l) (sym p) (subst (λ m. Admitting ts n s w us old old [] m) (sym (e ∙ ap (λ m. m ++ us) q)) (record {
  start = λ j h. inr h;
  granted = λ k h. absurd h;
  follows = λ k h. record {
    value = λ m f i a. admits-beside m f (type_at ts k) (types_at ts us) (beside-has ts us k h) a;
    asked = λ p i a. a (type_at ts k) (beside-has ts us k h);
    below = λ b. below-beside n (type_at ts k) (types_at ts us) (beside-has ts us k h) b;
  };
  keeps = λ m f h. h;
  adds = λ m f i h a. h;
  forced = λ p i h a. h;
  within = λ h b. h;
  lighter = omega arith;
  stay = λ a b h. h;
}))

module _ (ts : List Typ) (n : ℕ) (s : ℕ → Entry) (a : IsAcyclic s) (us : List ℕ) (old now : List Task) (done all rest : List ℕ) (k : ℕ) (e : all ≡ rest ++ k ∷ []) (g : Admitting ts n s a.0 us old now done all) where
  here : Follows n s (types_at ts us) (type_at ts k)
  here = g.follows k (subst (λ l. Has l k) (sym e) (has-last rest k))

  kept : (j : ℕ) → Has rest j → Has all j
  kept j h = subst (λ l. Has l j) (sym e) (has-front rest (k ∷ []) j h)

  along : (then next : List ℕ) → Has then k ⊎ Has next k → ((j : ℕ) → Has done j → Has then j) → ((j : ℕ) → Has rest j → Has next j) → (j : ℕ) → Has done j ⊎ Has all j → Has then j ⊎ Has next j
  along then next c x y j (inl h) = inl (x j h)
  along then next c x y j (inr h) = go (has-either rest (k ∷ []) j (subst (λ l. Has l j) e h))
    where
      go : Has rest j ⊎ Has (k ∷ []) j → Has then j ⊎ Has next j
      go (inl i) = inr (y j i)
      go (inr i) = subst (λ z. Has then z ⊎ Has next z) (sym (only k j i)) c

  granted-along : (new : List Task) (then next : List ℕ) → ((m : ℕ → Bool) (f : ℕ → Typ) → AllHold m f new → AllHold m f now) → Has then k ⊎ Has next k → ((j : ℕ) → Has done j → Has then j) → ((j : ℕ) → Has rest j → Has next j) → (j : ℕ) → Has done j → Granted ts s new then next j
  granted-along new then next z c x y j h = go (g.granted j h)
    where
      go : Granted ts s now done all j → Granted ts s new then next j
      go (Granted.holds i) = Granted.holds (λ m f q. i m f (z m f q))
      go (Granted.stands v u p q i) = Granted.stands v u p q (along then next c x y u i)
      go (Granted.applied f parts p o i) = Granted.applied f parts p o (λ u w. along then next c x y u (i u w))

  weights-rest : weights a.0 (types_at ts all) ≡ weights a.0 (types_at ts rest) + weight a.0 (type_at ts k)
  weights-rest = let p = ap (λ l. weights a.0 (types_at ts l)) e ∙ weights-append a.0 ts rest (k ∷ []) in omega arith

  -- a type that was looked at before
  pub admitting-skips : Has done k → Admitting ts n s a.0 us old now done rest
  admitting-skips c = record {
    start = λ j h. along done rest (inl c) (λ j h. h) (λ j h. h) j (g.start j h);
    granted = λ j h. granted-along now done rest (λ m f q. q) (inl c) (λ j h. h) (λ j h. h) j h;
    follows = λ j h. g.follows j (kept j h);
    keeps = g.keeps;
    adds = g.adds;
    forced = g.forced;
    within = g.within;
    lighter = let p = weights-rest in let q = g.lighter in omega arith;
    stay = g.stay;
  }

  module _ (then : List ℕ) (d : then ≡ done ++ k ∷ []) where
    now-here : Has then k
    now-here = subst (λ l. Has l k) (sym d) (has-last done k)

    kept-done : (j : ℕ) → Has done j → Has then j
    kept-done j h = subst (λ l. Has l j) (sym d) (has-front done (k ∷ []) j h)

    each : (P : ℕ → Type 0) → ((j : ℕ) → Has done j → P j) → P k → (j : ℕ) → Has then j → P j
    each P x y j h = go (has-either done (k ∷ []) j (subst (λ l. Has l j) d h))
      where
        go : Has done j ⊎ Has (k ∷ []) j → P j
        go (inl i) = x j i
        go (inr i) = subst P (sym (only k j i)) y

    -- the parts of k, or what it stands for, are pending now
    opens : (next parts : List ℕ) → next ≡ rest ++ parts → Granted ts s now then next k → ((j : ℕ) → Has parts j → Follows n s (types_at ts us) (type_at ts j)) → weights a.0 (types_at ts parts) ≤ weight a.0 (type_at ts k) → Admitting ts n s a.0 us old now then next
    opens next parts q i h le =
        let y : (j : ℕ) → Has rest j → Has next j = λ j i. subst (λ l. Has l j) (sym q) (has-front rest parts j i) in
        record {
          start = λ j h. along then next (inl now-here) kept-done y j (g.start j h);
          granted = each (Granted ts s now then next) (granted-along now then next (λ m f q. q) (inl now-here) kept-done y) i;
          follows = λ j i. go j (has-either rest parts j (subst (λ l. Has l j) q i));
          keeps = g.keeps;
          adds = g.adds;
          forced = g.forced;
          within = g.within;
          lighter =
              let p = weights-rest in
              let z = g.lighter in
              let r = ap (λ l. weights a.0 (types_at ts l)) q ∙ weights-append a.0 ts rest parts in
              omega arith;
          stay = g.stay;
        }
      where
        go : (j : ℕ) → Has rest j ⊎ Has parts j → Follows n s (types_at ts us) (type_at ts j)
        go j (inl i) = g.follows j (kept j i)
        go j (inr i) = h j i

    -- an open variable is asked
    asks : Admitting ts n s a.0 us old (now ++ Admit Mark.Equality (type_at ts k) ∷ []) then rest
    asks = record {
      start = λ j h. along then rest (inl now-here) kept-done (λ j i. i) j (g.start j h);
      granted = each (Granted ts s (now ++ Admit Mark.Equality (type_at ts k) ∷ []) then rest) (granted-along (now ++ Admit Mark.Equality (type_at ts k) ∷ []) then rest (λ m f q. ((hold-push m f now (Admit Mark.Equality (type_at ts k))).0 q).0) (inl now-here) kept-done (λ j i. i)) (Granted.holds (λ m f q. ((hold-push m f now (Admit Mark.Equality (type_at ts k))).0 q).1));
      follows = λ j i. g.follows j (kept j i);
      keeps = λ m f q. g.keeps m f ((hold-push m f now (Admit Mark.Equality (type_at ts k))).0 q).0;
      adds = λ m f i h q. (hold-push m f now (Admit Mark.Equality (type_at ts k))).1 (g.adds m f i h q, here.value m f i q);
      forced = λ p i h q. forced-push p now (Admit Mark.Equality (type_at ts k)) (g.forced p i h q) (here.asked p i q);
      within = λ h b. within-push n now (Admit Mark.Equality (type_at ts k)) (g.within h b) (refl, here.below b);
      lighter =
          let p = weights-rest in
          let q = g.lighter in
          let r = burdens-push a.0 now (Admit Mark.Equality (type_at ts k)) in
          omega arith;
      stay = λ b c h. waits-front now (Admit Mark.Equality (type_at ts k) ∷ []) b c (g.stay b c h);
    }

    follows-stands : AreBelow n s → (x u : ℕ) → type_at ts k ≡ var x → s x ≡ bound (type_at ts u) → Follows n s (types_at ts us) (type_at ts u)
    follows-stands below x u p q = record {
      value = λ m f i h. ap (admits m) (sym (subst (FitsAt f (f x)) q (i x))) ∙ ap (λ z. admits m (sub f z)) (sym p) ∙ here.value m f i h;
      asked = λ o i h.
          let r = here.asked o i h in
          (Asks.along Mark.Equality (var x) (type_at ts u) (subst (Asks o Mark.Equality) p r.0) (subst (ForcedAt o x) q (i x).0), step-met o s (var x) (type_at ts u) q i (subst (Met o) p r.1));
      below = λ b. subst (BelowAt n) q (below x);
    }

    follows-applied : (h : Symbol) (parts : List ℕ) → type_at ts k ≡ con h (types_at ts parts) → ByArguments ≡ attribute h → (j : ℕ) → Has parts j → Follows n s (types_at ts us) (type_at ts j)
    follows-applied h parts p o j i =
        let b = beside-has ts parts j i in
        record {
          value = λ m f z r. admits-beside m f (type_at ts j) (types_at ts parts) b (subst (λ q. allowed q (all_admit m (subs f (types_at ts parts))) ≡ true) (sym o) (subst (λ q. admits m (sub f q) ≡ true) p (here.value m f z r)));
          asked = λ q z r.
              let x = here.asked q z r in
              (Asks.part h (types_at ts parts) (type_at ts j) (subst (Asks q Mark.Equality) p x.0) (sym o) b, Met.part h (types_at ts parts) (type_at ts j) (subst (Met q) p x.1) b);
          below = λ r. below-beside n (type_at ts j) (types_at ts parts) b (subst (λ q. is_below n q ≡ true) p (here.below r));
        }

    pub admitting-looks : AreBelow n s → (new : List Task) (next : List ℕ) → Looked ts s k now new rest next → Admitting ts n s a.0 us old new then next
    admitting-looks below new next (Looked.holds h q r) = subst (λ l. Admitting ts n s a.0 us old l then next) (sym r) (opens next [] (q ∙ none-more rest) (Granted.holds (λ m f i. h m f)) (λ j i. absurd i) (omega arith))
    admitting-looks below new next (Looked.open_variable x p q r) = subst (λ l. Admitting ts n s a.0 us old l then next) (sym r) (subst (Admitting ts n s a.0 us old (now ++ Admit Mark.Equality (type_at ts k) ∷ []) then) (sym q) asks)
    admitting-looks below new next (Looked.stands x u p b q r) =
        let w = ap (weight a.0) p in
        let z = subst (WeighsAt a.0 (a.0 x)) b (a.1 x) in
        subst (λ l. Admitting ts n s a.0 us old l then next) (sym r) (opens next (u ∷ []) q (Granted.stands x u p b (inr (subst (λ l. Has l u) (sym q) (has-last rest u)))) (λ j i. subst (λ y. Follows n s (types_at ts us) (type_at ts y)) (sym (only u j i)) (follows-stands below x u p b)) (omega arith))
    admitting-looks below new next (Looked.applied h parts p o q r) =
        let w = ap (weight a.0) p in
        subst (λ l. Admitting ts n s a.0 us old l then next) (sym r) (opens next parts q (Granted.applied h parts p o (λ j i. inr (subst (λ l. Has l j) (sym q) (has-back rest parts j i)))) (follows-applied h parts p o) (omega arith))

  pub refuses-parts : (c : UnifyRefused) → RefusesLook (type_at ts k) c → RefusesParts s (types_at ts us) c
  refuses-parts Clash h = (
    λ m f i r. let x = subst (λ q. admits m (sub f q) ≡ true) h.2 (here.value m f i r) in let y = subst (λ q. allowed q (all_admit m (subs f h.1)) ≡ true) (sym h.3) x in cc,
    λ p i r. Clashes.never h.0 h.1 (subst (Asks p Mark.Equality) h.2 (here.asked p i r).0) (sym h.3),
  )
  refuses-parts Circular h = h
  refuses-parts Large h = h
  refuses-parts Memory h = h

-- what is looked at next weighs less
pub looked-lighter : (ts : List Typ) (s : ℕ → Entry) (a : IsAcyclic s) (old rest next : List ℕ) (now new : List Task) (k : ℕ) → old ≡ rest ++ k ∷ [] → Looked ts s k now new rest next → weights a.0 (types_at ts next) < weights a.0 (types_at ts old)
looked-lighter ts s a old rest next now new k e (Looked.holds h q r) = let z = ap (λ l. weights a.0 (types_at ts l)) q in let w = pop-lighter a.0 ts old rest k e in omega arith
looked-lighter ts s a old rest next now new k e (Looked.open_variable x p q r) = let z = ap (λ l. weights a.0 (types_at ts l)) q in let w = pop-lighter a.0 ts old rest k e in omega arith
looked-lighter ts s a old rest next now new k e (Looked.stands x u p b q r) =
    let z = ap (λ l. weights a.0 (types_at ts l)) q ∙ weights-append a.0 ts rest (u ∷ []) in
    let c = ap (λ l. weights a.0 (types_at ts l)) e ∙ weights-append a.0 ts rest (k ∷ []) in
    let w = ap (weight a.0) p in
    let d = subst (WeighsAt a.0 (a.0 x)) b (a.1 x) in
    omega arith
looked-lighter ts s a old rest next now new k e (Looked.applied h parts p o q r) =
    let z = ap (λ l. weights a.0 (types_at ts l)) q ∙ weights-append a.0 ts rest parts in
    let c = ap (λ l. weights a.0 (types_at ts l)) e ∙ weights-append a.0 ts rest (k ∷ []) in
    let w = ap (weight a.0) p in
    omega arith

-- nothing is pending
module _ (ts : List Typ) (s : ℕ → Entry) (a : IsAcyclic s) (now : List Task) (done : List ℕ) (granted : (k : ℕ) → Has done k → Granted ts s now done [] k) (m : ℕ → Bool) (f : ℕ → Typ) (fits : Fits f s) (hold : AllHold m f now) where
  all-granted : (n : ℕ) → ((j : ℕ) → weight a.0 (type_at ts j) < n → Has done j → admits m (sub f (type_at ts j)) ≡ true) → (ks : List ℕ) → weights a.0 (types_at ts ks) < n → ((j : ℕ) → Has ks j → Has done j ⊎ Has [] j) → all_admit m (subs f (types_at ts ks)) ≡ true
  all-granted n again [] lt h = refl
  all-granted n again (k ∷ ks) lt h = and_from _ _ (one (h k (inl refl))) (all-granted n again ks (omega arith) (λ j i. h j (inr i)))
    where
      one : Has done k ⊎ Has [] k → admits m (sub f (type_at ts k)) ≡ true
      one (inl i) = again k (omega arith) i
      one (inr i) = absurd i

  by-weight : (n k : ℕ) → weight a.0 (type_at ts k) < n → Has done k → admits m (sub f (type_at ts k)) ≡ true
  by-weight zero k lt h = absurd (omega arith)
  by-weight (suc n) k lt h = go (granted k h) (λ j. by-weight n j)
    where
      go : Granted ts s now done [] k → ((j : ℕ) → weight a.0 (type_at ts j) < n → Has done j → admits m (sub f (type_at ts j)) ≡ true) → admits m (sub f (type_at ts k)) ≡ true
      go (Granted.holds i) again = i m f hold
      go (Granted.stands x u p q (inr i)) again = absurd i
      go (Granted.stands x u p q (inl i)) again =
          let w = ap (weight a.0) p in
          let z = subst (WeighsAt a.0 (a.0 x)) q (a.1 x) in
          ap (λ t. admits m (sub f t)) p ∙ ap (admits m) (subst (FitsAt f (f x)) q (fits x)) ∙ again u (omega arith) i
      go (Granted.applied h parts p o i) again =
          let w = ap (weight a.0) p in
          subst (λ t. admits m (sub f t) ≡ true) (sym p) (subst (λ q. allowed q (all_admit m (subs f (types_at ts parts))) ≡ true) o (all-granted n again parts (omega arith) i))

pub admitting-ends : (ts : List Typ) (n : ℕ) (s : ℕ → Entry) (a : IsAcyclic s) (us : List ℕ) (old now : List Task) (done l : List ℕ) → length l ≡ 0 → Admitting ts n s a.0 us old now done l → AdmitParts n s a.0 old now (types_at ts us)
admitting-ends ts n s a us old now done (x ∷ l) e g = absurd (omega arith)
admitting-ends ts n s a us old now done [] e g = record {
  same = λ m f i. (
    λ h. (g.keeps m f h, all-granted ts s a now done g.granted m f i h (suc (weights a.0 (types_at ts us))) (λ j. by-weight ts s a now done g.granted m f i h (suc (weights a.0 (types_at ts us))) j) us (omega arith) g.start),
    λ h. g.adds m f i h.0 h.1,
  );
  forced = g.forced;
  within = g.within;
  lighter = let p = g.lighter in omega arith;
  stay = g.stay;
}
