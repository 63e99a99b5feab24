-- Going through the parts of two types from the last one on.
use Rattle.std.proofs.Common.{◌≡◌, ◌↔◌, ℕ, ◌+◌, Bool, true, List, [], ◌∷◌, ◌++◌, length, refl, sym, ap, ap₂, subst, arith}
use Rattle.std.proofs.lemmas.Bool.{and_parts, and_from}
use Rattle.ty_table.specs.of_ty_core.Types.{Typ, var, con, Typs, none, more, Symbol}
use Rattle.ty_solve.specs.Compared.{Waits, Alike}
use Rattle.ty_solve.proofs.Comparing.{waits-front, waits-last, alike-map}
use Rattle.ty_solve.specs.Substitution.{sub, subs, is_below, are_below}
use Rattle.ty_solve.specs.Weight.{weight, weights}
use Rattle.ty_solve.specs.Forces.{Problem, Forces, Met, Beside}
use Rattle.ty_solve.specs.Tasks.{AllHold, AreForced, AreWithin, burdens}
use Rattle.ty_solve.specs.Parts.{EqualParts}
use Rattle.ty_solve.specs.Task.{Task}
use Rattle.ty_solve.specs.Task.{Equal}
use Rattle.ty_solve.proofs.Lists.{all}
use Rattle.ty_solve.proofs.Subs.{head_of, tail_of}
use Rattle.ty_solve.proofs.StepArms.{hold-push, forced-push, within-push, burdens-push}

subs-last : (f : ℕ → Typ) (l r : List Typ) (t u : Typ) → length l ≡ length r → (subs f (all (l ++ t ∷ [])) ≡ subs f (all (r ++ u ∷ []))) ↔ ((subs f (all l) ≡ subs f (all r)) × (sub f t ≡ sub f u))
subs-last f [] [] t u n = (λ h. (refl, ap (λ z. head_of z (var 0)) h), λ h. ap (λ z. more z none) h.1)
subs-last f [] (y ∷ r) t u n = cc
subs-last f (x ∷ l) [] t u n = cc
subs-last f (x ∷ l) (y ∷ r) t u n =
    let e : length l ≡ length r = omega arith in (
      λ h. let p = (subs-last f l r t u e).0 (ap tail_of h) in (ap₂ more (ap (λ z. head_of z (var 0)) h) p.0, p.1),
      λ h. ap₂ more (ap (λ z. head_of z (var 0)) h.0) ((subs-last f l r t u e).1 (ap tail_of h.0, h.1)),
    )

beside-last : (l r : List Typ) (t u : Typ) → length l ≡ length r → Beside t u (all (l ++ t ∷ [])) (all (r ++ u ∷ []))
beside-last [] [] t u n = Beside.here _ _ _ _
beside-last [] (y ∷ r) t u n = cc
beside-last (x ∷ l) [] t u n = cc
beside-last (x ∷ l) (y ∷ r) t u n = Beside.later _ _ _ _ _ _ (beside-last l r t u (omega arith))

beside-front : (l r : List Typ) (t u : Typ) (a b : Typ) → Beside a b (all l) (all r) → Beside a b (all (l ++ t ∷ [])) (all (r ++ u ∷ []))
beside-front [] r t u a b h = elim h [ ]
beside-front (x ∷ l) [] t u a b h = elim h [ ]
beside-front (x ∷ l) (y ∷ r) t u a b (Beside.here _ _ _ _) = Beside.here _ _ _ _
beside-front (x ∷ l) (y ∷ r) t u a b (Beside.later _ _ _ _ _ _ h) = Beside.later _ _ _ _ _ _ (beside-front l r t u a b h)

beside-left : (t u : Typ) (ts us : Typs) → Beside t u ts us → Beside t t ts ts
beside-left t u (more x ts) (more y us) (Beside.here _ _ _ _) = Beside.here _ _ _ _
beside-left t u (more x ts) (more y us) (Beside.later _ _ _ _ _ _ h) = Beside.later _ _ _ _ _ _ (beside-left t u ts us h)
beside-left t u none us h = elim h [ ]
beside-left t u (more x ts) none h = elim h [ ]

beside-right : (t u : Typ) (ts us : Typs) → Beside t u ts us → Beside u u us us
beside-right t u (more x ts) (more y us) (Beside.here _ _ _ _) = Beside.here _ _ _ _
beside-right t u (more x ts) (more y us) (Beside.later _ _ _ _ _ _ h) = Beside.later _ _ _ _ _ _ (beside-right t u ts us h)
beside-right t u none us h = elim h [ ]
beside-right t u (more x ts) none h = elim h [ ]

pub below-last : (n : ℕ) (l : List Typ) (t : Typ) → are_below n (all (l ++ t ∷ [])) ≡ true → (are_below n (all l) ≡ true) × (is_below n t ≡ true)
below-last n [] t h = (refl, (and_parts (is_below n t) true h).0)
below-last n (x ∷ l) t h =
    let p = and_parts (is_below n x) (are_below n (all (l ++ t ∷ []))) h in
    let q = below-last n l t p.1 in
    (and_from _ _ p.0 q.0, q.1)

weights-last : (w : ℕ → ℕ) (l : List Typ) (t : Typ) → weights w (all (l ++ t ∷ [])) ≡ weights w (all l) + weight w t
weights-last w [] t = omega arith
weights-last w (x ∷ l) t = let p = weights-last w l t in omega arith

alike-last : (P : Typ → Typ → Type 0) (l r : List Typ) (t u : Typ) → Alike P (all l) (all r) → P t u → Alike P (all (l ++ t ∷ [])) (all (r ++ u ∷ []))
alike-last P [] [] t u h p = Alike.part t u none none p Alike.nothing
alike-last P [] (y ∷ r) t u h p = elim h [ ]
alike-last P (x ∷ l) [] t u h p = elim h [ ]
alike-last P (x ∷ l) (y ∷ r) t u (Alike.part _ _ _ _ q h) p = Alike.part x y (all (l ++ t ∷ [])) (all (r ++ u ∷ [])) q (alike-last P l r t u h p)

-- the pairs of l and r have been put on, of those of ts and us
pub record EqualSome (old now : List Task) (ts us : Typs) (l r : List Typ) : Type 0 where
  pub same : (m : ℕ → Bool) (f : ℕ → Typ) → AllHold m f now ↔ (AllHold m f old × (subs f (all l) ≡ subs f (all r)))
  pub forced : (p : Problem) (h : Symbol) → AreForced p old → Forces p (con h ts) (con h us) → Met p (con h ts) → Met p (con h us) → AreForced p now
  pub within : (n : ℕ) → AreWithin n old → are_below n (all l) ≡ true → are_below n (all r) ≡ true → AreWithin n now
  pub burden_is : (w : ℕ → ℕ) → burdens w now ≡ burdens w old + (weights w (all l) + weights w (all r))
  pub stay : (a b : Typ) → Waits old a b → Waits now a b
  pub wait : Alike (Waits now) (all l) (all r)

pub equal-none : (old : List Task) (ts us : Typs) → EqualSome old old ts us [] []
equal-none old ts us = record {
  same = λ m f. (λ h. (h, refl), λ h. h.0);
  forced = λ p h i j x y. i;
  within = λ n i j k. i;
  burden_is = λ w. omega arith;
  stay = λ a b w. w;
  wait = Alike.nothing;
}

pub equal-next : (old now new : List Task) (ts us : Typs) (l r : List Typ) (t u : Typ) → length l ≡ length r → new ≡ now ++ Equal t u ∷ [] → Beside t u ts us → EqualSome old now ts us l r → EqualSome old new ts us (l ++ t ∷ []) (r ++ u ∷ [])
equal-next old now new ts us l r t u n e b g = subst (λ x. EqualSome old x ts us (l ++ t ∷ []) (r ++ u ∷ [])) (sym e) (record {
  same = λ m f. (
    λ h. let p = (hold-push m f now (Equal t u)).0 h in let q = (g.same m f).0 p.0 in (q.0, (subs-last f l r t u n).1 (q.1, p.1)),
    λ h. let q = (subs-last f l r t u n).0 h.1 in (hold-push m f now (Equal t u)).1 ((g.same m f).1 (h.0, q.0), q.1),
  );
  forced = λ p h i j x y. forced-push p now (Equal t u) (g.forced p h i j x y) (Forces.part h ts us t u j b, Met.part h ts t x (beside-left t u ts us b), Met.part h us u y (beside-right t u ts us b));
  within = λ m i j k. let x = below-last m l t j in let y = below-last m r u k in within-push m now (Equal t u) (g.within m i x.0 y.0) (x.1, y.1);
  burden_is = λ w. let p = burdens-push w now (Equal t u) in let q = g.burden_is w in let x = weights-last w l t in let y = weights-last w r u in omega arith;
  stay = λ a c w. waits-front now (Equal t u ∷ []) a c (g.stay a c w);
  wait = alike-last (Waits (now ++ Equal t u ∷ [])) l r t u (alike-map (Waits now) (Waits (now ++ Equal t u ∷ [])) (λ a c w. waits-front now (Equal t u ∷ []) a c w) (all l) (all r) g.wait) (waits-last now t u);
})

pub equal-all : (old now : List Task) (l r : List Typ) → EqualSome old now (all l) (all r) l r → EqualParts old now (all l) (all r)
equal-all old now l r g = record { same = g.same; forced = g.forced; within = g.within; burden_is = g.burden_is; stay = g.stay; wait = g.wait }
