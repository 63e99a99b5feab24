-- Counting the nodes of a type, each type once.
use Rattle.std.proofs.Common.{◌≡◌, ◌<◌, ◌≤◌, ◌+◌, ◌-◌, ◌*◌, ◌^◌, ℕ, suc, Bool, true, false, cond, nat_eq, min, List, [], ◌∷◌, ◌++◌, length, map, Option, Some, refl, sym, ap, ◌∙◌, subst, arith}
use Rattle.std.proofs.lemmas.Bool.{false≢true, eqb-true}
use Rattle.std.proofs.lemmas.List.{append-nil, append_assoc}
use mathlib.Core.Logic.{◌⊎◌, inl, inr}
use Rattle.ty_table.specs.of_ty_core.Types.{Typ, var, con, nodes, all_nodes}
use Rattle.ty_table.specs.TypeAt.{type_at, types_at, top}
use Rattle.ty_solve.specs.Substitution.{Entry, is_open, resolved, Resolves, sub, subs}
use Rattle.ty_solve.specs.Weight.{weight, weights, IsAcyclic}
use Rattle.ty_solve.specs.Finding.{Reads, IsWalked}
use Rattle.ty_solve.specs.Walk.{Next, Looks}
use Rattle.ty_solve.specs.Sizes.{size_at, asked, AreMarked, AreEarlier, effort, AreSizes, Visited}
use Rattle.ty_solve.specs.declared.size.Tally.{Tally}
use Rattle.ty_solve.specs.declared.size.Tally.TheVariants.{Visit, Done}
use Rattle.ty_solve.proofs.Sigma.{resolves-fits}
use Rattle.ty_solve.proofs.Walking.{ground-same, next-lighter}

positive : (w : ℕ → ℕ) (t : Typ) → 0 < weight w t
positive w (var v) = omega arith
positive w (con c ts) = omega arith

-- tasks one after the other

asked-append : (f : ℕ → Typ) (ts : List Typ) (l r : List Tally) → asked f ts (l ++ r) ≡ asked f ts l + asked f ts r
asked-append f ts [] r = omega arith
asked-append f ts (Visit k ∷ l) r = let e = asked-append f ts l r in omega arith
asked-append f ts (Done k n ∷ l) r = asked-append f ts l r

effort-append : (w : ℕ → ℕ) (ts : List Typ) (l r : List Tally) → effort w ts (l ++ r) ≡ effort w ts l + effort w ts r
effort-append w ts [] r = omega arith
effort-append w ts (Visit k ∷ l) r = let e = effort-append w ts l r in omega arith
effort-append w ts (Done k n ∷ l) r = let e = effort-append w ts l r in omega arith

-- the last task is taken, and others come in its place
marked-on : (f : ℕ → Typ) (ts : List Typ) (count now : ℕ) (rest added : List Tally) (x : Tally) → now + asked f ts added ≡ count + asked f ts (x ∷ []) → AreMarked f ts now added → AreMarked f ts count (rest ++ x ∷ []) → AreMarked f ts now (rest ++ added)
marked-on f ts count now [] added x e m h = m
marked-on f ts count now (Visit k ∷ rest) added x e m h = marked-on f ts count now rest added x e m h
marked-on f ts count now (Done k n ∷ rest) added x e m h = (
  let p = h.0 in let q = asked-append f ts rest (x ∷ []) in let r = asked-append f ts rest added in omega arith,
  marked-on f ts count now rest added x e m h.1,
)

earlier-on : (count now : ℕ) (rest added : List Tally) (x : Tally) → count ≤ now → AreEarlier now added → AreEarlier count (rest ++ x ∷ []) → AreEarlier now (rest ++ added)
earlier-on count now [] added x e m h = m
earlier-on count now (Visit k ∷ rest) added x e m h = earlier-on count now rest added x e m h
earlier-on count now (Done k n ∷ rest) added x e m h = (let p = h.0 in omega arith, earlier-on count now rest added x e m h.1)

marked-last : (f : ℕ → Typ) (ts : List Typ) (count : ℕ) (rest : List Tally) (k n : ℕ) → AreMarked f ts count (rest ++ Done k n ∷ []) → count ≡ n + size_at f ts k
marked-last f ts count [] k n h = let p = h.0 in omega arith
marked-last f ts count (Visit j ∷ rest) k n h = marked-last f ts count rest k n h
marked-last f ts count (Done j m ∷ rest) k n h = marked-last f ts count rest k n h.1

earlier-last : (count : ℕ) (rest : List Tally) (k n : ℕ) → AreEarlier count (rest ++ Done k n ∷ []) → n ≤ count
earlier-last count [] k n h = h.0
earlier-last count (Visit j ∷ rest) k n h = earlier-last count rest k n h
earlier-last count (Done j m ∷ rest) k n h = earlier-last count rest k n h.1

-- a type that is visited

asked-visits : (f : ℕ → Typ) (ts : List Typ) (ks : List ℕ) → asked f ts (map Visit ks) ≡ all_nodes (subs f (types_at ts ks))
asked-visits f ts [] = refl
asked-visits f ts (k ∷ ks) = ap (λ n. size_at f ts k + n) (asked-visits f ts ks)

marked-visits : (f : ℕ → Typ) (ts : List Typ) (count : ℕ) (ks : List ℕ) → AreMarked f ts count (map Visit ks)
marked-visits f ts count [] = tt
marked-visits f ts count (k ∷ ks) = marked-visits f ts count ks

earlier-visits : (count : ℕ) (ks : List ℕ) → AreEarlier count (map Visit ks)
earlier-visits count [] = tt
earlier-visits count (k ∷ ks) = earlier-visits count ks

effort-visits : (w : ℕ → ℕ) (ts : List Typ) (ks : List ℕ) → effort w ts (map Visit ks) ≡ 2 * weights w (types_at ts ks)
effort-visits w ts [] = omega arith
effort-visits w ts (k ∷ ks) = let e = effort-visits w ts ks in omega arith

next-nodes : (ts : List Typ) (s : ℕ → Entry) (t : ℕ) (ks : List ℕ) → IsWalked s (type_at ts t) → Next ts s t ks → (f : ℕ → Typ) → Resolves f s → suc (all_nodes (subs f (types_at ts ks))) ≡ size_at f ts t
next-nodes ts s t ks i (Next.fields x e ls p q) f h =
    let b = ap (λ y. nodes (sub f y)) p in
    let d = ap nodes (h x ∙ ap (resolved f x) q) in
    omega arith
next-nodes ts s t ks i (Next.ends x p q r) f h =
    let e = ap (λ l. all_nodes (subs f (types_at ts l))) r in
    let b = ap (λ y. nodes (sub f y)) p in
    let d = ap nodes (h x ∙ ap (resolved f x) q) in
    omega arith
next-nodes ts s t ks i (Next.stands x u p q r) f h = let j = subst (IsWalked s) p i in absurd (false≢true (sym (ap is_open q) ∙ j))
next-nodes ts s t ks i (Next.applied c p) f h = sym (ap (λ y. nodes (sub f y)) p)

nothing-added : {A : Type 0} (l : List A) → l ≡ l ++ []
nothing-added [] = refl
nothing-added (x ∷ l) = ap (λ m. x ∷ m) (nothing-added l)

-- all its nodes are counted at once
pub visited-at-once : (ts : List Typ) (s : ℕ → Entry) (w : ℕ → ℕ) (t count n : ℕ) (l : List Tally) → ((f : ℕ → Typ) → Resolves f s → n ≡ min (size_at f ts t) (2 ^ 64 - 1)) → Visited ts s w t count l l n
visited-at-once ts s w t count n l e = record {
  added = [];
  is = nothing-added l;
  exact = λ lt f h. let q = e f h in omega arith;
  marked = λ lt f h. tt;
  earlier = tt;
  large = λ i f h. let q = e f h in omega arith;
  lighter = let p = positive w (type_at ts t) in omega arith;
}

pub visited-known : (ts : List Typ) (s : ℕ → Entry) (w : ℕ → ℕ) (t count n : ℕ) (sizes : ℕ → Option ℕ) (l : List Tally) → AreSizes ts s sizes → sizes t ≡ Some n → Visited ts s w t count l l n
visited-known ts s w t count n sizes l g e = record {
  added = [];
  is = nothing-added l;
  exact = λ lt f h. let q = g t n e f h in omega arith;
  marked = λ lt f h. tt;
  earlier = tt;
  large = λ i f h. let q = g t n e f h in omega arith;
  lighter = let p = positive w (type_at ts t) in omega arith;
}

pub visited-ground : (ts : List Typ) (m : ℕ) (s : ℕ → Entry) (w : ℕ → ℕ) (t u count n : ℕ) (l : List Tally) → Reads m s w (type_at ts t) (type_at ts u) → top (type_at ts u) ≡ 0 → n ≡ min (nodes (type_at ts u)) (2 ^ 64 - 1) → Visited ts s w t count l l n
visited-ground ts m s w t u count n l g z e = visited-at-once ts s w t count n l (λ f h. let q = ap nodes (g.same f (resolves-fits s f h) ∙ ground-same f (type_at ts u) z) in omega arith)

-- its parts are asked for
pub visited-opens : (ts : List Typ) (m : ℕ) (s : ℕ → Entry) (a : IsAcyclic s) (t u count : ℕ) (empty parts : List ℕ) (l mid new : List Tally) → Reads m s a.0 (type_at ts t) (type_at ts u) → empty ≡ [] → Looks ts s u empty parts → mid ≡ l ++ Done t count ∷ [] → new ≡ mid ++ map Visit parts → Visited ts s a.0 t count l new 1
visited-opens ts m s a t u count empty parts l mid new g e h p q =
    let is : parts ≡ h.parts = h.is ∙ ap (λ x. x ++ h.parts) e in
    let asks : (f : ℕ → Typ) → asked f ts (map Visit parts) ≡ all_nodes (subs f (types_at ts h.parts)) = λ f. asked-visits f ts parts ∙ ap (λ x. all_nodes (subs f (types_at ts x))) is in
    let whole : (f : ℕ → Typ) → Resolves f s → suc (all_nodes (subs f (types_at ts h.parts))) ≡ size_at f ts t = λ f k. next-nodes ts s u h.parts g.walked h.next f k ∙ sym (ap nodes (g.same f (resolves-fits s f k))) in
    record {
      added = Done t count ∷ map Visit parts;
      is = q ∙ ap (λ x. x ++ map Visit parts) p ∙ append_assoc l (Done t count ∷ []) (map Visit parts);
      exact = λ lt f k. let x = asks f in let y = whole f k in omega arith;
      marked = λ lt f k. (let x = asks f in let y = whole f k in omega arith, marked-visits f ts (count + 1) parts);
      earlier = (omega arith, earlier-visits (count + 1) parts);
      large = λ i f k. absurd (omega arith);
      lighter =
          let x = effort-visits a.0 ts parts ∙ ap (λ y. 2 * weights a.0 (types_at ts y)) is in
          let b = next-lighter ts s a u h.parts h.next in
          let d = g.lighter in
          omega arith;
    }

-- so many are counted

pub record Sizing (ts : List Typ) (s : ℕ → Entry) (t : ℕ) (sizes : ℕ → Option ℕ) (tasks : List Tally) (count : ℕ) : Type 0 where
  pub total : (f : ℕ → Typ) → Resolves f s → count + asked f ts tasks ≡ size_at f ts t
  pub marked : (f : ℕ → Typ) → Resolves f s → AreMarked f ts count tasks
  pub earlier : AreEarlier count tasks
  pub sized : AreSizes ts s sizes
  pub few : count ≤ 65536

pub sizing-visits : (ts : List Typ) (s : ℕ → Entry) (w : ℕ → ℕ) (t : ℕ) (sizes : ℕ → Option ℕ) (old rest new : List Tally) (x : Tally) (k n count now : ℕ) → old ≡ rest ++ x ∷ [] → x ≡ Visit k → Visited ts s w k count rest new n → n ≤ 65536 - count → now ≡ count + n → Sizing ts s t sizes old count → Sizing ts s t sizes new now
sizing-visits ts s w t sizes old rest new x k n count now e i v lt p g =
    let few : count ≤ 65536 = g.few in
    let fits : n < 2 ^ 64 - 1 = omega arith in
    let o : old ≡ rest ++ Visit k ∷ [] = e ∙ ap (λ y. rest ++ y ∷ []) i in
    subst (λ l. Sizing ts s t sizes l now) (sym v.is) (subst (λ c. Sizing ts s t sizes (rest ++ v.added) c) (sym p) (record {
      total = λ f h.
          let a = g.total f h in
          let b = ap (asked f ts) o ∙ asked-append f ts rest (Visit k ∷ []) in
          let c = asked-append f ts rest v.added in
          let d = v.exact fits f h in
          omega arith;
      marked = λ f h. marked-on f ts count (count + n) rest v.added (Visit k) (let d = v.exact fits f h in omega arith) (v.marked fits f h) (subst (AreMarked f ts count) o (g.marked f h));
      earlier = earlier-on count (count + n) rest v.added (Visit k) (omega arith) v.earlier (subst (AreEarlier count) o g.earlier);
      sized = g.sized;
      few = omega arith;
    }))

pub sizing-over : (ts : List Typ) (s : ℕ → Entry) (w : ℕ → ℕ) (t : ℕ) (sizes : ℕ → Option ℕ) (old rest new : List Tally) (x : Tally) (k n count : ℕ) → old ≡ rest ++ x ∷ [] → x ≡ Visit k → Visited ts s w k count rest new n → n < 2 ^ 64 → 65536 - count < n → Sizing ts s t sizes old count → (f : ℕ → Typ) → Resolves f s → 65536 < size_at f ts t
sizing-over ts s w t sizes old rest new x k n count e i v fits lt g f h = go (cases n)
  where
    o : old ≡ rest ++ Visit k ∷ []
    o = e ∙ ap (λ y. rest ++ y ∷ []) i

    cases : (n : ℕ) → (n < 2 ^ 64 - 1) ⊎ (2 ^ 64 - 1 ≤ n)
    cases n = search arith

    go : (n < 2 ^ 64 - 1) ⊎ (2 ^ 64 - 1 ≤ n) → 65536 < size_at f ts t
    go (inl b) = let few = g.few in let q = g.total f h in let r = ap (asked f ts) o ∙ asked-append f ts rest (Visit k ∷ []) in let y = v.exact b f h in omega arith
    go (inr b) = let few = g.few in let q = g.total f h in let r = ap (asked f ts) o ∙ asked-append f ts rest (Visit k ∷ []) in let y = v.large (omega arith) f h in omega arith

-- a size is noted

sizes-more : (ts : List Typ) (s : ℕ → Entry) (old new : ℕ → Option ℕ) (k n : ℕ) → ((q : ℕ) → new q ≡ cond (nat_eq k q) (Some n) (old q)) → ((f : ℕ → Typ) → Resolves f s → n ≡ size_at f ts k) → AreSizes ts s old → AreSizes ts s new
sizes-more ts s old new k n u is g q m e f h = go (nat_eq k q) refl
  where
    go : (b : Bool) → nat_eq k q ≡ b → m ≡ size_at f ts q
    go true c =
        let a : Some n ≡ Some m = sym (u q ∙ ap (λ b. cond b (Some n) (old q)) c) ∙ e in
        let j : n ≡ m = cc in
        sym j ∙ is f h ∙ ap (size_at f ts) (eqb-true k q c)
    go false c = g q m (sym (u q ∙ ap (λ b. cond b (Some n) (old q)) c) ∙ e) f h

module _ (ts : List Typ) (s : ℕ → Entry) (t : ℕ) (old : ℕ → Option ℕ) (tasks rest : List Tally) (x : Tally) (k n count : ℕ) (e : tasks ≡ rest ++ x ∷ []) (i : x ≡ Done k n) (g : Sizing ts s t old tasks count) where
  o : tasks ≡ rest ++ Done k n ∷ []
  o = e ∙ ap (λ y. rest ++ y ∷ []) i

  pub noted-earlier : n ≤ count
  noted-earlier = earlier-last count rest k n (subst (AreEarlier count) o g.earlier)

  pub sizing-notes : (new : ℕ → Option ℕ) (m : ℕ) → m ≡ count - n → ((q : ℕ) → new q ≡ cond (nat_eq k q) (Some m) (old q)) → Sizing ts s t new rest count
  sizing-notes new m p u = record {
    total = λ f h. let a = g.total f h in let b = ap (asked f ts) o ∙ asked-append f ts rest (Done k n ∷ []) in omega arith;
    marked = λ f h. subst (AreMarked f ts count) (append-nil rest) (marked-on f ts count count rest [] (Done k n) refl tt (subst (AreMarked f ts count) o (g.marked f h)));
    earlier = subst (AreEarlier count) (append-nil rest) (earlier-on count count rest [] (Done k n) (omega arith) tt (subst (AreEarlier count) o g.earlier));
    sized = sizes-more ts s old new k m u (λ f h. let a = marked-last f ts count rest k n (subst (AreMarked f ts count) o (g.marked f h)) in omega arith) g.sized;
    few = g.few;
  }

pub done-lighter : (w : ℕ → ℕ) (ts : List Typ) (old rest : List Tally) (x : Tally) (k n : ℕ) → old ≡ rest ++ x ∷ [] → x ≡ Done k n → effort w ts rest < effort w ts old
done-lighter w ts old rest x k n e i = let p = ap (effort w ts) (e ∙ ap (λ y. rest ++ y ∷ []) i) ∙ effort-append w ts rest (Done k n ∷ []) in omega arith

pub visit-lighter : (ts : List Typ) (s : ℕ → Entry) (w : ℕ → ℕ) (old rest new : List Tally) (x : Tally) (k n count : ℕ) → old ≡ rest ++ x ∷ [] → x ≡ Visit k → Visited ts s w k count rest new n → effort w ts new < effort w ts old
visit-lighter ts s w old rest new x k n count e i v =
    let p = ap (effort w ts) (e ∙ ap (λ y. rest ++ y ∷ []) i) ∙ effort-append w ts rest (Visit k ∷ []) in
    let q = ap (effort w ts) v.is ∙ effort-append w ts rest v.added in
    let r = v.lighter in
    omega arith
