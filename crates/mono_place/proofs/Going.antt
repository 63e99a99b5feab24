-- Types are placed one after the other.
use Rattle.std.proofs.Common.{◌≡◌, ◌≢◌, AllPairs, ◌<◌, ◌≤◌, ◌*◌, ◌+◌, ◌-◌, ◌⊎◌, inl, inr, ℕ, zero, suc, List, [], ◌∷◌, ◌++◌, Bool, true, false, cond, nat_eq, length, map, drop, slice_index_or, Option, Some, unwrap_or, refl, sym, ap, ap₂, subst, ◌∙◌, arith}
use Rattle.std.proofs.lemmas.List.{append-nil, append_assoc}
use Rattle.std.proofs.lemmas.Bool.{eq-eqb, eqb-true}
use Rattle.ty_core.specs.Types.{Symbol, Typ, var, con, nodes, all_nodes}
use Rattle.ty_table.specs.TypeAt.{type_at, types_at, AllBelow}
use Rattle.ty_table.proofs.Keeping.{one-place}
use Rattle.ir_mono.specs.Types.{Row, Node, node}
use Rattle.monomorphise.specs.Table.{same_node, place, place_type, place_all}
use Rattle.monomorphise.proofs.Placed.{Longer}
use Rattle.mono_place.specs.Placing.{IsPlaced, placed_var, ArePlaced, placed_none, placed_more, AreRight, number_in, visits, subject, after, Among, Has, AllHave, CanStep, InOrder, Going, burden, Opens, Moves}
use Rattle.mono_place.specs.declared.step.Step.{Step}
use Rattle.mono_place.specs.declared.step.Step.TheVariants.{Visit, Build}
use Rattle.mono_place.proofs.Placed.{type-longer, type-there, types-there, placed-longer, type-placed, types-placed}

-- steps

among-front : (l r : List Step) (k : ℕ) → Among l k → Among (l ++ r) k
among-front [] r k h = absurd h
among-front (x ∷ l) r k (inl e) = inl e
among-front (x ∷ l) r k (inr h) = inr (among-front l r k h)

among-back : (l r : List Step) (k : ℕ) → Among r k → Among (l ++ r) k
among-back [] r k h = h
among-back (x ∷ l) r k h = inr (among-back l r k h)

among-either : (l r : List Step) (k : ℕ) → Among (l ++ r) k → Among l k ⊎ Among r k
among-either [] r k h = inr h
among-either (x ∷ l) r k (inl e) = inl (inl e)
among-either (x ∷ l) r k (inr h) = go (among-either l r k h)
  where
    go : Among l k ⊎ Among r k → Among (x ∷ l) k ⊎ Among r k
    go (inl a) = inl (inr a)
    go (inr b) = inr b

module _ (ts : List Typ) (known later : ℕ → Option ℕ) (grow : (k r : ℕ) → known k ≡ Some r → (q : ℕ) × (later k ≡ Some q)) (x : Step) (now : List Step) (here : Has later now (subject x)) where
  -- what has its number after the step has it after those that come in its place
  has-swapped : (rest : List Step) (k : ℕ) → Has known (rest ++ x ∷ []) k → Has later (rest ++ now) k
  has-swapped rest k (Has.found r e) = let g = grow k r e in Has.found g.0 g.1
  has-swapped rest k (Has.awaited a) = go (among-either rest (x ∷ []) k a)
    where
      lifted : Has later now k → Has later (rest ++ now) k
      lifted (Has.found r e) = Has.found r e
      lifted (Has.awaited b) = Has.awaited (among-back rest now k b)

      go : Among rest k ⊎ Among (x ∷ []) k → Has later (rest ++ now) k
      go (inl b) = Has.awaited (among-front rest now k b)
      go (inr (inl e)) = lifted (subst (Has later now) e here)
      go (inr (inr b)) = absurd b

  all-swapped : (rest : List Step) (ks : List ℕ) → AllHave known (rest ++ x ∷ []) ks → AllHave later (rest ++ now) ks
  all-swapped rest [] h = tt
  all-swapped rest (k ∷ ks) h = (has-swapped rest k h.0, all-swapped rest ks h.1)

  can-swapped : (rest : List Step) (y : Step) → CanStep ts known (rest ++ x ∷ []) y → CanStep ts later (rest ++ now) y
  can-swapped rest (Visit k) h = tt
  can-swapped rest (Build k) h = record { symbol = h.symbol; parts = h.parts; is = h.is; below = h.below; have = all-swapped rest h.parts h.have }

  order-swapped : (rest : List Step) → InOrder ts later now → InOrder ts known (rest ++ x ∷ []) → InOrder ts later (rest ++ now)
  order-swapped [] n h = n
  order-swapped (y ∷ rest) n h = (can-swapped rest y h.0, order-swapped rest n h.1)

last-step : (ts : List Typ) (known : ℕ → Option ℕ) (rest : List Step) (x : Step) → InOrder ts known (rest ++ x ∷ []) → CanStep ts known [] x
last-step ts known [] x h = h.0
last-step ts known (y ∷ rest) x h = last-step ts known rest x h.1

-- the burden

burden-append : (ts : List Typ) (l r : List Step) → burden ts (l ++ r) ≡ burden ts l + burden ts r
burden-append ts [] r = omega arith
burden-append ts (Visit k ∷ l) r = let e = burden-append ts l r in omega arith
burden-append ts (Build k ∷ l) r = let e = burden-append ts l r in omega arith

burden-visits : (ts : List Typ) (ks : List ℕ) → burden ts (visits ks) ≡ 2 * all_nodes (types_at ts ks)
burden-visits ts [] = omega arith
burden-visits ts (k ∷ ks) = let e = burden-visits ts ks in let a = burden-append ts (visits ks) (Visit k ∷ []) in omega arith

positive : (t : Typ) → 0 < nodes t
positive (var v) = omega arith
positive (con c ts) = omega arith

some-burden : (ts : List Typ) (x : Step) → 0 < burden ts (x ∷ [])
some-burden ts (Visit k) = let p = positive (type_at ts k) in omega arith
some-burden ts (Build k) = omega arith

-- the table

module _ (s : ℕ → ℕ) (ts : List Typ) where
  after-append : (l r : List Step) (types : List Row) → after s ts (l ++ r) types ≡ after s ts l (after s ts r types)
  after-append [] r types = refl
  after-append (x ∷ l) r types = ap (λ types. (place_type s types (type_at ts (subject x))).0) (after-append l r types)

  after-visits : (ks : List ℕ) (types : List Row) → after s ts (visits ks) types ≡ (place_all s types (types_at ts ks)).0
  after-visits [] types = refl
  after-visits (k ∷ ks) types = after-append (visits ks) (Visit k ∷ []) types ∙ after-visits ks (place_type s types (type_at ts k)).0

  -- a type is built in a table that has its parts
  after-opened : ((k : Node) → same_node k k ≡ true) → (h : Symbol) (ks : List ℕ) (k : ℕ) (types : List Row) → type_at ts k ≡ con h (types_at ts ks)
      → after s ts (Build k ∷ visits ks) types ≡ after s ts (Visit k ∷ []) types
  after-opened same h ks k types i =
      ap (λ types. (place_type s types (type_at ts k)).0) (after-visits ks types)
      ∙ ap (λ t. (place_type s (place_all s types (types_at ts ks)).0 t).0) i
      ∙ ap (λ (r : List Row × List ℕ). (place r.0 (node h r.1)).0) (types-there s (place_all s types (types_at ts ks)).0 (types_at ts ks) (place_all s types (types_at ts ks)).1 (types-placed s same types (types_at ts ks)))
      ∙ sym (ap (λ t. (place_type s types t).0) i)

order-front : (ts : List Typ) (known : ℕ → Option ℕ) (rest : List Step) (x : Step) → Has known [] (subject x) → InOrder ts known (rest ++ x ∷ []) → InOrder ts known rest
order-front ts known rest x h o = subst (InOrder ts known) (append-nil rest) (order-swapped ts known known (λ k r e. (r, e)) x [] h rest tt o)

-- one more number

abbrev pub Updated : (known later : ℕ → Option ℕ) (k r : ℕ) → Type 0
Updated known later k r = (q : ℕ) → later q ≡ cond (nat_eq k q) (Some r) (known q)

made-there : (known later : ℕ → Option ℕ) (k r : ℕ) → Updated known later k r → (q p : ℕ) → known q ≡ Some p → (z : ℕ) × (later q ≡ Some z)
made-there known later k r u q p e = go (nat_eq k q) refl
  where
    go : (b : Bool) → nat_eq k q ≡ b → (z : ℕ) × (later q ≡ Some z)
    go true c = (r, u q ∙ ap (λ b. cond b (Some r) (known q)) c)
    go false c = (p, u q ∙ ap (λ b. cond b (Some r) (known q)) c ∙ e)

made-here : (known later : ℕ → Option ℕ) (k r : ℕ) → Updated known later k r → later k ≡ Some r
made-here known later k r u = u k ∙ ap (λ b. cond b (Some r) (known k)) (eq-eqb k k refl)

right-more : (ts : List Typ) (s : ℕ → ℕ) (known later : ℕ → Option ℕ) (types : List Row) (k r : ℕ) → Updated known later k r → IsPlaced s types (type_at ts k) r → AreRight ts s known types → AreRight ts s later types
right-more ts s known later types k r u i m q z e = go (nat_eq k q) refl
  where
    go : (b : Bool) → nat_eq k q ≡ b → IsPlaced s types (type_at ts q) z
    go true c =
        let a : Some r ≡ Some z = sym (u q ∙ ap (λ b. cond b (Some r) (known q)) c) ∙ e in
        let j : r ≡ z = cc in
        subst (λ y. IsPlaced s types (type_at ts y) z) (eqb-true k q c) (subst (IsPlaced s types (type_at ts k)) j i)
    go false c = m q z (sym (u q ∙ ap (λ b. cond b (Some r) (known q)) c) ∙ e)

-- a step is taken

pub going-begins : (ts : List Typ) (s : ℕ → ℕ) (known : ℕ → Option ℕ) (types : List Row) (steps : List Step) (k : ℕ) → AreRight ts s known types → steps ≡ Visit k ∷ [] → Going ts s known types types steps k
going-begins ts s known types steps k r e = subst (λ l. Going ts s known types types l k) (sym e) (record { right = r; order = (tt, tt); has = Has.awaited (inl refl); table = refl })

pub going-skips : (ts : List Typ) (s : ℕ → ℕ) (known : ℕ → Option ℕ) (first types : List Row) (rest : List Step) (k n goal : ℕ) → known k ≡ Some n → Going ts s known first types (rest ++ Visit k ∷ []) goal
    → Moves ts s known known first types types (rest ++ Visit k ∷ []) rest goal
going-skips ts s known first types rest k n goal d g =
    let h : Has known [] k = Has.found n d in
    record {
      going = record {
        right = g.right;
        order = order-front ts known rest (Visit k) h g.order;
        has = subst (λ l. Has known l goal) (append-nil rest) (has-swapped ts known known (λ k r e. (r, e)) (Visit k) [] h rest goal g.has);
        table = ap (after s ts rest) (sym (ap (λ (r : List Row × ℕ). r.0) (type-there s types (type_at ts k) n (g.right k n d)))) ∙ sym (after-append s ts rest (Visit k ∷ []) types) ∙ g.table;
      };
      lighter = let e = burden-append ts rest (Visit k ∷ []) in let p = some-burden ts (Visit k) in omega arith;
    }

-- the type gets the number n, in a table that has grown
going-makes : (ts : List Typ) (s : ℕ → ℕ) (known later : ℕ → Option ℕ) (first types now : List Row) (rest : List Step) (x : Step) (n goal : ℕ) → Updated known later (subject x) n → place_type s types (type_at ts (subject x)) ≡ (now, n)
    → IsPlaced s now (type_at ts (subject x)) n → Going ts s known first types (rest ++ x ∷ []) goal → Moves ts s known later first types now (rest ++ x ∷ []) rest goal
going-makes ts s known later first types now rest x n goal u e i g =
    let h : Has later [] (subject x) = Has.found n (made-here known later (subject x) n u) in
    let l : Longer types now = subst (Longer types) (ap (λ (r : List Row × ℕ). r.0) e) (type-longer s types (type_at ts (subject x))) in
    record {
      going = record {
        right = right-more ts s known later now (subject x) n u i (λ k r q. placed-longer s types now (type_at ts k) r l (g.right k r q));
        order = subst (InOrder ts later) (append-nil rest) (order-swapped ts known later (made-there known later (subject x) n u) x [] h rest tt g.order);
        has = subst (λ l. Has later l goal) (append-nil rest) (has-swapped ts known later (made-there known later (subject x) n u) x [] h rest goal g.has);
        table = ap (after s ts rest) (sym (ap (λ (r : List Row × ℕ). r.0) e)) ∙ sym (after-append s ts rest (x ∷ []) types) ∙ g.table;
      };
      lighter = let a = burden-append ts rest (x ∷ []) in let p = some-burden ts x in omega arith;
    }

pub going-puts : (ts : List Typ) (s : ℕ → ℕ) (known later : ℕ → Option ℕ) (first types : List Row) (rest : List Step) (k v n goal : ℕ) → type_at ts k ≡ var v → n ≡ s v → Updated known later k n → Going ts s known first types (rest ++ Visit k ∷ []) goal
    → Moves ts s known later first types types (rest ++ Visit k ∷ []) rest goal
going-puts ts s known later first types rest k v n goal i j u g =
    going-makes ts s known later first types types rest (Visit k) n goal u (ap (place_type s types) i ∙ ap (λ n. (types, n)) (sym j)) (subst (λ t. IsPlaced s types t n) (sym i) (subst (IsPlaced s types (var v)) (sym j) placed_var)) g

front-has : (known : ℕ → Option ℕ) (l r : List Step) (k : ℕ) → Has known l k → Has known (l ++ r) k
front-has known l r k (Has.found n e) = Has.found n e
front-has known l r k (Has.awaited a) = Has.awaited (among-front l r k a)

front-have : (known : ℕ → Option ℕ) (l r : List Step) (ks : List ℕ) → AllHave known l ks → AllHave known (l ++ r) ks
front-have known l r [] h = tt
front-have known l r (k ∷ ks) h = (front-has known l r k h.0, front-have known l r ks h.1)

awaits : (known : ℕ → Option ℕ) (ks : List ℕ) → AllHave known (visits ks) ks
awaits known [] = tt
awaits known (k ∷ ks) = (Has.awaited (among-back (visits ks) (Visit k ∷ []) k (inl refl)), front-have known (visits ks) (Visit k ∷ []) ks (awaits known ks))

visits-order : (ts : List Typ) (known : ℕ → Option ℕ) (ks : List ℕ) → InOrder ts known (visits ks)
visits-order ts known [] = tt
visits-order ts known (k ∷ ks) = more-order (visits ks) (visits-order ts known ks)
  where
    more-can : (l : List Step) (x : Step) → CanStep ts known l x → CanStep ts known (l ++ Visit k ∷ []) x
    more-can l (Visit j) h = tt
    more-can l (Build j) h = record { symbol = h.symbol; parts = h.parts; is = h.is; below = h.below; have = front-have known l (Visit k ∷ []) h.parts h.have }

    more-order : (l : List Step) → InOrder ts known l → InOrder ts known (l ++ Visit k ∷ [])
    more-order [] h = (tt, tt)
    more-order (x ∷ l) h = (more-can l x h.0, more-order l h.1)

pub going-opens : ((k : Node) → same_node k k ≡ true) → (ts : List Typ) (s : ℕ → ℕ) (known : ℕ → Option ℕ) (first types : List Row) (rest new : List Step) (k goal : ℕ) → Opens ts k rest new → Going ts s known first types (rest ++ Visit k ∷ []) goal
    → Moves ts s known known first types types (rest ++ Visit k ∷ []) new goal
going-opens same ts s known first types rest new k goal o g =
    let now : List Step = Build k ∷ visits o.parts in
    let h : Has known now k = Has.awaited (inl refl) in
    let n : InOrder ts known now = (record { symbol = o.symbol; parts = o.parts; is = o.is; below = o.below; have = awaits known o.parts }, visits-order ts known o.parts) in
    record {
      going = record {
        right = g.right;
        order = subst (InOrder ts known) (sym o.steps) (order-swapped ts known known (λ k r e. (r, e)) (Visit k) now h rest n g.order);
        has = subst (λ l. Has known l goal) (sym o.steps) (has-swapped ts known known (λ k r e. (r, e)) (Visit k) now h rest goal g.has);
        table = ap (λ l. after s ts l types) o.steps ∙ after-append s ts rest now types ∙ ap (after s ts rest) (after-opened s ts same o.symbol o.parts k types o.is) ∙ sym (after-append s ts rest (Visit k ∷ []) types) ∙ g.table;
      };
      lighter =
          let a = burden-append ts rest (Visit k ∷ []) in
          let b = ap (burden ts) o.steps ∙ burden-append ts rest now in
          let v = burden-visits ts o.parts in
          let c = ap nodes o.is in
          omega arith;
    }

-- a type whose parts have their numbers

parts-placed : (ts : List Typ) (s : ℕ → ℕ) (known : ℕ → Option ℕ) (types : List Row) (ks : List ℕ) → AreRight ts s known types → AllHave known [] ks → ArePlaced s types (types_at ts ks) (map (number_in known) ks)
parts-placed ts s known types [] r h = placed_none
parts-placed ts s known types (k ∷ ks) r h = placed_more (one h.0) (parts-placed ts s known types ks r h.1)
  where
    one : Has known [] k → IsPlaced s types (type_at ts k) (number_in known k)
    one (Has.found n e) = subst (IsPlaced s types (type_at ts k)) (sym (ap (λ o. unwrap_or o 0) e)) (r k n e)
    one (Has.awaited a) = absurd a

pub going-builds : ((k : Node) → same_node k k ≡ true) → (ts : List Typ) (s : ℕ → ℕ) (known later : ℕ → Option ℕ) (first types now : List Row) (rest steps : List Step) (k n goal : ℕ) → steps ≡ rest ++ Build k ∷ []
    → ((h : Symbol) (parts : List ℕ) → type_at ts k ≡ con h (types_at ts parts) → AllBelow (length ts) parts → place types (node h (map (number_in known) parts)) ≡ (now, n)) → Updated known later k n
    → Going ts s known first types steps goal → Moves ts s known later first types now steps rest goal
going-builds same ts s known later first types now rest steps k n goal q b u g' = subst (λ l. Moves ts s known later first types now l rest goal) (sym q) (at (subst (λ l. Going ts s known first types l goal) q g'))
  where
    at : Going ts s known first types (rest ++ Build k ∷ []) goal → Moves ts s known later first types now (rest ++ Build k ∷ []) rest goal
    at g =
        let c = last-step ts known rest (Build k) g.order in
        let p = parts-placed ts s known types c.parts g.right c.have in
        let e : place_type s types (type_at ts k) ≡ (now, n) = ap (place_type s types) c.is
        ∙ ap (λ (r : List Row × List ℕ). place r.0 (node c.symbol r.1)) (types-there s types (types_at ts c.parts) (map (number_in known) c.parts) p) ∙ b c.symbol c.parts c.is c.below in
        let i : IsPlaced s now (type_at ts k) n = subst (λ (r : List Row × ℕ). IsPlaced s r.0 (type_at ts k) r.1) e (type-placed s same types (type_at ts k)) in
        going-makes ts s known later first types now rest (Build k) n goal u e i g

-- a type has its parts as one list
one-list : (ts : List Typ) (l m : List ℕ) → AllPairs (λ t u. t ≢ u) ts → AllBelow (length ts) l → AllBelow (length ts) m → types_at ts l ≡ types_at ts m → l ≡ m
one-list ts [] [] h a b e = refl
one-list ts [] (j ∷ m) h a b e = cc
one-list ts (i ∷ l) [] h a b e = cc
one-list ts (i ∷ l) (j ∷ m) h a b e =
    let p : type_at ts i ≡ type_at ts j = cc in
    let q : types_at ts l ≡ types_at ts m = cc in
    ap₂ (λ k n. k ∷ n) (one-place (var 0) ts i j h a.0 b.0 p) (one-list ts l m h a.1 b.1 q)

pub built : (ts : List Typ) (known : ℕ → Option ℕ) (types now : List Row) (k n : ℕ) (g : Symbol) (ks numbers : List ℕ) → AllPairs (λ t u. t ≢ u) ts → type_at ts k ≡ con g (types_at ts ks) × AllBelow (length ts) ks → numbers ≡ map (number_in known) ks
    → place types (node g numbers) ≡ (now, n) → (h : Symbol) (parts : List ℕ) → type_at ts k ≡ con h (types_at ts parts) → AllBelow (length ts) parts → place types (node h (map (number_in known) parts)) ≡ (now, n)
built ts known types now k n g ks numbers o v q r h parts i b =
    let e : con g (types_at ts ks) ≡ con h (types_at ts parts) = sym v.0 ∙ i in
    let head : g ≡ h = cc in
    let same : types_at ts ks ≡ types_at ts parts = cc in
    sym (ap (λ ns. place types (node g ns)) (q ∙ ap (map (number_in known)) (one-list ts ks parts o v.1 b same)) ∙ ap (λ g. place types (node g (map (number_in known) parts))) head) ∙ r

pub not-built : (ts : List Typ) (k v : ℕ) {P : Type 0} (h : Symbol) (parts : List ℕ) → type_at ts k ≡ var v → type_at ts k ≡ con h (types_at ts parts) → P
not-built ts k v h parts e i = let q : var v ≡ con h (types_at ts parts) = sym e ∙ i in absurd (cc)

-- steps that are pushed

pub record Pushed (old now : List Step) (ks : List ℕ) (n : ℕ) : Type 0 where
  pub within : n ≤ length ks
  pub is : now ≡ old ++ visits (drop n ks)

none-dropped : (ks : List ℕ) (n : ℕ) → n ≡ length ks → drop n ks ≡ []
none-dropped [] zero e = refl
none-dropped [] (suc n) e = refl
none-dropped (k ∷ ks) zero e = absurd (omega arith)
none-dropped (k ∷ ks) (suc n) e = none-dropped ks n (omega arith)

there : (ks : List ℕ) (n k : ℕ) → n < length ks → k ≡ slice_index_or ks n k → drop n ks ≡ k ∷ drop (suc n) ks
there [] n k lt e = absurd (omega arith)
there (j ∷ ks) zero k lt e = ap (λ j. j ∷ ks) (sym e)
there (j ∷ ks) (suc n) k lt e = there ks n k (omega arith) e

pub pushed-none : (steps : List Step) (ks : List ℕ) (n : ℕ) → n ≡ length ks → Pushed steps steps ks n
pushed-none steps ks n e = record { within = omega arith; is = sym (ap (λ l. steps ++ visits l) (none-dropped ks n e) ∙ append-nil steps) }

pub pushed-next : (old now new : List Step) (ks : List ℕ) (n m k : ℕ) → m ≡ suc n → n < length ks → k ≡ slice_index_or ks n k → Pushed old now ks m → new ≡ now ++ Visit k ∷ [] → Pushed old new ks n
pushed-next old now new ks n m k a lt e p i = record {
  within = omega arith;
  is = i ∙ ap (λ l. l ++ Visit k ∷ []) (p.is ∙ ap (λ m. old ++ visits (drop m ks)) a) ∙ append_assoc old (visits (drop (suc n) ks)) (Visit k ∷ []) ∙ ap (λ l. old ++ visits l) (sym (there ks n k lt e));
}

any-default : (ks : List ℕ) (i d e : ℕ) → i < length ks → slice_index_or ks i d ≡ slice_index_or ks i e
any-default [] i d e lt = absurd (omega arith)
any-default (k ∷ ks) zero d e lt = refl
any-default (k ∷ ks) (suc i) d e lt = any-default ks i d e (omega arith)

pub before : (n : ℕ) → 0 < n → n ≡ suc (n - 1)
before n lt = omega arith

-- at the element that a loop reads
pub pushed-read : (old now new : List Step) (ks : List ℕ) (n m d : ℕ) → m ≡ suc n → n < length ks → Pushed old now ks m → new ≡ now ++ Visit (slice_index_or ks n d) ∷ [] → Pushed old new ks n
pushed-read old now new ks n m d a lt p i = pushed-next old now new ks n m (slice_index_or ks n d) a lt (any-default ks n d (slice_index_or ks n d) lt) p i

pub pushed-all : (old now : List Step) (ks : List ℕ) (n : ℕ) → n ≡ 0 → Pushed old now ks n → now ≡ old ++ visits ks
pushed-all old now ks n e p = p.is ∙ ap (λ n. old ++ visits (drop n ks)) e

-- in the end

pub going-ends : ((k : Node) → same_node k k ≡ true) → (ts : List Typ) (s : ℕ → ℕ) (known : ℕ → Option ℕ) (first types : List Row) (steps : List Step) (goal n : ℕ) → length steps ≡ 0 → n ≡ number_in known goal
    → Going ts s known first types steps goal → place_type s first (type_at ts goal) ≡ (types, n)
going-ends same ts s known first types [] goal n e k g = ends g.has
  where
    ends : Has known [] goal → place_type s first (type_at ts goal) ≡ (types, n)
    ends (Has.awaited a) = absurd a
    ends (Has.found m f) =
        let there : IsPlaced s types (type_at ts goal) m = g.right goal m f in
        let own : IsPlaced s types (type_at ts goal) (place_type s first (type_at ts goal)).1 = subst (λ types. IsPlaced s types (type_at ts goal) (place_type s first (type_at ts goal)).1) (sym g.table) (type-placed s same first (type_at ts goal)) in
        let same_number : m ≡ (place_type s first (type_at ts goal)).1 = ap (λ (r : List Row × ℕ). r.1) (sym (type-there s types (type_at ts goal) m there) ∙ type-there s types (type_at ts goal) (place_type s first (type_at ts goal)).1 own) in
        sym (ap₂ (λ types n. (types, n)) g.table (k ∙ ap (λ o. unwrap_or o 0) f ∙ same_number))
going-ends same ts s known first types (x ∷ steps) goal n e k g = absurd (omega arith)

-- a type is opened
pub opens-pushed : (ts : List Typ) (k : ℕ) (h : Symbol) (ks : List ℕ) (old mid new : List Step) → type_at ts k ≡ con h (types_at ts ks) × AllBelow (length ts) ks → mid ≡ old ++ Build k ∷ [] → new ≡ mid ++ visits ks → Opens ts k old new
opens-pushed ts k h ks old mid new v p q = record { symbol = h; parts = ks; is = v.0; below = v.1; steps = q ∙ ap (λ l. l ++ visits ks) p ∙ append_assoc old (Build k ∷ []) (visits ks) }
