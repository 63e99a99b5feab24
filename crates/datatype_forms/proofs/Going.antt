-- Types are made one after the other.
use Rattle.std.proofs.Common.{◌≡◌, ◌≢◌, AllPairs, ◌<◌, ◌*◌, ◌+◌, ◌⊎◌, inl, inr, ℕ, List, [], ◌∷◌, ◌++◌, Bool, true, false, cond, nat_eq, length, map, slice_get, Option, Some, None, unwrap_or, refl, sym, ap, ap₂, subst, ◌∙◌, arith}
use Rattle.std.proofs.lemmas.List.{append-nil, append_assoc}
use Rattle.std.proofs.lemmas.Bool.{eq-eqb, eqb-true}
use Rattle.ty_core.specs.Types.{Symbol, Typ, var, con, more, nodes, all_nodes}
use Rattle.core_rules.specs.Objects.{AllOver, SymbolOver}
use Rattle.elab_typed.specs.Numbers.{symbol_as, type_as, types_as}
use Rattle.ty_table.specs.TypeAt.{type_at, types_at, AllBelow}
use Rattle.ty_table.proofs.Keeping.{one-place}
use Rattle.datatype_forms.specs.ProgramTypes.{AreRight, number_in, visits, subject, Among, Has, AllHave, CanStep, InOrder, Going, burden, Moves, Opened, a_variable, with_parts, CanBuild, Longer, IsImage, IsBuilt}
use Rattle.datatype_forms.specs.declared.step.Step.{Step}
use Rattle.datatype_forms.specs.declared.step.Step.TheVariants.{Visit, Build}
use Rattle.std.proofs.lemmas.Option.{slice_get_within, get_or_from_slice_get}
use Rattle.elab_steps.proofs.Growing.{found-later}

-- steps

among-front : (l r : List Step) (k : ℕ) → Among l k → Among (l ++ r) k
among-front [] r k h = absurd h
among-front (x ∷ l) r k (inl e) = inl e
among-front (x ∷ l) r k (inr h) = inr (among-front l r k h)

among-back : (l r : List Step) (k : ℕ) → Among r k → Among (l ++ r) k
among-back [] r k h = h
among-back (x ∷ l) r k h = inr (among-back l r k h)

among-either : (l r : List Step) (k : ℕ) → Among (l ++ r) k → Among l k ⊎ Among r k
among-either [] r k h = inr h
among-either (x ∷ l) r k (inl e) = inl (inl e)
among-either (x ∷ l) r k (inr h) = go (among-either l r k h)
  where
    go : Among l k ⊎ Among r k → Among (x ∷ l) k ⊎ Among r k
    go (inl a) = inl (inr a)
    go (inr b) = inr b

module _ (ts : List Typ) (known later : ℕ → Option ℕ) (grow : (k r : ℕ) → known k ≡ Some r → (q : ℕ) × (later k ≡ Some q)) (x : Step) (now : List Step) (here : Has later now (subject x)) where
  -- what has its number after the step has it after those that come in its place
  has-swapped : (rest : List Step) (k : ℕ) → Has known (rest ++ x ∷ []) k → Has later (rest ++ now) k
  has-swapped rest k (Has.found r e) = let g = grow k r e in Has.found g.0 g.1
  has-swapped rest k (Has.awaited a) = go (among-either rest (x ∷ []) k a)
    where
      lifted : Has later now k → Has later (rest ++ now) k
      lifted (Has.found r e) = Has.found r e
      lifted (Has.awaited b) = Has.awaited (among-back rest now k b)

      go : Among rest k ⊎ Among (x ∷ []) k → Has later (rest ++ now) k
      go (inl b) = Has.awaited (among-front rest now k b)
      go (inr (inl e)) = lifted (subst (Has later now) e here)
      go (inr (inr b)) = absurd b

  all-swapped : (rest : List Step) (ks : List ℕ) → AllHave known (rest ++ x ∷ []) ks → AllHave later (rest ++ now) ks
  all-swapped rest [] h = tt
  all-swapped rest (k ∷ ks) h = (has-swapped rest k h.0, all-swapped rest ks h.1)

  can-swapped : (rest : List Step) (y : Step) → CanStep ts known (rest ++ x ∷ []) y → CanStep ts later (rest ++ now) y
  can-swapped rest (Visit k) h = tt
  can-swapped rest (Build k) h = record { symbol = h.symbol; parts = h.parts; is = h.is; below = h.below; have = all-swapped rest h.parts h.have }

  order-swapped : (rest : List Step) → InOrder ts later now → InOrder ts known (rest ++ x ∷ []) → InOrder ts later (rest ++ now)
  order-swapped [] n h = n
  order-swapped (y ∷ rest) n h = (can-swapped rest y h.0, order-swapped rest n h.1)

last-step : (ts : List Typ) (known : ℕ → Option ℕ) (rest : List Step) (x : Step) → InOrder ts known (rest ++ x ∷ []) → CanStep ts known [] x
last-step ts known [] x h = h.0
last-step ts known (y ∷ rest) x h = last-step ts known rest x h.1

-- the burden

burden-append : (ts : List Typ) (l r : List Step) → burden ts (l ++ r) ≡ burden ts l + burden ts r
burden-append ts [] r = omega arith
burden-append ts (Visit k ∷ l) r = let e = burden-append ts l r in omega arith
burden-append ts (Build k ∷ l) r = let e = burden-append ts l r in omega arith

burden-visits : (ts : List Typ) (ks : List ℕ) → burden ts (visits ks) ≡ 2 * all_nodes (types_at ts ks)
burden-visits ts [] = omega arith
burden-visits ts (k ∷ ks) = let e = burden-visits ts ks in omega arith

positive : (t : Typ) → 0 < nodes t
positive (var v) = omega arith
positive (con c ts) = omega arith

some-burden : (ts : List Typ) (x : Step) → 0 < burden ts (x ∷ [])
some-burden ts (Visit k) = let p = positive (type_at ts k) in omega arith
some-burden ts (Build k) = omega arith

order-front : (ts : List Typ) (known : ℕ → Option ℕ) (rest : List Step) (x : Step) → Has known [] (subject x) → InOrder ts known (rest ++ x ∷ []) → InOrder ts known rest
order-front ts known rest x h o = subst (InOrder ts known) (append-nil rest) (order-swapped ts known known (λ k r e. (r, e)) x [] h rest tt o)

-- one more number

abbrev pub Updated : (known later : ℕ → Option ℕ) (k r : ℕ) → Type 0
Updated known later k r = (q : ℕ) → later q ≡ cond (nat_eq k q) (Some r) (known q)

made-there : (known later : ℕ → Option ℕ) (k r : ℕ) → Updated known later k r → (q p : ℕ) → known q ≡ Some p → (z : ℕ) × (later q ≡ Some z)
made-there known later k r u q p e = go (nat_eq k q) refl
  where
    go : (b : Bool) → nat_eq k q ≡ b → (z : ℕ) × (later q ≡ Some z)
    go true c = (r, u q ∙ ap (λ b. cond b (Some r) (known q)) c)
    go false c = (p, u q ∙ ap (λ b. cond b (Some r) (known q)) c ∙ e)

made-here : (known later : ℕ → Option ℕ) (k r : ℕ) → Updated known later k r → later k ≡ Some r
made-here known later k r u = u k ∙ ap (λ b. cond b (Some r) (known k)) (eq-eqb k k refl)

right-more : (ts : List Typ) (f : ℕ → ℕ) (limit : ℕ) (known later : ℕ → Option ℕ) (us : List Typ) (k r : ℕ) → Updated known later k r → IsImage f limit us r (type_at ts k) → AreRight ts f limit known us → AreRight ts f limit later us
right-more ts f limit known later us k r u i m q z e = go (nat_eq k q) refl
  where
    go : (b : Bool) → nat_eq k q ≡ b → IsImage f limit us z (type_at ts q)
    go true c =
        let a : Some r ≡ Some z = sym (u q ∙ ap (λ b. cond b (Some r) (known q)) c) ∙ e in
        let j : r ≡ z = cc in
        subst (λ y. IsImage f limit us z (type_at ts y)) (eqb-true k q c) (subst (λ r. IsImage f limit us r (type_at ts k)) j i)
    go false c = m q z (sym (u q ∙ ap (λ b. cond b (Some r) (known q)) c) ∙ e)

right-longer : (ts us ws : List Typ) (f : ℕ → ℕ) (limit : ℕ) (known : ℕ → Option ℕ) → Longer us ws → AreRight ts f limit known us → AreRight ts f limit known ws
right-longer ts us ws f limit known l r k n e = let i = r k n e in (found-later us ws n (type_as f (type_at ts k)) l i.0, i.1)

-- a step is taken

pub going-begins : (ts : List Typ) (f : ℕ → ℕ) (limit : ℕ) (known : ℕ → Option ℕ) (us : List Typ) (steps : List Step) (k : ℕ) → AreRight ts f limit known us → steps ≡ Visit k ∷ [] → Going ts f limit known us steps k
going-begins ts f limit known us steps k r e = subst (λ l. Going ts f limit known us l k) (sym e) (record { right = r; order = (tt, tt); has = Has.awaited (inl refl) })

pub going-skips : (ts : List Typ) (f : ℕ → ℕ) (limit : ℕ) (known : ℕ → Option ℕ) (us : List Typ) (rest : List Step) (k n goal : ℕ) → known k ≡ Some n → Going ts f limit known us (rest ++ Visit k ∷ []) goal
    → Moves ts f limit known us (rest ++ Visit k ∷ []) rest goal
going-skips ts f limit known us rest k n goal d g =
    let h : Has known [] k = Has.found n d in
    record {
      going = record {
        right = g.right;
        order = order-front ts known rest (Visit k) h g.order;
        has = subst (λ l. Has known l goal) (append-nil rest) (has-swapped ts known known (λ k r e. (r, e)) (Visit k) [] h rest goal g.has);
      };
      lighter = let e = burden-append ts rest (Visit k ∷ []) in let p = some-burden ts (Visit k) in omega arith;
    }

-- the type gets the number n, in a table that has grown
going-makes : (ts : List Typ) (f : ℕ → ℕ) (limit : ℕ) (known later : ℕ → Option ℕ) (us ws : List Typ) (rest : List Step) (x : Step) (n goal : ℕ) → Updated known later (subject x) n → Longer us ws
    → IsImage f limit ws n (type_at ts (subject x)) → Going ts f limit known us (rest ++ x ∷ []) goal → Moves ts f limit later ws (rest ++ x ∷ []) rest goal
going-makes ts f limit known later us ws rest x n goal u l i g =
    let h : Has later [] (subject x) = Has.found n (made-here known later (subject x) n u) in
    record {
      going = record {
        right = right-more ts f limit known later ws (subject x) n u i (right-longer ts us ws f limit known l g.right);
        order = subst (InOrder ts later) (append-nil rest) (order-swapped ts known later (made-there known later (subject x) n u) x [] h rest tt g.order);
        has = subst (λ l. Has later l goal) (append-nil rest) (has-swapped ts known later (made-there known later (subject x) n u) x [] h rest goal g.has);
      };
      lighter = let a = burden-append ts rest (x ∷ []) in let p = some-burden ts x in omega arith;
    }

-- a variable gets its number; the steps are those that were there
pub going-puts : (ts : List Typ) (f : ℕ → ℕ) (limit : ℕ) (known later : ℕ → Option ℕ) (us ws : List Typ) (rest new : List Step) (k v n goal : ℕ) → Opened ts k rest new (Some v) → Longer us ws → slice_get ws n ≡ Some (var v) → Updated known later k n
    → Going ts f limit known us (rest ++ Visit k ∷ []) goal → Moves ts f limit later ws (rest ++ Visit k ∷ []) new goal
going-puts ts f limit known later us ws rest new k v n goal (a_variable i e) l j u g =
    subst (λ new. Moves ts f limit later ws (rest ++ Visit k ∷ []) new goal) (sym e) (going-makes ts f limit known later us ws rest (Visit k) n goal u l (subst (IsImage f limit ws n) (sym i) (j, tt)) g)

front-has : (known : ℕ → Option ℕ) (l r : List Step) (k : ℕ) → Has known l k → Has known (l ++ r) k
front-has known l r k (Has.found n e) = Has.found n e
front-has known l r k (Has.awaited a) = Has.awaited (among-front l r k a)

more-has : (known : ℕ → Option ℕ) (x : Step) (l : List Step) (k : ℕ) → Has known l k → Has known (x ∷ l) k
more-has known x l k (Has.found n e) = Has.found n e
more-has known x l k (Has.awaited a) = Has.awaited (inr a)

more-have : (known : ℕ → Option ℕ) (x : Step) (l : List Step) (ks : List ℕ) → AllHave known l ks → AllHave known (x ∷ l) ks
more-have known x l [] h = tt
more-have known x l (k ∷ ks) h = (more-has known x l k h.0, more-have known x l ks h.1)

awaits : (known : ℕ → Option ℕ) (ks : List ℕ) → AllHave known (visits ks) ks
awaits known [] = tt
awaits known (k ∷ ks) = (Has.awaited (inl refl), more-have known (Visit k) (visits ks) ks (awaits known ks))

visits-order : (ts : List Typ) (known : ℕ → Option ℕ) (ks : List ℕ) → InOrder ts known (visits ks)
visits-order ts known [] = tt
visits-order ts known (k ∷ ks) = (tt, visits-order ts known ks)

pub going-opens : (ts : List Typ) (f : ℕ → ℕ) (limit : ℕ) (known : ℕ → Option ℕ) (us : List Typ) (rest new : List Step) (k goal : ℕ) → Opened ts k rest new None → Going ts f limit known us (rest ++ Visit k ∷ []) goal
    → Moves ts f limit known us (rest ++ Visit k ∷ []) new goal
going-opens ts f limit known us rest new k goal (with_parts c ks i b e) g =
    let now : List Step = Build k ∷ visits ks in
    let h : Has known now k = Has.awaited (inl refl) in
    let n : InOrder ts known now = (record { symbol = c; parts = ks; is = i; below = b; have = awaits known ks }, visits-order ts known ks) in
    record {
      going = record {
        right = g.right;
        order = subst (InOrder ts known) (sym e) (order-swapped ts known known (λ k r e. (r, e)) (Visit k) now h rest n g.order);
        has = subst (λ l. Has known l goal) (sym e) (has-swapped ts known known (λ k r e. (r, e)) (Visit k) now h rest goal g.has);
      };
      lighter =
          let a = burden-append ts rest (Visit k ∷ []) in
          let b = ap (burden ts) e ∙ burden-append ts rest now in
          let v = burden-visits ts ks in
          let c = ap nodes i in
          omega arith;
    }

-- a type whose parts have their numbers

one-number : (ts : List Typ) (f : ℕ → ℕ) (limit : ℕ) (known : ℕ → Option ℕ) (us : List Typ) (k : ℕ) → AreRight ts f limit known us → Has known [] k → IsImage f limit us (number_in known k) (type_at ts k)
one-number ts f limit known us k r (Has.found n e) = subst (λ m. IsImage f limit us m (type_at ts k)) (sym (ap (λ o. unwrap_or o 0) e)) (r k n e)
one-number ts f limit known us k r (Has.awaited a) = absurd a

parts-below : (ts : List Typ) (f : ℕ → ℕ) (limit : ℕ) (known : ℕ → Option ℕ) (us : List Typ) (ks : List ℕ) → AreRight ts f limit known us → AllHave known [] ks → AllBelow (length us) (map (number_in known) ks)
parts-below ts f limit known us [] r h = tt
parts-below ts f limit known us (k ∷ ks) r h = (slice_get_within us (number_in known k) (type_as f (type_at ts k)) (one-number ts f limit known us k r h.0).0, parts-below ts f limit known us ks r h.1)

parts-are : (ts : List Typ) (f : ℕ → ℕ) (limit : ℕ) (known : ℕ → Option ℕ) (us : List Typ) (ks : List ℕ) → AreRight ts f limit known us → AllHave known [] ks → types_at us (map (number_in known) ks) ≡ types_as f (types_at ts ks)
parts-are ts f limit known us [] r h = refl
parts-are ts f limit known us (k ∷ ks) r h = ap₂ more (get_or_from_slice_get us (number_in known k) (type_as f (type_at ts k)) (var 0) (one-number ts f limit known us k r h.0).0) (parts-are ts f limit known us ks r h.1)

parts-over : (ts : List Typ) (f : ℕ → ℕ) (limit : ℕ) (known : ℕ → Option ℕ) (us : List Typ) (ks : List ℕ) → AreRight ts f limit known us → AllHave known [] ks → AllOver limit (types_at ts ks)
parts-over ts f limit known us [] r h = tt
parts-over ts f limit known us (k ∷ ks) r h = ((one-number ts f limit known us k r h.0).1, parts-over ts f limit known us ks r h.1)

-- a type has its parts as one list
one-list : (ts : List Typ) (l m : List ℕ) → AllPairs (λ t u. t ≢ u) ts → AllBelow (length ts) l → AllBelow (length ts) m → types_at ts l ≡ types_at ts m → l ≡ m
one-list ts [] [] h a b e = refl
one-list ts [] (j ∷ m) h a b e = cc
one-list ts (i ∷ l) [] h a b e = cc
one-list ts (i ∷ l) (j ∷ m) h a b e =
    let p : type_at ts i ≡ type_at ts j = cc in
    let q : types_at ts l ≡ types_at ts m = cc in
    ap₂ (λ k n. k ∷ n) (one-place (var 0) ts i j h a.0 b.0 p) (one-list ts l m h a.1 b.1 q)

same-parts : (ts : List Typ) (k : ℕ) (g h : Symbol) (ks parts : List ℕ) → AllPairs (λ t u. t ≢ u) ts → type_at ts k ≡ con g (types_at ts ks) → AllBelow (length ts) ks → type_at ts k ≡ con h (types_at ts parts) → AllBelow (length ts) parts
    → (g ≡ h) × (ks ≡ parts)
same-parts ts k g h ks parts o i b j d =
    let e : con g (types_at ts ks) ≡ con h (types_at ts parts) = sym i ∙ j in
    let p : g ≡ h = cc in
    let q : types_at ts ks ≡ types_at ts parts = cc in
    (p, one-list ts ks parts o b d q)

-- what is next can be built
pub can-build : (ts : List Typ) (f : ℕ → ℕ) (limit : ℕ) (known : ℕ → Option ℕ) (us : List Typ) (rest steps : List Step) (k goal : ℕ) → AllPairs (λ t u. t ≢ u) ts → steps ≡ rest ++ Build k ∷ [] → Going ts f limit known us steps goal → CanBuild ts known (length us) k
can-build ts f limit known us rest steps k goal o q g h parts i b =
    let c = last-step ts known rest (Build k) (subst (InOrder ts known) q g.order) in
    let e = same-parts ts k c.symbol h c.parts parts o c.is c.below i b in
    subst (λ ks. AllBelow (length us) (map (number_in known) ks)) e.1 (parts-below ts f limit known us c.parts g.right c.have)

pub going-builds : (ts : List Typ) (f : ℕ → ℕ) (limit : ℕ) (known later : ℕ → Option ℕ) (us ws : List Typ) (rest steps : List Step) (k n goal : ℕ) → steps ≡ rest ++ Build k ∷ [] → Longer us ws
    → ((h : Symbol) (parts : List ℕ) → type_at ts k ≡ con h (types_at ts parts) → AllBelow (length ts) parts → IsBuilt f limit ws n h (types_at us (map (number_in known) parts))) → Updated known later k n
    → Going ts f limit known us steps goal → Moves ts f limit later ws steps rest goal
going-builds ts f limit known later us ws rest steps k n goal q l b u g' = subst (λ l. Moves ts f limit later ws l rest goal) (sym q) (at (subst (λ l. Going ts f limit known us l goal) q g'))
  where
    at : Going ts f limit known us (rest ++ Build k ∷ []) goal → Moves ts f limit later ws (rest ++ Build k ∷ []) rest goal
    at g =
        let c = last-step ts known rest (Build k) g.order in
        let m = b c.symbol c.parts c.is c.below in
        let e : IsImage f limit ws n (type_at ts k) =
        subst (IsImage f limit ws n) (sym c.is)
        (m.0 ∙ ap (λ us. Some (con (symbol_as f c.symbol) us)) (parts-are ts f limit known us c.parts g.right c.have), (m.1, parts-over ts f limit known us c.parts g.right c.have)) in
        going-makes ts f limit known later us ws rest (Build k) n goal u l e g

pub built : (ts : List Typ) (f : ℕ → ℕ) (limit : ℕ) (known : ℕ → Option ℕ) (us ws : List Typ) (k n : ℕ) (g c : Symbol) (ks numbers : List ℕ) → AllPairs (λ t u. t ≢ u) ts → type_at ts k ≡ con g (types_at ts ks) × AllBelow (length ts) ks
    → numbers ≡ map (number_in known) ks → c ≡ symbol_as f g → SymbolOver limit g → slice_get ws n ≡ Some (con c (types_at us numbers)) → (h : Symbol) (parts : List ℕ) → type_at ts k ≡ con h (types_at ts parts) → AllBelow (length ts) parts
    → IsBuilt f limit ws n h (types_at us (map (number_in known) parts))
built ts f limit known us ws k n g c ks numbers o v q cg so r h parts i b =
    let e = same-parts ts k g h ks parts o v.0 v.1 i b in
    (r ∙ ap₂ (λ c ns. Some (con c (types_at us ns))) (cg ∙ ap (symbol_as f) e.0) (q ∙ ap (map (number_in known)) e.1), subst (SymbolOver limit) e.0 so)

pub not-built : (ts : List Typ) (k v : ℕ) {P : Type 0} (h : Symbol) (parts : List ℕ) → type_at ts k ≡ var v → type_at ts k ≡ con h (types_at ts parts) → P
not-built ts k v h parts e i = let q : var v ≡ con h (types_at ts parts) = sym e ∙ i in absurd (cc)

-- in the end

pub going-ends : (ts : List Typ) (f : ℕ → ℕ) (limit : ℕ) (known : ℕ → Option ℕ) (us : List Typ) (steps : List Step) (goal n : ℕ) → length steps ≡ 0 → n ≡ number_in known goal → Going ts f limit known us steps goal → IsImage f limit us n (type_at ts goal)
going-ends ts f limit known us [] goal n e k g = subst (λ m. IsImage f limit us m (type_at ts goal)) (sym k) (one-number ts f limit known us goal g.right g.has)
going-ends ts f limit known us (x ∷ steps) goal n e k g = absurd (omega arith)

-- a type is opened
pub opens-pushed : (ts : List Typ) (k : ℕ) (h : Symbol) (ks : List ℕ) (old mid new : List Step) → type_at ts k ≡ con h (types_at ts ks) × AllBelow (length ts) ks → mid ≡ old ++ Build k ∷ [] → new ≡ mid ++ visits ks → Opened ts k old new None
opens-pushed ts k h ks old mid new v p q = with_parts h ks v.0 v.1 (q ∙ ap (λ l. l ++ visits ks) p ∙ append_assoc old (Build k ∷ []) (visits ks))

-- a type is looked at, as a loop does it
pub stepped : (ts : List Typ) (f : ℕ → ℕ) (limit : ℕ) (known later : ℕ → Option ℕ) (us ws : List Typ) (rest steps new : List Step) (k goal : ℕ)
    → ((f : ℕ → ℕ) (limit goal : ℕ) → Going ts f limit known us (rest ++ Visit k ∷ []) goal → Moves ts f limit later ws (rest ++ Visit k ∷ []) new goal)
    → steps ≡ rest ++ Visit k ∷ [] → Going ts f limit known us steps goal → Moves ts f limit later ws steps new goal
stepped ts f limit known later us ws rest steps new k goal m e g =
    subst (λ steps. Moves ts f limit later ws steps new goal) (sym e) (m f limit goal (subst (λ steps. Going ts f limit known us steps goal) e g))
