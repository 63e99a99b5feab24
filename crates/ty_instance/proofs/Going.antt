-- Images are made one after the other.
use Rattle.std.proofs.Common.{◌≡◌, ◌<◌, ◌≤◌, ◌*◌, ◌+◌, ◌⊎◌, inl, inr, ℕ, zero, suc, List, [], ◌∷◌, ◌++◌, Bool, true, false, cond, nat_eq, length, take, Option, Some, refl, sym, ap, ap₂, subst, ◌∙◌, arith}
use Rattle.std.proofs.lemmas.List.{append-nil, append_assoc}
use Rattle.std.proofs.lemmas.Bool.{eq-eqb, eqb-true}
use Rattle.ty_solve.specs.of_ty_core.Types.{Typ, var, con, more}
use Rattle.ty_solve.specs.of_ty_table.TypeAt.{type_at, types_at, top, AllBelow}
use Rattle.ty_solve.specs.Substitution.{Entry, bound, sub}
use Rattle.ty_solve.specs.Weight.{weight, weights, Weighs, WeighsAt}
use Rattle.ty_solve.proofs.Holding.{type-stays}
use Rattle.ty_instance.specs.Steps.{IsDone, visits, Opens, number, Among, Has, AllHave, CanStep, InOrder, IsImage, Going, burden, Moves}
use Rattle.ty_instance.specs.declared.step.Step.{Step}
use Rattle.ty_instance.specs.declared.step.Step.TheVariants.{Visit, Build, Same}

-- a table that has grown

taken-length : {A : Type 0} (n : ℕ) (l : List A) → length (take n l) ≤ length l
taken-length zero [] = omega arith
taken-length zero (x ∷ l) = omega arith
taken-length (suc n) [] = omega arith
taken-length (suc n) (x ∷ l) = let p = taken-length n l in omega arith

pub stays-on : {A : Type 0} (ts us vs : List A) → take (length ts) us ≡ ts → take (length us) vs ≡ us → take (length ts) vs ≡ ts
stays-on [] us [] e h = refl
stays-on [] us (v ∷ vs) e h = refl
stays-on (t ∷ ts) [] vs e h = cc
stays-on (t ∷ ts) (u ∷ us) [] e h = cc
stays-on (t ∷ ts) (u ∷ us) (v ∷ vs) e h =
    let a : u ≡ t = cc in
    let b : take (length ts) us ≡ ts = cc in
    let c : v ≡ u = cc in
    let d : take (length us) vs ≡ us = cc in
    ap₂ (λ x l. x ∷ l) (c ∙ a) (stays-on ts us vs b d)

pub longer : (ts us : List Typ) → take (length ts) us ≡ ts → length ts ≤ length us
longer ts us e = let p = taken-length (length ts) us in let q = ap length e in omega arith

pub whole : {A : Type 0} (l : List A) → take (length l) l ≡ l
whole [] = refl
whole (x ∷ l) = ap (λ m. x ∷ m) (whole l)

below-more : (m n : ℕ) (l : List ℕ) → m ≤ n → AllBelow m l → AllBelow n l
below-more m n [] le h = tt
below-more m n (k ∷ l) le h = (let lt = h.0 in omega arith, below-more m n l le h.1)

pub types-stay : (ts us : List Typ) (l : List ℕ) → take (length ts) us ≡ ts → AllBelow (length ts) l → types_at us l ≡ types_at ts l
types-stay ts us [] e h = refl
types-stay ts us (k ∷ l) e h = ap₂ more (type-stays ts us k e h.0) (types-stay ts us l e h.1)

pub below-grown : (ts us : List Typ) (l : List ℕ) → take (length ts) us ≡ ts → AllBelow (length ts) l → AllBelow (length us) l
below-grown ts us l e h = below-more (length ts) (length us) l (longer ts us e) h

-- steps

among-front : (l r : List Step) (k : ℕ) → Among l k → Among (l ++ r) k
among-front [] r k h = absurd h
among-front (x ∷ l) r k (inl e) = inl e
among-front (x ∷ l) r k (inr h) = inr (among-front l r k h)

among-back : (l r : List Step) (k : ℕ) → Among r k → Among (l ++ r) k
among-back [] r k h = h
among-back (x ∷ l) r k h = inr (among-back l r k h)

among-either : (l r : List Step) (k : ℕ) → Among (l ++ r) k → Among l k ⊎ Among r k
among-either [] r k h = inr h
among-either (x ∷ l) r k (inl e) = inl (inl e)
among-either (x ∷ l) r k (inr h) = go (among-either l r k h)
  where
    go : Among l k ⊎ Among r k → Among (x ∷ l) k ⊎ Among r k
    go (inl a) = inl (inr a)
    go (inr b) = inr b

module _ (ts : List Typ) (s : ℕ → Entry) (images later : ℕ → Option ℕ) (grow : (k r : ℕ) → images k ≡ Some r → (q : ℕ) × (later k ≡ Some q)) (x : Step) (now : List Step) (here : Has ts later now (number x)) where
  -- what has its image after the step has it after those that come in its place
  has-swapped : (rest : List Step) (k : ℕ) → Has ts images (rest ++ x ∷ []) k → Has ts later (rest ++ now) k
  has-swapped rest k (Has.ground lt z) = Has.ground lt z
  has-swapped rest k (Has.made r e) = let g = grow k r e in Has.made g.0 g.1
  has-swapped rest k (Has.awaited a) = go (among-either rest (x ∷ []) k a)
    where
      lifted : Has ts later now k → Has ts later (rest ++ now) k
      lifted (Has.ground lt z) = Has.ground lt z
      lifted (Has.made r e) = Has.made r e
      lifted (Has.awaited b) = Has.awaited (among-back rest now k b)

      go : Among rest k ⊎ Among (x ∷ []) k → Has ts later (rest ++ now) k
      go (inl b) = Has.awaited (among-front rest now k b)
      go (inr (inl e)) = lifted (subst (Has ts later now) e here)
      go (inr (inr b)) = absurd b

  all-swapped : (rest : List Step) (ks : List ℕ) → AllHave ts images (rest ++ x ∷ []) ks → AllHave ts later (rest ++ now) ks
  all-swapped rest [] h = tt
  all-swapped rest (k ∷ ks) h = (has-swapped rest k h.0, all-swapped rest ks h.1)

  can-swapped : (rest : List Step) (y : Step) → CanStep ts s images (rest ++ x ∷ []) y → CanStep ts s later (rest ++ now) y
  can-swapped rest (Visit k) h = h
  can-swapped rest (Build k) h = record { within = h.within; symbol = h.symbol; parts = h.parts; is = h.is; below = h.below; have = all-swapped rest h.parts h.have }
  can-swapped rest (Same k u) h = record { within = h.within; variable = h.variable; is = h.is; stands = h.stands; held = h.held; has = has-swapped rest u h.has }

  order-swapped : (rest : List Step) → InOrder ts s later now → InOrder ts s images (rest ++ x ∷ []) → InOrder ts s later (rest ++ now)
  order-swapped [] n h = n
  order-swapped (y ∷ rest) n h = (can-swapped rest y h.0, order-swapped rest n h.1)

pub last-step : (ts : List Typ) (s : ℕ → Entry) (images : ℕ → Option ℕ) (rest : List Step) (x : Step) → InOrder ts s images (rest ++ x ∷ []) → CanStep ts s images [] x
last-step ts s images [] x h = h.0
last-step ts s images (y ∷ rest) x h = last-step ts s images rest x h.1

-- the burden

burden-append : (w : ℕ → ℕ) (ts : List Typ) (l r : List Step) → burden w ts (l ++ r) ≡ burden w ts l + burden w ts r
burden-append w ts [] r = omega arith
burden-append w ts (Visit k ∷ l) r = let e = burden-append w ts l r in omega arith
burden-append w ts (Build k ∷ l) r = let e = burden-append w ts l r in omega arith
burden-append w ts (Same k u ∷ l) r = let e = burden-append w ts l r in omega arith

burden-visits : (w : ℕ → ℕ) (ts : List Typ) (ks : List ℕ) → burden w ts (visits ks) ≡ 2 * weights w (types_at ts ks)
burden-visits w ts [] = omega arith
burden-visits w ts (k ∷ ks) = let e = burden-visits w ts ks in omega arith

pub positive : (w : ℕ → ℕ) (t : Typ) → 0 < weight w t
positive w (var v) = omega arith
positive w (con c ts) = omega arith

some-burden : (w : ℕ → ℕ) (ts : List Typ) (x : Step) → 0 < burden w ts (x ∷ [])
some-burden w ts (Visit k) = let p = positive w (type_at ts k) in omega arith
some-burden w ts (Build k) = omega arith
some-burden w ts (Same k u) = omega arith

-- the steps in a table that has grown

module _ (ts us : List Typ) (grown : take (length ts) us ≡ ts) where
  has-grown : (images : ℕ → Option ℕ) (l : List Step) (k : ℕ) → Has ts images l k → Has us images l k
  has-grown images l k (Has.ground lt z) = Has.ground (let n = longer ts us grown in omega arith) (ap top (type-stays ts us k grown lt) ∙ z)
  has-grown images l k (Has.made r e) = Has.made r e
  has-grown images l k (Has.awaited a) = Has.awaited a

  all-grown : (images : ℕ → Option ℕ) (l : List Step) (ks : List ℕ) → AllHave ts images l ks → AllHave us images l ks
  all-grown images l [] h = tt
  all-grown images l (k ∷ ks) h = (has-grown images l k h.0, all-grown images l ks h.1)

  can-grown : (s : ℕ → Entry) (images : ℕ → Option ℕ) (l : List Step) (x : Step) → CanStep ts s images l x → CanStep us s images l x
  can-grown s images l (Visit k) h = let n = longer ts us grown in omega arith
  can-grown s images l (Build k) h = record {
    within = let n = longer ts us grown in let lt = h.within in omega arith;
    symbol = h.symbol;
    parts = h.parts;
    is = type-stays ts us k grown h.within ∙ h.is ∙ ap (con h.symbol) (sym (types-stay ts us h.parts grown h.below));
    below = below-grown ts us h.parts grown h.below;
    have = all-grown images l h.parts h.have;
  }
  can-grown s images l (Same k u) h = record {
    within = let n = longer ts us grown in let lt = h.within in omega arith;
    variable = h.variable;
    is = type-stays ts us k grown h.within ∙ h.is;
    stands = h.stands ∙ ap bound (sym (type-stays ts us u grown h.held));
    held = let n = longer ts us grown in let lt = h.held in omega arith;
    has = has-grown images l u h.has;
  }

  order-grown : (s : ℕ → Entry) (images : ℕ → Option ℕ) (l : List Step) → InOrder ts s images l → InOrder us s images l
  order-grown s images [] h = tt
  order-grown s images (x ∷ l) h = (can-grown s images l x h.0, order-grown s images l h.1)

  image-grown : (f : ℕ → Typ) (k r : ℕ) → IsImage ts f k r → IsImage us f k r
  image-grown f k r h = let n = longer ts us grown in let a = h.within in let b = h.held in record {
    within = omega arith;
    held = omega arith;
    is = type-stays ts us r grown h.held ∙ h.is ∙ ap (sub f) (sym (type-stays ts us k grown h.within));
  }

  pub going-grown : (s : ℕ → Entry) (f : ℕ → Typ) (images : ℕ → Option ℕ) (l : List Step) (goal : ℕ) → Going ts s f images l goal → Going us s f images l goal
  going-grown s f images l goal g = record {
    right = λ k r e. image-grown f k r (g.right k r e);
    order = order-grown s images l g.order;
    has = has-grown images l goal g.has;
  }

  burden-grown : (w : ℕ → ℕ) (s : ℕ → Entry) (images : ℕ → Option ℕ) (l : List Step) → InOrder ts s images l → burden w us l ≡ burden w ts l
  burden-grown w s images [] h = refl
  burden-grown w s images (Visit k ∷ l) h = ap₂ (λ t n. 2 * weight w t + n) (type-stays ts us k grown h.0) (burden-grown w s images l h.1)
  burden-grown w s images (Build k ∷ l) h = ap suc (burden-grown w s images l h.1)
  burden-grown w s images (Same k u ∷ l) h = ap suc (burden-grown w s images l h.1)

order-front : (ts : List Typ) (s : ℕ → Entry) (images : ℕ → Option ℕ) (rest : List Step) (x : Step) → Has ts images [] (number x) → InOrder ts s images (rest ++ x ∷ []) → InOrder ts s images rest
order-front ts s images rest x h o = subst (InOrder ts s images) (append-nil rest) (order-swapped ts s images images (λ k r e. (r, e)) x [] h rest tt o)

-- one more image

made-there : (images later : ℕ → Option ℕ) (k r : ℕ) → ((q : ℕ) → later q ≡ cond (nat_eq k q) (Some r) (images q)) → (q p : ℕ) → images q ≡ Some p → (z : ℕ) × (later q ≡ Some z)
made-there images later k r u q p e = go (nat_eq k q) refl
  where
    go : (b : Bool) → nat_eq k q ≡ b → (z : ℕ) × (later q ≡ Some z)
    go true c = (r, u q ∙ ap (λ b. cond b (Some r) (images q)) c)
    go false c = (p, u q ∙ ap (λ b. cond b (Some r) (images q)) c ∙ e)

made-here : (images later : ℕ → Option ℕ) (k r : ℕ) → ((q : ℕ) → later q ≡ cond (nat_eq k q) (Some r) (images q)) → later k ≡ Some r
made-here images later k r u = u k ∙ ap (λ b. cond b (Some r) (images k)) (eq-eqb k k refl)

right-more : (ts : List Typ) (f : ℕ → Typ) (images later : ℕ → Option ℕ) (k r : ℕ) → ((q : ℕ) → later q ≡ cond (nat_eq k q) (Some r) (images q)) → IsImage ts f k r → ((q z : ℕ) → images q ≡ Some z → IsImage ts f q z) → (q z : ℕ) → later q ≡ Some z → IsImage ts f q z
right-more ts f images later k r u i m q z e = go (nat_eq k q) refl
  where
    go : (b : Bool) → nat_eq k q ≡ b → IsImage ts f q z
    go true c =
        let a : Some r ≡ Some z = sym (u q ∙ ap (λ b. cond b (Some r) (images q)) c) ∙ e in
        let j : r ≡ z = cc in
        subst (λ y. IsImage ts f y z) (eqb-true k q c) (subst (IsImage ts f k) j i)
    go false c = m q z (sym (u q ∙ ap (λ b. cond b (Some r) (images q)) c) ∙ e)

-- a step is taken

pub going-skips : (ts : List Typ) (s : ℕ → Entry) (f : ℕ → Typ) (w : ℕ → ℕ) (images : ℕ → Option ℕ) (rest : List Step) (k goal : ℕ) → IsDone ts images k → Going ts s f images (rest ++ Visit k ∷ []) goal → Moves ts ts s f w images images (rest ++ Visit k ∷ []) rest goal
going-skips ts s f w images rest k goal d g =
    let lt = last-step ts s images rest (Visit k) g.order in
    let h : Has ts images [] k = done lt d in
    record {
      going = record {
        right = g.right;
        order = order-front ts s images rest (Visit k) h g.order;
        has = subst (λ l. Has ts images l goal) (append-nil rest) (has-swapped ts s images images (λ k r e. (r, e)) (Visit k) [] h rest goal g.has);
      };
      lighter = let e = burden-append w ts rest (Visit k ∷ []) in let p = some-burden w ts (Visit k) in omega arith;
    }
  where
    done : k < length ts → IsDone ts images k → Has ts images [] k
    done lt (IsDone.ground z) = Has.ground lt z
    done lt (IsDone.made r e) = Has.made r e

pub going-makes : (ts us : List Typ) (s : ℕ → Entry) (f : ℕ → Typ) (w : ℕ → ℕ) (images later : ℕ → Option ℕ) (rest : List Step) (x : Step) (r goal : ℕ) → take (length ts) us ≡ ts → ((q : ℕ) → later q ≡ cond (nat_eq (number x) q) (Some r) (images q)) → IsImage us f (number x) r → Going ts s f images (rest ++ x ∷ []) goal → Moves ts us s f w images later (rest ++ x ∷ []) rest goal
going-makes ts us s f w images later rest x r goal e u i g =
    let g' = going-grown ts us e s f images (rest ++ x ∷ []) goal g in
    let h : Has us later [] (number x) = Has.made r (made-here images later (number x) r u) in
    record {
      going = record {
        right = right-more us f images later (number x) r u i g'.right;
        order = subst (InOrder us s later) (append-nil rest) (order-swapped us s images later (made-there images later (number x) r u) x [] h rest tt g'.order);
        has = subst (λ l. Has us later l goal) (append-nil rest) (has-swapped us s images later (made-there images later (number x) r u) x [] h rest goal g'.has);
      };
      lighter =
          let a = burden-append w us rest (x ∷ []) in
          let b = burden-grown ts us e w s images (rest ++ x ∷ []) g.order in
          let p = some-burden w us x in
          omega arith;
    }

awaits : (ts : List Typ) (images : ℕ → Option ℕ) (before ks : List ℕ) → AllHave ts images (visits (before ++ ks)) ks
awaits ts images before [] = tt
awaits ts images before (k ∷ ks) = (
  Has.awaited (stands before),
  subst (λ l. AllHave ts images (visits l) ks) (append_assoc before (k ∷ []) ks) (awaits ts images (before ++ k ∷ []) ks),
)
  where
    stands : (l : List ℕ) → Among (visits (l ++ k ∷ ks)) k
    stands [] = inl refl
    stands (j ∷ l) = inr (stands l)

visits-order : (ts : List Typ) (s : ℕ → Entry) (images : ℕ → Option ℕ) (ks : List ℕ) → AllBelow (length ts) ks → InOrder ts s images (visits ks)
visits-order ts s images [] h = tt
visits-order ts s images (k ∷ ks) h = (h.0, visits-order ts s images ks h.1)

pub going-opens : (ts : List Typ) (s : ℕ → Entry) (f : ℕ → Typ) (w : ℕ → ℕ) (images : ℕ → Option ℕ) (rest new : List Step) (k goal : ℕ) → Opens ts k rest new → Going ts s f images (rest ++ Visit k ∷ []) goal → Moves ts ts s f w images images (rest ++ Visit k ∷ []) new goal
going-opens ts s f w images rest new k goal o g =
    let now : List Step = Build k ∷ visits o.parts in
    let lt = last-step ts s images rest (Visit k) g.order in
    let h : Has ts images now k = Has.awaited (inl refl) in
    let n : InOrder ts s images now = (record { within = lt; symbol = o.symbol; parts = o.parts; is = o.is; below = o.below; have = awaits ts images [] o.parts }, visits-order ts s images o.parts o.below) in
    record {
      going = record {
        right = g.right;
        order = subst (InOrder ts s images) (sym o.steps) (order-swapped ts s images images (λ k r e. (r, e)) (Visit k) now h rest n g.order);
        has = subst (λ l. Has ts images l goal) (sym o.steps) (has-swapped ts s images images (λ k r e. (r, e)) (Visit k) now h rest goal g.has);
      };
      lighter =
          let a = burden-append w ts rest (Visit k ∷ []) in
          let b = ap (burden w ts) o.steps ∙ burden-append w ts rest now in
          let v = burden-visits w ts o.parts in
          let c = ap (weight w) o.is in
          omega arith;
    }

pub going-follows : (ts : List Typ) (s : ℕ → Entry) (f : ℕ → Typ) (w : ℕ → ℕ) (images : ℕ → Option ℕ) (rest new : List Step) (k v u goal : ℕ) → Weighs w s → type_at ts k ≡ var v → s v ≡ bound (type_at ts u) → u < length ts → new ≡ rest ++ (Same k u ∷ Visit u ∷ []) → Going ts s f images (rest ++ Visit k ∷ []) goal → Moves ts ts s f w images images (rest ++ Visit k ∷ []) new goal
going-follows ts s f w images rest new k v u goal ws p q held e g =
    let now : List Step = Same k u ∷ Visit u ∷ [] in
    let lt = last-step ts s images rest (Visit k) g.order in
    let h : Has ts images now k = Has.awaited (inl refl) in
    let n : InOrder ts s images now = (record { within = lt; variable = v; is = p; stands = q; held = held; has = Has.awaited (inl refl) }, (held, tt)) in
    record {
      going = record {
        right = g.right;
        order = subst (InOrder ts s images) (sym e) (order-swapped ts s images images (λ k r e. (r, e)) (Visit k) now h rest n g.order);
        has = subst (λ l. Has ts images l goal) (sym e) (has-swapped ts s images images (λ k r e. (r, e)) (Visit k) now h rest goal g.has);
      };
      lighter =
          let a = burden-append w ts rest (Visit k ∷ []) in
          let b = ap (burden w ts) e ∙ burden-append w ts rest now in
          let c = ap (weight w) p in
          let d = subst (WeighsAt w (w v)) q (ws v) in
          omega arith;
    }
