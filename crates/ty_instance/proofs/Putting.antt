-- The images that steps make.
use Rattle.std.proofs.Common.{◌≡◌, ◌≢◌, ◌<◌, ◌-◌, inl, ℕ, List, [], ◌∷◌, ◌++◌, Bool, true, false, cond, nat_eq, nat_lt, if◌then◌else◌, length, map, take, get_or, Option, Some, None, slice_get, unwrap_or, AllPairs, Result, Ok, Err, IfOk, MatchOption, refl, sym, ap, ap₂, subst, ◌∙◌, arith}
use Rattle.std.proofs.lemmas.Bool.{ltb-true}
use Rattle.std.proofs.lemmas.Option.{slice_get_within, slice_get-get_or, get_or_from_slice_get}
use Rattle.ty_solve.specs.of_ty_core.Types.{Symbol, Typ, var, con, Typs, none, more}
use Rattle.ty_solve.specs.of_ty_core.Statics.{replace, replace_all}
use Rattle.ty_solve.specs.of_ty_table.TypeAt.{type_at, types_at, AllBelow}
use Rattle.ty_solve.proofs.of_ty_table.Keeping.{one-place}
use Rattle.ty_solve.proofs.of_ty_table.Viewing.{below-at}
use Rattle.ty_solve.specs.Substitution.{Entry, sub, subs, Fits, FitsAt}
use Rattle.ty_solve.proofs.Holding.{type-stays}
use Rattle.ty_solve.proofs.Walking.{ground-same}
use Rattle.ty_instance.specs.Images.{image_at}
use Rattle.ty_instance.specs.Steps.{image_in, Opens, CanBuild, Has, AllHave, InOrder, IsImage, Going, Moves}
use Rattle.ty_instance.specs.declared.step.Step.{Step}
use Rattle.ty_instance.specs.declared.step.Step.TheVariants.{Visit, Build, Same}
use Rattle.ty_instance.proofs.Going.{longer, whole, last-step, going-makes}

-- the two names of one substitution
mutual
  pub replace-sub : (f : ℕ → Typ) (t : Typ) → replace f t ≡ sub f t
  replace-sub f (var v) = refl
  replace-sub f (con h ts) = ap (con h) (replace-subs f ts)

  replace-subs : (f : ℕ → Typ) (ts : Typs) → replace_all f ts ≡ subs f ts
  replace-subs f none = refl
  replace-subs f (more t ts) = ap₂ more (replace-sub f t) (replace-subs f ts)

mutual
  pub replace-same : (f : ℕ → Typ) → ((v : ℕ) → f v ≡ var v) → (t : Typ) → replace f t ≡ t
  replace-same f h (var v) = h v
  replace-same f h (con c ts) = ap (con c) (replaces-same f h ts)

  replaces-same : (f : ℕ → Typ) → ((v : ℕ) → f v ≡ var v) → (ts : Typs) → replace_all f ts ≡ ts
  replaces-same f h none = refl
  replaces-same f h (more t ts) = ap₂ more (replace-same f h t) (replaces-same f h ts)

-- a type has its parts as one list
pub one-list : (ts : List Typ) (l m : List ℕ) → AllPairs (λ t u. t ≢ u) ts → AllBelow (length ts) l → AllBelow (length ts) m → types_at ts l ≡ types_at ts m → l ≡ m
one-list ts [] [] h a b e = refl
one-list ts [] (j ∷ m) h a b e = cc
one-list ts (i ∷ l) [] h a b e = cc
one-list ts (i ∷ l) (j ∷ m) h a b e =
    let p : type_at ts i ≡ type_at ts j = cc in
    let q : types_at ts l ≡ types_at ts m = cc in
    ap₂ (λ k n. k ∷ n) (one-place (var 0) ts i j h a.0 b.0 p) (one-list ts l m h a.1 b.1 q)

pub same-parts : (ts : List Typ) (t : Typ) (g h : Symbol) (l m : List ℕ) → AllPairs (λ t u. t ≢ u) ts → AllBelow (length ts) l → AllBelow (length ts) m → t ≡ con g (types_at ts l) → t ≡ con h (types_at ts m) → l ≡ m
same-parts ts t g h l m o a b p q = let e : types_at ts l ≡ types_at ts m = cc in one-list ts l m o a b e

-- what has its image

module _ (ts : List Typ) (f : ℕ → Typ) (images : ℕ → Option ℕ) (right : (k r : ℕ) → images k ≡ Some r → IsImage ts f k r) where
  pub image-right : (k : ℕ) → Has ts images [] k → IsImage ts f k (image_in images k)
  image-right k h = go (images k) refl
    where
      go : (o : Option ℕ) → images k ≡ o → IsImage ts f k (unwrap_or o k)
      go (Some r) e = right k r e
      go None e = bare h
        where
          bare : Has ts images [] k → IsImage ts f k k
          bare (Has.ground lt z) = record { within = lt; held = lt; is = sym (ground-same f (type_at ts k) z) }
          bare (Has.made r p) = absurd (cc (e, p))
          bare (Has.awaited a) = absurd a

  images-held : (ks : List ℕ) → AllHave ts images [] ks → AllBelow (length ts) (map (image_in images) ks)
  images-held [] h = tt
  images-held (k ∷ ks) h = ((image-right k h.0).held, images-held ks h.1)

  images-are : (ks : List ℕ) → AllHave ts images [] ks → types_at ts (map (image_in images) ks) ≡ subs f (types_at ts ks)
  images-are [] h = refl
  images-are (k ∷ ks) h = ap₂ more (image-right k h.0).is (images-are ks h.1)

pub can-build : (ts : List Typ) (s : ℕ → Entry) (f : ℕ → Typ) (images : ℕ → Option ℕ) (rest old : List Step) (k goal : ℕ) → old ≡ rest ++ Build k ∷ [] → Going ts s f images old goal → CanBuild ts images k
can-build ts s f images rest old k goal e g =
    let b = last-step ts s images rest (Build k) (subst (InOrder ts s images) e g.order) in
    record { within = b.within; symbol = b.symbol; parts = b.parts; is = b.is; below = b.below; held = images-held ts f images g.right b.parts b.have }

-- an image goes to a type of the table
pub image-made : (ts us : List Typ) (f : ℕ → Typ) (k r : ℕ) (t : Typ) → take (length ts) us ≡ ts → k < length ts → k < length us → slice_get us r ≡ Some t → t ≡ sub f (type_at ts k) → IsImage us f k r
image-made ts us f k r t e lt lu h q = record {
  within = lu;
  held = slice_get_within us r t h;
  is = get_or_from_slice_get us r t (var 0) h ∙ q ∙ ap (sub f) (sym (type-stays ts us k e lt));
}

module _ (ts us : List Typ) (s : ℕ → Entry) (f : ℕ → Typ) (w : ℕ → ℕ) (images later : ℕ → Option ℕ) (rest old : List Step) (goal r : ℕ) (grown : take (length ts) us ≡ ts) where
  pub going-builds : (k : ℕ) → old ≡ rest ++ Build k ∷ [] → ((h : Symbol) (parts : List ℕ) → type_at ts k ≡ con h (types_at ts parts) → AllBelow (length ts) parts → slice_get us r ≡ Some (con h (types_at ts (map (image_in images) parts)))) → ((q : ℕ) → later q ≡ cond (nat_eq k q) (Some r) (images q)) → Going ts s f images old goal → Moves ts us s f w images later old rest goal
  going-builds k e h u g0 =
      let g = subst (λ l. Going ts s f images l goal) e g0 in
      let b = last-step ts s images rest (Build k) g.order in
      let t = ap (con b.symbol) (images-are ts f images g.right b.parts b.have) ∙ ap (sub f) (sym b.is) in
      let lt = b.within in
      subst (λ l. Moves ts us s f w images later l rest goal) (sym e) (going-makes ts us s f w images later rest (Build k) r goal grown u (image-made ts us f k r _ grown b.within (let n = longer ts us grown in omega arith) (h b.symbol b.parts b.is b.below) t) g)

pub going-same : (ts : List Typ) (s : ℕ → Entry) (f : ℕ → Typ) (w : ℕ → ℕ) (images later : ℕ → Option ℕ) (rest old : List Step) (k u goal r : ℕ) → Fits f s → old ≡ rest ++ Same k u ∷ [] → r ≡ image_in images u → ((q : ℕ) → later q ≡ cond (nat_eq k q) (Some r) (images q)) → Going ts s f images old goal → Moves ts ts s f w images later old rest goal
going-same ts s f w images later rest old k u goal r fits e p n g0 =
    let g = subst (λ l. Going ts s f images l goal) e g0 in
    let b = last-step ts s images rest (Same k u) g.order in
    let i = subst (IsImage ts f u) (sym p) (image-right ts f images g.right u b.has) in
    let j = subst (FitsAt f (f b.variable)) b.stands (fits b.variable) in
    subst (λ l. Moves ts ts s f w images later l rest goal) (sym e) (going-makes ts ts s f w images later rest (Same k u) r goal (whole ts) n (record { within = b.within; held = i.held; is = i.is ∙ sym j ∙ ap (sub f) (sym b.is) }) g)

-- the first step, and what is left after the last

pub going-begins : (ts : List Typ) (s : ℕ → Entry) (f : ℕ → Typ) (images : ℕ → Option ℕ) (empty steps : List Step) (goal : ℕ) → goal < length ts → ((k : ℕ) → images k ≡ None) → empty ≡ [] → steps ≡ empty ++ Visit goal ∷ [] → Going ts s f images steps goal
going-begins ts s f images empty steps goal lt n p q = subst (λ l. Going ts s f images l goal) (sym (q ∙ ap (λ l. l ++ Visit goal ∷ []) p)) (record {
  right = λ k r e. absurd (let i = n k in cc (i, e));
  order = (lt, tt);
  has = Has.awaited (inl refl);
})

pub going-ends : (ts : List Typ) (s : ℕ → Entry) (f : ℕ → Typ) (images : ℕ → Option ℕ) (steps : List Step) (goal : ℕ) → length steps ≡ 0 → Going ts s f images steps goal → IsImage ts f goal (image_in images goal)
going-ends ts s f images [] goal e g = image-right ts f images g.right goal g.has
going-ends ts s f images (x ∷ steps) goal e g = absurd (omega arith)

-- images of parameters in a table that has grown

pub image_at-stays : (ts us : List Typ) (l : List ℕ) (v : ℕ) → take (length ts) us ≡ ts → AllBelow (length ts) l → image_at us l v ≡ image_at ts l v
image_at-stays ts us l v e h = go (nat_lt v (length l)) refl
  where
    go : (b : Bool) → nat_lt v (length l) ≡ b → image_at us l v ≡ image_at ts l v
    go true c =
        let i = ltb-true v (length l) c in
        ap (λ b. if b then type_at us (get_or l v 0) else var (v - length l)) c ∙ type-stays ts us (get_or l v 0) e (below-at (length ts) l v h i) ∙ ap (λ b. if b then type_at ts (get_or l v 0) else var (v - length l)) (sym c)
    go false c = ap (λ b. if b then type_at us (get_or l v 0) else var (v - length l)) c ∙ ap (λ b. if b then type_at ts (get_or l v 0) else var (v - length l)) (sym c)

-- what a call answers

pub on-ok : {A E : Type 0} {P Q : A → Type 0} (r : Result A E) → ((a : A) → P a → Q a) → IfOk r P → IfOk r Q
on-ok (Ok a) h p = h a p
on-ok (Err e) h p = tt

pub record IsVariable (ts : List Typ) (k v : ℕ) (old new : List Step) : Type 0 where
  pub is : type_at ts k ≡ var v
  pub same : new ≡ old

pub found-variable : (ts : List Typ) (k v : ℕ) (old new : List Step) (found : Option ℕ) → found ≡ Some v → MatchOption found (Opens ts k old new) (λ v. (type_at ts k ≡ var v) × (new ≡ old)) → IsVariable ts k v old new
found-variable ts k v old new (Some x) e h = let p : x ≡ v = cc in record { is = h.0 ∙ ap var p; same = h.1 }
found-variable ts k v old new None e h = absurd (cc e)

pub found-parts : (ts : List Typ) (k : ℕ) (old new : List Step) (found : Option ℕ) → found ≡ None → MatchOption found (Opens ts k old new) (λ v. (type_at ts k ≡ var v) × (new ≡ old)) → Opens ts k old new
found-parts ts k old new (Some x) e h = absurd (cc e)
found-parts ts k old new None e h = h

-- a variable is visited

pub going-puts : (ts us : List Typ) (s : ℕ → Entry) (f : ℕ → Typ) (w : ℕ → ℕ) (images later : ℕ → Option ℕ) (rest new : List Step) (k v r goal : ℕ) (t : Typ) → take (length ts) us ≡ ts → ((q : ℕ) → later q ≡ cond (nat_eq k q) (Some r) (images q)) → IsVariable ts k v rest new → slice_get us r ≡ Some t → f v ≡ t → Going ts s f images (rest ++ Visit k ∷ []) goal → Moves ts us s f w images later (rest ++ Visit k ∷ []) new goal
going-puts ts us s f w images later rest new k v r goal t grown u x h p g =
    let lt = last-step ts s images rest (Visit k) g.order in
    let i = image-made ts us f k r t grown lt (let n = longer ts us grown in omega arith) h (sym p ∙ ap (sub f) (sym x.is)) in
    subst (λ l. Moves ts us s f w images later (rest ++ Visit k ∷ []) l goal) (sym x.same) (going-makes ts us s f w images later rest (Visit k) r goal grown u i g)

pub going-stays : (ts : List Typ) (s : ℕ → Entry) (f : ℕ → Typ) (w : ℕ → ℕ) (images later : ℕ → Option ℕ) (rest new : List Step) (k v goal : ℕ) → ((q : ℕ) → later q ≡ cond (nat_eq k q) (Some k) (images q)) → IsVariable ts k v rest new → f v ≡ var v → Going ts s f images (rest ++ Visit k ∷ []) goal → Moves ts ts s f w images later (rest ++ Visit k ∷ []) new goal
going-stays ts s f w images later rest new k v goal u x p g =
    let lt = last-step ts s images rest (Visit k) g.order in
    going-puts ts ts s f w images later rest new k v k goal (var v) (whole ts) u x (slice_get-get_or ts k (var 0) lt ∙ ap Some x.is) p g

-- a scheme with no parameters

pub image_at-none : (ts : List Typ) (images : List ℕ) → length images ≡ 0 → (v : ℕ) → image_at ts images v ≡ var v
image_at-none ts images e v = go (nat_lt v (length images)) refl
  where
    go : (b : Bool) → nat_lt v (length images) ≡ b → image_at ts images v ≡ var v
    go true c = let i = ltb-true v (length images) c in absurd (omega arith)
    go false c = ap (λ b. if b then type_at ts (get_or images v 0) else var (v - length images)) c ∙ ap var (omega arith)

-- an image in the table

pub image-ends : (ts us : List Typ) (f : ℕ → Typ) (k r : ℕ) → take (length ts) us ≡ ts → k < length ts → IsImage us f k r → slice_get us r ≡ Some (sub f (type_at ts k))
image-ends ts us f k r e lt i = slice_get-get_or us r (var 0) i.held ∙ ap Some (i.is ∙ ap (sub f) (type-stays ts us k e lt))
