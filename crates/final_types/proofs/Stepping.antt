-- Steps by which types are made, one after the other.
use Rattle.std.proofs.Common.{◌≡◌, ◌<◌, ◌*◌, ◌+◌, ◌-◌, ◌&&◌, ℕ, zero, suc, Bool, true, false, nat_eq, if◌then◌else◌, List, [], ◌∷◌, ◌++◌, map, length, reverse, take, drop, Some, Result, Ok, Err, IfOk, refl, sym, ap, ap₂, subst, ◌∙◌, arith}
use Rattle.std.specs.Prelude.{slice_get}
use Rattle.std.proofs.lemmas.Bool.{eqb-true}
use Rattle.std.proofs.lemmas.List.{append_assoc, append-nil, length-append, reverse-append}
use Rattle.ty_core.specs.Types.{Typ, var, con, more, typs_of}
use Rattle.ty_core.specs.TypesOf.{head_of}
use Rattle.ty_core.specs.declared.ty.Head.{Head}
use Rattle.ty_table.specs.TypeAt.{type_at, types_at, AllBelow}
use Rattle.ty_solve.specs.Substitution.{subs}
use Rattle.ty_solve.specs.Weight.{weights}
use Rattle.ty_solve.proofs.Holding.{type-stays}
use Rattle.ty_instance.proofs.Going.{below-grown, longer, positive}
use Rattle.elab_typed.specs.Numbers.{symbol_as, type_as, types_as}
use Rattle.elab_state.specs.Namings.{number_in}
use Rattle.final_types.specs.Making.{AreMade, Builds, Comes, Going, IsNoted, Known, Moves, burden, image, namings_of, same_key, visits}
use Rattle.final_types.specs.Nodes.{IsEnd, IsOf, IsParameter, IsSame, types_of}
use Rattle.final_types.specs.declared.source.Source.{Source}
use Rattle.final_types.specs.declared.step.Step.{Step}
use Rattle.final_types.specs.declared.step.Step.TheVariants.{Visit, Keep, Build}

-- lists

pub reverse-more : (steps : List Step) (x : Step) → reverse (steps ++ x ∷ []) ≡ x ∷ reverse steps
reverse-more steps x = reverse-append steps (x ∷ [])

map-more : {A B : Type 0} (f : A → B) (l : List A) (x : A) → map f (l ++ x ∷ []) ≡ map f l ++ f x ∷ []
map-more f [] x = refl
map-more f (y ∷ l) x = ap (λ m. f y ∷ m) (map-more f l x)

map-length : {A B : Type 0} (f : A → B) (l : List A) → length (map f l) ≡ length l
map-length f [] = refl
map-length f (x ∷ l) = ap suc (map-length f l)

below-append : (n : ℕ) (l : List ℕ) (k : ℕ) → AllBelow n l → k < n → AllBelow n (l ++ k ∷ [])
below-append n [] k h lt = (lt, tt)
below-append n (x ∷ l) k h lt = (h.0, below-append n l k h.1 lt)

pub below-take : (n m : ℕ) (l : List ℕ) → AllBelow n l → AllBelow n (take m l)
below-take n zero l h = tt
below-take n (suc m) [] h = tt
below-take n (suc m) (x ∷ l) h = (h.0, below-take n m l h.1)

pub below-drop : (n m : ℕ) (l : List ℕ) → AllBelow n l → AllBelow n (drop m l)
below-drop n zero l h = h
below-drop n (suc m) [] h = tt
below-drop n (suc m) (x ∷ l) h = below-drop n m l h.1

below-split : (n : ℕ) (l : List ℕ) (k : ℕ) → AllBelow n (l ++ k ∷ []) → k < n
below-split n [] k h = h.0
below-split n (x ∷ l) k h = below-split n l k h.1

-- numbers in a table that has grown

values-stay : (us vs : List Typ) (l : List ℕ) → take (length us) vs ≡ us → AllBelow (length us) l → map (type_at vs) l ≡ map (type_at us) l
values-stay us vs [] e h = refl
values-stay us vs (k ∷ l) e h = ap₂ (λ t m. t ∷ m) (type-stays us vs k e h.0) (values-stay us vs l e h.1)

pub get-is : (us : List Typ) (r : ℕ) (t : Typ) → slice_get us r ≡ Some t → type_at us r ≡ t
get-is [] r t e = cc
get-is (u ∷ us) zero t e = cc
get-is (u ∷ us) (suc r) t e = get-is us r t e

pub get-below : (us : List Typ) (r : ℕ) (t : Typ) → slice_get us r ≡ Some t → r < length us
get-below [] r t e = cc
get-below (u ∷ us) zero t e = omega arith
get-below (u ∷ us) (suc r) t e = let p = get-below us r t e in omega (arith, p)

-- keys

key-is : (P : ℕ → ℕ → Type 0) (k p i j : ℕ) → same_key (k, p) (i, j) ≡ true → P k p → P i j
key-is P k p i j e h = by (nat_eq k i) (nat_eq p j) refl refl e
  where
    by : (a b : Bool) → nat_eq k i ≡ a → nat_eq p j ≡ b → (a && b) ≡ true → P i j
    by true true q r e = subst (P i) (eqb-true p j r) (subst (λ x. P x p) (eqb-true k i q) h)
    by true false q r e = cc
    by false b q r e = cc

module _ (S : Source) where
  -- one more number is known, in a table that has grown
  pub made-more : (us vs : List Typ) (known later : Known) (k p r : ℕ) → take (length us) vs ≡ us → IsNoted known later k p r → r < length vs
      → ((g : ℕ → Typ) → IsEnd S.solver.now g → type_at vs r ≡ image S g k p) → AreMade S us known → AreMade S vs later
  made-more us vs known later k p r e n lt is m = record {
    held = λ i j q h. held i j q (same_key (k, p) (i, j)) refl (sym (n (i, j)) ∙ h);
    right = λ g end i j q h. right g end i j q (same_key (k, p) (i, j)) refl (sym (n (i, j)) ∙ h);
  }
    where
      held : (i j q : ℕ) (b : Bool) → same_key (k, p) (i, j) ≡ b → (if b then Some r else known (i, j)) ≡ Some q → q < length vs
      held i j q true y h = let z : r ≡ q = cc in omega (arith, z, lt)
      held i j q false y h = let a = m.held i j q h in let b = longer us vs e in omega (arith, a, b)

      right : (g : ℕ → Typ) → IsEnd S.solver.now g → (i j q : ℕ) (b : Bool) → same_key (k, p) (i, j) ≡ b → (if b then Some r else known (i, j)) ≡ Some q → type_at vs q ≡ image S g i j
      right g end i j q true y h =
          let z : r ≡ q = cc in
          ap (type_at vs) (sym z) ∙ key-is (λ a b. type_at vs r ≡ image S g a b) k p i j y (is g end)
      right g end i j q false y h = type-stays us vs q e (m.held i j q h) ∙ m.right g end i j q h

  made-grown : (us vs : List Typ) (known : Known) → take (length us) vs ≡ us → AreMade S us known → AreMade S vs known
  made-grown us vs known e m = record {
    held = λ i j q h. let a = m.held i j q h in let b = longer us vs e in omega (arith, a, b);
    right = λ g end i j q h. type-stays us vs q e (m.held i j q h) ∙ m.right g end i j q h;
  }

  -- the first step

  top : (g : ℕ → Typ) (t : Typ) (steps : List Step) (x : Step) (vs : List Typ) → Comes S g t (reverse (steps ++ x ∷ [])) vs → Comes S g t (x ∷ reverse steps) vs
  top g t steps x vs = subst (λ l. Comes S g t l vs) (reverse-more steps x)

  weigh-top : (steps : List Step) (x : Step) → burden S (reverse (steps ++ x ∷ [])) ≡ burden S (x ∷ reverse steps)
  weigh-top steps x = ap (burden S) (reverse-more steps x)

  some-weight : (k p : ℕ) (l : List Step) → burden S l < burden S (Visit k p ∷ l)
  some-weight k p l = let a = positive S.solver.now.subst.acyclic.0 (type_at (types_of S.solver.now) k) in omega (arith, a)

  -- a number is put behind the others
  pub going-puts : (us vs : List Typ) (known later : Known) (steps : List Step) (values : List ℕ) (k p r k₀ p₀ : ℕ) → take (length us) vs ≡ us → AreMade S vs later → r < length vs
      → ((g : ℕ → Typ) → IsEnd S.solver.now g → type_at vs r ≡ image S g k p) → Going S us known (steps ++ Visit k p ∷ []) values k₀ p₀
      → Moves S vs later (steps ++ Visit k p ∷ []) steps (values ++ r ∷ []) k₀ p₀
  going-puts us vs known later steps values k p r k₀ p₀ e m lt is go = record {
    going = record {
      made = m;
      held = below-append (length vs) values r (below-grown us vs values e go.held) lt;
      comes = λ g end.
          subst (Comes S g (image S g k₀ p₀) (reverse steps))
          (ap₂ (λ l t. l ++ t ∷ []) (sym (values-stay us vs values e go.held)) (sym (is g end)) ∙ sym (map-more (type_at vs) values r))
          (top g (image S g k₀ p₀) steps (Visit k p) (map (type_at us) values) (go.comes g end));
    };
    lighter = let a = weigh-top steps (Visit k p) in let b = some-weight k p (reverse steps) in omega (arith, a, b);
  }

  pub going-finds : (us : List Typ) (known : Known) (steps : List Step) (values : List ℕ) (k p at r k₀ p₀ : ℕ) → known (k, at) ≡ Some r
      → ((g : ℕ → Typ) → IsEnd S.solver.now g → image S g k p ≡ image S g k at) → Going S us known (steps ++ Visit k p ∷ []) values k₀ p₀
      → Moves S us known (steps ++ Visit k p ∷ []) steps (values ++ r ∷ []) k₀ p₀
  going-finds us known steps values k p at r k₀ p₀ f same go =
      going-puts us us known known steps values k p r k₀ p₀ (whole us) go.made (go.made.held k at r f) (λ g end. go.made.right g end k at r f ∙ sym (same g end)) go
    where
      whole : (l : List Typ) → take (length l) l ≡ l
      whole [] = refl
      whole (x ∷ l) = ap (λ m. x ∷ m) (whole l)

  pub going-parameter : (us vs : List Typ) (known later : Known) (steps : List Step) (values : List ℕ) (k p at v r k₀ p₀ : ℕ) → IsParameter S.solver.now (type_at (types_of S.solver.now) k) v
      → take (length us) vs ≡ us → slice_get vs r ≡ Some (var v) → IsNoted known later k at r → ((g : ℕ → Typ) → IsEnd S.solver.now g → image S g k p ≡ image S g k at)
      → Going S us known (steps ++ Visit k p ∷ []) values k₀ p₀ → Moves S vs later (steps ++ Visit k p ∷ []) steps (values ++ r ∷ []) k₀ p₀
  going-parameter us vs known later steps values k p at v r k₀ p₀ node e f n same go =
      let lt = get-below vs r (var v) f in
      let is : (g : ℕ → Typ) → IsEnd S.solver.now g → type_at vs r ≡ image S g k at = λ g end. get-is vs r (var v) f ∙ ap (type_as (number_in (namings_of S) (Some at))) (sym (node.is g end)) in
      going-puts us vs known later steps values k p r k₀ p₀ e (made-more us vs known later k at r e n lt is go.made) lt (λ g end. is g end ∙ sym (same g end)) go

  -- another type is the same
  pub going-same : (us : List Typ) (known : Known) (steps new : List Step) (values : List ℕ) (k p at u k₀ p₀ : ℕ) → IsSame S.solver.now (type_at (types_of S.solver.now) k) u
      → new ≡ (steps ++ Keep k at ∷ []) ++ Visit u at ∷ [] → ((g : ℕ → Typ) → IsEnd S.solver.now g → image S g k p ≡ image S g k at) → Going S us known (steps ++ Visit k p ∷ []) values k₀ p₀
      → Moves S us known (steps ++ Visit k p ∷ []) new values k₀ p₀
  going-same us known steps new values k p at u k₀ p₀ node e same go = record {
    going = record {
      made = go.made;
      held = go.held;
      comes = λ g end.
          let eq : image S g k at ≡ image S g u at = ap (type_as (number_in (namings_of S) (Some at))) (node.is g end) in
          let vs = map (type_at us) values in
          let before = top g (image S g k₀ p₀) steps (Visit k p) vs (go.comes g end) in
          subst (λ l. Comes S g (image S g k₀ p₀) l vs) (sym is)
          (record { others = vs; is = ap (λ t. vs ++ t ∷ []) (sym eq) }, subst (λ t. Comes S g (image S g k₀ p₀) (reverse steps) (vs ++ t ∷ [])) (same g end ∙ eq) before);
    };
    lighter =
        let a = weigh-top steps (Visit k p) in
        let b = ap (burden S) is in
        let c = node.lighter in
        omega (arith, a, b, c);
  }
    where
      is : reverse new ≡ Visit u at ∷ Keep k at ∷ reverse steps
      is = ap reverse e ∙ reverse-more (steps ++ Keep k at ∷ []) (Visit u at) ∙ ap (λ l. Visit u at ∷ l) (reverse-more steps (Keep k at))

  -- the number of another type is kept for this one
  pub going-keeps : (us : List Typ) (known later : Known) (steps : List Step) (values rest : List ℕ) (k p r k₀ p₀ : ℕ) → values ≡ rest ++ r ∷ [] → IsNoted known later k p r
      → Going S us known (steps ++ Keep k p ∷ []) values k₀ p₀ → Moves S us later (steps ++ Keep k p ∷ []) steps (rest ++ r ∷ []) k₀ p₀
  going-keeps us known later steps values rest k p r k₀ p₀ e n go = record {
    going = record {
      made = made-more us us known later k p r (whole us) n (below-split (length us) rest r (subst (AllBelow (length us)) e go.held)) is go.made;
      held = subst (AllBelow (length us)) e go.held;
      comes = λ g end. subst (λ l. Comes S g (image S g k₀ p₀) (reverse steps) (map (type_at us) l)) e (before g end).1;
    };
    lighter = let a = weigh-top steps (Keep k p) in omega (arith, a);
  }
    where
      whole : (l : List Typ) → take (length l) l ≡ l
      whole [] = refl
      whole (x ∷ l) = ap (λ m. x ∷ m) (whole l)

      before : (g : ℕ → Typ) → IsEnd S.solver.now g → Comes S g (image S g k₀ p₀) (Keep k p ∷ reverse steps) (map (type_at us) values)
      before g end = top g (image S g k₀ p₀) steps (Keep k p) (map (type_at us) values) (go.comes g end)

      last-same : (l m : List Typ) (x y : Typ) → l ++ x ∷ [] ≡ m ++ y ∷ [] → x ≡ y
      last-same [] [] x y e = cc
      last-same [] (z ∷ []) x y e = cc
      last-same [] (z ∷ w ∷ m) x y e = cc
      last-same (z ∷ []) [] x y e = cc
      last-same (z ∷ w ∷ l) [] x y e = cc
      last-same (z ∷ l) (w ∷ m) x y e = last-same l m x y (let q : l ++ x ∷ [] ≡ m ++ y ∷ [] = cc in q)

      is : (g : ℕ → Typ) → IsEnd S.solver.now g → type_at us r ≡ image S g k p
      is g end =
          let b = (before g end).0 in
          last-same (map (type_at us) rest) b.others (type_at us r) (image S g k p) (sym (map-more (type_at us) rest r) ∙ sym (ap (map (type_at us)) e) ∙ b.is)

  -- what a type is made of is asked for

  abbrev images : (ℕ → Typ) → ℕ → List ℕ → List Typ
  images g at = map (λ k. image S g k at)

  comes-visits : (g : ℕ → Typ) (t : Typ) (at : ℕ) (ks : List ℕ) (l : List Step) (vs : List Typ) → Comes S g t l (vs ++ images g at ks) → Comes S g t (visits at ks ++ l) vs
  comes-visits g t at [] l vs h = subst (Comes S g t l) (append-nil vs) h
  comes-visits g t at (k ∷ ks) l vs h = comes-visits g t at ks l (vs ++ image S g k at ∷ []) (subst (Comes S g t l) (sym (append_assoc vs (image S g k at ∷ []) (images g at ks))) h)

  visits-weigh : (at : ℕ) (ks : List ℕ) (l : List Step) → burden S (visits at ks ++ l) ≡ 2 * weights S.solver.now.subst.acyclic.0 (types_at (types_of S.solver.now) ks) + burden S l
  visits-weigh at [] l = omega arith
  visits-weigh at (k ∷ ks) l = let e = visits-weigh at ks l in omega (arith, e)

  parts-are : (g : ℕ → Typ) (at : ℕ) (ks : List ℕ) → types_as (number_in (namings_of S) (Some at)) (subs g (types_at (types_of S.solver.now) ks)) ≡ typs_of (images g at ks)
  parts-are g at [] = refl
  parts-are g at (k ∷ ks) = ap (more (image S g k at)) (parts-are g at ks)

  pub going-opens : (us : List Typ) (known : Known) (steps new : List Step) (values : List ℕ) (k p at n k₀ p₀ : ℕ) (h named : Head) (ks : List ℕ)
      → IsOf S.solver.now (type_at (types_of S.solver.now) k) h ks → head_of named ≡ symbol_as (number_in (namings_of S) (Some at)) (head_of h) → n ≡ length ks
      → reverse new ≡ visits at ks ++ reverse (steps ++ Build k at named n ∷ []) → ((g : ℕ → Typ) → IsEnd S.solver.now g → image S g k p ≡ image S g k at)
      → Going S us known (steps ++ Visit k p ∷ []) values k₀ p₀ → Moves S us known (steps ++ Visit k p ∷ []) new values k₀ p₀
  going-opens us known steps new values k p at n k₀ p₀ h named ks node i c e same go = record {
    going = record {
      made = go.made;
      held = go.held;
      comes = λ g end.
          let vs = map (type_at us) values in
          let t = image S g k₀ p₀ in
          let before = top g t steps (Visit k p) vs (go.comes g end) in
          subst (λ l. Comes S g t l vs) (sym is)
          (comes-visits g t at ks (Build k at named n ∷ reverse steps) vs (vs, builds g end vs, subst (λ x. Comes S g t (reverse steps) (vs ++ x ∷ [])) (same g end) before));
    };
    lighter =
        let a = weigh-top steps (Visit k p) in
        let b = ap (burden S) is ∙ visits-weigh at ks (Build k at named n ∷ reverse steps) in
        let w = node.lighter in
        omega (arith, a, b, w);
  }
    where
      is : reverse new ≡ visits at ks ++ Build k at named n ∷ reverse steps
      is = e ∙ ap (λ l. visits at ks ++ l) (reverse-more steps (Build k at named n))

      builds : (g : ℕ → Typ) → IsEnd S.solver.now g → (vs : List Typ) → Builds S g k at named n (vs ++ images g at ks) vs
      builds g end vs = record {
        parts = images g at ks;
        is = refl;
        count = map-length (λ k. image S g k at) ks ∙ sym c;
        whole =
            ap (type_as (number_in (namings_of S) (Some at))) (node.is g end)
            ∙ ap₂ con (sym i) (parts-are g at ks);
      }

  -- a type is made of the last numbers

  abbrev no_numbers : List ℕ
  no_numbers = []

  split : (f : ℕ → Typ) (values : List ℕ) (others parts : List Typ) → map f values ≡ others ++ parts → (map f (take (length others) values) ≡ others) × (map f (drop (length others) values) ≡ parts)
  split f values [] parts e = (refl, e)
  split f [] (x ∷ others) parts e = cc
  split f (v ∷ values) (x ∷ others) parts e =
      let h : f v ≡ x = cc in
      let t : map f values ≡ others ++ parts = cc in
      let r = split f values others parts t in
      (ap₂ (λ y l. y ∷ l) h r.0, r.1)

  take-rest : (m : ℕ) (l : List ℕ) → take (length l - m) (drop m l) ≡ drop m l
  take-rest zero l = ap (λ n. take n l) (let e : length l - 0 ≡ length l = omega arith in e) ∙ all l
    where
      all : (l : List ℕ) → take (length l) l ≡ l
      all [] = refl
      all (x ∷ l) = ap (λ q. x ∷ q) (all l)
  take-rest (suc m) [] = none (length no_numbers - suc m)
    where
      none : (n : ℕ) → take n no_numbers ≡ no_numbers
      none zero = refl
      none (suc n) = refl
  take-rest (suc m) (x ∷ l) = ap (λ n. take n (drop m l)) (let e : suc (length l) - suc m ≡ length l - m = omega arith in e) ∙ take-rest m l

  pub going-builds : (us vs : List Typ) (known later : Known) (steps : List Step) (values : List ℕ) (k p n start r k₀ p₀ : ℕ) (h : Head) → start ≡ length values - n
      → take (length us) vs ≡ us → slice_get vs r ≡ Some (con (head_of h) (types_at us (take (length values - start) (drop start values)))) → IsNoted known later k p r
      → Going S us known (steps ++ Build k p h n ∷ []) values k₀ p₀ → Moves S vs later (steps ++ Build k p h n ∷ []) steps (take start values ++ r ∷ []) k₀ p₀
  going-builds us vs known later steps values k p n start r k₀ p₀ h s e f i go = record {
    going = record {
      made = made-more us vs known later k p r e i lt (λ g end. (now g end).1) go.made;
      held = below-append (length vs) (take start values) r (below-take (length vs) start values (below-grown us vs values e go.held)) lt;
      comes = λ g end. (now g end).0;
    };
    lighter = let a = weigh-top steps (Build k p h n) in omega (arith, a);
  }
    where
      lt : r < length vs
      lt = get-below vs r _ f

      now : (g : ℕ → Typ) → IsEnd S.solver.now g → Comes S g (image S g k₀ p₀) (reverse steps) (map (type_at vs) (take start values ++ r ∷ [])) × (type_at vs r ≡ image S g k p)
      now g end =
          let b = top g (image S g k₀ p₀) steps (Build k p h n) (map (type_at us) values) (go.comes g end) in
          let q = b.1 in
          let c = split (type_at us) values b.0 q.parts q.is in
          let m : length values ≡ length b.0 + n = sym (map-length (type_at us) values) ∙ ap length q.is ∙ length-append b.0 q.parts ∙ ap (λ z. length b.0 + z) q.count in
          let z : start ≡ length b.0 = omega (arith, s, m) in
          let parts : map (type_at us) (take (length values - start) (drop start values)) ≡ q.parts = ap (map (type_at us)) (take-rest start values) ∙ ap (λ j. map (type_at us) (drop j values)) z ∙ c.1 in
          let is : type_at vs r ≡ image S g k p = get-is vs r _ f ∙ ap (λ l. con (head_of h) (typs_of l)) parts ∙ sym q.whole in
          let front : map (type_at vs) (take start values) ≡ b.0 = values-stay us vs (take start values) e (below-take (length us) start values go.held) ∙ ap (λ j. map (type_at us) (take j values)) z ∙ c.0 in (
            subst (Comes S g (image S g k₀ p₀) (reverse steps)) (ap₂ (λ l t. l ++ t ∷ []) (sym front) (sym is) ∙ sym (map-more (type_at vs) (take start values) r)) b.2,
            is,
          )

  -- it begins and ends

  pub going-begins : (us : List Typ) (known : Known) (steps : List Step) (values : List ℕ) (k p : ℕ) → AreMade S us known → steps ≡ Visit k p ∷ [] → values ≡ [] → Going S us known steps values k p
  going-begins us known steps values k p m e f = record {
    made = m;
    held = subst (AllBelow (length us)) (sym f) tt;
    comes = λ g end. subst (λ l. Comes S g (image S g k p) l (map (type_at us) values)) (sym (ap reverse e)) (subst (λ l. map (type_at us) l ++ image S g k p ∷ [] ≡ image S g k p ∷ []) (sym f) refl);
  }

  pub going-ends : (us : List Typ) (known : Known) (steps : List Step) (values rest : List ℕ) (k p r : ℕ) → steps ≡ [] → values ≡ rest ++ r ∷ [] → Going S us known steps values k p
      → (r < length us) × ((g : ℕ → Typ) → IsEnd S.solver.now g → type_at us r ≡ image S g k p)
  going-ends us known steps values rest k p r e f go = (
    below-split (length us) rest r (subst (AllBelow (length us)) f go.held),
    λ g end. only (type_at us) rest r (image S g k p) (sym (ap (map (type_at us)) f) ∙ subst (λ l. Comes S g (image S g k p) l (map (type_at us) values)) (ap reverse e) (go.comes g end)),
  )
    where
      only : (f : ℕ → Typ) (rest : List ℕ) (r : ℕ) (t : Typ) → map f (rest ++ r ∷ []) ≡ t ∷ [] → f r ≡ t
      only f [] r t e = cc
      only f (x ∷ []) r t e = cc
      only f (x ∷ y ∷ rest) r t e = cc

-- a fact of every answer, by further ones
pub on-ok : {A E : Type 0} (r : Result A E) {P Q : A → Type 0} → ((x : A) → r ≡ Ok x → P x → Q x) → IfOk r P → IfOk r Q
on-ok (Ok x) f h = f x refl h
on-ok (Err e) f h = h

pub at-ok : {A E : Type 0} (r : Result A E) (x : A) (P : A → Type 0) → IfOk r P → r ≡ Ok x → P x
at-ok r x P h e = subst (λ q. IfOk q P) e h

pub no-steps : (steps : List Step) → length steps ≡ 0 → steps ≡ []
no-steps [] e = refl
no-steps (x ∷ steps) e = absurd (omega (arith, e))
