-- Types put for parameters, in a world.
use Rattle.std.proofs.Common.{◌≡◌, ◌<◌, ℕ, zero, suc, Bool, true, false, ◌&&◌, ◌||◌, ◌-◌, if◌then◌else◌, List, [], ◌∷◌, length, map, nat_lt, nat_eq, Some, slice_get, get_or, refl, sym, ap, ap₂, subst, ◌∙◌, arith}
use Rattle.std.proofs.lemmas.Bool.{eqb-true, lt-ltb, ltb-true, and_parts}
use Rattle.std.proofs.lemmas.Option.{slice_get_within, get_or_from_slice_get}
use Rattle.ty_core.specs.Types.{Typ, Typs, var, con, none, more}
use Rattle.ty_core.specs.Statics.{replace, replace_all}
use Rattle.ty_core.specs.declared.scheme.Quantified.{Quantified}
use Rattle.ty_table.specs.TypeAt.{type_at}
use Rattle.ty_solve.specs.Substitution.{sub, subs, is_below, are_below, is_in}
use Rattle.ty_solve.specs.Limits.{limit_at}
use Rattle.ty_solve.specs.declared.limit.Limit.{Limit}
use Rattle.ty_instance.specs.Images.{image_at}
use Rattle.ty_instance.specs.Put.{put_for}
use Rattle.ir_poly.specs.Types.{in_scope, nth_type, changed}
use Rattle.elab_context.specs.of_elab_state.States.{types_in, made, limit_in, dead_level}
use Rattle.elab_context.specs.of_elab_state.declared.state.State.{State}
use Rattle.elab_context.proofs.of_elab_state.Typed.{in-below}
use Rattle.elab_context.specs.of_elab_steps.Growing.{HasGeneral, HasType, AreTypes, Always}
use Rattle.elab_context.specs.of_elab_steps.Tidy.{IsLive}
use Rattle.elab_context.specs.of_elab_steps.World.{World, type_of, Comes}
use Rattle.elab_context.proofs.of_elab_steps.Growing.{comes_before}
use Rattle.elab_context.proofs.of_elab_steps.Changing.{Tabled, tabled_grows}
use Rattle.elab_context.proofs.of_elab_steps.Keeping.{replaced-in}
use Rattle.use_elab.specs.Fresh.{images_of}

-- a type of an earlier state, in a world
come-as : (S : State) (W : World) (k : ℕ) → Comes S W → HasType S k → type_of W k ≡ sub W.value (type_at (types_in S) k)
come-as S W k c h = ap (sub W.value) (c.types k h.held)

-- variables replaced by known types

mutual
  replaced-below : (n m : ℕ) (f : ℕ → Typ) → ((v : ℕ) → nat_lt v n ≡ true → is_below m (f v) ≡ true) → (t : Typ) → is_below n t ≡ true → is_below m (replace f t) ≡ true
  replaced-below n m f h (var v) e = h v e
  replaced-below n m f h (con y ts) e = all-replaced-below n m f h ts e

  all-replaced-below : (n m : ℕ) (f : ℕ → Typ) → ((v : ℕ) → nat_lt v n ≡ true → is_below m (f v) ≡ true) → (ts : Typs) → are_below n ts ≡ true
      → are_below m (replace_all f ts) ≡ true
  all-replaced-below n m f h none e = refl
  all-replaced-below n m f h (more t ts) e =
      let p = and_parts (is_below n t) (are_below n ts) e in
      ap₂ (λ a b. a && b) (replaced-below n m f h t p.0) (all-replaced-below n m f h ts p.1)

module _ (n : ℕ) (g f h : ℕ → Typ) (same : (v : ℕ) → nat_lt v n ≡ true → sub g (f v) ≡ h v) where
  mutual
    sub-replaced : (t : Typ) → is_below n t ≡ true → sub g (replace f t) ≡ replace h t
    sub-replaced (var v) e = same v e
    sub-replaced (con y ts) e = ap (con y) (subs-replaced ts e)

    subs-replaced : (ts : Typs) → are_below n ts ≡ true → subs g (replace_all f ts) ≡ replace_all h ts
    subs-replaced none e = refl
    subs-replaced (more t ts) e = let p = and_parts (is_below n t) (are_below n ts) e in ap₂ more (sub-replaced t p.0) (subs-replaced ts p.1)

module _ (g f h : ℕ → Typ) (same : (v : ℕ) → sub g (f v) ≡ h v) where
  mutual
    sub-put : (t : Typ) → sub g (replace f t) ≡ sub h t
    sub-put (var v) = same v
    sub-put (con y ts) = ap (con y) (subs-put ts)

    subs-put : (ts : Typs) → subs g (replace_all f ts) ≡ subs h ts
    subs-put none = refl
    subs-put (more t ts) = ap₂ more (sub-put t) (subs-put ts)

-- the images of a closed body

pub record Instanced (S T : State) (body : ℕ) (images : List ℕ) (r : ℕ) : Type 0 where
  pub tabled : Tabled S T
  pub is : slice_get (types_in T) r ≡ Some (replace (image_at (types_in S) images) (type_at (types_in S) body))

image-below : (S : State) (ks : List ℕ) → AreTypes S ks → (v : ℕ) → v < length ks → is_below (made S) (type_at (types_in S) (get_or ks v 0)) ≡ true
image-below S [] h v lt = absurd (omega arith)
image-below S (k ∷ ks) h zero lt = h.0.below
image-below S (k ∷ ks) h (suc v) lt = image-below S ks h.1 v (omega arith)

image-comes : (S : State) (W : World) → Comes S W → (ks : List ℕ) → AreTypes S ks → (v : ℕ) → v < length ks
    → sub W.value (type_at (types_in S) (get_or ks v 0)) ≡ nth_type (images_of W ks) v
image-comes S W c [] h v lt = absurd (omega arith)
image-comes S W c (k ∷ ks) h zero lt = sym (come-as S W k c h.0)
image-comes S W c (k ∷ ks) h (suc v) lt = image-comes S W c ks h.1 v (omega arith)

image-is : (ts : List Typ) (ks : List ℕ) (v : ℕ) → nat_lt v (length ks) ≡ true → image_at ts ks v ≡ type_at ts (get_or ks v 0)
image-is ts ks v e = ap (λ (b : Bool). if b then type_at ts (get_or ks v 0) else var (v - length ks)) e

made-same : (S T : State) → Tabled S T → made T ≡ made S
made-same S T t = ap length t.slots

image-live : (S : State) (ks : List ℕ) → AreTypes S ks → (v : ℕ) → v < length ks → IsLive S (get_or ks v 0)
image-live S [] h v lt = absurd (omega arith)
image-live S (k ∷ ks) h zero lt = h.0.live
image-live S (k ∷ ks) h (suc v) lt = image-live S ks h.1 v (omega arith)

-- limits stay
alive-same : (S T : State) → Tabled S T → (x : ℕ) → (limit_in S x).level < dead_level → (limit_in T x).level < dead_level
alive-same S T t x lt = subst (λ (l : Limit). l.level < dead_level) (ap (λ ls. limit_at ls x) (sym t.limits)) lt

pub instanced_is : (S T : State) (body : ℕ) (images : List ℕ) (r : ℕ) → Instanced S T body images r → is_below (length images) (type_at (types_in S) body) ≡ true → AreTypes S images
    → HasType T r
instanced_is S T body images r h closed are =
    let ts = types_in S in
    let made_of = replace (image_at ts images) (type_at ts body) in
    record {
      held = slice_get_within (types_in T) r made_of h.is;
      below =
          subst (λ n. is_below n (type_at (types_in T) r) ≡ true) (sym (made-same S T h.tabled))
          (subst (λ t. is_below (made S) t ≡ true) (sym (get_or_from_slice_get (types_in T) r made_of (var 0) h.is))
          (replaced-below (length images) (made S) (image_at ts images)
          (λ v e. ap (is_below (made S)) (image-is ts images v e) ∙ image-below S images are v (ltb-true v (length images) e)) (type_at ts body) closed));
      live = λ x i.
          replaced-in ((limit_in T x).level < dead_level) (image_at ts images) x (type_at ts body)
          (subst (λ t. is_in x t ≡ true) (get_or_from_slice_get (types_in T) r made_of (var 0) h.is) i) (λ v j k.
          let lt = in-below (length images) v (type_at ts body) j closed in
          alive-same S T h.tabled x (image-live S images are v lt x (subst (λ t. is_in x t ≡ true) (image-is ts images v (lt-ltb v (length images) lt)) k)));
    }

pub instanced_has : (S T : State) (body : ℕ) (images : List ℕ) (r : ℕ) → Instanced S T body images r → body < length (types_in S)
    → is_below (length images) (type_at (types_in S) body) ≡ true → AreTypes S images
    → Always T (λ W. type_of W r ≡ replace (nth_type (images_of W images)) (W.raw body))
instanced_has S T body images r h lt closed are W c =
    let ts = types_in S in
    let d = comes_before S T W (tabled_grows S T h.tabled) c in
    let made_of = replace (image_at ts images) (type_at ts body) in
    ap (sub W.value) (c.types r (slice_get_within (types_in T) r made_of h.is) ∙ get_or_from_slice_get (types_in T) r made_of (var 0) h.is)
    ∙ sub-replaced (length images) W.value (image_at ts images) (nth_type (images_of W images))
    (λ v e. ap (sub W.value) (image-is ts images v e) ∙ image-comes S W d images are v (ltb-true v (length images) e)) (type_at ts body) closed
    ∙ ap (replace (nth_type (images_of W images))) (sym (d.types body lt))

-- types put for variables

pub record Putted (S T : State) (body : ℕ) (variables images : List ℕ) (r : ℕ) : Type 0 where
  pub tabled : Tabled S T
  pub is : slice_get (types_in T) r ≡ Some (replace (put_for variables (map (type_at (types_in S)) images)) (type_at (types_in S) body))

put-below : (S : State) (ps ks : List ℕ) → AreTypes S ks → (v : ℕ) → nat_lt v (made S) ≡ true → is_below (made S) (put_for ps (map (type_at (types_in S)) ks) v) ≡ true
put-below S [] ks h v lt = lt
put-below S (p ∷ ps) [] h v lt = lt
put-below S (p ∷ ps) (k ∷ ks) h v lt = by (nat_eq p v) (put-below S ps ks h.1 v lt)
  where
    by : (b : Bool) → is_below (made S) (put_for ps (map (type_at (types_in S)) ks) v) ≡ true
        → is_below (made S) (if b then type_at (types_in S) k else put_for ps (map (type_at (types_in S)) ks) v) ≡ true
    by true rest = h.0.below
    by false rest = rest

put-comes : (S : State) (W : World) → Comes S W → (qs : List Quantified) (ks : List ℕ) → AreTypes S ks → (v : ℕ)
    → sub W.value (put_for (map (λ q. q.variable) qs) (map (type_at (types_in S)) ks) v) ≡ changed qs (images_of W ks) W.value v
put-comes S W c [] ks h v = refl
put-comes S W c (q ∷ qs) [] h v = refl
put-comes S W c (q ∷ qs) (k ∷ ks) h v = by (nat_eq q.variable v) (put-comes S W c qs ks h.1 v)
  where
    by : (b : Bool) → sub W.value (put_for (map (λ q. q.variable) qs) (map (type_at (types_in S)) ks) v) ≡ changed qs (images_of W ks) W.value v
        → sub W.value (if b then type_at (types_in S) k else put_for (map (λ q. q.variable) qs) (map (type_at (types_in S)) ks) v)
        ≡ (if b then type_of W k else changed qs (images_of W ks) W.value v)
    by true rest = sym (come-as S W k c h.0)
    by false rest = rest

-- a variable that is no parameter stays, and the others stand for types with no variable that is done with
put-live : (S : State) (x : ℕ) (qs : List Quantified) (ks : List ℕ) → AreTypes S ks → length ks ≡ length qs → (v : ℕ)
    → is_in x (put_for (map (λ q. q.variable) qs) (map (type_at (types_in S)) ks) v) ≡ true → (in_scope qs v ≡ false → (limit_in S v).level < dead_level)
    → (limit_in S x).level < dead_level
put-live S x [] ks h n v i l = subst (λ y. (limit_in S y).level < dead_level) (eqb-true v x i) (l refl)
put-live S x (q ∷ qs) [] h n v i l = absurd (omega (arith, n))
put-live S x (q ∷ qs) (k ∷ ks) h n v i l = by (nat_eq q.variable v) i l (put-live S x qs ks h.1 (omega (arith, n)) v)
  where
    by : (b : Bool) → is_in x (if b then type_at (types_in S) k else put_for (map (λ q. q.variable) qs) (map (type_at (types_in S)) ks) v) ≡ true
        → ((b || in_scope qs v) ≡ false → (limit_in S v).level < dead_level)
        → (is_in x (put_for (map (λ q. q.variable) qs) (map (type_at (types_in S)) ks) v) ≡ true → (in_scope qs v ≡ false → (limit_in S v).level < dead_level)
        → (limit_in S x).level < dead_level) → (limit_in S x).level < dead_level
    by true i l rest = h.0.live x i
    by false i l rest = rest i l

pub putted_is : (S T : State) (body : ℕ) (qs : List Quantified) (variables images : List ℕ) (r : ℕ) → Putted S T body variables images r → variables ≡ map (λ q. q.variable) qs
    → length images ≡ length qs → HasGeneral S qs body → AreTypes S images → HasType T r
putted_is S T body qs variables images r h e n b are =
    let ts = types_in S in
    let made_of = replace (put_for variables (map (type_at ts) images)) (type_at ts body) in
    record {
      held = slice_get_within (types_in T) r made_of h.is;
      below =
          subst (λ n. is_below n (type_at (types_in T) r) ≡ true) (sym (made-same S T h.tabled))
          (subst (λ t. is_below (made S) t ≡ true) (sym (get_or_from_slice_get (types_in T) r made_of (var 0) h.is))
          (replaced-below (made S) (made S) (put_for variables (map (type_at ts) images)) (put-below S variables images are) (type_at ts body) b.below));
      live = λ x i.
          replaced-in ((limit_in T x).level < dead_level) (put_for variables (map (type_at ts) images)) x (type_at ts body)
          (subst (λ t. is_in x t ≡ true) (get_or_from_slice_get (types_in T) r made_of (var 0) h.is) i) (λ v j k.
          alive-same S T h.tabled x
          (put-live S x qs images are n v (subst (λ (ps : List ℕ). is_in x (put_for ps (map (type_at ts) images) v) ≡ true) e k) (b.live v j)));
    }

pub putted_has : (S T : State) (body : ℕ) (qs : List Quantified) (variables images : List ℕ) (r : ℕ) → Putted S T body variables images r → variables ≡ map (λ q. q.variable) qs
    → HasGeneral S qs body → AreTypes S images → Always T (λ W. type_of W r ≡ sub (changed qs (images_of W images) W.value) (W.raw body))
putted_has S T body qs variables images r h e b are W c =
    let ts = types_in S in
    let d = comes_before S T W (tabled_grows S T h.tabled) c in
    let us = map (type_at ts) images in
    let made_of = replace (put_for variables us) (type_at ts body) in
    ap (sub W.value) (c.types r (slice_get_within (types_in T) r made_of h.is) ∙ get_or_from_slice_get (types_in T) r made_of (var 0) h.is)
    ∙ sub-put W.value (put_for variables us) (changed qs (images_of W images) W.value)
    (λ v. ap (λ (l : List ℕ). sub W.value (put_for l us v)) e ∙ put-comes S W d qs images are v) (type_at ts body)
    ∙ ap (sub (changed qs (images_of W images) W.value)) (sym (d.types body b.held))
