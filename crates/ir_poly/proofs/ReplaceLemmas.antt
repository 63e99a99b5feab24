-- Types that are put for variables.
use Rattle.std.proofs.Common.{◌≡◌, ℕ, zero, suc, Bool, true, false, not, ◌&&◌, ◌||◌, List, [], ◌∷◌, ◌++◌, map, length, Option, Some, None, nat_eq, if◌then◌else◌, refl, sym, ap, subst, ◌∙◌}
use Rattle.std.proofs.lemmas.Bool.{eqb-true}
use Rattle.std.specs.Map.{lookup}
use Rattle.ir_plain.specs.of_mlc_names.declared.label.Label.{Label}
use Rattle.ir_plain.specs.of_mlc_names.declared.label.Label.TheVariants.{Number}
use Rattle.ir_plain.specs.of_mlc_prims.declared.basis.BasisPrimitive.{BasisPrimitive}
use Rattle.ty_basis.specs.of_ty_core.Types.{Typ, var, con, Typs, none, more, typs_of, admits, all_admit, attribute, allowed, no_variable}
use Rattle.ty_basis.specs.of_ty_core.Marks.{Allows}
use Rattle.ty_basis.specs.of_ty_core.Statics.{replace, replace_all}
use Rattle.ty_basis.specs.of_ty_core.declared.mark.Mark.{Mark}
use Rattle.ty_basis.specs.of_ty_core.declared.mark.Mark.TheVariants.{Any, Equality, Class}
use Rattle.ty_basis.specs.of_ty_core.declared.name.Equality as Eq
use Rattle.ty_basis.specs.of_ty_core.declared.name.Equality.TheVariants.{Always, ByArguments, Never}
use Rattle.ty_basis.specs.of_ty_core.declared.scheme.Quantified.{Quantified}
use Rattle.label_rows.proofs.Mapped.{sorted-map}
use Rattle.ir_poly.specs.Types.{row_type, sorted, in_scope, is_equality, is_declarable, admits_in, over, all_over, are_new, changed, AreAllowed, nth_type, argument_at, put, prim_type, arguments_at, result_at, numbered, tuple_type}
use Rattle.ir_poly.specs.TestsTyped.{option_read}

pub left-true : (a b : Bool) → (a && b) ≡ true → a ≡ true
left-true true b e = refl
left-true false b e = absurd (cc)

pub right-true : (a b : Bool) → (a && b) ≡ true → b ≡ true
right-true true b e = e
right-true false b e = absurd (cc)

pub both-true : {a b : Bool} → a ≡ true → b ≡ true → (a && b) ≡ true
both-true e h = rw (e, h) refl

mutual
  -- what a type's variables stand for is all that counts
  pub replace-agree : (D : List Quantified) (t : Typ) → over D t ≡ true → (f g : ℕ → Typ) → ((v : ℕ) → in_scope D v ≡ true → f v ≡ g v) → replace f t ≡ replace g t
  replace-agree D (var v) h f g k = k v h
  replace-agree D (con a ts) h f g k = ap (con a) (replace_all-agree D ts h f g k)

  pub replace_all-agree : (D : List Quantified) (ts : Typs) → all_over D ts ≡ true → (f g : ℕ → Typ) → ((v : ℕ) → in_scope D v ≡ true → f v ≡ g v) → replace_all f ts ≡ replace_all g ts
  replace_all-agree D none h f g k = refl
  replace_all-agree D (more t ts) h f g k = rw (replace-agree D t (left-true (over D t) (all_over D ts) h) f g k, replace_all-agree D ts (right-true (over D t) (all_over D ts) h) f g k) refl

mutual
  pub replace-replace : (f g : ℕ → Typ) (t : Typ) → replace f (replace g t) ≡ replace (λ v. replace f (g v)) t
  replace-replace f g (var v) = refl
  replace-replace f g (con a ts) = ap (con a) (replace_all-replace_all f g ts)

  replace_all-replace_all : (f g : ℕ → Typ) (ts : Typs) → replace_all f (replace_all g ts) ≡ replace_all (λ v. replace f (g v)) ts
  replace_all-replace_all f g none = refl
  replace_all-replace_all f g (more t ts) = rw (replace-replace f g t, replace_all-replace_all f g ts) refl

mutual
  replace-ext : (f g : ℕ → Typ) → ((v : ℕ) → f v ≡ g v) → (t : Typ) → replace f t ≡ replace g t
  replace-ext f g h (var v) = h v
  replace-ext f g h (con a ts) = ap (con a) (replace_all-ext f g h ts)

  replace_all-ext : (f g : ℕ → Typ) → ((v : ℕ) → f v ≡ g v) → (ts : Typs) → replace_all f ts ≡ replace_all g ts
  replace_all-ext f g h none = refl
  replace_all-ext f g h (more t ts) = rw (replace-ext f g h t, replace_all-ext f g h ts) refl

mutual
  pub over-mono : (D D' : List Quantified) → ((v : ℕ) → in_scope D v ≡ true → in_scope D' v ≡ true) → (t : Typ) → over D t ≡ true → over D' t ≡ true
  over-mono D D' k (var v) h = k v h
  over-mono D D' k (con a ts) h = all_over-mono D D' k ts h

  all_over-mono : (D D' : List Quantified) → ((v : ℕ) → in_scope D v ≡ true → in_scope D' v ≡ true) → (ts : Typs) → all_over D ts ≡ true → all_over D' ts ≡ true
  all_over-mono D D' k none h = refl
  all_over-mono D D' k (more t ts) h = both-true (over-mono D D' k t (left-true (over D t) (all_over D ts) h)) (all_over-mono D D' k ts (right-true (over D t) (all_over D ts) h))

-- Equality

allowed-read : (e : Eq.Equality) (b b' : Bool) → (b ≡ true → b' ≡ true) → allowed e b ≡ true → allowed e b' ≡ true
allowed-read Always b b' f h = refl
allowed-read ByArguments b b' f h = f h
allowed-read Never b b' f h = absurd (cc)

mutual
  pub admits-read : (m : ℕ → Bool) (s : ℕ → Typ) → ((v : ℕ) → m v ≡ true → admits no_variable (s v) ≡ true) → (t : Typ) → admits m t ≡ true → admits no_variable (replace s t) ≡ true
  admits-read m s k (var v) h = k v h
  admits-read m s k (con a ts) h = allowed-read (attribute a) (all_admit m ts) (all_admit no_variable (replace_all s ts)) (all-admit-read m s k ts) h

  all-admit-read : (m : ℕ → Bool) (s : ℕ → Typ) → ((v : ℕ) → m v ≡ true → admits no_variable (s v) ≡ true) → (ts : Typs) → all_admit m ts ≡ true → all_admit no_variable (replace_all s ts) ≡ true
  all-admit-read m s k none h = refl
  all-admit-read m s k (more t ts) h = both-true (admits-read m s k t (left-true (admits m t) (all_admit m ts) h)) (all-admit-read m s k ts (right-true (admits m t) (all_admit m ts) h))

-- types that parameters in scope may stand for
abbrev pub Fits : List Quantified → (ℕ → Typ) → Type 0
Fits D s = (v : ℕ) → admits_in D v ≡ true → admits no_variable (s v) ≡ true

pub allows-read : (a : Mark) (D : List Quantified) (s : ℕ → Typ) → Fits D s → (t : Typ) → Allows a (admits_in D) t → Allows a no_variable (replace s t)
allows-read Any D s k t h = tt
allows-read Equality D s k t h = admits-read (admits_in D) s k t h
allows-read (Class c) D s k t h = record { number = h.number; is = ap (replace s) h.is; held = h.held }

pub are-allowed-read : (D : List Quantified) (s : ℕ → Typ) → Fits D s → (qs : List Quantified) (ts : List Typ) → AreAllowed (admits_in D) qs ts → AreAllowed no_variable qs (map (replace s) ts)
are-allowed-read D s k [] [] h = tt
are-allowed-read D s k [] (t ∷ ts) h = absurd h
are-allowed-read D s k (q ∷ qs) [] h = absurd h
are-allowed-read D s k (q ∷ qs) (t ∷ ts) h = (allows-read q.mark D s k t h.0, are-allowed-read D s k qs ts h.1)

-- Parts of types

pub typs_of-read : (s : ℕ → Typ) (ts : List Typ) → replace_all s (typs_of ts) ≡ typs_of (map (replace s) ts)
typs_of-read s [] = refl
typs_of-read s (t ∷ ts) = ap (more (replace s t)) (typs_of-read s ts)

abbrev pub row_read : (ℕ → Typ) → List (Label × Typ) → List (Label × Typ)
row_read s = map (λ f. (f.0, replace s f.1))

pub sorted-read : (s : ℕ → Typ) (r : List (Label × Typ)) → row_read s (sorted r) ≡ sorted (row_read s r)
sorted-read s = sorted-map (λ f. f.0) (λ f. f.0) (λ f. (f.0, replace s f.1)) (λ f. refl)

pub labels-read : (s : ℕ → Typ) (r : List (Label × Typ)) → map (λ f. f.0) (row_read s r) ≡ map (λ f. f.0) r
labels-read s [] = refl
labels-read s (f ∷ r) = ap (λ ls. f.0 ∷ ls) (labels-read s r)

parts-read : (s : ℕ → Typ) (r : List (Label × Typ)) → typs_of (map (λ f. f.1) (row_read s r)) ≡ replace_all s (typs_of (map (λ f. f.1) r))
parts-read s [] = refl
parts-read s (f ∷ r) = ap (more (replace s f.1)) (parts-read s r)

pub row_type-read : (s : ℕ → Typ) (r : List (Label × Typ)) → replace s (row_type r) ≡ row_type (row_read s r)
row_type-read s r = rw (labels-read s r, parts-read s r) refl

pub length-read : (s : ℕ → Typ) (r : List (Label × Typ)) → length (row_read s r) ≡ length r
length-read s [] = refl
length-read s (f ∷ r) = ap suc (length-read s r)

found-part : (s : ℕ → Typ) (b : Bool) (u t : Typ) (o o' : Option Typ) → (o ≡ Some t → o' ≡ Some (replace s t)) → (if b then Some u else o) ≡ Some t → (if b then Some (replace s u) else o') ≡ Some (replace s t)
found-part s true u t o o' h e = let same : u ≡ t = cc in ap (λ x. Some (replace s x)) same
found-part s false u t o o' h e = h e

pub part-read : (s : ℕ → Typ) (p : Label → Bool) (r : List (Label × Typ)) (t : Typ) → lookup p r ≡ Some t → lookup p (row_read s r) ≡ Some (replace s t)
part-read s p [] t e = absurd (cc)
part-read s p (f ∷ r) t e = found-part s (p f.0) f.1 t (lookup p r) (lookup p (row_read s r)) (part-read s p r t) e

nth-read : (s : ℕ → Typ) (ts : List Typ) (i : ℕ) → replace s (nth_type ts i) ≡ nth_type (map (replace s) ts) i
nth-read s [] i = refl
nth-read s (t ∷ ts) zero = refl
nth-read s (t ∷ ts) (suc i) = nth-read s ts i

pub argument-read : (s : ℕ → Typ) (ts : List Typ) (a : Option Typ) → argument_at (map (replace s) ts) a ≡ option_read s (argument_at ts a)
argument-read s ts None = refl
argument-read s ts (Some a) = ap Some (sym (replace-replace s (nth_type ts) a ∙ replace-ext _ _ (nth-read s ts) a))

-- Primitives

puts-read : (s : ℕ → Typ) (u : Typ) (ts : List Typ) → map (replace s) (map (put u) ts) ≡ map (put (replace s u)) ts
puts-read s u [] = refl
puts-read s u (t ∷ ts) = rw (replace-replace s (λ v. u) t, puts-read s u ts) refl

pub arguments-read : (s : ℕ → Typ) (p : BasisPrimitive) (u : Typ) → map (replace s) (arguments_at p u) ≡ arguments_at p (replace s u)
arguments-read s p u = puts-read s u (prim_type p).arguments

pub result-read : (s : ℕ → Typ) (p : BasisPrimitive) (u : Typ) → replace s (result_at p u) ≡ result_at p (replace s u)
result-read s p u = replace-replace s (λ v. u) (prim_type p).result

numbered-read : (s : ℕ → Typ) (k : ℕ) (ts : List Typ) → row_read s (numbered k ts) ≡ numbered k (map (replace s) ts)
numbered-read s k [] = refl
numbered-read s k (t ∷ ts) = ap (λ r. (Number k, replace s t) ∷ r) (numbered-read s (suc k) ts)

pub tuple-read : (s : ℕ → Typ) (ts : List Typ) → replace s (tuple_type ts) ≡ tuple_type (map (replace s) ts)
tuple-read s [] = refl
tuple-read s (t ∷ []) = refl
tuple-read s (t ∷ u ∷ ts) = row_type-read s (numbered 1 (t ∷ u ∷ ts)) ∙ ap row_type (numbered-read s 1 (t ∷ u ∷ ts))

-- Parameters

or-right : (a b : Bool) → b ≡ true → (a || b) ≡ true
or-right true b h = refl
or-right false b h = h

pub more-scope : (qs D : List Quantified) (v : ℕ) → in_scope D v ≡ true → in_scope (qs ++ D) v ≡ true
more-scope [] D v h = h
more-scope (q ∷ qs) D v h = or-right (nat_eq q.variable v) (in_scope (qs ++ D) v) (more-scope qs D v h)

changed-at : (D : List Quantified) (s s0 : ℕ → Typ) → ((v : ℕ) → in_scope D v ≡ true → s0 v ≡ s v) → (qs : List Quantified) (ts : List Typ) (m : ℕ → Bool) → AreAllowed m qs ts → (v : ℕ) → in_scope (qs ++ D) v ≡ true
    → replace s (changed qs ts var v) ≡ changed qs (map (replace s) ts) s0 v
changed-at D s s0 k [] [] m a v h = sym (k v h)
changed-at D s s0 k [] (t ∷ ts) m a v h = absurd a
changed-at D s s0 k (q ∷ qs) [] m a v h = absurd a
changed-at D s s0 k (q ∷ qs) (t ∷ ts) m a v h = choose (nat_eq q.variable v) (λ e. changed-at D s s0 k qs ts m a.1 v e) h
  where
    choose : (b : Bool) → (in_scope (qs ++ D) v ≡ true → replace s (changed qs ts var v) ≡ changed qs (map (replace s) ts) s0 v) → (b || in_scope (qs ++ D) v) ≡ true
        → replace s (if b then t else changed qs ts var v) ≡ (if b then replace s t else changed qs (map (replace s) ts) s0 v)
    choose true f e = refl
    choose false f e = f e

-- an instance, read
pub instance-read : (D : List Quantified) (s s0 : ℕ → Typ) → ((v : ℕ) → in_scope D v ≡ true → s0 v ≡ s v) → (qs : List Quantified) (ts : List Typ) (m : ℕ → Bool) → AreAllowed m qs ts → (b : Typ) → over (qs ++ D) b ≡ true
    → replace s (replace (changed qs ts var) b) ≡ replace (changed qs (map (replace s) ts) s0) b
instance-read D s s0 k qs ts m a b h = replace-replace s (changed qs ts var) b ∙ replace-agree (qs ++ D) b h _ _ (changed-at D s s0 k qs ts m a)

no-truth : (b : Bool) → not b ≡ true → b ≡ true → ⊥
no-truth true h e = cc
no-truth false h e = cc

-- outside the parameters nothing changes
pub changed-outside : (D : List Quantified) (s : ℕ → Typ) (qs : List Quantified) (ts : List Typ) → are_new qs D ≡ true → (v : ℕ) → in_scope D v ≡ true → s v ≡ changed qs ts s v
changed-outside D s [] ts n v h = refl
changed-outside D s (q ∷ qs) [] n v h = refl
changed-outside D s (q ∷ qs) (t ∷ ts) n v h = go (nat_eq q.variable v) refl (changed-outside D s qs ts (right-true (not (in_scope qs q.variable)) _ (right-true (not (in_scope D q.variable)) _ (right-true (is_declarable q.mark) _ n))) v h)
  where
    go : (b : Bool) → nat_eq q.variable v ≡ b → s v ≡ changed qs ts s v → s v ≡ (if b then t else changed qs ts s v)
    go true e r = absurd (no-truth (in_scope D q.variable) (left-true (not (in_scope D q.variable)) _ (right-true (is_declarable q.mark) _ n)) (subst (λ x. in_scope D x ≡ true) (sym (eqb-true q.variable v e)) h))
    go false e r = r

mark-admits : (a : Mark) (t : Typ) → Allows a no_variable t → is_equality a ≡ true → admits no_variable t ≡ true
mark-admits Any t h e = absurd (cc)
mark-admits Equality t h e = h
mark-admits (Class c) t h e = absurd (cc)

pub changed-fits : (D : List Quantified) (s : ℕ → Typ) → Fits D s → (qs : List Quantified) (ts : List Typ) → AreAllowed no_variable qs ts → Fits (qs ++ D) (changed qs ts s)
changed-fits D s k [] [] a v h = k v h
changed-fits D s k [] (t ∷ ts) a v h = absurd a
changed-fits D s k (q ∷ qs) [] a v h = absurd a
changed-fits D s k (q ∷ qs) (t ∷ ts) a v h = choose (nat_eq q.variable v) (changed-fits D s k qs ts a.1 v) h
  where
    choose : (b : Bool) → (admits_in (qs ++ D) v ≡ true → admits no_variable (changed qs ts s v) ≡ true) → (if b then is_equality q.mark else admits_in (qs ++ D) v) ≡ true → admits no_variable (if b then t else changed qs ts s v) ≡ true
    choose true f e = mark-admits q.mark t a.0 e
    choose false f e = f e
