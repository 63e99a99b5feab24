-- Types in a list, one by one.
use Rattle.std.proofs.Common.{◌≡◌, ℕ, zero, suc, ◌<◌, ◌≤◌, List, [], ◌∷◌, length, map, take, get_or, Bool, true, false, ◌||◌, refl, sym, ap, ap₂, ◌∙◌, arith}
use Rattle.std.proofs.lemmas.Bool.{or_right, or_from, and_parts}
use Rattle.ty_table.specs.of_ty_core.Types.{Typ, var, Typs, none, more, typs_of}
use Rattle.ty_solve.specs.Substitution.{sub, subs, is_in, are_in, is_below, are_below}
use Rattle.ty_solve.specs.Weight.{weight, weights}
use Rattle.ty_solve.proofs.Subs.{head_of, tail_of}

abbrev pub all : List Typ → Typs
all l = typs_of l

pub at-weight : (w : ℕ → ℕ) (l : List Typ) (i : ℕ) (t : Typ) → i < length l → t ≡ get_or l i t → weight w t ≤ weights w (all l)
at-weight w [] i t lt e = absurd (omega arith)
at-weight w (x ∷ l) zero t lt e = let p = ap (λ y. weight w y) e in omega arith
at-weight w (x ∷ l) (suc i) t lt e = let p = at-weight w l i t (omega arith) e in omega arith

pub at-below : (n : ℕ) (l : List Typ) (i : ℕ) (t : Typ) → i < length l → t ≡ get_or l i t → are_below n (all l) ≡ true → is_below n t ≡ true
at-below n [] i t lt e b = absurd (omega arith)
at-below n (x ∷ l) zero t lt e b = ap (λ y. is_below n y) e ∙ (and_parts (is_below n x) (are_below n (all l)) b).0
at-below n (x ∷ l) (suc i) t lt e b = at-below n l i t (omega arith) e ((and_parts (is_below n x) (are_below n (all l)) b).1)

pub at-in : (v : ℕ) (f : ℕ → Typ) (l : List Typ) (i : ℕ) (t : Typ) → i < length l → t ≡ get_or l i t → is_in v (sub f t) ≡ true → are_in v (subs f (all l)) ≡ true
at-in v f [] i t lt e h = absurd (omega arith)
at-in v f (x ∷ l) zero t lt e h = ap (λ b. b || are_in v (subs f (all l))) (ap (λ y. is_in v (sub f y)) (sym e) ∙ h)
at-in v f (x ∷ l) (suc i) t lt e h = or_right (is_in v (sub f x)) _ (at-in v f l i t (omega arith) e h)

pub next-in : (v : ℕ) (f : ℕ → Typ) (l : List Typ) (i : ℕ) (t : Typ) → i < length l → t ≡ get_or l i t → are_in v (subs f (all (take i l))) ≡ false → is_in v (sub f t) ≡ false → are_in v (subs f (all (take (suc i) l))) ≡ false
next-in v f [] i t lt e h k = absurd (omega arith)
next-in v f (x ∷ l) zero t lt e h k = or_from _ _ (ap (λ y. is_in v (sub f y)) (sym e) ∙ k) refl
next-in v f (x ∷ l) (suc i) t lt e h k = go (is_in v (sub f x)) h (next-in v f l i t (omega arith) e)
  where
    go : (b : Bool) → (b || are_in v (subs f (all (take i l)))) ≡ false → (are_in v (subs f (all (take i l))) ≡ false → is_in v (sub f t) ≡ false → are_in v (subs f (all (take (suc i) l))) ≡ false) → (b || are_in v (subs f (all (take (suc i) l)))) ≡ false
    go true p q = cc
    go false p q = q p k

-- equal lists have equal elements
pub at-equal : (f : ℕ → Typ) (l m : List Typ) (i : ℕ) (t u : Typ) → i < length l → i < length m → t ≡ get_or l i t → u ≡ get_or m i u → subs f (all l) ≡ subs f (all m) → sub f t ≡ sub f u
at-equal f [] m i t u lt mt e d h = absurd (omega arith)
at-equal f (x ∷ l) [] i t u lt mt e d h = absurd (omega arith)
at-equal f (x ∷ l) (y ∷ m) zero t u lt mt e d h = ap (λ z. sub f z) e ∙ ap (λ z. head_of z (var 0)) h ∙ ap (λ z. sub f z) (sym d)
at-equal f (x ∷ l) (y ∷ m) (suc i) t u lt mt e d h = at-equal f l m i t u (omega arith) (omega arith) e d (ap tail_of h)

pub next-equal : (f : ℕ → Typ) (l m : List Typ) (i : ℕ) (t u : Typ) → i < length l → i < length m → t ≡ get_or l i t → u ≡ get_or m i u → subs f (all (take i l)) ≡ subs f (all (take i m)) → sub f t ≡ sub f u → subs f (all (take (suc i) l)) ≡ subs f (all (take (suc i) m))
next-equal f [] m i t u lt mt e d h k = absurd (omega arith)
next-equal f (x ∷ l) [] i t u lt mt e d h k = absurd (omega arith)
next-equal f (x ∷ l) (y ∷ m) zero t u lt mt e d h k = ap (λ z. more z none) (ap (λ z. sub f z) (sym e) ∙ k ∙ ap (λ z. sub f z) d)
next-equal f (x ∷ l) (y ∷ m) (suc i) t u lt mt e d h k = ap₂ more (ap (λ z. head_of z (var 0)) h) (next-equal f l m i t u (omega arith) (omega arith) e d (ap tail_of h) k)

pub same-length : (f : ℕ → Typ) (l m : List Typ) → subs f (all l) ≡ subs f (all m) → length l ≡ length m
same-length f [] [] h = refl
same-length f [] (y ∷ m) h = cc
same-length f (x ∷ l) [] h = cc
same-length f (x ∷ l) (y ∷ m) h = ap suc (same-length f l m (ap tail_of h))

-- a substitution put into the list's types
pub subs-all : (f : ℕ → Typ) (l : List Typ) → subs f (typs_of l) ≡ typs_of (map (sub f) l)
subs-all f [] = refl
subs-all f (t ∷ l) = ap (more (sub f t)) (subs-all f l)
