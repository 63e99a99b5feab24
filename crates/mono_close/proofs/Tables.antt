-- Tables that grow, and what variables stand for in them.
use Rattle.std.proofs.Common.{◌≡◌, ◌<◌, ◌≤◌, ℕ, zero, suc, List, [], ◌∷◌, length, take, slice_get, slice_index_or, Option, Some, None, nat_eq, refl, sym, ap, ap₂, subst, ◌∙◌, if◌then◌else◌, Bool, true, false, arith}
use Rattle.std.specs.Map.{lookup}
use Rattle.ty_core.specs.Types.{Typ, var, con, Typs, none, more}
use Rattle.ty_core.specs.Statics.{replace, replace_all}
use Rattle.ty_table.specs.TypeAt.{type_at, AllBelow}
use Rattle.mono_close.specs.Closing.{or_unit, standing, AreHeld, AreRight, Longer}

module _ {A : Type 0} where
  -- a number that a list has is one of a longer list too
  got-longer : (l m : List A) (n : ℕ) (x : A) → take (length l) m ≡ l → slice_get l n ≡ Some x → slice_get m n ≡ Some x
  got-longer [] m n x e g = absurd (cc)
  got-longer (y ∷ l) [] n x e g = absurd (cc)
  got-longer (y ∷ l) (z ∷ m) zero x e g = let p : z ≡ y = cc in ap Some p ∙ g
  got-longer (y ∷ l) (z ∷ m) (suc n) x e g = let p : take (length l) m ≡ l = cc in got-longer l m n x p g

  got-within : (l : List A) (n : ℕ) (x : A) → slice_get l n ≡ Some x → n < length l
  got-within [] n x g = absurd (cc)
  got-within (y ∷ l) zero x g = omega arith
  got-within (y ∷ l) (suc n) x g = let h = got-within l n x g in omega arith

  got-or : (l : List A) (n : ℕ) (d x : A) → slice_get l n ≡ Some x → slice_index_or l n d ≡ x
  got-or [] n d x g = absurd (cc)
  got-or (y ∷ l) zero d x g = cc
  got-or (y ∷ l) (suc n) d x g = got-or l n d x g

  within-got : (l : List A) (n : ℕ) (d : A) → n < length l → slice_get l n ≡ Some (slice_index_or l n d)
  within-got [] n d lt = absurd (omega arith)
  within-got (y ∷ l) zero d lt = refl
  within-got (y ∷ l) (suc n) d lt = within-got l n d (omega arith)

  longer-length : (l m : List A) → take (length l) m ≡ l → length l ≤ length m
  longer-length [] m e = omega arith
  longer-length (y ∷ l) [] e = absurd (cc)
  longer-length (y ∷ l) (z ∷ m) e = let p : take (length l) m ≡ l = cc in let h = longer-length l m p in omega arith

pub same-long : (us : List Typ) → Longer us us
same-long [] = refl
same-long (u ∷ us) = ap (λ l. u ∷ l) (same-long us)

pub type-got : (us : List Typ) (n : ℕ) (t : Typ) → slice_get us n ≡ Some t → type_at us n ≡ t
type-got us n t g = got-or us n (var 0) t g

pub type-within : (us : List Typ) (n : ℕ) → n < length us → slice_get us n ≡ Some (type_at us n)
type-within us n lt = within-got us n (var 0) lt

pub type-held : (us : List Typ) (n : ℕ) (t : Typ) → slice_get us n ≡ Some t → n < length us
type-held us n t g = got-within us n t g

pub get-longer : (us ws : List Typ) (n : ℕ) (t : Typ) → Longer us ws → slice_get us n ≡ Some t → slice_get ws n ≡ Some t
get-longer us ws n t l g = got-longer us ws n t l g

pub type-longer : (us ws : List Typ) (n : ℕ) → Longer us ws → n < length us → type_at ws n ≡ type_at us n
type-longer us ws n l lt = type-got ws n (type_at us n) (get-longer us ws n (type_at us n) l (type-within us n lt))

pub length-longer : (us ws : List Typ) → Longer us ws → length us ≤ length ws
length-longer us ws l = longer-length us ws l

pub then-longer : (us ws xs : List Typ) → Longer us ws → Longer ws xs → Longer us xs
then-longer [] ws xs l m = refl
then-longer (u ∷ us) [] xs l m = absurd (cc)
then-longer (u ∷ us) (w ∷ ws) [] l m = absurd (cc)
then-longer (u ∷ us) (w ∷ ws) (x ∷ xs) l m =
    let p : w ≡ u = cc in
    let q : x ≡ w = cc in
    let a : take (length us) ws ≡ us = cc in
    let b : take (length ws) xs ≡ ws = cc in
    ap₂ (λ y l. y ∷ l) (q ∙ p) (then-longer us ws xs a b)

pub below-longer : (n m : ℕ) (ks : List ℕ) → n ≤ m → AllBelow n ks → AllBelow m ks
below-longer n m [] le b = tt
below-longer n m (k ∷ ks) le b = let p = b.0 in (omega arith, below-longer n m ks le b.1)

pub held-longer : (n m : ℕ) (slots : List (ℕ × ℕ)) → n ≤ m → AreHeld n slots → AreHeld m slots
held-longer n m [] le h = tt
held-longer n m (x ∷ slots) le h = let p = h.0 in (omega arith, held-longer n m slots le h.1)

pub held-found : (n : ℕ) (slots : List (ℕ × ℕ)) (v k : ℕ) → AreHeld n slots → lookup (nat_eq v) slots ≡ Some k → k < n
held-found n [] v k h e = absurd (cc)
held-found n (x ∷ slots) v k h e = go (nat_eq v x.0) (held-found n slots v k h.1) e
  where
    go : (b : Bool) → (lookup (nat_eq v) slots ≡ Some k → k < n) → (if b then Some x.1 else lookup (nat_eq v) slots) ≡ Some k → k < n
    go true rest e = let p : x.1 ≡ k = cc in subst (λ z. z < n) p h.0
    go false rest e = rest e

pub slot-found : (us : List Typ) (slots : List (ℕ × ℕ)) (v n : ℕ) → AreHeld (length us) slots → Some n ≡ lookup (nat_eq v) slots → slice_get us n ≡ Some (standing us slots v)
slot-found us slots v n h e = type-within us n (held-found (length us) slots v n h (sym e)) ∙ ap (λ o. Some (or_unit us o)) e

-- what a variable stands for stays where the table grows
pub standing-longer : (us ws : List Typ) (slots : List (ℕ × ℕ)) (v : ℕ) → Longer us ws → AreHeld (length us) slots → standing ws slots v ≡ standing us slots v
standing-longer us ws slots v l h = go (lookup (nat_eq v) slots) refl
  where
    go : (o : Option ℕ) → lookup (nat_eq v) slots ≡ o → or_unit ws o ≡ or_unit us o
    go None e = refl
    go (Some n) e = type-longer us ws n l (held-found (length us) slots v n h e)

mutual
  pub replace-same : (f g : ℕ → Typ) → ((v : ℕ) → f v ≡ g v) → (t : Typ) → replace f t ≡ replace g t
  replace-same f g h (var v) = h v
  replace-same f g h (con c ts) = ap (con c) (all-same f g h ts)

  all-same : (f g : ℕ → Typ) → ((v : ℕ) → f v ≡ g v) → (ts : Typs) → replace_all f ts ≡ replace_all g ts
  all-same f g h none = refl
  all-same f g h (more t ts) = ap₂ more (replace-same f g h t) (all-same f g h ts)

pub right-same : (ts us : List Typ) (f g : ℕ → Typ) (known : ℕ → Option ℕ) → ((v : ℕ) → f v ≡ g v) → AreRight ts f known us → AreRight ts g known us
right-same ts us f g known h r k n e = r k n e ∙ ap Some (replace-same f g h (type_at ts k))

pub right-longer : (ts us ws : List Typ) (f : ℕ → Typ) (known : ℕ → Option ℕ) → Longer us ws → AreRight ts f known us → AreRight ts f known ws
right-longer ts us ws f known l r k n e = get-longer us ws n (replace f (type_at ts k)) l (r k n e)

-- numbers stay right where the table grows
pub right-again : (ts us ws : List Typ) (slots : List (ℕ × ℕ)) (known : ℕ → Option ℕ) → Longer us ws → AreHeld (length us) slots → AreRight ts (standing us slots) known ws → AreRight ts (standing ws slots) known ws
right-again ts us ws slots known l h r = right-same ts ws (standing us slots) (standing ws slots) known (λ v. sym (standing-longer us ws slots v l h)) r
