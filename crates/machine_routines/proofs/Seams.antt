-- Reads and writes at a place in lists that are put together.
use Rattle.std.proofs.Common.{◌≡◌, ℕ, zero, suc, ◌+◌, ◌<◌, ◌≤◌, List, [], ◌∷◌, ◌++◌, length, Some, refl, ap, subst, arith, append_assoc, length-append}
use Rattle.std.specs.Prelude.{slice_get, slice_set, slice_index}
use Rattle.ir_code.specs.declared.instr.Instr.{Instr}
use Rattle.machine_routines.specs.Runs.{HasAt}

pub get_left : {A : Type 0} (xs ys : List A) (i : ℕ) (a : A) → slice_get xs i ≡ Some a → slice_get (xs ++ ys) i ≡ Some a
get_left [] ys i a e = absurd (cc)
get_left (x ∷ xs) ys zero a e = e
get_left (x ∷ xs) ys (suc i) a e = get_left xs ys i a e

pub get_right : {A : Type 0} (xs ys : List A) (i : ℕ) → slice_get (xs ++ ys) (length xs + i) ≡ slice_get ys i
get_right [] ys i = let e : 0 + i ≡ i = omega arith in rw e refl
get_right (x ∷ xs) ys i = let e : suc (length xs) + i ≡ suc (length xs + i) = omega arith in rw e (get_right xs ys i)

pub set_right : {A : Type 0} (xs ys : List A) (i : ℕ) (a : A) → slice_set (xs ++ ys) (length xs + i) a ≡ xs ++ slice_set ys i a
set_right [] ys i a = let e : 0 + i ≡ i = omega arith in rw e refl
set_right (x ∷ xs) ys i a = let e : suc (length xs) + i ≡ suc (length xs + i) = omega arith in rw e (ap (λ l. x ∷ l) (set_right xs ys i a))

pub get_here : {A : Type 0} (xs ys : List A) (a : A) → slice_get (xs ++ a ∷ ys) (length xs) ≡ Some a
get_here [] ys a = refl
get_here (x ∷ xs) ys a = get_here xs ys a

pub set_here : {A : Type 0} (xs ys : List A) (a b : A) → slice_set (xs ++ a ∷ ys) (length xs) b ≡ xs ++ b ∷ ys
set_here [] ys a b = refl
set_here (x ∷ xs) ys a b = ap (λ l. x ∷ l) (set_here xs ys a b)

pub get_within : {A : Type 0} (xs : List A) (i : ℕ) (a : A) → slice_get xs i ≡ Some a → i < length xs
get_within [] i a e = absurd (cc)
get_within (x ∷ xs) zero a e = omega arith
get_within (x ∷ xs) (suc i) a e = let h : i < length xs = get_within xs i a e in omega arith

pub index_of : (xs : List ℕ) (i a : ℕ) → slice_get xs i ≡ Some a → slice_index xs i ≡ a
index_of [] i a e = absurd (cc)
index_of (x ∷ xs) zero a e = cc
index_of (x ∷ xs) (suc i) a e = index_of xs i a e

-- the first words of a list, where it has so many
pub cut_at : (n : ℕ) (xs : List ℕ) → n ≤ length xs → (ys : List ℕ) × (zs : List ℕ) × (xs ≡ ys ++ zs) × (length ys ≡ n)
cut_at zero xs le = ([], xs, refl, refl)
cut_at (suc n) [] le = absurd (omega arith)
cut_at (suc n) (x ∷ xs) le = let r = cut_at n xs (omega arith) in (x ∷ r.0, r.1, ap (λ l. x ∷ l) r.2, ap suc r.3)

pub has_front : (code : List Instr) (pc : ℕ) (a b : List Instr) → HasAt code pc (a ++ b) → HasAt code pc a
has_front code pc [] b h = tt
has_front code pc (i ∷ a) b h = (h.0, has_front code (pc + 1) a b h.1)

pub has_back : (code : List Instr) (pc q : ℕ) (a b : List Instr) → pc + length a ≡ q → HasAt code pc (a ++ b) → HasAt code q b
has_back code pc q [] b e h = let f : pc ≡ q = omega arith in subst (λ n. HasAt code n b) f h
has_back code pc q (i ∷ a) b e h = has_back code (pc + 1) q a b (omega arith) h.1

pub has_all : (is pre : List Instr) → HasAt (pre ++ is) (length pre) is
has_all [] pre = tt
has_all (i ∷ is) pre =
    let n : length (pre ++ i ∷ []) ≡ length pre + 1 = omega (arith, length-append pre (i ∷ [])) in
    let rest = has_all is (pre ++ i ∷ []) in
    let rest' = subst (λ l. HasAt l (length (pre ++ i ∷ [])) is) (append_assoc pre (i ∷ []) is) rest in
    (get_here pre is i, subst (λ m. HasAt (pre ++ i ∷ is) m is) n rest')
