-- Texts of bytes.
use Rattle.std.proofs.Common.{◌≡◌, ℕ, suc, ◌<◌, ◌≤◌, ◌&&◌, true, List, [], ◌∷◌, length, map, take, Vec, Global, All, add-one, get_or, nat_lt, refl, ap₂, subst, arith}
use Rattle.std.proofs.lemmas.Bool.{lt-ltb}
use Rattle.std.proofs.lemmas.List.{take_all}
use Rattle.std.proofs.lemmas.List.Elements.{All-head, All-more, All-tail}
use Rattle.std.specs.List.{AllByRecursion}
use Rattle.ir_code.specs.Machine.{all_bytes}
use Rattle.first_tables.specs.TablesOf.{items_of}

abbrev pub IsText : List ℕ → Type 0
IsText t = All (λ b. b < 256) t

abbrev pub HoldsText : Vec ℕ Global → Type 0
HoldsText t = IsText t.items

-- one more element, and all
pub one-more : {A : Type 0} (P : A → Type 0) (xs : List A) (i : ℕ) (x : A) → i < length xs → All P (take i xs) → P (get_or xs i x) → All P (take (suc i) xs)
one-more P xs i x lt h k = rw (← add-one) (All-more P xs i x lt h k)

pub at-end : {A : Type 0} (P : A → Type 0) (xs : List A) (i : ℕ) → length xs ≤ i → All P (take i xs) → All P xs
at-end P xs i le h = subst (All P) (take_all i xs le) h

bytes : (t : List ℕ) → IsText t → all_bytes t ≡ true
bytes [] h = refl
bytes (b ∷ t) h = ap₂ (λ x y. x && y) (lt-ltb b 256 (All-head (λ b. b < 256) b t h)) (bytes t (All-tail (λ b. b < 256) b t h))

pub all-bytes : (ts : List (Vec ℕ Global)) → All HoldsText ts → AllByRecursion (λ t. all_bytes t ≡ true) (map items_of ts)
all-bytes [] h = tt
all-bytes (t ∷ ts) h = (bytes t.items (All-head HoldsText t ts h), all-bytes ts (All-tail HoldsText t ts h))
