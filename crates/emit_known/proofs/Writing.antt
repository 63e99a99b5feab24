-- Texts, one by one.
use Rattle.std.proofs.Common.{◌≡◌, ◌≢◌, refl, ℕ, zero, suc, ◌+◌, ◌<◌, List, [], ◌∷◌, ◌++◌, length, map, take, Bool, true, false, ◌||◌, nat_eq, if◌then◌else◌, sym, ap, ◌∙◌, ⊎_elim, subst, arith, get_or, Vec, Global}
use Rattle.std.proofs.lemmas.Bool.Decides.{eqb_tells}
use Rattle.std.proofs.lemmas.Bool.{eqb-true}
use Rattle.std.proofs.lemmas.List.{map-append, take_more}
use Rattle.std.proofs.Math.ListN.{set}
use Rattle.first_tables.specs.TablesOf.{items_of}
use Rattle.machine_code.specs.Image.{text_of}
use Rattle.image_law.specs.ImageOf.{has, text_in}
use Rattle.emit_known.proofs.Finding.{has-append}

empty-behind : (xs : List (List ℕ)) (i : ℕ) → text_of (xs ++ [] ∷ []) i ≡ text_of xs i
empty-behind [] zero = refl
empty-behind [] (suc i) = refl
empty-behind (x ∷ xs) zero = refl
empty-behind (x ∷ xs) (suc i) = empty-behind xs i

-- an empty text behind the others says nothing
pub no-text : (xs new : List (Vec ℕ Global)) (v : Vec ℕ Global) → new ≡ xs ++ v ∷ [] → v.items ≡ [] → (i : ℕ) → text_of (map items_of new) i ≡ text_of (map items_of xs) i
no-text xs new v e n i =
    ap (λ l. text_of l i) (ap (map items_of) e ∙ map-append items_of xs (v ∷ []) ∙ ap (λ t. map items_of xs ++ t ∷ []) n) ∙ empty-behind (map items_of xs) i

set-same : (xs : List (Vec ℕ Global)) (n : ℕ) (v : Vec ℕ Global) → n < length xs → text_of (map items_of (set xs n v)) n ≡ v.items
set-same [] n v lt = absurd (omega (arith, lt))
set-same (x ∷ xs) zero v lt = refl
set-same (x ∷ xs) (suc n) v lt = set-same xs n v (omega (arith, lt))

set-other : (xs : List (Vec ℕ Global)) (n : ℕ) (v : Vec ℕ Global) (i : ℕ) → i ≢ n → text_of (map items_of (set xs n v)) i ≡ text_of (map items_of xs) i
set-other [] n v i ne = refl
set-other (x ∷ xs) zero v zero ne = absurd (ne refl)
set-other (x ∷ xs) zero v (suc i) ne = refl
set-other (x ∷ xs) (suc n) v zero ne = refl
set-other (x ∷ xs) (suc n) v (suc i) ne = set-other xs n v i (λ e. ne (ap suc e))

-- one text is another
pub text-set : (xs : List (Vec ℕ Global)) (n : ℕ) (v : Vec ℕ Global) → n < length xs → (i : ℕ)
    → text_of (map items_of (set xs n v)) i ≡ (if nat_eq i n then v.items else text_of (map items_of xs) i)
text-set xs n v lt i =
    ⊎_elim (λ h. ap (text_of (map items_of (set xs n v))) h.1 ∙ set-same xs n v lt ∙ sym (ap (λ b. if b then v.items else text_of (map items_of xs) i) h.0))
    (λ h. set-other xs n v i h.1 ∙ sym (ap (λ b. if b then v.items else text_of (map items_of xs) i) h.0)) (eqb_tells i n)

-- an identifier is given its text
pub given : (names : List (List ℕ)) (xs old : List (Vec ℕ Global)) (n name : ℕ) (v : Vec ℕ Global) → n ≡ name → n < length xs → v.items ≡ text_of names name
    → ((i : ℕ) → text_of (map items_of xs) i ≡ text_of (map items_of old) i)
    → (i : ℕ) → text_of (map items_of (set xs n v)) i ≡ (if nat_eq i name then text_of names name else text_of (map items_of old) i)
given names xs old n name v en lt ev same i =
    text-set xs n v lt i ∙ ap (λ m. if nat_eq i m then v.items else text_of (map items_of xs) i) en
    ∙ ap (λ t. if nat_eq i name then t else text_of (map items_of xs) i) ev
    ∙ ap (λ t. if nat_eq i name then text_of names name else t) (same i)

-- one identifier more has its text
module _ (names : List (List ℕ)) (n i : ℕ) where
  more : (b h : Bool) → (b ≡ true → i ≡ n) → (if b then text_of names n else (if h then text_of names i else []))
      ≡ (if h || (b || false) then text_of names i else [])
  more true true e = ap (text_of names) (sym (e refl))
  more true false e = ap (text_of names) (sym (e refl))
  more false true e = refl
  more false false e = refl

  pub text-more : (xs : List ℕ) (t' t : List ℕ) → t' ≡ (if nat_eq i n then text_of names n else t) → t ≡ text_in names xs i
      → t' ≡ text_in names (xs ++ n ∷ []) i
  text-more xs t' t h g =
      h ∙ ap (λ z. if nat_eq i n then text_of names n else z) g ∙ more (nat_eq i n) (has xs i) (eqb-true i n)
      ∙ ap (λ b. if b then text_of names i else []) (sym (has-append xs (n ∷ []) i))

pub text-next : (names : List (List ℕ)) (xs : List ℕ) (k n : ℕ) → k < length xs → n ≡ get_or xs k n → (i : ℕ) (t' t : List ℕ)
    → t' ≡ (if nat_eq i n then text_of names n else t) → t ≡ text_in names (take k xs) i → t' ≡ text_in names (take (k + 1) xs) i
text-next names xs k n lt is i t' t h g =
    subst (λ l. t' ≡ text_in names l i) (sym (take_more xs k n lt ∙ ap (λ m. take k xs ++ m ∷ []) (sym is))) (text-more names n i (take k xs) t' t h g)
