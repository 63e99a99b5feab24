-- Numbers and their marks.
use Rattle.std.proofs.Common.{◌≡◌, ◌<◌, ℕ, zero, suc, List, [], ◌∷◌, ◌++◌, length, take, get_or, slice_set, Bool, true, false, ◌||◌, nat_eq, if◌then◌else◌, refl, sym, ap, ◌∙◌, subst, arith}
use Rattle.std.specs.List.{list_any}
use Rattle.std.proofs.lemmas.Bool.{eqb-true, eq-eqb, false≢true}
use Rattle.indexmap.specs.IndexSet.{insert_key}
use Rattle.mono_needed.specs.Gathering.{AreMarked, added}

-- a further mark that isn't set changes nothing
pub mark-more : (marks : List Bool) (k : ℕ) → get_or (marks ++ false ∷ []) k false ≡ get_or marks k false
mark-more [] zero = refl
mark-more [] (suc k) = refl
mark-more (m ∷ marks) zero = refl
mark-more (m ∷ marks) (suc k) = mark-more marks k

pub marks-begin : (ks : List ℕ) (marks : List Bool) → ks ≡ [] → marks ≡ [] → AreMarked ks marks
marks-begin ks marks e f = subst (λ l. AreMarked l marks) (sym e) (subst (AreMarked []) (sym f) (λ k. refl))

pub marked-same : (ks : List ℕ) (marks new : List Bool) → AreMarked ks marks → ((k : ℕ) → get_or new k false ≡ get_or marks k false) → AreMarked ks new
marked-same ks marks new m e = λ k. e k ∙ m k

read : (marks : List Bool) (n : ℕ) (d : Bool) → n < length marks → get_or marks n d ≡ get_or marks n false
read [] n d lt = absurd (omega arith)
read (m ∷ marks) zero d lt = refl
read (m ∷ marks) (suc n) d lt = read marks n d (omega arith)

-- the mark that was read
pub mark-is : (ks : List ℕ) (marks new : List Bool) (n : ℕ) (b c : Bool) → AreMarked ks marks → ((k : ℕ) → get_or new k false ≡ get_or marks k false) → n < length new → b ≡ get_or new n b → b ≡ c → list_any (nat_eq n) ks ≡ c
mark-is ks marks new n b c m e lt r i = sym (marked-same ks marks new m e n) ∙ sym (read new n b lt) ∙ sym r ∙ i

pub key-old : (ks : List ℕ) (n : ℕ) → list_any (nat_eq n) ks ≡ true → ks ≡ insert_key nat_eq ks n
key-old ks n e = sym (ap (λ c. if c then ks else ks ++ n ∷ []) e)

pub key-new : (ks now : List ℕ) (n : ℕ) → list_any (nat_eq n) ks ≡ false → now ≡ ks ++ n ∷ [] → now ≡ insert_key nat_eq ks n
key-new ks now n e q = q ∙ sym (ap (λ c. if c then ks else ks ++ n ∷ []) e)

any-end : (ks : List ℕ) (n k : ℕ) (b : Bool) → nat_eq k n ≡ b → list_any (nat_eq k) (ks ++ n ∷ []) ≡ (if b then true else list_any (nat_eq k) ks)
any-end [] n k true e = ap (λ c. c || false) e
any-end [] n k false e = ap (λ c. c || false) e
any-end (x ∷ ks) n k true e = ap (λ c. nat_eq k x || c) (any-end ks n k true e) ∙ either (nat_eq k x)
  where
    either : (c : Bool) → (c || true) ≡ true
    either true = refl
    either false = refl
any-end (x ∷ ks) n k false e = ap (λ c. nat_eq k x || c) (any-end ks n k false e)

set-here : (marks : List Bool) (n : ℕ) → n < length marks → get_or (slice_set marks n true) n false ≡ true
set-here [] n lt = absurd (omega arith)
set-here (m ∷ marks) zero lt = refl
set-here (m ∷ marks) (suc n) lt = set-here marks n (omega arith)

set-there : (marks : List Bool) (n k : ℕ) → (k ≡ n → ⊥) → get_or (slice_set marks n true) k false ≡ get_or marks k false
set-there [] n k ne = refl
set-there (m ∷ marks) zero zero ne = absurd (ne refl)
set-there (m ∷ marks) zero (suc k) ne = refl
set-there (m ∷ marks) (suc n) zero ne = refl
set-there (m ∷ marks) (suc n) (suc k) ne = set-there marks n k (λ e. ne (ap suc e))

-- one more number, with its mark
pub marked-put : (ks now : List ℕ) (marks new : List Bool) (n : ℕ) → AreMarked ks marks → n < length marks → now ≡ ks ++ n ∷ [] → new ≡ slice_set marks n true → AreMarked now new
marked-put ks now marks new n m lt p q = subst (λ l. AreMarked l new) (sym p) (subst (AreMarked (ks ++ n ∷ [])) (sym q) (λ k. one k (nat_eq k n) refl))
  where
    one : (k : ℕ) (b : Bool) → nat_eq k n ≡ b → get_or (slice_set marks n true) k false ≡ list_any (nat_eq k) (ks ++ n ∷ [])
    one k true e = ap (λ j. get_or (slice_set marks n true) j false) (eqb-true k n e) ∙ set-here marks n lt ∙ sym (any-end ks n k true e)
    one k false e = set-there marks n k (λ i. false≢true (sym e ∙ eq-eqb k n i)) ∙ m k ∙ sym (any-end ks n k false e)

-- one after the other
pub added-next : (ks xs : List ℕ) (i d : ℕ) → i < length xs → added ks (take (suc i) xs) ≡ insert_key nat_eq (added ks (take i xs)) (get_or xs i d)
added-next ks [] i d lt = absurd (omega arith)
added-next ks (x ∷ xs) zero d lt = refl
added-next ks (x ∷ xs) (suc i) d lt = added-next (insert_key nat_eq ks x) xs i d (omega arith)

pub added-step : (ks xs : List ℕ) (i d : ℕ) (old now : List ℕ) → i < length xs → old ≡ added ks (take i xs) → now ≡ insert_key nat_eq old (get_or xs i d)
    → now ≡ added ks (take (suc i) xs)
added-step ks xs i d old now lt e q = q ∙ ap (λ l. insert_key nat_eq l (get_or xs i d)) e ∙ sym (added-next ks xs i d lt)

take-whole : (xs : List ℕ) → take (length xs) xs ≡ xs
take-whole [] = refl
take-whole (x ∷ xs) = ap (λ l. x ∷ l) (take-whole xs)

pub added-whole : (ks xs : List ℕ) (i : ℕ) → i ≡ length xs → added ks (take i xs) ≡ added ks xs
added-whole ks xs i e = ap (λ n. added ks (take n xs)) e ∙ ap (added ks) (take-whole xs)
