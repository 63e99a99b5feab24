-- Numbers that are in scope, as a loop brings them there or asks for them.
use Rattle.std.proofs.Common.{◌≡◌, ◌<◌, ◌≤◌, ◌+◌, ◌-◌, ℕ, zero, suc, Bool, true, false, not, ◌||◌, ◌&&◌, cond, List, [], ◌∷◌, map, length, drop, get_or, nat_eq, Some, refl, sym, ap, ap₂, ◌∙◌, arith}
use Rattle.std.specs.Prelude.{is_some}
use Rattle.std.specs.List.{list_all}
use Rattle.std.specs.Map.{lookup}
use Rattle.sml_tree.specs.declared.ident.Tyvar.{Tyvar}
use Rattle.core_rules.specs.Restrictions.{distinct}
use Rattle.core_rules.specs.Words.{is_in}
use Rattle.restrictions.specs.Found.{names_in, noted_onto}
use Rattle.restrictions.proofs.Standing.{drop-all, drop-at}

pub is-noted : (l : List (ℕ × ℕ)) (x : ℕ) → is_in nat_eq x (names_in l) ≡ is_some (lookup (nat_eq x) l)
is-noted [] x = refl
is-noted (a ∷ l) x = ap (λ b. nat_eq x a.0 || b) (is-noted l x) ∙ by (nat_eq x a.0)
  where
    by : (b : Bool) → (b || is_some (lookup (nat_eq x) l)) ≡ is_some (cond b (Some a.1) (lookup (nat_eq x) l))
    by true = refl
    by false = refl

-- each once from a place on

pub record Once (keys : List ℕ) (i : ℕ) (seen : List (ℕ × ℕ)) : Type 0 where
  pub most : i ≤ length keys
  pub names : names_in seen ≡ drop i keys
  pub once : distinct nat_eq (drop i keys) ≡ true

pub once-first : (keys : List ℕ) (i : ℕ) (seen : List (ℕ × ℕ)) → i ≡ length keys → seen ≡ [] → Once keys i seen
once-first keys i seen e n =
    let d = drop-all keys i (omega (arith, e)) in
    record { most = omega (arith, e); names = ap names_in n ∙ sym d; once = ap (distinct nat_eq) d }

at-place : (keys : List ℕ) (i key : ℕ) → i ≤ length keys → 0 < i → key ≡ get_or keys (i - 1) key → drop (i - 1) keys ≡ key ∷ drop i keys
at-place keys i key most pos e =
    let up : (i - 1) + 1 ≡ i = omega (arith, pos) in
    drop-at keys (i - 1) key (omega (arith, most, pos)) e ∙ ap (λ n. key ∷ drop n keys) up

pub once-next : (keys : List ℕ) (i key : ℕ) (seen new : List (ℕ × ℕ)) → Once keys i seen → 0 < i → key ≡ get_or keys (i - 1) key → is_some (lookup (nat_eq key) seen) ≡ false
    → new ≡ (key, 0) ∷ seen → Once keys (i - 1) new
once-next keys i key seen new h pos e fails q =
    let m = h.most in
    let d = at-place keys i key h.most pos e in
    let out : is_in nat_eq key (drop i keys) ≡ false = ap (is_in nat_eq key) (sym h.names) ∙ is-noted seen key ∙ fails in
    record {
      most = omega (arith, m);
      names = ap names_in q ∙ ap (λ l. key ∷ l) h.names ∙ sym d;
      once = ap (distinct nat_eq) d ∙ ap₂ (λ a b. not a && b) out h.once;
    }

-- what isn't so in a part isn't so in the whole
twice-before : (keys : List ℕ) (i : ℕ) → distinct nat_eq (drop i keys) ≡ false → distinct nat_eq keys ≡ false
twice-before [] zero h = h
twice-before [] (suc i) h = h
twice-before (k ∷ keys) zero h = h
twice-before (k ∷ keys) (suc i) h = ap (λ b. not (is_in nat_eq k keys) && b) (twice-before keys i h) ∙ none (not (is_in nat_eq k keys))
  where
    none : (b : Bool) → (b && false) ≡ false
    none true = refl
    none false = refl

pub once-twice : (keys : List ℕ) (i key : ℕ) (seen : List (ℕ × ℕ)) → Once keys i seen → 0 < i → key ≡ get_or keys (i - 1) key → is_some (lookup (nat_eq key) seen) ≡ true
    → false ≡ distinct nat_eq keys
once-twice keys i key seen h pos e holds =
    let d = at-place keys i key h.most pos e in
    let among : is_in nat_eq key (drop i keys) ≡ true = ap (is_in nat_eq key) (sym h.names) ∙ is-noted seen key ∙ holds in
    sym (twice-before keys (i - 1) (ap (distinct nat_eq) d ∙ ap (λ a. not a && distinct nat_eq (drop i keys)) among))

pub once-last : (keys : List ℕ) (i : ℕ) (seen : List (ℕ × ℕ)) → Once keys i seen → i ≤ 0 → true ≡ distinct nat_eq keys
once-last keys i seen h le = let z : i ≡ 0 = omega (arith, le) in sym (sym (ap (λ n. distinct nat_eq (drop n keys)) z) ∙ h.once)

-- brought into scope from a place on

pub record Onto (keys : List ℕ) (i : ℕ) (old now : List (ℕ × ℕ)) : Type 0 where
  pub most : i ≤ length keys
  pub are : now ≡ noted_onto (drop i keys) old

pub onto-first : (keys : List ℕ) (i : ℕ) (old : List (ℕ × ℕ)) → i ≡ length keys → Onto keys i old old
onto-first keys i old e = record { most = omega (arith, e); are = ap (λ l. noted_onto l old) (sym (drop-all keys i (omega (arith, e)))) }

pub onto-next : (keys : List ℕ) (i key : ℕ) (old now new : List (ℕ × ℕ)) → Onto keys i old now → 0 < i → key ≡ get_or keys (i - 1) key → new ≡ (key, 0) ∷ now → Onto keys (i - 1) old new
onto-next keys i key old now new h pos e q =
    let m = h.most in
    record { most = omega (arith, m); are = q ∙ ap (λ l. (key, 0) ∷ l) h.are ∙ ap (λ l. noted_onto l old) (sym (at-place keys i key h.most pos e)) }

pub onto-last : (keys : List ℕ) (i : ℕ) (old now : List (ℕ × ℕ)) → Onto keys i old now → i ≤ 0 → now ≡ noted_onto keys old
onto-last keys i old now h le = let z : i ≡ 0 = omega (arith, le) in h.are ∙ ap (λ n. noted_onto (drop n keys) old) z

-- a test of each

module _ {A : Type 0} (t : A → Bool) where
  pub all-next : (xs : List A) (i : ℕ) (x : A) → i < length xs → x ≡ get_or xs i x → t x ≡ true → list_all t (drop i xs) ≡ list_all t xs → list_all t (drop (i + 1) xs) ≡ list_all t xs
  all-next xs i x lt e holds h = sym (ap (λ b. b && list_all t (drop (i + 1) xs)) holds) ∙ sym (ap (list_all t) (drop-at xs i x lt e)) ∙ h

  pub all-stops : (xs : List A) (i : ℕ) (x : A) → i < length xs → x ≡ get_or xs i x → t x ≡ false → list_all t (drop i xs) ≡ list_all t xs → false ≡ list_all t xs
  all-stops xs i x lt e fails h = sym (ap (λ b. b && list_all t (drop (i + 1) xs)) fails) ∙ sym (ap (list_all t) (drop-at xs i x lt e)) ∙ h

  pub all-last : (xs : List A) (i : ℕ) → length xs ≤ i → list_all t (drop i xs) ≡ list_all t xs → true ≡ list_all t xs
  all-last xs i le h = sym (ap (list_all t) (drop-all xs i le)) ∙ h

-- numbers of a list, read with another default

pub read-any : (xs : List ℕ) (i d k : ℕ) → i < length xs → get_or xs i d ≡ get_or xs i k
read-any [] i d k lt = absurd (omega (arith, lt))
read-any (x ∷ xs) zero d k lt = refl
read-any (x ∷ xs) (suc i) d k lt = read-any xs i d k (omega (arith, lt))

pub in-scope : (keys : List ℕ) (i : ℕ) (noted : List (ℕ × ℕ)) (b : Bool) → is_some (lookup (nat_eq (get_or keys i 0)) noted) ≡ b → is_in nat_eq (get_or keys i 0) (names_in noted) ≡ b
in-scope keys i noted b e = is-noted noted (get_or keys i 0) ∙ e

pub read-last : (xs : List ℕ) (i d k : ℕ) → i ≤ length xs → 0 < i → get_or xs (i - 1) d ≡ get_or xs (i - 1) k
read-last xs i d k most pos = read-any xs (i - 1) d k (omega (arith, most, pos))

pub all-part : {A B : Type 0} (t : B → Bool) (part : A → B) (xs : List A) → list_all t (map part xs) ≡ list_all (λ x. t (part x)) xs
all-part t part [] = refl
all-part t part (x ∷ xs) = ap (λ b. t (part x) && b) (all-part t part xs)

pub noted-part : (l : List (ℕ × ℕ)) (as_ : List Tyvar) → map (λ (a : Tyvar). is_some (lookup (nat_eq a.name) l)) as_ ≡ map (λ (a : Tyvar). is_in nat_eq a.name (names_in l)) as_
noted-part l [] = refl
noted-part l (a ∷ as_) = ap₂ (λ b bs. b ∷ bs) (sym (is-noted l a.name)) (noted-part l as_)
