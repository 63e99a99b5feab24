-- Variables that get numbers and lose them.
use Rattle.std.proofs.Common.{◌≡◌, ℕ, suc, ◌+◌, ◌-◌, ◌<◌, ◌≤◌, Bool, true, false, List, [], ◌∷◌, ◌++◌, length, reverse, drop, Option, Some, option_to_list, nat_eq, if◌then◌else◌, refl, sym, ap, ◌∙◌, subst, arith}
use Rattle.std.proofs.lemmas.Bool.{eqb-true, eq-eqb}
use Rattle.std.proofs.lemmas.List.{reverse-append, length-drop, drop-drop}
use Rattle.std.specs.Map.{lookup}
use Rattle.match_names.specs.Bindings.{names_of, bindings, number_or_none, IsCurrent}
use Rattle.match_names.specs.declared.names.Bound.{Bound}

pub same-either-way : (a b : ℕ) → nat_eq a b ≡ nat_eq b a
same-either-way a b = go (nat_eq a b) (nat_eq b a) refl refl
  where
    go : (p q : Bool) → nat_eq a b ≡ p → nat_eq b a ≡ q → p ≡ q
    go true true e f = refl
    go false false e f = refl
    go true false e f = absurd (let g : nat_eq b a ≡ true = eq-eqb b a (sym (eqb-true a b e)) in cc)
    go false true e f = absurd (let g : nat_eq a b ≡ true = eq-eqb a b (sym (eqb-true b a f)) in cc)

-- a map with one more number
put-number : (b x k : ℕ) (o : Option ℕ) → number_or_none (if nat_eq b x then Some k else o) ≡ (if nat_eq x b then k else number_or_none o)
put-number b x k o = ap (λ c. number_or_none (if c then Some k else o)) (same-either-way b x) ∙ go (nat_eq x b)
  where
    go : (c : Bool) → number_or_none (if c then Some k else o) ≡ (if c then k else number_or_none o)
    go true = refl
    go false = refl

pub more-current : (entries new : List (ℕ × ℕ)) (bound : List Bound) (b : Bound) → IsCurrent entries bound → b.before ≡ names_of (bindings bound) b.variable
    → ((x : ℕ) → lookup (nat_eq x) new ≡ (if nat_eq b.variable x then Some b.number else lookup (nat_eq x) entries)) → IsCurrent new (b ∷ bound)
more-current entries new bound b c before put = record {
  numbers = λ x.
      ap number_or_none (put x) ∙ put-number b.variable x b.number (lookup (nat_eq x) entries) ∙ ap (λ k. if nat_eq x b.variable then b.number else k) (c.numbers x);
  trail = (before, c.trail);
}

pub less-current : (entries new : List (ℕ × ℕ)) (bound : List Bound) (b : Bound) → IsCurrent entries (b ∷ bound)
    → ((x : ℕ) → lookup (nat_eq x) new ≡ (if nat_eq b.variable x then Some b.before else lookup (nat_eq x) entries)) → IsCurrent new bound
less-current entries new bound b c put = record {
  numbers = λ x. ap number_or_none (put x) ∙ put-number b.variable x b.before (lookup (nat_eq x) entries) ∙ go x (nat_eq x b.variable) refl;
  trail = c.trail.1;
}
  where
    go : (x : ℕ) (a : Bool) → nat_eq x b.variable ≡ a → (if nat_eq x b.variable then b.before else number_or_none (lookup (nat_eq x) entries)) ≡ names_of (bindings bound) x
    go x true e = ap (λ a. if a then b.before else number_or_none (lookup (nat_eq x) entries)) e ∙ c.trail.0 ∙ ap (names_of (bindings bound)) (sym (eqb-true x b.variable e))
    go x false e =
        ap (λ a. if a then b.before else number_or_none (lookup (nat_eq x) entries)) e ∙ c.numbers x ∙ ap (λ a. if a then b.number else names_of (bindings bound) x) e

pub reverse-more : (bs : List Bound) (b : Bound) → reverse (bs ++ b ∷ []) ≡ b ∷ reverse bs
reverse-more bs b = reverse-append bs (b ∷ [])

pub length-bindings : (bs : List Bound) → length (bindings bs) ≡ length bs
length-bindings [] = refl
length-bindings (b ∷ bs) = ap suc (length-bindings bs)

-- the number that was found
pub found-number : (entries : List (ℕ × ℕ)) (bound : List Bound) (x : ℕ) (o : Option ℕ) → IsCurrent entries bound → o ≡ lookup (nat_eq x) entries → number_or_none o ≡ names_of (bindings bound) x
found-number entries bound x o c e = ap number_or_none e ∙ c.numbers x

-- with one more at the end
pub current-pushed : (entries new : List (ℕ × ℕ)) (bs cs : List Bound) (b : Bound) → IsCurrent entries (reverse bs) → b.before ≡ names_of (bindings (reverse bs)) b.variable
    → ((x : ℕ) → lookup (nat_eq x) new ≡ (if nat_eq b.variable x then Some b.number else lookup (nat_eq x) entries)) → cs ≡ bs ++ b ∷ [] → IsCurrent new (reverse cs)
current-pushed entries new bs cs b c before put e = subst (IsCurrent new) (sym (ap reverse e ∙ reverse-more bs b)) (more-current entries new (reverse bs) b c before put)

-- without the last
pub current-popped : (entries new : List (ℕ × ℕ)) (bs cs : List Bound) (b : Bound) → IsCurrent entries (reverse cs)
    → ((x : ℕ) → lookup (nat_eq x) new ≡ (if nat_eq b.variable x then Some b.before else lookup (nat_eq x) entries)) → cs ≡ bs ++ b ∷ [] → IsCurrent new (reverse bs)
current-popped entries new bs cs b c put e = less-current entries new (reverse bs) b (subst (IsCurrent entries) (ap reverse e ∙ reverse-more bs b) c) put

pub bindings-pushed : (bs cs : List Bound) (b : Bound) → cs ≡ bs ++ b ∷ [] → bindings (reverse cs) ≡ (b.variable, b.number) ∷ bindings (reverse bs)
bindings-pushed bs cs b e = ap (λ l. bindings (reverse l)) e ∙ ap bindings (reverse-more bs b)

pub last-popped : (bs cs : List Bound) (b : Bound) (r : Option Bound) → cs ≡ bs ++ option_to_list r → r ≡ Some b → cs ≡ bs ++ b ∷ []
last-popped bs cs b r e h = e ∙ ap (λ o. bs ++ option_to_list o) h

module _ {A : Type 0} where
  pub shorter : (l m : List A) → m ≡ drop 1 l → length m ≡ length l - 1
  shorter l m e = ap length e ∙ length-drop 1 l

  pub step-back : (all l m : List A) → l ≡ drop (length all - length l) all → length l ≤ length all → 0 < length l → m ≡ drop 1 l → m ≡ drop (length all - length m) all
  step-back all l m e le lt h =
      h ∙ ap (drop 1) e ∙ drop-drop 1 (length all - length l) all ∙ ap (λ n. drop n all) (let k = shorter l m h in omega arith)
