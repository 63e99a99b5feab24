-- Loops that read abbreviations.
use Rattle.std.proofs.Common.{◌≡◌, ◌<◌, ◌≤◌, ◌+◌, ◌-◌, ℕ, zero, suc, Bool, true, false, cond, List, [], ◌∷◌, ◌++◌, map, length, drop, get_or, nat_eq, None, refl, sym, ap, ◌∙◌, append_assoc, arith}
use Rattle.std.specs.Map.{lookup}
use Rattle.std.proofs.lemmas.List.{append-nil, map-append}
use Rattle.sml_tree.specs.Terminal as term
use Rattle.sml_tree.specs.TreeOf.{type_bind_of}
use Rattle.sml_tree.specs.declared.tree.TypeBind.{TypeBind}
use Rattle.restrictions.specs.Written.{chosen, chosen_all, index_from, number_in, used_at}
use Rattle.restrictions.specs.declared.written.Abbreviations.{Abbreviations}
use Rattle.restrictions.specs.declared.written.Mark.{Mark}
use Rattle.restrictions.proofs.Standing.{drop-all, drop-at}

module _ {A B C : Type 0} (f : A → B) (g : C → B) where
  pub pushed-next : (xs : List A) (i : ℕ) (x : A) (now new : List C) (v : C) (all : List B) → i < length xs → x ≡ get_or xs i x → map g now ++ map f (drop i xs) ≡ all → new ≡ now ++ v ∷ []
      → g v ≡ f x → map g new ++ map f (drop (i + 1) xs) ≡ all
  pushed-next xs i x now new v all lt e h q s =
      ap (λ l. map g l ++ map f (drop (i + 1) xs)) q ∙ ap (λ l. l ++ map f (drop (i + 1) xs)) (map-append g now (v ∷ [])) ∙ append_assoc (map g now) (g v ∷ []) (map f (drop (i + 1) xs))
      ∙ ap (λ z. map g now ++ z ∷ map f (drop (i + 1) xs)) s ∙ ap (λ l. map g now ++ map f l) (sym (drop-at xs i x lt e)) ∙ h

  pub pushed-last : (xs : List A) (i : ℕ) (now : List C) (all : List B) → length xs ≤ i → map g now ++ map f (drop i xs) ≡ all → map g now ≡ all
  pushed-last xs i now all le h = sym (append-nil (map g now)) ∙ ap (λ l. map g now ++ map f l) (sym (drop-all xs i le)) ∙ h

pub map-twice : {A B C : Type 0} (f : B → C) (g : A → B) (xs : List A) → map (λ x. f (g x)) xs ≡ map f (map g xs)
map-twice f g [] = refl
map-twice f g (x ∷ xs) = ap (λ l. f (g x) ∷ l) (map-twice f g xs)

-- names from a place on

pub record Indexed (binds : List TypeBind) (i : ℕ) (old now : List (ℕ × ℕ)) : Type 0 where
  pub most : i ≤ length binds
  pub are : now ≡ index_from i (map type_bind_of (drop i binds)) ++ old

pub indexed-first : (binds : List TypeBind) (i : ℕ) (old : List (ℕ × ℕ)) → i ≡ length binds → Indexed binds i old old
indexed-first binds i old e = record { most = omega (arith, e); are = ap (λ l. index_from i (map type_bind_of l) ++ old) (sym (drop-all binds i (omega (arith, e)))) }

pub indexed-next : (binds : List TypeBind) (i : ℕ) (b : TypeBind) (old now new : List (ℕ × ℕ)) → Indexed binds i old now → 0 < i → b ≡ get_or binds (i - 1) b → new ≡ (b.tycon, i - 1) ∷ now
    → Indexed binds (i - 1) old new
indexed-next binds i b old now new h pos e q =
    let m = h.most in
    let up : (i - 1) + 1 ≡ i = omega (arith, pos) in
    record {
      most = omega (arith, m);
      are =
          q ∙ ap (λ l. (b.tycon, i - 1) ∷ l) h.are ∙ ap (λ n. (b.tycon, i - 1) ∷ (index_from n (map type_bind_of (drop n binds)) ++ old)) (sym up)
          ∙ ap (λ l. index_from (i - 1) (map type_bind_of l) ++ old) (sym (drop-at binds (i - 1) b (omega (arith, m, pos)) e));
    }

pub indexed-last : (binds : List TypeBind) (i : ℕ) (old now : List (ℕ × ℕ)) → Indexed binds i old now → i ≤ 0 → now ≡ index_from 0 (map type_bind_of binds) ++ old
indexed-last binds i old now h le = let z : i ≡ 0 = omega (arith, le) in h.are ∙ ap (λ n. index_from n (map type_bind_of (drop n binds)) ++ old) z

-- qualifiers

abbrev behind : List ℕ → ℕ → term.LongId
behind qs x = record { qualifiers = qs; id = x }

pub no-qualifier : (w : Abbreviations) (c : term.LongId) → length c.qualifiers ≡ 0 → lookup (nat_eq c.id) w.index ≡ number_in w c
no-qualifier w c e = by c.qualifiers e
  where
    by : (qs : List ℕ) → length qs ≡ 0 → lookup (nat_eq c.id) w.index ≡ number_in w (behind qs c.id)
    by [] e = refl
    by (q ∷ qs) e = absurd (omega (arith, e))

pub some-qualifier : (w : Abbreviations) (c : term.LongId) → 0 < length c.qualifiers → None ≡ number_in w c
some-qualifier w c lt = by c.qualifiers lt
  where
    by : (qs : List ℕ) → 0 < length qs → None ≡ number_in w (behind qs c.id)
    by [] lt = absurd (omega (arith, lt))
    by (q ∷ qs) lt = refl

-- the parameters of a number

pub read-bool : (xs : List Bool) (i : ℕ) (a b : Bool) → i < length xs → get_or xs i a ≡ get_or xs i b
read-bool [] i a b lt = absurd (omega (arith, lt))
read-bool (x ∷ xs) zero a b lt = refl
read-bool (x ∷ xs) (suc i) a b lt = read-bool xs i a b (omega (arith, lt))

beyond : {A B : Type 0} (f : A → List B) (xs : List A) (n : ℕ) → length xs ≤ n → get_or (map f xs) n [] ≡ []
beyond f [] n le = refl
beyond f (x ∷ xs) zero le = absurd (omega (arith, le))
beyond f (x ∷ xs) (suc n) le = beyond f xs n (omega (arith, le))

pub used-beyond : (w : Abbreviations) (n : ℕ) (ms : List (List Mark)) → length w.used.items ≤ n → chosen_all (used_at w n) ms ≡ []
used-beyond w n ms le = ap (λ l. chosen_all l ms) (beyond (λ u. u.items) w.used.items n le) ∙ by (nat_eq 0 (length ms))
  where
    by : (b : Bool) → cond b (chosen [] ms) [] ≡ []
    by true = refl
    by false = refl

pub within-at : {A B : Type 0} (f : A → List B) (xs : List A) (n : ℕ) (x : A) → n < length xs → x ≡ get_or xs n x → get_or (map f xs) n [] ≡ f x
within-at f [] n x lt e = absurd (omega (arith, lt))
within-at f (y ∷ xs) zero x lt e = ap f (sym e)
within-at f (y ∷ xs) (suc n) x lt e = within-at f xs n x (omega (arith, lt)) e
