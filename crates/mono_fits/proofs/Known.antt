-- What is in scope, what is bound in the same function, and the variables of both.
use Rattle.std.proofs.Common.{◌≡◌, ℕ, Bool, true, false, List, [], ◌∷◌, map, Option, Some, None, nat_eq, cond, refl, sym, ap, ◌∙◌, subst}
use Rattle.std.proofs.lemmas.Bool.{eqb-true, eq-eqb}
use Rattle.ir_plain.specs.Tree.{Funs, no_funs, fun, Fun}
use Rattle.ir_plain.specs.Scoped.{IsAmong, among_here, among_there, group_onto}
use Rattle.ir_plain.specs.Unique.{IsOutside, outside_none, outside_more, funs_onto}
use Rattle.ir_mono.specs.Types.{Row}
use Rattle.ir_mono.specs.Mono.{mono}
use Rattle.ir_mono.specs.Typing.{Sort, of_type, Sorts, sort_of, group_sorts}
use Rattle.mono_fits.specs.Fits.{is_none, is_new}

abbrev pub keys : Sorts → List ℕ
keys = map (λ g. g.0)

-- what is bound in the same function is in scope
abbrev pub Within : Sorts → Sorts → Type 0
Within L G = (x : ℕ) (k : Sort) → sort_of L x ≡ Some k → sort_of G x ≡ Some k

pub within-none : (G : Sorts) → Within [] G
within-none G x k e = absurd (cc)

pub within-more : (L G : Sorts) (y : ℕ) (j : Sort) → Within L G → Within ((y, j) ∷ L) ((y, j) ∷ G)
within-more L G y j w x k = by (nat_eq x y) (w x k)
  where
    by : (b : Bool) → (sort_of L x ≡ Some k → sort_of G x ≡ Some k) → cond b (Some j) (sort_of L x) ≡ Some k → cond b (Some j) (sort_of G x) ≡ Some k
    by true rest e = e
    by false rest e = rest e

nat_eq-same : (x : ℕ) → nat_eq x x ≡ true
nat_eq-same x = eq-eqb x x refl

nat_eq-turned : (x y : ℕ) (b : Bool) → nat_eq x y ≡ b → nat_eq y x ≡ b
nat_eq-turned x y true e = subst (λ z. nat_eq z x ≡ true) (eqb-true x y e) (nat_eq-same x)
nat_eq-turned x y false e = by (nat_eq y x) refl
  where
    by : (c : Bool) → nat_eq y x ≡ c → c ≡ false
    by false d = refl
    by true d = absurd (let same : nat_eq x y ≡ true = subst (λ z. nat_eq z y ≡ true) (eqb-true y x d) (nat_eq-same y) in cc)

some-is : {A : Type 0} {a b : A} → Some a ≡ Some b → a ≡ b
some-is e = cc

-- outside the variables is unknown
pub outside-unknown : (G : Sorts) (x : ℕ) → IsOutside x (keys G) → sort_of G x ≡ None
outside-unknown [] x o = refl
outside-unknown ((y, j) ∷ G) x (outside_more d o) = by (nat_eq x y) (nat_eq-turned y x false d) (outside-unknown G x o)
  where
    by : (b : Bool) → b ≡ false → sort_of G x ≡ None → cond b (Some j) (sort_of G x) ≡ None
    by false d e = e
    by true d e = absurd (cc)

pub unknown-outside : (G : Sorts) (x : ℕ) → sort_of G x ≡ None → IsOutside x (keys G)
unknown-outside [] x e = outside_none
unknown-outside ((y, j) ∷ G) x e = by (nat_eq x y) refl (unknown-outside G x) e
  where
    by : (b : Bool) → nat_eq x y ≡ b → (sort_of G x ≡ None → IsOutside x (keys G)) → cond b (Some j) (sort_of G x) ≡ None → IsOutside x (y ∷ keys G)
    by true d rest e = absurd (cc)
    by false d rest e = outside_more (nat_eq-turned x y false d) (rest e)

none-is : (o : Option Sort) → is_none o ≡ true → o ≡ None
none-is None e = refl
none-is (Some s) e = absurd (cc)

pub new-outside : (G : Sorts) (x : ℕ) → is_new G x ≡ true → IsOutside x (keys G)
new-outside G x e = unknown-outside G x (none-is (sort_of G x) e)

pub outside-new : (G : Sorts) (x : ℕ) → IsOutside x (keys G) → is_new G x ≡ true
outside-new G x o = ap is_none (outside-unknown G x o)

module _ (types : List Row) where
  pub within-group : (fs : Funs (mono types)) (L G : Sorts) → Within L G → Within (group_sorts types fs L) (group_sorts types fs G)
  within-group no_funs L G w = w
  within-group (fun x t g fs) L G w = within-more (group_sorts types fs L) (group_sorts types fs G) x (of_type t) (within-group fs L G w)

  -- a variable that is known is among those of the list, and the other way round
  pub known-among : (L : Sorts) (x : ℕ) (k : Sort) → sort_of L x ≡ Some k → IsAmong (mono types) x (keys L)
  known-among [] x k e = absurd (cc)
  known-among ((y, j) ∷ L) x k e = by (nat_eq x y) refl (known-among L x k) e
    where
      by : (b : Bool) → nat_eq x y ≡ b → (sort_of L x ≡ Some k → IsAmong (mono types) x (keys L)) → cond b (Some j) (sort_of L x) ≡ Some k → IsAmong (mono types) x (y ∷ keys L)
      by true same rest e = among_here same
      by false same rest e = among_there (rest e)

  among-known : (L : Sorts) (x : ℕ) → IsAmong (mono types) x (keys L) → (k : Sort) × (sort_of L x ≡ Some k)
  among-known [] x a = elim a [ ]
  among-known ((y, j) ∷ L) x a = by (nat_eq x y) refl (among-known L x) a
    where
      by : (b : Bool) → nat_eq x y ≡ b → (IsAmong (mono types) x (keys L) → (k : Sort) × (sort_of L x ≡ Some k)) → IsAmong (mono types) x (y ∷ keys L)
          → (k : Sort) × (cond b (Some j) (sort_of L x) ≡ Some k)
      by true same rest a = (j, refl)
      by false same rest (among_here e) = absurd (cc)
      by false same rest (among_there a) = rest a

  -- what is known of an atom is known of it in its own function
  pub among-within : (L G : Sorts) (x : ℕ) (k : Sort) → Within L G → IsAmong (mono types) x (keys L) → sort_of G x ≡ Some k → sort_of L x ≡ Some k
  among-within L G x k w a e = by (among-known L x a)
    where
      by : (j : Sort) × (sort_of L x ≡ Some j) → sort_of L x ≡ Some k
      by (j, d) = d ∙ sym (w x j d) ∙ e

  -- the variables of a group in front
  pub group-scoped : (fs : Funs (mono types)) (L : Sorts) → keys (group_sorts types fs L) ≡ group_onto (mono types) fs (keys L)
  group-scoped no_funs L = refl
  group-scoped (fun x t g fs) L = ap (λ xs. x ∷ xs) (group-scoped fs L)

  pub group-unique : (fs : Funs (mono types)) (G : Sorts) → keys (group_sorts types fs G) ≡ funs_onto {F = mono types} (λ x. x) fs (keys G)
  group-unique no_funs G = refl
  group-unique (fun x t g fs) G = ap (λ xs. x ∷ xs) (group-unique fs G)
