-- What is known in scope, what is bound in the same function, and the variables of both.
use Rattle.std.proofs.Common.{◌≡◌, ℕ, Bool, true, false, List, [], ◌∷◌, map, Option, Some, None, nat_eq, cond, refl, sym, ap, ◌∙◌, subst}
use Rattle.std.proofs.lemmas.Bool.{eqb-true, eq-eqb}
use Rattle.ir_plain.specs.Tree.{Funs, no_funs, fun, Fun}
use Rattle.ir_plain.specs.Scoped.{IsAmong, among_here, among_there, group_onto}
use Rattle.ir_plain.specs.Unique.{IsOutside, outside_none, outside_more, funs_onto}
use Rattle.ir_poly.specs.Tests.{Use, inst, poly}
use Rattle.ir_poly.specs.TestsChecked.{Known, Knowns, at, group_knowns}
use Rattle.ty_core.specs.Types.{Typ}

abbrev pub keys : Knowns → List ℕ
keys = map (λ g. g.0)

-- what is bound in the same function is in scope
abbrev pub Within : Knowns → Knowns → Type 0
Within L G = (x : ℕ) (k : Known) → at L x ≡ Some k → at G x ≡ Some k

pub within-none : (G : Knowns) → Within [] G
within-none G x k e = absurd (cc)

pub within-more : (L G : Knowns) (y : ℕ) (j : Known) → Within L G → Within ((y, j) ∷ L) ((y, j) ∷ G)
within-more L G y j w x k = by (nat_eq x y) (w x k)
  where
    by : (b : Bool) → (at L x ≡ Some k → at G x ≡ Some k) → cond b (Some j) (at L x) ≡ Some k → cond b (Some j) (at G x) ≡ Some k
    by true rest e = e
    by false rest e = rest e

pub within-group : (f : Typ → Known) (fs : Funs poly) (L G : Knowns) → Within L G → Within (group_knowns f fs L) (group_knowns f fs G)
within-group f no_funs L G w = w
within-group f (fun x t g fs) L G w = within-more (group_knowns f fs L) (group_knowns f fs G) x (f t) (within-group f fs L G w)

nat_eq-same : (x : ℕ) → nat_eq x x ≡ true
nat_eq-same x = eq-eqb x x refl

pub nat_eq-turned : (x y : ℕ) (b : Bool) → nat_eq x y ≡ b → nat_eq y x ≡ b
nat_eq-turned x y true e = subst (λ z. nat_eq z x ≡ true) (eqb-true x y e) (nat_eq-same x)
nat_eq-turned x y false e = by (nat_eq y x) refl
  where
    by : (c : Bool) → nat_eq y x ≡ c → c ≡ false
    by false d = refl
    by true d = absurd (let same : nat_eq x y ≡ true = subst (λ z. nat_eq z y ≡ true) (eqb-true y x d) (nat_eq-same y) in cc)

-- a variable that is known is among those of the list, and the other way round
pub known-among : (L : Knowns) (x : ℕ) (ts : List Typ) (k : Known) → at L x ≡ Some k → IsAmong poly (inst x ts) (keys L)
known-among [] x ts k e = absurd (cc)
known-among ((y, j) ∷ L) x ts k e = by (nat_eq x y) refl (known-among L x ts k) e
  where
    by : (b : Bool) → nat_eq x y ≡ b → (at L x ≡ Some k → IsAmong poly (inst x ts) (keys L)) → cond b (Some j) (at L x) ≡ Some k → IsAmong poly (inst x ts) (y ∷ keys L)
    by true same rest e = among_here same
    by false same rest e = among_there (rest e)

pub among-known : (L : Knowns) (x : ℕ) (ts : List Typ) → IsAmong poly (inst x ts) (keys L) → (k : Known) × (at L x ≡ Some k)
among-known [] x ts a = elim a [ ]
among-known ((y, j) ∷ L) x ts a = by (nat_eq x y) refl (among-known L x ts) a
  where
    by : (b : Bool) → nat_eq x y ≡ b → (IsAmong poly (inst x ts) (keys L) → (k : Known) × (at L x ≡ Some k)) → IsAmong poly (inst x ts) (y ∷ keys L)
        → (k : Known) × (cond b (Some j) (at L x) ≡ Some k)
    by true same rest a = (j, refl)
    by false same rest (among_here e) = absurd (cc)
    by false same rest (among_there a) = rest a

some-is : {A : Type 0} {a b : A} → Some a ≡ Some b → a ≡ b
some-is e = cc

-- what is known of an atom is known of it in its own function
pub among-within : (L G : Knowns) (x : ℕ) (ts : List Typ) (k : Known) → Within L G → IsAmong poly (inst x ts) (keys L) → at G x ≡ Some k → at L x ≡ Some k
among-within L G x ts k w a e = by (among-known L x ts a)
  where
    by : (j : Known) × (at L x ≡ Some j) → at L x ≡ Some k
    by (j, d) = d ∙ sym (w x j d) ∙ e

-- outside the variables is unknown
pub outside-unknown : (G : Knowns) (x : ℕ) → IsOutside x (keys G) → at G x ≡ None
outside-unknown [] x o = refl
outside-unknown ((y, j) ∷ G) x (outside_more d o) = by (nat_eq x y) (nat_eq-turned y x false d) (outside-unknown G x o)
  where
    by : (b : Bool) → b ≡ false → at G x ≡ None → cond b (Some j) (at G x) ≡ None
    by false d e = e
    by true d e = absurd (cc)

pub unknown-outside : (G : Knowns) (x : ℕ) → at G x ≡ None → IsOutside x (keys G)
unknown-outside [] x e = outside_none
unknown-outside ((y, j) ∷ G) x e = by (nat_eq x y) refl (unknown-outside G x) e
  where
    by : (b : Bool) → nat_eq x y ≡ b → (at G x ≡ None → IsOutside x (keys G)) → cond b (Some j) (at G x) ≡ None → IsOutside x (y ∷ keys G)
    by true d rest e = absurd (cc)
    by false d rest e = outside_more (nat_eq-turned x y false d) (rest e)

-- the variables of a group in front
pub group-scoped : (f : Typ → Known) (fs : Funs poly) (L : Knowns) → keys (group_knowns f fs L) ≡ group_onto poly fs (keys L)
group-scoped f no_funs L = refl
group-scoped f (fun x t g fs) L = ap (λ xs. x ∷ xs) (group-scoped f fs L)

pub group-unique : (f : Typ → Known) (fs : Funs poly) (G : Knowns) → keys (group_knowns f fs G) ≡ funs_onto (λ x. x) fs (keys G)
group-unique f no_funs G = refl
group-unique f (fun x t g fs) G = ap (λ xs. x ∷ xs) (group-unique f fs G)
