-- The types of nodes, one after the other.
use Rattle.std.proofs.Common.{◌≡◌, ℕ, zero, suc, ◌+◌, ◌<◌, ◌≤◌, List, [], ◌∷◌, ◌++◌, length, get_or, take, refl, sym, ap, ap₂, subst, ◌∙◌, arith, append_assoc}
use Rattle.ty_core.specs.Types.{Symbol, arrow, Typ, var, con, more}
use Rattle.ty_table.specs.TypeAt.{type_at, types_at, AllBelow}
use Rattle.ty_table.specs.Nodes.{symbol_at, type_in, built, IsNode, InOrder}

-- an item of the first of two lists
pub first_of_two : {A : Type 0} (d : A) (xs ys : List A) (k : ℕ) → k < length xs → get_or (xs ++ ys) k d ≡ get_or xs k d
first_of_two d [] ys k h = absurd (omega arith)
first_of_two d (x ∷ xs) ys zero h = refl
first_of_two d (x ∷ xs) ys (suc k) h = first_of_two d xs ys k (omega arith)

-- the item between two lists
pub between : {A : Type 0} (d x : A) (xs ys : List A) → get_or (xs ++ x ∷ ys) (length xs) d ≡ x
between d x [] ys = refl
between d x (y ∷ xs) ys = between d x xs ys

pub take_front : {A : Type 0} (xs ys : List A) → take (length xs) (xs ++ ys) ≡ xs
take_front [] ys = refl
take_front (x ∷ xs) ys = ap (λ l. x ∷ l) (take_front xs ys)

pub length-snoc : {A : Type 0} (xs : List A) (x : A) → length (xs ++ x ∷ []) ≡ suc (length xs)
length-snoc [] x = refl
length-snoc (y ∷ xs) x = ap suc (length-snoc xs x)

pub below-more : (m n : ℕ) (l : List ℕ) → m ≤ n → AllBelow m l → AllBelow n l
below-more m n [] h a = tt
below-more m n (k ∷ l) h a = (let lt = a.0 in omega arith, below-more m n l h a.1)

pub node-more : (j m k n : ℕ) (x : List ℕ) → j ≤ m → k ≤ n → IsNode j k x → IsNode m n x
node-more j m k n [] p q a = a
node-more j m k n (zero ∷ l) p q a = a
node-more j m k n (suc s ∷ l) p q a = (let lt = a.0 in omega arith, below-more k n l q a.1)

types_at-append : (ts us : List Typ) (l : List ℕ) → AllBelow (length ts) l → types_at (ts ++ us) l ≡ types_at ts l
types_at-append ts us [] a = refl
types_at-append ts us (k ∷ l) a = ap₂ more (first_of_two (var 0) ts us k a.0) (types_at-append ts us l a.1)

pub type_in-append : (m : ℕ) (ss : List Symbol) (ts us : List Typ) (x : List ℕ) → IsNode m (length ts) x → type_in ss (ts ++ us) x ≡ type_in ss ts x
type_in-append m ss ts us [] a = refl
type_in-append m ss ts us (zero ∷ []) a = refl
type_in-append m ss ts us (zero ∷ v ∷ l) a = refl
type_in-append m ss ts us (suc s ∷ l) a = ap (con (symbol_at ss s)) (types_at-append ts us l a.1)

pub type_in-symbols : (n : ℕ) (ss rs : List Symbol) (ts : List Typ) (x : List ℕ) → IsNode (length ss) n x → type_in (ss ++ rs) ts x ≡ type_in ss ts x
type_in-symbols n ss rs ts [] a = refl
type_in-symbols n ss rs ts (zero ∷ []) a = refl
type_in-symbols n ss rs ts (zero ∷ v ∷ l) a = refl
type_in-symbols n ss rs ts (suc s ∷ l) a = ap (λ h. con h (types_at ts l)) (first_of_two arrow ss rs s a.0)

pub built-snoc : (ss : List Symbol) (ts : List Typ) (l : List (List ℕ)) (x : List ℕ) → built ss ts (l ++ x ∷ []) ≡ built ss ts l ++ type_in ss (built ss ts l) x ∷ []
built-snoc ss ts [] x = refl
built-snoc ss ts (y ∷ l) x = built-snoc ss (ts ++ type_in ss ts y ∷ []) l x

pub built-length : (ss : List Symbol) (ts : List Typ) (l : List (List ℕ)) → length (built ss ts l) ≡ length ts + length l
built-length ss ts [] = omega arith
built-length ss ts (y ∷ l) = let e = built-length ss (ts ++ type_in ss ts y ∷ []) l in let f = length-snoc ts (type_in ss ts y) in omega arith

-- the types come after ts
pub record Begins (us ts : List Typ) : Type 0 where
  pub rest : List Typ
  pub is : us ≡ ts ++ rest

begins : (ss : List Symbol) (ts : List Typ) (l : List (List ℕ)) → Begins (built ss ts l) ts
begins ss ts [] = record { rest = []; is = go ts }
  where
    go : (ts : List Typ) → ts ≡ ts ++ []
    go [] = refl
    go (t ∷ ts) = ap (λ l. t ∷ l) (go ts)
begins ss ts (x ∷ l) =
    let b = begins ss (ts ++ type_in ss ts x ∷ []) l in
    record { rest = type_in ss ts x ∷ b.rest; is = b.is ∙ append_assoc ts (type_in ss ts x ∷ []) b.rest }

pub in_order-at : (m n : ℕ) (l : List (List ℕ)) (k : ℕ) → InOrder m n l → k < length l → IsNode m (n + k) (get_or l k [])
in_order-at m n [] k h lt = absurd (omega arith)
in_order-at m n (x ∷ l) zero h lt = node-more m m n (n + 0) x (omega arith) (omega arith) h.0
in_order-at m n (x ∷ l) (suc k) h lt = node-more m m (suc n + k) (n + suc k) (get_or l k []) (omega arith) (omega arith) (in_order-at m (suc n) l k h.1 (omega arith))

pub in_order-snoc : (m n : ℕ) (l : List (List ℕ)) (x : List ℕ) → InOrder m n l → IsNode m (n + length l) x → InOrder m n (l ++ x ∷ [])
in_order-snoc m n [] x h a = (node-more m m (n + 0) n x (omega arith) (omega arith) a, tt)
in_order-snoc m n (y ∷ l) x h a = (h.0, in_order-snoc m (suc n) l x h.1 (node-more m m (n + suc (length l)) (suc n + length l) x (omega arith) (omega arith) a))

pub in_order-more : (j m n : ℕ) (l : List (List ℕ)) → j ≤ m → InOrder j n l → InOrder m n l
in_order-more j m n [] p h = tt
in_order-more j m n (x ∷ l) p h = (node-more j m n n x p (omega arith) h.0, in_order-more j m (suc n) l p h.1)

pub built-symbols : (ss rs : List Symbol) (n : ℕ) (ts : List Typ) (l : List (List ℕ)) → InOrder (length ss) n l → built (ss ++ rs) ts l ≡ built ss ts l
built-symbols ss rs n ts [] h = refl
built-symbols ss rs n ts (x ∷ l) h =
    ap (λ t. built (ss ++ rs) (ts ++ t ∷ []) l) (type_in-symbols n ss rs ts x h.0) ∙ built-symbols ss rs (suc n) (ts ++ type_in ss ts x ∷ []) l h.1

-- the type of a number is that of its node
pub built-at : (m : ℕ) (ss : List Symbol) (ts : List Typ) (l : List (List ℕ)) (k : ℕ) → InOrder m (length ts) l → k < length l → type_at (built ss ts l) (length ts + k) ≡ type_in ss (built ss ts l) (get_or l k [])
built-at m ss ts [] k h lt = absurd (omega arith)
built-at m ss ts (x ∷ l) zero h lt =
    let b = begins ss ts (x ∷ l) in
    let t = type_in ss ts x in
    let c = begins ss (ts ++ t ∷ []) l in
    let e : built ss ts (x ∷ l) ≡ ts ++ t ∷ c.rest = c.is ∙ append_assoc ts (t ∷ []) c.rest in
    ap (type_at (built ss ts (x ∷ l))) (let p : length ts + 0 ≡ length ts = omega arith in p) ∙ ap (λ us. type_at us (length ts)) e ∙ between (var 0) t ts c.rest ∙ sym (type_in-append m ss ts (t ∷ c.rest) x h.0) ∙ ap (λ us. type_in ss us x) (sym e)
built-at m ss ts (x ∷ l) (suc k) h lt =
    let us = ts ++ type_in ss ts x ∷ [] in
    let e : length us ≡ suc (length ts) = length-snoc ts (type_in ss ts x) in
    let p : length ts + suc k ≡ length us + k = omega arith in
    ap (type_at (built ss us l)) p ∙ built-at m ss us l k (subst (λ n. InOrder m n l) (sym e) h.1) (omega arith)
