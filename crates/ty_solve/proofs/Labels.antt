-- Labels, and the fields that they name.
use Rattle.std.proofs.Common.{◌≡◌, ◌<◌, ◌≤◌, ℕ, zero, suc, Bool, true, false, ◌||◌, List, [], ◌∷◌, ◌++◌, length, take, get_or, refl, sym, ap, ◌∙◌, subst, arith}
use Rattle.std.proofs.lemmas.Bool.{cases_eq, and_parts, and_from, false≢true}
use mathlib.Core.Logic.{◌⊎◌, inl, inr}
use Rattle.mlc_names.specs.declared.label.Label.{Label}
use Rattle.mlc_names.specs.declared.label.Label.TheVariants.{Number, Word}
use Rattle.ty_table.specs.of_ty_core.Types.{Typ, Typs, none, more, admits, all_admit}
use Rattle.ty_solve.specs.Rows.{Among, At, IsProper}
use Rattle.ty_solve.specs.Substitution.{sub, subs, is_below, are_below, is_in, are_in}
use Rattle.ty_solve.specs.Forces.{Beside}
use Rattle.ty_solve.proofs.Lists.{all}
use Rattle.ty_solve.proofs.Subs.{size, sizes}

abbrev number : Label → ℕ
number (Number n) = n
number (Word x) = x

same-label : (a b : Label) → (a ≡ b) ⊎ (a ≡ b → ⊥)
same-label (Number m) (Number n) = go (cases_eq m n)
  where
    go : (m ≡ n) ⊎ (m ≡ n → ⊥) → (Number m ≡ Number n) ⊎ (Number m ≡ Number n → ⊥)
    go (inl e) = inl (ap Number e)
    go (inr ne) = inr (λ e. ne (ap number e))
same-label (Number m) (Word x) = inr (λ e. cc)
same-label (Word x) (Number n) = inr (λ e. cc)
same-label (Word x) (Word y) = go (cases_eq x y)
  where
    go : (x ≡ y) ⊎ (x ≡ y → ⊥) → (Word x ≡ Word y) ⊎ (Word x ≡ Word y → ⊥)
    go (inl e) = inl (ap Word e)
    go (inr ne) = inr (λ e. ne (ap number e))

pub among-cases : (l : Label) (ks : List Label) → Among l ks ⊎ (Among l ks → ⊥)
among-cases l [] = inr (λ h. h)
among-cases l (k ∷ ks) = go (same-label l k) (among-cases l ks)
  where
    go : (l ≡ k) ⊎ (l ≡ k → ⊥) → Among l ks ⊎ (Among l ks → ⊥) → Among l (k ∷ ks) ⊎ (Among l (k ∷ ks) → ⊥)
    go (inl e) b = inl (inl e)
    go (inr ne) (inl a) = inl (inr a)
    go (inr ne) (inr na) = inr (λ h. either h)
      where
        either : (l ≡ k) ⊎ Among l ks → ⊥
        either (inl e) = ne e
        either (inr a) = na a

pub at-among : (l : Label) (t : Typ) (ks : List Label) (us : Typs) → At l t ks us → Among l ks
at-among l t [] us h = h
at-among l t (k ∷ ks) none h = absurd h
at-among l t (k ∷ ks) (more u us) (inl h) = inl h.0
at-among l t (k ∷ ks) (more u us) (inr h) = inr (at-among l t ks us h)

pub among-at : (l : Label) (ks : List Label) (us : Typs) → IsProper ks us → Among l ks → (t : Typ) × At l t ks us
among-at l [] us p h = absurd h
among-at l (k ∷ ks) none p h = absurd p
among-at l (k ∷ ks) (more u us) p (inl e) = (u, inl (e, refl))
among-at l (k ∷ ks) (more u us) p (inr h) = let q = among-at l ks us p.1 h in (q.0, inr q.1)

pub at-unique : (l : Label) (t u : Typ) (ks : List Label) (us : Typs) → IsProper ks us → At l t ks us → At l u ks us → t ≡ u
at-unique l t u [] us p a b = absurd a
at-unique l t u (k ∷ ks) none p a b = absurd a
at-unique l t u (k ∷ ks) (more x us) p (inl a) (inl b) = a.1 ∙ sym b.1
at-unique l t u (k ∷ ks) (more x us) p (inl a) (inr b) = absurd (p.0 (subst (λ j. Among j ks) a.0 (at-among l u ks us b)))
at-unique l t u (k ∷ ks) (more x us) p (inr a) (inl b) = absurd (p.0 (subst (λ j. Among j ks) b.0 (at-among l t ks us a)))
at-unique l t u (k ∷ ks) (more x us) p (inr a) (inr b) = at-unique l t u ks us p.1 a b

pub at-subs : (f : ℕ → Typ) (l : Label) (u : Typ) (ks : List Label) (us : Typs) → At l u ks us → At l (sub f u) ks (subs f us)
at-subs f l u [] us h = h
at-subs f l u (k ∷ ks) none h = h
at-subs f l u (k ∷ ks) (more x us) (inl h) = inl (h.0, ap (sub f) h.1)
at-subs f l u (k ∷ ks) (more x us) (inr h) = inr (at-subs f l u ks us h)

pub subs-at : (f : ℕ → Typ) (l : Label) (x : Typ) (ks : List Label) (us : Typs) → At l x ks (subs f us) → (u : Typ) × At l u ks us × (x ≡ sub f u)
subs-at f l x [] us h = absurd h
subs-at f l x (k ∷ ks) none h = absurd h
subs-at f l x (k ∷ ks) (more u us) (inl h) = (u, inl (h.0, refl), h.1)
subs-at f l x (k ∷ ks) (more u us) (inr h) = let q = subs-at f l x ks us h in (q.0, inr q.1, q.2)

pub proper-subs : (f : ℕ → Typ) (ks : List Label) (us : Typs) → IsProper ks us → IsProper ks (subs f us)
proper-subs f [] none p = p
proper-subs f [] (more u us) p = p
proper-subs f (k ∷ ks) none p = p
proper-subs f (k ∷ ks) (more u us) p = (p.0, proper-subs f ks us p.1)

pub at-below : (n : ℕ) (l : Label) (u : Typ) (ks : List Label) (us : Typs) → are_below n us ≡ true → At l u ks us → is_below n u ≡ true
at-below n l u [] us b h = absurd h
at-below n l u (k ∷ ks) none b h = absurd h
at-below n l u (k ∷ ks) (more x us) b (inl h) = ap (is_below n) h.1 ∙ (and_parts (is_below n x) (are_below n us) b).0
at-below n l u (k ∷ ks) (more x us) b (inr h) = at-below n l u ks us (and_parts (is_below n x) (are_below n us) b).1 h

pub at-admit : (m : ℕ → Bool) (l : Label) (u : Typ) (ks : List Label) (us : Typs) → all_admit m us ≡ true → At l u ks us → admits m u ≡ true
at-admit m l u [] us b h = absurd h
at-admit m l u (k ∷ ks) none b h = absurd h
at-admit m l u (k ∷ ks) (more x us) b (inl h) = ap (admits m) h.1 ∙ (and_parts (admits m x) (all_admit m us) b).0
at-admit m l u (k ∷ ks) (more x us) b (inr h) = at-admit m l u ks us (and_parts (admits m x) (all_admit m us) b).1 h

pub admit-at : (m : ℕ → Bool) (ks : List Label) (us : Typs) → IsProper ks us → ((l : Label) (u : Typ) → At l u ks us → admits m u ≡ true) → all_admit m us ≡ true
admit-at m [] none p h = refl
admit-at m [] (more u us) p h = absurd p
admit-at m (k ∷ ks) none p h = absurd p
admit-at m (k ∷ ks) (more u us) p h = and_from _ _ (h k u (inl (refl, refl))) (admit-at m ks us p.1 (λ l x a. h l x (inr a)))

pub at-size : (l : Label) (u : Typ) (ks : List Label) (us : Typs) → At l u ks us → size u ≤ sizes us
at-size l u [] us h = absurd h
at-size l u (k ∷ ks) none h = absurd h
at-size l u (k ∷ ks) (more x us) (inl h) = let p = ap size h.1 in omega arith
at-size l u (k ∷ ks) (more x us) (inr h) = let p = at-size l u ks us h in omega arith

-- a field in which v lies
pub field-in : (v : ℕ) (g : ℕ → Typ) (ks : List Label) (us : Typs) → IsProper ks us → are_in v (subs g us) ≡ true → (l : Label) × (u : Typ) × At l u ks us × (is_in v (sub g u) ≡ true)
field-in v g [] none p h = absurd (false≢true h)
field-in v g [] (more u us) p h = absurd p
field-in v g (k ∷ ks) none p h = absurd p
field-in v g (k ∷ ks) (more u us) p h = go (is_in v (sub g u)) refl h (field-in v g ks us p.1)
  where
    go : (b : Bool) → is_in v (sub g u) ≡ b → (b || are_in v (subs g us)) ≡ true → (are_in v (subs g us) ≡ true → (l : Label) × (x : Typ) × At l x ks us × (is_in v (sub g x) ≡ true)) → (l : Label) × (x : Typ) × At l x (k ∷ ks) (more u us) × (is_in v (sub g x) ≡ true)
    go true e i r = (k, u, inl (refl, refl), e)
    go false e i r = let q = r i in (q.0, q.1, inr q.2, q.3)

-- one more at the end
pub among-last : (l k : Label) (ks : List Label) → Among l (ks ++ k ∷ []) → Among l ks ⊎ (l ≡ k)
among-last l k [] (inl e) = inr e
among-last l k [] (inr h) = absurd h
among-last l k (j ∷ ks) (inl e) = inl (inl e)
among-last l k (j ∷ ks) (inr h) = go (among-last l k ks h)
  where
    go : Among l ks ⊎ (l ≡ k) → Among l (j ∷ ks) ⊎ (l ≡ k)
    go (inl a) = inl (inr a)
    go (inr e) = inr e

pub among-front : (l k : Label) (ks : List Label) → Among l ks → Among l (ks ++ k ∷ [])
among-front l k [] h = absurd h
among-front l k (j ∷ ks) (inl e) = inl e
among-front l k (j ∷ ks) (inr h) = inr (among-front l k ks h)

pub among-end : (k : Label) (ks : List Label) → Among k (ks ++ k ∷ [])
among-end k [] = inl refl
among-end k (j ∷ ks) = inr (among-end k ks)

pub at-last : (l k : Label) (t : Typ) (u : Typ) (ks : List Label) (us : List Typ) → length ks ≡ length us → At l t (ks ++ k ∷ []) (all (us ++ u ∷ [])) → At l t ks (all us) ⊎ ((l ≡ k) × (t ≡ u))
at-last l k t u [] [] n (inl h) = inr h
at-last l k t u [] [] n (inr h) = absurd h
at-last l k t u [] (x ∷ us) n h = cc
at-last l k t u (j ∷ ks) [] n h = cc
at-last l k t u (j ∷ ks) (x ∷ us) n (inl h) = inl (inl h)
at-last l k t u (j ∷ ks) (x ∷ us) n (inr h) = go (at-last l k t u ks us (omega arith) h)
  where
    go : At l t ks (all us) ⊎ ((l ≡ k) × (t ≡ u)) → At l t (j ∷ ks) (all (x ∷ us)) ⊎ ((l ≡ k) × (t ≡ u))
    go (inl a) = inl (inr a)
    go (inr e) = inr e

pub at-front : (l k : Label) (t : Typ) (u : Typ) (ks : List Label) (us : List Typ) → At l t ks (all us) → At l t (ks ++ k ∷ []) (all (us ++ u ∷ []))
at-front l k t u [] us h = absurd h
at-front l k t u (j ∷ ks) [] h = absurd h
at-front l k t u (j ∷ ks) (x ∷ us) (inl h) = inl h
at-front l k t u (j ∷ ks) (x ∷ us) (inr h) = inr (at-front l k t u ks us h)

pub at-end : (k : Label) (u : Typ) (ks : List Label) (us : List Typ) → length ks ≡ length us → At k u (ks ++ k ∷ []) (all (us ++ u ∷ []))
at-end k u [] [] n = inl (refl, refl)
at-end k u [] (x ∷ us) n = cc
at-end k u (j ∷ ks) [] n = cc
at-end k u (j ∷ ks) (x ∷ us) n = inr (at-end k u ks us (omega arith))

pub proper-last : (k : Label) (u : Typ) (ks : List Label) (us : List Typ) → IsProper ks (all us) → (Among k ks → ⊥) → IsProper (ks ++ k ∷ []) (all (us ++ u ∷ []))
proper-last k u [] [] p h = ((λ a. a), tt)
proper-last k u [] (x ∷ us) p h = absurd p
proper-last k u (j ∷ ks) [] p h = absurd p
proper-last k u (j ∷ ks) (x ∷ us) p h = ((λ a. go (among-last j k ks a)), proper-last k u ks us p.1 (λ a. h (inr a)))
  where
    go : Among j ks ⊎ (j ≡ k) → ⊥
    go (inl a) = p.0 a
    go (inr e) = h (inl (sym e))

pub proper-apart : (k : Label) (u : Typ) (ks : List Label) (us : List Typ) → IsProper (ks ++ k ∷ []) (all (us ++ u ∷ [])) → length ks ≡ length us → Among k ks → ⊥
proper-apart k u [] us p n h = h
proper-apart k u (j ∷ ks) [] p n h = cc
proper-apart k u (j ∷ ks) (x ∷ us) p n (inl e) = p.0 (subst (λ y. Among y (ks ++ k ∷ [])) e (among-end k ks))
proper-apart k u (j ∷ ks) (x ∷ us) p n (inr h) = proper-apart k u ks us p.1 (omega arith) h

pub proper-lengths : (ks : List Label) (us : List Typ) → IsProper ks (all us) → length ks ≡ length us
proper-lengths [] [] p = refl
proper-lengths [] (x ∷ us) p = absurd p
proper-lengths (k ∷ ks) [] p = absurd p
proper-lengths (k ∷ ks) (x ∷ us) p = ap suc (proper-lengths ks us p.1)

-- the first i
pub take-next : {X : Type 0} → (l : List X) (i : ℕ) (x : X) → i < length l → x ≡ get_or l i x → take (suc i) l ≡ take i l ++ x ∷ []
take-next [] i x lt e = absurd (omega arith)
take-next (y ∷ l) zero x lt e = ap (λ z. z ∷ []) (sym e)
take-next (y ∷ l) (suc i) x lt e = ap (λ z. y ∷ z) (take-next l i x (omega arith) e)

pub take-whole : {X : Type 0} → (l : List X) → take (length l) l ≡ l
take-whole [] = refl
take-whole (x ∷ l) = ap (λ z. x ∷ z) (take-whole l)

pub among-take : (l : Label) (i : ℕ) (ls : List Label) → Among l (take i ls) → Among l ls
among-take l zero ls h = absurd h
among-take l (suc i) [] h = absurd h
among-take l (suc i) (k ∷ ls) (inl e) = inl e
among-take l (suc i) (k ∷ ls) (inr h) = inr (among-take l i ls h)

pub proper-take : (i : ℕ) (ks : List Label) (us : List Typ) → IsProper ks (all us) → IsProper (take i ks) (all (take i us))
proper-take zero ks us p = tt
proper-take (suc i) [] [] p = tt
proper-take (suc i) [] (x ∷ us) p = absurd p
proper-take (suc i) (k ∷ ks) [] p = absurd p
proper-take (suc i) (k ∷ ks) (x ∷ us) p = ((λ h. p.0 (among-take k i ks h)), proper-take i ks us p.1)

pub place-among : (l : Label) (ls : List Label) (n i : ℕ) → i < n → n ≤ length ls → l ≡ get_or ls i l → Among l (take n ls)
place-among l [] n i lt le e = absurd (omega arith)
place-among l (k ∷ ls) zero i lt le e = absurd (omega arith)
place-among l (k ∷ ls) (suc n) zero lt le e = inl e
place-among l (k ∷ ls) (suc n) (suc i) lt le e = inr (place-among l ls n i (omega arith) (omega arith) e)

pub place-at : (l : Label) (t : Typ) (ls : List Label) (ts : List Typ) (i : ℕ) → i < length ls → length ls ≡ length ts → l ≡ get_or ls i l → t ≡ get_or ts i t → At l t ls (all ts)
place-at l t [] ts i lt n e h = absurd (omega arith)
place-at l t (k ∷ ls) [] i lt n e h = cc
place-at l t (k ∷ ls) (u ∷ ts) zero lt n e h = inl (e, h)
place-at l t (k ∷ ls) (u ∷ ts) (suc i) lt n e h = inr (place-at l t ls ts i (omega arith) (omega arith) e h)

pub unsubs-proper : (f : ℕ → Typ) (ks : List Label) (us : Typs) → IsProper ks (subs f us) → IsProper ks us
unsubs-proper f [] none p = p
unsubs-proper f [] (more u us) p = p
unsubs-proper f (k ∷ ks) none p = p
unsubs-proper f (k ∷ ks) (more u us) p = (p.0, unsubs-proper f ks us p.1)

-- a type beside itself has a label
pub beside-at : (t u : Typ) (ks : List Label) (us vs : Typs) → IsProper ks us → Beside t u us vs → (l : Label) × At l t ks us
beside-at t u [] none vs p b = elim b [ ]
beside-at t u [] (more x us) vs p b = absurd p
beside-at t u (k ∷ ks) none vs p b = absurd p
beside-at t u (k ∷ ks) (more x us) none p b = elim b [ ]
beside-at t u (k ∷ ks) (more x us) (more y vs) p (Beside.here _ _ _ _) = (k, inl (refl, refl))
beside-at t u (k ∷ ks) (more x us) (more y vs) p (Beside.later _ _ _ _ _ _ b) = let q = beside-at t u ks us vs p.1 b in (q.0, inr q.1)
