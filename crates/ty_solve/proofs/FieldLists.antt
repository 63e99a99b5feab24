-- Going through fields one by one.
use Rattle.std.proofs.Common.{◌≡◌, ◌↔◌, ◌<◌, ◌≤◌, IsTrue, ℕ, zero, suc, Bool, true, false, List, [], ◌∷◌, ◌++◌, length, take, get_or, refl, sym, ap, ◌∙◌, subst, arith}
use Rattle.std.proofs.lemmas.Bool.{false≢true, and_from, and_parts}
use mathlib.Core.Logic.{◌⊎◌, inl, inr}
use Rattle.mlc_names.specs.declared.label.Label.{Label}
use Rattle.ty_table.specs.of_ty_core.Types.{Typ, Typs, none, admits}
use Rattle.ty_table.specs.of_ty_core.declared.mark.Mark.{Mark}
use Rattle.ty_solve.specs.Rows.{Among, At, IsProper}
use Rattle.ty_solve.specs.Substitution.{sub, is_below, are_below}
use Rattle.ty_solve.specs.Forces.{Forces, Asks, Met}
use Rattle.ty_solve.proofs.Comparing.{waits-front}
use Rattle.ty_solve.specs.Fields.{IsPlace, FieldMeets, FieldsMeet, OthersAdmit, IsUnion}
use Rattle.ty_solve.specs.Task.{Task}
use Rattle.ty_solve.specs.Task.{Equal, Admit}
use Rattle.ty_solve.proofs.Lists.{all}
use Rattle.ty_solve.proofs.PartsLeft.{below-last}
use Rattle.ty_solve.proofs.StepArms.{hold-push, forced-push, within-push}
use Rattle.ty_solve.proofs.Labels.{among-last, at-last, at-front, at-end, at-among, among-at, at-below, at-unique, proper-last, proper-apart, proper-lengths, proper-take, take-next, take-whole, place-among, place-at}

pub no : {A : Type 0} → (A → ⊥) → IsTrue false ↔ A
no n = (λ h. absurd (false≢true h), λ a. absurd (n a))

nth : {X : Type 0} → (l : List X) (i : ℕ) → i < length l → (x : X) × (x ≡ get_or l i x)
nth [] i lt = absurd (omega arith)
nth (x ∷ l) zero lt = (x, refl)
nth (x ∷ l) (suc i) lt = nth l i (omega arith)

pub get-same : {X : Type 0} → (l : List X) (i : ℕ) (x y : X) → i < length l → x ≡ get_or l i x → y ≡ get_or l i y → x ≡ y
get-same [] i x y lt p q = absurd (omega arith)
get-same (z ∷ l) zero x y lt p q = p ∙ sym q
get-same (z ∷ l) (suc i) x y lt p q = get-same l i x y (omega arith) p q

pub taken : {X : Type 0} → (l : List X) (i : ℕ) → i ≤ length l → length (take i l) ≡ i
taken [] zero le = refl
taken [] (suc i) le = absurd (omega arith)
taken (x ∷ l) zero le = refl
taken (x ∷ l) (suc i) le = ap suc (taken l i (omega arith))

same-taken : {X Y : Type 0} → (l : List X) (m : List Y) (i : ℕ) → i < length l → length l ≡ length m → length (take i l) ≡ length (take i m)
same-taken l m i lt e = taken l i (omega arith) ∙ sym (taken m i (omega arith))

pub place-next : (l x : Label) (ls : List Label) (i : ℕ) → i < length ls → x ≡ get_or ls i x → (x ≡ l → ⊥) → (Among l (take i ls) → ⊥) → Among l (take (suc i) ls) → ⊥
place-next l x ls i lt e ne n h = go (among-last l x (take i ls) (subst (Among l) (take-next ls i x lt e) h))
  where
    go : Among l (take i ls) ⊎ (l ≡ x) → ⊥
    go (inl a) = n a
    go (inr p) = ne (sym p)

pub not-whole : (l : Label) (n : ℕ) (ls : List Label) → n ≡ length ls → (Among l (take n ls) → ⊥) → Among l ls → ⊥
not-whole l n ls e h a = h (subst (λ k. Among l (take k ls)) (sym e) (subst (Among l) (sym (take-whole ls)) a))

pub proper-next : (ls : List Label) (ts : List Typ) (i : ℕ) (x : Label) → i < length ls → length ls ≡ length ts → x ≡ get_or ls i x → (Among x (take i ls) → ⊥) → IsProper (take i ls) (all (take i ts)) → IsProper (take (suc i) ls) (all (take (suc i) ts))
proper-next ls ts i x lt n e ne p =
    let t = nth ts i (omega arith) in
    subst (λ z. IsProper z (all (take (suc i) ts))) (sym (take-next ls i x lt e)) (subst (λ z. IsProper (take i ls ++ x ∷ []) (all z)) (sym (take-next ts i t.0 (omega arith) t.1)) (proper-last x t.0 (take i ls) (take i ts) p ne))

pub repeats : (ls : List Label) (ts : List Typ) (i j : ℕ) (x : Label) → i < length ls → x ≡ get_or ls i x → IsPlace ls i x j → IsProper ls (all ts) → ⊥
repeats ls ts i j x lt e k p =
    let n = proper-lengths ls ts p in
    let t = nth ts i (omega arith) in
    proper-apart x t.0 (take i ls) (take i ts) (subst (λ z. IsProper z (all (take i ts ++ t.0 ∷ []))) (take-next ls i x lt e) (subst (λ z. IsProper (take (suc i) ls) (all z)) (take-next ts i t.0 (omega arith) t.1) (proper-take (suc i) ls ts p))) (same-taken ls ts i lt n) (place-among x ls i j k.in_range (omega arith) k.is)

pub not-proper : (ls : List Label) (ts : List Typ) → (length ls ≡ length ts → ⊥) → IsProper ls (all ts) → ⊥
not-proper ls ts ne p = ne (proper-lengths ls ts p)

pub place-whole : (l : Label) (ls : List Label) (n i : ℕ) → n ≡ length ls → IsPlace ls n l i → Among l ls
place-whole l ls n i e k = subst (Among l) (ap (λ z. take z ls) e ∙ take-whole ls) (place-among l ls n i k.in_range (omega arith) k.is)

pub lacking-next : (ks ls : List Label) (i : ℕ) (x : Label) → i < length ks → x ≡ get_or ks i x → Among x ls → ((l : Label) → Among l (take i ks) → Among l ls) → (l : Label) → Among l (take (suc i) ks) → Among l ls
lacking-next ks ls i x lt e a h l b = go (among-last l x (take i ks) (subst (Among l) (take-next ks i x lt e) b))
  where
    go : Among l (take i ks) ⊎ (l ≡ x) → Among l ls
    go (inl c) = h l c
    go (inr p) = subst (λ z. Among z ls) (sym p) a

pub lacking-end : (ks ls : List Label) (i : ℕ) → length ks ≤ i → ((l : Label) → Among l (take i ks) → Among l ls) → i ≤ length ks → (l : Label) → Among l ks → Among l ls
lacking-end ks ls i ge h le l a = h l (subst (Among l) (sym (ap (λ z. take z ks) (omega arith) ∙ take-whole ks)) a)

pub among-get : (ks : List Label) (i : ℕ) (x : Label) → i < length ks → x ≡ get_or ks i x → Among x ks
among-get ks i x lt e = place-whole x ks (length ks) i refl (record { in_range = lt; is = e })

-- a field and those of a row
pub field-none : (old : List Task) (l : Label) (t : Typ) (ks : List Label) (us : Typs) → (Among l ks → ⊥) → FieldMeets old old l t ks us
field-none old l t ks us ne = record {
  same = λ m f. (λ h. (h, λ u a. absurd (ne (at-among l u ks us a))), λ h. h.0);
  forced = λ p h g. h;
  within = λ n h a b. h;
  stay = λ a b w. w;
}

pub field-some : (old new : List Task) (l : Label) (t : Typ) (ks : List Label) (us : List Typ) (n i : ℕ) (u a b : Typ) → IsProper ks (all us) → n ≡ length ks → IsPlace ks n l i → u ≡ get_or us i u → a ≡ t → b ≡ u → new ≡ old ++ Equal a b ∷ [] → FieldMeets old new l t ks (all us)
field-some old new l t ks us n i u a b p e k g q r h = subst (λ z. FieldMeets old z l t ks (all us)) (sym h) (record {
  same = λ m f. (
    λ x.
        let y = (hold-push m f old (Equal a b)).0 x in
        (y.0, λ w c. ap (sub f) (sym q) ∙ y.1 ∙ ap (sub f) (r ∙ at-unique l u w ks (all us) p here c)),
    λ x. (hold-push m f old (Equal a b)).1 (x.0, ap (sub f) q ∙ x.1 u here ∙ ap (sub f) (sym r)),
  );
  forced = λ o x c. let z = c u here in forced-push o old (Equal a b) x (subst (λ z. Forces o z b) (sym q) (subst (λ z. Forces o t z) (sym r) z.0), subst (Met o) (sym q) z.1, subst (Met o) (sym r) z.2);
  within = λ j x c d. within-push j old (Equal a b) x (ap (is_below j) q ∙ c, ap (is_below j) r ∙ at-below j l u ks (all us) d here);
  stay = λ x y w. waits-front old (Equal a b ∷ []) x y w;
})
  where
    here : At l u ks (all us)
    here = place-at l u ks us i (subst (λ z. i < z) e k.in_range) (proper-lengths ks us p) k.is g

module _ (ls : List Label) (ts : List Typ) (i : ℕ) (x : Label) (t : Typ) (lt : i < length ls) (n : length ls ≡ length ts) (e : x ≡ get_or ls i x) (g : t ≡ get_or ts i t) where
  before : (l : Label) (u : Typ) → At l u (take (suc i) ls) (all (take (suc i) ts)) → At l u (take i ls) (all (take i ts)) ⊎ ((l ≡ x) × (u ≡ t))
  before l u a = at-last l x u t (take i ls) (take i ts) (same-taken ls ts i lt n) (subst (λ z. At l u z (all (take i ts ++ t ∷ []))) (take-next ls i x lt e) (subst (λ z. At l u (take (suc i) ls) (all z)) (take-next ts i t (omega arith) g) a))

  back : (l : Label) (u : Typ) → At l u (take i ls ++ x ∷ []) (all (take i ts ++ t ∷ [])) → At l u (take (suc i) ls) (all (take (suc i) ts))
  back l u a = subst (λ z. At l u z (all (take (suc i) ts))) (sym (take-next ls i x lt e)) (subst (λ z. At l u (take i ls ++ x ∷ []) (all z)) (sym (take-next ts i t (omega arith) g)) a)

  pub after : (l : Label) (u : Typ) → At l u (take i ls) (all (take i ts)) → At l u (take (suc i) ls) (all (take (suc i) ts))
  after l u a = back l u (at-front l x u t (take i ls) (take i ts) a)

  pub last : At x t (take (suc i) ls) (all (take (suc i) ts))
  last = back x t (at-end x t (take i ls) (take i ts) (same-taken ls ts i lt n))

  bounded : (k : ℕ) → are_below k (all (take (suc i) ts)) ≡ true → (are_below k (all (take i ts)) ≡ true) × (is_below k t ≡ true)
  bounded k b = below-last k (take i ts) t (subst (λ z. are_below k (all z) ≡ true) (take-next ts i t (omega arith) g) b)

  module _ (old now new : List Task) (ks : List Label) (us : Typs) (a : FieldsMeet old now (take i ls) (all (take i ts)) ks us) (b : FieldMeets now new x t ks us) where
    pub fields-next : FieldsMeet old new (take (suc i) ls) (all (take (suc i) ts)) ks us
    fields-next = record {
      same = λ m f. (
        λ h. let y = (b.same m f).0 h in let z = (a.same m f).0 y.0 in (z.0, λ l u w c d. meets m f z.1 y.1 l u w d (before l u c)),
        λ h. (b.same m f).1 ((a.same m f).1 (h.0, λ l u w c d. h.1 l u w (after l u c) d), λ w d. h.1 x t w last d),
      );
      forced = λ p h c. b.forced p (a.forced p h (λ l u w k d. c l u w (after l u k) d)) (λ w d. c x t w last d);
      within = λ k h c d. let y = bounded k c in b.within k (a.within k h y.0 d) y.1 d;
      stay = λ u w z. b.stay u w (a.stay u w z);
    }
      where
        meets : (m : ℕ → Bool) (f : ℕ → Typ) → ((l : Label) (u w : Typ) → At l u (take i ls) (all (take i ts)) → At l w ks us → sub f u ≡ sub f w) → ((w : Typ) → At x w ks us → sub f t ≡ sub f w) → (l : Label) (u w : Typ) → At l w ks us → At l u (take i ls) (all (take i ts)) ⊎ ((l ≡ x) × (u ≡ t)) → sub f u ≡ sub f w
        meets m f c k l u w d (inl y) = c l u w y d
        meets m f c k l u w d (inr y) = ap (sub f) y.1 ∙ k w (subst (λ z. At z w ks us) y.0 d)

  module _ (d : Bool) (old now : List Task) (ks : List Label) (a : OthersAdmit d old now (take i ls) (all (take i ts)) ks) where
    -- a known label
    pub others-skip : Among x ks → OthersAdmit d old now (take (suc i) ls) (all (take (suc i) ts)) ks
    others-skip k = record {
      same = λ m f. (
        λ h. let y = (a.same m f).0 h in (y.0, λ q l u c ne. admit m f (y.1 q) l u ne (before l u c)),
        λ h. (a.same m f).1 (h.0, λ q l u c ne. h.1 q l u (after l u c) ne),
      );
      forced = λ p h c. a.forced p h (λ q l u j ne. c q l u (after l u j) ne);
      within = λ j h c. a.within j h (bounded j c).0;
      stay = a.stay;
    }
      where
        admit : (m : ℕ → Bool) (f : ℕ → Typ) → ((l : Label) (u : Typ) → At l u (take i ls) (all (take i ts)) → (Among l ks → ⊥) → admits m (sub f u) ≡ true) → (l : Label) (u : Typ) → (Among l ks → ⊥) → At l u (take i ls) (all (take i ts)) ⊎ ((l ≡ x) × (u ≡ t)) → admits m (sub f u) ≡ true
        admit m f c l u ne (inl y) = c l u y ne
        admit m f c l u ne (inr y) = absurd (ne (subst (λ z. Among z ks) (sym y.0) k))

    -- another one
    pub others-push : (new : List Task) (w : Typ) → d ≡ true → (Among x ks → ⊥) → w ≡ t → new ≡ now ++ Admit Mark.Equality w ∷ [] → OthersAdmit d old new (take (suc i) ls) (all (take (suc i) ts)) ks
    others-push new w on k r q = subst (λ z. OthersAdmit d old z (take (suc i) ls) (all (take (suc i) ts)) ks) (sym q) (record {
      same = λ m f. (
        λ h. let z = (hold-push m f now (Admit Mark.Equality w)).0 h in let y = (a.same m f).0 z.0 in (y.0, λ o l u c ne. admit m f (y.1 o) (ap (λ j. admits m (sub f j)) (sym r) ∙ z.1) l u ne (before l u c)),
        λ h. (hold-push m f now (Admit Mark.Equality w)).1 ((a.same m f).1 (h.0, λ o l u c ne. h.1 o l u (after l u c) ne), ap (λ j. admits m (sub f j)) r ∙ h.1 on x t last k),
      );
      forced = λ p h c. forced-push p now (Admit Mark.Equality w) (a.forced p h (λ o l u j ne. c o l u (after l u j) ne)) (let z = c on x t last k in (subst (Asks p Mark.Equality) (sym r) z.0, subst (Met p) (sym r) z.1));
      within = λ j h c. let y = bounded j c in within-push j now (Admit Mark.Equality w) (a.within j h y.0) (refl, ap (is_below j) r ∙ y.1);
      stay = λ u v z. waits-front now (Admit Mark.Equality w ∷ []) u v (a.stay u v z);
    })
      where
        admit : (m : ℕ → Bool) (f : ℕ → Typ) → ((l : Label) (u : Typ) → At l u (take i ls) (all (take i ts)) → (Among l ks → ⊥) → admits m (sub f u) ≡ true) → admits m (sub f t) ≡ true → (l : Label) (u : Typ) → (Among l ks → ⊥) → At l u (take i ls) (all (take i ts)) ⊎ ((l ≡ x) × (u ≡ t)) → admits m (sub f u) ≡ true
        admit m f c b l u ne (inl y) = c l u y ne
        admit m f c b l u ne (inr y) = ap (λ z. admits m (sub f z)) y.1 ∙ b

pub fields-begin : (old : List Task) (ks : List Label) (us : Typs) → FieldsMeet old old [] none ks us
fields-begin old ks us = record {
  same = λ m f. (λ h. (h, λ l t u a b. absurd a), λ h. h.0);
  forced = λ p h c. h;
  within = λ n h a b. h;
  stay = λ a b w. w;
}

pub fields-end : (old now : List Task) (ls : List Label) (ts : List Typ) (ks : List Label) (us : Typs) (i : ℕ) → i ≡ length ls → length ls ≡ length ts → FieldsMeet old now (take i ls) (all (take i ts)) ks us → FieldsMeet old now ls (all ts) ks us
fields-end old now ls ts ks us i e n a = subst (λ z. FieldsMeet old now z (all ts) ks us) (ap (λ k. take k ls) e ∙ take-whole ls) (subst (λ z. FieldsMeet old now (take i ls) (all z) ks us) (ap (λ k. take k ts) (e ∙ n) ∙ take-whole ts) a)

pub others-begin : (d : Bool) (old : List Task) (ks : List Label) → OthersAdmit d old old [] none ks
others-begin d old ks = record {
  same = λ m f. (λ h. (h, λ q l t a b. absurd a), λ h. h.0);
  forced = λ p h c. h;
  within = λ n h a. h;
  stay = λ a b w. w;
}

pub others-end : (d : Bool) (old now : List Task) (ls : List Label) (ts : List Typ) (ks : List Label) (i : ℕ) → i ≡ length ls → length ls ≡ length ts → OthersAdmit d old now (take i ls) (all (take i ts)) ks → OthersAdmit d old now ls (all ts) ks
others-end d old now ls ts ks i e n a = subst (λ z. OthersAdmit d old now z (all ts) ks) (ap (λ k. take k ls) e ∙ take-whole ls) (subst (λ z. OthersAdmit d old now (take i ls) (all z) ks) (ap (λ k. take k ts) (e ∙ n) ∙ take-whole ts) a)

pub others-known : (ls : List Label) (ts : List Typ) (i : ℕ) (x : Label) → i < length ls → length ls ≡ length ts → x ≡ get_or ls i x → (d : Bool) (old now : List Task) (ks : List Label) → OthersAdmit d old now (take i ls) (all (take i ts)) ks → Among x ks → OthersAdmit d old now (take (suc i) ls) (all (take (suc i) ts)) ks
others-known ls ts i x lt n e d old now ks a k = let t = nth ts i (omega arith) in others-skip ls ts i x t.0 lt n e t.1 d old now ks a k

-- fields put to those of a row
below-front : (n : ℕ) (l : List Typ) (t : Typ) → are_below n (all l) ≡ true → is_below n t ≡ true → are_below n (all (l ++ t ∷ [])) ≡ true
below-front n [] t a b = and_from _ _ b refl
below-front n (x ∷ l) t a b = let p = and_parts (is_below n x) (are_below n (all l)) a in and_from _ _ p.0 (below-front n l t p.1 b)

module _ (ls : List Label) (ts : Typs) (ks : List Label) (us : List Typ) (i : ℕ) (x : Label) (u : Typ) (lt : i < length ks) (n : length ks ≡ length us) (e : x ≡ get_or ks i x) (g : u ≡ get_or us i u) (pk : IsProper ks (all us)) (js : List Label) where
  new-label : Among x (take i ks) → ⊥
  new-label = proper-apart x u (take i ks) (take i us) (subst (λ z. IsProper z (all (take i us ++ u ∷ []))) (take-next ks i x lt e) (subst (λ z. IsProper (take (suc i) ks) (all z)) (take-next us i u (omega arith) g) (proper-take (suc i) ks us pk))) (same-taken ks us i lt n)

  grows : (l : Label) (t : Typ) → At l t ls ts ⊎ (At l t (take i ks) (all (take i us)) × (Among l ls → ⊥)) → At l t ls ts ⊎ (At l t (take (suc i) ks) (all (take (suc i) us)) × (Among l ls → ⊥))
  grows l t (inl a) = inl a
  grows l t (inr a) = inr (after ks us i x u lt n e g l t a.0, a.1)

  module _ (vs : Typs) (a : IsUnion ls ts (take i ks) (all (take i us)) js vs) where
    -- the label is there
    pub union-known : Among x js → IsUnion ls ts (take (suc i) ks) (all (take (suc i) us)) js vs
    union-known h = record {
      at = λ l t. (λ y. grows l t ((a.at l t).0 y), λ y. (a.at l t).1 (back-to l t y));
      proper = a.proper;
      below = λ k y z. a.below k y (bounded ks us i x u lt n e g k z).0;
    }
      where
        there : (t : Typ) → At x t ls ts ⊎ (At x t (take i ks) (all (take i us)) × (Among x ls → ⊥)) → Among x ls
        there t (inl y) = at-among x t ls ts y
        there t (inr y) = absurd (new-label (at-among x t (take i ks) (all (take i us)) y.0))

        old : Among x ls
        old = let q = among-at x js vs a.proper h in there q.0 ((a.at x q.0).0 q.1)

        one : (l : Label) (t : Typ) → (Among l ls → ⊥) → At l t (take i ks) (all (take i us)) ⊎ ((l ≡ x) × (t ≡ u)) → At l t (take i ks) (all (take i us))
        one l t ne (inl y) = y
        one l t ne (inr y) = absurd (ne (subst (λ z. Among z ls) (sym y.0) old))

        back-to : (l : Label) (t : Typ) → At l t ls ts ⊎ (At l t (take (suc i) ks) (all (take (suc i) us)) × (Among l ls → ⊥)) → At l t ls ts ⊎ (At l t (take i ks) (all (take i us)) × (Among l ls → ⊥))
        back-to l t (inl y) = inl y
        back-to l t (inr y) = inr (one l t y.1 (before ks us i x u lt n e g l t y.0), y.1)

  module _ (vl : List Typ) (a : IsUnion ls ts (take i ks) (all (take i us)) js (all vl)) where
    -- the label is not there
    pub union-adds : IsProper ls ts → (w : Typ) → w ≡ u → (Among x js → ⊥) → IsUnion ls ts (take (suc i) ks) (all (take (suc i) us)) (js ++ x ∷ []) (all (vl ++ w ∷ []))
    union-adds pl w r ne = record {
      at = λ l t. (λ y. came l t (at-last l x t w js vl (proper-lengths js vl a.proper) y), λ y. goes l t y);
      proper = proper-last x w js vl a.proper ne;
      below = λ k y z. let b = bounded ks us i x u lt n e g k z in below-front k vl w (a.below k y b.0) (ap (is_below k) r ∙ b.1);
    }
      where
        absent : Among x ls → ⊥
        absent h = let q = among-at x ls ts pl h in ne (at-among x q.0 js (all vl) ((a.at x q.0).1 (inl q.1)))

        came : (l : Label) (t : Typ) → At l t js (all vl) ⊎ ((l ≡ x) × (t ≡ w)) → At l t ls ts ⊎ (At l t (take (suc i) ks) (all (take (suc i) us)) × (Among l ls → ⊥))
        came l t (inl y) = grows l t ((a.at l t).0 y)
        came l t (inr y) = inr (subst (λ z. At z t (take (suc i) ks) (all (take (suc i) us))) (sym y.0) (subst (λ z. At x z (take (suc i) ks) (all (take (suc i) us))) (sym (y.1 ∙ r)) (last ks us i x u lt n e g)), λ h. absent (subst (λ z. Among z ls) y.0 h))

        put : (l : Label) (t : Typ) → (Among l ls → ⊥) → At l t (take i ks) (all (take i us)) ⊎ ((l ≡ x) × (t ≡ u)) → At l t (js ++ x ∷ []) (all (vl ++ w ∷ []))
        put l t nl (inl y) = at-front l x t w js vl ((a.at l t).1 (inr (y, nl)))
        put l t nl (inr y) = subst (λ z. At z t (js ++ x ∷ []) (all (vl ++ w ∷ []))) (sym y.0) (subst (λ z. At x z (js ++ x ∷ []) (all (vl ++ w ∷ []))) (r ∙ sym y.1) (at-end x w js vl (proper-lengths js vl a.proper)))

        goes : (l : Label) (t : Typ) → At l t ls ts ⊎ (At l t (take (suc i) ks) (all (take (suc i) us)) × (Among l ls → ⊥)) → At l t (js ++ x ∷ []) (all (vl ++ w ∷ []))
        goes l t (inl y) = at-front l x t w js vl ((a.at l t).1 (inl y))
        goes l t (inr y) = put l t y.1 (before ks us i x u lt n e g l t y.0)

pub union-stays : (ls : List Label) (ts : Typs) (ks : List Label) (us : List Typ) (i : ℕ) (x : Label) → i < length ks → length ks ≡ length us → x ≡ get_or ks i x → IsProper ks (all us) → (js : List Label) (vs : Typs) → IsUnion ls ts (take i ks) (all (take i us)) js vs → Among x js → IsUnion ls ts (take (suc i) ks) (all (take (suc i) us)) js vs
union-stays ls ts ks us i x lt n e pk js vs a h = let u = nth us i (omega arith) in union-known ls ts ks us i x u.0 lt n e u.1 pk js vs a h

pub union-end : (ls : List Label) (ts : Typs) (ks : List Label) (us : List Typ) (i : ℕ) (js : List Label) (vs : Typs) → i ≡ length ks → length ks ≡ length us → IsUnion ls ts (take i ks) (all (take i us)) js vs → IsUnion ls ts ks (all us) js vs
union-end ls ts ks us i js vs e n a = subst (λ z. IsUnion ls ts z (all us) js vs) (ap (λ k. take k ks) e ∙ take-whole ks) (subst (λ z. IsUnion ls ts (take i ks) (all z) js vs) (ap (λ k. take k us) (e ∙ n) ∙ take-whole us) a)

pub union-grown : (ls : List Label) (ts : Typs) (ks : List Label) (us : List Typ) (i : ℕ) (x : Label) (u : Typ) → i < length ks → length ks ≡ length us → x ≡ get_or ks i x → u ≡ get_or us i u → IsProper ks (all us) → (js js' : List Label) (vl vl' : List Typ) → IsUnion ls ts (take i ks) (all (take i us)) js (all vl) → IsProper ls ts → (w : Typ) → w ≡ u → (Among x js → ⊥) → js' ≡ js ++ x ∷ [] → vl' ≡ vl ++ w ∷ [] → IsUnion ls ts (take (suc i) ks) (all (take (suc i) us)) js' (all vl')
union-grown ls ts ks us i x u lt n e g pk js js' vl vl' a pl w r ne p q = subst (λ z. IsUnion ls ts (take (suc i) ks) (all (take (suc i) us)) z (all vl')) (sym p) (subst (λ z. IsUnion ls ts (take (suc i) ks) (all (take (suc i) us)) (js ++ x ∷ []) (all z)) (sym q) (union-adds ls ts ks us i x u lt n e g pk js vl a pl w r ne))

-- nothing is asked
pub others-off : (d : Bool) (old : List Task) (ls : List Label) (ts : Typs) (ks : List Label) → d ≡ false → OthersAdmit d old old ls ts ks
others-off d old ls ts ks e = record {
  same = λ m f. (λ h. (h, λ q l t a ne. absurd (false≢true (sym e ∙ q))), λ h. h.0);
  forced = λ p h c. h;
  within = λ n h a. h;
  stay = λ a b w. w;
}

pub union-begin : (ls : List Label) (ts : Typs) → IsProper ls ts → IsUnion ls ts [] none ls ts
union-begin ls ts p = record { at = λ l t. (λ a. inl a, λ a. left l t a); proper = p; below = λ n a b. a }
  where
    left : (l : Label) (t : Typ) → At l t ls ts ⊎ (At l t [] none × (Among l ls → ⊥)) → At l t ls ts
    left l t (inl a) = a
    left l t (inr a) = absurd a.0
