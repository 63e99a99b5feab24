-- Rows are chained.
use Rattle.std.proofs.Common.{◌≡◌, ℕ, zero, suc, ◌+◌, ◌<◌, ◌≤◌, ◌⊎◌, inl, inr, List, [], ◌∷◌, ◌++◌, length, slice_get, get_or, Option, Some, None, Bool, true, false, nat_eq, cond, refl, sym, ap, ◌∙◌, subst, arith}
use Rattle.std.specs.Prelude.{⊤}
use Rattle.std.proofs.lemmas.Bool.{eqb-true, eq-eqb, cases_order, false≢true}
use Rattle.ir_tables.specs.declared.constructors.Constructor.{Constructor}
use Rattle.mono_needed.specs.Gathering.{IsOf, IsLatest, none_is, one_is, IsChained}

pub record Chaining (rows : List Constructor) (n : ℕ) (last : ℕ → Option ℕ) (before : List (Option ℕ)) : Type 0 where
  pub last_is : (stamp : ℕ) → IsLatest rows n stamp (last stamp)
  pub long : length before ≡ n
  pub before_is : (i stamp : ℕ) → i < n → IsOf rows stamp i → IsLatest rows i stamp (get_or before i None)

pub chain-begins : (rows : List Constructor) (last : ℕ → Option ℕ) (before : List (Option ℕ)) → ((s : ℕ) → last s ≡ None) → before ≡ [] → Chaining rows 0 last before
chain-begins rows last before e b = record {
  last_is = λ s. subst (IsLatest rows 0 s) (sym (e s)) (none_is (λ j lt h. absurd (omega arith)));
  long = ap length b;
  before_is = λ i s lt h. absurd (omega arith);
}

same-row : (rows : List Constructor) (s : ℕ) (i : ℕ) (k : Constructor) → slice_get rows i ≡ Some k → IsOf rows s i → k.datatype.stamp ≡ s
same-row rows s i k e h = let p : Some h.row ≡ Some k = sym h.at ∙ e in let q : h.row ≡ k = cc in ap (λ r. r.datatype.stamp) (sym q) ∙ h.same

length-end : {A : Type 0} (l : List A) (x : A) → length (l ++ x ∷ []) ≡ suc (length l)
length-end [] x = refl
length-end (y ∷ l) x = ap suc (length-end l x)

at-front : {A : Type 0} (d : A) (l : List A) (x : A) (i : ℕ) → i < length l → get_or (l ++ x ∷ []) i d ≡ get_or l i d
at-front d [] x i lt = absurd (omega arith)
at-front d (y ∷ l) x zero lt = refl
at-front d (y ∷ l) x (suc i) lt = at-front d l x i (omega arith)

at-end : {A : Type 0} (d : A) (l : List A) (x : A) (i : ℕ) → i ≡ length l → get_or (l ++ x ∷ []) i d ≡ x
at-end d [] x zero e = refl
at-end d [] x (suc i) e = absurd (omega arith)
at-end d (y ∷ l) x zero e = absurd (omega arith)
at-end d (y ∷ l) x (suc i) e = at-end d l x i (omega arith)

-- one more row, which is not of the datatype
latest-kept : (rows : List Constructor) (n s : ℕ) (k : Constructor) (o : Option ℕ) → slice_get rows n ≡ Some k → (k.datatype.stamp ≡ s → ⊥) → IsLatest rows n s o → IsLatest rows (suc n) s o
latest-kept rows n s k o e ne (none_is f) = none_is (λ j lt h. go j lt h (cases_order j n))
  where
    go : (j : ℕ) → j < suc n → IsOf rows s j → (j ≡ n) ⊎ ((j < n) ⊎ (n < j)) → ⊥
    go j lt h (inl q) = ne (same-row rows s n k e (subst (IsOf rows s) q h))
    go j lt h (inr (inl l)) = f j l h
    go j lt h (inr (inr l)) = absurd (omega arith)
latest-kept rows n s k o e ne (one_is i l g f) = one_is i (omega arith) g (λ j below lt h. go j below lt h (cases_order j n))
  where
    go : (j : ℕ) → i < j → j < suc n → IsOf rows s j → (j ≡ n) ⊎ ((j < n) ⊎ (n < j)) → ⊥
    go j below lt h (inl q) = ne (same-row rows s n k e (subst (IsOf rows s) q h))
    go j below lt h (inr (inl m)) = f j below m h
    go j below lt h (inr (inr m)) = absurd (omega arith)

pub chain-grows : (rows : List Constructor) (n : ℕ) (last later : ℕ → Option ℕ) (before new : List (Option ℕ)) (k : Constructor) (s : ℕ) (o : Option ℕ) → slice_get rows n ≡ Some k → s ≡ k.datatype.stamp → o ≡ last s
    → ((q : ℕ) → later q ≡ cond (nat_eq s q) (Some n) (last q)) → new ≡ before ++ o ∷ [] → Chaining rows n last before → Chaining rows (n + 1) later new
chain-grows rows n last later before new k s o e c d u b g = record {
  last_is = λ q. subst (λ m. IsLatest rows m q (later q)) one-more (latest q (nat_eq s q) refl);
  long = ap length b ∙ length-end before o ∙ ap suc g.long ∙ one-more;
  before_is = λ i q lt h. subst (λ l. IsLatest rows i q (get_or l i None)) (sym b) (earlier i q h (cases_order i n) lt);
}
  where
    one-more : suc n ≡ n + 1
    one-more = omega arith

    of-s : IsOf rows s n
    of-s = record { row = k; at = e; same = sym c }

    latest : (q : ℕ) (b : Bool) → nat_eq s q ≡ b → IsLatest rows (suc n) q (later q)
    latest q true i = subst (IsLatest rows (suc n) q) (sym (u q ∙ ap (λ b. cond b (Some n) (last q)) i))
        (one_is n (omega arith) (subst (λ q. IsOf rows q n) (eqb-true s q i) of-s) (λ j below lt h. absurd (omega arith)))
    latest q false i = subst (IsLatest rows (suc n) q) (sym (u q ∙ ap (λ b. cond b (Some n) (last q)) i))
        (latest-kept rows n q k (last q) e (λ p. false≢true (sym i ∙ eq-eqb s q (c ∙ p))) (g.last_is q))

    earlier : (i q : ℕ) → IsOf rows q i → (i ≡ n) ⊎ ((i < n) ⊎ (n < i)) → i < n + 1 → IsLatest rows i q (get_or (before ++ o ∷ []) i None)
    earlier i q h (inl p) lt = subst (IsLatest rows i q) (sym (at-end None before o i (p ∙ sym g.long) ∙ d ∙ ap last (c ∙ same-row rows q n k e (subst (IsOf rows q) p h)))) (subst (λ m. IsLatest rows m q (last q)) (sym p) (g.last_is q))
    earlier i q h (inr (inl l)) lt = let m = g.long in subst (IsLatest rows i q) (sym (at-front None before o i (omega arith))) (g.before_is i q l h)
    earlier i q h (inr (inr l)) lt = absurd (omega arith)

row-within : (rows : List Constructor) (i : ℕ) (k : Constructor) → slice_get rows i ≡ Some k → i < length rows
row-within [] i k e = absurd (cc)
row-within (r ∷ rows) zero k e = omega arith
row-within (r ∷ rows) (suc i) k e = let h = row-within rows i k e in omega arith

pub chained : (rows : List Constructor) (n : ℕ) (last : ℕ → Option ℕ) (before : List (Option ℕ)) → n ≡ length rows → Chaining rows n last before → IsChained rows last before
chained rows n last before e g = record {
  last_is = λ s. subst (λ m. IsLatest rows m s (last s)) e (g.last_is s);
  before_is = λ i s h. g.before_is i s (subst (λ m. i < m) (sym e) (row-within rows i h.row h.at)) h;
}

-- the row that a loop reads
pub row-read : (rows : List Constructor) (i : ℕ) (d : Constructor) → i < length rows → slice_get rows i ≡ Some (get_or rows i d)
row-read [] i d lt = absurd (omega arith)
row-read (r ∷ rows) zero d lt = refl
row-read (r ∷ rows) (suc i) d lt = row-read rows i d (omega arith)

-- up to the next one
abbrev pub UpTo : ℕ → Option ℕ → Type 0
UpTo i None = ⊥
UpTo i (Some j) = i ≤ j

abbrev pub IsNext : List Constructor → ℕ → Option ℕ → Type 0
IsNext rows s None = ⊤
IsNext rows s (Some i) = IsOf rows s i

pub latest-next : (rows : List Constructor) (n s : ℕ) (o : Option ℕ) → IsLatest rows n s o → IsNext rows s o
latest-next rows n s o (none_is f) = tt
latest-next rows n s o (one_is i l h f) = h

pub latest-covers : (rows : List Constructor) (n s : ℕ) (o : Option ℕ) → IsLatest rows n s o → (i : ℕ) → i < n → IsOf rows s i → UpTo i o
latest-covers rows n s o (none_is f) i lt h = f i lt h
latest-covers rows n s o (one_is j l g f) i lt h = go (cases_order i j)
  where
    go : (i ≡ j) ⊎ ((i < j) ⊎ (j < i)) → i ≤ j
    go (inl e) = omega arith
    go (inr (inl m)) = omega arith
    go (inr (inr m)) = absurd (f i m lt h)

pub next-within : (rows : List Constructor) (s i : ℕ) → IsOf rows s i → i < length rows
next-within rows s i h = row-within rows i h.row h.at

abbrev pub left_of : Option ℕ → ℕ
left_of None = 0
left_of (Some i) = suc i

pub latest-less : (rows : List Constructor) (n s : ℕ) (o : Option ℕ) → IsLatest rows n s o → left_of o < suc n
latest-less rows n s o (none_is f) = omega arith
latest-less rows n s o (one_is i l h f) = omega arith

pub is-next : (rows : List Constructor) (s i : ℕ) (o : Option ℕ) → o ≡ Some i → IsNext rows s o → IsOf rows s i
is-next rows s i o e h = subst (IsNext rows s) e h

pub next-less : (rows : List Constructor) (n s : ℕ) (o p : Option ℕ) → p ≡ Some n → IsLatest rows n s o → left_of o < left_of p
next-less rows n s o p e h = subst (λ p. left_of o < left_of p) (sym e) (latest-less rows n s o h)

pub read-in : (rows known : List Constructor) (i : ℕ) (d : Constructor) → rows ≡ known → i < length known → slice_get known i ≡ Some (get_or rows i d)
read-in rows known i d e lt = subst (λ l. slice_get l i ≡ Some (get_or rows i d)) e (row-read rows i d (subst (λ l. i < length l) (sym e) lt))
