-- Look-ups of names that pass several namings at once.
use Rattle.std.proofs.Common.{◌≡◌, ◌⊎◌, inl, inr, ◌<◌, ◌≤◌, ◌+◌, ℕ, zero, suc, Bool, true, false, nat_eq, if◌then◌else◌, List, [], ◌∷◌, ◌++◌, length, Option, Some, None, refl, sym, ap, subst, ◌∙◌, arith}
use Rattle.std.specs.Prelude.{option_map, slice_get, slice_index_or, unwrap_or}
use Rattle.std.proofs.lemmas.Bool.{eqb-true}
use Rattle.std.proofs.lemmas.List.{length-append}
use Rattle.elab_state.specs.Namings.{numbers_after, numbers_of, number_in, AreNamings, ComesBefore, IsAbove}
use Rattle.elab_state.specs.declared.naming.Naming.{Naming}
use Rattle.final_types.proofs.Namings.{next-at, among-found, numbers-at, split}
use Rattle.final_types.specs.Names.{to_in, stamp_at, JumpsTo, AreJumps}

pub stamp-is : (rs : List Naming) (k : ℕ) (r : Naming) → slice_get rs k ≡ Some r → stamp_at rs k ≡ r.stamp
stamp-is rs k r e = ap (λ o. unwrap_or (option_map (λ (r : Naming). r.stamp) o) 0) e

-- a naming that stands at k
there : (rs : List Naming) (k : ℕ) → k < length rs → (r : Naming) × (slice_get rs k ≡ Some r)
there [] k lt = absurd (omega (arith, lt))
there (r ∷ rs) zero lt = (r, refl)
there (r ∷ rs) (suc k) lt = there rs k (omega (arith, lt))

get-front : (xs ys : List Naming) (k : ℕ) → k < length xs → slice_get (xs ++ ys) k ≡ slice_get xs k
get-front [] ys k lt = absurd (omega (arith, lt))
get-front (x ∷ xs) ys zero lt = refl
get-front (x ∷ xs) ys (suc k) lt = get-front xs ys k (omega (arith, lt))

-- the naming before one is earlier, and of an earlier name

pub record IsEarlier (rs : List Naming) (k b : ℕ) (r : Naming) : Type 0 where
  pub earlier : b < k
  pub naming : Naming
  pub is : slice_get rs b ≡ Some naming
  pub lower : naming.stamp < r.stamp

pub before-earlier : (rs : List Naming) (k b : ℕ) (r : Naming) → AreNamings rs → slice_get rs k ≡ Some r → r.before ≡ Some b → IsEarlier rs k b r
before-earlier rs k b r h e i =
    let s = split rs k r e in
    let n = next-at [] s.before s.after r (subst AreNamings s.is h) in
    let c : IsAbove r.stamp (slice_get s.before b) = subst (λ o. ComesBefore s.before o r.stamp) i n.later in
    let lt = among-found s.before b r.stamp c in
    let q = there s.before b lt in
    record {
      earlier = omega (arith, lt, s.at);
      naming = q.0;
      is = ap (λ l. slice_get l b) s.is ∙ get-front s.before (r ∷ s.after) b lt ∙ q.1;
      lower = subst (IsAbove r.stamp) q.1 c;
    }

-- a name that isn't that of a naming has the number that it had before
pub other-name : (rs : List Naming) (k : ℕ) (r : Naming) (x : ℕ) → AreNamings rs → slice_get rs k ≡ Some r → x < r.stamp → number_in rs (Some k) x ≡ number_in rs r.before x
other-name rs k r x h e lt = numbers-at rs k r x h e ∙ by (nat_eq r.stamp x) refl
  where
    by : (b : Bool) → nat_eq r.stamp x ≡ b → (if b then r.number else number_in rs r.before x) ≡ number_in rs r.before x
    by true q = absurd (let a = eqb-true r.stamp x q in omega (arith, a, lt))
    by false q = refl

pub jump-before : (rs : List Naming) (k b : ℕ) (r : Naming) → AreNamings rs → slice_get rs k ≡ Some r → r.before ≡ Some b → JumpsTo rs k b
jump-before rs k b r h e i =
    let a = before-earlier rs k b r h e i in
    let s = stamp-is rs b a.naming a.is in
    let t = stamp-is rs k r e in
    record {
      earlier = a.earlier;
      lower = let l = a.lower in omega (arith, s, t, l);
      same = λ x lt. other-name rs k r x h e (let l = a.lower in omega (arith, s, l, lt)) ∙ ap (λ o. number_in rs o x) i;
    }

pub jump-jump : (rs : List Naming) (k j i : ℕ) → JumpsTo rs k j → JumpsTo rs j i → JumpsTo rs k i
jump-jump rs k j i a b = record {
  earlier = let p = a.earlier in let q = b.earlier in omega (arith, p, q);
  lower = let p = a.lower in let q = b.lower in omega (arith, p, q);
  same = λ x lt. a.same x (let q = b.lower in omega (arith, lt, q)) ∙ b.same x lt;
}

-- jumps are made one after the other

jumped : (js : List (Option ℕ)) (o : Option ℕ) (j : ℕ) → to_in js o ≡ Some j → (k : ℕ) × (o ≡ Some k)
jumped js None j e = cc
jumped js (Some k) j e = (k, refl)

pub new-jump : (rs : List Naming) (js : List (Option ℕ)) (k : ℕ) (r : Naming) (to : Option ℕ) → AreNamings rs → AreJumps rs js → slice_get rs k ≡ Some r
    → (to ≡ r.before) ⊎ (to ≡ to_in js (to_in js r.before)) → (j : ℕ) → to ≡ Some j → JumpsTo rs k j
new-jump rs js k r to h a e (inl i) j t = jump-before rs k j r h e (sym i ∙ t)
new-jump rs js k r to h a e (inr i) j t =
    let m = jumped js (to_in js r.before) j (sym i ∙ t) in
    let b = jumped js r.before m.0 m.1 in
    let p : to_in js (Some b.0) ≡ Some m.0 = ap (to_in js) (sym b.1) ∙ m.1 in
    let q : to_in js (Some m.0) ≡ Some j = ap (to_in js) (sym m.1) ∙ (sym i ∙ t) in
    jump-jump rs k b.0 j (jump-before rs k b.0 r h e b.1) (jump-jump rs b.0 m.0 j (a b.0 m.0 p) (a m.0 j q))

pub jumps-none : (rs : List Naming) → AreJumps rs []
jumps-none rs k j e = cc

jump-get : (js : List (Option ℕ)) (x : Option ℕ) (k : ℕ) (o : Option ℕ) → to_in (js ++ x ∷ []) (Some k) ≡ o → (to_in js (Some k) ≡ o) ⊎ (((k ≡ length js) × (x ≡ o)) ⊎ (o ≡ None))
jump-get [] x zero o e = inr (inl (refl, e))
jump-get [] x (suc k) o e = inr (inr (sym e))
jump-get (y ∷ js) x zero o e = inl e
jump-get (y ∷ js) x (suc k) o e = by (jump-get js x k o e)
  where
    by : (to_in js (Some k) ≡ o) ⊎ (((k ≡ length js) × (x ≡ o)) ⊎ (o ≡ None)) → (to_in (y ∷ js) (Some (suc k)) ≡ o) ⊎ (((suc k ≡ length (y ∷ js)) × (x ≡ o)) ⊎ (o ≡ None))
    by (inl h) = inl h
    by (inr (inl h)) = inr (inl (ap suc h.0, h.1))
    by (inr (inr h)) = inr (inr h)

pub jumps-more : (rs : List Naming) (js : List (Option ℕ)) (x : Option ℕ) → AreJumps rs js → ((j : ℕ) → x ≡ Some j → JumpsTo rs (length js) j) → AreJumps rs (js ++ x ∷ [])
jumps-more rs js x a h k j e = by (jump-get js x k (Some j) e)
  where
    by : (to_in js (Some k) ≡ Some j) ⊎ (((k ≡ length js) × (x ≡ Some j)) ⊎ (Some j ≡ None)) → JumpsTo rs k j
    by (inl i) = a k j i
    by (inr (inl i)) = subst (λ m. JumpsTo rs m j) (sym i.0) (h j i.1)
    by (inr (inr i)) = cc

-- names that no naming has

pub late-name : (rs : List Naming) (k : ℕ) (r : Naming) (x : ℕ) → AreNamings rs → slice_get rs k ≡ Some r → r.stamp < x → number_in rs (Some k) x ≡ x
late-name rs k r x h e lt = down (suc k) k r (omega arith) e lt
  where
    other : (r : Naming) → r.stamp < x → (b : Bool) → nat_eq r.stamp x ≡ b → (if b then r.number else number_in rs r.before x) ≡ number_in rs r.before x
    other r lt true q = absurd (let a = eqb-true r.stamp x q in omega (arith, a, lt))
    other r lt false q = refl

    at : (n k : ℕ) (r : Naming) → k < suc n → slice_get rs k ≡ Some r → r.stamp < x → ((k : ℕ) (r : Naming) → k < n → slice_get rs k ≡ Some r → r.stamp < x → number_in rs (Some k) x ≡ x)
        → (o : Option ℕ) → r.before ≡ o → number_in rs o x ≡ x
    at n k r l e lt again None i = refl
    at n k r l e lt again (Some b) i =
        let a = before-earlier rs k b r h e i in again b a.naming (let p = a.earlier in omega (arith, p, l)) a.is (let q = a.lower in omega (arith, q, lt))

    down : (n k : ℕ) (r : Naming) → k < n → slice_get rs k ≡ Some r → r.stamp < x → number_in rs (Some k) x ≡ x
    down zero k r l e lt = absurd (omega (arith, l))
    down (suc n) k r l e lt = numbers-at rs k r x h e ∙ other r lt (nat_eq r.stamp x) refl ∙ at n k r l e lt (down n) r.before refl

after-length : (fs : List (ℕ → ℕ)) (rs : List Naming) → length (numbers_after fs rs) ≡ length fs + length rs
after-length fs [] = omega arith
after-length fs (r ∷ rs) = after-length (fs ++ numbers_of fs r ∷ []) rs ∙ omega (arith, length-append fs (numbers_of fs r ∷ []))

past-get : {A : Type 0} (xs : List A) (k : ℕ) (d : A) → length xs ≤ k → slice_index_or xs k d ≡ d
past-get [] k d le = refl
past-get (x ∷ xs) zero d le = absurd (omega (arith, le))
past-get (x ∷ xs) (suc k) d le = past-get xs k d (omega (arith, le))

-- nor does a naming that there is not
pub past-name : (rs : List Naming) (k x : ℕ) → length rs ≤ k → number_in rs (Some k) x ≡ x
past-name rs k x le = ap (λ f. f x) (past-get (numbers_after [] rs) k (λ y. y) (let e = after-length [] rs in omega (arith, e, le)))
