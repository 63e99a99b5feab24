-- Numbers of type names as namings are added.
use Rattle.std.proofs.Common.{◌≡◌, ◌<◌, ◌≤◌, ◌+◌, ℕ, zero, suc, List, [], ◌∷◌, ◌++◌, length, drop, get_or, nat_eq, nat_lt, Bool, true, false, if◌then◌else◌, Option, Some, None, refl, sym, ap, subst, ◌∙◌, arith}
use Rattle.std.proofs.lemmas.Bool.{eqb-true, eq-eqb, ltb-true}
use Rattle.std.specs.Prelude.{slice_get}
use Rattle.std.proofs.lemmas.List.{append_assoc, append-nil, length-append}
use Rattle.std.proofs.Math.Seq.{get_or-append_seam}
use Rattle.ty_basis.specs.Types.{name_count}
use Rattle.ty_instance.proofs.Going.{stays-on, whole}
use Rattle.elab_state.specs.Namings.{numbers_at, numbers_of, numbers_after, number_in, IsAbove, ComesBefore, IsNext, AreNext, AreNamings, IsAmong}
use Rattle.elab_typed.specs.Numbers.{KeepsInitial, AgreeBelow}
use Rattle.elab_state.specs.Steps.{Begins}
use Rattle.elab_state.specs.declared.naming.Naming.{Naming}
use Rattle.elab_state.proofs.Begins.{begins-push, begins-split, begins-index}

after-append : (fs : List (ℕ → ℕ)) (a b : List Naming) → numbers_after fs (a ++ b) ≡ numbers_after (numbers_after fs a) b
after-append fs [] b = refl
after-append fs (r ∷ a) b = after-append (fs ++ numbers_of fs r ∷ []) a b

after-begins : (fs : List (ℕ → ℕ)) (rs : List Naming) → Begins fs (numbers_after fs rs)
after-begins fs [] = whole fs
after-begins fs (r ∷ rs) =
    stays-on fs (fs ++ numbers_of fs r ∷ []) (numbers_after (fs ++ numbers_of fs r ∷ []) rs) (begins-push fs _ (numbers_of fs r ∷ []) refl)
    (after-begins (fs ++ numbers_of fs r ∷ []) rs)

after-length : (fs : List (ℕ → ℕ)) (rs : List Naming) → length (numbers_after fs rs) ≡ length fs + length rs
after-length fs [] = omega arith
after-length fs (r ∷ rs) =
    let a = after-length (fs ++ numbers_of fs r ∷ []) rs in
    let b = length-append fs (numbers_of fs r ∷ []) in
    omega arith

-- what a naming says stays
pub number-stays : (rs qs : List Naming) (o : Option ℕ) (n : ℕ) → Begins rs qs → IsAmong (length rs) o → number_in qs o n ≡ number_in rs o n
number-stays rs qs None n e h = refl
number-stays rs qs (Some k) n e h = ap (λ f. f n) (begins-index (numbers_after [] rs) (numbers_after [] qs) k (λ x. x) begins (let a = after-length [] rs in omega arith))
  where
    begins : Begins (numbers_after [] rs) (numbers_after [] qs)
    begins = subst (Begins (numbers_after [] rs)) (sym (ap (numbers_after []) (begins-split rs qs e) ∙ after-append [] rs (drop (length rs) qs)))
        (after-begins (numbers_after [] rs) (drop (length rs) qs))

-- the numbers of a new row
pub new-number : (rs : List Naming) (r : Naming) (n : ℕ) → number_in (rs ++ r ∷ []) (Some (length rs)) n ≡ (if nat_eq r.stamp n then r.number else number_in rs r.before n)
new-number rs r n = ap (λ f. f n) (ap (λ l. get_or l (length rs) (λ x. x)) (after-append [] rs (r ∷ [])) ∙ ap (λ k. get_or (numbers_after [] rs ++ numbers_of (numbers_after [] rs) r ∷ []) k (λ x. x)) len
    ∙ get_or-append_seam (numbers_after [] rs) (numbers_of (numbers_after [] rs) r) [] (λ x. x))
  where
    len : length rs ≡ length (numbers_after [] rs)
    len = let a = after-length [] rs in omega arith

other-number : (b : Bool) (m k : ℕ) → b ≡ false → (if b then m else k) ≡ k
other-number true m k e = cc
other-number false m k e = refl

apart : (m n count : ℕ) → nat_lt n count ≡ true → count ≤ m → nat_eq m n ≡ false
apart m n count h l = by (nat_eq m n) refl
  where
    by : (b : Bool) → nat_eq m n ≡ b → b ≡ false
    by true e = absurd (let a = eqb-true m n e in let c = ltb-true n count h in omega arith)
    by false e = refl

-- names before the new one have the numbers that they had
pub new-agrees : (rs : List Naming) (r : Naming) → AgreeBelow r.stamp (number_in rs r.before) (number_in (rs ++ r ∷ []) (Some (length rs)))
new-agrees rs r n h = new-number rs r n ∙ other-number (nat_eq r.stamp n) r.number (number_in rs r.before n) (apart r.stamp n r.stamp h (omega arith))

-- names of the basis keep theirs

abbrev AllKeep : List (ℕ → ℕ) → Type 0
AllKeep fs = (k : ℕ) → KeepsInitial (get_or fs k (λ x. x))

at-keeps : (fs : List (ℕ → ℕ)) (o : Option ℕ) → AllKeep fs → KeepsInitial (numbers_at fs o)
at-keeps fs None h = λ n l. refl
at-keeps fs (Some k) h = h k

of-keeps : (fs : List (ℕ → ℕ)) (r : Naming) → name_count ≤ r.stamp → AllKeep fs → KeepsInitial (numbers_of fs r)
of-keeps fs r l h n i = other-number (nat_eq r.stamp n) r.number (numbers_at fs r.before n) (apart r.stamp n name_count i l) ∙ at-keeps fs r.before h n i

push-keeps : (fs : List (ℕ → ℕ)) (f : ℕ → ℕ) → AllKeep fs → KeepsInitial f → AllKeep (fs ++ f ∷ [])
push-keeps [] f h k zero = k
push-keeps [] f h k (suc i) = h i
push-keeps (g ∷ fs) f h k zero = h 0
push-keeps (g ∷ fs) f h k (suc i) = push-keeps fs f (λ j. h (suc j)) k i

after-keep : (fs : List (ℕ → ℕ)) (qs rs : List Naming) → AllKeep fs → AreNext qs rs → AllKeep (numbers_after fs rs)
after-keep fs qs [] h n = h
after-keep fs qs (r ∷ rs) h n = after-keep (fs ++ numbers_of fs r ∷ []) (qs ++ r ∷ []) rs (push-keeps fs (numbers_of fs r) h (of-keeps fs r n.0.beyond h)) n.1

pub keeps-initial : (rs : List Naming) (o : Option ℕ) → AreNamings rs → KeepsInitial (number_in rs o)
keeps-initial rs o h = at-keeps (numbers_after [] rs) o (after-keep [] [] rs (λ k n l. refl) h)

-- one more row

next-append : (qs rs : List Naming) (r : Naming) → AreNext qs rs → IsNext (qs ++ rs) r → AreNext qs (rs ++ r ∷ [])
next-append qs [] r h n = (subst (λ l. IsNext l r) (append-nil qs) n, tt)
next-append qs (q ∷ rs) r h n = (h.0, next-append (qs ++ q ∷ []) rs r h.1 (subst (λ l. IsNext l r) (sym (append_assoc qs (q ∷ []) rs)) n))

pub namings-push : (b : Bool) (rs new : List Naming) (r : Naming) → new ≡ (if b then rs ++ r ∷ [] else rs) → AreNamings rs → IsNext rs r → AreNamings new
namings-push true rs new r e h n = subst AreNamings (sym e) (next-append [] rs r h n)
namings-push false rs new r e h n = subst AreNamings (sym e) h

-- what the new row says
module _ (rs new : List Naming) (r : Naming) (k : ℕ) (is : new ≡ rs ++ r ∷ []) (at : k ≡ length rs) where
  abbrev row-is : (P : List Naming → ℕ → Type 0) → P (rs ++ r ∷ []) (length rs) → P new k
  row-is P h = subst (λ j. P new j) (sym at) (subst (λ l. P l (length rs)) (sym is) h)

  pub row-last : ComesBefore new (Some k) (r.stamp + 1)
  row-last = row-is (λ l j. ComesBefore l (Some j) (r.stamp + 1)) (subst (IsAbove (r.stamp + 1)) (sym (slice_get_last rs)) (let a : r.stamp < r.stamp + 1 = omega arith in a))
    where
      slice_get_last : (l : List Naming) → slice_get (l ++ r ∷ []) (length l) ≡ Some r
      slice_get_last [] = refl
      slice_get_last (x ∷ l) = slice_get_last l

  pub row-named : number_in new (Some k) r.stamp ≡ r.number
  row-named = row-is (λ l j. number_in l (Some j) r.stamp ≡ r.number) (new-number rs r r.stamp ∙ ap (λ b. if b then r.number else number_in rs r.before r.stamp) (eq-eqb r.stamp r.stamp refl))

  pub row-agrees : AgreeBelow r.stamp (number_in rs r.before) (number_in new (Some k))
  row-agrees = row-is (λ l j. AgreeBelow r.stamp (number_in rs r.before) (number_in l (Some j))) (new-agrees rs r)

  pub row-keeps : AreNamings rs → IsNext rs r → KeepsInitial (number_in new (Some k))
  row-keeps h n = row-is (λ l j. KeepsInitial (number_in l (Some j))) (keeps-initial (rs ++ r ∷ []) (Some (length rs)) (next-append [] rs r h n))
