-- Places of labels that are noted one after the other.
use Rattle.std.proofs.Common.{◌≡◌, ◌<◌, ◌+◌, ℕ, zero, suc, Bool, true, false, cond, nat_eq, List, [], ◌∷◌, ◌++◌, length, take, get_or, Option, Some, None, MatchOption, refl, sym, ap, subst, ◌∙◌, arith}
use Rattle.std.proofs.lemmas.Bool.{false≢true, eqb-true, eq-eqb}
use Rattle.std.proofs.lemmas.List.{take-append-le}
use Rattle.mlc_names.specs.declared.label.Label.{Label}
use Rattle.mlc_names.specs.declared.label.Label.TheVariants.{Number, Word}
use Rattle.ty_solve.specs.Rows.{Among}
use Rattle.ty_solve.specs.Fields.{IsPlace}
use Rattle.ty_solve.specs.Places.{label_key, AreNoted}
use Rattle.ty_solve.proofs.Falling.{snoc-length}
use Rattle.ty_solve.proofs.FieldLists.{place-next}

keys-apart : (k l : Label) → label_key k ≡ label_key l → k ≡ l
keys-apart (Number m) (Number n) e = let p : m ≡ n = omega arith in ap Number p
keys-apart (Number m) (Word y) e = absurd (omega arith)
keys-apart (Word x) (Number n) e = absurd (omega arith)
keys-apart (Word x) (Word y) e = let p : x ≡ y = omega arith in ap Word p

pub noted-none : (ls : List Label) (places : ℕ → Option ℕ) → ((q : ℕ) → places q ≡ None) → AreNoted ls 0 places
noted-none ls places e l = subst (λ o. MatchOption o (Among l [] → ⊥) (IsPlace ls 0 l)) (sym (e (label_key l))) (λ h. h)

pub noted-more : (ls : List Label) (n : ℕ) (x : Label) (old new : ℕ → Option ℕ) → n < length ls → x ≡ get_or ls n x → ((q : ℕ) → new q ≡ cond (nat_eq (label_key x) q) (Some n) (old q)) → AreNoted ls n old → AreNoted ls (n + 1) new
noted-more ls n x old new lt e u h l =
    let m : suc n ≡ n + 1 = omega arith in
    subst (λ i. MatchOption (new (label_key l)) (Among l (take i ls) → ⊥) (IsPlace ls i l)) m (subst (λ o. MatchOption o (Among l (take (suc n) ls) → ⊥) (IsPlace ls (suc n) l)) (sym (u (label_key l))) (go (nat_eq (label_key x) (label_key l)) refl))
  where
    keep : (x ≡ l → ⊥) → (o : Option ℕ) → MatchOption o (Among l (take n ls) → ⊥) (IsPlace ls n l) → MatchOption o (Among l (take (suc n) ls) → ⊥) (IsPlace ls (suc n) l)
    keep ne None g = place-next l x ls n lt e ne g
    keep ne (Some i) g = record { in_range = let p = g.in_range in omega arith; is = g.is }

    go : (b : Bool) → nat_eq (label_key x) (label_key l) ≡ b → MatchOption (cond b (Some n) (old (label_key l))) (Among l (take (suc n) ls) → ⊥) (IsPlace ls (suc n) l)
    go true c = record { in_range = omega arith; is = subst (λ z. z ≡ get_or ls n z) (keys-apart x l (eqb-true (label_key x) (label_key l) c)) e }
    go false c = keep (λ p. false≢true (sym c ∙ eq-eqb (label_key x) (label_key l) (ap label_key p))) (old (label_key l)) (h l)

front-get : (ls rest : List Label) (i : ℕ) (d : Label) → i < length ls → get_or (ls ++ rest) i d ≡ get_or ls i d
front-get [] rest i d lt = absurd (omega arith)
front-get (x ∷ ls) rest zero d lt = refl
front-get (x ∷ ls) rest (suc i) d lt = front-get ls rest i d (omega arith)

-- more labels behind those that are noted
pub noted-front : (ls rest all : List Label) (n : ℕ) (places : ℕ → Option ℕ) → n ≡ length ls → all ≡ ls ++ rest → AreNoted ls n places → AreNoted all n places
noted-front ls rest all n places e p h = subst (λ z. AreNoted z n places) (sym p) (λ l. go l (places (label_key l)) (h l))
  where
    go : (l : Label) (o : Option ℕ) → MatchOption o (Among l (take n ls) → ⊥) (IsPlace ls n l) → MatchOption o (Among l (take n (ls ++ rest)) → ⊥) (IsPlace (ls ++ rest) n l)
    go l None g = subst (λ z. Among l z → ⊥) (sym (take-append-le n ls rest (omega arith))) g
    go l (Some i) g = record { in_range = g.in_range; is = g.is ∙ sym (front-get ls rest i l (let lt = g.in_range in omega arith)) }

pushed-last : (ls : List Label) (x : Label) → get_or (ls ++ x ∷ []) (length ls) x ≡ x
pushed-last [] x = refl
pushed-last (y ∷ ls) x = pushed-last ls x

-- one more label, which is noted
pub noted-push : (ls all : List Label) (x : Label) (at : ℕ) (places later : ℕ → Option ℕ) → at ≡ length ls → all ≡ ls ++ x ∷ [] → ((l : List Label) → AreNoted l at places → at < length l → x ≡ get_or l at x → AreNoted l (at + 1) later) → AreNoted ls (length ls) places → AreNoted all (length all) later
noted-push ls all x at places later e p more h =
    let n : length all ≡ suc (length ls) = ap length p ∙ snoc-length ls x in
    let m : at + 1 ≡ length all = omega arith in
    let is : x ≡ get_or all at x = sym (ap (λ l. get_or l at x) p ∙ ap (λ i. get_or (ls ++ x ∷ []) i x) e ∙ pushed-last ls x) in
    subst (λ i. AreNoted all i later) m (more all (noted-front ls (x ∷ []) all at places e p (subst (λ i. AreNoted ls i places) (sym e) h)) (omega arith) is)
