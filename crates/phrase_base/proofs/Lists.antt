-- Loops over lists, where each element and the list are read as one phrase is, and `sep` says whether a further element follows.
use Rattle.std.proofs.Common.{◌≡◌, ℕ, ◌<◌, ◌≤◌, List, [], ◌∷◌, ◌++◌, length, map, max, Option, Some, None, refl, sym, ap, ◌∙◌, subst, arith}
use Rattle.mlc_names.specs.declared.token.Token.{Token}
use Rattle.mlc_names.specs.declared.token.Reserved.{Reserved}
use Rattle.sml_tree.specs.Terminal.{Terminal}
use Rattle.sml_grammar.specs.Answer.{Read, Answer, ok, bad, deep, read, then_read, Turn, last, more, whole}
use Rattle.sml_grammar.specs.Terminals.{after_word, separated, NoState, no_state}
use Rattle.phrase_base.specs.declared.source.Source.{Source}
use Rattle.phrase_base.specs.declared.stop.Stop.{Stop}
use Rattle.phrase_base.specs.Gives.{Fails, Gave}
use Rattle.phrase_base.specs.Left.{left}
use Rattle.phrase_base.specs.TypesRead.{IsOne}
use Rattle.phrase_base.proofs.Loop.{fails-then, fails-by}
use Rattle.phrase_base.proofs.Shorter.{word-shorter}
use Rattle.phrase_base.proofs.Elements.{Elements, elements-start, elements-more, elements-last, elements-fail}

-- then_read twice
pub then-then : {A B C : Type 0} (x : Answer A) (f : A → B) (g : B → List Terminal → Answer C) → then_read x (λ a o. g (f a) o) ≡ then_read (then_read x (λ a o. read (f a) o)) g
then-then (ok r) f g = refl
then-then bad f g = refl
then-then deep f g = refl

abbrev pub Sep : Type 0
Sep = List Terminal → Option (List Terminal)

-- what follows a separator isn't longer
abbrev pub SepLess : Sep → Type 0
SepLess sep = (o m : List Terminal) → sep o ≡ Some m → length m ≤ length o

pub word-less : (w : Reserved) → SepLess (after_word w)
word-less w o m h = let p = word-shorter w o m h in omega arith

-- a turn reads an element, and then looks for a separator
abbrev pub Parts : {A : Type 0} → (NoState → List Terminal → Answer (Turn (List A) NoState)) → (List Terminal → Answer A) → Sep → Type 0
Parts {A} step one sep = (i : List Terminal) → step no_state i ≡ then_read (one i) (λ b o. separated (sep o) (λ bs. b ∷ bs) (b ∷ []) no_state o)

-- what was read is one element longer, and less is left
pub record Further {X A V : Type 0} (step : NoState → List Terminal → Answer (Turn (List A) NoState)) (of : X → V) (view : A → V) (deps : List A → ℕ) (n : ℕ) (i m : List Terminal) (all : List X) (d : ℕ) (total : Answer (List A)) : Type 0 where
  pub going : Elements step of view deps n m all d total
  pub short : length m < length i

pub list-start : {X A V : Type 0} (step : NoState → List Terminal → Answer (Turn (List A) NoState)) (of : X → V) (view : A → V) (deps : List A → ℕ) (n : ℕ) (i : List Terminal) (all : List X) → all ≡ [] →
    Elements step of view deps n i all 0 (whole step no_state i)
list-start {X} step of view deps n i all p = subst (λ (z : List X). Elements step of view deps n i z 0 (whole step no_state i)) (sym p) (elements-start step of view deps n i)

module _ {X A V : Type 0} (step : NoState → List Terminal → Answer (Turn (List A) NoState)) (one : List Terminal → Answer A) (sep : Sep) (less : SepLess sep) (turn : Parts step one sep) (of : X → V) (view : A → V) (dep : A → ℕ) (deps : List A → ℕ)
    (deeper : (a : A) (as_ : List A) → deps (a ∷ as_) ≡ max (dep a) (deps as_)) (no : deps [] ≡ 0) (s : Source) (n : ℕ) (i : List Terminal) (all : List X) (d : ℕ) (total : Answer (List A)) where
  pub list-fail : (e : Stop) → Fails e (one i) → Elements step of view deps n i all d total → Fails e total
  list-fail e h g = elements-fail step of view deps n e all (fails-by e (step no_state i) _ (turn i) (fails-then e (one i) (λ b o. separated (sep o) (λ bs. b ∷ bs) (b ∷ []) no_state o) h)) g

  module _ (all2 : List X) (d2 : ℕ) (x : X) (e : ℕ) (o : List Token) (got : Read A) (h : one i ≡ ok got) (is : IsOne of view dep s n i x e o got) (p : all2 ≡ all ++ x ∷ []) (q : d2 ≡ max e d) (g : Elements step of view deps n i all d total) where
    one-more : (m : List Terminal) → sep got.rest ≡ Some m → length m < length i → Elements step of view deps n m (all ++ x ∷ []) (max e d) total
    one-more m c lt =
        let t : step no_state i ≡ read (more (λ bs. got.tree ∷ bs) no_state) m = turn i ∙ rw (h, c) refl in
        let f = is.fits in let y = is.depth in
        elements-more step of view deps n e all t lt is.same (λ as_. deeper got.tree as_ ∙ ap (λ (k : ℕ). max k (deps as_)) (sym is.depth)) (omega arith) g

    pub list-more : {m : List Terminal} → sep (left s o) ≡ Some m → Further step of view deps n i m all2 d2 total
    list-more {m} c =
        let c2 : sep got.rest ≡ Some m = subst (λ (z : List Terminal). sep z ≡ Some m) is.rest c in
        let l = less got.rest m c2 in let k = is.shorter in
        let lt : length m < length i = omega arith in
        record {
          going = subst (λ (k : ℕ). Elements step of view deps n m all2 k total) (sym q) (subst (λ (z : List X). Elements step of view deps n m z (max e d) total) (sym p) (one-more m c2 lt));
          short = lt;
        }

    pub list-last : (j : List Terminal) → sep (left s o) ≡ None → length i ≤ length j → Gave (λ (xs : List X) r. IsOne (map of) (map view) deps s n j xs d2 o r) all2 total
    list-last j c le =
        let c2 : sep got.rest ≡ None = subst (λ (z : List Terminal). sep z ≡ None) is.rest c in
        let t : step no_state i ≡ read (last (got.tree ∷ [])) got.rest = turn i ∙ rw (h, c2) refl in
        let f = is.fits in let y = is.depth in let z = deeper got.tree [] in
        let l = elements-last step of view deps n e all t is.same (omega arith) (omega arith) g in
        let lt = is.shorter in
        record { got = record { tree = l.tree; rest = got.rest }; is = l.is; same = record { rest = is.rest; same = ap (map of) p ∙ l.bare; depth = q ∙ l.deep; fits = l.fits; shorter = omega arith } }
