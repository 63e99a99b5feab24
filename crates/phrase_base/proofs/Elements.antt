-- Lists of one element or more that a word parts: each element is read by a reader of its own.
use Rattle.std.proofs.Common.{◌≡◌, ℕ, ◌<◌, ◌≤◌, List, [], ◌∷◌, ◌++◌, length, map, max, Some, None, refl, sym, ap, ◌∙◌, subst, arith}
use Rattle.std.proofs.lemmas.List.{map_push}
use Rattle.mlc_names.specs.declared.token.Reserved.{Reserved}
use Rattle.sml_tree.specs.Terminal.{Terminal}
use Rattle.sml_grammar.specs.Answer.{Read, Answer, ok, read, then_read, Turn, last, more, whole}
use Rattle.sml_grammar.specs.Terminals.{after_word, separated, NoState, no_state}
use Rattle.phrase_base.specs.declared.stop.Stop.{Stop}
use Rattle.phrase_base.specs.Gives.{Fails}
use Rattle.phrase_base.proofs.Loop.{fails-then, fails-by}
use Rattle.phrase_base.proofs.Shorter.{word-shorter}
use Rattle.phrase_base.proofs.Listing.{Listing, listing-start, listing-more, listing-last, listing-fails}

-- the elements `all` were read, the deepest is d deep
abbrev pub Elements : {X A V : Type 0} → (NoState → List Terminal → Answer (Turn (List A) NoState)) → (X → V) → (A → V) → (List A → ℕ) → ℕ → List Terminal → List X → ℕ → Answer (List A) → Type 0
Elements step of view deps n i all d total = Listing step no_state i (map view) deps n [] 0 (map of all) d total

pub record ReadAll {X A V : Type 0} (of : X → V) (view : A → V) (deps : List A → ℕ) (n : ℕ) (all : List X) (d : ℕ) (total : Answer (List A)) (o : List Terminal) : Type 0 where
  pub tree : List A
  pub is : total ≡ read tree o
  pub bare : map of all ≡ map view tree
  pub deep : d ≡ deps tree
  pub fits : deps tree ≤ n

module _ {X A V : Type 0} (step : NoState → List Terminal → Answer (Turn (List A) NoState)) (of : X → V) (view : A → V) (deps : List A → ℕ) (n : ℕ) where
  pub elements-start : (i : List Terminal) → Elements step of view deps n i [] 0 (whole step no_state i)
  elements-start i = listing-start step (map view) deps n [] 0 no_state i (omega arith)

  pushed : (all : List X) (x : X) (a : A) → of x ≡ view a → map of (all ++ x ∷ []) ≡ map of all ++ view a ∷ []
  pushed all x a h = map_push of all x ∙ ap (λ (z : V). map of all ++ z ∷ []) h

  pub elements-more : {i m : List Terminal} {a : A} {x : X} (e : ℕ) (all : List X) {d : ℕ} {total : Answer (List A)} → step no_state i ≡ read (more (λ as_. a ∷ as_) no_state) m → length m < length i → of x ≡ view a →
      ((as_ : List A) → deps (a ∷ as_) ≡ max e (deps as_)) → e ≤ n → Elements step of view deps n i all d total → Elements step of view deps n m (all ++ x ∷ []) (max e d) total
  elements-more {m} {a} {x} e all {d} {total} h lt same deeper le g =
      subst (λ (z : List V). Listing step no_state m (map view) deps n [] 0 z (max e d) total) (sym (pushed all x a same))
      (listing-more step (map view) deps n [] 0 (view a) e h lt (λ b. refl) deeper le g)

  pub elements-last : {i o : List Terminal} {a : A} {x : X} (e : ℕ) (all : List X) {d : ℕ} {total : Answer (List A)} → step no_state i ≡ read (last (a ∷ [])) o → of x ≡ view a →
      deps (a ∷ []) ≡ e → e ≤ n → Elements step of view deps n i all d total → ReadAll of view deps n (all ++ x ∷ []) (max e d) total o
  elements-last {a} {x} e all {d} h same deeper le g =
      let l = listing-last step (map view) deps n [] 0 (view a ∷ []) e h refl deeper le g in
      let p = l.deep in let q = l.fits in
      record { tree = l.tree; is = l.is; bare = pushed all x a same ∙ sym l.shows; deep = omega arith; fits = omega arith }

  pub elements-fail : (e : Stop) {i : List Terminal} (all : List X) {d : ℕ} {total : Answer (List A)} → Fails e (step no_state i) → Elements step of view deps n i all d total → Fails e total
  elements-fail e all h g = listing-fails step (map view) deps n [] 0 e h g

-- a turn reads an element, and then looks for the word
abbrev pub Turns : {A : Type 0} → (NoState → List Terminal → Answer (Turn (List A) NoState)) → (List Terminal → Answer A) → Reserved → Type 0
Turns {A} step one w = (i : List Terminal) → step no_state i ≡ then_read (one i) (λ b o. separated (after_word w o) (λ bs. b ∷ bs) (b ∷ []) no_state o)

module _ {X A V : Type 0} (step : NoState → List Terminal → Answer (Turn (List A) NoState)) (one : List Terminal → Answer A) (w : Reserved) (turn : Turns step one w) (of : X → V) (view : A → V) (dep : A → ℕ) (deps : List A → ℕ) (n : ℕ)
    (deeper : (a : A) (as_ : List A) → deps (a ∷ as_) ≡ max (dep a) (deps as_)) (no : deps [] ≡ 0) where
  pub parted-more : {i m : List Terminal} {x : X} {e : ℕ} (all : List X) {d : ℕ} {total : Answer (List A)} (got : Read A) → one i ≡ ok got → of x ≡ view got.tree → e ≡ dep got.tree → dep got.tree ≤ n → length got.rest < length i →
      after_word w got.rest ≡ Some m → Elements step of view deps n i all d total → Elements step of view deps n m (all ++ x ∷ []) (max e d) total
  parted-more {i} {m} {x} {e} all {d} {total} got is same deep le lt sep g =
      let s : step no_state i ≡ read (more (λ bs. got.tree ∷ bs) no_state) m = turn i ∙ rw (is, sep) refl in
      let lt2 = word-shorter w got.rest m sep in
      elements-more step of view deps n e all s (omega arith) same (λ as_. deeper got.tree as_ ∙ ap (λ (k : ℕ). max k (deps as_)) (sym deep)) (omega arith) g

  pub parted-last : {i : List Terminal} {x : X} {e : ℕ} (all : List X) {d : ℕ} {total : Answer (List A)} (got : Read A) → one i ≡ ok got → of x ≡ view got.tree → e ≡ dep got.tree → dep got.tree ≤ n →
      after_word w got.rest ≡ None → Elements step of view deps n i all d total → ReadAll of view deps n (all ++ x ∷ []) (max e d) total got.rest
  parted-last {i} {x} {e} all {d} {total} got is same deep le sep g =
      let s : step no_state i ≡ read (last (got.tree ∷ [])) got.rest = turn i ∙ rw (is, sep) refl in
      let p = deeper got.tree [] in
      elements-last step of view deps n e all s same (omega arith) (omega arith) g

  pub parted-fail : (e : Stop) {i : List Terminal} (all : List X) {d : ℕ} {total : Answer (List A)} → Fails e (one i) → Elements step of view deps n i all d total → Fails e total
  parted-fail e {i} all h g = elements-fail step of view deps n e all (fails-by e (step no_state i) _ (turn i) (fails-then e (one i) (λ b o. separated (after_word w o) (λ bs. b ∷ bs) (b ∷ []) no_state o) h)) g
