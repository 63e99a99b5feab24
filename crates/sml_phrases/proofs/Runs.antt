-- Runs of identifiers with nothing between them: one or more, as many as there are.
use Rattle.std.proofs.Common.{◌≡◌, ℕ, suc, ◌+◌, ◌<◌, ◌≤◌, List, [], ◌∷◌, ◌++◌, length, map, Option, Some, None, refl, sym, ap, ◌∙◌, subst, arith, append_assoc}
use Rattle.std.proofs.lemmas.List.{map_push}
use Rattle.sml_tree.specs.Terminal.{Terminal}
use Rattle.sml_tree.specs.ReadTree.{Placed}
use Rattle.sml_grammar.specs.Answer.{Answer, bad, read, Turn, last, more, whole}
use Rattle.sml_grammar.specs.Terminals.{Taken, taken, first_as, then_taken, separated, NoState, no_state}
use Rattle.sml_grammar.specs.Bindings.{put_more}
use Rattle.phrase_base.specs.declared.stop.Stop.TheVariants as stop
use Rattle.phrase_base.proofs.Loop.{Going, going-start, going-more, going-last, going-fails}
use Rattle.phrase_base.proofs.Shorter.{first-shorter}

abbrev pub run_turn : {B E : Type 0} → (Terminal → Option B) → (Placed B → E) → NoState → List Terminal → Answer (Turn (List E) NoState)
run_turn g elem s i = then_taken (first_as g i) (λ x o. separated (put_more (first_as g o) o) (λ xs. elem x ∷ xs) (elem x ∷ []) s o)

-- `all` were read, and further ones may stand before i
pub record Run {B E X V : Type 0} (g : Terminal → Option B) (elem : Placed B → E) (of : X → V) (view : E → V) (i : List Terminal) (all : List X) (total : Answer (List E)) : Type 0 where
  pub put : List E → List E
  pub shows : (b : List E) → map view (put b) ≡ map of all ++ map view b
  pub goes_on : {x : Taken (Placed B)} → first_as g i ≡ Some x → Going (run_turn g elem) no_state i put total
  pub none : first_as g i ≡ None → all ≡ [] → total ≡ bad
  pub done : first_as g i ≡ None → 0 < length all → total ≡ read (put []) i

length-push : {X : Type 0} (as_ : List X) (y : X) → length (as_ ++ y ∷ []) ≡ suc (length as_)
length-push [] y = refl
length-push (a ∷ as_) y = ap suc (length-push as_ y)

pub run-short : {B X : Type 0} (g : Terminal → Option B) (i m : List Terminal) (p : Placed B) (x : X) (all all2 : List X) (k : ℕ) → first_as g i ≡ taken p m → all2 ≡ all ++ x ∷ [] → length all + length i ≤ k → length all2 + length m ≤ k
run-short g i m p x all all2 k h e le = let a = first-shorter g i p m h in let b = ap length e ∙ length-push all x in omega arith

module _ {B E X V : Type 0} (g : Terminal → Option B) (elem : Placed B → E) (of : X → V) (view : E → V) where
  pub run-start : (i : List Terminal) → Run g elem of view i [] (whole (run_turn g elem) no_state i)
  run-start i = record { put = λ b. b; shows = λ b. refl; goes_on = λ h. going-start (run_turn g elem) no_state i; none = λ h e. fails h; done = λ h lt. absurd (omega arith) }
    where
      fails : first_as g i ≡ None → whole (run_turn g elem) no_state i ≡ bad
      fails h = let one : run_turn g elem no_state i ≡ bad = rw h refl in going-fails (run_turn g elem) (stop.Bad 0) one (going-start (run_turn g elem) no_state i)

  pub run-more : {i m : List Terminal} {p : Placed B} {x : X} (all all2 : List X) {total : Answer (List E)} → first_as g i ≡ taken p m → of x ≡ view (elem p) → all2 ≡ all ++ x ∷ [] → Run g elem of view i all total → Run g elem of view m all2 total
  run-more {i} {m} {p} {x} all all2 {total} h same pushed r = subst (λ (z : List X). Run g elem of view m z total) (sym pushed)
      (record {
        put = λ b. r.put (elem p ∷ b);
        shows = shown;
        goes_on = λ k. going-more (run_turn g elem) (goes k) (first-shorter g i p m h) (r.goes_on h);
        none = λ k e. absurd (let q = ap length e in let l = length-push all x in omega arith);
        done = λ k lt. going-last (run_turn g elem) (ends k) (r.goes_on h);
      })
    where
      shown : (b : List E) → map view (r.put (elem p ∷ b)) ≡ map of (all ++ x ∷ []) ++ map view b
      shown b = r.shows (elem p ∷ b) ∙ sym (append_assoc (map of all) (view (elem p) ∷ []) (map view b)) ∙ ap (λ (z : List V). z ++ map view b) (sym (map_push of all x ∙ ap (λ (z : V). map of all ++ z ∷ []) same))

      goes : {y : Taken (Placed B)} → first_as g m ≡ Some y → run_turn g elem no_state i ≡ read (more (λ xs. elem p ∷ xs) no_state) m
      goes k = rw (h, k) refl

      ends : first_as g m ≡ None → run_turn g elem no_state i ≡ read (last (elem p ∷ [])) m
      ends k = rw (h, k) refl

  pub run-begins : (i : List Terminal) (all : List X) → all ≡ [] → Run g elem of view i all (whole (run_turn g elem) no_state i)
  run-begins i all p = subst (λ (z : List X). Run g elem of view i z (whole (run_turn g elem) no_state i)) (sym p) (run-start i)
