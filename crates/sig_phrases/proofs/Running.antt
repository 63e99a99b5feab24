-- Loops that read one phrase a turn, in a state: what was read so far, how deep it is, and what the state comes to.
use Rattle.std.proofs.Common.{◌≡◌, ℕ, ◌<◌, ◌≤◌, List, [], ◌++◌, length, max, refl, sym, ap, ◌∙◌, arith, append_assoc}
use Rattle.sml_tree.specs.Terminal.{Terminal}
use Rattle.sml_grammar.specs.Answer.{Answer, read, Turn, last, more, whole}
use Rattle.phrase_base.specs.declared.stop.Stop.{Stop}
use Rattle.phrase_base.specs.Gives.{Fails}
use Rattle.phrase_base.proofs.Loop.{Going, going-start, going-more, going-last, going-fails}

-- what stands in `done` was read, the deepest is d deep; `after` says what all comes to from a state
pub record Running {B S V F : Type 0} (step : S → List Terminal → Answer (Turn B S)) (after : S → B → F) (view : B → List V) (dep : B → ℕ) (n : ℕ) (s0 s : S) (i : List Terminal) (done : List V) (d : ℕ) (total : Answer B) : Type 0 where
  pub put : B → B
  pub going : Going step s i put total
  pub shows : (b : B) → view (put b) ≡ done ++ view b
  pub deep : (b : B) → dep (put b) ≡ max d (dep b)
  pub force : (b : B) → after s0 (put b) ≡ after s b
  pub fits : d ≤ n

pub record Ran {B V F : Type 0} (after : B → F) (view : B → List V) (dep : B → ℕ) (n : ℕ) (end_ : F) (done : List V) (d : ℕ) (total : Answer B) (o : List Terminal) : Type 0 where
  pub tree : B
  pub is : total ≡ read tree o
  pub shows : done ≡ view tree
  pub deep : d ≡ dep tree
  pub fits : dep tree ≤ n
  pub force : end_ ≡ after tree

module _ {B S V F : Type 0} (step : S → List Terminal → Answer (Turn B S)) (after : S → B → F) (view : B → List V) (dep : B → ℕ) (n : ℕ) (s0 : S) where
  pub run-start : (i : List Terminal) (done : List V) → done ≡ [] → Running step after view dep n s0 s0 i done 0 (whole step s0 i)
  run-start i done e = record { put = λ b. b; going = going-start step s0 i; shows = λ b. rw e refl; deep = λ b. omega arith; force = λ b. refl; fits = omega arith }

  module _ {s : S} {i : List Terminal} {done : List V} {d : ℕ} {total : Answer B} (g : Running step after view dep n s0 s i done d total) where
    pub run-skip : (t : S) (m : List Terminal) → step s i ≡ read (more (λ b. b) t) m → length m < length i → ((b : B) → after s b ≡ after t b) → Running step after view dep n s0 t m done d total
    run-skip t m h lt same = record { put = g.put; going = going-more step h lt g.going; shows = g.shows; deep = g.deep; force = λ b. g.force b ∙ same b; fits = g.fits }

    pub run-more : (t : S) (m : List Terminal) (c : B → B) (vs : List V) (e : ℕ) (done2 : List V) (d2 : ℕ) → step s i ≡ read (more c t) m → length m < length i → ((b : B) → view (c b) ≡ vs ++ view b) → ((b : B) → dep (c b) ≡ max e (dep b)) →
        ((b : B) → after s (c b) ≡ after t b) → e ≤ n → done2 ≡ done ++ vs → d2 ≡ max e d → Running step after view dep n s0 t m done2 d2 total
    run-more t m c vs e done2 d2 h lt sees deeper same le p q =
        record {
          put = λ b. g.put (c b);
          going = going-more step h lt g.going;
          shows = λ b. g.shows (c b) ∙ ap (λ (x : List V). done ++ x) (sees b) ∙ sym (append_assoc done vs (view b)) ∙ ap (λ (x : List V). x ++ view b) (sym p);
          deep = λ b. deepest b (g.deep (c b)) (deeper b);
          force = λ b. g.force (c b) ∙ same b;
          fits = (let f = g.fits in omega arith);
        }
      where
        deepest : (b : B) → dep (g.put (c b)) ≡ max d (dep (c b)) → dep (c b) ≡ max e (dep b) → dep (g.put (c b)) ≡ max d2 (dep b)
        deepest b x y = omega arith

    pub run-last : (o : List Terminal) (b : B) (vs : List V) (e : ℕ) (done2 : List V) (d2 : ℕ) → step s i ≡ read (last b) o → view b ≡ vs → dep b ≡ e → e ≤ n → done2 ≡ done ++ vs → d2 ≡ max e d →
        Ran (after s0) view dep n (after s b) done2 d2 total o
    run-last o b vs e done2 d2 h sees deeper le p q =
        let x = g.deep b in let f = g.fits in
        record {
          tree = g.put b;
          is = going-last step h g.going;
          shows = p ∙ ap (λ (z : List V). done ++ z) (sym sees) ∙ sym (g.shows b);
          deep = omega arith;
          fits = omega arith;
          force = sym (g.force b);
        }

    pub run-fails : (e : Stop) → Fails e (step s i) → Fails e total
    run-fails e h = going-fails step e h g.going
