-- Loops that read lists: what was read so far, and how deep it is.
use Rattle.std.proofs.Common.{◌≡◌, ℕ, ◌<◌, ◌≤◌, List, [], ◌∷◌, ◌++◌, length, max, refl, sym, ap, ◌∙◌, subst, arith, append_assoc}
use Rattle.sml_tree.specs.Terminal.{Terminal}
use Rattle.sml_grammar.specs.Answer.{Answer, ok, bad, deep, read, Turn, last, more, whole}
use Rattle.phrase_base.specs.declared.stop.Stop.{Stop}
use Rattle.phrase_base.specs.Gives.{Fails}
use Rattle.phrase_base.proofs.Loop.{Going, going-start, going-more, going-last, going-fails}

-- the elements `done` were read, the deepest is d deep, and `start` with its depth d0 stood before what the loop reads
pub record Listing {B S V : Type 0} (step : S → List Terminal → Answer (Turn B S)) (s : S) (i : List Terminal) (view : B → List V) (dep : B → ℕ) (n : ℕ) (start : List V) (d0 : ℕ) (done : List V) (d : ℕ) (total : Answer B) : Type 0 where
  pub put : B → B
  pub going : Going step s i put total
  pub shows : (b : B) → start ++ view (put b) ≡ done ++ view b
  pub deep : (b : B) → max d0 (dep (put b)) ≡ max d (dep b)
  pub fits : d ≤ n

pub record Listed {B V : Type 0} (view : B → List V) (dep : B → ℕ) (n : ℕ) (start : List V) (d0 : ℕ) (done : List V) (d : ℕ) (total : Answer B) (o : List Terminal) : Type 0 where
  pub tree : B
  pub is : total ≡ read tree o
  pub shows : start ++ view tree ≡ done
  pub deep : max d0 (dep tree) ≡ d
  pub fits : d ≤ n

module _ {B S V : Type 0} (step : S → List Terminal → Answer (Turn B S)) (view : B → List V) (dep : B → ℕ) (n : ℕ) (start : List V) (d0 : ℕ) where
  pub listing-start : (s : S) (i : List Terminal) → d0 ≤ n → Listing step s i view dep n start d0 start d0 (whole step s i)
  listing-start s i le = record { put = λ b. b; going = going-start step s i; shows = λ b. refl; deep = λ b. refl; fits = le }

  pub listing-more : {s t : S} {i m : List Terminal} {c : B → B} (v : V) (e : ℕ) {done : List V} {d : ℕ} {total : Answer B} → step s i ≡ read (more c t) m → length m < length i → ((b : B) → view (c b) ≡ v ∷ view b) → ((b : B) → dep (c b) ≡ max e (dep b)) → e ≤ n →
      Listing step s i view dep n start d0 done d total → Listing step t m view dep n start d0 (done ++ v ∷ []) (max e d) total
  listing-more {s} {t} {i} {m} {c} v e {done} {d} {total} h lt sees deeper le g =
      record {
        put = λ b. g.put (c b);
        going = going-more step h lt g.going;
        shows = λ b. g.shows (c b) ∙ ap (λ (x : List V). done ++ x) (sees b) ∙ sym (append_assoc done (v ∷ []) (view b));
        deep = λ b. let p = g.deep (c b) in let q = deeper b in deep-more b p q;
        fits = (let f = g.fits in omega arith);
      }
    where
      deep-more : (b : B) → max d0 (dep (g.put (c b))) ≡ max d (dep (c b)) → dep (c b) ≡ max e (dep b) → max d0 (dep (g.put (c b))) ≡ max (max e d) (dep b)
      deep-more b p q = omega arith

  pub listing-last : {s : S} {i o : List Terminal} {b : B} (vs : List V) (e : ℕ) {done : List V} {d : ℕ} {total : Answer B} → step s i ≡ read (last b) o → view b ≡ vs → dep b ≡ e → e ≤ n →
      Listing step s i view dep n start d0 done d total → Listed view dep n start d0 (done ++ vs) (max e d) total o
  listing-last {s} {i} {o} {b} vs e {done} {d} {total} h sees deeper le g =
      record { tree = g.put b; is = going-last step h g.going; shows = g.shows b ∙ ap (λ (x : List V). done ++ x) sees; deep = (let p = g.deep b in omega arith); fits = (let f = g.fits in omega arith) }

  pub listing-fails : (e : Stop) {s : S} {i : List Terminal} {done : List V} {d : ℕ} {total : Answer B} → Fails e (step s i) → Listing step s i view dep n start d0 done d total → Fails e total
  listing-fails e h g = going-fails step e h g.going

  pub listing-at : {s : S} {i : List Terminal} {done done2 : List V} {d d2 : ℕ} {total : Answer B} → done2 ≡ done → d2 ≡ d → Listing step s i view dep n start d0 done d total → Listing step s i view dep n start d0 done2 d2 total
  listing-at {s} {i} {done} {done2} {d} {d2} {total} e1 e2 g = subst (λ (z : List V). Listing step s i view dep n start d0 z d2 total) (sym e1) (subst (λ (k : ℕ). Listing step s i view dep n start d0 done k total) (sym e2) g)

-- a mark of the tree that the loop's last turn gives, and that nothing before changes
pub record Marking {B S M : Type 0} (step : S → List Terminal → Answer (Turn B S)) (s : S) (i : List Terminal) (mark : B → M) (total : Answer B) : Type 0 where
  pub put : B → B
  pub going : Going step s i put total
  pub keeps : (b : B) → mark (put b) ≡ mark b

pub record Marked {B M : Type 0} (mark : B → M) (v : M) (total : Answer B) (o : List Terminal) : Type 0 where
  pub tree : B
  pub is : total ≡ read tree o
  pub marks : mark tree ≡ v

module _ {B S M : Type 0} (step : S → List Terminal → Answer (Turn B S)) (mark : B → M) where
  pub marking-start : (s : S) (i : List Terminal) → Marking step s i mark (whole step s i)
  marking-start s i = record { put = λ b. b; going = going-start step s i; keeps = λ b. refl }

  pub marking-more : {s t : S} {i m : List Terminal} {c : B → B} {total : Answer B} → step s i ≡ read (more c t) m → length m < length i → ((b : B) → mark (c b) ≡ mark b) → Marking step s i mark total → Marking step t m mark total
  marking-more {s} {t} {i} {m} {c} {total} h lt k g = record { put = λ b. g.put (c b); going = going-more step h lt g.going; keeps = λ b. g.keeps (c b) ∙ k b }

  pub marking-last : {s : S} {i o : List Terminal} {b : B} (v : M) {total : Answer B} → step s i ≡ read (last b) o → mark b ≡ v → Marking step s i mark total → Marked mark v total o
  marking-last {s} {i} {o} {b} v {total} h e g = record { tree = g.put b; is = going-last step h g.going; marks = g.keeps b ∙ e }

tree_in : {B : Type 0} → B → Answer B → B
tree_in d (ok r) = r.tree
tree_in d bad = d
tree_in d deep = d

module _ {B : Type 0} where
  pub same-tree : {a : Answer B} {x y : B} {o p : List Terminal} → a ≡ read x o → a ≡ read y p → x ≡ y
  unfolding tree_in
  same-tree {a} {x} {y} {o} {p} h k = ap (tree_in x) (sym h ∙ k)
