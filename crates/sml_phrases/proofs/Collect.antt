-- Loops that collect what their turns read.
use Rattle.std.proofs.Common.{◌≡◌, ℕ, max, ◌<◌, ◌≤◌, List, [], ◌∷◌, ◌++◌, length, Some, None, refl, sym, ap, ◌∙◌, subst, arith, append_assoc}
use Rattle.std.proofs.lemmas.List.{append-nil}
use Rattle.mlc_names.specs.declared.token.Token.{Token}
use Rattle.sml_tree.specs.Terminal.{Terminal}
use Rattle.sml_grammar.specs.Answer.{Answer, bad, read, then_read, Turn, last, more, whole}
use Rattle.mlc_names.specs.declared.token.Reserved.{Reserved}
use Rattle.sml_grammar.specs.Terminals.{after_word, word_then, on_some}
use Rattle.phrase_base.specs.declared.source.Source.{Source}
use Rattle.phrase_base.specs.declared.stop.Stop.{Stop}
use Rattle.phrase_base.specs.Left.{left}
use Rattle.phrase_base.specs.Gives.{Fails, Gave}
use Rattle.sml_phrases.specs.ExpressionsRead.{IsList}
use Rattle.sml_phrases.proofs.ExpLemmas.{after-shorter}
use Rattle.phrase_base.proofs.Loop.{Going, going-start, going-more, going-last, going-fails}

module _ {B S C : Type 0} (list : B → List C) (depth_of : B → ℕ) (step : S → List Terminal → Answer (Turn B S)) where
  -- what was read so far, the deepest of which is d deep, stands before what the loop still reads
  pub record Collects (s : S) (i : List Terminal) (front : List C) (d : ℕ) (total : Answer B) : Type 0 where
    pub put : B → B
    pub going : Going step s i put total
    pub items : (b : B) → list (put b) ≡ front ++ list b
    pub deepest : (b : B) → depth_of (put b) ≡ max d (depth_of b)

  pub collects-start : (s : S) (i : List Terminal) {front : List C} → front ≡ [] → Collects s i front 0 (whole step s i)
  collects-start s i {front} e = record { put = λ b. b; going = going-start step s i; items = λ b. rw e refl; deepest = λ b. omega arith }

  pub collects-more : {s t : S} {i m : List Terminal} {front front' : List C} {d d' : ℕ} {total : Answer B} (c : B → B) (x : C) (e : ℕ) → step s i ≡ read (more c t) m → length m < length i →
      ((b : B) → list (c b) ≡ x ∷ list b) → ((b : B) → depth_of (c b) ≡ max e (depth_of b)) → front' ≡ front ++ x ∷ [] → d' ≡ max e d → Collects s i front d total → Collects t m front' d' total
  collects-more {front} {d} c x e h lt lists deeps f' e' g =
      record {
        put = λ b. g.put (c b);
        going = going-more step h lt g.going;
        items = λ b. g.items (c b) ∙ ap (λ z. front ++ z) (lists b) ∙ sym (append_assoc front (x ∷ []) (list b)) ∙ ap (λ z. z ++ list b) (sym f');
        deepest = λ b. g.deepest (c b) ∙ ap (max d) (deeps b) ∙ rw e' (omega arith);
      }

  some-push : (front : List C) (x : C) → 0 < length (front ++ x ∷ [])
  some-push [] x = omega arith
  some-push (y ∷ front) x = omega arith

  pub collects-last : {src : Source} {n : ℕ} {s : S} {i o : List Terminal} {start : List Terminal} {out : List Token} {front front' : List C} {d d' : ℕ} {total : Answer B} (b : B) (x : C) (e : ℕ) → step s i ≡ read (last b) o →
      list b ≡ x ∷ [] → depth_of b ≡ e → front' ≡ front ++ x ∷ [] → d' ≡ max e d → left src out ≡ o → length o < length start → e ≤ n → d ≤ n → Collects s i front d total →
      Gave (λ (y : Unit {0}) r. IsList list depth_of src n start front' d' out r) tt total
  collects-last {src} {n} {s} {i} {o} {start} {out} {front} {front'} {d} {d'} b x e h lists deeps f' e' l lt le1 le2 g =
      let q = g.deepest b ∙ ap (max d) deeps in
      record {
        got = record { tree = g.put b; rest = o };
        is = going-last step h g.going;
        same = record {
          rest = l;
          same = f' ∙ ap (λ z. front ++ z) (sym lists) ∙ sym (g.items b);
          deep = e' ∙ sym (q ∙ omega arith);
          fits = subst (λ z. z ≤ n) (sym q) (omega arith);
          some = subst (λ z. 0 < length z) (sym f') (some-push front x);
          shorter = lt;
        };
      }

  -- where the last turn reads nothing
  pub collects-end : {src : Source} {n : ℕ} {s : S} {i : List Terminal} {start : List Terminal} {out : List Token} {d : ℕ} {total : Answer B} (front : List C) (x : C) (b : B) → step s i ≡ read (last b) i →
      list b ≡ [] → depth_of b ≡ 0 → left src out ≡ i → length i < length start → d ≤ n → Collects s i (front ++ x ∷ []) d total →
      Gave (λ (y : Unit {0}) r. IsList list depth_of src n start (front ++ x ∷ []) d out r) tt total
  collects-end {src} {n} {s} {i} {start} {out} {d} front x b h lists deeps l lt le g =
      let q = g.deepest b ∙ ap (max d) deeps in
      record {
        got = record { tree = g.put b; rest = i };
        is = going-last step h g.going;
        same = record {
          rest = l;
          same = sym (append-nil (front ++ x ∷ [])) ∙ ap (λ z. (front ++ x ∷ []) ++ z) (sym lists) ∙ sym (g.items b);
          deep = sym (q ∙ omega arith);
          fits = subst (λ z. z ≤ n) (sym q) (omega arith);
          some = some-push front x;
          shorter = lt;
        };
      }

  pub collects-at : {s : S} {i : List Terminal} {front front' : List C} {d d' : ℕ} {total : Answer B} → front' ≡ front → d' ≡ d → Collects s i front d total → Collects s i front' d' total
  collects-at {s} {i} {front} {front'} {d} {d'} {total} e h g = subst (λ z. Collects s i z d' total) (sym e) (subst (λ z. Collects s i front z total) (sym h) g)

  pub collects-fails : (e : Stop) {s : S} {i : List Terminal} {front : List C} {d : ℕ} {total : Answer B} → Fails e (step s i) → Collects s i front d total → Fails e total
  collects-fails e h g = going-fails step e h g.going

-- what was read, with the list and the depth as the code has them
pub list-at : {B C : Type 0} {list : B → List C} {depth_of : B → ℕ} {src : Source} {n : ℕ} {start : List Terminal} {xs xs' : List C} {d d' : ℕ} {out : List Token} {total : Answer B} → xs' ≡ xs → d' ≡ d →
    Gave (λ (y : Unit {0}) r. IsList list depth_of src n start xs d out r) tt total → Gave (λ (y : Unit {0}) r. IsList list depth_of src n start xs' d' out r) tt total
list-at e h g = record { got = g.got; is = g.is; same = record { rest = g.same.rest; same = e ∙ g.same.same; deep = h ∙ g.same.deep; fits = g.same.fits; some = subst (λ z. 0 < length z) (sym e) g.same.some; shorter = g.same.shorter } }

-- and the word that closes it
pub closed-list : {B C : Type 0} {list : B → List C} {depth_of : B → ℕ} {src : Source} {n : ℕ} {start : List Terminal} {xs : List C} {d : ℕ} {out close : List Token} {total : Answer B} (c : Reserved) →
    Gave (λ (y : Unit {0}) r. IsList list depth_of src n start xs d out r) tt total → after_word c (left src out) ≡ Some (left src close) →
    Gave (λ (y : Unit {0}) r. IsList list depth_of src n start xs d close r) tt (then_read total (λ b m. word_then c (λ o. read b o) m))
closed-list {src} {close} {total} c g at =
    let q = subst (λ z. after_word c z ≡ Some (left src close)) g.same.rest at in
    let e : then_read total (λ b m. word_then c (λ o. read b o) m) ≡ read g.got.tree (left src close) = ap (λ z. then_read z (λ b m. word_then c (λ o. read b o) m)) g.is ∙ ap (λ v. on_some v (λ o. read g.got.tree o) bad) q in
    record {
      got = record { tree = g.got.tree; rest = left src close };
      is = e;
      same = record { rest = refl; same = g.same.same; deep = g.same.deep; fits = g.same.fits; some = g.same.some; shorter = omega (arith, after-shorter c g.got.rest (left src close) q, g.same.shorter) };
    }

pub closed-bad : {B C : Type 0} {list : B → List C} {depth_of : B → ℕ} {src : Source} {n : ℕ} {start : List Terminal} {xs : List C} {d : ℕ} {out : List Token} {total : Answer B} (c : Reserved) →
    Gave (λ (y : Unit {0}) r. IsList list depth_of src n start xs d out r) tt total → after_word c (left src out) ≡ None → then_read total (λ b m. word_then c (λ o. read b o) m) ≡ bad
closed-bad {total} c g at =
    let q = subst (λ z. after_word c z ≡ None) g.same.rest at in
    ap (λ z. then_read z (λ b m. word_then c (λ o. read b o) m)) g.is ∙ ap (λ v. on_some v (λ o. read g.got.tree o) bad) q
