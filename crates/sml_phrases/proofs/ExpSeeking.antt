-- An expression that is read becomes larger, as long as something goes on with it.
use Rattle.std.proofs.Common.{◌≡◌, ℕ, ◌+◌, ◌<◌, ◌≤◌, List, length, refl, sym, ◌∙◌, subst, arith}
use Rattle.mlc_names.specs.declared.token.Token.{Token}
use Rattle.sml_tree.specs.Terminal.{Terminal}
use Rattle.sml_tree.specs.Fixity.{Fixity}
use Rattle.sml_tree.specs.ReadTree as read
use Rattle.sml_tree.specs.declared.tree.Exp.{Exp}
use Rattle.sml_grammar.specs.Answer.{Read, Answer, ok, bad, deep, read, then_read, whole, more}
use Rattle.sml_grammar.specs.Terminals.{place_at}
use Rattle.sml_grammar.specs.Expressions.{Reader, next_of, nothing, suffix_turn}
use Rattle.phrase_base.specs.declared.source.Source.{Source}
use Rattle.phrase_base.specs.declared.stop.Stop.{Stop}
use Rattle.phrase_base.specs.declared.stop.Stop.TheVariants as stop
use Rattle.sml_phrases.specs.declared.ties.Tie.{Tie}
use Rattle.phrase_base.specs.Gives.{Fails, Gave}
use Rattle.phrase_base.specs.Left.{left}
use Rattle.sml_phrases.specs.Ties.{next_from, tie_level, tie_least, tie_rest}
use Rattle.sml_phrases.specs.ExpressionsRead.{IsExp, IsAtom, IsLarger}
use Rattle.phrase_base.proofs.Loop.{Going, going-start, going-more, going-last, going-fails, fails-then, fails-by}
use Rattle.sml_phrases.proofs.ExpSteps.{Seeking, suffix-none, suffix-low, suffix-bad, suffix-deep, suffix-goes, after-ok}

module _ (self : Reader) (n : ℕ) (f : Fixity) (l : ℕ) (s : Source) where
  pub seek-start : {i : List Terminal} {e : Exp} {d : ℕ} {o : List Token} {total : Answer read.Exp} (r : Read read.Exp) → IsAtom f s (n + 1) i e d o r → total ≡ whole (suffix_turn self n f l) r.tree r.rest →
      Seeking self n f l s (place_at i) (left s o) e d 1000 total
  seek-start {total} r is q = record {
    tree = r.tree;
    going = subst (λ z. Going (suffix_turn self n f l) r.tree z (λ b. b) total) (sym is.is.rest) (subst (λ z. Going (suffix_turn self n f l) r.tree r.rest (λ b. b) z) (sym q) (going-start (suffix_turn self n f l) r.tree r.rest));
    bare = is.is.bare;
    deep = is.is.deep;
    place = is.is.place;
    fits = is.is.fits;
    above = sym is.high;
  }

  module _ (i0 : List Terminal) (o : List Token) {e : Exp} {d high : ℕ} {total : Answer read.Exp} where
    ends : (g : Seeking self n f l s (place_at i0) (left s o) e d high total) → length (left s o) < length i0 → total ≡ read g.tree (left s o) → Gave (λ (y : Unit {0}) r. IsExp s (n + 1) i0 e d o r) tt total
    ends g lt q = record { got = record { tree = g.tree; rest = left s o }; is = q; same = record { rest = refl; bare = g.bare; deep = g.deep; place = g.place; fits = g.fits; shorter = lt } }

    pub seek-none : next_of f (left s o) ≡ nothing → Seeking self n f l s (place_at i0) (left s o) e d high total → length (left s o) < length i0 → Gave (λ (y : Unit {0}) r. IsExp s (n + 1) i0 e d o r) tt total
    seek-none h g lt = ends g lt (going-last (suffix_turn self n f l) (suffix-none self n f l g.tree (left s o) h) g.going)

    module _ (t : Tie) (m : List Terminal) (at : next_of f (left s o) ≡ next_from t m) (g : Seeking self n f l s (place_at i0) (left s o) e d high total) where
      pub seek-low : tie_level f t < l → length (left s o) < length i0 → Gave (λ (y : Unit {0}) r. IsExp s (n + 1) i0 e d o r) tt total
      seek-low h lt = ends g lt (going-last (suffix_turn self n f l) (suffix-low self n f l g.tree (left s o) t m at h) g.going)

      pub seek-bad : (k : ℕ) → l ≤ tie_level f t → high < tie_least f t → total ≡ bad
      seek-bad k h b = going-fails (suffix_turn self n f l) (stop.Bad k) (suffix-bad self n f l g.tree (left s o) t m at h (subst (λ z. z < tie_least f t) g.above b)) g.going

      pub seek-deep : (k : ℕ) → l ≤ tie_level f t → tie_least f t ≤ high → n < d → total ≡ deep
      seek-deep k h b q =
          going-fails (suffix_turn self n f l) (stop.Deep k) (suffix-deep self n f l g.tree (left s o) t m at h (subst (λ z. tie_least f t ≤ z) g.above b) (subst (λ z. n < z) g.deep q)) g.going

      goes : l ≤ tie_level f t → tie_least f t ≤ high → d ≤ n → suffix_turn self n f l g.tree (left s o) ≡ then_read (tie_rest self n f g.tree t m) (λ x k. read (more (λ b. b) x) k)
      goes h b q = suffix-goes self n f l g.tree (left s o) t m at h (subst (λ z. tie_least f t ≤ z) g.above b) (subst (λ z. z ≤ n) g.deep q)

      pub seek-fails : (x : Stop) → l ≤ tie_level f t → tie_least f t ≤ high → d ≤ n → Fails x (tie_rest self n f g.tree t m) → Fails x total
      seek-fails x h b q w = going-fails (suffix_turn self n f l) x (fails-by x _ _ (goes h b q) (fails-then x (tie_rest self n f g.tree t m) (λ z k. read (more (λ y. y) z) k) w)) g.going

      pub seek-more : {e' : Exp} {d' : ℕ} {o' : List Token} (r : Read read.Exp) → l ≤ tie_level f t → tie_least f t ≤ high → d ≤ n → length m < length (left s o) → tie_rest self n f g.tree t m ≡ ok r →
          IsLarger f s (n + 1) m (read.exp_place g.tree) (tie_level f t) e' d' o' r → Seeking self n f l s (place_at i0) (left s o') e' d' (tie_level f t) total
      seek-more r h b q lt w is = record {
        tree = r.tree;
        going = subst (λ z. Going (suffix_turn self n f l) r.tree z (λ y. y) total) (sym is.rest)
            (going-more (suffix_turn self n f l) (goes h b q ∙ after-ok (λ z k. read (more (λ y. y) z) k) w) (omega (arith, is.shorter, lt)) g.going);
        bare = is.bare;
        deep = is.deep;
        place = is.place ∙ g.place;
        fits = is.fits;
        above = sym is.high;
      }
