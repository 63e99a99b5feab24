-- Matches, the operands of chains, and what follows an expression, that are read are in the grammar.
use Rattle.std.proofs.Common.{◌≡◌, ℕ, suc, ◌≤◌, List, ◌∷◌, length, None, Bool, false, inl, inr, refl, sym, ap, ◌∙◌, subst, arith, nat_le, nat_eq}
use Rattle.std.proofs.lemmas.Bool.{leb-true, eqb-true}
use Rattle.mlc_names.specs.declared.token.Reserved.TheVariants as res
use Rattle.sml_tree.specs.Terminal.{Terminal, reserved}
use Rattle.sml_tree.specs.Fixity.{Fixity}
use Rattle.sml_tree.specs.ReadTree.{Joint, Exp, Parts, last_part, Rules, last_rule, rule}
use Rattle.sml_tree.specs.Depth.{depth, depth_parts, depth_rules}
use Rattle.sml_tree.specs.Levels.{joint_level, joint_right, parts_level, level, at_least, could_go_on, begins_bar, goes_on, parts_go_on, rules_go_on}
use Rattle.sml_tree.specs.Grammar.{Fits, Pattern, Reads, of_chain, of_typed, of_handle, Follows, of_last_part, of_part, Match, of_last_rule, of_rule}
use Rattle.sml_grammar.specs.Answer.{Read, ok, Turn, many, whole}
use Rattle.sml_grammar.specs.Terminals.{after_word, NoState, no_state}
use Rattle.sml_grammar.specs.Types.{read_ty}
use Rattle.sml_grammar.specs.Patterns.{same, read_pat}
use Rattle.sml_grammar.specs.Expressions.{Reader, rule_turn, read_match, Next, part_next, part_turn, whole_parts, suffix_next, suffix_turn}
use Rattle.sml_grammar.proofs.Answers.{chosen, both_false, then_ok, word_then-ok, bad_ok, deep_ok, GoodTurn, many-ok}
use Rattle.sml_grammar.proofs.PatSound.{same-is}
use Rattle.sml_grammar.proofs.ExpLevels.{NextIs, is_joint, is_mark, is_handler, is_nothing, next-is, joint-tie, level-low}
use Rattle.sml_grammar.proofs.ExpBelow.{Below}
use Rattle.sml_grammar.proofs.ExpTurns.{at-head, given, sep-good}
use Rattle.sml_grammar.proofs.ExpSoundAtoms.{Good, Sounds}

pub no-bar : (o : List Terminal) → after_word res.Bar o ≡ None → begins_bar o ≡ false
no-bar (reserved p res.Bar ∷ o) e = absurd (cc)
no-bar _ e = refl

pub record GoodMatch (n : ℕ) (f : Fixity) (i : List Terminal) (rs : Rules) (o : List Terminal) : Type 0 where
  pub reads : Match f i rs o
  pub ends : rules_go_on f rs o ≡ false
  pub no_bar : begins_bar o ≡ false
  pub fits : depth_rules rs ≤ n

pub record GoodParts (n : ℕ) (f : Fixity) (l : ℕ) (r : Bool) (i : List Terminal) (ps : Parts) (o : List Terminal) : Type 0 where
  pub reads : Follows f l r i ps o
  pub level : parts_level f ps ≡ l
  pub ends : parts_go_on f ps o ≡ false
  pub fits : depth_parts ps ≤ n

module _ (n : ℕ) (below : Below n) (self : Reader) (sound : Sounds n self) (f : Fixity) where
  abbrev GoodRules : NoState → List Terminal → Rules → List Terminal → Type 0
  GoodRules s i rs o = GoodMatch n f i rs o

  rule-turn : (s : NoState) (i : List Terminal) (y : Read (Turn Rules NoState)) → rule_turn n self f s i ≡ ok y → GoodTurn GoodRules s i y.tree y.rest
  rule-turn s i y h =
      let t = then_ok (read_pat n f i) _ y h in
      let p = below.pats f i t.0 t.1 in
      let w = word_then-ok res.DoubleArrow _ t.0.rest y t.2 in
      let a = at-head w.1 (λ z. Pattern f i t.0.tree z) p.reads in
      let u = then_ok (self f 0 w.0) _ y w.2 in
      let g = sound f 0 w.0 u.0 (omega arith) u.1 in
      sep-good GoodRules s s i u.0.rest res.Bar (rule t.0.tree u.0.tree) (last_rule t.0.tree u.0.tree) y u.2
      (λ e. record {
        reads = of_last_rule a.0 a.1 g.reads;
        ends = both_false (could_go_on f 0 u.0.rest) (goes_on f u.0.tree u.0.rest) g.stops g.ends;
        no_bar = no-bar u.0.rest e;
        fits = omega (arith, p.fits, g.fits);
      })
      (λ m v b k r.
      let c = at-head v (λ z. Reads f w.0 u.0.tree z × (goes_on f u.0.tree z ≡ false)) (g.reads, g.ends) in
      record { reads = of_rule a.0 c.0 a.1 c.1.1 c.1.0 r.reads; ends = r.ends; no_bar = r.no_bar; fits = omega (arith, p.fits, g.fits, r.fits) })

  pub match-sound : (i : List Terminal) (y : Read Rules) → read_match n self f i ≡ ok y → GoodMatch n f i y.tree y.rest
  match-sound i y h = many-ok (rule_turn n self f) GoodRules rule-turn (suc (length i)) no_state i y h

  -- the operands of a chain, after a joint
  module _ (l : ℕ) (r : Bool) (low : suc l ≤ 1000) where
    abbrev GoodAfter : Joint → List Terminal → Parts → List Terminal → Type 0
    GoodAfter j m ps o = (t : Terminal) → Fits f l r t j → GoodParts n f l r (t ∷ m) ps o

    last-part : (j : Joint) (m : List Terminal) (b : Exp) (o : List Terminal) → Good n f (suc l) m (record { tree = b; rest = o }) → GoodAfter j m (last_part j b) o
    last-part j m b o g t fit =
        let c : could_go_on f (suc (joint_level f j)) o ≡ false = subst (λ (w : ℕ). could_go_on f (suc w) o ≡ false) (sym fit.level) g.stops in
        record { reads = of_last_part fit g.high g.reads; level = fit.level; ends = both_false (could_go_on f (suc (joint_level f j)) o) (goes_on f b o) c g.ends; fits = g.fits }

    part_next-sound : (j : Joint) (m : List Terminal) (b : Exp) {o : List Terminal} {v : Next} (y : Read (Turn Parts Joint)) → NextIs f o v → Good n f (suc l) m (record { tree = b; rest = o }) →
        part_next f l r j b o v ≡ ok y → GoodTurn GoodAfter j m y.tree y.rest
    part_next-sound j m b y (is_joint {t = t'} {j = j'} {o = m'} is) g h =
        elim (chosen (nat_eq (joint_level f j') l) _ _ h) [
          | inl p ↦ elim (chosen (same (joint_right f j') r) _ _ p.1) [
            | inl q ↦ given (GoodTurn GoodAfter j m) q.1 (λ ps o k t fit.
                let fit' : Fits f l r t' j' = record { is = is; level = eqb-true (joint_level f j') l p.0; right = same-is (joint_right f j') r q.0 } in
                let w = k t' fit' in
                record { reads = of_part fit g.high g.ends g.reads w.reads; level = fit.level; ends = w.ends; fits = omega (arith, g.fits, w.fits) })
            | inr q ↦ bad_ok q.1
          ]
          | inr p ↦ given (GoodTurn GoodAfter j m) p.1 (last-part j m b (t' ∷ m') g)
        ]
    part_next-sound j m b {o} y (is_mark p) g h = given (GoodTurn GoodAfter j m) h (last-part j m b o g)
    part_next-sound j m b {o} y (is_handler p) g h = given (GoodTurn GoodAfter j m) h (last-part j m b o g)
    part_next-sound j m b {o} y (is_nothing e) g h = given (GoodTurn GoodAfter j m) h (last-part j m b o g)

    part-turn : (j : Joint) (m : List Terminal) (y : Read (Turn Parts Joint)) → part_turn self f l r j m ≡ ok y → GoodTurn GoodAfter j m y.tree y.rest
    part-turn j m y h =
        let u = then_ok (self f (suc l) m) _ y h in
        part_next-sound j m u.0.tree y (next-is f u.0.rest) (sound f (suc l) m u.0 low u.1) u.2

    pub parts-sound : (k : ℕ) (j : Joint) (m : List Terminal) (y : Read Parts) (t : Terminal) → Fits f l r t j → many (part_turn self f l r) k j m ≡ ok y → GoodParts n f l r (t ∷ m) y.tree y.rest
    parts-sound k j m y t fit h = many-ok (part_turn self f l r) GoodAfter part-turn k j m y h t fit

  pub whole_parts-sound : (j : Joint) (m : List Terminal) (y : Read Parts) (t : Terminal) → Fits f (joint_level f j) (joint_right f j) t j → whole_parts self f j m ≡ ok y →
      GoodParts n f (joint_level f j) (joint_right f j) (t ∷ m) y.tree y.rest
  whole_parts-sound j m y t fit h = parts-sound (joint_level f j) (joint_right f j) (level-low f j) (suc (length m)) j m y t fit h

  -- what follows an expression
  module _ (l : ℕ) where
    abbrev Going : Exp → List Terminal → Exp → List Terminal → Type 0
    Going a m b o = (i : List Terminal) → Reads f i a m → l ≤ level f a → goes_on f a m ≡ false → depth a ≤ suc n → Good (suc n) f l i (record { tree = b; rest = o })

    stops-here : (a : Exp) (m : List Terminal) → could_go_on f l m ≡ false → Going a m a m
    stops-here a m s i d le e c = record { reads = d; high = le; ends = e; stops = s; fits = c }

    suffix_next-sound : (a : Exp) {m : List Terminal} {v : Next} (y : Read (Turn Exp Exp)) → NextIs f m v → suffix_next self n f l a m v ≡ ok y → GoodTurn Going a m y.tree y.rest
    suffix_next-sound a {m} y (is_nothing z) h = given (GoodTurn Going a m) h (stops-here a m (ap (at_least l) z))
    suffix_next-sound a y (is_joint {t} {j} {o = k} is) h =
        elim (chosen (nat_le l (joint_level f j)) _ _ h) [
          | inl p ↦ elim (chosen (nat_le (suc (joint_level f j)) (level f a)) _ _ p.1) [
            | inl q ↦ elim (chosen (nat_le (depth a) n) _ _ q.1) [
              | inl w ↦
                  let u = then_ok (whole_parts self f j k) _ y w.1 in
                  let fit : Fits f (joint_level f j) (joint_right f j) t j = record { is = is; level = refl; right = refl } in
                  let g = whole_parts-sound j k u.0 t fit u.1 in
                  given (GoodTurn Going a (t ∷ k)) u.2 (λ b o goes i d le e c.
                  let la = leb-true l (joint_level f j) p.0 in
                  let lb = leb-true (suc (joint_level f j)) (level f a) q.0 in
                  let lc = leb-true (depth a) n w.0 in
                  goes i (of_chain (joint_level f j) (joint_right f j) (omega (arith, lb)) e d g.reads) (subst (λ (z : ℕ). l ≤ z) (sym g.level) la) g.ends (omega (arith, lc, g.fits)))
              | inr w ↦ deep_ok w.1
            ]
            | inr q ↦ bad_ok q.1
          ]
          | inr p ↦ given (GoodTurn Going a (t ∷ k)) p.1 (stops-here a (t ∷ k) (ap (at_least l) (joint-tie k is) ∙ p.0))
        ]
    suffix_next-sound a y (is_mark {o = k} x) h =
        elim (chosen (nat_le l 5) _ _ h) [
          | inl p ↦ elim (chosen (nat_le 5 (level f a)) _ _ p.1) [
            | inl q ↦ elim (chosen (nat_le (depth a) n) _ _ q.1) [
              | inl w ↦
                  let u = then_ok (read_ty n 0 k) _ y w.1 in
                  let g = below.tys k u.0 u.1 in
                  given (GoodTurn Going a (reserved x res.Colon ∷ k)) u.2 (λ b o goes i d le e c.
                  let lc = leb-true (depth a) n w.0 in
                  goes i (of_typed x (leb-true 5 (level f a) q.0) e d g.reads) (leb-true l 5 p.0) refl (omega (arith, lc, g.fits)))
              | inr w ↦ deep_ok w.1
            ]
            | inr q ↦ bad_ok q.1
          ]
          | inr p ↦ given (GoodTurn Going a (reserved x res.Colon ∷ k)) p.1 (stops-here a (reserved x res.Colon ∷ k) p.0)
        ]
    suffix_next-sound a y (is_handler {o = k} x) h =
        elim (chosen (nat_le l 0) _ _ h) [
          | inl p ↦ elim (chosen (nat_le (depth a) n) _ _ p.1) [
            | inl w ↦
                let u = then_ok (read_match n self f k) _ y w.1 in
                let g = match-sound k u.0 u.1 in
                given (GoodTurn Going a (reserved x res.Handle ∷ k)) u.2 (λ b o goes i d le e c.
                let lc = leb-true (depth a) n w.0 in
                goes i (of_handle x e d g.reads) (leb-true l 0 p.0) (both_false (begins_bar u.0.rest) (rules_go_on f u.0.tree u.0.rest) g.no_bar g.ends) (omega (arith, lc, g.fits)))
            | inr w ↦ deep_ok w.1
          ]
          | inr p ↦ given (GoodTurn Going a (reserved x res.Handle ∷ k)) p.1 (stops-here a (reserved x res.Handle ∷ k) p.0)
        ]

    suffix-turn : (a : Exp) (m : List Terminal) (y : Read (Turn Exp Exp)) → suffix_turn self n f l a m ≡ ok y → GoodTurn Going a m y.tree y.rest
    suffix-turn a m y h = suffix_next-sound a y (next-is f m) h

    pub suffix-sound : (i : List Terminal) (a : Exp) (m : List Terminal) (y : Read Exp) → Reads f i a m → l ≤ level f a → goes_on f a m ≡ false → depth a ≤ suc n →
        whole (suffix_turn self n f l) a m ≡ ok y → Good (suc n) f l i y
    suffix-sound i a m y d le e c h = many-ok (suffix_turn self n f l) Going suffix-turn (suc (length m)) a m y h i d le e c
