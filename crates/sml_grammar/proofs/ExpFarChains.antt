-- Where matches, the operands of chains, or what follows an expression are too deep, a partial expression is there.
use Rattle.std.proofs.Common.{◌≡◌, ℕ, suc, ◌≤◌, List, ◌∷◌, length, Bool, false, inl, inr, refl, sym, subst, arith, nat_le, nat_eq}
use Rattle.std.proofs.lemmas.Bool.{leb-true, leb-false, eqb-true}
use Rattle.mlc_names.specs.declared.token.Reserved.TheVariants as res
use Rattle.sml_tree.specs.Terminal.{Terminal}
use Rattle.sml_tree.specs.Fixity.{Fixity}
use Rattle.sml_tree.specs.ReadTree.{Joint, Exp, Parts, Rules, last_rule, rule}
use Rattle.sml_tree.specs.Depth.{depth}
use Rattle.sml_tree.specs.Levels.{joint_level, joint_right, level, begins_bar, goes_on, rules_go_on}
use Rattle.sml_tree.specs.Grammar.{Fits, Pattern, Reads, of_chain, of_typed, of_handle}
use Rattle.sml_grammar.specs.Answer.{Read, deep, read, Turn, more, many, whole}
use Rattle.sml_grammar.specs.Terminals.{after_word, NoState, no_state}
use Rattle.sml_grammar.specs.Types.{read_ty}
use Rattle.sml_grammar.specs.Patterns.{same, read_pat}
use Rattle.sml_grammar.specs.Expressions.{Reader, rule_turn, read_match, Next, part_next, part_turn, whole_parts, suffix_next, suffix_turn}
use Rattle.sml_grammar.specs.Partial.{Opens, joined, in_chain, marked, in_typed, handled, in_handler, OpensPart, in_part, past_part, OpensMatch, in_rule_pat, in_rule, past_rule}
use Rattle.sml_grammar.proofs.Answers.{chosen, both_false, then_ok, then_deep, word_then-ok, word_then-deep, bad_ok, deep_ok, bad_deep, not_deep, separated-deep, many-far}
use Rattle.sml_grammar.proofs.PatSound.{same-is}
use Rattle.sml_grammar.proofs.ExpLevels.{NextIs, is_joint, is_mark, is_handler, is_nothing, next-is, level-low}
use Rattle.sml_grammar.proofs.ExpBelow.{Below, FarBelow}
use Rattle.sml_grammar.proofs.ExpTurns.{at-head, sep-more, went, last-more}
use Rattle.sml_grammar.proofs.ExpSoundAtoms.{Good, Sounds}
use Rattle.sml_grammar.proofs.ExpSoundChains.{match-sound, whole_parts-sound}
use Rattle.sml_grammar.proofs.ExpFarAtoms.{Fars}

pub over : (n m : ℕ) → nat_le m n ≡ false → suc n ≤ m
over n m h = let lt = leb-false m n h in omega arith

-- a joint of this level that associates so, and the terminals after it
data JointAt (f : Fixity) (l : ℕ) (r : Bool) : List Terminal → Joint → List Terminal → Type 0 where
  joint_at : {t : Terminal} {j : Joint} {m : List Terminal} → Fits f l r t j → JointAt f l r (t ∷ m) j m

part_next-deep : (f : Fixity) (l : ℕ) (r : Bool) (j : Joint) (b : Exp) {o : List Terminal} {v : Next} {A : Type 0} → NextIs f o v → part_next f l r j b o v ≡ deep → A
part_next-deep f l r j b (is_joint {j = j'} is) h =
    elim (chosen (nat_eq (joint_level f j') l) _ _ h) [
      | inl p ↦ elim (chosen (same (joint_right f j') r) _ _ p.1) [ inl q ↦ not_deep q.1 | inr q ↦ bad_deep {A = Turn Parts Joint} q.1 ]
      | inr p ↦ not_deep p.1
    ]
part_next-deep f l r j b (is_mark p) h = not_deep h
part_next-deep f l r j b (is_handler p) h = not_deep h
part_next-deep f l r j b (is_nothing e) h = not_deep h

part_next-more : (f : Fixity) (l : ℕ) (r : Bool) (j : Joint) (b : Exp) {o : List Terminal} {v : Next} (put : Parts → Parts) (s : Joint) (k : List Terminal) → NextIs f o v →
    part_next f l r j b o v ≡ read (more put s) k → JointAt f l r o s k
part_next-more f l r j b put s k (is_joint {t} {j = j'} {o = m'} is) h =
    elim (chosen (nat_eq (joint_level f j') l) _ _ h) [
      | inl p ↦ elim (chosen (same (joint_right f j') r) _ _ p.1) [
        | inl q ↦
            let fit : Fits f l r t j' = record { is = is; level = eqb-true (joint_level f j') l p.0; right = same-is (joint_right f j') r q.0 } in
            went (λ z o. JointAt f l r (t ∷ m') z o) (sym q.1) (joint_at fit)
        | inr q ↦ bad_ok q.1
      ]
      | inr p ↦ last-more p.1
    ]
part_next-more f l r j b put s k (is_mark p) h = last-more h
part_next-more f l r j b put s k (is_handler p) h = last-more h
part_next-more f l r j b put s k (is_nothing e) h = last-more h

module _ (n : ℕ) (below : Below n) (far_below : FarBelow n) (self : Reader) (sound : Sounds n self) (far : Fars n self) (f : Fixity) where
  rule-ends : (s : NoState) (i : List Terminal) → rule_turn n self f s i ≡ deep → OpensMatch f i (suc n)
  rule-ends s i h =
      elim (then_deep (read_pat n f i) _ h) [
        | inl x ↦ in_rule_pat (far_below.pats f i x)
        | inr t ↦
            let w = word_then-deep res.DoubleArrow _ t.0.rest t.2 in
            let a = at-head w.1 (λ z. Pattern f i t.0.tree z) (below.pats f i t.0 t.1).reads in
            elim (then_deep (self f 0 w.0) _ w.2) [
              | inl x ↦ in_rule a.0 a.1 (far f 0 w.0 (omega arith) x)
              | inr u ↦ separated-deep (after_word res.Bar u.0.rest) (rule t.0.tree u.0.tree) (last_rule t.0.tree u.0.tree) s u.0.rest u.2
            ]
      ]

  rule-goes : (s : NoState) (i : List Terminal) (put : Rules → Rules) (s' : NoState) (m : List Terminal) → rule_turn n self f s i ≡ read (more put s') m → OpensMatch f m (suc n) → OpensMatch f i (suc n)
  rule-goes s i put s' m h k =
      let y : Read (Turn Rules NoState) = record { tree = more put s'; rest = m } in
      let t = then_ok (read_pat n f i) _ y h in
      let w = word_then-ok res.DoubleArrow _ t.0.rest y t.2 in
      let a = at-head w.1 (λ z. Pattern f i t.0.tree z) (below.pats f i t.0 t.1).reads in
      let u = then_ok (self f 0 w.0) _ y w.2 in
      let g = sound f 0 w.0 u.0 (omega arith) u.1 in
      let v = sep-more u.0.rest res.Bar (rule t.0.tree u.0.tree) (last_rule t.0.tree u.0.tree) s put s' m u.2 in
      let c = at-head v.0 (λ z. Reads f w.0 u.0.tree z × (goes_on f u.0.tree z ≡ false)) (g.reads, g.ends) in
      past_rule a.0 c.0 a.1 c.1.1 c.1.0 k

  pub match-far : (i : List Terminal) → read_match n self f i ≡ deep → OpensMatch f i (suc n)
  match-far i h = many-far (rule_turn n self f) (λ s m. OpensMatch f m (suc n)) rule-ends rule-goes (suc (length i)) no_state i h

  -- the operands of a chain, after a joint
  module _ (l : ℕ) (r : Bool) (low : suc l ≤ 1000) where
    abbrev FarAfter : Joint → List Terminal → Type 0
    FarAfter j m = (t : Terminal) → Fits f l r t j → OpensPart f l r (t ∷ m) (suc n)

    part-ends : (j : Joint) (m : List Terminal) → part_turn self f l r j m ≡ deep → FarAfter j m
    part-ends j m h =
        elim (then_deep (self f (suc l) m) _ h) [
          | inl x ↦ (λ t fit. in_part fit (far f (suc l) m low x))
          | inr u ↦ part_next-deep f l r j u.0.tree (next-is f u.0.rest) u.2
        ]

    past : {j s : Joint} {m o k : List Terminal} {b : Exp} → JointAt f l r o s k → Good n f (suc l) m (record { tree = b; rest = o }) → FarAfter s k → FarAfter j m
    past (joint_at {t = t'} fit') g q t fit = past_part fit g.high g.ends g.reads (q t' fit')

    part-goes : (j : Joint) (m : List Terminal) (put : Parts → Parts) (s : Joint) (k : List Terminal) → part_turn self f l r j m ≡ read (more put s) k → FarAfter s k → FarAfter j m
    part-goes j m put s k h q =
        let u = then_ok (self f (suc l) m) _ (record { tree = more put s; rest = k }) h in
        past (part_next-more f l r j u.0.tree put s k (next-is f u.0.rest) u.2) (sound f (suc l) m u.0 low u.1) q

    parts-far : (k : ℕ) (j : Joint) (m : List Terminal) (t : Terminal) → Fits f l r t j → many (part_turn self f l r) k j m ≡ deep → OpensPart f l r (t ∷ m) (suc n)
    parts-far k j m t fit h = many-far (part_turn self f l r) FarAfter part-ends part-goes k j m h t fit

  whole_parts-far : (j : Joint) (m : List Terminal) (t : Terminal) → Fits f (joint_level f j) (joint_right f j) t j → whole_parts self f j m ≡ deep →
      OpensPart f (joint_level f j) (joint_right f j) (t ∷ m) (suc n)
  whole_parts-far j m t fit h = parts-far (joint_level f j) (joint_right f j) (level-low f j) (suc (length m)) j m t fit h

  -- what follows an expression
  module _ (l : ℕ) where
    abbrev FarGoing : Exp → List Terminal → Type 0
    FarGoing a m = (i : List Terminal) → Reads f i a m → l ≤ level f a → goes_on f a m ≡ false → Opens f l i (suc (suc n))

    suffix_next-ends : (a : Exp) {m : List Terminal} {v : Next} → NextIs f m v → suffix_next self n f l a m v ≡ deep → FarGoing a m
    suffix_next-ends a (is_nothing z) h = not_deep h
    suffix_next-ends a (is_joint {t} {j} {o = k} is) h =
        elim (chosen (nat_le l (joint_level f j)) _ _ h) [
          | inl p ↦ elim (chosen (nat_le (suc (joint_level f j)) (level f a)) _ _ p.1) [
            | inl q ↦
                let fit : Fits f (joint_level f j) (joint_right f j) t j = record { is = is; level = refl; right = refl } in
                let la = leb-true l (joint_level f j) p.0 in
                let lb = leb-true (suc (joint_level f j)) (level f a) q.0 in
                elim (chosen (nat_le (depth a) n) _ _ q.1) [
                  | inl w ↦ elim (then_deep (whole_parts self f j k) _ w.1) [ inl x ↦ (λ i d le e. in_chain la (omega (arith, lb)) e d (whole_parts-far j k t fit x)) | inr u ↦ not_deep u.2 ]
                  | inr w ↦ (λ i d le e. joined la (omega (arith, lb)) e d fit (over n (depth a) w.0))
                ]
            | inr q ↦ bad_deep {A = Turn Exp Exp} q.1
          ]
          | inr p ↦ not_deep p.1
        ]
    suffix_next-ends a (is_mark {o = k} x) h =
        elim (chosen (nat_le l 5) _ _ h) [
          | inl p ↦ elim (chosen (nat_le 5 (level f a)) _ _ p.1) [
            | inl q ↦ elim (chosen (nat_le (depth a) n) _ _ q.1) [
              | inl w ↦ elim (then_deep (read_ty n 0 k) _ w.1) [
                | inl z ↦ (λ i d le e. in_typed x (leb-true l 5 p.0) (leb-true 5 (level f a) q.0) e d (far_below.tys k z))
                | inr u ↦ not_deep u.2
              ]
              | inr w ↦ (λ i d le e. marked x (leb-true l 5 p.0) (leb-true 5 (level f a) q.0) e d (over n (depth a) w.0))
            ]
            | inr q ↦ bad_deep {A = Turn Exp Exp} q.1
          ]
          | inr p ↦ not_deep p.1
        ]
    suffix_next-ends a (is_handler {o = k} x) h =
        elim (chosen (nat_le l 0) _ _ h) [
          | inl p ↦ elim (chosen (nat_le (depth a) n) _ _ p.1) [
            | inl w ↦ elim (then_deep (read_match n self f k) _ w.1) [ inl z ↦ (λ i d le e. in_handler x (leb-true l 0 p.0) e d (match-far k z)) | inr u ↦ not_deep u.2 ]
            | inr w ↦ (λ i d le e. handled x (leb-true l 0 p.0) e d (over n (depth a) w.0))
          ]
          | inr p ↦ not_deep p.1
        ]

    suffix_next-goes : (a : Exp) {m : List Terminal} {v : Next} (put : Exp → Exp) (b : Exp) (k : List Terminal) → NextIs f m v → suffix_next self n f l a m v ≡ read (more put b) k →
        FarGoing b k → FarGoing a m
    suffix_next-goes a put b k (is_nothing z) h g = last-more h
    suffix_next-goes a put b k (is_joint {t} {j} {o} is) h g =
        elim (chosen (nat_le l (joint_level f j)) _ _ h) [
          | inl p ↦ elim (chosen (nat_le (suc (joint_level f j)) (level f a)) _ _ p.1) [
            | inl q ↦ elim (chosen (nat_le (depth a) n) _ _ q.1) [
              | inl w ↦
                  let u = then_ok (whole_parts self f j o) _ (record { tree = more put b; rest = k }) w.1 in
                  let fit : Fits f (joint_level f j) (joint_right f j) t j = record { is = is; level = refl; right = refl } in
                  let s = whole_parts-sound n below self sound f j o u.0 t fit u.1 in
                  (λ i d le e.
                  let la = leb-true l (joint_level f j) p.0 in
                  let lb = leb-true (suc (joint_level f j)) (level f a) q.0 in
                  went FarGoing u.2 g i (of_chain (joint_level f j) (joint_right f j) (omega (arith, lb)) e d s.reads) (subst (λ (z : ℕ). l ≤ z) (sym s.level) la) s.ends)
              | inr w ↦ deep_ok w.1
            ]
            | inr q ↦ bad_ok q.1
          ]
          | inr p ↦ last-more p.1
        ]
    suffix_next-goes a put b k (is_mark {o} x) h g =
        elim (chosen (nat_le l 5) _ _ h) [
          | inl p ↦ elim (chosen (nat_le 5 (level f a)) _ _ p.1) [
            | inl q ↦ elim (chosen (nat_le (depth a) n) _ _ q.1) [
              | inl w ↦
                  let u = then_ok (read_ty n 0 o) _ (record { tree = more put b; rest = k }) w.1 in
                  (λ i d le e. went FarGoing u.2 g i (of_typed x (leb-true 5 (level f a) q.0) e d (below.tys o u.0 u.1).reads) (leb-true l 5 p.0) refl)
              | inr w ↦ deep_ok w.1
            ]
            | inr q ↦ bad_ok q.1
          ]
          | inr p ↦ last-more p.1
        ]
    suffix_next-goes a put b k (is_handler {o} x) h g =
        elim (chosen (nat_le l 0) _ _ h) [
          | inl p ↦ elim (chosen (nat_le (depth a) n) _ _ p.1) [
            | inl w ↦
                let u = then_ok (read_match n self f o) _ (record { tree = more put b; rest = k }) w.1 in
                let s = match-sound n below self sound f o u.0 u.1 in
                (λ i d le e. went FarGoing u.2 g i (of_handle x e d s.reads) (leb-true l 0 p.0) (both_false (begins_bar u.0.rest) (rules_go_on f u.0.tree u.0.rest) s.no_bar s.ends))
            | inr w ↦ deep_ok w.1
          ]
          | inr p ↦ last-more p.1
        ]

    suffix-ends : (a : Exp) (m : List Terminal) → suffix_turn self n f l a m ≡ deep → FarGoing a m
    suffix-ends a m h = suffix_next-ends a (next-is f m) h

    suffix-goes : (a : Exp) (m : List Terminal) (put : Exp → Exp) (b : Exp) (k : List Terminal) → suffix_turn self n f l a m ≡ read (more put b) k → FarGoing b k → FarGoing a m
    suffix-goes a m put b k h g = suffix_next-goes a put b k (next-is f m) h g

    pub suffix-far : (i : List Terminal) (a : Exp) (m : List Terminal) → Reads f i a m → l ≤ level f a → goes_on f a m ≡ false → whole (suffix_turn self n f l) a m ≡ deep → Opens f l i (suc (suc n))
    suffix-far i a m d le e h = many-far (suffix_turn self n f l) FarGoing suffix-ends suffix-goes (suc (length m)) a m h i d le e
