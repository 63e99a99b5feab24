-- What is in the grammar, and not too deep, is read: what may follow an expression, one turn at a time.
use Rattle.std.proofs.Common.{◌≡◌, ℕ, zero, suc, ◌≤◌, ◌<◌, List, ◌∷◌, length, Bool, true, false, refl, sym, ap, ◌∙◌, subst, arith, nat_le, nat_eq}
use Rattle.std.proofs.lemmas.Bool.{leb-false, le-leb, lt-leb, eq-eqb, ne_eqb}
use Rattle.mlc_names.specs.declared.token.Reserved.TheVariants as res
use Rattle.sml_tree.specs.Terminal.{Terminal, reserved}
use Rattle.sml_tree.specs.Fixity.{Fixity}
use Rattle.sml_tree.specs.ReadTree.{Ty, Joint, Exp, chain, typed, handle, Parts, last_part, part, Rules}
use Rattle.sml_tree.specs.Depth.{depth, depth_ty, depth_parts}
use Rattle.sml_tree.specs.Levels.{joint_level, joint_right, level, at_least, could_go_on, goes_on, parts_go_on}
use Rattle.sml_tree.specs.Grammar.{ReadsTy, Follows, of_last_part, of_part}
use Rattle.sml_grammar.specs.Answer.{read, last, more, many}
use Rattle.sml_grammar.specs.Terminals.{tail}
use Rattle.sml_grammar.specs.Types.{read_ty, ty_could_go_on}
use Rattle.sml_grammar.specs.Patterns.{same}
use Rattle.sml_grammar.specs.Expressions.{Reader, begins_atom, read_match, Next, joint, next_of, part_next, part_turn, whole_parts, suffix_next, suffix_turn}
use Rattle.sml_grammar.proofs.Answers.{or_split, many-last, many-more}
use Rattle.sml_grammar.proofs.ExpLevels.{NextIs, is_joint, is_mark, is_handler, is_nothing, next-is, joint-tie, stops-more}
use Rattle.sml_grammar.proofs.CompFacts as facts
use Rattle.sml_grammar.proofs.CompShapes.{shorter, follows-shorter, first_joint, chain-head, chain-no_ty}
use Rattle.sml_grammar.proofs.CompLists.{TyStops, CompleteExp}

pub same-self : (a : Bool) → same a a ≡ true
same-self true = refl
same-self false = refl

module _ (n : ℕ) (self : Reader) (complete : CompleteExp n self) (f : Fixity) where
  pub stop-step : (l : ℕ) (t : Exp) (o : List Terminal) → could_go_on f l o ≡ false → suffix_turn self n f l t o ≡ read (last t) o
  stop-step l t o c = go (next-is f o) c
    where
      go : {m : List Terminal} {v : Next} → NextIs f m v → could_go_on f l m ≡ false → suffix_next self n f l t m v ≡ read (last t) m
      go (is_joint {j} {o = r} is) h = let b : nat_le l (joint_level f j) ≡ false = ap (at_least l) (sym (joint-tie r is)) ∙ h in rw b refl
      go (is_mark p) h = rw h refl
      go (is_handler p) h = rw h refl
      go (is_nothing e) h = refl

  last-after : (l : ℕ) (r : Bool) (j : Joint) (b : Exp) (o : List Terminal) → could_go_on f l o ≡ false → part_next f l r j b o (next_of f o) ≡ read (last (last_part j b)) o
  last-after l r j b o c = go (next-is f o) c
    where
      go : {m : List Terminal} {v : Next} → NextIs f m v → could_go_on f l m ≡ false → part_next f l r j b m v ≡ read (last (last_part j b)) m
      go (is_joint {j = j'} {o = m} is) h =
          let e : nat_le l (joint_level f j') ≡ false = ap (at_least l) (sym (joint-tie m is)) ∙ h in
          let lt = leb-false l (joint_level f j') e in
          let ne : nat_eq (joint_level f j') l ≡ false = ne_eqb (joint_level f j') l (λ (q : joint_level f j' ≡ l). omega arith) in
          rw ne refl
      go (is_mark p) h = refl
      go (is_handler p) h = refl
      go (is_nothing e) h = refl

  -- an operand before another joint of its chain
  pub part-step : {l : ℕ} {r : Bool} {p : List Terminal} (j j' : Joint) {m : List Terminal} {x : Exp} → self f (suc l) m ≡ read x p → next_of f p ≡ joint j' (tail p) → joint_level f j' ≡ l → joint_right f j' ≡ r →
      part_turn self f l r j m ≡ read (more (part j x) j') (tail p)
  part-step {l} {r} j j' h nx lv rt =
      let ne : nat_eq (joint_level f j') l ≡ true = eq-eqb (joint_level f j') l lv in
      let sa : same (joint_right f j') r ≡ true = ap (λ (z : Bool). same z r) rt ∙ same-self r in
      rw (h, nx, ne, sa) refl

  pub parts-complete : {l : ℕ} {r : Bool} {i o : List Terminal} {ps : Parts} → Follows f l r i ps o → depth_parts ps ≤ n → parts_go_on f ps o ≡ false → could_go_on f l o ≡ false → begins_atom f o ≡ false → TyStops l o →
      (k : ℕ) → length i ≤ k → many (part_turn self f l r) k (first_joint ps) (tail i) ≡ read ps o
  parts-complete d le e c b y zero lt = let s = follows-shorter d in absurd (omega arith)
  parts-complete {l} {r} (of_last_part {t} {m} {o} {j} {b = x} fit high d) le e c b y (suc k) lt =
      let lv = fit.level in
      let s = or_split (could_go_on f (suc (joint_level f j)) o) (goes_on f x o) e in
      let h : self f (suc l) m ≡ read x o = complete f (suc l) m x o d le high s.1 (stops-more f l (suc l) o (omega arith) c) b (λ z. y (omega arith)) in
      let a = last-after l r j x o c in
      many-last (part_turn self f l r) k (rw (h, a) refl)
  parts-complete {l} {r} (of_part {t} {m} {n = p} {o} {j} {b = x} {ps} fit high ends d fs) le e c b y (suc k) lt =
      let w = chain-head fs in
      let s : could_go_on f (suc l) p ≡ false = ap (at_least (suc l)) w.ties ∙ lt-leb (suc l) l (omega arith) in
      let h : self f (suc l) m ≡ read x p = complete f (suc l) m x p d (omega arith) high ends s w.atom (λ z. chain-no_ty fs (omega arith)) in
      let sh = shorter d in
      let q : many (part_turn self f l r) k (first_joint ps) (tail p) ≡ read ps o = parts-complete fs (omega arith) e c b y k (omega arith) in
      many-more (part_turn self f l r) k {put = part j x} (part-step j (first_joint ps) h w.next w.level w.right) q

  parts-whole : {l : ℕ} {r : Bool} {i o : List Terminal} {ps : Parts} → Follows f l r i ps o → depth_parts ps ≤ n → parts_go_on f ps o ≡ false → could_go_on f l o ≡ false → begins_atom f o ≡ false → TyStops l o →
      whole_parts self f (first_joint ps) (tail i) ≡ read ps o
  parts-whole {l} {r} {i} {o} {ps} d le e c b y =
      let w = chain-head d in
      let sz = w.size in
      let q : many (part_turn self f l r) (suc (length (tail i))) (first_joint ps) (tail i) ≡ read ps o = parts-complete d le e c b y (suc (length (tail i))) sz in
      subst (λ (z : ℕ). many (part_turn self f z (joint_right f (first_joint ps))) (suc (length (tail i))) (first_joint ps) (tail i) ≡ read ps o) (sym w.level)
      (subst (λ (z : Bool). many (part_turn self f l z) (suc (length (tail i))) (first_joint ps) (tail i) ≡ read ps o) (sym w.right) q)

  pub chain-step : (l0 : ℕ) (a : Exp) {l : ℕ} {r : Bool} {i o : List Terminal} {ps : Parts} → Follows f l r i ps o → l0 ≤ l → l < level f a → depth a ≤ n → depth_parts ps ≤ n → parts_go_on f ps o ≡ false →
      could_go_on f l o ≡ false → begins_atom f o ≡ false → TyStops l o → suffix_turn self n f l0 a i ≡ read (more (λ b. b) (chain r a ps)) o
  chain-step l0 a {l} {r} {i} {o} {ps} d low high la lp e c b y =
      let w = chain-head d in let nx = w.next in let lv = w.level in
      let q : whole_parts self f (first_joint ps) (tail i) ≡ read ps o = parts-whole d lp e c b y in
      let c1 : nat_le l0 (joint_level f (first_joint ps)) ≡ true = le-leb l0 (joint_level f (first_joint ps)) (omega arith) in
      let c2 : nat_le (suc (joint_level f (first_joint ps))) (level f a) ≡ true = le-leb (suc (joint_level f (first_joint ps))) (level f a) (omega arith) in
      let c3 = le-leb (depth a) n la in
      let g : suffix_turn self n f l0 a i ≡ read (more (λ b. b) (chain (joint_right f (first_joint ps)) a ps)) o = rw (nx, c1, c2, c3, q) refl in
      g ∙ ap (λ (z : Bool). read (more (λ b. b) (chain z a ps)) o) w.right

  pub mark-step : (l : ℕ) (a : Exp) (s : Ty) (p : ℕ) (m o : List Terminal) → ReadsTy m s o → l ≤ 5 → 5 ≤ level f a → depth a ≤ n → depth_ty s ≤ n → ty_could_go_on 0 o ≡ false →
      suffix_turn self n f l a (reserved p res.Colon ∷ m) ≡ read (more (λ b. b) (typed a s)) o
  mark-step l a s p m o d le five la ls y =
      let c = le-leb l 5 le in let b = le-leb 5 (level f a) five in let e = le-leb (depth a) n la in
      let h : read_ty n 0 m ≡ read s o = facts.ty-complete n d ls y in
      rw (c, b, e, h) refl

  pub handler-step : (l : ℕ) (a : Exp) (rs : Rules) (p : ℕ) (m o : List Terminal) → l ≤ 0 → depth a ≤ n → read_match n self f m ≡ read rs o →
      suffix_turn self n f l a (reserved p res.Handle ∷ m) ≡ read (more (λ b. b) (handle a rs)) o
  handler-step l a rs p m o le la h = let c = le-leb l 0 le in let d = le-leb (depth a) n la in rw (c, d, h) refl
