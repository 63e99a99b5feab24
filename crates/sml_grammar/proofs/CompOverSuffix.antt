-- What is too deep is told to be: what may follow an expression.
use Rattle.std.proofs.Common.{◌≡◌, ℕ, zero, suc, ◌≤◌, ◌<◌, List, ◌∷◌, length, Some, Bool, true, false, inl, inr, refl, sym, ap, ◌∙◌, subst, arith, nat_le}
use Rattle.std.proofs.lemmas.Bool.{le-leb, lt-leb}
use Rattle.mlc_names.specs.declared.token.Reserved.TheVariants as res
use Rattle.sml_tree.specs.Terminal.{Terminal, reserved}
use Rattle.sml_tree.specs.Fixity.{Fixity}
use Rattle.sml_tree.specs.ReadTree.{Joint, Exp, Parts, part}
use Rattle.sml_tree.specs.Depth.{depth}
use Rattle.sml_tree.specs.Levels.{joint_level, joint_right, level, tie, at_least, could_go_on}
use Rattle.sml_tree.specs.Grammar.{IsJoint, Follows, of_last_part, of_part}
use Rattle.sml_grammar.specs.Answer.{deep, many}
use Rattle.sml_grammar.specs.Terminals.{tail}
use Rattle.sml_grammar.specs.Types.{read_ty, ty_could_go_on}
use Rattle.sml_grammar.specs.Expressions.{Reader, begins_atom, read_match, joint, next_of, part_turn, whole_parts, suffix_turn}
use Rattle.sml_grammar.specs.PartialTypes.{OpensTy}
use Rattle.sml_grammar.specs.Partial.{OpensPart, in_part, past_part, OpensMatch}
use Rattle.sml_grammar.proofs.Answers.{le_or, many-deep, many-stop}
use Rattle.sml_grammar.proofs.ExpLevels.{joint-tie, joint-next, joint-no_atom}
use Rattle.sml_grammar.proofs.CompFacts as facts
use Rattle.sml_grammar.proofs.CompShapes.{shorter, joint-no_ty}
use Rattle.sml_grammar.proofs.CompLists.{CompleteExp}
use Rattle.sml_grammar.proofs.CompSuffix.{part-step}
use Rattle.sml_grammar.proofs.CompOverLists.{OverExp, exp-or, whole-match-over}

module _ (n : ℕ) (self : Reader) (complete : CompleteExp n self) (over : OverExp n self) (f : Fixity) where
  -- a chain's further operands, where one is too deep
  pub record FarPart (l : ℕ) (r : Bool) (i : List Terminal) : Type 0 where
    pub first : Joint
    pub next : next_of f i ≡ joint first (tail i)
    pub ties : tie f i ≡ Some l
    pub level : joint_level f first ≡ l
    pub right : joint_right f first ≡ r
    pub atom : begins_atom f i ≡ false
    pub no_ty : l ≤ 5 → ty_could_go_on 0 i ≡ false
    pub size : length i ≤ suc (length (tail i))
    pub runs : (k : ℕ) → length i ≤ k → many (part_turn self f l r) k first (tail i) ≡ deep

  pub part-over : {l : ℕ} {r : Bool} {i : List Terminal} {d : ℕ} → OpensPart f l r i d → n < d → FarPart l r i
  part-over {l} {r} (in_part {t} {j} {m} {d} fit o) lt = record {
    first = j;
    next = joint-next m fit.is;
    ties = joint-tie m fit.is ∙ ap Some fit.level;
    level = fit.level;
    right = fit.right;
    atom = joint-no_atom m fit.is;
    no_ty = λ z. let lv = fit.level in joint-no_ty m fit.is (omega arith);
    size = omega arith;
    runs = λ k le. go k le;
  }
    where
      go : (k : ℕ) → suc (length m) ≤ k → many (part_turn self f l r) k j m ≡ deep
      go zero le = absurd (omega arith)
      go (suc k) le = let h : self f (suc l) m ≡ deep = over f (suc l) m d o lt in many-stop (part_turn self f l r) k (rw h refl)
  part-over {l} {r} (past_part {t} {j} {m} {n = p} {b} {d} fit high en db o) lt = record {
    first = j;
    next = joint-next m fit.is;
    ties = joint-tie m fit.is ∙ ap Some fit.level;
    level = fit.level;
    right = fit.right;
    atom = joint-no_atom m fit.is;
    no_ty = λ z. let lv = fit.level in joint-no_ty m fit.is (omega arith);
    size = omega arith;
    runs = λ k le. go (part-over o lt) k le;
  }
    where
      go : FarPart l r p → (k : ℕ) → suc (length m) ≤ k → many (part_turn self f l r) k j m ≡ deep
      go w zero le = absurd (omega arith)
      go w (suc k) le =
          let s : could_go_on f (suc l) p ≡ false = ap (at_least (suc l)) w.ties ∙ lt-leb (suc l) l (omega arith) in
          let sh = shorter db in
          elim (exp-or n self complete over f (suc l) m b p db high en s w.atom (λ z. w.no_ty (omega arith))) [
            | inl h ↦ many-deep (part_turn self f l r) k {put = part j b} (part-step n self complete f j w.first h w.next w.level w.right) (w.runs k (omega arith))
            | inr h ↦ many-stop (part_turn self f l r) k (rw h refl)
          ]

  -- turns of what follows an expression that answer deep

  pub joint-deep : (l : ℕ) (a : Exp) {t : Terminal} {j : Joint} (m : List Terminal) → IsJoint f t j → l ≤ joint_level f j → joint_level f j < level f a → n < depth a → suffix_turn self n f l a (t ∷ m) ≡ deep
  joint-deep l a {t} {j} m is low high lt =
      let nx = joint-next m is in
      let c1 = le-leb l (joint_level f j) low in
      let c2 : nat_le (suc (joint_level f j)) (level f a) ≡ true = le-leb (suc (joint_level f j)) (level f a) (omega arith) in
      let c3 : nat_le (depth a) n ≡ false = lt-leb (depth a) n lt in
      rw (nx, c1, c2, c3) refl

  pub chain-deep : (l0 : ℕ) (a : Exp) {l : ℕ} {r : Bool} {m o : List Terminal} {ps : Parts} → Follows f l r m ps o → l0 ≤ l → l < level f a → n < depth a → suffix_turn self n f l0 a m ≡ deep
  chain-deep l0 a {l} (of_last_part {m} fit h d) low high lt = let lv = fit.level in joint-deep l0 a m fit.is (omega arith) (omega arith) lt
  chain-deep l0 a {l} (of_part {m} fit h en d fs) low high lt = let lv = fit.level in joint-deep l0 a m fit.is (omega arith) (omega arith) lt

  pub part-deep : (l0 : ℕ) (a : Exp) {l : ℕ} {r : Bool} {i : List Terminal} → FarPart l r i → l0 ≤ l → l < level f a → suffix_turn self n f l0 a i ≡ deep
  part-deep l0 a {l} {r} {i} w low high =
      let nx = w.next in
      let lv = w.level in
      let c1 : nat_le l0 (joint_level f w.first) ≡ true = le-leb l0 (joint_level f w.first) (omega arith) in
      let c2 : nat_le (suc (joint_level f w.first)) (level f a) ≡ true = le-leb (suc (joint_level f w.first)) (level f a) (omega arith) in
      elim (le_or (depth a) n) [
        | inl p ↦
            let c3 = le-leb (depth a) n p in
            let q : whole_parts self f w.first (tail i) ≡ deep =
            subst (λ (z : ℕ). many (part_turn self f z (joint_right f w.first)) (suc (length (tail i))) w.first (tail i) ≡ deep) (sym w.level)
            (subst (λ (z : Bool). many (part_turn self f l z) (suc (length (tail i))) w.first (tail i) ≡ deep) (sym w.right) (w.runs (suc (length (tail i))) w.size)) in
            rw (nx, c1, c2, c3, q) refl
        | inr p ↦ let c3 : nat_le (depth a) n ≡ false = lt-leb (depth a) n p in rw (nx, c1, c2, c3) refl
      ]

  pub mark-deep : (l : ℕ) (a : Exp) (p : ℕ) (m : List Terminal) → l ≤ 5 → 5 ≤ level f a → n < depth a → suffix_turn self n f l a (reserved p res.Colon ∷ m) ≡ deep
  mark-deep l a p m low high lt = let c1 = le-leb l 5 low in let c2 = le-leb 5 (level f a) high in let c3 : nat_le (depth a) n ≡ false = lt-leb (depth a) n lt in rw (c1, c2, c3) refl

  pub ty-deep : (l : ℕ) (a : Exp) (p : ℕ) (m : List Terminal) (d : ℕ) → l ≤ 5 → 5 ≤ level f a → OpensTy 0 m d → n < d → suffix_turn self n f l a (reserved p res.Colon ∷ m) ≡ deep
  ty-deep l a p m d low high o lt =
      elim (le_or (depth a) n) [
        | inl q ↦
            let c1 = le-leb l 5 low in let c2 = le-leb 5 (level f a) high in let c3 = le-leb (depth a) n q in
            let h : read_ty n 0 m ≡ deep = facts.ty-over n o lt in
            rw (c1, c2, c3, h) refl
        | inr q ↦ mark-deep l a p m low high q
      ]

  pub handle-deep : (l : ℕ) (a : Exp) (p : ℕ) (m : List Terminal) → l ≤ 0 → n < depth a → suffix_turn self n f l a (reserved p res.Handle ∷ m) ≡ deep
  handle-deep l a p m low lt = let c1 = le-leb l 0 low in let c3 : nat_le (depth a) n ≡ false = lt-leb (depth a) n lt in rw (c1, c3) refl

  pub rules-deep : (l : ℕ) (a : Exp) (p : ℕ) (m : List Terminal) (d : ℕ) → l ≤ 0 → OpensMatch f m d → n < d → suffix_turn self n f l a (reserved p res.Handle ∷ m) ≡ deep
  rules-deep l a p m d low o lt =
      elim (le_or (depth a) n) [
        | inl q ↦
            let c1 = le-leb l 0 low in let c3 = le-leb (depth a) n q in
            let h : read_match n self f m ≡ deep = whole-match-over n self complete over o lt in
            rw (c1, c3, h) refl
        | inr q ↦ handle-deep l a p m low q
      ]
