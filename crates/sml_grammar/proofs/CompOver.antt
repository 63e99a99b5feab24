-- What is too deep is told to be: expressions.
use Rattle.std.proofs.Common.{◌≡◌, ℕ, zero, suc, ◌≤◌, ◌<◌, List, ◌∷◌, length, Some, true, false, inl, inr, refl, ap, ◌∙◌, subst, arith, nat_le, max}
use Rattle.std.proofs.lemmas.Bool.{le-leb, lt-leb}
use Rattle.mlc_names.specs.declared.token.Reserved.TheVariants as res
use Rattle.sml_tree.specs.Terminal.{Terminal, reserved}
use Rattle.sml_tree.specs.Fixity.{Fixity}
use Rattle.sml_tree.specs.ReadTree.{Exp}
use Rattle.sml_tree.specs.Depth.{depth, depth_ty, depth_exps, depth_parts, depth_rules}
use Rattle.sml_tree.specs.Levels.{level, goes_on}
use Rattle.sml_tree.specs.Grammar.{Atom, more_atoms, Reads, of_atom, of_app, of_chain, of_typed, of_handle, of_raise, of_if, of_while, of_case, of_fn}
use Rattle.sml_grammar.specs.Answer.{deep, read, whole}
use Rattle.sml_grammar.specs.Terminals.{no_state}
use Rattle.sml_grammar.specs.Expressions.{Readers, start_of, other_start, atom_start, begins_atom, atom_by, atoms_turn, application, read_match, suffix_turn, exp_from}
use Rattle.sml_grammar.specs.Partial.{Opens, begun, in_atom, applied_to, in_argument, joined, in_chain, marked, in_typed, handled, in_handler, in_raise, in_condition, in_then, in_else, in_while, in_do, in_subject, in_case, in_fn}
use Rattle.sml_grammar.proofs.Answers.{le_or, many-stop}
use Rattle.sml_grammar.proofs.ExpLevels.{joint-tie, joint-no_atom}
use Rattle.sml_grammar.proofs.CompFacts as facts
use Rattle.sml_grammar.proofs.CompShapes.{chain-head, chain-no_ty, joint-no_ty, chain_goes_on, chain-mark, chain-handler, chain-joint}
use Rattle.sml_grammar.proofs.CompQuiet.{begins_atom-found, atom-start, atom-begins}
use Rattle.sml_grammar.proofs.CompLists.{TyStops, CompleteExp, CompleteAtom, CompleteDecs, atom-complete}
use Rattle.sml_grammar.proofs.CompReaches.{Reaches, reaches}
use Rattle.sml_grammar.proofs.CompPaths.{atom-opens, atoms-opens, follows-opens, match-opens}
use Rattle.sml_grammar.proofs.CompBegins.{opens_atom-start, as-begins}
use Rattle.sml_grammar.proofs.CompOverLists.{OverExp, OverAtom, OverDecs, too, plain-or, whole-match-over, atom-over, atoms-over}
use Rattle.sml_grammar.proofs.CompOverSuffix.{part-over, joint-deep, chain-deep, part-deep, mark-deep, ty-deep, handle-deep, rules-deep}

module _ (n : ℕ) (self : Readers) (complete : CompleteExp n self.exp) (complete_atom : CompleteAtom n self.atom) (complete_decs : CompleteDecs n self.decs) (over : OverExp n self.exp) (over_atom : OverAtom n self.atom) (over_decs : OverDecs n self.decs) (f : Fixity) where
  app-over : {i m : List Terminal} {e : Exp} → Atom f i e m → begins_atom f m ≡ true → (depth e ≤ n → whole (atoms_turn self.atom f) no_state m ≡ deep) → application self n f i ≡ deep
  app-over {i} {m} {e} a b go =
      elim (le_or (depth e) (suc n)) [
        | inl p ↦
            let h : atom_by self f (atom_start f i) ≡ read e m = atom-complete n self complete complete_decs a p in
            elim (le_or (depth e) n) [
              | inl q ↦ let c = le-leb (depth e) n q in let g : whole (atoms_turn self.atom f) no_state m ≡ deep = go q in rw (h, b, c, g) refl
              | inr q ↦ let c : nat_le (depth e) n ≡ false = lt-leb (depth e) n q in rw (h, b, c) refl
            ]
        | inr p ↦
            let h : atom_by self f (atom_start f i) ≡ deep = atom-over n self complete complete_decs over over_decs (atom-opens a (depth e) (omega arith) (omega arith)) p in
            rw h refl
      ]

  abbrev IsFar : ℕ → List Terminal → Type 0
  IsFar l i = exp_from self n f l i ≡ deep

  app-far : (l : ℕ) (i : List Terminal) → start_of i ≡ other_start → application self n f i ≡ deep → IsFar l i
  app-far l i s h = rw (s, h) refl

  only-atom : (i : List Terminal) → atom_by self f (atom_start f i) ≡ deep → application self n f i ≡ deep
  only-atom i h = rw h refl

  -- what comes after a left operand
  after-left : (l : ℕ) (i m : List Terminal) (a : Exp) → Reaches n self complete complete_atom complete_decs f l i a m → suffix_turn self.exp n f l a m ≡ deep → IsFar l i
  after-left l i m a (zero, le, e) step = absurd (omega arith)
  after-left l i m a (suc k, le, e) step = e ∙ many-stop (suffix_turn self.exp n f l) k step

  raise-far : (l p : ℕ) (i : List Terminal) → l ≤ 4 → self.exp f 0 i ≡ deep → IsFar l (reserved p res.Raise ∷ i)
  raise-far l p i low h = let c = le-leb l 4 low in rw (c, h) refl

  condition-far : (l p : ℕ) (i : List Terminal) → l ≤ 4 → self.exp f 0 i ≡ deep → IsFar l (reserved p res.If ∷ i)
  condition-far l p i low h = let c = le-leb l 4 low in rw (c, h) refl

  then-far : (l p q : ℕ) {i m : List Terminal} {a : Exp} → l ≤ 4 → Reads f i a (reserved q res.Then ∷ m) → self.exp f 0 m ≡ deep → IsFar l (reserved p res.If ∷ i)
  then-far l p q {i} {m} {a} low d g =
      elim (plain-or n self.exp complete over f i a q res.Then m d refl) [ inl h ↦ let c = le-leb l 4 low in rw (c, h, g) refl | inr h ↦ condition-far l p i low h ]

  else-far : (l p q r : ℕ) {i m k : List Terminal} {a b : Exp} → l ≤ 4 → Reads f i a (reserved q res.Then ∷ m) → Reads f m b (reserved r res.Else ∷ k) → self.exp f 0 k ≡ deep → IsFar l (reserved p res.If ∷ i)
  else-far l p q r {i} {m} {k} {a} {b} low d e g =
      elim (plain-or n self.exp complete over f m b r res.Else k e refl) [
        | inl x ↦ elim (plain-or n self.exp complete over f i a q res.Then m d refl) [ inl h ↦ let c = le-leb l 4 low in rw (c, h, x, g) refl | inr h ↦ condition-far l p i low h ]
        | inr x ↦ then-far l p q low d x
      ]

  while-far : (l p : ℕ) (i : List Terminal) → l ≤ 4 → self.exp f 0 i ≡ deep → IsFar l (reserved p res.While ∷ i)
  while-far l p i low h = let c = le-leb l 4 low in rw (c, h) refl

  do-far : (l p q : ℕ) {i m : List Terminal} {a : Exp} → l ≤ 4 → Reads f i a (reserved q res.Do ∷ m) → self.exp f 0 m ≡ deep → IsFar l (reserved p res.While ∷ i)
  do-far l p q {i} {m} {a} low d g =
      elim (plain-or n self.exp complete over f i a q res.Do m d refl) [ inl h ↦ let c = le-leb l 4 low in rw (c, h, g) refl | inr h ↦ while-far l p i low h ]

  subject-far : (l p : ℕ) (i : List Terminal) → l ≤ 4 → self.exp f 0 i ≡ deep → IsFar l (reserved p res.Case ∷ i)
  subject-far l p i low h = let c = le-leb l 4 low in rw (c, h) refl

  case-far : (l p q : ℕ) {i m : List Terminal} {e : Exp} → l ≤ 4 → Reads f i e (reserved q res.Of ∷ m) → read_match n self.exp f m ≡ deep → IsFar l (reserved p res.Case ∷ i)
  case-far l p q {i} {m} {e} low d g =
      elim (plain-or n self.exp complete over f i e q res.Of m d refl) [ inl h ↦ let c = le-leb l 4 low in rw (c, h, g) refl | inr h ↦ subject-far l p i low h ]

  fn-far : (l p : ℕ) (i : List Terminal) → l ≤ 4 → read_match n self.exp f i ≡ deep → IsFar l (reserved p res.Fn ∷ i)
  fn-far l p i low h = let c = le-leb l 4 low in rw (c, h) refl

  -- a whole expression that is too deep, whatever follows it
  reads-far : (l : ℕ) {i o : List Terminal} {t : Exp} → Reads f i t o → l ≤ level f t → suc n < depth t → IsFar l i
  reads-far l {i} {t} (of_atom d) high lt =
      app-far l i (atom-start d) (only-atom i (atom-over n self complete complete_decs over over_decs (atom-opens d (depth t) (omega arith) (omega arith)) lt))
  reads-far l (of_app {i} {m} {e} {a} {es} d da ds) high lt =
      app-far l i (atom-start d) (app-over d (atom-begins da) (λ (le : depth e ≤ n).
      let r = atoms-opens (more_atoms da ds) (max (depth a) (depth_exps es)) (omega arith) (omega arith) in
      atoms-over n self.atom complete_atom over_atom r.reads r.opens (omega arith) (suc (length m)) (omega arith)))
  reads-far l (of_chain {i} {m} {a} {ps} l' r high' e d fs) high lt =
      let w = chain-head fs in
      let low : l ≤ l' = subst (λ (z : ℕ). l ≤ z) w.parts high in
      elim (le_or (depth a) (suc n)) [
        | inl p ↦ after-left l i m a (reaches n self complete complete_atom complete_decs f l d p (omega arith) e (chain-joint f a m l' high' w.ties) w.atom (λ z. chain-no_ty fs (omega arith)))
            (elim (le_or (depth a) n) [
              | inl q ↦ part-deep n self.exp complete over f l a (part-over n self.exp complete over f (follows-opens fs (depth_parts ps) (omega arith) (omega arith)) (omega arith)) low high'
              | inr q ↦ chain-deep n self.exp complete over f l a fs low high' q
            ])
        | inr p ↦ reads-far l d (omega arith) p
      ]
  reads-far l (of_typed {i} {m} {o} {e} {s} p five en d ds) high lt =
      elim (le_or (depth e) (suc n)) [
        | inl h ↦ after-left l i (reserved p res.Colon ∷ m) e
            (reaches n self complete complete_atom complete_decs f l d h (omega arith) en (chain-mark f e (reserved p res.Colon ∷ m) five refl) refl (λ z. refl))
            (elim (le_or (depth e) n) [
              | inl q ↦ ty-deep n self.exp complete over f l e p m (depth_ty s) high five (facts.ty-opens ds (depth_ty s) (omega arith) (omega arith)) (omega arith)
              | inr q ↦ mark-deep n self.exp complete over f l e p m high five q
            ])
        | inr h ↦ reads-far l d (omega arith) h
      ]
  reads-far l (of_handle {i} {m} {e} {rs} p en d dm) high lt =
      elim (le_or (depth e) (suc n)) [
        | inl h ↦ after-left l i (reserved p res.Handle ∷ m) e
            (reaches n self complete complete_atom complete_decs f l d h (omega arith) en (chain-handler f e (reserved p res.Handle ∷ m) refl) refl (λ z. refl))
            (elim (le_or (depth e) n) [
              | inl q ↦ rules-deep n self.exp complete over f l e p m (depth_rules rs) high (match-opens dm (depth_rules rs) (omega arith) (omega arith)) (omega arith)
              | inr q ↦ handle-deep n self.exp complete over f l e p m high q
            ])
        | inr h ↦ reads-far l d (omega arith) h
      ]
  reads-far l (of_raise {i} {o} {e} p d) high lt = raise-far l p i high (too n self.exp complete over f 0 i e o d (omega arith) (omega arith))
  reads-far l (of_if {i} {m} {n = j} {o} {a} {b} {c} p q r da db dc) high lt =
      elim (le_or (depth a) n) [
        | inl x ↦ elim (le_or (depth b) n) [
          | inl y ↦ else-far l p q r high da db (too n self.exp complete over f 0 j c o dc (omega arith) (omega arith))
          | inr y ↦ then-far l p q high da (too n self.exp complete over f 0 m b (reserved r res.Else ∷ j) db (omega arith) y)
        ]
        | inr x ↦ condition-far l p i high (too n self.exp complete over f 0 i a (reserved q res.Then ∷ m) da (omega arith) x)
      ]
  reads-far l (of_while {i} {m} {o} {a} {b} p q da db) high lt =
      elim (le_or (depth a) n) [
        | inl x ↦ do-far l p q high da (too n self.exp complete over f 0 m b o db (omega arith) (omega arith))
        | inr x ↦ while-far l p i high (too n self.exp complete over f 0 i a (reserved q res.Do ∷ m) da (omega arith) x)
      ]
  reads-far l (of_case {i} {m} {o} {e} {rs} p q d dm) high lt =
      elim (le_or (depth e) n) [
        | inl x ↦ case-far l p q high d (whole-match-over n self.exp complete over (match-opens dm (depth_rules rs) (omega arith) (omega arith)) (omega arith))
        | inr x ↦ subject-far l p i high (too n self.exp complete over f 0 i e (reserved q res.Of ∷ m) d (omega arith) x)
      ]
  reads-far l (of_fn {i} {rs} p dm) high lt = fn-far l p i high (whole-match-over n self.exp complete over (match-opens dm (depth_rules rs) (omega arith) (omega arith)) (omega arith))

  left-far : (l : ℕ) {i m : List Terminal} {a : Exp} → Reads f i a m → l ≤ level f a → goes_on f a m ≡ false → chain_goes_on f a m ≡ false → begins_atom f m ≡ false → TyStops (level f a) m →
      suffix_turn self.exp n f l a m ≡ deep → IsFar l i
  left-far l {i} {m} {a} d high e ch b y step =
      elim (le_or (depth a) (suc n)) [
        | inl p ↦ after-left l i m a (reaches n self complete complete_atom complete_decs f l d p high e ch b y) step
        | inr p ↦ reads-far l d high p
      ]

  pub from-over : {l : ℕ} {i : List Terminal} {d : ℕ} → Opens f l i d → suc n < d → exp_from self n f l i ≡ deep
  from-over (begun e) lt = absurd (omega arith)
  from-over {l} {i} (in_atom o) lt = app-far l i (opens_atom-start o) (only-atom i (atom-over n self complete complete_decs over over_decs o lt))
  from-over {l} {i} (applied_to {e} a b h) lt = app-far l i (atom-start a) (app-over a (begins_atom-found b) (λ (le : depth e ≤ n). absurd (omega arith)))
  from-over {l} {i} (in_argument {m} {e} a bs o) lt =
      app-far l i (atom-start a) (app-over a (as-begins bs o) (λ (le : depth e ≤ n). atoms-over n self.atom complete_atom over_atom bs o (omega arith) (suc (length m)) (omega arith)))
  from-over {l} (joined {k = l'} {m} {t} {a} low high e d fit h) lt =
      let lv = fit.level in
      left-far l d (omega arith) e (chain-joint f a (t ∷ m) l' high (joint-tie m fit.is ∙ ap Some fit.level)) (joint-no_atom m fit.is) (λ z. joint-no_ty m fit.is (omega arith))
      (joint-deep n self.exp complete over f l a m fit.is (omega arith) (omega arith) (omega arith))
  from-over {l} (in_chain {k = l'} {m} {a} low high e d o) lt =
      let w = part-over n self.exp complete over f o (omega arith) in
      left-far l d (omega arith) e (chain-joint f a m l' high w.ties) w.atom (λ z. w.no_ty (omega arith)) (part-deep n self.exp complete over f l a w low high)
  from-over {l} (marked {m} {a} p low five e d h) lt =
      left-far l d (omega arith) e (chain-mark f a (reserved p res.Colon ∷ m) five refl) refl (λ z. refl) (mark-deep n self.exp complete over f l a p m low five (omega arith))
  from-over {l} (in_typed {m} {a} {d = x} p low five e d o) lt =
      left-far l d (omega arith) e (chain-mark f a (reserved p res.Colon ∷ m) five refl) refl (λ z. refl) (ty-deep n self.exp complete over f l a p m x low five o (omega arith))
  from-over {l} (handled {m} {a} p low e d h) lt =
      left-far l d (omega arith) e (chain-handler f a (reserved p res.Handle ∷ m) refl) refl (λ z. refl) (handle-deep n self.exp complete over f l a p m low (omega arith))
  from-over {l} (in_handler {m} {a} {d = x} p low e d o) lt =
      left-far l d (omega arith) e (chain-handler f a (reserved p res.Handle ∷ m) refl) refl (λ z. refl) (rules-deep n self.exp complete over f l a p m x low o (omega arith))
  from-over {l} (in_raise {i} {d} p low o) lt = raise-far l p i low (over f 0 i d o (omega arith))
  from-over {l} (in_condition {i} {d} p low o) lt = condition-far l p i low (over f 0 i d o (omega arith))
  from-over {l} (in_then {m} {d} p q low da o) lt = then-far l p q low da (over f 0 m d o (omega arith))
  from-over {l} (in_else {n = j} {d} p q r low da db o) lt = else-far l p q r low da db (over f 0 j d o (omega arith))
  from-over {l} (in_while {i} {d} p low o) lt = while-far l p i low (over f 0 i d o (omega arith))
  from-over {l} (in_do {m} {d} p q low da o) lt = do-far l p q low da (over f 0 m d o (omega arith))
  from-over {l} (in_subject {i} {d} p low o) lt = subject-far l p i low (over f 0 i d o (omega arith))
  from-over {l} (in_case p q low d o) lt = case-far l p q low d (whole-match-over n self.exp complete over o (omega arith))
  from-over {l} (in_fn {i} p low o) lt = fn-far l p i low (whole-match-over n self.exp complete over o (omega arith))
