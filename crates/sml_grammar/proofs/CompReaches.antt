-- What is in the grammar, and not too deep, is read: expressions.
use Rattle.std.proofs.Common.{◌≡◌, ℕ, zero, suc, ◌≤◌, ◌<◌, List, ◌∷◌, length, false, refl, sym, ◌∙◌, subst, arith}
use Rattle.std.proofs.lemmas.Bool.{le-leb}
use Rattle.mlc_names.specs.declared.token.Reserved.TheVariants as res
use Rattle.sml_tree.specs.Terminal.{Terminal, reserved}
use Rattle.sml_tree.specs.Fixity.{Fixity}
use Rattle.sml_tree.specs.ReadTree.{Exp, app, chain, typed, handle, raise, if_then, while, case, fn, Exps, exp}
use Rattle.sml_tree.specs.Depth.{depth, depth_exps}
use Rattle.sml_tree.specs.Levels.{level, could_go_on, goes_on, rules_go_on, begins_bar}
use Rattle.sml_tree.specs.Grammar.{Atom, Atoms, more_atoms, Reads, of_atom, of_app, of_chain, of_typed, of_handle, of_raise, of_if, of_while, of_case, of_fn}
use Rattle.sml_grammar.specs.Answer.{more, read, many, whole}
use Rattle.sml_grammar.specs.Terminals.{no_state}
use Rattle.sml_grammar.specs.Expressions.{Readers, start_of, other_start, atom_start, begins_atom, atom_by, atoms_turn, application, read_match, suffix_turn, exp_from}
use Rattle.sml_grammar.proofs.Answers.{many-pass, or_split, many-last}
use Rattle.sml_grammar.proofs.ExpLevels.{stops-more, rules-stop}
use Rattle.sml_grammar.proofs.CompFacts as facts
use Rattle.sml_grammar.proofs.CompShapes.{follows-shorter, match-shorter, chain-head, chain-no_ty, chain_goes_on, chain-stops, chain-mark, chain-handler, chain-joint}
use Rattle.sml_grammar.proofs.CompQuiet.{plain-word, atom-start, atom-begins}
use Rattle.sml_grammar.proofs.CompLists.{TyStops, CompleteExp, CompleteAtom, CompleteDecs, plain-exp, whole-match, atom-complete, atoms-complete}
use Rattle.sml_grammar.proofs.CompSuffix.{stop-step, chain-step, mark-step, handler-step}

module _ (n : ℕ) (self : Readers) (complete : CompleteExp n self.exp) (complete_atom : CompleteAtom n self.atom) (complete_decs : CompleteDecs n self.decs) (f : Fixity) where
  atom-only : {i o : List Terminal} {e : Exp} → Atom f i e o → depth e ≤ suc n → begins_atom f o ≡ false → application self n f i ≡ read e o
  atom-only {i} {o} {e} a le b = let h : atom_by self f (atom_start f i) ≡ read e o = atom-complete n self complete complete_decs a le in rw (h, b) refl

  application-complete : {i m o : List Terminal} {e x : Exp} {es : Exps} → Atom f i e m → Atoms f m (exp x es) o → depth e ≤ n → depth_exps (exp x es) ≤ n → begins_atom f o ≡ false →
      application self n f i ≡ read (app e x es) o
  application-complete {i} {m} {o} {e} {x} {es} a (more_atoms b bs) le la c =
      let h : atom_by self f (atom_start f i) ≡ read e m = atom-complete n self complete complete_decs a (omega arith) in
      let g = atom-begins b in
      let t = le-leb (depth e) n le in
      let r : whole (atoms_turn self.atom f) no_state m ≡ read (exp x es) o =
      atoms-complete n self complete complete_decs self.atom complete_atom (more_atoms b bs) la c (suc (length m)) (omega arith) in
      rw (h, g, t, r) refl

  -- The function has come as far as to look for what follows t.
  abbrev pub Reaches : ℕ → List Terminal → Exp → List Terminal → Type 0
  Reaches l i t o = (k : ℕ) × (length o < k) × (exp_from self n f l i ≡ many (suffix_turn self.exp n f l) k t o)

  reaches-form : (l : ℕ) (i : List Terminal) (t : Exp) (o : List Terminal) → could_go_on f l o ≡ false → exp_from self n f l i ≡ read t o → Reaches l i t o
  reaches-form l i t o c e = (suc (length o), omega arith, e ∙ sym (many-last (suffix_turn self.exp n f l) (length o) (stop-step n self.exp complete f l t o c)))

  reaches-app : (l : ℕ) (i : List Terminal) (t : Exp) (o : List Terminal) → start_of i ≡ other_start → application self n f i ≡ read t o → Reaches l i t o
  reaches-app l i t o s e = (suc (length o), omega arith, rw (s, e) refl)

  -- one turn more
  reaches-more : (l : ℕ) (i : List Terminal) (a t : Exp) (m o : List Terminal) → length o < length m → suffix_turn self.exp n f l a m ≡ read (more (λ b. b) t) o → Reaches l i a m → Reaches l i t o
  reaches-more l i a t m o lt step (zero, le, e) = absurd (omega arith)
  reaches-more l i a t m o lt step (suc k, le, e) = (k, omega arith, e ∙ many-pass (suffix_turn self.exp n f l) k step)

  pub reaches : {i o : List Terminal} {t : Exp} (l : ℕ) → Reads f i t o → depth t ≤ suc n → l ≤ level f t → goes_on f t o ≡ false → chain_goes_on f t o ≡ false → begins_atom f o ≡ false → TyStops (level f t) o →
      Reaches l i t o
  reaches {i} {o} {t} l (of_atom d) le high ends ch b y = reaches-app l i t o (atom-start d) (atom-only d le b)
  reaches l (of_app {i} {m} {n = p} {o} {e} {a} {es} d da ds) le high ends ch b y =
      reaches-app l i (app e a es) o (atom-start d) (application-complete d (more_atoms da ds) (omega arith) (omega arith) b)
  reaches l (of_chain {i} {m} {o} {a} {ps} l' r lt e da fs) le high ends ch b y =
      let w = chain-head fs in
      let c : could_go_on f l' o ≡ false = subst (λ (z : ℕ). could_go_on f z o ≡ false) w.parts ch in
      let low : l ≤ l' = subst (λ (z : ℕ). l ≤ z) w.parts high in
      let y' : TyStops l' o = subst (λ (z : ℕ). TyStops z o) w.parts y in
      let sh = follows-shorter fs in
      reaches-more l i a (chain r a ps) m o sh (chain-step n self.exp complete f l a fs low lt (omega arith) (omega arith) ends c b y')
      (reaches l da (omega arith) (omega arith) e (chain-joint f a m l' lt w.ties) w.atom (λ z. chain-no_ty fs (omega arith)))
  reaches l (of_typed {i} {m} {o} {e} {s} p five en d ds) le high ends ch b y =
      let sh = facts.ty-shorter ds in
      reaches-more l i e (typed e s) (reserved p res.Colon ∷ m) o (omega arith) (mark-step n self.exp complete f l e s p m o ds high five (omega arith) (omega arith) (y (omega arith)))
      (reaches l d (omega arith) (omega arith) en (chain-mark f e (reserved p res.Colon ∷ m) five refl) refl (λ z. refl))
  reaches l (of_handle {i} {m} {o} {e} {rs} p en d dm) le high ends ch b y =
      let s = or_split (begins_bar o) (rules_go_on f rs o) ends in
      let h : read_match n self.exp f m ≡ read rs o = whole-match n self.exp complete dm (omega arith) s.1 s.0 b (y (omega arith)) in
      let sh = match-shorter dm in
      reaches-more l i e (handle e rs) (reserved p res.Handle ∷ m) o (omega arith) (handler-step n self.exp complete f l e rs p m o high (omega arith) h)
      (reaches l d (omega arith) (omega arith) en (chain-handler f e (reserved p res.Handle ∷ m) refl) refl (λ z. refl))
  reaches l (of_raise {i} {o} {e} p d) le high ends ch b y =
      let s = or_split (could_go_on f 0 o) (goes_on f e o) ends in
      let h : self.exp f 0 i ≡ read e o = complete f 0 i e o d (omega arith) (omega arith) s.1 s.0 b (λ z. y (omega arith)) in
      let c = le-leb l 4 high in
      reaches-form l (reserved p res.Raise ∷ i) (raise p e) o (stops-more f 0 l o (omega arith) s.0) (rw (c, h) refl)
  reaches l (of_if {i} {m} {n = j} {o} {a} {b = x} {c = z} p q r da db dc) le high ends ch b y =
      let s = or_split (could_go_on f 0 o) (goes_on f z o) ends in
      let h1 : self.exp f 0 i ≡ read a (reserved q res.Then ∷ m) = plain-exp n self.exp complete f i a (reserved q res.Then ∷ m) da (omega arith) (plain-word f q res.Then m refl) in
      let h2 : self.exp f 0 m ≡ read x (reserved r res.Else ∷ j) = plain-exp n self.exp complete f m x (reserved r res.Else ∷ j) db (omega arith) (plain-word f r res.Else j refl) in
      let h3 : self.exp f 0 j ≡ read z o = complete f 0 j z o dc (omega arith) (omega arith) s.1 s.0 b (λ z. y (omega arith)) in
      let c = le-leb l 4 high in
      reaches-form l (reserved p res.If ∷ i) (if_then p a x z) o (stops-more f 0 l o (omega arith) s.0) (rw (c, h1, h2, h3) refl)
  reaches l (of_while {i} {m} {o} {a} {b = x} p q da db) le high ends ch b y =
      let s = or_split (could_go_on f 0 o) (goes_on f x o) ends in
      let h1 : self.exp f 0 i ≡ read a (reserved q res.Do ∷ m) = plain-exp n self.exp complete f i a (reserved q res.Do ∷ m) da (omega arith) (plain-word f q res.Do m refl) in
      let h2 : self.exp f 0 m ≡ read x o = complete f 0 m x o db (omega arith) (omega arith) s.1 s.0 b (λ z. y (omega arith)) in
      let c = le-leb l 4 high in
      reaches-form l (reserved p res.While ∷ i) (while p a x) o (stops-more f 0 l o (omega arith) s.0) (rw (c, h1, h2) refl)
  reaches l (of_case {i} {m} {o} {e} {rs} p q d dm) le high ends ch b y =
      let s = or_split (begins_bar o) (rules_go_on f rs o) ends in
      let g : self.exp f 0 i ≡ read e (reserved q res.Of ∷ m) = plain-exp n self.exp complete f i e (reserved q res.Of ∷ m) d (omega arith) (plain-word f q res.Of m refl) in
      let h : read_match n self.exp f m ≡ read rs o = whole-match n self.exp complete dm (omega arith) s.1 s.0 b (y (omega arith)) in
      let c = le-leb l 4 high in
      reaches-form l (reserved p res.Case ∷ i) (case p e rs) o (stops-more f 0 l o (omega arith) (rules-stop f rs o s.1)) (rw (c, g, h) refl)
  reaches l (of_fn {i} {o} {rs} p dm) le high ends ch b y =
      let s = or_split (begins_bar o) (rules_go_on f rs o) ends in
      let h : read_match n self.exp f i ≡ read rs o = whole-match n self.exp complete dm (omega arith) s.1 s.0 b (y (omega arith)) in
      let c = le-leb l 4 high in
      reaches-form l (reserved p res.Fn ∷ i) (fn p rs) o (stops-more f 0 l o (omega arith) (rules-stop f rs o s.1)) (rw (c, h) refl)

  ends-here : (l : ℕ) (i : List Terminal) (t : Exp) (o : List Terminal) → could_go_on f l o ≡ false → Reaches l i t o → exp_from self n f l i ≡ read t o
  ends-here l i t o c (zero, le, e) = absurd (omega arith)
  ends-here l i t o c (suc k, le, e) = e ∙ many-last (suffix_turn self.exp n f l) k (stop-step n self.exp complete f l t o c)

  pub from-complete : (l : ℕ) (i : List Terminal) (t : Exp) (o : List Terminal) → Reads f i t o → depth t ≤ suc n → l ≤ level f t → goes_on f t o ≡ false → could_go_on f l o ≡ false → begins_atom f o ≡ false → TyStops l o →
      exp_from self n f l i ≡ read t o
  from-complete l i t o d le high ends stops b y =
      ends-here l i t o stops (reaches l d le high ends (chain-stops f t o (stops-more f l (level f t) o high stops)) b (λ z. y (omega arith)))
