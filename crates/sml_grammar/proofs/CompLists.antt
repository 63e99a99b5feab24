-- What is in the grammar, and not too deep, is read: lists of expressions, matches, and atomic expressions.
use Rattle.std.proofs.Common.{◌≡◌, ℕ, zero, suc, ◌≤◌, ◌<◌, List, ◌∷◌, length, None, false, refl, arith}
use Rattle.mlc_names.specs.declared.label.Label.{Label}
use Rattle.mlc_names.specs.declared.token.Reserved.TheVariants as res
use Rattle.sml_tree.specs.Terminal.{Terminal, reserved, IsLabel, is_number, is_constant}
use Rattle.sml_tree.specs.Fixity.{Fixity}
use Rattle.sml_tree.specs.ReadTree.{Exp, Exps, exp, ExpFields, exp_field, Rules, rule, Decs}
use Rattle.sml_tree.specs.Depth.{depth, depth_exps, depth_exp_fields, depth_rules, depth_decs}
use Rattle.sml_tree.specs.Levels.{after, level, could_go_on, goes_on, rules_go_on, begins_bar}
use Rattle.sml_tree.specs.Grammar.{Atom, of_constant, of_vid, of_equals, of_no_row, of_row, of_selector, of_unit, of_tuple, of_nil, of_list, of_sequence, of_paren, of_let, ExpRow, last_exp_row, more_exp_row, Commas, last_exp, more_exps, Semicolons, last_of_sequence, more_of_sequence, Atoms, no_atoms, more_atoms, Reads, Match, of_last_rule, of_rule, Declares}
use Rattle.sml_grammar.specs.Answer.{read, many, whole}
use Rattle.sml_grammar.specs.Terminals.{taken, after_word, no_state}
use Rattle.sml_grammar.specs.Types.{ty_could_go_on}
use Rattle.sml_grammar.specs.Patterns.{label_equals, read_pat}
use Rattle.sml_grammar.specs.Expressions.{Reader, AtomReader, DecsReader, Readers, atom_start, begins_atom, commas_turn, semicolons_turn, row_turn, atom_by, atoms_turn, rule_turn, read_match}
use Rattle.sml_grammar.proofs.Answers.{or_split, many-last, many-more}
use Rattle.sml_grammar.proofs.Terminals.{label-found}
use Rattle.sml_grammar.proofs.CompFacts as facts
use Rattle.sml_grammar.proofs.CompShapes.{atom-shorter, shorter, dead}
use Rattle.sml_grammar.proofs.CompQuiet.{Plain, plain-word, Ends, ends-in, no-bar, names-start, atom-begins, reads-begins, begins-no_paren, begins-no_bracket, commas-begins, row-no_brace}

-- where a type may be at the right edge, it does not go on
abbrev pub TyStops : ℕ → List Terminal → Type 0
TyStops l o = l ≤ 5 → ty_could_go_on 0 o ≡ false

abbrev pub CompleteExp : ℕ → Reader → Type 0
CompleteExp n self = (f : Fixity) (l : ℕ) (i : List Terminal) (t : Exp) (o : List Terminal) → Reads f i t o → depth t ≤ n → l ≤ level f t →
    goes_on f t o ≡ false → could_go_on f l o ≡ false → begins_atom f o ≡ false → TyStops l o → self f l i ≡ read t o

abbrev pub CompleteAtom : ℕ → AtomReader → Type 0
CompleteAtom n atom = (f : Fixity) (i : List Terminal) (e : Exp) (o : List Terminal) → Atom f i e o → depth e ≤ n → atom f i ≡ read e o

abbrev pub CompleteDecs : ℕ → DecsReader → Type 0
CompleteDecs n decs = (f : Fixity) (i : List Terminal) (ds : Decs) (o : List Terminal) → Declares f i ds o → depth_decs ds ≤ n → Ends o → decs f i ≡ read ds o

pub equals-label : {t : Terminal} {l : Label} (p : ℕ) (i : List Terminal) → IsLabel t l → label_equals (t ∷ reserved p res.Equals ∷ i) ≡ taken l i
equals-label p i is = let h = label-found is (reserved p res.Equals ∷ i) in rw h refl

module _ (n : ℕ) (self : Reader) (complete : CompleteExp n self) where
  -- before a terminal where nothing goes on
  pub plain-exp : (f : Fixity) (i : List Terminal) (t : Exp) (o : List Terminal) → Reads f i t o → depth t ≤ n → Plain f o → self f 0 i ≡ read t o
  plain-exp f i t o d le q = complete f 0 i t o d le (omega arith) (dead f t o q.ties q.bar) q.ties q.atom (λ h. q.ty)

  pub commas-complete : {f : Fixity} {i o : List Terminal} {es : Exps} → Commas f i es o → depth_exps es ≤ n → Plain f o → after_word res.Comma o ≡ None → (k : ℕ) → length i < k →
      many (commas_turn self f) k no_state i ≡ read es o
  commas-complete d le q c zero lt = absurd (omega arith)
  commas-complete {f} (last_exp {i} {o} {e} d) le q c (suc k) lt = let h : self f 0 i ≡ read e o = plain-exp f i e o d (omega arith) q in many-last (commas_turn self f) k (rw (h, c) refl)
  commas-complete {f} (more_exps {i} {m} {o} {e} {es} p d ds) le q c (suc k) lt =
      let h : self f 0 i ≡ read e (reserved p res.Comma ∷ m) = plain-exp f i e (reserved p res.Comma ∷ m) d (omega arith) (plain-word f p res.Comma m refl) in
      let s = shorter d in
      let r : many (commas_turn self f) k no_state m ≡ read es o = commas-complete ds (omega arith) q c k (omega arith) in
      many-more (commas_turn self f) k {put = exp e} (rw h refl) r

  pub semicolons-complete : {f : Fixity} {i o : List Terminal} {es : Exps} → Semicolons f i es o → depth_exps es ≤ n → Plain f o → after_word res.Semicolon o ≡ None → (k : ℕ) → length i < k →
      many (semicolons_turn self f) k no_state i ≡ read es o
  semicolons-complete d le q c zero lt = absurd (omega arith)
  semicolons-complete {f} (last_of_sequence {i} {o} {e} d) le q c (suc k) lt = let h : self f 0 i ≡ read e o = plain-exp f i e o d (omega arith) q in many-last (semicolons_turn self f) k (rw (h, c) refl)
  semicolons-complete {f} (more_of_sequence {i} {m} {o} {e} {es} p d ds) le q c (suc k) lt =
      let h : self f 0 i ≡ read e (reserved p res.Semicolon ∷ m) = plain-exp f i e (reserved p res.Semicolon ∷ m) d (omega arith) (plain-word f p res.Semicolon m refl) in
      let s = shorter d in
      let r : many (semicolons_turn self f) k no_state m ≡ read es o = semicolons-complete ds (omega arith) q c k (omega arith) in
      many-more (semicolons_turn self f) k {put = exp e} (rw h refl) r

  pub row-complete : {f : Fixity} {i o : List Terminal} {fs : ExpFields} → ExpRow f i fs o → depth_exp_fields fs ≤ n → Plain f o → after_word res.Comma o ≡ None → (k : ℕ) → length i < k →
      many (row_turn self f) k no_state i ≡ read fs o
  row-complete d le q c zero lt = absurd (omega arith)
  row-complete {f} (last_exp_row {t} {i} {o} {l} {e} p is d) le q c (suc k) lt =
      let g = equals-label p i is in
      let h : self f 0 i ≡ read e o = plain-exp f i e o d (omega arith) q in many-last (row_turn self f) k (rw (g, h, c) refl)
  row-complete {f} (more_exp_row {t} {i} {m} {o} {l} {e} {fs} p r is d ds) le q c (suc k) lt =
      let g = equals-label p i is in
      let h : self f 0 i ≡ read e (reserved r res.Comma ∷ m) = plain-exp f i e (reserved r res.Comma ∷ m) d (omega arith) (plain-word f r res.Comma m refl) in
      let s = shorter d in
      let z : many (row_turn self f) k no_state m ≡ read fs o = row-complete ds (omega arith) q c k (omega arith) in
      many-more (row_turn self f) k {put = exp_field l e} (rw (g, h) refl) z

  pub match-complete : {f : Fixity} {i o : List Terminal} {rs : Rules} → Match f i rs o → depth_rules rs ≤ n → rules_go_on f rs o ≡ false → begins_bar o ≡ false → begins_atom f o ≡ false → ty_could_go_on 0 o ≡ false →
      (k : ℕ) → length i < k → many (rule_turn n self f) k no_state i ≡ read rs o
  match-complete d le e b c y zero lt = absurd (omega arith)
  match-complete {f} (of_last_rule {i} {m} {o} {a} {e = t} p da d) le e b c y (suc k) lt =
      let s = or_split (could_go_on f 0 o) (goes_on f t o) e in
      let g : read_pat n f i ≡ read a (reserved p res.DoubleArrow ∷ m) = facts.pat-complete-arrow n da (omega arith) in
      let h : self f 0 m ≡ read t o = complete f 0 m t o d (omega arith) (omega arith) s.1 s.0 c (λ z. y) in
      let nb = no-bar o b in
      many-last (rule_turn n self f) k (rw (g, h, nb) refl)
  match-complete {f} (of_rule {i} {m} {n = j} {o} {a} {e = t} {rs} p q da ends d dm) le e b c y (suc k) lt =
      let g : read_pat n f i ≡ read a (reserved p res.DoubleArrow ∷ m) = facts.pat-complete-arrow n da (omega arith) in
      let h : self f 0 m ≡ read t (reserved q res.Bar ∷ j) = complete f 0 m t (reserved q res.Bar ∷ j) d (omega arith) (omega arith) ends refl refl (λ z. refl) in
      let s = shorter d in
      let s2 = facts.pat-shorter da in
      let r : many (rule_turn n self f) k no_state j ≡ read rs o = match-complete dm (omega arith) e b c y k (omega arith) in
      many-more (rule_turn n self f) k {put = rule a t} (rw (g, h) refl) r

  pub whole-match : {f : Fixity} {i o : List Terminal} {rs : Rules} → Match f i rs o → depth_rules rs ≤ n → rules_go_on f rs o ≡ false → begins_bar o ≡ false → begins_atom f o ≡ false → ty_could_go_on 0 o ≡ false →
      read_match n self f i ≡ read rs o
  whole-match {i} d le e b c y = match-complete d le e b c y (suc (length i)) (omega arith)

module _ (n : ℕ) (self : Readers) (complete : CompleteExp n self.exp) (complete_decs : CompleteDecs n self.decs) where
  pub atom-complete : {f : Fixity} {i o : List Terminal} {e : Exp} → Atom f i e o → depth e ≤ suc n → atom_by self f (atom_start f i) ≡ read e o
  atom-complete (of_constant (is_number p m b)) le = refl
  atom-complete (of_constant (is_constant p c)) le = refl
  atom-complete (of_vid v) le = let h = names-start v in rw h refl
  atom-complete (of_equals p e) le = rw e refl
  atom-complete (of_no_row p q) le = refl
  atom-complete {f} (of_row {i} {o} {fs} p q d) le =
      let b = row-no_brace d in
      let h : whole (row_turn self.exp f) no_state i ≡ read fs (reserved q res.RightBrace ∷ o) =
      row-complete n self.exp complete d (omega arith) (plain-word f q res.RightBrace o refl) refl (suc (length i)) (omega arith) in
      rw (b, h) refl
  atom-complete (of_selector {o} p l) le = let h = label-found l o in rw h refl
  atom-complete (of_unit p q) le = refl
  atom-complete {f} (of_tuple {i} {m} {o} {e} {es} p q r d ds) le =
      let b = begins-no_paren f 0 i (reads-begins 0 d (omega arith)) in
      let g : self.exp f 0 i ≡ read e (reserved q res.Comma ∷ m) = plain-exp n self.exp complete f i e (reserved q res.Comma ∷ m) d (omega arith) (plain-word f q res.Comma m refl) in
      let h : whole (commas_turn self.exp f) no_state m ≡ read es (reserved r res.RightParen ∷ o) =
      commas-complete n self.exp complete ds (omega arith) (plain-word f r res.RightParen o refl) refl (suc (length m)) (omega arith) in
      rw (b, g, h) refl
  atom-complete (of_nil p q) le = refl
  atom-complete {f} (of_list {i} {o} {es} p q ds) le =
      let b = begins-no_bracket f 0 i (commas-begins ds) in
      let h : whole (commas_turn self.exp f) no_state i ≡ read es (reserved q res.RightBracket ∷ o) =
      commas-complete n self.exp complete ds (omega arith) (plain-word f q res.RightBracket o refl) refl (suc (length i)) (omega arith) in
      rw (b, h) refl
  atom-complete {f} (of_sequence {i} {m} {o} {e} {es} p q r d ds) le =
      let b = begins-no_paren f 0 i (reads-begins 0 d (omega arith)) in
      let g : self.exp f 0 i ≡ read e (reserved q res.Semicolon ∷ m) = plain-exp n self.exp complete f i e (reserved q res.Semicolon ∷ m) d (omega arith) (plain-word f q res.Semicolon m refl) in
      let h : whole (semicolons_turn self.exp f) no_state m ≡ read es (reserved r res.RightParen ∷ o) =
      semicolons-complete n self.exp complete ds (omega arith) (plain-word f r res.RightParen o refl) refl (suc (length m)) (omega arith) in
      rw (b, g, h) refl
  atom-complete {f} (of_paren {i} {o} {e} p q d) le =
      let b = begins-no_paren f 0 i (reads-begins 0 d (omega arith)) in
      let g : self.exp f 0 i ≡ read e (reserved q res.RightParen ∷ o) = plain-exp n self.exp complete f i e (reserved q res.RightParen ∷ o) d (omega arith) (plain-word f q res.RightParen o refl) in
      rw (b, g) refl
  atom-complete {f} (of_let {i} {m} {o} {ds} {es} p q r dd d) le =
      let g : self.decs f i ≡ read ds (reserved q res.In ∷ m) = complete_decs f i ds (reserved q res.In ∷ m) dd (omega arith) (ends-in q m) in
      let h : whole (semicolons_turn self.exp (after f ds)) no_state m ≡ read es (reserved r res.End ∷ o) =
      semicolons-complete n self.exp complete d (omega arith) (plain-word (after f ds) r res.End o refl) refl (suc (length m)) (omega arith) in
      rw (g, h) refl

  pub atoms-complete : (atom : AtomReader) → CompleteAtom n atom → {f : Fixity} {i o : List Terminal} {es : Exps} → Atoms f i es o → depth_exps es ≤ n → begins_atom f o ≡ false → (k : ℕ) → length i < k →
      many (atoms_turn atom f) k no_state i ≡ read es o
  atoms-complete atom complete_atom d le b zero lt = absurd (omega arith)
  atoms-complete atom complete_atom {f} (no_atoms {o}) le b (suc k) lt = many-last (atoms_turn atom f) k (rw b refl)
  atoms-complete atom complete_atom {f} (more_atoms {i} {m} {o} {e} {es} a as_) le b (suc k) lt =
      let h : atom f i ≡ read e m = complete_atom f i e m a (omega arith) in
      let s = atom-shorter a in
      let r : many (atoms_turn atom f) k no_state m ≡ read es o = atoms-complete atom complete_atom as_ (omega arith) b k (omega arith) in
      let g = atom-begins a in
      many-more (atoms_turn atom f) k {put = exp e} (rw (g, h) refl) r
