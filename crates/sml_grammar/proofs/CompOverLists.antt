-- What is too deep is told to be: lists of expressions, matches, and atomic expressions.
use Rattle.std.proofs.Common.{◌≡◌, ℕ, zero, suc, ◌≤◌, ◌<◌, List, ◌∷◌, length, true, false, ◌⊎◌, inl, inr, refl, arith}
use Rattle.mlc_names.specs.declared.token.Reserved.{Reserved}
use Rattle.mlc_names.specs.declared.token.Reserved.TheVariants as res
use Rattle.sml_tree.specs.Terminal.{Terminal, reserved}
use Rattle.sml_tree.specs.Fixity.{Fixity}
use Rattle.sml_tree.specs.ReadTree.{Pat, Exp, Exps, exp, exp_field, rule, Decs}
use Rattle.sml_tree.specs.Depth.{depth, depth_pat, depth_decs}
use Rattle.sml_tree.specs.Levels.{after, level, could_go_on, goes_on}
use Rattle.sml_tree.specs.Grammar.{Pattern, Atoms, no_atoms, more_atoms, Reads, Declares}
use Rattle.sml_grammar.specs.Answer.{Answer, deep, read, many, whole}
use Rattle.sml_grammar.specs.Terminals.{no_state}
use Rattle.sml_grammar.specs.Patterns.{read_pat}
use Rattle.sml_grammar.specs.Expressions.{Reader, AtomReader, DecsReader, Readers, atom_start, begins_atom, commas_turn, semicolons_turn, row_turn, atom_by, atoms_turn, rule_turn, read_match}
use Rattle.sml_grammar.specs.Partial.{Opens, OpensAtom, begun_atom, in_row, in_paren, in_tuple, in_sequence, in_list, in_decs, in_body, OpensRow, in_field, past_field, OpensCommas, in_comma, past_comma, OpensSemicolons, in_semicolon, past_semicolon, OpensMatch, in_rule_pat, in_rule, past_rule, OpensDecs}
use Rattle.sml_grammar.proofs.Answers.{le_or, many-deep, many-stop}
use Rattle.sml_grammar.proofs.CompFacts as facts
use Rattle.sml_grammar.proofs.CompShapes.{atom-shorter, shorter}
use Rattle.sml_grammar.proofs.CompQuiet.{plain-word, calm, Ends, ends-in, atom-begins, reads-begins, begins-no_paren, begins-no_bracket}
use Rattle.sml_grammar.proofs.CompLists.{TyStops, CompleteExp, CompleteAtom, CompleteDecs, equals-label, plain-exp}
use Rattle.sml_grammar.proofs.CompPaths.{reads-opens, decs-opens, atom-opens}
use Rattle.sml_grammar.proofs.CompBegins.{opens_atom-begins, opens-begins, opens_commas-begins, opens_row-no_brace}

abbrev pub OverExp : ℕ → Reader → Type 0
OverExp n self = (f : Fixity) (l : ℕ) (i : List Terminal) (d : ℕ) → Opens f l i d → n < d → self f l i ≡ deep

abbrev pub OverAtom : ℕ → AtomReader → Type 0
OverAtom n atom = (f : Fixity) (i : List Terminal) (d : ℕ) → OpensAtom f i d → n < d → atom f i ≡ deep

abbrev pub OverDecs : ℕ → DecsReader → Type 0
OverDecs n decs = (f : Fixity) (i : List Terminal) (d : ℕ) → OpensDecs f i d → n < d → decs f i ≡ deep

-- a whole phrase is read, or it is too deep
abbrev pub ReadOrDeep : {A : Type 0} → Answer A → A → List Terminal → Type 0
ReadOrDeep x t o = (x ≡ read t o) ⊎ (x ≡ deep)

module _ (n : ℕ) (self : Reader) (complete : CompleteExp n self) (over : OverExp n self) where
  -- a whole expression that is too deep
  pub too : (f : Fixity) (l : ℕ) (i : List Terminal) (t : Exp) (o : List Terminal) → Reads f i t o → l ≤ level f t → n < depth t → self f l i ≡ deep
  too f l i t o d high lt = over f l i (depth t) (reads-opens l d high (depth t) (omega arith) (omega arith)) lt

  pub exp-or : (f : Fixity) (l : ℕ) (i : List Terminal) (t : Exp) (o : List Terminal) → Reads f i t o → l ≤ level f t → goes_on f t o ≡ false → could_go_on f l o ≡ false → begins_atom f o ≡ false → TyStops l o →
      ReadOrDeep (self f l i) t o
  exp-or f l i t o d high ends c b y = elim (le_or (depth t) n) [ inl p ↦ inl (complete f l i t o d p high ends c b y) | inr p ↦ inr (too f l i t o d high p) ]

  pub plain-or : (f : Fixity) (i : List Terminal) (t : Exp) (p : ℕ) (w : Reserved) (o : List Terminal) → Reads f i t (reserved p w ∷ o) → calm w ≡ true → ReadOrDeep (self f 0 i) t (reserved p w ∷ o)
  plain-or f i t p w o d h =
      elim (le_or (depth t) n) [ inl q ↦ inl (plain-exp n self complete f i t (reserved p w ∷ o) d q (plain-word f p w o h)) | inr q ↦ inr (too f 0 i t (reserved p w ∷ o) d (omega arith) q) ]

  pub commas-over : {f : Fixity} {i : List Terminal} {d : ℕ} → OpensCommas f i d → n < d → (k : ℕ) → length i < k → many (commas_turn self f) k no_state i ≡ deep
  commas-over o lt zero le = absurd (omega arith)
  commas-over {f} (in_comma {i} {d} o) lt (suc k) le = let h : self f 0 i ≡ deep = over f 0 i d o lt in many-stop (commas_turn self f) k (rw h refl)
  commas-over {f} (past_comma {i} {m} {e} q de o) lt (suc k) le =
      let s = shorter de in
      elim (plain-or f i e q res.Comma m de refl) [
        | inl h ↦ many-deep (commas_turn self f) k {put = exp e} (rw h refl) (commas-over o lt k (omega arith))
        | inr h ↦ many-stop (commas_turn self f) k (rw h refl)
      ]

  pub semicolons-over : {f : Fixity} {i : List Terminal} {d : ℕ} → OpensSemicolons f i d → n < d → (k : ℕ) → length i < k → many (semicolons_turn self f) k no_state i ≡ deep
  semicolons-over o lt zero le = absurd (omega arith)
  semicolons-over {f} (in_semicolon {i} {d} o) lt (suc k) le = let h : self f 0 i ≡ deep = over f 0 i d o lt in many-stop (semicolons_turn self f) k (rw h refl)
  semicolons-over {f} (past_semicolon {i} {m} {e} q de o) lt (suc k) le =
      let s = shorter de in
      elim (plain-or f i e q res.Semicolon m de refl) [
        | inl h ↦ many-deep (semicolons_turn self f) k {put = exp e} (rw h refl) (semicolons-over o lt k (omega arith))
        | inr h ↦ many-stop (semicolons_turn self f) k (rw h refl)
      ]

  pub row-over : {f : Fixity} {i : List Terminal} {d : ℕ} → OpensRow f i d → n < d → (k : ℕ) → length i < k → many (row_turn self f) k no_state i ≡ deep
  row-over o lt zero le = absurd (omega arith)
  row-over {f} (in_field {i} {d} p is o) lt (suc k) le =
      let g = equals-label p i is in let h : self f 0 i ≡ deep = over f 0 i d o lt in many-stop (row_turn self f) k (rw (g, h) refl)
  row-over {f} (past_field {i} {m} {l} {e} p q is de o) lt (suc k) le =
      let g = equals-label p i is in
      let s = shorter de in
      elim (plain-or f i e q res.Comma m de refl) [
        | inl h ↦ many-deep (row_turn self f) k {put = exp_field l e} (rw (g, h) refl) (row-over o lt k (omega arith))
        | inr h ↦ many-stop (row_turn self f) k (rw (g, h) refl)
      ]

  rule-or : {f : Fixity} {i m : List Terminal} {a : Pat} {p : ℕ} → Pattern f i a (reserved p res.DoubleArrow ∷ m) → ReadOrDeep (read_pat n f i) a (reserved p res.DoubleArrow ∷ m)
  rule-or {f} {a} da =
      elim (le_or (depth_pat a) n) [ inl q ↦ inl (facts.pat-complete-arrow n da q) | inr q ↦ inr (facts.pat-over n f (facts.pat-opens da (depth_pat a) (omega arith) (omega arith)) q) ]

  pub match-over : {f : Fixity} {i : List Terminal} {d : ℕ} → OpensMatch f i d → n < d → (k : ℕ) → length i < k → many (rule_turn n self f) k no_state i ≡ deep
  match-over o lt zero le = absurd (omega arith)
  match-over {f} (in_rule_pat {i} o) lt (suc k) le = let h : read_pat n f i ≡ deep = facts.pat-over n f o lt in many-stop (rule_turn n self f) k (rw h refl)
  match-over {f} (in_rule {i} {m} {a} {d} p da o) lt (suc k) le =
      elim (rule-or da) [
        | inl g ↦ let h : self f 0 m ≡ deep = over f 0 m d o lt in many-stop (rule_turn n self f) k (rw (g, h) refl)
        | inr g ↦ many-stop (rule_turn n self f) k (rw g refl)
      ]
  match-over {f} (past_rule {i} {m} {n = j} {a} {e} p q da ends de o) lt (suc k) le =
      let s = shorter de in
      let s2 = facts.pat-shorter da in
      elim (rule-or da) [
        | inl g ↦ elim (exp-or f 0 m e (reserved q res.Bar ∷ j) de (omega arith) ends refl refl (λ z. refl)) [
          | inl h ↦ many-deep (rule_turn n self f) k {put = rule a e} (rw (g, h) refl) (match-over o lt k (omega arith))
          | inr h ↦ many-stop (rule_turn n self f) k (rw (g, h) refl)
        ]
        | inr g ↦ many-stop (rule_turn n self f) k (rw g refl)
      ]

  pub whole-match-over : {f : Fixity} {i : List Terminal} {d : ℕ} → OpensMatch f i d → n < d → read_match n self f i ≡ deep
  whole-match-over {i} o lt = match-over o lt (suc (length i)) (omega arith)

module _ (n : ℕ) (self : Readers) (complete : CompleteExp n self.exp) (complete_decs : CompleteDecs n self.decs) (over : OverExp n self.exp) (over_decs : OverDecs n self.decs) where
  decs-or : (f : Fixity) (i : List Terminal) (ds : Decs) (o : List Terminal) → Declares f i ds o → Ends o → ReadOrDeep (self.decs f i) ds o
  decs-or f i ds o d e =
      elim (le_or (depth_decs ds) n) [ inl p ↦ inl (complete_decs f i ds o d p e) | inr p ↦ inr (over_decs f i (depth_decs ds) (decs-opens d (depth_decs ds) (omega arith) (omega arith)) p) ]

  pub atom-over : {f : Fixity} {i : List Terminal} {d : ℕ} → OpensAtom f i d → suc n < d → atom_by self f (atom_start f i) ≡ deep
  atom-over (begun_atom e) lt = absurd (omega arith)
  atom-over {f} (in_row {i} p o) lt =
      let b = opens_row-no_brace o in
      let h : whole (row_turn self.exp f) no_state i ≡ deep = row-over n self.exp complete over o (omega arith) (suc (length i)) (omega arith) in
      rw (b, h) refl
  atom-over {f} (in_paren {i} {d} p o) lt =
      let b = begins-no_paren f 0 i (opens-begins o) in let h : self.exp f 0 i ≡ deep = over f 0 i d o (omega arith) in rw (b, h) refl
  atom-over {f} (in_tuple {i} {m} {e} p q de o) lt =
      let b = begins-no_paren f 0 i (reads-begins 0 de (omega arith)) in
      let h : whole (commas_turn self.exp f) no_state m ≡ deep = commas-over n self.exp complete over o (omega arith) (suc (length m)) (omega arith) in
      elim (plain-or n self.exp complete over f i e q res.Comma m de refl) [ inl g ↦ rw (b, g, h) refl | inr g ↦ rw (b, g) refl ]
  atom-over {f} (in_sequence {i} {m} {e} p q de o) lt =
      let b = begins-no_paren f 0 i (reads-begins 0 de (omega arith)) in
      let h : whole (semicolons_turn self.exp f) no_state m ≡ deep = semicolons-over n self.exp complete over o (omega arith) (suc (length m)) (omega arith) in
      elim (plain-or n self.exp complete over f i e q res.Semicolon m de refl) [ inl g ↦ rw (b, g, h) refl | inr g ↦ rw (b, g) refl ]
  atom-over {f} (in_list {i} p o) lt =
      let b = begins-no_bracket f 0 i (opens_commas-begins o) in
      let h : whole (commas_turn self.exp f) no_state i ≡ deep = commas-over n self.exp complete over o (omega arith) (suc (length i)) (omega arith) in
      rw (b, h) refl
  atom-over {f} (in_decs {i} {d} p o) lt = let h : self.decs f i ≡ deep = over_decs f i d o (omega arith) in rw h refl
  atom-over {f} (in_body {i} {m} {ds} p q dd o) lt =
      let h : whole (semicolons_turn self.exp (after f ds)) no_state m ≡ deep = semicolons-over n self.exp complete over o (omega arith) (suc (length m)) (omega arith) in
      elim (decs-or f i ds (reserved q res.In ∷ m) dd (ends-in q m)) [ inl g ↦ rw (g, h) refl | inr g ↦ rw g refl ]

module _ (n : ℕ) (atom : AtomReader) (complete_atom : CompleteAtom n atom) (over_atom : OverAtom n atom) where
  pub atoms-over : {f : Fixity} {i m : List Terminal} {es : Exps} {d : ℕ} → Atoms f i es m → OpensAtom f m d → n < d → (k : ℕ) → length i < k → many (atoms_turn atom f) k no_state i ≡ deep
  atoms-over as_ o lt zero le = absurd (omega arith)
  atoms-over {f} {d} (no_atoms {o = i}) o lt (suc k) le = let b = opens_atom-begins o in let h : atom f i ≡ deep = over_atom f i d o lt in many-stop (atoms_turn atom f) k (rw (b, h) refl)
  atoms-over {f} (more_atoms {i} {m} {e} a as_) o lt (suc k) le =
      let b = atom-begins a in
      let s = atom-shorter a in
      elim (le_or (depth e) n) [
        | inl p ↦ let h : atom f i ≡ read e m = complete_atom f i e m a p in many-deep (atoms_turn atom f) k {put = exp e} (rw (b, h) refl) (atoms-over as_ o lt k (omega arith))
        | inr p ↦ let h : atom f i ≡ deep = over_atom f i (depth e) (atom-opens a (depth e) (omega arith) (omega arith)) p in many-stop (atoms_turn atom f) k (rw (b, h) refl)
      ]
