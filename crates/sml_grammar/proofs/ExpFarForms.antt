-- Where applications, forms that begin with a keyword, or whole expressions are too deep, a partial expression is there.
use Rattle.std.proofs.Common.{◌≡◌, ℕ, suc, ◌≤◌, List, ◌∷◌, length, inl, inr, sym, subst, arith, nat_le}
use Rattle.std.proofs.lemmas.Bool.{leb-true}
use Rattle.mlc_names.specs.declared.token.Reserved.TheVariants as res
use Rattle.sml_tree.specs.Terminal.{Terminal, reserved}
use Rattle.sml_tree.specs.Fixity.{Fixity}
use Rattle.sml_tree.specs.ReadTree.{Exp, Exps, no_exps, exp}
use Rattle.sml_tree.specs.Depth.{depth}
use Rattle.sml_tree.specs.Grammar.{Atoms, no_atoms, more_atoms, Reads}
use Rattle.sml_grammar.specs.Answer.{deep, read, more, many, whole}
use Rattle.sml_grammar.specs.Terminals.{NoState, no_state}
use Rattle.sml_grammar.specs.Expressions.{Reader, Readers, atom_start, begins_atom, Start, start_of, is_keyword, atom_by, atoms_turn, apply_to, application, read_match, if_rest, while_rest, case_rest, keyword_form, exp_from}
use Rattle.sml_grammar.specs.Partial.{Opens, in_atom, applied_to, in_argument, in_raise, in_condition, in_then, in_else, in_while, in_do, in_subject, in_case, in_fn, OpensAtom}
use Rattle.sml_grammar.proofs.Answers.{chosen, then_ok, then_deep, word_then-deep, bad_deep, not_deep, many-far}
use Rattle.sml_grammar.proofs.ExpLevels.{StartIs, is_raise, is_if, is_while, is_case, is_fn, is_other, start-is, atom-start-is, begins_atom-is}
use Rattle.sml_grammar.proofs.ExpBelow.{Below, FarBelow}
use Rattle.sml_grammar.proofs.ExpTurns.{at-head, went, last-more}
use Rattle.sml_grammar.proofs.ExpSoundAtoms.{Sounds, SoundsAtom, SoundsDecs, atom-sound}
use Rattle.sml_grammar.proofs.ExpSoundForms.{application-sound}
use Rattle.sml_grammar.proofs.ExpFarAtoms.{Fars, FarsAtom, FarsDecs, atom-far}
use Rattle.sml_grammar.proofs.ExpFarChains.{over, match-far, suffix-far}

-- atomic expressions, and a partial one after them
record FarAtoms (n : ℕ) (f : Fixity) (i : List Terminal) : Type 0 where
  atoms : Exps
  rest : List Terminal
  reads : Atoms f i atoms rest
  opens : OpensAtom f rest (suc n)

module _ (n : ℕ) (self : Readers) (sound : Sounds n self.exp) (sound_atom : SoundsAtom n self.atom) (sound_decs : SoundsDecs n self.decs)
    (far : Fars n self.exp) (far_atom : FarsAtom n self.atom) (far_decs : FarsDecs n self.decs) (f : Fixity) where
  atoms-ends : (s : NoState) (i : List Terminal) → atoms_turn self.atom f s i ≡ deep → FarAtoms n f i
  atoms-ends s i h =
      elim (chosen (begins_atom f i) _ _ h) [
        | inl p ↦ elim (then_deep (self.atom f i) _ p.1) [ inl x ↦ record { atoms = no_exps; rest = i; reads = no_atoms; opens = far_atom f i x } | inr t ↦ not_deep t.2 ]
        | inr p ↦ not_deep p.1
      ]

  atoms-goes : (s : NoState) (i : List Terminal) (put : Exps → Exps) (s' : NoState) (m : List Terminal) → atoms_turn self.atom f s i ≡ read (more put s') m → FarAtoms n f m → FarAtoms n f i
  atoms-goes s i put s' m h k =
      elim (chosen (begins_atom f i) _ _ h) [
        | inl p ↦
            let t = then_ok (self.atom f i) _ (record { tree = more put s'; rest = m }) p.1 in
            let r = went (λ z o. FarAtoms n f o) t.2 k in
            record { atoms = exp t.0.tree r.atoms; rest = r.rest; reads = more_atoms (sound_atom f i t.0 t.1).reads r.reads; opens = r.opens }
        | inr p ↦ last-more p.1
      ]

  atoms-far : (k : ℕ) (i : List Terminal) → many (atoms_turn self.atom f) k no_state i ≡ deep → FarAtoms n f i
  atoms-far k i h = many-far (atoms_turn self.atom f) (λ s m. FarAtoms n f m) atoms-ends atoms-goes k no_state i h

  application-far : (l : ℕ) (i : List Terminal) → application self n f i ≡ deep → Opens f l i (suc (suc n))
  application-far l i h =
      elim (then_deep (atom_by self f (atom_start f i)) (apply_to self n f) h) [
        | inl x ↦ in_atom (atom-far n self sound sound_decs far far_decs f (atom-start-is f i) x)
        | inr t ↦
            let a = atom-sound n self sound sound_decs f t.0 (atom-start-is f i) t.1 in
            elim (chosen (begins_atom f t.0.rest) _ _ t.2) [
              | inl p ↦ elim (chosen (nat_le (depth t.0.tree) n) _ _ p.1) [
                | inl q ↦ elim (then_deep (whole (atoms_turn self.atom f) no_state t.0.rest) _ q.1) [
                  | inl x ↦ let r = atoms-far (suc (length t.0.rest)) t.0.rest x in in_argument a.reads r.reads r.opens
                  | inr u ↦ not_deep u.2
                ]
                | inr q ↦ applied_to a.reads (begins_atom-is p.0) (over n (depth t.0.tree) q.0)
              ]
              | inr p ↦ not_deep p.1
            ]
      ]

module _ (n : ℕ) (below : Below n) (far_below : FarBelow n) (self : Reader) (sound : Sounds n self) (far : Fars n self) (f : Fixity) (l : ℕ) (le : l ≤ 4) where
  if-far : (p : ℕ) (i : List Terminal) (a : Exp) (m : List Terminal) → Reads f i a m → if_rest self f p a m ≡ deep → Opens f l (reserved p res.If ∷ i) (suc (suc n))
  if-far p i a m d h =
      let w = word_then-deep res.Then _ m h in
      let c = at-head w.1 (λ z. Reads f i a z) d in
      elim (then_deep (self f 0 w.0) _ w.2) [
        | inl x ↦ in_then p c.0 le c.1 (far f 0 w.0 (omega arith) x)
        | inr t ↦
            let v = word_then-deep res.Else _ t.0.rest t.2 in
            let b = at-head v.1 (λ z. Reads f w.0 t.0.tree z) (sound f 0 w.0 t.0 (omega arith) t.1).reads in
            elim (then_deep (self f 0 v.0) _ v.2) [ inl x ↦ in_else p c.0 b.0 le c.1 b.1 (far f 0 v.0 (omega arith) x) | inr u ↦ not_deep u.2 ]
      ]

  while-far : (p : ℕ) (i : List Terminal) (a : Exp) (m : List Terminal) → Reads f i a m → while_rest self f p a m ≡ deep → Opens f l (reserved p res.While ∷ i) (suc (suc n))
  while-far p i a m d h =
      let w = word_then-deep res.Do _ m h in
      let c = at-head w.1 (λ z. Reads f i a z) d in
      elim (then_deep (self f 0 w.0) _ w.2) [ inl x ↦ in_do p c.0 le c.1 (far f 0 w.0 (omega arith) x) | inr u ↦ not_deep u.2 ]

  case-far : (p : ℕ) (i : List Terminal) (a : Exp) (m : List Terminal) → Reads f i a m → case_rest n self f p a m ≡ deep → Opens f l (reserved p res.Case ∷ i) (suc (suc n))
  case-far p i a m d h =
      let w = word_then-deep res.Of _ m h in
      let c = at-head w.1 (λ z. Reads f i a z) d in
      elim (then_deep (read_match n self f w.0) _ w.2) [ inl x ↦ in_case p c.0 le c.1 (match-far n below far_below self sound far f w.0 x) | inr u ↦ not_deep u.2 ]

  keyword-far : {i : List Terminal} {s : Start} → StartIs i s → keyword_form n self f s ≡ deep → Opens f l i (suc (suc n))
  keyword-far (is_raise {o} p) h = elim (then_deep (self f 0 o) _ h) [ inl x ↦ in_raise p le (far f 0 o (omega arith) x) | inr u ↦ not_deep u.2 ]
  keyword-far (is_if {o} p) h =
      elim (then_deep (self f 0 o) _ h) [ inl x ↦ in_condition p le (far f 0 o (omega arith) x) | inr u ↦ if-far p o u.0.tree u.0.rest (sound f 0 o u.0 (omega arith) u.1).reads u.2 ]
  keyword-far (is_while {o} p) h =
      elim (then_deep (self f 0 o) _ h) [ inl x ↦ in_while p le (far f 0 o (omega arith) x) | inr u ↦ while-far p o u.0.tree u.0.rest (sound f 0 o u.0 (omega arith) u.1).reads u.2 ]
  keyword-far (is_case {o} p) h =
      elim (then_deep (self f 0 o) _ h) [ inl x ↦ in_subject p le (far f 0 o (omega arith) x) | inr u ↦ case-far p o u.0.tree u.0.rest (sound f 0 o u.0 (omega arith) u.1).reads u.2 ]
  keyword-far (is_fn {o} p) h = elim (then_deep (read_match n self f o) _ h) [ inl x ↦ in_fn p le (match-far n below far_below self sound far f o x) | inr u ↦ not_deep u.2 ]
  keyword-far is_other h = bad_deep {A = Exp} h

module _ (n : ℕ) (below : Below n) (far_below : FarBelow n) (self : Readers) (sound : Sounds n self.exp) (sound_atom : SoundsAtom n self.atom) (sound_decs : SoundsDecs n self.decs)
    (far : Fars n self.exp) (far_atom : FarsAtom n self.atom) (far_decs : FarsDecs n self.decs) where
  pub exp_from-far : (f : Fixity) (l : ℕ) (i : List Terminal) → l ≤ 1000 → exp_from self n f l i ≡ deep → Opens f l i (suc (suc n))
  exp_from-far f l i low h =
      elim (chosen (is_keyword (start_of i)) _ _ h) [
        | inl p ↦ elim (chosen (nat_le l 4) _ _ p.1) [
          | inl q ↦ keyword-far n below far_below self.exp sound far f l (leb-true l 4 q.0) (start-is i) q.1
          | inr q ↦ bad_deep {A = Exp} q.1
        ]
        | inr p ↦ elim (then_deep (application self n f i) _ p.1) [
          | inl x ↦ application-far n self sound sound_atom sound_decs far far_atom far_decs f l i x
          | inr u ↦
              let g = application-sound n self sound sound_atom sound_decs f i u.0 u.1 in
              suffix-far n below far_below self.exp sound far f l i u.0.tree u.0.rest g.reads (subst (λ (z : ℕ). l ≤ z) (sym g.high) low) g.ends u.2
        ]
      ]
