-- Applications, forms that begin with a keyword, and whole expressions, that are read are in the grammar.
use Rattle.std.proofs.Common.{◌≡◌, ℕ, suc, ◌≤◌, List, ◌∷◌, length, false, ◌||◌, inl, inr, refl, sym, subst, arith, nat_le}
use Rattle.std.proofs.lemmas.Bool.{leb-true}
use Rattle.mlc_names.specs.declared.token.Reserved.TheVariants as res
use Rattle.sml_tree.specs.Terminal.{Terminal, reserved}
use Rattle.sml_tree.specs.Fixity.{Fixity}
use Rattle.sml_tree.specs.ReadTree.{Exp, Exps, Rules}
use Rattle.sml_tree.specs.Depth.{depth, depth_exps}
use Rattle.sml_tree.specs.Levels.{level, could_go_on, begins_bar, goes_on, rules_go_on}
use Rattle.sml_tree.specs.Grammar.{Atom, of_constant, of_vid, of_equals, of_no_row, of_row, of_selector, of_unit, of_tuple, of_nil, of_list, of_sequence, of_paren, of_let, Atoms, no_atoms, more_atoms, Reads, of_atom, of_app, of_raise, of_if, of_while, of_case, of_fn}
use Rattle.sml_grammar.specs.Answer.{Read, ok, Turn, many, whole}
use Rattle.sml_grammar.specs.Terminals.{NoState, no_state}
use Rattle.sml_grammar.specs.Expressions.{Reader, Readers, atom_start, begins_atom, Start, start_of, is_keyword, atom_by, atoms_turn, applied, apply_to, application, read_match, if_rest, while_rest, case_rest, keyword_form, exp_from}
use Rattle.sml_grammar.proofs.Answers.{chosen, both_false, then_ok, word_then-ok, bad_ok, deep_ok, GoodTurn, many-ok}
use Rattle.sml_grammar.proofs.ExpLevels.{StartIs, is_raise, is_if, is_while, is_case, is_fn, is_other, start-is, atom-start-is, stops-more, rules-stop}
use Rattle.sml_grammar.proofs.ExpBelow.{Within, Below}
use Rattle.sml_grammar.proofs.ExpTurns.{at-head, given}
use Rattle.sml_grammar.proofs.ExpSoundAtoms.{Good, Sounds, SoundsAtom, SoundsDecs, atom-sound}
use Rattle.sml_grammar.proofs.ExpSoundChains.{GoodMatch, match-sound, suffix-sound}

pub atom-high : {f : Fixity} {i o : List Terminal} {e : Exp} → Atom f i e o → level f e ≡ 1000
atom-high (of_constant v) = refl
atom-high (of_vid v) = refl
atom-high (of_equals p e) = refl
atom-high (of_no_row p q) = refl
atom-high (of_row p q d) = refl
atom-high (of_selector p v) = refl
atom-high (of_unit p q) = refl
atom-high (of_tuple p q r d ds) = refl
atom-high (of_nil p q) = refl
atom-high (of_list p q ds) = refl
atom-high (of_sequence p q r d ds) = refl
atom-high (of_paren p q d) = refl
atom-high (of_let p q r d ds) = refl

pub atom-ends : {f : Fixity} {i o : List Terminal} {e : Exp} → Atom f i e o → (m : List Terminal) → goes_on f e m ≡ false
atom-ends (of_constant v) m = refl
atom-ends (of_vid v) m = refl
atom-ends (of_equals p e) m = refl
atom-ends (of_no_row p q) m = refl
atom-ends (of_row p q d) m = refl
atom-ends (of_selector p v) m = refl
atom-ends (of_unit p q) m = refl
atom-ends (of_tuple p q r d ds) m = refl
atom-ends (of_nil p q) m = refl
atom-ends (of_list p q ds) m = refl
atom-ends (of_sequence p q r d ds) m = refl
atom-ends (of_paren p q d) m = refl
atom-ends (of_let p q r d ds) m = refl

pub record GoodApp (n : ℕ) (f : Fixity) (i : List Terminal) (e : Exp) (o : List Terminal) : Type 0 where
  pub reads : Reads f i e o
  pub high : level f e ≡ 1000
  pub ends : goes_on f e o ≡ false
  pub fits : depth e ≤ suc n

module _ (n : ℕ) (self : Readers) (sound : Sounds n self.exp) (sound_atom : SoundsAtom n self.atom) (sound_decs : SoundsDecs n self.decs) (f : Fixity) where
  abbrev GoodAtoms : NoState → List Terminal → Exps → List Terminal → Type 0
  GoodAtoms s i es o = Within (Atoms f) depth_exps n i es o

  atoms-turn : (s : NoState) (i : List Terminal) (y : Read (Turn Exps NoState)) → atoms_turn self.atom f s i ≡ ok y → GoodTurn GoodAtoms s i y.tree y.rest
  atoms-turn s i y h =
      elim (chosen (begins_atom f i) _ _ h) [
        | inl p ↦
            let t = then_ok (self.atom f i) _ y p.1 in
            let a = sound_atom f i t.0 t.1 in
            given (GoodTurn GoodAtoms s i) t.2 (λ b o k. record { reads = more_atoms a.reads k.reads; fits = omega (arith, a.fits, k.fits) })
        | inr p ↦ given (GoodTurn GoodAtoms s i) p.1 (record { reads = no_atoms; fits = omega arith })
      ]

  pub atoms-sound : (k : ℕ) (i : List Terminal) (y : Read Exps) → many (atoms_turn self.atom f) k no_state i ≡ ok y → Within (Atoms f) depth_exps n i y.tree y.rest
  atoms-sound k i y h = many-ok (atoms_turn self.atom f) GoodAtoms atoms-turn k no_state i y h

  alone : {i o : List Terminal} {e : Exp} → Within (Atom f) depth (suc n) i e o → GoodApp n f i e o
  alone {o} a = record { reads = of_atom a.reads; high = atom-high a.reads; ends = atom-ends a.reads o; fits = a.fits }

  applied-sound : {i m o : List Terminal} {e : Exp} {es : Exps} → Atom f i e m → depth e ≤ n → Atoms f m es o → depth_exps es ≤ n → GoodApp n f i (applied e es) o
  applied-sound d le no_atoms la = alone (record { reads = d; fits = omega arith })
  applied-sound d le (more_atoms a bs) la = record { reads = of_app d a bs; high = refl; ends = refl; fits = omega arith }

  pub application-sound : (i : List Terminal) (y : Read Exp) → application self n f i ≡ ok y → GoodApp n f i y.tree y.rest
  application-sound i y h =
      let t = then_ok (atom_by self f (atom_start f i)) (apply_to self n f) y h in
      let a = atom-sound n self sound sound_decs f t.0 (atom-start-is f i) t.1 in
      elim (chosen (begins_atom f t.0.rest) _ _ t.2) [
        | inl p ↦ elim (chosen (nat_le (depth t.0.tree) n) _ _ p.1) [
          | inl q ↦
              let u = then_ok (whole (atoms_turn self.atom f) no_state t.0.rest) _ y q.1 in
              let b = atoms-sound (suc (length t.0.rest)) t.0.rest u.0 u.1 in
              given (GoodApp n f i) u.2 (applied-sound a.reads (leb-true (depth t.0.tree) n q.0) b.reads b.fits)
          | inr q ↦ deep_ok q.1
        ]
        | inr p ↦ given (GoodApp n f i) p.1 (alone a)
      ]

module _ (n : ℕ) (below : Below n) (self : Reader) (sound : Sounds n self) (f : Fixity) (l : ℕ) (le : l ≤ 4) where
  abbrev GoodExp : List Terminal → Exp → List Terminal → Type 0
  GoodExp i e o = Good (suc n) f l i (record { tree = e; rest = o })

  -- a match at the end of a form
  ends-match : {i : List Terminal} {rs : Rules} {o : List Terminal} → GoodMatch n f i rs o → ((begins_bar o || rules_go_on f rs o) ≡ false) × (could_go_on f l o ≡ false)
  ends-match {rs} {o} g = (both_false (begins_bar o) (rules_go_on f rs o) g.no_bar g.ends, stops-more f 0 l o (omega arith) (rules-stop f rs o g.ends))

  -- an expression at the end of a form
  ends-exp : {i : List Terminal} {e : Exp} {o : List Terminal} → Good n f 0 i (record { tree = e; rest = o }) → ((could_go_on f 0 o || goes_on f e o) ≡ false) × (could_go_on f l o ≡ false)
  ends-exp {e} {o} g = (both_false (could_go_on f 0 o) (goes_on f e o) g.stops g.ends, stops-more f 0 l o (omega arith) g.stops)

  if-sound : (p : ℕ) (i : List Terminal) (a : Exp) (m : List Terminal) (y : Read Exp) → Reads f i a m → depth a ≤ n → if_rest self f p a m ≡ ok y → GoodExp (reserved p res.If ∷ i) y.tree y.rest
  if-sound p i a m y d la h =
      let w = word_then-ok res.Then _ m y h in
      let c = at-head w.1 (λ z. Reads f i a z) d in
      let t = then_ok (self f 0 w.0) _ y w.2 in
      let g = sound f 0 w.0 t.0 (omega arith) t.1 in
      let x = word_then-ok res.Else _ t.0.rest y t.2 in
      let b = at-head x.1 (λ z. Reads f w.0 t.0.tree z) g.reads in
      let u = then_ok (self f 0 x.0) _ y x.2 in
      let k = sound f 0 x.0 u.0 (omega arith) u.1 in
      let e = ends-exp k in
      given (GoodExp (reserved p res.If ∷ i)) u.2 (record { reads = of_if p c.0 b.0 c.1 b.1 k.reads; high = le; ends = e.0; stops = e.1; fits = omega (arith, la, g.fits, k.fits) })

  while-sound : (p : ℕ) (i : List Terminal) (a : Exp) (m : List Terminal) (y : Read Exp) → Reads f i a m → depth a ≤ n → while_rest self f p a m ≡ ok y → GoodExp (reserved p res.While ∷ i) y.tree y.rest
  while-sound p i a m y d la h =
      let w = word_then-ok res.Do _ m y h in
      let c = at-head w.1 (λ z. Reads f i a z) d in
      let u = then_ok (self f 0 w.0) _ y w.2 in
      let k = sound f 0 w.0 u.0 (omega arith) u.1 in
      let e = ends-exp k in
      given (GoodExp (reserved p res.While ∷ i)) u.2 (record { reads = of_while p c.0 c.1 k.reads; high = le; ends = e.0; stops = e.1; fits = omega (arith, la, k.fits) })

  case-sound : (p : ℕ) (i : List Terminal) (a : Exp) (m : List Terminal) (y : Read Exp) → Reads f i a m → depth a ≤ n → case_rest n self f p a m ≡ ok y → GoodExp (reserved p res.Case ∷ i) y.tree y.rest
  case-sound p i a m y d la h =
      let w = word_then-ok res.Of _ m y h in
      let c = at-head w.1 (λ z. Reads f i a z) d in
      let u = then_ok (read_match n self f w.0) _ y w.2 in
      let k = match-sound n below self sound f w.0 u.0 u.1 in
      let e = ends-match k in
      given (GoodExp (reserved p res.Case ∷ i)) u.2 (record { reads = of_case p c.0 c.1 k.reads; high = le; ends = e.0; stops = e.1; fits = omega (arith, la, k.fits) })

  pub keyword-sound : {i : List Terminal} {s : Start} (y : Read Exp) → StartIs i s → keyword_form n self f s ≡ ok y → Good (suc n) f l i y
  keyword-sound y (is_raise {o} p) h =
      let u = then_ok (self f 0 o) _ y h in
      let k = sound f 0 o u.0 (omega arith) u.1 in
      let e = ends-exp k in
      given (GoodExp (reserved p res.Raise ∷ o)) u.2 (record { reads = of_raise p k.reads; high = le; ends = e.0; stops = e.1; fits = omega (arith, k.fits) })
  keyword-sound y (is_if {o} p) h =
      let u = then_ok (self f 0 o) _ y h in
      let k = sound f 0 o u.0 (omega arith) u.1 in
      if-sound p o u.0.tree u.0.rest y k.reads k.fits u.2
  keyword-sound y (is_while {o} p) h =
      let u = then_ok (self f 0 o) _ y h in
      let k = sound f 0 o u.0 (omega arith) u.1 in
      while-sound p o u.0.tree u.0.rest y k.reads k.fits u.2
  keyword-sound y (is_case {o} p) h =
      let u = then_ok (self f 0 o) _ y h in
      let k = sound f 0 o u.0 (omega arith) u.1 in
      case-sound p o u.0.tree u.0.rest y k.reads k.fits u.2
  keyword-sound y (is_fn {o} p) h =
      let u = then_ok (read_match n self f o) _ y h in
      let k = match-sound n below self sound f o u.0 u.1 in
      let e = ends-match k in
      given (GoodExp (reserved p res.Fn ∷ o)) u.2 (record { reads = of_fn p k.reads; high = le; ends = e.0; stops = e.1; fits = omega (arith, k.fits) })
  keyword-sound y is_other h = bad_ok h

module _ (n : ℕ) (below : Below n) (self : Readers) (sound : Sounds n self.exp) (sound_atom : SoundsAtom n self.atom) (sound_decs : SoundsDecs n self.decs) where
  pub exp_from-sound : (f : Fixity) (l : ℕ) (i : List Terminal) (y : Read Exp) → l ≤ 1000 → exp_from self n f l i ≡ ok y → Good (suc n) f l i y
  exp_from-sound f l i y low h =
      elim (chosen (is_keyword (start_of i)) _ _ h) [
        | inl p ↦ elim (chosen (nat_le l 4) _ _ p.1) [ inl q ↦ keyword-sound n below self.exp sound f l (leb-true l 4 q.0) y (start-is i) q.1 | inr q ↦ bad_ok q.1 ]
        | inr p ↦
            let u = then_ok (application self n f i) _ y p.1 in
            let g = application-sound n self sound sound_atom sound_decs f i u.0 u.1 in
            suffix-sound n below self.exp sound f l i u.0.tree u.0.rest y g.reads (subst (λ (z : ℕ). l ≤ z) (sym g.high) low) g.ends g.fits u.2
      ]
