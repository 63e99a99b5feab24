-- The bracket of a head, read again: it is read exactly where the pattern that it is has two atomic patterns and one infix identifier in it.
use Rattle.std.proofs.Common.{◌≡◌, ℕ, suc, ◌<◌, ◌≤◌, ◌-◌, List, [], ◌∷◌, max, Some, None, Option, ◌&&◌, inl, inr, refl, sym, ap, ◌∙◌, subst, arith}
use Rattle.mlc_names.specs.declared.token.Reserved.TheVariants as res
use Rattle.sml_tree.specs.Terminal.{Terminal, reserved}
use Rattle.sml_tree.specs.ReadTree.{Placed, Pat, paren_pat, chain_pat, last_pat_part}
use Rattle.sml_tree.specs.Fixity.{Fixity}
use Rattle.sml_tree.specs.Levels.{vid_right}
use Rattle.sml_tree.specs.Depth.{depth_pat}
use Rattle.sml_tree.specs.Grammar.{AtPat}
use Rattle.sml_tree.specs.declared.ident.Vid.TheVariants.{Named}
use Rattle.sml_grammar.specs.Answer.{Read, ok, read}
use Rattle.sml_grammar.specs.Terminals.{Taken, place_at, after_word, taken, infix_vid}
use Rattle.sml_grammar.specs.Patterns.{read_atpat, Bracketed, bracketed, is_atpat}
use Rattle.sml_grammar.proofs.Answers.{chosen, got, got_some, not_some}
use Rattle.sml_grammar.proofs.Words.{WordAt, at_word, word-at, word-self}
use Rattle.sml_grammar.proofs.Vids.{InfixAt, infix_at, infix-is, infix-found}
use Rattle.sml_grammar.proofs.PatSound.{atpat-sound}
use Rattle.sml_grammar.proofs.PatComplete.{atpat-complete}
use Rattle.sml_grammar.proofs.PatHeads.{is-atpat, BracketAt, bracket_at, bracket-is, bracket-pattern}
use Rattle.sml_phrases.specs.HeadsRead.{NoPattern}

whole-bracket : {f : Fixity} {i m ar k br o : List Terminal} (a b : Pat) (x : Placed ℕ) → WordAt res.LeftParen i m → AtPat f m a ar → InfixAt f ar x k → AtPat f k b br → WordAt res.RightParen br o →
    AtPat f i (paren_pat (place_at i) (chain_pat (vid_right f (Named x.it)) a (last_pat_part x b))) o
whole-bracket a b x (at_word p) d (infix_at v) e (at_word q) = bracket-pattern p q d v e

pub record Again (b : Bracketed) (i : List Terminal) (left right : Pat) (vid : Placed ℕ) (y : Read Pat) : Type 0 where
  pub is : bracketed y.tree ≡ Some b
  pub left_is : b.left ≡ left
  pub right_is : b.right ≡ right
  pub vid_is : vid ≡ b.vid
  pub place : b.place ≡ place_at i
  pub depth : depth_pat y.tree ≡ suc (suc (max (depth_pat b.left) (depth_pat b.right)))

pub again-some : (n : ℕ) (f : Fixity) (i m k o : List Terminal) (y a b : Read Pat) (x : Placed ℕ) → 2 ≤ n → read_atpat n f i ≡ ok y → after_word res.LeftParen i ≡ Some m → read_atpat (n - 2) f m ≡ ok a → infix_vid f a.rest ≡ taken x k → read_atpat (n - 2) f k ≡ ok b → after_word res.RightParen b.rest ≡ Some o →
    Again (record { place = place_at i; left = a.tree; vid = x; right = b.tree }) i a.tree b.tree x y
again-some n f i m k o y a b x two h p ha j hb q =
    let ga = atpat-sound (n - 2) f m a ha in
    let gb = atpat-sound (n - 2) f k b hb in
    let d = whole-bracket a.tree b.tree x (word-at res.LeftParen i m p) ga.reads (infix-is f a.rest x k j) gb.reads (word-at res.RightParen b.rest o q) in
    let fa = ga.fits in let fb = gb.fits in
    let r : read_atpat n f i ≡ read (paren_pat (place_at i) (chain_pat (vid_right f (Named x.it)) a.tree (last_pat_part x b.tree))) o = atpat-complete n f d (omega arith) in
    let e : y.tree ≡ paren_pat (place_at i) (chain_pat (vid_right f (Named x.it)) a.tree (last_pat_part x b.tree)) = ap (λ (z : Read Pat). z.tree) (got (sym h ∙ r)) in
    let ca = is-atpat ga.reads in let cb = is-atpat gb.reads in
    record { is = ap bracketed e ∙ rw (ca, cb) refl; left_is = refl; right_is = refl; vid_is = refl; place = refl; depth = ap depth_pat e }

bracket-depth : (a : Pat) (x : Bracketed) → bracketed a ≡ Some x → suc (suc (max (depth_pat x.left) (depth_pat x.right))) ≤ depth_pat a
bracket-depth (paren_pat p (chain_pat r a (last_pat_part y b))) x h =
    elim (chosen (is_atpat a && is_atpat b) (Some (record { place = p; left = a; vid = y; right = b })) None h) [
      | inl c ↦ subst (λ (z : Bracketed). suc (suc (max (depth_pat z.left) (depth_pat z.right))) ≤ suc (suc (max (depth_pat a) (depth_pat b)))) (got_some c.1) (omega arith)
      | inr c ↦ not_some c.1
    ]
bracket-depth _ x h = not_some h

record Parts (n : ℕ) (f : Fixity) (i : List Terminal) : Type 0 where
  two : 2 ≤ n
  inner : List Terminal
  open_at : after_word res.LeftParen i ≡ Some inner
  first : Read Pat
  first_is : read_atpat (n - 2) f inner ≡ ok first
  vid : Placed ℕ
  more_at : List Terminal
  vid_is : infix_vid f first.rest ≡ taken vid more_at
  second : Read Pat
  second_is : read_atpat (n - 2) f more_at ≡ ok second
  end : List Terminal
  end_is : after_word res.RightParen second.rest ≡ Some end

parts-from : (n : ℕ) (f : Fixity) {i o : List Terminal} {z : Bracketed} → BracketAt f i z o → suc (suc (max (depth_pat z.left) (depth_pat z.right))) ≤ n → Parts n f i
parts-from n f (bracket_at {i} {m} {n = o} {t} {x} {a} {b} p q d v e) le = record {
  two = omega arith;
  inner = i;
  open_at = word-self res.LeftParen p i;
  first = record { tree = a; rest = t ∷ m };
  first_is = atpat-complete (n - 2) f d (omega arith);
  vid = x;
  more_at = m;
  vid_is = infix-found v m;
  second = record { tree = b; rest = reserved q res.RightParen ∷ o };
  second_is = atpat-complete (n - 2) f e (omega arith);
  end = o;
  end_is = word-self res.RightParen q o;
}

none-of : {A : Type 0} (v : Option A) → ((z : A) → v ≡ Some z → ⊥) → v ≡ None
none-of (Some z) h = absurd (h z refl)
none-of None h = refl

taken_rest : {B : Type 0} → Option (Taken B) → List Terminal
taken_rest (Some x) = x.rest
taken_rest None = []

taken-rest : {B : Type 0} {x y : B} {m o : List Terminal} → taken x m ≡ taken y o → m ≡ o
unfolding taken_rest
taken-rest h = ap taken_rest h

module _ (n : ℕ) (f : Fixity) (i : List Terminal) (y : Read Pat) (h : read_atpat n f i ≡ ok y) where
  none-by : (Parts n f i → ⊥) → bracketed y.tree ≡ None
  none-by never = none-of (bracketed y.tree) (λ z e.
      let g = atpat-sound n f i y h in
      let d = bracket-depth y.tree z e in let ff = g.fits in
      never (parts-from n f (bracket-is z g.reads e) (omega arith)))

  pub none-two : n < 2 → bracketed y.tree ≡ None
  none-two lt = none-by (λ p. let t = p.two in omega arith)

  pub none-paren : after_word res.LeftParen i ≡ None → bracketed y.tree ≡ None
  none-paren e = none-by (λ p. not_some (sym e ∙ p.open_at))

  module _ (m : List Terminal) (open_ : after_word res.LeftParen i ≡ Some m) where
    inner-is : (p : Parts n f i) → p.inner ≡ m
    inner-is p = got_some (sym p.open_at ∙ open_)

    pub none-left : NoPattern (read_atpat (n - 2) f m) → bracketed y.tree ≡ None
    none-left never = none-by (λ p. never p.first (subst (λ (z : List Terminal). read_atpat (n - 2) f z ≡ ok p.first) (inner-is p) p.first_is))

    module _ (a : Read Pat) (left_ : read_atpat (n - 2) f m ≡ ok a) where
      first-is : (p : Parts n f i) → p.first ≡ a
      first-is p = got (sym (subst (λ (z : List Terminal). read_atpat (n - 2) f z ≡ ok p.first) (inner-is p) p.first_is) ∙ left_)

      vid-at : (p : Parts n f i) → infix_vid f a.rest ≡ taken p.vid p.more_at
      vid-at p = subst (λ (z : Read Pat). infix_vid f z.rest ≡ taken p.vid p.more_at) (first-is p) p.vid_is

      pub none-infix : infix_vid f a.rest ≡ None → bracketed y.tree ≡ None
      none-infix e = none-by (λ p. not_some (sym e ∙ vid-at p))

      module _ (x : Placed ℕ) (k : List Terminal) (joint : infix_vid f a.rest ≡ taken x k) where
        more-is : (p : Parts n f i) → p.more_at ≡ k
        more-is p = taken-rest (sym (vid-at p) ∙ joint)

        pub none-right : NoPattern (read_atpat (n - 2) f k) → bracketed y.tree ≡ None
        none-right never = none-by (λ p. never p.second (subst (λ (z : List Terminal). read_atpat (n - 2) f z ≡ ok p.second) (more-is p) p.second_is))

        pub none-close : (b : Read Pat) → read_atpat (n - 2) f k ≡ ok b → after_word res.RightParen b.rest ≡ None → bracketed y.tree ≡ None
        none-close b right_ e = none-by (λ p.
            let s : p.second ≡ b = got (sym (subst (λ (z : List Terminal). read_atpat (n - 2) f z ≡ ok p.second) (more-is p) p.second_is) ∙ right_) in
            not_some (sym e ∙ subst (λ (z : Read Pat). after_word res.RightParen z.rest ≡ Some p.end) s p.end_is))
