-- Atomic expressions: those that no bracket begins, and `let`.
use Rattle.std.proofs.Common.{◌≡◌, ℕ, max, ◌+◌, ◌-◌, ◌<◌, ◌≤◌, List, [], ◌∷◌, length, map, Option, Some, None, Result, Ok, Err, slice_index_or, refl, sym, ap, ◌∙◌, subst, arith}
use Rattle.mlc_names.specs.declared.token.Reserved.TheVariants as res
use Rattle.mlc_names.specs.declared.token.Token.{Token}
use Rattle.sml_tree.specs.Terminal.{Terminal, LongVid, reserved, number, constant, alpha, symbol, star, long_alpha, long_symbol, long_star, type_var}
use Rattle.sml_tree.specs.Fixity.{Fixity, fix_of}
use Rattle.sml_tree.specs.declared.fixity.Infix.{Infix}
use Rattle.sml_tree.specs.declared.ident.Vid.TheVariants.{Equals}
use Rattle.sml_tree.specs.BareTree as bare
use Rattle.sml_tree.specs.Bare.{bare_exp, at, exp_list, bare_decs, bare_sequence}
use Rattle.sml_tree.specs.Derived.{let_of, sequence_of}
use Rattle.sml_tree.specs.TreeOf.{exp_of, decs_of, dec_of}
use Rattle.sml_tree.specs.declared.tree.Exp.{Exp}
use Rattle.sml_tree.specs.declared.tree.Dec.{Dec}
use Rattle.sml_tree.specs.ReadTree as read
use Rattle.sml_tree.specs.ReadTree.{Placed, Exps, exp, no_exps, Decs, let_in}
use Rattle.sml_tree.specs.Levels.{after}
use Rattle.sml_tree.specs.Depth.{depth_exps}
use Rattle.sml_grammar.specs.Answer.{Read, ok, read, then_read}
use Rattle.sml_grammar.specs.Terminals.{Taken, names_vid, after_word, place_at, tail}
use Rattle.sml_grammar.specs.Expressions.{Readers, readers, vid_if, equals_unless, atom_start, atom_by, brace_start, paren_start, bracket_start, let_start, let_exp}
use Rattle.phrase_base.specs.declared.source.Source.{Source}
use Rattle.phrase_base.specs.declared.stop.Stop.{Stop}
use Rattle.phrase_base.specs.declared.got.Got.{Got}
use Rattle.phrase_base.specs.Gives.{Gives}
use Rattle.phrase_base.specs.Left.{left}
use Rattle.sml_phrases.specs.ExpressionsRead.{IsAtom, IsList, IsDecs, leaf_by, closed_exps}
use Rattle.std.specs.List.{remove}
use Rattle.std.proofs.lemmas.List.{length-map}
use Rattle.sml_phrases.proofs.ExpForms.{let-body}
use Rattle.sml_phrases.proofs.ExpLemmas.{decs_all, tail-short, after-shorter}
use Rattle.phrase_base.proofs.Loop.{fails-by}
use Rattle.sml_phrases.proofs.ExpSteps.{atom-one}
use Rattle.sml_grammar.proofs.Answers.{at-path}
use Rattle.sml_grammar.proofs.Words.{word-at}

vid-leaf : (self : Readers) (f : Fixity) (p : ℕ) (v : Option (Taken (Placed LongVid))) → atom_by self f (vid_if p v) ≡ leaf_by (vid_if p v)
vid-leaf self f p None = refl
vid-leaf self f p (Some x) = refl

equals-leaf : (self : Readers) (f : Fixity) (d : Option Infix) (p : ℕ) (o : List Terminal) → atom_by self f (equals_unless d p o) ≡ leaf_by (equals_unless d p o)
equals-leaf self f None p o = refl
equals-leaf self f (Some d) p o = refl

-- where no bracket begins
pub leaf-start : (self : Readers) (f : Fixity) (i : List Terminal) → after_word res.LeftBrace i ≡ None → after_word res.LeftParen i ≡ None → after_word res.LeftBracket i ≡ None → after_word res.Let i ≡ None →
    atom_by self f (atom_start f i) ≡ leaf_by (atom_start f i)
leaf-start self f [] a b c d = refl
leaf-start self f (reserved p res.LeftBrace ∷ o) a b c d = absurd (cc)
leaf-start self f (reserved p res.LeftParen ∷ o) a b c d = absurd (cc)
leaf-start self f (reserved p res.LeftBracket ∷ o) a b c d = absurd (cc)
leaf-start self f (reserved p res.Let ∷ o) a b c d = absurd (cc)
leaf-start self f (reserved p res.Hash ∷ o) a b c d = refl
leaf-start self f (reserved p res.Equals ∷ o) a b c d = equals-leaf self f (fix_of Equals f) p o
leaf-start self f (reserved p res.Op ∷ o) a b c d = vid-leaf self f p (names_vid f (reserved p res.Op ∷ o))
leaf-start self f (reserved p _ ∷ o) a b c d = refl
leaf-start self f (number p n plain ∷ o) a b c d = refl
leaf-start self f (constant p y ∷ o) a b c d = refl
leaf-start self f (alpha p y ∷ o) a b c d = vid-leaf self f p (names_vid f (alpha p y ∷ o))
leaf-start self f (symbol p y ∷ o) a b c d = vid-leaf self f p (names_vid f (symbol p y ∷ o))
leaf-start self f (star p y ∷ o) a b c d = vid-leaf self f p (names_vid f (star p y ∷ o))
leaf-start self f (long_alpha p qs y ∷ o) a b c d = refl
leaf-start self f (long_symbol p qs y ∷ o) a b c d = refl
leaf-start self f (long_star p qs y ∷ o) a b c d = refl
leaf-start self f (type_var p y ∷ o) a b c d = refl

-- where a bracket begins
pub brace-start : (f : Fixity) (i : List Terminal) {o : List Terminal} → after_word res.LeftBrace i ≡ Some o → atom_start f i ≡ brace_start (place_at i) (tail i)
brace-start f i {o} e = let q = at-path {w = res.LeftBrace} (word-at res.LeftBrace i o e) in rw q.1 refl

pub paren-start : (f : Fixity) (i : List Terminal) {o : List Terminal} → after_word res.LeftParen i ≡ Some o → atom_start f i ≡ paren_start (place_at i) (tail i)
paren-start f i {o} e = let q = at-path {w = res.LeftParen} (word-at res.LeftParen i o e) in rw q.1 refl

pub bracket-start : (f : Fixity) (i : List Terminal) {o : List Terminal} → after_word res.LeftBracket i ≡ Some o → atom_start f i ≡ bracket_start (place_at i) (tail i)
bracket-start f i {o} e = let q = at-path {w = res.LeftBracket} (word-at res.LeftBracket i o e) in rw q.1 refl

pub let-start : (f : Fixity) (i : List Terminal) {o : List Terminal} → after_word res.Let i ≡ Some o → atom_start f i ≡ let_start (place_at i) (tail i)
let-start f i {o} e = let q = at-path {w = res.Let} (word-at res.Let i o e) in rw q.1 refl

-- what is read of it is atomic, and not deeper than it may be
module _ (f : Fixity) (s : Source) (n : ℕ) (i : List Terminal) where
  pub deeper : {e : Exp} {d : ℕ} {o : List Token} {r : Read read.Exp} → 0 < n → IsAtom f s 1 i e d o r → IsAtom f s n i e d o r
  deeper h x = record { is = record { rest = x.is.rest; bare = x.is.bare; deep = x.is.deep; place = x.is.place; fits = omega (arith, h, x.is.fits); shorter = x.is.shorter }; high = x.high }

  pub leaf-read : (r : Result (Got Exp) Stop) → 0 < n → after_word res.LeftBrace i ≡ None → after_word res.LeftParen i ≡ None → after_word res.LeftBracket i ≡ None → after_word res.Let i ≡ None →
      Gives (λ x r. IsAtom f s 1 i x.it x.depth x.rest.now r) r (leaf_by (atom_start f i)) → Gives (λ x r. IsAtom f s n i x.it x.depth x.rest.now r) r ((readers n).atom f i)
  leaf-read r h a b c d g = go r g
    where
      e : (readers n).atom f i ≡ leaf_by (atom_start f i)
      e = atom-one n f i h ∙ leaf-start (readers (n - 1)) f i a b c d

      go : (r : Result (Got Exp) Stop) → Gives (λ x r. IsAtom f s 1 i x.it x.depth x.rest.now r) r (leaf_by (atom_start f i)) → Gives (λ x r. IsAtom f s n i x.it x.depth x.rest.now r) r ((readers n).atom f i)
      go (Ok x) g = record { got = g.got; is = e ∙ g.is; same = deeper h g.same }
      go (Err x) g = fails-by x _ _ e g

-- `let`
removed : (xs ys : List Exp) (x : Exp) → 0 < length xs → x ≡ slice_index_or xs 0 x → ys ≡ remove xs 0 → exp_of x ∷ map exp_of ys ≡ map exp_of xs
removed [] ys x h e r = absurd (omega arith)
removed (a ∷ xs) ys x h e r = let q : x ≡ a = e in let t : ys ≡ xs = r in rw (q, t) refl

sequence-same : (f p : ℕ) (es : Exps) (x : bare.Exp) (xs : List bare.Exp) → x ∷ xs ≡ exp_list f es → sequence_of (at f p) x xs ≡ bare_sequence f p es
sequence-same f p no_exps x xs e = absurd (cc)
sequence-same f p (exp a es) x xs e = let h : x ≡ bare_exp f a = cc in let t : xs ≡ exp_list f es = cc in rw (h, t) refl

module _ (s : Source) (n : ℕ) (f g g' : Fixity) {ds : List Dec} {d : ℕ} {o : List Token} (t : Read Decs) (same : g ≡ f) where
  pub let-goes : (p : ℕ) (i m : List Terminal) → (readers n).decs g i ≡ ok t → IsDecs g g' s n i ds d o t → after_word res.In (left s o) ≡ Some m →
      let_exp (readers n) f p i ≡ then_read (closed_exps res.Semicolon res.End (readers n).exp g' m) (λ es o. read (let_in p t.tree es) o)
  let-goes p i m e is a =
      let e' : (readers n).decs f i ≡ ok t = subst (λ z. (readers n).decs z i ≡ ok t) same e in
      let a' : after_word res.In t.rest ≡ Some m = subst (λ z. after_word res.In z ≡ Some m) is.rest a in
      let h : after f t.tree ≡ g' = ap (λ z. after z t.tree) (sym same) ∙ sym is.force in
      let-body (readers n) f p i t e' a' ∙ ap (λ z. then_read (closed_exps res.Semicolon res.End (readers n).exp z m) (λ es o. read (let_in p t.tree es) o)) h

  pub is-let : {made x : Exp} {ys : List Exp} {d2 : ℕ} {o2 : List Token} {m : List Terminal} (xs : List Exp) (i : List Terminal) (es : Read Exps) → IsDecs g g' s n (tail i) ds d o t → after_word res.In (left s o) ≡ Some m →
      IsList (exp_list s.file) depth_exps s n m (map exp_of xs) d2 o2 es → x ≡ slice_index_or xs 0 x → ys ≡ remove xs 0 → exp_of made ≡ let_of (at s.file (place_at i)) (decs_of (map dec_of ds)) (exp_of x) (map exp_of ys) →
      IsAtom f s (n + 1) i made (max d d2 + 1) o2 (record { tree = let_in (place_at i) t.tree es.tree; rest = es.rest })
  is-let {made} {x} {ys} {d2} {o2} {m} xs i es is a l v r h =
      let q = is.deep in
      let q2 = l.deep in
      let lt = after-shorter res.In (left s o) m a in
      let ls = subst (λ z. length z ≤ length (tail i)) (sym is.rest) is.short in
      let some : 0 < length xs = subst (λ z. 0 < z) (length-map xs exp_of) l.some in
      let b = removed xs ys x some v r ∙ l.same in
      record {
        is = record {
          rest = l.rest;
          bare = h ∙ ap (λ z. bare.let_in (at s.file (place_at i)) z (sequence_of (at s.file (place_at i)) (exp_of x) (map exp_of ys))) (ap decs_of is.same ∙ decs_all s.file t.tree)
              ∙ ap (bare.let_in (at s.file (place_at i)) (bare_decs s.file t.tree)) (sequence-same s.file (place_at i) es.tree (exp_of x) (map exp_of ys) b);
          deep = omega (arith, q, q2);
          place = refl;
          fits = omega (arith, is.fits, l.fits);
          shorter = omega (arith, l.shorter, lt, ls, tail-short i);
        };
        high = refl;
      }
