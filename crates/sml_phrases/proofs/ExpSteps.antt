-- Turns of the loops that read expressions.
use Rattle.std.proofs.Common.{◌≡◌, ℕ, zero, suc, ◌+◌, ◌-◌, ◌<◌, ◌≤◌, List, true, false, Option, Some, None, refl, ap, arith}
use Rattle.std.proofs.lemmas.Bool.{le-leb, lt-leb}
use Rattle.mlc_names.specs.declared.token.Reserved.TheVariants as res
use Rattle.mlc_names.specs.declared.label.Label.{Label}
use Rattle.sml_tree.specs.Terminal.{Terminal}
use Rattle.sml_tree.specs.Fixity.{Fixity}
use Rattle.sml_tree.specs.Bare.{bare_exp}
use Rattle.sml_tree.specs.TreeOf.{exp_of}
use Rattle.sml_tree.specs.declared.tree.Exp.{Exp}
use Rattle.sml_tree.specs.ReadTree as read
use Rattle.sml_tree.specs.ReadTree.{Placed, exp, no_exps, exp_field, no_exp_fields, rule, last_rule, Joint, exp_place}
use Rattle.sml_tree.specs.Depth.{depth}
use Rattle.sml_tree.specs.Levels.{level}
use Rattle.sml_grammar.specs.Answer.{Read, Answer, ok, bad, deep, deep_if, read, then_read, Turn, last, more, whole}
use Rattle.sml_grammar.specs.Terminals.{taken, first_as, as_label, after_word, on_some, word_then, separated, NoState, no_state, place_at}
use Rattle.sml_grammar.specs.Expressions.{Reader, AtomReader, Readers, readers, exp_from, atom_by, atom_start, begins, begins_atom, row_turn, atoms_turn, next_of, nothing, rule_turn, suffix_turn, is_keyword, start_of, keyword_form, application}
use Rattle.sml_grammar.specs.Patterns.{read_pat, label_if}
use Rattle.phrase_base.specs.declared.source.Source.{Source}
use Rattle.sml_phrases.specs.declared.ties.Tie.{Tie}
use Rattle.sml_phrases.specs.declared.ties.Tie.TheVariants as tie
use Rattle.sml_phrases.specs.Ties.{next_from, tie_level, tie_least, tie_rest}
use Rattle.phrase_base.proofs.Loop.{Going}
use Rattle.sml_phrases.proofs.ExpLemmas.{word-in}

pub sep-more : {B S : Type 0} {x : Option (List Terminal)} {m : List Terminal} (put : B → B) (end : B) (s : S) (o : List Terminal) → x ≡ Some m → separated x put end s o ≡ read (more put s) m
sep-more put end s o e = rw e refl

pub sep-last : {B S : Type 0} {x : Option (List Terminal)} (put : B → B) (end : B) (s : S) (o : List Terminal) → x ≡ None → separated x put end s o ≡ read (last end) o
sep-last put end s o e = rw e refl

pub after-ok : {A B : Type 0} {m : Answer A} {r : Read A} (g : A → List Terminal → Answer B) → m ≡ ok r → then_read m g ≡ g r.tree r.rest
after-ok g e = ap (λ m. then_read m g) e

-- rows
pub row-as : (self : Reader) (f : Fixity) (s : NoState) (i : List Terminal) (l : Placed Label) (o : List Terminal) → first_as as_label i ≡ taken l o →
    row_turn self f s i ≡ then_read (word_then res.Equals (self f 0) o) (λ e q. separated (after_word res.Comma q) (exp_field l.it e) (exp_field l.it e no_exp_fields) s q)
row-as self f s i l o e = rw e (go (after_word res.Equals o))
  where
    h : read.Exp → List Terminal → Answer (Turn read.ExpFields NoState)
    h e q = separated (after_word res.Comma q) (exp_field l.it e) (exp_field l.it e no_exp_fields) s q

    go : (v : Option (List Terminal)) → Rattle.sml_grammar.specs.Terminals.then_taken (label_if l.it v) (λ l m. then_read (self f 0 m) (λ e q. separated (after_word res.Comma q) (exp_field l e) (exp_field l e no_exp_fields) s q)) ≡ then_read (on_some v (self f 0) bad) h
    go None = refl
    go (Some m) = refl

pub row-none : (self : Reader) (f : Fixity) (s : NoState) (i : List Terminal) → first_as as_label i ≡ None → row_turn self f s i ≡ bad
row-none self f s i e = rw e refl

-- rules
pub rule-as : (n : ℕ) (self : Reader) (f : Fixity) (s : NoState) (i : List Terminal) (a : Read read.Pat) → read_pat n f i ≡ ok a →
    rule_turn n self f s i ≡ then_read (word_then res.DoubleArrow (self f 0) a.rest) (λ e o. separated (after_word res.Bar o) (rule a.tree e) (last_rule a.tree e) s o)
rule-as n self f s i a e = rw e (word-in res.DoubleArrow (self f 0) (λ e o. separated (after_word res.Bar o) (rule a.tree e) (last_rule a.tree e) s o) a.rest)

-- atoms
pub atoms-as : (atom : AtomReader) (f : Fixity) (s : NoState) (i : List Terminal) → begins_atom f i ≡ true → atoms_turn atom f s i ≡ then_read (atom f i) (λ e o. read (more (exp e) s) o)
atoms-as atom f s i e = rw e refl

pub atoms-none : (atom : AtomReader) (f : Fixity) (s : NoState) (i : List Terminal) → begins_atom f i ≡ false → atoms_turn atom f s i ≡ read (last no_exps) i
atoms-none atom f s i e = rw e refl

-- readers
pub exp-one : (n : ℕ) (f : Fixity) (l : ℕ) (i : List Terminal) → 0 < n → (readers n).exp f l i ≡ exp_from (readers (n - 1)) (n - 1) f l i
unfolding readers
exp-one zero f l i h = absurd (omega arith)
exp-one (suc n) f l i h = let e : suc n - 1 ≡ n = omega arith in rw e refl

pub exp-zero : (n : ℕ) (f : Fixity) (l : ℕ) (i : List Terminal) → n ≡ 0 → (readers n).exp f l i ≡ deep_if (begins f l i)
unfolding readers
exp-zero n f l i e = rw e refl

pub atom-one : (n : ℕ) (f : Fixity) (i : List Terminal) → 0 < n → (readers n).atom f i ≡ atom_by (readers (n - 1)) f (atom_start f i)
unfolding readers
atom-one zero f i h = absurd (omega arith)
atom-one (suc n) f i h = let e : suc n - 1 ≡ n = omega arith in rw e refl

pub atom-next : (n : ℕ) (f : Fixity) (i : List Terminal) → (readers (n + 1)).atom f i ≡ atom_by (readers n) f (atom_start f i)
unfolding readers
atom-next n f i = let e : n + 1 ≡ suc n = omega arith in rw e refl

pub atom-zero : (n : ℕ) (f : Fixity) (i : List Terminal) → n ≡ 0 → (readers n).atom f i ≡ deep_if (begins_atom f i)
unfolding readers
atom-zero n f i e = rw e refl

pub keyword-low : (self : Readers) (n : ℕ) (f : Fixity) (l : ℕ) (i : List Terminal) → is_keyword (start_of i) ≡ true → 4 < l → exp_from self n f l i ≡ bad
keyword-low self n f l i k h = let c = lt-leb l 4 h in rw (k, c) refl

pub keyword-goes : (self : Readers) (n : ℕ) (f : Fixity) (l : ℕ) (i : List Terminal) → is_keyword (start_of i) ≡ true → l ≤ 4 → exp_from self n f l i ≡ keyword_form n self.exp f (start_of i)
keyword-goes self n f l i k h = let c = le-leb l 4 h in rw (k, c) refl

pub exp-goes : (self : Readers) (n : ℕ) (f : Fixity) (l : ℕ) (i : List Terminal) → is_keyword (start_of i) ≡ false →
    exp_from self n f l i ≡ then_read (application self n f i) (λ a m. whole (suffix_turn self.exp n f l) a m)
exp-goes self n f l i k = rw k refl

-- what follows an expression

module _ (self : Reader) (n : ℕ) (f : Fixity) (l : ℕ) (a : read.Exp) (i : List Terminal) where
  pub suffix-none : next_of f i ≡ nothing → suffix_turn self n f l a i ≡ read (last a) i
  suffix-none e = rw e refl

  pub suffix-low : (t : Tie) (m : List Terminal) → next_of f i ≡ next_from t m → tie_level f t < l → suffix_turn self n f l a i ≡ read (last a) i
  suffix-low (tie.Joint j) m e h = let c = lt-leb l (tie_level f (tie.Joint j)) h in rw (e, c) refl
  suffix-low tie.Mark m e h = let c = lt-leb l 5 h in rw (e, c) refl
  suffix-low tie.Handle m e h = let c = lt-leb l 0 h in rw (e, c) refl

  pub suffix-bad : (t : Tie) (m : List Terminal) → next_of f i ≡ next_from t m → l ≤ tie_level f t → level f a < tie_least f t → suffix_turn self n f l a i ≡ bad
  suffix-bad (tie.Joint j) m e h k = let c = le-leb l (tie_level f (tie.Joint j)) h in let d = lt-leb (tie_least f (tie.Joint j)) (level f a) k in rw (e, c, d) refl
  suffix-bad tie.Mark m e h k = let c = le-leb l 5 h in let d = lt-leb 5 (level f a) k in rw (e, c, d) refl
  suffix-bad tie.Handle m e h k = absurd (omega arith)

  pub suffix-deep : (t : Tie) (m : List Terminal) → next_of f i ≡ next_from t m → l ≤ tie_level f t → tie_least f t ≤ level f a → n < depth a → suffix_turn self n f l a i ≡ deep
  suffix-deep (tie.Joint j) m e h k q = let c = le-leb l (tie_level f (tie.Joint j)) h in let d = le-leb (tie_least f (tie.Joint j)) (level f a) k in let g = lt-leb (depth a) n q in rw (e, c, d, g) refl
  suffix-deep tie.Mark m e h k q = let c = le-leb l 5 h in let d = le-leb 5 (level f a) k in let g = lt-leb (depth a) n q in rw (e, c, d, g) refl
  suffix-deep tie.Handle m e h k q = let c = le-leb l 0 h in let g = lt-leb (depth a) n q in rw (e, c, g) refl

  again : {A B : Type 0} (m : Answer A) (put : A → B) → then_read m (λ x o. read (more (λ (b : B). b) (put x)) o) ≡ then_read (then_read m (λ x o. read (put x) o)) (λ e o. read (more (λ (b : B). b) e) o)
  again (ok x) put = refl
  again bad put = refl
  again deep put = refl

  pub suffix-goes : (t : Tie) (m : List Terminal) → next_of f i ≡ next_from t m → l ≤ tie_level f t → tie_least f t ≤ level f a → depth a ≤ n →
      suffix_turn self n f l a i ≡ then_read (tie_rest self n f a t m) (λ e o. read (more (λ b. b) e) o)
  suffix-goes (tie.Joint j) m e h k q = let c = le-leb l (tie_level f (tie.Joint j)) h in let d = le-leb (tie_least f (tie.Joint j)) (level f a) k in let g = le-leb (depth a) n q in rw (e, c, d, g) (again _ _)
  suffix-goes tie.Mark m e h k q = let c = le-leb l 5 h in let d = le-leb 5 (level f a) k in let g = le-leb (depth a) n q in rw (e, c, d, g) (again _ _)
  suffix-goes tie.Handle m e h k q = let c = le-leb l 0 h in let g = le-leb (depth a) n q in rw (e, c, g) (again _ _)

-- an expression that may still become larger
pub record Seeking (self : Reader) (n : ℕ) (f : Fixity) (l : ℕ) (s : Source) (p : ℕ) (i : List Terminal) (e : Exp) (d high : ℕ) (total : Answer read.Exp) : Type 0 where
  pub tree : read.Exp
  pub going : Going (suffix_turn self n f l) tree i (λ b. b) total
  pub bare : exp_of e ≡ bare_exp s.file tree
  pub deep : d ≡ depth tree
  pub place : exp_place tree ≡ p
  pub fits : depth tree ≤ n + 1
  pub above : high ≡ level f tree
