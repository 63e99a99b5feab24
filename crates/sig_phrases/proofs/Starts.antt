-- What signatures begin with, and how deep they may be.
use Rattle.std.proofs.Common.{◌≡◌, ℕ, zero, suc, ◌<◌, ◌+◌, ◌-◌, List, [], ◌∷◌, length, Some, None, Result, Ok, Err, refl, ap, ◌∙◌, subst, arith}
use Rattle.mlc_names.specs.declared.token.Reserved.TheVariants as res
use Rattle.sml_tree.specs.Terminal.{Terminal, reserved, number, constant, alpha, symbol, star, long_alpha, long_symbol, long_star, type_var}
use Rattle.sml_grammar.specs.Answer.{Read, ok, deep_if, whole}
use Rattle.sml_grammar.specs.Terminals.{after_word, first_as, place_at, tail}
use Rattle.sml_grammar.proofs.Answers.{at-path}
use Rattle.sml_grammar.proofs.Words.{word-at}
use Rattle.module_tree.specs.ReadModules as tree
use Rattle.module_code.specs.declared.signatures.SigExp.{SigExp}
use Rattle.module_grammar.specs.Signatures.{SigReader, as_module_id, begins_sig, sig_start, sig_start_of, sig_id_if, sig_atom, where_suffix, sig_from, read_sig, spec_start}
use Rattle.phrase_base.specs.declared.source.Source.{Source}
use Rattle.phrase_base.specs.declared.stop.Stop.{Stop}
use Rattle.phrase_base.specs.declared.got.Got.{Got}
use Rattle.phrase_base.specs.Gives.{Fails, Gives}
use Rattle.phrase_base.proofs.Loop.{fails-then, fails-by}
use Rattle.spec_phrases.proofs.Form.{gives-by}
use Rattle.sig_phrases.specs.SigsRead.{IsSig, starts}
use Rattle.sig_phrases.specs.declared.words.SpecWord.{SpecWord}
use Rattle.sig_phrases.specs.declared.words.SpecWord.TheVariants as word

pub opens_sig : (i o : List Terminal) → after_word res.Sig i ≡ Some o → sig_start_of i ≡ sig_start (place_at i) o
opens_sig i o h = let q = at-path (word-at res.Sig i o h) in rw q.1 refl

pub named-start : (i : List Terminal) → after_word res.Sig i ≡ None → sig_start_of i ≡ sig_id_if (first_as as_module_id i)
named-start [] h = refl
named-start (reserved p res.Sig ∷ o) h = absurd (cc)
named-start (reserved p _ ∷ o) h = refl
named-start (number p n b ∷ o) h = refl
named-start (constant p c ∷ o) h = refl
named-start (alpha p x ∷ o) h = refl
named-start (symbol p x ∷ o) h = refl
named-start (star p x ∷ o) h = refl
named-start (long_alpha p q x ∷ o) h = refl
named-start (long_symbol p q x ∷ o) h = refl
named-start (long_star p q x ∷ o) h = refl
named-start (type_var p a ∷ o) h = refl

-- what is read where nothing was may be deeper
pub sig-named : (s : Source) (n : ℕ) (i : List Terminal) (r : Result (Got SigExp) Stop) (self : SigReader) → after_word res.Sig i ≡ None →
    Gives (λ (x : Got SigExp) g. IsSig s 1 i x.it x.depth x.rest.now g) r (sig_atom n self (sig_id_if (first_as as_module_id i))) →
    Gives (λ (x : Got SigExp) g. IsSig s (n + 1) i x.it x.depth x.rest.now g) r (sig_atom n self (sig_start_of i))
sig-named s n i (Ok x) self e g =
    let h = g.same in let f = h.fits in
    record { got = g.got; is = ap (sig_atom n self) (named-start i e) ∙ g.is; same = record { rest = h.rest; same = h.same; depth = h.depth; fits = omega arith; shorter = h.shorter } }
sig-named s n i (Err x) self e f = fails-by x (sig_atom n self (sig_start_of i)) (sig_atom n self (sig_id_if (first_as as_module_id i))) (ap (sig_atom n self) (named-start i e)) f

pub sig-none : (n : ℕ) (i : List Terminal) → n ≡ 0 → read_sig n i ≡ deep_if (begins_sig (sig_start_of i))
unfolding read_sig
sig-none zero i e = refl
sig-none (suc n) i e = absurd (omega arith)

pub sig-one : (n : ℕ) (i : List Terminal) → 0 < n → read_sig n i ≡ sig_from (n - 1) (read_sig (n - 1)) i
unfolding read_sig
sig-one zero i h = absurd (omega arith)
sig-one (suc n) i h = let e : suc n - 1 ≡ n = omega arith in rw e refl

module _ (s : Source) (n : ℕ) (i : List Terminal) (pos : 0 < n) where
  pub atom-fails : (e : Stop) → Fails e (sig_atom (n - 1) (read_sig (n - 1)) (sig_start_of i)) → Fails e (read_sig n i)
  atom-fails e h = fails-by e (read_sig n i) _ (sig-one n i pos) (fails-then e (sig_atom (n - 1) (read_sig (n - 1)) (sig_start_of i)) _ h)

  pub suffixed : (a : Read tree.SigExp) (r : Result (Got SigExp) Stop) → sig_atom (n - 1) (read_sig (n - 1)) (sig_start_of i) ≡ ok a →
      Gives (λ (x : Got SigExp) g. IsSig s (n - 1 + 1) i x.it x.depth x.rest.now g) r (whole (where_suffix (n - 1)) a.tree a.rest) → Gives (λ (x : Got SigExp) g. IsSig s n i x.it x.depth x.rest.now g) r (read_sig n i)
  suffixed a r is h =
      let m : n - 1 + 1 ≡ n = omega arith in
      let q : read_sig n i ≡ whole (where_suffix (n - 1)) a.tree a.rest = sig-one n i pos ∙ rw is refl in
      gives-by (λ (x : Got SigExp) g. IsSig s n i x.it x.depth x.rest.now g) r (read_sig n i) (whole (where_suffix (n - 1)) a.tree a.rest) q
      (subst (λ (k : ℕ). Gives (λ (x : Got SigExp) g. IsSig s k i x.it x.depth x.rest.now g) r (whole (where_suffix (n - 1)) a.tree a.rest)) m h)

-- a specification has a word
pub start-shorter : (i : List Terminal) (w : SpecWord) → spec_start i ≡ starts w (place_at i) (tail i) → length (tail i) < length i
start-shorter [] word.Val h = absurd (cc)
start-shorter [] word.Type h = absurd (cc)
start-shorter [] word.Eqtype h = absurd (cc)
start-shorter [] word.Datatype h = absurd (cc)
start-shorter [] word.Exception h = absurd (cc)
start-shorter [] word.Structure h = absurd (cc)
start-shorter [] word.Include h = absurd (cc)
start-shorter [] word.Sharing h = absurd (cc)
start-shorter (t ∷ o) w h = omega arith
