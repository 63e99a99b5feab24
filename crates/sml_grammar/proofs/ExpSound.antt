-- What the readers read is in the grammar, by induction on the depth.
use Rattle.std.proofs.Common.{ℕ, zero, suc, arith}
use Rattle.sml_grammar.specs.Answer.{deep, deep_if}
use Rattle.sml_grammar.specs.Expressions.{readers, begins, begins_atom, exp_from}
use Rattle.sml_grammar.proofs.Answers.{deep_if-ok, deep_ok}
use Rattle.sml_grammar.proofs.ExpLevels.{atom-start-is}
use Rattle.sml_grammar.proofs.ExpBelow.{Below}
use Rattle.sml_grammar.proofs.ExpSoundAtoms.{Sounds, SoundsAtom, SoundsDecs, atom-sound}
use Rattle.sml_grammar.proofs.ExpSoundForms.{exp_from-sound}
use Rattle.sml_grammar.proofs.ExpSoundDecs.{decs_from-sound}

pub record SoundReaders (n : ℕ) : Type 0 where
  pub exp : Sounds n (readers n).exp
  pub atom : SoundsAtom n (readers n).atom
  pub decs : SoundsDecs n (readers n).decs

pub readers-sound : ((n : ℕ) → Below n) → (n : ℕ) → SoundReaders n
unfolding readers
readers-sound below zero = record {
  exp = λ f l i y low h. deep_if-ok (begins f l i) y h;
  atom = λ f i y h. deep_if-ok (begins_atom f i) y h;
  decs = λ f i y h. decs_from-sound 0 (below 0) (λ g l m. deep_if (begins g l m)) (λ g l m x low e. deep_if-ok (begins g l m) x e) (λ g m. deep) (λ g m x e. deep_ok e) f i y h;
}
readers-sound below (suc n) =
    let s = readers-sound below n in
    record {
      exp = λ f l i y low h. exp_from-sound n (below n) (readers n) s.exp s.atom s.decs f l i y low h;
      atom = λ f i y h. atom-sound n (readers n) s.exp s.decs f y (atom-start-is f i) h;
      decs = λ f i y h. decs_from-sound (suc n) (below (suc n)) (λ g l m. exp_from (readers n) n g l m) (λ g l m x low e. exp_from-sound n (below n) (readers n) s.exp s.atom s.decs g l m x low e)
          (readers n).decs (λ g m x e. let d = s.decs g m x e in record { reads = d.reads; fits = omega (arith, d.fits) }) f i y h;
    }
