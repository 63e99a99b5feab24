-- Where the readers answer deep, a partial phrase is there, by induction on the depth.
use Rattle.std.proofs.Common.{ℕ, zero, suc, arith}
use Rattle.sml_tree.specs.ReadTree.{Exp}
use Rattle.sml_tree.specs.Levels.{after}
use Rattle.sml_grammar.specs.Answer.{deep, deep_if}
use Rattle.sml_grammar.specs.Expressions.{readers, begins, begins_atom, exp_from}
use Rattle.sml_grammar.specs.Partial.{begun, begun_atom, begun_local, in_local, in_local_body}
use Rattle.sml_grammar.proofs.Answers.{deep_if-ok, deep_ok, if-deep}
use Rattle.sml_grammar.proofs.ExpLevels.{atom-start-is, begins_atom-is, begins-is}
use Rattle.sml_grammar.proofs.ExpBelow.{Below, FarBelow}
use Rattle.sml_grammar.proofs.ExpSoundForms.{exp_from-sound}
use Rattle.sml_grammar.proofs.ExpSound.{readers-sound}
use Rattle.sml_grammar.proofs.ExpFarAtoms.{Fars, FarsAtom, FarsDecs, atom-far}
use Rattle.sml_grammar.proofs.ExpFarForms.{exp_from-far}
use Rattle.sml_grammar.proofs.ExpFarDecs.{decs_from-far}

pub record FarReaders (n : ℕ) : Type 0 where
  pub exp : Fars n (readers n).exp
  pub atom : FarsAtom n (readers n).atom
  pub decs : FarsDecs n (readers n).decs

pub readers-far : ((n : ℕ) → Below n) → ((n : ℕ) → FarBelow n) → (n : ℕ) → FarReaders n
unfolding readers
readers-far below far_below zero = record {
  exp = λ f l i low h. begun (begins-is (if-deep {A = Exp} (begins f l i) h));
  atom = λ f i h. begun_atom (begins_atom-is (if-deep {A = Exp} (begins_atom f i) h));
  decs = λ f i h. decs_from-far 0 (below 0) (far_below 0) (λ g l m. deep_if (begins g l m)) (λ g l m x low e. deep_if-ok (begins g l m) x e) (λ g l m low e. begun (begins-is (if-deep {A = Exp} (begins g l m) e)))
      (λ g m. deep) (λ g m x e. deep_ok e) (record { first = λ g p m e. begun_local p; second = λ g p q m ds k d e. begun_local p }) f i h;
}
readers-far below far_below (suc n) =
    let s = readers-sound below n in
    let r = readers-far below far_below n in
    record {
      exp = λ f l i low h. exp_from-far n (below n) (far_below n) (readers n) s.exp s.atom s.decs r.exp r.atom r.decs f l i low h;
      atom = λ f i h. atom-far n (readers n) s.exp s.decs r.exp r.decs f (atom-start-is f i) h;
      decs = λ f i h. decs_from-far (suc n) (below (suc n)) (far_below (suc n)) (λ g l m. exp_from (readers n) n g l m)
          (λ g l m x low e. exp_from-sound n (below n) (readers n) s.exp s.atom s.decs g l m x low e)
          (λ g l m low e. exp_from-far n (below n) (far_below n) (readers n) s.exp s.atom s.decs r.exp r.atom r.decs g l m low e)
          (readers n).decs (λ g m x e. let d = s.decs g m x e in record { reads = d.reads; fits = omega (arith, d.fits) })
          (record { first = λ g p m e. in_local p (r.decs g m e); second = λ g p q m ds k d e. in_local_body p q d (r.decs (after g ds) k e) }) f i h;
    }
