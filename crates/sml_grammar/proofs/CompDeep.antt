-- What is more than n deep the readers of depth n tell to be too deep.
use Rattle.std.proofs.Common.{ℕ, zero, suc, refl, arith}
use Rattle.sml_grammar.specs.Answer.{deep, deep_if}
use Rattle.sml_grammar.specs.Expressions.{begins, readers}
use Rattle.sml_grammar.proofs.CompShapes.{depth-pos}
use Rattle.sml_grammar.proofs.CompLists.{CompleteExp}
use Rattle.sml_grammar.proofs.CompBegins.{opens-begins, opens_atom-begins}
use Rattle.sml_grammar.proofs.CompOverLists.{OverExp, OverAtom, OverDecs}
use Rattle.sml_grammar.proofs.CompOverLists as lists
use Rattle.sml_grammar.proofs.CompOver.{from-over}
use Rattle.sml_grammar.proofs.CompOverDecs.{from-decs-over}
use Rattle.sml_grammar.proofs.CompMain.{all-complete}

pub record AllOver (n : ℕ) : Type 0 where
  pub exp : OverExp n (readers n).exp
  pub atom : OverAtom n (readers n).atom
  pub decs : OverDecs n (readers n).decs

exp-complete-none : CompleteExp 0 (λ f l i. deep_if (begins f l i))
exp-complete-none f l i t o d le high ends stops b y = let h = depth-pos t in absurd (omega arith)

exp-over-none : OverExp 0 (λ f l i. deep_if (begins f l i))
exp-over-none f l i d o lt = let b = opens-begins o in rw b refl

over-zero : AllOver 0
unfolding readers
over-zero = record {
  exp = exp-over-none;
  atom = λ f i d o lt. let b = opens_atom-begins o in rw b refl;
  decs = from-decs-over 0 (λ f l i. deep_if (begins f l i)) exp-complete-none exp-over-none (λ f i. deep) (λ f i ds o d lt e. absurd (omega arith))
      (record { opened = λ f i d o le. refl; none = λ lt f i. refl });
}

over-suc : (n : ℕ) → AllOver n → AllOver (suc n)
unfolding readers
over-suc n a =
    let c = all-complete n in
    let e : OverExp (suc n) (readers (suc n)).exp = λ f l i d o lt. from-over n (readers n) c.exp c.atom c.decs a.exp a.atom a.decs f o lt in
    record {
      exp = e;
      atom = λ f i d o lt. lists.atom-over n (readers n) c.exp c.decs a.exp a.decs o lt;
      decs = from-decs-over (suc n) (readers (suc n)).exp (all-complete (suc n)).exp e (readers n).decs (λ f i ds o d lt ends. c.decs f i ds o d (omega arith) ends)
          (record { opened = λ f i d o le. a.decs f i d o (omega arith); none = λ lt f i. absurd (omega arith) });
    }

pub all-over : (n : ℕ) → AllOver n
all-over zero = over-zero
all-over (suc n) = over-suc n (all-over n)

-- by name

pub atom-over : (n : ℕ) → OverAtom n (readers n).atom
atom-over n = (all-over n).atom

pub decs-over : (n : ℕ) → OverDecs n (readers n).decs
decs-over n = (all-over n).decs
