-- What is in the grammar, and at most n deep, the readers of depth n read.
use Rattle.std.proofs.Common.{ℕ, zero, suc, arith}
use Rattle.sml_grammar.specs.Answer.{deep, deep_if}
use Rattle.sml_grammar.specs.Expressions.{begins, readers}
use Rattle.sml_grammar.proofs.CompShapes.{depth-pos}
use Rattle.sml_grammar.proofs.CompLists.{CompleteExp, CompleteAtom, CompleteDecs}
use Rattle.sml_grammar.proofs.CompLists as lists
use Rattle.sml_grammar.proofs.CompReaches.{from-complete}
use Rattle.sml_grammar.proofs.CompDecs.{from-decs-complete}

pub record AllComplete (n : ℕ) : Type 0 where
  pub exp : CompleteExp n (readers n).exp
  pub atom : CompleteAtom n (readers n).atom
  pub decs : CompleteDecs n (readers n).decs

exp-none : CompleteExp 0 (λ f l i. deep_if (begins f l i))
exp-none f l i t o d le high ends stops b y = let h = depth-pos t in absurd (omega arith)

all-zero : AllComplete 0
unfolding readers
all-zero = record {
  exp = exp-none;
  atom = λ f i e o d le. let h = depth-pos e in absurd (omega arith);
  decs = from-decs-complete 0 (λ f l i. deep_if (begins f l i)) exp-none (λ f i. deep) (λ f i ds o d lt e. absurd (omega arith));
}

all-suc : (n : ℕ) → AllComplete n → AllComplete (suc n)
unfolding readers
all-suc n a =
    let e : CompleteExp (suc n) (readers (suc n)).exp = λ f l i t o. from-complete n (readers n) a.exp a.atom a.decs f l i t o in
    record {
      exp = e;
      atom = λ f i t o d le. lists.atom-complete n (readers n) a.exp a.decs d le;
      decs = from-decs-complete (suc n) (readers (suc n)).exp e (readers n).decs (λ f i ds o d lt ends. a.decs f i ds o d (omega arith) ends);
    }

pub all-complete : (n : ℕ) → AllComplete n
all-complete zero = all-zero
all-complete (suc n) = all-suc n (all-complete n)

-- by name

pub exp-complete : (n : ℕ) → CompleteExp n (readers n).exp
exp-complete n = (all-complete n).exp

pub atom-complete : (n : ℕ) → CompleteAtom n (readers n).atom
atom-complete n = (all-complete n).atom

pub decs-complete : (n : ℕ) → CompleteDecs n (readers n).decs
decs-complete n = (all-complete n).decs
