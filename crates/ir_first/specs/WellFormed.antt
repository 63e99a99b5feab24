-- Which programs are well formed: what is named is there, calls give as many arguments as functions take, and what is not to miss doesn't. There are no types:
-- that a program is never wrong comes from the form before.
use Rattle.std.specs.Prelude.{◌≡◌, ℕ, List, ◌∷◌, length, map, Some, ⊤, slice_get}
use Rattle.std.specs.List.{AllByRecursion}
use Rattle.first_values.specs.Operations.{Tables}
use Rattle.first_values.specs.WellFormed.{IsIn, AreIn, PiecesIn, IsPlain, IsTest, IsCallee, AreTables}
use Rattle.ir_first.specs.Tree.{Exp, Op, Arms, Fun, Program, ret, let_in, turn, switch, branch, first, miss, plain, make, attempt, call, block, handle, raise, no_arms, arm}
use Rattle.ir_first.specs.Whole.{AreWhole}

module _ (T : Tables) (arities : List ℕ) where
  -- where these variables are in scope
  abbrev mutual
    pub IsScoped : List ℕ → Exp → Type 0
    IsScoped xs (ret x) = IsIn xs x
    IsScoped xs (let_in x op e) = OpScoped xs op × IsScoped (x ∷ xs) e
    IsScoped xs (turn p e) = IsScoped xs e
    IsScoped xs (switch x arms) = IsIn xs x × ArmsScoped xs arms
    IsScoped xs (branch q ys a b) = (IsTest T q (length ys) × AreIn xs ys) × (IsScoped xs a × IsScoped xs b)
    IsScoped xs (first e d) = IsScoped xs e × IsScoped xs d
    IsScoped xs miss = ⊤

    pub OpScoped : List ℕ → Op → Type 0
    OpScoped xs (plain p ys) = IsPlain T p (length ys) × AreIn xs ys
    OpScoped xs (make t ps) = PiecesIn xs ps
    OpScoped xs (attempt k p ys) = AreIn xs ys
    OpScoped xs (call p c ys) = IsCallee T arities xs c (length ys) × AreIn xs ys
    OpScoped xs (block e) = IsScoped xs e
    OpScoped xs (handle e y h) = IsScoped xs e × IsScoped (y ∷ xs) h
    OpScoped xs (raise x) = IsIn xs x

    pub ArmsScoped : List ℕ → Arms → Type 0
    ArmsScoped xs no_arms = ⊤
    ArmsScoped xs (arm i e arms) = IsScoped xs e × ArmsScoped xs arms

abbrev pub arity : Fun → ℕ
arity g = length g.params

abbrev pub arities : Program → List ℕ
arities p = map arity p.funs

pub record IsWellFormed (p : Program) : Type 0 where
  pub tables : AreTables p.tables
  -- the program itself has no parameter
  pub main : slice_get (arities p) 0 ≡ Some 0
  pub scoped : AllByRecursion (λ g. IsScoped p.tables (arities p) g.params g.body) p.funs
  pub whole : AreWhole p
