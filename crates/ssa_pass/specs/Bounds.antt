-- How many variables are in scope at one place of one function.
use Rattle.std.specs.Prelude.{◌≡◌, ℕ, ◌+◌, length}
use Rattle.std.specs.List.{AllByRecursion}
use Rattle.ir_first.specs.Tree as f
use Rattle.ir_first.specs.Size as f_size
use Rattle.ir_ssa.specs.Tree as s
use Rattle.ir_ssa.specs.Size as s_size

-- at most n, with the function's parameters
abbrev pub FunFitsBefore : ℕ → f.Fun → Type 0
FunFitsBefore n g = (k : ℕ) × (n ≡ length g.params + k) × f_size.FitsIn k g.body

abbrev pub FitBefore : ℕ → f.Program → Type 0
FitBefore n p = AllByRecursion (FunFitsBefore n) p.funs

abbrev pub FunFitsAfter : ℕ → s.Fun → Type 0
FunFitsAfter n g = (k : ℕ) × (n ≡ length g.params + k) × s_size.FitsIn k g.body

abbrev pub FitAfter : ℕ → s.Program → Type 0
FitAfter n p = AllByRecursion (FunFitsAfter n) p.funs
