-- What is claimed of the tree of every kind.
use Rattle.std.specs.Prelude.{◌≡◌, ℕ, ◌≤◌, true, List, []}
use Rattle.ir_values.specs.of_mlc_runs.Run.{World, gives, fail}
use Rattle.ir_plain.specs.Kind.{Kind}
use Rattle.ir_plain.specs.Tree.{Exp, is_value, Op, is_value_op}
use Rattle.ir_plain.specs.Meaning.{V, Scope, Apply, eval, eval_op, run_at, run}
use Rattle.ir_plain.specs.Copies.{strip, strip_op}
use Rattle.ir_plain.specs.Once.{IsOnce}
use Rattle.ir_plain.specs.Unique.{IsUnique}
use Rattle.ir_plain.specs.Weight.{weight}

-- where a value gives v, its stripped copy gives v in every world with the same store, which stays as it is
abbrev pub CopiesGive : Kind → Type 0
CopiesGive F =
    (call : Apply F) (e : Exp F) → is_value e ≡ true → (env : Scope F) (w w' u : World (V F)) (v : V F) → w.store ≡ u.store
    → eval call e env w fail ≡ gives v w' → eval call (strip e) env u fail ≡ gives v u

-- the same of an operation, in the world in which it ended
abbrev pub OperationsAgain : Kind → Type 0
OperationsAgain F =
    (call : Apply F) (o : Op F) → is_value_op o ≡ true → (env : Scope F) (w w' : World (V F)) (v : V F) → eval_op call o env w ≡ gives v w'
    → eval_op call (strip_op o) env w' ≡ gives v w'

-- a copy stands for as many nodes
abbrev pub CopiesWeigh : Kind → Type 0
CopiesWeigh F = (e : Exp F) → weight (strip e) ≡ weight e

-- where each variable is bound once, none is bound where it is bound already
abbrev pub OnceIsUnique : Kind → Type 0
OnceIsUnique F = (number : F.Binder → ℕ) (e : Exp F) → IsOnce number e → IsUnique number [] e

-- as much fuel as turns is enough: calls that may nest deeper change nothing
abbrev pub FuelIsEnough : Kind → Type 0
FuelIsEnough F = (k m : ℕ) → m ≤ k → (initial : List ℕ) (e : Exp F) → run_at k initial e m ≡ run initial e m
