-- Which programs are well formed: what is named is there, each goto gives as many values as the label takes, each call as many as the function takes, and a
-- function returns outside its handlers alone. There are no types: that a program is never wrong comes from the forms before.
use Rattle.std.specs.Prelude.{◌≡◌, ℕ, Bool, true, false, List, [], ◌∷◌, ◌++◌, length, map, Some, slice_get}
use Rattle.std.specs.List.{AllByRecursion}
use Rattle.first_values.specs.Operations.{Tables}
use Rattle.first_values.specs.WellFormed.{IsIn, AreIn, PiecesIn, IsPlain, IsTest, IsCallee, AreTables}
use Rattle.ir_ssa.specs.Tree.{Body, Bodies, Fun, Program, plain, make, attempt, turn, call, label, again, guard, goto, jump, branch, switch, tail, ret, raise, last, arm}

-- how many values a label takes, and whether it is one that only a jump goes to
pub record Label : Type 0 where
  pub takes : ℕ
  pub loops : Bool

-- a label that takes n values, and that a goto may go to
abbrev pub IsForward : List Label → ℕ → ℕ → Type 0
IsForward ls l n = slice_get ls l ≡ Some (record { takes = n; loops = false })

abbrev pub IsLabel : List Label → ℕ → ℕ → Type 0
IsLabel ls l n = (loops : Bool) × (slice_get ls l ≡ Some (record { takes = n; loops = loops }))

module _ (T : Tables) (arities : List ℕ) where
  -- where these variables and labels are in scope, outside a handler or (true) inside
  abbrev mutual
    pub IsScoped : List ℕ → List Label → Bool → Body → Type 0
    IsScoped xs ls g (plain p ys x b) = (IsPlain T p (length ys) × AreIn xs ys) × IsScoped (x ∷ xs) ls g b
    IsScoped xs ls g (make t ps x b) = PiecesIn xs ps × IsScoped (x ∷ xs) ls g b
    IsScoped xs ls g (attempt k p ys x a b) = AreIn xs ys × (IsScoped (x ∷ xs) ls g a × IsScoped (x ∷ xs) ls g b)
    IsScoped xs ls g (turn p b) = IsScoped xs ls g b
    IsScoped xs ls g (call p c ys x b) = (IsCallee T arities xs c (length ys) × AreIn xs ys) × IsScoped (x ∷ xs) ls g b
    IsScoped xs ls g (label params a b) = IsScoped (params ++ xs) ls g a × IsScoped xs (record { takes = length params; loops = false } ∷ ls) g b
    IsScoped xs ls g (again params a b) =
        IsScoped (params ++ xs) (record { takes = length params; loops = true } ∷ ls) g a
        × IsScoped xs (record { takes = length params; loops = true } ∷ ls) g b
    IsScoped xs ls g (guard l a y h) = ((label_of : Label) × (slice_get ls l ≡ Some label_of) × IsScoped xs (label_of ∷ []) true a) × IsScoped (y ∷ xs) ls g h
    IsScoped xs ls g (goto l ys) = IsForward ls l (length ys) × AreIn xs ys
    IsScoped xs ls g (jump p l ys) = IsLabel ls l (length ys) × AreIn xs ys
    IsScoped xs ls g (branch q ys a b) = (IsTest T q (length ys) × AreIn xs ys) × (IsScoped xs ls g a × IsScoped xs ls g b)
    IsScoped xs ls g (switch x bs) = IsIn xs x × AllScoped xs ls g bs
    IsScoped xs ls g (tail p c ys) = (g ≡ false) × (IsCallee T arities xs c (length ys) × AreIn xs ys)
    IsScoped xs ls g (ret x) = (g ≡ false) × IsIn xs x
    IsScoped xs ls g (raise x) = IsIn xs x

    pub AllScoped : List ℕ → List Label → Bool → Bodies → Type 0
    AllScoped xs ls g (last b) = IsScoped xs ls g b
    AllScoped xs ls g (arm i b bs) = IsScoped xs ls g b × AllScoped xs ls g bs

abbrev pub arity : Fun → ℕ
arity g = length g.params

abbrev pub arities : Program → List ℕ
arities p = map arity p.funs

pub record IsWellFormed (p : Program) : Type 0 where
  pub tables : AreTables p.tables
  -- the program itself has no parameter
  pub main : slice_get (arities p) 0 ≡ Some 0
  pub scoped : AllByRecursion (λ g. IsScoped p.tables (arities p) g.params [] false g.body) p.funs
