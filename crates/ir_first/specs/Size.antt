-- How large a program is, which variables it binds, and how many are in scope at one place of one function.
use Rattle.std.specs.Prelude.{◌≡◌, ℕ, suc, ◌+◌, List, [], ◌∷◌, ◌++◌, length, ⊤}
use Rattle.ir_first.specs.Tree.{Exp, Op, Arms, Fun, ret, let_in, turn, switch, branch, first, miss, plain, make, attempt, call, block, handle, raise, no_arms, arm}

-- operations, operands and pieces, variables that are bound, arms
abbrev mutual
  pub nodes : Exp → ℕ
  nodes (ret x) = 2
  nodes (let_in x op e) = 1 + nodes_op op + nodes e
  nodes (turn p e) = 1 + nodes e
  nodes (switch x arms) = 2 + nodes_arms arms
  nodes (branch q xs a b) = 1 + length xs + nodes a + nodes b
  nodes (first e d) = 1 + nodes e + nodes d
  nodes miss = 1

  pub nodes_op : Op → ℕ
  nodes_op (plain p xs) = 1 + length xs
  nodes_op (make t ps) = 1 + length ps
  nodes_op (attempt k p xs) = 1 + length xs
  nodes_op (call p c xs) = 1 + length xs
  nodes_op (block e) = 1 + nodes e
  nodes_op (handle e y h) = 2 + nodes e + nodes h
  nodes_op (raise x) = 2

  pub nodes_arms : Arms → ℕ
  nodes_arms no_arms = 0
  nodes_arms (arm i e arms) = 1 + nodes e + nodes_arms arms

abbrev pub nodes_funs : List Fun → ℕ
nodes_funs [] = 0
nodes_funs (g ∷ funs) = 1 + length g.params + nodes g.body + nodes_funs funs

-- the variables that are bound
abbrev mutual
  pub binders : Exp → List ℕ
  binders (ret x) = []
  binders (let_in x op e) = x ∷ (binders_op op ++ binders e)
  binders (turn p e) = binders e
  binders (switch x arms) = binders_arms arms
  binders (branch q xs a b) = binders a ++ binders b
  binders (first e d) = binders e ++ binders d
  binders miss = []

  pub binders_op : Op → List ℕ
  binders_op (plain p xs) = []
  binders_op (make t ps) = []
  binders_op (attempt k p xs) = []
  binders_op (call p c xs) = []
  binders_op (block e) = binders e
  binders_op (handle e y h) = binders e ++ (y ∷ binders h)
  binders_op (raise x) = []

  pub binders_arms : Arms → List ℕ
  binders_arms no_arms = []
  binders_arms (arm i e arms) = binders e ++ binders_arms arms

-- at most n more variables are in scope at any place
abbrev mutual
  pub FitsIn : ℕ → Exp → Type 0
  FitsIn n (ret x) = ⊤
  FitsIn n (let_in x op e) = (k : ℕ) × (n ≡ suc k) × (OpFitsIn n op × FitsIn k e)
  FitsIn n (turn p e) = FitsIn n e
  FitsIn n (switch x arms) = ArmsFitIn n arms
  FitsIn n (branch q xs a b) = FitsIn n a × FitsIn n b
  FitsIn n (first e d) = FitsIn n e × FitsIn n d
  FitsIn n miss = ⊤

  pub OpFitsIn : ℕ → Op → Type 0
  OpFitsIn n (plain p xs) = ⊤
  OpFitsIn n (make t ps) = ⊤
  OpFitsIn n (attempt k p xs) = ⊤
  OpFitsIn n (call p c xs) = ⊤
  OpFitsIn n (block e) = FitsIn n e
  OpFitsIn n (handle e y h) = FitsIn n e × ((k : ℕ) × (n ≡ suc k) × FitsIn k h)
  OpFitsIn n (raise x) = ⊤

  pub ArmsFitIn : ℕ → Arms → Type 0
  ArmsFitIn n no_arms = ⊤
  ArmsFitIn n (arm i e arms) = FitsIn n e × ArmsFitIn n arms
