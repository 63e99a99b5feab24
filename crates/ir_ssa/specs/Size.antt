-- How large a program is, which variables it binds, and how many are in scope at one place of one function.
use Rattle.std.specs.Prelude.{◌≡◌, ℕ, suc, ◌+◌, List, [], ◌∷◌, ◌++◌, length, ⊤}
use Rattle.ir_ssa.specs.Tree.{Body, Bodies, Fun, plain, make, attempt, turn, call, label, again, guard, goto, jump, branch, switch, tail, ret, raise, last, arm}

-- operations, operands and pieces, variables that are bound, arms
abbrev mutual
  pub nodes : Body → ℕ
  nodes (plain p xs x b) = 2 + length xs + nodes b
  nodes (make t ps x b) = 2 + length ps + nodes b
  nodes (attempt k p xs x a b) = 2 + length xs + nodes a + nodes b
  nodes (turn p b) = 1 + nodes b
  nodes (call p c xs x b) = 2 + length xs + nodes b
  nodes (label params a b) = 1 + length params + nodes a + nodes b
  nodes (again params a b) = 1 + length params + nodes a + nodes b
  nodes (guard l a y h) = 2 + nodes a + nodes h
  nodes (goto l xs) = 1 + length xs
  nodes (jump p l xs) = 1 + length xs
  nodes (branch q xs a b) = 1 + length xs + nodes a + nodes b
  nodes (switch x bs) = 2 + nodes_bodies bs
  nodes (tail p c xs) = 1 + length xs
  nodes (ret x) = 2
  nodes (raise x) = 2

  pub nodes_bodies : Bodies → ℕ
  nodes_bodies (last b) = nodes b
  nodes_bodies (arm i b bs) = 1 + nodes b + nodes_bodies bs

abbrev pub nodes_funs : List Fun → ℕ
nodes_funs [] = 0
nodes_funs (g ∷ funs) = 1 + length g.params + nodes g.body + nodes_funs funs

-- the variables that are bound; an attempt's is one
abbrev mutual
  pub binders : Body → List ℕ
  binders (plain p xs x b) = x ∷ binders b
  binders (make t ps x b) = x ∷ binders b
  binders (attempt k p xs x a b) = x ∷ (binders b ++ binders a)
  binders (turn p b) = binders b
  binders (call p c xs x b) = x ∷ binders b
  binders (label params a b) = params ++ (binders b ++ binders a)
  binders (again params a b) = params ++ (binders b ++ binders a)
  binders (guard l a y h) = binders a ++ (y ∷ binders h)
  binders (goto l xs) = []
  binders (jump p l xs) = []
  binders (branch q xs a b) = binders a ++ binders b
  binders (switch x bs) = binders_bodies bs
  binders (tail p c xs) = []
  binders (ret x) = []
  binders (raise x) = []

  pub binders_bodies : Bodies → List ℕ
  binders_bodies (last b) = binders b
  binders_bodies (arm i b bs) = binders b ++ binders_bodies bs

-- at most n more variables are in scope at any place
abbrev mutual
  pub FitsIn : ℕ → Body → Type 0
  FitsIn n (plain p xs x b) = (k : ℕ) × (n ≡ suc k) × FitsIn k b
  FitsIn n (make t ps x b) = (k : ℕ) × (n ≡ suc k) × FitsIn k b
  FitsIn n (attempt i p xs x a b) = (k : ℕ) × (n ≡ suc k) × (FitsIn k a × FitsIn k b)
  FitsIn n (turn p b) = FitsIn n b
  FitsIn n (call p c xs x b) = (k : ℕ) × (n ≡ suc k) × FitsIn k b
  FitsIn n (label params a b) = ((k : ℕ) × (n ≡ length params + k) × FitsIn k a) × FitsIn n b
  FitsIn n (again params a b) = ((k : ℕ) × (n ≡ length params + k) × FitsIn k a) × FitsIn n b
  FitsIn n (guard l a y h) = FitsIn n a × ((k : ℕ) × (n ≡ suc k) × FitsIn k h)
  FitsIn n (goto l xs) = ⊤
  FitsIn n (jump p l xs) = ⊤
  FitsIn n (branch q xs a b) = FitsIn n a × FitsIn n b
  FitsIn n (switch x bs) = AllFitIn n bs
  FitsIn n (tail p c xs) = ⊤
  FitsIn n (ret x) = ⊤
  FitsIn n (raise x) = ⊤

  pub AllFitIn : ℕ → Bodies → Type 0
  AllFitIn n (last b) = FitsIn n b
  AllFitIn n (arm i b bs) = FitsIn n b × AllFitIn n bs
