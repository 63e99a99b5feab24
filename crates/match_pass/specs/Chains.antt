-- Infix operators that wait for their operands.
use Rattle.std.specs.Prelude.{◌≡◌, ℕ, List, [], ◌∷◌, map, reverse}
use Rattle.ir_poly.specs.Prog as t
use Rattle.plain_tree.specs.declared.tree.Step.{Step}
use Rattle.prog_tree.specs.TreeOf.{Reading}
use Rattle.prog_tree.specs.declared.tree.Exp.{Exp}
use Rattle.prog_tree.specs.declared.tree.Join.{Join}
use Rattle.general_bindings.specs.of_match_types.declared.work.Work.{Work}
use Rattle.general_bindings.specs.of_exp_steps.Making.{Makes}
use Rattle.general_bindings.specs.of_exp_steps.Joining.{Opens, joined}
use Rattle.general_bindings.specs.of_exp_steps.declared.joins.Opening.{Opening}
use Rattle.match_pass.specs.Reading.{expression, left_chain}

-- the operators of a chain, the last first
abbrev pub last_first : List (Join × Exp × Exp) → List Join
last_first js = reverse (map (λ j. j.0) js)

-- those of a chain to the left, the innermost first
pub data LeftOpen (start : Work) (before : List Step) : List (Join × Exp × Exp) → List Opening → Work → List Step → Type 0 where
  none : LeftOpen start before [] [] start before
  inner : {js : List (Join × Exp × Exp)} {os : List Opening} {w w1 : Work} {s s1 : List Step} (j : Join × Exp × Exp) (o : Opening)
      → LeftOpen start before js os w s → Opens w w1 s s1 (expression j.1) o → LeftOpen start before (j ∷ js) (o ∷ os) w1 s1

-- the operands of some were made; the others, js, still wait
pub record LeftMade (start now : Work) (before after : List Step) (e : Reading → t.Exp) (done js : List (Join × Exp × Exp)) (os : List Opening) (a : ℕ) : Type 0 where
  pub work : Work
  pub steps : List Step
  pub waits : LeftOpen start before js os work steps
  pub made : Makes work now steps after (left_chain e done) a

-- those of a chain to the right, each with the value of its left operand, the innermost first; rest is what is to be made of the whole
pub data RightOpen (start : Work) (before : List Step) (whole : Reading → t.Exp) : List (Opening × ℕ) → List Join → (rest : Reading → t.Exp) → Work → List Step → Type 0 where
  none : RightOpen start before whole [] [] whole start before
  inner : {os : List (Opening × ℕ)} {js : List Join} {rest : Reading → t.Exp} {w v w1 : Work} {s m s1 : List Step} {f d : Reading → t.Exp} (j : Join) (o : Opening) (x : ℕ) (e : Reading → t.Exp)
      → RightOpen start before whole os js rest w s → Opens w v s m f o → Makes v w1 m s1 d x → ((R : Reading) → joined j f d e R ≡ rest R) → RightOpen start before whole ((o, x) ∷ os) (j ∷ js) e w1 s1

-- what was made of the rest
pub record RightMade (start now : Work) (before after : List Step) (whole : Reading → t.Exp) (os : List (Opening × ℕ)) (js : List Join) (a : ℕ) : Type 0 where
  pub work : Work
  pub steps : List Step
  pub rest : Reading → t.Exp
  pub waits : RightOpen start before whole os js rest work steps
  pub made : Makes work now steps after rest a
