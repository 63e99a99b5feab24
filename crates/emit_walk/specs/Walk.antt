-- The code of steps: what is before the rest of a body, and what stands behind it.
use Rattle.std.specs.Prelude.{◌≡◌, ℕ, suc, ◌+◌, List, [], ◌∷◌, ◌++◌, length, map, drop, get_or}
use Rattle.ir_code.specs.declared.instr.Instr.{Instr}
use Rattle.ir_code.specs.declared.instr.Instr.TheVariants.{Jmp, Call as CallRow, Acc}
use Rattle.ir_ssa.specs.Tree.{Body, Bodies, last, arm, ret}
use Rattle.ssa_tree.specs.TreeOf.{StepTree, ArmTree, bodies_of, plain_step, make_step, call_step, attempt_step, turn_step, label_step, again_step, when_step}
use Rattle.ssa_tree.specs.TreeOf.{unless_step, case_step}
use Rattle.machine_routines.specs.FindCode as find
use Rattle.machine_code.specs.Rows.{late_code, later}
use Rattle.machine_code.specs.Code.{Places, Scope, Spot, Choice, slot, depth_in, depths_in, with_params, args_of, callee_count, callee_at, count, arms_end}
use Rattle.machine_code.specs.Code.{choice_of, choice_size, test_arm_size, plain_size, make_size, test_size, body_size, block_at, block_place, plain_code}
use Rattle.machine_code.specs.Code.{make_code, push_code, test_code, test_arm_code, choice_code, code_at, arms_at}
use Rattle.emit_parts.specs.Labels.{spots_of}
use Rattle.emit_walk.specs.declared.body.Pass.{Pass}

-- a place in a body: how much code there is before it, how many words of the frame are in use, where variables are, and the labels
pub record Env : Type 0 where
  pub pc : ℕ
  pub depth : ℕ
  pub scope : Scope
  pub spots : List Spot

abbrev pub env_of : Pass → Env
env_of p = record { pc = length p.code.items; depth = p.depth; scope = p.slots; spots = spots_of p.spots.items }

-- the same words of the frame are in use, variables are where they were, and the labels are those
pub record Kept (e f : Env) : Type 0 where
  pub depth : f.depth ≡ e.depth
  pub scope : f.scope ≡ e.scope
  pub spots : f.spots ≡ e.spots

module _ (at : Places) where
  abbrev pub code_in : Env → Body → List Instr
  code_in e b = code_at at e.pc e.depth e.scope e.spots b

  abbrev pub size_in : Env → Body → ℕ
  size_in e b = body_size at e.depth e.scope e.spots b

  -- past so many instructions
  abbrev pub past : ℕ → Env → Env
  past n e = record { pc = e.pc + n; depth = e.depth; scope = e.scope; spots = e.spots }

  -- .. which give a variable
  abbrev pub bound : ℕ → ℕ → Env → Env
  bound x n e = record { pc = e.pc + n; depth = suc e.depth; scope = (x, e.depth) ∷ e.scope; spots = e.spots }

  abbrev pub block_in : Env → Body → ℕ
  block_in e b = block_place at e.pc e.depth e.scope e.spots b

  -- the label of a block behind a body
  abbrev pub spot_in : Env → Body → Spot
  spot_in e b = block_at (block_in e b) e.depth

  -- in the block, with its parameters
  abbrev pub blocked : List ℕ → List Spot → Env → Body → Env
  blocked params spots e b =
      record { pc = block_in e b; depth = e.depth + length params; scope = with_params params e.depth e.scope; spots = spots }

  -- all arms of a switch whose first one is the rest
  abbrev pub cases : ℕ → Bodies → Bodies
  cases i others = arm i (ret 0) others

  -- at the rest of a body, after a step
  abbrev pub after : Env → StepTree → Env
  after e (plain_step p xs x) = bound x (plain_size at.rows at.types p) e
  after e (make_step t qs x) = bound x (make_size t qs) e
  after e (call_step p c xs x) = bound x 2 (past (callee_count c (length xs)) e)
  after e (attempt_step k p xs x d) = bound x (at.rows.size k p) e
  after e (turn_step p) = past 1 e
  after e (label_step params d) = blocked params e.spots e d
  after e (again_step params d) = blocked params (spot_in e d ∷ e.spots) e d
  after e (when_step q xs d) = past (test_size at.rows at.types q) e
  after e (unless_step q xs d) = past (size_in e d) (past (test_size at.rows at.types q) e)
  after e (case_step x i others) =
      past (test_arm_size (choice_of (cases i others))) (past (choice_size (choice_of (cases i others)) (cases i others)) e)

  abbrev pub after_all : Env → List StepTree → Env
  after_all e [] = e
  after_all e (g ∷ gs) = after_all (after e g) gs

  -- what stands behind the rest of a body, from a place on
  abbrev pub behind : Env → StepTree → ℕ → List Instr
  behind e (plain_step p xs x) q = []
  behind e (make_step t qs x) q = []
  behind e (call_step p c xs x) q = []
  behind e (attempt_step k p xs x d) q =
      late_code (at.rows.late k p) at.packet_at (slot e.depth) ++ code_at at (later (at.rows.late k p) q) (suc e.depth) ((x, e.depth) ∷ e.scope) e.spots d
  behind e (turn_step p) q = []
  behind e (label_step params d) q = []
  behind e (again_step params d) q = []
  behind e (when_step t xs d) q = code_at at q e.depth e.scope e.spots d
  behind e (unless_step t xs d) q = []
  behind e (case_step x i others) q = arms_at at q e.depth e.scope e.spots (choice_of (cases i others)) others

  -- of the last step first
  abbrev pub behind_all : Env → List StepTree → ℕ → List Instr
  behind_all e [] q = []
  behind_all e (g ∷ gs) q = behind_all (after e g) gs q ++ behind e g (q + length (behind_all (after e g) gs q))

  module _ (label : ℕ → ℕ) where
    -- arms stand where the labels from a number on say
    abbrev pub Stand : ℕ → ℕ → Env → Choice → Bodies → Type 0
    Stand n q e how (last b) = label n ≡ q
    Stand n q e how (arm i b bs) = (label n ≡ q) × Stand (suc n) (q + test_arm_size how + size_in e b) e how bs

    -- the code `now` is `old` and the arms behind it, whatever last body stands behind them, where the label of number `n` says
    abbrev pub ArmsBefore : Choice → List ArmTree → (first n : ℕ) → Env → (old now : List Instr) → Type 0
    ArmsBefore how arms first n e old now =
        (l : Body) → label n ≡ length now
        → (old ++ arms_at at (length old) e.depth e.scope e.spots how (bodies_of arms l) ≡ now ++ code_at at (length now) e.depth e.scope e.spots l)
        × Stand first (length old) e how (bodies_of arms l)

    -- arms by the labels from a number on
    abbrev pub by_labels : ℕ → Bodies → List find.Target
    by_labels n (last b) = []
    by_labels n (arm i b bs) = record { tag = i; place = label n } ∷ by_labels (suc n) bs

    -- what is before the rest of a body, where the label of this number is behind it
    abbrev pub before : Env → ℕ → StepTree → List Instr
    before e n (plain_step p xs x) = plain_code at e.pc e.depth p (depths_in xs e.scope)
    before e n (make_step t qs x) = make_code e.depth t e.scope qs
    before e n (call_step p c xs x) =
        push_code (suc (suc e.depth)) (args_of c e.scope xs) ++ (CallRow (callee_at at c) (slot e.depth) ∷ Acc (slot e.depth) ∷ [])
    before e n (attempt_step k p xs x d) = at.rows.code k p at.packet_at e.pc (slot e.depth) (label n) (map slot (depths_in xs e.scope))
    before e n (turn_step p) = Jmp (e.pc + 1) ∷ []
    before e n (label_step params d) = code_at at e.pc e.depth e.scope (spot_in e d ∷ e.spots) d
    before e n (again_step params d) = code_at at e.pc e.depth e.scope (spot_in e d ∷ e.spots) d
    before e n (when_step q xs d) = test_code at e.pc e.depth q (depths_in xs e.scope) (label n)
    before e n (unless_step q xs d) =
        test_code at e.pc e.depth q (depths_in xs e.scope) (e.pc + test_size at.rows at.types q + size_in e d)
        ++ code_at at (e.pc + test_size at.rows at.types q) e.depth e.scope e.spots d
    before e n (case_step x i others) =
        choice_code e.pc e.depth (depth_in x e.scope) (choice_of (cases i others)) (arms_end (cases i others)) (by_labels n (cases i others))
        (label (n + count (cases i others)))
        ++ test_arm_code (choice_of (cases i others)) e.depth i (label (suc n))

    -- numbers one for each step; 0 where there is none
    abbrev pub before_all : Env → List ℕ → List StepTree → List Instr
    before_all e ns [] = []
    before_all e ns (g ∷ gs) = before e (get_or ns 0 0) g ++ before_all (after e g) (drop 1 ns) gs

    -- the first arm of a switch stands where the label of this number says
    abbrev pub Begins : Env → ℕ → StepTree → Type 0
    Begins e n (case_step x i others) = label n ≡ e.pc + choice_size (choice_of (cases i others)) (cases i others)
    Begins e n g = Unit {0}

    -- what is behind the rest of a body stands where the labels from this number on say
    abbrev pub Ends : Env → ℕ → StepTree → ℕ → Type 0
    Ends e n (attempt_step k p xs x d) q = label n ≡ q
    Ends e n (when_step t xs d) q = label n ≡ q
    Ends e n (case_step x i others) q = Stand (suc n) q e (choice_of (cases i others)) others
    Ends e n g q = Unit {0}

    abbrev pub BeginAll : Env → List ℕ → List StepTree → Type 0
    BeginAll e ns [] = Unit {0}
    BeginAll e ns (g ∷ gs) = Begins e (get_or ns 0 0) g × BeginAll (after e g) (drop 1 ns) gs

    abbrev pub EndAll : Env → List ℕ → List StepTree → ℕ → Type 0
    EndAll e ns [] q = Unit {0}
    EndAll e ns (g ∷ gs) q = EndAll (after e g) (drop 1 ns) gs q × Ends e (get_or ns 0 0) g (q + length (behind_all (after e g) gs q))
