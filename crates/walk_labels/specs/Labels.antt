-- Where the labels of a body stand, in the order in which a walk meets them.
use Rattle.std.specs.Prelude.{◌≡◌, ℕ, zero, suc, ◌+◌, ◌<◌, List, [], ◌∷◌, ◌++◌, length, get_or}
use Rattle.first_values.specs.Equality.{Shape}
use Rattle.ir_ssa.specs.Tree.{Body, Bodies, plain, make, attempt, turn, call, label, again, guard, goto, jump, branch, switch, tail, ret, raise, last, arm}
use Rattle.ssa_tree.specs.TreeOf.{StepTree, ArmTree, plain_step, make_step, call_step, attempt_step, turn_step, label_step, again_step, when_step, unless_step, case_step}
use Rattle.machine_code.specs.Rows.{Rows, late_size, later}
use Rattle.machine_code.specs.Code.{Scope, Exit, exit_at, left, no_exit, with_params, Choice, choice_of, choice_size, test_arm_size, callee_count, count, make_size, plain_size, test_size, size, arms_size}

-- what the size of a body depends on: how many words of the frame are in use, where variables are, and the labels
pub record Frame : Type 0 where
  pub depth : ℕ
  pub scope : Scope
  pub exits : List Exit

-- with a variable more
abbrev pub bound : ℕ → Frame → Frame
bound x f = record { depth = suc f.depth; scope = (x, f.depth) ∷ f.scope; exits = f.exits }

-- with a label more
abbrev pub labelled : Frame → Frame
labelled f = record { depth = f.depth; scope = f.scope; exits = exit_at f.depth ∷ f.exits }

-- with these parameters
abbrev pub blocked : List ℕ → Frame → Frame
blocked params f = record { depth = f.depth + length params; scope = with_params params f.depth f.scope; exits = f.exits }

-- under a handler, which a label leaves
abbrev pub guarded : ℕ → Frame → Frame
guarded l f = record { depth = f.depth + 3; scope = f.scope; exits = left (get_or f.exits l no_exit) ∷ [] }

-- at the rest of a body, after a step
abbrev pub entered : Frame → StepTree → Frame
entered f (plain_step p xs x) = bound x f
entered f (make_step t qs x) = bound x f
entered f (call_step p c xs x) = bound x f
entered f (attempt_step k p xs x d) = bound x f
entered f (turn_step p) = f
entered f (label_step params d) = blocked params f
entered f (again_step params d) = blocked params (labelled f)
entered f (when_step q xs d) = f
entered f (unless_step q xs d) = f
entered f (case_step x i others) = f

abbrev pub entered_all : Frame → List StepTree → Frame
entered_all f [] = f
entered_all f (g ∷ gs) = entered_all (entered f g) gs

-- all arms of a switch whose first one is the rest
abbrev pub cases : ℕ → Bodies → Bodies
cases i others = arm i (ret 0) others

-- labels that have no place yet
abbrev pub blank : ℕ → List ℕ
blank zero = []
blank (suc n) = 0 ∷ blank n

-- the number of its label, if it has one that stands behind the rest, where n labels were met before
abbrev pub number_of : ℕ → StepTree → ℕ
number_of n (attempt_step k p xs x d) = n
number_of n (when_step q xs d) = n
number_of n (case_step x i others) = n
number_of n g = 0

module _ (rows : Rows) (types : List Shape) where
  abbrev pub size_of : Frame → Body → ℕ
  size_of f b = size rows types f.depth f.scope f.exits b

  abbrev pub arms_size_of : Choice → Frame → Bodies → ℕ
  arms_size_of how f bs = arms_size rows types how f.depth f.scope f.exits bs

  -- of arms that stand one behind the other, and of the last body
  abbrev pub arm_places : Choice → ℕ → Frame → Bodies → List ℕ
  arm_places how pc f (last b) = pc ∷ []
  arm_places how pc f (arm i b bs) = pc ∷ arm_places how (pc + test_arm_size how + size_of f b) f bs

  -- of a body at this place
  abbrev mutual
    pub labels : ℕ → Frame → Body → List ℕ
    labels pc f (plain p xs x b) = labels (pc + plain_size rows types p) (bound x f) b
    labels pc f (make t qs x b) = labels (pc + make_size t qs) (bound x f) b
    labels pc f (attempt k p xs x a b) =
        (pc + rows.size k p + size_of (bound x f) a)
        ∷ (labels (pc + rows.size k p) (bound x f) a ++ labels (later (rows.late k p) (pc + rows.size k p + size_of (bound x f) a)) (bound x f) b)
    labels pc f (turn p b) = labels (pc + 1) f b
    labels pc f (call p c xs x b) = labels (pc + callee_count c (length xs) + 2) (bound x f) b
    labels pc f (label params a b) =
        (pc + size_of (labelled f) b) ∷ (labels pc (labelled f) b ++ labels (pc + size_of (labelled f) b) (blocked params f) a)
    labels pc f (again params a b) =
        (pc + size_of (labelled f) b) ∷ (labels pc (labelled f) b ++ labels (pc + size_of (labelled f) b) (blocked params (labelled f)) a)
    labels pc f (guard l a y h) =
        (pc + 1 + size_of (guarded l f) a) ∷ (labels (pc + 1) (guarded l f) a ++ labels (pc + 2 + size_of (guarded l f) a) (bound y f) h)
    labels pc f (goto l xs) = []
    labels pc f (jump p l xs) = []
    labels pc f (branch q xs a b) =
        (pc + test_size rows types q + size_of f a)
        ∷ (labels (pc + test_size rows types q) f a ++ labels (pc + test_size rows types q + size_of f a) f b)
    labels pc f (switch x bs) =
        arm_places (choice_of bs) (pc + choice_size (choice_of bs) bs) f bs ++ arms_labels (choice_of bs) (pc + choice_size (choice_of bs) bs) f bs
    labels pc f (tail p c xs) = []
    labels pc f (ret x) = []
    labels pc f (raise x) = []

    pub arms_labels : Choice → ℕ → Frame → Bodies → List ℕ
    arms_labels how pc f (last b) = labels pc f b
    arms_labels how pc f (arm i b bs) = labels (pc + test_arm_size how) f b ++ arms_labels how (pc + test_arm_size how + size_of f b) f bs

  -- A step: how long the code before the rest of the body is, and how long the code behind it.

  abbrev pub head_size : Frame → StepTree → ℕ
  head_size f (plain_step p xs x) = plain_size rows types p
  head_size f (make_step t qs x) = make_size t qs
  head_size f (call_step p c xs x) = callee_count c (length xs) + 2
  head_size f (attempt_step k p xs x d) = rows.size k p
  head_size f (turn_step p) = 1
  head_size f (label_step params d) = size_of (labelled f) d
  head_size f (again_step params d) = size_of (labelled f) d
  head_size f (when_step q xs d) = test_size rows types q
  head_size f (unless_step q xs d) = test_size rows types q + size_of f d
  head_size f (case_step x i others) = choice_size (choice_of (cases i others)) (cases i others) + test_arm_size (choice_of (cases i others))

  abbrev pub end_size : Frame → StepTree → ℕ
  end_size f (plain_step p xs x) = 0
  end_size f (make_step t qs x) = 0
  end_size f (call_step p c xs x) = 0
  end_size f (attempt_step k p xs x d) = late_size (rows.late k p) + size_of (bound x f) d
  end_size f (turn_step p) = 0
  end_size f (label_step params d) = 0
  end_size f (again_step params d) = 0
  end_size f (when_step q xs d) = size_of f d
  end_size f (unless_step q xs d) = 0
  end_size f (case_step x i others) = arms_size_of (choice_of (cases i others)) f others

  -- the labels that it meets before the rest: those that stand behind the rest have no place yet
  abbrev pub opened : ℕ → Frame → StepTree → List ℕ
  opened pc f (plain_step p xs x) = []
  opened pc f (make_step t qs x) = []
  opened pc f (call_step p c xs x) = []
  opened pc f (attempt_step k p xs x d) = 0 ∷ []
  opened pc f (turn_step p) = []
  opened pc f (label_step params d) = (pc + size_of (labelled f) d) ∷ labels pc (labelled f) d
  opened pc f (again_step params d) = (pc + size_of (labelled f) d) ∷ labels pc (labelled f) d
  opened pc f (when_step q xs d) = 0 ∷ []
  opened pc f (unless_step q xs d) = (pc + test_size rows types q + size_of f d) ∷ labels (pc + test_size rows types q) f d
  opened pc f (case_step x i others) = (pc + choice_size (choice_of (cases i others)) (cases i others)) ∷ blank (suc (count others))

  -- .. when they have, where q is behind the rest
  abbrev pub closed : ℕ → ℕ → Frame → StepTree → List ℕ
  closed q pc f (plain_step p xs x) = []
  closed q pc f (make_step t qs x) = []
  closed q pc f (call_step p c xs x) = []
  closed q pc f (attempt_step k p xs x d) = q ∷ []
  closed q pc f (turn_step p) = []
  closed q pc f (label_step params d) = (pc + size_of (labelled f) d) ∷ labels pc (labelled f) d
  closed q pc f (again_step params d) = (pc + size_of (labelled f) d) ∷ labels pc (labelled f) d
  closed q pc f (when_step t xs d) = q ∷ []
  closed q pc f (unless_step t xs d) = (pc + test_size rows types t + size_of f d) ∷ labels (pc + test_size rows types t) f d
  closed q pc f (case_step x i others) =
      (pc + choice_size (choice_of (cases i others)) (cases i others)) ∷ arm_places (choice_of (cases i others)) q f others

  -- the labels that it meets behind the rest, which is at q
  abbrev pub ended : ℕ → Frame → StepTree → List ℕ
  ended q f (plain_step p xs x) = []
  ended q f (make_step t qs x) = []
  ended q f (call_step p c xs x) = []
  ended q f (attempt_step k p xs x d) = labels (later (rows.late k p) q) (bound x f) d
  ended q f (turn_step p) = []
  ended q f (label_step params d) = []
  ended q f (again_step params d) = []
  ended q f (when_step t xs d) = labels q f d
  ended q f (unless_step t xs d) = []
  ended q f (case_step x i others) = arms_labels (choice_of (cases i others)) q f others

  -- All steps of a body.

  abbrev pub head_sizes : Frame → List StepTree → ℕ
  head_sizes f [] = 0
  head_sizes f (g ∷ gs) = head_size f g + head_sizes (entered f g) gs

  abbrev pub end_sizes : Frame → List StepTree → ℕ
  end_sizes f [] = 0
  end_sizes f (g ∷ gs) = end_sizes (entered f g) gs + end_size f g

  abbrev pub opened_all : ℕ → Frame → List StepTree → List ℕ
  opened_all pc f [] = []
  opened_all pc f (g ∷ gs) = opened pc f g ++ opened_all (pc + head_size f g) (entered f g) gs

  abbrev pub closed_all : ℕ → ℕ → Frame → List StepTree → List ℕ
  closed_all q pc f [] = []
  closed_all q pc f (g ∷ gs) = closed (q + end_sizes (entered f g) gs) pc f g ++ closed_all q (pc + head_size f g) (entered f g) gs

  abbrev pub ended_all : ℕ → Frame → List StepTree → List ℕ
  ended_all q f [] = []
  ended_all q f (g ∷ gs) = ended_all q (entered f g) gs ++ ended (q + end_sizes (entered f g) gs) f g

  abbrev pub numbers_of : ℕ → ℕ → Frame → List StepTree → List ℕ
  numbers_of n pc f [] = []
  numbers_of n pc f (g ∷ gs) = number_of n g ∷ numbers_of (n + length (opened pc f g)) (pc + head_size f g) (entered f g) gs

  -- Arms that stand one behind the other, without the last body.

  abbrev pub arms_from : Choice → ℕ → Frame → List ArmTree → List ℕ
  arms_from how q f [] = []
  arms_from how q f (a ∷ as_) = q ∷ arms_from how (q + test_arm_size how + size_of f a.body) f as_

  abbrev pub arms_within : Choice → ℕ → Frame → List ArmTree → List ℕ
  arms_within how q f [] = []
  arms_within how q f (a ∷ as_) = labels (q + test_arm_size how) f a.body ++ arms_within how (q + test_arm_size how + size_of f a.body) f as_

  abbrev pub arms_long : Choice → Frame → List ArmTree → ℕ
  arms_long how f [] = 0
  arms_long how f (a ∷ as_) = test_arm_size how + size_of f a.body + arms_long how f as_

-- from a number on labels have these places
abbrev pub Told : List ℕ → ℕ → List ℕ → Type 0
Told all n ls = (k : ℕ) → k < length ls → get_or all (n + k) 0 ≡ get_or ls k 0
