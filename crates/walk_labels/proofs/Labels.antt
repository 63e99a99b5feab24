-- The labels of a body of steps are those before the rest, those of the rest, and those behind it.
use Rattle.std.proofs.Common.{◌≡◌, ℕ, ◌+◌, List, [], ◌∷◌, ◌++◌, length, sym, ap, ◌∙◌, arith, append_assoc, append-nil}
use Rattle.first_values.specs.Equality.{Shape}
use Rattle.ir_ssa.specs.Tree.{Body, arm}
use Rattle.ssa_tree.specs.TreeOf.{StepTree, plain_step, make_step, call_step, attempt_step, turn_step, label_step, again_step, when_step, unless_step, case_step, put, onto}
use Rattle.machine_code.specs.Rows.{Rows, later}
use Rattle.machine_code.specs.Code.{callee_count, choice_of, choice_size, test_arm_size, test_size}
use Rattle.walk_labels.specs.Labels.{Frame, bound, labelled, blocked, entered, entered_all, cases, size_of, arm_places, labels, arms_labels, head_size, head_sizes, end_sizes, closed, ended, closed_all, ended_all}
use Rattle.walk_labels.proofs.Sizes.{case-size, sizes-onto}

regroup : (a c l e d : List ℕ) → a ++ ((c ++ (l ++ e)) ++ d) ≡ (a ++ c) ++ (l ++ (e ++ d))
regroup a c l e d =
    ap (λ z. a ++ z) (append_assoc c (l ++ e) d) ∙ ap (λ z. a ++ (c ++ z)) (append_assoc l e d) ∙ sym (append_assoc a c (l ++ (e ++ d)))

module _ (rows : Rows) (types : List Shape) where
  pub labels-put : (pc : ℕ) (f : Frame) (g : StepTree) (b : Body) (q : ℕ) → q ≡ pc + head_size rows types f g + size_of rows types (entered f g) b
      → labels rows types pc f (put g b)
      ≡ closed rows types q pc f g ++ (labels rows types (pc + head_size rows types f g) (entered f g) b ++ ended rows types q f g)
  labels-put pc f (plain_step p xs x) b q h = sym (append-nil _)
  labels-put pc f (make_step t qs x) b q h = sym (append-nil _)
  labels-put pc f (call_step p c xs x) b q h =
      ap (λ z. labels rows types z (bound x f) b)
      (let e : pc + callee_count c (length xs) + 2 ≡ pc + (callee_count c (length xs) + 2) = omega arith in e)
      ∙ sym (append-nil _)
  labels-put pc f (attempt_step k p xs x d) b q h =
      ap (λ z. z ∷ (labels rows types (pc + rows.size k p) (bound x f) b ++ labels rows types (later (rows.late k p) z) (bound x f) d)) (sym h)
  labels-put pc f (turn_step p) b q h = sym (append-nil _)
  labels-put pc f (label_step params d) b q h =
      let here = pc + size_of rows types (labelled f) d in
      ap (λ z. here ∷ (labels rows types pc (labelled f) d ++ z)) (sym (append-nil (labels rows types here (blocked params f) b)))
  labels-put pc f (again_step params d) b q h =
      let here = pc + size_of rows types (labelled f) d in
      ap (λ z. here ∷ (labels rows types pc (labelled f) d ++ z)) (sym (append-nil (labels rows types here (blocked params (labelled f)) b)))
  labels-put pc f (when_step t xs d) b q h =
      ap (λ z. z ∷ (labels rows types (pc + test_size rows types t) f b ++ labels rows types z f d)) (sym h)
  labels-put pc f (unless_step t xs d) b q h =
      let here = pc + test_size rows types t + size_of rows types f d in
      let same : here ≡ pc + (test_size rows types t + size_of rows types f d) = omega arith in
      ap (λ z. here ∷ (labels rows types (pc + test_size rows types t) f d ++ z))
      (ap (λ z. labels rows types z f b) same ∙ sym (append-nil _))
  labels-put pc f (case_step x i others) b q h =
      let how = choice_of (cases i others) in
      let n = choice_size how (arm i b others) in
      let m = choice_size how (cases i others) in
      let same : n ≡ m = case-size how i b others in
      let first : pc + n + test_arm_size how ≡ pc + (m + test_arm_size how) = omega (arith, same) in
      let behind : pc + n + test_arm_size how + size_of rows types f b ≡ q = omega (arith, same, h) in
      ap (λ z. ((pc + z) ∷ arm_places rows types how (pc + n + test_arm_size how + size_of rows types f b) f others)
      ++ (labels rows types (pc + n + test_arm_size how) f b ++ arms_labels rows types how (pc + n + test_arm_size how + size_of rows types f b) f others)) same
      ∙ ap (λ z. ((pc + m) ∷ arm_places rows types how z f others) ++ (labels rows types (pc + n + test_arm_size how) f b ++ arms_labels rows types how z f others)) behind
      ∙ ap (λ z. ((pc + m) ∷ arm_places rows types how q f others) ++ (labels rows types z f b ++ arms_labels rows types how q f others)) first

  pub labels-onto : (pc : ℕ) (f : Frame) (gs : List StepTree) (b : Body) (q : ℕ) → q ≡ pc + head_sizes rows types f gs + size_of rows types (entered_all f gs) b
      → labels rows types pc f (onto gs b)
      ≡ closed_all rows types q pc f gs ++ (labels rows types (pc + head_sizes rows types f gs) (entered_all f gs) b ++ ended_all rows types q f gs)
  labels-onto pc f [] b q h =
      ap (λ z. labels rows types z f b) (let e : pc ≡ pc + 0 = omega arith in e) ∙ sym (append-nil _)
  labels-onto pc f (g ∷ gs) b q h =
      let inner = entered f g in
      let at = pc + head_size rows types f g in
      let far = q + end_sizes rows types inner gs in
      let place : at + head_sizes rows types inner gs ≡ pc + (head_size rows types f g + head_sizes rows types inner gs) = omega arith in
      labels-put pc f g (onto gs b) far (omega (arith, h, sizes-onto rows types inner gs b))
      ∙ ap (λ z. closed rows types far pc f g ++ (z ++ ended rows types far f g)) (labels-onto at inner gs b q (omega (arith, h)))
      ∙ regroup (closed rows types far pc f g) (closed_all rows types q at inner gs) (labels rows types (at + head_sizes rows types inner gs) (entered_all inner gs) b)
      (ended_all rows types q inner gs) (ended rows types far f g)
      ∙ ap (λ z. (closed rows types far pc f g ++ closed_all rows types q at inner gs)
      ++ (labels rows types z (entered_all inner gs) b ++ (ended_all rows types q inner gs ++ ended rows types far f g))) place
