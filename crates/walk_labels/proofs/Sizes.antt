-- A body of steps is as long as what is before the rest, the rest, and what is behind it.
use Rattle.std.proofs.Common.{◌≡◌, refl, ℕ, zero, suc, ◌+◌, List, [], ◌∷◌, length, sym, ap, ◌∙◌, arith, length-append}
use Rattle.first_values.specs.Equality.{Shape}
use Rattle.ir_ssa.specs.Tree.{Body, Bodies, last, arm}
use Rattle.ssa_tree.specs.TreeOf.{StepTree, plain_step, make_step, call_step, attempt_step, turn_step, label_step, again_step, when_step, unless_step, case_step, put, onto}
use Rattle.machine_code.specs.Rows.{Rows}
use Rattle.machine_code.specs.Code.{Choice, by_table, by_search, by_tests, choice_of, choice_size, test_arm_size, count}
use Rattle.walk_labels.specs.Labels.{Frame, entered, entered_all, cases, blank, size_of, arm_places, head_size, end_size, head_sizes, end_sizes, opened, closed, opened_all, closed_all}

pub case-size : (how : Choice) (i : ℕ) (b : Body) (bs : Bodies) → choice_size how (arm i b bs) ≡ choice_size how (cases i bs)
case-size by_table i b bs = refl
case-size by_search i b bs = refl
case-size by_tests i b bs = refl

pub blank-length : (n : ℕ) → length (blank n) ≡ n
blank-length zero = refl
blank-length (suc n) = ap suc (blank-length n)

module _ (rows : Rows) (types : List Shape) where
  pub size-put : (f : Frame) (g : StepTree) (b : Body)
      → size_of rows types f (put g b) ≡ head_size rows types f g + (size_of rows types (entered f g) b + end_size rows types f g)
  size-put f (plain_step p xs x) b = omega arith
  size-put f (make_step t qs x) b = omega arith
  size-put f (call_step p c xs x) b = omega arith
  size-put f (attempt_step k p xs x d) b = omega arith
  size-put f (turn_step p) b = omega arith
  size-put f (label_step params d) b = omega arith
  size-put f (again_step params d) b = omega arith
  size-put f (when_step q xs d) b = omega arith
  size-put f (unless_step q xs d) b = omega arith
  size-put f (case_step x i others) b =
      let h = case-size (choice_of (cases i others)) i b others in omega (arith, h)

  pub sizes-onto : (f : Frame) (gs : List StepTree) (b : Body)
      → size_of rows types f (onto gs b) ≡ head_sizes rows types f gs + (size_of rows types (entered_all f gs) b + end_sizes rows types f gs)
  sizes-onto f [] b = omega arith
  sizes-onto f (g ∷ gs) b = omega (arith, size-put f g (onto gs b), sizes-onto (entered f g) gs b)

  pub places-length : (how : Choice) (f : Frame) (bs : Bodies) (q : ℕ) → length (arm_places rows types how q f bs) ≡ suc (count bs)
  places-length how f (last b) q = refl
  places-length how f (arm i b bs) q =
      ap suc (places-length how f bs (q + test_arm_size how + size_of rows types f b))

  -- as many labels, whether they have places or not
  pub opened-length : (q pc : ℕ) (f : Frame) (g : StepTree) → length (opened rows types pc f g) ≡ length (closed rows types q pc f g)
  opened-length q pc f (plain_step p xs x) = refl
  opened-length q pc f (make_step t qs x) = refl
  opened-length q pc f (call_step p c xs x) = refl
  opened-length q pc f (attempt_step k p xs x d) = refl
  opened-length q pc f (turn_step p) = refl
  opened-length q pc f (label_step params d) = refl
  opened-length q pc f (again_step params d) = refl
  opened-length q pc f (when_step t xs d) = refl
  opened-length q pc f (unless_step t xs d) = refl
  opened-length q pc f (case_step x i others) =
      ap suc (blank-length (suc (count others)) ∙ sym (places-length (choice_of (cases i others)) f others q))

  pub opened-lengths : (q pc : ℕ) (f : Frame) (gs : List StepTree) → length (opened_all rows types pc f gs) ≡ length (closed_all rows types q pc f gs)
  opened-lengths q pc f [] = refl
  opened-lengths q pc f (g ∷ gs) =
      omega (
        arith,
        length-append (opened rows types pc f g) (opened_all rows types (pc + head_size rows types f g) (entered f g) gs),
        length-append (closed rows types (q + end_sizes rows types (entered f g) gs) pc f g) (closed_all rows types q (pc + head_size rows types f g) (entered f g) gs),
        opened-length (q + end_sizes rows types (entered f g) gs) pc f g,
        opened-lengths q (pc + head_size rows types f g) (entered f g) gs,
      )
