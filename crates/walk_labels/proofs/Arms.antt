-- The arms of a switch are those before its last body, and that.
use Rattle.std.proofs.Common.{◌≡◌, refl, ℕ, zero, suc, ◌+◌, List, [], ◌∷◌, ◌++◌, length, sym, ap, ◌∙◌, arith, append_assoc}
use Rattle.first_values.specs.Equality.{Shape}
use Rattle.ir_ssa.specs.Tree.{Body}
use Rattle.ssa_tree.specs.TreeOf.{ArmTree, bodies_of}
use Rattle.machine_code.specs.Rows.{Rows}
use Rattle.machine_code.specs.Code.{Choice, test_arm_size, count}
use Rattle.walk_labels.specs.Labels.{Frame, blank, size_of, arms_size_of, arm_places, labels, arms_labels, arms_from, arms_within, arms_long}

pub blank-last : (n : ℕ) → blank (suc n) ≡ blank n ++ 0 ∷ []
blank-last zero = refl
blank-last (suc n) = ap (λ l. 0 ∷ l) (blank-last n)

pub arms-count : (as_ : List ArmTree) (l : Body) → count (bodies_of as_ l) ≡ length as_
arms-count [] l = refl
arms-count (a ∷ as_) l = ap suc (arms-count as_ l)

module _ (rows : Rows) (types : List Shape) where
  pub arms-size : (how : Choice) (f : Frame) (as_ : List ArmTree) (l : Body)
      → arms_size_of rows types how f (bodies_of as_ l) ≡ arms_long rows types how f as_ + size_of rows types f l
  arms-size how f [] l = omega arith
  arms-size how f (a ∷ as_) l = omega (arith, arms-size how f as_ l)

  pub arms-places : (how : Choice) (f : Frame) (as_ : List ArmTree) (l : Body) (q : ℕ)
      → arm_places rows types how q f (bodies_of as_ l) ≡ arms_from rows types how q f as_ ++ (q + arms_long rows types how f as_) ∷ []
  arms-places how f [] l q = ap (λ z. z ∷ []) (let e : q ≡ q + 0 = omega arith in e)
  arms-places how f (a ∷ as_) l q =
      let next = q + test_arm_size how + size_of rows types f a.body in
      let same : next + arms_long rows types how f as_ ≡ q + (test_arm_size how + size_of rows types f a.body + arms_long rows types how f as_) = omega arith in
      ap (λ z. q ∷ z) (arms-places how f as_ l next) ∙ ap (λ z. q ∷ (arms_from rows types how next f as_ ++ z ∷ [])) same

  pub arms-labels : (how : Choice) (f : Frame) (as_ : List ArmTree) (l : Body) (q : ℕ)
      → arms_labels rows types how q f (bodies_of as_ l) ≡ arms_within rows types how q f as_ ++ labels rows types (q + arms_long rows types how f as_) f l
  arms-labels how f [] l q = ap (λ z. labels rows types z f l) (let e : q ≡ q + 0 = omega arith in e)
  arms-labels how f (a ∷ as_) l q =
      let next = q + test_arm_size how + size_of rows types f a.body in
      let first = labels rows types (q + test_arm_size how) f a.body in
      let same : next + arms_long rows types how f as_ ≡ q + (test_arm_size how + size_of rows types f a.body + arms_long rows types how f as_) = omega arith in
      ap (λ z. first ++ z) (arms-labels how f as_ l next ∙ ap (λ z. arms_within rows types how next f as_ ++ labels rows types z f l) same)
      ∙ sym (append_assoc first (arms_within rows types how next f as_) _)
