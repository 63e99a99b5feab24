-- Constants along the code's tree.
use Rattle.std.specs.Prelude.{◌≡◌, ℕ, true, List, [], Some, nat_lt, slice_get, ⊤}
use Rattle.std.specs.List.{AllByRecursion}
use Rattle.ir_plain.specs.Kind.{Kind}
use Rattle.plain_tree.specs.TreeOf.{StepTree, ArmTree, FunctionTree, let_step, exception_step, name_step, rec_step, test_step, counted_step}
use Rattle.closure_bodies.specs.of_closure_whole.Constants.{CaseHeld, AreHeld, ArmsHeld, OpHeld, FunHeld, FunsHeld}

-- an empty string is there, which stands for all those that aren't
abbrev pub HasEmpty : List (List ℕ) → Type 0
HasEmpty strings = (i : ℕ) × (slice_get strings i ≡ Some [])

module _ (strings : List (List ℕ)) {F : Kind} where
  abbrev pub StepHeld : StepTree F → Type 0
  StepHeld (let_step x ps t o) = OpHeld strings o
  StepHeld (exception_step x i t) = ⊤
  StepHeld (name_step x y) = ⊤
  StepHeld (rec_step ps fs) = FunsHeld strings fs
  StepHeld (test_step a u c others) = CaseHeld strings c × ArmsHeld strings others
  StepHeld (counted_step k) = ⊤

  abbrev pub ArmHeld : ArmTree F → Type 0
  ArmHeld a = CaseHeld strings a.case × AreHeld strings a.body

  abbrev pub MemberHeld : FunctionTree F → Type 0
  MemberHeld f = FunHeld strings f.function

abbrev pub IsByte : ℕ → Type 0
IsByte t = nat_lt t 256 ≡ true

-- strings are of bytes
abbrev pub AreBytes : List (List ℕ) → Type 0
AreBytes strings = AllByRecursion (AllByRecursion IsByte) strings
