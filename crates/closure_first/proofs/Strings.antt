-- Trees that are read by other strings.
use Rattle.std.proofs.Common.{◌≡◌, ℕ, List, [], ◌∷◌, refl, ap}
use Rattle.ir_mono.specs.Types as table
use Rattle.ir_mono.specs.Mono.{mono, Mono}
use Rattle.ir_plain.specs.Tree as m
use Rattle.mlc_prims.specs.LitOf.{string}
use Rattle.ir_tables.specs.Tables.{string_at, literal_at}
use Rattle.ir_tables.specs.declared.tables.Constant.{Constant}
use Rattle.ir_tables.specs.declared.tables.Constant.TheVariants as constant
use Rattle.plain_tree.specs.declared.tree.Parameter.{Parameter}
use Rattle.plain_tree.specs.declared.tree.Field.{Field}
use Rattle.plain_tree.specs.declared.tree.Exception.{Exception}
use Rattle.plain_tree.specs.declared.tree.Exception.TheVariants as exception
use Rattle.plain_tree.specs.declared.tree.Case.{Case}
use Rattle.plain_tree.specs.declared.tree.Case.TheVariants as case
use Rattle.plain_tree.specs.declared.tree.Operation.{Operation}
use Rattle.plain_tree.specs.declared.tree.Operation.TheVariants as op
use Rattle.plain_tree.specs.declared.tree.Exp.{Exp, Exp-F, fold-Exp}
use Rattle.plain_tree.specs.declared.tree.Step.{Step-F}
use Rattle.plain_tree.specs.declared.tree.Arm.{Arm-F}
use Rattle.plain_tree.specs.declared.tree.Function.{Function-F}
use Rattle.plain_tree.specs.TreeOf.{StepTree, ArmTree, FunctionTree, let_step, name_step, test_step, arms_of, fun_of, atoms_of, row_of, exception_of, case_of, operation_of, node_exp, node_step, node_arm, node_function}
use Rattle.mono_bound.specs.Reads.{reading, mono_of}
use Rattle.closure_first.specs.Same.{TreesReadSame}

module _ (types : List table.Row) (strings others : List (List ℕ)) (h : (k : ℕ) → string_at others k ≡ string_at strings k) where
  abbrev E : Type 0
  E = Mono types

  abbrev S : Type 0
  S = StepTree (mono types)

  abbrev A : Type 0
  A = ArmTree (mono types)

  abbrev U : Type 0
  U = FunctionTree (mono types)

  literal-same : (c : Constant) → literal_at others c ≡ literal_at strings c
  literal-same (constant.Int z) = refl
  literal-same (constant.Word n) = refl
  literal-same (constant.Char n) = refl
  literal-same (constant.Text k) = ap string (h k)

  case-same : (c : Case) → case_of (reading types others) c ≡ case_of (reading types strings) c
  case-same (case.Constant c) = ap m.is_literal (literal-same c)
  case-same (case.Constructor c) = refl
  case-same (case.ConstructorOf c x) = refl
  case-same (case.Exception a) = refl
  case-same (case.ExceptionOf a x) = refl
  case-same (case.Record size) = refl

  atoms-same : (as_ : List ℕ) → atoms_of (reading types others) as_ ≡ atoms_of (reading types strings) as_
  atoms-same [] = refl
  atoms-same (a ∷ as_) = ap (m.an_atom a) (atoms-same as_)

  row-same : (fs : List Field) → row_of (reading types others) fs ≡ row_of (reading types strings) fs
  row-same [] = refl
  row-same (f ∷ fs) = ap (m.a_row f.label f.atom) (row-same fs)

  exception-same : (y : Exception) → exception_of (reading types others) y ≡ exception_of (reading types strings) y
  exception-same (exception.Initial n) = refl
  exception-same (exception.Held a) = refl

  fun-same : (ys : List Parameter) (x : Parameter) (e : E) → fun_of (reading types others) ys x e ≡ fun_of (reading types strings) ys x e
  fun-same [] x e = refl
  fun-same (y ∷ ys) x e = ap (m.more y.variable y.ty) (fun-same ys x e)

  operation-same : (o : Operation) → operation_of (reading types others) o ≡ operation_of (reading types strings) o
  operation-same (op.Constant c) = ap m.const (literal-same c)
  operation-same (op.Use x ts) = refl
  operation-same (op.Constructor c a) = refl
  operation-same (op.Construct p c a k) = refl
  operation-same (op.Reference a) = refl
  operation-same (op.Refer p a k) = refl
  operation-same (op.Content a k) = refl
  operation-same (op.Pack p a x k) = refl
  operation-same (op.Record a fs) = ap (m.make_record a) (row-same fs.items)
  operation-same (op.Select a l k) = refl
  operation-same (op.Primitive p a) = refl
  operation-same (op.Perform p q a as_) = ap (m.prim p q a) (atoms-same as_.items)
  operation-same (op.Apply place f k) = refl
  operation-same (op.Raise a) = refl
  operation-same (op.RaiseInitial n) = refl

  exp-same : (d : Exp-F E S A U) → node_exp (reading types others) d ≡ node_exp (reading types strings) d
  exp-same (Exp-F.Steps ss e) = refl
  exp-same (Exp-F.Ret a) = refl
  exp-same (Exp-F.Switch a u arms) = refl
  exp-same (Exp-F.First es d) = refl
  exp-same Exp-F.Miss = refl

  step-same : (d : Step-F E S A U) → node_step (reading types others) d ≡ node_step (reading types strings) d
  step-same (Step-F.Let b o) = ap (let_step b.variable tt b.ty) (operation-same o)
  step-same (Step-F.Fn b xs x e) = ap (λ f. let_step b.variable tt b.ty (m.fn f)) (fun-same xs.items x e.value)
  step-same (Step-F.Block b e) = refl
  step-same (Step-F.Handle b e x w) = refl
  step-same (Step-F.Exception x i a) = refl
  step-same (Step-F.Name x y) = ap (name_step x) (exception-same y)
  step-same (Step-F.Group ps fs) = refl
  step-same (Step-F.Test a u c arms) = ap (λ v. test_step a u v (arms_of arms.items)) (case-same c)
  step-same (Step-F.Counted n) = refl

  arm-same : (d : Arm-F E S A U) → node_arm (reading types others) d ≡ node_arm (reading types strings) d
  arm-same d = ap (λ c. record { case = c; body = d.body }) (case-same d.case)

  function-same : (d : Function-F E S A U) → node_function (reading types others) d ≡ node_function (reading types strings) d
  function-same d = ap (λ f. record { variable = d.variable; type = d.ty; function = f }) (fun-same d.parameters.items d.last d.body)

  trees-same : (e : Exp) → mono_of types others e ≡ mono_of types strings e
  trees-same e = λ i. fold-Exp E S A U (λ d. exp-same d i) (λ d. step-same d i) (λ d. arm-same d i) (λ d. function-same d i) e

pub trees-read-same : TreesReadSame
trees-read-same types strings others h e = trees-same types strings others h e
