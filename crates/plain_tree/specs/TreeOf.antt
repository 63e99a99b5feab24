-- The clean tree of the code's tree.
use Rattle.std.specs.Prelude.{ℕ, List, [], ◌∷◌, Option}
use Rattle.std.specs.Option.{option_map}
use Rattle.ir_tables.specs.Tables.{literal_at}
use Rattle.ir_tables.specs.of_ir_plain.Kind.{Kind}
use Rattle.ir_tables.specs.of_ir_plain.Tree as t
use Rattle.plain_tree.specs.declared.tree.Parameter.{Parameter}
use Rattle.plain_tree.specs.declared.tree.Binding.{Binding}
use Rattle.plain_tree.specs.declared.tree.Field.{Field}
use Rattle.plain_tree.specs.declared.tree.Case.{Case}
use Rattle.plain_tree.specs.declared.tree.Case.TheVariants as case
use Rattle.plain_tree.specs.declared.tree.Exception.{Exception}
use Rattle.plain_tree.specs.declared.tree.Exception.TheVariants as exception
use Rattle.plain_tree.specs.declared.tree.Operation.{Operation}
use Rattle.plain_tree.specs.declared.tree.Operation.TheVariants as op
use Rattle.plain_tree.specs.declared.tree.Exp.{Exp, Exp-F, fold-Exp}
use Rattle.plain_tree.specs.declared.tree.Step.{Step, Step-F, fold-Step}
use Rattle.plain_tree.specs.declared.tree.Arm.{Arm, Arm-F, fold-Arm}
use Rattle.plain_tree.specs.declared.tree.Function.{Function, Function-F, fold-Function}

-- what a form's numbers stand for: variables where they are bound, as atoms, and at types; types; lists of parameters; strings
pub record Reading (F : Kind) : Type 0 where
  pub binder : ℕ → F.Binder
  pub atom : ℕ → F.Use
  pub use_at : ℕ → List ℕ → F.Use
  pub type : ℕ → F.Type_of
  pub parameters : ℕ → F.Params_of
  pub strings : List (List ℕ)

-- one step
pub data StepTree (F : Kind) : Type 0 where
  let_step : F.Binder → F.Params_of → F.Type_of → t.Op F → StepTree F
  exception_step : F.Binder → ℕ → Option F.Type_of → StepTree F
  name_step : F.Binder → t.Exception F → StepTree F
  rec_step : F.Params_of → t.Funs F → StepTree F
  -- a switch, whose first arm goes on; the others stand there
  test_step : F.Use → F.Type_of → t.Case F → t.Arms F → StepTree F
  counted_step : ℕ → StepTree F

pub record ArmTree (F : Kind) : Type 0 where
  pub case : t.Case F
  pub body : t.Exp F

pub record FunctionTree (F : Kind) : Type 0 where
  pub variable : F.Binder
  pub type : F.Type_of
  pub function : t.Fun F

module _ {F : Kind} where
  abbrev pub put : StepTree F → t.Exp F → t.Exp F
  put (let_step x ps a o) e = t.let_in x ps a o e
  put (exception_step x i a) e = t.exception_in x i a e
  put (name_step x y) e = t.name_in x y e
  put (rec_step ps fs) e = t.rec_in ps fs e
  put (test_step a u c others) e = t.switch a u (t.arm c e others)
  put (counted_step n) e = t.counted n e

  -- steps in front of an expression
  abbrev pub onto : List (StepTree F) → t.Exp F → t.Exp F
  onto [] e = e
  onto (s ∷ ss) e = put s (onto ss e)

  abbrev pub firsts : List (t.Exp F) → t.Exp F → t.Exp F
  firsts [] d = d
  firsts (e ∷ es) d = t.first e (firsts es d)

  abbrev pub arms_of : List (ArmTree F) → t.Arms F
  arms_of [] = t.no_arms
  arms_of (a ∷ as_) = t.arm a.case a.body (arms_of as_)

  abbrev pub funs_of : List (FunctionTree F) → t.Funs F
  funs_of [] = t.no_funs
  funs_of (f ∷ fs) = t.fun f.variable f.type f.function (funs_of fs)

module _ {F : Kind} (R : Reading F) where
  abbrev pub case_of : Case → t.Case F
  case_of (case.Constant c) = t.is_literal (literal_at R.strings c)
  case_of (case.Constructor c) = t.is_con c
  case_of (case.ConstructorOf c x) = t.is_con_of c (R.binder x.variable) (R.type x.ty)
  case_of (case.Exception a) = t.is_exn (R.atom a)
  case_of (case.ExceptionOf a x) = t.is_exn_of (R.atom a) (R.binder x.variable) (R.type x.ty)
  case_of (case.Record size) = t.is_record size

  abbrev pub exception_of : Exception → t.Exception F
  exception_of (exception.Initial n) = t.fixed n
  exception_of (exception.Held a) = t.held (R.atom a)

  abbrev pub atoms_of : List ℕ → t.Atoms F
  atoms_of [] = t.no_atoms
  atoms_of (a ∷ as_) = t.an_atom (R.atom a) (atoms_of as_)

  abbrev pub row_of : List Field → t.Row F
  row_of [] = t.no_row
  row_of (f ∷ fs) = t.a_row f.label (R.atom f.atom) (row_of fs)

  abbrev pub operation_of : Operation → t.Op F
  operation_of (op.Use x ts) = t.use_of (R.use_at x ts.items)
  operation_of (op.Constant c) = t.const (literal_at R.strings c)
  operation_of (op.Constructor c a) = t.con_alone c (R.type a)
  operation_of (op.Construct m c a k) = t.construct m c (R.type a) (R.atom k)
  operation_of (op.Reference a) = t.ref_alone (R.type a)
  operation_of (op.Refer m a k) = t.refer m (R.type a) (R.atom k)
  operation_of (op.Content a k) = t.content (R.type a) (R.atom k)
  operation_of (op.Pack m a x k) = t.pack m (R.type a) (R.atom x) (R.atom k)
  operation_of (op.Record a fs) = t.make_record (R.type a) (row_of fs.items)
  operation_of (op.Select a l k) = t.select (R.type a) l (R.atom k)
  operation_of (op.Primitive p a) = t.prim_alone p (R.type a)
  operation_of (op.Perform m p a as_) = t.prim m p (R.type a) (atoms_of as_.items)
  operation_of (op.Apply place f k) = t.app place (R.atom f) (R.atom k)
  operation_of (op.Raise a) = t.raise (R.atom a)
  operation_of (op.RaiseInitial n) = t.raise_initial n

  -- a function of these parameters and a last one
  abbrev pub fun_of : List Parameter → Parameter → t.Exp F → t.Fun F
  fun_of [] x e = t.last (R.binder x.variable) (R.type x.ty) e
  fun_of (y ∷ ys) x e = t.more (R.binder y.variable) (R.type y.ty) (fun_of ys x e)

  abbrev pub let_of : Binding → t.Op F → StepTree F
  let_of b o = let_step (R.binder b.variable) (R.parameters b.parameters) (R.type b.ty) o

  abbrev pub node_exp : Exp-F (t.Exp F) (StepTree F) (ArmTree F) (FunctionTree F) → t.Exp F
  node_exp (Exp-F.Steps ss e) = onto ss.items e.value
  node_exp (Exp-F.Ret a) = t.ret (R.atom a)
  node_exp (Exp-F.Switch a u arms) = t.switch (R.atom a) (R.type u) (arms_of arms.items)
  node_exp (Exp-F.First es d) = firsts es.items d.value
  node_exp Exp-F.Miss = t.miss

  abbrev pub node_step : Step-F (t.Exp F) (StepTree F) (ArmTree F) (FunctionTree F) → StepTree F
  node_step (Step-F.Let b o) = let_of b (operation_of o)
  node_step (Step-F.Fn b xs x e) = let_of b (t.fn (fun_of xs.items x e.value))
  node_step (Step-F.Block b e) = let_of b (t.block e.value)
  node_step (Step-F.Handle b e x h) = let_of b (t.handle e.value (R.binder x) h.value)
  node_step (Step-F.Exception x i a) = exception_step (R.binder x) i (option_map R.type a)
  node_step (Step-F.Name x y) = name_step (R.binder x) (exception_of y)
  node_step (Step-F.Group ps fs) = rec_step (R.parameters ps) (funs_of fs.items)
  node_step (Step-F.Test a u c others) = test_step (R.atom a) (R.type u) (case_of c) (arms_of others.items)
  node_step (Step-F.Counted n) = counted_step n

  abbrev pub node_arm : Arm-F (t.Exp F) (StepTree F) (ArmTree F) (FunctionTree F) → ArmTree F
  node_arm a = record { case = case_of a.case; body = a.body }

  abbrev pub node_function : Function-F (t.Exp F) (StepTree F) (ArmTree F) (FunctionTree F) → FunctionTree F
  node_function f = record { variable = R.binder f.variable; type = R.type f.ty; function = fun_of f.parameters.items f.last f.body }

  abbrev pub tree_of : Exp → t.Exp F
  tree_of = fold-Exp (t.Exp F) (StepTree F) (ArmTree F) (FunctionTree F) node_exp node_step node_arm node_function

  abbrev pub step_of : Step → StepTree F
  step_of = fold-Step (t.Exp F) (StepTree F) (ArmTree F) (FunctionTree F) node_exp node_step node_arm node_function

  abbrev pub arm_of : Arm → ArmTree F
  arm_of = fold-Arm (t.Exp F) (StepTree F) (ArmTree F) (FunctionTree F) node_exp node_step node_arm node_function

  abbrev pub function_of : Function → FunctionTree F
  function_of = fold-Function (t.Exp F) (StepTree F) (ArmTree F) (FunctionTree F) node_exp node_step node_arm node_function
