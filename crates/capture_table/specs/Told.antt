-- What functions capture, along the code's tree, as `closure_convert` has it along the clean one: which variables a text uses, and the entries of the functions
-- in it, before those that are there.
use Rattle.std.specs.Prelude.{ℕ, List, [], ◌∷◌, ◌++◌, length}
use Rattle.plain_tree.specs.declared.tree.Parameter.{Parameter}
use Rattle.plain_tree.specs.declared.tree.Case.{Case}
use Rattle.plain_tree.specs.declared.tree.Case.TheVariants as case
use Rattle.plain_tree.specs.declared.tree.Exception.{Exception}
use Rattle.plain_tree.specs.declared.tree.Exception.TheVariants as exception
use Rattle.plain_tree.specs.declared.tree.Operation.{Operation}
use Rattle.plain_tree.specs.declared.tree.Operation.TheVariants as op
use Rattle.plain_tree.specs.declared.tree.Exp.{Exp, Exp-F, fold-Exp}
use Rattle.plain_tree.specs.declared.tree.Step.{Step, Step-F, fold-Step}
use Rattle.plain_tree.specs.declared.tree.Arm.{Arm, Arm-F, fold-Arm}
use Rattle.plain_tree.specs.declared.tree.Function.{Function, Function-F, fold-Function}
use Rattle.flow_sets.specs.Member.{is_in}
use Rattle.closure_convert.specs.Scope.{Member, names, Scope, Piece}
use Rattle.closure_convert.specs.Closed.{scope_of}
use Rattle.closure_convert.specs.Capture.{visible, kept, cut, Entry}

abbrev pub operation_uses : Operation → List ℕ
operation_uses (op.Use x ts) = x ∷ []
operation_uses o = []

abbrev pub name_uses : Exception → List ℕ
name_uses (exception.Initial n) = []
name_uses (exception.Held x) = x ∷ []

-- with these bound in front
abbrev pub more : List ℕ → Scope → Scope
more xs s = record s { locals = xs ++ s.locals }

abbrev pub case_binds : Case → List ℕ
case_binds (case.Constant c) = []
case_binds (case.Constructor c) = []
case_binds (case.ConstructorOf c x) = x.variable ∷ []
case_binds (case.Exception a) = []
case_binds (case.ExceptionOf a x) = x.variable ∷ []
case_binds (case.Record size) = []

abbrev pub Entries : Type 0
Entries = List Entry

-- which of the variables that are visible are used
abbrev pub used_in : Scope → (uses : List ℕ) → List ℕ
used_in s uses = kept (λ y. is_in y uses) (visible s)

pub record Told : Type 0 where
  pub uses : List ℕ
  pub table : Scope → Entries → Entries

-- of a step: its own entries, what it binds, and the entries of the other arms of its test, which stand behind those of what follows
pub record StepTold : Type 0 where
  pub uses : List ℕ
  pub front : Scope → Entries → Entries
  pub binds : List ℕ
  pub back : Scope → Entries → Entries

-- a function of a group, which captures as the group does
pub record FunctionTold : Type 0 where
  pub member : Member
  pub uses : List ℕ
  pub table : List Piece → (captured : List ℕ) → List Member → Entries → Entries

abbrev pub uses_of : List Told → List ℕ
uses_of [] = []
uses_of (e ∷ es) = e.uses ++ uses_of es

abbrev pub steps_use : List StepTold → List ℕ
steps_use [] = []
steps_use (s ∷ ss) = s.uses ++ steps_use ss

abbrev pub functions_use : List FunctionTold → List ℕ
functions_use [] = []
functions_use (f ∷ fs) = f.uses ++ functions_use fs

-- one after the other, in one scope
abbrev pub all_tables : List Told → Scope → Entries → Entries
all_tables [] s es = es
all_tables (t ∷ ts) s es = t.table s (all_tables ts s es)

-- steps before what comes of them
abbrev pub steps_table : List StepTold → (Scope → Entries → Entries) → Scope → Entries → Entries
steps_table [] rest s es = rest s es
steps_table (t ∷ ts) rest s es = t.front s (steps_table ts rest (more t.binds s) (t.back s es))

-- the scope behind steps
abbrev pub after : List StepTold → Scope → Scope
after [] s = s
after (t ∷ ts) s = after ts (more t.binds s)

-- the entries of the other arms of their tests, those of the last test first
abbrev pub backs : List StepTold → Scope → Entries → Entries
backs [] s es = es
backs (t ∷ ts) s es = backs ts (more t.binds s) (t.back s es)

-- how many variables are visible before each step
abbrev pub marks : List StepTold → Scope → List ℕ
marks [] s = []
marks (t ∷ ts) s = length (visible s) ∷ marks ts (more t.binds s)

abbrev pub members_told : List FunctionTold → List Member
members_told [] = []
members_told (f ∷ fs) = f.member ∷ members_told fs

abbrev pub functions_table : List FunctionTold → List Piece → (captured : List ℕ) → List Member → Entries → Entries
functions_table [] ps cs ms es = es
functions_table (f ∷ fs) ps cs ms es = f.table ps cs ms (functions_table fs ps cs ms es)

-- the number of a function is its first parameter
abbrev pub first_parameter : List Parameter → Parameter → ℕ
first_parameter [] x = x.variable
first_parameter (y ∷ ys) x = y.variable

abbrev pub entry : ℕ → List Piece → (captured : List ℕ) → Entry
entry k ps cs = record { number = k; captured = cs; pieces = ps }

-- a function of these parameters, with what it captures; what it gives when it isn't given all its arguments captures what the rest uses
abbrev pub function_table : (uses : List ℕ) → List Parameter → Parameter → (Scope → Entries → Entries) → List Piece → (captured : List ℕ) → List Member → Entries → Entries
function_table uses [] x body ps cs ms es = entry x.variable ps cs ∷ body (scope_of cs ms x.variable) es
function_table uses (y ∷ ys) x body ps cs ms es =
    entry y.variable ps cs
    ∷ function_table uses ys x body (cut (scope_of cs ms y.variable) (used_in (scope_of cs ms y.variable) uses)) (used_in (scope_of cs ms y.variable) uses) [] es

abbrev pub nothing_told : Told
nothing_told = record { uses = []; table = λ s es. es }

abbrev pub binding : ℕ → List ℕ → (Scope → Entries → Entries) → StepTold
binding x uses front = record { uses = uses; front = front; binds = x ∷ []; back = λ s es. es }

abbrev pub node_exp : Exp-F Told StepTold Told FunctionTold → Told
node_exp (Exp-F.Steps ss e) = record { uses = steps_use ss.items ++ e.value.uses; table = steps_table ss.items e.value.table }
node_exp (Exp-F.Ret a) = nothing_told
node_exp (Exp-F.Switch a u arms) = record { uses = uses_of arms.items; table = all_tables arms.items }
node_exp (Exp-F.First es d) = record { uses = uses_of es.items ++ d.value.uses; table = λ s l. all_tables es.items s (d.value.table s l) }
node_exp Exp-F.Miss = nothing_told

abbrev pub node_step : Step-F Told StepTold Told FunctionTold → StepTold
node_step (Step-F.Let b o) = binding b.variable (operation_uses o) (λ s es. es)
node_step (Step-F.Fn b xs x e) =
    binding b.variable e.value.uses (λ s. function_table e.value.uses xs.items x e.value.table (cut s (used_in s e.value.uses)) (used_in s e.value.uses) [])
node_step (Step-F.Block b e) = binding b.variable e.value.uses e.value.table
node_step (Step-F.Handle b e x h) = binding b.variable (e.value.uses ++ h.value.uses) (λ s es. e.value.table s (h.value.table (more (x ∷ []) s) es))
node_step (Step-F.Exception x i a) = binding x [] (λ s es. es)
node_step (Step-F.Name x y) = binding x (name_uses y) (λ s es. es)
node_step (Step-F.Group ps fs) = record {
  uses = functions_use fs.items;
  front = λ s. functions_table fs.items (cut s (used_in s (functions_use fs.items))) (used_in s (functions_use fs.items)) (members_told fs.items);
  binds = names (members_told fs.items);
  back = λ s es. es;
}
node_step (Step-F.Test a u c others) = record { uses = uses_of others.items; front = λ s es. es; binds = case_binds c; back = all_tables others.items }
node_step (Step-F.Counted n) = record { uses = []; front = λ s es. es; binds = []; back = λ s es. es }

abbrev pub node_arm : Arm-F Told StepTold Told FunctionTold → Told
node_arm a = record { uses = a.body.uses; table = λ s. a.body.table (more (case_binds a.case) s) }

abbrev pub node_function : Function-F Told StepTold Told FunctionTold → FunctionTold
node_function f = record {
  member = record { name = f.variable; number = first_parameter f.parameters.items f.last };
  uses = f.body.uses;
  table = function_table f.body.uses f.parameters.items f.last f.body.table;
}

abbrev pub exp_told : Exp → Told
exp_told = fold-Exp Told StepTold Told FunctionTold node_exp node_step node_arm node_function

abbrev pub step_told : Step → StepTold
step_told = fold-Step Told StepTold Told FunctionTold node_exp node_step node_arm node_function

abbrev pub arm_told : Arm → Told
arm_told = fold-Arm Told StepTold Told FunctionTold node_exp node_step node_arm node_function

abbrev pub function_told : Function → FunctionTold
function_told = fold-Function Told StepTold Told FunctionTold node_exp node_step node_arm node_function
