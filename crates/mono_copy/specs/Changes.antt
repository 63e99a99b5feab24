-- What is seen once a part of the code's tree is put.
use Rattle.std.specs.Prelude.{ℕ, Bool, true, false, List, [], ◌∷◌, map, Option, Some, None}
use Rattle.ty_core.specs.Types.{Typ}
use Rattle.ty_core.specs.Statics.{replace}
use Rattle.ty_core.specs.declared.scheme.Quantified.{Quantified}
use Rattle.ty_table.specs.TypeAt.{type_at}
use Rattle.ir_tables.specs.Tables.{parameters_of, parameters_at}
use Rattle.ir_tables.specs.declared.tables.Tables.{Tables}
use Rattle.ir_plain.specs.Tree.{Exp, ret}
use Rattle.ir_poly.specs.Tests.{inst, poly}
use Rattle.ir_poly.specs.Types.{changed}
use Rattle.plain_tree.specs.TreeOf.{StepTree, let_step, exception_step, name_step, rec_step, test_step}
use Rattle.plain_tree.specs.TreeOf.{counted_step, arms_of, case_of, fun_of, tree_of, step_of, arm_of}
use Rattle.plain_tree.specs.declared.tree.Arm.{Arm}
use Rattle.plain_tree.specs.declared.tree.Binding.{Binding}
use Rattle.plain_tree.specs.declared.tree.Case.{Case}
use Rattle.plain_tree.specs.declared.tree.Exp as code
use Rattle.plain_tree.specs.declared.tree.Function.{Function}
use Rattle.plain_tree.specs.declared.tree.Parameter.{Parameter}
use Rattle.plain_tree.specs.declared.tree.Step.{Step}
use Rattle.mono_parts.specs.of_tests_check.Reads.{reading}
use Rattle.monomorphise.specs.Monomorphise.{Groups, copy_of, alone, units, fun_vars}
use Rattle.mono_scopes.specs.Scopes.{variable, binding}
use Rattle.mono_words.specs.Words.{first_sign, let_sign, packet_sign, counted_sign, switch_sign}
use Rattle.mono_words.specs.Seen.{Seen, with_sign, with_needs, within, out, needed_types, made}
use Rattle.mono_words.specs.Made.{exp_made, arms_made, op_made, fun_made, bodies_made, case_entered}
use Rattle.mono_words.specs.Made.{arm_left, group_made, entered_step, left_step, entered_all, left_all}
use Rattle.mono_parts.specs.of_mono_state.Seen.{types_in}
use Rattle.mono_parts.specs.Steps.{functions_in, steps_in}
use Rattle.mono_copy.specs.Puts.{Change}

abbrev pub exp_in : Tables → code.Exp → Exp poly
exp_in t = tree_of (reading t)

abbrev pub step_in : Tables → Step → StepTree poly
step_in t = step_of (reading t)

abbrev pub exp_put : Tables → Bool → code.Exp → Change
exp_put t bare e H g s = exp_made bare g s (exp_in t e)

-- for each, from the last to the first
abbrev pub each_made : {A : Type 0} → (A → Seen → Seen) → List A → Seen → Seen
each_made f [] n = n
each_made f (x ∷ xs) n = f x (each_made f xs n)

abbrev pub each_put : {A : Type 0} → (A → Change) → List A → Change
each_put I xs H g s = each_made (λ x. I x H g s) xs

-- an attempt, behind which the others stand
abbrev pub attempt_put : Tables → Bool → code.Exp → Change
attempt_put t bare e H g s n = with_sign first_sign (exp_made bare g s (exp_in t e) n)

abbrev pub arms_put : Tables → Bool → List Arm → Change
arms_put t bare arms H g s = arms_made bare g s (arms_of (map (arm_of (reading t)) arms))

-- an arm, behind which the others stand
abbrev pub arm_put : Tables → Bool → Arm → Change
arm_put t bare a H g s n = arm_left s (case_of (reading t) a.case) (exp_made bare g s (exp_in t a.body) (case_entered (case_of (reading t) a.case) n))

abbrev pub step_entered : Tables → Bool → Step → Change
step_entered t bare st H g s = entered_step bare g s (step_in t st)

abbrev pub step_left : Tables → Bool → Step → Change
step_left t bare st H g s = left_step bare g s (step_in t st)

abbrev pub steps_entered : Tables → Bool → List Step → Change
steps_entered t bare ss H g s = entered_all bare g s (steps_in t ss)

abbrev pub steps_left : Tables → Bool → List Step → Change
steps_left t bare ss H g s = left_all bare g s (steps_in t ss)

-- the scope of what a step binds, but for that of a test's first arm
abbrev pub opened : StepTree poly → Seen → Seen
opened (let_step x ps t o) n = within (binding (x ∷ []) (units ps) []) n
opened (exception_step x i a) n = within (variable x) n
opened (name_step x y) n = within (variable x) n
opened (rec_step ps fs) n = within (binding (fun_vars fs) (units ps) []) n
opened (test_step u t c others) n = n
opened (counted_step k) n = n

abbrev pub step_opened : Tables → Step → Change
step_opened t st H g s = opened (step_in t st)

-- the variable of a step's binding, with its parameters and its type
abbrev pub bound_at : StepTree poly → Option (ℕ × List Quantified × Typ)
bound_at (let_step x ps t o) = Some (x, ps, t)
bound_at _ = None

abbrev pub binding_in : Tables → Binding → ℕ × List Quantified × Typ
binding_in t b = (b.variable, parameters_at (parameters_of t) b.parameters, type_at t.types b.ty)

-- a step of which nothing is copied is left
abbrev pub plain_left : Groups → (ℕ → Typ) → StepTree poly → Seen → Seen
plain_left g s (let_step x ps t o) n = n
plain_left g s (rec_step ps fs) n = n
plain_left g s st n = left_step false g s st n

abbrev pub plainly_left : Tables → Step → Change
plainly_left t st H g s = plain_left g s (step_in t st)

-- the operation of a step, if it binds one
abbrev pub acted : Bool → Groups → (ℕ → Typ) → StepTree poly → Seen → Seen
acted bare g s (let_step x ps t o) n = op_made bare g s o n
acted bare g s _ n = n

abbrev pub operation_put : Tables → Bool → Step → Change
operation_put t bare st H g s = acted bare g s (step_in t st)

-- what comes of an expression; a packet, whose scope is left; so many further nodes; a test, the scope of whose first arm is left
abbrev pub ret_put : Bool → ℕ → Change
ret_put bare x H g s = exp_made bare g s (ret (inst x []))

abbrev pub packet_put : ℕ → Change
packet_put x H g s n = with_sign (packet_sign (alone x)) (out n)

abbrev pub counted_left : ℕ → Change
counted_left k H g s n = with_sign (counted_sign k) (made (λ l. l) [] [] k n)

abbrev pub test_left : Tables → ℕ → ℕ → Case → Change
test_left t x u c H g s n =
    with_sign (switch_sign (copy_of x []) (replace s (type_at t.types u))) (with_needs (copy_of x [] ∷ []) (arm_left s (case_of (reading t) c) n))

abbrev pub handler_put : Tables → ℕ → code.Exp → Change
handler_put t x d H g s n = with_sign (packet_sign (alone x)) (out (exp_made false g s (exp_in t d) (within (variable x) n)))

abbrev pub function_put : Tables → List Parameter → Parameter → code.Exp → Change
function_put t xs x e H g s = fun_made g s (fun_of (reading t) xs x (exp_in t e))

abbrev pub bodies_put : Tables → ℕ → List Function → Change
bodies_put t k fs H g s = bodies_made (types_in H k) g s (functions_in t fs)

-- a copy of a step's binding at these types
abbrev pub binding_made : Bool → Groups → (ℕ → Typ) → ℕ → List Quantified → Typ → StepTree poly → List Typ → Seen → Seen
binding_made bare g s x ps t st a n = with_sign (let_sign (copy_of x a) (replace (changed ps a s) t)) (acted bare g (changed ps a s) st n)

abbrev pub binding_put : Tables → Bool → Binding → Step → ℕ → Change
binding_put t bare b st k H g s =
    binding_made bare g s b.variable (parameters_at (parameters_of t) b.parameters) (type_at t.types b.ty) (step_in t st) (types_in H k)

-- all its copies, at the first types and at those that its scope holds
abbrev pub binding_left : Tables → Bool → Binding → Step → Change
binding_left t bare b st H g s n =
    let ps = parameters_at (parameters_of t) b.parameters in
    let u = type_at t.types b.ty in
    binding_made bare g s b.variable ps u (step_in t st) (units ps)
    (each_made (binding_made true g s b.variable ps u (step_in t st)) (needed_types n.scopes) (out n))

abbrev pub group_put : Tables → ℕ → List Function → ℕ → Change
group_put t ps fs k H g s = group_made g s (parameters_at (parameters_of t) ps) (functions_in t fs) (types_in H k)

abbrev pub group_left : Tables → ℕ → List Function → Change
group_left t p fs H g s n =
    let ps = parameters_at (parameters_of t) p in
    out (group_made g s ps (functions_in t fs) (units ps)
    (each_made (group_made g s ps (functions_in t fs)) (needed_types n.scopes) (within (binding (fun_vars (functions_in t fs)) (units ps) []) (out n))))
