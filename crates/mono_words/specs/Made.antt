-- What it does to what is seen that a copy is put: of an expression, of arms, of a function, of a group's functions; of a binding at some types; and of steps,
-- which are entered from the first to the last and left from the last to the first.
use Rattle.std.specs.Prelude.{Bool, true, false, List, [], ◌∷◌, ℕ, if◌then◌else◌}
use Rattle.ty_core.specs.Types.{Typ}
use Rattle.ty_core.specs.Statics.{replace}
use Rattle.ty_core.specs.declared.scheme.Quantified.{Quantified}
use Rattle.ir_plain.specs.Copies.{strip, strip_arms, strip_op}
use Rattle.ir_plain.specs.Tree.{Case, is_con_of, is_exn_of, Exp, Arms, Op, Fun, Funs}
use Rattle.ir_plain.specs.Weight.{weight, arms_weight, op_weight, fun_weight, funs_weight}
use Rattle.ir_poly.specs.Tests.{poly}
use Rattle.ir_poly.specs.Types.{changed}
use Rattle.plain_tree.specs.TreeOf.{StepTree, let_step, exception_step, name_step, rec_step, test_step, counted_step}
use Rattle.mono_strip.specs.of_monomorphise.Expansion.{compared, arms_compared, op_compared, fun_compared, funs_compared}
use Rattle.mono_strip.specs.of_monomorphise.Monomorphise.{Named, Groups, copy_of, atom, alone, units, fun_vars, group_at, needs, arms_needs, op_needs, fun_needs, funs_needs, case_needs, name_needs, copy, arms_copy, op_copy, fun_copy, funs_copy, copy_case, copy_name, copy_argument}
use Rattle.mono_scopes.specs.Scopes.{variable, binding}
use Rattle.mono_words.specs.Words.{switch_sign, arm_sign, exception_sign, name_sign, group_sign, let_sign, counted_sign, spell, spell_arms, spell_op, spell_fun, spell_heads, spell_bodies}
use Rattle.mono_words.specs.Seen.{Seen, with_sign, with_needs, within, out, needed_types, made}

-- a copy takes turns, or they are taken away
abbrev pub turned : Bool → Exp Named → Exp Named
turned bare e = if bare then strip e else e

abbrev pub turned_arms : Bool → Arms Named → Arms Named
turned_arms bare arms = if bare then strip_arms arms else arms

abbrev pub turned_op : Bool → Op Named → Op Named
turned_op bare o = if bare then strip_op o else o

abbrev pub exp_made : Bool → Groups → (ℕ → Typ) → Exp poly → Seen → Seen
exp_made bare g s e = made (spell (turned bare (copy g s e))) (needs g s e) (compared (turned bare (copy g s e))) (weight (turned bare (copy g s e)))

abbrev pub arms_made : Bool → Groups → (ℕ → Typ) → Arms poly → Seen → Seen
arms_made bare g s arms =
    made (spell_arms (turned_arms bare (arms_copy g s arms))) (arms_needs g s arms) (arms_compared (turned_arms bare (arms_copy g s arms))) (arms_weight (turned_arms bare (arms_copy g s arms)))

abbrev pub op_made : Bool → Groups → (ℕ → Typ) → Op poly → Seen → Seen
op_made bare g s o =
    made (spell_op (turned_op bare (op_copy g s o))) (op_needs g s o) (op_compared (turned_op bare (op_copy g s o))) (op_weight (turned_op bare (op_copy g s o)))

abbrev pub fun_made : Groups → (ℕ → Typ) → Fun poly → Seen → Seen
fun_made g s f = made (spell_fun (fun_copy g s f)) (fun_needs g s f) (fun_compared (fun_copy g s f)) (fun_weight (fun_copy g s f))

abbrev pub bodies_made : List Typ → Groups → (ℕ → Typ) → Funs poly → Seen → Seen
bodies_made a g s fs = made (spell_bodies (funs_copy a g s fs)) (funs_needs g s fs) (funs_compared (funs_copy a g s fs)) (funs_weight (funs_copy a g s fs))

-- the scope of an arm's variable
abbrev pub case_entered : Case poly → Seen → Seen
case_entered (is_con_of c x t) n = within (variable x) n
case_entered (is_exn_of u x t) n = within (variable x) n
case_entered _ n = n

abbrev pub case_left : Case poly → Seen → Seen
case_left (is_con_of c x t) n = out n
case_left (is_exn_of u x t) n = out n
case_left _ n = n

abbrev pub arm_left : (ℕ → Typ) → Case poly → Seen → Seen
arm_left s c n = with_sign (arm_sign (copy_case s c)) (with_needs (case_needs c) (case_left c n))

-- a copy of a binding at these types, and further ones, which take no turns
abbrev pub let_made : Bool → Groups → (ℕ → Typ) → ℕ → List Quantified → Typ → Op poly → List Typ → Seen → Seen
let_made bare g s x ps t o a n = with_sign (let_sign (copy_of x a) (replace (changed ps a s) t)) (op_made bare g (changed ps a s) o n)

abbrev pub more_lets_made : Groups → (ℕ → Typ) → ℕ → List Quantified → Typ → Op poly → List (List Typ) → Seen → Seen
more_lets_made g s x ps t o [] n = n
more_lets_made g s x ps t o (a ∷ ts) n = let_made true g s x ps t o a (more_lets_made g s x ps t o ts n)

-- a copy of a group, and further ones
abbrev pub group_made : Groups → (ℕ → Typ) → List Quantified → Funs poly → List Typ → Seen → Seen
group_made g s ps fs a n =
    with_sign group_sign (made (spell_heads (funs_copy a (group_at fs a g) (changed ps a s) fs)) [] [] 0 (bodies_made a (group_at fs a g) (changed ps a s) fs n))

abbrev pub more_groups_made : Groups → (ℕ → Typ) → List Quantified → Funs poly → List (List Typ) → Seen → Seen
more_groups_made g s ps fs [] n = n
more_groups_made g s ps fs (a ∷ ts) n = group_made g s ps fs a (more_groups_made g s ps fs ts n)

-- what follows a step takes no turns either
abbrev pub still_bare : Bool → StepTree poly → Bool
still_bare bare (exception_step x i a) = false
still_bare bare (rec_step ps fs) = false
still_bare bare st = bare

abbrev pub entered_step : Bool → Groups → (ℕ → Typ) → StepTree poly → Seen → Seen
entered_step bare g s (let_step x ps t o) n = within (binding (x ∷ []) (units ps) []) n
entered_step bare g s (exception_step x i a) n = within (variable x) n
entered_step bare g s (name_step x y) n = within (variable x) n
entered_step bare g s (rec_step ps fs) n = within (binding (fun_vars fs) (units ps) []) n
entered_step bare g s (test_step u t c others) n = case_entered c (arms_made bare g s others n)
entered_step bare g s (counted_step k) n = n

abbrev pub left_step : Bool → Groups → (ℕ → Typ) → StepTree poly → Seen → Seen
left_step bare g s (let_step x ps t o) n = let_made bare g s x ps t o (units ps) (more_lets_made g s x ps t o (needed_types n.scopes) (out n))
left_step bare g s (exception_step x i a) n = with_sign (exception_sign (alone x) i (copy_argument s a)) (out n)
left_step bare g s (name_step x y) n = with_sign (name_sign (alone x) (copy_name y)) (with_needs (name_needs y) (out n))
left_step bare g s (rec_step ps fs) n =
    out (group_made g s ps fs (units ps) (more_groups_made g s ps fs (needed_types n.scopes) (within (binding (fun_vars fs) (units ps) []) (out n))))
left_step bare g s (test_step u t c others) n = with_sign (switch_sign (atom u) (replace s t)) (with_needs (atom u ∷ []) (arm_left s c n))
left_step bare g s (counted_step k) n = with_sign (counted_sign k) (made (λ l. l) [] [] k n)

abbrev pub all_bare : Bool → List (StepTree poly) → Bool
all_bare bare [] = bare
all_bare bare (st ∷ ss) = all_bare (still_bare bare st) ss

abbrev pub entered_all : Bool → Groups → (ℕ → Typ) → List (StepTree poly) → Seen → Seen
entered_all bare g s [] n = n
entered_all bare g s (st ∷ ss) n = entered_all (still_bare bare st) g s ss (entered_step bare g s st n)

abbrev pub left_all : Bool → Groups → (ℕ → Typ) → List (StepTree poly) → Seen → Seen
left_all bare g s [] n = n
left_all bare g s (st ∷ ss) n = left_step bare g s st (left_all (still_bare bare st) g s ss n)
