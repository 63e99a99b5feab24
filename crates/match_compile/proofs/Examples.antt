-- What small programs become, and what they do then, by computation. Types are ignored, and unit's stands everywhere but in the typed one.
use Rattle.std.proofs.Common.{◌≡◌, ℕ, true, false, List, [], ◌∷◌, ◌++◌, Some, None, pos, refl}
use Rattle.mlc_runs.specs.Outcome.{End, ended, uncaught, going, wrong, Outcome}
use Rattle.mlc_names.specs.declared.label.Label.TheVariants.{Number}
use Rattle.mlc_base.specs.declared.place.Place.{Place}
use Rattle.mlc_prims.specs.LitOf.{int, string}
use Rattle.mlc_prims.specs.declared.basis.BasisPrimitive.TheVariants.{Add, Divide, Assign, Print}
use Rattle.ty_core.specs.Types.{Typ, con, none, var, labels}
use Rattle.ty_core.specs.declared.mark.Mark.TheVariants.{Any}
use Rattle.ty_core.specs.declared.name.TyName.{TyName}
use Rattle.ty_core.specs.declared.name.Equality.TheVariants.{Always}
use Rattle.ty_core.specs.declared.scheme.Quantified.{Quantified}
use Rattle.ir_poly.specs.of_ir_values.Values.{false_number, true_number}
use Rattle.ir_poly.specs.of_ir_plain.Tree as te
use Rattle.ir_poly.specs.Prog.{fixed, held, Pat, any_pat, variable_pat, constant_pat, con_pat, con_of_pat, ref_of_pat, exn_pat, exn_of_pat, fields_pat, as_pat, no_pats, a_pat, Exp, constant_exp, variable_exp, own_exp, con_exp, ref_exp, exn_exp, prim_exp, fields_exp, let_exp, app_exp, case_exp, chain_exp, handle_exp, raise_exp, fn_exp, no_fields, a_field, only, link, Rules, no_rules, a_rule, last, by_rules, more, Decs, no_decs, val_dec, exception_dec, no_binds, a_bind, no_funs, a_fun}
use Rattle.ir_poly.specs.ProgChecked.{variable_checked, any_checked, fields_checked, no_pats_checked, a_pat_checked, c_constant, c_variable, c_variable_one, c_fields, c_app, c_fn, c_no_fields, c_field, c_last, DecsChecked, c_no_decs, c_val, c_no_binds, c_general, c_plain, c_no_funs}
use Rattle.ir_poly.specs.Tests.{Tests}
use Rattle.ir_poly.specs.Tests as tests
use Rattle.ir_poly.specs.TestsChecked.{Checked, has_int, has_string, general}
use Rattle.ir_poly.specs.Types.{int_name, string_name, of_name, unit_type, function_type, pair_type, initial_constructors}
use Rattle.match_compile.specs.Compile.{atom, put, otherwise, initial, compile}
use Rattle.match_compile.proofs.Programs.{typing-kept}

abbrev t : Typ
t = con (labels []) none

abbrev y : TyName
y = record { stamp = 9; arity = 0; equality = Always }

abbrev at : ℕ → Place
at n = record { file = 0; byte = n }

abbrev names : List ℕ
names = 90 ∷ 91 ∷ 92 ∷ 93 ∷ 94 ∷ 95 ∷ 96 ∷ []

abbrev outcome : List ℕ → End → List Place → Outcome
outcome out end turns = record { output = out; end = end; turns = turns }

abbrev does : Decs → ℕ → Outcome
does ds m = tests.run names (compile ds) m

-- val p = e
abbrev val : Pat → Exp → Decs → Decs
val p e ds = val_dec [] (a_bind (at 0) false p t e no_binds) no_funs ds

abbrev just : Exp → Decs
just e = val any_pat e no_decs

abbrev number : ℕ → Exp
number n = constant_exp (int (pos n)) t

abbrev text : List ℕ → Exp
text s = constant_exp (string s) t

abbrev name : ℕ → Exp
name x = variable_exp x [] t

abbrev app : ℕ → Exp → Exp → Exp
app n f a = app_exp (at n) t f a

abbrev pair : Exp → Exp → Exp
pair a b = fields_exp t (a_field (Number 1) a (a_field (Number 2) b no_fields))

abbrev print : ℕ → Exp → Exp
print n e = app n (prim_exp Print [] t) e

abbrev say : ℕ → ℕ → Exp
say n byte = print n (text (byte ∷ []))

-- prints, and then
abbrev saying : ℕ → ℕ → Exp → Exp
saying n byte e = case_exp (at 0) t (say n byte) (a_rule any_pat e no_rules)

abbrev case : Exp → Rules → Exp
case e rs = case_exp (at 0) t e rs

-- val x = 1: each variable is the next one; where a pattern fails, Bind is raised
one-binding : compile (val (variable_pat 7) (number 1) no_decs)
    ≡ te.first (put [] 1 t (te.const (int (pos 1))) (put [] 2 t (te.make_record t te.no_row) (te.ret (atom 2)))) (otherwise [] 3 t 0 (initial 1))
one-binding = refl

-- a sum is performed at once
one-sum : compile (just (app 3 (prim_exp Add (t ∷ []) t) (pair (number 1) (number 2))))
    ≡ te.first (put [] 1 t (te.const (int (pos 1))) (put [] 2 t (te.const (int (pos 2))) (put [] 3 t (te.prim (Some (at 3)) Add t (te.an_atom (atom 1) (te.an_atom (atom 2) te.no_atoms))) (put [] 4 t (te.make_record t te.no_row) (te.ret (atom 4)))))) (otherwise [] 5 t 0 (initial 1))
one-sum = refl

-- a rule that any value fits comes at once: its variable is the value, and nothing is tested
one-direct : compile (just (case (number 1) (a_rule (variable_pat 5) (name 5) no_rules)))
    ≡ te.first (put [] 1 t (te.const (int (pos 1))) (put [] 2 t (te.use_of (atom 1)) (put [] 3 t (te.make_record t te.no_row) (te.ret (atom 3))))) (otherwise [] 4 t 0 (initial 1))
one-direct = refl

-- a record's fields have their values in the order written, and stand in it in the order of labels
one-record : compile (just (fields_exp t (a_field (Number 2) (number 7) (a_field (Number 1) (number 3) no_fields))))
    ≡ te.first (put [] 1 t (te.const (int (pos 7))) (put [] 2 t (te.const (int (pos 3))) (put [] 3 t (te.make_record t (te.a_row (Number 1) (atom 2) (te.a_row (Number 2) (atom 1) te.no_row)))
    (put [] 4 t (te.make_record t te.no_row) (te.ret (atom 4)))))) (otherwise [] 5 t 0 (initial 1))
one-record = refl

-- Order of evaluation

-- operator, operand, and then the call
call-order : does (just (app 3 (saying 1 97 (fn_exp t (last 1 t (name 1)))) (saying 2 98 (number 1)))) 3 ≡ outcome (97 ∷ 98 ∷ []) ended (at 1 ∷ at 2 ∷ at 3 ∷ [])
call-order = refl

-- fields as they are written
field-order : does (just (fields_exp t (a_field (Number 2) (say 1 97) (a_field (Number 1) (say 2 98) no_fields)))) 2 ≡ outcome (97 ∷ 98 ∷ []) ended (at 1 ∷ at 2 ∷ [])
field-order = refl

-- the arguments of a primitive that is performed at once, and of a constructor and an exception
argument-order : does (just (app 3 (prim_exp Divide [] t) (pair (saying 1 97 (number 1)) (saying 2 98 (number 0))))) 3 ≡ outcome (97 ∷ 98 ∷ []) (uncaught 93) (at 1 ∷ at 2 ∷ at 3 ∷ [])
argument-order = refl

construction-order : does (just (app 2 (con_exp 9 y [] t) (saying 1 97 (number 1)))) 1 ≡ outcome (97 ∷ []) going (at 1 ∷ [])
construction-order = refl

-- an operator that is no exception's name goes wrong before its argument
name-first : does (just (app 2 (exn_exp (held 5) t) (say 1 97))) 2 ≡ outcome [] wrong []
name-first = refl

-- bindings that are declared together: each value and its match before the next value; none sees another's variables
together-order : does (val_dec [] (a_bind (at 0) false (constant_pat (int (pos 1))) t (saying 1 97 (number 1)) (a_bind (at 0) false (constant_pat (int (pos 3))) t (saying 2 98 (number 2)) (a_bind (at 0) false any_pat t (say 3 99) no_binds))) no_funs no_decs) 3
    ≡ outcome (97 ∷ 98 ∷ []) (uncaught 91) (at 1 ∷ at 2 ∷ [])
together-order = refl

together-apart : does (val (variable_pat 1) (text (97 ∷ [])) (val_dec [] (a_bind (at 0) false (variable_pat 1) t (text (98 ∷ [])) (a_bind (at 0) false (variable_pat 2) t (name 1) no_binds)) no_funs (just (print 1 (name 2))))) 1 ≡ outcome (97 ∷ []) ended (at 1 ∷ [])
together-apart = refl

-- a declaration before the body; the body's value
let-order : does (just (print 2 (let_exp t (just (say 1 97)) (text (98 ∷ []))))) 2 ≡ outcome (97 ∷ 98 ∷ []) ended (at 1 ∷ at 2 ∷ [])
let-order = refl

-- a handler after what it handles
handle-order : does (exception_dec 1 70 None (just (handle_exp t (raise_exp t (saying 1 97 (exn_exp (held 1) t))) (a_rule (exn_pat (held 1)) (say 2 98) no_rules)))) 2 ≡ outcome (97 ∷ 98 ∷ []) ended (at 1 ∷ at 2 ∷ [])
handle-order = refl

-- operands up to the first that stops
abbrev yes : Exp
yes = con_exp true_number y [] t

abbrev no : Exp
no = con_exp false_number y [] t

abbrev if-so : Exp → Exp
if-so e = case e (a_rule (con_pat true_number) (say 8 121) (a_rule (con_pat false_number) (say 9 110) no_rules))

and-stops : does (just (if-so (chain_exp true t (link (saying 1 97 no) (link (saying 2 98 yes) (only (saying 3 99 yes))))))) 3 ≡ outcome (97 ∷ 110 ∷ []) ended (at 1 ∷ at 9 ∷ [])
and-stops = refl

or-goes-on : does (just (if-so (chain_exp false t (link (saying 1 97 no) (link (saying 2 98 yes) (only (saying 3 99 yes))))))) 3 ≡ outcome (97 ∷ 98 ∷ 121 ∷ []) ended (at 1 ∷ at 2 ∷ at 8 ∷ [])
or-goes-on = refl

and-other : does (just (chain_exp true t (link (con_exp 9 y [] t) (only yes)))) 0 ≡ outcome [] (uncaught 90) []
and-other = refl

-- two parameters, two calls
curried : does (just (app 2 (app 1 (fn_exp t (more 1 t (last 2 t (print 3 (name 1))))) (text (97 ∷ []))) (number 0))) 3 ≡ outcome (97 ∷ []) ended (at 1 ∷ at 2 ∷ at 3 ∷ [])
curried = refl

-- Matches

-- the first rule that fits
first-rule : does (just (case (number 1) (a_rule (constant_pat (int (pos 2))) (say 1 97) (a_rule (constant_pat (int (pos 1))) (say 2 98) (a_rule any_pat (say 3 99) no_rules))))) 1 ≡ outcome (98 ∷ []) ended (at 2 ∷ [])
first-rule = refl

-- what a rule that fails has bound is gone in the next one
rule-leaves : does (just (case (pair (number 1) (number 2)) (a_rule (fields_pat false (a_pat (Number 1) t (variable_pat 5) (a_pat (Number 2) t (constant_pat (int (pos 3))) no_pats))) (name 5) (a_rule any_pat (name 5) no_rules)))) 1 ≡ outcome [] wrong []
rule-leaves = refl

-- and what was bound outside is seen again
outer-again : does (val (variable_pat 5) (text (97 ∷ [])) (just (case (pair (number 1) (number 2)) (a_rule (fields_pat false (a_pat (Number 1) t (variable_pat 5) (a_pat (Number 2) t (constant_pat (int (pos 3))) no_pats))) (say 1 98) (a_rule any_pat (print 2 (name 5)) no_rules))))) 1 ≡ outcome (97 ∷ []) ended (at 2 ∷ [])
outer-again = refl

-- a match in a rule of a match of the same value
nested : does (val (variable_pat 1) (number 2) (just (case (name 1) (a_rule (constant_pat (int (pos 2))) (case (name 1) (a_rule (constant_pat (int (pos 3))) (say 1 97) (a_rule (variable_pat 2) (say 2 98) no_rules))) (a_rule any_pat (say 3 99) no_rules))))) 1 ≡ outcome (98 ∷ []) ended (at 2 ∷ [])
nested = refl

-- Bind where a declaration fails, Match where no rule fits, also of a function; a handler's packet goes on
bind : does (val (constant_pat (int (pos 2))) (number 1) (just (say 1 97))) 1 ≡ outcome [] (uncaught 91) []
bind = refl

match : does (just (case (number 1) (a_rule (constant_pat (int (pos 2))) (say 1 97) no_rules))) 1 ≡ outcome [] (uncaught 90) []
match = refl

match-of-fn : does (just (app 1 (fn_exp t (by_rules (at 0) t t (a_rule (constant_pat (int (pos 2))) (number 0) no_rules))) (number 1))) 1 ≡ outcome [] (uncaught 90) (at 1 ∷ [])
match-of-fn = refl

goes-on : does (exception_dec 1 70 None (just (handle_exp t (raise_exp t (exn_exp (held 1) t)) (a_rule (exn_pat (fixed 1)) (say 1 97) no_rules)))) 1 ≡ outcome [] (uncaught 70) []
goes-on = refl

-- a string constant: the whole text counts
string-rule : does (just (case (text (97 ∷ 98 ∷ 99 ∷ [])) (a_rule (constant_pat (string (97 ∷ 98 ∷ []))) (say 1 97) (a_rule (constant_pat (string (97 ∷ 98 ∷ 99 ∷ []))) (say 2 98) no_rules)))) 1 ≡ outcome (98 ∷ []) ended (at 2 ∷ [])
string-rule = refl

-- further fields, `as`, references, exceptions with arguments
further : does (val (fields_pat true (a_pat (Number 2) t (variable_pat 1) no_pats)) (pair (number 0) (text (97 ∷ []))) (just (print 1 (name 1)))) 1 ≡ outcome (97 ∷ []) ended (at 1 ∷ [])
further = refl

as-both : does (val (as_pat 1 (con_of_pat 9 t (variable_pat 2))) (app 1 (con_exp 9 y [] t) (text (97 ∷ []))) (just (case (name 1) (a_rule (con_of_pat 9 t (variable_pat 3)) (print 3 (name 2)) no_rules)))) 2 ≡ outcome (97 ∷ []) ended (at 1 ∷ at 3 ∷ [])
as-both = refl

reference : does (val (variable_pat 1) (app 1 (ref_exp t t) (text (97 ∷ []))) (val any_pat (app 2 (prim_exp Assign [] t) (pair (name 1) (text (98 ∷ [])))) (val (ref_of_pat t (variable_pat 2)) (name 1) (just (print 3 (name 2)))))) 3 ≡ outcome (98 ∷ []) ended (at 1 ∷ at 2 ∷ at 3 ∷ [])
reference = refl

packet : does (exception_dec 1 70 (Some t) (just (handle_exp t (raise_exp t (app 1 (exn_exp (held 1) t) (text (97 ∷ [])))) (a_rule (exn_of_pat (held 1) t (variable_pat 3)) (print 2 (name 3)) no_rules)))) 2 ≡ outcome (97 ∷ []) ended (at 1 ∷ at 2 ∷ [])
packet = refl

-- a group: each function sees all, also under two names
loops : does (val_dec [] no_binds (a_fun (1 ∷ 2 ∷ []) t (last 3 t (app 1 (own_exp 4 t) (name 3))) (a_fun (4 ∷ []) t (last 5 t (saying 2 97 (app 3 (own_exp 2 t) (name 5)))) no_funs)) (just (app 4 (name 1) (number 0)))) 5 ≡ outcome (97 ∷ []) going (at 4 ∷ at 1 ∷ at 2 ∷ at 3 ∷ at 1 ∷ [])
loops = refl

-- A generalised pattern: val (f, g) = (fn x => x, fn x => x), used at int and at string

abbrev q : Quantified
q = record { variable = 0; mark = Any }

abbrev a : Typ
a = var 0

abbrev integer : Typ
integer = of_name int_name

abbrev word : Typ
word = of_name string_name

abbrev to : Typ → Typ
to u = function_type u u

abbrev identity : ℕ → Exp
identity x = fn_exp (to a) (last x a (variable_exp x [] a))

abbrev used : (f n : ℕ) → Typ → Exp → Exp
used f n u e = app_exp (at n) u (variable_exp f (u ∷ []) (to u)) e

abbrev two_at_two : Decs
two_at_two =
    val_dec (q ∷ []) (a_bind (at 0) true (fields_pat false (a_pat (Number 1) (to a) (variable_pat 1) (a_pat (Number 2) (to a) (variable_pat 2) no_pats))) (pair_type (to a) (to a))
    (fields_exp (pair_type (to a) (to a)) (a_field (Number 1) (identity 3) (a_field (Number 2) (identity 4) no_fields))) no_binds) no_funs
    (val_dec [] (a_bind (at 0) false any_pat integer (used 1 1 integer (constant_exp (int (pos 3)) integer)) (a_bind (at 0) false any_pat word (used 1 2 word (constant_exp (string (97 ∷ [])) word))
    (a_bind (at 0) false any_pat integer (used 2 3 integer (constant_exp (int (pos 3)) integer)) no_binds))) no_funs no_decs)

two-are-typed : DecsChecked (initial_constructors ++ []) [] [] two_at_two ((2, general (q ∷ []) var (to a)) ∷ (1, general (q ∷ []) var (to a)) ∷ [])
two-are-typed =
    c_val refl (c_general refl refl (fields_checked ((Number 1, to a) ∷ (Number 2, to a) ∷ []) refl (a_pat_checked refl refl variable_checked (a_pat_checked refl refl variable_checked no_pats_checked)) refl)
    (c_fields {r = (Number 1, to a) ∷ (Number 2, to a) ∷ []} (c_field (c_fn (c_last refl (c_variable_one refl) refl)) (c_field (c_fn (c_last refl (c_variable_one refl) refl)) c_no_fields)) refl refl) c_no_binds) c_no_funs
    (c_val refl (c_plain refl any_checked (c_app (c_variable {qs = q ∷ []} refl (tt, tt) refl refl) (c_constant (has_int (pos 3))) refl)
    (c_plain refl any_checked (c_app (c_variable {qs = q ∷ []} refl (tt, tt) refl refl) (c_constant (has_string (97 ∷ []))) refl)
    (c_plain refl any_checked (c_app (c_variable {qs = q ∷ []} refl (tt, tt) refl refl) (c_constant (has_int (pos 3))) refl) c_no_binds))) c_no_funs c_no_decs)

-- so what it becomes is typed, and does the same
two-stay-typed : Checked (initial_constructors ++ []) false [] [] (compile two_at_two) unit_type
two-stay-typed = typing-kept two_at_two [] _ two-are-typed

two-do : does two_at_two 3 ≡ outcome [] ended (at 1 ∷ at 2 ∷ at 3 ∷ [])
two-do = refl

-- a generalised pattern that fails raises Bind at once
general-fails : does (val_dec (q ∷ []) (a_bind (at 0) true (con_of_pat 9 t (variable_pat 1)) t (con_exp 8 y [] t) no_binds) no_funs (just (say 1 97))) 1 ≡ outcome [] (uncaught 91) []
general-fails = refl

-- its value is made once
general-once : does (val_dec (q ∷ []) (a_bind (at 0) true (con_of_pat 9 t (fields_pat false (a_pat (Number 1) t (variable_pat 1) (a_pat (Number 2) t (variable_pat 2) no_pats)))) t (app 1 (con_exp 9 y [] t) (pair (text (97 ∷ [])) (text (98 ∷ [])))) no_binds) no_funs (val any_pat (print 2 (name 1)) (just (print 3 (name 2))))) 3
    ≡ outcome (97 ∷ 98 ∷ []) ended (at 1 ∷ at 2 ∷ at 3 ∷ [])
general-once = refl
