-- A small program for each construct with source matches, with its outcome at several numbers of turns, by computation. Types are ignored, and unit's stands everywhere.
use Rattle.std.proofs.Common.{◌≡◌, ℕ, true, false, List, [], ◌∷◌, Some, None, pos, refl}
use Rattle.ir_plain.specs.of_mlc_runs.Outcome.{End, ended, uncaught, going, wrong, Outcome}
use Rattle.ir_plain.specs.of_mlc_runs.Run.{World, gives}
use Rattle.ir_plain.specs.of_mlc_names.declared.label.Label.TheVariants.{Number}
use Rattle.mlc_base.specs.declared.place.Place.{Place}
use Rattle.ir_plain.specs.of_mlc_prims.LitOf.{int, string}
use Rattle.ir_plain.specs.of_mlc_prims.declared.basis.BasisPrimitive.TheVariants.{Divide, Equals, Assign, Print}
use Rattle.ty_basis.specs.of_ty_core.Types.{Typ, con, none, labels}
use Rattle.ty_basis.specs.of_ty_core.declared.name.TyName.{TyName}
use Rattle.ty_basis.specs.of_ty_core.declared.name.Equality.TheVariants.{Always}
use Rattle.ir_plain.specs.of_ir_values.Values.{literal, record_of, field, empty, true_number, false_number}
use Rattle.ir_plain.specs.of_ir_values.Values as values
use Rattle.ir_poly.specs.Prog.{fixed, held, Pat, any_pat, variable_pat, constant_pat, con_pat, con_of_pat, ref_of_pat, exn_pat, exn_of_pat, fields_pat, as_pat, no_pats, a_pat, Exp, constant_exp, variable_exp, own_exp, con_exp, ref_exp, exn_exp, prim_exp, fields_exp, let_exp, app_exp, case_exp, chain_exp, handle_exp, raise_exp, fn_exp, counted_exp, no_fields, a_field, only, link, Rules, no_rules, a_rule, last, by_rules, more, Decs, no_decs, val_dec, exception_dec, counted_dec, no_binds, a_bind, no_funs, a_fun}
use Rattle.ir_poly.specs.ProgMeaning.{V, Apply, eval, run}
use Rattle.ir_poly.specs.ProgWeight.{decs_weight}

abbrev t : Typ
t = con (labels []) none

abbrev y : TyName
y = record { stamp = 9; arity = 0; equality = Always }

abbrev at : ℕ → Place
at n = record { file = 0; byte = n }

abbrev initial : List ℕ
initial = 90 ∷ 91 ∷ 92 ∷ 93 ∷ 94 ∷ 95 ∷ 96 ∷ []

abbrev outcome : List ℕ → End → List Place → Outcome
outcome out end turns = record { output = out; end = end; turns = turns }

abbrev does : Decs → ℕ → Outcome
does ds m = run initial ds m

-- val p = e
abbrev val : Pat → Exp → Decs → Decs
val p e ds = val_dec [] (a_bind (at 0) false p t e no_binds) no_funs ds

abbrev just : Exp → Decs
just e = val any_pat e no_decs

abbrev number : ℕ → Exp
number n = constant_exp (int (pos n)) t

abbrev text : List ℕ → Exp
text s = constant_exp (string s) t

abbrev name : ℕ → Exp
name x = variable_exp x [] t

abbrev app : ℕ → Exp → Exp → Exp
app n f a = app_exp (at n) t f a

abbrev pair : Exp → Exp → Exp
pair a b = fields_exp t (a_field (Number 1) a (a_field (Number 2) b no_fields))

-- prints, with a turn
abbrev print : ℕ → Exp → Exp
print n e = app n (prim_exp Print [] t) e

abbrev say : ℕ → ℕ → Exp
say n byte = print n (text (byte ∷ []))

-- prints, and then
abbrev saying : ℕ → ℕ → Exp → Exp
saying n byte e = case_exp (at 0) t (say n byte) (a_rule any_pat e no_rules)

one-turn : does (just (say 1 104)) 1 ≡ outcome (104 ∷ []) ended (at 1 ∷ [])
one-turn = refl

no-turn : does (just (say 1 104)) 0 ≡ outcome [] going []
no-turn = refl

-- operator, then operand, then the call
order : does (just (app 3 (saying 1 97 (fn_exp t (last 1 t (name 1)))) (saying 2 98 (number 1)))) 3 ≡ outcome (97 ∷ 98 ∷ []) ended (at 1 ∷ at 2 ∷ at 3 ∷ [])
order = refl

-- fields as they are written
field-order : does (just (pair (say 1 97) (say 2 98))) 2 ≡ outcome (97 ∷ 98 ∷ []) ended (at 1 ∷ at 2 ∷ [])
field-order = refl

-- also where they aren't written in the order of their labels
abbrev reversed : Exp
reversed = fields_exp t (a_field (Number 2) (say 1 98) (a_field (Number 1) (say 2 97) no_fields))

written-order : does (just reversed) 2 ≡ outcome (98 ∷ 97 ∷ []) ended (at 1 ∷ at 2 ∷ [])
written-order = refl

-- and then the record has them in that order
abbrev seven-and-three : Exp
seven-and-three = fields_exp t (a_field (Number 2) (number 7) (a_field (Number 1) (number 3) no_fields))

label-order : (call : Apply) (w : World V) → eval call seven-and-three empty w
    ≡ gives (record_of tt (field (Number 1) (literal (int (pos 3))) (field (Number 2) (literal (int (pos 7))) values.no_fields))) w
label-order call w = refl

-- of two with the same label the first is found
abbrev twice : Exp
twice = fields_exp t (a_field (Number 1) (number 3) (a_field (Number 1) (number 7) no_fields))

first-of-two : (call : Apply) (w : World V) → eval call twice empty w
    ≡ gives (record_of tt (field (Number 1) (literal (int (pos 3))) (field (Number 1) (literal (int (pos 7))) values.no_fields))) w
first-of-two call w = refl

-- a primitive of a tuple, one alone, and what it raises
divides : does (just (app 1 (prim_exp Divide [] t) (pair (number 1) (number 0)))) 1 ≡ outcome [] (uncaught 93) (at 1 ∷ [])
divides = refl

-- an operator that is written as `fn` takes no turn
no-call : does (just (case_exp (at 0) t (number 1) (a_rule (variable_pat 1) (name 1) no_rules))) 0 ≡ outcome [] ended []
no-call = refl

-- the first rule that matches; none raises Match
first-rule : does (just (case_exp (at 0) t (number 1) (a_rule (constant_pat (int (pos 2))) (say 1 97) (a_rule (constant_pat (int (pos 1))) (say 2 98) (a_rule any_pat (say 3 99) no_rules))))) 1 ≡ outcome (98 ∷ []) ended (at 2 ∷ [])
first-rule = refl

no-rule : does (just (case_exp (at 0) t (number 1) (a_rule (constant_pat (int (pos 2))) (say 1 97) no_rules))) 1 ≡ outcome [] (uncaught 90) []
no-rule = refl

-- what a rule binds is gone in the next one
rule-leaves : does (just (case_exp (at 0) t (pair (number 1) (number 2)) (a_rule (fields_pat false (a_pat (Number 1) t (variable_pat 5) (a_pat (Number 2) t (constant_pat (int (pos 3))) no_pats))) (name 5) (a_rule any_pat (name 5) no_rules)))) 1 ≡ outcome [] wrong []
rule-leaves = refl

-- a binding that doesn't match raises Bind
no-bind : does (val (constant_pat (int (pos 2))) (number 1) (just (say 1 97))) 1 ≡ outcome [] (uncaught 91) []
no-bind = refl

-- a function of rules raises Match
no-rule-of-fn : does (just (app 1 (fn_exp t (by_rules (at 0) t t (a_rule (constant_pat (int (pos 2))) (number 0) no_rules))) (number 1))) 1 ≡ outcome [] (uncaught 90) (at 1 ∷ [])
no-rule-of-fn = refl

-- two parameters, two calls
abbrev curried : Decs
curried = just (app 2 (app 1 (fn_exp t (more 1 t (last 2 t (print 3 (name 1))))) (text (97 ∷ []))) (number 0))

curried-three : does curried 3 ≡ outcome (97 ∷ []) ended (at 1 ∷ at 2 ∷ at 3 ∷ [])
curried-three = refl

curried-one : does curried 1 ≡ outcome [] going (at 1 ∷ [])
curried-one = refl

-- bindings that are declared together see none of each other
together : does (val (variable_pat 1) (text (97 ∷ [])) (val_dec [] (a_bind (at 0) false (variable_pat 1) t (text (98 ∷ [])) (a_bind (at 0) false (variable_pat 2) t (name 1) no_binds)) no_funs (just (print 1 (name 2))))) 1 ≡ outcome (97 ∷ []) ended (at 1 ∷ [])
together = refl

-- a group: each function sees all, also under two names
abbrev loops : Decs
loops = val_dec [] no_binds (a_fun (1 ∷ 2 ∷ []) t (last 3 t (app 1 (own_exp 4 t) (name 3))) (a_fun (4 ∷ []) t (last 5 t (saying 2 97 (app 3 (own_exp 2 t) (name 5)))) no_funs)) (just (app 4 (name 1) (number 0)))

loops-five : does loops 5 ≡ outcome (97 ∷ []) going (at 4 ∷ at 1 ∷ at 2 ∷ at 3 ∷ at 1 ∷ [])
loops-five = refl

-- a constructor is a function, and what is made is told apart by its constructor
abbrev made : Exp
made = app 1 (con_exp 9 y [] t) (text (97 ∷ []))

constructed : does (just (case_exp (at 0) t made (a_rule (con_of_pat 8 t any_pat) (number 0) (a_rule (con_of_pat 9 t (variable_pat 1)) (print 2 (name 1)) no_rules)))) 2 ≡ outcome (97 ∷ []) ended (at 1 ∷ at 2 ∷ [])
constructed = refl

alone : does (just (case_exp (at 0) t (con_exp 8 y [] t) (a_rule (con_pat 9) (number 0) (a_rule (con_pat 8) (say 1 98) no_rules)))) 1 ≡ outcome (98 ∷ []) ended (at 1 ∷ [])
alone = refl

no-argument : does (just (case_exp (at 0) t made (a_rule (con_pat 9) (number 0) no_rules))) 1 ≡ outcome [] wrong (at 1 ∷ [])
no-argument = refl

-- `ref` makes a new reference by a call; patterns read it
refers : does (val (variable_pat 1) (app 1 (ref_exp t t) (text (97 ∷ []))) (val any_pat (app 2 (prim_exp Assign [] t) (pair (name 1) (text (98 ∷ [])))) (val (ref_of_pat t (variable_pat 2)) (name 1) (just (print 3 (name 2)))))) 3 ≡ outcome (98 ∷ []) ended (at 1 ∷ at 2 ∷ at 3 ∷ [])
refers = refl

-- exceptions: a name alone, a packet, handlers, and packets that go on
abbrev raising : Rules → Decs
raising rs = exception_dec 1 70 (Some t) (exception_dec 2 71 None (just (handle_exp t (raise_exp t (app 1 (exn_exp (held 1) t) (text (97 ∷ [])))) rs)))

handled : does (raising (a_rule (exn_pat (held 2)) (number 0) (a_rule (exn_of_pat (held 1) t (variable_pat 3)) (print 2 (name 3)) no_rules))) 2 ≡ outcome (97 ∷ []) ended (at 1 ∷ at 2 ∷ [])
handled = refl

goes-on : does (raising (a_rule (exn_pat (held 2)) (number 0) no_rules)) 1 ≡ outcome [] (uncaught 70) (at 1 ∷ [])
goes-on = refl

-- a handler is none for want of turns
going-stays : does (raising (a_rule any_pat (number 0) no_rules)) 0 ≡ outcome [] going []
going-stays = refl

initial-handled : does (just (handle_exp t (app 1 (prim_exp Divide [] t) (pair (number 1) (number 0))) (a_rule (exn_pat (fixed 3)) (say 2 97) no_rules))) 2 ≡ outcome (97 ∷ []) ended (at 1 ∷ at 2 ∷ [])
initial-handled = refl

no-exception : does (just (raise_exp t (number 1))) 0 ≡ outcome [] wrong []
no-exception = refl

-- andalso and orelse stop early
abbrev yes : Exp
yes = con_exp true_number y [] t

abbrev no : Exp
no = con_exp false_number y [] t

abbrev if-so : Exp → Exp
if-so e = case_exp (at 0) t e (a_rule (con_pat true_number) (say 8 121) (a_rule (con_pat false_number) (say 9 110) no_rules))

and-stops : does (just (if-so (chain_exp true t (link (saying 1 97 no) (link (saying 2 98 yes) (only (saying 3 99 yes))))))) 3 ≡ outcome (97 ∷ 110 ∷ []) ended (at 1 ∷ at 9 ∷ [])
and-stops = refl

or-goes-on : does (just (if-so (chain_exp false t (link (saying 1 97 no) (link (saying 2 98 yes) (only (saying 3 99 yes))))))) 3 ≡ outcome (97 ∷ 98 ∷ 121 ∷ []) ended (at 1 ∷ at 2 ∷ at 8 ∷ [])
or-goes-on = refl

-- an operand that is another constructor raises Match
and-other : does (just (chain_exp true t (link (con_exp 9 y [] t) (only yes)))) 0 ≡ outcome [] (uncaught 90) []
and-other = refl

-- `let` gives its body's value; `as` binds what is matched
let-in : does (just (let_exp t (val (as_pat 1 (con_of_pat 9 t (variable_pat 2))) made (val any_pat (print 2 (name 2)) no_decs)) (case_exp (at 0) t (name 1) (a_rule (con_of_pat 9 t (variable_pat 3)) (print 3 (name 3)) no_rules)))) 3 ≡ outcome (97 ∷ 97 ∷ []) ended (at 1 ∷ at 2 ∷ at 3 ∷ [])
let-in = refl

-- further fields, where the pattern allows them
further : does (val (fields_pat true (a_pat (Number 2) t (variable_pat 1) no_pats)) (pair (number 0) (text (97 ∷ []))) (just (print 1 (name 1)))) 1 ≡ outcome (97 ∷ []) ended (at 1 ∷ [])
further = refl

no-further : does (val (fields_pat false (a_pat (Number 2) t (variable_pat 1) no_pats)) (pair (number 0) (text (97 ∷ []))) (just (print 1 (name 1)))) 1 ≡ outcome [] wrong []
no-further = refl

-- equality takes no turn of its own
equal : does (just (if-so (app 1 (prim_exp Equals [] t) (pair (pair (number 1) (number 2)) (pair (number 1) (number 2)))))) 2 ≡ outcome (121 ∷ []) ended (at 1 ∷ at 8 ∷ [])
equal = refl

unbound : does (just (name 1)) 5 ≡ outcome [] wrong []
unbound = refl

-- weights mean nothing, and are added up
weighs : does (counted_dec 3 (just (counted_exp 4 t (say 1 97)))) 1 ≡ outcome (97 ∷ []) ended (at 1 ∷ [])
weighs = refl

weight-is : decs_weight (counted_dec 3 (just (counted_exp 4 t (say 1 97)))) ≡ 7
weight-is = refl
