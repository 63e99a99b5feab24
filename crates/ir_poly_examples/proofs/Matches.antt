-- What programs with source matches do in so many turns, one or more for each construct, by computation. Where the number is `m` it is so at each, and
-- where it is `suc n` at each but 0. They are those of the tests of `ir_prog` where those are well typed; types are ignored, and unit's stands everywhere.
use Rattle.std.proofs.Common.{◌≡◌, ℕ, suc, true, false, List, [], ◌∷◌, Some, pos, refl}
use Rattle.mlc_runs.specs.Outcome.{End, ended, uncaught, going, wrong, Outcome}
use Rattle.mlc_names.specs.declared.label.Label.TheVariants.{Number}
use Rattle.mlc_base.specs.declared.place.Place.{Place}
use Rattle.mlc_prims.specs.LitOf.{int, string}
use Rattle.mlc_prims.specs.declared.basis.BasisPrimitive.TheVariants.{Add, Equals, Print}
use Rattle.ty_core.specs.Types.{Typ, con, none, labels}
use Rattle.ty_core.specs.declared.name.TyName.{TyName}
use Rattle.ty_core.specs.declared.name.Equality.TheVariants.{Always}
use Rattle.ir_values.specs.Values.{true_number, false_number, nil_number, cons_number}
use Rattle.ir_poly.specs.Prog.{fixed, held, Pat, any_pat, variable_pat, constant_pat, con_pat, con_of_pat, ref_of_pat, exn_pat, exn_of_pat, fields_pat, as_pat, no_pats, a_pat, Exp, constant_exp, variable_exp, own_exp, con_exp, ref_exp, exn_exp, prim_exp, fields_exp, let_exp, app_exp, case_exp, chain_exp, handle_exp, raise_exp, fn_exp, counted_exp, no_fields, a_field, only, link, Rules, no_rules, a_rule, last, by_rules, more, Decs, no_decs, val_dec, exception_dec, counted_dec, no_binds, a_bind, no_funs, a_fun}
use Rattle.ir_poly.specs.ProgMeaning.{run}

abbrev t : Typ
t = con (labels []) none

abbrev y : TyName
y = record { stamp = 9; arity = 0; equality = Always }

abbrev at : ℕ → Place
at n = record { file = 0; byte = n }

-- the identifiers of the basis' exceptions
abbrev does : Decs → ℕ → Outcome
does ds m = run (90 ∷ 91 ∷ 92 ∷ 93 ∷ 94 ∷ 95 ∷ 96 ∷ []) ds m

abbrev silent : End → List Place → Outcome
silent e turns = record { output = []; end = e; turns = turns }

abbrev says : List ℕ → End → List Place → Outcome
says out e turns = record { output = out; end = e; turns = turns }

-- val p = e
abbrev val : Pat → Exp → Decs → Decs
val p e ds = val_dec [] (a_bind (at 0) false p t e no_binds) no_funs ds

abbrev just : Exp → Decs
just e = val (variable_pat 100) e no_decs

abbrev three : Exp
three = constant_exp (int (pos 3)) t

abbrev is-three : Pat
is-three = constant_pat (int (pos 3))

abbrev is-four : Pat
is-four = constant_pat (int (pos 4))

abbrev name : ℕ → Exp
name x = variable_exp x [] t

abbrev app : ℕ → Exp → Exp → Exp
app n f a = app_exp (at n) t f a

abbrev pair : Exp → Exp → Exp
pair a b = fields_exp t (a_field (Number 1) a (a_field (Number 2) b no_fields))

abbrev pair-pat : Pat → Pat → Pat
pair-pat p q = fields_pat false (a_pat (Number 1) t p (a_pat (Number 2) t q no_pats))

abbrev prints : ℕ → Exp → Exp
prints n e = app n (prim_exp Print [] t) e

-- prints a byte, with a turn
abbrev say : ℕ → ℕ → Exp
say n byte = prints n (constant_exp (string (byte ∷ [])) t)

abbrev case : Exp → Rules → Exp
case e rs = case_exp (at 0) t e rs

-- prints, and then
abbrev saying : ℕ → ℕ → Exp → Exp
saying n byte e = case (say n byte) (a_rule any_pat e no_rules)

abbrev yes : Exp
yes = con_exp true_number y [] t

abbrev no : Exp
no = con_exp false_number y [] t

-- What needs no turn

constant : (m : ℕ) → does (just three) m ≡ silent ended []
constant m = refl

text : (m : ℕ) → does (just (constant_exp (string (97 ∷ [])) t)) m ≡ silent ended []
text m = refl

constructor-alone : (m : ℕ) → does (just (con_exp 200 y [] t)) m ≡ silent ended []
constructor-alone m = refl

reference-alone : (m : ℕ) → does (just (ref_exp t t)) m ≡ silent ended []
reference-alone m = refl

primitive-alone : (m : ℕ) → does (just (prim_exp Add [] t)) m ≡ silent ended []
primitive-alone m = refl

exception-alone : (m : ℕ) → does (just (exn_exp (fixed 6) t)) m ≡ silent ended []
exception-alone m = refl

record-of-two : (m : ℕ) → does (just (pair three three)) m ≡ silent ended []
record-of-two m = refl

function-alone : (m : ℕ) → does (just (fn_exp t (last 2 t (say 1 97)))) m ≡ silent ended []
function-alone m = refl

let-in : (m : ℕ) → does (just (let_exp t (val (variable_pat 2) three no_decs) (name 2))) m ≡ silent ended []
let-in m = refl

weights : (m : ℕ) → does (counted_dec 5 (just (counted_exp 4 t three))) m ≡ silent ended []
weights m = refl

nothing : (m : ℕ) → does no_decs m ≡ silent ended []
nothing m = refl

unbound : (m : ℕ) → does (just (name 9)) m ≡ silent wrong []
unbound m = refl

-- Calls: a turn each, when operator and operand are there

boxed-none : does (just (app 1 (con_exp 200 y [] t) three)) 0 ≡ silent going []
boxed-none = refl

boxed : (n : ℕ) → does (just (app 1 (con_exp 200 y [] t) three)) (suc n) ≡ silent ended (at 1 ∷ [])
boxed n = refl

refers-none : does (just (app 1 (ref_exp t t) three)) 0 ≡ silent going []
refers-none = refl

refers : (n : ℕ) → does (just (app 1 (ref_exp t t) three)) (suc n) ≡ silent ended (at 1 ∷ [])
refers n = refl

adds-none : does (just (app 1 (prim_exp Add [] t) (pair three three))) 0 ≡ silent going []
adds-none = refl

adds : (n : ℕ) → does (just (app 1 (prim_exp Add [] t) (pair three three))) (suc n) ≡ silent ended (at 1 ∷ [])
adds n = refl

equals : (n : ℕ) → does (just (app 1 (prim_exp Equals [] t) (pair (pair three three) (pair three three)))) (suc n) ≡ silent ended (at 1 ∷ [])
equals n = refl

applied-none : does (just (app 1 (fn_exp t (last 2 t (name 2))) three)) 0 ≡ silent going []
applied-none = refl

applied : (n : ℕ) → does (just (app 1 (fn_exp t (last 2 t (name 2))) three)) (suc n) ≡ silent ended (at 1 ∷ [])
applied n = refl

no-function-none : does (just (app 1 three three)) 0 ≡ silent wrong []
no-function-none = refl

no-function : (n : ℕ) → does (just (app 1 three three)) (suc n) ≡ silent wrong []
no-function n = refl

-- 3 :: 3 :: nil
abbrev list : Decs
list = just (app 1 (con_exp cons_number y [] t) (pair three (app 2 (con_exp cons_number y [] t) (pair three (con_exp nil_number y [] t)))))

list-none : does list 0 ≡ silent going []
list-none = refl

list-one : does list 1 ≡ silent going (at 2 ∷ [])
list-one = refl

list-two : (n : ℕ) → does list (suc (suc n)) ≡ silent ended (at 2 ∷ at 1 ∷ [])
list-two n = refl

-- a function of two parameters, with two arguments
abbrev curried : Decs
curried = just (app 2 (app 1 (fn_exp t (more 2 t (last 3 t (name 2)))) three) three)

curried-none : does curried 0 ≡ silent going []
curried-none = refl

curried-one : does curried 1 ≡ silent going (at 1 ∷ [])
curried-one = refl

curried-two : (n : ℕ) → does curried (suc (suc n)) ≡ silent ended (at 1 ∷ at 2 ∷ [])
curried-two n = refl

-- operator, operand, call, body
abbrev order : Decs
order = just (app 3 (saying 1 97 (fn_exp t (last 2 t (say 4 99)))) (saying 2 98 three))

order-none : does order 0 ≡ silent going []
order-none = refl

order-one : does order 1 ≡ says (97 ∷ []) going (at 1 ∷ [])
order-one = refl

order-two : does order 2 ≡ says (97 ∷ 98 ∷ []) going (at 1 ∷ at 2 ∷ [])
order-two = refl

order-three : does order 3 ≡ says (97 ∷ 98 ∷ []) going (at 1 ∷ at 2 ∷ at 3 ∷ [])
order-three = refl

order-four : (n : ℕ) → does order (suc (suc (suc (suc n)))) ≡ says (97 ∷ 98 ∷ 99 ∷ []) ended (at 1 ∷ at 2 ∷ at 3 ∷ at 4 ∷ [])
order-four n = refl

-- Matches

-- case 3 of 3 => "a" | x => "b", printed
abbrev cases : Exp → Decs
cases e = just (case e (a_rule is-three (say 1 97) (a_rule (variable_pat 2) (say 2 98) no_rules)))

cases-none : does (cases three) 0 ≡ silent going []
cases-none = refl

cases-first : (n : ℕ) → does (cases three) (suc n) ≡ says (97 ∷ []) ended (at 1 ∷ [])
cases-first n = refl

cases-second : (n : ℕ) → does (cases (constant_exp (int (pos 4)) t)) (suc n) ≡ says (98 ∷ []) ended (at 2 ∷ [])
cases-second n = refl

no-case : (m : ℕ) → does (just (case three (a_rule is-four three no_rules))) m ≡ silent (uncaught 90) []
no-case m = refl

by-rules-none : does (just (app 1 (fn_exp t (by_rules (at 0) t t (a_rule is-four three no_rules))) three)) 0 ≡ silent going []
by-rules-none = refl

by-rules-no-rule : (n : ℕ) → does (just (app 1 (fn_exp t (by_rules (at 0) t t (a_rule is-four three no_rules))) three)) (suc n) ≡ silent (uncaught 90) (at 1 ∷ [])
by-rules-no-rule n = refl

by-rules : (n : ℕ) → does (just (app 1 (fn_exp t (by_rules (at 0) t t (a_rule is-three three (a_rule (variable_pat 2) (name 2) no_rules)))) three)) (suc n) ≡ silent ended (at 1 ∷ [])
by-rules n = refl

no-bind : (m : ℕ) → does (val is-four three (just (say 1 97))) m ≡ silent (uncaught 91) []
no-bind m = refl

layered : (m : ℕ) → does (just (case three (a_rule (as_pat 2 is-three) (name 2) no_rules))) m ≡ silent ended []
layered m = refl

fields : (m : ℕ) → does (just (case (pair three three) (a_rule (pair-pat (variable_pat 2) is-three) (name 2) no_rules))) m ≡ silent ended []
fields m = refl

further-fields : (m : ℕ) → does (just (case (pair three three) (a_rule (fields_pat true (a_pat (Number 2) t is-three no_pats)) three no_rules))) m ≡ silent ended []
further-fields m = refl

-- what the first rule bound is unbound in the second
rule-leaves : (m : ℕ) → does (just (case (pair three three) (a_rule (pair-pat (variable_pat 2) is-four) (name 2) (a_rule any_pat (name 2) no_rules)))) m ≡ silent wrong []
rule-leaves m = refl

abbrev opens : Decs
opens = just (case (app 1 (con_exp 200 y [] t) three) (a_rule (con_pat 201) three (a_rule (con_of_pat 200 t (variable_pat 2)) (name 2) no_rules)))

opens-none : does opens 0 ≡ silent going []
opens-none = refl

opens-one : (n : ℕ) → does opens (suc n) ≡ silent ended (at 1 ∷ [])
opens-one n = refl

abbrev reads : Decs
reads = just (case (app 1 (ref_exp t t) three) (a_rule (ref_of_pat t (variable_pat 2)) (name 2) no_rules))

reads-none : does reads 0 ≡ silent going []
reads-none = refl

reads-one : (n : ℕ) → does reads (suc n) ≡ silent ended (at 1 ∷ [])
reads-one n = refl

-- andalso and orelse: the operands that are looked at print
abbrev both : Exp → Exp → Decs
both d e = just (chain_exp true t (link (saying 1 97 d) (only (saying 2 98 e))))

abbrev either : Exp → Exp → Decs
either d e = just (chain_exp false t (link (saying 1 97 d) (only (saying 2 98 e))))

both-none : does (both yes yes) 0 ≡ silent going []
both-none = refl

both-one : does (both yes yes) 1 ≡ says (97 ∷ []) going (at 1 ∷ [])
both-one = refl

both-two : (n : ℕ) → does (both yes yes) (suc (suc n)) ≡ says (97 ∷ 98 ∷ []) ended (at 1 ∷ at 2 ∷ [])
both-two n = refl

both-stops : (n : ℕ) → does (both no yes) (suc n) ≡ says (97 ∷ []) ended (at 1 ∷ [])
both-stops n = refl

either-stops : (n : ℕ) → does (either yes yes) (suc n) ≡ says (97 ∷ []) ended (at 1 ∷ [])
either-stops n = refl

either-two : (n : ℕ) → does (either no yes) (suc (suc n)) ≡ says (97 ∷ 98 ∷ []) ended (at 1 ∷ at 2 ∷ [])
either-two n = refl

-- Groups

-- fun f x = f x, and f 3
abbrev loops : Decs
loops = val_dec [] no_binds (a_fun (1 ∷ []) t (last 2 t (app 1 (own_exp 1 t) (name 2))) no_funs) (just (app 2 (name 1) three))

loops-none : does loops 0 ≡ silent going []
loops-none = refl

loops-one : does loops 1 ≡ silent going (at 2 ∷ [])
loops-one = refl

loops-four : does loops 4 ≡ silent going (at 2 ∷ at 1 ∷ at 1 ∷ at 1 ∷ [])
loops-four = refl

-- fun f x = g x and g y = f y, and f 3
abbrev alternates : Decs
alternates = val_dec [] no_binds (a_fun (1 ∷ []) t (last 2 t (app 1 (own_exp 3 t) (name 2))) (a_fun (3 ∷ []) t (last 4 t (app 2 (own_exp 1 t) (name 4))) no_funs)) (just (app 3 (name 1) three))

alternates-four : does alternates 4 ≡ silent going (at 3 ∷ at 1 ∷ at 2 ∷ at 1 ∷ [])
alternates-four = refl

-- bindings that are declared together
together : (m : ℕ) → does (val_dec [] (a_bind (at 0) false (variable_pat 2) t three (a_bind (at 0) false is-three t three no_binds)) no_funs (just (name 2))) m ≡ silent ended []
together m = refl

-- Exceptions: the identifier of the program's is 70

raises-initial : (m : ℕ) → does (just (raise_exp t (exn_exp (fixed 0) t))) m ≡ silent (uncaught 90) []
raises-initial m = refl

no-packet : (m : ℕ) → does (just (raise_exp t three)) m ≡ silent wrong []
no-packet m = refl

handles-nothing : (m : ℕ) → does (just (handle_exp t three (a_rule (exn_pat (fixed 2)) (say 1 97) no_rules))) m ≡ silent ended []
handles-nothing m = refl

abbrev raising : Rules → Decs
raising rs = exception_dec 1 70 (Some t) (just (handle_exp t (raise_exp t (app 1 (exn_exp (held 1) t) three)) rs))

-- a handler is none for want of turns
raising-none : does (raising (a_rule any_pat (say 2 97) no_rules)) 0 ≡ silent going []
raising-none = refl

raising-one : does (raising (a_rule any_pat (say 2 97) no_rules)) 1 ≡ silent going (at 1 ∷ [])
raising-one = refl

raising-two : (n : ℕ) → does (raising (a_rule any_pat (say 2 97) no_rules)) (suc (suc n)) ≡ says (97 ∷ []) ended (at 1 ∷ at 2 ∷ [])
raising-two n = refl

opened : (n : ℕ) → does (raising (a_rule (exn_of_pat (held 1) t (variable_pat 2)) (name 2) no_rules)) (suc n) ≡ silent ended (at 1 ∷ [])
opened n = refl

goes-on : (n : ℕ) → does (raising (a_rule (exn_pat (fixed 2)) three no_rules)) (suc n) ≡ silent (uncaught 70) (at 1 ∷ [])
goes-on n = refl
