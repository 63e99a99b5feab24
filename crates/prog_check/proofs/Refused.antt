-- For each premise of the rules of typing a phrase that breaks it alone. The answers are computed; `refused` and those after it turn them into refutations of
-- the rules.
use Rattle.std.proofs.Common.{◌≡◌, ℕ, Bool, true, false, List, [], ◌∷◌, Option, Some, None, pos, refl}
use Rattle.std.proofs.lemmas.Bool.{both_ways}
use Rattle.mlc_names.specs.declared.label.Label.TheVariants.{Number}
use Rattle.mlc_base.specs.declared.place.Place.{Place}
use Rattle.mlc_prims.specs.LitOf.{int, string}
use Rattle.mlc_prims.specs.declared.basis.BasisPrimitive.TheVariants.{Add, Equals}
use Rattle.ty_core.specs.Types.{Typ, con, var, none, more, name}
use Rattle.ty_core.specs.declared.mark.Mark.TheVariants.{Any, Equality, Class}
use Rattle.ty_core.specs.declared.name.TyName.{TyName}
use Rattle.ty_core.specs.declared.name.Equality.{Equality as Attribute}
use Rattle.ty_core.specs.declared.name.Equality.TheVariants.{Always, ByArguments}
use Rattle.ty_core.specs.declared.scheme.Quantified.{Quantified}
use Rattle.ir_poly.specs.Prog.{fixed, held, Pat, any_pat, variable_pat, constant_pat, con_pat, con_of_pat, ref_of_pat, exn_pat, exn_of_pat, fields_pat, no_pats, a_pat, Exp, constant_exp, variable_exp, own_exp, con_exp, ref_exp, exn_exp, prim_exp, fields_exp, let_exp, app_exp, case_exp, chain_exp, handle_exp, raise_exp, fn_exp, no_fields, a_field, only, link, no_rules, a_rule, last, by_rules, more as more_fun, Decs, no_decs, val_dec, exception_dec, no_binds, a_bind, no_funs, a_fun}
use Rattle.ir_poly.specs.ProgChecked.{Checked, DecsChecked}
use Rattle.ir_poly.specs.ProgOnce.{IsOnce}
use Rattle.ir_poly.specs.TestsChecked.{of_type, general, own, exception, Knowns, exn_type}
use Rattle.ir_poly.specs.Types.{int_name, string_name, bool_name, list_name, of_name, function_type, ref_type, row_type, pair_type, Constructor, constructor_of, initial_constructors}
use Rattle.ir_poly.specs.WellFormed.{Program}
use Rattle.prog_check.specs.Binders.{decs_binders, are_distinct}
use Rattle.prog_check.specs.Checking.{check_pat, check_exp, check_decs}
use Rattle.prog_check.specs.Program.{check}
use Rattle.prog_check.proofs.BindersLemmas.{once-complete}
use Rattle.prog_check.proofs.Complete.{exp-complete, decs-complete}

pub refused : {table : List Constructor} {D : List Quantified} {G : Knowns} {e : Exp} {t : Typ} → check_exp table D G e ≡ false → Checked table D G e t → ⊥
refused h k = both_ways _ h (exp-complete k)

pub refused-decs : {table : List Constructor} {D : List Quantified} {G G' : Knowns} {ds : Decs} → check_decs table D G ds ≡ false → DecsChecked table D G ds G' → ⊥
refused-decs h k = both_ways _ h (decs-complete k)

pub refused-once : (ds : Decs) → are_distinct (decs_binders ds) ≡ false → IsOnce ds → ⊥
refused-once ds h k = both_ways _ h (once-complete ds k)

abbrev table : List Constructor
table = initial_constructors

abbrev at : Place
at = record { file = 0; byte = 0 }

abbrev integer : Typ
integer = of_name int_name

abbrev text : Typ
text = of_name string_name

abbrev truth : Typ
truth = of_name bool_name

abbrev integers : Typ
integers = con (name list_name) (more integer none)

abbrev cell : Typ
cell = pair_type integer integers

abbrev to : Typ → Typ → Typ
to t u = function_type t u

-- the parameter 0, that may stand for any type, and one that admits equality
abbrev q : Quantified
q = record { variable = 0; mark = Any }

abbrev eq : Quantified
eq = record { variable = 0; mark = Equality }

abbrev a : Typ
a = var 0

abbrev three : Exp
three = constant_exp (int (pos 3)) integer

abbrev word : Exp
word = constant_exp (string (97 ∷ [])) text

abbrev yes : Exp
yes = con_exp 1 bool_name [] truth

abbrev identity : Typ → Exp
identity t = fn_exp (to t t) (last 9 t (variable_exp 9 [] t))

abbrev val : List Quantified → Bool → ℕ → Typ → Exp → Decs → Decs
val qs b x t e ds = val_dec qs (a_bind at b (variable_pat x) t e no_binds) no_funs ds

-- an exception with an argument and one without, an integer, an identity, and a function inside its group
abbrev G : Knowns
G = (1, exception (Some integer)) ∷ (2, exception None) ∷ (3, of_type integer) ∷ (4, general (q ∷ []) var (to a a)) ∷ (5, own (to integer integer)) ∷ (6, general (eq ∷ []) var (to a a)) ∷ []

abbrev pat : Pat → Typ → Bool
pat p t = check_pat table [] G p t

abbrev exp : Exp → Bool
exp e = check_exp table [] G e

abbrev decs : Decs → Bool
decs ds = check_decs table [] [] ds

-- Patterns

constant-of-another-type : pat (constant_pat (int (pos 3))) text ≡ false
constant-of-another-type = refl

constructor-without-its-argument : pat (con_pat 3) integers ≡ false
constructor-without-its-argument = refl

constructor-has-no-argument : pat (con_of_pat 2 cell any_pat) integers ≡ false
constructor-has-no-argument = refl

argument-of-another-type : pat (con_of_pat 3 integer any_pat) integers ≡ false
argument-of-another-type = refl

constructor-of-another-datatype : pat (con_pat 1) integers ≡ false
constructor-of-another-datatype = refl

part-of-constructor : pat (con_of_pat 3 cell (con_pat 2)) integers ≡ false
part-of-constructor = refl

no-reference : pat (ref_of_pat integer any_pat) integer ≡ false
no-reference = refl

parameter-out-of-scope-in-pattern : pat (ref_of_pat a any_pat) (ref_type a) ≡ false
parameter-out-of-scope-in-pattern = refl

exception-without-its-argument : pat (exn_pat (held 1)) exn_type ≡ false
exception-without-its-argument = refl

exception-has-no-argument : pat (exn_of_pat (held 2) integer any_pat) exn_type ≡ false
exception-has-no-argument = refl

no-exception : pat (exn_pat (held 3)) exn_type ≡ false
no-exception = refl

no-initial-exception : pat (exn_pat (fixed 7)) exn_type ≡ false
no-initial-exception = refl

exception-at-another-type : pat (exn_pat (fixed 3)) integer ≡ false
exception-at-another-type = refl

no-record : pat (fields_pat true no_pats) integer ≡ false
no-record = refl

no-such-field : pat (fields_pat true (a_pat (Number 3) integer any_pat no_pats)) cell ≡ false
no-such-field = refl

field-of-another-type : pat (fields_pat true (a_pat (Number 1) text any_pat no_pats)) cell ≡ false
field-of-another-type = refl

too-few-fields : pat (fields_pat false (a_pat (Number 1) integer any_pat no_pats)) cell ≡ false
too-few-fields = refl

-- Expressions

constant-written-otherwise : exp (constant_exp (int (pos 3)) text) ≡ false
constant-written-otherwise = refl

unbound : exp (variable_exp 7 [] integer) ≡ false
unbound = refl

used-at-another-type : exp (variable_exp 3 [] text) ≡ false
used-at-another-type = refl

not-generalised : exp (variable_exp 3 (integer ∷ []) integer) ≡ false
not-generalised = refl

missing-instance : exp (variable_exp 4 [] (to integer integer)) ≡ false
missing-instance = refl

instance-written-otherwise : exp (variable_exp 4 (integer ∷ []) (to integer text)) ≡ false
instance-written-otherwise = refl

parameter-out-of-scope : exp (variable_exp 4 (a ∷ []) (to a a)) ≡ false
parameter-out-of-scope = refl

mark-not-met : exp (variable_exp 6 (to integer integer ∷ []) (to (to integer integer) (to integer integer))) ≡ false
mark-not-met = refl

equality-without-a-mark : check_exp table (q ∷ []) [] (prim_exp Equals (a ∷ []) (to (pair_type a a) truth)) ≡ false
equality-without-a-mark = refl

equality-with-a-mark : check_exp table (eq ∷ []) [] (prim_exp Equals (a ∷ []) (to (pair_type a a) truth)) ≡ true
equality-with-a-mark = refl

exception-as-a-variable : exp (variable_exp 2 [] exn_type) ≡ false
exception-as-a-variable = refl

function-of-its-group-elsewhere : exp (own_exp 3 integer) ≡ false
function-of-its-group-elsewhere = refl

unknown-constructor : exp (con_exp 9 list_name (integer ∷ []) integers) ≡ false
unknown-constructor = refl

constructor-written-otherwise : exp (con_exp 2 list_name (text ∷ []) integers) ≡ false
constructor-written-otherwise = refl

reference-written-otherwise : exp (ref_exp integer (to integer integer)) ≡ false
reference-written-otherwise = refl

no-exception-value : exp (exn_exp (held 3) exn_type) ≡ false
no-exception-value = refl

exception-written-otherwise : exp (exn_exp (held 1) exn_type) ≡ false
exception-written-otherwise = refl

class-not-met : exp (prim_exp Add (truth ∷ []) (to (pair_type truth truth) truth)) ≡ false
class-not-met = refl

primitive-without-its-type : exp (prim_exp Add [] (to (pair_type integer integer) integer)) ≡ false
primitive-without-its-type = refl

record-written-otherwise : exp (fields_exp cell (a_field (Number 1) three (a_field (Number 2) three no_fields))) ≡ false
record-written-otherwise = refl

label-twice : exp (fields_exp (row_type ((Number 1, integer) ∷ (Number 1, integer) ∷ [])) (a_field (Number 1) three (a_field (Number 1) three no_fields))) ≡ false
label-twice = refl

-- a record's fields may be written in any order; its type has them in the order of labels
written-in-another-order : exp (fields_exp (pair_type text integer) (a_field (Number 2) three (a_field (Number 1) word no_fields))) ≡ true
written-in-another-order = refl

labels-descend : exp (fields_exp (row_type ((Number 2, integer) ∷ (Number 1, integer) ∷ [])) (a_field (Number 2) three (a_field (Number 1) three no_fields))) ≡ false
labels-descend = refl

let-escapes : exp (fields_exp (pair_type integer integer) (a_field (Number 1) (let_exp integer (val [] false 7 integer three no_decs) (variable_exp 7 [] integer)) (a_field (Number 2) (variable_exp 7 [] integer) no_fields))) ≡ false
let-escapes = refl

no-function : exp (app_exp at integer three three) ≡ false
no-function = refl

wrong-argument : exp (app_exp at integer (identity integer) word) ≡ false
wrong-argument = refl

wrong-result : exp (app_exp at text (identity integer) three) ≡ false
wrong-result = refl

pattern-does-not-fit : exp (case_exp at integer word (a_rule (constant_pat (int (pos 3))) three no_rules)) ≡ false
pattern-does-not-fit = refl

rules-differ : exp (case_exp at integer three (a_rule any_pat three (a_rule any_pat word no_rules))) ≡ false
rules-differ = refl

-- the first rule's variable in the second
rules-leak : exp (case_exp at integer three (a_rule (variable_pat 7) (variable_exp 7 [] integer) (a_rule any_pat (variable_exp 7 [] integer) no_rules))) ≡ false
rules-leak = refl

operand-no-truth-value : exp (chain_exp true truth (link yes (only three))) ≡ false
operand-no-truth-value = refl

handler-of-another-type : exp (handle_exp integer three (a_rule any_pat word no_rules)) ≡ false
handler-of-another-type = refl

no-packet : exp (raise_exp integer three) ≡ false
no-packet = refl

function-written-otherwise : exp (fn_exp (to integer text) (last 7 integer three)) ≡ false
function-written-otherwise = refl

parameter-of-function-out-of-scope : exp (fn_exp (to a a) (last 7 a (variable_exp 7 [] a))) ≡ false
parameter-of-function-out-of-scope = refl

rules-of-function-differ : exp (fn_exp (to integer text) (by_rules at integer text (a_rule any_pat three no_rules))) ≡ false
rules-of-function-differ = refl

later-parameter-unbound : exp (fn_exp (to integer (to integer integer)) (more_fun 7 integer (last 8 integer (variable_exp 10 [] integer)))) ≡ false
later-parameter-unbound = refl

-- Declarations

generalised : decs (val (q ∷ []) true 1 (to a a) (identity a) (val [] false 2 integer (app_exp at integer (variable_exp 1 (integer ∷ []) (to integer integer)) three) no_decs)) ≡ true
generalised = refl

generalised-no-value : decs (val (q ∷ []) true 1 (ref_type (to a a)) (app_exp at (ref_type (to a a)) (ref_exp (to a a) (to (to a a) (ref_type (to a a)))) (identity a)) no_decs) ≡ false
generalised-no-value = refl

parameter-escapes : decs (val (q ∷ []) false 1 (to a a) (identity a) no_decs) ≡ false
parameter-escapes = refl

parameter-twice : decs (val (q ∷ q ∷ []) true 1 (to a a) (identity a) no_decs) ≡ false
parameter-twice = refl

overloaded-parameter : decs (val (record { variable = 0; mark = Class (record { int = true; word = true; char = false; string = false }) } ∷ []) true 1 (to a a) (identity a) no_decs) ≡ false
overloaded-parameter = refl

parameter-in-scope-already : check_decs table (q ∷ []) [] (val (q ∷ []) true 1 (to a a) (identity a) no_decs) ≡ false
parameter-in-scope-already = refl

binding-does-not-fit : decs (val_dec [] (a_bind at false (constant_pat (int (pos 3))) text word no_binds) no_funs no_decs) ≡ false
binding-does-not-fit = refl

bound-of-another-type : decs (val [] false 1 text three no_decs) ≡ false
bound-of-another-type = refl

bindings-see-each-other : decs (val_dec [] (a_bind at false (variable_pat 1) integer three (a_bind at false (variable_pat 2) integer (variable_exp 1 [] integer) no_binds)) no_funs no_decs) ≡ false
bindings-see-each-other = refl

exceptions-argument-out-of-scope : decs (exception_dec 1 70 (Some a) no_decs) ≡ false
exceptions-argument-out-of-scope = refl

function-of-a-group-written-otherwise : decs (val_dec [] no_binds (a_fun (1 ∷ []) (to integer text) (last 2 integer three) no_funs) no_decs) ≡ false
function-of-a-group-written-otherwise = refl

group-out-of-scope : decs (val_dec [] no_binds (a_fun (1 ∷ []) (to a a) (last 2 a (variable_exp 2 [] a)) no_funs) no_decs) ≡ false
group-out-of-scope = refl

bound-twice : are_distinct (decs_binders (val [] false 1 integer three (val [] false 1 integer three no_decs))) ≡ false
bound-twice = refl

bound-twice-in-a-pattern : are_distinct (decs_binders (val_dec [] (a_bind at false (fields_pat false (a_pat (Number 1) integer (variable_pat 1) (a_pat (Number 2) integer (variable_pat 1) no_pats))) (pair_type integer integer) three no_binds) no_funs no_decs)) ≡ false
bound-twice-in-a-pattern = refl

-- two of them as refutations
rules-leak-refuted : {t : Typ} → Checked table [] G (case_exp at integer three (a_rule (variable_pat 7) (variable_exp 7 [] integer) (a_rule any_pat (variable_exp 7 [] integer) no_rules))) t → ⊥
rules-leak-refuted = refused rules-leak

parameter-escapes-refuted : {G' : Knowns} → DecsChecked table [] [] (val (q ∷ []) false 1 (to a a) (identity a) no_decs) G' → ⊥
parameter-escapes-refuted = refused-decs parameter-escapes

-- Programs

abbrev basis : List ℕ
basis = 90 ∷ 91 ∷ 92 ∷ 93 ∷ 94 ∷ 95 ∷ 96 ∷ []

abbrev program : List ℕ → TyName → Option Typ → Program Decs
program initial y t = record { initial = initial; constructors = constructor_of y 0 t ∷ []; body = no_decs }

abbrev datatype : ℕ → Attribute → TyName
datatype k e = record { stamp = k; arity = 1; equality = e }

a-program : check (program basis (datatype 8 ByArguments) (Some a)) ≡ true
a-program = refl

six-exceptions : check (program (90 ∷ 91 ∷ 92 ∷ 93 ∷ 94 ∷ 95 ∷ []) (datatype 8 ByArguments) (Some a)) ≡ false
six-exceptions = refl

-- a further constructor of lists
datatype-of-the-basis : check (program basis (datatype 7 ByArguments) (Some a)) ≡ false
datatype-of-the-basis = refl

comparable-whatever-it-holds : check (program basis (datatype 8 Always) (Some a)) ≡ false
comparable-whatever-it-holds = refl

argument-does-not-admit-equality : check (program basis (datatype 8 ByArguments) (Some (to a a))) ≡ false
argument-does-not-admit-equality = refl

argument-over-another-parameter : check (program basis (datatype 8 ByArguments) (Some (var 1))) ≡ false
argument-over-another-parameter = refl
