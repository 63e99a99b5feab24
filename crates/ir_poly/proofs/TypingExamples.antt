-- Small programs that are well typed, and for each rule one that it refuses.
use Rattle.std.proofs.Common.{◌≡◌, ℕ, Bool, true, false, List, [], ◌∷◌, Some, None, pos, length, ap, refl, arith}
use Rattle.std.proofs.lemmas.Bool.{eqb-true}
use Rattle.ir_plain.specs.of_mlc_names.declared.label.Label.{Label}
use Rattle.ir_plain.specs.of_mlc_names.declared.label.Label.TheVariants.{Number}
use Rattle.mlc_base.specs.declared.place.Place.{Place}
use Rattle.ir_plain.specs.of_mlc_prims.LitOf.{int, string}
use Rattle.ir_plain.specs.of_mlc_prims.declared.basis.BasisPrimitive.TheVariants.{Add, Equals}
use Rattle.ty_basis.specs.of_ty_core.Types.{Typ, con, var, none, more, name}
use Rattle.ty_basis.specs.of_ty_core.declared.mark.Mark.TheVariants.{Any, Class}
use Rattle.ty_basis.specs.of_ty_core.declared.name.Equality.TheVariants.{Always}
use Rattle.ty_basis.specs.of_ty_core.declared.scheme.Quantified.{Quantified}
use Rattle.ir_poly.specs.Prog.{fixed, held, any_pat, variable_pat, con_pat, con_of_pat, exn_pat, exn_of_pat, fields_pat, no_pats, a_pat, Exp, constant_exp, variable_exp, own_exp, con_exp, ref_exp, exn_exp, prim_exp, fields_exp, let_exp, app_exp, case_exp, chain_exp, handle_exp, raise_exp, fn_exp, no_fields, a_field, only, link, no_rules, a_rule, last, more, Decs, no_decs, val_dec, exception_dec, no_binds, a_bind, no_funs, a_fun}
use Rattle.ir_poly.specs.ProgOnce.{IsOnce}
use Rattle.ir_poly.specs.ProgChecked.{fixed_checked, held_checked, PatChecked, any_checked, variable_checked, con_checked, con_of_checked, exn_checked, exn_of_checked, fields_checked, no_pats_checked, a_pat_checked, Checked, c_constant, c_variable, c_variable_one, c_own, c_con, c_exn, c_prim, c_fields, c_let, c_app, c_case, c_chain, c_handle, c_raise, c_fn, c_no_fields, c_field, c_only, c_link, c_no_rules, c_rule, c_last, DecsChecked, c_no_decs, c_val, c_exception, c_no_binds, c_general, c_plain, c_no_funs, c_fun}
use Rattle.ir_poly.specs.TestsChecked.{of_type, general, exception, Knowns, exn_type, HasLiteral, has_int, has_string, is_size}
use Rattle.ir_plain.specs.of_ir_values.Values.{true_number, nil_number, cons_number}
use Rattle.ir_poly.specs.Types.{int_name, string_name, exn_name, bool_name, list_name, of_name, function_type, ref_type, row_type, pair_type, Constructor, constructor_of, initial_constructors, IsConstructor}
use Rattle.ir_poly.specs.WellFormed.{IsProg}

abbrev table : List Constructor
table = initial_constructors

abbrev at : ℕ → Place
at n = record { file = 0; byte = n }

abbrev integer : Typ
integer = of_name int_name

abbrev text : Typ
text = of_name string_name

abbrev truth : Typ
truth = of_name bool_name

-- the parameter 0, that may stand for any type
abbrev q : Quantified
q = record { variable = 0; mark = Any }

abbrev a : Typ
a = var 0

abbrev to : Typ → Typ → Typ
to t u = function_type t u

abbrev val : List Quantified → Bool → ℕ → Typ → Exp → Decs → Decs
val qs b x t e ds = val_dec qs (a_bind (at 0) b (variable_pat x) t e no_binds) no_funs ds

abbrev three : Exp
three = constant_exp (int (pos 3)) integer

abbrev word : Exp
word = constant_exp (string (97 ∷ [])) text

-- val id = fn x => x; val y = id 3; val z = id "a"
abbrev identity : Exp
identity = fn_exp (to a a) (last 2 a (variable_exp 2 [] a))

abbrev at-two : Decs
at-two = val (q ∷ []) true 1 (to a a) identity
    (val [] false 3 integer (app_exp (at 1) integer (variable_exp 1 (integer ∷ []) (to integer integer)) three)
    (val [] false 4 text (app_exp (at 2) text (variable_exp 1 (text ∷ []) (to text text)) word) no_decs))

at-two-is-typed : DecsChecked table [] [] at-two ((4, of_type text) ∷ (3, of_type integer) ∷ (1, general (q ∷ []) var (to a a)) ∷ [])
at-two-is-typed =
    c_val refl (c_general refl refl variable_checked (c_fn (c_last refl (c_variable_one refl) refl)) c_no_binds) c_no_funs
    (c_val refl (c_plain refl variable_checked (c_app (c_variable {qs = q ∷ []} refl (tt, tt) refl refl) (c_constant (has_int (pos 3))) refl) c_no_binds) c_no_funs
    (c_val refl (c_plain refl variable_checked (c_app (c_variable {qs = q ∷ []} refl (tt, tt) refl refl) (c_constant (has_string (97 ∷ []))) refl) c_no_binds) c_no_funs c_no_decs))

-- fun f x = f x, over two parameters' worth of one: inside it is used as it is
abbrev loops : Decs
loops = val_dec (q ∷ []) no_binds (a_fun (1 ∷ []) (to a integer) (last 2 a (app_exp (at 0) integer (own_exp 1 (to a integer)) (variable_exp 2 [] a))) no_funs) no_decs

loops-are-typed : DecsChecked table [] [] loops ((1, general (q ∷ []) var (to a integer)) ∷ [])
loops-are-typed = c_val refl c_no_binds (c_fun refl (c_last refl (c_app (c_own refl) (c_variable_one refl) refl) refl) c_no_funs) c_no_decs

-- case [3] of x :: _ => x | nil => 3, with a handler
abbrev integers : Typ
integers = con (name list_name) (more integer none)

abbrev cell : Typ
cell = pair_type integer integers

abbrev heads : Exp
heads = case_exp (at 1) integer (app_exp (at 0) integers (con_exp cons_number list_name (integer ∷ []) (to cell integers)) (fields_exp cell (a_field (Number 1) three (a_field (Number 2) (con_exp nil_number list_name (integer ∷ []) integers) no_fields))))
    (a_rule (con_of_pat cons_number cell (fields_pat false (a_pat (Number 1) integer (variable_pat 1) (a_pat (Number 2) integers any_pat no_pats)))) (variable_exp 1 [] integer) (a_rule (con_pat nil_number) three no_rules))

heads-are-typed : Checked table [] [] heads integer
heads-are-typed =
    c_case (c_app (c_con {c = cons_number} {ts = integer ∷ []} (constructor_of list_name cons_number (Some (pair_type (var 0) (con (name list_name) (more (var 0) none))))) refl refl refl refl)
    (c_fields {r = (Number 1, integer) ∷ (Number 2, integers) ∷ []} (c_field (c_constant (has_int (pos 3))) (c_field (c_con {c = nil_number} {ts = integer ∷ []} (constructor_of list_name nil_number None) refl refl refl refl) c_no_fields)) refl refl) refl) refl
    (c_rule (con_of_checked {c = cons_number} (record { datatype = list_name; arguments = integer ∷ []; row = constructor_of list_name cons_number (Some (pair_type (var 0) (con (name list_name) (more (var 0) none)))); found = refl; same = refl; type = refl; argument = refl }) refl
    (fields_checked {further = false} ((Number 1, integer) ∷ (Number 2, integers) ∷ []) refl
    (a_pat_checked {l = Number 1} {a = integer} refl refl (variable_checked {x = 1}) (a_pat_checked {l = Number 2} {a = integers} refl refl any_checked no_pats_checked)) refl))
    (c_variable_one {x = 1} refl)
    (c_rule (con_checked {c = nil_number} (record { datatype = list_name; arguments = integer ∷ []; row = constructor_of list_name nil_number None; found = refl; same = refl; type = refl; argument = refl })) (c_constant (has_int (pos 3))) c_no_rules))

-- exception E of int; (raise E 3) handle E x => x | Div => 3
abbrev handles : Decs
handles = exception_dec 1 70 (Some integer) (val [] false 2 integer (handle_exp integer (raise_exp integer (app_exp (at 0) exn_type (exn_exp (held 1) (to integer exn_type)) three))
    (a_rule (exn_of_pat (held 1) integer (variable_pat 3)) (variable_exp 3 [] integer) (a_rule (exn_pat (fixed 3)) three no_rules))) no_decs)

handles-are-typed : DecsChecked table [] [] handles ((2, of_type integer) ∷ (1, exception (Some integer)) ∷ [])
handles-are-typed = c_exception refl (c_val refl (c_plain refl variable_checked
    (c_handle (c_raise (c_app (c_exn (held_checked refl) refl) (c_constant (has_int (pos 3))) refl) refl)
    (c_rule (exn_of_checked (held_checked refl) refl refl variable_checked) (c_variable_one refl) (c_rule (exn_checked (fixed_checked refl) refl) (c_constant (has_int (pos 3))) c_no_rules)))
    c_no_binds) c_no_funs c_no_decs)

-- 3 + 3 = 3 andalso true, in a let
abbrev compares : Exp
compares = let_exp truth (val [] false 1 integer (app_exp (at 0) integer (prim_exp Add (integer ∷ []) (to (pair_type integer integer) integer)) (fields_exp (pair_type integer integer) (a_field (Number 1) three (a_field (Number 2) three no_fields)))) no_decs)
    (chain_exp true truth (link (app_exp (at 1) truth (prim_exp Equals (integer ∷ []) (to (pair_type integer integer) truth)) (fields_exp (pair_type integer integer) (a_field (Number 1) (variable_exp 1 [] integer) (a_field (Number 2) three no_fields)))) (only (con_exp true_number bool_name [] truth))))

abbrev integers-two : List (Label × Typ)
integers-two = (Number 1, integer) ∷ (Number 2, integer) ∷ []

compares-is-typed : Checked table [] [] compares truth
compares-is-typed =
    c_let ((1, of_type integer) ∷ []) (c_val refl (c_plain refl variable_checked (c_app (c_prim refl (record { number = 0; is = refl; held = refl }) refl)
    (c_fields {r = integers-two} (c_field (c_constant (has_int (pos 3))) (c_field (c_constant (has_int (pos 3))) c_no_fields)) refl refl) refl) c_no_binds) c_no_funs c_no_decs)
    (c_chain (c_link (c_app (c_prim refl refl refl) (c_fields {r = integers-two} (c_field (c_variable_one refl) (c_field (c_constant (has_int (pos 3))) c_no_fields)) refl refl) refl) refl
    (c_only (c_con (constructor_of bool_name true_number None) refl refl refl refl) refl)) refl)

-- val r = {2 = [fn x => x], 1 = [fn x => x]}, generalised: constructions in another order than that of the labels
abbrev identities : Typ
identities = con (name list_name) (more (to a a) none)

abbrev one-identity : Exp
one-identity = app_exp (at 0) identities (con_exp cons_number list_name (to a a ∷ []) (to (pair_type (to a a) identities) identities))
    (fields_exp (pair_type (to a a) identities) (a_field (Number 1) identity (a_field (Number 2) (con_exp nil_number list_name (to a a ∷ []) identities) no_fields)))

abbrev two-lists : Decs
two-lists = val (q ∷ []) true 1 (pair_type identities identities)
    (fields_exp (pair_type identities identities) (a_field (Number 2) one-identity (a_field (Number 1) one-identity no_fields))) no_decs

one-identity-is-typed : Checked table (q ∷ []) [] one-identity identities
one-identity-is-typed =
    c_app (c_con {c = cons_number} {ts = to a a ∷ []} (constructor_of list_name cons_number (Some (pair_type (var 0) (con (name list_name) (more (var 0) none))))) refl refl refl refl)
    (c_fields {r = (Number 1, to a a) ∷ (Number 2, identities) ∷ []} (c_field (c_fn (c_last refl (c_variable_one refl) refl)) (c_field (c_con {c = nil_number} {ts = to a a ∷ []} (constructor_of list_name nil_number None) refl refl refl refl) c_no_fields)) refl refl) refl

two-lists-are-typed : DecsChecked table [] [] two-lists ((1, general (q ∷ []) var (pair_type identities identities)) ∷ [])
two-lists-are-typed =
    c_val refl (c_general refl refl variable_checked (c_fields {r = (Number 2, identities) ∷ (Number 1, identities) ∷ []} (c_field one-identity-is-typed (c_field one-identity-is-typed c_no_fields)) refl refl) c_no_binds) c_no_funs c_no_decs

-- Refused, at any type

names-differ : int_name ≡ string_name → ⊥
names-differ e = let stamps : 0 ≡ 3 = ap (λ n. n.stamp) e in omega (arith, stamps)

no-exception-name : int_name ≡ exn_name → ⊥
no-exception-name e = let stamps : 0 ≡ 5 = ap (λ n. n.stamp) e in omega (arith, stamps)

of-integers : {z : _} {u : Typ} → HasLiteral (int z) u → u ≡ integer
of-integers (has_int z) = refl

unbound : {t u : Typ} → Checked table [] [] (variable_exp 1 [] t) u → ⊥
unbound (c_variable e al o h) = cc
unbound (c_variable_one e) = cc

bound-twice : IsOnce (val [] false 1 integer three (val [] false 1 integer three no_decs)) → ⊥
bound-twice h = let two = h 1 in omega (arith, two)

-- a function of integers, to a text
wrong-argument : {t u : Typ} → Checked table [] [] (app_exp (at 0) t (fn_exp (to integer integer) (last 1 integer (variable_exp 1 [] integer))) word) u → ⊥
wrong-argument (c_app (c_fn f) (c_constant (has_string s)) e) = let same : int_name ≡ string_name = cc in names-differ same

wrong-constant : {u : Typ} → Checked table [] [] (constant_exp (int (pos 3)) text) u → ⊥
wrong-constant (c_constant h) = let e = of-integers h in let same : int_name ≡ string_name = cc in names-differ same

missing-instance : {t u : Typ} → Checked table [] ((1, general (q ∷ []) var (to a a)) ∷ []) (variable_exp 1 [] t) u → ⊥
missing-instance (c_variable {qs = []} e al o h) = cc
missing-instance (c_variable {qs = p ∷ ps} e al o h) = al
missing-instance (c_variable_one e) = cc

equality-of-functions : {t u : Typ} → Checked table [] [] (prim_exp Equals (to integer integer ∷ []) t) u → ⊥
equality-of-functions (c_prim o al e) = cc

-- a parameter may stand for any type
equality-without-a-mark : {t u : Typ} → Checked table (q ∷ []) [] (prim_exp Equals (a ∷ []) t) u → ⊥
equality-without-a-mark (c_prim o al e) = cc

-- a parameter outside its declaration
parameter-escapes : {G' : Knowns} → DecsChecked table [] [] (val (q ∷ []) false 1 (to a a) identity no_decs) G' → ⊥
parameter-escapes (c_val n (c_plain o p e bs) fs ds) = cc

-- val r = ref (fn x => x), generalised
no-value : {G' : Knowns} → DecsChecked table [] [] (val (q ∷ []) true 1 (ref_type (to a a)) (app_exp (at 0) (ref_type (to a a)) (ref_exp (to a a) (to (to a a) (ref_type (to a a)))) identity) no_decs) G' → ⊥
no-value (c_val n (c_general v o p e bs) fs ds) = cc

parameter-twice : {G' : Knowns} → DecsChecked table [] [] (val (q ∷ q ∷ []) true 1 (to a a) identity no_decs) G' → ⊥
parameter-twice (c_val n bs fs ds) = cc

no-packet : {t u : Typ} → Checked table [] [] (raise_exp t three) u → ⊥
no-packet (c_raise (c_constant h) e) = let same : int_name ≡ exn_name = cc in no-exception-name same

-- an exception without an argument, before one
no-argument : {t : Typ} → PatChecked table [] [] (exn_of_pat (fixed 3) integer any_pat) t → ⊥
no-argument (exn_of_checked x e o p) = elim x [ ]

fields-of : (r : List (Label × Typ)) → row_type ((Number 1, integer) ∷ (Number 2, integer) ∷ []) ≡ row_type r → is_size (Some 1) (length r) ≡ true → ⊥
fields-of [] e n = cc
fields-of (f ∷ []) e n = cc
fields-of (f ∷ g ∷ r) e n = let one = eqb-true 1 (length (f ∷ g ∷ r)) n in omega (arith, one)

too-few-fields : PatChecked table [] [] (fields_pat false (a_pat (Number 1) integer any_pat no_pats)) (pair_type integer integer) → ⊥
too-few-fields (fields_checked r e ps n) = fields-of r e n

label-twice : {t u : Typ} → Checked table [] [] (fields_exp t (a_field (Number 1) three (a_field (Number 1) three no_fields))) u → ⊥
label-twice (c_fields (c_field e (c_field f c_no_fields)) h d) = cc

overloaded-parameter : {G' : Knowns} → DecsChecked table [] [] (val (record { variable = 0; mark = Class (record { int = true; word = true; char = false; string = false }) } ∷ []) true 1 (to a a) identity no_decs) G' → ⊥
overloaded-parameter (c_val n bs fs ds) = cc

-- a third truth value
constructor-of-the-basis : IsConstructor (constructor_of bool_name 2 None) → ⊥
constructor-of-the-basis h = let d = h.declared in cc

-- a datatype that admits equality whatever it holds
always-comparable : IsConstructor (constructor_of (record { stamp = 8; arity = 0; equality = Always }) 0 None) → ⊥
always-comparable h = h.equality refl

-- the six exceptions of a smaller basis
too-few-exceptions : IsProg (record { initial = 90 ∷ 91 ∷ 92 ∷ 93 ∷ 94 ∷ 95 ∷ []; constructors = []; body = no_decs }) → ⊥
too-few-exceptions h = let n = h.initial in omega (arith, n)
