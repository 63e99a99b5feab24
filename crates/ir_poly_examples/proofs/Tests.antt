-- What programs of tests do in so many turns, one or more for each construct, by computation. They are those of the tests of `ir_tests`, with the types that numbers stand for there.
use Rattle.std.proofs.Common.{◌≡◌, ℕ, List, [], ◌∷◌, Some, None, pos, refl}
use Rattle.mlc_runs.specs.Outcome.{End, ended, uncaught, going, Outcome}
use Rattle.mlc_names.specs.declared.label.Label.TheVariants.{Number}
use Rattle.mlc_base.specs.declared.place.Place.{Place}
use Rattle.mlc_prims.specs.LitOf.{int, string}
use Rattle.mlc_prims.specs.declared.basis.BasisPrimitive.TheVariants.{Add, Equals}
use Rattle.ty_core.specs.Types.{Typ, var, con, name, none}
use Rattle.ty_core.specs.declared.name.Equality.TheVariants.{ByArguments}
use Rattle.ty_core.specs.declared.mark.Mark.TheVariants.{Any, Equality}
use Rattle.ty_core.specs.declared.scheme.Quantified.{Quantified}
use Rattle.ir_plain.specs.Tree.{is_literal, is_con, is_con_of, is_exn_of, is_record, fixed, Atoms, no_atoms, an_atom, no_row, a_row, ret, let_in, exception_in, name_in, rec_in, switch, first, counted, no_arms, arm, Op, use_of, const, con_alone, construct, ref_alone, refer, content, pack, make_record, select, prim_alone, prim, app, fn, block, handle, raise, raise_initial, last, more, no_funs, fun}
use Rattle.ir_poly.specs.Tests.{Use, inst, poly, Tests, run}
use Rattle.ir_poly.specs.TestsChecked.{exn_type}
use Rattle.ir_poly.specs.Types.{int_name, string_name, bool_name, of_name, function_type, ref_type, list_type, pair_type}

abbrev here : Place
here = record { file = 0; byte = 7 }

abbrev integer : Typ
integer = of_name int_name

abbrev truth : Typ
truth = of_name bool_name

abbrev thing : Typ
thing = con (name (record { stamp = 20; arity = 0; equality = ByArguments })) none

abbrev a : Typ
a = var 0

abbrev to : Typ → Typ → Typ
to t u = function_type t u

abbrev ints : Typ
ints = pair_type integer integer

abbrev any : List Quantified
any = (record { variable = 0; mark = Any }) ∷ []

abbrev equal : List Quantified
equal = (record { variable = 0; mark = Equality }) ∷ []

abbrev atom : ℕ → Use
atom x = inst x []

abbrev let1 : ℕ → Typ → Op poly → Tests → Tests
let1 x t o e = let_in x [] t o e

abbrev seven : ℕ → Tests → Tests
seven x e = let1 x integer (const (int (pos 7))) e

abbrev twice : ℕ → Atoms poly
twice x = an_atom (atom x) (an_atom (atom x) no_atoms)

abbrev end : ℕ → Tests
end x = ret (atom x)

-- the identifiers of the basis' exceptions
abbrev does : Tests → ℕ → Outcome
does e m = run (90 ∷ 91 ∷ 92 ∷ 93 ∷ 94 ∷ 95 ∷ 96 ∷ []) e m

abbrev silent : End → List Place → Outcome
silent e turns = record { output = []; end = e; turns = turns }

-- operations
uses : does (seven 1 (let1 2 (of_name string_name) (const (string [])) (let1 3 integer (use_of (atom 1)) (end 3)))) 0 ≡ silent ended []
uses = refl

constructs : does (seven 1 (let1 2 thing (con_alone 201 thing) (let1 3 (to integer thing) (con_alone 200 thing) (let1 4 thing (construct None 200 thing (atom 1)) (end 4))))) 0
    ≡ silent ended []
constructs = refl

abbrev refers : Tests
refers = seven 1 (let1 2 (to integer (ref_type integer)) (ref_alone integer) (let1 3 (ref_type integer) (refer (Some here) integer (atom 1)) (let1 4 integer (content integer (atom 3)) (end 4))))

refers-none : does refers 0 ≡ silent going []
refers-none = refl

refers-one : does refers 1 ≡ silent ended (here ∷ [])
refers-one = refl

pairs : does (seven 1 (let1 2 ints (make_record ints (a_row (Number 1) (atom 1) (a_row (Number 2) (atom 1) no_row))) (let1 3 integer (select ints (Number 2) (atom 2)) (end 3)))) 0
    ≡ silent ended []
pairs = refl

abbrev integers : Typ
integers = list_type integer

abbrev cell : Typ
cell = pair_type integer integers

lists : does (seven 1 (let1 2 integers (con_alone 13 integers) (let1 3 cell (make_record cell (a_row (Number 1) (atom 1) (a_row (Number 2) (atom 2) no_row)))
    (let1 4 integers (construct None 14 integers (atom 3)) (end 4))))) 0 ≡ silent ended []
lists = refl

adds : does (seven 1 (let1 2 (to ints integer) (prim_alone Add integer) (let1 3 integer (prim None Add integer (twice 1)) (let1 4 truth (prim None Equals integer (twice 1)) (end 4))))) 0
    ≡ silent ended []
adds = refl

raises-initial : does (name_in 2 (fixed 6) (let1 3 exn_type (use_of (atom 2)) (let1 4 integer (raise_initial 6) (end 4)))) 0 ≡ silent (uncaught 96) []
raises-initial = refl

-- functions
abbrev applied : Tests
applied = seven 1 (let1 2 (to integer integer) (fn (last 3 integer (end 3))) (let1 4 integer (app here (atom 2) (atom 1)) (end 4)))

applied-none : does applied 0 ≡ silent going []
applied-none = refl

applied-one : does applied 1 ≡ silent ended (here ∷ [])
applied-one = refl

curried : does (let1 2 (to integer (to integer integer)) (fn (more 3 integer (last 4 integer (let1 5 integer (use_of (atom 3)) (end 5))))) (end 2)) 0 ≡ silent ended []
curried = refl

abbrev identity : List Quantified → Tests → Tests
identity qs e = let_in 2 qs (to a a) (fn (last 3 a (end 3))) e

abbrev at-integers : Tests
at-integers = identity any (seven 1 (let1 4 (to integer integer) (use_of (inst 2 (integer ∷ []))) (let1 5 integer (app here (atom 4) (atom 1)) (end 5))))

at-integers-none : does at-integers 0 ≡ silent going []
at-integers-none = refl

at-integers-two : does at-integers 2 ≡ silent ended (here ∷ [])
at-integers-two = refl

admits-equality : does (identity equal (let1 4 (to integer integer) (use_of (inst 2 (integer ∷ []))) (end 4))) 0 ≡ silent ended []
admits-equality = refl

compares : does (let_in 1 equal (to (pair_type a a) truth) (prim_alone Equals a) (seven 2 (end 2))) 0 ≡ silent ended []
compares = refl

abbrev itself : List Quantified → Typ → Tests → Tests
itself qs t e = rec_in qs (fun 2 (to t t) (last 3 t (let1 4 (to t t) (use_of (atom 2)) (let1 5 t (app here (atom 4) (atom 3)) (end 5)))) no_funs) e

abbrev loops : Tests
loops = seven 1 (itself [] integer (let1 6 integer (app here (atom 2) (atom 1)) (end 6)))

loops-none : does loops 0 ≡ silent going []
loops-none = refl

loops-one : does loops 1 ≡ silent going (here ∷ [])
loops-one = refl

loops-three : does loops 3 ≡ silent going (here ∷ here ∷ here ∷ [])
loops-three = refl

-- blocks
blocks : does (let1 2 integer (block (seven 3 (end 3))) (end 2)) 0 ≡ silent ended []
blocks = refl

generalised-group : does (itself any a (let1 6 (to integer integer) (use_of (inst 2 (integer ∷ []))) (end 6))) 0 ≡ silent ended []
generalised-group = refl

handles-none : does (seven 1 (let1 2 integer (handle (end 1) 3 (let1 4 integer (raise (atom 3)) (end 4))) (end 2))) 0 ≡ silent ended []
handles-none = refl

-- the identifier of the program's exception is 70
abbrev exceptional : Tests → Tests
exceptional e = exception_in 2 70 (Some integer) e

packs : does (seven 1 (exceptional (let1 3 exn_type (pack None integer (atom 2) (atom 1)) (let1 4 integer (raise (atom 3)) (end 4))))) 0 ≡ silent (uncaught 70) []
packs = refl

exception-alone : does (exceptional (let1 3 (to integer exn_type) (use_of (atom 2)) (end 3))) 0 ≡ silent ended []
exception-alone = refl

tests-packets : does (seven 1 (exceptional (let1 4 integer (handle (end 1) 5 (first (switch (atom 5) exn_type (arm (is_exn_of (atom 2) 6 integer) (end 6) no_arms)) (end 1))) (end 4)))) 0
    ≡ silent ended []
tests-packets = refl

-- tests
is-seven : does (seven 1 (counted 2 (first (switch (atom 1) integer (arm (is_literal (int (pos 7))) (end 1) no_arms)) (end 1)))) 0 ≡ silent ended []
is-seven = refl

is-constructed : does (seven 1 (let1 2 thing (construct None 200 thing (atom 1)) (first (switch (atom 2) thing (arm (is_con_of 200 3 integer) (end 3) no_arms)) (end 1)))) 0 ≡ silent ended []
is-constructed = refl

is-alone : does (seven 1 (let1 2 thing (con_alone 201 thing) (first (switch (atom 2) thing (arm (is_con 201) (end 1) no_arms)) (end 1)))) 0 ≡ silent ended []
is-alone = refl

is-pair : does (seven 1 (let1 2 ints (make_record ints (a_row (Number 1) (atom 1) (a_row (Number 2) (atom 1) no_row)))
    (first (switch (atom 2) ints (arm (is_record (Some 2)) (end 1) no_arms)) (end 1)))) 0 ≡ silent ended []
is-pair = refl

further-arm : does (seven 1 (first (switch (atom 1) integer (arm (is_literal (int (pos 7))) (end 1) (arm (is_literal (int (pos 8))) (end 1) no_arms))) (end 1))) 0 ≡ silent ended []
further-arm = refl

switches : does (seven 1 (first (switch (atom 1) integer (arm (is_literal (int (pos 8))) (end 1) no_arms)) (end 1))) 0 ≡ silent ended []
switches = refl
