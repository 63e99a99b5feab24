-- Small programs and their copies, by computation: how many variables the copies bind, and that both do the same, also with numbers for names.
use Rattle.std.proofs.Common.{◌≡◌, ℕ, List, [], ◌∷◌, Some, None, pos, refl}
use Rattle.mlc_runs.specs.Outcome.{End, ended, uncaught, going, Outcome}
use Rattle.mlc_base.specs.declared.place.Place.{Place}
use Rattle.mlc_prims.specs.LitOf.{int, string}
use Rattle.mlc_prims.specs.declared.basis.BasisPrimitive.TheVariants.{Print}
use Rattle.ty_core.specs.Types.{Typ, var, con, name, none, more}
use Rattle.ty_core.specs.declared.mark.Mark.TheVariants.{Any}
use Rattle.ty_core.specs.declared.name.TyName.{TyName}
use Rattle.ty_core.specs.declared.name.Equality.TheVariants.{ByArguments}
use Rattle.ty_core.specs.declared.scheme.Quantified.{Quantified}
use Rattle.ir_mono.specs.of_ir_plain.Tree.{is_con_of, is_exn_of, no_atoms, an_atom, ret, let_in, exception_in, rec_in, switch, first, no_arms, arm, Op, use_of, const, con_alone, pack, prim, app, fn, block, handle, raise, raise_initial, last, no_funs, fun}
use Rattle.ir_mono.specs.of_ir_plain.Meaning.{run}
use Rattle.ir_mono.specs.of_ir_poly.Tests.{Use, inst, poly, Tests}
use Rattle.ir_mono.specs.of_ir_poly.Types.{int_name, string_name, exn_name, of_name, function_type, unit_type, pair_type}
use Rattle.monomorphise.specs.Monomorphise.{copies, needs, others, units, nowhere}
use Rattle.monomorphise.specs.Number.{none_given, number, binders}

abbrev at : ℕ → Place
at n = record { file = 0; byte = n }

abbrev q : Quantified
q = record { variable = 0; mark = Any }

abbrev a : Typ
a = var 0

abbrev integer : Typ
integer = of_name int_name

abbrev text : Typ
text = of_name string_name

abbrev to : Typ → Typ → Typ
to t u = function_type t u

abbrev atom : ℕ → Use
atom x = inst x []

abbrev let1 : ℕ → Typ → Op poly → Tests → Tests
let1 x t o e = let_in x [] t o e

abbrev initial : List ℕ
initial = 90 ∷ 91 ∷ 92 ∷ 93 ∷ 94 ∷ 95 ∷ 96 ∷ []

abbrev outcome : List ℕ → End → List Place → Outcome
outcome out end turns = record { output = out; end = end; turns = turns }

-- with numbers for names, and one number for all types: nothing here looks at types
abbrev numbered : Tests → ℕ → Outcome
numbered e m = run initial (number [] (λ t. 0) none_given 0 (copies e)) m

-- datatype 'a option = NONE | SOME of 'a
abbrev option_name : TyName
option_name = record { stamp = 8; arity = 1; equality = ByArguments }

abbrev option_of : Typ → Typ
option_of t = con (name option_name) (more t none)

-- val (SOME x) = NONE, generalised: its first copy is there without a use, and fails
abbrev unused : Tests
unused =
    let_in 1 (q ∷ []) a (block (let1 2 (option_of a) (con_alone 10 (option_of a)) (first (switch (atom 2) (option_of a) (arm (is_con_of 11 3 a) (ret (atom 3)) no_arms)) (let1 4 a (raise_initial 1) (ret (atom 4))))))
    (let1 5 integer (const (int (pos 1))) (ret (atom 5)))

unused-copies : binders (copies unused) ≡ 5
unused-copies = refl

unused-fails : numbered unused 0 ≡ outcome [] (uncaught 91) []
unused-fails = refl

-- val f = fn x => x  val a = f 1  val b = f "x"
abbrev identity : Tests
identity =
    let_in 1 (q ∷ []) (to a a) (fn (last 2 a (ret (atom 2))))
    (let1 3 integer (const (int (pos 1))) (let1 4 (to integer integer) (use_of (inst 1 (integer ∷ []))) (let1 5 integer (app (at 1) (atom 4) (atom 3))
    (let1 6 text (const (string (120 ∷ []))) (let1 7 (to text text) (use_of (inst 1 (text ∷ []))) (let1 8 text (app (at 2) (atom 7) (atom 6)) (let1 9 unit_type (prim None Print unit_type (an_atom (atom 8) no_atoms)) (ret (atom 9)))))))))

-- a copy at unit and two further ones, each with its parameter, and the seven other variables
identity-copies : binders (copies identity) ≡ 13
identity-copies = refl

abbrev rest : Tests
rest = let1 4 (to integer integer) (use_of (inst 1 (integer ∷ []))) (let1 7 (to text text) (use_of (inst 1 (text ∷ []))) (let1 8 (to text text) (use_of (inst 1 (text ∷ []))) (ret (atom 7))))

-- each list of types once
identity-types : others (1 ∷ []) (units (q ∷ [])) (needs [] nowhere rest) ≡ (integer ∷ []) ∷ (text ∷ []) ∷ []
identity-types = refl

identity-same : numbered identity 2 ≡ outcome (120 ∷ []) ended (at 1 ∷ at 2 ∷ [])
identity-same = refl

identity-cut : numbered identity 1 ≡ outcome [] going (at 1 ∷ [])
identity-cut = refl

-- an exception with an argument of the parameter's type, inside a polymorphic function: raised and handled there
abbrev exceptions : Tests
exceptions =
    let_in 1 (q ∷ []) (to a a)
    (fn (last 2 a (exception_in 3 80 (Some a)
    (let1 4 a (handle (let1 5 (of_name exn_name) (pack None a (atom 3) (atom 2)) (let1 6 a (raise (atom 5)) (ret (atom 6)))) 7
    (first (switch (atom 7) (of_name exn_name) (arm (is_exn_of (atom 3) 8 a) (ret (atom 8)) no_arms)) (let1 9 a (raise (atom 7)) (ret (atom 9)))))
    (ret (atom 4))))))
    (let1 10 text (const (string (98 ∷ []))) (let1 11 (to text text) (use_of (inst 1 (text ∷ []))) (let1 12 text (app (at 1) (atom 11) (atom 10)) (let1 13 unit_type (prim None Print unit_type (an_atom (atom 12) no_atoms)) (ret (atom 13))))))

-- two copies of nine variables, and four others
exceptions-copies : binders (copies exceptions) ≡ 22
exceptions-copies = refl

exceptions-same : numbered exceptions 1 ≡ outcome (98 ∷ []) ended (at 1 ∷ [])
exceptions-same = refl

-- datatype 'a deep = End | Twice of ('a * 'a) deep, with a function that is used at three depths
abbrev deep : Typ → Typ
deep t = con (name (record { stamp = 9; arity = 1; equality = ByArguments })) (more t none)

abbrev twice : Typ → Typ
twice t = pair_type t t

abbrev use_at : ℕ → Typ → Tests → Tests
use_at x t e = let1 x (to (deep t) integer) (use_of (inst 1 (t ∷ []))) e

abbrev depths : Tests
depths =
    let_in 1 (q ∷ []) (to (deep a) integer) (fn (last 2 (deep a) (let1 3 integer (const (int (pos 0))) (ret (atom 3)))))
    (use_at 4 integer (use_at 5 (twice integer) (use_at 6 (twice (twice integer)) (ret (atom 4)))))

-- a copy at unit and one at each depth, each with three variables, and three others
depths-copies : binders (copies depths) ≡ 15
depths-copies = refl

-- two functions that call one another, used at two types; the first turn is the outer call, the second the inner
abbrev mutually : Tests
mutually =
    rec_in (q ∷ [])
    (fun 1 (to a a) (last 2 a (let1 3 (to a a) (use_of (atom 4)) (let1 5 a (app (at 2) (atom 3) (atom 2)) (ret (atom 5))))) (fun 4 (to a a) (last 6 a (ret (atom 6))) no_funs))
    (let1 7 integer (const (int (pos 1))) (let1 8 (to integer integer) (use_of (inst 1 (integer ∷ []))) (let1 9 integer (app (at 1) (atom 8) (atom 7))
    (let1 10 text (const (string (99 ∷ []))) (let1 11 (to text text) (use_of (inst 1 (text ∷ []))) (let1 12 text (app (at 1) (atom 11) (atom 10)) (let1 13 unit_type (prim None Print unit_type (an_atom (atom 12) no_atoms)) (ret (atom 13)))))))))

-- three copies of the group, of six variables each, and seven others
mutually-copies : binders (copies mutually) ≡ 25
mutually-copies = refl

mutually-same : numbered mutually 4 ≡ outcome (99 ∷ []) ended (at 1 ∷ at 2 ∷ at 1 ∷ at 2 ∷ [])
mutually-same = refl
