-- A well formed program with a function that is used at two types, a datatype at two instances (and at unit), and equality at one of them: its table by
-- computation, and that it does the same.
use Rattle.std.proofs.Common.{◌≡◌, ◌≤◌, ℕ, suc, ◌+◌, Bool, true, false, not, ◌&&◌, ◌||◌, List, [], ◌∷◌, length, Option, Some, None, nat_eq, if◌then◌else◌, pos, refl, sym, subst, arith}
use Rattle.std.proofs.lemmas.Bool.{and_parts, eqb-true}
use Rattle.mlc_runs.specs.Outcome.{ended, wrong}
use Rattle.mlc_base.specs.declared.place.Place.{Place}
use Rattle.mlc_prims.specs.LitOf.{int, string}
use Rattle.mlc_prims.specs.declared.basis.BasisPrimitive.TheVariants.{Equals}
use Rattle.ty_core.specs.Types as typ
use Rattle.ty_core.specs.Types.{Typ, var, con, name, none, more}
use Rattle.ty_core.specs.Statics.{replace}
use Rattle.ty_core.specs.declared.mark.Mark.TheVariants.{Any}
use Rattle.ty_core.specs.declared.name.TyName.{TyName}
use Rattle.ty_core.specs.declared.name.Equality.TheVariants.{ByArguments}
use Rattle.ty_core.specs.declared.scheme.Quantified.{Quantified}
use Rattle.ir_mono.specs.of_ir_plain.Tree.{no_atoms, an_atom, ret, let_in, Op, use_of, const, construct, prim, app, fn, last}
use Rattle.ir_mono.specs.of_ir_plain.Once.{hit, times, IsOnce}
use Rattle.ir_mono.specs.of_ir_plain.Scoped.{IsLocal, among_here, among_there, ret_scoped, let_scoped, use_scoped, const_scoped, construct_scoped, prim_scoped, app_scoped, fn_scoped, last_scoped, no_atoms_scoped, an_atom_scoped}
use Rattle.ir_mono.specs.of_ir_poly.Tests.{Use, inst, poly, Tests}
use Rattle.ir_mono.specs.of_ir_poly.TestsChecked.{has_int, has_string, HasConstructor, atom_checked, no_atoms_checked, an_atom_checked, Checked, c_ret, c_let, c_use, c_const, c_construct, c_prim, c_app, c_fn, c_last}
use Rattle.ir_mono.specs.of_ir_poly.Types.{int_name, string_name, bool_name, of_name, function_type, Constructor, constructor_of}
use Rattle.ir_mono.specs.of_ir_poly.WellFormed.{Program, table_of, meaning_of_tests, IsTests}
use Rattle.ir_mono.specs.Types.{Row, constructor_at, admits}
use Rattle.ir_mono.specs.Mono.{meaning}
use Rattle.monomorphise.specs.Laws.{types_of, monomorphised}
use Rattle.monomorphise.specs.Table.{number_in}
use Rattle.monomorphise.proofs.Whole.{makes-same, makes-never-wrong}

abbrev at : ℕ → Place
at n = record { file = 0; byte = n }

abbrev q : Quantified
q = record { variable = 0; mark = Any }

abbrev a : Typ
a = var 0

abbrev integer : Typ
integer = of_name int_name

abbrev text : Typ
text = of_name string_name

abbrev truth : Typ
truth = of_name bool_name

abbrev to : Typ → Typ → Typ
to t u = function_type t u

abbrev atom : ℕ → Use
atom x = inst x []

abbrev let1 : ℕ → Typ → Op poly → Tests → Tests
let1 x t o e = let_in x [] t o e

-- datatype 'a option = NONE | SOME of 'a
abbrev option_name : TyName
option_name = record { stamp = 8; arity = 1; equality = ByArguments }

abbrev option_of : Typ → Typ
option_of t = con (name option_name) (more t none)

abbrev some_constructor : Constructor
some_constructor = constructor_of option_name 11 (Some (var 0))

-- fun wrap x = SOME x  val a = wrap 1  val b = wrap "x"  val c = a = a
abbrev body : Tests
body =
    let_in 1 (q ∷ []) (to a (option_of a)) (fn (last 2 a (let1 3 (option_of a) (construct None 11 (option_of a) (atom 2)) (ret (atom 3)))))
    (let1 4 integer (const (int (pos 1))) (let1 5 (to integer (option_of integer)) (use_of (inst 1 (integer ∷ []))) (let1 6 (option_of integer) (app (at 1) (atom 5) (atom 4))
    (let1 7 text (const (string (120 ∷ []))) (let1 8 (to text (option_of text)) (use_of (inst 1 (text ∷ []))) (let1 9 (option_of text) (app (at 2) (atom 8) (atom 7))
    (let1 10 truth (prim None Equals (option_of integer) (an_atom (atom 6) (an_atom (atom 6) no_atoms))) (ret (atom 10)))))))))

abbrev wraps : Program Tests
wraps = record { initial = 90 ∷ 91 ∷ 92 ∷ 93 ∷ 94 ∷ 95 ∷ 96 ∷ []; constructors = constructor_of option_name 10 None ∷ some_constructor ∷ []; body = body }

abbrev types : List Row
types = types_of wraps

abbrev number : Typ → ℕ
number t = number_in types t

-- unit, bool, exn; the function at unit, int and string, with what it gives
eleven-types : length types ≡ 11
eleven-types = refl

-- what no copy uses is not listed
not-listed : constructor_at types (number (option_of integer)) 10 ≡ None
not-listed = refl

comparable : admits types (number (option_of integer)) ≡ true
comparable = refl

functions-are-not : admits types (number (to integer (option_of integer))) ≡ false
functions-are-not = refl

does : meaning (monomorphised wraps 0) 2 ≡ record { output = []; end = ended; turns = at 1 ∷ at 2 ∷ [] }
does = refl

-- It is well formed.

wraps-typed : Checked (table_of wraps) false [] [] body truth
wraps-typed =
    c_let refl refl refl (c_fn (c_last refl (c_let refl refl refl (c_construct {m = None} {c = 11} wrapped (atom_checked {x = 2} refl)) (c_ret (atom_checked {x = 3} refl))) refl))
    (c_let refl refl refl (c_const (has_int (pos 1))) (c_let refl refl refl (c_use {qs = q ∷ []} {x = 1} {ts = integer ∷ []} {b = to a (option_of a)} refl (tt, tt) refl refl) (c_let refl refl refl (c_app (atom_checked {x = 5} refl) (atom_checked {x = 4} refl) refl)
    (c_let refl refl refl (c_const (has_string (120 ∷ []))) (c_let refl refl refl (c_use {qs = q ∷ []} {x = 1} {ts = text ∷ []} {b = to a (option_of a)} refl (tt, tt) refl refl) (c_let refl refl refl (c_app (atom_checked {x = 8} refl) (atom_checked {x = 7} refl) refl)
    (c_let refl refl refl (c_prim {m = None} {p = Equals} {u = option_of integer} refl (an_atom_checked (atom_checked {x = 6} refl) (an_atom_checked (atom_checked {x = 6} refl) no_atoms_checked)) refl refl) (c_ret (atom_checked {x = 10} refl)))))))))
  where
    wrapped : HasConstructor (table_of wraps) 11 (option_of a) (Some a)
    wrapped = record { datatype = option_name; arguments = a ∷ []; row = some_constructor; found = refl; same = refl; type = refl; argument = refl }

-- numbers that are distinct
abbrev is_in : ℕ → List ℕ → Bool
is_in x [] = false
is_in x (y ∷ ys) = nat_eq x y || is_in x ys

abbrev distinct : List ℕ → Bool
distinct [] = true
distinct (x ∷ xs) = not (is_in x xs) && distinct xs

abbrev count : ℕ → List ℕ → ℕ
count k [] = 0
count k (x ∷ xs) = hit k x + count k xs

count-outside : (k x : ℕ) (xs : List ℕ) → nat_eq k x ≡ true → not (is_in x xs) ≡ true → count k xs ≡ 0
count-outside k x xs e h = subst (λ z. count z xs ≡ 0) (sym (eqb-true k x e)) (none-of xs h)
  where
    none-of : (ys : List ℕ) → not (is_in x ys) ≡ true → count x ys ≡ 0
    none-of [] h = refl
    none-of (y ∷ ys) h = go (λ i. none-of ys i) (nat_eq x y) h
      where
        go : (not (is_in x ys) ≡ true → count x ys ≡ 0) → (b : Bool) → not (b || is_in x ys) ≡ true → (if b then 1 else 0) + count x ys ≡ 0
        go f true h = absurd (cc)
        go f false h = let e = f h in omega (arith, e)

count-once : (k : ℕ) (xs : List ℕ) → distinct xs ≡ true → count k xs ≤ 1
count-once k [] e = omega arith
count-once k (x ∷ xs) e = go (λ i. count-once k xs i) (nat_eq k x) refl
  where
    d : (not (is_in x xs) ≡ true) × (distinct xs ≡ true)
    d = and_parts (not (is_in x xs)) _ e

    go : (distinct xs ≡ true → count k xs ≤ 1) → (b : Bool) → nat_eq k x ≡ b → (if b then 1 else 0) + count k xs ≤ 1
    go f true h = let none = count-outside k x xs h d.0 in omega (arith, none)
    go f false h = let e = f d.1 in omega (arith, e)

wraps-once : IsOnce {F = poly} (λ x. x) body
wraps-once k = let few = count-once k (1 ∷ 2 ∷ 3 ∷ 4 ∷ 5 ∷ 6 ∷ 7 ∷ 8 ∷ 9 ∷ 10 ∷ []) refl in omega (arith, few)

wraps-local : IsLocal poly [] body
wraps-local =
    let_scoped (fn_scoped (last_scoped (let_scoped (construct_scoped (among_here refl)) (ret_scoped (among_here refl)))))
    (let_scoped const_scoped (let_scoped (use_scoped tt) (let_scoped (app_scoped (among_here refl) (among_there (among_here refl)))
    (let_scoped const_scoped (let_scoped (use_scoped tt) (let_scoped (app_scoped (among_here refl) (among_there (among_here refl)))
    (let_scoped (prim_scoped (an_atom_scoped (among_there (among_there (among_there (among_here refl)))) (an_atom_scoped (among_there (among_there (among_there (among_here refl)))) no_atoms_scoped))) (ret_scoped (among_here refl)))))))))

pub wraps-well : IsTests wraps
wraps-well = record {
  initial = refl;
  table = (
    record { declared = refl; equality = λ e. absurd (cc); closed = λ b e r s h. absurd (cc); admits = λ b e h. absurd (cc) },
    (record { declared = refl; equality = λ e. absurd (cc); closed = λ b e r s h. one-is b e r s (h 0 refl); admits = λ b e h. one-admits b e }, tt),
  );
  type = truth;
  typed = wraps-typed;
  once = wraps-once;
  local = wraps-local;
}
  where
    one-is : (b : Typ) → Some (var 0) ≡ Some b → (r s : ℕ → Typ) → r 0 ≡ s 0 → replace r b ≡ replace s b
    one-is b e r s h = subst (λ z. replace r z ≡ replace s z) (let same : var 0 ≡ b = cc in same) h

    one-admits : (b : Typ) → Some (var 0) ≡ Some b → typ.admits (λ i. true) b ≡ true
    one-admits b e = subst (λ z. typ.admits (λ i. true) z ≡ true) (let same : var 0 ≡ b = cc in same) refl

-- so at every number of turns it does what its copies do, and neither goes wrong
stays : (m : ℕ) → meaning (monomorphised wraps 0) m ≡ meaning_of_tests wraps m
stays m = makes-same wraps wraps-well 0 m

never : (m : ℕ) → (meaning (monomorphised wraps 0) m).end ≡ wrong → ⊥
never m = makes-never-wrong wraps wraps-well 0 m
