-- Tests: a generalised function at two types, well typed and run; and for each rule of typing a program that it refuses.
use Rattle.std.proofs.Common.{◌≡◌, ℕ, Bool, false, List, [], ◌∷◌, Option, Some, None, pos, ap, refl, arith}
use Rattle.ir_plain.specs.of_mlc_runs.Outcome.{ended, going}
use Rattle.mlc_base.specs.declared.place.Place.{Place}
use Rattle.ir_plain.specs.of_mlc_prims.LitOf.{int, string}
use Rattle.ir_plain.specs.of_mlc_prims.declared.basis.BasisPrimitive.TheVariants.{Equals, Print}
use Rattle.ty_basis.specs.of_ty_core.Types.{Typ, var}
use Rattle.ty_basis.specs.of_ty_core.declared.mark.Mark.TheVariants.{Any}
use Rattle.ty_basis.specs.of_ty_core.declared.scheme.Quantified.{Quantified}
use Rattle.ir_plain.specs.Once.{IsOnce}
use Rattle.ir_plain.specs.Tree.{is_literal, fixed, Atoms, no_atoms, an_atom, ret, let_in, name_in, switch, first, miss, no_arms, arm, Op, use_of, const, prim, app, fn, block, handle, raise_initial, last}
use Rattle.ir_poly.specs.Tests.{Use, inst, poly, Tests, run}
use Rattle.ir_poly.specs.TestsChecked.{of_type, general, Knowns, exn_type, has_int, has_string, atom_checked, no_atoms_checked, an_atom_checked, fixed_checked, literal_checked, Checked, c_ret, c_let, c_name, c_switch, c_first, c_miss, c_no_arms, c_arm, OpChecked, c_use, c_use_one, c_use_own, c_use_exception, c_const, c_prim, c_app, c_fn, c_block, c_handle, c_raise_initial, c_last}
use Rattle.ir_poly.specs.Types.{int_name, string_name, of_name, function_type, unit_type, Constructor, initial_constructors}

abbrev table : List Constructor
table = initial_constructors

abbrev at : ℕ → Place
at n = record { file = 0; byte = n }

abbrev integer : Typ
integer = of_name int_name

abbrev text : Typ
text = of_name string_name

abbrev q : Quantified
q = record { variable = 0; mark = Any }

abbrev a : Typ
a = var 0

abbrev to : Typ → Typ → Typ
to t u = function_type t u

abbrev atom : ℕ → Use
atom x = inst x []

abbrev let1 : ℕ → Typ → Op poly → Tests → Tests
let1 x t o e = let_in x [] t o e

abbrev initial : List ℕ
initial = 90 ∷ 91 ∷ 92 ∷ 93 ∷ 94 ∷ 95 ∷ 96 ∷ []

-- id, at int and at string
abbrev at-two : Tests
at-two = let_in 1 (q ∷ []) (to a a) (fn (last 2 a (let1 3 a (use_of (atom 2)) (ret (atom 3)))))
    (let1 4 (to integer integer) (use_of (inst 1 (integer ∷ []))) (let1 5 integer (const (int (pos 3))) (let1 6 integer (app (at 1) (atom 4) (atom 5))
    (let1 7 (to text text) (use_of (inst 1 (text ∷ []))) (let1 8 text (const (string (97 ∷ []))) (let1 9 text (app (at 2) (atom 7) (atom 8))
    (let1 10 unit_type (prim (Some (at 3)) Print unit_type (an_atom (atom 9) no_atoms)) (ret (atom 10)))))))))

at-two-is-typed : Checked table false [] [] at-two unit_type
at-two-is-typed =
    c_let refl refl refl (c_fn (c_last refl (c_let refl refl refl (c_use_one refl) (c_ret (atom_checked refl))) refl))
    (c_let refl refl refl (c_use {qs = q ∷ []} {x = 1} {ts = integer ∷ []} {b = to a a} refl (tt, tt) refl refl) (c_let refl refl refl (c_const (has_int (pos 3))) (c_let refl refl refl (c_app (atom_checked refl) (atom_checked refl) refl)
    (c_let refl refl refl (c_use {qs = q ∷ []} {x = 1} {ts = text ∷ []} {b = to a a} refl (tt, tt) refl refl) (c_let refl refl refl (c_const (has_string (97 ∷ []))) (c_let refl refl refl (c_app (atom_checked refl) (atom_checked refl) refl)
    (c_let refl refl refl (c_prim {m = Some (at 3)} {p = Print} {u = unit_type} tt (an_atom_checked (atom_checked {x = 9} refl) no_atoms_checked) refl refl) (c_ret (atom_checked {x = 10} refl)))))))))

at-two-three : run initial at-two 3 ≡ record { output = 97 ∷ []; end = ended; turns = at 1 ∷ at 2 ∷ at 3 ∷ [] }
at-two-three = refl

at-two-one : run initial at-two 1 ≡ record { output = []; end = going; turns = at 1 ∷ [] }
at-two-one = refl

-- a miss goes to the nearest `first`, and a fixed exception is handled
abbrev misses : Tests
misses = let1 1 integer (const (int (pos 3))) (first (switch (atom 1) integer (arm (is_literal (int (pos 4))) miss no_arms))
    (let1 2 integer (handle (let1 3 integer (raise_initial 3) (ret (atom 3))) 4 (name_in 5 (fixed 3) (let1 6 exn_type (use_of (atom 5)) (ret (atom 1))))) (ret (atom 2))))

misses-is-typed : Checked table false [] [] misses integer
misses-is-typed =
    c_let refl refl refl (c_const (has_int (pos 3))) (c_first (c_switch (atom_checked refl) (c_arm (literal_checked (has_int (pos 4))) c_miss c_no_arms))
    (c_let refl refl refl (c_handle (c_let refl refl refl (c_raise_initial refl) (c_ret (atom_checked refl))) (c_name (fixed_checked refl) (c_let refl refl refl (c_use_exception {x = 5} {a = None} refl refl) (c_ret (atom_checked {x = 1} refl))))) (c_ret (atom_checked {x = 2} refl))))

-- Refused

names-differ : int_name ≡ string_name → ⊥
names-differ e = let stamps : 0 ≡ 3 = ap (λ n. n.stamp) e in omega (arith, stamps)

unbound : {m : Bool} {t : Typ} → Checked table m [] [] (ret (atom 1)) t → ⊥
unbound (c_ret (atom_checked e)) = cc

-- no miss gets out of a block, of a function, or of the program
block-misses : {t : Typ} → OpChecked table [] [] (block miss) t → ⊥
block-misses (c_block e) = no-miss e refl
  where
    no-miss : {t : Typ} {m : Bool} → Checked table m [] [] miss t → m ≡ false → ⊥
    no-miss c_miss e = cc

-- an application is no value
no-value : {m : Bool} {t u : Typ} {e : Tests} → Checked table m [] ((1, of_type (to u u)) ∷ (2, of_type u) ∷ []) (let_in 3 (q ∷ []) u (app (at 0) (atom 1) (atom 2)) e) t → ⊥
no-value (c_let g n h o e) = cc

missing-instance : {t : Typ} → OpChecked table [] ((1, general (q ∷ []) var (to a a)) ∷ []) (use_of (atom 1)) t → ⊥
missing-instance (c_use {qs = []} e al o h) = cc
missing-instance (c_use {qs = p ∷ ps} e al o h) = al
missing-instance (c_use_one e) = cc
missing-instance (c_use_own e) = cc
missing-instance (c_use_exception e h) = cc

-- a generalised variable is no atom
general-atom : {m : Bool} {t : Typ} → Checked table m [] ((1, general (q ∷ []) var (to a a)) ∷ []) (ret (atom 1)) t → ⊥
general-atom (c_ret (atom_checked e)) = cc

equality-of-functions : {m : Option Place} {as_ : Atoms poly} {G : Knowns} {t : Typ} → OpChecked table [] G (prim m Equals (to integer integer) as_) t → ⊥
equality-of-functions (c_prim al as_ e h) = cc

wrong-argument : {t : Typ} → OpChecked table [] ((1, of_type (to integer integer)) ∷ (2, of_type text) ∷ []) (app (at 0) (atom 1) (atom 2)) t → ⊥
wrong-argument (c_app (atom_checked f) (atom_checked x) e) = let same : int_name ≡ string_name = cc in names-differ same

-- a parameter outside its declaration
parameter-escapes : {m : Bool} {t : Typ} {o : Op poly} {e : Tests} → Checked table m [] [] (let1 1 a o e) t → ⊥
parameter-escapes (c_let g n h o e) = cc

bound-twice : IsOnce {F = poly} (λ x. x) (let1 1 integer (const (int (pos 3))) (let1 1 integer (const (int (pos 3))) (ret (atom 1)))) → ⊥
bound-twice h = let two = h 1 in omega (arith, two)
