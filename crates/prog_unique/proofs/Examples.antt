-- What is bound where it is bound already, and what isn't.
use Rattle.std.proofs.Common.{◌≡◌, ℕ, true, false, List, [], ◌∷◌, None, refl}
use Rattle.mlc_base.specs.declared.place.Place.{Place}
use Rattle.ty_basis.specs.Types.{unit_type}
use Rattle.ir_plain.specs.Unique.{IsOutside, outside_none, outside_more}
use Rattle.ir_poly.specs.Prog.{variable_pat, as_pat, variable_exp, no_decs, val_dec, no_binds, a_bind, no_funs, a_fun, last, exception_dec}
use Rattle.prog_unique.specs.Unique.{new_name, no_names, new_funs, no_new_funs, variable_exp_unique, PatUnique, variable_unique, as_unique, last_unique, DecsUnique, no_decs_unique, val_unique, exception_unique, no_binds_unique, bind_unique, no_funs_unique, fun_unique}

-- `exception 1 exception 2` binds both, the last in front; with the same number twice it doesn't
two : DecsUnique [] (exception_dec 1 0 None (exception_dec 2 0 None no_decs)) (2 ∷ 1 ∷ [])
two = exception_unique outside_none (exception_unique (outside_more refl outside_none) no_decs_unique)

-- this list holds 1
no-place : IsOutside 1 (1 ∷ []) → (goal : Type 0) → goal
no-place (outside_more e p) goal = let no : true ≡ false = e in absurd cc

twice : (bs : List ℕ) → DecsUnique [] (exception_dec 1 0 None (exception_dec 1 0 None no_decs)) bs → (goal : Type 0) → goal
twice bs (exception_unique o (exception_unique p u)) goal = no-place p goal

-- `val 1 = e and 1 = e` binds it twice; `val rec 1 = fn 2 => 1` doesn't
rec-once : DecsUnique [] (val_dec [] no_binds (a_fun (1 ∷ []) unit_type (last 2 unit_type (variable_exp 1 [] unit_type)) no_funs) no_decs) (1 ∷ [])
rec-once =
    val_unique (new_funs (new_name outside_none no_names) no_new_funs) (fun_unique (last_unique (outside_more refl outside_none) variable_exp_unique) no_funs_unique)
    no_binds_unique no_decs_unique

and-twice : (place : Place) (bs : List ℕ)
    → DecsUnique [] (val_dec [] (a_bind place false (variable_pat 1) unit_type (variable_exp 9 [] unit_type) (a_bind place false (variable_pat 1) unit_type (variable_exp 9 [] unit_type) no_binds)) no_funs no_decs) bs
    → (goal : Type 0) → goal
and-twice place bs (val_unique n f (bind_unique e (variable_unique o) (bind_unique d (variable_unique p) none)) u) goal = no-place p goal

-- `1 as 1` binds it twice
as-twice : (bs : List ℕ) → PatUnique [] (as_pat 1 (variable_pat 1)) bs → (goal : Type 0) → goal
as-twice bs (as_unique o (variable_unique p)) goal = no-place p goal
