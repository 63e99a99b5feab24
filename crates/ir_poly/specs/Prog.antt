-- The tree with source matches: shaped as the source, with identifiers resolved and types written. A variable is a number, bound once. Types are those of
-- `ty_core`: their variables are the parameters of declarations. A type stands at each expression, and at each part of a pattern that of what it is matched
-- with.
use Rattle.std.specs.Prelude.{ℕ, suc, Bool, true, false, ◌&&◌, List, Option}
use Rattle.ir_plain.specs.of_mlc_names.declared.label.Label.{Label}
use Rattle.mlc_base.specs.declared.place.Place.{Place}
use Rattle.ir_plain.specs.of_mlc_prims.LitOf.{Literal}
use Rattle.ir_plain.specs.of_mlc_prims.declared.basis.BasisPrimitive.{BasisPrimitive}
use Rattle.ty_basis.specs.of_ty_core.Types.{Typ}
use Rattle.ty_basis.specs.of_ty_core.declared.name.TyName.{TyName}
use Rattle.ty_basis.specs.of_ty_core.declared.scheme.Quantified.{Quantified}

-- an exception of the initial basis, or the one that a variable has
pub data Exc : Type 0 where
  fixed : ℕ → Exc
  held : ℕ → Exc

mutual
  pub data Pat : Type 0 where
    any_pat : Pat
    variable_pat : ℕ → Pat
    constant_pat : Literal → Pat
    -- a constructor alone, and before its argument, whose type stands there
    con_pat : ℕ → Pat
    con_of_pat : ℕ → Typ → Pat → Pat
    ref_of_pat : Typ → Pat → Pat
    exn_pat : Exc → Pat
    exn_of_pat : Exc → Typ → Pat → Pat
    -- whether there may be further fields
    fields_pat : Bool → PatFields → Pat
    as_pat : ℕ → Pat → Pat

  pub data PatFields : Type 0 where
    no_pats : PatFields
    a_pat : Label → Typ → Pat → PatFields → PatFields

mutual
  pub data Exp : Type 0 where
    constant_exp : Literal → Typ → Exp
    -- a variable at the types of its parameters
    variable_exp : ℕ → List Typ → Typ → Exp
    -- a function inside its own group, at the group's own parameters
    own_exp : ℕ → Typ → Exp
    -- a constructor of the datatype with this name, whose arguments these are
    con_exp : ℕ → TyName → List Typ → Typ → Exp
    -- the constructor `ref`; the first type is that of what its references hold
    ref_exp : Typ → Typ → Exp
    exn_exp : Exc → Typ → Exp
    -- a primitive at the types of its parameters
    prim_exp : BasisPrimitive → List Typ → Typ → Exp
    -- the fields as they are written
    fields_exp : Typ → Fields → Exp
    let_exp : Typ → Decs → Exp → Exp
    -- an application takes a turn
    app_exp : Place → Typ → Exp → Exp → Exp
    -- also an application whose operator is written as `fn`, which takes none
    case_exp : Place → Typ → Exp → Rules → Exp
    -- andalso (true) and orelse (false)
    chain_exp : Bool → Typ → Chain → Exp
    handle_exp : Typ → Exp → Rules → Exp
    raise_exp : Typ → Exp → Exp
    fn_exp : Typ → Fun → Exp
    -- stands for so many further nodes of the source
    counted_exp : ℕ → Typ → Exp → Exp

  pub data Fields : Type 0 where
    no_fields : Fields
    a_field : Label → Exp → Fields → Fields

  pub data Chain : Type 0 where
    only : Exp → Chain
    link : Exp → Chain → Chain

  pub data Rules : Type 0 where
    no_rules : Rules
    a_rule : Pat → Exp → Rules → Rules

  -- a function of one parameter or more, with the types of its parameters; at rules also the type of the result
  pub data Fun : Type 0 where
    last : ℕ → Typ → Exp → Fun
    by_rules : Place → Typ → Typ → Rules → Fun
    more : ℕ → Typ → Fun → Fun

  pub data Decs : Type 0 where
    no_decs : Decs
    -- bindings and functions that are declared together, over parameters
    val_dec : List Quantified → Binds → Funs → Decs → Decs
    -- a new exception, with its variable, its identifier and the type of its argument
    exception_dec : (variable identifier : ℕ) → Option Typ → Decs → Decs
    -- stands for so many further nodes of the source
    counted_dec : ℕ → Decs → Decs

  pub data Binds : Type 0 where
    no_binds : Binds
    -- whether it is generalised; the type of the pattern
    a_bind : Place → Bool → Pat → Typ → Exp → Binds → Binds

  pub data Funs : Type 0 where
    no_funs : Funs
    -- the variables that have the function, and its type
    a_fun : List ℕ → Typ → Fun → Funs → Funs

-- the type that an expression has written
abbrev pub type_of : Exp → Typ
type_of (constant_exp l t) = t
type_of (variable_exp n ts t) = t
type_of (own_exp n t) = t
type_of (con_exp c y ts t) = t
type_of (ref_exp a t) = t
type_of (exn_exp x t) = t
type_of (prim_exp p ts t) = t
type_of (fields_exp t fs) = t
type_of (let_exp t ds e) = t
type_of (app_exp place t f a) = t
type_of (case_exp place t e rs) = t
type_of (chain_exp b t c) = t
type_of (handle_exp t e rs) = t
type_of (raise_exp t e) = t
type_of (fn_exp t f) = t
type_of (counted_exp n t e) = t

-- expressions that make what they are applied to: `ref` makes something new
abbrev pub is_construction : Exp → Bool
is_construction (con_exp c y ts t) = true
is_construction (exn_exp x t) = true
is_construction (counted_exp n t e) = is_construction e
is_construction e = false

-- expressions whose value can be generalised: it needs no turns but those of constructions
abbrev mutual
  pub is_value : Exp → Bool
  is_value (constant_exp l t) = true
  is_value (variable_exp n ts t) = true
  is_value (own_exp n t) = true
  is_value (con_exp c y ts t) = true
  is_value (ref_exp a t) = true
  is_value (exn_exp x t) = true
  is_value (prim_exp p ts t) = true
  is_value (fields_exp t fs) = are_values fs
  is_value (let_exp t ds e) = false
  is_value (app_exp place t f a) = is_construction f && is_value a
  is_value (case_exp place t e rs) = false
  is_value (chain_exp b t c) = false
  is_value (handle_exp t e rs) = false
  is_value (raise_exp t e) = false
  is_value (fn_exp t f) = true
  is_value (counted_exp n t e) = is_value e

  pub are_values : Fields → Bool
  are_values no_fields = true
  are_values (a_field l e fs) = is_value e && are_values fs

abbrev pub pat_count : PatFields → ℕ
pat_count no_pats = 0
pat_count (a_pat l t p ps) = suc (pat_count ps)
