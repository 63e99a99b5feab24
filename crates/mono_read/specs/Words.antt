-- The words of a program with simple types, in the order in which variables are bound: a binding stands behind its operation. A part of a tree is its words in
-- front of those that follow.
use Rattle.std.specs.Prelude.{ℕ, List, ◌∷◌, Option}
use Rattle.mlc_names.specs.declared.label.Label.{Label}
use Rattle.mlc_base.specs.declared.place.Place.{Place}
use Rattle.mlc_prims.specs.declared.basis.BasisPrimitive.{BasisPrimitive}
use Rattle.ir_plain.specs.Tree.{Case, Exception, Atoms, no_atoms, an_atom, Row, no_row, a_row, Exp, ret, let_in, exception_in, name_in, rec_in, switch, first, miss, counted, Arms, no_arms, arm, Op, make_record, prim, fn, block, handle, Fun, last, more, Funs, no_funs, fun}
use Rattle.ir_mono.specs.Types as table
use Rattle.ir_mono.specs.Mono.{mono}

module _ (types : List table.Row) where
  pub data Sign : Type 0 where
    ret_sign : ℕ → Sign
    miss_sign : Sign
    first_sign : Sign
    counted_sign : ℕ → Sign
    switch_sign : (atom type : ℕ) → Sign
    arm_sign : Case (mono types) → Sign
    exception_sign : (variable identifier : ℕ) → Option ℕ → Sign
    name_sign : ℕ → Exception (mono types) → Sign
    group_sign : Sign
    function_sign : (variable type : ℕ) → Sign
    let_sign : (variable type : ℕ) → Sign
    -- an operation that has no list of atoms and no expression
    op_sign : Op (mono types) → Sign
    record_sign : ℕ → Sign
    perform_sign : Option Place → BasisPrimitive → ℕ → Sign
    fn_sign : Sign
    parameter_sign : (variable type : ℕ) → Sign
    last_sign : (variable type : ℕ) → Sign
    block_sign : Sign
    handle_sign : Sign
    packet_sign : ℕ → Sign
    field_sign : Label → ℕ → Sign
    argument_sign : ℕ → Sign
    end_sign : Sign

module _ {types : List table.Row} where
  abbrev pub spell_row : Row (mono types) → List (Sign types) → List (Sign types)
  spell_row no_row ws = end_sign ∷ ws
  spell_row (a_row l k row) ws = field_sign l k ∷ spell_row row ws

  abbrev pub spell_atoms : Atoms (mono types) → List (Sign types) → List (Sign types)
  spell_atoms no_atoms ws = end_sign ∷ ws
  spell_atoms (an_atom k as_) ws = argument_sign k ∷ spell_atoms as_ ws

  -- the variables and types of a group's functions stand in front of their bodies
  abbrev pub spell_heads : Funs (mono types) → List (Sign types) → List (Sign types)
  spell_heads no_funs ws = end_sign ∷ ws
  spell_heads (fun k t f fs) ws = function_sign k t ∷ spell_heads fs ws

  abbrev mutual
    pub spell : Exp (mono types) → List (Sign types) → List (Sign types)
    spell (ret k) ws = ret_sign k ∷ ws
    spell (let_in k u t o e) ws = spell_op o (let_sign k t ∷ spell e ws)
    spell (exception_in k i t e) ws = exception_sign k i t ∷ spell e ws
    spell (name_in k j e) ws = name_sign k j ∷ spell e ws
    spell (rec_in u fs e) ws = group_sign ∷ spell_heads fs (spell_bodies fs (spell e ws))
    spell (switch k t arms) ws = switch_sign k t ∷ spell_arms arms ws
    spell (first e d) ws = first_sign ∷ spell e (spell d ws)
    spell miss ws = miss_sign ∷ ws
    spell (counted n e) ws = counted_sign n ∷ spell e ws

    pub spell_arms : Arms (mono types) → List (Sign types) → List (Sign types)
    spell_arms no_arms ws = end_sign ∷ ws
    spell_arms (arm c e arms) ws = arm_sign c ∷ spell e (spell_arms arms ws)

    pub spell_op : Op (mono types) → List (Sign types) → List (Sign types)
    spell_op (make_record t row) ws = record_sign t ∷ spell_row row ws
    spell_op (prim m p t as_) ws = perform_sign m p t ∷ spell_atoms as_ ws
    spell_op (fn f) ws = fn_sign ∷ spell_fun f ws
    spell_op (block e) ws = block_sign ∷ spell e ws
    spell_op (handle e k d) ws = handle_sign ∷ spell e (packet_sign k ∷ spell d ws)
    spell_op o ws = op_sign o ∷ ws

    pub spell_fun : Fun (mono types) → List (Sign types) → List (Sign types)
    spell_fun (last k t e) ws = last_sign k t ∷ spell e ws
    spell_fun (more k t f) ws = parameter_sign k t ∷ spell_fun f ws

    pub spell_bodies : Funs (mono types) → List (Sign types) → List (Sign types)
    spell_bodies no_funs ws = ws
    spell_bodies (fun k t f fs) ws = spell_fun f (spell_bodies fs ws)
