-- The words of copies in the order of the text, each with the names and the types that it says. A part of a tree is its words in front of those that follow.
use Rattle.std.specs.Prelude.{ℕ, List, ◌∷◌, Option}
use Rattle.mlc_names.specs.declared.label.Label.{Label}
use Rattle.mlc_base.specs.declared.place.Place.{Place}
use Rattle.mlc_prims.specs.declared.basis.BasisPrimitive.{BasisPrimitive}
use Rattle.ty_core.specs.Types.{Typ}
use Rattle.ir_plain.specs.Tree.{Case, Exception, Atoms, no_atoms, an_atom, Row, no_row, a_row, Exp, ret, let_in, exception_in, name_in, rec_in, switch, first, miss, counted, Arms, no_arms, arm, Op, make_record, prim, fn, block, handle, Fun, last, more, Funs, no_funs, fun}
use Rattle.mono_strip.specs.of_monomorphise.Monomorphise.{Name, Named}

pub data Sign : Type 0 where
  ret_sign : Name → Sign
  miss_sign : Sign
  first_sign : Sign
  counted_sign : ℕ → Sign
  switch_sign : Name → Typ → Sign
  arm_sign : Case Named → Sign
  exception_sign : Name → ℕ → Option Typ → Sign
  name_sign : Name → Exception Named → Sign
  group_sign : Sign
  function_sign : Name → Typ → Sign
  let_sign : Name → Typ → Sign
  -- an operation that has no list of atoms and no expression
  op_sign : Op Named → Sign
  record_sign : Typ → Sign
  perform_sign : Option Place → BasisPrimitive → Typ → Sign
  fn_sign : Sign
  parameter_sign : Name → Typ → Sign
  last_sign : Name → Typ → Sign
  block_sign : Sign
  handle_sign : Sign
  packet_sign : Name → Sign
  field_sign : Label → Name → Sign
  argument_sign : Name → Sign
  end_sign : Sign

abbrev pub spell_row : Row Named → List Sign → List Sign
spell_row no_row ws = end_sign ∷ ws
spell_row (a_row l k row) ws = field_sign l k ∷ spell_row row ws

abbrev pub spell_atoms : Atoms Named → List Sign → List Sign
spell_atoms no_atoms ws = end_sign ∷ ws
spell_atoms (an_atom k as_) ws = argument_sign k ∷ spell_atoms as_ ws

-- the names and types of a group's functions stand in front of their bodies
abbrev pub spell_heads : Funs Named → List Sign → List Sign
spell_heads no_funs ws = end_sign ∷ ws
spell_heads (fun k t f fs) ws = function_sign k t ∷ spell_heads fs ws

abbrev mutual
  pub spell : Exp Named → List Sign → List Sign
  spell (ret k) ws = ret_sign k ∷ ws
  spell (let_in k u t o e) ws = let_sign k t ∷ spell_op o (spell e ws)
  spell (exception_in k i t e) ws = exception_sign k i t ∷ spell e ws
  spell (name_in k j e) ws = name_sign k j ∷ spell e ws
  spell (rec_in u fs e) ws = group_sign ∷ spell_heads fs (spell_bodies fs (spell e ws))
  spell (switch k t arms) ws = switch_sign k t ∷ spell_arms arms ws
  spell (first e d) ws = first_sign ∷ spell e (spell d ws)
  spell miss ws = miss_sign ∷ ws
  spell (counted n e) ws = counted_sign n ∷ spell e ws

  pub spell_arms : Arms Named → List Sign → List Sign
  spell_arms no_arms ws = end_sign ∷ ws
  spell_arms (arm c e arms) ws = arm_sign c ∷ spell e (spell_arms arms ws)

  pub spell_op : Op Named → List Sign → List Sign
  spell_op (make_record t row) ws = record_sign t ∷ spell_row row ws
  spell_op (prim m p t as_) ws = perform_sign m p t ∷ spell_atoms as_ ws
  spell_op (fn f) ws = fn_sign ∷ spell_fun f ws
  spell_op (block e) ws = block_sign ∷ spell e ws
  spell_op (handle e k d) ws = handle_sign ∷ spell e (packet_sign k ∷ spell d ws)
  spell_op o ws = op_sign o ∷ ws

  pub spell_fun : Fun Named → List Sign → List Sign
  spell_fun (last k t e) ws = last_sign k t ∷ spell e ws
  spell_fun (more k t f) ws = parameter_sign k t ∷ spell_fun f ws

  pub spell_bodies : Funs Named → List Sign → List Sign
  spell_bodies no_funs ws = ws
  spell_bodies (fun k t f fs) ws = spell_fun f (spell_bodies fs ws)
