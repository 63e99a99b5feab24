-- The type of an expression is the one that it has written.
use Rattle.std.proofs.Common.{◌≡◌, refl}
use Rattle.ty_basis.specs.of_ty_core.Types.{Typ}
use Rattle.ty_basis.specs.of_ty_core.declared.scheme.Quantified.{Quantified}
use Rattle.std.specs.Prelude.{List}
use Rattle.ir_poly.specs.Prog.{Exp, type_of}
use Rattle.ir_poly.specs.ProgChecked.{Checked, c_constant, c_variable, c_variable_one, c_own, c_con, c_ref, c_exn, c_prim, c_fields, c_let, c_app, c_case, c_chain, c_handle, c_raise, c_fn, c_counted}
use Rattle.ir_poly.specs.TestsChecked.{Knowns}
use Rattle.ir_poly.specs.Types.{Constructor}

pub said : {table : List Constructor} {D : List Quantified} {G : Knowns} {e : Exp} {t : Typ} → Checked table D G e t → t ≡ type_of e
said (c_constant h) = refl
said (c_variable e a o h) = refl
said (c_variable_one e) = refl
said (c_own e) = refl
said (c_con k f s o h) = refl
said (c_ref o h) = refl
said (c_exn x h) = refl
said (c_prim o a h) = refl
said (c_fields fs h a) = refl
said (c_let G' ds e) = refl
said (c_app f a h) = refl
said (c_case e o rs) = refl
said (c_chain c h) = refl
said (c_handle e rs) = refl
said (c_raise e h) = refl
said (c_fn f) = refl
said (c_counted e) = refl
