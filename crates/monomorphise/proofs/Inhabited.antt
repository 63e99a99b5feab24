-- Each parameter of a well formed program may stand for some type.
use Rattle.std.proofs.Common.{◌≡◌, ℕ, Bool, true, List, [], ◌∷◌, refl}
use Rattle.std.proofs.lemmas.Bool.{and_parts}
use Rattle.ty_core.specs.Types.{Typ}
use Rattle.ty_core.specs.Marks.{is_inhabited}
use Rattle.ty_core.specs.declared.mark.Mark.{Mark}
use Rattle.ty_core.specs.declared.mark.Mark.TheVariants.{Any, Equality, Class}
use Rattle.ty_core.specs.declared.scheme.Quantified.{Quantified}
use Rattle.ir_mono.specs.of_ir_plain.Tree.{Exp, Arms, Op, Fun, Funs}
use Rattle.ir_mono.specs.of_ir_poly.Tests.{poly}
use Rattle.ir_mono.specs.of_ir_poly.Types.{Constructor, is_declarable, are_new}
use Rattle.ir_mono.specs.of_ir_poly.TestsChecked.{Knowns, Checked, c_ret, c_let, c_exception, c_exception_alone, c_name, c_rec, c_switch, c_first, c_miss, c_counted, ArmsChecked, c_no_arms, c_arm, OpChecked, c_use, c_use_one, c_use_own, c_use_exception, c_const, c_con_alone, c_construct, c_ref_alone, c_refer, c_content, c_pack, c_make_record, c_select, c_prim_alone, c_prim, c_app, c_fn, c_block, c_handle, c_raise, c_raise_initial, FunChecked, c_last, c_more, FunsChecked, c_no_funs, c_fun}
use Rattle.monomorphise.specs.Monomorphise.{AllInhabited, Inhabited, ArmsInhabited, OpInhabited, FunInhabited, FunsInhabited}

mark-inhabited : (a : Mark) → is_declarable a ≡ true → is_inhabited a ≡ true
mark-inhabited Any e = refl
mark-inhabited Equality e = refl
mark-inhabited (Class c) e = absurd (cc)

new-inhabited : (qs D : List Quantified) → are_new qs D ≡ true → AllInhabited qs
new-inhabited [] D e = tt
new-inhabited (q ∷ qs) D e =
    let a = and_parts (is_declarable q.mark) _ e in let b = and_parts _ _ a.1 in let c = and_parts _ _ b.1 in
    (mark-inhabited q.mark a.0, new-inhabited qs D c.1)

module _ {table : List Constructor} where
  mutual
    pub exp-inhabited : {m : Bool} {D : List Quantified} {G : Knowns} {e : Exp poly} {t : Typ} → Checked table m D G e t → Inhabited e
    exp-inhabited (c_ret a) = tt
    exp-inhabited (c_let {D = D} {qs = qs} g n h o e) = (new-inhabited qs D n, op-inhabited o, exp-inhabited e)
    exp-inhabited (c_exception h e) = exp-inhabited e
    exp-inhabited (c_exception_alone e) = exp-inhabited e
    exp-inhabited (c_name n e) = exp-inhabited e
    exp-inhabited (c_rec {D = D} {qs = qs} n fs e) = (new-inhabited qs D n, funs-inhabited fs, exp-inhabited e)
    exp-inhabited (c_switch a arms) = arms-inhabited arms
    exp-inhabited (c_first e d) = (exp-inhabited e, exp-inhabited d)
    exp-inhabited c_miss = tt
    exp-inhabited (c_counted e) = exp-inhabited e

    arms-inhabited : {D : List Quantified} {G : Knowns} {arms : Arms poly} {u t : Typ} → ArmsChecked table D G arms u t → ArmsInhabited arms
    arms-inhabited c_no_arms = tt
    arms-inhabited (c_arm c e arms) = (exp-inhabited e, arms-inhabited arms)

    op-inhabited : {D : List Quantified} {G : Knowns} {o : Op poly} {t : Typ} → OpChecked table D G o t → OpInhabited o
    op-inhabited (c_use e al o h) = tt
    op-inhabited (c_use_one e) = tt
    op-inhabited (c_use_own e) = tt
    op-inhabited (c_use_exception e h) = tt
    op-inhabited (c_const h) = tt
    op-inhabited (c_con_alone h e) = tt
    op-inhabited (c_construct h a) = tt
    op-inhabited (c_ref_alone e) = tt
    op-inhabited (c_refer a e) = tt
    op-inhabited (c_content a e) = tt
    op-inhabited (c_pack e a h) = tt
    op-inhabited (c_make_record row e a) = tt
    op-inhabited (c_select r a e h) = tt
    op-inhabited (c_prim_alone al e) = tt
    op-inhabited (c_prim al as_ e h) = tt
    op-inhabited (c_app g a e) = tt
    op-inhabited (c_fn f) = fun-inhabited f
    op-inhabited (c_block e) = exp-inhabited e
    op-inhabited (c_handle e h) = (exp-inhabited e, exp-inhabited h)
    op-inhabited (c_raise a e) = tt
    op-inhabited (c_raise_initial h) = tt

    fun-inhabited : {D : List Quantified} {G : Knowns} {f : Fun poly} {t : Typ} → FunChecked table D G f t → FunInhabited f
    fun-inhabited (c_last o e h) = exp-inhabited e
    fun-inhabited (c_more o f h) = fun-inhabited f

    funs-inhabited : {D : List Quantified} {G : Knowns} {fs : Funs poly} → FunsChecked table D G fs → FunsInhabited fs
    funs-inhabited c_no_funs = tt
    funs-inhabited (c_fun o f fs) = (fun-inhabited f, funs-inhabited fs)
