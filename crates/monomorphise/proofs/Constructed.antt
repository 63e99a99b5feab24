-- Copies of a program use its constructors.
use Rattle.std.proofs.Common.{◌≡◌, ℕ, List, [], ◌∷◌, ◌++◌, Option, Some, None}
use Rattle.std.specs.List.{AllByRecursion}
use Rattle.ty_core.specs.Types.{Typ}
use Rattle.ty_core.specs.declared.scheme.Quantified.{Quantified}
use Rattle.ir_mono.specs.of_ir_plain.Tree.{Case, Exp, Arms, Op, Fun, Funs}
use Rattle.ir_mono.specs.of_ir_poly.Tests.{poly}
use Rattle.ir_mono.specs.of_ir_poly.Types.{Constructor}
use Rattle.monomorphise.specs.Copies.{Pairs, Copied, CopyArgument, copy_no_argument, copy_argument, CopyCase, copy_is_literal, copy_is_con, copy_is_con_of, copy_is_exn, copy_is_exn_of, copy_is_record, Copy, copy_ret, copy_let, copy_exception, copy_name, copy_rec, copy_switch, copy_first, copy_miss, copy_counted, CopyArms, copy_no_arms, copy_arm, CopyOp, copy_use, copy_own, copy_const, copy_con_alone, copy_construct, copy_ref_alone, copy_refer, copy_content, copy_pack, copy_make_record, copy_select, copy_prim_alone, copy_prim, copy_app, copy_fn, copy_block, copy_handle, copy_raise, copy_raise_initial, CopyFun, copy_last, copy_more, CopyFuns, copy_no_funs, copy_fun, Rest, no_more_copies, one_more_copy, RestGroups, no_more_groups, one_more_group}
use Rattle.monomorphise.specs.Monomorphise.{Name, named, Named}
use Rattle.monomorphise.specs.Table.{Wanted, wanted_if, case_wanted, wanted, arms_wanted, op_wanted, fun_wanted, funs_wanted}
use Rattle.monomorphise.proofs.Filled.{Has, all-join}

module _ (cs : List Constructor) where
  abbrev Have : List Wanted → Type 0
  Have ws = AllByRecursion (Has cs) ws

  argument-has : {s : ℕ → Typ} {t : Option Typ} {n : Option Typ} (ws : List Wanted) → CopyArgument (named cs) s t n → Have ws → Have (wanted_if n ws)
  argument-has ws copy_no_argument h = h
  argument-has ws (copy_argument t n e) h = (tt, h)

  case-has : {r r' : Copied Name} {s : ℕ → Typ} {u : Typ} {c : Case poly} {c' : Case Named} → CopyCase (named cs) r s u c c' r' → Have (case_wanted u c')
  case-has (copy_is_literal l) = tt
  case-has (copy_is_con c p) = (p, tt)
  case-has (copy_is_con_of c x t k n p e u m) = (p, (tt, tt))
  case-has (copy_is_exn y) = tt
  case-has (copy_is_exn_of x t k n y e u m) = (tt, tt)
  case-has (copy_is_record size) = tt

  mutual
    pub exp-has : {r : Copied Name} {s : ℕ → Typ} {e : Exp poly} {e' : Exp Named} → Copy (named cs) r s e e' → Have (wanted e')
    exp-has (copy_ret y) = tt
    exp-has (copy_let {o' = o'} a f t o n m rest) = (tt, all-join (Has cs) (op_wanted o') _ (op-has o) (rest-has rest))
    exp-has (copy_exception x z k t n m e) = argument-has _ t (exp-has e)
    exp-has (copy_name x k y n m e) = exp-has e
    exp-has (copy_rec {fs' = fs'} a f c n m rest) = all-join (Has cs) (funs_wanted fs') _ (funs-has c) (groups-has rest)
    exp-has (copy_switch t n y e arms) = (tt, arms-has arms)
    exp-has (copy_first {e' = e'} x y) = all-join (Has cs) (wanted e') _ (exp-has x) (exp-has y)
    exp-has copy_miss = tt
    exp-has (copy_counted n x) = exp-has x

    rest-has : {r r' : Copied Name} {s : ℕ → Typ} {x : ℕ} {ps : List Quantified} {t : Typ} {o : Op poly} {e : Exp poly} {e' : Exp Named} → Rest (named cs) r s x ps t o e r' e' → Have (wanted e')
    rest-has (no_more_copies e) = exp-has e
    rest-has (one_more_copy {o' = o'} a f v t o m rest) = (tt, all-join (Has cs) (op_wanted o') _ (op-has o) (rest-has rest))

    groups-has : {r r' : Copied Name} {s : ℕ → Typ} {ps : List Quantified} {fs : Funs poly} {e : Exp poly} {e' : Exp Named} → RestGroups (named cs) r s ps fs e r' e' → Have (wanted e')
    groups-has (no_more_groups e) = exp-has e
    groups-has (one_more_group {fs' = fs'} a f c n m rest) = all-join (Has cs) (funs_wanted fs') _ (funs-has c) (groups-has rest)

    arms-has : {r : Copied Name} {s : ℕ → Typ} {u : Typ} {arms : Arms poly} {arms' : Arms Named} → CopyArms (named cs) r s u arms arms' → Have (arms_wanted u arms')
    arms-has copy_no_arms = tt
    arms-has {u = u} (copy_arm {c' = c'} {e' = e'} c x arms) = all-join (Has cs) (case_wanted u c') _ (case-has c) (all-join (Has cs) (wanted e') _ (exp-has x) (arms-has arms))

    op-has : {r : Copied Name} {s : ℕ → Typ} {o : Op poly} {o' : Op Named} → CopyOp (named cs) r s o o' → Have (op_wanted o')
    op-has (copy_use e y) = tt
    op-has (copy_own a y) = tt
    op-has (copy_const l) = tt
    op-has (copy_con_alone c t n e p) = (tt, (p, tt))
    op-has (copy_construct m c t n e p y) = (tt, (p, tt))
    op-has (copy_ref_alone t n e) = (tt, tt)
    op-has (copy_refer m t n e y) = (tt, tt)
    op-has (copy_content t n e y) = (tt, tt)
    op-has (copy_pack m t n e y x) = (tt, tt)
    op-has (copy_make_record t n e row) = (tt, tt)
    op-has (copy_select t n l e y) = (tt, tt)
    op-has (copy_prim_alone p t n e) = (tt, tt)
    op-has (copy_prim m p t n e as_) = (tt, tt)
    op-has (copy_app place f y) = tt
    op-has (copy_fn f) = fun-has f
    op-has (copy_block e) = exp-has e
    op-has (copy_handle x k {e' = e'} e n m d) = all-join (Has cs) (wanted e') _ (exp-has e) (exp-has d)
    op-has (copy_raise y) = tt
    op-has (copy_raise_initial i) = tt

    fun-has : {r : Copied Name} {s : ℕ → Typ} {f : Fun poly} {f' : Fun Named} → CopyFun (named cs) r s f f' → Have (fun_wanted f')
    fun-has (copy_last x t k n e u m z) = (tt, exp-has z)
    fun-has (copy_more x t k n e u m z) = (tt, fun-has z)

    funs-has : {r : Copied Name} {s : ℕ → Typ} {fs : Funs poly} {fs' : Funs Named} {qs : Pairs Name} → CopyFuns (named cs) r s fs fs' qs → Have (funs_wanted fs')
    funs-has copy_no_funs = tt
    funs-has (copy_fun x t k n {f' = f'} e f fs) = (tt, all-join (Has cs) (fun_wanted f') _ (fun-has f) (funs-has fs))
