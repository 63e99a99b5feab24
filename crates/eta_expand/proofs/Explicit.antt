-- The expansion has no function by itself.
use Rattle.std.proofs.Common.{◌≡◌, ℕ, suc, ◌+◌, Bool, true, false, List, [], ◌∷◌, Option, Some, None, refl, sym, ap, subst, ◌∙◌}
use Rattle.mlc_prims.specs.declared.basis.BasisPrimitive.{BasisPrimitive}
use Rattle.ir_plain.specs.Tree.{Arms, Op, Fun, Funs}
use Rattle.ir_poly.specs.Types.{prim_type}
use Rattle.ir_mono.specs.Types as table
use Rattle.ir_mono.specs.Types.{node_at}
use Rattle.ir_mono.specs.Mono.{mono}
use Rattle.ir_mono.specs.Explicit.{IsExplicit, ArmsExplicit, OpExplicit, FunExplicit, FunsExplicit}
use Rattle.ir_mono.specs.Typing as tt
use Rattle.ir_mono.specs.Typing.{Sort, of_type, exception, Sorts, sort_of, group_sorts, FunTyped, t_last, t_more, FunsTyped, t_no_funs, t_fun}
use Rattle.eta_expand.specs.Expand.{Names, takes_argument, takes_at, gives_at, parts_at, is_single, E, selecting, performing, used_as, alone_as, case_names, group_names, news, op_news, fun_news, funs_news, expand, expand_arms, expand_op, expand_fun, expand_funs}
use Rattle.eta_expand.proofs.Known.{takes_sort, Knows, knows-more, knows-value, knows-name, knows-case, knows-group, sorts-same}

module _ (types : List table.Row) where
  used-explicit : {N : Names} {H : Sorts} (n t x : ℕ) → Knows N H → (b : Bool) → takes_argument N x ≡ b → OpExplicit types H (used_as types b n t x)
  used-explicit n t x k true e = λ a h. ((λ b g. (tt, tt)), tt)
  used-explicit n t x k false e = λ a s. let z = sym e ∙ (k.are x ∙ ap takes_sort s) in cc

  selecting-explicit : (a y k m : ℕ) (qs : List ℕ) (e : E types) → ((H : Sorts) → IsExplicit types H e) → (H : Sorts) → IsExplicit types H (selecting types a y k m qs e)
  selecting-explicit a y k m [] e h H = h H
  selecting-explicit a y k m (q ∷ qs) e h H = (tt, selecting-explicit a y (suc k) (suc m) qs e h ((m, of_type q) ∷ H))

  performing-explicit : (b : Bool) (n : ℕ) (p : BasisPrimitive) (u a r : ℕ) (qs : List ℕ) (H : Sorts) → FunExplicit types H (performing types b n p u a r qs)
  performing-explicit true n p u a r qs H = (tt, tt)
  performing-explicit false n p u a r qs H = selecting-explicit a n 1 (suc n) qs _ (λ H'. (tt, tt)) ((n, of_type a) ∷ H)

  alone-explicit : (c u : ℕ) {a : Option ℕ} (n : ℕ) (H : Sorts) → table.constructor_at types u c ≡ Some a → OpExplicit types H (alone_as types (table.constructor_at types u c) n c u)
  alone-explicit c u {a = None} n H e = subst (λ o. OpExplicit types H (alone_as types o n c u)) (sym e) e
  alone-explicit c u {a = Some a} n H e = subst (λ o. OpExplicit types H (alone_as types o n c u)) (sym e) (tt, tt)

  -- whatever the sorts of variables that are no names
  mutual
    pub explicit : {m : Bool} {N : Names} {G H : Sorts} {e : E types} {t : ℕ} (n : ℕ) → Knows N H → tt.Typed types m G e t → IsExplicit types H (expand types N n e)
    explicit n k (tt.t_ret e) = tt
    explicit {N = N} n k (tt.t_let {x = x} {a = a} {o = o} h l) = (op-explicit n k h, explicit (n + op_news types N a o) (knows-value x a k) l)
    explicit n k (tt.t_exception {x = x} {a = a} l) = explicit n (knows-more x _ (exception a) refl k) l
    explicit n k (tt.t_name {x = x} e l) = λ a h. explicit n (knows-name types x k h) l
    explicit {N = N} {H = H} n k (tt.t_rec {fs = fs} {e = e} h l) =
        let same : group_sorts types (expand_funs types (group_names types fs N) n fs) H ≡ group_sorts types fs H = sorts-same types fs (group_names types fs N) n H in
        let k' = knows-group types fs k in (
          subst (λ J. FunsExplicit types J (expand_funs types (group_names types fs N) n fs)) (sym same) (funs-explicit n k' h),
          subst (λ J. IsExplicit types J (expand types (group_names types fs N) (n + funs_news types (group_names types fs N) fs) e)) (sym same) (explicit (n + funs_news types (group_names types fs N) fs) k' l),
        )
    explicit n k (tt.t_switch e arms) = arms-explicit n k arms
    explicit {N = N} n k (tt.t_first {e = e} h l) = (explicit n k h, explicit (n + news types N e) k l)
    explicit n k tt.t_miss = tt
    explicit n k (tt.t_counted l) = explicit n k l

    arms-explicit : {N : Names} {G H : Sorts} {arms : Arms (mono types)} {u t : ℕ} (n : ℕ) → Knows N H → tt.ArmsTyped types G arms u t → ArmsExplicit types H (expand_arms types N n arms)
    arms-explicit n k tt.t_no_arms = tt
    arms-explicit {N} n k (tt.t_arm {c = c} {e = e} h l r) = ((λ t J d. explicit n (knows-case types k d) l), arms-explicit (n + news types (case_names types c N) e) k r)

    op-explicit : {N : Names} {G H : Sorts} {o : Op (mono types)} {t : ℕ} (n : ℕ) → Knows N H → tt.OpTyped types G o t → OpExplicit types H (expand_op types N n t o)
    op-explicit {N} n k (tt.t_use {x = x} {t = t} e) = used-explicit n t x k (takes_argument N x) refl
    op-explicit {N} n k (tt.t_use_exception {x = x} {t = t} e i) = used-explicit n t x k (takes_argument N x) refl
    op-explicit n k (tt.t_const h) = tt
    op-explicit {H = H} n k (tt.t_con_alone {c = c} {u = u} e i) = alone-explicit c u n H e
    op-explicit n k (tt.t_construct e d) = tt
    op-explicit n k (tt.t_ref_alone f i) = (tt, tt)
    op-explicit n k (tt.t_refer e i) = tt
    op-explicit n k (tt.t_content e i) = tt
    op-explicit n k (tt.t_pack e d i) = tt
    op-explicit n k (tt.t_make_record r i d) = tt
    op-explicit n k (tt.t_select e i d) = tt
    op-explicit {H = H} n k (tt.t_prim_alone {p = p} {u = u} {t = t} q s f) =
        performing-explicit (is_single (prim_type p).arguments) n p u (takes_at (node_at types t)) (gives_at (node_at types t)) (parts_at (node_at types (takes_at (node_at types t)))) H
    op-explicit n k (tt.t_prim a h) = tt
    op-explicit n k (tt.t_app e i d) = tt
    op-explicit n k (tt.t_fn h) = fun-explicit n k h
    op-explicit n k (tt.t_block l) = explicit n k l
    op-explicit {N} n k (tt.t_handle {e = e} {x = x} l i r) = (explicit n k l, λ t. explicit (n + news types N e) (knows-value x t k) r)
    op-explicit n k (tt.t_raise e i) = tt
    op-explicit n k (tt.t_raise_initial e) = tt

    fun-explicit : {N : Names} {G H : Sorts} {f : Fun (mono types)} {t : ℕ} (n : ℕ) → Knows N H → FunTyped types G f t → FunExplicit types H (expand_fun types N n f)
    fun-explicit n k (t_last {x = x} {a = a} i h) = explicit n (knows-value x a k) h
    fun-explicit n k (t_more {x = x} {a = a} i h) = fun-explicit n (knows-value x a k) h

    funs-explicit : {N : Names} {G H : Sorts} {fs : Funs (mono types)} (n : ℕ) → Knows N H → FunsTyped types G fs → FunsExplicit types H (expand_funs types N n fs)
    funs-explicit n k t_no_funs = tt
    funs-explicit {N} n k (t_fun {f = f} h r) = (fun-explicit n k h, funs-explicit (n + fun_news types N f) k r)
