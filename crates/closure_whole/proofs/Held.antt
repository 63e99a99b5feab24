-- What functions by themselves become has no constants of its own.
use Rattle.std.proofs.Common.{ℕ, suc, ◌+◌, Bool, true, false, List, [], ◌∷◌, Option, Some, None}
use Rattle.mlc_prims.specs.declared.basis.BasisPrimitive.{BasisPrimitive}
use Rattle.ir_plain.specs.Tree.{ret, let_in, exception_in, name_in, rec_in, switch, first, miss, counted, Arms, no_arms, arm, Op, use_of, const, con_alone, construct, ref_alone, refer, content, pack, make_record, select, prim_alone, prim, app, fn, block, handle, raise, raise_initial, Fun, last, more, Funs, no_funs, fun}
use Rattle.ir_poly.specs.Types.{prim_type}
use Rattle.ir_mono.specs.Types as table
use Rattle.ir_mono.specs.Types.{node_at, constructor_at}
use Rattle.ir_mono.specs.Mono.{mono}
use Rattle.eta_expand.specs.Expand.{Names, takes_argument, is_given, takes_at, gives_at, parts_at, is_single, E, selecting, performing, used_as, alone_as, name_takes, case_names, group_names, news, op_news, fun_news, funs_news, expand, expand_arms, expand_op, expand_fun, expand_funs}
use Rattle.closure_whole.specs.Constants.{AreHeld, ArmsHeld, OpHeld, FunHeld, FunsHeld}

module _ (strings : List (List ℕ)) (types : List table.Row) where
  used-held : (n t x : ℕ) (b : Bool) → OpHeld strings (used_as types b n t x)
  used-held n t x true = ((tt, tt), tt)
  used-held n t x false = tt

  alone-held : (n c u : ℕ) (o : Option (Option ℕ)) → OpHeld strings (alone_as types o n c u)
  alone-held n c u None = tt
  alone-held n c u (Some None) = tt
  alone-held n c u (Some (Some a)) = (tt, tt)

  selecting-held : (a y k m : ℕ) (qs : List ℕ) (e : E types) → AreHeld strings e → AreHeld strings (selecting types a y k m qs e)
  selecting-held a y k m [] e h = h
  selecting-held a y k m (q ∷ qs) e h = (tt, selecting-held a y (suc k) (suc m) qs e h)

  performing-held : (b : Bool) (n : ℕ) (p : BasisPrimitive) (u a r : ℕ) (qs : List ℕ) → FunHeld strings (performing types b n p u a r qs)
  performing-held true n p u a r qs = (tt, tt)
  performing-held false n p u a r qs = selecting-held a n 1 (suc n) qs _ (tt, tt)

  mutual
    pub held : (N : Names) (n : ℕ) (e : E types) → AreHeld strings e → AreHeld strings (expand types N n e)
    held N n (ret a) h = tt
    held N n (let_in x ps t o e) h = (op-held N n t o h.0, held ((x, false) ∷ N) (n + op_news types N t o) e h.1)
    held N n (exception_in x i t e) h = held ((x, is_given t) ∷ N) n e h
    held N n (name_in x y e) h = held ((x, name_takes types N y) ∷ N) n e h
    held N n (rec_in ps fs e) h = (funs-held (group_names types fs N) n fs h.0, held (group_names types fs N) (n + funs_news types (group_names types fs N) fs) e h.1)
    held N n (switch a t arms) h = arms-held N n arms h
    held N n (first e d) h = (held N n e h.0, held N (n + news types N e) d h.1)
    held N n miss h = tt
    held N n (counted k e) h = held N n e h

    arms-held : (N : Names) (n : ℕ) (arms : Arms (mono types)) → ArmsHeld strings arms → ArmsHeld strings (expand_arms types N n arms)
    arms-held N n no_arms h = tt
    arms-held N n (arm c e arms) h = (h.0, (held (case_names types c N) n e h.1.0, arms-held N (n + news types (case_names types c N) e) arms h.1.1))

    op-held : (N : Names) (n t : ℕ) (o : Op (mono types)) → OpHeld strings o → OpHeld strings (expand_op types N n t o)
    op-held N n t (use_of x) h = used-held n t x (takes_argument N x)
    op-held N n t (const l) h = h
    op-held N n t (con_alone c u) h = alone-held n c u (constructor_at types u c)
    op-held N n t (construct m c u a) h = tt
    op-held N n t (ref_alone a) h = (tt, tt)
    op-held N n t (refer m u a) h = tt
    op-held N n t (content u a) h = tt
    op-held N n t (pack m u y a) h = tt
    op-held N n t (make_record u row) h = tt
    op-held N n t (select u l a) h = tt
    op-held N n t (prim_alone p u) h = performing-held (is_single (prim_type p).arguments) n p u (takes_at (node_at types t)) (gives_at (node_at types t)) (parts_at (node_at types (takes_at (node_at types t))))
    op-held N n t (prim m p u as_) h = tt
    op-held N n t (app place f a) h = tt
    op-held N n t (fn f) h = fun-held N n f h
    op-held N n t (block e) h = held N n e h
    op-held N n t (handle e x d) h = (held N n e h.0, held ((x, false) ∷ N) (n + news types N e) d h.1)
    op-held N n t (raise a) h = tt
    op-held N n t (raise_initial i) h = tt

    fun-held : (N : Names) (n : ℕ) (f : Fun (mono types)) → FunHeld strings f → FunHeld strings (expand_fun types N n f)
    fun-held N n (last x t e) h = held ((x, false) ∷ N) n e h
    fun-held N n (more x t f) h = fun-held ((x, false) ∷ N) n f h

    funs-held : (N : Names) (n : ℕ) (fs : Funs (mono types)) → FunsHeld strings fs → FunsHeld strings (expand_funs types N n fs)
    funs-held N n no_funs h = tt
    funs-held N n (fun x t f fs) h = (fun-held N n f h.0, funs-held N (n + fun_news types N f) fs h.1)
