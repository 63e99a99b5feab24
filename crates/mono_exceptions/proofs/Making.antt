-- What is so of each identifier in a tree is so of those in its copies.
use Rattle.std.proofs.Common.{ℕ, suc, ◌+◌, List, [], ◌∷◌, All, Contains}
use Rattle.std.specs.Prelude.{⊤}
use Rattle.std.proofs.lemmas.List.Elements.{All-nil, All-cons, All-head, All-tail, All-contains_itself}
use Rattle.ty_core.specs.Types.{Typ}
use Rattle.ir_plain.specs.Kind.{Kind}
use Rattle.ir_plain.specs.Tree.{Exp, ret, let_in, exception_in, name_in, rec_in, switch, first, miss, counted, Arms, no_arms, arm, Op, use_of, const, con_alone, construct, ref_alone, refer, content, pack, make_record, select, prim_alone, prim, app, fn, block, handle, raise, raise_initial, Fun, last, more, Funs, no_funs, fun}
use Rattle.ir_plain.specs.Copies.{strip, strip_arms, strip_op}
use Rattle.ir_mono.specs.Types.{Row}
use Rattle.ir_poly.specs.Tests.{poly}
use Rattle.ir_poly.specs.Types.{changed}
use Rattle.match_compile.specs.Exceptions.{tests_made, arms_made, op_made, te_fun_made, te_funs_made}
use Rattle.monomorphise.specs.Monomorphise.{Named, Groups, units, others, needs, fun_vars, group_at, more_lets, more_groups, copy, arms_copy, op_copy, fun_copy, funs_copy, copies, nowhere}
use Rattle.monomorphise.specs.Number.{Given, none_given, given, group_given, heads, bodies, binders, op_binders, fun_binders, case_given, case_next, number, number_arms, number_op, number_fun, number_funs}
use Rattle.monomorphise.specs.Table.{number_in}
use Rattle.monomorphise.specs.Laws.{monomorphised, types_of}
use Rattle.mono_exceptions.specs.Laws.{MakesNoMore}

module _ (P : ℕ → Type 0) where
  module _ {F : Kind} where
    -- each exception that is made is so
    abbrev mutual
      pub Makes : Exp F → Type 0
      Makes (ret a) = ⊤
      Makes (let_in x ps t o e) = OpMakes o × Makes e
      Makes (exception_in x i t e) = P i × Makes e
      Makes (name_in x y e) = Makes e
      Makes (rec_in ps fs e) = FunsMake fs × Makes e
      Makes (switch a t arms) = ArmsMake arms
      Makes (first e d) = Makes e × Makes d
      Makes miss = ⊤
      Makes (counted n e) = Makes e

      pub ArmsMake : Arms F → Type 0
      ArmsMake no_arms = ⊤
      ArmsMake (arm c e arms) = Makes e × ArmsMake arms

      pub OpMakes : Op F → Type 0
      OpMakes (use_of x) = ⊤
      OpMakes (const l) = ⊤
      OpMakes (con_alone c t) = ⊤
      OpMakes (construct m c t a) = ⊤
      OpMakes (ref_alone t) = ⊤
      OpMakes (refer m t a) = ⊤
      OpMakes (content t a) = ⊤
      OpMakes (pack m t x a) = ⊤
      OpMakes (make_record t row) = ⊤
      OpMakes (select t l a) = ⊤
      OpMakes (prim_alone p t) = ⊤
      OpMakes (prim m p t as_) = ⊤
      OpMakes (app place f a) = ⊤
      OpMakes (raise a) = ⊤
      OpMakes (raise_initial i) = ⊤
      OpMakes (fn f) = FunMakes f
      OpMakes (block e) = Makes e
      OpMakes (handle e x d) = Makes e × Makes d

      pub FunMakes : Fun F → Type 0
      FunMakes (last x t e) = Makes e
      FunMakes (more x t f) = FunMakes f

      pub FunsMake : Funs F → Type 0
      FunsMake no_funs = ⊤
      FunsMake (fun x t f fs) = FunMakes f × FunsMake fs

    -- as the list of them
    mutual
      made-all : (e : Exp F) (us : List ℕ) → Makes e → All P us → All P (tests_made e us)
      made-all (ret a) us h u = u
      made-all (let_in x ps t o e) us h u = op-all o (tests_made e us) h.0 (made-all e us h.1 u)
      made-all (exception_in x i t e) us h u = All-cons P i (tests_made e us) h.0 (made-all e us h.1 u)
      made-all (name_in x y e) us h u = made-all e us h u
      made-all (rec_in ps fs e) us h u = funs-all fs (tests_made e us) h.0 (made-all e us h.1 u)
      made-all (switch a t arms) us h u = arms-all arms us h u
      made-all (first e d) us h u = made-all e (tests_made d us) h.0 (made-all d us h.1 u)
      made-all miss us h u = u
      made-all (counted n e) us h u = made-all e us h u

      arms-all : (arms : Arms F) (us : List ℕ) → ArmsMake arms → All P us → All P (arms_made arms us)
      arms-all no_arms us h u = u
      arms-all (arm c e arms) us h u = made-all e (arms_made arms us) h.0 (arms-all arms us h.1 u)

      op-all : (o : Op F) (us : List ℕ) → OpMakes o → All P us → All P (op_made o us)
      op-all (use_of x) us h u = u
      op-all (const l) us h u = u
      op-all (con_alone c t) us h u = u
      op-all (construct m c t a) us h u = u
      op-all (ref_alone t) us h u = u
      op-all (refer m t a) us h u = u
      op-all (content t a) us h u = u
      op-all (pack m t x a) us h u = u
      op-all (make_record t row) us h u = u
      op-all (select t l a) us h u = u
      op-all (prim_alone p t) us h u = u
      op-all (prim m p t as_) us h u = u
      op-all (app place f a) us h u = u
      op-all (raise a) us h u = u
      op-all (raise_initial i) us h u = u
      op-all (fn f) us h u = fun-all f us h u
      op-all (block e) us h u = made-all e us h u
      op-all (handle e x d) us h u = made-all e (tests_made d us) h.0 (made-all d us h.1 u)

      fun-all : (f : Fun F) (us : List ℕ) → FunMakes f → All P us → All P (te_fun_made f us)
      fun-all (last x t e) us h u = made-all e us h u
      fun-all (more x t f) us h u = fun-all f us h u

      funs-all : (fs : Funs F) (us : List ℕ) → FunsMake fs → All P us → All P (te_funs_made fs us)
      funs-all no_funs us h u = u
      funs-all (fun x t f fs) us h u = fun-all f (te_funs_made fs us) h.0 (funs-all fs us h.1 u)

    mutual
      all-made : (e : Exp F) (us : List ℕ) → All P (tests_made e us) → Makes e × All P us
      all-made (ret a) us h = (tt, h)
      all-made (let_in x ps t o e) us h = let p = all-op o (tests_made e us) h in let q = all-made e us p.1 in ((p.0, q.0), q.1)
      all-made (exception_in x i t e) us h = let q = all-made e us (All-tail P i (tests_made e us) h) in ((All-head P i (tests_made e us) h, q.0), q.1)
      all-made (name_in x y e) us h = all-made e us h
      all-made (rec_in ps fs e) us h = let p = all-funs fs (tests_made e us) h in let q = all-made e us p.1 in ((p.0, q.0), q.1)
      all-made (switch a t arms) us h = all-arms arms us h
      all-made (first e d) us h = let p = all-made e (tests_made d us) h in let q = all-made d us p.1 in ((p.0, q.0), q.1)
      all-made miss us h = (tt, h)
      all-made (counted n e) us h = all-made e us h

      all-arms : (arms : Arms F) (us : List ℕ) → All P (arms_made arms us) → ArmsMake arms × All P us
      all-arms no_arms us h = (tt, h)
      all-arms (arm c e arms) us h = let p = all-made e (arms_made arms us) h in let q = all-arms arms us p.1 in ((p.0, q.0), q.1)

      all-op : (o : Op F) (us : List ℕ) → All P (op_made o us) → OpMakes o × All P us
      all-op (use_of x) us h = (tt, h)
      all-op (const l) us h = (tt, h)
      all-op (con_alone c t) us h = (tt, h)
      all-op (construct m c t a) us h = (tt, h)
      all-op (ref_alone t) us h = (tt, h)
      all-op (refer m t a) us h = (tt, h)
      all-op (content t a) us h = (tt, h)
      all-op (pack m t x a) us h = (tt, h)
      all-op (make_record t row) us h = (tt, h)
      all-op (select t l a) us h = (tt, h)
      all-op (prim_alone p t) us h = (tt, h)
      all-op (prim m p t as_) us h = (tt, h)
      all-op (app place f a) us h = (tt, h)
      all-op (raise a) us h = (tt, h)
      all-op (raise_initial i) us h = (tt, h)
      all-op (fn f) us h = all-fun f us h
      all-op (block e) us h = all-made e us h
      all-op (handle e x d) us h = let p = all-made e (tests_made d us) h in let q = all-made d us p.1 in ((p.0, q.0), q.1)

      all-fun : (f : Fun F) (us : List ℕ) → All P (te_fun_made f us) → FunMakes f × All P us
      all-fun (last x t e) us h = all-made e us h
      all-fun (more x t f) us h = all-fun f us h

      all-funs : (fs : Funs F) (us : List ℕ) → All P (te_funs_made fs us) → FunsMake fs × All P us
      all-funs no_funs us h = (tt, h)
      all-funs (fun x t f fs) us h = let p = all-fun f (te_funs_made fs us) h in let q = all-funs fs us p.1 in ((p.0, q.0), q.1)

    -- without their turns
    mutual
      strip-makes : (e : Exp F) → Makes e → Makes (strip e)
      strip-makes (ret a) h = tt
      strip-makes (let_in x ps t o e) h = (strip-op-makes o h.0, strip-makes e h.1)
      strip-makes (exception_in x i t e) h = h
      strip-makes (name_in x y e) h = strip-makes e h
      strip-makes (rec_in ps fs e) h = h
      strip-makes (switch a t arms) h = strip-arms-make arms h
      strip-makes (first e d) h = (strip-makes e h.0, strip-makes d h.1)
      strip-makes miss h = tt
      strip-makes (counted n e) h = strip-makes e h

      strip-arms-make : (arms : Arms F) → ArmsMake arms → ArmsMake (strip_arms arms)
      strip-arms-make no_arms h = tt
      strip-arms-make (arm c e arms) h = (strip-makes e h.0, strip-arms-make arms h.1)

      strip-op-makes : (o : Op F) → OpMakes o → OpMakes (strip_op o)
      strip-op-makes (use_of x) h = tt
      strip-op-makes (const l) h = tt
      strip-op-makes (con_alone c t) h = tt
      strip-op-makes (construct m c t a) h = tt
      strip-op-makes (ref_alone t) h = tt
      strip-op-makes (refer m t a) h = tt
      strip-op-makes (content t a) h = tt
      strip-op-makes (pack m t x a) h = tt
      strip-op-makes (make_record t row) h = tt
      strip-op-makes (select t l a) h = tt
      strip-op-makes (prim_alone p t) h = tt
      strip-op-makes (prim m p t as_) h = tt
      strip-op-makes (app place f a) h = tt
      strip-op-makes (raise a) h = tt
      strip-op-makes (raise_initial i) h = tt
      strip-op-makes (fn f) h = h
      strip-op-makes (block e) h = strip-makes e h
      strip-op-makes (handle e x d) h = h

  -- copies

  lets-make : (at : List Typ → ℕ → Typ) (x : ℕ) (t : Typ) (f : List Typ → Op Named) (ts : List (List Typ)) (e : Exp Named) → ((a : List Typ) → OpMakes (f a)) → Makes e → Makes (more_lets at x t f ts e)
  lets-make at x t f [] e h k = k
  lets-make at x t f (a ∷ ts) e h k = (strip-op-makes (f a) (h a), lets-make at x t f ts e h k)

  groups-make : (f : List Typ → Funs Named) (ts : List (List Typ)) (e : Exp Named) → ((a : List Typ) → FunsMake (f a)) → Makes e → Makes (more_groups f ts e)
  groups-make f [] e h k = k
  groups-make f (a ∷ ts) e h k = (h a, groups-make f ts e h k)

  mutual
    copy-makes : (g : Groups) (s : ℕ → Typ) (e : Exp poly) → Makes e → Makes (copy g s e)
    copy-makes g s (ret u) h = tt
    copy-makes g s (let_in x ps t o e) h =
        (op-makes g (changed ps (units ps) s) o h.0, lets-make (λ a. changed ps a s) x t (λ a. op_copy g (changed ps a s) o) (others (x ∷ []) (units ps) (needs g s e)) (copy g s e) (λ a. op-makes g (changed ps a s) o h.0) (copy-makes g s e h.1))
    copy-makes g s (exception_in x i t e) h = (h.0, copy-makes g s e h.1)
    copy-makes g s (name_in x y e) h = copy-makes g s e h
    copy-makes g s (rec_in ps fs e) h = (
      funs-make (units ps) (group_at fs (units ps) g) (changed ps (units ps) s) fs h.0,
      groups-make (λ a. funs_copy a (group_at fs a g) (changed ps a s) fs) (others (fun_vars fs) (units ps) (needs g s e)) (copy g s e) (λ a. funs-make a (group_at fs a g) (changed ps a s) fs h.0) (copy-makes g s e h.1),
    )
    copy-makes g s (switch u t arms) h = arms-make g s arms h
    copy-makes g s (first e d) h = (copy-makes g s e h.0, copy-makes g s d h.1)
    copy-makes g s miss h = tt
    copy-makes g s (counted n e) h = copy-makes g s e h

    arms-make : (g : Groups) (s : ℕ → Typ) (arms : Arms poly) → ArmsMake arms → ArmsMake (arms_copy g s arms)
    arms-make g s no_arms h = tt
    arms-make g s (arm c e arms) h = (copy-makes g s e h.0, arms-make g s arms h.1)

    op-makes : (g : Groups) (s : ℕ → Typ) (o : Op poly) → OpMakes o → OpMakes (op_copy g s o)
    op-makes g s (use_of x) h = tt
    op-makes g s (const l) h = tt
    op-makes g s (con_alone c t) h = tt
    op-makes g s (construct m c t a) h = tt
    op-makes g s (ref_alone t) h = tt
    op-makes g s (refer m t a) h = tt
    op-makes g s (content t a) h = tt
    op-makes g s (pack m t x a) h = tt
    op-makes g s (make_record t row) h = tt
    op-makes g s (select t l a) h = tt
    op-makes g s (prim_alone p t) h = tt
    op-makes g s (prim m p t as_) h = tt
    op-makes g s (app place f a) h = tt
    op-makes g s (raise a) h = tt
    op-makes g s (raise_initial i) h = tt
    op-makes g s (fn f) h = fun-makes g s f h
    op-makes g s (block e) h = copy-makes g s e h
    op-makes g s (handle e x d) h = (copy-makes g s e h.0, copy-makes g s d h.1)

    fun-makes : (g : Groups) (s : ℕ → Typ) (f : Fun poly) → FunMakes f → FunMakes (fun_copy g s f)
    fun-makes g s (last x t e) h = copy-makes g s e h
    fun-makes g s (more x t f) h = fun-makes g s f h

    funs-make : (a : List Typ) (g : Groups) (s : ℕ → Typ) (fs : Funs poly) → FunsMake fs → FunsMake (funs_copy a g s fs)
    funs-make a g s no_funs h = tt
    funs-make a g s (fun x t f fs) h = (fun-makes g s f h.0, funs-make a g s fs h.1)

  -- under numbers

  module _ (types : List Row) (index : Typ → ℕ) where
    mutual
      number-makes : (g : Given) (b : ℕ) (e : Exp Named) → Makes e → Makes (number types index g b e)
      number-makes g b (ret k) h = tt
      number-makes g b (let_in k u t o e) h = (number-op-makes g b o h.0, number-makes (given k (b + op_binders o) g) (suc (b + op_binders o)) e h.1)
      number-makes g b (exception_in k i t e) h = (h.0, number-makes (given k b g) (suc b) e h.1)
      number-makes g b (name_in k j e) h = number-makes (given k b g) (suc b) e h
      number-makes g b (rec_in u fs e) h = (number-funs-make (group_given b fs g) b (b + heads fs) fs h.0, number-makes (group_given b fs g) (b + heads fs + bodies fs) e h.1)
      number-makes g b (switch k t arms) h = number-arms-make g b arms h
      number-makes g b (first e d) h = (number-makes g b e h.0, number-makes g (b + binders e) d h.1)
      number-makes g b miss h = tt
      number-makes g b (counted n e) h = number-makes g b e h

      number-arms-make : (g : Given) (b : ℕ) (arms : Arms Named) → ArmsMake arms → ArmsMake (number_arms types index g b arms)
      number-arms-make g b no_arms h = tt
      number-arms-make g b (arm c e arms) h = (number-makes (case_given g b c) (case_next b c) e h.0, number-arms-make g (case_next b c + binders e) arms h.1)

      number-op-makes : (g : Given) (b : ℕ) (o : Op Named) → OpMakes o → OpMakes (number_op types index g b o)
      number-op-makes g b (use_of x) h = tt
      number-op-makes g b (const l) h = tt
      number-op-makes g b (con_alone c t) h = tt
      number-op-makes g b (construct m c t a) h = tt
      number-op-makes g b (ref_alone t) h = tt
      number-op-makes g b (refer m t a) h = tt
      number-op-makes g b (content t a) h = tt
      number-op-makes g b (pack m t x a) h = tt
      number-op-makes g b (make_record t row) h = tt
      number-op-makes g b (select t l a) h = tt
      number-op-makes g b (prim_alone p t) h = tt
      number-op-makes g b (prim m p t as_) h = tt
      number-op-makes g b (app place f a) h = tt
      number-op-makes g b (raise a) h = tt
      number-op-makes g b (raise_initial i) h = tt
      number-op-makes g b (fn f) h = number-fun-makes g b f h
      number-op-makes g b (block e) h = number-makes g b e h
      number-op-makes g b (handle e k d) h = (number-makes g b e h.0, number-makes (given k (b + binders e) g) (suc (b + binders e)) d h.1)

      number-fun-makes : (g : Given) (b : ℕ) (f : Fun Named) → FunMakes f → FunMakes (number_fun types index g b f)
      number-fun-makes g b (last k t e) h = number-makes (given k b g) (suc b) e h
      number-fun-makes g b (more k t f) h = number-fun-makes (given k b g) (suc b) f h

      number-funs-make : (g : Given) (n b : ℕ) (fs : Funs Named) → FunsMake fs → FunsMake (number_funs types index g n b fs)
      number-funs-make g n b no_funs h = tt
      number-funs-make g n b (fun k t f fs) h = (number-fun-makes g b f h.0, number-funs-make g n (b + fun_binders f) fs h.1)

pub copies-make-no-more : MakesNoMore
copies-make-no-more p n =
    let there : All (Contains (tests_made p.body [])) (tests_made p.body []) = All-contains_itself (tests_made p.body []) in
    let made = all-made (Contains (tests_made p.body [])) p.body [] there in
    made-all (Contains (tests_made p.body [])) (monomorphised p n).body []
    (number-makes (Contains (tests_made p.body [])) (types_of p) (number_in (types_of p)) none_given 0 (copies p.body) (copy-makes (Contains (tests_made p.body [])) [] nowhere p.body made.0))
    (All-nil (Contains (tests_made p.body [])))
