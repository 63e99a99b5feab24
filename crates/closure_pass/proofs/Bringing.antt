-- What is so of each exception that a program makes is so of those that its conversion makes.
use Rattle.std.proofs.Common.{ℕ, suc, ◌+◌, Bool, true, false, List, [], ◌∷◌, ◌++◌, Option, Some, None, if◌then◌else◌, All, Contains}
use Rattle.std.specs.Prelude.{⊤}
use Rattle.std.proofs.lemmas.List.Elements.{All-nil, All-cons, All-head, All-tail, All-append, All-contains_itself}
use Rattle.mlc_base.specs.declared.place.Place.{Place}
use Rattle.mlc_prims.specs.declared.basis.BasisPrimitive.{BasisPrimitive}
use Rattle.ir_values.specs.Primitives.{Sort, compares, assigns, prints, computes, sort_of}
use Rattle.ir_plain.specs.Tree.{is_literal, is_con, is_con_of, is_exn, is_exn_of, is_record, Exception, fixed, held, ret, let_in, exception_in, name_in, rec_in, switch, first, miss, counted, Arms, no_arms, arm, Op, use_of, const, con_alone, construct, ref_alone, refer, content, pack, make_record, select, prim_alone, prim, app, fn, block, handle, raise, raise_initial, Fun, last, more, Funs, no_funs, fun}
use Rattle.ir_poly.specs.Types.{prim_type}
use Rattle.ir_mono.specs.Types as table
use Rattle.ir_mono.specs.Types.{node_at, constructor_at}
use Rattle.ir_mono.specs.Mono.{mono, Mono, Program}
use Rattle.match_compile.specs.Exceptions.{tests_made, arms_made, op_made, te_fun_made, te_funs_made}
use Rattle.first_values.specs.Operations as op
use Rattle.first_values.specs.Operations.{Operands}
use Rattle.first_values.specs.Raising.{may_raise}
use Rattle.ir_first.specs.Tree as out
use Rattle.first_tree.specs.Exceptions.{makes, op_makes, arms_make, funs_make}
use Rattle.flow_sets.specs.Member.{is_in}
use Rattle.flow_sets.specs.Flow.{Flow, variable, at, number_of}
use Rattle.closure_convert.specs.Scope.{Member, names, Scope, add, add_all, Way, no_way, leads, follows, way, Piece, alone, those, Table, top}
use Rattle.closure_convert.specs.Closed.{scope_of, members, leader}
use Rattle.closure_meaning.specs.Convert.{Numbering, var, given, operands, computed, performed, outer, access, ready, packed, marked, call_set, used, making, following, group_in, name_of, convert, cases, con_arms, convert_op, body, opening, codes, codes_arms, codes_op, codes_fun, codes_funs, piece_list}
use Rattle.eta_expand.specs.Expand.{Names, takes_argument, is_given, takes_at, gives_at, parts_at, is_single, selecting, performing, used_as, alone_as, name_takes, case_names, group_names, news, op_news, fun_news, funs_news, expand, expand_arms, expand_op, expand_fun, expand_funs}
use Rattle.closure_formed.specs.of_closure_whole.Whole.{explicit}
use Rattle.closure_formed.specs.of_closure_whole.Converted.{numbering}
use Rattle.closure_formed.specs.of_closure_whole.Rising.{rising, above}
use Rattle.closure_convert.specs.Capture.{table_of}
use Rattle.flow_sets.specs.ByType.{bound}
use Rattle.closure_pass.specs.Laws.{ConversionMakesNoMore, ExpansionMakesNoMore, WithoutFunctionsMakesNoMore}

module _ (P : ℕ → Type 0) (types : List table.Row) where
  abbrev E : Type 0
  E = Mono types

  -- each exception that is made is so
  abbrev mutual
    Makes : E → Type 0
    Makes (ret a) = ⊤
    Makes (let_in x ps t o e) = OpMakes o × Makes e
    Makes (exception_in x i t e) = P i × Makes e
    Makes (name_in x y e) = Makes e
    Makes (rec_in ps fs e) = FunsMake fs × Makes e
    Makes (switch a t arms) = ArmsMake arms
    Makes (first e d) = Makes e × Makes d
    Makes miss = ⊤
    Makes (counted n e) = Makes e

    ArmsMake : Arms (mono types) → Type 0
    ArmsMake no_arms = ⊤
    ArmsMake (arm c e arms) = Makes e × ArmsMake arms

    OpMakes : Op (mono types) → Type 0
    OpMakes (use_of x) = ⊤
    OpMakes (const l) = ⊤
    OpMakes (con_alone c t) = ⊤
    OpMakes (construct k c t a) = ⊤
    OpMakes (ref_alone t) = ⊤
    OpMakes (refer k t a) = ⊤
    OpMakes (content t a) = ⊤
    OpMakes (pack k t x a) = ⊤
    OpMakes (make_record t row) = ⊤
    OpMakes (select t l a) = ⊤
    OpMakes (prim_alone p t) = ⊤
    OpMakes (prim k p t as_) = ⊤
    OpMakes (app place f a) = ⊤
    OpMakes (raise a) = ⊤
    OpMakes (raise_initial i) = ⊤
    OpMakes (fn f) = FunMakes f
    OpMakes (block e) = Makes e
    OpMakes (handle e x d) = Makes e × Makes d

    FunMakes : Fun (mono types) → Type 0
    FunMakes (last x t e) = Makes e
    FunMakes (more x t f) = FunMakes f

    FunsMake : Funs (mono types) → Type 0
    FunsMake no_funs = ⊤
    FunsMake (fun x t f fs) = FunMakes f × FunsMake fs

  -- as the list of them
  mutual
    made-all : (e : E) (us : List ℕ) → Makes e → All P us → All P (tests_made e us)
    made-all (ret a) us h u = u
    made-all (let_in x ps t o e) us h u = op-all o (tests_made e us) h.0 (made-all e us h.1 u)
    made-all (exception_in x i t e) us h u = All-cons P i (tests_made e us) h.0 (made-all e us h.1 u)
    made-all (name_in x y e) us h u = made-all e us h u
    made-all (rec_in ps fs e) us h u = funs-all fs (tests_made e us) h.0 (made-all e us h.1 u)
    made-all (switch a t arms) us h u = arms-all arms us h u
    made-all (first e d) us h u = made-all e (tests_made d us) h.0 (made-all d us h.1 u)
    made-all miss us h u = u
    made-all (counted n e) us h u = made-all e us h u

    arms-all : (arms : Arms (mono types)) (us : List ℕ) → ArmsMake arms → All P us → All P (arms_made arms us)
    arms-all no_arms us h u = u
    arms-all (arm c e arms) us h u = made-all e (arms_made arms us) h.0 (arms-all arms us h.1 u)

    op-all : (o : Op (mono types)) (us : List ℕ) → OpMakes o → All P us → All P (op_made o us)
    op-all (use_of x) us h u = u
    op-all (const l) us h u = u
    op-all (con_alone c t) us h u = u
    op-all (construct k c t a) us h u = u
    op-all (ref_alone t) us h u = u
    op-all (refer k t a) us h u = u
    op-all (content t a) us h u = u
    op-all (pack k t x a) us h u = u
    op-all (make_record t row) us h u = u
    op-all (select t l a) us h u = u
    op-all (prim_alone p t) us h u = u
    op-all (prim k p t as_) us h u = u
    op-all (app place f a) us h u = u
    op-all (raise a) us h u = u
    op-all (raise_initial i) us h u = u
    op-all (fn f) us h u = fun-all f us h u
    op-all (block e) us h u = made-all e us h u
    op-all (handle e x d) us h u = made-all e (tests_made d us) h.0 (made-all d us h.1 u)

    fun-all : (f : Fun (mono types)) (us : List ℕ) → FunMakes f → All P us → All P (te_fun_made f us)
    fun-all (last x t e) us h u = made-all e us h u
    fun-all (more x t f) us h u = fun-all f us h u

    funs-all : (fs : Funs (mono types)) (us : List ℕ) → FunsMake fs → All P us → All P (te_funs_made fs us)
    funs-all no_funs us h u = u
    funs-all (fun x t f fs) us h u = fun-all f (te_funs_made fs us) h.0 (funs-all fs us h.1 u)

  mutual
    all-made : (e : E) (us : List ℕ) → All P (tests_made e us) → Makes e × All P us
    all-made (ret a) us h = (tt, h)
    all-made (let_in x ps t o e) us h = let p = all-op o (tests_made e us) h in let q = all-made e us p.1 in ((p.0, q.0), q.1)
    all-made (exception_in x i t e) us h = let q = all-made e us (All-tail P i (tests_made e us) h) in ((All-head P i (tests_made e us) h, q.0), q.1)
    all-made (name_in x y e) us h = all-made e us h
    all-made (rec_in ps fs e) us h = let p = all-funs fs (tests_made e us) h in let q = all-made e us p.1 in ((p.0, q.0), q.1)
    all-made (switch a t arms) us h = all-arms arms us h
    all-made (first e d) us h = let p = all-made e (tests_made d us) h in let q = all-made d us p.1 in ((p.0, q.0), q.1)
    all-made miss us h = (tt, h)
    all-made (counted n e) us h = all-made e us h

    all-arms : (arms : Arms (mono types)) (us : List ℕ) → All P (arms_made arms us) → ArmsMake arms × All P us
    all-arms no_arms us h = (tt, h)
    all-arms (arm c e arms) us h = let p = all-made e (arms_made arms us) h in let q = all-arms arms us p.1 in ((p.0, q.0), q.1)

    all-op : (o : Op (mono types)) (us : List ℕ) → All P (op_made o us) → OpMakes o × All P us
    all-op (use_of x) us h = (tt, h)
    all-op (const l) us h = (tt, h)
    all-op (con_alone c t) us h = (tt, h)
    all-op (construct k c t a) us h = (tt, h)
    all-op (ref_alone t) us h = (tt, h)
    all-op (refer k t a) us h = (tt, h)
    all-op (content t a) us h = (tt, h)
    all-op (pack k t x a) us h = (tt, h)
    all-op (make_record t row) us h = (tt, h)
    all-op (select t l a) us h = (tt, h)
    all-op (prim_alone p t) us h = (tt, h)
    all-op (prim k p t as_) us h = (tt, h)
    all-op (app place f a) us h = (tt, h)
    all-op (raise a) us h = (tt, h)
    all-op (raise_initial i) us h = (tt, h)
    all-op (fn f) us h = all-fun f us h
    all-op (block e) us h = all-made e us h
    all-op (handle e x d) us h = let p = all-made e (tests_made d us) h in let q = all-made d us p.1 in ((p.0, q.0), q.1)

    all-fun : (f : Fun (mono types)) (us : List ℕ) → All P (te_fun_made f us) → FunMakes f × All P us
    all-fun (last x t e) us h = all-made e us h
    all-fun (more x t f) us h = all-fun f us h

    all-funs : (fs : Funs (mono types)) (us : List ℕ) → All P (te_funs_made fs us) → FunsMake fs × All P us
    all-funs no_funs us h = (tt, h)
    all-funs (fun x t f fs) us h = let p = all-fun f (te_funs_made fs us) h in let q = all-funs fs us p.1 in ((p.0, q.0), q.1)

  -- Expansion

  selecting-makes : (a y k m : ℕ) (ps : List ℕ) (e : E) → Makes e → Makes (selecting types a y k m ps e)
  selecting-makes a y k m [] e h = h
  selecting-makes a y k m (q ∷ ps) e h = (tt, selecting-makes a y (suc k) (suc m) ps e h)

  performing-makes : (b : Bool) (n : ℕ) (p : BasisPrimitive) (u a r : ℕ) (ps : List ℕ) → FunMakes (performing types b n p u a r ps)
  performing-makes true n p u a r ps = (tt, tt)
  performing-makes false n p u a r ps = selecting-makes a n 1 (suc n) ps _ (tt, tt)

  used-makes : (b : Bool) (n t x : ℕ) → OpMakes (used_as types b n t x)
  used-makes true n t x = ((tt, tt), tt)
  used-makes false n t x = tt

  alone-makes : (o : Option (Option ℕ)) (n c u : ℕ) → OpMakes (alone_as types o n c u)
  alone-makes (Some (Some a)) n c u = (tt, tt)
  alone-makes (Some None) n c u = tt
  alone-makes None n c u = tt

  mutual
    expand-makes : (N : Names) (n : ℕ) (e : E) → Makes e → Makes (expand types N n e)
    expand-makes N n (ret a) h = tt
    expand-makes N n (let_in x ps t o e) h = (expand-op-makes N n t o h.0, expand-makes ((x, false) ∷ N) (n + op_news types N t o) e h.1)
    expand-makes N n (exception_in x i t e) h = (h.0, expand-makes ((x, is_given t) ∷ N) n e h.1)
    expand-makes N n (name_in x y e) h = expand-makes ((x, name_takes types N y) ∷ N) n e h
    expand-makes N n (rec_in ps fs e) h = (expand-funs-make (group_names types fs N) n fs h.0, expand-makes (group_names types fs N) (n + funs_news types (group_names types fs N) fs) e h.1)
    expand-makes N n (switch a t arms) h = expand-arms-make N n arms h
    expand-makes N n (first e d) h = (expand-makes N n e h.0, expand-makes N (n + news types N e) d h.1)
    expand-makes N n miss h = tt
    expand-makes N n (counted k e) h = expand-makes N n e h

    expand-arms-make : (N : Names) (n : ℕ) (arms : Arms (mono types)) → ArmsMake arms → ArmsMake (expand_arms types N n arms)
    expand-arms-make N n no_arms h = tt
    expand-arms-make N n (arm c e arms) h = (expand-makes (case_names types c N) n e h.0, expand-arms-make N (n + news types (case_names types c N) e) arms h.1)

    expand-op-makes : (N : Names) (n t : ℕ) (o : Op (mono types)) → OpMakes o → OpMakes (expand_op types N n t o)
    expand-op-makes N n t (use_of x) h = used-makes (takes_argument N x) n t x
    expand-op-makes N n t (const l) h = tt
    expand-op-makes N n t (con_alone c u) h = alone-makes (constructor_at types u c) n c u
    expand-op-makes N n t (construct k c u a) h = tt
    expand-op-makes N n t (ref_alone a) h = (tt, tt)
    expand-op-makes N n t (refer k u a) h = tt
    expand-op-makes N n t (content u a) h = tt
    expand-op-makes N n t (pack k u y a) h = tt
    expand-op-makes N n t (make_record u row) h = tt
    expand-op-makes N n t (select u l a) h = tt
    expand-op-makes N n t (prim_alone p u) h =
        performing-makes (is_single (prim_type p).arguments) n p u (takes_at (node_at types t)) (gives_at (node_at types t)) (parts_at (node_at types (takes_at (node_at types t))))
    expand-op-makes N n t (prim k p u as_) h = tt
    expand-op-makes N n t (app place f a) h = tt
    expand-op-makes N n t (fn f) h = expand-fun-makes N n f h
    expand-op-makes N n t (block e) h = expand-makes N n e h
    expand-op-makes N n t (handle e x d) h = (expand-makes N n e h.0, expand-makes ((x, false) ∷ N) (n + news types N e) d h.1)
    expand-op-makes N n t (raise a) h = tt
    expand-op-makes N n t (raise_initial i) h = tt

    expand-fun-makes : (N : Names) (n : ℕ) (f : Fun (mono types)) → FunMakes f → FunMakes (expand_fun types N n f)
    expand-fun-makes N n (last x t e) h = expand-makes ((x, false) ∷ N) n e h
    expand-fun-makes N n (more x t f) h = expand-fun-makes ((x, false) ∷ N) n f h

    expand-funs-make : (N : Names) (n : ℕ) (fs : Funs (mono types)) → FunsMake fs → FunsMake (expand_funs types N n fs)
    expand-funs-make N n no_funs h = tt
    expand-funs-make N n (fun x t f fs) h = (expand-fun-makes N n f h.0, expand-funs-make N (n + fun_news types N f) fs h.1)

  -- Conversion

  outer-none : (n : Numbering) (cs : List ℕ) (x : ℕ) (w : Way) → All P (op_makes (outer n cs x w))
  outer-none n cs x no_way = All-nil P
  outer-none n cs x leads = All-nil P
  outer-none n cs x (follows k) = All-nil P

  access-none : (n : Numbering) (s : Scope) (y : ℕ) → All P (op_makes (access n s y))
  access-none n s y = by (is_in y s.locals)
    where
      by : (b : Bool) → All P (op_makes (if b then out.plain op.same (var y ∷ []) else outer n s.captured y (way y s.group)))
      by true = All-nil P
      by false = outer-none n s.captured y (way y s.group)

  marked-makes : (k : Option Place) (e : out.Exp) → All P (makes e) → All P (makes (marked k e))
  marked-makes None e h = h
  marked-makes (Some place) e h = h

  computed-none : (k : Operands) (p : BasisPrimitive) (xs : List ℕ) → All P (op_makes (computed k p xs))
  computed-none k p xs = by (may_raise k p)
    where
      by : (b : Bool) → All P (op_makes (if b then out.attempt k p xs else out.plain (op.compute k p) xs))
      by true = All-nil P
      by false = All-nil P

  performed-none : (k : Sort) (p : BasisPrimitive) (t : ℕ) (xs : List ℕ) → All P (op_makes (performed types k p t xs))
  performed-none compares p t xs = All-nil P
  performed-none assigns p t xs = All-nil P
  performed-none prints p t xs = All-nil P
  performed-none computes p t xs = computed-none (operands types p t) p xs

  module _ (n : Numbering) (F : Flow) (T : Table) where
    let-none : (x : ℕ) (o : out.Op) (e : out.Exp) → All P (op_makes o) → All P (makes e) → All P (makes (out.let_in x o e))
    let-none x o e h k = All-append P (op_makes o) (makes e) h k

    call-none : (p : Place) (s : ℕ) (ks : List ℕ) (f a : ℕ) → All P (op_makes (call_set n p s ks f a))
    call-none p s [] f a = All-nil P
    call-none p s (k ∷ []) f a = All-nil P
    call-none p s (k ∷ l ∷ ks) f a = All-nil P

    used-none : (b : Bool) (s : Scope) (x y : ℕ) (e : out.Exp) → All P (makes e) → All P (makes (used n b s x y e))
    used-none true s x y e h = let-none given (access n s y) (packed x e) (access-none n s y) h
    used-none false s x y e h = let-none x (access n s y) e (access-none n s y) h

    ready-makes : (s : Scope) (ps : List Piece) (e : out.Exp) → All P (makes e) → All P (makes (ready n s ps e))
    ready-makes s [] e h = h
    ready-makes s (alone y ∷ ps) e h = by (is_in y s.locals) (ready-makes s ps e h)
      where
        by : (b : Bool) → All P (makes (ready n s ps e)) → All P (makes (if b then ready n s ps e else out.let_in (var y) (access n s y) (ready n s ps e)))
        by true k = k
        by false k = let-none (var y) (access n s y) (ready n s ps e) (access-none n s y) k
    ready-makes s (those from count ∷ ps) e h = ready-makes s ps e h

    making-makes : (s : Scope) (x k : ℕ) (e : out.Exp) → All P (makes e) → All P (makes (making n types F T s x k e))
    making-makes s x k e h = ready-makes s (T.pieces k) (out.let_in x (out.make (n.tag k) (piece_list (T.pieces k))) e) h

    following-makes : (h : ℕ) (gs : List Member) (e : out.Exp) → All P (makes e) → All P (makes (following n types F T h gs e))
    following-makes h [] e k = k
    following-makes h (g ∷ gs) e k = following-makes h gs _ k

    group-makes : (s : Scope) (gs : List Member) (e : out.Exp) → All P (makes e) → All P (makes (group_in n types F T s gs e))
    group-makes s [] e h = h
    group-makes s (g ∷ gs) e h = making-makes s (var g.name) g.number _ (following-makes g.name gs e h)

    name-none : (s : Scope) (y : Exception (mono types)) → All P (op_makes (name_of n types F T s y))
    name-none s (fixed i) = All-nil P
    name-none s (held y) = access-none n s y

    mutual
      convert-makes : (s : Scope) (e : E) → Makes e → All P (makes (convert n types F T s e))
      convert-makes s (ret a) h = All-nil P
      convert-makes s (let_in x ps t o e) h = op-converts s x o (convert n types F T (add x s) e) h.0 (convert-makes (add x s) e h.1)
      convert-makes s (exception_in x i t e) h = All-cons P i (makes (convert n types F T (add x s) e)) h.0 (convert-makes (add x s) e h.1)
      convert-makes s (name_in x y e) h = let-none (var x) (name_of n types F T s y) (convert n types F T (add x s) e) (name-none s y) (convert-makes (add x s) e h)
      convert-makes s (rec_in ps fs e) h = group-makes s (members types fs) (convert n types F T (add_all (names (members types fs)) s) e) (convert-makes (add_all (names (members types fs)) s) e h.1)
      convert-makes s (switch a t arms) h = cases-make s a t arms h
      convert-makes s (first e d) h = All-append P (makes (convert n types F T s e)) (makes (convert n types F T s d)) (convert-makes s e h.0) (convert-makes s d h.1)
      convert-makes s miss h = All-nil P
      convert-makes s (counted k e) h = convert-makes s e h

      cases-make : (s : Scope) (a t : ℕ) (arms : Arms (mono types)) → ArmsMake arms → All P (makes (cases n types F T s a t arms))
      cases-make s a t no_arms h = All-nil P
      cases-make s a t (arm (is_literal l) e arms) h = All-append P (makes (convert n types F T s e)) (makes (cases n types F T s a t arms)) (convert-makes s e h.0) (cases-make s a t arms h.1)
      cases-make s a t (arm (is_con c) e arms) h = All-append P (makes (convert n types F T s e)) (arms_make (con_arms n types F T s a t arms)) (convert-makes s e h.0) (tags-make s a t arms h.1)
      cases-make s a t (arm (is_con_of c x u) e arms) h = All-append P (makes (convert n types F T (add x s) e)) (arms_make (con_arms n types F T s a t arms)) (convert-makes (add x s) e h.0) (tags-make s a t arms h.1)
      cases-make s a t (arm (is_exn y) e arms) h = All-append P (makes (convert n types F T s e)) (makes (cases n types F T s a t arms)) (convert-makes s e h.0) (cases-make s a t arms h.1)
      cases-make s a t (arm (is_exn_of y x u) e arms) h = All-append P (makes (convert n types F T (add x s) e)) (makes (cases n types F T s a t arms)) (convert-makes (add x s) e h.0) (cases-make s a t arms h.1)
      cases-make s a t (arm (is_record size) e arms) h = convert-makes s e h.0

      tags-make : (s : Scope) (a t : ℕ) (arms : Arms (mono types)) → ArmsMake arms → All P (arms_make (con_arms n types F T s a t arms))
      tags-make s a t no_arms h = All-nil P
      tags-make s a t (arm (is_con c) e arms) h = All-append P (makes (convert n types F T s e)) (arms_make (con_arms n types F T s a t arms)) (convert-makes s e h.0) (tags-make s a t arms h.1)
      tags-make s a t (arm (is_con_of c x u) e arms) h = All-append P (makes (convert n types F T (add x s) e)) (arms_make (con_arms n types F T s a t arms)) (convert-makes (add x s) e h.0) (tags-make s a t arms h.1)
      tags-make s a t (arm (is_literal l) e arms) h = All-nil P
      tags-make s a t (arm (is_exn y) e arms) h = All-nil P
      tags-make s a t (arm (is_exn_of y x u) e arms) h = All-nil P
      tags-make s a t (arm (is_record size) e arms) h = All-nil P

      op-converts : (s : Scope) (x : ℕ) (o : Op (mono types)) (e : out.Exp) → OpMakes o → All P (makes e) → All P (makes (convert_op n types F T s x o e))
      op-converts s x (use_of y) e h k = used-none (n.is_name y) s (var x) y e k
      op-converts s x (const l) e h k = k
      op-converts s x (con_alone c t) e h k = k
      op-converts s x (construct q c t a) e h k = marked-makes q _ k
      op-converts s x (ref_alone t) e h k = k
      op-converts s x (refer q t a) e h k = marked-makes q _ k
      op-converts s x (content t a) e h k = k
      op-converts s x (pack q t y a) e h k = marked-makes q _ k
      op-converts s x (make_record t row) e h k = k
      op-converts s x (select t l a) e h k = k
      op-converts s x (prim_alone p t) e h k = k
      op-converts s x (prim q p t as_) e h k = marked-makes q _ (let-none (var x) (performed types (sort_of p) p t _) e (performed-none (sort_of p) p t _) k)
      op-converts s x (app place f a) e h k = let-none (var x) (call_set n place (F.number (variable f)) (at F (variable f)) (var f) (var a)) e (call-none place (F.number (variable f)) (at F (variable f)) (var f) (var a)) k
      op-converts s x (fn f) e h k = making-makes s (var x) (number_of types f) e k
      op-converts s x (block b) e h k = All-append P (makes (convert n types F T s b)) (makes e) (convert-makes s b h) k
      op-converts s x (handle b y d) e h k =
          All-append P (makes (convert n types F T s b) ++ makes (convert n types F T (add y s) d)) (makes e)
          (All-append P (makes (convert n types F T s b)) (makes (convert n types F T (add y s) d)) (convert-makes s b h.0) (convert-makes (add y s) d h.1)) k
      op-converts s x (raise a) e h k = k
      op-converts s x (raise_initial i) e h k = k

    opening-makes : (q : Bool) (e : out.Exp) → All P (makes e) → All P (makes (opening n types F T q e))
    opening-makes true e h = h
    opening-makes false e h = h

    body-makes : (s : Scope) (f : Fun (mono types)) → FunMakes f → All P (makes (body n types F T s f))
    body-makes s (last x t e) h = convert-makes s e h
    body-makes s (more x t f) h = making-makes s given (number_of types f) (out.ret given) (All-nil P)

    code-makes : (q : Bool) (g : ℕ) (ms : List Member) (f : Fun (mono types)) (cs : List out.Fun) → FunMakes f → All P (funs_make cs)
        → All P (makes (opening n types F T q (body n types F T (scope_of (T.captured g) ms (number_of types f)) f)) ++ funs_make cs)
    code-makes q g ms f cs h k = All-append P _ (funs_make cs) (opening-makes q _ (body-makes (scope_of (T.captured g) ms (number_of types f)) f h)) k

    mutual
      codes-make : (e : E) (cs : List out.Fun) → Makes e → All P (funs_make cs) → All P (funs_make (codes n types F T e cs))
      codes-make (ret a) cs h k = k
      codes-make (let_in x ps t o e) cs h k = op-codes-make o (codes n types F T e cs) h.0 (codes-make e cs h.1 k)
      codes-make (exception_in x i t e) cs h k = codes-make e cs h.1 k
      codes-make (name_in x y e) cs h k = codes-make e cs h k
      codes-make (rec_in ps fs e) cs h k = funs-codes-make true (leader types fs) (members types fs) fs (codes n types F T e cs) h.0 (codes-make e cs h.1 k)
      codes-make (switch a t arms) cs h k = arms-codes-make arms cs h k
      codes-make (first e d) cs h k = codes-make e (codes n types F T d cs) h.0 (codes-make d cs h.1 k)
      codes-make miss cs h k = k
      codes-make (counted j e) cs h k = codes-make e cs h k

      arms-codes-make : (arms : Arms (mono types)) (cs : List out.Fun) → ArmsMake arms → All P (funs_make cs) → All P (funs_make (codes_arms n types F T arms cs))
      arms-codes-make no_arms cs h k = k
      arms-codes-make (arm c e arms) cs h k = codes-make e (codes_arms n types F T arms cs) h.0 (arms-codes-make arms cs h.1 k)

      op-codes-make : (o : Op (mono types)) (cs : List out.Fun) → OpMakes o → All P (funs_make cs) → All P (funs_make (codes_op n types F T o cs))
      op-codes-make (use_of x) cs h k = k
      op-codes-make (const l) cs h k = k
      op-codes-make (con_alone c t) cs h k = k
      op-codes-make (construct q c t a) cs h k = k
      op-codes-make (ref_alone t) cs h k = k
      op-codes-make (refer q t a) cs h k = k
      op-codes-make (content t a) cs h k = k
      op-codes-make (pack q t x a) cs h k = k
      op-codes-make (make_record t row) cs h k = k
      op-codes-make (select t l a) cs h k = k
      op-codes-make (prim_alone p t) cs h k = k
      op-codes-make (prim q p t as_) cs h k = k
      op-codes-make (app place f a) cs h k = k
      op-codes-make (raise a) cs h k = k
      op-codes-make (raise_initial i) cs h k = k
      op-codes-make (fn f) cs h k = fun-codes-make true (number_of types f) [] f cs h k
      op-codes-make (block e) cs h k = codes-make e cs h k
      op-codes-make (handle e x d) cs h k = codes-make e (codes n types F T d cs) h.0 (codes-make d cs h.1 k)

      fun-codes-make : (q : Bool) (g : ℕ) (ms : List Member) (f : Fun (mono types)) (cs : List out.Fun) → FunMakes f → All P (funs_make cs) → All P (funs_make (codes_fun n types F T q g ms f cs))
      fun-codes-make q g ms (last x t e) cs h k = code-makes q g ms (last x t e) (codes n types F T e cs) h (codes-make e cs h k)
      fun-codes-make q g ms (more x t f) cs h k = code-makes q g ms (more x t f) (codes_fun n types F T true (number_of types f) [] f cs) h (fun-codes-make true (number_of types f) [] f cs h k)

      funs-codes-make : (q : Bool) (g : ℕ) (ms : List Member) (fs : Funs (mono types)) (cs : List out.Fun) → FunsMake fs → All P (funs_make cs) → All P (funs_make (codes_funs n types F T q g ms fs cs))
      funs-codes-make q g ms no_funs cs h k = k
      funs-codes-make q g ms (fun x t f fs) cs h k = fun-codes-make q g ms f (codes_funs n types F T false g ms fs cs) h.0 (funs-codes-make false g ms fs cs h.1 k)

    program-makes : (e : E) → Makes e → All P (makes (convert n types F T top e) ++ funs_make (codes n types F T e []))
    program-makes e h = All-append P (makes (convert n types F T top e)) (funs_make (codes n types F T e [])) (convert-makes top e h) (codes-make e [] h (All-nil P))

-- so of those that contain themselves
self-makes : (p : Program) → Makes (Contains (tests_made p.body [])) p.types p.body
self-makes p = (all-made (Contains (tests_made p.body [])) p.types p.body [] (All-contains_itself (tests_made p.body []))).0

pub conversion-makes-no-more : ConversionMakesNoMore
conversion-makes-no-more n strings flow captures p = program-makes (Contains (tests_made p.body [])) p.types n flow captures p.body (self-makes p)

pub expansion-makes-no-more : ExpansionMakesNoMore
expansion-makes-no-more n p = made-all (Contains (tests_made p.body [])) p.types (expand p.types [] n p.body) [] (expand-makes (Contains (tests_made p.body [])) p.types [] n p.body (self-makes p)) (All-nil (Contains (tests_made p.body [])))

pub whole-makes-no-more : WithoutFunctionsMakesNoMore
whole-makes-no-more strings p =
    let q = explicit p in
    program-makes (Contains (tests_made p.body [])) p.types (numbering strings (rising q) q) (rising q) (table_of p.types q.body) q.body
    (expand-makes (Contains (tests_made p.body [])) p.types [] (above (bound p.types p.body)) p.body (self-makes p))
