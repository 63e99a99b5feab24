-- Each variable of the compiled program is bound once: each new one has the next number.
use Rattle.std.proofs.Common.{◌≡◌, ℕ, zero, suc, ◌+◌, ◌≤◌, Bool, true, false, not, List, [], ◌++◌, Some, if◌then◌else◌, nat_eq, refl, arith}
use Rattle.std.proofs.lemmas.Bool.{eqb-true}
use Rattle.mlc_base.specs.declared.place.Place.{Place}
use Rattle.mlc_prims.specs.declared.basis.BasisPrimitive.{BasisPrimitive}
use Rattle.ty_core.specs.Types.{Typ}
use Rattle.ty_core.specs.declared.scheme.Quantified.{Quantified}
use Rattle.ir_poly.specs.of_ir_values.Values.{truth_number}
use Rattle.ir_poly.specs.of_ir_values.Primitives.{match_name, bind_name}
use Rattle.ir_poly.specs.of_ir_plain.Once.{hit, IsOnce, times, op_times, fun_times, funs_times}
use Rattle.ir_poly.specs.of_ir_plain.Tree as te
use Rattle.ir_poly.specs.Prog.{Pat, any_pat, variable_pat, constant_pat, con_pat, con_of_pat, ref_of_pat, exn_pat, exn_of_pat, fields_pat, as_pat, PatFields, no_pats, a_pat, Exp, constant_exp, variable_exp, own_exp, con_exp, ref_exp, exn_exp, prim_exp, fields_exp, let_exp, app_exp, case_exp, chain_exp, handle_exp, raise_exp, fn_exp, counted_exp, Fields, no_fields, a_field, Chain, only, link, Rules, no_rules, a_rule, Fun, last, by_rules, more, Decs, no_decs, val_dec, exception_dec, counted_dec, Binds, no_binds, a_bind, Funs, no_funs, a_fun, type_of}
use Rattle.ir_poly.specs.Tests.{poly, Tests}
use Rattle.ir_poly.specs.Types.{unit_type}
use Rattle.match_compile.specs.Compile.{Names, no_names, named, funs_named, past_group, scoped, bool_type, exception_type, atom, put, Otherwise, again, initial, otherwise, Spots, no_spots, spot, spots, spots_named, past_pat, past_pats, tests, field_tests, Shape, plain, alone, recorded, shape, record_type, together, split, past_split, past_shape, shaped, grouped, Built, a_con, a_ref, an_exn, Way, by_call, by_building, by_performing, way, weighed, past_built, beginning, building, along, is_direct, value_at, value_of_rule, past_tuple, past_fields, past_chain, past_rules, past_fun, past_decs, past_binds, past_funs, unclassed, val_named, decs_named, field_row, sorted_row, tuple_atoms, making, making_rule, making_tuple, making_all, links, rules, function, functions, bindings, decs, compile}
use Rattle.match_compile.proofs.Numbers.{different}

-- how many of the numbers below n are k
abbrev pub new : (k n : ℕ) → ℕ
new k zero = 0
new k (suc n) = hit k n + new k n

module _ (k : ℕ) where
  abbrev T : Tests → ℕ
  T e = times (hit k) e

  mutual
    tests-once : (D : List Quantified) (N : Names) (p : Pat) (t : Typ) (n a : ℕ) (rest : Tests) → T (tests D N p t n a rest) + new k n ≡ new k (past_pat p n) + T rest
    tests-once D N any_pat t n a rest = omega arith
    tests-once D N (variable_pat x) t n a rest = omega arith
    tests-once D N (constant_pat l) t n a rest = omega arith
    tests-once D N (con_pat c) t n a rest = omega arith
    tests-once D N (con_of_pat c u p) t n a rest = let h = tests-once D N p u (suc n) n rest in omega (arith, h)
    tests-once D N (ref_of_pat u p) t n a rest = let h = tests-once D N p u (suc n) n rest in omega (arith, h)
    tests-once D N (exn_pat x) t n a rest = omega arith
    tests-once D N (exn_of_pat x u p) t n a rest = let h = tests-once D N p u (suc (suc n)) (suc n) rest in omega (arith, h)
    tests-once D N (fields_pat further ps) t n a rest = let h = field-tests-once D N ps t n a rest in omega (arith, h)
    tests-once D N (as_pat x p) t n a rest = tests-once D N p t n a rest

    field-tests-once : (D : List Quantified) (N : Names) (ps : PatFields) (t : Typ) (n a : ℕ) (rest : Tests) → T (field_tests D N ps t n a rest) + new k n ≡ new k (past_pats ps n) + T rest
    field-tests-once D N no_pats t n a rest = omega arith
    field-tests-once D N (a_pat l u p ps) t n a rest =
        let j = past_pat p (suc n) in
        let h = tests-once D N p u (suc n) n (field_tests D N ps t j a rest) in
        let g = field-tests-once D N ps t j a rest in
        omega (arith, h, g)

  split-once : (D qs : List Quantified) (u : Typ) (r : ℕ) (vs : Spots) (l j : ℕ) (rest : Tests) → T (split D qs u r vs l j rest) + new k j ≡ new k (past_split vs j) + T rest
  split-once D qs u r no_spots l j rest = omega arith
  split-once D qs u r (spot x a t vs) l j rest = let h = split-once D qs u r vs (suc l) (suc (suc (suc j))) rest in omega (arith, h)

  otherwise-once : (D : List Quantified) (n : ℕ) (t : Typ) (a : ℕ) (o : Otherwise) → T (otherwise D n t a o) ≡ hit k n
  otherwise-once D n t a again = omega arith
  otherwise-once D n t a (initial i) = omega arith

  -- m stands for the numbers before
  shaped-once : (s : Shape) (D qs : List Quantified) (p : Pat) (t : Typ) (i m : ℕ) (plainly value all rest : Tests) → T plainly + m ≡ new k (past_pat p (suc i)) + T rest → T value + m ≡ new k (suc i) → T all + m ≡ new k (suc (past_pat p (suc i))) → T (shaped s D qs p t i plainly value all rest) + m ≡ new k (past_shape s p t i) + T rest
  shaped-once plain D qs p t i m plainly value all rest h g d = h
  shaped-once (alone x) D qs p t i m plainly value all rest h g d = omega (arith, g)
  shaped-once recorded D qs p t i m plainly value all rest h g d =
      let vs = spots p t (suc i) i no_spots in let j = past_pat p (suc i) in let u = record_type vs in
      let s = split-once D qs u (suc (suc j)) vs 1 (suc (suc (suc j))) rest in
      let o = otherwise-once (qs ++ D) (suc j) u i (initial bind_name) in
      omega (arith, d, s, o)

  weighed-once : (f : Exp) (rest : Tests) → T (weighed f rest) ≡ T rest
  weighed-once (constant_exp l t) rest = refl
  weighed-once (variable_exp x ts t) rest = refl
  weighed-once (own_exp x t) rest = refl
  weighed-once (con_exp c y ts t) rest = refl
  weighed-once (ref_exp v t) rest = refl
  weighed-once (exn_exp x t) rest = refl
  weighed-once (prim_exp p ts t) rest = refl
  weighed-once (fields_exp t fs) rest = refl
  weighed-once (let_exp t ds e) rest = refl
  weighed-once (app_exp place t f a) rest = refl
  weighed-once (case_exp place t e rs) rest = refl
  weighed-once (chain_exp b t c) rest = refl
  weighed-once (handle_exp t e rs) rest = refl
  weighed-once (raise_exp t e) rest = refl
  weighed-once (fn_exp t f) rest = refl
  weighed-once (counted_exp n t f) rest = weighed-once f rest

  beginning-once : (N : Names) (b : Built) (n : ℕ) (rest : Tests) → T (beginning N b n rest) + new k n ≡ new k (past_built b n) + T rest
  beginning-once N (a_con c) n rest = omega arith
  beginning-once N (a_ref u) n rest = omega arith
  beginning-once N (an_exn x) n rest = omega arith

  building-once : (D : List Quantified) (b : Built) (place : Place) (t u : Typ) (n i : ℕ) → op_times (hit k) (building D b place t u n i) ≡ 0
  building-once D (a_con c) place t u n i = refl
  building-once D (a_ref v) place t u n i = refl
  building-once D (an_exn x) place t u n i = refl

  along-once : (y : Way) (n m : ℕ) (i : ℕ) (j : Built → ℕ) (l : BasisPrimitive → Typ → ℕ) (called : Tests) (built : Built → Tests) (done : BasisPrimitive → Typ → Tests) → T called + n ≡ new k (suc i) + m → ((b : Built) → T (built b) + n ≡ new k (suc (j b)) + m) → ((p : BasisPrimitive) (u : Typ) → T (done p u) + n ≡ new k (suc (l p u)) + m)
      → T (along y called built done) + n ≡ new k (suc (along y i j l)) + m
  along-once by_call n m i j l called built done h g d = h
  along-once (by_building b) n m i j l called built done h g d = g b
  along-once (by_performing p u) n m i j l called built done h g d = d p u

  direct-once : (b : Bool) (n m i j : ℕ) (x y : Tests) → (b ≡ true → T x + n ≡ new k (suc i) + m) → T y + n ≡ new k (suc j) + m → T (if b then x else y) + n ≡ new k (suc (if b then i else j)) + m
  direct-once true n m i j x y h g = h refl
  direct-once false n m i j x y h g = g

  grouped-once : (qs : List Quantified) (fs : te.Funs poly) (rest : Tests) → T (grouped qs fs rest) ≡ funs_times (hit k) fs + T rest
  grouped-once qs te.no_funs rest = omega arith
  grouped-once qs (te.fun x t f fs) rest = refl

  mutual
    making-once : (D : List Quantified) (N : Names) (e : Exp) (n : ℕ) (rest : Tests) → T (making D N e n rest) + new k n ≡ new k (suc (value_at e n)) + T rest
    making-once D N (constant_exp l t) n rest = omega arith
    making-once D N (variable_exp x ts t) n rest = omega arith
    making-once D N (own_exp x t) n rest = omega arith
    making-once D N (con_exp c y ts t) n rest = omega arith
    making-once D N (ref_exp u t) n rest = omega arith
    making-once D N (exn_exp x t) n rest = omega arith
    making-once D N (prim_exp p ts t) n rest = omega arith
    making-once D N (fields_exp t fs) n rest = let h = fields-once D N fs n (put D (past_fields fs n) t (te.make_record (scoped D t) (sorted_row (field_row fs n))) rest) in omega (arith, h)
    making-once D N (let_exp t ds e) n rest =
        let i = past_decs ds n in let j = value_at e i in let M = decs_named ds n N in
        let h = decs-once D N ds n (making D M e i (te.ret (atom j))) in
        let g = making-once D M e i (te.ret (atom j)) in
        let d = otherwise-once D (suc j) t n (initial bind_name) in
        omega (arith, h, g, d)
    making-once D N (app_exp place t f a) n rest =
        along-once (way f a) (new k n) (T rest) _ _ _ _ _ _
        (let i = value_at f n in let j = value_at a (suc i) in let end = put D (suc j) t (te.app place (atom i) (atom j)) rest in let h = making-once D N f n (making D N a (suc i) end) in let g = making-once D N a (suc i) end in omega (arith, h, g))
        (λ b. let m = past_built b n in let i = value_at a m in let o = building D b place t (type_of a) n i in let end = put D (suc i) t o rest in
        let s = beginning-once N b n (weighed f (making D N a m end)) in let w = weighed-once f (making D N a m end) in let h = making-once D N a m end in let g = building-once D b place t (type_of a) n i in omega (arith, s, w, h, g))
        (λ p u. let m = past_tuple a n in let end = put D m t (te.prim (Some place) p (scoped D u) (tuple_atoms a n)) rest in let w = weighed-once f (making_tuple D N a n end) in let h = tuple-once D N a n end in omega (arith, w, h))
    making-once D N (case_exp place t e rs) n rest =
        let i = value_at e n in let j = past_rules rs (suc i) in let x = making_rule D N rs (type_of e) (suc i) i rest in let y = put D j t (te.block (rules D N rs (type_of e) t (suc i) i (initial match_name))) rest in
        let h = making-once D N e n (if is_direct rs then x else y) in
        let g = direct-once (is_direct rs) (new k (suc i)) (T rest) (value_of_rule rs (suc i)) j x y (λ d. rule-once D N rs d (type_of e) (suc i) i rest) (let l = rules-once D N rs (type_of e) t (suc i) i (initial match_name) in omega (arith, l)) in
        omega (arith, h, g)
    making-once D N (chain_exp b t c) n rest =
        let h = links-once D N c b n in let d = otherwise-once D (past_chain c n) bool_type n (initial match_name) in omega (arith, h, d)
    making-once D N (handle_exp t e rs) n rest =
        let i = value_at e n in
        let h = making-once D N e n (te.ret (atom i)) in
        let g = rules-once D N rs exception_type t (suc (suc i)) (suc i) again in
        omega (arith, h, g)
    making-once D N (raise_exp t e) n rest = let h = making-once D N e n (put D (suc (value_at e n)) t (te.raise (atom (value_at e n))) rest) in omega (arith, h)
    making-once D N (fn_exp t f) n rest = let h = fun-once D N f n in omega (arith, h)
    making-once D N (counted_exp j t e) n rest = making-once D N e n rest

    rule-once : (D : List Quantified) (N : Names) (rs : Rules) → is_direct rs ≡ true → (u : Typ) (n a : ℕ) (rest : Tests) → T (making_rule D N rs u n a rest) + new k n ≡ new k (suc (value_of_rule rs n)) + T rest
    rule-once D N no_rules d u n a rest = absurd (cc)
    rule-once D N (a_rule p e rs) d u n a rest = making-once D (spots_named (spots p u n a no_spots) N) e n rest

    tuple-once : (D : List Quantified) (N : Names) (e : Exp) (n : ℕ) (rest : Tests) → T (making_tuple D N e n rest) + new k n ≡ new k (past_tuple e n) + T rest
    tuple-once D N (fields_exp t fs) n rest = fields-once D N fs n rest
    tuple-once D N (counted_exp j t e) n rest = tuple-once D N e n rest
    tuple-once D N (constant_exp l t) n rest = omega arith
    tuple-once D N (variable_exp x ts t) n rest = omega arith
    tuple-once D N (own_exp x t) n rest = omega arith
    tuple-once D N (con_exp c y ts t) n rest = omega arith
    tuple-once D N (ref_exp u t) n rest = omega arith
    tuple-once D N (exn_exp x t) n rest = omega arith
    tuple-once D N (prim_exp p ts t) n rest = omega arith
    tuple-once D N (let_exp t ds e) n rest = omega arith
    tuple-once D N (app_exp place t f a) n rest = omega arith
    tuple-once D N (case_exp place t e rs) n rest = omega arith
    tuple-once D N (chain_exp b t c) n rest = omega arith
    tuple-once D N (handle_exp t e rs) n rest = omega arith
    tuple-once D N (raise_exp t e) n rest = omega arith
    tuple-once D N (fn_exp t f) n rest = omega arith

    fields-once : (D : List Quantified) (N : Names) (fs : Fields) (n : ℕ) (rest : Tests) → T (making_all D N fs n rest) + new k n ≡ new k (past_fields fs n) + T rest
    fields-once D N no_fields n rest = omega arith
    fields-once D N (a_field l e fs) n rest =
        let i = suc (value_at e n) in
        let h = making-once D N e n (making_all D N fs i rest) in
        let g = fields-once D N fs i rest in
        omega (arith, h, g)

    links-once : (D : List Quantified) (N : Names) (c : Chain) (b : Bool) (n : ℕ) → T (links D N c b n) + new k n ≡ new k (past_chain c n)
    links-once D N (only e) b n = let h = making-once D N e n (te.ret (atom (value_at e n))) in omega (arith, h)
    links-once D N (link e c) b n =
        let i = value_at e n in
        let h = making-once D N e n (te.switch (atom i) bool_type (te.arm (te.is_con (truth_number b)) (links D N c b (suc i)) (te.arm (te.is_con (truth_number (not b))) (te.ret (atom i)) te.no_arms))) in
        let g = links-once D N c b (suc i) in
        omega (arith, h, g)

    rules-once : (D : List Quantified) (N : Names) (rs : Rules) (u t : Typ) (n a : ℕ) (o : Otherwise) → T (rules D N rs u t n a o) + new k n ≡ new k (past_rules rs n)
    rules-once D N no_rules u t n a o = let h = otherwise-once D n t a o in omega (arith, h)
    rules-once D N (a_rule p e rs) u t n a o =
        let i = past_pat p n in let j = value_at e i in let M = spots_named (spots p u n a no_spots) N in
        let h = tests-once D N p u n a (making D M e i (te.ret (atom j))) in
        let g = making-once D M e i (te.ret (atom j)) in
        let d = rules-once D N rs u t (suc j) a o in
        omega (arith, h, g, d)

    fun-once : (D : List Quantified) (N : Names) (f : Fun) (n : ℕ) → fun_times (hit k) (function D N f n) + new k n ≡ new k (past_fun f n)
    fun-once D N (last x t e) n = let h = making-once D (named x n N) e (suc n) (te.ret (atom (value_at e (suc n)))) in omega (arith, h)
    fun-once D N (by_rules place t u rs) n = let h = rules-once D N rs t u (suc n) n (initial match_name) in omega (arith, h)
    fun-once D N (more x t f) n = let h = fun-once D (named x n N) f (suc n) in omega (arith, h)

    functions-once : (D : List Quantified) (N : Names) (fs : Funs) (b n : ℕ) → funs_times (hit k) (functions D N fs b n) + (new k b + new k n) ≡ new k (past_group fs b) + new k (past_funs fs n)
    functions-once D N no_funs b n = omega arith
    functions-once D N (a_fun xs t f fs) b n =
        let h = fun-once D N f n in
        let g = functions-once D N fs (suc b) (past_fun f n) in
        omega (arith, h, g)

    bindings-once : (D : List Quantified) (N : Names) (qs : List Quantified) (bs : Binds) (n : ℕ) (rest : Tests) → T (bindings D N qs bs n rest) + new k n ≡ new k (past_binds qs bs n) + T rest
    bindings-once D N qs no_binds n rest = omega arith
    bindings-once D N qs (a_bind place b p t e bs) n rest =
        let s = shape qs b p in let i = value_at e n in let j = past_pat p (suc i) in let E = qs ++ D in let m = past_shape s p t i in
        let next = bindings D N qs bs m rest in let end = together E (spots p t (suc i) i no_spots) j in
        let one : T (making D N e n (tests D N p t (suc i) i next)) + new k n ≡ new k j + T next = let h = making-once D N e n (tests D N p t (suc i) i next) in let g = tests-once D N p t (suc i) i next in omega (arith, h, g) in
        let two : T (making E N e n (te.ret (atom i))) + new k n ≡ new k (suc i) = let h = making-once E N e n (te.ret (atom i)) in omega (arith, h) in
        let three : T (making E N e n (tests E N p t (suc i) i end)) + new k n ≡ new k (suc j) = let h = making-once E N e n (tests E N p t (suc i) i end) in let g = tests-once E N p t (suc i) i end in omega (arith, h, g) in
        let h = shaped-once s D qs p t i (new k n) (making D N e n (tests D N p t (suc i) i next)) (making E N e n (te.ret (atom i))) (making E N e n (tests E N p t (suc i) i end)) next one two three in
        let g = bindings-once D N qs bs m rest in
        omega (arith, h, g)

    decs-once : (D : List Quantified) (N : Names) (ds : Decs) (n : ℕ) (rest : Tests) → T (decs D N ds n rest) + new k n ≡ new k (past_decs ds n) + T rest
    decs-once D N no_decs n rest = omega arith
    decs-once D N (val_dec qs bs fs ds) n rest =
        let rs = unclassed qs in
        let b = past_binds rs bs n in let m = past_group fs b in let j = past_funs fs m in
        let group = functions (rs ++ D) (funs_named fs b N) fs b m in let later = decs D (val_named rs bs fs n N) ds j rest in
        let h = bindings-once D N rs bs n (grouped rs group later) in
        let g = grouped-once rs group later in
        let d = functions-once (rs ++ D) (funs_named fs b N) fs b m in
        let l = decs-once D (val_named rs bs fs n N) ds j rest in
        omega (arith, h, g, d, l)
    decs-once D N (exception_dec x identifier t ds) n rest = let h = decs-once D (named x n N) ds (suc n) rest in omega (arith, h)
    decs-once D N (counted_dec j ds) n rest = decs-once D N ds n rest

  not-below : (n : ℕ) → n ≤ k → new k n ≡ 0
  not-below zero le = refl
  not-below (suc n) le = let h = not-below n (omega (arith, le)) in let d : hit k n ≡ 0 = rw (different k n (λ e. omega (arith, e, le))) refl in omega (arith, h, d)

  at-most-one : (n : ℕ) → new k n ≤ 1
  at-most-one zero = omega arith
  at-most-one (suc n) = go (nat_eq k n) refl (at-most-one n)
    where
      go : (b : Bool) → nat_eq k n ≡ b → new k n ≤ 1 → (if b then 1 else 0) + new k n ≤ 1
      go true e h = let same : k ≡ n = eqb-true k n e in let z = not-below n (omega (arith, same)) in omega (arith, z)
      go false e h = omega (arith, h)

pub run-once : (ds : Decs) → IsOnce {F = poly} (λ x. x) (compile ds)
run-once ds k =
    let j = past_decs ds 1 in
    let h = decs-once k [] no_names ds 1 (put [] j unit_type (te.make_record unit_type te.no_row) (te.ret (atom j))) in
    let o = otherwise-once k [] (suc j) unit_type 0 (initial bind_name) in
    let l = at-most-one k (suc (suc j)) in
    omega (arith, h, o, l)
