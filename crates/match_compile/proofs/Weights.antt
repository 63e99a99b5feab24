-- The weights of a program are in the compiled one, none lost and none twice.
use Rattle.std.proofs.Common.{◌≡◌, ℕ, suc, ◌+◌, Bool, true, not, List, [], ◌++◌, Some, if◌then◌else◌, refl, sym, subst, arith, false}
use Rattle.std.specs.Prelude.{⊤}
use Rattle.mlc_base.specs.declared.place.Place.{Place}
use Rattle.mlc_prims.specs.declared.basis.BasisPrimitive.{BasisPrimitive}
use Rattle.ty_core.specs.Types.{Typ}
use Rattle.ty_core.specs.declared.scheme.Quantified.{Quantified}
use Rattle.ir_poly.specs.of_ir_values.Values.{truth_number}
use Rattle.ir_poly.specs.of_ir_values.Primitives.{match_name, bind_name}
use Rattle.ir_poly.specs.of_ir_plain.Weight as plain_weight
use Rattle.ir_poly.specs.of_ir_plain.Tree as te
use Rattle.ir_poly.specs.Prog.{Pat, any_pat, variable_pat, constant_pat, con_pat, con_of_pat, ref_of_pat, exn_pat, exn_of_pat, fields_pat, as_pat, PatFields, no_pats, a_pat, Exp, constant_exp, variable_exp, own_exp, con_exp, ref_exp, exn_exp, prim_exp, fields_exp, let_exp, app_exp, case_exp, chain_exp, handle_exp, raise_exp, fn_exp, counted_exp, Fields, no_fields, a_field, Chain, only, link, Rules, no_rules, a_rule, Fun, last, by_rules, more, Decs, no_decs, val_dec, exception_dec, counted_dec, Binds, no_binds, a_bind, Funs, no_funs, a_fun, type_of}
use Rattle.ir_poly.specs.ProgWeight.{weight, fields_weight, chain_weight, rules_weight, fun_weight, decs_weight, binds_weight, funs_weight}
use Rattle.ir_poly.specs.Tests.{poly, Tests}
use Rattle.ir_poly.specs.Types.{unit_type}
use Rattle.match_compile.specs.Compile.{Names, no_names, named, funs_named, past_group, scoped, bool_type, exception_type, atom, put, Otherwise, again, initial, otherwise, Spots, no_spots, spot, spots, spots_named, past_pat, tests, field_tests, Shape, plain, alone, recorded, shape, record_type, together, split, past_shape, shaped, grouped, Built, a_con, a_ref, an_exn, Way, by_call, by_building, by_performing, way, weighed, past_built, beginning, building, along, is_direct, value_at, past_tuple, past_fields, past_chain, past_rules, past_fun, past_decs, past_binds, past_funs, unclassed, val_named, decs_named, field_row, sorted_row, tuple_atoms, is_tuple, arity, making, making_rule, making_tuple, making_all, links, rules, function, functions, bindings, decs, compile}
use Rattle.match_compile.proofs.Keeps.{performed-tuple}

abbrev W : Tests → ℕ
W e = plain_weight.weight {F = poly} e

mutual
  tests-weight : (D : List Quantified) (N : Names) (p : Pat) (t : Typ) (n a : ℕ) (rest : Tests) → W (tests D N p t n a rest) ≡ W rest
  tests-weight D N any_pat t n a rest = refl
  tests-weight D N (variable_pat x) t n a rest = refl
  tests-weight D N (constant_pat l) t n a rest = omega arith
  tests-weight D N (con_pat c) t n a rest = omega arith
  tests-weight D N (con_of_pat c u p) t n a rest = let h = tests-weight D N p u (suc n) n rest in omega (arith, h)
  tests-weight D N (ref_of_pat u p) t n a rest = let h = tests-weight D N p u (suc n) n rest in omega (arith, h)
  tests-weight D N (exn_pat x) t n a rest = omega arith
  tests-weight D N (exn_of_pat x u p) t n a rest = let h = tests-weight D N p u (suc (suc n)) (suc n) rest in omega (arith, h)
  tests-weight D N (fields_pat further ps) t n a rest = let h = field-tests-weight D N ps t n a rest in omega (arith, h)
  tests-weight D N (as_pat x p) t n a rest = tests-weight D N p t n a rest

  field-tests-weight : (D : List Quantified) (N : Names) (ps : PatFields) (t : Typ) (n a : ℕ) (rest : Tests) → W (field_tests D N ps t n a rest) ≡ W rest
  field-tests-weight D N no_pats t n a rest = refl
  field-tests-weight D N (a_pat l u p ps) t n a rest =
      let j = past_pat p (suc n) in
      let h = tests-weight D N p u (suc n) n (field_tests D N ps t j a rest) in
      let g = field-tests-weight D N ps t j a rest in
      omega (arith, h, g)

split-weight : (D qs : List Quantified) (u : Typ) (r : ℕ) (vs : Spots) (l j : ℕ) (rest : Tests) → W (split D qs u r vs l j rest) ≡ W rest
split-weight D qs u r no_spots l j rest = refl
split-weight D qs u r (spot x a t vs) l j rest = let h = split-weight D qs u r vs (suc l) (suc (suc (suc j))) rest in omega (arith, h)

otherwise-weight : (D : List Quantified) (n : ℕ) (t : Typ) (a : ℕ) (o : Otherwise) → W (otherwise D n t a o) ≡ 0
otherwise-weight D n t a again = refl
otherwise-weight D n t a (initial i) = refl

shaped-weight : (s : Shape) (D qs : List Quantified) (p : Pat) (t : Typ) (i m : ℕ) (plainly value all rest : Tests) → W plainly ≡ m + W rest → W value ≡ m → W all ≡ m → W (shaped s D qs p t i plainly value all rest) ≡ m + W rest
shaped-weight plain D qs p t i m plainly value all rest h g d = h
shaped-weight (alone x) D qs p t i m plainly value all rest h g d = omega (arith, g)
shaped-weight recorded D qs p t i m plainly value all rest h g d =
    let vs = spots p t (suc i) i no_spots in let j = past_pat p (suc i) in let u = record_type vs in
    let s = split-weight D qs u (suc (suc j)) vs 1 (suc (suc (suc j))) rest in
    let o = otherwise-weight (qs ++ D) (suc j) u i (initial bind_name) in
    omega (arith, d, s, o)

-- an operator that isn't made itself
abbrev pub NotCalled : Way → Type 0
NotCalled by_call = ⊥
NotCalled (by_building b) = ⊤
NotCalled (by_performing p u) = ⊤

weighed-weight : (f a : Exp) (rest : Tests) → NotCalled (way f a) → W (weighed f rest) ≡ weight f + W rest
weighed-weight (con_exp c y ts t) a rest h = omega arith
weighed-weight (ref_exp v t) a rest h = omega arith
weighed-weight (exn_exp x t) a rest h = omega arith
weighed-weight (prim_exp p ts t) a rest h = omega arith
weighed-weight (counted_exp n t f) a rest h = let g = weighed-weight f a rest h in omega (arith, g)
weighed-weight (constant_exp l t) a rest h = absurd h
weighed-weight (variable_exp x ts t) a rest h = absurd h
weighed-weight (own_exp x t) a rest h = absurd h
weighed-weight (fields_exp t fs) a rest h = absurd h
weighed-weight (let_exp t ds e) a rest h = absurd h
weighed-weight (app_exp place t f g) a rest h = absurd h
weighed-weight (case_exp place t e rs) a rest h = absurd h
weighed-weight (chain_exp b t c) a rest h = absurd h
weighed-weight (handle_exp t e rs) a rest h = absurd h
weighed-weight (raise_exp t e) a rest h = absurd h
weighed-weight (fn_exp t f) a rest h = absurd h

pub not-called : (f a : Exp) (y : Way) → way f a ≡ y → NotCalled y → NotCalled (way f a)
not-called f a y e h = subst NotCalled (sym e) h

beginning-weight : (N : Names) (b : Built) (n : ℕ) (rest : Tests) → W (beginning N b n rest) ≡ W rest
beginning-weight N (a_con c) n rest = refl
beginning-weight N (a_ref u) n rest = refl
beginning-weight N (an_exn x) n rest = refl

building-weight : (D : List Quantified) (b : Built) (place : Place) (t u : Typ) (n i : ℕ) → plain_weight.op_weight {F = poly} (building D b place t u n i) ≡ 0
building-weight D (a_con c) place t u n i = refl
building-weight D (a_ref v) place t u n i = refl
building-weight D (an_exn x) place t u n i = refl

along-weight : (y : Way) (m : ℕ) (called : Tests) (built : Built → Tests) (done : BasisPrimitive → Typ → Tests) → W called ≡ m → ((b : Built) → y ≡ by_building b → W (built b) ≡ m) → ((p : BasisPrimitive) (u : Typ) → y ≡ by_performing p u → W (done p u) ≡ m) → W (along y called built done) ≡ m
along-weight by_call m called built done h g d = h
along-weight (by_building b) m called built done h g d = g b refl
along-weight (by_performing p u) m called built done h g d = d p u refl

direct-weight : (b : Bool) (m : ℕ) (x y : Tests) → (b ≡ true → W x ≡ m) → W y ≡ m → W (if b then x else y) ≡ m
direct-weight true m x y h g = h refl
direct-weight false m x y h g = g

grouped-weight : (qs : List Quantified) (fs : te.Funs poly) (rest : Tests) → W (grouped qs fs rest) ≡ plain_weight.funs_weight fs + W rest
grouped-weight qs te.no_funs rest = omega arith
grouped-weight qs (te.fun x t f fs) rest = refl

mutual
  making-weight : (D : List Quantified) (N : Names) (e : Exp) (n : ℕ) (rest : Tests) → W (making D N e n rest) ≡ weight e + W rest
  making-weight D N (constant_exp l t) n rest = omega arith
  making-weight D N (variable_exp x ts t) n rest = omega arith
  making-weight D N (own_exp x t) n rest = omega arith
  making-weight D N (con_exp c y ts t) n rest = omega arith
  making-weight D N (ref_exp u t) n rest = omega arith
  making-weight D N (exn_exp x t) n rest = omega arith
  making-weight D N (prim_exp p ts t) n rest = omega arith
  making-weight D N (fields_exp t fs) n rest = let h = fields-weight D N fs n (put D (past_fields fs n) t (te.make_record (scoped D t) (sorted_row (field_row fs n))) rest) in omega (arith, h)
  making-weight D N (let_exp t ds e) n rest =
      let i = past_decs ds n in let j = value_at e i in let M = decs_named ds n N in
      let h = decs-weight D N ds n (making D M e i (te.ret (atom j))) in
      let g = making-weight D M e i (te.ret (atom j)) in
      let d = otherwise-weight D (suc j) t n (initial bind_name) in
      omega (arith, h, g, d)
  making-weight D N (app_exp place t f a) n rest =
      along-weight (way f a) (weight f + weight a + W rest) _ _ _
      (let i = value_at f n in let j = value_at a (suc i) in let end = put D (suc j) t (te.app place (atom i) (atom j)) rest in let h = making-weight D N f n (making D N a (suc i) end) in let g = making-weight D N a (suc i) end in omega (arith, h, g))
      (λ b e. let m = past_built b n in let i = value_at a m in let o = building D b place t (type_of a) n i in let end = put D (suc i) t o rest in
      let s = beginning-weight N b n (weighed f (making D N a m end)) in let w = weighed-weight f a (making D N a m end) (not-called f a (by_building b) e tt) in let h = making-weight D N a m end in let g = building-weight D b place t (type_of a) n i in omega (arith, s, w, h, g))
      (λ p u e. let m = past_tuple a n in let end = put D m t (te.prim (Some place) p (scoped D u) (tuple_atoms a n)) rest in
      let w = weighed-weight f a (making_tuple D N a n end) (not-called f a (by_performing p u) e tt) in let h = tuple-weight D N a n end (arity p) (performed-tuple f a p u e) in omega (arith, w, h))
  making-weight D N (case_exp place t e rs) n rest =
      let i = value_at e n in let j = past_rules rs (suc i) in let x = making_rule D N rs (type_of e) (suc i) i rest in let y = put D j t (te.block (rules D N rs (type_of e) t (suc i) i (initial match_name))) rest in
      let h = making-weight D N e n (if is_direct rs then x else y) in
      let g = direct-weight (is_direct rs) (rules_weight rs + W rest) x y (λ d. rule-weight D N rs d (type_of e) (suc i) i rest) (let l = rules-weight D N rs (type_of e) t (suc i) i (initial match_name) in omega (arith, l)) in
      omega (arith, h, g)
  making-weight D N (chain_exp b t c) n rest =
      let h = links-weight D N c b n in let d = otherwise-weight D (past_chain c n) bool_type n (initial match_name) in omega (arith, h, d)
  making-weight D N (handle_exp t e rs) n rest =
      let i = value_at e n in
      let h = making-weight D N e n (te.ret (atom i)) in
      let g = rules-weight D N rs exception_type t (suc (suc i)) (suc i) again in
      omega (arith, h, g)
  making-weight D N (raise_exp t e) n rest = let h = making-weight D N e n (put D (suc (value_at e n)) t (te.raise (atom (value_at e n))) rest) in omega (arith, h)
  making-weight D N (fn_exp t f) n rest = let h = fun-weight D N f n in omega (arith, h)
  making-weight D N (counted_exp j t e) n rest = let h = making-weight D N e n rest in omega (arith, h)

  rule-weight : (D : List Quantified) (N : Names) (rs : Rules) → is_direct rs ≡ true → (u : Typ) (n a : ℕ) (rest : Tests) → W (making_rule D N rs u n a rest) ≡ rules_weight rs + W rest
  rule-weight D N no_rules d u n a rest = absurd (cc)
  rule-weight D N (a_rule p e no_rules) d u n a rest = let h = making-weight D (spots_named (spots p u n a no_spots) N) e n rest in omega (arith, h)
  rule-weight D N (a_rule p e (a_rule q f rs)) d u n a rest = absurd (cc)

  tuple-weight : (D : List Quantified) (N : Names) (e : Exp) (n : ℕ) (rest : Tests) (k : ℕ) → is_tuple k e ≡ true → W (making_tuple D N e n rest) ≡ weight e + W rest
  tuple-weight D N (fields_exp t fs) n rest k h = fields-weight D N fs n rest
  tuple-weight D N (counted_exp j t e) n rest k h = let g = tuple-weight D N e n rest k h in omega (arith, g)
  tuple-weight D N (constant_exp l t) n rest k h = absurd (cc)
  tuple-weight D N (variable_exp x ts t) n rest k h = absurd (cc)
  tuple-weight D N (own_exp x t) n rest k h = absurd (cc)
  tuple-weight D N (con_exp c y ts t) n rest k h = absurd (cc)
  tuple-weight D N (ref_exp u t) n rest k h = absurd (cc)
  tuple-weight D N (exn_exp x t) n rest k h = absurd (cc)
  tuple-weight D N (prim_exp p ts t) n rest k h = absurd (cc)
  tuple-weight D N (let_exp t ds e) n rest k h = absurd (cc)
  tuple-weight D N (app_exp place t f a) n rest k h = absurd (cc)
  tuple-weight D N (case_exp place t e rs) n rest k h = absurd (cc)
  tuple-weight D N (chain_exp b t c) n rest k h = absurd (cc)
  tuple-weight D N (handle_exp t e rs) n rest k h = absurd (cc)
  tuple-weight D N (raise_exp t e) n rest k h = absurd (cc)
  tuple-weight D N (fn_exp t f) n rest k h = absurd (cc)

  fields-weight : (D : List Quantified) (N : Names) (fs : Fields) (n : ℕ) (rest : Tests) → W (making_all D N fs n rest) ≡ fields_weight fs + W rest
  fields-weight D N no_fields n rest = omega arith
  fields-weight D N (a_field l e fs) n rest =
      let i = suc (value_at e n) in
      let h = making-weight D N e n (making_all D N fs i rest) in
      let g = fields-weight D N fs i rest in
      omega (arith, h, g)

  links-weight : (D : List Quantified) (N : Names) (c : Chain) (b : Bool) (n : ℕ) → W (links D N c b n) ≡ chain_weight c
  links-weight D N (only e) b n = let h = making-weight D N e n (te.ret (atom (value_at e n))) in omega (arith, h)
  links-weight D N (link e c) b n =
      let i = value_at e n in
      let h = making-weight D N e n (te.switch (atom i) bool_type (te.arm (te.is_con (truth_number b)) (links D N c b (suc i)) (te.arm (te.is_con (truth_number (not b))) (te.ret (atom i)) te.no_arms))) in
      let g = links-weight D N c b (suc i) in
      omega (arith, h, g)

  rules-weight : (D : List Quantified) (N : Names) (rs : Rules) (u t : Typ) (n a : ℕ) (o : Otherwise) → W (rules D N rs u t n a o) ≡ rules_weight rs
  rules-weight D N no_rules u t n a o = otherwise-weight D n t a o
  rules-weight D N (a_rule p e rs) u t n a o =
      let i = past_pat p n in let j = value_at e i in let M = spots_named (spots p u n a no_spots) N in
      let h = tests-weight D N p u n a (making D M e i (te.ret (atom j))) in
      let g = making-weight D M e i (te.ret (atom j)) in
      let d = rules-weight D N rs u t (suc j) a o in
      omega (arith, h, g, d)

  fun-weight : (D : List Quantified) (N : Names) (f : Fun) (n : ℕ) → plain_weight.fun_weight (function D N f n) ≡ fun_weight f
  fun-weight D N (last x t e) n = let h = making-weight D (named x n N) e (suc n) (te.ret (atom (value_at e (suc n)))) in omega (arith, h)
  fun-weight D N (by_rules place t u rs) n = rules-weight D N rs t u (suc n) n (initial match_name)
  fun-weight D N (more x t f) n = fun-weight D (named x n N) f (suc n)

  functions-weight : (D : List Quantified) (N : Names) (fs : Funs) (b n : ℕ) → plain_weight.funs_weight (functions D N fs b n) ≡ funs_weight fs
  functions-weight D N no_funs b n = refl
  functions-weight D N (a_fun xs t f fs) b n =
      let h = fun-weight D N f n in
      let g = functions-weight D N fs (suc b) (past_fun f n) in
      omega (arith, h, g)

  bindings-weight : (D : List Quantified) (N : Names) (qs : List Quantified) (bs : Binds) (n : ℕ) (rest : Tests) → W (bindings D N qs bs n rest) ≡ binds_weight bs + W rest
  bindings-weight D N qs no_binds n rest = omega arith
  bindings-weight D N qs (a_bind place b p t e bs) n rest =
      let s = shape qs b p in let i = value_at e n in let j = past_pat p (suc i) in let E = qs ++ D in let m = past_shape s p t i in
      let next = bindings D N qs bs m rest in let end = together E (spots p t (suc i) i no_spots) j in
      let one : W (making D N e n (tests D N p t (suc i) i next)) ≡ weight e + W next = let h = making-weight D N e n (tests D N p t (suc i) i next) in let g = tests-weight D N p t (suc i) i next in omega (arith, h, g) in
      let two : W (making E N e n (te.ret (atom i))) ≡ weight e = let h = making-weight E N e n (te.ret (atom i)) in omega (arith, h) in
      let three : W (making E N e n (tests E N p t (suc i) i end)) ≡ weight e = let h = making-weight E N e n (tests E N p t (suc i) i end) in let g = tests-weight E N p t (suc i) i end in omega (arith, h, g) in
      let h = shaped-weight s D qs p t i (weight e) (making D N e n (tests D N p t (suc i) i next)) (making E N e n (te.ret (atom i))) (making E N e n (tests E N p t (suc i) i end)) next one two three in
      let g = bindings-weight D N qs bs m rest in
      omega (arith, h, g)

  decs-weight : (D : List Quantified) (N : Names) (ds : Decs) (n : ℕ) (rest : Tests) → W (decs D N ds n rest) ≡ decs_weight ds + W rest
  decs-weight D N no_decs n rest = omega arith
  decs-weight D N (val_dec qs bs fs ds) n rest =
      let rs = unclassed qs in
      let b = past_binds rs bs n in let m = past_group fs b in let j = past_funs fs m in
      let group = functions (rs ++ D) (funs_named fs b N) fs b m in let later = decs D (val_named rs bs fs n N) ds j rest in
      let h = bindings-weight D N rs bs n (grouped rs group later) in
      let g = grouped-weight rs group later in
      let d = functions-weight (rs ++ D) (funs_named fs b N) fs b m in
      let l = decs-weight D (val_named rs bs fs n N) ds j rest in
      omega (arith, h, g, d, l)
  decs-weight D N (exception_dec x identifier t ds) n rest = decs-weight D (named x n N) ds (suc n) rest
  decs-weight D N (counted_dec j ds) n rest = let h = decs-weight D N ds n rest in omega (arith, h)

pub run-weight : (ds : Decs) → plain_weight.weight (compile ds) ≡ decs_weight ds
run-weight ds =
    let j = past_decs ds 1 in
    let h = decs-weight [] no_names ds 1 (put [] j unit_type (te.make_record unit_type te.no_row) (te.ret (atom j))) in
    omega (arith, h)
