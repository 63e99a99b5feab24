-- The compiled program makes the exceptions of the program, in their order.
use Rattle.std.proofs.Common.{if◌then◌else◌, ◌≡◌, ℕ, suc, Bool, true, not, List, [], ◌∷◌, ◌++◌, Some, refl, ap, ◌∙◌, false}
use Rattle.mlc_base.specs.declared.place.Place.{Place}
use Rattle.mlc_prims.specs.declared.basis.BasisPrimitive.{BasisPrimitive}
use Rattle.ty_core.specs.Types.{Typ}
use Rattle.ty_core.specs.declared.scheme.Quantified.{Quantified}
use Rattle.ir_poly.specs.of_ir_values.Values.{truth_number}
use Rattle.ir_poly.specs.of_ir_values.Primitives.{match_name, bind_name}
use Rattle.ir_poly.specs.of_ir_plain.Tree as te
use Rattle.ir_poly.specs.Prog.{Pat, any_pat, variable_pat, constant_pat, con_pat, con_of_pat, ref_of_pat, exn_pat, exn_of_pat, fields_pat, as_pat, PatFields, no_pats, a_pat, Exp, constant_exp, variable_exp, own_exp, con_exp, ref_exp, exn_exp, prim_exp, fields_exp, let_exp, app_exp, case_exp, chain_exp, handle_exp, raise_exp, fn_exp, counted_exp, Fields, no_fields, a_field, Chain, only, link, Rules, no_rules, a_rule, Fun, last, by_rules, more, Decs, no_decs, val_dec, exception_dec, counted_dec, Binds, no_binds, a_bind, Funs, no_funs, a_fun, type_of}
use Rattle.ir_poly.specs.Tests.{poly, Tests}
use Rattle.ir_poly.specs.Types.{unit_type}
use Rattle.match_compile.specs.Exceptions.{made, fields_made, chain_made, rules_made, fun_made, decs_made, binds_made, funs_made, tests_made, op_made, te_fun_made, te_funs_made}
use Rattle.match_compile.specs.Compile.{unclassed, Names, no_names, named, funs_named, past_group, scoped, bool_type, exception_type, atom, put, Otherwise, again, initial, otherwise, Spots, no_spots, spot, spots, spots_named, past_pat, tests, field_tests, Shape, plain, alone, recorded, shape, record_type, together, split, past_shape, shaped, grouped, Built, a_con, a_ref, an_exn, Way, by_call, by_building, by_performing, way, weighed, past_built, beginning, building, along, is_direct, value_at, past_tuple, past_fields, past_chain, past_rules, past_decs, past_binds, past_fun, past_funs, val_named, decs_named, field_row, sorted_row, tuple_atoms, is_tuple, arity, making, making_rule, making_tuple, making_all, links, rules, function, functions, bindings, decs, compile}
use Rattle.match_compile.proofs.Keeps.{performed-tuple}
use Rattle.match_compile.proofs.Weights.{NotCalled, not-called}

abbrev X : Tests → List ℕ → List ℕ
X e us = tests_made {F = poly} e us

mutual
  tests-made : (D : List Quantified) (N : Names) (p : Pat) (t : Typ) (n a : ℕ) (rest : Tests) (us : List ℕ) → X (tests D N p t n a rest) us ≡ X rest us
  tests-made D N any_pat t n a rest us = refl
  tests-made D N (variable_pat x) t n a rest us = refl
  tests-made D N (constant_pat l) t n a rest us = refl
  tests-made D N (con_pat c) t n a rest us = refl
  tests-made D N (con_of_pat c u p) t n a rest us = tests-made D N p u (suc n) n rest us
  tests-made D N (ref_of_pat u p) t n a rest us = tests-made D N p u (suc n) n rest us
  tests-made D N (exn_pat x) t n a rest us = refl
  tests-made D N (exn_of_pat x u p) t n a rest us = tests-made D N p u (suc (suc n)) (suc n) rest us
  tests-made D N (fields_pat further ps) t n a rest us = field-tests-made D N ps t n a rest us
  tests-made D N (as_pat x p) t n a rest us = tests-made D N p t n a rest us

  field-tests-made : (D : List Quantified) (N : Names) (ps : PatFields) (t : Typ) (n a : ℕ) (rest : Tests) (us : List ℕ) → X (field_tests D N ps t n a rest) us ≡ X rest us
  field-tests-made D N no_pats t n a rest us = refl
  field-tests-made D N (a_pat l u p ps) t n a rest us =
      let j = past_pat p (suc n) in tests-made D N p u (suc n) n (field_tests D N ps t j a rest) us ∙ field-tests-made D N ps t j a rest us

split-made : (D qs : List Quantified) (u : Typ) (r : ℕ) (vs : Spots) (l j : ℕ) (rest : Tests) (us : List ℕ) → X (split D qs u r vs l j rest) us ≡ X rest us
split-made D qs u r no_spots l j rest us = refl
split-made D qs u r (spot x a t vs) l j rest us = split-made D qs u r vs (suc l) (suc (suc (suc j))) rest us

otherwise-made : (D : List Quantified) (n : ℕ) (t : Typ) (a : ℕ) (o : Otherwise) (us : List ℕ) → X (otherwise D n t a o) us ≡ us
otherwise-made D n t a again us = refl
otherwise-made D n t a (initial i) us = refl

-- f is what the binding's expression makes
shaped-made : (s : Shape) (D qs : List Quantified) (p : Pat) (t : Typ) (i : ℕ) (f : List ℕ → List ℕ) (plainly value all rest : Tests) (us : List ℕ) → X plainly us ≡ f (X rest us) → ((vs : List ℕ) → X value vs ≡ f vs) → ((vs : List ℕ) → X all vs ≡ f vs) → X (shaped s D qs p t i plainly value all rest) us ≡ f (X rest us)
shaped-made plain D qs p t i f plainly value all rest us h g d = h
shaped-made (alone x) D qs p t i f plainly value all rest us h g d = g (X rest us)
shaped-made recorded D qs p t i f plainly value all rest us h g d =
    let vs = spots p t (suc i) i no_spots in let j = past_pat p (suc i) in let u = record_type vs in let later = split D qs u (suc (suc j)) vs 1 (suc (suc (suc j))) rest in
    d (X (otherwise (qs ++ D) (suc j) u i (initial bind_name)) (X later us)) ∙ ap f (otherwise-made (qs ++ D) (suc j) u i (initial bind_name) (X later us) ∙ split-made D qs u (suc (suc j)) vs 1 (suc (suc (suc j))) rest us)

weighed-made : (f a : Exp) (rest : Tests) (us : List ℕ) → NotCalled (way f a) → X (weighed f rest) us ≡ made f (X rest us)
weighed-made (con_exp c y ts t) a rest us h = refl
weighed-made (ref_exp v t) a rest us h = refl
weighed-made (exn_exp x t) a rest us h = refl
weighed-made (prim_exp p ts t) a rest us h = refl
weighed-made (counted_exp n t f) a rest us h = weighed-made f a rest us h
weighed-made (constant_exp l t) a rest us h = absurd h
weighed-made (variable_exp x ts t) a rest us h = absurd h
weighed-made (own_exp x t) a rest us h = absurd h
weighed-made (fields_exp t fs) a rest us h = absurd h
weighed-made (let_exp t ds e) a rest us h = absurd h
weighed-made (app_exp place t f g) a rest us h = absurd h
weighed-made (case_exp place t e rs) a rest us h = absurd h
weighed-made (chain_exp b t c) a rest us h = absurd h
weighed-made (handle_exp t e rs) a rest us h = absurd h
weighed-made (raise_exp t e) a rest us h = absurd h
weighed-made (fn_exp t f) a rest us h = absurd h

beginning-made : (N : Names) (b : Built) (n : ℕ) (rest : Tests) (us : List ℕ) → X (beginning N b n rest) us ≡ X rest us
beginning-made N (a_con c) n rest us = refl
beginning-made N (a_ref u) n rest us = refl
beginning-made N (an_exn x) n rest us = refl

building-made : (D : List Quantified) (b : Built) (place : Place) (t u : Typ) (n i : ℕ) (us : List ℕ) → op_made {F = poly} (building D b place t u n i) us ≡ us
building-made D (a_con c) place t u n i us = refl
building-made D (a_ref v) place t u n i us = refl
building-made D (an_exn x) place t u n i us = refl

along-made : (y : Way) (called : Tests) (built : Built → Tests) (done : BasisPrimitive → Typ → Tests) (us vs : List ℕ) → X called us ≡ vs → ((b : Built) → y ≡ by_building b → X (built b) us ≡ vs) → ((p : BasisPrimitive) (u : Typ) → y ≡ by_performing p u → X (done p u) us ≡ vs) → X (along y called built done) us ≡ vs
along-made by_call called built done us vs h g d = h
along-made (by_building b) called built done us vs h g d = g b refl
along-made (by_performing p u) called built done us vs h g d = d p u refl

direct-made : (b : Bool) (x y : Tests) (us vs : List ℕ) → (b ≡ true → X x us ≡ vs) → X y us ≡ vs → X (if b then x else y) us ≡ vs
direct-made true x y us vs h g = h refl
direct-made false x y us vs h g = g

grouped-made : (qs : List Quantified) (fs : te.Funs poly) (rest : Tests) (us : List ℕ) → X (grouped qs fs rest) us ≡ te_funs_made fs (X rest us)
grouped-made qs te.no_funs rest us = refl
grouped-made qs (te.fun x t f fs) rest us = refl

mutual
  making-made : (D : List Quantified) (N : Names) (e : Exp) (n : ℕ) (rest : Tests) (us : List ℕ) → X (making D N e n rest) us ≡ made e (X rest us)
  making-made D N (constant_exp l t) n rest us = refl
  making-made D N (variable_exp x ts t) n rest us = refl
  making-made D N (own_exp x t) n rest us = refl
  making-made D N (con_exp c y ts t) n rest us = refl
  making-made D N (ref_exp u t) n rest us = refl
  making-made D N (exn_exp x t) n rest us = refl
  making-made D N (prim_exp p ts t) n rest us = refl
  making-made D N (fields_exp t fs) n rest us = fields-made D N fs n (put D (past_fields fs n) t (te.make_record (scoped D t) (sorted_row (field_row fs n))) rest) us
  making-made D N (let_exp t ds e) n rest us =
      let i = past_decs ds n in let j = value_at e i in let M = decs_named ds n N in let vs = X (otherwise D (suc j) t n (initial bind_name)) (X rest us) in
      decs-made D N ds n (making D M e i (te.ret (atom j))) vs ∙ ap (decs_made ds) (making-made D M e i (te.ret (atom j)) vs ∙ ap (made e) (otherwise-made D (suc j) t n (initial bind_name) (X rest us)))
  making-made D N (app_exp place t f a) n rest us =
      along-made (way f a) _ _ _ us (made f (made a (X rest us)))
      (let i = value_at f n in let j = value_at a (suc i) in let end = put D (suc j) t (te.app place (atom i) (atom j)) rest in making-made D N f n (making D N a (suc i) end) us ∙ ap (made f) (making-made D N a (suc i) end us))
      (λ b e. let m = past_built b n in let i = value_at a m in let o = building D b place t (type_of a) n i in let end = put D (suc i) t o rest in
      beginning-made N b n (weighed f (making D N a m end)) us ∙ (weighed-made f a (making D N a m end) us (not-called f a (by_building b) e tt) ∙ ap (made f) (making-made D N a m end us ∙ ap (made a) (building-made D b place t (type_of a) n i (X rest us)))))
      (λ p u e. let m = past_tuple a n in let end = put D m t (te.prim (Some place) p (scoped D u) (tuple_atoms a n)) rest in
      weighed-made f a (making_tuple D N a n end) us (not-called f a (by_performing p u) e tt) ∙ ap (made f) (tuple-made D N a n end us (arity p) (performed-tuple f a p u e)))
  making-made D N (case_exp place t e rs) n rest us =
      let i = value_at e n in let j = past_rules rs (suc i) in let x = making_rule D N rs (type_of e) (suc i) i rest in let y = put D j t (te.block (rules D N rs (type_of e) t (suc i) i (initial match_name))) rest in
      making-made D N e n (if is_direct rs then x else y) us
      ∙ ap (made e) (direct-made (is_direct rs) x y us (rules_made rs (X rest us)) (λ d. rule-made D N rs d (type_of e) (suc i) i rest us) (rules-made D N rs (type_of e) t (suc i) i (initial match_name) (X rest us)))
  making-made D N (chain_exp b t c) n rest us =
      links-made D N c b n (X (otherwise D (past_chain c n) bool_type n (initial match_name)) (X rest us)) ∙ ap (chain_made c) (otherwise-made D (past_chain c n) bool_type n (initial match_name) (X rest us))
  making-made D N (handle_exp t e rs) n rest us =
      let i = value_at e n in
      making-made D N e n (te.ret (atom i)) (X (rules D N rs exception_type t (suc (suc i)) (suc i) again) (X rest us)) ∙ ap (made e) (rules-made D N rs exception_type t (suc (suc i)) (suc i) again (X rest us))
  making-made D N (raise_exp t e) n rest us = making-made D N e n (put D (suc (value_at e n)) t (te.raise (atom (value_at e n))) rest) us
  making-made D N (fn_exp t f) n rest us = fun-made D N f n (X rest us)
  making-made D N (counted_exp j t e) n rest us = making-made D N e n rest us

  rule-made : (D : List Quantified) (N : Names) (rs : Rules) → is_direct rs ≡ true → (u : Typ) (n a : ℕ) (rest : Tests) (us : List ℕ) → X (making_rule D N rs u n a rest) us ≡ rules_made rs (X rest us)
  rule-made D N no_rules d u n a rest us = absurd (cc)
  rule-made D N (a_rule p e no_rules) d u n a rest us = making-made D (spots_named (spots p u n a no_spots) N) e n rest us
  rule-made D N (a_rule p e (a_rule q f rs)) d u n a rest us = absurd (cc)

  tuple-made : (D : List Quantified) (N : Names) (e : Exp) (n : ℕ) (rest : Tests) (us : List ℕ) (k : ℕ) → is_tuple k e ≡ true → X (making_tuple D N e n rest) us ≡ made e (X rest us)
  tuple-made D N (fields_exp t fs) n rest us k h = fields-made D N fs n rest us
  tuple-made D N (counted_exp j t e) n rest us k h = tuple-made D N e n rest us k h
  tuple-made D N (constant_exp l t) n rest us k h = absurd (cc)
  tuple-made D N (variable_exp x ts t) n rest us k h = absurd (cc)
  tuple-made D N (own_exp x t) n rest us k h = absurd (cc)
  tuple-made D N (con_exp c y ts t) n rest us k h = absurd (cc)
  tuple-made D N (ref_exp u t) n rest us k h = absurd (cc)
  tuple-made D N (exn_exp x t) n rest us k h = absurd (cc)
  tuple-made D N (prim_exp p ts t) n rest us k h = absurd (cc)
  tuple-made D N (let_exp t ds e) n rest us k h = absurd (cc)
  tuple-made D N (app_exp place t f a) n rest us k h = absurd (cc)
  tuple-made D N (case_exp place t e rs) n rest us k h = absurd (cc)
  tuple-made D N (chain_exp b t c) n rest us k h = absurd (cc)
  tuple-made D N (handle_exp t e rs) n rest us k h = absurd (cc)
  tuple-made D N (raise_exp t e) n rest us k h = absurd (cc)
  tuple-made D N (fn_exp t f) n rest us k h = absurd (cc)

  fields-made : (D : List Quantified) (N : Names) (fs : Fields) (n : ℕ) (rest : Tests) (us : List ℕ) → X (making_all D N fs n rest) us ≡ fields_made fs (X rest us)
  fields-made D N no_fields n rest us = refl
  fields-made D N (a_field l e fs) n rest us = let i = suc (value_at e n) in making-made D N e n (making_all D N fs i rest) us ∙ ap (made e) (fields-made D N fs i rest us)

  links-made : (D : List Quantified) (N : Names) (c : Chain) (b : Bool) (n : ℕ) (us : List ℕ) → X (links D N c b n) us ≡ chain_made c us
  links-made D N (only e) b n us = making-made D N e n (te.ret (atom (value_at e n))) us
  links-made D N (link e c) b n us =
      let i = value_at e n in
      making-made D N e n (te.switch (atom i) bool_type (te.arm (te.is_con (truth_number b)) (links D N c b (suc i)) (te.arm (te.is_con (truth_number (not b))) (te.ret (atom i)) te.no_arms))) us ∙ ap (made e) (links-made D N c b (suc i) us)

  rules-made : (D : List Quantified) (N : Names) (rs : Rules) (u t : Typ) (n a : ℕ) (o : Otherwise) (us : List ℕ) → X (rules D N rs u t n a o) us ≡ rules_made rs us
  rules-made D N no_rules u t n a o us = otherwise-made D n t a o us
  rules-made D N (a_rule p e rs) u t n a o us =
      let i = past_pat p n in let j = value_at e i in let M = spots_named (spots p u n a no_spots) N in let vs = X (rules D N rs u t (suc j) a o) us in
      tests-made D N p u n a (making D M e i (te.ret (atom j))) vs ∙ (making-made D M e i (te.ret (atom j)) vs ∙ ap (made e) (rules-made D N rs u t (suc j) a o us))

  fun-made : (D : List Quantified) (N : Names) (f : Fun) (n : ℕ) (us : List ℕ) → te_fun_made (function D N f n) us ≡ fun_made f us
  fun-made D N (last x t e) n us = making-made D (named x n N) e (suc n) (te.ret (atom (value_at e (suc n)))) us
  fun-made D N (by_rules place t u rs) n us = rules-made D N rs t u (suc n) n (initial match_name) us
  fun-made D N (more x t f) n us = fun-made D (named x n N) f (suc n) us

  functions-made : (D : List Quantified) (N : Names) (fs : Funs) (b n : ℕ) (us : List ℕ) → te_funs_made (functions D N fs b n) us ≡ funs_made fs us
  functions-made D N no_funs b n us = refl
  functions-made D N (a_fun xs t f fs) b n us = fun-made D N f n (te_funs_made (functions D N fs (suc b) (past_fun f n)) us) ∙ ap (fun_made f) (functions-made D N fs (suc b) (past_fun f n) us)

  bindings-made : (D : List Quantified) (N : Names) (qs : List Quantified) (bs : Binds) (n : ℕ) (rest : Tests) (us : List ℕ) → X (bindings D N qs bs n rest) us ≡ binds_made bs (X rest us)
  bindings-made D N qs no_binds n rest us = refl
  bindings-made D N qs (a_bind place b p t e bs) n rest us =
      let s = shape qs b p in let i = value_at e n in let j = past_pat p (suc i) in let E = qs ++ D in let m = past_shape s p t i in
      let next = bindings D N qs bs m rest in let end = together E (spots p t (suc i) i no_spots) j in
      shaped-made s D qs p t i (made e) (making D N e n (tests D N p t (suc i) i next)) (making E N e n (te.ret (atom i))) (making E N e n (tests E N p t (suc i) i end)) next us
      (making-made D N e n (tests D N p t (suc i) i next) us ∙ ap (made e) (tests-made D N p t (suc i) i next us))
      (λ vs. making-made E N e n (te.ret (atom i)) vs)
      (λ vs. making-made E N e n (tests E N p t (suc i) i end) vs ∙ ap (made e) (tests-made E N p t (suc i) i end vs))
      ∙ ap (made e) (bindings-made D N qs bs m rest us)

  decs-made : (D : List Quantified) (N : Names) (ds : Decs) (n : ℕ) (rest : Tests) (us : List ℕ) → X (decs D N ds n rest) us ≡ decs_made ds (X rest us)
  decs-made D N no_decs n rest us = refl
  decs-made D N (val_dec qs bs fs ds) n rest us =
      let rs = unclassed qs in
      let b = past_binds rs bs n in let m = past_group fs b in let j = past_funs fs m in
      let group = functions (rs ++ D) (funs_named fs b N) fs b m in let later = decs D (val_named rs bs fs n N) ds j rest in
      bindings-made D N rs bs n (grouped rs group later) us ∙ ap (binds_made bs) (grouped-made rs group later us ∙ (functions-made (rs ++ D) (funs_named fs b N) fs b m (X later us) ∙ ap (funs_made fs) (decs-made D (val_named rs bs fs n N) ds j rest us)))
  decs-made D N (exception_dec x identifier t ds) n rest us = ap (λ vs. identifier ∷ vs) (decs-made D (named x n N) ds (suc n) rest us)
  decs-made D N (counted_dec j ds) n rest us = decs-made D N ds n rest us

pub run-made : (ds : Decs) (us : List ℕ) → tests_made (compile ds) us ≡ decs_made ds us
run-made ds us = let j = past_decs ds 1 in decs-made [] no_names ds 1 (put [] j unit_type (te.make_record unit_type te.no_row) (te.ret (atom j))) us
