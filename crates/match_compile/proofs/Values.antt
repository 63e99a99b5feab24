-- What is generalised becomes what can be generalised.
use Rattle.std.proofs.Common.{◌≡◌, ℕ, suc, Bool, true, false, ◌&&◌, List, [], refl}
use Rattle.std.specs.Prelude.{⊤}
use Rattle.mlc_base.specs.declared.place.Place.{Place}
use Rattle.mlc_prims.specs.declared.basis.BasisPrimitive.{BasisPrimitive}
use Rattle.ty_core.specs.Types.{Typ}
use Rattle.ty_core.specs.declared.scheme.Quantified.{Quantified}
use Rattle.ir_poly.specs.of_ir_plain.Tree as te
use Rattle.ir_poly.specs.Prog.{Pat, any_pat, variable_pat, constant_pat, con_pat, con_of_pat, ref_of_pat, exn_pat, exn_of_pat, fields_pat, as_pat, PatFields, no_pats, a_pat, Exp, constant_exp, variable_exp, own_exp, con_exp, ref_exp, exn_exp, prim_exp, fields_exp, let_exp, app_exp, case_exp, chain_exp, handle_exp, raise_exp, fn_exp, counted_exp, Fields, no_fields, a_field, type_of, is_construction, is_value, are_values}
use Rattle.ir_poly.specs.Tests.{Tests}
use Rattle.ir_poly.proofs.ReplaceLemmas.{left-true, right-true}
use Rattle.match_compile.specs.Compile.{Names, scoped, put, past_pat, tests, field_tests, Built, a_con, a_ref, an_exn, Way, by_call, by_building, by_performing, way, weighed, past_built, beginning, building, along, value_at, making, making_all}

and-true : (b : Bool) → b ≡ true → (b && true) ≡ true
and-true true e = refl
and-true false e = absurd (cc)

mutual
  pub tests-value : (D : List Quantified) (N : Names) (p : Pat) (t : Typ) (n k : ℕ) (rest : Tests) → te.is_value rest ≡ true → te.is_value (tests D N p t n k rest) ≡ true
  tests-value D N any_pat t n k rest h = h
  tests-value D N (variable_pat x) t n k rest h = h
  tests-value D N (constant_pat c) t n k rest h = and-true _ h
  tests-value D N (con_pat c) t n k rest h = and-true _ h
  tests-value D N (con_of_pat c u p) t n k rest h = and-true _ (tests-value D N p u (suc n) n rest h)
  tests-value D N (ref_of_pat u p) t n k rest h = tests-value D N p u (suc n) n rest h
  tests-value D N (exn_pat x) t n k rest h = and-true _ h
  tests-value D N (exn_of_pat x u p) t n k rest h = and-true _ (tests-value D N p u (suc (suc n)) (suc n) rest h)
  tests-value D N (fields_pat further ps) t n k rest h = and-true _ (field-tests-value D N ps t n k rest h)
  tests-value D N (as_pat x p) t n k rest h = tests-value D N p t n k rest h

  field-tests-value : (D : List Quantified) (N : Names) (ps : PatFields) (t : Typ) (n k : ℕ) (rest : Tests) → te.is_value rest ≡ true → te.is_value (field_tests D N ps t n k rest) ≡ true
  field-tests-value D N no_pats t n k rest h = h
  field-tests-value D N (a_pat l u p ps) t n k rest h = tests-value D N p u (suc n) n _ (field-tests-value D N ps t (past_pat p (suc n)) k rest h)

-- a constructor or an exception makes its value
abbrev IsMade : Way → Type 0
IsMade by_call = ⊥
IsMade (by_building (a_con c)) = ⊤
IsMade (by_building (a_ref u)) = ⊥
IsMade (by_building (an_exn x)) = ⊤
IsMade (by_performing p u) = ⊥

construction-made : (f a : Exp) → is_construction f ≡ true → IsMade (way f a)
construction-made (con_exp c y ts t) a h = tt
construction-made (exn_exp x t) a h = tt
construction-made (counted_exp n t f) a h = construction-made f a h
construction-made (constant_exp l t) a h = absurd (cc)
construction-made (variable_exp x ts t) a h = absurd (cc)
construction-made (own_exp x t) a h = absurd (cc)
construction-made (ref_exp u t) a h = absurd (cc)
construction-made (prim_exp p ts t) a h = absurd (cc)
construction-made (fields_exp t fs) a h = absurd (cc)
construction-made (let_exp t ds f) a h = absurd (cc)
construction-made (app_exp place t f g) a h = absurd (cc)
construction-made (case_exp place t f rs) a h = absurd (cc)
construction-made (chain_exp b t c) a h = absurd (cc)
construction-made (handle_exp t f rs) a h = absurd (cc)
construction-made (raise_exp t f) a h = absurd (cc)
construction-made (fn_exp t f) a h = absurd (cc)

weighed-value : (f : Exp) (rest : Tests) → te.is_value rest ≡ true → te.is_value (weighed f rest) ≡ true
weighed-value (constant_exp l t) rest h = h
weighed-value (variable_exp x ts t) rest h = h
weighed-value (own_exp x t) rest h = h
weighed-value (con_exp c y ts t) rest h = h
weighed-value (ref_exp v t) rest h = h
weighed-value (exn_exp x t) rest h = h
weighed-value (prim_exp p ts t) rest h = h
weighed-value (fields_exp t fs) rest h = h
weighed-value (let_exp t ds e) rest h = h
weighed-value (app_exp place t f a) rest h = h
weighed-value (case_exp place t e rs) rest h = h
weighed-value (chain_exp b t c) rest h = h
weighed-value (handle_exp t e rs) rest h = h
weighed-value (raise_exp t e) rest h = h
weighed-value (fn_exp t f) rest h = h
weighed-value (counted_exp n t f) rest h = weighed-value f rest h

beginning-value : (N : Names) (b : Built) (n : ℕ) (rest : Tests) → te.is_value rest ≡ true → te.is_value (beginning N b n rest) ≡ true
beginning-value N (a_con c) n rest h = h
beginning-value N (a_ref u) n rest h = h
beginning-value N (an_exn x) n rest h = h

building-value : (D : List Quantified) (b : Built) (place : Place) (t u : Typ) (n i : ℕ) (rest : Tests) → IsMade (by_building b) → te.is_value rest ≡ true → te.is_value (te.let_in (suc i) [] (scoped D t) (building D b place t u n i) rest) ≡ true
building-value D (a_con c) place t u n i rest m h = h
building-value D (a_ref v) place t u n i rest m h = absurd m
building-value D (an_exn x) place t u n i rest m h = h

along-value : (y : Way) (called : Tests) (built : Built → Tests) (done : BasisPrimitive → Typ → Tests) → IsMade y → ((b : Built) → IsMade (by_building b) → te.is_value (built b) ≡ true) → te.is_value (along y called built done) ≡ true
along-value by_call called built done m h = absurd m
along-value (by_building b) called built done m h = h b m
along-value (by_performing p u) called built done m h = absurd m

mutual
  pub value-made : (D : List Quantified) (N : Names) (e : Exp) (n : ℕ) (rest : Tests) → is_value e ≡ true → te.is_value rest ≡ true → te.is_value (making D N e n rest) ≡ true
  value-made D N (constant_exp l t) n rest v h = h
  value-made D N (variable_exp x ts t) n rest v h = h
  value-made D N (own_exp x t) n rest v h = h
  value-made D N (con_exp c y ts t) n rest v h = h
  value-made D N (ref_exp u t) n rest v h = h
  value-made D N (exn_exp x t) n rest v h = h
  value-made D N (prim_exp p ts t) n rest v h = h
  value-made D N (fields_exp t fs) n rest v h = values-made D N fs n _ v h
  value-made D N (app_exp place t f a) n rest v h =
      along-value (way f a) _ _ _ (construction-made f a (left-true (is_construction f) (is_value a) v))
      (λ b m. let j = past_built b n in let i = value_at a j in
      beginning-value N b n _ (weighed-value f _ (value-made D N a j (put D (suc i) t (building D b place t (type_of a) n i) rest) (right-true (is_construction f) (is_value a) v) (building-value D b place t (type_of a) n i rest m h))))
  value-made D N (fn_exp t f) n rest v h = h
  value-made D N (counted_exp k t e) n rest v h = value-made D N e n rest v h
  value-made D N (let_exp t ds e) n rest v h = absurd (cc)
  value-made D N (case_exp place t e rs) n rest v h = absurd (cc)
  value-made D N (chain_exp b t c) n rest v h = absurd (cc)
  value-made D N (handle_exp t e rs) n rest v h = absurd (cc)
  value-made D N (raise_exp t e) n rest v h = absurd (cc)

  values-made : (D : List Quantified) (N : Names) (fs : Fields) (n : ℕ) (rest : Tests) → are_values fs ≡ true → te.is_value rest ≡ true → te.is_value (making_all D N fs n rest) ≡ true
  values-made D N no_fields n rest v h = h
  values-made D N (a_field l e fs) n rest v h = value-made D N e n _ (left-true (is_value e) (are_values fs) v) (values-made D N fs (suc (value_at e n)) rest (right-true (is_value e) (are_values fs) v) h)
