-- New variables are numbered upwards.
use Rattle.std.proofs.Common.{◌≡◌, ℕ, suc, ◌<◌, ◌≤◌, Bool, true, false, List, if◌then◌else◌, nat_eq, refl, arith}
use Rattle.std.proofs.lemmas.Bool.{eqb-true}
use Rattle.mlc_prims.specs.declared.basis.BasisPrimitive.{BasisPrimitive}
use Rattle.ty_core.specs.Types.{Typ}
use Rattle.ty_core.specs.declared.scheme.Quantified.{Quantified}
use Rattle.ir_poly.specs.Prog.{Pat, any_pat, variable_pat, constant_pat, con_pat, con_of_pat, ref_of_pat, exn_pat, exn_of_pat, fields_pat, as_pat, PatFields, no_pats, a_pat, Exp, constant_exp, variable_exp, own_exp, con_exp, ref_exp, exn_exp, prim_exp, fields_exp, let_exp, app_exp, case_exp, chain_exp, handle_exp, raise_exp, fn_exp, counted_exp, Fields, no_fields, a_field, Chain, only, link, Rules, no_rules, a_rule, Fun, last, by_rules, more, Decs, no_decs, val_dec, exception_dec, counted_dec, Binds, no_binds, a_bind, Funs, no_funs, a_fun}
use Rattle.match_compile.specs.Compile.{unclassed, past_group, Spots, no_spots, spot, spots, past_pat, past_pats, past_split, Shape, plain, alone, recorded, shape, past_shape, Built, a_con, a_ref, an_exn, Way, by_call, by_building, by_performing, way, past_built, along, is_direct, value_at, value_of_rule, past_tuple, past_fields, past_chain, past_rules, past_fun, past_decs, past_binds, past_funs}

pub different : (x y : ℕ) → (x ≡ y → ⊥) → nat_eq x y ≡ false
different x y h = go (nat_eq x y) refl
  where
    go : (b : Bool) → nat_eq x y ≡ b → b ≡ false
    go true e = absurd (h (eqb-true x y e))
    go false e = refl

pub le-trans : (a b c : ℕ) → a ≤ b → b ≤ c → a ≤ c
le-trans a b c h k = omega (arith, h, k)

pub le-suc : (a b : ℕ) → a ≤ b → a ≤ suc b
le-suc a b h = omega (arith, h)

pub le-refl : (a : ℕ) → a ≤ a
le-refl a = omega arith

pub le-less : (a b : ℕ) → suc a ≤ b → a ≤ b
le-less a b h = omega (arith, h)

pub less-of : (a n m : ℕ) → a < n → n ≤ m → a < m
less-of a n m h k = omega (arith, h, k)

mutual
  pub pat-up : (p : Pat) (n : ℕ) → n ≤ past_pat p n
  pat-up any_pat n = le-refl n
  pat-up (variable_pat x) n = le-refl n
  pat-up (constant_pat l) n = le-refl n
  pat-up (con_pat c) n = le-refl n
  pat-up (con_of_pat c u p) n = le-less _ _ (pat-up p (suc n))
  pat-up (ref_of_pat u p) n = le-less _ _ (pat-up p (suc n))
  pat-up (exn_pat x) n = le-suc _ _ (le-refl n)
  pat-up (exn_of_pat x u p) n = le-less _ _ (le-less _ _ (pat-up p (suc (suc n))))
  pat-up (fields_pat further ps) n = pats-up ps n
  pat-up (as_pat x p) n = pat-up p n

  pub pats-up : (ps : PatFields) (n : ℕ) → n ≤ past_pats ps n
  pats-up no_pats n = le-refl n
  pats-up (a_pat l u p ps) n = le-trans _ _ _ (le-less _ _ (pat-up p (suc n))) (pats-up ps (past_pat p (suc n)))

pub group-up : (fs : Funs) (b : ℕ) → b ≤ past_group fs b
group-up no_funs b = le-refl b
group-up (a_fun xs t f fs) b = le-less _ _ (group-up fs (suc b))

pub split-up : (vs : Spots) (k : ℕ) → k ≤ past_split vs k
split-up no_spots k = le-refl k
split-up (spot x a t vs) k = le-less _ _ (le-less _ _ (le-less _ _ (split-up vs (suc (suc (suc k))))))

-- the value's own variable lies below
pub shape-up : (s : Shape) (p : Pat) (t : Typ) (i : ℕ) → suc i ≤ past_shape s p t i
shape-up plain p t i = pat-up p (suc i)
shape-up (alone x) p t i = le-suc _ _ (le-refl (suc i))
shape-up recorded p t i =
    let j = past_pat p (suc i) in
    le-trans _ _ _ (pat-up p (suc i)) (le-less _ _ (le-less _ _ (le-less _ _ (split-up (spots p t (suc i) i no_spots) (suc (suc (suc j)))))))

pub built-up : (b : Built) (n : ℕ) → n ≤ past_built b n
built-up (a_con c) n = le-refl n
built-up (a_ref u) n = le-refl n
built-up (an_exn x) n = le-suc _ _ (le-refl n)

along-up : (n : ℕ) (w : Way) (called : ℕ) (built : Built → ℕ) (done : BasisPrimitive → Typ → ℕ) → n ≤ called → ((b : Built) → n ≤ built b) → ((p : BasisPrimitive) (u : Typ) → n ≤ done p u) → n ≤ along w called built done
along-up n by_call called built done h k l = h
along-up n (by_building b) called built done h k l = k b
along-up n (by_performing p u) called built done h k l = l p u

if-up : (n : ℕ) (b : Bool) (x y : ℕ) → n ≤ x → n ≤ y → n ≤ (if b then x else y)
if-up n true x y h k = h
if-up n false x y h k = k

mutual
  pub up : (e : Exp) (n : ℕ) → n ≤ value_at e n
  up (constant_exp l t) n = le-refl n
  up (variable_exp x ts t) n = le-refl n
  up (own_exp x t) n = le-refl n
  up (con_exp c y ts t) n = le-refl n
  up (ref_exp u t) n = le-refl n
  up (exn_exp x t) n = le-suc _ _ (le-refl n)
  up (prim_exp p ts t) n = le-refl n
  up (fields_exp t fs) n = fields-up fs n
  up (let_exp t ds e) n = le-suc _ _ (le-suc _ _ (le-trans _ _ _ (decs-up ds n) (up e (past_decs ds n))))
  up (app_exp place t f a) n =
      along-up n (way f a) _ _ _ (le-suc _ _ (le-trans _ _ _ (up f n) (le-less _ _ (up a (suc (value_at f n)))))) (λ b. le-suc _ _ (le-trans _ _ _ (built-up b n) (up a (past_built b n)))) (λ p u. tuple-up a n)
  up (case_exp place t e rs) n = if-up n (is_direct rs) _ _ (le-trans _ _ _ (up e n) (le-less _ _ (rule-up rs (suc (value_at e n))))) (le-trans _ _ _ (up e n) (le-less _ _ (rules-up rs (suc (value_at e n)))))
  up (chain_exp b t c) n = le-suc _ _ (chain-up c n)
  up (handle_exp t e rs) n = le-trans _ _ _ (up e n) (le-less _ _ (le-less _ _ (rules-up rs (suc (suc (value_at e n))))))
  up (raise_exp t e) n = le-suc _ _ (up e n)
  up (fn_exp t f) n = le-less _ _ (fun-up f n)
  up (counted_exp k t e) n = up e n

  pub rule-up : (rs : Rules) (n : ℕ) → n ≤ value_of_rule rs n
  rule-up no_rules n = le-refl n
  rule-up (a_rule p e rs) n = up e n

  pub tuple-up : (e : Exp) (n : ℕ) → n ≤ past_tuple e n
  tuple-up (constant_exp l t) n = le-refl n
  tuple-up (variable_exp x ts t) n = le-refl n
  tuple-up (own_exp x t) n = le-refl n
  tuple-up (con_exp c y ts t) n = le-refl n
  tuple-up (ref_exp u t) n = le-refl n
  tuple-up (exn_exp x t) n = le-refl n
  tuple-up (prim_exp p ts t) n = le-refl n
  tuple-up (fields_exp t fs) n = fields-up fs n
  tuple-up (let_exp t ds e) n = le-refl n
  tuple-up (app_exp place t f a) n = le-refl n
  tuple-up (case_exp place t e rs) n = le-refl n
  tuple-up (chain_exp b t c) n = le-refl n
  tuple-up (handle_exp t e rs) n = le-refl n
  tuple-up (raise_exp t e) n = le-refl n
  tuple-up (fn_exp t f) n = le-refl n
  tuple-up (counted_exp k t e) n = tuple-up e n

  pub fields-up : (fs : Fields) (n : ℕ) → n ≤ past_fields fs n
  fields-up no_fields n = le-refl n
  fields-up (a_field l e fs) n = le-trans _ _ _ (up e n) (le-less _ _ (fields-up fs (suc (value_at e n))))

  pub chain-up : (c : Chain) (n : ℕ) → n ≤ past_chain c n
  chain-up (only e) n = le-suc _ _ (up e n)
  chain-up (link e c) n = le-trans _ _ _ (up e n) (le-less _ _ (chain-up c (suc (value_at e n))))

  pub rules-up : (rs : Rules) (n : ℕ) → n ≤ past_rules rs n
  rules-up no_rules n = le-suc _ _ (le-refl n)
  rules-up (a_rule p e rs) n = le-trans _ _ _ (pat-up p n) (le-trans _ _ _ (up e (past_pat p n)) (le-less _ _ (rules-up rs (suc (value_at e (past_pat p n))))))

  -- the parameter's variable lies below
  pub fun-up : (f : Fun) (n : ℕ) → suc n ≤ past_fun f n
  fun-up (last x t e) n = le-suc _ _ (up e (suc n))
  fun-up (by_rules place t u rs) n = rules-up rs (suc n)
  fun-up (more x t f) n = le-less _ _ (fun-up f (suc n))

  pub decs-up : (ds : Decs) (n : ℕ) → n ≤ past_decs ds n
  decs-up no_decs n = le-refl n
  decs-up (val_dec qs bs fs ds) n =
      let rs = unclassed qs in
      let b = past_binds rs bs n in let m = past_group fs b in
      le-trans _ _ _ (binds-up rs bs n) (le-trans _ _ _ (group-up fs b) (le-trans _ _ _ (funs-up fs m) (decs-up ds (past_funs fs m))))
  decs-up (exception_dec x identifier t ds) n = le-less _ _ (decs-up ds (suc n))
  decs-up (counted_dec k ds) n = decs-up ds n

  pub binds-up : (qs : List Quantified) (bs : Binds) (n : ℕ) → n ≤ past_binds qs bs n
  binds-up qs no_binds n = le-refl n
  binds-up qs (a_bind place b p t e bs) n = le-trans _ _ _ (le-trans _ _ _ (up e n) (le-less _ _ (shape-up (shape qs b p) p t (value_at e n)))) (binds-up qs bs (past_shape (shape qs b p) p t (value_at e n)))

  pub funs-up : (fs : Funs) (n : ℕ) → n ≤ past_funs fs n
  funs-up no_funs n = le-refl n
  funs-up (a_fun xs t f fs) n = le-trans _ _ _ (le-less _ _ (fun-up f n)) (funs-up fs (past_fun f n))
