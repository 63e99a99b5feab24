-- Where each variable is bound once, none is bound where it is bound already. As UniqueLemmas of ir_plain.
use Rattle.std.proofs.Common.{◌≡◌, ℕ, ◌+◌, ◌≤◌, Bool, true, false, List, [], ◌∷◌, if◌then◌else◌, nat_eq, refl, sym, ap, subst, arith}
use Rattle.std.proofs.lemmas.Bool.{eq-eqb, eqb-true}
use Rattle.ir_plain.specs.Once.{hit}
use Rattle.ir_plain.specs.Unique.{IsOutside, outside_none, outside_more}
use Rattle.ir_poly.specs.Prog.{Pat, any_pat, variable_pat, constant_pat, con_pat, con_of_pat, ref_of_pat, exn_pat, exn_of_pat, fields_pat, as_pat, PatFields, no_pats, a_pat, Exp, constant_exp, variable_exp, own_exp, con_exp, ref_exp, exn_exp, prim_exp, fields_exp, let_exp, app_exp, case_exp, chain_exp, handle_exp, raise_exp, fn_exp, counted_exp, Fields, no_fields, a_field, Chain, only, link, Rules, no_rules, a_rule, Fun, last, by_rules, more, Decs, no_decs, val_dec, exception_dec, counted_dec, Binds, no_binds, a_bind, Funs, no_funs, a_fun}
use Rattle.ir_poly.specs.ProgOnce.{pat_times, pats_times, list_times, times, fields_times, chain_times, rules_times, fun_times, decs_times, binds_times, funs_times, IsOnce}
use Rattle.prog_unique.specs.Unique.{PatUnique, any_unique, variable_unique, constant_unique, con_unique, con_of_unique, ref_of_unique, exn_unique, exn_of_unique, fields_unique, as_unique, PatsUnique, no_pats_unique, pats_unique, names_onto, funs_onto, NamesAreNew, no_names, new_name, FunsAreNew, no_new_funs, new_funs, IsUnique, constant_exp_unique, variable_exp_unique, own_unique, con_exp_unique, ref_unique, exn_exp_unique, prim_unique, record_unique, let_unique, app_unique, case_unique, chain_unique, handle_unique, raise_unique, fn_unique, counted_unique, FieldsUnique, no_fields_unique, field_unique, ChainUnique, only_unique, link_unique, RulesUnique, no_rules_unique, rule_unique, FunUnique, last_unique, by_rules_unique, more_unique, DecsUnique, no_decs_unique, val_unique, exception_unique, counted_decs_unique, BindsUnique, no_binds_unique, bind_unique, FunsUnique, no_funs_unique, fun_unique}
use Rattle.prog_unique.specs.Laws.{BindsNew}

-- how often it is bound already
abbrev inside : ℕ → List ℕ → ℕ
inside k [] = 0
inside k (y ∷ bs) = hit k y + inside k bs

abbrev number : Bool → ℕ
number c = if c then 1 else 0

-- with what f says beside those that are bound, each is bound at most once
abbrev Fits : List ℕ → (ℕ → ℕ) → Type 0
Fits bs f = (k : ℕ) → inside k bs + f k ≤ 1

outside-one : (b : Bool) (x y : ℕ) → nat_eq y x ≡ b → hit x y ≡ 0 → b ≡ false
outside-one true x y e h = absurd (let same : y ≡ x = eqb-true y x e in let one : hit x y ≡ 1 = ap number (subst (λ z. nat_eq x z ≡ true) (sym same) (eq-eqb x x refl)) in omega (arith, h, one))
outside-one false x y e h = refl

outside : (x : ℕ) (bs : List ℕ) → inside x bs ≡ 0 → IsOutside x bs
outside x [] h = outside_none
outside x (y ∷ bs) h = outside_more (outside-one (nat_eq y x) x y refl (omega (arith, h))) (outside x bs (omega (arith, h)))

self : (x : ℕ) → hit x x ≡ 1
self x = ap number (eq-eqb x x refl)

-- x is bound, beside others
new : (x : ℕ) (bs : List ℕ) (f : ℕ → ℕ) → Fits bs (λ k. hit k x + f k) → IsOutside x bs
new x bs f h = let one = h x in let s = self x in outside x bs (omega (arith, one, s))

-- Patterns: what is bound afterwards, beside what f says.

mutual
  pat-unique : (p : Pat) (bs : List ℕ) (f : ℕ → ℕ) → Fits bs (λ k. pat_times (hit k) p + f k) → (goal : Type 0) → ((bs' : List ℕ) → PatUnique bs p bs' → Fits bs' f → ((k : ℕ) → inside k bs ≤ inside k bs') → goal) → goal
  pat-unique any_pat bs f h goal go = go bs any_unique (λ k. let one = h k in omega (arith, one)) (λ k. omega arith)
  pat-unique (variable_pat x) bs f h goal go = go (x ∷ bs) (variable_unique (new x bs f h)) (λ k. let one = h k in omega (arith, one)) (λ k. omega arith)
  pat-unique (constant_pat l) bs f h goal go = go bs constant_unique (λ k. let one = h k in omega (arith, one)) (λ k. omega arith)
  pat-unique (con_pat c) bs f h goal go = go bs con_unique (λ k. let one = h k in omega (arith, one)) (λ k. omega arith)
  pat-unique (con_of_pat c t p) bs f h goal go = pat-unique p bs f h goal (λ bs' u g l. go bs' (con_of_unique u) g l)
  pat-unique (ref_of_pat t p) bs f h goal go = pat-unique p bs f h goal (λ bs' u g l. go bs' (ref_of_unique u) g l)
  pat-unique (exn_pat x) bs f h goal go = go bs exn_unique (λ k. let one = h k in omega (arith, one)) (λ k. omega arith)
  pat-unique (exn_of_pat x t p) bs f h goal go = pat-unique p bs f h goal (λ bs' u g l. go bs' (exn_of_unique u) g l)
  pat-unique (fields_pat further ps) bs f h goal go = pats-unique ps bs f h goal (λ bs' u g l. go bs' (fields_unique u) g l)
  pat-unique (as_pat x p) bs f h goal go =
      pat-unique p (x ∷ bs) f (λ k. let one = h k in omega (arith, one)) goal
      (λ bs' u g l. go bs' (as_unique (new x bs (λ k. pat_times (hit k) p + f k) (λ k. let one = h k in omega (arith, one))) u) g (λ k. let m = l k in omega (arith, m)))

  pats-unique : (ps : PatFields) (bs : List ℕ) (f : ℕ → ℕ) → Fits bs (λ k. pats_times (hit k) ps + f k) → (goal : Type 0) → ((bs' : List ℕ) → PatsUnique bs ps bs' → Fits bs' f → ((k : ℕ) → inside k bs ≤ inside k bs') → goal) → goal
  pats-unique no_pats bs f h goal go = go bs no_pats_unique (λ k. let one = h k in omega (arith, one)) (λ k. omega arith)
  pats-unique (a_pat l t p ps) bs f h goal go =
      pat-unique p bs (λ k. pats_times (hit k) ps + f k) (λ k. let one = h k in omega (arith, one)) goal
      (λ cs u g m. pats-unique ps cs f g goal (λ bs' v j n. go bs' (pats_unique u v) j (λ k. let a = m k in let b = n k in omega (arith, a, b))))

-- A group's own variables, and those in its bodies.

abbrev heads : ℕ → Funs → ℕ
heads k no_funs = 0
heads k (a_fun xs t f fs) = list_times (hit k) xs + heads k fs

abbrev bodies : ℕ → Funs → ℕ
bodies k no_funs = 0
bodies k (a_fun xs t f fs) = fun_times (hit k) f + bodies k fs

heads-bodies : (k : ℕ) (fs : Funs) → funs_times (hit k) fs ≡ heads k fs + bodies k fs
heads-bodies k no_funs = omega arith
heads-bodies k (a_fun xs t f fs) = let h = heads-bodies k fs in omega (arith, h)

inside-names : (k : ℕ) (xs bs : List ℕ) → inside k (names_onto xs bs) ≡ list_times (hit k) xs + inside k bs
inside-names k [] bs = omega arith
inside-names k (x ∷ xs) bs = let h = inside-names k xs bs in omega (arith, h)

inside-onto : (k : ℕ) (fs : Funs) (bs : List ℕ) → inside k (funs_onto fs bs) ≡ heads k fs + inside k bs
inside-onto k no_funs bs = omega arith
inside-onto k (a_fun xs t f fs) bs = let h = inside-onto k fs bs in let n = inside-names k xs (funs_onto fs bs) in omega (arith, h, n)

names-new : (xs bs : List ℕ) → Fits bs (λ k. list_times (hit k) xs) → NamesAreNew bs xs
names-new [] bs h = no_names
names-new (x ∷ xs) bs h =
    new_name (let one = h x in let s = self x in let d = inside-names x xs bs in outside x (names_onto xs bs) (omega (arith, one, s, d)))
    (names-new xs bs (λ k. let one = h k in omega (arith, one)))

funs-new : (fs : Funs) (bs : List ℕ) → Fits bs (λ k. heads k fs) → FunsAreNew bs fs
funs-new no_funs bs h = no_new_funs
funs-new (a_fun xs t f fs) bs h =
    new_funs (names-new xs (funs_onto fs bs) (λ k. let one = h k in let d = inside-onto k fs bs in omega (arith, one, d))) (funs-new fs bs (λ k. let one = h k in omega (arith, one)))

-- What bindings and declarations leave bound, beside what f says.

record BindsDone (bs cs : List ℕ) (vs : Binds) (f : ℕ → ℕ) : Type 0 where
  after : List ℕ
  unique : BindsUnique bs cs vs after
  fits : Fits after f

record DecsDone (bs : List ℕ) (ds : Decs) (f : ℕ → ℕ) : Type 0 where
  after : List ℕ
  unique : DecsUnique bs ds after
  fits : Fits after f

mutual
  unique : (e : Exp) (bs : List ℕ) → Fits bs (λ k. times (hit k) e) → IsUnique bs e
  unique (constant_exp l t) bs h = constant_exp_unique
  unique (variable_exp x ts t) bs h = variable_exp_unique
  unique (own_exp x t) bs h = own_unique
  unique (con_exp c y ts t) bs h = con_exp_unique
  unique (ref_exp a t) bs h = ref_unique
  unique (exn_exp x t) bs h = exn_exp_unique
  unique (prim_exp p ts t) bs h = prim_unique
  unique (fields_exp t fs) bs h = record_unique (unique-fields fs bs h)
  unique (let_exp t ds e) bs h =
      let d : DecsDone bs ds (λ k. times (hit k) e) = unique-decs ds bs (λ k. times (hit k) e) h in let_unique d.unique (unique e d.after d.fits)
  unique (app_exp place t f a) bs h = app_unique (unique f bs (λ k. let one = h k in omega (arith, one))) (unique a bs (λ k. let one = h k in omega (arith, one)))
  unique (case_exp place t e rs) bs h = case_unique (unique e bs (λ k. let one = h k in omega (arith, one))) (unique-rules rs bs (λ k. let one = h k in omega (arith, one)))
  unique (chain_exp b t c) bs h = chain_unique (unique-chain c bs h)
  unique (handle_exp t e rs) bs h = handle_unique (unique e bs (λ k. let one = h k in omega (arith, one))) (unique-rules rs bs (λ k. let one = h k in omega (arith, one)))
  unique (raise_exp t e) bs h = raise_unique (unique e bs h)
  unique (fn_exp t f) bs h = fn_unique (unique-fun f bs h)
  unique (counted_exp n t e) bs h = counted_unique (unique e bs h)

  unique-fields : (fs : Fields) (bs : List ℕ) → Fits bs (λ k. fields_times (hit k) fs) → FieldsUnique bs fs
  unique-fields no_fields bs h = no_fields_unique
  unique-fields (a_field l e fs) bs h = field_unique (unique e bs (λ k. let one = h k in omega (arith, one))) (unique-fields fs bs (λ k. let one = h k in omega (arith, one)))

  unique-chain : (c : Chain) (bs : List ℕ) → Fits bs (λ k. chain_times (hit k) c) → ChainUnique bs c
  unique-chain (only e) bs h = only_unique (unique e bs h)
  unique-chain (link e c) bs h = link_unique (unique e bs (λ k. let one = h k in omega (arith, one))) (unique-chain c bs (λ k. let one = h k in omega (arith, one)))

  unique-rules : (rs : Rules) (bs : List ℕ) → Fits bs (λ k. rules_times (hit k) rs) → RulesUnique bs rs
  unique-rules no_rules bs h = no_rules_unique
  unique-rules (a_rule p e rs) bs h =
      pat-unique p bs (λ k. times (hit k) e) (λ k. let one = h k in omega (arith, one)) (RulesUnique bs (a_rule p e rs))
      (λ bs' u g l. rule_unique u (unique e bs' g) (unique-rules rs bs (λ k. let one = h k in omega (arith, one))))

  unique-fun : (f : Fun) (bs : List ℕ) → Fits bs (λ k. fun_times (hit k) f) → FunUnique bs f
  unique-fun (last x t e) bs h = last_unique (new x bs (λ k. times (hit k) e) h) (unique e (x ∷ bs) (λ k. let one = h k in omega (arith, one)))
  unique-fun (by_rules place t u rs) bs h = by_rules_unique (unique-rules rs bs h)
  unique-fun (more x t f) bs h = more_unique (new x bs (λ k. fun_times (hit k) f) h) (unique-fun f (x ∷ bs) (λ k. let one = h k in omega (arith, one)))

  unique-funs : (fs : Funs) (bs : List ℕ) → Fits bs (λ k. bodies k fs) → FunsUnique bs fs
  unique-funs no_funs bs h = no_funs_unique
  unique-funs (a_fun xs t f fs) bs h = fun_unique (unique-fun f bs (λ k. let one = h k in omega (arith, one))) (unique-funs fs bs (λ k. let one = h k in omega (arith, one)))

  -- right sides where bs are bound, which are among cs
  unique-binds : (vs : Binds) (bs cs : List ℕ) (f : ℕ → ℕ) → ((k : ℕ) → inside k bs ≤ inside k cs) → Fits cs (λ k. binds_times (hit k) vs + f k) → BindsDone bs cs vs f
  unique-binds no_binds bs cs f i h = record { after = cs; unique = no_binds_unique; fits = λ k. let one = h k in omega (arith, one) }
  unique-binds (a_bind place b p t e vs) bs cs f i h =
      pat-unique p cs (λ k. binds_times (hit k) vs + f k) (λ k. let one = h k in omega (arith, one)) (BindsDone bs cs (a_bind place b p t e vs) f)
      (λ ds u g l. let d : BindsDone bs ds vs f = unique-binds vs bs ds f (λ k. let a = i k in let b = l k in omega (arith, a, b)) g in
      record { after = d.after; unique = bind_unique (unique e bs (λ k. let one = h k in let a = i k in omega (arith, one, a))) u d.unique; fits = d.fits })

  unique-decs : (ds : Decs) (bs : List ℕ) (f : ℕ → ℕ) → Fits bs (λ k. decs_times (hit k) ds + f k) → DecsDone bs ds f
  unique-decs no_decs bs f h = record { after = bs; unique = no_decs_unique; fits = λ k. let one = h k in omega (arith, one) }
  unique-decs (val_dec qs vs fs ds) bs f h =
      let v : BindsDone bs (funs_onto fs bs) vs (λ k. decs_times (hit k) ds + f k) =
      unique-binds vs bs (funs_onto fs bs) (λ k. decs_times (hit k) ds + f k) (λ k. let d = inside-onto k fs bs in omega (arith, d))
      (λ k. let one = h k in let d = inside-onto k fs bs in let s = heads-bodies k fs in omega (arith, one, d, s)) in
      let r : DecsDone v.after ds f = unique-decs ds v.after f v.fits in
      record {
        after = r.after;
        unique = val_unique (funs-new fs bs (λ k. let one = h k in let s = heads-bodies k fs in omega (arith, one, s)))
            (unique-funs fs (funs_onto fs bs) (λ k. let one = h k in let d = inside-onto k fs bs in let s = heads-bodies k fs in omega (arith, one, d, s))) v.unique r.unique;
        fits = r.fits;
      }
  unique-decs (exception_dec x i t ds) bs f h =
      let r : DecsDone (x ∷ bs) ds f = unique-decs ds (x ∷ bs) f (λ k. let one = h k in omega (arith, one)) in
      record { after = r.after; unique = exception_unique (new x bs (λ k. decs_times (hit k) ds + f k) (λ k. let one = h k in omega (arith, one))) r.unique; fits = r.fits }
  unique-decs (counted_dec n ds) bs f h = let r : DecsDone bs ds f = unique-decs ds bs f h in record { after = r.after; unique = counted_decs_unique r.unique; fits = r.fits }

-- where each variable is bound once, none is bound where it is bound already
pub once-unique : (ds : Decs) → IsOnce ds → BindsNew ds
once-unique ds once = let r : DecsDone [] ds (λ k. 0) = unique-decs ds [] (λ k. 0) (λ k. let one = once k in omega (arith, one)) in record { after = r.after; unique = r.unique }
