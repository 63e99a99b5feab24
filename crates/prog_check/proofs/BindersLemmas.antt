-- The variables are distinct exactly where each is bound once.
use Rattle.std.proofs.Common.{◌≡◌, ℕ, ◌+◌, ◌≤◌, Bool, true, false, not, ◌||◌, List, [], ◌∷◌, ◌++◌, nat_eq, if◌then◌else◌, refl, sym, subst, ap, arith}
use Rattle.std.proofs.lemmas.Bool.{eqb-true, eq-eqb, and_parts, and_from, not-true}
use Rattle.ir_poly.specs.of_ir_plain.Once.{hit}
use Rattle.ir_poly.specs.Prog.{Pat, any_pat, variable_pat, constant_pat, con_pat, con_of_pat, ref_of_pat, exn_pat, exn_of_pat, fields_pat, as_pat, PatFields, no_pats, a_pat, Exp, constant_exp, variable_exp, own_exp, con_exp, ref_exp, exn_exp, prim_exp, fields_exp, let_exp, app_exp, case_exp, chain_exp, handle_exp, raise_exp, fn_exp, counted_exp, Fields, no_fields, a_field, Chain, only, link, Rules, no_rules, a_rule, Fun, last, by_rules, more, Decs, no_decs, val_dec, exception_dec, counted_dec, Binds, no_binds, a_bind, Funs, no_funs, a_fun}
use Rattle.ir_poly.specs.ProgOnce.{pat_times, pats_times, list_times, times, fields_times, chain_times, rules_times, fun_times, decs_times, binds_times, funs_times, IsOnce}
use Rattle.prog_check.specs.Binders.{pat_binders, pats_binders, binders, fields_binders, chain_binders, rules_binders, fun_binders, decs_binders, binds_binders, funs_binders, is_in, are_distinct}

module _ (h : ℕ → ℕ) where
  appended : (xs ys : List ℕ) → list_times h (xs ++ ys) ≡ list_times h xs + list_times h ys
  appended [] ys = omega arith
  appended (x ∷ xs) ys = let e = appended xs ys in omega (arith, e)

  both : (a b : ℕ) (xs ys : List ℕ) → a ≡ list_times h xs → b ≡ list_times h ys → a + b ≡ list_times h (xs ++ ys)
  both a b xs ys e k = let j = appended xs ys in omega (arith, e, k, j)

  front : (x b : ℕ) (ys : List ℕ) → b ≡ list_times h ys → h x + b ≡ list_times h (x ∷ ys)
  front x b ys e = ap (λ n. h x + n) e

  mutual
    pat-listed : (p : Pat) → pat_times h p ≡ list_times h (pat_binders p)
    pat-listed any_pat = refl
    pat-listed (variable_pat x) = omega arith
    pat-listed (constant_pat l) = refl
    pat-listed (con_pat c) = refl
    pat-listed (con_of_pat c a p) = pat-listed p
    pat-listed (ref_of_pat a p) = pat-listed p
    pat-listed (exn_pat x) = refl
    pat-listed (exn_of_pat x a p) = pat-listed p
    pat-listed (fields_pat further ps) = pats-listed ps
    pat-listed (as_pat x p) = front x _ (pat_binders p) (pat-listed p)

    pats-listed : (ps : PatFields) → pats_times h ps ≡ list_times h (pats_binders ps)
    pats-listed no_pats = refl
    pats-listed (a_pat l a p ps) = both _ _ (pat_binders p) (pats_binders ps) (pat-listed p) (pats-listed ps)

  mutual
    listed : (e : Exp) → times h e ≡ list_times h (binders e)
    listed (constant_exp l t) = refl
    listed (variable_exp x ts t) = refl
    listed (own_exp x t) = refl
    listed (con_exp c y ts t) = refl
    listed (ref_exp a t) = refl
    listed (exn_exp x t) = refl
    listed (prim_exp p ts t) = refl
    listed (fields_exp t fs) = fields-listed fs
    listed (let_exp t ds e) = both _ _ (decs_binders ds) (binders e) (decs-listed ds) (listed e)
    listed (app_exp place t f a) = both _ _ (binders f) (binders a) (listed f) (listed a)
    listed (case_exp place t e rs) = both _ _ (binders e) (rules_binders rs) (listed e) (rules-listed rs)
    listed (chain_exp b t c) = chain-listed c
    listed (handle_exp t e rs) = both _ _ (binders e) (rules_binders rs) (listed e) (rules-listed rs)
    listed (raise_exp t e) = listed e
    listed (fn_exp t f) = fun-listed f
    listed (counted_exp n t e) = listed e

    fields-listed : (fs : Fields) → fields_times h fs ≡ list_times h (fields_binders fs)
    fields-listed no_fields = refl
    fields-listed (a_field l e fs) = both _ _ (binders e) (fields_binders fs) (listed e) (fields-listed fs)

    chain-listed : (c : Chain) → chain_times h c ≡ list_times h (chain_binders c)
    chain-listed (only e) = listed e
    chain-listed (link e c) = both _ _ (binders e) (chain_binders c) (listed e) (chain-listed c)

    rules-listed : (rs : Rules) → rules_times h rs ≡ list_times h (rules_binders rs)
    rules-listed no_rules = refl
    rules-listed (a_rule p e rs) =
        both _ _ (pat_binders p) (binders e ++ rules_binders rs) (pat-listed p) (both _ _ (binders e) (rules_binders rs) (listed e) (rules-listed rs))

    fun-listed : (f : Fun) → fun_times h f ≡ list_times h (fun_binders f)
    fun-listed (last x a e) = front x _ (binders e) (listed e)
    fun-listed (by_rules place a u rs) = rules-listed rs
    fun-listed (more x a f) = front x _ (fun_binders f) (fun-listed f)

    decs-listed : (ds : Decs) → decs_times h ds ≡ list_times h (decs_binders ds)
    decs-listed no_decs = refl
    decs-listed (val_dec qs bs fs ds) =
        both _ _ (binds_binders bs) (funs_binders fs ++ decs_binders ds) (binds-listed bs) (both _ _ (funs_binders fs) (decs_binders ds) (funs-listed fs) (decs-listed ds))
    decs-listed (exception_dec x i a ds) = front x _ (decs_binders ds) (decs-listed ds)
    decs-listed (counted_dec n ds) = decs-listed ds

    binds-listed : (bs : Binds) → binds_times h bs ≡ list_times h (binds_binders bs)
    binds-listed no_binds = refl
    binds-listed (a_bind place b p t e bs) =
        both _ _ (pat_binders p) (binders e ++ binds_binders bs) (pat-listed p) (both _ _ (binders e) (binds_binders bs) (listed e) (binds-listed bs))

    funs-listed : (fs : Funs) → funs_times h fs ≡ list_times h (funs_binders fs)
    funs-listed no_funs = refl
    funs-listed (a_fun xs t f fs) =
        both _ _ xs (fun_binders f ++ funs_binders fs) refl (both _ _ (fun_binders f) (funs_binders fs) (fun-listed f) (funs-listed fs))

hit-if : (b : Bool) (n : ℕ) → (if b then 1 else 0) + n ≤ 1 → n ≤ 1
hit-if true n h = omega (arith, h)
hit-if false n h = omega (arith, h)

absent : (x : ℕ) (xs : List ℕ) → is_in x xs ≡ false → list_times (hit x) xs ≡ 0
absent x [] e = refl
absent x (y ∷ ys) e = go (nat_eq x y) (absent x ys) e
  where
    go : (b : Bool) → (is_in x ys ≡ false → list_times (hit x) ys ≡ 0) → (b || is_in x ys) ≡ false → (if b then 1 else 0) + list_times (hit x) ys ≡ 0
    go true h e = absurd (cc)
    go false h e = let k = h e in omega (arith, k)

present : (x : ℕ) (xs : List ℕ) → is_in x xs ≡ true → 1 ≤ list_times (hit x) xs
present x [] e = absurd (cc)
present x (y ∷ ys) e = go (nat_eq x y) (present x ys) e
  where
    go : (b : Bool) → (is_in x ys ≡ true → 1 ≤ list_times (hit x) ys) → (b || is_in x ys) ≡ true → 1 ≤ (if b then 1 else 0) + list_times (hit x) ys
    go true h e = omega arith
    go false h e = let k = h e in omega (arith, k)

distinct-once : (xs : List ℕ) → are_distinct xs ≡ true → (x : ℕ) → list_times (hit x) xs ≤ 1
distinct-once [] e x = omega arith
distinct-once (y ∷ ys) e x = let a = and_parts (not (is_in y ys)) _ e in go (nat_eq x y) refl (not-true (is_in y ys) a.0) (distinct-once ys a.1 x)
  where
    go : (b : Bool) → nat_eq x y ≡ b → is_in y ys ≡ false → list_times (hit x) ys ≤ 1 → (if b then 1 else 0) + list_times (hit x) ys ≤ 1
    go true k out few = let none = absent x ys (subst (λ z. is_in z ys ≡ false) (sym (eqb-true x y k)) out) in omega (arith, none)
    go false k out few = omega (arith, few)

once-distinct : (xs : List ℕ) → ((x : ℕ) → list_times (hit x) xs ≤ 1) → are_distinct xs ≡ true
once-distinct [] h = refl
once-distinct (y ∷ ys) h = and_from _ _ (apart (is_in y ys) refl) (once-distinct ys (λ x. hit-if (nat_eq x y) (list_times (hit x) ys) (h x)))
  where
    itself : (b : Bool) → nat_eq y y ≡ b → (if b then 1 else 0) + list_times (hit y) ys ≤ 1 → 1 ≤ list_times (hit y) ys → ⊥
    itself true e few some = omega (arith, few, some)
    itself false e few some = let same = eq-eqb y y refl in cc

    apart : (b : Bool) → is_in y ys ≡ b → not (is_in y ys) ≡ true
    apart true e = absurd (itself (nat_eq y y) refl (h y) (present y ys e))
    apart false e = rw e refl

pub once-sound : (ds : Decs) → are_distinct (decs_binders ds) ≡ true → IsOnce ds
once-sound ds e x = subst (λ n. n ≤ 1) (sym (decs-listed (hit x) ds)) (distinct-once (decs_binders ds) e x)

pub once-complete : (ds : Decs) → IsOnce ds → are_distinct (decs_binders ds) ≡ true
once-complete ds h = once-distinct (decs_binders ds) (λ x. subst (λ n. n ≤ 1) (decs-listed (hit x) ds) (h x))
