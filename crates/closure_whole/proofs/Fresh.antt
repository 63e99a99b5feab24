-- No variable is bound that is above all that are.
use Rattle.std.proofs.Common.{◌≡◌, ℕ, suc, ◌+◌, ◌<◌, ◌≤◌, Bool, true, false, List, [], ◌∷◌, ◌++◌, nat_eq, nat_lt, if◌then◌else◌, refl, sym, subst, arith}
use Rattle.std.proofs.lemmas.Bool.{eqb-true, ltb-true, ltb-false}
use Rattle.ir_plain.specs.Once.{hit, case_times, times, arms_times, op_times, fun_times, funs_times}
use Rattle.ir_plain.specs.Tree.{Case, is_literal, is_con, is_con_of, is_exn, is_exn_of, is_record, ret, let_in, exception_in, name_in, rec_in, switch, first, miss, counted, Arms, no_arms, arm, Op, use_of, const, con_alone, construct, ref_alone, refer, content, pack, make_record, select, prim_alone, prim, app, fn, block, handle, raise, raise_initial, Fun, last, more, Funs, no_funs, fun}
use Rattle.ir_mono.specs.Types as table
use Rattle.ir_mono.specs.Types.{node_at}
use Rattle.ir_mono.specs.Mono.{mono, Mono}
use Rattle.flow_sets.specs.ByType.{Bound, gives, bound_case, bound, bound_arms, bound_op, bound_fun, bound_funs}
use Rattle.closure_whole.specs.Rising.{larger, above}

larger-first : (x n : ℕ) → x < larger x n
larger-first x n = by (nat_lt x n) refl
  where
    by : (b : Bool) → nat_lt x n ≡ b → x < (if b then n else suc x)
    by true e = ltb-true x n e
    by false e = omega arith

larger-rest : (x n : ℕ) → n ≤ larger x n
larger-rest x n = by (nat_lt x n) refl
  where
    by : (b : Bool) → nat_lt x n ≡ b → n ≤ (if b then n else suc x)
    by true e = omega arith
    by false e = let l : n ≤ x = ltb-false x n e in omega (arith, l)

larger-both : (x m n : ℕ) → m ≤ n → larger x m ≤ larger x n
larger-both x m n h = by (nat_lt x m) refl (nat_lt x n) refl
  where
    by : (b : Bool) → nat_lt x m ≡ b → (c : Bool) → nat_lt x n ≡ c → (if b then m else suc x) ≤ (if c then n else suc x)
    by true e true d = h
    by true e false d = let l : x < m = ltb-true x m e in let g : n ≤ x = ltb-false x n d in absurd (omega (arith, l, g, h))
    by false e true d = let l : x < n = ltb-true x n d in omega (arith, l)
    by false e false d = omega arith

above-left : (xs ys : List Bound) → above xs ≤ above (xs ++ ys)
above-left [] ys = omega arith
above-left (x ∷ xs) ys = larger-both x.variable (above xs) (above (xs ++ ys)) (above-left xs ys)

above-right : (xs ys : List Bound) → above ys ≤ above (xs ++ ys)
above-right [] ys = omega arith
above-right (x ∷ xs) ys = let h = above-right xs ys in let g = larger-rest x.variable (above (xs ++ ys)) in omega (arith, h, g)

no-hit : (k x : ℕ) → x < k → hit k x ≡ 0
no-hit k x h = by (nat_eq k x) refl
  where
    by : (b : Bool) → nat_eq k x ≡ b → ◌≡◌ {A = ℕ} (if b then 1 else 0) 0
    by true e = let same : k ≡ x = eqb-true k x e in absurd (omega (arith, same, h))
    by false e = refl

module _ (types : List table.Row) (k : ℕ) where
  abbrev h : ℕ → ℕ
  h x = hit k x

  -- one in front, and two parts
  front : (x : ℕ) (bs : List Bound) {n a : ℕ} → above bs ≡ n → larger x n ≤ k → (above bs ≤ k → a ≡ 0) → hit k x + a ≡ 0
  front x bs e l rest =
      let p = larger-first x (above bs) in let q = larger-rest x (above bs) in
      let r : larger x (above bs) ≤ k = subst (λ z. larger x z ≤ k) (sym e) l in
      let z = no-hit k x (omega (arith, p, r)) in let y = rest (omega (arith, q, r)) in omega (arith, z, y)

  both : (xs ys : List Bound) {a b : ℕ} → above (xs ++ ys) ≤ k → (above xs ≤ k → a ≡ 0) → (above ys ≤ k → b ≡ 0) → a + b ≡ 0
  both xs ys l left right = let p = above-left xs ys in let q = above-right xs ys in let y = left (omega (arith, p, l)) in let z = right (omega (arith, q, l)) in omega (arith, y, z)

  case-fresh : (c : Case (mono types)) → above (bound_case types c) ≤ k → case_times h c ≡ 0
  case-fresh (is_literal l) e = refl
  case-fresh (is_con c) e = refl
  case-fresh (is_con_of c x t) e = let p = larger-first x 0 in no-hit k x (omega (arith, p, e))
  case-fresh (is_exn y) e = refl
  case-fresh (is_exn_of y x t) e = let p = larger-first x 0 in no-hit k x (omega (arith, p, e))
  case-fresh (is_record size) e = refl

  mutual
    pub fresh : (e : Mono types) → above (bound types e) ≤ k → times h e ≡ 0
    fresh (ret a) l = refl
    fresh (let_in x ps t o e) l = front x (bound_op types t o ++ bound types e) refl l (λ l. both (bound_op types t o) (bound types e) l (op-fresh t o) (fresh e))
    fresh (exception_in x i t e) l = front x (bound types e) refl l (fresh e)
    fresh (name_in x y e) l = front x (bound types e) refl l (fresh e)
    fresh (rec_in ps fs e) l = both (bound_funs types fs) (bound types e) l (funs-fresh fs) (fresh e)
    fresh (switch a t arms) l = arms-fresh arms l
    fresh (first e d) l = both (bound types e) (bound types d) l (fresh e) (fresh d)
    fresh miss l = refl
    fresh (counted n e) l = fresh e l

    arms-fresh : (arms : Arms (mono types)) → above (bound_arms types arms) ≤ k → arms_times h arms ≡ 0
    arms-fresh no_arms l = refl
    arms-fresh (arm c e arms) l = both (bound_case types c) (bound types e ++ bound_arms types arms) l (case-fresh c) (λ l. both (bound types e) (bound_arms types arms) l (fresh e) (arms-fresh arms))

    op-fresh : (t : ℕ) (o : Op (mono types)) → above (bound_op types t o) ≤ k → op_times h o ≡ 0
    op-fresh t (use_of x) l = refl
    op-fresh t (const c) l = refl
    op-fresh t (con_alone c u) l = refl
    op-fresh t (construct m c u a) l = refl
    op-fresh t (ref_alone u) l = refl
    op-fresh t (refer m u a) l = refl
    op-fresh t (content u a) l = refl
    op-fresh t (pack m u y a) l = refl
    op-fresh t (make_record u row) l = refl
    op-fresh t (select u f a) l = refl
    op-fresh t (prim_alone p u) l = refl
    op-fresh t (prim m p u as_) l = refl
    op-fresh t (app place f a) l = refl
    op-fresh t (fn f) l = fun-fresh t f l
    op-fresh t (block e) l = fresh e l
    op-fresh t (handle e x d) l = front x (bound types e ++ bound types d) refl l (λ l. both (bound types e) (bound types d) l (fresh e) (fresh d))
    op-fresh t (raise a) l = refl
    op-fresh t (raise_initial i) l = refl

    fun-fresh : (t : ℕ) (f : Fun (mono types)) → above (bound_fun types t f) ≤ k → fun_times h f ≡ 0
    fun-fresh t (last x u e) l = front x (bound types e) refl l (fresh e)
    fun-fresh t (more x u f) l = front x (bound_fun types (gives types (node_at types t)) f) refl l (fun-fresh (gives types (node_at types t)) f)

    funs-fresh : (fs : Funs (mono types)) → above (bound_funs types fs) ≤ k → funs_times h fs ≡ 0
    funs-fresh no_funs l = refl
    funs-fresh (fun x t f fs) l = front x (bound_fun types t f ++ bound_funs types fs) refl l (λ l. both (bound_fun types t f) (bound_funs types fs) l (fun-fresh t f) (funs-fresh fs))
