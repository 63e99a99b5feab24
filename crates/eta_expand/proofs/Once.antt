-- The expansion binds a variable as often as the program does, and new ones once.
use Rattle.std.proofs.Common.{◌≡◌, ℕ, suc, ◌+◌, ◌<◌, ◌≤◌, Bool, true, false, List, [], ◌∷◌, length, Option, Some, None, nat_eq, nat_lt, if◌then◌else◌, refl, sym, subst, arith}
use Rattle.std.proofs.lemmas.Bool.{eqb-true, ltb-true, ltb-false}
use Rattle.mlc_prims.specs.declared.basis.BasisPrimitive.{BasisPrimitive}
use Rattle.ir_plain.specs.Once.{hit, case_times, times, arms_times, op_times, fun_times, funs_times, IsOnce}
use Rattle.ir_plain.specs.Tree.{ret, let_in, exception_in, name_in, rec_in, switch, first, miss, counted, Arms, no_arms, arm, Op, use_of, const, con_alone, construct, ref_alone, refer, content, pack, make_record, select, prim_alone, prim, app, fn, block, handle, raise, raise_initial, Fun, last, more, Funs, no_funs, fun}
use Rattle.ir_poly.specs.Types.{prim_type}
use Rattle.ir_mono.specs.Types as table
use Rattle.ir_mono.specs.Types.{node_at, constructor_at}
use Rattle.ir_mono.specs.Mono.{mono}
use Rattle.eta_expand.specs.Expand.{Names, takes_argument, is_given, takes_at, gives_at, parts_at, is_single, past, E, gives_it, selecting, atoms_from, performing, used_as, alone_as, used_news, alone_news, performing_news, name_takes, case_names, group_names, news, arms_news, op_news, fun_news, funs_news, expand, expand_arms, expand_op, expand_fun, expand_funs}

-- 1 where k is one of the c numbers from n on
abbrev pub inside : (k n c : ℕ) → ℕ
inside k n c = if nat_lt k n then 0 else (if nat_lt k (n + c) then 1 else 0)

data Place (k n c : ℕ) : ℕ → Type 0 where
  before : k < n → Place k n c 0
  among : n ≤ k → k < n + c → Place k n c 1
  after : n + c ≤ k → Place k n c 0

place : (k n c : ℕ) → Place k n c (inside k n c)
place k n c = by (nat_lt k n) refl (nat_lt k (n + c)) refl
  where
    by : (a : Bool) → nat_lt k n ≡ a → (b : Bool) → nat_lt k (n + c) ≡ b → Place k n c (if a then 0 else (if b then 1 else 0))
    by true e b d = before (ltb-true k n e)
    by false e true d = among (ltb-false k n e) (ltb-true k (n + c) d)
    by false e false d = after (ltb-false k (n + c) d)

-- a range in two parts
parts : (k n c d : ℕ) → inside k n c + inside k (n + c) d ≤ inside k n (c + d)
parts k n c d = by (place k n c) (place k (n + c) d) (place k n (c + d))
  where
    by : {x y z : ℕ} → Place k n c x → Place k (n + c) d y → Place k n (c + d) z → x + y ≤ z
    by (before a) (before b) z = omega arith
    by (before a) (among b b') z = absurd (omega (arith, a, b))
    by (before a) (after b) z = omega arith
    by (among a a') (before b) (before c) = absurd (omega (arith, a, c))
    by (among a a') (before b) (among c c') = omega arith
    by (among a a') (before b) (after c) = absurd (omega (arith, a', c))
    by (among a a') (among b b') z = absurd (omega (arith, a', b))
    by (among a a') (after b) (before c) = absurd (omega (arith, a, c))
    by (among a a') (after b) (among c c') = omega arith
    by (among a a') (after b) (after c) = absurd (omega (arith, a', c))
    by (after a) (before b) z = omega arith
    by (after a) (among b b') (before c) = absurd (omega (arith, b, c))
    by (after a) (among b b') (among c c') = omega arith
    by (after a) (among b b') (after c) = absurd (omega (arith, b', c))
    by (after a) (after b) z = omega arith

data Hit (k n : ℕ) : ℕ → Type 0 where
  is_hit : k ≡ n → Hit k n 1
  no_hit : Hit k n 0

hit-is : (k n : ℕ) → Hit k n (hit k n)
hit-is k n = by (nat_eq k n) refl
  where
    by : (b : Bool) → nat_eq k n ≡ b → Hit k n (if b then 1 else 0)
    by true e = is_hit (eqb-true k n e)
    by false e = no_hit

-- the first of a range
first-one : (k n c : ℕ) → hit k n + inside k (suc n) c ≤ inside k n (suc c)
first-one k n c = by (hit-is k n) (place k (suc n) c) (place k n (suc c))
  where
    by : {x y z : ℕ} → Hit k n x → Place k (suc n) c y → Place k n (suc c) z → x + y ≤ z
    by (is_hit e) (before b) (before d) = absurd (omega (arith, e, d))
    by (is_hit e) (before b) (among d d') = omega arith
    by (is_hit e) (before b) (after d) = absurd (omega (arith, e, d))
    by (is_hit e) (among b b') z = absurd (omega (arith, e, b))
    by (is_hit e) (after b) (before d) = absurd (omega (arith, e, d))
    by (is_hit e) (after b) (among d d') = absurd (omega (arith, e, b))
    by (is_hit e) (after b) (after d) = absurd (omega (arith, e, d))
    by no_hit (before b) z = omega arith
    by no_hit (among b b') (before d) = absurd (omega (arith, b, d))
    by no_hit (among b b') (among d d') = omega arith
    by no_hit (among b b') (after d) = absurd (omega (arith, b', d))
    by no_hit (after b) z = omega arith

one-more : (k n : ℕ) → hit k n ≤ inside k n 1
one-more k n = let h = first-one k n 0 in omega (arith, h)

pub record Most (k a b n c : ℕ) : Type 0 where
  pub le : a ≤ b + inside k n c

same : {k a n c : ℕ} → Most k a a n c
same = record { le = omega arith }

both : {k a b a' b' n c d : ℕ} → Most k a b n c → Most k a' b' (n + c) d → Most k (a + a') (b + b') n (c + d)
both {k} {n = n} {c = c} {d = d} h g = let p = h.le in let q = g.le in let r = parts k n c d in record { le = omega (arith, p, q, r) }

front : {k a b n c : ℕ} (x : ℕ) → Most k a b n c → Most k (x + a) (x + b) n c
front x h = let p = h.le in record { le = omega (arith, p) }

module _ (types : List table.Row) (k : ℕ) where
  abbrev pub h : ℕ → ℕ
  h x = hit k x

  used-most : (n t x : ℕ) (b : Bool) → Most k (op_times {F = mono types} h (used_as types b n t x)) 0 n (used_news types b)
  used-most n t x false = same
  used-most n t x true =
      let a = first-one k n 4 in let b = first-one k (suc n) 3 in let c = first-one k (suc (suc n)) 2 in let d = first-one k (suc (suc (suc n))) 1 in let e = one-more k (suc (suc (suc (suc n)))) in
      record { le = omega (arith, a, b, c, d, e) }

  alone-most : (n c u : ℕ) (o : Option (Option ℕ)) → Most k (op_times {F = mono types} h (alone_as types o n c u)) 0 n (alone_news types o)
  alone-most n c u None = same
  alone-most n c u (Some None) = same
  alone-most n c u (Some (Some a)) = let a = first-one k n 1 in let b = one-more k (suc n) in record { le = omega (arith, a, b) }

  selecting-most : (a y j m : ℕ) (qs : List ℕ) (t : ℕ) (o : Op (mono types)) → op_times {F = mono types} h o ≡ 0 → times {F = mono types} h (selecting types a y j m qs (gives_it types (past m qs) t o)) ≤ inside k m (suc (length qs))
  selecting-most a y j m [] t o e = let b = one-more k m in omega (arith, b, e)
  selecting-most a y j m (q ∷ qs) t o e = let b = first-one k m (suc (length qs)) in let c = selecting-most a y (suc j) (suc m) qs t o e in omega (arith, b, c)

  performing-most : (b : Bool) (n : ℕ) (p : BasisPrimitive) (u a r : ℕ) (qs : List ℕ) → Most k (fun_times {F = mono types} h (performing types b n p u a r qs)) 0 n (performing_news types b qs)
  performing-most true n p u a r qs = let c = first-one k n 1 in let b = one-more k (suc n) in record { le = omega (arith, c, b) }
  performing-most false n p u a r qs =
      let c = first-one k n (suc (length qs)) in let b = selecting-most a n 1 (suc n) qs r (prim None p u (atoms_from types (suc n) qs)) refl in let e : 2 + length qs ≡ suc (suc (length qs)) = omega arith in
      record { le = subst (λ z. fun_times {F = mono types} h (performing types false n p u a r qs) ≤ 0 + inside k n z) (sym e) (omega (arith, c, b)) }

  mutual
    pub most : (N : Names) (n : ℕ) (e : E types) → Most k (times h (expand types N n e)) (times h e) n (news types N e)
    most N n (ret a) = same
    most N n (let_in x ps t o e) = front (hit k x) (both (op-most N n t o) (most ((x, false) ∷ N) (n + op_news types N t o) e))
    most N n (exception_in x i t e) = front (hit k x) (most ((x, is_given t) ∷ N) n e)
    most N n (name_in x y e) = front (hit k x) (most ((x, name_takes types N y) ∷ N) n e)
    most N n (rec_in ps fs e) = both (funs-most (group_names types fs N) n fs) (most (group_names types fs N) (n + funs_news types (group_names types fs N) fs) e)
    most N n (switch a t arms) = arms-most N n arms
    most N n (first e d) = both (most N n e) (most N (n + news types N e) d)
    most N n miss = same
    most N n (counted i e) = most N n e

    arms-most : (N : Names) (n : ℕ) (arms : Arms (mono types)) → Most k (arms_times h (expand_arms types N n arms)) (arms_times h arms) n (arms_news types N arms)
    arms-most N n no_arms = same
    arms-most N n (arm c e arms) = front (case_times h c) (both (most (case_names types c N) n e) (arms-most N (n + news types (case_names types c N) e) arms))

    op-most : (N : Names) (n t : ℕ) (o : Op (mono types)) → Most k (op_times h (expand_op types N n t o)) (op_times h o) n (op_news types N t o)
    op-most N n t (use_of x) = used-most n t x (takes_argument N x)
    op-most N n t (const l) = same
    op-most N n t (con_alone c u) = alone-most n c u (constructor_at types u c)
    op-most N n t (construct m c u a) = same
    op-most N n t (ref_alone a) = let a = first-one k n 1 in let b = one-more k (suc n) in record { le = omega (arith, a, b) }
    op-most N n t (refer m u a) = same
    op-most N n t (content u a) = same
    op-most N n t (pack m u y a) = same
    op-most N n t (make_record u row) = same
    op-most N n t (select u l a) = same
    op-most N n t (prim_alone p u) = performing-most (is_single (prim_type p).arguments) n p u (takes_at (node_at types t)) (gives_at (node_at types t)) (parts_at (node_at types (takes_at (node_at types t))))
    op-most N n t (prim m p u as_) = same
    op-most N n t (app place f a) = same
    op-most N n t (fn f) = fun-most N n f
    op-most N n t (block e) = most N n e
    op-most N n t (handle e x d) = front (hit k x) (both (most N n e) (most ((x, false) ∷ N) (n + news types N e) d))
    op-most N n t (raise a) = same
    op-most N n t (raise_initial i) = same

    fun-most : (N : Names) (n : ℕ) (f : Fun (mono types)) → Most k (fun_times h (expand_fun types N n f)) (fun_times h f) n (fun_news types N f)
    fun-most N n (last x t e) = front (hit k x) (most ((x, false) ∷ N) n e)
    fun-most N n (more x t f) = front (hit k x) (fun-most ((x, false) ∷ N) n f)

    funs-most : (N : Names) (n : ℕ) (fs : Funs (mono types)) → Most k (funs_times h (expand_funs types N n fs)) (funs_times h fs) n (funs_news types N fs)
    funs-most N n no_funs = same
    funs-most N n (fun x t f fs) = front (hit k x) (both (fun-most N n f) (funs-most N (n + fun_news types N f) fs))

  at-most-one : (n c a b : ℕ) → Most k a b n c → b ≤ 1 → (n ≤ k → b ≡ 0) → a ≤ 1
  at-most-one n c a b m o f = by (place k n c) m.le
    where
      by : {z : ℕ} → Place k n c z → a ≤ b + z → a ≤ 1
      by (before p) l = omega (arith, l, o)
      by (among p q) l = let z = f p in omega (arith, l, z)
      by (after p) l = omega (arith, l, o)

pub expanded-once : (types : List table.Row) (n : ℕ) (e : E types) → IsOnce {F = mono types} (λ x. x) e → ((k : ℕ) → n ≤ k → times {F = mono types} (λ x. hit k x) e ≡ 0) → IsOnce {F = mono types} (λ x. x) (expand types [] n e)
expanded-once types n e once fresh = λ k. at-most-one types k n (news types [] e) (times {F = mono types} (λ x. hit k x) (expand types [] n e)) (times {F = mono types} (λ x. hit k x) e) (most types k [] n e) (once k) (fresh k)
