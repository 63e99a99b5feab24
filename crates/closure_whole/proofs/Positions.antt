-- Where each variable is bound once, no function has two codes: each has its code where it is first.
use Rattle.std.proofs.Common.{◌≡◌, ℕ, zero, suc, ◌+◌, ◌≤◌, Bool, true, false, List, [], ◌∷◌, Some, nat_eq, if◌then◌else◌, slice_get, refl, ap, subst, arith}
use Rattle.ir_plain.specs.Once.{hit, case_times, times, arms_times, op_times, fun_times, funs_times, IsOnce}
use Rattle.ir_plain.specs.Tree.{ret, let_in, exception_in, name_in, rec_in, switch, first, miss, counted, Arms, no_arms, arm, Op, use_of, const, con_alone, construct, ref_alone, refer, content, pack, make_record, select, prim_alone, prim, app, fn, block, handle, raise, raise_initial, Fun, last, more, Funs, no_funs, fun}
use Rattle.ir_mono.specs.Types as table
use Rattle.ir_mono.specs.Mono.{mono, Mono}
use Rattle.flow_sets.proofs.Member.{nat_eq-to, nat_eq-same}
use Rattle.closure_convert.specs.Scope.{index_of}
use Rattle.closure_meaning.specs.Convert.{numbers_in, numbers_arms, numbers_op, numbers_fun, numbers_funs}

abbrev count : ℕ → List ℕ → ℕ
count k [] = 0
count k (x ∷ xs) = hit k x + count k xs

record AtMost (a n c : ℕ) : Type 0 where
  le : a ≤ n + c

none : (c : ℕ) → AtMost c 0 c
none c = record { le = omega arith }

both : {a b c m n : ℕ} → AtMost a m b → AtMost b n c → AtMost a (m + n) c
both h k = let p = h.le in let q = k.le in record { le = omega (arith, p, q) }

further : {a c n : ℕ} (x : ℕ) → AtMost a n c → AtMost a (x + n) c
further x h = let p = h.le in record { le = omega (arith, p) }

front : {a c n : ℕ} (x : ℕ) → AtMost a n c → AtMost (x + a) (x + n) c
front x h = let p = h.le in record { le = omega (arith, p) }

module _ (types : List table.Row) (k : ℕ) where
  abbrev h : ℕ → ℕ
  h x = hit k x

  mutual
    counts : (e : Mono types) (ks : List ℕ) → AtMost (count k (numbers_in types e ks)) (times h e) (count k ks)
    counts (ret a) ks = none (count k ks)
    counts (let_in x ps t o e) ks = further (hit k x) (both (op-counts o (numbers_in types e ks)) (counts e ks))
    counts (exception_in x i t e) ks = further (hit k x) (counts e ks)
    counts (name_in x n e) ks = further (hit k x) (counts e ks)
    counts (rec_in ps fs e) ks = both (funs-counts fs (numbers_in types e ks)) (counts e ks)
    counts (switch a t arms) ks = arms-counts arms ks
    counts (first e d) ks = both (counts e (numbers_in types d ks)) (counts d ks)
    counts miss ks = none (count k ks)
    counts (counted n e) ks = counts e ks

    arms-counts : (arms : Arms (mono types)) (ks : List ℕ) → AtMost (count k (numbers_arms types arms ks)) (arms_times h arms) (count k ks)
    arms-counts no_arms ks = none (count k ks)
    arms-counts (arm c e arms) ks = further (case_times h c) (both (counts e (numbers_arms types arms ks)) (arms-counts arms ks))

    op-counts : (o : Op (mono types)) (ks : List ℕ) → AtMost (count k (numbers_op types o ks)) (op_times h o) (count k ks)
    op-counts (use_of x) ks = none (count k ks)
    op-counts (const l) ks = none (count k ks)
    op-counts (con_alone c t) ks = none (count k ks)
    op-counts (construct m c t a) ks = none (count k ks)
    op-counts (ref_alone t) ks = none (count k ks)
    op-counts (refer m t a) ks = none (count k ks)
    op-counts (content t a) ks = none (count k ks)
    op-counts (pack m t x a) ks = none (count k ks)
    op-counts (make_record t row) ks = none (count k ks)
    op-counts (select t l a) ks = none (count k ks)
    op-counts (prim_alone p t) ks = none (count k ks)
    op-counts (prim m p t as_) ks = none (count k ks)
    op-counts (app place f a) ks = none (count k ks)
    op-counts (fn f) ks = fun-counts f ks
    op-counts (block e) ks = counts e ks
    op-counts (handle e x d) ks = further (hit k x) (both (counts e (numbers_in types d ks)) (counts d ks))
    op-counts (raise a) ks = none (count k ks)
    op-counts (raise_initial i) ks = none (count k ks)

    fun-counts : (f : Fun (mono types)) (ks : List ℕ) → AtMost (count k (numbers_fun types f ks)) (fun_times h f) (count k ks)
    fun-counts (last x t e) ks = front (hit k x) (counts e ks)
    fun-counts (more x t f) ks = front (hit k x) (fun-counts f ks)

    funs-counts : (fs : Funs (mono types)) (ks : List ℕ) → AtMost (count k (numbers_funs types fs ks)) (funs_times h fs) (count k ks)
    funs-counts no_funs ks = none (count k ks)
    funs-counts (fun x t f fs) ks = further (hit k x) (both (fun-counts f (numbers_funs types fs ks)) (funs-counts fs ks))

hit-same : (k x : ℕ) → k ≡ x → hit k x ≡ 1
hit-same k x e = ap (λ z. if z then 1 else 0) (subst (λ v. nat_eq k v ≡ true) e (nat_eq-same k))

counted-once : (xs : List ℕ) (i k : ℕ) → slice_get xs i ≡ Some k → 1 ≤ count k xs
counted-once [] i k e = absurd (cc)
counted-once (x ∷ xs) zero k e = let q : k ≡ x = cc in let one = hit-same k x q in omega (arith, one)
counted-once (x ∷ xs) (suc i) k e = let h = counted-once xs i k e in omega (arith, h)

place-at : (x : ℕ) (xs : List ℕ) (i k : ℕ) → slice_get xs i ≡ Some k → hit k x + count k xs ≤ 1 → (b : Bool) → nat_eq k x ≡ b → (count k xs ≤ 1 → index_of k xs ≡ i)
    → (if b then zero else suc (index_of k xs)) ≡ suc i
place-at x xs i k e l true q rest = let one = hit-same k x (nat_eq-to k x q) in let c = counted-once xs i k e in absurd (omega (arith, one, l, c))
place-at x xs i k e l false q rest = ap suc (rest (omega (arith, l)))

-- what is there once is where it is first
pub place-of : (xs : List ℕ) (i k : ℕ) → slice_get xs i ≡ Some k → count k xs ≤ 1 → index_of k xs ≡ i
place-of [] i k e h = absurd (cc)
place-of (x ∷ xs) zero k e h = let q : k ≡ x = cc in ap (λ z. if z then zero else suc (index_of k xs)) (subst (λ v. nat_eq k v ≡ true) q (nat_eq-same k))
place-of (x ∷ xs) (suc i) k e h = place-at x xs i k e h (nat_eq k x) refl (λ l. place-of xs i k e l)

pub each-number-once : (types : List table.Row) (e : Mono types) → IsOnce (λ x. x) e → (k : ℕ) → count k (numbers_in types e []) ≤ 1
each-number-once types e once k = let c = (counts types k e []).le in let o = once k in omega (arith, c, o)

pub places-are : (types : List table.Row) (e : Mono types) → IsOnce (λ x. x) e → (i k : ℕ) → slice_get (numbers_in types e []) i ≡ Some k → suc (index_of k (numbers_in types e [])) ≡ suc i
places-are types e once i k q = ap suc (place-of (numbers_in types e []) i k q (each-number-once types e once k))
