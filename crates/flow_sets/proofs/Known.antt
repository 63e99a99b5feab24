-- Where each variable is bound once, each is what it is bound as.
use Rattle.std.proofs.Common.{◌≡◌, ℕ, ◌+◌, ◌≤◌, Bool, true, false, List, [], ◌∷◌, ◌++◌, Some, nat_eq, if◌then◌else◌, refl, sym, ap, subst, arith}
use Rattle.ir_mono.specs.of_ir_plain.Once.{hit, case_times, times, arms_times, op_times, fun_times, funs_times, IsOnce}
use Rattle.ir_mono.specs.of_ir_plain.Tree.{Case, is_literal, is_con, is_con_of, is_exn, is_exn_of, is_record, Exp, ret, let_in, exception_in, name_in, rec_in, switch, first, miss, counted, Arms, no_arms, arm, Op, use_of, const, con_alone, construct, ref_alone, refer, content, pack, make_record, select, prim_alone, prim, app, fn, block, handle, raise, raise_initial, Fun, last, more, Funs, no_funs, fun}
use Rattle.ir_mono.specs.Types as table
use Rattle.ir_mono.specs.Types.{node_at}
use Rattle.ir_mono.specs.Mono.{mono, Program}
use Rattle.ir_mono.specs.WellFormed.{IsWellFormed}
use Rattle.flow_sets.specs.Flow.{SolvesProgram}
use Rattle.flow_sets.specs.ByType.{gives, Bound, bound_in, bound_case, bound, bound_arms, bound_op, bound_fun, bound_funs, by_type}
use Rattle.flow_sets.proofs.Member.{nat_eq-to, nat_eq-same, within-same}
use Rattle.flow_sets.proofs.Sets.{AllKnown, of}
use Rattle.flow_sets.proofs.Solved.{solves}

-- how often a variable is among these
abbrev among : ℕ → List Bound → ℕ
among k [] = 0
among k (b ∷ bs) = hit k b.variable + among k bs

among-both : (k : ℕ) (xs ys : List Bound) → among k (xs ++ ys) ≡ among k xs + among k ys
among-both k [] ys = let z : among k ys ≡ 0 + among k ys = omega arith in z
among-both k (b ∷ xs) ys = let h = among-both k xs ys in omega (arith, h)

module _ (types : List table.Row) (k : ℕ) where
  abbrev h : ℕ → ℕ
  h x = hit k x

  -- sums of two and of three
  two : (xs ys : List Bound) {a b : ℕ} → among k xs ≡ a → among k ys ≡ b → among k (xs ++ ys) ≡ a + b
  two xs ys e d = let s = among-both k xs ys in omega (arith, s, e, d)

  in-case : (c : Case (mono types)) → among k (bound_case types c) ≡ case_times h c
  in-case (is_literal l) = refl
  in-case (is_con c) = refl
  in-case (is_con_of c x t) = let n : hit k x + 0 ≡ hit k x = omega arith in n
  in-case (is_exn y) = refl
  in-case (is_exn_of y x t) = let n : hit k x + 0 ≡ hit k x = omega arith in n
  in-case (is_record size) = refl

  mutual
    counts : (e : Exp (mono types)) → among k (bound types e) ≡ times h e
    counts (ret a) = refl
    counts (let_in x ps t o e) = ap (λ z. hit k x + z) (two (bound_op types t o) (bound types e) (op-counts t o) (counts e))
    counts (exception_in x i t e) = ap (λ z. hit k x + z) (counts e)
    counts (name_in x y e) = ap (λ z. hit k x + z) (counts e)
    counts (rec_in ps fs e) = two (bound_funs types fs) (bound types e) (funs-counts fs) (counts e)
    counts (switch a t arms) = arms-counts arms
    counts (first e d) = two (bound types e) (bound types d) (counts e) (counts d)
    counts miss = refl
    counts (counted n e) = counts e

    arms-counts : (arms : Arms (mono types)) → among k (bound_arms types arms) ≡ arms_times h arms
    arms-counts no_arms = refl
    arms-counts (arm c e arms) = two (bound_case types c) (bound types e ++ bound_arms types arms) (in-case c) (two (bound types e) (bound_arms types arms) (counts e) (arms-counts arms))

    op-counts : (t : ℕ) (o : Op (mono types)) → among k (bound_op types t o) ≡ op_times h o
    op-counts t (use_of x) = refl
    op-counts t (const l) = refl
    op-counts t (con_alone c u) = refl
    op-counts t (construct m c u a) = refl
    op-counts t (ref_alone u) = refl
    op-counts t (refer m u a) = refl
    op-counts t (content u a) = refl
    op-counts t (pack m u y a) = refl
    op-counts t (make_record u row) = refl
    op-counts t (select u l a) = refl
    op-counts t (prim_alone p u) = refl
    op-counts t (prim m p u as_) = refl
    op-counts t (app place f a) = refl
    op-counts t (fn f) = fun-counts t f
    op-counts t (block e) = counts e
    op-counts t (handle e x d) = ap (λ z. hit k x + z) (two (bound types e) (bound types d) (counts e) (counts d))
    op-counts t (raise a) = refl
    op-counts t (raise_initial i) = refl

    fun-counts : (t : ℕ) (f : Fun (mono types)) → among k (bound_fun types t f) ≡ fun_times h f
    fun-counts t (last x u e) = ap (λ z. hit k x + z) (counts e)
    fun-counts t (more x u f) = ap (λ z. hit k x + z) (fun-counts (gives types (node_at types t)) f)

    funs-counts : (fs : Funs (mono types)) → among k (bound_funs types fs) ≡ funs_times h fs
    funs-counts no_funs = refl
    funs-counts (fun x t f fs) = ap (λ z. hit k x + z) (two (bound_fun types t f) (bound_funs types fs) (fun-counts t f) (funs-counts fs))

-- where none is there twice
known-more : (b : Bound) (all bs : List Bound) → among b.variable bs ≡ 0 → AllKnown all bs → AllKnown (b ∷ all) bs
known-more b all [] n h = tt
known-more b all (c ∷ bs) n h = (go (nat_eq c.variable b.variable) refl, known-more b all bs (omega (arith, n)) h.1)
  where
    swapped : nat_eq c.variable b.variable ≡ true → hit b.variable c.variable ≡ 1
    swapped q = let e = nat_eq-to c.variable b.variable q in ap (λ z. if z then 1 else 0) (subst (λ v. nat_eq b.variable v ≡ true) (sym e) (nat_eq-same b.variable))

    go : (x : Bool) → nat_eq c.variable b.variable ≡ x → (if x then Some b else bound_in c.variable all) ≡ Some c
    go true q = let one = swapped q in absurd (omega (arith, one, n))
    go false q = h.0

each-known : (bs : List Bound) → ((k : ℕ) → among k bs ≤ 1) → AllKnown bs bs
each-known [] h = tt
each-known (b ∷ bs) h =
    (ap (λ x. if x then Some b else bound_in b.variable bs) (nat_eq-same b.variable), known-more b bs bs none (each-known bs (λ k. let l = h k in omega (arith, l))))
  where
    none : among b.variable bs ≡ 0
    none = let l = h b.variable in let one : hit b.variable b.variable ≡ 1 = ap (λ z. if z then 1 else 0) (nat_eq-same b.variable) in omega (arith, l, one)

pub once-known : (types : List table.Row) (e : Exp (mono types)) → IsOnce (λ x. x) e → AllKnown (bound types e) (bound types e)
once-known types e h = each-known (bound types e) (λ k. subst (λ n. n ≤ 1) (sym (counts types k e)) (h k))

pub by-type-solves : (p : Program) → IsWellFormed p → SolvesProgram p.types (by_type p) p.body
by-type-solves p h =
    let known = once-known p.types p.body h.once in
    (of p.types (bound p.types p.body) h.type, solves p.types (bound p.types p.body) known (record { fits = λ x s e. absurd (cc) }) known (of p.types (bound p.types p.body) h.type) (within-same refl) h.typed)
