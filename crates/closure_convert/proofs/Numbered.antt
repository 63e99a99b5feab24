-- Where each variable is bound once, each function has its entry; so the table is right.
use Rattle.std.proofs.Common.{◌≡◌, ℕ, zero, suc, ◌+◌, ◌≤◌, Bool, true, false, List, [], ◌∷◌, Option, Some, None, nat_eq, if◌then◌else◌, refl, sym, ap, subst, ◌∙◌, arith}
use Rattle.flow_sets.specs.of_ir_plain.Once.{hit, case_times, times, arms_times, op_times, fun_times, funs_times, IsOnce}
use Rattle.flow_sets.specs.of_ir_plain.Tree.{Exp, ret, let_in, exception_in, name_in, rec_in, switch, first, miss, counted, Arms, no_arms, arm, Op, use_of, const, con_alone, construct, ref_alone, refer, content, pack, make_record, select, prim_alone, prim, app, fn, block, handle, raise, raise_initial, Fun, last, more, Funs, no_funs, fun}
use Rattle.flow_sets.proofs.of_ir_plain.UniqueLemmas.{once-unique}
use Rattle.flow_sets.specs.of_ir_mono.Types as table
use Rattle.flow_sets.specs.of_ir_mono.Mono.{mono, Mono, Program}
use Rattle.flow_sets.specs.of_ir_mono.WellFormed.{IsWellFormed}
use Rattle.flow_sets.proofs.of_ir_mono.Bound.{well-formed-bound}
use Rattle.flow_sets.proofs.Member.{nat_eq-to, nat_eq-same}
use Rattle.closure_convert.specs.Scope.{Member, names, Scope, add, add_all, Piece, top}
use Rattle.closure_convert.specs.Closed.{scope_of, members, case_scope, IsClosed}
use Rattle.closure_convert.specs.Capture.{cut, Entry, wanted, wanted_all, tabulate, tabulate_arms, tabulate_op, tabulate_fun, tabulate_funs, entry_of, table_of}
use Rattle.closure_convert.proofs.Captured.{AllEntered, closed}

-- how many entries have this number
abbrev entries : ℕ → List Entry → ℕ
entries k [] = 0
entries k (e ∷ es) = hit k e.number + entries k es

record AtMost (a n c : ℕ) : Type 0 where
  le : a ≤ n + c

none : (c : ℕ) → AtMost c 0 c
none c = record { le = omega arith }

both : {a b c m n : ℕ} → AtMost a m b → AtMost b n c → AtMost a (m + n) c
both h k = let p = h.le in let q = k.le in record { le = omega (arith, p, q) }

further : {a c n : ℕ} (x : ℕ) → AtMost a n c → AtMost a (x + n) c
further x h = let p = h.le in record { le = omega (arith, p) }

front : {a c n : ℕ} (x : ℕ) → AtMost a n c → AtMost (x + a) (x + n) c
front x h = let p = h.le in record { le = omega (arith, p) }

module _ (types : List table.Row) (k : ℕ) where
  abbrev h : ℕ → ℕ
  h x = hit k x

  mutual
    counts : (e : Mono types) (s : Scope) (es : List Entry) → AtMost (entries k (tabulate types s e es)) (times h e) (entries k es)
    counts (ret a) s es = none (entries k es)
    counts (let_in x ps t o e) s es = further (hit k x) (both (op-counts o s (tabulate types (add x s) e es)) (counts e (add x s) es))
    counts (exception_in x i t e) s es = further (hit k x) (counts e (add x s) es)
    counts (name_in x n e) s es = further (hit k x) (counts e (add x s) es)
    counts (rec_in ps fs e) s es = both (funs-counts fs (cut s (wanted_all types s fs)) (wanted_all types s fs) (members types fs) (tabulate types (add_all (names (members types fs)) s) e es)) (counts e (add_all (names (members types fs)) s) es)
    counts (switch a t arms) s es = arms-counts arms s es
    counts (first e d) s es = both (counts e s (tabulate types s d es)) (counts d s es)
    counts miss s es = none (entries k es)
    counts (counted n e) s es = counts e s es

    arms-counts : (arms : Arms (mono types)) (s : Scope) (es : List Entry) → AtMost (entries k (tabulate_arms types s arms es)) (arms_times h arms) (entries k es)
    arms-counts no_arms s es = none (entries k es)
    arms-counts (arm c e arms) s es = further (case_times h c) (both (counts e (case_scope types c s) (tabulate_arms types s arms es)) (arms-counts arms s es))

    op-counts : (o : Op (mono types)) (s : Scope) (es : List Entry) → AtMost (entries k (tabulate_op types s o es)) (op_times h o) (entries k es)
    op-counts (use_of x) s es = none (entries k es)
    op-counts (const l) s es = none (entries k es)
    op-counts (con_alone c t) s es = none (entries k es)
    op-counts (construct m c t a) s es = none (entries k es)
    op-counts (ref_alone t) s es = none (entries k es)
    op-counts (refer m t a) s es = none (entries k es)
    op-counts (content t a) s es = none (entries k es)
    op-counts (pack m t x a) s es = none (entries k es)
    op-counts (make_record t row) s es = none (entries k es)
    op-counts (select t l a) s es = none (entries k es)
    op-counts (prim_alone p t) s es = none (entries k es)
    op-counts (prim m p t as_) s es = none (entries k es)
    op-counts (app place f a) s es = none (entries k es)
    op-counts (fn f) s es = fun-counts f (cut s (wanted types s f)) (wanted types s f) [] es
    op-counts (block e) s es = counts e s es
    op-counts (handle e x d) s es = further (hit k x) (both (counts e s (tabulate types (add x s) d es)) (counts d (add x s) es))
    op-counts (raise a) s es = none (entries k es)
    op-counts (raise_initial i) s es = none (entries k es)

    fun-counts : (f : Fun (mono types)) (ps : List Piece) (cs : List ℕ) (ms : List Member) (es : List Entry) → AtMost (entries k (tabulate_fun types ps cs ms f es)) (fun_times h f) (entries k es)
    fun-counts (last x t e) ps cs ms es = front (hit k x) (counts e (scope_of cs ms x) es)
    fun-counts (more x t f) ps cs ms es = let s = scope_of cs ms x in front (hit k x) (fun-counts f (cut s (wanted types s f)) (wanted types s f) [] es)

    funs-counts : (fs : Funs (mono types)) (ps : List Piece) (cs : List ℕ) (ms : List Member) (es : List Entry) → AtMost (entries k (tabulate_funs types ps cs ms fs es)) (funs_times h fs) (entries k es)
    funs-counts no_funs ps cs ms es = none (entries k es)
    funs-counts (fun x t f fs) ps cs ms es = further (hit k x) (both (fun-counts f ps cs ms (tabulate_funs types ps cs ms fs es)) (funs-counts fs ps cs ms es))

-- where no number is there twice
entered-at : (b c : Entry) (all : List Entry) → hit b.number c.number ≡ 0 → entry_of c.number all ≡ Some c → (x : Bool) → nat_eq c.number b.number ≡ x → (if x then Some b else entry_of c.number all) ≡ Some c
entered-at b c all n h true q =
    let e = nat_eq-to c.number b.number q in
    let one : hit b.number c.number ≡ 1 = ap (λ z. if z then 1 else 0) (subst (λ v. nat_eq b.number v ≡ true) (sym e) (nat_eq-same b.number)) in
    absurd (omega (arith, one, n))
entered-at b c all n h false q = h

entered-more : (b : Entry) (all es : List Entry) → entries b.number es ≡ 0 → AllEntered all es → AllEntered (b ∷ all) es
entered-more b all [] n h = tt
entered-more b all (c ∷ es) n h = (entered-at b c all (omega (arith, n)) h.0 (nat_eq c.number b.number) refl, entered-more b all es (omega (arith, n)) h.1)

all-entered : (es : List Entry) → ((k : ℕ) → entries k es ≤ 1) → AllEntered es es
all-entered [] h = tt
all-entered (b ∷ es) h =
    let l = h b.number in
    let one : hit b.number b.number ≡ 1 = ap (λ z. if z then 1 else 0) (nat_eq-same b.number) in
    (ap (λ x. if x then Some b else entry_of b.number es) (nat_eq-same b.number), entered-more b es es (omega (arith, l, one)) (all-entered es (λ k. let l = h k in omega (arith, l))))

each-once : (types : List table.Row) (e : Mono types) → IsOnce (λ x. x) e → (k : ℕ) → entries k (tabulate types top e []) ≤ 1
each-once types e once k = let c = (counts types k e top []).le in let o = once k in omega (arith, c, o)

pub captures-are-right : (p : Program) → IsWellFormed p → IsClosed p.types (table_of p.types p.body) top p.body
captures-are-right p w =
    (closed p.types (tabulate p.types top p.body []) p.body top [] [] [] (well-formed-bound p w) w.local (once-unique (λ x. x) p.body w.once) (λ y i f. absurd (cc)) (all-entered (tabulate p.types top p.body []) (each-once p.types p.body w.once))).1
