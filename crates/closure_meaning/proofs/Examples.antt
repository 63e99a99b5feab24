-- Conversions by computation, and a program that meets all that the law asks.
use Rattle.std.proofs.Common.{◌≡◌, ◌≤◌, ℕ, zero, suc, Bool, true, ◌||◌, List, [], ◌∷◌, Option, Some, None, false, if◌then◌else◌, nat_eq, nat_lt, refl, ap, sym, ◌∙◌, subst, arith}
use Rattle.std.proofs.lemmas.Bool.{eqb-true}
use mathlib.Core.Logic.{◌⊎◌, inl, inr}
use Rattle.std.specs.Prelude.{⊤}
use Rattle.std.specs.Map.{lookup}
use Rattle.mlc_runs.specs.Outcome.{End, ended, uncaught, going, Outcome}
use Rattle.mlc_base.specs.declared.place.Place.{Place}
use Rattle.mlc_prims.specs.LitOf.{string}
use Rattle.mlc_prims.specs.declared.basis.BasisPrimitive.TheVariants.{Print}
use Rattle.ty_core.specs.Types.{arrow, labels, name}
use Rattle.ir_values.specs.Values.{false_number, true_number}
use Rattle.ir_plain.specs.Tree.{is_exn, held, no_atoms, an_atom, no_row, ret, let_in, exception_in, name_in, rec_in, switch, first, no_arms, arm, Op, use_of, const, make_record, prim, app, fn, handle, raise, last, more, no_funs, fun}
use Rattle.ir_explicit.specs.of_ir_poly.Types.{bool_name, string_name, exn_name}
use Rattle.ty_core.specs.declared.name.TyName.{TyName}
use Rattle.ir_values.specs.Values.{truth_number}
use Rattle.ir_plain.specs.Once.{IsOnce, hit, times}
use Rattle.ir_plain.specs.Scoped.{IsLocal, among_here, among_there, let_scoped, ret_scoped, use_scoped, app_scoped, fn_scoped, last_scoped, make_record_scoped, no_row_scoped}
use Rattle.ir_explicit.specs.of_ir_mono.Explicit.{IsExplicit}
use Rattle.ir_explicit.specs.of_ir_mono.Typing.{Typed, t_let, t_ret, t_fn, t_last, t_use, t_app, t_make_record, no_row_typed}
use Rattle.ir_explicit.specs.of_ir_mono.WellFormed.{IsWellFormed}
use Rattle.ir_explicit.specs.of_ir_mono.Mono as source
use Rattle.ir_explicit.specs.of_ir_mono.Types.{Row, Node, node, node_at, constructor_at, admits, Is, IsTable, bool_number, distinct_none}
use Rattle.ir_explicit.specs.of_ir_mono.Mono.{mono, Mono, Program}
use Rattle.ir_first.specs.Tree as out
use Rattle.ir_first.specs.Meaning as tgt
use Rattle.closure_convert.specs.of_flow_sets.Member.{is_in}
use Rattle.closure_convert.specs.of_flow_sets.Flow.{Flow, Spot, variable}
use Rattle.closure_convert.specs.of_flow_sets.ByType.{by_type}
use Rattle.closure_convert.specs.Capture.{table_of}
use Rattle.closure_meaning.specs.Convert.{Numbering, program}
use Rattle.closure_meaning.specs.Fits.{Fits, no_row_fits}
use Rattle.closure_meaning.specs.Laws.{IsNumbered, TagsApart, setting}
use Rattle.closure_meaning.proofs.Run.{conversion-by-type}

abbrev row : Node → Row
row n = record { type = n; constructors = []; equality = false }

-- 0 unit, 1 truth values, 2 from unit to unit, 3 exceptions, 4 strings, 5 from unit to those of 2
abbrev types : List Row
types =
    row (node (labels []) []) ∷ record { type = node (name bool_name) []; constructors = (true_number, None) ∷ (false_number, None) ∷ []; equality = false }
    ∷ row (node arrow (0 ∷ 0 ∷ [])) ∷ row (node (name exn_name) []) ∷ row (node (name string_name) []) ∷ row (node arrow (0 ∷ 2 ∷ [])) ∷ []

abbrev at : ℕ → Place
at n = record { file = 0; byte = n }

abbrev E : Type 0
E = Mono types

abbrev let1 : ℕ → ℕ → Op (mono types) → E → E
let1 x t o e = let_in x tt t o e

abbrev of_body : E → Program
of_body e = record { initial = 90 ∷ 91 ∷ 92 ∷ 93 ∷ 94 ∷ 95 ∷ 96 ∷ []; types = types; expansion = 0; body = e }

-- functions by their numbers, which are their tags too; names from 80 on, one string
abbrev numbered : (ℕ → ℕ) → Numbering
numbered f = record { function = f; tag = f; text = λ s. 0; is_name = λ x. Rattle.std.specs.Prelude.nat_lt 79 x }

abbrev converted : (ℕ → ℕ) → E → out.Program
converted f e = program (numbered f) ((104 ∷ []) ∷ []) (by_type (of_body e)) (table_of types e) (of_body e)

abbrev does : (ℕ → ℕ) → E → ℕ → Outcome
does f e m = tgt.meaning (converted f e) m

abbrev outcome : List ℕ → End → List Place → Outcome
outcome o end turns = record { output = o; end = end; turns = turns }

-- val f = fn x => x; val g = fn y => f y; g ()
abbrev calls : E
calls =
    let1 10 2 (fn (last 11 0 (ret 11)))
    (let1 12 2 (fn (last 13 0 (let1 14 2 (use_of 10) (let1 15 0 (app (at 7) 14 13) (ret 15)))))
    (let1 16 0 (make_record 0 no_row) (let1 17 0 (app (at 8) 12 16) (ret 17))))

abbrev places : ℕ → ℕ
places k = if nat_eq k 11 then 1 else 2

calls-twice : does places calls 2 ≡ outcome [] ended (at 8 ∷ at 7 ∷ [])
calls-twice = refl

calls-once : does places calls 1 ≡ outcome [] going (at 8 ∷ [])
calls-once = refl

-- an exception's name is captured, and is a packet where it is used as a value
abbrev raises : E
raises =
    exception_in 80 77 None
    (let1 10 2 (fn (last 11 0 (name_in 81 (held 80) (let1 12 3 (use_of 81) (let1 13 0 (raise 12) (ret 13))))))
    (let1 14 0 (make_record 0 no_row) (let1 15 0 (app (at 7) 10 14) (ret 15))))

raises-it : does (λ k. 1) raises 1 ≡ outcome [] (uncaught 77) (at 7 ∷ [])
raises-it = refl

-- and is told from others by a handler
abbrev handles : E
handles =
    exception_in 80 77 None (exception_in 81 78 None
    (let1 10 0 (handle (let1 11 3 (use_of 81) (let1 12 0 (raise 11) (ret 12))) 13
    (first (switch 13 3 (arm (is_exn 80) (let1 14 0 (make_record 0 no_row) (ret 14)) (arm (is_exn 81)
    (let1 15 4 (const (string (104 ∷ []))) (let1 16 0 (prim None Print 0 (an_atom 15 no_atoms)) (ret 16))) no_arms))) (let1 17 0 (raise 13) (ret 17)))) (ret 10)))

handles-it : does (λ k. 0) handles 0 ≡ outcome (104 ∷ []) ended []
handles-it = refl

-- a function of two parameters
abbrev curried : E
curried =
    let1 10 5 (fn (more 11 0 (last 12 0 (let1 13 0 (use_of 11) (ret 13)))))
    (let1 14 0 (make_record 0 no_row) (let1 15 2 (app (at 7) 10 14) (let1 16 0 (app (at 8) 15 14) (ret 16))))

abbrev parameters : ℕ → ℕ
parameters k = if nat_eq k 11 then 1 else 2

curried-twice : does parameters curried 2 ≡ outcome [] ended (at 7 ∷ at 8 ∷ [])
curried-twice = refl

-- two functions that call one another for ever
abbrev loops : E
loops =
    rec_in tt (fun 10 2 (last 11 0 (let1 12 2 (use_of 20) (let1 13 0 (app (at 7) 12 11) (ret 13))))
    (fun 20 2 (last 21 0 (let1 22 2 (use_of 10) (let1 23 0 (app (at 8) 22 21) (ret 23)))) no_funs))
    (let1 30 0 (make_record 0 no_row) (let1 31 0 (app (at 9) 20 30) (ret 31)))

abbrev members : ℕ → ℕ
members k = if nat_eq k 11 then 1 else 2

loops-on : does members loops 3 ≡ outcome [] going (at 9 ∷ at 8 ∷ at 7 ∷ [])
loops-on = refl

-- Sets that are smaller than those by type: each call is of one function, and direct.
abbrev few : Flow
few = record { sets = (11 ∷ []) ∷ (13 ∷ []) ∷ [] ∷ []; number = numbers }
  where
    numbers : Spot → ℕ
    numbers (variable x) = if nat_eq x 10 then 0 else (if nat_eq x 14 then 0 else (if nat_eq x 12 then 1 else 2))
    numbers s = 2

-- The first program meets all that the law asks: it is well formed, with no function by itself, and fits its numbering.

-- where a node stands in the table
abbrev place_of : Node → ℕ
place_of (node (labels ls) ps) = 0
place_of (node arrow []) = 0
place_of (node arrow (a ∷ [])) = 0
place_of (node arrow (a ∷ b ∷ ps)) = if nat_eq b 0 then 2 else 5
place_of (node (name y) ps) = if nat_eq y.stamp 6 then 1 else if nat_eq y.stamp 5 then 3 else 4

stands-at : (n : ℕ) (k : Node) → node_at types n ≡ Some k → place_of k ≡ n
stands-at zero k e = by k (cc)
  where
    by : (k : Node) → node (labels []) [] ≡ k → place_of k ≡ 0
    by k e = ap place_of (sym e)
stands-at (suc zero) k e = by k (cc)
  where
    by : (k : Node) → node (name bool_name) [] ≡ k → place_of k ≡ 1
    by k e = ap place_of (sym e)
stands-at (suc (suc zero)) k e = by k (cc)
  where
    by : (k : Node) → node arrow (0 ∷ 0 ∷ []) ≡ k → place_of k ≡ 2
    by k e = ap place_of (sym e)
stands-at (suc (suc (suc zero))) k e = by k (cc)
  where
    by : (k : Node) → node (name exn_name) [] ≡ k → place_of k ≡ 3
    by k e = ap place_of (sym e)
stands-at (suc (suc (suc (suc zero)))) k e = by k (cc)
  where
    by : (k : Node) → node (name string_name) [] ≡ k → place_of k ≡ 4
    by k e = ap place_of (sym e)
stands-at (suc (suc (suc (suc (suc zero))))) k e = by k (cc)
  where
    by : (k : Node) → node arrow (0 ∷ 2 ∷ []) ≡ k → place_of k ≡ 5
    by k e = ap place_of (sym e)
stands-at (suc (suc (suc (suc (suc (suc n)))))) k e = absurd (cc)

has-constructors : (n c : ℕ) (a : Option ℕ) → constructor_at types n c ≡ Some a → (y : TyName) × (ps : List ℕ) × Is types n (name y) ps × (nat_lt 5 y.stamp ≡ true)
has-constructors zero c a e = absurd (cc)
has-constructors (suc zero) c a e = (bool_name, [], refl, refl)
has-constructors (suc (suc zero)) c a e = absurd (cc)
has-constructors (suc (suc (suc zero))) c a e = absurd (cc)
has-constructors (suc (suc (suc (suc zero)))) c a e = absurd (cc)
has-constructors (suc (suc (suc (suc (suc zero))))) c a e = absurd (cc)
has-constructors (suc (suc (suc (suc (suc (suc n)))))) c a e = absurd (cc)

none-compared : (n : ℕ) → admits types n ≡ true → ⊥
none-compared zero e = cc
none-compared (suc zero) e = cc
none-compared (suc (suc zero)) e = cc
none-compared (suc (suc (suc zero))) e = cc
none-compared (suc (suc (suc (suc zero)))) e = cc
none-compared (suc (suc (suc (suc (suc zero))))) e = cc
none-compared (suc (suc (suc (suc (suc (suc n)))))) e = cc

truth-values : (b : Bool) → constructor_at types bool_number (truth_number b) ≡ Some None
truth-values true = refl
truth-values false = refl

is-table : IsTable types
is-table = record {
  once = λ n m k e f. sym (stands-at n k e) ∙ stands-at m k f;
  unit = refl;
  bool = refl;
  truths = truth-values;
  datatypes = has-constructors;
  comparable = λ n e. absurd (none-compared n e);
}

calls-typed : Typed types false [] calls 0
calls-typed =
    t_let (t_fn (t_last refl (t_ret refl))) (t_let (t_fn (t_last refl (t_let (t_use refl) (t_let (t_app refl refl refl) (t_ret refl)))))
    (t_let (t_make_record no_row_typed refl distinct_none) (t_let (t_app refl refl refl) (t_ret refl))))

calls-local : IsLocal (mono types) [] calls
calls-local =
    let_scoped (fn_scoped (last_scoped (ret_scoped (among_here refl))))
    (let_scoped (fn_scoped (last_scoped (let_scoped (use_scoped tt) (let_scoped (app_scoped (among_here refl) (among_there (among_here refl))) (ret_scoped (among_here refl))))))
    (let_scoped (make_record_scoped no_row_scoped) (let_scoped (app_scoped (among_there (among_here refl)) (among_here refl)) (ret_scoped (among_here refl)))))

-- a number is one of those that are different at most once
hit-one : (k x : ℕ) → hit k x ≤ 1
hit-one k x = by (nat_eq k x)
  where
    by : (b : Bool) → (if b then 1 else 0) ≤ 1
    by true = omega arith
    by false = omega arith

abbrev bit : Bool → ℕ
bit b = if b then 1 else 0

hit-is : (k x : ℕ) → (hit k x ≡ 0) ⊎ (k ≡ x)
hit-is k x = by (nat_eq k x) refl
  where
    by : (b : Bool) → nat_eq k x ≡ b → (bit b ≡ 0) ⊎ (k ≡ x)
    by true e = inr (eqb-true k x e)
    by false e = inl refl

calls-once-bound : IsOnce {F = mono types} (λ x. x) calls
calls-once-bound k = by (hit-is k 10) (hit-is k 11) (hit-is k 12) (hit-is k 13) (hit-is k 14) (hit-is k 15) (hit-is k 16)
  where
    last-one : hit k 17 ≤ 1
    last-one = hit-one k 17

    by : (hit k 10 ≡ 0) ⊎ (k ≡ 10) → (hit k 11 ≡ 0) ⊎ (k ≡ 11) → (hit k 12 ≡ 0) ⊎ (k ≡ 12) → (hit k 13 ≡ 0) ⊎ (k ≡ 13) → (hit k 14 ≡ 0) ⊎ (k ≡ 14) → (hit k 15 ≡ 0) ⊎ (k ≡ 15)
        → (hit k 16 ≡ 0) ⊎ (k ≡ 16) → times {F = mono types} (λ x. hit k x) calls ≤ 1
    by (inr e) b c d f g h = subst (λ z. times {F = mono types} (λ x. hit z x) calls ≤ 1) (sym e) (omega arith)
    by (inl a) (inr e) c d f g h = subst (λ z. times {F = mono types} (λ x. hit z x) calls ≤ 1) (sym e) (omega arith)
    by (inl a) (inl b) (inr e) d f g h = subst (λ z. times {F = mono types} (λ x. hit z x) calls ≤ 1) (sym e) (omega arith)
    by (inl a) (inl b) (inl c) (inr e) f g h = subst (λ z. times {F = mono types} (λ x. hit z x) calls ≤ 1) (sym e) (omega arith)
    by (inl a) (inl b) (inl c) (inl d) (inr e) g h = subst (λ z. times {F = mono types} (λ x. hit z x) calls ≤ 1) (sym e) (omega arith)
    by (inl a) (inl b) (inl c) (inl d) (inl f) (inr e) h = subst (λ z. times {F = mono types} (λ x. hit z x) calls ≤ 1) (sym e) (omega arith)
    by (inl a) (inl b) (inl c) (inl d) (inl f) (inl g) (inr e) = subst (λ z. times {F = mono types} (λ x. hit z x) calls ≤ 1) (sym e) (omega arith)
    by (inl a) (inl b) (inl c) (inl d) (inl f) (inl g) (inl h) = omega (arith, a, b, c, d, f, g, h, last-one)

calls-well : IsWellFormed (of_body calls)
calls-well = record { table = is-table; initial = refl; type = 0; typed = calls-typed; once = calls-once-bound; local = calls-local }

calls-explicit : IsExplicit types [] calls
calls-explicit = (tt, (((λ a e. cc), (tt, tt)), (tt, (tt, tt))))

calls-fit : Fits (setting (numbered places) ((104 ∷ []) ∷ []) (by_type (of_body calls)) (table_of types calls) (of_body calls)) calls
calls-fit = (
  refl,
  (
    (refl, refl),
    (
      refl,
      (
        (refl, (refl, (tt, (refl, ((refl, refl), refl))))),
        (refl, (record { labels_of = []; types_of = []; is = refl; distinct = distinct_none; in_order = no_row_fits }, (refl, ((refl, refl), refl)))),
      ),
    ),
  ),
)

calls-numbered : IsNumbered types (numbered places) calls
calls-numbered zero k e = let s : 11 ≡ k = cc in ap places (sym s)
calls-numbered (suc zero) k e = let s : 13 ≡ k = cc in ap places (sym s)
calls-numbered (suc (suc i)) k e = absurd (cc)

-- both functions are in the set of their type, with tags of their own
one-of-two : (k : ℕ) → is_in k (11 ∷ 13 ∷ []) ≡ true → (k ≡ 11) ⊎ (k ≡ 13)
one-of-two k h = by (nat_eq k 11) (nat_eq k 13) refl refl h
  where
    by : (a b : Bool) → nat_eq k 11 ≡ a → nat_eq k 13 ≡ b → (a || (b || false)) ≡ true → (k ≡ 11) ⊎ (k ≡ 13)
    by true b p q h = inl (eqb-true k 11 p)
    by false true p q h = inr (eqb-true k 13 q)
    by false false p q h = absurd (cc)

two-apart : (j k : ℕ) → (j ≡ 11) ⊎ (j ≡ 13) → (k ≡ 11) ⊎ (k ≡ 13) → places j ≡ places k → j ≡ k
two-apart j k (inl p) (inl q) e = p ∙ sym q
two-apart j k (inl p) (inr q) e = absurd (let s : places 11 ≡ places 13 = ap places (sym p) ∙ (e ∙ ap places q) in cc)
two-apart j k (inr p) (inl q) e = absurd (let s : places 13 ≡ places 11 = ap places (sym p) ∙ (e ∙ ap places q) in cc)
two-apart j k (inr p) (inr q) e = p ∙ sym q

calls-apart : TagsApart (numbered places) (by_type (of_body calls))
calls-apart zero j k i h e = absurd (cc)
calls-apart (suc zero) j k i h e = absurd (cc)
calls-apart (suc (suc zero)) j k i h e = two-apart j k (one-of-two j i) (one-of-two k h) e
calls-apart (suc (suc (suc zero))) j k i h e = absurd (cc)
calls-apart (suc (suc (suc (suc zero)))) j k i h e = absurd (cc)
calls-apart (suc (suc (suc (suc (suc zero))))) j k i h e = absurd (cc)
calls-apart (suc (suc (suc (suc (suc (suc set)))))) j k i h e = absurd (cc)

-- so the law is about it
calls-kept : (m : ℕ) → does places calls m ≡ source.meaning (of_body calls) m
calls-kept m = conversion-by-type (numbered places) ((104 ∷ []) ∷ []) (of_body calls) calls-well calls-explicit calls-fit calls-numbered calls-apart m
