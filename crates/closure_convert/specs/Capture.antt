-- The table of captures: in the order of binding, so that what is captured of what the function around captured is in few runs.
use Rattle.std.specs.Prelude.{ℕ, zero, suc, Bool, false, ◌||◌, List, [], ◌∷◌, ◌++◌, Option, Some, None, nat_eq, if◌then◌else◌}
use Rattle.flow_sets.specs.of_ir_plain.Tree.{Exception, fixed, held, ret, let_in, exception_in, name_in, rec_in, switch, first, miss, counted, Arms, no_arms, arm, Op, use_of, const, con_alone, construct, ref_alone, refer, content, pack, make_record, select, prim_alone, prim, app, fn, block, handle, raise, raise_initial, Fun, last, more, Funs, no_funs, fun}
use Rattle.flow_sets.specs.of_ir_mono.Types as table
use Rattle.flow_sets.specs.of_ir_mono.Mono.{mono, Mono}
use Rattle.flow_sets.specs.Member.{is_in}
use Rattle.closure_convert.specs.Scope.{Member, names, Scope, add, add_all, is_way, way, index_of, Piece, alone, those, Table, top}
use Rattle.closure_convert.specs.Closed.{scope_of, members, case_scope}

-- the last first, before the rest
abbrev pub onto : List ℕ → List ℕ → List ℕ
onto [] ys = ys
onto (x ∷ xs) ys = onto xs (x ∷ ys)

-- what a body can use, outermost first
abbrev pub visible : Scope → List ℕ
visible s = s.captured ++ (names s.group ++ onto s.locals [])

abbrev pub kept : (ℕ → Bool) → List ℕ → List ℕ
kept p [] = []
kept p (x ∷ xs) = if p x then x ∷ kept p xs else kept p xs

-- whether it is read from what was captured
abbrev pub is_outer : Scope → ℕ → Bool
is_outer s y = if is_in y s.locals then false else (if is_way (way y s.group) then false else is_in y s.captured)

-- one more before a run, where it stands just before it
abbrev pub add_run : ℕ → List Piece → List Piece
add_run i [] = those i (suc zero) ∷ []
add_run i (alone y ∷ ps) = those i (suc zero) ∷ (alone y ∷ ps)
add_run i (those j n ∷ ps) = if nat_eq j (suc i) then those i (suc n) ∷ ps else those i (suc zero) ∷ (those j n ∷ ps)

-- the pieces that make these
abbrev pub cut : Scope → List ℕ → List Piece
cut s [] = []
cut s (y ∷ ys) = if is_outer s y then add_run (index_of y s.captured) (cut s ys) else alone y ∷ cut s ys

pub record Entry : Type 0 where
  pub number : ℕ
  pub captured : List ℕ
  pub pieces : List Piece

module _ (types : List table.Row) where
  -- y is used: only a use and an exception's name that is brought in reach into functions around
  abbrev pub occurs_name : ℕ → Exception (mono types) → Bool
  occurs_name y (fixed n) = false
  occurs_name y (held x) = nat_eq y x

  abbrev mutual
    pub occurs : ℕ → Mono types → Bool
    occurs y (ret a) = false
    occurs y (let_in x ps t o e) = occurs_op y o || occurs y e
    occurs y (exception_in x i t e) = occurs y e
    occurs y (name_in x n e) = occurs_name y n || occurs y e
    occurs y (rec_in ps fs e) = occurs_funs y fs || occurs y e
    occurs y (switch a t arms) = occurs_arms y arms
    occurs y (first e d) = occurs y e || occurs y d
    occurs y miss = false
    occurs y (counted n e) = occurs y e

    pub occurs_arms : ℕ → Arms (mono types) → Bool
    occurs_arms y no_arms = false
    occurs_arms y (arm c e arms) = occurs y e || occurs_arms y arms

    pub occurs_op : ℕ → Op (mono types) → Bool
    occurs_op y (use_of x) = nat_eq y x
    occurs_op y (const l) = false
    occurs_op y (con_alone c t) = false
    occurs_op y (construct m c t a) = false
    occurs_op y (ref_alone t) = false
    occurs_op y (refer m t a) = false
    occurs_op y (content t a) = false
    occurs_op y (pack m t x a) = false
    occurs_op y (make_record t row) = false
    occurs_op y (select t l a) = false
    occurs_op y (prim_alone p t) = false
    occurs_op y (prim m p t as_) = false
    occurs_op y (app place f a) = false
    occurs_op y (fn f) = occurs_fun y f
    occurs_op y (block e) = occurs y e
    occurs_op y (handle e x d) = occurs y e || occurs y d
    occurs_op y (raise a) = false
    occurs_op y (raise_initial i) = false

    pub occurs_fun : ℕ → Fun (mono types) → Bool
    occurs_fun y (last x t e) = occurs y e
    occurs_fun y (more x t f) = occurs_fun y f

    pub occurs_funs : ℕ → Funs (mono types) → Bool
    occurs_funs y no_funs = false
    occurs_funs y (fun x t f fs) = occurs_fun y f || occurs_funs y fs

  abbrev pub wanted : Scope → Fun (mono types) → List ℕ
  wanted s f = kept (λ y. occurs_fun y f) (visible s)

  abbrev pub wanted_all : Scope → Funs (mono types) → List ℕ
  wanted_all s fs = kept (λ y. occurs_funs y fs) (visible s)

  -- before those that are there
  abbrev mutual
    pub tabulate : Scope → Mono types → List Entry → List Entry
    tabulate s (ret a) es = es
    tabulate s (let_in x ps t o e) es = tabulate_op s o (tabulate (add x s) e es)
    tabulate s (exception_in x i t e) es = tabulate (add x s) e es
    tabulate s (name_in x n e) es = tabulate (add x s) e es
    tabulate s (rec_in ps fs e) es =
        tabulate_funs (cut s (wanted_all s fs)) (wanted_all s fs) (members types fs) fs (tabulate (add_all (names (members types fs)) s) e es)
    tabulate s (switch a t arms) es = tabulate_arms s arms es
    tabulate s (first e d) es = tabulate s e (tabulate s d es)
    tabulate s miss es = es
    tabulate s (counted n e) es = tabulate s e es

    pub tabulate_arms : Scope → Arms (mono types) → List Entry → List Entry
    tabulate_arms s no_arms es = es
    tabulate_arms s (arm c e arms) es = tabulate (case_scope types c s) e (tabulate_arms s arms es)

    pub tabulate_op : Scope → Op (mono types) → List Entry → List Entry
    tabulate_op s (use_of x) es = es
    tabulate_op s (const l) es = es
    tabulate_op s (con_alone c t) es = es
    tabulate_op s (construct m c t a) es = es
    tabulate_op s (ref_alone t) es = es
    tabulate_op s (refer m t a) es = es
    tabulate_op s (content t a) es = es
    tabulate_op s (pack m t x a) es = es
    tabulate_op s (make_record t row) es = es
    tabulate_op s (select t l a) es = es
    tabulate_op s (prim_alone p t) es = es
    tabulate_op s (prim m p t as_) es = es
    tabulate_op s (app place f a) es = es
    tabulate_op s (fn f) es = tabulate_fun (cut s (wanted s f)) (wanted s f) [] f es
    tabulate_op s (block e) es = tabulate s e es
    tabulate_op s (handle e x d) es = tabulate s e (tabulate (add x s) d es)
    tabulate_op s (raise a) es = es
    tabulate_op s (raise_initial i) es = es

    -- a function alone or of a group, with what is captured
    pub tabulate_fun : List Piece → List ℕ → List Member → Fun (mono types) → List Entry → List Entry
    tabulate_fun ps cs ms (last x t e) es = record { number = x; captured = cs; pieces = ps } ∷ tabulate (scope_of cs ms x) e es
    tabulate_fun ps cs ms (more x t f) es =
        record { number = x; captured = cs; pieces = ps }
        ∷ tabulate_fun (cut (scope_of cs ms x) (wanted (scope_of cs ms x) f)) (wanted (scope_of cs ms x) f) [] f es

    pub tabulate_funs : List Piece → List ℕ → List Member → Funs (mono types) → List Entry → List Entry
    tabulate_funs ps cs ms no_funs es = es
    tabulate_funs ps cs ms (fun x t f fs) es = tabulate_fun ps cs ms f (tabulate_funs ps cs ms fs es)

abbrev pub entry_of : ℕ → List Entry → Option Entry
entry_of k [] = None
entry_of k (e ∷ es) = if nat_eq k e.number then Some e else entry_of k es

abbrev pub captured_in : Option Entry → List ℕ
captured_in None = []
captured_in (Some e) = e.captured

abbrev pub pieces_in : Option Entry → List Piece
pieces_in None = []
pieces_in (Some e) = e.pieces

abbrev pub table_in : List Entry → Table
table_in es = record { captured = λ k. captured_in (entry_of k es); pieces = λ k. pieces_in (entry_of k es) }

abbrev pub table_of : (types : List table.Row) → Mono types → Table
table_of types e = table_in (tabulate types top e [])
