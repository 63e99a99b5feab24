-- Which functions come to which places of a program with simple types. A function is that of a `fn`, or one of a group, and its number is its parameter's
-- variable; what is a function by itself (a constructor, `ref`, a primitive, an exception's name) has no number.
use Rattle.std.specs.Prelude.{◌≡◌, ℕ, true, List, [], get_or, ⊤}
use Rattle.mlc_names.specs.declared.label.Label.{Label}
use Rattle.ir_mono.specs.of_ir_values.Primitives.{Sort, assigns, sort_of}
use Rattle.ir_mono.specs.of_ir_plain.Tree.{Case, is_literal, is_con, is_con_of, is_exn, is_exn_of, is_record, Atoms, no_atoms, an_atom, Row, no_row, a_row, ret, let_in, exception_in, name_in, rec_in, switch, first, miss, counted, Arms, no_arms, arm, Op, use_of, const, con_alone, construct, ref_alone, refer, pack, make_record, select, prim_alone, prim, app, fn, block, handle, raise, raise_initial, Fun, last, more, Funs, no_funs, fun}
use Rattle.ir_mono.specs.of_ir_plain.Tree as tree
use Rattle.ir_mono.specs.Types as table
use Rattle.ir_mono.specs.Mono.{mono, Mono}
use Rattle.flow_sets.specs.Member.{is_in, Within}

-- A spot is what has a set: a variable (the parameter of a function is that of its number), the result of a function, a field of a record, the argument of a
-- constructor, what references hold, and what packets carry; these by the number of their type, as values keep it.
pub data Spot : Type 0 where
  variable : (x : ℕ) → Spot
  result : (k : ℕ) → Spot
  field : (t : ℕ) → Label → Spot
  argument : (t c : ℕ) → Spot
  content : (t : ℕ) → Spot
  carried : (t : ℕ) → Spot

-- the distinct sets, and the number of each spot's set
pub record Flow : Type 0 where
  pub sets : List (List ℕ)
  pub number : Spot → ℕ

-- the functions that come to a spot
abbrev pub at : Flow → Spot → List ℕ
at flow spot = get_or flow.sets (flow.number spot) []

module _ (types : List table.Row) where
  abbrev pub number_of : Fun (mono types) → ℕ
  number_of (last x t e) = x
  number_of (more x t f) = x

  module _ (flow : Flow) where
    -- for each function of the operator, the argument flows to its parameter, and its result to this set
    abbrev pub Connects : (operator argument to : List ℕ) → Type 0
    Connects fs as_ to = (k : ℕ) → is_in k fs ≡ true → Within as_ (at flow (variable k)) × Within (at flow (result k)) to

    abbrev pub SolvesRow : (t : ℕ) → Row (mono types) → Type 0
    SolvesRow t no_row = ⊤
    SolvesRow t (a_row l a row) = Within (at flow (variable a)) (at flow (field t l)) × SolvesRow t row

    -- only an assignment puts a value where others find it
    abbrev pub SolvesPrim : Sort → (t : ℕ) → Atoms (mono types) → Type 0
    SolvesPrim assigns t (an_atom r (an_atom a as_)) = Within (at flow (variable a)) (at flow (content t))
    SolvesPrim s t as_ = ⊤

    abbrev pub SolvesCase : (t : ℕ) → Case (mono types) → Type 0
    SolvesCase t (is_literal l) = ⊤
    SolvesCase t (is_con c) = ⊤
    SolvesCase t (is_con_of c x u) = Within (at flow (argument t c)) (at flow (variable x))
    SolvesCase t (is_exn y) = ⊤
    SolvesCase t (is_exn_of y x u) = Within (at flow (carried u)) (at flow (variable x))
    SolvesCase t (is_record size) = ⊤

    -- all flows of a program are within the sets, where what an expression gives goes to a set
    abbrev mutual
      pub Solves : List ℕ → Mono types → Type 0
      Solves to (ret a) = Within (at flow (variable a)) to
      Solves to (let_in x ps t o e) = SolvesOp (at flow (variable x)) o × Solves to e
      Solves to (exception_in x i t e) = Solves to e
      Solves to (name_in x y e) = Solves to e
      Solves to (rec_in ps fs e) = SolvesFuns fs × Solves to e
      Solves to (switch a t arms) = SolvesArms to t arms
      Solves to (first e d) = Solves to e × Solves to d
      Solves to miss = ⊤
      Solves to (counted n e) = Solves to e

      pub SolvesArms : List ℕ → (t : ℕ) → Arms (mono types) → Type 0
      SolvesArms to t no_arms = ⊤
      SolvesArms to t (arm c e arms) = SolvesCase t c × (Solves to e × SolvesArms to t arms)

      pub SolvesOp : List ℕ → Op (mono types) → Type 0
      SolvesOp to (use_of x) = Within (at flow (variable x)) to
      SolvesOp to (const l) = ⊤
      SolvesOp to (con_alone c t) = ⊤
      SolvesOp to (construct m c t a) = Within (at flow (variable a)) (at flow (argument t c))
      SolvesOp to (ref_alone t) = ⊤
      SolvesOp to (refer m t a) = Within (at flow (variable a)) (at flow (content t))
      SolvesOp to (tree.content t a) = Within (at flow (content t)) to
      SolvesOp to (pack m t y a) = Within (at flow (variable a)) (at flow (carried t))
      SolvesOp to (make_record t row) = SolvesRow t row
      SolvesOp to (select t l a) = Within (at flow (field t l)) to
      SolvesOp to (prim_alone p t) = ⊤
      SolvesOp to (prim m p t as_) = SolvesPrim (sort_of p) t as_
      SolvesOp to (app place f a) = Connects (at flow (variable f)) (at flow (variable a)) to
      SolvesOp to (fn f) = (is_in (number_of f) to ≡ true) × SolvesFun f
      SolvesOp to (block e) = Solves to e
      SolvesOp to (handle e x d) = Solves to e × Solves to d
      SolvesOp to (raise a) = ⊤
      SolvesOp to (raise_initial i) = ⊤

      pub SolvesFun : Fun (mono types) → Type 0
      SolvesFun (last x t e) = Solves (at flow (result x)) e
      SolvesFun (more x t f) = (is_in (number_of f) (at flow (result x)) ≡ true) × SolvesFun f

      pub SolvesFuns : Funs (mono types) → Type 0
      SolvesFuns no_funs = ⊤
      SolvesFuns (fun x t f fs) = (is_in (number_of f) (at flow (variable x)) ≡ true) × (SolvesFun f × SolvesFuns fs)

-- of a whole program: nothing is done with what it gives, so that may go to any set
abbrev pub SolvesProgram : (types : List table.Row) → Flow → Mono types → Type 0
SolvesProgram types flow e = (to : List ℕ) × Solves types flow to e

-- the sets are within those of every other solution
abbrev pub IsLeast : (types : List table.Row) → Flow → Mono types → Type 0
IsLeast types flow e = SolvesProgram types flow e × ((other : Flow) → SolvesProgram types other e → (spot : Spot) → Within (at flow spot) (at other spot))
