-- The coarse sets: at each spot all functions of its type. The set's number is the type's.
use Rattle.std.specs.Prelude.{ℕ, zero, suc, Bool, false, List, [], ◌∷◌, ◌++◌, length, Option, Some, None, option_and_then, nat_eq, if◌then◌else◌}
use Rattle.ty_core.specs.Types.{arrow}
use Rattle.ir_mono.specs.of_ir_plain.Tree.{Case, is_literal, is_con, is_con_of, is_exn, is_exn_of, is_record, ret, let_in, exception_in, name_in, rec_in, switch, first, miss, counted, Arms, no_arms, arm, Op, use_of, const, con_alone, construct, ref_alone, refer, pack, make_record, select, prim_alone, prim, app, fn, block, handle, raise, raise_initial, Fun, last, more, Funs, no_funs, fun}
use Rattle.ir_mono.specs.of_ir_plain.Tree as tree
use Rattle.ir_mono.specs.Types.{Node, node, node_at, constructor_at, part_of}
use Rattle.ir_mono.specs.Types as table
use Rattle.ir_mono.specs.Mono.{mono, Mono, Program}
use Rattle.flow_sets.specs.Flow.{Spot, variable, result, field, argument, content, carried, Flow}

-- what a variable is: a value of a type, the name of an exception, or the parameter of a function of a type
pub data What : Type 0 where
  value : (t : ℕ) → What
  name : What
  parameter : (function : ℕ) → What

pub record Bound : Type 0 where
  pub variable : ℕ
  pub what : What

abbrev pub bound_in : ℕ → List Bound → Option Bound
bound_in x [] = None
bound_in x (b ∷ bs) = if nat_eq x b.variable then Some b else bound_in x bs

abbrev pub is_of : ℕ → What → Bool
is_of t (value u) = false
is_of t name = false
is_of t (parameter u) = nat_eq t u

-- the functions of a type
abbrev pub members : ℕ → List Bound → List ℕ
members t [] = []
members t (b ∷ bs) = if is_of t b.what then b.variable ∷ members t bs else members t bs

-- of n types from t on
abbrev pub sets_from : (t n : ℕ) → List Bound → List (List ℕ)
sets_from t zero bs = []
sets_from t (suc n) bs = members t bs ∷ sets_from (suc t) n bs

module _ (types : List table.Row) where
  -- the number of no set
  abbrev pub nothing : ℕ
  nothing = length types

  abbrev pub or_nothing : Option ℕ → ℕ
  or_nothing None = nothing
  or_nothing (Some t) = t

  abbrev pub takes : Option Node → ℕ
  takes (Some (node arrow (a ∷ b ∷ []))) = a
  takes o = nothing

  abbrev pub gives : Option Node → ℕ
  gives (Some (node arrow (a ∷ b ∷ []))) = b
  gives o = nothing

  -- what the program binds
  abbrev pub bound_case : Case (mono types) → List Bound
  bound_case (is_literal l) = []
  bound_case (is_con c) = []
  bound_case (is_con_of c x t) = record { variable = x; what = value t } ∷ []
  bound_case (is_exn y) = []
  bound_case (is_exn_of y x t) = record { variable = x; what = value t } ∷ []
  bound_case (is_record size) = []

  abbrev mutual
    pub bound : Mono types → List Bound
    bound (ret a) = []
    bound (let_in x ps t o e) = record { variable = x; what = value t } ∷ (bound_op t o ++ bound e)
    bound (exception_in x i t e) = record { variable = x; what = name } ∷ bound e
    bound (name_in x y e) = record { variable = x; what = name } ∷ bound e
    bound (rec_in ps fs e) = bound_funs fs ++ bound e
    bound (switch a t arms) = bound_arms arms
    bound (first e d) = bound e ++ bound d
    bound miss = []
    bound (counted n e) = bound e

    pub bound_arms : Arms (mono types) → List Bound
    bound_arms no_arms = []
    bound_arms (arm c e arms) = bound_case c ++ (bound e ++ bound_arms arms)

    -- an operation that gives a value of type t
    pub bound_op : (t : ℕ) → Op (mono types) → List Bound
    bound_op t (use_of x) = []
    bound_op t (const l) = []
    bound_op t (con_alone c u) = []
    bound_op t (construct m c u a) = []
    bound_op t (ref_alone u) = []
    bound_op t (refer m u a) = []
    bound_op t (tree.content u a) = []
    bound_op t (pack m u y a) = []
    bound_op t (make_record u row) = []
    bound_op t (select u l a) = []
    bound_op t (prim_alone p u) = []
    bound_op t (prim m p u as_) = []
    bound_op t (app place f a) = []
    bound_op t (fn f) = bound_fun t f
    bound_op t (block e) = bound e
    bound_op t (handle e x d) = record { variable = x; what = value nothing } ∷ (bound e ++ bound d)
    bound_op t (raise a) = []
    bound_op t (raise_initial i) = []

    -- a function of type t; one that gives a function has that one's type from its own
    pub bound_fun : (t : ℕ) → Fun (mono types) → List Bound
    bound_fun t (last x u e) = record { variable = x; what = parameter t } ∷ bound e
    bound_fun t (more x u f) = record { variable = x; what = parameter t } ∷ bound_fun (gives (node_at types t)) f

    pub bound_funs : Funs (mono types) → List Bound
    bound_funs no_funs = []
    bound_funs (fun x t f fs) = record { variable = x; what = value t } ∷ (bound_fun t f ++ bound_funs fs)

  -- the type of a variable: of a parameter, what its function takes
  abbrev pub type_of : Option Bound → ℕ
  type_of None = nothing
  type_of (Some b) = elim b.what [ value t ↦ t | name ↦ nothing | parameter f ↦ takes (node_at types f) ]

  abbrev pub result_of : Option Bound → ℕ
  result_of None = nothing
  result_of (Some b) = elim b.what [ value t ↦ nothing | name ↦ nothing | parameter f ↦ gives (node_at types f) ]

  abbrev pub type_at : List Bound → Spot → ℕ
  type_at bs (variable x) = type_of (bound_in x bs)
  type_at bs (result k) = result_of (bound_in k bs)
  type_at bs (field t l) = or_nothing (option_and_then (part_of l) (node_at types t))
  type_at bs (argument t c) = or_nothing (option_and_then (λ o. o) (constructor_at types t c))
  type_at bs (content t) = t
  type_at bs (carried t) = t

abbrev pub by_type : Program → Flow
by_type p = record { sets = sets_from 0 (length p.types) (bound p.types p.body); number = type_at p.types (bound p.types p.body) }
