-- How large a program with simple types is, of how many pieces its closures are made, and how often it uses variables that may be those of a function around.
use Rattle.std.specs.Prelude.{ℕ, ◌+◌, List, length}
use Rattle.ir_plain.specs.Tree.{Case, is_literal, is_con, is_con_of, is_exn, is_exn_of, is_record, Exception, fixed, held, Atoms, no_atoms, an_atom, Row, no_row, a_row, ret, let_in, exception_in, name_in, rec_in, switch, first, miss, counted, Arms, no_arms, arm, Op, use_of, const, con_alone, construct, ref_alone, refer, content, pack, make_record, select, prim_alone, prim, app, fn, block, handle, raise, raise_initial, Fun, last, more, Funs, no_funs, fun}
use Rattle.ir_mono.specs.Types as table
use Rattle.ir_mono.specs.Mono.{mono, Mono}
use Rattle.flow_sets.specs.Flow.{number_of}
use Rattle.closure_convert.specs.Scope.{Table}
use Rattle.closure_convert.specs.Closed.{leader}

module _ (types : List table.Row) where
  abbrev pub atoms : Atoms (mono types) → ℕ
  atoms no_atoms = 0
  atoms (an_atom a as_) = 1 + atoms as_

  abbrev pub fields : Row (mono types) → ℕ
  fields no_row = 0
  fields (a_row l a row) = 1 + fields row

  abbrev pub case_nodes : Case (mono types) → ℕ
  case_nodes (is_literal l) = 1
  case_nodes (is_con c) = 1
  case_nodes (is_con_of c x t) = 2
  case_nodes (is_exn y) = 2
  case_nodes (is_exn_of y x t) = 3
  case_nodes (is_record size) = 1

  -- operations, operands, variables that are bound, arms
  abbrev mutual
    pub nodes : Mono types → ℕ
    nodes (ret a) = 2
    nodes (let_in x ps t o e) = 1 + op_nodes o + nodes e
    nodes (exception_in x i t e) = 1 + nodes e
    nodes (name_in x y e) = 2 + nodes e
    nodes (rec_in ps fs e) = funs_nodes fs + nodes e
    nodes (switch a t arms) = 2 + arms_nodes arms
    nodes (first e d) = 1 + nodes e + nodes d
    nodes miss = 1
    nodes (counted k e) = nodes e

    pub arms_nodes : Arms (mono types) → ℕ
    arms_nodes no_arms = 0
    arms_nodes (arm c e arms) = case_nodes c + nodes e + arms_nodes arms

    pub op_nodes : Op (mono types) → ℕ
    op_nodes (use_of x) = 2
    op_nodes (const l) = 1
    op_nodes (con_alone c t) = 1
    op_nodes (construct m c t a) = 2
    op_nodes (ref_alone t) = 1
    op_nodes (refer m t a) = 2
    op_nodes (content t a) = 2
    op_nodes (pack m t y a) = 3
    op_nodes (make_record t row) = 1 + fields row
    op_nodes (select t l a) = 2
    op_nodes (prim_alone p t) = 1
    op_nodes (prim m p t as_) = 1 + atoms as_
    op_nodes (app place f a) = 3
    op_nodes (fn f) = fun_nodes f
    op_nodes (block e) = 1 + nodes e
    op_nodes (handle e x d) = 2 + nodes e + nodes d
    op_nodes (raise a) = 2
    op_nodes (raise_initial i) = 2

    pub fun_nodes : Fun (mono types) → ℕ
    fun_nodes (last x t e) = 2 + nodes e
    fun_nodes (more x t f) = 2 + fun_nodes f

    pub funs_nodes : Funs (mono types) → ℕ
    funs_nodes no_funs = 0
    funs_nodes (fun x t f fs) = 1 + fun_nodes f + funs_nodes fs

  -- the pieces of all closures that are made: of functions alone, and of groups
  module _ (captures : Table) where
    abbrev pub made : ℕ → ℕ
    made k = length (captures.pieces k)

    abbrev mutual
      pub pieces : Mono types → ℕ
      pieces (ret a) = 0
      pieces (let_in x ps t o e) = op_pieces o + pieces e
      pieces (exception_in x i t e) = pieces e
      pieces (name_in x y e) = pieces e
      pieces (rec_in ps fs e) = made (leader types fs) + funs_pieces fs + pieces e
      pieces (switch a t arms) = arms_pieces arms
      pieces (first e d) = pieces e + pieces d
      pieces miss = 0
      pieces (counted k e) = pieces e

      pub arms_pieces : Arms (mono types) → ℕ
      arms_pieces no_arms = 0
      arms_pieces (arm c e arms) = pieces e + arms_pieces arms

      pub op_pieces : Op (mono types) → ℕ
      op_pieces (use_of x) = 0
      op_pieces (const l) = 0
      op_pieces (con_alone c t) = 0
      op_pieces (construct m c t a) = 0
      op_pieces (ref_alone t) = 0
      op_pieces (refer m t a) = 0
      op_pieces (content t a) = 0
      op_pieces (pack m t y a) = 0
      op_pieces (make_record t row) = 0
      op_pieces (select t l a) = 0
      op_pieces (prim_alone p t) = 0
      op_pieces (prim m p t as_) = 0
      op_pieces (app place f a) = 0
      op_pieces (fn f) = made (number_of types f) + fun_pieces f
      op_pieces (block e) = pieces e
      op_pieces (handle e x d) = pieces e + pieces d
      op_pieces (raise a) = 0
      op_pieces (raise_initial i) = 0

      pub fun_pieces : Fun (mono types) → ℕ
      fun_pieces (last x t e) = pieces e
      fun_pieces (more x t f) = made (number_of types f) + fun_pieces f

      pub funs_pieces : Funs (mono types) → ℕ
      funs_pieces no_funs = 0
      funs_pieces (fun x t f fs) = fun_pieces f + funs_pieces fs

  abbrev pub name_uses : Exception (mono types) → ℕ
  name_uses (fixed n) = 0
  name_uses (held y) = 1

  -- the uses in a text, those of the functions in it too
  abbrev mutual
    pub uses : Mono types → ℕ
    uses (ret a) = 0
    uses (let_in x ps t o e) = op_uses o + uses e
    uses (exception_in x i t e) = uses e
    uses (name_in x y e) = name_uses y + uses e
    uses (rec_in ps fs e) = funs_uses fs + uses e
    uses (switch a t arms) = arms_uses arms
    uses (first e d) = uses e + uses d
    uses miss = 0
    uses (counted k e) = uses e

    pub arms_uses : Arms (mono types) → ℕ
    arms_uses no_arms = 0
    arms_uses (arm c e arms) = uses e + arms_uses arms

    pub op_uses : Op (mono types) → ℕ
    op_uses (use_of x) = 1
    op_uses (const l) = 0
    op_uses (con_alone c t) = 0
    op_uses (construct m c t a) = 0
    op_uses (ref_alone t) = 0
    op_uses (refer m t a) = 0
    op_uses (content t a) = 0
    op_uses (pack m t y a) = 0
    op_uses (make_record t row) = 0
    op_uses (select t l a) = 0
    op_uses (prim_alone p t) = 0
    op_uses (prim m p t as_) = 0
    op_uses (app place f a) = 0
    op_uses (fn f) = fun_uses f
    op_uses (block e) = uses e
    op_uses (handle e x d) = uses e + uses d
    op_uses (raise a) = 0
    op_uses (raise_initial i) = 0

    pub fun_uses : Fun (mono types) → ℕ
    fun_uses (last x t e) = uses e
    fun_uses (more x t f) = fun_uses f

    pub funs_uses : Funs (mono types) → ℕ
    funs_uses no_funs = 0
    funs_uses (fun x t f fs) = fun_uses f + funs_uses fs
