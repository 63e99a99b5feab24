-- A right table: every variable that a body uses is bound in it, is a function of its group, or is captured, and the pieces of each closure make what it
-- captures. Atoms are bound in the body.
use Rattle.std.specs.Prelude.{◌≡◌, ℕ, zero, true, false, List, [], ◌∷◌, ⊤}
use Rattle.flow_sets.specs.of_ir_plain.Tree.{Case, is_literal, is_con, is_con_of, is_exn, is_exn_of, is_record, Exception, fixed, held, Atoms, no_atoms, an_atom, Row, no_row, a_row, ret, let_in, exception_in, name_in, rec_in, switch, first, miss, counted, Arms, no_arms, arm, Op, use_of, const, con_alone, construct, ref_alone, refer, content, pack, make_record, select, prim_alone, prim, app, fn, block, handle, raise, raise_initial, Fun, last, more, Funs, no_funs, fun}
use Rattle.flow_sets.specs.of_ir_mono.Types as table
use Rattle.flow_sets.specs.of_ir_mono.Mono.{mono, Mono}
use Rattle.flow_sets.specs.Member.{is_in}
use Rattle.flow_sets.specs.Flow.{number_of}
use Rattle.closure_convert.specs.Scope.{Member, names, Scope, add, add_all, reaches, Makes, Table}

abbrev pub IsLocal : Scope → ℕ → Type 0
IsLocal s x = is_in x s.locals ≡ true

-- in a function of a group, or alone: its parameter is bound, and it captured these
abbrev pub scope_of : List ℕ → List Member → (x : ℕ) → Scope
scope_of cs ms x = record { locals = x ∷ []; group = ms; captured = cs }

-- the closure of a function alone, or of the first of a group, is made of what it captures
abbrev pub IsMade : Table → Scope → (k : ℕ) → Type 0
IsMade captures s k = Makes s (captures.pieces k) (captures.captured k)

-- of a group the first is made, and its name isn't another's
abbrev pub GroupMade : Table → Scope → List Member → Type 0
GroupMade captures s [] = ⊤
GroupMade captures s (m ∷ ms) = IsMade captures s m.number × (is_in m.name (names ms) ≡ false)

module _ (types : List table.Row) where
  abbrev pub members : Funs (mono types) → List Member
  members no_funs = []
  members (fun x t f fs) = record { name = x; number = number_of types f } ∷ members fs

  -- the number of the first, by which the table has what the group captures
  abbrev pub leader : Funs (mono types) → ℕ
  leader no_funs = zero
  leader (fun x t f fs) = number_of types f

  abbrev pub case_scope : Case (mono types) → Scope → Scope
  case_scope (is_literal l) s = s
  case_scope (is_con c) s = s
  case_scope (is_con_of c x t) s = add x s
  case_scope (is_exn y) s = s
  case_scope (is_exn_of y x t) s = add x s
  case_scope (is_record size) s = s

  abbrev pub CaseClosed : Scope → Case (mono types) → Type 0
  CaseClosed s (is_literal l) = ⊤
  CaseClosed s (is_con c) = ⊤
  CaseClosed s (is_con_of c x t) = ⊤
  CaseClosed s (is_exn y) = IsLocal s y
  CaseClosed s (is_exn_of y x t) = IsLocal s y
  CaseClosed s (is_record size) = ⊤

  abbrev pub AtomsClosed : Scope → Atoms (mono types) → Type 0
  AtomsClosed s no_atoms = ⊤
  AtomsClosed s (an_atom a as_) = IsLocal s a × AtomsClosed s as_

  abbrev pub RowClosed : Scope → Row (mono types) → Type 0
  RowClosed s no_row = ⊤
  RowClosed s (a_row l a row) = IsLocal s a × RowClosed s row

  abbrev pub NameClosed : Scope → Exception (mono types) → Type 0
  NameClosed s (fixed n) = ⊤
  NameClosed s (held y) = reaches s y ≡ true

  module _ (captures : Table) where
    abbrev mutual
      pub IsClosed : Scope → Mono types → Type 0
      IsClosed s (ret a) = IsLocal s a
      IsClosed s (let_in x ps t o e) = OpClosed s o × IsClosed (add x s) e
      IsClosed s (exception_in x i t e) = IsClosed (add x s) e
      IsClosed s (name_in x y e) = NameClosed s y × IsClosed (add x s) e
      IsClosed s (rec_in ps fs e) = GroupMade captures s (members fs) × (FunsClosed (leader fs) (members fs) fs × IsClosed (add_all (names (members fs)) s) e)
      IsClosed s (switch a t arms) = IsLocal s a × ArmsClosed s arms
      IsClosed s (first e d) = IsClosed s e × IsClosed s d
      IsClosed s miss = ⊤
      IsClosed s (counted n e) = IsClosed s e

      pub ArmsClosed : Scope → Arms (mono types) → Type 0
      ArmsClosed s no_arms = ⊤
      ArmsClosed s (arm c e arms) = CaseClosed s c × (IsClosed (case_scope c s) e × ArmsClosed s arms)

      pub OpClosed : Scope → Op (mono types) → Type 0
      OpClosed s (use_of x) = reaches s x ≡ true
      OpClosed s (const l) = ⊤
      OpClosed s (con_alone c t) = ⊤
      OpClosed s (construct m c t a) = IsLocal s a
      OpClosed s (ref_alone t) = ⊤
      OpClosed s (refer m t a) = IsLocal s a
      OpClosed s (content t a) = IsLocal s a
      OpClosed s (pack m t y a) = IsLocal s y × IsLocal s a
      OpClosed s (make_record t row) = RowClosed s row
      OpClosed s (select t l a) = IsLocal s a
      OpClosed s (prim_alone p t) = ⊤
      OpClosed s (prim m p t as_) = AtomsClosed s as_
      OpClosed s (app place f a) = IsLocal s f × IsLocal s a
      OpClosed s (fn f) = IsMade captures s (number_of types f) × FunClosed (number_of types f) [] f
      OpClosed s (block e) = IsClosed s e
      OpClosed s (handle e x d) = IsClosed s e × IsClosed (add x s) d
      OpClosed s (raise a) = IsLocal s a
      OpClosed s (raise_initial i) = ⊤

      -- of a group whose first is g, or alone
      pub FunClosed : (g : ℕ) → List Member → Fun (mono types) → Type 0
      FunClosed g ms (last x t e) = IsClosed (scope_of (captures.captured g) ms x) e
      FunClosed g ms (more x t f) = IsMade captures (scope_of (captures.captured g) ms x) (number_of types f) × FunClosed (number_of types f) [] f

      pub FunsClosed : (g : ℕ) → List Member → Funs (mono types) → Type 0
      FunsClosed g ms no_funs = ⊤
      FunsClosed g ms (fun x t f fs) = FunClosed g ms f × FunsClosed g ms fs
