-- What the conversion asks of a program, beside its sets and captures: that variables are what their numbering says, the names of exceptions or values; and
-- that constants, constructors and labels are those of the tables.
use Rattle.std.specs.Prelude.{◌≡◌, ℕ, true, false, List, [], ◌∷◌, length, Some, None, nat_lt, ⊤}
use Rattle.mlc_names.specs.declared.label.Label.{Label}
use Rattle.mlc_prims.specs.LitOf.{Literal}
use Rattle.ty_core.specs.Types.{labels}
use Rattle.ir_plain.specs.Tree.{Case, is_literal, is_con, is_con_of, is_exn, is_exn_of, is_record, Exception, fixed, held, Atoms, no_atoms, an_atom, Row, no_row, a_row, ret, let_in, exception_in, name_in, rec_in, switch, first, miss, counted, Arms, no_arms, arm, Op, use_of, const, con_alone, construct, ref_alone, refer, content, pack, make_record, select, prim_alone, prim, app, fn, block, handle, raise, raise_initial, Fun, last, more, Funs, no_funs, fun}
use Rattle.ir_explicit.specs.of_ir_mono.Types as table
use Rattle.ir_explicit.specs.of_ir_mono.Types.{constructor_at, Is, AreDistinct}
use Rattle.ir_explicit.specs.of_ir_mono.Mono.{mono, Mono}
use Rattle.first_values.specs.Operations.{literal_at}
use Rattle.closure_convert.specs.of_flow_sets.Flow.{Flow}
use Rattle.closure_convert.specs.Scope.{Table}
use Rattle.closure_meaning.specs.Convert.{Numbering, constant, tables}

-- all that the conversion of a program is made with
pub record Setting : Type 0 where
  pub types : List table.Row
  pub initial : List ℕ
  pub strings : List (List ℕ)
  pub numbering : Numbering
  pub flow : Flow
  pub captures : Table

module _ (C : Setting) where
  abbrev pub IsValue : ℕ → Type 0
  IsValue x = C.numbering.is_name x ≡ false

  abbrev pub IsName : ℕ → Type 0
  IsName x = C.numbering.is_name x ≡ true

  -- what a constant stands for in the tables
  abbrev pub IsConstant : Literal → Type 0
  IsConstant l = literal_at (tables C.numbering C.strings C.initial C.types C.flow) (constant C.numbering l) ≡ Some l

  abbrev pub IsInitial : ℕ → Type 0
  IsInitial i = nat_lt i (length C.initial) ≡ true

  abbrev pub CaseFits : Case (mono C.types) → Type 0
  CaseFits (is_literal l) = IsConstant l
  CaseFits (is_con c) = ⊤
  CaseFits (is_con_of c x t) = IsValue x
  CaseFits (is_exn y) = IsName y
  CaseFits (is_exn_of y x t) = IsName y × IsValue x
  CaseFits (is_record size) = ⊤

  abbrev pub AtomsFit : Atoms (mono C.types) → Type 0
  AtomsFit no_atoms = ⊤
  AtomsFit (an_atom a as_) = IsValue a × AtomsFit as_

  -- fields in the order of these labels
  pub data RowFits : Row (mono C.types) → List Label → List ℕ → Type 0 where
    no_row_fits : RowFits no_row [] []
    a_row_fits : {l : Label} {a t : ℕ} {row : Row (mono C.types)} {ls : List Label} {ts : List ℕ} → IsValue a → RowFits row ls ts
        → RowFits (a_row l a row) (l ∷ ls) (t ∷ ts)

  -- a record has the fields of its type, in the type's order
  pub record RecordFits (t : ℕ) (row : Row (mono C.types)) : Type 0 where
    pub labels_of : List Label
    pub types_of : List ℕ
    pub is : Is C.types t (labels labels_of) types_of
    pub distinct : AreDistinct labels_of
    pub in_order : RowFits row labels_of types_of

  -- a constructor that takes an argument
  pub record TakesArgument (t c : ℕ) : Type 0 where
    pub argument : ℕ
    pub is : constructor_at C.types t c ≡ Some (Some argument)

  abbrev pub NameFits : Exception (mono C.types) → Type 0
  NameFits (fixed i) = IsInitial i
  NameFits (held y) = IsName y

  abbrev mutual
    pub Fits : Mono C.types → Type 0
    Fits (ret a) = IsValue a
    Fits (let_in x ps t o e) = IsValue x × (OpFits o × Fits e)
    Fits (exception_in x i t e) = IsName x × Fits e
    Fits (name_in x y e) = IsName x × (NameFits y × Fits e)
    Fits (rec_in ps fs e) = FunsFit fs × Fits e
    Fits (switch a t arms) = IsValue a × ArmsFit arms
    Fits (first e d) = Fits e × Fits d
    Fits miss = ⊤
    Fits (counted k e) = Fits e

    pub ArmsFit : Arms (mono C.types) → Type 0
    ArmsFit no_arms = ⊤
    ArmsFit (arm c e arms) = CaseFits c × (Fits e × ArmsFit arms)

    pub OpFits : Op (mono C.types) → Type 0
    OpFits (use_of x) = ⊤
    OpFits (const l) = IsConstant l
    OpFits (con_alone c t) = constructor_at C.types t c ≡ Some None
    OpFits (construct k c t a) = TakesArgument t c × IsValue a
    OpFits (ref_alone t) = ⊤
    OpFits (refer k t a) = IsValue a
    OpFits (content t a) = IsValue a
    OpFits (pack k t y a) = IsName y × IsValue a
    OpFits (make_record t row) = RecordFits t row
    OpFits (select t l a) = IsValue a
    OpFits (prim_alone p t) = ⊤
    OpFits (prim k p t as_) = AtomsFit as_
    OpFits (app place f a) = IsValue f × IsValue a
    OpFits (fn f) = FunFits f
    OpFits (block e) = Fits e
    OpFits (handle e x d) = Fits e × (IsValue x × Fits d)
    OpFits (raise a) = IsValue a
    OpFits (raise_initial i) = IsInitial i

    pub FunFits : Fun (mono C.types) → Type 0
    FunFits (last x t e) = IsValue x × Fits e
    FunFits (more x t f) = IsValue x × FunFits f

    pub FunsFit : Funs (mono C.types) → Type 0
    FunsFit no_funs = ⊤
    FunsFit (fun x t f fs) = IsValue x × (FunFits f × FunsFit fs)
