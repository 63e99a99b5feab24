-- The values of a program and those of its conversion.
use Rattle.std.proofs.Common.{◌≡◌, ℕ, List, [], ◌∷◌, Some, None, Bool, true, false, slice_get}
use Rattle.std.specs.Prelude.{⊤}
use Rattle.mlc_names.specs.declared.label.Label.{Label}
use Rattle.mlc_prims.specs.LitOf.{Literal}
use Rattle.mlc_prims.specs.declared.basis.BasisPrimitive.{BasisPrimitive}
use Rattle.ty_core.specs.Types.{labels}
use Rattle.ir_values.specs.Values.{literal, record_of, con, con_of, exn, exn_of, ref, address, cell, primitive, closure, no_fields, field}
use Rattle.ir_plain.specs.Tree as m
use Rattle.ir_plain.specs.Tree.{Fun, last, more, Funs, no_funs, fun}
use Rattle.ir_plain.specs.Meaning.{V, Scope, Parts, Code, alone, one_of, look_up}
use Rattle.ir_explicit.specs.of_ir_mono.Types as table
use Rattle.ir_explicit.specs.of_ir_mono.Types.{constructor_at, Is, AreDistinct}
use Rattle.ir_explicit.specs.of_ir_mono.Mono.{mono, Mono}
use Rattle.first_values.specs.Values as cells
use Rattle.ir_first.specs.Tree as out
use Rattle.closure_convert.specs.of_flow_sets.Member.{is_in, Within}
use Rattle.closure_convert.specs.of_flow_sets.Flow as spots
use Rattle.closure_convert.specs.of_flow_sets.Flow.{variable, at, number_of, SolvesFun}
use Rattle.closure_convert.proofs.of_flow_sets.Member.{in-none}
use Rattle.closure_convert.specs.Closed.{members, leader, FunClosed}
use Rattle.closure_meaning.specs.Convert.{con_tag, code}
use Rattle.closure_meaning.specs.Fits.{Setting, IsValue, FunFits}

module _ (types : List table.Row) where
  abbrev pub Val : Type 0
  Val = V (mono types)

  abbrev pub fun_of : Code (mono types) → Fun (mono types)
  fun_of (alone f) = f
  fun_of (one_of f fs) = f

  abbrev pub group_of : Code (mono types) → Funs (mono types)
  group_of (alone f) = no_funs
  group_of (one_of f fs) = fs

  abbrev pub code_number : Code (mono types) → ℕ
  code_number c = number_of types (fun_of c)

  -- a function is one of these
  abbrev pub IsOneOf : Val → List ℕ → Type 0
  IsOneOf (literal l) ks = ⊤
  IsOneOf (record_of g fs) ks = ⊤
  IsOneOf (con g c) ks = ⊤
  IsOneOf (con_of g c v) ks = ⊤
  IsOneOf (exn g i) ks = ⊤
  IsOneOf (exn_of g i v) ks = ⊤
  IsOneOf (ref g) ks = ⊤
  IsOneOf (address a) ks = ⊤
  IsOneOf (cell g v) ks = ⊤
  IsOneOf (primitive g p) ks = ⊤
  IsOneOf (closure c env) ks = is_in (code_number c) ks ≡ true

  pub widen : (v : Val) {ks ls : List ℕ} → Within ks ls → IsOneOf v ks → IsOneOf v ls
  widen (literal l) w i = tt
  widen (record_of g fs) w i = tt
  widen (con g c) w i = tt
  widen (con_of g c v) w i = tt
  widen (exn g n) w i = tt
  widen (exn_of g n v) w i = tt
  widen (ref g) w i = tt
  widen (address a) w i = tt
  widen (cell g v) w i = tt
  widen (primitive g p) w i = tt
  widen (closure c env) w i = w.all (code_number c) i

  pub of-none : (v : Val) (ks : List ℕ) → IsOneOf v [] → IsOneOf v ks
  of-none v ks i = widen v in-none i

-- what is in the closure of a function alone or the first of its group, and in that of another of the group
abbrev pub held : Bool → (tag : ℕ) → cells.Values → cells.Values
held true tag r = r
held false tag r = cells.value (cells.cell tag r) cells.no_values

module _ (C : Setting) (all : List out.Fun) where
  -- the code of a function
  abbrev pub CodeIs : Bool → (g : ℕ) → Funs (mono C.types) → Fun (mono C.types) → Type 0
  CodeIs q g fs f =
      slice_get all (C.numbering.function (number_of C.types f)) ≡ Some (code C.numbering C.types C.flow C.captures q g (members C.types fs) f)

  -- each function of a tree has its code at its number
  abbrev mutual
    pub Coded : Mono C.types → Type 0
    Coded (m.ret a) = ⊤
    Coded (m.let_in x ps t o e) = CodedOp o × Coded e
    Coded (m.exception_in x i t e) = Coded e
    Coded (m.name_in x y e) = Coded e
    Coded (m.rec_in ps fs e) = CodedFuns true (leader C.types fs) fs fs × Coded e
    Coded (m.switch a t arms) = CodedArms arms
    Coded (m.first e d) = Coded e × Coded d
    Coded m.miss = ⊤
    Coded (m.counted k e) = Coded e

    pub CodedArms : m.Arms (mono C.types) → Type 0
    CodedArms m.no_arms = ⊤
    CodedArms (m.arm c e arms) = Coded e × CodedArms arms

    pub CodedOp : m.Op (mono C.types) → Type 0
    CodedOp (m.fn f) = CodedFun true (number_of C.types f) no_funs f
    CodedOp (m.block b) = Coded b
    CodedOp (m.handle b x d) = Coded b × Coded d
    CodedOp (m.use_of x) = ⊤
    CodedOp (m.const l) = ⊤
    CodedOp (m.con_alone c t) = ⊤
    CodedOp (m.construct k c t a) = ⊤
    CodedOp (m.ref_alone t) = ⊤
    CodedOp (m.refer k t a) = ⊤
    CodedOp (m.content t a) = ⊤
    CodedOp (m.pack k t y a) = ⊤
    CodedOp (m.make_record t row) = ⊤
    CodedOp (m.select t l a) = ⊤
    CodedOp (m.prim_alone p t) = ⊤
    CodedOp (m.prim k p t as_) = ⊤
    CodedOp (m.app place f a) = ⊤
    CodedOp (m.raise a) = ⊤
    CodedOp (m.raise_initial i) = ⊤

    pub CodedFun : Bool → (g : ℕ) → Funs (mono C.types) → Fun (mono C.types) → Type 0
    CodedFun q g fs (last x t e) = CodeIs q g fs (last x t e) × Coded e
    CodedFun q g fs (more x t f) = CodeIs q g fs (more x t f) × CodedFun true (number_of C.types f) no_funs f

    pub CodedFuns : Bool → (g : ℕ) → (group fs : Funs (mono C.types)) → Type 0
    CodedFuns q g group no_funs = ⊤
    CodedFuns q g group (fun x t f fs) = CodedFun q g group f × CodedFuns false g group fs

  abbrev pub CodedIn : Fun (mono C.types) → Type 0
  CodedIn (last x t e) = Coded e
  CodedIn (more x t f) = CodedFun true (number_of C.types f) no_funs f

  -- a function whose body can be entered
  pub record Good (q : Bool) (g : ℕ) (fs : Funs (mono C.types)) (f : Fun (mono C.types)) : Type 0 where
    pub coded : CodeIs q g fs f
    pub solves : SolvesFun C.types C.flow f
    pub inner : CodedIn f
    pub closed : FunClosed C.types C.captures g (members C.types fs) f
    pub fits : FunFits C f
    pub leads : q ≡ true → number_of C.types f ≡ g

  abbrev pub AllGood : Bool → (g : ℕ) → (group fs : Funs (mono C.types)) → Type 0
  AllGood q g group no_funs = ⊤
  AllGood q g group (fun x t f fs) =
      ((is_in (number_of C.types f) (at C.flow (variable x)) ≡ true) × IsValue C x) × (Good q g group f × AllGood false g group fs)

  mutual
    pub data Same : Val C.types → cells.Value → Type 0 where
      same_literal : (l : Literal) → Same (literal l) (cells.literal l)
      same_record : (g : ℕ) {ls : List Label} {ts : List ℕ} {fs : Parts (mono C.types)} {us : cells.Values} → Is C.types g (labels ls) ts → AreDistinct ls
          → SameFields g ls ts fs us → Same (record_of g fs) (cells.cell 0 us)
      same_con : (g c : ℕ) → constructor_at C.types g c ≡ Some None → Same (con g c) (cells.cell (con_tag C.types g c) cells.no_values)
      same_con_of : (g c : ℕ) {a : ℕ} {v : Val C.types} {u : cells.Value} → constructor_at C.types g c ≡ Some (Some a) → Same v u
          → IsOneOf C.types v (at C.flow (spots.argument g c)) → Same (con_of g c v) (cells.cell (con_tag C.types g c) (cells.value u cells.no_values))
      same_exn : (g i : ℕ) → Same (exn g i) (cells.packet i cells.unit)
      same_exn_of : (g i : ℕ) {v : Val C.types} {u : cells.Value} → Same v u → IsOneOf C.types v (at C.flow (spots.carried g))
          → Same (exn_of g i v) (cells.packet i u)
      -- what is a function by itself is called nowhere, so it stands for anything
      same_ref : (g : ℕ) (u : cells.Value) → Same (ref g) u
      same_primitive : (g : ℕ) (p : BasisPrimitive) (u : cells.Value) → Same (primitive g p) u
      same_address : (a : ℕ) → Same (address a) (cells.reference a)
      same_cell : (g : ℕ) {v : Val C.types} {u : cells.Value} → Same v u → IsOneOf C.types v (at C.flow (spots.content g)) → Same (cell g v) u
      -- a function stands for a cell with the captured values, or with such a cell
      same_closure : (q : Bool) (c : Code (mono C.types)) (g : ℕ) {env : Scope (mono C.types)} {r : cells.Values}
          → Good q g (group_of C.types c) (fun_of C.types c) → AllGood true g (group_of C.types c) (group_of C.types c)
          → SameCaptured (C.captures.captured g) env r → Same (closure c env) (cells.cell (C.numbering.tag (code_number C.types c)) (held q (C.numbering.tag g) r))

    pub data SameFields : (g : ℕ) → List Label → List ℕ → Parts (mono C.types) → cells.Values → Type 0 where
      no_fields_same : {g : ℕ} → SameFields g [] [] no_fields cells.no_values
      a_field_same : {g : ℕ} (l : Label) {t : ℕ} {v : Val C.types} {u : cells.Value} {ls : List Label} {ts : List ℕ} {fs : Parts (mono C.types)}
          {us : cells.Values} → Same v u → IsOneOf C.types v (at C.flow (spots.field g l)) → SameFields g ls ts fs us
          → SameFields g (l ∷ ls) (t ∷ ts) (field l v fs) (cells.value u us)

    -- what a variable is: the name of an exception, or a value
    pub data Stands : Bool → Val C.types → cells.Value → Type 0 where
      is_name : (g i : ℕ) → Stands true (exn g i) (cells.name i)
      is_value : {v : Val C.types} {u : cells.Value} → Same v u → Stands false v u

    pub data SameCaptured : List ℕ → Scope (mono C.types) → cells.Values → Type 0 where
      no_captured : (env : Scope (mono C.types)) → SameCaptured [] env cells.no_values
      captured : (y : ℕ) {ys : List ℕ} {env : Scope (mono C.types)} {v : Val C.types} {u : cells.Value} {us : cells.Values} → look_up y env ≡ Some v
          → Stands (C.numbering.is_name y) v u → IsOneOf C.types v (at C.flow (variable y)) → SameCaptured ys env us
          → SameCaptured (y ∷ ys) env (cells.value u us)

  -- related values, where a function is one of a set
  pub record Given (ks : List ℕ) (v : Val C.types) (u : cells.Value) : Type 0 where
    pub same : Same v u
    pub is : IsOneOf C.types v ks

  -- what is stored or raised is no function
  abbrev pub R : Val C.types → cells.Value → Type 0
  R = Given []
