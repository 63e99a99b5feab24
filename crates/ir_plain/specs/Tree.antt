-- The tree in which evaluation order is plain: operands are variables, and each step binds its result. Binders, and nodes that make or take apart, have types.
use Rattle.std.specs.Prelude.{ℕ, Bool, true, false, ◌&&◌, Option}
use Rattle.ir_values.specs.of_mlc_names.declared.label.Label.{Label}
use Rattle.mlc_base.specs.declared.place.Place.{Place}
use Rattle.ir_values.specs.of_mlc_prims.LitOf.{Literal}
use Rattle.ir_values.specs.of_mlc_prims.declared.basis.BasisPrimitive.{BasisPrimitive}
use Rattle.ir_plain.specs.Kind.{Kind}

module _ (F : Kind) where
  -- what an arm wants of the value, and the variable that its argument is bound to
  pub data Case : Type 0 where
    is_literal : Literal → Case
    -- a constructor without an argument, and with one, whose type stands there
    is_con : ℕ → Case
    is_con_of : ℕ → F.Binder → F.Type_of → Case
    -- the same of the exception that a variable stands for
    is_exn : F.Use → Case
    is_exn_of : F.Use → F.Binder → F.Type_of → Case
    -- a record, with so many fields where a number is given
    is_record : Option ℕ → Case

  -- an exception of the initial basis, or that of a variable
  pub data Exception : Type 0 where
    fixed : ℕ → Exception
    held : F.Use → Exception

  pub data Atoms : Type 0 where
    no_atoms : Atoms
    an_atom : F.Use → Atoms → Atoms

  -- labels with atoms
  pub data Row : Type 0 where
    no_row : Row
    a_row : Label → F.Use → Row → Row

  mutual
    pub data Exp : Type 0 where
      ret : F.Use → Exp
      -- generalised over parameters, which only a value is
      let_in : F.Binder → F.Params_of → F.Type_of → Op → Exp → Exp
      -- a new exception, with its identifier and the type of its argument
      exception_in : F.Binder → (identifier : ℕ) → Option F.Type_of → Exp → Exp
      -- brings in the name of an exception, perhaps one of a function around
      name_in : F.Binder → Exception → Exp → Exp
      rec_in : F.Params_of → Funs → Exp → Exp
      -- the first arm that fits; where none does it misses. The type is the atom's
      switch : F.Use → F.Type_of → Arms → Exp
      -- where the first misses, the second is tried
      first : Exp → Exp → Exp
      miss : Exp
      -- stands for so many further nodes of the source
      counted : ℕ → Exp → Exp

    pub data Arms : Type 0 where
      no_arms : Arms
      arm : Case → Exp → Arms → Arms

    -- A place that may be missing says that a turn is taken, and where.
    pub data Op : Type 0 where
      use_of : F.Use → Op
      const : Literal → Op
      -- a constructor alone, also as a function, and a construction; the type is the datatype's
      con_alone : ℕ → F.Type_of → Op
      construct : Option Place → ℕ → F.Type_of → F.Use → Op
      -- the constructor `ref` as a function, a new reference, and what a reference holds; the type is that of what it holds
      ref_alone : F.Type_of → Op
      refer : Option Place → F.Type_of → F.Use → Op
      content : F.Type_of → F.Use → Op
      -- a packet of the exception that a variable stands for; the type is the argument's
      pack : Option Place → F.Type_of → (exception argument : F.Use) → Op
      make_record : F.Type_of → Row → Op
      -- the type is the record's
      select : F.Type_of → Label → F.Use → Op
      -- a primitive as a function, and performed; the type is the one that it is used at, anything where it has no choice of types
      prim_alone : BasisPrimitive → F.Type_of → Op
      prim : Option Place → BasisPrimitive → F.Type_of → Atoms → Op
      app : Place → (function argument : F.Use) → Op
      fn : Fun → Op
      -- the value of an expression that doesn't miss
      block : Exp → Op
      handle : Exp → F.Binder → Exp → Op
      raise : F.Use → Op
      -- an exception of the initial basis
      raise_initial : ℕ → Op

    -- a function of one parameter or more
    pub data Fun : Type 0 where
      last : F.Binder → F.Type_of → Exp → Fun
      more : F.Binder → F.Type_of → Fun → Fun

    pub data Funs : Type 0 where
      no_funs : Funs
      fun : F.Binder → F.Type_of → Fun → Funs → Funs

-- what can be generalised: its evaluation takes turns at constructions at most, and changes nothing else in the world
module _ {F : Kind} where
  abbrev mutual
    pub is_value : Exp F → Bool
    is_value (ret a) = true
    is_value (let_in x ps t o e) = is_value_op o && is_value e
    is_value (exception_in x i t e) = false
    is_value (name_in x y e) = is_value e
    is_value (rec_in ps fs e) = false
    is_value (switch a t arms) = are_values arms
    is_value (first e d) = is_value e && is_value d
    is_value miss = true
    is_value (counted n e) = is_value e

    pub are_values : Arms F → Bool
    are_values no_arms = true
    are_values (arm c e arms) = is_value e && are_values arms

    pub is_value_op : Op F → Bool
    is_value_op (use_of x) = true
    is_value_op (const l) = true
    is_value_op (con_alone c t) = true
    is_value_op (construct m c t a) = true
    is_value_op (ref_alone t) = true
    is_value_op (refer m t a) = false
    is_value_op (content t a) = true
    is_value_op (pack m t x a) = true
    is_value_op (make_record t row) = true
    is_value_op (select t l a) = true
    is_value_op (prim_alone p t) = true
    is_value_op (prim m p t as_) = false
    is_value_op (app place f a) = false
    is_value_op (fn f) = true
    is_value_op (block e) = is_value e
    is_value_op (handle e x h) = false
    is_value_op (raise a) = false
    is_value_op (raise_initial i) = true
