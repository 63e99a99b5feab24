-- The tree of a program in SSA form: functions of blocks with arguments, scope by nesting.
use Rattle.std.specs.Prelude.{ℕ, List}
use Rattle.mlc_base.specs.declared.place.Place.{Place}
use Rattle.mlc_prims.specs.declared.basis.BasisPrimitive.{BasisPrimitive}
use Rattle.first_values.specs.Values.{Piece}
use Rattle.first_values.specs.Operations.{Tables, Operands, Plain, Test, Callee}

-- What runs up to the end of a function. A label is named by the number of those inside it around the goto: the innermost is 0.
mutual
  pub data Body : Type 0 where
    plain : Plain → List ℕ → (x : ℕ) → Body → Body
    -- a cell of these pieces
    make : (tag : ℕ) → List Piece → (x : ℕ) → Body → Body
    -- goes on with the first, where x is the value, or with the second, where x is the packet that is raised
    attempt : Operands → BasisPrimitive → List ℕ → (x : ℕ) → Body → Body → Body
    turn : Place → Body → Body
    call : Place → Callee → List ℕ → (x : ℕ) → Body → Body
    -- the second runs, and the label in it is the first, with these parameters
    label : (params : List ℕ) → Body → Body → Body
    -- the same, and the label is also in the first; only a jump goes to it
    again : (params : List ℕ) → Body → Body → Body
    -- the first runs under the handler, with one label, which leaves the handler for l; the packet is y in the second
    guard : (l : ℕ) → Body → (y : ℕ) → Body → Body
    goto : (l : ℕ) → List ℕ → Body
    -- the same, with a turn at its place
    jump : Place → (l : ℕ) → List ℕ → Body
    branch : Test → List ℕ → (holds doesnt : Body) → Body
    switch : (x : ℕ) → Bodies → Body
    -- a call that gives what the function gives
    tail : Place → Callee → List ℕ → Body
    ret : (x : ℕ) → Body
    raise : (x : ℕ) → Body

  -- the last is for all other tags
  pub data Bodies : Type 0 where
    last : Body → Bodies
    arm : (tag : ℕ) → Body → Bodies → Bodies

pub record Fun : Type 0 where
  pub params : List ℕ
  pub body : Body

-- function 0 is the program itself
pub record Program : Type 0 where
  pub tables : Tables
  pub funs : List Fun
