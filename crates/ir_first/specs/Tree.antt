-- The tree of a program without function values, in which evaluation order is plain: operands are variables, and each step binds its result.
use Rattle.std.specs.Prelude.{ℕ, List}
use Rattle.mlc_base.specs.declared.place.Place.{Place}
use Rattle.mlc_prims.specs.declared.basis.BasisPrimitive.{BasisPrimitive}
use Rattle.first_values.specs.Values.{Piece}
use Rattle.first_values.specs.Operations.{Tables, Operands, Plain, Test, Callee}

-- an expression gives a value or misses
mutual
  pub data Exp : Type 0 where
    ret : (x : ℕ) → Exp
    let_in : (x : ℕ) → Op → Exp → Exp
    -- takes a turn first
    turn : Place → Exp → Exp
    -- the arm of the cell's tag; misses where there is none
    switch : (x : ℕ) → Arms → Exp
    branch : Test → List ℕ → (holds doesnt : Exp) → Exp
    -- where the first misses, the second is tried
    first : Exp → Exp → Exp
    miss : Exp

  pub data Op : Type 0 where
    plain : Plain → List ℕ → Op
    -- a cell of these pieces: a record, a construction, a closure
    make : (tag : ℕ) → List Piece → Op
    -- a primitive that may raise
    attempt : Operands → BasisPrimitive → List ℕ → Op
    -- takes a turn at its place
    call : Place → Callee → List ℕ → Op
    -- the value of an expression that doesn't miss
    block : Exp → Op
    -- the packet is bound in the second
    handle : Exp → (x : ℕ) → Exp → Op
    raise : (x : ℕ) → Op

  pub data Arms : Type 0 where
    no_arms : Arms
    arm : (tag : ℕ) → Exp → Arms → Arms

pub record Fun : Type 0 where
  pub params : List ℕ
  pub body : Exp

-- function 0 is the program itself
pub record Program : Type 0 where
  pub tables : Tables
  pub funs : List Fun
