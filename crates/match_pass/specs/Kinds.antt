-- Expressions of one construct, whose parts are more than one.
use Rattle.std.specs.Prelude.{◌≡◌, ℕ, Bool, Vec, Box}
use Rattle.std.specs.Global.{Global}
use Rattle.mlc_base.specs.declared.place.Place.{Place}
use Rattle.prog_tree.specs.declared.tree.Dec.{Dec}
use Rattle.prog_tree.specs.declared.tree.Exp.{Exp}
use Rattle.prog_tree.specs.declared.tree.Exp.TheVariants as exps
use Rattle.prog_tree.specs.declared.tree.Join.{Join}
use Rattle.prog_tree.specs.declared.tree.Rule.{Rule}
use Rattle.prog_tree.specs.declared.tree.Side.{Side}

pub record IsLet (e : Exp) : Type 0 where
  pub ty : ℕ
  pub decs : Vec Dec Global
  pub body : Box Exp Global
  pub is : e ≡ exps.Let ty decs body

pub record IsApply (e : Exp) : Type 0 where
  pub place : Place
  pub function : Box Exp Global
  pub arguments : Vec (ℕ × Exp) Global
  pub is : e ≡ exps.Apply place function arguments

pub record IsInfix (e : Exp) : Type 0 where
  pub side : Side
  pub first : Box Exp Global
  pub joins : Vec (Join × Exp × Exp) Global
  pub is : e ≡ exps.Infix side first joins

pub record IsTest (e : Exp) : Type 0 where
  pub goes_on : Bool
  pub ty : ℕ
  pub operands : Vec Exp Global
  pub last : Box Exp Global
  pub is : e ≡ exps.Test goes_on ty operands last

pub record IsHandle (e : Exp) : Type 0 where
  pub ty : ℕ
  pub body : Box Exp Global
  pub rules : Vec Rule Global
  pub is : e ≡ exps.Handle ty body rules
