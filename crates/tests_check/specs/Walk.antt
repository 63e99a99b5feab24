-- What is said of the parts of a tree, at the numbers of the tables: whether they fit where they stand, and what they bring into scope.
use Rattle.std.specs.Prelude.{◌≡◌, ℕ, Bool, true, false, List, [], ◌∷◌, ◌++◌, length, map, Option, None, ⊤}
use Rattle.ty_core.specs.Types.{Typ}
use Rattle.ty_core.specs.declared.scheme.Quantified.{Quantified}
use Rattle.ty_table.specs.TypeAt.{type_at}
use Rattle.ir_plain.specs.Tree as clean
use Rattle.ir_poly.specs.Tests.{poly}
use Rattle.ir_poly.specs.Types.{Constructor, initial_constructors, over, are_new, function_type}
use Rattle.ir_poly.specs.TestsChecked.{Knowns, at, may_generalise, declared, group_knowns, NameChecked}
use Rattle.ir_poly.specs.TestsChecked as clean_known
use Rattle.ir_tables.specs.declared.tables.Tables.{Tables}
use Rattle.ir_tables.specs.Tables.{constructors_of, parameters_of, parameters_at}
use Rattle.ir_known.specs.declared.known.Known.{Known}
use Rattle.ir_known.specs.declared.known.Known.TheVariants.{OfType}
use Rattle.ir_known.specs.declared.scope.Mark.{Mark}
use Rattle.ir_known.specs.Knows.{known_of, knowns_of}
use Rattle.plain_tree.specs.declared.tree.Binding.{Binding}
use Rattle.plain_tree.specs.declared.tree.Parameter.{Parameter}
use Rattle.plain_tree.specs.declared.tree.Exp.{Exp}
use Rattle.plain_tree.specs.declared.tree.Step.{Step}
use Rattle.plain_tree.specs.declared.tree.Arm.{Arm}
use Rattle.plain_tree.specs.declared.tree.Function.{Function}
use Rattle.plain_tree.specs.TreeOf.{tree_of, step_of, arm_of, function_of, fun_of, funs_of, onto}
use Rattle.tests_check.specs.Fits.{CaseFits, ExpFits, OpFits, FunFits, FunsFit, case_onto, FunsNew}
use Rattle.tests_check.specs.Reads.{reading}
use Rattle.tests_check.specs.declared.group.Standing.{Standing}
use Rattle.tests_check.specs.declared.group.Standing.TheVariants.{Inside, Over}

-- variables of the same function, then those around it
abbrev pub Names : Type 0
Names = List (ℕ × Known) × List (ℕ × Known)

module _ (t : Tables) where
  abbrev pub table_of : List Constructor
  table_of = initial_constructors ++ constructors_of t

  abbrev pub local : Names → Knowns
  local s = knowns_of t.types (parameters_of t) s.0

  abbrev pub all : Names → Knowns
  all s = knowns_of t.types (parameters_of t) (s.0 ++ s.1)

-- where m says whether a miss goes on somewhere, D has the parameters in scope, s the variables
pub record IsExp (t : Tables) (m : Bool) (D : List Quantified) (s : Names) (e : Exp) (u : ℕ) : Type 0 where
  pub fits : ExpFits (table_of t) m D (all t s) (local t s) (tree_of (reading t) e) (type_at t.types u)

pub record IsArm (t : Tables) (D : List Quantified) (s : Names) (u v : ℕ) (a : Arm) : Type 0 where
  pub case : CaseFits (table_of t) D (all t s) (local t s) (arm_of (reading t) a).case (type_at t.types u)
  pub body : ExpFits (table_of t) true D (case_onto (arm_of (reading t) a).case (all t s)) (case_onto (arm_of (reading t) a).case (local t s))
      (arm_of (reading t) a).body (type_at t.types v)

-- a function of a group
pub record IsFunction (t : Tables) (D : List Quantified) (s : Names) (f : Function) : Type 0 where
  pub type : over D (function_of (reading t) f).type ≡ true
  pub function : FunFits (table_of t) D (all t s) (function_of (reading t) f).function (function_of (reading t) f).type

-- what steps stand in front of, and operations that hold expressions
abbrev pub steps_before : Tables → List Step → clean.Exp poly → clean.Exp poly
steps_before t ss = onto (map (step_of (reading t)) ss)

abbrev pub function_made : Tables → List Parameter → Parameter → Exp → clean.Op poly
function_made t xs x e = clean.fn (fun_of (reading t) xs x (tree_of (reading t) e))

abbrev pub block_made : Tables → Exp → clean.Op poly
block_made t e = clean.block (tree_of (reading t) e)

abbrev pub handle_made : Tables → Exp → ℕ → Exp → clean.Op poly
handle_made t e x h = clean.handle (tree_of (reading t) e) x (tree_of (reading t) h)

-- all of a list are so
abbrev pub Each : {A : Type 0} → (A → Type 0) → List A → Type 0
Each P [] = ⊤
Each P (x ∷ xs) = P x × Each P xs

-- more is in scope than was
pub record Grows (old new : Names) : Type 0 where
  pub added : List (ℕ × Known)
  pub local : new.0 ≡ added ++ old.0
  pub around : new.1 ≡ old.1

-- what stands in front of an expression of a type fits, and leaves this in scope for it; where no miss goes on the type doesn't matter
pub record Brings (t : Tables) (m : Bool) (D : List Quantified) (v : ℕ) (old new : Names) (before : clean.Exp poly → clean.Exp poly) : Type 0 where
  pub grows : Grows old new
  pub whole : (e : clean.Exp poly) (u : Typ) → (m ≡ true → u ≡ type_at t.types v) → ExpFits (table_of t) m D (all t new) (local t new) e u
      → ExpFits (table_of t) m D (all t old) (local t old) (before e) u
  pub back : (e : clean.Exp poly) (u : Typ) → (m ≡ true → u ≡ type_at t.types v) → ExpFits (table_of t) m D (all t old) (local t old) (before e) u
      → ExpFits (table_of t) m D (all t new) (local t new) e u

-- nothing of the type fits behind what stands in front
pub record Refuses (t : Tables) (m : Bool) (D : List Quantified) (v : ℕ) (s : Names) (before : clean.Exp poly → clean.Exp poly) : Type 0 where
  pub never : (e : clean.Exp poly) (u : Typ) → (m ≡ true → u ≡ type_at t.types v) → ExpFits (table_of t) m D (all t s) (local t s) (before e) u → ⊥

-- the parameters of a binding are new, and its type is over those in scope with them
pub record IsOpen (t : Tables) (D : List Quantified) (b : Binding) : Type 0 where
  pub new : are_new (parameters_at (parameters_of t) b.parameters) D ≡ true
  pub over : over (parameters_at (parameters_of t) b.parameters ++ D) (type_at t.types b.ty) ≡ true

-- a binding of an operation fits
pub record IsLet (t : Tables) (D : List Quantified) (s : Names) (b : Binding) (o : clean.Op poly) : Type 0 where
  pub generalised : may_generalise (parameters_at (parameters_of t) b.parameters) o ≡ true
  pub opened : IsOpen t D b
  pub operation : OpFits (table_of t) (parameters_at (parameters_of t) b.parameters ++ D) (all t s) (local t s) o (type_at t.types b.ty)
  pub new : at (all t s) b.variable ≡ None

-- a variable comes into scope
pub record Holds (t : Tables) (old new : Names) (x : ℕ) (k : clean_known.Known) : Type 0 where
  pub known : Known
  pub is : new ≡ ((x, known) ∷ old.0, old.1)
  pub stands : known_of t.types (parameters_of t) known ≡ k

abbrev pub Declares : Tables → Names → Names → Binding → Type 0
Declares t old new b = Holds t old new b.variable (declared (parameters_at (parameters_of t) b.parameters) (type_at t.types b.ty))

-- a parameter is new, of a type over those in scope, and a function of the type u takes it and gives the type v
pub record Takes (t : Tables) (D : List Quantified) (old new : Names) (x : Parameter) (u v : ℕ) : Type 0 where
  pub over : over D (type_at t.types x.ty) ≡ true
  pub free : at (all t old) x.variable ≡ None
  pub is : new ≡ ((x.variable, OfType x.ty) ∷ old.0, old.1)
  pub type : type_at t.types u ≡ function_type (type_at t.types x.ty) (type_at t.types v)

pub record TakesNone (t : Tables) (D : List Quantified) (s : Names) (x : Parameter) (u : ℕ) : Type 0 where
  pub never : over D (type_at t.types x.ty) ≡ true → at (all t s) x.variable ≡ None → (v : Typ) → type_at t.types u ≡ function_type (type_at t.types x.ty) v → ⊥

-- a function of these parameters and a last one has the type u where its body has the type v
pub record Enters (t : Tables) (D : List Quantified) (old new : Names) (xs : List Parameter) (x : Parameter) (u v : ℕ) : Type 0 where
  pub added : List (ℕ × Known)
  pub within : new.0 ++ new.1 ≡ added ++ (old.0 ++ old.1)
  pub whole : (e : clean.Exp poly) → ExpFits (table_of t) false D (all t new) (local t new) e (type_at t.types v)
      → FunFits (table_of t) D (all t old) (fun_of (reading t) xs x e) (type_at t.types u)
  pub back : (e : clean.Exp poly) → FunFits (table_of t) D (all t old) (fun_of (reading t) xs x e) (type_at t.types u)
      → ExpFits (table_of t) false D (all t new) (local t new) e (type_at t.types v)

pub record EntersNone (t : Tables) (D : List Quantified) (s : Names) (xs : List Parameter) (x : Parameter) (u : ℕ) : Type 0 where
  pub never : (e : clean.Exp poly) → FunFits (table_of t) D (all t s) (fun_of (reading t) xs x e) (type_at t.types u) → ⊥

-- an arm's test fits values of the type u, and leaves this in scope for its body
pub record Opens (t : Tables) (D : List Quantified) (old new : Names) (c : clean.Case poly) (u : ℕ) : Type 0 where
  pub case : CaseFits (table_of t) D (all t old) (local t old) c (type_at t.types u)
  pub grows : Grows old new
  pub onto_all : all t new ≡ case_onto c (all t old)
  pub onto_local : local t new ≡ case_onto c (local t old)

-- a mark was made at s, and what has come into scope since stands in front
pub record IsSince (now s : Names) (mark : Mark) : Type 0 where
  pub added : List (ℕ × Known)
  pub within : now.0 ++ now.1 ≡ added ++ (s.0 ++ s.1)
  pub len : mark.len ≡ length (s.0 ++ s.1)
  pub start : mark.start ≡ length s.1

-- a group's functions come into scope, each new
pub record Gathers (t : Tables) (f : Typ → clean_known.Known) (old new : Names) (fs : clean.Funs poly) : Type 0 where
  pub each_new : FunsNew (all t old) fs
  pub grows : Grows old new
  pub onto_all : all t new ≡ group_knowns f fs (all t old)
  pub onto_local : local t new ≡ group_knowns f fs (local t old)

-- what is known of a group's functions
abbrev pub known_as : Tables → Standing → Typ → clean_known.Known
known_as t Inside = clean_known.own
known_as t (Over ps) = declared (parameters_at (parameters_of t) ps)

-- a group of functions fits, generalised over parameters
pub record IsGroup (t : Tables) (D : List Quantified) (s : Names) (ps : ℕ) (fs : List Function) : Type 0 where
  pub new : are_new (parameters_at (parameters_of t) ps) D ≡ true
  pub each_new : FunsNew (all t s) (funs_of (map (function_of (reading t)) fs))
  pub bodies : FunsFit (table_of t) (parameters_at (parameters_of t) ps ++ D)
      (group_knowns clean_known.own (funs_of (map (function_of (reading t)) fs)) (all t s)) (funs_of (map (function_of (reading t)) fs))

-- an exception's name comes into scope
pub record IsName (t : Tables) (old new : Names) (x : ℕ) (y : clean.Exception poly) : Type 0 where
  pub argument : Option Typ
  pub named : NameChecked (all t old) y argument
  pub free : at (all t old) x ≡ None
  pub holds : Holds t old new x (clean_known.exception argument)

-- an expression fits at one type alone where no miss goes on; or at none
pub record HasType (t : Tables) (D : List Quantified) (s : Names) (e : Exp) (k : ℕ) : Type 0 where
  pub fits : ExpFits (table_of t) false D (all t s) (local t s) (tree_of (reading t) e) (type_at t.types k)
  pub only : (u : Typ) → ExpFits (table_of t) false D (all t s) (local t s) (tree_of (reading t) e) u → u ≡ type_at t.types k

pub record HasNone (t : Tables) (D : List Quantified) (s : Names) (e : Exp) : Type 0 where
  pub never : (u : Typ) → ExpFits (table_of t) false D (all t s) (local t s) (tree_of (reading t) e) u → ⊥
