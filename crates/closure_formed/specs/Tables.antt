-- What the tables of a program must say for those of its conversion: the parts of a type are types of the table, strings are of bytes. And what its sets must.
use Rattle.std.specs.Prelude.{◌≡◌, ℕ, ◌<◌, true, List, [], ◌∷◌, length, nat_lt, ⊤}
use Rattle.std.specs.List.{AllByRecursion}
use Rattle.ir_mono.specs.Types as table
use Rattle.ir_mono.specs.Types.{Node, node, IsFunction}
use Rattle.ir_mono.specs.Mono.{Program}
use Rattle.flow_sets.specs.Member.{is_in}
use Rattle.flow_sets.specs.Flow.{Flow, variable, at}
use Rattle.flow_sets.specs.ByType.{bound_in, bound, type_of}
use Rattle.closure_meaning.specs.Convert.{numbers_in, part_types}

abbrev pub Below : ℕ → ℕ → Type 0
Below n t = nat_lt t n ≡ true

abbrev pub NodeBelow : ℕ → Node → Type 0
NodeBelow n (node s ps) = AllByRecursion (Below n) ps

-- among n types
pub record RowBelow (n : ℕ) (r : table.Row) : Type 0 where
  pub parts : NodeBelow n r.type
  pub arguments : AllByRecursion (AllByRecursion (Below n)) (part_types r.constructors)

abbrev pub AreRows : List table.Row → Type 0
AreRows types = AllByRecursion (RowBelow (length types)) types

abbrev pub AreBytes : List (List ℕ) → Type 0
AreBytes strings = AllByRecursion (AllByRecursion (Below 256)) strings

abbrev pub Ascends : List ℕ → Type 0
Ascends [] = ⊤
Ascends (k ∷ []) = ⊤
Ascends (k ∷ (l ∷ ks)) = (k < l) × Ascends (l ∷ ks)

-- each set has its functions in rising order; a variable of a function's type has a set, and it is of functions of the program
pub record AreOrderly (p : Program) (F : Flow) : Type 0 where
  pub ascend : AllByRecursion Ascends F.sets
  pub there : (f a b : ℕ) → IsFunction p.types (type_of p.types (bound_in f (bound p.types p.body))) a b → F.number (variable f) < length F.sets
  pub functions : (f a b k : ℕ) → IsFunction p.types (type_of p.types (bound_in f (bound p.types p.body))) a b → is_in k (at F (variable f)) ≡ true
      → is_in k (numbers_in p.types p.body []) ≡ true
