-- What is done with values at once: operations that give a value, primitives that may raise, tests, and which function a call enters.
use Rattle.std.specs.Prelude.{ℕ, ◌^◌, ℤ, Bool, true, false, List, [], ◌∷◌, Option, Some, None, option_map, option_and_then, nat_eq, nat_lt, if◌then◌else◌, slice_get, get_or}
use Rattle.ir_values.specs.of_mlc_runs.Run.{World, Answer, gives, raises, fail, or_fail, writes, new_reference, dereference, new_exception}
use Rattle.ir_values.specs.of_mlc_runs.Run as run
use Rattle.ir_values.specs.of_mlc_prims.LitOf.{Literal, int, word, char, string, truth}
use Rattle.ir_values.specs.of_mlc_prims.PrimOf.{Gives, made, raised, fitting}
use Rattle.ir_values.specs.of_mlc_prims.Table.{row_of, literal_eq}
use Rattle.ir_values.specs.of_mlc_prims.declared.basis.BasisPrimitive.{BasisPrimitive}
use Rattle.ir_values.specs.Primitives.{raised_name}
use Rattle.first_values.specs.Values.{Value, literal, cell, reference, name, packet, Run, unit, truth_value, value_of, at, Env, look_up}
use Rattle.first_values.specs.Equality.{Shape, opaque, equal_at}

-- a closure's tag, and its function
pub record Member : Type 0 where
  pub tag : ℕ
  pub function : ℕ

-- what a program has beside its functions: the identifiers of the exceptions of the initial basis, its strings, its types, and the sets of
-- closures that it calls
pub record Tables : Type 0 where
  pub initial : List ℕ
  pub strings : List (List ℕ)
  pub types : List Shape
  pub sets : List (List Member)

-- a string is named by its number in the table
pub data Constant : Type 0 where
  an_int : ℤ → Constant
  a_word : ℕ → Constant
  a_char : ℕ → Constant
  a_text : ℕ → Constant
  a_truth : Bool → Constant

-- what the first operand of a primitive is: those that are overloaded have a row for each
pub data Operands : Type 0 where
  ints : Operands
  words : Operands
  chars : Operands
  texts : Operands

-- an operation with one way on
pub data Plain : Type 0 where
  same : Plain
  constant : Constant → Plain
  field : ℕ → Plain
  refer : Plain
  content : Plain
  assign : Plain
  -- a new exception with its identifier, and the name of one of the initial basis
  exception : (identifier : ℕ) → Plain
  initial : ℕ → Plain
  -- of a name and an argument; and the argument of a packet
  pack : Plain
  argument : Plain
  -- a primitive that raises nothing
  compute : Operands → BasisPrimitive → Plain
  -- equality at a type
  equal : ℕ → Plain
  print : Plain

pub data Test : Type 0 where
  is : Constant → Test
  -- whether a packet is one of the exception with this name
  is_of : Test
  -- a primitive that gives a truth value
  holds : Operands → BasisPrimitive → Test

-- a function, or the one of a closure, which is of this set
pub data Callee : Type 0 where
  known : (function : ℕ) → Callee
  one_of : (set closure : ℕ) → Callee

abbrev pub below : ℕ → ℕ → Option ℕ
below m n = if nat_lt n m then Some n else None

-- an integer and a word have 32 bits, a character has 8
abbrev pub literal_at : Tables → Constant → Option Literal
literal_at T (an_int z) = option_map int (fitting z)
literal_at T (a_word n) = option_map word (below (2 ^ 32) n)
literal_at T (a_char n) = option_map char (below 256 n)
literal_at T (a_text i) = option_map string (slice_get T.strings i)
literal_at T (a_truth b) = Some (truth b)

abbrev pub literal_in : Value → Option Literal
literal_in (literal l) = Some l
literal_in v = None

abbrev pub literals : List Value → Option (List Literal)
literals [] = Some []
literals (v ∷ vs) = option_and_then (λ l. option_map (λ ls. l ∷ ls) (literals vs)) (literal_in v)

abbrev pub is_at : Operands → Literal → Bool
is_at ints (int z) = true
is_at words (word n) = true
is_at chars (char n) = true
is_at texts (string s) = true
is_at k l = false

-- a row of the table, at such operands
abbrev pub row_at : Operands → BasisPrimitive → List Literal → Option Gives
row_at k p [] = None
row_at k p (l ∷ ls) = if is_at k l then row_of p (l ∷ ls) else None

-- what a primitive gives: none where it doesn't apply
abbrev pub attempted : Operands → BasisPrimitive → List Value → Option Gives
attempted k p vs = option_and_then (row_at k p) (literals vs)

-- goes on with the value, or with the packet that is raised
abbrev pub either_way : {A : Type 0} → Gives → (Value → A) → (Value → A) → A
either_way (made l) go other = go (value_of l)
either_way (raised e) go other = other (packet (raised_name e) unit)

abbrev pub none : {A : Type 0} → List Value → World Value → Run A → Run A
none [] w r = r
none (v ∷ vs) w r = fail w

abbrev pub one : {A : Type 0} → List Value → World Value → (Value → Run A) → Run A
one [] w go = fail w
one (a ∷ []) w go = go a
one (a ∷ b ∷ vs) w go = fail w

abbrev pub two : {A : Type 0} → List Value → World Value → (Value → Value → Run A) → Run A
two [] w go = fail w
two (a ∷ []) w go = fail w
two (a ∷ b ∷ []) w go = go a b
two (a ∷ b ∷ c ∷ vs) w go = fail w

abbrev pub field_from : ℕ → Value → World Value → Run Value
field_from i (cell t vs) w = or_fail (at i vs) w (λ v. gives v w)
field_from i v w = fail w

abbrev pub read : Value → World Value → Run Value
read (reference a) w = dereference a w (λ v. gives v w)
read v w = fail w

abbrev pub write : Value → Value → World Value → Run Value
write (reference a) v w = run.assign a v w (λ u. gives unit u)
write r v w = fail w

abbrev pub print_value : Value → World Value → Run Value
print_value (literal (string bytes)) w = gives unit (writes bytes w)
print_value v w = fail w

abbrev pub packet_of : Value → Value → World Value → Run Value
packet_of (name n) v w = gives (packet n v) w
packet_of u v w = fail w

abbrev pub argument_of : Value → World Value → Run Value
argument_of (packet n v) w = gives v w
argument_of v w = fail w

-- only a packet is raised
abbrev pub raised_from : {A : Type 0} → Value → World Value → Run A → Run A
raised_from (packet n v) w r = r
raised_from v w r = fail w

-- the value alone
abbrev pub made_in : Gives → World Value → Run Value
made_in (made l) w = gives (value_of l) w
made_in (raised e) w = fail w

-- what an operation gives
abbrev pub perform : Tables → Plain → List Value → World Value → Run Value
perform T same vs w = one vs w (λ v. gives v w)
perform T (constant c) vs w = none vs w (or_fail (literal_at T c) w (λ l. gives (value_of l) w))
perform T (field i) vs w = one vs w (λ v. field_from i v w)
perform T refer vs w = one vs w (λ v. new_reference v w (λ a u. gives (reference a) u))
perform T content vs w = one vs w (λ v. read v w)
perform T assign vs w = two vs w (λ r v. write r v w)
perform T (exception identifier) vs w = none vs w (new_exception identifier w (λ n u. gives (name n) u))
perform T (initial n) vs w = none vs w (or_fail (slice_get T.initial n) w (λ identifier. gives (name n) w))
perform T pack vs w = two vs w (λ n v. packet_of n v w)
perform T argument vs w = one vs w (λ p. argument_of p w)
perform T (compute k p) vs w = or_fail (attempted k p vs) w (λ g. made_in g w)
perform T (equal t) vs w = two vs w (λ a b. or_fail (equal_at T.types (get_or T.types t opaque) a b) w (λ q. gives (truth_value q) w))
perform T print vs w = one vs w (λ v. print_value v w)

abbrev pub truth_in : Gives → Option Bool
truth_in (made (truth b)) = Some b
truth_in g = None

abbrev pub decide : Tables → Test → List Value → Option Bool
decide T (is c) (literal l ∷ []) = option_and_then (λ k. literal_eq k l) (literal_at T c)
decide T is_of (packet l v ∷ name n ∷ []) = Some (nat_eq l n)
decide T (holds k p) vs = option_and_then truth_in (attempted k p vs)
decide T q vs = None

-- a function and its arguments
pub record Called : Type 0 where
  pub function : ℕ
  pub arguments : List Value

abbrev pub member_at : ℕ → List Member → Option ℕ
member_at t [] = None
member_at t (m ∷ ms) = if nat_eq t m.tag then Some m.function else member_at t ms

-- the closure itself goes before the other arguments
abbrev pub of_closure : List Member → Option Value → List Value → Option Called
of_closure set (Some (cell t parts)) vs = option_map (λ f. record { function = f; arguments = cell t parts ∷ vs }) (member_at t set)
of_closure set v vs = None

abbrev pub called : Tables → Callee → Env → List Value → Option Called
called T (known f) env vs = Some (record { function = f; arguments = vs })
called T (one_of set x) env vs = of_closure (get_or T.sets set []) (look_up x env) vs
