-- Values without functions, and the variables that they are bound to. A closure is a cell too.
use Rattle.std.specs.Prelude.{ℕ, zero, suc, Bool, true, false, List, [], ◌∷◌, Option, Some, None, nat_eq, if◌then◌else◌, slice_get}
use Rattle.ir_values.specs.of_mlc_runs.Run.{World, Answer}
use Rattle.ir_values.specs.of_mlc_prims.LitOf.{Literal, int, word, char, string, truth}

mutual
  pub data Value : Type 0 where
    -- an integer, a word, a character or a string
    literal : Literal → Value
    -- a construction; a record has the tag 0
    cell : (tag : ℕ) → Values → Value
    reference : ℕ → Value
    -- an exception's name, and a packet of it
    name : ℕ → Value
    packet : ℕ → Value → Value

  pub data Values : Type 0 where
    no_values : Values
    value : Value → Values → Values

abbrev pub Run : Type 0 → Type 0
Run A = Answer Value A

abbrev pub unit : Value
unit = cell 0 no_values

abbrev pub truth_value : Bool → Value
truth_value false = cell 0 no_values
truth_value true = cell 1 no_values

abbrev pub value_of : Literal → Value
value_of (int z) = literal (int z)
value_of (word n) = literal (word n)
value_of (char n) = literal (char n)
value_of (string s) = literal (string s)
value_of (truth b) = truth_value b

abbrev pub values_of : List Value → Values
values_of [] = no_values
values_of (v ∷ vs) = value v (values_of vs)

-- the part at i
abbrev pub at : ℕ → Values → Option Value
at i no_values = None
at zero (value v vs) = Some v
at (suc i) (value v vs) = at i vs

abbrev pub count : Values → ℕ
count no_values = 0
count (value v vs) = suc (count vs)

-- the innermost binding first
abbrev pub Env : Type 0
Env = List (ℕ × Value)

abbrev pub bind : ℕ → Value → Env → Env
bind x v env = (x, v) ∷ env

abbrev pub look_up : ℕ → Env → Option Value
look_up x [] = None
look_up x (b ∷ env) = if nat_eq x b.0 then Some b.1 else look_up x env

abbrev pub in_front : {A : Type 0} → A → Option (List A) → Option (List A)
in_front a None = None
in_front a (Some as_) = Some (a ∷ as_)

abbrev pub first_some : {A : Type 0} → Option A → Option (List A) → Option (List A)
first_some None o = None
first_some (Some a) o = in_front a o

abbrev pub look_all : List ℕ → Env → Option (List Value)
look_all [] env = Some []
look_all (x ∷ xs) env = first_some (look_up x env) (look_all xs env)

-- as many values as variables
abbrev pub bind_all : List ℕ → List Value → Env → Option Env
bind_all [] [] env = Some env
bind_all [] (v ∷ vs) env = None
bind_all (x ∷ xs) [] env = None
bind_all (x ∷ xs) (v ∷ vs) env = bind_all xs vs (bind x v env)

-- what a cell is made of: a value, or some parts of another cell, which are copied as one block
pub data Piece : Type 0 where
  one : (x : ℕ) → Piece
  run : (x from count : ℕ) → Piece

-- so many parts from i on, before the rest
abbrev pub parts_from : (i count : ℕ) → Values → Option (List Value) → Option (List Value)
parts_from i zero vs rest = rest
parts_from i (suc n) vs rest = first_some (at i vs) (parts_from (suc i) n vs rest)

abbrev pub parts_of : (i count : ℕ) → Option Value → Option (List Value) → Option (List Value)
parts_of i n (Some (cell tag vs)) rest = parts_from i n vs rest
parts_of i n o rest = None

-- the parts of a cell of these pieces
abbrev pub gather : List Piece → Env → Option (List Value)
gather [] env = Some []
gather (one x ∷ ps) env = first_some (look_up x env) (gather ps env)
gather (run x i n ∷ ps) env = parts_of i n (look_up x env) (gather ps env)

-- the tag of a cell
abbrev pub tag_of : Option Value → Option ℕ
tag_of (Some (cell t vs)) = Some t
tag_of o = None

-- the identifier of a packet's exception
abbrev pub identifier_of : Value → World Value → Option ℕ
identifier_of (packet n v) w = slice_get w.exceptions n
identifier_of v w = None
