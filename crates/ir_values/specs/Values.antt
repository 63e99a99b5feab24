-- Values and environments of the inner forms. [Definition 6.2, 6.3] Variables are bound as B, a function keeps C of its code, and what is made keeps a tag T
-- of its type.
use Rattle.std.specs.Prelude.{ℕ, suc, Bool, true, false, Option, Some, None, nat_eq, if◌then◌else◌}
use Rattle.mlc_runs.specs.of_mlc_names.declared.label.Label.{Label}
use Rattle.mlc_runs.specs.of_mlc_names.declared.label.Label.TheVariants.{Number, Word}
use Rattle.mlc_runs.specs.of_mlc_names.StandardWords.{word_true, word_false, word_nil, word_cons}
use Rattle.mlc_prims.specs.LitOf.{Literal, int, word, char, string, truth}
use Rattle.mlc_prims.specs.declared.basis.BasisPrimitive.{BasisPrimitive}
use Rattle.ir_values.specs.Tags.{Tagging}

module _ (B C T : Type 0) where
  mutual
    pub data Value : Type 0 where
      -- an integer, a word, a character or a string
      literal : Literal → Value
      record_of : T → Fields → Value
      -- a constructor, alone and with its argument; the tag is that of its datatype
      con : T → ℕ → Value
      con_of : T → ℕ → Value → Value
      -- an exception name, alone and with its argument; the tag is that of the argument
      exn : T → ℕ → Value
      exn_of : T → ℕ → Value → Value
      -- the constructor `ref`, with the tag of what its references hold
      ref : T → Value
      address : ℕ → Value
      -- what the store has at an address
      cell : T → Value → Value
      -- a primitive, with the tag of the type that it is used at
      primitive : T → BasisPrimitive → Value
      closure : C → Env → Value

    pub data Fields : Type 0 where
      no_fields : Fields
      field : Label → Value → Fields → Fields

    -- the latest first
    pub data Env : Type 0 where
      empty : Env
      bind : B → Value → Env → Env

-- A constructor is the number of its identifier: those that derived forms and primitives name are standard words.

abbrev pub false_number : ℕ
false_number = word_false

abbrev pub true_number : ℕ
true_number = word_true

abbrev pub nil_number : ℕ
nil_number = word_nil

abbrev pub cons_number : ℕ
cons_number = word_cons

abbrev pub truth_number : Bool → ℕ
truth_number false = false_number
truth_number true = true_number

abbrev pub same_label : Label → Label → Bool
same_label (Number m) (Number n) = nat_eq m n
same_label (Number m) (Word x) = false
same_label (Word x) (Number n) = false
same_label (Word x) (Word y) = nat_eq x y

module _ {B C T : Type 0} where
  -- the last variable of this use
  abbrev pub look_by : {U : Type 0} → (U → B → Bool) → U → Env B C T → Option (Value B C T)
  look_by is_of x empty = None
  look_by is_of x (bind y v env) = if is_of x y then Some v else look_by is_of x env

  abbrev pub field_in : Label → Fields B C T → Option (Value B C T)
  field_in l no_fields = None
  field_in l (field k v fs) = if same_label l k then Some v else field_in l fs

  abbrev pub count : Fields B C T → ℕ
  count no_fields = 0
  count (field l v fs) = suc (count fs)

  abbrev pub literal_in : Value B C T → Option Literal
  literal_in (literal l) = Some l
  literal_in v = None

  abbrev pub address_in : Value B C T → Option ℕ
  address_in (address a) = Some a
  address_in v = None

  -- the name of a packet's exception
  abbrev pub packet_name : Value B C T → Option ℕ
  packet_name (exn g n) = Some n
  packet_name (exn_of g n v) = Some n
  packet_name v = None

module _ (K : Tagging) {B C : Type 0} where
  abbrev pub unit_value : Value B C K.Tag
  unit_value = record_of K.of_unit no_fields

  abbrev pub truth_value : Bool → Value B C K.Tag
  truth_value b = con K.of_bool (truth_number b)

  abbrev pub value_of : Literal → Value B C K.Tag
  value_of (int z) = literal (int z)
  value_of (word n) = literal (word n)
  value_of (char n) = literal (char n)
  value_of (string s) = literal (string s)
  value_of (truth b) = truth_value b
