-- The standard words: identifiers that every table of names begins with, so that each has one number. They are those of the initial basis, those that the
-- standard basis declares, those that its fixities name, and `it`. (`=` is no name: it is reserved.) A later word goes last, so that numbers stay.
use Rattle.std.specs.Prelude.{ℕ, List, [], ◌∷◌, ◌++◌, codes}

-- type constructors (`ref` is a constructor too)
abbrev pub type_words : List (List ℕ)
type_words =
    codes "unit" ∷ codes "int" ∷ codes "word" ∷ codes "char" ∷ codes "string" ∷ codes "bool" ∷ codes "list" ∷ codes "ref" ∷ codes "exn" ∷ codes "option" ∷
    codes "order" ∷ []

-- constructors
abbrev pub constructor_words : List (List ℕ)
constructor_words = codes "true" ∷ codes "false" ∷ codes "nil" ∷ codes "::" ∷ codes "NONE" ∷ codes "SOME" ∷ codes "LESS" ∷ codes "EQUAL" ∷ codes "GREATER" ∷ []

-- exceptions (`Option` is a structure too)
abbrev pub exception_words : List (List ℕ)
exception_words =
    codes "Match" ∷ codes "Bind" ∷ codes "Overflow" ∷ codes "Div" ∷ codes "Subscript" ∷ codes "Size" ∷ codes "Chr" ∷ codes "Fail" ∷ codes "Empty" ∷
    codes "Option" ∷ []

-- what a top-level expression is bound to
abbrev pub it_words : List (List ℕ)
it_words = codes "it" ∷ []

-- values of the initial basis
abbrev pub initial_words : List (List ℕ)
initial_words =
    codes "+" ∷ codes "-" ∷ codes "*" ∷ codes "div" ∷ codes "mod" ∷ codes "~" ∷ codes "abs" ∷ codes "<" ∷ codes "<=" ∷ codes ">" ∷ codes ">=" ∷
    codes ":=" ∷ []

-- the other identifiers with a fixity
abbrev pub fixity_words : List (List ℕ)
fixity_words = codes "/" ∷ codes "<>" ∷ codes "@" ∷ codes "^" ∷ codes "o" ∷ codes "before" ∷ []

-- the structure of primitives, and its values
abbrev pub primitive_words : List (List ℕ)
primitive_words =
    codes "Prim" ∷ codes "quot" ∷ codes "rem" ∷ codes "andb" ∷ codes "orb" ∷ codes "xorb" ∷ codes "notb" ∷ codes "shl" ∷ codes "shr" ∷ codes "sar" ∷
    codes "toInt" ∷ codes "toIntX" ∷ codes "fromInt" ∷ codes "ord" ∷ codes "chr" ∷ codes "text" ∷ codes "size" ∷ codes "sub" ∷ codes "part" ∷ codes "cat" ∷
    codes "str" ∷ codes "print" ∷ []

-- the other structures
abbrev pub structure_words : List (List ℕ)
structure_words = codes "Bool" ∷ codes "Int" ∷ codes "Word" ∷ codes "Char" ∷ codes "List" ∷ codes "String" ∷ []

-- values at the top level
abbrev pub top_words : List (List ℕ)
top_words =
    codes "not" ∷ codes "!" ∷ codes "ignore" ∷ codes "substring" ∷ codes "getOpt" ∷ codes "isSome" ∷ codes "valOf" ∷ codes "null" ∷ codes "hd" ∷
    codes "tl" ∷ codes "length" ∷ codes "rev" ∷ codes "map" ∷ codes "app" ∷ codes "foldl" ∷ codes "foldr" ∷ codes "concat" ∷ codes "explode" ∷
    codes "implode" ∷ []

-- values of the structures alone
abbrev pub member_words : List (List ℕ)
member_words =
    codes "toString" ∷ codes "min" ∷ codes "max" ∷ codes "compare" ∷ codes "<<" ∷ codes ">>" ∷ codes "~>>" ∷ codes "isDigit" ∷ codes "isLower" ∷
    codes "isUpper" ∷ codes "isAlpha" ∷ codes "isSpace" ∷ codes "toUpper" ∷ codes "toLower" ∷ codes "revAppend" ∷ codes "filter" ∷ codes "find" ∷
    codes "exists" ∷ codes "all" ∷ codes "nth" ∷ codes "tabulate" ∷ codes "maxSize" ∷ codes "isPrefix" ∷ []

abbrev pub standard_words : List (List ℕ)
standard_words =
    type_words ++ (constructor_words ++ (exception_words ++ (it_words ++ (initial_words ++ (fixity_words ++ (primitive_words
    ++ (structure_words ++ (top_words ++ member_words))))))))

-- The numbers of the words that rules name.

-- type constructors (`ref` is a constructor too)
abbrev pub word_unit : ℕ
word_unit = 0

abbrev pub word_int : ℕ
word_int = 1

abbrev pub word_word : ℕ
word_word = 2

abbrev pub word_char : ℕ
word_char = 3

abbrev pub word_string : ℕ
word_string = 4

abbrev pub word_bool : ℕ
word_bool = 5

abbrev pub word_list : ℕ
word_list = 6

abbrev pub word_ref : ℕ
word_ref = 7

abbrev pub word_exn : ℕ
word_exn = 8

abbrev pub word_option : ℕ
word_option = 9

abbrev pub word_order : ℕ
word_order = 10

-- constructors
abbrev pub word_true : ℕ
word_true = 11

abbrev pub word_false : ℕ
word_false = 12

abbrev pub word_nil : ℕ
word_nil = 13

abbrev pub word_cons : ℕ
word_cons = 14

abbrev pub word_NONE : ℕ
word_NONE = 15

abbrev pub word_SOME : ℕ
word_SOME = 16

abbrev pub word_LESS : ℕ
word_LESS = 17

abbrev pub word_EQUAL : ℕ
word_EQUAL = 18

abbrev pub word_GREATER : ℕ
word_GREATER = 19

-- exceptions (`Option` is a structure too)
abbrev pub word_Match : ℕ
word_Match = 20

abbrev pub word_Bind : ℕ
word_Bind = 21

abbrev pub word_Overflow : ℕ
word_Overflow = 22

abbrev pub word_Div : ℕ
word_Div = 23

abbrev pub word_Subscript : ℕ
word_Subscript = 24

abbrev pub word_Size : ℕ
word_Size = 25

abbrev pub word_Chr : ℕ
word_Chr = 26

abbrev pub word_Fail : ℕ
word_Fail = 27

abbrev pub word_Empty : ℕ
word_Empty = 28

abbrev pub word_Option : ℕ
word_Option = 29

-- what a top-level expression is bound to
abbrev pub word_it : ℕ
word_it = 30

-- values of the initial basis
abbrev pub word_plus : ℕ
word_plus = 31

abbrev pub word_minus : ℕ
word_minus = 32

abbrev pub word_times : ℕ
word_times = 33

abbrev pub word_div : ℕ
word_div = 34

abbrev pub word_mod : ℕ
word_mod = 35

abbrev pub word_negate : ℕ
word_negate = 36

abbrev pub word_abs : ℕ
word_abs = 37

abbrev pub word_less_than : ℕ
word_less_than = 38

abbrev pub word_at_most : ℕ
word_at_most = 39

abbrev pub word_greater_than : ℕ
word_greater_than = 40

abbrev pub word_at_least : ℕ
word_at_least = 41

abbrev pub word_assign : ℕ
word_assign = 42

-- the other identifiers with a fixity
abbrev pub word_divide : ℕ
word_divide = 43

abbrev pub word_not_equal : ℕ
word_not_equal = 44

abbrev pub word_append : ℕ
word_append = 45

abbrev pub word_concatenate : ℕ
word_concatenate = 46

abbrev pub word_compose : ℕ
word_compose = 47

abbrev pub word_before : ℕ
word_before = 48

-- the structure of primitives, and its values
abbrev pub word_Prim : ℕ
word_Prim = 49

abbrev pub word_quot : ℕ
word_quot = 50

abbrev pub word_rem : ℕ
word_rem = 51

abbrev pub word_andb : ℕ
word_andb = 52

abbrev pub word_orb : ℕ
word_orb = 53

abbrev pub word_xorb : ℕ
word_xorb = 54

abbrev pub word_notb : ℕ
word_notb = 55

abbrev pub word_shl : ℕ
word_shl = 56

abbrev pub word_shr : ℕ
word_shr = 57

abbrev pub word_sar : ℕ
word_sar = 58

abbrev pub word_toInt : ℕ
word_toInt = 59

abbrev pub word_toIntX : ℕ
word_toIntX = 60

abbrev pub word_fromInt : ℕ
word_fromInt = 61

abbrev pub word_ord : ℕ
word_ord = 62

abbrev pub word_chr : ℕ
word_chr = 63

abbrev pub word_text : ℕ
word_text = 64

abbrev pub word_size : ℕ
word_size = 65

abbrev pub word_sub : ℕ
word_sub = 66

abbrev pub word_part : ℕ
word_part = 67

abbrev pub word_cat : ℕ
word_cat = 68

abbrev pub word_str : ℕ
word_str = 69

abbrev pub word_print : ℕ
word_print = 70
