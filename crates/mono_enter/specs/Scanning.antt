-- What the words of copies want of a table of closed types, in the order of the text of the tree: a function of a group wants its type where its body begins.
use Rattle.std.specs.Prelude.{Bool, true, false, List, [], ◌∷◌, ◌++◌, Option, Some, None}
use Rattle.ty_core.specs.Types.{Typ}
use Rattle.ir_plain.specs.Tree.{Case}
use Rattle.monomorphise.specs.Monomorphise.{Named}
use Rattle.monomorphise.specs.Table.{Wanted, a_type, wanted_if, case_wanted, op_wanted}
use Rattle.mono_words.specs.Words.{Sign, switch_sign, arm_sign, exception_sign, group_sign, function_sign, let_sign, op_sign, record_sign, perform_sign, fn_sign, parameter_sign, last_sign, end_sign}

-- lists around that are not at their ends, with the type of a switch's arms; the types of functions whose bodies are still to come; and whether the parameters
-- that follow are those of a function that has begun
pub record Around : Type 0 where
  pub lists : List (Option Typ)
  pub functions : List Typ
  pub begun : Bool

abbrev pub around : List (Option Typ) → List Typ → Bool → Around
around l p b = record { lists = l; functions = p; begun = b }

-- the types of the functions that come first
abbrev pub heads_before : List Sign → List Typ → List Typ
heads_before (function_sign k t ∷ ws) p = t ∷ heads_before ws p
heads_before _ p = p

abbrev pub tail : {A : Type 0} → List A → List A
tail [] = []
tail (x ∷ xs) = xs

abbrev pub arm_wanted : List (Option Typ) → Case Named → List Wanted
arm_wanted (Some u ∷ l) c = case_wanted u c
arm_wanted _ c = []

-- a body begins, unless its function has
abbrev pub body_wanted : Bool → List Typ → List Wanted
body_wanted false (t ∷ p) = a_type t ∷ []
body_wanted _ p = []

abbrev pub bodies_after : Bool → List Typ → List Typ
bodies_after true p = p
bodies_after false p = tail p

-- what a word wants, and what is around then; ws follow it
abbrev pub wants : Sign → Around → List Wanted
wants (switch_sign k t) a = a_type t ∷ []
wants (arm_sign c) a = arm_wanted a.lists c
wants (exception_sign k i t) a = wanted_if t []
wants (let_sign k t) a = a_type t ∷ []
wants (op_sign o) a = op_wanted o
wants (record_sign t) a = a_type t ∷ []
wants (perform_sign m p t) a = a_type t ∷ []
wants (parameter_sign k t) a = body_wanted a.begun a.functions ++ a_type t ∷ []
wants (last_sign k t) a = body_wanted a.begun a.functions ++ a_type t ∷ []
wants w a = []

abbrev pub then_around : Sign → List Sign → Around → Around
then_around (switch_sign k t) ws a = around (Some t ∷ a.lists) a.functions false
then_around group_sign ws a = around (None ∷ a.lists) (heads_before ws a.functions) false
then_around (record_sign t) ws a = around (None ∷ a.lists) a.functions false
then_around (perform_sign m p t) ws a = around (None ∷ a.lists) a.functions false
then_around fn_sign ws a = around a.lists a.functions true
then_around (parameter_sign k t) ws a = around a.lists (bodies_after a.begun a.functions) true
then_around (last_sign k t) ws a = around a.lists (bodies_after a.begun a.functions) false
then_around end_sign ws a = around (tail a.lists) a.functions false
then_around w ws a = around a.lists a.functions false

abbrev pub scan : List Sign → Around → List Wanted
scan [] a = []
scan (w ∷ ws) a = wants w a ++ scan ws (then_around w ws a)
