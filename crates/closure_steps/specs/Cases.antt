-- Arms of a switch by their case: one is a test with two ways, or an arm of a cell's tag, or takes all.
use Rattle.std.specs.Prelude.{ℕ, suc, Bool, true, false, List, [], ◌∷◌, if◌then◌else◌}
use Rattle.ir_tables.specs.Tables.{literal_at}
use Rattle.ir_mono.specs.Types as table
use Rattle.first_values.specs.Operations as op
use Rattle.ir_first.specs.Tree as out
use Rattle.plain_tree.specs.declared.tree.Arm.{Arm}
use Rattle.plain_tree.specs.declared.tree.Case.{Case}
use Rattle.plain_tree.specs.declared.tree.Case.TheVariants as case
use Rattle.closure_meaning.specs.Convert.{Numbering, var, constant, con_tag}
use Rattle.closure_parts.specs.Pieces.{a_plain}

abbrev pub is_test : Case → Bool
is_test (case.Constant c) = true
is_test (case.Constructor c) = false
is_test (case.ConstructorOf c x) = false
is_test (case.Exception a) = true
is_test (case.ExceptionOf a x) = true
is_test (case.Record size) = false

abbrev pub is_constructor : Case → Bool
is_constructor (case.Constant c) = false
is_constructor (case.Constructor c) = true
is_constructor (case.ConstructorOf c x) = true
is_constructor (case.Exception a) = false
is_constructor (case.ExceptionOf a x) = false
is_constructor (case.Record size) = false

-- how many there are before the first that is none
abbrev pub leading : {A : Type 0} → (A → Bool) → List A → ℕ
leading p [] = 0
leading p (x ∷ xs) = if p x then suc (leading p xs) else 0

abbrev pub tests_before : List Arm → ℕ
tests_before = leading (λ a. is_test a.case)

-- the test, and what it is of
abbrev pub test_in : Numbering → List (List ℕ) → Case → op.Test
test_in n strings (case.Constant c) = op.is (constant n (literal_at strings c))
test_in n strings (case.Constructor c) = op.is_of
test_in n strings (case.ConstructorOf c x) = op.is_of
test_in n strings (case.Exception a) = op.is_of
test_in n strings (case.ExceptionOf a x) = op.is_of
test_in n strings (case.Record size) = op.is_of

abbrev pub tested_in : (a : ℕ) → Case → List ℕ
tested_in a (case.Constant c) = var a ∷ []
tested_in a (case.Constructor c) = var a ∷ []
tested_in a (case.ConstructorOf c x) = var a ∷ []
tested_in a (case.Exception y) = var a ∷ var y ∷ []
tested_in a (case.ExceptionOf y x) = var a ∷ var y ∷ []
tested_in a (case.Record size) = var a ∷ []

-- the tag of the cells that come to an arm
abbrev pub tag_in : List table.Row → (t : ℕ) → Case → ℕ
tag_in types t (case.Constant c) = 0
tag_in types t (case.Constructor c) = con_tag types t c
tag_in types t (case.ConstructorOf c x) = con_tag types t c
tag_in types t (case.Exception a) = 0
tag_in types t (case.ExceptionOf a x) = 0
tag_in types t (case.Record size) = 0

-- what an arm has of the value that came to it
abbrev pub opened : (a : ℕ) → Case → out.Exp → out.Exp
opened a (case.Constant c) e = e
opened a (case.Constructor c) e = e
opened a (case.ConstructorOf c x) e = out.let_in (var x.variable) (a_plain (op.field 0) (var a)) e
opened a (case.Exception y) e = e
opened a (case.ExceptionOf y x) e = out.let_in (var x.variable) (a_plain op.argument (var a)) e
opened a (case.Record size) e = e
