-- Code is at most ten instructions a node.
use Rattle.std.proofs.Common.{◌≡◌, ℕ, suc, ◌+◌, ◌*◌, ◌≤◌, List, [], ◌∷◌, ◌++◌, length, refl, ap, arith, length-append}
use Rattle.mlc_prims.specs.declared.basis.BasisPrimitive.{BasisPrimitive}
use Rattle.mlc_prims.specs.declared.basis.BasisPrimitive.TheVariants.{Add, Subtract, Multiply, Divide, Modulo, Negate, Absolute, Less, LessEqual, Greater, GreaterEqual, Equals, Assign, Quotient, Remainder, BitsAnd, BitsOr, BitsXor, BitsNot, ShiftLeft, ShiftRight, ShiftSigned, ToInt, ToIntSigned, FromInt, CharCode, CharOf, TextOf, SizeOf, CharAt, PartOf, Concat, StringOf, Print}
use Rattle.std.specs.Prelude.{get_or}
use Rattle.first_values.specs.Equality.{Shape, opaque}
use Rattle.first_values.specs.Operations.{Member, Plain, same, constant, field, refer, content, assign, exception, initial, pack, argument, compute, equal, print, Test, is, is_of, holds, Operands, ints, words, chars, texts}
use Rattle.machine_primitives.specs.of_ir_ssa.Tree.{Body, Bodies, Fun, plain, make, attempt, turn, call, label, again, guard, goto, jump, branch, switch, tail, ret, raise, last, arm}
use Rattle.machine_primitives.specs.of_ir_ssa.Size.{nodes, nodes_bodies, nodes_funs}
use Rattle.machine_primitives.specs.of_machine_routines.EqualCode.{is_word, equal_code}
use Rattle.machine_primitives.specs.of_machine_routines.Sizes.{EqualIsShort, FindIsShort}
use Rattle.machine_primitives.specs.of_machine_code.Rows.{AreRight}
use Rattle.machine_primitives.specs.of_machine_code.Code.{Places, Scope, Exit, no_exit, exit_at, left, plain_size, test_size, count, Choice, choice_of, size, arms_size, with_params, code_at}
use Rattle.machine_primitives.specs.of_machine_code.Image.{funs_code, widest, placed, tags_end, set_code, set_size, sets_code, fun_size, most_code, funs_at, sets_at, fun_at, places_of}
use Rattle.machine_primitives.specs.of_machine_code.Sizes.{sets_nodes}
use Rattle.machine_primitives.proofs.of_machine_code.Bounds.{is_bound, callee_bound, make_bound, late_bound, equal_bound, goto_bound, args_bound, tests_of, one_more_test, choice_bound}
use Rattle.machine_primitives.proofs.of_machine_code.Sizes.{code_length}
use Rattle.machine_rows.specs.Table.{int_row, word_row, char_row, text_row, int_test, word_test, text_test, rows}
use Rattle.machine_rows.specs.Law.{RowsAreShort, ImagesAreShort}

int_row_short : (p : BasisPrimitive) → (int_row p).size ≤ 20
int_row_short Add = omega arith
int_row_short Subtract = omega arith
int_row_short Multiply = omega arith
int_row_short Divide = omega arith
int_row_short Modulo = omega arith
int_row_short Negate = omega arith
int_row_short Absolute = omega arith
int_row_short Less = omega arith
int_row_short LessEqual = omega arith
int_row_short Greater = omega arith
int_row_short GreaterEqual = omega arith
int_row_short Equals = omega arith
int_row_short Assign = omega arith
int_row_short Quotient = omega arith
int_row_short Remainder = omega arith
int_row_short BitsAnd = omega arith
int_row_short BitsOr = omega arith
int_row_short BitsXor = omega arith
int_row_short BitsNot = omega arith
int_row_short ShiftLeft = omega arith
int_row_short ShiftRight = omega arith
int_row_short ShiftSigned = omega arith
int_row_short ToInt = omega arith
int_row_short ToIntSigned = omega arith
int_row_short FromInt = omega arith
int_row_short CharCode = omega arith
int_row_short CharOf = omega arith
int_row_short TextOf = omega arith
int_row_short SizeOf = omega arith
int_row_short CharAt = omega arith
int_row_short PartOf = omega arith
int_row_short Concat = omega arith
int_row_short StringOf = omega arith
int_row_short Print = omega arith

word_row_short : (p : BasisPrimitive) → (word_row p).size ≤ 20
word_row_short Add = omega arith
word_row_short Subtract = omega arith
word_row_short Multiply = omega arith
word_row_short Divide = omega arith
word_row_short Modulo = omega arith
word_row_short Negate = omega arith
word_row_short Absolute = omega arith
word_row_short Less = omega arith
word_row_short LessEqual = omega arith
word_row_short Greater = omega arith
word_row_short GreaterEqual = omega arith
word_row_short Equals = omega arith
word_row_short Assign = omega arith
word_row_short Quotient = omega arith
word_row_short Remainder = omega arith
word_row_short BitsAnd = omega arith
word_row_short BitsOr = omega arith
word_row_short BitsXor = omega arith
word_row_short BitsNot = omega arith
word_row_short ShiftLeft = omega arith
word_row_short ShiftRight = omega arith
word_row_short ShiftSigned = omega arith
word_row_short ToInt = omega arith
word_row_short ToIntSigned = omega arith
word_row_short FromInt = omega arith
word_row_short CharCode = omega arith
word_row_short CharOf = omega arith
word_row_short TextOf = omega arith
word_row_short SizeOf = omega arith
word_row_short CharAt = omega arith
word_row_short PartOf = omega arith
word_row_short Concat = omega arith
word_row_short StringOf = omega arith
word_row_short Print = omega arith

char_row_short : (p : BasisPrimitive) → (char_row p).size ≤ 20
char_row_short Add = omega arith
char_row_short Subtract = omega arith
char_row_short Multiply = omega arith
char_row_short Divide = omega arith
char_row_short Modulo = omega arith
char_row_short Negate = omega arith
char_row_short Absolute = omega arith
char_row_short Less = omega arith
char_row_short LessEqual = omega arith
char_row_short Greater = omega arith
char_row_short GreaterEqual = omega arith
char_row_short Equals = omega arith
char_row_short Assign = omega arith
char_row_short Quotient = omega arith
char_row_short Remainder = omega arith
char_row_short BitsAnd = omega arith
char_row_short BitsOr = omega arith
char_row_short BitsXor = omega arith
char_row_short BitsNot = omega arith
char_row_short ShiftLeft = omega arith
char_row_short ShiftRight = omega arith
char_row_short ShiftSigned = omega arith
char_row_short ToInt = omega arith
char_row_short ToIntSigned = omega arith
char_row_short FromInt = omega arith
char_row_short CharCode = omega arith
char_row_short CharOf = omega arith
char_row_short TextOf = omega arith
char_row_short SizeOf = omega arith
char_row_short CharAt = omega arith
char_row_short PartOf = omega arith
char_row_short Concat = omega arith
char_row_short StringOf = omega arith
char_row_short Print = omega arith

text_row_short : (p : BasisPrimitive) → (text_row p).size ≤ 20
text_row_short Add = omega arith
text_row_short Subtract = omega arith
text_row_short Multiply = omega arith
text_row_short Divide = omega arith
text_row_short Modulo = omega arith
text_row_short Negate = omega arith
text_row_short Absolute = omega arith
text_row_short Less = omega arith
text_row_short LessEqual = omega arith
text_row_short Greater = omega arith
text_row_short GreaterEqual = omega arith
text_row_short Equals = omega arith
text_row_short Assign = omega arith
text_row_short Quotient = omega arith
text_row_short Remainder = omega arith
text_row_short BitsAnd = omega arith
text_row_short BitsOr = omega arith
text_row_short BitsXor = omega arith
text_row_short BitsNot = omega arith
text_row_short ShiftLeft = omega arith
text_row_short ShiftRight = omega arith
text_row_short ShiftSigned = omega arith
text_row_short ToInt = omega arith
text_row_short ToIntSigned = omega arith
text_row_short FromInt = omega arith
text_row_short CharCode = omega arith
text_row_short CharOf = omega arith
text_row_short TextOf = omega arith
text_row_short SizeOf = omega arith
text_row_short CharAt = omega arith
text_row_short PartOf = omega arith
text_row_short Concat = omega arith
text_row_short StringOf = omega arith
text_row_short Print = omega arith

int_test_short : (p : BasisPrimitive) → (int_test p).size ≤ 4
int_test_short Add = omega arith
int_test_short Subtract = omega arith
int_test_short Multiply = omega arith
int_test_short Divide = omega arith
int_test_short Modulo = omega arith
int_test_short Negate = omega arith
int_test_short Absolute = omega arith
int_test_short Less = omega arith
int_test_short LessEqual = omega arith
int_test_short Greater = omega arith
int_test_short GreaterEqual = omega arith
int_test_short Equals = omega arith
int_test_short Assign = omega arith
int_test_short Quotient = omega arith
int_test_short Remainder = omega arith
int_test_short BitsAnd = omega arith
int_test_short BitsOr = omega arith
int_test_short BitsXor = omega arith
int_test_short BitsNot = omega arith
int_test_short ShiftLeft = omega arith
int_test_short ShiftRight = omega arith
int_test_short ShiftSigned = omega arith
int_test_short ToInt = omega arith
int_test_short ToIntSigned = omega arith
int_test_short FromInt = omega arith
int_test_short CharCode = omega arith
int_test_short CharOf = omega arith
int_test_short TextOf = omega arith
int_test_short SizeOf = omega arith
int_test_short CharAt = omega arith
int_test_short PartOf = omega arith
int_test_short Concat = omega arith
int_test_short StringOf = omega arith
int_test_short Print = omega arith

word_test_short : (p : BasisPrimitive) → (word_test p).size ≤ 4
word_test_short Add = omega arith
word_test_short Subtract = omega arith
word_test_short Multiply = omega arith
word_test_short Divide = omega arith
word_test_short Modulo = omega arith
word_test_short Negate = omega arith
word_test_short Absolute = omega arith
word_test_short Less = omega arith
word_test_short LessEqual = omega arith
word_test_short Greater = omega arith
word_test_short GreaterEqual = omega arith
word_test_short Equals = omega arith
word_test_short Assign = omega arith
word_test_short Quotient = omega arith
word_test_short Remainder = omega arith
word_test_short BitsAnd = omega arith
word_test_short BitsOr = omega arith
word_test_short BitsXor = omega arith
word_test_short BitsNot = omega arith
word_test_short ShiftLeft = omega arith
word_test_short ShiftRight = omega arith
word_test_short ShiftSigned = omega arith
word_test_short ToInt = omega arith
word_test_short ToIntSigned = omega arith
word_test_short FromInt = omega arith
word_test_short CharCode = omega arith
word_test_short CharOf = omega arith
word_test_short TextOf = omega arith
word_test_short SizeOf = omega arith
word_test_short CharAt = omega arith
word_test_short PartOf = omega arith
word_test_short Concat = omega arith
word_test_short StringOf = omega arith
word_test_short Print = omega arith

text_test_short : (p : BasisPrimitive) → (text_test p).size ≤ 4
text_test_short Add = omega arith
text_test_short Subtract = omega arith
text_test_short Multiply = omega arith
text_test_short Divide = omega arith
text_test_short Modulo = omega arith
text_test_short Negate = omega arith
text_test_short Absolute = omega arith
text_test_short Less = omega arith
text_test_short LessEqual = omega arith
text_test_short Greater = omega arith
text_test_short GreaterEqual = omega arith
text_test_short Equals = omega arith
text_test_short Assign = omega arith
text_test_short Quotient = omega arith
text_test_short Remainder = omega arith
text_test_short BitsAnd = omega arith
text_test_short BitsOr = omega arith
text_test_short BitsXor = omega arith
text_test_short BitsNot = omega arith
text_test_short ShiftLeft = omega arith
text_test_short ShiftRight = omega arith
text_test_short ShiftSigned = omega arith
text_test_short ToInt = omega arith
text_test_short ToIntSigned = omega arith
text_test_short FromInt = omega arith
text_test_short CharCode = omega arith
text_test_short CharOf = omega arith
text_test_short TextOf = omega arith
text_test_short SizeOf = omega arith
text_test_short CharAt = omega arith
text_test_short PartOf = omega arith
text_test_short Concat = omega arith
text_test_short StringOf = omega arith
text_test_short Print = omega arith

pub rows_short : RowsAreShort
rows_short ints p = (int_row_short p, int_test_short p)
rows_short words p = (word_row_short p, word_test_short p)
rows_short chars p = (char_row_short p, word_test_short p)
rows_short texts p = (text_row_short p, text_test_short p)

row_short : (k : Operands) (p : BasisPrimitive) → rows.size k p ≤ 20
row_short k p = let s = rows_short k p in s.0

plain_short : (types : List Shape) (p : Plain) → plain_size rows types p ≤ 20
plain_short types same = omega arith
plain_short types (constant k) = omega arith
plain_short types (field k) = omega arith
plain_short types refer = omega arith
plain_short types content = omega arith
plain_short types assign = omega arith
plain_short types (exception k) = omega arith
plain_short types (initial k) = omega arith
plain_short types pack = omega arith
plain_short types argument = omega arith
plain_short types (compute k p) = row_short k p
plain_short types (equal k) = omega (arith, equal_bound (is_word (get_or types k opaque)))
plain_short types print = omega arith

test_short : (types : List Shape) (q : Test) → test_size rows types q ≤ 5
test_short types (is c) = is_bound c
test_short types is_of = omega arith
test_short types (holds k p) = let s = rows_short k p in let le = s.1 in omega arith

module _ (types : List Shape) where
  mutual
    size_short : (d : ℕ) (scope : Scope) (es : List Exit) (b : Body) → size rows types d scope es b + 1 ≤ 10 * nodes b
    size_short d scope es (plain p xs x b) = omega (arith, plain_short types p, size_short (suc d) ((x, d) ∷ scope) es b)
    size_short d scope es (make t qs x b) = omega (arith, make_bound t qs, size_short (suc d) ((x, d) ∷ scope) es b)
    size_short d scope es (attempt k p xs x a b) =
        omega (arith, row_short k p, late_bound (rows.late k p), size_short (suc d) ((x, d) ∷ scope) es a, size_short (suc d) ((x, d) ∷ scope) es b)
    size_short d scope es (turn p b) = omega (arith, size_short d scope es b)
    size_short d scope es (call p c xs x b) = omega (arith, callee_bound c (length xs), size_short (suc d) ((x, d) ∷ scope) es b)
    size_short d scope es (label params a b) =
        omega (arith, size_short (d + length params) (with_params params d scope) es a, size_short d scope (exit_at d ∷ es) b)
    size_short d scope es (again params a b) =
        omega (arith, size_short (d + length params) (with_params params d scope) (exit_at d ∷ es) a, size_short d scope (exit_at d ∷ es) b)
    size_short d scope es (guard l a y h) =
        omega (arith, size_short (d + 3) scope (left (get_or es l no_exit) ∷ []) a, size_short (suc d) ((y, d) ∷ scope) es h)
    size_short d scope es (goto l xs) = omega (arith, goto_bound (get_or es l no_exit) xs scope)
    size_short d scope es (jump p l xs) = omega (arith, goto_bound (get_or es l no_exit) xs scope)
    size_short d scope es (branch q xs a b) = omega (arith, test_short types q, size_short d scope es a, size_short d scope es b)
    size_short d scope es (switch x bs) = omega (arith, choice_bound bs, arms_short (choice_of bs) d scope es bs)
    size_short d scope es (tail p c xs) = omega (arith, args_bound c scope xs)
    size_short d scope es (ret x) = omega arith
    size_short d scope es (raise x) = omega arith

    arms_short : (how : Choice) (d : ℕ) (scope : Scope) (es : List Exit) (bs : Bodies)
        → arms_size rows types how d scope es bs + 7 * count bs + 1 ≤ tests_of how (count bs) + 10 * nodes_bodies bs
    arms_short how d scope es (last b) = omega (arith, size_short d scope es b)
    arms_short how d scope es (arm i b bs) = omega (arith, one_more_test how (count bs), size_short d scope es b, arms_short how d scope es bs)

funs_short : (at : Places) → AreRight at.rows → ((d : ℕ) (scope : Scope) (es : List Exit) (b : Body) → size at.rows at.types d scope es b + 1 ≤ 10 * nodes b) → (pc : ℕ) (funs : List Fun) → length (funs_code at pc funs) ≤ 10 * nodes_funs funs
funs_short at right short pc [] = omega arith
funs_short at right short pc (g ∷ funs) =
    let c = code_at at pc (length g.params) (with_params g.params 0 []) [] g.body in
    let n = fun_size at.rows at.types g in
    omega (
      arith,
      length-append c (funs_code at (pc + n) funs),
      code_length at right g.body pc (length g.params) (with_params g.params 0 []) [],
      short (length g.params) (with_params g.params 0 []) [] g.body,
      funs_short at right short (pc + n) funs,
    )

placed_length : (places : ℕ → ℕ) (set : List Member) → length (placed places set) ≡ length set
placed_length places [] = refl
placed_length places (m ∷ ms) = ap suc (placed_length places ms)

sets_short : FindIsShort → (funs : List Fun) (places : ℕ → ℕ) (pc : ℕ) (sets : List (List Member)) → length (sets_code funs places pc sets) ≤ 4 * sets_nodes sets
sets_short short funs places pc [] = omega arith
sets_short short funs places pc (s ∷ sets) =
    let set = placed places s in
    let k = widest funs s in
    omega (
      arith,
      length-append (set_code pc k set) (sets_code funs places (pc + set_size set) sets),
      short set (pc + 2) (k + 2) (k + 3) 0 (tags_end set),
      placed_length places s,
      sets_short short funs places (pc + set_size set) sets,
    )

pub code_short : AreRight rows → EqualIsShort → FindIsShort → ImagesAreShort
code_short right equal_short find_short written p =
    let T = p.tables in
    let at = places_of rows written p in
    let equals = equal_code T.types 2 most_code in
    let funs = funs_code at (funs_at rows written p) p.funs in
    let sets = sets_code p.funs (fun_at rows written p) (sets_at rows written p) T.sets in
    omega (
      arith,
      length-append equals (funs ++ sets),
      length-append funs sets,
      equal_short T.types 2 most_code,
      funs_short at right (size_short T.types) (funs_at rows written p) p.funs,
      sets_short find_short p.funs (fun_at rows written p) (sets_at rows written p) T.sets,
    )
