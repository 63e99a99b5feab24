-- The code is no more than so many instructions a node.
use Rattle.std.proofs.Common.{◌≡◌, ℕ, zero, suc, ◌+◌, ◌*◌, ◌≤◌, List, [], ◌∷◌, ◌++◌, length, Option, Some, None, Bool, true, false, refl, ap, arith, length-append}
use Rattle.std.specs.Prelude.{not, ◌&&◌, nat_eq, nat_lt, nat_le, get_or, if◌then◌else◌}
use Rattle.std.proofs.lemmas.Bool.{leb-true}
use Rattle.std.proofs.lemmas.List.{length-map}
use Rattle.ir_code.specs.Words.{word_of, one_if}
use Rattle.mlc_prims.specs.declared.prim.PrimExn.{PrimExn}
use Rattle.ir_ssa.specs.of_first_values.Equality.{Shape, opaque}
use Rattle.ir_ssa.specs.of_first_values.Values.{Piece, one as a_value, run as a_run}
use Rattle.ir_ssa.specs.of_first_values.Operations.{Member, Constant, an_int, a_word, a_char, a_text, a_truth, Plain, same, constant, field, refer, content, assign, exception, initial, pack, argument, compute, equal, print, Test, is, is_of, holds, Callee, known, one_of}
use Rattle.ir_ssa.specs.Tree.{Body, Bodies, Fun, plain, make, attempt, turn, call, label, again, guard, goto, jump, branch, switch, tail, ret, raise, last, arm}
use Rattle.ir_ssa.specs.Size.{nodes, nodes_bodies, nodes_funs}
use Rattle.machine_routines.specs.EqualCode.{is_word, equal_code}
use Rattle.machine_routines.specs.Sizes.{EqualIsShort, FindIsShort}
use Rattle.machine_code.specs.Rows.{Rows, late_size, AreRight}
use Rattle.machine_code.specs.Code.{Places, or_zero, Scope, depths_in, Exit, no_exit, exit_at, left, word_test_size, is_size, plain_size, test_size, callee_count, args_of, count, arms_end, rise, Choice, by_table, by_search, by_tests, choice_of, choice_size, test_arm_size, one_if_true, in_order, straight_size, move_size, goto_size, equal_size, pieces_size, is_shared, make_size, size, arms_size, with_params, code_at}
use Rattle.machine_code.specs.Image.{text_word, text_words, text_place, packet_words, funs_code, widest, placed, tags_end, set_code, set_size, sets_code, fun_size, most_code, names_at, initial_at, funs_at, sets_at, fun_at, places_of, first_names, first_packets}
use Rattle.machine_code.specs.Sizes.{plain_rows, test_rows, body_rows, bodies_rows, funs_rows, sets_nodes, words_in, words_of, CodeIsShort, ConstantsAreShort}
use Rattle.machine_code.proofs.Sizes.{code_length}
use Rattle.machine_code.proofs.Vars.{depths_length}

one_at_most : (b : Bool) → one_if_true b ≤ 1
one_at_most true = omega arith
one_at_most false = omega arith

word_test_bound : (n : ℕ) → word_test_size n ≤ 3
word_test_bound zero = omega arith
word_test_bound (suc n) = omega arith

pub is_bound : (c : Constant) → is_size c ≤ 5
is_bound (an_int z) = omega (arith, word_test_bound (or_zero (word_of z)))
is_bound (a_word n) = omega (arith, word_test_bound n)
is_bound (a_char n) = omega (arith, word_test_bound n)
is_bound (a_text i) = omega arith
is_bound (a_truth b) = omega (arith, word_test_bound (one_if b))

pub late_bound : (o : Option PrimExn) → late_size o ≤ 1
late_bound None = omega arith
late_bound (Some e) = omega arith

pub equal_bound : (b : Bool) → equal_size b ≤ 5
equal_bound true = omega arith
equal_bound false = omega arith

straight_bound : (t : ℕ) (xs : List ℕ) → straight_size t xs ≤ length xs
straight_bound t [] = omega arith
straight_bound t (x ∷ xs) = omega (arith, one_at_most (not (nat_eq x t)), straight_bound (suc t) xs)

move_bound : (t : ℕ) (xs : List ℕ) → move_size t xs ≤ 2 * length xs
move_bound t xs = by (in_order t t xs)
  where
    by : (b : Bool) → (if b then straight_size t xs else length xs + length xs) ≤ 2 * length xs
    by true = omega (arith, straight_bound t xs)
    by false = omega arith

pub goto_bound : (e : Exit) (xs : List ℕ) (scope : Scope) → goto_size e (depths_in xs scope) ≤ 2 + 2 * length xs
goto_bound e xs scope = omega (arith, one_at_most e.leaves, move_bound e.depth (depths_in xs scope), depths_length xs scope)

pub args_bound : (c : Callee) (scope : Scope) (xs : List ℕ) → move_size 0 (args_of c scope xs) ≤ 2 + 2 * length xs
args_bound (known f) scope xs = omega (arith, move_bound 0 (depths_in xs scope), depths_length xs scope)
args_bound (one_of s x) scope xs = omega (arith, move_bound 0 (args_of (one_of s x) scope xs), depths_length xs scope)

pub callee_bound : (c : Callee) (n : ℕ) → callee_count c n ≤ 1 + n
callee_bound (known f) n = omega arith
callee_bound (one_of s x) n = omega arith

pub pieces_bound : (ps : List Piece) → pieces_size ps ≤ 6 * length ps
pieces_bound [] = omega arith
pieces_bound (a_value x ∷ ps) = omega (arith, pieces_bound ps)
pieces_bound (a_run x from zero ∷ ps) = omega (arith, pieces_bound ps)
pieces_bound (a_run x from (suc n) ∷ ps) = omega (arith, pieces_bound ps)

pub make_bound : (t : ℕ) (qs : List Piece) → make_size t qs ≤ 3 + 6 * length qs
make_bound t qs = by (is_shared t qs)
  where
    by : (b : Bool) → (if b then 1 else 3 + pieces_size qs) ≤ 3 + 6 * length qs
    by true = omega arith
    by false = omega (arith, pieces_bound qs)

-- before n arms
abbrev pub tests_of : Choice → ℕ → ℕ
tests_of by_table n = 0
tests_of by_search n = 0
tests_of by_tests n = 3 * n

pub one_more_test : (how : Choice) (n : ℕ) → tests_of how (suc n) ≡ test_arm_size how + tests_of how n
one_more_test by_table n = refl
one_more_test by_search n = refl
one_more_test by_tests n = omega arith

-- before the arms, where a search has more to an arm than a table, and tests more in the arms
pub choice_bound : (bs : Bodies) → choice_size (choice_of bs) bs + tests_of (choice_of bs) (count bs) ≤ 3 + 7 * count bs
choice_bound bs = by (nat_le (arms_end bs) (2 * count bs)) (nat_lt 4 (count bs) && rise 0 bs) refl
  where
    by : (a b : Bool) → nat_le (arms_end bs) (2 * count bs) ≡ a
        → (let how : Choice = if a then by_table else (if b then by_search else by_tests) in choice_size how bs + tests_of how (count bs) ≤ 3 + 7 * count bs)
    by true b e = let h = leb-true (arms_end bs) (2 * count bs) e in omega arith
    by false true e = omega arith
    by false false e = omega arith

module _ (rows : Rows) (types : List Shape) where
  plain_bound : (p : Plain) → plain_size rows types p ≤ 5 + plain_rows rows p
  plain_bound same = omega arith
  plain_bound (constant k) = omega arith
  plain_bound (field k) = omega arith
  plain_bound refer = omega arith
  plain_bound content = omega arith
  plain_bound assign = omega arith
  plain_bound (exception k) = omega arith
  plain_bound (initial k) = omega arith
  plain_bound pack = omega arith
  plain_bound argument = omega arith
  plain_bound (compute k p) = omega arith
  plain_bound (equal k) = omega (arith, equal_bound (is_word (get_or types k opaque)))
  plain_bound print = omega arith

  test_bound : (q : Test) → test_size rows types q ≤ 5 + test_rows rows q
  test_bound (is c) = omega (arith, is_bound c)
  test_bound is_of = omega arith
  test_bound (holds k p) = omega arith

  mutual
    pub size_bound : (d : ℕ) (scope : Scope) (es : List Exit) (b : Body) → size rows types d scope es b + 1 ≤ 6 * nodes b + body_rows rows b
    size_bound d scope es (plain p xs x b) = omega (arith, plain_bound p, size_bound (suc d) ((x, d) ∷ scope) es b)
    size_bound d scope es (make t qs x b) = omega (arith, make_bound t qs, size_bound (suc d) ((x, d) ∷ scope) es b)
    size_bound d scope es (attempt k p xs x a b) = omega (arith, late_bound (rows.late k p), size_bound (suc d) ((x, d) ∷ scope) es a, size_bound (suc d) ((x, d) ∷ scope) es b)
    size_bound d scope es (turn p b) = omega (arith, size_bound d scope es b)
    size_bound d scope es (call p c xs x b) = omega (arith, callee_bound c (length xs), size_bound (suc d) ((x, d) ∷ scope) es b)
    size_bound d scope es (label params a b) =
        omega (arith, size_bound (d + length params) (with_params params d scope) es a, size_bound d scope (exit_at d ∷ es) b)
    size_bound d scope es (again params a b) =
        omega (arith, size_bound (d + length params) (with_params params d scope) (exit_at d ∷ es) a, size_bound d scope (exit_at d ∷ es) b)
    size_bound d scope es (guard l a y h) =
        omega (arith, size_bound (d + 3) scope (left (get_or es l no_exit) ∷ []) a, size_bound (suc d) ((y, d) ∷ scope) es h)
    size_bound d scope es (goto l xs) = omega (arith, goto_bound (get_or es l no_exit) xs scope)
    size_bound d scope es (jump p l xs) = omega (arith, goto_bound (get_or es l no_exit) xs scope)
    size_bound d scope es (branch q xs a b) = omega (arith, test_bound q, size_bound d scope es a, size_bound d scope es b)
    size_bound d scope es (switch x bs) = omega (arith, choice_bound bs, arms_bound (choice_of bs) d scope es bs)
    size_bound d scope es (tail p c xs) = omega (arith, args_bound c scope xs)
    size_bound d scope es (ret x) = omega arith
    size_bound d scope es (raise x) = omega arith

    -- each arm leaves seven
    pub arms_bound : (how : Choice) (d : ℕ) (scope : Scope) (es : List Exit) (bs : Bodies)
        → arms_size rows types how d scope es bs + 7 * count bs + 1 ≤ tests_of how (count bs) + 6 * nodes_bodies bs + bodies_rows rows bs
    arms_bound how d scope es (last b) = omega (arith, size_bound d scope es b)
    arms_bound how d scope es (arm i b bs) = omega (arith, one_more_test how (count bs), size_bound d scope es b, arms_bound how d scope es bs)

funs_bound : (at : Places) → AreRight at.rows → (pc : ℕ) (funs : List Fun) → length (funs_code at pc funs) ≤ 6 * nodes_funs funs + funs_rows at.rows funs
funs_bound at right pc [] = omega arith
funs_bound at right pc (g ∷ funs) =
    let c = code_at at pc (length g.params) (with_params g.params 0 []) [] g.body in
    let n = fun_size at.rows at.types g in
    omega (
      arith,
      length-append c (funs_code at (pc + n) funs),
      code_length at right g.body pc (length g.params) (with_params g.params 0 []) [],
      size_bound at.rows at.types (length g.params) (with_params g.params 0 []) [] g.body,
      funs_bound at right (pc + n) funs,
    )

placed_length : (places : ℕ → ℕ) (set : List Member) → length (placed places set) ≡ length set
placed_length places [] = refl
placed_length places (m ∷ ms) = ap suc (placed_length places ms)

sets_bound : FindIsShort → (funs : List Fun) (places : ℕ → ℕ) (pc : ℕ) (sets : List (List Member)) → length (sets_code funs places pc sets) ≤ 4 * sets_nodes sets
sets_bound short funs places pc [] = omega arith
sets_bound short funs places pc (s ∷ sets) =
    let set = placed places s in
    let k = widest funs s in
    omega (
      arith,
      length-append (set_code pc k set) (sets_code funs places (pc + set_size set) sets),
      short set (pc + 2) (k + 2) (k + 3) 0 (tags_end set),
      placed_length places s,
      sets_bound short funs places (pc + set_size set) sets,
    )

pub code_bound : EqualIsShort → FindIsShort → CodeIsShort
code_bound equal_short find_short rows right texts p =
    let T = p.tables in
    let at = places_of rows texts p in
    let equals = equal_code T.types 2 most_code in
    let funs = funs_code at (funs_at rows texts p) p.funs in
    let sets = sets_code p.funs (fun_at rows texts p) (sets_at rows texts p) T.sets in
    omega (
      arith,
      length-append equals (funs ++ sets),
      length-append funs sets,
      equal_short T.types 2 most_code,
      funs_bound at right (funs_at rows texts p) p.funs,
      sets_bound find_short p.funs (fun_at rows texts p) (sets_at rows texts p) T.sets,
    )

word_length : (t : List ℕ) → length (text_word t) ≡ words_in t
word_length [] = refl
word_length (c ∷ t) = omega arith

text_length : (ts : List (List ℕ)) → length (text_words ts) ≡ words_of ts
text_length [] = refl
text_length (t ∷ ts) = omega (arith, length-append (text_word t) (text_words ts), word_length t, text_length ts)

packets_length : (a n : ℕ) → length (packet_words a n) ≡ 2 * n
packets_length a zero = refl
packets_length a (suc n) = omega (arith, packets_length (a + 1) n)

pub constants_bound : ConstantsAreShort
constants_bound rows texts p =
    let T = p.tables in
    let ss = text_words T.strings in let ts = text_words texts in
    let ns = first_names rows texts p in let ps = first_packets rows texts p in
    omega (
      arith,
      length-append (ss ++ ts) (ns ++ ps),
      length-append ss ts,
      length-append ns ps,
      text_length T.strings,
      text_length texts,
      length-map T.initial (text_place (names_at rows texts p) texts),
      packets_length (initial_at rows texts p) (length T.initial),
    )
