-- The size of a body is the length of its code.
use Rattle.std.proofs.Common.{◌≡◌, ℕ, zero, suc, ◌+◌, ◌-◌, ◌*◌, ◌/◌, ◌<◌, ◌≤◌, List, [], ◌∷◌, ◌++◌, length, map, take, drop, Option, Some, None, Bool, true, false, ◌&&◌, refl, sym, ap, ◌∙◌, subst, arith, length-append, take-append-drop, length-drop, length-take, get_or}
use Rattle.std.specs.Prelude.{nat_lt, nat_le, if◌then◌else◌}
use Rattle.std.proofs.lemmas.Bool.{ltb-true}
use Rattle.ir_code.specs.declared.instr.Instr.TheVariants.{Li, Alloc, St, Jmp, Call as CallRow, Acc}
use Rattle.mlc_prims.specs.declared.prim.PrimExn.{PrimExn}
use Rattle.ir_ssa.specs.of_first_values.Values.{Piece, one as a_value, run as a_run}
use Rattle.ir_ssa.specs.of_first_values.Equality.{opaque}
use Rattle.ir_ssa.specs.of_first_values.Operations.{Constant, an_int, a_word, a_char, a_text, a_truth, Plain, same, constant, field, refer, content, assign, exception, initial, pack, argument, compute, equal, print, Test, is, is_of, holds, Callee, known, one_of}
use Rattle.ir_ssa.specs.Tree.{Body, Bodies, plain, make, attempt, turn, call, label, again, guard, goto, jump, branch, switch, tail, ret, raise, last, arm}
use Rattle.machine_routines.specs.EqualCode.{is_word}
use Rattle.machine_routines.specs.FindCode.{Target, Search, only, exactly, node, search_size, search_code, half, joined, search_of, jumps}
use Rattle.machine_code.specs.Rows.{Packets, late_code, late_size, later, AreRight}
use Rattle.machine_code.specs.Code.{slot, Scope, depth_in, depths_in, with_params, Spot, no_spot, or_this, left_by, block_at, no_exit, left, is_some, exit_of, exits_of, args_of, word_test_size, is_size, plain_size, test_size, callee_count, count, arms_end, rise, Choice, by_table, by_search, by_tests, choice_of, choice_size, test_arm_size, one_if_true, goto_size, equal_size, pieces_size, pieces_count, pieces_code, is_shared, make_size, make_code, size, arms_size, push_code, move_code, leave_code, goto_code, choice_code, word_test_code, is_code, test_code, equal_call, test_arm_code, Places, callee_at, plain_code, body_size, block_place, guard_size, targets, last_at, code_at, arms_at}
use Rattle.machine_code.proofs.Vars.{depths_length}
use Rattle.machine_code.proofs.Pieces.{push_length, move_length}

-- Switches.

-- what is known of arms that are searched
abbrev pub Chosen : Choice → Bodies → Type 0
Chosen by_table bs = Unit {0}
Chosen by_search bs = (4 < count bs) × (rise 0 bs ≡ true)
Chosen by_tests bs = Unit {0}

pub chosen : (bs : Bodies) → Chosen (choice_of bs) bs
chosen bs = by (nat_le (arms_end bs) (2 * count bs)) (nat_lt 4 (count bs)) (rise 0 bs) refl refl
  where
    by : (a b c : Bool) → nat_lt 4 (count bs) ≡ b → rise 0 bs ≡ c → Chosen (if a then by_table else (if b && c then by_search else by_tests)) bs
    by true b c e g = tt
    by false true true e g = (ltb-true 4 (count bs) e, g)
    by false true false e g = tt
    by false false c e g = tt

pub search_length : (pc k e p : ℕ) (s : Search) → length (search_code pc k e p s) ≡ search_size s
search_length pc k e p (only q) = refl
search_length pc k e p (exactly t q) = refl
search_length pc k e p (node c a b) =
    let l = search_code (pc + 3) k e p a in let r = search_code (pc + 3 + search_size a) k e p b in
    omega (arith, length-append l r, search_length (pc + 3) k e p a, search_length (pc + 3 + search_size a) k e p b)

pub jumps_length : (set : List Target) (p i n : ℕ) → length (jumps set p i n) ≡ n
jumps_length set p i zero = refl
jumps_length set p i (suc n) = ap suc (jumps_length set p (suc i) n)

joined_size : (p : ℕ) (xs ys : List Target) (a b : Search) → length xs ≡ length (xs ++ ys) / 2 → 1 ≤ length (xs ++ ys)
    → (0 < length xs → search_size a + 3 ≡ 7 * length xs) → (0 < length xs → search_size b + 3 ≡ 7 * length ys)
    → search_size (joined true p xs ys a b) + 3 ≡ 7 * length (xs ++ ys)
joined_size p [] [] a b n some l r = absurd (omega arith)
joined_size p (x ∷ xs) [] a b n some l r = absurd (omega (arith, length-append (x ∷ xs) []))
joined_size p [] (m ∷ []) a b n some l r = refl
joined_size p [] (m ∷ m' ∷ ms) a b n some l r = absurd (omega arith)
joined_size p (x ∷ xs) (m ∷ ms) a b n some l r = let h = l (omega arith) in let k = r (omega arith) in omega (arith, h, k, length-append xs (m ∷ ms))

-- a search with tests has seven instructions a member, but for three
searched_size : (p k : ℕ) (set : List Target) → length set ≤ k → 1 ≤ length set → search_size (search_of true p k set) + 3 ≡ 7 * length set
searched_size p zero set le some = absurd (omega arith)
searched_size p (suc k) set le some =
    let n = half set in
    let xs = take n set in let ys = drop n set in
    let whole : xs ++ ys ≡ set = take-append-drop n set in
    let nx : length xs ≡ n = omega (arith, length-take n set) in
    let ny : length ys ≡ length set - n = length-drop n set in
    let half_of : length xs ≡ length (xs ++ ys) / 2 = nx ∙ ap (λ z. length z / 2) (sym whole) in
    subst (λ z. search_size (search_of true p (suc k) set) + 3 ≡ 7 * length z) whole
    (joined_size p xs ys (search_of true p k xs) (search_of true p k ys) half_of (omega (arith, ap length whole))
    (λ h. searched_size p k xs (omega (arith, nx)) h)
    (λ h. searched_size p k ys (omega (arith, nx, ny)) (omega (arith, nx, ny))))

pub choice_length : (pc d x : ℕ) (how : Choice) (bs : Bodies) (set : List Target) (p : ℕ) → Chosen how bs → length set ≡ count bs
    → length (choice_code pc d x how (arms_end bs) set p) ≡ choice_size how bs
choice_length pc d x by_table bs set p h n = omega (arith, length-append (jumps set p 0 (arms_end bs)) (Jmp p ∷ []), jumps_length set p 0 (arms_end bs))
choice_length pc d x by_search bs set p h n =
    let many = h.0 in
    let s = search_of true p (length set) set in
    omega (arith, search_length (pc + 2) (slot d) (slot (suc d)) p s, searched_size p (length set) set (omega arith) (omega arith))
choice_length pc d x by_tests bs set p h n = refl

pub test_arm_length : (how : Choice) (d i q : ℕ) → length (test_arm_code how d i q) ≡ test_arm_size how
test_arm_length by_table d i q = refl
test_arm_length by_search d i q = refl
test_arm_length by_tests d i q = refl

-- Labels.

pub exit_in : (ls : List Spot) (l : ℕ) → get_or (exits_of ls) l no_exit ≡ exit_of (get_or ls l no_spot)
exit_in [] l = refl
exit_in (s ∷ ls) zero = refl
exit_in (s ∷ ls) (suc l) = exit_in ls l

leave_length : (o : Option ℕ) → length (leave_code o) ≡ one_if_true (is_some o)
leave_length None = refl
leave_length (Some a) = refl

-- the only label under a handler
pub left_exits : (d : ℕ) (ls : List Spot) (l : ℕ) → exits_of (left_by d (get_or ls l no_spot) ∷ []) ≡ left (get_or (exits_of ls) l no_exit) ∷ []
left_exits d ls l =
    let s = get_or ls l no_spot in
    ap (λ b. record { depth = s.depth; leaves = b } ∷ []) (one s.leaves) ∙ ap (λ e. left e ∷ []) (sym (exit_in ls l))
  where
    one : (o : Option ℕ) → is_some (or_this o d) ≡ true
    one None = refl
    one (Some a) = refl

pub goto_length : (d : ℕ) (s : Spot) (xs : List ℕ) → length (goto_code d s xs) ≡ goto_size (exit_of s) xs
goto_length d s xs =
    let moves = move_code d s.depth xs in
    omega (arith, leave_length s.leaves, length-append (leave_code s.leaves) (moves ++ (Jmp s.place ∷ [])), length-append moves (Jmp s.place ∷ []), move_length d s.depth xs)

late_length : (o : Option PrimExn) (packets : Packets) (d : ℕ) → length (late_code o packets d) ≡ late_size o
late_length None packets d = refl
late_length (Some e) packets d = refl

pub late_place : (o : Option PrimExn) (packets : Packets) (d q : ℕ) → q + length (late_code o packets d) ≡ later o q
late_place None packets d q = omega arith
late_place (Some e) packets d q = omega arith

pub pieces_length : (d i : ℕ) (scope : Scope) (ps : List Piece) → length (pieces_code d i scope ps) ≡ pieces_size ps
pieces_length d i scope [] = refl
pieces_length d i scope (a_value x ∷ ps) = omega (arith, pieces_length d (suc i) scope ps)
pieces_length d i scope (a_run x from zero ∷ ps) = pieces_length d i scope ps
pieces_length d i scope (a_run x from (suc n) ∷ ps) = omega (arith, pieces_length d (i + suc n) scope ps)

pub make_length : (d t : ℕ) (scope : Scope) (qs : List Piece) → length (make_code d t scope qs) ≡ make_size t qs
make_length d t scope qs = by (is_shared t qs)
  where
    by : (b : Bool) → length (if b then Li (slot d) t ∷ [] else (Alloc (slot d) (suc (pieces_count qs)) ∷ Li (slot (suc d)) t ∷ St (slot d) 0 (slot (suc d)) ∷ pieces_code d 1 scope qs))
        ≡ (if b then 1 else 3 + pieces_size qs)
    by true = refl
    by false = omega (arith, pieces_length d 1 scope qs)

module _ (at : Places) (right : AreRight at.rows) where
  word_test_length : (pc d n x q : ℕ) → length (word_test_code at pc d n x q) ≡ word_test_size n
  word_test_length pc d zero x q = refl
  word_test_length pc d (suc n) x q = refl

  is_length : (pc d : ℕ) (c : Constant) (x q : ℕ) → length (is_code at pc d c x q) ≡ is_size c
  is_length pc d (an_int z) x q = word_test_length pc d _ x q
  is_length pc d (a_word n) x q = word_test_length pc d n x q
  is_length pc d (a_char n) x q = word_test_length pc d n x q
  is_length pc d (a_text i) x q = refl
  is_length pc d (a_truth b) x q = word_test_length pc d _ x q

  pub test_length : (pc d : ℕ) (q : Test) (xs : List ℕ) (other : ℕ) → length (test_code at pc d q xs other) ≡ test_size at.rows at.types q
  test_length pc d (is c) xs other = is_length pc d c _ other
  test_length pc d is_of xs other = refl
  test_length pc d (holds k p) xs other = right.test_long k p pc (slot d) other (map slot xs)

  equal_length : (words : Bool) (d t x y : ℕ) → length (equal_call at words d t x y) ≡ equal_size words
  equal_length true d t x y = refl
  equal_length false d t x y = refl

  pub plain_length : (pc d : ℕ) (p : Plain) (xs : List ℕ) → length (plain_code at pc d p xs) ≡ plain_size at.rows at.types p
  plain_length pc d same xs = refl
  plain_length pc d (constant c) xs = refl
  plain_length pc d (field n) xs = refl
  plain_length pc d refer xs = refl
  plain_length pc d content xs = refl
  plain_length pc d assign xs = refl
  plain_length pc d (exception n) xs = refl
  plain_length pc d (initial n) xs = refl
  plain_length pc d pack xs = refl
  plain_length pc d argument xs = refl
  plain_length pc d (compute k p) xs = right.long k p at.packet_at pc (slot d) (pc + at.rows.size k p) (map slot xs)
  plain_length pc d (equal t) xs = equal_length (is_word (get_or at.types t opaque)) d t _ _
  plain_length pc d print xs = refl

  pub args_count : (c : Callee) (scope : Scope) (xs : List ℕ) → length (args_of c scope xs) ≡ callee_count c (length xs)
  args_count (known f) scope xs = depths_length xs scope
  args_count (one_of s x) scope xs = ap suc (depths_length xs scope)

  pub targets_length : (q d : ℕ) (scope : Scope) (ls : List Spot) (bs : Bodies) → length (targets at q d scope ls bs) ≡ count bs
  targets_length q d scope ls (last b) = refl
  targets_length q d scope ls (arm i b bs) = ap suc (targets_length (q + body_size at d scope ls b) d scope ls bs)

  mutual
    pub code_length : (b : Body) (pc d : ℕ) (scope : Scope) (ls : List Spot) → length (code_at at pc d scope ls b) ≡ body_size at d scope ls b
    code_length (plain p xs x b) pc d scope ls =
        let q = pc + plain_size at.rows at.types p in
        let ds = depths_in xs scope in
        omega (arith, length-append (plain_code at pc d p ds) (code_at at q (suc d) ((x, d) ∷ scope) ls b), plain_length pc d p ds, code_length b q (suc d) ((x, d) ∷ scope) ls)
    code_length (make t qs x b) pc d scope ls =
        let q = pc + make_size t qs in
        omega (arith, length-append (make_code d t scope qs) (code_at at q (suc d) ((x, d) ∷ scope) ls b), make_length d t scope qs, code_length b q (suc d) ((x, d) ∷ scope) ls)
    code_length (attempt k p xs x a b) pc d scope ls =
        let t = pc + at.rows.size k p in
        let q = pc + at.rows.size k p + body_size at (suc d) ((x, d) ∷ scope) ls a in
        let late = at.rows.late k p in
        let ca = code_at at t (suc d) ((x, d) ∷ scope) ls a in
        let cl = late_code late at.packet_at (slot d) in
        let cb = code_at at (later late q) (suc d) ((x, d) ∷ scope) ls b in
        let row = at.rows.code k p at.packet_at pc (slot d) q (map slot (depths_in xs scope)) in
        omega (
          arith,
          right.long k p at.packet_at pc (slot d) q (map slot (depths_in xs scope)),
          length-append row (ca ++ (cl ++ cb)),
          length-append ca (cl ++ cb),
          length-append cl cb,
          late_length late at.packet_at (slot d),
          code_length a t (suc d) ((x, d) ∷ scope) ls,
          code_length b (later late q) (suc d) ((x, d) ∷ scope) ls,
        )
    code_length (turn p b) pc d scope ls = omega (arith, code_length b (pc + 1) d scope ls)
    code_length (call p c xs x b) pc d scope ls =
        let q = pc + callee_count c (length xs) + 2 in
        let rest = code_at at q (suc d) ((x, d) ∷ scope) ls b in
        let args = args_of c scope xs in
        omega (arith, length-append (push_code (suc (suc d)) args) (CallRow (callee_at at c) (slot d) ∷ Acc (slot d) ∷ rest), push_length (suc (suc d)) args, args_count c scope xs, code_length b q (suc d) ((x, d) ∷ scope) ls)
    code_length (label params a b) pc d scope ls =
        let q = block_place at pc d scope ls b in
        let ls' = block_at q d ∷ ls in
        omega (arith, length-append (code_at at pc d scope ls' b) (code_at at q (d + length params) (with_params params d scope) ls a), code_length b pc d scope ls', code_length a q (d + length params) (with_params params d scope) ls)
    code_length (again params a b) pc d scope ls =
        let q = block_place at pc d scope ls b in
        let ls' = block_at q d ∷ ls in
        omega (arith, length-append (code_at at pc d scope ls' b) (code_at at q (d + length params) (with_params params d scope) ls' a), code_length b pc d scope ls', code_length a q (d + length params) (with_params params d scope) ls')
    code_length (guard l a y h) pc d scope ls =
        let s = left_by d (get_or ls l no_spot) in
        let q = pc + 2 + guard_size at d scope ls l a in
        let ca = code_at at (pc + 1) (d + 3) scope (s ∷ []) a in
        let ch = code_at at q (suc d) ((y, d) ∷ scope) ls h in
        let e : length ca ≡ guard_size at d scope ls l a = code_length a (pc + 1) (d + 3) scope (s ∷ []) ∙ ap (λ z. size at.rows at.types (d + 3) scope z a) (left_exits d ls l) in
        omega (arith, length-append ca (Acc (slot d) ∷ ch), e, code_length h q (suc d) ((y, d) ∷ scope) ls)
    code_length (goto l xs) pc d scope ls = goto_length d (get_or ls l no_spot) (depths_in xs scope) ∙ ap (λ e. goto_size e (depths_in xs scope)) (sym (exit_in ls l))
    code_length (jump p l xs) pc d scope ls = goto_length d (get_or ls l no_spot) (depths_in xs scope) ∙ ap (λ e. goto_size e (depths_in xs scope)) (sym (exit_in ls l))
    code_length (branch q xs a b) pc d scope ls =
        let t = pc + test_size at.rows at.types q in
        let u = t + body_size at d scope ls a in
        let ca = code_at at t d scope ls a in
        let cb = code_at at u d scope ls b in
        let test = test_code at pc d q (depths_in xs scope) u in
        omega (arith, length-append test (ca ++ cb), test_length pc d q (depths_in xs scope) u, length-append ca cb, code_length a t d scope ls, code_length b u d scope ls)
    code_length (switch x bs) pc d scope ls =
        let how = choice_of bs in
        let q = pc + choice_size how bs in
        let set = targets at q d scope ls bs in
        let p = last_at at q d scope ls bs in
        omega (arith, length-append (choice_code pc d (depth_in x scope) how (arms_end bs) set p) (arms_at at q d scope ls how bs), choice_length pc d (depth_in x scope) how bs set p (chosen bs) (targets_length q d scope ls bs), arms_length bs how q d scope ls)
    code_length (tail p c xs) pc d scope ls =
        let args = args_of c scope xs in
        omega (arith, length-append (move_code d 0 args) (Jmp (callee_at at c) ∷ []), move_length d 0 args)
    code_length (ret x) pc d scope ls = refl
    code_length (raise x) pc d scope ls = refl

    pub arms_length : (bs : Bodies) (how : Choice) (pc d : ℕ) (scope : Scope) (ls : List Spot) → length (arms_at at pc d scope ls how bs) ≡ arms_size at.rows at.types how d scope (exits_of ls) bs
    arms_length (last b) how pc d scope ls = code_length b pc d scope ls
    arms_length (arm i b bs) how pc d scope ls =
        let t = pc + test_arm_size how in
        let q = t + body_size at d scope ls b in
        let cb = code_at at t d scope ls b in
        let cs = arms_at at q d scope ls how bs in
        omega (arith, length-append (test_arm_code how d i q) (cb ++ cs), test_arm_length how d i q, length-append cb cs, code_length b t d scope ls, arms_length bs how q d scope ls)
