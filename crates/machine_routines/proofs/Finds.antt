-- What a jump table and a search find.
use Rattle.std.proofs.Common.{◌≡◌, ℕ, zero, suc, ◌+◌, ◌-◌, ◌*◌, ◌/◌, ◌<◌, ◌≤◌, List, [], ◌∷◌, ◌++◌, length, take, drop, Some, None, Bool, true, false, refl, sym, ap, ◌∙◌, subst, ⊎_elim, arith, length-append, take-append-drop, length-drop, length-take}
use Rattle.std.specs.Prelude.{slice_get, slice_set, nat_eq, nat_lt, nat_le, min, if◌then◌else◌}
use Rattle.std.proofs.lemmas.Bool.{ne_eqb, cases_Bool, cases_lt, lt-ltb, le-ltb}
use Rattle.ir_code.specs.declared.instr.Instr.{Instr}
use Rattle.ir_code.specs.declared.instr.Instr.TheVariants.{Li, Jmp, Brz, Switch, Eq, ULt}
use Rattle.ir_code.specs.Words.{one_if, same_word, word_less}
use Rattle.ir_code.specs.Machine.{State, Goes}
use Rattle.ir_code.specs.Laws.{ControlLaws, MemoryLaws, ArithmeticLaws, NextLaws, Total}
use Rattle.machine_routines.specs.Runs.{HasAt, Frame, inside, Leads}
use Rattle.machine_routines.specs.FindLaw.{ComesTo, FindLaw, FindMemberLaw}
use Rattle.machine_routines.proofs.Seams.{has_front, has_back, get_right, set_right}
use Rattle.machine_routines.proofs.Leads.{trans, step_to}
use Rattle.machine_routines.proofs.Steps.{does_li, does_two, does_jmp, does_brz, does_brz_zero, does_switch}
use Rattle.machine_routines.specs.FindCode.{Target, member_at, or_place, jumps, table_code, Search, only, exactly, node, search_size, search_code, finds, by_table, by_search, way_code, half, leaf, joined, search_of, way_of, Rises, Below}

-- Where the search is the right one.

none_below : (t least : ℕ) (set : List Target) → Rises least set → t < least → member_at t set ≡ None
none_below t least [] h lt = refl
none_below t least (m ∷ ms) h lt =
    let n : nat_eq t m.tag ≡ false = ne_eqb t m.tag (λ e. let a = h.0 in omega arith) in
    ap (λ b. if b then Some m.place else member_at t ms) n ∙ none_below t (suc m.tag) ms h.1 (let a = h.0 in omega arith)

rises_from : (least less : ℕ) (set : List Target) → less ≤ least → Rises least set → Rises less set
rises_from least less [] le h = tt
rises_from least less (m ∷ ms) le h = (let a = h.0 in omega arith, h.1)

rises_right : (least : ℕ) (xs ys : List Target) → Rises least (xs ++ ys) → Rises least ys
rises_right least [] ys h = h
rises_right least (x ∷ xs) ys h = rises_from (suc x.tag) least ys (let a = h.0 in omega arith) (rises_right (suc x.tag) xs ys h.1)

rises_left : (least : ℕ) (xs ys : List Target) → Rises least (xs ++ ys) → Rises least xs
rises_left least [] ys h = tt
rises_left least (x ∷ xs) ys h = (h.0, rises_left (suc x.tag) xs ys h.1)

at_left : (t least : ℕ) (xs : List Target) (m : Target) (ms : List Target) → Rises least (xs ++ m ∷ ms) → t < m.tag
    → member_at t (xs ++ m ∷ ms) ≡ member_at t xs
at_left t least [] m ms h lt = none_below t m.tag (m ∷ ms) (omega arith, h.1) lt
at_left t least (x ∷ xs) m ms h lt = ap (λ o. if nat_eq t x.tag then Some x.place else o) (at_left t (suc x.tag) xs m ms h.1 lt)

first_low : (least : ℕ) (xs : List Target) (m : Target) (ms : List Target) → Rises least (xs ++ m ∷ ms) → least ≤ m.tag
first_low least [] m ms h = h.0
first_low least (x ∷ xs) m ms h = let a = first_low (suc x.tag) xs m ms h.1 in let b = h.0 in omega arith

at_right : (t least : ℕ) (xs : List Target) (m : Target) (ms : List Target) → Rises least (xs ++ m ∷ ms) → m.tag ≤ t
    → member_at t (xs ++ m ∷ ms) ≡ member_at t (m ∷ ms)
at_right t least [] m ms h le = refl
at_right t least (x ∷ xs) m ms h le =
    let a = first_low (suc x.tag) xs m ms h.1 in
    let n : nat_eq t x.tag ≡ false = ne_eqb t x.tag (λ e. omega arith) in
    ap (λ b. if b then Some x.place else member_at t (xs ++ m ∷ ms)) n ∙ at_right t (suc x.tag) xs m ms h.1 le

-- what is wanted of a search: all tags with tests, and only members with none
abbrev Wanted : Bool → ℕ → ℕ → List Target → Search → Type 0
Wanted true p t set s = finds t s p ≡ or_place (member_at t set) p
Wanted false p t set s = (q : ℕ) → member_at t set ≡ Some q → finds t s p ≡ q

wanted_same : (tests : Bool) (p t : ℕ) (xs ys : List Target) (a b : Search) → member_at t ys ≡ member_at t xs → finds t b p ≡ finds t a p
    → Wanted tests p t xs a → Wanted tests p t ys b
wanted_same true p t xs ys a b e g h = g ∙ h ∙ ap (λ o. or_place o p) (sym e)
wanted_same false p t xs ys a b e g h = λ q k. g ∙ h q (sym e ∙ k)

wanted_none : (tests : Bool) (p t : ℕ) → Wanted tests p t [] (only p)
wanted_none true p t = refl
wanted_none false p t = λ q e. absurd (cc)

wanted_leaf : (tests : Bool) (p t : ℕ) (m : Target) → Wanted tests p t (m ∷ []) (leaf tests m)
wanted_leaf true p t m = by (nat_eq t m.tag)
  where
    by : (b : Bool) → (if b then m.place else p) ≡ or_place (if b then Some m.place else None) p
    by true = refl
    by false = refl
wanted_leaf false p t m = by (nat_eq t m.tag)
  where
    by : (b : Bool) (q : ℕ) → (if b then Some m.place else None) ≡ Some q → m.place ≡ q
    by true q e = cc
    by false q e = absurd (cc)

wanted_node : (tests : Bool) (p t least : ℕ) (xs : List Target) (m : Target) (ms : List Target) (a b : Search) → Rises least (xs ++ m ∷ ms)
    → Wanted tests p t xs a → Wanted tests p t (m ∷ ms) b → Wanted tests p t (xs ++ m ∷ ms) (node m.tag a b)
wanted_node tests p t least xs m ms a b h l r =
    ⊎_elim
    (λ lt. wanted_same tests p t xs (xs ++ m ∷ ms) a (node m.tag a b) (at_left t least xs m ms h lt)
    (ap (λ z. if z then finds t a p else finds t b p) (lt-ltb t m.tag lt)) l)
    (λ le. wanted_same tests p t (m ∷ ms) (xs ++ m ∷ ms) b (node m.tag a b) (at_right t least xs m ms h le)
    (ap (λ z. if z then finds t a p else finds t b p) (le-ltb t m.tag le)) r)
    (cases_lt t m.tag)

no_more : (set : List Target) → length set ≡ 0 → set ≡ []
no_more [] e = refl
no_more (m ∷ ms) e = absurd (omega arith)

wanted_joined : (tests : Bool) (p t least : ℕ) (xs ys : List Target) (a b : Search) → length xs ≡ length (xs ++ ys) / 2 → Rises least (xs ++ ys)
    → Wanted tests p t xs a → (0 < length xs → Wanted tests p t ys b) → Wanted tests p t (xs ++ ys) (joined tests p xs ys a b)
wanted_joined tests p t least [] [] a b n h l r = wanted_none tests p t
wanted_joined tests p t least (x ∷ xs) [] a b n h l r = absurd (omega (arith, length-append (x ∷ xs) []))
wanted_joined tests p t least [] (m ∷ ms) a b n h l r =
    let e : ms ≡ [] = no_more ms (omega arith) in
    subst (λ z. Wanted tests p t (m ∷ z) (leaf tests m)) (sym e) (wanted_leaf tests p t m)
wanted_joined tests p t least (x ∷ xs) (m ∷ ms) a b n h l r = wanted_node tests p t least (x ∷ xs) m ms a b h l (r (omega arith))

pub searches : (tests : Bool) (p t least k : ℕ) (set : List Target) → length set ≤ k → Rises least set → Wanted tests p t set (search_of tests p k set)
searches tests p t least zero set le h = subst (λ z. Wanted tests p t z (only p)) (sym (no_more set (omega arith))) (wanted_none tests p t)
searches tests p t least (suc k) set le h =
    let n = half set in
    let xs = take n set in let ys = drop n set in
    let whole : xs ++ ys ≡ set = take-append-drop n set in
    let nx : length xs ≡ n = omega (arith, length-take n set) in
    let ny : length ys ≡ length set - n = length-drop n set in
    let h' : Rises least (xs ++ ys) = subst (λ z. Rises least z) (sym whole) h in
    let half_of : length xs ≡ length (xs ++ ys) / 2 = nx ∙ ap (λ z. length z / 2) (sym whole) in
    subst (λ z. Wanted tests p t z (search_of tests p (suc k) set)) whole
    (wanted_joined tests p t least xs ys (search_of tests p k xs) (search_of tests p k ys) half_of h'
    (searches tests p t least k xs (omega (arith, nx)) (rises_left least xs ys h'))
    (λ some. searches tests p t least k ys (omega (arith, nx, ny)) (rises_right least xs ys h')))

-- Where the machine goes, with the tag t behind the words of front, and a free word after it.
module _ (C : ControlLaws) (M : MemoryLaws) (A : ArithmeticLaws) (N : NextLaws) (code : List Instr) (f : Frame) (front above m free : List ℕ) (t k : ℕ)
    (deep : length front ≡ k) (p : ℕ) where
  abbrev at : ℕ → ℕ → State
  at pc x = inside f pc (front ++ (t ∷ x ∷ above)) m free

  abbrev Comes : State → ℕ → Type 0
  Comes s q = ComesTo code s (at q)

  tag_there : (x : ℕ) → slice_get (front ++ (t ∷ x ∷ above)) k ≡ Some t
  tag_there x = let n : length front + 0 ≡ k = omega arith in subst (λ z. slice_get (front ++ (t ∷ x ∷ above)) z ≡ Some t) n (get_right front (t ∷ x ∷ above) 0)

  free_there : (x : ℕ) → slice_get (front ++ (t ∷ x ∷ above)) (suc k) ≡ Some x
  free_there x = let n : length front + 1 ≡ suc k = omega arith in
      subst (λ z. slice_get (front ++ (t ∷ x ∷ above)) z ≡ Some x) n (get_right front (t ∷ x ∷ above) 1)

  room : (x : ℕ) → suc k < length (front ++ (t ∷ x ∷ above))
  room x = omega (arith, length-append front (t ∷ x ∷ above))

  sets : (x v : ℕ) → slice_set (front ++ (t ∷ x ∷ above)) (suc k) v ≡ front ++ (t ∷ v ∷ above)
  sets x v = let n : length front + 1 ≡ suc k = omega arith in subst (λ z. slice_set (front ++ (t ∷ x ∷ above)) z v ≡ front ++ (t ∷ v ∷ above)) n
      (set_right front (t ∷ x ∷ above) 1 v)

  after : {s u : State} {q : ℕ} → Leads code s u → Comes u q → Comes s q
  after a c = record { word = c.word; leads = trans code a c.leads; some = let h = c.some in omega arith }

  loads : (pc x v : ℕ) → slice_get code pc ≡ Some (Li (suc k) v) → Leads code (at pc x) (at (pc + 1) v)
  loads pc x v e = step_to code N (Li (suc k) v) e (does_li C M A f pc (front ++ (t ∷ x ∷ above)) m free (suc k) v (room x)
      ∙ ap (λ z. Goes (inside f (pc + 1) z m free)) (sets x v))

  computes : (row : ℕ → ℕ → ℕ → Instr) (g : ℕ → ℕ → ℕ) → Total row g → (pc x : ℕ) → slice_get code pc ≡ Some (row (suc k) k (suc k))
      → Leads code (at pc x) (at (pc + 1) (g t x))
  computes row g law pc x e = step_to code N (row (suc k) k (suc k)) e
      (does_two C M A f pc (front ++ (t ∷ x ∷ above)) m free row g law (suc k) k (suc k) t x (room x) (tag_there x) (free_there x)
      ∙ ap (λ z. Goes (inside f (pc + 1) z m free)) (sets x (g t x)))

  jumps_to : (pc x q : ℕ) → slice_get code pc ≡ Some (Jmp q) → Comes (at pc x) q
  jumps_to pc x q e = record { word = x; leads = step_to code N (Jmp q) e (does_jmp C M A f pc (front ++ (t ∷ x ∷ above)) m free q); some = omega arith }

  abbrev branch_to : (pc x q : ℕ) → slice_get code pc ≡ Some (Brz (suc k) q) → x ≡ 0 → Leads code (at pc x) (at q x)
  branch_to pc x q e z = step_to code N (Brz (suc k) q) e (does_brz_zero C M A f pc (front ++ (t ∷ x ∷ above)) m free (suc k) q (free_there x ∙ ap Some z))

  branches : (pc x q : ℕ) → slice_get code pc ≡ Some (Brz (suc k) q) → x ≡ 0 → Comes (at pc x) q
  branches pc x q e z = record { word = x; leads = branch_to pc x q e z; some = omega arith }

  passes : (pc x q : ℕ) → slice_get code pc ≡ Some (Brz (suc k) q) → x ≡ 1 → Leads code (at pc x) (at (pc + 1) x)
  passes pc x q e z = step_to code N (Brz (suc k) q) e (does_brz C M A f pc (front ++ (t ∷ x ∷ above)) m free (suc k) q x (free_there x) (omega arith))

  here : {s : State} {q r : ℕ} → q ≡ r → Comes s q → Comes s r
  here {s} e c = subst (λ z. Comes s z) e c

  at_place : (pc pc' x : ℕ) {q : ℕ} → pc' ≡ pc → Comes (at pc x) q → Comes (at pc' x) q
  at_place pc pc' x {q} e c = subst (λ z. Comes (at z x) q) (sym e) c

  search_length : (pc : ℕ) (s : Search) → length (search_code pc k (suc k) p s) ≡ search_size s
  search_length pc (only q) = refl
  search_length pc (exactly u q) = refl
  search_length pc (node c a b) =
      let l = search_code (pc + 3) k (suc k) p a in let r = search_code (pc + 3 + search_size a) k (suc k) p b in
      omega (arith, length-append l r, search_length (pc + 3) a, search_length (pc + 3 + search_size a) b)

  pub search_goes : (s : Search) (pc x : ℕ) → HasAt code pc (search_code pc k (suc k) p s) → Comes (at pc x) (finds t s p)
  search_goes (only q) pc x has = jumps_to pc x q has.0
  search_goes (exactly u q) pc x has =
      after (loads pc x u has.0) (after (computes Eq same_word A.eq (pc + 1) u has.1.0)
      (⊎_elim
      (λ e. here (ap (λ z. if z then q else p) (sym e)) (after (passes (pc + 1 + 1) (same_word t u) p has.1.1.0 (ap one_if e))
      (jumps_to (pc + 1 + 1 + 1) (same_word t u) q has.1.1.1.0)))
      (λ e. here (ap (λ z. if z then q else p) (sym e)) (branches (pc + 1 + 1) (same_word t u) p has.1.1.0 (ap one_if e)))
      (cases_Bool (nat_eq t u))))
  search_goes (node c a b) pc x has =
      let l = search_code (pc + 3) k (suc k) p a in
      let n : pc + 1 + 1 + 1 ≡ pc + 3 = omega arith in
      let both = subst (λ z. HasAt code z (l ++ search_code (pc + 3 + search_size a) k (suc k) p b)) n has.1.1.1 in
      let y = word_less t c in
      after (loads pc x c has.0) (after (computes ULt word_less A.ult (pc + 1) c has.1.0)
      (⊎_elim
      (λ e. here (ap (λ z. if z then finds t a p else finds t b p) (sym e))
      (after (passes (pc + 1 + 1) y (pc + 3 + search_size a) has.1.1.0 (ap one_if e))
      (at_place (pc + 3) (pc + 1 + 1 + 1) y n (search_goes a (pc + 3) y (has_front code (pc + 3) l _ both)))))
      (λ e. here (ap (λ z. if z then finds t a p else finds t b p) (sym e))
      (after (branch_to (pc + 1 + 1) y (pc + 3 + search_size a) has.1.1.0 (ap one_if e))
      (search_goes b (pc + 3 + search_size a) y (has_back code (pc + 3) (pc + 3 + search_size a) l _ (omega (arith, search_length (pc + 3) a)) both))))
      (cases_Bool (nat_lt t c))))

  jump_in : (set : List Target) (i n pc : ℕ) → HasAt code pc (jumps set p i n) → (j : ℕ) → j < n → i + j ≡ t
      → slice_get code (pc + j) ≡ Some (Jmp (or_place (member_at t set) p))
  jump_in set i zero pc has j lt e = absurd (omega arith)
  jump_in set i (suc n) pc has zero lt e =
      let same : i ≡ t = omega arith in
      let there : pc + zero ≡ pc = omega arith in
      subst (λ z. slice_get code z ≡ Some (Jmp (or_place (member_at t set) p))) (sym there)
      (subst (λ z. slice_get code pc ≡ Some (Jmp (or_place (member_at z set) p))) same has.0)
  jump_in set i (suc n) pc has (suc j) lt e =
      let n' : pc + 1 + j ≡ pc + suc j = omega arith in
      subst (λ z. slice_get code z ≡ Some (Jmp (or_place (member_at t set) p))) n' (jump_in set (suc i) n (pc + 1) has.1 j (omega arith) (omega arith))

  jumps_length : (set : List Target) (i n : ℕ) → length (jumps set p i n) ≡ n
  jumps_length set i zero = refl
  jumps_length set i (suc n) = ap suc (jumps_length set (suc i) n)

  pub table_goes : (set : List Target) (n pc x : ℕ) → HasAt code pc (table_code set k p n)
      → Comes (at pc x) (if nat_lt t n then or_place (member_at t set) p else p)
  table_goes set n pc x has =
      let last = has_back code (pc + 1) (pc + 1 + n) (jumps set p 0 n) (Jmp p ∷ []) (omega (arith, jumps_length set 0 n)) has.1 in
      after (step_to code N (Switch k n) has.0 (does_switch C M A f pc (front ++ (t ∷ x ∷ above)) m free k n t (tag_there x)))
      (⊎_elim
      (λ lt.
      let there : pc + 1 + t ≡ pc + 1 + min t n = omega arith in
      here (ap (λ z. if z then or_place (member_at t set) p else p) (sym (lt-ltb t n lt)))
      (jumps_to (pc + 1 + min t n) x (or_place (member_at t set) p)
      (subst (λ z. slice_get code z ≡ Some (Jmp (or_place (member_at t set) p))) there
      (jump_in set 0 n (pc + 1) (has_front code (pc + 1) (jumps set p 0 n) _ has.1) t lt (omega arith)))))
      (λ le.
      let there : pc + 1 + n ≡ pc + 1 + min t n = omega arith in
      here (ap (λ z. if z then or_place (member_at t set) p else p) (sym (le-ltb t n le)))
      (jumps_to (pc + 1 + min t n) x p (subst (λ z. slice_get code z ≡ Some (Jmp p)) there last.0)))
      (cases_lt t n))

  -- a tag of a set whose tags rise and are below n
  not_in : (set : List Target) (n : ℕ) → Below n set → n ≤ t → member_at t set ≡ None
  not_in [] n h le = refl
  not_in (m' ∷ ms) n h le =
      let e : nat_eq t m'.tag ≡ false = ne_eqb t m'.tag (λ e. let a = h.0 in omega arith) in
      ap (λ b. if b then Some m'.place else member_at t ms) e ∙ not_in ms n h.1 le

  -- all tags, with tests
  pub way_goes : (set : List Target) (n pc x : ℕ) → Rises 0 set → Below n set → HasAt code pc (way_code set pc k (suc k) p (way_of true p n set))
      → Comes (at pc x) (or_place (member_at t set) p)
  way_goes set n pc x rises below has = by (nat_le n (2 * length set)) has
    where
      by : (b : Bool) → HasAt code pc (way_code set pc k (suc k) p (if b then by_table n else by_search (search_of true p (length set) set)))
          → Comes (at pc x) (or_place (member_at t set) p)
      by true h = ⊎_elim
          (λ lt. here (ap (λ z. if z then or_place (member_at t set) p else p) (lt-ltb t n lt)) (table_goes set n pc x h))
          (λ le. here (ap (λ z. if z then or_place (member_at t set) p else p) (le-ltb t n le) ∙ ap (λ o. or_place o p) (sym (not_in set n below le)))
          (table_goes set n pc x h))
          (cases_lt t n)
      by false h = here (searches true p t 0 (length set) set (omega arith) rises) (search_goes (search_of true p (length set) set) pc x h)

  -- members, with no test
  pub member_goes : (set : List Target) (n pc x q : ℕ) → Rises 0 set → Below n set → member_at t set ≡ Some q
      → HasAt code pc (way_code set pc k (suc k) p (way_of false p n set)) → Comes (at pc x) q
  member_goes set n pc x q rises below e has = by (nat_le n (2 * length set)) has
    where
      by : (b : Bool) → HasAt code pc (way_code set pc k (suc k) p (if b then by_table n else by_search (search_of false p (length set) set)))
          → Comes (at pc x) q
      by true h = ⊎_elim
          (λ lt. here (ap (λ z. if z then or_place (member_at t set) p else p) (lt-ltb t n lt) ∙ ap (λ o. or_place o p) e) (table_goes set n pc x h))
          (λ le. let none = not_in set n below le in absurd (let g : None ≡ Some q = sym none ∙ e in cc))
          (cases_lt t n)
      by false h = here (searches false p t 0 (length set) set (omega arith) rises q e) (search_goes (search_of false p (length set) set) pc x h)

pub way_finds : ControlLaws → MemoryLaws → ArithmeticLaws → NextLaws → FindLaw
way_finds C M A N code f front above m free t k deep p set n pc x rises below has =
    way_goes C M A N code f front above m free t k deep p set n pc x rises below has

pub finds_members : ControlLaws → MemoryLaws → ArithmeticLaws → NextLaws → FindMemberLaw
finds_members C M A N code f front above m free t k deep p set n pc x q rises below e has =
    member_goes C M A N code f front above m free t k deep p set n pc x q rises below e has
