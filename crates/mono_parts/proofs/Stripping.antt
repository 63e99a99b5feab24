-- Up to which step no turns are taken.
use Rattle.std.proofs.Common.{◌≡◌, ◌≤◌, ◌<◌, ◌+◌, ℕ, zero, suc, Bool, true, false, not, ◌&&◌, List, [], ◌∷◌, take, length, get_or, ◌++◌, nat_lt, refl, sym, ap, ◌∙◌, arith}
use Rattle.std.proofs.lemmas.Bool.{lt-ltb, le-ltb, ltb-true, ltb-false, false≢true}
use Rattle.std.proofs.lemmas.List.{take_more, length-map, get_or-map}
use Rattle.ir_poly.specs.Tests.{poly}
use Rattle.ir_tables.specs.declared.tables.Tables.{Tables}
use Rattle.plain_tree.specs.declared.tree.Step.{Step}
use Rattle.tests_check.specs.Reads.{reading}
use Rattle.mono_parts.specs.Steps.{steps_in}
use Rattle.plain_tree.specs.TreeOf.{step_of, StepTree, let_step, exception_step, name_step, rec_step, test_step, counted_step}
use Rattle.mono_state.specs.of_mono_words.Made.{still_bare, all_bare}

still-not : (st : StepTree poly) → still_bare false st ≡ false
still-not (let_step x ps t o) = refl
still-not (exception_step x i a) = refl
still-not (name_step x y) = refl
still-not (rec_step ps fs) = refl
still-not (test_step u t c others) = refl
still-not (counted_step k) = refl

pub never-bare : (ss : List (StepTree poly)) → all_bare false ss ≡ false
never-bare [] = refl
never-bare (st ∷ ss) = ap (λ b. all_bare b ss) (still-not st) ∙ never-bare ss

-- once turns are taken they stay
still-first : (st : StepTree poly) (ss : List (StepTree poly)) → all_bare (still_bare true st) ss ≡ true → still_bare true st ≡ true
still-first st ss e = go (still_bare true st) refl
  where
    go : (b : Bool) → still_bare true st ≡ b → still_bare true st ≡ true
    go true h = h
    go false h = absurd (false≢true (sym (never-bare ss) ∙ sym (ap (λ b. all_bare b ss) h) ∙ e))

-- none of the first so many steps ends it, and the one behind them does
pub bare-until : (ss : List (StepTree poly)) (i : ℕ) (st : StepTree poly) → i < length ss → all_bare true (take i ss) ≡ true → st ≡ get_or ss i st → still_bare true st ≡ false
    → (j : ℕ) → j ≤ length ss → nat_lt j (i + 1) ≡ all_bare true (take j ss)
bare-until [] i st lt a e b j le = absurd (omega (arith, lt))
bare-until (s ∷ ss) i st lt a e b zero le = lt-ltb 0 (i + 1) (omega arith)
bare-until (s ∷ ss) zero st lt a e b (suc j) le =
    le-ltb (suc j) (0 + 1) (omega arith) ∙ sym (ap (λ c. all_bare c (take j ss)) (ap (still_bare true) (sym e) ∙ b) ∙ never-bare (take j ss))
bare-until (s ∷ ss) (suc i) st lt a e b (suc j) le =
    let h : still_bare true s ≡ true = still-first s (take i ss) a in
    let k : all_bare true (take i ss) ≡ true = sym (ap (λ c. all_bare c (take i ss)) h) ∙ a in
    shifted j (i + 1) (suc i + 1) (omega arith) ∙ bare-until ss i st (omega (arith, lt)) k e b j (omega (arith, le)) ∙ sym (ap (λ c. all_bare c (take j ss)) h)
  where
    shifted : (j k m : ℕ) → m ≡ suc k → nat_lt (suc j) m ≡ nat_lt j k
    shifted j k m q = go (nat_lt j k) refl
      where
        go : (c : Bool) → nat_lt j k ≡ c → nat_lt (suc j) m ≡ nat_lt j k
        go true h = let lt = ltb-true j k h in lt-ltb (suc j) m (omega (arith, lt, q)) ∙ sym h
        go false h = let le = ltb-false j k h in le-ltb (suc j) m (omega (arith, le, q)) ∙ sym h

-- no step ends it
bare-before : (ss : List (StepTree poly)) (n j : ℕ) → j ≤ n → all_bare true (take n ss) ≡ true → all_bare true (take j ss) ≡ true
bare-before ss n zero le a = none ss
  where
    none : (l : List (StepTree poly)) → all_bare true (take 0 l) ≡ true
    none [] = refl
    none (s ∷ l) = refl
bare-before [] n (suc j) le a = refl
bare-before (s ∷ ss) zero (suc j) le a = absurd (omega (arith, le))
bare-before (s ∷ ss) (suc n) (suc j) le a =
    let h : still_bare true s ≡ true = still-first s (take n ss) a in
    ap (λ c. all_bare c (take j ss)) h ∙ bare-before ss n j (omega (arith, le)) (sym (ap (λ c. all_bare c (take n ss)) h) ∙ a)

pub all-bare : (ss : List (StepTree poly)) (n : ℕ) → length ss ≤ n → all_bare true (take n ss) ≡ true → (j : ℕ) → j ≤ length ss → nat_lt j (length ss + 1) ≡ all_bare true (take j ss)
all-bare ss n le a j h = lt-ltb j (length ss + 1) (omega (arith, h)) ∙ sym (bare-before ss n j (omega (arith, le, h)) a)

pub bare-none : (ss : List (StepTree poly)) → all_bare true (take 0 ss) ≡ true
bare-none [] = refl
bare-none (s ∷ l) = refl

-- one step more that doesn't end it
bare-end : (b : Bool) (ss : List (StepTree poly)) (st : StepTree poly) → all_bare b (ss ++ st ∷ []) ≡ still_bare (all_bare b ss) st
bare-end b [] st = refl
bare-end b (s ∷ ss) st = bare-end (still_bare b s) ss st

pub bare-more : (ss : List (StepTree poly)) (i : ℕ) (st : StepTree poly) → i < length ss → all_bare true (take i ss) ≡ true → st ≡ get_or ss i st → still_bare true st ≡ true
    → all_bare true (take (i + 1) ss) ≡ true
bare-more ss i st lt a e b =
    ap (all_bare true) (take_more ss i st lt) ∙ ap (λ z. all_bare true (take i ss ++ z ∷ [])) (sym e) ∙ bare-end true (take i ss) st ∙ ap (λ c. still_bare c st) a ∙ b

-- no turns are taken away
pub zero-bare : (ss : List (StepTree poly)) (strip : Bool) (i : ℕ) → strip ≡ false → nat_lt i 0 ≡ all_bare strip (take i ss)
zero-bare ss strip i e = le-ltb i 0 (omega arith) ∙ sym (ap (λ b. all_bare b (take i ss)) e ∙ never-bare (take i ss))

-- as the code sees it

step-there : (t : Tables) (ss : List Step) (i : ℕ) (x : Step) → i < length ss → x ≡ get_or ss i x → step_of (reading t) x ≡ get_or (steps_in t ss) i (step_of (reading t) x)
step-there t ss i x lt e = ap (step_of (reading t)) e ∙ sym (get_or-map (step_of (reading t)) ss i x (step_of (reading t) x) lt)

steps-long : (t : Tables) (ss : List Step) → length (steps_in t ss) ≡ length ss
steps-long t ss = length-map ss (step_of (reading t))

pub more-at : (t : Tables) (ss : List Step) (i : ℕ) (x : Step) (r : Bool) → i < length ss → all_bare true (take i (steps_in t ss)) ≡ true → x ≡ get_or ss i x
    → still_bare true (step_of (reading t) x) ≡ (true && not r) → r ≡ false → all_bare true (take (i + 1) (steps_in t ss)) ≡ true
more-at t ss i x r lt a e b f =
    let n = steps-long t ss in
    bare-more (steps_in t ss) i (step_of (reading t) x) (omega (arith, n, lt)) a (step-there t ss i x lt e) (b ∙ ap (λ c. true && not c) f)

pub until-at : (t : Tables) (ss : List Step) (i : ℕ) (x : Step) (r strip : Bool) → i < length ss → all_bare true (take i (steps_in t ss)) ≡ true → x ≡ get_or ss i x
    → still_bare true (step_of (reading t) x) ≡ (true && not r) → r ≡ true → strip ≡ true → (j : ℕ) → j ≤ length ss → nat_lt j (i + 1) ≡ all_bare strip (take j (steps_in t ss))
until-at t ss i x r strip lt a e b f h j le =
    let n = steps-long t ss in
    bare-until (steps_in t ss) i (step_of (reading t) x) (omega (arith, n, lt)) a (step-there t ss i x lt e) (b ∙ ap (λ c. true && not c) f) j (omega (arith, n, le))
    ∙ ap (λ c. all_bare c (take j (steps_in t ss))) (sym h)

pub all-at : (t : Tables) (ss : List Step) (n : ℕ) (strip : Bool) → length ss ≤ n → all_bare true (take n (steps_in t ss)) ≡ true → strip ≡ true → (j : ℕ) → j ≤ length ss
    → nat_lt j (length ss + 1) ≡ all_bare strip (take j (steps_in t ss))
all-at t ss n strip le a h j k =
    let m = steps-long t ss in
    ap (λ l. nat_lt j (l + 1)) (sym m) ∙ all-bare (steps_in t ss) n (omega (arith, m, le)) a j (omega (arith, m, k)) ∙ ap (λ c. all_bare c (take j (steps_in t ss))) (sym h)
