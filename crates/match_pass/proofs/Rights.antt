-- Chains of infix operators to the right, and the ends of chains.
use Rattle.std.proofs.Common.{◌≡◌, ◌<◌, ◌≤◌, ◌+◌, ℕ, List, [], ◌∷◌, ◌++◌, map, length, take, drop, reverse, slice_index_or, sym, ap, subst, ◌∙◌, arith}
use Rattle.std.proofs.lemmas.List.{reverse-append, map-append, length-reverse, length-map, length-take}
use Rattle.ir_poly.specs.Prog as t
use Rattle.plain_tree.specs.declared.tree.Step.{Step}
use Rattle.prog_tree.specs.TreeOf.{Reading}
use Rattle.prog_tree.specs.declared.tree.Exp.{Exp}
use Rattle.prog_tree.specs.declared.tree.Join.{Join}
use Rattle.general_bindings.specs.of_match_types.declared.work.Work.{Work}
use Rattle.general_bindings.proofs.of_pattern_tests.Chains.{next-drop, next-take}
use Rattle.general_bindings.specs.of_exp_steps.Making.{Makes}
use Rattle.general_bindings.specs.of_exp_steps.Joining.{Opens, joined}
use Rattle.general_bindings.specs.of_exp_steps.declared.joins.Opening.{Opening}
use Rattle.general_bindings.proofs.of_exp_steps.Counting.{makes-as}
use Rattle.match_pass.specs.Reading.{expression, left_chain, right_chain}
use Rattle.match_pass.specs.Chains.{LeftOpen, LeftMade, RightOpen, RightMade, last_first}
use Rattle.match_pass.proofs.Lists.{drop-past, take-past}

last-taken : (js : List (Join × Exp × Exp)) (i : ℕ) (j : Join × Exp × Exp) → i < length js → j ≡ slice_index_or js i j → last_first (take (i + 1) js) ≡ j.0 ∷ last_first (take i js)
last-taken js i j lt is =
    ap last_first (next-take js i j lt is) ∙ ap reverse (map-append (λ k. k.0) (take i js) (j ∷ [])) ∙ reverse-append (map (λ k. k.0) (take i js)) (j.0 ∷ [])

pub right-start : (w : Work) (s : List Step) (whole : Reading → t.Exp) (os : List (Opening × ℕ)) → os ≡ [] → RightOpen w s whole (reverse os) [] whole w s
right-start w s whole os none = subst (λ l. RightOpen w s whole (reverse l) [] whole w s) (sym none) RightOpen.none

-- one operator more is open, with the value of its left operand
pub right-opened : {start w v w1 : Work} {before s m s1 : List Step} (whole : Reading → t.Exp) (js : List (Join × Exp × Exp)) (i : ℕ) (j : Join × Exp × Exp) (operand : Exp) (x : ℕ) (os later : List (Opening × ℕ)) (o : Opening)
    → i < length js → j ≡ slice_index_or js i j → later ≡ os ++ (o, x) ∷ []
    → RightOpen start before whole (reverse os) (last_first (take i js)) (right_chain (expression operand) (drop i js)) w s → Opens w v s m (expression j.1) o → Makes v w1 m s1 (expression operand) x
    → RightOpen start before whole (reverse later) (last_first (take (i + 1) js)) (right_chain (expression j.2) (drop (i + 1) js)) w1 s1
right-opened {start = start} {w1 = w1} {before = before} {s1 = s1} whole js i j operand x os later o lt is more h opens makes =
    subst (λ l. RightOpen start before whole (reverse later) l (right_chain (expression j.2) (drop (i + 1) js)) w1 s1) (sym (last-taken js i j lt is))
    (subst (λ l. RightOpen start before whole l (j.0 ∷ last_first (take i js)) (right_chain (expression j.2) (drop (i + 1) js)) w1 s1) (sym (ap reverse more ∙ reverse-append os ((o, x) ∷ [])))
    (RightOpen.inner j.0 o x (right_chain (expression j.2) (drop (i + 1) js)) h opens makes (λ R. sym (ap (λ l. right_chain (expression operand) l R) (next-drop js i j lt is)))))

-- the last operand was made
pub right-turned : {start w now : Work} {before s after : List Step} (whole : Reading → t.Exp) (js : List (Join × Exp × Exp)) (i : ℕ) (operand : Exp) (os : List (Opening × ℕ)) (a : ℕ) → length js ≤ i
    → RightOpen start before whole (reverse os) (last_first (take i js)) (right_chain (expression operand) (drop i js)) w s → Makes w now s after (expression operand) a
    → RightMade start now before after whole (reverse os) (last_first js) a
right-turned {start = start} {w = w} {now = now} {before = before} {s = s} {after = after} whole js i operand os a le h m = record {
  work = w;
  steps = s;
  rest = right_chain (expression operand) (drop i js);
  waits = subst (λ l. RightOpen start before whole (reverse os) (last_first l) (right_chain (expression operand) (drop i js)) w s) (take-past js i le) h;
  made = makes-as (expression operand) (right_chain (expression operand) (drop i js)) (λ R. ap (λ l. right_chain (expression operand) l R) (drop-past js i le)) m;
}

pub right-whole : {start now : Work} {before s : List Step} {os : List (Opening × ℕ)} {a : ℕ} (whole : Reading → t.Exp) (js : List (Join × Exp × Exp)) → RightMade start now before s whole os (last_first js) a
    → RightMade start now before s whole os (last_first (take (length js) js)) a
right-whole {start = start} {now = now} {before = before} {s = s} {os = os} {a = a} whole js h = subst (λ l. RightMade start now before s whole os (last_first l) a) (sym (take-past js (length js) (omega arith))) h

-- the innermost operator has got its operands
pub right-closed : {start now new : Work} {before s s1 : List Step} {y : ℕ} (whole : Reading → t.Exp) (js : List (Join × Exp × Exp)) (n i : ℕ) (j : Join × Exp × Exp) (os later : List (Opening × ℕ)) (o : Opening) (x a : ℕ)
    → n ≡ i + 1 → n ≤ length js → j ≡ slice_index_or js i j → os ≡ later ++ (o, x) ∷ [] → RightMade start now before s whole (reverse os) (last_first (take n js)) y
    → ((w v u : Work) (ss us ms : List Step) (f d e : Reading → t.Exp) → Opens w v ss us f o → Makes v u us ms d x → Makes u now ms s e y → Makes w new ss s1 (joined j.0 f d e) a)
    → RightMade start new before s1 whole (reverse later) (last_first (take i js)) a
right-closed {start = start} {now = now} {new = new} {before = before} {s = s} {s1 = s1} {y = y} whole js n i j os later o x a e le is more h close =
    go (reverse os) (last_first (take n js)) (ap reverse more ∙ reverse-append later ((o, x) ∷ [])) (ap (λ k. last_first (take k js)) e ∙ last-taken js i j (omega arith) is) h
  where
    open-one : (w1 : Work) (ss : List Step) (rest : Reading → t.Exp) → RightOpen start before whole ((o, x) ∷ reverse later) (j.0 ∷ last_first (take i js)) rest w1 ss → Makes w1 now ss s rest y
        → RightMade start new before s1 whole (reverse later) (last_first (take i js)) a
    open-one w1 ss rest (RightOpen.inner {rest = r} {w = w} {v = v} {s = s0} {m = m} {f = f} {d = d} k p z e l opens makes same) made = record {
      work = w;
      steps = s0;
      rest = r;
      waits = l;
      made = makes-as (joined k f d e) r (λ R. sym (same R)) (close w v w1 s0 m ss f d e opens makes made);
    }

    go : (ps : List (Opening × ℕ)) (ks : List Join) → ps ≡ (o, x) ∷ reverse later → ks ≡ j.0 ∷ last_first (take i js) → RightMade start now before s whole ps ks y
        → RightMade start new before s1 whole (reverse later) (last_first (take i js)) a
    go ps ks e1 e2 h =
        open-one h.work h.steps h.rest (subst (λ l. RightOpen start before whole ((o, x) ∷ reverse later) l h.rest h.work h.steps) e2 (subst (λ l. RightOpen start before whole l ks h.rest h.work h.steps) e1 h.waits)) h.made

pub right-end : {start now : Work} {before s : List Step} {a : ℕ} (whole : Reading → t.Exp) (js : List (Join × Exp × Exp)) (i : ℕ) (os : List (Opening × ℕ)) → i ≡ 0 → RightMade start now before s whole os (last_first (take i js)) a → Makes start now before s whole a
right-end {start = start} {now = now} {before = before} {s = s} {a = a} whole js i os e h =
    done os h.work h.steps h.rest (subst (λ l. RightOpen start before whole os (last_first (take l js)) h.rest h.work h.steps) e h.waits) h.made
  where
    done : (os : List (Opening × ℕ)) (w : Work) (ss : List Step) (rest : Reading → t.Exp) → RightOpen start before whole os [] rest w ss → Makes w now ss s rest a → Makes start now before s whole a
    done os w ss rest RightOpen.none m = m

last-counted : (js : List (Join × Exp × Exp)) (n : ℕ) → n ≤ length js → length (last_first (take n js)) ≡ n
last-counted js n le =
    length-reverse (map (λ j. j.0) (take n js)) ∙ length-map (take n js) (λ j. j.0) ∙ (let e = length-take n js in omega (arith, e))

-- no operator is without its operand
pub right-never : {start now : Work} {before s : List Step} {a : ℕ} {A : Type 0} (whole : Reading → t.Exp) (js : List (Join × Exp × Exp)) (n : ℕ) (os : List (Opening × ℕ)) → 0 < n → n ≤ length js
    → os ≡ [] → RightMade start now before s whole (reverse os) (last_first (take n js)) a → A
right-never {start = start} {before = before} {A = A} whole js n os some le none h =
    never (last_first (take n js)) (let e = last-counted js n le in omega (arith, e)) h.rest h.work h.steps
    (subst (λ l. RightOpen start before whole (reverse l) (last_first (take n js)) h.rest h.work h.steps) none h.waits)
  where
    never : (ks : List Join) → 0 < length ks → (rest : Reading → t.Exp) (w : Work) (ss : List Step) → RightOpen start before whole [] ks rest w ss → A
    never [] lt rest w ss open_so = absurd (omega arith)
    never (k ∷ ks) lt rest w ss h = elim h [ ]

-- Chains to the left

pub left-start : (w : Work) (s : List Step) (js : List (Join × Exp × Exp)) (n : ℕ) (os : List Opening) → n ≡ length js → os ≡ [] → LeftOpen w s (drop n js) (reverse os) w s
left-start w s js n os e none =
    subst (λ l. LeftOpen w s (drop n js) (reverse l) w s) (sym none) (subst (λ l. LeftOpen w s l [] w s) (sym (drop-past js n (omega arith))) LeftOpen.none)

-- all operators are open
pub left-all : {start w : Work} {before s : List Step} (js : List (Join × Exp × Exp)) (n : ℕ) (os : List Opening) → n ≡ 0 → LeftOpen start before (drop n js) (reverse os) w s → LeftOpen start before js (reverse os) w s
left-all {start = start} {w = w} {before = before} {s = s} js n os e h = subst (λ k. LeftOpen start before (drop k js) (reverse os) w s) e h

pub left-end : {start now : Work} {before s : List Step} {a : ℕ} (e : Reading → t.Exp) (js : List (Join × Exp × Exp)) (i : ℕ) (os : List Opening) → length js ≤ i → LeftMade start now before s e (take i js) (drop i js) os a → Makes start now before s (left_chain e js) a
left-end {start = start} {now = now} {before = before} {s = s} {a = a} e js i os le h =
    done os h.work h.steps (subst (λ l. LeftOpen start before l os h.work h.steps) (drop-past js i le) h.waits) (subst (λ l. Makes h.work now h.steps s (left_chain e l) a) (take-past js i le) h.made)
  where
    done : (os : List Opening) (w : Work) (ss : List Step) → LeftOpen start before [] os w ss → Makes w now ss s (left_chain e js) a → Makes start now before s (left_chain e js) a
    done os w ss LeftOpen.none m = m

pub left-never : {start now : Work} {before s : List Step} {a : ℕ} {A : Type 0} (e : Reading → t.Exp) (js : List (Join × Exp × Exp)) (i : ℕ) (j : Join × Exp × Exp) (os : List Opening) → i < length js → j ≡ slice_index_or js i j
    → os ≡ [] → LeftMade start now before s e (take i js) (drop i js) (reverse os) a → A
left-never {start = start} {before = before} {A = A} e js i j os lt is none h =
    never h.work h.steps (subst (λ l. LeftOpen start before l [] h.work h.steps) (next-drop js i j lt is) (subst (λ l. LeftOpen start before (drop i js) (reverse l) h.work h.steps) none h.waits))
  where
    never : (w : Work) (ss : List Step) → LeftOpen start before (j ∷ drop (i + 1) js) [] w ss → A
    never w ss h = elim h [ ]
