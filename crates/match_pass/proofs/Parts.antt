-- Parts of an expression that are made apart from each other.
use Rattle.std.proofs.Common.{◌≡◌, ◌<◌, ◌≤◌, ◌+◌, ℕ, zero, suc, List, [], ◌∷◌, ◌++◌, length, take, drop, reverse, slice_index_or, Option, Some, None, refl, sym, subst, ◌∙◌, arith}
use Rattle.ir_poly.specs.Prog as t
use Rattle.plain_tree.specs.declared.tree.Field.{Field}
use Rattle.plain_tree.specs.declared.tree.Step.{Step}
use Rattle.prog_tree.specs.TreeOf.{Reading}
use Rattle.prog_tree.specs.declared.tree.Exp.{Exp}
use Rattle.prog_tree.specs.declared.tree.Join.{Join}
use Rattle.general_bindings.specs.of_match_types.declared.work.Work.{Work}
use Rattle.general_bindings.proofs.of_pattern_tests.Chains.{next-drop}
use Rattle.general_bindings.specs.of_exp_steps.Making.{Makes, MakesTuple}
use Rattle.general_bindings.specs.of_exp_steps.Joining.{Opens}
use Rattle.general_bindings.specs.of_exp_steps.declared.joins.Opening.{Opening}
use Rattle.match_pass.specs.Reading.{expression, right_chain}
use Rattle.match_pass.specs.Chains.{RightOpen, RightMade, last_first}
use Rattle.match_pass.proofs.Lists.{drop-past}
use Rattle.match_pass.proofs.Rights.{right-start, right-opened, right-turned}
use Rattle.match_pass.specs.Apart.{FirstOpen}

-- the parts of a tuple, read from the list that has them
pub parts-read : {w v : Work} {s m : List Step} (e : Reading → t.Exp) (made read : List Field) → read ≡ made → MakesTuple w v s m e made → MakesTuple w v s m e read
parts-read {w = w} {v = v} {s = s} {m = m} e made read is p = subst (λ l. MakesTuple w v s m e l) (sym is) p

module _ {A : Type 0} where
  -- both are the first of the list
  pub first-same : (xs : List A) (a b : A) → 0 < length xs → a ≡ slice_index_or xs 0 a → b ≡ slice_index_or xs 0 b → a ≡ b
  first-same [] a b lt is same = absurd (omega arith)
  first-same (x ∷ xs) a b lt is same = is ∙ sym same

-- Operators to the right

pub first-none : (w : Work) (s : List Step) (js : List (Join × Exp × Exp)) (i : ℕ) → length js ≤ i → FirstOpen w w s s (drop i js) None
first-none w s js i le = subst (λ l. FirstOpen w w s s l None) (sym (drop-past js i le)) (FirstOpen.none refl refl)

pub first-some : {w v : Work} {s m : List Step} (js : List (Join × Exp × Exp)) (i : ℕ) (j : Join × Exp × Exp) (o : Opening) → i < length js → j ≡ slice_index_or js i j → Opens w v s m (expression j.1) o → FirstOpen w v s m (drop i js) (Some o)
first-some {w = w} {v = v} {s = s} {m = m} js i j o lt is p = subst (λ l. FirstOpen w v s m l (Some o)) (sym (next-drop js i j lt is)) (FirstOpen.some j o p)

-- the operators before the number i wait, each with its left operand; the next is open, and the value of its left operand was made
pub record Waiting (start now : Work) (before after : List Step) (whole : Reading → t.Exp) (js : List (Join × Exp × Exp)) (i : ℕ) (os : List (Opening × ℕ)) (first : Option Opening) (x : ℕ) : Type 0 where
  pub work : Work
  pub middle : Work
  pub steps : List Step
  pub between : List Step
  pub operand : Exp
  pub waits : RightOpen start before whole (reverse os) (last_first (take i js)) (right_chain (expression operand) (drop i js)) work steps
  pub next : FirstOpen work middle steps between (drop i js) first
  pub made : Makes middle now between after (expression operand) x

pub waiting-first : {w v now : Work} {s m after : List Step} {first : Option Opening} {x : ℕ} (js : List (Join × Exp × Exp)) (e : Exp) (os : List (Opening × ℕ)) → os ≡ [] → FirstOpen w v s m js first → Makes v now m after (expression e) x
    → Waiting w now s after (right_chain (expression e) js) js 0 os first x
waiting-first {w = w} {v = v} {s = s} {m = m} js e os none open_so made = record {
  work = w;
  middle = v;
  steps = s;
  between = m;
  operand = e;
  waits = right-start w s (right_chain (expression e) js) os none;
  next = open_so;
  made = made;
}

-- the operator that is open
pub first-opens : {w v : Work} {s m : List Step} (js rest : List (Join × Exp × Exp)) (j : Join × Exp × Exp) (first : Option Opening) (o : Opening) → js ≡ j ∷ rest → first ≡ Some o → FirstOpen w v s m js first → Opens w v s m (expression j.1) o
first-opens {w = w} {v = v} {s = s} {m = m} js rest j first o e is p = go (subst (λ l. FirstOpen w v s m l (Some o)) e (subst (λ f. FirstOpen w v s m js f) is p))
  where
    go : FirstOpen w v s m (j ∷ rest) (Some o) → Opens w v s m (expression j.1) o
    go (FirstOpen.some j o p) = p

pub waiting-step : {start now v w1 : Work} {before after m l : List Step} {first next : Option Opening} {y : ℕ} (whole : Reading → t.Exp) (js : List (Join × Exp × Exp)) (i : ℕ) (j : Join × Exp × Exp) (o : Opening) (x : ℕ) (os later : List (Opening × ℕ))
    → i < length js → j ≡ slice_index_or js i j → later ≡ os ++ (o, x) ∷ [] → first ≡ Some o → Waiting start now before after whole js i os first x → FirstOpen now v after m (drop (i + 1) js) next
    → Makes v w1 m l (expression j.2) y → Waiting start w1 before l whole js (i + 1) later next y
waiting-step {now = now} {v = v} {after = after} {m = m} {first = first} whole js i j o x os later lt is more some h open_so made = record {
  work = now;
  middle = v;
  steps = after;
  between = m;
  operand = j.2;
  waits = right-opened whole js i j h.operand x os later o lt is more h.waits (first-opens (drop i js) (drop (i + 1) js) j first o (next-drop js i j lt is) some h.next) h.made;
  next = open_so;
  made = made;
}

-- no operator that is left isn't open
first-never : {w v : Work} {s m : List Step} {A : Type 0} (js : List (Join × Exp × Exp)) (i : ℕ) → i < length js → FirstOpen w v s m (drop i js) None → A
first-never [] i lt p = absurd (omega arith)
first-never (j ∷ js) zero lt p = elim p [ ]
first-never (j ∷ js) (suc i) lt p = first-never js i (omega arith) p

pub waiting-never : {start now : Work} {before after : List Step} {first : Option Opening} {x : ℕ} {A : Type 0} (whole : Reading → t.Exp) (js : List (Join × Exp × Exp)) (i : ℕ) (os : List (Opening × ℕ))
    → i < length js → first ≡ None → Waiting start now before after whole js i os first x → A
waiting-never whole js i os lt none h = first-never js i lt (subst (λ f. FirstOpen h.work h.middle h.steps h.between (drop i js) f) none h.next)

pub waiting-end : {start now : Work} {before after : List Step} {first : Option Opening} {x : ℕ} (whole : Reading → t.Exp) (js : List (Join × Exp × Exp)) (i : ℕ) (os : List (Opening × ℕ)) → length js ≤ i
    → Waiting start now before after whole js i os first x → RightMade start now before after whole (reverse os) (last_first js) x
waiting-end {start = start} {now = now} {before = before} {after = after} {first = first} {x = x} whole js i os le h =
    right-turned whole js i h.operand os x le h.waits (go first h.middle h.between (subst (λ l. FirstOpen h.work h.middle h.steps h.between l first) (drop-past js i le) h.next) h.made)
  where
    go : (f : Option Opening) (v : Work) (m : List Step) → FirstOpen h.work v h.steps m [] f → Makes v now m after (expression h.operand) x → Makes h.work now h.steps after (expression h.operand) x
    go f v m (FirstOpen.none same alike) p = subst (λ w. Makes w now h.steps after (expression h.operand) x) same (subst (λ l. Makes v now l after (expression h.operand) x) alike p)
