-- Chains of infix operators.
use Rattle.std.proofs.Common.{◌≡◌, ◌<◌, ◌≤◌, ◌+◌, ℕ, List, [], ◌∷◌, ◌++◌, length, take, drop, reverse, slice_index_or, sym, ap, subst, ◌∙◌, arith}
use Rattle.std.proofs.lemmas.List.{reverse-append}
use Rattle.ir_poly.specs.Prog as t
use Rattle.plain_tree.specs.declared.tree.Step.{Step}
use Rattle.prog_tree.specs.TreeOf.{Reading}
use Rattle.prog_tree.specs.declared.tree.Exp.{Exp}
use Rattle.prog_tree.specs.declared.tree.Join.{Join}
use Rattle.general_bindings.specs.of_match_types.declared.work.Work.{Work}
use Rattle.general_bindings.proofs.of_pattern_tests.Chains.{next-drop}
use Rattle.general_bindings.specs.of_exp_steps.Making.{Makes}
use Rattle.general_bindings.specs.of_exp_steps.Joining.{Opens, joined}
use Rattle.general_bindings.specs.of_exp_steps.declared.joins.Opening.{Opening}
use Rattle.general_bindings.proofs.of_exp_steps.Counting.{makes-as}
use Rattle.match_pass.specs.Reading.{expression, left_chain}
use Rattle.match_pass.specs.Chains.{LeftOpen, LeftMade}
use Rattle.match_pass.proofs.Lists.{joins-taken}

-- one operator more is open, from the outermost on
pub left-opened : {start w w1 : Work} {before s s1 : List Step} (js : List (Join × Exp × Exp)) (n i : ℕ) (j : Join × Exp × Exp) (os later : List Opening) (o : Opening) → n ≡ i + 1 → n ≤ length js → j ≡ slice_index_or js i j
    → later ≡ os ++ o ∷ [] → LeftOpen start before (drop n js) (reverse os) w s → Opens w w1 s s1 (expression j.1) o → LeftOpen start before (drop i js) (reverse later) w1 s1
left-opened {start = start} {w1 = w1} {before = before} {s1 = s1} js n i j os later o e le is more h p =
    let g : drop i js ≡ j ∷ drop n js = next-drop js i j (omega arith) is ∙ ap (λ k. j ∷ drop k js) (sym e) in
    subst (λ l. LeftOpen start before l (reverse later) w1 s1) (sym g)
    (subst (λ l. LeftOpen start before (j ∷ drop n js) l w1 s1) (sym (ap reverse more ∙ reverse-append os (o ∷ []))) (LeftOpen.inner j o h p))

-- the operands of one operator more were made
pub left-closed : {start now w1 w2 : Work} {before s s1 s2 : List Step} {x y : ℕ} (e : Reading → t.Exp) (js : List (Join × Exp × Exp)) (i : ℕ) (j : Join × Exp × Exp) (os later : List Opening) (o : Opening) (a : ℕ) → i < length js
    → j ≡ slice_index_or js i j → os ≡ later ++ o ∷ [] → LeftMade start now before s e (take i js) (drop i js) (reverse os) x → Makes now w1 s s1 (expression j.2) y
    → ((w v u : Work) (ss us ms : List Step) (f d e : Reading → t.Exp) → Opens w v ss us f o → Makes v u us ms d x → Makes u w1 ms s1 e y → Makes w w2 ss s2 (joined j.0 f d e) a)
    → LeftMade start w2 before s2 e (take (i + 1) js) (drop (i + 1) js) (reverse later) a
left-closed {start = start} {now = now} {w2 = w2} {before = before} {s = s} {s2 = s2} {x = x} e js i j os later o a lt is more h p close =
    go (drop i js) (reverse os) (next-drop js i j lt is) (ap reverse more ∙ reverse-append later (o ∷ [])) h
  where
    ended : (w : Work) (ss : List Step) → LeftOpen start before (drop (i + 1) js) (reverse later) w ss → Makes w w2 ss s2 (joined j.0 (expression j.1) (left_chain e (take i js)) (expression j.2)) a
        → LeftMade start w2 before s2 e (take (i + 1) js) (drop (i + 1) js) (reverse later) a
    ended w ss l m = record { work = w; steps = ss; waits = l; made = makes-as (joined j.0 (expression j.1) (left_chain e (take i js)) (expression j.2)) (left_chain e (take (i + 1) js)) (joins-taken e js i j lt is) m }

    go : (ks : List (Join × Exp × Exp)) (ps : List Opening) → ks ≡ j ∷ drop (i + 1) js → ps ≡ o ∷ reverse later → LeftMade start now before s e (take i js) ks ps x
        → LeftMade start w2 before s2 e (take (i + 1) js) (drop (i + 1) js) (reverse later) a
    go ks ps e1 e2 h = open-one (h.work) (h.steps) (subst (λ l. LeftOpen start before l (o ∷ reverse later) h.work h.steps) e1 (subst (λ l. LeftOpen start before ks l h.work h.steps) e2 h.waits)) h.made
      where
        open-one : (w : Work) (ss : List Step) → LeftOpen start before (j ∷ drop (i + 1) js) (o ∷ reverse later) w ss → Makes w now ss s (left_chain e (take i js)) x
            → LeftMade start w2 before s2 e (take (i + 1) js) (drop (i + 1) js) (reverse later) a
        open-one w ss (LeftOpen.inner {w = w0} {s = s0} j o l opens) m = ended w0 s0 l (close w0 w now s0 ss s (expression j.1) (left_chain e (take i js)) (expression j.2) opens m p)
