-- Parts that are converted one after the other.
use Rattle.std.proofs.Common.{◌≡◌, ℕ, zero, suc, ◌+◌, ◌<◌, ◌≤◌, List, [], ◌∷◌, ◌++◌, map, take, drop, length, get_or, refl, sym, ap, ap₂, ◌∙◌}
use Rattle.std.proofs.lemmas.List.{take_more, drop_more}
use Rattle.ir_mono.specs.Types as table
use Rattle.ir_mono.specs.Mono.{mono, Mono}
use Rattle.ir_first.specs.Tree as out
use Rattle.flow_sets.specs.Flow.{Flow}
use Rattle.plain_tree.specs.declared.tree.Exp.{Exp}
use Rattle.plain_tree.specs.declared.tree.Step.{Step}
use Rattle.plain_tree.specs.TreeOf.{firsts}
use Rattle.mono_bound.specs.Reads.{mono_of}
use Rattle.closure_convert.specs.Scope.{Scope, Table}
use Rattle.first_tree.specs.declared.tree.Step.{Step as MadeStep}
use Rattle.closure_meaning.specs.Convert.{Numbering, convert}
use Rattle.closure_steps.specs.Reads.{mono_step, steps_in}
use Rattle.closure_steps.specs.of_closure_parts.Puts.{before, Puts}
use Rattle.closure_steps.proofs.of_closure_parts.Putting.{map-last, seen, all-before, all-behind}
use Rattle.closure_steps.specs.Steps.{behind, all_behind, stepped, all_stepped}

ahead : {A : Type 0} (xs : List A) (i : ℕ) (x d : A) → i < length xs → x ≡ get_or xs i d → drop i xs ≡ x ∷ drop (i + 1) xs
ahead xs i x d lt is = drop_more xs i d lt ∙ ap (λ y. y ∷ drop (i + 1) xs) (sym is)

-- the scope behind steps

module _ (types : List table.Row) (strings : List (List ℕ)) (ss : List Step) where
  pub scope-next : (i : ℕ) (x d : Step) (s now mid new : Scope) → i < length ss → x ≡ get_or ss i d → mid ≡ now → new ≡ behind types (mono_step types strings x) mid
      → all_behind types (steps_in types strings (drop i ss)) now ≡ all_behind types (steps_in types strings ss) s
      → all_behind types (steps_in types strings (drop (i + 1) ss)) new ≡ all_behind types (steps_in types strings ss) s
  scope-next i x d s now mid new lt is k b inv =
      ap (all_behind types (steps_in types strings (drop (i + 1) ss))) (b ∙ ap (behind types (mono_step types strings x)) k)
      ∙ ap (λ l. all_behind types (steps_in types strings l) now) (sym (ahead ss i x d lt is)) ∙ inv

  pub scope-all : (i : ℕ) (s now : Scope) → length ss ≤ i → all_behind types (steps_in types strings (drop i ss)) now ≡ all_behind types (steps_in types strings ss) s → now ≡ all_behind types (steps_in types strings ss) s
  scope-all i s now le inv = ap (λ l. all_behind types (steps_in types strings l) now) (sym (all-behind ss i le)) ∙ inv

module _ (n : Numbering) (types : List table.Row) (strings : List (List ℕ)) (F : Flow) (T : Table) where
  abbrev f : Exp → Mono types
  f = mono_of types strings

  -- steps

  abbrev pub StepsSoFar : List Step → (i : ℕ) → (s now : Scope) → (old made : List MadeStep) → Type 0
  StepsSoFar ss i s now old made =
      (e : out.Exp) → before made (all_stepped n types F T now (steps_in types strings (drop i ss)) e) ≡ before old (all_stepped n types F T s (steps_in types strings ss) e)

  pub steps-next : (ss : List Step) (i : ℕ) (x d : Step) (s now mid new : Scope) (old made made' : List MadeStep) → i < length ss → x ≡ get_or ss i d → mid ≡ now → new ≡ behind types (mono_step types strings x) mid
      → Puts made made' (stepped n types F T now (mono_step types strings x)) → StepsSoFar ss i s now old made → StepsSoFar ss (i + 1) s new old made'
  steps-next ss i x d s now mid new old made made' lt is k b p inv e =
      p (all_stepped n types F T new (steps_in types strings (drop (i + 1) ss)) e)
      ∙ ap (λ z. before made (stepped n types F T now (mono_step types strings x) (all_stepped n types F T z (steps_in types strings (drop (i + 1) ss)) e))) (b ∙ ap (behind types (mono_step types strings x)) k)
      ∙ ap (λ l. before made (all_stepped n types F T now (steps_in types strings l) e)) (sym (ahead ss i x d lt is)) ∙ inv e

  pub steps-all : (ss : List Step) (i : ℕ) (s now : Scope) (old made : List MadeStep) → length ss ≤ i → StepsSoFar ss i s now old made → Puts old made (all_stepped n types F T s (steps_in types strings ss))
  steps-all ss i s now old made le inv e = ap (λ l. before made (all_stepped n types F T now (steps_in types strings l) e)) (sym (all-behind ss i le)) ∙ inv e

  -- attempts

  abbrev pub AttemptsSoFar : List Exp → (i : ℕ) → Scope → (old made : List MadeStep) → Type 0
  AttemptsSoFar es i s old made = (d : Mono types) → before made (convert n types F T s (firsts (map f (drop i es)) d)) ≡ before old (convert n types F T s (firsts (map f es) d))

  pub attempts-next : (es : List Exp) (i : ℕ) (x d : Exp) (s now : Scope) (old made made' : List MadeStep) (a : out.Exp) → i < length es → x ≡ get_or es i d → now ≡ s → a ≡ convert n types F T now (f x) → Puts made made' (out.first a)
      → AttemptsSoFar es i s old made → AttemptsSoFar es (i + 1) s old made'
  attempts-next es i x d s now old made made' a lt is k h p inv e =
      p (convert n types F T s (firsts (map f (drop (i + 1) es)) e))
      ∙ ap (λ v. before made (out.first v (convert n types F T s (firsts (map f (drop (i + 1) es)) e)))) (h ∙ ap (λ z. convert n types F T z (f x)) k)
      ∙ ap (λ l. before made (convert n types F T s (firsts (map f l) e))) (sym (ahead es i x d lt is)) ∙ inv e

  pub attempts-all : (es : List Exp) (i : ℕ) (s : Scope) (old made : List MadeStep) → length es ≤ i → AttemptsSoFar es i s old made
      → (d : Mono types) → before made (convert n types F T s d) ≡ before old (convert n types F T s (firsts (map f es) d))
  attempts-all es i s old made le inv d = ap (λ l. before made (convert n types F T s (firsts (map f l) d))) (sym (all-behind es i le)) ∙ inv d
