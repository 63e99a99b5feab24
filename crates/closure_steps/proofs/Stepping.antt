-- The conversion of steps and what comes of them, and the scope that is left again.
use Rattle.std.proofs.Common.{◌≡◌, ℕ, List, [], ◌∷◌, ◌++◌, length, refl, sym, ap, ◌∙◌}
use Rattle.ir_plain.specs.Tree as m
use Rattle.ir_mono.specs.Types as table
use Rattle.ir_mono.specs.Mono.{mono, Mono}
use Rattle.flow_sets.specs.Flow.{Flow}
use Rattle.plain_tree.specs.TreeOf.{StepTree, let_step, exception_step, name_step, rec_step, test_step, counted_step, put, onto}
use Rattle.closure_convert.specs.Scope.{names, Scope, add, add_all, Table}
use Rattle.closure_convert.specs.Closed.{members, case_scope}
use Rattle.closure_convert.specs.Capture.{visible}
use Rattle.closure_meaning.specs.Convert.{Numbering, convert}
use Rattle.capture_scope.specs.Found.{left_to}
use Rattle.closure_parts.specs.of_capture_table.Told.{more}
use Rattle.closure_parts.proofs.of_capture_table.Growing.{assoc}
use Rattle.closure_parts.proofs.of_capture_table.Walking.{left-is}
use Rattle.closure_steps.specs.Steps.{behind, all_behind, stepped, all_stepped}
use Rattle.closure_steps.proofs.Switching.{cases-first}

-- scopes

pub all-more : (xs : List ℕ) (s : Scope) → add_all xs s ≡ more xs s
all-more [] s = refl
all-more (x ∷ xs) s = ap (add x) (all-more xs s)

case-front : (types : List table.Row) (c : m.Case (mono types)) (s : Scope) → (xs : List ℕ) × (case_scope types c s ≡ more xs s)
case-front types (m.is_literal l) s = ([], refl)
case-front types (m.is_con c) s = ([], refl)
case-front types (m.is_con_of c x t) s = (x ∷ [], refl)
case-front types (m.is_exn y) s = ([], refl)
case-front types (m.is_exn_of y x t) s = (x ∷ [], refl)
case-front types (m.is_record size) s = ([], refl)

behind-front : (types : List table.Row) (t : StepTree (mono types)) (s : Scope) → (xs : List ℕ) × (behind types t s ≡ more xs s)
behind-front types (let_step x ps t o) s = (x ∷ [], refl)
behind-front types (exception_step x i t) s = (x ∷ [], refl)
behind-front types (name_step x y) s = (x ∷ [], refl)
behind-front types (rec_step ps fs) s = (names (members types fs), all-more (names (members types fs)) s)
behind-front types (test_step a u c others) s = case-front types c s
behind-front types (counted_step k) s = ([], refl)

all-front : (types : List table.Row) (ts : List (StepTree (mono types))) (s : Scope) → (xs : List ℕ) × (all_behind types ts s ≡ more xs s)
all-front types [] s = ([], refl)
all-front types (t ∷ ts) s =
    let a = behind-front types t s in
    let b = all-front types ts (behind types t s) in
    (b.0 ++ a.0, b.1 ∙ ap (more b.0) a.1 ∙ ap (λ l. record { locals = l; group = s.group; captured = s.captured }) (sym (assoc b.0 a.0 s.locals)))

-- what was bound by steps is left
pub steps-left : (types : List table.Row) (ts : List (StepTree (mono types))) (s now new : Scope) (len : ℕ) → len ≡ length (visible s) → now ≡ all_behind types ts s → new ≡ left_to len now → new ≡ s
steps-left types ts s now new len l n e = let r = all-front types ts s in left-is r.0 s now new len l (n ∙ r.1) e

pub case-left : (types : List table.Row) (c : m.Case (mono types)) (s now new : Scope) (len : ℕ) → len ≡ length (visible s) → now ≡ case_scope types c s → new ≡ left_to len now → new ≡ s
case-left types c s now new len l n e = let r = case-front types c s in left-is r.0 s now new len l (n ∙ r.1) e

pub one-left : (x : ℕ) (s now new : Scope) (len : ℕ) → len ≡ length (visible s) → now ≡ add x s → new ≡ left_to len now → new ≡ s
one-left x s now new len l n e = left-is (x ∷ []) s now new len l n e

-- steps

module _ (n : Numbering) (types : List table.Row) (F : Flow) (T : Table) where
  step-first : (t : StepTree (mono types)) (s : Scope) (e : Mono types) → convert n types F T s (put t e) ≡ stepped n types F T s t (convert n types F T (behind types t s) e)
  step-first (let_step x ps t o) s e = refl
  step-first (exception_step x i t) s e = refl
  step-first (name_step x y) s e = refl
  step-first (rec_step ps fs) s e = refl
  step-first (test_step a u c others) s e = cases-first n types [] F T s a u c e others
  step-first (counted_step k) s e = refl

  pub steps-converted : (ts : List (StepTree (mono types))) (s : Scope) (e : Mono types)
      → convert n types F T s (onto ts e) ≡ all_stepped n types F T s ts (convert n types F T (all_behind types ts s) e)
  steps-converted [] s e = refl
  steps-converted (t ∷ ts) s e = step-first t s (onto ts e) ∙ ap (stepped n types F T s t) (steps-converted ts (behind types t s) e)
