-- What a step is, where the code has ruled out some kinds of steps.
use Rattle.std.proofs.Common.{◌≡◌, ℕ, Bool, Option, None, Vec, Box, Global, refl, sym, ap, subst, ◌∙◌}
use Rattle.ty_core.specs.Types.{Typ}
use Rattle.ir_poly.specs.Tests.{poly}
use Rattle.ir_tables.specs.declared.tables.Tables.{Tables}
use Rattle.plain_tree.specs.TreeOf.{StepTree}
use Rattle.plain_tree.specs.declared.tree.Arm.{Arm}
use Rattle.plain_tree.specs.declared.tree.Binding.{Binding}
use Rattle.plain_tree.specs.declared.tree.Case.{Case}
use Rattle.plain_tree.specs.declared.tree.Exception.{Exception}
use Rattle.plain_tree.specs.declared.tree.Exp.{Exp}
use Rattle.plain_tree.specs.declared.tree.Exp.TheFolds.{ind-Step}
use Rattle.plain_tree.specs.declared.tree.Exp.TheViews.{roll-Step}
use Rattle.plain_tree.specs.declared.tree.Function.{Function}
use Rattle.plain_tree.specs.declared.tree.Operation.{Operation}
use Rattle.plain_tree.specs.declared.tree.Parameter.{Parameter}
use Rattle.plain_tree.specs.declared.tree.Step.{Step, Step-F}
use Rattle.plain_tree.specs.declared.tree.Step.TheVariants as step
use Rattle.mono_parts.specs.of_tests_check.Reads.{reading}
use Rattle.mono_parts.proofs.of_tests_check.Rolls.{step-let, step-fn, step-block, step-handle, step-exception, step-name, step-group, step-test, step-counted}
use Rattle.monomorphise.specs.Monomorphise.{Groups}
use Rattle.mono_words.specs.Seen.{Seen}
use Rattle.mono_words.specs.Made.{entered_step, left_step}
use Rattle.mono_copy.specs.Changes.{step_in, opened, bound_at, plain_left, acted}

module _ (P : Step → Type 0) (l : (b : Binding) (o : Operation) → P (step.Let b o)) (f : (b : Binding) (xs : Vec Parameter Global) (x : Parameter) (e : Box Exp Global) → P (step.Fn b xs x e))
    (k : (b : Binding) (e : Box Exp Global) → P (step.Block b e)) (h : (b : Binding) (e : Box Exp Global) (x : ℕ) (d : Box Exp Global) → P (step.Handle b e x d))
    (e : (x i : ℕ) (a : Option ℕ) → P (step.Exception x i a)) (n : (x : ℕ) (y : Exception) → P (step.Name x y)) (g : (ps : ℕ) (fs : Vec Function Global) → P (step.Group ps fs))
    (t : (a u : ℕ) (c : Case) (others : Vec Arm Global) → P (step.Test a u c others)) (m : (j : ℕ) → P (step.Counted j)) where
  layer : (x : Step-F Exp Step Arm Function) → P (roll-Step x)
  layer (Step-F.Let b o) = subst P (sym (step.rolls-Let b o)) (l b o)
  layer (Step-F.Fn b xs x d) = subst P (sym (step.rolls-Fn b xs x d)) (f b xs x d)
  layer (Step-F.Block b d) = subst P (sym (step.rolls-Block b d)) (k b d)
  layer (Step-F.Handle b d x c) = subst P (sym (step.rolls-Handle b d x c)) (h b d x c)
  layer (Step-F.Exception x i a) = subst P (sym (step.rolls-Exception x i a)) (e x i a)
  layer (Step-F.Name x y) = subst P (sym (step.rolls-Name x y)) (n x y)
  layer (Step-F.Group ps fs) = subst P (sym (step.rolls-Group ps fs)) (g ps fs)
  layer (Step-F.Test a u c others) = subst P (sym (step.rolls-Test a u c others)) (t a u c others)
  layer (Step-F.Counted j) = subst P (sym (step.rolls-Counted j)) (m j)

  step-cases : (s : Step) → P s
  step-cases = ind-Step (λ d. Unit {0}) P (λ a. Unit {0}) (λ a. Unit {0}) (λ x y is. tt) (λ x y is. layer x) (λ x y is. tt) (λ x y is. tt)

-- an equation that holds of what the step stands for
at-tree : {A : Type 0} (F G : StepTree poly → A) (s u : StepTree poly) → s ≡ u → F u ≡ G u → F s ≡ G s
at-tree F G s u e h = ap F e ∙ h ∙ sym (ap G e)

module _ (t : Tables) where
  -- all that a step that isn't a test enters is a scope
  pub not-test : (s : Step) → ((a u : ℕ) (c : Case) (others : Vec Arm Global) → s ≡ step.Test a u c others → ⊥) → (bare : Bool) (g : Groups) (f : ℕ → Typ) (n : Seen)
      → opened (step_in t s) n ≡ entered_step bare g f (step_in t s) n
  not-test s ne bare g f n =
      step-cases (λ s. ((a u : ℕ) (c : Case) (others : Vec Arm Global) → s ≡ step.Test a u c others → ⊥) → opened (step_in t s) n ≡ entered_step bare g f (step_in t s) n)
      (λ b o ne. at-tree F G _ _ (step-let (reading t) b o) refl)
      (λ b xs x e ne. at-tree F G _ _ (step-fn (reading t) b xs x e) refl)
      (λ b e ne. at-tree F G _ _ (step-block (reading t) b e) refl)
      (λ b e x d ne. at-tree F G _ _ (step-handle (reading t) b e x d) refl)
      (λ x i a ne. at-tree F G _ _ (step-exception (reading t) x i a) refl)
      (λ x y ne. at-tree F G _ _ (step-name (reading t) x y) refl)
      (λ ps fs ne. at-tree F G _ _ (step-group (reading t) ps fs) refl)
      (λ a u c others ne. absurd (ne a u c others refl))
      (λ j ne. at-tree F G _ _ (step-counted (reading t) j) refl)
      s ne
    where
      F : StepTree poly → Seen
      F st = opened st n

      G : StepTree poly → Seen
      G st = entered_step bare g f st n

  unbound : {A : Type 0} (s u : StepTree poly) → s ≡ u → (None ≡ bound_at s) → (None ≡ bound_at u → A) → A
  unbound s u e b f = f (b ∙ ap bound_at e)

  -- nothing is opened
  pub none-opened : (s : Step) → ((x i : ℕ) (a : Option ℕ) → s ≡ step.Exception x i a → ⊥) → ((x : ℕ) (y : Exception) → s ≡ step.Name x y → ⊥) → ((ps : ℕ) (fs : Vec Function Global) → s ≡ step.Group ps fs → ⊥)
      → None ≡ bound_at (step_in t s) → (n : Seen) → n ≡ opened (step_in t s) n
  none-opened s e m g b n =
      step-cases (λ s. ((x i : ℕ) (a : Option ℕ) → s ≡ step.Exception x i a → ⊥) → ((x : ℕ) (y : Exception) → s ≡ step.Name x y → ⊥) → ((ps : ℕ) (fs : Vec Function Global) → s ≡ step.Group ps fs → ⊥)
      → None ≡ bound_at (step_in t s) → n ≡ opened (step_in t s) n)
      (λ b o e m g q. absurd (unbound _ _ (step-let (reading t) b o) q (λ r. cc)))
      (λ b xs x d e m g q. absurd (unbound _ _ (step-fn (reading t) b xs x d) q (λ r. cc)))
      (λ b d e m g q. absurd (unbound _ _ (step-block (reading t) b d) q (λ r. cc)))
      (λ b d x c e m g q. absurd (unbound _ _ (step-handle (reading t) b d x c) q (λ r. cc)))
      (λ x i a e m g q. absurd (e x i a refl))
      (λ x y e m g q. absurd (m x y refl))
      (λ ps fs e m g q. absurd (g ps fs refl))
      (λ a u c others e m g q. at-tree (λ st. n) (λ st. opened st n) _ _ (step-test (reading t) a u c others) refl)
      (λ j e m g q. at-tree (λ st. n) (λ st. opened st n) _ _ (step-counted (reading t) j) refl)
      s e m g b

  -- nothing is copied of it
  pub not-group : (s : Step) → ((ps : ℕ) (fs : Vec Function Global) → s ≡ step.Group ps fs → ⊥) → None ≡ bound_at (step_in t s) → (bare : Bool) (g : Groups) (f : ℕ → Typ) (n : Seen)
      → plain_left g f (step_in t s) n ≡ left_step bare g f (step_in t s) n
  not-group s ne b bare g f n =
      step-cases (λ s. ((ps : ℕ) (fs : Vec Function Global) → s ≡ step.Group ps fs → ⊥) → None ≡ bound_at (step_in t s) → plain_left g f (step_in t s) n ≡ left_step bare g f (step_in t s) n)
      (λ b o ne q. absurd (unbound _ _ (step-let (reading t) b o) q (λ r. cc)))
      (λ b xs x d ne q. absurd (unbound _ _ (step-fn (reading t) b xs x d) q (λ r. cc)))
      (λ b d ne q. absurd (unbound _ _ (step-block (reading t) b d) q (λ r. cc)))
      (λ b d x c ne q. absurd (unbound _ _ (step-handle (reading t) b d x c) q (λ r. cc)))
      (λ x i a ne q. at-tree F G _ _ (step-exception (reading t) x i a) refl)
      (λ x y ne q. at-tree F G _ _ (step-name (reading t) x y) refl)
      (λ ps fs ne q. absurd (ne ps fs refl))
      (λ a u c others ne q. at-tree F G _ _ (step-test (reading t) a u c others) refl)
      (λ j ne q. at-tree F G _ _ (step-counted (reading t) j) refl)
      s ne b
    where
      F : StepTree poly → Seen
      F st = plain_left g f st n

      G : StepTree poly → Seen
      G st = left_step bare g f st n

  -- nothing is left plainly
  pub none-left : (s : Step) → ((x i : ℕ) (a : Option ℕ) → s ≡ step.Exception x i a → ⊥) → ((x : ℕ) (y : Exception) → s ≡ step.Name x y → ⊥)
      → ((a u : ℕ) (c : Case) (others : Vec Arm Global) → s ≡ step.Test a u c others → ⊥) → ((j : ℕ) → s ≡ step.Counted j → ⊥) → (g : Groups) (f : ℕ → Typ) (n : Seen) → n ≡ plain_left g f (step_in t s) n
  none-left s e m w c g f n =
      step-cases (λ s. ((x i : ℕ) (a : Option ℕ) → s ≡ step.Exception x i a → ⊥) → ((x : ℕ) (y : Exception) → s ≡ step.Name x y → ⊥) → ((a u : ℕ) (c : Case) (others : Vec Arm Global) → s ≡ step.Test a u c others → ⊥)
      → ((j : ℕ) → s ≡ step.Counted j → ⊥) → n ≡ plain_left g f (step_in t s) n)
      (λ b o e m w c. at-tree (λ st. n) G _ _ (step-let (reading t) b o) refl)
      (λ b xs x d e m w c. at-tree (λ st. n) G _ _ (step-fn (reading t) b xs x d) refl)
      (λ b d e m w c. at-tree (λ st. n) G _ _ (step-block (reading t) b d) refl)
      (λ b d x k e m w c. at-tree (λ st. n) G _ _ (step-handle (reading t) b d x k) refl)
      (λ x i a e m w c. absurd (e x i a refl))
      (λ x y e m w c. absurd (m x y refl))
      (λ ps fs e m w c. at-tree (λ st. n) G _ _ (step-group (reading t) ps fs) refl)
      (λ a u k others e m w c. absurd (w a u k others refl))
      (λ j e m w c. absurd (c j refl))
      s e m w c
    where
      G : StepTree poly → Seen
      G st = plain_left g f st n

  -- ne operation is bound
  pub none-acted : (s : Step) → ((b : Binding) (o : Operation) → s ≡ step.Let b o → ⊥) → ((b : Binding) (xs : Vec Parameter Global) (x : Parameter) (e : Box Exp Global) → s ≡ step.Fn b xs x e → ⊥)
      → ((b : Binding) (e : Box Exp Global) → s ≡ step.Block b e → ⊥) → ((b : Binding) (e : Box Exp Global) (x : ℕ) (d : Box Exp Global) → s ≡ step.Handle b e x d → ⊥)
      → (bare : Bool) (g : Groups) (f : ℕ → Typ) (n : Seen) → n ≡ acted bare g f (step_in t s) n
  none-acted s l k h d bare g f n =
      step-cases (λ s. ((b : Binding) (o : Operation) → s ≡ step.Let b o → ⊥) → ((b : Binding) (xs : Vec Parameter Global) (x : Parameter) (e : Box Exp Global) → s ≡ step.Fn b xs x e → ⊥)
      → ((b : Binding) (e : Box Exp Global) → s ≡ step.Block b e → ⊥) → ((b : Binding) (e : Box Exp Global) (x : ℕ) (d : Box Exp Global) → s ≡ step.Handle b e x d → ⊥) → n ≡ acted bare g f (step_in t s) n)
      (λ b o l k h d. absurd (l b o refl))
      (λ b xs x e l k h d. absurd (k b xs x e refl))
      (λ b e l k h d. absurd (h b e refl))
      (λ b e x c l k h d. absurd (d b e x c refl))
      (λ x i a l k h d. at-tree (λ st. n) G _ _ (step-exception (reading t) x i a) refl)
      (λ x y l k h d. at-tree (λ st. n) G _ _ (step-name (reading t) x y) refl)
      (λ ps fs l k h d. at-tree (λ st. n) G _ _ (step-group (reading t) ps fs) refl)
      (λ a u c others l k h d. at-tree (λ st. n) G _ _ (step-test (reading t) a u c others) refl)
      (λ j l k h d. at-tree (λ st. n) G _ _ (step-counted (reading t) j) refl)
      s l k h d
    where
      G : StepTree poly → Seen
      G st = acted bare g f st n
