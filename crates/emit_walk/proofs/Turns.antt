-- One part of a walk, by what its node stands for.
use Rattle.std.proofs.Common.{◌≡◌, ℕ, ◌+◌, List, ◌∷◌, ◌++◌, length, Result, Ok, Err, OnOk, sym, ap, ◌∙◌, subst}
use Rattle.ir_code.specs.declared.instr.Instr.{Instr}
use Rattle.ir_ssa.specs.Tree.{Body}
use Rattle.ssa_tree.specs.TreeOf.{StepTree, again_step}
use Rattle.machine_code.specs.Rows.{AreRight}
use Rattle.machine_code.specs.Code.{Places, Spot, with_params}
use Rattle.emit_walk.specs.Walk.{Env, Kept, code_in, spot_in, after, behind, before, Begins, Ends}
use Rattle.emit_walk.proofs.Parts.{blocked-scope}

pub on-both : {T E P Q R : Type 0} (r : Result T E) → (P → Q → R) → OnOk r P → OnOk r Q → OnOk r R
on-both (Ok x) f p q = f p q
on-both (Err e) f p q = tt

module _ (at : Places) where
  pub body-code : (b d : Body) (e : Env) (old new : List Instr) → b ≡ d → new ≡ old ++ code_in at e d → new ≡ old ++ code_in at e b
  body-code b d e old new is k = k ∙ ap (λ z. old ++ code_in at e z) (sym is)

  pub head-scope : (g h : StepTree) (e k : Env) → g ≡ h → Kept (after at e h) k → Kept (after at e g) k
  head-scope g h e k is = subst (λ z. Kept (after at e z) k) (sym is)

  pub end-code : (g h : StepTree) (e : Env) (old new : List Instr) → g ≡ h → new ≡ old ++ behind at e h (length old) → new ≡ old ++ behind at e g (length old)
  end-code g h e old new is k = k ∙ ap (λ z. old ++ behind at e z (length old)) (sym is)

  pub end-scope : (g h : StepTree) (e f : Env) → g ≡ h → Kept (after at e g) f → Kept (after at e h) f
  end-scope g h e f is = subst (λ z. Kept (after at e z) f) is

module _ (at : Places) (label : ℕ → ℕ) where
  pub head-code : (g h : StepTree) (e : Env) (n : ℕ) (old new : List Instr) → g ≡ h → new ≡ old ++ before at label e n h → new ≡ old ++ before at label e n g
  head-code g h e n old new is k = k ∙ ap (λ z. old ++ before at label e n z) (sym is)

  pub head-begins : (g h : StepTree) (e : Env) (n : ℕ) → g ≡ h → Begins at label e n h → Begins at label e n g
  head-begins g h e n is = subst (λ z. Begins at label e n z) (sym is)

  pub end-stands : (g h : StepTree) (e : Env) (n q : ℕ) → g ≡ h → Ends at label e n h q → Ends at label e n g q
  end-stands g h e n q is = subst (λ z. Ends at label e n z q) (sym is)

module _ (at : Places) (right : AreRight at.rows) (label : ℕ → ℕ) where
  -- a label that is also in its own block
  pub again-scope : (e f k : Env) (params : List ℕ) (spot : Spot) (d : Body) → Kept e f → spot ≡ spot_in at e d → k.depth ≡ f.depth + length params
      → k.scope ≡ with_params params f.depth f.scope → k.spots ≡ spot ∷ f.spots → Kept (after at e (again_step params d)) k
  again-scope e f k params spot d kept hs hd hp hl =
      blocked-scope at right label e f k params (spot_in at e d ∷ e.spots) d kept hd hp (hl ∙ ap (λ z. z ∷ f.spots) hs ∙ ap (λ z. spot_in at e d ∷ z) kept.spots)
