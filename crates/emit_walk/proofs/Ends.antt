-- Ends of steps and of blocks, by the code's nodes.
use Rattle.std.proofs.Common.{◌≡◌, refl, ℕ, suc, ◌+◌, ◌-◌, ◌≤◌, List, [], ◌∷◌, ◌++◌, length, append-nil, map, take, drop, Vec, Box, Global, sym, ap, ◌∙◌, subst, get_or, arith}
use Rattle.std.proofs.lemmas.List.{drop_all, take_all}
use Rattle.ir_code.specs.declared.instr.Instr.{Instr}
use Rattle.ir_code.specs.declared.instr.Instr.TheVariants.{Acc, PushHandler}
use Rattle.mlc_prims.specs.declared.basis.BasisPrimitive.{BasisPrimitive}
use Rattle.first_tables.specs.declared.operation.Operands.{Operands}
use Rattle.first_tables.specs.TablesOf.{operands_of}
use Rattle.ir_ssa.specs.Tree as s
use Rattle.ssa_tree.specs.declared.tree.Body.{Body}
use Rattle.ssa_tree.specs.declared.tree.Step.{Step}
use Rattle.ssa_tree.specs.declared.tree.Step.TheVariants as step
use Rattle.ssa_tree.specs.TreeOf.{attempt_step, label_step, again_step, step_of, tree_of}
use Rattle.machine_code.specs.Rows.{AreRight, late_code}
use Rattle.machine_code.specs.Code.{Places, Scope, Spot, no_spot, left_by, slot, depth_in, guard_size, code_at}
use Rattle.emit_walk.specs.Walk.{Env, Kept, code_in, after, after_all, behind, behind_all, EndAll}
use Rattle.emit_walk.proofs.Parts.{kept-blocked, guard-whole, attempt-end}
use Rattle.emit_walk.proofs.Rolls.{attempt-at, label-at, again-at}
use Rattle.emit_walk.proofs.Turns.{end-code, end-scope}

module _ (at : Places) where
  pub labelled-by : {spot : Spot} (e : Env) (b : s.Body) (old new : List Instr) (spots : List Spot) → new ≡ old ++ code_at at e.pc e.depth e.scope spots b → spots ≡ spot ∷ e.spots
      → new ≡ old ++ code_at at e.pc e.depth e.scope (spot ∷ e.spots) b
  labelled-by e b old new spots hn hs = hn ∙ ap (λ z. old ++ code_at at e.pc e.depth e.scope z b) hs

  -- before the first of them
  pub ends-start-kept : (xs : List Step) (n : ℕ) (e f : Env) → n ≡ length xs → Kept (after_all at e (map step_of xs)) f → Kept (after_all at e (map step_of (take n xs))) f
  ends-start-kept xs n e f h = subst (λ l. Kept (after_all at e (map step_of l)) f) (sym (take_all n xs (omega (arith, h))))

  pub ends-start-code : (xs : List Step) (n : ℕ) (e : Env) (old : List Instr) (q : ℕ) → n ≡ length xs
      → old ≡ old ++ behind_all at (after_all at e (map step_of (take n xs))) (map step_of (drop n xs)) q
  ends-start-code xs n e old q h =
      sym (ap (λ l. old ++ behind_all at (after_all at e (map step_of (take n xs))) (map step_of l) q) (drop_all n xs (omega (arith, h))) ∙ append-nil old)

  pub ends-done-code : (xs : List Step) (left : ℕ) (e : Env) (old now : List Instr) → left ≤ 0
      → now ≡ old ++ behind_all at (after_all at e (map step_of (take left xs))) (map step_of (drop left xs)) (length old) → now ≡ old ++ behind_all at e (map step_of xs) (length old)
  ends-done-code xs left e old now le inv =
      let z : left ≡ 0 = omega (arith, le) in
      inv ∙ ap (λ n. old ++ behind_all at (after_all at e (map step_of (take n xs))) (map step_of (drop n xs)) (length old)) z

  pub ends-done-kept : (xs : List Step) (left : ℕ) (e f : Env) → left ≤ 0 → Kept (after_all at e (map step_of (take left xs))) f → Kept e f
  ends-done-kept xs left e f le k = let z : left ≡ 0 = omega (arith, le) in subst (λ n. Kept (after_all at e (map step_of (take n xs))) f) z k

  pub label-end-kept : (e f k : Env) (g : Step) (xs : Vec ℕ Global) (b : Box Body Global) (count : ℕ) → g ≡ step.Label xs b → Kept (after at e (step_of g)) f → count ≡ length xs.items
      → k.depth ≡ f.depth - count → k.scope ≡ drop count f.scope → k.spots ≡ f.spots → Kept e k
  label-end-kept e f k g xs b count is kept hc hd hs hl =
      let h = label_step xs.items (tree_of b.value) in
      let was = end-scope at (step_of g) h e f (label-at g xs b xs.items b.value is refl refl) kept in
      kept-blocked e f k xs.items was.depth was.scope (hd ∙ ap (λ z. f.depth - z) hc) (hs ∙ ap (λ z. drop z f.scope) hc) (hl ∙ was.spots)

  pub again-end-kept : (e f k : Env) (g : Step) (xs : Vec ℕ Global) (b : Box Body Global) (count : ℕ) → g ≡ step.Again xs b → Kept (after at e (step_of g)) f → count ≡ length xs.items
      → k.depth ≡ f.depth - count → k.scope ≡ drop count f.scope → k.spots ≡ drop 1 f.spots → Kept e k
  again-end-kept e f k g xs b count is kept hc hd hs hl =
      let h = again_step xs.items (tree_of b.value) in
      let was = end-scope at (step_of g) h e f (again-at g xs b xs.items b.value is refl refl) kept in
      kept-blocked e f k xs.items was.depth was.scope (hd ∙ ap (λ z. f.depth - z) hc) (hs ∙ ap (λ z. drop z f.scope) hc) (hl ∙ ap (drop 1) was.spots)

module _ (at : Places) (label : ℕ → ℕ) where
  pub ends-start-stand : (xs : List Step) (ns : List ℕ) (n : ℕ) (e : Env) (q : ℕ) → n ≡ length xs
      → EndAll at label (after_all at e (map step_of (take n xs))) (drop n ns) (map step_of (drop n xs)) q
  ends-start-stand xs ns n e q h =
      subst (λ l. EndAll at label (after_all at e (map step_of (take n xs))) (drop n ns) (map step_of l) q) (sym (drop_all n xs (omega (arith, h)))) tt

  pub ends-done-stand : (xs : List Step) (ns : List ℕ) (left : ℕ) (e : Env) (q : ℕ) → left ≤ 0
      → EndAll at label (after_all at e (map step_of (take left xs))) (drop left ns) (map step_of (drop left xs)) q → EndAll at label e ns (map step_of xs) q
  ends-done-stand xs ns left e q le h =
      let z : left ≡ 0 = omega (arith, le) in subst (λ n. EndAll at label (after_all at e (map step_of (take n xs))) (drop n ns) (map step_of (drop n xs)) q) z h

module _ (at : Places) (right : AreRight at.rows) where
  pub guard-bound : (e f : Env) (l y here d : ℕ) (scope : Scope) (a b : s.Body) (old inside mid new : List Instr) → e.pc ≡ length old → Kept e f
      → inside ≡ old ++ PushHandler (slot e.depth) (e.pc + 1 + guard_size at e.depth e.scope e.spots l a)
      ∷ code_at at (e.pc + 1) (e.depth + 3) e.scope (left_by e.depth (get_or e.spots l no_spot) ∷ []) a
      → here ≡ slot f.depth → mid ≡ inside ++ Acc here ∷ [] → d ≡ suc f.depth → scope ≡ (y, f.depth) ∷ f.scope
      → new ≡ mid ++ code_at at (length mid) d scope f.spots b → new ≡ old ++ code_in at e (s.guard l a y b)
  guard-bound e f l y here d scope a b old inside mid new he kept hi hh hm hd hs hn =
      guard-whole at right e f l y a b old inside mid new he kept hi (hm ∙ ap (λ z. inside ++ Acc z ∷ []) hh)
      (hn ∙ ap (λ z. mid ++ code_at at (length mid) z scope f.spots b) hd ∙ ap (λ z. mid ++ code_at at (length mid) (suc f.depth) z f.spots b) hs)

  pub attempt-end-code : (e f : Env) (g : Step) (k : Operands) (p : BasisPrimitive) (xs : Vec ℕ Global) (x : ℕ) (b : Box Body Global) (other : Body) (depth : ℕ) (old mid new : List Instr)
      → g ≡ step.Attempt k p xs x b → other ≡ b.value → Kept (after at e (step_of g)) f → depth ≡ depth_in x f.scope
      → mid ≡ old ++ late_code (at.rows.late (operands_of k) p) at.packet_at (slot depth) → new ≡ mid ++ code_at at (length mid) f.depth f.scope f.spots (tree_of other)
      → new ≡ old ++ behind at e (step_of g) (length old)
  attempt-end-code e f g k p xs x b other depth old mid new is hb kept hd hm hn =
      let h = attempt_step (operands_of k) p xs.items x (tree_of other) in
      let roll : step_of g ≡ h = attempt-at g k p xs x b xs.items is refl ∙ ap (λ z. attempt_step (operands_of k) p xs.items x (tree_of z)) (sym hb) in
      end-code at (step_of g) h e old new roll
      (attempt-end at right e f (operands_of k) p xs.items x depth (tree_of other) old mid new (end-scope at (step_of g) h e f roll kept) hd hm hn)
