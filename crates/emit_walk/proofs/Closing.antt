-- How far a walk comes with what stands behind the rest of a body, by what the code has of a step.
use Rattle.std.proofs.Common.{◌≡◌, refl, ℕ, ◌-◌, List, ◌++◌, length, map, drop, Bool, true, Vec, Box, Global, sym, ap, ◌∙◌, get_or, ⊎_elim}
use Rattle.std.specs.Prelude.{◌⊎◌}
use Rattle.std.proofs.Math.ListN.{set}
use Rattle.mlc_base.specs.declared.place.Place.{Place}
use Rattle.mlc_prims.specs.declared.basis.BasisPrimitive.{BasisPrimitive}
use Rattle.first_values.specs.Equality.{Shape}
use Rattle.first_tables.specs.declared.operation.Plain.{Plain}
use Rattle.first_tables.specs.declared.operation.Operands.{Operands}
use Rattle.first_tables.specs.declared.operation.Test.{Test}
use Rattle.first_tables.specs.declared.operation.Callee.{Callee}
use Rattle.first_tables.specs.declared.operation.Piece.{Piece}
use Rattle.first_tables.specs.TablesOf.{plain_of, operands_of, test_of, callee_of, piece_of}
use Rattle.ssa_tree.specs.declared.tree.Body.{Body}
use Rattle.ssa_tree.specs.declared.tree.Step.{Step}
use Rattle.ssa_tree.specs.declared.tree.Step.TheVariants as step
use Rattle.ssa_tree.specs.TreeOf.{StepTree, plain_step, make_step, call_step, attempt_step, turn_step, label_step, again_step, when_step, unless_step, step_of, tree_of}
use Rattle.machine_code.specs.Rows.{later}
use Rattle.machine_rows.specs.Table.{rows}
use Rattle.walk_labels.specs.Labels.{Frame, closed, ended, entered, number_of, opened}
use Rattle.walk_labels.specs.Marks.{Mark, Foretold, labels_at, past_body, past_end}
use Rattle.walk_labels.proofs.MarkSteps.{attempt-told, end-attempt, end-plain, end-when, unblocked, unbound, unlabelled, when-told}
use Rattle.walk_labels.proofs.MarkBlocks.{end-settled}
use Rattle.emit_walk.proofs.Rolls.{again-at, attempt-at, call-at, label-at, make-at, plain-at, turn-at, unless-at, when-at}

module _ (types : List Shape) (g : Step) (front back : List ℕ) (pc : ℕ) (f : Frame) (m0 : Mark) (hf : m0.frame ≡ entered f (step_of g))
    (hl : m0.found ≡ front ++ (opened rows types pc f (step_of g) ++ back)) where
  -- A step with a variable, which leaves its scope.

  plain-ends : (p : Plain) (xs : Vec ℕ Global) (x : ℕ) (m1 : Mark) → g ≡ step.Plain p xs x → m1.place ≡ m0.place → m1.frame.depth ≡ m0.frame.depth - 1
      → m1.frame.scope ≡ drop 1 m0.frame.scope → m1.frame.exits ≡ m0.frame.exits → m1.found ≡ m0.found
      → m1 ≡ past_end rows types front back pc m0.place f (step_of g)
  plain-ends p xs x m1 is kp kd ks ke kl =
      let h = plain_step (plain_of p) xs.items x in
      let tree : step_of g ≡ h = plain-at g p xs x xs.items is refl in
      end-plain rows types (step_of g) h front back pc f m0 tree hf hl m1 refl refl refl kp
      (unbound f m0.frame m1.frame x (hf ∙ ap (entered f) tree) kd ks ke) kl

  make-ends : (t : ℕ) (ps : Vec Piece Global) (x : ℕ) (m1 : Mark) → g ≡ step.Make t ps x → m1.place ≡ m0.place → m1.frame.depth ≡ m0.frame.depth - 1
      → m1.frame.scope ≡ drop 1 m0.frame.scope → m1.frame.exits ≡ m0.frame.exits → m1.found ≡ m0.found
      → m1 ≡ past_end rows types front back pc m0.place f (step_of g)
  make-ends t ps x m1 is kp kd ks ke kl =
      let h = make_step t (map piece_of ps.items) x in
      let tree : step_of g ≡ h = make-at g t ps x ps.items is refl in
      end-plain rows types (step_of g) h front back pc f m0 tree hf hl m1 refl refl refl kp
      (unbound f m0.frame m1.frame x (hf ∙ ap (entered f) tree) kd ks ke) kl

  call-ends : (p : Place) (c : Callee) (xs : Vec ℕ Global) (x : ℕ) (m1 : Mark) → g ≡ step.Call p c xs x → m1.place ≡ m0.place → m1.frame.depth ≡ m0.frame.depth - 1
      → m1.frame.scope ≡ drop 1 m0.frame.scope → m1.frame.exits ≡ m0.frame.exits → m1.found ≡ m0.found
      → m1 ≡ past_end rows types front back pc m0.place f (step_of g)
  call-ends p c xs x m1 is kp kd ks ke kl =
      let h = call_step p (callee_of c) xs.items x in
      let tree : step_of g ≡ h = call-at g p c xs x xs.items is refl in
      end-plain rows types (step_of g) h front back pc f m0 tree hf hl m1 refl refl refl kp
      (unbound f m0.frame m1.frame x (hf ∙ ap (entered f) tree) kd ks ke) kl

  pub variable-ends : (m1 : Mark) → ((p : Plain) × (xs : Vec ℕ Global) × (x : ℕ) × (g ≡ step.Plain p xs x))
      ⊎ (((t : ℕ) × (ps : Vec Piece Global) × (x : ℕ) × (g ≡ step.Make t ps x)) ⊎ ((p : Place) × (c : Callee) × (xs : Vec ℕ Global) × (x : ℕ) × (g ≡ step.Call p c xs x)))
      → m1.place ≡ m0.place → m1.frame.depth ≡ m0.frame.depth - 1 → m1.frame.scope ≡ drop 1 m0.frame.scope → m1.frame.exits ≡ m0.frame.exits → m1.found ≡ m0.found
      → m1 ≡ past_end rows types front back pc m0.place f (step_of g)
  variable-ends m1 is kp kd ks ke kl =
      ⊎_elim (λ z. plain-ends z.0 z.1 z.2 m1 z.3 kp kd ks ke kl)
      (λ other. ⊎_elim (λ z. make-ends z.0 z.1 z.2 m1 z.3 kp kd ks ke kl) (λ z. call-ends z.0 z.1 z.2 z.3 m1 z.4 kp kd ks ke kl) other) is

  turn-ends : (p : Place) (m1 : Mark) → g ≡ step.Turn p → m1.place ≡ m0.place → m1.frame ≡ m0.frame → m1.found ≡ m0.found
      → m1 ≡ past_end rows types front back pc m0.place f (step_of g)
  turn-ends p m1 is kp kf kl =
      let tree : step_of g ≡ turn_step p = turn-at g p is in
      end-plain rows types (step_of g) (turn_step p) front back pc f m0 tree hf hl m1 refl refl refl kp (kf ∙ hf ∙ ap (entered f) tree) kl

  unless-ends : (q : Test) (xs : Vec ℕ Global) (b : Box Body Global) (m1 : Mark) → g ≡ step.Unless q xs b → m1.place ≡ m0.place → m1.frame ≡ m0.frame
      → m1.found ≡ m0.found → m1 ≡ past_end rows types front back pc m0.place f (step_of g)
  unless-ends q xs b m1 is kp kf kl =
      let h = unless_step (test_of q) xs.items (tree_of b.value) in
      let tree : step_of g ≡ h = unless-at g q xs b xs.items b.value is refl refl in
      end-plain rows types (step_of g) h front back pc f m0 tree hf hl m1 refl refl refl kp (kf ∙ hf ∙ ap (entered f) tree) kl

  pub same-ends : (m1 : Mark) → ((p : Place) × (g ≡ step.Turn p)) ⊎ ((q : Test) × (xs : Vec ℕ Global) × (b : Box Body Global) × (g ≡ step.Unless q xs b))
      → m1.place ≡ m0.place → m1.frame ≡ m0.frame → m1.found ≡ m0.found → m1 ≡ past_end rows types front back pc m0.place f (step_of g)
  same-ends m1 is kp kf kl = ⊎_elim (λ z. turn-ends z.0 m1 z.1 kp kf kl) (λ z. unless-ends z.0 z.1 z.2 m1 z.3 kp kf kl) is

  -- A block, whose parameters leave their scope.
  pub label-ends : (xs : Vec ℕ Global) (b : Box Body Global) (n : ℕ) (m1 : Mark) → g ≡ step.Label xs b → n ≡ length xs.items → m1.place ≡ m0.place
      → m1.frame.depth ≡ m0.frame.depth - n → m1.frame.scope ≡ drop n m0.frame.scope → m1.frame.exits ≡ m0.frame.exits → m1.found ≡ m0.found
      → m1 ≡ past_end rows types front back pc m0.place f (step_of g)
  label-ends xs b n m1 is hn kp kd ks ke kl =
      let h = label_step xs.items (tree_of b.value) in
      let tree : step_of g ≡ h = label-at g xs b xs.items b.value is refl refl in
      end-plain rows types (step_of g) h front back pc f m0 tree hf hl m1 refl refl refl kp
      (unblocked f m0.frame m1.frame xs.items n (hf ∙ ap (entered f) tree) hn kd ks ke) kl

  pub again-ends : (xs : Vec ℕ Global) (b : Box Body Global) (n : ℕ) (m1 : Mark) → g ≡ step.Again xs b → n ≡ length xs.items → m1.place ≡ m0.place
      → m1.frame.depth ≡ m0.frame.depth - n → m1.frame.scope ≡ drop n m0.frame.scope → m1.frame.exits ≡ drop 1 m0.frame.exits → m1.found ≡ m0.found
      → m1 ≡ past_end rows types front back pc m0.place f (step_of g)
  again-ends xs b n m1 is hn kp kd ks ke kl =
      let h = again_step xs.items (tree_of b.value) in
      let tree : step_of g ≡ h = again-at g xs b xs.items b.value is refl refl in
      end-plain rows types (step_of g) h front back pc f m0 tree hf hl m1 refl refl refl kp
      (unlabelled f m0.frame m1.frame xs.items n (hf ∙ ap (entered f) tree) hn kd ks ke) kl

  module _ (n : ℕ) (hn : n ≡ number_of (length front) (step_of g)) where
    -- A primitive that may raise.
    module _ (k : Operands) (p : BasisPrimitive) (xs : Vec ℕ Global) (x : ℕ) (b : Box Body Global) (other : Body) (is : g ≡ step.Attempt k p xs x b)
        (ho : other ≡ b.value) where
      abbrev attempted : StepTree
      attempted = attempt_step (operands_of k) p xs.items x (tree_of other)

      attempt-tree : step_of g ≡ attempted
      attempt-tree = attempt-at g k p xs x b xs.items is refl ∙ ap (λ z. attempt_step (operands_of k) p xs.items x (tree_of z)) (sym ho)

      pub attempt-settles : (sure : Bool) (all : List ℕ) → Foretold sure all (length front) (closed rows types m0.place pc f (step_of g)) → sure ≡ true
          → get_or all n 0 ≡ m0.place
      attempt-settles = end-settled rows types (step_of g) attempted front pc m0.place n f attempt-tree hn refl refl

      module _ (m1 : Mark) (kp : m1.place ≡ later (rows.late (operands_of k) p) m0.place) (kf : m1.frame ≡ m0.frame) (kl : m1.found ≡ set m0.found n m0.place) where
        pub attempt-asks : (sure : Bool) (all : List ℕ) → Foretold sure all (length m0.found) (ended rows types m0.place f (step_of g))
            → Foretold sure all (length m1.found) (labels_at rows types m1 (tree_of other))
        attempt-asks =
            attempt-told rows types (step_of g) (operands_of k) p xs.items x (tree_of other) front back pc n f m0 m1 attempt-tree hf hl hn kp kf kl

        pub attempt-ends : (m2 m3 : Mark) → m2 ≡ past_body rows types (tree_of other) m1 → m3.place ≡ m2.place → m3.frame.depth ≡ m2.frame.depth - 1
            → m3.frame.scope ≡ drop 1 m2.frame.scope → m3.frame.exits ≡ m2.frame.exits → m3.found ≡ m2.found
            → m3 ≡ past_end rows types front back pc m0.place f (step_of g)
        attempt-ends =
            end-attempt rows types (step_of g) (operands_of k) p xs.items x (tree_of other) front back pc n f m0 m1 attempt-tree hf hl hn kp kf kl

    -- A test.
    module _ (q : Test) (xs : Vec ℕ Global) (b : Box Body Global) (other : Body) (is : g ≡ step.When q xs b) (ho : other ≡ b.value) where
      abbrev tested : StepTree
      tested = when_step (test_of q) xs.items (tree_of other)

      when-tree : step_of g ≡ tested
      when-tree = when-at g q xs b xs.items other is refl ho

      pub when-settles : (sure : Bool) (all : List ℕ) → Foretold sure all (length front) (closed rows types m0.place pc f (step_of g)) → sure ≡ true
          → get_or all n 0 ≡ m0.place
      when-settles = end-settled rows types (step_of g) tested front pc m0.place n f when-tree hn refl refl

      module _ (m1 : Mark) (kp : m1.place ≡ m0.place) (kf : m1.frame ≡ m0.frame) (kl : m1.found ≡ set m0.found n m0.place) where
        pub when-asks : (sure : Bool) (all : List ℕ) → Foretold sure all (length m0.found) (ended rows types m0.place f (step_of g))
            → Foretold sure all (length m1.found) (labels_at rows types m1 (tree_of other))
        when-asks = when-told rows types (step_of g) (test_of q) xs.items (tree_of other) front back pc n f m0 m1 when-tree hf hl hn kp kf kl

        pub when-ends : (m2 : Mark) → m2 ≡ past_body rows types (tree_of other) m1 → m2 ≡ past_end rows types front back pc m0.place f (step_of g)
        when-ends = end-when rows types (step_of g) (test_of q) xs.items (tree_of other) front back pc n f m0 m1 when-tree hf hl hn kp kf kl
