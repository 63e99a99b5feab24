-- How far a walk comes with what stands before the rest of a body, by what the code has of a step.
use Rattle.std.proofs.Common.{◌≡◌, refl, ℕ, suc, ◌+◌, List, [], ◌∷◌, ◌++◌, length, map, Bool, true, Vec, Box, Global, sym, ap, ◌∙◌, get_or}
use Rattle.std.proofs.Math.ListN.{set}
use Rattle.mlc_base.specs.declared.place.Place.{Place}
use Rattle.mlc_prims.specs.declared.basis.BasisPrimitive.{BasisPrimitive}
use Rattle.first_values.specs.Equality.{Shape}
use Rattle.first_tables.specs.declared.operation.Plain.{Plain}
use Rattle.first_tables.specs.declared.operation.Operands.{Operands}
use Rattle.first_tables.specs.declared.operation.Test.{Test}
use Rattle.first_tables.specs.declared.operation.Callee.{Callee}
use Rattle.first_tables.specs.declared.operation.Piece.{Piece}
use Rattle.first_tables.specs.TablesOf.{plain_of, operands_of, test_of, callee_of, piece_of}
use Rattle.ssa_tree.specs.declared.tree.Body.{Body}
use Rattle.ssa_tree.specs.declared.tree.Step.{Step}
use Rattle.ssa_tree.specs.declared.tree.Step.TheVariants as step
use Rattle.ssa_tree.specs.TreeOf.{StepTree, plain_step, make_step, call_step, attempt_step, turn_step, label_step, again_step, when_step, unless_step, step_of, tree_of}
use Rattle.machine_code.specs.Code.{Spot, callee_count, exit_at, exit_of, exits_of, make_size, plain_size, test_size, with_params}
use Rattle.machine_rows.specs.Table.{rows}
use Rattle.walk_labels.specs.Labels.{blocked, bound, closed, number_of}
use Rattle.walk_labels.specs.Marks.{Mark, Foretold, labels_at, own_labels, past_body, past_head, past_labelled}
use Rattle.walk_labels.proofs.Marks.{fore-same, frame-is}
use Rattle.walk_labels.proofs.MarkSteps.{exits-push, head-again, head-label, head-plain, head-unless, head-walked, unless-told}
use Rattle.walk_labels.proofs.MarkBlocks.{unless-settled}
use Rattle.emit_walk.proofs.Rolls.{again-at, attempt-at, call-at, label-at, make-at, plain-at, turn-at, unless-at, when-at}

module _ (types : List Shape) (g : Step) (m0 : Mark) where
  -- A step that gives a variable.
  module _ (x : ℕ) (m1 : Mark) (hd : m1.frame.depth ≡ suc m0.frame.depth) (hs : m1.frame.scope ≡ (x, m0.frame.depth) ∷ m0.frame.scope)
      (he : m1.frame.exits ≡ m0.frame.exits) where
    is-bound : m1.frame ≡ bound x m0.frame
    is-bound = frame-is m1.frame (bound x m0.frame) hd hs he

    pub plain-begins : (p : Plain) (xs : Vec ℕ Global) → g ≡ step.Plain p xs x → m1.place ≡ m0.place + plain_size rows types (plain_of p) → m1.found ≡ m0.found
        → m1 ≡ past_head rows types (step_of g) m0
    plain-begins p xs is hp hl =
        head-plain rows types (step_of g) (plain_step (plain_of p) xs.items x) m0 m1 (plain-at g p xs x xs.items is refl) refl hp is-bound hl

    pub make-begins : (t : ℕ) (ps : Vec Piece Global) (qs : List Piece) → g ≡ step.Make t ps x → qs ≡ ps.items → m1.place ≡ m0.place + make_size t (map piece_of qs)
        → m1.found ≡ m0.found → m1 ≡ past_head rows types (step_of g) m0
    make-begins t ps qs is hq hp hl =
        head-plain rows types (step_of g) (make_step t (map piece_of qs) x) m0 m1 (make-at g t ps x qs is hq) refl hp is-bound hl

    pub call-begins : (p : Place) (c : Callee) (xs : Vec ℕ Global) (ys : List ℕ) → g ≡ step.Call p c xs x → ys ≡ xs.items
        → m1.place ≡ m0.place + (callee_count (callee_of c) (length ys) + 2) → m1.found ≡ m0.found → m1 ≡ past_head rows types (step_of g) m0
    call-begins p c xs ys is hy hp hl =
        head-plain rows types (step_of g) (call_step p (callee_of c) ys x) m0 m1 (call-at g p c xs x ys is hy) refl hp is-bound hl

    module _ (k : Operands) (p : BasisPrimitive) (xs : Vec ℕ Global) (b : Box Body Global) (is : g ≡ step.Attempt k p xs x b) where
      pub attempt-begins : m1.place ≡ m0.place + rows.size (operands_of k) p → m1.found ≡ m0.found ++ 0 ∷ [] → m1 ≡ past_head rows types (step_of g) m0
      attempt-begins hp hl =
          head-walked rows types (step_of g) (attempt_step (operands_of k) p xs.items x (tree_of b.value)) m0 m1 (attempt-at g k p xs x b xs.items is refl) hp is-bound hl

  pub attempt-numbered : (n : ℕ) (k : Operands) (p : BasisPrimitive) (xs : Vec ℕ Global) (x : ℕ) (b : Box Body Global) → g ≡ step.Attempt k p xs x b
      → n ≡ length m0.found → n ≡ number_of (length m0.found) (step_of g)
  attempt-numbered n k p xs x b is h = h ∙ ap (number_of (length m0.found)) (sym (attempt-at g k p xs x b xs.items is refl))

  pub turn-begins : (p : Place) (m1 : Mark) → g ≡ step.Turn p → m1.place ≡ m0.place + 1 → m1.frame ≡ m0.frame → m1.found ≡ m0.found
      → m1 ≡ past_head rows types (step_of g) m0
  turn-begins p m1 is hp hf hl = head-plain rows types (step_of g) (turn_step p) m0 m1 (turn-at g p is) refl hp hf hl

  -- A block.
  module _ (xs : Vec ℕ Global) (b : Box Body Global) (d : Body) (is : g ≡ step.Label xs b) (hd : d ≡ b.value) where
    label-tree : step_of g ≡ label_step xs.items (tree_of d)
    label-tree = label-at g xs b xs.items d is refl hd

    pub label-begins : (ys : List ℕ) (m1 m2 : Mark) → ys ≡ xs.items → m1 ≡ past_labelled rows types (tree_of d) m0 → m2.place ≡ m1.place
        → m2.frame.depth ≡ m1.frame.depth + length ys → m2.frame.scope ≡ with_params ys m1.frame.depth m1.frame.scope → m2.frame.exits ≡ m1.frame.exits
        → m2.found ≡ m1.found → m2 ≡ past_head rows types (step_of g) m0
    label-begins ys m1 m2 hy h1 hp kd ks ke hl =
        head-label rows types (step_of g) ys (tree_of d) m0 m1 m2 (label-at g xs b ys d is hy hd) h1 hp (frame-is m2.frame (blocked ys m1.frame) kd ks ke) hl

    pub label-asks : (sure : Bool) (all : List ℕ) (q : ℕ) → Foretold sure all (length m0.found) (closed rows types q m0.place m0.frame (step_of g))
        → Foretold sure all (length m0.found) (own_labels rows types m0 (tree_of d))
    label-asks sure all q told = fore-same sure all (length m0.found) _ _ (ap (closed rows types q m0.place m0.frame) label-tree) told

  module _ (xs : Vec ℕ Global) (b : Box Body Global) (d : Body) (is : g ≡ step.Again xs b) (hd : d ≡ b.value) where
    again-tree : step_of g ≡ again_step xs.items (tree_of d)
    again-tree = again-at g xs b xs.items d is refl hd

    pub again-begins : (ys : List ℕ) (m1 m2 : Mark) (spots more : List Spot) (spot : Spot) → ys ≡ xs.items → m1 ≡ past_labelled rows types (tree_of d) m0
        → m2.place ≡ m1.place → m2.frame.depth ≡ m1.frame.depth + length ys → m2.frame.scope ≡ with_params ys m1.frame.depth m1.frame.scope
        → m1.frame.exits ≡ exits_of spots → m2.frame.exits ≡ exits_of more → more ≡ spot ∷ spots → exit_of spot ≡ exit_at m0.frame.depth → m2.found ≡ m1.found
        → m2 ≡ past_head rows types (step_of g) m0
    again-begins ys m1 m2 spots more spot hy h1 hp kd ks e1 e2 hm hx hl =
        head-again rows types (step_of g) ys (tree_of d) m0 m1 m2 (again-at g xs b ys d is hy hd) h1 hp kd ks
        (e2 ∙ exits-push more spots spot hm ∙ ap (λ z. z ∷ exits_of spots) hx ∙ ap (λ z. exit_at m0.frame.depth ∷ z) (sym e1)) hl

    pub again-asks : (sure : Bool) (all : List ℕ) (q : ℕ) → Foretold sure all (length m0.found) (closed rows types q m0.place m0.frame (step_of g))
        → Foretold sure all (length m0.found) (own_labels rows types m0 (tree_of d))
    again-asks sure all q told = fore-same sure all (length m0.found) _ _ (ap (closed rows types q m0.place m0.frame) again-tree) told

  -- Tests.
  module _ (q : Test) (xs : Vec ℕ Global) (b : Box Body Global) (is : g ≡ step.When q xs b) where
    when-tree : step_of g ≡ when_step (test_of q) xs.items (tree_of b.value)
    when-tree = when-at g q xs b xs.items b.value is refl refl

    pub when-begins : (m1 : Mark) → m1.place ≡ m0.place + test_size rows types (test_of q) → m1.frame ≡ m0.frame → m1.found ≡ m0.found ++ 0 ∷ []
        → m1 ≡ past_head rows types (step_of g) m0
    when-begins m1 hp hf hl = head-walked rows types (step_of g) (when_step (test_of q) xs.items (tree_of b.value)) m0 m1 when-tree hp hf hl

    pub when-numbered : (n : ℕ) → n ≡ length m0.found → n ≡ number_of (length m0.found) (step_of g)
    when-numbered n h = h ∙ ap (number_of (length m0.found)) (sym when-tree)

  module _ (q : Test) (xs : Vec ℕ Global) (b : Box Body Global) (d : Body) (n : ℕ) (m1 : Mark) (is : g ≡ step.Unless q xs b) (hd : d ≡ b.value)
      (hn : n ≡ length m0.found) (hp : m1.place ≡ m0.place + test_size rows types (test_of q)) (hf : m1.frame ≡ m0.frame) (hl : m1.found ≡ m0.found ++ 0 ∷ []) where
    unless-tree : step_of g ≡ unless_step (test_of q) xs.items (tree_of d)
    unless-tree = unless-at g q xs b xs.items d is refl hd

    pub unless-begins : (m2 m3 : Mark) → m2 ≡ past_body rows types (tree_of d) m1 → m3.place ≡ m2.place → m3.frame ≡ m2.frame
        → m3.found ≡ set m2.found n m2.place → m3 ≡ past_head rows types (step_of g) m0
    unless-begins m2 m3 h2 kp kf kl =
        head-unless rows types (step_of g) (test_of q) xs.items (tree_of d) m0 m1 unless-tree hp hf hl m2 m3 h2 kp kf (kl ∙ ap (λ z. set m2.found z m2.place) hn)

    pub unless-asks : (sure : Bool) (all : List ℕ) (p : ℕ) → Foretold sure all (length m0.found) (closed rows types p m0.place m0.frame (step_of g))
        → Foretold sure all (length m1.found) (labels_at rows types m1 (tree_of d))
    unless-asks = unless-told rows types (step_of g) (test_of q) xs.items (tree_of d) m0 m1 unless-tree hp hf hl

    pub unless-settles : (sure : Bool) (all : List ℕ) (p : ℕ) → Foretold sure all (length m0.found) (closed rows types p m0.place m0.frame (step_of g)) → (m2 : Mark)
        → m2 ≡ past_body rows types (tree_of d) m1 → sure ≡ true → get_or all n 0 ≡ m2.place
    unless-settles sure all p told m2 h2 s =
        ap (λ z. get_or all z 0) hn
        ∙ unless-settled rows types (step_of g) (test_of q) xs.items (tree_of d) m0 m1 unless-tree hp hf hl sure all p told m2 h2 s

-- Steps that have no label behind the rest.
module _ (n : ℕ) (g : Step) where
  none : (h : StepTree) → step_of g ≡ h → number_of n h ≡ 0 → 0 ≡ number_of n (step_of g)
  none h is z = sym z ∙ ap (number_of n) (sym is)

  pub plain-numbered : (p : Plain) (xs : Vec ℕ Global) (x : ℕ) → g ≡ step.Plain p xs x → 0 ≡ number_of n (step_of g)
  plain-numbered p xs x is = none (plain_step (plain_of p) xs.items x) (plain-at g p xs x xs.items is refl) refl

  pub make-numbered : (t : ℕ) (ps : Vec Piece Global) (x : ℕ) → g ≡ step.Make t ps x → 0 ≡ number_of n (step_of g)
  make-numbered t ps x is = none (make_step t (map piece_of ps.items) x) (make-at g t ps x ps.items is refl) refl

  pub call-numbered : (p : Place) (c : Callee) (xs : Vec ℕ Global) (x : ℕ) → g ≡ step.Call p c xs x → 0 ≡ number_of n (step_of g)
  call-numbered p c xs x is = none (call_step p (callee_of c) xs.items x) (call-at g p c xs x xs.items is refl) refl

  pub turn-numbered : (p : Place) → g ≡ step.Turn p → 0 ≡ number_of n (step_of g)
  turn-numbered p is = none (turn_step p) (turn-at g p is) refl

  pub label-numbered : (xs : Vec ℕ Global) (b : Box Body Global) → g ≡ step.Label xs b → 0 ≡ number_of n (step_of g)
  label-numbered xs b is = none (label_step xs.items (tree_of b.value)) (label-at g xs b xs.items b.value is refl refl) refl

  pub again-numbered : (xs : Vec ℕ Global) (b : Box Body Global) → g ≡ step.Again xs b → 0 ≡ number_of n (step_of g)
  again-numbered xs b is = none (again_step xs.items (tree_of b.value)) (again-at g xs b xs.items b.value is refl refl) refl

  pub unless-numbered : (q : Test) (xs : Vec ℕ Global) (b : Box Body Global) → g ≡ step.Unless q xs b → 0 ≡ number_of n (step_of g)
  unless-numbered q xs b is = none (unless_step (test_of q) xs.items (tree_of b.value)) (unless-at g q xs b xs.items b.value is refl refl) refl
