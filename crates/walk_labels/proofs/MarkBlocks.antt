-- How far a walk comes with a body whose label, or whose handler, stands behind it; and where labels are to stand that are behind what was walked.
use Rattle.std.proofs.Common.{◌≡◌, refl, ℕ, ◌+◌, List, [], ◌∷◌, ◌++◌, length, Bool, true, sym, ap, ◌∙◌, subst, append_assoc, length-append, get_or}
use Rattle.std.proofs.Math.ListN.{set}
use Rattle.first_values.specs.Equality.{Shape}
use Rattle.first_values.specs.Operations.{Test}
use Rattle.ir_ssa.specs.Tree.{Body}
use Rattle.ssa_tree.specs.TreeOf.{StepTree, unless_step}
use Rattle.machine_code.specs.Rows.{Rows}
use Rattle.machine_code.specs.Code.{test_size}
use Rattle.walk_labels.specs.Labels.{Frame, guarded, labelled, size_of, labels, closed, number_of}
use Rattle.walk_labels.specs.Marks.{Mark, Foretold, guarded_labels, labels_at, own_labels, past_body, past_guarded}
use Rattle.walk_labels.proofs.Told.{told-first}
use Rattle.walk_labels.proofs.Walks.{settled}
use Rattle.walk_labels.proofs.Marks.{fore-right, fore-same, mark-is}

abbrev place_in : Mark → ℕ
place_in m = m.place

abbrev found_in : Mark → List ℕ
found_in m = m.found

module _ (rows : Rows) (types : List Shape) where
  -- A body that is walked from here on, with a label whose place comes behind it.
  module _ (b : Body) (m1 start : Mark) (old : List ℕ) (same : m1 ≡ start) (hl : start.found ≡ old ++ 0 ∷ []) where
    abbrev far : ℕ
    far = start.place + size_of rows types start.frame b

    pub inner-told : (sure : Bool) (all : List ℕ) → Foretold sure all (length old) (far ∷ labels_at rows types start b) → Foretold sure all (length m1.found) (labels_at rows types m1 b)
    inner-told sure all told =
        subst (λ (z : Mark). Foretold sure all (length z.found) (labels_at rows types z b)) (sym same)
        (fore-right sure all (length old) (length start.found) (far ∷ []) (labels_at rows types start b) (ap length hl ∙ length-append old (0 ∷ [])) told)

    pub inner-settled : (sure : Bool) (all : List ℕ) → Foretold sure all (length old) (far ∷ labels_at rows types start b) → (m2 : Mark) → m2 ≡ past_body rows types b m1
        → sure ≡ true → get_or all (length old) 0 ≡ m2.place
    inner-settled sure all told m2 h2 s =
        told-first all (length old) far (labels_at rows types start b) (told s) ∙ sym (ap place_in (h2 ∙ ap (past_body rows types b) same))

  -- With a label around.
  module _ (b : Body) (m0 m1 : Mark) (hp : m1.place ≡ m0.place) (hf : m1.frame ≡ labelled m0.frame) (hl : m1.found ≡ m0.found ++ 0 ∷ []) where
    abbrev in_label : Mark
    in_label = record { place = m0.place; frame = labelled m0.frame; found = m0.found ++ 0 ∷ [] }

    pub labelled-told : (sure : Bool) (all : List ℕ) → Foretold sure all (length m0.found) (own_labels rows types m0 b)
        → Foretold sure all (length m1.found) (labels_at rows types m1 b)
    labelled-told = inner-told b m1 in_label m0.found (mark-is m1 in_label hp hf hl) refl

    pub labelled-settled : (sure : Bool) (all : List ℕ) → Foretold sure all (length m0.found) (own_labels rows types m0 b) → (m2 : Mark)
        → m2 ≡ past_body rows types b m1 → sure ≡ true → get_or all (length m0.found) 0 ≡ m2.place
    labelled-settled = inner-settled b m1 in_label m0.found (mark-is m1 in_label hp hf hl) refl

  -- Under a handler.
  module _ (l : ℕ) (a : Body) (m0 m1 : Mark) (hp : m1.place ≡ m0.place + 1) (hf : m1.frame ≡ guarded l m0.frame) (hl : m1.found ≡ m0.found ++ 0 ∷ []) where
    abbrev under : Mark
    under = record { place = m0.place + 1; frame = guarded l m0.frame; found = m0.found ++ 0 ∷ [] }

    pub under-told : (sure : Bool) (all : List ℕ) → Foretold sure all (length m0.found) (guarded_labels rows types l m0 a)
        → Foretold sure all (length m1.found) (labels_at rows types m1 a)
    under-told = inner-told a m1 under m0.found (mark-is m1 under hp hf hl) refl

    pub under-settled : (sure : Bool) (all : List ℕ) → Foretold sure all (length m0.found) (guarded_labels rows types l m0 a) → (m2 : Mark)
        → m2 ≡ past_body rows types a m1 → sure ≡ true → get_or all (length m0.found) 0 ≡ m2.place
    under-settled = inner-settled a m1 under m0.found (mark-is m1 under hp hf hl) refl

    pub under-walked : (m2 m3 : Mark) → m2 ≡ past_body rows types a m1 → m3.place ≡ m2.place → m3.frame ≡ m0.frame
        → m3.found ≡ set m2.found (length m0.found) m2.place → m3 ≡ past_guarded rows types l a m0
    under-walked m2 m3 h2 kp kf kl =
        let second : m2 ≡ past_body rows types a under = h2 ∙ ap (past_body rows types a) (mark-is m1 under hp hf hl) in
        let own = labels rows types (m0.place + 1) (guarded l m0.frame) a in
        mark-is m3 (past_guarded rows types l a m0) (kp ∙ ap place_in second) kf
        (settled m0.found own m2.found m3.found 0 (length m0.found) m2.place (ap found_in second ∙ append_assoc m0.found (0 ∷ []) own) refl kl
        ∙ ap (λ z. m0.found ++ (z ∷ own)) (ap place_in second))

  -- Where a test doesn't hold.
  pub unless-settled : (g : StepTree) (t : Test) (xs : List ℕ) (d : Body) (m0 m1 : Mark) → g ≡ unless_step t xs d → m1.place ≡ m0.place + test_size rows types t
      → m1.frame ≡ m0.frame → m1.found ≡ m0.found ++ 0 ∷ [] → (sure : Bool) (all : List ℕ) (q : ℕ)
      → Foretold sure all (length m0.found) (closed rows types q m0.place m0.frame g) → (m2 : Mark) → m2 ≡ past_body rows types d m1
      → sure ≡ true → get_or all (length m0.found) 0 ≡ m2.place
  unless-settled g t xs d m0 m1 is hp hf hl sure all q told =
      let tested : Mark = record { place = m0.place + test_size rows types t; frame = m0.frame; found = m0.found ++ 0 ∷ [] } in
      inner-settled d m1 tested m0.found (mark-is m1 tested hp hf hl) refl sure all
      (fore-same sure all (length m0.found) _ _ (ap (closed rows types q m0.place m0.frame) is) told)

  -- A label behind the rest of a body that is there.
  pub end-settled : (g h : StepTree) (front : List ℕ) (pc q n : ℕ) (f : Frame) → g ≡ h → n ≡ number_of (length front) g → number_of (length front) h ≡ length front
      → closed rows types q pc f h ≡ q ∷ [] → (sure : Bool) (all : List ℕ) → Foretold sure all (length front) (closed rows types q pc f g) → sure ≡ true → get_or all n 0 ≡ q
  end-settled g h front pc q n f is hn hh hc sure all told s =
      ap (λ z. get_or all z 0) (hn ∙ ap (number_of (length front)) is ∙ hh)
      ∙ told-first all (length front) q [] (fore-same sure all (length front) _ _ (ap (closed rows types q pc f) is ∙ hc) told s)
