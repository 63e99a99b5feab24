-- How far a walk comes, part by part.
use Rattle.std.proofs.Common.{◌≡◌, refl, ℕ, ◌+◌, ◌-◌, List, [], ◌∷◌, ◌++◌, length, drop, Bool, Result, Ok, Err, IfErr, OnOk, sym, ap, ◌∙◌, subst, arith, append_assoc, append-nil, length-append}
use Rattle.std.proofs.Math.ListN.{set}
use Rattle.first_values.specs.Equality.{Shape}
use Rattle.ir_ssa.specs.Tree.{Body, guard}
use Rattle.ssa_tree.specs.TreeOf.{StepTree, onto}
use Rattle.machine_code.specs.Rows.{Rows}
use Rattle.walk_labels.specs.Labels.{Frame, bound, labelled, guarded, entered_all, size_of, labels, opened_all, closed_all, ended_all, numbers_of}
use Rattle.walk_labels.specs.Marks.{Mark, Foretold, labels_at, guarded_labels, past_body, past_heads, past_ends, past_guarded, past_labelled}
use Rattle.walk_labels.proofs.Sizes.{sizes-onto, opened-lengths}
use Rattle.walk_labels.proofs.Labels.{labels-onto}
use Rattle.walk_labels.proofs.Walks.{settled}
use Rattle.walk_labels.proofs.Told.{told-left, told-right, told-from, told-same}

pub ok-then : {T E : Type 0} {P Q : Type 0} (r : Result T E) → (P → Q) → OnOk r P → OnOk r Q
ok-then (Ok x) f p = f p
ok-then (Err e) f p = tt

pub err-then : {T E : Type 0} {P Q : E → Type 0} (r : Result T E) → ((e : E) → P e → Q e) → IfErr r P → IfErr r Q
err-then (Ok x) f p = tt
err-then (Err e) f p = f e p

pub frame-is : (f g : Frame) → f.depth ≡ g.depth → f.scope ≡ g.scope → f.exits ≡ g.exits → f ≡ g
frame-is f g d s e = λ k. record { depth = d k; scope = s k; exits = e k }

pub mark-is : (m n : Mark) → m.place ≡ n.place → m.frame ≡ n.frame → m.found ≡ n.found → m ≡ n
mark-is m n p f l = λ k. record { place = p k; frame = f k; found = l k }

abbrev place_in : Mark → ℕ
place_in m = m.place

abbrev frame_in : Mark → Frame
frame_in m = m.frame

abbrev found_in : Mark → List ℕ
found_in m = m.found

module _ (sure : Bool) (all : List ℕ) where
  pub fore-left : (n : ℕ) (a b : List ℕ) → Foretold sure all n (a ++ b) → Foretold sure all n a
  fore-left n a b h s = told-left all n a b (h s)

  pub fore-right : (n m : ℕ) (a b : List ℕ) → m ≡ n + length a → Foretold sure all n (a ++ b) → Foretold sure all m b
  fore-right n m a b e h s = told-from all (n + length a) m b (sym e) (told-right all n a b (h s))

  pub fore-same : (n : ℕ) (a b : List ℕ) → a ≡ b → Foretold sure all n a → Foretold sure all n b
  fore-same n a b e h s = told-same all n a b e (h s)

module _ (rows : Rows) (types : List Shape) where
  -- Steps.

  module _ (t r : Body) (gs : List StepTree) (ns : List ℕ) (m0 m1 m2 : Mark) (is : t ≡ onto gs r) (h1 : m1 ≡ past_heads rows types gs m0)
      (h2 : m2 ≡ past_body rows types r m1) where
    abbrev inner : Mark
    inner = past_heads rows types gs m0

    abbrev behind : ℕ
    behind = inner.place + size_of rows types inner.frame r

    second : m2 ≡ past_body rows types r inner
    second = h2 ∙ ap (past_body rows types r) h1

    whole : labels_at rows types m0 t
        ≡ closed_all rows types behind m0.place m0.frame gs ++ (labels_at rows types inner r ++ ended_all rows types behind m0.frame gs)
    whole = ap (λ z. labels_at rows types m0 z) is ∙ labels-onto rows types m0.place m0.frame gs r behind refl

    pub steps-walked : (m3 : Mark) → ns ≡ numbers_of rows types (length m0.found) m0.place m0.frame gs
        → ((front back : List ℕ) (pc : ℕ) (f : Frame) → m2.frame ≡ entered_all f gs → m2.found ≡ front ++ (opened_all rows types pc f gs ++ back)
        → ns ≡ numbers_of rows types (length front) pc f gs → m3 ≡ past_ends rows types front back pc m2.place f gs)
        → m3 ≡ past_body rows types t m0
    steps-walked m3 hn h3 =
        let back = labels_at rows types inner r in
        h3 m0.found back m0.place m0.frame (ap frame_in second)
        (ap found_in second ∙ append_assoc m0.found (opened_all rows types m0.place m0.frame gs) back) hn
        ∙ ap (λ z. past_ends rows types m0.found back m0.place z m0.frame gs) (ap place_in second)
        ∙ mark-is (past_ends rows types m0.found back m0.place behind m0.frame gs) (past_body rows types t m0)
        (omega (arith, sizes-onto rows types m0.frame gs r, ap (size_of rows types m0.frame) is)) refl (ap (λ z. m0.found ++ z) (sym whole))

    module _ (sure : Bool) (all : List ℕ) (told : Foretold sure all (length m0.found) (labels_at rows types m0 t)) where
      parts : Foretold sure all (length m0.found)
          (closed_all rows types behind m0.place m0.frame gs ++ (labels_at rows types inner r ++ ended_all rows types behind m0.frame gs))
      parts = fore-same sure all (length m0.found) _ _ whole told

      pub heads-told : {A : Type 0} → ((q : ℕ) → Foretold sure all (length m0.found) (closed_all rows types q m0.place m0.frame gs) → A) → A
      heads-told k = k behind (fore-left sure all (length m0.found) _ _ parts)

      pub rest-told : Foretold sure all (length m1.found) (labels_at rows types m1 r)
      rest-told =
          subst (λ (z : Mark). Foretold sure all (length z.found) (labels_at rows types z r)) (sym h1)
          (fore-left sure all (length inner.found) (labels_at rows types inner r) (ended_all rows types behind m0.frame gs)
          (fore-right sure all (length m0.found) (length inner.found) (closed_all rows types behind m0.place m0.frame gs) _
          (length-append m0.found (opened_all rows types m0.place m0.frame gs)
          ∙ ap (λ z. length m0.found + z) (opened-lengths rows types behind m0.place m0.frame gs)) parts))

      pub ends-told : {A : Type 0} → ns ≡ numbers_of rows types (length m0.found) m0.place m0.frame gs
          → ((front back : List ℕ) (pc : ℕ) (f : Frame) → m2.frame ≡ entered_all f gs → m2.found ≡ front ++ (opened_all rows types pc f gs ++ back)
          → ns ≡ numbers_of rows types (length front) pc f gs → Foretold sure all (length front) (closed_all rows types m2.place pc f gs)
          → Foretold sure all (length m2.found) (ended_all rows types m2.place f gs) → A) → A
      ends-told hn k =
          let back = labels_at rows types inner r in
          let opened = opened_all rows types m0.place m0.frame gs in
          let closed = closed_all rows types behind m0.place m0.frame gs in
          let there : m2.place ≡ behind = ap place_in second in
          let found : m2.found ≡ m0.found ++ (opened ++ back) = ap found_in second ∙ append_assoc m0.found opened back in
          k m0.found back m0.place m0.frame (ap frame_in second) found hn
          (fore-same sure all (length m0.found) _ _ (ap (λ z. closed_all rows types z m0.place m0.frame gs) (sym there)) (fore-left sure all (length m0.found) closed _ parts))
          (fore-same sure all (length m2.found) _ _ (ap (λ z. ended_all rows types z m0.frame gs) (sym there))
          (fore-right sure all (length m0.found) (length m2.found) (closed ++ back) (ended_all rows types behind m0.frame gs)
          (ap length found ∙ (let e : length (m0.found ++ (opened ++ back)) ≡ length m0.found + length (closed ++ back) =
          omega (arith, length-append m0.found (opened ++ back), length-append opened back, length-append closed back, opened-lengths rows types behind m0.place m0.frame gs) in e))
          (fore-same sure all (length m0.found) _ _ (sym (append_assoc closed back (ended_all rows types behind m0.frame gs))) parts)))

  -- What adds no label.
  pub leaf-walked : (t d : Body) (m0 m1 : Mark) → t ≡ d → labels_at rows types m0 d ≡ [] → m1.place ≡ m0.place + size_of rows types m0.frame d → m1.frame ≡ m0.frame
      → m1.found ≡ m0.found → m1 ≡ past_body rows types t m0
  leaf-walked t d m0 m1 is none hp hf hl =
      mark-is m1 (past_body rows types d m0) hp hf (hl ∙ sym (append-nil m0.found) ∙ ap (λ z. m0.found ++ z) (sym none))
      ∙ ap (λ z. past_body rows types z m0) (sym is)

  -- A body under a handler, and the handler.
  module _ (t a h : Body) (l y : ℕ) (m0 m1 m2 : Mark) (is : t ≡ guard l a y h) (h1 : m1 ≡ past_guarded rows types l a m0) (hp : m2.place ≡ m1.place + 1)
      (hf : m2.frame ≡ bound y m1.frame) (hl : m2.found ≡ m1.found) where
    abbrev under : Mark
    under = past_guarded rows types l a m0

    abbrev handled : Mark
    handled = record { place = m0.place + 2 + size_of rows types (guarded l m0.frame) a; frame = bound y m0.frame; found = under.found }

    at-handler : m2 ≡ handled
    at-handler =
        mark-is m2 handled (omega (arith, hp, ap place_in h1)) (hf ∙ ap (λ (z : Mark). bound y z.frame) h1) (hl ∙ ap found_in h1)

    pub guard-walked : (m3 m4 : Mark) → m3 ≡ past_body rows types h m2 → m4.place ≡ m3.place → m4.frame.depth ≡ m3.frame.depth - 1
        → m4.frame.scope ≡ drop 1 m3.frame.scope → m4.frame.exits ≡ m3.frame.exits → m4.found ≡ m3.found → m4 ≡ past_body rows types t m0
    guard-walked m3 m4 h3 kp kd ks ke kl =
        let third : m3 ≡ past_body rows types h handled = h3 ∙ ap (past_body rows types h) at-handler in
        let deep = ap (λ (z : Mark). z.frame.depth) third in
        mark-is m4 (past_body rows types (guard l a y h) m0) (omega (arith, kp, ap place_in third))
        (frame-is m4.frame m0.frame (omega (arith, kd, deep)) (ks ∙ ap (λ (z : Mark). drop 1 z.frame.scope) third) (ke ∙ ap (λ (z : Mark). z.frame.exits) third))
        (kl ∙ ap found_in third ∙ append_assoc m0.found (guarded_labels rows types l m0 a) (labels_at rows types handled h))
        ∙ ap (λ z. past_body rows types z m0) (sym is)

    module _ (sure : Bool) (all : List ℕ) (told : Foretold sure all (length m0.found) (labels_at rows types m0 t)) where
      both : Foretold sure all (length m0.found) (guarded_labels rows types l m0 a ++ labels_at rows types handled h)
      both = fore-same sure all (length m0.found) _ _ (ap (labels_at rows types m0) is) told

      pub guarded-told : Foretold sure all (length m0.found) (guarded_labels rows types l m0 a)
      guarded-told = fore-left sure all (length m0.found) (guarded_labels rows types l m0 a) (labels_at rows types handled h) both

      pub handler-told : Foretold sure all (length m2.found) (labels_at rows types m2 h)
      handler-told =
          subst (λ (z : Mark). Foretold sure all (length z.found) (labels_at rows types z h)) (sym at-handler)
          (fore-right sure all (length m0.found) (length handled.found) (guarded_labels rows types l m0 a) (labels_at rows types handled h)
          (length-append m0.found (guarded_labels rows types l m0 a)) both)

  -- A label and the body in front of its block.

  pub labelled-walked : (b : Body) (m0 m1 m2 m3 : Mark) → m1.place ≡ m0.place → m1.frame ≡ labelled m0.frame → m1.found ≡ m0.found ++ 0 ∷ []
      → m2 ≡ past_body rows types b m1 → m3.place ≡ m2.place → m3.frame ≡ m0.frame → m3.found ≡ set m2.found (length m0.found) m2.place
      → m3 ≡ past_labelled rows types b m0
  labelled-walked b m0 m1 m2 m3 hp hf hl h2 kp kf kl =
      let start : Mark = record { place = m0.place; frame = labelled m0.frame; found = m0.found ++ 0 ∷ [] } in
      let second : m2 ≡ past_body rows types b start = h2 ∙ ap (past_body rows types b) (mark-is m1 start hp hf hl) in
      let here = m0.place + size_of rows types (labelled m0.frame) b in
      let own = labels rows types m0.place (labelled m0.frame) b in
      mark-is m3 (past_labelled rows types b m0) (kp ∙ ap place_in second) kf
      (settled m0.found own m2.found m3.found 0 (length m0.found) m2.place (ap found_in second ∙ append_assoc m0.found (0 ∷ []) own) refl kl
      ∙ ap (λ z. m0.found ++ (z ∷ own)) (ap place_in second))
