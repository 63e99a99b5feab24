-- How far a walk comes with a step.
use Rattle.std.proofs.Common.{◌≡◌, refl, ℕ, zero, suc, ◌+◌, ◌-◌, List, [], ◌∷◌, ◌++◌, length, drop, Bool, Option, Some, None, sym, ap, ◌∙◌, subst, arith, append_assoc, append-nil, length-append}
use Rattle.std.proofs.Math.ListN.{set}
use Rattle.mlc_prims.specs.declared.basis.BasisPrimitive.{BasisPrimitive}
use Rattle.mlc_prims.specs.declared.prim.PrimExn.{PrimExn}
use Rattle.first_values.specs.Equality.{Shape}
use Rattle.first_values.specs.Operations.{Operands, Test}
use Rattle.ir_ssa.specs.Tree.{Body}
use Rattle.ssa_tree.specs.TreeOf.{StepTree, attempt_step, label_step, again_step, when_step, unless_step}
use Rattle.machine_code.specs.Rows.{Rows, late_size, later}
use Rattle.machine_code.specs.Code.{Scope, Spot, exits_of, exit_of, exit_at, with_params, test_size}
use Rattle.walk_labels.specs.Labels.{Frame, bound, labelled, blocked, entered, size_of, labels, head_size, end_size, opened, closed, ended, number_of}
use Rattle.walk_labels.specs.Marks.{Mark, Foretold, labels_at, past_body, past_head, past_end, past_labelled}
use Rattle.walk_labels.proofs.Walks.{settled}
use Rattle.walk_labels.proofs.Marks.{frame-is, mark-is, fore-right, fore-same}

abbrev place_in : Mark → ℕ
place_in m = m.place

abbrev found_in : Mark → List ℕ
found_in m = m.found

drop-one : {A : Type 0} (n : ℕ) (l : List A) → drop (suc n) l ≡ drop 1 (drop n l)
drop-one zero l = refl
drop-one (suc n) [] = refl
drop-one (suc n) (x ∷ l) = drop-one n l

params-left : (xs : List ℕ) (d : ℕ) (scope : Scope) → drop (length xs) (with_params xs d scope) ≡ scope
params-left [] d scope = refl
params-left (x ∷ xs) d scope = drop-one (length xs) (with_params xs (suc d) ((x, d) ∷ scope)) ∙ ap (drop 1) (params-left xs (suc d) ((x, d) ∷ scope))

exits-drop : (spots : List Spot) → exits_of (drop 1 spots) ≡ drop 1 (exits_of spots)
exits-drop [] = refl
exits-drop (s ∷ spots) = refl

pub exits-push : (new old : List Spot) (s : Spot) → new ≡ s ∷ old → exits_of new ≡ exit_of s ∷ exits_of old
exits-push new old s h = ap exits_of h

pub exits-pop : (new old : List Spot) → new ≡ drop 1 old → exits_of new ≡ drop 1 (exits_of old)
exits-pop new old h = ap exits_of h ∙ exits-drop old

later-size : (o : Option PrimExn) (q : ℕ) → later o q ≡ q + late_size o
later-size None q = omega arith
later-size (Some e) q = omega arith

-- the latest variable, or parameters, leave their scope
pub unbound : (f g k : Frame) (x : ℕ) → g ≡ bound x f → k.depth ≡ g.depth - 1 → k.scope ≡ drop 1 g.scope → k.exits ≡ g.exits → k ≡ f
unbound f g k x h d s e =
    frame-is k f (let deep = ap (λ (z : Frame). z.depth) h in omega (arith, d, deep)) (s ∙ ap (λ (z : Frame). drop 1 z.scope) h) (e ∙ ap (λ (z : Frame). z.exits) h)

pub unblocked : (f g k : Frame) (params : List ℕ) (n : ℕ) → g ≡ blocked params f → n ≡ length params → k.depth ≡ g.depth - n → k.scope ≡ drop n g.scope
    → k.exits ≡ g.exits → k ≡ f
unblocked f g k params n h hn d s e =
    frame-is k f (let deep = ap (λ (z : Frame). z.depth) h in omega (arith, d, deep, hn))
    (s ∙ ap (λ (z : Frame). drop n z.scope) h ∙ ap (λ z. drop z (with_params params f.depth f.scope)) hn ∙ params-left params f.depth f.scope)
    (e ∙ ap (λ (z : Frame). z.exits) h)

pub unlabelled : (f g k : Frame) (params : List ℕ) (n : ℕ) → g ≡ blocked params (labelled f) → n ≡ length params → k.depth ≡ g.depth - n → k.scope ≡ drop n g.scope
    → k.exits ≡ drop 1 g.exits → k ≡ f
unlabelled f g k params n h hn d s e =
    frame-is k f (let deep = ap (λ (z : Frame). z.depth) h in omega (arith, d, deep, hn))
    (s ∙ ap (λ (z : Frame). drop n z.scope) h ∙ ap (λ z. drop z (with_params params f.depth f.scope)) hn ∙ params-left params f.depth f.scope)
    (e ∙ ap (λ (z : Frame). drop 1 z.exits) h)

module _ (rows : Rows) (types : List Shape) where
  -- Heads.

  pub head-walked : (g h : StepTree) (m0 m1 : Mark) → g ≡ h → m1.place ≡ m0.place + head_size rows types m0.frame h → m1.frame ≡ entered m0.frame h
      → m1.found ≡ m0.found ++ opened rows types m0.place m0.frame h → m1 ≡ past_head rows types g m0
  head-walked g h m0 m1 is hp hf hl = mark-is m1 (past_head rows types h m0) hp hf hl ∙ ap (λ z. past_head rows types z m0) (sym is)

  -- .. without labels
  pub head-plain : (g h : StepTree) (m0 m1 : Mark) → g ≡ h → opened rows types m0.place m0.frame h ≡ [] → m1.place ≡ m0.place + head_size rows types m0.frame h
      → m1.frame ≡ entered m0.frame h → m1.found ≡ m0.found → m1 ≡ past_head rows types g m0
  head-plain g h m0 m1 is none hp hf hl =
      head-walked g h m0 m1 is hp hf (hl ∙ sym (append-nil m0.found) ∙ ap (λ z. m0.found ++ z) (sym none))

  -- .. of a block
  pub head-label : (g : StepTree) (params : List ℕ) (d : Body) (m0 m1 m2 : Mark) → g ≡ label_step params d → m1 ≡ past_labelled rows types d m0 → m2.place ≡ m1.place
      → m2.frame ≡ blocked params m1.frame → m2.found ≡ m1.found → m2 ≡ past_head rows types g m0
  head-label g params d m0 m1 m2 is h1 hp hf hl =
      head-walked g (label_step params d) m0 m2 is (hp ∙ ap place_in h1) (hf ∙ ap (λ (z : Mark). blocked params z.frame) h1) (hl ∙ ap found_in h1)

  pub head-again : (g : StepTree) (params : List ℕ) (d : Body) (m0 m1 m2 : Mark) → g ≡ again_step params d → m1 ≡ past_labelled rows types d m0 → m2.place ≡ m1.place
      → m2.frame.depth ≡ m1.frame.depth + length params → m2.frame.scope ≡ with_params params m1.frame.depth m1.frame.scope
      → m2.frame.exits ≡ exit_at m0.frame.depth ∷ m1.frame.exits → m2.found ≡ m1.found → m2 ≡ past_head rows types g m0
  head-again g params d m0 m1 m2 is h1 hp hd hs he hl =
      let frame = ap (λ (z : Mark). z.frame) h1 in
      head-walked g (again_step params d) m0 m2 is (hp ∙ ap place_in h1)
      (frame-is m2.frame (blocked params (labelled m0.frame)) (hd ∙ ap (λ (z : Frame). z.depth + length params) frame)
      (hs ∙ ap (λ (z : Frame). with_params params z.depth z.scope) frame) (he ∙ ap (λ (z : Frame). exit_at m0.frame.depth ∷ z.exits) frame))
      (hl ∙ ap found_in h1)

  -- .. of a body where a test doesn't hold
  module _ (g : StepTree) (t : Test) (xs : List ℕ) (d : Body) (m0 m1 : Mark) (is : g ≡ unless_step t xs d) (hp : m1.place ≡ m0.place + test_size rows types t)
      (hf : m1.frame ≡ m0.frame) (hl : m1.found ≡ m0.found ++ 0 ∷ []) where
    abbrev tested : Mark
    tested = record { place = m0.place + test_size rows types t; frame = m0.frame; found = m0.found ++ 0 ∷ [] }

    at-test : m1 ≡ tested
    at-test = mark-is m1 tested hp hf hl

    pub head-unless : (m2 m3 : Mark) → m2 ≡ past_body rows types d m1 → m3.place ≡ m2.place → m3.frame ≡ m2.frame
        → m3.found ≡ set m2.found (length m0.found) m2.place → m3 ≡ past_head rows types g m0
    head-unless m2 m3 h2 kp kf kl =
        let second : m2 ≡ past_body rows types d tested = h2 ∙ ap (past_body rows types d) at-test in
        let own = labels rows types (m0.place + test_size rows types t) m0.frame d in
        head-walked g (unless_step t xs d) m0 m3 is (let p = ap place_in second in omega (arith, kp, p)) (kf ∙ ap (λ (z : Mark). z.frame) second)
        (settled m0.found own m2.found m3.found 0 (length m0.found) m2.place (ap found_in second ∙ append_assoc m0.found (0 ∷ []) own) refl kl
        ∙ ap (λ z. m0.found ++ (z ∷ own)) (ap place_in second))

    pub unless-told : (sure : Bool) (all : List ℕ) (q : ℕ) → Foretold sure all (length m0.found) (closed rows types q m0.place m0.frame g)
        → Foretold sure all (length m1.found) (labels_at rows types m1 d)
    unless-told sure all q told =
        subst (λ (z : Mark). Foretold sure all (length z.found) (labels_at rows types z d)) (sym at-test)
        (fore-right sure all (length m0.found) (length tested.found) ((m0.place + test_size rows types t + size_of rows types m0.frame d) ∷ [])
        (labels_at rows types tested d) (length-append m0.found (0 ∷ []))
        (fore-same sure all (length m0.found) _ _ (ap (closed rows types q m0.place m0.frame) is) told))

  -- Ends.

  module _ (g h : StepTree) (front back : List ℕ) (pc : ℕ) (f : Frame) (m0 : Mark) (is : g ≡ h) (hf : m0.frame ≡ entered f g)
      (hl : m0.found ≡ front ++ (opened rows types pc f g ++ back)) where
    pub end-frame : m0.frame ≡ entered f h
    end-frame = hf ∙ ap (entered f) is

    pub end-found : m0.found ≡ front ++ (opened rows types pc f h ++ back)
    end-found = hl ∙ ap (λ z. front ++ (opened rows types pc f z ++ back)) is

    pub end-walked : (m1 : Mark) → m1.place ≡ m0.place + end_size rows types f h → m1.frame ≡ f
        → m1.found ≡ front ++ (closed rows types m0.place pc f h ++ (back ++ ended rows types m0.place f h)) → m1 ≡ past_end rows types front back pc m0.place f g
    end-walked m1 kp kf kl =
        mark-is m1 (past_end rows types front back pc m0.place f h) kp kf kl ∙ ap (λ z. past_end rows types front back pc m0.place f z) (sym is)

    -- .. of a step with nothing behind the rest
    pub end-plain : (m1 : Mark) → opened rows types pc f h ≡ closed rows types m0.place pc f h → ended rows types m0.place f h ≡ [] → end_size rows types f h ≡ 0
        → m1.place ≡ m0.place → m1.frame ≡ f → m1.found ≡ m0.found → m1 ≡ past_end rows types front back pc m0.place f g
    end-plain m1 same none zero_ kp kf kl =
        end-walked m1 (omega (arith, kp, zero_)) kf
        (kl ∙ end-found ∙ ap (λ z. front ++ (z ++ back)) same
        ∙ ap (λ z. front ++ (closed rows types m0.place pc f h ++ z)) (sym (append-nil back) ∙ ap (λ z. back ++ z) (sym none)))

  -- .. of a test
  module _ (g : StepTree) (t : Test) (xs : List ℕ) (d : Body) (front back : List ℕ) (pc n : ℕ) (f : Frame) (m0 m1 : Mark) (is : g ≡ when_step t xs d)
      (hf : m0.frame ≡ entered f g) (hl : m0.found ≡ front ++ (opened rows types pc f g ++ back)) (hn : n ≡ number_of (length front) g)
      (kp : m1.place ≡ m0.place) (kf : m1.frame ≡ m0.frame) (kl : m1.found ≡ set m0.found n m0.place) where
    abbrev other : Mark
    other = record { place = m0.place; frame = f; found = front ++ (m0.place ∷ back) }

    at-other : m1 ≡ other
    at-other =
        mark-is m1 other kp (kf ∙ end-frame g (when_step t xs d) front back pc f m0 is hf hl)
        (settled front back m0.found m1.found 0 n m0.place (end-found g (when_step t xs d) front back pc f m0 is hf hl) (hn ∙ ap (number_of (length front)) is) kl)

    pub end-when : (m2 : Mark) → m2 ≡ past_body rows types d m1 → m2 ≡ past_end rows types front back pc m0.place f g
    end-when m2 h2 =
        let second : m2 ≡ past_body rows types d other = h2 ∙ ap (past_body rows types d) at-other in
        end-walked g (when_step t xs d) front back pc f m0 is hf hl m2 (ap place_in second) (ap (λ (z : Mark). z.frame) second)
        (ap found_in second ∙ append_assoc front (m0.place ∷ back) (labels rows types m0.place f d))

    pub when-told : (sure : Bool) (all : List ℕ) → Foretold sure all (length m0.found) (ended rows types m0.place f g)
        → Foretold sure all (length m1.found) (labels_at rows types m1 d)
    when-told sure all told =
        let long : length m0.found ≡ length other.found =
        ap length (end-found g (when_step t xs d) front back pc f m0 is hf hl)
        ∙ (let e : length (front ++ (0 ∷ back)) ≡ length (front ++ (m0.place ∷ back)) = omega (arith, length-append front (0 ∷ back), length-append front (m0.place ∷ back)) in e) in
        subst (λ (z : Mark). Foretold sure all (length z.found) (labels_at rows types z d)) (sym at-other)
        (subst (λ z. Foretold sure all z (labels rows types m0.place f d)) long
        (fore-same sure all (length m0.found) _ _ (ap (ended rows types m0.place f) is) told))

  -- .. of a primitive
  module _ (g : StepTree) (k : Operands) (p : BasisPrimitive) (xs : List ℕ) (x : ℕ) (d : Body) (front back : List ℕ) (pc n : ℕ) (f : Frame) (m0 m1 : Mark)
      (is : g ≡ attempt_step k p xs x d) (hf : m0.frame ≡ entered f g) (hl : m0.found ≡ front ++ (opened rows types pc f g ++ back))
      (hn : n ≡ number_of (length front) g) (kp : m1.place ≡ later (rows.late k p) m0.place) (kf : m1.frame ≡ m0.frame) (kl : m1.found ≡ set m0.found n m0.place) where
    abbrev late_ : Mark
    late_ = record { place = later (rows.late k p) m0.place; frame = bound x f; found = front ++ (m0.place ∷ back) }

    at-late : m1 ≡ late_
    at-late =
        mark-is m1 late_ kp (kf ∙ end-frame g (attempt_step k p xs x d) front back pc f m0 is hf hl)
        (settled front back m0.found m1.found 0 n m0.place (end-found g (attempt_step k p xs x d) front back pc f m0 is hf hl) (hn ∙ ap (number_of (length front)) is) kl)

    pub end-attempt : (m2 m3 : Mark) → m2 ≡ past_body rows types d m1 → m3.place ≡ m2.place → m3.frame.depth ≡ m2.frame.depth - 1 → m3.frame.scope ≡ drop 1 m2.frame.scope
        → m3.frame.exits ≡ m2.frame.exits → m3.found ≡ m2.found → m3 ≡ past_end rows types front back pc m0.place f g
    end-attempt m2 m3 h2 jp jd js je jl =
        let second : m2 ≡ past_body rows types d late_ = h2 ∙ ap (past_body rows types d) at-late in
        let far = ap place_in second in
        let more = later-size (rows.late k p) m0.place in
        end-walked g (attempt_step k p xs x d) front back pc f m0 is hf hl m3 (omega (arith, jp, far, more))
        (unbound f m2.frame m3.frame x (ap (λ (z : Mark). z.frame) second) jd js je)
        (jl ∙ ap found_in second ∙ append_assoc front (m0.place ∷ back) (labels rows types (later (rows.late k p) m0.place) (bound x f) d))

    pub attempt-told : (sure : Bool) (all : List ℕ) → Foretold sure all (length m0.found) (ended rows types m0.place f g)
        → Foretold sure all (length m1.found) (labels_at rows types m1 d)
    attempt-told sure all told =
        let long : length m0.found ≡ length late_.found =
        ap length (end-found g (attempt_step k p xs x d) front back pc f m0 is hf hl)
        ∙ (let e : length (front ++ (0 ∷ back)) ≡ length (front ++ (m0.place ∷ back)) = omega (arith, length-append front (0 ∷ back), length-append front (m0.place ∷ back)) in e) in
        subst (λ (z : Mark). Foretold sure all (length z.found) (labels_at rows types z d)) (sym at-late)
        (subst (λ z. Foretold sure all z (labels rows types (later (rows.late k p) m0.place) (bound x f) d)) long
        (fore-same sure all (length m0.found) _ _ (ap (ended rows types m0.place f) is) told))
