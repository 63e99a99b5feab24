-- How far a walk comes with the arms of a switch.
use Rattle.std.proofs.Common.{◌≡◌, refl, ℕ, suc, ◌+◌, List, [], ◌∷◌, ◌++◌, length, Bool, true, sym, ap, ◌∙◌, subst, arith, append_assoc, append-nil, length-append, get_or}
use Rattle.std.proofs.Math.ListN.{set}
use Rattle.first_values.specs.Equality.{Shape}
use Rattle.ir_ssa.specs.Tree.{Body, Bodies, switch}
use Rattle.ssa_tree.specs.TreeOf.{StepTree, ArmTree, bodies_of, case_step}
use Rattle.machine_code.specs.Rows.{Rows}
use Rattle.machine_code.specs.Code.{Choice, choice_of, choice_size, test_arm_size}
use Rattle.walk_labels.specs.Labels.{Frame, blank, cases, entered, size_of, labels, arms_size_of, arm_places, arms_labels, arms_from, arms_within, arms_long, opened, closed, ended, number_of}
use Rattle.walk_labels.specs.Marks.{Mark, Foretold, labels_at, past_arms, past_body, past_head, past_end}
use Rattle.walk_labels.proofs.Sizes.{blank-length, places-length}
use Rattle.walk_labels.proofs.Arms.{blank-last, arms-count, arms-size, arms-places, arms-labels}
use Rattle.walk_labels.proofs.Told.{told-first, told-right}
use Rattle.walk_labels.proofs.Walks.{settled}
use Rattle.walk_labels.proofs.Marks.{mark-is, fore-left, fore-right, fore-same}
use Rattle.walk_labels.proofs.MarkSteps.{head-walked, end-frame, end-found, end-walked}

abbrev place_in : Mark → ℕ
place_in m = m.place

abbrev found_in : Mark → List ℕ
found_in m = m.found

module _ (rows : Rows) (types : List Shape) where
  from-length : (how : Choice) (f : Frame) (as_ : List ArmTree) (q : ℕ) → length (arms_from rows types how q f as_) ≡ length as_
  from-length how f [] q = refl
  from-length how f (a ∷ as_) q = ap suc (from-length how f as_ (q + test_arm_size how + size_of rows types f a.body))

  -- Arms and the last body, whose labels have the numbers behind some and before others.
  module _ (how : Choice) (as_ : List ArmTree) (l : Body) (front back : List ℕ) (first : ℕ) (m1 : Mark) (f : Frame) (hn : first ≡ length front)
      (hf : m1.frame ≡ f) (hl : m1.found ≡ front ++ (blank (suc (length as_)) ++ back)) where
    abbrev arms : Bodies
    arms = bodies_of as_ l

    abbrev far : ℕ
    far = m1.place + arms_long rows types how f as_

    abbrev places : List ℕ
    places = arms_from rows types how m1.place f as_

    abbrev within : List ℕ
    within = arms_within rows types how m1.place f as_

    pub before-arms : m1.found ≡ front ++ (blank (length as_) ++ (0 ∷ back))
    before-arms =
        hl ∙ ap (λ z. front ++ (z ++ back)) (blank-last (length as_)) ∙ ap (λ z. front ++ z) (append_assoc (blank (length as_)) (0 ∷ []) back)

    module _ (sure : Bool) (all : List ℕ) (told : Foretold sure all (length front) (arm_places rows types how m1.place f arms))
        (inside : Foretold sure all (length m1.found) (arms_labels rows types how m1.place f arms)) where
      places-told : Foretold sure all (length front) (places ++ far ∷ [])
      places-told = fore-same sure all (length front) _ _ (arms-places rows types how f as_ l m1.place) told

      inside-told : Foretold sure all (length m1.found) (within ++ labels rows types far f l)
      inside-told = fore-same sure all (length m1.found) _ _ (arms-labels rows types how f as_ l m1.place) inside

      pub arms-told : {A : Type 0} → ((a b : List ℕ) → first ≡ length a → m1.found ≡ a ++ (blank (length as_) ++ b)
          → Foretold sure all (length a) (arms_from rows types how m1.place m1.frame as_)
          → Foretold sure all (length m1.found) (arms_within rows types how m1.place m1.frame as_) → A) → A
      arms-told k =
          k front (0 ∷ back) hn before-arms
          (fore-same sure all (length front) _ _ (ap (λ z. arms_from rows types how m1.place z as_) (sym hf)) (fore-left sure all (length front) places (far ∷ []) places-told))
          (fore-same sure all (length m1.found) _ _ (ap (λ z. arms_within rows types how m1.place z as_) (sym hf))
          (fore-left sure all (length m1.found) within (labels rows types far f l) inside-told))

    -- .. with the arms there, and the place of the last body
    module _ (number : ℕ) (m2 : Mark)
        (h2 : (a b : List ℕ) → first ≡ length a → m1.found ≡ a ++ (blank (length as_) ++ b) → (m2 ≡ past_arms rows types how a b as_ m1) × (number ≡ first + length as_)) where
      at-arms : (m2 ≡ record { place = far; frame = f; found = front ++ (places ++ (0 ∷ (back ++ within))) }) × (number ≡ length (front ++ places))
      at-arms =
          let h = h2 front (0 ∷ back) hn before-arms in (
            h.0 ∙ ap (λ z. record {
              place = m1.place + arms_long rows types how z as_;
              frame = z;
              found = front ++ (arms_from rows types how m1.place z as_ ++ (0 ∷ (back ++ arms_within rows types how m1.place z as_)));
            }) hf,
            omega (arith, h.1, hn, length-append front places, from-length how f as_ m1.place),
          )

      pub settle-told : (sure : Bool) (all : List ℕ) → Foretold sure all (length front) (arm_places rows types how m1.place f arms) → sure ≡ true → get_or all number 0 ≡ m2.place
      settle-told sure all told s =
          ap (λ z. get_or all z 0) (at-arms.1 ∙ length-append front places)
          ∙ told-first all (length front + length places) far []
          (told-right all (length front) places (far ∷ []) (fore-same sure all (length front) _ _ (arms-places rows types how f as_ l m1.place) told s))
          ∙ sym (ap place_in at-arms.0)

      module _ (m3 : Mark) (kp : m3.place ≡ m2.place) (kf : m3.frame ≡ m2.frame) (kl : m3.found ≡ set m2.found number m2.place) where
        abbrev last_ : Mark
        last_ = record { place = far; frame = f; found = front ++ ((places ++ far ∷ []) ++ (back ++ within)) }

        pub at-last : m3 ≡ last_
        at-last =
            let second = at-arms.0 in
            mark-is m3 last_ (kp ∙ ap place_in second) (kf ∙ ap (λ (z : Mark). z.frame) second)
            (settled (front ++ places) (back ++ within) m2.found m3.found 0 number m2.place
            (ap found_in second ∙ sym (append_assoc front places (0 ∷ (back ++ within)))) at-arms.1 kl
            ∙ ap (λ z. (front ++ places) ++ (z ∷ (back ++ within))) (ap place_in second)
            ∙ append_assoc front places (far ∷ (back ++ within))
            ∙ ap (λ z. front ++ z) (sym (append_assoc places (far ∷ []) (back ++ within))))

        pub arms-walked : (m4 : Mark) → m4 ≡ past_body rows types l m3
            → m4 ≡ record {
              place = m1.place + arms_size_of rows types how f arms;
              frame = f;
              found = front ++ (arm_places rows types how m1.place f arms ++ (back ++ arms_labels rows types how m1.place f arms));
            }
        arms-walked m4 h4 =
            let fourth : m4 ≡ past_body rows types l last_ = h4 ∙ ap (past_body rows types l) at-last in
            let more = labels rows types far f l in
            fourth
            ∙ mark-is (past_body rows types l last_) (record {
              place = m1.place + arms_size_of rows types how f arms;
              frame = f;
              found = front ++ (arm_places rows types how m1.place f arms ++ (back ++ arms_labels rows types how m1.place f arms));
            })
            (omega (arith, arms-size rows types how f as_ l)) refl
            (append_assoc front ((places ++ far ∷ []) ++ (back ++ within)) more
            ∙ ap (λ z. front ++ z) (append_assoc (places ++ far ∷ []) (back ++ within) more ∙ ap (λ z. (places ++ far ∷ []) ++ z) (append_assoc back within more))
            ∙ ap (λ z. front ++ (z ++ (back ++ (within ++ more)))) (sym (arms-places rows types how f as_ l m1.place))
            ∙ ap (λ z. front ++ (arm_places rows types how m1.place f arms ++ (back ++ z))) (sym (arms-labels rows types how f as_ l m1.place)))

        pub last-told : (sure : Bool) (all : List ℕ) → Foretold sure all (length m1.found) (arms_labels rows types how m1.place f arms)
            → Foretold sure all (length m3.found) (labels_at rows types m3 l)
        last-told sure all inside =
            subst (λ (z : Mark). Foretold sure all (length z.found) (labels_at rows types z l)) (sym at-last)
            (fore-right sure all (length m1.found) (length last_.found) within (labels rows types far f l)
            (let e : length last_.found ≡ length m1.found + length within =
            omega (
              arith,
              ap length before-arms,
              length-append front (blank (length as_) ++ (0 ∷ back)),
              length-append (blank (length as_)) (0 ∷ back),
              blank-length (length as_),
              length-append front ((places ++ far ∷ []) ++ (back ++ within)),
              length-append (places ++ far ∷ []) (back ++ within),
              length-append places (far ∷ []),
              length-append back within,
              from-length how f as_ m1.place,
            ) in e)
            (fore-same sure all (length m1.found) _ _ (arms-labels rows types how f as_ l m1.place) inside))

  -- A switch.
  module _ (t : Body) (x : ℕ) (as_ : List ArmTree) (l : Body) (how : Choice) (first : ℕ) (m0 m1 : Mark) (is : t ≡ switch x (bodies_of as_ l))
      (hh : how ≡ choice_of (bodies_of as_ l)) (hn : first ≡ length m0.found)
      (hp : m1.place ≡ m0.place + choice_size (choice_of (bodies_of as_ l)) (bodies_of as_ l)) (hf : m1.frame ≡ m0.frame)
      (hl : m1.found ≡ m0.found ++ blank (suc (length as_))) where
    abbrev all_arms : Bodies
    all_arms = bodies_of as_ l

    abbrev at : ℕ
    at = m0.place + choice_size (choice_of all_arms) all_arms

    pub behind-choice : m1.found ≡ m0.found ++ (blank (suc (length as_)) ++ [])
    behind-choice = hl ∙ ap (λ z. m0.found ++ z) (sym (append-nil (blank (suc (length as_)))))

    module _ (sure : Bool) (all : List ℕ) (told : Foretold sure all (length m0.found) (labels_at rows types m0 t)) where
      whole-told : Foretold sure all (length m0.found)
          (arm_places rows types how m1.place m0.frame all_arms ++ arms_labels rows types how m1.place m0.frame all_arms)
      whole-told =
          fore-same sure all (length m0.found) _ _
          (ap (labels_at rows types m0) is
          ∙ sym (ap (λ h. arm_places rows types h m1.place m0.frame all_arms ++ arms_labels rows types h m1.place m0.frame all_arms) hh
          ∙ ap (λ p. arm_places rows types (choice_of all_arms) p m0.frame all_arms ++ arms_labels rows types (choice_of all_arms) p m0.frame all_arms) hp))
          told

      pub switch-places : Foretold sure all (length m0.found) (arm_places rows types how m1.place m0.frame all_arms)
      switch-places = fore-left sure all (length m0.found) _ _ whole-told

      pub switch-inside : Foretold sure all (length m1.found) (arms_labels rows types how m1.place m0.frame all_arms)
      switch-inside =
          fore-right sure all (length m0.found) (length m1.found) (arm_places rows types how m1.place m0.frame all_arms) _
          (let e : length m1.found ≡ length m0.found + length (arm_places rows types how m1.place m0.frame all_arms) =
          omega (
            arith,
            ap length hl,
            length-append m0.found (blank (suc (length as_))),
            blank-length (length as_),
            places-length rows types how m0.frame all_arms m1.place,
            arms-count as_ l,
          ) in e)
          whole-told

    module _ (number : ℕ) (m2 m3 : Mark)
        (h2 : (a b : List ℕ) → first ≡ length a → m1.found ≡ a ++ (blank (length as_) ++ b) → (m2 ≡ past_arms rows types how a b as_ m1) × (number ≡ first + length as_))
        (kp : m3.place ≡ m2.place) (kf : m3.frame ≡ m2.frame) (kl : m3.found ≡ set m2.found number m2.place) where
      pub switch-walked : (m4 : Mark) → m4 ≡ past_body rows types l m3 → m4 ≡ past_body rows types t m0
      switch-walked m4 h4 =
          let whole : Choice → ℕ → Mark = λ h p. record {
            place = p + arms_size_of rows types h m0.frame all_arms;
            frame = m0.frame;
            found = m0.found ++ (arm_places rows types h p m0.frame all_arms ++ arms_labels rows types h p m0.frame all_arms);
          } in
          arms-walked how as_ l m0.found [] first m1 m0.frame hn hf behind-choice number m2 h2 m3 kp kf kl m4 h4
          ∙ ap (λ h. whole h m1.place) hh ∙ ap (λ p. whole (choice_of all_arms) p) hp
          ∙ mark-is (whole (choice_of all_arms) at) (past_body rows types (switch x all_arms) m0) (omega arith) refl refl
          ∙ ap (λ z. past_body rows types z m0) (sym is)

  -- A switch whose first arm is the rest: before it.
  module _ (g : StepTree) (x i : ℕ) (as_ : List ArmTree) (l : Body) (m0 : Mark) (is : g ≡ case_step x i (bodies_of as_ l)) where
    abbrev others : Bodies
    others = bodies_of as_ l

    pub case-head : (m1 : Mark) (c : ℕ) → c ≡ m0.place + choice_size (choice_of (cases i others)) (cases i others)
        → m1.place ≡ c + test_arm_size (choice_of (cases i others)) → m1.frame ≡ m0.frame
        → m1.found ≡ m0.found ++ (c ∷ blank (suc (length as_))) → m1 ≡ past_head rows types g m0
    case-head m1 c hc hp hf hl =
        head-walked rows types g (case_step x i others) m0 m1 is (omega (arith, hp, hc)) hf
        (hl ∙ ap (λ z. m0.found ++ (z ∷ blank (suc (length as_)))) hc
        ∙ ap (λ z. m0.found ++ ((m0.place + choice_size (choice_of (cases i others)) (cases i others)) ∷ blank (suc z))) (sym (arms-count as_ l)))

    pub case-told : (sure : Bool) (all : List ℕ) (q c : ℕ) → c ≡ m0.place + choice_size (choice_of (cases i others)) (cases i others)
        → Foretold sure all (length m0.found) (closed rows types q m0.place m0.frame g) → sure ≡ true → get_or all (length m0.found) 0 ≡ c
    case-told sure all q c hc told s =
        told-first all (length m0.found) (m0.place + choice_size (choice_of (cases i others)) (cases i others)) _
        (fore-same sure all (length m0.found) _ _ (ap (closed rows types q m0.place m0.frame) is) told s)
        ∙ sym hc

  -- .. and behind it.
  module _ (g : StepTree) (x i : ℕ) (as_ : List ArmTree) (l : Body) (how : Choice) (front back : List ℕ) (pc n first : ℕ) (f : Frame) (m0 : Mark)
      (is : g ≡ case_step x i (bodies_of as_ l)) (hh : how ≡ choice_of (cases i (bodies_of as_ l))) (hf : m0.frame ≡ entered f g)
      (hl : m0.found ≡ front ++ (opened rows types pc f g ++ back)) (hn : n ≡ number_of (length front) g) (hm : first ≡ suc n) where
    abbrev rest_arms : Bodies
    rest_arms = bodies_of as_ l

    abbrev one : ℕ
    one = pc + choice_size (choice_of (cases i rest_arms)) (cases i rest_arms)

    abbrev pub front_ : List ℕ
    front_ = front ++ one ∷ []

    pub same-frame : m0.frame ≡ f
    same-frame = end-frame rows types g (case_step x i rest_arms) front back pc f m0 is hf hl

    pub first-is : first ≡ length front_
    first-is = omega (arith, hm, hn ∙ ap (number_of (length front)) is, length-append front (one ∷ []))

    pub blanks : m0.found ≡ front_ ++ (blank (suc (length as_)) ++ back)
    blanks =
        end-found rows types g (case_step x i rest_arms) front back pc f m0 is hf hl
        ∙ ap (λ z. front ++ ((one ∷ blank (suc z)) ++ back)) (arms-count as_ l)
        ∙ sym (append_assoc front (one ∷ []) (blank (suc (length as_)) ++ back))

    pub case-places : (sure : Bool) (all : List ℕ) → Foretold sure all (length front) (closed rows types m0.place pc f g)
        → Foretold sure all (length front_) (arm_places rows types how m0.place f rest_arms)
    case-places sure all told =
        fore-same sure all (length front_) _ _ (ap (λ h. arm_places rows types h m0.place f rest_arms) (sym hh))
        (fore-right sure all (length front) (length front_) (one ∷ []) (arm_places rows types (choice_of (cases i rest_arms)) m0.place f rest_arms)
        (length-append front (one ∷ [])) (fore-same sure all (length front) _ _ (ap (closed rows types m0.place pc f) is) told))

    pub case-inside : (sure : Bool) (all : List ℕ) → Foretold sure all (length m0.found) (ended rows types m0.place f g)
        → Foretold sure all (length m0.found) (arms_labels rows types how m0.place f rest_arms)
    case-inside sure all inside =
        fore-same sure all (length m0.found) _ _ (ap (ended rows types m0.place f) is ∙ ap (λ h. arms_labels rows types h m0.place f rest_arms) (sym hh)) inside

    module _ (number : ℕ) (m2 m3 : Mark)
        (h2 : (a b : List ℕ) → first ≡ length a → m0.found ≡ a ++ (blank (length as_) ++ b) → (m2 ≡ past_arms rows types how a b as_ m0) × (number ≡ first + length as_))
        (kp : m3.place ≡ m2.place) (kf : m3.frame ≡ m2.frame) (kl : m3.found ≡ set m2.found number m2.place) where
      pub case-walked : (m4 : Mark) → m4 ≡ past_body rows types l m3 → m4 ≡ past_end rows types front back pc m0.place f g
      case-walked m4 h4 =
          let whole : Choice → Mark = λ h. record {
            place = m0.place + arms_size_of rows types h f rest_arms;
            frame = f;
            found = front_ ++ (arm_places rows types h m0.place f rest_arms ++ (back ++ arms_labels rows types h m0.place f rest_arms));
          } in
          let all : m4 ≡ whole (choice_of (cases i rest_arms)) =
          arms-walked how as_ l front_ back first m0 f first-is same-frame blanks number m2 h2 m3 kp kf kl m4 h4 ∙ ap whole hh in
          end-walked rows types g (case_step x i rest_arms) front back pc f m0 is hf hl m4 (ap place_in all) (ap (λ (z : Mark). z.frame) all)
          (ap found_in all ∙ append_assoc front (one ∷ []) _)
