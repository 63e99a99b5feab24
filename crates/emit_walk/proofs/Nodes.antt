-- How far a walk comes with a node, by what its parts append.
use Rattle.std.proofs.Common.{◌≡◌, ◌≢◌, refl, ℕ, suc, ◌+◌, ◌-◌, List, [], ◌∷◌, ◌++◌, length, map, drop, Option, Bool, true, Vec, Box, Global, Result, Ok, Err, OnOk, IfOk, IfErr, sym, ap, ◌∙◌, subst, arith, length-append, get_or}
use Rattle.std.specs.Result.{IsErrAnd}
use Rattle.std.proofs.lemmas.List.{length-map}
use Rattle.std.proofs.Math.ListN.{set}
use Rattle.ir_code.specs.declared.instr.Instr.{Instr}
use Rattle.ir_code.specs.declared.instr.Instr.TheVariants.{Acc, Call as CallRow, Jmp}
use Rattle.mlc_prims.specs.declared.basis.BasisPrimitive.{BasisPrimitive}
use Rattle.mlc_prims.specs.declared.prim.PrimExn.{PrimExn}
use Rattle.first_values.specs.Equality.{Shape}
use Rattle.first_values.specs.Operations.{Callee, Operands, Plain, Test}
use Rattle.first_values.specs.Values.{Piece}
use Rattle.ir_ssa.specs.Tree as s
use Rattle.ssa_tree.specs.declared.tree.Arm.{Arm}
use Rattle.ssa_tree.specs.declared.tree.Body.{Body}
use Rattle.ssa_tree.specs.declared.tree.Body.TheVariants as body
use Rattle.ssa_tree.specs.declared.tree.Step.{Step}
use Rattle.ssa_tree.specs.declared.tree.Step.TheVariants as step
use Rattle.ssa_tree.specs.TreeOf.{ArmTree, arm_of, bodies_of, case_step, step_of, tree_of}
use Rattle.machine_code.specs.Rows.{AreRight, Packets, late_code, later}
use Rattle.machine_code.specs.Code.{Choice, Places, Scope, Spot, args_of, callee_count, choice_of, choice_size, left, left_by, exits_of, no_exit, no_spot, make_code, make_size, move_code, move_size, plain_code, plain_size, push_code, test_arm_code, test_arm_size, test_code, test_size, choice_code}
use Rattle.machine_code.proofs.Sizes.{args_count, late_place, left_exits, make_length, plain_length, test_arm_length, test_length}
use Rattle.machine_code.proofs.Pieces.{move_length, push_length}
use Rattle.machine_rows.specs.Table.{rows}
use Rattle.emit_code.specs.Tags.{choice_for, end_of}
use Rattle.emit_parts.specs.Labels.{numbered, switch_code, tag_of}
use Rattle.emit_parts.specs.declared.fault.WalkFault.{WalkFault}
use Rattle.emit_parts.specs.declared.fault.WalkFault.TheVariants.{Unsettled}
use Rattle.walk_labels.specs.Labels.{Frame, blank, blocked, cases, closed, ended, entered, number_of, opened, arm_places, arms_from, arms_labels, arms_within}
use Rattle.walk_labels.specs.Marks.{Mark, Foretold, fun_labels, labels_at, past_arms, past_body, past_end, past_fun, past_head}
use Rattle.walk_labels.proofs.Marks.{err-then, mark-is, ok-then}
use Rattle.walk_labels.proofs.MarkSteps.{unblocked}
use Rattle.walk_labels.proofs.MarkCases as mark
use Rattle.emit_walk.proofs.Walking.{tags_in, tags-of, how-tags}
use Rattle.emit_walk.proofs.Parts.{choice-grown}
use Rattle.emit_walk.proofs.Rolls.{case-at, switch-at}
use Rattle.emit_walk.proofs.WalkMarks.{grown}

-- a fault that is passed on
pub passed : {T : Type 0} (Q : WalkFault → Type 0) (r : Result T WalkFault) (e : WalkFault) → IsErrAnd r (λ x. x ≡ e) → Q e → IfErr r Q
passed Q (Ok x) e g q = tt
passed Q (Err x) e g q = subst Q (sym g) q

pub tail-long : (d p : ℕ) (ws : List ℕ) (old new : List Instr) → new ≡ old ++ (move_code d 0 ws ++ (Jmp p ∷ [])) → length new ≡ length old + (move_size 0 ws + 1)
tail-long d p ws old new h =
    grown old new (move_code d 0 ws ++ (Jmp p ∷ [])) (move_size 0 ws + 1) h
    (omega (arith, length-append (move_code d 0 ws) (Jmp p ∷ []), move_length d 0 ws))

pub make-long : (d t : ℕ) (scope : Scope) (qs : List Piece) (old new : List Instr) → new ≡ old ++ make_code d t scope qs → length new ≡ length old + make_size t qs
make-long d t scope qs old new h = grown old new (make_code d t scope qs) (make_size t qs) h (make_length d t scope qs)

pub late-long : (o : Option PrimExn) (packets : Packets) (d : ℕ) (old new : List Instr) → new ≡ old ++ late_code o packets d → length new ≡ later o (length old)
late-long o packets d old new h = ap length h ∙ length-append old (late_code o packets d) ∙ late_place o packets d (length old)

-- the frame under a handler
pub under-frame : (f g : Frame) (l : ℕ) (spots : List Spot) (inside : List Spot) (outer kept : Spot) → f.exits ≡ exits_of spots → outer ≡ get_or spots l no_spot
    → kept ≡ left_by f.depth outer → inside ≡ kept ∷ [] → exits_of inside ≡ left (get_or f.exits l no_exit) ∷ []
under-frame f g l spots inside outer kept hf ho hk hi =
    ap exits_of hi ∙ ap (λ z. exits_of (z ∷ [])) (hk ∙ ap (left_by f.depth) ho) ∙ left_exits f.depth spots l
    ∙ ap (λ z. left (get_or z l no_exit) ∷ []) (sym hf)

module _ (at : Places) (right : AreRight at.rows) where
  pub plain-long : (pc d : ℕ) (p : Plain) (xs : List ℕ) (old new : List Instr) → new ≡ old ++ plain_code at pc d p xs → length new ≡ length old + plain_size at.rows at.types p
  plain-long pc d p xs old new h = grown old new (plain_code at pc d p xs) (plain_size at.rows at.types p) h (plain_length at right pc d p xs)

  pub test-long : (pc d : ℕ) (q : Test) (xs : List ℕ) (other : ℕ) (old new : List Instr) → new ≡ old ++ test_code at pc d q xs other
      → length new ≡ length old + test_size at.rows at.types q
  test-long pc d q xs other old new h = grown old new (test_code at pc d q xs other) (test_size at.rows at.types q) h (test_length at right pc d q xs other)

  pub call-long : (d p r : ℕ) (c : Callee) (scope : Scope) (xs : List ℕ) (old new : List Instr)
      → new ≡ old ++ (push_code (suc (suc d)) (args_of c scope xs) ++ (CallRow p r ∷ Acc r ∷ [])) → length new ≡ length old + (callee_count c (length xs) + 2)
  call-long d p r c scope xs old new h =
      grown old new (push_code (suc (suc d)) (args_of c scope xs) ++ (CallRow p r ∷ Acc r ∷ [])) (callee_count c (length xs) + 2) h
      (omega (
        arith,
        length-append (push_code (suc (suc d)) (args_of c scope xs)) (CallRow p r ∷ Acc r ∷ []),
        push_length (suc (suc d)) (args_of c scope xs),
        args_count at right c scope xs,
      ))

  pub row-long : (k : Operands) (p : BasisPrimitive) (packets : Packets) (pc d other : ℕ) (xs : List ℕ) (old new : List Instr)
      → new ≡ old ++ at.rows.code k p packets pc d other xs → length new ≡ length old + at.rows.size k p
  row-long k p packets pc d other xs old new h = grown old new (at.rows.code k p packets pc d other xs) (at.rows.size k p) h (right.long k p packets pc d other xs)

module _ (at : Places) (right : AreRight at.rows) (label : ℕ → ℕ) where
  -- A switch, up to its arms.
  module _ (b : Body) (x y d first : ℕ) (arms : Vec Arm Global) (l : Box Body Global) (as_ bs : List Arm) (end : Body) (ts us vs : List ℕ) (how : Choice) (m0 m1 : Mark)
      (old mid : List Instr) (is : b ≡ body.Switch x arms l) (ha : as_ ≡ arms.items) (hb : bs ≡ arms.items) (he : end ≡ l.value) (ht : ts ≡ map tag_of as_) (hu : us ≡ ts)
      (hv : vs ≡ ts) (hh : how ≡ choice_for vs) (hn : first ≡ length m0.found) (ho : m0.place ≡ length old) (hm : m1.place ≡ length mid)
      (hc : mid ≡ old ++ switch_code label (length old) d y first us) (hf : m1.frame ≡ m0.frame) (hl : m1.found ≡ m0.found ++ blank (suc (length us))) where
    abbrev trees : List ArmTree
    trees = map arm_of bs

    abbrev bodies : s.Bodies
    bodies = bodies_of trees (tree_of end)

    tags : us ≡ tags_in bodies
    tags = hu ∙ ht ∙ ap (map tag_of) (ha ∙ sym hb) ∙ sym (tags-of bs (tree_of end))

    roll : tree_of b ≡ s.switch x bodies
    roll = switch-at b x arms l bs end is hb he

    same-how : how ≡ choice_of bodies
    same-how = hh ∙ ap choice_for (hv ∙ sym hu ∙ tags) ∙ sym (how-tags bodies)

    arms-place : m1.place ≡ m0.place + choice_size (choice_of bodies) bodies
    arms-place =
        let size = choice_size (choice_of bodies) bodies in
        hm ∙ grown old mid (switch_code label (length old) d y first us) size hc (choice-grown at right label (length old) d y first us bodies tags)
        ∙ ap (λ z. z + size) (sym ho)

    arms-blank : m1.found ≡ m0.found ++ blank (suc (length trees))
    arms-blank =
        hl ∙ ap (λ z. m0.found ++ blank (suc z))
        (ap length (hu ∙ ht ∙ ap (map tag_of) (ha ∙ sym hb)) ∙ length-map bs tag_of ∙ sym (length-map bs arm_of))

    behind : m1.found ≡ m0.found ++ (blank (suc (length trees)) ++ [])
    behind = mark.behind-choice at.rows at.types (tree_of b) x trees (tree_of end) how first m0 m1 roll same-how hn arms-place hf arms-blank

    module _ (sure : Bool) (all : List ℕ) (told : Foretold sure all (length m0.found) (labels_at at.rows at.types m0 (tree_of b))) where
      places : Foretold sure all (length m0.found) (arm_places at.rows at.types how m1.place m0.frame bodies)
      places = mark.switch-places at.rows at.types (tree_of b) x trees (tree_of end) how first m0 m1 roll same-how hn arms-place hf arms-blank sure all told

      inside : Foretold sure all (length m1.found) (arms_labels at.rows at.types how m1.place m0.frame bodies)
      inside = mark.switch-inside at.rows at.types (tree_of b) x trees (tree_of end) how first m0 m1 roll same-how hn arms-place hf arms-blank sure all told

      pub switch-asks : {A : Type 0} → ((a z : List ℕ) → first ≡ length a → m1.found ≡ a ++ (blank (length bs) ++ z)
          → Foretold sure all (length a) (arms_from at.rows at.types how m1.place m1.frame trees)
          → Foretold sure all (length m1.found) (arms_within at.rows at.types how m1.place m1.frame trees) → A) → A
      switch-asks k =
          mark.arms-told at.rows at.types how trees (tree_of end) m0.found [] first m1 m0.frame hn hf behind sure all places inside
          (λ a z hz hk. k a z hz (hk ∙ ap (λ n. a ++ (blank n ++ z)) (length-map bs arm_of)))

    module _ (number : ℕ) (m2 : Mark) (h2 : (a z : List ℕ) → first ≡ length a → m1.found ≡ a ++ (blank (length bs) ++ z)
        → (m2 ≡ past_arms at.rows at.types how a z trees m1) × (number ≡ first + length bs)) where
      met : (a z : List ℕ) → first ≡ length a → m1.found ≡ a ++ (blank (length trees) ++ z)
          → (m2 ≡ past_arms at.rows at.types how a z trees m1) × (number ≡ first + length trees)
      met a z hz hk =
          let both = h2 a z hz (hk ∙ ap (λ n. a ++ (blank n ++ z)) (length-map bs arm_of)) in
          (both.0, both.1 ∙ ap (λ n. first + n) (sym (length-map bs arm_of)))

      pub switch-settles : (sure : Bool) (all : List ℕ) → Foretold sure all (length m0.found) (labels_at at.rows at.types m0 (tree_of b))
          → sure ≡ true → get_or all number 0 ≡ m2.place
      switch-settles sure all told =
          mark.settle-told at.rows at.types how trees (tree_of end) m0.found [] first m1 m0.frame hn hf behind number m2 met sure all (places sure all told)

      module _ (m3 : Mark) (kp : m3.place ≡ m2.place) (kf : m3.frame ≡ m2.frame) (kl : m3.found ≡ set m2.found number m2.place) where
        pub switch-marked : {T E : Type 0} (r : Result T E) (m4 : Mark) → OnOk r (m4 ≡ past_body at.rows at.types (tree_of end) m3)
            → OnOk r (m4 ≡ past_body at.rows at.types (tree_of b) m0)
        switch-marked r m4 =
            ok-then r (λ h. mark.switch-walked at.rows at.types (tree_of b) x trees (tree_of end) how first m0 m1 roll same-how hn arms-place hf arms-blank number m2 m3 met kp kf kl m4 h)

        pub switch-passes : {T : Type 0} (r : Result T WalkFault) (sure : Bool) (all : List ℕ)
            → IfErr r (λ e. Foretold sure all (length m3.found) (labels_at at.rows at.types m3 (tree_of end)) → e ≢ Unsettled)
            → IfErr r (λ e. Foretold sure all (length m0.found) (labels_at at.rows at.types m0 (tree_of b)) → e ≢ Unsettled)
        switch-passes r sure all =
            err-then r (λ e h told. h (mark.last-told at.rows at.types how trees (tree_of end) m0.found [] first m1 m0.frame hn hf behind number m2 met m3 kp kf kl sure all
            (inside sure all told)))

  -- A switch whose first arm is the rest: before it.
  module _ (g : Step) (x i d y : ℕ) (others : Vec Arm Global) (l : Box Body Global) (as_ : List Arm) (m0 : Mark) (old : List Instr) (is : g ≡ step.Case x i others l)
      (ha : as_ ≡ others.items) (ho : m0.place ≡ length old) where
    abbrev first_trees : List ArmTree
    first_trees = map arm_of as_

    abbrev all_bodies : s.Bodies
    all_bodies = cases i (bodies_of first_trees (tree_of l.value))

    abbrev all_tags : List ℕ
    all_tags = i ∷ map tag_of as_

    first-tags : all_tags ≡ tags_in all_bodies
    first-tags = ap (λ w. i ∷ w) (sym (tags-of as_ (tree_of l.value)))

    first-roll : step_of g ≡ case_step x i (bodies_of first_trees (tree_of l.value))
    first-roll = case-at g x i others l as_ l.value is ha refl

    abbrev begins : ℕ
    begins = length old + length (switch_code label (length old) d y (length m0.found) all_tags)

    first-begins : begins ≡ m0.place + choice_size (choice_of all_bodies) all_bodies
    first-begins = omega (arith, ho, choice-grown at right label (length old) d y (length m0.found) all_tags all_bodies first-tags)

    pub case-marked : (r : Result ℕ WalkFault) (m1 : Mark) (new : List Instr) → m1.place ≡ length new → m1.frame ≡ m0.frame
        → OnOk r (m1.found ≡ m0.found ++ (begins ∷ blank (suc (length as_))))
        → IfOk r (λ first. new ≡ old ++ (choice_code (length old) d y (choice_for all_tags) (end_of all_tags) (numbered label first all_tags) (label (first + length all_tags))
        ++ test_arm_code (choice_for all_tags) d i (label (suc first))))
        → OnOk r (m1 ≡ past_head at.rows at.types (step_of g) m0)
    case-marked (Err e) m1 new hm hf hl hn = tt
    case-marked (Ok first) m1 new hm hf hl hn =
        let c = switch_code label (length old) d y first all_tags in
        let t = test_arm_code (choice_for all_tags) d i (label (suc first)) in
        let same : test_arm_size (choice_for all_tags) ≡ test_arm_size (choice_of all_bodies) = ap test_arm_size (ap choice_for first-tags ∙ sym (how-tags all_bodies)) in
        mark.case-head at.rows at.types (step_of g) x i first_trees (tree_of l.value) m0 first-roll m1 begins first-begins
        (omega (
          arith,
          hm,
          ho,
          ap length hn,
          length-append old (c ++ t),
          length-append c t,
          choice-grown at right label (length old) d y first all_tags all_bodies first-tags,
          first-begins,
          test_arm_length (choice_for all_tags) d i (label (suc first)),
          same,
        ))
        hf (hl ∙ ap (λ z. m0.found ++ (begins ∷ blank (suc z))) (sym (length-map as_ arm_of)))

    pub case-numbered : {E : Type 0} (r : Result ℕ E) → IfOk r (λ first. first ≡ length m0.found) → IfOk r (λ first. first ≡ number_of (length m0.found) (step_of g))
    case-numbered (Err e) h = tt
    case-numbered (Ok first) h = h ∙ ap (number_of (length m0.found)) (sym first-roll)

    pub case-passes : {T : Type 0} (r : Result T WalkFault) (sure : Bool) (all : List ℕ)
        → IfErr r (λ e. (sure ≡ true → get_or all (length m0.found) 0 ≡ begins) → e ≢ Unsettled)
        → IfErr r (λ e. (q : ℕ) → Foretold sure all (length m0.found) (closed at.rows at.types q m0.place m0.frame (step_of g)) → e ≢ Unsettled)
    case-passes r sure all =
        err-then r (λ e h q told. h (mark.case-told at.rows at.types (step_of g) x i first_trees (tree_of l.value) m0 first-roll sure all q begins first-begins told))

  -- .. and behind it.
  module _ (g : Step) (x i n first pc : ℕ) (others : Vec Arm Global) (l : Box Body Global) (as_ bs : List Arm) (end : Body) (ts vs : List ℕ) (how : Choice)
      (front back : List ℕ) (f : Frame) (m0 : Mark) (is : g ≡ step.Case x i others l) (ha : as_ ≡ others.items) (hb : bs ≡ others.items) (he : end ≡ l.value)
      (ht : ts ≡ i ∷ map tag_of as_) (hv : vs ≡ ts) (hh : how ≡ choice_for vs) (hm : first ≡ suc n) (hf : m0.frame ≡ entered f (step_of g))
      (hl : m0.found ≡ front ++ (opened at.rows at.types pc f (step_of g) ++ back)) (hn : n ≡ number_of (length front) (step_of g)) where
    abbrev rest_trees : List ArmTree
    rest_trees = map arm_of bs

    abbrev rest_bodies : s.Bodies
    rest_bodies = bodies_of rest_trees (tree_of end)

    rest-roll : step_of g ≡ case_step x i rest_bodies
    rest-roll = case-at g x i others l bs end is hb he

    rest-how : how ≡ choice_of (cases i rest_bodies)
    rest-how =
        hh ∙ ap choice_for (hv ∙ ht ∙ ap (λ w. i ∷ map tag_of w) (ha ∙ sym hb) ∙ ap (λ w. i ∷ w) (sym (tags-of bs (tree_of end))))
        ∙ sym (how-tags (cases i rest_bodies))

    abbrev inner_front : List ℕ
    inner_front = mark.front_ at.rows at.types (step_of g) x i rest_trees (tree_of end) how front back pc n first f m0 rest-roll rest-how hf hl hn hm

    first-at : first ≡ length inner_front
    first-at = mark.first-is at.rows at.types (step_of g) x i rest_trees (tree_of end) how front back pc n first f m0 rest-roll rest-how hf hl hn hm

    frame-at : m0.frame ≡ f
    frame-at = mark.same-frame at.rows at.types (step_of g) x i rest_trees (tree_of end) how front back pc n first f m0 rest-roll rest-how hf hl hn hm

    blanks-at : m0.found ≡ inner_front ++ (blank (suc (length rest_trees)) ++ back)
    blanks-at = mark.blanks at.rows at.types (step_of g) x i rest_trees (tree_of end) how front back pc n first f m0 rest-roll rest-how hf hl hn hm

    places-at : (sure : Bool) (all : List ℕ) → Foretold sure all (length front) (closed at.rows at.types m0.place pc f (step_of g))
        → Foretold sure all (length inner_front) (arm_places at.rows at.types how m0.place f rest_bodies)
    places-at = mark.case-places at.rows at.types (step_of g) x i rest_trees (tree_of end) how front back pc n first f m0 rest-roll rest-how hf hl hn hm

    inside-at : (sure : Bool) (all : List ℕ) → Foretold sure all (length m0.found) (ended at.rows at.types m0.place f (step_of g))
        → Foretold sure all (length m0.found) (arms_labels at.rows at.types how m0.place f rest_bodies)
    inside-at = mark.case-inside at.rows at.types (step_of g) x i rest_trees (tree_of end) how front back pc n first f m0 rest-roll rest-how hf hl hn hm

    pub case-asks : {A : Type 0} (sure : Bool) (all : List ℕ) → Foretold sure all (length front) (closed at.rows at.types m0.place pc f (step_of g))
        → Foretold sure all (length m0.found) (ended at.rows at.types m0.place f (step_of g))
        → ((a z : List ℕ) → first ≡ length a → m0.found ≡ a ++ (blank (length bs) ++ z)
        → Foretold sure all (length a) (arms_from at.rows at.types how m0.place m0.frame rest_trees)
        → Foretold sure all (length m0.found) (arms_within at.rows at.types how m0.place m0.frame rest_trees) → A) → A
    case-asks sure all told inside k =
        mark.arms-told at.rows at.types how rest_trees (tree_of end) inner_front back first m0 f first-at frame-at blanks-at sure all (places-at sure all told) (inside-at sure all inside)
        (λ a z hz hk. k a z hz (hk ∙ ap (λ n. a ++ (blank n ++ z)) (length-map bs arm_of)))

    module _ (number : ℕ) (m2 : Mark) (h2 : (a z : List ℕ) → first ≡ length a → m0.found ≡ a ++ (blank (length bs) ++ z)
        → (m2 ≡ past_arms at.rows at.types how a z rest_trees m0) × (number ≡ first + length bs)) where
      met-at : (a z : List ℕ) → first ≡ length a → m0.found ≡ a ++ (blank (length rest_trees) ++ z)
          → (m2 ≡ past_arms at.rows at.types how a z rest_trees m0) × (number ≡ first + length rest_trees)
      met-at a z hz hk =
          let both = h2 a z hz (hk ∙ ap (λ n. a ++ (blank n ++ z)) (length-map bs arm_of)) in
          (both.0, both.1 ∙ ap (λ n. first + n) (sym (length-map bs arm_of)))

      pub case-settles : (sure : Bool) (all : List ℕ) → Foretold sure all (length front) (closed at.rows at.types m0.place pc f (step_of g)) → sure ≡ true
          → get_or all number 0 ≡ m2.place
      case-settles sure all told =
          mark.settle-told at.rows at.types how rest_trees (tree_of end) inner_front back first m0 f first-at frame-at blanks-at number m2 met-at sure all (places-at sure all told)

      module _ (m3 : Mark) (kp : m3.place ≡ m2.place) (kf : m3.frame ≡ m2.frame) (kl : m3.found ≡ set m2.found number m2.place) where
        pub case-ends : (m4 : Mark) → m4 ≡ past_body at.rows at.types (tree_of end) m3 → m4 ≡ past_end at.rows at.types front back pc m0.place f (step_of g)
        case-ends =
            mark.case-walked at.rows at.types (step_of g) x i rest_trees (tree_of end) how front back pc n first f m0 rest-roll rest-how hf hl hn hm number m2 m3 met-at kp kf kl

        pub case-last : (sure : Bool) (all : List ℕ) → Foretold sure all (length m0.found) (ended at.rows at.types m0.place f (step_of g))
            → Foretold sure all (length m3.found) (labels_at at.rows at.types m3 (tree_of end))
        case-last sure all inside =
            mark.last-told at.rows at.types how rest_trees (tree_of end) inner_front back first m0 f first-at frame-at blanks-at number m2 met-at m3 kp kf kl sure all
            (inside-at sure all inside)

-- A function: its parameters, its body, and its parameters leave their scope.
module _ (types : List Shape) (ps : List ℕ) (b : s.Body) (m0 m1 : Mark) (hp : m1.place ≡ m0.place) (hf : m1.frame ≡ blocked ps m0.frame) (hl : m1.found ≡ m0.found) where
  abbrev in_fun : Mark
  in_fun = record { place = m0.place; frame = blocked ps m0.frame; found = m0.found }

  at-fun : m1 ≡ in_fun
  at-fun = mark-is m1 in_fun hp hf hl

  pub fun-walked : (n : ℕ) (m2 m3 : Mark) → m2 ≡ past_body rows types b m1 → n ≡ length ps → m3.place ≡ m2.place → m3.frame.depth ≡ m2.frame.depth - n
      → m3.frame.scope ≡ drop n m2.frame.scope → m3.frame.exits ≡ m2.frame.exits → m3.found ≡ m2.found → m3 ≡ past_fun rows types ps b m0
  fun-walked n m2 m3 h2 hn kp kd ks ke kl =
      let second : m2 ≡ past_body rows types b in_fun = h2 ∙ ap (past_body rows types b) at-fun in
      mark-is m3 (past_fun rows types ps b m0) (kp ∙ ap (λ (z : Mark). z.place) second)
      (unblocked m0.frame m2.frame m3.frame ps n (ap (λ (z : Mark). z.frame) second) hn kd ks ke)
      (kl ∙ ap (λ (z : Mark). z.found) second)

  pub fun-told : (sure : Bool) (all : List ℕ) → Foretold sure all (length m0.found) (fun_labels rows types ps b m0) → Foretold sure all (length m1.found) (labels_at rows types m1 b)
  fun-told sure all told = subst (λ (z : Mark). Foretold sure all (length z.found) (labels_at rows types z b)) (sym at-fun) told
