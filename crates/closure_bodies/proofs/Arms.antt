-- Tests in front of a switch, and arms of tags up to another.
use Rattle.std.proofs.Common.{◌≡◌, ℕ, zero, suc, ◌+◌, ◌<◌, ◌≤◌, Bool, true, false, List, [], ◌∷◌, ◌++◌, map, take, drop, length, get_or, Vec, Global, if◌then◌else◌, refl, sym, ap, ap₂, ◌∙◌}
use Rattle.std.proofs.lemmas.List.{drop_more}
use Rattle.ir_plain.specs.Tree as m
use Rattle.ir_mono.specs.Types as table
use Rattle.ir_mono.specs.Mono.{mono, Mono}
use Rattle.ir_first.specs.Tree as out
use Rattle.flow_sets.specs.Flow.{Flow}
use Rattle.plain_tree.specs.declared.tree.Arm.{Arm}
use Rattle.plain_tree.specs.TreeOf.{ArmTree, case_of}
use Rattle.mono_bound.specs.Reads.{reading, mono_of}
use Rattle.closure_convert.specs.Scope.{Scope, Table}
use Rattle.first_tree.specs.declared.tree.Exp.{Exp as Made}
use Rattle.first_tree.specs.declared.tree.Exp.TheVariants as made
use Rattle.first_tree.specs.declared.tree.Step.{Step}
use Rattle.first_tree.specs.declared.tree.Arm.{Arm as MadeArm}
use Rattle.first_tree.specs.TreeOf.{tree_of, arm_of, arms_of, ArmTree as MadeTree}
use Rattle.closure_meaning.specs.Convert.{Numbering, var, cases, con_arms}
use Rattle.closure_steps.specs.Reads.{arms_in}
use Rattle.closure_steps.proofs.Rolls.{arm-parts}
use Rattle.closure_steps.specs.of_closure_parts.Puts.{before, Puts}
use Rattle.closure_steps.proofs.of_closure_parts.Rolls.{tree-switch, tree-miss, arm-parts as made-parts}
use Rattle.closure_steps.proofs.of_closure_parts.Putting.{map-last, all-behind}
use Rattle.closure_steps.specs.Cases.{is_test, is_constructor, tests_before, test_in, tested_in, tag_in}
use Rattle.closure_steps.proofs.Leading.{none-first}
use Rattle.closure_steps.proofs.Switching.{cases-first, switched-test, switched-constructor, switched-all, arms-first, arms-end}
use Rattle.closure_bodies.specs.Made.{body_made}

module _ (n : Numbering) (types : List table.Row) (strings : List (List ℕ)) (F : Flow) (T : Table) (s : Scope) (a t : ℕ) where
  ahead : (arm : Arm) (arms : List Arm) → arms_in types strings (arm ∷ arms) ≡ m.arm (case_of (reading types strings) arm.case) (mono_of types strings arm.body) (arms_in types strings arms)
  ahead arm arms = ap (λ (r : ArmTree (mono types)). m.arm r.case r.body (arms_in types strings arms)) (arm-parts (reading types strings) arm)

  tests-first : (arm : Arm) (arms : List Arm) → is_test arm.case ≡ true
      → cases n types F T s a t (arms_in types strings (arm ∷ arms)) ≡ out.branch (test_in n strings arm.case) (tested_in a arm.case) (body_made n types strings F T s a arm) (cases n types F T s a t (arms_in types strings arms))
  tests-first arm arms h =
      ap (cases n types F T s a t) (ahead arm arms) ∙ cases-first n types strings F T s a t (case_of (reading types strings) arm.case) (mono_of types strings arm.body) (arms_in types strings arms)
      ∙ switched-test n types strings F T s a t arm.case h (arms_in types strings arms) _

  tags-first : (arm : Arm) (arms : List Arm) → is_constructor arm.case ≡ true
      → con_arms n types F T s a t (arms_in types strings (arm ∷ arms)) ≡ out.arm (tag_in types t arm.case) (body_made n types strings F T s a arm) (con_arms n types F T s a t (arms_in types strings arms))
  tags-first arm arms h = ap (con_arms n types F T s a t) (ahead arm arms) ∙ arms-first n types strings F T s a t arm.case (mono_of types strings arm.body) (arms_in types strings arms) h

  tags-end : (arm : Arm) (arms : List Arm) → is_constructor arm.case ≡ false → con_arms n types F T s a t (arms_in types strings (arm ∷ arms)) ≡ out.no_arms
  tags-end arm arms h = ap (con_arms n types F T s a t) (ahead arm arms) ∙ arms-end n types strings F T s a t arm.case (mono_of types strings arm.body) (arms_in types strings arms) h

  -- tests one by one

  abbrev pub CasesSoFar : List Arm → (i : ℕ) → (old made : List Step) → Type 0
  CasesSoFar arms i old made = before made (cases n types F T s a t (arms_in types strings (drop i arms))) ≡ before old (cases n types F T s a t (arms_in types strings arms))

  module _ (arms : List Arm) (i : ℕ) (x d : Arm) (lt : i < length arms) (is : x ≡ get_or arms i d) where
    behind : drop i arms ≡ x ∷ drop (i + 1) arms
    behind = drop_more arms i d lt ∙ ap (λ y. y ∷ drop (i + 1) arms) (sym is)

    pub cases-next : (now : Scope) (old made made' : List Step) (b : out.Exp) → is_test x.case ≡ true → now ≡ s → b ≡ body_made n types strings F T now a x
        → Puts made made' (out.branch (test_in n strings x.case) (tested_in a x.case) b) → CasesSoFar arms i old made → CasesSoFar arms (i + 1) old made'
    cases-next now old made made' b q k h p inv =
        p (cases n types F T s a t (arms_in types strings (drop (i + 1) arms)))
        ∙ ap (λ v. before made (out.branch (test_in n strings x.case) (tested_in a x.case) v (cases n types F T s a t (arms_in types strings (drop (i + 1) arms))))) (h ∙ ap (λ z. body_made n types strings F T z a x) k)
        ∙ ap (before made) (sym (ap (λ l. cases n types F T s a t (arms_in types strings l)) behind ∙ tests-first x (drop (i + 1) arms) q)) ∙ inv

    pub no-test : is_test x.case ≡ false → tests_before (drop i arms) ≡ 0
    no-test h = ap tests_before behind ∙ ap (λ (b : Bool). if b then suc (tests_before (drop (i + 1) arms)) else 0) h

    pub end-tags : (y : ℕ) (new : Vec MadeArm Global) → is_constructor x.case ≡ true → y ≡ var a → arms_of (map arm_of new.items) ≡ con_arms n types F T s a t (arms_in types strings (drop i arms))
        → tree_of (made.Switch y new) ≡ cases n types F T s a t (arms_in types strings (drop i arms))
    end-tags y new q v e =
        tree-switch y new ∙ ap₂ out.switch v (e ∙ ap (λ l. con_arms n types F T s a t (arms_in types strings l)) behind ∙ tags-first x (drop (i + 1) arms) q)
        ∙ sym
        (ap (λ l. cases n types F T s a t (arms_in types strings l)) behind ∙ ap (cases n types F T s a t) (ahead x (drop (i + 1) arms))
        ∙ cases-first n types strings F T s a t (case_of (reading types strings) x.case) (mono_of types strings x.body) (arms_in types strings (drop (i + 1) arms))
        ∙ switched-constructor n types strings F T s a t x.case q (arms_in types strings (drop (i + 1) arms)) _)

    pub end-all : (e : out.Exp) → is_constructor x.case ≡ false → tests_before (drop i arms) ≡ 0 → e ≡ body_made n types strings F T s a x → e ≡ cases n types F T s a t (arms_in types strings (drop i arms))
    end-all e q none v =
        let p : is_test x.case ≡ false = none-first (λ r. is_test r.case) x (drop (i + 1) arms) (sym (ap tests_before behind) ∙ none) in
        v
        ∙ sym
        (ap (λ l. cases n types F T s a t (arms_in types strings l)) behind ∙ ap (cases n types F T s a t) (ahead x (drop (i + 1) arms))
        ∙ cases-first n types strings F T s a t (case_of (reading types strings) x.case) (mono_of types strings x.body) (arms_in types strings (drop (i + 1) arms))
        ∙ switched-all n types strings F T s a t x.case p q (arms_in types strings (drop (i + 1) arms)) _)

  pub cases-stop : (arms : List Arm) (i : ℕ) (now : Scope) (none made : List Step) (o e : out.Exp) → none ≡ [] → now ≡ s → o ≡ before made e → e ≡ cases n types F T now a t (arms_in types strings (drop i arms)) → CasesSoFar arms i none made
      → o ≡ cases n types F T s a t (arms_in types strings arms)
  cases-stop arms i now none made o e z k m h inv =
      m ∙ ap (before made) (h ∙ ap (λ v. cases n types F T v a t (arms_in types strings (drop i arms))) k) ∙ inv ∙ ap (λ l. before l (cases n types F T s a t (arms_in types strings arms))) z

  pub cases-all : (arms : List Arm) (i : ℕ) (none now : List Step) (o : out.Exp) → length arms ≤ i → none ≡ [] → o ≡ before now (tree_of made.Miss) → CasesSoFar arms i none now → o ≡ cases n types F T s a t (arms_in types strings arms)
  cases-all arms i none now o le z m inv =
      m ∙ ap (before now) (tree-miss ∙ sym (ap (λ l. cases n types F T s a t (arms_in types strings l)) (all-behind arms i le))) ∙ inv ∙ ap (λ l. before l (cases n types F T s a t (arms_in types strings arms))) z

  pub end-none : (arms : List Arm) (i : ℕ) → length arms ≤ i → tree_of made.Miss ≡ cases n types F T s a t (arms_in types strings (drop i arms))
  end-none arms i le = tree-miss ∙ sym (ap (λ l. cases n types F T s a t (arms_in types strings l)) (all-behind arms i le))

  -- arms of tags

  abbrev pub arms_onto : List MadeTree → out.Arms → out.Arms
  arms_onto [] r = r
  arms_onto (x ∷ xs) r = out.arm x.tag x.body (arms_onto xs r)

  onto-last : (xs : List MadeTree) (x : MadeTree) (r : out.Arms) → arms_onto (xs ++ x ∷ []) r ≡ arms_onto xs (out.arm x.tag x.body r)
  onto-last [] x r = refl
  onto-last (y ∷ xs) x r = ap (out.arm y.tag y.body) (onto-last xs x r)

  onto-none : (xs : List MadeTree) → arms_onto xs out.no_arms ≡ arms_of xs
  onto-none [] = refl
  onto-none (x ∷ xs) = ap (out.arm x.tag x.body) (onto-none xs)

  abbrev pub TagsSoFar : List Arm → (from i : ℕ) → List MadeArm → Type 0
  TagsSoFar arms from i now = con_arms n types F T s a t (arms_in types strings (drop from arms)) ≡ arms_onto (map arm_of now) (con_arms n types F T s a t (arms_in types strings (drop i arms)))

  module _ (arms : List Arm) (from i : ℕ) (x d : Arm) (lt : i < length arms) (is : x ≡ get_or arms i d) where
    pub tags-next : (now : Scope) (made made' : List MadeArm) (new : MadeArm) (g : ℕ) (b : Made) → is_constructor x.case ≡ true → now ≡ s → g ≡ tag_in types t x.case → tree_of b ≡ body_made n types strings F T now a x
        → new.tag ≡ g → new.body ≡ b → made' ≡ made ++ new ∷ [] → TagsSoFar arms from i made → TagsSoFar arms from (i + 1) made'
    tags-next now made made' new g b q k h e u v m inv =
        inv ∙ ap (λ l. arms_onto (map arm_of made) (con_arms n types F T s a t (arms_in types strings l))) (behind arms i x d lt is)
        ∙ ap (arms_onto (map arm_of made))
        (tags-first x (drop (i + 1) arms) q ∙ ap₂ (λ j r. out.arm j r (con_arms n types F T s a t (arms_in types strings (drop (i + 1) arms)))) (sym (u ∙ h)) (sym (ap tree_of v ∙ e ∙ ap (λ z. body_made n types strings F T z a x) k)))
        ∙ ap (λ (r : MadeTree). arms_onto (map arm_of made) (out.arm r.tag r.body (con_arms n types F T s a t (arms_in types strings (drop (i + 1) arms))))) (sym (made-parts new))
        ∙ sym (onto-last (map arm_of made) (arm_of new) (con_arms n types F T s a t (arms_in types strings (drop (i + 1) arms))))
        ∙ ap (λ l. arms_onto l (con_arms n types F T s a t (arms_in types strings (drop (i + 1) arms)))) (sym (ap (map arm_of) m ∙ map-last arm_of made new))

    pub tags-stop : (made : List MadeArm) → is_constructor x.case ≡ false → TagsSoFar arms from i made → arms_of (map arm_of made) ≡ con_arms n types F T s a t (arms_in types strings (drop from arms))
    tags-stop made q inv =
        sym
        (inv ∙ ap (λ l. arms_onto (map arm_of made) (con_arms n types F T s a t (arms_in types strings l))) (behind arms i x d lt is)
        ∙ ap (arms_onto (map arm_of made)) (tags-end x (drop (i + 1) arms) q) ∙ onto-none (map arm_of made))

  pub tags-all : (arms : List Arm) (from i : ℕ) (made : List MadeArm) → length arms ≤ i → TagsSoFar arms from i made → arms_of (map arm_of made) ≡ con_arms n types F T s a t (arms_in types strings (drop from arms))
  tags-all arms from i made le inv =
      sym (inv ∙ ap (λ l. arms_onto (map arm_of made) (con_arms n types F T s a t (arms_in types strings l))) (all-behind arms i le) ∙ onto-none (map arm_of made))
