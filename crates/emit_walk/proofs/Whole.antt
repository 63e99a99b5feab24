-- What a call at the end of a part of the walk gives for the whole of it.
use Rattle.std.proofs.Common.{◌≡◌, refl, ℕ, suc, ◌+◌, List, [], ◌∷◌, ◌++◌, length, map, drop, ◌<◌, Vec, Box, Global, Bool, true, Result, Ok, Err, OnOk, IfOk, sym, ap, ◌∙◌, subst, get_or}
use Rattle.ir_code.specs.declared.instr.Instr.{Instr}
use Rattle.ir_code.specs.declared.instr.Instr.TheVariants.{PushHandler}
use Rattle.ir_ssa.specs.Tree as s
use Rattle.ssa_tree.specs.declared.tree.Body.{Body}
use Rattle.ssa_tree.specs.declared.tree.Body.TheVariants as body
use Rattle.ssa_tree.specs.declared.tree.Step.{Step}
use Rattle.ssa_tree.specs.declared.tree.Step.TheVariants as step
use Rattle.ssa_tree.specs.declared.tree.Arm.{Arm}
use Rattle.ssa_tree.specs.TreeOf.{ArmTree, case_step, onto, bodies_of, arm_of, step_of, tree_of}
use Rattle.machine_code.specs.Rows.{AreRight}
use Rattle.machine_code.specs.Code.{Places, Scope, Spot, Choice, no_spot, left_by, slot, depth_in, guard_size, choice_code, test_arm_code, code_at}
use Rattle.emit_code.specs.Tags.{end_of, choice_for}
use Rattle.emit_parts.specs.Labels.{numbered, tag_of}
use Rattle.emit_walk.specs.Walk.{Env, Kept, code_in, after, after_all, behind, behind_all, ArmsBefore, before, before_all, Begins, Ends, BeginAll, EndAll}
use Rattle.emit_walk.proofs.Walking.{ArmsSoFar, tags-of, kept-same, steps-whole, arms-step, arms-done}
use Rattle.emit_walk.proofs.Parts.{guarded-code, switch-whole, case-before, case-begins, case-end, case-stands}
use Rattle.emit_walk.proofs.Rolls.{arm-is, steps-at, switch-at, case-at}
use Rattle.emit_walk.proofs.Turns.{body-code, head-code, head-begins, end-code, end-scope, end-stands}

module _ (at : Places) (right : AreRight at.rows) (label : ℕ → ℕ) where
  pub steps-code : {T E : Type 0} (r : Result T E) (sure : Bool) (b : Body) (ss : Vec Step Global) (rr : Box Body Global) (xs ys : List Step) (rest : Body) (ns ms : List ℕ) (e f g : Env)
      (old heads mid new : List Instr) → b ≡ body.Steps ss rr → xs ≡ ss.items → rest ≡ rr.value → ys ≡ ss.items → ms ≡ ns → e.pc ≡ length old → f.pc ≡ length heads
      → (sure ≡ true → heads ≡ old ++ before_all at label e ns (map step_of xs)) → (sure ≡ true → f ≡ after_all at e (map step_of xs))
      → (sure ≡ true → BeginAll at label e ns (map step_of xs)) → (sure ≡ true → mid ≡ heads ++ code_in at f (tree_of rest)) → (sure ≡ true → Kept f g)
      → OnOk r (sure ≡ true → (k : Env) → Kept (after_all at k (map step_of ys)) g → new ≡ mid ++ behind_all at k (map step_of ys) (length mid))
      → OnOk r (sure ≡ true → (k : Env) → Kept (after_all at k (map step_of ys)) g → EndAll at label k ms (map step_of ys) (length mid))
      → OnOk r (sure ≡ true → new ≡ old ++ code_in at e (tree_of b))
  steps-code (Err x) sure b ss rr xs ys rest ns ms e f g old heads mid new is hx hr hy hm he hf hh hs hb hmid hk hn hends = tt
  steps-code (Ok x) sure b ss rr xs ys rest ns ms e f g old heads mid new is hx hr hy hm he hf hh hs hb hmid hk hn hends = λ is_sure.
      let same : ys ≡ xs = hy ∙ sym hx in
      let kept : Kept (after_all at e (map step_of ys)) g =
      kept-same (after_all at e (map step_of ys)) f g (hs is_sure ∙ ap (λ z. after_all at e (map step_of z)) (sym same)) (hk is_sure) in
      let code : new ≡ mid ++ behind_all at e (map step_of xs) (length mid) = hn is_sure e kept ∙ ap (λ z. mid ++ behind_all at e (map step_of z) (length mid)) same in
      let ends : EndAll at label e ns (map step_of xs) (length mid) =
      subst (λ z. EndAll at label e z (map step_of xs) (length mid)) hm (subst (λ z. EndAll at label e ms (map step_of z) (length mid)) same (hends is_sure e kept)) in
      body-code at (tree_of b) (onto (map step_of xs) (tree_of rest)) e old new (steps-at b ss rr xs rest is hx hr)
      (steps-whole at right label e f ns (map step_of xs) (tree_of rest) old heads mid new he hf (hh is_sure) (hs is_sure) (hb is_sure) (hmid is_sure) code ends)

  pub steps-kept : {T E : Type 0} (r : Result T E) (sure : Bool) (zs xs ys : List Step) (e f g h : Env) → xs ≡ zs → ys ≡ zs → (sure ≡ true → f ≡ after_all at e (map step_of xs)) → (sure ≡ true → Kept f g)
      → OnOk r (sure ≡ true → (k : Env) → Kept (after_all at k (map step_of ys)) g → Kept k h) → OnOk r (sure ≡ true → Kept e h)
  steps-kept (Err x) sure zs xs ys e f g h hx hy hs hk hh = tt
  steps-kept (Ok x) sure zs xs ys e f g h hx hy hs hk hh = λ is_sure.
      let same : xs ≡ ys = hx ∙ sym hy in
      hh is_sure e (kept-same (after_all at e (map step_of ys)) f g (hs is_sure ∙ ap (λ z. after_all at e (map step_of z)) same) (hk is_sure))

  pub switch-code : {T E : Type 0} (r : Result T E) (sure : Bool) (b : Body) (x : ℕ) (arms : Vec Arm Global) (l : Box Body Global) (as_ bs : List Arm) (end : Body) (ts us vs : List ℕ)
      (how : Choice) (first n : ℕ) (e f g : Env) (old mid now new : List Instr) → b ≡ body.Switch x arms l → as_ ≡ arms.items → bs ≡ arms.items → end ≡ l.value → e.pc ≡ length old
      → ts ≡ map tag_of as_ → us ≡ ts → vs ≡ ts → how ≡ choice_for vs → Kept e f
      → mid ≡ old ++ choice_code (length old) e.depth (depth_in x e.scope) (choice_for us) (end_of us) (numbered label first us) (label (first + length us))
      → (sure ≡ true → ArmsBefore at label how (map arm_of bs) first n f mid now) → (sure ≡ true → Kept f g) → (sure ≡ true → label n ≡ length now)
      → OnOk r (sure ≡ true → new ≡ now ++ code_at at (length now) g.depth g.scope g.spots (tree_of end))
      → OnOk r (sure ≡ true → new ≡ old ++ code_in at e (tree_of b))
  switch-code (Err z) sure b x arms l as_ bs end ts us vs how first n e f g old mid now new is ha hb hl he ht hu hv hh kept hm before same hs hn = tt
  switch-code (Ok z) sure b x arms l as_ bs end ts us vs how first n e f g old mid now new is ha hb hl he ht hu hv hh kept hm before same hs hn = λ is_sure.
      let done = arms-done at right label how (map arm_of bs) first n f g (tree_of end) mid now new (same is_sure) (before is_sure) (hs is_sure) (hn is_sure) in
      body-code at (tree_of b) (s.switch x (bodies_of (map arm_of bs) (tree_of end))) e old new (switch-at b x arms l bs end is hb hl)
      (switch-whole at right label e f x first how us (bodies_of (map arm_of bs) (tree_of end)) old mid new he kept
      (hu ∙ ht ∙ ap (map tag_of) (ha ∙ sym hb) ∙ sym (tags-of bs (tree_of end)))
      (hh ∙ ap choice_for (hv ∙ sym hu))
      (hm ∙ ap (λ w. old ++ choice_code w e.depth (depth_in x e.scope) (choice_for us) (end_of us) (numbered label first us) (label (first + length us))) (sym he))
      done.0 done.1)

  pub case-end-code : {T E : Type 0} (r : Result T E) (sure : Bool) (g : Step) (x i : ℕ) (others : Vec Arm Global) (l : Box Body Global) (as_ bs : List Arm) (end : Body) (ts vs : List ℕ)
      (how : Choice) (first n : ℕ) (f k : Env) (old now new : List Instr) → g ≡ step.Case x i others l → as_ ≡ others.items → bs ≡ others.items → end ≡ l.value → ts ≡ i ∷ map tag_of as_ → vs ≡ ts → how ≡ choice_for vs
      → (sure ≡ true → ArmsBefore at label how (map arm_of bs) first n f old now) → (sure ≡ true → Kept f k) → (sure ≡ true → label n ≡ length now)
      → OnOk r (sure ≡ true → new ≡ now ++ code_at at (length now) k.depth k.scope k.spots (tree_of end))
      → OnOk r (sure ≡ true → (e : Env) → Kept (after at e (step_of g)) f → new ≡ old ++ behind at e (step_of g) (length old))
  case-end-code (Err z) sure g x i others l as_ bs end ts vs how first n f k old now new is ha hb hl ht hv hh before same hs hn = tt
  case-end-code (Ok z) sure g x i others l as_ bs end ts vs how first n f k old now new is ha hb hl ht hv hh before same hs hn = λ is_sure e kept.
      let bodies = bodies_of (map arm_of bs) (tree_of end) in
      let roll = case-at g x i others l bs end is hb hl in
      end-code at (step_of g) (case_step x i bodies) e old new roll
      (case-end at right label e f x i how vs bodies old new (end-scope at (step_of g) (case_step x i bodies) e f roll kept)
      (hv ∙ ht ∙ ap (λ w. i ∷ map tag_of w) (ha ∙ sym hb) ∙ ap (λ w. i ∷ w) (sym (tags-of bs (tree_of end)))) hh
      (arms-done at right label how (map arm_of bs) first n f k (tree_of end) old now new (same is_sure) (before is_sure) (hs is_sure) (hn is_sure)).0)

  pub case-end-stands : {T E : Type 0} (r : Result T E) (sure : Bool) (g : Step) (x i n first m : ℕ) (others : Vec Arm Global) (l : Box Body Global) (as_ bs : List Arm) (end : Body) (ts vs : List ℕ)
      (how : Choice) (f k : Env) (old now new : List Instr) → g ≡ step.Case x i others l → as_ ≡ others.items → bs ≡ others.items → end ≡ l.value → ts ≡ i ∷ map tag_of as_ → vs ≡ ts → how ≡ choice_for vs → first ≡ suc n
      → (sure ≡ true → ArmsBefore at label how (map arm_of bs) first m f old now) → (sure ≡ true → Kept f k) → (sure ≡ true → label m ≡ length now)
      → OnOk r (sure ≡ true → new ≡ now ++ code_at at (length now) k.depth k.scope k.spots (tree_of end))
      → OnOk r (sure ≡ true → (e : Env) → Kept (after at e (step_of g)) f → Ends at label e n (step_of g) (length old))
  case-end-stands (Err z) sure g x i n first m others l as_ bs end ts vs how f k old now new is ha hb hl ht hv hh hf before same hs hn = tt
  case-end-stands (Ok z) sure g x i n first m others l as_ bs end ts vs how f k old now new is ha hb hl ht hv hh hf before same hs hn = λ is_sure e kept.
      let bodies = bodies_of (map arm_of bs) (tree_of end) in
      let roll = case-at g x i others l bs end is hb hl in
      end-stands at label (step_of g) (case_step x i bodies) e n (length old) roll
      (case-stands at right label e f x i n first how vs bodies (length old) (end-scope at (step_of g) (case_step x i bodies) e f roll kept)
      (hv ∙ ht ∙ ap (λ w. i ∷ map tag_of w) (ha ∙ sym hb) ∙ ap (λ w. i ∷ w) (sym (tags-of bs (tree_of end)))) hh hf
      (arms-done at right label how (map arm_of bs) first m f k (tree_of end) old now new (same is_sure) (before is_sure) (hs is_sure) (hn is_sure)).1)

  pub case-end-kept : {T E : Type 0} (r : Result T E) (sure : Bool) (g : Step) (x i : ℕ) (others : Vec Arm Global) (l : Box Body Global) (f k m : Env) → g ≡ step.Case x i others l
      → (sure ≡ true → Kept f k) → OnOk r (sure ≡ true → Kept k m) → OnOk r (sure ≡ true → (e : Env) → Kept (after at e (step_of g)) f → Kept e m)
  case-end-kept (Err z) sure g x i others l f k m is same hn = tt
  case-end-kept (Ok z) sure g x i others l f k m is same hn = λ is_sure e kept.
      let bodies = bodies_of (map arm_of others.items) (tree_of l.value) in
      let h = end-scope at (step_of g) (case_step x i bodies) e f (case-at g x i others l others.items l.value is refl refl) kept in
      let one = same is_sure in
      let two = hn is_sure in
      record { depth = two.depth ∙ one.depth ∙ h.depth; scope = two.scope ∙ one.scope ∙ h.scope; spots = two.spots ∙ one.spots ∙ h.spots }

  pub case-head-code : {E : Type 0} (r : Result ℕ E) (sure : Bool) (g : Step) (x i : ℕ) (others : Vec Arm Global) (l : Box Body Global) (as_ : List Arm) (e : Env) (old new : List Instr)
      → g ≡ step.Case x i others l → as_ ≡ others.items → e.pc ≡ length old
      → IfOk r (λ first. new ≡ old ++ (choice_code (length old) e.depth (depth_in x e.scope) (choice_for (i ∷ map tag_of as_)) (end_of (i ∷ map tag_of as_))
      (numbered label first (i ∷ map tag_of as_)) (label (first + length (i ∷ map tag_of as_))) ++ test_arm_code (choice_for (i ∷ map tag_of as_)) e.depth i (label (suc first))))
      → IfOk r (λ n. sure ≡ true → new ≡ old ++ before at label e n (step_of g))
  case-head-code (Err z) sure g x i others l as_ e old new is ha he hn = tt
  case-head-code (Ok first) sure g x i others l as_ e old new is ha he hn = λ is_sure.
      let bodies = bodies_of (map arm_of as_) (tree_of l.value) in
      head-code at label (step_of g) (case_step x i bodies) e first old new (case-at g x i others l as_ l.value is ha refl)
      (case-before at right label e x i first bodies (i ∷ map tag_of as_) old new he (ap (λ w. i ∷ w) (sym (tags-of as_ (tree_of l.value)))) hn)

  pub case-head-begins : {E : Type 0} (r : Result ℕ E) (sure : Bool) (g : Step) (x i : ℕ) (others : Vec Arm Global) (l : Box Body Global) (as_ : List Arm) (e : Env) (old : List Instr)
      → g ≡ step.Case x i others l → as_ ≡ others.items → e.pc ≡ length old
      → IfOk r (λ first. sure ≡ true → label first ≡ length old + length (choice_code (length old) e.depth (depth_in x e.scope) (choice_for (i ∷ map tag_of as_)) (end_of (i ∷ map tag_of as_))
      (numbered label first (i ∷ map tag_of as_)) (label (first + length (i ∷ map tag_of as_)))))
      → IfOk r (λ n. sure ≡ true → Begins at label e n (step_of g))
  case-head-begins (Err z) sure g x i others l as_ e old is ha he hl = tt
  case-head-begins (Ok first) sure g x i others l as_ e old is ha he hl = λ is_sure.
      let bodies = bodies_of (map arm_of as_) (tree_of l.value) in
      head-begins at label (step_of g) (case_step x i bodies) e first (case-at g x i others l as_ l.value is ha refl)
      (case-begins at right label e x i first bodies (i ∷ map tag_of as_) old he (ap (λ w. i ∷ w) (sym (tags-of as_ (tree_of l.value)))) (hl is_sure))

  pub guarded-whole : {T E : Type 0} (r : Result T E) (sure : Bool) (e : Env) (l number target here d : ℕ) (a : s.Body) (scope : Scope) (inside : List Spot) (spot left_ : Spot) (old mid new : List Instr)
      → e.pc ≡ length old → target ≡ label number → here ≡ slot e.depth → mid ≡ old ++ PushHandler here target ∷ []
      → (sure ≡ true → new ≡ mid ++ code_at at (length mid) d scope inside a) → d ≡ e.depth + 3 → scope ≡ e.scope → inside ≡ left_ ∷ []
      → left_ ≡ left_by e.depth spot → spot ≡ get_or e.spots l no_spot → OnOk r (sure ≡ true → label number ≡ length new)
      → OnOk r (sure ≡ true → new ≡ old ++ PushHandler (slot e.depth) (e.pc + 1 + guard_size at e.depth e.scope e.spots l a)
      ∷ code_at at (e.pc + 1) (e.depth + 3) e.scope (left_by e.depth (get_or e.spots l no_spot) ∷ []) a)
  guarded-whole (Err z) sure e l number target here d a scope inside spot left_ old mid new he ht hr hm hn hd hs hi hl hp settled = tt
  guarded-whole (Ok z) sure e l number target here d a scope inside spot left_ old mid new he ht hr hm hn hd hs hi hl hp settled = λ is_sure.
      guarded-code at right e l target a left_ old mid new he (hl ∙ ap (λ w. left_by e.depth w) hp) (hm ∙ ap (λ w. old ++ PushHandler w target ∷ []) hr)
      (hn is_sure ∙ ap (λ w. mid ++ code_at at (length mid) w scope inside a) hd ∙ ap (λ w. mid ++ code_at at (length mid) (e.depth + 3) w inside a) hs
      ∙ ap (λ w. mid ++ code_at at (length mid) (e.depth + 3) e.scope w a) hi)
      (ht ∙ settled is_sure)

  -- an arm in the code's form
  pub arms-turn : (how : Choice) (xs : List Arm) (i : ℕ) (x : Arm) (first n m : ℕ) (e f : Env) (old now mid new : List Instr) → i < length xs → x ≡ get_or xs i x
      → m ≡ suc n → Kept e f → ArmsSoFar at label how xs (drop i xs) first n e old now → label n ≡ length now
      → mid ≡ now ++ test_arm_code how f.depth x.tag (label (suc n)) → new ≡ mid ++ code_at at (length mid) f.depth f.scope f.spots (tree_of x.body)
      → ArmsSoFar at label how xs (drop (i + 1) xs) first m e old new
  arms-turn how xs i x first n m e f old now mid new lt is hm kept inv hl h0 h1 =
      arms-step at right label how xs i x x first n m e f old now mid new lt is hm kept inv hl
      (h0 ∙ ap (λ z. now ++ test_arm_code how f.depth z (label (suc n))) (sym (ap (λ (a : ArmTree). a.tag) (arm-is x))))
      (h1 ∙ ap (λ z. mid ++ code_at at (length mid) f.depth f.scope f.spots z) (sym (ap (λ (a : ArmTree). a.body) (arm-is x))))
