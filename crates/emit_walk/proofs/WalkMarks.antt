-- How far a walk comes, by what its node stands for.
use Rattle.std.proofs.Common.{◌≡◌, ◌≢◌, refl, ℕ, ◌+◌, List, [], ◌++◌, length, map, Bool, Vec, Box, Global, Result, OnOk, IfErr, sym, ap, ◌∙◌, subst, length-append, get_or}
use Rattle.ir_code.specs.declared.instr.Instr.{Instr}
use Rattle.first_values.specs.Equality.{Shape}
use Rattle.ssa_tree.specs.declared.tree.Body.{Body}
use Rattle.ssa_tree.specs.declared.tree.Body.TheVariants as body
use Rattle.ssa_tree.specs.declared.tree.Step.{Step}
use Rattle.ssa_tree.specs.TreeOf.{step_of, tree_of, onto}
use Rattle.machine_code.specs.Code.{Choice, Spot, no_spot, no_exit, exit_of, exits_of, goto_code, goto_size, test_arm_code, test_arm_size}
use Rattle.machine_code.proofs.Sizes.{exit_in, goto_length, test_arm_length}
use Rattle.machine_rows.specs.Table.{rows}
use Rattle.emit_parts.specs.declared.fault.WalkFault.{WalkFault}
use Rattle.emit_parts.specs.declared.fault.WalkFault.TheVariants.{Unsettled}
use Rattle.walk_labels.specs.Labels.{Frame, entered_all, numbers_of, opened_all, closed_all, ended_all}
use Rattle.walk_labels.specs.Marks.{Mark, Foretold, labels_at, past_body, past_heads, past_ends}
use Rattle.walk_labels.proofs.Marks.{ok-then, err-then, steps-walked, heads-told, rest-told, ends-told}
use Rattle.emit_walk.proofs.Rolls.{steps-at}

-- code that is so much longer
pub grown : {A : Type 0} (old new l : List A) (n : ℕ) → new ≡ old ++ l → length l ≡ n → length new ≡ length old + n
grown old new l n h k = ap length h ∙ length-append old l ∙ ap (λ z. length old + z) k

pub arm-test-long : (how : Choice) (d i q : ℕ) (old new : List Instr) → new ≡ old ++ test_arm_code how d i q → length new ≡ length old + test_arm_size how
arm-test-long how d i q old new h = grown old new (test_arm_code how d i q) (test_arm_size how) h (test_arm_length how d i q)

-- the code of a goto is as long as sizes say
pub goto-long : (d l : ℕ) (spots : List Spot) (spot : Spot) (xs : List ℕ) (old new : List Instr) → spot ≡ get_or spots l no_spot
    → new ≡ old ++ goto_code d spot xs → length new ≡ length old + goto_size (get_or (exits_of spots) l no_exit) xs
goto-long d l spots spot xs old new hs h =
    grown old new (goto_code d spot xs) (goto_size (get_or (exits_of spots) l no_exit) xs) h
    (goto_length d spot xs ∙ ap (λ z. goto_size (exit_of z) xs) hs ∙ ap (λ z. goto_size z xs) (sym (exit_in spots l)))

module _ (types : List Shape) where
  -- what the ends of steps ask for, and give
  abbrev EndsGive : List Step → List ℕ → Mark → Mark → Type 0
  EndsGive ys ms m2 m3 = (front back : List ℕ) (pc : ℕ) (f : Frame) → m2.frame ≡ entered_all f (map step_of ys)
      → m2.found ≡ front ++ (opened_all rows types pc f (map step_of ys) ++ back) → ms ≡ numbers_of rows types (length front) pc f (map step_of ys)
      → m3 ≡ past_ends rows types front back pc m2.place f (map step_of ys)

  module _ (b : Body) (ss : Vec Step Global) (r : Box Body Global) (xs ys : List Step) (rest : Body) (ns ms : List ℕ) (m0 m1 m2 : Mark) (is : b ≡ body.Steps ss r)
      (hx : xs ≡ ss.items) (hy : ys ≡ ss.items) (hr : rest ≡ r.value) (hm : ms ≡ ns) (h1 : m1 ≡ past_heads rows types (map step_of xs) m0) where
    tree : tree_of b ≡ onto (map step_of xs) (tree_of rest)
    tree = steps-at b ss r xs rest is hx hr

    -- what the ends of steps ask for
    abbrev EndsAsk : List Step → List ℕ → Bool → List ℕ → Type 0 → Type 0
    EndsAsk zs ks sure all A = (front back : List ℕ) (pc : ℕ) (f : Frame) → m2.frame ≡ entered_all f (map step_of zs)
        → m2.found ≡ front ++ (opened_all rows types pc f (map step_of zs) ++ back) → ks ≡ numbers_of rows types (length front) pc f (map step_of zs)
        → Foretold sure all (length front) (closed_all rows types m2.place pc f (map step_of zs))
        → Foretold sure all (length m2.found) (ended_all rows types m2.place f (map step_of zs)) → A

    pub steps-pass : {T : Type 0} (res : Result T WalkFault) (sure : Bool) (all : List ℕ) → ns ≡ numbers_of rows types (length m0.found) m0.place m0.frame (map step_of xs)
        → m2 ≡ past_body rows types (tree_of rest) m1 → IfErr res (λ e. EndsAsk ys ms sure all (e ≢ Unsettled))
        → IfErr res (λ e. Foretold sure all (length m0.found) (labels_at rows types m0 (tree_of b)) → e ≢ Unsettled)
    steps-pass res sure all hn h2 =
        err-then res (λ e h told. ends-told rows types (tree_of b) (tree_of rest) (map step_of xs) ns m0 m1 m2 tree h1 h2 sure all told hn
        (subst (λ z. EndsAsk xs z sure all (e ≢ Unsettled)) hm (subst (λ z. EndsAsk z ms sure all (e ≢ Unsettled)) (hy ∙ sym hx) h)))

    pub steps-rest : (sure : Bool) (all : List ℕ) → Foretold sure all (length m0.found) (labels_at rows types m0 (tree_of b))
        → Foretold sure all (length m1.found) (labels_at rows types m1 (tree_of rest))
    steps-rest sure all told =
        rest-told rows types (tree_of b) (tree_of rest) (map step_of xs) ns m0 m1 (past_body rows types (tree_of rest) m1) tree h1 refl sure all told

    pub steps-mark : {T E : Type 0} (res : Result T E) (m3 : Mark) → ns ≡ numbers_of rows types (length m0.found) m0.place m0.frame (map step_of xs)
        → m2 ≡ past_body rows types (tree_of rest) m1 → OnOk res (EndsGive ys ms m2 m3) → OnOk res (m3 ≡ past_body rows types (tree_of b) m0)
    steps-mark res m3 hn h2 =
        ok-then res (λ h. steps-walked rows types (tree_of b) (tree_of rest) (map step_of xs) ns m0 m1 m2 tree h1 h2 m3 hn
        (subst (λ z. EndsGive xs z m2 m3) hm (subst (λ z. EndsGive z ms m2 m3) (hy ∙ sym hx) h)))

  pub steps-heads : {A : Type 0} (b : Body) (ss : Vec Step Global) (r : Box Body Global) (xs : List Step) (m0 : Mark) → b ≡ body.Steps ss r → xs ≡ ss.items
      → (sure : Bool) (all : List ℕ) → Foretold sure all (length m0.found) (labels_at rows types m0 (tree_of b))
      → ((q : ℕ) → Foretold sure all (length m0.found) (closed_all rows types q m0.place m0.frame (map step_of xs)) → A) → A
  steps-heads b ss r xs m0 is hx sure all told =
      let gs = map step_of xs in
      let m1 = past_heads rows types gs m0 in
      heads-told rows types (tree_of b) (tree_of r.value) gs [] m0 m1 (past_body rows types (tree_of r.value) m1) (steps-at b ss r xs r.value is hx refl) refl refl sure all told
