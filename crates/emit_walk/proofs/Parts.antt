-- Guards, switches and what stands behind steps.
use Rattle.std.proofs.Common.{◌≡◌, refl, ℕ, suc, ◌+◌, ◌-◌, List, [], ◌∷◌, ◌++◌, length, drop, sym, ap, ◌∙◌, subst, arith, append_assoc, length-append, get_or, eq-eqb}
use Rattle.std.specs.Prelude.{if◌then◌else◌}
use Rattle.ir_code.specs.declared.instr.Instr.{Instr}
use Rattle.ir_code.specs.declared.instr.Instr.TheVariants.{Acc, PushHandler}
use Rattle.mlc_prims.specs.declared.basis.BasisPrimitive.{BasisPrimitive}
use Rattle.first_values.specs.Operations.{Operands, Test}
use Rattle.ir_ssa.specs.Tree.{Body, Bodies, last, arm, guard, switch}
use Rattle.ssa_tree.specs.TreeOf.{attempt_step, when_step, unless_step, case_step}
use Rattle.machine_code.specs.Rows.{AreRight, late_code, later}
use Rattle.machine_code.specs.Code.{Places, Scope, Spot, no_spot, left_by, slot, depth_in, depths_in, with_params, Choice, choice_of, choice_size, choice_code, arms_end, count, test_arm_size, test_arm_code, test_code, test_size, code_at, arms_at, body_size, guard_size, size}
use Rattle.machine_code.proofs.Sizes.{code_length, choice_length, chosen, left_exits, late_place, test_length}
use Rattle.emit_code.specs.Tags.{end_of, choice_for}
use Rattle.emit_parts.specs.Labels.{numbered}
use Rattle.emit_walk.specs.Walk.{Env, Kept, code_in, size_in, blocked, cases, after, behind, Stand, by_labels, before, Begins, Ends}
use Rattle.emit_walk.proofs.Steps.{labels-length}
use Rattle.emit_walk.proofs.Walking.{params-left, tags_in, count-tags, end-tags, how-tags, labels-tags, choice-whole}

by-kept : {A : Type 0} (e f : Env) → Kept e f → (g : ℕ → Scope → List Spot → A) → g f.depth f.scope f.spots ≡ g e.depth e.scope e.spots
by-kept e f k g = ap (λ z. g z f.scope f.spots) k.depth ∙ ap (λ z. g e.depth z f.spots) k.scope ∙ ap (λ z. g e.depth e.scope z) k.spots

pub kept-from : (e g f : Env) → g.depth ≡ e.depth → g.scope ≡ e.scope → g.spots ≡ e.spots → Kept g f → Kept e f
kept-from e g f d s l k = record { depth = k.depth ∙ d; scope = k.scope ∙ s; spots = k.spots ∙ l }

-- the latest variable, or parameters, leave their scope
pub kept-bound : (e f g : Env) (x : ℕ) → f.depth ≡ suc e.depth → f.scope ≡ (x, e.depth) ∷ e.scope → f.spots ≡ e.spots
    → g.depth ≡ f.depth - 1 → g.scope ≡ drop 1 f.scope → g.spots ≡ f.spots → Kept e g
kept-bound e f g x d s l gd gs gl = record { depth = omega (arith, d, gd); scope = gs ∙ ap (drop 1) s; spots = gl ∙ l }

pub kept-blocked : (e f g : Env) (params : List ℕ) → f.depth ≡ e.depth + length params → f.scope ≡ with_params params e.depth e.scope
    → g.depth ≡ f.depth - length params → g.scope ≡ drop (length params) f.scope → g.spots ≡ e.spots → Kept e g
kept-blocked e f g params d s gd gs gl =
    record { depth = omega (arith, d, gd); scope = gs ∙ ap (drop (length params)) s ∙ params-left params e.depth e.scope; spots = gl }

module _ (at : Places) (right : AreRight at.rows) where
  -- a body under a handler, whose place is known behind it
  pub guarded-code : (e : Env) (l place : ℕ) (a : Body) (s : Spot) (old mid new : List Instr) → e.pc ≡ length old → s ≡ left_by e.depth (get_or e.spots l no_spot)
      → mid ≡ old ++ PushHandler (slot e.depth) place ∷ [] → new ≡ mid ++ code_at at (length mid) (e.depth + 3) e.scope (s ∷ []) a → place ≡ length new
      → new ≡ old ++ PushHandler (slot e.depth) (e.pc + 1 + guard_size at e.depth e.scope e.spots l a)
      ∷ code_at at (e.pc + 1) (e.depth + 3) e.scope (left_by e.depth (get_or e.spots l no_spot) ∷ []) a
  guarded-code e l place a s old mid new he hs hm hn hp =
      let t = left_by e.depth (get_or e.spots l no_spot) in
      let inner = code_at at (e.pc + 1) (e.depth + 3) e.scope (t ∷ []) a in
      let far : length mid ≡ e.pc + 1 = omega (arith, ap length hm, length-append old (PushHandler (slot e.depth) place ∷ []), he) in
      let is : new ≡ mid ++ inner = hn ∙ ap (λ z. mid ++ code_at at z (e.depth + 3) e.scope (s ∷ []) a) far ∙ ap (λ z. mid ++ code_at at (e.pc + 1) (e.depth + 3) e.scope (z ∷ []) a) hs in
      let long : length inner ≡ guard_size at e.depth e.scope e.spots l a =
      code_length at right a (e.pc + 1) (e.depth + 3) e.scope (t ∷ []) ∙ ap (λ z. size at.rows at.types (e.depth + 3) e.scope z a) (left_exits e.depth e.spots l) in
      let there : place ≡ e.pc + 1 + guard_size at e.depth e.scope e.spots l a = omega (arith, hp, ap length is, length-append mid inner, long, far) in
      is ∙ ap (λ z. z ++ inner) (hm ∙ ap (λ z. old ++ PushHandler (slot e.depth) z ∷ []) there)
      ∙ append_assoc old (PushHandler (slot e.depth) (e.pc + 1 + guard_size at e.depth e.scope e.spots l a) ∷ []) inner

  pub guard-whole : (e f : Env) (l y : ℕ) (a b : Body) (old inside mid new : List Instr) → e.pc ≡ length old → Kept e f
      → inside ≡ old ++ PushHandler (slot e.depth) (e.pc + 1 + guard_size at e.depth e.scope e.spots l a)
      ∷ code_at at (e.pc + 1) (e.depth + 3) e.scope (left_by e.depth (get_or e.spots l no_spot) ∷ []) a
      → mid ≡ inside ++ Acc (slot f.depth) ∷ [] → new ≡ mid ++ code_at at (length mid) (suc f.depth) ((y, f.depth) ∷ f.scope) f.spots b
      → new ≡ old ++ code_in at e (guard l a y b)
  guard-whole e f l y a b old inside mid new he kept hi hm hn =
      let t = left_by e.depth (get_or e.spots l no_spot) in
      let n = guard_size at e.depth e.scope e.spots l a in
      let h = PushHandler (slot e.depth) (e.pc + 1 + n) in
      let ca = code_at at (e.pc + 1) (e.depth + 3) e.scope (t ∷ []) a in
      let cb = code_at at (e.pc + 2 + n) (suc e.depth) ((y, e.depth) ∷ e.scope) e.spots b in
      let long : length ca ≡ n =
      code_length at right a (e.pc + 1) (e.depth + 3) e.scope (t ∷ []) ∙ ap (λ z. size at.rows at.types (e.depth + 3) e.scope z a) (left_exits e.depth e.spots l) in
      let was : mid ≡ inside ++ Acc (slot e.depth) ∷ [] = hm ∙ ap (λ z. inside ++ Acc (slot z) ∷ []) kept.depth in
      let far : length mid ≡ e.pc + 2 + n =
      omega (arith, ap length was, length-append inside (Acc (slot e.depth) ∷ []), ap length hi, length-append old (h ∷ ca), long, he) in
      hn
      ∙ by-kept e f kept (λ d s ls. mid ++ code_at at (length mid) (suc d) ((y, d) ∷ s) ls b)
      ∙ ap (λ z. mid ++ code_at at z (suc e.depth) ((y, e.depth) ∷ e.scope) e.spots b) far
      ∙ ap (λ z. z ++ cb) (was ∙ ap (λ z. z ++ Acc (slot e.depth) ∷ []) hi)
      ∙ append_assoc (old ++ h ∷ ca) (Acc (slot e.depth) ∷ []) cb
      ∙ append_assoc old (h ∷ ca) (Acc (slot e.depth) ∷ cb)

  -- what stands behind a primitive
  pub attempt-end : (e f : Env) (k : Operands) (p : BasisPrimitive) (xs : List ℕ) (x depth : ℕ) (d : Body) (old mid new : List Instr)
      → Kept (after at e (attempt_step k p xs x d)) f → depth ≡ depth_in x f.scope → mid ≡ old ++ late_code (at.rows.late k p) at.packet_at (slot depth)
      → new ≡ mid ++ code_at at (length mid) f.depth f.scope f.spots d → new ≡ old ++ behind at e (attempt_step k p xs x d) (length old)
  attempt-end e f k p xs x depth d old mid new kept hd hm hn =
      let late = at.rows.late k p in
      let g = after at e (attempt_step k p xs x d) in
      let deep : depth ≡ e.depth = hd ∙ ap (depth_in x) kept.scope ∙ ap (λ z. if z then e.depth else depth_in x e.scope) (eq-eqb x x refl) in
      let was : mid ≡ old ++ late_code late at.packet_at (slot e.depth) = hm ∙ ap (λ z. old ++ late_code late at.packet_at (slot z)) deep in
      let far : length mid ≡ later late (length old) =
      ap length was ∙ length-append old (late_code late at.packet_at (slot e.depth)) ∙ late_place late at.packet_at (slot e.depth) (length old) in
      hn
      ∙ by-kept g f kept (λ d' s ls. mid ++ code_at at (length mid) d' s ls d)
      ∙ ap (λ z. mid ++ code_at at z g.depth g.scope g.spots d) far
      ∙ ap (λ z. z ++ code_at at (later late (length old)) g.depth g.scope g.spots d) was
      ∙ append_assoc old (late_code late at.packet_at (slot e.depth)) (code_at at (later late (length old)) g.depth g.scope g.spots d)

  pub when-end : (e f : Env) (t : Test) (xs : List ℕ) (d : Body) (old new : List Instr) → Kept (after at e (when_step t xs d)) f
      → new ≡ old ++ code_at at (length old) f.depth f.scope f.spots d → new ≡ old ++ behind at e (when_step t xs d) (length old)
  when-end e f t xs d old new kept hn =
      hn ∙ by-kept (after at e (when_step t xs d)) f kept (λ d' s ls. old ++ code_at at (length old) d' s ls d)

module _ (at : Places) (right : AreRight at.rows) (label : ℕ → ℕ) where
  pub stand-kept : (n q : ℕ) (e f : Env) (how : Choice) (bs : Bodies) → Kept e f → Stand at label n q f how bs → Stand at label n q e how bs
  stand-kept n q e f how (last b) k h = h
  stand-kept n q e f how (arm i b bs) k h =
      let same : size_in at f b ≡ size_in at e b = by-kept e f k (λ d s ls. body_size at d s ls b) in (
        h.0,
        stand-kept (suc n) (q + test_arm_size how + size_in at e b) e f how bs k (subst (λ z. Stand at label (suc n) (q + test_arm_size how + z) f how bs) same h.1),
      )

  -- the choice by tags alone
  choice-tags : (pc d x n : ℕ) (ts : List ℕ) (bs : Bodies) → ts ≡ tags_in bs
      → choice_code pc d x (choice_for ts) (end_of ts) (numbered label n ts) (label (n + length ts))
      ≡ choice_code pc d x (choice_of bs) (arms_end bs) (by_labels at label n bs) (label (n + count bs))
  choice-tags pc d x n ts bs is =
      let us = tags_in bs in
      ap (λ z. choice_code pc d x (choice_for z) (end_of z) (numbered label n z) (label (n + length z))) is
      ∙ ap (λ z. choice_code pc d x z (end_of us) (numbered label n us) (label (n + length us))) (sym (how-tags bs))
      ∙ ap (λ z. choice_code pc d x (choice_of bs) z (numbered label n us) (label (n + length us))) (sym (end-tags bs))
      ∙ ap (λ z. choice_code pc d x (choice_of bs) (arms_end bs) z (label (n + length us))) (sym (labels-tags at right label n bs))
      ∙ ap (λ z. choice_code pc d x (choice_of bs) (arms_end bs) (by_labels at label n bs) (label (n + z))) (sym (count-tags bs))

  choice-long : (pc d x n : ℕ) (bs : Bodies)
      → length (choice_code pc d x (choice_of bs) (arms_end bs) (by_labels at label n bs) (label (n + count bs))) ≡ choice_size (choice_of bs) bs
  choice-long pc d x n bs = choice_length pc d x (choice_of bs) bs (by_labels at label n bs) (label (n + count bs)) (chosen bs) (labels-length at right label n bs)

  -- .. and how long it is
  pub choice-grown : (pc d x n : ℕ) (ts : List ℕ) (bs : Bodies) → ts ≡ tags_in bs
      → length (choice_code pc d x (choice_for ts) (end_of ts) (numbered label n ts) (label (n + length ts))) ≡ choice_size (choice_of bs) bs
  choice-grown pc d x n ts bs is = ap length (choice-tags pc d x n ts bs is) ∙ choice-long pc d x n bs

  pub switch-whole : (e f : Env) (x first : ℕ) (how : Choice) (ts : List ℕ) (bs : Bodies) (old mid new : List Instr) → e.pc ≡ length old → Kept e f
      → ts ≡ tags_in bs → how ≡ choice_for ts
      → mid ≡ old ++ choice_code e.pc e.depth (depth_in x e.scope) (choice_for ts) (end_of ts) (numbered label first ts) (label (first + length ts))
      → new ≡ mid ++ arms_at at (length mid) f.depth f.scope f.spots how bs → Stand at label first (length mid) f how bs
      → new ≡ old ++ code_in at e (switch x bs)
  switch-whole e f x first how ts bs old mid new he kept ht hh hm hn stand =
      let h = choice_of bs in
      let q = e.pc + choice_size h bs in
      let y = depth_in x e.scope in
      let c = choice_code e.pc e.depth y h (arms_end bs) (by_labels at label first bs) (label (first + count bs)) in
      let was : mid ≡ old ++ c = hm ∙ ap (λ z. old ++ z) (choice-tags e.pc e.depth y first ts bs ht) in
      let far : length mid ≡ q = omega (arith, ap length was, length-append old c, choice-long e.pc e.depth y first bs, he) in
      let same : how ≡ h = hh ∙ ap choice_for ht ∙ sym (how-tags bs) in
      let stands : Stand at label first q e h bs =
      stand-kept first q e f h bs kept (subst (λ z. Stand at label first q f z bs) same (subst (λ z. Stand at label first z f how bs) far stand)) in
      hn
      ∙ by-kept e f kept (λ d s ls. mid ++ arms_at at (length mid) d s ls how bs)
      ∙ ap (λ z. mid ++ arms_at at (length mid) e.depth e.scope e.spots z bs) same
      ∙ ap (λ z. mid ++ arms_at at z e.depth e.scope e.spots h bs) far
      ∙ ap (λ z. z ++ arms_at at q e.depth e.scope e.spots h bs) was
      ∙ append_assoc old c (arms_at at q e.depth e.scope e.spots h bs)
      ∙ ap (λ z. old ++ (z ++ arms_at at q e.depth e.scope e.spots h bs)) (sym (choice-whole at right label h e.pc e.depth y (arms_end bs) first q e bs stands))

  -- a switch whose first arm is the rest
  pub case-before : (e : Env) (x i first : ℕ) (others : Bodies) (ts : List ℕ) (old new : List Instr) → e.pc ≡ length old → ts ≡ tags_in (cases at i others)
      → new ≡ old ++ (choice_code (length old) e.depth (depth_in x e.scope) (choice_for ts) (end_of ts) (numbered label first ts) (label (first + length ts))
      ++ test_arm_code (choice_for ts) e.depth i (label (suc first)))
      → new ≡ old ++ before at label e first (case_step x i others)
  case-before e x i first others ts old new he ht hn =
      let bs = cases at i others in
      let y = depth_in x e.scope in
      let t = label (suc first) in
      let c = choice_code e.pc e.depth y (choice_of bs) (arms_end bs) (by_labels at label first bs) (label (first + count bs)) in
      hn
      ∙ ap (λ z. old ++ (choice_code z e.depth y (choice_for ts) (end_of ts) (numbered label first ts) (label (first + length ts)) ++ test_arm_code (choice_for ts) e.depth i t)) (sym he)
      ∙ ap (λ z. old ++ (z ++ test_arm_code (choice_for ts) e.depth i t)) (choice-tags e.pc e.depth y first ts bs ht)
      ∙ ap (λ z. old ++ (c ++ test_arm_code z e.depth i t)) (ap choice_for ht ∙ sym (how-tags bs))

  pub case-begins : (e : Env) (x i first : ℕ) (others : Bodies) (ts : List ℕ) (old : List Instr) → e.pc ≡ length old → ts ≡ tags_in (cases at i others)
      → label first ≡ length old
      + length (choice_code (length old) e.depth (depth_in x e.scope) (choice_for ts) (end_of ts) (numbered label first ts) (label (first + length ts)))
      → Begins at label e first (case_step x i others)
  case-begins e x i first others ts old he ht hl =
      let bs = cases at i others in
      let y = depth_in x e.scope in
      hl
      ∙ ap (λ z. z + length (choice_code z e.depth y (choice_for ts) (end_of ts) (numbered label first ts) (label (first + length ts)))) (sym he)
      ∙ ap (λ z. e.pc + length z) (choice-tags e.pc e.depth y first ts bs ht)
      ∙ ap (λ z. e.pc + z) (choice-long e.pc e.depth y first bs)

  pub case-end : (e f : Env) (x i : ℕ) (how : Choice) (ts : List ℕ) (others : Bodies) (old new : List Instr) → Kept (after at e (case_step x i others)) f
      → ts ≡ tags_in (cases at i others) → how ≡ choice_for ts → new ≡ old ++ arms_at at (length old) f.depth f.scope f.spots how others
      → new ≡ old ++ behind at e (case_step x i others) (length old)
  case-end e f x i how ts others old new kept ht hh hn =
      hn
      ∙ by-kept (after at e (case_step x i others)) f kept (λ d s ls. old ++ arms_at at (length old) d s ls how others)
      ∙ ap (λ z. old ++ arms_at at (length old) e.depth e.scope e.spots z others) (hh ∙ ap choice_for ht ∙ sym (how-tags (cases at i others)))

  pub case-stands : (e f : Env) (x i n m : ℕ) (how : Choice) (ts : List ℕ) (others : Bodies) (q : ℕ) → Kept (after at e (case_step x i others)) f
      → ts ≡ tags_in (cases at i others) → how ≡ choice_for ts → m ≡ suc n → Stand at label m q f how others → Ends at label e n (case_step x i others) q
  case-stands e f x i n m how ts others q kept ht hh hm stand =
      let bs = cases at i others in
      stand-kept (suc n) q e f (choice_of bs) others (kept-from e (after at e (case_step x i others)) f refl refl refl kept)
      (subst (λ z. Stand at label (suc n) q f z others) (hh ∙ ap choice_for ht ∙ sym (how-tags bs)) (subst (λ z. Stand at label z q f how others) hm stand))

  -- a body where a test doesn't hold
  pub unless-before : (e : Env) (n place : ℕ) (t : Test) (xs : List ℕ) (d : Body) (old mid new : List Instr) → e.pc ≡ length old
      → mid ≡ old ++ test_code at (length old) e.depth t (depths_in xs e.scope) place → new ≡ mid ++ code_at at (length mid) e.depth e.scope e.spots d
      → place ≡ length new → new ≡ old ++ before at label e n (unless_step t xs d)
  unless-before e n place t xs d old mid new he hm hn hp =
      let q = e.pc + test_size at.rows at.types t in
      let ys = depths_in xs e.scope in
      let inner = code_at at q e.depth e.scope e.spots d in
      let was : mid ≡ old ++ test_code at e.pc e.depth t ys place = hm ∙ ap (λ z. old ++ test_code at z e.depth t ys place) (sym he) in
      let far : length mid ≡ q = omega (arith, ap length was, length-append old (test_code at e.pc e.depth t ys place), test_length at right e.pc e.depth t ys place, he) in
      let is : new ≡ mid ++ inner = hn ∙ ap (λ z. mid ++ code_at at z e.depth e.scope e.spots d) far in
      let there : place ≡ q + size_in at e d = omega (arith, hp, ap length is, length-append mid inner, code_length at right d q e.depth e.scope e.spots, far) in
      is
      ∙ ap (λ z. z ++ inner) (was ∙ ap (λ z. old ++ test_code at e.pc e.depth t ys z) there)
      ∙ append_assoc old (test_code at e.pc e.depth t ys (q + size_in at e d)) inner

  pub blocked-scope : (e f k : Env) (params : List ℕ) (spots : List Spot) (d : Body) → Kept e f → k.depth ≡ f.depth + length params
      → k.scope ≡ with_params params f.depth f.scope → k.spots ≡ spots → Kept (blocked at params spots e d) k
  blocked-scope e f k params spots d kept hd hs hl = record {
    depth = hd ∙ ap (λ z. z + length params) kept.depth;
    scope = hs ∙ ap (λ z. with_params params z f.scope) kept.depth ∙ ap (λ z. with_params params e.depth z) kept.scope;
    spots = hl;
  }
