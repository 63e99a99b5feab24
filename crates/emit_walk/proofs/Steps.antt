-- A body of steps is what is before the rest, the rest, and what is behind it.
use Rattle.std.proofs.Common.{◌≡◌, refl, ℕ, suc, ◌+◌, List, [], ◌∷◌, ◌++◌, length, map, sym, ap, ◌∙◌, subst, arith, append_assoc, append-nil, length-append, drop, get_or}
use Rattle.ir_code.specs.declared.instr.Instr.TheVariants.{Jmp, Call as CallRow, Acc}
use Rattle.ir_ssa.specs.Tree.{Body, Bodies, last, arm, ret}
use Rattle.ssa_tree.specs.TreeOf.{StepTree, plain_step, make_step, call_step, attempt_step, turn_step, label_step, again_step, when_step, unless_step, case_step, put, onto}
use Rattle.machine_code.specs.Rows.{AreRight}
use Rattle.machine_code.specs.Code.{Places, Choice, by_table, by_search, by_tests, slot, depth_in, depths_in, args_of, callee_at, count, arms_end, choice_of, choice_size, choice_code, targets, last_at, test_arm_size, test_arm_code, test_code, test_size, plain_code, make_code, push_code, code_at, arms_at}
use Rattle.machine_code.proofs.Pieces.{push_length}
use Rattle.machine_code.proofs.Sizes.{code_length, plain_length, test_length, make_length, args_count, choice_length, test_arm_length, chosen}
use Rattle.emit_walk.specs.Walk.{Env, code_in, size_in, spot_in, cases, after, after_all, behind, behind_all, Stand, by_labels, before, before_all, Begins, Ends, BeginAll, EndAll}

module _ (at : Places) (right : AreRight at.rows) (label : ℕ → ℕ) where
  pub stand-first : (n q : ℕ) (e : Env) (how : Choice) (bs : Bodies) → Stand at label n q e how bs → label n ≡ q
  stand-first n q e how (last b) h = h
  stand-first n q e how (arm i b bs) h = h.0

  pub stand-targets : (how : Choice) → test_arm_size how ≡ 0 → (n q : ℕ) (e : Env) (bs : Bodies) → Stand at label n q e how bs
      → (by_labels at label n bs ≡ targets at q e.depth e.scope e.spots bs) × (label (n + count bs) ≡ last_at at q e.depth e.scope e.spots bs)
  stand-targets how z n q e (last b) h = (refl, ap label (let t : n + 0 ≡ n = omega arith in t) ∙ h)
  stand-targets how z n q e (arm i b bs) h =
      let next : q + test_arm_size how + size_in at e b ≡ q + size_in at e b = ap (λ s. q + s + size_in at e b) z ∙ (let t : q + 0 + size_in at e b ≡ q + size_in at e b = omega arith in t) in
      let more = stand-targets how z (suc n) (q + size_in at e b) e bs (subst (λ p. Stand at label (suc n) p e how bs) next h.1) in (
        ap (λ p. record { tag = i; place = p } ∷ by_labels at label (suc n) bs) h.0 ∙ ap (λ l. record { tag = i; place = q } ∷ l) more.0,
        ap label (let t : n + suc (count bs) ≡ suc n + count bs = omega arith in t) ∙ more.1,
      )

  choice-part : (how : Choice) (pc d x m i n q : ℕ) (e : Env) (b : Body) (bs : Bodies) → label n ≡ q
      → Stand at label (suc n) (q + test_arm_size how + size_in at e b) e how bs
      → choice_code pc d x how m (targets at q e.depth e.scope e.spots (arm i b bs)) (last_at at q e.depth e.scope e.spots (arm i b bs))
      ++ test_arm_code how d i (q + test_arm_size how + size_in at e b)
      ≡ choice_code pc d x how m (by_labels at label n (arm i (ret 0) bs)) (label (n + count (arm i b bs))) ++ test_arm_code how d i (label (suc n))
  choice-part by_table pc d x m i n q e b bs h s =
      let t = stand-targets by_table refl n q e (arm i b bs) (h, s) in
      sym (ap (λ l. choice_code pc d x by_table m l (label (n + count (arm i b bs))) ++ []) t.0
      ∙ ap (λ p. choice_code pc d x by_table m (targets at q e.depth e.scope e.spots (arm i b bs)) p ++ []) t.1)
  choice-part by_search pc d x m i n q e b bs h s =
      let t = stand-targets by_search refl n q e (arm i b bs) (h, s) in
      sym (ap (λ l. choice_code pc d x by_search m l (label (n + count (arm i b bs))) ++ []) t.0
      ∙ ap (λ p. choice_code pc d x by_search m (targets at q e.depth e.scope e.spots (arm i b bs)) p ++ []) t.1)
  choice-part by_tests pc d x m i n q e b bs h s =
      let t = stand-first (suc n) (q + test_arm_size by_tests + size_in at e b) e by_tests bs s in
      sym (ap (λ p. choice_code pc d x by_tests m (by_labels at label n (arm i (ret 0) bs)) (label (n + count (arm i b bs))) ++ test_arm_code by_tests d i p) t)

  pub labels-length : (n : ℕ) (bs : Bodies) → length (by_labels at label n bs) ≡ count bs
  labels-length n (last b) = refl
  labels-length n (arm i b bs) = ap suc (labels-length (suc n) bs)

  size-same : (how : Choice) (i : ℕ) (b : Body) (bs : Bodies) → choice_size how (arm i b bs) ≡ choice_size how (cases at i bs)
  size-same by_table i b bs = refl
  size-same by_search i b bs = refl
  size-same by_tests i b bs = refl

  -- a step
  pub split-one : (e : Env) (n : ℕ) (g : StepTree) (b : Body) → Begins at label e n g → Ends at label e n g ((after at e g).pc + size_in at (after at e g) b)
      → code_in at e (put g b) ≡ before at label e n g ++ (code_in at (after at e g) b ++ behind at e g ((after at e g).pc + size_in at (after at e g) b))
  split-one e n (plain_step p xs x) b o h = ap (λ l. plain_code at e.pc e.depth p (depths_in xs e.scope) ++ l) (sym (append-nil _))
  split-one e n (make_step t qs x) b o h = ap (λ l. make_code e.depth t e.scope qs ++ l) (sym (append-nil _))
  split-one e n (call_step p c xs x) b o h =
      let rest = code_in at (after at e (call_step p c xs x)) b in
      let ends = CallRow (callee_at at c) (slot e.depth) ∷ Acc (slot e.depth) ∷ [] in
      ap (λ l. push_code (suc (suc e.depth)) (args_of c e.scope xs) ++ (ends ++ l)) (sym (append-nil rest))
      ∙ sym (append_assoc (push_code (suc (suc e.depth)) (args_of c e.scope xs)) ends (rest ++ []))
  split-one e n (attempt_step k p xs x d) b o h =
      let g = attempt_step k p xs x d in
      ap (λ z. at.rows.code k p at.packet_at e.pc (slot e.depth) z (map slot (depths_in xs e.scope)) ++ (code_in at (after at e g) b ++ behind at e g ((after at e g).pc + size_in at (after at e g) b))) (sym h)
  split-one e n (turn_step p) b o h = ap (λ l. Jmp (e.pc + 1) ∷ l) (sym (append-nil (code_in at (after at e (turn_step p)) b)))
  split-one e n (label_step params d) b o h = ap (λ l. code_at at e.pc e.depth e.scope (spot_in at e d ∷ e.spots) d ++ l) (sym (append-nil _))
  split-one e n (again_step params d) b o h = ap (λ l. code_at at e.pc e.depth e.scope (spot_in at e d ∷ e.spots) d ++ l) (sym (append-nil _))
  split-one e n (when_step q xs d) b o h =
      let g = when_step q xs d in
      ap (λ z. test_code at e.pc e.depth q (depths_in xs e.scope) z ++ (code_in at (after at e g) b ++ behind at e g ((after at e g).pc + size_in at (after at e g) b))) (sym h)
  split-one e n (unless_step q xs d) b o h =
      let rest = code_in at (after at e (unless_step q xs d)) b in
      let test = test_code at e.pc e.depth q (depths_in xs e.scope) (e.pc + test_size at.rows at.types q + size_in at e d) in
      let other = code_at at (e.pc + test_size at.rows at.types q) e.depth e.scope e.spots d in
      ap (λ l. test ++ (other ++ l)) (sym (append-nil rest)) ∙ sym (append_assoc test other (rest ++ []))
  split-one e n (case_step x i others) b o h =
      let how = choice_of (cases at i others) in
      let q = e.pc + choice_size how (cases at i others) in
      let inner = code_in at (after at e (case_step x i others)) b ++ arms_at at (q + test_arm_size how + size_in at e b) e.depth e.scope e.spots how others in
      let choice = choice_code e.pc e.depth (depth_in x e.scope) how (arms_end (arm i b others)) (targets at q e.depth e.scope e.spots (arm i b others)) (last_at at q e.depth e.scope e.spots (arm i b others)) in
      let test = test_arm_code how e.depth i (q + test_arm_size how + size_in at e b) in
      let place = λ (z : ℕ). e.pc + z in
      ap (λ z. choice_code e.pc e.depth (depth_in x e.scope) how (arms_end (arm i b others)) (targets at (place z) e.depth e.scope e.spots (arm i b others)) (last_at at (place z) e.depth e.scope e.spots (arm i b others)) ++ arms_at at (place z) e.depth e.scope e.spots how (arm i b others)) (size-same how i b others)
      ∙ sym (append_assoc choice test inner)
      ∙ ap (λ l. l ++ inner) (choice-part how e.pc e.depth (depth_in x e.scope) (arms_end (arm i b others)) i n q e b others o h)

  pub before-length : (e : Env) (n : ℕ) (g : StepTree) → e.pc + length (before at label e n g) ≡ (after at e g).pc
  before-length e n (plain_step p xs x) = ap (λ z. e.pc + z) (plain_length at right e.pc e.depth p (depths_in xs e.scope))
  before-length e n (make_step t qs x) = ap (λ z. e.pc + z) (make_length e.depth t e.scope qs)
  before-length e n (call_step p c xs x) =
      let args = args_of c e.scope xs in
      omega (arith, length-append (push_code (suc (suc e.depth)) args) (CallRow (callee_at at c) (slot e.depth) ∷ Acc (slot e.depth) ∷ []), push_length (suc (suc e.depth)) args, args_count at right c e.scope xs)
  before-length e n (attempt_step k p xs x d) = ap (λ z. e.pc + z) (right.long k p at.packet_at e.pc (slot e.depth) (label n) _)
  before-length e n (turn_step p) = refl
  before-length e n (label_step params d) = ap (λ z. e.pc + z) (code_length at right d e.pc e.depth e.scope (spot_in at e d ∷ e.spots))
  before-length e n (again_step params d) = ap (λ z. e.pc + z) (code_length at right d e.pc e.depth e.scope (spot_in at e d ∷ e.spots))
  before-length e n (when_step q xs d) = ap (λ z. e.pc + z) (test_length at right e.pc e.depth q (depths_in xs e.scope) (label n))
  before-length e n (unless_step q xs d) =
      let t = e.pc + test_size at.rows at.types q in
      let test = test_code at e.pc e.depth q (depths_in xs e.scope) (t + size_in at e d) in
      let other = code_at at t e.depth e.scope e.spots d in
      omega (arith, length-append test other, test_length at right e.pc e.depth q (depths_in xs e.scope) (t + size_in at e d), code_length at right d t e.depth e.scope e.spots)
  before-length e n (case_step x i others) =
      let bs = cases at i others in
      let how = choice_of bs in
      let choice = choice_code e.pc e.depth (depth_in x e.scope) how (arms_end bs) (by_labels at label n bs) (label (n + count bs)) in
      omega (
        arith,
        length-append choice (test_arm_code how e.depth i (label (suc n))),
        choice_length e.pc e.depth (depth_in x e.scope) how bs (by_labels at label n bs) (label (n + count bs)) (chosen bs) (labels-length n bs),
        test_arm_length how e.depth i (label (suc n)),
      )

  pub behind-place : (e : Env) (ns : List ℕ) (gs : List StepTree) → e.pc + length (before_all at label e ns gs) ≡ (after_all at e gs).pc
  behind-place e ns [] = omega arith
  behind-place e ns (g ∷ gs) =
      let n = get_or ns 0 0 in
      omega (arith, length-append (before at label e n g) (before_all at label (after at e g) (drop 1 ns) gs), before-length e n g, behind-place (after at e g) (drop 1 ns) gs)

  -- all steps of a body
  pub split-all : (e : Env) (ns : List ℕ) (gs : List StepTree) (b : Body) (q : ℕ) → q ≡ (after_all at e gs).pc + size_in at (after_all at e gs) b
      → BeginAll at label e ns gs → EndAll at label e ns gs q
      → code_in at e (onto gs b) ≡ before_all at label e ns gs ++ (code_in at (after_all at e gs) b ++ behind_all at e gs q)
  split-all e ns [] b q hq o h = sym (append-nil _)
  split-all e ns (g ∷ gs) b q hq o h =
      let n = get_or ns 0 0 in
      let f = after at e g in
      let rest = onto gs b in
      let pre = before_all at label f (drop 1 ns) gs in
      let mid = code_in at (after_all at f gs) b in
      let ends = behind_all at f gs q in
      let inner = split-all f (drop 1 ns) gs b q hq o.1 h.0 in
      let far : f.pc + size_in at f rest ≡ q + length ends =
      omega (
        arith,
        sym (code_length at right rest f.pc f.depth f.scope f.spots),
        ap length inner,
        length-append pre (mid ++ ends),
        length-append mid ends,
        code_length at right b (after_all at f gs).pc (after_all at f gs).depth (after_all at f gs).scope (after_all at f gs).spots,
        behind-place f (drop 1 ns) gs,
        hq,
      ) in
      split-one e n g rest o.0 (subst (λ z. Ends at label e n g z) (sym far) h.1)
      ∙ ap (λ z. before at label e n g ++ (code_in at f rest ++ behind at e g z)) far
      ∙ ap (λ l. before at label e n g ++ (l ++ behind at e g (q + length ends))) inner
      ∙ ap (λ l. before at label e n g ++ l) (append_assoc pre (mid ++ ends) (behind at e g (q + length ends)) ∙ ap (λ l. pre ++ l) (append_assoc mid ends (behind at e g (q + length ends))))
      ∙ sym (append_assoc (before at label e n g) pre (mid ++ (ends ++ behind at e g (q + length ends))))
