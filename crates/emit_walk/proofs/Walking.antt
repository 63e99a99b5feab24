-- The walk, one part after the other.
use Rattle.std.proofs.Common.{◌≡◌, refl, ℕ, zero, suc, ◌+◌, ◌*◌, List, [], ◌∷◌, ◌++◌, length, map, take, drop, ◌<◌, ◌≤◌, sym, ap, ◌∙◌, subst, arith, append_assoc, append-nil, length-append, get_or}
use Rattle.std.proofs.lemmas.List.{take_more, drop_more, drop_all, get_or-drop}
use Rattle.std.specs.Prelude.{max, nat_lt, nat_le, ◌&&◌, if◌then◌else◌}
use Rattle.ir_code.specs.declared.instr.Instr.{Instr}
use Rattle.ir_ssa.specs.Tree.{Body, Bodies, last, arm}
use Rattle.ssa_tree.specs.TreeOf.{StepTree, ArmTree, step_of, arm_of, bodies_of, onto}
use Rattle.ssa_tree.specs.declared.tree.Arm.{Arm}
use Rattle.ssa_tree.specs.declared.tree.Step.{Step}
use Rattle.machine_code.specs.Rows.{AreRight}
use Rattle.machine_code.specs.Code.{Places, Scope, Choice, by_table, by_search, by_tests, block_at, block_place, with_params, count, arms_end, rise, choice_of, choice_code, targets, last_at, test_arm_size, test_arm_code, code_at, arms_at}
use Rattle.machine_code.proofs.Sizes.{code_length, test_arm_length}
use Rattle.emit_code.specs.Tags.{end_of, rise_from, choice_for}
use Rattle.emit_parts.specs.Labels.{numbered, tag_of}
use Rattle.emit_walk.specs.Walk.{Env, Kept, code_in, size_in, spot_in, after, after_all, behind, behind_all, Stand, ArmsBefore, by_labels, before, before_all, Begins, Ends, BeginAll, EndAll}
use Rattle.emit_walk.proofs.Steps.{before-length, split-all, stand-first, stand-targets}

-- Places.

pub env-is : (e f : Env) → f.pc ≡ e.pc → Kept e f → f ≡ e
env-is e f p k =
    ap (λ z. record { pc = z; depth = f.depth; scope = f.scope; spots = f.spots }) p
    ∙ ap (λ z. record { pc = e.pc; depth = z; scope = f.scope; spots = f.spots }) k.depth
    ∙ ap (λ z. record { pc = e.pc; depth = e.depth; scope = z; spots = f.spots }) k.scope
    ∙ ap (λ z. record { pc = e.pc; depth = e.depth; scope = e.scope; spots = z }) k.spots

pub kept-then : (e f g : Env) → Kept e f → Kept f g → Kept e g
kept-then e f g h k = record { depth = k.depth ∙ h.depth; scope = k.scope ∙ h.scope; spots = k.spots ∙ h.spots }

pub kept-same : (e f g : Env) → f ≡ e → Kept f g → Kept e g
kept-same e f g h k = subst (λ z. Kept z g) h k

drop-one : {A : Type 0} (n : ℕ) (l : List A) → drop (suc n) l ≡ drop 1 (drop n l)
drop-one zero l = refl
drop-one (suc n) [] = refl
drop-one (suc n) (x ∷ l) = drop-one n l

pub params-left : (xs : List ℕ) (d : ℕ) (scope : Scope) → drop (length xs) (with_params xs d scope) ≡ scope
params-left [] d scope = refl
params-left (x ∷ xs) d scope = drop-one (length xs) (with_params xs (suc d) ((x, d) ∷ scope)) ∙ ap (drop 1) (params-left xs (suc d) ((x, d) ∷ scope))

-- Tags.

abbrev pub tags_in : Bodies → List ℕ
tags_in (last b) = []
tags_in (arm i b bs) = i ∷ tags_in bs

pub tags-of : (as_ : List Arm) (l : Body) → tags_in (bodies_of (map arm_of as_) l) ≡ map tag_of as_
tags-of [] l = refl
tags-of (a ∷ as_) l = ap (λ ts. tag_of a ∷ ts) (tags-of as_ l)

pub count-tags : (bs : Bodies) → count bs ≡ length (tags_in bs)
count-tags (last b) = refl
count-tags (arm i b bs) = ap suc (count-tags bs)

pub end-tags : (bs : Bodies) → arms_end bs ≡ end_of (tags_in bs)
end-tags (last b) = refl
end-tags (arm i b bs) = ap (λ z. max (suc i) z) (end-tags bs)

rise-tags : (t : ℕ) (bs : Bodies) → rise t bs ≡ rise_from t (tags_in bs)
rise-tags t (last b) = refl
rise-tags t (arm i b bs) = ap (λ z. nat_le t i && z) (rise-tags (suc i) bs)

pub how-tags : (bs : Bodies) → choice_of bs ≡ choice_for (tags_in bs)
how-tags bs =
    ap (λ z. if nat_le z (2 * count bs) then by_table else (if nat_lt 4 (count bs) && rise 0 bs then by_search else by_tests)) (end-tags bs)
    ∙ ap (λ z. if nat_le (end_of (tags_in bs)) (2 * z) then by_table else (if nat_lt 4 z && rise 0 bs then by_search else by_tests)) (count-tags bs)
    ∙ ap (λ z. if nat_le (end_of (tags_in bs)) (2 * length (tags_in bs)) then by_table else (if nat_lt 4 (length (tags_in bs)) && z then by_search else by_tests)) (rise-tags 0 bs)

-- What is known while steps begin, and in the middle of arms.

module _ (at : Places) (label : ℕ → ℕ) where
  pub record HeadsSoFar (gs rest : List StepTree) (ns : List ℕ) (e f : Env) (old now : List Instr) : Type 0 where
    pub code : (ms : List ℕ) → old ++ before_all at label e (ns ++ ms) gs ≡ now ++ before_all at label f ms rest
    pub scope : after_all at f rest ≡ after_all at e gs
    pub begins : (ms : List ℕ) → BeginAll at label f ms rest → BeginAll at label e (ns ++ ms) gs

  abbrev pub ArmsSoFar : Choice → (arms rest : List Arm) (first n : ℕ) (e : Env) (old now : List Instr) → Type 0
  ArmsSoFar how arms rest first n e old now =
      (l : Body) → Stand at label n (length now) e how (bodies_of (map arm_of rest) l)
      → (old ++ arms_at at (length old) e.depth e.scope e.spots how (bodies_of (map arm_of arms) l) ≡ now ++ arms_at at (length now) e.depth e.scope e.spots how (bodies_of (map arm_of rest) l))
      × Stand at label first (length old) e how (bodies_of (map arm_of arms) l)

module _ (at : Places) (right : AreRight at.rows) (label : ℕ → ℕ) where
  pub labels-tags : (n : ℕ) (bs : Bodies) → by_labels at label n bs ≡ numbered label n (tags_in bs)
  labels-tags n (last b) = refl
  labels-tags n (arm i b bs) = ap (λ l. record { tag = i; place = label n } ∷ l) (labels-tags (suc n) bs)

  -- the choice of a whole switch
  pub choice-whole : (how : Choice) (pc d x m n q : ℕ) (e : Env) (bs : Bodies) → Stand at label n q e how bs
      → choice_code pc d x how m (targets at q e.depth e.scope e.spots bs) (last_at at q e.depth e.scope e.spots bs)
      ≡ choice_code pc d x how m (by_labels at label n bs) (label (n + count bs))
  choice-whole by_table pc d x m n q e bs s =
      let t = stand-targets at right label by_table refl n q e bs s in
      sym (ap (λ l. choice_code pc d x by_table m l (label (n + count bs))) t.0 ∙ ap (λ p. choice_code pc d x by_table m (targets at q e.depth e.scope e.spots bs) p) t.1)
  choice-whole by_search pc d x m n q e bs s =
      let t = stand-targets at right label by_search refl n q e bs s in
      sym (ap (λ l. choice_code pc d x by_search m l (label (n + count bs))) t.0 ∙ ap (λ p. choice_code pc d x by_search m (targets at q e.depth e.scope e.spots bs) p) t.1)
  choice-whole by_tests pc d x m n q e bs s = refl

  -- A label whose block is behind a body.

  pub label-is : (e : Env) (b : Body) (old new : List Instr) (place : ℕ) → e.pc ≡ length old
      → new ≡ old ++ code_at at e.pc e.depth e.scope (block_at place e.depth ∷ e.spots) b → place ≡ length new → block_at place e.depth ≡ spot_in at e b
  label-is e b old new place hp h hl =
      let c = code_at at e.pc e.depth e.scope (block_at place e.depth ∷ e.spots) b in
      let long = code_length at right b e.pc e.depth e.scope (block_at place e.depth ∷ e.spots) in
      let is : place ≡ block_place at e.pc e.depth e.scope e.spots b = omega (arith, hl, ap length h, length-append old c, long, hp) in
      ap (λ z. block_at z e.depth) is

  pub label-code : (e : Env) (b : Body) (old new : List Instr) (place : ℕ) → e.pc ≡ length old
      → new ≡ old ++ code_at at e.pc e.depth e.scope (block_at place e.depth ∷ e.spots) b → place ≡ length new
      → new ≡ old ++ code_at at e.pc e.depth e.scope (spot_in at e b ∷ e.spots) b
  label-code e b old new place hp h hl = h ∙ ap (λ s. old ++ code_at at e.pc e.depth e.scope (s ∷ e.spots) b) (label-is e b old new place hp h hl)

  -- What is before the rest.

  pub heads-first : (gs : List StepTree) (e : Env) (old : List Instr) → HeadsSoFar at label gs gs [] e e old old
  heads-first gs e old = record { code = λ ms. refl; scope = refl; begins = λ ms h. h }

  pub heads-next : (gs rest : List StepTree) (ns : List ℕ) (n : ℕ) (g : StepTree) (e f k : Env) (old now new : List Instr) → HeadsSoFar at label gs (g ∷ rest) ns e f old now
      → f.pc ≡ length now → k.pc ≡ length new → new ≡ now ++ before at label f n g → Kept (after at f g) k → Begins at label f n g
      → HeadsSoFar at label gs rest (ns ++ n ∷ []) e k old new
  heads-next gs rest ns n g e f k old now new inv hf hk hn kept b =
      let long : k.pc ≡ (after at f g).pc = omega (arith, hk, hf, ap length hn, length-append now (before at label f n g), before-length at right label f n g) in
      let is : k ≡ after at f g = env-is (after at f g) k long kept in
      record {
        code = λ ms. ap (λ l. old ++ before_all at label e l gs) (append_assoc ns (n ∷ []) ms)
            ∙ inv.code (n ∷ ms)
            ∙ sym (append_assoc now (before at label f n g) (before_all at label (after at f g) ms rest))
            ∙ ap (λ l. l ++ before_all at label (after at f g) ms rest) (sym hn)
            ∙ ap (λ z. new ++ before_all at label z ms rest) (sym is);
        scope = ap (λ z. after_all at z rest) is ∙ inv.scope;
        begins = λ ms h. subst (λ l. BeginAll at label e l gs) (sym (append_assoc ns (n ∷ []) ms)) (inv.begins (n ∷ ms) (b, subst (λ z. BeginAll at label z ms rest) is h));
      }

  pub heads-code : (gs rest : List StepTree) (ns : List ℕ) (e f : Env) (old now : List Instr) → rest ≡ [] → HeadsSoFar at label gs rest ns e f old now → now ≡ old ++ before_all at label e ns gs
  heads-code gs rest ns e f old now z inv =
      sym (append-nil now) ∙ ap (λ r. now ++ before_all at label f [] r) (sym z) ∙ sym (inv.code []) ∙ ap (λ l. old ++ before_all at label e l gs) (append-nil ns)

  pub heads-scope : (gs rest : List StepTree) (ns : List ℕ) (e f : Env) (old now : List Instr) → rest ≡ [] → HeadsSoFar at label gs rest ns e f old now → f ≡ after_all at e gs
  heads-scope gs rest ns e f old now z inv = ap (λ r. after_all at f r) (sym z) ∙ inv.scope

  pub heads-begin : (gs rest : List StepTree) (ns : List ℕ) (e f : Env) (old now : List Instr) → rest ≡ [] → HeadsSoFar at label gs rest ns e f old now → BeginAll at label e ns gs
  heads-begin gs rest ns e f old now z inv =
      subst (λ l. BeginAll at label e l gs) (append-nil ns) (inv.begins [] (subst (λ r. BeginAll at label f [] r) (sym z) tt))

  -- What is behind it.

  pub after-last : (gs : List StepTree) (g : StepTree) (e : Env) → after_all at e (gs ++ g ∷ []) ≡ after at (after_all at e gs) g
  after-last [] g e = refl
  after-last (r ∷ gs) g e = after-last gs g (after at e r)

  pub ends-code : (pre post : List StepTree) (g : StepTree) (e : Env) (old now new : List Instr) (q : ℕ)
      → now ≡ old ++ behind_all at (after_all at e (pre ++ g ∷ [])) post q → length old ≡ q
      → new ≡ now ++ behind at (after_all at e pre) g (length now) → new ≡ old ++ behind_all at (after_all at e pre) (g ∷ post) q
  ends-code pre post g e old now new q inv hq hn =
      let f = after_all at e pre in
      let is = after-last pre g e in
      let done = inv ∙ ap (λ z. old ++ behind_all at z post q) is in
      let b = behind_all at (after at f g) post q in
      let far : length now ≡ q + length b = omega (arith, hq, ap length done, length-append old b) in
      hn ∙ ap (λ z. now ++ behind at f g z) far ∙ ap (λ l. l ++ behind at f g (q + length b)) done ∙ append_assoc old b (behind at f g (q + length b))

  pub ends-stand : (pre post : List StepTree) (g : StepTree) (ns : List ℕ) (n : ℕ) (e : Env) (old now : List Instr) (q : ℕ)
      → now ≡ old ++ behind_all at (after_all at e (pre ++ g ∷ [])) post q → length old ≡ q → n ≡ get_or ns 0 0
      → EndAll at label (after_all at e (pre ++ g ∷ [])) (drop 1 ns) post q → Ends at label (after_all at e pre) n g (length now)
      → EndAll at label (after_all at e pre) ns (g ∷ post) q
  ends-stand pre post g ns n e old now q inv hq hn h k =
      let f = after_all at e pre in
      let is = after-last pre g e in
      let done = inv ∙ ap (λ z. old ++ behind_all at z post q) is in
      let b = behind_all at (after at f g) post q in
      let far : length now ≡ q + length b = omega (arith, hq, ap length done, length-append old b) in (
        subst (λ z. EndAll at label z (drop 1 ns) post q) is h,
        subst (λ m. Ends at label f m g (q + length b)) hn (subst (λ z. Ends at label f n g z) far k),
      )

  -- A body of steps.

  pub steps-whole : (e f : Env) (ns : List ℕ) (gs : List StepTree) (b : Body) (old heads rest new : List Instr) → e.pc ≡ length old → f.pc ≡ length heads
      → heads ≡ old ++ before_all at label e ns gs → f ≡ after_all at e gs → BeginAll at label e ns gs → rest ≡ heads ++ code_in at f b
      → new ≡ rest ++ behind_all at e gs (length rest) → EndAll at label e ns gs (length rest) → new ≡ old ++ code_in at e (onto gs b)
  steps-whole e f ns gs b old heads rest new he hf hh is begins hr hn ends =
      let k = after_all at e gs in
      let c = code_in at k b in
      let hc = hr ∙ ap (λ z. heads ++ code_in at z b) is in
      let pre = before_all at label e ns gs in
      let q : length rest ≡ k.pc + size_in at k b =
      omega (arith, ap length hc, length-append heads c, code_length at right b k.pc k.depth k.scope k.spots, ap (λ z. z.pc) is, hf) in
      hn
      ∙ ap (λ l. l ++ behind_all at e gs (length rest)) (hc ∙ ap (λ l. l ++ c) hh ∙ append_assoc old pre c)
      ∙ append_assoc old (pre ++ c) (behind_all at e gs (length rest))
      ∙ ap (λ l. old ++ l) (append_assoc pre c (behind_all at e gs (length rest)) ∙ sym (split-all at right label e ns gs b (length rest) q begins ends))

  -- Arms.

  pub arms-first : (how : Choice) (arms : List Arm) (first : ℕ) (e : Env) (old : List Instr) → ArmsSoFar at label how arms arms first first e old old
  arms-first how arms first e old l h = (refl, h)

  pub arms-next : (how : Choice) (arms rest : List Arm) (a : Arm) (first n : ℕ) (e : Env) (old now mid new : List Instr) → ArmsSoFar at label how arms (a ∷ rest) first n e old now
      → label n ≡ length now → mid ≡ now ++ test_arm_code how e.depth (arm_of a).tag (label (suc n))
      → new ≡ mid ++ code_at at (length mid) e.depth e.scope e.spots (arm_of a).body → ArmsSoFar at label how arms rest first (suc n) e old new
  arms-next how arms rest a first n e old now mid new inv hl hm hn l h =
      let i = (arm_of a).tag in
      let b = (arm_of a).body in
      let bs = bodies_of (map arm_of rest) l in
      let t = test_arm_code how e.depth i (label (suc n)) in
      let lm : length mid ≡ length now + test_arm_size how = omega (arith, ap length hm, length-append now t, test_arm_length how e.depth i (label (suc n))) in
      let c = code_at at (length mid) e.depth e.scope e.spots b in
      let ln : length new ≡ length now + test_arm_size how + size_in at e b =
      omega (arith, ap length hn, length-append mid c, code_length at right b (length mid) e.depth e.scope e.spots, lm) in
      let next = stand-first at right label (suc n) (length new) e how bs h in
      let got = inv l (hl, subst (λ z. Stand at label (suc n) z e how bs) ln h) in
      let arms = arms_at at (length new) e.depth e.scope e.spots how bs in (
        got.0
            ∙ ap (λ z. now ++ (test_arm_code how e.depth i z ++ (code_at at (length now + test_arm_size how) e.depth e.scope e.spots b ++ arms_at at z e.depth e.scope e.spots how bs))) (sym ln)
            ∙ ap (λ z. now ++ (test_arm_code how e.depth i (length new) ++ (code_at at z e.depth e.scope e.spots b ++ arms))) (sym lm)
            ∙ ap (λ z. now ++ (test_arm_code how e.depth i z ++ (c ++ arms))) (sym next)
            ∙ sym (append_assoc now t (c ++ arms))
            ∙ ap (λ z. z ++ (c ++ arms)) (sym hm)
            ∙ sym (append_assoc mid c arms)
            ∙ ap (λ z. z ++ arms) (sym hn),
        got.1,
      )

  -- .. and behind the arms the last body
  pub arms-done : (how : Choice) (arms : List ArmTree) (first n : ℕ) (e f : Env) (l : Body) (old now new : List Instr) → Kept e f → ArmsBefore at label how arms first n e old now
      → label n ≡ length now → new ≡ now ++ code_at at (length now) f.depth f.scope f.spots l
      → (new ≡ old ++ arms_at at (length old) e.depth e.scope e.spots how (bodies_of arms l)) × Stand at label first (length old) e how (bodies_of arms l)
  arms-done how arms first n e f l old now new kept before hl hn =
      let got = before l hl in (
        hn
            ∙ ap (λ z. now ++ code_at at (length now) z f.scope f.spots l) kept.depth
            ∙ ap (λ z. now ++ code_at at (length now) e.depth z f.spots l) kept.scope
            ∙ ap (λ z. now ++ code_at at (length now) e.depth e.scope z l) kept.spots
            ∙ sym got.0,
        got.1,
      )

-- The same for the code's lists.

assoc-map : {A B : Type 0} (g : A → B) (xs : List A) (x : A) → map g (xs ++ x ∷ []) ≡ map g xs ++ g x ∷ []
assoc-map g [] x = refl
assoc-map g (y ∷ ys) x = ap (λ l. g y ∷ l) (assoc-map g ys x)

seen : {A B : Type 0} (g : A → B) (xs : List A) (i : ℕ) (x d : A) → i < length xs → x ≡ get_or xs i d → map g (take (i + 1) xs) ≡ map g (take i xs) ++ g x ∷ []
seen g xs i x d lt is = ap (map g) (take_more xs i d lt ∙ ap (λ y. take i xs ++ y ∷ []) (sym is)) ∙ assoc-map g (take i xs) x

ahead : {A : Type 0} (xs : List A) (i : ℕ) (x d : A) → i < length xs → x ≡ get_or xs i d → drop i xs ≡ x ∷ drop (i + 1) xs
ahead xs i x d lt is = drop_more xs i d lt ∙ ap (λ y. y ∷ drop (i + 1) xs) (sym is)

module _ (at : Places) (right : AreRight at.rows) (label : ℕ → ℕ) where
  pub heads-step : (xs : List Step) (i : ℕ) (x d : Step) (ns more : List ℕ) (n : ℕ) (e f k : Env) (old now new : List Instr) → i < length xs → x ≡ get_or xs i d
      → more ≡ ns ++ n ∷ [] → HeadsSoFar at label (map step_of xs) (map step_of (drop i xs)) ns e f old now → f.pc ≡ length now → k.pc ≡ length new
      → new ≡ now ++ before at label f n (step_of x) → Kept (after at f (step_of x)) k → Begins at label f n (step_of x)
      → HeadsSoFar at label (map step_of xs) (map step_of (drop (i + 1) xs)) more e k old new
  heads-step xs i x d ns more n e f k old now new lt is hm inv hf hk hn kept b =
      subst (λ l. HeadsSoFar at label (map step_of xs) (map step_of (drop (i + 1) xs)) l e k old new) (sym hm)
      (heads-next at right label (map step_of xs) (map step_of (drop (i + 1) xs)) ns n (step_of x) e f k old now new
      (subst (λ l. HeadsSoFar at label (map step_of xs) (map step_of l) ns e f old now) (ahead xs i x d lt is) inv) hf hk hn kept b)

  pub arms-step : (how : Choice) (xs : List Arm) (i : ℕ) (x d : Arm) (first n m : ℕ) (e f : Env) (old now mid new : List Instr) → i < length xs → x ≡ get_or xs i d
      → m ≡ suc n → Kept e f → ArmsSoFar at label how xs (drop i xs) first n e old now → label n ≡ length now
      → mid ≡ now ++ test_arm_code how f.depth (arm_of x).tag (label (suc n)) → new ≡ mid ++ code_at at (length mid) f.depth f.scope f.spots (arm_of x).body
      → ArmsSoFar at label how xs (drop (i + 1) xs) first m e old new
  arms-step how xs i x d first n m e f old now mid new lt is hm kept inv hl h0 h1 =
      subst (λ z. ArmsSoFar at label how xs (drop (i + 1) xs) first z e old new) (sym hm)
      (arms-next at right label how xs (drop (i + 1) xs) x first n e old now mid new (subst (λ l. ArmsSoFar at label how xs l first n e old now) (ahead xs i x d lt is) inv) hl
      (h0 ∙ ap (λ z. now ++ test_arm_code how z (arm_of x).tag (label (suc n))) kept.depth)
      (h1 ∙ ap (λ z. mid ++ code_at at (length mid) z f.scope f.spots (arm_of x).body) kept.depth
      ∙ ap (λ z. mid ++ code_at at (length mid) e.depth z f.spots (arm_of x).body) kept.scope
      ∙ ap (λ z. mid ++ code_at at (length mid) e.depth e.scope z (arm_of x).body) kept.spots))

  pub arms-end : (how : Choice) (xs : List Arm) (i first n : ℕ) (e : Env) (old now : List Instr) → length xs ≤ i
      → ArmsSoFar at label how xs (drop i xs) first n e old now → ArmsBefore at label how (map arm_of xs) first n e old now
  arms-end how xs i first n e old now le inv = subst (λ r. ArmsSoFar at label how xs r first n e old now) (drop_all i xs le) inv

  pub ends-kept : (xs : List Step) (k left : ℕ) (x d : Step) (e f : Env) → left ≡ k + 1 → k < length xs → x ≡ get_or xs k d
      → Kept (after_all at e (map step_of (take left xs))) f → Kept (after at (after_all at e (map step_of (take k xs))) (step_of x)) f
  ends-kept xs k left x d e f hl lt is kept =
      subst (λ z. Kept z f) (ap (λ z. after_all at e (map step_of (take z xs))) hl ∙ ap (λ l. after_all at e l) (seen step_of xs k x d lt is)
      ∙ after-last at right label (map step_of (take k xs)) (step_of x) e) kept

  pub ends-code-step : (xs : List Step) (k left : ℕ) (x d : Step) (e : Env) (old now new : List Instr) → left ≡ k + 1 → k < length xs → x ≡ get_or xs k d
      → now ≡ old ++ behind_all at (after_all at e (map step_of (take left xs))) (map step_of (drop left xs)) (length old)
      → new ≡ now ++ behind at (after_all at e (map step_of (take k xs))) (step_of x) (length now)
      → new ≡ old ++ behind_all at (after_all at e (map step_of (take k xs))) (map step_of (drop k xs)) (length old)
  ends-code-step xs k left x d e old now new hl lt is inv hn =
      let pre = map step_of (take k xs) in
      let post = map step_of (drop (k + 1) xs) in
      let was = inv ∙ ap (λ z. old ++ behind_all at (after_all at e (map step_of (take z xs))) (map step_of (drop z xs)) (length old)) hl
      ∙ ap (λ l. old ++ behind_all at (after_all at e l) post (length old)) (seen step_of xs k x d lt is) in
      ends-code at right label pre post (step_of x) e old now new (length old) was refl hn
      ∙ ap (λ l. old ++ behind_all at (after_all at e pre) (map step_of l) (length old)) (sym (ahead xs k x d lt is))

  pub ends-stand-step : (xs : List Step) (ns : List ℕ) (k left n : ℕ) (x d : Step) (e : Env) (old now : List Instr) → left ≡ k + 1 → k < length xs → x ≡ get_or xs k d
      → n ≡ get_or ns k 0 → now ≡ old ++ behind_all at (after_all at e (map step_of (take left xs))) (map step_of (drop left xs)) (length old)
      → EndAll at label (after_all at e (map step_of (take left xs))) (drop left ns) (map step_of (drop left xs)) (length old)
      → Ends at label (after_all at e (map step_of (take k xs))) n (step_of x) (length now)
      → EndAll at label (after_all at e (map step_of (take k xs))) (drop k ns) (map step_of (drop k xs)) (length old)
  ends-stand-step xs ns k left n x d e old now hl lt is hn inv ends h =
      let pre = map step_of (take k xs) in
      let post = map step_of (drop (k + 1) xs) in
      let all = pre ++ step_of x ∷ [] in
      let was = inv ∙ ap (λ z. old ++ behind_all at (after_all at e (map step_of (take z xs))) (map step_of (drop z xs)) (length old)) hl
      ∙ ap (λ l. old ++ behind_all at (after_all at e l) post (length old)) (seen step_of xs k x d lt is) in
      let one : k + 1 ≡ suc k = omega arith in
      let were = subst (λ l. EndAll at label (after_all at e all) l post (length old)) (ap (λ z. drop z ns) one ∙ drop-one k ns)
      (subst (λ l. EndAll at label (after_all at e l) (drop (k + 1) ns) post (length old)) (seen step_of xs k x d lt is)
      (subst (λ z. EndAll at label (after_all at e (map step_of (take z xs))) (drop z ns) (map step_of (drop z xs)) (length old)) hl ends)) in
      let number : n ≡ get_or (drop k ns) 0 0 = hn ∙ ap (λ z. get_or ns z 0) (let t : k ≡ k + 0 = omega arith in t) ∙ sym (get_or-drop k ns 0 0) in
      subst (λ l. EndAll at label (after_all at e pre) (drop k ns) (map step_of l) (length old)) (sym (ahead xs k x d lt is))
      (ends-stand at right label pre post (step_of x) (drop k ns) n e old now (length old) was refl number were h)
