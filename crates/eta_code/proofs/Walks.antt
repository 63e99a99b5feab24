-- What the walk makes of each node.
use Rattle.std.proofs.Common.{◌≡◌, ℕ, ◌+◌, List, [], ◌∷◌, ◌++◌, map, false, Vec, Box, Global, Result, Ok, IfOk, subst, sym, ap, ap₂, ◌∙◌, arith}
use Rattle.ir_plain.specs.Tree as t
use Rattle.ir_mono.specs.Types as table
use Rattle.ir_mono.specs.Mono.{mono, Mono}
use Rattle.plain_tree.specs.declared.tree.Binding.{Binding}
use Rattle.plain_tree.specs.declared.tree.Parameter.{Parameter}
use Rattle.plain_tree.specs.declared.tree.Case.{Case}
use Rattle.plain_tree.specs.declared.tree.Exp.{Exp}
use Rattle.plain_tree.specs.declared.tree.Exp.TheVariants as exp
use Rattle.plain_tree.specs.declared.tree.Step.{Step}
use Rattle.plain_tree.specs.declared.tree.Step.TheVariants as step
use Rattle.plain_tree.specs.declared.tree.Arm.{Arm}
use Rattle.plain_tree.specs.declared.tree.Function.{Function}
use Rattle.plain_tree.specs.TreeOf.{StepTree, let_step, rec_step, test_step, onto, firsts, fun_of, case_of}
use Rattle.mono_bound.specs.Reads.{reading, mono_of}
use Rattle.eta_expand.specs.Expand.{Names, news, arms_news, fun_news, expand, expand_arms, expand_fun}
use Rattle.eta_parts.specs.Reads.{mono_step}
use Rattle.eta_code.specs.Steps.{front, front_news, filled, back_news, afters, marks, fronts, fronts_news, backs_news, wholes, IsFronted, expand_group, group_news, arms_in, functions_in}
use Rattle.eta_code.proofs.Wholes.{news-onto, expand-onto}
use Rattle.eta_parts.proofs.Rolls.{tree-steps, tree-switch, tree-first, step-fn, step-block, step-handle, step-group, step-test}

pub ok-at : {A E : Type 0} (P : A → Type 0) (r : Result A E) (a : A) → r ≡ Ok a → IfOk r P → P a
ok-at P r a e h = subst (λ s. IfOk s P) e h

module _ (types : List table.Row) (strings : List (List ℕ)) where
  abbrev f : Exp → Mono types
  f = mono_of types strings

  abbrev g : Step → StepTree (mono types)
  g = mono_step types strings

  -- steps and what comes of them

  module _ (e : Exp) (ss : Vec Step Global) (r : Box Exp Global) (taken again : List Step) (rest : Exp) (N names₁ names₂ : Names) (n n₁ n₂ : ℕ) (old made₀ : List Step) (none seen_then seen_now : List ℕ) (end : Box Exp Global)
      (is : e ≡ exp.Steps ss r) (a : taken ≡ ss.items) (b : again ≡ taken) (c : rest ≡ r.value) (o : old ≡ []) (z : none ≡ [])
      (h₀ : map g made₀ ≡ map g old ++ fronts types N n (map g taken)) (h₁ : n₁ ≡ n + fronts_news types N (map g taken)) (h₂ : names₁ ≡ afters types N (map g taken)) (h₃ : seen_then ≡ none ++ marks types N (map g taken))
      (s : seen_now ≡ seen_then) (h₄ : f end.value ≡ expand types names₁ n₁ (f rest)) (h₅ : n₂ ≡ n₁ + news types names₁ (f rest)) (h₆ : names₂ ≡ names₁) where
    whole : f e ≡ onto (map g taken) (f rest)
    whole = ap f is ∙ tree-steps (reading types strings) ss r ∙ ap₂ (λ l v. onto (map g l) (f v)) (sym a) (sym c)

    in-front : IsFronted types N n names₂ seen_now (map g made₀) (map g again)
    in-front = record {
      names_are = h₆ ∙ h₂ ∙ ap (λ l. afters types N (map g l)) (sym b);
      seen_are = s ∙ h₃ ∙ ap (λ l. l ++ marks types N (map g taken)) z ∙ ap (λ l. marks types N (map g l)) (sym b);
      made_are = h₀ ∙ ap (λ l. map g l ++ fronts types N n (map g taken)) o ∙ ap (λ l. fronts types N n (map g l)) (sym b);
    }

    counted : n₂ ≡ n + (fronts_news types N (map g taken) + news types (afters types N (map g taken)) (f rest))
    counted = let q : news types names₁ (f rest) ≡ news types (afters types N (map g taken)) (f rest) = ap (λ M. news types M (f rest)) h₂ in omega (arith, q, h₁, h₅)

    pub steps-node : (made : Vec Step Global) → ((N : Names) (n : ℕ) → IsFronted types N n names₂ seen_now (map g made₀) (map g again) → map g made.items ≡ wholes types N n n₂ (map g again))
        → f (exp.Steps made end) ≡ expand types N n (f e)
    steps-node made w =
        tree-steps (reading types strings) made end ∙ ap₂ onto (w N n in-front ∙ ap (λ l. wholes types N n n₂ (map g l)) b) (h₄ ∙ ap₂ (λ M k. expand types M k (f rest)) h₂ h₁)
        ∙ expand-onto types N n n₂ (map g taken) (f rest) counted ∙ ap (expand types N n) (sym whole)

    pub steps-news : (n₃ : ℕ) → ((N : Names) (n : ℕ) → IsFronted types N n names₂ seen_now (map g made₀) (map g again) → n₃ ≡ n₂ + backs_news types N (map g again)) → n₃ ≡ n + news types N (f e)
    steps-news n₃ k =
        let p = k N n in-front in
        let q : backs_news types N (map g again) ≡ backs_news types N (map g taken) = ap (λ l. backs_news types N (map g l)) b in
        let u = news-onto types N (map g taken) (f rest) in
        let v : news types N (f e) ≡ news types N (onto (map g taken) (f rest)) = ap (news types N) whole in
        let w = counted in
        omega (arith, p, q, u, v, w)

    pub steps-names : (names₃ : Names) → ((N : Names) (n : ℕ) → IsFronted types N n names₂ seen_now (map g made₀) (map g again) → names₃ ≡ N) → names₃ ≡ N
    steps-names names₃ k = k N n in-front

  -- other expressions

  pub switch-node : (e : Exp) (a u : ℕ) (arms made : Vec Arm Global) (taken : List Arm) (N : Names) (n : ℕ) → e ≡ exp.Switch a u arms → taken ≡ arms.items
      → arms_in types strings made.items ≡ expand_arms types N n (arms_in types strings taken) → f (exp.Switch a u made) ≡ expand types N n (f e)
  switch-node e a u arms made taken N n is k h =
      tree-switch (reading types strings) a u made ∙ ap (t.switch a u) (h ∙ ap (λ l. expand_arms types N n (arms_in types strings l)) k)
      ∙ ap (expand types N n) (sym (ap f is ∙ tree-switch (reading types strings) a u arms))

  pub switch-news : (e : Exp) (a u : ℕ) (arms : Vec Arm Global) (taken : List Arm) (N : Names) (n n' : ℕ) → e ≡ exp.Switch a u arms → taken ≡ arms.items → n' ≡ n + arms_news types N (arms_in types strings taken) → n' ≡ n + news types N (f e)
  switch-news e a u arms taken N n n' is k h =
      h ∙ ap (λ l. n + arms_news types N (arms_in types strings l)) k ∙ ap (λ v. n + news types N v) (sym (ap f is ∙ tree-switch (reading types strings) a u arms))

  pub first-node : (e : Exp) (es made : Vec Exp Global) (d end : Box Exp Global) (taken : List Exp) (last : Exp) (N names : Names) (n n₁ : ℕ) → e ≡ exp.First es d → taken ≡ es.items → last ≡ d.value → names ≡ N
      → ((d : Mono types) → firsts (map f made.items) (expand types N n₁ d) ≡ expand types N n (firsts (map f taken) d)) → f end.value ≡ expand types names n₁ (f last) → f (exp.First made end) ≡ expand types N n (f e)
  first-node e es made d end taken last N names n n₁ is a b c h k =
      tree-first (reading types strings) made end ∙ ap (firsts (map f made.items)) (k ∙ ap (λ M. expand types M n₁ (f last)) c) ∙ h (f last)
      ∙ ap (expand types N n) (sym (ap f is ∙ tree-first (reading types strings) es d ∙ ap₂ (λ l v. firsts (map f l) (f v)) (sym a) (sym b)))

  pub first-news : (e : Exp) (es : Vec Exp Global) (d : Box Exp Global) (taken : List Exp) (last : Exp) (N names : Names) (n n₁ n₂ : ℕ) → e ≡ exp.First es d → taken ≡ es.items → last ≡ d.value → names ≡ N
      → ((d : Mono types) → n₁ + news types N d ≡ n + news types N (firsts (map f taken) d)) → n₂ ≡ n₁ + news types names (f last) → n₂ ≡ n + news types N (f e)
  first-news e es d taken last N names n n₁ n₂ is a b c h k =
      k ∙ ap (λ M. n₁ + news types M (f last)) c ∙ h (f last)
      ∙ ap (λ v. n + news types N v) (sym (ap f is ∙ tree-first (reading types strings) es d ∙ ap₂ (λ l v. firsts (map f l) (f v)) (sym a) (sym b)))

  -- steps

  pub fn-node : (s : Step) (b : Binding) (ys made : Vec Parameter Global) (x : Parameter) (e end : Box Exp Global) (taken : List Parameter) (body new : Exp) (N : Names) (n : ℕ) → s ≡ step.Fn b ys x e → taken ≡ ys.items → body ≡ e.value
      → made.items ≡ taken → end.value ≡ new → fun_of (reading types strings) taken x (f new) ≡ expand_fun types N n (fun_of (reading types strings) taken x (f body)) → g (step.Fn b made x end) ≡ front types N n (g s)
  fn-node s b ys made x e end taken body new N n is a c m w h =
      step-fn (reading types strings) b made x end ∙ ap (λ q. let_step b.variable tt b.ty (t.fn q)) (ap₂ (λ l v. fun_of (reading types strings) l x (f v)) m w ∙ h ∙ ap₂ (λ l v. expand_fun types N n (fun_of (reading types strings) l x (f v))) a c)
      ∙ ap (front types N n) (sym (ap g is ∙ step-fn (reading types strings) b ys x e))

  pub fn-news : (s : Step) (b : Binding) (ys : Vec Parameter Global) (x : Parameter) (e : Box Exp Global) (taken : List Parameter) (body : Exp) (N : Names) (n n' : ℕ) → s ≡ step.Fn b ys x e → taken ≡ ys.items → body ≡ e.value
      → n' ≡ n + fun_news types N (fun_of (reading types strings) taken x (f body)) → n' ≡ n + front_news types N (g s)
  fn-news s b ys x e taken body N n n' is a c h =
      h ∙ ap₂ (λ l v. n + fun_news types N (fun_of (reading types strings) l x (f v))) a c ∙ ap (λ v. n + front_news types N v) (sym (ap g is ∙ step-fn (reading types strings) b ys x e))

  pub block-node : (s : Step) (b : Binding) (e end : Box Exp Global) (body : Exp) (N : Names) (n : ℕ) → s ≡ step.Block b e → body ≡ e.value → f end.value ≡ expand types N n (f body) → g (step.Block b end) ≡ front types N n (g s)
  block-node s b e end body N n is c h =
      step-block (reading types strings) b end ∙ ap (λ q. let_step b.variable tt b.ty (t.block q)) (h ∙ ap (λ v. expand types N n (f v)) c) ∙ ap (front types N n) (sym (ap g is ∙ step-block (reading types strings) b e))

  pub block-news : (s : Step) (b : Binding) (e : Box Exp Global) (body : Exp) (N : Names) (n n' : ℕ) → s ≡ step.Block b e → body ≡ e.value → n' ≡ n + news types N (f body) → n' ≡ n + front_news types N (g s)
  block-news s b e body N n n' is c h = h ∙ ap (λ v. n + news types N (f v)) c ∙ ap (λ v. n + front_news types N v) (sym (ap g is ∙ step-block (reading types strings) b e))

  pub handle-node : (s : Step) (b : Binding) (e end : Box Exp Global) (x : ℕ) (d made : Box Exp Global) (body handler : Exp) (N names : Names) (n n₁ : ℕ) → s ≡ step.Handle b e x d → body ≡ e.value → handler ≡ d.value → names ≡ N
      → f end.value ≡ expand types N n (f body) → n₁ ≡ n + news types N (f body) → f made.value ≡ expand types ((x, false) ∷ names) n₁ (f handler) → g (step.Handle b end x made) ≡ front types N n (g s)
  handle-node s b e end x d made body handler N names n n₁ is a c m h k w =
      step-handle (reading types strings) b end x made
      ∙ ap₂ (λ q v. let_step b.variable tt b.ty (t.handle q x v)) (h ∙ ap (λ v. expand types N n (f v)) a)
      (w ∙ ap₂ (λ M j. expand types ((x, false) ∷ M) j (f handler)) m (k ∙ ap (λ v. n + news types N (f v)) a) ∙ ap (λ v. expand types ((x, false) ∷ N) (n + news types N (f e.value)) (f v)) c)
      ∙ ap (front types N n) (sym (ap g is ∙ step-handle (reading types strings) b e x d))

  pub handle-news : (s : Step) (b : Binding) (e : Box Exp Global) (x : ℕ) (d : Box Exp Global) (body handler : Exp) (N names : Names) (n n₁ n₂ : ℕ) → s ≡ step.Handle b e x d → body ≡ e.value → handler ≡ d.value → names ≡ N
      → n₁ ≡ n + news types N (f body) → n₂ ≡ n₁ + news types ((x, false) ∷ names) (f handler) → n₂ ≡ n + front_news types N (g s)
  handle-news s b e x d body handler N names n n₁ n₂ is a c m k w =
      let p : news types N (f body) ≡ news types N (f e.value) = ap (λ v. news types N (f v)) a in
      let q : news types ((x, false) ∷ names) (f handler) ≡ news types ((x, false) ∷ N) (f d.value) = ap₂ (λ M v. news types ((x, false) ∷ M) (f v)) m c in
      let r : front_news types N (g s) ≡ news types N (f e.value) + news types ((x, false) ∷ N) (f d.value) = ap (front_news types N) (ap g is ∙ step-handle (reading types strings) b e x d) in
      omega (arith, p, q, r, k, w)

  pub group-node : (s : Step) (ps : ℕ) (fs made : Vec Function Global) (taken : List Function) (N : Names) (n : ℕ) → s ≡ step.Group ps fs → taken ≡ fs.items
      → functions_in types strings made.items ≡ expand_group types N n (functions_in types strings taken) → g (step.Group ps made) ≡ front types N n (g s)
  group-node s ps fs made taken N n is k h =
      step-group (reading types strings) ps made ∙ ap (λ q. rec_step tt q) (h ∙ ap (λ l. expand_group types N n (functions_in types strings l)) k) ∙ ap (front types N n) (sym (ap g is ∙ step-group (reading types strings) ps fs))

  pub group-news-are : (s : Step) (ps : ℕ) (fs : Vec Function Global) (taken : List Function) (N : Names) (n n' : ℕ) → s ≡ step.Group ps fs → taken ≡ fs.items → n' ≡ n + group_news types N (functions_in types strings taken)
      → n' ≡ n + front_news types N (g s)
  group-news-are s ps fs taken N n n' is k h = h ∙ ap (λ l. n + group_news types N (functions_in types strings l)) k ∙ ap (λ v. n + front_news types N v) (sym (ap g is ∙ step-group (reading types strings) ps fs))

  pub test-node : (s : Step) (a u : ℕ) (c : Case) (others made : Vec Arm Global) (taken : List Arm) (N : Names) (n : ℕ) (old : StepTree (mono types)) → s ≡ step.Test a u c others → taken ≡ others.items
      → arms_in types strings made.items ≡ expand_arms types N n (arms_in types strings taken) → g (step.Test a u c made) ≡ filled types N n (g s) old
  test-node s a u c others made taken N n old is k h =
      step-test (reading types strings) a u c made ∙ ap (λ q. test_step a u (case_of (reading types strings) c) q) (h ∙ ap (λ l. expand_arms types N n (arms_in types strings l)) k) ∙ ap (λ v. filled types N n v old) (sym (ap g is ∙ step-test (reading types strings) a u c others))

  pub test-news : (s : Step) (a u : ℕ) (c : Case) (others : Vec Arm Global) (taken : List Arm) (N : Names) (n n' : ℕ) → s ≡ step.Test a u c others → taken ≡ others.items → n' ≡ n + arms_news types N (arms_in types strings taken)
      → n' ≡ n + back_news types N (g s)
  test-news s a u c others taken N n n' is k h = h ∙ ap (λ l. n + arms_news types N (arms_in types strings l)) k ∙ ap (λ v. n + back_news types N v) (sym (ap g is ∙ step-test (reading types strings) a u c others))

  pub test-front : (s : Step) (a u : ℕ) (c : Case) (others made : Vec Arm Global) (N : Names) (n : ℕ) → s ≡ step.Test a u c others → made.items ≡ [] → g (step.Test a u c made) ≡ front types N n (g s)
  test-front s a u c others made N n is k =
      step-test (reading types strings) a u c made ∙ ap (λ l. test_step a u (case_of (reading types strings) c) (arms_in types strings l)) k ∙ ap (front types N n) (sym (ap g is ∙ step-test (reading types strings) a u c others))
