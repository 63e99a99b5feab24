-- What parts do with the stack, over plain variables.
use Rattle.std.proofs.Common.{◌≡◌, ℕ, zero, suc, ◌+◌, ◌<◌, ◌≤◌, List, [], ◌∷◌, ◌++◌, map, reverse, drop, length, get_or, Vec, Box, Global, Option, Some, None, refl, sym, ap, ap₂, ◌∙◌, subst, arith}
use Rattle.std.specs.Option.{option_map}
use Rattle.std.proofs.lemmas.List.{reverse-append, drop_more}
use Rattle.mlc_base.specs.declared.place.Place.{Place}
use Rattle.mlc_prims.specs.declared.basis.BasisPrimitive.{BasisPrimitive}
use Rattle.ir_plain.specs.Tree as t
use Rattle.ir_mono.specs.Types as table
use Rattle.ir_mono.specs.Mono.{mono, Mono}
use Rattle.plain_tree.specs.TreeOf as plain
use Rattle.plain_tree.specs.TreeOf.{FunctionTree, onto, firsts, arms_of, funs_of, fun_of, case_of, row_of, atoms_of, operation_of, exception_of}
use Rattle.plain_tree.specs.declared.tree.Arm.{Arm}
use Rattle.plain_tree.specs.declared.tree.Binding.{Binding}
use Rattle.plain_tree.specs.declared.tree.Case.{Case}
use Rattle.plain_tree.specs.declared.tree.Exception.{Exception}
use Rattle.plain_tree.specs.declared.tree.Exp.{Exp}
use Rattle.plain_tree.specs.declared.tree.Exp.TheVariants as exp
use Rattle.plain_tree.specs.declared.tree.Field.{Field}
use Rattle.plain_tree.specs.declared.tree.Function.{Function}
use Rattle.plain_tree.specs.declared.tree.Operation.{Operation}
use Rattle.plain_tree.specs.declared.tree.Operation.TheVariants as op
use Rattle.plain_tree.specs.declared.tree.Parameter.{Parameter}
use Rattle.plain_tree.specs.declared.tree.Step.{Step}
use Rattle.plain_tree.specs.declared.tree.Step.TheVariants as step
use Rattle.mono_bound.specs.Reads.{reading, mono_of}
use Rattle.mono_state.specs.declared.word.Act.{Act}
use Rattle.mono_state.specs.declared.word.Word.{Word}
use Rattle.mono_state.specs.declared.word.Word.TheVariants as word
use Rattle.mono_read.specs.Words.{op_sign, spell}
use Rattle.mono_read.specs.Building.{Heads, head, Stack, an_exp, a_binding, a_fun, a_handler, some_arms, some_row, some_atoms, some_heads, with_exp, with_handler, with_arms, with_row, with_atoms, with_heads, with_funs, stepped, acted, put, build}
use Rattle.mono_read.specs.Reads.{Texts, heads_in, sign_of, sign_of_act, signs_of, step_in, arm_in, function_in, open_in, first_in, item_in, stack_in, Puts, Takes}
use Rattle.mono_read.specs.declared.stack.Item.{Item}
use Rattle.mono_read.specs.declared.stack.Item.TheVariants as item
use Rattle.mono_read.proofs.Built.{exp-built}
use Rattle.mono_read.proofs.Rolls.{tree-ret, tree-switch, tree-miss, step-let, step-fn, step-block, step-handle, step-exception, step-name, step-group, step-test, step-counted, arm-parts, function-parts}

pub reverse-last : {A : Type 0} (xs : List A) (x : A) → reverse (xs ++ x ∷ []) ≡ x ∷ reverse xs
reverse-last xs x = reverse-append xs (x ∷ [])

-- a word that is known
pub at-word : (w v : Word) (old new : List Item) → w ≡ v → Puts v old new → Puts w old new
at-word w v old new e h = subst (λ w. Puts w old new) (sym e) h

module _ (types : List table.Row) (strings : Texts) where
  abbrev S : Type 0
  S = Stack types

  abbrev E : Type 0
  E = Mono types

  abbrev tree : Exp → E
  tree = mono_of types strings

  -- what stands on top
  pub top : (st st' : S) (i j : Item) → st ≡ item_in types strings i ∷ st' → i ≡ j → st ≡ item_in types strings j ∷ st'
  top st st' i j h e = h ∙ ap (λ i. item_in types strings i ∷ st') e

  pub first-open : (ss : List Step) (e d : Exp) (es : List Exp) → ss ≡ [] → tree e ≡ first_in types strings es d → first_in types strings es d ≡ open_in types strings ss e
  first-open ss e d es n h = sym (ap (λ l. open_in types strings l e) n ∙ h)

  pub first-top : (st st' : S) (ss : List Step) (e d : Exp) (es : List Exp) → st ≡ an_exp (first_in types strings es d) ∷ st' → ss ≡ [] → tree e ≡ first_in types strings es d → st ≡ an_exp (open_in types strings ss e) ∷ st'
  first-top st st' ss e d es k n h = k ∙ ap (λ x. an_exp x ∷ st') (first-open ss e d es n h)

  pub exp-top : (st st' : S) (e d : E) → st ≡ an_exp e ∷ st' → d ≡ e → st ≡ an_exp d ∷ st'
  exp-top st st' e d k h = k ∙ ap (λ x. an_exp x ∷ st') (sym h)

  pub pushed : (st st' : S) (ss new : List Step) (s : Step) (e : Exp) → new ≡ ss ++ s ∷ [] → st' ≡ an_exp (open_in types strings new e) ∷ st → st' ≡ an_exp (plain.put (step_in types strings s) (open_in types strings ss e)) ∷ st
  pushed st st' ss new s e n h = h ∙ ap (λ l. an_exp (onto (map (step_in types strings) l) (tree e)) ∷ st) (ap reverse n ∙ reverse-last ss s)

  pub stepped-is : (st₀ st₁ st₂ : S) (e : E) (g : E → E) → st₀ ≡ an_exp e ∷ st₁ → st₂ ≡ an_exp (g e) ∷ st₁ → st₂ ≡ stepped g st₀
  stepped-is st₀ st₁ st₂ e g h k = k ∙ sym (ap (stepped g) h)

  -- an operation, whose binding is taken
  pub bound : (st₀ st₁ st₂ : S) (x : Binding) (o : t.Op (mono types)) (s : Step) → st₀ ≡ a_binding x.variable x.ty ∷ st₁ → step_in types strings s ≡ plain.let_step x.variable tt x.ty o
      → st₂ ≡ stepped (plain.put (step_in types strings s)) st₁ → st₂ ≡ acted o st₀
  bound st₀ st₁ st₂ x o s h i k = k ∙ ap (λ s. stepped (plain.put s) st₁) i ∙ sym (ap (acted o) h)

  pub operation-bound : (st₀ st₁ st₂ : S) (x : Binding) (o : Operation) → st₀ ≡ a_binding x.variable x.ty ∷ st₁ → st₂ ≡ stepped (plain.put (step_in types strings (step.Let x o))) st₁
      → st₂ ≡ acted (operation_of (reading types strings) o) st₀
  operation-bound st₀ st₁ st₂ x o h k = bound st₀ st₁ st₂ x (operation_of (reading types strings) o) (step.Let x o) h (step-let (reading types strings) x o) k

  pub function-bound : (st₀ st₁ st₂ : S) (x : Binding) (ps : List Parameter) (ys : Vec Parameter Global) (z : Parameter) (body : Exp) (e : Box Exp Global) → ys.items ≡ reverse ps → e.value ≡ body → st₀ ≡ a_binding x.variable x.ty ∷ st₁
      → st₂ ≡ stepped (plain.put (step_in types strings (step.Fn x ys z e))) st₁ → st₂ ≡ acted (t.fn (fun_of (reading types strings) (reverse ps) z (tree body))) st₀
  function-bound st₀ st₁ st₂ x ps ys z body e p v h k =
      bound st₀ st₁ st₂ x (t.fn (fun_of (reading types strings) (reverse ps) z (tree body))) (step.Fn x ys z e) h
      (step-fn (reading types strings) x ys z e ∙ ap₂ (λ l d. plain.let_step x.variable tt x.ty (t.fn (fun_of (reading types strings) l z (tree d)))) p v) k

  pub block-bound : (st₀ st₁ st₂ : S) (x : Binding) (body : Exp) (e : Box Exp Global) → e.value ≡ body → st₀ ≡ a_binding x.variable x.ty ∷ st₁
      → st₂ ≡ stepped (plain.put (step_in types strings (step.Block x e))) st₁ → st₂ ≡ acted (t.block (tree body)) st₀
  block-bound st₀ st₁ st₂ x body e v h k =
      bound st₀ st₁ st₂ x (t.block (tree body)) (step.Block x e) h (step-block (reading types strings) x e ∙ ap (λ d. plain.let_step x.variable tt x.ty (t.block (tree d))) v) k

  pub handle-bound : (st₀ st₁ st₂ : S) (x : Binding) (body handler : Exp) (y : ℕ) (e d : Box Exp Global) → e.value ≡ body → d.value ≡ handler → st₀ ≡ a_binding x.variable x.ty ∷ st₁
      → st₂ ≡ stepped (plain.put (step_in types strings (step.Handle x e y d))) st₁ → st₂ ≡ acted (t.handle (tree body) y (tree handler)) st₀
  handle-bound st₀ st₁ st₂ x body handler y e d v w h k =
      bound st₀ st₁ st₂ x (t.handle (tree body) y (tree handler)) (step.Handle x e y d) h
      (step-handle (reading types strings) x e y d ∙ ap₂ (λ i j. plain.let_step x.variable tt x.ty (t.handle (tree i) y (tree j))) v w) k

  -- other steps

  pub counted-put : (n : ℕ) (st₀ st₁ : S) → st₁ ≡ stepped (plain.put (step_in types strings (step.Counted n))) st₀ → st₁ ≡ stepped (t.counted n) st₀
  counted-put n st₀ st₁ k = k ∙ ap (λ s. stepped (plain.put s) st₀) (step-counted (reading types strings) n)

  pub exception-put : (x i : ℕ) (a : Option ℕ) (st₀ st₁ : S) → st₁ ≡ stepped (plain.put (step_in types strings (step.Exception x i a))) st₀ → st₁ ≡ put (sign_of types strings (word.Exception x i a)) st₀
  exception-put x i a st₀ st₁ k = k ∙ ap (λ s. stepped (plain.put s) st₀) (step-exception (reading types strings) x i a ∙ ap (plain.exception_step x i) (same a))
    where
      same : (a : Option ℕ) → option_map (λ (n : ℕ). n) a ≡ a
      same None = refl
      same (Some n) = refl

  pub name-put : (x : ℕ) (y : Exception) (st₀ st₁ : S) → st₁ ≡ stepped (plain.put (step_in types strings (step.Name x y))) st₀ → st₁ ≡ put (sign_of types strings (word.Name x y)) st₀
  name-put x y st₀ st₁ k = k ∙ ap (λ s. stepped (plain.put s) st₀) (step-name (reading types strings) x y)

  -- ends

  pub ret-put : (a : ℕ) (vs : List Step) (st₀ st₁ : S) → vs ≡ [] → st₁ ≡ an_exp (open_in types strings vs (exp.Ret a)) ∷ st₀ → st₁ ≡ an_exp (t.ret a) ∷ st₀
  ret-put a vs st₀ st₁ n k = k ∙ ap (λ l. an_exp (open_in types strings l (exp.Ret a)) ∷ st₀) n ∙ ap (λ e. an_exp e ∷ st₀) (tree-ret (reading types strings) a)

  pub miss-put : (vs : List Step) (st₀ st₁ : S) → vs ≡ [] → st₁ ≡ an_exp (open_in types strings vs exp.Miss) ∷ st₀ → st₁ ≡ an_exp t.miss ∷ st₀
  miss-put vs st₀ st₁ n k = k ∙ ap (λ l. an_exp (open_in types strings l exp.Miss) ∷ st₀) n ∙ ap (λ e. an_exp e ∷ st₀) (tree-miss (reading types strings))

  pub empty-put : (a u : ℕ) (arms : Vec Arm Global) (vs : List Step) (st₀ st₁ : S) → vs ≡ [] → arms.items ≡ [] → st₁ ≡ an_exp (open_in types strings vs (exp.Switch a u arms)) ∷ st₀ → st₁ ≡ an_exp (t.switch a u t.no_arms) ∷ st₀
  empty-put a u arms vs st₀ st₁ n m k =
      k ∙ ap (λ l. an_exp (open_in types strings l (exp.Switch a u arms)) ∷ st₀) n
      ∙ ap (λ e. an_exp e ∷ st₀) (tree-switch (reading types strings) a u arms ∙ ap (λ l. t.switch a u (arms_of (map (arm_in types strings) l))) m)

  -- lists

  pub row-top : (st st' : S) (i : Item) (fs : Vec Field Global) (f : t.Row (mono types) → S → S) → st ≡ item_in types strings i ∷ st' → i ≡ item.Fields fs → with_row st f ≡ f (row_of (reading types strings) (reverse fs.items)) st'
  row-top st st' i fs f h e = ap (λ st. with_row st f) (top st st' i (item.Fields fs) h e)

  pub row-end : (st st' : S) (i : Item) (fs : List Field) (f : t.Row (mono types) → S → S) → st ≡ item_in types strings i ∷ st' → i ≡ item.End → fs ≡ [] → with_row st f ≡ f (row_of (reading types strings) (reverse fs)) st'
  row-end st st' i fs f h e n = ap (λ st. with_row st f) (top st st' i item.End h e) ∙ ap (λ l. f (row_of (reading types strings) (reverse l)) st') (sym n)

  pub atoms-top : (st st' : S) (i : Item) (as_ : Vec ℕ Global) (f : t.Atoms (mono types) → S → S) → st ≡ item_in types strings i ∷ st' → i ≡ item.Atoms as_ → with_atoms st f ≡ f (atoms_of (reading types strings) (reverse as_.items)) st'
  atoms-top st st' i as_ f h e = ap (λ st. with_atoms st f) (top st st' i (item.Atoms as_) h e)

  pub atoms-end : (st st' : S) (i : Item) (as_ : List ℕ) (f : t.Atoms (mono types) → S → S) → st ≡ item_in types strings i ∷ st' → i ≡ item.End → as_ ≡ [] → with_atoms st f ≡ f (atoms_of (reading types strings) (reverse as_)) st'
  atoms-end st st' i as_ f h e n = ap (λ st. with_atoms st f) (top st st' i item.End h e) ∙ ap (λ l. f (atoms_of (reading types strings) (reverse l)) st') (sym n)

  pub heads-top : (st st' : S) (i : Item) (hs : Vec Parameter Global) (f : Heads → S → S) → st ≡ item_in types strings i ∷ st' → i ≡ item.Heads hs → with_heads st f ≡ f (heads_in (reverse hs.items)) st'
  heads-top st st' i hs f h e = ap (λ st. with_heads st f) (top st st' i (item.Heads hs) h e)

  pub heads-end : (st st' : S) (i : Item) (hs : List Parameter) (f : Heads → S → S) → st ≡ item_in types strings i ∷ st' → i ≡ item.End → hs ≡ [] → with_heads st f ≡ f (heads_in (reverse hs)) st'
  heads-end st st' i hs f h e n = ap (λ st. with_heads st f) (top st st' i item.End h e) ∙ ap (λ l. f (heads_in (reverse l)) st') (sym n)

  pub field-put : (st₀ st₁ st₂ : S) (fs new : List Field) (x : Field) → ((f : t.Row (mono types) → S → S) → with_row st₀ f ≡ f (row_of (reading types strings) (reverse fs)) st₁) → new ≡ fs ++ x ∷ []
      → st₂ ≡ some_row (row_of (reading types strings) (reverse new)) ∷ st₁ → st₂ ≡ put (sign_of types strings (word.Field x)) st₀
  field-put st₀ st₁ st₂ fs new x h n k =
      k ∙ ap (λ l. some_row (row_of (reading types strings) l) ∷ st₁) (ap reverse n ∙ reverse-last fs x) ∙ sym (h (λ row rest. some_row (t.a_row x.label x.atom row) ∷ rest))

  pub argument-put : (st₀ st₁ st₂ : S) (as_ new : List ℕ) (x : ℕ) → ((f : t.Atoms (mono types) → S → S) → with_atoms st₀ f ≡ f (atoms_of (reading types strings) (reverse as_)) st₁) → new ≡ as_ ++ x ∷ []
      → st₂ ≡ some_atoms (atoms_of (reading types strings) (reverse new)) ∷ st₁ → st₂ ≡ put (sign_of types strings (word.Argument x)) st₀
  argument-put st₀ st₁ st₂ as_ new x h n k =
      k ∙ ap (λ l. some_atoms (atoms_of (reading types strings) l) ∷ st₁) (ap reverse n ∙ reverse-last as_ x) ∙ sym (h (λ as_ rest. some_atoms (t.an_atom x as_) ∷ rest))

  pub head-put : (st₀ st₁ st₂ : S) (hs new : List Parameter) (x : Parameter) → ((f : Heads → S → S) → with_heads st₀ f ≡ f (heads_in (reverse hs)) st₁) → new ≡ hs ++ x ∷ [] → st₂ ≡ some_heads (heads_in (reverse new)) ∷ st₁
      → st₂ ≡ put (sign_of types strings (word.Function x.variable x.ty)) st₀
  head-put st₀ st₁ st₂ hs new x h n k =
      k ∙ ap (λ l. some_heads (heads_in l) ∷ st₁) (ap reverse n ∙ reverse-last hs x) ∙ sym (h (λ hs rest. some_heads (head x.variable x.ty hs) ∷ rest))

  pub record-put : (st₀ st₁ st₂ : S) (u : ℕ) (fs : List Field) (new : Vec Field Global) → ((f : t.Row (mono types) → S → S) → with_row st₀ f ≡ f (row_of (reading types strings) (reverse fs)) st₁) → new.items ≡ reverse fs
      → st₂ ≡ acted (operation_of (reading types strings) (op.Record u new)) st₁ → st₂ ≡ with_row st₀ (λ row rest. acted (t.make_record u row) rest)
  record-put st₀ st₁ st₂ u fs new h n k = k ∙ ap (λ l. acted (t.make_record u (row_of (reading types strings) l)) st₁) n ∙ sym (h (λ row rest. acted (t.make_record u row) rest))

  pub perform-put : (st₀ st₁ st₂ : S) (m : Option Place) (p : BasisPrimitive) (u : ℕ) (as_ : List ℕ) (new : Vec ℕ Global) → ((f : t.Atoms (mono types) → S → S) → with_atoms st₀ f ≡ f (atoms_of (reading types strings) (reverse as_)) st₁)
      → new.items ≡ reverse as_ → st₂ ≡ acted (operation_of (reading types strings) (op.Perform m p u new)) st₁ → st₂ ≡ with_atoms st₀ (λ as_ rest. acted (t.prim m p u as_) rest)
  perform-put st₀ st₁ st₂ m p u as_ new h n k = k ∙ ap (λ l. acted (t.prim m p u (atoms_of (reading types strings) l)) st₁) n ∙ sym (h (λ as_ rest. acted (t.prim m p u as_) rest))

  -- attempts

  pub attempt-put : (st₀ st₁ : S) (es new : List Exp) (d e : Exp) → new ≡ es ++ e ∷ [] → st₁ ≡ an_exp (first_in types strings new d) ∷ st₀ → st₁ ≡ an_exp (t.first (tree e) (first_in types strings es d)) ∷ st₀
  attempt-put st₀ st₁ es new d e n k = k ∙ ap (λ l. an_exp (firsts (map tree l) (tree d)) ∷ st₀) (ap reverse n ∙ reverse-last es e)

  pub both-put : (st₀ st₁ : S) (new : List Exp) (d e : Exp) (x : E) → new ≡ e ∷ [] → tree d ≡ x → st₁ ≡ an_exp (first_in types strings new d) ∷ st₀ → st₁ ≡ an_exp (t.first (tree e) x) ∷ st₀
  both-put st₀ st₁ new d e x n h k = k ∙ ap (λ l. an_exp (first_in types strings l d) ∷ st₀) n ∙ ap (λ x. an_exp (t.first (tree e) x) ∷ st₀) h

  pub first-put : (st₀ st₁ st₂ : S) (e : E) → st₀ ≡ an_exp e ∷ st₁ → st₂ ≡ stepped (t.first e) st₁ → st₂ ≡ with_exp st₀ (λ e rest. stepped (t.first e) rest)
  first-put st₀ st₁ st₂ e h k = k ∙ sym (ap (λ st. with_exp st (λ e rest. stepped (t.first e) rest)) h)

  -- arms

  pub arm-closed : (as_ new : List Arm) (a : Arm) (c : Case) (x : E) → new ≡ as_ ++ a ∷ [] → a.case ≡ c → tree a.body ≡ x
      → arms_of (map (arm_in types strings) (reverse new)) ≡ t.arm (case_of (reading types strings) c) x (arms_of (map (arm_in types strings) (reverse as_)))
  arm-closed as_ new a c x n i h =
      ap (λ l. arms_of (map (arm_in types strings) l)) (ap reverse n ∙ reverse-last as_ a)
      ∙ ap (λ (r : plain.ArmTree (mono types)). t.arm r.case r.body (arms_of (map (arm_in types strings) (reverse as_)))) (arm-parts (reading types strings) a)
      ∙ ap₂ (λ c x. t.arm (case_of (reading types strings) c) x (arms_of (map (arm_in types strings) (reverse as_)))) i h

  pub arms-top : (st st' : S) (i : Item) (new : List Arm) (others : Vec Arm Global) (c : Case) (ss : Vec Step Global) (e : Exp) (f : t.Arms (mono types) → S → S) → st ≡ item_in types strings i ∷ st' → i ≡ item.Arms others c ss e
      → arms_of (map (arm_in types strings) (reverse new)) ≡ t.arm (case_of (reading types strings) c) (open_in types strings ss.items e) (arms_of (map (arm_in types strings) (reverse others.items)))
      → with_arms st f ≡ f (arms_of (map (arm_in types strings) (reverse new))) st'
  arms-top st st' i new others c ss e f h k n = ap (λ st. with_arms st f) (top st st' i (item.Arms others c ss e) h k) ∙ ap (λ a. f a st') (sym n)

  pub arms-end : (st st' : S) (i : Item) (new : List Arm) (f : t.Arms (mono types) → S → S) → st ≡ item_in types strings i ∷ st' → i ≡ item.End → new ≡ [] → with_arms st f ≡ f (arms_of (map (arm_in types strings) (reverse new))) st'
  arms-end st st' i new f h e n = ap (λ st. with_arms st f) (top st st' i item.End h e) ∙ ap (λ l. f (arms_of (map (arm_in types strings) (reverse l))) st') (sym n)

  pub arm-added : (st₀ st₁ st₂ : S) (c : t.Case (mono types)) (x : E) (arms : t.Arms (mono types)) → ((f : t.Arms (mono types) → S → S) → with_arms st₀ f ≡ f arms st₁) → st₂ ≡ some_arms (t.arm c x arms) ∷ st₁
      → st₂ ≡ with_arms st₀ (λ arms rest. some_arms (t.arm c x arms) ∷ rest)
  arm-added st₀ st₁ st₂ c x arms h k = k ∙ sym (h (λ arms rest. some_arms (t.arm c x arms) ∷ rest))

  pub arm-put : (st₀ st₁ st₂ : S) (c : Case) (x : E) → st₀ ≡ an_exp x ∷ st₁ → st₂ ≡ with_arms st₁ (λ arms rest. some_arms (t.arm (case_of (reading types strings) c) x arms) ∷ rest) → st₂ ≡ put (sign_of types strings (word.Arm c)) st₀
  arm-put st₀ st₁ st₂ c x h k = k ∙ sym (ap (put (sign_of types strings (word.Arm c))) h)

  pub test-pushed : (st₀ st₁ : S) (a u : ℕ) (c : Case) (as_ : List Arm) (others : Vec Arm Global) (x : E) → others.items ≡ reverse as_ → st₁ ≡ an_exp (plain.put (step_in types strings (step.Test a u c others)) x) ∷ st₀
      → st₁ ≡ an_exp (t.switch a u (t.arm (case_of (reading types strings) c) x (arms_of (map (arm_in types strings) (reverse as_))))) ∷ st₀
  test-pushed st₀ st₁ a u c as_ others x n k =
      k ∙ ap (λ s. an_exp (plain.put s x) ∷ st₀) (step-test (reading types strings) a u c others)
      ∙ ap (λ l. an_exp (t.switch a u (t.arm (case_of (reading types strings) c) x (arms_of (map (arm_in types strings) l)))) ∷ st₀) n

  pub switch-arms : (st₀ st₁ st₂ : S) (i : Item) (a u : ℕ) (others : Vec Arm Global) (c : Case) (ss : Vec Step Global) (e : Exp) → st₀ ≡ item_in types strings i ∷ st₁ → i ≡ item.Arms others c ss e
      → st₂ ≡ an_exp (t.switch a u (t.arm (case_of (reading types strings) c) (open_in types strings ss.items e) (arms_of (map (arm_in types strings) (reverse others.items))))) ∷ st₁ → st₂ ≡ put (sign_of types strings (word.Switch a u)) st₀
  switch-arms st₀ st₁ st₂ i a u others c ss e h k n = n ∙ sym (ap (put (sign_of types strings (word.Switch a u))) (top st₀ st₁ i (item.Arms others c ss e) h k))

  pub switch-empty : (st₀ st₁ st₂ : S) (i : Item) (a u : ℕ) → st₀ ≡ item_in types strings i ∷ st₁ → i ≡ item.End → st₂ ≡ an_exp (t.switch a u t.no_arms) ∷ st₁ → st₂ ≡ put (sign_of types strings (word.Switch a u)) st₀
  switch-empty st₀ st₁ st₂ i a u h k n = n ∙ sym (ap (put (sign_of types strings (word.Switch a u))) (top st₀ st₁ i item.End h k))

  -- functions

  pub last-put : (st₀ st₁ st₂ : S) (x : Parameter) (ys : List Parameter) (e : Exp) → ys ≡ [] → st₀ ≡ an_exp (tree e) ∷ st₁ → st₂ ≡ a_fun (fun_of (reading types strings) (reverse ys) x (tree e)) ∷ st₁ → st₂ ≡ put (sign_of types strings (word.Last x)) st₀
  last-put st₀ st₁ st₂ x ys e n h k = k ∙ ap (λ l. a_fun (fun_of (reading types strings) (reverse l) x (tree e)) ∷ st₁) n ∙ sym (ap (put (sign_of types strings (word.Last x))) h)

  pub parameter-pushed : (st₀ st₁ : S) (ys new : List Parameter) (x y : Parameter) (e : E) → new ≡ ys ++ y ∷ [] → st₁ ≡ a_fun (fun_of (reading types strings) (reverse new) x e) ∷ st₀
      → st₁ ≡ a_fun (t.more y.variable y.ty (fun_of (reading types strings) (reverse ys) x e)) ∷ st₀
  parameter-pushed st₀ st₁ ys new x y e n k = k ∙ ap (λ l. a_fun (fun_of (reading types strings) l x e) ∷ st₀) (ap reverse n ∙ reverse-last ys y)

  pub parameter-put : (st₀ st₁ st₂ : S) (y : Parameter) (g : t.Fun (mono types)) → st₀ ≡ a_fun g ∷ st₁ → st₂ ≡ a_fun (t.more y.variable y.ty g) ∷ st₁ → st₂ ≡ put (sign_of types strings (word.Parameter y)) st₀
  parameter-put st₀ st₁ st₂ y g h k = k ∙ sym (ap (put (sign_of types strings (word.Parameter y))) h)

  pub fn-put : (st₀ st₁ st₂ : S) (g : t.Fun (mono types)) → st₀ ≡ a_fun g ∷ st₁ → st₂ ≡ acted (t.fn g) st₁ → st₂ ≡ put (sign_of types strings word.Fn) st₀
  fn-put st₀ st₁ st₂ g h k = k ∙ sym (ap (put (sign_of types strings word.Fn)) h)

  pub block-put : (st₀ st₁ st₂ : S) (e : E) → st₀ ≡ an_exp e ∷ st₁ → st₂ ≡ acted (t.block e) st₁ → st₂ ≡ put (sign_of types strings word.Block) st₀
  block-put st₀ st₁ st₂ e h k = k ∙ sym (ap (put (sign_of types strings word.Block)) h)

  pub packet-put : (st₀ st₁ st₂ : S) (x : ℕ) (d : E) → st₀ ≡ an_exp d ∷ st₁ → st₂ ≡ a_handler x d ∷ st₁ → st₂ ≡ put (sign_of types strings (word.Packet x)) st₀
  packet-put st₀ st₁ st₂ x d h k = k ∙ sym (ap (put (sign_of types strings (word.Packet x))) h)

  pub handler-taken : (st₀ st₁ st₂ : S) (x : ℕ) (e d : E) → st₀ ≡ a_handler x d ∷ st₁ → st₂ ≡ acted (t.handle e x d) st₁ → st₂ ≡ with_handler st₀ (λ x d rest. acted (t.handle e x d) rest)
  handler-taken st₀ st₁ st₂ x e d h k = k ∙ sym (ap (λ st. with_handler st (λ x d rest. acted (t.handle e x d) rest)) h)

  pub handle-put : (st₀ st₁ st₂ : S) (e : E) → st₀ ≡ an_exp e ∷ st₁ → st₂ ≡ with_handler st₁ (λ x d rest. acted (t.handle e x d) rest) → st₂ ≡ put (sign_of types strings word.Handle) st₀
  handle-put st₀ st₁ st₂ e h k = k ∙ sym (ap (put (sign_of types strings word.Handle)) h)

  pub function-taken : (st st' : S) (i : Item) (ys : Vec Parameter Global) (x : Parameter) (e : Exp) (made : Function) → st ≡ item_in types strings i ∷ st' → i ≡ item.Function ys x e → made.parameters.items ≡ reverse ys.items → made.last ≡ x → made.body ≡ e
      → st ≡ a_fun (function_in types strings made).function ∷ st'
  function-taken st st' i ys x e made h k p l b =
      top st st' i (item.Function ys x e) h k
      ∙ sym (ap (λ (r : FunctionTree (mono types)). a_fun r.function ∷ st') (function-parts (reading types strings) made)
      ∙ ap₂ (λ ps x. a_fun (fun_of (reading types strings) ps x (tree made.body)) ∷ st') p l
      ∙ ap (λ d. a_fun (fun_of (reading types strings) (reverse ys.items) x (tree d)) ∷ st') b)

  -- functions of a group, one after the other

  abbrev pub funs_onto : List (FunctionTree (mono types)) → t.Funs (mono types) → t.Funs (mono types)
  funs_onto [] gs = gs
  funs_onto (f ∷ fs) gs = t.fun f.variable f.type f.function (funs_onto fs gs)

  funs-last : (fs : List (FunctionTree (mono types))) (f : FunctionTree (mono types)) (gs : t.Funs (mono types)) → funs_onto (fs ++ f ∷ []) gs ≡ funs_onto fs (t.fun f.variable f.type f.function gs)
  funs-last [] f gs = refl
  funs-last (g ∷ fs) f gs = ap (t.fun g.variable g.type g.function) (funs-last fs f gs)

  funs-none : (fs : List (FunctionTree (mono types))) → funs_onto fs t.no_funs ≡ funs_of fs
  funs-none [] = refl
  funs-none (f ∷ fs) = ap (t.fun f.variable f.type f.function) (funs-none fs)

  map-last : {A B : Type 0} (g : A → B) (xs : List A) (x : A) → map g (xs ++ x ∷ []) ≡ map g xs ++ g x ∷ []
  map-last g [] x = refl
  map-last g (y ∷ ys) x = ap (λ l. g y ∷ l) (map-last g ys x)

  abbrev pub FunctionsSoFar : List Parameter → ℕ → (old now : S) → List Function → Type 0
  FunctionsSoFar hs i old now made = (gs : t.Funs (mono types)) (rest : S) → Takes types (heads_in (drop i hs)) now gs rest → Takes types (heads_in hs) old (funs_onto (map (function_in types strings) made) gs) rest

  pub none-taken : (hs : List Parameter) (old : S) (made : List Function) → made ≡ [] → FunctionsSoFar hs 0 old old made
  none-taken hs old made e gs rest h = subst (λ l. Takes types (heads_in hs) old (funs_onto (map (function_in types strings) l) gs) rest) (sym e) h

  pub one-taken : (hs : List Parameter) (i : ℕ) (d x : Parameter) (old now next : S) (made new : List Function) (f : Function) → i < length hs → x ≡ get_or hs i d → new ≡ made ++ f ∷ [] → now ≡ a_fun (function_in types strings f).function ∷ next
      → f.variable ≡ x.variable → f.ty ≡ x.ty → FunctionsSoFar hs i old now made → FunctionsSoFar hs (i + 1) old next new
  one-taken hs i d x old now next made new f lt is n k v u h gs rest taken =
      let F = function_in types strings f in
      subst (λ r. Takes types (heads_in hs) old r rest)
      (sym (ap (λ l. funs_onto (map (function_in types strings) l) gs) n ∙ ap (λ l. funs_onto l gs) (map-last (function_in types strings) made f) ∙ funs-last (map (function_in types strings) made) F gs))
      (h (t.fun F.variable F.type F.function gs) rest one)
    where
      one : Takes types (heads_in (drop i hs)) now (t.fun (function_in types strings f).variable (function_in types strings f).type (function_in types strings f).function gs) rest
      one g =
          let F = function_in types strings f in
          let p = function-parts (reading types strings) f in
          ap (λ l. with_funs (heads_in l) now g) (drop_more hs i d lt ∙ ap (λ y. y ∷ drop (i + 1) hs) (sym is))
          ∙ ap (λ st. with_funs (heads_in (x ∷ drop (i + 1) hs)) st g) k
          ∙ taken (λ gs m. g (t.fun x.variable x.ty F.function gs) m)
          ∙ ap₂ (λ a b. g (t.fun a b F.function gs) rest) (sym (ap (λ (r : FunctionTree (mono types)). r.variable) p ∙ v)) (sym (ap (λ (r : FunctionTree (mono types)). r.type) p ∙ u))

  all-behind : {A : Type 0} (xs : List A) (i : ℕ) → length xs ≤ i → drop i xs ≡ []
  all-behind [] zero h = refl
  all-behind [] (suc i) h = refl
  all-behind (x ∷ xs) zero h = absurd (omega (arith, h))
  all-behind (x ∷ xs) (suc i) h = all-behind xs i (omega (arith, h))

  pub all-taken : (hs : List Parameter) (i : ℕ) (old now : S) (made : List Function) → length hs ≤ i → FunctionsSoFar hs i old now made → Takes types (heads_in hs) old (funs_of (map (function_in types strings) made)) now
  all-taken hs i old now made le h =
      subst (λ gs. Takes types (heads_in hs) old gs now) (funs-none (map (function_in types strings) made)) (h t.no_funs now (λ f. ap (λ l. with_funs (heads_in l) now f) (all-behind hs i le)))

  pub group-put : (st₀ st₁ st₂ st₃ : S) (hs heads : List Parameter) (fs : Vec Function Global) → ((f : Heads → S → S) → with_heads st₀ f ≡ f (heads_in (reverse hs)) st₁) → heads ≡ reverse hs
      → Takes types (heads_in heads) st₁ (funs_of (map (function_in types strings) fs.items)) st₂ → st₃ ≡ stepped (plain.put (step_in types strings (step.Group 0 fs))) st₂ → st₃ ≡ put (sign_of types strings word.Group) st₀
  group-put st₀ st₁ st₂ st₃ hs heads fs h n taken k =
      k ∙ ap (λ s. stepped (plain.put s) st₂) (step-group (reading types strings) 0 fs)
      ∙ sym (h (λ hs rest. with_funs hs rest (λ gs more_rest. stepped (t.rec_in tt gs) more_rest))
      ∙ ap (λ l. with_funs (heads_in l) st₁ (λ gs more_rest. stepped (t.rec_in tt gs) more_rest)) (sym n)
      ∙ taken (λ gs more_rest. stepped (t.rec_in tt gs) more_rest))

  -- operations

  pub leaf-put : (st₀ st₁ : S) (a : Act) (o : Operation) → sign_of_act types strings a ≡ op_sign (operation_of (reading types strings) o) → st₁ ≡ acted (operation_of (reading types strings) o) st₀ → st₁ ≡ put (sign_of types strings (word.Act a)) st₀
  leaf-put st₀ st₁ a o h k = k ∙ sym (ap (λ w. put w st₀) h)

  -- all words

  pub built-none : (ws : List Word) (left : ℕ) (st : List Item) → length ws ≤ left → st ≡ [] → stack_in types strings st ≡ build (signs_of types strings (drop left ws))
  built-none ws left st le e = ap (stack_in types strings) e ∙ sym (ap (λ l. build (signs_of types strings l)) (all-behind ws left le))

  pub built-next : (ws : List Word) (left i : ℕ) (d x : Word) (st st' : S) → left ≡ i + 1 → i < length ws → x ≡ get_or ws i d → st ≡ build (signs_of types strings (drop left ws)) → st' ≡ put (sign_of types strings x) st
      → st' ≡ build (signs_of types strings (drop i ws))
  built-next ws left i d x st st' e lt is h k =
      k ∙ ap (put (sign_of types strings x)) (h ∙ ap (λ j. build (signs_of types strings (drop j ws))) e)
      ∙ sym (ap (λ l. build (signs_of types strings l)) (drop_more ws i d lt ∙ ap (λ y. y ∷ drop (i + 1) ws) (sym is)))

  pub built-all : (ws : List Word) (left : ℕ) (st st' : S) (made : Exp) (e : E) → left ≡ 0 → st ≡ build (signs_of types strings (drop left ws)) → st ≡ an_exp (tree made) ∷ st' → signs_of types strings ws ≡ spell e [] → tree made ≡ e
  built-all ws left st st' made e z h k w =
      let a : an_exp (tree made) ∷ st' ≡ an_exp e ∷ [] =
      sym k ∙ h ∙ ap (λ j. build (signs_of types strings (drop j ws))) z ∙ ap build w ∙ exp-built types e [] in
      cc
