-- Steps that are pushed.
use Rattle.std.proofs.Common.{◌≡◌, ℕ, Bool, true, false, List, [], ◌∷◌, ◌++◌, map, drop, length, get_or, Vec, Box, Global, Result, Ok, IfOk, ◌==◌, refl, sym, ap, ap₂, subst, ◌∙◌, arith}
use Rattle.std.proofs.lemmas.Bool.{eqb-true}
use Rattle.first_values.specs.Operations as op
use Rattle.ir_first.specs.Tree as out
use Rattle.first_tables.specs.declared.operation.Test.{Test}
use Rattle.first_tables.specs.TablesOf.{test_of}
use Rattle.first_tree.specs.declared.tree.Exp.{Exp}
use Rattle.first_tree.specs.declared.tree.Exp.TheVariants as exp
use Rattle.first_tree.specs.declared.tree.Step.{Step}
use Rattle.first_tree.specs.declared.tree.Step.TheVariants as step
use Rattle.first_tree.specs.declared.tree.Arm.{Arm}
use Rattle.first_tree.specs.TreeOf.{tree_of, arm_of, arms_of}
use Rattle.plain_tree.specs.declared.tree.Parameter.{Parameter}
use Rattle.plain_tree.specs.declared.tree.Case.{Case}
use Rattle.plain_tree.specs.declared.tree.Case.TheVariants as case
use Rattle.first_values.specs.Values as cells
use Rattle.ir_mono.specs.Types as table
use Rattle.flow_sets.specs.Flow.{Flow}
use Rattle.plain_tree.specs.declared.tree.Exception.{Exception}
use Rattle.plain_tree.specs.TreeOf.{exception_of}
use Rattle.mono_bound.specs.Reads.{reading}
use Rattle.closure_convert.specs.Scope.{Scope, Member, Piece, Table}
use Rattle.capture_scope.specs.declared.scope.Member as code
use Rattle.capture_scope.specs.Seen.{members_of}
use Rattle.closure_meaning.specs.Convert.{Numbering, var, making, following, group_in, name_of}
use Rattle.closure_parts.specs.Pieces.{a_plain, made_of, followers}
use Rattle.closure_parts.specs.Puts.{before, Puts}
use Rattle.closure_parts.proofs.Rolls.{tree-steps, step-block, step-handle, step-try, step-when, step-unless, step-case}
use Rattle.closure_parts.proofs.Putting.{pushed, puts-as}
use Rattle.closure_steps.specs.Cases.{opened}

pub ok-at : {A E : Type 0} (P : A → Type 0) (r : Result A E) (a : A) → r ≡ Ok a → IfOk r P → P a
ok-at P r a e h = subst (λ s. IfOk s P) e h

module _ (old new : List Step) where
  pub when-put : (q : Test) (xs : Vec ℕ Global) (d : Box Exp Global) (r : op.Test) (ys : List ℕ) (o : Exp) → new ≡ old ++ step.When q xs d ∷ [] → test_of q ≡ r → xs.items ≡ ys → d.value ≡ o
      → Puts old new (λ e. out.branch r ys e (tree_of o))
  when-put q xs d r ys o m a b c e =
      pushed old new (step.When q xs d) _ m (step-when q xs d) e ∙ ap₂ (λ v l. before old (out.branch v l e (tree_of d.value))) a b ∙ ap (λ v. before old (out.branch r ys e (tree_of v))) c

  pub unless-put : (q : Test) (xs : Vec ℕ Global) (d : Box Exp Global) (r : op.Test) (ys : List ℕ) (o : Exp) → new ≡ old ++ step.Unless q xs d ∷ [] → test_of q ≡ r → xs.items ≡ ys → d.value ≡ o
      → Puts old new (out.branch r ys (tree_of o))
  unless-put q xs d r ys o m a b c e =
      pushed old new (step.Unless q xs d) _ m (step-unless q xs d) e ∙ ap₂ (λ v l. before old (out.branch v l (tree_of d.value) e)) a b ∙ ap (λ v. before old (out.branch r ys (tree_of v) e)) c

  pub case-put : (x i y j : ℕ) (others : Vec Arm Global) → new ≡ old ++ step.Case x i others ∷ [] → x ≡ y → i ≡ j → Puts old new (λ e. out.switch y (out.arm j e (arms_of (map arm_of others.items))))
  case-put x i y j others m a b e =
      pushed old new (step.Case x i others) _ m (step-case x i others) e ∙ ap₂ (λ v k. before old (out.switch v (out.arm k e (arms_of (map arm_of others.items))))) a b

  pub block-put : (x : ℕ) (d : Box Exp Global) → new ≡ old ++ step.Block x d ∷ [] → Puts old new (out.let_in x (out.block (tree_of d.value)))
  block-put x d m = pushed old new (step.Block x d) _ m (step-block x d)

  pub handle-put : (x : ℕ) (d : Box Exp Global) (y : ℕ) (h : Box Exp Global) → new ≡ old ++ step.Handle x d y h ∷ [] → Puts old new (out.let_in x (out.handle (tree_of d.value) y (tree_of h.value)))
  handle-put x d y h m = pushed old new (step.Handle x d y h) _ m (step-handle x d y h)

  pub try-put : (d : Box Exp Global) (o : Exp) → new ≡ old ++ step.Try d ∷ [] → d.value ≡ o → Puts old new (out.first (tree_of o))
  try-put d o m a e = pushed old new (step.Try d) _ m (step-try d) e ∙ ap (λ v. before old (out.first (tree_of v) e)) a

  -- a name for an operation, both of which are known otherwise
  pub let-known : (x y : ℕ) (o r : out.Op) → x ≡ y → o ≡ r → Puts old new (out.let_in x o) → Puts old new (out.let_in y r)
  let-known x y o r a b = puts-as old new (out.let_in x o) (out.let_in y r) (λ e. ap₂ (λ v u. out.let_in v u e) a b)

  pub opened-cell : (a : ℕ) (k : Case) (c : ℕ) (x : Parameter) → k ≡ case.ConstructorOf c x → Puts old new (out.let_in (var x.variable) (a_plain (op.field 0) (var a))) → Puts old new (opened a k)
  opened-cell a k c x is h e = h e ∙ ap (λ v. before old (opened a v e)) (sym is)

  pub opened-packet : (a : ℕ) (k : Case) (y : ℕ) (x : Parameter) → k ≡ case.ExceptionOf y x → Puts old new (out.let_in (var x.variable) (a_plain op.argument (var a))) → Puts old new (opened a k)
  opened-packet a k y x is h e = h e ∙ ap (λ v. before old (opened a v e)) (sym is)

pub opened-not : (old : List Step) (a : ℕ) (k c : Case) → k ≡ c → ((e : out.Exp) → opened a c e ≡ e) → Puts old old (opened a k)
opened-not old a k c is h e = ap (before old) (sym (h e)) ∙ ap (λ v. before old (opened a v e)) (sym is)

-- steps before an expression

pub onto-some : (ss : Vec Step Global) (d : Box Exp Global) (o : Exp) → d.value ≡ o → tree_of (exp.Steps ss d) ≡ before ss.items (tree_of o)
onto-some ss d o h = tree-steps ss d ∙ ap (λ v. before ss.items (tree_of v)) h

pub puts-none-before : (new : List Step) (g : out.Exp → out.Exp) (old : List Step) → old ≡ [] → Puts old new g → (e : out.Exp) → before new e ≡ g e
puts-none-before new g old n h e = h e ∙ ap (λ l. before l (g e)) n

-- closures

module _ (n : Numbering) (types : List table.Row) (F : Flow) (T : Table) (s : Scope) (old new : List Step) where
  pub making-put : (x k : ℕ) (ps : List Piece) → ps ≡ T.pieces k → Puts old new (made_of n s ps x k) → Puts old new (making n types F T s x k)
  making-put x k ps h p e = p e ∙ ap (λ l. before old (made_of n s l x k e)) h

  followers-are : (h : ℕ) (gs : List Member) (e : out.Exp) → followers n h gs e ≡ following n types F T h gs e
  followers-are h [] e = refl
  followers-are h (g ∷ gs) e = followers-are h gs (out.let_in (var g.name) (out.make (n.tag g.number) (cells.one (var h) ∷ [])) e)

  pub members-put : (mid : List Step) (x : ℕ) (g : Member) (gs : List Member) → x ≡ var g.name → Puts old mid (making n types F T s x g.number) → Puts mid new (followers n g.name gs) → Puts old new (group_in n types F T s (g ∷ gs))
  members-put mid x g gs h p q e = q e ∙ p (followers n g.name gs e) ∙ ap₂ (λ y r. before old (making n types F T s y g.number r)) h (followers-are g.name gs e)

  pub group-put : (ms ks : List Member) → ms ≡ ks → Puts old new (group_in n types F T s ms) → Puts old new (group_in n types F T s ks)
  group-put ms ks h p e = p e ∙ ap (λ l. before old (group_in n types F T s l e)) h

pub group-none : (n : Numbering) (types : List table.Row) (F : Flow) (T : Table) (s : Scope) (old : List Step) (ms : List code.Member) (b : Bool) → b ≡ (length ms == 0) → b ≡ true → Puts old old (group_in n types F T s (members_of ms))
group-none n types F T s old [] b h k e = refl
group-none n types F T s old (g ∷ ms) b h k e = absurd (omega (arith, eqb-true (length (g ∷ ms)) 0 (sym h ∙ k)))

pub first-and-rest : {A : Type 0} (xs rest : List A) (x d : A) (b : Bool) → b ≡ (length xs == 0) → b ≡ false → x ≡ get_or xs 0 d → rest ≡ drop 1 xs → xs ≡ x ∷ rest
first-and-rest {A = A} [] rest x d b e f i r = let h : (length {A = A} [] == 0) ≡ true = refl in absurd (cc)
first-and-rest (y ∷ xs) rest x d b e f i r = ap₂ (λ z l. z ∷ l) (sym i) (sym r)

pub name-put : (n : Numbering) (types : List table.Row) (F : Flow) (T : Table) (strings : List (List ℕ)) (s : Scope) (old new : List Step) (x y : ℕ) (q k : Exception) (o : out.Op) → q ≡ k → x ≡ var y
    → o ≡ name_of n types F T s (exception_of (reading types strings) k) → Puts old new (out.let_in x o) → Puts old new (out.let_in (var y) (name_of n types F T s (exception_of (reading types strings) q)))
name-put n types F T strings s old new x y q k o is h e p = let-known old new x (var y) o _ h (e ∙ ap (λ v. name_of n types F T s (exception_of (reading types strings) v)) (sym is)) p
