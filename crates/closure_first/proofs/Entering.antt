-- The code of one function.
use Rattle.std.proofs.Common.{◌≡◌, ℕ, Bool, List, [], ◌∷◌, ap, ap₂, ◌∙◌}
use Rattle.ir_mono.specs.Types as table
use Rattle.ir_mono.specs.Mono.{Mono}
use Rattle.ir_first.specs.Tree as out
use Rattle.flow_sets.specs.Flow.{Flow}
use Rattle.closure_convert.specs.Scope.{Member, Scope, Table}
use Rattle.closure_convert.specs.Closed.{scope_of}
use Rattle.first_tree.specs.declared.tree.Step.{Step}
use Rattle.first_tree.specs.declared.tree.Exp.TheVariants as made
use Rattle.first_tree.specs.TreeOf.{tree_of}
use Rattle.closure_meaning.specs.Convert.{Numbering, given, var, convert, making, self_name, opening}
use Rattle.closure_bodies.specs.of_closure_parts.Puts.{before, Puts}
use Rattle.closure_bodies.proofs.of_closure_parts.Rolls.{tree-ret}
use Rattle.closure_first.specs.Codes.{entered, giving, taking, IsSameGroup}

-- a body is begun in the scope of its group

pub begun-same : (s r : Scope) (x : ℕ) → r ≡ scope_of s.captured s.group x → IsSameGroup s r
begun-same s r x e = (ap (λ (v : Scope). v.captured) e, ap (λ (v : Scope). v.group) e)

pub begun-in : (s r : Scope) (ms : List Member) (x : ℕ) → r ≡ scope_of s.captured s.group x → s.group ≡ ms → r ≡ scope_of s.captured ms x
begun-in s r ms x e k = e ∙ ap (λ l. scope_of s.captured l x) k

module _ (n : Numbering) (types : List table.Row) (F : Flow) (T : Table) where
  pub entered-is : (q : Bool) (x name self : ℕ) (params : List ℕ) (none now : List Step) (e b : out.Exp) → params ≡ self ∷ name ∷ [] → self ≡ self_name n types F T q → name ≡ var x
      → none ≡ [] → Puts none now (opening n types F T q) → b ≡ before now e → record { params = params; body = b } ≡ entered n types F T q x e
  entered-is q x name self params none now e b p s m z h k =
      ap₂ (λ l v. record { params = l; body = v }) (p ∙ ap₂ (λ i j. i ∷ j ∷ []) s m) (k ∙ h e ∙ ap (λ l. before l (opening n types F T q e)) z)

module _ (n : Numbering) (types : List table.Row) (F : Flow) (T : Table) (q : Bool) (g : ℕ) (ms : List Member) (x : ℕ) (cs : List ℕ) (s : Scope) (r : out.Fun) (b : out.Exp)
    (c : cs ≡ T.captured g) (at : s ≡ scope_of cs ms x) (is : r ≡ entered n types F T q x b) where
  here : s ≡ scope_of (T.captured g) ms x
  here = at ∙ ap (λ l. scope_of l ms x) c

  pub giving-is : (k : ℕ) (none now : List Step) → none ≡ [] → Puts none now (making n types F T s given k) → b ≡ before now (tree_of (made.Ret given)) → r ≡ giving n types F T q g ms x k
  giving-is k none now z h m =
      is
      ∙ ap (entered n types F T q x)
      (m ∙ h (tree_of (made.Ret given)) ∙ ap (λ l. before l (making n types F T s given k (tree_of (made.Ret given)))) z ∙ ap₂ (λ v e. making n types F T v given k e) here (tree-ret given))

  pub taking-is : (e : Mono types) → b ≡ convert n types F T s e → r ≡ taking n types F T q g ms x e
  taking-is e m = is ∙ ap (entered n types F T q x) (m ∙ ap (λ v. convert n types F T v e) here)
