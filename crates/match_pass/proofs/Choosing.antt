-- Steps that may miss, in a block with what is raised then.
use Rattle.std.proofs.Common.{◌≡◌, ℕ, suc, List, sym, ap, ap₂, ◌∙◌}
use Rattle.ir_plain.specs.Tree as te
use Rattle.ir_poly.specs.Tests.{Tests}
use Rattle.match_compile.specs.Compile.{atom, put, otherwise, Otherwise}
use Rattle.plain_tree.specs.TreeOf as plain
use Rattle.plain_tree.specs.declared.tree.Exp.{Exp}
use Rattle.plain_tree.specs.declared.tree.Step.{Step}
use Rattle.general_bindings.specs.of_match_types.Views.{View, reading, Keeps, value_type}
use Rattle.general_bindings.specs.of_match_types.declared.work.Work.{Work}
use Rattle.general_bindings.specs.of_match_types.declared.work.ValueType.{ValueType}
use Rattle.general_bindings.specs.of_match_types.declared.work.ValueType.TheVariants as kind
use Rattle.general_bindings.proofs.of_match_types.Seeing.{keeps-on, sees-before}
use Rattle.general_bindings.specs.of_match_steps.Steps.{stand}
use Rattle.general_bindings.proofs.of_match_steps.Pushed.{puts-as}
use Rattle.general_bindings.specs.of_exp_steps.Making.{Pushed}
use Rattle.general_bindings.specs.of_exp_blocks.Giving.{Gives}
use Rattle.match_pass.specs.Going.{Ending, Chosen}

pub choice-made : {w0 w1 w2 : Work} {s a : List Step} {y : ℕ} (u : ℕ) (t : ValueType) (x : ℕ) (o : Otherwise) (inner : List Step) (value : ℕ) (body last all : Exp) → Keeps w0 w1 → w1.next ≡ suc w0.next
    → Gives w1 last (λ v. otherwise v.scope w0.next (value_type v t) x o) → ((v : View) → plain.tree_of (reading v) body ≡ stand v inner (te.ret (atom value)))
    → ((v : View) → plain.tree_of (reading v) all ≡ te.first (plain.tree_of (reading v) body) (plain.tree_of (reading v) last))
    → ((g : View → Tests) → Gives w1 all g → Pushed w1 w2 s a (kind.Source u) (λ v. te.block (g v)) y) → (g : View → Tests) → Ending w0 inner value g → Chosen w0 w2 s a u t x o g y
choice-made {w0 = w0} {w1 = w1} {w2 = w2} {s = s} {a = a} {y = y} u t x o inner value body last all k next l ended first push g e = record {
  keeps = keeps-on w0 w1 w2 k p.keeps;
  is = p.is ∙ next;
  next = p.next ∙ ap suc (sym p.is);
  puts = puts-as (λ v rest. put v.scope (suc w0.next) (v.source.type u) (te.block (whole v)) rest) (λ v sees rest. ap (λ i. put v.scope i (v.source.type u) (te.block (whole v)) rest) next) p.puts;
}
  where
    whole : View → Tests
    whole v = te.first (g v) (otherwise v.scope w0.next (value_type v t) x o)

    p : Pushed w1 w2 s a (kind.Source u) (λ v. te.block (whole v)) y
    p = push whole (record { gives = λ v sees. first v ∙ ap₂ te.first (ended v ∙ e v (sees-before w0 w1 v k sees)) (l.gives v sees) })
