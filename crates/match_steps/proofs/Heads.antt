-- What stands before an argument is tested.
use Rattle.std.proofs.Common.{◌≡◌, ℕ, suc, List, [], sym, ap, ap₂, ◌∙◌}
use Rattle.ir_plain.specs.Tree.{is_con_of, is_exn_of}
use Rattle.ir_poly.specs.Tests.{inst}
use Rattle.ty_table.specs.TypeAt.{type_at}
use Rattle.match_compile.specs.Compile.{test}
use Rattle.plain_tree.specs.declared.tree.Case.TheVariants as case
use Rattle.plain_tree.specs.declared.tree.Parameter.{Parameter}
use Rattle.plain_tree.specs.declared.tree.Step.{Step}
use Rattle.prog_tree.specs.declared.tree.Exception.{Exception}
use Rattle.prog_tree.specs.declared.tree.Head.{Head}
use Rattle.prog_tree.specs.declared.tree.Head.TheVariants as head
use Rattle.match_types.specs.Views.{value_type, Keeps, Stands, in_view}
use Rattle.match_types.specs.declared.work.ValueType.{ValueType}
use Rattle.match_types.specs.declared.work.Work.{Work}
use Rattle.match_types.proofs.Seeing.{keeps-on, sees-before}
use Rattle.match_steps.specs.Steps.{Puts}
use Rattle.match_steps.specs.Made.{testing, naming, containing, heading}
use Rattle.match_steps.proofs.Pushed.{puts-as, two-puts}

pub constructor-headed : (w1 w2 : Work) (s s' : List Step) (h : Head) (c : ℕ) (u y : ValueType) (n a : ℕ) (x : Parameter) → h ≡ head.Constructor c → x.variable ≡ n → Stands w1 x.ty (in_view u)
    → Keeps w1 w2 → Puts w2 s s' (testing y a (case.ConstructorOf c x)) → Puts w2 s s' (heading h u y n a)
constructor-headed w1 w2 s s' h c u y n a x e variable is k p = puts-as (heading h u y n a)
    (λ v sees rest. ap₂ (λ m b. test v.scope (value_type v y) a (is_con_of c m b) rest) variable (is v (sees-before w1 w2 v k sees)) ∙ ap (λ g. heading g u y n a v rest) (sym e)) p

pub reference-headed : (w : Work) (s s' : List Step) (h : Head) (u y : ValueType) (n a : ℕ) → h ≡ head.Reference → Puts w s s' (containing u a n) → Puts w s s' (heading h u y n a)
reference-headed w s s' h u y n a e p = puts-as (heading h u y n a) (λ v sees rest. ap (λ g. heading g u y n a v rest) (sym e)) p

pub exception-headed : (w1 w2 w3 : Work) (s s' s'' : List Step) (h : Head) (z : Exception) (u y : ValueType) (n a name : ℕ) (x : Parameter) → h ≡ head.Exception z → name ≡ n → w1.next ≡ suc n
    → Puts w1 s s' (naming z n) → x.variable ≡ w1.next → Stands w2 x.ty (in_view u) → Keeps w1 w2 → Keeps w2 w3 → Puts w3 s' s'' (testing y a (case.ExceptionOf name x))
    → Puts w3 s s'' (heading h u y n a)
exception-headed w1 w2 w3 s s' s'' h z u y n a name x e is next p variable stands k l q = puts-as (heading h u y n a)
    (λ v sees rest.
    ap (λ i. naming z n v (test v.scope (value_type v y) a (is_exn_of (inst i []) x.variable (type_at v.types x.ty)) rest)) is
    ∙ ap₂ (λ i b. naming z n v (test v.scope (value_type v y) a (is_exn_of (inst n []) i b) rest)) (variable ∙ next) (stands v (sees-before w2 w3 v l sees))
    ∙ ap (λ g. heading g u y n a v rest) (sym e))
    (two-puts w1 w3 s s' s'' (naming z n) (testing y a (case.ExceptionOf name x)) (keeps-on w1 w2 w3 k l) p q)

pub heading-as : (w : Work) (s s' : List Step) (h g : Head) (u y : ValueType) (n a : ℕ) → h ≡ g → Puts w s s' (heading g u y n a) → Puts w s s' (heading h u y n a)
heading-as w s s' h g u y n a e p = puts-as (heading h u y n a) (λ v sees rest. ap (λ k. heading k u y n a v rest) (sym e)) p
