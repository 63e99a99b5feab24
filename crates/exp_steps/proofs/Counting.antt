-- Weights before what is made.
use Rattle.std.proofs.Common.{◌≡◌, ℕ, List, [], ◌∷◌, ◌++◌, refl, sym, ap, ◌∙◌}
use Rattle.ir_poly.specs.Prog as t
use Rattle.ir_poly.specs.Tests.{Tests}
use Rattle.match_compile.specs.Compile.{making, making_tuple, past_tuple, tuple_atoms, weighed, value_at}
use Rattle.plain_tree.specs.TreeOf as plain
use Rattle.plain_tree.specs.declared.tree.Field.{Field}
use Rattle.plain_tree.specs.declared.tree.Step.{Step}
use Rattle.plain_tree.specs.declared.tree.Step.TheVariants as steps
use Rattle.prog_tree.specs.TreeOf.{Reading}
use Rattle.match_steps.specs.of_match_types.Views.{reading}
use Rattle.match_steps.specs.of_match_types.declared.work.Work.{Work}
use Rattle.match_steps.proofs.of_match_types.Seeing.{keeps-same}
use Rattle.match_steps.specs.Steps.{Puts}
use Rattle.match_steps.proofs.Pushed.{pushed, two-puts, puts-as, leads-nowhere}
use Rattle.exp_steps.specs.Making.{Makes, MakesTuple, Weighs, counting, atoms_in}
use Rattle.exp_steps.specs.Made.{counted}
use Rattle.exp_steps.proofs.Nodes.{step_of-Counted}
use Rattle.exp_steps.proofs.Heads.{IsAlone}

pub count-pushed : (w : Work) (before after : List Step) (k : ℕ) → after ≡ before ++ steps.Counted k ∷ [] → Puts w before after (counting k)
count-pushed w before after k e = pushed w before after (steps.Counted k) (counting k) e (λ v sees rest. ap (λ s. plain.put s rest) (step_of-Counted (reading v) k))

pub counted-makes : {w w1 : Work} {s m a : List Step} {e : Reading → t.Exp} {x : ℕ} (k u : ℕ) → Puts w s m (counting k) → Makes w w1 m a e x → Makes w w1 s a (counted k u e) x
counted-makes {w = w} {w1 = w1} {s = s} {m = m} {a = a} {e = e} k u p q = record {
  keeps = q.keeps;
  is = q.is;
  next = q.next;
  puts = two-puts w w1 s m a (counting k) (λ v rest. making v.scope v.names (e v.source) w.next rest) q.keeps p q.puts;
}

pub counted-tuple : {w w1 : Work} {s m a : List Step} {e : Reading → t.Exp} {made : List Field} (k u : ℕ) → Puts w s m (counting k) → MakesTuple w w1 m a e made → MakesTuple w w1 s a (counted k u e) made
counted-tuple {w = w} {w1 = w1} {s = s} {m = m} {a = a} {e = e} k u p q = record {
  keeps = q.keeps;
  next = q.next;
  atoms = q.atoms;
  puts = two-puts w w1 s m a (counting k) (λ v rest. making_tuple v.scope v.names (e v.source) w.next rest) q.keeps p q.puts;
}

pub counted-weighs : {w : Work} {s m a : List Step} {f : Reading → t.Exp} (k u : ℕ) → Puts w s m (counting k) → Weighs w w m a f → Weighs w w s a (counted k u f)
counted-weighs {w = w} {s = s} {m = m} {a = a} {f = f} k u p q = record {
  keeps = q.keeps;
  next = q.next;
  puts = two-puts w w s m a (counting k) (λ v rest. weighed (f v.source) rest) (keeps-same w) p q.puts;
}

-- the same said otherwise
pub weighs-as : {w w1 : Work} {s a : List Step} (f g : Reading → t.Exp) → ((R : Reading) → g R ≡ f R) → Weighs w w1 s a f → Weighs w w1 s a g
weighs-as f g e p = record { keeps = p.keeps; next = p.next; puts = puts-as (λ v rest. weighed (g v.source) rest) (λ v sees rest. sym (ap (λ h. weighed h rest) (e v.source))) p.puts }

-- an expression that has no weights in front
pub weighs-none : (w : Work) (s : List Step) (f : Reading → t.Exp) → ((R : Reading) (rest : Tests) → weighed (f R) rest ≡ rest) → Weighs w w s s f
weighs-none w s f o = record {
  keeps = keeps-same w;
  next = refl;
  puts = puts-as (λ v rest. weighed (f v.source) rest) (λ v sees rest. sym (o v.source rest)) (leads-nowhere w s (λ v rest. rest));
}

pub tuple-as : {w w1 : Work} {s a : List Step} {made : List Field} (f g : Reading → t.Exp) → ((R : Reading) → g R ≡ f R) → MakesTuple w w1 s a f made → MakesTuple w w1 s a g made
tuple-as {w = w} f g e p = record {
  keeps = p.keeps;
  next = λ v sees. p.next v sees ∙ sym (ap (λ h. past_tuple h w.next) (e v.source));
  atoms = λ v sees. p.atoms v sees ∙ sym (ap (λ h. tuple_atoms h w.next) (e v.source));
  puts = puts-as (λ v rest. making_tuple v.scope v.names (g v.source) w.next rest) (λ v sees rest. sym (ap (λ h. making_tuple v.scope v.names h w.next rest) (e v.source))) p.puts;
}

pub tuple-none : (w : Work) (s : List Step) (made : List Field) (f : Reading → t.Exp) → made ≡ [] → ((R : Reading) → IsAlone (f R)) → MakesTuple w w s s f made
tuple-none w s made f none o = record {
  keeps = keeps-same w;
  next = λ v sees. sym ((o v.source).past w.next);
  atoms = λ v sees. ap (λ l. plain.atoms_of (reading v) (atoms_in l)) none ∙ sym ((o v.source).atoms w.next);
  puts = puts-as (λ v rest. making_tuple v.scope v.names (f v.source) w.next rest) (λ v sees rest. sym ((o v.source).made v.scope v.names w.next rest)) (leads-nowhere w s (λ v rest. rest));
}

-- a part that is read as another
pub makes-as : {w w1 : Work} {s a : List Step} {x : ℕ} (f g : Reading → t.Exp) → ((R : Reading) → g R ≡ f R) → Makes w w1 s a f x → Makes w w1 s a g x
makes-as {w = w} f g e p = record {
  keeps = p.keeps;
  is = λ v sees. ap (λ h. value_at h w.next) (e v.source) ∙ p.is v sees;
  next = p.next;
  puts = puts-as (λ v rest. making v.scope v.names (g v.source) w.next rest) (λ v sees rest. sym (ap (λ h. making v.scope v.names h w.next rest) (e v.source))) p.puts;
}
