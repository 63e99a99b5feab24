-- What is a function by itself, as a function.
use Rattle.std.proofs.Common.{◌≡◌, ℕ, suc, ◌+◌, Bool, true, false, List, [], ◌∷◌, ◌++◌, length, Some, None, Result, Ok, Err, IfOk, Vec, Global, sym, ap, ap₂, ◌∙◌, arith}
use Rattle.mlc_prims.specs.declared.basis.BasisPrimitive.{BasisPrimitive}
use Rattle.ir_plain.specs.Tree as t
use Rattle.ir_mono.specs.Types as table
use Rattle.ir_mono.specs.Types.{node_at, constructor_at}
use Rattle.ir_mono.specs.Mono.{mono, Mono}
use Rattle.plain_tree.specs.declared.tree.Binding.{Binding}
use Rattle.plain_tree.specs.declared.tree.Operation.{Operation}
use Rattle.plain_tree.specs.declared.tree.Operation.TheVariants as op
use Rattle.plain_tree.specs.declared.tree.Exception.TheVariants as exception
use Rattle.plain_tree.specs.declared.tree.Step.{Step}
use Rattle.plain_tree.specs.declared.tree.Step.TheVariants as step
use Rattle.plain_tree.specs.TreeOf.{put, onto, atoms_of}
use Rattle.mono_bound.specs.Reads.{reading}
use Rattle.eta_expand.specs.Expand.{Names, takes_argument, past, selecting, gives_it, constructing, referring, packing, performing, used_as, alone_as, takes_at, gives_at, expand_op, op_news}
use Rattle.eta_parts.specs.Reads.{mono_operation, mono_step, steps_in, a_let}
use Rattle.eta_parts.specs.Numbers.{numbers_from}
use Rattle.eta_parts.proofs.Rolls.{step-let, step-name}
use Rattle.eta_parts.proofs.Parts.{map-last, onto-last, atoms-are, past-is}

pub if-ok : {A E : Type 0} (P Q : A → Type 0) (r : Result A E) → ((a : A) → P a → Q a) → IfOk r P → IfOk r Q
if-ok P Q (Ok a) k h = k a h
if-ok P Q (Err e) k h = h

next-is : (n m : ℕ) → m ≡ n + 1 → m ≡ suc n
next-is n m h = omega (arith, h)

module _ (types : List table.Row) (strings : List (List ℕ)) where
  abbrev E : Type 0
  E = Mono types

  -- the value of an operation, after steps
  pub given-after : (old new : List Step) (b : Binding) (o : Operation) → new ≡ old ++ step.Let b o ∷ [] → onto (steps_in types strings new) (t.ret b.variable) ≡ onto (steps_in types strings old) (gives_it types b.variable b.ty (mono_operation types strings o))
  given-after old new b o n =
      ap (λ l. onto l (t.ret b.variable)) (ap (steps_in types strings) n ∙ map-last (mono_step types strings) old (step.Let b o))
      ∙ onto-last types (steps_in types strings old) (mono_step types strings (step.Let b o)) (t.ret b.variable)
      ∙ ap (λ s. onto (steps_in types strings old) (put s (t.ret b.variable))) (step-let (reading types strings) b o)

  -- an operation on the parameter p, into the next variable
  module _ (ss : List Step) (x g m p n u v : ℕ) (o : ℕ → t.Op (mono types)) (body : E) (xg : x ≡ g) (gm : g ≡ m) (mn : m ≡ n + 1) (pn : p ≡ n) (vu : v ≡ u) where
    next-given : x ≡ suc n
    next-given = xg ∙ gm ∙ next-is n m mn

    pub given-alone : ss ≡ [] → body ≡ onto (steps_in types strings ss) (gives_it types x v (o p)) → body ≡ gives_it types (suc n) u (o n)
    given-alone e h =
        h ∙ ap (λ l. onto (steps_in types strings l) (gives_it types x v (o p))) e ∙ ap₂ (λ y k. gives_it types y v (o k)) next-given pn ∙ ap (λ k. gives_it types (suc n) k (o n)) vu

    pub fn-alone : (a : ℕ) → ss ≡ [] → body ≡ onto (steps_in types strings ss) (gives_it types x v (o p)) → t.fn (t.last p a body) ≡ t.fn (t.last n a (gives_it types (suc n) u (o n)))
    fn-alone a e h = ap₂ (λ k r. t.fn (t.last k a r)) pn (given-alone e h)

  -- a packet of the exception z, whose name comes first
  pub fn-packing : (ss : List Step) (x g m₂ y m p n e v a z : ℕ) (body : E) → x ≡ g → g ≡ m₂ → m₂ ≡ m + 1 → y ≡ m → m ≡ n + 1 → p ≡ n → v ≡ e → ss ≡ step.Name y (exception.Held z) ∷ []
      → body ≡ onto (steps_in types strings ss) (gives_it types x v (t.pack None a y p)) → t.fn (t.last p a body) ≡ t.fn (packing types n a e z)
  fn-packing ss x g m₂ y m p n e v a z body xg gm mm ym mn pn ve s h =
      let yn : y ≡ suc n = ym ∙ next-is n m mn in
      let xn : x ≡ suc (suc n) = xg ∙ gm ∙ next-is m m₂ mm ∙ ap suc (next-is n m mn) in
      ap₂ (λ k r. t.fn (t.last k a r)) pn
      (h ∙ ap (λ l. onto (steps_in types strings l) (gives_it types x v (t.pack None a y p))) s
      ∙ ap (λ r. put r (gives_it types x v (t.pack None a y p))) (step-name (reading types strings) y (exception.Held z))
      ∙ ap₂ (λ i j. t.name_in i (t.held z) (gives_it types j v (t.pack None a i p))) yn xn ∙ ap₂ (λ k w. t.name_in (suc n) (t.held z) (gives_it types (suc (suc n)) w (t.pack None a (suc n) k))) pn ve)

  -- the name is brought in, and then the function is given
  pub block-used : (ss : List Step) (s : Step) (y m g m₂ n u x : ℕ) (b : Binding) (body : E) → y ≡ n → m ≡ n + 1 → g ≡ m → m₂ ≡ m + 1 → b.variable ≡ g → b.ty ≡ u
      → ss ≡ step.Name y (exception.Held x) ∷ s ∷ [] → mono_step types strings s ≡ a_let types strings b (t.fn (packing types m₂ (takes_at (node_at types u)) (gives_at (node_at types u)) y))
      → body ≡ onto (steps_in types strings ss) (t.ret g) → t.block body ≡ used_as types true n u x
  block-used ss s y m g m₂ n u x b body yn mn gm mm bg bu e h k =
      let gn : g ≡ suc n = gm ∙ next-is n m mn in
      let m₂n : m₂ ≡ suc (suc n) = next-is m m₂ mm ∙ ap suc (next-is n m mn) in
      let f : ℕ → ℕ → t.Op (mono types) = λ i j. t.fn (packing types i (takes_at (node_at types u)) (gives_at (node_at types u)) j) in
      ap t.block
      (k ∙ ap (λ l. onto (steps_in types strings l) (t.ret g)) e
      ∙ ap₂ (λ q r. put q (put r (t.ret g))) (step-name (reading types strings) y (exception.Held x)) h
      ∙ ap₂ (λ i j. t.name_in y (t.held x) (t.let_in i tt j (f m₂ y) (t.ret g))) bg bu
      ∙ ap₂ (λ i j. t.name_in i (t.held x) (t.let_in j tt u (f m₂ i) (t.ret j))) yn gn
      ∙ ap (λ i. t.name_in n (t.held x) (gives_it types (suc n) u (f i n))) m₂n)

  -- a primitive of one argument
  pub fn-single : (ss : List Step) (xs : List ℕ) (x g m p n r v a u : ℕ) (q : BasisPrimitive) (body : E) (ps : List ℕ) → x ≡ g → g ≡ m → m ≡ n + 1 → p ≡ n → v ≡ r → ss ≡ [] → xs ≡ p ∷ []
      → body ≡ onto (steps_in types strings ss) (gives_it types x v (t.prim None q u (atoms_of (reading types strings) xs))) → t.fn (t.last p a body) ≡ t.fn (performing types true n q u a r ps)
  fn-single ss xs x g m p n r v a u q body ps xg gm mn pn vr e k h =
      fn-alone ss x g m p n r v (λ i. t.prim None q u (t.an_atom i t.no_atoms)) body xg gm mn pn vr a e (h ∙ ap (λ l. onto (steps_in types strings ss) (gives_it types x v (t.prim None q u (atoms_of (reading types strings) l)))) k)

  -- a primitive of a tuple's parts
  pub fn-tuple : (none ss : List Step) (xs : List ℕ) (x g m₂ m p n r v a u : ℕ) (q : BasisPrimitive) (body : E) (ps : List ℕ) → x ≡ g → g ≡ m₂ → m₂ ≡ m + length ps → m ≡ n + 1 → p ≡ n → v ≡ r → none ≡ []
      → ((e : E) → onto (steps_in types strings ss) e ≡ onto (steps_in types strings none) (selecting types a p 1 m ps e)) → xs ≡ numbers_from m ps
      → body ≡ onto (steps_in types strings ss) (gives_it types x v (t.prim None q u (atoms_of (reading types strings) xs))) → t.fn (t.last p a body) ≡ t.fn (performing types false n q u a r ps)
  fn-tuple none ss xs x g m₂ m p n r v a u q body ps xg gm mm mn pn vr e s k h =
      let m' : m ≡ suc n = next-is n m mn in
      let past' : x ≡ past (suc n) ps = xg ∙ gm ∙ mm ∙ sym (past-is m ps) ∙ ap (λ i. past i ps) m' in
      ap₂ (λ i b. t.fn (t.last i a b)) pn
      (h ∙ s (gives_it types x v (t.prim None q u (atoms_of (reading types strings) xs)))
      ∙ ap (λ l. onto (steps_in types strings l) (selecting types a p 1 m ps (gives_it types x v (t.prim None q u (atoms_of (reading types strings) xs))))) e
      ∙ ap₂ (λ i j. selecting types a i 1 j ps (gives_it types x v (t.prim None q u (atoms_of (reading types strings) xs)))) pn m'
      ∙ ap₂ (λ i w. selecting types a n 1 (suc n) ps (gives_it types i w (t.prim None q u (atoms_of (reading types strings) xs)))) past' vr
      ∙ ap (λ as_. selecting types a n 1 (suc n) ps (gives_it types (past (suc n) ps) r (t.prim None q u as_)))
      (ap (atoms_of (reading types strings)) (k ∙ ap (λ i. numbers_from i ps) m') ∙ atoms-are types strings (suc n) ps))

  -- a primitive, as it takes its arguments

  pub performing-as : (n u a a' r r' : ℕ) (q : BasisPrimitive) (ps ps' : List ℕ) (b s : Bool) → b ≡ s → a ≡ a' → r ≡ r' → ps ≡ ps' → t.fn (performing types b n q u a r ps) ≡ t.fn (performing types s n q u a' r' ps')
  performing-as n u a a' r r' q ps ps' b s e f g h = ap₂ (λ v w. t.fn (performing types v n q u w r ps)) e f ∙ ap₂ (λ v w. t.fn (performing types s n q u a' v w)) g h

  -- what an operation becomes

  module _ (N : Names) (n u : ℕ) (o : Operation) where
    abbrev made : t.Op (mono types)
    made = expand_op types N n u (mono_operation types strings o)

    pub use-becomes : (x : ℕ) (ts : Vec ℕ Global) (b : Bool) → o ≡ op.Use x ts → b ≡ takes_argument N x → b ≡ true → used_as types true n u x ≡ made
    use-becomes x ts b is h k = ap (λ v. used_as types v n u x) (sym k ∙ h) ∙ ap (λ v. expand_op types N n u (mono_operation types strings v)) (sym is)

    pub constructor-becomes : (c v a : ℕ) → o ≡ op.Constructor c v → constructor_at types v c ≡ Some (Some a) → t.fn (constructing types n c v a) ≡ made
    constructor-becomes c v a is h = ap (λ w. alone_as types w n c v) (sym h) ∙ ap (λ w. expand_op types N n u (mono_operation types strings w)) (sym is)

    pub reference-becomes : (a r : ℕ) → o ≡ op.Reference a → r ≡ gives_at (node_at types u) → t.fn (referring types n a r) ≡ made
    reference-becomes a r is h = ap (λ w. t.fn (referring types n a w)) h ∙ ap (λ w. expand_op types N n u (mono_operation types strings w)) (sym is)

    pub primitive-becomes : (q : BasisPrimitive) (v : ℕ) → o ≡ op.Primitive q v → expand_op types N n u (t.prim_alone q v) ≡ made
    primitive-becomes q v is = ap (λ w. expand_op types N n u (mono_operation types strings w)) (sym is)

    pub primitive-news : (q : BasisPrimitive) (v : ℕ) → o ≡ op.Primitive q v → op_news types N u (t.prim_alone q v) ≡ op_news types N u (mono_operation types strings o)
    primitive-news q v is = ap (λ w. op_news types N u (mono_operation types strings w)) (sym is)
