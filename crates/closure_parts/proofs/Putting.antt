-- Steps that are pushed one after the other.
use Rattle.std.proofs.Common.{◌≡◌, ℕ, zero, suc, ◌+◌, ◌<◌, ◌≤◌, List, [], ◌∷◌, ◌++◌, map, take, drop, length, get_or, Option, Some, None, refl, sym, ap, ◌∙◌, arith}
use Rattle.std.proofs.lemmas.List.{take_more}
use Rattle.mlc_base.specs.declared.place.Place.{Place}
use Rattle.first_values.specs.Operations as op
use Rattle.ir_first.specs.Tree as out
use Rattle.first_tables.specs.declared.operation.Piece.{Piece}
use Rattle.first_tables.specs.TablesOf.{piece_of}
use Rattle.first_tree.specs.declared.tree.Operation.{Operation}
use Rattle.first_tree.specs.declared.tree.Step.{Step}
use Rattle.first_tree.specs.declared.tree.Step.TheVariants.{Let, Turn}
use Rattle.first_tree.specs.TreeOf.{StepTree, put, onto, step_of, operation_of}
use Rattle.closure_meaning.specs.Convert.{given, spare, packed, marked}
use Rattle.closure_parts.specs.Puts.{before, Puts}
use Rattle.closure_parts.proofs.Rolls.{step-let, step-turn}

onto-last : (ss : List StepTree) (s : StepTree) (e : out.Exp) → onto (ss ++ s ∷ []) e ≡ onto ss (put s e)
onto-last [] s e = refl
onto-last (r ∷ ss) s e = ap (put r) (onto-last ss s e)

pub map-last : {A B : Type 0} (g : A → B) (xs : List A) (x : A) → map g (xs ++ x ∷ []) ≡ map g xs ++ g x ∷ []
map-last g [] x = refl
map-last g (y ∷ ys) x = ap (λ l. g y ∷ l) (map-last g ys x)

-- one more step
pub pushed : (old new : List Step) (s : Step) (t : StepTree) → new ≡ old ++ s ∷ [] → step_of s ≡ t → Puts old new (put t)
pushed old new s t n h e =
    ap (λ l. onto l e) (ap (map step_of) n ∙ map-last step_of old s) ∙ onto-last (map step_of old) (step_of s) e ∙ ap (λ r. onto (map step_of old) (put r e)) h

pub pushed-let : (old new : List Step) (x : ℕ) (o : Operation) → new ≡ old ++ Let x o ∷ [] → Puts old new (out.let_in x (operation_of o))
pushed-let old new x o n = pushed old new (Let x o) _ n (step-let x o)

pub pushed-turn : (old new : List Step) (p : Place) → new ≡ old ++ Turn p ∷ [] → Puts old new (out.turn p)
pushed-turn old new p n = pushed old new (Turn p) _ n (step-turn p)

pub puts-none : (old new : List Step) → new ≡ old → Puts old new (λ e. e)
puts-none old new n e = ap (λ l. before l e) n

-- one after the other
pub puts-then : (old now new : List Step) (g h : out.Exp → out.Exp) → Puts old now g → Puts now new h → Puts old new (λ e. g (h e))
puts-then old now new g h p q e = q e ∙ p (h e)

pub puts-as : (old new : List Step) (g h : out.Exp → out.Exp) → ((e : out.Exp) → g e ≡ h e) → Puts old new g → Puts old new h
puts-as old new g h k p e = p e ∙ ap (before old) (k e)

-- a name for an operation that is known otherwise
pub let-as : (old new : List Step) (x : ℕ) (o : Operation) (r : out.Op) → operation_of o ≡ r → Puts old new (out.let_in x (operation_of o)) → Puts old new (out.let_in x r)
let-as old new x o r h = puts-as old new (out.let_in x (operation_of o)) (out.let_in x r) (λ e. ap (λ v. out.let_in x v e) h)

pub seen : {A B : Type 0} (g : A → B) (xs : List A) (i : ℕ) (x d : A) → i < length xs → x ≡ get_or xs i d → map g (take (i + 1) xs) ≡ map g (take i xs) ++ g x ∷ []
seen g xs i x d lt is = ap (map g) (take_more xs i d lt ∙ ap (λ y. take i xs ++ y ∷ []) (sym is)) ∙ map-last g (take i xs) x

pub all-before : {A : Type 0} (xs : List A) (i : ℕ) → length xs ≤ i → take i xs ≡ xs
all-before [] zero h = refl
all-before [] (suc i) h = refl
all-before (x ∷ xs) zero h = absurd (omega (arith, h))
all-before (x ∷ xs) (suc i) h = ap (λ l. x ∷ l) (all-before xs i (omega (arith, h)))

pub all-behind : {A : Type 0} (xs : List A) (i : ℕ) → length xs ≤ i → drop i xs ≡ []
all-behind [] zero h = refl
all-behind [] (suc i) h = refl
all-behind (x ∷ xs) zero h = absurd (omega (arith, h))
all-behind (x ∷ xs) (suc i) h = all-behind xs i (omega (arith, h))

-- turns and packets

pub turn-pushed : (old new : List Step) (o : Option Place) (p : Place) → o ≡ Some p → new ≡ old ++ Turn p ∷ [] → Puts old new (marked o)
turn-pushed old new o p is n e = pushed-turn old new p n e ∙ ap (λ v. before old (marked v e)) (sym is)

pub turn-none : (old : List Step) (o : Option Place) → o ≡ None → Puts old old (marked o)
turn-none old o is e = ap (λ v. before old (marked v e)) (sym is)

pub packet-put : (old now new : List Step) (x : ℕ) (none : List Piece) (xs : List ℕ) → none ≡ [] → xs ≡ given ∷ spare ∷ [] → Puts old now (out.let_in spare (out.make 0 (map piece_of none))) → Puts now new (out.let_in x (out.plain op.pack xs))
    → Puts old new (packed x)
packet-put old now new x none xs n k p q e =
    q e ∙ ap (λ l. before now (out.let_in x (out.plain op.pack l) e)) k ∙ p (out.let_in x (out.plain op.pack (given ∷ spare ∷ [])) e)
    ∙ ap (λ l. before old (out.let_in spare (out.make 0 (map piece_of l)) (out.let_in x (out.plain op.pack (given ∷ spare ∷ [])) e))) n

-- a turn, if one is taken, and then a name for an operation
pub marked-let : (old now new : List Step) (k : Option Place) (x : ℕ) (o r : out.Op) → Puts old now (marked k) → o ≡ r → Puts now new (out.let_in x o) → Puts old new (λ e. marked k (out.let_in x r e))
marked-let old now new k x o r p h q e = q e ∙ ap (λ v. before now (out.let_in x v e)) h ∙ p (out.let_in x r e)

pub initial-put : (old one two new : List Step) (x i : ℕ) (none : List ℕ) → none ≡ [] → Puts old one (out.let_in given (out.plain (op.initial i) none)) → Puts one two (packed given) → Puts two new (out.let_in x (out.raise given))
    → Puts old new (λ e. out.let_in given (out.plain (op.initial i) []) (packed given (out.let_in x (out.raise given) e)))
initial-put old one two new x i none n p q r e =
    r e ∙ q (out.let_in x (out.raise given) e) ∙ p (packed given (out.let_in x (out.raise given) e)) ∙ ap (λ l. before old (out.let_in given (out.plain (op.initial i) l) (packed given (out.let_in x (out.raise given) e)))) n

-- the same under another name
pub named-put : (old new : List Step) (g : ℕ → out.Exp → out.Exp) (x y : ℕ) → x ≡ y → Puts old new (g x) → Puts old new (g y)
named-put old new g x y h = puts-as old new (g x) (g y) (λ e. ap (λ i. g i e) h)
