-- What is asked of a type by its first node.
use Rattle.std.proofs.Common.{◌≡◌, ◌↔◌, ℕ, ◌+◌, ◌<◌, Bool, true, false, not, ◌&&◌, ◌||◌, List, [], ◌∷◌, ◌++◌, length, Some, None, IsTrue, nat_eq, cond, refl, sym, ap, ◌∙◌, subst, arith}
use Rattle.std.proofs.lemmas.Bool.{false≢true}
use Rattle.std.proofs.lemmas.List.{append-nil}
use Rattle.std.specs.List.{list_any}
use Rattle.std.proofs.lemmas.Bool.{eqb-true}
use Rattle.indexmap.specs.IndexSet.{insert_key}
use Rattle.std.proofs.Common.{if◌then◌else◌}
use mathlib.Core.Logic.{inl, inr}
use Rattle.ir_tables.specs.of_ty_core.Types.{Symbol, Typ, var, con, Typs, none, more, nodes, all_nodes, admits, all_admit, allowed, attribute}
use Rattle.ir_tables.specs.of_ty_core.declared.name.Equality.{Equality}
use Rattle.ir_tables.specs.of_ty_core.declared.name.Equality.TheVariants.{Always, ByArguments, Never}
use Rattle.ir_tables.specs.of_ty_core.declared.scheme.Quantified.{Quantified}
use Rattle.ir_tables.specs.of_ty_table.TypeAt.{type_at, types_at}
use Rattle.ir_tables.specs.of_ir_poly.Types.{over, all_over, admits_in, in_scope, is_equality}
use Rattle.ir_known.specs.declared.walk.Question.{Question}
use Rattle.ir_known.specs.declared.walk.Question.TheVariants.{Over, Admits}
use Rattle.ir_known.specs.Asked.{Asked, rule_of, so_in, All, total, Opens}
use Rattle.std.specs.Map.{lookup}
use Rattle.ir_tables.specs.of_ty_core.declared.mark.Mark.{Mark}
use Rattle.ir_known.specs.Knows.{marks_of}
use Rattle.ir_known.proofs.Walks.{Has, Walked, walk-passes, walk-fails, walk-ends}
use Rattle.ir_known.proofs.Declaring.{outside-found, not-in-scope, nat_eq-turned}

pub both-are : (a b : Bool) → (a && b) ≡ true → (a ≡ true) × (b ≡ true)
both-are true b e = (refl, e)
both-are false b e = absurd (false≢true e)

pub and-true : (a b : Bool) → a ≡ true → b ≡ true → (a && b) ≡ true
and-true true b p q = q
and-true false b p q = absurd (false≢true p)

parts-nodes : (ts : List Typ) (ks : List ℕ) → total (λ k. nodes (type_at ts k)) ks ≡ all_nodes (types_at ts ks)
parts-nodes ts [] = refl
parts-nodes ts (k ∷ ks) = ap (λ n. nodes (type_at ts k) + n) (parts-nodes ts ks)

all-over : (ts : List Typ) (D : List Quantified) (ks : List ℕ) → All (λ k. Asked Over D (type_at ts k)) ks → all_over D (types_at ts ks) ≡ true
all-over ts D [] a = refl
all-over ts D (k ∷ ks) (p, a) = and-true (over D (type_at ts k)) (all_over D (types_at ts ks)) p (all-over ts D ks a)

over-all : (ts : List Typ) (D : List Quantified) (ks : List ℕ) → all_over D (types_at ts ks) ≡ true → All (λ k. Asked Over D (type_at ts k)) ks
over-all ts D [] e = tt
over-all ts D (k ∷ ks) e = let b = both-are (over D (type_at ts k)) (all_over D (types_at ts ks)) e in (b.0, over-all ts D ks b.1)

all-admit : (ts : List Typ) (D : List Quantified) (ks : List ℕ) → All (λ k. Asked Admits D (type_at ts k)) ks → all_admit (admits_in D) (types_at ts ks) ≡ true
all-admit ts D [] a = refl
all-admit ts D (k ∷ ks) (p, a) = and-true (admits (admits_in D) (type_at ts k)) (all_admit (admits_in D) (types_at ts ks)) p (all-admit ts D ks a)

admit-all : (ts : List Typ) (D : List Quantified) (ks : List ℕ) → all_admit (admits_in D) (types_at ts ks) ≡ true → All (λ k. Asked Admits D (type_at ts k)) ks
admit-all ts D [] e = tt
admit-all ts D (k ∷ ks) e = let b = both-are (admits (admits_in D) (type_at ts k)) (all_admit (admits_in D) (types_at ts ks)) e in (b.0, admit-all ts D ks b.1)

pub nodes-positive : (t : Typ) → 0 < nodes t
nodes-positive (var v) = omega arith
nodes-positive (con h ts) = omega arith

pub opens-none : (ts : List Typ) (P : Typ → Type 0) (k : ℕ) (old : List ℕ) → P (type_at ts k) → Opens ts P k old old
opens-none ts P k old p = record { parts = []; is = sym (append-nil old); whole = λ a. p; back = λ a. tt; smaller = nodes-positive (type_at ts k) }

pub always : (q : Question) (D : List Quantified) (h : Symbol) (us : Typs) → rule_of q h ≡ Always → Asked q D (con h us)
always Over D h us e = absurd (cc)
always Admits D h us e = ap (λ a. allowed a (all_admit (admits_in D) us)) e

by-parts : (ts : List Typ) (q : Question) (D : List Quantified) (h : Symbol) (ks : List ℕ) → rule_of q h ≡ ByArguments → All (λ k. Asked q D (type_at ts k)) ks → Asked q D (con h (types_at ts ks))
by-parts ts Over D h ks e a = all-over ts D ks a
by-parts ts Admits D h ks e a = ap (λ r. allowed r (all_admit (admits_in D) (types_at ts ks))) e ∙ all-admit ts D ks a

parts-by : (ts : List Typ) (q : Question) (D : List Quantified) (h : Symbol) (ks : List ℕ) → rule_of q h ≡ ByArguments → Asked q D (con h (types_at ts ks)) → All (λ k. Asked q D (type_at ts k)) ks
parts-by ts Over D h ks e a = over-all ts D ks a
parts-by ts Admits D h ks e a = admit-all ts D ks (sym (ap (λ r. allowed r (all_admit (admits_in D) (types_at ts ks))) e) ∙ a)

pub opens-parts : (ts : List Typ) (q : Question) (D : List Quantified) (k : ℕ) (h : Symbol) (ks old new : List ℕ) → type_at ts k ≡ con h (types_at ts ks) → rule_of q h ≡ ByArguments → new ≡ old ++ ks → Opens ts (Asked q D) k old new
opens-parts ts q D k h ks old new e r i = record {
  parts = ks;
  is = i;
  whole = λ a. subst (Asked q D) (sym e) (by-parts ts q D h ks r a);
  back = λ a. parts-by ts q D h ks r (subst (Asked q D) e a);
  smaller = let n = ap nodes e in let m = parts-nodes ts ks in omega arith;
}

pub so-over : (rows : List (ℕ × Mark)) (v : ℕ) (m : Mark) → lookup (nat_eq v) rows ≡ Some m → in_scope (marks_of rows) v ≡ true
so-over rows v m e = by (in_scope (marks_of rows) v) refl
  where
    by : (b : Bool) → in_scope (marks_of rows) v ≡ b → b ≡ true
    by true f = refl
    by false f = absurd (let n = outside-found rows v f in cc)

pub so-admits : (rows : List (ℕ × Mark)) (v : ℕ) (m : Mark) → lookup (nat_eq v) rows ≡ Some m → admits_in (marks_of rows) v ≡ is_equality m
so-admits [] v m e = absurd (cc)
so-admits (q ∷ rows) v m e = ap (λ b. if b then is_equality q.1 else admits_in (marks_of rows) v) (nat_eq-turned q.0 v) ∙ by (nat_eq v q.0) e (so-admits rows v m)
  where
    by : (b : Bool) → cond b (Some q.1) (lookup (nat_eq v) rows) ≡ Some m → (lookup (nat_eq v) rows ≡ Some m → admits_in (marks_of rows) v ≡ is_equality m) → (if b then is_equality q.1 else admits_in (marks_of rows) v) ≡ is_equality m
    by true e rest = ap is_equality (cc)
    by false e rest = rest e

pub none-admits : (rows : List (ℕ × Mark)) (v : ℕ) → lookup (nat_eq v) rows ≡ None → admits_in (marks_of rows) v ≡ false
none-admits [] v e = refl
none-admits (q ∷ rows) v e = ap (λ b. if b then is_equality q.1 else admits_in (marks_of rows) v) (nat_eq-turned q.0 v) ∙ by (nat_eq v q.0) e (none-admits rows v)
  where
    by : (b : Bool) → cond b (Some q.1) (lookup (nat_eq v) rows) ≡ None → (lookup (nat_eq v) rows ≡ None → admits_in (marks_of rows) v ≡ false) → (if b then is_equality q.1 else admits_in (marks_of rows) v) ≡ false
    by true e rest = absurd (cc)
    by false e rest = rest e

pub some-over : (rows : List (ℕ × Mark)) (v : ℕ) (m : Mark) (q : Question) → Some m ≡ lookup (nat_eq v) rows → q ≡ Over → true ≡ so_in q (marks_of rows) v
some-over rows v m q e i = sym (ap (λ q. so_in q (marks_of rows) v) i ∙ so-over rows v m (sym e))

pub some-admits : (rows : List (ℕ × Mark)) (v : ℕ) (m : Mark) (q : Question) (b : Bool) → Some m ≡ lookup (nat_eq v) rows → q ≡ Admits → b ≡ is_equality m → b ≡ so_in q (marks_of rows) v
some-admits rows v m q b e i d = d ∙ sym (ap (λ q. so_in q (marks_of rows) v) i ∙ so-admits rows v m (sym e))

pub none-so : (rows : List (ℕ × Mark)) (v : ℕ) (q : Question) → None ≡ lookup (nat_eq v) rows → false ≡ so_in q (marks_of rows) v
none-so rows v Over e = sym (not-in-scope rows v (sym e))
none-so rows v Admits e = sym (none-admits rows v (sym e))

asked-variable : (q : Question) (D : List Quantified) (v : ℕ) → so_in q D v ≡ true → Asked q D (var v)
asked-variable Over D v e = e
asked-variable Admits D v e = e

variable-asked : (q : Question) (D : List Quantified) (v : ℕ) → Asked q D (var v) → so_in q D v ≡ true
variable-asked Over D v e = e
variable-asked Admits D v e = e

-- a type that is a variable
pub so-variable : (q : Question) (D : List Quantified) (v : ℕ) (t : Typ) (b : Bool) → t ≡ var v → b ≡ so_in q D v → b ≡ true → Asked q D t
so-variable q D v t b e d y = subst (Asked q D) (sym e) (asked-variable q D v (sym d ∙ y))

pub not-so-variable : (q : Question) (D : List Quantified) (v : ℕ) (t : Typ) (b : Bool) → t ≡ var v → b ≡ so_in q D v → b ≡ false → Asked q D t → ⊥
not-so-variable q D v t b e d n a = false≢true (sym n ∙ d ∙ variable-asked q D v (subst (Asked q D) e a))

-- a number that is put into a set
pub noted-new : (ks ks' : List ℕ) (k : ℕ) (b : Bool) → b ≡ not (list_any (nat_eq k) ks) → ks' ≡ insert_key nat_eq ks k → b ≡ true → ks' ≡ ks ++ k ∷ []
noted-new ks ks' k b p q e = go (list_any (nat_eq k) ks) refl
  where
    go : (c : Bool) → list_any (nat_eq k) ks ≡ c → ks' ≡ ks ++ k ∷ []
    go true i = absurd (false≢true (sym (p ∙ ap not i) ∙ e))
    go false i = q ∙ ap (λ c. if c then ks else ks ++ k ∷ []) i

held : (ks : List ℕ) (k : ℕ) → list_any (nat_eq k) ks ≡ true → Has ks k
held [] k h = absurd (false≢true h)
held (x ∷ ks) k h = go (nat_eq k x) refl (held ks k)
  where
    go : (c : Bool) → nat_eq k x ≡ c → (list_any (nat_eq k) ks ≡ true → Has ks k) → Has (x ∷ ks) k
    go true i r = inl (eqb-true k x i)
    go false i r = inr (r (sym (ap (λ c. c || list_any (nat_eq k) ks) i) ∙ h))

-- a number that was there
pub passes-old : (P : ℕ → Type 0) (size : ℕ → ℕ) (t : ℕ) (ks ks' old rest : List ℕ) (k : ℕ) (b : Bool) → old ≡ rest ++ k ∷ [] → Walked P size t ks old → b ≡ not (list_any (nat_eq k) ks) → ks' ≡ insert_key nat_eq ks k → b ≡ false
    → Walked P size t ks' rest
passes-old P size t ks ks' old rest k b e w p q f = go (list_any (nat_eq k) ks) refl
  where
    go : (c : Bool) → list_any (nat_eq k) ks ≡ c → Walked P size t ks' rest
    go true i = subst (λ l. Walked P size t l rest) (sym (q ∙ ap (λ c. if c then ks else ks ++ k ∷ []) i)) (walk-passes P size t ks old rest k e w (held ks k i))
    go false i = absurd (false≢true (sym f ∙ p ∙ ap not i))

pub allowed-more : (r : Equality) (a b : Bool) → (a ≡ true → b ≡ true) → allowed r a ≡ true → allowed r b ≡ true
allowed-more Always a b f e = refl
allowed-more ByArguments a b f e = f e
allowed-more Never a b f e = e

-- more variables admit equality
module _ (m n : ℕ → Bool) (more-so : (v : ℕ) → m v ≡ true → n v ≡ true) where
  mutual
    pub admits-more : (t : Typ) → admits m t ≡ true → admits n t ≡ true
    admits-more (var v) e = more-so v e
    admits-more (con h ts) e = allowed-more (attribute h) (all_admit m ts) (all_admit n ts) (all-admit-more ts) e

    all-admit-more : (ts : Typs) → all_admit m ts ≡ true → all_admit n ts ≡ true
    all-admit-more none e = refl
    all-admit-more (more t ts) e = let b = both-are (admits m t) (all_admit m ts) e in and-true (admits n t) (all_admit n ts) (admits-more t b.0) (all-admit-more ts b.1)

empty-list : {A : Type 0} (l : List A) → length l ≡ 0 → l ≡ []
empty-list [] e = refl
empty-list (x ∷ l) e = absurd (omega arith)

module _ (ts : List Typ) (q : Question) (D : List Quantified) where
  pub ask-fails : (t : ℕ) (done old rest : List ℕ) (k : ℕ) → old ≡ rest ++ k ∷ [] → Walked (λ k. Asked q D (type_at ts k)) (λ k. nodes (type_at ts k)) t done old → (Asked q D (type_at ts k) → ⊥) → IsTrue false ↔ Asked q D (type_at ts t)
  ask-fails t done old rest k e w n = ((λ f. absurd (false≢true f)), (λ p. absurd (walk-fails (λ k. Asked q D (type_at ts k)) (λ k. nodes (type_at ts k)) t done old rest k e w n p)))

  pub ask-ends : (t : ℕ) (done l : List ℕ) → length l ≡ 0 → Walked (λ k. Asked q D (type_at ts k)) (λ k. nodes (type_at ts k)) t done l → IsTrue true ↔ Asked q D (type_at ts t)
  ask-ends t done l e w = ((λ _. walk-ends (λ k. Asked q D (type_at ts k)) (λ k. nodes (type_at ts k)) t done l (empty-list l e) w), (λ _. refl))
