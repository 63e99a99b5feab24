-- Nodes as they are seen.
use Rattle.std.proofs.Common.{◌≡◌, ◌≢◌, ℕ, zero, suc, ◌+◌, ◌-◌, ◌<◌, List, [], ◌∷◌, length, get_or, take, drop, max, Bool, true, false, ◌&&◌, refl, sym, ap, ap₂, subst, ◌∙◌, arith}
use Rattle.ty_core.specs.Types.{Symbol, Typ, con, nodes, all_nodes, admits, all_admit}
use Rattle.ty_table.specs.TypeAt.{type_at, types_at, AllBelow, top, tops}
use Rattle.ty_table.specs.Nodes.{symbol_at, type_in, IsNode}
use Rattle.ty_table.specs.Variables.{few_of, few_with, with_few}
use Rattle.ty_table.specs.declared.variables.Few.{Few}

abbrev pub arguments : List ℕ → List ℕ
arguments x = take (length x - 1) (drop 1 x)

take-whole : (l : List ℕ) (n : ℕ) → n ≡ length l → take n l ≡ l
take-whole [] zero e = refl
take-whole [] (suc n) e = refl
take-whole (k ∷ l) zero e = absurd (omega arith)
take-whole (k ∷ l) (suc n) e = ap (λ m. k ∷ m) (take-whole l n (omega arith))

pub record IsApplied (m n : ℕ) (ss : List Symbol) (ts : List Typ) (x : List ℕ) : Type 0 where
  pub is : type_in ss ts x ≡ con (symbol_at ss (get_or x 0 0 - 1)) (types_at ts (arguments x))
  pub symbol : get_or x 0 0 - 1 < m
  pub below : AllBelow n (arguments x)

pub applied : (m n : ℕ) (ss : List Symbol) (ts : List Typ) (x : List ℕ) → IsNode m n x → get_or x 0 0 ≢ 0 → IsApplied m n ss ts x
applied m n ss ts [] a e = absurd a
applied m n ss ts (zero ∷ l) a e = absurd (e refl)
applied m n ss ts (suc s ∷ l) a e =
    let p : suc s - 1 ≡ s = omega arith in
    let q : arguments (suc s ∷ l) ≡ l = take-whole l (suc (length l) - 1) (omega arith) in
    record {
      is = ap₂ (λ k r. con (symbol_at ss k) (types_at ts r)) (sym p) (sym q);
      symbol = let lt = a.0 in omega arith;
      below = subst (AllBelow n) (sym q) a.1;
    }

pub below-at : (n : ℕ) (l : List ℕ) (i : ℕ) → AllBelow n l → i < length l → get_or l i 0 < n
below-at n [] i a lt = absurd (omega arith)
below-at n (k ∷ l) zero a lt = a.0
below-at n (k ∷ l) (suc i) a lt = below-at n l i a.1 (omega arith)

-- one argument more
pub next-nodes : (ts : List Typ) (l : List ℕ) (i : ℕ) → i < length l → all_nodes (types_at ts (take (suc i) l)) ≡ all_nodes (types_at ts (take i l)) + nodes (type_at ts (get_or l i 0))
next-nodes ts [] i h = absurd (omega arith)
next-nodes ts (k ∷ l) zero h = omega arith
next-nodes ts (k ∷ l) (suc i) h = let e = next-nodes ts l i (omega arith) in omega arith

pub next-tops : (ts : List Typ) (l : List ℕ) (i : ℕ) → i < length l → tops (types_at ts (take (suc i) l)) ≡ max (tops (types_at ts (take i l))) (top (type_at ts (get_or l i 0)))
next-tops ts [] i h = absurd (omega arith)
next-tops ts (k ∷ l) zero h = omega arith
next-tops ts (k ∷ l) (suc i) h = let e = next-tops ts l i (omega arith) in omega arith

pub next-few : (ts : List Typ) (few : Few) (l : List ℕ) (i : ℕ) → i < length l → few_with few (types_at ts (take (suc i) l)) ≡ with_few (few_with few (types_at ts (take i l))) (few_of (type_at ts (get_or l i 0)))
next-few ts few [] i h = absurd (omega arith)
next-few ts few (k ∷ l) zero h = refl
next-few ts few (k ∷ l) (suc i) h = next-few ts (with_few few (few_of (type_at ts k))) l i (omega arith)

and_assoc : (a b c : Bool) → (a && (b && c)) ≡ ((a && b) && c)
and_assoc true b c = refl
and_assoc false b c = refl

and_true : (a : Bool) → (a && true) ≡ a
and_true true = refl
and_true false = refl

pub next-admits : (m : ℕ → Bool) (ts : List Typ) (l : List ℕ) (i : ℕ) → i < length l → all_admit m (types_at ts (take (suc i) l)) ≡ (all_admit m (types_at ts (take i l)) && admits m (type_at ts (get_or l i 0)))
next-admits m ts [] i h = absurd (omega arith)
next-admits m ts (k ∷ l) zero h = and_true (admits m (type_at ts k))
next-admits m ts (k ∷ l) (suc i) h = ap (λ b. admits m (type_at ts k) && b) (next-admits m ts l i (omega arith)) ∙ and_assoc (admits m (type_at ts k)) (all_admit m (types_at ts (take i l))) (admits m (type_at ts (get_or l i 0)))
