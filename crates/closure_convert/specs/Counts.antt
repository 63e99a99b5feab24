-- Of how many pieces closures are made.
use Rattle.std.specs.Prelude.{◌≡◌, ℕ, zero, suc, ◌+◌, Bool, true, false, List, [], ◌∷◌, length, if◌then◌else◌, ⊤}
use Rattle.flow_sets.specs.of_ir_plain.Tree.{Fun, last, more}
use Rattle.flow_sets.specs.of_ir_mono.Types as table
use Rattle.flow_sets.specs.of_ir_mono.Mono.{mono}
use Rattle.flow_sets.specs.Member.{is_in}
use Rattle.closure_convert.specs.Scope.{Member, names, Scope, index_of}
use Rattle.closure_convert.specs.Closed.{scope_of}
use Rattle.closure_convert.specs.Capture.{is_outer, cut, occurs_fun, wanted}

-- no number stands twice
abbrev pub AreDistinct : List ℕ → Type 0
AreDistinct [] = ⊤
AreDistinct (k ∷ ks) = (is_in k ks ≡ false) × AreDistinct ks

-- those that are not kept
abbrev pub dropped : (ℕ → Bool) → List ℕ → ℕ
dropped p [] = zero
dropped p (x ∷ xs) = if p x then dropped p xs else suc (dropped p xs)

-- these stand in what was captured from this place on
abbrev pub Aligned : Scope → (from : ℕ) → List ℕ → Type 0
Aligned s i [] = ⊤
Aligned s i (y ∷ ys) = (is_outer s y ≡ true) × ((index_of y s.captured ≡ i) × Aligned s (suc i) ys)

module _ (types : List table.Row) where
  abbrev pub parameters : Fun (mono types) → ℕ
  parameters (last x t e) = suc zero
  parameters (more x t f) = suc (parameters f)

  -- the parameters are not bound around, and differ
  abbrev pub IsFresh : List ℕ → Fun (mono types) → Type 0
  IsFresh xs (last x t e) = is_in x xs ≡ false
  IsFresh xs (more x t f) = (is_in x xs ≡ false) × IsFresh (x ∷ xs) f

  -- the pieces of all closures that a curried function makes when it is given its arguments, where it captures cs and is of this group
  abbrev pub inner_pieces : List ℕ → List Member → Fun (mono types) → ℕ
  inner_pieces cs ms (last x t e) = zero
  inner_pieces cs ms (more x t f) = length (cut (scope_of cs ms x) (wanted types (scope_of cs ms x) f)) + inner_pieces (wanted types (scope_of cs ms x) f) [] f

  -- what a function captures is used in it, and, as the names of its group, bound around, once
  pub record Captures (cs : List ℕ) (ms : List Member) (xs : List ℕ) (f : Fun (mono types)) : Type 0 where
    pub distinct : AreDistinct cs
    pub names_distinct : AreDistinct (names ms)
    pub around : (y : ℕ) → is_in y cs ≡ true → is_in y xs ≡ true
    pub names_around : (y : ℕ) → is_in y (names ms) ≡ true → is_in y xs ≡ true
    pub apart : (y : ℕ) → is_in y cs ≡ true → is_in y (names ms) ≡ false
    pub used : (y : ℕ) → is_in y cs ≡ true → occurs_fun types y f ≡ true
