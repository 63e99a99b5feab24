-- What is asked of types, and on which parts the answer rests.
use Rattle.std.specs.Prelude.{◌≡◌, ◌<◌, ℕ, ◌+◌, Bool, true, List, [], ◌∷◌, ◌++◌, ⊤}
use Rattle.ir_tables.specs.of_ty_core.Types.{Symbol, Typ, admits, attribute, nodes}
use Rattle.ir_tables.specs.of_ty_core.declared.name.Equality.{Equality}
use Rattle.ir_tables.specs.of_ty_core.declared.name.Equality.TheVariants.{ByArguments}
use Rattle.ir_tables.specs.of_ty_core.declared.scheme.Quantified.{Quantified}
use Rattle.ir_tables.specs.of_ty_table.TypeAt.{type_at}
use Rattle.ir_tables.specs.of_ir_poly.Types.{over, in_scope, admits_in}
use Rattle.ir_known.specs.declared.walk.Question.{Question}
use Rattle.ir_known.specs.declared.walk.Question.TheVariants.{Over, Admits}

abbrev pub Asked : Question → List Quantified → Typ → Type 0
Asked Over D t = over D t ≡ true
Asked Admits D t = admits (admits_in D) t ≡ true

-- whether a variable is so
abbrev pub so_in : Question → List Quantified → ℕ → Bool
so_in Over = in_scope
so_in Admits = admits_in

-- whether a symbol's types are so always, where all parts are, or never
abbrev pub rule_of : Question → Symbol → Equality
rule_of Over h = ByArguments
rule_of Admits h = attribute h

module _ {A : Type 0} where
  abbrev pub All : (A → Type 0) → List A → Type 0
  All P [] = ⊤
  All P (k ∷ ks) = P k × All P ks

  abbrev pub total : (A → ℕ) → List A → ℕ
  total size [] = 0
  total size (k ∷ ks) = size k + total size ks

  -- what k is asked rests on its parts, which are put behind those that are pending
  pub record OpensBy (P : A → Type 0) (size : A → ℕ) (k : A) (old new : List A) : Type 0 where
    pub parts : List A
    pub is : new ≡ old ++ parts
    pub whole : All P parts → P k
    pub back : P k → All P parts
    pub smaller : total size parts < size k

abbrev pub Opens : List Typ → (Typ → Type 0) → ℕ → List ℕ → List ℕ → Type 0
Opens ts P = OpensBy (λ k. P (type_at ts k)) (λ k. nodes (type_at ts k))
