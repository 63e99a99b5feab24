-- The depths of variables and of operands.
use Rattle.std.proofs.Common.{◌≡◌, refl, ℕ, zero, suc, ◌≤◌, ◌<◌, List, [], ◌∷◌, length, Bool, true, false, Option, Some, None, ap, ◌∙◌, arith, get_or}
use Rattle.std.specs.Prelude.{nat_eq, if◌then◌else◌}
use Rattle.std.specs.Map.{lookup}
use Rattle.emit_rows.specs.of_machine_code.Code.{Scope, depth_in, depths_in}

-- with the value or 0
abbrev or_none : Option ℕ → ℕ
or_none None = 0
or_none (Some d) = d

step : (c : Bool) (d : ℕ) (o : Option ℕ) (z : ℕ) → or_none o ≡ z → or_none (if c then Some d else o) ≡ (if c then d else z)
step true d o z h = refl
step false d o z h = h

depth-is : (x : ℕ) (scope : Scope) → or_none (lookup (nat_eq x) scope) ≡ depth_in x scope
depth-is x [] = refl
depth-is x (b ∷ scope) = step (nat_eq x b.0) b.1 (lookup (nat_eq x) scope) (depth_in x scope) (depth-is x scope)

pub depth-found : (x d : ℕ) (scope : Scope) → Some d ≡ lookup (nat_eq x) scope → d ≡ depth_in x scope
depth-found x d scope h = ap or_none h ∙ depth-is x scope

pub depth-none : (x : ℕ) (scope : Scope) → None ≡ lookup (nat_eq x) scope → 0 ≡ depth_in x scope
depth-none x scope h = ap or_none h ∙ depth-is x scope

pub depths-none : (xs : List ℕ) (scope : Scope) (n : ℕ) → length xs ≤ n → 0 ≡ get_or (depths_in xs scope) n 0
depths-none [] scope n h = refl
depths-none (y ∷ xs) scope zero h = absurd (omega (arith, h))
depths-none (y ∷ xs) scope (suc n) h = depths-none xs scope n (omega (arith, h))

pub depths-read : (xs : List ℕ) (scope : Scope) (n : ℕ) → n < length xs → depth_in (get_or xs n 0) scope ≡ get_or (depths_in xs scope) n 0
depths-read [] scope n lt = absurd (omega (arith, lt))
depths-read (y ∷ xs) scope zero lt = refl
depths-read (y ∷ xs) scope (suc n) lt = depths-read xs scope n (omega (arith, lt))
