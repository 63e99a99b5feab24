-- Answers as truth values.
use Rattle.std.proofs.Common.{◌≡◌, ◌↔◌, Bool, true, false, ◌&&◌, Result, Ok, Err, IsTrue, IfOk, refl, sym, ap, ◌∙◌}
use Rattle.mlc_base.specs.declared.memory.NoMemory.{NoMemory}
use Rattle.ty_core.specs.Types.{Typ}
use Rattle.prog_check.specs.Same.{same_type}
use Rattle.prog_check.proofs.SameLemmas.{type-same, same-since}

-- an answer that is yes exactly where another one is
pub as-decided : (b c : Bool) → IsTrue b ↔ (c ≡ true) → b ≡ c
as-decided true c w = sym (w.0 refl)
as-decided false true w = w.1 refl
as-decided false false w = refl

-- one that is yes exactly where two types are one
pub as-same : (b : Bool) (t u : Typ) → IsTrue b ↔ (t ≡ u) → b ≡ same_type t u
as-same b t u w = as-decided b (same_type t u) ((λ y. same-since (w.0 y)), (λ y. w.1 (type-same t u y)))

-- types that are not one
pub not-same : (t u : Typ) → (t ≡ u → ⊥) → false ≡ same_type t u
not-same t u n = as-same false t u ((λ y. absurd (let e : false ≡ true = y in cc)), (λ y. absurd (n y)))

pub two : {r a b x y : Bool} → r ≡ (a && b) → a ≡ x → b ≡ y → r ≡ (x && y)
two {b = b} {x = x} e f g = e ∙ ap (λ c. c && b) f ∙ ap (λ c. x && c) g

-- the same answer, by another name
pub ok-as : (r : Result Bool NoMemory) (x y : Bool) → x ≡ y → IfOk r (λ so. so ≡ x) → IfOk r (λ so. so ≡ y)
ok-as (Ok so) x y e w = w ∙ e
ok-as (Err n) x y e w = w
