-- What holds where bytes are refused.
use Rattle.std.specs.Prelude.{ℕ, Result, IfErr, ⊤}
use Rattle.ir_code.specs.declared.refused.ImageRefused.{ImageRefused}
use Rattle.ir_code.specs.declared.refused.ImageRefused.TheVariants.{BadImage, Memory}

-- P of the offset, if there is one
abbrev pub IfOffset : ImageRefused → (ℕ → Type 0) → Type 0
IfOffset (BadImage k) P = P k
IfOffset Memory P = ⊤

-- P of the offset, if the answer is that the bytes are no image
abbrev pub IfBadImage : {A : Type 0} → Result A ImageRefused → (ℕ → Type 0) → Type 0
IfBadImage result P = IfErr result (λ e. IfOffset e P)
