-- What a call of a sink does.
use Rattle.std.specs.Prelude.{◌≡◌, ℕ, ◌≤◌, ◌++◌, List, Option, Some, None, take}
use Rattle.mlc_outside.specs.Faults.{Rose}
use Rattle.mlc_outside.specs.declared.sink.Put.{Put}
use Rattle.mlc_outside.specs.declared.sink.Put.TheVariants.{Done, Failed}

-- the bytes with more after them, where they are told
abbrev pub adds : Option (List ℕ) → List ℕ → Option (List ℕ)
adds None more = None
adds (Some bytes) more = Some (bytes ++ more)

-- the first k bytes of the piece were taken, and a fault was counted
pub record TookPart (piece : List ℕ) (old new : Option (List ℕ)) (before after : ℕ) : Type 0 where
  pub taken : ℕ
  pub wrote : new ≡ adds old (take taken piece)
  pub rose : Rose before after
  pub kept : before ≤ after

-- the whole piece was taken
pub record TookAll (piece : List ℕ) (old new : Option (List ℕ)) (before after : ℕ) : Type 0 where
  pub wrote : new ≡ adds old piece
  pub kept : before ≤ after

-- Done: the whole piece is appended. Failed: a prefix of it is, and a fault was counted.
abbrev pub WasPut : Put → List ℕ → Option (List ℕ) → Option (List ℕ) → ℕ → ℕ → Type 0
WasPut Done piece old new before after = TookAll piece old new before after
WasPut Failed piece old new before after = TookPart piece old new before after
