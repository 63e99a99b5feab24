-- Namings, each with an earlier one on its way.
use Rattle.std.specs.Prelude.{◌≡◌, ◌<◌, ◌≤◌, ℕ, suc, List, map, Option, Some, None, option_map, slice_get, unwrap_or}
use Rattle.elab_state.specs.Namings.{number_in, AreNamings}
use Rattle.elab_state.specs.declared.naming.Naming.{Naming}
use Rattle.final_types.specs.declared.names.Jump.{Jump}

-- where a naming jumps to
abbrev pub to_in : List (Option ℕ) → Option ℕ → Option ℕ
to_in js None = None
to_in js (Some k) = unwrap_or (slice_get js k) None

abbrev pub stamp_at : List Naming → ℕ → ℕ
stamp_at rs k = unwrap_or (option_map (λ r. r.stamp) (slice_get rs k)) 0

-- names earlier than that of the naming j have the same numbers in the later naming k
pub record JumpsTo (rs : List Naming) (k j : ℕ) : Type 0 where
  pub earlier : j < k
  pub lower : stamp_at rs j ≤ stamp_at rs k
  pub same : (x : ℕ) → x < stamp_at rs j → number_in rs (Some k) x ≡ number_in rs (Some j) x

abbrev pub AreJumps : List Naming → List (Option ℕ) → Type 0
AreJumps rs js = (k j : ℕ) → to_in js (Some k) ≡ Some j → JumpsTo rs k j

abbrev pub tos : List Jump → List (Option ℕ)
tos = map (λ j. j.to)

-- namings in their order, and their jumps
pub record AreNames (rs : List Naming) (js : List Jump) : Type 0 where
  pub ordered : AreNamings rs
  pub jumps : AreJumps rs (tos js)

-- one more than a naming, or 0 where there is none
abbrev pub after : Option ℕ → ℕ
after None = 0
after (Some k) = suc k
