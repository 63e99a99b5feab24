-- Labels: what the code has stands for.
use Rattle.std.specs.Prelude.{ℕ, suc, ◌+◌, List, [], ◌∷◌, length, map, reverse, get_or, Option, Some, None}
use Rattle.ir_code.specs.declared.instr.Instr.{Instr}
use Rattle.ssa_tree.specs.TreeOf.{arm_of}
use Rattle.ssa_tree.specs.declared.tree.Arm.{Arm}
use Rattle.machine_routines.specs.FindCode as find
use Rattle.machine_code.specs.Code.{Spot, choice_code}
use Rattle.emit_code.specs.declared.choice.Target.{Target}
use Rattle.emit_code.specs.declared.places.Places.{Places}
use Rattle.emit_code.specs.Tags.{choice_for, end_of}
use Rattle.emit_parts.specs.declared.pass.Spot.{Spot as CodeSpot}

abbrev pub spot_of : CodeSpot → Spot
spot_of s = record { place = s.place; depth = s.depth; leaves = s.leaves }

-- labels, the innermost first
abbrev pub spots_of : List CodeSpot → List Spot
spots_of spots = map spot_of (reverse spots)

-- the place of the label of a number, as far as it is known
abbrev pub label_in : Places → ℕ → ℕ
label_in at n = get_or at.labels.items n 0

abbrev pub list_of : Option ℕ → List ℕ
list_of None = []
list_of (Some t) = t ∷ []

abbrev pub tag_of : Arm → ℕ
tag_of a = (arm_of a).tag

abbrev pub no_target : Target
no_target = record { tag = 0; place = 0 }

-- the labels of a run of numbers, for tags
abbrev pub numbered : (ℕ → ℕ) → ℕ → List ℕ → List find.Target
numbered label n [] = []
numbered label n (t ∷ ts) = record { tag = t; place = label n } ∷ numbered label (suc n) ts

-- to the arms of these tags, whose labels have the numbers from one on
abbrev pub switch_code : (ℕ → ℕ) → (pc d x first : ℕ) → List ℕ → List Instr
switch_code label pc d x first ts = choice_code pc d x (choice_for ts) (end_of ts) (numbered label first ts) (label (first + length ts))
