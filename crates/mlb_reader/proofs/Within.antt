-- The places and names in a source that was read are those of its terminals, and `it`.
use Rattle.std.proofs.Common.{ℕ, ◌<◌, List, [], ◌∷◌, Option, Some, None, All, IfSome, refl, get_or}
use Rattle.std.specs.Prelude.{⊤}
use Rattle.std.specs.Option.{ForSome}
use Rattle.std.proofs.lemmas.List.Elements.{recursion_from_All}
use Rattle.mlc_base.specs.declared.place.Place.{Place}
use Rattle.sml_tree.specs.Terminal.{Terminal}
use Rattle.sml_tree.specs.Fixity.{Fixity}
use Rattle.sml_tree.specs.Bare.{at}
use Rattle.module_tree.specs.ReadModules as read
use Rattle.module_tree.specs.ModuleBare.{bare_tops}
use Rattle.module_tree.specs.ModuleGrammar.{IsSource}
use Rattle.mlb_reader.specs.Tops.{part_of_tops}
use Rattle.mlb_reader.specs.Within.{PartsIn, HoldsAll, AllPlacedIn}
use Rattle.mlb_reader.proofs.WithinTerminals.{terminal_place, terminal_name, TerminalHolds, IsGood}
use Rattle.mlb_reader.proofs.WithinTops.{part-good}

if-some : {A : Type 0} (P : A → Type 0) (o : Option A) → ForSome o P → IfSome o P
if-some P None h = tt
if-some P (Some x) h = h x refl

anything : {A : Type 0} (o : Option A) → IfSome o (λ x. ⊤)
anything None = tt
anything (Some x) = tt

all-read : (file : ℕ) (P : Place → Type 0) (N : ℕ → Type 0) {it : ℕ} {f : Fixity} {i : List Terminal} {tree : List read.Top} → IsSource f i tree → N it → All (IsGood file P N) i →
    PartsIn P N (part_of_tops (bare_tops it file tree) ∷ [])
all-read file P N {it} {i = i} d n g = (part-good file P N n d (recursion_from_All (IsGood file P N) i g), tt)

pub part-holds : (count it file : ℕ) (f : Fixity) (i : List Terminal) (tree : List read.Top) → IsSource f i tree → it < count → All (TerminalHolds count) i → HoldsAll count (part_of_tops (bare_tops it file tree) ∷ [])
part-holds count it file f i tree d named h =
    let held : All (IsGood file (λ p. ⊤) (λ n. n < count)) i = λ k t lt. (tt, if-some (λ n. n < count) (terminal_name (get_or i k t)) (h k t lt)) in
    all-read file (λ p. ⊤) (λ n. n < count) {it = it} d named held

pub part-placed : (P : Place → Type 0) (it file : ℕ) (f : Fixity) (i : List Terminal) (tree : List read.Top) → IsSource f i tree → All (λ t. P (at file (terminal_place t))) i →
    AllPlacedIn P (part_of_tops (bare_tops it file tree) ∷ [])
part-placed P it file f i tree d h =
    let placed : All (IsGood file P (λ n. ⊤)) i = λ k t lt. (h k t lt, anything (terminal_name (get_or i k t))) in
    all-read file P (λ n. ⊤) {it = it} d tt placed
