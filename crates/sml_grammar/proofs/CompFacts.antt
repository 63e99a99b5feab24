-- What completeness of expressions and declarations takes from types, patterns, heads and bindings.
use Rattle.std.proofs.Common.{◌≡◌, ℕ, ◌≤◌, ◌<◌, List, [], ◌∷◌, length, Option, Bool, true, false, refl, arith}
use Rattle.mlc_names.specs.declared.token.Reserved.TheVariants as res
use Rattle.sml_tree.specs.Terminal.{Terminal, reserved}
use Rattle.sml_tree.specs.Fixity.{Fixity}
use Rattle.sml_tree.specs.ReadTree.{Ty, Pat, TypeBind, DataBind, ExBind}
use Rattle.sml_tree.specs.Depth.{depth_ty, depth_pat, depth_type_binds, depth_data_binds, depth_ex_binds}
use Rattle.sml_tree.specs.Grammar.{ReadsTy, MaybeTy, Pattern, TypeBinds, DataBinds, ExBinds}
use Rattle.sml_grammar.specs.Answer.{deep, read}
use Rattle.sml_grammar.specs.Types.{read_ty, ty_could_go_on}
use Rattle.sml_grammar.specs.Patterns.{read_pat}
use Rattle.sml_grammar.specs.Bindings.{read_type_binds, read_data_binds, read_ex_binds}
use Rattle.sml_grammar.specs.PartialTypes.{OpensTy}
use Rattle.sml_grammar.specs.PartialPatterns.{OpensPat}
use Rattle.sml_grammar.proofs.Answers.{not_true}
use Rattle.sml_grammar.proofs.TypeComplete as types
use Rattle.sml_grammar.proofs.TypeOver as types_over
use Rattle.sml_grammar.proofs.TypePaths as types_paths
use Rattle.sml_grammar.proofs.MaybeTypes.{colon-shorter}
use Rattle.sml_grammar.proofs.PatStarts.{pat-stops-word}
use Rattle.sml_grammar.proofs.PatComplete.{pat-complete}
use Rattle.sml_grammar.proofs.PatOpens as pats_opens
use Rattle.sml_grammar.proofs.PatOver as pats_over
use Rattle.sml_grammar.proofs.BindStops.{BindStops}
use Rattle.sml_grammar.proofs.BindTypes as type_binds
use Rattle.sml_grammar.proofs.BindDatatypes as data_binds
use Rattle.sml_grammar.proofs.BindExceptions as ex_binds
pub use Rattle.sml_grammar.proofs.TypeShapes.{ty-shorter}
pub use Rattle.sml_grammar.proofs.PatShapes.{pat-shorter}
pub use Rattle.sml_grammar.proofs.PatOpens.{opens_pat-begins}
pub use Rattle.sml_grammar.proofs.PatHeads.{head-complete, head-shorter}
pub use Rattle.sml_grammar.proofs.PatHeadsDeep.{head-over, head-opens}
pub use Rattle.sml_grammar.proofs.BindTyvars.{tyvars-complete, tyvars-shorter, tyvars-here, tyvars-found, place-found}
pub use Rattle.sml_grammar.proofs.BindTypes.{type_binds-shorter, type_binds-over, type_binds-opens}
pub use Rattle.sml_grammar.proofs.BindDatatypes.{data_binds-shorter, data_binds-over, data_binds-opens}
pub use Rattle.sml_grammar.proofs.BindExceptions.{ex_binds-shorter, ex_binds-over, ex_binds-opens}
pub use Rattle.sml_grammar.proofs.BindNames.{strids-shorter, strids-complete, vids-shorter, vids-complete, vids-no_digit, precedence-complete, precedence-shorter}

-- what declarations begin with, or end before
abbrev pub quiet : List Terminal → Bool
quiet [] = true
quiet (reserved p res.Semicolon ∷ r) = true
quiet (reserved p res.In ∷ r) = true
quiet (reserved p res.End ∷ r) = true
quiet (reserved p res.Val ∷ r) = true
quiet (reserved p res.Fun ∷ r) = true
quiet (reserved p res.TypeWord ∷ r) = true
quiet (reserved p res.Datatype ∷ r) = true
quiet (reserved p res.Exception ∷ r) = true
quiet (reserved p res.Local ∷ r) = true
quiet (reserved p res.Open ∷ r) = true
quiet (reserved p res.Infix ∷ r) = true
quiet (reserved p res.Infixr ∷ r) = true
quiet (reserved p res.Nonfix ∷ r) = true
quiet _ = false

-- what bindings of types end before
abbrev pub ends_binds : List Terminal → Bool
ends_binds (reserved p res.Withtype ∷ r) = true
ends_binds i = quiet i

-- bindings end before what declarations begin with, or end before
quiet-stops : (o : List Terminal) → quiet o ≡ true → BindStops o
quiet-stops [] h = refl
quiet-stops (reserved p res.Semicolon ∷ r) h = refl
quiet-stops (reserved p res.In ∷ r) h = refl
quiet-stops (reserved p res.End ∷ r) h = refl
quiet-stops (reserved p res.Val ∷ r) h = refl
quiet-stops (reserved p res.Fun ∷ r) h = refl
quiet-stops (reserved p res.TypeWord ∷ r) h = refl
quiet-stops (reserved p res.Datatype ∷ r) h = refl
quiet-stops (reserved p res.Exception ∷ r) h = refl
quiet-stops (reserved p res.Local ∷ r) h = refl
quiet-stops (reserved p res.Open ∷ r) h = refl
quiet-stops (reserved p res.Infix ∷ r) h = refl
quiet-stops (reserved p res.Infixr ∷ r) h = refl
quiet-stops (reserved p res.Nonfix ∷ r) h = refl
quiet-stops _ h = not_true h

ends-stops : (o : List Terminal) → ends_binds o ≡ true → BindStops o
ends-stops (reserved p res.Withtype ∷ r) h = refl
ends-stops o h = quiet-stops o h

pub ty-complete : (n : ℕ) {i : List Terminal} {t : Ty} {o : List Terminal} → ReadsTy i t o → depth_ty t ≤ n → ty_could_go_on 0 o ≡ false → read_ty n 0 i ≡ read t o
ty-complete n d le stops = types.ty-complete n 0 d le (omega arith) stops

pub maybe-shorter : {i o : List Terminal} {t : Option Ty} → MaybeTy i t o → length o ≤ length i
maybe-shorter d = colon-shorter d

pub ty-over : (n : ℕ) {i : List Terminal} {d : ℕ} → OpensTy 0 i d → n < d → read_ty n 0 i ≡ deep
ty-over n o lt = types_over.ty-over n 0 o lt

pub ty-opens : {i : List Terminal} {t : Ty} {o : List Terminal} → ReadsTy i t o → (k : ℕ) → 0 < k → k ≤ depth_ty t → OpensTy 0 i k
ty-opens d k pos le = types_paths.ty-opens d (omega arith) k pos le

-- the left side of a rule, and of a binding
pub pat-complete-arrow : (n : ℕ) {f : Fixity} {i : List Terminal} {a : Pat} {p : ℕ} {o : List Terminal} → Pattern f i a (reserved p res.DoubleArrow ∷ o) → depth_pat a ≤ n →
    read_pat n f i ≡ read a (reserved p res.DoubleArrow ∷ o)
pat-complete-arrow n {f} {p} {o} d le = pat-complete n f 0 d le (omega arith) (pat-stops-word res.DoubleArrow refl f 0 p o)

pub pat-complete-equals : (n : ℕ) {f : Fixity} {i : List Terminal} {a : Pat} {p : ℕ} {o : List Terminal} → Pattern f i a (reserved p res.Equals ∷ o) → depth_pat a ≤ n →
    read_pat n f i ≡ read a (reserved p res.Equals ∷ o)
pat-complete-equals n {f} {p} {o} d le = pat-complete n f 0 d le (omega arith) (pat-stops-word res.Equals refl f 0 p o)

pub pat-over : (n : ℕ) (f : Fixity) {i : List Terminal} {d : ℕ} → OpensPat f 0 i d → n < d → read_pat n f i ≡ deep
pat-over n f o lt = pats_over.pat-over n f 0 o lt

pub pat-opens : {f : Fixity} {i : List Terminal} {a : Pat} {o : List Terminal} → Pattern f i a o → (k : ℕ) → 0 < k → k ≤ depth_pat a → OpensPat f 0 i k
pat-opens d k pos le = pats_opens.pat-opens 0 d (omega arith) k pos le

pub type_binds-complete : (n : ℕ) {i : List Terminal} {bs : List TypeBind} {o : List Terminal} → TypeBinds i bs o → depth_type_binds bs ≤ n → quiet o ≡ true → read_type_binds n i ≡ read bs o
type_binds-complete n {o} d le h = type_binds.type_binds-complete n d le (quiet-stops o h)

pub data_binds-complete : (n : ℕ) (f : Fixity) {i : List Terminal} {bs : List DataBind} {o : List Terminal} → DataBinds f i bs o → depth_data_binds bs ≤ n → ends_binds o ≡ true →
    read_data_binds n f i ≡ read bs o
data_binds-complete n f {o} d le h = data_binds.data_binds-complete n f d le (ends-stops o h)

pub ex_binds-complete : (n : ℕ) (f : Fixity) {i : List Terminal} {bs : List ExBind} {o : List Terminal} → ExBinds f i bs o → depth_ex_binds bs ≤ n → quiet o ≡ true → read_ex_binds n f i ≡ read bs o
ex_binds-complete n f {o} d le h = ex_binds.ex_binds-complete n f d le (quiet-stops o h)
