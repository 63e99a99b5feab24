-- Facts of refusals, case by case.
use Rattle.std.proofs.Common.{◌≡◌, Result, Ok, Err, String, Global, subst, sym}
use Rattle.std.specs.Result.{IsErrAnd}
use Rattle.mlc_faults.specs.declared.fault.Fault as base
use Rattle.mlc_faults.specs.declared.refused.Refused.{Refused}
use Rattle.mlc_faults.specs.declared.refused.Refused.TheVariants as refusal
use Rattle.sml_lexer.specs.Lexes.{IfFault}
use Rattle.mlb_reader.specs.Refusals.{IfLoadFault, IfNoFile, IfReadFault, load_refused_of}
use Rattle.mlb_reader.specs.declared.refused.LoadRefused.{LoadRefused}
use Rattle.mlb_reader.specs.declared.refused.LoadRefused.TheVariants as load

abbrev pub AtLoadFault : LoadRefused → (base.Fault → Type 0) → Type 0
AtLoadFault e P = IfLoadFault {T = Unit {0}} (Err e) P

abbrev pub AtNoFile : LoadRefused → (String Global → Type 0) → Type 0
AtNoFile e P = IfNoFile {T = Unit {0}} (Err e) P

abbrev pub AtReadFault : LoadRefused → (String Global → Type 0) → Type 0
AtReadFault e P = IfReadFault {T = Unit {0}} (Err e) P

pub fault-weaker : (P Q : base.Fault → Type 0) → ((f : base.Fault) → P f → Q f) → (e : LoadRefused) → AtLoadFault e P → AtLoadFault e Q
fault-weaker P Q w (load.NoFile path) h = tt
fault-weaker P Q w (load.ReadFault path) h = tt
fault-weaker P Q w (load.Fault fault) h = w fault h
fault-weaker P Q w load.Memory h = tt

pub no-file-weaker : (P Q : String Global → Type 0) → ((path : String Global) → P path → Q path) → (e : LoadRefused) → AtNoFile e P → AtNoFile e Q
no-file-weaker P Q w (load.NoFile path) h = w path h
no-file-weaker P Q w (load.ReadFault path) h = tt
no-file-weaker P Q w (load.Fault fault) h = tt
no-file-weaker P Q w load.Memory h = tt

pub read-fault-weaker : (P Q : String Global → Type 0) → ((path : String Global) → P path → Q path) → (e : LoadRefused) → AtReadFault e P → AtReadFault e Q
read-fault-weaker P Q w (load.NoFile path) h = tt
read-fault-weaker P Q w (load.ReadFault path) h = w path h
read-fault-weaker P Q w (load.Fault fault) h = tt
read-fault-weaker P Q w load.Memory h = tt

-- a fault that the reader of a source answered
pub fault-passed : (P Q : base.Fault → Type 0) → ((f : base.Fault) → P f → Q f) → (e : Refused) → IfFault {T = Unit {0}} (Err e) P → AtLoadFault (load_refused_of e) Q
fault-passed P Q w (refusal.Fault fault) h = w fault h
fault-passed P Q w refusal.Memory h = tt

-- what `?` passes on
pub fault-asked : {T : Type 0} (r : Result T LoadRefused) (e : LoadRefused) → IsErrAnd r (λ x. x ≡ e) → (P Q : base.Fault → Type 0) → ((f : base.Fault) → P f → Q f) → AtLoadFault e P → IfLoadFault r Q
fault-asked (Ok x) e gives P Q w h = absurd gives
fault-asked (Err x) e gives P Q w h = subst (λ y. AtLoadFault y Q) (sym gives) (fault-weaker P Q w e h)

pub no-file-asked : {T : Type 0} (r : Result T LoadRefused) (e : LoadRefused) → IsErrAnd r (λ x. x ≡ e) → (P Q : String Global → Type 0) → ((path : String Global) → P path → Q path) → AtNoFile e P → IfNoFile r Q
no-file-asked (Ok x) e gives P Q w h = absurd gives
no-file-asked (Err x) e gives P Q w h = subst (λ y. AtNoFile y Q) (sym gives) (no-file-weaker P Q w e h)

pub read-fault-asked : {T : Type 0} (r : Result T LoadRefused) (e : LoadRefused) → IsErrAnd r (λ x. x ≡ e) → (P Q : String Global → Type 0) → ((path : String Global) → P path → Q path) → AtReadFault e P → IfReadFault r Q
read-fault-asked (Ok x) e gives P Q w h = absurd gives
read-fault-asked (Err x) e gives P Q w h = subst (λ y. AtReadFault y Q) (sym gives) (read-fault-weaker P Q w e h)

pub refused-asked : {T : Type 0} (r : Result T LoadRefused) (e : Refused) → IsErrAnd r (λ x. x ≡ load_refused_of e) → (P Q : base.Fault → Type 0) → ((f : base.Fault) → P f → Q f) → IfFault {T = Unit {0}} (Err e) P → IfLoadFault r Q
refused-asked (Ok x) e gives P Q w h = absurd gives
refused-asked (Err x) e gives P Q w h = subst (λ y. AtLoadFault y Q) (sym gives) (fault-passed P Q w e h)

-- two facts of a fault
pub both-faults : (P R : base.Fault → Type 0) (e : Refused) → IfFault {T = Unit {0}} (Err e) P → IfFault {T = Unit {0}} (Err e) R → IfFault {T = Unit {0}} (Err e) (λ f. P f × R f)
both-faults P R (refusal.Fault fault) h k = (h, k)
both-faults P R refusal.Memory h k = tt
