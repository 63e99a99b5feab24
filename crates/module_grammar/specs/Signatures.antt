-- How signatures and specifications are read. `read_sig n` reads a signature that is at most n deep.
use Rattle.std.specs.Prelude.{ℕ, zero, suc, List, [], ◌∷◌, Option, Some, None, Bool, true, false, nat_le, if◌then◌else◌}
use Rattle.mlc_names.specs.declared.token.Reserved.{Reserved}
use Rattle.mlc_names.specs.declared.token.Reserved.TheVariants as res
use Rattle.sml_tree.specs.Terminal.{LongId, Terminal, reserved, alpha}
use Rattle.sml_tree.specs.ReadTree.{Placed, Ty}
use Rattle.sml_tree.specs.declared.ident.Tyvar.{Tyvar}
use Rattle.sml_grammar.specs.Answer.{Answer, bad, deep, read, then_read, deep_if, Turn, last, more, whole}
use Rattle.sml_grammar.specs.Terminals.{Taken, place_at, first_as, as_vid, as_tycon, as_long_tycon, after_word, on_some, on_taken, then_taken, word_then, separated, NoState, no_state}
use Rattle.sml_grammar.specs.Types.{read_ty, maybe_ty}
use Rattle.sml_grammar.specs.Bindings.{read_tyvars, tyvars_place, bound_tycon, read_type_binds, put_more}
use Rattle.sml_grammar.specs.Expressions.{replicated}
use Rattle.module_tree.specs.ReadModules.{TypeDesc, ConDesc, DataDesc, ValDesc, WhereType, SigExp, sig_end, sig_id, where_type, Specs, no_specs, spec, Spec, val_spec, type_spec, abbreviation_spec, eqtype_spec, datatype_spec, replication_spec, exception_spec, structure_spec, include_spec, include_ids, sharing_spec, StrDescs, last_desc, desc_and}
use Rattle.module_tree.specs.ModuleDepth.{depth_sig}

-- an identifier of a structure, signature or functor
abbrev pub as_module_id : Terminal → Option ℕ
as_module_id (alpha p x) = Some x
as_module_id _ = None

-- such an identifier, this word, and then what g reads
abbrev pub id_then : {A : Type 0} → Reserved → (Placed ℕ → List Terminal → Answer A) → List Terminal → Answer A
id_then w g i = then_taken (first_as as_module_id i) (λ x m. word_then w (g x) m)

-- Specifications of values, types, constructors and exceptions; types are at most n deep.

abbrev pub val_desc_turn : ℕ → NoState → List Terminal → Answer (Turn (List ValDesc) NoState)
val_desc_turn n s i =
    then_taken (first_as as_vid i) (λ x m. word_then res.Colon (λ k. then_read (read_ty n 0 k) (λ a o.
    separated (after_word res.And o) (λ vs. record { place = x.place; vid = x.it; ty = a } ∷ vs) (record { place = x.place; vid = x.it; ty = a } ∷ []) s o)) m)

abbrev pub type_desc_turn : NoState → List Terminal → Answer (Turn (List TypeDesc) NoState)
type_desc_turn s i =
    then_read (read_tyvars i) (λ as_ m. then_taken (first_as as_tycon m) (λ t o.
    separated (after_word res.And o) (λ ds. record { place = place_at i; tyvars = as_; tycon = t.it } ∷ ds)
    (record { place = place_at i; tyvars = as_; tycon = t.it } ∷ []) s o))

abbrev pub con_desc_turn : ℕ → Reserved → NoState → List Terminal → Answer (Turn (List ConDesc) NoState)
con_desc_turn n w s i =
    then_taken (first_as as_vid i) (λ x m. then_read (maybe_ty n (after_word res.Of m) m) (λ t o.
    separated (after_word w o) (λ cs. record { place = x.place; vid = x.it; of_ty = t } ∷ cs) (record { place = x.place; vid = x.it; of_ty = t } ∷ []) s o))

-- constructors are parted by `|`, exceptions by `and`
abbrev pub read_con_descs : ℕ → Reserved → List Terminal → Answer (List ConDesc)
read_con_descs n w i = whole (con_desc_turn n w) no_state i

abbrev pub data_desc_turn : ℕ → NoState → List Terminal → Answer (Turn (List DataDesc) NoState)
data_desc_turn n s i =
    bound_tycon (λ as_ t k. then_read (read_con_descs n res.Bar k) (λ cs o.
    separated (after_word res.And o) (λ ds. record { place = place_at i; tyvars = as_; tycon = t; cons = cs } ∷ ds)
    (record { place = place_at i; tyvars = as_; tycon = t; cons = cs } ∷ []) s o)) i

-- A list after `type` binds abbreviations where its first type constructor has `=` after it.
abbrev pub binds_type : List Terminal → Answer Bool
binds_type i =
    then_read (read_tyvars i) (λ as_ m. then_taken (first_as as_tycon m) (λ t o. on_some (after_word res.Equals o) (λ k. read true o) (read false o)))

abbrev pub type_form : ℕ → ℕ → List Terminal → Answer Spec
type_form n p i =
    then_read (binds_type i) (λ b o. if b
    then then_read (read_type_binds n i) (λ bs m. read (abbreviation_spec p bs) m)
    else then_read (whole type_desc_turn no_state i) (λ ts m. read (type_spec p ts) m))

abbrev pub datatype_form : ℕ → ℕ → List Terminal → Answer Spec
datatype_form n p i =
    on_taken (replicated i) (λ x m. then_taken (first_as as_long_tycon m) (λ c o. read (replication_spec p x c) o))
    (then_read (whole (data_desc_turn n) no_state i) (λ ds o. read (datatype_spec p ds) o))

-- longtycon = .. = longtycon
abbrev pub tycon_turn : NoState → List Terminal → Answer (Turn (List (Placed LongId)) NoState)
tycon_turn s i = then_taken (first_as as_long_tycon i) (λ c o. separated (after_word res.Equals o) (λ cs. c ∷ cs) (c ∷ []) s o)

-- after `sharing`
abbrev pub sharing_form : ℕ → List Terminal → Answer Spec
sharing_form p i =
    word_then res.TypeWord (λ m. then_taken (first_as as_long_tycon m) (λ c k. word_then res.Equals (λ j.
    then_read (whole tycon_turn no_state j) (λ cs o. read (sharing_spec p (c ∷ cs)) o)) k)) i

-- `and` where `type` follows it goes on with a list of `where type`
abbrev pub and_type : Option (List Terminal) → Option (List Terminal)
and_type None = None
and_type (Some m) = on_some (after_word res.TypeWord m) (λ o. Some m) None

abbrev pub where_of : List Terminal → List Terminal → List Tyvar → Placed LongId → Ty → WhereType
where_of i j as_ c a = record { place = place_at i; tyvars_place = tyvars_place (place_at i) j as_; tyvars = as_; tycon = c; ty = a }

abbrev pub where_turn : ℕ → NoState → List Terminal → Answer (Turn (List WhereType) NoState)
where_turn n s i =
    word_then res.TypeWord (λ j. then_read (read_tyvars j) (λ as_ m. then_taken (first_as as_long_tycon m) (λ c k. word_then res.Equals (λ l.
    then_read (read_ty n 0 l) (λ a o.
    separated (and_type (after_word res.And o)) (λ ws. where_of i j as_ c a ∷ ws) (where_of i j as_ c a ∷ []) s o)) k))) i

abbrev pub SigReader : Type 0
SigReader = List Terminal → Answer SigExp

-- strid : sigexp and ..
abbrev pub str_desc_turn : SigReader → NoState → List Terminal → Answer (Turn StrDescs NoState)
str_desc_turn self s i =
    id_then res.Colon (λ x k. then_read (self k) (λ g o. separated (after_word res.And o) (desc_and x g) (last_desc x g) s o)) i

-- further identifiers after `include sigid`
abbrev pub sig_id_turn : NoState → List Terminal → Answer (Turn (List (Placed ℕ)) NoState)
sig_id_turn s i = then_taken (first_as as_module_id i) (λ x o. separated (put_more (first_as as_module_id o) o) (λ xs. x ∷ xs) (x ∷ []) s o)

-- whether two identifiers stand here
abbrev pub two_ids : List Terminal → Bool
two_ids i = on_taken (first_as as_module_id i) (λ x m. on_taken (first_as as_module_id m) (λ y o. true) false) false

-- a list of identifiers after `include` has to have room for one
abbrev pub include_form : ℕ → SigReader → ℕ → List Terminal → Answer Spec
include_form n self p i =
    if two_ids i
    then (if nat_le 1 n
    then then_taken (first_as as_module_id i) (λ x m. then_read (whole sig_id_turn no_state m) (λ xs o. read (include_ids p (x ∷ xs)) o)) else deep)
    else then_read (self i) (λ g o. read (include_spec p g) o)

-- what a specification begins with
pub data SpecStart : Type 0 where
  val_start : ℕ → List Terminal → SpecStart
  type_start : ℕ → List Terminal → SpecStart
  eqtype_start : ℕ → List Terminal → SpecStart
  datatype_start : ℕ → List Terminal → SpecStart
  exception_start : ℕ → List Terminal → SpecStart
  structure_start : ℕ → List Terminal → SpecStart
  include_start : ℕ → List Terminal → SpecStart
  sharing_start : ℕ → List Terminal → SpecStart
  no_spec : SpecStart

abbrev pub spec_start : List Terminal → SpecStart
spec_start (reserved p res.Val ∷ o) = val_start p o
spec_start (reserved p res.TypeWord ∷ o) = type_start p o
spec_start (reserved p res.Eqtype ∷ o) = eqtype_start p o
spec_start (reserved p res.Datatype ∷ o) = datatype_start p o
spec_start (reserved p res.Exception ∷ o) = exception_start p o
spec_start (reserved p res.Structure ∷ o) = structure_start p o
spec_start (reserved p res.Include ∷ o) = include_start p o
spec_start (reserved p res.Sharing ∷ o) = sharing_start p o
spec_start _ = no_spec

abbrev pub is_spec_start : SpecStart → Bool
is_spec_start (val_start p o) = true
is_spec_start (type_start p o) = true
is_spec_start (eqtype_start p o) = true
is_spec_start (datatype_start p o) = true
is_spec_start (exception_start p o) = true
is_spec_start (structure_start p o) = true
is_spec_start (include_start p o) = true
is_spec_start (sharing_start p o) = true
is_spec_start no_spec = false

abbrev pub spec_by : ℕ → SigReader → SpecStart → Answer Spec
spec_by n self (val_start p i) = then_read (whole (val_desc_turn n) no_state i) (λ vs o. read (val_spec p vs) o)
spec_by n self (type_start p i) = type_form n p i
spec_by n self (eqtype_start p i) = then_read (whole type_desc_turn no_state i) (λ ts o. read (eqtype_spec p ts) o)
spec_by n self (datatype_start p i) = datatype_form n p i
spec_by n self (exception_start p i) = then_read (read_con_descs n res.And i) (λ cs o. read (exception_spec p cs) o)
spec_by n self (structure_start p i) = then_read (whole (str_desc_turn self) no_state i) (λ ds o. read (structure_spec p ds) o)
spec_by n self (include_start p i) = include_form n self p i
spec_by n self (sharing_start p i) = sharing_form p i
spec_by n self no_spec = bad

abbrev pub spec_turn : ℕ → SigReader → NoState → List Terminal → Answer (Turn Specs NoState)
spec_turn n self s i =
    on_some (after_word res.Semicolon i) (λ m. read (more (λ ss. ss) s) m)
    (if is_spec_start (spec_start i) then then_read (spec_by n self (spec_start i)) (λ x o. read (more (spec x) s) o) else read (last no_specs) i)

-- specifications whose phrases are at most n deep, where `self` reads a signature that is
abbrev pub specs_from : ℕ → SigReader → List Terminal → Answer Specs
specs_from n self i = whole (spec_turn n self) no_state i

-- what a signature begins with
pub data SigStart : Type 0 where
  sig_start : ℕ → List Terminal → SigStart
  sig_id_start : Placed ℕ → List Terminal → SigStart
  no_sig_start : SigStart

abbrev pub sig_id_if : Option (Taken (Placed ℕ)) → SigStart
sig_id_if (Some x) = sig_id_start x.it x.rest
sig_id_if None = no_sig_start

abbrev pub sig_start_of : List Terminal → SigStart
sig_start_of (reserved p res.Sig ∷ o) = sig_start p o
sig_start_of i = sig_id_if (first_as as_module_id i)

abbrev pub begins_sig : SigStart → Bool
begins_sig (sig_start p o) = true
begins_sig (sig_id_start x o) = true
begins_sig no_sig_start = false

abbrev pub sig_atom : ℕ → SigReader → SigStart → Answer SigExp
sig_atom n self (sig_start p i) = then_read (specs_from n self i) (λ ss m. word_then res.End (λ o. read (sig_end p ss) o) m)
sig_atom n self (sig_id_start x o) = read (sig_id x.place x.it) o
sig_atom n self no_sig_start = bad

-- a signature is part of one with `where type` only if there is room for it
abbrev pub where_suffix : ℕ → SigExp → List Terminal → Answer (Turn SigExp SigExp)
where_suffix n g i =
    on_some (after_word res.Where i)
    (λ m. if nat_le (depth_sig g) n then then_read (whole (where_turn n) no_state m) (λ ws o. read (more (λ h. h) (where_type g ws)) o) else deep)
    (read (last g) i)

abbrev pub sig_from : ℕ → SigReader → List Terminal → Answer SigExp
sig_from n self i = then_read (sig_atom n self (sig_start_of i)) (λ g m. whole (where_suffix n) g m)

unfoldable pub read_sig : ℕ → SigReader
read_sig zero i = deep_if (begins_sig (sig_start_of i))
read_sig (suc n) i = sig_from n (read_sig n) i
