-- How structures and their declarations are read. `(str_readers n).str f` reads a structure expression that is at most n deep, and
-- `(str_readers n).decs f` declarations.
use Rattle.std.specs.Prelude.{ℕ, zero, suc, List, ◌∷◌, Option, Some, None, Bool, true, false, ◌&&◌, nat_le, if◌then◌else◌}
use Rattle.mlc_names.specs.declared.token.Reserved.TheVariants as res
use Rattle.sml_tree.specs.Terminal.{LongId, Terminal, reserved, alpha}
use Rattle.sml_tree.specs.Fixity.{Fixity}
use Rattle.sml_tree.specs.ReadTree.{Placed, Decs, no_decs, dec, local_dec}
use Rattle.sml_grammar.specs.Answer.{Answer, bad, deep, read, then_read, deep_if, Turn, last, more, whole}
use Rattle.sml_grammar.specs.Terminals.{Taken, first_as, as_long_strid, after_word, on_some, then_taken, word_then, separated, NoState, no_state}
use Rattle.sml_grammar.specs.Expressions.{readers, DecStart, local_start, dec_start, is_dec_start, dec_by}
use Rattle.module_tree.specs.ReadModules.{Seal, transparent, opaque, MaybeSig, no_sig, sealed, StrExp, struct_end, str_id, constrained, applied, applied_to_decs, let_str, StrDecs, no_str_decs, str_dec, StrDec, core_dec, structure_dec, local_str, StrBinds, last_str, str_and, str_bind}
use Rattle.module_tree.specs.Scope.{are_core_decs, after_decs, after_str_dec}
use Rattle.module_tree.specs.ModuleDepth.{depth_str}
use Rattle.module_grammar.specs.Signatures.{as_module_id, read_sig}

-- the declarations of the core that these are, where they hold nothing else
abbrev pub core_of : StrDec → Decs → Decs
core_of (core_dec d) ds = dec d ds
core_of (structure_dec p bs) ds = ds
core_of (local_str p ds es) ds' = ds'

abbrev pub core_decs : StrDecs → Decs
core_decs no_str_decs = no_decs
core_decs (str_dec d ds) = core_of d (core_decs ds)

-- a `local` whose parts are all core is a declaration of the core
abbrev pub local_of : ℕ → StrDecs → StrDecs → StrDec
local_of p ds es = if are_core_decs ds && are_core_decs es then core_dec (local_dec p (core_decs ds) (core_decs es)) else local_str p ds es

-- the sign before a signature, and what follows it
pub record Sealing : Type 0 where
  pub seal : Seal
  pub rest : List Terminal

abbrev pub sealing : List Terminal → Option Sealing
sealing (reserved p res.Colon ∷ o) = Some (record { seal = transparent; rest = o })
sealing (reserved p res.ColonGreater ∷ o) = Some (record { seal = opaque; rest = o })
sealing _ = None

-- [: sigexp | :> sigexp]
abbrev pub maybe_sig : ℕ → List Terminal → Answer MaybeSig
maybe_sig n i = on_some (sealing i) (λ k. then_read (read_sig n k.rest) (λ g o. read (sealed k.seal g) o)) (read no_sig i)

abbrev pub StrReader : Type 0
StrReader = Fixity → List Terminal → Answer StrExp

abbrev pub StrDecsReader : Type 0
StrDecsReader = Fixity → List Terminal → Answer StrDecs

pub record StrReaders : Type 0 where
  pub str : StrReader
  pub decs : StrDecsReader

-- what a structure expression begins with
pub data StrStart : Type 0 where
  struct_start : ℕ → List Terminal → StrStart
  let_start : ℕ → List Terminal → StrStart
  -- a functor's identifier and a bracket
  functor_start : Placed ℕ → List Terminal → StrStart
  str_id_start : Placed LongId → List Terminal → StrStart
  no_str_start : StrStart

abbrev pub str_id_if : Option (Taken (Placed LongId)) → StrStart
str_id_if (Some x) = str_id_start x.it x.rest
str_id_if None = no_str_start

abbrev pub str_start : List Terminal → StrStart
str_start (reserved p res.Struct ∷ o) = struct_start p o
str_start (reserved p res.Let ∷ o) = let_start p o
str_start (alpha p x ∷ reserved q res.LeftParen ∷ o) = functor_start (record { place = p; it = x }) o
str_start i = str_id_if (first_as as_long_strid i)

abbrev pub begins_str : StrStart → Bool
begins_str (struct_start p o) = true
begins_str (let_start p o) = true
begins_str (functor_start x o) = true
begins_str (str_id_start x o) = true
begins_str no_str_start = false

-- after `let strdec in`
abbrev pub let_rest : StrReaders → Fixity → ℕ → StrDecs → List Terminal → Answer StrExp
let_rest self f p ds i = then_read (self.str (after_decs f ds) i) (λ s m. word_then res.End (λ o. read (let_str p ds s) o) m)

-- after `funid (`
abbrev pub argument : StrReaders → Fixity → Placed ℕ → List Terminal → Answer StrExp
argument self f x i =
    if begins_str (str_start i)
    then then_read (self.str f i) (λ s m. word_then res.RightParen (λ o. read (applied x s) o) m)
    else then_read (self.decs f i) (λ ds m. word_then res.RightParen (λ o. read (applied_to_decs x ds) o) m)

abbrev pub str_atom : StrReaders → Fixity → StrStart → Answer StrExp
str_atom self f (struct_start p i) = then_read (self.decs f i) (λ ds m. word_then res.End (λ o. read (struct_end p ds) o) m)
str_atom self f (let_start p i) = then_read (self.decs f i) (λ ds m. word_then res.In (let_rest self f p ds) m)
str_atom self f (functor_start x i) = argument self f x i
str_atom self f (str_id_start x o) = read (str_id x) o
str_atom self f no_str_start = bad

-- a structure is part of a constrained one only if there is room for it
abbrev pub seal_suffix : ℕ → StrExp → List Terminal → Answer (Turn StrExp StrExp)
seal_suffix n s i =
    on_some (sealing i)
    (λ k. if nat_le (depth_str s) n then then_read (read_sig n k.rest) (λ g o. read (more (λ t. t) (constrained s k.seal g)) o) else deep)
    (read (last s) i)

abbrev pub str_from : StrReaders → ℕ → StrReader
str_from self n f i = then_read (str_atom self f (str_start i)) (λ s m. whole (seal_suffix n) s m)

-- strid [: sigexp] = strexp and ..
abbrev pub str_bind_turn : ℕ → StrReader → Fixity → NoState → List Terminal → Answer (Turn StrBinds NoState)
str_bind_turn n self f s i =
    then_taken (first_as as_module_id i) (λ x j. then_read (maybe_sig n j) (λ g m. word_then res.Equals (λ k. then_read (self f k) (λ e o.
    separated (after_word res.And o) (str_and (str_bind x g e)) (last_str (str_bind x g e)) s o)) m))

abbrev pub read_str_binds : ℕ → StrReader → Fixity → List Terminal → Answer StrBinds
read_str_binds n self f i = whole (str_bind_turn n self f) no_state i

abbrev pub local_rest : StrDecsReader → Fixity → ℕ → StrDecs → List Terminal → Answer StrDec
local_rest inner f p ds i =
    word_then res.In (λ k. then_read (inner (after_decs f ds) k) (λ es m. word_then res.End (λ o. read (local_of p ds es) o) m)) i

-- A declaration that isn't `structure` is one of the core, but for `local`, whose parts `inner` reads.
abbrev pub core_dec_by : ℕ → StrDecsReader → Fixity → DecStart → Answer StrDec
core_dec_by n inner f (local_start p i) = then_read (inner f i) (local_rest inner f p)
core_dec_by n inner f s = then_read (dec_by n (readers n).exp (λ g m. bad) f s) (λ d o. read (core_dec d) o)

abbrev pub str_dec_by : ℕ → StrReader → StrDecsReader → Fixity → List Terminal → Answer StrDec
str_dec_by n self inner f (reserved p res.Structure ∷ i) = then_read (read_str_binds n self f i) (λ bs o. read (structure_dec p bs) o)
str_dec_by n self inner f i = core_dec_by n inner f (dec_start i)

abbrev pub begins_str_dec : List Terminal → Bool
begins_str_dec (reserved p res.Structure ∷ i) = true
begins_str_dec i = is_dec_start (dec_start i)

abbrev pub str_dec_turn : ℕ → StrReader → StrDecsReader → Fixity → List Terminal → Answer (Turn StrDecs Fixity)
str_dec_turn n self inner f i =
    on_some (after_word res.Semicolon i) (λ m. read (more (λ ds. ds) f) m)
    (if begins_str_dec i
    then then_read (str_dec_by n self inner f i) (λ d o. read (more (str_dec d) (after_str_dec f d)) o)
    else read (last no_str_decs) i)

-- declarations whose phrases are at most n deep, where `self` reads a structure that is, and `inner` the declarations in a `local`
abbrev pub str_decs_from : ℕ → StrReader → StrDecsReader → StrDecsReader
str_decs_from n self inner f i = whole (str_dec_turn n self inner) f i

unfoldable pub str_readers : ℕ → StrReaders
str_readers zero = record {
  str = λ f i. deep_if (begins_str (str_start i));
  decs = λ f i. str_decs_from 0 (λ g m. deep_if (begins_str (str_start m))) (λ g m. deep) f i;
}
str_readers (suc n) = record {
  str = λ f i. str_from (str_readers n) n f i;
  decs = λ f i. str_decs_from (suc n) (λ g m. str_from (str_readers n) n g m) (str_readers n).decs f i;
}
