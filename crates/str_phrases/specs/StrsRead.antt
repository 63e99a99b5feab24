-- What was read of structures and their declarations, against the reading function's answer.
use Rattle.std.specs.Prelude.{ℕ, ◌≡◌, ◌≤◌, ◌<◌, Bool, true, false, List, [], ◌∷◌, ◌++◌, length, map, Option, Some, None, if◌then◌else◌}
use Rattle.mlc_base.specs.declared.place.Place.{Place}
use Rattle.mlc_names.specs.declared.token.Reserved.TheVariants as res
use Rattle.mlc_names.specs.declared.token.Token.{Token}
use Rattle.sml_tree.specs.Terminal.{Terminal}
use Rattle.sml_tree.specs.Fixity.{Fixity}
use Rattle.sml_tree.specs.BareTree as core
use Rattle.sml_tree.specs.Bare.{at, bare_dec, is_directive}
use Rattle.sml_tree.specs.ReadTree.{Placed}
use Rattle.sml_grammar.specs.Answer.{Read, Answer, read, then_read}
use Rattle.sml_grammar.specs.Terminals.{first_as, then_taken, word_then, place_at}
use Rattle.module_tree.specs.BareModules as bare
use Rattle.module_tree.specs.ReadModules.{Seal, SigExp, MaybeSig, no_sig, sealed, StrExp, str_place, StrDecs, no_str_decs, str_dec, StrDec, core_dec, structure_dec, local_str, StrBinds, last_str, str_and, StrBind, str_bind}
use Rattle.module_tree.specs.ModuleBare.{id_at, bare_sig, constrained_if, bare_str, bare_str_decs, bare_str_binds}
use Rattle.module_tree.specs.ModuleDepth.{depth_maybe_sig, depth_str, depth_str_decs, depth_str_dec, depth_str_binds, depth_str_bind}
use Rattle.module_tree.specs.Scope.{is_core_dec, are_core_decs, after_decs, after_str_dec}
use Rattle.module_grammar.specs.Signatures.{as_module_id}
use Rattle.module_grammar.specs.Structures.{maybe_sig, StrReader, str_readers, local_rest}
use Rattle.sml_grammar.specs.Expressions.{readers, DecStart, dec_by}
use Rattle.sml_grammar.specs.Terminals.{Taken, on_taken, on_some, taken, after_word}
use Rattle.str_phrases.specs.CoreRead.{inner_core}
use Rattle.module_code.specs.TreeOf.{BindOf, sig_of, seal_of, decs_of, str_of, str_dec_of, bind_of}
use Rattle.sml_tree.specs.TreeOf as core_of
use Rattle.module_code.specs.declared.structures.StrExp as code_str
use Rattle.module_code.specs.declared.structures.StrBind as code_bind
use Rattle.phrase_base.specs.declared.source.Source.{Source}
use Rattle.phrase_base.specs.Left.{left}
use Rattle.phrase_base.specs.TypesRead.{IsOne}
use Rattle.str_phrases.specs.declared.seals.Sign.{Sign}
use Rattle.str_phrases.specs.declared.decs.Decs.{Decs}
use Rattle.str_phrases.specs.declared.decs.Decs.TheVariants as decs
use Rattle.str_phrases.specs.declared.decs.Item.{Item}
use Rattle.str_phrases.specs.declared.decs.Item.TheVariants as item

-- the declarations that one of the code stands for, or some, and whether they are of the core alone

module _ {D : Type 0} (of : D → core.Dec) where
  abbrev pub items_of : Option (Item D) → List bare.StrDec
  items_of None = []
  items_of (Some (item.Core d)) = bare.core_dec (of d) ∷ []
  items_of (Some (item.Other d)) = str_dec_of of d ∷ []

  abbrev pub decs_list : Decs D → List bare.StrDec
  decs_list (decs.Core ds) = map (λ d. bare.core_dec (of d)) ds.items
  decs_list (decs.Mixed ds) = map (str_dec_of of) ds.items

abbrev pub as_items : {D : Type 0} → (D → core.Dec) → Option D → List bare.StrDec
as_items of None = []
as_items of (Some d) = bare.core_dec (of d) ∷ []

-- a `local` of these parts
abbrev pub mixed_list : {D : Type 0} → (D → core.Dec) → Place → Decs D → Decs D → List bare.StrDec
mixed_list of p a b = bare.local_str p (decs_of (decs_list of a)) (decs_of (decs_list of b)) ∷ []

abbrev pub local_list : {D : Type 0} → (D → core.Dec) → Place → Decs D → Decs D → List bare.StrDec
local_list of p (decs.Core ds) (decs.Core es) = bare.core_dec (core.local_dec p (core_of.decs_of (map of ds.items)) (core_of.decs_of (map of es.items))) ∷ []
local_list of p a b = mixed_list of p a b

abbrev pub is_core_item : {D : Type 0} → Option (Item D) → Bool
is_core_item None = true
is_core_item (Some (item.Core d)) = true
is_core_item (Some (item.Other d)) = false

abbrev pub are_core : {D : Type 0} → Decs D → Bool
are_core (decs.Core ds) = true
are_core (decs.Mixed ds) = false

-- the bare declarations of what was read; directives leave nothing
abbrev pub bare_one : ℕ → StrDec → List bare.StrDec
bare_one f (core_dec d) = if is_directive d then [] else bare.core_dec (bare_dec f d) ∷ []
bare_one f (structure_dec p bs) = bare.structure_dec (at f p) (bare_str_binds f bs) ∷ []
bare_one f (local_str p ds es) = bare.local_str (at f p) (bare_str_decs f ds) (bare_str_decs f es) ∷ []

abbrev pub bare_list : ℕ → StrDecs → List bare.StrDec
bare_list f no_str_decs = []
bare_list f (str_dec d ds) = bare_one f d ++ bare_list f ds

-- a structure that begins at i, at most n deep
pub record IsStr {D : Type 0} (of : D → core.Dec) (s : Source) (n : ℕ) (i : List Terminal) (x : code_str.StrExp D) (d : ℕ) (o : List Token)
    (got : Read StrExp) : Type 0 where
  pub rest : left s o ≡ got.rest
  pub same : str_of of x ≡ bare_str s.file got.tree
  pub depth : d ≡ depth_str got.tree
  pub place : str_place got.tree ≡ place_at i
  pub fits : depth_str got.tree ≤ n
  pub shorter : length got.rest < length i

-- a declaration; f' are the fixities after it
pub record IsStrDec {D : Type 0} (of : D → core.Dec) (f f' : Fixity) (s : Source) (n : ℕ) (i : List Terminal) (x : Option (Item D)) (d : ℕ)
    (o : List Token) (got : Read StrDec) : Type 0 where
  pub rest : left s o ≡ got.rest
  pub same : items_of of x ≡ bare_one s.file got.tree
  pub core : is_core_item x ≡ is_core_dec got.tree
  pub depth : d ≡ depth_str_dec got.tree
  pub fits : depth_str_dec got.tree ≤ n
  pub shorter : length got.rest < length i
  pub force : f' ≡ after_str_dec f got.tree

-- declarations: none, or some
pub record IsStrDecs {D : Type 0} (of : D → core.Dec) (f f' : Fixity) (s : Source) (n : ℕ) (i : List Terminal) (x : Decs D) (d : ℕ) (o : List Token)
    (got : Read StrDecs) : Type 0 where
  pub rest : left s o ≡ got.rest
  pub same : decs_list of x ≡ bare_list s.file got.tree
  pub core : are_core x ≡ are_core_decs got.tree
  pub depth : d ≡ depth_str_decs got.tree
  pub fits : depth_str_decs got.tree ≤ n
  pub shorter : length got.rest ≤ length i
  pub force : f' ≡ after_decs f got.tree

-- a signature after `:` or `:>`, or none

pub record SignOf : Type 0 where
  pub seal : Seal
  pub sig : bare.SigExp

abbrev pub sign_of : Option Sign → Option SignOf
sign_of None = None
sign_of (Some x) = Some (record { seal = seal_of x.seal; sig = sig_of x.sig })

abbrev pub bare_sign : ℕ → MaybeSig → Option SignOf
bare_sign f no_sig = None
bare_sign f (sealed k g) = Some (record { seal = k; sig = bare_sig f g })

-- a structure with it on it
abbrev pub put_sign : Place → Option SignOf → bare.StrExp → bare.StrExp
put_sign p None s = s
put_sign p (Some x) s = bare.constrained p s x.seal x.sig

pub record IsSign (s : Source) (n : ℕ) (i : List Terminal) (x : Option Sign) (d : ℕ) (o : List Token) (got : Read MaybeSig) : Type 0 where
  pub rest : left s o ≡ got.rest
  pub same : sign_of x ≡ bare_sign s.file got.tree
  pub depth : d ≡ depth_maybe_sig got.tree
  pub fits : depth_maybe_sig got.tree ≤ n
  pub shorter : length got.rest ≤ length i

-- bindings of structures

abbrev pub read_str_bind : ℕ → StrReader → Fixity → List Terminal → Answer StrBind
read_str_bind n self f i =
    then_taken (first_as as_module_id i) (λ x j. then_read (maybe_sig n j) (λ g m. word_then res.Equals (λ k. then_read (self f k) (λ e o.
    read (str_bind x g e) o)) m))

abbrev pub bare_bind : ℕ → StrBind → BindOf
bare_bind f (str_bind x g s) = record { id = id_at f x; body = constrained_if f (str_place s) g (bare_str f s) }

abbrev pub IsBind : {D : Type 0} → (D → core.Dec) → Source → ℕ → List Terminal → code_bind.StrBind D → ℕ → List Token → Read StrBind → Type 0
IsBind of s n i x d o got = IsOne (bind_of of) (bare_bind s.file) depth_str_bind s n i x d o got

abbrev pub binds_list : ℕ → StrBinds → List BindOf
binds_list f (last_str b) = bare_bind f b ∷ []
binds_list f (str_and b bs) = bare_bind f b ∷ binds_list f bs

abbrev pub IsBinds : {D : Type 0} → (D → core.Dec) → Source → ℕ → List Terminal → List (code_bind.StrBind D) → ℕ → List Token → Read StrBinds → Type 0
IsBinds of s n i xs d o got = IsOne (map (bind_of of)) (binds_list s.file) depth_str_binds s n i xs d o got

-- a functor's identifier and a bracket
abbrev pub functor_found : List Terminal → Option (Taken (Placed ℕ))
functor_found i = on_taken (first_as as_module_id i) (λ x m. on_some (after_word res.LeftParen m) (λ o. taken x o) None) None

-- a declaration of the core
abbrev pub read_core : ℕ → Fixity → DecStart → Answer StrDec
read_core n f s = then_read (dec_by n (readers n).exp (inner_core n) f s) (λ d o. read (core_dec d) o)

-- a `local` after its first word
abbrev pub local_by : ℕ → Fixity → ℕ → List Terminal → Answer StrDec
local_by n f p i = then_read ((str_readers n).decs f i) (local_rest (str_readers n).decs f p)
