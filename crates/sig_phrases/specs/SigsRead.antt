-- What was read of signatures and of specifications with signatures in them, against the reading function's answer.
use Rattle.std.specs.Prelude.{ℕ, ◌≡◌, ◌≤◌, List, [], ◌∷◌, length, map, nat_le, if◌then◌else◌}
use Rattle.mlc_names.specs.declared.token.Reserved.TheVariants as res
use Rattle.mlc_names.specs.declared.token.Token.{Token}
use Rattle.sml_tree.specs.Terminal.{Terminal}
use Rattle.sml_tree.specs.ReadTree.{Placed}
use Rattle.sml_grammar.specs.Answer.{Read, Answer, deep, read, then_read, whole}
use Rattle.sml_grammar.specs.Terminals.{first_as, then_taken, no_state}
use Rattle.module_tree.specs.BareModules as bare
use Rattle.module_tree.specs.ReadModules.{SigExp, Specs, no_specs, spec, Spec, include_ids, StrDescs, last_desc, desc_and}
use Rattle.module_tree.specs.ModuleBare.{id_at, bare_sig}
use Rattle.module_tree.specs.ModuleDepth.{depth_sig, depth_specs, depth_str_descs}
use Rattle.module_grammar.specs.Signatures.{SigReader, as_module_id, id_then, sig_id_turn, SpecStart, val_start, type_start, eqtype_start, datatype_start, exception_start, structure_start, include_start, sharing_start}
use Rattle.module_code.specs.TreeOf.{DescOf, sig_of, spec_of, desc_of}
use Rattle.module_code.specs.declared.signatures.SigExp as code_sig
use Rattle.module_code.specs.declared.signatures.Spec as code_spec
use Rattle.module_code.specs.declared.signatures.StrDesc as code_desc
use Rattle.phrase_base.specs.declared.source.Source.{Source}
use Rattle.phrase_base.specs.Left.{left}
use Rattle.phrase_base.specs.TypesRead.{IsOne}
use Rattle.spec_phrases.specs.FormsRead.{spec_list}
use Rattle.sig_phrases.specs.declared.words.SpecWord.{SpecWord}
use Rattle.sig_phrases.specs.declared.words.SpecWord.TheVariants as word

-- what begins with this word, at a place and before these terminals
abbrev pub starts : SpecWord → ℕ → List Terminal → SpecStart
starts word.Val p o = val_start p o
starts word.Type p o = type_start p o
starts word.Eqtype p o = eqtype_start p o
starts word.Datatype p o = datatype_start p o
starts word.Exception p o = exception_start p o
starts word.Structure p o = structure_start p o
starts word.Include p o = include_start p o
starts word.Sharing p o = sharing_start p o

abbrev pub IsSig : Source → ℕ → List Terminal → code_sig.SigExp → ℕ → List Token → Read SigExp → Type 0
IsSig s n i g d o got = IsOne sig_of (bare_sig s.file) depth_sig s n i g d o got

-- those that each specification of a list stands for
abbrev pub specs_list : ℕ → Specs → List (List bare.Spec)
specs_list f no_specs = []
specs_list f (spec s ss) = spec_list f s ∷ specs_list f ss

-- specifications: none, or some
pub record IsSpecs (s : Source) (n : ℕ) (i : List Terminal) (xs : List code_spec.Spec) (d : ℕ) (o : List Token) (got : Read Specs) : Type 0 where
  pub rest : left s o ≡ got.rest
  pub same : map spec_of xs ≡ specs_list s.file got.tree
  pub depth : d ≡ depth_specs got.tree
  pub fits : depth_specs got.tree ≤ n
  pub shorter : length got.rest ≤ length i

-- strid : sigexp
pub record OneDesc : Type 0 where
  pub id : Placed ℕ
  pub sig : SigExp

abbrev pub bare_desc : ℕ → OneDesc → DescOf
bare_desc f d = record { id = id_at f d.id; sig = bare_sig f d.sig }

abbrev pub depth_desc : OneDesc → ℕ
depth_desc d = depth_sig d.sig

abbrev pub read_str_desc : SigReader → List Terminal → Answer OneDesc
read_str_desc self i = id_then res.Colon (λ x k. then_read (self k) (λ g o. read (record { id = x; sig = g }) o)) i

abbrev pub IsDesc : Source → ℕ → List Terminal → code_desc.StrDesc → ℕ → List Token → Read OneDesc → Type 0
IsDesc s n i x d o got = IsOne desc_of (bare_desc s.file) depth_desc s n i x d o got

abbrev pub descs_list : ℕ → StrDescs → List DescOf
descs_list f (last_desc x g) = record { id = id_at f x; sig = bare_sig f g } ∷ []
descs_list f (desc_and x g ds) = record { id = id_at f x; sig = bare_sig f g } ∷ descs_list f ds

abbrev pub IsDescs : Source → ℕ → List Terminal → List code_desc.StrDesc → ℕ → List Token → Read StrDescs → Type 0
IsDescs s n i xs d o got = IsOne (map desc_of) (descs_list s.file) depth_str_descs s n i xs d o got

-- include sigid .. sigid, two or more; there has to be room for one
abbrev pub ids_form : ℕ → ℕ → List Terminal → Answer Spec
ids_form n p i =
    if nat_le 1 n
    then then_taken (first_as as_module_id i) (λ x m. then_read (whole sig_id_turn no_state m) (λ xs o. read (include_ids p (x ∷ xs)) o)) else deep
