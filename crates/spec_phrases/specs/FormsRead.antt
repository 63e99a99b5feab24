-- What was read of a specification without a signature, against the reading function's answer.
use Rattle.std.specs.Prelude.{ℕ, List, [], ◌∷◌, map}
use Rattle.mlc_names.specs.declared.token.Reserved.TheVariants as res
use Rattle.mlc_names.specs.declared.token.Token.{Token}
use Rattle.sml_tree.specs.Terminal.{Terminal}
use Rattle.sml_tree.specs.Bare.{at, bare_long}
use Rattle.sml_grammar.specs.Answer.{Read, Answer, read, then_read}
use Rattle.sml_grammar.specs.Bindings.{read_type_binds}
use Rattle.module_tree.specs.BareModules as bare
use Rattle.module_tree.specs.ReadModules.{Spec, val_spec, type_spec, abbreviation_spec, eqtype_spec, datatype_spec, replication_spec, exception_spec, structure_spec, include_spec, include_ids, sharing_spec}
use Rattle.module_tree.specs.ModuleBare.{id_at, bare_val_desc, bare_type_desc, bare_con_desc, bare_data_desc, abbreviated, bare_sig, bare_str_descs}
use Rattle.module_tree.specs.ModuleDepth.{depth_spec}
use Rattle.module_grammar.specs.Signatures.{read_con_descs}
use Rattle.module_code.specs.TreeOf.{spec_of}
use Rattle.module_code.specs.declared.signatures.Spec as code
use Rattle.phrase_base.specs.declared.source.Source.{Source}
use Rattle.phrase_base.specs.TypesRead.{IsOne}
use Rattle.spec_phrases.specs.DescsRead.{read_val_descs, read_type_descs, read_data_descs}

-- the specifications that one stands for
abbrev pub spec_list : ℕ → Spec → List bare.Spec
spec_list f (val_spec p vs) = bare.val_spec (at f p) (map (bare_val_desc f) vs) ∷ []
spec_list f (type_spec p ts) = bare.type_spec (at f p) (map (bare_type_desc f) ts) ∷ []
spec_list f (abbreviation_spec p bs) = map (abbreviated f) bs
spec_list f (eqtype_spec p ts) = bare.eqtype_spec (at f p) (map (bare_type_desc f) ts) ∷ []
spec_list f (datatype_spec p ds) = bare.datatype_spec (at f p) (map (bare_data_desc f) ds) ∷ []
spec_list f (replication_spec p x c) = bare.replication_spec (at f p) (id_at f x) (bare_long f c) ∷ []
spec_list f (exception_spec p cs) = bare.exception_spec (at f p) (map (bare_con_desc f) cs) ∷ []
spec_list f (structure_spec p ds) = bare.structure_spec (at f p) (bare_str_descs f ds) ∷ []
spec_list f (include_spec p g) = bare.include_spec (at f p) (bare_sig f g) ∷ []
spec_list f (include_ids p xs) = map (λ x. bare.include_spec (at f p) (bare.sig_id (id_at f x))) xs
spec_list f (sharing_spec p cs) = bare.sharing_spec (at f p) (map (bare_long f) cs) ∷ []

abbrev pub IsSpec : Source → ℕ → List Terminal → code.Spec → ℕ → List Token → Read Spec → Type 0
IsSpec s n i x d o got = IsOne spec_of (spec_list s.file) depth_spec s n i x d o got

-- specifications after their first word
abbrev pub read_val_spec : ℕ → ℕ → List Terminal → Answer Spec
read_val_spec n p i = then_read (read_val_descs n i) (λ vs o. read (val_spec p vs) o)

abbrev pub read_eqtype_spec : ℕ → List Terminal → Answer Spec
read_eqtype_spec p i = then_read (read_type_descs i) (λ ts o. read (eqtype_spec p ts) o)

abbrev pub read_type_spec : ℕ → List Terminal → Answer Spec
read_type_spec p i = then_read (read_type_descs i) (λ ts o. read (type_spec p ts) o)

abbrev pub read_exception_spec : ℕ → ℕ → List Terminal → Answer Spec
read_exception_spec n p i = then_read (read_con_descs n res.And i) (λ cs o. read (exception_spec p cs) o)

abbrev pub read_datatype_spec : ℕ → ℕ → List Terminal → Answer Spec
read_datatype_spec n p i = then_read (read_data_descs n i) (λ ds o. read (datatype_spec p ds) o)

abbrev pub read_abbreviation_spec : ℕ → ℕ → List Terminal → Answer Spec
read_abbreviation_spec n p i = then_read (read_type_binds n i) (λ bs o. read (abbreviation_spec p bs) o)
