-- Texts that are no source, whatever their tree's depth, and one that is too deep.
use Rattle.std.proofs.Common.{◌≡◌, ℕ, pos, List, [], ◌∷◌, true, refl}
use Rattle.mlc_names.specs.declared.token.Reserved.TheVariants as res
use Rattle.sml_tree.specs.Fixity.{Fixity}
use Rattle.sml_tree.specs.Terminal.{Terminal, reserved, number, alpha, short_strid}
use Rattle.sml_grammar.specs.Answer.{bad, deep, many}
use Rattle.sml_grammar.specs.Types.{read_ty}
use Rattle.sml_grammar.specs.Patterns.{read_pats}
use Rattle.sml_grammar.specs.Expressions.{readers}
use Rattle.module_tree.specs.ReadModules.{Top}
use Rattle.module_tree.specs.ModuleGrammar.{IsSource, module_id, without_sig}
use Rattle.module_grammar.specs.PartialModules.{with_str_id, begun_str, in_struct, in_structure, in_str_dec, in_str_body, in_declaration, in_top}
use Rattle.module_grammar.specs.Signatures.{read_sig}
use Rattle.module_grammar.specs.Structures.{str_readers}
use Rattle.module_grammar.specs.Sources.{read_source}
use Rattle.module_grammar.proofs.SourceOver.{deep-complete, bad-sound}

abbrev none : Fixity
none = []

abbrev A : ℕ
A = 20

-- structure A = 1
abbrev number_for_structure : List Terminal
number_for_structure = reserved 0 res.Structure ∷ alpha 1 A ∷ reserved 2 res.Equals ∷ number 3 (pos 1) true ∷ []

number_for_structure-bad : read_source 2 none number_for_structure ≡ bad
unfolding many readers read_ty read_pats read_sig str_readers
number_for_structure-bad = refl

no-structure : {ts : List Top} → IsSource none number_for_structure ts → ⊥
no-structure {ts} d = bad-sound 2 none number_for_structure ts number_for_structure-bad d

-- signature A = sig val end: a keyword without what it specifies
abbrev nothing_specified : List Terminal
nothing_specified = reserved 0 res.Signature ∷ alpha 1 A ∷ reserved 2 res.Equals ∷ reserved 3 res.Sig ∷ reserved 4 res.Val ∷ reserved 5 res.End ∷ []

nothing_specified-bad : read_source 2 none nothing_specified ≡ bad
unfolding many readers read_ty read_pats read_sig str_readers
nothing_specified-bad = refl

no-signature : {ts : List Top} → IsSource none nothing_specified ts → ⊥
no-signature {ts} d = bad-sound 2 none nothing_specified ts nothing_specified-bad d

-- structure A = struct structure A = A: it needn't be whole to be too deep
abbrev unfinished : List Terminal
unfinished = reserved 0 res.Structure ∷ alpha 1 A ∷ reserved 2 res.Equals ∷ reserved 3 res.Struct ∷ reserved 4 res.Structure ∷ alpha 5 A ∷ reserved 6 res.Equals
    ∷ alpha 7 A ∷ []

too-deep : read_source 1 none unfinished ≡ deep
too-deep = deep-complete 1 none unfinished (in_top (in_declaration (in_structure 0 (in_str_body 2 (module_id 1 A) without_sig
    (in_struct 3 (in_str_dec (in_structure 4 (in_str_body 6 (module_id 5 A) without_sig (begun_str (with_str_id {o = []} (short_strid 7 A)))))))))))
