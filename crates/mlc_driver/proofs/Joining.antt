-- Parts that are elaborated one after the other.
use Rattle.std.proofs.Common.{◌≡◌, refl, map, take, List, [], ◌∷◌, ◌++◌, Result, Ok, Err, IfOk, IsErrAnd, sym, ap, subst, ◌∙◌}
use Rattle.std.proofs.lemmas.List.{map-append}
use Rattle.sml_tree.specs.BareTree.{Decs}
use Rattle.mlb_reader.specs.Parts.{Part, source}
use Rattle.core_rules.specs.Project as core
use Rattle.core_rules.specs.Restrictions.{broken_in}
use Rattle.mlb_reader.proofs.WithinChains.{each-append}
use Rattle.mlb_reader.specs.PartOf.{part_of}
use Rattle.mlb_reader.specs.declared.project.Part.{Part as Read}
use Rattle.mlb_reader.specs.declared.project.Part.TheVariants as read
use Rattle.project_elab.specs.Elaborated.{HasElaborated}
use Rattle.project_elab.specs.declared.project.Elaborating.{Elaborating}
use Rattle.mlc_driver.specs.Parts.{part_of_core, IsLawful, HasParts}

-- the standard basis stands first
pub basis_joins : (prelude : Decs) (parts : List Read) (e : Elaborating) → (rest : List Read) × (parts ≡ read.StandardBasis ∷ rest)
    → HasElaborated prelude (core.standard_basis ∷ []) e → HasParts prelude (map part_of (take 1 parts)) e
basis_joins prelude parts e begins h =
    subst (λ l. HasParts prelude (map part_of (take 1 l)) e) (sym begins.1) (record { core = core.standard_basis ∷ []; parts_are = refl; lawful = (tt, tt); elaborated = h })

-- a source is joined
source_joins : (prelude : Decs) (parts : List Part) (ds : Decs) (e e' : Elaborating) → broken_in ds ≡ []
    → ((prelude : Decs) (parts : List core.Part) → HasElaborated prelude parts e → HasElaborated prelude (parts ++ core.source ds ∷ []) e')
    → HasParts prelude parts e → HasParts prelude (parts ++ source ds ∷ []) e'
source_joins prelude parts ds e e' lawful joins h = record {
  core = h.core ++ core.source ds ∷ [];
  parts_are = ap (λ l. l ++ source ds ∷ []) h.parts_are ∙ sym (map-append part_of_core h.core (core.source ds ∷ []));
  lawful = each-append IsLawful h.core (core.source ds ∷ []) h.lawful (lawful, tt);
  elaborated = joins prelude h.core h.elaborated;
}

pub joins_if : {T E : Type 0} (r : Result T E) (part : Part) (ds : Decs) (e e' : Elaborating) → part ≡ source ds → IfOk r (λ _. broken_in ds ≡ [])
    → IfOk r (λ _. (prelude : Decs) (parts : List core.Part) → HasElaborated prelude parts e → HasElaborated prelude (parts ++ core.source ds ∷ []) e')
    → IfOk r (λ _. (prelude : Decs) (parts : List Part) → HasParts prelude parts e → HasParts prelude (parts ++ part ∷ []) e')
joins_if (Ok x) part ds e e' is lawful h = λ prelude parts p. subst (λ q. HasParts prelude (parts ++ q ∷ []) e') (sym is) (source_joins prelude parts ds e e' lawful h p)
joins_if (Err x) part ds e e' is lawful h = tt

-- an Err says nothing of Ok
pub no-ok : {T E : Type 0} (P : E → Type 0) (Q : T → Type 0) (r : Result T E) → IsErrAnd r P → IfOk r Q
no-ok P Q (Ok x) h = absurd h
no-ok P Q (Err x) h = tt
