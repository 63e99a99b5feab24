-- The identifiers that patterns bind.
use Rattle.std.specs.Prelude.{◌≡◌, if◌then◌else◌, true, List, [], ◌∷◌, ◌++◌, Option, Some, None}
use Rattle.sml_tree.specs.BareTree as bare
use Rattle.sml_tree.specs.BareTree.{Binds, Pat, PatFields, as_pat, con_pat, no_binds, typed_pat, vid_pat}
use Rattle.sml_tree.specs.declared.ident.Vid.{Vid}
use Rattle.sml_tree.specs.declared.tree.PatPart.{PatPart}
use Rattle.core_rules.specs.Fits.{IsOfValues}
use Rattle.core_rules.specs.Match.{is_variable}
use Rattle.core_rules.specs.Values.{Env, Found, long_value_in}
use Rattle.core_rules.specs.Words.{is_in, same_vid}
use Rattle.name_scopes.specs.Covering.{is_written, variable_in}

-- what is bound where an identifier stands alone
abbrev pub alone_vids : Option Found → Vid → List Vid
alone_vids o x = elim o [ None ↦ x ∷ [] | Some f ↦ if is_variable f.status then x ∷ [] else [] ]

abbrev mutual
  pub pat_vids : Env → Pat → List Vid
  pat_vids e (vid_pat p x) = alone_vids (long_value_in e x) x.vid
  pat_vids e (bare.fields_pat p fs further) = fields_vids e fs
  pat_vids e (con_pat p q x a) = pat_vids e a
  pat_vids e (bare.built_con_pat p b a) = pat_vids e a
  pat_vids e (typed_pat p a t) = pat_vids e a
  pat_vids e (as_pat p x t a) = x ∷ pat_vids e a
  pat_vids e a = []

  pub fields_vids : Env → PatFields → List Vid
  fields_vids e bare.no_pat_fields = []
  fields_vids e (bare.pat_field l a fs) = pat_vids e a ++ fields_vids e fs

abbrev pub binds_vids : Env → Binds → List Vid
binds_vids e no_binds = []
binds_vids e (bare.bind p a b bs) = pat_vids e a ++ binds_vids e bs

-- of a recursive binding, which binds whatever stands alone
abbrev pub each_vids : Pat → List Vid
each_vids (vid_pat p x) = x.vid ∷ []
each_vids (typed_pat p a t) = each_vids a
each_vids (as_pat p x t a) = x ∷ each_vids a
each_vids a = []

abbrev pub rec_vids : Binds → List Vid
rec_vids no_binds = []
rec_vids (bare.bind p a b bs) = each_vids a ++ rec_vids bs

-- a chain of one operand is that operand
abbrev pub chain_vids : List Vid → List PatPart → List Vid
chain_vids vs [] = vs
chain_vids vs (o ∷ os) = []

-- an environment has these identifiers as variables, and nothing else, as far as a program can name it
pub record AreVariables (vs : List Vid) (d : Env) : Type 0 where
  pub values : (x : Vid) → is_written x ≡ true → variable_in d x ≡ (if is_in same_vid x vs then Some true else None)
  pub only : IsOfValues d
