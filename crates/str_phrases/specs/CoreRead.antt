-- What was read of declarations of the core and of expressions at a source's top, against the reading function's answer.
use Rattle.std.specs.Prelude.{ℕ, zero, suc, ◌≡◌, ◌≤◌, ◌<◌, List, [], ◌∷◌, length, Option, Some, None, if◌then◌else◌}
use Rattle.mlc_names.specs.declared.token.Token.{Token}
use Rattle.sml_tree.specs.Terminal.{Terminal}
use Rattle.sml_tree.specs.Fixity.{Fixity}
use Rattle.sml_tree.specs.Levels.{after_dec}
use Rattle.sml_tree.specs.Bare.{bare_dec, is_directive}
use Rattle.sml_tree.specs.BareTree as bare
use Rattle.sml_tree.specs.Depth.{depth, depth_dec}
use Rattle.sml_tree.specs.ReadTree.{Dec, Exp}
use Rattle.sml_grammar.specs.Answer.{Read, deep}
use Rattle.sml_grammar.specs.Expressions.{DecsReader, readers}
use Rattle.module_tree.specs.ModuleBare.{bare_it}
use Rattle.phrase_base.specs.declared.source.Source.{Source}
use Rattle.phrase_base.specs.Left.{left}
use Rattle.phrase_base.specs.TypesRead.{IsOne}

-- the reader of the declarations in a `local`, where phrases are at most n deep
abbrev pub inner_core : ℕ → DecsReader
inner_core zero = λ f i. deep
inner_core (suc n) = (readers n).decs

-- directives leave nothing
abbrev pub core_item : {D : Type 0} → (D → bare.Dec) → Option D → List bare.Dec
core_item of None = []
core_item of (Some d) = of d ∷ []

abbrev pub bare_core : ℕ → Dec → List bare.Dec
bare_core f d = if is_directive d then [] else bare_dec f d ∷ []

-- a declaration of the core; f' are the fixities after it
pub record IsCoreDec {D : Type 0} (of : D → bare.Dec) (f f' : Fixity) (s : Source) (n : ℕ) (i : List Terminal) (d : Option D) (e : ℕ) (o : List Token)
    (got : Read Dec) : Type 0 where
  pub rest : left s o ≡ got.rest
  pub same : core_item of d ≡ bare_core s.file got.tree
  pub depth : e ≡ depth_dec got.tree
  pub fits : depth_dec got.tree ≤ n
  pub shorter : length got.rest < length i
  pub force : f' ≡ after_dec f got.tree

-- an expression at a source's top is bound to the identifier that `it` names
abbrev pub IsIt : {D : Type 0} → (D → bare.Dec) → ℕ → Source → ℕ → List Terminal → D → ℕ → List Token → Read Exp → Type 0
IsIt of it s n i d e o got = IsOne of (bare_it it s.file) depth s n i d e o got
