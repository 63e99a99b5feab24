-- Which declarations are of the core alone, and the directives of fixity that are in force after declarations of structures.
use Rattle.std.specs.Prelude.{Bool, true, false, List, [], ◌∷◌, ◌++◌, ◌&&◌}
use Rattle.sml_tree.specs.declared.fixity.Directive.{Directive}
use Rattle.sml_tree.specs.Fixity.{Fixity}
use Rattle.sml_tree.specs.Levels.{added_by}
use Rattle.module_tree.specs.ReadModules.{StrDecs, no_str_decs, str_dec, StrDec, core_dec, structure_dec, local_str, Top, str_top, signature_top, functor_top, exp_top}

abbrev pub is_core_dec : StrDec → Bool
is_core_dec (core_dec d) = true
is_core_dec (structure_dec p bs) = false
is_core_dec (local_str p ds es) = false

abbrev pub are_core_decs : StrDecs → Bool
are_core_decs no_str_decs = true
are_core_decs (str_dec d ds) = is_core_dec d && are_core_decs ds

-- The directives that are in force because of declarations, the newest first. Those in a `struct` or in a `let` end with it, and those of a `local`'s
-- first part with the `local` (section 2.6, and 3.3 for structures).
abbrev mutual
  pub added_decs : StrDecs → List Directive
  added_decs no_str_decs = []
  added_decs (str_dec d ds) = added_decs ds ++ added_dec d

  pub added_dec : StrDec → List Directive
  added_dec (core_dec d) = added_by d
  added_dec (structure_dec p bs) = []
  added_dec (local_str p ds es) = added_decs es

abbrev pub after_decs : Fixity → StrDecs → Fixity
after_decs f ds = added_decs ds ++ f

abbrev pub after_str_dec : Fixity → StrDec → Fixity
after_str_dec f d = added_dec d ++ f

abbrev pub added_top : Top → List Directive
added_top (str_top d) = added_dec d
added_top (signature_top p bs) = []
added_top (functor_top p bs) = []
added_top (exp_top e) = []

abbrev pub after_top : Fixity → Top → Fixity
after_top f t = added_top t ++ f

-- the fixities after all that a source holds
abbrev pub after_tops : Fixity → List Top → Fixity
after_tops f [] = f
after_tops f (t ∷ ts) = after_tops (after_top f t) ts
