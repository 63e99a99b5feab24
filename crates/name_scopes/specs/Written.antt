-- Types whose abbreviations are written out.
use Rattle.std.specs.Prelude.{List}
use Rattle.sml_tree.specs.BareTree as bare
use Rattle.sml_tree.specs.Derived.{expand_ty}
use Rattle.sml_tree.specs.Phrases.{Phrase, ty}
use Rattle.sml_tree.specs.TreeOf.{ty_of}
use Rattle.sml_tree.specs.declared.tree.Ty.{Ty}

abbrev pub written_phrase : List bare.TypeBind → Ty → Phrase
written_phrase bs t = ty (expand_ty bs (ty_of t))
