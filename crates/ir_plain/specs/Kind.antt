-- What a form of the plain-order tree fills in.
use Rattle.std.specs.Prelude.{Bool}
use Rattle.ir_values.specs.Tags.{Tagging}

-- how variables are bound and used, and whether a use is of a binder; types; what a binding is generalised over; and what values keep of a type
pub record Kind : Type 1 where
  pub Binder : Type 0
  pub Use : Type 0
  pub Type_of : Type 0
  pub Params_of : Type 0
  pub is_of : Use → Binder → Bool
  pub tags : Tagging
  pub tag_of : Type_of → tags.Tag
