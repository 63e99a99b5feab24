-- What values keep of the types that they were made at.
use Rattle.std.specs.Prelude.{ℕ, Bool, true, Option, Some, ⊤}
use Rattle.mlc_runs.specs.of_mlc_names.declared.label.Label.{Label}
use Rattle.mlc_prims.specs.LitOf.{Literal}

pub record Tagging : Type 1 where
  pub Tag : Type 0
  -- whether what was made at the second may be taken apart at the first
  pub same : Tag → Tag → Bool
  -- what unit and truth values keep
  pub of_unit : Tag
  pub of_bool : Tag
  -- what equality goes down by: whether a type's values are constants as this one, or references; the types of a record's fields and of a constructor's
  -- argument
  pub has_literal : Tag → Literal → Bool
  pub has_references : Tag → Bool
  pub field : Tag → Label → Option Tag
  pub argument : Tag → ℕ → Option Tag

-- nothing is kept
abbrev pub untagged : Tagging
untagged = record {
  Tag = ⊤;
  same = λ a b. true;
  of_unit = tt;
  of_bool = tt;
  has_literal = λ t l. true;
  has_references = λ t. true;
  field = λ t l. Some tt;
  argument = λ t c. Some tt;
}
