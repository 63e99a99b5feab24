-- Types of shapes: what is asked of a primitive's arguments and result.
use Rattle.std.specs.Prelude.{ℕ, Bool, false, ◌&&◌, List, map, length, option_and_then, nat_eq}
use Rattle.mlc_names.specs.declared.label.Label.{Label}
use Rattle.mlc_names.specs.declared.label.Label.TheVariants.{Number}
use Rattle.ty_core.specs.Types.{typs_of}
use Rattle.ir_values.specs.Values.{same_label}
use Rattle.ir_uses.specs.declared.shape.Shape.{Shape}
use Rattle.ir_uses.specs.declared.shape.Arguments.{Arguments}
use Rattle.ir_uses.specs.declared.shape.Arguments.TheVariants as arguments
use Rattle.ir_uses.specs.declared.shape.Signature.{Signature}
use Rattle.ir_uses.specs.Shapes.{shape_type, shapes_of}
use Rattle.ir_mono.specs.Types.{Row, node_at}
use Rattle.mono_fits.specs.Asked.{given, is_record_node, stands, all_stand, tuple_stands}
use Rattle.mono_uses.specs.Nodes.{function_in, one_of, two_of, three_of}

-- labels are those of a tuple of as many
abbrev pub are_numbers : Arguments → List Label → Bool
are_numbers (arguments.One a) ls = false
are_numbers (arguments.Two a b) ls = given (two_of ls) (λ p. same_label p.0 (Number 1) && same_label p.1 (Number 2))
are_numbers (arguments.Three a b c) ls = given (three_of ls) (λ p. same_label p.0 (Number 1) && (same_label p.1 (Number 2) && same_label p.2 (Number 3)))

module _ (types : List Row) where
  abbrev pub is_unit : ℕ → Bool
  is_unit n = given (node_at types n) (is_record_node (λ ls ps. nat_eq (length ls) 0 && nat_eq (length ps) 0))

  abbrev pub is_one : ℕ → List ℕ → Shape → Bool
  is_one u ns a = given (one_of ns) (λ n. stands types u n (shape_type a))

  abbrev pub are_two : ℕ → List ℕ → Shape → Shape → Bool
  are_two u ns a b = given (two_of ns) (λ p. stands types u p.0 (shape_type a) && stands types u p.1 (shape_type b))

  abbrev pub are_three : ℕ → List ℕ → Shape → Shape → Shape → Bool
  are_three u ns a b c =
      given (three_of ns) (λ p. stands types u p.0 (shape_type a) && (stands types u p.1 (shape_type b) && stands types u p.2 (shape_type c)))

  abbrev pub is_labelled : ℕ → ℕ → Arguments → Bool
  is_labelled u n shapes = given (node_at types n) (is_record_node (λ ls ns. are_numbers shapes ls && all_stand types u ns (typs_of (map shape_type (shapes_of shapes)))))

  abbrev pub is_value : ℕ → ℕ → Signature → Bool
  is_value u n s = given (option_and_then function_in (node_at types n))
      (λ p. tuple_stands types u p.0 (map shape_type (shapes_of s.arguments)) && stands types u p.1 (shape_type s.result))
