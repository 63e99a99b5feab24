-- The constructors that derived forms name, one by one.
use Rattle.std.proofs.Common.{◌≡◌, ℕ, Bool, true, false, ◌&&◌, List, [], ◌∷◌, Option, Some, None, nat_eq, if◌then◌else◌, ap, ◌∙◌}
use Rattle.std.specs.Option.{option_map}
use Rattle.ty_core.specs.Types.{Typ, var}
use Rattle.ty_core.specs.declared.name.TyName.{TyName}
use Rattle.prog_check.specs.of_ir_values.Values.{true_number, false_number, nil_number, cons_number}
use Rattle.ir_known.specs.of_ir_poly.Types.{Constructor, constructor_of, initial_constructors, find, bool_name, list_name, list_type, pair_type}
use Rattle.ir_uses.specs.Rows.{kind_of}

abbrev cell : Option Typ
cell = Some (pair_type (var 0) (list_type (var 0)))

abbrev from_cons : List Constructor
from_cons = constructor_of list_name cons_number cell ∷ []

abbrev from_nil : List Constructor
from_nil = constructor_of list_name nil_number None ∷ from_cons

abbrev from_true : List Constructor
from_true = constructor_of bool_name true_number None ∷ from_nil

module _ (y : TyName) (n : ℕ) where
  -- whether these are the numbers of a constructor
  abbrev pub is_at : ℕ → ℕ → Bool
  is_at s c = nat_eq s y.stamp && nat_eq c n

  pub initial-false : is_at 6 12 ≡ true → option_map kind_of (find initial_constructors y n) ≡ Some (bool_name, None)
  initial-false e = ap (λ b. option_map kind_of (if b then Some (constructor_of bool_name false_number None) else find from_true y n)) e

  past-false : is_at 6 12 ≡ false → option_map kind_of (find initial_constructors y n) ≡ option_map kind_of (find from_true y n)
  past-false e = ap (λ b. option_map kind_of (if b then Some (constructor_of bool_name false_number None) else find from_true y n)) e

  past-true : is_at 6 11 ≡ false → option_map kind_of (find from_true y n) ≡ option_map kind_of (find from_nil y n)
  past-true e = ap (λ b. option_map kind_of (if b then Some (constructor_of bool_name true_number None) else find from_nil y n)) e

  past-nil : is_at 7 13 ≡ false → option_map kind_of (find from_nil y n) ≡ option_map kind_of (find from_cons y n)
  past-nil e = ap (λ b. option_map kind_of (if b then Some (constructor_of list_name nil_number None) else find from_cons y n)) e

  pub initial-true : is_at 6 12 ≡ false → is_at 6 11 ≡ true → option_map kind_of (find initial_constructors y n) ≡ Some (bool_name, None)
  initial-true e f = past-false e ∙ ap (λ b. option_map kind_of (if b then Some (constructor_of bool_name true_number None) else find from_nil y n)) f

  pub initial-nil : is_at 6 12 ≡ false → is_at 6 11 ≡ false → is_at 7 13 ≡ true → option_map kind_of (find initial_constructors y n) ≡ Some (list_name, None)
  initial-nil e f g = past-false e ∙ past-true f ∙ ap (λ b. option_map kind_of (if b then Some (constructor_of list_name nil_number None) else find from_cons y n)) g

  pub initial-cons : is_at 6 12 ≡ false → is_at 6 11 ≡ false → is_at 7 13 ≡ false → is_at 7 14 ≡ true → option_map kind_of (find initial_constructors y n) ≡ Some (list_name, cell)
  initial-cons e f g h = past-false e ∙ past-true f ∙ past-nil g ∙ ap (λ b. option_map kind_of (if b then Some (constructor_of list_name cons_number cell) else None)) h

  pub initial-none : is_at 6 12 ≡ false → is_at 6 11 ≡ false → is_at 7 13 ≡ false → is_at 7 14 ≡ false → option_map kind_of (find initial_constructors y n) ≡ None
  initial-none e f g h = past-false e ∙ past-true f ∙ past-nil g ∙ ap (λ b. option_map kind_of (if b then Some (constructor_of list_name cons_number cell) else None)) h
