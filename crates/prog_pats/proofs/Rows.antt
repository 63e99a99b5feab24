-- Parts and sizes of records, and arguments of exceptions.
use Rattle.std.proofs.Common.{◌≡◌, ◌↔◌, ℕ, Bool, false, List, [], length, Option, Some, None, nat_lt, if◌then◌else◌, IsTrue, refl, sym, ap, ◌∙◌}
use Rattle.std.specs.Option.{option_map, option_and_then}
use Rattle.mlc_names.specs.declared.label.Label.{Label}
use Rattle.ty_core.specs.Types.{Typ}
use Rattle.ir_poly.specs.Prog.{fixed}
use Rattle.ir_poly.specs.TestsChecked.{is_size}
use Rattle.prog_check.specs.Same.{same_type, same_option}
use Rattle.prog_check.specs.Deciding.{on_row, exc_argument}
use Rattle.prog_check.proofs.SameLemmas.{option-same, same-option-since}
use Rattle.prog_parts.proofs.Truths.{as-decided}

abbrev Row : Type 0
Row = List (Label × Typ)

pub as-option : (b : Bool) (x y : Option Typ) → IsTrue b ↔ (x ≡ y) → b ≡ same_option x y
as-option b x y w = as-decided b (same_option x y) ((λ e. same-option-since (w.0 e)), (λ e. w.1 (option-same x y e)))

module _ (f : Row → Option Typ) (a : Typ) where
  pub part-none : (o : Option Row) → None ≡ option_and_then f o → false ≡ on_row o (λ r. same_option (f r) (Some a))
  part-none None e = refl
  part-none (Some r) e = ap (λ x. same_option x (Some a)) e

  pub part-some : (o : Option Row) (k : Typ) (b : Bool) → Some k ≡ option_and_then f o → b ≡ same_type k a → b ≡ on_row o (λ r. same_option (f r) (Some a))
  part-some None k b e i = absurd (cc)
  part-some (Some r) k b e i = i ∙ ap (λ x. same_option x (Some a)) e

module _ (wanted : Option ℕ) where
  pub size-none : (o : Option Row) → None ≡ option_map length o → false ≡ on_row o (λ r. is_size wanted (length r))
  size-none None e = refl
  size-none (Some r) e = absurd (cc)

  pub size-some : (o : Option Row) (n : ℕ) (b : Bool) → Some n ≡ option_map length o → b ≡ is_size wanted n → b ≡ on_row o (λ r. is_size wanted (length r))
  size-some None n b e i = absurd (cc)
  size-some (Some r) n b e i = let k : n ≡ length r = cc in i ∙ ap (is_size wanted) k

abbrev pub choose : Bool → Option (Option Typ)
choose b = if b then Some None else None

pub initial-is : (n : ℕ) (b c : Bool) → b ≡ nat_lt n 7 → b ≡ c → exc_argument [] (fixed n) ≡ choose c
initial-is n b c e f = ap choose (sym e ∙ f)
