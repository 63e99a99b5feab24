-- An answer in one way of speaking, from the answer in another.
use Rattle.std.proofs.Common.{◌≡◌, ◌↔◌, ℕ, Bool, true, false, List, IsTrue, refl, sym, ◌∙◌}
use Rattle.ty_core.specs.Types.{Typ}
use Rattle.ir_known.specs.of_ir_poly.Types.{of_name, int_name, word_name, char_name, string_name}
use Rattle.ir_known.specs.of_ir_poly.TestsChecked.{HasLiteral}
use Rattle.ir_known.specs.of_ir_tables.declared.tables.Constant.{Constant}
use Rattle.ir_known.specs.of_ir_tables.declared.tables.Constant.TheVariants as constant
use Rattle.ir_known.specs.of_ir_tables.Tables.{literal_at}
use Rattle.prog_check.specs.Same.{same_type}
use Rattle.prog_check.specs.Deciding.{is_literal}
use Rattle.prog_check.proofs.SameLemmas.{type-same, same-since}
use Rattle.prog_check.proofs.DecidingLemmas.{literal-sound, literal-complete}
use Rattle.ir_uses.specs.Uses.{name_of}

-- two answers that are answer under the same condition are one
pub as-decided : {P : Type 0} (b c : Bool) → IsTrue b ↔ P → (c ≡ true → P) → (P → c ≡ true) → b ≡ c
as-decided true true w f g = refl
as-decided true false w f g = absurd (let e : false ≡ true = g (w.0 refl) in cc)
as-decided false true w f g = absurd (let e : false ≡ true = w.1 (f refl) in cc)
as-decided false false w f g = refl

-- and back
pub from-decided : {P : Type 0} (b c : Bool) → b ≡ c → (c ≡ true → P) → (P → c ≡ true) → IsTrue b ↔ P
from-decided b c e f g = ((λ y. f (sym e ∙ y)), (λ p. e ∙ g p))

pub same-decided : (b : Bool) (t u : Typ) → IsTrue b ↔ (t ≡ u) → b ≡ same_type t u
same-decided b t u w = as-decided b (same_type t u) w (type-same t u) same-since

-- Constants

pub literal-decided : (ss : List (List ℕ)) (k : Constant) (t : Typ) (b : Bool) → IsTrue b ↔ (t ≡ of_name (name_of k)) → b ≡ is_literal (literal_at ss k) t
literal-decided ss (constant.Int z) t b w = same-decided b t (of_name int_name) w
literal-decided ss (constant.Word n) t b w = same-decided b t (of_name word_name) w
literal-decided ss (constant.Char n) t b w = same-decided b t (of_name char_name) w
literal-decided ss (constant.Text k) t b w = same-decided b t (of_name string_name) w

pub literal-fits : (ss : List (List ℕ)) (k : Constant) (t : Typ) (b : Bool) → IsTrue b ↔ (t ≡ of_name (name_of k)) → IsTrue b ↔ HasLiteral (literal_at ss k) t
literal-fits ss k t b w = from-decided b (is_literal (literal_at ss k) t) (literal-decided ss k t b w) (literal-sound (literal_at ss k) t) literal-complete
