-- What comes of a walk is what the definition makes.
use Rattle.std.proofs.Common.{◌≡◌, ◌<◌, ◌≤◌, ◌+◌, ◌-◌, ℕ, true, false, List, [], length, Option, Some, None, option_map, nat_lt, if◌then◌else◌, refl, sym, ap, ap₂, ◌∙◌, arith}
use Rattle.std.proofs.lemmas.Bool.{le-ltb, lt-ltb}
use Rattle.ty_core.specs.Types.{Typ}
use Rattle.ir_plain.specs.Tree.{Exp}
use Rattle.ir_plain.specs.Weight.{weight}
use Rattle.ir_poly.specs.Tests.{Tests}
use Rattle.ir_poly.specs.Types.{Constructor}
use Rattle.ir_poly.specs.WellFormed as tests
use Rattle.ir_poly.specs.WellFormed.{table_of, meaning_of_tests, IsTests}
use Rattle.ir_mono.specs.Mono.{Program}
use Rattle.ir_mono.specs.Types.{Row}
use Rattle.monomorphise.specs.Counting.{expansion_within, greatest_expansion, needed_within}
use Rattle.monomorphise.specs.Expansion.{compared}
use Rattle.monomorphise.specs.Laws.{monomorphise, monomorphised}
use Rattle.monomorphise.specs.Monomorphise.{Named, is_same, copies}
use Rattle.monomorphise.specs.Number.{none_given, number}
use Rattle.monomorphise.specs.Table.{number_in, enter_all, first_types, types_for}
use Rattle.mono_bound.specs.Reads.{mono_of}
use Rattle.mono_words.specs.Words.{Sign, spell}
use Rattle.mono_enter.specs.of_mono_state.Seen.{Held, name_in}
use Rattle.mono_enter.specs.Entering.{HaveNumbers}
use Rattle.mono_enter.specs.Laws.{WordsAreWanted}
use Rattle.mono_enter.specs.Scanning.{around, scan}
use Rattle.mono_enter.specs.Walked.{Texts}
use Rattle.mono_number.specs.Moves.{AreNumbers}
use Rattle.mono_pass.specs.Made.{IsMade}
use Rattle.mono_pass.specs.declared.make.Made.{Made}

-- How many nodes there are.

counted-all : (nodes : ℕ) (o : Option (List Typ)) → option_map (λ (ts : List Typ). nodes + length ts) o ≡ option_map (λ k. nodes + k) (option_map length o)
counted-all nodes None = refl
counted-all nodes (Some ts) = refl

pub expanded : (limit : ℕ) (constructors : List Constructor) (e : Exp Named) (nodes room : ℕ) (roots : List Typ) (found : Option ℕ) → nodes ≤ limit → room ≡ limit - nodes → found ≡ option_map length (needed_within constructors room [] roots) → roots ≡ compared e → nodes ≡ weight e
    → expansion_within limit constructors e ≡ option_map (λ k. nodes + k) found
expanded limit constructors e nodes room roots found few r is c n =
    sym (ap₂ (λ w rs. if nat_lt limit w then None else option_map (λ (ts : List Typ). w + length ts) (needed_within constructors (limit - w) [] rs)) n c)
    ∙ ap (λ b. if b then None else option_map (λ (ts : List Typ). nodes + length ts) (needed_within constructors (limit - nodes) [] roots)) (le-ltb limit nodes few)
    ∙ counted-all nodes (needed_within constructors (limit - nodes) [] roots)
    ∙ ap (λ k. option_map (λ j. nodes + j) (option_map length (needed_within constructors k [] roots))) (sym r)
    ∙ ap (option_map (λ k. nodes + k)) (sym is)

pub heavy : (limit : ℕ) (constructors : List Constructor) (e : Exp Named) → limit < weight e → expansion_within limit constructors e ≡ None
heavy limit constructors e lt =
    ap (λ b. if b then None else option_map (λ (ts : List Typ). weight e + length ts) (needed_within constructors (limit - weight e) [] (compared e))) (lt-ltb limit (weight e) lt)

-- Types, and numbers.

pub types-made : (constructors : List Constructor) (first final : List Row) (ws : List Sign) (e : Exp Named) → first ≡ first_types → WordsAreWanted → enter_all constructors first (scan ws (around [] [] false)) ≡ final → ws ≡ spell e []
    → final ≡ types_for constructors e
types-made constructors first final ws e f w h s =
    sym h ∙ ap₂ (λ t ws. enter_all constructors t (scan ws (around [] [] false))) f s ∙ ap (enter_all constructors first_types) (w e)

pub are-numbers : (limit : ℕ) (known : ℕ → Option ℕ) (H : Held) (types : List Row) → limit ≡ length H.copies
    → ((n m : ℕ) → n < length H.copies → m < length H.copies → is_same (name_in H n) (name_in H m) ≡ true → n ≡ m) → HaveNumbers H.types known types → AreNumbers limit known H (number_in types)
are-numbers limit known H types l apart h = record {
  distinct = λ n m p q. apart n m (omega (arith, l, p)) (omega (arith, l, q));
  indexed = h;
}

pub is-made : (held constructors : List Constructor) (strings : Texts) (e : Exp Named) (m : Made) → held ≡ constructors → m.types ≡ types_for held e → expansion_within greatest_expansion held e ≡ Some m.expansion
    → mono_of m.types strings m.body ≡ number m.types (number_in m.types) none_given 0 e → IsMade constructors strings e m
is-made held constructors strings e m same t x b = record {
  types = t ∙ ap (λ c. types_for c e) same;
  expansion = ap (λ c. expansion_within greatest_expansion c e) (sym same) ∙ x;
  body = b;
}

-- The program.

module _ (p : tests.Program Tests) (strings : Texts) (m : Made) (made : IsMade (table_of p) strings (copies p.body) m) where
  abbrev made_program : Program
  made_program = record { initial = p.initial; types = m.types; expansion = m.expansion; body = mono_of m.types strings m.body }

  pub same-program : made_program ≡ monomorphised p m.expansion
  same-program =
      ap (λ b. record { initial = p.initial; types = m.types; expansion = m.expansion; body = b }) made.body
      ∙ ap (λ t. record { initial = p.initial; types = t; expansion = m.expansion; body = number t (number_in t) none_given 0 (copies p.body) }) made.types

  pub program-made : monomorphise p ≡ Some made_program
  program-made = ap (option_map (monomorphised p)) made.expansion ∙ ap Some (sym same-program)
