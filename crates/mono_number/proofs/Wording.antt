-- Words that become words, one for one.
use Rattle.std.proofs.Common.{◌≡◌, ℕ, suc, List, ◌∷◌, Option, sym, ap, subst}
use Rattle.std.specs.Option.{option_map}
use Rattle.ty_core.specs.Types.{Typ}
use Rattle.ty_table.specs.TypeAt.{type_at}
use Rattle.ir_mono.specs.Types as table
use Rattle.monomorphise.specs.Number.{given, number_argument}
use Rattle.mono_read.specs.of_mono_state.Seen.{Held, name_in}
use Rattle.mono_read.specs.of_mono_state.declared.word.Word.{Word}
use Rattle.mono_read.specs.of_mono_state.declared.word.Word.TheVariants as word
use Rattle.mono_read.specs.Words.{exception_sign}
use Rattle.mono_number.specs.Walking.{at}
use Rattle.mono_number.specs.Moves.{AreNumbers, given_in, IsNumbered}

module _ (limit : ℕ) (known : ℕ → Option ℕ) (names : List (ℕ × ℕ)) (next : ℕ) where
  abbrev pub Is : Word → Word → Type 0
  Is = IsNumbered limit known names next

  pub at-word : (w v m : Word) → w ≡ v → Is v m → Is w m
  at-word w v m e h = subst (λ w. Is w m) (sym e) h

  pub num-exception : (n i : ℕ) (t u : Option ℕ) → ((types : List table.Row) (index : Typ → ℕ) (H : Held) → AreNumbers limit known H index → number_argument types index (option_map (type_at H.types) t) ≡ u) → Is (word.Exception n i t) (word.Exception next i u)
  num-exception n i t u f types index strings H N ws fr go = ap (λ u. exception_sign next i u ∷ go (at (given (name_in H n) next (given_in H names)) (suc next) fr)) (f types index H N)
