-- `of` and a type, where they are written.
use Rattle.std.proofs.Common.{◌≡◌, ℕ, suc, ◌≤◌, ◌<◌, List, ◌∷◌, Option, Some, None, arith, false}
use Rattle.mlc_names.specs.declared.token.Reserved.TheVariants as res
use Rattle.sml_tree.specs.Terminal.{Terminal, reserved}
use Rattle.sml_tree.specs.ReadTree.{Ty}
use Rattle.sml_tree.specs.Depth.{depth_some}
use Rattle.sml_tree.specs.Grammar.{MaybeOf}
use Rattle.sml_grammar.specs.Answer.{Answer, deep, read}
use Rattle.sml_grammar.specs.Terminals.{after_word}
use Rattle.sml_grammar.specs.Types.{maybe_ty, ty_could_go_on}
use Rattle.sml_grammar.specs.PartialTypes.{OpensTy}
use Rattle.sml_grammar.proofs.Words.{WordAt, at_word}
use Rattle.sml_grammar.proofs.MaybeTypes.{MaybeStops, after-of, of-complete, maybe-far, maybe-over, maybe-opens}

abbrev pub read_of : ℕ → List Terminal → Answer (Option Ty)
read_of n i = maybe_ty n (after_word res.Of i) i

-- `of`, and a type after it that is cut off
pub data OpensOf : List Terminal → ℕ → Type 0 where
  in_of : {m : List Terminal} {d : ℕ} (p : ℕ) → OpensTy 0 m d → OpensOf (reserved p res.Of ∷ m) d

opens-of : {i m : List Terminal} {d : ℕ} → WordAt res.Of i m → OpensTy 0 m d → OpensOf i d
opens-of (at_word p) o = in_of p o

both-stop : (s : Option Ty) (o : List Terminal) → after_word res.Of o ≡ None → ty_could_go_on 0 o ≡ false → MaybeStops res.Of s o
both-stop None o e c = e
both-stop (Some a) o e c = c

pub of-read : (n : ℕ) {i o : List Terminal} {s : Option Ty} → MaybeOf i s o → depth_some s ≤ n → after_word res.Of o ≡ None → ty_could_go_on 0 o ≡ false → read_of n i ≡ read s o
of-read n {o} {s} d le e c = of-complete n d le (both-stop s o e c)

pub of-far : (n : ℕ) (i : List Terminal) → read_of n i ≡ deep → OpensOf i (suc n)
of-far n i h = let t = maybe-far n res.Of i h in opens-of t.1 t.2

pub of-over : (n : ℕ) {i : List Terminal} {d : ℕ} → OpensOf i d → n < d → read_of n i ≡ deep
of-over n (in_of p o) lt = maybe-over n {w = res.Of} (at_word p) o lt

pub of-opens : {i o : List Terminal} {s : Option Ty} → MaybeOf i s o → (d : ℕ) → 1 ≤ d → d ≤ depth_some s → OpensOf i d
of-opens m d low le = let t = maybe-opens (after-of m) d low le in opens-of t.1 t.2

-- a whole type that is too deep
pub of-too_deep : (n : ℕ) {i o : List Terminal} {s : Option Ty} → MaybeOf i s o → n < depth_some s → read_of n i ≡ deep
of-too_deep n {s} m lt = of-over n (of-opens m (depth_some s) (omega arith) (omega arith)) lt
