-- Types that may be there: `: ty` and `of ty`.
use Rattle.std.proofs.Common.{◌≡◌, ℕ, suc, ◌≤◌, ◌<◌, List, length, Option, Some, None, false, inl, inr, refl, subst, arith}
use Rattle.mlc_names.specs.declared.token.Reserved.{Reserved}
use Rattle.mlc_names.specs.declared.token.Reserved.TheVariants as res
use Rattle.sml_tree.specs.Terminal.{Terminal}
use Rattle.sml_tree.specs.ReadTree.{Ty}
use Rattle.sml_tree.specs.Depth.{depth_some}
use Rattle.sml_tree.specs.Grammar.{ReadsTy, MaybeTy, without_ty, with_ty, MaybeOf, without_of, with_of}
use Rattle.sml_grammar.specs.Answer.{Read, ok, deep, read}
use Rattle.sml_grammar.specs.Terminals.{after_word}
use Rattle.sml_grammar.specs.Types.{read_ty, maybe_ty, ty_could_go_on}
use Rattle.sml_grammar.specs.PartialTypes.{OpensTy}
use Rattle.sml_grammar.proofs.Answers.{got, then_ok, then_deep, not_deep, Settled, fits, over, settled-fits}
use Rattle.sml_grammar.proofs.Words.{WordAt, at_word, AfterWord, found, absent, after-is, word-found}
use Rattle.sml_grammar.proofs.TypeShapes.{ty-shorter}
use Rattle.sml_grammar.proofs.TypeSound.{ty-sound}
use Rattle.sml_grammar.proofs.TypeComplete.{ty-settled}
use Rattle.sml_grammar.proofs.TypePaths.{ty-opens}
use Rattle.sml_grammar.proofs.TypeFar.{ty-far}
use Rattle.sml_grammar.proofs.TypeOver.{ty-over}

-- neither a type after the word w, nor the type that is there, could go on with these terminals
abbrev pub MaybeStops : Reserved → Option Ty → List Terminal → Type 0
MaybeStops w None o = after_word w o ≡ None
MaybeStops w (Some t) o = ty_could_go_on 0 o ≡ false

-- the grammar's [: ty] and [of ty], for any word
pub data MaybeAfter (w : Reserved) : List Terminal → Option Ty → List Terminal → Type 0 where
  without : {o : List Terminal} → MaybeAfter w o None o
  with_it : {i m o : List Terminal} {t : Ty} → WordAt w i m → ReadsTy m t o → MaybeAfter w i (Some t) o

pub record GoodMaybe (n : ℕ) (w : Reserved) (i : List Terminal) (y : Read (Option Ty)) : Type 0 where
  pub reads : MaybeAfter w i y.tree y.rest
  pub stops : MaybeStops w y.tree y.rest
  pub fits : depth_some y.tree ≤ n

pub maybe-sound : (n : ℕ) (w : Reserved) (i : List Terminal) (y : Read (Option Ty)) → maybe_ty n (after_word w i) i ≡ ok y → GoodMaybe n w i y
maybe-sound n w i y h = go (after-is w i) h
  where
    go : {i : List Terminal} {v : Option (List Terminal)} → AfterWord w i v → maybe_ty n v i ≡ ok y → GoodMaybe n w i y
    go {i} (found {o} p) h =
        let u = then_ok (read_ty n 0 o) (λ t o. read (Some t) o) y h in
        let g = ty-sound n 0 o u.0 (omega arith) u.1 in
        subst (λ (z : Read (Option Ty)). GoodMaybe n w i z) (got u.2) (record { reads = with_it (at_word p) g.reads; stops = g.stops; fits = g.fits })
    go {i} (absent e) h = subst (λ (z : Read (Option Ty)). GoodMaybe n w i z) (got h) (record { reads = without; stops = e; fits = omega arith })

pub maybe-settled : (n : ℕ) {w : Reserved} {i o : List Terminal} {t : Option Ty} → MaybeAfter w i t o → MaybeStops w t o → Settled (maybe_ty n (after_word w i) i) n (depth_some t) t o
maybe-settled n without st = fits (omega arith) (rw st refl)
maybe-settled n (with_it {m} {o} {t} at d) st =
    let e = word-found at in
    elim (ty-settled n 0 m o t d (omega arith) st) [
      | fits le h ↦ fits le (rw (e, h) refl)
      | over lt h ↦ over lt (rw (e, h) refl)
    ]

pub maybe-complete : (n : ℕ) {w : Reserved} {i o : List Terminal} {t : Option Ty} → MaybeAfter w i t o → depth_some t ≤ n → MaybeStops w t o → maybe_ty n (after_word w i) i ≡ read t o
maybe-complete n d le st = settled-fits (maybe-settled n d st) le

pub maybe-far : (n : ℕ) (w : Reserved) (i : List Terminal) → maybe_ty n (after_word w i) i ≡ deep → (m : List Terminal) × WordAt w i m × OpensTy 0 m (suc n)
maybe-far n w i h = go (after-is w i) h
  where
    go : {i : List Terminal} {v : Option (List Terminal)} → AfterWord w i v → maybe_ty n v i ≡ deep → (m : List Terminal) × WordAt w i m × OpensTy 0 m (suc n)
    go (found {o} p) h = elim (then_deep (read_ty n 0 o) (λ t o. read (Some t) o) h) [ inl e ↦ (o, at_word p, ty-far n 0 o (omega arith) e) | inr u ↦ not_deep u.2 ]
    go (absent e) h = not_deep h

pub maybe-over : (n : ℕ) {w : Reserved} {i m : List Terminal} {d : ℕ} → WordAt w i m → OpensTy 0 m d → n < d → maybe_ty n (after_word w i) i ≡ deep
maybe-over n at o lt = let e = word-found at in let h = ty-over n 0 o lt in rw (e, h) refl

pub maybe-shorter : {w : Reserved} {i o : List Terminal} {t : Option Ty} → MaybeAfter w i t o → length o ≤ length i
maybe-shorter without = omega arith
maybe-shorter (with_it (at_word p) d) = let h = ty-shorter d in omega arith

pub maybe-opens : {w : Reserved} {i o : List Terminal} {t : Option Ty} → MaybeAfter w i t o → (k : ℕ) → 0 < k → k ≤ depth_some t → (m : List Terminal) × WordAt w i m × OpensTy 0 m k
maybe-opens without k pos le = absurd (omega arith)
maybe-opens (with_it {m} at d) k pos le = (m, at, ty-opens d (omega arith) k pos le)

-- the grammar's relations

pub colon-of : {i o : List Terminal} {t : Option Ty} → MaybeAfter res.Colon i t o → MaybeTy i t o
colon-of without = without_ty
colon-of (with_it (at_word p) d) = with_ty p d

pub of-colon : {i o : List Terminal} {t : Option Ty} → MaybeTy i t o → MaybeAfter res.Colon i t o
of-colon without_ty = without
of-colon (with_ty p d) = with_it (at_word p) d

pub of-of : {i o : List Terminal} {t : Option Ty} → MaybeAfter res.Of i t o → MaybeOf i t o
of-of without = without_of
of-of (with_it (at_word p) d) = with_of p d

pub after-of : {i o : List Terminal} {t : Option Ty} → MaybeOf i t o → MaybeAfter res.Of i t o
after-of without_of = without
after-of (with_of p d) = with_it (at_word p) d

pub record GoodColon (n : ℕ) (i : List Terminal) (y : Read (Option Ty)) : Type 0 where
  pub reads : MaybeTy i y.tree y.rest
  pub stops : MaybeStops res.Colon y.tree y.rest
  pub fits : depth_some y.tree ≤ n

pub colon-sound : (n : ℕ) (i : List Terminal) (y : Read (Option Ty)) → maybe_ty n (after_word res.Colon i) i ≡ ok y → GoodColon n i y
colon-sound n i y h = let g = maybe-sound n res.Colon i y h in record { reads = colon-of g.reads; stops = g.stops; fits = g.fits }

pub colon-complete : (n : ℕ) {i o : List Terminal} {t : Option Ty} → MaybeTy i t o → depth_some t ≤ n → MaybeStops res.Colon t o → maybe_ty n (after_word res.Colon i) i ≡ read t o
colon-complete n d le st = maybe-complete n (of-colon d) le st

pub colon-shorter : {i o : List Terminal} {t : Option Ty} → MaybeTy i t o → length o ≤ length i
colon-shorter d = maybe-shorter (of-colon d)

pub record GoodOf (n : ℕ) (i : List Terminal) (y : Read (Option Ty)) : Type 0 where
  pub reads : MaybeOf i y.tree y.rest
  pub stops : MaybeStops res.Of y.tree y.rest
  pub fits : depth_some y.tree ≤ n

pub of-sound : (n : ℕ) (i : List Terminal) (y : Read (Option Ty)) → maybe_ty n (after_word res.Of i) i ≡ ok y → GoodOf n i y
of-sound n i y h = let g = maybe-sound n res.Of i y h in record { reads = of-of g.reads; stops = g.stops; fits = g.fits }

pub of-complete : (n : ℕ) {i o : List Terminal} {t : Option Ty} → MaybeOf i t o → depth_some t ≤ n → MaybeStops res.Of t o → maybe_ty n (after_word res.Of i) i ≡ read t o
of-complete n d le st = maybe-complete n (after-of d) le st

pub of-shorter : {i o : List Terminal} {t : Option Ty} → MaybeOf i t o → length o ≤ length i
of-shorter d = maybe-shorter (after-of d)
