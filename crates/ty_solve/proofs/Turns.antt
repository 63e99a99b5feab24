-- One table of types for another that is the same.
use Rattle.std.proofs.Common.{◌≡◌, ℕ, List, [], ◌∷◌, length, Option, Some, None, MatchOption, IfSome, Result, Ok, Err, IfOk, IfErr, refl, subst, sym}
use Rattle.ty_table.specs.of_ty_core.Types.{Typ}
use Rattle.ty_solve.specs.Held.{AreHeld}
use Rattle.ty_solve.specs.Substitution.{Entry}
use Rattle.ty_solve.specs.Weight.{AreBelow, IsAcyclic, AreInhabited}
use Rattle.ty_solve.specs.Solve.{IsCause, IsEarlyCause}
use Rattle.ty_solve.specs.declared.refused.UnifyRefused.{UnifyRefused}
use Rattle.ty_solve.specs.declared.refused.UnifyRefused.TheVariants.{Clash, Circular, Large, Memory}
use Rattle.std.specs.Option.{option_map}
use Rattle.ty_solve.specs.SlotsOf.{seen, entries, tasks_of, write_of}
use Rattle.ty_solve.specs.Tasks.{Comes}
use Rattle.ty_solve.specs.declared.subst.Slot.{Slot}
use Rattle.ty_solve.specs.declared.task.Todo.{Todo}
use Rattle.ty_solve.specs.declared.task.Move.{Move}

pub comes-in : (t u : List Typ) → t ≡ u → (os : List Slot) (old new : List Todo) (w : Option Move) → Comes (length (entries t os)) (seen t os) (tasks_of t old) (tasks_of t new) (option_map (write_of t) w) → Comes (length (entries u os)) (seen u os) (tasks_of u old) (tasks_of u new) (option_map (write_of u) w)
comes-in t u e os old new w h = subst (λ (x : List Typ). Comes (length (entries x os)) (seen x os) (tasks_of x old) (tasks_of x new) (option_map (write_of x) w)) e h

pub ok-at : {A X E : Type 0} (P : A → Type 0) (r : Result X E) (a : A) → IfOk r (λ _. (x : A) → P x) → IfOk r (λ _. P a)
ok-at P (Ok x) a h = h a
ok-at P (Err e) a h = h

pub early : (s : ℕ → Entry) (a b : Typ) (e : UnifyRefused) → IsEarlyCause s a b e → IsCause s a b e
early s a b Clash h = h
early s a b Circular h = h
early s a b Large h = absurd h
early s a b Memory h = tt

pub ok-all : {X E : Type 0} (P : Type 0) (r : Result X E) → P → IfOk r (λ _. P)
ok-all P (Ok x) h = h
ok-all P (Err e) h = tt

pub record IsKept (u : List Typ) (os : List Slot) : Type 0 where
  pub held : AreHeld (length u) os
  pub below : AreBelow (length os) (seen u os)
  pub acyclic : IsAcyclic (seen u os)
  pub inhabited : AreInhabited (seen u os)

pub put-back : (t u : List Typ) (os ps : List Slot) → u ≡ t → ps ≡ os → AreHeld (length t) os → AreBelow (length os) (seen t os) → IsAcyclic (seen t os) → AreInhabited (seen t os) → IsKept u ps
put-back t u os ps e q h b a i = subst (λ (x : List Typ). IsKept x ps) (sym e) (subst (λ l. IsKept t l) (sym q) (record { held = h; below = b; acyclic = a; inhabited = i }))

pub ok-then : {X E : Type 0} (P Q : Type 0) (r : Result X E) → (P → Q) → IfOk r (λ _. P) → IfOk r (λ _. Q)
ok-then P Q (Ok x) g h = g h
ok-then P Q (Err e) g h = tt

pub err-then : {X E : Type 0} (P Q : E → Type 0) (r : Result X E) → ((e : E) → P e → Q e) → IfErr r P → IfErr r Q
err-then P Q (Ok x) g h = tt
err-then P Q (Err e) g h = g e h

pub none-left : {X : Type 0} (l : List X) → length l ≡ 0 → l ≡ []
none-left [] e = refl
none-left (x ∷ l) e = cc

pub some-of : {X : Type 0} (P : Type 0) (Q : X → Type 0) (o : Option X) (x : X) → o ≡ Some x → MatchOption o P Q → Q x
some-of P Q o x e h = subst (λ z. MatchOption z P Q) e h

pub some-in : {X : Type 0} (Q : X → Type 0) (o : Option X) (x : X) → o ≡ Some x → IfSome o Q → Q x
some-in Q o x e h = subst (λ z. IfSome z Q) e h

pub none-of : {X : Type 0} (P : Type 0) (Q : X → Type 0) (o : Option X) → o ≡ None → MatchOption o P Q → P
none-of P Q o e h = subst (λ z. MatchOption z P Q) e h

pub ok-such : {X E : Type 0} (P Q : X → Type 0) (r : Result X E) → ((x : X) → P x → Q x) → IfOk r P → IfOk r Q
ok-such P Q (Ok x) g h = g x h
ok-such P Q (Err e) g h = tt
