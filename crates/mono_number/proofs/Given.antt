-- What is said of a result that is Ok.
use Rattle.std.proofs.Common.{◌≡◌, Result, Ok, Err, IfOk, sym, subst}

module _ {A E : Type 0} where
  pub ok-is : (P : A → Type 0) (r : Result A E) (a : A) → r ≡ Ok a → P a → IfOk r P
  ok-is P r a e h = subst (λ r. IfOk r P) (sym e) h

  pub err-is : (P : A → Type 0) (r : Result A E) (x : E) → r ≡ Err x → IfOk r P
  err-is P r x e = subst (λ r. IfOk r P) (sym e) tt

  pub if-ok : (P Q : A → Type 0) (r : Result A E) → ((a : A) → P a → Q a) → IfOk r P → IfOk r Q
  if-ok P Q (Ok a) f h = f a h
  if-ok P Q (Err x) f h = tt

  pub ok-at : (P : A → Type 0) (r : Result A E) (a : A) → r ≡ Ok a → IfOk r P → P a
  ok-at P r a e h = subst (λ r. IfOk r P) e h
