-- The arms of a step, over what it answers.
use Rattle.std.proofs.Common.{◌≡◌, ◌<◌, ◌≤◌, ℕ, zero, suc, List, [], ◌∷◌, ◌++◌, length, map, take, get_or, Option, Result, Ok, Err, IfOk, IfErr, refl, sym, ap, subst, arith}
use Rattle.ty_table.specs.of_ty_core.Types.{Typ, var}
use Rattle.ty_table.specs.of_ty_core.declared.mark.Mark.{Mark}
use Rattle.ty_table.specs.TypeAt.{type_at, types_at}
use Rattle.ty_solve.specs.Substitution.{Entry}
use Rattle.ty_solve.specs.Task.{Task, Equal, Admit, Write}
use Rattle.ty_solve.specs.Finding.{Reads}
use Rattle.ty_solve.specs.Forces.{Beside}
use Rattle.ty_solve.specs.Tasks.{Steps, RefusesTask}
use Rattle.ty_solve.specs.declared.refused.UnifyRefused.{UnifyRefused}
use Rattle.ty_solve.proofs.StepArms.{steps-along, refuses-along, steps-admit-along, refuses-admit-along}

module _ {X : Type 0} (g : X → Option Write) (n : ℕ) (s : ℕ → Entry) (w : ℕ → ℕ) (old new : List Task) where
  pub equal-ok : (a b c d : Typ) (r : Result X UnifyRefused) → Reads n s w a c → Reads n s w b d → IfOk r (λ x. Steps n s w old (Equal c d) new (g x)) → IfOk r (λ x. Steps n s w old (Equal a b) new (g x))
  equal-ok a b c d (Ok x) p q h = steps-along n s w old new (g x) a b c d p q h
  equal-ok a b c d (Err e) p q h = h

  pub equal-err : (a b c d : Typ) (r : Result X UnifyRefused) → Reads n s w a c → Reads n s w b d → IfErr r (RefusesTask s (Equal c d)) → IfErr r (RefusesTask s (Equal a b))
  equal-err a b c d (Ok x) p q h = h
  equal-err a b c d (Err e) p q h = refuses-along n s w a b c d p q e h

  pub admit-ok : (k : Mark) (a c : Typ) (v : ℕ) (r : Result X UnifyRefused) → Reads n s w a c → c ≡ var v → IfOk r (λ x. Steps n s w old (Admit k (var v)) new (g x)) → IfOk r (λ x. Steps n s w old (Admit k a) new (g x))
  admit-ok k a c v (Ok x) p e h = steps-admit-along n s w old new (g x) k a c p (subst (λ t. Steps n s w old (Admit k t) new (g x)) (sym e) h)
  admit-ok k a c v (Err e) p q h = h

  pub admit-err : (k : Mark) (a c : Typ) (v : ℕ) (r : Result X UnifyRefused) → Reads n s w a c → c ≡ var v → IfErr r (RefusesTask s (Admit k (var v))) → IfErr r (RefusesTask s (Admit k a))
  admit-err k a c v (Ok x) p e h = h
  admit-err k a c v (Err e) p q h = refuses-admit-along n s w k a c p e (subst (λ t. RefusesTask s (Admit k t) e) (sym q) h)

  pub admit-applied : (k : Mark) (a c d : Typ) (x : Option Write) → Reads n s w a c → c ≡ d → Steps n s w old (Admit k d) new x → Steps n s w old (Admit k a) new x
  admit-applied k a c d x p e h = steps-admit-along n s w old new x k a c p (subst (λ t. Steps n s w old (Admit k t) new x) (sym e) h)

  pub admit-refused : (k : Mark) (a c d : Typ) (e : UnifyRefused) → Reads n s w a c → c ≡ d → RefusesTask s (Admit k d) e → RefusesTask s (Admit k a) e
  admit-refused k a c d e p q h = refuses-admit-along n s w k a c p e (subst (λ t. RefusesTask s (Admit k t) e) (sym q) h)

pub refuses-task : {X : Type 0} (s : ℕ → Entry) (x y : Task) (r : Result X UnifyRefused) → x ≡ y → IfErr r (RefusesTask s y) → IfErr r (RefusesTask s x)
refuses-task s x y r e h = subst (λ z. IfErr r (RefusesTask s z)) (sym e) h

pub take-next : (ts : List Typ) (l : List ℕ) (i : ℕ) → i < length l → map (type_at ts) (take (suc i) l) ≡ map (type_at ts) (take i l) ++ type_at ts (get_or l i 0) ∷ []
take-next ts [] i h = absurd (omega arith)
take-next ts (k ∷ l) zero h = refl
take-next ts (k ∷ l) (suc i) h = ap (λ m. type_at ts k ∷ m) (take-next ts l i (omega arith))

pub take-full : (l : List ℕ) (n : ℕ) → n ≡ length l → take n l ≡ l
take-full [] zero e = refl
take-full [] (suc n) e = refl
take-full (k ∷ l) zero e = absurd (omega arith)
take-full (k ∷ l) (suc n) e = ap (λ m. k ∷ m) (take-full l n (omega arith))

pub taken : (ts : List Typ) (l : List ℕ) (i : ℕ) → i ≤ length l → length (map (type_at ts) (take i l)) ≡ i
taken ts [] zero h = refl
taken ts [] (suc i) h = absurd (omega arith)
taken ts (k ∷ l) zero h = refl
taken ts (k ∷ l) (suc i) h = ap suc (taken ts l i (omega arith))

pub all-length : (ts : List Typ) (l : List ℕ) → length (map (type_at ts) l) ≡ length l
all-length ts [] = refl
all-length ts (k ∷ l) = ap suc (all-length ts l)

pub beside-at : (ts : List Typ) (l r : List ℕ) (i : ℕ) → i < length l → i < length r → Beside (type_at ts (get_or l i 0)) (type_at ts (get_or r i 0)) (types_at ts l) (types_at ts r)
beside-at ts [] r i h k = absurd (omega arith)
beside-at ts (x ∷ l) [] i h k = absurd (omega arith)
beside-at ts (x ∷ l) (y ∷ r) zero h k = Beside.here _ _ _ _
beside-at ts (x ∷ l) (y ∷ r) (suc i) h k = Beside.later _ _ _ _ _ _ (beside-at ts l r i (omega arith) (omega arith))

pub map-get : (ts : List Typ) (l : List ℕ) (i : ℕ) → i < length l → type_at ts (get_or l i 0) ≡ get_or (map (type_at ts) l) i (type_at ts (get_or l i 0))
map-get ts [] i h = absurd (omega arith)
map-get ts (k ∷ l) zero h = refl
map-get ts (k ∷ l) (suc i) h = map-get ts l i (omega arith)
