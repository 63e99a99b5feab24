-- What numbers are in later tables.
use Rattle.std.proofs.Common.{◌≡◌, ℕ, Bool, true, false, List, [], ◌∷◌, length, map, slice_get, None, Some, nat_eq, if◌then◌else◌, refl, sym, ap, subst, ◌∙◌}
use Rattle.std.specs.Map.{lookup}
use Rattle.std.specs.Option.{option_map}
use Rattle.ty_core.specs.Types.{Typ}
use Rattle.ty_core.specs.Statics.{replace}
use Rattle.ty_table.specs.TypeAt.{type_at}
use Rattle.ir_poly.specs.Tests.{inst}
use Rattle.monomorphise.specs.Monomorphise.{copy_of, own_or, used}
use Rattle.mono_names.specs.Numbers.{IsNumbered}
use Rattle.mono_close.specs.Closing.{standing, AreHeld}
use Rattle.mono_close.proofs.Tables.{standing-longer, replace-same, get-longer, type-got}
use Rattle.mono_names.specs.Named.{types_named, name_of}
use Rattle.mono_state.specs.Seen.{Held, Longer, Later, types_in, name_in, groups_in}
use Rattle.mono_state.specs.Going.{IsHeld, OwnHeld}
use Rattle.mono_state.proofs.Growing.{got-longer, got-or, on-longer}

pub name-at : {T U : Held} (n x k : ℕ) → Later T U → slice_get T.copies n ≡ Some (x, k) → name_in U n ≡ copy_of x (types_in U k)
name-at {T = T} {U = U} n x k l g = ap (name_of U.types U.lists) (got-or U.copies n (0, 0) (x, k) (got-longer T.copies U.copies n (x, k) l.longer.copies g))

pub list-at : {T U : Held} (k : ℕ) (ns : List ℕ) → Later T U → slice_get T.lists k ≡ Some ns → types_in U k ≡ types_named U.types ns
list-at {T = T} {U = U} k ns l g = ap (types_named U.types) (got-or U.lists k [] ns (got-longer T.lists U.lists k ns l.longer.lists g))

pub nothing-at : {T U : Held} → Later T U → slice_get T.lists 0 ≡ Some [] → types_in U 0 ≡ []
nothing-at l g = list-at 0 [] l g

pub type-in : {T U : Held} (n : ℕ) (t : Typ) → Later T U → slice_get T.types n ≡ Some t → type_at U.types n ≡ t
type-in {T = T} {U = U} n t l g = type-got U.types n t (get-longer T.types U.types n t l.longer.types g)

-- what variables stand for stays
pub stood : {T U : Held} → Longer T U → (slots : List (ℕ × ℕ)) → AreHeld (length T.types) slots → standing T.types slots ≡ standing U.types slots
stood {T = T} {U = U} g slots h = λ i v. sym (standing-longer T.types U.types slots v g.types h) i

-- a type that was closed
pub closed-in : {T U V : Held} (n : ℕ) (t : Typ) (slots : List (ℕ × ℕ)) → AreHeld (length T.types) slots → Longer T V → Later V U → slice_get V.types n ≡ Some (replace (standing T.types slots) t)
    → type_at U.types n ≡ replace (standing U.types slots) t
closed-in {T = T} {U = U} {V = V} n t slots h g l e =
    type-in n (replace (standing T.types slots) t) l e ∙ replace-same (standing T.types slots) (standing U.types slots)
    (λ v. sym (standing-longer T.types U.types slots v (on-longer g l.longer).types h)) t

-- the first number is 0
pub first-number : (old new : List (List ℕ)) (x : List ℕ) (n : ℕ) → old ≡ [] → x ≡ [] → IsNumbered old x n new → slice_get new 0 ≡ Some []
first-number old new x n p q i =
    let none : (m : ℕ) → slice_get old m ≡ Some x → ⊥ = λ m e. no-number m x (sym (ap (λ l. slice_get l m) p) ∙ e) in
    let z : n ≡ 0 = (i.added none).1 ∙ ap length p in
    ap (slice_get new) (sym z) ∙ i.held ∙ ap Some q
  where
    no-number : (m : ℕ) (x : List ℕ) → slice_get [] m ≡ Some x → ⊥
    no-number m x e = cc

-- groups around
pub own-found : (H : Held) (x : ℕ) (own : List (ℕ × ℕ)) → lookup (nat_eq x) (groups_in H own) ≡ option_map (types_in H) (lookup (nat_eq x) own)
own-found H x [] = refl
own-found H x (e ∷ own) = go (nat_eq x e.0) (own-found H x own)
  where
    go : (b : Bool) → lookup (nat_eq x) (groups_in H own) ≡ option_map (types_in H) (lookup (nat_eq x) own)
        → (if b then Some (types_in H e.1) else lookup (nat_eq x) (groups_in H own)) ≡ option_map (types_in H) (if b then Some e.1 else lookup (nat_eq x) own)
    go true r = refl
    go false r = r

pub own-held : (T : Held) (x k : ℕ) (own : List (ℕ × ℕ)) → OwnHeld T own → lookup (nat_eq x) own ≡ Some k → IsHeld T k
own-held T x k [] h e = absurd (cc)
own-held T x k (f ∷ own) h e = go (nat_eq x f.0) (own-held T x k own h.1) e
  where
    go : (b : Bool) → (lookup (nat_eq x) own ≡ Some k → IsHeld T k) → (if b then Some f.1 else lookup (nat_eq x) own) ≡ Some k → IsHeld T k
    go true further e = let p : f.1 ≡ k = cc in subst (IsHeld T) p h.0
    go false further e = further e

-- a variable that is used: its group's list, or the one at these types
pub used-own : (H : Held) (x k : ℕ) (own : List (ℕ × ℕ)) (s : ℕ → Typ) (ts : List Typ) → lookup (nat_eq x) own ≡ Some k → copy_of x (types_in H k) ≡ used (groups_in H own) s (inst x ts)
used-own H x k own s ts e = ap (λ o. copy_of x (own_or o (map (replace s) ts))) (sym (own-found H x own ∙ ap (option_map (types_in H)) e))

pub used-other : (H : Held) (x k : ℕ) (own : List (ℕ × ℕ)) (s : ℕ → Typ) (ts : List Typ) → lookup (nat_eq x) own ≡ None → types_in H k ≡ map (replace s) ts
    → copy_of x (types_in H k) ≡ used (groups_in H own) s (inst x ts)
used-other H x k own s ts e p = ap (copy_of x) p ∙ ap (λ o. copy_of x (own_or o (map (replace s) ts))) (sym (own-found H x own ∙ ap (option_map (types_in H)) e))
