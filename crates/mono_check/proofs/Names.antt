-- What is in scope.
use Rattle.std.proofs.Common.{◌≡◌, ◌↔◌, ℕ, Bool, true, false, List, [], ◌∷◌, ◌++◌, length, Option, Some, None, option_map, nat_eq, cond, IsTrue, refl, sym, ap, ◌∙◌, subst, append_assoc}
use Rattle.std.specs.Map.{lookup}
use Rattle.ir_mono.specs.Typing.{sort_of}
use Rattle.ir_known.specs.declared.known.Known.{Known}
use Rattle.ir_known.specs.declared.scope.Mark.{Mark}
use Rattle.plain_tree.specs.declared.tree.Case.{Case}
use Rattle.plain_tree.specs.declared.tree.Case.TheVariants as case
use Rattle.mono_fits.specs.Fits.{is_none, is_new}
use Rattle.mono_operations.specs.Reads.{Names, sort_in, sorts_of}
use Rattle.mono_check.specs.Walk.{holding, opened, IsMore}

found-sort : (ks : List (ℕ × Known)) (x : ℕ) → sort_of (sorts_of ks) x ≡ option_map sort_in (lookup (nat_eq x) ks)
found-sort [] x = refl
found-sort (k ∷ ks) x = by (nat_eq x k.0) (found-sort ks x)
  where
    by : (b : Bool) → sort_of (sorts_of ks) x ≡ option_map sort_in (lookup (nat_eq x) ks) → cond b (Some (sort_in k.1)) (sort_of (sorts_of ks) x) ≡ option_map sort_in (cond b (Some k.1) (lookup (nat_eq x) ks))
    by true e = refl
    by false e = e

-- what is not found is new
pub found-none : (ks : List (ℕ × Known)) (x : ℕ) (b : Bool) → IsTrue b ↔ (lookup (nat_eq x) ks ≡ None) → b ≡ is_new (sorts_of ks) x
found-none ks x b w = by (lookup (nat_eq x) ks) b w ∙ ap is_none (sym (found-sort ks x))
  where
    by : (o : Option Known) (b : Bool) → IsTrue b ↔ (o ≡ None) → b ≡ is_none (option_map sort_in o)
    by None true w = refl
    by None false w = let e : false ≡ true = w.1 refl in absurd (cc)
    by (Some k) true w = let e : Some k ≡ None = w.0 refl in absurd (cc)
    by (Some k) false w = refl

-- more in scope

pub more-none : (s : Names) → IsMore s s
more-none s = record { added = []; within = refl }

pub more-one : (s : Names) (x : ℕ) (k : Known) → IsMore s (holding s x k)
more-one s x k = record { added = (x, k) ∷ []; within = refl }

pub more-more : (a b c : Names) → IsMore a b → IsMore b c → IsMore a c
more-more a b c g h = record { added = h.added ++ g.added; within = h.within ∙ ap (λ l. h.added ++ l) g.within ∙ sym (append_assoc h.added g.added (a.0 ++ a.1)) }

-- where the last is named otherwise
pub more-at : (old now new : Names) → new ≡ now → IsMore old now → IsMore old new
more-at old now new e m = subst (IsMore old) (sym e) m

pub more-opened : (c : Case) (s : Names) → IsMore s (opened c s)
more-opened (case.Constant c) s = more-none s
more-opened (case.Constructor c) s = more-none s
more-opened (case.ConstructorOf c x) s = more-one s x.variable _
more-opened (case.Exception a) s = more-none s
more-opened (case.ExceptionOf a x) s = more-one s x.variable _
more-opened (case.Record size) s = more-none s

pub back-to : (old now new : Names) (mark : Mark) → IsMore old now → mark.len ≡ length (old.0 ++ old.1) → mark.start ≡ length old.1
    → ((a l r : List (ℕ × Known)) → now.0 ++ now.1 ≡ a ++ (l ++ r) → mark.len ≡ length (l ++ r) → mark.start ≡ length r → new ≡ (l, r)) → new ≡ old
back-to old now new mark m l b r = r m.added old.0 old.1 m.within l b
