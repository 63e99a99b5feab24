-- Looking a variable up in the vector of bindings.
use Rattle.std.proofs.Common.{◌≡◌, ◌≢◌, ℕ, zero, suc, ◌<◌, ◌≤◌, List, [], ◌∷◌, ◌++◌, length, get_or, set, Bool, true, false, if◌then◌else◌, refl, sym, ap, ◌∙◌, arith, subst}
use Rattle.std.proofs.lemmas.Bool.{and_parts, and_from, ltb-true, lt-ltb, false≢true}
use Rattle.ty_table.specs.of_ty_core.Types.{Typ, var, con, Typs, none, more}
use Rattle.ty_solve.specs.Substitution.{Entry, free, bound, row, mark, is_open, is_below, are_below}
use Rattle.ty_solve.specs.SlotsOf.{look}
use Rattle.std.proofs.lemmas.Bool.{cases_eq}
use mathlib.Core.Logic.{◌⊎◌, inl, inr}
use Rattle.ty_table.specs.of_ty_core.declared.mark.Mark.{Mark}
use Rattle.ty_solve.specs.Weight.{BelowAt, AreBelow, InhabitedAt, AreInhabited}

pub look-get : (l : List Entry) (v : ℕ) (o : Entry) → v < length l → o ≡ get_or l v o → look l v ≡ o
look-get [] v o h e = absurd (omega arith)
look-get (x ∷ l) zero o h e = (sym e)
look-get (x ∷ l) (suc v) o h e = look-get l v o (omega arith) e

pub look-past : (l : List Entry) (v : ℕ) → length l ≤ v → look l v ≡ free Mark.Any
look-past [] v h = refl
look-past (x ∷ l) zero h = absurd (omega arith)
look-past (x ∷ l) (suc v) h = look-past l v (omega arith)

pub look-grow-other : (l : List Entry) (o : Entry) (v : ℕ) → v ≢ length l → look (l ++ o ∷ []) v ≡ look l v
look-grow-other [] o zero h = absurd (h refl)
look-grow-other [] o (suc v) h = refl
look-grow-other (x ∷ l) o zero h = refl
look-grow-other (x ∷ l) o (suc v) h = look-grow-other l o v (λ e. h (ap suc e))

pub look-grow-here : (l : List Entry) (o : Entry) → look (l ++ o ∷ []) (length l) ≡ o
look-grow-here [] o = refl
look-grow-here (x ∷ l) o = look-grow-here l o

pub look-set-same : (l : List Entry) (v : ℕ) (o : Entry) → v < length l → look (set l v o) v ≡ o
look-set-same [] v o h = absurd (omega arith)
look-set-same (x ∷ l) zero o h = refl
look-set-same (x ∷ l) (suc v) o h = look-set-same l v o (omega arith)

pub look-set-other : (l : List Entry) (v x : ℕ) (o : Entry) → x ≢ v → look (set l v o) x ≡ look l x
look-set-other [] v x o h = refl
look-set-other (y ∷ l) zero zero o h = absurd (h refl)
look-set-other (y ∷ l) zero (suc x) o h = refl
look-set-other (y ∷ l) (suc v) zero o h = refl
look-set-other (y ∷ l) (suc v) (suc x) o h = look-set-other l v x o (λ e. h (ap suc e))

mutual
  pub below-more : (n m : ℕ) → n ≤ m → (t : Typ) → is_below n t ≡ true → is_below m t ≡ true
  below-more n m h (var v) b = let p = ltb-true v n b in lt-ltb v m (omega arith)
  below-more n m h (con c ts) b = belows-more n m h ts b

  pub belows-more : (n m : ℕ) → n ≤ m → (ts : Typs) → are_below n ts ≡ true → are_below m ts ≡ true
  belows-more n m h none b = refl
  belows-more n m h (more t ts) b =
      let p = and_parts (is_below n t) (are_below n ts) b in
      and_from _ _ (below-more n m h t p.0) (belows-more n m h ts p.1)

pub BelowAt-more : (n m : ℕ) → n ≤ m → (b : Entry) → BelowAt n b → BelowAt m b
BelowAt-more n m h (free e) b = tt
BelowAt-more n m h (bound t) b = below-more n m h t b
BelowAt-more n m h (row e ks us) b = belows-more n m h us b

pub AreBelow-more : (n m : ℕ) → n ≤ m → (s : ℕ → Entry) → AreBelow n s → AreBelow m s
AreBelow-more n m h s b v = BelowAt-more n m h (s v) (b v)

longer : (l : List Entry) (o : Entry) → length l ≤ length (l ++ o ∷ [])
longer [] o = omega arith
longer (x ∷ l) o = let p = longer l o in omega arith

-- what holds of each entry holds with one more
pub grown-all : (P : Entry → Type 0) (l : List Entry) (o : Entry) → P o → ((v : ℕ) → P (look l v)) → (v : ℕ) → P (look (l ++ o ∷ []) v)
grown-all P l o p h v = go (cases_eq v (length l))
  where
    go : (v ≡ length l) ⊎ (v ≡ length l → ⊥) → P (look (l ++ o ∷ []) v)
    go (inl e) = subst P (sym (ap (look (l ++ o ∷ [])) e ∙ look-grow-here l o)) p
    go (inr ne) = subst P (sym (look-grow-other l o v ne)) (h v)

pub grow-below : (l : List Entry) (o : Entry) → BelowAt (length l) o → AreBelow (length l) (look l) → AreBelow (length (l ++ o ∷ [])) (look (l ++ o ∷ []))
grow-below l o b h = grown-all (BelowAt (length (l ++ o ∷ []))) l o (BelowAt-more (length l) (length (l ++ o ∷ [])) (longer l o) o b) (AreBelow-more (length l) (length (l ++ o ∷ [])) (longer l o) (look l) h)

pub grown-below : (b : Bool) (o : Entry) (old new : List Entry) → new ≡ (if b then old ++ o ∷ [] else old) → BelowAt (length old) o → AreBelow (length old) (look old) → AreBelow (length new) (look new)
grown-below true o old new e k h = subst (λ l. AreBelow (length l) (look l)) (sym e) (grow-below old o k h)
grown-below false o old new e k h = subst (λ l. AreBelow (length l) (look l)) (sym e) h

pub grown-inhabited : (b : Bool) (o : Entry) (old new : List Entry) → new ≡ (if b then old ++ o ∷ [] else old) → InhabitedAt o → AreInhabited (look old) → AreInhabited (look new)
grown-inhabited true o old new e i h = subst (λ l. AreInhabited (look l)) (sym e) (grown-all InhabitedAt old o i h)
grown-inhabited false o old new e i h = subst (λ l. AreInhabited (look l)) (sym e) h

pub free-mark : (b : Entry) (k : Mark) → b ≡ free k → b ≡ free (mark b)
free-mark b k e = e ∙ ap (λ y. free (mark y)) (sym e)

pub never-open : (b : Entry) (t : Typ) → b ≡ bound t → is_open b ≡ true → b ≡ free (mark b)
never-open b t e h = absurd (false≢true (sym (ap is_open e) ∙ h))
