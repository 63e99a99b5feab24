-- Types that are written, one after the other.
use Rattle.std.proofs.Common.{◌≡◌, ◌<◌, ◌≤◌, ℕ, zero, suc, List, [], ◌∷◌, ◌++◌, length, take, get_or, ap, refl, sym, subst, arith}
use Rattle.std.specs.Prelude.{slice_get, slice_index_or}
use Rattle.ty_core.specs.Types.{Typ, var}
use Rattle.ty_table.specs.TypeAt.{type_at}
use Rattle.elab_state.specs.Readings.{type_if}
use Rattle.elab_state.specs.declared.naming.Naming.{Naming}
use Rattle.elab_state.specs.declared.naming.Written.{Written}
use Rattle.final_types.specs.Images.{AreEntered, IsMade}
use Rattle.final_types.proofs.Imaging.{made-grown}

pub entered-none : (ts us : List Typ) (rs : List Naming) (g : ℕ → Typ) → AreEntered ts us rs g [] []
entered-none ts us rs g = tt

pub entered-grown : (ts us vs : List Typ) (rs : List Naming) (g : ℕ → Typ) (ws : List Written) (ks : List ℕ) → take (length us) vs ≡ us → AreEntered ts us rs g ws ks → AreEntered ts vs rs g ws ks
entered-grown ts us vs rs g [] [] e h = tt
entered-grown ts us vs rs g [] (k ∷ ks) e h = absurd h
entered-grown ts us vs rs g (w ∷ ws) [] e h = absurd h
entered-grown ts us vs rs g (w ∷ ws) (k ∷ ks) e h = (made-grown ts us vs rs g w.naming w.ty k e h.0, entered-grown ts us vs rs g ws ks e h.1)

pub entered-more : (ts us : List Typ) (rs : List Naming) (g : ℕ → Typ) (ws : List Written) (ks : List ℕ) (w : Written) (k : ℕ) → AreEntered ts us rs g ws ks
    → IsMade ts us rs g w.naming w.ty k → AreEntered ts us rs g (ws ++ w ∷ []) (ks ++ k ∷ [])
entered-more ts us rs g [] [] w k h m = (m, tt)
entered-more ts us rs g [] (j ∷ ks) w k h m = absurd h
entered-more ts us rs g (v ∷ ws) [] w k h m = absurd h
entered-more ts us rs g (v ∷ ws) (j ∷ ks) w k h m = (h.0, entered-more ts us rs g ws ks w k h.1 m)

-- what a number of the tree stands for
pub entered-reads : (ts us : List Typ) (rs : List Naming) (g : ℕ → Typ) (ws : List Written) (ks : List ℕ) (other : ℕ) → AreEntered ts us rs g ws ks → type_at us other ≡ var 0
    → (k : ℕ) → type_at us (slice_index_or ks k other) ≡ type_if ts g rs (slice_get ws k)
entered-reads ts us rs g [] [] other h o k = o
entered-reads ts us rs g [] (j ∷ ks) other h o k = absurd h
entered-reads ts us rs g (w ∷ ws) [] other h o k = absurd h
entered-reads ts us rs g (w ∷ ws) (j ∷ ks) other h o zero = h.0.is
entered-reads ts us rs g (w ∷ ws) (j ∷ ks) other h o (suc k) = entered-reads ts us rs g ws ks other h.1 o k

-- one more was written, in a table that has grown
pub entered-next : (ts us vs : List Typ) (rs : List Naming) (g : ℕ → Typ) (ws : List Written) (ks : List ℕ) (i k : ℕ) (d : Written) → i < length ws → take (length us) vs ≡ us
    → AreEntered ts us rs g (take i ws) ks → IsMade ts vs rs g (get_or ws i d).naming (get_or ws i d).ty k → AreEntered ts vs rs g (take (suc i) ws) (ks ++ k ∷ [])
entered-next ts us vs rs g ws ks i k d lt e h m =
    subst (λ l. AreEntered ts vs rs g l (ks ++ k ∷ [])) (sym (taken i ws lt)) (entered-more ts vs rs g (take i ws) ks (get_or ws i d) k (entered-grown ts us vs rs g (take i ws) ks e h) m)
  where
    taken : (i : ℕ) (ws : List Written) → i < length ws → take (suc i) ws ≡ take i ws ++ get_or ws i d ∷ []
    taken i [] lt = absurd (omega (arith, lt))
    taken zero (w ∷ ws) lt = refl
    taken (suc i) (w ∷ ws) lt = ap (λ l. w ∷ l) (taken i ws (omega (arith, lt)))

pub entered-all : (ts us : List Typ) (rs : List Naming) (g : ℕ → Typ) (ws : List Written) (ks : List ℕ) (i : ℕ) → length ws ≤ i → AreEntered ts us rs g (take i ws) ks → AreEntered ts us rs g ws ks
entered-all ts us rs g ws ks i le h = subst (λ l. AreEntered ts us rs g l ks) (whole i ws le) h
  where
    whole : (i : ℕ) (ws : List Written) → length ws ≤ i → take i ws ≡ ws
    whole zero [] le = refl
    whole zero (w ∷ ws) le = absurd (omega (arith, le))
    whole (suc i) [] le = refl
    whole (suc i) (w ∷ ws) le = ap (λ l. w ∷ l) (whole i ws (omega (arith, le)))
