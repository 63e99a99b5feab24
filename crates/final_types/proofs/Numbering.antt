-- Numbers of names where namings lie behind one another.
use Rattle.std.proofs.Common.{◌≡◌, ◌⊎◌, ◌<◌, ◌≤◌, ℕ, zero, suc, Bool, true, false, nat_lt, if◌then◌else◌, List, [], ◌∷◌, ◌++◌, length, Option, Some, None, refl, sym, ap, subst, ◌∙◌, arith}
use Rattle.std.specs.Prelude.{IfSome, slice_get, slice_index_or}
use Rattle.std.proofs.lemmas.Bool.{eq-eqb, ltb-true, ltb-false}
use Rattle.elab_state.specs.Namings.{number_in, AreNamings}
use Rattle.elab_state.specs.declared.naming.Naming.{Naming}
use Rattle.final_types.proofs.Namings.{numbers-at}
use Rattle.final_types.specs.Names.{AreJumps, JumpsTo, stamp_at, to_in, tos}
use Rattle.final_types.specs.declared.names.Jump.{Jump}
use Rattle.final_types.proofs.Jumping.{stamp-is, before-earlier, other-name, late-name, past-name, new-jump, jumps-more}

-- a naming that is read

abbrev pub naming_at : List Naming → ℕ → Naming
naming_at rs k = slice_index_or rs k (record { stamp = 0; number = 0; before = None })

pub naming-there : (rs : List Naming) (k : ℕ) → k < length rs → slice_get rs k ≡ Some (naming_at rs k)
naming-there [] k lt = absurd (omega (arith, lt))
naming-there (r ∷ rs) zero lt = refl
naming-there (r ∷ rs) (suc k) lt = naming-there rs k (omega (arith, lt))

pub stamp-there : (rs : List Naming) (k : ℕ) → k < length rs → stamp_at rs k ≡ (naming_at rs k).stamp
stamp-there rs k lt = stamp-is rs k (naming_at rs k) (naming-there rs k lt)

-- the naming before

pub before-there : (rs : List Naming) (k : ℕ) → AreNamings rs → k < length rs → IfSome (naming_at rs k).before (λ j. j < k)
before-there rs k h lt = by (naming_at rs k).before refl
  where
    by : (o : Option ℕ) → (naming_at rs k).before ≡ o → IfSome o (λ j. j < k)
    by None e = tt
    by (Some b) e = (before-earlier rs k b (naming_at rs k) h (naming-there rs k lt) e).earlier

pub same-before : (rs : List Naming) (k b x : ℕ) → AreNamings rs → k < length rs → b ≤ stamp_at rs k → x < b → number_in rs (Some k) x ≡ number_in rs (naming_at rs k).before x
same-before rs k b x h lt le l = other-name rs k (naming_at rs k) x h (naming-there rs k lt) (let s = stamp-there rs k lt in omega (arith, s, le, l))

-- the number of a name

pub number-there : (rs : List Naming) (k s : ℕ) → AreNamings rs → k < length rs → (naming_at rs k).stamp ≡ s → (naming_at rs k).number ≡ number_in rs (Some k) s
number-there rs k s h lt e =
    sym (numbers-at rs k (naming_at rs k) s h (naming-there rs k lt) ∙ ap (λ b. if b then (naming_at rs k).number else number_in rs (naming_at rs k).before s) (eq-eqb (naming_at rs k).stamp s e))

pub number-not : (rs : List Naming) (k s : ℕ) → AreNamings rs → (k < length rs → stamp_at rs k ≤ s) → (k < length rs → (naming_at rs k).stamp ≡ s → ⊥) → s ≡ number_in rs (Some k) s
number-not rs k s h early other = by (nat_lt k (length rs)) refl
  where
    by : (b : Bool) → nat_lt k (length rs) ≡ b → s ≡ number_in rs (Some k) s
    by true q =
        let lt = ltb-true k (length rs) q in
        let e = stamp-there rs k lt in
        let l = early lt in
        sym (late-name rs k (naming_at rs k) s h (naming-there rs k lt) (below (naming_at rs k).stamp (omega (arith, e, l)) (other lt)))
      where
        below : (n : ℕ) → n ≤ s → (n ≡ s → ⊥) → n < s
        below n le ne = at (nat_lt n s) refl
          where
            at : (b : Bool) → nat_lt n s ≡ b → n < s
            at true q = ltb-true n s q
            at false q = absurd (ne (let a = ltb-false n s q in omega (arith, a, le)))
    by false q = let le = ltb-false k (length rs) q in sym (past-name rs k s (omega (arith, le)))

-- jumps are made one after the other

tos-more : (js : List Jump) (j : Jump) → tos (js ++ j ∷ []) ≡ tos js ++ j.to ∷ []
tos-more [] j = refl
tos-more (x ∷ js) j = ap (λ l. x.to ∷ l) (tos-more js j)

tos-length : (js : List Jump) → length (tos js) ≡ length js
tos-length [] = refl
tos-length (x ∷ js) = ap suc (tos-length js)

pub jumps-next : (rs : List Naming) (js : List Jump) (j : Jump) (k : ℕ) → AreNamings rs → AreJumps rs (tos js) → k < length rs → length js ≡ k
    → (j.to ≡ (naming_at rs k).before) ⊎ (j.to ≡ to_in (tos js) (to_in (tos js) (naming_at rs k).before)) → AreJumps rs (tos (js ++ j ∷ []))
jumps-next rs js j k h a lt e t =
    let n : length (tos js) ≡ k = tos-length js ∙ e in
    subst (AreJumps rs) (sym (tos-more js j))
    (jumps-more rs (tos js) j.to a (λ i q. subst (λ m. JumpsTo rs m i) (sym n) (new-jump rs (tos js) k (naming_at rs k) j.to h a (naming-there rs k lt) t i q)))
