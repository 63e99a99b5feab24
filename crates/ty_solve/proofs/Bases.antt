-- What is known of the record that an open variable stands for.
use Rattle.std.proofs.Common.{◌≡◌, ℕ, Bool, true, false, [], refl, sym, ap, ◌∙◌, subst, arith}
use Rattle.std.proofs.lemmas.Bool.{false≢true}
use Rattle.ty_table.specs.of_ty_core.Types.{Typ, var, none}
use Rattle.ty_table.specs.of_ty_core.declared.mark.Class.{Class}
use Rattle.ty_table.specs.of_ty_core.declared.mark.Mark.{Mark}
use Rattle.ty_solve.specs.Rows.{At, IsProper, Extends}
use Rattle.ty_solve.specs.Substitution.{Entry, free, bound, row, mark, Meets, subs, are_below}
use Rattle.ty_solve.specs.SlotsOf.{row_of}
use Rattle.ty_solve.specs.Weight.{AreBelow, AreInhabited}
use Rattle.ty_solve.specs.Forces.{Problem, Strict, Clashes, Met, EntryMet, ForcedAt, IsForcedRow}
use Rattle.mlc_names.specs.declared.label.Label.{Label}
use Rattle.ty_solve.specs.Changes.{RefusesRow, IsFitRow, row_rank, entry_rank}
use Rattle.ty_solve.specs.Fields.{IsBase}
use Rattle.ty_solve.specs.Rows.{Known}
use Rattle.ty_solve.specs.declared.refused.UnifyRefused.TheVariants.{Clash}
use Rattle.ty_solve.proofs.Extending.{extends-none, extends-strict, extends-whole}
use Rattle.ty_solve.proofs.RowArms.{no-class}
use Rattle.ty_solve.proofs.RowChanges.{row-fit}

pub marked : (e : Entry) (j k : Mark) → e ≡ free (mark e) → j ≡ mark e → j ≡ k → e ≡ free k
marked e j k p q r = p ∙ ap free (sym q ∙ r)

abbrev Says : Problem → Typ → Bool → Entry → Type 0
Says o t d (free k) = IsForcedRow o t d [] none
Says o t d (bound u) = IsForcedRow o t d [] none
Says o t d (row e ks us) = IsForcedRow o t e ks us

-- the row of which nothing is known
module _ (r : Known) (d : Bool) (p : r.equality ≡ d) (q : r.labels ≡ []) (i : r.types ≡ none) where
  none-is : row_of r ≡ row d [] none
  none-is = ap (λ b. row b r.labels r.types) p ∙ ap (λ ls. row d ls r.types) q ∙ ap (row d []) i

  none-fit : (n : ℕ) → IsFitRow n r
  none-fit n = record {
    below = ap (are_below n) i;
    proper = subst (λ ls. IsProper ls r.types) (sym q) (subst (IsProper []) (sym i) tt);
  }

  none-met : (o : Problem) (l : Label) (u : Typ) → At l u r.labels r.types → Met o u
  none-met o l u a = absurd (subst (λ ls. At l u ls r.types) q a)

  none-extends : (m : ℕ → Bool) (f : ℕ → Typ) (t : Typ) → Extends m d [] none t → Extends m r.equality r.labels (subs f r.types) t
  none-extends m f t x = subst (λ e. Meets m f t e) (sym none-is) x

  extends-nothing : (m : ℕ → Bool) (f : ℕ → Typ) (t : Typ) → Extends m r.equality r.labels (subs f r.types) t → Extends m d [] none t
  extends-nothing m f t x = subst (λ e. Meets m f t e) none-is x

  none-forced : (o : Problem) (t : Typ) → IsForcedRow o t d [] none → IsForcedRow o t r.equality r.labels r.types
  none-forced o t x = subst (Says o t d) (sym none-is) x

pub base-none : (n : ℕ) (s : ℕ → Entry) (y : ℕ) (r : Known) → s y ≡ free Mark.Equality → r.equality ≡ true → r.labels ≡ [] → r.types ≡ none → IsBase n s y r
base-none n s y r e p q i = record {
  same = λ m f t d ks us x. (
    λ h. none-extends r true p q i m f t (extends-strict m false [] none t (extends-none m d ks us t x) (subst (Meets m f t) e h)),
    λ h. subst (Meets m f t) (sym e) (extends-whole m [] none t (extends-nothing r true p q i m f t h) tt refl),
  );
  forced = λ o g z h w. record { row = none-forced r true p q i o (var y) (record { is_record = g; has = λ l u a. absurd a; strict = λ j. Strict.whole (var y) [] (subst (ForcedAt o y) e h) }); here = z; fields = none-met r true p q i o };
  fit = none-fit r true p q i n;
  lower = let a = ap row_rank p in let b = ap entry_rank e in omega arith;
}

pub base-any : (n : ℕ) (s : ℕ → Entry) (y : ℕ) (r : Known) → s y ≡ free Mark.Any → r.equality ≡ false → r.labels ≡ [] → r.types ≡ none → IsBase n s y r
base-any n s y r e p q i = record {
  same = λ m f t d ks us x. (
    λ h. none-extends r false p q i m f t (extends-none m d ks us t x),
    λ h. subst (Meets m f t) (sym e) tt,
  );
  forced = λ o g z h w. record { row = none-forced r false p q i o (var y) (record { is_record = g; has = λ l u a. absurd a; strict = λ j. absurd (false≢true j) }); here = z; fields = none-met r false p q i o };
  fit = none-fit r false p q i n;
  lower = let a = ap row_rank p in let b = ap entry_rank e in omega arith;
}

pub base-class : (s : ℕ → Entry) (y : ℕ) (r : Known) (c : Class) → s y ≡ free (Mark.Class c) → RefusesRow s r (var y) Clash
base-class s y r c e = (
  λ m f i x. no-class m c r.equality r.labels (subs f r.types) (f y) x (subst (Meets m f (f y)) e (i y)),
  λ p i x. Clashes.classed c (var y) x.row.is_record (subst (ForcedAt p y) e (i y).0),
)

pub base-row : (n : ℕ) (s : ℕ → Entry) (y : ℕ) (r : Known) → AreBelow n s → AreInhabited s → s y ≡ row_of r → IsBase n s y r
base-row n s y r b i e = record {
  same = λ m f t d ks us x. (λ h. subst (Meets m f t) e h, λ h. subst (Meets m f t) (sym e) h);
  forced = λ o g z h w. record { row = subst (ForcedAt o y) e h; here = z; fields = subst (EntryMet o) e w };
  fit = row-fit n s y r b i e;
  lower = let a = ap entry_rank e in omega arith;
}
