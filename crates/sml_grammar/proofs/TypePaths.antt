-- A type has partial types of each depth up to its own.
use Rattle.std.proofs.Common.{◌≡◌, ℕ, zero, suc, ◌≤◌, ◌<◌, List, inl, inr, arith, true, refl}
use Rattle.sml_tree.specs.Terminal.{Terminal}
use Rattle.sml_tree.specs.ReadTree.{Ty, Tys, TyFields}
use Rattle.sml_tree.specs.Depth.{depth_ty, depth_tys, depth_ty_fields}
use Rattle.sml_tree.specs.Levels.{ty_level}
use Rattle.sml_tree.specs.Grammar.{ReadsTy, of_tyvar, of_no_ty_row, of_ty_row, of_tycon, of_tycon_1, of_tycon_n, of_product, of_arrow, of_paren_ty, TyRow, last_ty_row, more_ty_row, TyCommas, last_ty, more_tys, Stars, last_star, more_stars, Arrows, last_arrow, more_arrows}
use Rattle.sml_grammar.specs.Types.{begins_ty}
use Rattle.sml_grammar.specs.PartialTypes.{OpensTy, begun_ty, in_paren_ty, in_arguments, in_ty_row, applied_ty, starred, in_product, arrowed, in_function, OpensTys, in_ty, past_ty, OpensTyRow, in_ty_field, past_ty_field, OpensStars, in_star, past_star, OpensArrows, in_arrow, past_arrow}
use Rattle.sml_grammar.proofs.Answers.{le_max}
use Rattle.sml_grammar.proofs.TypeShapes.{ty-begins, begins_ty-found, begins_ty-is}

pub opens-begins : {l : ℕ} {i : List Terminal} {d : ℕ} → OpensTy l i d → begins_ty i ≡ true
opens-begins (begun_ty b) = begins_ty-found b
opens-begins (in_paren_ty p o) = refl
opens-begins (in_arguments p q d o) = refl
opens-begins (in_ty_row p o) = refl
opens-begins (applied_ty lv d c le) = ty-begins d
opens-begins (starred p x low lv d le) = ty-begins d
opens-begins (in_product low lv d o) = ty-begins d
opens-begins (arrowed p low lv d le) = ty-begins d
opens-begins (in_function low lv d o) = ty-begins d

starred-opens : {l : ℕ} {i m o : List Terminal} {a : Ty} {ts : Tys} {k : ℕ} → l ≤ 1 → 2 ≤ ty_level a → ReadsTy i a m → Stars m ts o → k ≤ depth_ty a → OpensTy l i (suc k)
starred-opens low lv d (last_star p x hi e) le = starred p x low lv d le
starred-opens low lv d (more_stars p x hi e es) le = starred p x low lv d le

arrowed-opens : {l : ℕ} {i m o : List Terminal} {a : Ty} {ts : Tys} {k : ℕ} → l ≤ 0 → 1 ≤ ty_level a → ReadsTy i a m → Arrows m ts o → k ≤ depth_ty a → OpensTy l i (suc k)
arrowed-opens low lv d (last_arrow p hi e) le = arrowed p low lv d le
arrowed-opens low lv d (more_arrows p hi e es) le = arrowed p low lv d le

mutual
  opens : {i o : List Terminal} {t : Ty} (l : ℕ) → ReadsTy i t o → l ≤ ty_level t → (k : ℕ) → 0 < k → k ≤ depth_ty t → OpensTy l i k
  opens l d high zero pos le = absurd (omega arith)
  opens l d high (suc zero) pos le = begun_ty (begins_ty-is (ty-begins d))
  opens l (of_tyvar p a) high (suc (suc k)) pos le = absurd (omega arith)
  opens l (of_no_ty_row p q) high (suc (suc k)) pos le = absurd (omega arith)
  opens l (of_ty_row p q d) high (suc (suc k)) pos le = in_ty_row p (row-opens d (suc k) (omega arith) (omega arith))
  opens l (of_tycon c) high (suc (suc k)) pos le = absurd (omega arith)
  opens l (of_tycon_1 lv d c e) high (suc (suc k)) pos le = applied_ty lv d c (omega arith)
  opens l (of_tycon_n {a} {as_} p r s d ds c) high (suc (suc k)) pos le =
      elim (le_max (suc k) (depth_ty a) (depth_tys as_) (omega arith)) [
        | inl q ↦ in_paren_ty p (opens 0 d (omega arith) (suc k) (omega arith) q)
        | inr q ↦ in_arguments p r d (commas-opens ds (suc k) (omega arith) q)
      ]
  opens l (of_product {a} {as_} lv d ds) high (suc (suc k)) pos le =
      elim (le_max (suc k) (depth_ty a) (depth_tys as_) (omega arith)) [
        | inl q ↦ starred-opens high lv d ds q
        | inr q ↦ in_product high lv d (stars-opens ds (suc k) (omega arith) q)
      ]
  opens l (of_arrow {a} {as_} lv d ds) high (suc (suc k)) pos le =
      elim (le_max (suc k) (depth_ty a) (depth_tys as_) (omega arith)) [
        | inl q ↦ arrowed-opens high lv d ds q
        | inr q ↦ in_function high lv d (arrows-opens ds (suc k) (omega arith) q)
      ]
  opens l (of_paren_ty p q d) high (suc (suc k)) pos le = in_paren_ty p (opens 0 d (omega arith) (suc k) (omega arith) (omega arith))

  row-opens : {i o : List Terminal} {fs : TyFields} → TyRow i fs o → (k : ℕ) → 0 < k → k ≤ depth_ty_fields fs → OpensTyRow i k
  row-opens (last_ty_row p l d) k pos le = in_ty_field p l (opens 0 d (omega arith) k pos (omega arith))
  row-opens (more_ty_row {a} {fs} p q l d ds) k pos le =
      elim (le_max k (depth_ty a) (depth_ty_fields fs) le) [
        | inl r ↦ in_ty_field p l (opens 0 d (omega arith) k pos r)
        | inr r ↦ past_ty_field p q l d (row-opens ds k pos r)
      ]

  commas-opens : {i o : List Terminal} {ts : Tys} → TyCommas i ts o → (k : ℕ) → 0 < k → k ≤ depth_tys ts → OpensTys i k
  commas-opens (last_ty d) k pos le = in_ty (opens 0 d (omega arith) k pos (omega arith))
  commas-opens (more_tys {a} {as_} p d ds) k pos le =
      elim (le_max k (depth_ty a) (depth_tys as_) le) [
        | inl r ↦ in_ty (opens 0 d (omega arith) k pos r)
        | inr r ↦ past_ty p d (commas-opens ds k pos r)
      ]

  stars-opens : {i o : List Terminal} {ts : Tys} → Stars i ts o → (k : ℕ) → 0 < k → k ≤ depth_tys ts → OpensStars i k
  stars-opens (last_star p x lv d) k pos le = in_star p x (opens 2 d lv k pos (omega arith))
  stars-opens (more_stars {a} {as_} p x lv d ds) k pos le =
      elim (le_max k (depth_ty a) (depth_tys as_) le) [
        | inl r ↦ in_star p x (opens 2 d lv k pos r)
        | inr r ↦ past_star p x lv d (stars-opens ds k pos r)
      ]

  arrows-opens : {i o : List Terminal} {ts : Tys} → Arrows i ts o → (k : ℕ) → 0 < k → k ≤ depth_tys ts → OpensArrows i k
  arrows-opens (last_arrow p lv d) k pos le = in_arrow p (opens 1 d lv k pos (omega arith))
  arrows-opens (more_arrows {a} {as_} p lv d ds) k pos le =
      elim (le_max k (depth_ty a) (depth_tys as_) le) [
        | inl r ↦ in_arrow p (opens 1 d lv k pos r)
        | inr r ↦ past_arrow p lv d (arrows-opens ds k pos r)
      ]

pub ty-opens : {l : ℕ} {i o : List Terminal} {t : Ty} → ReadsTy i t o → l ≤ ty_level t → (k : ℕ) → 0 < k → k ≤ depth_ty t → OpensTy l i k
ty-opens {l} d high k pos le = opens l d high k pos le
