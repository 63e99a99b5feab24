-- Partial types: `OpensTy l i d` where some front of the terminals i is a type of a level of at least l, cut off at its right edge, that is at
-- least d deep. Each phrase of a path along the cut edge is entered by a terminal of its own, or by a complete left part.
use Rattle.std.specs.Prelude.{ℕ, suc, ◌≤◌, List, ◌∷◌}
use Rattle.mlc_names.specs.declared.label.Label.{Label}
use Rattle.mlc_names.specs.declared.token.Reserved.TheVariants as res
use Rattle.sml_tree.specs.Terminal.{LongId, Terminal, reserved, star, IsLongTycon, IsLabel}
use Rattle.sml_tree.specs.ReadTree.{Ty}
use Rattle.sml_tree.specs.Depth.{depth_ty}
use Rattle.sml_tree.specs.Levels.{ty_level}
use Rattle.sml_tree.specs.Grammar.{ReadsTy}
use Rattle.sml_grammar.specs.Begins.{BeginsTy}

mutual
  pub data OpensTy : ℕ → List Terminal → ℕ → Type 0 where
    -- what begins it
    begun_ty : {l : ℕ} {i : List Terminal} → BeginsTy i → OpensTy l i 1
    -- (ty, which arguments may go on with
    in_paren_ty : {l : ℕ} {i : List Terminal} {d : ℕ} (p : ℕ) → OpensTy 0 i d → OpensTy l (reserved p res.LeftParen ∷ i) (suc d)
    -- (ty, .., ty) longtycon
    in_arguments : {l : ℕ} {i m : List Terminal} {a : Ty} {d : ℕ} (p q : ℕ) → ReadsTy i a (reserved q res.Comma ∷ m) → OpensTys m d →
        OpensTy l (reserved p res.LeftParen ∷ i) (suc d)
    -- { tyrow }
    in_ty_row : {l : ℕ} {i : List Terminal} {d : ℕ} (p : ℕ) → OpensTyRow i d → OpensTy l (reserved p res.LeftBrace ∷ i) (suc d)
    -- an argument and its type constructor
    applied_ty : {l : ℕ} {i m : List Terminal} {t : Terminal} {q : ℕ} {c : LongId} {a : Ty} {d : ℕ} → 2 ≤ ty_level a → ReadsTy i a (t ∷ m) → IsLongTycon t q c →
        d ≤ depth_ty a → OpensTy l i (suc d)
    -- a product, cut off after its first `*`, or in an operand
    starred : {l : ℕ} {i m : List Terminal} {a : Ty} {d : ℕ} (p x : ℕ) → l ≤ 1 → 2 ≤ ty_level a → ReadsTy i a (star p x ∷ m) → d ≤ depth_ty a →
        OpensTy l i (suc d)
    in_product : {l : ℕ} {i m : List Terminal} {a : Ty} {d : ℕ} → l ≤ 1 → 2 ≤ ty_level a → ReadsTy i a m → OpensStars m d → OpensTy l i (suc d)
    -- a function type, cut off after its first `->`, or in an operand
    arrowed : {l : ℕ} {i m : List Terminal} {a : Ty} {d : ℕ} (p : ℕ) → l ≤ 0 → 1 ≤ ty_level a → ReadsTy i a (reserved p res.Arrow ∷ m) → d ≤ depth_ty a →
        OpensTy l i (suc d)
    in_function : {l : ℕ} {i m : List Terminal} {a : Ty} {d : ℕ} → l ≤ 0 → 1 ≤ ty_level a → ReadsTy i a m → OpensArrows m d → OpensTy l i (suc d)

  -- ty, .., ty
  pub data OpensTys : List Terminal → ℕ → Type 0 where
    in_ty : {i : List Terminal} {d : ℕ} → OpensTy 0 i d → OpensTys i d
    past_ty : {i m : List Terminal} {a : Ty} {d : ℕ} (q : ℕ) → ReadsTy i a (reserved q res.Comma ∷ m) → OpensTys m d → OpensTys i d

  -- tyrow ::= lab : ty [, tyrow]
  pub data OpensTyRow : List Terminal → ℕ → Type 0 where
    in_ty_field : {t : Terminal} {i : List Terminal} {l : Label} {d : ℕ} (p : ℕ) → IsLabel t l → OpensTy 0 i d → OpensTyRow (t ∷ reserved p res.Colon ∷ i) d
    past_ty_field : {t : Terminal} {i m : List Terminal} {l : Label} {a : Ty} {d : ℕ} (p q : ℕ) → IsLabel t l → ReadsTy i a (reserved q res.Comma ∷ m) →
        OpensTyRow m d → OpensTyRow (t ∷ reserved p res.Colon ∷ i) d

  -- the further operands of a product, and of a function type
  pub data OpensStars : List Terminal → ℕ → Type 0 where
    in_star : {i : List Terminal} {d : ℕ} (p x : ℕ) → OpensTy 2 i d → OpensStars (star p x ∷ i) d
    past_star : {i m : List Terminal} {a : Ty} {d : ℕ} (p x : ℕ) → 2 ≤ ty_level a → ReadsTy i a m → OpensStars m d → OpensStars (star p x ∷ i) d

  pub data OpensArrows : List Terminal → ℕ → Type 0 where
    in_arrow : {i : List Terminal} {d : ℕ} (p : ℕ) → OpensTy 1 i d → OpensArrows (reserved p res.Arrow ∷ i) d
    past_arrow : {i m : List Terminal} {a : Ty} {d : ℕ} (p : ℕ) → 1 ≤ ty_level a → ReadsTy i a m → OpensArrows m d → OpensArrows (reserved p res.Arrow ∷ i) d
