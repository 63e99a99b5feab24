-- The functions that a curried one gives, when it isn't given all its arguments. Each captures what the one around it does, and that one's parameter where it
-- is used: so all of them capture a front of what the innermost does, and the closure of each is one run and at most one variable.
use Rattle.std.specs.Prelude.{ℕ, zero, suc, List, [], ◌∷◌, ◌++◌, map, length}
use Rattle.plain_tree.specs.declared.tree.Parameter.{Parameter}
use Rattle.flow_sets.specs.Member.{is_in}
use Rattle.closure_convert.specs.Capture.{kept, Entry}
use Rattle.capture_scope.specs.declared.piece.Piece as code_piece
use Rattle.capture_scope.specs.declared.piece.Piece.TheVariants as piece
use Rattle.capture_scope.specs.Found.{pieces_of}
use Rattle.capture_table.specs.Told.{first_parameter, entry}

-- all that was captured, which are so many
abbrev pub whole : ℕ → List code_piece.Piece
whole zero = []
whole (suc n) = piece.Those zero (suc n) ∷ []

-- all that was captured, and these
abbrev pub made_of : (count : ℕ) → List ℕ → List code_piece.Piece
made_of count ys = whole count ++ map piece.Alone ys

-- those that are used
abbrev pub used : (uses : List ℕ) → List ℕ → List ℕ
used uses = kept (λ y. is_in y uses)

-- those that a function of these parameters gives, but for the last, and that last, where the function captures these
abbrev pub levels : (uses : List ℕ) → List Parameter → Parameter → (captured : List ℕ) → List Entry
levels uses [] x cs = []
levels uses (y ∷ ys) x cs =
    entry (first_parameter ys x) (pieces_of (made_of (length cs) (used uses (y.variable ∷ [])))) (cs ++ used uses (y.variable ∷ []))
    ∷ levels uses ys x (cs ++ used uses (y.variable ∷ []))
