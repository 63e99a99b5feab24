-- Steps that make closures, for any table of captures.
use Rattle.std.specs.Prelude.{ℕ, Bool, true, false, List, [], ◌∷◌, if◌then◌else◌}
use Rattle.first_values.specs.Values as cells
use Rattle.first_values.specs.Operations.{Plain}
use Rattle.ir_first.specs.Tree as out
use Rattle.closure_convert.specs.Scope.{Member, Scope, Piece, alone, those}
use Rattle.closure_meaning.specs.Convert.{Numbering, holder, var, access, ready, piece_list}
use Rattle.flow_sets.specs.Member.{is_in}
use Rattle.capture_scope.specs.Found.{Place, local, captured, leading, following, nowhere}

abbrev pub a_plain : Plain → ℕ → out.Op
a_plain p x = out.plain p (x ∷ [])

-- a cell of one part
abbrev pub a_make : (tag x : ℕ) → out.Op
a_make tag x = out.make tag (cells.one x ∷ [])

module _ (n : Numbering) where
  -- x is a closure of the function k, of these pieces
  abbrev pub made_of : Scope → List Piece → (x k : ℕ) → out.Exp → out.Exp
  made_of s ps x k e = ready n s ps (out.let_in x (out.make (n.tag k) (piece_list ps)) e)

  -- the others of a group, the last first
  abbrev pub followers : (h : ℕ) → List Member → out.Exp → out.Exp
  followers h [] e = e
  followers h (g ∷ gs) e = followers h gs (out.let_in (var g.name) (a_make (n.tag g.number) (var h)) e)

  -- a variable is brought into the body, if it isn't bound there
  abbrev pub readied : Scope → ℕ → out.Exp → out.Exp
  readied s y e = if is_in y s.locals then e else out.let_in (var y) (access n s y) e

abbrev pub is_bound : Place → Bool
is_bound local = true
is_bound (captured i) = false
is_bound leading = false
is_bound (following k) = false
is_bound nowhere = false

abbrev pub piece_as : Piece → cells.Piece
piece_as (alone y) = cells.one (var y)
piece_as (those from count) = cells.run holder from count
