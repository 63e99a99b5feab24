-- Where a body finds a variable, and pieces.
use Rattle.std.specs.Prelude.{ℕ, zero, suc, ◌-◌, List, [], ◌∷◌, map, drop, length, reverse, Option, Some, None, nat_eq, if◌then◌else◌}
use Rattle.closure_convert.specs.of_flow_sets.Member.{is_in}
use Rattle.closure_convert.specs.Scope.{Scope, Member, Way, no_way, leads, follows, way, index_of, Piece, alone, those}
use Rattle.closure_convert.specs.Capture.{visible, is_outer, add_run}
use Rattle.capture_scope.specs.declared.scope.Found as code
use Rattle.capture_scope.specs.declared.scope.Found.TheVariants as found
use Rattle.capture_scope.specs.declared.piece.Piece as code_piece
use Rattle.capture_scope.specs.declared.piece.Piece.TheVariants as piece

abbrev pub piece_of : code_piece.Piece → Piece
piece_of (piece.Alone y) = alone y
piece_of (piece.Those from count) = those from count

abbrev pub pieces_of : List code_piece.Piece → List Piece
pieces_of = map piece_of

-- where the last stands first
abbrev pub pieces_back : List code_piece.Piece → List Piece
pieces_back ps = reverse (pieces_of ps)

-- a place just before a run, with it
abbrev pub joined_run : ℕ → Piece → Option Piece
joined_run i (alone y) = None
joined_run i (those j n) = if nat_eq j (suc i) then Some (those i (suc n)) else None

-- a variable before pieces
abbrev pub with_piece : Scope → ℕ → List Piece → List Piece
with_piece s y ps = if is_outer s y then add_run (index_of y s.captured) ps else alone y ∷ ps

pub data Place : Type 0 where
  local : Place
  captured : ℕ → Place
  leading : Place
  following : ℕ → Place
  nowhere : Place

abbrev pub found_of : code.Found → Place
found_of found.Local = local
found_of (found.Captured i) = captured i
found_of found.Leads = leading
found_of (found.Follows k) = following k
found_of found.Nowhere = nowhere

abbrev pub found_around : Scope → ℕ → Way → Place
found_around s x no_way = if is_in x s.captured then captured (index_of x s.captured) else nowhere
found_around s x leads = leading
found_around s x (follows k) = following k

-- as the conversion finds it: bound in the body, or else of the group, or else captured
abbrev pub found_in : Scope → ℕ → Place
found_in s x = if is_in x s.locals then local else found_around s x (way x s.group)

abbrev pub follower_found : List Member → ℕ → Place
follower_found [] i = local
follower_found (m ∷ ms) zero = following m.number
follower_found (m ∷ ms) (suc i) = follower_found ms i

-- the function at a place of a group, or what is bound after it
abbrev pub member_found : List Member → ℕ → Place
member_found [] i = local
member_found (m ∷ ms) zero = leading
member_found (m ∷ ms) (suc i) = follower_found ms i

-- what is left when all is left that was bound since so many were seen
abbrev pub left_to : ℕ → Scope → Scope
left_to len s = record s { locals = drop (length (visible s) - len) s.locals }
