-- What closures are made of.
use Rattle.std.proofs.Common.{◌≡◌, ℕ, ◌+◌, ◌<◌, Bool, true, false, List, [], ◌∷◌, ◌++◌, map, take, drop, length, get_or, if◌then◌else◌, refl, sym, ap, ap₂, ◌∙◌}
use Rattle.std.proofs.lemmas.List.{take_more, drop_more}
use Rattle.ir_first.specs.Tree as out
use Rattle.first_values.specs.Values as cells
use Rattle.flow_sets.specs.Member.{is_in}
use Rattle.closure_convert.specs.Scope.{Scope, Member, Piece, alone, those, Way, no_way, leads, follows, way}
use Rattle.capture_scope.specs.declared.scope.Found.{Found}
use Rattle.capture_scope.specs.declared.piece.Piece as code
use Rattle.capture_scope.specs.declared.piece.Piece.TheVariants as piece
use Rattle.first_tables.specs.declared.operation.Piece as made
use Rattle.first_tables.specs.TablesOf.{piece_of as made_piece}
use Rattle.capture_scope.specs.declared.scope.Member as code_member
use Rattle.capture_scope.specs.Seen.{member_of, members_of}
use Rattle.capture_scope.specs.Found.{local, captured, nowhere, found_of, found_in, found_around, piece_of, pieces_of}
use Rattle.first_tree.specs.declared.tree.Step.{Step}
use Rattle.closure_meaning.specs.Convert.{Numbering, var, access, ready, piece_list}
use Rattle.closure_parts.specs.Pieces.{a_make, made_of, followers, is_bound, readied, piece_as}
use Rattle.closure_parts.specs.Puts.{before, Puts}
use Rattle.closure_parts.proofs.Putting.{map-last}

bound-in : (s : Scope) (x : ℕ) → is_bound (found_in s x) ≡ is_in x s.locals
bound-in s x = inside (is_in x s.locals) (way x s.group)
  where
    outside : (b : Bool) (i : ℕ) → is_bound (if b then captured i else nowhere) ≡ false
    outside true i = refl
    outside false i = refl

    around : (w : Way) → is_bound (found_around s x w) ≡ false
    around no_way = outside (is_in x s.captured) _
    around leads = refl
    around (follows k) = refl

    inside : (b : Bool) (w : Way) → is_bound (if b then local else found_around s x w) ≡ b
    inside true w = refl
    inside false w = around w

module _ (n : Numbering) (s : Scope) (y : ℕ) (found : Found) (bound : Bool) (h : found_of found ≡ found_in s y) (b : bound ≡ is_bound (found_of found)) where
  bound-is : is_in y s.locals ≡ bound
  bound-is = sym (b ∙ ap is_bound h ∙ bound-in s y)

  pub ready-bound : (old : List Step) → bound ≡ true → Puts old old (readied n s y)
  ready-bound old t e = ap (λ (q : Bool). before old (if q then e else out.let_in (var y) (access n s y) e)) (sym (bound-is ∙ t))

  pub ready-let : (old new : List Step) (x : ℕ) (o : out.Op) → bound ≡ false → x ≡ var y → o ≡ access n s y → Puts old new (out.let_in x o) → Puts old new (readied n s y)
  ready-let old new x o f i a p e =
      p e ∙ ap₂ (λ v u. before old (out.let_in v u e)) i a ∙ ap (λ (q : Bool). before old (if q then e else out.let_in (var y) (access n s y) e)) (sym (bound-is ∙ f))

ready-first : (N : Numbering) (s : Scope) (p : Piece) (ps : List Piece) (e : out.Exp) → ready N s (p ∷ ps) e ≡ ready N s (p ∷ []) (ready N s ps e)
ready-first N s (alone y) ps e = refl
ready-first N s (those from count) ps e = refl

pub ready-next : (N : Numbering) (s : Scope) (ps : List code.Piece) (i n : ℕ) (p d : code.Piece) (old now new : List Step) → n ≡ i + 1 → i < length ps → p ≡ get_or ps i d → Puts now new (ready N s (piece_of p ∷ []))
    → ((e : out.Exp) → before now (ready N s (pieces_of (drop i ps)) e) ≡ before old (ready N s (pieces_of ps) e))
    → (e : out.Exp) → before new (ready N s (pieces_of (drop n ps)) e) ≡ before old (ready N s (pieces_of ps) e)
ready-next N s ps i n p d old now new m lt is put inv e =
    put (ready N s (pieces_of (drop n ps)) e) ∙ ap (before now) (sym (ready-first N s (piece_of p) (pieces_of (drop n ps)) e))
    ∙ ap (λ l. before now (ready N s (pieces_of l) e)) (ap₂ (λ y j. y ∷ drop j ps) is m ∙ sym (drop_more ps i d lt)) ∙ inv e

pub ready-all : (N : Numbering) (s : Scope) (ps : List code.Piece) (i : ℕ) (old now : List Step) → drop i ps ≡ []
    → ((e : out.Exp) → before now (ready N s (pieces_of (drop i ps)) e) ≡ before old (ready N s (pieces_of ps) e)) → Puts old now (ready N s (pieces_of ps))
ready-all N s ps i old now h inv e = ap (λ l. before now (ready N s (pieces_of l) e)) (sym h) ∙ inv e

pub piece-first : (p : Piece) (ps : List Piece) → piece_list (p ∷ ps) ≡ piece_as p ∷ piece_list ps
piece-first (alone y) ps = refl
piece-first (those from count) ps = refl

pub pieces-mapped : (ps : List Piece) → piece_list ps ≡ map piece_as ps
pieces-mapped [] = refl
pieces-mapped (p ∷ ps) = piece-first p ps ∙ ap (λ l. piece_as p ∷ l) (pieces-mapped ps)

pub followers-last : (N : Numbering) (h : ℕ) (gs : List Member) (g : Member) (e : out.Exp) → followers N h (gs ++ g ∷ []) e ≡ out.let_in (var g.name) (a_make (N.tag g.number) (var h)) (followers N h gs e)
followers-last N h [] g e = refl
followers-last N h (k ∷ gs) g e = followers-last N h gs g (out.let_in (var k.name) (a_make (N.tag k.number) (var h)) e)

pub follower-next : (N : Numbering) (h : ℕ) (gs : List code_member.Member) (n i : ℕ) (g d : code_member.Member) (old now new : List Step) (x : ℕ) (o : out.Op) → n ≡ i + 1 → i < length gs → g ≡ get_or gs i d → x ≡ var g.name
    → o ≡ a_make (N.tag g.number) (var h) → Puts now new (out.let_in x o)
    → ((e : out.Exp) → before now (followers N h (members_of (take n gs)) e) ≡ before old (followers N h (members_of gs) e))
    → (e : out.Exp) → before new (followers N h (members_of (take i gs)) e) ≡ before old (followers N h (members_of gs) e)
follower-next N h gs n i g d old now new x o m lt is v w put inv e =
    put (followers N h (members_of (take i gs)) e) ∙ ap₂ (λ y u. before now (out.let_in y u (followers N h (members_of (take i gs)) e))) v w
    ∙ ap (before now) (sym (followers-last N h (members_of (take i gs)) (member_of g) e) ∙ ap (λ l. followers N h l e) (sym (map-last member_of (take i gs) g)))
    ∙ ap (λ l. before now (followers N h (members_of l) e)) (ap (λ y. take i gs ++ y ∷ []) is ∙ sym (take_more gs i d lt) ∙ ap (λ j. take j gs) (sym m)) ∙ inv e

-- one piece

pub piece-alone : (N : Numbering) (s : Scope) (p : code.Piece) (y : ℕ) (old new : List Step) → p ≡ piece.Alone y → Puts old new (readied N s y) → Puts old new (ready N s (piece_of p ∷ []))
piece-alone N s p y old new is h e = h e ∙ ap (λ v. before old (ready N s (piece_of v ∷ []) e)) (sym is)

pub piece-those : (N : Numbering) (s : Scope) (p : code.Piece) (from count : ℕ) (old : List Step) → p ≡ piece.Those from count → Puts old old (ready N s (piece_of p ∷ []))
piece-those N s p from count old is e = ap (λ v. before old (ready N s (piece_of v ∷ []) e)) (sym is)

pub cell-next : (ps : List code.Piece) (i n : ℕ) (p d : code.Piece) (now new : List made.Piece) (q : made.Piece) → n ≡ i + 1 → i < length ps → p ≡ get_or ps i d → new ≡ now ++ q ∷ [] → made_piece q ≡ piece_as (piece_of p)
    → map made_piece now ≡ piece_list (pieces_of (take i ps)) → map made_piece new ≡ piece_list (pieces_of (take n ps))
cell-next ps i n p d now new q m lt is e h inv =
    ap (map made_piece) e ∙ map-last made_piece now q ∙ ap₂ (λ l r. l ++ r ∷ []) (inv ∙ pieces-mapped (pieces_of (take i ps))) h
    ∙ sym (map-last piece_as (pieces_of (take i ps)) (piece_of p)) ∙ sym (pieces-mapped (pieces_of (take i ps) ++ piece_of p ∷ []))
    ∙ ap piece_list (sym (map-last piece_of (take i ps) p) ∙ ap pieces_of (ap (λ y. take i ps ++ y ∷ []) is ∙ sym (take_more ps i d lt) ∙ ap (λ j. take j ps) (sym m)))

pub cell-all : (ps : List code.Piece) (i : ℕ) (now : List made.Piece) → take i ps ≡ ps → map made_piece now ≡ piece_list (pieces_of (take i ps)) → map made_piece now ≡ piece_list (pieces_of ps)
cell-all ps i now h inv = inv ∙ ap (λ l. piece_list (pieces_of l)) h

pub closure-made : (N : Numbering) (s : Scope) (ps : List Piece) (x k tag : ℕ) (rs : List cells.Piece) (old now new : List Step) → Puts old now (ready N s ps) → rs ≡ piece_list ps → tag ≡ N.tag k → Puts now new (out.let_in x (out.make tag rs)) → Puts old new (made_of N s ps x k)
closure-made N s ps x k tag rs old now new p h t q e = q e ∙ ap₂ (λ i l. before now (out.let_in x (out.make i l) e)) t h ∙ p (out.let_in x (out.make (N.tag k) (piece_list ps)) e)
