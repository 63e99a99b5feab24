-- What `open` and directives name, and a directive's precedence.
use Rattle.std.proofs.Common.{◌≡◌, ℕ, zero, suc, ℤ, pos, ◌≤◌, ◌<◌, List, [], ◌∷◌, length, Option, Some, None, Bool, true, false, inl, inr, refl, sym, ap, subst, arith, nat_le, if◌then◌else◌}
use Rattle.std.proofs.lemmas.Bool.{leb-true, le-leb}
use Rattle.sml_tree.specs.Terminal.{LongId, Terminal, number, IsVid, alpha_vid, symbol_vid, star_vid, IsLongStrid}
use Rattle.sml_tree.specs.ReadTree.{Placed}
use Rattle.sml_tree.specs.Grammar.{is_placed_strid, Strids, last_strid, more_strids, DirectiveVids, last_vid, more_vids, ReadsPrecedence, no_precedence, a_precedence}
use Rattle.sml_grammar.specs.Answer.{Read, Answer, ok, deep, read, Turn, last, more, many}
use Rattle.sml_grammar.specs.Terminals.{Taken, taken, place_of, first_as, as_long_strid, as_vid, separated, NoState, no_state}
use Rattle.sml_grammar.specs.Bindings.{put_more, strid_turn, read_strids, vid_turn, read_vids, digit, as_digit, precedence_then}
use Rattle.sml_grammar.proofs.Answers.{got_some, not_some, on_taken-split, then_taken-ok, then_taken-deep, then_taken-step, separated-ok, separated-deep, GoodTurn, many-ok, many-far, many-last, many-more}
use Rattle.sml_grammar.proofs.Terminals.{Holds, holds, nothing, Front, front, front-is, long_strid-is, long_strid-found, vid-is, vid-found}

-- the loop goes on exactly where a further one is, and takes nothing to see it
put_more-some : {B : Type 0} (x : Option (Taken B)) (o m : List Terminal) → put_more x o ≡ Some m → o ≡ m
put_more-some None o m h = not_some h
put_more-some (Some x) o m h = got_some h

put_more-none : {B : Type 0} {x : Option (Taken B)} (o : List Terminal) → x ≡ None → put_more x o ≡ None
put_more-none o e = rw e refl

put_more-taken : {B : Type 0} {x : Option (Taken B)} {b : B} {m : List Terminal} (o : List Terminal) → x ≡ taken b m → put_more x o ≡ Some o
put_more-taken o e = rw e refl

-- structures' identifiers

abbrev StridsTurn : NoState → List Terminal → List (Placed LongId) → List Terminal → Type 0
StridsTurn s i xs o = Strids i xs o

strid-placed : {i : List Terminal} {x : Placed LongId} {o : List Terminal} → Front IsLongStrid i x o → (xs : List (Placed LongId)) (k : List Terminal) → Strids o xs k → Strids i (x ∷ xs) k
strid-placed (front c) xs k d = more_strids (is_placed_strid c) d

strid-last : {i : List Terminal} {x : Placed LongId} {o : List Terminal} → Front IsLongStrid i x o → Strids i (x ∷ []) o
strid-last (front c) = last_strid (is_placed_strid c)

strid-turn-ok : (s : NoState) (i : List Terminal) (y : Read (Turn (List (Placed LongId)) NoState)) → strid_turn s i ≡ ok y → GoodTurn StridsTurn s i y.tree y.rest
strid-turn-ok s i y h =
    let t = then_taken-ok (first_as as_long_strid i) (λ x o. separated (put_more (first_as as_long_strid o) o) (λ xs. x ∷ xs) (x ∷ []) s o) y h in
    let f = long_strid-is i t.0 t.1 t.2 in
    elim (separated-ok (put_more (first_as as_long_strid t.1) t.1) (λ xs. t.0 ∷ xs) (t.0 ∷ []) s t.1 t.3) [
      | inl u ↦ subst (λ (z : Read (Turn (List (Placed LongId)) NoState)). GoodTurn StridsTurn s i z.tree z.rest) u.1 (strid-last f)
      | inr u ↦ subst (λ (z : Read (Turn (List (Placed LongId)) NoState)). GoodTurn StridsTurn s i z.tree z.rest) u.2
          (λ xs k d. strid-placed f xs k (subst (λ (z : List Terminal). Strids z xs k) (sym (put_more-some (first_as as_long_strid t.1) t.1 u.0 u.1)) d))
    ]

pub strids-sound : (i : List Terminal) (y : Read (List (Placed LongId))) → read_strids i ≡ ok y → Strids i y.tree y.rest
strids-sound i y h = many-ok strid_turn StridsTurn strid-turn-ok (suc (length i)) no_state i y h

strid-turn-deep : {A : Type 0} (s : NoState) (i : List Terminal) → strid_turn s i ≡ deep → A
strid-turn-deep s i h =
    let t = then_taken-deep (first_as as_long_strid i) (λ x o. separated (put_more (first_as as_long_strid o) o) (λ xs. x ∷ xs) (x ∷ []) s o) h in
    separated-deep (put_more (first_as as_long_strid t.1) t.1) (λ xs. t.0 ∷ xs) (t.0 ∷ []) s t.1 t.3

pub strids-never-deep : {A : Type 0} (i : List Terminal) → read_strids i ≡ deep → A
strids-never-deep {A} i h = many-far strid_turn (λ s m. A) (λ s k e. strid-turn-deep s k e) (λ s k put t o e a. a) (suc (length i)) no_state i h

strids-first : {i o : List Terminal} {xs : List (Placed LongId)} → Strids i xs o → put_more (first_as as_long_strid i) i ≡ Some i
strids-first (last_strid {t} {o} (is_placed_strid c)) = put_more-taken (t ∷ o) (long_strid-found c o)
strids-first (more_strids {t} {i} (is_placed_strid c) d) = put_more-taken (t ∷ i) (long_strid-found c i)

abbrev after_strid : NoState → Placed LongId → List Terminal → Answer (Turn (List (Placed LongId)) NoState)
after_strid s x o = separated (put_more (first_as as_long_strid o) o) (λ xs. x ∷ xs) (x ∷ []) s o

strid-ends : (x : Placed LongId) (o : List Terminal) → first_as as_long_strid o ≡ None → after_strid no_state x o ≡ read (last (x ∷ [])) o
strid-ends x o e = ap (λ z. separated z (λ xs. x ∷ xs) (x ∷ []) no_state o) (put_more-none o e)

strid-goes : (x : Placed LongId) {i o : List Terminal} {xs : List (Placed LongId)} → Strids i xs o → after_strid no_state x i ≡ read (more (λ ys. x ∷ ys) no_state) i
strid-goes x {i} d = ap (λ z. separated z (λ ys. x ∷ ys) (x ∷ []) no_state i) (strids-first d)

strids-turns : {i o : List Terminal} {xs : List (Placed LongId)} → Strids i xs o → first_as as_long_strid o ≡ None → (k : ℕ) → length i < k → many strid_turn k no_state i ≡ read xs o
strids-turns d e zero lt = absurd (omega arith)
strids-turns (last_strid {t} {o} {x} (is_placed_strid c)) e (suc k) lt = many-last strid_turn k (then_taken-step (after_strid no_state) (long_strid-found c o) (strid-ends x o e))
strids-turns (more_strids {t} {i} {x} (is_placed_strid c) d) e (suc k) lt =
    many-more strid_turn k (then_taken-step (after_strid no_state) (long_strid-found c i) (strid-goes x d)) (strids-turns d e k (omega arith))

pub strids-complete : {i o : List Terminal} {xs : List (Placed LongId)} → Strids i xs o → first_as as_long_strid o ≡ None → read_strids i ≡ read xs o
strids-complete {i} d e = strids-turns d e (suc (length i)) (omega arith)

pub strids-shorter : {i o : List Terminal} {xs : List (Placed LongId)} → Strids i xs o → length o < length i
strids-shorter (last_strid c) = omega arith
strids-shorter (more_strids c d) = let s = strids-shorter d in omega arith

-- the identifiers of a directive

abbrev VidsTurn : NoState → List Terminal → List ℕ → List Terminal → Type 0
VidsTurn s i xs o = DirectiveVids i xs o

vid-more : {i : List Terminal} {x : Placed ℕ} {o : List Terminal} → Front IsVid i x o → (xs : List ℕ) (k : List Terminal) → DirectiveVids o xs k → DirectiveVids i (x.it ∷ xs) k
vid-more (front c) xs k d = more_vids c d

vid-last : {i : List Terminal} {x : Placed ℕ} {o : List Terminal} → Front IsVid i x o → DirectiveVids i (x.it ∷ []) o
vid-last (front c) = last_vid c

abbrev after_vid : NoState → Placed ℕ → List Terminal → Answer (Turn (List ℕ) NoState)
after_vid s x o = separated (put_more (first_as as_vid o) o) (λ xs. x.it ∷ xs) (x.it ∷ []) s o

vid-turn-ok : (s : NoState) (i : List Terminal) (y : Read (Turn (List ℕ) NoState)) → vid_turn s i ≡ ok y → GoodTurn VidsTurn s i y.tree y.rest
vid-turn-ok s i y h =
    let t = then_taken-ok (first_as as_vid i) (after_vid s) y h in
    let f = vid-is i t.0 t.1 t.2 in
    elim (separated-ok (put_more (first_as as_vid t.1) t.1) (λ xs. t.0.it ∷ xs) (t.0.it ∷ []) s t.1 t.3) [
      | inl u ↦ subst (λ (z : Read (Turn (List ℕ) NoState)). GoodTurn VidsTurn s i z.tree z.rest) u.1 (vid-last f)
      | inr u ↦ subst (λ (z : Read (Turn (List ℕ) NoState)). GoodTurn VidsTurn s i z.tree z.rest) u.2
          (λ xs k d. vid-more f xs k (subst (λ (z : List Terminal). DirectiveVids z xs k) (sym (put_more-some (first_as as_vid t.1) t.1 u.0 u.1)) d))
    ]

pub vids-sound : (i : List Terminal) (y : Read (List ℕ)) → read_vids i ≡ ok y → DirectiveVids i y.tree y.rest
vids-sound i y h = many-ok vid_turn VidsTurn vid-turn-ok (suc (length i)) no_state i y h

vid-turn-deep : {A : Type 0} (s : NoState) (i : List Terminal) → vid_turn s i ≡ deep → A
vid-turn-deep s i h =
    let t = then_taken-deep (first_as as_vid i) (after_vid s) h in
    separated-deep (put_more (first_as as_vid t.1) t.1) (λ xs. t.0.it ∷ xs) (t.0.it ∷ []) s t.1 t.3

pub vids-never-deep : {A : Type 0} (i : List Terminal) → read_vids i ≡ deep → A
vids-never-deep {A} i h = many-far vid_turn (λ s m. A) (λ s k e. vid-turn-deep s k e) (λ s k put t o e a. a) (suc (length i)) no_state i h

vids-first : {i o : List Terminal} {xs : List ℕ} → DirectiveVids i xs o → put_more (first_as as_vid i) i ≡ Some i
vids-first (last_vid {t} {o} c) = put_more-taken (t ∷ o) (vid-found c o)
vids-first (more_vids {t} {i} c d) = put_more-taken (t ∷ i) (vid-found c i)

vid-ends : (x : Placed ℕ) (o : List Terminal) → first_as as_vid o ≡ None → after_vid no_state x o ≡ read (last (x.it ∷ [])) o
vid-ends x o e = ap (λ z. separated z (λ xs. x.it ∷ xs) (x.it ∷ []) no_state o) (put_more-none o e)

vid-goes : (x : Placed ℕ) {i o : List Terminal} {xs : List ℕ} → DirectiveVids i xs o → after_vid no_state x i ≡ read (more (λ ys. x.it ∷ ys) no_state) i
vid-goes x {i} d = ap (λ z. separated z (λ ys. x.it ∷ ys) (x.it ∷ []) no_state i) (vids-first d)

vids-turns : {i o : List Terminal} {xs : List ℕ} → DirectiveVids i xs o → first_as as_vid o ≡ None → (k : ℕ) → length i < k → many vid_turn k no_state i ≡ read xs o
vids-turns d e zero lt = absurd (omega arith)
vids-turns (last_vid {t} {o} {p} {x} c) e (suc k) lt = many-last vid_turn k (then_taken-step (after_vid no_state) (vid-found c o) (vid-ends (record { place = p; it = x }) o e))
vids-turns (more_vids {t} {i} {p} {x} c d) e (suc k) lt =
    many-more vid_turn k (then_taken-step (after_vid no_state) (vid-found c i) (vid-goes (record { place = p; it = x }) d)) (vids-turns d e k (omega arith))

pub vids-complete : {i o : List Terminal} {xs : List ℕ} → DirectiveVids i xs o → first_as as_vid o ≡ None → read_vids i ≡ read xs o
vids-complete {i} d e = vids-turns d e (suc (length i)) (omega arith)

pub vids-shorter : {i o : List Terminal} {xs : List ℕ} → DirectiveVids i xs o → length o < length i
vids-shorter (last_vid c) = omega arith
vids-shorter (more_vids c d) = let s = vids-shorter d in omega arith

-- a directive's precedence

data IsDigit : Terminal → ℕ → ℕ → Type 0 where
  is_digit : (p d : ℕ) → d ≤ 9 → IsDigit (number p (pos d) true) p d

number-digit : (p : ℕ) (n : ℤ) (plain : Bool) → Holds (IsDigit (number p n plain) p) (digit n plain)
number-digit p (pos d) true = go (nat_le d 9) refl
  where
    go : (b : Bool) → nat_le d 9 ≡ b → Holds (IsDigit (number p (pos d) true) p) (if b then Some d else None)
    go true e = holds (is_digit p d (leb-true d 9 e))
    go false e = nothing
number-digit p _ _ = nothing

digit-holds : (t : Terminal) → Holds (IsDigit t (place_of t)) (as_digit t)
digit-holds (number p n plain) = number-digit p n plain
digit-holds _ = nothing

-- what follows the precedence gives the answer
pub precedence-sound : {A : Type 0} (g : ℕ → List Terminal → Answer A) (i : List Terminal) {z : Answer A} → precedence_then g i ≡ z → (d : ℕ) × (m : List Terminal) × ReadsPrecedence i d m × (g d m ≡ z)
precedence-sound g i h = elim (on_taken-split (first_as as_digit i) (λ d o. g d.it o) (g 0 i) h) [
  | inl u ↦ (u.0.it, u.1, go (front-is as_digit IsDigit digit-holds i u.0 u.1 u.2), u.3)
  | inr u ↦ (0, i, no_precedence, u.1)
]
  where
    go : {i : List Terminal} {x : Placed ℕ} {o : List Terminal} → Front IsDigit i x o → ReadsPrecedence i x.it o
    go (front (is_digit p d le)) = a_precedence p d le

pub precedence-complete : {A : Type 0} (g : ℕ → List Terminal → Answer A) {i m : List Terminal} {d : ℕ} → ReadsPrecedence i d m → first_as as_digit m ≡ None → precedence_then g i ≡ g d m
precedence-complete g no_precedence e = rw e refl
precedence-complete g (a_precedence p d le) e = let c : nat_le d 9 ≡ true = le-leb d 9 le in rw c refl

vid-no_digit : {t : Terminal} {p x : ℕ} → IsVid t p x → (o : List Terminal) → first_as as_digit (t ∷ o) ≡ None
vid-no_digit (alpha_vid p x) o = refl
vid-no_digit (symbol_vid p x) o = refl
vid-no_digit (star_vid p x) o = refl

pub vids-no_digit : {i o : List Terminal} {xs : List ℕ} → DirectiveVids i xs o → first_as as_digit i ≡ None
vids-no_digit (last_vid {o} c) = vid-no_digit c o
vids-no_digit (more_vids {i} c d) = vid-no_digit c i

pub precedence-shorter : {i o : List Terminal} {d : ℕ} → ReadsPrecedence i d o → length o ≤ length i
precedence-shorter no_precedence = omega arith
precedence-shorter (a_precedence p d le) = omega arith
