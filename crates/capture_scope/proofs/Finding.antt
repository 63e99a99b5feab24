-- Where a variable is found, and pieces.
use Rattle.std.proofs.Common.{◌≡◌, ℕ, zero, suc, ◌+◌, ◌-◌, ◌<◌, ◌≤◌, Bool, true, false, ◌||◌, List, [], ◌∷◌, ◌++◌, reverse, take, drop, length, Some, None, nat_eq, nat_lt, if◌then◌else◌, get_or, refl, sym, ap, ap₂, subst, ◌∙◌, arith}
use Rattle.std.specs.Prelude.{position}
use Rattle.std.specs.List.{position_or_len}
use Rattle.std.proofs.lemmas.Bool.{ltb-true, ltb-false}
use Rattle.std.proofs.lemmas.List.{reverse-append, drop_more}
use Rattle.closure_convert.specs.of_flow_sets.Member.{is_in}
use Rattle.closure_convert.specs.Scope.{Scope, Member, names, Way, no_way, leads, follows, is_way, way_in, way, index_of, Piece, alone, those}
use Rattle.closure_convert.specs.Capture.{is_outer, add_run, cut}
use Rattle.closure_convert.specs.Counts.{AreDistinct}
use Rattle.capture_scope.specs.declared.piece.Piece as code_piece
use Rattle.capture_scope.specs.declared.scope.Member as code
use Rattle.capture_scope.specs.Seen.{members_of, scope_in, IsSeen}
use Rattle.capture_scope.specs.Found.{piece_of, pieces_of, pieces_back, joined_run, with_piece, local, captured, following, nowhere, found_around, found_in, follower_found, member_found}
use Rattle.capture_scope.proofs.Lists.{in-append, in-reverse, place-is, index-in, index-out, index-front, index-back, apart, distinct-back}
use Rattle.capture_scope.proofs.Seen.{seen-parts, names-long}

-- A group's functions

no-way-in : (y : ℕ) (ms : List Member) → is_in y (names ms) ≡ false → way_in y ms ≡ no_way
no-way-in y [] h = refl
no-way-in y (m ∷ ms) h = by (nat_eq y m.name) (λ k. no-way-in y ms k) h
  where
    by : (b : Bool) → (is_in y (names ms) ≡ false → way_in y ms ≡ no_way) → (b || is_in y (names ms)) ≡ false → (if b then follows m.number else way_in y ms) ≡ no_way
    by true f h = absurd (cc)
    by false f h = f h

no-way : (y : ℕ) (ms : List Member) → is_in y (names ms) ≡ false → way y ms ≡ no_way
no-way y [] h = refl
no-way y (m ∷ ms) h = by (nat_eq y m.name) h
  where
    by : (b : Bool) → (b || is_in y (names ms)) ≡ false → (if b then leads else way_in y ms) ≡ no_way
    by true h = absurd (cc)
    by false h = no-way-in y ms h

follower-at : (s : Scope) (y : ℕ) (ms : List Member) → is_in y (names ms) ≡ true → found_around s y (way_in y ms) ≡ follower_found ms (index_of y (names ms))
follower-at s y [] h = absurd (cc)
follower-at s y (m ∷ ms) h = by (nat_eq y m.name) (λ k. follower-at s y ms k) h
  where
    by : (b : Bool) → (is_in y (names ms) ≡ true → found_around s y (way_in y ms) ≡ follower_found ms (index_of y (names ms))) → (b || is_in y (names ms)) ≡ true
        → found_around s y (if b then follows m.number else way_in y ms) ≡ follower_found (m ∷ ms) (if b then zero else suc (index_of y (names ms)))
    by true f h = refl
    by false f h = f h

member-at : (s : Scope) (y : ℕ) (ms : List Member) → is_in y (names ms) ≡ true → found_around s y (way y ms) ≡ member_found ms (index_of y (names ms))
member-at s y [] h = absurd (cc)
member-at s y (m ∷ ms) h = by (nat_eq y m.name) h
  where
    by : (b : Bool) → (b || is_in y (names ms)) ≡ true → found_around s y (if b then leads else way_in y ms) ≡ member_found (m ∷ ms) (if b then zero else suc (index_of y (names ms)))
    by true h = refl
    by false h = follower-at s y ms h

follower-past : (ms : List Member) (i : ℕ) → length ms ≤ i → follower_found ms i ≡ local
follower-past [] i h = refl
follower-past (m ∷ ms) zero h = absurd (omega (arith, h))
follower-past (m ∷ ms) (suc i) h = follower-past ms i (omega (arith, h))

pub member-past : (ms : List Member) (i : ℕ) → length ms ≤ i → member_found ms i ≡ local
member-past [] i h = refl
member-past (m ∷ ms) zero h = absurd (omega (arith, h))
member-past (m ∷ ms) (suc i) h = follower-past ms i (omega (arith, h))

follower-get : (group : List code.Member) (i : ℕ) (d : code.Member) → i < length group → following (get_or group i d).number ≡ follower_found (members_of group) i
follower-get [] i d h = absurd (omega (arith, h))
follower-get (m ∷ ms) zero d h = refl
follower-get (m ∷ ms) (suc i) d h = follower-get ms i d (omega (arith, h))

pub member-get : (group : List code.Member) (i : ℕ) (d : code.Member) → (i ≡ 0 → ⊥) → i < length group → following (get_or group i d).number ≡ member_found (members_of group) i
member-get [] i d n h = absurd (omega (arith, h))
member-get (m ∷ ms) zero d n h = absurd (n refl)
member-get (m ∷ ms) (suc i) d n h = follower-get ms i d (omega (arith, h))

-- A variable

take-long : (c : ℕ) (xs : List ℕ) → c ≤ length xs → length (take c xs) ≡ c
take-long zero xs h = refl
take-long (suc c) [] h = absurd (omega (arith, h))
take-long (suc c) (x ∷ xs) h = ap suc (take-long c xs (omega (arith, h)))

module _ (xs : List ℕ) (c : ℕ) (ms : List Member) (s : IsSeen xs c ms) (d : AreDistinct xs) (y : ℕ) where
  abbrev S : Scope
  S = scope_in xs c ms

  abbrev front : List ℕ
  front = take c xs

  abbrev back : List ℕ
  back = drop (c + length ms) xs

  parts : xs ≡ front ++ (names ms ++ back)
  parts = sym (seen-parts xs c ms s)

  once : AreDistinct (front ++ (names ms ++ back))
  once = subst AreDistinct parts d

  front-long : length front ≡ c
  front-long = take-long c xs (let w = s.within in omega (arith, w))

  of-locals : (b : Bool) → is_in y back ≡ b → is_in y S.locals ≡ b
  of-locals b q = in-reverse y back ∙ q

  when-in : (b : Bool) → is_in y S.locals ≡ b → found_in S y ≡ (if b then local else found_around S y (way y ms))
  when-in b q = ap (λ b. if b then local else found_around S y (way y ms)) q

  index-parts : index_of y xs ≡ index_of y (front ++ (names ms ++ back))
  index-parts = ap (index_of y) parts

  -- it was captured
  in-front : is_in y front ≡ true → (index_of y xs < c) × (found_in S y ≡ captured (index_of y xs))
  in-front h =
      let i : index_of y xs ≡ index_of y front = index-parts ∙ index-front y front (names ms ++ back) h in
      let l = index-in y front h in
      let n : is_in y (names ms ++ back) ≡ false = apart y front (names ms ++ back) once h in
      let a : (is_in y (names ms) || is_in y back) ≡ false = sym (in-append y (names ms) back) ∙ n in (
        let fl = front-long in omega (arith, i, l, fl),
        when-in false (of-locals false (right (is_in y (names ms)) (is_in y back) a))
            ∙ ap (found_around S y) (no-way y ms (left (is_in y (names ms)) (is_in y back) a)) ∙ ap (λ b. if b then captured (index_of y front) else nowhere) h ∙ ap captured (sym i),
      )
    where
      left : (a b : Bool) → (a || b) ≡ false → a ≡ false
      left true b e = absurd (cc)
      left false b e = refl

      right : (a b : Bool) → (a || b) ≡ false → b ≡ false
      right true b e = absurd (cc)
      right false b e = e

  -- it is of the group
  in-group : is_in y front ≡ false → is_in y (names ms) ≡ true → (c ≤ index_of y xs) × ((index_of y xs < c + length ms) × (found_in S y ≡ member_found ms (index_of y xs - c)))
  in-group n h =
      let fl = front-long in
      let nl = names-long ms in
      let i : index_of y xs ≡ length front + index_of y (names ms) = index-parts ∙ index-back y front (names ms ++ back) n ∙ ap (λ k. length front + k) (index-front y (names ms) back h) in
      let l = index-in y (names ms) h in
      let o : is_in y back ≡ false = apart y (names ms) back (distinct-back front (names ms ++ back) once) h in (
        omega (arith, i, fl),
        (
          omega (arith, i, fl, l, nl),
          when-in false (of-locals false o) ∙ member-at S y ms h ∙ ap (member_found ms) (let e : index_of y (names ms) ≡ index_of y xs - c = omega (arith, i, fl) in e),
        ),
      )

  -- it is bound in the body
  in-body : is_in y front ≡ false → is_in y (names ms) ≡ false → is_in y back ≡ true → (c + length ms ≤ index_of y xs) × (found_in S y ≡ member_found ms (index_of y xs - c))
  in-body n m h =
      let fl = front-long in
      let nl = names-long ms in
      let i : index_of y xs ≡ length front + (length (names ms) + index_of y back) = index-parts ∙ index-back y front (names ms ++ back) n ∙ ap (λ k. length front + k) (index-back y (names ms) back m) in
      (omega (arith, i, fl, nl), when-in true (of-locals true h) ∙ sym (member-past ms (index_of y xs - c) (omega (arith, i, fl, nl))))

  not-in : is_in y front ≡ false → is_in y (names ms) ≡ false → is_in y back ≡ false → found_in S y ≡ nowhere
  not-in n m h = when-in false (of-locals false h) ∙ ap (found_around S y) (no-way y ms m) ∙ ap (λ b. if b then captured (index_of y front) else nowhere) n

  in-parts : is_in y xs ≡ (is_in y front || (is_in y (names ms) || is_in y back))
  in-parts = ap (is_in y) parts ∙ in-append y front (names ms ++ back) ∙ ap (λ b. is_in y front || b) (in-append y (names ms) back)

  -- what an index says
  some-place : (i : ℕ) → position (nat_eq y) xs ≡ Some i → (index_of y xs ≡ i) × (i < length xs)
  some-place i e = by (nat_lt (position_or_len (nat_eq y) xs) (length xs)) refl e
    where
      by : (b : Bool) → nat_lt (position_or_len (nat_eq y) xs) (length xs) ≡ b → (if b then Some (position_or_len (nat_eq y) xs) else None) ≡ Some i → (index_of y xs ≡ i) × (i < length xs)
      by true q e =
          let p : position_or_len (nat_eq y) xs ≡ i = (cc) in
          let l : position_or_len (nat_eq y) xs < length xs = ltb-true (position_or_len (nat_eq y) xs) (length xs) q in
          (sym (place-is y xs) ∙ p, omega (arith, p, l))
      by false q e = absurd (cc)

  no-place : position (nat_eq y) xs ≡ None → is_in y xs ≡ false
  no-place e = by (nat_lt (position_or_len (nat_eq y) xs) (length xs)) refl e (is_in y xs) refl
    where
      by : (b : Bool) → nat_lt (position_or_len (nat_eq y) xs) (length xs) ≡ b → (if b then Some (position_or_len (nat_eq y) xs) else None) ≡ None → (a : Bool) → is_in y xs ≡ a → a ≡ false
      by true q e a h = absurd (cc)
      by false q e false h = refl
      by false q e true h =
          let l : length xs ≤ position_or_len (nat_eq y) xs = ltb-false (position_or_len (nat_eq y) xs) (length xs) q in
          let p = place-is y xs in let i = index-in y xs h in absurd (omega (arith, l, p, i))

  by-parts : (a b e : Bool) → is_in y front ≡ a → is_in y (names ms) ≡ b → is_in y back ≡ e → (i : ℕ) → index_of y xs ≡ i → i < length xs
      → found_in S y ≡ (if nat_lt i c then captured i else member_found ms (i - c))
  by-parts true b e qa qb qe i qi h =
      let f = in-front qa in
      f.1 ∙ ap captured qi ∙ sym (when-less i (let l = f.0 in omega (arith, l, qi)))
    where
      when-less : (i : ℕ) → i < c → (if nat_lt i c then captured i else member_found ms (i - c)) ≡ captured i
      when-less i h = go (nat_lt i c) refl
        where
          go : (b : Bool) → nat_lt i c ≡ b → (if b then captured i else member_found ms (i - c)) ≡ captured i
          go true q = refl
          go false q = let l : c ≤ i = ltb-false i c q in absurd (omega (arith, l, h))
  by-parts false true e qa qb qe i qi h =
      let f = in-group qa qb in
      f.1.1 ∙ ap (λ k. member_found ms (k - c)) qi ∙ sym (when-more i (let l = f.0 in omega (arith, l, qi)))
    where
      when-more : (i : ℕ) → c ≤ i → (if nat_lt i c then captured i else member_found ms (i - c)) ≡ member_found ms (i - c)
      when-more i h = go (nat_lt i c) refl
        where
          go : (b : Bool) → nat_lt i c ≡ b → (if b then captured i else member_found ms (i - c)) ≡ member_found ms (i - c)
          go true q = let l : i < c = ltb-true i c q in absurd (omega (arith, l, h))
          go false q = refl
  by-parts false false true qa qb qe i qi h =
      let f = in-body qa qb qe in
      f.1 ∙ ap (λ k. member_found ms (k - c)) qi ∙ sym (when-more i (let l = f.0 in omega (arith, l, qi)))
    where
      when-more : (i : ℕ) → c ≤ i → (if nat_lt i c then captured i else member_found ms (i - c)) ≡ member_found ms (i - c)
      when-more i h = go (nat_lt i c) refl
        where
          go : (b : Bool) → nat_lt i c ≡ b → (if b then captured i else member_found ms (i - c)) ≡ member_found ms (i - c)
          go true q = let l : i < c = ltb-true i c q in absurd (omega (arith, l, h))
          go false q = refl
  by-parts false false false qa qb qe i qi h =
      let o = index-out y xs (in-parts ∙ ap₂ (λ u v. u || v) qa (ap₂ (λ u v. u || v) qb qe)) in absurd (omega (arith, o, qi, h))

  pub found-at : (i : ℕ) → position (nat_eq y) xs ≡ Some i → found_in S y ≡ (if nat_lt i c then captured i else member_found ms (i - c))
  found-at i e = let p = some-place i e in by-parts (is_in y front) (is_in y (names ms)) (is_in y back) refl refl refl i p.0 p.1

  -- what is found at a place of what was captured, and elsewhere
  pub found-captured : (i : ℕ) → position (nat_eq y) xs ≡ Some i → i < c → found_in S y ≡ captured i
  found-captured i e h = found-at i e ∙ go (nat_lt i c) refl
    where
      go : (b : Bool) → nat_lt i c ≡ b → (if b then captured i else member_found ms (i - c)) ≡ captured i
      go true q = refl
      go false q = let l : c ≤ i = ltb-false i c q in absurd (omega (arith, l, h))

  pub found-behind : (i : ℕ) → position (nat_eq y) xs ≡ Some i → c ≤ i → found_in S y ≡ member_found ms (i - c)
  found-behind i e h = found-at i e ∙ go (nat_lt i c) refl
    where
      go : (b : Bool) → nat_lt i c ≡ b → (if b then captured i else member_found ms (i - c)) ≡ member_found ms (i - c)
      go true q = let l : i < c = ltb-true i c q in absurd (omega (arith, l, h))
      go false q = refl

  pub found-nowhere : position (nat_eq y) xs ≡ None → found_in S y ≡ nowhere
  found-nowhere e = by (is_in y front) (is_in y (names ms)) (is_in y back) refl refl refl (sym in-parts ∙ no-place e)
    where
      by : (a b e : Bool) → is_in y front ≡ a → is_in y (names ms) ≡ b → is_in y back ≡ e → (a || (b || e)) ≡ false → found_in S y ≡ nowhere
      by true b e qa qb qe h = absurd (cc)
      by false true e qa qb qe h = absurd (cc)
      by false false true qa qb qe h = absurd (cc)
      by false false false qa qb qe h = not-in qa qb qe

-- Pieces

pub with-captured : (s : Scope) (y i : ℕ) (ps : List Piece) → found_in s y ≡ captured i → with_piece s y ps ≡ add_run i ps
with-captured s y i ps h = by (is_in y s.locals) refl (way y s.group) refl (is_in y s.captured) refl h
  where
    by : (a : Bool) → is_in y s.locals ≡ a → (w : Way) → way y s.group ≡ w → (b : Bool) → is_in y s.captured ≡ b → (if a then local else found_around s y w) ≡ captured i → with_piece s y ps ≡ add_run i ps
    by true qa w qw b qb e = absurd (cc)
    by false qa no_way qw true qb e =
        let p : captured (index_of y s.captured) ≡ captured i = sym (ap (λ b. if b then captured (index_of y s.captured) else nowhere) qb) ∙ e in
        let k : index_of y s.captured ≡ i = (cc) in
        ap (λ q. if q then add_run (index_of y s.captured) ps else alone y ∷ ps) (ap (λ a. if a then false else (if is_way (way y s.group) then false else is_in y s.captured)) qa ∙ ap (λ w. if is_way w then false else is_in y s.captured) qw ∙ qb)
        ∙ ap (λ j. add_run j ps) k
    by false qa no_way qw false qb e = let p : nowhere ≡ captured i = sym (ap (λ b. if b then captured (index_of y s.captured) else nowhere) qb) ∙ e in absurd (cc)
    by false qa leads qw b qb e = absurd (cc)
    by false qa (follows k) qw b qb e = absurd (cc)

pub with-other : (s : Scope) (y : ℕ) (ps : List Piece) → ((i : ℕ) → found_in s y ≡ captured i → ⊥) → with_piece s y ps ≡ alone y ∷ ps
with-other s y ps h = by (is_in y s.locals) refl (way y s.group) refl (is_in y s.captured) refl
  where
    outer-is : (a : Bool) → is_in y s.locals ≡ a → (w : Way) → way y s.group ≡ w → is_outer s y ≡ (if a then false else (if is_way w then false else is_in y s.captured))
    outer-is a qa w qw = ap (λ a. if a then false else (if is_way (way y s.group) then false else is_in y s.captured)) qa ∙ ap (λ w. if a then false else (if is_way w then false else is_in y s.captured)) qw

    found-is : (a : Bool) → is_in y s.locals ≡ a → (w : Way) → way y s.group ≡ w → found_in s y ≡ (if a then local else found_around s y w)
    found-is a qa w qw = ap (λ a. if a then local else found_around s y (way y s.group)) qa ∙ ap (λ w. if a then local else found_around s y w) qw

    with-is : is_outer s y ≡ false → with_piece s y ps ≡ alone y ∷ ps
    with-is q = ap (λ q. if q then add_run (index_of y s.captured) ps else alone y ∷ ps) q

    by : (a : Bool) → is_in y s.locals ≡ a → (w : Way) → way y s.group ≡ w → (b : Bool) → is_in y s.captured ≡ b → with_piece s y ps ≡ alone y ∷ ps
    by true qa w qw b qb = with-is (outer-is true qa w qw)
    by false qa no_way qw true qb = absurd (h (index_of y s.captured) (found-is false qa no_way qw ∙ ap (λ b. if b then captured (index_of y s.captured) else nowhere) qb))
    by false qa no_way qw false qb = with-is (outer-is false qa no_way qw ∙ qb)
    by false qa leads qw b qb = with-is (outer-is false qa leads qw)
    by false qa (follows k) qw b qb = with-is (outer-is false qa (follows k) qw)

pub back-more : (ps : List code_piece.Piece) (p : code_piece.Piece) → pieces_back (ps ++ p ∷ []) ≡ piece_of p ∷ pieces_back ps
back-more ps p = ap reverse (map-last ps) ∙ reverse-append (pieces_of ps) (piece_of p ∷ [])
  where
    map-last : (qs : List code_piece.Piece) → pieces_of (qs ++ p ∷ []) ≡ pieces_of qs ++ piece_of p ∷ []
    map-last [] = refl
    map-last (q ∷ qs) = ap (λ l. piece_of q ∷ l) (map-last qs)

pub run-joined : (i : ℕ) (p : Piece) (ps : List Piece) (r : Piece) → joined_run i p ≡ Some r → add_run i (p ∷ ps) ≡ r ∷ ps
run-joined i (alone y) ps r e = absurd (cc)
run-joined i (those j n) ps r e = by (nat_eq j (suc i)) e
  where
    by : (b : Bool) → (if b then Some (those i (suc n)) else None) ≡ Some r → (if b then those i (suc n) ∷ ps else those i (suc zero) ∷ (those j n ∷ ps)) ≡ r ∷ ps
    by true e = ap (λ q. q ∷ ps) (let k : those i (suc n) ≡ r = (cc) in k)
    by false e = absurd (cc)

pub run-alone : (i : ℕ) (p : Piece) (ps : List Piece) → joined_run i p ≡ None → add_run i (p ∷ ps) ≡ those i (suc zero) ∷ (p ∷ ps)
run-alone i (alone y) ps e = refl
run-alone i (those j n) ps e = by (nat_eq j (suc i)) e
  where
    by : (b : Bool) → (if b then Some (those i (suc n)) else None) ≡ None → (if b then those i (suc n) ∷ ps else those i (suc zero) ∷ (those j n ∷ ps)) ≡ those i (suc zero) ∷ (those j n ∷ ps)
    by true e = absurd (cc)
    by false e = refl

pub cut-next : (s : Scope) (ys : List ℕ) (n i y d : ℕ) (now new : List Piece) → n ≡ i + 1 → i < length ys → y ≡ get_or ys i d → new ≡ with_piece s y now → now ≡ cut s (drop n ys) → new ≡ cut s (drop i ys)
cut-next s ys n i y d now new m h is e k =
    e ∙ ap₂ (λ z l. with_piece s z l) is (k ∙ ap (λ v. cut s (drop v ys)) m) ∙ sym (ap (cut s) (drop_more ys i d h))

pub cut-done : (s : Scope) (ys : List ℕ) (n : ℕ) (ps back : List code_piece.Piece) → n ≤ 0 → back ≡ reverse ps → pieces_back ps ≡ cut s (drop n ys) → pieces_of back ≡ cut s ys
cut-done s ys n ps back h e k = ap pieces_of e ∙ turned ps ∙ k ∙ ap (λ m. cut s (drop m ys)) (let z : n ≡ 0 = omega (arith, h) in z)
  where
    joined : (qs rs : List code_piece.Piece) → pieces_of (qs ++ rs) ≡ pieces_of qs ++ pieces_of rs
    joined [] rs = refl
    joined (q ∷ qs) rs = ap (λ l. piece_of q ∷ l) (joined qs rs)

    turned : (qs : List code_piece.Piece) → pieces_of (reverse qs) ≡ reverse (pieces_of qs)
    turned [] = refl
    turned (q ∷ qs) = ap pieces_of (reverse-append (q ∷ []) qs) ∙ joined (reverse qs) (q ∷ []) ∙ ap (λ l. l ++ piece_of q ∷ []) (turned qs) ∙ sym (reverse-append (piece_of q ∷ []) (pieces_of qs))
