-- Segments of paths.
use Rattle.std.proofs.Common.{◌≡◌, ℕ, ◌+◌, ◌<◌, ◌≤◌, Bool, true, false, ◌==◌, List, [], ◌∷◌, ◌++◌, length, take, drop, get_or, refl, ap, sym, ◌∙◌, arith, cond, if◌then◌else◌}
use Rattle.std.specs.List.{slice_split, onto_first}
use Rattle.std.specs.Borrow.{Bor}
use Rattle.std.proofs.lemmas.List.{append_assoc, drop_all, drop_more, length-map, length-take, map_more}
use Rattle.mlb_reader.specs.Path.{put_front, segments, joined, next_segment, kept_segments}
use Rattle.mlb_reader.specs.Segments.{texts_of}

-- a path cut at its slashes
put-is-onto : (b : ℕ) (ss : List (List ℕ)) → put_front b ss ≡ onto_first b ss
put-is-onto b [] = refl
put-is-onto b (s ∷ ss) = refl

pub segments-are : (path : List ℕ) → segments path ≡ slice_split (λ b. b == 47) path
segments-are [] = refl
segments-are (b ∷ path) = go (b == 47) (segments-are path)
  where
    go : (t : Bool) → segments path ≡ slice_split (λ b. b == 47) path → (if t then [] ∷ segments path else put_front b (segments path)) ≡ cond t ([] ∷ slice_split (λ b. b == 47) path) (onto_first b (slice_split (λ b. b == 47) path))
    go true e = ap (λ ss. [] ∷ ss) e
    go false e = put-is-onto b (segments path) ∙ ap (onto_first b) e

-- segments put together
pub joined-more : (ss : List (List ℕ)) (s : List ℕ) → 0 < length ss → joined (ss ++ s ∷ []) ≡ joined ss ++ 47 ∷ s
joined-more [] s h = absurd (omega arith)
joined-more (t ∷ []) s h = refl
joined-more (t ∷ u ∷ ss) s h = ap (λ v. t ++ 47 ∷ v) (joined-more (u ∷ ss) s (omega arith)) ∙ sym (append_assoc t (47 ∷ joined (u ∷ ss)) (47 ∷ s))

-- the segments that are left
pub kept-more : (done ss : List (List ℕ)) (k : ℕ) (s : List ℕ) → k < length ss → s ≡ get_or ss k s → kept_segments done (drop k ss) ≡ kept_segments (next_segment done s) (drop (k + 1) ss)
kept-more done ss k s h e = ap (kept_segments done) (drop_more ss k s h ∙ ap (λ t. t ∷ drop (k + 1) ss) (sym e))

-- one turn of cleaning, and its end
module _ (path : List ℕ) (done : List (List ℕ)) (k : ℕ) (so_far : kept_segments done (drop k (segments path)) ≡ kept_segments [] (segments path)) where
  all : List (List ℕ)
  all = slice_split (λ b. b == 47) path

  pub clean-turn : (done' : List (List ℕ)) (n : ℕ) (s : List ℕ) → (k < length (slice_split (λ b. b == 47) path)) × (s ≡ get_or (slice_split (λ b. b == 47) path) k s) → done' ≡ next_segment done s → n ≡ k + 1 → kept_segments done' (drop n (segments path)) ≡ kept_segments [] (segments path)
  clean-turn done' n s at e m =
      let same = segments-are path in
      let within : k < length (segments path) = omega (arith, at.0, ap length same) in
      let is : s ≡ get_or (segments path) k s = at.1 ∙ ap (λ ss. get_or ss k s) (sym same) in
      ap (λ d. kept_segments d (drop n (segments path))) e ∙ ap (λ j. kept_segments (next_segment done s) (drop j (segments path))) m ∙ sym (kept-more done (segments path) k s within is) ∙ so_far

  pub clean-end : k ≡ length (slice_split (λ b. b == 47) path) → done ≡ kept_segments [] (segments path)
  clean-end e =
      let over : drop k (segments path) ≡ [] = drop_all k (segments path) (omega (arith, e, ap length (segments-are path))) in
      ap (kept_segments done) (sym over) ∙ so_far

-- one segment put behind the others
module _ (segments : List (Bor (List ℕ))) (i : ℕ) (d : Bor (List ℕ)) (within : i < length segments) where
  texts-more : texts_of (take (i + 1) segments) ≡ texts_of (take i segments) ++ (get_or segments i d).now ∷ []
  texts-more = map_more (λ segment. segment.now) segments i d within

  pub join-first : (path new : List ℕ) → i ≤ 0 → path ≡ joined (texts_of (take i segments)) → new ≡ path ++ (get_or segments i d).now → new ≡ joined (texts_of (take (i + 1) segments))
  join-first path new none is e =
      let zero_is : i ≡ 0 = omega arith in
      let empty : texts_of (take i segments) ≡ [] = ap (λ k. texts_of (take k segments)) zero_is in
      e ∙ ap (λ p. p ++ (get_or segments i d).now) (is ∙ ap joined empty) ∙ sym (ap joined (texts-more ∙ ap (λ t. t ++ (get_or segments i d).now ∷ []) empty))

  pub join-next : (path slashed new : List ℕ) → 0 < i → path ≡ joined (texts_of (take i segments)) → slashed ≡ path ++ 47 ∷ [] → new ≡ slashed ++ (get_or segments i d).now → new ≡ joined (texts_of (take (i + 1) segments))
  join-next path slashed new some is s e =
      let texts = texts_of (take i segments) in
      let last = (get_or segments i d).now in
      let count : 0 < length texts = omega (arith, length-map (take i segments) (λ (x : Bor (List ℕ)). x.now), length-take i segments) in
      e ∙ ap (λ p. p ++ last) (s ∙ ap (λ p. p ++ 47 ∷ []) is) ∙ append_assoc (joined texts) (47 ∷ []) last ∙ sym (ap joined texts-more ∙ joined-more texts last count)
