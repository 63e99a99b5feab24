-- What keeps while vertices fall, and that it ends.
use Rattle.std.proofs.Common.{◌≡◌, ◌<◌, ◌≤◌, ◌+◌, ◌*◌, ◌++◌, ℕ, zero, suc, Bool, true, false, not, List, [], ◌∷◌, length, map, slice_index_or, slice_set, Contains, replicate, refl, sym, ap, ◌∙◌, subst, arith}
use Rattle.std.proofs.lemmas.List.{get_or-set_same, get_or-set_other, length-set, get_or_past, get_or_read, length-append}
use Rattle.std.proofs.lemmas.List.Elements.{Contains-append_left, Contains-append_right, Contains-push_cases, Contains-push, Contains-append_cases}
use Rattle.std.proofs.lemmas.Bool.{cases_eq}
use mathlib.Core.Logic.{◌⊎◌, inl, inr}
use Rattle.datatype_equality.specs.Falling.{resting, has_fallen, stands, AllFell, Spreads}

-- w has fallen, or it is pending
abbrev Comes : List Bool → List ℕ → ℕ → Type 0
Comes marks pending w = (stands marks w ≡ false) ⊎ Contains pending w

pub record Going (edges : List (List ℕ)) (start : List ℕ) (marks : List Bool) (rests : List (List ℕ)) (pending : List ℕ) : Type 0 where
  pub same : length marks ≡ length edges
  pub kept : length rests ≡ length edges
  pub starts : (w : ℕ) → Contains start w → Comes marks pending w
  pub rest : (v w : ℕ) → has_fallen marks v ≡ true → Contains (resting edges v) w → Comes marks pending w
  pub untouched : (v : ℕ) → has_fallen marks v ≡ false → resting rests v ≡ resting edges v
  pub least : (P : ℕ → Bool) → Spreads edges start P → (v : ℕ) → has_fallen marks v ≡ true → P v ≡ true
  pub waiting : (P : ℕ → Bool) → Spreads edges start P → (v : ℕ) → Contains pending v → P v ≡ true

stands-set : (marks : List Bool) (v w : ℕ) → stands marks w ≡ false → stands (slice_set marks v true) w ≡ false
stands-set [] v w e = e
stands-set (b ∷ l) zero zero e = refl
stands-set (b ∷ l) zero (suc w) e = e
stands-set (b ∷ l) (suc v) zero e = e
stands-set (b ∷ l) (suc v) (suc w) e = stands-set l v w e

set-stands-not : (marks : List Bool) (v : ℕ) → stands (slice_set marks v true) v ≡ false
set-stands-not [] v = refl
set-stands-not (b ∷ l) zero = refl
set-stands-not (b ∷ l) (suc v) = set-stands-not l v

fallen-set : (marks : List Bool) (v w : ℕ) → has_fallen (slice_set marks v true) w ≡ true → (w ≡ v) ⊎ (has_fallen marks w ≡ true)
fallen-set [] v w e = inr e
fallen-set (b ∷ l) zero zero e = inl refl
fallen-set (b ∷ l) zero (suc w) e = inr e
fallen-set (b ∷ l) (suc v) zero e = inr e
fallen-set (b ∷ l) (suc v) (suc w) e = next (fallen-set l v w e)
  where
    next : (w ≡ v) ⊎ (has_fallen l w ≡ true) → (suc w ≡ suc v) ⊎ (has_fallen l w ≡ true)
    next (inl i) = inl (ap suc i)
    next (inr i) = inr i

unfallen-set : (marks : List Bool) (v w : ℕ) → v < length marks → has_fallen (slice_set marks v true) w ≡ false → (w ≡ v → ⊥) × (has_fallen marks w ≡ false)
unfallen-set [] v w lt e = elim lt [ ]
unfallen-set (b ∷ l) zero zero lt e = absurd (cc)
unfallen-set (b ∷ l) zero (suc w) lt e = ((λ i. omega (arith, i)), e)
unfallen-set (b ∷ l) (suc v) zero lt e = ((λ i. omega (arith, i)), e)
unfallen-set (b ∷ l) (suc v) (suc w) lt e = let r = unfallen-set l v w (omega arith) e in ((λ i. r.0 (omega (arith, i))), r.1)

pub begins : (edges : List (List ℕ)) (start : List ℕ) (marks : List Bool) → length marks ≡ length edges → ((v : ℕ) → has_fallen marks v ≡ false)
    → Going edges start marks edges start
begins edges start marks e none = record {
  same = e;
  kept = refl;
  starts = λ w c. inr c;
  rest = λ v w f c. absurd (cc (f, none v));
  untouched = λ v f. refl;
  least = λ P s v f. absurd (cc (f, none v));
  waiting = λ P s v c. s.starts v c;
}

-- v is taken from the pending ones: it doesn't stand now
comes-still : (marks : List Bool) (pending ps : List ℕ) (v : ℕ) → pending ≡ ps ++ v ∷ [] → stands marks v ≡ false → (w : ℕ) → Comes marks pending w → Comes marks ps w
comes-still marks pending ps v e f w (inl i) = inl i
comes-still marks pending ps v e f w (inr c) = cases (Contains-push_cases ps v w (subst (λ l. Contains l w) e c))
  where
    cases : Contains ps w ⊎ (v ≡ w) → Comes marks ps w
    cases (inl i) = inr i
    cases (inr i) = inl (subst (λ x. stands marks x ≡ false) i f)

more-come : (marks : List Bool) (ps l : List ℕ) (w : ℕ) → Comes marks ps w → Comes marks (ps ++ l) w
more-come marks ps l w (inl i) = inl i
more-come marks ps l w (inr c) = inr (Contains-append_left ps l w c)

comes-next : (marks : List Bool) (pending ps l : List ℕ) (v : ℕ) → pending ≡ ps ++ v ∷ [] → (w : ℕ) → Comes marks pending w → Comes (slice_set marks v true) (ps ++ l) w
comes-next marks pending ps l v e w c =
    more-come (slice_set marks v true) ps l w (comes-still (slice_set marks v true) pending ps v e (set-stands-not marks v) w (further c))
  where
    further : Comes marks pending w → Comes (slice_set marks v true) pending w
    further (inl i) = inl (stands-set marks v w i)
    further (inr i) = inr i

module _ (edges : List (List ℕ)) (start : List ℕ) (marks : List Bool) (rests : List (List ℕ)) (pending ps : List ℕ) (v : ℕ) (e : pending ≡ ps ++ v ∷ []) where
  -- it has fallen already, or is no vertex
  pub passes : stands marks v ≡ false → Going edges start marks rests pending → Going edges start marks rests ps
  passes f g = record {
    same = g.same;
    kept = g.kept;
    starts = λ w c. comes-still marks pending ps v e f w (g.starts w c);
    rest = λ x w i c. comes-still marks pending ps v e f w (g.rest x w i c);
    untouched = g.untouched;
    least = g.least;
    waiting = λ P s w c. g.waiting P s w (subst (λ l. Contains l w) (sym e) (Contains-append_left ps (v ∷ []) w c));
  }

  module _ (f : has_fallen marks v ≡ false) (g : Going edges start marks rests pending) where
    rests-on : (x w : ℕ) → Contains (resting edges x) w → (x ≡ v) ⊎ (has_fallen marks x ≡ true) → Comes (slice_set marks v true) (ps ++ resting rests v) w
    rests-on x w c (inl i) = inr (Contains-append_right ps (resting rests v) w (subst (λ l. Contains l w) (ap (resting edges) i ∙ sym (g.untouched v f)) c))
    rests-on x w c (inr i) = comes-next marks pending ps (resting rests v) v e w (g.rest x w i c)

    there : (P : ℕ → Bool) → Spreads edges start P → P v ≡ true
    there P s = g.waiting P s v (subst (λ l. Contains l v) (sym e) (Contains-push ps v))

    is : (P : ℕ → Bool) → Spreads edges start P → (x : ℕ) → (x ≡ v) ⊎ (has_fallen marks x ≡ true) → P x ≡ true
    is P s x (inl i) = ap P i ∙ there P s
    is P s x (inr i) = g.least P s x i

    waits : (P : ℕ → Bool) → Spreads edges start P → (w : ℕ) → Contains ps w ⊎ Contains (resting rests v) w → P w ≡ true
    waits P s w (inl i) = g.waiting P s w (subst (λ l. Contains l w) (sym e) (Contains-append_left ps (v ∷ []) w i))
    waits P s w (inr i) = s.rest v w (there P s) (subst (λ l. Contains l w) (g.untouched v f) i)

    pub falls : v < length marks → Going edges start (slice_set marks v true) (slice_set rests v []) (ps ++ resting rests v)
    falls lt = record {
      same = length-set marks v true ∙ g.same;
      kept = length-set rests v [] ∙ g.kept;
      starts = λ w c. comes-next marks pending ps (resting rests v) v e w (g.starts w c);
      rest = λ x w i c. rests-on x w c (fallen-set marks v x i);
      untouched = λ x i. let r = unfallen-set marks v x lt i in get_or-set_other rests v x [] [] r.0 ∙ g.untouched x r.1;
      least = λ P s x i. is P s x (fallen-set marks v x i);
      waiting = λ P s w c. waits P s w (Contains-append_cases ps (resting rests v) w c);
    }

nothing-in : (l : List ℕ) (w : ℕ) → l ≡ [] → Contains l w → ⊥
nothing-in l w e c = let lt = c.1 in let n = ap length e in omega (arith, lt, n)

pub ends : (edges : List (List ℕ)) (start : List ℕ) (marks : List Bool) (rests : List (List ℕ)) (pending : List ℕ) → pending ≡ [] → Going edges start marks rests pending
    → AllFell edges start marks
ends edges start marks rests pending e g = record {
  starts = λ v c. settle v (g.starts v c);
  rest = λ v w f c. settle w (g.rest v w f c);
}
  where
    settle : (w : ℕ) → Comes marks pending w → stands marks w ≡ false
    settle w (inl i) = i
    settle w (inr c) = absurd (nothing-in pending w e c)

-- how many there are in all
abbrev pub total : List (List ℕ) → ℕ
total [] = 0
total (l ∷ ls) = length l + total ls

total-set : (ls : List (List ℕ)) (v : ℕ) → total (slice_set ls v []) + length (resting ls v) ≡ total ls
total-set [] v = refl
total-set (l ∷ ls) zero = omega arith
total-set (l ∷ ls) (suc v) = let r = total-set ls v in omega (arith, r)

abbrev pub work : List (List ℕ) → List ℕ → ℕ
work rests pending = 2 * total rests + length pending

pub less-passed : (rests : List (List ℕ)) (pending ps : List ℕ) (v : ℕ) → pending ≡ ps ++ v ∷ [] → work rests ps < work rests pending
less-passed rests pending ps v e = let n = ap length e ∙ length-append ps (v ∷ []) in omega (arith, n)

pub less-fallen : (rests : List (List ℕ)) (pending ps : List ℕ) (v : ℕ) → pending ≡ ps ++ v ∷ [] → work (slice_set rests v []) (ps ++ resting rests v) < work rests pending
less-fallen rests pending ps v e =
    let n = ap length e ∙ length-append ps (v ∷ []) in let m = length-append ps (resting rests v) in let t = total-set rests v in omega (arith, n, m, t)

pub unmarked : (marks : List Bool) (v : ℕ) (b : Bool) → b ≡ slice_index_or marks v b → v < length marks → b ≡ false → has_fallen marks v ≡ false
unmarked marks v b e lt n = sym (get_or_read marks v b lt e false) ∙ n

pub marked : (marks : List Bool) (v : ℕ) (b : Bool) → b ≡ slice_index_or marks v b → v < length marks → b ≡ true → stands marks v ≡ false
marked marks v b e lt n = ap not (sym (get_or_read marks v b lt e true) ∙ n)

pub beyond : (marks : List Bool) (v : ℕ) → length marks ≤ v → stands marks v ≡ false
beyond marks v le = ap not (get_or_past marks v true le)

pub none-fallen : (marks : List Bool) (n : ℕ) → marks ≡ replicate n false → (v : ℕ) → has_fallen marks v ≡ false
none-fallen marks n e v = ap (λ l. has_fallen l v) e ∙ none n v
  where
    none : (n v : ℕ) → has_fallen (replicate n false) v ≡ false
    none zero v = refl
    none (suc n) zero = refl
    none (suc n) (suc v) = none n v

pub stays : {edges : List (List ℕ)} {start : List ℕ} {marks marks' : List Bool} {rests rests' : List (List ℕ)} {pending pending' : List ℕ} → marks' ≡ marks → rests' ≡ rests → pending' ≡ pending
    → Going edges start marks rests pending → Going edges start marks' rests' pending'
stays {edges} {start} e f p g = rw (e, f, p) g
