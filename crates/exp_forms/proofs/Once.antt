-- Identifiers that are bound once, looked at from the last on.
use Rattle.std.proofs.Common.{◌≡◌, ◌<◌, ◌≤◌, ◌-◌, ℕ, zero, suc, Bool, true, false, not, ◌&&◌, ◌||◌, cond, List, [], ◌∷◌, length, drop, get_or, Option, Some, None, refl, sym, ap, ap₂, subst, ◌∙◌, arith}
use Rattle.std.specs.Prelude.{is_some}
use Rattle.sml_tree.specs.declared.ident.Vid.{Vid}
use Rattle.core_rules.specs.Restrictions.{distinct}
use Rattle.core_rules.specs.Words.{same_vid, is_in}
use Rattle.vid_scope.specs.Entries.{entry_of, HasLatest}
use Rattle.vid_scope.specs.declared.vids.VidScope.{VidScope}
use Rattle.pat_elab.specs.declared.bound.BoundVariable.{BoundVariable}
use Rattle.exp_forms.specs.Rules.{vids_of}

-- those from the i-th on were seen, and none of them is bound twice
pub record Seen (bs : List BoundVariable) (i : ℕ) (seen : VidScope Bool) : Type 0 where
  pub most : i ≤ length bs
  pub is : (x : Vid) → is_some (entry_of seen x) ≡ is_in same_vid x (vids_of (drop i bs))
  pub once : distinct same_vid (vids_of (drop i bs)) ≡ true

past-all : {A : Type 0} (xs : List A) → drop (length xs) xs ≡ []
past-all [] = refl
past-all (x ∷ xs) = past-all xs

drop-one : {A : Type 0} (xs : List A) (i : ℕ) (d : A) → i < length xs → drop i xs ≡ get_or xs i d ∷ drop (suc i) xs
drop-one [] i d lt = absurd (omega arith)
drop-one (x ∷ xs) zero d lt = refl
drop-one (x ∷ xs) (suc i) d lt = drop-one xs i d (omega arith)

pub none-seen : (bs : List BoundVariable) (seen : VidScope Bool) → ((x : Vid) → entry_of seen x ≡ None) → Seen bs (length bs) seen
none-seen bs seen h = record {
  most = omega arith;
  is = λ x. ap is_some (h x) ∙ sym (ap (λ l. is_in same_vid x (vids_of l)) (past-all bs));
  once = ap (λ l. distinct same_vid (vids_of l)) (past-all bs);
}

now-seen : (b c : Bool) (o : Option Bool) → is_some o ≡ c → is_some (cond b (Some true) o) ≡ (b || c)
now-seen true c o h = refl
now-seen false c o h = h

both-true : (a b : Bool) → a ≡ true → b ≡ true → (a && b) ≡ true
both-true a b h k = ap₂ (λ a b. a && b) h k

-- one more, not seen before
one-more : (bs : List BoundVariable) (i : ℕ) (b : BoundVariable) (old new : VidScope Bool) → i < length bs → Seen bs (suc i) old → b ≡ get_or bs i b
    → is_some (entry_of old b.vid) ≡ false → HasLatest old b.vid true new → Seen bs i new
one-more bs i b old new lt s e n l =
    let d : drop i bs ≡ b ∷ drop (suc i) bs = drop-one bs i b lt ∙ ap (λ (z : BoundVariable). z ∷ drop (suc i) bs) (sym e) in
    record {
      most = omega (arith, lt);
      is = λ x.
          ap is_some (l x) ∙ now-seen (same_vid x b.vid) (is_in same_vid x (vids_of (drop (suc i) bs))) (entry_of old x) (s.is x)
          ∙ sym (ap (λ l. is_in same_vid x (vids_of l)) d);
      once =
          ap (λ l. distinct same_vid (vids_of l)) d
          ∙ both-true (not (is_in same_vid b.vid (vids_of (drop (suc i) bs)))) (distinct same_vid (vids_of (drop (suc i) bs)))
          (ap not (sym (s.is b.vid) ∙ n)) s.once;
    }

-- one that was
later-false : (bs : List BoundVariable) (i : ℕ) → distinct same_vid (vids_of (drop i bs)) ≡ false → distinct same_vid (vids_of bs) ≡ false
later-false bs zero h = h
later-false [] (suc i) h = h
later-false (b ∷ bs) (suc i) h = by (not (is_in same_vid b.vid (vids_of bs))) (later-false bs i h)
  where
    by : (c : Bool) → distinct same_vid (vids_of bs) ≡ false → (c && distinct same_vid (vids_of bs)) ≡ false
    by true h = h
    by false h = refl

once-twice : (bs : List BoundVariable) (i : ℕ) (b : BoundVariable) (seen : VidScope Bool) → i < length bs → Seen bs (suc i) seen → b ≡ get_or bs i b
    → is_some (entry_of seen b.vid) ≡ true → distinct same_vid (vids_of bs) ≡ false
once-twice bs i b seen lt s e h =
    let d : drop i bs ≡ b ∷ drop (suc i) bs = drop-one bs i b lt ∙ ap (λ (z : BoundVariable). z ∷ drop (suc i) bs) (sym e) in
    later-false bs i
    (ap (λ l. distinct same_vid (vids_of l)) d
    ∙ ap (λ c. not c && distinct same_vid (vids_of (drop (suc i) bs))) (sym (s.is b.vid) ∙ h))

-- where the loop has come to the n-th

pub one-more-at : (bs : List BoundVariable) (n : ℕ) (b : BoundVariable) (old new : VidScope Bool) → 0 < n → Seen bs n old → b ≡ get_or bs (n - 1) b
    → is_some (entry_of old b.vid) ≡ false → HasLatest old b.vid true new → Seen bs (n - 1) new
one-more-at bs n b old new lt s e m l =
    let up : n ≡ suc (n - 1) = omega (arith, lt) in
    let le = s.most in
    let at : n - 1 < length bs = omega (arith, lt, le) in
    one-more bs (n - 1) b old new at (subst (λ k. Seen bs k old) up s) e m l

pub once-twice-at : (bs : List BoundVariable) (n : ℕ) (b : BoundVariable) (seen : VidScope Bool) → 0 < n → Seen bs n seen → b ≡ get_or bs (n - 1) b
    → is_some (entry_of seen b.vid) ≡ true → distinct same_vid (vids_of bs) ≡ false
once-twice-at bs n b seen lt s e h =
    let up : n ≡ suc (n - 1) = omega (arith, lt) in
    let le = s.most in
    let at : n - 1 < length bs = omega (arith, lt, le) in
    once-twice bs (n - 1) b seen at (subst (λ k. Seen bs k seen) up s) e h
