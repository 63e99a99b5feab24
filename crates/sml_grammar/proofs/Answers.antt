-- Tests, answers, and loops.
use Rattle.std.proofs.Common.{◌≡◌, ℕ, zero, suc, List, ◌∷◌, Option, Some, None, Bool, true, false, ◌||◌, ◌⊎◌, inl, inr, refl, sym, ap, ◌∙◌, subst, if◌then◌else◌}
use Rattle.std.proofs.Common.{max, nat_le, ◌≤◌, ◌<◌, arith}
use Rattle.std.proofs.lemmas.Bool.{leb-true, leb-false}
use Rattle.mlc_names.specs.declared.token.Reserved.{Reserved}
use Rattle.sml_tree.specs.Terminal.{Terminal, reserved}
use Rattle.sml_grammar.specs.Answer.{Read, Answer, ok, bad, deep, read, then_read, deep_if, Turn, last, more, after_turn, many}
use Rattle.sml_grammar.specs.Terminals.{Taken, taken, on_some, on_taken, then_taken, word_then, separated}
use Rattle.sml_grammar.proofs.Words.{WordAt, at_word, AfterWord, found, absent, after-is, word-found}

pub chosen : {A : Type 0} (b : Bool) (x y : A) {z : A} → (if b then x else y) ≡ z → ((b ≡ true) × (x ≡ z)) ⊎ ((b ≡ false) × (y ≡ z))
chosen true x y e = inl (refl, e)
chosen false x y e = inr (refl, e)

pub both_false : (a b : Bool) → a ≡ false → b ≡ false → (a || b) ≡ false
both_false true b p q = p
both_false false b p q = q

pub or_split : (a b : Bool) → (a || b) ≡ false → (a ≡ false) × (b ≡ false)
or_split true b e = absurd (cc)
or_split false b e = (refl, e)

pub got : {A : Type 0} {a b : Read A} → ok a ≡ ok b → a ≡ b
got e = cc

pub got_some : {A : Type 0} {a b : A} → Some a ≡ Some b → a ≡ b
got_some e = cc

pub not_some : {A B : Type 0} {a : A} → None ≡ Some a → B
not_some e = absurd (cc)

pub not_none : {A B : Type 0} {a : A} → Some a ≡ None → B
not_none e = absurd (cc)

pub not_true : {B : Type 0} → false ≡ true → B
not_true e = absurd (cc)

pub not_false : {B : Type 0} → true ≡ false → B
not_false e = absurd (cc)

pub then_ok : {A B : Type 0} (m : Answer A) (g : A → List Terminal → Answer B) (y : Read B) → then_read m g ≡ ok y → (x : Read A) × (m ≡ ok x) × (g x.tree x.rest ≡ ok y)
then_ok bad g y e = absurd (cc)
then_ok deep g y e = absurd (cc)
then_ok (ok x) g y e = (x, refl, e)

pub then_deep : {A B : Type 0} (m : Answer A) (g : A → List Terminal → Answer B) → then_read m g ≡ deep → (m ≡ deep) ⊎ ((x : Read A) × (m ≡ ok x) × (g x.tree x.rest ≡ deep))
then_deep bad g e = absurd (cc)
then_deep deep g e = inl refl
then_deep (ok x) g e = inr (x, refl, e)

pub not_deep : {A B : Type 0} {x : Read A} → ok x ≡ deep → B
not_deep e = absurd (cc)

-- `A` of the answers is explicit, since no other argument shows it
abbrev IsBadDeep : (A : Type 0) → Answer A → Answer A → Type 0
IsBadDeep A x y = x ≡ y

pub bad_deep : {A B : Type 0} → IsBadDeep A bad deep → B
bad_deep e = absurd (cc)

pub bad_ok : {A B : Type 0} {x : Read A} → bad ≡ ok x → B
bad_ok e = absurd (cc)

pub deep_ok : {A B : Type 0} {x : Read A} → deep ≡ ok x → B
deep_ok e = absurd (cc)

pub deep_if-ok : {A : Type 0} (b : Bool) (y : Read A) → deep_if b ≡ ok y → {B : Type 0} → B
deep_if-ok true y h = absurd (cc)
deep_if-ok false y h = absurd (cc)

pub if-deep : {A : Type 0} (b : Bool) → IsBadDeep A (deep_if b) deep → b ≡ true
if-deep true h = refl
if-deep {A} false h = bad_deep {A = A} h

-- what was looked for is there, or not

pub on_some-split : {A B : Type 0} (x : Option A) (g : A → B) (e : B) {z : B} → on_some x g e ≡ z → ((a : A) × (x ≡ Some a) × (g a ≡ z)) ⊎ ((x ≡ None) × (e ≡ z))
on_some-split (Some a) g e h = inl (a, refl, h)
on_some-split None g e h = inr (refl, h)

pub on_taken-split : {A B : Type 0} (x : Option (Taken A)) (g : A → List Terminal → B) (e : B) {z : B} → on_taken x g e ≡ z →
    ((a : A) × (o : List Terminal) × (x ≡ taken a o) × (g a o ≡ z)) ⊎ ((x ≡ None) × (e ≡ z))
on_taken-split (Some a) g e h = inl (a.it, a.rest, refl, h)
on_taken-split None g e h = inr (refl, h)

pub then_taken-ok : {A B : Type 0} (x : Option (Taken B)) (g : B → List Terminal → Answer A) (y : Read A) → then_taken x g ≡ ok y → (a : B) × (o : List Terminal) × (x ≡ taken a o) × (g a o ≡ ok y)
then_taken-ok (Some a) g y h = (a.it, a.rest, refl, h)
then_taken-ok None g y h = bad_ok h

pub then_taken-deep : {A B : Type 0} (x : Option (Taken B)) (g : B → List Terminal → Answer A) → then_taken x g ≡ deep → (a : B) × (o : List Terminal) × (x ≡ taken a o) × (g a o ≡ deep)
then_taken-deep (Some a) g h = (a.it, a.rest, refl, h)
then_taken-deep {A} None g h = bad_deep {A = A} h

pub then_taken-step : {A B : Type 0} {x : Option (Taken B)} {a : B} {o : List Terminal} (g : B → List Terminal → Answer A) {z : Answer A} → x ≡ taken a o → g a o ≡ z → then_taken x g ≡ z
then_taken-step g e h = rw e h

-- as a view: match on it where the terminals are a variable
pub word_then-at : {A : Type 0} (w : Reserved) (g : List Terminal → Answer A) (i : List Terminal) {z : Answer A} → word_then w g i ≡ z → ((o : List Terminal) × WordAt w i o × (g o ≡ z)) ⊎ (bad ≡ z)
word_then-at {A} w g i {z} h = go (after-is w i) h
  where
    go : {i : List Terminal} {v : Option (List Terminal)} → AfterWord w i v → on_some v g bad ≡ z → ((o : List Terminal) × WordAt w i o × (g o ≡ z)) ⊎ (bad ≡ z)
    go (found {o} p) h = inl (o, at_word p, h)
    go (absent n) h = inr h

pub word_then-ok : {A : Type 0} (w : Reserved) (g : List Terminal → Answer A) (i : List Terminal) (y : Read A) → word_then w g i ≡ ok y → (o : List Terminal) × WordAt w i o × (g o ≡ ok y)
word_then-ok w g i y h = elim (word_then-at w g i h) [ inl p ↦ p | inr p ↦ bad_ok p ]

pub word_then-deep : {A : Type 0} (w : Reserved) (g : List Terminal → Answer A) (i : List Terminal) → word_then w g i ≡ deep → (o : List Terminal) × WordAt w i o × (g o ≡ deep)
word_then-deep {A} w g i h = elim (word_then-at w g i h) [ inl p ↦ p | inr p ↦ bad_deep {A = A} p ]

pub word_then-step : {A : Type 0} {w : Reserved} (g : List Terminal → Answer A) {i o : List Terminal} → WordAt w i o → word_then w g i ≡ g o
word_then-step g a = let e = word-found a in rw e refl

pub at-path : {w : Reserved} {i o : List Terminal} → WordAt w i o → (p : ℕ) × (i ≡ reserved p w ∷ o)
at-path (at_word p) = (p, refl)

-- one element of a list

pub parts : {A : Type 0} {t u : A} {o m : List Terminal} → read t o ≡ read u m → (t ≡ u) × (o ≡ m)
parts e = (ap (λ z. z.tree) (got e), ap (λ z. z.rest) (got e))

last-one : {B S : Type 0} {a b : B} → ◌≡◌ {A = Turn B S} (last a) (last b) → a ≡ b
last-one e = cc

more-one : {B S : Type 0} {f g : B → B} {s t : S} → more f s ≡ more g t → (f ≡ g) × (s ≡ t)
more-one e = (cc, cc)

not-last : {A B S : Type 0} {b : B} {f : B → B} {s : S} → more f s ≡ last b → A
not-last e = absurd (cc)

pub separated-ok : {B S : Type 0} (x : Option (List Terminal)) (put : B → B) (end : B) (s : S) (o : List Terminal) {y : Read (Turn B S)} → separated x put end s o ≡ ok y →
    ((x ≡ None) × (record { tree = last end; rest = o } ≡ y)) ⊎ ((m : List Terminal) × (x ≡ Some m) × (record { tree = more put s; rest = m } ≡ y))
separated-ok (Some k) put end s o h = inr (k, refl, got h)
separated-ok None put end s o h = inl (refl, got h)

pub separated-last : {B S : Type 0} (x : Option (List Terminal)) (put : B → B) (end : B) (s : S) (o : List Terminal) (b : B) (m : List Terminal) →
    separated x put end s o ≡ read (last b) m → (x ≡ None) × (end ≡ b) × (o ≡ m)
separated-last (Some k) put end s o b m h = not-last (parts h).0
separated-last None put end s o b m h = (refl, last-one (parts h).0, (parts h).1)

-- what is put is told by what it gives
pub separated-more : {B S : Type 0} (x : Option (List Terminal)) (put : B → B) (end : B) (s : S) (o : List Terminal) (put' : B → B) (t : S) (m : List Terminal) →
    separated x put end s o ≡ read (more put' t) m → (x ≡ Some m) × (put ≡ put') × (s ≡ t)
separated-more (Some k) put end s o put' t m h = (ap Some (parts h).1, (more-one (parts h).0).0, (more-one (parts h).0).1)
separated-more None put end s o put' t m h = not-last (sym (parts h).0)

pub separated-deep : {B S A : Type 0} (x : Option (List Terminal)) (put : B → B) (end : B) (s : S) (o : List Terminal) → separated x put end s o ≡ deep → A
separated-deep (Some k) put end s o h = absurd (cc)
separated-deep None put end s o h = absurd (cc)

-- Loops.

-- what a turn gives keeps P, which tells of a state, the terminals, what is read, and the terminals after it
abbrev pub GoodTurn : {B S : Type 0} → (S → List Terminal → B → List Terminal → Type 0) → S → List Terminal → Turn B S → List Terminal → Type 0
GoodTurn P s i (last b) m = P s i b m
GoodTurn {B} P s i (more put t) m = (b : B) (o : List Terminal) → P t m b o → P s i (put b) o

-- what a loop reads is read by turns
pub many-ok : {B S : Type 0} (step : S → List Terminal → Answer (Turn B S)) (P : S → List Terminal → B → List Terminal → Type 0) →
    ((s : S) (i : List Terminal) (y : Read (Turn B S)) → step s i ≡ ok y → GoodTurn P s i y.tree y.rest) →
    (k : ℕ) (s : S) (i : List Terminal) (y : Read B) → many step k s i ≡ ok y → P s i y.tree y.rest
unfolding many
many-ok step P good zero s i y h = bad_ok h
many-ok {B} {S} step P good (suc k) s i y h =
    let u = then_ok (step s i) (after_turn (many step k)) y h in
    go (many step k) (λ t m x e. many-ok step P good k t m x e) u.0.tree u.0.rest (good s i u.0 u.1) u.2
  where
    go : (g : S → List Terminal → Answer B) → ((t : S) (m : List Terminal) (x : Read B) → g t m ≡ ok x → P t m x.tree x.rest) →
        (t : Turn B S) (m : List Terminal) → GoodTurn P s i t m → after_turn g t m ≡ ok y → P s i y.tree y.rest
    go g again (last b) m e h = subst (λ (z : Read B). P s i z.tree z.rest) (got h) e
    go g again (more put t) m e h =
        let u = then_ok (g t m) (λ b o. read (put b) o) y h in
        subst (λ (z : Read B). P s i z.tree z.rest) (got u.2) (e u.0.tree u.0.rest (again t m u.0 u.1))

-- where a loop answers deep, one of its turns does
pub many-far : {B S : Type 0} (step : S → List Terminal → Answer (Turn B S)) (Q : S → List Terminal → Type 0) →
    ((s : S) (i : List Terminal) → step s i ≡ deep → Q s i) →
    ((s : S) (i : List Terminal) (put : B → B) (t : S) (m : List Terminal) → step s i ≡ read (more put t) m → Q t m → Q s i) →
    (k : ℕ) (s : S) (i : List Terminal) → many step k s i ≡ deep → Q s i
unfolding many
many-far {B} step Q ends goes zero s i h = bad_deep {A = B} h
many-far {B} {S} step Q ends goes (suc k) s i h =
    elim (then_deep (step s i) (after_turn (many step k)) h) [ inl e ↦ ends s i e | inr u ↦ go (many step k) (λ t m e. many-far step Q ends goes k t m e) u.0.tree u.0.rest u.1 u.2 ]
  where
    go : (g : S → List Terminal → Answer B) → ((t : S) (m : List Terminal) → g t m ≡ deep → Q t m) → (t : Turn B S) (m : List Terminal) → step s i ≡ read t m → after_turn g t m ≡ deep → Q s i
    go g again (last b) m e h = not_deep h
    go g again (more put t) m e h = elim (then_deep (g t m) (λ b o. read (put b) o) h) [ inl d ↦ goes s i put t m e (again t m d) | inr u ↦ not_deep u.2 ]

-- the same, where what a turn gives is told as a whole
abbrev pub FarTurn : {B S : Type 0} → (S → List Terminal → Type 0) → S → List Terminal → Turn B S → List Terminal → Type 0
FarTurn Q s i (last b) m = Unit {0}
FarTurn Q s i (more put t) m = Q t m → Q s i

pub many-reach : {B S : Type 0} (step : S → List Terminal → Answer (Turn B S)) (Q : S → List Terminal → Type 0) →
    ((s : S) (i : List Terminal) → step s i ≡ deep → Q s i) →
    ((s : S) (i : List Terminal) (y : Read (Turn B S)) → step s i ≡ ok y → FarTurn Q s i y.tree y.rest) →
    (k : ℕ) (s : S) (i : List Terminal) → many step k s i ≡ deep → Q s i
many-reach step Q ends goes k s i h = many-far step Q ends (λ s i put t m e. goes s i (record { tree = more put t; rest = m }) e) k s i h

pub many-last : {B S : Type 0} (step : S → List Terminal → Answer (Turn B S)) (k : ℕ) {s : S} {i : List Terminal} {b : B} {o : List Terminal} → step s i ≡ read (last b) o → many step (suc k) s i ≡ read b o
unfolding many
many-last step k e = rw e refl

pub many-turn : {B S : Type 0} (step : S → List Terminal → Answer (Turn B S)) (k : ℕ) {s t : S} {i m : List Terminal} {put : B → B} → step s i ≡ read (more put t) m →
    many step (suc k) s i ≡ then_read (many step k t m) (λ b o. read (put b) o)
unfolding many
many-turn step k e = rw e refl

pub many-more : {B S : Type 0} (step : S → List Terminal → Answer (Turn B S)) (k : ℕ) {s t : S} {i m o : List Terminal} {put : B → B} {b : B} → step s i ≡ read (more put t) m → many step k t m ≡ read b o →
    many step (suc k) s i ≡ read (put b) o
many-more step k {put} e h = many-turn step k e ∙ ap (λ z. then_read z (λ b o. read (put b) o)) h

pub many-deep : {B S : Type 0} (step : S → List Terminal → Answer (Turn B S)) (k : ℕ) {s t : S} {i m : List Terminal} {put : B → B} → step s i ≡ read (more put t) m → many step k t m ≡ deep →
    many step (suc k) s i ≡ deep
many-deep step k {put} e h = many-turn step k e ∙ ap (λ z. then_read z (λ b o. read (put b) o)) h

then-same : {A : Type 0} (m : Answer A) → then_read m (λ b o. read b o) ≡ m
then-same (ok x) = refl
then-same bad = refl
then-same deep = refl

-- a turn that puts nothing around the rest
pub many-pass : {B S : Type 0} (step : S → List Terminal → Answer (Turn B S)) (k : ℕ) {s t : S} {i m : List Terminal} → step s i ≡ read (more (λ b. b) t) m → many step (suc k) s i ≡ many step k t m
many-pass step k {t} {m} e = many-turn step k e ∙ then-same (many step k t m)

pub many-stop : {B S : Type 0} (step : S → List Terminal → Answer (Turn B S)) (k : ℕ) {s : S} {i : List Terminal} → step s i ≡ deep → many step (suc k) s i ≡ deep
unfolding many
many-stop step k e = rw e refl

-- Complete trees: either the tree is at most n deep, and is read, or it is deeper, and the answer says so.
pub data Settled {A : Type 0} (x : Answer A) (n d : ℕ) (t : A) (o : List Terminal) : Type 0 where
  fits : d ≤ n → x ≡ read t o → Settled x n d t o
  over : n < d → x ≡ deep → Settled x n d t o

pub settled-by : {A : Type 0} {x y : Answer A} {n d : ℕ} {t : A} {o : List Terminal} → x ≡ y → Settled y n d t o → Settled x n d t o
settled-by e (fits le h) = fits le (e ∙ h)
settled-by e (over lt h) = over lt (e ∙ h)

pub settled-fits : {A : Type 0} {x : Answer A} {n d : ℕ} {t : A} {o : List Terminal} → Settled x n d t o → d ≤ n → x ≡ read t o
settled-fits (fits le h) c = h
settled-fits (over lt h) c = absurd (omega arith)

pub settled-over : {A : Type 0} {x : Answer A} {n d : ℕ} {t : A} {o : List Terminal} → Settled x n d t o → n < d → x ≡ deep
settled-over (fits le h) c = absurd (omega arith)
settled-over (over lt h) c = h

pub le_or : (a b : ℕ) → (a ≤ b) ⊎ (b < a)
le_or a b = go (nat_le a b) refl
  where
    go : (t : Bool) → nat_le a b ≡ t → (a ≤ b) ⊎ (b < a)
    go true e = inl (leb-true a b e)
    go false e = inr (leb-false a b e)

pub le_max : (k a b : ℕ) → k ≤ max a b → (k ≤ a) ⊎ (k ≤ b)
le_max k a b h = elim (le_or k a) [ inl p ↦ inl p | inr p ↦ inr (omega arith) ]

pub then_in : {A B C : Type 0} (m : Answer A) (f : A → List Terminal → Answer B) (g : B → List Terminal → Answer C) → then_read m (λ a o. then_read (f a o) g) ≡ then_read (then_read m f) g
then_in (ok x) f g = refl
then_in bad f g = refl
then_in deep f g = refl
