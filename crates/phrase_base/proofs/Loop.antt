-- Loops of the parser, against `many`; what a failure of a step is for what it is a part of.
use Rattle.std.proofs.Common.{◌≡◌, ℕ, zero, suc, ◌<◌, List, length, refl, sym, ap, ◌∙◌, subst, arith}
use Rattle.sml_tree.specs.Terminal.{Terminal}
use Rattle.sml_grammar.specs.Answer.{Answer, ok, bad, deep, read, then_read, Turn, last, more, after_turn, many, whole}
use Rattle.phrase_base.specs.declared.stop.Stop.{Stop}
use Rattle.phrase_base.specs.declared.stop.Stop.TheVariants as stop
use Rattle.phrase_base.specs.Gives.{Fails}

pub fails-then : {A B : Type 0} (e : Stop) (a : Answer A) (g : A → List Terminal → Answer B) → Fails e a → Fails e (then_read a g)
fails-then stop.Memory a g h = tt
fails-then (stop.Bad n) a g h = ap (λ x. then_read x g) h
fails-then (stop.Deep n) a g h = ap (λ x. then_read x g) h

pub fails-by : {A : Type 0} (e : Stop) (a b : Answer A) → a ≡ b → Fails e b → Fails e a
fails-by e a b p h = subst (λ x. Fails e x) (sym p) h

pub fails-bad : {A : Type 0} (e : Stop) (k : ℕ) (a : Answer A) → e ≡ stop.Bad k → a ≡ bad → Fails e a
fails-bad e k a p h = subst (λ x. Fails x a) (sym p) h

pub fails-deep : {A : Type 0} (e : Stop) (k : ℕ) (a : Answer A) → e ≡ stop.Deep k → a ≡ deep → Fails e a
fails-deep e k a p h = subst (λ x. Fails x a) (sym p) h

-- a loop that is under way: what was read so far is put before what `many` still reads
pub record Going {B S : Type 0} (step : S → List Terminal → Answer (Turn B S)) (s : S) (i : List Terminal) (put : B → B) (total : Answer B) : Type 0 where
  pub fuel : ℕ
  pub enough : length i < fuel
  pub same : then_read (many step fuel s i) (λ b o. read (put b) o) ≡ total

module _ {B S : Type 0} (step : S → List Terminal → Answer (Turn B S)) where
  pub going-start : (s : S) (i : List Terminal) → Going step s i (λ b. b) (whole step s i)
  going-start s i = record { fuel = suc (length i); enough = omega arith; same = go (many step (suc (length i)) s i) }
    where
      go : (a : Answer B) → then_read a (λ b o. read b o) ≡ a
      go (ok r) = refl
      go bad = refl
      go deep = refl

  then-put : (put c : B → B) (a : Answer B) → then_read (then_read a (λ b o. read (c b) o)) (λ b o. read (put b) o) ≡ then_read a (λ b o. read (put (c b)) o)
  then-put put c (ok r) = refl
  then-put put c bad = refl
  then-put put c deep = refl

  pub going-more : {s t : S} {i m : List Terminal} {c put : B → B} {total : Answer B} → step s i ≡ read (more c t) m → length m < length i → Going step s i put total → Going step t m (λ b. put (c b)) total
  unfolding many
  going-more {s} {t} {i} {m} {c} {put} {total} h lt g = go g.fuel g.enough g.same
    where
      go : (k : ℕ) → length i < k → then_read (many step k s i) (λ b o. read (put b) o) ≡ total → Going step t m (λ b. put (c b)) total
      go zero le e = absurd (omega arith)
      go (suc k) le e =
          let one : many step (suc k) s i ≡ then_read (many step k t m) (λ b o. read (c b) o) = ap (λ (x : Answer (Turn B S)). then_read x (after_turn (many step k))) h in
          record { fuel = k; enough = omega arith; same = sym (then-put put c (many step k t m)) ∙ sym (ap (λ (x : Answer B). then_read x (λ b o. read (put b) o)) one) ∙ e }

  pub going-last : {s : S} {i o : List Terminal} {b : B} {put : B → B} {total : Answer B} → step s i ≡ read (last b) o → Going step s i put total → total ≡ read (put b) o
  unfolding many
  going-last {s} {i} {o} {b} {put} {total} h g = go g.fuel g.enough g.same
    where
      go : (k : ℕ) → length i < k → then_read (many step k s i) (λ b o. read (put b) o) ≡ total → total ≡ read (put b) o
      go zero le e = absurd (omega arith)
      go (suc k) le e =
          let one : many step (suc k) s i ≡ read b o = ap (λ (x : Answer (Turn B S)). then_read x (after_turn (many step k))) h in
          sym e ∙ ap (λ (x : Answer B). then_read x (λ b o. read (put b) o)) one

  pub going-fails : (e : Stop) {s : S} {i : List Terminal} {put : B → B} {total : Answer B} → Fails e (step s i) → Going step s i put total → Fails e total
  unfolding many
  going-fails stop.Memory h g = tt
  going-fails (stop.Bad n) {s} {i} {put} {total} h g = go g.fuel g.enough g.same
    where
      go : (k : ℕ) → length i < k → then_read (many step k s i) (λ b o. read (put b) o) ≡ total → total ≡ bad
      go zero le e = absurd (omega arith)
      go (suc k) le e = sym e ∙ ap (λ (x : Answer (Turn B S)). then_read (then_read x (after_turn (many step k))) (λ b o. read (put b) o)) h
  going-fails (stop.Deep n) {s} {i} {put} {total} h g = go g.fuel g.enough g.same
    where
      go : (k : ℕ) → length i < k → then_read (many step k s i) (λ b o. read (put b) o) ≡ total → total ≡ deep
      go zero le e = absurd (omega arith)
      go (suc k) le e = sym e ∙ ap (λ (x : Answer (Turn B S)). then_read (then_read x (after_turn (many step k))) (λ b o. read (put b) o)) h
