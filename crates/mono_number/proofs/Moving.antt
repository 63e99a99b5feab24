-- Steps of a walk, over plain variables.
use Rattle.std.proofs.Common.{◌≡◌, ◌<◌, ◌≤◌, ◌-◌, ℕ, zero, suc, Bool, true, false, List, [], ◌∷◌, ◌++◌, reverse, drop, length, Option, Some, nat_eq, if◌then◌else◌, unwrap_or, refl, sym, ap, ap₂, ◌∙◌, subst, arith}
use Rattle.std.specs.Map.{lookup}
use Rattle.std.proofs.lemmas.Bool.{eqb-true, eq-eqb}
use Rattle.std.proofs.lemmas.List.{reverse-append, map-append}
use Rattle.ty_core.specs.Types.{Typ}
use Rattle.ty_table.specs.TypeAt.{type_at}
use Rattle.ir_mono.specs.Types as table
use Rattle.monomorphise.specs.Monomorphise.{is_same}
use Rattle.monomorphise.specs.Number.{Given, given, number_of}
use Rattle.monomorphise.proofs.Names.{name-same}
use Rattle.mono_read.specs.of_mono_state.Seen.{Held, name_in}
use Rattle.mono_read.specs.of_mono_state.declared.word.Word.{Word}
use Rattle.mono_read.specs.of_mono_state.declared.word.Word.TheVariants as word
use Rattle.mono_read.specs.Reads as made
use Rattle.mono_number.specs.Walking.{Frame, in_bodies, Standing, at, Made, ended}
use Rattle.mono_number.specs.Moves.{Texts, AreNumbers, given_in, frame_in, left_to, frames_in, AreNested, AreBelow, IsOpen, Move, Moves, makes, binds, enters, enters_bodies, lets, ends, Leaves, BindsTo, follows}
use Rattle.mono_number.specs.declared.walk.Around.{Around}
use Rattle.mono_number.specs.declared.walk.Around.TheVariants as around
use Rattle.mono_number.specs.declared.walk.After.{After}
use Rattle.mono_number.specs.declared.walk.Part.{Part}
use Rattle.mono_number.specs.declared.walk.Walk.{Walk}

pub reverse-last : {A : Type 0} (xs : List A) (x : A) → reverse (xs ++ x ∷ []) ≡ x ∷ reverse xs
reverse-last xs x = reverse-append xs (x ∷ [])

append-assoc : {A : Type 0} (a b c : List A) → (a ++ b) ++ c ≡ a ++ (b ++ c)
append-assoc [] b c = refl
append-assoc (n ∷ a) b c = ap (λ l. n ∷ l) (append-assoc a b c)

-- names

same-number : (limit : ℕ) (known : ℕ → Option ℕ) (H : Held) (index : Typ → ℕ) → AreNumbers limit known H index → (n m : ℕ) → n < limit → m < limit → is_same (name_in H n) (name_in H m) ≡ nat_eq n m
same-number limit known H index N n m ln lm = by (nat_eq n m) refl
  where
    other : nat_eq n m ≡ false → (b : Bool) → is_same (name_in H n) (name_in H m) ≡ b → b ≡ false
    other i true e = let same = N.distinct n m ln lm e in let t : nat_eq n m ≡ true = eq-eqb n m same in let c : true ≡ false = sym t ∙ i in absurd (cc)
    other i false e = refl

    by : (b : Bool) → nat_eq n m ≡ b → is_same (name_in H n) (name_in H m) ≡ b
    by true i = let same = eqb-true n m i in ap (λ k. is_same (name_in H n) (name_in H k)) (sym same) ∙ name-same (name_in H n)
    by false i = other i (is_same (name_in H n) (name_in H m)) refl

-- a copy that is looked up
found-step : (n : ℕ) (e : ℕ × ℕ) (l : List (ℕ × ℕ)) (r : ℕ) (t : Bool) → nat_eq n e.0 ≡ t → r ≡ unwrap_or (lookup (nat_eq n) l) 0 → (if t then e.1 else r) ≡ unwrap_or (lookup (nat_eq n) (e ∷ l)) 0
found-step n e l r true i h = sym (ap (λ (t : Bool). unwrap_or (if t then Some e.1 else lookup (nat_eq n) l) 0) i)
found-step n e l r false i h = h ∙ sym (ap (λ (t : Bool). unwrap_or (if t then Some e.1 else lookup (nat_eq n) l) 0) i)

-- a copy that is looked up
pub number-found : (limit : ℕ) (known : ℕ → Option ℕ) (H : Held) (index : Typ → ℕ) → AreNumbers limit known H index → (n : ℕ) → n < limit → (l : List (ℕ × ℕ)) → AreBelow limit l → number_of (name_in H n) (given_in H l) ≡ unwrap_or (lookup (nat_eq n) l) 0
number-found limit known H index N n ln [] b = refl
number-found limit known H index N n ln (e ∷ l) b =
    ap (λ (t : Bool). if t then e.1 else number_of (name_in H n) (given_in H l)) (same-number limit known H index N n e.0 ln b.0)
    ∙ found-step n e l (number_of (name_in H n) (given_in H l)) (nat_eq n e.0) refl (number-found limit known H index N n ln l b.1)

-- scopes

drop-below : (limit k : ℕ) (l : List (ℕ × ℕ)) → AreBelow limit l → AreBelow limit (drop k l)
drop-below limit zero l b = b
drop-below limit (suc k) [] b = b
drop-below limit (suc k) (e ∷ l) b = drop-below limit k l b.1

left-more : (m : ℕ) (e : ℕ × ℕ) (l : List (ℕ × ℕ)) → m ≤ length l → left_to m (e ∷ l) ≡ left_to m l
left-more m e l h = ap (λ k. drop k (e ∷ l)) (let p : suc (length l) - m ≡ suc (length l - m) = omega (arith, h) in p)

pub left-all : (l : List (ℕ × ℕ)) → left_to (length l) l ≡ l
left-all l = ap (λ k. drop k l) (let p : length l - length l ≡ 0 = omega arith in p)

nested-more : (fs : List Part) (e : ℕ × ℕ) (l : List (ℕ × ℕ)) → AreNested fs l → AreNested fs (e ∷ l)
nested-more [] e l h = h
nested-more (f ∷ fs) e l h = (let p = h.0 in omega (arith, p), subst (AreNested fs) (sym (left-more f.mark e l h.0)) h.1)

pub frames-more : (H : Held) (fs : List Part) (e : ℕ × ℕ) (l : List (ℕ × ℕ)) → AreNested fs l → frames_in H fs (e ∷ l) ≡ frames_in H fs l
frames-more H [] e l h = refl
frames-more H (f ∷ fs) e l h = ap (λ k. frame_in H (given_in H k) f.around ∷ frames_in H fs k) (left-more f.mark e l h.0)

module _ (limit : ℕ) (known : ℕ → Option ℕ) where
  -- steps

  pub made-moves : (w : Word) (old new : Walk) → IsOpen limit old → new.names ≡ old.names → new.next ≡ old.next → new.frames.items ≡ old.frames.items → new.made.items ≡ old.made.items ++ w ∷ [] → Moves limit known (makes w) old new
  made-moves w old new o n b f m = record {
    open_ = record { below = subst (AreBelow limit) (sym n) o.below; nested = subst (λ fs. AreNested (reverse fs) new.names) (sym f) (subst (AreNested (reverse old.frames.items)) (sym n) o.nested) };
    does = λ types index strings H N go.
        ap (λ l. made.signs_of types strings l ++ go (at (given_in H new.names) new.next (frames_in H (reverse new.frames.items) new.names))) m
        ∙ ap (λ l. l ++ go (at (given_in H new.names) new.next (frames_in H (reverse new.frames.items) new.names))) (map-append (made.sign_of types strings) old.made.items (w ∷ []))
        ∙ append-assoc (made.signs_of types strings old.made.items) (made.sign_of types strings w ∷ []) (go (at (given_in H new.names) new.next (frames_in H (reverse new.frames.items) new.names)))
        ∙ ap₂ (λ l fs. made.signs_of types strings old.made.items ++ (made.sign_of types strings w ∷ go (at (given_in H l) new.next (frames_in H (reverse fs) l)))) n f
        ∙ ap (λ k. made.signs_of types strings old.made.items ++ (made.sign_of types strings w ∷ go (at (given_in H old.names) k (frames_in H (reverse old.frames.items) old.names)))) b;
  }

  pub bound-moves : (n : ℕ) (old new : Walk) → IsOpen limit old → n < limit → new.names ≡ (n, old.next) ∷ old.names → new.next ≡ suc old.next → new.frames ≡ old.frames → new.made ≡ old.made → Moves limit known (binds n) old new
  bound-moves n old new o lt e b f m =
      let more = subst (AreNested (reverse old.frames.items)) (sym e) (nested-more (reverse old.frames.items) (n, old.next) old.names o.nested) in
      record {
        open_ = record { below = subst (AreBelow limit) (sym e) (lt, o.below); nested = subst (λ fs. AreNested (reverse fs.items) new.names) (sym f) more };
        does = λ types index strings H N go.
            ap₂ (λ ws k. made.signs_of types strings ws.items ++ go (at (given_in H new.names) k (frames_in H (reverse new.frames.items) new.names))) m b
            ∙ ap₂ (λ l fs. made.signs_of types strings old.made.items ++ go (at (given_in H l) (suc old.next) (frames_in H (reverse fs.items) l))) e f
            ∙ ap (λ fs. made.signs_of types strings old.made.items ++ go (at (given (name_in H n) old.next (given_in H old.names)) (suc old.next) fs)) (frames-more H (reverse old.frames.items) (n, old.next) old.names o.nested);
      }

  pub entered-moves : (a : Around) (mark : ℕ) (old new : Walk) → IsOpen limit old → mark ≡ length old.names → new.names ≡ old.names → new.next ≡ old.next → new.frames.items ≡ old.frames.items ++ (record { around = a; mark = mark }) ∷ [] → new.made ≡ old.made
      → Moves limit known (enters a) old new
  entered-moves a mark old new o i n b f m =
      let p : Part = record { around = a; mark = mark } in
      let r : reverse new.frames.items ≡ p ∷ reverse old.frames.items = ap reverse f ∙ reverse-last old.frames.items p in
      let all : left_to mark old.names ≡ old.names = ap (λ k. left_to k old.names) i ∙ left-all old.names in
      let inside : AreNested (p ∷ reverse old.frames.items) old.names = (omega (arith, i), subst (AreNested (reverse old.frames.items)) (sym all) o.nested) in
      record {
        open_ = record { below = subst (AreBelow limit) (sym n) o.below; nested = subst (λ fs. AreNested fs new.names) (sym r) (subst (AreNested (p ∷ reverse old.frames.items)) (sym n) inside) };
        does = λ types index strings H N go.
            ap₂ (λ ws k. made.signs_of types strings ws.items ++ go (at (given_in H new.names) k (frames_in H (reverse new.frames.items) new.names))) m b
            ∙ ap₂ (λ l fs. made.signs_of types strings old.made.items ++ go (at (given_in H l) old.next (frames_in H fs l))) n r
            ∙ ap (λ l. made.signs_of types strings old.made.items ++ go (at (given_in H old.names) old.next (frame_in H (given_in H l) a ∷ frames_in H (reverse old.frames.items) l))) all;
      }

  -- one step after another
  pub then-is : (f g h : Move) (a b c : Walk) → Moves limit known f a b → Moves limit known g b c
      → ((types : List table.Row) (index : Typ → ℕ) (strings : Texts) (H : Held) → AreNumbers limit known H index → (go : Standing → Made types index)
      → f types index strings H (given_in H a.names) a.next (frames_in H (reverse a.frames.items) a.names) (λ s. g types index strings H s.numbers s.next s.frames go) ≡ h types index strings H (given_in H a.names) a.next (frames_in H (reverse a.frames.items) a.names) go)
      → Moves limit known h a c
  then-is f g h a b c p q e = record {
    open_ = q.open_;
    does = λ types index strings H N go.
        q.does types index strings H N go ∙ p.does types index strings H N (λ s. g types index strings H s.numbers s.next s.frames go) ∙ ap (λ l. made.signs_of types strings a.made.items ++ l) (e types index strings H N go);
  }

  -- the same step
  pub is-moves : (f h : Move) (a c : Walk) → Moves limit known f a c
      → ((types : List table.Row) (index : Typ → ℕ) (strings : Texts) (H : Held) → AreNumbers limit known H index → (go : Standing → Made types index)
      → f types index strings H (given_in H a.names) a.next (frames_in H (reverse a.frames.items) a.names) go ≡ h types index strings H (given_in H a.names) a.next (frames_in H (reverse a.frames.items) a.names) go)
      → Moves limit known h a c
  is-moves f h a c p e = record { open_ = p.open_; does = λ types index strings H N go. p.does types index strings H N go ∙ ap (λ l. made.signs_of types strings a.made.items ++ l) (e types index strings H N go) }

  -- nothing is done
  pub still-moves : (h : Move) (a : Walk) → IsOpen limit a
      → ((types : List table.Row) (index : Typ → ℕ) (strings : Texts) (H : Held) → AreNumbers limit known H index → (go : Standing → Made types index)
      → go (at (given_in H a.names) a.next (frames_in H (reverse a.frames.items) a.names)) ≡ h types index strings H (given_in H a.names) a.next (frames_in H (reverse a.frames.items) a.names) go)
      → Moves limit known h a a
  still-moves h a o e = record { open_ = o; does = λ types index strings H N go. ap (λ l. made.signs_of types strings a.made.items ++ l) (e types index strings H N go) }

  -- leaving

  pub left-is : (part : Part) (old new : Walk) → IsOpen limit old → old.frames.items ≡ new.frames.items ++ part ∷ [] → new.names ≡ left_to part.mark old.names → new.next ≡ old.next → new.made ≡ old.made → Leaves limit part old new
  left-is part old new o f n b m =
      let r : reverse old.frames.items ≡ part ∷ reverse new.frames.items = ap reverse f ∙ reverse-last new.frames.items part in
      let inside = subst (λ fs. AreNested fs old.names) r o.nested in
      record {
        open_ = record { below = subst (AreBelow limit) (sym n) (drop-below limit (length old.names - part.mark) old.names o.below); nested = subst (AreNested (reverse new.frames.items)) (sym n) inside.1 };
        names = n;
        next = b;
        made = m;
        frames = r;
      }

  -- the step is this, where the part is left and then f is done
  pub left-then : (part : Part) (f h : Move) (old new end : Walk) → Leaves limit part old new → Moves limit known f new end
      → ((types : List table.Row) (index : Typ → ℕ) (strings : Texts) (H : Held) → AreNumbers limit known H index → (b : ℕ) (g : Given) (fs : List Frame) (go : Standing → Made types index)
      → f types index strings H g b fs go ≡ h types index strings H (given_in H old.names) b (frame_in H g part.around ∷ fs) go)
      → Moves limit known h old end
  left-then part f h old new end l p e = record {
    open_ = p.open_;
    does = λ types index strings H N go.
        p.does types index strings H N go
        ∙ ap₂ (λ ws k. made.signs_of types strings ws.items ++ f types index strings H (given_in H new.names) k (frames_in H (reverse new.frames.items) new.names) go) l.made l.next
        ∙ ap (λ r. made.signs_of types strings old.made.items ++ r) (e types index strings H N old.next (given_in H new.names) (frames_in H (reverse new.frames.items) new.names) go)
        ∙ ap (λ n. made.signs_of types strings old.made.items ++ h types index strings H (given_in H old.names) old.next (frame_in H (given_in H n) part.around ∷ frames_in H (reverse new.frames.items) n) go) l.names
        ∙ ap (λ fs. made.signs_of types strings old.made.items ++ h types index strings H (given_in H old.names) old.next (frames_in H fs old.names) go) (sym l.frames);
  }

  pub left-alone : (part : Part) (h : Move) (old new : Walk) → Leaves limit part old new
      → ((types : List table.Row) (index : Typ → ℕ) (strings : Texts) (H : Held) → AreNumbers limit known H index → (b : ℕ) (g : Given) (fs : List Frame) (go : Standing → Made types index)
      → go (at g b fs) ≡ h types index strings H (given_in H old.names) b (frame_in H g part.around ∷ fs) go)
      → Moves limit known h old new
  left-alone part h old new l e = left-then part (λ types index strings H g b fr go. go (at g b fr)) h old new new l (still-moves (λ types index strings H g b fr go. go (at g b fr)) new l.open_ (λ types index strings H N go. refl)) e

  -- nothing was around
  pub none-left : (old mid new : Walk) → IsOpen limit old → old.frames.items ≡ [] → mid.frames.items ≡ [] → mid.names ≡ old.names → mid.next ≡ old.next → mid.made ≡ old.made → new.names ≡ left_to 0 mid.names → new.next ≡ mid.next
      → new.frames ≡ mid.frames → new.made ≡ mid.made → Moves limit known ends old new
  none-left old mid new o r q n₀ b₀ m₀ n b f m =
      let nil : new.names ≡ [] = n ∙ drop-all mid.names in
      let bare : reverse new.frames.items ≡ [] = ap (λ fs. reverse fs.items) f ∙ ap reverse q in
      record {
        open_ = record { below = subst (AreBelow limit) (sym nil) tt; nested = subst (λ fs. AreNested fs new.names) (sym bare) tt };
        does = λ types index strings H N go.
            ap₂ (λ ws k. made.signs_of types strings ws.items ++ go (at (given_in H new.names) k (frames_in H (reverse new.frames.items) new.names))) (m ∙ m₀) (b ∙ b₀)
            ∙ ap₂ (λ l fs. made.signs_of types strings old.made.items ++ go (at (given_in H l) old.next (frames_in H fs l))) nil bare
            ∙ ap (λ fs. made.signs_of types strings old.made.items ++ ended types index old.next (frames_in H fs old.names) go) (sym (ap reverse r));
      }
    where
      drop-length : (l : List (ℕ × ℕ)) (k : ℕ) → k ≡ length l → drop k l ≡ []
      drop-length [] zero e = refl
      drop-length [] (suc k) e = refl
      drop-length (x ∷ l) zero e = absurd (omega (arith, e))
      drop-length (x ∷ l) (suc k) e = drop-length l k (omega (arith, e))

      drop-all : (l : List (ℕ × ℕ)) → left_to 0 l ≡ []
      drop-all l = drop-length l (length l - 0) (omega arith)

  -- a part ends, by what is around
  pub finish-with : (part : Part) (a : Around) (f : Move) (old mid end : Walk) → part.around ≡ a → Leaves limit part old mid → Moves limit known f mid end
      → ((types : List table.Row) (index : Typ → ℕ) (strings : Texts) (H : Held) (b : ℕ) (g : Given) (fs : List Frame) (go : Standing → Made types index) → f types index strings H g b fs go ≡ ended types index b (frame_in H g a ∷ fs) go)
      → Moves limit known ends old end
  finish-with part a f old mid end i l p e =
      left-then part f ends old mid end l p (λ types index strings H N b g fs go. e types index strings H b g fs go ∙ ap (λ x. ended types index b (frame_in H g x ∷ fs) go) (sym i))

  pub finish-alone : (part : Part) (a : Around) (old mid : Walk) → part.around ≡ a → Leaves limit part old mid
      → ((types : List table.Row) (index : Typ → ℕ) (strings : Texts) (H : Held) (b : ℕ) (g : Given) (fs : List Frame) (go : Standing → Made types index) → go (at g b fs) ≡ ended types index b (frame_in H g a ∷ fs) go)
      → Moves limit known ends old mid
  finish-alone part a old mid i l e =
      left-alone part ends old mid l (λ types index strings H N b g fs go. e types index strings H b g fs go ∙ ap (λ x. ended types index b (frame_in H g x ∷ fs) go) (sym i))

  pub bodies-moves : (n : ℕ) (a c : Walk) → 1 ≤ n → Moves limit known (enters (around.Bodies (n - 1))) a c → Moves limit known (enters_bodies n) a c
  bodies-moves zero a c h p = absurd (omega (arith, h))
  bodies-moves (suc n) a c h p =
      let m : suc n - 1 ≡ n = omega arith in
      is-moves (enters (around.Bodies (suc n - 1))) (enters_bodies (suc n)) a c p (λ types index strings H N go. ap (λ k. go (at (given_in H a.names) a.next (in_bodies k (given_in H a.names) ∷ frames_in H (reverse a.frames.items) a.names))) m)

  pub let-moves : (n t k : ℕ) (a b c : Walk) → ((H : Held) (index : Typ → ℕ) → AreNumbers limit known H index → index (type_at H.types t) ≡ k) → Moves limit known (makes (word.Let a.next k)) a b → Moves limit known (binds n) b c
      → Moves limit known (lets n t) a c
  let-moves n t k a b c f p q =
      then-is (makes (word.Let a.next k)) (binds n) (lets n t) a b c p q
      (λ types index strings H N go. ap (λ k. made.sign_of types strings (word.Let a.next k) ∷ go (at (given (name_in H n) a.next (given_in H a.names)) (suc a.next) (frames_in H (reverse a.frames.items) a.names))) (sym (f H index N)))

  pub at-after : (a b : After) (old new : Walk) → a ≡ b → Moves limit known (follows b) old new → Moves limit known (follows a) old new
  at-after a b old new e h = subst (λ a. Moves limit known (follows a) old new) (sym e) h

  pub bound-to : (n k : ℕ) (old new : Walk) → IsOpen limit old → n < limit → new.names ≡ (n, k) ∷ old.names → new.next ≡ old.next → new.frames ≡ old.frames → new.made ≡ old.made → BindsTo limit n k old new
  bound-to n k old new o lt e b f m = record {
    open_ = record {
      below = subst (AreBelow limit) (sym e) (lt, o.below);
      nested = subst (λ fs. AreNested (reverse fs.items) new.names) (sym f) (subst (AreNested (reverse old.frames.items)) (sym e) (nested-more (reverse old.frames.items) (n, k) old.names o.nested));
    };
    names = e;
    next = b;
    frames = f;
    made = m;
  }
