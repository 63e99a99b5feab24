-- Lists that end, and the functions of a group.
use Rattle.std.proofs.Common.{◌≡◌, ◌<◌, ◌≤◌, ◌+◌, ◌-◌, ℕ, zero, suc, List, [], ◌∷◌, ◌++◌, map, reverse, drop, length, Option, Some, slice_get, get_or, refl, sym, ap, ap₂, ◌∙◌, subst, arith}
use Rattle.std.proofs.lemmas.List.{append-nil, drop_more}
use Rattle.ty_core.specs.Types.{Typ}
use Rattle.ty_table.specs.TypeAt.{type_at}
use Rattle.ir_mono.specs.Types as table
use Rattle.monomorphise.specs.Number.{Given, none_given, given}
use Rattle.mono_read.specs.of_mono_words.Words as named
use Rattle.mono_read.specs.of_mono_state.Seen.{Held, name_in, sign_of, sign_of_act}
use Rattle.mono_read.specs.of_mono_state.declared.word.Act.{Act}
use Rattle.mono_read.specs.of_mono_state.declared.word.Act.TheVariants as act
use Rattle.mono_read.specs.of_mono_state.declared.word.Word.{Word}
use Rattle.mono_read.specs.of_mono_state.declared.word.Word.TheVariants as word
use Rattle.mono_read.specs.Reads as made
use Rattle.mono_number.specs.Walking.{Frame, in_heads, Standing, at, Made, head_count, heads_given, bodies_left, closed, along}
use Rattle.mono_number.specs.Moves.{Texts, AreNumbers, given_in, frame_in, left_to, frames_in, AreNested, AreBelow, IsOpen, told, Move, Moves, makes, enters, enters_bodies, closes, takes, Leaves, heads_one, begins, AreHeads, BindsHead, BindsHeads, follows, after_of, IsNumbered}
use Rattle.mono_number.specs.declared.walk.Around.{Around}
use Rattle.mono_number.specs.declared.walk.Around.TheVariants as around
use Rattle.mono_number.specs.declared.walk.Part.{Part}
use Rattle.mono_number.specs.declared.walk.Walk.{Walk}
use Rattle.mono_number.proofs.Moving.{then-is, is-moves, left-then, frames-more}

module _ (limit : ℕ) (known : ℕ → Option ℕ) where
  -- a word that becomes a word
  pub plain-moves : (w m : Word) (ws : List Word) (a b c : Walk) → IsNumbered limit known a.names a.next w m → Moves limit known (makes m) a b → Moves limit known (follows (after_of w)) b c → Moves limit known (takes w ws) a c
  plain-moves w m ws a b c n p q =
      then-is limit known (makes m) (follows (after_of w)) (takes w ws) a b c p q (λ types index strings H N go. sym (n types index strings H N ws (frames_in H (reverse a.frames.items) a.names) go))

  pub end-moves : (ws : List Word) (a b c : Walk) → Moves limit known (makes word.End) a b → Moves limit known closes b c → Moves limit known (takes word.End ws) a c
  end-moves ws a b c p q = then-is limit known (makes word.End) closes (takes word.End ws) a b c p q (λ types index strings H N go. refl)

  -- a list ends, by what is around

  pub close-with : (part : Part) (a : Around) (f : Move) (old mid end : Walk) → part.around ≡ a → Leaves limit part old mid → Moves limit known f mid end
      → ((types : List table.Row) (index : Typ → ℕ) (strings : Texts) (H : Held) (b : ℕ) (g h : Given) (fs : List Frame) (go : Standing → Made types index) → f types index strings H g b fs go ≡ closed types index h b (frame_in H g a ∷ fs) go)
      → Moves limit known closes old end
  close-with part a f old mid end i l p e =
      left-then limit known part f closes old mid end l p
      (λ types index strings H N b g fs go. e types index strings H b g (given_in H old.names) fs go ∙ ap (λ x. closed types index (given_in H old.names) b (frame_in H g x ∷ fs) go) (sym i))

  -- where nothing had a number inside
  same-names : (part : Part) (old mid : Walk) → Leaves limit part old mid → length old.names ≤ part.mark → left_to part.mark old.names ≡ old.names
  same-names part old mid l h = ap (λ k. drop k old.names) (let p : length old.names - part.mark ≡ 0 = omega (arith, h) in p)

  heads-then : (part : Part) (n m : ℕ) (f h : Move) (old mid end : Walk) → part.around ≡ around.Heads n m → length old.names ≤ part.mark → Leaves limit part old mid → Moves limit known f mid end
      → ((types : List table.Row) (index : Typ → ℕ) (strings : Texts) (H : Held) (b : ℕ) (g : Given) (fs : List Frame) (go : Standing → Made types index) → f types index strings H g b fs go ≡ h types index strings H g b (in_heads n m ∷ fs) go)
      → Moves limit known h old end
  heads-then part n m f h old mid end i k l p e =
      let s = same-names part old mid l k in
      let same : mid.names ≡ old.names = l.names ∙ s in
      record {
        open_ = p.open_;
        does = λ types index strings H N go.
            p.does types index strings H N go
            ∙ ap₂ (λ ws k. made.signs_of types strings ws.items ++ f types index strings H (given_in H mid.names) k (frames_in H (reverse mid.frames.items) mid.names) go) l.made l.next
            ∙ ap (λ n. made.signs_of types strings old.made.items ++ f types index strings H (given_in H n) old.next (frames_in H (reverse mid.frames.items) n) go) same
            ∙ ap (λ r. made.signs_of types strings old.made.items ++ r) (e types index strings H old.next (given_in H old.names) (frames_in H (reverse mid.frames.items) old.names) go)
            ∙ ap₂ (λ a n. made.signs_of types strings old.made.items ++ h types index strings H (given_in H old.names) old.next (frame_in H (given_in H old.names) a ∷ frames_in H (reverse mid.frames.items) n) go) (sym i) (sym s)
            ∙ ap (λ n. made.signs_of types strings old.made.items ++ h types index strings H (given_in H old.names) old.next (frame_in H (given_in H n) part.around ∷ frames_in H (reverse mid.frames.items) (left_to part.mark old.names)) go) (sym s)
            ∙ ap (λ fs. made.signs_of types strings old.made.items ++ h types index strings H (given_in H old.names) old.next (frames_in H fs old.names) go) (sym l.frames);
      }

  pub close-heads : (part : Part) (n m : ℕ) (old mid end : Walk) → part.around ≡ around.Heads n m → length old.names ≤ part.mark → Leaves limit part old mid → Moves limit known (begins n) mid end → Moves limit known closes old end
  close-heads part n m old mid end i k l p = heads-then part n m (begins n) closes old mid end i k l p (λ types index strings H b g fs go. refl)

  pub head-moves : (part : Part) (n m x t : ℕ) (ws : List Word) (old mid end : Walk) → part.around ≡ around.Heads n m → length old.names ≤ part.mark → Leaves limit part old mid → Moves limit known (heads_one t n m) mid end
      → Moves limit known (takes (word.Function x t) ws) old end
  head-moves part n m x t ws old mid end i k l p = heads-then part n m (heads_one t n m) (takes (word.Function x t) ws) old mid end i k l p (λ types index strings H b g fs go. refl)

  -- the number that comes after the heads
  pub begins-moves : (n : ℕ) (a b c : Walk) → b.names ≡ a.names → b.next ≡ a.next + n → b.frames ≡ a.frames → b.made ≡ a.made → Moves limit known (enters_bodies n) b c → Moves limit known (begins n) a c
  begins-moves n a b c i k f m p = record {
    open_ = p.open_;
    does = λ types index strings H N go.
        p.does types index strings H N go
        ∙ ap₂ (λ ws k. made.signs_of types strings ws.items ++ go (at (given_in H b.names) k (bodies_left types index n (given_in H b.names) (frames_in H (reverse b.frames.items) b.names)))) m k
        ∙ ap₂ (λ l fs. made.signs_of types strings a.made.items ++ go (at (given_in H l) (a.next + n) (bodies_left types index n (given_in H l) (frames_in H (reverse fs.items) l)))) i f;
  }

  pub head-added : (t u n m : ℕ) (a b c : Walk) → 1 ≤ m → ((H : Held) (index : Typ → ℕ) → AreNumbers limit known H index → index (type_at H.types t) ≡ u) → Moves limit known (makes (word.Function (a.next + (m - 1)) u)) a b
      → Moves limit known (enters (around.Heads n (m - 1))) b c → Moves limit known (heads_one t n m) a c
  head-added t u n zero a b c h f p q = absurd (omega (arith, h))
  head-added t u n (suc m) a b c h f p q =
      let e : suc m - 1 ≡ m = omega arith in
      then-is limit known (makes (word.Function (a.next + (suc m - 1)) u)) (enters (around.Heads n (suc m - 1))) (heads_one t n (suc m)) a b c p q
      (λ types index strings H N go.
      ap₂ (λ u k. made.sign_of types strings (word.Function (a.next + k) u) ∷ go (at (given_in H a.names) a.next (in_heads n k ∷ frames_in H (reverse a.frames.items) a.names))) (sym (f H index N)) e)

  -- a group

  pub group-moves : (ws : List Word) (n : ℕ) (a b c d : Walk) → Moves limit known (makes word.Group) a b → BindsHeads limit ws n b c → Moves limit known (enters (around.Heads n n)) c d → Moves limit known (takes word.Group ws) a d
  group-moves ws n a b c d p q r = record {
    open_ = r.open_;
    does = λ types index strings H N go.
        r.does types index strings H N go
        ∙ ap₂ (λ ws k. made.signs_of types strings ws.items ++ go (at (given_in H c.names) k (in_heads n n ∷ frames_in H (reverse c.frames.items) c.names))) q.made q.next
        ∙ ap₂ (λ g fs. made.signs_of types strings b.made.items ++ go (at g b.next (in_heads n n ∷ fs))) (q.numbers strings H) (q.frames H)
        ∙ ap (λ k. made.signs_of types strings b.made.items ++ go (at (heads_given b.next (map (sign_of strings H) ws) (given_in H b.names)) b.next (in_heads k k ∷ frames_in H (reverse b.frames.items) b.names))) (sym (q.heads strings H))
        ∙ p.does types index strings H N (λ s. go (at (heads_given s.next (map (sign_of strings H) ws) s.numbers) s.next (in_heads (head_count (map (sign_of strings H) ws)) (head_count (map (sign_of strings H) ws)) ∷ s.frames)));
  }

-- heads

heads-past : (ws : List named.Sign) (n : ℕ) → head_count ws ≡ n → head_count (drop n ws) ≡ 0
heads-past ws zero e = e
heads-past [] (suc n) e = refl
heads-past (named.function_sign k t ∷ ws) (suc n) e = heads-past ws n (omega (arith, e))
heads-past (_ ∷ ws) (suc n) e = absurd (omega (arith, e))

none-given-there : (b : ℕ) (ws : List named.Sign) (g : Given) → head_count ws ≡ 0 → heads_given b ws g ≡ g
none-given-there b [] g e = refl
none-given-there b (named.function_sign k t ∷ ws) g e = absurd (omega (arith, e))
none-given-there b (_ ∷ ws) g e = refl

map-drop : {A B : Type 0} (f : A → B) (n : ℕ) (l : List A) → map f (drop n l) ≡ drop n (map f l)
map-drop f zero l = refl
map-drop f (suc n) [] = refl
map-drop f (suc n) (x ∷ l) = map-drop f n l

drop-none : {A : Type 0} (k : ℕ) → drop {A = A} k [] ≡ []
drop-none zero = refl
drop-none (suc k) = refl

drop-drop : {A : Type 0} (n m : ℕ) (l : List A) → drop (n + m) l ≡ drop m (drop n l)
drop-drop zero m l = ap (λ k. drop k l) (let p : 0 + m ≡ m = omega arith in p)
drop-drop (suc n) m [] = drop-none (suc n + m) ∙ sym (drop-none m)
drop-drop (suc n) m (x ∷ l) = ap (λ k. drop k (x ∷ l)) (let p : suc n + m ≡ suc (n + m) = omega arith in p) ∙ drop-drop n m l

module _ (limit : ℕ) where
  pub no-heads : (words : List Word) (from count : ℕ) (a : Walk) → IsOpen limit a → AreHeads (drop from words) count → BindsHeads limit (drop (from + count) words) 0 a a
  no-heads words from count a o h =
      let past : (strings : Texts) (H : Held) → head_count (map (sign_of strings H) (drop (from + count) words)) ≡ 0 =
      λ strings H. ap head_count (ap (map (sign_of strings H)) (drop-drop from count words) ∙ map-drop (sign_of strings H) count (drop from words)) ∙ heads-past (map (sign_of strings H) (drop from words)) count (h strings H) in
      record {
        open_ = o;
        heads = past;
        numbers = λ strings H. sym (none-given-there a.next (map (sign_of strings H) (drop (from + count) words)) (given_in H a.names) (past strings H));
        frames = λ H. refl;
        next = refl;
        made = refl;
      }

  pub one-head : (words : List Word) (p n : ℕ) (a b c : Walk) → BindsHeads limit (drop (p + 1) words) n a b → BindsHead limit words p n b c → BindsHeads limit (drop p words) (suc n) a c
  one-head words p n a b c h q =
      let s = q.says in
      record {
        open_ = q.binds.open_;
        heads = λ strings H. ap (λ l. head_count (map (sign_of strings H) l)) s ∙ ap suc (h.heads strings H);
        numbers = λ strings H.
            ap (given_in H) q.binds.names
            ∙ ap₂ (λ k g. given (name_in H q.variable) (k + n) g) h.next (h.numbers strings H)
            ∙ ap (λ m. given (name_in H q.variable) (a.next + m) (heads_given a.next (map (sign_of strings H) (drop (p + 1) words)) (given_in H a.names))) (sym (h.heads strings H))
            ∙ sym (ap (λ l. heads_given a.next (map (sign_of strings H) l) (given_in H a.names)) s);
        frames = λ H.
            ap₂ (λ fs l. frames_in H (reverse fs.items) l) q.binds.frames q.binds.names ∙ frames-more H (reverse b.frames.items) (q.variable, b.next + n) b.names h.open_.nested ∙ h.frames H;
        next = q.binds.next ∙ h.next;
        made = q.binds.made ∙ h.made;
      }

  pub heads-start : (words : List Word) (from count left : ℕ) (a : Walk) → left ≡ count → IsOpen limit a → AreHeads (drop from words) count → BindsHeads limit (drop (from + left) words) (count - left) a a
  heads-start words from count left a e o h =
      let z : 0 ≡ count - left = omega (arith, e) in
      subst (λ k. BindsHeads limit (drop (from + left) words) k a a) z (subst (λ k. BindsHeads limit (drop (from + k) words) 0 a a) (sym e) (no-heads words from count a o h))

  pub heads-next : (words : List Word) (from count left i p n : ℕ) (a b c : Walk) → left ≡ i + 1 → left ≤ count → p ≡ from + i → n ≡ count - 1 - i → BindsHeads limit (drop (from + left) words) (count - left) a b → BindsHead limit words p n b c
      → BindsHeads limit (drop (from + i) words) (count - i) a c
  heads-next words from count left i p n a b c e le k m h q =
      let behind : from + left ≡ p + 1 = omega (arith, e, k) in
      let so : count - left ≡ n = omega (arith, e, le, m) in
      let more : suc n ≡ count - i = omega (arith, e, le, m) in
      let h' = subst (λ j. BindsHeads limit (drop j words) n a b) behind (subst (λ j. BindsHeads limit (drop (from + left) words) j a b) so h) in
      subst (λ j. BindsHeads limit (drop j words) (count - i) a c) k (subst (λ j. BindsHeads limit (drop p words) j a c) more (one-head words p n a b c h' q))

  pub heads-done : (words : List Word) (from count left : ℕ) (a b : Walk) → left ≡ 0 → BindsHeads limit (drop (from + left) words) (count - left) a b → BindsHeads limit (drop from words) count a b
  heads-done words from count left a b e h =
      let f : from + left ≡ from = omega (arith, e) in
      let c : count - left ≡ count = omega (arith, e) in
      subst (λ j. BindsHeads limit (drop j words) count a b) f (subst (λ j. BindsHeads limit (drop (from + left) words) j a b) c h)

-- counting

pub counted-one : (words : List Word) (i : ℕ) (d : Word) → i < length words → (n t : ℕ) → get_or words i d ≡ word.Function n t → (strings : Texts) (H : Held)
    → head_count (map (sign_of strings H) (drop i words)) ≡ suc (head_count (map (sign_of strings H) (drop (i + 1) words)))
counted-one words i d lt n t q strings H = ap (λ l. head_count (map (sign_of strings H) l)) (drop_more words i d lt ∙ ap (λ x. x ∷ drop (i + 1) words) q)

act-none : (strings : Texts) (H : Held) (a : Act) (ws : List named.Sign) → head_count (sign_of_act strings H a ∷ ws) ≡ 0
act-none strings H (act.Record t) ws = refl
act-none strings H (act.Perform m p t) ws = refl
act-none strings H _ ws = refl

word-none : (strings : Texts) (H : Held) (w : Word) → ((n t : ℕ) → w ≡ word.Function n t → ⊥) → (ws : List named.Sign) → head_count (sign_of strings H w ∷ ws) ≡ 0
word-none strings H (word.Function n t) h ws = absurd (h n t refl)
word-none strings H (word.Act a) h ws = act-none strings H a ws
word-none strings H _ h ws = refl

pub counted-none : (words : List Word) (i : ℕ) (d : Word) → i < length words → ((n t : ℕ) → get_or words i d ≡ word.Function n t → ⊥) → (strings : Texts) (H : Held) → head_count (map (sign_of strings H) (drop i words)) ≡ 0
counted-none words i d lt h strings H = ap (λ l. head_count (map (sign_of strings H) l)) (drop_more words i d lt) ∙ word-none strings H (get_or words i d) h (map (sign_of strings H) (drop (i + 1) words))

pub all-behind : {A : Type 0} (xs : List A) (i : ℕ) → length xs ≤ i → drop i xs ≡ []
all-behind [] zero h = refl
all-behind [] (suc i) h = refl
all-behind (x ∷ xs) zero h = absurd (omega (arith, h))
all-behind (x ∷ xs) (suc i) h = all-behind xs i (omega (arith, h))

pub counted-past : (words : List Word) (i : ℕ) → length words ≤ i → (strings : Texts) (H : Held) → head_count (map (sign_of strings H) (drop i words)) ≡ 0
counted-past words i h strings H = ap (λ l. head_count (map (sign_of strings H) l)) (all-behind words i h)

-- the word at a place
pub word-at : (words : List Word) (i : ℕ) (d x w : Word) → i < length words → x ≡ get_or words i d → slice_get words i ≡ Some w → w ≡ x
word-at [] i d x w lt e s = absurd (omega (arith, lt))
word-at (y ∷ words) zero d x w lt e s = let a : y ≡ w = cc in sym a ∙ sym e
word-at (y ∷ words) (suc i) d x w lt e s = word-at words i d x w (omega (arith, lt)) e s

-- a word that is there
pub record IsThere (words : List Word) (i : ℕ) : Type 0 where
  pub says : Word
  pub here : slice_get words i ≡ Some says
  pub behind : drop i words ≡ says ∷ drop (i + 1) words

word-there : (words : List Word) (i : ℕ) → i < length words → IsThere words i
word-there [] i lt = absurd (omega (arith, lt))
word-there (w ∷ words) zero lt = record { says = w; here = refl; behind = refl }
word-there (w ∷ words) (suc i) lt =
    let r = word-there words i (omega (arith, lt)) in
    record { says = r.says; here = r.here; behind = r.behind ∙ ap (λ k. r.says ∷ drop k (w ∷ words)) (let p : suc (i + 1) ≡ suc i + 1 = omega arith in p) }

pub at-place : (limit : ℕ) (known : ℕ → Option ℕ) (words : List Word) (i : ℕ) (d x v w : Word) (ws : List Word) (a b : Walk) → i < length words → x ≡ get_or words i d → x ≡ v → slice_get words i ≡ Some w → Moves limit known (takes v ws) a b
    → Moves limit known (takes w ws) a b
at-place limit known words i d x v w ws a b lt e q s h = subst (λ w. Moves limit known (takes w ws) a b) (sym (word-at words i d x w lt e s ∙ q)) h

pub let-taken : (limit : ℕ) (known : ℕ → Option ℕ) (n t : ℕ) (ws : List Word) (a b : Walk) → Moves limit known (enters (around.Let n t)) a b → Moves limit known (takes (word.Let n t) ws) a b
let-taken limit known n t ws a b h = is-moves limit known (enters (around.Let n t)) (takes (word.Let n t) ws) a b h (λ types index strings H N go. refl)

-- all words

module _ (limit : ℕ) (known : ℕ → Option ℕ) (words : List Word) where
  pub record SoFar (i : ℕ) (w : Walk) : Type 0 where
    pub open_ : IsOpen limit w
    pub same : (types : List table.Row) (index : Typ → ℕ) (strings : Texts) (H : Held) → AreNumbers limit known H index
        → told types index strings H w (along types index (map (sign_of strings H) (drop i words))) ≡ along types index (map (sign_of strings H) words) (at none_given 0 [])

  pub none-yet : (w : Walk) → w.names ≡ [] → w.next ≡ 0 → w.frames.items ≡ [] → w.made.items ≡ [] → SoFar 0 w
  none-yet w n b f m = record {
    open_ = record { below = subst (λ l. AreBelow limit l) (sym n) tt; nested = subst (λ fs. AreNested (reverse fs) w.names) (sym f) tt };
    same = λ types index strings H N.
        ap₂ (λ ws k. made.signs_of types strings ws ++ along types index (map (sign_of strings H) words) (at (given_in H w.names) k (frames_in H (reverse w.frames.items) w.names))) m b
        ∙ ap₂ (λ l fs. along types index (map (sign_of strings H) words) (at (given_in H l) 0 (frames_in H (reverse fs) l))) n f;
  }

  pub one-more : (i : ℕ) (a b : Walk) → i < length words → SoFar i a → ((w : Word) → slice_get words i ≡ Some w → Moves limit known (takes w (drop (i + 1) words)) a b) → SoFar (i + 1) b
  one-more i a b lt h f =
      let r = word-there words i lt in
      let p = f r.says r.here in
      record {
        open_ = p.open_;
        same = λ types index strings H N.
            p.does types index strings H N (along types index (map (sign_of strings H) (drop (i + 1) words)))
            ∙ ap (λ l. told types index strings H a (along types index (map (sign_of strings H) l))) (sym r.behind) ∙ h.same types index strings H N;
      }

  pub all-there : (i : ℕ) (w : Walk) → drop i words ≡ [] → SoFar i w → (types : List table.Row) (index : Typ → ℕ) (strings : Texts) (H : Held) → AreNumbers limit known H index
      → made.signs_of types strings w.made.items ≡ along types index (map (sign_of strings H) words) (at none_given 0 [])
  all-there i w e h types index strings H N =
      sym (append-nil (made.signs_of types strings w.made.items)) ∙ ap (λ l. told types index strings H w (along types index (map (sign_of strings H) l))) (sym e) ∙ h.same types index strings H N
