-- Where the code stands, and what its steps do.
use Rattle.std.specs.Prelude.{◌≡◌, ◌<◌, ◌≤◌, ◌-◌, ◌+◌, ℕ, suc, List, [], ◌∷◌, ◌++◌, map, reverse, drop, length, Option, Some, true, ⊤}
use Rattle.ty_core.specs.Types.{Typ}
use Rattle.ty_table.specs.TypeAt.{type_at}
use Rattle.ir_mono.specs.Types as table
use Rattle.monomorphise.specs.Monomorphise.{is_same}
use Rattle.monomorphise.specs.Number.{Given, none_given, given}
use Rattle.mono_read.specs.of_mono_state.Seen.{Held, name_in, sign_of}
use Rattle.mono_read.specs.of_mono_state.declared.word.Act.{Act}
use Rattle.mono_read.specs.of_mono_state.declared.word.Act.TheVariants as act
use Rattle.mono_read.specs.of_mono_state.declared.word.Word.{Word}
use Rattle.mono_read.specs.of_mono_state.declared.word.Word.TheVariants as word
use Rattle.plain_tree.specs.declared.tree.Case.{Case}
use Rattle.plain_tree.specs.declared.tree.Case.TheVariants as case
use Rattle.mono_read.specs.Reads as made
use Rattle.mono_number.specs.Walking.{Frame, in_attempt, in_arms, in_let, in_handled, in_heads, in_bodies, Standing, at, Made, head_count, heads_given, bodies_left, ended, closed, headed, one}
use Rattle.mono_number.specs.declared.walk.Around.{Around}
use Rattle.mono_number.specs.declared.walk.Around.TheVariants as around
use Rattle.mono_number.specs.declared.walk.After.{After}
use Rattle.mono_number.specs.declared.walk.After.TheVariants as after
use Rattle.mono_number.specs.declared.walk.Part.{Part}
use Rattle.mono_number.specs.declared.walk.Walk.{Walk}

abbrev pub Texts : Type 0
Texts = List (List ℕ)

-- The first `limit` copies have names of their own, and types that are known have their numbers.
pub record AreNumbers (limit : ℕ) (known : ℕ → Option ℕ) (H : Held) (index : Typ → ℕ) : Type 0 where
  pub distinct : (n m : ℕ) → n < limit → m < limit → is_same (name_in H n) (name_in H m) ≡ true → n ≡ m
  pub indexed : (k n : ℕ) → known k ≡ Some n → index (type_at H.types k) ≡ n

-- copies are at lists below a limit
abbrev pub AreWithin : ℕ → List (ℕ × ℕ) → Type 0
AreWithin limit [] = ⊤
AreWithin limit (c ∷ cs) = (c.1 < limit) × AreWithin limit cs

abbrev pub given_in : Held → List (ℕ × ℕ) → Given
given_in H [] = none_given
given_in H (e ∷ l) = given (name_in H e.0) e.1 (given_in H l)

abbrev pub frame_in : Held → Given → Around → Frame
frame_in H g around.Attempt = in_attempt g
frame_in H g around.Arms = in_arms g
frame_in H g (around.Let n t) = in_let (name_in H n) (type_at H.types t) g
frame_in H g around.Handled = in_handled g
frame_in H g (around.Heads n m) = in_heads n m
frame_in H g (around.Bodies n) = in_bodies n g

-- the oldest ones, so many
abbrev pub left_to : ℕ → List (ℕ × ℕ) → List (ℕ × ℕ)
left_to m l = drop (length l - m) l

-- what is around, the innermost first
abbrev pub frames_in : Held → List Part → List (ℕ × ℕ) → List Frame
frames_in H [] l = []
frames_in H (f ∷ fs) l = frame_in H (given_in H (left_to f.mark l)) f.around ∷ frames_in H fs (left_to f.mark l)

abbrev pub AreNested : List Part → List (ℕ × ℕ) → Type 0
AreNested [] l = ⊤
AreNested (f ∷ fs) l = (f.mark ≤ length l) × AreNested fs (left_to f.mark l)

abbrev pub AreBelow : ℕ → List (ℕ × ℕ) → Type 0
AreBelow limit [] = ⊤
AreBelow limit (e ∷ l) = (e.0 < limit) × AreBelow limit l

-- a walk that can go on
pub record IsOpen (limit : ℕ) (w : Walk) : Type 0 where
  pub below : AreBelow limit w.names
  pub nested : AreNested (reverse w.frames.items) w.names

module _ (types : List table.Row) (index : Typ → ℕ) (strings : Texts) (H : Held) where
  -- what is made so far, before what comes of the rest
  abbrev pub told : Walk → (Standing → Made types index) → Made types index
  told w go = made.signs_of types strings w.made.items ++ go (at (given_in H w.names) w.next (frames_in H (reverse w.frames.items) w.names))

-- what a step does with the rest, where these numbers are given, this is the next one, and this is around
abbrev pub Move : Type 0
Move = (types : List table.Row) (index : Typ → ℕ) → Texts → Held → Given → ℕ → List Frame → (Standing → Made types index) → Made types index

-- a step from one walk that can go on to another
pub record Moves (limit : ℕ) (known : ℕ → Option ℕ) (f : Move) (old new : Walk) : Type 0 where
  pub open_ : IsOpen limit new
  pub does : (types : List table.Row) (index : Typ → ℕ) (strings : Texts) (H : Held) → AreNumbers limit known H index → (go : Standing → Made types index)
      → told types index strings H new go ≡ told types index strings H old (λ s. f types index strings H s.numbers s.next s.frames go)

-- a word is made
abbrev pub makes : Word → Move
makes w types index strings H g b fr go = made.sign_of types strings w ∷ go (at g b fr)

-- a copy gets the next number
abbrev pub binds : ℕ → Move
binds n types index strings H g b fr go = go (at (given (name_in H n) b g) (suc b) fr)

-- something is around
abbrev pub enters : Around → Move
enters a types index strings H g b fr go = go (at g b (frame_in H g a ∷ fr))

-- so many bodies are
abbrev pub enters_bodies : ℕ → Move
enters_bodies n types index strings H g b fr go = go (at g b (bodies_left types index n g fr))

-- the value of an operation is bound
abbrev pub lets : (copy type : ℕ) → Move
lets n t types index strings H g b fr go = made.sign_of types strings (word.Let b (index (type_at H.types t))) ∷ go (at (given (name_in H n) b g) (suc b) fr)

-- a part ends, or a list
abbrev pub ends : Move
ends types index strings H g b fr go = ended types index b fr go

abbrev pub closes : Move
closes types index strings H g b fr go = closed types index g b fr go

-- a word of copies, before those that follow
abbrev pub takes : Word → List Word → Move
takes w ws types index strings H g b fr go = one types index (sign_of strings H w) (map (sign_of strings H) ws) g b fr go

-- the variable and the type of a function, of which so many are still to come
abbrev pub heads_one : (type functions left : ℕ) → Move
heads_one t n m types index strings H g b fr go = headed types index (type_at H.types t) g b (in_heads n m ∷ fr) go

-- the bodies of so many functions begin, behind their heads
abbrev pub begins : ℕ → Move
begins n types index strings H g b fr go = go (at g (b + n) (bodies_left types index n g fr))

-- so many functions come first
abbrev pub AreHeads : List Word → ℕ → Type 0
AreHeads ws n = (strings : Texts) (H : Held) → head_count (map (sign_of strings H) ws) ≡ n

-- a part is left, with what has numbers inside it
pub record Leaves (limit : ℕ) (part : Part) (old new : Walk) : Type 0 where
  pub open_ : IsOpen limit new
  pub names : new.names ≡ left_to part.mark old.names
  pub next : new.next ≡ old.next
  pub made : new.made ≡ old.made
  pub frames : reverse old.frames.items ≡ part ∷ reverse new.frames.items

-- a copy has a number
pub record BindsTo (limit copy number : ℕ) (old new : Walk) : Type 0 where
  pub open_ : IsOpen limit new
  pub names : new.names ≡ (copy, number) ∷ old.names
  pub next : new.next ≡ old.next
  pub frames : new.frames ≡ old.frames
  pub made : new.made ≡ old.made

-- the function that a word says has its number, where so many stand behind it
pub record BindsHead (limit : ℕ) (words : List Word) (place behind : ℕ) (old new : Walk) : Type 0 where
  pub variable : ℕ
  pub type : ℕ
  pub says : drop place words ≡ word.Function variable type ∷ drop (place + 1) words
  pub binds : BindsTo limit variable (old.next + behind) old new

-- the functions that come first, so many, have their numbers
pub record BindsHeads (limit : ℕ) (ws : List Word) (count : ℕ) (old new : Walk) : Type 0 where
  pub open_ : IsOpen limit new
  pub heads : AreHeads ws count
  pub numbers : (strings : Texts) (H : Held) → given_in H new.names ≡ heads_given old.next (map (sign_of strings H) ws) (given_in H old.names)
  pub frames : (H : Held) → frames_in H (reverse new.frames.items) new.names ≡ frames_in H (reverse old.frames.items) old.names
  pub next : new.next ≡ old.next
  pub made : new.made ≡ old.made

-- What comes after a word that is made.

abbrev pub case_after : Case → After
case_after (case.Constant c) = after.Nothing
case_after (case.Constructor c) = after.Nothing
case_after (case.ConstructorOf c x) = after.Binds x.variable
case_after (case.Exception a) = after.Nothing
case_after (case.ExceptionOf a x) = after.Binds x.variable
case_after (case.Record size) = after.Nothing

abbrev pub act_after : Act → After
act_after (act.Record t) = after.Nothing
act_after (act.Perform m p t) = after.Nothing
act_after a = after.Ends

abbrev pub after_of : Word → After
after_of (word.Ret n) = after.Ends
after_of word.Miss = after.Ends
after_of word.First = after.Enters around.Attempt
after_of (word.Counted n) = after.Nothing
after_of (word.Switch n t) = after.Enters around.Arms
after_of (word.Arm c) = case_after c
after_of (word.Exception n i t) = after.Binds n
after_of (word.Name n y) = after.Binds n
after_of word.Group = after.Nothing
after_of (word.Function n t) = after.Nothing
after_of (word.Let n t) = after.Nothing
after_of (word.Act a) = act_after a
after_of word.Fn = after.Nothing
after_of (word.Parameter x) = after.Binds x.variable
after_of (word.Last x) = after.Binds x.variable
after_of word.Block = after.Nothing
after_of word.Handle = after.Enters around.Handled
after_of (word.Packet n) = after.Binds n
after_of (word.Field f) = after.Nothing
after_of (word.Argument n) = after.Nothing
after_of word.End = after.Nothing

abbrev pub follows : After → Move
follows after.Nothing types index strings H g b fr go = go (at g b fr)
follows after.Ends types index strings H g b fr go = ended types index b fr go
follows (after.Enters a) types index strings H g b fr go = go (at g b (frame_in H g a ∷ fr))
follows (after.Binds n) types index strings H g b fr go = go (at (given (name_in H n) b g) (suc b) fr)

-- a word becomes this one, and then comes what comes after it
abbrev pub IsNumbered : (limit : ℕ) → (known : ℕ → Option ℕ) → (names : List (ℕ × ℕ)) → (next : ℕ) → (word made : Word) → Type 0
IsNumbered limit known names next w m =
    (types : List table.Row) (index : Typ → ℕ) (strings : Texts) (H : Held) → AreNumbers limit known H index → (ws : List Word) (fr : List Frame) (go : Standing → Made types index)
    → takes w ws types index strings H (given_in H names) next fr go ≡ made.sign_of types strings m ∷ follows (after_of w) types index strings H (given_in H names) next fr go
