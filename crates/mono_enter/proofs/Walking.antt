-- How a walk along words moves on.
use Rattle.std.proofs.Common.{◌≡◌, ◌<◌, ◌≤◌, ◌+◌, ℕ, zero, suc, Bool, true, false, List, [], ◌∷◌, ◌++◌, map, reverse, drop, length, Option, Some, None, slice_get, get_or, refl, sym, ap, ap₂, ◌∙◌, subst, arith}
use Rattle.std.specs.Option.{option_map, option_to_list}
use Rattle.std.proofs.lemmas.List.{append-nil, drop_more, reverse-append}
use Rattle.ty_core.specs.Types.{Typ}
use Rattle.ty_table.specs.TypeAt.{type_at}
use Rattle.ir_poly.specs.Types.{Constructor}
use Rattle.ir_mono.specs.Types.{Row}
use Rattle.monomorphise.specs.Table.{Wanted, enter, enter_all}
use Rattle.mono_words.specs.Words.{Sign}
use Rattle.mono_state.specs.Seen.{Held, sign_of, sign_of_act}
use Rattle.mono_state.specs.declared.word.Act.{Act}
use Rattle.mono_state.specs.declared.word.Act.TheVariants as act
use Rattle.mono_state.specs.declared.word.Word.{Word}
use Rattle.mono_state.specs.declared.word.Word.TheVariants as word
use Rattle.mono_enter.specs.Entering.{Knows}
use Rattle.mono_enter.specs.Scanning.{Around, around, heads_before, tail, bodies_after, wants, then_around, scan}
use Rattle.mono_enter.specs.Walked.{Texts, held, around_in, turned, turn_of, turn_of_act, HaveNoHeads, HeadsPushed, Turns, MovesOn}
use Rattle.mono_enter.specs.declared.steps.Turn.{Turn}
use Rattle.mono_enter.specs.declared.steps.Turn.TheVariants as turn
use Rattle.mono_enter.specs.declared.walk.Stand.{Stand}

reverse-last : {A : Type 0} (xs : List A) (x : A) → reverse (xs ++ x ∷ []) ≡ x ∷ reverse xs
reverse-last xs x = reverse-append xs (x ∷ [])

pub around-is : {l m : List (Option Typ)} {p q : List Typ} {a b : Bool} → l ≡ m → p ≡ q → a ≡ b → around l p a ≡ around m q b
around-is {m = m} {p = p} {q = q} {a = a} e f g = ap (λ l. around l p a) e ∙ ap (λ p. around m p a) f ∙ ap (around m q) g

-- The turn of a word is that of its sign.

act-right : (strings : Texts) (H : Held) (x : Act) (ws : List Sign) (a : Around) → then_around (sign_of_act strings H x) ws a ≡ turned H.types (turn_of_act x) ws a
act-right strings H (act.Record t) ws a = refl
act-right strings H (act.Perform m p t) ws a = refl
act-right strings H _ ws a = refl

turn-right : (strings : Texts) (H : Held) (w : Word) (ws : List Sign) (a : Around) → then_around (sign_of strings H w) ws a ≡ turned H.types (turn_of w) ws a
turn-right strings H (word.Act x) ws a = act-right strings H x ws a
turn-right strings H _ ws a = refl

pub moved-on : (t : Turn) (w : Word) (ws : List Word) (old new : Stand) → t ≡ turn_of w → Turns t ws old new → MovesOn w ws old new
moved-on t w ws old new e h = λ strings H.
    h strings H ∙ ap (λ t. turned H.types t (map (sign_of strings H) ws) (around_in H.types old)) e ∙ sym (turn-right strings H w (map (sign_of strings H) ws) (around_in H.types old))

pub at-turn : (t u : Turn) (ws : List Word) (old new : Stand) → t ≡ u → Turns u ws old new → Turns t ws old new
at-turn t u ws old new e h = subst (λ t. Turns t ws old new) (sym e) h

-- Turns.

pushed : {A B : Type 0} (f : A → B) (x : A) (xs ys : List A) → ys ≡ xs ++ x ∷ [] → map f (reverse ys) ≡ f x ∷ map f (reverse xs)
pushed f x xs ys e = ap (λ l. map f l) (ap reverse e ∙ reverse-last xs x)

popped : {A B : Type 0} (f : A → B) (o : Option A) (xs ys : List A) → xs ≡ ys ++ option_to_list o → (o ≡ None → length xs ≡ 0) → map f (reverse ys) ≡ tail (map f (reverse xs))
popped f (Some x) xs ys e n = sym (ap tail (pushed f x ys xs e))
popped f None xs ys e n = none xs ys (n refl) (e ∙ append-nil ys)
  where
    none : (xs ys : _) → length xs ≡ 0 → xs ≡ ys → map f (reverse ys) ≡ tail (map f (reverse xs))
    none [] ys z q = ap (λ l. map f (reverse l)) (sym q)
    none (x ∷ xs) ys z q = absurd (omega (arith, z))

module _ (ws : List Word) (old new : Stand) where
  pub gone-in : (t : Option ℕ) → new.lists.items ≡ old.lists.items ++ t ∷ [] → new.functions ≡ old.functions → new.begun ≡ false → Turns (turn.Into t) ws old new
  gone-in t e f g = λ strings H. around-is (pushed (option_map (type_at H.types)) t old.lists.items new.lists.items e) (ap (λ v. map (type_at H.types) (reverse v.items)) f) g

  pub gone-in-group : (mid : Stand) → HeadsPushed ws old mid → new.lists.items ≡ mid.lists.items ++ None ∷ [] → new.functions ≡ mid.functions → new.begun ≡ false → Turns turn.Group ws old new
  gone-in-group mid h e f g = λ strings H.
      around-is (pushed (option_map (type_at H.types)) None mid.lists.items new.lists.items e ∙ ap (λ v. None ∷ map (option_map (type_at H.types)) (reverse v.items)) h.lists)
      (ap (λ v. map (type_at H.types) (reverse v.items)) f ∙ h.functions strings H) g

  pub gone-out : (o : Option (Option ℕ)) → old.lists.items ≡ new.lists.items ++ option_to_list o → (o ≡ None → length old.lists.items ≡ 0) → new.functions ≡ old.functions → new.begun ≡ false → Turns turn.Out ws old new
  gone-out o e n f g = λ strings H. around-is (popped (option_map (type_at H.types)) o old.lists.items new.lists.items e n) (ap (λ v. map (type_at H.types) (reverse v.items)) f) g

  pub gone-on-begun : (b : Bool) → old.begun ≡ true → new.lists ≡ old.lists → new.functions ≡ old.functions → new.begun ≡ b → Turns (turn.Body b) ws old new
  gone-on-begun b t l f g = λ strings H.
      around-is (ap (λ v. map (option_map (type_at H.types)) (reverse v.items)) l)
      (ap (λ v. map (type_at H.types) (reverse v.items)) f ∙ sym (ap (λ x. bodies_after x (map (type_at H.types) (reverse old.functions.items))) t)) g

  pub gone-on-body : (b : Bool) (o : Option ℕ) → old.begun ≡ false → new.lists ≡ old.lists → old.functions.items ≡ new.functions.items ++ option_to_list o → (o ≡ None → length old.functions.items ≡ 0) → new.begun ≡ b → Turns (turn.Body b) ws old new
  gone-on-body b o t l e n g = λ strings H.
      around-is (ap (λ v. map (option_map (type_at H.types)) (reverse v.items)) l)
      (popped (type_at H.types) o old.functions.items new.functions.items e n ∙ sym (ap (λ x. bodies_after x (map (type_at H.types) (reverse old.functions.items))) t)) g

-- Heads.

act-no-head : (strings : Texts) (H : Held) (x : Act) (ws : List Sign) (p : List Typ) → heads_before (sign_of_act strings H x ∷ ws) p ≡ p
act-no-head strings H (act.Record t) ws p = refl
act-no-head strings H (act.Perform m q t) ws p = refl
act-no-head strings H _ ws p = refl

word-no-head : (strings : Texts) (H : Held) (w : Word) → ((n t : ℕ) → w ≡ word.Function n t → ⊥) → (ws : List Sign) (p : List Typ) → heads_before (sign_of strings H w ∷ ws) p ≡ p
word-no-head strings H (word.Function n t) h ws p = absurd (h n t refl)
word-no-head strings H (word.Act x) h ws p = act-no-head strings H x ws p
word-no-head strings H _ h ws p = refl

pub no-heads-at : (words : List Word) (i : ℕ) (d : Word) → i < length words → ((n t : ℕ) → get_or words i d ≡ word.Function n t → ⊥) → HaveNoHeads (drop i words)
no-heads-at words i d lt h = λ strings H p.
    ap (λ l. heads_before (map (sign_of strings H) l) p) (drop_more words i d lt) ∙ word-no-head strings H (get_or words i d) h (map (sign_of strings H) (drop (i + 1) words)) p

all-behind : {A : Type 0} (xs : List A) (i : ℕ) → length xs ≤ i → drop i xs ≡ []
all-behind [] zero h = refl
all-behind [] (suc i) h = refl
all-behind (x ∷ xs) zero h = absurd (omega (arith, h))
all-behind (x ∷ xs) (suc i) h = all-behind xs i (omega (arith, h))

pub no-heads-past : (words : List Word) (i : ℕ) → length words ≤ i → HaveNoHeads (drop i words)
no-heads-past words i h = λ strings H p. ap (λ l. heads_before (map (sign_of strings H) l) p) (all-behind words i h)

pub none-pushed : (ws : List Word) (s : Stand) → HaveNoHeads ws → HeadsPushed ws s s
none-pushed ws s h = record { lists = refl; functions = λ strings H. sym (h strings H (map (type_at H.types) (reverse s.functions.items))) }

pub one-pushed : (words : List Word) (j i : ℕ) (d : Word) (n t : ℕ) (a b c : Stand) → j ≡ i + 1 → i < length words → get_or words i d ≡ word.Function n t → HeadsPushed (drop j words) a b → c.lists ≡ b.lists → c.functions.items ≡ b.functions.items ++ t ∷ []
    → HeadsPushed (drop i words) a c
one-pushed words j i d n t a b c m lt e h l f = record {
  lists = l ∙ h.lists;
  functions = λ strings H.
      let p = map (type_at H.types) (reverse a.functions.items) in
      pushed (type_at H.types) t b.functions.items c.functions.items f ∙ ap (λ p. type_at H.types t ∷ p) (h.functions strings H ∙ ap (λ k. heads_before (map (sign_of strings H) (drop k words)) p) m)
      ∙ sym (ap (λ l. heads_before (map (sign_of strings H) l) p) (drop_more words i d lt ∙ ap (λ x. x ∷ drop (i + 1) words) e));
}

-- All words.

enter-both : (constructors : List Constructor) (types : List Row) (xs ys : List Wanted) → enter_all constructors types (xs ++ ys) ≡ enter_all constructors (enter_all constructors types xs) ys
enter-both constructors types [] ys = refl
enter-both constructors types (x ∷ xs) ys = enter-both constructors (enter constructors types x) xs ys

-- a word that is there
record IsThere (words : List Word) (i : ℕ) : Type 0 where
  says : Word
  here : slice_get words i ≡ Some says
  behind : drop i words ≡ says ∷ drop (i + 1) words

word-there : (words : List Word) (i : ℕ) → i < length words → IsThere words i
word-there [] i lt = absurd (omega (arith, lt))
word-there (w ∷ words) zero lt = record { says = w; here = refl; behind = refl }
word-there (w ∷ words) (suc i) lt =
    let r = word-there words i (omega (arith, lt)) in
    record { says = r.says; here = r.here; behind = r.behind ∙ ap (λ k. r.says ∷ drop k (w ∷ words)) (let p : suc (i + 1) ≡ suc i + 1 = omega arith in p) }

pub word-at : (words : List Word) (i : ℕ) (d x w : Word) → i < length words → x ≡ get_or words i d → slice_get words i ≡ Some w → x ≡ w
word-at [] i d x w lt e s = absurd (omega (arith, lt))
word-at (y ∷ words) zero d x w lt e s = let a : y ≡ w = cc in e ∙ a
word-at (y ∷ words) (suc i) d x w lt e s = word-at words i d x w (omega (arith, lt)) e s

-- the words so far are entered
module _ (closed : List Typ) (constructors : List Constructor) (words : List Word) (first : List Row) where
  pub record SoFar (i : ℕ) (s : Stand) (known : ℕ → Option ℕ) (types : List Row) : Type 0 where
    pub knows : Knows closed known types
    pub same : (strings : Texts) (lists : List (List ℕ)) (copies : List (ℕ × ℕ))
        → enter_all constructors types (scan (map (sign_of strings (held closed lists copies)) (drop i words)) (around_in closed s))
        ≡ enter_all constructors first (scan (map (sign_of strings (held closed lists copies)) words) (around [] [] false))

  pub none-so-far : (s : Stand) (known : ℕ → Option ℕ) → Knows closed known first → s.lists.items ≡ [] → s.functions.items ≡ [] → s.begun ≡ false → SoFar 0 s known first
  none-so-far s known k l f b = record {
    knows = k;
    same = λ strings lists copies.
        ap (λ a. enter_all constructors first (scan (map (sign_of strings (held closed lists copies)) words) a))
        (around-is (ap (λ l. map (option_map (type_at closed)) (reverse l)) l) (ap (λ p. map (type_at closed) (reverse p)) f) b);
  }

  pub one-so-far : (i : ℕ) (s u : Stand) (known later : ℕ → Option ℕ) (types grown : List Row) (d x : Word) → i < length words → x ≡ get_or words i d → SoFar i s known types
      → ((strings : Texts) (lists : List (List ℕ)) (copies : List (ℕ × ℕ)) → enter_all constructors types (wants (sign_of strings (held closed lists copies) x) (around_in closed s)) ≡ grown)
      → Knows closed later grown → ((w : Word) → slice_get words i ≡ Some w → MovesOn w (drop (i + 1) words) s u) → SoFar (i + 1) u later grown
  one-so-far i s u known later types grown d x lt e h entered k moves =
      let r = word-there words i lt in
      let p = moves r.says r.here in
      let q = word-at words i d x r.says lt e r.here in
      record {
        knows = k;
        same = λ strings lists copies.
            let H = held closed lists copies in
            let ws = map (sign_of strings H) (drop (i + 1) words) in
            ap₂ (λ t a. enter_all constructors t (scan ws a)) (sym (entered strings lists copies) ∙ ap (λ w. enter_all constructors types (wants (sign_of strings H w) (around_in closed s))) q) (p strings H)
            ∙ sym (enter-both constructors types (wants (sign_of strings H r.says) (around_in closed s)) (scan ws (then_around (sign_of strings H r.says) ws (around_in closed s))))
            ∙ ap (λ l. enter_all constructors types (scan (map (sign_of strings H) l) (around_in closed s))) (sym r.behind)
            ∙ h.same strings lists copies;
      }

  pub all-so-far : (i : ℕ) (s : Stand) (known : ℕ → Option ℕ) (types : List Row) → length words ≤ i → SoFar i s known types → (strings : Texts) (lists : List (List ℕ)) (copies : List (ℕ × ℕ))
      → enter_all constructors first (scan (map (sign_of strings (held closed lists copies)) words) (around [] [] false)) ≡ types
  all-so-far i s known types lt h strings lists copies =
      sym (h.same strings lists copies) ∙ ap (λ l. enter_all constructors types (scan (map (sign_of strings (held closed lists copies)) l) (around_in closed s))) (all-behind words i lt)
