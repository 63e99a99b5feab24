-- Type variables that are new, each once.
use Rattle.std.proofs.Common.{◌≡◌, ◌≤◌, ◌<◌, ◌+◌, ℕ, Bool, true, false, ◌||◌, cond, List, [], ◌∷◌, ◌++◌, length, drop, get_or, nat_eq, Some, refl, sym, ap, ap₂, ◌∙◌, append_assoc}
use Rattle.std.specs.Prelude.{is_some}
use Rattle.std.specs.Map.{lookup}
use Rattle.sml_tree.specs.declared.ident.Tyvar.{Tyvar}
use Rattle.core_rules.specs.Scoping.{new_vars, tyvar_names}
use Rattle.core_rules.specs.Words.{is_in}
use Rattle.scoped_tyvars.specs.Noted.{HasNoted, IsAdded, is_noted, names_around, names_onto}
use Rattle.scoped_tyvars.proofs.Listing.{append-nil, drop-all, drop-at}

-- a name in front
named : {V : Type 0} (x y : ℕ) (v : V) (l : List (ℕ × V)) → is_some (lookup (nat_eq x) ((y, v) ∷ l)) ≡ (nat_eq x y || is_some (lookup (nat_eq x) l))
named x y v l = by (nat_eq x y)
  where
    by : (b : Bool) → is_some (cond b (Some v) (lookup (nat_eq x) l)) ≡ (b || is_some (lookup (nat_eq x) l))
    by true = refl
    by false = refl

is-around : (around : List (ℕ × ℕ)) (x : ℕ) → is_in nat_eq x (names_around around) ≡ is_some (lookup (nat_eq x) around)
is-around [] x = refl
is-around (a ∷ around) x = ap (λ b. nat_eq x a.0 || b) (is-around around x) ∙ sym (named x a.0 a.1 around)

or-swap : (a b c : Bool) → (a || (b || c)) ≡ (b || (a || c))
or-swap true true c = refl
or-swap true false c = refl
or-swap false b c = refl

or-assoc : (a b c : Bool) → ((a || b) || c) ≡ (a || (b || c))
or-assoc true b c = refl
or-assoc false b c = refl

or-false : (a : Bool) → (a || false) ≡ a
or-false true = refl
or-false false = refl

onto-names : (l : List (ℕ × Bool)) (as_ : List Tyvar) (x : ℕ) → (is_some (lookup (nat_eq x) l) || is_in nat_eq x (tyvar_names as_)) ≡ is_some (lookup (nat_eq x) (names_onto l as_))
onto-names l [] x = or-false (is_some (lookup (nat_eq x) l))
onto-names l (a ∷ as_) x =
    or-swap (is_some (lookup (nat_eq x) l)) (nat_eq x a.name) (is_in nat_eq x (tyvar_names as_))
    ∙ sym (or-assoc (nat_eq x a.name) (is_some (lookup (nat_eq x) l)) (is_in nat_eq x (tyvar_names as_)))
    ∙ ap (λ b. b || is_in nat_eq x (tyvar_names as_)) (sym (named x a.name true l)) ∙ onto-names ((a.name, true) ∷ l) as_ x

in-both : (x : ℕ) (xs ys : List ℕ) → is_in nat_eq x (xs ++ ys) ≡ (is_in nat_eq x xs || is_in nat_eq x ys)
in-both x [] ys = refl
in-both x (y ∷ xs) ys = ap (λ b. nat_eq x y || b) (in-both x xs ys) ∙ sym (or-assoc (nat_eq x y) (is_in nat_eq x xs) (is_in nat_eq x ys))

-- where a sequence was noted
pub starts : (around : List (ℕ × ℕ)) (as_ : List Tyvar) (noted : List (ℕ × Bool)) → noted ≡ names_onto [] as_ → HasNoted around noted (names_around around ++ tyvar_names as_)
starts around as_ noted e x =
    in-both x (names_around around) (tyvar_names as_)
    ∙ ap₂ (λ a b. a || b) (is-around around x) (onto-names [] as_ x ∙ ap (λ l. is_some (lookup (nat_eq x) l)) (sym e))

-- one that is known
pub stays : (around : List (ℕ × ℕ)) (names : List ℕ) (a : Tyvar) (rest old new : List Tyvar) (before noted : List (ℕ × Bool)) → HasNoted around before names
    → is_noted around before a.name ≡ true → new ≡ old → noted ≡ before → IsAdded around names a rest old new noted
stays around names a rest old new before noted h k e q = record {
  after = names;
  all = λ x. h x ∙ ap (λ l. is_noted around l x) (sym q);
  is = ap (λ l. l ++ new_vars names rest) e ∙ ap (λ b. old ++ cond b (new_vars names rest) (a ∷ new_vars (a.name ∷ names) rest)) (sym (h a.name ∙ k));
}

-- one that is new
pub comes : (around : List (ℕ × ℕ)) (names : List ℕ) (a : Tyvar) (rest old new : List Tyvar) (before noted : List (ℕ × Bool)) → HasNoted around before names
    → is_noted around before a.name ≡ false → new ≡ old ++ a ∷ [] → noted ≡ (a.name, true) ∷ before → IsAdded around names a rest old new noted
comes around names a rest old new before noted h k e q = record {
  after = a.name ∷ names;
  all = λ x.
      ap (λ b. nat_eq x a.name || b) (h x) ∙ or-swap (nat_eq x a.name) (is_some (lookup (nat_eq x) around)) (is_some (lookup (nat_eq x) before))
      ∙ ap (λ b. is_some (lookup (nat_eq x) around) || b) (sym (named x a.name true before)) ∙ ap (λ l. is_noted around l x) (sym q);
  is =
      ap (λ l. l ++ new_vars (a.name ∷ names) rest) e ∙ append_assoc old (a ∷ []) (new_vars (a.name ∷ names) rest)
      ∙ ap (λ b. old ++ cond b (new_vars names rest) (a ∷ new_vars (a.name ∷ names) rest)) (sym (h a.name ∙ k));
}

-- so far
pub record AreAdded (around : List (ℕ × ℕ)) (names : List ℕ) (occurring : List Tyvar) (i : ℕ) (old now : List Tyvar) (noted : List (ℕ × Bool)) : Type 0 where
  pub after : List ℕ
  pub all : HasNoted around noted after
  pub is : now ++ new_vars after (drop i occurring) ≡ old ++ new_vars names occurring

pub none-added : (around : List (ℕ × ℕ)) (names : List ℕ) (occurring old : List Tyvar) (noted : List (ℕ × Bool)) → HasNoted around noted names → AreAdded around names occurring 0 old old noted
none-added around names occurring old noted h = record { after = names; all = h; is = refl }

pub one-added : (around : List (ℕ × ℕ)) (names : List ℕ) (occurring : List Tyvar) (i : ℕ) (a : Tyvar) (old now new : List Tyvar) (before noted : List (ℕ × Bool)) → i < length occurring
    → a ≡ get_or occurring i a → AreAdded around names occurring i old now before
    → ((names : List ℕ) (rest : List Tyvar) → HasNoted around before names → IsAdded around names a rest now new noted) → AreAdded around names occurring (i + 1) old new noted
one-added around names occurring i a old now new before noted lt e h step =
    let s = step h.after (drop (i + 1) occurring) h.all in
    record {
      after = s.after;
      all = s.all;
      is = s.is ∙ ap (λ l. now ++ new_vars h.after l) (sym (drop-at occurring i a lt e)) ∙ h.is;
    }

pub all-added : (around : List (ℕ × ℕ)) (names : List ℕ) (occurring : List Tyvar) (i : ℕ) (old now : List Tyvar) (noted : List (ℕ × Bool)) → length occurring ≤ i
    → AreAdded around names occurring i old now noted → now ≡ old ++ new_vars names occurring
all-added around names occurring i old now noted le h =
    sym (append-nil now) ∙ ap (λ l. now ++ new_vars h.after l) (sym (drop-all occurring i le)) ∙ h.is

-- a sequence is noted

pub note-next : (as_ : List Tyvar) (i : ℕ) (a : Tyvar) (now new all : List (ℕ × Bool)) → i < length as_ → a ≡ get_or as_ i a → names_onto now (drop i as_) ≡ all → new ≡ (a.name, true) ∷ now
    → names_onto new (drop (i + 1) as_) ≡ all
note-next as_ i a now new all lt e h q = ap (λ l. names_onto l (drop (i + 1) as_)) q ∙ ap (names_onto now) (sym (drop-at as_ i a lt e)) ∙ h

pub note-ends : (as_ : List Tyvar) (i : ℕ) (now all : List (ℕ × Bool)) → length as_ ≤ i → names_onto now (drop i as_) ≡ all → now ≡ all
note-ends as_ i now all le h = ap (names_onto now) (sym (drop-all as_ i le)) ∙ h
