-- The first declaration in which something is broken.
use Rattle.std.proofs.Common.{◌≡◌, ◌<◌, ◌≤◌, ◌+◌, ℕ, List, [], ◌∷◌, ◌++◌, map, length, drop, get_or, Option, Some, None, sym, ap, subst, ◌∙◌}
use Rattle.std.specs.Prelude.{IfNone, IfSome}
use Rattle.std.specs.List.{Contains}
use Rattle.std.proofs.lemmas.List.{append-nil}
use Rattle.std.proofs.lemmas.List.Elements.{Contains-append_left}
use Rattle.mlc_base.specs.declared.place.Place.{Place}
use Rattle.sml_tree.specs.BareTree as bare
use Rattle.sml_tree.specs.Phrases.{phrases}
use Rattle.sml_tree.specs.TreeOf.{dec_of, decs_of}
use Rattle.sml_tree.specs.declared.tree.Dec.{Dec}
use Rattle.core_rules.specs.Restrictions.{broken_in, broken_to}
use Rattle.restrictions.specs.Breaks.{dec_breaks}
use Rattle.restrictions.specs.Found.{Adds, StandFor, Walks, names_in}
use Rattle.restrictions.specs.Nodes.{dec_places}
use Rattle.restrictions.specs.declared.walk.Walk.{Walk}
use Rattle.restrictions.proofs.Levels.{broken-in}
use Rattle.restrictions.proofs.Standing.{drop-all, drop-at}

pub if-none : {A P Q : Type 0} (o : Option A) → (P → Q) → IfNone o P → IfNone o Q
if-none None f h = f h
if-none (Some x) f h = h

pub if-some : {A : Type 0} {P Q : A → Type 0} (o : Option A) → ((x : A) → P x → Q x) → IfSome o P → IfSome o Q
if-some None f h = h
if-some (Some x) f h = f x h

abbrev pub of-one : Dec → List Place
of-one d = broken_in (bare.dec (dec_of d) bare.no_decs)

abbrev pub of-all : List Dec → List Place
of-all ds = broken_in (decs_of (map dec_of ds))

one-is : (d : Dec) → of-one d ≡ dec_breaks [] (dec_of d)
one-is d = broken-in (bare.dec (dec_of d) bare.no_decs) ∙ append-nil (dec_breaks [] (dec_of d))

stands-alone : (old new xs : List Place) → old ≡ [] → Adds old new xs → StandFor new xs
stands-alone old new xs e a = subst (λ l. StandFor l xs) (sym (a.is ∙ ap (λ l. l ++ a.added) e)) a.stands

-- what a walk finds that begins with nothing
pub found-in : (old new : Walk) (d : Dec) (found : List Place) → old.around ≡ [] → old.found.items ≡ [] → Walks old new (dec_places (names_in old.around) d) → found ≡ new.found.items
    → StandFor found (of-one d)
found-in old new d found e f w g =
    subst (λ l. StandFor l (of-one d)) (sym g)
    (subst (λ l. StandFor new.found.items l) (ap (λ l. dec_places (names_in l) d) e ∙ sym (one-is d))
    (stands-alone old.found.items new.found.items (dec_places (names_in old.around) d) f w.found))

more : (d : Dec) (ds : List Dec) → of-all (d ∷ ds) ≡ of-one d ++ of-all ds
more d ds = ap (λ l. l ++ of-all ds) (sym (append-nil (broken_to (length (phrases (Rattle.sml_tree.specs.Phrases.dec (dec_of d)))) [] (Rattle.sml_tree.specs.Phrases.dec (dec_of d)))))

rest-is : (ds : List Dec) (i : ℕ) (d : Dec) → i < length ds → d ≡ get_or ds i d → of-all (drop i ds) ≡ of-all ds → of-one d ++ of-all (drop (i + 1) ds) ≡ of-all ds
rest-is ds i d lt e h = sym (ap of-all (drop-at ds i d lt e) ∙ more d (drop (i + 1) ds)) ∙ h

pub first-next : (ds : List Dec) (i : ℕ) (d : Dec) → i < length ds → d ≡ get_or ds i d → of-one d ≡ [] → of-all (drop i ds) ≡ of-all ds → of-all (drop (i + 1) ds) ≡ of-all ds
first-next ds i d lt e n h = sym (ap (λ l. l ++ of-all (drop (i + 1) ds)) n) ∙ rest-is ds i d lt e h

pub first-here : (ds : List Dec) (i : ℕ) (d : Dec) (p : Place) → i < length ds → d ≡ get_or ds i d → of-all (drop i ds) ≡ of-all ds → Contains (of-one d) p → Contains (of-all ds) p
first-here ds i d p lt e h c = subst (λ l. Contains l p) (rest-is ds i d lt e h) (Contains-append_left (of-one d) (of-all (drop (i + 1) ds)) p c)

pub first-last : (ds : List Dec) (i : ℕ) → length ds ≤ i → of-all (drop i ds) ≡ of-all ds → of-all ds ≡ []
first-last ds i le h = sym h ∙ ap of-all (drop-all ds i le)
