-- A project that has a typing has none of the causes.
use Rattle.std.proofs.Common.{◌≡◌, List, [], ◌∷◌, ◌++◌, map, Option, Some, None, inl, inr, refl, sym, ap, ap₂, subst}
use Rattle.std.specs.List.{AllByRecursion, Contains}
use Rattle.sml_tree.specs.BareTree.{Decs}
use Rattle.mlb_reader.specs.Parts.{Part, cut, source, standard_basis}
use Rattle.core_rules.specs.Project as core
use Rattle.core_rules.specs.Restrictions.{broken_in}
use Rattle.scope_walks.proofs.Typed.{twice-behind-has-no-typing, unbound-has-no-typing}
use Rattle.name_scopes.proofs.Placing.{none-in}
use Rattle.project_typed.specs.Typing.{ProjectHas}
use Rattle.refusal_causes.specs.Causes.{Holds, in_cut, in_source, part_of_core}
use Rattle.refusal_causes.specs.Laws.{IsLawful, NoneIsBroken, NoneIsUnbound}

-- what stands in a project of the core is a source of it
record Split (parts before : List core.Part) (run : Decs) : Type 0 where
  after : List core.Part
  are : parts ≡ before ++ core.source run ∷ after

abbrev run_of : Part → Option Decs
run_of (source run) = Some run
run_of standard_basis = None
run_of (cut run p) = None

abbrev first_of : Part → List Part → Part
first_of d [] = d
first_of d (x ∷ xs) = x

abbrev rest_of : List Part → List Part
rest_of [] = []
rest_of (x ∷ xs) = xs

abbrev is_some_part : List Part → Type 0
is_some_part [] = ⊥
is_some_part (x ∷ xs) = Unit {0}

some-is : {x y : Decs} → Some x ≡ Some y → x ≡ y
some-is {x} e = ap (λ o. elim o [ None ↦ x | Some z ↦ z ]) e

abbrev is_run : Option Decs → Type 0
is_run None = ⊥
is_run (Some x) = Unit {0}

abbrev is_basis : Part → Type 0
is_basis standard_basis = Unit {0}
is_basis (source d) = ⊥
is_basis (cut d q) = ⊥

same-part : (x y : core.Part) → part_of_core x ≡ part_of_core y → x ≡ y
same-part core.standard_basis core.standard_basis e = refl
same-part core.standard_basis (core.source b) e = let bad : is_run None = subst is_run (sym (ap run_of e)) tt in absurd bad
same-part (core.source a) core.standard_basis e = let bad : is_run None = subst is_run (ap run_of e) tt in absurd bad
same-part (core.source a) (core.source b) e = ap core.source (some-is (ap run_of e))

held : (x : core.Part) (part : Part) (run : Decs) → part_of_core x ≡ part → Holds part run → x ≡ core.source run
held core.standard_basis part run e (in_source r) = let bad : is_run None = subst is_run (sym (ap run_of e)) tt in absurd bad
held core.standard_basis part run e (in_cut r p) = let bad : is_basis (cut r p) = subst is_basis e tt in absurd bad
held (core.source a) part run e (in_source r) = ap core.source (some-is (ap run_of e))
held (core.source a) part run e (in_cut r p) = let bad : is_run None = subst is_run (ap run_of e) tt in absurd bad

split : (parts before : List core.Part) (part : Part) (rest : List Part) (run : Decs) → map part_of_core parts ≡ map part_of_core before ++ part ∷ rest → Holds part run → Split parts before run
split [] [] part rest run e h = let bad : is_some_part [] = subst is_some_part (sym e) tt in absurd bad
split [] (b ∷ before) part rest run e h = let bad : is_some_part [] = subst is_some_part (sym e) tt in absurd bad
split (x ∷ parts) [] part rest run e h = record { after = parts; are = ap (λ y. y ∷ parts) (held x part run (ap (first_of part) e) h) }
split (x ∷ parts) (b ∷ before) part rest run e h =
    let s : Split parts before run = split parts before part rest run (ap rest_of e) h in
    record { after = s.after; are = ap₂ (λ y l. y ∷ l) (same-part x b (ap (first_of (part_of_core x)) e)) s.are }

pub none-is-unbound : NoneIsUnbound
none-is-unbound prelude parts c p h u =
    let s : Split parts u.before u.run = split parts u.before u.stands.part u.stands.rest u.run u.stands.are u.stands.holds in
    unbound-has-no-typing prelude u.before s.after u.run u.unbound c u.is (subst (λ l. ProjectHas prelude l c) s.are h)

-- a source among lawful parts is lawful
lawful-there : (before after : List core.Part) (run : Decs) → AllByRecursion IsLawful (before ++ core.source run ∷ after) → broken_in run ≡ []
lawful-there [] after run h = h.0
lawful-there (b ∷ before) after run h = lawful-there before after run h.1

pub none-is-broken : NoneIsBroken
none-is-broken prelude parts c p l h u =
    let s : Split parts u.before u.run = split parts u.before u.stands.part u.stands.rest u.run u.stands.are u.stands.holds in
    elim u.is [
      | inl b ↦ none-in p (subst (λ ps. Contains ps p) (lawful-there u.before s.after u.run (subst (AllByRecursion IsLawful) s.are l)) b)
      | inr t ↦ twice-behind-has-no-typing prelude u.before s.after u.run p c t (subst (λ l. ProjectHas prelude l c) s.are h)
    ]
