-- A switch by the case of its first arm.
use Rattle.std.proofs.Common.{◌≡◌, ℕ, true, false, List, refl}
use Rattle.ir_plain.specs.Tree as m
use Rattle.ir_mono.specs.Types as table
use Rattle.ir_mono.specs.Mono.{mono, Mono}
use Rattle.ir_first.specs.Tree as out
use Rattle.flow_sets.specs.Flow.{Flow}
use Rattle.plain_tree.specs.declared.tree.Case.{Case}
use Rattle.plain_tree.specs.declared.tree.Case.TheVariants as case
use Rattle.plain_tree.specs.TreeOf.{case_of}
use Rattle.mono_bound.specs.Reads.{reading}
use Rattle.closure_convert.specs.Scope.{Scope, Table}
use Rattle.closure_convert.specs.Closed.{case_scope}
use Rattle.closure_meaning.specs.Convert.{Numbering, var, convert, cases, con_arms}
use Rattle.closure_parts.specs.of_capture_table.Told.{more, case_binds}
use Rattle.closure_steps.specs.Cases.{is_test, is_constructor, test_in, tested_in, tag_in, opened}
use Rattle.closure_steps.specs.Steps.{switched}

module _ (n : Numbering) (types : List table.Row) (strings : List (List ℕ)) (F : Flow) (T : Table) (s : Scope) (a t : ℕ) where
  abbrev case_is : Case → m.Case (mono types)
  case_is = case_of (reading types strings)

  pub case-more : (c : Case) → case_scope types (case_is c) s ≡ more (case_binds c) s
  case-more (case.Constant l) = refl
  case-more (case.Constructor c) = refl
  case-more (case.ConstructorOf c x) = refl
  case-more (case.Exception y) = refl
  case-more (case.ExceptionOf y x) = refl
  case-more (case.Record size) = refl

  pub cases-first : (c : m.Case (mono types)) (e : Mono types) (others : m.Arms (mono types))
      → cases n types F T s a t (m.arm c e others) ≡ switched n types F T s a t c others (convert n types F T (case_scope types c s) e)
  cases-first (m.is_literal l) e others = refl
  cases-first (m.is_con c) e others = refl
  cases-first (m.is_con_of c x u) e others = refl
  cases-first (m.is_exn y) e others = refl
  cases-first (m.is_exn_of y x u) e others = refl
  cases-first (m.is_record size) e others = refl

  pub switched-test : (c : Case) → is_test c ≡ true → (others : m.Arms (mono types)) (e : out.Exp)
      → switched n types F T s a t (case_is c) others e ≡ out.branch (test_in n strings c) (tested_in a c) (opened a c e) (cases n types F T s a t others)
  switched-test (case.Constant l) h others e = refl
  switched-test (case.Constructor c) h others e = absurd (cc)
  switched-test (case.ConstructorOf c x) h others e = absurd (cc)
  switched-test (case.Exception y) h others e = refl
  switched-test (case.ExceptionOf y x) h others e = refl
  switched-test (case.Record size) h others e = absurd (cc)

  pub switched-constructor : (c : Case) → is_constructor c ≡ true → (others : m.Arms (mono types)) (e : out.Exp)
      → switched n types F T s a t (case_is c) others e ≡ out.switch (var a) (out.arm (tag_in types t c) (opened a c e) (con_arms n types F T s a t others))
  switched-constructor (case.Constant l) h others e = absurd (cc)
  switched-constructor (case.Constructor c) h others e = refl
  switched-constructor (case.ConstructorOf c x) h others e = refl
  switched-constructor (case.Exception y) h others e = absurd (cc)
  switched-constructor (case.ExceptionOf y x) h others e = absurd (cc)
  switched-constructor (case.Record size) h others e = absurd (cc)

  pub switched-all : (c : Case) → is_test c ≡ false → is_constructor c ≡ false → (others : m.Arms (mono types)) (e : out.Exp)
      → switched n types F T s a t (case_is c) others e ≡ opened a c e
  switched-all (case.Constant l) h k others e = absurd (cc)
  switched-all (case.Constructor c) h k others e = absurd (cc)
  switched-all (case.ConstructorOf c x) h k others e = absurd (cc)
  switched-all (case.Exception y) h k others e = absurd (cc)
  switched-all (case.ExceptionOf y x) h k others e = absurd (cc)
  switched-all (case.Record size) h k others e = refl

  -- arms of tags, up to another

  pub arms-first : (c : Case) (e : Mono types) (others : m.Arms (mono types)) → is_constructor c ≡ true
      → con_arms n types F T s a t (m.arm (case_is c) e others) ≡ out.arm (tag_in types t c) (opened a c (convert n types F T (case_scope types (case_is c) s) e)) (con_arms n types F T s a t others)
  arms-first (case.Constant l) e others h = absurd (cc)
  arms-first (case.Constructor c) e others h = refl
  arms-first (case.ConstructorOf c x) e others h = refl
  arms-first (case.Exception y) e others h = absurd (cc)
  arms-first (case.ExceptionOf y x) e others h = absurd (cc)
  arms-first (case.Record size) e others h = absurd (cc)

  pub arms-end : (c : Case) (e : Mono types) (others : m.Arms (mono types)) → is_constructor c ≡ false → con_arms n types F T s a t (m.arm (case_is c) e others) ≡ out.no_arms
  arms-end (case.Constant l) e others h = refl
  arms-end (case.Constructor c) e others h = absurd (cc)
  arms-end (case.ConstructorOf c x) e others h = absurd (cc)
  arms-end (case.Exception y) e others h = refl
  arms-end (case.ExceptionOf y x) e others h = refl
  arms-end (case.Record size) e others h = refl
