-- When a program is well formed, from what is asked of its tables and of its body.
use Rattle.std.proofs.Common.{◌≡◌, ◌↔◌, ℕ, Bool, true, false, [], length, Option, Some, None, nat_eq, IsTrue, refl, sym, ap, ◌∙◌, subst}
use Rattle.std.proofs.lemmas.Bool.{eq-eqb}
use Rattle.mlc_runs.specs.Passes.{initial_exceptions}
use Rattle.ir_plain.specs.Once.{IsOnce}
use Rattle.ir_plain.proofs.UniqueLemmas.{once-unique}
use Rattle.ir_poly.specs.Types.{exn_name}
use Rattle.ir_mono.specs.Types.{IsExn, IsTable}
use Rattle.ir_mono.specs.Mono.{mono}
use Rattle.ir_mono.proofs.Sound.{well-formed-never-wrong}
use Rattle.mono_fits.specs.Asked.{given, is_exn}
use Rattle.mono_fits.proofs.Deciding.{named-sound, named-since}
use Rattle.mono_fits.proofs.Right.{fits-is-right}
use Rattle.mono_check.specs.of_mono_operations.Reads.{Names}
use Rattle.mono_tree.specs.Programs.{initial_of}
use Rattle.mono_check.specs.Walk.{fits}
use Rattle.mono_form.specs.declared.program.Program.{Program}
use Rattle.mono_form.specs.Parts.{HasParts}
use Rattle.mono_form.specs.Programs.{IsTyped, IsWellFormed, NeverWrong, body_of, program_of}

not-yes : {b : Bool} → b ≡ false → b ≡ true → ⊥
not-yes e f = cc

same : (n : ℕ) → nat_eq n n ≡ true
same n = eq-eqb n n refl

module _ (p : Program) where
  abbrev HasBasis : Type 0
  HasBasis = (initial_of p.tables ≡ initial_exceptions) × IsExn p.tables.types p.tables.exn

  pub not-initial : (a : Bool) → IsTrue a ↔ (initial_of p.tables ≡ initial_exceptions) → a ≡ false → IsTrue false ↔ HasBasis
  not-initial a w e = ((λ y. absurd (cc)), (λ h. absurd (not-yes e (w.1 h.0))))

  pub basis-named : (a b : Bool) → IsTrue a ↔ (initial_of p.tables ≡ initial_exceptions) → a ≡ true → b ≡ is_exn p.tables.types p.tables.exn → IsTrue b ↔ HasBasis
  basis-named a b w l e = (
    (λ y. (w.0 l, named-sound p.tables.types p.tables.exn exn_name (sym e ∙ y))),
    (λ h. e ∙ named-since p.tables.types p.tables.exn exn_name h.1),
  )

  -- at nothing in scope
  abbrev Asked : Names → Option ℕ → Type 0
  Asked s found = (u : ℕ) → fits p.tables false s (body_of p) u ≡ given found (nat_eq u)

  at-none : (s : Names) (found : Option ℕ) → s ≡ ([], []) → Asked s found → Asked ([], []) found
  at-none s found e h = subst (λ s. Asked s found) e h

  pub some-typed : (s : Names) (found : Option ℕ) (k : ℕ) → s ≡ ([], []) → Asked s found → found ≡ Some k → IsTrue true ↔ IsTyped p
  some-typed s found k e h f = ((λ _. (k, at-none s found e h k ∙ ap (λ o. given o (nat_eq k)) f ∙ same k)), (λ _. refl))

  pub none-typed : (s : Names) (found : Option ℕ) → s ≡ ([], []) → Asked s found → found ≡ None → IsTrue false ↔ IsTyped p
  none-typed s found e h f = (
    (λ g. absurd (cc)),
    (λ t. absurd (not-yes (at-none s found e h t.0 ∙ ap (λ o. given o (nat_eq t.0)) f) t.1)),
  )

  -- each part that fails

  pub no-basis : (b : Bool) → IsTrue b ↔ HasBasis → b ≡ false → IsTrue false ↔ IsWellFormed p
  no-basis b w f = ((λ g. absurd (cc)), (λ i. absurd (not-yes f (w.1 (i.initial, i.exn)))))

  pub no-table : (b : Bool) → IsTrue b ↔ IsTable p.tables.types → b ≡ false → IsTrue false ↔ IsWellFormed p
  no-table b w f = ((λ g. absurd (cc)), (λ i. absurd (not-yes f (w.1 i.program.table))))

  pub no-parts : (b : Bool) → IsTrue b ↔ HasParts p.tables.types → b ≡ false → IsTrue false ↔ IsWellFormed p
  no-parts b w f = ((λ g. absurd (cc)), (λ i. absurd (not-yes f (w.1 i.parts))))

  pub not-once : (b : Bool) → IsTrue b ↔ IsOnce {F = mono p.tables.types} (λ x. x) (body_of p) → b ≡ false → IsTrue false ↔ IsWellFormed p
  not-once b w f = ((λ g. absurd (cc)), (λ i. absurd (not-yes f (w.1 i.program.once))))

  pub well-formed : (b c h d answer : Bool) → IsTrue b ↔ HasBasis → b ≡ true → IsTrue c ↔ IsTable p.tables.types → c ≡ true → IsTrue h ↔ HasParts p.tables.types → h ≡ true
      → IsTrue d ↔ IsOnce {F = mono p.tables.types} (λ x. x) (body_of p) → d ≡ true → IsTrue answer ↔ IsTyped p
      → IsTrue answer ↔ IsWellFormed p
  well-formed b c h d answer wb eb wc ec wh eh wd ed w = (
    (λ y. let t = w.0 y in let r = (fits-is-right p.tables.types p.tables.exn (wc.0 ec) (wb.0 eb).1 false (body_of p) t.0).0 t.1 in record {
      initial = (wb.0 eb).0;
      program = record { table = wc.0 ec; initial = ap length (wb.0 eb).0; type = t.0; typed = r.typed; once = wd.0 ed; local = r.local };
      exn = (wb.0 eb).1;
      parts = wh.0 eh;
    }),
    (λ i. w.1 (
      i.program.type,
      (fits-is-right p.tables.types p.tables.exn i.program.table i.exn false (body_of p) i.program.type).1
          (record { typed = i.program.typed; local = i.program.local; unique = once-unique {F = mono p.tables.types} (λ x. x) (body_of p) i.program.once }),
    )),
  )

  pub sound : IsWellFormed p → NeverWrong p
  sound i = well-formed-never-wrong (program_of p) i.program
