-- The initial basis, and the law.
use Rattle.std.proofs.Common.{ℕ, List, [], ◌∷◌, Option, None, refl, sym, subst, arith}
use Rattle.std.specs.Prelude.{⊤}
use Rattle.core_rules.specs.Initial.{Entry, TypeEntry, Members, entries, type_rows, initial_members, prelude_members, dynamic_env, dynamic_values, dynamic_types, dynamic_structures}
use Rattle.ir_poly.specs.of_ir_values.Values as made
use Rattle.core_elab.specs.Scopes.{Scope, denotes_of, rows_scope, type_rows_scope, members_scope, basis_scope, plus_scope, initial_scope}
use Rattle.core_elab.specs.Laws.{MeaningKept, ProjectKept}
use Rattle.core_elab.proofs.Related.{Rel, Stored, Known, known_constructor, known_reference, known_fixed, known_primitive, Covers, covers_nothing, covers_value, covers_tycon, covers_structure, covers-plus, covers-more, Anew, anew-scope}
use Rattle.core_elab.proofs.Kept.{meaning-kept, Calls, decs-rel, apply-rel, named-rel}
use Rattle.mlc_runs.specs.Run.{World}
use Rattle.mlc_runs.specs.Agreement.{none}
use Rattle.core_rules.specs.of_sml_tree.BareTree.{Decs}
use Rattle.core_rules.specs.Values.{Value, Env}
use Rattle.core_rules.specs.Eval.{Apply, apply}
use Rattle.core_rules.specs.Meaning.{packet_identifier, begin}
use Rattle.core_rules.specs.Project.{Part, standard_basis, source, eval_all, dynamic_standard}
use Rattle.ir_poly.specs.Prog as prog
use Rattle.ir_poly.specs.ProgMeaning.{V, Scope as Bound, identifier_of}
use Rattle.ir_poly.specs.ProgMeaning as run
use Rattle.core_elab.specs.Parts.{PartsTo, no_parts_to, source_to, first_basis_to, later_basis_to}
use Rattle.core_elab.proofs.Agreeing.{Agree, both_give, then_do-agree, outcome_of-agree}
use Rattle.core_elab.proofs.LookUps.{CoversBoth, covers_none, covers_some, both-more}
use Rattle.core_elab.proofs.Performing.{Alike}
use Rattle.core_elab.proofs.Declared.{joined-is}

abbrev RowsKnown : List Entry → Type 0
RowsKnown [] = ⊤
RowsKnown (r ∷ rs) = Known 0 made.empty (denotes_of r.value) r.status r.value × RowsKnown rs

abbrev TypesKnown : List TypeEntry → Type 0
TypesKnown [] = ⊤
TypesKnown (t ∷ ts) = RowsKnown t.constructors × TypesKnown ts

abbrev MembersKnown : Members → Type 0
MembersKnown [] = ⊤
MembersKnown (m ∷ ms) = RowsKnown m.1 × MembersKnown ms

rows-cover : (rs : List Entry) → RowsKnown rs → Covers 0 made.empty (rows_scope rs) (dynamic_values rs)
rows-cover [] h = covers_nothing
rows-cover (r ∷ rs) h = covers_value r.vid h.0 (rows-cover rs h.1)

types-cover : (ts : List TypeEntry) → TypesKnown ts → Covers 0 made.empty (type_rows_scope ts) (dynamic_types ts)
types-cover [] h = covers_nothing
types-cover (t ∷ ts) h = covers_tycon t.tycon (rows-cover t.constructors h.0) (types-cover ts h.1)

members-cover : (ms : Members) → MembersKnown ms → Covers 0 made.empty (members_scope ms) (dynamic_structures ms)
members-cover [] h = covers_nothing
members-cover (m ∷ ms) h = covers_structure m.0 (rows-cover m.1 h.0) (members-cover ms h.1)

types-known : TypesKnown type_rows
types-known = (
  tt,
  (
    tt,
    (
      tt,
      (
        tt,
        (
          tt,
          (
            tt,
            (
              (known_reference, tt),
              ((known_constructor _ refl, (known_constructor _ refl, tt)), ((known_constructor _ refl, (known_constructor _ refl, tt)), tt)),
            ),
          ),
        ),
      ),
    ),
  ),
)

entries-known : RowsKnown entries
entries-known = (
  known_reference,
  (
    known_constructor _ refl,
    (
      known_constructor _ refl,
      (
        known_constructor _ refl,
        (
          known_constructor _ refl,
          (
            known_fixed _,
            (
              known_fixed _,
              (
                known_fixed _,
                (
                  known_fixed _,
                  (
                    known_fixed _,
                    (
                      known_fixed _,
                      (
                        known_fixed _,
                        (
                          known_primitive _,
                          (
                            known_primitive _,
                            (
                              known_primitive _,
                              (
                                known_primitive _,
                                (
                                  known_primitive _,
                                  (
                                    known_primitive _,
                                    (
                                      known_primitive _,
                                      (
                                        known_primitive _,
                                        (
                                          known_primitive _,
                                          (
                                            known_primitive _,
                                            (known_primitive _, (known_primitive _, (known_primitive _, tt))),
                                          ),
                                        ),
                                      ),
                                    ),
                                  ),
                                ),
                              ),
                            ),
                          ),
                        ),
                      ),
                    ),
                  ),
                ),
              ),
            ),
          ),
        ),
      ),
    ),
  ),
)

members-known : MembersKnown initial_members
members-known = ((known_primitive _, (known_primitive _, (known_primitive _, tt))), tt)

pub basis-covers : (ms : Members) → MembersKnown ms → Covers 0 made.empty (basis_scope ms) (dynamic_env ms)
basis-covers ms h = covers-plus (members-cover ms h) (covers-plus (types-cover type_rows types-known) (rows-cover entries entries-known))

pub meaning-kept-initial : MeaningKept
meaning-kept-initial ds es r k h m = meaning-kept (basis-covers initial_members members-known) h m

-- Projects

prelude-known : MembersKnown prelude_members
prelude-known = (
  (
    known_primitive _,
    (
      known_primitive _,
      (
        known_primitive _,
        (
          known_primitive _,
          (
            known_primitive _,
            (
              known_primitive _,
              (
                known_primitive _,
                (
                  known_primitive _,
                  (
                    known_primitive _,
                    (
                      known_primitive _,
                      (
                        known_primitive _,
                        (
                          known_primitive _,
                          (
                            known_primitive _,
                            (
                              known_primitive _,
                              (
                                known_primitive _,
                                (known_primitive _, (known_primitive _, (known_primitive _, (known_primitive _, (known_primitive _, (known_primitive _, tt)))))),
                              ),
                            ),
                          ),
                        ),
                      ),
                    ),
                  ),
                ),
              ),
            ),
          ),
        ),
      ),
    ),
  ),
  members-known,
)

-- what needs no variables
closed-covers : (k : ℕ) (t : Bound) {s : Scope} {e : Env} → Covers 0 made.empty s e → Covers k t s e
closed-covers k t c = covers-more (omega arith) (record { same = λ n h. absurd (omega (arith, h)) }) c

module _ (call : Apply) (call' : run.Apply) (calls : Calls call call') (prelude : Decs) where
  parts-rel : {s : Scope} {k : ℕ} {b : Option Scope} {parts : List Part} {es : prog.Decs} → PartsTo prelude s k b parts es → {e : Env} {o : Option Env}
      {t : Bound} (w : World Value) (u : World V) → Covers k t s e → CoversBoth k t b o → Alike w u
      → Agree Rel Stored (λ (d : Env) (z : Bound). ⊤) (eval_all prelude call e o parts w) (run.eval_decs call' es t u)
  parts-rel no_parts_to w u c b q = both_give tt q
  parts-rel {k = k} {b = b} (source_to {run = ds} {parts = parts} {ds = ds'} {es = es} {r = r} {j = j} x y) {e = e} {o = o} {t = t} w u c known q =
      subst (λ z. Agree Rel Stored (λ (d : Env) (z : Bound). ⊤) (eval_all prelude call e o (source ds ∷ parts) w) z) (sym (joined-is call' ds' es t u))
      (then_do-agree Rel Stored (λ (d : Env) (z : Bound). ⊤) (Anew k j t r) _ _ (decs-rel call call' calls x w u c q) (λ d z w u a q.
      parts-rel y w u (anew-scope c a) (both-more a.up a.same known) q))
  parts-rel {k = k} (first_basis_to {parts = parts} {ds = ds'} {es = es} {r = r} {j = j} x y) {e = e} {t = t} w u c covers_none q =
      subst (λ z. Agree Rel Stored (λ (d : Env) (z : Bound). ⊤) (eval_all prelude call e None (standard_basis ∷ parts) w) z) (sym (joined-is call' ds' es t u))
      (then_do-agree Rel Stored (λ (d : Env) (z : Bound). ⊤) (Anew k j t r) _ _
      (decs-rel call call' calls x w u (closed-covers k t (basis-covers prelude_members prelude-known)) q) (λ d z w u a q.
      let b : Covers j z (plus_scope initial_scope r) (dynamic_standard prelude d) = covers-plus
      (closed-covers j z (basis-covers initial_members members-known)) a.covers in
      parts-rel y w u (covers-plus (covers-more a.up a.same c) b) (covers_some b) q))
  parts-rel (later_basis_to y) w u c (covers_some b) q = parts-rel y w u (covers-plus c b) (covers_some b) q

pub project-kept : ProjectKept
project-kept prelude parts es h m =
    outcome_of-agree Rel Stored (λ (d : Env) (z : Bound). ⊤) packet_identifier identifier_of named-rel
    (parts-rel (apply m) (run.apply m) (apply-rel m) prelude h (begin m) _ covers_nothing covers_none
    (record { output = refl; left = refl; taken = refl; store = none; exceptions = refl }))
