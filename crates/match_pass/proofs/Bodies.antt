-- The body of a program.
use Rattle.std.proofs.Common.{◌≡◌, ◌<◌, ◌≤◌, ℕ, suc, List, [], ◌∷◌, map, length, take, slice_get, Some, Vec, Global, refl, sym, ap, ap₂, subst, ◌∙◌}
use Rattle.std.proofs.lemmas.List.{take-take}
use Rattle.std.proofs.Math.Seq.{take-length}
use Rattle.ty_core.specs.Types.{Typ, var}
use Rattle.ty_core.specs.declared.scheme.Quantified.{Quantified}
use Rattle.ty_table.specs.TypeAt.{type_at}
use Rattle.ir_plain.specs.Tree as te
use Rattle.ir_poly.specs.Types.{unit_type, in_scope}
use Rattle.ir_known.specs.Knows.{marks_of}
use Rattle.ir_tables.specs.Tables.{parameters_of, parameters_at, strings_of, constructors_of}
use Rattle.ir_tables.specs.Rows.{constructors_at}
use Rattle.ir_tables.specs.declared.tables.Tables.{Tables}
use Rattle.ir_values.specs.Primitives.{bind_name}
use Rattle.match_compile.specs.Compile.{decs, put, scoped, atom, otherwise, initial, unclassed, compile}
use Rattle.match_names.specs.Bindings.{names_of}
use Rattle.plain_tree.specs.TreeOf as plain
use Rattle.plain_tree.specs.declared.tree.Exp.{Exp}
use Rattle.plain_tree.specs.declared.tree.Step.{Step}
use Rattle.prog_tree.specs.TreeOf.{body_of}
use Rattle.prog_tree.specs.Readings as before
use Rattle.ir_tests.specs.of_tests_check.Reads as after
use Rattle.prog_tree.specs.declared.tree.Dec.{Dec}
use Rattle.general_bindings.specs.of_match_types.Views.{View, reading, Sees, Keeps}
use Rattle.general_bindings.specs.of_match_types.declared.work.Work.{Work}
use Rattle.general_bindings.specs.of_match_types.declared.work.ValueType.TheVariants.{Unit}
use Rattle.general_bindings.proofs.of_match_types.Seeing.{sees-before, earlier-stays, longer-by, held-within, held-is}
use Rattle.general_bindings.specs.of_match_steps.Steps.{stand}
use Rattle.general_bindings.specs.of_exp_steps.Making.{Pushed}
use Rattle.general_bindings.specs.of_exp_blocks.Giving.{Gives, Grows}
use Rattle.match_pass.specs.Reading.{decs_read}
use Rattle.match_pass.specs.Going.{Declares}
use Rattle.match_pass.specs.Programs.{program}
use Rattle.match_pass.proofs.Tabled.{unclassed-at, unknown-type}

pub body-gives : {w0 w1 w2 w3 : Work} {n0 n1 n2 : List Step} {a : ℕ} {other both : Exp} (ds : List Dec) (body : Exp) → n0 ≡ [] → Declares w0 w1 n0 n1 (decs_read ds) (decs_read [])
    → Pushed w1 w2 n1 n2 Unit (λ v. te.make_record (scoped v.scope unit_type) te.no_row) a → ((v : View) → plain.tree_of (reading v) body ≡ stand v n2 (te.ret (atom a))) → Keeps w2 w3
    → Gives w3 other (λ v. otherwise v.scope w2.next unit_type 0 (initial bind_name)) → ((v : View) → plain.tree_of (reading v) both ≡ te.first (plain.tree_of (reading v) body) (plain.tree_of (reading v) other))
    → Gives w3 both (λ v. program v.scope (names_of w0.names) (body_of v.source ds) w0.next)
body-gives {w0 = w0} {w1 = w1} {w2 = w2} {w3 = w3} {n0 = n0} {n1 = n1} {a = a} ds body none d p ended kept raises joined = record {
  gives = λ v sees.
      let s2 = sees-before w2 w3 v kept sees in
      let s1 = sees-before w1 w2 v p.keeps s2 in
      let unit = te.make_record (scoped v.scope unit_type) te.no_row in
      joined v
      ∙ ap₂ te.first
      (ended v ∙ p.puts.leads v s2 (te.ret (atom a)) ∙ d.leads.leads v s1 (put v.scope w1.next unit_type unit (te.ret (atom a)))
      ∙ ap (λ l. stand v l (decs v.scope (names_of w0.names) (decs_read ds v.source) w0.next (put v.scope w1.next unit_type unit (te.ret (atom a))))) none
      ∙ ap₂ (λ i j. decs v.scope (names_of w0.names) (decs_read ds v.source) w0.next (put v.scope i unit_type unit (te.ret (atom j)))) (d.next v s1) (p.is ∙ d.next v s1))
      (raises.gives v sees ∙ ap (λ i. otherwise v.scope i unit_type 0 (initial bind_name)) (p.next ∙ ap suc (d.next v s1)));
}

-- the whole program, seen with its own tables
abbrev pub whole_view : Tables → Work → View
whole_view t w = record {
  source = before.reading t;
  scope = [];
  names = names_of w.names;
  types = w.tables.types;
  parameters = parameters_of w.tables;
  strings = strings_of w.tables;
}

pub whole-grown : (ts : List Typ) (w0 w : Work) → take (length ts) w0.tables.types ≡ ts → Grows w0 w → take (length ts) w.tables.types ≡ ts
whole-grown ts w0 w e g =
    sym (take-take (length ts) (length w0.tables.types) w.tables.types (longer-by ts w0.tables.types e)) ∙ ap (take (length ts)) g.types ∙ e

pub sees-whole : (t : Tables) (w0 w : Work) → w0.first ≡ length t.types → take (length t.types) w0.tables.types ≡ t.types → parameters_of w0.tables ≡ map unclassed (parameters_of t) → strings_of w0.tables ≡ strings_of t → w0.scope ≡ []
    → Grows w0 w → w.scope ≡ w0.scope → Sees w (whole_view t w)
sees-whole t w0 w first e parameters strings none g scope = record {
  grown = take-length w.tables.types;
  are_parameters = refl;
  are_strings = refl;
  source_known = λ k lt. sym (earlier-stays t.types w.tables.types k (whole-grown t.types w0 w e g) (subst (λ n. k < n) (g.first ∙ first) lt));
  source_unknown = λ k le. unknown-type t.types k (subst (λ n. n ≤ k) (g.first ∙ first) le);
  source_parameters = λ k.
      unclassed-at (parameters_of t) k ∙ ap (λ ps. parameters_at ps k) (sym parameters ∙ sym (ap (λ ps. map (λ p. p.items) ps.items) g.parameters));
  source_strings = sym strings ∙ sym (ap (λ ps. map (λ p. p.items) ps.items) g.strings);
  same_names = refl;
  same_scope = λ x. sym (ap (λ l. in_scope (marks_of l) x) (scope ∙ none));
}

pub program-made : (t : Tables) (w0 w : Work) (ds : List Dec) (body : Exp) → Grows w0 w → w.scope ≡ w0.scope → Gives w body (λ v. program v.scope (names_of w0.names) (body_of v.source ds) w0.next)
    → w0.first ≡ length t.types → take (length t.types) w0.tables.types ≡ t.types → parameters_of w0.tables ≡ map unclassed (parameters_of t) → strings_of w0.tables ≡ strings_of t → w0.scope ≡ [] → w0.names ≡ [] → w0.next ≡ 1
    → plain.tree_of (after.reading w.tables) body ≡ compile (body_of (before.reading t) ds)
program-made t w0 w ds body g scope made first e parameters strings none unnamed number =
    made.gives (whole_view t w) (sees-whole t w0 w first e parameters strings none g scope) ∙ ap₂ (λ N n. program [] (names_of N) (body_of (before.reading t) ds) n) unnamed number

-- constructors mean what they did
pub constructors-stay : (t : Tables) (w0 w : Work) (none first : ℕ) → first ≡ length t.types → take (length t.types) w0.tables.types ≡ t.types → slice_get w0.tables.types none ≡ Some (var 0) → Grows w0 w
    → ((old new : List Typ) → first ≡ length old → take (length old) new ≡ old → type_at new none ≡ var 0 → constructors_at new w0.tables.constructors ≡ constructors_at old t.constructors) → constructors_of w.tables ≡ constructors_of t
constructors-stay t w0 w none first counted e held g kept =
    ap (constructors_at w.tables.types) g.constructors
    ∙ kept t.types w.tables.types counted (whole-grown t.types w0 w e g)
    (earlier-stays w0.tables.types w.tables.types none g.types (held-within w0.tables.types none (var 0) held) ∙ held-is w0.tables.types none (var 0) held)

pub lists-read : (ls ps : List (Vec Quantified Global)) → ls ≡ ps → map (λ p. unclassed p.items) ls ≡ map unclassed (map (λ p. p.items) ps)
lists-read [] ps e = ap (λ l. map unclassed (map (λ p. p.items) l)) e
lists-read (l ∷ ls) ps e = ap (λ m. unclassed l.items ∷ m) (lists-read ls ls refl) ∙ ap (λ l. map unclassed (map (λ p. p.items) l)) e
