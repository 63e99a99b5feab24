-- Each node of a pattern is done by its steps.
use Rattle.std.proofs.Common.{◌≡◌, ℕ, suc, Bool, Option, refl, sym, ap, ap₂, ◌∙◌}
use Rattle.mlc_names.specs.declared.label.Label.{Label}
use Rattle.ir_plain.specs.Tree.{is_literal, is_record}
use Rattle.ir_poly.specs.Prog as t
use Rattle.ir_poly.specs.ProgMeaning.{size_of}
use Rattle.ir_poly.specs.Tests.{Tests}
use Rattle.ty_core.specs.Types.{Typ}
use Rattle.ir_tables.specs.Tables.{literal_at}
use Rattle.ir_tables.specs.declared.tables.Constant.{Constant}
use Rattle.match_compile.specs.Compile.{Spots, past_pat, past_pats, spots, field_spots, tests, field_tests, test}
use Rattle.plain_tree.specs.declared.tree.Case.TheVariants as case
use Rattle.prog_tree.specs.TreeOf.{Reading, before}
use Rattle.prog_tree.specs.declared.tree.Exception.{Exception}
use Rattle.prog_tree.specs.declared.tree.Head.{Head}
use Rattle.prog_tree.specs.declared.tree.Head.TheVariants as head
use Rattle.match_steps.specs.of_match_types.Views.{View, value_type, Keeps}
use Rattle.match_steps.specs.of_match_types.declared.work.ValueType.{ValueType}
use Rattle.match_steps.specs.of_match_types.declared.work.ValueType.TheVariants.{Source}
use Rattle.match_steps.specs.of_match_types.declared.work.Work.{Work}
use Rattle.match_steps.proofs.of_match_types.Seeing.{keeps-on}
use Rattle.match_steps.specs.Steps.{Puts}
use Rattle.match_steps.specs.Made.{testing, naming, selecting, heading, argument_after}
use Rattle.match_steps.proofs.Pushed.{two-puts}
use Rattle.pattern_tests.specs.Tasks.{Done, finished, pat_task}
use Rattle.pattern_tests.specs.Parts.{fields_task, behind, record_pattern, component, constant_pattern, con_pattern, exn_pattern}
use Rattle.pattern_tests.specs.declared.made.Made.{Made}
use Rattle.pattern_tests.proofs.Doing.{done-by-steps}

pub constant-done : (w0 w1 : Work) (m0 m1 : Made) (c : Constant) (u : ValueType) (a : ℕ) → Keeps w0 w1 → m1.spots.items ≡ m0.spots.items → w1.next ≡ w0.next
    → Puts w1 m0.steps.items m1.steps.items (testing u a (case.Constant c)) → Done w0 w1 m0 m1 (pat_task (constant_pattern c) u a) finished
constant-done w0 w1 m0 m1 c u a k same next puts = done-by-steps w0 w1 m0 m1 (pat_task (constant_pattern c) u a) finished (testing u a (case.Constant c)) k same puts (λ v. next) (λ v us. refl)
    (λ v sees rest. ap (λ ss. test v.scope (value_type v u) a (is_literal (literal_at ss c)) rest) (sym sees.source_strings))

pub constructor-done : (w0 w1 : Work) (m0 m1 : Made) (c : ℕ) (u : ValueType) (a : ℕ) → Keeps w0 w1 → m1.spots.items ≡ m0.spots.items → w1.next ≡ w0.next
    → Puts w1 m0.steps.items m1.steps.items (testing u a (case.Constructor c)) → Done w0 w1 m0 m1 (pat_task (con_pattern c) u a) finished
constructor-done w0 w1 m0 m1 c u a k same next puts = done-by-steps w0 w1 m0 m1 (pat_task (con_pattern c) u a) finished (testing u a (case.Constructor c)) k same puts (λ v. next) (λ v us. refl)
    (λ v sees rest. refl)

pub exception-done : (w0 w1 w2 : Work) (m0 m1 m2 : Made) (x : Exception) (n : ℕ) (u : ValueType) (a : ℕ) → Keeps w0 w1 → Keeps w1 w2 → m2.spots.items ≡ m0.spots.items → n ≡ w0.next → w1.next ≡ suc w0.next → w2.next ≡ w1.next
    → Puts w1 m0.steps.items m1.steps.items (naming x w0.next) → Puts w2 m1.steps.items m2.steps.items (testing u a (case.Exception n)) → Done w0 w2 m0 m2 (pat_task (exn_pattern x) u a) finished
exception-done w0 w1 w2 m0 m1 m2 x n u a k l same is next next2 p q =
    done-by-steps w0 w2 m0 m2 (pat_task (exn_pattern x) u a) finished (λ v rest. naming x w0.next v (testing u a (case.Exception n) v rest)) (keeps-on w0 w1 w2 k l) same
    (two-puts w1 w2 m0.steps.items m1.steps.items m2.steps.items (naming x w0.next) (testing u a (case.Exception n)) l p q) (λ v. next2 ∙ next) (λ v us. refl)
    (λ v sees rest. ap (λ i. naming x w0.next v (testing u a (case.Exception i) v rest)) is)

past-head : (h : Head) (T : t.Pat) (U : Typ) (n b m : ℕ) → b ≡ argument_after h n → m ≡ suc b → past_pat T m ≡ past_pat (before h U T) n
past-head (head.Constructor c) T U n b m e f = ap (past_pat T) (f ∙ ap suc e)
past-head head.Reference T U n b m e f = ap (past_pat T) (f ∙ ap suc e)
past-head (head.Exception x) T U n b m e f = ap (past_pat T) (f ∙ ap suc e)

found-head : (h : Head) (T : t.Pat) (U V : Typ) (n a b m : ℕ) (us : Spots) → b ≡ argument_after h n → m ≡ suc b → spots T U m b us ≡ spots (before h U T) V n a us
found-head (head.Constructor c) T U V n a b m us e f = ap₂ (λ i j. spots T U i j us) (f ∙ ap suc e) e
found-head head.Reference T U V n a b m us e f = ap₂ (λ i j. spots T U i j us) (f ∙ ap suc e) e
found-head (head.Exception x) T U V n a b m us e f = ap₂ (λ i j. spots T U i j us) (f ∙ ap suc e) e

made-head : (h : Head) (T : t.Pat) (v : View) (w : ℕ) (u : ValueType) (n a b m : ℕ) (rest : Tests) → b ≡ argument_after h n → m ≡ suc b
    → heading h (Source w) u n a v (tests v.scope v.names T (v.source.type w) m b rest) ≡ tests v.scope v.names (before h (v.source.type w) T) (value_type v u) n a rest
made-head (head.Constructor c) T v w u n a b m rest e f = ap₂ (λ i j. heading (head.Constructor c) (Source w) u n a v (tests v.scope v.names T (v.source.type w) i j rest)) (f ∙ ap suc e) e
made-head head.Reference T v w u n a b m rest e f = ap₂ (λ i j. heading head.Reference (Source w) u n a v (tests v.scope v.names T (v.source.type w) i j rest)) (f ∙ ap suc e) e
made-head (head.Exception x) T v w u n a b m rest e f = ap₂ (λ i j. heading (head.Exception x) (Source w) u n a v (tests v.scope v.names T (v.source.type w) i j rest)) (f ∙ ap suc e) e

pub before-done : (w0 w1 : Work) (m0 m1 : Made) (h : Head) (w : ℕ) (u : ValueType) (a b : ℕ) → Keeps w0 w1 → m1.spots.items ≡ m0.spots.items → b ≡ argument_after h w0.next → w1.next ≡ suc b
    → Puts w1 m0.steps.items m1.steps.items (heading h (Source w) u w0.next a) → (p : Reading → t.Pat) → Done w0 w1 m0 m1 (pat_task (behind h w p) u a) (pat_task p (Source w) b)
before-done w0 w1 m0 m1 h w u a b k same is next puts p = done-by-steps w0 w1 m0 m1 (pat_task (behind h w p) u a) (pat_task p (Source w) b) (heading h (Source w) u w0.next a) k same puts
    (λ v. past-head h (p v.source) (v.source.type w) w0.next b w1.next is next) (λ v us. found-head h (p v.source) (v.source.type w) (value_type v u) w0.next a b w1.next us is next)
    (λ v sees rest. made-head h (p v.source) v w u w0.next a b w1.next rest is next)

pub record-done : (w0 w1 : Work) (m0 m1 : Made) (size : Option ℕ) (u : ValueType) (a : ℕ) → Keeps w0 w1 → m1.spots.items ≡ m0.spots.items → w1.next ≡ w0.next
    → Puts w1 m0.steps.items m1.steps.items (testing u a (case.Record size)) → (further : Bool) (fs : Reading → t.PatFields) → ((R : Reading) → size_of further (fs R) ≡ size)
    → Done w0 w1 m0 m1 (pat_task (record_pattern further fs) u a) (fields_task fs u a)
record-done w0 w1 m0 m1 size u a k same next puts further fs counts =
    done-by-steps w0 w1 m0 m1 (pat_task (record_pattern further fs) u a) (fields_task fs u a) (testing u a (case.Record size)) k same puts
    (λ v. ap (past_pats (fs v.source)) next) (λ v us. ap (λ n. field_spots (fs v.source) n us) next)
    (λ v sees rest. ap₂ (λ s n. test v.scope (value_type v u) a (is_record s) (field_tests v.scope v.names (fs v.source) (value_type v u) n a rest)) (sym (counts v.source)) next)

pub component-done : (w0 w1 : Work) (m0 m1 : Made) (l : Label) (u : ValueType) (a w b : ℕ) → Keeps w0 w1 → m1.spots.items ≡ m0.spots.items → b ≡ w0.next → w1.next ≡ suc w0.next
    → Puts w1 m0.steps.items m1.steps.items (selecting u a l (Source w) w0.next) → (p : Reading → t.Pat) → Done w0 w1 m0 m1 (component l u a w p) (pat_task p (Source w) b)
component-done w0 w1 m0 m1 l u a w b k same is next puts p = done-by-steps w0 w1 m0 m1 (component l u a w p) (pat_task p (Source w) b) (selecting u a l (Source w) w0.next) k same puts
    (λ v. ap (past_pat (p v.source)) next) (λ v us. ap₂ (λ i j. spots (p v.source) (v.source.type w) i j us) next is)
    (λ v sees rest. ap₂ (λ i j. selecting u a l (Source w) w0.next v (tests v.scope v.names (p v.source) (v.source.type w) i j rest)) next is)
