-- Fields and chains are done one part after the other.
use Rattle.std.proofs.Common.{◌≡◌, ◌<◌, ◌≤◌, ℕ, zero, suc, ◌+◌, Bool, Option, List, [], ◌∷◌, ◌++◌, length, take, drop, reverse, slice_index_or, refl, sym, ap, ◌∙◌, subst, arith}
use Rattle.std.proofs.lemmas.List.{reverse-append}
use Rattle.std.proofs.Math.Seq.{take-length}
use Rattle.ir_poly.specs.Prog as t
use Rattle.ir_poly.specs.ProgMeaning.{size_of}
use Rattle.match_compile.specs.Compile.{no_spots, past_pats, field_spots, field_tests}
use Rattle.prog_tree.specs.TreeOf.{Reading}
use Rattle.prog_tree.specs.declared.tree.Pat.{Pat}
use Rattle.prog_tree.specs.declared.tree.PatField.{PatField}
use Rattle.prog_tree.specs.declared.tree.PatPart.{PatPart}
use Rattle.prog_tree.specs.declared.tree.Side.{Side}
use Rattle.match_steps.specs.of_match_types.Views.{value_type}
use Rattle.match_steps.specs.of_match_types.declared.work.Work.{Work}
use Rattle.match_steps.specs.of_match_types.declared.work.ValueType.{ValueType}
use Rattle.match_steps.specs.of_match_types.declared.work.ValueType.TheVariants.{Source}
use Rattle.match_steps.specs.Steps.{stand}
use Rattle.pattern_tests.specs.Spots.{spots_onto}
use Rattle.pattern_tests.specs.Tasks.{Task, Done, finished, both, pat_task, pattern}
use Rattle.pattern_tests.specs.Parts.{fields_task, field_patterns, field_first, record_pattern, component, first, second, opened, joined, chained, right_chain, right_rest, left_chain, left_rest, pairs_rest}
use Rattle.pattern_tests.specs.declared.made.Made.{Made}
use Rattle.pattern_tests.specs.declared.patterns.Pairs.{Pairs}
use Rattle.pattern_tests.proofs.Doing.{done-then, done-both, done-first, done-nothing, done-pat, left-pat}
use Rattle.pattern_tests.proofs.Chains.{next-drop, next-take, no-items, field-next, right-next, left-next}

-- the fields that are left said otherwise
left-fields : {w0 w1 : Work} {m0 m1 : Made} {f : Task} (p q : Reading → t.PatFields) (u : ValueType) (a : ℕ) → ((R : Reading) → q R ≡ p R) → Done w0 w1 m0 m1 f (fields_task q u a) → Done w0 w1 m0 m1 f (fields_task p u a)
left-fields {w0 = w0} {w1 = w1} {m0 = m0} {m1 = m1} {f = f} p q u a e d = record {
  keeps = d.keeps;
  next = λ v. ap (λ x. past_pats x w1.next) (sym (e v.source)) ∙ d.next v;
  found = λ v. ap (λ x. field_spots x w1.next (spots_onto v m1.spots.items no_spots)) (sym (e v.source)) ∙ d.found v;
  leads = record { leads = λ v sees rest. ap (λ x. stand v m1.steps.items (field_tests v.scope v.names x (value_type v u) w1.next a rest)) (sym (e v.source)) ∙ d.leads.leads v sees rest };
}

drop-past : {A : Type 0} → (xs : List A) (i : ℕ) → length xs ≤ i → drop i xs ≡ []
drop-past [] zero le = refl
drop-past [] (suc i) le = refl
drop-past (x ∷ xs) zero le = absurd (omega arith)
drop-past (x ∷ xs) (suc i) le = drop-past xs i (omega arith)

pub fields-step : {w0 w1 w2 w3 : Work} {m0 m1 m2 m3 : Made} {f : Task} (fs : List PatField) (i : ℕ) (x : PatField) (u : ValueType) (a b : ℕ) → i < length fs → x ≡ slice_index_or fs i x
    → Done w0 w1 m0 m1 f (fields_task (field_patterns (drop i fs)) u a) → ((p : Reading → t.Pat) → Done w1 w2 m1 m2 (component x.label u a x.ty p) (pat_task p (Source x.ty) b))
    → Done w2 w3 m2 m3 (pat_task (pattern x.pat) (Source x.ty) b) finished → Done w0 w3 m0 m3 f (fields_task (field_patterns (drop (i + 1) fs)) u a)
fields-step fs i x u a b lt is inv part child =
    let rest = fields_task (field_patterns (drop (i + 1) fs)) u a in
    done-then
    (done-then
    (left-fields (field_first x.label x.ty (pattern x.pat) (field_patterns (drop (i + 1) fs))) (field_patterns (drop i fs)) u a
    (λ R. ap (λ l. field_patterns l R) (next-drop fs i x lt is) ∙ field-next R x (drop (i + 1) fs)) inv)
    (done-both rest (part (pattern x.pat))))
    (done-first rest child)

pub fields-end : {w0 w1 : Work} {m0 m1 : Made} {f : Task} (fs : List PatField) (i : ℕ) (u : ValueType) (a : ℕ) → length fs ≤ i → Done w0 w1 m0 m1 f (fields_task (field_patterns (drop i fs)) u a)
    → Done w0 w1 m0 m1 f finished
fields-end {w0 = w0} {w1 = w1} {m0 = m0} {m1 = m1} {f = f} fs i u a le inv = subst (λ l. Done w0 w1 m0 m1 f (fields_task (field_patterns l) u a)) (drop-past fs i le) inv

-- a chain to the right whose first pair is open
pub right-open : {w0 w1 w2 w3 : Work} {m0 m1 m2 m3 : Made} (p : Reading → t.Pat) (j : PatPart) (js : List PatPart) (u : ValueType) (a joint b : ℕ)
    → ((p q : Reading → t.Pat) → Done w0 w1 m0 m1 (pat_task (joined j.head j.pair p q) u a) (opened j.pair joint p q))
    → ((p : Reading → t.Pat) → Done w1 w2 m1 m2 (first j.pair joint p) (pat_task p (Source j.pair.left) b)) → Done w2 w3 m2 m3 (pat_task p (Source j.pair.left) b) finished
    → Done w0 w3 m0 m3 (pat_task (right_chain p (j ∷ js)) u a) (right_rest (j ∷ js) joint)
right-open p j js u a joint b pair part child =
    let q = right_chain (pattern j.pat) js in
    done-pat (right_chain p (j ∷ js)) (joined j.head j.pair p q) u a (λ R. sym (right-next R (p R) j js))
    (done-then (done-then (pair p q) (done-both (second j.pair joint q) (part p))) (done-first (second j.pair joint q) child))

-- its second operand begins with the next pair
pub right-inner : {w0 w1 w2 w3 w4 : Work} {m0 m1 m2 m3 m4 : Made} (j k : PatPart) (joint rest inner b : ℕ)
    → ((p : Reading → t.Pat) → Done w0 w1 m0 m1 (second j.pair joint p) (pat_task p (Source j.pair.right) rest))
    → ((p q : Reading → t.Pat) → Done w1 w2 m1 m2 (pat_task (joined k.head k.pair p q) (Source j.pair.right) rest) (opened k.pair inner p q))
    → ((p : Reading → t.Pat) → Done w2 w3 m2 m3 (first k.pair inner p) (pat_task p (Source k.pair.left) b)) → Done w3 w4 m3 m4 (pat_task (pattern j.pat) (Source k.pair.left) b) finished
    → (js : List PatPart) → Done w0 w4 m0 m4 (right_rest (j ∷ k ∷ js) joint) (right_rest (k ∷ js) inner)
right-inner j k joint rest inner b right pair part child js =
    done-then (right (right_chain (pattern j.pat) (k ∷ js))) (right-open (pattern j.pat) k js (Source j.pair.right) rest inner b pair part child)

pub right-step : {w0 w1 w2 : Work} {m0 m1 m2 : Made} {f : Task} (parts : List PatPart) (i : ℕ) (j k : PatPart) (joint inner : ℕ) → i + 1 < length parts → j ≡ slice_index_or parts i j → k ≡ slice_index_or parts (i + 1) k
    → Done w0 w1 m0 m1 f (right_rest (drop i parts) joint) → ((js : List PatPart) → Done w1 w2 m1 m2 (right_rest (j ∷ k ∷ js) joint) (right_rest (k ∷ js) inner))
    → Done w0 w2 m0 m2 f (right_rest (drop (i + 1) parts) inner)
right-step {w0 = w0} {w1 = w1} {w2 = w2} {m0 = m0} {m1 = m1} {m2 = m2} {f = f} parts i j k joint inner lt is next inv step =
    let e = next-drop parts i j (omega arith) is in let g = next-drop parts (i + 1) k lt next in
    subst (λ l. Done w0 w2 m0 m2 f (right_rest l inner)) (sym g)
    (done-then (subst (λ l. Done w0 w1 m0 m1 f (right_rest l joint)) (e ∙ ap (λ l. j ∷ l) g) inv) (step (drop (i + 1 + 1) parts)))

pub right-end : {w0 w1 w2 : Work} {m0 m1 m2 : Made} {f : Task} (parts : List PatPart) (i k : ℕ) (j : PatPart) (joint : ℕ) → i ≡ k → k + 1 ≡ length parts → j ≡ slice_index_or parts k j
    → Done w0 w1 m0 m1 f (right_rest (drop i parts) joint) → Done w1 w2 m1 m2 (second j.pair joint (pattern j.pat)) finished → Done w0 w2 m0 m2 f finished
right-end {w0 = w0} {w1 = w1} {m0 = m0} {m1 = m1} {f = f} parts i k j joint same e is inv last =
    let g : drop i parts ≡ j ∷ [] = ap (λ n. drop n parts) same ∙ next-drop parts k j (omega arith) is ∙ ap (λ l. j ∷ l) (drop-past parts (k + 1) (omega arith)) in
    done-then (subst (λ l. Done w0 w1 m0 m1 f (right_rest l joint)) g inv) last

-- the first pair of a chain to the right is opened, where it has one
pub right-none : (w : Work) (m : Made) (parts : List PatPart) (u : ValueType) (a joint : ℕ) → length parts ≡ 0 → (p : Reading → t.Pat)
    → Done w w m m (pat_task (right_chain p parts) u a) (both (pat_task p u a) (right_rest parts joint))
right-none w m parts u a joint none p =
    subst (λ l. Done w w m m (pat_task (right_chain p l) u a) (both (pat_task p u a) (right_rest l joint))) (sym (no-items parts none)) (done-nothing w m (pat_task p u a))

pub right-begun : {w0 w1 w2 : Work} {m0 m1 m2 : Made} (parts : List PatPart) (j : PatPart) (u : ValueType) (a joint b : ℕ) → 0 < length parts → j ≡ slice_index_or parts 0 j
    → ((p q : Reading → t.Pat) → Done w0 w1 m0 m1 (pat_task (joined j.head j.pair p q) u a) (opened j.pair joint p q))
    → ((p : Reading → t.Pat) → Done w1 w2 m1 m2 (first j.pair joint p) (pat_task p (Source j.pair.left) b))
    → (p : Reading → t.Pat) → Done w0 w2 m0 m2 (pat_task (right_chain p parts) u a) (both (pat_task p (Source j.pair.left) b) (right_rest parts joint))
right-begun {w0 = w0} {w2 = w2} {m0 = m0} {m2 = m2} parts j u a joint b lt is pair part p =
    let js = drop 1 parts in
    let q = right_chain (pattern j.pat) js in
    subst (λ l. Done w0 w2 m0 m2 (pat_task (right_chain p l) u a) (both (pat_task p (Source j.pair.left) b) (right_rest l joint))) (sym (next-drop parts 0 j lt is))
    (done-pat (right_chain p (j ∷ js)) (joined j.head j.pair p q) u a (λ R. sym (right-next R (p R) j js)) (done-then (pair p q) (done-both (second j.pair joint q) (part p))))

-- chains to the left
pub left-start : (w : Work) (m : Made) (parts : List PatPart) (n : ℕ) (u : ValueType) (a : ℕ) (pairs : List ℕ) → pairs ≡ [] → n ≡ length parts → (p : Reading → t.Pat)
    → Done w w m m (pat_task (left_chain p parts) u a) (both (pat_task (left_chain p (take n parts)) u a) (left_rest (drop n parts) (reverse pairs)))
left-start w m parts n u a pairs none e p =
    subst (λ k. Done w w m m (pat_task (left_chain p parts) u a) (both (pat_task (left_chain p (take n parts)) u a) (left_rest (drop n parts) (reverse k)))) (sym none)
    (subst (λ l. Done w w m m (pat_task (left_chain p parts) u a) (both (pat_task (left_chain p l) u a) (left_rest (drop n parts) (reverse [])))) (sym (ap (λ k. take k parts) e ∙ take-length parts))
    (subst (λ l. Done w w m m (pat_task (left_chain p parts) u a) (both (pat_task (left_chain p parts) u a) (left_rest l (reverse [])))) (sym (drop-past parts n (omega arith)))
    (done-nothing w m (pat_task (left_chain p parts) u a))))

pub left-open : {w0 w1 w2 w3 : Work} {m0 m1 m2 m3 : Made} {f : Task} (parts : List PatPart) (n i : ℕ) (j : PatPart) (pairs later : List ℕ) (p : Reading → t.Pat) (u : ValueType) (a joint b : ℕ) → n ≡ i + 1 → n ≤ length parts
    → j ≡ slice_index_or parts i j → later ≡ pairs ++ joint ∷ []
    → Done w0 w1 m0 m1 f (both (pat_task (left_chain p (take n parts)) u a) (left_rest (drop n parts) (reverse pairs)))
    → ((p q : Reading → t.Pat) → Done w1 w2 m1 m2 (pat_task (joined j.head j.pair p q) u a) (opened j.pair joint p q))
    → ((p : Reading → t.Pat) → Done w2 w3 m2 m3 (first j.pair joint p) (pat_task p (Source j.pair.left) b))
    → Done w0 w3 m0 m3 f (both (pat_task (left_chain p (take i parts)) (Source j.pair.left) b) (left_rest (drop i parts) (reverse later)))
left-open {w0 = w0} {w1 = w1} {w3 = w3} {m0 = m0} {m1 = m1} {m3 = m3} {f = f} parts n i j pairs later p u a joint b e le is more inv pair part =
    let lt : i < length parts = omega arith in
    let q = left_chain p (take i parts) in
    let rest = left_rest (drop n parts) (reverse pairs) in
    let g : drop i parts ≡ j ∷ drop n parts = next-drop parts i j lt is ∙ ap (λ k. j ∷ drop k parts) (sym e) in
    let h : take n parts ≡ take i parts ++ j ∷ [] = ap (λ k. take k parts) e ∙ next-take parts i j lt is in
    subst (λ l. Done w0 w3 m0 m3 f (both (pat_task q (Source j.pair.left) b) (left_rest l (reverse later)))) (sym g)
    (subst (λ l. Done w0 w3 m0 m3 f (both (pat_task q (Source j.pair.left) b) (left_rest (j ∷ drop n parts) l))) (sym (ap reverse more ∙ reverse-append pairs (joint ∷ [])))
    (done-then
    (done-then
    (left-pat rest (joined j.head j.pair q (pattern j.pat)) (left_chain p (take n parts)) u a (λ R. ap (λ l. left_chain p l R) h ∙ left-next R p (take i parts) j) inv)
    (done-both rest (pair q (pattern j.pat))))
    (done-both rest (done-both (second j.pair joint (pattern j.pat)) (part q)))))

left-none : (js : List PatPart) → left_rest js [] ≡ finished
left-none [] = refl
left-none (j ∷ js) = refl

pub left-empty : {w0 w1 : Work} {m0 m1 : Made} {f : Task} (js : List PatPart) (pairs : List ℕ) → length pairs ≡ 0 → Done w0 w1 m0 m1 f (left_rest js (reverse pairs)) → Done w0 w1 m0 m1 f finished
left-empty {w0 = w0} {w1 = w1} {m0 = m0} {m1 = m1} {f = f} js pairs e inv = subst (Done w0 w1 m0 m1 f) (ap (λ l. left_rest js (reverse l)) (no-items pairs e) ∙ left-none js) inv

pub left-step : {w0 w1 w2 : Work} {m0 m1 m2 : Made} {f : Task} (parts : List PatPart) (i : ℕ) (j : PatPart) (pairs later : List ℕ) (joint : ℕ) → i < length parts → j ≡ slice_index_or parts i j → pairs ≡ later ++ joint ∷ []
    → Done w0 w1 m0 m1 f (left_rest (drop i parts) (reverse pairs)) → Done w1 w2 m1 m2 (second j.pair joint (pattern j.pat)) finished → Done w0 w2 m0 m2 f (left_rest (drop (i + 1) parts) (reverse later))
left-step {w0 = w0} {w1 = w1} {m0 = m0} {m1 = m1} {f = f} parts i j pairs later joint lt is more inv last =
    let start = subst (λ l. Done w0 w1 m0 m1 f (left_rest (drop i parts) l)) (ap reverse more ∙ reverse-append later (joint ∷ [])) inv in
    done-then (subst (λ l. Done w0 w1 m0 m1 f (left_rest l (joint ∷ reverse later))) (next-drop parts i j lt is) start) (done-first (left_rest (drop (i + 1) parts) (reverse later)) last)

pub left-end : {w0 w1 : Work} {m0 m1 : Made} {f : Task} (parts : List PatPart) (i : ℕ) (pairs : List ℕ) → length parts ≤ i → Done w0 w1 m0 m1 f (left_rest (drop i parts) (reverse pairs)) → Done w0 w1 m0 m1 f finished
left-end {w0 = w0} {w1 = w1} {m0 = m0} {m1 = m1} {f = f} parts i pairs le inv = subst (λ l. Done w0 w1 m0 m1 f (left_rest l (reverse pairs))) (drop-past parts i le) inv

-- a whole chain, read as ds and es where it is opened and gone through
pub chain-all : {w0 w1 w2 w3 : Work} {m0 m1 m2 m3 : Made} (s : Side) (p : Reading → t.Pat) (js ds es : List PatPart) (pairs : Pairs) (u v : ValueType) (a b : ℕ) → ds ≡ js → es ≡ js
    → ((p : Reading → t.Pat) → Done w0 w1 m0 m1 (pat_task (chained s p ds) u a) (both (pat_task p v b) (pairs_rest ds pairs))) → Done w1 w2 m1 m2 (pat_task p v b) finished
    → Done w2 w3 m2 m3 (pairs_rest es pairs) finished → Done w0 w3 m0 m3 (pat_task (chained s p js) u a) finished
chain-all {w0 = w0} {w1 = w1} {w2 = w2} {w3 = w3} {m0 = m0} {m1 = m1} {m2 = m2} {m3 = m3} s p js ds es pairs u v a b d e start child rest =
    done-then
    (done-then (subst (λ l. Done w0 w1 m0 m1 (pat_task (chained s p l) u a) (both (pat_task p v b) (pairs_rest l pairs))) d (start p)) (done-first (pairs_rest js pairs) child))
    (subst (λ l. Done w2 w3 m2 m3 (pairs_rest l pairs) finished) e rest)

-- of a side that is known
pub chain-as : {w0 w1 : Work} {m0 m1 : Made} {g : Task} (s r : Side) (p : Reading → t.Pat) (js : List PatPart) (u : ValueType) (a : ℕ) → s ≡ r → Done w0 w1 m0 m1 (pat_task (chained r p js) u a) g → Done w0 w1 m0 m1 (pat_task (chained s p js) u a) g
chain-as {w0 = w0} {w1 = w1} {m0 = m0} {m1 = m1} {g = g} s r p js u a e h = subst (λ x. Done w0 w1 m0 m1 (pat_task (chained x p js) u a) g) (sym e) h

pub pairs-as : {w0 w1 : Work} {m0 m1 : Made} {g : Task} (js : List PatPart) (o k : Pairs) → o ≡ k → Done w0 w1 m0 m1 (pairs_rest js k) g → Done w0 w1 m0 m1 (pairs_rest js o) g
pairs-as {w0 = w0} {w1 = w1} {m0 = m0} {m1 = m1} {g = g} js o k e h = subst (λ x. Done w0 w1 m0 m1 (pairs_rest js x) g) (sym e) h

-- a whole record, whose fields are read as ds and es where they are counted and gone through
pub fields-all : {w0 w1 w2 : Work} {m0 m1 m2 : Made} (fs ds es : List PatField) (further : Bool) (size : Option ℕ) (u : ValueType) (a : ℕ) → ds ≡ fs → es ≡ fs → ((R : Reading) → size_of further (field_patterns ds R) ≡ size)
    → ((b : Bool) (gs : Reading → t.PatFields) → ((R : Reading) → size_of b (gs R) ≡ size) → Done w0 w1 m0 m1 (pat_task (record_pattern b gs) u a) (fields_task gs u a))
    → Done w1 w2 m1 m2 (fields_task (field_patterns es) u a) finished → Done w0 w2 m0 m2 (pat_task (record_pattern further (field_patterns fs)) u a) finished
fields-all {w1 = w1} {w2 = w2} {m1 = m1} {m2 = m2} fs ds es further size u a d e counts begun rest =
    done-then (begun further (field_patterns fs) (λ R. ap (λ l. size_of further (field_patterns l R)) (sym d) ∙ counts R)) (subst (λ l. Done w1 w2 m1 m2 (fields_task (field_patterns l) u a) finished) e rest)

-- all pairs of a chain to the left are open
pub left-done : {w0 w1 : Work} {m0 m1 : Made} {f : Task} (parts : List PatPart) (n : ℕ) (pairs : List ℕ) (p : Reading → t.Pat) (u : ValueType) (a : ℕ) → n ≡ 0
    → Done w0 w1 m0 m1 f (both (pat_task (left_chain p (take n parts)) u a) (left_rest (drop n parts) (reverse pairs))) → Done w0 w1 m0 m1 f (both (pat_task p u a) (left_rest parts (reverse pairs)))
left-done {w0 = w0} {w1 = w1} {m0 = m0} {m1 = m1} {f = f} parts n pairs p u a e inv =
    subst (λ k. Done w0 w1 m0 m1 f (both (pat_task (left_chain p (take k parts)) u a) (left_rest (drop k parts) (reverse pairs)))) e inv

-- a part that is read as another
pub child-as : {w0 w1 : Work} {m0 m1 : Made} (d q : Pat) (u : ValueType) (a : ℕ) → d ≡ q → Done w0 w1 m0 m1 (pat_task (pattern d) u a) finished → Done w0 w1 m0 m1 (pat_task (pattern q) u a) finished
child-as {w0 = w0} {w1 = w1} {m0 = m0} {m1 = m1} d q u a e h = subst (λ x. Done w0 w1 m0 m1 (pat_task (pattern x) u a) finished) e h
