-- Fields, arguments, sequences and chains, one element after the other.
use Rattle.std.proofs.Common.{◌≡◌, ◌<◌, ◌≤◌, ◌+◌, ℕ, suc, Bool, List, [], ◌∷◌, ◌++◌, length, take, drop, slice_index_or, refl, sym, ap, ap₂, subst, ◌∙◌}
use Rattle.mlc_names.specs.declared.label.Label.{Label}
use Rattle.mlc_base.specs.declared.place.Place.{Place}
use Rattle.ir_poly.specs.Prog as t
use Rattle.match_compile.specs.Compile.{making, value_at, links, past_chain}
use Rattle.plain_tree.specs.declared.tree.Field.{Field}
use Rattle.plain_tree.specs.declared.tree.Step.{Step}
use Rattle.prog_tree.specs.TreeOf.{Reading, tree_of}
use Rattle.prog_tree.specs.declared.tree.Exp.{Exp}
use Rattle.general_bindings.specs.of_match_types.Views.{View, Sees, Keeps}
use Rattle.general_bindings.specs.of_match_types.declared.work.Work.{Work}
use Rattle.general_bindings.proofs.of_match_types.Seeing.{keeps-same, keeps-on, sees-before}
use Rattle.general_bindings.specs.of_match_steps.Steps.{Puts, stand}
use Rattle.general_bindings.proofs.of_pattern_tests.Chains.{next-drop}
use Rattle.general_bindings.specs.of_exp_steps.Making.{Makes, MakesAll}
use Rattle.general_bindings.specs.of_exp_steps.Made.{one_more}
use Rattle.general_bindings.proofs.of_exp_steps.Leaves.{then-makes}
use Rattle.general_bindings.proofs.of_exp_steps.Fields.{all-more, all-as, all-made-as}
use Rattle.general_bindings.proofs.of_exp_steps.Counting.{makes-as}
use Rattle.general_bindings.specs.of_exp_blocks.Giving.{linking}
use Rattle.match_pass.specs.Reading.{expression, fields_read, sequence_read, chain_read}
use Rattle.match_pass.specs.Going.{Linked}
use Rattle.match_pass.proofs.Lists.{fields-taken, drop-past, take-past}

pub fields-step : {w v w1 : Work} {s m a : List Step} {x : ℕ} (fs : List (Label × Exp)) (i : ℕ) (f : Label × Exp) (made later : List Field) → i < length fs → f ≡ slice_index_or fs i f
    → MakesAll w v s m (fields_read (take i fs)) made → Makes v w1 m a (expression f.1) x → later ≡ made ++ record { label = f.0; atom = x } ∷ [] → MakesAll w w1 s a (fields_read (take (i + 1) fs)) later
fields-step fs i f made later lt is p q e =
    all-made-as _ later e (all-as (one_more (fields_read (take i fs)) f.0 (expression f.1)) (fields_read (take (i + 1) fs)) (fields-taken fs i f lt is) (all-more f.0 p q))

pub fields-end : {w v : Work} {s m : List Step} (fs : List (Label × Exp)) (i : ℕ) (made : List Field) → length fs ≤ i → MakesAll w v s m (fields_read (take i fs)) made → MakesAll w v s m (fields_read fs) made
fields-end {w = w} {v = v} {s = s} {m = m} fs i made le p = subst (λ l. MakesAll w v s m (fields_read l) made) (take-past fs i le) p

-- what is left of a sequence makes the whole
abbrev pub InTurn : (start now : Work) (before after : List Step) → List Exp → (whole : List Exp) → Exp → Type 0
InTurn start now before after ds whole last =
    (place : Place) (u : ℕ) (w : Work) (s : List Step) (a : ℕ) → Makes now w after s (sequence_read place u ds (expression last)) a → Makes start w before s (sequence_read place u whole (expression last)) a

pub turn-step : {start now w1 : Work} {before m m1 : List Step} {x : ℕ} (ds : List Exp) (i : ℕ) (d last : Exp) → i < length ds → d ≡ slice_index_or ds i d → InTurn start now before m (drop i ds) ds last
    → Makes now w1 m m1 (expression d) x → InTurn start w1 before m1 (drop (i + 1) ds) ds last
turn-step ds i d last lt is h p = λ place u w s a q.
    h place u w s a
    (makes-as (sequence_read place u (d ∷ drop (i + 1) ds) (expression last)) (sequence_read place u (drop i ds) (expression last)) (λ R. ap (λ l. sequence_read place u l (expression last) R) (next-drop ds i d lt is))
    (then-makes place u p q))

pub turn-end : {start now : Work} {before m : List Step} (ds : List Exp) (i : ℕ) (last : Exp) → length ds ≤ i → InTurn start now before m (drop i ds) ds last → (place : Place) (u : ℕ) (w : Work) (s : List Step) (a : ℕ)
    → Makes now w m s (expression last) a → Makes start w before s (sequence_read place u ds (expression last)) a
turn-end ds i last le h place u w s a p =
    h place u w s a (makes-as (expression last) (sequence_read place u (drop i ds) (expression last)) (λ R. ap (λ l. sequence_read place u l (expression last) R) (drop-past ds i le)) p)

-- Chains of `andalso` and `orelse`

pub linked-none : (w : Work) (s : List Step) (b : Bool) (cs : Reading → t.Chain) → Linked w w s s b cs cs
linked-none w s b cs = record { keeps = keeps-same w; next = λ v sees. refl; leads = record { leads = λ v sees rest. refl } }

pub linked-step : {old now w1 w2 : Work} {before m m1 m2 : List Step} {x : ℕ} (b : Bool) (cs : Reading → t.Chain) (es : List Exp) (i : ℕ) (e last : Exp) → i < length es → e ≡ slice_index_or es i e
    → Linked old now before m b cs (chain_read (drop i es) last) → Makes now w1 m m1 (expression e) x → Keeps w1 w2 → w2.next ≡ w1.next → Puts w2 m1 m2 (linking b x)
    → Linked old w2 before m2 b cs (chain_read (drop (i + 1) es) last)
linked-step {old = old} {now = now} {w1 = w1} {w2 = w2} {before = before} {m = m} {m1 = m1} {m2 = m2} {x = x} b cs es i e last lt is h p k same q = record {
  keeps = keeps-on old now w2 h.keeps (keeps-on now w1 w2 p.keeps k);
  next = λ v sees. ap (past_chain (rest v)) (number v sees) ∙ sym (ap (λ c. past_chain c now.next) (next v)) ∙ h.next v (sees-now v sees);
  leads = record {
    leads = λ v sees r.
        q.leads v sees (links v.scope v.names (rest v) b w2.next)
        ∙ p.puts.leads v (sees-before w1 w2 v k sees) (linking b x v (links v.scope v.names (rest v) b w2.next))
        ∙ ap₂ (λ y n. stand v m (making v.scope v.names (tree_of v.source e) now.next (linking b y v (links v.scope v.names (rest v) b n)))) (sym (value v sees)) (number v sees)
        ∙ sym (ap (λ c. stand v m (links v.scope v.names c b now.next)) (next v)) ∙ h.leads.leads v (sees-now v sees) r;
  };
}
  where
    rest : View → t.Chain
    rest v = chain_read (drop (i + 1) es) last v.source

    sees-now : (v : View) → Sees w2 v → Sees now v
    sees-now v sees = sees-before now w2 v (keeps-on now w1 w2 p.keeps k) sees

    value : (v : View) → Sees w2 v → value_at (tree_of v.source e) now.next ≡ x
    value v sees = p.is v (sees-before w1 w2 v k sees)

    number : (v : View) → Sees w2 v → w2.next ≡ suc (value_at (tree_of v.source e) now.next)
    number v sees = same ∙ p.next ∙ ap suc (sym (value v sees))

    next : (v : View) → chain_read (drop i es) last v.source ≡ t.link (tree_of v.source e) (rest v)
    next v = ap (λ l. chain_read l last v.source) (next-drop es i e lt is)

pub linked-end : {old now : Work} {before m : List Step} (b : Bool) (cs : Reading → t.Chain) (es : List Exp) (i : ℕ) (last : Exp) → length es ≤ i → Linked old now before m b cs (chain_read (drop i es) last)
    → Linked old now before m b cs (chain_read [] last)
linked-end {old = old} {now = now} {before = before} {m = m} b cs es i last le h = subst (λ l. Linked old now before m b cs (chain_read l last)) (drop-past es i le) h
