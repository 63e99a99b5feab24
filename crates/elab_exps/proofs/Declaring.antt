-- Declarations, one after the other, and the expressions that they stand before.
use Rattle.std.proofs.Common.{◌≡◌, ◌<◌, ◌≤◌, ◌+◌, ℕ, List, [], ◌∷◌, ◌++◌, map, take, length, get_or, append_assoc, Vec, Box, Global, refl, sym, ap, ap₂, subst, ◌∙◌}
use Rattle.mlc_base.specs.declared.place.Place.{Place}
use Rattle.sml_tree.specs.BareTree as bare
use Rattle.sml_tree.specs.Derived.{withtype_of}
use Rattle.sml_tree.specs.TreeOf.{data_bind_of, dec_of, decs_of, ex_bind_of, exp_of, long_id_at_of, type_bind_of}
use Rattle.sml_tree.specs.declared.ident.Vid.{Vid}
use Rattle.sml_tree.specs.declared.tree.DataBind.{DataBind}
use Rattle.sml_tree.specs.declared.tree.Dec.{Dec as SourceDec}
use Rattle.sml_tree.specs.declared.tree.Dec.TheVariants as node
use Rattle.sml_tree.specs.declared.tree.ExBind.{ExBind}
use Rattle.sml_tree.specs.declared.tree.Exp.{Exp}
use Rattle.sml_tree.specs.declared.tree.Exp.TheVariants as exps
use Rattle.sml_tree.specs.declared.tree.LongIdAt.{LongIdAt}
use Rattle.sml_tree.specs.declared.tree.TypeBind.{TypeBind}
use Rattle.prog_tree.specs.declared.tree.Dec.{Dec}
use Rattle.elab_types.proofs.Lists.{all-map, next-map-at}
use Rattle.elab_types.specs.declared.scope.TypeEntry.{TypeEntry}
use Rattle.elab_state.specs.declared.state.State.{State}
use Rattle.elab_steps.proofs.Changing.{begins-same}
use Rattle.elab_context.specs.Schemes.{SchemeList}
use Rattle.elab_context.specs.Telling.{IsContext}
use Rattle.elab_context.specs.declared.context.Context.{Context}
use Rattle.elab_context.specs.declared.entry.Entry.{Entry}
use Rattle.use_elab.specs.Elaborated.{IsExp}
use Rattle.use_elab.specs.declared.typed.TypedExp.{TypedExp}
use Rattle.scope_decs.proofs.of_exp_forms.Nodes.{source-Let}
use Rattle.scope_decs.specs.of_dec_forms.Bringing.{AreBringing, IsBringing}
use Rattle.scope_decs.specs.of_dec_forms.Decs.{IsDecs}
use Rattle.scope_decs.specs.of_dec_forms.Entries.{Adds}
use Rattle.scope_decs.specs.of_dec_forms.Local.{IsEmpty, block_mark_in, mark_in}
use Rattle.scope_decs.specs.of_dec_forms.declared.block.BlockMark.{BlockMark}
use Rattle.scope_decs.specs.of_dec_forms.declared.brought.Brought.{Brought}
use Rattle.scope_decs.specs.of_dec_forms.declared.local.LocalMark.{LocalMark}
use Rattle.scope_decs.proofs.of_dec_forms.Several.{more_brought, none_brought}
use Rattle.scope_decs.proofs.of_dec_forms.Sequence.{sequence_is}
use Rattle.elab_exps.specs.Decs.{AreDeclared, IsDeclared, StandsIn}
use Rattle.elab_exps.proofs.Loops.{exp_in}
use Rattle.elab_exps.proofs.Sources.{source-Abbreviation, source-Datatype, source-Declarations, source-Exception, source-Local, source-Open, source-Replicate, source-Withtype}
use Rattle.elab_exps.proofs.Whole.{of_source}

append-nil : {A : Type 0} (xs : List A) → xs ≡ xs ++ []
append-nil [] = refl
append-nil (x ∷ xs) = ap (λ l. x ∷ l) (append-nil xs)

-- behind a declaration the state is as deep as the context
pub stands_brought : (S T : State) (C D : Context) (d : bare.Dec) (xs : List Dec) (a b : Brought) → StandsIn S C → IsContext T D → IsBringing S C d T D xs a b → StandsIn T D
stands_brought S T C D d xs a b h i k = record { context = i; level = k.grows.level ∙ h.level ∙ sym k.adds.level }

pub none_declared : (S : State) (C : Context) (xs : List Dec) (b : Brought) → StandsIn S C → AreDeclared S C [] S C xs xs b b
none_declared S C xs b h = record { decs = []; all = append-nil xs; bring = none_brought S C [] b refl; stands = h; schemes = begins-same _ _ refl }

pub more_declared : (S M T : State) (C D E : Context) (ds : List SourceDec) (i : ℕ) (d : SourceDec) (xs ys zs : List Dec) (a b c : Brought) → i < length ds → d ≡ get_or ds i d
    → AreDeclared S C (map dec_of (take i ds)) M D xs ys a b → IsDeclared M D (dec_of d) T E ys zs b c → AreDeclared S C (map dec_of (take (i + 1) ds)) T E xs zs a c
more_declared S M T C D E ds i d xs ys zs a b c lt is h k =
    subst (λ l. AreDeclared S C l T E xs zs a c) (sym (next-map-at dec_of ds i d lt ∙ ap (λ (x : SourceDec). map dec_of (take i ds) ++ dec_of x ∷ []) (sym is)))
    (let bring = more_brought S M T C D E (map dec_of (take i ds)) (dec_of d) h.decs k.decs (h.decs ++ k.decs) a b c h.bring k.brings refl in
    record {
      decs = h.decs ++ k.decs;
      all = k.all ∙ ap (λ l. l ++ k.decs) h.all ∙ append_assoc xs h.decs k.decs;
      bring = bring;
      stands = k.stands;
      schemes = bring.adds.schemes;
    })

pub all_declared : (S T : State) (C D : Context) (ds : List SourceDec) (i : ℕ) (xs ys : List Dec) (a b : Brought) → length ds ≤ i → AreDeclared S C (map dec_of (take i ds)) T D xs ys a b
    → AreDeclared S C (map dec_of ds) T D xs ys a b
all_declared S T C D ds i xs ys a b le h = subst (λ l. AreDeclared S C l T D xs ys a b) (all-map dec_of ds i le) h

-- one declaration, by its form

pub declared_by : (S T : State) (C D : Context) (d e : SourceDec) (x : bare.Dec) (xs ys : List Dec) (a b : Brought) → d ≡ e → dec_of e ≡ x → IsDeclared S C x T D xs ys a b
    → IsDeclared S C (dec_of d) T D xs ys a b
declared_by S T C D d e x xs ys a b p q h = subst (λ z. IsDeclared S C z T D xs ys a b) (sym (ap dec_of p ∙ q)) h

-- whatever schemes come
pub brought_declared : (S T : State) (C D : Context) (d : bare.Dec) (ds xs ys : List Dec) (a b : Brought) → StandsIn S C → IsContext T D → IsBringing S C d T D ds a b → ys ≡ xs ++ ds
    → IsDeclared S C d T D xs ys a b
brought_declared S T C D d ds xs ys a b h i k e = record { decs = ds; all = e; brings = k; stands = stands_brought S T C D d ds a b h i k; schemes = k.adds.schemes }

-- where none come
pub one_declared : (S T : State) (C D : Context) (d : bare.Dec) (ds xs ys : List Dec) (a b : Brought) → StandsIn S C → IsContext T D → D.schemes ≡ C.schemes → IsBringing S C d T D ds a b
    → ys ≡ xs ++ ds → IsDeclared S C d T D xs ys a b
one_declared S T C D d ds xs ys a b h i s k e = record { decs = ds; all = e; brings = k; stands = stands_brought S T C D d ds a b h i k; schemes = begins-same _ _ (ap (λ (z : SchemeList). z.items) s) }

pub exceptions_declared : (S T : State) (C D : Context) (d : SourceDec) (place : Place) (v : Vec ExBind Global) (bs : List ExBind) (ds xs ys : List Dec) (a b : Brought)
    → d ≡ node.Exception place v → bs ≡ v.items → StandsIn S C → IsContext T D → D.schemes ≡ C.schemes
    → IsBringing S C (bare.exception_dec place (map ex_bind_of bs)) T D ds a b → ys ≡ xs ++ ds → IsDeclared S C (dec_of d) T D xs ys a b
exceptions_declared S T C D d place v bs ds xs ys a b is eb h i s k e =
    let x = bare.exception_dec place (map ex_bind_of bs) in
    declared_by S T C D d (node.Exception place v) x xs ys a b is (source-Exception place v ∙ ap (λ l. bare.exception_dec place (map ex_bind_of l)) (sym eb))
    (one_declared S T C D x ds xs ys a b h i s k e)

pub types_declared : (S T : State) (C D : Context) (d : SourceDec) (place : Place) (v : Vec TypeBind Global) (bs : List TypeBind) (xs : List Dec) (a b : Brought)
    → d ≡ node.Abbreviation place v → bs ≡ v.items → StandsIn S C → IsContext T D → D.schemes ≡ C.schemes
    → IsBringing S C (bare.type_dec place (map type_bind_of bs)) T D [] a b → IsDeclared S C (dec_of d) T D xs xs a b
types_declared S T C D d place v bs xs a b is eb h i s k =
    let x = bare.type_dec place (map type_bind_of bs) in
    declared_by S T C D d (node.Abbreviation place v) x xs xs a b is (source-Abbreviation place v ∙ ap (λ l. bare.type_dec place (map type_bind_of l)) (sym eb))
    (one_declared S T C D x [] xs xs a b h i s k (append-nil xs))

pub datatypes_declared : (S T : State) (C D : Context) (d : SourceDec) (place : Place) (v : Vec DataBind Global) (bs : List DataBind) (xs : List Dec) (a b : Brought)
    → d ≡ node.Datatype place v → bs ≡ v.items → StandsIn S C → IsContext T D → IsBringing S C (bare.datatype_dec place (map data_bind_of bs)) T D [] a b
    → IsDeclared S C (dec_of d) T D xs xs a b
datatypes_declared S T C D d place v bs xs a b is eb h i k =
    let x = bare.datatype_dec place (map data_bind_of bs) in
    declared_by S T C D d (node.Datatype place v) x xs xs a b is (source-Datatype place v ∙ ap (λ (l : List DataBind). bare.datatype_dec place (map data_bind_of l)) (sym eb))
    (brought_declared S T C D x [] xs xs a b h i k (append-nil xs))

pub withtypes_declared : (S T : State) (C D : Context) (d : SourceDec) (place : Place) (v : Vec DataBind Global) (w : Vec TypeBind Global) (bs : List DataBind) (ts : List TypeBind)
    (xs : List Dec) (a b : Brought) → d ≡ node.Withtype place v w → bs ≡ v.items → ts ≡ w.items → StandsIn S C → IsContext T D
    → IsBringing S C (withtype_of place (map data_bind_of bs) (map type_bind_of ts)) T D [] a b → IsDeclared S C (dec_of d) T D xs xs a b
withtypes_declared S T C D d place v w bs ts xs a b is eb et h i k =
    let x = withtype_of place (map data_bind_of bs) (map type_bind_of ts) in
    declared_by S T C D d (node.Withtype place v w) x xs xs a b is
    (source-Withtype place v w ∙ ap₂ (λ (l : List DataBind) (r : List TypeBind). withtype_of place (map data_bind_of l) (map type_bind_of r)) (sym eb) (sym et))
    (brought_declared S T C D x [] xs xs a b h i k (append-nil xs))

pub replication_declared : (S : State) (C D : Context) (d : SourceDec) (place : Place) (x : ℕ) (y : LongIdAt) (xs : List Dec) (a b : Brought) → d ≡ node.Replicate place x y
    → StandsIn S C → ((S : State) → IsContext S C → IsContext S D) → D.schemes ≡ C.schemes
    → ((S : State) → IsBringing S C (bare.replicate_dec place x (long_id_at_of y)) S D [] a b) → IsDeclared S C (dec_of d) S D xs xs a b
replication_declared S C D d place x y xs a b is h i s k =
    let r = bare.replicate_dec place x (long_id_at_of y) in
    declared_by S S C D d (node.Replicate place x y) r xs xs a b is (source-Replicate place x y) (one_declared S S C D r [] xs xs a b h (i S h.context) s (k S) (append-nil xs))

pub opening_declared : (S : State) (C D : Context) (d : SourceDec) (place : Place) (v : Vec LongIdAt Global) (ys : List LongIdAt) (xs : List Dec) (a b : Brought) → d ≡ node.Open place v
    → ys ≡ v.items → StandsIn S C → ((S : State) → IsContext S C → IsContext S D) → D.schemes ≡ C.schemes
    → ((S : State) → IsBringing S C (bare.open_dec place (map long_id_at_of ys)) S D [] a b) → IsDeclared S C (dec_of d) S D xs xs a b
opening_declared S C D d place v ys xs a b is ey h i s k =
    let r = bare.open_dec place (map long_id_at_of ys) in
    declared_by S S C D d (node.Open place v) r xs xs a b is (source-Open place v ∙ ap (λ (l : List LongIdAt). bare.open_dec place (map long_id_at_of l)) (sym ey))
    (one_declared S S C D r [] xs xs a b h (i S h.context) s (k S) (append-nil xs))

pub sequence_declared : (S T : State) (C D : Context) (d : SourceDec) (place : Place) (v : Vec SourceDec Global) (ds : List SourceDec) (xs ys : List Dec) (a b : Brought)
    → d ≡ node.Declarations place v → ds ≡ v.items → AreDeclared S C (map dec_of ds) T D xs ys a b → IsDeclared S C (dec_of d) T D xs ys a b
sequence_declared S T C D d place v ds xs ys a b is ed h =
    let x = bare.sequence_dec place (decs_of (map dec_of ds)) in
    declared_by S T C D d (node.Declarations place v) x xs ys a b is
    (source-Declarations place v ∙ ap (λ (l : List SourceDec). bare.sequence_dec place (decs_of (map dec_of l))) (sym ed))
    (record { decs = h.decs; all = h.all; brings = sequence_is S T C D place (map dec_of ds) h.decs a b h.bring; stands = h.stands; schemes = h.schemes })

pub local_declared : (S M T : State) (C D E F : Context) (d : SourceDec) (place : Place) (v w : Vec SourceDec Global) (ds es : List SourceDec) (m : LocalMark) (xs ys zs : List Dec)
    (none hidden none' shown old new : Brought) → d ≡ node.Local place v w → ds ≡ v.items → es ≡ w.items → StandsIn S C → m ≡ mark_in C → AreDeclared S C (map dec_of ds) M D xs ys none hidden
    → none'.values.items ≡ [] → none'.types.items ≡ [] → AreDeclared M D (map dec_of es) T E ys zs none' shown
    → ((S M T : State) (C D : Context) (ds es : List bare.Dec) (xs ys : List Dec) (a b none : Brought) → m ≡ mark_in C → IsEmpty none → IsContext S C → AreBringing S C ds M D xs a b
    → AreBringing M D es T E ys none shown → IsContext T E → IsContext T F)
    → ((S M T : State) (C D : Context) (p : Place) (ds es : List bare.Dec) (xs ys : List Dec) (a b none : Brought) → m ≡ mark_in C → IsEmpty none → AreBringing S C ds M D xs a b
    → AreBringing M D es T E ys none shown → IsBringing S C (bare.local_dec p (decs_of ds) (decs_of es)) T F (xs ++ ys) old new)
    → IsDeclared S C (dec_of d) T F xs zs old new
local_declared S M T C D E F d place v w ds es m xs ys zs none hidden none' shown old new is ed ee st em h ev et k ended declared =
    let empty : IsEmpty none' = record { values = ev; types = et } in
    let x = bare.local_dec place (decs_of (map dec_of ds)) (decs_of (map dec_of es)) in
    let whole = declared S M T C D place (map dec_of ds) (map dec_of es) h.decs k.decs none hidden none' em empty h.bring k.bring in
    let i = ended S M T C D (map dec_of ds) (map dec_of es) h.decs k.decs none hidden none' em empty st.context h.bring k.bring k.stands.context in
    declared_by S T C F d (node.Local place v w) x xs zs old new is
    (source-Local place v w ∙ ap₂ (λ (l r : List SourceDec). bare.local_dec place (decs_of (map dec_of l)) (decs_of (map dec_of r))) (sym ed) (sym ee))
    (brought_declared S T C F x (h.decs ++ k.decs) xs zs old new st i whole (k.all ∙ ap (λ l. l ++ k.decs) h.all ∙ append_assoc xs h.decs k.decs))

-- `let`

-- behind it the context is as it was
pub let_left : (S M : State) (C D E F : Context) (ds : List bare.Dec) (m : BlockMark) (xs ys : List Dec) (a b : Brought) → m ≡ block_mark_in C → AreDeclared S C ds M D xs ys a b → E ≡ D
    → ((C : Context) (es : List (Vid × Entry)) (ts : List (ℕ × TypeEntry)) → m ≡ block_mark_in C → Adds C E es ts → F ≡ C) → F ≡ C
let_left S M C D E F ds m xs ys a b e h q left =
    left C h.bring.values h.bring.types e (subst (λ z. Adds C z h.bring.values h.bring.types) (sym q) h.bring.adds)

pub let_in_is : (S M N T : State) (C D F : Context) (e : Exp) (place : Place) (v : Vec SourceDec Global) (o : Box Exp Global) (ds : List SourceDec) (x : Exp) (xs made : List Dec)
    (a b : Brought) (body r : TypedExp) → e ≡ exps.Let place v o → ds ≡ v.items → x ≡ o.value → xs ≡ [] → StandsIn S C → AreDeclared S C (map dec_of ds) M D xs made a b
    → IsExp M D (exp_of x) N body → F ≡ C
    → ((S M : State) (inner : Context) (p : Place) (ds : List bare.Dec) (e : bare.Exp) → IsDecs S F ds M inner made → IsExp M inner e N body → IsExp S F (bare.let_in p (decs_of ds) e) T r)
    → IsExp S C (exp_of e) T r
let_in_is S M N T C D F e place v o ds x xs made a b body r is ed ex none st h i q block =
    let whole = bare.let_in place (decs_of (map dec_of ds)) (exp_of x) in
    let all : h.decs ≡ made = sym (h.all ∙ ap (λ l. l ++ h.decs) none) in
    let decs : IsDecs S F (map dec_of ds) M D made =
    subst (λ z. IsDecs S z (map dec_of ds) M D made) (sym q) (subst (IsDecs S C (map dec_of ds) M D) all (h.bring.plain st.context.numbered)) in
    of_source S T C r e (exps.Let place v o) whole is
    (source-Let place v o ∙ ap₂ (λ (l : List SourceDec) (y : Exp). bare.let_in place (decs_of (map dec_of l)) (exp_of y)) (sym ed) (sym ex))
    (exp_in S T C F whole r q (block S M D place (map dec_of ds) (exp_of x) decs i))
