-- Constructors get their rows, one after the other.
use Rattle.std.proofs.Common.{◌≡◌, ℕ, List, [], ◌∷◌, ◌++◌, Option, Some, refl, sym, subst, ◌∙◌}
use Rattle.std.specs.Prelude.{option_map}
use Rattle.std.proofs.lemmas.List.{map-append}
use Rattle.ty_core.specs.Types.{Typ}
use Rattle.ty_core.specs.declared.name.TyName.{TyName}
use Rattle.ty_table.specs.TypeAt.{type_at}
use Rattle.sml_tree.specs.BareTree.{ConBind, DataBind}
use Rattle.ir_poly.specs.Types.{constructor_of, find}
use Rattle.elab_typed.specs.Numbers.{type_as}
use Rattle.elab_state.specs.States.{types_in}
use Rattle.elab_state.specs.declared.state.State.{State}
use Rattle.elab_steps.specs.Growing.{Grows}
use Rattle.elab_steps.proofs.Growing.{comes_before}
use Rattle.datatype_forms.specs.of_dec_forms.Entries.{constructing_name}
use Rattle.datatype_forms.specs.Arguments.{OverIf, row_at, rows_at}
use Rattle.datatype_forms.specs.Constructed.{AllRows, no_rows, more_rows, EachRow, no_row, a_row, HasRow}
use Rattle.datatype_forms.specs.ProgramTypes.{number_by}
use Rattle.datatype_forms.specs.Steps.{IsProgramRow, IsTableStep, KnowsTypes}
use Rattle.datatype_forms.specs.declared.program_types.Names.{Names}
use Rattle.datatype_forms.proofs.Stepping.{step_on, step_same}
use Rattle.datatype_decs.specs.Adding.{HaveRows}

-- they stay

has-later : (S T : State) (f : ℕ → ℕ) (limit : ℕ) (y : TyName) (n : ℕ) (o : Option Typ) → Grows S T → HasRow S f limit y n o → HasRow T f limit y n o
has-later S T f limit y n o g h = record { found = λ W c. h.found W (comes_before S T W g c); over = h.over }

pub each_row_later : (S T : State) (f : ℕ → ℕ) (limit : ℕ) (y : TyName) {bs : List ConBind} {os : List (Option Typ)} → Grows S T → EachRow S f limit y bs os → EachRow T f limit y bs os
each_row_later S T f limit y g no_row = no_row
each_row_later S T f limit y g (a_row {b = b} {o = o} n e h hs) = a_row n e (has-later S T f limit y n o g h) (each_row_later S T f limit y g hs)

pub all_rows_later : (S T : State) (f : ℕ → ℕ) (limit : ℕ) {ys : List TyName} {bs : List DataBind} {oss : List (List (Option Typ))} → Grows S T → AllRows S f limit ys bs oss → AllRows T f limit ys bs oss
all_rows_later S T f limit g no_rows = no_rows
all_rows_later S T f limit g (more_rows {y = y} h hs) = more_rows (each_row_later S T f limit y g h) (all_rows_later S T f limit g hs)

-- one after the other

row-snoc : (T : State) (f : ℕ → ℕ) (limit : ℕ) (y : TyName) {bs : List ConBind} {os : List (Option Typ)} (b : ConBind) (o : Option Typ) (n : ℕ) → EachRow T f limit y bs os
    → constructing_name b.vid ≡ Some n → HasRow T f limit y n o → EachRow T f limit y (bs ++ b ∷ []) (os ++ o ∷ [])
row-snoc T f limit y b o n no_row e h = a_row n e h no_row
row-snoc T f limit y b o n (a_row m d g gs) e h = a_row m d g (row-snoc T f limit y b o n gs e h)

pub no_rows_yet : (S : State) (ns : Names) (z : TyName) (known : ℕ → Option ℕ) → KnowsTypes S ns known → HaveRows S ns z [] [] S known
no_rows_yet S ns z known k = record { step = record { step = step_same S; types = refl; knows = k }; each = λ y e. no_row }

table-on : (S M T : State) (ns : Names) (known later : ℕ → Option ℕ) → IsTableStep S M ns known → IsTableStep M T ns later → IsTableStep S T ns later
table-on S M T ns known later h g = record { step = step_on S M T h.step g.step; types = g.types ∙ h.types; knows = g.knows }

pub rows_next : (S M T : State) (ns : Names) (z : TyName) (bs cs : List ConBind) (ks js : List (Option ℕ)) (b : ConBind) (k : Option ℕ) (n : ℕ) (known later : ℕ → Option ℕ)
    → HaveRows S ns z bs ks M known → constructing_name b.vid ≡ Some n → IsProgramRow M ns z n k T later → bs ++ b ∷ [] ≡ cs → ks ++ k ∷ [] ≡ js → HaveRows S ns z cs js T later
rows_next S M T ns z bs cs ks js b k n known later h may g p q =
    subst (λ l. HaveRows S ns z l js T later) p (subst (λ l. HaveRows S ns z (bs ++ b ∷ []) l T later) q (record {
      step = table-on S M T ns known later h.step g.step;
      each = λ y e.
          subst (EachRow T (number_by ns.numbers.now) ns.limit y (bs ++ b ∷ [])) (sym (map-append (option_map (type_at (types_in S))) ks (k ∷ [])))
          (row-snoc T (number_by ns.numbers.now) ns.limit y b (option_map (type_at (types_in S)) k) n (each_row_later M T (number_by ns.numbers.now) ns.limit y g.step.step.grows (h.each y e)) may (record {
            found = λ W c.
                subst (λ (x : TyName). find W.table x n ≡ Some (constructor_of x n (option_map (type_as (number_by ns.numbers.now)) (option_map (type_at (types_in S)) k)))) e
                (subst (λ ts. find W.table z n ≡ Some (constructor_of z n (option_map (type_as (number_by ns.numbers.now)) (option_map (type_at ts) k)))) h.step.types (g.is W c));
            over = subst (λ ts. OverIf ns.limit (option_map (type_at ts) k)) h.step.types g.over;
          }));
    }))

all-snoc : (T : State) (f : ℕ → ℕ) (limit : ℕ) {ys : List TyName} {bs : List DataBind} {oss : List (List (Option Typ))} (y : TyName) (b : DataBind) (os : List (Option Typ)) → AllRows T f limit ys bs oss
    → EachRow T f limit y b.cons os → AllRows T f limit (ys ++ y ∷ []) (bs ++ b ∷ []) (oss ++ os ∷ [])
all-snoc T f limit y b os no_rows h = more_rows h no_rows
all-snoc T f limit y b os (more_rows g gs) h = more_rows g (all-snoc T f limit y b os gs h)

pub all_rows_next : (M T : State) (ts : List Typ) (f : ℕ → ℕ) (limit : ℕ) (ys zs : List TyName) (bs cs : List DataBind) (kss jss : List (List (Option ℕ))) (y : TyName) (b : DataBind) (ks : List (Option ℕ))
    → Grows M T → AllRows M f limit ys bs (rows_at ts kss) → EachRow T f limit y b.cons (row_at ts ks) → ys ++ y ∷ [] ≡ zs → bs ++ b ∷ [] ≡ cs → kss ++ ks ∷ [] ≡ jss
    → AllRows T f limit zs cs (rows_at ts jss)
all_rows_next M T ts f limit ys zs bs cs kss jss y b ks g h e o p q =
    subst (λ l. AllRows T f limit l cs (rows_at ts jss)) o (subst (λ l. AllRows T f limit (ys ++ y ∷ []) l (rows_at ts jss)) p (subst (λ l. AllRows T f limit (ys ++ y ∷ []) (bs ++ b ∷ []) (rows_at ts l)) q
    (subst (AllRows T f limit (ys ++ y ∷ []) (bs ++ b ∷ [])) (sym (map-append (row_at ts) kss (ks ∷ []))) (all-snoc T f limit y b (row_at ts ks) (all_rows_later M T f limit g h) e))))
