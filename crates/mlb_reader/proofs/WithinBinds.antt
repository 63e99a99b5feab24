-- Places and names of bindings of types, datatypes and exceptions that were read, and of what `open` names.
use Rattle.std.proofs.Common.{ℕ, List, [], ◌∷◌, map}
use Rattle.std.specs.List.{AllByRecursion}
use Rattle.mlc_base.specs.declared.place.Place.{Place}
use Rattle.sml_tree.specs.declared.ident.Tyvar.{Tyvar}
use Rattle.sml_tree.specs.Terminal.{LongId, Terminal, IsTycon, alpha_tycon, symbol_tycon, IsLongTycon, short_tycon, long_alpha_tycon, long_symbol_tycon, IsLongStrid, short_strid, long_strid}
use Rattle.sml_tree.specs.Fixity.{Fixity}
use Rattle.sml_tree.specs.BareTree as bare
use Rattle.sml_tree.specs.Derived.{expand_con, expand_bind}
use Rattle.sml_tree.specs.Bare.{at, bare_type_bind, bare_con, bare_data_bind, bare_ex_bind, bare_long}
use Rattle.sml_tree.specs.ReadTree.{Placed, TypeBind, ConBind, DataBind, ExBind}
use Rattle.sml_tree.specs.Grammar.{BeginsAt, at_tyvar, at_bracket, at_tycon, TyvarsPlace, at_declaration, at_sequence, OneTypeBind, type_bind, TypeBinds, last_type_bind, more_type_binds, ConBinds, last_con, more_cons, OneDataBind, data_bind, DataBinds, last_data_bind, more_data_binds, OneExBind, new_exception, same_exception, ExBinds, last_exn, more_exns, is_placed_strid, Strids, last_strid, more_strids}
use Rattle.mlb_reader.specs.Within.{TypeBindIn, ConIn, DataBindIn, ExBindIn, LongIn}
use Rattle.mlb_reader.proofs.WithinTerminals.{IsGood, AllGood, names-good, binds-good}
use Rattle.mlb_reader.proofs.WithinRests.{ty-rest, maybe_of-rest, tyvars-rest}

module _ (file : ℕ) (P : Place → Type 0) (N : ℕ → Type 0) where
  abbrev Good : List Terminal → Type 0
  Good = AllGood file P N

  tycon-place : {t : Terminal} {p x : ℕ} → IsTycon t p x → IsGood file P N t → P (at file p)
  tycon-place (alpha_tycon p x) g = g.0
  tycon-place (symbol_tycon p x) g = g.0

  pub long_tycon-place : {t : Terminal} {p : ℕ} {c : LongId} → IsLongTycon t p c → IsGood file P N t → P (at file p)
  long_tycon-place (short_tycon c) g = tycon-place c g
  long_tycon-place (long_alpha_tycon p qs x) g = g.0
  long_tycon-place (long_symbol_tycon p qs x) g = g.0

  long_strid-place : {t : Terminal} {p : ℕ} {x : LongId} → IsLongStrid t p x → IsGood file P N t → P (at file p)
  long_strid-place (short_strid p x) g = g.0
  long_strid-place (long_strid p qs x) g = g.0

  begins-place : {i : List Terminal} {p : ℕ} → BeginsAt i p → Good i → P (at file p)
  begins-place (at_tyvar p a) g = g.0.0
  begins-place (at_bracket p) g = g.0.0
  begins-place (at_tycon c) g = tycon-place c g.0

  pub tyvars-place : {p q : ℕ} {i : List Terminal} {as_ : List Tyvar} → TyvarsPlace p i as_ q → P (at file p) → AllGood file P N i → P (at file q)
  tyvars-place at_declaration h g = h
  tyvars-place (at_sequence b) h g = begins-place b g

  type_bind-good : {i o : List Terminal} {b : TypeBind} → OneTypeBind i b o → Good i → TypeBindIn P N (bare_type_bind file b) × Good o
  type_bind-good (type_bind r begins as_ c d) g = (begins-place begins g, ty-rest _ d (tyvars-rest _ as_ g).1.1)

  pub type_binds-good : {i o : List Terminal} {bs : List TypeBind} → TypeBinds i bs o → AllGood file P N i → AllByRecursion (TypeBindIn P N) (map (bare_type_bind file) bs) × AllGood file P N o
  type_binds-good (last_type_bind d) g = let h = type_bind-good d g in ((h.0, tt), h.1)
  type_binds-good (more_type_binds p d ds) g = let h = type_bind-good d g in let k = type_binds-good ds h.1.1 in ((h.0, k.0), k.1)

  cons-good : {f : Fixity} {i o : List Terminal} {cs : List ConBind} → ConBinds f i cs o → Good i → AllByRecursion (ConIn P N) (map (bare_con file) cs) × Good o
  cons-good (last_con v d) g = let h = binds-good file P N v g in ((h.own, tt), maybe_of-rest _ d h.rest)
  cons-good (more_cons q v d ds) g = let h = binds-good file P N v g in let k = cons-good ds (maybe_of-rest _ d h.rest).1 in ((h.own, k.0), k.1)

  data_bind-good : {f : Fixity} {i o : List Terminal} {b : DataBind} → OneDataBind f i b o → Good i → DataBindIn P N (bare_data_bind file b) × Good o
  data_bind-good (data_bind r begins as_ c d) g = let h = cons-good d (tyvars-rest _ as_ g).1.1 in ((begins-place begins g, h.0), h.1)

  pub data_binds-good : {f : Fixity} {i o : List Terminal} {bs : List DataBind} → DataBinds f i bs o → AllGood file P N i → AllByRecursion (DataBindIn P N) (map (bare_data_bind file) bs) × AllGood file P N o
  data_binds-good (last_data_bind d) g = let h = data_bind-good d g in ((h.0, tt), h.1)
  data_binds-good (more_data_binds p d ds) g = let h = data_bind-good d g in let k = data_binds-good ds h.1.1 in ((h.0, k.0), k.1)

  ex_bind-good : {f : Fixity} {i o : List Terminal} {b : ExBind} → OneExBind f i b o → Good i → ExBindIn P N (bare_ex_bind file b) × Good o
  ex_bind-good (new_exception v d) g = let h = binds-good file P N v g in (h.own, maybe_of-rest _ d h.rest)
  ex_bind-good (same_exception r v x) g = let h = binds-good file P N v g in let k = names-good file P N x h.rest.1 in ((h.own.0, h.own.1, k.own.0, k.own.1), k.rest)

  pub ex_binds-good : {f : Fixity} {i o : List Terminal} {bs : List ExBind} → ExBinds f i bs o → AllGood file P N i → AllByRecursion (ExBindIn P N) (map (bare_ex_bind file) bs) × AllGood file P N o
  ex_binds-good (last_exn d) g = let h = ex_bind-good d g in ((h.0, tt), h.1)
  ex_binds-good (more_exns p d ds) g = let h = ex_bind-good d g in let k = ex_binds-good ds h.1.1 in ((h.0, k.0), k.1)

  pub strids-good : {i o : List Terminal} {xs : List (Placed LongId)} → Strids i xs o → AllGood file P N i → AllByRecursion (LongIn P N) (map (bare_long file) xs) × AllGood file P N o
  strids-good (last_strid (is_placed_strid s)) g = ((long_strid-place s g.0, tt), g.1)
  strids-good (more_strids (is_placed_strid s) d) g = let k = strids-good d g.1 in ((long_strid-place s g.0, k.0), k.1)

  -- where abbreviations are written out
  cons-expanded : (bs : List bare.TypeBind) (cs : List bare.ConBind) → AllByRecursion (ConIn P N) cs → AllByRecursion (ConIn P N) (map (expand_con bs) cs)
  cons-expanded bs [] g = tt
  cons-expanded bs (c ∷ cs) g = (g.0, cons-expanded bs cs g.1)

  pub datas-expanded : (bs : List bare.TypeBind) (ds : List bare.DataBind) → AllByRecursion (DataBindIn P N) ds → AllByRecursion (DataBindIn P N) (map (expand_bind bs) ds)
  datas-expanded bs [] g = tt
  datas-expanded bs (d ∷ ds) g = ((g.0.0, cons-expanded bs d.cons g.0.1), datas-expanded bs ds g.1)
